use Rattle.std.proofs.Common.{refl, ap, ◌∙◌}
use Rattle.qg_extents.specs.Table.{book_of}
use Rattle.qg_tree_backrefs.specs.declared.tree_refs.TreeRefs.{TreeRefs}
use Rattle.qg_tree_backrefs.proofs.Gains.{CanGive-one, Gives-more, Gives-none}
use Rattle.qg_subvolumes.proofs.Given.{unbroken-handed}
use Rattle.qg_num.specs.declared.rule.Rule.TheVariants.{Refs}
use Rattle.qg_blocks.proofs.Stopping.{rule-err}
use Rattle.qg_subvolumes.proofs.sharing.give_all.Goals as goal

pub loop-owing-init : goal.loop-owing-init
loop-owing-init c = record { given = Gives-none (book_of c.args.book.now.refs); others = refl }

pub returns-in_err-give-clause-proper : goal.returns-in_err-give-clause-proper
returns-in_err-give-clause-proper c can =
    let one = CanGive-one (book_of c.args.book.now.refs) (book_of c.loop-owing.book.refs) (book_of c.give.new.book.refs)
    c.args.owings.now c.loop-owing.owing-index c.owing-item.result c.loop-owing-test.true c.owing-item.is can
    c.loop-owing.invariant.given in
    unbroken-handed c.from_residual.result _ c.from_residual.ensures.1 (c.in_err-give.ensures.proper one)

pub loop-owing-preserved : goal.loop-owing-preserved
loop-owing-preserved c =
    let met = c.loop-owing.invariant in
    record {
      given = Gives-more (book_of c.args.book.now.refs) (book_of c.loop-owing.book.refs) (book_of c.give.new.book.refs)
          c.args.owings.now c.loop-owing.owing-index c.owing-item.result c.loop-owing-test.true c.owing-item.is
          met.given c.in_ok-give.ensures.given;
      others = c.give.ensures.others
          ∙ ap (λ (book : TreeRefs). record book { refs = c.give.new.book.refs }) met.others;
    }

pub returns-in_err-give-clause-refs : goal.returns-in_err-give-clause-refs
returns-in_err-give-clause-refs c =
    rule-err (Unit {0}) c.from_residual.result c.in_err-give.field-0.0 Refs c.from_residual.ensures.1
    c.in_err-give.ensures.refs
