use Rattle.std.proofs.Common.{◌≡◌, ◌∙◌, ap, arith, subst, sym}
use Rattle.std.specs.Prelude.{Option, None, Some, is_some}
use Rattle.std.proofs.lemmas.Bool.{true≢false}
use Rattle.qg_items.specs.declared.extent.Reference.TheVariants.{KeyedBlock}
use Rattle.qg_refs.specs.declared.kept.What.{What}
use Rattle.qg_refs.specs.Book.{Book, what_in}
use Rattle.qg_node_alloc.proofs.Telling.{none_of}
use Rattle.qg_weighed.specs.Table.{book_of}
use Rattle.qg_tree_backrefs.specs.declared.coming.Coming.{Coming}
use Rattle.qg_tree_backrefs.specs.Exchange.{Begins, IsNew}
use Rattle.qg_tree_backrefs.proofs.Gains.{count-none, nothing_known}
use Rattle.qg_tree_backrefs.proofs.ExchangeInSteps.{Begins-none, Begins-some, nothing-kept}
use Rattle.qg_tree_backrefs.proofs.coming.give_first.Goals as goal

pub returns-in_default-clause-done : goal.returns-in_default-clause-done
returns-in_default-clause-done c same =
    let book = book_of c.args.refs.now.refs in
    subst (λ (coming : Option Coming). Begins book book coming) (sym c.in_default.is) (Begins-none book)

pub returns-then-is_some-clause-proper : goal.returns-then-is_some-clause-proper
returns-then-is_some-clause-proper c first =
    let book = book_of c.args.refs.now.refs in
    let coming = c.in-Some.coming in
    let none : book coming.address ≡ None =
    nothing-kept book coming.address c.len-count.ensures.table.book
    (subst (λ (some : Option Coming). IsNew book some) c.in-Some.is first) in
    let absent : c.known.result ≡ None = c.known.ensures ∙ ap what_in none in
    absurd (true≢false (sym c.if-is_some.true ∙ c.is_some.ensures ∙ ap is_some absent))

pub add_one-requires : goal.add_one-requires
add_one-requires c =
    let book = book_of c.args.refs.now.refs in
    let coming = c.in-Some.coming in
    let absent = none_of c.known.result (sym c.is_some.ensures ∙ c.if-is_some.false) in
    let zero =
    count-none book coming.address (KeyedBlock coming.tree)
    (nothing_known (book coming.address) (sym c.known.ensures ∙ absent)) in
    omega (arith, zero)

pub returns-clause-done : goal.returns-clause-done
returns-clause-done c same =
    let book = book_of c.args.refs.now.refs in
    let after = book_of c.add_one.new.self.refs in
    let coming = c.in-Some.coming in
    let absent = none_of c.known.result (sym c.is_some.ensures ∙ c.if-is_some.false) in
    let none = nothing_known (book coming.address) (sym c.known.ensures ∙ absent) in
    subst (λ (some : Option Coming). Begins book after some) (sym c.in-Some.is)
    (Begins-some book after coming none c.in_ok-add_one.ensures.ok)
