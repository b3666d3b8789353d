use Rattle.std.proofs.Common.{◌≡◌, take}
use Rattle.std.specs.Prelude.{None}
use Rattle.qg_weighed.specs.Table.{book_of}
use Rattle.qg_backref_rule.specs.OwedLists.{owings_told}
use Rattle.qg_tree_backrefs.specs.Exchange.{CanGive, Gives}
use Rattle.qg_tree_backrefs.proofs.giving.give_all.Given as goal

abbrev pub invariant-loop-owing : goal.invariant-loop-owing
invariant-loop-owing l = record {
  done : l.misfit ≡ None → Gives (book_of l.initial.refs.refs) (book_of l.refs.refs)
      (owings_told (take l.owing-index l.owings));
  proper : CanGive (book_of l.initial.refs.refs) (owings_told l.owings) → l.misfit ≡ None;
  held : l.refs.held ≡ l.initial.refs.held;
}
