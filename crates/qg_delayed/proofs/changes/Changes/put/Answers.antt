use Rattle.std.proofs.Common.{◌≡◌, ◌≤◌, List, length, None, ap, sym, subst, ◌∙◌}
use Rattle.qg_delayed.specs.declared.change.Change.{Change}
use Rattle.qg_delayed.specs.Changes.{ChangesAscend, change_of, with_change}
use Rattle.qg_delayed.proofs.Listing.{IsPlace, insert_with, other_there, with_ascends}
use Rattle.qg_delayed.proofs.changes.Changes.put.Goals as goal
use Rattle.qg_delayed.proofs.changes.Changes.put.Goals.{In_ok-insert}

is_with : (c : In_ok-insert) → c.insert.new.self.items ≡ with_change c.args.change c.self.inside.list.items
is_with c =
    let xs = c.self.inside.list.items in
    let i = c.place_of-index.result in
    let change = c.args.change in
    let none : change_of change.reference xs ≡ None = ap (change_of change.reference) c.self.view_is ∙ c.requires in
    c.in_ok-insert.ensures.items
    ∙ insert_with xs i change
    (subst (λ (ws : List Change). i ≤ length ws) c.deref.ensures.value c.place_of-index.ensures.bound)
    (subst (λ (ws : List Change). IsPlace change.reference ws i) c.deref.ensures.value c.place_of-index.ensures.point)
    (other_there change.reference xs i c.self.invariant none)

pub invariant_of-self-2 : goal.invariant_of-self-2
invariant_of-self-2 c =
    subst ChangesAscend (sym (is_with c)) (with_ascends c.args.change c.self.inside.list.items c.self.invariant)

pub returns-clause-ok : goal.returns-clause-ok
returns-clause-ok c = is_with c ∙ ap (λ (ws : List Change). with_change c.args.change ws) c.self.view_is
