use Rattle.std.proofs.Common.{◌≡◌, ◌<◌, ℕ, List, Some, ap, sym, subst, ◌∙◌, arith}
use Rattle.qg_items.specs.declared.extent.Reference.{Reference}
use Rattle.qg_refs.specs.Book.{Drops}
use Rattle.qg_delayed.specs.declared.entry.Entry.{Entry}
use Rattle.qg_delayed.specs.Entry.{HasAt, IsEntry, entry_at, with_one_less}
use Rattle.qg_delayed.specs.Merged.{Edits}
use Rattle.qg_delayed.proofs.Books.{drops_at, entries_put, found_there, lent_put, now_found}
use Rattle.qg_delayed.proofs.Entries.{entry_less, found_name, listed_own, some_total}
use Rattle.qg_delayed.proofs.delayed.Delayed.drop_one.Goals as goal
use Rattle.qg_delayed.proofs.delayed.Delayed.drop_one.Goals.{In-Some-get}

there : (c : In-Some-get) → entry_at c.self.inside.entries.entries c.args.at ≡ Some c.in-Some.entry.now
there c = found_there c.self.inside.entries c.value.result c.args.at (Some c.in-Some.entry.now) c.value.ensures
    c.in-Some.ensures.value

is_entry : (c : In-Some-get) → IsEntry c.in-Some.entry.now
is_entry c = c.self.invariant.each c.args.at c.in-Some.entry.now (there c)

some : (c : In-Some-get) → 0 < c.in-Some-get.change.now
some c =
    let now = now_found c.args.self.now c.args.at c.in-Some.entry.now c.args.reference.now c.in-Some-get.change
    (ap (λ (es : List (ℕ × Entry)). entry_at es c.args.at) (sym c.self.view_is) ∙ there c) (sym c.in-Some-get.ensures)
    in
    omega (arith, c.requires.there, now)

pub drop_one-requires-clause-listed : goal.drop_one-requires-clause-listed
drop_one-requires-clause-listed c =
    listed_own c.in-Some.entry.now.changes c.args.reference.now c.in-Some-get.change (sym c.in-Some-get.ensures)

pub drop_one-requires-clause-total : goal.drop_one-requires-clause-total
drop_one-requires-clause-total c =
    some_total c.in-Some.entry.now c.args.reference.now c.in-Some-get.change (is_entry c) (sym c.in-Some-get.ensures)
    (some c)

pub invariant_of-self : goal.invariant_of-self
invariant_of-self c =
    let m = c.self.inside.entries in
    let next = c.drop_one.new.self in
    let n = c.get_mut.follows.lender next in
    let entry = c.in-Some.entry.now in
    let change = c.in-Some-get.change in
    let found = sym c.in-Some-get.ensures in
    let at = found_there m c.value.result c.args.at (Some entry) c.value.ensures c.in-Some.ensures.value in
    let is = c.self.invariant.each c.args.at entry at in
    let now = now_found c.args.self.now c.args.at entry c.args.reference.now change
    (ap (λ (es : List (ℕ × Entry)). entry_at es c.args.at) (sym c.self.view_is) ∙ at) found in
    let some : 0 < change.now = omega (arith, c.requires.there, now) in
    entries_put m.entries n.entries c.args.at (with_one_less change entry) c.self.invariant
    (c.get_mut.follows.holds next).4
    (subst (λ (e : Entry). HasAt m.entries n.entries c.args.at e) c.drop_one.ensures
    (lent_put m n c.value.result c.args.at entry next c.value.ensures c.in-Some.ensures.value
    (c.get_mut.follows.holds next)))
    (entry_less change entry is (listed_own entry.changes c.args.reference.now change found) some
    (some_total entry c.args.reference.now change is found some))

pub returns : goal.returns
returns c =
    let m = c.self.inside.entries in
    let next = c.drop_one.new.self in
    let n = c.get_mut.follows.lender next in
    let entry = c.in-Some.entry.now in
    let change = c.in-Some-get.change in
    let found = sym c.in-Some-get.ensures in
    let at = found_there m c.value.result c.args.at (Some entry) c.value.ensures c.in-Some.ensures.value in
    let is = c.self.invariant.each c.args.at entry at in
    let now = now_found c.args.self.now c.args.at entry c.args.reference.now change
    (ap (λ (es : List (ℕ × Entry)). entry_at es c.args.at) (sym c.self.view_is) ∙ at) found in
    let some : 0 < change.now = omega (arith, c.requires.there, now) in
    let total = some_total entry c.args.reference.now change is found some in
    let listed = listed_own entry.changes c.args.reference.now change found in
    let has = subst (λ (e : Entry). HasAt m.entries n.entries c.args.at e) c.drop_one.ensures
    (lent_put m n c.value.result c.args.at entry next c.value.ensures c.in-Some.ensures.value
    (c.get_mut.follows.holds next)) in
    let made = drops_at m.entries n.entries c.args.at change entry is (entry_less change entry is listed some total)
    listed some total at has in
    subst (λ (es : List (ℕ × Entry)). Edits (λ a b. Drops a b c.args.at c.args.reference.now) es n.entries)
    c.self.view_is
    (subst (λ (r : Reference). Edits (λ a b. Drops a b c.args.at r) m.entries n.entries)
    (found_name entry.changes c.args.reference.now change found) made)
