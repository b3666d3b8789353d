use Rattle.std.proofs.Common.{◌≡◌, ◌<◌, ℕ, List, Some, ap, sym, subst, ◌∙◌, arith}
use Rattle.qg_items.specs.declared.extent.Reference.{Reference}
use Rattle.qg_refs.specs.Book.{Adds}
use Rattle.qg_refs.specs.Counts.{greatest_count}
use Rattle.qg_delayed.specs.declared.entry.Entry.{Entry}
use Rattle.qg_delayed.specs.Changes.{change_of}
use Rattle.qg_delayed.specs.Entry.{AreEntries, HasAt, IsEntry, entry_at, with_one_more}
use Rattle.qg_delayed.specs.Merged.{Edits}
use Rattle.qg_delayed.proofs.Books.{adds_at, entries_put, found_there, lent_put, lent_same, now_found, on_err}
use Rattle.qg_delayed.proofs.Entries.{entry_more, found_name, listed_own}
use Rattle.qg_delayed.proofs.delayed.Delayed.add.Goals as goal
use Rattle.qg_delayed.proofs.delayed.Delayed.add.Goals.{In_ok-add_one, In-Some-get}

listed : (c : In-Some-get) → change_of c.in-Some-get.change.reference c.in-Some.entry.now.changes
    ≡ Some c.in-Some-get.change
listed c = listed_own c.in-Some.entry.now.changes c.args.reference c.in-Some-get.change (sym c.in-Some-get.ensures)

name : (c : In-Some-get) → c.in-Some-get.change.reference ≡ c.args.reference
name c = found_name c.in-Some.entry.now.changes c.args.reference c.in-Some-get.change (sym c.in-Some-get.ensures)

there : (c : In-Some-get) → entry_at c.self.inside.entries.entries c.args.at ≡ Some c.in-Some.entry.now
there c = found_there c.self.inside.entries c.value.result c.args.at (Some c.in-Some.entry.now) c.value.ensures
    c.in-Some.ensures.value

room : (c : In-Some-get) → c.in-Some-get.change.now < greatest_count c.in-Some-get.change.reference
room c =
    let now = now_found c.args.self.now c.args.at c.in-Some.entry.now c.args.reference c.in-Some-get.change
    (ap (λ (es : List (ℕ × Entry)). entry_at es c.args.at) (sym c.self.view_is) ∙ there c) (sym c.in-Some-get.ensures)
    in
    omega (arith, c.requires.room, now, ap greatest_count (name c))

pub add_one-requires-clause-listed : goal.add_one-requires-clause-listed
add_one-requires-clause-listed c = listed c

pub add_one-requires-clause-room : goal.add_one-requires-clause-room
add_one-requires-clause-room c = room c

pub invariant_of-self : goal.invariant_of-self
invariant_of-self c =
    let m = c.self.inside.entries in
    let next = c.add_one.new.self in
    subst AreEntries (sym (lent_same m (c.get_mut.follows.lender next) c.value.result c.in-Some.entry.now next
    c.in-Some.ensures.value c.in_err-add_one.ensures.err (c.get_mut.follows.holds next))) c.self.invariant

pub returns-in_err-add_one-clause-err : goal.returns-in_err-add_one-clause-err
returns-in_err-add_one-clause-err c =
    let next = c.add_one.new.self in
    on_err _ c.from_residual.result
    (lent_same c.self.inside.entries (c.get_mut.follows.lender next) c.value.result c.in-Some.entry.now next
    c.in-Some.ensures.value c.in_err-add_one.ensures.err (c.get_mut.follows.holds next) ∙ c.self.view_is)

has : (c : In_ok-add_one)
    → HasAt c.self.inside.entries.entries (c.get_mut.follows.lender c.add_one.new.self).entries c.args.at
    (with_one_more c.args.what c.in-Some-get.change c.in-Some.entry.now)
has c =
    let m = c.self.inside.entries in
    let next = c.add_one.new.self in
    let n = c.get_mut.follows.lender next in
    subst (λ (e : Entry). HasAt m.entries n.entries c.args.at e) c.in_ok-add_one.ensures.ok
    (lent_put m n c.value.result c.args.at c.in-Some.entry.now next c.value.ensures c.in-Some.ensures.value
    (c.get_mut.follows.holds next))

is_entry : (c : In_ok-add_one) → IsEntry c.in-Some.entry.now
is_entry c = c.self.invariant.each c.args.at c.in-Some.entry.now
    (found_there c.self.inside.entries c.value.result c.args.at (Some c.in-Some.entry.now) c.value.ensures
    c.in-Some.ensures.value)

is_next : (c : In_ok-add_one) → IsEntry (with_one_more c.args.what c.in-Some-get.change c.in-Some.entry.now)
is_next c =
    let entry = c.in-Some.entry.now in
    let change = c.in-Some-get.change in
    let found = sym c.in-Some-get.ensures in
    let at = found_there c.self.inside.entries c.value.result c.args.at (Some entry) c.value.ensures
    c.in-Some.ensures.value in
    let now = now_found c.args.self.now c.args.at entry c.args.reference change
    (ap (λ (es : List (ℕ × Entry)). entry_at es c.args.at) (sym c.self.view_is) ∙ at) found in
    entry_more c.args.what change entry (is_entry c) (listed_own entry.changes c.args.reference change found)
    (omega (arith, c.requires.room, now, ap greatest_count (found_name entry.changes c.args.reference change found)))

pub invariant_of-self-2 : goal.invariant_of-self-2
invariant_of-self-2 c =
    let next = c.add_one.new.self in
    entries_put c.self.inside.entries.entries (c.get_mut.follows.lender next).entries c.args.at
    (with_one_more c.args.what c.in-Some-get.change c.in-Some.entry.now) c.self.invariant
    (c.get_mut.follows.holds next).4 (has c) (is_next c)

pub returns-clause-ok : goal.returns-clause-ok
returns-clause-ok c =
    let m = c.self.inside.entries in
    let n = c.get_mut.follows.lender c.add_one.new.self in
    let entry = c.in-Some.entry.now in
    let change = c.in-Some-get.change in
    let found = sym c.in-Some-get.ensures in
    let made = adds_at m.entries n.entries c.args.at c.args.what change entry (is_entry c) (is_next c)
    (listed_own entry.changes c.args.reference change found)
    (found_there m c.value.result c.args.at (Some entry) c.value.ensures c.in-Some.ensures.value) (has c) in
    subst (λ (es : List (ℕ × Entry)). Edits (λ a b. Adds a b c.args.at c.args.what c.args.reference) es n.entries)
    c.self.view_is
    (subst (λ (r : Reference). Edits (λ a b. Adds a b c.args.at c.args.what r) m.entries n.entries)
    (found_name entry.changes c.args.reference change found) made)
