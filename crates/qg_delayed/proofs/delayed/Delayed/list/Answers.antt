use Rattle.std.proofs.Common.{◌≡◌, ◌≤◌, ℕ, List, None, Some, refl, ap, sym, subst, ◌∙◌, arith}
use Rattle.qg_delayed.specs.declared.entry.Entry.{Entry}
use Rattle.qg_delayed.specs.Changes.{change_of}
use Rattle.qg_delayed.specs.Entry.{AreEntries, HasAt, entry_at, with_listed}
use Rattle.qg_delayed.specs.Merged.{change_in}
use Rattle.qg_delayed.proofs.Books.{entries_put, found_there, lent_put, lent_same, on_err}
use Rattle.qg_delayed.proofs.Learning.{entry_listed}
use Rattle.qg_delayed.proofs.delayed.Delayed.list.Goals as goal

pub invariant_of-self : goal.invariant_of-self
invariant_of-self c =
    let m = c.self.inside.entries in
    let entry = c.in-Some.entry.now in
    subst AreEntries (sym (lent_same m (c.get_mut.follows.lender entry) c.value.result entry entry
    c.in-Some.ensures.value refl (c.get_mut.follows.holds entry))) c.self.invariant

pub returns-then-count-entry-clause-err : goal.returns-then-count-entry-clause-err
returns-then-count-entry-clause-err c =
    let entry = c.in-Some.entry.now in
    lent_same c.self.inside.entries (c.get_mut.follows.lender entry) c.value.result entry entry
    c.in-Some.ensures.value refl (c.get_mut.follows.holds entry) ∙ c.self.view_is

pub invariant_of-self-in_err-list : goal.invariant_of-self-in_err-list
invariant_of-self-in_err-list c =
    let m = c.self.inside.entries in
    let next = c.list.new.self in
    subst AreEntries (sym (lent_same m (c.get_mut.follows.lender next) c.value.result c.in-Some.entry.now next
    c.in-Some.ensures.value c.in_err-list.ensures.err (c.get_mut.follows.holds next))) c.self.invariant

pub returns-in_err-list-clause-err : goal.returns-in_err-list-clause-err
returns-in_err-list-clause-err c =
    let next = c.list.new.self in
    on_err _ c.from_residual.result
    (lent_same c.self.inside.entries (c.get_mut.follows.lender next) c.value.result c.in-Some.entry.now next
    c.in-Some.ensures.value c.in_err-list.ensures.err (c.get_mut.follows.holds next) ∙ c.self.view_is)

pub invariant_of-self-2 : goal.invariant_of-self-2
invariant_of-self-2 c =
    let m = c.self.inside.entries in
    let next = c.list.new.self in
    let n = c.get_mut.follows.lender next in
    let entry = c.in-Some.entry.now in
    let at = found_there m c.value.result c.args.at (Some entry) c.value.ensures c.in-Some.ensures.value in
    let seen : entry_at c.args.self.now c.args.at ≡ Some entry =
    ap (λ (es : List (ℕ × Entry)). entry_at es c.args.at) (sym c.self.view_is) ∙ at in
    let none : change_of c.args.reference entry.changes ≡ None =
    sym (ap (change_in c.args.reference) seen) ∙ c.requires.new in
    let within : c.args.count ≤ entry.others = omega (arith, c.if-count-entry.false) in
    entries_put m.entries n.entries c.args.at (with_listed c.args.reference c.args.count entry) c.self.invariant
    (c.get_mut.follows.holds next).4
    (subst (λ (e : Entry). HasAt m.entries n.entries c.args.at e) c.in_ok-list.ensures.ok
    (lent_put m n c.value.result c.args.at entry next c.value.ensures c.in-Some.ensures.value
    (c.get_mut.follows.holds next)))
    (entry_listed c.args.reference c.args.count entry (c.self.invariant.each c.args.at entry at) none within)

pub returns-clause-listed : goal.returns-clause-listed
returns-clause-listed c =
    let m = c.self.inside.entries in
    let next = c.list.new.self in
    let n = c.get_mut.follows.lender next in
    let entry = c.in-Some.entry.now in
    let at = found_there m c.value.result c.args.at (Some entry) c.value.ensures c.in-Some.ensures.value in
    let seen : entry_at c.args.self.now c.args.at ≡ Some entry =
    ap (λ (es : List (ℕ × Entry)). entry_at es c.args.at) (sym c.self.view_is) ∙ at in
    let none : change_of c.args.reference entry.changes ≡ None =
    sym (ap (change_in c.args.reference) seen) ∙ c.requires.new in
    let within : c.args.count ≤ entry.others = omega (arith, c.if-count-entry.false) in
    let is = c.self.invariant.each c.args.at entry at in
    record {
      entry = entry;
      there = seen;
      new_there = none;
      listed = subst
          (λ (es : List (ℕ × Entry)). HasAt es n.entries c.args.at
          (with_listed c.args.reference c.args.count entry)) c.self.view_is
          (subst (λ (e : Entry). HasAt m.entries n.entries c.args.at e) c.in_ok-list.ensures.ok
          (lent_put m n c.value.result c.args.at entry next c.value.ensures c.in-Some.ensures.value
          (c.get_mut.follows.holds next)));
      sound = is;
      within = within;
      after = entry_listed c.args.reference c.args.count entry is none within;
    }
