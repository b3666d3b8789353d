use Rattle.std.proofs.Common.{true, ℕ, List, Some, ap, sym, subst, ◌∙◌, arith}
use Rattle.qg_refs.specs.Book.{Marks}
use Rattle.qg_delayed.specs.declared.entry.Entry.{Entry}
use Rattle.qg_delayed.specs.Entry.{HasAt, entry_at}
use Rattle.qg_delayed.specs.Merged.{Edits}
use Rattle.qg_delayed.proofs.Books.{entries_put, found_there, lent_put, marks_at, total_found}
use Rattle.qg_delayed.proofs.Entries.{entry_marked}
use Rattle.qg_delayed.proofs.delayed.Delayed.set_full.Goals as goal

pub invariant_of-self : goal.invariant_of-self
invariant_of-self c =
    let m = c.self.inside.entries in
    let next = c.mark.new.self in
    let n = c.get_mut.follows.lender next in
    let entry = c.in-Some.entry.now in
    let at = found_there m c.value.result c.args.at (Some entry) c.value.ensures c.in-Some.ensures.value in
    let total = total_found c.args.self.now c.args.at entry
    (ap (λ (es : List (ℕ × Entry)). entry_at es c.args.at) (sym c.self.view_is) ∙ at) in
    entries_put m.entries n.entries c.args.at (record entry { full = true }) c.self.invariant
    (c.get_mut.follows.holds next).4
    (subst (λ (e : Entry). HasAt m.entries n.entries c.args.at e) c.mark.ensures
    (lent_put m n c.value.result c.args.at entry next c.value.ensures c.in-Some.ensures.value
    (c.get_mut.follows.holds next)))
    (entry_marked entry (c.self.invariant.each c.args.at entry at) (omega (arith, c.requires.there, total)))

pub returns : goal.returns
returns c =
    let m = c.self.inside.entries in
    let next = c.mark.new.self in
    let n = c.get_mut.follows.lender next in
    let entry = c.in-Some.entry.now in
    let at = found_there m c.value.result c.args.at (Some entry) c.value.ensures c.in-Some.ensures.value in
    let total = total_found c.args.self.now c.args.at entry
    (ap (λ (es : List (ℕ × Entry)). entry_at es c.args.at) (sym c.self.view_is) ∙ at) in
    let has = subst (λ (e : Entry). HasAt m.entries n.entries c.args.at e) c.mark.ensures
    (lent_put m n c.value.result c.args.at entry next c.value.ensures c.in-Some.ensures.value
    (c.get_mut.follows.holds next)) in
    subst (λ (es : List (ℕ × Entry)). Edits (λ a b. Marks a b c.args.at) es n.entries) c.self.view_is
    (marks_at m.entries n.entries c.args.at entry (omega (arith, c.requires.there, total)) at has)
