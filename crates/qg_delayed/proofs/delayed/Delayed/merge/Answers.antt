use Rattle.std.proofs.Common.{◌≡◌, ℕ, List, None, Some, ap, sym, ◌∙◌}
use Rattle.std.specs.Option.{option_copied}
use Rattle.std.proofs.lemmas.Result.{IfOk-weaker}
use Rattle.qg_refs.specs.declared.counted.Counted.{Counted}
use Rattle.qg_refs.specs.Book.{references_at, references_in}
use Rattle.qg_delayed.specs.declared.entry.Entry.{Entry}
use Rattle.qg_delayed.specs.Entry.{entry_at}
use Rattle.qg_delayed.specs.Merged.{merged, merged_in, with_changes}
use Rattle.qg_delayed.proofs.Books.{found_there, merged_here}
use Rattle.qg_delayed.proofs.Entries.{list_now, merged_list}
use Rattle.qg_delayed.proofs.delayed.Delayed.merge.Goals as goal

pub returns-in-Some : goal.returns-in-Some
returns-in-Some c book is fits =
    let at = c.args.at in
    let es = c.args.self.now in
    let entry = c.in-Some.entry.now in
    let there = found_there c.self.inside.entries c.value.result at (Some entry) c.value.ensures c.in-Some.ensures.value
    in
    let seen : entry_at es at ≡ Some entry = ap (λ (now : List (ℕ × Entry)). entry_at now at) (sym c.self.view_is)
    ∙ there in
    let made : references_at (merged book es) at ≡ list_now (book at) entry =
    ap references_in (merged_here book es at entry seen)
    ∙ merged_list (book at) entry (c.self.invariant.each at entry there) (fits.book.sound at) (fits.each at entry seen)
    in
    IfOk-weaker c.with_changes.result _ _
    (λ list h. h ∙ ap (λ (xs : List Counted). with_changes entry.changes xs) (c.as_slice.ensures.same ∙ is) ∙ sym made)
    c.with_changes.ensures

pub returns-in-None : goal.returns-in-None
returns-in-None c book is fits =
    let at = c.args.at in
    let none : entry_at c.args.self.now at ≡ None =
    ap (λ (now : List (ℕ × Entry)). entry_at now at) (sym c.self.view_is)
    ∙ found_there c.self.inside.entries c.value.result at None c.value.ensures
    (sym (ap option_copied c.in-None.is) ∙ c.get.ensures.value) in
    is ∙ sym (ap references_in (ap (merged_in (book at)) none))
