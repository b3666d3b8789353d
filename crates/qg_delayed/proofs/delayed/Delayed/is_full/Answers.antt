use Rattle.std.proofs.Common.{◌≡◌, ℕ, List, Option, None, Some, refl, ap, sym, ◌∙◌}
use Rattle.std.specs.Option.{option_copied}
use Rattle.std.proofs.lemmas.Result.{IfOk-weaker}
use Rattle.qg_refs.specs.Book.{full_in}
use Rattle.qg_delayed.specs.declared.entry.Entry.{Entry}
use Rattle.qg_delayed.specs.Entry.{entry_at}
use Rattle.qg_delayed.specs.Merged.{merged_in}
use Rattle.qg_delayed.proofs.Books.{found_there}
use Rattle.qg_delayed.proofs.Entries.{merged_full}
use Rattle.qg_delayed.proofs.Learning.{nothing_known}
use Rattle.qg_delayed.proofs.delayed.Delayed.is_full.Goals as goal

pub returns-in-Some-clause-exact : goal.returns-in-Some-clause-exact
returns-in-Some-clause-exact g c below holds fits =
    let at = c.args.at in
    let entry = c.in-Some.entry.now in
    let there = found_there c.self.inside.entries c.value.result at (Some entry) c.value.ensures c.in-Some.ensures.value
    in
    let seen : entry_at c.args.self.now at ≡ Some entry =
    ap (λ (now : List (ℕ × Entry)). entry_at now at) (sym c.self.view_is) ∙ there in
    sym (ap (λ (o : Option Entry). full_in (merged_in (below at) o)) seen
    ∙ merged_full (below at) entry (c.self.invariant.each at entry there))

pub returns-in-Some-clause-once : goal.returns-in-Some-clause-once
returns-in-Some-clause-once g c known =
    record { answered = refl; kept = refl; read = record { lent = refl; rests = refl; unread = refl } }

pub returns-in-None-clause-exact : goal.returns-in-None-clause-exact
returns-in-None-clause-exact g c below holds fits =
    let at = c.args.at in
    let none : entry_at c.args.self.now at ≡ None =
    ap (λ (now : List (ℕ × Entry)). entry_at now at) (sym c.self.view_is)
    ∙ found_there c.self.inside.entries c.value.result at None c.value.ensures
    (sym (ap option_copied c.in-None.is) ∙ c.get.ensures.value) in
    IfOk-weaker c.is_full.result _ _
    (λ full h. h ∙ sym (ap (λ (o : Option Entry). full_in (merged_in (below at) o)) none))
    (c.is_full.ensures.exact below holds)

pub returns-in-None-clause-once : goal.returns-in-None-clause-once
returns-in-None-clause-once g c known =
    let at = c.args.at in
    let none : entry_at c.args.self.now at ≡ None =
    ap (λ (now : List (ℕ × Entry)). entry_at now at) (sym c.self.view_is)
    ∙ found_there c.self.inside.entries c.value.result at None c.value.ensures
    (sym (ap option_copied c.in-None.is) ∙ c.get.ensures.value) in
    absurd (nothing_known (entry_at c.args.self.now at) none known)
