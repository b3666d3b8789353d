use Rattle.std.proofs.Common.{ℕ, List, get_or, sym, ap, subst, ◌∙◌}
use Rattle.std.specs.Prelude.{slice_get, slice_set}
use Rattle.std.specs.List.Sorted.{IsStrictlySortedBy}
use Rattle.std.specs.Ordering.{nat_cmp}
use Rattle.qg_num.specs.declared.counters.Counters.{Counters}
use Rattle.qg_image.specs.Members.{is_member}
use Rattle.qg_image.specs.Table.{keys_of}
use Rattle.qg_account.specs.Moves.{CanMove, moved}
use Rattle.qg_account.proofs.MovedGroups.{counters-at, counters-one, set-at}
use Rattle.qg_account.proofs.updating.update_group.Goals as goal

pub returns-clause-moved : goal.returns-clause-moved
returns-clause-moved c =
    let counters = c.args.counters.now in
    let shown = c.as_slice-2.result.now in
    let place = c.place_of-place.result in
    let one = get_or shown place c.index-as_slice-place.result in
    let up = subst (IsStrictlySortedBy nat_cmp) (sym c.requires.groups) c.requires.sound.groups in
    c.set.ensures
    ∙ ap (λ (after : Counters). slice_set counters place (c.args.group, after)) c.in_ok-after.ensures.moved
    ∙ set-at c.args.group place (moved (is_member c.args.hierarchy.now c.args.group)
    (record { bytes = c.args.bytes; before = c.args.before.now; now = c.args.now.now })) counters one.1 up
    (counters-at counters place c.args.group one
    (ap (λ (xs : List (ℕ × Counters)). slice_get (keys_of xs) place) (sym c.as_slice.ensures)
    ∙ c.place_of-place.ensures)
    (ap (λ (x : ℕ × Counters). get_or shown place x) c.index-as_slice-place.is
    ∙ ap (λ (xs : List (ℕ × Counters)). get_or xs place one) c.as_slice-2.ensures))

pub returns-clause-taken : goal.returns-clause-taken
returns-clause-taken c = λ kept has.
    let counters = c.args.counters.now in
    let shown = c.as_slice-2.result.now in
    let place = c.place_of-place.result in
    let one = get_or shown place c.index-as_slice-place.result in
    let up = subst (IsStrictlySortedBy nat_cmp) (sym c.requires.groups) c.requires.sound.groups in
    subst (λ (there : Counters). CanMove (is_member c.args.hierarchy.now c.args.group)
    (record { bytes = c.args.bytes; before = c.args.before.now; now = c.args.now.now }) there)
    (counters-one counters place c.args.group one.1 kept up
    (counters-at counters place c.args.group one
    (ap (λ (xs : List (ℕ × Counters)). slice_get (keys_of xs) place) (sym c.as_slice.ensures)
    ∙ c.place_of-place.ensures)
    (ap (λ (x : ℕ × Counters). get_or shown place x) c.index-as_slice-place.is
    ∙ ap (λ (xs : List (ℕ × Counters)). get_or xs place one) c.as_slice-2.ensures)) has)
    c.in_ok-after.ensures.taken
