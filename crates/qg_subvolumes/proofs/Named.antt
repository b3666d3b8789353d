-- With one subvolume more the present files name the same extents.
use Rattle.std.proofs.Common.{◌≡◌, ◌≢◌, ℕ, List, Option, Some, None, arith, refl, sym, ap, subst, ◌∙◌, inl, inr}
use Rattle.std.specs.Prelude.{◌↔◌}
use Rattle.std.specs.List.{Contains, flat_map}
use Rattle.std.specs.List.Sorted.{IsStrictlyIncreasing}
use Rattle.std.proofs.lemmas.Bool.Decides.{eqb_tells}
use Rattle.std.proofs.lemmas.Option.{same_Some}
use Rattle.qg_image.specs.Table.{keys_of, value_at, with_value}
use Rattle.qg_image.specs.declared.element.Element.{Element}
use Rattle.qg_image.specs.Space.{present_extents}
use Rattle.qg_image.specs.State.{State, Subvolume}
use Rattle.qg_files.proofs.Ascending.{Ascends-increasing, ascends-with_value, increasing-Ascends}
use Rattle.qg_owner_rule.proofs.Reaching.{entry_of_value, value_of_entry}
use Rattle.qg_reach.proofs.Layouts.{value_at-with_other, value_at-with_same}
use Rattle.qg_reach.proofs.Members.{contains_flat_map, one_flat_mapped}
use Rattle.qg_subvolumes.proofs.More.{OneMore, named_by, named_in}

present_is : (state : State) → present_extents state ≡ flat_map named_in state.subvolumes
unfolding present_extents
present_is state = refl

-- by number, where numbers ascend
module _ (table : List (ℕ × Subvolume)) (up : IsStrictlyIncreasing (keys_of table)) (run : Element) where
  by_number : Contains (flat_map named_in table) run
      → (n : ℕ) × (subvolume : Subvolume) × (value_at n table ≡ Some subvolume) × Contains (named_by subvolume) run
  by_number has =
      let found = one_flat_mapped named_in table run has in
      (found.0.0, found.0.1, value_of_entry table found.0 up found.1, found.2)

  of_number : (n : ℕ) (subvolume : Subvolume) → value_at n table ≡ Some subvolume → Contains (named_by subvolume) run
      → Contains (flat_map named_in table) run
  of_number n subvolume there has =
      contains_flat_map named_in table (n, subvolume) run (entry_of_value n subvolume table there) has

module _ (before after : State) (sub : ℕ) (more : OneMore before after sub) where
  abbrev all : List (ℕ × Subvolume)
  all = with_value sub more.made more.others

  up_all : IsStrictlyIncreasing (keys_of all)
  up_all =
      increasing-Ascends 0 all
      (ascends-with_value 0 sub more.made more.others (omega arith) (Ascends-increasing more.others more.numbers))

  -- numbers ascend still
  pub numbers-then : IsStrictlyIncreasing (keys_of after.subvolumes)
  numbers-then =
      subst (λ (table : List (ℕ × Subvolume)). IsStrictlyIncreasing (keys_of table)) (sym more.subvolumes) up_all

  apart : (n : ℕ) (subvolume : Subvolume) → value_at n more.others ≡ Some subvolume → sub ≢ n
  apart n subvolume there same =
      let wrong : ◌≡◌ {A = Option Subvolume} None (Some subvolume) =
      sym more.unused ∙ ap (λ (m : ℕ). value_at m more.others) same ∙ there in absurd cc

  -- what one of all names was named
  named_before : (run : Element) → Contains (flat_map named_in all) run
      → Contains (flat_map named_in before.subvolumes) run
  named_before run has =
      let found = by_number all up_all run has in
      elim (eqb_tells sub found.0) [
        | inl (equal, same) ↦
            let value = same_Some more.made found.1
            (sym (value_at-with_same sub more.made more.others) ∙ ap (λ (n : ℕ). value_at n all) same ∙ found.2) in
            more.named run (subst (λ (s : Subvolume). Contains (named_by s) run) (sym value) found.3)
        | inr (unequal, differ) ↦
            let there = sym (value_at-with_other sub found.0 more.made more.others differ) ∙ found.2 in
            subst (λ (list : List Element). Contains list run) more.names
            (of_number more.others more.numbers run found.0 found.1 there found.3)
      ]

  -- and what was named is
  named_after : (run : Element) → Contains (flat_map named_in before.subvolumes) run
      → Contains (flat_map named_in all) run
  named_after run has =
      let found = by_number more.others more.numbers run
      (subst (λ (list : List Element). Contains list run) (sym more.names) has) in
      let differ = apart found.0 found.1 found.2 in
      of_number all up_all run found.0 found.1
      (value_at-with_other sub found.0 more.made more.others differ ∙ found.2) found.3

  present_after : present_extents after ≡ flat_map named_in all
  present_after = present_is after ∙ ap (λ (table : List (ℕ × Subvolume)). flat_map named_in table) more.subvolumes

  pub extents-then : (run : Element) → Contains (present_extents after) run ↔ Contains (present_extents before) run
  extents-then run = (
    λ has. subst (λ (list : List Element). Contains list run) (sym (present_is before))
        (named_before run (subst (λ (list : List Element). Contains list run) present_after has)),
    λ has. subst (λ (list : List Element). Contains list run) (sym present_after)
        (named_after run (subst (λ (list : List Element). Contains list run) (present_is before) has)),
  )
