-- What is free of the trees' space is free of the state that they are kept of.
use Rattle.std.proofs.Common.{◌≡◌, ℕ, Bool, true, false, List, [], ◌∷◌, ◌++◌, Option, Some, refl, sym, ap, ◌∙◌, inl}
use Rattle.std.proofs.Common.{inr}
use Rattle.std.specs.Prelude.{◌==◌, ◌&&◌, ◌||◌, not, is_some}
use Rattle.std.specs.List.{count_by, list_any, range_with_len}
use Rattle.std.proofs.lemmas.Bool.{cases_Bool, cond-false, cond-true}
use Rattle.std.proofs.lemmas.List.Folds.{list_any-append}
use Rattle.std.specs.Prelude.{map}
use Rattle.qg_device.specs.History.{History}
use Rattle.qg_super.specs.Places.{is_slot, slot_at}
use Rattle.qg_image.specs.declared.file.File.{File}
use Rattle.qg_image.specs.Table.{has_key, keys_of, value_at}
use Rattle.qg_image.specs.State.{State, Subvolume}
use Rattle.qg_space.specs.Holding.{Holding, free_slots, is_free_slot}
use Rattle.qg_space.proofs.Agreements.{first_run-state, free_slots-state, is_free_run-state, is_free_slot-state}
use Rattle.qg_file_edits.specs.Types.{FsTree}
use Rattle.qg_fs_laws.specs.Keeping.{IsKept, KeepsState, TellsSpace}
use Rattle.qg_fs_laws.proofs.Kept.{taken-told}
use Rattle.qg_fs_laws.proofs.Runs.{holding-told}

key_listed : {A : Type 0} (n : ℕ) (entries : List (ℕ × A))
    → has_key n entries ≡ list_any (λ slot. slot == n) (keys_of entries)
key_listed n [] = refl
key_listed {A} n (entry ∷ entries) = elim (cases_Bool (entry.0 == n)) [
  | inl is ↦
      ap (λ (o : Option A). is_some o) (cond-true (entry.0 == n) (Some entry.1) (value_at n entries) is)
      ∙ sym (ap (λ b. b || list_any (λ slot. slot == n) (keys_of entries)) is)
  | inr differs ↦
      ap (λ (o : Option A). is_some o) (cond-false (entry.0 == n) (Some entry.1) (value_at n entries) differs)
      ∙ key_listed n entries ∙ sym (ap (λ b. b || list_any (λ slot. slot == n) (keys_of entries)) differs)
]

free_alike : (slot : Bool) (xs ys held : List ℕ) (at : ℕ)
    → (slot ≡ true → list_any (λ s. s == at) xs ≡ list_any (λ s. s == at) ys)
    → (slot && not (list_any (λ s. s == at) (xs ++ held))) ≡ (slot && not (list_any (λ s. s == at) (ys ++ held)))
free_alike true xs ys held at same =
    ap not
    (list_any-append (λ (s : ℕ). s == at) xs held
    ∙ ap (λ b. b || list_any (λ s. s == at) held) (same refl)
    ∙ sym (list_any-append (λ (s : ℕ). s == at) ys held))
free_alike false xs ys held at same = refl

module _ (fs : FsTree) (history : History) (bytes : ℕ) (state : State) (mine : Subvolume)
    (files : List (ℕ × File)) (kept : IsKept fs history bytes) (keeps : KeepsState fs history state mine files) where
  abbrev laid_slots : Holding
  laid_slots = record fs.land.space { slots = keys_of state.layout }

  slot_alike : (at : ℕ) → is_free_slot fs.land.space at ≡ is_free_slot laid_slots at
  unfolding is_free_slot
  slot_alike at =
      free_alike (is_slot fs.land.space.sizes at) fs.land.space.slots (keys_of state.layout) fs.land.space.held_slots at
      (λ is. taken-told fs history bytes state mine files kept keeps at is ∙ key_listed at state.layout)

  slots_alike : free_slots fs.land.space ≡ free_slots laid_slots
  unfolding free_slots
  slots_alike =
      ap (λ (test : ℕ → Bool). count_by test
      (map (slot_at fs.land.space.sizes) (range_with_len 0 fs.land.space.sizes.slots)))
      (λ i. λ at. slot_alike at i)

  pub space-told : TellsSpace state fs.land.space
  space-told =
      let holds = holding-told fs history bytes state mine files kept keeps in
      record {
        slot = λ at. slot_alike at ∙ is_free_slot-state laid_slots state at holds;
        slots = slots_alike ∙ free_slots-state laid_slots state holds;
        run = λ at bytes. is_free_run-state laid_slots state at bytes holds;
        first = λ bytes. first_run-state laid_slots state bytes holds;
        taken = taken-told fs history bytes state mine files kept keeps;
      }
