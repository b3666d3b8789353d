-- The slots of a plan are free, and enough. Addresses are in bytes.
use Rattle.std.proofs.Common.{◌≡◌, ℕ, ◌≤◌, List, get_or, length, true, ap, subst, arith}
use Rattle.std.specs.Prelude.{◌==◌, All, IsTrue, min}
use Rattle.std.specs.List.{IsDistinct, list_all}
use Rattle.std.proofs.lemmas.List.Sums.{AllPass-from_list_all}
use Rattle.qg_super.specs.declared.sizes.Sizes.{Sizes}
use Rattle.qg_super.specs.Places.{is_slot}
use Rattle.qg_super.specs.SuperText.{sizes_of}
use Rattle.qg_super.proofs.Served.{SizesFit-is_served, SuperFits-is_super}
use Rattle.qg_space.specs.Holding.{Holding, free_slots, is_free_slot}
use Rattle.qg_space.proofs.Free.{free_is_slot}
use Rattle.qg_space.proofs.Listed.{free_slots-le-slots}
use Rattle.qg_open_image.specs.HoldsAfter.{AreFree}
use Rattle.qg_open_image.specs.declared.open_image.OpenImage.{OpenImage}
use Rattle.qg_open_image.specs.Keeping.{IsFitted}

pub slots-few : (kept : OpenImage) (need : ℕ) (slots : List ℕ) → IsFitted kept
    → length slots ≡ min need (free_slots kept.fs.land.space) → length slots ≤ 16128
slots-few kept need slots fits count =
    let most = free_slots-le-slots kept.fs.land.space in
    let served = (SizesFit-is_served (sizes_of kept.superblock)
    (SuperFits-is_super kept.superblock fits.superblock).served).slots in
    let same = ap (λ (sizes : Sizes). sizes.slots) fits.sizes in
    omega (arith, count, most, served, same)

pub slots-free : (space : Holding) (slots : List ℕ) → IsDistinct (λ a b. a == b) slots
    → list_all (is_free_slot space) slots ≡ true → AreFree space slots
slots-free space slots apart free = record {
  apart = apart;
  free = AllPass-from_list_all (is_free_slot space) slots free;
}

-- free slots are slots
pub slots-lie : (space : Holding) (sizes : Sizes) (slots : List ℕ) → space.sizes ≡ sizes → AreFree space slots
    → All (λ slot. IsTrue (is_slot sizes slot)) slots
slots-lie space sizes slots same are = λ k d below.
    subst (λ (s : Sizes). IsTrue (is_slot s (get_or slots k d))) same
    (free_is_slot space (get_or slots k d) (are.free k d below))
