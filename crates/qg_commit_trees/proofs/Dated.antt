-- Where records tell nothing of a generation past one, the book of these records knows nothing of one.
use Rattle.std.proofs.Common.{◌≡◌, ℕ, ◌≤◌, true, List, [], ◌∷◌, Some, arith, sym, ap, ◌∙◌}
use Rattle.std.specs.Prelude.{All, ◌==◌, nat_le}
use Rattle.std.specs.List.{filter, list_all}
use Rattle.std.specs.Option.{option_and_then}
use Rattle.std.proofs.lemmas.Bool.{and_parts, leb-true}
use Rattle.std.proofs.lemmas.List.Elements.{All-filter}
use Rattle.std.proofs.lemmas.List.Sums.{AllPass-from_list_all}
use Rattle.qg_image.specs.declared.part.ExtentPart.{ExtentPart}
use Rattle.qg_image.specs.declared.part.ExtentPart.TheVariants.{DataRecord, NodeRecord, Referenced}
use Rattle.qg_image.specs.ItemMeaning.{extent_part_stamps}
use Rattle.qg_image.specs.Owed.{is_record, part_address}
use Rattle.qg_image.specs.Walk.{are_by}
use Rattle.qg_refs.specs.declared.kept.What.{What}
use Rattle.qg_refs.specs.Book.{Book, what_in}
use Rattle.qg_extents.specs.BookRecords.{IsTold, parts_at, the_only, what_told}
use Rattle.qg_commit_trees.specs.Knowing.{generation_in}

abbrev IsDated : ℕ → ExtentPart → Type 0
IsDated generation part = are_by generation (extent_part_stamps part) ≡ true

stamp_low : (stamp generation : ℕ) → are_by generation (stamp ∷ []) ≡ true → stamp ≤ generation
stamp_low stamp generation dated = leb-true stamp generation (and_parts (nat_le stamp generation) true dated).0

part_low : (generation nodesize : ℕ) (part : ExtentPart) (what : What) → IsDated generation part
    → what_told nodesize part ≡ Some what → what.generation ≤ generation
part_low generation nodesize (DataRecord address bytes extent) what dated is =
    let same : extent.generation ≡ what.generation = ap generation_in is in
    let low = stamp_low extent.generation generation dated in
    omega (arith, same, low)
part_low generation nodesize (NodeRecord address level extent) what dated is =
    let same : extent.generation ≡ what.generation = ap generation_in is in
    let low = stamp_low extent.generation generation dated in
    omega (arith, same, low)
part_low generation nodesize (Referenced address reference count) what dated is = absurd cc

only_low : (generation nodesize : ℕ) (records : List ExtentPart) (what : What) → All (IsDated generation) records
    → option_and_then (what_told nodesize) (the_only records) ≡ Some what → what.generation ≤ generation
only_low generation nodesize [] what dated is = absurd cc
only_low generation nodesize (part ∷ []) what dated is =
    part_low generation nodesize part what (dated 0 part (omega arith)) is
only_low generation nodesize (part ∷ other ∷ records) what dated is = absurd cc

module _ (nodesize : ℕ) (parts : List ExtentPart) (book : Book) (told : IsTold nodesize parts book) (generation : ℕ)
    (dated : list_all (λ part. are_by generation (extent_part_stamps part)) parts ≡ true) where
  here_dated : (at : ℕ) → All (IsDated generation) (filter is_record (parts_at parts at))
  here_dated at = All-filter is_record (IsDated generation) (parts_at parts at)
      (All-filter (λ (part : ExtentPart). part_address part == at) (IsDated generation) parts
      (AllPass-from_list_all (λ (part : ExtentPart). are_by generation (extent_part_stamps part)) parts dated))

  pub told-low : (at : ℕ) (what : What) → what_in (book at) ≡ Some what → what.generation ≤ generation
  told-low at what known =
      only_low generation nodesize (filter is_record (parts_at parts at)) what (here_dated at)
      (sym (told.what at) ∙ known)
