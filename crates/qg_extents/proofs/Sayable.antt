-- What a table keeps can be said by items.
use Rattle.std.proofs.Common.{◌≡◌, ℕ, ◌≤◌, ◌<◌, List, length, get_or, Some, refl, subst, arith}
use Rattle.std.specs.Prelude.{All}
use Rattle.std.specs.Cmp.{eq_by_cmp_equiv, nat_cmp_total}
use Rattle.std.specs.List.{AllByRecursion}
use Rattle.std.specs.List.Sorted.{IsStrictlySortedBy}
use Rattle.std.specs.Map.{keys_of}
use Rattle.std.specs.Ordering.{nat_cmp}
use Rattle.std.proofs.lemmas.List.Elements.{recursion_from_All}
use Rattle.std.proofs.lemmas.Option.{slice_get-get_or}
use Rattle.std.proofs.lemmas.Map.Entries.{lookup_from_place}
use Rattle.std.proofs.lemmas.Map.Keys.{IsDistinct-from_sorted}
use Rattle.qg_refs.specs.declared.counted.Counted.{Counted}
use Rattle.qg_refs.specs.declared.kept.Kept.{Kept}
use Rattle.qg_refs.specs.Counts.{Ascend, greatest_count}
use Rattle.qg_refs.proofs.Counting.{count-found}
use Rattle.qg_extents.specs.Table.{book_of, IsTable, MayKeep}
use Rattle.qg_extents.specs.Written.{CountedFits, EntryFits}
use Rattle.qg_extents.proofs.ItemsSaid.{IsSayable, IsSayableEntry}
use Rattle.qg_extents.proofs.Tables.{kept_at}

-- a table keeps each of its entries
pub entry-found : (table : List (ℕ × Kept)) (i : ℕ) (d : ℕ × Kept) → IsStrictlySortedBy nat_cmp (keys_of table)
    → i < length table
    → book_of table (get_or table i d).0 ≡ Some (get_or table i d).1
entry-found table i d ascend inside =
    lookup_from_place (eq_by_cmp_equiv nat_cmp_total) table i (get_or table i d).0 (get_or table i d).1
    (IsDistinct-from_sorted nat_cmp (keys_of table) ascend) (slice_get-get_or table i d inside)

pub entry-may : (table : List (ℕ × Kept)) (i : ℕ) (d : ℕ × Kept) → IsTable table → i < length table
    → MayKeep (Some (get_or table i d).1)
entry-may table i d is inside = subst MayKeep (entry-found table i d is.ascend inside)
    (kept_at table (get_or table i d).0 is)

-- the count of each reference is one that it may have
pub counts_at : (kept : Kept) → MayKeep (Some kept) → (i : ℕ) (d : Counted) → i < length kept.references
    → (get_or kept.references i d).count ≤ greatest_count (get_or kept.references i d).reference
counts_at kept may i d inside =
    let entry : Counted = get_or kept.references i d in
    omega (
      arith,
      may.fitting entry.reference,
      count-found entry.reference kept.references i d may.sound.ascend inside
          refl,
    )

pub counts_may : (kept : Kept) → MayKeep (Some kept) → All CountedFits kept.references → All IsSayable kept.references
counts_may kept may fits i d inside = record {
  fits = fits i d inside;
  some = may.sound.some i d inside;
  fitting =
      counts_at kept may i d inside;
}

pub table-sayable : (table : List (ℕ × Kept)) → IsTable table → All EntryFits table
    → AllByRecursion IsSayableEntry table
table-sayable table is fits = recursion_from_All IsSayableEntry table (λ i d inside. record {
  fits = fits i d inside;
  references = recursion_from_All IsSayable (get_or table i d).1.references
      (counts_may (get_or table i d).1 (entry-may table i d is inside) (fits i d inside).references);
})

pub table-ascend : (table : List (ℕ × Kept)) → IsTable table → AllByRecursion (λ entry. Ascend entry.1.references) table
table-ascend table is = recursion_from_All (λ entry. Ascend entry.1.references) table
    (λ i d inside. (entry-may table i d is inside).sound.ascend)
