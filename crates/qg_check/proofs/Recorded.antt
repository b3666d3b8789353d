-- What the items of the extent tree tell, whatever the disk tells.
use Rattle.std.proofs.Common.{◌≡◌, ℕ, ◌≤◌, true, List, [], ◌∷◌, map, get_or, refl, sym, ap, subst}
use Rattle.std.proofs.Common.{◌∙◌, arith}
use Rattle.std.specs.Prelude.{All, Option, Some, None, ◌==◌, nat_le}
use Rattle.std.specs.List.{AllByRecursion, Contains, filter, list_all}
use Rattle.std.specs.List.Sorted.{IsNonDecreasingBy}
use Rattle.std.specs.Option.{option_and_then}
use Rattle.std.proofs.lemmas.Bool.{and_from, and_parts, le-leb, leb-true}
use Rattle.std.proofs.lemmas.List.Elements.{All-contains, recursion_from_All}
use Rattle.std.proofs.lemmas.List.Sums.{AllPass-from_list_all}
use Rattle.std.proofs.lemmas.Option.{same_Some}
use Rattle.qg_node.specs.declared.item.Item.{Item}
use Rattle.qg_items.specs.declared.extent.Reference.TheVariants.{KeyedBlock, SharedBlock, KeyedData, SharedData}
use Rattle.qg_image.specs.declared.part.ExtentPart.{ExtentPart}
use Rattle.qg_image.specs.declared.part.ExtentPart.TheVariants.{DataRecord, NodeRecord, Referenced}
use Rattle.qg_image.specs.ItemMeaning.{extent_part, extent_part_stamps}
use Rattle.qg_tree_items.specs.Said.{AreSaid}
use Rattle.qg_image.specs.Owed.{is_record, part_address}
use Rattle.qg_image.proofs.Contained.{contains_here}
use Rattle.qg_backref_rule.proofs.PartSaid.{holds-said}
use Rattle.qg_image.specs.Walk.{are_by}
use Rattle.qg_refs.specs.declared.kept.Kept.{Kept}
use Rattle.qg_refs.specs.declared.kept.What.{What}
use Rattle.qg_refs.specs.Book.{what_in}
use Rattle.qg_backref_rule.proofs.Filters.{kept_contains}
use Rattle.qg_backref_rule.proofs.KeyOrder.{parts_in_order}
use Rattle.qg_extents.specs.Laws.{AreFew}
use Rattle.qg_extents.specs.Table.{IsTable, book_of}
use Rattle.qg_extents.specs.BookRecords.{IsTold, AreInOrder, parts_at, the_only, the_record, what_told}
use Rattle.qg_extents.proofs.Sayable.{entry-found}
use Rattle.qg_check.specs.Counts.{CountFits}

-- ---- counts

-- a reference to a node counts one
abbrev CountsOne : ExtentPart → Type 0
CountsOne (DataRecord address bytes extent) = Unit {0}
CountsOne (NodeRecord address level extent) = Unit {0}
CountsOne (Referenced address (KeyedBlock root) count) = count ≡ 1
CountsOne (Referenced address (SharedBlock parent) count) = count ≡ 1
CountsOne (Referenced address (KeyedData root ino offset) count) = Unit {0}
CountsOne (Referenced address (SharedData parent) count) = Unit {0}

counts_one : (item : Item) (part : ExtentPart) → extent_part item ≡ Some part → CountsOne part
counts_one item =
    holds-said CountsOne item (record {
      data_record = λ extent. tt;
      node_record = λ extent. tt;
      tree = refl;
      parent = refl;
      file = λ keyed. tt;
      leaf = λ shared. tt;
    })

-- no reference is told more often than it may be there
few_first : (part : ExtentPart) (parts : List ExtentPart) → CountsOne part → CountFits part → AreFew parts
    → AreFew (part ∷ parts)
few_first (DataRecord address bytes extent) parts one fits few = few
few_first (NodeRecord address level extent) parts one fits few = few
few_first (Referenced address (KeyedBlock root) count) parts one fits few =
    and_from (nat_le count 1) _ (le-leb count 1 (omega (arith, one))) few
few_first (Referenced address (SharedBlock parent) count) parts one fits few =
    and_from (nat_le count 1) _ (le-leb count 1 (omega (arith, one))) few
few_first (Referenced address (KeyedData root ino offset) count) parts one fits few =
    and_from (nat_le count 4294967295) _ (le-leb count 4294967295 (omega (arith, fits))) few
few_first (Referenced address (SharedData parent) count) parts one fits few =
    and_from (nat_le count 4294967295) _ (le-leb count 4294967295 (omega (arith, fits))) few

few_all : (items : List Item) (parts : List ExtentPart) → map extent_part items ≡ map (λ part. Some part) parts
    → AllByRecursion CountFits parts → AreFew parts
few_all [] [] said fit = refl
few_all [] (part ∷ parts) said fit = absurd cc
few_all (item ∷ items) [] said fit = absurd cc
few_all (item ∷ items) (part ∷ parts) said fit =
    let first : extent_part item ≡ Some part = cc in
    let rest : map extent_part items ≡ map (λ part. Some part) parts = cc in
    few_first part parts (counts_one item part first) fit.0 (few_all items parts rest fit.1)

pub parts_few : (parts : List ExtentPart) → AreSaid extent_part parts → All CountFits parts → AreFew parts
parts_few parts said fit = few_all said.items parts said.said (recursion_from_All CountFits parts fit)

-- ---- their order

pub parts_ordered : (parts : List ExtentPart) → AreSaid extent_part parts → IsNonDecreasingBy part_address parts
parts_ordered parts said = parts_in_order said.items parts said.said said.ascending

pub in_order : (parts : List ExtentPart) → IsNonDecreasingBy part_address parts → AreInOrder parts
in_order parts up i j d before inside = up i j d (omega (arith, before)) inside

-- ---- generations

abbrev generation_in : Option What → ℕ
generation_in None = 0
generation_in (Some what) = what.generation

part_by : (generation : ℕ) (nodesize : ℕ) (part : ExtentPart) (what : What)
    → are_by generation (extent_part_stamps part) ≡ true → what_told nodesize part ≡ Some what
    → what.generation ≤ generation
part_by generation nodesize (DataRecord address bytes extent) what by is =
    let same : extent.generation ≡ what.generation = ap generation_in is in
    let low = leb-true extent.generation generation (and_parts (nat_le extent.generation generation) true by).0 in
    omega (arith, same, low)
part_by generation nodesize (NodeRecord address level extent) what by is =
    let same : extent.generation ≡ what.generation = ap generation_in is in
    let low = leb-true extent.generation generation (and_parts (nat_le extent.generation generation) true by).0 in
    omega (arith, same, low)
part_by generation nodesize (Referenced address reference count) what by is = absurd cc

only_has : (xs : List ExtentPart) (part : ExtentPart) → the_only xs ≡ Some part → Contains xs part
only_has [] part is = absurd cc
only_has (x ∷ []) part is = subst (λ p. Contains (x ∷ []) p) (same_Some x part is) (contains_here x [])
only_has (x ∷ y ∷ xs) part is = absurd cc

given_some : (nodesize : ℕ) (found : Option ExtentPart) (what : What)
    → option_and_then (what_told nodesize) found ≡ Some what
    → (part : ExtentPart) × (found ≡ Some part) × (what_told nodesize part ≡ Some what)
given_some nodesize None what is = absurd cc
given_some nodesize (Some part) what is = (part, refl, is)

-- what a book knows was told by no later generation
pub known_by : (generation nodesize : ℕ) (parts : List ExtentPart) (table : List (ℕ × Kept))
    → list_all (λ part. are_by generation (extent_part_stamps part)) parts ≡ true
    → IsTold nodesize parts (book_of table) → IsTable table → All (λ entry. entry.1.what.generation ≤ generation) table
known_by generation nodesize parts table by told is i d inside =
    let entry = get_or table i d in
    let kept = entry-found table i d is.ascend inside in
    let what : what_in (book_of table entry.0) ≡ Some entry.1.what = ap what_in kept in
    let part = given_some nodesize (the_record (parts_at parts entry.0)) entry.1.what (sym (told.what entry.0)
    ∙ what) in
    let there = only_has (filter is_record (parts_at parts entry.0)) part.0 part.1 in
    let here = (kept_contains is_record (parts_at parts entry.0) part.0 there).0 in
    let has = (kept_contains (λ part. part_address part == entry.0) parts part.0 here).0 in
    let passes = All-contains (λ part. are_by generation (extent_part_stamps part) ≡ true) parts part.0
    (AllPass-from_list_all (λ part. are_by generation (extent_part_stamps part)) parts by) has in
    part_by generation nodesize part.0 entry.1.what passes part.2
