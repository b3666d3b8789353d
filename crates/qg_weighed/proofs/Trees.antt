-- Records of the extent tree, and those of the root and quota trees.
use Rattle.std.proofs.Common.{◌≡◌, ℕ, Bool, true, false, List, [], ◌∷◌, ◌++◌, map, Option, Some, None, refl, sym, ap}
use Rattle.std.proofs.Common.{◌∙◌, inl, inr}
use Rattle.std.specs.Prelude.{◌||◌, not}
use Rattle.std.specs.List.{AllByRecursion, filter, flat_map}
use Rattle.std.proofs.lemmas.Bool.{cases_Bool, false_from_ne_true, or_from, true≢false}
use Rattle.qg_node.specs.Nodes.{header_of}
use Rattle.qg_items.specs.declared.tree.TheConstants.{EXTENT_TREE, QUOTA_TREE}
use Rattle.qg_image.specs.Table.{keys_of}
use Rattle.qg_image.specs.declared.part.ExtentPart.{ExtentPart}
use Rattle.qg_image.specs.declared.part.ExtentPart.TheVariants.{DataRecord, NodeRecord, Referenced}
use Rattle.qg_image.specs.declared.element.Element.{Element}
use Rattle.qg_image.specs.declared.quota.Quota.{Quota}
use Rattle.qg_image.specs.Need.{extent_records, quota_records, root_records}
use Rattle.qg_image.specs.Owed.{Owing, layout_extents, owed}
use Rattle.qg_image.specs.Record.{Record, RootOf, ExtentOf, NodeOf, ReferenceTo, Status, InfoOf, LimitOf, RelationOf}
use Rattle.qg_image.specs.Record.{extent_record, same_record}
use Rattle.qg_image.specs.State.{Layout, Placed, State}
use Rattle.qg_extents.specs.Types.{Kept}
use Rattle.qg_extents.specs.Written.{parts_of_book}
use Rattle.qg_weighed.specs.Laws.{is_among, is_of_extents}
use Rattle.qg_weighed.specs.Weight.{records_in}
use Rattle.qg_weighed.proofs.Distinct.{same_record_is}

-- each is of the extent tree, or none is
abbrev pub Are : Bool → List Record → Type 0
Are extents records = AllByRecursion (λ one. is_of_extents one ≡ extents) records

both_ways : (b : Bool) → not b ≡ b → ⊥
both_ways true same = true≢false (sym same)
both_ways false same = true≢false same

pub none-named : (extents : Bool) (records : List Record) (one : Record) → Are extents records
    → is_of_extents one ≡ not extents → is_among records one ≡ false
none-named extents [] one are other = refl
none-named extents (first ∷ records) one are other =
    or_from (same_record one first) (is_among records one)
    (false_from_ne_true (same_record one first)
    (λ same. both_ways extents (sym other ∙ ap is_of_extents (same_record_is one first same) ∙ are.0)))
    (none-named extents records one are.1 other)

pub are-both : (extents : Bool) (xs ys : List Record) → Are extents xs → Are extents ys → Are extents (xs ++ ys)
are-both extents [] ys first second = second
are-both extents (x ∷ xs) ys first second = (first.0, are-both extents xs ys first.1 second)

-- ---- of the extent tree

part-of-extents : (part : ExtentPart) → is_of_extents (extent_record part) ≡ true
part-of-extents (DataRecord address bytes extent) = refl
part-of-extents (NodeRecord address level extent) = refl
part-of-extents (Referenced address reference count) = refl

parts-are : (parts : List ExtentPart) → Are true (map extent_record parts)
parts-are [] = tt
parts-are (part ∷ parts) = (part-of-extents part, parts-are parts)

pub table-are : (table : List (ℕ × Kept)) → Are true (records_in table)
table-are table = parts-are (parts_of_book table)

nodes-are : (nodes : List (ℕ × Placed))
    → Are true (map (λ (entry : ℕ × Placed). NodeOf entry.0 (header_of entry.1.node).level) nodes)
nodes-are [] = tt
nodes-are (entry ∷ nodes) = (refl, nodes-are nodes)

runs-are : (runs : List Element) → Are true (map (λ (run : Element). ExtentOf run.address run.bytes) runs)
runs-are [] = tt
runs-are (run ∷ runs) = (refl, runs-are runs)

owings-are : (owings : List Owing)
    → Are true (map (λ (owing : Owing). ReferenceTo owing.address owing.reference) owings)
owings-are [] = tt
owings-are (owing ∷ owings) = (refl, owings-are owings)

pub layout-are : (layout : Layout) → Are true (extent_records layout)
layout-are layout =
    are-both true _ _ (are-both true _ _ (nodes-are layout.nodes) (runs-are (layout_extents layout)))
    (owings-are (owed layout))

-- ---- of the root and quota trees

roots-are : (trees : List ℕ) → Are false (map RootOf trees)
roots-are [] = tt
roots-are (tree ∷ trees) = (refl, roots-are trees)

groups-are : (groups : List ℕ) → Are false (flat_map (λ (group : ℕ). InfoOf group ∷ LimitOf group ∷ []) groups)
groups-are [] = tt
groups-are (group ∷ groups) = (refl, (refl, groups-are groups))

pairs-are : (pairs : List (ℕ × ℕ))
    → Are false (flat_map (λ (pair : ℕ × ℕ). RelationOf pair.0 pair.1 ∷ RelationOf pair.1 pair.0 ∷ []) pairs)
pairs-are [] = tt
pairs-are (pair ∷ pairs) = (refl, (refl, pairs-are pairs))

pub quota-are : (quota : Option Quota) → Are false (quota_records quota)
quota-are None = tt
quota-are (Some quota) =
    are-both false
    (Status ∷ flat_map (λ (group : ℕ). InfoOf group ∷ LimitOf group ∷ []) (keys_of quota.groups))
    (flat_map (λ (pair : ℕ × ℕ). RelationOf pair.0 pair.1 ∷ RelationOf pair.1 pair.0 ∷ []) quota.pairs)
    (refl, groups-are (keys_of quota.groups)) (pairs-are quota.pairs)

root-with : (quota : Option Quota) (state : State) → Are false (root_records (record state { quota = quota }))
root-with None state =
    are-both false (RootOf EXTENT_TREE ∷ map RootOf (keys_of state.subvolumes)) []
    (refl, roots-are (keys_of state.subvolumes)) tt
root-with (Some quota) state =
    are-both false (RootOf EXTENT_TREE ∷ map RootOf (keys_of state.subvolumes)) (RootOf QUOTA_TREE ∷ [])
    (refl, roots-are (keys_of state.subvolumes)) (refl, tt)

pub root-are : (state : State) → Are false (root_records state)
root-are state = root-with state.quota state

-- ---- those of others

abbrev pub others : List Record → List Record
others records = filter (λ one. not (is_of_extents one)) records

pub others-are : (records : List Record) → Are false (others records)
others-are [] = tt
others-are (first ∷ records) = elim (cases_Bool (is_of_extents first)) [
  | inl extents ↦ rw extents (others-are records)
  | inr other ↦ rw other (other, others-are records)
]

-- one that is not of the extent tree is among them where it was
pub others-named : (records : List Record) (one : Record) → is_of_extents one ≡ false
    → is_among (others records) one ≡ is_among records one
others-named [] one other = refl
others-named (first ∷ records) one other = elim (cases_Bool (is_of_extents first)) [
  | inl extents ↦
      let unlike : same_record one first ≡ false = false_from_ne_true (same_record one first)
      (λ same. true≢false (sym extents ∙ sym (ap is_of_extents (same_record_is one first same)) ∙ other)) in
      rw extents (others-named records one other ∙ sym (ap (λ (b : Bool). b || is_among records one) unlike))
  | inr kept ↦ rw kept (ap (λ (b : Bool). same_record one first || b) (others-named records one other))
]
