-- A number that no subvolume has owes nothing: no reference is keyed by it.
use Rattle.std.proofs.Common.{◌≡◌, ◌≢◌, ℕ, Bool, true, false, List, [], ◌∷◌, map, Option, Some, None, refl, sym, ap}
use Rattle.std.proofs.Common.{subst, ◌∙◌, inl, inr}
use Rattle.std.specs.Prelude.{◌==◌}
use Rattle.std.specs.List.{Contains, flat_map}
use Rattle.std.specs.List.Sorted.{IsStrictlyIncreasing}
use Rattle.std.proofs.lemmas.Bool.{cases_Bool, cond-false, cond-true, eq-eqb, eqb-true, true≢false}
use Rattle.std.proofs.lemmas.List.Elements.{Contains-append_cases}
use Rattle.qg_node.specs.declared.item.Item.{Item}
use Rattle.qg_node.specs.declared.pointer.Pointer.{Pointer}
use Rattle.qg_node.specs.declared.node.Header.{Header}
use Rattle.qg_node.specs.Nodes.{header_of, own_items, own_pointers}
use Rattle.qg_items.specs.declared.extent.Reference.{Reference}
use Rattle.qg_items.specs.declared.extent.Reference.TheVariants.{KeyedBlock, KeyedData, SharedBlock, SharedData}
use Rattle.qg_image.specs.declared.part.FilePart.{FilePart}
use Rattle.qg_image.specs.declared.part.FilePart.TheVariants.{Inode, PieceOf}
use Rattle.qg_image.specs.ItemMeaning.{file_part}
use Rattle.qg_image.specs.Table.{keys_of, value_at}
use Rattle.qg_image.specs.Owed.{Owing, homeless, owed, owed_by_node, owed_by_part, owed_count, owed_to_child}
use Rattle.qg_image.specs.Reach.{is_among, reach, reach_of, reaches}
use Rattle.qg_image.specs.Record.{same_reference}
use Rattle.qg_image.specs.State.{Layout, Placed}
use Rattle.qg_image.proofs.Contained.{contains_cases, contains_here, contains_later, none_contained}
use Rattle.qg_cow_refs.specs.Children.{way_to}
use Rattle.qg_refs.proofs.RankOrder.{same_reference_is}
use Rattle.qg_owner_rule.proofs.Reaching.{value_of_entry}
use Rattle.qg_reach.proofs.Members.{one_flat_mapped, one_mapped}
use Rattle.qg_tree_backrefs.proofs.Owings.{HaveNot, have-not-more}
use Rattle.qg_tree_backrefs.proofs.Times.{one_of, times-nil}
use Rattle.qg_shared_trees.proofs.Homes.{owner-reaches}
use Rattle.qg_shared_trees.proofs.Referring.{counted-times}

-- ---- references keyed by a number

-- a reference is keyed by it
abbrev pub is_keyed_by : ℕ → Reference → Bool
is_keyed_by tree (KeyedBlock root) = root == tree
is_keyed_by tree (KeyedData root ino offset) = root == tree
is_keyed_by tree (SharedBlock parent) = false
is_keyed_by tree (SharedData parent) = false

-- one that is so is none that isn't
pub other-reference : (tree : ℕ) (reference other : Reference) → is_keyed_by tree reference ≡ true
    → is_keyed_by tree other ≡ false → one_of reference other ≡ 0
other-reference tree reference other keyed unkeyed = elim (cases_Bool (same_reference reference other)) [
  | inl same ↦
      let is = same_reference_is reference other same in
      absurd (true≢false (sym keyed ∙ ap (λ (r : Reference). is_keyed_by tree r) is ∙ unkeyed))
  | inr apart ↦ cond-false (same_reference reference other) 1 0 apart
]

pub other-keyed : (tree : ℕ) (reference other : Reference) → is_keyed_by tree reference ≡ false
    → is_keyed_by tree other ≡ true → one_of reference other ≡ 0
other-keyed tree reference other unkeyed keyed = elim (cases_Bool (same_reference reference other)) [
  | inl same ↦
      let is = same_reference_is reference other same in
      absurd (true≢false (sym keyed ∙ sym (ap (λ (r : Reference). is_keyed_by tree r) is) ∙ unkeyed))
  | inr apart ↦ cond-false (same_reference reference other) 1 0 apart
]

-- a list whose references are others has a reference nowhere
pub have-not-each : (reference : Reference) (xs : List Owing)
    → ((x : Owing) → Contains xs x → one_of reference x.reference ≡ 0) → HaveNot reference xs
have-not-each reference [] each at = times-nil at reference
have-not-each reference (x ∷ xs) each at =
    have-not-more reference x xs (each x (contains_here x xs))
    (have-not-each reference xs (λ y has. each y (contains_later x xs y has))) at

-- ---- what a node owes

-- what holds of each reference that a node may owe holds of those that it owes
pub owed-each : (P : Reference → Type 0) (placed : Placed)
    → ((child : ℕ) → P (owed_to_child (header_of placed.node) placed.full child).reference)
    → ((part : Option FilePart) (owing : Owing) → Contains (owed_by_part (header_of placed.node) placed.full part) owing
    → P owing.reference)
    → (owing : Owing) → Contains (owed_by_node placed) owing → P owing.reference
unfolding owed_by_node
owed-each P placed child part owing has =
    let to_child = λ (pointer : Pointer). owed_to_child (header_of placed.node) placed.full pointer.child in
    let by_item = λ (item : Item). owed_by_part (header_of placed.node) placed.full (file_part item) in
    elim (Contains-append_cases (map to_child (own_pointers placed.node)) (flat_map by_item (own_items placed.node))
    owing has) [
      | inl first ↦
          let pointer = one_mapped to_child (own_pointers placed.node) owing first in
          subst (λ (o : Owing). P o.reference) pointer.2 (child pointer.0.child)
      | inr last ↦
          let item = one_flat_mapped by_item (own_items placed.node) owing last in
          part (file_part item.0) owing item.2
    ]

child_apart : (tree : ℕ) (header : Header) (full : Bool) (child : ℕ) → (full ≡ false → (header.owner == tree) ≡ false)
    → is_keyed_by tree (owed_to_child header full child).reference ≡ false
child_apart tree header true child apart = refl
child_apart tree header false child apart = apart refl

one_owing : (P : Reference → Type 0) (own owing : Owing) → Contains (own ∷ []) owing → P own.reference
    → P owing.reference
one_owing P own owing has is = elim (contains_cases own [] owing has) [
  | inl same ↦ subst (λ (o : Owing). P o.reference) same is
  | inr none ↦ absurd (none_contained owing none)
]

part_apart : (tree : ℕ) (header : Header) (full : Bool) (part : Option FilePart)
    → (full ≡ false → (header.owner == tree) ≡ false) → (owing : Owing) → Contains (owed_by_part header full part) owing
    → is_keyed_by tree owing.reference ≡ false
part_apart tree header full None apart owing has = absurd (none_contained owing has)
part_apart tree header full (Some (Inode ino inode)) apart owing has = absurd (none_contained owing has)
part_apart tree header true (Some (PieceOf ino piece)) apart owing has =
    one_owing (λ (r : Reference). is_keyed_by tree r ≡ false) _ owing has refl
part_apart tree header false (Some (PieceOf ino piece)) apart owing has =
    one_owing (λ (r : Reference). is_keyed_by tree r ≡ false) _ owing has (apart refl)

-- a node of another owner, or a full one, owes no reference that is keyed so
node_apart : (tree : ℕ) (placed : Placed) → (placed.full ≡ false → ((header_of placed.node).owner == tree) ≡ false)
    → (owing : Owing) → Contains (owed_by_node placed) owing → is_keyed_by tree owing.reference ≡ false
node_apart tree placed apart =
    owed-each (λ (r : Reference). is_keyed_by tree r ≡ false) placed
    (λ child. child_apart tree (header_of placed.node) placed.full child apart)
    (λ part owing has. part_apart tree (header_of placed.node) placed.full part apart owing has)

-- ---- a layout

-- no value is no entry
absent : {A : Type 0} (n : ℕ) (table : List (ℕ × A)) → value_at n table ≡ None → (entry : ℕ × A) → Contains table entry
    → entry.0 ≢ n
absent {A} n [] none entry has = absurd (none_contained entry has)
absent {A} n (first ∷ table) none entry has = elim (cases_Bool (first.0 == n)) [
  | inl here ↦
      let wrong : ◌≡◌ {A = Option A} (Some first.1) None =
      sym (cond-true (first.0 == n) (Some first.1) (value_at n table) here) ∙ none in absurd cc
  | inr other ↦
      let rest = sym (cond-false (first.0 == n) (Some first.1) (value_at n table) other) ∙ none in
      elim (contains_cases first table entry has) [
        | inl same ↦ λ is.
            let passes = eq-eqb first.0 n (ap (λ (e : ℕ × A). e.0) same ∙ is) in
            true≢false (sym passes ∙ other)
        | inr later ↦ absent n table rest entry later
      ]
]

unequal : (m n : ℕ) → m ≢ n → (m == n) ≡ false
unequal m n differ = elim (cases_Bool (m == n)) [
  | inl same ↦ absurd (differ (eqb-true m n same))
  | inr other ↦ other
]

module _ (layout : Layout) (tree : ℕ) (none : value_at tree layout.roots ≡ None) (home : homeless layout ≡ None)
    (up : IsStrictlyIncreasing (keys_of layout.nodes)) where
  reaches_none : (at : ℕ) → reaches layout tree at ≡ false
  unfolding reach
  reaches_none at = ap (λ (o : Option ℕ). is_among at (reach_of layout o)) none

  -- a node that is not full has another owner
  owner_apart : (entry : ℕ × Placed) → Contains layout.nodes entry → entry.1.full ≡ false
      → ((header_of entry.1.node).owner == tree) ≡ false
  owner_apart entry has bare =
      let by = owner-reaches layout home entry.0 entry.1 (value_of_entry layout.nodes entry up has) bare in
      unequal (header_of entry.1.node).owner tree (λ same.
      true≢false (sym by ∙ ap (λ (n : ℕ). reaches layout n entry.0) same ∙ reaches_none entry.0))

  each_apart : (owing : Owing) → Contains (owed layout) owing → is_keyed_by tree owing.reference ≡ false
  unfolding owed
  each_apart owing has =
      let way_of = λ (entry : ℕ × ℕ). way_to entry.1 entry.0 in
      let owes = λ (entry : ℕ × Placed). owed_by_node entry.1 in
      elim (Contains-append_cases (map way_of layout.roots) (flat_map owes layout.nodes) owing has) [
        | inl first ↦
            let entry = one_mapped way_of layout.roots owing first in
            let apart = unequal entry.0.0 tree (absent tree layout.roots none entry.0 entry.1) in
            subst (λ (o : Owing). is_keyed_by tree o.reference ≡ false) entry.2 apart
        | inr last ↦
            let entry = one_flat_mapped owes layout.nodes owing last in
            node_apart tree entry.0.1 (owner_apart entry.0 entry.1) owing entry.2
      ]

  -- nothing is owed that is keyed by it
  pub none-owed : (at : ℕ) (reference : Reference) → is_keyed_by tree reference ≡ true
      → owed_count layout at reference ≡ 0
  none-owed at reference keyed =
      counted-times layout at reference
      ∙ have-not-each reference (owed layout) (λ owing has.
      other-reference tree reference owing.reference keyed (each_apart owing has)) at
