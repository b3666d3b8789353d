-- Pointers of a node under which a walk meets no failure lead to different nodes.
use Rattle.std.proofs.Common.{◌≡◌, ◌≢◌, ℕ, zero, suc, ◌-◌, ◌≤◌, Bool, true, false, List, [], ◌∷◌, map, Option, Some}
use Rattle.std.proofs.Common.{None, arith, refl, sym, ap, subst, ◌∙◌, inl, inr}
use Rattle.std.specs.Prelude.{if◌then◌else◌}
use Rattle.std.specs.List.{Contains}
use Rattle.std.specs.Ordering.{is_lt}
use Rattle.std.proofs.lemmas.Bool.{and_from, and_parts, not-true, true≢false}
use Rattle.std.proofs.lemmas.Bool.Decides.{eqb_tells}
use Rattle.std.proofs.lemmas.Option.{same_Some}
use Rattle.qg_num.specs.Key.{key_cmp}
use Rattle.qg_num.specs.declared.key.Key.{Key}
use Rattle.qg_node.specs.declared.pointer.Pointer.{Pointer}
use Rattle.qg_node.specs.declared.node.Header.{Header}
use Rattle.qg_node.specs.declared.node.Node.{Node}
use Rattle.qg_node.specs.Nodes.{ascends_from, header_of, is_ascending, own_keys, own_pointers}
use Rattle.qg_items.specs.declared.extent.Reference.{Reference}
use Rattle.qg_super.specs.declared.superblock.Super.{Super}
use Rattle.qg_image.specs.IsShaped.{is_first, is_shaped}
use Rattle.qg_image.specs.Owed.{Owing, owed_to_child}
use Rattle.qg_image.specs.Record.{same_reference}
use Rattle.qg_image.proofs.Contained.{contains_cases, contains_here, contains_later, none_contained}
use Rattle.qg_image.specs.declared.expected.Expected.{Expected}
use Rattle.qg_image.specs.declared.failure.Failure.{Failure}
use Rattle.qg_image.specs.declared.tree.TreeKind.{TreeKind}
use Rattle.qg_image.specs.Failure.{first_failure}
use Rattle.qg_image.specs.Among.{found_there}
use Rattle.qg_image.specs.Walk.{found_failure, node_failure, pointers_failure, shape_failure, walk_failure, way_failure}
use Rattle.qg_walk.specs.Standing.{expected_below}
use Rattle.qg_walk.proofs.Failures.{neither}
use Rattle.qg_walk.proofs.KeyRanges.{ascending_behind, less_trans, not_less_itself, same_key-true}
use Rattle.qg_tree_read.specs.Tree.{found_in}
use Rattle.qg_tree_read.proofs.BranchForms.{form-expected, shape-parts}
use Rattle.qg_reach.proofs.Members.{one_mapped}
use Rattle.qg_tree_backrefs.specs.Exchange.{times}
use Rattle.qg_tree_backrefs.proofs.Owings.{times-cons, times-few}
use Rattle.qg_tree_backrefs.proofs.Times.{one_of, times-nil, times_there}

-- ---- keys

first_key : (key other : Key) (keys : List Key) → is_first key keys ≡ true → is_first other keys ≡ true → key ≡ other
first_key key other [] here there = absurd (true≢false (sym here))
first_key key other (first ∷ keys) here there =
    sym (same_key-true first key here) ∙ same_key-true first other there

-- what ascends from a key ascends from a lesser one
ascends_lower : (low key : Key) (keys : List Key) → is_lt (key_cmp low key) ≡ true → ascends_from key keys ≡ true
    → ascends_from low keys ≡ true
unfolding ascends_from
ascends_lower low key [] less up = refl
ascends_lower low key (first ∷ keys) less up =
    let parts = and_parts (is_lt (key_cmp key first)) (ascends_from first keys) up in
    and_from (is_lt (key_cmp low first)) (ascends_from first keys) (less_trans low key first less parts.0) parts.1

none_less_itself : (key : Key) → is_lt (key_cmp key key) ≡ true → ⊥
none_less_itself key less = true≢false (sym less ∙ not-true (is_lt (key_cmp key key)) (not_less_itself key))

-- ---- a node that a walk comes to below a pointer

form_of : (a b c : Option Failure) → first_failure (a ∷ b ∷ c ∷ []) ≡ None → first_failure (a ∷ b ∷ []) ≡ None
form_of None None c none = refl
form_of None (Some failure) c none = absurd cc
form_of (Some failure) b c none = absurd cc

module _ (tree : TreeKind) (super : Super) (nodes : ℕ → Option Node) (depth : ℕ) where
  abbrev walk : Expected → ℕ → Option Failure
  walk expected address = walk_failure (node_failure tree super) (found_in nodes) depth expected address

  -- a node is there, and its first key is the pointer's
  record Begins (at : ℕ) (key : Key) : Type 0 where
    node : Node
    there : nodes at ≡ Some node
    first : is_first key (own_keys node) ≡ true

  first_of_node : (expected : Expected) (key : Key) (at : ℕ) (node : Node) → expected.from ≡ Some key
      → node_failure tree super expected at node ≡ None → is_first key (own_keys node) ≡ true
  unfolding node_failure
  first_of_node expected key at node from none =
      let is = form-expected tree super expected at node (form_of (way_failure tree super expected at node)
      (shape_failure super.nodesize expected at node) _ none) in
      (shape-parts super.nodesize key node (subst (λ (o : Option Key). is_shaped super.nodesize o node ≡ true) from
      is.shaped)).1

  found_begins : (below : Expected → ℕ → Option Failure) (expected : Expected) (key : Key) (at : ℕ) (o : Option Node)
      → nodes at ≡ o → expected.from ≡ Some key
      → found_failure (node_failure tree super) below expected at (found_there o at) ≡ None → Begins at key
  found_begins below expected key at None is from none =
      absurd cc
  found_begins below expected key at (Some node) is from none =
      let parts = neither (node_failure tree super expected at node)
      (pointers_failure below ((header_of node).level - 1) expected.to (own_pointers node)) none in
      record { node = node; there = is; first = first_of_node expected key at node from parts.0 }

  walk_begins : (n : ℕ) (expected : Expected) (key : Key) (at : ℕ) → expected.from ≡ Some key
      → walk_failure (node_failure tree super) (found_in nodes) n expected at ≡ None → Begins at key
  unfolding walk_failure
  walk_begins zero expected key at from none =
      found_begins (λ below address. None) expected key at (nodes at) refl from none
  walk_begins (suc n) expected key at from none =
      found_begins (walk_failure (node_failure tree super) (found_in nodes) n) expected key at (nodes at) refl from none

  begins_below : (level : ℕ) (to : Option Key) (pointer : Pointer) (pointers : List Pointer)
      → walk (expected_below level to pointer pointers) pointer.child ≡ None → Begins pointer.child pointer.key
  begins_below level to pointer pointers none =
      walk_begins depth (expected_below level to pointer pointers) pointer.key pointer.child refl none

  -- a node lies where a pointer leads
  pub child-there : (level : ℕ) (to : Option Key) (pointers : List Pointer)
      → pointers_failure walk level to pointers ≡ None → (pointer : Pointer) → Contains pointers pointer
      → (node : Node) × (nodes pointer.child ≡ Some node)
  child-there level to [] none pointer has = absurd (none_contained pointer has)
  child-there level to (first ∷ pointers) none pointer has =
      let parts = neither (walk (expected_below level to first pointers) first.child)
      (pointers_failure walk level to pointers) none in
      elim (contains_cases first pointers pointer has) [
        | inl same ↦
            let here = begins_below level to first pointers parts.0 in
            (here.node, sym (ap (λ (p : Pointer). nodes p.child) same) ∙ here.there)
        | inr later ↦ child-there level to pointers parts.1 pointer later
      ]

  -- none leads back to where one with a lesser key led
  apart : (level : ℕ) (to : Option Key) (at : ℕ) (key : Key) (begins : Begins at key) (pointers : List Pointer)
      → pointers_failure walk level to pointers ≡ None
      → ascends_from key (map (λ (p : Pointer). p.key) pointers) ≡ true → (pointer : Pointer)
      → Contains pointers pointer
      → pointer.child ≢ at
  unfolding ascends_from
  apart level to at key begins [] none up pointer has = absurd (none_contained pointer has)
  apart level to at key begins (first ∷ pointers) none up pointer has =
      let parts = neither (walk (expected_below level to first pointers) first.child)
      (pointers_failure walk level to pointers) none in
      let keys = map (λ (p : Pointer). p.key) pointers in
      let rises = and_parts (is_lt (key_cmp key first.key)) (ascends_from first.key keys) up in
      elim (contains_cases first pointers pointer has) [
        | inl same ↦ λ is.
            let here = begins_below level to first pointers parts.0 in
            let place : first.child ≡ at = ap (λ (p : Pointer). p.child) same ∙ is in
            let node : here.node ≡ begins.node =
            same_Some here.node begins.node (sym here.there ∙ ap nodes place ∙ begins.there) in
            let one : key ≡ first.key =
            first_key key first.key (own_keys begins.node) begins.first
            (subst (λ (n : Node). is_first first.key (own_keys n) ≡ true) node here.first) in
            none_less_itself key
            (subst (λ (k : Key). is_lt (key_cmp key k) ≡ true) (sym one) rises.0)
        | inr later ↦
            apart level to at key begins pointers parts.1 (ascends_lower key first.key keys rises.0 rises.1) pointer
            later
      ]

  -- ---- references to children

  none_there : (xs : List Owing) (at : ℕ) (reference : Reference) → ((x : Owing) → Contains xs x → x.address ≢ at)
      → times xs at reference ≡ 0
  none_there [] at reference differ = times-nil at reference
  none_there (x ∷ xs) at reference differ =
      let split = times-cons x xs at reference in
      let first = times_there x at reference (differ x (contains_here x xs)) in
      let rest = none_there xs at reference (λ y has. differ y (contains_later x xs y has)) in
      omega (arith, split, first, rest)

  bit_most : (b : Bool) → (if b then 1 else 0) ≤ 1
  bit_most true = omega arith
  bit_most false = omega arith

  one_of_most : (reference other : Reference) → one_of reference other ≤ 1
  one_of_most reference other = bit_most (same_reference reference other)

  module _ (header : Header) where
    abbrev to_child : Pointer → Owing
    to_child pointer = owed_to_child header false pointer.child

    none_led : (pointers : List Pointer) (at : ℕ) (reference : Reference)
        → ((pointer : Pointer) → Contains pointers pointer → pointer.child ≢ at)
        → times (map to_child pointers) at reference ≡ 0
    none_led pointers at reference differ = none_there (map to_child pointers) at reference (λ x has.
        let pointer = one_mapped to_child pointers x has in
        λ is. differ pointer.0 pointer.1 (ap (λ (o : Owing). o.address) pointer.2 ∙ is))

    -- where no node lies no child is
    pub none-absent : (level : ℕ) (to : Option Key) (pointers : List Pointer)
        → pointers_failure walk level to pointers ≡ None → (at : ℕ) (reference : Reference) → nodes at ≡ None
        → times (map to_child pointers) at reference ≡ 0
    none-absent level to pointers none at reference nothing =
        none_led pointers at reference (λ pointer has is.
        let there = child-there level to pointers none pointer has in
        let wrong : ◌≡◌ {A = Option Node} None (Some there.0) = sym nothing ∙ ap nodes (sym is) ∙ there.1 in absurd cc)

    -- each child is led to once
    pub once-led : (level : ℕ) (to : Option Key) (pointers : List Pointer)
        → pointers_failure walk level to pointers ≡ None
        → is_ascending (map (λ (p : Pointer). p.key) pointers) ≡ true → (at : ℕ) (reference : Reference)
        → times (map to_child pointers) at reference ≤ 1
    unfolding is_ascending
    once-led level to [] none up at reference = let nothing = times-nil at reference in omega (arith, nothing)
    once-led level to (first ∷ pointers) none up at reference =
        let parts = neither (walk (expected_below level to first pointers) first.child)
        (pointers_failure walk level to pointers) none in
        let split = times-cons (to_child first) (map to_child pointers) at reference in
        let few = times-few (to_child first) at reference in
        let one = one_of_most reference (to_child first).reference in
        elim (eqb_tells first.child at) [
          | inl (equal, same) ↦
              let here = begins_below level to first pointers parts.0 in
              let begins : Begins at first.key = subst (λ (q : ℕ). Begins q first.key) same here in
              let rest = none_led pointers at reference (apart level to at first.key begins pointers parts.1 up) in
              omega (arith, split, few, one, rest)
          | inr (unequal, differ) ↦
              let nothing = times_there (to_child first) at reference differ in
              let rest = once-led level to pointers parts.1
              (ascending_behind first.key (map (λ (p : Pointer). p.key) pointers) up) at reference in
              omega (arith, split, nothing, rest)
        ]
