-- What a walk that meets no failure says of the node and of what stands below it.
use Rattle.std.proofs.Common.{◌≡◌, ℕ, zero, suc, ◌-◌, true, List, [], ◌∷◌, ◌++◌, map, refl, sym, subst, ◌∙◌, Option}
use Rattle.std.proofs.Common.{Some, None}
use Rattle.std.specs.Prelude.{◌&&◌, ◌*◌, Ok, nat_le}
use Rattle.std.specs.List.{list_all}
use Rattle.std.proofs.lemmas.Bool.{and_from, and_parts}
use Rattle.qg_device.specs.History.{Event, content}
use Rattle.qg_num.specs.declared.key.Key.{Key}
use Rattle.qg_num.specs.declared.rule.Rule.TheVariants as rule
use Rattle.qg_node.specs.declared.pointer.Pointer.{Pointer}
use Rattle.qg_node.specs.declared.node.Header.{Header}
use Rattle.qg_node.specs.declared.node.Node.{Node}
use Rattle.qg_node.specs.declared.node.Node.TheVariants.{Inner}
use Rattle.qg_node.specs.Nodes.{header_of, own_items, own_keys, own_pointers, used_bytes}
use Rattle.qg_super.specs.declared.superblock.Super.{Super}
use Rattle.qg_super.specs.Places.{capacity}
use Rattle.qg_image.specs.IsShaped.{is_first, is_shaped}
use Rattle.qg_image.specs.declared.failure.Failure.{Failure}
use Rattle.qg_image.specs.declared.tree.TreeKind.TheVariants.{Files}
use Rattle.qg_image.specs.declared.expected.Expected.{Expected}
use Rattle.qg_image.specs.Failure.{first_failure, unless}
use Rattle.qg_image.specs.Walk.{ends_before, found_failure, is_item_of, next_key, node_failure, node_found}
use Rattle.qg_image.specs.Walk.{pointers_failure, shape_failure, walk_failure, way_failure}
use Rattle.qg_walk.specs.Added.{AreSpaced, is_from, is_to}
use Rattle.qg_walk.specs.Standing.{expected_below, form_failure}
use Rattle.qg_walk.proofs.Failures.{neither, none_of_two, walk-inner, walk-passed}
use Rattle.qg_walk.proofs.KeyRanges.{ends_before-each, is_to-earlier, same_key-true}
use Rattle.qg_shared_walk.specs.Wells.{all_failure, below_failure}
use Rattle.qg_shared_walk.proofs.Forms.{form_parts}

first_two : (a b c : Option Failure) → first_failure (a ∷ b ∷ c ∷ []) ≡ None → first_failure (a ∷ b ∷ []) ≡ None
first_two None None c h = refl
first_two None (Some failure) c h = absurd cc
first_two (Some failure) b c h = absurd cc

next_append : (to : Option Key) (rest : List Pointer) (pointer : Pointer)
    → next_key (Some pointer.key) rest ≡ next_key to (rest ++ pointer ∷ [])
next_append to [] pointer = refl
next_append to (next ∷ rest) pointer = refl

-- ---- pointers, and one more

module _ (walk : Expected → ℕ → Option Failure) (level : ℕ) where
  pub failure_append : (to : Option Key) (front : List Pointer) (pointer : Pointer)
      → pointers_failure walk level (Some pointer.key) front ≡ None
      → walk (expected_below level to pointer []) pointer.child ≡ None
      → pointers_failure walk level to (front ++ pointer ∷ []) ≡ None
  failure_append to [] pointer none here =
      none_of_two (walk (expected_below level to pointer []) pointer.child) None here refl
  failure_append to (next ∷ rest) pointer none here =
      let parts = neither (walk (expected_below level (Some pointer.key) next rest) next.child)
      (pointers_failure walk level (Some pointer.key) rest) none in
      let first : walk (expected_below level to next (rest ++ pointer ∷ [])) next.child ≡ None =
      subst (λ (k : Option Key). walk (record {
        level = Some level;
        generation = Some next.generation;
        from = Some next.key;
        to = k;
      }) next.child ≡ None) (next_append to rest pointer) parts.0 in
      none_of_two (walk (expected_below level to next (rest ++ pointer ∷ [])) next.child)
      (pointers_failure walk level to (rest ++ pointer ∷ [])) first
      (failure_append to rest pointer parts.1 here)

  pub failure_last : (to : Option Key) (front : List Pointer) (pointer : Pointer)
      → pointers_failure walk level to (front ++ pointer ∷ []) ≡ None
      → walk (expected_below level to pointer []) pointer.child ≡ None
  failure_last to [] pointer none = (neither (walk (expected_below level to pointer []) pointer.child) None none).0
  failure_last to (next ∷ rest) pointer none =
      failure_last to rest pointer (neither (walk (expected_below level to next (rest ++ pointer ∷ [])) next.child)
      (pointers_failure walk level to (rest ++ pointer ∷ [])) none).1

-- ---- pointers' ranges

pub spaced_front : (from to : Option Key) (front rest : List Pointer) → AreSpaced from to (front ++ rest)
    → AreSpaced from (next_key to rest) front
spaced_front from to [] rest spaced = tt
spaced_front from to (pointer ∷ front) rest spaced = (
  spaced.0,
  subst (λ (k : Option Key). is_to k pointer.key ≡ true) (next_front to front rest) spaced.1,
  spaced_front
      from to front rest spaced.2,
) where
  next_front : (to : Option Key) (front rest : List Pointer)
      → next_key to (front ++ rest) ≡ next_key (next_key to rest) front
  next_front to [] rest = refl
  next_front to (pointer ∷ front) rest = refl

pub spaced_last : (from to : Option Key) (front : List Pointer) (pointer : Pointer)
    → AreSpaced from to (front ++ pointer ∷ [])
    → (is_from from pointer.key ≡ true) × (is_to to pointer.key ≡ true)
spaced_last from to [] pointer spaced = (spaced.0, spaced.1)
spaced_last from to (next ∷ front) pointer spaced = spaced_last from to front pointer spaced.2

-- ---- one node

module _ (super : Super) (events : List Event) where
  found_formed : (walk : Expected → ℕ → Option Failure) (expected : Expected) (address : ℕ) (node : Node)
      → found_failure (node_failure Files super) walk expected address (Ok node) ≡ None
      → form_failure Files super expected address node ≡ None
  unfolding node_failure
  found_formed walk expected address node none =
      let way = way_failure Files super expected address node in
      let shape = shape_failure super.nodesize expected address node in
      let items = unless (list_all (is_item_of Files super.generation) (own_items node)) rule.Item address in
      first_two way shape items
      (neither (first_failure (way ∷ shape ∷ items ∷ []))
      (pointers_failure walk ((header_of node).level - 1) expected.to (own_pointers node)) none).0

  pub walk_formed : (depth : ℕ) (expected : Expected) (address : ℕ) (node : Node)
      → node_found super (content events) address ≡ Ok node
      → all_failure super events depth expected address ≡ None → form_failure Files super expected address node ≡ None
  unfolding walk_failure
  walk_formed zero expected address node is none = found_formed (λ expected address. None) expected address node
      (rw is at none)
  walk_formed (suc depth) expected address node is none =
      found_formed (walk_failure (node_failure Files super) (node_found super (content events)) depth) expected address
      node (rw is at none)

  pub walk_under : (depth : ℕ) (expected : Expected) (address : ℕ) (header : Header) (pointers : List Pointer)
      → node_found super (content events) address ≡ Ok (Inner header pointers)
      → all_failure super events (suc depth) expected address ≡ None
      → below_failure super events depth (header.level - 1) expected.to pointers ≡ None
  walk_under depth expected address header pointers is none =
      sym (walk-inner Files super (node_found super (content events)) depth expected address header pointers is
      (walk_formed (suc depth) expected address (Inner header pointers) is none)) ∙ none

  -- ---- keys of pointers

  first_to : (to : Option Key) (from : Key) (keys : List Key) → is_first from keys ≡ true → ends_before to keys ≡ true
      → is_to to from ≡ true
  first_to to from [] first ends = absurd cc
  first_to to from (key ∷ keys) first ends =
      let all = and_parts (is_to to key) (list_all (is_to to) keys) (sym (ends_before-each to (key ∷ keys)) ∙ ends) in
      subst (λ (k : Key). is_to to k ≡ true) (same_key-true key from first) all.0

  shaped_first : (nodesize : ℕ) (from : Key) (node : Node) → is_shaped nodesize (Some from) node ≡ true
      → is_first from (own_keys node) ≡ true
  unfolding is_shaped
  shaped_first nodesize from node shaped =
      (and_parts (nat_le (capacity nodesize) (4 * used_bytes node)) (is_first from (own_keys node)) shaped).1

  child_to : (depth level : ℕ) (to : Option Key) (pointer : Pointer) (others : List Pointer)
      → all_failure super events depth (expected_below level to pointer others) pointer.child ≡ None
      → is_to (next_key to others) pointer.key ≡ true
  child_to depth level to pointer others none =
      let expected = expected_below level to pointer others in
      let passed = walk-passed Files super (node_found super (content events)) depth expected pointer.child none in
      let keeps = form_parts super expected pointer.child passed.node
      (walk_formed depth expected pointer.child passed.node passed.is none) in
      first_to (next_key to others) pointer.key (own_keys passed.node)
      (shaped_first super.nodesize pointer.key passed.node keeps.shaped) keeps.ends

  all_to : (depth level : ℕ) (to : Option Key) (pointers : List Pointer)
      → below_failure super events depth level to pointers ≡ None
      → list_all (is_to to) (map (λ pointer. pointer.key) pointers) ≡ true
  all_to depth level to [] none = refl
  all_to depth level to (pointer ∷ []) none =
      let walk = walk_failure (node_failure Files super) (node_found super (content events)) depth in
      and_from (is_to to pointer.key) true
      (child_to depth level to pointer []
      (neither (walk (expected_below level to pointer []) pointer.child) None none).0) refl
  all_to depth level to (pointer ∷ next ∷ rest) none =
      let walk = walk_failure (node_failure Files super) (node_found super (content events)) depth in
      let parts = neither (walk (expected_below level to pointer (next ∷ rest)) pointer.child)
      (pointers_failure walk level to (next ∷ rest)) none in
      let later = all_to depth level to (next ∷ rest) parts.1 in
      let keys = map (λ (pointer : Pointer). pointer.key) rest in
      let two = and_parts (is_to to next.key) (list_all (is_to to) keys) later in
      let here = child_to depth level to pointer (next ∷ rest) parts.0 in
      and_from (is_to to pointer.key) (is_to to next.key && list_all (is_to to) keys)
      (is_to-earlier to next.key pointer.key two.0 here) later

  -- where nothing fails below pointers, their keys end before the next one on the way
  pub pointers_end : (depth level : ℕ) (to : Option Key) (pointers : List Pointer)
      → below_failure super events depth level to pointers ≡ None
      → ends_before to (map (λ pointer. pointer.key) pointers) ≡ true
  pointers_end depth level to pointers none = ends_before-each to (map (λ (pointer : Pointer). pointer.key) pointers)
      ∙ all_to depth level to pointers none
