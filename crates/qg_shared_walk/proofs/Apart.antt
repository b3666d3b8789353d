-- A tree whose walk meets no failure reaches no address twice, and each pointer of its nodes leads to one of them, a
-- level lower.
use Rattle.std.proofs.Common.{◌≡◌, ℕ, zero, suc, ◌+◌, ◌-◌, ◌*◌, ◌≤◌, Bool, true, false, List, [], ◌∷◌, ◌++◌, map}
use Rattle.std.proofs.Common.{eqb, Option, Some, None, refl, sym, ap, subst, ◌∙◌, arith, inl, inr}
use Rattle.std.specs.Prelude.{Result, Ok, Err, is_none, not, nat_le}
use Rattle.std.specs.List.{Contains, IsDistinct, list_all}
use Rattle.std.specs.Option.{option_and_then}
use Rattle.std.specs.Ordering.{is_lt}
use Rattle.std.specs.Result.{result_ok}
use Rattle.std.proofs.lemmas.Bool.{and_parts, eq-eqb, eqb-true, false≢true}
use Rattle.std.proofs.lemmas.List.Elements.{Contains-append_cases, Contains-append_left, Contains-append_right}
use Rattle.std.proofs.lemmas.Option.{same_Some, option_and_then_some}
use Rattle.qg_num.specs.Key.{key_cmp}
use Rattle.qg_num.specs.declared.key.Key.{Key}
use Rattle.qg_node.specs.declared.item.Item.{Item}
use Rattle.qg_node.specs.declared.pointer.Pointer.{Pointer}
use Rattle.qg_node.specs.declared.node.Header.{Header}
use Rattle.qg_node.specs.declared.node.Node.{Node}
use Rattle.qg_node.specs.declared.node.Node.TheVariants.{Leaf, Inner}
use Rattle.qg_node.specs.Nodes.{ascends_from, header_of, is_ascending, own_items, own_keys, own_pointers}
use Rattle.qg_super.specs.declared.superblock.Super.{Super}
use Rattle.qg_super.specs.Places.{capacity}
use Rattle.qg_node.specs.Nodes.{used_bytes}
use Rattle.qg_image.specs.Below.{inner_pointers, joined, leaf_items, nodes_below}
use Rattle.qg_image.specs.IsShaped.{is_first, is_shaped}
use Rattle.qg_image.specs.ItemMeaning.{when}
use Rattle.qg_image.proofs.Contained.{contains_cases, contains_here, none_contained}
use Rattle.qg_image.specs.declared.failure.Failure.{Failure}
use Rattle.qg_image.specs.declared.tree.TreeKind.{TreeKind}
use Rattle.qg_image.specs.declared.expected.Expected.{Expected}
use Rattle.qg_image.specs.Failure.{first_failure, unless}
use Rattle.qg_num.specs.declared.rule.Rule.TheVariants as rule
use Rattle.qg_image.specs.Walk.{begins_at, deepest, ends_before, found_failure, is_item_of, is_told, next_key}
use Rattle.qg_image.specs.Walk.{node_failure, node_found, pointers_failure, shape_failure, tree_failure, walk_failure}
use Rattle.qg_image.specs.Walk.{way_failure}
use Rattle.qg_image.specs.ItemsUnder.{is_way, nodes_of, nodes_under}
use Rattle.qg_image.specs.ImageState.{level_in, tree_nodes}
use Rattle.qg_walk.specs.Added.{is_from, is_to}
use Rattle.qg_walk.specs.Standing.{expected_below}
use Rattle.qg_walk.proofs.Failures.{IsFormed, IsFormed-way, first_none, kept-none, neither, none_of_two, walk-passed}
use Rattle.qg_walk.proofs.KeyRanges.{begins_at-all, ends_before-each, is_from-later, is_to-earlier, not_less_behind}
use Rattle.qg_reach.proofs.Members.{one_mapped}
use Rattle.qg_reach.proofs.Reached.{address_of}
use Rattle.qg_shared_walk.proofs.Distinct.{distinct_both, distinct_none, distinct_with}
use Rattle.qg_shared_walk.proofs.Found.{found_is}

-- ---- one node

-- the first of some keys lies within a range
pub record BeginsWithin (from to : Option Key) (keys : List Key) : Type 0 where
  pub key : Key
  pub later : List Key
  pub are : keys ≡ key ∷ later
  pub low : is_from from key ≡ true
  pub high : is_to to key ≡ true

-- below a pointer a node's keys begin within the range on the way
abbrev pub IsKeyed : Option Key → Option Key → Node → Type 0
IsKeyed None to node = Unit {0}
IsKeyed (Some from) to node = BeginsWithin (Some from) to (own_keys node)

first_within : (from : Key) (to : Option Key) (keys : List Key) → is_first from keys ≡ true
    → begins_at (Some from) keys ≡ true
    → ends_before to keys ≡ true → BeginsWithin (Some from) to keys
first_within from to [] first begins ends = absurd (false≢true first)
first_within from to (key ∷ keys) first begins ends = record {
  key = key;
  later = keys;
  are = refl;
  low = (and_parts (is_from (Some from) key) (list_all (is_from (Some from)) keys)
      (begins_at-all (Some from) (key ∷ keys) begins)).0;
  high = (and_parts (is_to to key) (list_all (is_to to) keys) (sym (ends_before-each to (key ∷ keys)) ∙ ends)).0;
}

keyed : (nodesize : ℕ) (from to : Option Key) (node : Node) → is_shaped nodesize from node ≡ true
    → begins_at from (own_keys node) ≡ true
    → ends_before to (own_keys node) ≡ true → IsKeyed from to node
unfolding is_shaped
keyed nodesize None to node shaped begins ends = tt
keyed nodesize (Some from) to node shaped begins ends =
    let first =
    (and_parts (nat_le (capacity nodesize) (4 * used_bytes node)) (is_first from (own_keys node)) shaped).1 in
    first_within from to (own_keys node) first begins ends

keyed_wider : (from : Option Key) (low : Key) (to : Option Key) (node : Node) → is_from from low ≡ true
    → IsKeyed (Some low) to node → IsKeyed from to node
keyed_wider None low to node later is = tt
keyed_wider (Some from) low to node later is = record {
  key = is.key;
  later = is.later;
  are = is.are;
  low = is_from-later (Some from) low is.key later is.low;
  high = is.high;
}

keyed_higher : (from : Key) (high : Key) (to : Option Key) (node : Node) → is_to to high ≡ true
    → IsKeyed (Some from) (Some high) node → IsKeyed (Some from) to node
keyed_higher from high to node earlier is = record {
  key = is.key;
  later = is.later;
  are = is.are;
  low = is.low;
  high = is_to-earlier to high is.key earlier is.high;
}

-- no key is both before another and not before it
not_both : (b : Bool) → b ≡ true → not b ≡ true → ⊥
not_both true before behind = false≢true behind
not_both false before behind = false≢true before

-- so a node does not stand on both sides of a key
one_side : (from key : Key) (to : Option Key) (node : Node) → IsKeyed (Some from) (Some key) node
    → IsKeyed (Some key) to node → ⊥
one_side from key to node before behind =
    let same : before.key ≡ behind.key = let lists = sym before.are ∙ behind.are in cc in
    not_both (is_lt (key_cmp behind.key key)) (subst (λ k. is_lt (key_cmp k key) ≡ true) same before.high) behind.low

-- ---- a branch of a tree

module _ (tree : TreeKind) (super : Super) (image : List ℕ) where
  abbrev found : ℕ → Result Node Failure
  found = node_found super image

  abbrev there : ℕ → Option Node
  there = nodes_of (node_found super image)

  -- a node is no higher than a level, is found where it lies, begins within a range, and holds items that it may hold
  pub record IsPlaced (from to : Option Key) (level : ℕ) (node : Node) : Type 0 where
    pub low : (header_of node).level ≤ level
    pub lies : node_found super image (address_of node) ≡ Ok node
    pub keyed : IsKeyed from to node
    pub held : list_all (is_item_of tree super.generation) (own_items node) ≡ true

-- a node of a level lies at an address
pub record HasNodeAt (nodes : List Node) (level address : ℕ) : Type 0 where
  pub node : Node
  pub has : Contains nodes node
  pub lies : address_of node ≡ address
  pub level_is : (header_of node).level ≡ level

-- each pointer of some nodes leads to one of them, a level lower
abbrev pub AreLinked : List Node → Type 0
AreLinked nodes =
    (parent : Node) (pointer : Pointer) → Contains nodes parent → Contains (own_pointers parent) pointer
    → (level : ℕ) × ((header_of parent).level ≡ level + 1) × HasNodeAt nodes level pointer.child

-- nodes that were reached: each is placed, no two lie at one address, and pointers lead to them
pub record AreReached (tree : TreeKind) (super : Super) (image : List ℕ) (from to : Option Key) (level : ℕ)
    (nodes : List Node) : Type 0 where
  pub each : (node : Node) → Contains nodes node → IsPlaced tree super image from to level node
  pub distinct : IsDistinct eqb (map address_of nodes)
  pub linked : AreLinked nodes

-- those below pointers, each of which leads to one of them
pub record AreBelow (tree : TreeKind) (super : Super) (image : List ℕ) (to : Option Key) (level : ℕ)
    (pointers : List Pointer) (nodes : List Node) : Type 0 where
  pub reached : AreReached tree super image (next_key None pointers) to level nodes
  pub starts : (pointer : Pointer) → Contains pointers pointer → HasNodeAt nodes level pointer.child

-- those from an address down
pub record IsBranch (tree : TreeKind) (super : Super) (image : List ℕ) (from to : Option Key) (level address : ℕ)
    (nodes : List Node) : Type 0 where
  pub reached : AreReached tree super image from to level nodes
  pub start : HasNodeAt nodes level address

has_on_left : (front back : List Node) (level address : ℕ) → HasNodeAt front level address
    → HasNodeAt (front ++ back) level address
has_on_left front back level address has =
    record {
      node = has.node;
      has = Contains-append_left front back has.node has.has;
      lies = has.lies;
      level_is = has.level_is;
    }

has_on_right : (front back : List Node) (level address : ℕ) → HasNodeAt back level address
    → HasNodeAt (front ++ back) level address
has_on_right front back level address has =
    record {
      node = has.node;
      has = Contains-append_right front back has.node has.has;
      lies = has.lies;
      level_is = has.level_is;
    }

-- ---- below pointers

module _ (tree : TreeKind) (super : Super) (image : List ℕ) (to : Option Key) (level : ℕ) where
  none_below : AreBelow tree super image to level [] []
  none_below = record {
    reached = record {
      each = λ node has. absurd (none_contained node has);
      distinct = distinct_none;
      linked = λ parent pointer has has'. absurd (none_contained parent has);
    };
    starts = λ pointer has. absurd (none_contained pointer has);
  }

  -- a branch, and what is below the pointers behind
  module _ (pointer : Pointer) (pointers : List Pointer) (first rest : List Node)
      (branch : IsBranch tree super image (Some pointer.key) (next_key to pointers) level pointer.child first)
      (others : AreBelow tree super image to level pointers rest)
      (apart : (node : Node) → Contains first node → Contains rest node → ⊥)
      (wider : (node : Node) → IsKeyed (Some pointer.key) (next_key to pointers) node
      → IsKeyed (Some pointer.key) to node)
      (lower : (node : Node) → Contains rest node → IsKeyed (next_key None pointers) to node
      → IsKeyed (Some pointer.key) to node) where
    differ : (x y : Node) → Contains first x → Contains rest y → address_of x ≡ address_of y → ⊥
    differ x y has has' same =
        let here = (branch.reached.each x has).lies in
        let behind = (others.reached.each y has').lies in
        let one : x ≡ y = let both = sym here ∙ ap (node_found super image) same ∙ behind in cc in
        apart x has (subst (Contains rest) (sym one) has')

    one_placed : (node : Node) → Contains (first ++ rest) node
        → IsPlaced tree super image (Some pointer.key) to level node
    one_placed node has = elim (Contains-append_cases first rest node has) [
      | inl early ↦
          let placed = branch.reached.each node early in
          record { low = placed.low; lies = placed.lies; keyed = wider node placed.keyed; held = placed.held }
      | inr late ↦
          let placed = others.reached.each node late in
          record { low = placed.low; lies = placed.lies; keyed = lower node late placed.keyed; held = placed.held }
    ]

    one_linked : AreLinked (first ++ rest)
    one_linked parent child has has' = elim (Contains-append_cases first rest parent has) [
      | inl early ↦
          let link = branch.reached.linked parent child early has' in
          (link.0, link.1, has_on_left first rest link.0 child.child link.2)
      | inr late ↦
          let link = others.reached.linked parent child late has' in
          (link.0, link.1, has_on_right first rest link.0 child.child link.2)
    ]

    one_start : (other : Pointer) → Contains (pointer ∷ pointers) other → HasNodeAt (first ++ rest) level other.child
    one_start other has = elim (contains_cases pointer pointers other has) [
      | inl is ↦ has_on_left first rest level other.child (subst (λ (p : Pointer). HasNodeAt first level p.child) is
          branch.start)
      | inr later ↦ has_on_right first rest level other.child (others.starts other later)
    ]

    one_more : AreBelow tree super image to level (pointer ∷ pointers) (first ++ rest)
    one_more = record {
      reached = record {
        each = one_placed;
        distinct = distinct_both address_of first rest branch.reached.distinct others.reached.distinct differ;
        linked = one_linked;
      };
      starts = one_start;
    }

  -- the keys of pointers: they ascend, and end before the one on the way
  record AreKeys (pointers : List Pointer) : Type 0 where
    ascending : is_ascending (map (λ pointer. pointer.key) pointers) ≡ true
    ends : list_all (is_to to) (map (λ pointer. pointer.key) pointers) ≡ true

  later_keys : (pointer : Pointer) (pointers : List Pointer) → AreKeys (pointer ∷ pointers) → AreKeys pointers
  unfolding is_ascending ascends_from
  later_keys pointer [] keys = record { ascending = refl; ends = refl }
  later_keys pointer (next ∷ pointers) keys =
      let own = map (λ (pointer : Pointer). pointer.key) pointers in
      record {
        ascending = (and_parts (is_lt (key_cmp pointer.key next.key)) (ascends_from next.key own) keys.ascending).1;
        ends = (and_parts (is_to to pointer.key) (list_all (is_to to) (next.key ∷ own)) keys.ends).1;
      }

  -- the next key is behind the first, and before the one on the way
  record IsNext (pointer next : Pointer) : Type 0 where
    behind : is_from (Some pointer.key) next.key ≡ true
    before : is_to to next.key ≡ true

  is_next : (pointer next : Pointer) (pointers : List Pointer) → AreKeys (pointer ∷ next ∷ pointers)
      → IsNext pointer next
  unfolding is_ascending ascends_from
  is_next pointer next pointers keys =
      let own = map (λ (pointer : Pointer). pointer.key) pointers in
      let rest = (and_parts (is_to to pointer.key) (list_all (is_to to) (next.key ∷ own)) keys.ends).1 in
      record {
        behind = not_less_behind pointer.key next.key (and_parts (is_lt (key_cmp pointer.key next.key))
            (ascends_from next.key own) keys.ascending).0;
        before = (and_parts (is_to to next.key) (list_all (is_to to) own) rest).0;
      }

  below_all : (under : Pointer → Option (List Node)) (walk : Expected → ℕ → Option Failure)
      → ((pointer : Pointer) (others : List Pointer) (nodes : List Node)
      → walk (expected_below level to pointer others) pointer.child ≡ None
      → under pointer ≡ Some nodes → IsBranch tree super image (Some pointer.key) (next_key to others) level
      pointer.child nodes)
      → (pointers : List Pointer) (nodes : List Node) → AreKeys pointers
      → pointers_failure walk level to pointers ≡ None
      → joined under pointers ≡ Some nodes → AreBelow tree super image to level pointers nodes
  below_all under walk branch [] nodes keys none are = subst (AreBelow tree super image to level [])
      (same_Some [] nodes are) none_below
  below_all under walk branch (pointer ∷ []) nodes keys none are =
      let here = (neither (walk (expected_below level to pointer []) pointer.child) None none).0 in
      option_and_then_some (λ first. option_and_then (λ rest. Some (first ++ rest)) (Some [])) (under pointer) nodes are
      (λ first is all.
      subst (AreBelow tree super image to level (pointer ∷ [])) (same_Some (first ++ []) nodes all)
      (one_more pointer [] first [] (branch pointer [] first here is) none_below
      (λ node has has'. none_contained node has') (λ node is. is) (λ node has is. absurd (none_contained node has))))
  below_all under walk branch (pointer ∷ next ∷ pointers) nodes keys none are =
      let parts = neither (walk (expected_below level to pointer (next ∷ pointers)) pointer.child)
      (pointers_failure walk level to (next ∷ pointers)) none in
      let step = is_next pointer next pointers keys in
      option_and_then_some (λ first. option_and_then (λ rest. Some (first ++ rest)) (joined under (next ∷ pointers)))
      (under pointer) nodes are (λ first is both.
      option_and_then_some (λ rest. Some (first ++ rest)) (joined under (next ∷ pointers)) nodes both (λ rest is' all.
      let one = branch pointer (next ∷ pointers) first parts.0 is in
      let others = below_all under walk branch (next ∷ pointers) rest (later_keys pointer (next ∷ pointers) keys)
      parts.1 is' in
      subst (AreBelow tree super image to level (pointer ∷ next ∷ pointers)) (same_Some (first ++ rest) nodes all)
      (one_more pointer (next ∷ pointers) first rest one others
      (λ node has has'. one_side pointer.key next.key to node (one.reached.each node has).keyed
      (others.reached.each node has').keyed)
      (λ node is. keyed_higher pointer.key next.key to node step.before is)
      (λ node has is. keyed_wider (Some pointer.key) next.key to node step.behind is))))

-- ---- from an address down

-- what is known of a node that breaks no rule
record IsFit (tree : TreeKind) (super : Super) (expected : Expected) (node : Node) : Type 0 where
  formed : IsFormed expected node
  shaped : is_shaped super.nodesize expected.from node ≡ true
  held : list_all (is_item_of tree super.generation) (own_items node) ≡ true

module _ (tree : TreeKind) (super : Super) (image : List ℕ) where
  fits : (expected : Expected) (address : ℕ) (node : Node) → node_failure tree super expected address node ≡ None
      → IsFit tree super expected node
  unfolding node_failure
  fits expected address node none =
      let way = way_failure tree super expected address node in
      let shape = shape_failure super.nodesize expected address node in
      let held = list_all (is_item_of tree super.generation) (own_items node) in
      let parts = three way shape (unless held rule.Item address) none in
      record {
        formed = IsFormed-way tree super expected address node parts.0;
        shaped = kept-none (is_shaped super.nodesize expected.from node) rule.Shape address parts.1;
        held = kept-none held rule.Item address parts.2;
      }
    where
      three : (a b c : Option Failure) → first_failure (a ∷ b ∷ c ∷ []) ≡ None → (a ≡ None) × (b ≡ None) × (c ≡ None)
      three None None None none = (refl, refl, refl)
      three None None (Some failure) none = absurd cc
      three None (Some failure) c none = absurd cc
      three (Some failure) b c none = absurd cc

  abbrev Branch : Expected → ℕ → ℕ → List Node → Type 0
  Branch expected level address nodes = IsBranch tree super image expected.from expected.to level address nodes

  own_placed : (expected : Expected) (level address : ℕ) (node : Node) → node_found super image address ≡ Ok node
      → IsFit tree super expected node
      → (header_of node).level ≡ level → IsPlaced tree super image expected.from expected.to level node
  own_placed expected level address node is fit high = record {
    low = omega arith;
    lies = subst (λ a. node_found super image a ≡ Ok node) (sym (found_is super image address node is).lies) is;
    keyed = keyed super.nodesize expected.from expected.to node fit.shaped fit.formed.begins fit.formed.ends;
    held = fit.held;
  }

  own_start : (nodes : List Node) (level address : ℕ) (node : Node) → node_found super image address ≡ Ok node
      → (header_of node).level ≡ level
      → Contains nodes node → HasNodeAt nodes level address
  own_start nodes level address node is high has = record {
    node = node;
    has = has;
    lies = (found_is super image address node is).lies;
    level_is = high;
  }

  -- a leaf
  alone : (expected : Expected) (level address : ℕ) (header : Header) (items : List Item)
      → node_found super image address ≡ Ok (Leaf header items)
      → IsFit tree super expected (Leaf header items) → header.level ≡ level
      → Branch expected level address (Leaf header items ∷ [])
  alone expected level address header items is fit high =
      let leaf = Leaf header items in
      let placed = own_placed expected level address leaf is fit high in
      record {
        reached = record {
          each = λ node has. elim (contains_cases leaf [] node has) [
            | inl same ↦ subst (IsPlaced tree super image expected.from expected.to level) same placed
            | inr none ↦ absurd (none_contained node none)
          ];
          distinct = distinct_with (address_of leaf) [] (λ m has same. none_contained m has) distinct_none;
          linked = λ parent pointer has has'. elim (contains_cases leaf [] parent has) [
            | inl same ↦ absurd (none_contained pointer (subst (λ n. Contains (own_pointers n) pointer) (sym same)
                has'))
            | inr none ↦ absurd (none_contained parent none)
          ];
        };
        start = own_start (leaf ∷ []) level address leaf is high (contains_here leaf []);
      }

  leaf_branch : (walk : Expected → ℕ → Option Failure) (expected : Expected) (address : ℕ) (here : Result Node Failure)
      (nodes : List Node)
      → node_found super image address ≡ here → ((node : Node) → here ≡ Ok node → (header_of node).level ≡ 0)
      → found_failure (node_failure tree super) walk expected address here ≡ None
      → option_and_then (λ node. option_and_then (λ items. Some (node ∷ [])) (leaf_items node)) (result_ok here) ≡ Some
      nodes
      → Branch expected 0 address nodes
  leaf_branch walk expected address (Err failure) nodes is known none are = absurd cc
  leaf_branch walk expected address (Ok (Inner header pointers)) nodes is known none are = absurd cc
  leaf_branch walk expected address (Ok (Leaf header items)) nodes is known none are =
      let leaf = Leaf header items in
      let own = (neither (node_failure tree super expected address leaf)
      (pointers_failure walk (header.level - 1) expected.to []) none).0 in
      subst (Branch expected 0 address) (same_Some (leaf ∷ []) nodes are)
      (alone expected 0 address header items is (fits expected address leaf own) (known leaf refl))

  -- an inner node, and what is below its pointers
  module _ (expected : Expected) (level address : ℕ) (header : Header) (pointers : List Pointer) (below : List Node)
      (is : node_found super image address ≡ Ok (Inner header pointers))
      (fit : IsFit tree super expected (Inner header pointers))
      (high : header.level ≡ suc level) (under : AreBelow tree super image expected.to level pointers below) where
    abbrev inner : Node
    inner = Inner header pointers

    low_keyed : (from : Option Key) (pointers : List Pointer) (node : Node)
        → is_shaped super.nodesize from (Inner header pointers) ≡ true
        → begins_at from (map (λ pointer. pointer.key) pointers) ≡ true
        → IsKeyed (next_key None pointers) expected.to node → IsKeyed from expected.to node
    unfolding is_shaped
    low_keyed None pointers node shaped begins keyed' = tt
    low_keyed (Some from) [] node shaped begins keyed' =
        absurd (false≢true (and_parts (nat_le (capacity super.nodesize) (4 * used_bytes (Inner header []))) false
        shaped).1)
    low_keyed (Some from) (pointer ∷ pointers) node shaped begins keyed' =
        let keys = map (λ (pointer : Pointer). pointer.key) pointers in
        let later = (and_parts (is_from (Some from) pointer.key) (list_all (is_from (Some from)) keys)
        (begins_at-all (Some from) (pointer.key ∷ keys) begins)).0 in
        keyed_wider (Some from) pointer.key expected.to node later keyed'

    lower_placed : (node : Node) → Contains below node → IsPlaced tree super image expected.from expected.to (suc level)
        node
    lower_placed node has =
        let placed = under.reached.each node has in
        record {
          low = omega (arith, placed.low);
          lies = placed.lies;
          keyed = low_keyed expected.from pointers node
              fit.shaped fit.formed.begins placed.keyed;
          held = placed.held;
        }

    inner_placed : IsPlaced tree super image expected.from expected.to (suc level) inner
    inner_placed = own_placed expected (suc level) address inner is fit high

    all_placed : (node : Node) → Contains (inner ∷ below) node
        → IsPlaced tree super image expected.from expected.to (suc level) node
    all_placed node has = elim (contains_cases inner below node has) [
      | inl same ↦ subst (IsPlaced tree super image expected.from expected.to (suc level)) same inner_placed
      | inr later ↦ lower_placed node later
    ]

    above : (m : ℕ) → Contains (map address_of below) m → address_of inner ≡ m → ⊥
    above m has same =
        let one = one_mapped address_of below m has in
        let placed = under.reached.each one.0 one.1 in
        let at : node_found super image (address_of inner) ≡ Ok one.0
        = subst (λ a. node_found super image a ≡ Ok one.0) (one.2 ∙ sym same) placed.lies in
        let alike : inner ≡ one.0 = let both = sym inner_placed.lies ∙ at in cc in
        let levels : header.level ≡ (header_of one.0).level = ap (λ (n : Node). (header_of n).level) alike in
        omega (arith, levels, placed.low, high)

    all_linked : AreLinked (inner ∷ below)
    all_linked parent pointer has has' = elim (contains_cases inner below parent has) [
      | inl same ↦
          let own = subst (λ n. Contains (own_pointers n) pointer) (sym same) has' in
          let level_is : (header_of parent).level ≡ level + 1 = let node_level = ap (λ (n : Node). (header_of n).level)
          same in omega (arith, node_level, high) in
          (level, level_is, has_on_right (inner ∷ []) below level pointer.child (under.starts pointer own))
      | inr later ↦
          let link = under.reached.linked parent pointer later has' in
          (link.0, link.1, has_on_right (inner ∷ []) below link.0 pointer.child link.2)
    ]

    with_below : Branch expected (suc level) address (inner ∷ below)
    with_below = record {
      reached = record {
        each = all_placed;
        distinct = distinct_with (address_of inner) (map address_of below) above under.reached.distinct;
        linked = all_linked;
      };
      start = own_start (inner ∷ below) (suc level) address inner is high (contains_here inner below);
    }

  inner_keys : (expected : Expected) (level address : ℕ) (header : Header) (pointers : List Pointer)
      → node_found super image address ≡ Ok (Inner header pointers) → IsFit tree super expected (Inner header pointers)
      → AreKeys tree super image expected.to level pointers
  inner_keys expected level address header pointers is fit = record {
    ascending = (found_is super image address (Inner header pointers) is).ascending;
    ends = sym (ends_before-each expected.to (map (λ pointer. pointer.key) pointers)) ∙ fit.formed.ends;
  }

  inner_branch : (level : ℕ) (walk : Expected → ℕ → Option Failure) (under : Pointer → Option (List Node))
      (expected : Expected)
      → ((pointer : Pointer) (others : List Pointer) (nodes : List Node)
      → walk (expected_below level expected.to pointer others) pointer.child ≡ None
      → under pointer ≡ Some nodes → IsBranch tree super image (Some pointer.key) (next_key expected.to others) level
      pointer.child nodes)
      → (address : ℕ) (here : Result Node Failure) (nodes : List Node)
      → node_found super image address ≡ here → ((node : Node) → here ≡ Ok node → (header_of node).level ≡ suc level)
      → found_failure (node_failure tree super) walk expected address here ≡ None
      → option_and_then (λ node. option_and_then (λ below. Some (node ∷ below))
      (option_and_then (joined under) (inner_pointers node))) (result_ok here) ≡ Some nodes
      → Branch expected (suc level) address nodes
  inner_branch level walk under expected branch address (Err failure) nodes is known none are = absurd cc
  inner_branch level walk under expected branch address (Ok (Leaf header items)) nodes is known none are = absurd cc
  inner_branch level walk under expected branch address (Ok (Inner header pointers)) nodes is known none are =
      let inner = Inner header pointers in
      let parts = neither (node_failure tree super expected address inner)
      (pointers_failure walk (header.level - 1) expected.to pointers) none in
      let fit = fits expected address inner parts.0 in
      let high = known inner refl in
      let less : header.level - 1 ≡ level = omega arith in
      let passed = subst (λ n. pointers_failure walk n expected.to pointers ≡ None) less parts.1 in
      option_and_then_some (λ below. Some (inner ∷ below)) (joined under pointers) nodes are (λ below stand all.
      let keys = inner_keys expected level address header pointers is fit in
      let reached = below_all tree super image expected.to level under walk branch pointers below keys passed stand in
      subst (Branch expected (suc level) address) (same_Some (inner ∷ below) nodes all)
      (with_below expected level address header pointers below is fit high reached))

  known_below : (depth level : ℕ) (expected : Expected) (address : ℕ) → expected.level ≡ Some level
      → walk_failure (node_failure tree super) (node_found super image) depth expected address ≡ None
      → (node : Node) → node_found super image address ≡ Ok node → (header_of node).level ≡ level
  known_below depth level expected address told none node is =
      let passed = walk-passed tree super (node_found super image) depth expected address none in
      let one : passed.node ≡ node = let both = sym passed.is ∙ is in cc in
      let same = subst (λ (t : Option ℕ). is_told t (header_of passed.node).level ≡ true) told passed.level in
      ap (λ (n : Node). (header_of n).level) (sym one) ∙ sym (eqb-true level (header_of passed.node).level same)

  branch_from : (level depth : ℕ) (expected : Expected) (address : ℕ) (nodes : List Node) → level ≤ depth
      → ((node : Node) → node_found super image address ≡ Ok node → (header_of node).level ≡ level)
      → walk_failure (node_failure tree super) (node_found super image) depth expected address ≡ None
      → nodes_below (nodes_of (node_found super image)) level address ≡ Some nodes → Branch expected level address nodes
  unfolding walk_failure
  branch_from zero zero expected address nodes deep known none are =
      leaf_branch (λ expected address. None) expected address (node_found super image address) nodes refl known none are
  branch_from zero (suc depth) expected address nodes deep known none are =
      leaf_branch (walk_failure (node_failure tree super) (node_found super image) depth) expected address
      (node_found super image address) nodes refl known none are
  branch_from (suc level) zero expected address nodes deep known none are = absurd (omega arith)
  branch_from (suc level) (suc depth) expected address nodes deep known none are =
      inner_branch level (walk_failure (node_failure tree super) (node_found super image) depth)
      (λ pointer. nodes_below (nodes_of (node_found super image)) level pointer.child) expected
      (λ pointer others nodes' none' is.
      branch_from level depth (expected_below level expected.to pointer others) pointer.child nodes' (omega arith)
      (known_below depth level (expected_below level expected.to pointer others) pointer.child refl none') none' is)
      address (node_found super image address) nodes refl known none are

when_some : {A : Type 0} (test : Bool) (given : Option A) (x : A) → when test given ≡ Some x → given ≡ Some x
when_some true given x is = is
when_some false given x is = absurd cc

level_is : (super : Super) (image : List ℕ) (address : ℕ) (node : Node) → node_found super image address ≡ Ok node
    → (header_of node).level ≡ level_in super image address
level_is super image address node is = rw is refl

-- ---- that there are nodes

-- some nodes stand there
record AreSome (there : Option (List Node)) : Type 0 where
  nodes : List Node
  are : there ≡ Some nodes

module _ (tree : TreeKind) (super : Super) (image : List ℕ) where
  some_joined : (walk : Expected → ℕ → Option Failure) (under : Pointer → Option (List Node)) (level : ℕ)
      (to : Option Key)
      → ((pointer : Pointer) (others : List Pointer) → walk (expected_below level to pointer others) pointer.child
      ≡ None
      → AreSome (under pointer))
      → (pointers : List Pointer) → pointers_failure walk level to pointers ≡ None → AreSome (joined under pointers)
  some_joined walk under level to each [] none = record { nodes = []; are = refl }
  some_joined walk under level to each (pointer ∷ pointers) none =
      let parts = neither (walk (expected_below level to pointer pointers) pointer.child)
      (pointers_failure walk level to pointers) none in
      let first = each pointer pointers parts.0 in
      let rest = some_joined walk under level to each pointers parts.1 in
      record { nodes = first.nodes ++ rest.nodes; are = rw (first.are, rest.are) refl }

  some_leaf : (address : ℕ) (node : Node) → node_found super image address ≡ Ok node → (header_of node).level ≡ 0
      → AreSome (option_and_then (λ node. option_and_then (λ items. Some (node ∷ [])) (leaf_items node)) (Some node))
  some_leaf address (Leaf header items) is low = record { nodes = Leaf header items ∷ []; are = refl }
  some_leaf address (Inner header pointers) is low =
      let kind = (found_is super image address (Inner header pointers) is).kind in
      absurd (false≢true (kind ∙ eq-eqb header.level 0 low))

  some_inner : (level : ℕ) (walk : Expected → ℕ → Option Failure) (under : Pointer → Option (List Node))
      (expected : Expected)
      → ((pointer : Pointer) (others : List Pointer)
      → walk (expected_below level expected.to pointer others) pointer.child ≡ None → AreSome (under pointer))
      → (address : ℕ) (node : Node) → node_found super image address ≡ Ok node → (header_of node).level ≡ suc level
      → pointers_failure walk ((header_of node).level - 1) expected.to (own_pointers node) ≡ None
      → AreSome (option_and_then (λ node. option_and_then (λ below. Some (node ∷ below))
      (option_and_then (joined under) (inner_pointers node))) (Some node))
  some_inner level walk under expected each address (Leaf header items) is high none =
      let kind = (found_is super image address (Leaf header items) is).kind in
      let low = eqb-true header.level 0 (sym kind) in
      absurd (omega (arith, low, high))
  some_inner level walk under expected each address (Inner header pointers) is high none =
      let less : header.level - 1 ≡ level = omega (arith, high) in
      let below = some_joined walk under level expected.to each pointers
      (subst (λ n. pointers_failure walk n expected.to pointers ≡ None) less none) in
      record { nodes = Inner header pointers ∷ below.nodes; are = rw below.are refl }

  below_passed : (walk : Expected → ℕ → Option Failure) (expected : Expected) (address : ℕ) (here : Result Node Failure)
      (node : Node) → here ≡ Ok node → found_failure (node_failure tree super) walk expected address here ≡ None
      → pointers_failure walk ((header_of node).level - 1) expected.to (own_pointers node) ≡ None
  below_passed walk expected address (Err failure) node is none = absurd cc
  below_passed walk expected address (Ok other) node is none =
      let same : other ≡ node = cc in
      let parts = neither (node_failure tree super expected address other)
      (pointers_failure walk ((header_of other).level - 1) expected.to (own_pointers other)) none in
      subst (λ n. pointers_failure walk ((header_of n).level - 1) expected.to (own_pointers n) ≡ None) same parts.1

  some_from : (level depth : ℕ) (expected : Expected) (address : ℕ) → level ≤ depth
      → ((node : Node) → node_found super image address ≡ Ok node → (header_of node).level ≡ level)
      → walk_failure (node_failure tree super) (node_found super image) depth expected address ≡ None
      → AreSome (nodes_below (nodes_of (node_found super image)) level address)
  unfolding walk_failure
  some_from zero depth expected address deep known none =
      let passed = walk-passed tree super (node_found super image) depth expected address none in
      rw passed.is (some_leaf address passed.node passed.is (known passed.node passed.is))
  some_from (suc level) zero expected address deep known none = absurd (omega arith)
  some_from (suc level) (suc depth) expected address deep known none =
      let walk = walk_failure (node_failure tree super) (node_found super image) depth in
      let passed = walk-passed tree super (node_found super image) (suc depth) expected address none in
      let under = λ (pointer : Pointer). nodes_below (nodes_of (node_found super image)) level pointer.child in
      let below = below_passed walk expected address (node_found super image address) passed.node passed.is none in
      rw passed.is (some_inner level walk under expected
      (λ pointer others none'. some_from level depth (expected_below level expected.to pointer others) pointer.child
      (omega arith) (known_below tree super image depth level (expected_below level expected.to pointer others)
      pointer.child refl none') none') address passed.node passed.is (known passed.node passed.is) below)

  -- ---- the rules on the way are kept where all are

  way_node : (expected : Expected) (address : ℕ) (node : Node) → node_failure tree super expected address node ≡ None
      → way_failure tree super expected address node ≡ None
  unfolding node_failure
  way_node expected address node none =
      first_none (way_failure tree super expected address node) (shape_failure super.nodesize expected address node)
      (unless (list_all (is_item_of tree super.generation) (own_items node)) rule.Item address) none

  way_pointers : (all way : Expected → ℕ → Option Failure)
      → ((expected : Expected) (address : ℕ) → all expected address ≡ None → way expected address ≡ None)
      → (level : ℕ) (to : Option Key) (pointers : List Pointer) → pointers_failure all level to pointers ≡ None
      → pointers_failure way level to pointers ≡ None
  way_pointers all way each level to [] none = refl
  way_pointers all way each level to (pointer ∷ pointers) none =
      let expected = expected_below level to pointer pointers in
      let parts = neither (all expected pointer.child) (pointers_failure all level to pointers) none in
      none_of_two (way expected pointer.child) (pointers_failure way level to pointers)
      (each expected pointer.child parts.0) (way_pointers all way each level to pointers parts.1)

  way_found : (all way : Expected → ℕ → Option Failure)
      → ((expected : Expected) (address : ℕ) → all expected address ≡ None → way expected address ≡ None)
      → (expected : Expected) (address : ℕ) (here : Result Node Failure)
      → found_failure (node_failure tree super) all expected address here ≡ None
      → found_failure (way_failure tree super) way expected address here ≡ None
  way_found all way each expected address (Err failure) none = absurd cc
  way_found all way each expected address (Ok node) none =
      let level = (header_of node).level - 1 in
      let parts = neither (node_failure tree super expected address node)
      (pointers_failure all level expected.to (own_pointers node)) none in
      none_of_two (way_failure tree super expected address node)
      (pointers_failure way level expected.to (own_pointers node))
      (way_node expected address node parts.0)
      (way_pointers all way each level expected.to (own_pointers node) parts.1)

  way_walk : (depth : ℕ) (expected : Expected) (address : ℕ)
      → walk_failure (node_failure tree super) (node_found super image) depth expected address ≡ None
      → walk_failure (way_failure tree super) (node_found super image) depth expected address ≡ None
  unfolding walk_failure
  way_walk zero expected address none =
      way_found (λ expected address. None) (λ expected address. None) (λ expected address same. same) expected address
      (node_found super image address) none
  way_walk (suc depth) expected address none =
      way_found (walk_failure (node_failure tree super) (node_found super image) depth)
      (walk_failure (way_failure tree super) (node_found super image) depth) (way_walk depth) expected address
      (node_found super image address) none

  way_kept : (expected : Expected) (root : ℕ) → tree_failure tree super image expected root ≡ None
      → is_way tree super (node_found super image) expected root ≡ true
  unfolding tree_failure is_way
  way_kept expected root none = ap is_none (way_walk deepest expected root none)

  nodes_stand : (expected : Expected) (root : ℕ) (nodes : List Node)
      → nodes_under tree super (node_found super image) (level_in super image root) expected root ≡ Some nodes
      → tree_nodes tree super image expected root ≡ nodes
  unfolding tree_nodes
  nodes_stand expected root nodes is = rw is refl

-- the nodes of a tree whose walk meets no failure stand under its root
pub tree_under : (tree : TreeKind) (super : Super) (image : List ℕ) (expected : Expected) (root : ℕ)
    → tree_failure tree super image expected root ≡ None
    → nodes_under tree super (node_found super image) (level_in super image root) expected root
    ≡ Some (tree_nodes tree super image expected root)
unfolding tree_failure
tree_under tree super image expected root none =
    let level = level_in super image root in
    let passed = walk-passed tree super (node_found super image) deepest expected root none in
    let low = subst (λ n. n ≤ 7) (level_is super image root passed.node passed.is)
    (found_is super image root passed.node passed.is).low in
    let below = some_from tree super image level deepest expected root low (level_is super image root) none in
    let under : nodes_under tree super (node_found super image) level expected root ≡ Some below.nodes
    = rw (way_kept tree super image expected root none) below.are in
    under ∙ ap Some (sym (nodes_stand tree super image expected root below.nodes under))

-- ---- a whole tree

-- the nodes of a tree whose walk meets no failure
pub tree_branch : (tree : TreeKind) (super : Super) (image : List ℕ) (expected : Expected) (root : ℕ)
    (nodes : List Node)
    → tree_failure tree super image expected root ≡ None
    → nodes_under tree super (node_found super image) (level_in super image root) expected root ≡ Some nodes
    → IsBranch tree super image expected.from expected.to (level_in super image root) root nodes
unfolding tree_failure
tree_branch tree super image expected root nodes none under =
    let level = level_in super image root in
    let are = when_some (is_way tree super (node_found super image) expected root)
    (nodes_below (nodes_of (node_found super image)) level root) nodes under in
    let passed = walk-passed tree super (node_found super image) deepest expected root none in
    let low = subst (λ n. n ≤ 7) (level_is super image root passed.node passed.is)
    (found_is super image root passed.node passed.is).low in
    branch_from tree super image level deepest expected root nodes low (level_is super image root) none are

-- no two of them lie at one address
pub tree_distinct : (tree : TreeKind) (super : Super) (image : List ℕ) (expected : Expected) (root : ℕ)
    (nodes : List Node)
    → tree_failure tree super image expected root ≡ None
    → nodes_under tree super (node_found super image) (level_in super image root) expected root ≡ Some nodes
    → IsDistinct eqb (map address_of nodes)
tree_distinct tree super image expected root nodes none under =
    (tree_branch tree super image expected root nodes none under).reached.distinct
