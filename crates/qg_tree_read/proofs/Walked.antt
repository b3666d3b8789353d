-- What the walk of an image finds sound is a tree, and these are its items.
use Rattle.std.proofs.Common.{◌≡◌, ℕ, zero, suc, ◌-◌, ◌≤◌, true, false, List, [], ◌∷◌, arith, refl, sym, ap, ◌∙◌}
use Rattle.std.proofs.Common.{Option, Some, None}
use Rattle.std.specs.Prelude.{Bool, ◌&&◌, Result, Ok, Err, nat_le, nat_lt}
use Rattle.std.specs.List.{list_all}
use Rattle.std.specs.Result.{result_ok}
use Rattle.std.proofs.lemmas.Bool.{and_from, and_parts, eq-eqb, le-leb, leb-true}
use Rattle.qg_device.specs.History.{Event, Recorded, content}
use Rattle.qg_num.specs.declared.key.Key.{Key}
use Rattle.qg_num.specs.declared.rule.Rule.TheVariants as rule
use Rattle.qg_node.specs.declared.item.Item.{Item}
use Rattle.qg_node.specs.declared.pointer.Pointer.{Pointer}
use Rattle.qg_node.specs.declared.node.Node.{Node}
use Rattle.qg_node.specs.Nodes.{header_of, own_items, own_keys, own_pointers}
use Rattle.qg_super.specs.declared.sizes.Sizes.{Sizes}
use Rattle.qg_super.specs.declared.superblock.Super.{Super}
use Rattle.qg_blocks.specs.Below.{items_below}
use Rattle.qg_blocks.specs.IsShaped.{is_shaped}
use Rattle.qg_blocks.specs.ItemMeaning.{when}
use Rattle.qg_blocks.specs.Types.{Failure}
use Rattle.qg_blocks.specs.Types.{TreeKind}
use Rattle.qg_blocks.specs.Types.{Expected}
use Rattle.qg_blocks.specs.Among.{found_there}
use Rattle.qg_blocks.specs.Failure.{first_failure, unless}
use Rattle.qg_blocks.specs.Walk.{begins_at, deepest, ends_before, found_failure, is_generation, is_item_of, is_owner}
use Rattle.qg_blocks.specs.Walk.{is_told, node_failure, node_found, pointers_failure, root_expected, shape_failure}
use Rattle.qg_blocks.specs.Walk.{tree_failure, walk_failure, way_failure}
use Rattle.qg_blocks.specs.ItemsUnder.{is_way, items_under, nodes_of}
use Rattle.qg_walk.specs.Standing.{expected_below, form_failure}
use Rattle.qg_walk.proofs.Failures.{kept-none, neither, none_of_two}
use Rattle.qg_blocks.specs.NodesInMemory.{Draft}
use Rattle.qg_blocks.specs.NodesFound.{fresh_at, told}
use Rattle.qg_blocks.proofs.Walked.{IsImageOf, told-walked}
use Rattle.qg_tree_read.specs.Tree.{IsTree, Root, TellsTree, found_in, super_of}
use Rattle.qg_tree_read.proofs.Frames.{items-same}

-- ---- the rules on one node, by another superblock

-- what a way leads to expect is no less than what another does
pub record IsWeaker (strong weak : Expected) (node : Node) : Type 0 where
  pub level : is_told weak.level (header_of node).level ≡ true
  pub generation : is_told strong.generation (header_of node).generation ≡ true
      → is_told weak.generation (header_of node).generation ≡ true
  pub from : weak.from ≡ strong.from
  pub to : weak.to ≡ strong.to

-- the rules that a node keeps
record AreKept (tree : TreeKind) (super : Super) (expected : Expected) (node : Node) : Type 0 where
  level : is_told expected.level (header_of node).level ≡ true
  owner : is_owner tree (header_of node).owner ≡ true
  generation : is_generation super.generation expected.generation (header_of node).generation ≡ true
  within : (begins_at expected.from (own_keys node) && ends_before expected.to (own_keys node)) ≡ true
  shape : is_shaped super.nodesize expected.from node ≡ true

four_none : (a b c d : Bool) (address : ℕ)
    → first_failure (unless a rule.Depth address ∷ unless b rule.Owner address ∷ unless c rule.Gen address
    ∷ unless d rule.Range address ∷ []) ≡ None
    → (a ≡ true) × (b ≡ true) × (c ≡ true) × (d ≡ true)
four_none true true true true address h = (refl, refl, refl, refl)
four_none true true true false address h = absurd cc
four_none true true false d address h = absurd cc
four_none true false c d address h = absurd cc
four_none false b c d address h = absurd cc

kept_form : (tree : TreeKind) (super : Super) (expected : Expected) (address : ℕ) (node : Node)
    → form_failure tree super expected address node ≡ None → AreKept tree super expected node
unfolding way_failure
kept_form tree super expected address node none =
    let parts = neither (way_failure tree super expected address node)
    (shape_failure super.nodesize expected address node) none in
    let four = four_none (is_told expected.level (header_of node).level) (is_owner tree (header_of node).owner)
    (is_generation super.generation expected.generation (header_of node).generation)
    (begins_at expected.from (own_keys node) && ends_before expected.to (own_keys node)) address parts.0 in
    record {
      level = four.0;
      owner = four.1;
      generation = four.2;
      within = four.3;
      shape = kept-none (is_shaped super.nodesize expected.from node) rule.Shape address parts.1;
    }

form_kept : (tree : TreeKind) (super : Super) (expected : Expected) (address : ℕ) (node : Node)
    → AreKept tree super expected node → form_failure tree super expected address node ≡ None
unfolding way_failure
form_kept tree super expected address node kept =
    rw (kept.level, kept.owner, kept.generation, kept.within, kept.shape) refl

later_generation : (last later : ℕ) (strong weak : Option ℕ) (generation : ℕ) → last ≤ later
    → (is_told strong generation ≡ true → is_told weak generation ≡ true)
    → is_generation last strong generation ≡ true → is_generation later weak generation ≡ true
later_generation last later strong weak generation low told is =
    let parts = and_parts (is_told strong generation && nat_lt 0 generation) (nat_le generation last) is in
    let front = and_parts (is_told strong generation) (nat_lt 0 generation) parts.0 in
    let upto : generation ≤ later = omega (arith, leb-true generation last parts.1, low) in
    and_from (is_told weak generation && nat_lt 0 generation) (nat_le generation later)
    (and_from (is_told weak generation) (nat_lt 0 generation) (told front.0) front.1) (le-leb generation later upto)

-- a node that keeps all rules keeps those of form in an image of a later generation
form_later : (tree : TreeKind) (super later : Super) (strong weak : Expected) (address : ℕ) (node : Node)
    → later.nodesize ≡ super.nodesize → super.generation ≤ later.generation
    → IsWeaker strong weak node → form_failure tree super strong address node ≡ None
    → form_failure tree later weak address node ≡ None
form_later tree super later strong weak address node size low weaker none =
    let kept = kept_form tree super strong address node none in
    form_kept tree later weak address node (record {
      level = weaker.level;
      owner = kept.owner;
      generation = later_generation super.generation later.generation strong.generation weak.generation
          (header_of node).generation low weaker.generation kept.generation;
      within = rw (weaker.from, weaker.to) kept.within;
      shape = rw (size, weaker.from) kept.shape;
    })

form_of_node : (tree : TreeKind) (super : Super) (expected : Expected) (address : ℕ) (node : Node)
    → node_failure tree super expected address node ≡ None → form_failure tree super expected address node ≡ None
unfolding node_failure
form_of_node tree super expected address node none =
    first_two (way_failure tree super expected address node) (shape_failure super.nodesize expected address node)
    (unless (list_all (is_item_of tree super.generation) (own_items node)) rule.Item address) none where
      first_two : (a b c : Option Failure) → first_failure (a ∷ b ∷ c ∷ []) ≡ None → first_failure (a ∷ b ∷ []) ≡ None
      first_two None None c h = refl
      first_two None (Some failure) c h = absurd cc
      first_two (Some failure) b c h = absurd cc

-- ---- the walk

-- what is found is what is told
found_told : (found : Result Node Failure) (o : Option Node) → o ≡ nodes_of (λ at. found) 0 → (node : Node)
    → found ≡ Ok node → o ≡ Some node
found_told found o is node there = is ∙ ap result_ok there

module _ (tree : TreeKind) (super later : Super) (found : ℕ → Result Node Failure) (nodes : ℕ → Option Node) where
  -- the walk of fewer levels, over what is told, where all that a pointer leads to is as it was
  pointers_less : (all some : Expected → ℕ → Option Failure)
      → ((expected : Expected) (address : ℕ) → all expected address ≡ None → some expected address ≡ None)
      → (level : ℕ) (to : Option Key) (pointers : List Pointer) → pointers_failure all level to pointers ≡ None
      → pointers_failure some level to pointers ≡ None
  pointers_less all some each level to [] none = refl
  pointers_less all some each level to (pointer ∷ pointers) none =
      let below = expected_below level to pointer pointers in
      let parts = neither (all below pointer.child) (pointers_failure all level to pointers) none in
      none_of_two (some below pointer.child) (pointers_failure some level to pointers)
      (each below pointer.child parts.0) (pointers_less all some each level to pointers parts.1)

  found_less : (all some : Expected → ℕ → Option Failure)
      → ((expected : Expected) (address : ℕ) → all expected address ≡ None → some expected address ≡ None)
      → later.nodesize ≡ super.nodesize → super.generation ≤ later.generation
      → (strong weak : Expected) (address : ℕ) (there : Result Node Failure) (o : Option Node)
      → o ≡ result_ok there → ((node : Node) → there ≡ Ok node → form_failure tree super strong address node ≡ None
      → IsWeaker strong weak node)
      → found_failure (node_failure tree super) all strong address there ≡ None
      → found_failure (form_failure tree later) some weak address (found_there o address) ≡ None
  found_less all some each size low strong weak address (Err failure) o is weaker none = absurd cc
  found_less all some each size low strong weak address (Ok node) o is weaker none =
      let below = pointers_failure all ((header_of node).level - 1) strong.to (own_pointers node) in
      let parts = neither (node_failure tree super strong address node) below none in
      let formed = form_of_node tree super strong address node parts.0 in
      let weak_is = weaker node refl formed in
      let here = form_later tree super later strong weak address node size low weak_is formed in
      let under = pointers_less all some each ((header_of node).level - 1) strong.to (own_pointers node) parts.1 in
      rw is (none_of_two (form_failure tree later weak address node)
      (pointers_failure some ((header_of node).level - 1) weak.to (own_pointers node)) here (rw weak_is.to under))

  itself : (expected : Expected) (address : ℕ) (node : Node) → form_failure tree super expected address node ≡ None
      → IsWeaker expected expected node
  itself expected address node none = record {
    level = (kept_form tree super expected address node none).level;
    generation = λ told. told;
    from = refl;
    to = refl;
  }

  walk_less : later.nodesize ≡ super.nodesize → super.generation ≤ later.generation
      → ((at : ℕ) → nodes at ≡ nodes_of found at)
      → (depth level : ℕ) → level ≤ depth → (strong weak : Expected) (address : ℕ)
      → ((node : Node) → found address ≡ Ok node → form_failure tree super strong address node ≡ None
      → IsWeaker strong weak node)
      → walk_failure (node_failure tree super) found depth strong address ≡ None
      → walk_failure (form_failure tree later) (found_in nodes) level weak address ≡ None
  unfolding walk_failure
  walk_less size low tells zero zero deep strong weak address weaker none =
      found_less (λ expected address. None) (λ expected address. None) (λ expected address same. same) size low strong
      weak address (found address) (nodes address) (tells address) weaker none
  walk_less size low tells (suc depth) zero deep strong weak address weaker none =
      found_less (walk_failure (node_failure tree super) found depth) (λ expected address. None)
      (λ expected address same. refl) size low strong weak address (found address) (nodes address)
      (tells address) weaker none
  walk_less size low tells zero (suc level) deep strong weak address weaker none = absurd (omega arith)
  walk_less size low tells (suc depth) (suc level) deep strong weak address weaker none =
      found_less (walk_failure (node_failure tree super) found depth)
      (walk_failure (form_failure tree later) (found_in nodes) level)
      (λ expected below. walk_less size low tells depth level (omega arith) expected expected below
      (λ node is formed. itself expected below node formed))
      size low strong weak address (found address) (nodes address) (tells address) weaker none

given : {A : Type 0} (b : Bool) (o : Option A) (x : A) → when b o ≡ Some x → o ≡ Some x
given true o x is = is
given false o x is = absurd cc

-- a tree that keeps all rules of an image is one of the generation to come
pub IsTree-walked : (tree : TreeKind) (super later : Super) (found : ℕ → Result Node Failure) (nodes : ℕ → Option Node)
    (expected : Expected) (height root : ℕ) (items : List Item)
    → ((at : ℕ) → nodes at ≡ nodes_of found at) → later.nodesize ≡ super.nodesize → super.generation ≤ later.generation
    → expected.from ≡ None → expected.to ≡ None
    → height ≤ deepest → ((node : Node) → found root ≡ Ok node → (header_of node).level ≡ height)
    → walk_failure (node_failure tree super) found deepest expected root ≡ None
    → items_under tree super found height expected root ≡ Some items
    → IsTree tree later nodes height root items
IsTree-walked tree super later found nodes expected height root items tells size low from to deep high none items_are =
    let weaker : (node : Node) → found root ≡ Ok node → form_failure tree super expected root node ≡ None
    → IsWeaker expected (root_expected (Some height) None) node =
    λ node is formed. record {
      level = eq-eqb height (header_of node).level (sym (high node is));
      generation = λ told. refl;
      from = sym from;
      to = sym to;
    } in
    record {
      walked = walk_less tree super later found nodes size low tells deepest height deep expected
          (root_expected (Some height) None) root weaker none;
      items_are = items-same (nodes_of found) nodes height root (λ q reaches. tells q)
          ∙ given (is_way tree super found expected root) (items_below (nodes_of found) height root) items items_are;
    }

-- so is one of an image over which no node is fresh, where the generation to come is a later one
pub TellsTree-walked : (tree : TreeKind) (root : Root) (super : Super) (draft : Draft) (events : List Event)
    (expected : Expected) (items : List Item)
    → IsImageOf super draft.sizes (content events) → ((at : ℕ) → fresh_at draft at ≡ None)
    → super.generation ≤ root.next → expected.from ≡ None → expected.to ≡ None
    → root.height ≤ deepest → ((node : Node) → node_found super (content events) root.address ≡ Ok node
    → (header_of node).level ≡ root.height)
    → tree_failure tree super (content events) expected root.address ≡ None
    → items_under tree super (node_found super (content events)) root.height expected root.address ≡ Some items
    → TellsTree tree root draft (Recorded events) items
unfolding tree_failure
TellsTree-walked tree root super draft events expected items image fresh low from to deep high none items_are =
    let size : draft.sizes.nodesize ≡ super.nodesize = ap (λ (s : Sizes). s.nodesize) image.slots in
    IsTree-walked tree super (super_of root draft) (node_found super (content events))
    (told draft (Recorded events)) expected root.height root.address items
    (λ at. told-walked super draft events at image (fresh at)) size low from to deep high none items_are
