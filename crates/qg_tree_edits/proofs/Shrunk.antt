-- A root that is one node, or the child of a node with one pointer.
use Rattle.std.proofs.Common.{◌≡◌, ◌≢◌, ◌⊎◌, ℕ, zero, suc, ◌+◌, ◌-◌, ◌≤◌, true, List, [], ◌∷◌, length, append-nil}
use Rattle.std.proofs.Common.{arith, refl, sym, ap, subst, ◌∙◌, inl, inr, Some, None}
use Rattle.std.specs.Prelude.{IsTrue}
use Rattle.std.proofs.lemmas.Bool.{le-leb}
use Rattle.qg_device.specs.History.{History}
use Rattle.qg_node.specs.declared.item.Item.{Item}
use Rattle.qg_node.specs.declared.pointer.Pointer.{Pointer}
use Rattle.qg_node.specs.declared.node.Header.{Header}
use Rattle.qg_node.specs.declared.node.Node.{Node}
use Rattle.qg_node.specs.declared.node.Node.TheVariants.{Leaf, Inner}
use Rattle.qg_node.specs.Nodes.{header_of}
use Rattle.qg_node.specs.NodeText.{IsNode, IsNodeSize}
use Rattle.qg_super.specs.declared.sizes.Sizes.{Sizes}
use Rattle.qg_image.specs.IsShaped.{is_shaped}
use Rattle.qg_blocks.specs.NodesFound.{fresh_at, told}
use Rattle.qg_space.specs.Holding.{Holding, is_free_slot}
use Rattle.qg_image.specs.declared.tree.TreeKind.{TreeKind}
use Rattle.qg_node_alloc.specs.declared.ground.Ground.{Ground}
use Rattle.qg_node_alloc.specs.Land.{IsDrafted, Rests}
use Rattle.qg_node_alloc.specs.Tellings.{LetsGo}
use Rattle.qg_node_alloc.specs.Tellings.Telling.{Left}
use Rattle.qg_node_alloc.proofs.Editing.{edited}
use Rattle.qg_node_alloc.proofs.Lands.{Takes-left, told-fresh_at}
use Rattle.qg_edit.specs.Outcome.{cleared}
use Rattle.qg_edit.proofs.Leaves.{IsNodeFor-cleared}
use Rattle.qg_tree_read.specs.Tree.{IsTree, Reaches, Root, super_of}
use Rattle.qg_tree_read.specs.Branch.{AreBranches, IsBranch}
use Rattle.qg_tree_edits.specs.First.{leaves}
use Rattle.qg_tree_edits.specs.Editing.{IsRewritten, ReachesInstead, alone}
use Rattle.qg_tree_edits.specs.Counting.{IsRootTold, one, ways, ways_instead}
use Rattle.qg_tree_edits.specs.Rooting.{HasRoot, StandsForRoot, lone_child, lone_of}
use Rattle.qg_tree_read.proofs.BranchFrames.{reach-same, reach-top}
use Rattle.qg_tree_read.proofs.Frames.{IsTree-same}
use Rattle.qg_tree_edits.proofs.Committed.{committed-told, unheld-fresh}
use Rattle.qg_tree_edits.proofs.Downward.{leads-none}
use Rattle.qg_tree_edits.proofs.Leading.{not-above}
use Rattle.qg_tree_edits.proofs.LeafLists.{leaves-inner, leaves-same}
use Rattle.qg_tree_edits.proofs.RootEdited.{root-alone, root-below}
use Rattle.qg_tree_edits.proofs.Served.{node-drafted, size-blocks}
use Rattle.qg_tree_edits.proofs.ToldUnited.{told-left}
use Rattle.qg_tree_edits.proofs.Turning.{told-more, told-none}
use Rattle.qg_tree_edits.proofs.United.{rewritten-told}
use Rattle.qg_tree_edits.proofs.Ways.{ways-inner, ways-same, ways-top, ways_each-cons}

-- a node with several pointers has the shape of a root
several : (nodesize : ℕ) (header : Header) (pointers : List Pointer) → 1 ≤ length pointers → lone_of pointers ≡ None
    → is_shaped nodesize None (Inner header pointers) ≡ true
unfolding is_shaped
several nodesize header [] some none = absurd (omega (arith, some))
several nodesize header (pointer ∷ []) some none = cc
several nodesize header (pointer ∷ other ∷ pointers) some none =
    le-leb 2 (length (pointer ∷ other ∷ pointers)) (omega arith)

root_shaped : (size nodesize : ℕ) (node : Node) → IsNode size node → lone_child node ≡ None
    → is_shaped nodesize None node ≡ true
unfolding is_shaped
root_shaped size nodesize (Leaf header items) sound none = refl
root_shaped size nodesize (Inner header pointers) sound none = several nodesize header pointers sound.levelled.2 none

-- which node has one pointer
pub lone-is : (node : Node) (child : ℕ) → lone_child node ≡ Some child → (header : Header) × (pointer : Pointer)
    × (node ≡ Inner header (pointer ∷ [])) × (pointer.child ≡ child)
lone-is (Leaf header items) child is = absurd cc
lone-is (Inner header []) child is = absurd cc
lone-is (Inner header (pointer ∷ [])) child is = (header, pointer, refl, cc)
lone-is (Inner header (pointer ∷ other ∷ pointers)) child is = absurd cc

-- such a node lies above a leaf
pub lone-high : (size : ℕ) (node : Node) (child : ℕ) → IsNode size node → lone_child node ≡ Some child
    → 1 ≤ (header_of node).level
lone-high size (Leaf header items) child sound is = absurd cc
lone-high size (Inner header pointers) child sound is = sound.levelled.0

module _ (tree : TreeKind) (root : Root) (land : Ground) (history : History) (now : ℕ) (items : List Item)
    (node : Node)
    (stands : StandsForRoot tree root land history (alone now) items) (drafted : IsDrafted land root.next)
    (here : fresh_at land.blocks.draft now ≡ Some node)
    (levelled : (header_of node).level ≡ root.height) where
  there : told land.blocks.draft history now ≡ Some node
  there = told-fresh_at land.blocks.draft history now node here

  -- it is the root
  pub stood : lone_child node ≡ None → HasRoot tree root (record root { address = now }) land land history
      (alone now) items
  stood none = record {
    rooted = record {
      tells =
          root-alone tree (super_of root land.blocks.draft) (told land.blocks.draft history)
          (size-blocks land root.next drafted) root.height now items stands.holds stands.ascending
          (λ other is. let one : node ≡ other = let e = sym there ∙ is in cc in
          subst (λ (n : Node). is_shaped (super_of root land.blocks.draft).nodesize None n ≡ true) one
          (root_shaped land.space.sizes.nodesize (super_of root land.blocks.draft).nodesize node
          (node-drafted land root.next now node drafted here) none));
      apart = λ q free reaches. stands.free q free (inl reaches);
      short = stands.short;
    };
    reach = λ q reaches. inl (inl reaches);
    others = λ q taken far. refl;
    freed = λ q free. inl free;
  }

  -- and nothing is told
  pub told-stood : IsRootTold root (record root { address = now }) land land history (alone now) []
  told-stood nodes clean committed =
      let Old = ReachesInstead (told land.blocks.draft history) root.height (alone now) in
      let before = ways_instead (told land.blocks.draft history) root.height (alone now) in
      let after = ways (told land.blocks.draft history) root.height now in
      told-more land nodes clean Old before after 0 0 0 1 1 1 [] (omega arith) (omega arith) (omega arith)
      (told-none land nodes clean Old before after (λ q. omega arith))

  module _ (mid new : Ground) (later : History) (child low : ℕ) (header : Header) (pointer : Pointer)
      (lone : node ≡ Inner header (pointer ∷ [])) (is_child : pointer.child ≡ child)
      (height : root.height ≡ suc low) (rewritten : IsRewritten land mid now node) (space : mid.space ≡ land.space)
      (gone : LetsGo mid new now) (rests : Rests land new later root.next) where
    lone_there : told land.blocks.draft history now ≡ Some (Inner header (pointer ∷ []))
    lone_there = there ∙ ap Some lone

    others_told : (q : ℕ) → q ≢ now → told new.blocks.draft history q ≡ told land.blocks.draft history q
    others_told q differ = gone.others history q differ
        ∙ rewritten-told land mid now node here rewritten history q differ

    stands_low : StandsForRoot tree (record root { height = suc low }) land history (alone now) items
    stands_low = subst (λ (h : ℕ). StandsForRoot tree (record root { height = h }) land history (alone now) items)
        height stands

    was : IsTree tree (super_of root land.blocks.draft) (told land.blocks.draft history) low pointer.child items
    was =
        root-below tree (super_of root land.blocks.draft) (told land.blocks.draft history)
        (size-blocks land root.next drafted) low now items header pointer stands_low.holds stands.ascending
        lone_there

    high : header.level ≡ suc low
    high = ap (λ (n : Node). (header_of n).level) (sym lone) ∙ levelled ∙ height

    below : (under : List Item) × IsBranch tree (super_of root land.blocks.draft) (told land.blocks.draft history) low
        pointer.child under
    unfolding IsBranch
    below =
        let branch = stands_low.holds.here in
        let one : branch.1 ≡ pointer ∷ [] = let e = sym branch.2 ∙ lone_there in cc in
        let each = subst (λ (ps : List Pointer). AreBranches tree (super_of root land.blocks.draft)
        (told land.blocks.draft history) low ps stands_low.holds.mine) one branch.4 in
        (each.0, each.3.1)

    far : (q : ℕ) → Reaches (told land.blocks.draft history) low pointer.child q → q ≢ now
    far = not-above tree (super_of root land.blocks.draft) land history low now header (pointer ∷ []) (here
        ∙ ap Some lone) high pointer.child below.0 below.1

    still : IsTree tree (super_of root land.blocks.draft) (told new.blocks.draft history) low pointer.child items
    still =
        IsTree-same tree (super_of root land.blocks.draft) (told land.blocks.draft history)
        (told new.blocks.draft history) low pointer.child items was
        (λ q reaches. others_told q (far q reaches))

    back : (q : ℕ) → Reaches (told new.blocks.draft history) low pointer.child q
        → Reaches (told land.blocks.draft history) low pointer.child q
    back = reach-same (told land.blocks.draft history) (told new.blocks.draft history) low pointer.child
        (λ q reaches. others_told q (far q reaches))

    up : (q : ℕ) → Reaches (told land.blocks.draft history) low pointer.child q
        → Reaches (told land.blocks.draft history) root.height now q
    unfolding Reaches
    up q reaches =
        subst (λ (h : ℕ). Reaches (told land.blocks.draft history) h now q) (sym height)
        (inr (Inner header (pointer ∷ []), lone_there, zero, pointer, refl, reaches))

    less : (q : ℕ) → IsTrue (is_free_slot new.space q) → IsTrue (is_free_slot land.space q) ⊎ (q ≡ now)
    less q free =
        let takes = Takes-left mid new now (rests.sizes ∙ ap (λ (s : Holding). s.sizes) (sym space)) (rests.held_slots
        ∙ ap (λ (s : Holding). s.held_slots) (sym space)) gone in
        elim (takes.less q free) [
          | inl was ↦ inl (subst (λ (s : Holding). IsTrue (is_free_slot s q)) space was)
          | inr it ↦ inr it
        ]

    sunk_low : HasRoot tree root (record root { address = pointer.child; height = low }) land new history
        (alone now) items
    sunk_low = record {
      rooted = record {
        tells = subst (λ (size : ℕ). IsTree tree (record (super_of root land.blocks.draft) { nodesize = size })
            (told new.blocks.draft history) low pointer.child items)
            (ap (λ (s : Sizes). s.nodesize) (sym rests.node_sizes)) still;
        apart = λ q free reaches. elim (less q free) [
          | inl was ↦ stands.free q was (inl (up q (back q reaches)))
          | inr it ↦ far q (back q reaches) it
        ];
        short = stands.short;
      };
      reach = λ q reaches. inl (inl (up q (back q reaches)));
      others = λ q taken away. others_told q
          (λ same. away (inl (subst (λ (r : ℕ). Reaches (told land.blocks.draft history) root.height now r) (sym same)
          (reach-top (told land.blocks.draft history) root.height now))));
      freed = λ q free. elim (less q free) [
        | inl was ↦ inl was
        | inr it ↦ inr (inl (subst (λ (r : ℕ). Reaches (told land.blocks.draft history) root.height now r) (sym it)
            (reach-top (told land.blocks.draft history) root.height now)))
      ];
    }

    -- the child is, a level lower
    pub sunk : HasRoot tree root (record root { address = child; height = root.height - 1 }) land new history
        (alone now) items
    sunk =
        let low_is : low ≡ root.height - 1 = omega (arith, height) in
        subst (λ (c : ℕ). HasRoot tree root (record root { address = c; height = root.height - 1 }) land new history
        (alone now) items) is_child
        (subst (λ (h : ℕ). HasRoot tree root (record root { address = pointer.child; height = h }) land new history
        (alone now) items) low_is sunk_low)

    gone_ways : (q : ℕ) → ways (told land.blocks.draft history) root.height now q ≡ one now q + ways
        (told new.blocks.draft history) low pointer.child q
    gone_ways q =
        let high_up = ap (λ (h : ℕ). ways (told land.blocks.draft history) h now q) height in
        let inner = ways-inner (told land.blocks.draft history) low now header (pointer ∷ []) lone_there q in
        let only = ways_each-cons (told land.blocks.draft history) low pointer [] q in
        let stays = ways-same (told land.blocks.draft history) (told new.blocks.draft history) low pointer.child
        (λ r reaches. others_told r (far r reaches)) q in
        omega (arith, high_up, inner, only, stays)

    sunk_count : IsRootTold root (record root { address = pointer.child; height = low }) land new history (alone now)
        (Left (cleared node) ∷ [])
    sunk_count nodes clean committed =
        let Old = ReachesInstead (told land.blocks.draft history) root.height (alone now) in
        let before = ways_instead (told land.blocks.draft history) root.height (alone now) in
        let after = ways (told new.blocks.draft history) low pointer.child in
        let named : (header_of (cleared node)).address ≡ now = (drafted.each now node here).kept.placed in
        let top = ways-top (told land.blocks.draft history) root.height now in
        let high : root.height ≤ (header_of node).level = omega (arith, levelled) in
        let down = leads-none tree (super_of root land.blocks.draft) (told land.blocks.draft history) clean
        (committed-told land history clean committed) root.height now stands.holds.mine stands.holds.here now node there
        high in
        told-more land nodes clean Old before after 0 1 0 1 1 1 (Left (cleared node) ∷ []) (omega arith) (omega arith)
        (omega arith)
        (told-left land nodes clean Old before after (cleared node) now named (refl, refl)
        (unheld-fresh land root.next now node drafted here)
        (λ q parent is some child. down q parent is (omega (arith, some)) child) (omega (arith, top))
        (λ q. let all = gone_ways q in omega (arith, all)))

    -- and the book is told that the node is left
    pub told-sunk : IsRootTold root (record root { address = child; height = root.height - 1 }) land new history
        (alone now) (Left (cleared node) ∷ [])
    told-sunk =
        let low_is : low ≡ root.height - 1 = omega (arith, height) in
        subst (λ (c : ℕ). IsRootTold root (record root { address = c; height = root.height - 1 }) land new history
        (alone now) (Left (cleared node) ∷ [])) is_child
        (subst (λ (h : ℕ). IsRootTold root (record root { address = pointer.child; height = h }) land new history
        (alone now) (Left (cleared node) ∷ [])) low_is sunk_count)

    -- with the leaves that were under both
    pub sunk-leaves : leaves (told new.blocks.draft history) (root.height - 1) child
        ≡ leaves (told land.blocks.draft history) root.height now
    sunk-leaves =
        let low_is : root.height - 1 ≡ low = omega (arith, height) in
        let before = λ (q : ℕ). leaves (told land.blocks.draft history) low q in
        ap (λ (h : ℕ). leaves (told new.blocks.draft history) h child) low_is
        ∙ ap (λ (c : ℕ). leaves (told new.blocks.draft history) low c) (sym is_child)
        ∙ leaves-same (told land.blocks.draft history) (told new.blocks.draft history) low pointer.child
        (λ q reaches. others_told q (far q reaches))
        ∙ sym (append-nil (before pointer.child))
        ∙ sym (leaves-inner (told land.blocks.draft history) low now header (pointer ∷ []) lone_there)
        ∙ ap (λ (h : ℕ). leaves (told land.blocks.draft history) h now) (sym height)

-- an empty leaf in the place of a fresh node
pub cleared-rewritten : (land : Ground) (at : ℕ) (node : Node) → IsNodeSize land.space.sizes.nodesize
    → IsRewritten land (edited land at (cleared node)) at node
cleared-rewritten land at node size =
    record { node = cleared node; is = refl; named = IsNodeFor-cleared land.space.sizes.nodesize node size }
