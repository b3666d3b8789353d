-- The first leaf under a node was cleared: the leaves under it.
use Rattle.std.proofs.Common.{◌≡◌, ◌≢◌, ℕ, zero, suc, ◌+◌, ◌≤◌, List, [], ◌∷◌, ◌++◌, drop, length, arith, refl, sym, ap}
use Rattle.std.proofs.Common.{subst, ◌∙◌, Option, Some, None}
use Rattle.std.specs.Prelude.{slice_get}
use Rattle.std.proofs.lemmas.List.{length-append}
use Rattle.qg_device.specs.History.{History}
use Rattle.qg_node.specs.declared.item.Item.{Item}
use Rattle.qg_node.specs.declared.pointer.Pointer.{Pointer}
use Rattle.qg_node.specs.declared.node.Header.{Header}
use Rattle.qg_node.specs.declared.node.Node.{Node}
use Rattle.qg_node.specs.declared.node.Node.TheVariants.{Inner}
use Rattle.qg_node.specs.NodeText.{IsNodeSize}
use Rattle.qg_super.specs.declared.superblock.Super.{Super}
use Rattle.qg_image.specs.declared.expected.Expected.{Expected}
use Rattle.qg_image.specs.declared.tree.TreeKind.{TreeKind}
use Rattle.qg_blocks.specs.NodesFound.{told}
use Rattle.qg_node_alloc.specs.declared.ground.Ground.{Ground}
use Rattle.qg_node_alloc.specs.Land.{IsDrafted}
use Rattle.qg_edit.specs.declared.edit.Change.{Change}
use Rattle.qg_edit.specs.declared.edit.Change.TheVariants.{Clear}
use Rattle.qg_edit.specs.declared.edit.Edit.{Edit}
use Rattle.qg_edit.specs.Edits.{changed, edited}
use Rattle.qg_tree_edits.specs.declared.instead.Instead.{Instead}
use Rattle.qg_tree_read.specs.Tree.{Reaches, Root, super_of}
use Rattle.qg_tree_read.specs.Branch.{AreBranches, IsBranch, IsPointed}
use Rattle.qg_tree_edits.specs.First.{least, leaves, leaves_behind, leaves_joined, leaves_under}
use Rattle.qg_tree_edits.specs.Editing.{CanMake, IsOwned, IsPartEdited, IsPartFit, IsPlacedBehind, IsUnsettled}
use Rattle.qg_tree_edits.specs.Editing.{KeepsAbove, KeepsLeaves}
use Rattle.qg_tree_edits.proofs.Around.{IsAround}
use Rattle.qg_tree_read.proofs.BranchWalk.{branches-under}
use Rattle.qg_tree_edits.proofs.FirstLeaf.{first-alone}
use Rattle.qg_tree_edits.proofs.LeafLists.{joined-behind, leaves-alone, leaves-inner, leaves-same, leaves-two}
use Rattle.qg_tree_edits.proofs.LeafLists.{under-same, under-some}
use Rattle.qg_tree_edits.proofs.OwnedBranch.{below-apart}
use Rattle.qg_tree_edits.proofs.PartBelow.{fit-there}
use Rattle.qg_tree_edits.proofs.PartEdited.{fit-branch}
use Rattle.qg_tree_edits.proofs.Served.{size-blocks}
use Rattle.qg_tree_edits.proofs.Spliced.{drop-get, drop-there}

-- ---- a tree that is one leaf

no_length : (items : List Item) → length items ≡ 0 → items ≡ []
no_length [] is = refl
no_length (item ∷ items) is = absurd (omega (arith, is))

-- of a leaf that was cleared an empty one is left
pub leaf-leaves : (tree : TreeKind) (root : Root) (old new : Ground) (history : History) (expected : Expected)
    (at : ℕ) (edit : Edit) (items : List Item) (instead : Instead)
    → IsPartFit tree root old history 0 expected at edit items
    → IsPartEdited tree root old new history 0 at edit items instead → edit.key ≡ least → edit.change ≡ Clear
    → leaves (told new.blocks.draft history) 0 instead.now ≡ leaves_behind (leaves (told old.blocks.draft history) 0 at)
unfolding IsBranch
leaf-leaves tree root old new history expected at edit items instead fit part least_is clear =
    let before = told old.blocks.draft history in
    let after = told new.blocks.draft history in
    let was = fit-branch tree root old history 0 expected at edit items fit in
    let now = part.holds.here in
    let edits = part.edits in
    let leaf : edits.leaf ≡ items = part.first least_is ∙ first-alone before at was.0 items was.1 in
    let none : edited edit edits.leaf ≡ [] = ap (λ (c : Change). changed edit.key c edits.leaf) clear in
    let leaf_long = ap length leaf in
    let old_long = ap length edits.old_are in
    let front_long = length-append edits.front (edits.leaf ++ edits.back) in
    let back_long = length-append edits.leaf edits.back in
    let around_none : length edits.front + length edits.back ≡ 0 =
    omega (arith, leaf_long, old_long, front_long, back_long) in
    let new_are : part.items_new ≡ edits.front ++ edits.back = edits.new_are
    ∙ ap (λ (xs : List Item). edits.front ++ (xs ++ edits.back)) none in
    let new_long = ap length new_are in
    let new_parts = length-append edits.front edits.back in
    let held_long = ap length part.holds.items_are in
    let held_parts = length-append part.holds.mine part.holds.rest in
    let empty : part.holds.mine ≡ [] =
    no_length part.holds.mine (omega (arith, around_none, new_long, new_parts, held_long, held_parts)) in
    leaves-alone after instead.now now.0 part.holds.mine now.1
    ∙ ap (λ (xs : List Item). xs ∷ []) empty
    ∙ ap leaves_behind (sym (leaves-alone before at was.0 items was.1))

-- ---- a node whose first child was edited

-- nothing of it was cut off
pub placed-leaves : (owner : ℕ) (set end : Ground) (history : History) (level now : ℕ) (rest : Option Node)
    (instead : Instead) → rest ≡ None → IsPlacedBehind owner set end now rest instead
    → leaves (told end.blocks.draft history) level instead.now ≡ leaves (told set.blocks.draft history) level now
placed-leaves owner set end history level now None instead none placed =
    ap (λ (i : Instead). leaves (told end.blocks.draft history) level i.now) placed.0
    ∙ ap (λ (g : Ground). leaves (told g.blocks.draft history) level now) placed.1
placed-leaves owner set end history level now (Some node) instead none placed = absurd cc

-- an inner one below has two leaves at least
two_below : (tree : TreeKind) (super : Super) (nodes : ℕ → Option Node) (level : ℕ) (pointer : Pointer)
    (items : List Item)
    → IsNodeSize super.nodesize → IsPointed super nodes pointer
    → IsBranch tree super nodes level pointer.child items → 1 ≤ level → 2 ≤ length (leaves nodes level pointer.child)
two_below tree super nodes zero pointer items size pointed branch high = absurd (omega (arith, high))
two_below tree super nodes (suc level) pointer items size pointed branch high =
    leaves-two tree super nodes level pointer items size pointed branch

module _ (tree : TreeKind) (root : Root) (land mid : Ground) (history : History) (level : ℕ)
    (expected : Expected) (at now : ℕ) (edit : Edit) (items : List Item)
    (fit : IsPartFit tree root land history (suc level) expected at edit items)
    (owned : IsOwned tree root land mid history expected at now) (makes : CanMake tree root)
    (drafted : IsDrafted land root.next) (header : Header) (pointers : List Pointer)
    (here : told land.blocks.draft history at ≡ Some (Inner header pointers))
    (place : ℕ) (pointer : Pointer) (below_at : ℕ) (front mine back : List Item)
    (there : slice_get pointers place ≡ Some pointer) (leads : below_at ≡ pointer.child) (first : place ≡ 0)
    (around : IsAround tree root mid history level now expected.to place edit.key pointers front mine back items) where
  before : ℕ → List (List Item)
  before q = leaves (told land.blocks.draft history) level q

  between : ℕ → List (List Item)
  between q = leaves (told mid.blocks.draft history) level q

  each : AreBranches tree (super_of root land.blocks.draft) (told land.blocks.draft history) level pointers items
  each =
      let known = fit-there tree root land history level expected at edit items fit header pointers here in
      branches-under tree (super_of root land.blocks.draft) (told land.blocks.draft history) level expected.to pointers
      items known.2

  high : header.level ≡ suc level
  high = (fit-there tree root land history level expected at edit items fit header pointers here).1

  -- once the node is owned there are the same leaves below
  between_same : (i : ℕ) (p : Pointer) → slice_get pointers i ≡ Some p → between p.child ≡ before p.child
  unfolding between before
  between_same i p is =
      leaves-same (told land.blocks.draft history) (told mid.blocks.draft history) level p.child
      (λ q reaches. owned.others history q
      (below-apart tree root land mid history expected at now owned makes level header pointers items here high each
      fit.apart i p is q reaches))

  -- the first child, and those behind
  begins : pointers ≡ pointer ∷ drop 1 pointers
  begins = drop-there pointers 0 pointer (ap (λ (n : ℕ). slice_get pointers n) (sym first) ∙ there)

  parts : AreBranches tree (super_of root land.blocks.draft) (told land.blocks.draft history) level
      (pointer ∷ drop 1 pointers) items
  parts = subst (λ (ps : List Pointer). AreBranches tree (super_of root land.blocks.draft)
      (told land.blocks.draft history) level ps items) begins each

  others_some : 1 ≤ length (leaves_under before (drop 1 pointers))
  unfolding before
  others_some =
      let several = around.several in
      let long = ap length begins in
      let many = under-some tree (super_of root land.blocks.draft) (told land.blocks.draft history) level
      (drop 1 pointers) parts.1 parts.4 in
      omega (arith, several, long, many)

  first_two : 1 ≤ level → 2 ≤ length (before pointer.child)
  unfolding before
  first_two =
      two_below tree (super_of root land.blocks.draft) (told land.blocks.draft history) level pointer parts.0
      (size-blocks land root.next drafted) parts.3.0 parts.3.1

  module _ (low set : Ground) (child : Instead)
      (child_edited : IsPartEdited tree root mid low history level below_at edit mine child)
      (above : KeepsAbove level mid low)
      (items_new : List Item) (un : IsUnsettled tree root low history level now expected.to place child items_new)
      (kept : KeepsLeaves low set history level now child.now un.pointers)
      (cleared : leaves (told low.blocks.draft history) level child.now ≡ leaves_behind
      (leaves (told mid.blocks.draft history) level below_at)) where
    then : ℕ → List (List Item)
    then q = leaves (told low.blocks.draft history) level q

    same_pointers : un.pointers ≡ pointers
    same_pointers =
        let levelled = around.member.levelled in
        let stays = above now (Inner around.header pointers) around.here (omega (arith, levelled)) in
        let is : Some (Inner un.header un.pointers) ≡ Some (Inner around.header pointers) = sym un.here ∙ stays in
        cc

    -- once the child is edited there are the same leaves below the others
    then_same : (i : ℕ) (p : Pointer) → i ≢ place → slice_get pointers i ≡ Some p → then p.child ≡ between p.child
    unfolding then between
    then_same i p other is =
        leaves-same (told mid.blocks.draft history) (told low.blocks.draft history) level p.child
        (λ q reaches. child_edited.others history q (λ free. around.free q free i p is reaches)
        (λ also. around.apart i place p pointer other is there q reaches
        (subst (λ (a : ℕ). Reaches (told mid.blocks.draft history) level a q) leads also)))

    others_same : leaves_under then (drop 1 pointers) ≡ leaves_under before (drop 1 pointers)
    others_same =
        under-same before then (drop 1 pointers)
        (λ i p is.
        let found = drop-get 1 pointers i p is in
        let behind = found.1 in
        then_same found.0 p (λ same. omega (arith, same, behind, first)) found.2 ∙ between_same found.0 p found.2)

    child_is : then child.now ≡ leaves_behind (before pointer.child)
    unfolding then between
    child_is = cleared ∙ ap (λ (a : ℕ). leaves_behind (between a)) leads
        ∙ ap leaves_behind (between_same place pointer there)

    pub below-leaves : leaves (told set.blocks.draft history) (suc level) now ≡ leaves_behind
        (leaves (told land.blocks.draft history) (suc level) at)
    unfolding then before
    below-leaves =
        kept.kept
        ∙ ap (λ (ps : List Pointer). leaves_joined level (then child.now) (leaves_under then (drop 1 ps))) same_pointers
        ∙ ap (λ (ls : List (List Item)). leaves_joined level (then child.now) ls) others_same
        ∙ ap (λ (ls : List (List Item)). leaves_joined level ls (leaves_under before (drop 1 pointers))) child_is
        ∙ joined-behind (told land.blocks.draft history) level pointer.child (leaves_under before (drop 1 pointers))
        others_some first_two
        ∙ ap (λ (ps : List Pointer). leaves_behind (leaves_under before ps)) (sym begins)
        ∙ ap leaves_behind (sym (leaves-inner (told land.blocks.draft history) level at header pointers here))
