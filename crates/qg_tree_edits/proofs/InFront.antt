-- Two fresh neighbours before they are joined.
use Rattle.std.proofs.Common.{◌≡◌, ℕ, zero, suc, true, List, ◌++◌, length, arith, sym, ap, subst, ◌∙◌, Some}
use Rattle.std.specs.Prelude.{◌≤◌}
use Rattle.std.specs.List.{All}
use Rattle.std.proofs.lemmas.List.{map-append}
use Rattle.qg_device.specs.History.{History}
use Rattle.qg_node.specs.declared.item.Item.{Item}
use Rattle.qg_node.specs.declared.pointer.Pointer.{Pointer}
use Rattle.qg_node.specs.declared.node.Node.{Node}
use Rattle.qg_node.specs.declared.node.Node.TheVariants.{Leaf, Inner}
use Rattle.qg_node.specs.Nodes.{is_ascending}
use Rattle.qg_super.specs.declared.superblock.Super.{Super}
use Rattle.qg_image.specs.declared.tree.TreeKind.{TreeKind}
use Rattle.qg_shape.specs.Filled.{HasShortBodies}
use Rattle.qg_blocks.specs.NodesFound.{fresh_at, told}
use Rattle.qg_node_alloc.specs.declared.ground.Ground.{Ground}
use Rattle.qg_node_alloc.proofs.Lands.{told-fresh_at}
use Rattle.qg_edit.specs.Outcome.{IsInFront}
use Rattle.qg_tree_read.specs.Branch.{IsBranch, IsPointed}
use Rattle.qg_tree_read.proofs.Branches.{each-join}
use Rattle.qg_tree_read.proofs.BranchOrder.{keys_of}
use Rattle.qg_tree_edits.proofs.Leading.{branches-keys}

fresh_is : (land : Ground) (history : History) (at : ℕ) (node there : Node)
    → fresh_at land.blocks.draft at ≡ Some node → told land.blocks.draft history at ≡ Some there → node ≡ there
fresh_is land history at node there here is = let e = sym (told-fresh_at land.blocks.draft history at node here) ∙ is in
    cc

front_of : (a b c d : Node) → a ≡ c → b ≡ d → IsInFront c d → IsInFront a b
front_of a b c d left right is =
    subst (λ (n : Node). IsInFront n b) (sym left) (subst (λ (n : Node). IsInFront c n) (sym right) is)

-- bodies are short in a node where they are under it
pub united-short : (tree : TreeKind) (super : Super) (land : Ground) (history : History) (level at : ℕ)
    (items : List Item)
    → IsBranch tree super (told land.blocks.draft history) level at items → All (λ item. length item.body ≤ 1024) items
    → (a : Node) → fresh_at land.blocks.draft at ≡ Some a → HasShortBodies a
unfolding IsBranch
united-short tree super land history zero at items branch short a here =
    subst (λ (n : Node). HasShortBodies n) (sym (fresh_is land history at a (Leaf branch.0 items) here branch.1)) short
united-short tree super land history (suc level) at items branch short a here =
    subst (λ (n : Node). HasShortBodies n) (sym (fresh_is land history at a (Inner branch.0 branch.1) here branch.2))
    (λ place item low. absurd (omega (arith, low)))

-- the left one's keys are less than the right one's
pub united-front : (tree : TreeKind) (super : Super) (land : Ground) (history : History) (level left right : ℕ)
    (lefts rights : List Item)
    → IsBranch tree super (told land.blocks.draft history) level left lefts
    → IsBranch tree super (told land.blocks.draft history) level right rights
    → is_ascending (keys_of (lefts ++ rights)) ≡ true
    → (a b : Node) → fresh_at land.blocks.draft left ≡ Some a → fresh_at land.blocks.draft right ≡ Some b
    → IsInFront a b
unfolding IsBranch
united-front tree super land history zero left right lefts rights holds holds_other ascending a b here there =
    front_of a b (Leaf holds.0 lefts) (Leaf holds_other.0 rights)
    (fresh_is land history left a (Leaf holds.0 lefts) here holds.1)
    (fresh_is land history right b (Leaf holds_other.0 rights) there holds_other.1)
    (ap is_ascending (sym (map-append (λ (item : Item). item.key) lefts rights)) ∙ ascending)
united-front tree super land history (suc level) left right lefts rights holds holds_other ascending a b here there =
    let Under = λ (p : Pointer) (xs : List Item). IsPointed super (told land.blocks.draft history) p
    × IsBranch tree super (told land.blocks.draft history) level p.child xs in
    front_of a b (Inner holds.0 holds.1) (Inner holds_other.0 holds_other.1)
    (fresh_is land history left a (Inner holds.0 holds.1) here holds.2)
    (fresh_is land history right b (Inner holds_other.0 holds_other.1) there holds_other.2)
    (ap is_ascending (sym (map-append (λ (pointer : Pointer). pointer.key) holds.1 holds_other.1))
    ∙ branches-keys tree super (told land.blocks.draft history) level (holds.1 ++ holds_other.1) (lefts ++ rights)
    (each-join Under holds.1 holds_other.1 lefts rights holds.4 holds_other.4) ascending)
