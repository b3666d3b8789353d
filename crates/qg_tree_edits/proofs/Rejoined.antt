-- A child was joined with its neighbour: what their node finds then, over any disk.
use Rattle.std.proofs.Common.{◌≡◌, ◌≢◌, ℕ, ◌≤◌, ◌<◌, List, arith, refl, sym, ap, ◌∙◌, Option, Some, None}
use Rattle.std.specs.Prelude.{Err}
use Rattle.qg_device.specs.History.{History, Unrecorded}
use Rattle.qg_num.specs.declared.key.Key.{Key}
use Rattle.qg_num.specs.declared.fault.BlockFault.{BlockFault}
use Rattle.qg_num.specs.declared.fault.BlockFault.TheVariants.{NoMemory, Disk, Image}
use Rattle.qg_node.specs.declared.pointer.Pointer.{Pointer}
use Rattle.qg_node.specs.declared.node.Node.{Node}
use Rattle.qg_node.specs.Nodes.{header_of}
use Rattle.qg_image.specs.declared.tree.TreeKind.{TreeKind}
use Rattle.qg_blocks.specs.NodesFound.{BreaksNone, fresh_at}
use Rattle.qg_space.specs.Holding.{free_slots}
use Rattle.qg_node_alloc.specs.declared.ground.Ground.{Ground}
use Rattle.qg_node_alloc.specs.Land.{Rests}
use Rattle.qg_node_alloc.proofs.Lands.{fresh_at-told}
use Rattle.qg_tree_edits.specs.declared.instead.Instead.{Instead}
use Rattle.qg_tree_edits.specs.declared.pairing.Pair.{Pair}
use Rattle.qg_tree_read.specs.Tree.{Root}
use Rattle.qg_tree_edits.specs.Editing.{IsFreshOn, KeepsAbove, StandsInstead}
use Rattle.qg_tree_edits.specs.Uniting.{AreUnited, IsPaired}
use Rattle.qg_tree_edits.proofs.Paired.{IsThinAt, are-pair, pair-differ, pair-left, pair-right}
use Rattle.qg_tree_edits.proofs.UnitedHolds.{united-count, united-stands, united-told}

-- a fault that breaks no rule breaks none, whatever would have been answered
pub unbroken-other : (A B : Type 0) (fault : BlockFault) → BreaksNone {A = A} (Err fault)
    → BreaksNone {A = B} (Err fault)
unbroken-other A B Disk none = tt
unbroken-other A B NoMemory none = tt
unbroken-other A B (Image rule at) none = none

-- fresh nodes of two levels have two addresses
pub fresh-apart : (land : Ground) (high low at q : ℕ) (node : Node) → fresh_at land.blocks.draft at ≡ Some node
    → (header_of node).level ≡ high → IsFreshOn land low q → low < high → at ≢ q
fresh-apart land high low at q node here levelled other below same =
    let there : Some node ≡ Some other.node = sym here ∙ ap (λ (a : ℕ). fresh_at land.blocks.draft a) same
    ∙ other.here in
    let one : node ≡ other.node = cc in
    let equal : high ≡ low = sym levelled ∙ ap (λ (n : Node). (header_of n).level) one ∙ other.levelled in
    omega (arith, equal, below)

module _ (tree : TreeKind) (root : Root) (land mid new : Ground) (history later last : History)
    (pointers : List Pointer) (to : Option Key) (level place child : ℕ) (pair : Pair) (instead : Instead)
    (is : IsPaired tree root land mid history pointers to level place child pair)
    (rests : Rests land mid later root.next) (fresh : IsFreshOn land level child) (thin : IsThinAt land child)
    (united : AreUnited mid new pair.left pair.right instead) (after : Rests mid new last root.next) where
  left : IsFreshOn mid level pair.left
  left = pair-left tree root land mid history later pointers to level place child pair is rests fresh thin

  right : IsFreshOn mid level pair.right
  right = pair-right tree root land mid history later pointers to level place child pair is rests fresh thin

  differ : pair.left ≢ pair.right
  differ = pair-differ tree root land mid history later pointers to level place child pair is rests fresh thin

  -- fresh nodes above stay
  pub rejoined-above : KeepsAbove level land new
  rejoined-above at node here high =
      let there = is.owned.keeps at node here in
      let told_same = united-told mid new pair.left pair.right instead differ
      (are-pair tree root land mid history later pointers to level place child pair is rests fresh thin) united
      (Unrecorded 0) at
      (fresh-apart mid (header_of node).level level at pair.left node there refl left high)
      (fresh-apart mid (header_of node).level level at pair.right node there refl right high) in
      fresh_at-told mid.blocks.draft new.blocks.draft at told_same ∙ there

  pub rejoined-stands : StandsInstead new level instead
  rejoined-stands =
      united-stands mid new pair.left pair.right instead differ
      (are-pair tree root land mid history later pointers to level place child pair is rests fresh thin) united
      level left right

  pub rejoined-count : free_slots mid.space ≤ free_slots new.space
  rejoined-count =
      united-count mid new pair.left pair.right instead differ
      (are-pair tree root land mid history later pointers to level place child pair is rests fresh thin) united
      after.sizes after.held_slots
