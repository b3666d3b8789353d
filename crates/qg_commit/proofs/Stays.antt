-- Slots in which a commit writes no node are as they were.
use Rattle.std.proofs.Common.{◌≡◌, ℕ, ◌+◌, ◌≤◌, inl, inr, true, List, [], ◌∷◌, map, length, arith, refl, sym, ap, subst}
use Rattle.std.proofs.Common.{◌∙◌}
use Rattle.std.specs.Prelude.{Contains, IsTrue, Option, Some, None, Result, Ok, Err}
use Rattle.std.specs.List.{AllByRecursion}
use Rattle.qg_device.specs.History.{Event, Recorded, Wrote, content, overlay}
use Rattle.qg_disk.proofs.Sizes.{length-overlay}
use Rattle.qg_num.specs.declared.rule.Rule.{Rule}
use Rattle.qg_node.specs.declared.node.Node.{Node}
use Rattle.qg_node.specs.NodeText.{IsNode, node_text}
use Rattle.qg_node.proofs.Texts.{length-node_text}
use Rattle.qg_super.specs.declared.sizes.Sizes.{Sizes}
use Rattle.qg_super.specs.declared.superblock.Super.{Super}
use Rattle.qg_super.specs.Places.{first_place, is_served, is_slot, second_place, total_bytes}
use Rattle.qg_super.specs.SuperText.{sizes_of, super_text}
use Rattle.qg_super.proofs.Served.{SizesFit-is_served}
use Rattle.qg_super.proofs.Slots.{IsSlotAt-is_slot, slot_ends}
use Rattle.qg_super.proofs.SuperTexts.{length-super_text}
use Rattle.qg_image.proofs.Contained.{contains_here, contains_later}
use Rattle.qg_image.specs.Walk.{node_found}
use Rattle.qg_tree_layout.specs.Row.{address_of}
use Rattle.qg_blocks.specs.NodesInMemory.{slots_of}
use Rattle.qg_blocks.specs.Standing.{has_slot, standing}
use Rattle.qg_blocks.specs.NodesFound.{told_or}
use Rattle.qg_blocks.proofs.Walked.{standing-walked, walked}
use Rattle.qg_blocks.proofs.Written.{slots-apart, standing-apart}
use Rattle.qg_commit.specs.Calls.{with_commit, with_nodes}
use Rattle.qg_commit.proofs.Written.{with_nodes-no_shorter}
use Rattle.qg_shared_trees.proofs.Sound.{ok-there}

-- a node has a text of a node's size, and lies in a slot
pub record LiesInSlot (sizes : Sizes) (node : Node) : Type 0 where
  pub formed : IsNode sizes.nodesize node
  pub slot : IsTrue (is_slot sizes (address_of node))

-- ---- what stands depends on the bytes of a node and on the slots alone

sectors_free : (nodesize slots a b : ℕ) (image : List ℕ) (at : ℕ)
    → standing (record { nodesize = nodesize; slots = slots; sectors = a }) image at
    ≡ standing (record { nodesize = nodesize; slots = slots; sectors = b }) image at
unfolding standing has_slot is_slot
sectors_free nodesize slots a b image at = refl

pub standing-alike : (a b : Sizes) (image : List ℕ) (at : ℕ) → a.nodesize ≡ b.nodesize → a.slots ≡ b.slots
    → standing a image at ≡ standing b image at
standing-alike a b image at size slots =
    ap (λ (n : ℕ). standing (record { nodesize = n; slots = a.slots; sectors = a.sectors }) image at) size
    ∙ ap (λ (n : ℕ). standing (record { nodesize = b.nodesize; slots = n; sectors = a.sectors }) image at) slots
    ∙ sectors_free b.nodesize b.slots a.sectors b.sectors image at

-- ---- what is found by the walk of an image

pub found-walked : (super : Super) (image : List ℕ) (at : ℕ) → is_served (sizes_of super) ≡ true
    → total_bytes (sizes_of super) ≤ length image
    → node_found super image at ≡ walked at (standing (sizes_of super) image at)
found-walked super image at served long =
    let sizes = slots_of super.nodesize super.slots in
    standing-walked super sizes image at (record { served = served; slots = refl; long = long })
    ∙ ap (walked at) (standing-alike sizes (sizes_of super) image at refl refl)

walked_ok : (at : ℕ) (read : Result Node Rule) (node : Node) → walked at read ≡ Ok node → read ≡ Ok node
walked_ok at (Ok other) node is = let same : other ≡ node = cc in rw same refl
walked_ok at (Err rule) node is = absurd cc

-- a node that is found stands there
pub found-stands : (super : Super) (image : List ℕ) (at : ℕ) (node : Node) → is_served (sizes_of super) ≡ true
    → total_bytes (sizes_of super) ≤ length image → node_found super image at ≡ Ok node
    → standing (sizes_of super) image at ≡ Ok node
found-stands super image at node served long found =
    walked_ok at (standing (sizes_of super) image at) node (sym (found-walked super image at served long) ∙ found)

-- and one that stands there is found
pub stands-found : (super : Super) (image : List ℕ) (at : ℕ) (node : Node) → is_served (sizes_of super) ≡ true
    → total_bytes (sizes_of super) ≤ length image → standing (sizes_of super) image at ≡ Ok node
    → node_found super image at ≡ Ok node
stands-found super image at node served long stands =
    found-walked super image at served long ∙ ap (walked at) stands

-- what is told where no node is fresh stands on the disk
pub clean-stands : (fresh : Option Node) (sizes : Sizes) (events : List Event) (at : ℕ) (node : Node) → fresh ≡ None
    → told_or fresh sizes (Recorded events) at ≡ Some node → standing sizes (content events) at ≡ Ok node
clean-stands None sizes events at node none is = ok-there (standing sizes (content events) at) node is
clean-stands (Some mine) sizes events at node none is = absurd cc

-- ---- slots in which nothing is written

module _ (sizes : Sizes) (served : is_served sizes ≡ true) where
  one_written : (node : Node) (image : List ℕ) (at : ℕ) → LiesInSlot sizes node → second_place ≤ length image
      → (at ≡ address_of node → ⊥)
      → standing sizes (overlay (address_of node) (node_text sizes.nodesize node) image) at ≡ standing sizes image at
  one_written node image at lies long differ =
      let place = address_of node in
      let text = node_text sizes.nodesize node in
      let size : length text ≡ sizes.nodesize = length-node_text sizes.nodesize node lies.formed.fits in
      let ends = slot_ends sizes place (SizesFit-is_served sizes served) lies.slot in
      let inside : place + length text ≤ length image = omega (arith, ends, size, long) in
      standing-apart sizes place at text image inside
      (λ slot. rw size (slots-apart sizes at place served slot lies.slot differ))

  -- nodes are written elsewhere
  pub stays-nodes : (nodes : List Node) (events : List Event) (at : ℕ) → AllByRecursion (LiesInSlot sizes) nodes
      → second_place ≤ length (content events) → (Contains (map address_of nodes) at → ⊥)
      → standing sizes (content (with_nodes sizes.nodesize nodes events)) at ≡ standing sizes (content events) at
  stays-nodes [] events at lie long apart = refl
  stays-nodes (node ∷ nodes) events at lie long apart =
      let place = address_of node in
      let text = node_text sizes.nodesize node in
      let longer : second_place ≤ length (content (Wrote place text ∷ events)) =
      omega (arith, long, length-overlay place text (content events)) in
      stays-nodes nodes (Wrote place text ∷ events) at lie.1 longer
      (λ has. apart (contains_later place (map address_of nodes) at has))
      ∙ one_written node (content events) at lie.0 long
      (λ same. apart (subst (λ (n : ℕ). Contains (map address_of (node ∷ nodes)) n) (sym same)
      (contains_here place (map address_of nodes))))

  -- both superblocks are written
  pub stays-superblocks : (super : Super) (image : List ℕ) (at : ℕ) → second_place + 4096 ≤ length image
      → standing sizes (overlay second_place (super_text second_place super)
      (overlay first_place (super_text first_place super) image)) at
      ≡ standing sizes image at
  stays-superblocks super image at long =
      let fit = SizesFit-is_served sizes served in
      let first = super_text first_place super in
      let second = super_text second_place super in
      let size : length first ≡ 4096 = length-super_text first_place super in
      let size' : length second ≡ 4096 = length-super_text second_place super in
      let image' = overlay first_place first image in
      let inside : first_place + length first ≤ length image = omega (arith, size, long) in
      let inside' : second_place + length second ≤ length image' =
      omega (arith, size', long, length-overlay first_place first image) in
      standing-apart sizes second_place at second image' inside'
      (λ slot. inl (slot_ends sizes at fit slot))
      ∙ standing-apart sizes first_place at first image inside
      (λ slot. let begin = (IsSlotAt-is_slot sizes at slot).begin in inr (omega (arith, begin, size)))

-- a commit that writes no node there
pub stays-commit : (super : Super) (nodes : List Node) (events : List Event) (at : ℕ)
    → is_served (sizes_of super) ≡ true
    → total_bytes (sizes_of super) ≤ length (content events) → AllByRecursion (LiesInSlot (sizes_of super)) nodes
    → (Contains (map address_of nodes) at → ⊥)
    → standing (sizes_of super) (content (with_commit super nodes events)) at
    ≡ standing (sizes_of super) (content events) at
stays-commit super nodes events at served long lie apart =
    let sizes = sizes_of super in
    let written = content (with_nodes super.nodesize nodes events) in
    let no_shorter = with_nodes-no_shorter super.nodesize nodes events in
    let front : second_place ≤ length (content events) = omega (arith, long) in
    let whole : second_place + 4096 ≤ length written = omega (arith, long, no_shorter) in
    stays-superblocks sizes served super written at whole ∙ stays-nodes sizes served nodes events at lie front apart
