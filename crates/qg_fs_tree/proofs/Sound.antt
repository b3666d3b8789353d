-- Nodes that are told have a text: what stands on a disk was read, and fresh nodes are such as a commit may write.
use Rattle.std.proofs.Common.{◌≡◌, ℕ, Bool, true, false, List, length, drop, Option, Some, None, arith, refl, sym}
use Rattle.std.proofs.Common.{subst, length-drop}
use Rattle.std.specs.Prelude.{Result, Ok, Err, if◌then◌else◌}
use Rattle.std.specs.Result.{result_ok}
use Rattle.std.proofs.lemmas.List.{length-take}
use Rattle.qg_device.specs.History.{History, Recorded, Unrecorded, content, range}
use Rattle.qg_num.specs.declared.rule.Rule.{Rule}
use Rattle.qg_num.specs.declared.rule.Rule.TheVariants as rule
use Rattle.qg_node.specs.declared.node.Node.{Node}
use Rattle.qg_node.specs.declared.fault.NodeFault.{NodeFault}
use Rattle.qg_node.specs.NodeText.{IsNode}
use Rattle.qg_node.specs.Reading.{node_read}
use Rattle.qg_super.specs.declared.sizes.Sizes.{Sizes}
use Rattle.qg_blocks.specs.Standing.{has_slot, ruled, standing}
use Rattle.qg_blocks.specs.NodesFound.{fresh_at, told, told_or}
use Rattle.qg_blocks.proofs.Stands.{HasSlot-has_slot}
use Rattle.qg_tree_edits.specs.Types.{Ground}
use Rattle.qg_tree_edits.specs.Land.{IsDrafted}
use Rattle.qg_fs_tree.proofs.Formed.{read-formed}

-- ---- what stands in an image

slot_read : (has : Bool) (read : Result Node NodeFault) (node : Node)
    → (if has then ruled read else Err rule.Slot) ≡ Ok node → read ≡ Ok node
slot_read true (Ok other) node is = let same : other ≡ node = cc in rw same refl
slot_read true (Err fault) node is = absurd cc
slot_read false read node is = absurd cc

pub standing-read : (sizes : Sizes) (image : List ℕ) (at : ℕ) (node : Node) → standing sizes image at ≡ Ok node
    → node_read at (range at sizes.nodesize image) ≡ Ok node
unfolding standing
standing-read sizes image at node is =
    slot_read (has_slot sizes (length image) at) (node_read at (range at sizes.nodesize image)) node is

pub ok-there : (read : Result Node Rule) (node : Node) → result_ok read ≡ Some node → read ≡ Ok node
ok-there (Ok other) node is = let same : other ≡ node = cc in rw same refl
ok-there (Err broken) node is = absurd cc

-- what stands at an address has a slot there
slot_has : (has : Bool) (read : Result Node Rule) (node : Node) → (if has then read else Err rule.Slot) ≡ Ok node
    → has ≡ true
slot_has true read node is = refl
slot_has false read node is = absurd cc

standing_slot : (sizes : Sizes) (image : List ℕ) (at : ℕ) (node : Node) → standing sizes image at ≡ Ok node
    → has_slot sizes (length image) at ≡ true
unfolding standing
standing_slot sizes image at node is =
    slot_has (has_slot sizes (length image) at) (ruled (node_read at (range at sizes.nodesize image))) node is

standing_formed : (sizes : Sizes) (image : List ℕ) (at : ℕ) (node : Node) → standing sizes image at ≡ Ok node
    → IsNode sizes.nodesize node
standing_formed sizes image at node is =
    let inside = (HasSlot-has_slot sizes (length image) at (standing_slot sizes image at node is)).inside in
    let text = range at sizes.nodesize image in
    let size : length text ≡ sizes.nodesize =
    omega (arith, length-take sizes.nodesize (drop at image), length-drop at image, inside) in
    subst (λ (n : ℕ). IsNode n node) size (read-formed at text node (standing-read sizes image at node is))

either_formed : (fresh : Option Node) (sizes : Sizes) (history : History) (at : ℕ) (node : Node)
    → ((other : Node) → fresh ≡ Some other → IsNode sizes.nodesize other)
    → told_or fresh sizes history at ≡ Some node → IsNode sizes.nodesize node
either_formed (Some other) sizes history at node here is = here node is
either_formed None sizes (Unrecorded changes) at node here is = absurd cc
either_formed None sizes (Recorded events) at node here is =
    standing_formed sizes (content events) at node (ok-there (standing sizes (content events) at) node is)

pub told-formed : (land : Ground) (history : History) (generation : ℕ) → IsDrafted land generation
    → (q : ℕ) (node : Node) → told land.blocks.draft history q ≡ Some node → IsNode land.space.sizes.nodesize node
unfolding told
told-formed land history generation drafted q node is =
    let sizes = land.blocks.draft.sizes in
    let same : sizes.nodesize ≡ land.space.sizes.nodesize = drafted.sizes.nodesize in
    subst (λ (n : ℕ). IsNode n node) same
    (either_formed (fresh_at land.blocks.draft q) sizes history q node
    (λ other there. subst (λ (n : ℕ). IsNode n other) (sym same) (drafted.each q other there).kept.sound) is)
