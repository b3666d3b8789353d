-- Nodes that a commit wrote and made sure of stand in any image that a crash at a later moment of it may leave.
use Rattle.std.proofs.Common.{◌≡◌, ◌∙◌, suc, true, List, [], ◌∷◌, get_or, refl, sym, ap, arith}
use Rattle.std.specs.Prelude.{All}
use Rattle.std.specs.List.{AllByRecursion}
use Rattle.qg_device.specs.History.{Event, Synced, content}
use Rattle.qg_node.specs.declared.node.Node.{Node}
use Rattle.qg_node.specs.Nodes.{header_of}
use Rattle.qg_super.specs.declared.superblock.Super.{Super}
use Rattle.qg_super.specs.SuperText.{is_super, sizes_of}
use Rattle.qg_super.proofs.Served.{SizesFit-is_served, SuperFits-is_super}
use Rattle.qg_image.specs.Walk.{node_found}
use Rattle.qg_commit.specs.Calls.{IsWritable}
use Rattle.qg_crashes.proofs.Between.{is_slot-IsBetween}
use Rattle.qg_commit.proofs.CallEvents.{calls_are_whole, calls_write}
use Rattle.qg_commit.proofs.Written.{AreCommittable, with_commit-HasCommit}
use Rattle.qg_crashes.specs.Slots.{IsInSlot}
use Rattle.qg_crashes.proofs.Slots.{slots_are_settled}
use Rattle.qg_commit.specs.CommitCalls.{NewNodesStand}

-- nodes in slots may be written
writable_in_slot : (super : Super) (node : Node) → is_super super ≡ true → IsInSlot super node
    → IsWritable super.nodesize node
writable_in_slot super node fits is =
    let served = SizesFit-is_served (sizes_of super) (SuperFits-is_super super fits).served in
    let between = is_slot-IsBetween (sizes_of super) (header_of node).address served is.slot in
    record { node_of_format = is.node_of_format; ends = omega (arith, between.end) }

writable_in_slots : (super : Super) (nodes : List Node) → is_super super ≡ true → All (IsInSlot super) nodes
    → AllByRecursion (IsWritable super.nodesize) nodes
writable_in_slots super [] fits all = tt
writable_in_slots super (node ∷ nodes) fits all = (
  writable_in_slot super node fits (all 0 node (omega arith)),
  writable_in_slots super nodes fits
      (λ k any below. all (suc k) any (omega arith)),
)

pub new_nodes_stand : NewNodesStand
new_nodes_stand before nodes super after image moment calls leaves past distinct read =
    let committable : AreCommittable super nodes = record {
      writable = writable_in_slots super nodes calls.may_be_written calls.in_slots;
      in_slots = λ k any below. (calls.in_slots k any below).slot;
      apart = distinct;
    } in
    let has = with_commit-HasCommit super nodes (Synced ∷ before) calls.may_be_written calls.long committable read in
    λ k any below.
    let address = (header_of (get_or nodes k any)).address in
    slots_are_settled before nodes super super after image moment address (calls_write before nodes super after calls)
    leaves refl past
    ∙ ap (λ (events : List Event). node_found super (content events) address) (sym (calls_are_whole before nodes super))
    ∙ has.found k any below
