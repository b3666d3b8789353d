-- What blocks tell over an image is what the walk that judges the image finds there.
use Rattle.std.proofs.Common.{◌≡◌, ℕ, ◌+◌, ◌-◌, ◌≤◌, true, false, List, length, arith, refl, sym, ap, ◌∙◌, take, drop}
use Rattle.std.proofs.lemmas.Bool.{and_from, le-leb}
use Rattle.std.specs.Result.{result_ok}
use Rattle.std.specs.Prelude.{Option, Some, None, Result, Ok, Err, nat_le, slice_range}
use Rattle.qg_device.specs.History.{Event, Recorded, content, range}
use Rattle.qg_num.specs.declared.rule.Rule.{Rule}
use Rattle.qg_num.specs.declared.rule.Rule.TheVariants.{Slot}
use Rattle.qg_node.specs.declared.node.Node.{Node}
use Rattle.qg_node.specs.declared.fault.NodeFault.{NodeFault}
use Rattle.qg_node.specs.Reading.{node_read}
use Rattle.qg_super.specs.declared.sizes.Sizes.{Sizes}
use Rattle.qg_super.specs.declared.superblock.Super.{Super}
use Rattle.qg_super.specs.Places.{is_served, is_slot, total_bytes}
use Rattle.qg_super.specs.SuperText.{sizes_of}
use Rattle.qg_super.proofs.Served.{SizesFit-is_served}
use Rattle.qg_super.proofs.Slots.{slot_ends}
use Rattle.qg_image.specs.declared.failure.Failure.{Failure}
use Rattle.qg_image.specs.declared.failure.Failure.TheVariants.{Broken}
use Rattle.qg_image.specs.Walk.{in_slot, node_found, read_there}
use Rattle.qg_image.specs.ItemsUnder.{nodes_of}
use Rattle.qg_blocks.specs.NodesInMemory.{Draft, slots_of}
use Rattle.qg_blocks.specs.Standing.{has_slot, ruled, standing}
use Rattle.qg_blocks.specs.NodesFound.{fresh_at, told, told_or}
use Rattle.qg_blocks.proofs.Stands.{standing-nowhere, standing-read}

-- the walk's answer at an address, for what stands there
abbrev pub walked : ℕ → Result Node Rule → Result Node Failure
walked address (Ok node) = Ok node
walked address (Err rule) = Err (Broken rule address)

-- where slots lie is told by their size and their number
is_slot-slots_of : (sizes : Sizes) (address : ℕ)
    → is_slot sizes address ≡ is_slot (slots_of sizes.nodesize sizes.slots) address
unfolding is_slot
is_slot-slots_of sizes address = refl

has_slot-inside : (sizes : Sizes) (bytes address : ℕ) → is_slot sizes address ≡ true → address + sizes.nodesize ≤ bytes
    → has_slot sizes bytes address ≡ true
unfolding has_slot
has_slot-inside sizes bytes address slot inside =
    and_from (is_slot sizes address) (nat_le (address + sizes.nodesize) bytes) slot
    (le-leb (address + sizes.nodesize) bytes inside)

has_slot-none : (sizes : Sizes) (bytes address : ℕ) → is_slot sizes address ≡ false
    → has_slot sizes bytes address ≡ false
unfolding has_slot
has_slot-none sizes bytes address none = rw none refl

walked-ruled : (address : ℕ) (read : Result Node NodeFault) → read_there address read ≡ walked address (ruled read)
walked-ruled address (Ok node) = refl
walked-ruled address (Err fault) = refl

-- an image as long as its superblock says, of which blocks know the slots
pub record IsImageOf (super : Super) (sizes : Sizes) (image : List ℕ) : Type 0 where
  pub served : is_served (sizes_of super) ≡ true
  pub slots : sizes ≡ slots_of super.nodesize super.slots
  pub long : total_bytes (sizes_of super) ≤ length image

slice_range-range : (image : List ℕ) (address n : ℕ) → slice_range image address (address + n) ≡ range address n image
slice_range-range image address n = let size : (address + n) - address ≡ n = omega arith in
    ap (λ (k : ℕ). take k (drop address image)) size

-- what stands at an address is what the walk finds there, and so is the first rule that is broken
pub standing-walked : (super : Super) (sizes : Sizes) (image : List ℕ) (address : ℕ) → IsImageOf super sizes image
    → node_found super image address ≡ walked address (standing sizes image address)
unfolding node_found
standing-walked super sizes image address is = (elim (is_slot (sizes_of super) address)
    as (λ b. is_slot (sizes_of super) address ≡ b
    → in_slot b address (node_read address (slice_range image address (address + super.nodesize))) ≡ walked address
    (standing sizes image address)) [
      | true ↦ λ slot.
          let inside : address + super.nodesize ≤ length image =
          omega (
            arith,
            slot_ends (sizes_of super) address (SizesFit-is_served (sizes_of super) is.served) slot,
            is.long,
          ) in
          let slot' : is_slot (slots_of super.nodesize super.slots) address ≡ true =
          sym (is_slot-slots_of (sizes_of super) address) ∙ slot in
          let has = has_slot-inside (slots_of super.nodesize super.slots) (length image) address slot' inside in
          let read = node_read address (range address super.nodesize image) in
          let stands : standing (slots_of super.nodesize super.slots) image address ≡ ruled read =
          standing-read (slots_of super.nodesize super.slots) (length image) address image
          (range address super.nodesize image) read refl has refl refl in
          rw (slice_range-range image address super.nodesize, is.slots, stands) (walked-ruled address read)
      | false ↦ λ slot.
          let slot' : is_slot (slots_of super.nodesize super.slots) address ≡ false =
          sym (is_slot-slots_of (sizes_of super) address) ∙ slot in
          let none = has_slot-none (slots_of super.nodesize super.slots) (length image) address slot' in
          let stands : standing (slots_of super.nodesize super.slots) image address ≡ Err Slot =
          standing-nowhere (slots_of super.nodesize super.slots) (length image) address image refl none in
          rw (is.slots, stands) refl
    ]) refl

node_walked : (address : ℕ) (read : Result Node Rule) → result_ok read ≡ nodes_of (λ at. walked address read) address
node_walked address (Ok node) = refl
node_walked address (Err rule) = refl

told_there : (fresh : Option Node) (sizes : Sizes) (events : List Event) (address : ℕ) → fresh ≡ None
    → told_or fresh sizes (Recorded events) address ≡ result_ok (standing sizes (content events) address)
told_there None sizes events address none = refl
told_there (Some node) sizes events address none = cc

-- so where no node is fresh at an address, the same node is told there as the walk finds, or none
pub told-walked : (super : Super) (draft : Draft) (events : List Event) (address : ℕ)
    → IsImageOf super draft.sizes (content events) → fresh_at draft address ≡ None
    → told draft (Recorded events) address ≡ nodes_of (node_found super (content events)) address
unfolding told
told-walked super draft events address is none =
    told_there (fresh_at draft address) draft.sizes events address none
    ∙ node_walked address (standing draft.sizes (content events) address)
    ∙ ap (λ (found : Result Node Failure). nodes_of (λ at. found) address)
    (sym (standing-walked super draft.sizes (content events) address is))
