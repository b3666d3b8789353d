use Rattle.std.proofs.Common.{◌≡◌, length, arith, sym, ◌∙◌, Ok, Err, subst}
use Rattle.qg_device.specs.History.{content}
use Rattle.qg_node.specs.NodeText.{IsNodeSize}
use Rattle.qg_super.specs.SuperText.{sizes_of}
use Rattle.qg_super.proofs.Served.{SizesFit-is_served}
use Rattle.qg_walk.proofs.Slots.{slot_inside}
use Rattle.qg_walk.proofs.Found.{node_found-no_slot, node_found-read}
use Rattle.qg_walk.proofs.slot.node_at.Goals as goal

pub returns-then-not-is_slot-clause-told : goal.returns-then-not-is_slot-clause-told
returns-then-not-is_slot-clause-told g c events told =
    let none = rw c.sizes.ensures at (sym c.is_slot.ensures ∙ c.if-not-is_slot.true) in
    node_found-no_slot c.args.superblock.now (content events) c.args.address none

pub read-requires : goal.read-requires
read-requires g c =
    let slot = rw c.sizes.ensures at (sym c.is_slot.ensures ∙ c.if-not-is_slot.false) in
    let inside = slot_inside (sizes_of c.args.superblock.now) c.args.address c.requires.served slot in
    omega (arith, inside, c.requires.inside, c.requires.buffer, c.value.ensures)

pub read_node-requires : goal.read_node-requires
read_node-requires g c =
    let long : length c.read.new.buf ≡ c.args.superblock.now.nodesize = c.read.auto.buf ∙ c.requires.buffer in
    subst IsNodeSize (sym long) (SizesFit-is_served (sizes_of c.args.superblock.now) c.requires.served).node_size

pub returns-in-Ok-clause-told : goal.returns-in-Ok-clause-told
returns-in-Ok-clause-told g c events told =
    let slot = rw c.sizes.ensures at (sym c.is_slot.ensures ∙ c.if-not-is_slot.false) in
    let bytes = rw c.value.ensures at (c.in_ok-read.ensures.bytes events told) in
    node_found-read c.args.superblock.now (content events) c.read.new.buf c.args.address (length c.args.buffer.now)
    (Ok c.in-Ok.node) slot bytes c.requires.buffer c.in-Ok.ensures.exact

pub returns-in-Err-Bad-clause-told : goal.returns-in-Err-Bad-clause-told
returns-in-Err-Bad-clause-told g c events told =
    let slot = rw c.sizes.ensures at (sym c.is_slot.ensures ∙ c.if-not-is_slot.false) in
    let bytes = rw c.value.ensures at (c.in_ok-read.ensures.bytes events told) in
    let exact = rw c.in-Err-Bad.field-0-is at c.in-Err-Bad.ensures.exact in
    rw c.rule.ensures
    (node_found-read c.args.superblock.now (content events) c.read.new.buf c.args.address (length c.args.buffer.now)
    (Err c.in-Err-Bad.fault) slot bytes c.requires.buffer exact)
