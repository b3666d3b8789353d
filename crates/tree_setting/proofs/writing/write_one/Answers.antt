use Rattle.std.proofs.Common.{◌≡◌, arith, sym, subst, ◌∙◌, Ok}
use Rattle.std.proofs.lemmas.Result.{on_ok_weaker}
use Rattle.qg_node.specs.NodeText.{IsNodeSize}
use Rattle.qg_node.specs.Reading.{node_read}
use Rattle.qg_super.proofs.Served.{SizesFit-is_served}
use Rattle.qg_blocks.proofs.Stands.{HasSlot-has_slot}
use Rattle.qg_blocks.proofs.Written.{HasWritten-wrote}
use Rattle.tree_setting.proofs.writing.write_one.Goals as goal

pub write_node-requires-clause-size : goal.write_node-requires-clause-size
write_node-requires-clause-size g c =
    subst IsNodeSize (sym c.requires.buffer) (SizesFit-is_served c.args.sizes.now c.requires.served).node_size

pub write-requires : goal.write-requires
write-requires g c =
    let placed = c.is_placed.ensures c.if-not-is_placed.false in
    let inside = (HasSlot-has_slot c.args.sizes.now c.len.result c.args.address placed.slot).inside in
    omega (arith, inside, c.value.ensures, c.len.type_inv, c.write_node.auto.bytes, c.requires.buffer)

pub returns-clause-written : goal.returns-clause-written
returns-clause-written g c =
    let placed = c.is_placed.ensures c.if-not-is_placed.false in
    let node = c.args.node.now in
    let read : node_read c.args.address c.write_node.new.bytes ≡ Ok node =
    rw placed.kept.placed at c.write_node.ensures.read in
    let long = c.write_node.auto.bytes ∙ c.requires.buffer in
    on_ok_weaker c.write.result
    (λ event. HasWritten-wrote c.args.sizes.now c.len.result c.args.address c.write_node.new.bytes node
    (g.D.Disk.history c.args.disk.now)
    (g.D.Disk.history c.write.new.disk) c.requires.served long (rw c.value.ensures at event)
    (λ events told. c.len.ensures ∙ g.met.D.Disk.sized c.args.disk.now events told) placed.slot read)
    c.write.ensures.event
