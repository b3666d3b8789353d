use Rattle.std.proofs.Common.{◌≡◌, ℕ, length, Option, Some, arith, sym, subst, ap, ◌∙◌, refl, true, Ok}
use Rattle.std.specs.Prelude.{IsTrue}
use Rattle.qg_node.specs.declared.node.Node.{Node}
use Rattle.qg_node.specs.Reading.{node_read}
use Rattle.qg_super.specs.Places.{is_served}
use Rattle.qg_blocks.specs.NodesInMemory.{slots_of}
use Rattle.qg_blocks.specs.NodesFound.{fresh_at, held_at, clean_at}
use Rattle.qg_blocks.specs.Writing.{HasWritten, IsPlaced}
use Rattle.qg_blocks.proofs.Stands.{HasSlot-has_slot}
use Rattle.qg_blocks.proofs.Telling.{fresh-held}
use Rattle.qg_blocks.proofs.Written.{HasWritten-wrote}
use Rattle.tests_of_structures.proofs.blocks.write_one.Goals as goal

small_served : is_served (slots_of 4096 64) ≡ true
unfolding is_served
small_served = refl

pub write_at-requires : goal.write_at-requires
write_at-requires g c =
    let placed = c.is_placed.ensures c.if-not-is_placed.false in
    let inside = (HasSlot-has_slot (slots_of 4096 64) c.len.result c.args.address placed.slot).inside in
    omega (arith, inside, c.value.ensures, c.len.type_inv, c.write_node.auto.bytes)

pub returns-clause-written : goal.returns-clause-written
returns-clause-written g c node fresh =
    let placed = c.is_placed.ensures c.if-not-is_placed.false in
    let same : c.peek-node.result.now ≡ node =
    fresh-held c.args.blocks.now c.args.address node c.peek-node.result.now fresh c.peek-node.ensures in
    let read : node_read c.args.address c.write_node.new.bytes ≡ Ok node =
    rw (placed.kept.placed, same) at c.write_node.ensures.read in
    HasWritten-wrote (slots_of 4096 64) c.len.result c.args.address c.write_node.new.bytes node
    (g.D.Disk.history c.args.disk.now) (g.D.Disk.history c.write_at.new.self)
    small_served c.write_node.auto.bytes (rw c.value.ensures at c.in_ok-write_at.ensures.event)
    (λ events told. c.len.ensures ∙ g.met.D.Disk.sized c.args.disk.now events told) placed.slot read
