use Rattle.std.proofs.Common.{ap}
use Rattle.qg_blocks.specs.NodesInMemory.{Draft}
use Rattle.qg_node_alloc.specs.declared.ground.Ground.{Ground}
use Rattle.qg_node_alloc.specs.Changes.{node_at}
use Rattle.qg_node_alloc.proofs.Lands.{Makes-put, Spares-put, Spares-taken}
use Rattle.qg_node_alloc.proofs.putting.put_node.Goals as goal

pub returns-in_err-put_fresh-clause-spares : goal.returns-in_err-put_fresh-clause-spares
returns-in_err-put_fresh-clause-spares c =
    Spares-taken c.args.land.now (record { blocks = c.put_fresh.new.self; space = c.take_slot.new.space })
    c.in_ok-slot.slot c.in_err-put_fresh.ensures.err c.in_ok-slot.ensures.taken

pub returns-clause-made : goal.returns-clause-made
returns-clause-made c =
    Makes-put c.args.land.now (record { blocks = c.put_fresh.new.self; space = c.take_slot.new.space })
    c.in_ok-slot.slot c.args.node c.node_at.result c.node_at.ensures
    c.in_ok-slot.ensures.free c.in_ok-slot.ensures.taken c.in_ok-put_fresh.ensures.told

pub returns-clause-spares : goal.returns-clause-spares
returns-clause-spares c =
    let new : Ground = record { blocks = c.put_fresh.new.self; space = c.take_slot.new.space } in
    Spares-put c.args.land.now new c.in_ok-slot.slot (node_at c.in_ok-slot.slot c.args.node)
    (ap (λ (d : Draft). d.sizes) c.in_ok-put_fresh.ensures.draft) c.in_ok-slot.ensures.taken
    (returns-clause-made c).puts
