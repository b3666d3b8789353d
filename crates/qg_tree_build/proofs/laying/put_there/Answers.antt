use Rattle.std.proofs.Common.{◌≡◌, ap, sym, ◌∙◌}
use Rattle.qg_node.specs.declared.node.Header.{Header}
use Rattle.qg_node.specs.declared.node.Node.{Node}
use Rattle.qg_node.specs.Nodes.{header_of}
use Rattle.qg_image.specs.Table.{with_number}
use Rattle.qg_space.specs.Holding.{Holding}
use Rattle.qg_blocks.specs.NodesInMemory.{Draft}
use Rattle.qg_node_alloc.specs.declared.ground.Ground.{Ground}
use Rattle.qg_node_alloc.specs.Changes.{node_at}
use Rattle.qg_node_alloc.proofs.Lands.{Makes-put, Spares-put, Spares-taken}
use Rattle.qg_tree_build.proofs.Laid.{at-itself}
use Rattle.qg_tree_build.proofs.laying.put_there.Goals as goal

-- the slot that is taken is the one that the node names
taken_named : (old new : Holding) (header : Header) (node : Node)
    → new ≡ record old { slots = with_number header.address old.slots } → header ≡ header_of node
    → new ≡ record old { slots = with_number (header_of node).address old.slots }
taken_named old new header node taken named =
    taken ∙ ap (λ (h : Header). record old { slots = with_number h.address old.slots }) named

pub returns-in_err-put_fresh-clause-spares : goal.returns-in_err-put_fresh-clause-spares
returns-in_err-put_fresh-clause-spares c =
    let new : Ground = record { blocks = c.put_fresh.new.self; space = c.take_slot_at.new.self } in
    Spares-taken c.args.land.now new (header_of c.args.node).address c.in_err-put_fresh.ensures.err
    (taken_named c.args.land.now.space c.take_slot_at.new.self c.header.result c.args.node
    c.in_ok-take_slot_at.ensures.ok c.header.ensures)

pub returns-clause-made : goal.returns-clause-made
returns-clause-made c =
    let new : Ground = record { blocks = c.put_fresh.new.self; space = c.take_slot_at.new.self } in
    Makes-put c.args.land.now new (header_of c.args.node).address c.args.node c.args.node (sym (at-itself c.args.node))
    c.requires (taken_named c.args.land.now.space c.take_slot_at.new.self c.header.result c.args.node
    c.in_ok-take_slot_at.ensures.ok c.header.ensures) c.in_ok-put_fresh.ensures.told

pub returns-clause-spares : goal.returns-clause-spares
returns-clause-spares c =
    let new : Ground = record { blocks = c.put_fresh.new.self; space = c.take_slot_at.new.self } in
    Spares-put c.args.land.now new (header_of c.args.node).address (node_at (header_of c.args.node).address c.args.node)
    (ap (λ (d : Draft). d.sizes) c.in_ok-put_fresh.ensures.draft) (taken_named c.args.land.now.space
    c.take_slot_at.new.self c.header.result c.args.node c.in_ok-take_slot_at.ensures.ok c.header.ensures)
    (returns-clause-made c).puts
