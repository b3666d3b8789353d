use Rattle.std.proofs.Common.{◌≡◌, ℕ, List, ap, sym, ◌∙◌}
use Rattle.std.specs.Prelude.{None, Some}
use Rattle.qg_device.specs.History.{Unrecorded}
use Rattle.qg_blocks.specs.NodesInMemory.{Draft}
use Rattle.qg_blocks.specs.NodesFound.{fresh_at, held_at}
use Rattle.qg_blocks.proofs.Telling.{held-told}
use Rattle.qg_node.specs.declared.node.Header.{Header}
use Rattle.qg_node.specs.declared.node.Node.{Node}
use Rattle.qg_node.specs.Nodes.{header_of}
use Rattle.qg_space.specs.Holding.{without_slot}
use Rattle.qg_node_alloc.specs.SlotTally.{SlotTally}
use Rattle.qg_node_alloc.specs.Tellings.Telling.{Left}
use Rattle.qg_node_alloc.proofs.SlotFollows.{follows-more}
use Rattle.qg_node_alloc.specs.declared.ground.Ground.{Ground}
use Rattle.qg_node_alloc.proofs.Lands.{Rests-given, fresh_at-told, none_first}
use Rattle.qg_node_alloc.proofs.slot_book.SlotBookBook.left.Goals as goal

pub returns-clause-rests : goal.returns-clause-rests
returns-clause-rests g c generation drafted =
    let new : Ground = record { blocks = c.forget.new.self; space = c.give_back.new.space } in
    Rests-given c.args.land.now new (g.D.Disk.history c.args._disk.now) c.args.at generation
    (ap (λ (d : Draft). d.sizes) c.forget.ensures.draft) c.forget.ensures.bound c.give_back.ensures
    (none_first (fresh_at new.blocks.draft c.args.at) _ c.forget.ensures.gone)
    (λ other differ. fresh_at-told c.args.land.now.blocks.draft new.blocks.draft other
    (c.forget.ensures.told (Unrecorded 0) other differ))
    (c.forget.ensures.backed (g.D.Disk.history c.args._disk.now) c.requires.backed) drafted

pub returns-clause-told : goal.returns-clause-told
returns-clause-told g c node there before log follows =
    let book = c.args.self.now in
    let blocks = c.args.land.now.blocks in
    let held = held-told blocks (g.D.Disk.history c.args._disk.now) c.args.at node c.requires.backed there
    c.requires.loaded in
    let seen : Some c.peek.result.now ≡ Some node = sym c.peek.ensures ∙ held in
    let same : c.peek.result.now ≡ node = cc in
    let placed = ap (λ (h : Header). h.address) c.header.ensures ∙ ap (λ (n : Node). (header_of n).address) same in
    follows-more before book c.go.new.self log (Left node) follows
    (ap (λ (b : SlotTally). b.told) c.go.ensures)
    (ap (λ (b : SlotTally). b.slots) c.go.ensures ∙ ap (λ (n : ℕ). without_slot n book.slots) placed)
