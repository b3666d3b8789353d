use Rattle.std.proofs.Common.{ℕ, List, ap, refl, sym, ◌∙◌}
use Rattle.qg_node_alloc.specs.declared.ground.Ground.{Ground}
use Rattle.qg_blocks.specs.Table.{with_number}
use Rattle.qg_space.specs.Holding.{without_slot}
use Rattle.qg_node_alloc.specs.SlotTally.{SlotTally}
use Rattle.qg_node_alloc.specs.Tellings.Telling.{Copied}
use Rattle.qg_node_alloc.proofs.Lands.{Rests-given}
use Rattle.qg_node_alloc.proofs.SlotFollows.{follows-more}
use Rattle.qg_node_alloc.proofs.ToldPlaced.{told-placed}
use Rattle.qg_node_alloc.proofs.slot_book.SlotBookBook.copied.Goals as goal

pub returns-clause-rests : goal.returns-clause-rests
returns-clause-rests g c generation drafted =
    let new : Ground = record { blocks = c.args.land.now.blocks; space = c.give_back.new.space } in
    Rests-given c.args.land.now new (g.D.Disk.history c.args._disk.now) c.args.at generation refl refl
    c.give_back.ensures c.requires.copied.clean (λ other differ. refl) c.requires.backed drafted

pub returns-clause-told : goal.returns-clause-told
returns-clause-told g c node there before log follows =
    let book = c.args.self.now in
    let placed = told-placed c.args.land.now.blocks.draft (g.D.Disk.history c.args._disk.now) c.args.at node
    c.requires.copied.clean there in
    follows-more before book c.turn.new.self log (Copied node c.args.copy) follows
    (ap (λ (b : SlotTally). b.told) c.turn.ensures)
    (ap (λ (b : SlotTally). b.slots) c.turn.ensures
    ∙ ap (λ (n : ℕ). without_slot n (with_number c.args.copy book.slots)) (sym placed))
