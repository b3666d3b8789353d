use Rattle.std.specs.Prelude.{None}
use Rattle.qg_device.specs.History.{Unrecorded}
use Rattle.qg_node_alloc.specs.declared.ground.Ground.{Ground}
use Rattle.qg_tree_backrefs.proofs.Going.{GivesBack-gone, Rests-gone}
use Rattle.qg_tree_backrefs.proofs.book.let_go.Goals as goal

pub returns-clause-gives : goal.returns-clause-gives
returns-clause-gives c clean =
    let new : Ground = record { blocks = c.forget.new.self; space = c.give_back.new.space } in
    GivesBack-gone c.args.land.now new c.args.at c.forget.ensures.draft c.give_back.ensures clean

pub returns-clause-rests : goal.returns-clause-rests
returns-clause-rests c history generation backed drafted =
    let new : Ground = record { blocks = c.forget.new.self; space = c.give_back.new.space } in
    Rests-gone c.args.land.now new c.args.at c.forget.ensures.draft c.give_back.ensures history generation
    c.forget.ensures.gone (c.forget.ensures.told (Unrecorded 0)) c.forget.ensures.bound
    (c.forget.ensures.backed history backed) drafted
