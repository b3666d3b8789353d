use Rattle.qg_extent_items.proofs.OneAddress.{stands-first, stands-none}
use Rattle.qg_extent_items.proofs.reading.standing_in.Goals as goal

pub returns-in-Some : goal.returns-in-Some
returns-in-Some c items are is =
    stands-first c.args.at c.args.reference.now items c.args.here.now c.in-Some.standing are is c.in-Some.ensures

pub returns-in-None : goal.returns-in-None
returns-in-None c items are is =
    stands-none c.args.at c.args.reference.now items c.args.here.now c.free_number.result are is c.in-None.ensures
    c.free_number.ensures
