use Rattle.std.proofs.Common.{drop}
use Rattle.std.proofs.lemmas.List.{take_rest}
use Rattle.qg_tree_read.proofs.Leaves.{parted-goes}
use Rattle.qg_extent_read.proofs.Taken.{ascending-drop, from-found, from-past, from-place, less-found}
use Rattle.qg_extent_read.proofs.leaf.items_from.Goals as goal

pub returns-in-Ok-clause-within : goal.returns-in-Ok-clause-within
returns-in-Ok-clause-within c to =
    rw (take_rest c.args.items.now c.in-Ok.place)
    (from-place c.args.key to c.args.items.now c.in-Ok.place
    (less-found c.args.key c.args.items.now c.in-Ok.place c.requires c.in-Ok.ensures.found))

pub returns-in-Ok-clause-ascending : goal.returns-in-Ok-clause-ascending
returns-in-Ok-clause-ascending c =
    rw (take_rest c.args.items.now c.in-Ok.place) (ascending-drop c.args.items.now c.in-Ok.place c.requires)

pub returns-in-Err-clause-within : goal.returns-in-Err-clause-within
returns-in-Err-clause-within c to =
    rw (take_rest c.args.items.now c.in-Err.place)
    (from-place c.args.key to c.args.items.now c.in-Err.place
    (parted-goes c.args.key c.args.items.now c.in-Err.place c.in-Err.ensures.absent).less)

pub returns-in-Err-clause-ascending : goal.returns-in-Err-clause-ascending
returns-in-Err-clause-ascending c =
    rw (take_rest c.args.items.now c.in-Err.place) (ascending-drop c.args.items.now c.in-Err.place c.requires)

pub returns-in-Ok-clause-from : goal.returns-in-Ok-clause-from
returns-in-Ok-clause-from c =
    rw (take_rest c.args.items.now c.in-Ok.place)
    (from-found c.args.key c.args.items.now c.in-Ok.place c.requires c.in-Ok.ensures.found)

pub returns-in-Err-clause-from : goal.returns-in-Err-clause-from
returns-in-Err-clause-from c =
    let items = c.args.items.now in
    rw (take_rest items c.in-Err.place)
    (from-past c.args.key (drop c.in-Err.place items)
    (parted-goes c.args.key items c.in-Err.place c.in-Err.ensures.absent).past)
