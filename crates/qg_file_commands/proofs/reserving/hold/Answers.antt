use Rattle.qg_qgroups.specs.Tracked.{IsTracked}
use Rattle.qg_file_commands.proofs.ReservedBy.{ascends-on, fits-on, holds-off, holds-on, most-off, most-on, ok-anyway}
use Rattle.qg_file_commands.proofs.ReservedBy.{quota-on}
use Rattle.qg_file_commands.proofs.ReservedBy.{tracked-on}
use Rattle.qg_file_commands.proofs.reserving.hold.Goals as goal

-- ---- quota is off

pub returns-in-None-clause-most : goal.returns-in-None-clause-most
returns-in-None-clause-most c = most-off c.args.kept.now.quota c.in-None.is c.args.path.now c.args.n

pub returns-in-None-clause-holds : goal.returns-in-None-clause-holds
returns-in-None-clause-holds c = holds-off c.args.kept.now.quota c.in-None.is c.args.path.now c.args.n

-- ---- quota is on

pub hold-requires : goal.hold-requires
hold-requires c =
    let quota = c.args.kept.now.quota in
    let state = c.in-Some.quota in
    let on = c.in-Some.is in
    let path = c.args.path.now in
    record {
      tracked = tracked-on quota state on path c.args.n c.requires.tracked;
      ascending = ascends-on quota state on path c.args.n c.requires.tracked c.requires.path;
      fits = fits-on quota state on path c.args.n c.requires.tracked c.requires.fits;
    }

pub returns-in-Some-clause-tracked : goal.returns-in-Some-clause-tracked
returns-in-Some-clause-tracked c = ok-anyway c.hold.result (IsTracked c.hold.new.self) c.hold.ensures.tracked

pub returns-in-Some-clause-same : goal.returns-in-Some-clause-same
returns-in-Some-clause-same c =
    quota-on c.args.kept.now.quota c.in-Some.quota c.hold.new.self c.in-Some.is c.hold.ensures.quota

pub returns-in-Some-clause-most : goal.returns-in-Some-clause-most
returns-in-Some-clause-most c =
    most-on c.args.kept.now.quota c.in-Some.quota c.in-Some.is c.args.path.now c.args.n c.requires.tracked c.hold.result
    c.hold.new.self c.hold.ensures.most

pub returns-in-Some-clause-holds : goal.returns-in-Some-clause-holds
returns-in-Some-clause-holds c =
    holds-on c.args.kept.now.quota c.in-Some.quota c.in-Some.is c.args.path.now c.args.n c.requires.tracked
    c.hold.result
    c.hold.new.self c.requires.path c.hold.ensures.holds
