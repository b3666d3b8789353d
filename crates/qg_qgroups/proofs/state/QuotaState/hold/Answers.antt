use Rattle.std.proofs.Common.{◌+◌, ◌<◌, ◌^◌, get_or, arith}
use Rattle.qg_qgroups.specs.Limit.{HoldsMore, held_of}
use Rattle.qg_qgroups.proofs.Agreed.{ok-then}
use Rattle.qg_qgroups.proofs.Paths.{held-more, held-room}
use Rattle.qg_qgroups.proofs.state.QuotaState.hold.Goals as goal

pub hold-requires : goal.hold-requires
hold-requires c = record {
  fits = λ k d inside.
      let group = get_or c.args.path.now k d in
      let room = held-room c.args.path.now c.args.n group (held_of c.args.self.now.limits group) c.requires.ascending in
      let few : held_of c.args.self.now.limits group + c.args.n < 2 ^ 64 = c.requires.fits k d inside in
      omega (arith, room, few);
}

pub returns-clause-holds : goal.returns-clause-holds
returns-clause-holds c =
    let old = c.args.self.now in
    ok-then c.hold.result (HoldsMore old.limits c.hold.new.self c.args.path.now c.args.n) _
    (λ more given pending is has amount holds group. held-more old.quota given pending c.args.path.now c.args.n group
    (held_of old.limits group) (held_of c.hold.new.self group)
    c.requires.tracked.sound has c.requires.ascending is amount (holds group) (more group))
    c.hold.ensures.ok

pub returns-clause-most : goal.returns-clause-most
returns-clause-most c =
    let old = c.args.self.now in
    ok-then c.hold.result (HoldsMore old.limits c.hold.new.self c.args.path.now c.args.n) _
    (λ more bound low group.
    let room = held-room c.args.path.now c.args.n group (held_of old.limits group) c.requires.ascending in
    omega (arith, room, more group, low group))
    c.hold.ensures.ok
