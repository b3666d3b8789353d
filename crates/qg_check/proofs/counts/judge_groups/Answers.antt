use Rattle.std.proofs.Common.{◌≡◌, ◌∙◌, get_or}
use Rattle.qg_num.specs.declared.counters.Counters.{Counters}
use Rattle.qg_image.specs.Members.{hierarchy_of}
use Rattle.qg_image.specs.Verdict.{group_failure}
use Rattle.qg_walk.specs.declared.fault.OpenFault.TheVariants.{Disk}
use Rattle.qg_walk.proofs.Failures.{TellsFailure-of, told-no_disk}
use Rattle.qg_check.proofs.Counters.{counted_at, judged_so, HaveJudged-none, HaveJudged-more, HaveJudged-found}
use Rattle.qg_check.proofs.Counters.{HaveJudged-all}
use Rattle.qg_check.proofs.counts.judge_groups.Goals as goal

pub loop-i-init : goal.loop-i-init
loop-i-init c = λ layout quota numbers are. HaveJudged-none (group_failure layout quota) c.args.groups.now

pub loop-i-preserved : goal.loop-i-preserved
loop-i-preserved c = λ layout quota numbers are.
    let nothing : Counters = record { rfer = 0; excl = 0 } in
    let groups = c.args.groups.now in
    let counters = c.args.counters.now in
    let i = c.loop-i.i in
    let entry = c.index-groups-i.result in
    let due = counted_at layout (hierarchy_of quota) groups counters i entry nothing numbers are c.requires
    c.loop-i-test.true c.index-groups-i.is in
    let none = judged_so layout quota entry (get_or counters i nothing) c.own_failure.result due
    c.own_failure.ensures ∙ c.in_default.is in
    HaveJudged-more (group_failure layout quota) i groups entry c.loop-i-test.true c.index-groups-i.is none
    (c.loop-i.invariant layout quota numbers are)

pub returns-in-Some-clause-failure : goal.returns-in-Some-clause-failure
returns-in-Some-clause-failure c = λ layout quota numbers are.
    let nothing : Counters = record { rfer = 0; excl = 0 } in
    let groups = c.args.groups.now in
    let counters = c.args.counters.now in
    let i = c.loop-i.i in
    let entry = c.index-groups-i.result in
    let due = counted_at layout (hierarchy_of quota) groups counters i entry nothing numbers are c.requires
    c.loop-i-test.true c.index-groups-i.is in
    let some = judged_so layout quota entry (get_or counters i nothing) c.own_failure.result due
    c.own_failure.ensures ∙ c.in-Some.is in
    let found = HaveJudged-found (group_failure layout quota) i groups entry c.in-Some.failure c.loop-i-test.true
    c.index-groups-i.is some
    (c.loop-i.invariant layout quota numbers are) in
    TellsFailure-of c.from.result c.in-Some.failure _ c.from.ensures found

pub returns-in-Some-clause-no_disk : goal.returns-in-Some-clause-no_disk
returns-in-Some-clause-no_disk c = λ is. let disk : c.from.result ≡ Disk = cc in
    told-no_disk c.from.result c.in-Some.failure c.from.ensures disk

pub returns-clause-failure : goal.returns-clause-failure
returns-clause-failure c = λ layout quota numbers are.
    HaveJudged-all (group_failure layout quota) c.loop-i.i c.args.groups.now c.loop-i-test.false
    (c.loop-i.invariant layout quota numbers are)
