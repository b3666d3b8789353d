use Rattle.std.proofs.Common.{◌≡◌, Some, None, rules}
use Rattle.std.specs.BTreeMap.{get}
use Rattle.std.specs.Ordering.{nat_cmp}
use Rattle.qg_qgroups.proofs.HeldBytes.{maxima_got}
use Rattle.qg_qgroups.proofs.limits.maxima_of.Goals as goal

pub returns-in-Some : goal.returns-in-Some
returns-in-Some c =
    let got : get nat_cmp c.args.maxima.now c.args.group ≡ Some c.in-Some.maxima.now = search rules in
    maxima_got c.args.maxima.now c.args.group (Some c.in-Some.maxima.now) got

pub returns-in-None : goal.returns-in-None
returns-in-None c =
    let got : get nat_cmp c.args.maxima.now c.args.group ≡ None = search rules in
    maxima_got c.args.maxima.now c.args.group None got
