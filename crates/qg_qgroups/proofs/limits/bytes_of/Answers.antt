use Rattle.std.proofs.Common.{◌≡◌, ◌∙◌, unwrap_or, rules}
use Rattle.std.specs.BTreeMap.{get}
use Rattle.std.specs.Ordering.{nat_cmp}
use Rattle.qg_qgroups.proofs.HeldBytes.{bytes_got}
use Rattle.qg_qgroups.proofs.limits.bytes_of.Goals as goal

pub returns : goal.returns
returns c =
    let got : c.unwrap_or.result ≡ unwrap_or (get nat_cmp c.args.held.now c.args.group) 0 = search rules in
    got ∙ bytes_got c.args.held.now c.args.group
