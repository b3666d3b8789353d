use Rattle.std.proofs.Common.{sym, subst}
use Rattle.qg_image.specs.declared.quota.Quota.{Quota}
use Rattle.qg_image.specs.Members.{hierarchy_of}
use Rattle.qg_qgroups.specs.Groups.{IsSound}
use Rattle.qg_image.specs.Table.{keys_of}
use Rattle.qg_qgroups.proofs.Agreed.{quota-by, sound-alone}
use Rattle.qg_machine.specs.GroupChange.{quota_for}
use Rattle.qg_qgroups.proofs.state.QuotaState.of_subvolumes.Goals as goal

pub new-requires-2 : goal.new-requires-2
new-requires-2 g c =
    let made : Quota = quota_for c.args.stamp (keys_of c.args.subs.now) in
    let given : Quota = record { groups = c.in_ok-groups.groups; pairs = c.new.result } in
    record {
      sound = subst (λ (q : Quota). IsSound (hierarchy_of q))
          (sym (quota-by given made c.in_ok-groups.ensures c.new.ensures))
          (sound-alone c.args.stamp (keys_of c.args.subs.now) c.requires);
    }
