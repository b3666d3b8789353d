use Rattle.std.proofs.Common.{◌≡◌, List, Some, refl, sym, ap, ◌∙◌, subst}
use Rattle.qg_device.specs.History.{content}
use Rattle.qg_image.specs.Table.{keys_of}
use Rattle.qg_image.specs.declared.part.QuotaPart.{QuotaPart}
use Rattle.qg_image.specs.ItemMeaning.{quota_part}
use Rattle.qg_super.specs.SuperText.{sizes_of}
use Rattle.qg_image.specs.declared.quota.Quota.{Quota}
use Rattle.qg_image.specs.Members.{hierarchy_of}
use Rattle.qg_qgroups.specs.Groups.{IsSound}
use Rattle.qg_image.specs.declared.tree.TreeKind.TheVariants.{Quotas}
use Rattle.qg_image.specs.ImageState.{quota_parts, quota_told}
use Rattle.qg_image.specs.declared.expected.Expected.{Expected}
use Rattle.qg_image.specs.Walk.{tree_failure}
use Rattle.qg_walk.specs.Fault.{TellsFailure}
use Rattle.qg_walk.specs.WalkKeeps.{AreHeld, AreAddressesOf}
use Rattle.qg_walk.specs.IsWalk.{IsWalk}
use Rattle.qg_tree_items.specs.Said.{AreSaid}
use Rattle.qg_tree_items.proofs.KeysOfParts.{quotas_ascending}
use Rattle.qg_quota.specs.declared.fault.QuotaFault.{QuotaFault}
use Rattle.qg_quota.specs.Quota.{quota_rule, IfRule}
use Rattle.qg_check.specs.Editable.{AreGroups}
use Rattle.qg_check.proofs.Groups.{groups_fit, quota_rule_kept, quota_rule_told}
use Rattle.qg_check.proofs.Passing.{quotas_by}
use Rattle.qg_check.proofs.Said.{tree_read, quota_parts_of}
use Rattle.qg_check.proofs.SlotsOf.{slots_of_addresses}
use Rattle.qg_check.proofs.Staging.{fails_handed, tells_first}
use Rattle.qg_check.proofs.trees.read_quota_tree.Goals as goal

-- ---- its items are judged

pub read_quota-requires : goal.read_quota-requires
read_quota-requires g c =
    quotas_ascending c.as_slice.result.now
    (subst (λ (parts : List QuotaPart). AreSaid quota_part parts)
    (sym c.as_slice.ensures) c.in_ok-walked.ensures.ascending)

pub returns-in_err-walked-clause-failure : goal.returns-in_err-walked-clause-failure
returns-in_err-walked-clause-failure g c = λ events extents told named.
    let fault = c.in_err-walked.field-0.0 in
    let walk = subst (λ (expected : Expected). TellsFailure fault
    (tree_failure Quotas c.args.superblock.now (content events) expected c.args.root.now.bytenr))
    c.root_told.ensures (c.in_err-walked.ensures.unsound events told) in
    fails_handed c.from_residual.result fault _ c.from_residual.ensures.1 (tells_first fault _ _ walk)

pub returns-in-Err-Rule-clause-failure : goal.returns-in-Err-Rule-clause-failure
returns-in-Err-Rule-clause-failure g c = λ events extents told named.
    let super = c.args.superblock.now in
    let root = c.args.root.now in
    let numbers = keys_of c.args.subvolumes.now in
    let walk = subst (λ (expected : Expected). IsWalk Quotas quota_part AreAddressesOf c.args.superblock.now
    (content events) expected c.args.root.now.bytenr c.in_ok-walked.walked.parts c.in_ok-walked.walked.nodes)
    c.root_told.ensures (c.in_ok-walked.ensures.found events told) in
    let parts : quota_parts super (content events) ≡ c.as_slice.result.now =
    quota_parts_of super (content events) root named.quota_tree
    ∙ tree_read Quotas quota_part super (content events) root _ _ walk ∙ sym c.as_slice.ensures in
    let refused : quota_rule (keys_of c.args.subvolumes.now) c.as_slice.result.now ≡ Some c.in-Err-Rule.rule =
    subst (λ (fault : QuotaFault).
    IfRule fault (λ rule. quota_rule (keys_of c.args.subvolumes.now) c.as_slice.result.now ≡ Some rule))
    c.in-Err-Rule.field-0-is c.in-Err-Rule.ensures.refused in
    rw (walk.sound, named.all, parts, c.in-Err-Rule.field-0-is)
    (quota_rule_told numbers c.as_slice.result.now c.in-Err-Rule.rule root.bytenr refused)

-- ---- and told

pub returns-in-Ok-clause-failure : goal.returns-in-Ok-clause-failure
returns-in-Ok-clause-failure g c = λ events extents told named.
    let super = c.args.superblock.now in
    let root = c.args.root.now in
    let walk = subst (λ (expected : Expected). IsWalk Quotas quota_part AreAddressesOf c.args.superblock.now
    (content events) expected c.args.root.now.bytenr c.in_ok-walked.walked.parts c.in_ok-walked.walked.nodes)
    c.root_told.ensures (c.in_ok-walked.ensures.found events told) in
    let parts : quota_parts super (content events) ≡ c.as_slice.result.now =
    quota_parts_of super (content events) root named.quota_tree
    ∙ tree_read Quotas quota_part super (content events) root _ _ walk ∙ sym c.as_slice.ensures in
    let rules = quota_rule_kept (keys_of c.args.subvolumes.now) c.as_slice.result.now c.in-Ok.ensures.sound in
    rw (walk.sound, named.all, parts, rules.quota, rules.few) refl

pub returns-in-Ok-clause-tree : goal.returns-in-Ok-clause-tree
returns-in-Ok-clause-tree g c = λ events told.
    let walk = subst (λ (expected : Expected). IsWalk Quotas quota_part AreAddressesOf c.args.superblock.now
    (content events) expected c.args.root.now.bytenr c.in_ok-walked.walked.parts c.in_ok-walked.walked.nodes)
    c.root_told.ensures (c.in_ok-walked.ensures.found events told) in
    let parts = tree_read Quotas quota_part c.args.superblock.now (content events) c.args.root.now _ _ walk in
    record {
      said = c.in_ok-state-in-Ok.ensures.quota ∙ c.in-Ok.ensures.told ∙ ap quota_told (c.as_slice.ensures ∙ sym parts);
      placed = walk.kept;
    }

pub returns-in-Ok-clause-groups : goal.returns-in-Ok-clause-groups
returns-in-Ok-clause-groups g c =
    let generation = c.args.superblock.now.generation in
    let numbers = keys_of c.args.subvolumes.now in
    let parts = c.as_slice.result.now in
    let held = subst (λ (parts : List QuotaPart). AreHeld Quotas quota_part c.args.superblock.now.generation parts)
    (sym c.as_slice.ensures) c.in_ok-walked.ensures.held in
    let ascending = quotas_ascending parts (subst (λ (parts : List QuotaPart). AreSaid quota_part parts)
    (sym c.as_slice.ensures) c.in_ok-walked.ensures.ascending) in
    let rules = quota_rule_kept numbers parts c.in-Ok.ensures.sound in
    let sound = subst (λ (quota : Quota). IsSound (hierarchy_of quota)) c.in-Ok.ensures.told
    c.in-Ok.ensures.hierarchy in
    subst (AreGroups generation numbers) (sym (c.in_ok-state-in-Ok.ensures.quota ∙ c.in-Ok.ensures.told))
    (groups_fit generation numbers parts ascending rules sound (quotas_by generation parts held))

pub returns-in-Ok-clause-slots : goal.returns-in-Ok-clause-slots
returns-in-Ok-clause-slots g c =
    slots_of_addresses (sizes_of c.args.superblock.now) c.in_ok-walked.walked.nodes c.in_ok-walked.ensures.slots
