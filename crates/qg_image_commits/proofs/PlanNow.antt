-- What a commit is told of what is kept: the ROOT_ITEMs of its trees, the groups with their direct counts, and slots.
use Rattle.std.proofs.Common.{◌≡◌, ℕ, ◌≤◌, List, length, Some, sym, ap, subst, ◌∙◌}
use Rattle.std.specs.List.Sorted.{IsNonDecreasingBy, IsPermutation}
use Rattle.qg_device.specs.History.{History}
use Rattle.qg_num.specs.declared.counters.Counters.{Counters}
use Rattle.qg_image.specs.Table.{keys_of}
use Rattle.qg_image.specs.Record.{Record}
use Rattle.qg_image.specs.declared.quota.Quota.{Quota}
use Rattle.qg_image.specs.Members.{hierarchy_of}
use Rattle.qg_image.specs.State.{State, layout_of}
use Rattle.qg_extents.specs.Table.{IsTable}
use Rattle.qg_tree_read.specs.Tree.{Root}
use Rattle.qg_qgroup_counts.specs.Direct.{AreGroupCounts}
use Rattle.qg_open_image.specs.Standing.{trees_of}
use Rattle.qg_survey.specs.Surveying.{trees_of as trees_of_state}
use Rattle.qg_open_image.specs.HoldsAfter.{AreFree}
use Rattle.qg_qgroups.specs.Changing.{groups_in}
use Rattle.qg_qgroups.specs.Tracked.{quota_of}
use Rattle.qg_open_image.specs.FsLawsKeeping.{AreDueCounters}
use Rattle.qg_open_image.specs.FsLawsCommitting.{IsInOrder}
use Rattle.qg_open_image.specs.declared.open_image.OpenImage.{OpenImage}
use Rattle.qg_open_image.specs.declared.open_image.KeptSubvolume.{KeptSubvolume}
use Rattle.qg_image_commits.specs.declared.planning.Plan.{Plan}
use Rattle.qg_image_commits.specs.Committing.{IsPlanOf}
use Rattle.qg_open_image.specs.Keeping.{IsKept, IsKeptWith, KnowsNoLater, commit_need}
use Rattle.qg_image_commits.specs.Planning.{AreRootsBy, HasSurveyed, IsPlanSo, IsPlanTold, counters_by, numbers_of}
use Rattle.qg_image_commits.proofs.ByNumber.{numbers-are, trees-are}
use Rattle.qg_image_commits.proofs.Cleaned.{surveyed-keeps}
use Rattle.qg_image_commits.proofs.Counters.{quota-still}
use Rattle.qg_image_commits.proofs.GroupCounts.{direct-told}
use Rattle.qg_image_commits.proofs.OnOff.{laid_by}
use Rattle.qg_image_commits.proofs.RootsNow.{roots-of}

-- ---- the trees and the numbers, after the survey

module _ (old new : OpenImage) (before after : History) (bytes left : ℕ) (trees : List Root)
    (fits : IsKept old before bytes) (looked : HasSurveyed old new before after bytes left)
    (moved : IsPermutation (trees_of old.fs) trees) (up : IsNonDecreasingBy (λ tree. tree.owner) trees) where
  pub trees-moved : IsPermutation (trees_of new.fs) trees
  trees-moved =
      subst (λ (kept : OpenImage). IsPermutation (trees_of kept.fs) trees) (sym looked.rest) moved

  pub snapshots-same : new.snapshots ≡ old.snapshots
  snapshots-same = ap (λ (kept : OpenImage). kept.snapshots) looked.rest

  -- trees and snapshots stand in lockstep
  pub lockstep : numbers_of trees ≡ keys_of new.snapshots
  lockstep =
      numbers-are old fits.fitted trees moved up
      ∙ ap (λ (table : List (ℕ × KeptSubvolume)). keys_of table) (sym snapshots-same)

pub record IsPlanned (old new : OpenImage) (before after : History) (bytes left : ℕ) (trees : List Root)
    (counts : List Counters) (plan : Plan) : Type 0 where
  pub fits : IsKept old before bytes
  pub table : IsTable old.fs.refs.refs
  pub looked : HasSurveyed old new before after bytes left
  pub kept : IsKept new after left
  pub moved : IsPermutation (trees_of old.fs) trees
  pub up : IsNonDecreasingBy (λ tree. tree.owner) trees
  pub roots : AreRootsBy new trees new.snapshots plan.roots
  pub quota : plan.quota ≡ laid_by new.fs.tree.next counts new.quota
  pub order : IsInOrder new.fs.land.space
  pub earlier : KnowsNoLater new
  pub free : AreFree new.fs.land.space plan.slots
  pub few : length plan.slots ≤ 16128
  pub enough : commit_need new ≤ length plan.slots
  pub most : length plan.slots ≤ commit_need new

module _ (old new : OpenImage) (before after : History) (bytes left : ℕ) (trees : List Root)
    (counts : List Counters) (plan : Plan) (is : IsPlanned old new before after bytes left trees counts plan) where
  moved_now : IsPermutation (trees_of new.fs) trees
  moved_now = trees-moved old new before after bytes left trees is.fits is.looked is.moved is.up

  table_now : IsTable new.fs.refs.refs
  table_now =
      subst (λ (kept : OpenImage). IsTable kept.fs.refs.refs) (sym is.looked.rest) is.table

  abbrev counted : ℕ → Counters
  counted = counters_by (groups_in (quota_of new.quota)) counts

  plan_is : IsPlanOf new counted plan
  plan_is = record {
    roots = roots-of new trees plan.roots is.kept.fitted moved_now is.up is.roots;
    quota = is.quota;
    order = is.order;
    table = table_now;
    earlier = is.earlier;
    free = is.free;
    few = is.few;
    enough = is.enough;
    most = is.most;
  }

  pub plan-so : IsPlanSo new plan
  plan-so = record { counters = counted; is = plan_is }

  module _ (state : State) (names : List Record) (keeps : IsKeptWith old state before names)
      (direct : (quota : Quota) → trees ≡ trees_of_state state → quota_of old.quota ≡ Some quota
      → AreGroupCounts (layout_of state) (hierarchy_of quota) counts) where
    keeps_now : IsKeptWith new state after names
    keeps_now = surveyed-keeps old new before after bytes left is.looked state names keeps

    trees_state : trees ≡ trees_of_state state
    trees_state = trees-are old before bytes state names trees is.fits is.table keeps is.moved is.up

    quota_same : quota_of new.quota ≡ quota_of old.quota
    quota_same = quota-still old new before after bytes left is.looked

    direct_now : AreDueCounters state counted
    direct_now =
        direct-told state new.fs.tree.next (keys_of new.snapshots) (quota_of new.quota) counts keeps_now.quota
        is.kept.fitted.groups (λ quota on. direct quota trees_state (sym quota_same ∙ on))

    pub plan-told : IsPlanTold state new plan
    plan-told = record { counters = counted; is = plan_is; direct = direct_now }
