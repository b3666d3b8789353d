use Rattle.std.proofs.Common.{◌≡◌, List, ℕ, ap, arith, length, refl, subst, sym, true}
use Rattle.std.specs.List.{list_all}
use Rattle.qg_space.specs.Holding.{is_free_slot}
use Rattle.qg_image_commits.proofs.CanLay.{plan-recounted}
use Rattle.qg_image_commits.proofs.KeptCommit.{committed-laid, count-small, count-within, front-told, later-fits}
use Rattle.qg_image_commits.proofs.WhereLaid.{front-free}
use Rattle.qg_image_commits.proofs.committing.keep_commit.Goals as goal

pub len-requires : goal.len-requires
len-requires g c = count-small c.args.kept.now c.args.plan c.args.trees.now c.requires.laid c.requires.plan

pub split_at-requires : goal.split_at-requires
split_at-requires g c = omega (
  arith,
  count-within c.args.kept.now c.args.plan c.args.trees.now c.requires.laid,
  ap (λ (list : List ℕ). length list) c.as_slice.ensures,
  c.len.ensures,
)

pub committed-requires-clause-free : goal.committed-requires-clause-free
committed-requires-clause-free g c =
    let front = front-told c.args.kept.now c.args.plan c.args.trees.now c.requires.laid _ _ _
    c.split_at.ensures.front c.as_slice.ensures c.len.ensures in
    subst (λ (slots : List ℕ). list_all (is_free_slot c.args.kept.now.fs.land.space) slots ≡ true) (sym front)
    (front-free c.args.kept.now.fs.land.space c.args.plan.slots _ c.requires.plan.is.free)

pub committed-requires-clause-later : goal.committed-requires-clause-later
committed-requires-clause-later g c = later-fits c.args.kept.now c.requires.fitted c.requires.early

pub settle_quota-requires-clause-tracked : goal.settle_quota-requires-clause-tracked
settle_quota-requires-clause-tracked g c = c.requires.fitted.tracked

pub settle_quota-requires-clause-counted : goal.settle_quota-requires-clause-counted
settle_quota-requires-clause-counted g c =
    plan-recounted c.args.kept.now c.args.plan c.requires.fitted c.requires.plan

pub returns-clause-keeps : goal.returns-clause-keeps
returns-clause-keeps g c =
    let front = front-told c.args.kept.now c.args.plan c.args.trees.now c.requires.laid _ _ _
    c.split_at.ensures.front c.as_slice.ensures c.len.ensures in (
      record {
        superblock = refl;
        snapshots = refl;
        quota = c.settle_quota.ensures.quota;
        settled = c.settle_quota.ensures.settled;
        fs = committed-laid c.args.kept.now c.args.plan c.args.trees.now c.requires.laid c.args.kept.now.fs
            c.committed.new.fs _ front c.committed.ensures.committed;
        pending = refl;
      },
      c.committed.ensures.turns c.requires.fitted.turn,
    )
