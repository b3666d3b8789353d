-- What a commit leaves over any disk: what is kept fits together still, and clean nodes are the disk's. All in bytes.
use Rattle.std.proofs.Common.{◌≡◌, ℕ, ◌+◌, ◌*◌, ◌≤◌, List, [], ◌∷◌, length, map, Option, refl, sym, ap, subst}
use Rattle.std.proofs.Common.{◌∙◌, arith}
use Rattle.std.specs.Prelude.{All, IsTrue}
use Rattle.std.specs.List.{Contains}
use Rattle.std.specs.List.Sorted.{IsPermutation, IsStrictlyIncreasing}
use Rattle.qg_device.specs.History.{Event, History, Recorded, history_after, content}
use Rattle.qg_num.specs.declared.counters.Counters.{Counters}
use Rattle.qg_super.specs.declared.sizes.Sizes.{Sizes}
use Rattle.qg_super.specs.declared.superblock.Super.{Super}
use Rattle.qg_super.specs.Places.{total_bytes}
use Rattle.qg_super.specs.SuperText.{is_super, sizes_of}
use Rattle.qg_image.specs.Table.{keys_of}
use Rattle.qg_image.specs.declared.quota.Quota.{Quota}
use Rattle.qg_image.specs.State.{State}
use Rattle.qg_reach.proofs.Members.{one_mapped}
use Rattle.qg_blocks.specs.NodesInMemory.{Held}
use Rattle.qg_open_image.specs.Calls.{IsReadBack}
use Rattle.qg_tree_read.specs.Tree.{Root}
use Rattle.qg_open_image.specs.Standing.{AreNumbered, CanTurn, IsSubvolume, trees_of}
use Rattle.qg_open_image.specs.CommitTreesCommitting.{for_generation}
use Rattle.qg_open_image.specs.Types.{OtherTrees}
use Rattle.qg_qgroups.specs.Tracked.{quota_of}
use Rattle.qg_open_image.specs.Editable.{AreGroupsOf}
use Rattle.qg_open_image.specs.HoldsAfter.{AreForgotten, IsFlushed, with_tree_commit}
use Rattle.qg_open_image.specs.Writing.{IsLaying, fresh_nodes}
use Rattle.qg_open_image.proofs.OnDisk.{is-flushed}
use Rattle.qg_open_image.specs.FsLawsKeeping.{quota_laid}
use Rattle.qg_open_image.specs.declared.open_image.OpenImage.{OpenImage}
use Rattle.qg_open_image.specs.declared.open_image.KeptSubvolume.{KeptSubvolume}
use Rattle.qg_image_commits.specs.declared.planning.Plan.{Plan}
use Rattle.qg_image_commits.specs.Committing.{IsLaidBy, IsPlanOf, KeepsCommit}
use Rattle.qg_open_image.specs.Keeping.{AreSubvolumesBy, IsFitted, IsKept, most_reserved}
use Rattle.qg_image_commits.specs.Planning.{IsPlanSo, IsPlanTold}
use Rattle.qg_open_image.proofs.Early.{later-of}
use Rattle.qg_image_commits.proofs.CanLay.{told-of}
use Rattle.qg_open_image.proofs.Looked.{with_blocks}
use Rattle.qg_open_image.proofs.Settled.{settled-bounded, settled-tracked}

-- a plan is one with other nodes in memory
plan_still : (kept : OpenImage) (blocks : Held) (counters : ℕ → Counters) (plan : Plan) → IsPlanOf kept counters plan
    → IsPlanOf (with_blocks kept blocks) counters plan
plan_still kept blocks counters plan is = record {
  roots = record {
    numbers = is.roots.numbers;
    each = λ tree snapshot root among there named.
        let now = is.roots.each tree snapshot root among there named in
        record { what = now.what; known = now.known; root_is = now.root_is };
  };
  quota = is.quota;
  order = is.order;
  table = is.table;
  earlier = is.earlier;
  free = is.free;
  few = is.few;
  enough = is.enough;
  most = is.most;
}

pub plan-still : (kept : OpenImage) (blocks : Held) (plan : Plan) → IsPlanSo kept plan
    → IsPlanSo (with_blocks kept blocks) plan
plan-still kept blocks plan so =
    record { counters = so.counters; is = plan_still kept blocks so.counters plan so.is }

pub told-still : (state : State) (kept : OpenImage) (blocks : Held) (plan : Plan) → IsPlanTold state kept plan
    → IsPlanTold state (with_blocks kept blocks) plan
told-still state kept blocks plan so = record {
  counters = so.counters;
  is = plan_still kept blocks so.counters plan so.is;
  direct = so.direct;
}

module _ (kept : OpenImage) (plan : Plan) (trees : OtherTrees) (fits : IsFitted kept)
    (laid : IsLaidBy kept plan trees) where
  pub laying-there : IsLaying kept.fs.land.space.sizes kept.fs.tree.next plan.roots kept.fs.refs.refs plan.quota
      plan.slots kept.fs.land.blocks.draft trees
  laying-there =
      subst (λ (sizes : Sizes). IsLaying sizes kept.fs.tree.next plan.roots kept.fs.refs.refs plan.quota plan.slots
      kept.fs.land.blocks.draft trees) (sym fits.sizes) laid

  -- once the calls were made, fresh nodes are the disk's, and clean ones are
  pub flushed : (before : History) (bytes : ℕ) → IsKept kept before bytes → IsPlanSo kept plan
      → AreForgotten kept.fs.land.blocks plan.slots
      → All (IsReadBack kept.superblock.nodesize) (fresh_nodes kept.fs.land.blocks.draft)
      → ((events : List Event) → before ≡ Recorded events → bytes ≡ length (content events))
      → IsFlushed kept.fs.land before (history_after (with_tree_commit kept.fs trees) before)
  flushed before bytes whole is gone read sized =
      is-flushed kept.fs plan.roots kept.fs.refs.refs plan.quota kept.fs.tree.next plan.slots trees laying-there
      fits.drafted is.is.free
      (subst (λ (sizes : Sizes). All (IsReadBack sizes.nodesize) (fresh_nodes kept.fs.land.blocks.draft))
      (sym fits.sizes)
      read)
      before
      (λ events told.
      subst (λ (n : ℕ). total_bytes kept.fs.land.space.sizes ≤ n) (sized events told)
      (subst (λ (sizes : Sizes). total_bytes sizes ≤ bytes) (sym fits.sizes) whole.long))
      whole.backed gone

  -- the superblock tells the same sizes, and the generation to come
  pub sizes-told : sizes_of trees.superblock ≡ sizes_of kept.superblock
  sizes-told = ap sizes_of laid.laid.leads

  generation-told : trees.superblock.generation ≡ kept.fs.tree.next
  generation-told = ap (λ (super : Super). super.generation) laid.laid.leads

  module _ (new : OpenImage) (after : History) (left : ℕ) (is : IsPlanSo kept plan)
      (becomes : KeepsCommit kept plan trees new) (subvolume : IsSubvolume new.fs after left) (turn : CanTurn new.fs)
    where
      generation-now : new.superblock.generation ≡ kept.fs.tree.next
      generation-now = ap (λ (super : Super). super.generation) becomes.superblock ∙ generation-told

      pub sizes-now : sizes_of new.superblock ≡ sizes_of kept.superblock
      sizes-now = ap sizes_of becomes.superblock ∙ sizes-told

      later : new.fs.tree.next ≡ kept.fs.tree.next + 1
      later = ap (λ (tree : Root). tree.next) becomes.fs.tree

      -- the trees have the numbers that they had
      owners_later : (next : ℕ) (trees : List Root)
          → map (λ (t : Root). t.owner) (map (for_generation next) trees) ≡ map (λ (t : Root). t.owner) trees
      owners_later next [] = refl
      owners_later next (tree ∷ trees) = ap (λ (ns : List ℕ). tree.owner ∷ ns) (owners_later next trees)

      others_numbered : map (λ (t : Root). t.owner) new.fs.others.items
          ≡ map (λ (t : Root). t.owner) kept.fs.others.items
      others_numbered =
          ap (map (λ (t : Root). t.owner)) becomes.fs.others
          ∙ owners_later (kept.fs.tree.next + 1) kept.fs.others.items

      own_number : new.fs.tree.owner ≡ kept.fs.tree.owner
      own_number = ap (λ (tree : Root). tree.owner) becomes.fs.tree

      all_numbered : map (λ (t : Root). t.owner) (trees_of new.fs) ≡ map (λ (t : Root). t.owner) (trees_of kept.fs)
      all_numbered = λ i. own_number i ∷ others_numbered i

      numbered_now : AreNumbered new.fs
      numbered_now = record {
        ascending = subst (λ (ns : List ℕ). IsStrictlyIncreasing ns) (sym others_numbered) fits.numbered.ascending;
        apart_at = λ other has same.
            let old = one_mapped (for_generation (kept.fs.tree.next + 1)) kept.fs.others.items other
            (subst (λ (ts : List Root). Contains ts other) becomes.fs.others has) in
            fits.numbered.apart_at old.0 old.1 (ap (λ (t : Root). t.owner) old.2 ∙ same ∙ own_number);
      }

      subvolumes_now : AreSubvolumesBy new.fs.tree.next new.snapshots
      subvolumes_now =
          subst (λ (table : List (ℕ × KeptSubvolume)). AreSubvolumesBy new.fs.tree.next table) (sym becomes.snapshots)
          (record {
            few = fits.subvolumes.few;
            ascending = fits.subvolumes.ascending;
            numbers = fits.subvolumes.numbers;
            top_level = fits.subvolumes.top_level;
            copied = λ k d below. let old = fits.subvolumes.copied k d below in omega (arith, old, later);
          })

      groups_laid : AreGroupsOf new.fs.tree.next (keys_of kept.snapshots)
          (quota_laid kept.fs.tree.next is.counters (quota_of kept.quota))
      groups_laid =
          later-of kept.fs.tree.next new.fs.tree.next (keys_of kept.snapshots)
          (quota_laid kept.fs.tree.next is.counters (quota_of kept.quota)) (omega (arith, later))
          (told-of kept.fs.tree.next is.counters (keys_of kept.snapshots) (quota_of kept.quota) fits.groups)

      groups_now : AreGroupsOf new.fs.tree.next (keys_of new.snapshots) (quota_of new.quota)
      groups_now =
          subst
          (λ (table : List (ℕ × KeptSubvolume)). AreGroupsOf new.fs.tree.next (keys_of table) (quota_of new.quota))
          (sym becomes.snapshots)
          (subst (λ (quota : Option Quota). AreGroupsOf new.fs.tree.next (keys_of kept.snapshots) quota)
          (sym (becomes.quota ∙ is.is.quota)) groups_laid)

      fitted-now : IsFitted new
      fitted-now =
          let generation = generation-now in
          let next = later in
          record {
            superblock = subst (λ (super : Super). IsTrue (is_super super)) (sym becomes.superblock) laid.superblock;
            subvolumes = subvolumes_now;
            trees = subst (λ (ns : List ℕ). IsPermutation ns (keys_of new.snapshots)) (sym all_numbered)
                (subst (λ (table : List (ℕ × KeptSubvolume)).
                IsPermutation (map (λ (t : Root). t.owner) (trees_of kept.fs)) (keys_of table))
                (sym becomes.snapshots) fits.trees);
            numbered = numbered_now;
            turn = turn;
            groups = groups_now;
            tracked = settled-tracked new.quota becomes.settled;
            bounded = settled-bounded (new.pending * most_reserved) new.quota becomes.settled;
            next = omega (arith, generation, next);
            sizes = becomes.fs.sizes ∙ fits.sizes ∙ sym sizes-now;
            drafted = subvolume.editable.drafted;
          }

      pub kept-now : total_bytes (sizes_of kept.superblock) ≤ left → IsKept new after left
      kept-now long = record {
        fitted = fitted-now;
        backed = subvolume.editable.backed;
        long = subst (λ (sizes : Sizes). total_bytes sizes ≤ left) (sym sizes-now) long;
      }
