-- A commit over any disk and over one that tells, from the slots that are forgotten to what is kept then. All in bytes.
use Rattle.std.proofs.Common.{◌≡◌, ℕ, ◌≤◌, List, length, None, inl, inr, refl, sym, ap, subst}
use Rattle.std.proofs.Common.{◌∙◌, arith}
use Rattle.std.specs.Prelude.{◌⊎◌, All}
use Rattle.std.specs.List.{flat_map}
use Rattle.qg_device.specs.History.{Event, History, Recorded, history_after, content}
use Rattle.qg_num.specs.declared.piece.Piece.{Piece}
use Rattle.qg_node.specs.declared.item.Item.{Item}
use Rattle.qg_node.specs.declared.node.Node.{Node}
use Rattle.qg_super.specs.declared.sizes.Sizes.{Sizes}
use Rattle.qg_super.specs.declared.superblock.Super.{Super}
use Rattle.qg_super.specs.Places.{total_bytes}
use Rattle.qg_super.specs.SuperText.{sizes_of}
use Rattle.qg_image.specs.Record.{Record}
use Rattle.qg_image.specs.State.{State}
use Rattle.qg_root_items.specs.Written.{items_of_file}
use Rattle.qg_blocks.specs.NodesInMemory.{Held}
use Rattle.qg_blocks.specs.NodesFound.{IsBacked, fresh_at}
use Rattle.qg_blocks.specs.Writing.{AreWritten}
use Rattle.qg_node_alloc.proofs.Settling.{fresh-free}
use Rattle.qg_open_image.specs.Calls.{IsReadBack, commit_calls, unsure_calls, with_commit}
use Rattle.qg_open_image.specs.Named.{named}
use Rattle.qg_open_image.specs.Standing.{CanTurn, IsSubvolume, Stands}
use Rattle.qg_open_image.specs.CommitTreesCommitting.{StandsStill, WritesTree}
use Rattle.qg_open_image.specs.Types.{FsTree, OtherTrees}
use Rattle.qg_open_image.specs.HoldsAfter.{AreForgotten, AreFree, IsFlushed, with_tree_commit}
use Rattle.qg_open_image.specs.Writing.{fresh_nodes, nodes_written}
use Rattle.qg_open_image.specs.declared.open_image.OpenImage.{OpenImage}
use Rattle.qg_image_commits.specs.declared.planning.Plan.{Plan}
use Rattle.qg_image_commits.specs.Committing.{IsLaidBy, KeepsCommit, LaysSoFar}
use Rattle.qg_open_image.specs.Keeping.{IsFitted, IsKept, IsKeptWith}
use Rattle.qg_image_commits.specs.Planning.{CommitsOn, HasSurveyed, IsPlanSo, IsPlanTold, LeavesRoom, StartsCommitOf}
use Rattle.qg_image_commits.specs.Planning.{StopsCommitOf}
use Rattle.qg_image_commits.proofs.Cleaned.{keeps-cleaned}
use Rattle.qg_image_commits.proofs.CommitDone.{comes-so-far, commits-on}
use Rattle.qg_image_commits.proofs.CommitKeeps.{flushed, kept-now, plan-still, told-still}
use Rattle.qg_image_commits.proofs.Commits.{all-made}
use Rattle.qg_image_commits.proofs.LeftRoom.{leaves-room}
use Rattle.qg_open_image.proofs.Looked.{fitted-blocks, is-subvolume, with_blocks}

-- no fresh node lies in a free slot
pub unfresh : (kept : OpenImage) (slots given : List ℕ) → given ≡ slots → IsFitted kept
    → AreFree kept.fs.land.space slots
    → All (λ slot. fresh_at kept.fs.land.blocks.draft slot ≡ None) given
unfresh kept slots given same fits are =
    subst (λ (list : List ℕ). All (λ slot. fresh_at kept.fs.land.blocks.draft slot ≡ None) list) (sym same)
    (λ k d below. fresh-free kept.fs.land kept.fs.tree.next _ fits.drafted (are.free k d below))

-- ---- slots are forgotten

module _ (old : OpenImage) (blocks : Held) (same : blocks ≡ record old.fs.land.blocks { clean = blocks.clean }) where
  -- what is kept fits together then
  pub kept-forgotten : (history : History) (bytes : ℕ) → IsKept old history bytes → IsBacked blocks history
      → IsKept (with_blocks old blocks) history bytes
  kept-forgotten history bytes fits backed = record {
    fitted = fitted-blocks old blocks (ap (λ (held : Held). held.draft) same) fits.fitted;
    backed = backed;
    long = fits.long;
  }

  -- and is kept of the same state
  pub keeps-forgotten : (history : History) (state : State) (names : List Record)
      → IsKeptWith old state history names → IsKeptWith (with_blocks old blocks) state history names
  keeps-forgotten history state names keeps =
      keeps-cleaned old blocks history state names (ap (λ (held : Held). held.draft) same)
      (ap (λ (held : Held). held.bound) same) keeps

-- ---- what the disk was given

long-told : (kept : OpenImage) (events : List Event) (bytes : ℕ) → IsKept kept (Recorded events) bytes
    → bytes ≡ length (content events) → total_bytes kept.fs.land.space.sizes ≤ length (content events)
long-told kept events bytes fits sized =
    subst (λ (sizes : Sizes). total_bytes sizes ≤ length (content events)) (sym fits.fitted.sizes)
    (subst (λ (n : ℕ). total_bytes (sizes_of kept.superblock) ≤ n) sized fits.long)

-- what a commit does where it doesn't end
module _ (kept : OpenImage) (plan : Plan) (events : List Event) (bytes : ℕ) (state : State) (names : List Record)
    (fits : IsKept kept (Recorded events) bytes) (keeps : IsKeptWith kept state (Recorded events) names)
    (so : IsPlanTold state kept plan) (sized : bytes ≡ length (content events)) where
  stopped-there : (after : History) → (after ≡ Recorded events) ⊎ LaysSoFar kept plan events after
      → (after ≡ Recorded events) ⊎ StopsCommitOf state events after
  stopped-there after (inl nothing) = inl nothing
  stopped-there after (inr far) =
      inr (comes-so-far kept plan far.trees events bytes state names fits keeps so far.laid
      (long-told kept events bytes fits sized) unsure_calls after far.made)

-- the same before the slots were forgotten
pub stopped-so : (old : OpenImage) (blocks : Held) (plan : Plan) (events : List Event) (before after : History)
    (bytes : ℕ) (state : State) (names : List Record) → blocks ≡ record old.fs.land.blocks { clean = blocks.clean }
    → IsKept old before bytes → IsBacked blocks before → IsKeptWith old state before names
    → IsPlanTold state old plan → before ≡ Recorded events → bytes ≡ length (content events)
    → (after ≡ Recorded events) ⊎ LaysSoFar (with_blocks old blocks) plan events after
    → (after ≡ Recorded events) ⊎ StopsCommitOf state events after
stopped-so old blocks plan events before after bytes state names same fits backed keeps so told sized far =
    let there = kept-forgotten old blocks same before bytes fits backed in
    let of_state = keeps-forgotten old blocks same before state names keeps in
    stopped-there (with_blocks old blocks) plan events bytes state names
    (subst (λ (history : History). IsKept (with_blocks old blocks) history bytes) told there)
    (subst (λ (history : History). IsKeptWith (with_blocks old blocks) state history names) told of_state)
    (told-still state old blocks plan so) sized after far

-- The trees of a plan were laid out once the slots were forgotten, and the disk was given the calls, where it tells
pub record GivesTrees (old : OpenImage) (blocks : Held) (plan : Plan) (trees : OtherTrees) (slots : List ℕ)
    (before after : History) (bytes : ℕ) : Type 0 where
  pub same : blocks ≡ record old.fs.land.blocks { clean = blocks.clean }
  pub fits : IsKept old before bytes
  pub backed : IsBacked blocks before
  pub plan_is : IsPlanSo old plan
  pub given : slots ≡ plan.slots
  pub gone : AreForgotten blocks slots
  pub laid : IsLaidBy (with_blocks old blocks) plan trees
  pub read : All (IsReadBack old.superblock.nodesize) (fresh_nodes blocks.draft)
  pub sized : (events : List Event) → before ≡ Recorded events → bytes ≡ length (content events)
  pub calls : after ≡ history_after (with_tree_commit (with_blocks old blocks).fs trees) before

module _ (old : OpenImage) (blocks : Held) (plan : Plan) (trees : OtherTrees) (slots : List ℕ)
    (before after : History) (bytes : ℕ)
    (gives : GivesTrees old blocks plan trees slots before after bytes) where
  abbrev there : OpenImage
  there = with_blocks old blocks

  fits-there : IsKept there before bytes
  fits-there = kept-forgotten old blocks gives.same before bytes gives.fits gives.backed

  plan-there : IsPlanSo there plan
  plan-there = plan-still old blocks plan gives.plan_is

  gone-there : AreForgotten blocks plan.slots
  gone-there = subst (λ (list : List ℕ). AreForgotten blocks list) gives.given gives.gone

  flushed-there : IsFlushed there.fs.land before after
  flushed-there =
      subst (λ (history : History). IsFlushed there.fs.land before history) (sym gives.calls)
      (flushed there plan trees fits-there.fitted gives.laid before bytes fits-there plan-there gone-there gives.read
      gives.sized)

  -- clean nodes are the disk's, and so are fresh ones
  pub backed-then : IsBacked blocks after
  backed-then = flushed-there.backed

  pub written-then : AreWritten blocks.draft after
  written-then = flushed-there.written

  -- what is kept then fits together
  pub kept-then : (new : OpenImage) (left : ℕ) → KeepsCommit there plan trees new → bytes ≤ left
      → ((before : History) (bytes : ℕ) → IsSubvolume there.fs before bytes → bytes ≤ left
      → IsSubvolume new.fs after left) → CanTurn new.fs → IsKept new after left
  kept-then new left becomes more subvolume turn =
      let of_tree = subvolume before bytes (is-subvolume there before bytes fits-there) more in
      let long = gives.fits.long in
      kept-now there plan trees fits-there.fitted gives.laid new after left plan-there becomes of_tree turn
      (omega (arith, long, more))

  -- and there is room for what it took
  pub room-then : (new : OpenImage) → KeepsCommit there plan trees new → LeavesRoom old new
  room-then new becomes =
      let left = leaves-room there new plan trees fits-there.fitted plan-there gives.laid becomes in
      record {
        pending = left.pending;
        generation = left.generation;
        snapshots = left.snapshots;
        groups = left.groups;
        tree = left.tree;
        others = left.others;
        refs = left.refs;
        held = left.held;
        free = left.free;
      }

  module _ (events : List Event) (told : before ≡ Recorded events) (state : State) (names : List Record)
      (keeps : IsKeptWith old state before names) (so : IsPlanTold state old plan) where
    fits-told : IsKept there (Recorded events) bytes
    fits-told = subst (λ (history : History). IsKept there history bytes) told fits-there

    keeps-told : IsKeptWith there state (Recorded events) names
    keeps-told =
        subst (λ (history : History). IsKeptWith there state history names) told
        (keeps-forgotten old blocks gives.same before state names keeps)

    so-told : IsPlanTold state there plan
    so-told = told-still state old blocks plan so

    after-told : after ≡ Recorded (with_tree_commit there.fs trees events)
    after-told = gives.calls ∙ ap (history_after (with_tree_commit there.fs trees)) told

    long-there : total_bytes old.fs.land.space.sizes ≤ length (content events)
    long-there = long-told there events bytes fits-told (gives.sized events told)

    -- all calls came
    pub started : StartsCommitOf state events after
    started =
        subst (λ (history : History). StartsCommitOf state events history) (sym after-told)
        (comes-so-far there plan trees events bytes state names fits-told keeps-told so-told gives.laid long-there
        commit_calls (Recorded (with_tree_commit there.fs trees events))
        (all-made trees.superblock (nodes_written blocks.draft trees) events))

    writes-told : WritesTree there.fs (Recorded events) after
    writes-told =
        let whole = subst (λ (history : History). IsFlushed there.fs.land history after) told
        flushed-there in
        record { fresh = whole.written; held = whole.held }

    -- what was done
    pub committed-on : (new : OpenImage) → KeepsCommit there plan trees new
        → ((items : List Item) (names : List (ℕ × Piece)) → IsSubvolume there.fs (Recorded events) bytes
        → Stands there.fs (Recorded events) items names → WritesTree there.fs (Recorded events) after
        → (later : List Event)
        → after ≡ Recorded later → StandsStill there.fs new.fs (Recorded events) after items names)
        → CommitsOn state new events after
    committed-on new becomes stands =
        let later = with_tree_commit there.fs trees events in
        let still = stands (flat_map items_of_file keeps-told.files) (named keeps-told.files)
        (is-subvolume there (Recorded events) bytes fits-told) keeps-told.keeps.holds.stands writes-told later
        after-told in
        let still_told = subst (λ (history : History). StandsStill there.fs new.fs (Recorded events) history
        (flat_map items_of_file keeps-told.files) (named keeps-told.files)) after-told still in
        subst (λ (history : History). CommitsOn state new events history) (sym after-told)
        (commits-on there plan trees events bytes state names fits-told keeps-told so-told gives.laid long-there new
        later becomes still_told refl)

-- where nodes were surveyed before, there is the same room
pub room-back : (old mid new : OpenImage) (before then : History) (bytes between : ℕ)
    → HasSurveyed old mid before then bytes between → LeavesRoom mid new → LeavesRoom old new
room-back old mid new before then bytes between surveyed leaves =
    let left = subst (λ (kept : OpenImage). LeavesRoom kept new) surveyed.rest leaves in
    record {
      pending = left.pending;
      generation = left.generation;
      snapshots = left.snapshots;
      groups = left.groups;
      tree = left.tree;
      others = left.others;
      refs = left.refs;
      held = left.held;
      free = left.free;
    }

-- all calls of a commit were made, over a disk that tells or not
pub calls-over : (fs : FsTree) (trees : OtherTrees) (super : Super) (old mid new : History) → super ≡ trees.superblock
    → mid ≡ old → new ≡ history_after (with_tree_commit fs trees) mid
    → (nodes : List Node) × (new ≡ history_after (with_commit super nodes) old)
calls-over fs trees super old mid new same read calls =
    let nodes = nodes_written fs.land.blocks.draft trees in (
      nodes,
      calls ∙ ap (history_after (with_tree_commit fs trees)) read
          ∙ ap (λ (s : Super). history_after (with_commit s nodes) old) (sym same),
    )
