-- What an edit leaves follows the state, and leaves the slots that a commit may want. Weights are in bytes.
use Rattle.std.proofs.Common.{◌≡◌, ℕ, ◌+◌, ◌*◌, ◌^◌, ◌<◌, ◌≤◌, List, sym, ap, subst, arith}
use Rattle.qg_device.specs.History.{History}
use Rattle.qg_super.specs.declared.sizes.Sizes.{Sizes}
use Rattle.qg_image.specs.declared.file.File.{File}
use Rattle.qg_image.specs.Need.{file_copies}
use Rattle.qg_image.specs.State.{Accepted, State}
use Rattle.qg_space.specs.Holding.{free_slots}
use Rattle.qg_extents.specs.Table.{IsTable}
use Rattle.qg_open_image.specs.Heavier.{BookGetsHeavier, edit_bytes, name_new_bytes}
use Rattle.qg_open_image.specs.Need.{GetsHeavierBy}
use Rattle.qg_open_image.proofs.Covered.{leaves-need}
use Rattle.qg_open_image.proofs.TreeBackrefsSums.{held-heavier}
use Rattle.qg_open_image.specs.Types.{FsTree}
use Rattle.qg_open_image.specs.Files.{LeavesFiles, LeavesHeld}
use Rattle.qg_open_image.specs.FsLawsKeeping.{FollowsCommand, mine_after, state_after}
use Rattle.qg_open_image.specs.FsLawsKeeping as step
use Rattle.qg_open_image.proofs.Followed.{follows}
use Rattle.qg_open_image.specs.FsLawsCommitting.{AreShort}
use Rattle.qg_open_image.specs.declared.open_image.OpenImage.{OpenImage}
use Rattle.qg_open_image.specs.Keeping.{IsKept, IsKeptOf, book_weight, commit_room_of, filled_by, need_of, quota_weight}
use Rattle.qg_open_image.specs.Keeping.{root_weight}
use Rattle.qg_open_image.proofs.Reserve.{large}
use Rattle.qg_open_image.proofs.Stepped.{Follows, edited, tree-kept}

-- a part of what is needed is free
pub part-free : (a b free : ℕ) → a + b + 40 ≤ free → a ≤ free
part-free a b free enough = omega (arith, enough)

-- what so many copies may take is free
pub copies-free : (kept : OpenImage) (pieces : ℕ) → need_of kept pieces ≤ free_slots kept.fs.land.space
    → 10 * file_copies kept.fs.tree.height pieces ≤ free_slots kept.fs.land.space
copies-free kept pieces enough =
    part-free (10 * file_copies kept.fs.tree.height pieces)
    (8 * filled_by kept)
    (free_slots kept.fs.land.space) enough

-- what was needed is there still, but for what was taken
needed-left : (need free left copies : ℕ) → need ≤ free → free ≤ left + copies → need ≤ left + copies
needed-left need free left copies enough taken = omega (arith, enough, taken)

-- a tree that is left for the next edit, with a table of references
module _ (old : OpenImage) (fs : FsTree) (before after : History) (bytes left : ℕ) (state : State)
    (files : List (ℕ × File)) (pieces : ℕ) (fits : IsKept old before bytes) (keeps : IsKeptOf old state before)
    (table : IsTable old.fs.refs.refs) (table_new : IsTable fs.refs.refs)
    (held : LeavesHeld old.fs fs before after bytes left)
    (leaves : LeavesFiles old.fs fs before files pieces)
    (short : AreShort files) (enough : need_of old pieces ≤ free_slots old.fs.land.space) where
  abbrev names : ℕ
  names = 2 * (pieces + 3)

  heavier : BookGetsHeavier old.fs.refs fs.refs
      ((pieces + 3) * edit_bytes old.fs.land.space.sizes.nodesize 3 + names * name_new_bytes)
  heavier = leaves.heavier

  near : fs.tree.next < 2 ^ 64
  near = subst (λ (n : ℕ). n < 2 ^ 64) (sym leaves.moved.next) (tree-kept old state before bytes fits keeps table).near

  tree-now : step.IsKept fs before left
  tree-now =
      let kept : step.IsKept fs after left = record { subvolume = held.subvolume; table = table_new; near = near } in
      subst (λ (history : History). step.IsKept fs history left) held.history kept

  weighs : book_weight (edited old fs old.quota) ≤ book_weight old
      + ((pieces + 3) * edit_bytes old.fs.land.space.sizes.nodesize 3 + names * name_new_bytes)
  weighs = held-heavier old.fs.refs fs.refs
      ((pieces + 3) * edit_bytes old.fs.land.space.sizes.nodesize 3 + names * name_new_bytes) heavier

  nodesize-is : old.fs.land.space.sizes.nodesize ≡ old.superblock.nodesize
  nodesize-is = ap (λ (sizes : Sizes). sizes.nodesize) fits.fitted.sizes

  after-most : (before after root quota first second : ℕ) → after ≤ before + (first + second)
      → after + root + quota ≤ before + root + quota + first + second
  after-most before after root quota first second most = omega (arith, most)

  heavier-by : GetsHeavierBy old.superblock.nodesize old.fs.tree.height pieces 3 (pieces + 3) names
      (book_weight old + root_weight old + quota_weight old)
      (book_weight (edited old fs old.quota) + root_weight old + quota_weight old)
  heavier-by = record {
    size = large old fits.fitted;
    low = omega arith;
    few_edits = omega arith;
    few_names = omega arith;
    after_most = after-most (book_weight old) (book_weight (edited old fs old.quota)) (root_weight old)
        (quota_weight old)
        ((pieces + 3) * edit_bytes old.superblock.nodesize 3) (names * name_new_bytes)
        (subst (λ (nodesize : ℕ). book_weight (edited old fs old.quota) ≤ book_weight old
        + ((pieces + 3) * edit_bytes nodesize 3 + names * name_new_bytes)) nodesize-is weighs);
  }

  reserved : commit_room_of (edited old fs old.quota) ≤ free_slots fs.land.space
  reserved =
      leaves-need old.superblock.nodesize old.fs.tree.height pieces 3 (pieces + 3) names
      (book_weight old + root_weight old + quota_weight old)
      (book_weight (edited old fs old.quota) + root_weight old + quota_weight old) (free_slots old.fs.land.space)
      (free_slots fs.land.space) heavier-by enough leaves.free

  copied : (last : Accepted) → FollowsCommand fs before state (state_after state files fs before last)
      (mine_after keeps.mine files fs) files old.fs.tree.owner (file_copies old.fs.tree.height pieces)
  copied last =
      follows old.fs fs before bytes left pieces state keeps.mine keeps.files files last
      (tree-kept old state before bytes fits keeps table) keeps.keeps tree-now leaves held.held_runs

  pub follows-edit : Follows old fs state keeps.mine before files pieces
  follows-edit = record {
    copied = copied;
    owner = leaves.moved.owner;
    short = short;
    held = heavier.held;
    reserved = reserved;
    needed = needed-left (need_of old pieces) (free_slots old.fs.land.space) (free_slots fs.land.space)
        (file_copies old.fs.tree.height pieces) enough leaves.free;
    bytes = left;
    tree = tree-now;
  }
