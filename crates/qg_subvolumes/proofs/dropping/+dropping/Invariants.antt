use Rattle.std.proofs.Common.{◌≡◌, ℕ, ◌+◌, ◌*◌, Bool, All, Some, length}
use Rattle.qg_super.specs.Places.{capacity}
use Rattle.qg_image.specs.State.{State}
use Rattle.qg_tree_edits.specs.Editing.{IsEditable}
use Rattle.qg_subvolumes.specs.Dropping.{AreParts, HoldsPartly, KnowsNoMore, RestsButRuns}
use Rattle.qg_subvolumes.proofs.Stepping.{Went}
use Rattle.qg_subvolumes.proofs.dropping.+dropping.Given as goal

abbrev pub decreases-drop_under : goal.decreases-drop_under
decreases-drop_under g l = 2 * l.level + 1

abbrev pub decreases-drop_each : goal.decreases-drop_each
decreases-drop_each g l = 2 * (l.level + 1)

abbrev pub decreases-drop_each-parts : goal.decreases-drop_each-parts
decreases-drop_each-parts g l = length l.rest

abbrev pub invariant-drop_each-parts : goal.invariant-drop_each-parts
invariant-drop_each-parts g l = record {
  editable : IsEditable l.land (g.D.Disk.history l.disk) (g.D.Disk.size l.disk) l.tree.next;
  levelled : All (λ part. part.way.expected.level ≡ Some l.level) l.rest;
  went : (state : State) (waiting : ℕ → Bool)
      → HoldsPartly l.initial.land (g.D.Disk.history l.initial.disk) l.initial.book state l.tree.owner waiting
      → AreParts state waiting l.level l.parts
      → Went state l.tree.owner l.level (capacity l.initial.land.space.sizes.nodesize) waiting l.parts l.rest l.land
      (g.D.Disk.history l.disk) (g.D.Disk.history l.initial.disk) l.initial.book l.book l.initial.reads l.reads;
  book : (l.book.tree ≡ l.initial.book.tree) × (l.book.nodesize ≡ l.initial.book.nodesize)
      × (l.book.next ≡ l.initial.book.next);
  known : KnowsNoMore l.initial.book l.book;
  rests : RestsButRuns l.initial.land l.land (g.D.Disk.history l.disk) l.tree.next;
  history : g.D.Disk.history l.disk ≡ g.D.Disk.history l.initial.disk;
  size : g.D.Disk.size l.disk ≡ g.D.Disk.size l.initial.disk;
  count : g.D.Disk.faults l.disk ≡ g.D.Disk.faults l.initial.disk;
}
