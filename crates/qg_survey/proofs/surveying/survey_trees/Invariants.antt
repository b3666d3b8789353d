use Rattle.std.proofs.Common.{◌≡◌, ℕ, ◌+◌, All, Some, length}
use Rattle.qg_image.specs.State.{State, next_generation}
use Rattle.qg_extents.specs.Table.{book_of}
use Rattle.qg_tree_read.specs.Tree.{Root}
use Rattle.qg_tree_read.specs.Way.{HasRead, IsReadable}
use Rattle.qg_subvolumes.specs.Counting.{TellsNodes}
use Rattle.qg_survey.specs.Surveying.{AreRead, LeadsOn, MarksNodes}
use Rattle.qg_survey.proofs.Rounds.{AreGone}
use Rattle.qg_survey.proofs.surveying.survey_trees.Given as goal

abbrev pub decreases-trees : goal.decreases-trees
decreases-trees g l = length l.rest

abbrev pub invariant-trees : goal.invariant-trees
invariant-trees g l = record {
  readable : IsReadable l.blocks (g.D.Disk.history l.disk) (g.D.Disk.size l.disk);
  branches : (state : State) → All (LeadsOn state) l.trees → All (LeadsOn state) l.rest;
  nexts : (state : State) → All (λ tree. tree.next ≡ next_generation state) l.trees
      → All (λ tree. tree.next ≡ next_generation state) l.rest;
  surveyed : (state : State) → TellsNodes l.initial.blocks.draft (g.D.Disk.history l.initial.disk) state
      → MarksNodes (book_of l.book) state → All (LeadsOn state) l.trees → AreRead state l.initial.links.entries
      → AreGone state l.trees l.rest l.initial.links.entries l.links.entries l.initial.reads l.reads;
  read : HasRead l.initial.blocks l.blocks (g.D.Disk.history l.initial.disk) (g.D.Disk.history l.disk)
      (g.D.Disk.size l.initial.disk) (g.D.Disk.size l.disk);
  count : g.D.Disk.faults l.disk ≡ g.D.Disk.faults l.initial.disk;
}
