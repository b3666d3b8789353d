use Rattle.std.proofs.Common.{◌≡◌, ℕ, ◌+◌, ◌*◌, ◌-◌, All, Some, length}
use Rattle.qg_image.specs.State.{State}
use Rattle.qg_extents.specs.Table.{book_of}
use Rattle.qg_tree_read.specs.Way.{HasRead, IsReadable}
use Rattle.qg_subvolumes.specs.Counting.{LeadsToBranch, TellsNodes}
use Rattle.qg_survey.specs.Surveying.{AreRead, MarksNodes}
use Rattle.qg_survey.proofs.Rounds.{IsSurveyed}
use Rattle.qg_survey.proofs.surveying.+surveying.Given as goal

abbrev pub decreases-survey_under : goal.decreases-survey_under
decreases-survey_under g l = 2 * l.level + 1

abbrev pub decreases-survey_each : goal.decreases-survey_each
decreases-survey_each g l = 2 * (l.level + 1)

abbrev pub decreases-survey_each-ways : goal.decreases-survey_each-ways
decreases-survey_each-ways g l = length l.rest

abbrev pub invariant-survey_each-ways : goal.invariant-survey_each-ways
invariant-survey_each-ways g l = record {
  readable : IsReadable l.blocks (g.D.Disk.history l.disk) (g.D.Disk.size l.disk);
  levelled : All (λ way. way.expected.level ≡ Some l.level) l.rest;
  branches : (state : State) → All (LeadsToBranch state l.level) l.ways → All (LeadsToBranch state l.level) l.rest;
  surveyed : (state : State) → TellsNodes l.initial.blocks.draft (g.D.Disk.history l.initial.disk) state
      → MarksNodes (book_of l.book) state → All (LeadsToBranch state l.level) l.ways
      → AreRead state l.initial.links.entries
      → IsSurveyed state l.level l.ways l.rest l.initial.links.entries l.links.entries l.initial.reads l.reads;
  read : HasRead l.initial.blocks l.blocks (g.D.Disk.history l.initial.disk) (g.D.Disk.history l.disk)
      (g.D.Disk.size l.initial.disk) (g.D.Disk.size l.disk);
  count : g.D.Disk.faults l.disk ≡ g.D.Disk.faults l.initial.disk;
}
