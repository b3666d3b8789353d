-- The events of a commit in their order, and the moments of its syncs. The superblock is any.
use Rattle.std.specs.Prelude.{◌≡◌, List, [], ◌∷◌, refl}
use Rattle.qg_device.specs.History.{Event, Wrote, Synced}
use Rattle.qg_super.specs.declared.superblock.Super.{Super}
use Rattle.qg_super.specs.Places.{first_place, second_place}
use Rattle.qg_super.specs.SuperText.{super_text}
use Rattle.qg_image.specs.State.{State}
use Rattle.qg_crashes.specs.Committing.{begin_of, nodes_synced}
use Rattle.qg_crashes.specs.Slots.{with_whole}
use Rattle.qg_crashes.specs.States.{first_synced}
use Rattle.qg_crashes.specs.Outcomes.{Commit, behind, dated_by}

-- without nodes, on a disk to which nothing was done but a sync: a sync, the first place, a sync, the second place, a
-- sync; the newest first
whole_commit : (super : Super) → with_whole [] super [] ≡
    Synced ∷ Wrote second_place (super_text second_place super) ∷ Synced ∷ Wrote first_place
    (super_text first_place super) ∷ Synced ∷ Synced ∷ []
whole_commit super = refl

-- it began at moment 1, the nodes were made sure of at 2, and the first place at 4
begins_at_one : begin_of [] ≡ 1
begins_at_one = refl

nodes_at_two : nodes_synced [] [] ≡ 2
nodes_at_two = refl

first_place_at_four : (super : Super) → first_synced [] [] super ≡ 4
first_place_at_four super = refl

-- the next commit begins at moment 6, when this one is acknowledged, and has its first place at 9
abbrev without_nodes : Super → State → Commit
without_nodes super state = record { nodes = []; super = super; state = state }

next_begins_at_six : (super : Super) (state : State) → begin_of (behind (without_nodes super state) []) ≡ 6
next_begins_at_six super state = refl

both_are_dated : (super : Super) (first second : State) →
    dated_by [] (without_nodes super first ∷ without_nodes super second ∷ []) ≡ record { state = first; sure = 4 }
    ∷ record { state = second; sure = 9 } ∷ []
both_are_dated super first second = refl
