-- Commits one after the other, and what they made sure of.
use Rattle.std.proofs.Common.{◌+◌, List, [], ◌∷◌, ◌++◌, length, ap, subst}
use Rattle.qg_device.specs.History.{Event, Wrote, Synced, Moment, content, synced}
use Rattle.qg_node.specs.declared.node.Node.{Node}
use Rattle.qg_super.specs.declared.superblock.Super.{Super}
use Rattle.qg_super.specs.Places.{first_place, second_place}
use Rattle.qg_super.specs.SuperText.{super_text}
use Rattle.qg_image.specs.State.{Committed, State}
use Rattle.qg_image_commits.specs.Calls.{with_nodes, with_commit}
use Rattle.qg_image_commits.proofs.Moments.{synced-with_commit}
use Rattle.qg_image_commits.specs.Making.{AreSynced, Makes}

-- what a disk held at a sync right after these events
abbrev moment_after : List Event → Moment
moment_after events = record { moment = length events + 1; content = content events }

-- what a commit does up to its first sync, up to its second, and up to its third
abbrev to_first : Super → List Node → List Event → List Event
to_first super nodes events = with_nodes super.nodesize nodes events

abbrev to_second : Super → List Node → List Event → List Event
to_second super nodes events = Wrote first_place (super_text first_place super) ∷ Synced ∷ to_first super nodes events

abbrev to_third : Super → List Node → List Event → List Event
to_third super nodes events = Wrote second_place (super_text second_place super) ∷ Synced ∷ to_second super nodes events

-- each commit made sure of what the disk held three times
pub synced-Makes : (held : Committed) (commits : List State) (before after : List Event)
    → Makes held commits before after → AreSynced commits (synced before) (synced after)
synced-Makes held [] before after made = ap synced made
synced-Makes held (state ∷ states) before after made = (
  moment_after (to_first made.0 made.1 before),
  moment_after (to_second made.0 made.1 before),
  moment_after (to_third made.0 made.1 before),
  made.2.committed,
  subst (λ (moments : List Moment). AreSynced states moments (synced after)) (synced-with_commit made.0 made.1 before)
      (synced-Makes state.held states (with_commit made.0 made.1 before) after made.3),
)

-- what the last of some commits holds, where so much was held before them
abbrev pub held_after : Committed → List State → Committed
held_after held [] = held
held_after held (state ∷ states) = held_after state.held states

-- commits, and then more of them
pub Makes-append : (held : Committed) (first more : List State) (before mid after : List Event)
    → Makes held first before mid → Makes (held_after held first) more mid after
    → Makes held (first ++ more) before after
Makes-append held [] more before mid after made later =
    subst (λ (events : List Event). Makes held more events after) made later
Makes-append held (state ∷ states) more before mid after made later = (
  made.0,
  made.1,
  made.2,
  Makes-append state.held states more (with_commit made.0 made.1 before) mid after made.3
      later,
)
