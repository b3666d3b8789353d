-- Commits that a disk was given the calls of by some moment, and no others: a crash leaves nothing older from then on.
use Rattle.std.proofs.Common.{◌≡◌, ◌∙◌, ℕ, ◌+◌, List, [], ◌∷◌, ◌++◌, length, refl, sym, ap, subst, arith}
use Rattle.std.proofs.Common.{append_assoc}
use Rattle.std.specs.List.Sorted.{IsPermutation}
use Rattle.std.proofs.lemmas.List.Sorted.{length_permutation}
use Rattle.std.proofs.lemmas.Option.{same_Some}
use Rattle.qg_device.specs.History.{Event, Recorded, Synced, content}
use Rattle.qg_device.specs.CrashSince.{events_by}
use Rattle.qg_device.proofs.Histories.{same_Recorded}
use Rattle.qg_node.specs.declared.node.Node.{Node}
use Rattle.qg_super.specs.declared.superblock.Super.{Super}
use Rattle.qg_image.specs.State.{Committed, State}
use Rattle.qg_machine.specs.Written.{new_nodes}
use Rattle.qg_crashes.specs.Outcomes.{Rests}
use Rattle.qg_crashes.proofs.Moments.{length-events_by}
use Rattle.qg_store.specs.Calls.{commit_calls, with_commit}
use Rattle.qg_store.specs.CommitOpened.{IsOpened, stale_of}
use Rattle.qg_store.specs.CommitOpening.{with_repair}
use Rattle.qg_store.specs.Crashes.{last_commit}
use Rattle.qg_store.specs.Making.{Makes}
use Rattle.qg_store.proofs.Chained.{MakesSoFar, rests-behind}
use Rattle.qg_store.proofs.LastCommits.{AreLater}
use Rattle.qg_store.proofs.Synced.{held_after}
use Rattle.qg_program.specs.Leaving.{AreAcknowledged, LeavesNoOlder}
use Rattle.qg_program.proofs.Grown.{Grown, by-grown, commit-grown, front-of-calls-grown, front-of-commit-short}
use Rattle.qg_program.proofs.Grown.{grown-none, grown-same, grown-then, length-with_commit, same-grown}
use Rattle.qg_program.proofs.Outlived.{AreBehind, HasOpened, last-held, none-older}

-- ---- the calls of some commits are as many, however they were chosen

makes-grown : (held : Committed) (commits : List State) (before after : List Event) → Makes held commits before after
    → Grown before after
makes-grown held [] before after made = grown-none before after made
makes-grown held (state ∷ states) before after made =
    let mid = with_commit made.0 made.1 before in
    grown-then before mid after (commit-grown made.0 made.1 before) (makes-grown state.held states mid after made.3)

so-far-grown : (held : Committed) (commits : List State) (before after : List Event)
    → MakesSoFar held commits before after → Grown before after
so-far-grown held [] before after made = grown-none before after made
so-far-grown held (state ∷ []) before after made = front-of-calls-grown (commit_calls made.0 made.1) before after made.3
so-far-grown held (state ∷ next ∷ states) before after made =
    let mid = with_commit made.0 made.1 before in
    grown-then before mid after (commit-grown made.0 made.1 before)
    (so-far-grown state.held (next ∷ states) mid after made.3)

-- so are the nodes of one
as-many-nodes : (held : Committed) (state : State) (nodes others : List Node)
    → IsPermutation nodes (new_nodes held state)
    → IsPermutation others (new_nodes held state) → length nodes ≡ length others
as-many-nodes held state nodes others one other =
    sym (length_permutation nodes (new_nodes held state) one) ∙ length_permutation others (new_nodes held state) other

-- and two commits of one state, of which both came by then, are the same
same-commit : (held : Committed) (state : State) (before after : List Event) (super other : Super)
    (nodes others : List Node)
    → IsPermutation nodes (new_nodes held state) → IsPermutation others (new_nodes held state)
    → Grown (with_commit super nodes before) after → Grown (with_commit other others before) after
    → with_commit super nodes before ≡ with_commit other others before
same-commit held state before after super other nodes others one two first second =
    let many = as-many-nodes held state nodes others one two in
    let same : length (with_commit super nodes before) ≡ length (with_commit other others before) =
    omega (arith, many, length-with_commit super nodes before, length-with_commit other others before) in
    same-grown (with_commit super nodes before) (with_commit other others before) after first second same

-- ---- behind the calls of the first ones come those of the others

behind-first : (held : Committed) (first later : List State) (before mid after : List Event)
    → MakesSoFar held (first ++ later) before after
    → Makes held first before mid → Grown mid after → MakesSoFar (held_after held first) later mid after
behind-first held [] later before mid after so_far made grown =
    subst (λ (events : List Event). MakesSoFar held later events after) (sym made) so_far
behind-first held (state ∷ []) [] before mid after so_far made grown =
    let many = as-many-nodes held state so_far.1 made.1 so_far.2.written made.2.written in
    let short = front-of-commit-short so_far.0 so_far.1 before after so_far.3 in
    let whole : length mid ≡ length before + length made.1 + 5 = ap length made.3
    ∙ length-with_commit made.0 made.1 before in
    grown-same mid after grown (omega (arith, many, short, whole))
behind-first held (state ∷ []) (next ∷ later) before mid after so_far made grown =
    let one = so-far-grown state.held (next ∷ later) (with_commit so_far.0 so_far.1 before) after so_far.3 in
    let other = subst (λ (events : List Event). Grown events after) made.3 grown in
    let same = same-commit held state before after so_far.0 made.0 so_far.1 made.1 so_far.2.written made.2.written one
    other in
    subst (λ (events : List Event). MakesSoFar state.held (next ∷ later) events after) (same ∙ sym made.3) so_far.3
behind-first held (state ∷ next ∷ first) later before mid after so_far made grown =
    let one = so-far-grown state.held (next ∷ first ++ later) (with_commit so_far.0 so_far.1 before) after so_far.3 in
    let rest = makes-grown state.held (next ∷ first) (with_commit made.0 made.1 before) mid made.3 in
    let other = grown-then (with_commit made.0 made.1 before) mid after rest grown in
    let same = same-commit held state before after so_far.0 made.0 so_far.1 made.1 so_far.2.written made.2.written one
    other in
    let others = subst (λ (events : List Event). MakesSoFar state.held (next ∷ first ++ later) events after) same
    so_far.3 in
    behind-first state.held (next ∷ first) later (with_commit made.0 made.1 before) mid after others made.3 grown

-- ---- commits that are later

pub record AreLaterInTwo (committed : State) (first more : List State) : Type 0 where
  pub earlier : AreLater committed first
  pub later : AreLater (last_commit committed first) more

later-in-two : (committed : State) (first more : List State) → AreLater committed (first ++ more)
    → AreLaterInTwo committed first more
later-in-two committed [] more later = record { earlier = tt; later = later }
later-in-two committed (state ∷ first) more later =
    let rest = later-in-two state first more later.2 in
    record { earlier = (later.0, later.1, rest.earlier); later = rest.later }

last-of : (committed : State) (first : List State) (commit : State)
    → last_commit committed (first ++ commit ∷ []) ≡ commit
last-of committed [] commit = refl
last-of committed (state ∷ first) commit = last-of state first commit

-- ---- an image is opened in one way

opened-same : (events one other : List Event) → IsOpened events (Recorded one)
    → IsOpened events (Recorded other) → one ≡ other
opened-same events one other first second =
    let super : first.super ≡ second.super = same_Some first.super second.super (sym first.chosen ∙ second.chosen) in
    let by : Super → List Event = λ s. with_repair s (stale_of (content events)) (Synced ∷ events) in
    same_Recorded one (by first.super) first.repaired ∙ ap by super
    ∙ sym (same_Recorded other (by second.super) second.repaired)

-- ---- what is acknowledged stays

module _ (state : State) (events opened after : List Event) (commits : List State) (is : HasOpened state events opened)
    (behind : AreBehind state commits opened after) where
  -- the disk had the calls of the first ones by a moment
  module _ (first later : List State) (mid : List Event) (are : commits ≡ first ++ later)
      (made : Makes state.held first opened mid)
      (grown : Grown mid after) where
    in-two : AreLaterInTwo state first later
    in-two = later-in-two state first later (subst (λ (states : List State). AreLater state states) are behind.later)

    rested : Rests (last_commit state first) mid
    rested =
        rests-behind state first is.rests.before mid is.rests.stands in-two.earlier
        (subst (λ (before : List Event). Makes state.held first before mid) is.rests.synced made)

    others : MakesSoFar (held_after state.held first) later mid after
    others =
        behind-first state.held first later opened mid after
        (subst (λ (states : List State). MakesSoFar state.held states opened after) are behind.made) made grown

    then-behind : AreBehind (last_commit state first) later mid after
    then-behind = record {
      later = in-two.later;
      made = subst (λ (held : Committed). MakesSoFar held later mid after) (last-held state first) others;
    }

    stays : LeavesNoOlder (length mid) (last_commit state first).generation after
    stays = none-older (last_commit state first) later mid after rested then-behind

  pub acknowledged-stay : AreAcknowledged state commits events after
  acknowledged-stay first commit later moment are by_now makes =
      let front = first ++ commit ∷ [] in
      let all : commits ≡ front ++ later = are ∙ sym (append_assoc first (commit ∷ []) later) in
      let begun = opened-same events makes.opened opened makes.opens is.opens in
      let there : makes.made.after ≡ events_by moment after =
      sym (same_Recorded (events_by moment after) makes.made.after makes.made.told) in
      let from = subst (λ (before : List Event). Makes state.held front before makes.made.after) begun
      makes.made.made in
      let made = subst (λ (done : List Event). Makes state.held front opened done) there from in
      let kept = stays front later (events_by moment after) all made (by-grown moment after) in
      let since = subst (λ (moment : ℕ). LeavesNoOlder moment (last_commit state front).generation after)
      (length-events_by moment after by_now) kept in
      subst (λ (last : State). LeavesNoOlder moment last.generation after) (last-of state first commit) since
