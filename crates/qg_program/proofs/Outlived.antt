-- What a crash leaves of the commits of a run, from opening on and from each of its lines on.
use Rattle.std.proofs.Common.{◌≡◌, ◌∙◌, inl, inr, ℕ, zero, suc, ◌+◌, ◌<◌, List, [], ◌∷◌, ◌++◌, length, map, take, drop}
use Rattle.std.proofs.Common.{Option, Some, None, refl, sym, ap, subst, arith, append_assoc}
use Rattle.std.proofs.lemmas.List.{append-nil}
use Rattle.qg_device.specs.History.{Event, Recorded, Wrote, Synced, content}
use Rattle.qg_device.proofs.Histories.{same_Recorded}
use Rattle.qg_super.specs.declared.superblock.Super.{Super}
use Rattle.qg_super.specs.Places.{first_place, second_place}
use Rattle.qg_super.specs.SuperText.{super_text}
use Rattle.qg_image.specs.State.{Committed, State}
use Rattle.qg_image.specs.StateOf.{StateOf}
use Rattle.qg_machine.specs.Run.{Run}
use Rattle.qg_crashes.specs.Committing.{IsFrontOfEvents, begin_of}
use Rattle.qg_crashes.specs.Outcomes.{Chain, Dated, IsOneOf, Rests, dated_by, with_write}
use Rattle.qg_crashes.specs.Repairing.{Repairing}
use Rattle.qg_crashes.specs.States.{with_place}
use Rattle.qg_crashes.proofs.Outcomes.{run_survives}
use Rattle.qg_crashes.proofs.SameStates.{sound_places}
use Rattle.qg_store.specs.Calls.{with_commit}
use Rattle.qg_store.specs.CommitOpened.{IsOpened, IsRepairing, stale_of}
use Rattle.qg_store.specs.CommitOpening.{with_repair}
use Rattle.qg_store.proofs.OpeningCalls.{opening_repairs}
use Rattle.qg_store.specs.Crashes.{IsLastCommit, LeavesOneOf, last_commit}
use Rattle.qg_store.specs.Making.{Makes}
use Rattle.qg_store.proofs.Chained.{ChainOf, MakesSoFar, chain-leaves, chained, dated-states, makes-then, rests-behind}
use Rattle.qg_store.proofs.LastCommits.{AreLater, LeadTo, last-itself, lead-then, run-leads}
use Rattle.qg_store.proofs.Synced.{held_after}
use Rattle.qg_program.specs.Leaving.{AreKept, IsNoOlder, LeavesNoOlder}
use Rattle.qg_program.proofs.Answered.{made-all}
use Rattle.qg_program.proofs.Grown.{Grown, chain-grown, grown-by, grown-longer, grown-then}

-- ---- a run and its commits, cut behind some lines

pub record IsParted (old new : State) (lines replies : List (List ℕ)) (commits : List State) (count : ℕ) : Type 0 where
  pub mid : State
  pub earlier : List State
  pub more : List State
  pub run : Run old (take count lines) (take count replies) earlier mid
  pub rest : Run mid (drop count lines) (drop count replies) more new
  pub whole : commits ≡ earlier ++ more

run-parted : (old new : State) (lines replies : List (List ℕ)) (commits : List State) (count : ℕ)
    → Run old lines replies commits new
    → IsParted old new lines replies commits count
run-parted old new lines replies commits zero run =
    record { mid = old; earlier = []; more = commits; run = (refl, refl); rest = run; whole = refl }
run-parted old new [] [] commits (suc count) run =
    record { mid = new; earlier = commits; more = []; run = run; rest = (refl, refl); whole = sym (append-nil commits) }
run-parted old new [] (reply ∷ replies) commits (suc count) run = absurd run
run-parted old new (line ∷ lines) [] commits (suc count) run = absurd run
run-parted old new (line ∷ lines) (reply ∷ replies) commits (suc count) run =
    let part = run-parted run.0 new lines replies run.2 count run.4 in
    record {
      mid = part.mid;
      earlier = run.1 ++ part.earlier;
      more = part.more;
      run = (run.0, run.1, part.earlier, run.3, part.run, refl);
      rest = part.rest;
      whole = run.5 ∙ ap (λ (states : List State). run.1 ++ states) part.whole
          ∙ sym (append_assoc run.1 part.earlier part.more);
    }

pub record AreHalves (held : Committed) (first more : List State) (before after : List Event) : Type 0 where
  pub middle : List Event
  pub made : Makes held first before middle
  pub rest : Makes (held_after held first) more middle after

makes-parted : (held : Committed) (first more : List State) (before after : List Event)
    → Makes held (first ++ more) before after
    → AreHalves held first more before after
makes-parted held [] more before after made = record { middle = before; made = refl; rest = made }
makes-parted held (state ∷ first) more before after made =
    let halves = makes-parted state.held first more (with_commit made.0 made.1 before) after made.3 in
    record { middle = halves.middle; made = (made.0, made.1, made.2, halves.made); rest = halves.rest }

-- what the last of some commits holds
pub last-held : (committed : State) (commits : List State)
    → held_after committed.held commits ≡ (last_commit committed commits).held
last-held committed [] = refl
last-held committed (state ∷ states) = last-held state states

-- ---- one chain of all commits from one on

-- commits are later than one where they are later than a state that is as late
later-from : (old new : State) (commits : List State) → IsLastCommit old new → AreLater new commits
    → AreLater old commits
later-from old new [] last later = tt
later-from old new (state ∷ states) last later = (
  subst (λ (generation : ℕ). generation < state.generation) (sym last.generation) later.0,
  later.1
      ∙ sym last.sizes,
  later.2,
)

-- commits that are later, and were made so far
pub record AreBehind (base : State) (commits : List State) (before after : List Event) : Type 0 where
  pub later : AreLater base commits
  pub made : MakesSoFar base.held commits before after

-- those of a run, and behind them those that the next line began
pub run-behind : (base old final : State) (lines replies : List (List ℕ)) (commits begun : List State)
    (before now after : List Event)
    → IsLastCommit base old → Run old lines replies commits final → Makes base.held commits before now
    → AreBehind final begun now after
    → AreBehind base (commits ++ begun) before after
run-behind base old final lines replies commits begun before now after last run made next =
    let lead = run-leads base old final lines replies commits last run in
    let reached = last_commit base commits in
    let begin = later-from reached final begun lead.last next.later in
    let then : LeadTo reached begun (last_commit reached begun) =
    record { later = begin; last = last-itself (last_commit reached begun) } in
    let both = lead-then base commits begun (last_commit reached begun) lead.later then in
    let held = last-held base commits ∙ lead.last.held in
    let rest = subst (λ (h : Committed). MakesSoFar h begun now after) (sym held) next.made in
    record { later = both.later; made = makes-then base.held commits begun before now after made rest }

-- one of some commits is no older than the one before them
no-older : (base : State) (dated : List Dated) (image : List ℕ) (at : ℕ)
    → AreLater base (map (λ (commit : Dated). commit.state) dated)
    → IsOneOf base dated image at → IsNoOlder base.generation image
no-older base [] image at later one = record { state = base; stands = one; no_older = omega arith }
no-older base (next ∷ dated) image at later (inl is) = record { state = base; stands = is.0; no_older = omega arith }
no-older base (next ∷ dated) image at later (inr rest) =
    let found = no-older next.state dated image at later.2 rest in
    record { state = found.state; stands = found.stands; no_older = omega (arith, later.0, found.no_older) }

-- the last of them has perhaps not been made whole, and the disk rested in the one before them all
module _ (base : State) (commits : List State) (before after : List Event) (rests : Rests base before)
    (behind : AreBehind base commits before after) where
  chain-behind : ChainOf base commits rests.before after
  chain-behind =
      chained base commits rests.before after rests.stands behind.later
      (subst (λ (events : List Event). MakesSoFar base.held commits events after) rests.synced behind.made)

  pub behind-grown : Grown before after
  behind-grown =
      subst (λ (events : List Event). Grown events after) (sym rests.synced)
      (chain-grown base chain-behind.chain rests.before after chain-behind.is)

  behind-leaves : LeavesOneOf (length before) base commits after
  behind-leaves =
      let began : begin_of rests.before ≡ length before = omega (arith, ap length rests.synced) in
      subst (λ (since : ℕ). LeavesOneOf since base commits after) began
      (chain-leaves base commits rests.before after chain-behind)

  -- and nothing older than that is left
  pub none-older : LeavesNoOlder (length before) base.generation after
  none-older image moment leaves chance =
      let left = behind-leaves in
      let dated = dated_by left.before left.chain in
      let states = dated-states left.before left.chain ∙ left.states in
      let later = subst (λ (list : List State). AreLater base list) (sym states) behind.later in
      no-older base dated image moment later (left.survives.each image moment leaves chance)

-- ---- from opening on

-- an image that stands for a state was opened, and the disk rests in that state
pub record HasOpened (state : State) (events opened : List Event) : Type 0 where
  pub opens : IsOpened events (Recorded opened)
  pub stands : StateOf (content events) state
  pub rests : Rests state opened

-- what stands behind one event
behind-event : (event : Event) (a b events : List Event) → events ≡ event ∷ a → events ≡ event ∷ b → a ≡ b
behind-event event a b events first second = cc

-- a repair of one of the places that was whole is one of this place
whole-repair : (place : ℕ) (super : Super) (at : ℕ) (other : Super) (events opened : List Event)
    → opened ≡ Synced ∷ Wrote at (super_text at other) ∷ Synced ∷ events
    → IsFrontOfEvents (Wrote place (super_text place super) ∷ Synced ∷ []) (Synced ∷ events) opened
    → opened ≡ with_place place super events
whole-repair place super at other events opened shape (inl is) = absurd (omega (arith, ap length is, ap length shape))
whole-repair place super at other events opened shape (inr (inl fails)) =
    absurd (omega (arith, ap length fails.2, ap length shape))
whole-repair place super at other events opened shape (inr (inr (inl is))) =
    absurd (omega (arith, ap length is, ap length shape))
whole-repair place super at other events opened shape (inr (inr (inr (inl is)))) =
    absurd (omega (arith, ap length is, ap length shape))
whole-repair place super at other events opened shape (inr (inr (inr (inr is)))) = is

module _ (state : State) (events opened after : List Event) (commits : List State) (is : HasOpened state events opened)
    (behind : AreBehind state commits opened after) where
  chain-opened : ChainOf state commits is.rests.before after
  chain-opened = chain-behind state commits opened after is.rests behind

  -- no place was stale
  leaves-as-it-was : opened ≡ Synced ∷ events → LeavesOneOf (length events + 1) state commits after
  leaves-as-it-was same =
      let here = behind-event Synced is.rests.before events opened is.rests.synced same in
      subst (λ (before : List Event). LeavesOneOf (begin_of before) state commits after) here
      (chain-leaves state commits is.rests.before after chain-opened)

  -- the first one was, or the second one
  chain-at : (place : ℕ) (super : Super) → opened ≡ with_place place super events
      → Chain state chain-opened.chain (with_write place super events) after
  chain-at place super whole =
      let here = behind-event Synced is.rests.before (with_write place super events) opened is.rests.synced whole in
      subst (λ (before : List Event). Chain state chain-opened.chain before after) here chain-opened.is

  leaves-first : (super : Super) → Repairing events first_place second_place super opened
      → opened ≡ with_place first_place super events
      → LeavesOneOf (length events + 1) state commits after
  leaves-first super repairs whole =
      let all = subst (λ (done : List Event). Repairing events first_place second_place super done) whole repairs in
      let survives = run_survives state events after super chain-opened.chain is.stands in
      record {
        before = with_write first_place super events;
        chain = chain-opened.chain;
        states = chain-opened.states;
        made = chain-at first_place super whole;
        survives = survives.0 all (chain-at first_place super whole);
      }

  leaves-second : (super : Super) → Repairing events second_place first_place super opened
      → opened ≡ with_place second_place super events
      → LeavesOneOf (length events + 1) state commits after
  leaves-second super repairs whole =
      let all = subst (λ (done : List Event). Repairing events second_place first_place super done) whole repairs in
      let survives = run_survives state events after super chain-opened.chain is.stands in
      record {
        before = with_write second_place super events;
        chain = chain-opened.chain;
        states = chain-opened.states;
        made = chain-at second_place super whole;
        survives = survives.1 all (chain-at second_place super whole);
      }

  leaves-repaired : (place : ℕ) → stale_of (content events) ≡ Some place
      → opened ≡ Synced ∷ Wrote place (super_text place is.opens.super) ∷ Synced ∷ events
      → LeavesOneOf (length events + 1) state commits after
  leaves-repaired place stale shape =
      let super = is.opens.super in
      let repairing : IsRepairing events (Recorded opened) =
      record {
        sound = is.stands.sound;
        super = super;
        chosen = is.opens.chosen;
        place = place;
        stale = stale;
        written = inr (inr (ap (λ (list : List Event). Recorded list) shape));
      } in
      let long = (sound_places (content events) super is.opens.chosen is.stands.sound).long in
      elim (opening_repairs events opened repairing long) [
        | inl first ↦ leaves-first super first
            (whole-repair first_place super place super events opened shape first.so_far)
        | inr second ↦ leaves-second super second
            (whole-repair second_place super place super events opened shape second.so_far)
      ]

  opened-by : (place : Option ℕ) → stale_of (content events) ≡ place
      → opened ≡ with_repair is.opens.super place (Synced ∷ events)
  opened-by place stale =
      same_Recorded opened (with_repair is.opens.super (stale_of (content events)) (Synced ∷ events)) is.opens.repaired
      ∙ ap (λ (found : Option ℕ). with_repair is.opens.super found (Synced ∷ events)) stale

  leaves-by : (place : Option ℕ) → stale_of (content events) ≡ place
      → LeavesOneOf (length events + 1) state commits after
  leaves-by None stale = leaves-as-it-was (opened-by None stale)
  leaves-by (Some place) stale = leaves-repaired place stale (opened-by (Some place) stale)

  pub opened-leaves : LeavesOneOf (length events + 1) state commits after
  opened-leaves = leaves-by (stale_of (content events)) refl

  grown-by-opening : (place : Option ℕ) → stale_of (content events) ≡ place → Grown events opened
  grown-by-opening None stale = record { newer = Synced ∷ []; is = opened-by None stale }
  grown-by-opening (Some place) stale =
      record {
        newer = Synced ∷ Wrote place (super_text place is.opens.super) ∷ Synced ∷ [];
        is = opened-by (Some place) stale;
      }

  pub opened-grown : Grown events after
  opened-grown =
      grown-then events opened after (grown-by-opening (stale_of (content events)) refl)
      (behind-grown state commits opened after is.rests behind)

-- ---- from a line on

module _ (state final : State) (lines replies : List (List ℕ)) (commits begun : List State)
    (events opened now after : List Event)
    (is : HasOpened state events opened) (run : Run state lines replies commits final)
    (made : Makes state.held commits opened now)
    (next : AreBehind final begun now after) where
  -- behind its first lines the disk rests in their last commit, and the others go on from there
  module _ (count : ℕ) (parts : IsParted state final lines replies commits count)
      (halves : AreHalves state.held parts.earlier parts.more opened now) where
    lead : LeadTo state parts.earlier parts.mid
    lead = run-leads state state parts.mid (take count lines) (take count replies) parts.earlier
        (last-itself state) parts.run

    rests : Rests (last_commit state parts.earlier) halves.middle
    rests =
        rests-behind state parts.earlier is.rests.before halves.middle is.rests.stands lead.later
        (subst (λ (before : List Event). Makes state.held parts.earlier before halves.middle) is.rests.synced
        halves.made)

    rest-made : Makes (last_commit state parts.earlier).held parts.more halves.middle now
    rest-made = subst (λ (held : Committed). Makes held parts.more halves.middle now) (last-held state parts.earlier)
        halves.rest

    others : AreBehind (last_commit state parts.earlier) (parts.more ++ begun) halves.middle after
    others =
        run-behind (last_commit state parts.earlier) parts.mid final (drop count lines) (drop count replies) parts.more
        begun halves.middle now after
        lead.last parts.rest rest-made next

    grown : Grown halves.middle after
    grown = behind-grown (last_commit state parts.earlier) (parts.more ++ begun) halves.middle after rests others

    kept : AreKept state (take count lines) (take count replies) events after
    kept = record {
      commits = parts.earlier;
      present = parts.mid;
      run = parts.run;
      moment = length halves.middle;
      by_now = grown-longer halves.middle after grown;
      made = made-all is.opens
          (ap (λ (list : List Event). Recorded list) (grown-by halves.middle after grown)) halves.made;
      kept =
          subst (λ (generation : ℕ). LeavesNoOlder (length halves.middle) generation after) lead.last.generation
          (none-older (last_commit state parts.earlier) (parts.more ++ begun) halves.middle after rests others);
    }

  pub lines-kept : (count : ℕ) → AreKept state (take count lines) (take count replies) events after
  lines-kept count =
      let parts = run-parted state final lines replies commits count run in
      kept count parts
      (makes-parted state.held parts.earlier parts.more opened now
      (subst (λ (states : List State). Makes state.held states opened now) parts.whole made))
