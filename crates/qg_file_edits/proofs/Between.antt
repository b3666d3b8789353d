-- The steps between two lists of pieces, one after the other.
use Rattle.std.proofs.Common.{◌≡◌, ℕ, ◌+◌, ◌<◌, ◌≤◌, List, [], ◌∷◌, ◌++◌, length, drop, Some, None, refl, sym, ap}
use Rattle.std.proofs.Common.{subst, ◌∙◌, arith, inl, inr, append_assoc}
use Rattle.std.specs.Prelude.{Option}
use Rattle.std.proofs.lemmas.Bool.{cases_eq, cases_lt, le-ltb, lt-ltb}
use Rattle.std.proofs.lemmas.List.{append-nil, length-append}
use Rattle.qg_num.specs.declared.piece.Piece.{Piece}
use Rattle.qg_files.specs.Apart.{AreApart}
use Rattle.qg_inodes.specs.Bodies.{piece_at}
use Rattle.qg_inodes.proofs.PiecesByPosition.{at-here, at-later}
use Rattle.qg_file_edits.specs.declared.step.Step.{Step}
use Rattle.qg_file_edits.specs.declared.step.Step.TheVariants.{Remove, Insert, Replace}
use Rattle.qg_file_edits.specs.Steps.{AreSteps, first_between, first_of, position_of, step_at, step_for}
use Rattle.qg_file_edits.proofs.Ascending.{AscendFrom, increasing-AscendFrom}
use Rattle.qg_file_edits.proofs.Positions.{apart-ascend, none-in_front, positions, positions_of, step-here, step-later}

-- steps between two lists, from a position on
pub record AreStepsFrom (from : ℕ) (gone put : List Piece) (steps : List Step) : Type 0 where
  pub ascend : AscendFrom from (positions_of steps)
  pub wanted : (position : ℕ)
      → step_at position steps ≡ step_for position (piece_at position gone) (piece_at position put)

-- the step of two pieces that are known
steps_same : (position : ℕ) (old out put new : Option Piece) → old ≡ out → put ≡ new
    → step_for position out new ≡ step_for position old put
steps_same position old out put new old_is put_is =
    sym (ap (λ (o : Option Piece). step_for position o put) old_is
    ∙ ap (λ (o : Option Piece). step_for position out o) put_is)

-- ---- one more step in front

-- of a position at which one step stands, and no piece of the rest
module _ (from at : ℕ) (step : Step) (gone put gone_rest put_rest : List Piece) (rest : List Step)
    (begins : from ≤ at) (is : position_of step ≡ at)
    (later_gone : (position : ℕ) → (at ≡ position → ⊥) → piece_at position gone ≡ piece_at position gone_rest)
    (later_put : (position : ℕ) → (at ≡ position → ⊥) → piece_at position put ≡ piece_at position put_rest)
    (here : ◌≡◌ (Some step) (step_for at (piece_at at gone) (piece_at at put))) where
  pub one-more : AreStepsFrom (at + 1) gone_rest put_rest rest → AreStepsFrom from gone put (step ∷ rest)
  unfolding AscendFrom
  one-more steps = record {
    ascend = (
      omega (arith, is),
      subst (λ (n : ℕ). AscendFrom (n + 1) (positions_of rest)) (sym is) steps.ascend,
    );
    wanted = λ position. elim (cases_eq at position) [
      | inl same ↦
          step-here position step rest (is ∙ same)
          ∙ subst (λ (n : ℕ). ◌≡◌ (Some step) (step_for n (piece_at n gone) (piece_at n put))) same here
      | inr differ ↦
          step-later position step rest (λ same. differ (sym is ∙ same))
          ∙ steps.wanted position
          ∙ ap (λ (o : Option Piece). step_for position o (piece_at position put_rest))
          (sym (later_gone position differ))
          ∙ ap (λ (o : Option Piece). step_for position (piece_at position gone) o)
          (sym (later_put position differ))
    ];
  }

-- ---- what has been done, and what is left

pub record Between (gone put : List Piece) (done : List Step) (gone_left put_left : List Piece) : Type 0 where
  pub from : ℕ
  pub gone_ascend : AscendFrom from (positions gone_left)
  pub put_ascend : AscendFrom from (positions put_left)
  pub goes_on : (rest : List Step) → AreStepsFrom from gone_left put_left rest → AreStepsFrom 0 gone put (done ++ rest)
  pub few : length done + (length gone_left + length put_left) ≤ length gone + length put

nothing_done : (gone put : List Piece) → AreApart gone → AreApart put → Between gone put [] gone put
nothing_done gone put gone_apart put_apart = record {
  from = 0;
  gone_ascend = apart-ascend 0 gone gone_apart;
  put_ascend = apart-ascend 0 put put_apart;
  goes_on = λ rest steps. steps;
  few = omega arith;
}

pub between-begin : (gone put : List Piece) (done : List Step) (gone_left put_left : List Piece) → done ≡ []
    → gone_left ≡ gone → put_left ≡ put → AreApart gone → AreApart put → Between gone put done gone_left put_left
between-begin gone put done gone_left put_left none gone_is put_is gone_apart put_apart =
    subst (λ (steps : List Step). Between gone put steps gone_left put_left) (sym none)
    (subst (λ (pieces : List Piece). Between gone put [] pieces put_left) (sym gone_is)
    (subst (λ (pieces : List Piece). Between gone put [] gone pieces) (sym put_is)
    (nothing_done gone put gone_apart put_apart)))

module _ (gone put : List Piece) (done : List Step) where
  -- a step more, where it leads from what is left to what is left then
  module _ (step : Step) (at : ℕ) (gone_left put_left gone_then put_then : List Piece)
      (between : Between gone put done gone_left put_left)
      (gone_ascend : AscendFrom (at + 1) (positions gone_then))
      (put_ascend : AscendFrom (at + 1) (positions put_then))
      (few : length gone_then + length put_then + 1 ≤ length gone_left + length put_left)
      (more : (rest : List Step) → AreStepsFrom (at + 1) gone_then put_then rest
      → AreStepsFrom between.from gone_left put_left (step ∷ rest)) where
    step-done : Between gone put (done ++ step ∷ []) gone_then put_then
    step-done = record {
      from = at + 1;
      gone_ascend = gone_ascend;
      put_ascend = put_ascend;
      goes_on = λ rest steps.
          subst (λ (all : List Step). AreStepsFrom 0 gone put all) (sym (append_assoc done (step ∷ []) rest))
          (between.goes_on (step ∷ rest) (more rest steps));
      few =
          let was = between.few in
          let long : length (done ++ step ∷ []) ≡ length done + 1 = length-append done (step ∷ []) in
          omega arith;
    }

  -- ---- the pieces at the heads

  module _ (old : Piece) (gone_left : List Piece) (put_left : List Piece)
      (between : Between gone put done (old ∷ gone_left) put_left)
      (behind : AscendFrom (old.position + 1) (positions put_left)) where
    -- the first that goes stands in front of all that come
    pub removed : Between gone put (done ++ Remove old.position ∷ []) gone_left put_left
    unfolding AscendFrom
    removed =
        let at = old.position in
        let none = none-in_front (at + 1) at put_left behind (omega arith) in
        let there = at-here at old gone_left refl in
        let here : ◌≡◌ (Some (Remove at)) (step_for at (piece_at at (old ∷ gone_left)) (piece_at at put_left)) =
        steps_same at (piece_at at (old ∷ gone_left)) (Some old) (piece_at at put_left) None there none
        in
        step-done (Remove at) at (old ∷ gone_left) put_left gone_left put_left between between.gone_ascend.1 behind
        (omega arith)
        (λ rest. one-more between.from at (Remove at) (old ∷ gone_left) put_left gone_left put_left rest
        between.gone_ascend.0 refl (λ position differ. at-later position old gone_left differ)
        (λ position differ. refl) here)

  module _ (new : Piece) (gone_left put_left : List Piece)
      (between : Between gone put done gone_left (new ∷ put_left))
      (behind : AscendFrom (new.position + 1) (positions gone_left)) where
    -- the first that comes stands in front of all that go
    pub inserted : Between gone put (done ++ Insert new ∷ []) gone_left put_left
    unfolding AscendFrom
    inserted =
        let at = new.position in
        let none = none-in_front (at + 1) at gone_left behind (omega arith) in
        let there = at-here at new put_left refl in
        let here : ◌≡◌ (Some (Insert new)) (step_for at (piece_at at gone_left) (piece_at at (new ∷ put_left))) =
        steps_same at (piece_at at gone_left) None (piece_at at (new ∷ put_left)) (Some new) none there
        in
        step-done (Insert new) at gone_left (new ∷ put_left) gone_left put_left between behind between.put_ascend.1
        (omega arith)
        (λ rest. one-more between.from at (Insert new) gone_left (new ∷ put_left) gone_left put_left rest
        between.put_ascend.0 refl (λ position differ. refl)
        (λ position differ. at-later position new put_left differ) here)

  module _ (old new : Piece) (gone_left put_left : List Piece)
      (between : Between gone put done (old ∷ gone_left) (new ∷ put_left))
      (same : old.position ≡ new.position) where
    -- both stand at one position
    pub replaced : Between gone put (done ++ Replace new ∷ []) gone_left put_left
    unfolding AscendFrom
    replaced =
        let at = new.position in
        let gone_there = at-here at old gone_left same in
        let put_there = at-here at new put_left refl in
        let here : ◌≡◌ (Some (Replace new))
        (step_for at (piece_at at (old ∷ gone_left)) (piece_at at (new ∷ put_left))) =
        steps_same at (piece_at at (old ∷ gone_left)) (Some old) (piece_at at (new ∷ put_left)) (Some new) gone_there
        put_there
        in
        let gone_behind : AscendFrom (at + 1) (positions gone_left) =
        subst (λ (n : ℕ). AscendFrom (n + 1) (positions gone_left)) same between.gone_ascend.1
        in
        step-done (Replace new) at (old ∷ gone_left) (new ∷ put_left) gone_left put_left between gone_behind
        between.put_ascend.1 (omega arith)
        (λ rest. one-more between.from at (Replace new) (old ∷ gone_left) (new ∷ put_left) gone_left put_left rest
        between.put_ascend.0 refl
        (λ position differ. at-later position old gone_left (λ is. differ (sym same ∙ is)))
        (λ position differ. at-later position new put_left differ) here)

-- ---- the first step of what is left

-- which step that is
first-removes : (old new : Piece) → old.position < new.position → first_of old new ≡ Remove old.position
first-removes old new less = rw (lt-ltb old.position new.position less) refl

first-inserts : (old new : Piece) → new.position < old.position → first_of old new ≡ Insert new
first-inserts old new less =
    rw (le-ltb old.position new.position (omega arith), lt-ltb new.position old.position less) refl

first-replaces : (old new : Piece) → old.position ≡ new.position → first_of old new ≡ Replace new
first-replaces old new same =
    rw (le-ltb old.position new.position (omega (arith, same)), le-ltb new.position old.position (omega (arith, same)))
    refl

-- what is left once it is made
abbrev pub gone_after : Step → List Piece → List Piece
gone_after (Remove position) gone = drop 1 gone
gone_after (Insert piece) gone = gone
gone_after (Replace piece) gone = drop 1 gone

abbrev pub put_after : Step → List Piece → List Piece
put_after (Remove position) put = put
put_after (Insert piece) put = drop 1 put
put_after (Replace piece) put = drop 1 put

module _ (gone put : List Piece) (done : List Step) where
  abbrev Then : Step → List Piece → List Piece → Type 0
  Then step gone_left put_left =
      Between gone put (done ++ step ∷ []) (gone_after step gone_left) (put_after step put_left)

  both_left : (old new : Piece) (gone_left put_left : List Piece)
      → Between gone put done (old ∷ gone_left) (new ∷ put_left)
      → Then (first_of old new) (old ∷ gone_left) (new ∷ put_left)
  unfolding AscendFrom
  both_left old new gone_left put_left between = elim (cases_lt old.position new.position) [
    | inl less ↦
        let behind : AscendFrom (old.position + 1) (positions (new ∷ put_left)) =
        (omega arith, between.put_ascend.1)
        in
        subst (λ (step : Step). Then step (old ∷ gone_left) (new ∷ put_left)) (sym (first-removes old new less))
        (removed gone put done old gone_left (new ∷ put_left) between behind)
    | inr past ↦ elim (cases_eq old.position new.position) [
      | inl same ↦
          subst (λ (step : Step). Then step (old ∷ gone_left) (new ∷ put_left)) (sym (first-replaces old new same))
          (replaced gone put done old new gone_left put_left between same)
      | inr differ ↦
          let behind : AscendFrom (new.position + 1) (positions (old ∷ gone_left)) =
          (omega (arith, past, differ), between.gone_ascend.1)
          in
          subst (λ (step : Step). Then step (old ∷ gone_left) (new ∷ put_left))
          (sym (first-inserts old new (omega (arith, past, differ))))
          (inserted gone put done new (old ∷ gone_left) put_left between behind)
    ]
  ]

  pub between-step : (step : Step) (gone_left put_left : List Piece)
      → ◌≡◌ (Some step) (first_between gone_left put_left)
      → Between gone put done gone_left put_left → Then step gone_left put_left
  unfolding AscendFrom
  between-step step [] [] is between = absurd cc
  between-step step [] (new ∷ put_left) is between =
      let same : Insert new ≡ step = cc in
      subst (λ (s : Step). Then s [] (new ∷ put_left)) same (inserted gone put done new [] put_left between tt)
  between-step step (old ∷ gone_left) [] is between =
      let same : Remove old.position ≡ step = cc in
      subst (λ (s : Step). Then s (old ∷ gone_left) []) same (removed gone put done old gone_left [] between tt)
  between-step step (old ∷ gone_left) (new ∷ put_left) is between =
      let same : first_of old new ≡ step = cc in
      subst (λ (s : Step). Then s (old ∷ gone_left) (new ∷ put_left)) same
      (both_left old new gone_left put_left between)

  -- so it is of lists that are known to be these
  pub between-then :
      (step : Step) (gone_left put_left : List Piece) (steps : List Step) (gone_then put_then : List Piece)
      → ◌≡◌ (Some step) (first_between gone_left put_left) → Between gone put done gone_left put_left
      → steps ≡ done ++ step ∷ [] → gone_then ≡ gone_after step gone_left → put_then ≡ put_after step put_left
      → Between gone put steps gone_then put_then
  between-then step gone_left put_left steps gone_then put_then is between steps_are gone_is put_is =
      subst (λ (all : List Step). Between gone put all gone_then put_then) (sym steps_are)
      (subst (λ (pieces : List Piece). Between gone put (done ++ step ∷ []) pieces put_then) (sym gone_is)
      (subst (λ (pieces : List Piece). Between gone put (done ++ step ∷ []) (gone_after step gone_left) pieces)
      (sym put_is)
      (between-step step gone_left put_left is between)))

  -- where there is none, all is done
  pub between-end : (gone_left put_left : List Piece) → ◌≡◌ None (first_between gone_left put_left)
      → Between gone put done gone_left put_left → AreSteps gone put done
  unfolding AscendFrom
  between-end [] [] is between =
      let none : AreStepsFrom between.from [] [] [] = record { ascend = tt; wanted = λ position. refl } in
      let all : AreStepsFrom 0 gone put done =
      subst (λ (steps : List Step). AreStepsFrom 0 gone put steps) (append-nil done) (between.goes_on [] none)
      in
      record { ascending = increasing-AscendFrom 0 (positions_of done) all.ascend; wanted = all.wanted }
  between-end [] (new ∷ put_left) is between = absurd cc
  between-end (old ∷ gone_left) [] is between = absurd cc
  between-end (old ∷ gone_left) (new ∷ put_left) is between = absurd cc
