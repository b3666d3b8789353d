-- How many steps lead from some pieces to others.
use Rattle.std.proofs.Common.{◌≡◌, ℕ, ◌+◌, ◌<◌, ◌≤◌, List, [], ◌∷◌, ◌++◌, length, Some, None, refl, sym, ap, ◌∙◌, arith}
use Rattle.std.proofs.Common.{inl, inr}
use Rattle.std.specs.Prelude.{◌⊎◌, Bool, Option, IsSome, ◌&&◌, is_some, nat_le, nat_lt, if◌then◌else◌}
use Rattle.std.specs.Option.{option_and_then}
use Rattle.std.proofs.lemmas.Bool.{cases_eq, cases_lt, le-leb, lt-leb}
use Rattle.std.proofs.lemmas.List.{length-append, length-map}
use Rattle.std.proofs.lemmas.List.Sums.{length-filter}
use Rattle.qg_num.specs.declared.piece.Piece.{Piece}
use Rattle.qg_image.specs.FilesOf.{piece_end}
use Rattle.qg_image.specs.ItemMeaning.{◌orelse◌}
use Rattle.qg_machine.specs.FileChange.{after, before, part_before, pieces_meeting, pieces_past, with_range}
use Rattle.qg_inodes.specs.Bodies.{piece_at}
use Rattle.qg_inodes.specs.PiecesWritten.{pieces_cut, pieces_met}
use Rattle.qg_inodes.proofs.PiecesByPosition.{at-after-behind, at-after-none, at-append, at-before, at-before-none}
use Rattle.qg_inodes.proofs.PiecesByPosition.{at-later}
use Rattle.qg_file_edits.specs.declared.step.Step.{Step}
use Rattle.qg_file_edits.specs.Steps.{AreSteps, position_of, step_at, step_for}
use Rattle.qg_file_edits.proofs.Ascending.{AscendFrom, AscendFrom-increasing}
use Rattle.qg_file_edits.proofs.Positions.{not-some, positions, positions_of, step-here, step-later}

-- ---- numbers in a list

-- a number is one of a list
abbrev Has : ℕ → List ℕ → Type 0
Has n [] = ⊥
Has n (m ∷ ms) = (m ≡ n) ⊎ Has n ms

has-front : (n : ℕ) (front back : List ℕ) → Has n front → Has n (front ++ back)
has-front n [] back has = absurd has
has-front n (m ∷ front) back (inl here) = inl here
has-front n (m ∷ front) back (inr later) = inr (has-front n front back later)

has-back : (n : ℕ) (front back : List ℕ) → Has n back → Has n (front ++ back)
has-back n [] back has = has
has-back n (m ∷ front) back has = inr (has-back n front back has)

-- how many of a list are no less than a number
abbrev above : ℕ → List ℕ → ℕ
above from [] = 0
above from (m ∷ ms) = (if nat_le from m then 1 else 0) + above from ms

above-at : (from m : ℕ) (ms : List ℕ) → from ≤ m → above from (m ∷ ms) ≡ 1 + above from ms
above-at from m ms is = ap (λ (b : Bool). (if b then 1 else 0) + above from ms) (le-leb from m is)

above-below : (from m : ℕ) (ms : List ℕ) → m < from → above from (m ∷ ms) ≡ above from ms
above-below from m ms less =
    let none : above from (m ∷ ms) ≡ 0 + above from ms =
    ap (λ (b : Bool). (if b then 1 else 0) + above from ms) (lt-leb from m less)
    in
    omega (arith, none)

above-length : (from : ℕ) (ms : List ℕ) → above from ms ≤ length ms
above-length from [] = omega arith
above-length from (m ∷ ms) =
    let later = above-length from ms in
    elim (cases_lt m from) [
      | inl less ↦ let e = above-below from m ms less in omega (arith, later, e)
      | inr is ↦ let e = above-at from m ms is in omega (arith, later, e)
    ]

-- fewer are no less than a greater number
above-less : (n from : ℕ) (ms : List ℕ) → from ≤ n → above (n + 1) ms ≤ above from ms
above-less n from [] low = omega arith
above-less n from (m ∷ ms) low =
    let later = above-less n from ms low in
    elim (cases_lt m (n + 1)) [
      | inl less ↦
          let e = above-below (n + 1) m ms less in
          elim (cases_lt m from) [
            | inl below ↦ let f = above-below from m ms below in omega (arith, later, e, f)
            | inr is ↦ let f = above-at from m ms is in omega (arith, later, e, f)
          ]
      | inr is ↦
          let e = above-at (n + 1) m ms is in
          let f = above-at from m ms (omega arith) in
          omega (arith, later, e, f)
    ]

-- and one fewer at least, where the list has the number
above-one : (n from : ℕ) (ms : List ℕ) → from ≤ n → Has n ms → above (n + 1) ms + 1 ≤ above from ms
above-one n from [] low has = absurd has
above-one n from (m ∷ ms) low (inl here) =
    let later = above-less n from ms low in
    let e = above-below (n + 1) m ms (omega (arith, here)) in
    let f = above-at from m ms (omega (arith, here)) in
    omega (arith, later, e, f)
above-one n from (m ∷ ms) low (inr has) =
    let later = above-one n from ms low has in
    elim (cases_lt m (n + 1)) [
      | inl less ↦
          let e = above-below (n + 1) m ms less in
          elim (cases_lt m from) [
            | inl below ↦ let f = above-below from m ms below in omega (arith, later, e, f)
            | inr is ↦ let f = above-at from m ms is in omega (arith, later, e, f)
          ]
      | inr is ↦
          let e = above-at (n + 1) m ms is in
          let f = above-at from m ms (omega arith) in
          omega (arith, later, e, f)
    ]

-- numbers that ascend and stand in a list are no more than it has
few-above : (from : ℕ) (ns pool : List ℕ) → AscendFrom from ns → ((n : ℕ) → Has n ns → Has n pool)
    → length ns ≤ above from pool
unfolding AscendFrom
few-above from [] pool ascend among = omega arith
few-above from (n ∷ ns) pool ascend among =
    let later = few-above (n + 1) ns pool ascend.1 (λ m has. among m (inr has)) in
    let one = above-one n from pool ascend.0 (among n (inl refl)) in
    omega (arith, later, one)

few : (ns pool : List ℕ) → AscendFrom 0 ns → ((n : ℕ) → Has n ns → Has n pool) → length ns ≤ length pool
few ns pool ascend among =
    let most = few-above 0 ns pool ascend among in
    let all = above-length 0 pool in
    omega (arith, most, all)

-- ---- positions

has-piece : (position : ℕ) (pieces : List Piece) → IsSome (piece_at position pieces) → Has position (positions pieces)
has-piece position [] there = absurd cc
has-piece position (piece ∷ pieces) there = elim (cases_eq piece.position position) [
  | inl here ↦ inl here
  | inr differ ↦ inr (has-piece position pieces (sym (ap is_some (at-later position piece pieces differ)) ∙ there))
]

some-step : (position : ℕ) (steps : List Step) → Has position (positions_of steps) → IsSome (step_at position steps)
some-step position [] has = absurd has
some-step position (step ∷ steps) has = elim (cases_eq (position_of step) position) [
  | inl here ↦ ap is_some (step-here position step steps here)
  | inr differ ↦
      ap is_some (step-later position step steps differ)
      ∙ some-step position steps (later_has differ has)
] where
  later_has : (position_of step ≡ position → ⊥) → (position_of step ≡ position) ⊎ Has position (positions_of steps)
      → Has position (positions_of steps)
  later_has differ (inl here) = absurd (differ here)
  later_has differ (inr later) = later

-- a step stands where a piece goes or comes
some-of : (position : ℕ) (gone put : Option Piece) → IsSome (step_for position gone put)
    → (IsSome gone) ⊎ (IsSome put)
some-of position None None some = absurd cc
some-of position None (Some new) some = inr refl
some-of position (Some old) put some = inl refl

module _ (gone put : List Piece) (steps : List Step) (are : AreSteps gone put steps) where
  -- where all positions of what goes and comes are in a list, steps are no more than it has
  few-steps : (pool : List ℕ) → ((position : ℕ) → IsSome (piece_at position gone) → Has position pool)
      → ((position : ℕ) → IsSome (piece_at position put) → Has position pool)
      → length steps ≤ length pool
  few-steps pool goes comes =
      let among : (position : ℕ) → Has position (positions_of steps) → Has position pool =
      λ position has. elim (some-of position (piece_at position gone) (piece_at position put)
      (sym (ap is_some (are.wanted position)) ∙ some-step position steps has)) [
        | inl out ↦ goes position out
        | inr new ↦ comes position new
      ]
      in
      let most = few (positions_of steps) pool (AscendFrom-increasing (positions_of steps) are.ascending) among in
      let long : length (positions_of steps) ≡ length steps = length-map steps position_of in
      omega (arith, most, long)

  pub steps-few : length steps ≤ length gone + length put
  steps-few =
      let out = positions gone in
      let in_place = positions put in
      let most =
      few-steps (out ++ in_place)
      (λ position there. has-front position out in_place (has-piece position gone there))
      (λ position there. has-back position out in_place (has-piece position put there))
      in
      let long : length (out ++ in_place) ≡ length out + length in_place = length-append out in_place in
      let outs : length out ≡ length gone = length-map gone (λ (piece : Piece). piece.position) in
      let ins : length in_place ≡ length put = length-map put (λ (piece : Piece). piece.position) in
      omega (arith, most, long, outs, ins)

-- ---- what rests in front of a position

some-and_then : (f : Piece → Option Piece) (o : Option Piece) → IsSome (option_and_then f o) → IsSome o
some-and_then f None some = absurd cc
some-and_then f (Some piece) some = refl

-- it stands where it stood
some-before : (to position : ℕ) (pieces : List Piece) → IsSome (piece_at position (before to pieces))
    → IsSome (piece_at position pieces)
some-before to position pieces some = elim (cases_lt position to) [
  | inl less ↦
      some-and_then (part_before to) (piece_at position pieces)
      (sym (ap is_some (at-before to pieces position less)) ∙ some)
  | inr past ↦ absurd (not-some (piece_at position (before to pieces)) (at-before-none to pieces position past) some)
]

some-orelse : (a b : Option Piece) → IsSome (a orelse b) → (IsSome a) ⊎ (IsSome b)
some-orelse None b some = inr some
some-orelse (Some piece) b some = inl refl

-- ---- a range

module _ (from to : ℕ) (given old : List Piece) where
  abbrev met : List Piece
  met = pieces_met from to old

  -- what goes, what is given, and the range's end
  abbrev among : List ℕ
  among = positions met ++ (positions given ++ (to ∷ []))

  has_met : (position : ℕ) → IsSome (piece_at position met) → Has position among
  has_met position there =
      has-front position (positions met) (positions given ++ (to ∷ [])) (has-piece position met there)

  has_given : (position : ℕ) → IsSome (piece_at position given) → Has position among
  has_given position there =
      has-back position (positions met) (positions given ++ (to ∷ []))
      (has-front position (positions given) (to ∷ []) (has-piece position given there))

  has_end : (position : ℕ) → to ≡ position → Has position among
  has_end position same =
      has-back position (positions met) (positions given ++ (to ∷ []))
      (has-back position (positions given) (to ∷ []) (inl same))

  -- what rests behind the range stands at its end, or where it stood
  has_rest : (position : ℕ) → IsSome (piece_at position (after to met)) → Has position among
  has_rest position there = elim (cases_lt position to) [
    | inl less ↦ absurd (not-some (piece_at position (after to met)) (at-after-none to met position less) there)
    | inr past ↦ elim (cases_eq to position) [
      | inl same ↦ has_end position same
      | inr differ ↦
          has_met position
          (sym (ap is_some (at-after-behind to met position (omega (arith, past, differ)))) ∙ there)
    ]
  ]

  has_put : (position : ℕ) → IsSome (piece_at position (with_range from to given met)) → Has position among
  has_put position there =
      let front = piece_at position (before from met) in
      let middle = piece_at position given in
      let back = piece_at position (after to met) in
      let parts : piece_at position (with_range from to given met) ≡ ((front orelse middle) orelse back) =
      at-append position (before from met ++ given) (after to met)
      ∙ ap (λ (o : Option Piece). o orelse back) (at-append position (before from met) given)
      in
      elim (some-orelse (front orelse middle) back (sym (ap is_some parts) ∙ there)) [
        | inr rest ↦ has_rest position rest
        | inl inside ↦ elim (some-orelse front middle inside) [
          | inl first ↦ has_met position (some-before from position met first)
          | inr second ↦ has_given position second
        ]
      ]

  pub range-few : (steps : List Step) → AreSteps met (with_range from to given met) steps
      → length steps ≤ pieces_meeting from to old + length given + 1
  range-few steps are =
      let most = few-steps met (with_range from to given met) steps are among has_met has_put in
      let long : length among ≡ length (positions met) + length (positions given ++ (to ∷ [])) =
      length-append (positions met) (positions given ++ (to ∷ []))
      in
      let back : length (positions given ++ (to ∷ [])) ≡ length (positions given) + 1 =
      length-append (positions given) (to ∷ [])
      in
      let mets : length (positions met) ≡ length met = length-map met (λ (piece : Piece). piece.position) in
      let givens : length (positions given) ≡ length given = length-map given (λ (piece : Piece). piece.position) in
      let count : length met ≡ pieces_meeting from to old =
      length-filter (λ (piece : Piece). nat_lt piece.position to && nat_lt from (piece_end piece)) old
      in
      omega (arith, most, long, back, mets, givens, count)

-- ---- a size

pub cut-few : (size : ℕ) (old : List Piece) (steps : List Step)
    → AreSteps (pieces_cut size old) (before size (pieces_cut size old)) steps
    → length steps ≤ pieces_past size old
cut-few size old steps are =
    let cut = pieces_cut size old in
    let most =
    few-steps cut (before size cut) steps are (positions cut) (λ position there. has-piece position cut there)
    (λ position there. has-piece position cut (some-before size position cut there))
    in
    let cuts : length (positions cut) ≡ length cut = length-map cut (λ (piece : Piece). piece.position) in
    let count : length cut ≡ pieces_past size old =
    length-filter (λ (piece : Piece). nat_lt size (piece_end piece)) old
    in
    omega (arith, most, cuts, count)
