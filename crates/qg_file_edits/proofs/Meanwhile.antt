-- What items tell while steps are made on them: no more pieces than before, and those that are put in.
use Rattle.std.proofs.Common.{◌≡◌, ℕ, zero, suc, ◌+◌, ◌<◌, ◌≤◌, Bool, true, false, List, [], ◌∷◌, take, Option, Some}
use Rattle.std.proofs.Common.{None, arith, refl, sym, ap, ◌∙◌, inl, inr}
use Rattle.std.specs.Prelude.{⊤, nat_le, not, if◌then◌else◌}
use Rattle.std.specs.List.{AllByRecursion, cons_option, filter_map}
use Rattle.std.specs.Ordering.{is_lt}
use Rattle.std.proofs.lemmas.Bool.{cases_eq, cases_lt, le-leb, lt-leb}
use Rattle.std.proofs.lemmas.List.Elements.{recursion_from_All}
use Rattle.std.proofs.lemmas.Option.{same_Some}
use Rattle.qg_num.specs.Key.{key_cmp}
use Rattle.qg_num.specs.declared.key.Key.{Key}
use Rattle.qg_num.specs.declared.piece.Piece.{Piece}
use Rattle.qg_node.specs.declared.item.Item.{Item}
use Rattle.qg_items.specs.declared.extent.Reference.{Reference}
use Rattle.qg_image.specs.IsShaped.{same_key}
use Rattle.qg_root_items.specs.Written.{item_of_piece}
use Rattle.qg_edit.specs.Edits.{with_item, without_key}
use Rattle.qg_shared_trees.proofs.Times.{times-nil}
use Rattle.qg_shared_trees.specs.Standing.{name_told, names_times}
use Rattle.qg_shared_trees.proofs.Owned.{names-fewer}
use Rattle.qg_file_edits.specs.Bodies.{piece_at}
use Rattle.qg_file_edits.proofs.PiecesByPosition.{at-here, at-later}
use Rattle.qg_file_edits.specs.declared.step.Step.{Step}
use Rattle.qg_file_edits.specs.declared.step.Step.TheVariants.{Remove, Insert, Replace}
use Rattle.qg_file_edits.specs.Applying.{after_step, after_steps, key_at}
use Rattle.qg_file_edits.specs.Named.{names_of}
use Rattle.qg_file_edits.specs.Steps.{AreSteps, position_of, step_at, step_for}
use Rattle.qg_file_edits.proofs.Ascending.{AscendFrom, AscendFrom-increasing}
use Rattle.qg_file_edits.proofs.NameCounts.{names-add}
use Rattle.qg_file_edits.proofs.Positions.{positions_of, step-here, step-later}
use Rattle.qg_file_edits.specs.declared.exchange.Exchange.{Exchange}
use Rattle.qg_file_edits.specs.Exchanging.{AreCoveredThroughout, CoversExchange}

-- ---- which pieces steps put in

-- a piece that a step puts in is one of those that come
abbrev IsPut : List Piece → Step → Type 0
IsPut put (Remove position) = ⊤
IsPut put (Insert piece) = piece_at piece.position put ≡ Some piece
IsPut put (Replace piece) = piece_at piece.position put ≡ Some piece

inserted_is : (position : ℕ) (piece : Piece) (old new : Option Piece) → Some (Insert piece) ≡ step_for position old new
    → new ≡ Some piece
inserted_is position piece None None is = absurd cc
inserted_is position piece None (Some put) is = cc
inserted_is position piece (Some gone) None is = absurd cc
inserted_is position piece (Some gone) (Some put) is = absurd cc

replaced_is : (position : ℕ) (piece : Piece) (old new : Option Piece)
    → Some (Replace piece) ≡ step_for position old new → new ≡ Some piece
replaced_is position piece None None is = absurd cc
replaced_is position piece None (Some put) is = absurd cc
replaced_is position piece (Some gone) None is = absurd cc
replaced_is position piece (Some gone) (Some put) is = cc

one_put : (step : Step) (old : Option Piece) (put : List Piece)
    → Some step ≡ step_for (position_of step) old (piece_at (position_of step) put) → IsPut put step
one_put (Remove position) old put is = tt
one_put (Insert piece) old put is =
    inserted_is piece.position piece old (piece_at piece.position put) is
one_put (Replace piece) old put is =
    replaced_is piece.position piece old (piece_at piece.position put) is

are_put : (from : ℕ) (gone put : List Piece) (steps : List Step) → AscendFrom from (positions_of steps)
    → ((position : ℕ) → from ≤ position
    → step_at position steps ≡ step_for position (piece_at position gone) (piece_at position put))
    → AllByRecursion (IsPut put) steps
unfolding AscendFrom
are_put from gone put [] ascend wanted = tt
are_put from gone put (step ∷ steps) ascend wanted = (
  one_put step (piece_at (position_of step) gone) put
      (sym (step-here (position_of step) step steps refl) ∙ wanted (position_of step) ascend.0),
  are_put (position_of step + 1) gone put steps ascend.1
      (λ position high.
      sym (step-later position step steps (λ same. omega (arith, high, same)))
      ∙ wanted position (omega (arith, ascend.0, high))),
)

-- ---- sums over pieces that come

module _ (w : Piece → ℕ) where
  abbrev all_of : List Piece → ℕ
  all_of [] = 0
  all_of (piece ∷ pieces) = w piece + all_of pieces

  -- those from a position on
  abbrev above : ℕ → List Piece → ℕ
  above from [] = 0
  above from (piece ∷ pieces) = (if nat_le from piece.position then w piece else 0) + above from pieces

  -- those that steps put in
  abbrev brings : Step → ℕ
  brings (Remove position) = 0
  brings (Insert piece) = w piece
  brings (Replace piece) = w piece

  abbrev bring : List Step → ℕ
  bring [] = 0
  bring (step ∷ steps) = brings step + bring steps

  above_at : (from : ℕ) (piece : Piece) (pieces : List Piece) → from ≤ piece.position
      → above from (piece ∷ pieces) ≡ w piece + above from pieces
  above_at from piece pieces is =
      ap (λ (b : Bool). (if b then w piece else 0) + above from pieces) (le-leb from piece.position is)

  above_below : (from : ℕ) (piece : Piece) (pieces : List Piece) → piece.position < from
      → above from (piece ∷ pieces) ≡ above from pieces
  above_below from piece pieces less =
      let none : above from (piece ∷ pieces) ≡ 0 + above from pieces =
      ap (λ (b : Bool). (if b then w piece else 0) + above from pieces) (lt-leb from piece.position less) in
      omega (arith, none)

  above_all : (from : ℕ) (pieces : List Piece) → above from pieces ≤ all_of pieces
  above_all from [] = omega arith
  above_all from (piece ∷ pieces) =
      let later = above_all from pieces in
      elim (cases_lt piece.position from) [
        | inl less ↦ let e = above_below from piece pieces less in omega (arith, later, e)
        | inr is ↦ let e = above_at from piece pieces is in omega (arith, later, e)
      ]

  above_less : (n from : ℕ) (pieces : List Piece) → from ≤ n → above (n + 1) pieces ≤ above from pieces
  above_less n from [] low = omega arith
  above_less n from (piece ∷ pieces) low =
      let later = above_less n from pieces low in
      elim (cases_lt piece.position (n + 1)) [
        | inl less ↦
            let e = above_below (n + 1) piece pieces less in
            elim (cases_lt piece.position from) [
              | inl below ↦ let f = above_below from piece pieces below in omega (arith, later, e, f)
              | inr is ↦ let f = above_at from piece pieces is in omega (arith, later, e, f)
            ]
        | inr is ↦
            let e = above_at (n + 1) piece pieces is in
            let f = above_at from piece pieces (omega (arith, is, low)) in
            omega (arith, later, e, f)
      ]

  above_one : (n from : ℕ) (piece : Piece) (pieces : List Piece) → from ≤ n → piece_at n pieces ≡ Some piece
      → above (n + 1) pieces + w piece ≤ above from pieces
  above_one n from piece [] low is = absurd cc
  above_one n from piece (other ∷ pieces) low is = elim (cases_eq other.position n) [
    | inl here ↦
        let same = ap w (same_Some other piece (sym (at-here n other pieces here) ∙ is)) in
        let later = above_less n from pieces low in
        let e = above_below (n + 1) other pieces (omega (arith, here)) in
        let f = above_at from other pieces (omega (arith, here, low)) in
        omega (arith, same, later, e, f)
    | inr differ ↦
        let later = above_one n from piece pieces low (sym (at-later n other pieces differ) ∙ is) in
        elim (cases_lt other.position (n + 1)) [
          | inl less ↦
              let e = above_below (n + 1) other pieces less in
              elim (cases_lt other.position from) [
                | inl below ↦ let f = above_below from other pieces below in omega (arith, later, e, f)
                | inr begins ↦ let f = above_at from other pieces begins in omega (arith, later, e, f)
              ]
          | inr past ↦
              let e = above_at (n + 1) other pieces past in
              let f = above_at from other pieces (omega (arith, past, low)) in
              omega (arith, later, e, f)
        ]
  ]

  step_few : (from : ℕ) (put : List Piece) (step : Step) → from ≤ position_of step → IsPut put step
      → above (position_of step + 1) put + brings step ≤ above from put
  step_few from put (Remove position) low is = let less = above_less position from put low in omega (arith, less)
  step_few from put (Insert piece) low is = above_one piece.position from piece put low is
  step_few from put (Replace piece) low is = above_one piece.position from piece put low is

  steps_few : (from : ℕ) (put : List Piece) (steps : List Step) → AscendFrom from (positions_of steps)
      → AllByRecursion (IsPut put) steps → bring steps ≤ above from put
  unfolding AscendFrom
  steps_few from put [] ascend all = omega arith
  steps_few from put (step ∷ steps) ascend all =
      let here = step_few from put step ascend.0 all.0 in
      let later = steps_few (position_of step + 1) put steps ascend.1 all.1 in
      omega (arith, here, later)

  front_brings : (count : ℕ) (steps : List Step) → bring (take count steps) ≤ bring steps
  front_brings zero steps = omega arith
  front_brings (suc count) [] = omega arith
  front_brings (suc count) (step ∷ steps) = let rest = front_brings count steps in omega (arith, rest)

  -- the first steps put in no more than what comes
  front_few : (gone put : List Piece) (steps : List Step) (count : ℕ) → AreSteps gone put steps
      → bring (take count steps) ≤ all_of put
  front_few gone put steps count are =
      let ascend = AscendFrom-increasing (positions_of steps) are.ascending in
      let all = are_put 0 gone put steps ascend (λ position low. are.wanted position) in
      let few = steps_few 0 put steps ascend all in
      let most = above_all 0 put in
      let front = front_brings count steps in
      omega (arith, few, most, front)

-- ---- what items tell

module _ (owner at : ℕ) (reference : Reference) where
  abbrev told : List Item → ℕ
  told items = names_times owner (filter_map name_told items) at reference

  none_told : names_times owner [] at reference ≡ 0
  none_told = times-nil at reference

  cons_names : (o : Option (ℕ × Piece)) (names : List (ℕ × Piece))
      → names_times owner (cons_option o names) at reference
      ≡ names_times owner (cons_option o []) at reference + names_times owner names at reference
  cons_names None names = let none = none_told in omega (arith, none)
  cons_names (Some name) names = names-add owner at reference (name ∷ []) names

  told_cons : (item : Item) (items : List Item) → told (item ∷ items) ≡ told (item ∷ []) + told items
  told_cons item items = cons_names (name_told item) (filter_map name_told items)

  with_told : (new : Item) (items : List Item) → told (with_item new items) ≤ told (new ∷ []) + told items
  with_told new [] = let none = none_told in omega (arith, none)
  with_told new (item ∷ items) =
      from (with_told new items) (is_lt (key_cmp item.key new.key)) (same_key item.key new.key) where
        from : told (with_item new items) ≤ told (new ∷ []) + told items → (before same : Bool)
            → told (if before then item ∷ with_item new items
            else (if same then new ∷ items else new ∷ item ∷ items))
            ≤ told (new ∷ []) + told (item ∷ items)
        from rest true same =
            let both = told_cons item (with_item new items) in
            let all = told_cons item items in
            omega (arith, rest, both, all)
        from rest false true =
            let both = told_cons new items in
            let all = told_cons item items in
            omega (arith, both, all)
        from rest false false = let both = told_cons new (item ∷ items) in omega (arith, both)

  without_told : (key : Key) (items : List Item) → told (without_key key items) ≤ told items
  without_told key items = names-fewer owner (λ item. not (same_key item.key key)) items at reference

  module _ (ino : ℕ) where
    -- what the item of a piece tells
    abbrev tells : Piece → ℕ
    tells piece = told (item_of_piece ino piece ∷ [])

    step_told : (step : Step) (items : List Item)
        → told (after_step ino step items) ≤ told items + brings (λ piece. tells piece) step
    step_told (Remove position) items =
        let less = without_told (key_at ino position) items in omega (arith, less)
    step_told (Insert piece) items = let more = with_told (item_of_piece ino piece) items in omega (arith, more)
    step_told (Replace piece) items = let more = with_told (item_of_piece ino piece) items in omega (arith, more)

    steps_told : (steps : List Step) (items : List Item)
        → told (after_steps ino steps items) ≤ told items + bring (λ piece. tells piece) steps
    steps_told [] items = omega arith
    steps_told (step ∷ steps) items =
        let here = step_told step items in
        let rest = steps_told steps (after_step ino step items) in
        omega (arith, here, rest)

    -- the items of pieces that come tell these
    all_tell : (pieces : List Piece)
        → AllByRecursion (λ piece. name_told (item_of_piece ino piece) ≡ Some (ino, piece)) pieces
        → all_of (λ piece. tells piece) pieces ≡ names_times owner (names_of ino pieces) at reference
    all_tell [] tell = sym none_told
    all_tell (piece ∷ pieces) tell =
        let here = ap (λ (o : Option (ℕ × Piece)). names_times owner (cons_option o []) at reference) tell.0 in
        let rest = all_tell pieces tell.1 in
        let both = names-add owner at reference ((ino, piece) ∷ []) (names_of ino pieces) in
        omega (arith, here, rest, both)

-- what is named before an exchange, and besides, covers what the items tell after each step of it
pub covered-throughout : (owner ino : ℕ) (change : Exchange) (steps : List Step) (items : List Item)
    (names : List (ℕ × Piece)) → AreSteps change.gone change.put steps → CoversExchange owner ino change items names
    → AreCoveredThroughout owner ino steps items names
covered-throughout owner ino change steps items names are covers count at reference =
    let some = steps_told owner at reference ino (take count steps) items in
    let few = front_few (λ piece. tells owner at reference ino piece) change.gone change.put steps count are in
    let tell = all_tell owner at reference ino change.put
    (recursion_from_All (λ (piece : Piece). name_told (item_of_piece ino piece) ≡ Some (ino, piece)) change.put
    covers.tell) in
    let both = names-add owner at reference (names_of ino change.put) (filter_map name_told items) in
    let most = covers.besides at reference in
    omega (arith, some, few, tell, both, most)
