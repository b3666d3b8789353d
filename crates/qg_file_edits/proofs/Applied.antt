-- Steps on the items of files, one after the other: what they leave under each key.
use Rattle.std.proofs.Common.{◌≡◌, ℕ, ◌+◌, ◌<◌, true, false, List, [], ◌∷◌, map, Some, None, refl, sym, ap, subst, ◌∙◌}
use Rattle.std.proofs.Common.{arith, inl, inr}
use Rattle.std.specs.Prelude.{Bool, Option, IsSome, ◌==◌, ◌&&◌, is_some, not, if◌then◌else◌}
use Rattle.std.specs.Option.{option_map}
use Rattle.std.specs.Ordering.{is_lt, nat_cmp}
use Rattle.std.specs.Cmp.{nat_cmp_is}
use Rattle.std.specs.declared.cmp.Ordering.TheVariants.{Less, Equal}
use Rattle.std.proofs.lemmas.Bool.{and_from, cases_Bool, cases_eq, eq-eqb, ne_eqb}
use Rattle.qg_num.specs.declared.key.Key.{Key}
use Rattle.qg_num.specs.declared.piece.Piece.{Piece}
use Rattle.qg_num.specs.Key.{key_cmp}
use Rattle.qg_node.specs.declared.item.Item.{Item}
use Rattle.qg_node.specs.Nodes.{ascends_from, is_ascending}
use Rattle.qg_image.specs.IsShaped.{same_key}
use Rattle.qg_image.specs.ItemMeaning.{◌orelse◌}
use Rattle.qg_tree_items.specs.Keys.{key_with}
use Rattle.qg_root_items.specs.Written.{item_of_piece}
use Rattle.qg_edit.proofs.Lists.{keys_of}
use Rattle.qg_tree_read.specs.Reading.{body_at}
use Rattle.qg_inodes.specs.Bodies.{Ascend, piece_at, piece_body}
use Rattle.qg_inodes.specs.FileEdits.{with_items, without_items}
use Rattle.qg_inodes.proofs.EditedItems.{ascending-with_item, ascending-without_key, body-with_item, body-without_key}
use Rattle.qg_inodes.proofs.FileBodies.{pieces_other, pieces_own}
use Rattle.qg_inodes.proofs.Sequences.{ascending-with_items, ascending-without_items, body-with_items}
use Rattle.qg_inodes.proofs.Sequences.{body-without_items}
use Rattle.qg_inodes.proofs.BodiesByKey.{has-body, same-bodies}
use Rattle.qg_file_edits.specs.declared.step.Step.{Step}
use Rattle.qg_file_edits.specs.declared.step.Step.TheVariants.{Remove, Insert, Replace}
use Rattle.qg_file_edits.specs.Steps.{AreSteps, AscendByPosition, position_of, step_at, step_for}
use Rattle.qg_file_edits.specs.Applying.{Applies, CanApply, CanExchange, MakesExchange, after_step, after_steps, key_at}
use Rattle.qg_file_edits.proofs.Ascending.{AscendFrom, AscendFrom-increasing}
use Rattle.qg_file_edits.proofs.Positions.{no_step-in_front, positions, positions_of, step-here, step-later}

-- ---- the items of pieces whose positions ascend

module _ (ino : ℕ) where
  by_position : (from to : ℕ) → from < to → is_lt (key_cmp (key_at ino from) (key_at ino to)) ≡ true
  by_position from to less =
      let same : nat_cmp ino ino ≡ Equal = sym (nat_cmp_is ino ino Equal refl) in
      let before : nat_cmp from to ≡ Less = sym (nat_cmp_is from to Less less) in
      rw (same, before) refl

  pieces_follow : (at : ℕ) (pieces : List Piece) → AscendFrom (at + 1) (positions pieces)
      → ascends_from (key_at ino at) (keys_of (map (item_of_piece ino) pieces)) ≡ true
  unfolding ascends_from AscendFrom
  pieces_follow at [] ascend = refl
  pieces_follow at (piece ∷ pieces) ascend =
      and_from (is_lt (key_cmp (key_at ino at) (key_at ino piece.position)))
      (ascends_from (key_at ino piece.position) (keys_of (map (item_of_piece ino) pieces)))
      (by_position at piece.position (omega (arith, ascend.0))) (pieces_follow piece.position pieces ascend.1)

  pieces_ascend : (from : ℕ) (pieces : List Piece) → AscendFrom from (positions pieces)
      → Ascend (map (item_of_piece ino) pieces)
  unfolding is_ascending AscendFrom
  pieces_ascend from [] ascend = refl
  pieces_ascend from (piece ∷ pieces) ascend = pieces_follow piece.position pieces ascend.1

  pub items-ascend : (pieces : List Piece) → AscendByPosition pieces → Ascend (map (item_of_piece ino) pieces)
  items-ascend pieces up = pieces_ascend 0 pieces (AscendFrom-increasing (positions pieces) up)

-- ---- one step

-- what a step leaves under its key
abbrev body_of : Step → Option (List ℕ)
body_of (Remove position) = None
body_of (Insert piece) = Some (piece_body piece)
body_of (Replace piece) = Some (piece_body piece)

-- and where there may be none, what was there
abbrev left_by : Option Step → Option (List ℕ) → Option (List ℕ)
left_by None body = body
left_by (Some step) body = body_of step

module _ (ino : ℕ) where
  body_after : (step : Step) (items : List Item) (key : Key)
      → body_at key (after_step ino step items)
      ≡ (if same_key (key_at ino (position_of step)) key then body_of step else body_at key items)
  body_after (Remove position) items key = body-without_key (key_at ino position) items key
  body_after (Insert piece) items key = body-with_item (item_of_piece ino piece) items key
  body_after (Replace piece) items key = body-with_item (item_of_piece ino piece) items key

  ascending_after : (step : Step) (items : List Item) → Ascend items → Ascend (after_step ino step items)
  ascending_after (Remove position) items ascending = ascending-without_key (key_at ino position) items ascending
  ascending_after (Insert piece) items ascending = ascending-with_item (item_of_piece ino piece) items ascending
  ascending_after (Replace piece) items ascending = ascending-with_item (item_of_piece ino piece) items ascending

  ascending_all : (steps : List Step) (items : List Item) → Ascend items → Ascend (after_steps ino steps items)
  ascending_all [] items ascending = ascending
  ascending_all (step ∷ steps) items ascending =
      ascending_all steps (after_step ino step items) (ascending_after step items ascending)

  -- ---- under a key that is none of a piece of the file

  module _ (key : Key) (other : ((ino == key.objectid) && (108 == key.kind)) ≡ false) where
    differs : (position : ℕ) → same_key (key_at ino position) key ≡ false
    differs position = ap (λ (b : Bool). b && (position == key.offset)) other

    step_other : (step : Step) (items : List Item) → body_at key (after_step ino step items) ≡ body_at key items
    step_other step items =
        body_after step items key
        ∙ ap (λ (b : Bool). if b then body_of step else body_at key items) (differs (position_of step))

    steps_other : (steps : List Step) (items : List Item)
        → body_at key (after_steps ino steps items) ≡ body_at key items
    steps_other [] items = refl
    steps_other (step ∷ steps) items = steps_other steps (after_step ino step items) ∙ step_other step items

  -- ---- under one that is

  module _ (key : Key) (own : ((ino == key.objectid) && (108 == key.kind)) ≡ true) where
    is_here : (position : ℕ) → same_key (key_at ino position) key ≡ (position == key.offset)
    is_here position = ap (λ (b : Bool). b && (position == key.offset)) own

    step_here : (step : Step) (items : List Item) → position_of step ≡ key.offset
        → body_at key (after_step ino step items) ≡ body_of step
    step_here step items same =
        body_after step items key
        ∙ ap (λ (b : Bool). if b then body_of step else body_at key items)
        (is_here (position_of step) ∙ eq-eqb (position_of step) key.offset same)

    step_there : (step : Step) (items : List Item) → (position_of step ≡ key.offset → ⊥)
        → body_at key (after_step ino step items) ≡ body_at key items
    step_there step items differ =
        body_after step items key
        ∙ ap (λ (b : Bool). if b then body_of step else body_at key items)
        (is_here (position_of step) ∙ ne_eqb (position_of step) key.offset differ)

    steps_own : (from : ℕ) (steps : List Step) (items : List Item) → AscendFrom from (positions_of steps)
        → body_at key (after_steps ino steps items) ≡ left_by (step_at key.offset steps) (body_at key items)
    unfolding AscendFrom
    steps_own from [] items ascend = refl
    steps_own from (step ∷ steps) items ascend =
        let now = after_step ino step items in
        let later = steps_own (position_of step + 1) steps now ascend.1 in
        elim (cases_eq (position_of step) key.offset) [
          | inl same ↦
              let none =
              no_step-in_front (position_of step + 1) key.offset steps ascend.1 (omega (arith, same))
              in
              later
              ∙ ap (λ (o : Option Step). left_by o (body_at key now)) none
              ∙ step_here step items same
              ∙ sym (ap (λ (o : Option Step). left_by o (body_at key items)) (step-here key.offset step steps same))
          | inr differ ↦
              later
              ∙ ap (λ (o : Option (List ℕ)). left_by (step_at key.offset steps) o) (step_there step items differ)
              ∙ sym (ap (λ (o : Option Step). left_by o (body_at key items))
              (step-later key.offset step steps differ))
        ]

  own_key : (position : ℕ) → ((ino == (key_at ino position).objectid) && (108 == (key_at ino position).kind)) ≡ true
  own_key position = rw (eq-eqb ino ino refl) refl

-- ---- the steps can be made

-- what a step finds under its key
abbrev Finds : Step → Option (List ℕ) → Type 0
Finds (Remove position) there = IsSome there
Finds (Insert piece) there = there ≡ None
Finds (Replace piece) there = IsSome there

module _ (ino : ℕ) where
  -- each step finds what it relies on
  abbrev AllFind : List Step → List Item → Type 0
  AllFind steps items = (position : ℕ) (step : Step) → ◌≡◌ (step_at position steps) (Some step)
      → Finds step (body_at (key_at ino position) items)

  can_apply : (step : Step) (items : List Item) → Finds step (body_at (key_at ino (position_of step)) items)
      → CanApply ino step items
  can_apply (Remove position) items finds = has-body (key_at ino position) items ∙ finds
  can_apply (Insert piece) items finds =
      ap not (has-body (key_at ino piece.position) items)
      ∙ ap (λ (o : Option (List ℕ)). not (is_some o)) finds
  can_apply (Replace piece) items finds = has-body (key_at ino piece.position) items ∙ finds

  -- later steps find what they found before the first
  find_later : (step : Step) (steps : List Step) (items : List Item)
      → AscendFrom (position_of step + 1) (positions_of steps) → AllFind (step ∷ steps) items
      → AllFind steps (after_step ino step items)
  find_later step steps items ascend find position other is = elim (cases_eq (position_of step) position) [
    | inl same ↦
        let none = no_step-in_front (position_of step + 1) position steps ascend (omega (arith, same)) in
        let never : ◌≡◌ None (Some other) = sym none ∙ is in
        absurd cc
    | inr differ ↦
        let there = find position other (step-later position step steps differ ∙ is) in
        subst (Finds other) (sym (step_there ino (key_at ino position) (own_key ino position) step items differ)) there
  ]

  applies-from : (from : ℕ) (steps : List Step) (items : List Item) → AscendFrom from (positions_of steps)
      → AllFind steps items → Applies ino steps items
  unfolding AscendFrom
  applies-from from [] items ascend find = tt
  applies-from from (step ∷ steps) items ascend find =
      let at = position_of step in
      let now = can_apply step items (find at step (step-here at step steps refl)) in
      let later =
      applies-from (at + 1) steps (after_step ino step items) ascend.1 (find_later step steps items ascend.1 find)
      in
      (now, later)

-- ---- the exchange

-- the body that the step of a position leaves, by what goes and what comes
left_by_step : (position : ℕ) (gone put : Option Piece) (old : Option (List ℕ))
    → left_by (step_for position gone put) old
    ≡ (option_map piece_body put orelse (if is_some (option_map piece_body gone) then None else old))
left_by_step position None None old = refl
left_by_step position None (Some new) old = refl
left_by_step position (Some piece) None old = refl
left_by_step position (Some piece) (Some new) old = refl

module _ (ino : ℕ) (gone put : List Piece) (steps : List Step) (items : List Item)
    (can : CanExchange ino gone put items) (are : AreSteps gone put steps) where
  ascend : AscendFrom 0 (positions_of steps)
  ascend = AscendFrom-increasing (positions_of steps) are.ascending

  -- each step finds what it relies on, by what goes and what comes at its position
  finds_for : (position : ℕ) (step : Step) (out new : Option Piece) → piece_at position gone ≡ out
      → piece_at position put ≡ new → ◌≡◌ (step_for position out new) (Some step)
      → Finds step (body_at (key_at ino position) items)
  finds_for position step None None out_is new_is is = absurd cc
  finds_for position step None (Some new) out_is new_is is =
      let same : Insert new ≡ step = cc in
      subst (λ (s : Step). Finds s (body_at (key_at ino position) items)) same
      (can.free position (ap is_some new_is) out_is)
  finds_for position step (Some out) None out_is new_is is =
      let same : Remove position ≡ step = cc in
      subst (λ (s : Step). Finds s (body_at (key_at ino position) items)) same (can.there position (ap is_some out_is))
  finds_for position step (Some out) (Some new) out_is new_is is =
      let same : Replace new ≡ step = cc in
      subst (λ (s : Step). Finds s (body_at (key_at ino position) items)) same (can.there position (ap is_some out_is))

  all_find : AllFind ino steps items
  all_find position step is =
      finds_for position step (piece_at position gone) (piece_at position put) refl refl
      (sym (are.wanted position) ∙ is)

  -- what is there once all is taken out, and all put in
  abbrev put_items : List Item
  put_items = map (item_of_piece ino) put

  abbrev gone_items : List Item
  gone_items = map (item_of_piece ino) gone

  abbrev exchanged : List Item
  exchanged = with_items put_items (without_items gone_items items)

  body_exchanged : (key : Key) → body_at key exchanged
      ≡ (body_at key put_items orelse (if is_some (body_at key gone_items) then None else body_at key items))
  body_exchanged key =
      body-with_items put_items (without_items gone_items items) key (items-ascend ino put can.put_ascend)
      ∙ ap (λ (o : Option (List ℕ)). body_at key put_items orelse o) (body-without_items gone_items items key)

  -- under a key of a piece of the file
  same_own : (key : Key) → ((ino == key.objectid) && (108 == key.kind)) ≡ true
      → body_at key (after_steps ino steps items) ≡ body_at key exchanged
  same_own key own =
      let at = key.offset in
      let old = body_at key items in
      let both =
      left_by_step at (piece_at at gone) (piece_at at put) old
      in
      let parts : (body_at key put_items orelse (if is_some (body_at key gone_items) then None else old))
      ≡ (option_map piece_body (piece_at at put)
      orelse (if is_some (option_map piece_body (piece_at at gone)) then None else old)) =
      rw (pieces_own ino put key own, pieces_own ino gone key own) refl
      in
      steps_own ino key own 0 steps items ascend
      ∙ ap (λ (o : Option Step). left_by o old) (are.wanted at)
      ∙ both ∙ sym (body_exchanged key ∙ parts)

  -- and under any other
  same_other : (key : Key) → ((ino == key.objectid) && (108 == key.kind)) ≡ false
      → body_at key (after_steps ino steps items) ≡ body_at key exchanged
  same_other key other =
      let parts : (body_at key put_items orelse (if is_some (body_at key gone_items) then None else body_at key items))
      ≡ body_at key items =
      rw (pieces_other ino put key other, pieces_other ino gone key other) refl
      in
      steps_other ino key other steps items ∙ sym (body_exchanged key ∙ parts)

  same_body : (key : Key) → body_at key (after_steps ino steps items) ≡ body_at key exchanged
  same_body key = elim (cases_Bool ((ino == key.objectid) && (108 == key.kind))) [
    | inl own ↦ same_own key own
    | inr other ↦ same_other key other
  ]

  -- the INODE_ITEM's key is none of a piece
  no_piece : ((ino == (key_with ino 1 0).objectid) && (108 == (key_with ino 1 0).kind)) ≡ false
  no_piece = rw (eq-eqb ino ino refl) refl

  pub makes-exchange : MakesExchange ino gone put steps items
  makes-exchange =
      let ascending = ascending_all ino steps items can.ascending in
      let exchanged_ascend =
      ascending-with_items put_items (without_items gone_items items)
      (ascending-without_items gone_items items can.ascending)
      in
      record {
        applies = applies-from ino 0 steps items ascend all_find;
        made = same-bodies (after_steps ino steps items) exchanged ascending exchanged_ascend same_body;
        ascending = ascending;
        inode = steps_other ino (key_with ino 1 0) no_piece steps items;
      }
