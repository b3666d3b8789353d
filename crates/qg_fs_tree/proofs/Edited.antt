-- Trees that stand, the one at hand edited: what its book was told leaves them standing.
use Rattle.std.proofs.Common.{◌≡◌, ℕ, ◌+◌, ◌*◌, ◌<◌, ◌≤◌, true, List, Option, None, arith, sym, ap, subst, ◌∙◌, inl}
use Rattle.std.proofs.Common.{inr}
use Rattle.std.specs.Prelude.{◌⊎◌, ◌||◌, IsTrue, nat_lt}
use Rattle.std.specs.List.{All, filter_map, sum_by}
use Rattle.qg_device.specs.History.{History}
use Rattle.qg_num.specs.declared.piece.Piece.{Piece}
use Rattle.qg_node.specs.declared.item.Item.{Item}
use Rattle.qg_items.specs.declared.extent.Reference.{Reference}
use Rattle.qg_super.specs.declared.sizes.Sizes.{Sizes}
use Rattle.qg_super.specs.Places.{capacity, is_slot}
use Rattle.qg_image.specs.State.{Placed}
use Rattle.qg_image.specs.declared.tree.TreeKind.TheVariants.{Files}
use Rattle.qg_space.specs.Holding.{has_slot, is_free_slot}
use Rattle.qg_space.proofs.Free.{free_is_slot}
use Rattle.qg_space.proofs.Marks.{SlotsFit-is_served}
use Rattle.qg_tree_edits.specs.Land.{IsDrafted, Rests}
use Rattle.qg_tree_edits.specs.Tellings.{Telling}
use Rattle.qg_extents.specs.Table.{IsTable}
use Rattle.qg_tree_edits.specs.Counting.{IsAsWas, IsBare, Turns, clean_at, copied_in, gains, made_in}
use Rattle.qg_tree_edits.specs.Rooting.{IsReplaced}
use Rattle.qg_tree_backrefs.specs.Following.{Follows}
use Rattle.qg_tree_backrefs.specs.Settled.{IsSettled}
use Rattle.qg_fs_tree.specs.declared.fs_tree.FsTree.{FsTree}
use Rattle.qg_tree_backrefs.specs.Heavier.{BookGetsHeavier, edit_bytes, telling_bytes}
use Rattle.qg_tree_backrefs.proofs.Sums.{BookGetsHeavier-most}
use Rattle.qg_tree_backrefs.proofs.RecordsFollowed.{BookGetsHeavier-followed}
use Rattle.qg_fs_tree.specs.Standing.{IsEditedTo, IsReached, Stands, every_slot, made_slots, name_told, names_times}
use Rattle.qg_fs_tree.specs.Standing.{own_slots}
use Rattle.qg_fs_tree.proofs.After.{AreOwned, Stands-after, beside-kept, marks-kept}
use Rattle.qg_fs_tree.proofs.Before.{first_tree, once, placed, single}
use Rattle.qg_fs_tree.proofs.Beside.{around_of, elsewhere, foreign_in, own_ways, slots_of}
use Rattle.qg_fs_tree.proofs.Exchanged.{StandsFor-followed, StaysBook-followed}
use Rattle.qg_fs_tree.proofs.Few.{own-ways, turns-few}
use Rattle.qg_fs_tree.proofs.Fixed.{StandsFor-before, fixed}
use Rattle.qg_fs_tree.proofs.Heavier.{clean-room, tellings-bytes}
use Rattle.qg_fs_tree.proofs.Made.{made-few}
use Rattle.qg_fs_tree.proofs.SlotSums.{IsOnce, over}
use Rattle.qg_fs_tree.proofs.Taken.{has-led, led-slot}
use Rattle.qg_fs_tree.proofs.Turned.{AreTrueTo, Around, StandsFor}

-- what a book was told of a tree
pub record IsToldOf (old new : FsTree) (history : History) (names : List (ℕ × Piece))
    (tellings : List Telling) : Type 0 where
  pub turns : Turns (own_ways old history) tellings (own_ways new history)
  pub new_there : (q : ℕ) → 0 < sum_by (λ telling. gains telling q) tellings → IsTrue (is_free_slot old.land.space q)
      ⊎ IsReached old history q
  pub bare : All IsBare tellings
  pub truth : AreTrueTo (around_of old history names) (own_ways old history) tellings
  pub as_was : All (IsAsWas (clean_at old.land history)) tellings
  pub few_come : sum_by copied_in tellings + sum_by made_in tellings ≤ 2 * old.tree.height + 3
  pub few_made : sum_by made_in tellings ≤ old.tree.height + 2

module _ (old new : FsTree) (history : History) (items left_items : List Item) (names : List (ℕ × Piece))
    (tellings : List Telling)
    (stands : Stands old history items names) (drafted : IsDrafted old.land old.tree.next)
    (table : IsTable old.refs.refs)
    (told : IsToldOf old new history names tellings) (follows : Follows old.refs tellings new.refs) where
  abbrev around : Around
  around = around_of old history names

  abbrev IsSlot : ℕ → Type 0
  IsSlot at = IsTrue (is_slot old.land.space.sizes at)

  place_there : (q : ℕ) → 0 < sum_by (λ telling. gains telling q) tellings → IsTrue (is_slot old.land.space.sizes q)
  place_there q some = elim (told.new_there q some) [
    | inl free ↦ free_is_slot old.land.space q free
    | inr reaches ↦ stands.placed old.tree q (first_tree old history items names stands drafted) reaches
  ]

  followed : (foreign : ℕ → Option Placed) × StandsFor around IsSlot new.refs (own_ways new history) foreign
  followed = StandsFor-followed around IsSlot (fixed old history items names stands drafted) tellings old.refs new.refs
      (own_ways old history) (own_ways new history) (foreign_in old history)
      (StandsFor-before old history items names stands drafted table) told.turns told.bare told.truth place_there
      follows

  -- no misfit was met
  pub fits-after : new.refs.misfit ≡ None
  fits-after = followed.1.fits

  -- no more comes than with the nodes that do
  heavier_after : IsTable new.refs.refs
      → BookGetsHeavier old.refs new.refs (edit_bytes old.land.space.sizes.nodesize old.tree.height)
  heavier_after later =
      let nodesize = old.land.space.sizes.nodesize in
      let most = tellings-bytes (capacity nodesize) (clean_at old.land history)
      (clean-room old.land history old.tree.next drafted) tellings old.tree.height told.as_was told.bare told.few_come
      in
      BookGetsHeavier-most old.refs new.refs (sum_by telling_bytes tellings) (edit_bytes nodesize old.tree.height) most
      (BookGetsHeavier-followed old.refs new.refs tellings table later follows fits-after)

  module _ (replaced : IsReplaced Files old.tree new.tree old.land new.land history left_items)
      (rests : Rests old.land new.land history old.tree.next) (trees : new.others ≡ old.others)
      (same_owner : new.tree.owner ≡ old.tree.owner) (same_next : new.tree.next ≡ old.tree.next)
      (owned : AreOwned new history old.tree.owner)
      (runs : new.land.space.runs ≡ old.land.space.runs) (settled : IsSettled new.refs new.land history)
      (within : (at : ℕ) (reference : Reference)
      → names_times old.tree.owner (filter_map name_told left_items) at reference
      ≤ names_times old.tree.owner names at reference) where
    stands_after : Stands new history left_items names
    stands_after = Stands-after old new history items left_items names stands drafted table replaced rests trees
        same_owner same_next owned settled (StaysBook-followed tellings old.refs new.refs follows) followed.0 followed.1
        runs within

    -- a slot is taken where a way or another tree leads
    has_after : (at : ℕ) → is_slot new.land.space.sizes at ≡ true → has_slot new.land.space at
        ≡ (nat_lt 0 (own_ways new history at) || elsewhere old history at)
    has_after at slot =
        settled.slots at slot
        ∙ led-slot old history items names stands drafted new.refs (own_ways new history) followed.0 followed.1 at
        (subst (λ (s : Sizes). is_slot s at ≡ true) rests.sizes slot)

    -- a slot that was not taken before is one of a node that came
    made_after : made_slots old.land.space new.land.space + 1 ≤ 2 * (old.tree.height + 2)
    made_after =
        let some = (SlotsFit-is_served old.land.space.sizes drafted.sizes.served).some in
        let some_new = subst (λ (s : Sizes). 0 < s.nodesize) (sym rests.sizes) some in
        let made = made-few old.land.space new.land.space (own_ways old history) (own_ways new history) tellings
        some_new (elsewhere old history)
        (λ at is. has-led old history items names stands drafted table at
        (subst (λ (s : Sizes). is_slot s at ≡ true) rests.sizes is)) has_after told.turns
        IsSlot
        (λ at is. subst (λ (s : Sizes). IsOnce (every_slot s) at) (sym rests.sizes)
        (once old history items names stands drafted at is)) place_there in
        let few = told.few_come in
        omega (arith, made, few)

    -- and the tree at hand reaches no more than it did, and nodes were made
    few_after : own_slots new history ≤ own_slots old history + (old.tree.height + 2)
    few_after =
        let now = own-ways new history followed.1.single in
        let was = own-ways old history (single old history items names stands drafted) in
        let same = ap (λ (s : Sizes). over (every_slot s) (own_ways new history) (λ (q : ℕ). 1)) rests.sizes in
        let turned = turns-few (slots_of old) IsSlot (once old history items names stands drafted) tellings
        (own_ways old history) (own_ways new history) (placed old history items names stands drafted) place_there
        told.turns in
        let few = told.few_made in
        omega (arith, now, was, same, turned, few)

    pub IsEditedTo-told : IsTable new.refs.refs → IsEditedTo old new history left_items names (old.tree.height + 2)
    IsEditedTo-told later = record {
      stands = stands_after;
      moves = record {
        trees = trees;
        reach = replaced.reach;
        others = replaced.others;
        beside = beside-kept old new history items left_items names stands drafted table replaced rests trees same_owner
            same_next owned settled (StaysBook-followed tellings old.refs new.refs follows) followed.0 followed.1;
        freed = replaced.freed;
        marks = marks-kept old new history items left_items names stands drafted table replaced rests trees same_owner
            same_next owned settled (StaysBook-followed tellings old.refs new.refs follows) followed.0 followed.1;
      };
      made = made_after;
      few = few_after;
      heavier = heavier_after later;
    }
