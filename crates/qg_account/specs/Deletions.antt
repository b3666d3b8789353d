-- What a deletion changes of who reaches what (btrfs-subvolume(8), "delete"; the form is this project's own).
use Rattle.std.specs.Prelude.{◌≡◌, ℕ, not, List, map, ◌==◌}
use Rattle.std.specs.List.{Contains, filter}
use Rattle.qg_image.specs.Table.{keys_of}
use Rattle.qg_image.specs.declared.element.Element.{Element}
use Rattle.qg_image.specs.State.{Layout}
use Rattle.qg_image.specs.Reach.{reach, owners, distinct}
use Rattle.qg_reach.specs.Sets.{HaveSame}
use Rattle.qg_account.specs.Laws.{AreChanges, HaveOneSize, all_reached}
use Rattle.qg_account.specs.Moves.{OwnerChange}

-- numbers but for this one
abbrev pub without_number : ℕ → List ℕ → List ℕ
without_number gone subs = filter (λ sub. not (sub == gone)) subs

-- the new layout has one subvolume less
pub record IsDeletion (old new : Layout) (gone : ℕ) : Type 0 where
  pub numbers : keys_of new.roots ≡ without_number gone (keys_of old.roots)
  pub others : (sub : ℕ) → Contains (keys_of new.roots) sub → HaveSame (reach new sub) (reach old sub)

-- the subvolume goes from the owners of an element
abbrev pub lost_change : Layout → ℕ → Element → ℕ × OwnerChange
lost_change old gone element = (
  element.address,
  record {
    bytes = element.bytes;
    before = owners old element.address;
    now = without_number gone (owners old element.address);
  },
)

-- the changes of a deletion: one of each element that the subvolume reached
abbrev pub deletion_changes : Layout → ℕ → List (ℕ × OwnerChange)
deletion_changes old gone = map (lost_change old gone) (distinct (reach old gone))

-- they tell what differs
abbrev pub DeletionIsAChange : Type 0
DeletionIsAChange = (old new : Layout) (gone : ℕ) → IsDeletion old new gone → HaveOneSize (all_reached old)
    → AreChanges old new (deletion_changes old gone)
