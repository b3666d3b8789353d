-- What a snapshot changes of who reaches what (btrfs-subvolume(8), "snapshot"; the form is this project's own).
use Rattle.std.specs.Prelude.{◌≡◌, ◌≢◌, ◌⊎◌, ◌↔◌, ℕ, false, not, List, [], ◌∷◌, ◌++◌, map, ◌==◌}
use Rattle.std.specs.List.{Contains, filter}
use Rattle.qg_image.specs.Table.{keys_of}
use Rattle.qg_image.specs.declared.element.Element.{Element}
use Rattle.qg_image.specs.State.{Layout}
use Rattle.qg_image.specs.Reach.{reach, reaches, owners, distinct}
use Rattle.qg_reach.specs.Sets.{HaveSame}
use Rattle.qg_account.specs.Laws.{AreChanges, HaveOneSize, all_reached}
use Rattle.qg_account.specs.Moves.{OwnerChange}

-- a snapshot: who makes it and whose copy it is, where both roots lie, and the bytes of a node
pub record Snapshot : Type 0 where
  pub source : ℕ
  pub copy : ℕ
  -- the address of the source's root
  pub top : ℕ
  -- the address of the copy's
  pub root : ℕ
  pub nodesize : ℕ

-- the new layout has one subvolume more, which reaches its root and all that the source reaches but the source's root
pub record IsSnapshot (old new : Layout) (made : Snapshot) : Type 0 where
  pub numbers : keys_of new.roots ≡ keys_of old.roots ++ made.copy ∷ []
  pub source : Contains (keys_of old.roots) made.source
  pub others : (sub : ℕ) → Contains (keys_of old.roots) sub → HaveSame (reach new sub) (reach old sub)
  pub own : (element : Element) → Contains (reach new made.copy) element
      ↔ ((record { address = made.root; bytes = made.nodesize } ≡ element)
      ⊎ (Contains (reach old made.source) element × (element.address ≢ made.top)))
  -- nobody reached the copy's root
  pub fresh : (sub : ℕ) → Contains (keys_of old.roots) sub → reaches old sub made.root ≡ false

-- nobody reached the copy's root, and the copy does
abbrev pub root_change : Snapshot → ℕ × OwnerChange
root_change made = (made.root, record { bytes = made.nodesize; before = []; now = made.copy ∷ [] })

-- the copy comes to the owners of an element
abbrev pub shared_change : Layout → ℕ → Element → ℕ × OwnerChange
shared_change old copy element = (
  element.address,
  record {
    bytes = element.bytes;
    before = owners old element.address;
    now = owners old element.address ++ copy ∷ [];
  },
)

-- what the source reaches below its root, each once
abbrev pub below_top : Layout → Snapshot → List Element
below_top old made = filter (λ element. not (element.address == made.top)) (distinct (reach old made.source))

-- the changes of a snapshot: one of its root, and one of each element below the source's
abbrev pub snapshot_changes : Layout → Snapshot → List (ℕ × OwnerChange)
snapshot_changes old made = root_change made ∷ map (shared_change old made.copy) (below_top old made)

-- they tell what differs
abbrev pub SnapshotIsAChange : Type 0
SnapshotIsAChange = (old new : Layout) (made : Snapshot) → IsSnapshot old new made → HaveOneSize (all_reached old)
    → AreChanges old new (snapshot_changes old made)
