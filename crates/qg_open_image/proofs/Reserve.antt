-- The slots that a commit may want: it plans no more of them, and none need be free where nothing is pending.
use Rattle.std.proofs.Common.{◌≡◌, ℕ, ◌+◌, ◌*◌, ◌≤◌, List, [], ◌∷◌, arith, inl, inr, length, refl, subst, sym}
use Rattle.qg_node.specs.NodeText.{IsNodeSize}
use Rattle.qg_image.specs.Need.{IsReserved}
use Rattle.qg_image.specs.State.{Accepted, State}
use Rattle.qg_space.specs.Holding.{free_slots}
use Rattle.qg_open_image.specs.declared.open_image.OpenImage.{OpenImage}
use Rattle.qg_open_image.specs.Keeping.{IsFitted, book_weight, commit_need, commit_room_of, filled_by, quota_weight}
use Rattle.qg_open_image.specs.Keeping.{root_weight}
use Rattle.qg_open_image.proofs.Looked.{node-size}
use Rattle.qg_open_image.proofs.Room.{commit-few}

-- ---- what a commit plans

wide : (nodesize : ℕ) → IsNodeSize nodesize → 4096 ≤ nodesize
wide nodesize (inl is) = omega (arith, is)
wide nodesize (inr is) = omega (arith, is)

pub large : (kept : OpenImage) → IsFitted kept → 4096 ≤ kept.superblock.nodesize
large kept fits = wide kept.superblock.nodesize (node-size kept fits)

pub need-few : (kept : OpenImage) → IsFitted kept → commit_need kept ≤ 5 * filled_by kept + 13
need-few kept fits =
    commit-few kept.superblock.nodesize (book_weight kept) (root_weight kept) (quota_weight kept) (large kept fits)

less-planned : (need filled free : ℕ) → need ≤ 5 * filled + 13 → 5 * filled + 40 ≤ free → need ≤ free
less-planned need filled free few enough = omega (arith, few, enough)

-- so it finds what it plans where what it may want is free
pub finds-planned : (kept : OpenImage) → IsFitted kept → commit_room_of kept ≤ free_slots kept.fs.land.space
    → commit_need kept ≤ free_slots kept.fs.land.space
finds-planned kept fits enough =
    less-planned (commit_need kept) (filled_by kept) (free_slots kept.fs.land.space) (need-few kept fits) enough

-- ---- where nothing is pending

-- commands of which there are none
pub none-listed : (pending : List Accepted) → length pending ≡ 0 → pending ≡ []
none-listed [] none = refl
none-listed (given ∷ pending) none = absurd (omega (arith, none))

pub reserve-none : (state : State) → length state.pending ≡ 0 → IsReserved state
reserve-none state none =
    subst (λ (list : List Accepted). IsReserved (record state { pending = list }))
    (sym (none-listed state.pending none)) tt
