-- Changes of owners and what they make of a group's counters, worked out by hand. Bytes are in bytes.
use Rattle.std.specs.Prelude.{◌≡◌, ℕ, Bool, [], ◌∷◌, nat_le, refl}
use Rattle.qg_num.specs.declared.counters.Counters.{Counters}
use Rattle.qg_qgroup_counts.specs.Portions.{given}
use Rattle.qg_account.specs.Moves.{moved}

-- a group has the subvolumes up to 256 as members
abbrev pub early : ℕ → Bool
early sub = nat_le sub 256

abbrev pub both : ℕ → ℕ → Counters
both rfer excl = record { rfer = rfer; excl = excl }

-- what a member alone reached is shared with another subvolume: it is referenced still, and no longer exclusive
shared_outside : moved early (record { bytes = 4096; before = 5 ∷ []; now = 5 ∷ 257 ∷ [] }) (both 20480 20480)
    ≡ both 20480 16384
unfolding given
shared_outside = refl

-- shared among members it stays both
shared_inside : moved early (record { bytes = 4096; before = 5 ∷ []; now = 5 ∷ 256 ∷ [] }) (both 20480 20480)
    ≡ both 20480 20480
unfolding given
shared_inside = refl

-- what begins anew in a member comes to both
written : moved early (record { bytes = 8192; before = []; now = 256 ∷ [] }) (both 16384 16384) ≡ both 24576 24576
unfolding given
written = refl

-- where the last owner outside goes it becomes exclusive, though no member came or went
left_outside : moved early (record { bytes = 4096; before = 5 ∷ 257 ∷ []; now = 5 ∷ [] }) (both 20480 16384)
    ≡ both 20480 20480
unfolding given
left_outside = refl
