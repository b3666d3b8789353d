-- What a change of owners makes of a group's counters (btrfs-qgroup(8), "referenced" and "exclusive";
-- fs/btrfs/qgroup.c, "old roots" and "new roots"; the form is this project's own). Bytes and counters are in bytes.
use Rattle.std.specs.Prelude.{◌≡◌, ◌≤◌, ◌<◌, ◌+◌, ◌-◌, ◌^◌, ℕ, Bool, true, false, List}
use Rattle.std.specs.List.{fold}
use Rattle.qg_num.specs.declared.counters.Counters.{Counters}
use Rattle.qg_qgroup_counts.specs.Portions.{given}
use Rattle.qg_account.specs.declared.standing.Standing.{Standing}
use Rattle.qg_account.specs.Standing.{standing_of}

-- so many bytes begin somewhere, and these subvolumes reached them before, and reach them now
pub record OwnerChange : Type 0 where
  pub bytes : ℕ
  pub before : List ℕ
  pub now : List ℕ

-- a counter in which bytes were counted or not, once they are counted or not
abbrev pub shifted : Bool → Bool → ℕ → ℕ → ℕ
shifted was is bytes counter = counter + given is bytes - given was bytes

-- referenced bytes are counted where an owner is a member, exclusive ones where each is
abbrev pub moved_by : Standing → Standing → ℕ → Counters → Counters
moved_by before now bytes counters = record {
  rfer = shifted before.meets now.meets bytes counters.rfer;
  excl = shifted before.within now.within bytes counters.excl;
}

-- the counters of a group with these members, after a change of owners
abbrev pub moved : (ℕ → Bool) → OwnerChange → Counters → Counters
moved member change counters =
    moved_by (standing_of member change.before) (standing_of member change.now) change.bytes counters

-- after some changes, one after the other, each of what begins at an address
abbrev pub moved_all : (ℕ → Bool) → List (ℕ × OwnerChange) → Counters → Counters
moved_all member changes counters = fold (λ kept entry. moved member entry.1 kept) counters changes

-- ---- what counters can give and take

-- a counter has the bytes that it loses, and room for those that it gains
pub record CanShift (was is : Bool) (bytes counter : ℕ) : Type 0 where
  pub has : was ≡ true → is ≡ false → bytes ≤ counter
  pub fits : was ≡ false → is ≡ true → counter + bytes < 2 ^ 64

-- so it is of both counters
pub record CanMoveBy (before now : Standing) (bytes : ℕ) (counters : Counters) : Type 0 where
  pub rfer : CanShift before.meets now.meets bytes counters.rfer
  pub excl : CanShift before.within now.within bytes counters.excl

-- and of the counters of a group with these members, at a change of owners
abbrev pub CanMove : (ℕ → Bool) → OwnerChange → Counters → Type 0
CanMove member change counters =
    CanMoveBy (standing_of member change.before) (standing_of member change.now) change.bytes counters
