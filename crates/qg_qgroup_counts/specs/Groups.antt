-- What groups count by portions: a group's members are those subvolumes that pass a test (btrfs-qgroup(8), "referenced"
-- and "exclusive"; the form is this project's own). Counters are in bytes.
use Rattle.std.specs.Prelude.{◌≡◌, ◌<◌, ◌≤◌, ◌+◌, ◌-◌, ◌^◌, ◌==◌, ◌&&◌, not, ℕ, zero, suc, Bool, List, [], ◌∷◌, length}
use Rattle.std.specs.Prelude.{slice_index_or}
use Rattle.std.specs.List.{All, Contains, list_any}
use Rattle.qg_num.specs.declared.counters.Counters.{Counters}
use Rattle.qg_qgroup_counts.specs.Sets.{row_of}
use Rattle.qg_qgroup_counts.specs.Above.{list_at}
use Rattle.qg_qgroup_counts.specs.declared.counting.Portion.{Portion}
use Rattle.qg_qgroup_counts.specs.declared.groups.Tally.{Tally}
use Rattle.qg_qgroup_counts.specs.Portions.{given, bytes_where, sum_where, row_has, member_count, nothing}

-- each index is below a bound
abbrev pub AreWithin : ℕ → List (List ℕ) → Type 0
AreWithin bound lists = (place index : ℕ) → Contains (list_at lists place) index → index < bound

-- the group at an index is among those above a subvolume
abbrev pub is_above : List (List ℕ) → ℕ → ℕ → Bool
is_above above group subvolume = list_any (λ one. one == group) (list_at above subvolume)

-- how many of so many subvolumes are members of a row and pass a test
unfoldable pub passing_count : (ℕ → Bool) → List ℕ → ℕ → ℕ
passing_count test row zero = 0
passing_count test row (suc bound) = given (row_has row bound && test bound) 1 + passing_count test row bound

-- a member of a set passes
abbrev pub meets : (ℕ → Bool) → List (List ℕ) → ℕ → ℕ → Bool
meets test rows subvolumes set = not (passing_count test (row_of rows set) subvolumes == 0)

-- each member of a set passes
abbrev pub is_within : (ℕ → Bool) → List (List ℕ) → ℕ → ℕ → Bool
is_within test rows subvolumes set =
    meets test rows subvolumes set
    && (passing_count test (row_of rows set) subvolumes == member_count (row_of rows set) subvolumes)

-- the bytes of what subvolumes that pass a test reach, and of what nobody else reaches
abbrev pub counted_for : List (List ℕ) → ℕ → List Portion → (ℕ → Bool) → Counters
counted_for rows subvolumes portions test = record {
  rfer = bytes_where (meets test rows subvolumes) portions;
  excl = bytes_where (is_within test rows subvolumes) portions;
}

-- ---- on the way there

-- the same by the bytes of each set
abbrev pub counted_sets : List (List ℕ) → ℕ → List ℕ → (ℕ → Bool) → Counters
counted_sets rows subvolumes sums test = record {
  rfer = sum_where (meets test rows subvolumes) 0 sums;
  excl = sum_where (is_within test rows subvolumes) 0 sums;
}

-- how often an index is named
unfoldable pub times : List ℕ → ℕ → ℕ
times [] group = 0
times (one ∷ named) group = given (one == group) 1 + times named group

-- no set from this one on has hit a group
abbrev pub IsUnseen : ℕ → Tally → Type 0
IsUnseen set tally = tally.seen ≤ set

-- how often a set has hit it
abbrev pub hits_by : ℕ → Tally → ℕ
hits_by set tally = given (tally.seen == set + 1) tally.hits

-- a tally that a member of a set of so many hits once more
abbrev pub hit_once : ℕ → ℕ → ℕ → Tally → Tally
hit_once set many bytes tally = record {
  counters = record {
    rfer = tally.counters.rfer + given (hits_by set tally + 1 == 1) bytes;
    excl = tally.counters.excl + given (hits_by set tally + 1 == many) bytes;
  };
  seen = set + 1;
  hits = hits_by set tally + 1;
}

-- the bytes of a set of so many members can be counted at the next hit
pub record HasRoomFor (set many bytes : ℕ) (tally : Tally) : Type 0 where
  pub first : hits_by set tally ≡ 0 → tally.counters.rfer + bytes < 2 ^ 64
  pub last : hits_by set tally + 1 ≡ many → tally.counters.excl + bytes < 2 ^ 64

-- counters where so many of so many members of a set, which has these bytes, are the group's
abbrev pub with_hits : ℕ → ℕ → ℕ → Counters → Counters
with_hits hits many bytes counters = record {
  rfer = counters.rfer + given (not (hits == 0)) bytes;
  excl = counters.excl + given (not (many == 0) && (many - hits == 0)) bytes;
}

-- nothing is counted yet
abbrev pub none : Tally
none = record { counters = nothing; seen = 0; hits = 0 }

-- the groups that are named have been hit by a set as often as they are
pub record HaveHits (named : List ℕ) (set many bytes : ℕ) (old new : List Tally) : Type 0 where
  pub same : length new ≡ length old
  pub seen : All (IsUnseen (set + 1)) new
  pub each : (group : ℕ) → group < length old → (slice_index_or new group none).counters
      ≡ with_hits (times named group) many bytes (slice_index_or old group none).counters
