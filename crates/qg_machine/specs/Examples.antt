-- Small steps of the machine, and a key's bytes. All were worked out by hand.
use Rattle.std.specs.Prelude.{◌≡◌, ◌+◌, ◌*◌, ◌^◌, [], ◌∷◌, Some, None, refl}
use Rattle.qg_num.specs.Fields.{u64_bytes}
use Rattle.qg_num.specs.Key.{key_bytes}
use Rattle.qg_num.specs.declared.piece.Piece.{Piece}
use Rattle.qg_num.specs.declared.command.Command.TheVariants.{Write, Commit, SubCreate, Snap, Delete, QuotaOn, Show}
use Rattle.qg_num.specs.declared.command.Command.TheVariants.{Assign}
use Rattle.qg_num.specs.declared.answer.Answer.TheVariants as answer
use Rattle.qg_num.specs.declared.refusal.Refusal.TheVariants as why
use Rattle.qg_super.specs.Places.{is_slot, is_run}
use Rattle.qg_image.specs.State.{State}
use Rattle.qg_image.specs.Reach.{reach}
use Rattle.qg_image.specs.Members.{leads, is_below, members, next_subvolume}
use Rattle.qg_image.specs.Limits.{bytes_reserved, first_over, over}
use Rattle.qg_image.specs.Space.{present_extents, is_free_run, is_free_slot, free_slots, least, first_run}
use Rattle.qg_image.specs.Need.{present_records, weight}
use Rattle.qg_image.specs.ExamplesOfState.{fresh, fresh-weight, piece, file, one_one}
use Rattle.qg_machine.specs.FileChange.{before, after, with_range, within, moved, with_size, file_change}
use Rattle.qg_machine.specs.GroupChange.{with_pair}
use Rattle.qg_machine.specs.Refusals.{refusal}
use Rattle.qg_machine.specs.Step.{Step}

-- ---- pieces

-- a piece of another extent, at the second sector
abbrev pub other : Piece
other = record { position = 4096; len = 4096; extent = 67186688; offset = 0; stamp = 3; extent_bytes = 4096 }

abbrev pub long : Piece
long = record { position = 0; len = 12288; extent = 67174400; offset = 0; stamp = 2; extent_bytes = 12288 }

-- a write into the middle leaves three pieces, and the old extent whole
middle_is_overwritten :
    with_range 4096 8192 (other ∷ []) (long ∷ [])
    ≡ record { position = 0; len = 4096; extent = 67174400; offset = 0; stamp = 2; extent_bytes = 12288 }
    ∷ other
    ∷ record { position = 8192; len = 4096; extent = 67174400; offset = 8192; stamp = 2; extent_bytes = 12288 }
    ∷ []
unfolding before after
middle_is_overwritten = refl

-- what is cloned keeps its offset in the extent
clone_keeps_the_offset : moved 4096 0 (piece 4096 4096 4096) ∷ [] ≡ piece 0 4096 4096 ∷ []
clone_keeps_the_offset = refl

range_is_taken : within 4096 8192 (piece 0 8192 0 ∷ []) ≡ piece 4096 4096 4096 ∷ []
unfolding before after
range_is_taken = refl

-- a smaller size cuts a piece, and its extent stays whole
piece_is_cut : with_size 3 4096 (file 8192 (piece 0 8192 0 ∷ [])) ≡ record {
  size = 4096;
  generation = 2;
  transid = 3;
  pieces = piece 0 4096 0 ∷ [];
}
unfolding before
piece_is_cut = refl

-- ---- refusals, in a fresh image of 64 slots

no_such_subvolume : refusal fresh (Write 256 257 0 4096) ≡ Some why.NoSub
unfolding refusal first_run least is_free_run is_run present_extents over file_change free_slots is_free_slot is_slot
    weight present_records first_over bytes_reserved members is_below leads
no_such_subvolume = refl

length_of_zero : refusal fresh (Write 5 257 0 0) ≡ Some why.Align
unfolding refusal first_run least is_free_run is_run present_extents over file_change free_slots is_free_slot is_slot
    weight present_records first_over bytes_reserved members is_below leads
length_of_zero = refl

end_past_the_largest_size : refusal fresh (Write 5 257 (2 ^ 40) 4096) ≡ Some why.Far
unfolding refusal first_run least is_free_run is_run present_extents over file_change free_slots is_free_slot is_slot
    weight present_records first_over bytes_reserved members is_below leads
end_past_the_largest_size = refl

longer_than_the_longest_extent : refusal fresh (Write 5 257 0 134221824) ≡ Some why.Far
unfolding refusal first_run least is_free_run is_run present_extents over file_change free_slots is_free_slot is_slot
    weight present_records first_over bytes_reserved members is_below leads
longer_than_the_longest_extent = refl

-- one sector more than there are
no_such_run : refusal fresh (Write 5 257 0 (1025 * 4096)) ≡ Some why.NoRun
unfolding refusal first_run least is_free_run is_run present_extents over file_change free_slots is_free_slot is_slot
    weight present_records first_over bytes_reserved members is_below leads
no_such_run = refl

-- 60 slots are free, and a write needs 228
too_few_slots_for_a_write : refusal fresh (Write 5 257 0 4096) ≡ Some (why.NoNodes 60 228)
unfolding refusal first_run least is_free_run is_run present_extents over file_change free_slots is_free_slot is_slot
    first_over bytes_reserved members is_below leads before after
too_few_slots_for_a_write = rw fresh-weight refl

-- the same of 256 slots
abbrev pub roomy : State
roomy = record fresh { sizes = record fresh.sizes { slots = 256 } }

roomy-weight : weight roomy ≡ 1653
unfolding weight present_records
roomy-weight = fresh-weight

write_is_accepted : refusal roomy (Write 5 257 0 4096) ≡ None
unfolding refusal first_run least is_free_run is_run present_extents over file_change free_slots is_free_slot is_slot
    first_over bytes_reserved members is_below leads before after
write_is_accepted = rw roomy-weight refl

-- 60 slots are free, and a structural command needs 276
too_few_slots : refusal fresh SubCreate ≡ Some (why.NoNodes 60 276)
unfolding refusal free_slots is_free_slot is_slot next_subvolume
too_few_slots = rw fresh-weight refl

top_level_is_not_deleted : refusal fresh (Delete 5) ≡ Some why.TopLevel
unfolding refusal free_slots is_free_slot is_slot weight present_records reach
top_level_is_not_deleted = refl

quota_is_on : refusal fresh QuotaOn ≡ Some why.QuotaOn
unfolding refusal free_slots is_free_slot is_slot weight present_records
quota_is_on = refl

member_of_a_lower_level : refusal fresh (Assign one_one 5) ≡ Some why.Level
unfolding refusal free_slots is_free_slot is_slot weight present_records
member_of_a_lower_level = refl

-- in a list of groups each is looked at before the next one
inherits_no_such_group : refusal fresh (Snap 5 (one_one ∷ 5 ∷ [])) ≡ Some why.NoGroup
unfolding refusal free_slots is_free_slot is_slot weight present_records next_subvolume
inherits_no_such_group = refl

-- the generation to come would be past the last one: only where something would be committed
abbrev pub late : State
late = record fresh { generation = 2 ^ 63 + 1 }

late_subvolume : refusal late SubCreate ≡ Some why.NoGeneration
unfolding refusal free_slots is_free_slot is_slot weight present_records next_subvolume
late_subvolume = refl

late_commit : refusal late Commit ≡ None
unfolding refusal
late_commit = refl

-- ---- steps

-- a commit with nothing pending changes nothing
nothing_to_commit : Step fresh Commit (answer.Commit 1) [] fresh
unfolding refusal
nothing_to_commit = (refl, (refl, refl))

-- the stored counters are shown
fresh_is_shown : Step fresh Show
    (answer.Shown (record {
      group = 5;
      counters = record { rfer = 16384; excl = 16384 };
      max_rfer = None;
      max_excl = None;
    } ∷ [])) [] fresh
unfolding refusal
fresh_is_shown = (refl, (refl, refl))

-- ---- relations

relations_ascend : with_pair (5, 7) ((5, 8) ∷ (6, 7) ∷ []) ≡ (5, 7) ∷ (5, 8) ∷ (6, 7) ∷ []
relations_ascend = refl

-- ---- keys

-- the 17 bytes of the key of a piece: its inode, EXTENT_DATA, its position
key_has_its_bytes : key_bytes (record { objectid = 257; kind = 108; offset = 4096 }) ≡ 1 ∷ 1 ∷ 0 ∷ 0 ∷ 0 ∷ 0 ∷ 0 ∷ 0
    ∷ 108 ∷ 0 ∷ 16 ∷ 0 ∷ 0 ∷ 0 ∷ 0 ∷ 0 ∷ 0 ∷ []
unfolding u64_bytes
key_has_its_bytes = refl
