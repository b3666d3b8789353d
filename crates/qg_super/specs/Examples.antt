-- Places and superblocks that were worked out by hand.
use Rattle.std.specs.Prelude.{◌≡◌, ℕ, ◌+◌, ◌*◌, true, false, None, Some, refl}
use Rattle.qg_super.specs.declared.sizes.Sizes.{Sizes}
use Rattle.qg_super.specs.declared.superblock.Super.{Super}
use Rattle.qg_super.specs.Places.{slot_at, sector_at, total_bytes, is_slot, is_run, is_served}
use Rattle.qg_super.specs.SuperText.{choose}

abbrev pub small : Sizes
small = record { nodesize = 16384; slots = 1024; sectors = 1024 }

image_is_so_long : total_bytes small ≡ 71368704
image_is_so_long = refl

-- the last slot of the largest image ends where the second superblock begins
slots_end_by_the_second_superblock : slot_at (record { nodesize = 16384; slots = 4032; sectors = 16 }) 4032 ≡ 67108864
slots_end_by_the_second_superblock = refl

third_sector : sector_at 2 ≡ 67182592
third_sector = refl

first_slot_is_one : is_slot small 1048576 ≡ true
unfolding is_slot
first_slot_is_one = refl

no_slot_between : is_slot small 1048577 ≡ false
unfolding is_slot
no_slot_between = refl

no_slot_past_the_last : is_slot small (1048576 + 1024 * 16384) ≡ false
unfolding is_slot
no_slot_past_the_last = refl

last_sector_is_a_run : is_run small 71364608 4096 ≡ true
unfolding is_run
last_sector_is_a_run = refl

no_run_past_the_end : is_run small 71364608 8192 ≡ false
unfolding is_run
no_run_past_the_end = refl

too_few_slots : is_served (record { nodesize = 16384; slots = 63; sectors = 16 }) ≡ false
unfolding is_served
too_few_slots = refl

no_such_nodesize : is_served (record { nodesize = 8192; slots = 64; sectors = 16 }) ≡ false
unfolding is_served
no_such_nodesize = refl

abbrev generation : ℕ → Super
generation n = record { generation = n; root = 1048576; nodesize = 16384; slots = 1024; sectors = 1024; format = 1 }

greater_generation_is_chosen : choose (Some (generation 2)) (Some (generation 3)) ≡ Some (generation 3)
greater_generation_is_chosen = refl

none_of_two_none : choose None None ≡ None
none_of_two_none = refl
