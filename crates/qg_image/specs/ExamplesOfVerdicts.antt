-- Small parts of images, and the first rule that they break. All were worked out by hand.
use Rattle.std.specs.Prelude.{◌≡◌, ℕ, true, false, [], ◌∷◌, map, Some, None, nat_le, refl}
use Rattle.qg_num.specs.declared.rule.Rule.TheVariants as rule
use Rattle.qg_num.specs.declared.counters.Which.TheVariants.{Rfer}
use Rattle.qg_node.specs.declared.node.Node.{Node}
use Rattle.qg_node.specs.declared.node.Node.TheVariants.{Leaf}
use Rattle.qg_super.specs.declared.sizes.Sizes.{Sizes}
use Rattle.qg_super.specs.declared.superblock.Super.{Super}
use Rattle.qg_super.specs.Places.{total_bytes, is_run}
use Rattle.qg_super.specs.SuperText.{sizes_of, choose}
use Rattle.qg_image.specs.IsShaped.{is_shaped}
use Rattle.qg_image.specs.declared.part.ExtentPart.{ExtentPart}
use Rattle.qg_image.specs.declared.part.ExtentPart.TheVariants.{DataRecord, NodeRecord}
use Rattle.qg_image.specs.declared.part.QuotaPart.{QuotaPart}
use Rattle.qg_image.specs.declared.part.QuotaPart.TheVariants.{Status, Info, Limits}
use Rattle.qg_image.specs.ItemMeaning.{is_subvolume_number}
use Rattle.qg_image.specs.Reach.{pieces_of, reach_of_root, reach}
use Rattle.qg_image.specs.Members.{leads, is_below, members}
use Rattle.qg_image.specs.Counts.{reach_of_group, is_reached_outside, referenced, exclusive}
use Rattle.qg_image.specs.declared.failure.Failure.TheVariants.{Broken, Differs}
use Rattle.qg_image.specs.declared.tree.TreeKind.TheVariants.{Files}
use Rattle.qg_image.specs.Walk.{root_expected, node_failure, way_failure}
use Rattle.qg_image.specs.Failure.{unless}
use Rattle.qg_image.specs.ImageState.{is_full_record, placed}
use Rattle.qg_image.specs.Verdict.{are_mirrored, is_quota, space_failure, counts_failure}
use Rattle.qg_image.specs.State.{blank_quota, layout_of}
use Rattle.qg_image.specs.IsFresh.{fresh_state}

abbrev pub small : Sizes
small = record { nodesize = 16384; slots = 64; sectors = 16 }

abbrev pub super : Super
super = record { generation = 2; root = 1048576; nodesize = 16384; slots = 64; sectors = 16; format = 1 }

-- ---- nodes

-- an empty leaf of level 0 and generation 2, owned by the top-level subvolume
abbrev pub leaf : Node
leaf = Leaf (record { address = 1064960; generation = 2; owner = 5; level = 0 }) []

empty_root_is_sound : node_failure Files super (root_expected (Some 0) (Some 2)) 1064960 leaf ≡ None
unfolding node_failure way_failure is_subvolume_number is_shaped
empty_root_is_sound = refl

another_level : node_failure Files super (root_expected (Some 1) (Some 2)) 1064960 leaf
    ≡ Some (Broken rule.Depth 1064960)
unfolding node_failure way_failure is_subvolume_number is_shaped
another_level = refl

another_generation : node_failure Files super (root_expected (Some 0) (Some 1)) 1064960 leaf
    ≡ Some (Broken rule.Gen 1064960)
unfolding node_failure way_failure is_subvolume_number is_shaped
another_generation = refl

-- an empty leaf below a pointer has no first key that could be another, and is too empty
empty_leaf_below :
    node_failure Files super (record {
      level = Some 0;
      generation = Some 2;
      from = Some (record { objectid = 257; kind = 1; offset = 0 });
      to = None;
    }) 1064960 leaf
    ≡ Some (Broken rule.Shape 1064960)
unfolding node_failure way_failure is_subvolume_number is_shaped
empty_leaf_below = refl

-- ---- space

extents_side_by_side : space_failure small (record { address = 67174400; bytes = 4096 } ∷ record {
  address = 67178496;
  bytes = 8192;
} ∷ []) ≡ None
unfolding space_failure is_run
extents_side_by_side = refl

extents_that_overlap : space_failure small (record { address = 67174400; bytes = 8192 } ∷ record {
  address = 67178496;
  bytes = 8192;
} ∷ []) ≡ Some (Broken rule.Space 67174400)
unfolding space_failure is_run
extents_that_overlap = refl

extent_of_two_lengths : space_failure small (record { address = 67178496; bytes = 4096 } ∷ record {
  address = 67178496;
  bytes = 8192;
} ∷ []) ≡ Some (Broken rule.Space 67178496)
unfolding space_failure is_run
extent_of_two_lengths = refl

extent_past_the_end : space_failure small (record { address = 67235840; bytes = 8192 } ∷ [])
    ≡ Some (Broken rule.Space 67235840)
unfolding space_failure is_run
extent_past_the_end = refl

-- ---- quota

abbrev pub status : QuotaPart
status = Status (record { generation = 2; flags = 1; cursor = 0 })

abbrev pub info : ℕ → QuotaPart
info group = Info group (record { generation = 1; rfer = 16384; rfer_cmpr = 16384; excl = 16384; excl_cmpr = 16384 })

abbrev pub no_limit : ℕ → QuotaPart
no_limit group = Limits group (record { flags = 0; max_rfer = 0; max_excl = 0 })

one_group : is_quota (5 ∷ []) (status ∷ info 5 ∷ no_limit 5 ∷ []) ≡ true
unfolding is_quota is_subvolume_number
one_group = refl

no_status : is_quota (5 ∷ []) (info 5 ∷ no_limit 5 ∷ []) ≡ false
unfolding is_quota is_subvolume_number
no_status = refl

info_without_limit : is_quota (5 ∷ []) (status ∷ info 5 ∷ []) ≡ false
unfolding is_quota is_subvolume_number
info_without_limit = refl

limit_that_is_not_set : is_quota (5 ∷ []) (status ∷ info 5 ∷ Limits 5 (record { flags = 0; max_rfer = 1; max_excl = 0 })
    ∷ []) ≡ false
unfolding is_quota is_subvolume_number
limit_that_is_not_set = refl

-- ---- counts

fresh_counts : counts_failure (layout_of (fresh_state small [] 1064960))
    (Some (record blank_quota {
      groups = (
        5,
        record {
          counters = record { rfer = 16384; excl = 16384 };
          max_rfer = None;
          max_excl = None;
          stamp = 1;
        },
      ) ∷ [];
    })) ≡ None
unfolding counts_failure referenced exclusive is_reached_outside reach_of_group members is_below leads reach
    reach_of_root pieces_of
fresh_counts = refl

-- referenced bytes stored as 0
stored_as_zero : counts_failure (layout_of (fresh_state small [] 1064960))
    (Some (record blank_quota {
      groups = (
        5,
        record {
          counters = record { rfer = 0; excl = 16384 };
          max_rfer = None;
          max_excl = None;
          stamp = 1;
        },
      ) ∷ [];
    })) ≡ Some (Differs 5 Rfer 0 16384)
unfolding counts_failure referenced exclusive is_reached_outside reach_of_group members is_below leads reach
    reach_of_root pieces_of
stored_as_zero = refl

-- ---- superblocks

-- 67174400 and 16 sectors of 4096 bytes
image_is_so_long : total_bytes (sizes_of super) ≡ 67239936
image_is_so_long = refl

-- an image of this length is long enough, and one of a byte less is not
long_enough : unless (nat_le (total_bytes (sizes_of super)) 67239936) rule.Length 67239936 ≡ None
long_enough = refl

too_short : unless (nat_le (total_bytes (sizes_of super)) 67239935) rule.Length 67239935
    ≡ Some (Broken rule.Length 67239935)
too_short = refl

-- a superblock of a generation, with its root at an address
abbrev pub super_with : ℕ → ℕ → Super
super_with generation root = record super { generation = generation; root = root }

same_superblock : are_mirrored (Some (super_with 2 1048576)) (Some (super_with 2 1048576)) ≡ true
same_superblock = refl

-- of one generation, with another root
another_root : are_mirrored (Some (super_with 2 1048576)) (Some (super_with 2 1064960)) ≡ false
another_root = refl

-- an older one may have another root
older_superblock : are_mirrored (Some (super_with 2 1048576)) (Some (super_with 1 1064960)) ≡ true
older_superblock = refl

-- one place holds none
first_superblock_alone : are_mirrored (Some (super_with 2 1048576)) None ≡ true
first_superblock_alone = refl

second_superblock_alone : are_mirrored None (Some (super_with 2 1048576)) ≡ true
second_superblock_alone = refl

-- the greater generation is chosen, whichever place it stands at
first_is_chosen : choose (Some (super_with 2 1048576)) (Some (super_with 1 1064960)) ≡ Some (super_with 2 1048576)
first_is_chosen = refl

second_is_chosen : choose (Some (super_with 1 1048576)) (Some (super_with 2 1064960)) ≡ Some (super_with 2 1064960)
second_is_chosen = refl

one_is_chosen : choose None (Some (super_with 1 1048576)) ≡ Some (super_with 1 1048576)
one_is_chosen = refl

-- ---- the full mark: the bit of 256 in the flags of a node's record

-- the record of the node at 1048576 with these flags
abbrev pub node_record : ℕ → ExtentPart
node_record flags = NodeRecord 1048576 0 (record { refs = 1; generation = 2; flags = flags })

full_flags : map (λ flags. is_full_record 1048576 (node_record flags)) (258 ∷ 256 ∷ 770 ∷ []) ≡ true ∷ true ∷ true ∷ []
full_flags = refl

other_flags : map (λ flags. is_full_record 1048576 (node_record flags)) (2 ∷ 0 ∷ 514 ∷ 255 ∷ []) ≡ false ∷ false ∷ false
    ∷ false ∷ []
other_flags = refl

-- the record of another node, and that of a data extent
record_of_another_node : is_full_record 1064960 (node_record 258) ≡ false
record_of_another_node = refl

record_of_an_extent : is_full_record 1048576
    (DataRecord 1048576 4096 (record { refs = 1; generation = 2; flags = 257 })) ≡ false
record_of_an_extent = refl

-- the leaf at 1064960 without a record, and with one
node_without_record : (placed [] leaf).full ≡ false
node_without_record = refl

node_with_record : (placed (node_record 2 ∷ NodeRecord 1064960 0 (record { refs = 1; generation = 2; flags = 258 })
    ∷ []) leaf).full ≡ true
node_with_record = refl
