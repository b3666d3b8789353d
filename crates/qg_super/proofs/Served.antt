-- What bounds the sizes that are served, and the fields that a superblock may have.
use Rattle.std.proofs.Common.{◌≡◌, ◌-◌, ◌*◌, ◌^◌, ◌≤◌, ◌<◌, ◌⊎◌, inl, inr, true, arith}
use Rattle.std.specs.Prelude.{◌==◌, ◌&&◌, ◌||◌, nat_le, nat_lt}
use Rattle.std.proofs.lemmas.Bool.{and_parts, eqb-true, leb-true, ltb-true, or_cases}
use Rattle.qg_super.specs.declared.sizes.Sizes.{Sizes}
use Rattle.qg_super.specs.declared.superblock.Super.{Super}
use Rattle.qg_super.specs.Places.{is_served}
use Rattle.qg_super.specs.SuperText.{is_super, sizes_of}

-- what the sizes that are served are; the area of all slots is in bytes
pub record SizesFit (sizes : Sizes) : Type 0 where
  pub node_size : (sizes.nodesize ≡ 4096) ⊎ (sizes.nodesize ≡ 16384)
  pub least : 4096 ≤ sizes.nodesize
  pub nodesize : sizes.nodesize ≤ 16384
  pub some_slots : 64 ≤ sizes.slots
  pub slots : sizes.slots ≤ 16128
  pub area : sizes.slots * sizes.nodesize ≤ 66060288
  pub some_sectors : 16 ≤ sizes.sectors
  pub sectors : sizes.sectors ≤ 16777216

pub SizesFit-is_served : (sizes : Sizes) → is_served sizes ≡ true → SizesFit sizes
unfolding is_served
SizesFit-is_served sizes served =
    let small = (sizes.nodesize == 4096) && nat_le sizes.slots 16128 in
    let large = (sizes.nodesize == 16384) && nat_le sizes.slots 4032 in
    let to_sectors = and_parts ((small || large) && nat_le 64 sizes.slots && nat_le 16 sizes.sectors)
    (nat_le sizes.sectors 16777216) served in
    let to_few = and_parts ((small || large) && nat_le 64 sizes.slots) (nat_le 16 sizes.sectors) to_sectors.0 in
    let to_slots = and_parts (small || large) (nat_le 64 sizes.slots) to_few.0 in
    let some_slots = leb-true 64 sizes.slots to_slots.1 in
    let some_sectors = leb-true 16 sizes.sectors to_few.1 in
    let sectors = leb-true sizes.sectors 16777216 to_sectors.1 in
    elim (or_cases small large to_slots.0) [
      | inl is ↦
          let parts = and_parts (sizes.nodesize == 4096) (nat_le sizes.slots 16128) is in
          let nodesize : sizes.nodesize ≡ 4096 = eqb-true sizes.nodesize 4096 parts.0 in
          let few : sizes.slots ≤ 16128 = leb-true sizes.slots 16128 parts.1 in
          record {
            node_size = inl nodesize;
            least = omega arith;
            nodesize = omega arith;
            some_slots = some_slots;
            slots = few;
            area = rw nodesize (omega arith);
            some_sectors = some_sectors;
            sectors = sectors;
          }
      | inr is ↦
          let parts = and_parts (sizes.nodesize == 16384) (nat_le sizes.slots 4032) is in
          let nodesize : sizes.nodesize ≡ 16384 = eqb-true sizes.nodesize 16384 parts.0 in
          let few : sizes.slots ≤ 4032 = leb-true sizes.slots 4032 parts.1 in
          record {
            node_size = inr nodesize;
            least = omega arith;
            nodesize = omega arith;
            some_slots = some_slots;
            slots = omega arith;
            area = rw nodesize (omega arith);
            some_sectors = some_sectors;
            sectors = sectors;
          }
    ]

-- what the fields of a superblock are
pub record SuperFits (super : Super) : Type 0 where
  pub some : 1 ≤ super.generation
  pub next : super.generation < 2 ^ 64 - 1
  pub generation : super.generation < 2 ^ 64
  pub root : super.root < 2 ^ 64
  pub served : is_served (sizes_of super) ≡ true
  pub format : super.format ≡ 1

pub SuperFits-is_super : (super : Super) → is_super super ≡ true → SuperFits super
unfolding is_super
SuperFits-is_super super is =
    let some = nat_le 1 super.generation in
    let next = nat_lt super.generation (2 ^ 64 - 1) in
    let root = nat_lt super.root (2 ^ 64) in
    let served = is_served (sizes_of super) in
    let to_format = and_parts (some && next && root && served) (super.format == 1) is in
    let to_served = and_parts (some && next && root) served to_format.0 in
    let to_root = and_parts (some && next) root to_served.0 in
    let to_next = and_parts some next to_root.0 in
    let before_last : super.generation < 2 ^ 64 - 1 = ltb-true super.generation (2 ^ 64 - 1) to_next.1 in
    record {
      some = leb-true 1 super.generation to_next.0;
      next = before_last;
      generation = omega arith;
      root = ltb-true super.root (2 ^ 64) to_root.1;
      served = to_served.1;
      format = eqb-true super.format 1 to_format.1;
    }
