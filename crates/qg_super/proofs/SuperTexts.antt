-- The text of a superblock: what is read of it, and what bytes are it.
use Rattle.std.proofs.Common.{◌≡◌, ◌≢◌, ℕ, ◌^◌, ◌<◌, Bool, true, false, List, length, take, drop, None, Some, refl, sym}
use Rattle.std.proofs.Common.{ap, ◌∙◌, arith}
use Rattle.std.specs.Prelude.{◌&&◌}
use Rattle.std.specs.Bool.{then_some}
use Rattle.std.specs.Str.{bytes_eq}
use Rattle.std.proofs.lemmas.Bool.{and_parts}
use Rattle.std.proofs.lemmas.Option.{none-some, same_Some}
use Rattle.std.proofs.lemmas.Slice.Eq.{bytes_eq-Decides}
use Rattle.std.proofs.Math.Bool.{and-false}
use Rattle.qg_num.specs.Fields.{u32_bytes, u64_at, u64_bytes}
use Rattle.qg_num.proofs.Numbers.{u32_at-u32_bytes, u64_at-u64_bytes}
use Rattle.qg_super.specs.declared.superblock.Super.{Super}
use Rattle.qg_super.specs.SuperText.{covered_text, fields_at, is_super, sizes_of, super_read, super_text}
use Rattle.qg_super.specs.Laws.{OnePlace, OneSuper, ReadsBack, WritesBack}
use Rattle.qg_super.proofs.Served.{SizesFit-is_served, SuperFits-is_super}

-- ---- what stands where in a text

pub length-super_text : (place : ℕ) (super : Super) → length (super_text place super) ≡ 4096
unfolding super_text covered_text u32_bytes u64_bytes
length-super_text place super = refl

u64_at-super_text : (place : ℕ) (super : Super) → place < 2 ^ 64 → u64_at 48 (super_text place super) ≡ place
unfolding super_text covered_text u32_bytes u64_bytes
u64_at-super_text place super fits =
    let text = super_text place super in
    u64_at-u64_bytes 48 place (take 48 text) (drop 56 text) refl fits

same_fields : (a b : Super) → a.generation ≡ b.generation → a.root ≡ b.root → a.nodesize ≡ b.nodesize
    → a.slots ≡ b.slots → a.sectors ≡ b.sectors → a.format ≡ b.format → a ≡ b
same_fields a b generation root nodesize slots sectors format =
    let same : ◌≡◌ {A = Super} (record {
      generation = a.generation;
      root = a.root;
      nodesize = a.nodesize;
      slots = a.slots;
      sectors = a.sectors;
      format = a.format;
    }) (record {
      generation = b.generation;
      root = b.root;
      nodesize = b.nodesize;
      slots = b.slots;
      sectors = b.sectors;
      format = b.format;
    }) = cc in
    same

pub fields_at-super_text : (place : ℕ) (super : Super) → is_super super ≡ true
    → fields_at (super_text place super) ≡ super
unfolding super_text covered_text u32_bytes u64_bytes
fields_at-super_text place super is =
    let text = super_text place super in
    let fits = SuperFits-is_super super is in
    let sizes = SizesFit-is_served (sizes_of super) fits.served in
    let nodesize : super.nodesize < 2 ^ 32 = omega (arith, sizes.nodesize) in
    let slots : super.slots < 2 ^ 64 = omega (arith, sizes.slots) in
    let sectors : super.sectors < 2 ^ 64 = omega (arith, sizes.sectors) in
    let format : super.format < 2 ^ 32 = omega (arith, fits.format) in
    same_fields (fields_at text) super
    (u64_at-u64_bytes 72 super.generation (take 72 text) (drop 80 text) refl fits.generation)
    (u64_at-u64_bytes 80 super.root (take 80 text) (drop 88 text) refl fits.root)
    (u32_at-u32_bytes 148 super.nodesize (take 148 text) (drop 152 text) refl nodesize)
    (u64_at-u64_bytes 2048 super.slots (take 2048 text) (drop 2056 text) refl slots)
    (u64_at-u64_bytes 2056 super.sectors (take 2056 text) (drop 2064 text) refl sectors)
    (u32_at-u32_bytes 2064 super.format (take 2064 text) (drop 2068 text) refl format)

-- ---- reading

false_from_not : (b : Bool) → (b ≡ true → ⊥) → b ≡ false
false_from_not true not = absurd (not refl)
false_from_not false not = refl

pub super_read-no_length : (place : ℕ) (bytes : List ℕ) → length bytes ≢ 4096 → super_read place bytes ≡ None
unfolding super_read
super_read-no_length place bytes long =
    let text = super_text place (fields_at bytes) in
    let other : bytes_eq bytes text ≡ false = false_from_not (bytes_eq bytes text) (λ same.
    long (ap length ((bytes_eq-Decides bytes text).0 same) ∙ length-super_text place (fields_at bytes))) in
    rw (other, and-false (is_super (fields_at bytes))) refl

pub super_read-super_text : (place : ℕ) (super : Super) → is_super super ≡ true
    → super_read place (super_text place super) ≡ Some super
unfolding super_read
super_read-super_text place super is =
    let same : bytes_eq (super_text place super) (super_text place super) ≡ true =
    (bytes_eq-Decides (super_text place super) (super_text place super)).1 refl in
    rw (fields_at-super_text place super is, is, same) refl

-- what is read under a test passes it
then_some_parts : {A : Type 0} (b : Bool) (x y : A) → then_some b x ≡ Some y → (b ≡ true) × (x ≡ y)
then_some_parts true x y is = (refl, same_Some x y is)
then_some_parts false x y is = absurd (none-some y is)

-- ---- the laws

pub super_reads_back : ReadsBack
super_reads_back place bytes super is = ap (super_read place) is.text ∙ super_read-super_text place super is.served

pub super_writes_back : WritesBack
unfolding super_read
super_writes_back place bytes super read =
    let fields = fields_at bytes in
    let parts = then_some_parts (is_super fields && bytes_eq bytes (super_text place fields)) fields super read in
    let tests = and_parts (is_super fields) (bytes_eq bytes (super_text place fields)) parts.0 in
    record {
      text = (bytes_eq-Decides bytes (super_text place fields)).0 tests.1 ∙ ap (super_text place) parts.1;
      served = ap is_super (sym parts.1) ∙ tests.0;
    }

pub one_super : OneSuper
one_super place bytes a b is_a is_b = same_Some a b (sym (super_reads_back place bytes a is_a)
    ∙ super_reads_back place bytes b is_b)

pub one_place : OnePlace
one_place place other bytes a b fits fits_other is_a is_b =
    sym (u64_at-super_text place a fits) ∙ ap (u64_at 48) (sym is_a.text ∙ is_b.text)
    ∙ u64_at-super_text other b fits_other
