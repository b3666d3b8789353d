use Rattle.std.proofs.Common.{◌≡◌, ℕ, ◌-◌, ◌≤◌, List, length, refl, sym, ap, subst, ◌∙◌, arith}
use Rattle.qg_num.specs.Fields.{zeros}
use Rattle.qg_num.proofs.Standing.{Stands, zeros_stand_in_zeros}
use Rattle.qg_num.proofs.Written.{nothing_written, Written-put, Written-skip, Written-u32, Written-u64, Written-whole}
use Rattle.qg_num.proofs.Written.{Written-zeros}
use Rattle.qg_super.specs.Places.{is_served, total_bytes}
use Rattle.qg_super.specs.SuperText.{covered_text, magic, sizes_of}
use Rattle.qg_super.proofs.Served.{SuperFits-is_super}
use Rattle.qg_super.proofs.text.write_covered.Goals as goal

pub total_bytes-requires : goal.total_bytes-requires
total_bytes-requires c = ap is_served c.sizes.ensures
    ∙ (SuperFits-is_super c.args.superblock.now c.requires.fields).served

pub returns : goal.returns
unfolding covered_text
returns c =
    let super = c.args.superblock.now in
    let start = c.put_zeros.new.bytes in
    let blank : start ≡ zeros 4064 =
    Written-whole (Written-zeros 4064 start (nothing_written c.args.covered.now) c.put_zeros.ensures)
    c.requires.length in
    let gap : (a b : ℕ) → a ≤ b → b ≤ 4064 → Stands start a b (zeros (b - a)) = λ a b order within.
    subst (λ (bytes : List ℕ). Stands bytes a b (zeros (b - a))) (sym blank)
    (zeros_stand_in_zeros 4064 a b order within) in
    let total = c.total_bytes.ensures ∙ ap total_bytes c.sizes.ensures in
    let to_place = Written-skip (nothing_written start) (gap 0 16 (omega arith) (omega arith)) in
    let place = Written-u64 c.args.place c.put_u64.new.bytes to_place c.put_u64.ensures in
    let to_magic = Written-skip place (gap 24 32 (omega arith) (omega arith)) in
    let named = Written-put 8 magic c.put_bytes.new.bytes to_magic refl c.put_bytes.ensures in
    let generation = Written-u64 super.generation c.put_u64-2.new.bytes named
    (rw c.value.ensures at c.put_u64-2.ensures) in
    let root = Written-u64 super.root c.put_u64-3.new.bytes generation (rw c.value-2.ensures at c.put_u64-3.ensures) in
    let to_total = Written-skip root (gap 56 80 (omega arith) (omega arith)) in
    let length_of = Written-u64 (total_bytes (sizes_of super)) c.put_u64-4.new.bytes to_total
    (rw total at c.put_u64-4.ensures) in
    let to_sector = Written-skip length_of (gap 88 112 (omega arith) (omega arith)) in
    let sector = Written-u32 4096 c.put_u32.new.bytes to_sector c.put_u32.ensures in
    let nodesize = Written-u32 super.nodesize c.put_u32-2.new.bytes sector c.put_u32-2.ensures in
    let to_slots = Written-skip nodesize (gap 120 2016 (omega arith) (omega arith)) in
    let slots = Written-u64 super.slots c.put_u64-5.new.bytes to_slots c.put_u64-5.ensures in
    let sectors = Written-u64 super.sectors c.put_u64-6.new.bytes slots c.put_u64-6.ensures in
    let format = Written-u32 super.format c.put_u32-3.new.bytes sectors c.put_u32-3.ensures in
    let to_end = Written-skip format (gap 2036 4064 (omega arith) (omega arith)) in
    Written-whole to_end (ap length blank)
