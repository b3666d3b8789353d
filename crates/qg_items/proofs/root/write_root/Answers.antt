use Rattle.std.proofs.Common.{◌≡◌, ℕ, ◌-◌, ◌≤◌, List, [], ◌∷◌, length, set, refl, sym, ap, subst, arith}
use Rattle.std.proofs.lemmas.List.{set_split}
use Rattle.qg_num.specs.Fields.{zeros}
use Rattle.qg_num.proofs.Standing.{Stands, zeros_stand_in_zeros}
use Rattle.qg_num.proofs.Written.{nothing_written, Written-put, Written-skip, Written-u32, Written-u64, Written-whole}
use Rattle.qg_num.proofs.Written.{Written-zeros}
use Rattle.qg_items.specs.ItemText.{root_text}
use Rattle.qg_items.proofs.root.write_root.Goals as goal

pub returns : goal.returns
unfolding root_text
returns c =
    let root = c.args.root.now in
    let blank : c.put_zeros.new.bytes ≡ zeros 439 =
    Written-whole (Written-zeros 439 c.put_zeros.new.bytes (nothing_written c.args.bytes.now) c.put_zeros.ensures)
    c.requires in
    let gap : (a b : ℕ) → a ≤ b → b ≤ 439 → Stands c.put_zeros.new.bytes a b (zeros (b - a)) = λ a b order within.
    subst (λ (bytes : List ℕ). Stands bytes a b (zeros (b - a))) (sym blank)
    (zeros_stand_in_zeros 439 a b order within) in
    let to_generation = Written-skip (nothing_written c.put_zeros.new.bytes) (gap 0 160 (omega arith) (omega arith)) in
    let generation = Written-u64 root.generation c.put_u64.new.bytes to_generation
    (rw c.value.ensures at c.put_u64.ensures) in
    let to_bytenr = Written-skip generation (gap 168 176 (omega arith) (omega arith)) in
    let bytenr = Written-u64 root.bytenr c.put_u64-2.new.bytes to_bytenr
    (rw c.value-2.ensures at c.put_u64-2.ensures) in
    let to_last_snapshot = Written-skip bytenr (gap 184 200 (omega arith) (omega arith)) in
    let last_snapshot = Written-u64 root.last_snapshot c.put_u64-3.new.bytes to_last_snapshot
    (rw c.value-3.ensures at c.put_u64-3.ensures) in
    let to_refs = Written-skip last_snapshot (gap 208 216 (omega arith) (omega arith)) in
    let refs = Written-u32 root.refs c.put_u32.new.bytes to_refs c.put_u32.ensures in
    let to_level = Written-skip refs (gap 220 238 (omega arith) (omega arith)) in
    let level = Written-put 1 (root.level ∷ []) (set c.put_u32.new.bytes 238 root.level) to_level refl
    (set_split c.put_u32.new.bytes 238 root.level (omega arith)) in
    let to_end = Written-skip level (gap 239 439 (omega arith) (omega arith)) in
    Written-whole to_end (ap length blank)
