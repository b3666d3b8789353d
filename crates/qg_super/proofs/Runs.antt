-- What a run of whole sectors in the data area is. Addresses and lengths are in bytes.
use Rattle.std.proofs.Common.{◌≡◌, ℕ, ◌+◌, ◌-◌, ◌<◌, ◌≤◌, true}
use Rattle.std.specs.Prelude.{◌==◌, nat_le, nat_lt, ◌%◌, ◌&&◌}
use Rattle.std.proofs.lemmas.Bool.{and_parts, and_from, eqb-true, eq-eqb, leb-true, le-leb, ltb-true, lt-ltb}
use Rattle.qg_super.specs.declared.sizes.Sizes.{Sizes}
use Rattle.qg_super.specs.Places.{data_begin, sector, total_bytes, is_run}

-- what a run is, part by part
pub record WholeRun (sizes : Sizes) (address bytes : ℕ) : Type 0 where
  pub begin : data_begin ≤ address
  pub aligned : (address - data_begin) % sector ≡ 0
  pub whole : bytes % sector ≡ 0
  pub some : 0 < bytes
  pub within : address + bytes ≤ total_bytes sizes

pub WholeRun-is_run : (sizes : Sizes) (address bytes : ℕ) → is_run sizes address bytes ≡ true
    → WholeRun sizes address bytes
unfolding is_run
WholeRun-is_run sizes address bytes is =
    let begins = nat_le data_begin address in
    let aligned = (address - data_begin) % sector == 0 in
    let whole = bytes % sector == 0 in
    let some = nat_lt 0 bytes in
    let to_within = and_parts (begins && aligned && whole && some) (nat_le (address + bytes) (total_bytes sizes)) is in
    let to_some = and_parts (begins && aligned && whole) some to_within.0 in
    let to_whole = and_parts (begins && aligned) whole to_some.0 in
    let to_aligned = and_parts begins aligned to_whole.0 in
    record {
      begin = leb-true data_begin address to_aligned.0;
      aligned = eqb-true ((address - data_begin) % sector) 0 to_aligned.1;
      whole = eqb-true (bytes % sector) 0 to_whole.1;
      some = ltb-true 0 bytes to_some.1;
      within = leb-true (address + bytes) (total_bytes sizes) to_within.1;
    }

pub is_run-WholeRun : (sizes : Sizes) (address bytes : ℕ) → WholeRun sizes address bytes
    → is_run sizes address bytes ≡ true
unfolding is_run
is_run-WholeRun sizes address bytes run =
    and_from _ _ (and_from _ _
    (and_from _ _ (and_from _ _ (le-leb data_begin address run.begin)
    (eq-eqb ((address - data_begin) % sector) 0 run.aligned))
    (eq-eqb (bytes % sector) 0 run.whole)) (lt-ltb 0 bytes run.some))
    (le-leb (address + bytes) (total_bytes sizes) run.within)
