-- The numbers by which a run is kept, and the extent that a contract sees (this project's own). Addresses and lengths
-- are in bytes.
use Rattle.std.specs.Prelude.{◌≡◌, ℕ, ◌-◌, ◌*◌, ◌/◌}
use Rattle.std.proofs.Common.{ap, ◌∙◌}
use Rattle.std.proofs.Math.Nat.{add-sub_cancel_left, mul-div_cancel, zero-lt-suc}
use Rattle.qg_super.specs.Places.{data_begin, sector, sector_at}
use Rattle.qg_space.specs.declared.run.Run.TheInside.{Inside}
use Rattle.qg_space.specs.Run.{Run}

-- the run of its first sector's number in the data area and of how many sectors it has
abbrev pub seen : Inside → Run
seen r = record {
  extent = record { address = sector_at r.first; bytes = r.sectors * sector };
  present = r.present;
  held = r.held;
}

-- these numbers of a run
abbrev pub kept : Run → Inside
kept run = record {
  first = (run.extent.address - data_begin) / sector;
  sectors = run.extent.bytes / sector;
  present = run.present;
  held = run.held;
}

-- they are had back from the extent
first_back : (first : ℕ) → (sector_at first - data_begin) / sector ≡ first
first_back first = ap (λ n. n / sector) (add-sub_cancel_left data_begin (first * sector))
    ∙ mul-div_cancel first (zero-lt-suc 4095)

-- and what is kept is had back from what is seen
pub kept-seen : (r : Inside) → kept (seen r) ≡ r
kept-seen r =
    let of_first : ℕ → Inside = λ n. record {
      first = n;
      sectors = r.sectors * sector / sector;
      present = r.present;
      held = r.held;
    } in
    let of_sectors : ℕ → Inside = λ n. record { first = r.first; sectors = n; present = r.present; held = r.held } in
    ap of_first (first_back r.first) ∙ ap of_sectors (mul-div_cancel r.sectors (zero-lt-suc 4095))
