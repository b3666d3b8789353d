-- What is noted of addresses that are touched between two commits (fs/btrfs/qgroup.c, "qgroup extent record"; the form
-- is this project's own). Addresses are in bytes.
use Rattle.std.specs.Prelude.{ℕ, List, if◌then◌else◌}
use Rattle.std.specs.List.{All}
use Rattle.std.specs.List.Sorted.{IsStrictlyIncreasing, IsStrictlySortedBy}
use Rattle.std.specs.Ordering.{nat_cmp}
use Rattle.qg_image.specs.Table.{has_key, keys_of, with_value}
use Rattle.qg_trace.specs.declared.trace.TraceEntry.{TraceEntry}

-- the addresses ascend, each once, and so do the owners that are noted of each
pub record IsTrace (trace : List (ℕ × TraceEntry)) : Type 0 where
  pub addresses : IsStrictlySortedBy nat_cmp (keys_of trace)
  pub owners : All (λ entry. IsStrictlyIncreasing entry.1.owners) trace

-- what is noted after an address is touched: where it was touched before, the first touch stays
abbrev pub touched : ℕ → TraceEntry → List (ℕ × TraceEntry) → List (ℕ × TraceEntry)
touched at entry trace = if has_key at trace then trace else with_value at entry trace
