-- A source over a reader, as callers see it (this project's own).
use Rattle.std.specs.Prelude.{ℕ}
use Rattle.qg_edge.specs.declared.adapters.StdSource.{StdSource}

-- the reader that it takes from
abbrev pub reader_of : {R : Type 0} → StdSource R → R
reader_of source = source.reader

-- how often it has failed
abbrev pub source_faults : {R : Type 0} → StdSource R → ℕ
source_faults source = source.faults
