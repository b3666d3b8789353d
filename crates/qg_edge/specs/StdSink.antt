-- A sink over a writer, as callers see it (this project's own).
use Rattle.std.specs.Prelude.{ℕ}
use Rattle.qg_edge.specs.declared.adapters.StdSink.{StdSink}

-- the writer that it puts to
abbrev pub writer_of : {W : Type 0} → StdSink W → W
writer_of sink = sink.writer

-- how often it has failed
abbrev pub sink_faults : {W : Type 0} → StdSink W → ℕ
sink_faults sink = sink.faults
