-- A line that is lent, as callers see it (this project's own).
use Rattle.std.specs.Prelude.{ℕ, List}
use Rattle.qg_script.specs.declared.line.Line.{Line}

-- its bytes
abbrev pub line_bytes : Line → List ℕ
line_bytes line = line.bytes.now
