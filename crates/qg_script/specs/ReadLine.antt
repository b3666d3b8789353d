-- What a call that reads a line does (this project's own).
use Rattle.std.specs.Prelude.{◌≡◌, ◌≢◌, ℕ, ◌≤◌, ◌<◌, List, length, Option, Result, Err, IfOk, IfErr, IfSome, IfNone}
use Rattle.std.specs.Prelude.{IsOkAnd, IsSomeAnd, OnErr, OnSome}
use Rattle.qg_script.specs.declared.fault.LineFault.{LineFault}
use Rattle.qg_script.specs.declared.fault.LineFault.TheVariants.{TooLong}
use Rattle.qg_script.specs.declared.line.Line.{Line}
use Rattle.qg_script.specs.Feeding.{Feeding, IsWithinLimit, IsTooLong, HoldsLine, HoldsNoNewline, HandsOutHeld}
use Rattle.qg_script.specs.Feeding.{handed_out, most_to_come}
use Rattle.qg_script.specs.LineBytes.{line_bytes}
use Rattle.qg_script.specs.Lines.{pending, TakesLine, IsOver, CountsTaken}

-- where no line was read, none is held whole: what is held is too long, or no byte of it is a newline
pub record HoldsNoLine {A : Type 0} (result : Result A LineFault) (feeding : Feeding) : Type 0 where
  pub too_long : result ≡ Err TooLong → IsTooLong feeding
  pub no_newline : IfErr result (λ fault. fault ≢ TooLong → HoldsNoNewline feeding)

-- the result of a call, by the feed and what its source has left: before the call, and once the line is let go
pub record ReadsLine (result : Result (Option Line) LineFault) (old new : Feeding)
    (before after : Option (List ℕ)) : Type 0 where
  -- the line is the first of what was pending, and there is none exactly where nothing was
  pub line : IfOk result (λ found. IfSome found (λ line. TakesLine (pending old before) (pending new after)
      (line_bytes line)))
  pub over : IfOk result (λ found. IfNone found (IsOver (pending old before) (pending new after) new.rest))
  -- no byte is lost where there is no line
  pub err : OnErr result (pending new after ≡ pending old before)
  pub none_held : HoldsNoLine result new
  pub past : IsTooLong old → (result ≡ Err TooLong) × (new ≡ old)
  -- a line that is held whole is handed out
  pub held : HoldsLine old → IsOkAnd result (λ found. IsSomeAnd found (λ line. HandsOutHeld old new (line_bytes line)))
  -- how many bytes are taken and handed out
  pub counted : CountsTaken before after old.taken new.taken
  pub no_fewer : old.taken ≤ new.taken
  pub within : IsWithinLimit new
  pub shrinks : IfOk result (λ found. OnSome found (most_to_come new < most_to_come old))

-- a line ends at a place of what is held, and once it is handed out no byte past the longest script is, and less is to
-- come
pub record EndsWithin (old new : Feeding) (end : ℕ) : Type 0 where
  pub bound : end ≤ length new.rest
  pub within : IsWithinLimit (handed_out new end)
  pub shrinks : most_to_come (handed_out new end) < most_to_come old

-- what is taken is counted, no byte of it is given back, and it stays within the longest script
pub record TakesWithin (old new : Feeding) (before after : Option (List ℕ)) : Type 0 where
  pub counted : CountsTaken before after old.taken new.taken
  pub no_fewer : old.taken ≤ new.taken
  pub within : IsWithinLimit new
