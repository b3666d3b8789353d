-- How what was asked ends where nothing fails (this project's own).
use Rattle.std.specs.Prelude.{◌≡◌, ℕ, ◌≤◌, List, length, Option, Some, String}
use Rattle.std.specs.declared.alloc.Global.{Global}
use Rattle.qg_super.specs.declared.sizes.Sizes.{Sizes}
use Rattle.qg_device.specs.History.{Event, History, Recorded, content, one_more}
use Rattle.qg_grammar.specs.ScriptText.{longest_script}
use Rattle.qg_image.specs.Verdict.{IsSound}
use Rattle.qg_program.specs.Ends.{EndsIn, HasCauses}
use Rattle.qg_program.specs.declared.status.Status.{Status}
use Rattle.qg_program.specs.declared.status.Status.TheVariants.{Done, Image, Found}
use Rattle.qg_program.specs.Words.{AskServed, AskToCheck, AskToGenerate, AskToOpen, AskToRun}

-- no count of faults rose by one, or stands at its last value
pub record NothingFails (source_before source_now sink_before sink_now disk_before disk_now : ℕ) : Type 0 where
  pub source : source_now ≡ one_more source_before → ⊥
  pub sink : sink_now ≡ one_more sink_before → ⊥
  pub disk : disk_now ≡ one_more disk_before → ⊥

-- a source tells an input that is no longer than a script may be
pub record HasScript (left : Option (List ℕ)) : Type 0 where
  pub input : List ℕ
  pub told : left ≡ Some input
  pub within : length input ≤ longest_script

-- Where nothing fails, what was asked is done, or memory is refused: over a sound image a run whose input is a script,
-- the generator's lines, and a check; over any other a run and the generator's lines say why it is not sound, and so
-- does a check. An image of sizes that are served is made
pub record IsComplete (words : List (String Global)) (end : Status) (image : List ℕ) (left : Option (List ℕ)) : Type
    0 where
  pub runs : AskToRun words → IsSound image → HasScript left → EndsIn Done end
  pub generates : (seed count : ℕ) → AskToGenerate words seed count → IsSound image → EndsIn Done end
  pub checks : AskToCheck words → IsSound image → EndsIn Done end
  pub refuses : AskToOpen words → (IsSound image → ⊥) → EndsIn Image end
  pub finds : AskToCheck words → (IsSound image → ⊥) → EndsIn Found end
  pub makes : (sizes : Sizes) → AskServed words sizes → EndsIn Done end

-- source, sink or disk met a fault exactly where the call ends for it; and over a disk that tells, where none did, what
-- was asked is done
pub record EndsForCause (words : List (String Global)) (end : Status) (before : History)
    (left : Option (List ℕ))
    (source_before source_now sink_before sink_now disk_before disk_now : ℕ) : Type 0 where
  pub causes : HasCauses end source_before source_now sink_before sink_now disk_before disk_now
  pub complete : (events : List Event) → before ≡ Recorded events
      → NothingFails source_before source_now sink_before sink_now disk_before disk_now
      → IsComplete words end (content events) left
