-- How a call of the program may end (this project's own).
use Rattle.std.specs.Prelude.{◌≡◌, ◌⊎◌, ℕ, Bool, true, false}
use Rattle.qg_device.specs.Cause.{HasEndCause}
use Rattle.qg_script.specs.declared.fault.LineFault.{LineFault}
use Rattle.qg_script.specs.declared.fault.LineFault.TheVariants as fault
use Rattle.qg_program.specs.declared.status.Status.{Status}
use Rattle.qg_program.specs.declared.status.Status.TheVariants.{Done, NoMemory, Words, Image, Source, Sink, Disk, Found}
use Rattle.qg_program.specs.declared.status.Status.TheVariants.{Sizes, TooLong}

-- it ended so, or memory was refused
abbrev pub EndsIn : Status → Status → Type 0
EndsIn wanted end = (end ≡ wanted) ⊎ (end ≡ NoMemory)

-- it ended so exactly where this holds; and where this holds, memory may have been refused instead
pub record EndsWhere (wanted end : Status) (Holds : Type 0) : Type 0 where
  pub only : end ≡ wanted → Holds
  pub always : Holds → EndsIn wanted end

-- the image was made: all that can still fail is to say so
abbrev pub is_made : Status → Bool
is_made Done = true
is_made Sink = true
is_made _ = false

-- what was asked was refused before anything was done
abbrev pub is_refused : Status → Bool
is_refused Words = true
is_refused Sizes = true
is_refused _ = false

-- the image was looked at whole and refused: some line was to be put
abbrev pub is_judged : Status → Bool
is_judged Image = true
is_judged Sink = true
is_judged _ = false

-- the number that the process ends with
abbrev pub exit_number : Status → ℕ
exit_number Done = 0
exit_number NoMemory = 1
exit_number Words = 2
exit_number Image = 3
exit_number Source = 4
exit_number Sink = 5
exit_number Disk = 6
exit_number Found = 7
exit_number Sizes = 8
exit_number TooLong = 9

-- where no line was read, by why
abbrev pub line_fault : LineFault → Status
line_fault fault.Source = Source
line_fault fault.TooLong = TooLong
line_fault fault.NoMemory = NoMemory

-- the ends of a call that was asked for an image
abbrev pub is_makers : Status → Bool
is_makers Done = true
is_makers NoMemory = true
is_makers Sink = true
is_makers Disk = true
is_makers Sizes = true
is_makers _ = false

-- the ends of a run that refuses its image
abbrev pub is_refusers : Status → Bool
is_refusers Image = true
is_refusers NoMemory = true
is_refusers Sink = true
is_refusers Disk = true
is_refusers _ = false

-- the ends of a line that is not answered
abbrev pub is_stop : Status → Bool
is_stop NoMemory = true
is_stop Image = true
is_stop Disk = true
is_stop _ = false

-- the ends of a run that answers lines
abbrev pub is_answerers : Status → Bool
is_answerers Done = true
is_answerers NoMemory = true
is_answerers Image = true
is_answerers Source = true
is_answerers Sink = true
is_answerers Disk = true
is_answerers TooLong = true
is_answerers _ = false

-- the ends of a run
abbrev pub is_runners : Status → Bool
is_runners Words = false
is_runners Found = false
is_runners Sizes = false
is_runners _ = true

-- the ends of a call that was asked what an image is
abbrev pub is_checkers : Status → Bool
is_checkers Done = true
is_checkers NoMemory = true
is_checkers Sink = true
is_checkers Disk = true
is_checkers Found = true
is_checkers _ = false

-- the ends of a call that was asked for the generator's lines
abbrev pub is_generators : Status → Bool
is_generators Done = true
is_generators NoMemory = true
is_generators Image = true
is_generators Sink = true
is_generators Disk = true
is_generators Sizes = true
is_generators _ = false

-- Source, sink or disk met a fault exactly where the call ends for it, and then it alone and once: its count of faults
-- rose by one. Each other count is as it was, and so is each at every other end
pub record HasCauses (end : Status) (source_before source_now sink_before sink_now disk_before disk_now : ℕ)
    : Type 0 where
  pub source : HasEndCause Source source_before source_now end
  pub sink : HasEndCause Sink sink_before sink_now end
  pub disk : HasEndCause Disk disk_before disk_now end
