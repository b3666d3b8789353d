-- What is said of an image that is judged (this project's own).
use Rattle.std.specs.Prelude.{◌≡◌, ℕ, List, Option}
use Rattle.std.specs.Io.KnownBytes.{append_known}
use Rattle.qg_device.specs.History.{Event, History, Recorded, content}
use Rattle.qg_edge.specs.Appended.{AppendsFront}
use Rattle.qg_grammar.specs.FailureText.{broken_text, differs_text}
use Rattle.qg_script.specs.ReportText.{sound_text}
use Rattle.qg_store.specs.Report.{IsReportOn}
use Rattle.qg_store.specs.Types.{Report}
use Rattle.qg_store.specs.Types.{Sound, Broken, Differs}
use Rattle.qg_program.specs.declared.status.Status.{Status}
use Rattle.qg_program.specs.declared.status.Status.TheVariants as status

-- the line that says what an image is
abbrev pub report_text : Report → List ℕ
report_text (Sound generation) = sound_text generation
report_text (Broken rule address) = broken_text rule address
report_text (Differs group which stored counted) = differs_text group which stored counted

-- the status that goes with it
abbrev pub report_end : Report → Status
report_end (Sound generation) = status.Done
report_end (Broken rule address) = status.Found
report_end (Differs group which stored counted) = status.Found

-- what is put where a report is said, by how that ended
abbrev pub Says : Status → Report → Option (List ℕ) → Option (List ℕ) → Type 0
Says status.Sink report old new = AppendsFront old new (report_text report)
Says status.NoMemory report old new = new ≡ old
Says end report old new = (report_end report ≡ end) × (new ≡ append_known old (report_text report))

-- a report is right of what a disk with this history holds, where the disk tells it
abbrev pub IsRightOver : History → Report → Type 0
IsRightOver history report = (events : List Event) → history ≡ Recorded events → IsReportOn (content events) report

-- such a report ends with this status, and its line was put
pub record Reports (end : Status) (history : History) (old new : Option (List ℕ)) : Type 0 where
  pub report : Report
  pub right : IsRightOver history report
  pub ends : report_end report ≡ end
  pub put : new ≡ append_known old (report_text report)

-- a front of its line was put
pub record ReportsPart (history : History) (old new : Option (List ℕ)) : Type 0 where
  pub report : Report
  pub right : IsRightOver history report
  pub put : AppendsFront old new (report_text report)

-- An image is judged, by how that ended: the line that says what it is was put, at Done where it is sound, at Found
-- where it is not; a front of it where the sink failed; nothing where memory was refused or the disk failed. It ends in
-- no other way.
abbrev pub Checks : Status → History → Option (List ℕ) → Option (List ℕ) → Type 0
Checks status.Done history old new = Reports status.Done history old new
Checks status.Found history old new = Reports status.Found history old new
Checks status.Sink history old new = ReportsPart history old new
Checks status.NoMemory history old new = new ≡ old
Checks status.Disk history old new = new ≡ old
Checks _ history old new = ⊥
