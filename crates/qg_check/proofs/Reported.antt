-- What is told of an image that was judged.
use Rattle.std.proofs.Common.{◌≡◌, ℕ, List, Err, inl, inr, refl, sym, subst}
use Rattle.std.specs.Prelude.{IfOk, Result}
use Rattle.qg_device.specs.Cause.{HasCause}
use Rattle.qg_device.proofs.Causes.{cause-still}
use Rattle.qg_image.specs.Verdict.{verdict}
use Rattle.qg_walk.specs.declared.fault.OpenFault.{OpenFault}
use Rattle.qg_walk.specs.declared.fault.OpenFault.TheVariants as opening
use Rattle.qg_walk.specs.Fault.{TellsFailure}
use Rattle.qg_check.specs.Report.{IsReportOn, report_of}
use Rattle.qg_check.specs.declared.report.CheckFault.{CheckFault}
use Rattle.qg_check.specs.declared.report.CheckFault.TheVariants as check
use Rattle.qg_check.specs.declared.report.Report.{Report}

-- of one that could not be opened the failure is told
report-fault : (bytes : List ℕ) (fault : OpenFault) → TellsFailure fault (verdict bytes)
    → IfOk (report_of fault) (IsReportOn bytes)
report-fault bytes (opening.Broken rule address) told = told
report-fault bytes (opening.Differs group which stored counted) told = told
report-fault bytes opening.Disk told = tt
report-fault bytes opening.NoMemory told = tt

pub report-told : (bytes : List ℕ) (fault : OpenFault) (result : Result Report CheckFault) → result ≡ report_of fault
    → TellsFailure fault (verdict bytes)
    → IfOk result (λ report. IsReportOn bytes report)
report-told bytes fault result is told =
    subst (λ (r : Result Report CheckFault). IfOk r (IsReportOn bytes)) (sym is) (report-fault bytes fault told)

-- and the disk's fault as that, which is met there alone
fault-cause : {A : Type 0} (before now : ℕ) (fault : OpenFault) → HasCause {T = A} opening.Disk before now (Err fault)
    → HasCause check.Disk before now (report_of fault)
fault-cause {A} before now (opening.Broken rule address) cause = record {
  fine = cause-still {T = A} before now (Err (opening.Broken rule address)) (λ is. cc) cause;
  met = tt;
}
fault-cause {A} before now (opening.Differs group which stored counted) cause = record {
  fine = cause-still {T = A} before now (Err (opening.Differs group which stored counted)) (λ is. cc) cause;
  met = tt;
}
fault-cause {A} before now opening.Disk cause = record {
  fine = tt;
  met = elim cause.met [
    | inl met ↦ inl (refl, met.1)
    | inr none ↦ absurd (none.0 refl)
  ];
}
fault-cause {A} before now opening.NoMemory cause = record {
  fine = tt;
  met = inr ((λ is. cc), cause-still {T = A} before now (Err opening.NoMemory) (λ is. cc) cause);
}

pub report-cause : {A : Type 0} (before now : ℕ) (fault : OpenFault) (result : Result Report CheckFault)
    → result ≡ report_of fault → HasCause {T = A} opening.Disk before now (Err fault)
    → HasCause check.Disk before now result
report-cause before now fault result is cause =
    subst (λ (r : Result Report CheckFault). HasCause check.Disk before now r) (sym is)
    (fault-cause before now fault cause)
