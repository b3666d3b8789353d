-- What is said of a result.
use Rattle.std.specs.Prelude.{OnOk, Result, Ok, Err}

pub on-ok : {A E : Type 0} (P Q : Type 0) (result : Result A E) → (P → Q) → OnOk result P → OnOk result Q
on-ok P Q (Ok value) then said = then said
on-ok P Q (Err fault) then said = tt
