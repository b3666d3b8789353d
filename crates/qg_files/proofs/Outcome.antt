-- What holds of a value that a call may have changed.
use Rattle.std.proofs.Common.{◌≡◌, sym, subst}
use Rattle.std.specs.Prelude.{Result, Ok, Err, OnOk, OnErr}

-- what holds of both outcomes holds
pub either_way : {A T E : Type 0} (P : A → Type 0) (new a b : A) (r : Result T E) → OnOk r (new ≡ a) → OnErr r (new ≡ b)
    → P a → P b → P new
either_way P new a b (Ok x) ok err at_ok at_err = subst P (sym ok) at_ok
either_way P new a b (Err e) ok err at_ok at_err = subst P (sym err) at_err
