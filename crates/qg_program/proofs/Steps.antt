-- Runs grow at their end, and so do bytes that are told.
use Rattle.std.proofs.Common.{◌≡◌, ℕ, List, [], ◌∷◌, ◌++◌, Option, Some, None, refl, sym, ap, ◌∙◌, subst, append_assoc}
use Rattle.std.specs.List.{concat}
use Rattle.std.specs.Io.KnownBytes.{append_known}
use Rattle.std.proofs.lemmas.List.{append-nil}
use Rattle.std.proofs.lemmas.List.Folds.{concat-append}
use Rattle.qg_image.specs.State.{State}
use Rattle.qg_machine.specs.Run.{Run, Turn}

pub append_known-nil : (told : Option (List ℕ)) → told ≡ append_known told []
append_known-nil None = refl
append_known-nil (Some bytes) = ap Some (sym (append-nil bytes))

pub append_known-more : (told : Option (List ℕ)) (bytes more : List ℕ)
    → append_known (append_known told bytes) more ≡ append_known told (bytes ++ more)
append_known-more None bytes more = refl
append_known-more (Some old) bytes more = ap Some (append_assoc old bytes more)

concat-snoc : (replies : List (List ℕ)) (reply : List ℕ) → concat (replies ++ reply ∷ []) ≡ concat replies ++ reply
concat-snoc replies reply =
    concat-append replies (reply ∷ []) ∙ ap (λ (bytes : List ℕ). concat replies ++ bytes) (append-nil reply)

-- one reply more
pub put-snoc : (told : Option (List ℕ)) (replies : List (List ℕ)) (reply : List ℕ)
    → append_known (append_known told (concat replies)) reply ≡ append_known told (concat (replies ++ reply ∷ []))
put-snoc told replies reply =
    append_known-more told (concat replies) reply ∙ ap (append_known told) (sym (concat-snoc replies reply))

-- one line more
pub run-snoc : (old mid new : State) (lines replies : List (List ℕ)) (line reply : List ℕ) (commits last : List State)
    → Run old lines replies commits mid → Turn mid line reply last new
    → Run old (lines ++ line ∷ []) (replies ++ reply ∷ []) (commits ++ last) new
run-snoc old mid new [] [] line reply commits last run turn =
    let begun : Turn old line reply last new = subst (λ (state : State). Turn state line reply last new) run.0 turn in
    (new, last, [], begun, (refl, refl), ap (λ (states : List State). states ++ last) run.1 ∙ sym (append-nil last))
run-snoc old mid new (first ∷ lines) (told ∷ replies) line reply commits last run turn = (
  run.0,
  run.1,
  run.2 ++ last,
  run.3,
  run-snoc run.0 mid new lines replies line reply run.2 last run.4 turn,
  ap (λ (states : List State). states ++ last) run.5 ∙ append_assoc run.1 run.2 last,
)
run-snoc old mid new [] (told ∷ replies) line reply commits last run turn = absurd run
run-snoc old mid new (first ∷ lines) [] line reply commits last run turn = absurd run
