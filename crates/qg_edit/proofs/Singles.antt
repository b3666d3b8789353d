-- One pointer in the place of another.
use Rattle.std.proofs.Common.{◌≡◌, ℕ, ◌+◌, ◌-◌, ◌≤◌, ◌<◌, List, [], ◌∷◌, ◌++◌, length, take, drop, get_or, set}
use Rattle.std.proofs.Common.{append_assoc, arith, sym, ap, ◌∙◌}
use Rattle.std.proofs.lemmas.List.{drop-set, take-append-drop, take-set}
use Rattle.qg_node.specs.declared.pointer.Pointer.{Pointer}
use Rattle.qg_edit.specs.Outcome.{spliced}

put_one : (from : ℕ) (one : Pointer) (pointers : List Pointer) → from < length pointers
    → set pointers from one ≡ spliced from (from + 1) (one ∷ []) pointers
put_one from one pointers inside =
    sym (take-append-drop from (set pointers from one))
    ∙ ap (λ (ps : List Pointer). ps ++ drop from (set pointers from one)) (take-set pointers from one)
    ∙ ap (λ (ps : List Pointer). take from pointers ++ ps) (drop-set pointers from one inside)
    ∙ sym (append_assoc (take from pointers) (one ∷ []) (drop (from + 1) pointers))

pub spliced-one : (from to : ℕ) (new : List Pointer) (one : Pointer) (pointers : List Pointer) → 1 ≤ length new
    → length new < 2 → one ≡ get_or new 0 one → to - from ≡ 1 → to ≤ length pointers
    → set pointers from one ≡ spliced from to new pointers
spliced-one from to [] one pointers some few is width within = absurd (omega (arith, some))
spliced-one from to (first ∷ []) one pointers some few is width within =
    let end : from + 1 ≡ to = omega (arith, width) in
    put_one from one pointers (omega (arith, width, within))
    ∙ ap (λ (p : Pointer). spliced from (from + 1) (p ∷ []) pointers) is
    ∙ ap (λ (n : ℕ). spliced from n (first ∷ []) pointers) end
spliced-one from to (first ∷ second ∷ new) one pointers some few is width within = absurd (omega (arith, few))
