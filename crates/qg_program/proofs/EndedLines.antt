-- The lines of some bytes that end at a newline.
use Rattle.std.proofs.Common.{◌≡◌, ◌≢◌, ℕ, suc, List, [], ◌∷◌, ◌++◌, take, refl, ap, ◌∙◌, cond, arith}
use Rattle.std.specs.Prelude.{◌==◌}
use Rattle.std.specs.List.{count_by}
use Rattle.std.proofs.lemmas.Bool.Decides.{nat_tests}
use Rattle.std.proofs.lemmas.List.Elements.{All-head, All-tail}
use Rattle.std.proofs.lemmas.List.Sums.{sum_by-append, sum_by-cons}
use Rattle.qg_grammar.specs.ScriptText.{script_lines}
use Rattle.qg_script.proofs.FirstLine.{HasNoNewline, script_lines-newline}
use Rattle.qg_program.specs.Running.{ended_lines}

abbrev newlines : List ℕ → ℕ
newlines bytes = count_by (λ byte. byte == 10) bytes

abbrev one : ℕ → ℕ
one byte = cond (byte == 10) 1 0

none-one : (byte : ℕ) → byte ≢ 10 → one byte ≡ 0
none-one byte other = grind (arith, nat_tests)

newlines-none : (line : List ℕ) → HasNoNewline line → newlines line ≡ 0
newlines-none [] none = refl
newlines-none (byte ∷ line) none =
    let first = none-one byte (All-head (λ byte. byte ≢ 10) byte line none) in
    let others = newlines-none line (All-tail (λ byte. byte ≢ 10) byte line none) in
    omega (arith, sum_by-cons one byte line, first, others)

newlines-line : (line tail : List ℕ) → HasNoNewline line → newlines (line ++ 10 ∷ tail) ≡ suc (newlines tail)
newlines-line line tail none =
    omega (arith, sum_by-append one line (10 ∷ tail), newlines-none line none, sum_by-cons one 10 tail)

-- a line in front of others
pub ended_lines-line : (line tail : List ℕ) → HasNoNewline line
    → ended_lines (line ++ 10 ∷ tail) ≡ line ∷ ended_lines tail
ended_lines-line line tail none =
    ap (λ (n : ℕ). take n (script_lines (line ++ 10 ∷ tail))) (newlines-line line tail none)
    ∙ ap (λ (lines : List (List ℕ)). take (suc (newlines tail)) lines) (script_lines-newline line tail none)

-- where no byte is a newline, no line ends
pub ended_lines-none : (bytes : List ℕ) → HasNoNewline bytes → ended_lines bytes ≡ []
ended_lines-none bytes none = ap (λ (n : ℕ). take n (script_lines bytes)) (newlines-none bytes none)
