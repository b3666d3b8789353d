-- The first line of some bytes.
use Rattle.std.proofs.Common.{◌≡◌, ◌≢◌, ℕ, suc, ◌+◌, ◌<◌, List, [], ◌∷◌, ◌++◌, length, take, drop, get_or, All, refl}
use Rattle.std.proofs.Common.{sym, ap, ◌∙◌, arith, take-append-drop}
use Rattle.std.specs.List.{onto_first}
use Rattle.std.proofs.Math.Seq.{drop-cons}
use Rattle.std.proofs.lemmas.Bool.Decides.{nat_tests}
use Rattle.std.proofs.lemmas.List.Elements.{All-head, All-tail}
use Rattle.qg_grammar.specs.ScriptText.{script_lines}

-- no byte is a newline
abbrev pub HasNoNewline : List ℕ → Type 0
HasNoNewline bytes = All (λ byte. byte ≢ 10) bytes

no_newline-head : (byte : ℕ) (bytes : List ℕ) → HasNoNewline (byte ∷ bytes) → byte ≢ 10
no_newline-head byte bytes none = All-head (λ byte. byte ≢ 10) byte bytes none

no_newline-tail : (byte : ℕ) (bytes : List ℕ) → HasNoNewline (byte ∷ bytes) → HasNoNewline bytes
no_newline-tail byte bytes none = All-tail (λ byte. byte ≢ 10) byte bytes none

script_lines-cons : (byte : ℕ) (bytes : List ℕ) → byte ≢ 10
    → script_lines (byte ∷ bytes) ≡ onto_first byte (script_lines bytes)
script_lines-cons byte bytes other = grind (arith, nat_tests)

-- a line up to a newline
pub script_lines-newline : (line rest : List ℕ) → HasNoNewline line
    → script_lines (line ++ 10 ∷ rest) ≡ line ∷ script_lines rest
script_lines-newline [] rest none = refl
script_lines-newline (byte ∷ line) rest none =
    script_lines-cons byte (line ++ 10 ∷ rest) (no_newline-head byte line none)
    ∙ ap (λ (lines : List (List ℕ)). onto_first byte lines)
    (script_lines-newline line rest (no_newline-tail byte line none))

last-cons : (byte : ℕ) (line : List ℕ) → HasNoNewline (byte ∷ line) → script_lines (byte ∷ line) ≡ (byte ∷ line) ∷ []
last-cons byte [] none = script_lines-cons byte [] (no_newline-head byte [] none)
last-cons byte (next ∷ line) none =
    script_lines-cons byte (next ∷ line) (no_newline-head byte (next ∷ line) none)
    ∙ ap (λ (lines : List (List ℕ)). onto_first byte lines)
    (last-cons next line (no_newline-tail byte (next ∷ line) none))

-- a last line, which has no newline
pub script_lines-last : (line : List ℕ) → 0 < length line → HasNoNewline line → script_lines line ≡ line ∷ []
script_lines-last [] some none = absurd (omega arith)
script_lines-last (byte ∷ line) some none = last-cons byte line none

-- some bytes round a newline in them
pub at_newline : (bytes : List ℕ) (place : ℕ) → place < length bytes → get_or bytes place 0 ≡ 10
    → bytes ≡ take place bytes ++ 10 ∷ drop (place + 1) bytes
at_newline bytes place within is =
    let next : suc place ≡ place + 1 = omega arith in
    sym (take-append-drop place bytes)
    ∙ ap (λ (xs : List ℕ). take place bytes ++ xs) (drop-cons bytes place 0 within)
    ∙ ap (λ (byte : ℕ). take place bytes ++ byte ∷ drop (suc place) bytes) is
    ∙ ap (λ (n : ℕ). take place bytes ++ 10 ∷ drop n bytes) next
