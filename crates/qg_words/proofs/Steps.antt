-- What `clap` makes of a word that begins with no hyphen, where a positional is next.
use Rattle.std.proofs.Common.{◌≡◌, ◌∙◌, ℕ, Bool, true, false, List, [], ◌∷◌, Some, None, refl, subst, ap}
use Rattle.std.specs.Prelude.{◌&&◌}
use Rattle.std.specs.Str.{bytes_eq}
use Rattle.std.proofs.lemmas.Bool.{false_from_ne_true}
use Rattle.std.proofs.lemmas.Slice.Eq.{bytes_eq-Decides}
use Rattle.clap.specs.Lexer.{strip_byte}
use Rattle.clap.specs.Simple.{Shape}
use Rattle.clap.specs.Takes.{step_passes, turn_passes, walk_passes}
use Rattle.clap.specs.Walk.{Held, Rule, Step, Text, Walk, after_step, arg_by_index, idle, to_positional, value, walked}
use Rattle.clap.specs.Walk.{word_met}

-- the text begins with no hyphen
abbrev pub IsPlain : Text → Type 0
IsPlain word = strip_byte 45 word ≡ None

pub both_true : {x y : Bool} → x ≡ true → y ≡ true → (x && y) ≡ true
both_true first second = rw (first, second) refl

no_dashes : (word : Text) → IsPlain word → bytes_eq word (45 ∷ 45 ∷ []) ≡ false
no_dashes word plain = false_from_ne_true (bytes_eq word (45 ∷ 45 ∷ [])) (λ same.
    let bad : Some (45 ∷ []) ≡ None = subst IsPlain ((bytes_eq-Decides word (45 ∷ 45 ∷ [])).0 same) plain in cc)

-- where a walk stands before the positional of this place
abbrev pub before : Held → ℕ → Walk
before h place = record { held = h; waiting = idle; position = place; is_trailing = false; stopped = None }

met : (c : List Rule) (word : Text) (place : ℕ) (h : Held) → IsPlain word
    → word_met c [] false idle place word h ≡ (h, value)
met c word place h plain = rw (no_dashes word plain, plain, plain) refl

pub stepped :
    (c : List Rule) (word : Text) (place : ℕ) (h : Held) → IsPlain word
    → walked c [] (before h place) word ≡ to_positional c (arg_by_index c place) word (before h place) h
unfolding walked
stepped c word place h plain =
    ap (λ (found : Held × Step). after_step c word (before h place) found.0 found.1) (met c word place h plain)

turned : (s : Shape) (word : Text) (place : ℕ) (h : Held) → IsPlain word
    → turn_passes s [] (before h place) word ≡ step_passes s place h value
turned s word place h plain = rw (no_dashes word plain, plain, plain) refl

-- a word and then others pass, where the word's positional does, and the others do behind it
pub word_passes :
    (s : Shape) (word : Text) (rest : List Text) (place : ℕ) (h : Held) → IsPlain word
    → step_passes s place h value ≡ true
    → walk_passes s [] (to_positional s.rules (arg_by_index s.rules place) word (before h place) h) rest ≡ true
    → walk_passes s [] (before h place) (word ∷ rest) ≡ true
unfolding walk_passes
word_passes s word rest place h plain step behind =
    both_true (turned s word place h plain ∙ step)
    (ap (λ (w : Walk). walk_passes s [] w rest) (stepped s.rules word place h plain) ∙ behind)
