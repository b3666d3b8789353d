-- The text of a number, as `clap` and a test of its first byte see it.
use Rattle.std.proofs.Common.{◌≡◌, ◌∙◌, ◌<◌, ◌^◌, ℕ, Bool, true, false, List, [], ◌∷◌, refl, ap}
use Rattle.std.proofs.Common.{arith}
use Rattle.std.specs.Prelude.{◌==◌, cond, drop, slice_index}
use Rattle.std.specs.Fmt.{decimal}
use Rattle.std.specs.Str.Parse.{AllDigits, digits_value, without_leading_plus}
use Rattle.std.proofs.lemmas.Bool.{false_from_ne_true}
use Rattle.std.proofs.lemmas.Fmt.{decimal_is_IsNumeral}
use Rattle.std.proofs.lemmas.Str.Parse.{digit_from_value}
use Rattle.clap.specs.ValueTests.{accepts}
use Rattle.clap.specs.Values.{IsUnsignedIn}
use Rattle.clap.specs.declared.builder.value_parser.ValueParser.TheVariants as vp
use Rattle.clap.proofs.ValueTestLemmas.{Accepts-accepts}
use Rattle.qg_words.proofs.Steps.{IsPlain}

-- the first byte of digits is none that is no digit
first_digit : (other : ℕ) (text : List ℕ) → AllDigits 10 text → 0 < other → other < 48
    → (slice_index text 0 == other) ≡ false
first_digit other [] digits some low = false_from_ne_true (0 == other) (λ same. grind arith)
first_digit other (x ∷ xs) digits some low =
    let digit = digit_from_value x digits.0 in
    false_from_ne_true (x == other) (λ same. grind arith)

plain_digits : (text : List ℕ) → (slice_index text 0 == 45) ≡ false → IsPlain text
plain_digits [] first = refl
plain_digits (x ∷ xs) first = rw first refl

-- a number's text begins with no hyphen
pub no_hyphen-decimal : (n : ℕ) → n < 2 ^ 64 → (slice_index (decimal n) 0 == 45) ≡ false
no_hyphen-decimal n fits = first_digit 45 (decimal n) (decimal_is_IsNumeral n fits).0.1 (omega arith) (omega arith)

pub plain-decimal : (n : ℕ) → n < 2 ^ 64 → IsPlain (decimal n)
plain-decimal n fits = plain_digits (decimal n) (no_hyphen-decimal n fits)

without_plus : (n : ℕ) → n < 2 ^ 64 → without_leading_plus (decimal n) ≡ decimal n
without_plus n fits = ap (λ (is : Bool). drop (cond is 1 0) (decimal n))
    (first_digit 43 (decimal n) (decimal_is_IsNumeral n fits).0.1 (omega arith) (omega arith))

decimal_in : (n : ℕ) (text : List ℕ) → n < 2 ^ 64 → text ≡ decimal n → without_leading_plus (decimal n) ≡ text
    → IsUnsignedIn 0 18446744073709551615 (decimal n)
decimal_in n text fits is without =
    let numeral = decimal_is_IsNumeral n fits in
    let same : without_leading_plus (decimal n) ≡ decimal n = without ∙ is in
    let reads : digits_value 10 (without_leading_plus (decimal n)) ≡ n = ap (digits_value 10) same ∙ numeral.1 in
    (rw same numeral.0, omega (arith, reads), omega arith, omega (arith, reads))

-- and passes the parser of a number below 2^64
pub accepts-decimal : (n : ℕ) → n < 2 ^ 64 → accepts false (vp.Unsigned 0 18446744073709551615) (decimal n) ≡ true
accepts-decimal n fits = Accepts-accepts false (vp.Unsigned 0 18446744073709551615) (decimal n)
    (decimal_in n (decimal n) fits refl (without_plus n fits))
