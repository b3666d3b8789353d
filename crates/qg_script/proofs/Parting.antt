-- A line has one first word, and a text one next number.
use Rattle.std.proofs.Common.{◌≡◌, ◌≢◌, ℕ, ◌+◌, ◌-◌, ◌%◌, ◌<◌, ◌^◌, List, [], ◌∷◌, ◌++◌, length, take, drop, get_or}
use Rattle.std.proofs.Common.{set, All, Option, Some, None, refl, sym, ap, ◌∙◌, subst, arith, add-one, append_assoc}
use Rattle.std.specs.Prelude.{IfNone, ◌==◌, not, true}
use Rattle.std.specs.Fmt.{decimal}
use Rattle.std.specs.List.{flat_map, list_all}
use Rattle.std.proofs.Math.Seq.{drop-cons}
use Rattle.std.proofs.lemmas.Bool.{and_parts}
use Rattle.std.proofs.lemmas.Bool.Decides.{nat_tests}
use Rattle.std.proofs.lemmas.Fmt.{decimal_by_steps, decimal_injective}
use Rattle.std.proofs.lemmas.List.{length-drop, take_all, flat_map_more, take_more_set}
use Rattle.std.proofs.lemmas.List.Elements.{All-nil, All-cons, All-head, All-tail, All-append}
use Rattle.qg_grammar.specs.ScriptText.{then_number}
use Rattle.qg_script.specs.Reading.{IsBehindWord, IsParted, IsNextNumber, AreNumbers}

-- what holds is said of none
pub if_none : {A : Type 0} {P : Type 0} (found : Option A) → P → IfNone found P
if_none None holds = holds
if_none (Some x) holds = tt

-- no byte is a space
abbrev pub HasNoSpace : List ℕ → Type 0
HasNoSpace bytes = All (λ byte. byte ≢ 32) bytes

-- a word that is written out
pub plain_word : (word : List ℕ) → list_all (λ byte. not (byte == 32)) word ≡ true → HasNoSpace word
plain_word [] is = All-nil (λ byte. byte ≢ 32)
plain_word (byte ∷ word) is =
    let parts = and_parts (not (byte == 32)) (list_all (λ byte. not (byte == 32)) word) is in
    All-cons (λ byte. byte ≢ 32) byte word (grind (arith, nat_tests, parts.0)) (plain_word word parts.1)

pub space_behind : (bytes : List ℕ) (place : ℕ) → place < length bytes → get_or bytes place 0 ≡ 32
    → IsBehindWord (drop place bytes)
space_behind bytes place within is = subst IsBehindWord (sym (drop-cons bytes place 0 within)) is

digit_has_no_space : (n : ℕ) → n < 10 → HasNoSpace ((48 + n) ∷ [])
digit_has_no_space n small =
    let other : 48 + n ≢ 32 = λ is. omega arith in
    All-cons (λ byte. byte ≢ 32) (48 + n) [] other (All-nil (λ byte. byte ≢ 32))

pub decimal_has_no_space : (n : ℕ) → n < 2 ^ 64 → HasNoSpace (decimal n)
decimal_has_no_space = decimal_by_steps (λ n digits. HasNoSpace digits) digit_has_no_space
    (λ n digits large front. All-append (λ byte. byte ≢ 32) digits ((48 + n % 10) ∷ []) front
    (digit_has_no_space (n % 10) (omega arith)))

-- two ways of parting the same bytes are one
pub same_parts : (a b rest behind : List ℕ) → HasNoSpace a → HasNoSpace b → IsBehindWord rest → IsBehindWord behind
    → a ++ rest ≡ b ++ behind → (a ≡ b) × (rest ≡ behind)
same_parts [] [] rest behind plain other first last same = (refl, same)
same_parts [] (y ∷ b) [] behind plain other first last same = absurd cc
same_parts [] (y ∷ b) (x ∷ rest) behind plain other first last same =
    let is : x ≡ y = cc in
    absurd (All-head (λ byte. byte ≢ 32) y b other (sym is ∙ first))
same_parts (x ∷ a) [] rest [] plain other first last same = absurd cc
same_parts (x ∷ a) [] rest (y ∷ behind) plain other first last same =
    let is : x ≡ y = cc in
    absurd (All-head (λ byte. byte ≢ 32) x a plain (is ∙ last))
same_parts (x ∷ a) (y ∷ b) rest behind plain other first last same =
    let head : x ≡ y = cc in
    let tail : a ++ rest ≡ b ++ behind = cc in
    let parts = same_parts a b rest behind (All-tail (λ byte. byte ≢ 32) x a plain)
    (All-tail (λ byte. byte ≢ 32) y b other) first last tail in
    let front : a ≡ b = parts.0 in
    (cc, parts.1)

pub parted_once : {bytes a b rest behind : List ℕ} → IsParted bytes a rest → IsParted bytes b behind
    → (a ≡ b) × (rest ≡ behind)
parted_once {bytes} {a} {b} {rest} {behind} one other =
    same_parts a b rest behind one.plain other.plain one.behind other.behind (sym one.whole ∙ other.whole)

-- behind the space that a number stands behind its digits are the first word
pub number_parted : {text rest : List ℕ} {n : ℕ} → IsNextNumber text n rest
    → IsParted (take (length text - 1) (drop 1 text)) (decimal n) rest
number_parted {text} {rest} {n} next =
    let all : take (length text - 1) (drop 1 text) ≡ drop 1 text =
    take_all (length text - 1) (drop 1 text) (omega (arith, length-drop 1 text)) in
    record { whole = all ∙ ap (drop 1) next.whole; plain = decimal_has_no_space n next.fits; behind = next.behind }

-- the number that a text begins with is one, and so is what is behind it
pub next_once : {text : List ℕ} {n m : ℕ} {rest behind : List ℕ} → IsNextNumber text n rest → IsNextNumber text m behind
    → (n ≡ m) × (rest ≡ behind)
next_once {text} {n} {m} {rest} {behind} one other =
    let whole : 32 ∷ (decimal n ++ rest) ≡ 32 ∷ (decimal m ++ behind) = sym one.whole ∙ other.whole in
    let same : decimal n ++ rest ≡ decimal m ++ behind = cc in
    let parts = same_parts (decimal n) (decimal m) rest behind (decimal_has_no_space n one.fits)
    (decimal_has_no_space m other.fits) one.behind other.behind same in
    (decimal_injective n m one.fits other.fits parts.0, parts.1)

-- ---- several numbers

pub numbers_behind : (numbers : List ℕ) → IsBehindWord (flat_map then_number numbers)
numbers_behind [] = tt
numbers_behind (number ∷ numbers) = refl

-- a text of numbers begins with the first of them
pub begins_with : (numbers : List ℕ) (place : ℕ) {text : List ℕ} → place < length numbers
    → All (λ n. n < 2 ^ 64) numbers → text ≡ flat_map then_number (drop place numbers)
    → IsNextNumber text (get_or numbers place 0) (flat_map then_number (drop (place + 1) numbers))
begins_with numbers place {text} within fit is =
    let split = drop-cons numbers place 0 within in
    record {
      whole = is ∙ ap (flat_map then_number) split ∙ rw add-one refl;
      fits = fit place 0 within;
      behind = numbers_behind (drop (place + 1) numbers);
    }

-- what is behind the first of some numbers is what the others have
pub behind_first : (numbers : List ℕ) (place : ℕ) {text rest : List ℕ} {n : ℕ} → place < length numbers
    → All (λ n. n < 2 ^ 64) numbers
    → text ≡ flat_map then_number (drop place numbers) → IsNextNumber text n rest
    → rest ≡ flat_map then_number (drop (place + 1) numbers)
behind_first numbers place within fit is next = (next_once next (begins_with numbers place within fit is)).1

-- one number more was read
pub one_more : (numbers : List ℕ) (place : ℕ) {text rest behind : List ℕ} {n : ℕ} → place < length numbers
    → text ≡ flat_map then_number (take place numbers) ++ rest
    → IsNextNumber rest n behind → text ≡ flat_map then_number (take (place + 1) (set numbers place n)) ++ behind
one_more numbers place {text} {rest} {behind} {n} within read next =
    let front = take place numbers in
    read
    ∙ ap (λ (xs : List ℕ). flat_map then_number front ++ xs) next.whole
    ∙ sym (append_assoc (flat_map then_number front) (then_number n) behind)
    ∙ ap (λ (xs : List ℕ). xs ++ behind) (flat_map_more then_number [] front n)
    ∙ ap (λ (xs : List ℕ). flat_map then_number xs ++ behind) (sym (take_more_set numbers place n within))

same_numbers : (numbers others : List ℕ) → All (λ n. n < 2 ^ 64) numbers → All (λ n. n < 2 ^ 64) others
    → flat_map then_number numbers ≡ flat_map then_number others
    → numbers ≡ others
same_numbers [] [] fit other same = refl
same_numbers [] (m ∷ others) fit other same = absurd cc
same_numbers (n ∷ numbers) [] fit other same = absurd cc
same_numbers (n ∷ numbers) (m ∷ others) fit other same =
    let one : IsNextNumber (flat_map then_number (n ∷ numbers)) n (flat_map then_number numbers) =
    record { whole = refl; fits = All-head (λ n. n < 2 ^ 64) n numbers fit; behind = numbers_behind numbers } in
    let two : IsNextNumber (flat_map then_number (n ∷ numbers)) m (flat_map then_number others) =
    record { whole = same; fits = All-head (λ n. n < 2 ^ 64) m others other; behind = numbers_behind others } in
    let next = next_once one two in
    let first : n ≡ m = next.0 in
    let tail : numbers ≡ others =
    same_numbers numbers others (All-tail (λ n. n < 2 ^ 64) n numbers fit) (All-tail (λ n. n < 2 ^ 64) m others other)
    next.1 in
    cc

-- the numbers of a text are these alone
pub number_at : {count : ℕ} {text numbers others : List ℕ} (place : ℕ) → AreNumbers count text numbers
    → AreNumbers count text others → get_or others place 0 ≡ get_or numbers place 0
number_at {count} {text} {numbers} {others} place are other =
    ap (λ (xs : List ℕ). get_or xs place 0) (same_numbers others numbers other.fit are.fit (sym other.whole
    ∙ are.whole))
