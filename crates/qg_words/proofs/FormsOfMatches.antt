-- The form of what `clap` tells.
use Rattle.std.proofs.Common.{◌≡◌, ◌∙◌, ◌<◌, ◌^◌, ℕ, List, true, Option, Some, None, Result, Err, Ok, refl, sym}
use Rattle.std.proofs.Common.{ap, arith, get_or, subst}
use Rattle.std.specs.Prelude.{Box, codes, option_map}
use Rattle.std.specs.Box.{box_value}
use Rattle.std.specs.Fmt.{decimal}
use Rattle.std.specs.Str.Parse.{ParsesUnsigned}
use Rattle.std.proofs.lemmas.Fmt.{parse-decimal}
use Rattle.clap.specs.Matches.{ReadsOne, subcommand_name_of}
use Rattle.clap.specs.Simple.{App, HasMatchesOf, is_simple, subcommand_of, subcommand_rows, subcommand_rows_of}
use Rattle.clap.specs.Walk.{Row, Text}
use Rattle.clap.specs.declared.parser.matches.ArgMatches.{ArgMatches}
use Rattle.clap.specs.declared.parser.matches.ArgMatches.TheViews.{out-ArgMatches, out-SubCommand}
use Rattle.clap.specs.declared.parser.matches.SubCommand.{SubCommand}
use Rattle.qg_super.specs.declared.sizes.Sizes.{Sizes}
use Rattle.qg_words.specs.declared.form.Form.{Form}
use Rattle.qg_words.specs.declared.form.Form.TheVariants.{Mkfs, Run, Check, Generate}
use Rattle.qg_words.specs.Command.{Tell, TellLines, TellSizes, TellsForm, line_app}
use Rattle.qg_words.specs.Words.{AskFor}
use Rattle.qg_words.proofs.Line.{form_told}

read-one : {E : Type 0} (r : Result ℕ E) (m n : ℕ) → r ≡ Ok m → r ≡ Ok n → m ≡ n
read-one r m n is_one is_other = cc

read-none : {E : Type 0} (r : Result ℕ E) (e : E) (n : ℕ) → r ≡ Err e → r ≡ Ok n → ⊥
read-none r e n is_none is_other = cc

-- a number is read of its text
pub number-read : {E : Type 0} (gives : List ℕ → Result ℕ E → Type 0)
    → ((text : List ℕ) (r : Result ℕ E) → gives text r → ParsesUnsigned 64 10 text r) → (found : Option ℕ) (n : ℕ)
    → n < 2 ^ 64 → ReadsOne gives (decimal n) found → found ≡ Some n
number-read {E} gives parses (Some m) n fits reads = ap Some (read-one {E = E} (Ok m) m n refl
    (parse-decimal 64 n (decimal n) (Ok m) fits fits refl (parses (decimal n) (Ok m) reads)))
number-read {E} gives parses None n fits reads = absurd (read-none {E = E} (Err reads.0) reads.0 n refl
    (parse-decimal 64 n (decimal n) (Err reads.0) fits fits refl (parses (decimal n) (Err reads.0) reads.1)))

-- ---- the name tells the form

-- names begin with different bytes
abbrev first : Text → ℕ
first text = get_or text 0 0

apart : {name : Text} (one other : Text) → name ≡ one → name ≡ other → (first one ≡ first other → ⊥) → ⊥
apart one other is_one is_other differ = differ (ap first (sym is_one ∙ is_other))

pub run-told : (name : Text) (rows : List Row) (form : Form) → name ≡ codes "run" → Tell name rows form → Run ≡ form
run-told name rows (Mkfs sizes) named tell =
    absurd (apart (codes "run") (codes "mkfs") named tell.0 (λ same. omega (arith, same)))
run-told name rows Run named tell = refl
run-told name rows Check named tell =
    absurd (apart (codes "run") (codes "check") named tell (λ same. omega (arith, same)))
run-told name rows (Generate seed count) named tell =
    absurd (apart (codes "run") (codes "gen") named tell.0 (λ same. omega (arith, same)))

pub check-told : (name : Text) (rows : List Row) (form : Form) → name ≡ codes "check" → Tell name rows form
    → Check ≡ form
check-told name rows (Mkfs sizes) named tell =
    absurd (apart (codes "check") (codes "mkfs") named tell.0 (λ same. omega (arith, same)))
check-told name rows Run named tell =
    absurd (apart (codes "check") (codes "run") named tell (λ same. omega (arith, same)))
check-told name rows Check named tell = refl
check-told name rows (Generate seed count) named tell =
    absurd (apart (codes "check") (codes "gen") named tell.0 (λ same. omega (arith, same)))

pub lines-told : (name : Text) (rows : List Row) (form : Form) (seed count : ℕ) → name ≡ codes "gen"
    → ((s n : ℕ) → TellLines rows s n → (seed ≡ s) × (count ≡ n)) → Tell name rows form → Generate seed count ≡ form
lines-told name rows (Mkfs sizes) seed count named read tell =
    absurd (apart (codes "gen") (codes "mkfs") named tell.0 (λ same. omega (arith, same)))
lines-told name rows Run seed count named read tell =
    absurd (apart (codes "gen") (codes "run") named tell (λ same. omega (arith, same)))
lines-told name rows Check seed count named read tell =
    absurd (apart (codes "gen") (codes "check") named tell (λ same. omega (arith, same)))
lines-told name rows (Generate s n) seed count named read tell =
    let same = read s n tell.1 in rw (same.0, same.1) refl

pub sizes-told : (name : Text) (rows : List Row) (form : Form) (sizes : Sizes) → (name ≡ codes "run" → ⊥)
    → (name ≡ codes "check" → ⊥) → (name ≡ codes "gen" → ⊥) → ((other : Sizes) → TellSizes rows other → sizes ≡ other)
    → Tell name rows form → Mkfs sizes ≡ form
sizes-told name rows (Mkfs other) sizes run check lines read tell = ap Mkfs (read other tell.1)
sizes-told name rows Run sizes run check lines read tell = absurd (run tell)
sizes-told name rows Check sizes run check lines read tell = absurd (check tell)
sizes-told name rows (Generate seed count) sizes run check lines read tell = absurd (lines tell.0)

-- ---- what is told of the subcommand that was met

module _ {Z : Type 0} where
  pub name-row : (met : Option (Box SubCommand Z))
      → option_map (λ b. (out-SubCommand (box_value b)).name.now) met ≡ option_map (λ p. p.0) (subcommand_rows met)
  name-row None = refl
  name-row (Some found) = refl

-- by its name and its rows
pub met-told : (m : ArgMatches) (name : Text) (rows : List Row) (form : Form) → Some name ≡ subcommand_name_of m
    → Some rows ≡ option_map (λ p. p.1) (subcommand_rows_of m) → TellsForm (subcommand_rows_of m) form
    → Tell name rows form
met-told m name rows form is_name is_rows told =
    let names : Some name ≡ Some told.0 =
    is_name ∙ name-row (out-ArgMatches m).subcommand ∙ ap (option_map (λ (p : Text × List Row). p.0)) told.2 in
    let all : Some rows ≡ Some told.1 = is_rows ∙ ap (option_map (λ (p : Text × List Row). p.1)) told.2 in
    let one : told.0 ≡ name = cc in
    let other : told.1 ≡ rows = cc in
    subst (λ (n : Text). Tell n rows form) one (subst (λ (r : List Row). Tell told.0 r form) other told.3)

-- there is one, where a form is told
pub none-told : (m : ArgMatches) (form : Form) → None ≡ subcommand_name_of m → TellsForm (subcommand_rows_of m) form → ⊥
none-told m form is_name told =
    let names : None ≡ Some told.0 =
    is_name ∙ name-row (out-ArgMatches m).subcommand ∙ ap (option_map (λ (p : Text × List Row). p.0)) told.2 in
    cc

-- ---- a parse of words that ask for a form

line_simple : is_simple line_app ≡ true
line_simple = refl

pub parsed-told : (app : App) (words : List Text) (m : ArgMatches) (form : Form) → app ≡ line_app
    → HasMatchesOf app words m → AskFor words form → TellsForm (subcommand_rows_of m) form
parsed-told app words m form is has ask =
    let rows : subcommand_rows_of m ≡ subcommand_of line_app words =
    (has (ap is_simple is ∙ line_simple)).1 ∙ ap (λ (a : App). subcommand_of a words) is in
    let told = form_told words form ask in
    (told.0, told.1, rows ∙ told.2, told.3)
