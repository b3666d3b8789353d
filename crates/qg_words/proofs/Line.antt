-- What `clap` makes of words that have a form: it takes them, and tells that form.
use Rattle.std.proofs.Common.{◌≡◌, ◌∙◌, ℕ, Bool, true, false, List, [], ◌∷◌, Some, None, refl, ap}
use Rattle.std.proofs.Common.{get_or}
use Rattle.std.specs.Prelude.{codes, ◌&&◌}
use Rattle.std.specs.List.{list_all}
use Rattle.std.specs.Fmt.{decimal}
use Rattle.clap.specs.ValueTests.{accepts}
use Rattle.clap.specs.Values.{reading_of}
use Rattle.clap.specs.Walk.{Held, Row, Rule, Text, Walk, finished, nothing_held, walk, walked}
use Rattle.clap.specs.Simple.{App, Shape, built, new_app, new_rule, new_shape, subcommand_of, with_rule}
use Rattle.clap.specs.Simple.{with_subcommand}
use Rattle.clap.specs.Takes.{default_passes, is_valid, level_passes, settle_passes, takes, walk_passes}
use Rattle.clap.specs.declared.builder.value_parser.ValueParser.{ValueParser}
use Rattle.clap.specs.declared.builder.value_parser.ValueParser.TheVariants as vp
use Rattle.clap.specs.declared.parser.matches.ValueSource.TheVariants.{CommandLine}
use Rattle.clap.proofs.OnLiterals.{clap_on_literals}
use Rattle.qg_words.specs.declared.form.Form.{Form}
use Rattle.qg_words.specs.declared.form.Form.TheVariants.{Mkfs, Run, Check, Generate}
use Rattle.qg_words.specs.Command.{TellsForm, bare_app, line_app}
use Rattle.qg_words.specs.Words.{AskFor, check_words, run_words}
use Rattle.qg_words.proofs.Steps.{IsPlain, before, both_true, stepped, word_passes}
use Rattle.qg_words.proofs.Digits.{accepts-decimal, plain-decimal}

-- ---- the command, whatever parser its numbers have

abbrev number_by : ValueParser → Text → Rule
number_by p name = record (new_rule name) { required = true; parser = Some p }

abbrev mkfs_by : ValueParser → App
mkfs_by p = with_rule (with_rule (with_rule (new_app (codes "mkfs")) (number_by p (codes "NODESIZE")))
    (number_by p (codes "SLOTS"))) (number_by p (codes "SECTORS"))

abbrev generate_by : ValueParser → App
generate_by p = with_rule (with_rule (new_app (codes "gen")) (number_by p (codes "SEED"))) (number_by p (codes "COUNT"))

abbrev line_by : ValueParser → App
line_by p = with_subcommand (with_subcommand (with_subcommand (with_subcommand bare_app (mkfs_by p).top)
    (new_app (codes "run")).top) (new_app (codes "check")).top) (generate_by p).top

-- a subcommand as it is built
abbrev built_sub : ℕ → ValueParser → Shape
built_sub place p = get_or (built (line_by p)).subs place (new_shape [])

abbrev row : ValueParser → Text → Text → Row
row p name text =
    record { id = name; values = text ∷ []; count = None; source = Some CommandLine; reading = reading_of p }

abbrev held : List Row → Text → Text → Held
held rows name text = record { rows = rows; pending = Some (name, text ∷ []); skip = 0 }

-- ---- `mkfs` and three numbers

module _ (p : ValueParser) (a b c : Text) (plain_a : IsPlain a) (plain_b : IsPlain b) (plain_c : IsPlain c) where
  abbrev three_words : List Text
  three_words = a ∷ b ∷ c ∷ []

  abbrev one : Held
  one = held [] (codes "NODESIZE") a

  abbrev two : Held
  two = held (row p (codes "NODESIZE") a ∷ []) (codes "SLOTS") b

  abbrev three : Held
  three = held (row p (codes "NODESIZE") a ∷ row p (codes "SLOTS") b ∷ []) (codes "SECTORS") c

  abbrev sizes_rows : List Row
  sizes_rows = row p (codes "NODESIZE") a ∷ row p (codes "SLOTS") b ∷ row p (codes "SECTORS") c ∷ []

  sizes_walk : walk (built_sub 0 p).rules [] nothing_held three_words ≡ before three 4
  sizes_walk =
      let rules = (built_sub 0 p).rules in
      ap (λ (w : Walk). walked rules [] (walked rules [] w b) c) (stepped rules a 1 nothing_held plain_a)
      ∙ ap (λ (w : Walk). walked rules [] w c) (stepped rules b 2 one plain_b)
      ∙ stepped rules c 3 two plain_c

  module _ (ok_a : accepts false p a ≡ true) (ok_b : accepts false p b ≡ true) (ok_c : accepts false p c ≡ true) where
    sizes_words : walk_passes (built_sub 0 p) [] (before nothing_held 1) three_words ≡ true
    unfolding walk_passes
    sizes_words =
        let s = built_sub 0 p in
        word_passes s a (b ∷ c ∷ []) 1 nothing_held plain_a refl
        (word_passes s b (c ∷ []) 2 one plain_b (rw ok_a refl)
        (word_passes s c [] 3 two plain_c (rw ok_b refl) refl))

    sizes_end : (w : Walk) → w ≡ before three 4
        → (settle_passes (built_sub 0 p).rules false w.held && (list_all default_passes (built_sub 0 p).rules
        && is_valid (built_sub 0 p) (finished (built_sub 0 p).rules w.held) false)) ≡ true
    sizes_end w is = rw is (rw ok_c refl)

    sizes_level : level_passes (built_sub 0 p) [] nothing_held three_words false ≡ true
    sizes_level = both_true sizes_words (sizes_end (walk (built_sub 0 p).rules [] nothing_held three_words) sizes_walk)

    pub sizes_taken : takes (line_by p) (codes "mkfs" ∷ three_words) ≡ true
    unfolding clap_on_literals
    sizes_taken = ap (λ (is : Bool). is && true) sizes_level

  pub sizes_told : subcommand_of (line_by p) (codes "mkfs" ∷ three_words) ≡ Some (codes "mkfs", sizes_rows)
  unfolding clap_on_literals
  sizes_told = ap (λ (w : Walk). Some (codes "mkfs", finished (built_sub 0 p).rules w.held)) sizes_walk

-- ---- `gen` and two numbers

module _ (p : ValueParser) (a b : Text) (plain_a : IsPlain a) (plain_b : IsPlain b) where
  abbrev two_words : List Text
  two_words = a ∷ b ∷ []

  abbrev first : Held
  first = held [] (codes "SEED") a

  abbrev second : Held
  second = held (row p (codes "SEED") a ∷ []) (codes "COUNT") b

  abbrev lines_rows : List Row
  lines_rows = row p (codes "SEED") a ∷ row p (codes "COUNT") b ∷ []

  lines_walk : walk (built_sub 3 p).rules [] nothing_held two_words ≡ before second 3
  lines_walk =
      let rules = (built_sub 3 p).rules in
      ap (λ (w : Walk). walked rules [] w b) (stepped rules a 1 nothing_held plain_a)
      ∙ stepped rules b 2 first plain_b

  module _ (ok_a : accepts false p a ≡ true) (ok_b : accepts false p b ≡ true) where
    lines_words : walk_passes (built_sub 3 p) [] (before nothing_held 1) two_words ≡ true
    unfolding walk_passes
    lines_words =
        let s = built_sub 3 p in
        word_passes s a (b ∷ []) 1 nothing_held plain_a refl (word_passes s b [] 2 first plain_b (rw ok_a refl) refl)

    lines_end : (w : Walk) → w ≡ before second 3
        → (settle_passes (built_sub 3 p).rules false w.held && (list_all default_passes (built_sub 3 p).rules
        && is_valid (built_sub 3 p) (finished (built_sub 3 p).rules w.held) false)) ≡ true
    lines_end w is = rw is (rw ok_b refl)

    lines_level : level_passes (built_sub 3 p) [] nothing_held two_words false ≡ true
    lines_level = both_true lines_words (lines_end (walk (built_sub 3 p).rules [] nothing_held two_words) lines_walk)

    pub lines_taken : takes (line_by p) (codes "gen" ∷ two_words) ≡ true
    unfolding clap_on_literals
    lines_taken = ap (λ (is : Bool). is && true) lines_level

  pub lines_told : subcommand_of (line_by p) (codes "gen" ∷ two_words) ≡ Some (codes "gen", lines_rows)
  unfolding clap_on_literals
  lines_told = ap (λ (w : Walk). Some (codes "gen", finished (built_sub 3 p).rules w.held)) lines_walk

-- ---- one word

run_taken : takes line_app run_words ≡ true
unfolding clap_on_literals
run_taken = refl

run_told : subcommand_of line_app run_words ≡ Some (codes "run", [])
unfolding clap_on_literals
run_told = refl

check_taken : takes line_app check_words ≡ true
unfolding clap_on_literals
check_taken = refl

check_told : subcommand_of line_app check_words ≡ Some (codes "check", [])
unfolding clap_on_literals
check_told = refl

-- ---- words that ask for a form

abbrev any_u64 : ValueParser
any_u64 = vp.Unsigned 0 18446744073709551615

-- the words are taken
pub form_taken : (words : List Text) (form : Form) → AskFor words form → takes line_app words ≡ true
form_taken words (Mkfs sizes) ask = ap (takes line_app) ask.are ∙ sizes_taken any_u64
    (decimal sizes.nodesize) (decimal sizes.slots) (decimal sizes.sectors)
    (plain-decimal sizes.nodesize ask.fits.nodesize) (plain-decimal sizes.slots ask.fits.slots)
    (plain-decimal sizes.sectors ask.fits.sectors)
    (accepts-decimal sizes.nodesize ask.fits.nodesize) (accepts-decimal sizes.slots ask.fits.slots)
    (accepts-decimal sizes.sectors ask.fits.sectors)
form_taken words Run ask = ap (takes line_app) ask ∙ run_taken
form_taken words Check ask = ap (takes line_app) ask ∙ check_taken
form_taken words (Generate seed count) ask = ap (takes line_app) ask.are ∙ lines_taken any_u64
    (decimal seed) (decimal count) (plain-decimal seed ask.seed_fits) (plain-decimal count ask.count_fits)
    (accepts-decimal seed ask.seed_fits) (accepts-decimal count ask.count_fits)

-- and that form is told
pub form_told : (words : List Text) (form : Form) → AskFor words form → TellsForm (subcommand_of line_app words) form
form_told words (Mkfs sizes) ask =
    let plain_a = plain-decimal sizes.nodesize ask.fits.nodesize in
    let plain_b = plain-decimal sizes.slots ask.fits.slots in
    let plain_c = plain-decimal sizes.sectors ask.fits.sectors in (
      codes "mkfs",
      sizes_rows any_u64 (decimal sizes.nodesize) (decimal sizes.slots) (decimal sizes.sectors) plain_a plain_b plain_c,
      ap (subcommand_of line_app) ask.are ∙ sizes_told any_u64 (decimal sizes.nodesize) (decimal sizes.slots)
          (decimal sizes.sectors) plain_a plain_b plain_c,
      (
        refl,
        record {
          nodesize = record { fits = ask.fits.nodesize; is = refl };
          slots = record { fits = ask.fits.slots; is = refl };
          sectors = record { fits = ask.fits.sectors; is = refl };
        },
      ),
    )
form_told words Run ask = (codes "run", [], ap (subcommand_of line_app) ask ∙ run_told, refl)
form_told words Check ask = (codes "check", [], ap (subcommand_of line_app) ask ∙ check_told, refl)
form_told words (Generate seed count) ask =
    let plain_a = plain-decimal seed ask.seed_fits in
    let plain_b = plain-decimal count ask.count_fits in (
      codes "gen",
      lines_rows any_u64 (decimal seed) (decimal count) plain_a plain_b,
      ap (subcommand_of line_app) ask.are ∙ lines_told any_u64 (decimal seed) (decimal count) plain_a plain_b,
      (
        refl,
        record {
          first = record { fits = ask.seed_fits; is = refl };
          second = record { fits = ask.count_fits; is = refl };
        },
      ),
    )
