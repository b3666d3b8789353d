-- Words ask for one thing at most.
use Rattle.std.proofs.Common.{◌≡◌, ◌≢◌, ℕ, List, [], length, get_or, refl, sym, ap, ◌∙◌, arith}
use Rattle.std.specs.Prelude.{codes}
use Rattle.std.specs.Fmt.{decimal}
use Rattle.std.proofs.lemmas.Fmt.{decimal_injective}
use Rattle.qg_super.specs.declared.sizes.Sizes.{Sizes}
use Rattle.qg_words.specs.declared.form.Form.{Form}
use Rattle.qg_words.specs.declared.form.Form.TheVariants.{Mkfs, Run, Check, Generate}
use Rattle.qg_words.specs.Words.{AskFor, AskForImage, AskForLines, HaveForm, check_words, generate_words, mkfs_words}
use Rattle.qg_words.specs.Words.{run_words}

same_sizes : (a b : Sizes) → a.nodesize ≡ b.nodesize → a.slots ≡ b.slots → a.sectors ≡ b.sectors → a ≡ b
same_sizes a b first second third = λ i. record { nodesize = first i; slots = second i; sectors = third i }

pub one_image : (words : List (List ℕ)) (a b : Sizes) → AskForImage words a → AskForImage words b → a ≡ b
one_image words a b is_a is_b =
    let same : mkfs_words a ≡ mkfs_words b = sym is_a.are ∙ is_b.are in
    let first : decimal a.nodesize ≡ decimal b.nodesize = cc in
    let second : decimal a.slots ≡ decimal b.slots = cc in
    let third : decimal a.sectors ≡ decimal b.sectors = cc in
    same_sizes a b (decimal_injective a.nodesize b.nodesize is_a.fits.nodesize is_b.fits.nodesize first)
    (decimal_injective a.slots b.slots is_a.fits.slots is_b.fits.slots second)
    (decimal_injective a.sectors b.sectors is_a.fits.sectors is_b.fits.sectors third)

pub one_seed : (words : List (List ℕ)) (a b c d : ℕ) → AskForLines words a b → AskForLines words c d → a ≡ c
one_seed words a b c d is_one is_other =
    let same : generate_words a b ≡ generate_words c d = sym is_one.are ∙ is_other.are in
    let first : decimal a ≡ decimal c = cc in
    decimal_injective a c is_one.seed_fits is_other.seed_fits first

pub one_count : (words : List (List ℕ)) (a b c d : ℕ) → AskForLines words a b → AskForLines words c d → b ≡ d
one_count words a b c d is_one is_other =
    let same : generate_words a b ≡ generate_words c d = sym is_one.are ∙ is_other.are in
    let second : decimal b ≡ decimal d = cc in
    decimal_injective b d is_one.count_fits is_other.count_fits second

-- words of one form are not so many as those of another, or else their first bytes differ
not_many : {words : List (List ℕ)} (one other : List (List ℕ)) → words ≡ one → words ≡ other → length one ≢ length other
    → ⊥
not_many one other are_one are_other apart = apart (ap length (sym are_one ∙ are_other))

run_or_check : {words : List (List ℕ)} → words ≡ run_words → words ≡ check_words → ⊥
run_or_check {words} run check =
    let same : run_words ≡ check_words = sym run ∙ check in
    let counts : length (codes "run") ≡ length (codes "check") =
    ap (λ (words : List (List ℕ)). length (get_or words 0 [])) same in
    absurd (omega (arith, counts))

pub one_form : (words : List (List ℕ)) (a b : Form) → AskFor words a → AskFor words b → a ≡ b
one_form words (Mkfs a) (Mkfs b) is_a is_b = ap Mkfs (one_image words a b is_a is_b)
one_form words (Mkfs a) Run is_a is_b = absurd (not_many (mkfs_words a) run_words is_a.are is_b (omega arith))
one_form words (Mkfs a) Check is_a is_b = absurd (not_many (mkfs_words a) check_words is_a.are is_b (omega arith))
one_form words (Mkfs a) (Generate seed count) is_a is_b =
    absurd (not_many (mkfs_words a) (generate_words seed count) is_a.are is_b.are (omega arith))
one_form words Run (Mkfs b) is_a is_b = absurd (not_many run_words (mkfs_words b) is_a is_b.are (omega arith))
one_form words Run Run is_a is_b = refl
one_form words Run Check is_a is_b = absurd (run_or_check is_a is_b)
one_form words Run (Generate seed count) is_a is_b =
    absurd (not_many run_words (generate_words seed count) is_a is_b.are (omega arith))
one_form words Check (Mkfs b) is_a is_b = absurd (not_many check_words (mkfs_words b) is_a is_b.are (omega arith))
one_form words Check Run is_a is_b = absurd (run_or_check is_b is_a)
one_form words Check Check is_a is_b = refl
one_form words Check (Generate seed count) is_a is_b =
    absurd (not_many check_words (generate_words seed count) is_a is_b.are (omega arith))
one_form words (Generate seed count) (Mkfs b) is_a is_b =
    absurd (not_many (generate_words seed count) (mkfs_words b) is_a.are is_b.are (omega arith))
one_form words (Generate seed count) Run is_a is_b =
    absurd (not_many (generate_words seed count) run_words is_a.are is_b (omega arith))
one_form words (Generate seed count) Check is_a is_b =
    absurd (not_many (generate_words seed count) check_words is_a.are is_b (omega arith))
one_form words (Generate seed count) (Generate other more) is_a is_b =
    let seeds = one_seed words seed count other more is_a is_b in
    let counts = one_count words seed count other more is_a is_b in
    rw seeds (rw counts refl)

-- ---- and for none of the four

by-form : (words : List (List ℕ)) (form : Form) → (words ≡ run_words → ⊥) → (words ≡ check_words → ⊥)
    → ((seed count : ℕ) → AskForLines words seed count → ⊥)
    → ((sizes : Sizes) → AskForImage words sizes → ⊥) → AskFor words form → ⊥
by-form words (Mkfs sizes) run check lines image ask = image sizes ask
by-form words Run run check lines image ask = run ask
by-form words Check run check lines image ask = check ask
by-form words (Generate seed count) run check lines image ask = lines seed count ask

pub no_form : (words : List (List ℕ)) → (words ≡ run_words → ⊥) → (words ≡ check_words → ⊥)
    → ((seed count : ℕ) → AskForLines words seed count → ⊥)
    → ((sizes : Sizes) → AskForImage words sizes → ⊥) → HaveForm words → ⊥
no_form words run check lines image have = by-form words have.form run check lines image have.ask
