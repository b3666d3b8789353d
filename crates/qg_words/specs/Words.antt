-- The words of a command line (this project's own).
use Rattle.std.specs.Prelude.{◌≡◌, ◌==◌, ℕ, Bool, ◌^◌, ◌<◌, List, [], ◌∷◌, map, codes, slice_index, string_bytes}
use Rattle.std.specs.Prelude.{String}
use Rattle.std.specs.Fmt.{decimal}
use Rattle.std.specs.declared.alloc.Global.{Global}
use Rattle.qg_super.specs.declared.sizes.Sizes.{Sizes}
use Rattle.qg_words.specs.declared.form.Form.{Form}
use Rattle.qg_words.specs.declared.form.Form.TheVariants.{Mkfs, Run, Check, Generate}

-- the text of each word
abbrev pub texts : List (String Global) → List (List ℕ)
texts words = map string_bytes words

-- the text begins with the hyphen of an option
abbrev pub begins_with_hyphen : List ℕ → Bool
begins_with_hyphen text = slice_index text 0 == 45

-- the words that ask for an image of these sizes, the numbers in decimal without leading zeros
abbrev pub mkfs_words : Sizes → List (List ℕ)
mkfs_words sizes = codes "mkfs" ∷ decimal sizes.nodesize ∷ decimal sizes.slots ∷ decimal sizes.sectors ∷ []

-- the numbers have 64 bits
pub record SizesFit (sizes : Sizes) : Type 0 where
  pub nodesize : sizes.nodesize < 2 ^ 64
  pub slots : sizes.slots < 2 ^ 64
  pub sectors : sizes.sectors < 2 ^ 64

-- the words ask for an image of these sizes
pub record AskForImage (words : List (List ℕ)) (sizes : Sizes) : Type 0 where
  pub fits : SizesFit sizes
  pub are : words ≡ mkfs_words sizes

-- the words that ask for a run
abbrev pub run_words : List (List ℕ)
run_words = codes "run" ∷ []

-- the word that asks what an image is
abbrev pub check_words : List (List ℕ)
check_words = codes "check" ∷ []

-- the words that ask for the generator's lines of a seed, so many, the numbers in decimal without leading zeros
abbrev pub generate_words : ℕ → ℕ → List (List ℕ)
generate_words seed count = codes "gen" ∷ decimal seed ∷ decimal count ∷ []

-- the words ask for such lines; the numbers have 64 bits
pub record AskForLines (words : List (List ℕ)) (seed count : ℕ) : Type 0 where
  pub seed_fits : seed < 2 ^ 64
  pub count_fits : count < 2 ^ 64
  pub are : words ≡ generate_words seed count

-- the words ask for this
abbrev pub AskFor : List (List ℕ) → Form → Type 0
AskFor words (Mkfs sizes) = AskForImage words sizes
AskFor words Run = words ≡ run_words
AskFor words Check = words ≡ check_words
AskFor words (Generate seed count) = AskForLines words seed count

-- the words are those of one of these four forms
pub record HaveForm (words : List (List ℕ)) : Type 0 where
  pub form : Form
  pub ask : AskFor words form
