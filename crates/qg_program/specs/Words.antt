-- What the words of a command line ask for (this project's own).
use Rattle.std.specs.Prelude.{◌≡◌, ◌⊎◌, ℕ, ◌<◌, ◌≤◌, false, true, List, String, IsTrue}
use Rattle.std.specs.declared.alloc.Global.{Global}
use Rattle.qg_super.specs.declared.sizes.Sizes.{Sizes}
use Rattle.qg_super.specs.Places.{is_served}
use Rattle.qg_words.specs.Words.{texts, AskForImage, AskForLines, HaveForm, check_words, run_words}
use Rattle.qg_program.specs.declared.status.Status.{Status}
use Rattle.qg_program.specs.declared.status.Status.TheVariants as status
use Rattle.qg_program.specs.Ends.{EndsWhere, is_checkers, is_generators, is_makers, is_runners}

-- the words ask for an image of these sizes
abbrev pub AskToMake : List (String Global) → Sizes → Type 0
AskToMake words sizes = AskForImage (texts words) sizes

-- the words ask for an image of sizes that are not served
pub record AskForUnserved (words : List (String Global)) : Type 0 where
  pub sizes : Sizes
  pub ask : AskToMake words sizes
  pub unserved : is_served sizes ≡ false

-- the most lines that may be drawn
abbrev pub most_lines : ℕ
most_lines = 100000

-- the words ask for more of the generator's lines than may be drawn
pub record AskForTooMany (words : List (String Global)) : Type 0 where
  pub seed : ℕ
  pub count : ℕ
  pub ask : AskForLines (texts words) seed count
  pub many : most_lines < count

-- the words ask for sizes, or for a count, out of their range
abbrev pub AskUnserved : List (String Global) → Type 0
AskUnserved words = AskForUnserved words ⊎ AskForTooMany words

-- the words ask for nothing: they have no form, or sizes or a count are out of their range
abbrev pub AskForNothing : List (String Global) → Type 0
AskForNothing words = (HaveForm (texts words) → ⊥) ⊎ AskUnserved words

-- the words ask for an image of these sizes, and they are served
pub record AskServed (words : List (String Global)) (sizes : Sizes) : Type 0 where
  pub ask : AskToMake words sizes
  pub served : is_served sizes ≡ true

-- the words ask for a run
abbrev pub AskToRun : List (String Global) → Type 0
AskToRun words = texts words ≡ run_words

-- the words ask what an image is
abbrev pub AskToCheck : List (String Global) → Type 0
AskToCheck words = texts words ≡ check_words

-- the words ask for the generator's lines of a seed, so many that they may be drawn
pub record AskToGenerate (words : List (String Global)) (seed count : ℕ) : Type 0 where
  pub ask : AskForLines (texts words) seed count
  pub few : count ≤ most_lines

-- the words ask for an image to be opened: a run, or the generator's lines
abbrev pub AskToOpen : List (String Global) → Type 0
AskToOpen words = AskToRun words ⊎ ((seed : ℕ) × (count : ℕ) × AskToGenerate words seed count)

-- a size, or a count of lines, is refused exactly where it is out of its range, or memory for the words is; and a call
-- has the ends of the form that was asked for
pub record EndsByForm (end : Status) (words : List (String Global)) : Type 0 where
  pub sizes : EndsWhere status.Sizes end (AskUnserved words)
  pub makers : (sizes : Sizes) → AskToMake words sizes → IsTrue (is_makers end)
  pub runners : AskToRun words → IsTrue (is_runners end)
  pub checkers : AskToCheck words → IsTrue (is_checkers end)
  pub generators : (seed count : ℕ) → AskForLines (texts words) seed count → IsTrue (is_generators end)
