-- Words ask for one form.
use Rattle.std.proofs.Common.{◌≡◌, ◌≢◌, ℕ, Bool, List, ap, refl, subst, String, Global, IsTrue}
use Rattle.qg_words.specs.Words.{AskFor, texts}
use Rattle.qg_words.specs.declared.form.Form.{Form}
use Rattle.qg_words.specs.declared.form.Form.TheVariants.{Mkfs, Run, Check, Generate}
use Rattle.qg_words.proofs.OneForm.{one_form}
use Rattle.qg_program.specs.declared.status.Status.{Status}
use Rattle.qg_program.specs.declared.status.Status.TheVariants as status
use Rattle.qg_program.specs.Ends.{EndsWhere, is_checkers, is_generators, is_makers, is_refused, is_runners}
use Rattle.qg_program.specs.Words.{AskUnserved, EndsByForm}

-- the ends of each form
abbrev pub is_end_of : Form → Status → Bool
is_end_of (Mkfs sizes) end = is_makers end
is_end_of Run end = is_runners end
is_end_of Check end = is_checkers end
is_end_of (Generate seed count) end = is_generators end

-- words that ask for one may end as it does
pub ends-by : (words : List (String Global)) (form : Form) (end : Status) → AskFor (texts words) form
    → IsTrue (is_end_of form end)
    → EndsWhere status.Sizes end (AskUnserved words) → EndsByForm end words
ends-by words form end ask is sizes = record {
  sizes = sizes;
  makers = λ sizes asks. subst (λ (f : Form). IsTrue (is_end_of f end))
      (one_form (texts words) form (Mkfs sizes) ask asks) is;
  runners = λ asks. subst (λ (f : Form). IsTrue (is_end_of f end)) (one_form (texts words) form Run ask asks) is;
  checkers = λ asks. subst (λ (f : Form). IsTrue (is_end_of f end)) (one_form (texts words) form Check ask asks) is;
  generators = λ seed count asks. subst (λ (f : Form). IsTrue (is_end_of f end))
      (one_form (texts words) form (Generate seed count) ask asks) is;
}

-- forms by number
abbrev pub kind : Form → ℕ
kind (Mkfs sizes) = 0
kind Run = 1
kind Check = 2
kind (Generate seed count) = 3

-- they don't ask for another
pub other-form : (words : List (List ℕ)) (a b : Form) → AskFor words a → AskFor words b → kind a ≢ kind b → ⊥
other-form words a b is_a is_b apart = apart (ap kind (one_form words a b is_a is_b))

-- ---- nothing was done where it was refused before

-- a check never ends so
pub checks-begin : (end : Status) → IsTrue (is_checkers end) → IsTrue (is_refused end) → ⊥
checks-begin status.Done is refused = absurd cc
checks-begin status.NoMemory is refused = absurd cc
checks-begin status.Words is refused = absurd cc
checks-begin status.Image is refused = absurd cc
checks-begin status.Source is refused = absurd cc
checks-begin status.Sink is refused = absurd cc
checks-begin status.Disk is refused = absurd cc
checks-begin status.Found is refused = absurd cc
checks-begin status.Sizes is refused = absurd cc
checks-begin status.TooLong is refused = absurd cc

-- nor does a run
pub runs-begin : (end : Status) → IsTrue (is_runners end) → IsTrue (is_refused end) → ⊥
runs-begin status.Done is refused = absurd cc
runs-begin status.NoMemory is refused = absurd cc
runs-begin status.Words is refused = absurd cc
runs-begin status.Image is refused = absurd cc
runs-begin status.Source is refused = absurd cc
runs-begin status.Sink is refused = absurd cc
runs-begin status.Disk is refused = absurd cc
runs-begin status.Found is refused = absurd cc
runs-begin status.Sizes is refused = absurd cc
runs-begin status.TooLong is refused = absurd cc

-- an image's making by its sizes alone
pub makes-begin : (end : Status) → IsTrue (is_makers end) → IsTrue (is_refused end) → end ≡ status.Sizes
makes-begin status.Sizes is refused = refl
makes-begin status.Done is refused = absurd cc
makes-begin status.NoMemory is refused = absurd cc
makes-begin status.Words is refused = absurd cc
makes-begin status.Image is refused = absurd cc
makes-begin status.Source is refused = absurd cc
makes-begin status.Sink is refused = absurd cc
makes-begin status.Disk is refused = absurd cc
makes-begin status.Found is refused = absurd cc
makes-begin status.TooLong is refused = absurd cc

-- and the generator's lines by their number alone
pub generates-begin : (end : Status) → IsTrue (is_generators end) → IsTrue (is_refused end) → end ≡ status.Sizes
generates-begin status.Sizes is refused = refl
generates-begin status.Done is refused = absurd cc
generates-begin status.NoMemory is refused = absurd cc
generates-begin status.Words is refused = absurd cc
generates-begin status.Image is refused = absurd cc
generates-begin status.Source is refused = absurd cc
generates-begin status.Sink is refused = absurd cc
generates-begin status.Disk is refused = absurd cc
generates-begin status.Found is refused = absurd cc
generates-begin status.TooLong is refused = absurd cc
