-- The first failure of an image's references.
use Rattle.std.proofs.Common.{◌≡◌, ℕ, true, false, List, [], ◌∷◌, Option, Some, None, refl, sym, ap, ◌∙◌}
use Rattle.std.specs.Prelude.{is_some}
use Rattle.std.specs.Option.{option_map}
use Rattle.std.proofs.lemmas.Bool.{true≢false}
use Rattle.qg_num.specs.declared.rule.Rule.TheVariants as rule
use Rattle.qg_super.specs.declared.superblock.Super.{Super}
use Rattle.qg_image.specs.declared.part.ExtentPart.{ExtentPart}
use Rattle.qg_image.specs.State.{Layout}
use Rattle.qg_image.specs.Owed.{disagreement, homeless}
use Rattle.qg_image.specs.declared.failure.Failure.{Failure}
use Rattle.qg_image.specs.declared.failure.Failure.TheVariants.{Broken}
use Rattle.qg_image.specs.Failure.{first_failure}
use Rattle.qg_image.specs.ImageState.{extent_parts}
use Rattle.qg_image.specs.Verdict.{references_failure}

-- the first of where both rules are broken
abbrev first_of : Option ℕ → Option ℕ → Option Failure
first_of refs home = first_failure (option_map (Broken rule.Refs) refs ∷ option_map (Broken rule.Home) home ∷ [])

refs_first : (refs home : Option ℕ) → is_some refs ≡ true → option_map (Broken rule.Refs) refs ≡ first_of refs home
refs_first (Some address) home some = refl
refs_first None home some = absurd (true≢false (sym some))

home_last : (refs home : Option ℕ) → is_some refs ≡ false → option_map (Broken rule.Home) home ≡ first_of refs home
home_last None None none = refl
home_last None (Some address) none = refl
home_last (Some address) home none = absurd (true≢false none)

-- where these are the addresses of the two rules, the first of them is the verdict's
failure_is : (super : Super) (image : List ℕ) (layout : Layout) (parts : List ExtentPart) (refs home : Option ℕ)
    → parts ≡ extent_parts super image
    → refs ≡ disagreement layout parts → home ≡ homeless layout
    → first_of refs home ≡ references_failure super image layout
unfolding references_failure
failure_is super image layout parts refs home is same last =
    ap (λ (found : Option ℕ). first_of found home) (same ∙ ap (λ (some : List ExtentPart). disagreement layout some) is)
    ∙ ap (λ (found : Option ℕ). first_of (disagreement layout (extent_parts super image)) found) last

pub refs_told : (super : Super) (image : List ℕ) (layout : Layout) (parts : List ExtentPart) (refs : Option ℕ)
    → parts ≡ extent_parts super image
    → refs ≡ disagreement layout parts → is_some refs ≡ true
    → option_map (Broken rule.Refs) refs ≡ references_failure super image layout
refs_told super image layout parts refs is same some =
    refs_first refs (homeless layout) some ∙ failure_is super image layout parts refs (homeless layout) is same refl

pub home_told : (super : Super) (image : List ℕ) (layout : Layout) (parts : List ExtentPart) (refs home : Option ℕ)
    → parts ≡ extent_parts super image
    → refs ≡ disagreement layout parts → home ≡ homeless layout → is_some refs ≡ false
    → option_map (Broken rule.Home) home ≡ references_failure super image layout
home_told super image layout parts refs home is same last none =
    home_last refs home none ∙ failure_is super image layout parts refs home is same last
