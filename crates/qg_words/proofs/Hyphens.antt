-- No word of a form begins with a hyphen.
use Rattle.std.proofs.Common.{◌≡◌, ◌∙◌, ℕ, false, List, refl, ap, String, Global}
use Rattle.std.specs.Prelude.{string_bytes}
use Rattle.std.specs.List.{list_any}
use Rattle.clap.proofs.WalkLemmas.{list_any-map}
use Rattle.qg_words.specs.declared.form.Form.{Form}
use Rattle.qg_words.specs.declared.form.Form.TheVariants.{Mkfs, Run, Check, Generate}
use Rattle.qg_words.specs.Words.{AskFor, begins_with_hyphen, texts}
use Rattle.qg_words.proofs.Digits.{no_hyphen-decimal}

no_option : (words : List (List ℕ)) (form : Form) → AskFor words form → list_any begins_with_hyphen words ≡ false
no_option words (Mkfs sizes) ask = ap (list_any begins_with_hyphen) ask.are
    ∙ rw (
      no_hyphen-decimal sizes.nodesize ask.fits.nodesize,
      no_hyphen-decimal sizes.slots ask.fits.slots,
      no_hyphen-decimal sizes.sectors ask.fits.sectors,
    ) refl
no_option words Run ask = ap (list_any begins_with_hyphen) ask
no_option words Check ask = ap (list_any begins_with_hyphen) ask
no_option words (Generate seed count) ask = ap (list_any begins_with_hyphen) ask.are
    ∙ rw (no_hyphen-decimal seed ask.seed_fits, no_hyphen-decimal count ask.count_fits) refl

pub no_hyphens : (words : List (String Global)) (form : Form) → AskFor (texts words) form
    → list_any (λ word. begins_with_hyphen (string_bytes word)) words ≡ false
no_hyphens words form ask = list_any-map begins_with_hyphen string_bytes words ∙ no_option (texts words) form ask
