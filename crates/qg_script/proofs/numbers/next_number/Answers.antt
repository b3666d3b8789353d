use Rattle.std.proofs.Common.{◌∙◌, subst, sym}
use Rattle.std.specs.Fmt.{decimal}
use Rattle.std.specs.Prelude.{IsUtf8}
use Rattle.std.proofs.lemmas.Fmt.{IsAscii-decimal}
use Rattle.std.proofs.lemmas.Str.{IsUtf8-from_ascii}
use Rattle.qg_script.proofs.Parting.{if_none, number_parted, parted_once}
use Rattle.qg_script.proofs.numbers.next_number.Goals as goal

pub returns-in_default-from_utf8-clause-none : goal.returns-in_default-from_utf8-clause-none
returns-in_default-from_utf8-clause-none c number rest next =
    let is = (parted_once c.first_word.ensures (number_parted next)).0 in
    c.in_default-from_utf8.ensures.cases.0
    (subst IsUtf8 (sym is) (IsUtf8-from_ascii (decimal number) (IsAscii-decimal number next.fits)))

pub returns-in_err-number-clause-none : goal.returns-in_err-number-clause-none
returns-in_err-number-clause-none c = if_none c.from_residual.result (λ number rest next.
    let is = (parted_once c.first_word.ensures (number_parted next)).0 in
    c.in_err-number.ensures.none number next.fits (c.in-Ok.ensures.cases.0 ∙ is))
