use Rattle.std.proofs.Common.{◌≡◌, ap, sym, ◌∙◌}
use Rattle.std.specs.Fmt.{decimal}
use Rattle.std.proofs.lemmas.Fmt.{parse-decimal}
use Rattle.std.proofs.lemmas.Bool.{false≢true}
use Rattle.qg_words.proofs.number.decimal_of.Goals as goal

pub returns-in_default-clause-none : goal.returns-in_default-clause-none
returns-in_default-clause-none c n fits is =
    c.in_default.not-Ok n (parse-decimal 64 n c.args.text.now c.parse.result fits fits is c.parse.ensures.value.0)

pub returns-else-is_text_of-clause-none : goal.returns-else-is_text_of-clause-none
returns-else-is_text_of-clause-none c n fits is =
    let read = parse-decimal 64 n c.args.text.now c.parse.result fits fits is c.parse.ensures.value.0 in
    let same : c.in-Ok.n ≡ n = cc in
    false≢true (sym c.if-is_text_of.false ∙ c.is_text_of.ensures.1 (is ∙ ap decimal (sym same)))
