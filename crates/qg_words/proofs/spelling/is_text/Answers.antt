use Rattle.std.proofs.Common.{sym, ◌∙◌}
use Rattle.std.proofs.lemmas.Slice.Eq.{bytes_eq-Decides}
use Rattle.qg_words.proofs.spelling.is_text.Goals as goal

pub returns : goal.returns
returns c =
    let decides = bytes_eq-Decides c.args.text.now c.args.wanted.now in
    (λ is. decides.0 (sym c.eq.ensures ∙ is), λ same. c.eq.ensures ∙ decides.1 same)
