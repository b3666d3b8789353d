use Rattle.std.proofs.Common.{ℕ, List, ◌++◌, ap, subst, sym, ◌∙◌}
use Rattle.qg_num.specs.declared.fault.Stop.{Stop}
use Rattle.qg_grammar.specs.FailureText.{broken_text}
use Rattle.qg_program.specs.Putting.{TellsStop}
use Rattle.qg_program.proofs.session.end_of.Goals as goal

pub returns-in-Image-clause-told : goal.returns-in-Image-clause-told
returns-in-Image-clause-told c = λ is.
    subst (λ (stop : Stop). TellsStop stop c.end_of_image.new.text) (sym c.in-Image.is)
    (c.end_of_image.ensures.told is
    ∙ ap (λ (bytes : List ℕ). bytes ++ broken_text c.in-Image.rule c.in-Image.address) c.requires.blank)
