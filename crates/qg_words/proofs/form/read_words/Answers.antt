use Rattle.std.proofs.Common.{◌≡◌, ◌∙◌, Some, subst, sym}
use Rattle.std.proofs.lemmas.Bool.{false≢true}
use Rattle.qg_words.specs.declared.form.Form.{Form}
use Rattle.qg_words.specs.Words.{AskFor, texts}
use Rattle.qg_words.proofs.Hyphens.{no_hyphens}
use Rattle.qg_words.proofs.form.read_words.Goals as goal

pub returns-then-has_option-clause-none : goal.returns-then-has_option-clause-none
returns-then-has_option-clause-none c = λ have. false≢true
    (sym (no_hyphens c.args.words.now have.form have.ask) ∙ sym c.has_option.ensures ∙ c.if-has_option.true)

pub returns-in_default-clause-none : goal.returns-in_default-clause-none
returns-in_default-clause-none c = λ have.
    let read : c.in_ok-read.read ≡ Some have.form = c.in_ok-read.ensures have.form have.ask in absurd cc

pub returns-else-is_spelled-clause-none : goal.returns-else-is_spelled-clause-none
returns-else-is_spelled-clause-none c = λ have.
    let read : c.in_ok-read.read ≡ Some have.form = c.in_ok-read.ensures have.form have.ask in
    let same : have.form ≡ c.in-Some.form = cc in
    false≢true (sym c.if-is_spelled.false ∙ c.is_spelled.ensures.1
    (subst (λ (form : Form). AskFor (texts c.args.words.now) form) same have.ask))
