use Rattle.std.proofs.Common.{◌∙◌, ap}
use Rattle.clap.specs.Simple.{App}
use Rattle.clap.specs.Takes.{takes}
use Rattle.qg_words.specs.Words.{texts}
use Rattle.qg_words.proofs.Line.{form_taken}
use Rattle.qg_words.proofs.FormsOfMatches.{parsed-told}
use Rattle.qg_words.proofs.parse.parse.Goals as goal

pub returns-in-Ok : goal.returns-in-Ok
returns-in-Ok c = λ form ask. c.form_of.ensures form
    (parsed-told _ (texts c.args.words.now) _ form c.in_ok-command.ensures.read c.in-Ok.ensures.matches ask)

pub returns : goal.returns
returns c = λ form ask.
    let taken = ap (λ (a : App). takes a (texts c.args.words.now)) c.in_ok-command.ensures.read
    ∙ form_taken (texts c.args.words.now) form ask in
    absurd (c.in_default.not-OutOfMemory (c.kind.ensures ∙ c.in-Err.ensures.passes taken))
