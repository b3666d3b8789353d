use Rattle.std.proofs.Common.{codes}
use Rattle.std.proofs.lemmas.Result.{IfOk-weaker}
use Rattle.clap.specs.Simple.{new_app}
use Rattle.qg_words.specs.Command.{ReadsAs}
use Rattle.qg_words.proofs.Built.{with-number}
use Rattle.qg_words.proofs.command.generate_form.Goals as goal

pub returns : goal.returns
returns c =
    let bare : ReadsAs (new_app (codes "gen")) c.new.result =
    record { read = c.new.ensures.app; local = c.new.ensures.local } in
    let one = with-number bare c.number.ensures.rule c.number.ensures.local c.in_ok-arg.ensures in
    IfOk-weaker c.arg-2.result _ _
    (λ form added. with-number one c.number-2.ensures.rule c.number-2.ensures.local added) c.arg-2.ensures
