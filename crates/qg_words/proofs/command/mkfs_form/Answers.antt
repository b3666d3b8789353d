use Rattle.std.proofs.Common.{codes}
use Rattle.std.proofs.lemmas.Result.{IfOk-weaker}
use Rattle.clap.specs.Simple.{new_app}
use Rattle.qg_words.specs.Command.{ReadsAs}
use Rattle.qg_words.proofs.Built.{with-number}
use Rattle.qg_words.proofs.command.mkfs_form.Goals as goal

pub returns : goal.returns
returns c =
    let bare : ReadsAs (new_app (codes "mkfs")) c.new.result =
    record { read = c.new.ensures.app; local = c.new.ensures.local } in
    let one = with-number bare c.number.ensures.rule c.number.ensures.local c.in_ok-arg.ensures in
    let two = with-number one c.number-2.ensures.rule c.number-2.ensures.local c.in_ok-arg-2.ensures in
    IfOk-weaker c.arg-3.result _ _
    (λ form added. with-number two c.number-3.ensures.rule c.number-3.ensures.local added) c.arg-3.ensures
