use Rattle.std.proofs.Common.{codes}
use Rattle.std.proofs.lemmas.Result.{IfOk-weaker}
use Rattle.clap.specs.Simple.{new_app}
use Rattle.qg_words.specs.Command.{ReadsAs}
use Rattle.qg_words.proofs.Built.{with-form}
use Rattle.qg_words.proofs.command.command_line.Goals as goal

pub returns : goal.returns
returns c =
    let run : ReadsAs (new_app (codes "run")) c.new.result =
    record { read = c.new.ensures.app; local = c.new.ensures.local } in
    let check : ReadsAs (new_app (codes "check")) c.new-2.result =
    record { read = c.new-2.ensures.app; local = c.new-2.ensures.local } in
    let one = with-form c.bare_command.ensures c.in_ok-mkfs.ensures c.in_ok-subcommand.ensures in
    let two = with-form one run c.in_ok-subcommand-2.ensures in
    let three = with-form two check c.in_ok-subcommand-3.ensures in
    IfOk-weaker c.subcommand-4.result _ _ (λ line added. with-form three c.in_ok-generate.ensures added)
    c.subcommand-4.ensures
