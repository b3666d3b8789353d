use Rattle.std.proofs.Common.{◌+◌, ◌∙◌, ℕ, ap, sym}
use Rattle.qg_num.specs.declared.command.Command.{Command}
use Rattle.qg_image_changes.specs.Changing.{group_copies}
use Rattle.qg_image_changes.proofs.Regrouped.{copies-other}
use Rattle.qg_store.proofs.grouping.copies_of.Goals as goal

pub returns-in-QuotaOn : goal.returns-in-QuotaOn
returns-in-QuotaOn c =
    ap (λ (n : ℕ). 18 + n) c.len.ensures
    ∙ ap (λ (given : Command). group_copies c.args.kept.now given) (sym c.in-QuotaOn.is)

pub returns-in_default : goal.returns-in_default
returns-in_default c = copies-other c.args.kept.now c.args.command.now c.in_default.not-QuotaOn
