use Rattle.std.proofs.Common.{ℕ, List, Option, ap, sym, ◌∙◌}
use Rattle.std.specs.Prelude.{is_some}
use Rattle.qg_image.specs.Table.{value_at}
use Rattle.qg_image.specs.declared.quota.Group.{Group}
use Rattle.qg_qgroups.proofs.Tables.{key-found}
use Rattle.qg_qgroups.proofs.refusing.has_group.Goals as goal

pub returns : goal.returns
returns c =
    c.is_some.ensures
    ∙ ap (λ (o : Option Group). is_some o) (c.find_group.ensures
    ∙ ap (λ (t : List (ℕ × Group)). value_at c.args.group t) c.as_slice.ensures)
    ∙ sym (key-found c.args.group c.args.state.now.quota.groups)
