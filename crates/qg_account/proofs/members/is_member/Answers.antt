use Rattle.std.proofs.Common.{ℕ, List, sym, ap, ◌∙◌}
use Rattle.std.specs.Prelude.{◌==◌}
use Rattle.qg_qgroups.specs.Groups.{has_number}
use Rattle.qg_account.proofs.GroupMembers.{kept-with, own-only}
use Rattle.qg_account.proofs.members.is_member.Goals as goal

pub returns-then-level-eq0 : goal.returns-then-level-eq0
returns-then-level-eq0 c =
    ap (λ (n : ℕ). n == c.number.result) c.value.ensures ∙ ap (λ (n : ℕ). c.args.sub == n) c.number.ensures
    ∙ sym (own-only c.args.hierarchy.now c.args.group c.args.sub c.requires.sound c.requires.kept
    (sym c.level.ensures.value ∙ c.if-level-eq0.true))

pub returns : goal.returns
returns c =
    c.has_group.ensures
    ∙ ap (λ (groups : List ℕ). has_number c.args.group groups) (c.as_slice.ensures ∙ c.in_ok-groups.ensures)
    ∙ kept-with c.args.hierarchy.now c.args.group c.args.sub c.requires.kept
