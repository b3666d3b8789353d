use Rattle.std.proofs.Common.{◌≡◌, ℕ, List, [], ◌∷◌, refl, ap, ◌∙◌}
use Rattle.std.proofs.lemmas.List.{take_all}
use Rattle.qg_image.specs.Table.{keys_of}
use Rattle.qg_image.specs.declared.quota.Group.{Group}
use Rattle.qg_qgroups.specs.Agreement.{counted_groups}
use Rattle.qg_account.proofs.stored.stored_counters.Goals as goal

keys-counted : (groups : List (ℕ × Group)) → keys_of (counted_groups groups) ≡ keys_of groups
keys-counted [] = refl
keys-counted (entry ∷ groups) = ap (λ (ns : List ℕ). entry.0 ∷ ns) (keys-counted groups)

pub returns-clause-groups : goal.returns-clause-groups
returns-clause-groups c =
    let groups = c.args.groups.now in
    ap keys_of (c.loop-entry.invariant
    ∙ ap counted_groups (take_all c.loop-entry.entry-index groups c.loop-entry-test.false)) ∙ keys-counted groups
