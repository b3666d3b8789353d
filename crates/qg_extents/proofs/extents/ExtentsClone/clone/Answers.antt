use Rattle.std.proofs.Common.{◌≡◌, refl, sym, subst}
use Rattle.std.proofs.lemmas.Map.Entries.{entries_from_clone}
use Rattle.qg_extents.specs.Table.{IsTable}
use Rattle.qg_extents.proofs.extents.ExtentsClone.clone.Goals as goal

pub invariant_of-result : goal.invariant_of-result
invariant_of-result c =
    let all = c.self.inside.table.entries in
    let same = entries_from_clone (λ a b. b ≡ a) (λ a b. b ≡ a) (λ a b is. is)
    (λ a b is. is) all c.in_ok-clone.field-0.entries c.in_ok-clone.ensures.cases in
    subst IsTable (sym same) c.self.invariant
