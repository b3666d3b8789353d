-- Why a change of quota groups or relations is refused (btrfs-qgroup(8); the order is this project's own).
use Rattle.std.specs.Prelude.{◌≡◌, ◌⊎◌, ℕ, not, [], ◌∷◌, Option, Some, nat_lt}
use Rattle.std.specs.Bool.{then_some}
use Rattle.qg_machine.specs.ItemMeaning.{first_some}
use Rattle.qg_machine.specs.Members.{Hierarchy, level_of_group}
use Rattle.qg_machine.specs.GroupChange.{has_pair}
use Rattle.qg_qgroups.specs.declared.fault.HierFault.{HierFault}
use Rattle.qg_qgroups.specs.declared.fault.HierFault.TheVariants as why
use Rattle.qg_qgroups.specs.Groups.{has_members, is_kept}

-- the group isn't kept
abbrev pub no_group : Hierarchy → ℕ → Option HierFault
no_group hierarchy group = then_some (not (is_kept hierarchy group)) why.NoGroup

-- the group is there already, whatever its level
abbrev pub create_fault : Hierarchy → ℕ → Option HierFault
create_fault hierarchy group = then_some (is_kept hierarchy group) why.GroupThere

-- the group isn't kept, or some relation has it as parent
abbrev pub destroy_fault : Hierarchy → ℕ → Option HierFault
destroy_fault hierarchy group =
    first_some (no_group hierarchy group ∷ then_some (has_members hierarchy group) why.Busy ∷ [])

-- the member's level isn't less than the parent's, or the member or the parent isn't kept, or they are related already
abbrev pub assign_fault : Hierarchy → ℕ → ℕ → Option HierFault
assign_fault hierarchy member parent = first_some
    (then_some (not (nat_lt (level_of_group member) (level_of_group parent))) why.Level ∷ no_group hierarchy member
    ∷ no_group hierarchy parent
    ∷ then_some (has_pair member parent hierarchy.pairs) why.Related ∷ [])

-- they aren't related
abbrev pub remove_fault : Hierarchy → ℕ → ℕ → Option HierFault
remove_fault hierarchy member parent = then_some (not (has_pair member parent hierarchy.pairs)) why.NotRelated

-- memory was refused, or the fault is the one that there is
abbrev pub IsCause : Option HierFault → HierFault → Type 0
IsCause cause fault = (fault ≡ why.NoMemory) ⊎ (cause ≡ Some fault)
