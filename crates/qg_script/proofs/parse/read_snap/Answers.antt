use Rattle.std.proofs.Common.{ℕ, List, Option, IfSome, IfNone, subst}
use Rattle.qg_script.specs.Reading.{IsInherited}
use Rattle.qg_script.proofs.Commands.{reads_not, reads_some}
use Rattle.qg_script.proofs.GroupRows.{inherits_behind, next_is_sub, only_snap, snap_read}
use Rattle.qg_script.proofs.parse.read_snap.Goals as goal

pub returns-in_default : goal.returns-in_default
returns-in_default c = reads_not
    (only_snap (λ command. ⊥) c.args.rest.now
    (λ sub groups behind is next inherits. c.in_default.ensures.none sub behind next))

pub returns-in_default-sub_of : goal.returns-in_default-sub_of
returns-in_default-sub_of c =
    reads_not (only_snap (λ command. ⊥) c.args.rest.now
    (λ sub groups behind is next inherits. c.in_default-sub_of.ensures
    (next_is_sub c.in-Some.ensures.found next is)))

pub returns-in_default-2 : goal.returns-in_default-2
returns-in_default-2 c =
    let none =
    subst (λ (found : Option (List ℕ)). IfNone found ((groups : List ℕ) → IsInherited c.in-Some.rest.now groups → ⊥))
    c.in_default-2.is c.in_ok-groups.ensures.none in
    reads_not (only_snap (λ command. ⊥) c.args.rest.now
    (λ sub groups behind is next inherits. none groups (inherits_behind c.in-Some.ensures.found next inherits)))

pub returns : goal.returns
returns c =
    let inherits : IsInherited c.in-Some.rest.now c.in-Some-2.groups =
    subst (λ (found : Option (List ℕ)). IfSome found (IsInherited c.in-Some.rest.now)) c.in-Some-2.is
    c.in_ok-groups.ensures.found in
    reads_some (snap_read c.in-Some.ensures.found c.in-Some-sub_of.ensures inherits)
