-- How a walk that may pass nodes by answers (this project's own).
use Rattle.std.specs.Prelude.{◌≡◌, List, Option, None, IfSome, Result, Ok, Err}
use Rattle.qg_node.specs.declared.node.Node.{Node}
use Rattle.qg_image.specs.declared.failure.Failure.{Failure}
use Rattle.qg_walk.specs.declared.fault.OpenFault.{OpenFault}
use Rattle.qg_walk.specs.Fault.{failure_of}
use Rattle.qg_shared_walk.specs.declared.unkept.Unkept.{Unkept}

-- nothing is kept of nodes, whichever they are
abbrev pub KeepsNothing : Unkept → List Node → Type 0
KeepsNothing unkept nodes = Unit {0}

-- where a fault tells that a rule is broken, one is
abbrev pub Denies : OpenFault → Option Failure → Type 0
Denies fault first = IfSome (failure_of fault) (λ told. first ≡ None → ⊥)

-- where the call answers that a rule is broken, one is
abbrev pub Refuses : {T : Type 0} → Result T OpenFault → Option Failure → Type 0
Refuses (Ok _) first = Unit {0}
Refuses (Err fault) first = Denies fault first
