-- What holds where a rule is found broken.
use Rattle.std.proofs.Common.{◌≡◌, ℕ, ap, sym, subst}
use Rattle.std.specs.Prelude.{Result, Ok, Err, IsErrAnd}
use Rattle.qg_num.specs.declared.fault.BlockFault.{BlockFault}
use Rattle.qg_num.specs.declared.fault.BlockFault.TheVariants.{NoMemory, Disk, Image}
use Rattle.qg_super.specs.declared.sizes.Sizes.{Sizes}
use Rattle.qg_blocks.specs.NodesFound.{BreaksForCause, BreaksNone, IfBroken}

-- what holds in any case
pub broken-any : {A : Type 0} (result : Result A BlockFault) (Holds : Type 0) → Holds → IfBroken result Holds
broken-any (Ok x) Holds holds = tt
broken-any (Err (Image rule at)) Holds holds = holds
broken-any (Err Disk) Holds holds = tt
broken-any (Err NoMemory) Holds holds = tt

-- what follows from it
pub broken-then : {A : Type 0} (result : Result A BlockFault) (Holds Then : Type 0) → (Holds → Then)
    → IfBroken result Holds → IfBroken result Then
broken-then (Ok x) Holds Then then broken = tt
broken-then (Err (Image rule at)) Holds Then then broken = then broken
broken-then (Err Disk) Holds Then then broken = tt
broken-then (Err NoMemory) Holds Then then broken = tt

other : (A B : Type 0) (fault : BlockFault) (Holds : Type 0) → IfBroken {A = A} (Err fault) Holds
    → IfBroken {A = B} (Err fault) Holds
other A B (Image rule at) Holds broken = broken
other A B Disk Holds broken = tt
other A B NoMemory Holds broken = tt

-- of a fault that is handed on
pub broken-handed : (A : Type 0) {B : Type 0} (result : Result B BlockFault) (fault : BlockFault) (Holds : Type 0)
    → result ≡ Err fault → IfBroken {A = A} (Err fault) Holds → IfBroken result Holds
broken-handed A {B} result fault Holds is broken =
    subst (λ (r : Result B BlockFault). IfBroken r Holds) (sym is) (other A B fault Holds broken)

-- a fault that is handed on is the call's
pub handed : {A : Type 0} (result : Result A BlockFault) (fault : BlockFault) → IsErrAnd result (λ given. given ≡ fault)
    → result ≡ Err fault
handed (Ok x) fault is = absurd is
handed (Err given) fault is = ap (λ (f : BlockFault). Err f) is

-- ---- why a rule is found broken, over any disk

unread_other : (A B : Type 0) (fault : BlockFault) (sizes : Sizes) (bytes address : ℕ)
    → BreaksForCause {A = A} (Err fault) sizes bytes address → BreaksForCause {A = B} (Err fault) sizes bytes address
unread_other A B (Image rule at) sizes bytes address broken = broken
unread_other A B Disk sizes bytes address broken = tt
unread_other A B NoMemory sizes bytes address broken = tt

-- that of a fault that is handed on
pub unread-handed : (A : Type 0) {B : Type 0} (result : Result B BlockFault) (fault : BlockFault) (sizes : Sizes)
    (bytes address : ℕ) → IsErrAnd result (λ given. given ≡ fault)
    → BreaksForCause {A = A} (Err fault) sizes bytes address → BreaksForCause result sizes bytes address
unread-handed A {B} result fault sizes bytes address is broken =
    subst (λ (r : Result B BlockFault). BreaksForCause r sizes bytes address) (sym (handed result fault is))
    (unread_other A B fault sizes bytes address broken)

-- none, where no rule is
pub unread-none : {A : Type 0} (result : Result A BlockFault) (sizes : Sizes) (bytes address : ℕ) → BreaksNone result
    → BreaksForCause result sizes bytes address
unread-none (Ok x) sizes bytes address none = tt
unread-none (Err (Image rule at)) sizes bytes address none = absurd none
unread-none (Err Disk) sizes bytes address none = tt
unread-none (Err NoMemory) sizes bytes address none = tt

-- and where it was handed on
pub unread-none-handed : (A : Type 0) {B : Type 0} (result : Result B BlockFault) (fault : BlockFault) (sizes : Sizes)
    (bytes address : ℕ) → IsErrAnd result (λ given. given ≡ fault) → BreaksNone {A = A} (Err fault)
    → BreaksForCause result sizes bytes address
unread-none-handed A result fault sizes bytes address is none =
    unread-handed A result fault sizes bytes address is (unread-none {A = A} (Err fault) sizes bytes address none)
