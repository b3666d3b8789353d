-- Why a call names a rule, over any disk: what follows of a call for the calls that make it.
use Rattle.std.proofs.Common.{◌≡◌, ℕ, ◌+◌, ◌≤◌, true, false, arith, refl, sym, subst, inl, inr}
use Rattle.std.specs.Prelude.{Bool, ◌&&◌, Result, Ok, Err, IsErrAnd, nat_le}
use Rattle.std.proofs.lemmas.Bool.Decides.{nat_tests}
use Rattle.qg_num.specs.declared.fault.BlockFault.{BlockFault}
use Rattle.qg_num.specs.declared.fault.BlockFault.TheVariants.{NoMemory, Disk, Image}
use Rattle.qg_num.specs.declared.rule.Rule.{Rule}
use Rattle.qg_num.specs.declared.rule.Rule.TheVariants.{File, Item, Refs}
use Rattle.qg_super.specs.declared.sizes.Sizes.{Sizes}
use Rattle.qg_super.specs.Places.{is_slot}
use Rattle.qg_blocks.specs.Standing.{has_slot}
use Rattle.qg_blocks.specs.Stopping.{IsMisfit, IsStopCause, NamesRule, StopsForCause}
use Rattle.qg_blocks.specs.NodesFound.{BreaksAt, BreaksForCause, BreaksNone, HasNoNode}
use Rattle.qg_blocks.proofs.Broken.{handed}

-- ---- one call

-- what is answered where a node can't be read
pub stops-read : {A : Type 0} (result : Result A BlockFault) (sizes : Sizes) (bytes address : ℕ)
    → BreaksForCause result sizes bytes address → StopsForCause result sizes bytes
stops-read (Ok x) sizes bytes address broken = tt
stops-read (Err (Image rule at)) sizes bytes address broken =
    inl (subst (λ (a : ℕ). HasNoNode sizes bytes a rule) (sym broken.0) broken.1)
stops-read (Err Disk) sizes bytes address broken = tt
stops-read (Err NoMemory) sizes bytes address broken = tt

-- where no rule is named
pub stops-none : {A : Type 0} (result : Result A BlockFault) (sizes : Sizes) (bytes : ℕ) → BreaksNone result
    → StopsForCause result sizes bytes
stops-none (Ok x) sizes bytes none = tt
stops-none (Err (Image rule at)) sizes bytes none = absurd none
stops-none (Err Disk) sizes bytes none = tt
stops-none (Err NoMemory) sizes bytes none = tt

-- ---- where things don't fit

pub misfit-refs : IsMisfit Refs
misfit-refs = inl refl

pub misfit-item : IsMisfit Item
misfit-item = inr (inl refl)

pub misfit-file : IsMisfit File
misfit-file = inr (inr refl)

pub stops-misfit : {A : Type 0} (result : Result A BlockFault) (rule : Rule) (address : ℕ) (sizes : Sizes) (bytes : ℕ)
    → IsMisfit rule → result ≡ Err (Image rule address) → StopsForCause result sizes bytes
stops-misfit {A} result rule address sizes bytes misfit is =
    subst (λ (r : Result A BlockFault). StopsForCause r sizes bytes) (sym is) (inr (inr (inr misfit)))

pub stops-at : {A : Type 0} (result : Result A BlockFault) (rule : Rule) (address : ℕ) (sizes : Sizes) (bytes : ℕ)
    → IsMisfit rule → BreaksAt result rule address → StopsForCause result sizes bytes
stops-at (Ok x) rule address sizes bytes misfit at = tt
stops-at (Err (Image named there)) rule address sizes bytes misfit at =
    inr (inr (inr (subst (λ (r : Rule). IsMisfit r) (sym at.0) misfit)))
stops-at (Err Disk) rule address sizes bytes misfit at = tt
stops-at (Err NoMemory) rule address sizes bytes misfit at = tt

-- one at an address is this one
pub names-at : {A : Type 0} (result : Result A BlockFault) (rule : Rule) (address : ℕ) → BreaksAt result rule address
    → NamesRule result rule
names-at (Ok x) rule address at = tt
names-at (Err (Image named there)) rule address at = at.0
names-at (Err Disk) rule address at = tt
names-at (Err NoMemory) rule address at = tt

pub stops-rule : {A : Type 0} (result : Result A BlockFault) (rule : Rule) (sizes : Sizes) (bytes : ℕ) → IsMisfit rule
    → NamesRule result rule → StopsForCause result sizes bytes
stops-rule (Ok x) rule sizes bytes misfit names = tt
stops-rule (Err (Image named there)) rule sizes bytes misfit names =
    inr (inr (inr (subst (λ (r : Rule). IsMisfit r) (sym names) misfit)))
stops-rule (Err Disk) rule sizes bytes misfit names = tt
stops-rule (Err NoMemory) rule sizes bytes misfit names = tt

-- where memory is refused
pub stops-memory : {A : Type 0} (result : Result A BlockFault) (sizes : Sizes) (bytes : ℕ) → result ≡ Err NoMemory
    → StopsForCause result sizes bytes
stops-memory {A} result sizes bytes is =
    subst (λ (r : Result A BlockFault). StopsForCause r sizes bytes) (sym is) tt

-- ---- handed on

rule_other : (A B : Type 0) (fault : BlockFault) (rule : Rule) → NamesRule {A = A} (Err fault) rule
    → NamesRule {A = B} (Err fault) rule
rule_other A B (Image named at) rule names = names
rule_other A B Disk rule names = tt
rule_other A B NoMemory rule names = tt

-- the same rule
pub rule-err : (A : Type 0) {B : Type 0} (result : Result B BlockFault) (fault : BlockFault) (rule : Rule)
    → IsErrAnd result (λ given. given ≡ fault) → NamesRule {A = A} (Err fault) rule → NamesRule result rule
rule-err A {B} result fault rule is names =
    subst (λ (r : Result B BlockFault). NamesRule r rule) (sym (handed result fault is))
    (rule_other A B fault rule names)

-- the same sizes, and a disk as long
pub stops-same : {A : Type 0} (result : Result A BlockFault) (sizes old : Sizes) (bytes before : ℕ) → sizes ≡ old
    → bytes ≡ before → StopsForCause result sizes bytes → StopsForCause result old before
stops-same result sizes old bytes before same size stops =
    subst (λ (s : Sizes). StopsForCause result s before) same
    (subst (λ (n : ℕ). StopsForCause result sizes n) size stops)

pub stops-other : (A B : Type 0) (fault : BlockFault) (sizes : Sizes) (bytes : ℕ)
    → StopsForCause {A = A} (Err fault) sizes bytes → StopsForCause {A = B} (Err fault) sizes bytes
stops-other A B (Image rule at) sizes bytes stops = stops
stops-other A B Disk sizes bytes stops = tt
stops-other A B NoMemory sizes bytes stops = tt

-- the cause of a fault that is handed on is that of the call which met it
pub stops-err : (A : Type 0) {B : Type 0} (result : Result B BlockFault) (fault : BlockFault) (sizes old : Sizes)
    (bytes before : ℕ) → IsErrAnd result (λ given. given ≡ fault) → sizes ≡ old → bytes ≡ before
    → StopsForCause {A = A} (Err fault) sizes bytes → StopsForCause result old before
stops-err A {B} result fault sizes old bytes before is same size stops =
    subst (λ (r : Result B BlockFault). StopsForCause r old before) (sym (handed result fault is))
    (stops-other A B fault old before (stops-same {A = A} (Err fault) sizes old bytes before same size stops))

-- ---- a disk that has grown since

above_false : (place bytes before : ℕ) → before ≤ bytes → nat_le place bytes ≡ false → nat_le place before ≡ false
above_false place bytes before less none = grind (arith, nat_tests)

low_false : (a : Bool) (place bytes before : ℕ) → before ≤ bytes → (a && nat_le place bytes) ≡ false
    → (a && nat_le place before) ≡ false
low_false false place bytes before less none = refl
low_false true place bytes before less none = above_false place bytes before less none

-- where a longer disk has no slot, a shorter one has none
slot_less : (sizes : Sizes) (bytes before address : ℕ) → before ≤ bytes → has_slot sizes bytes address ≡ false
    → has_slot sizes before address ≡ false
unfolding has_slot
slot_less sizes bytes before address less none =
    low_false (is_slot sizes address) (address + sizes.nodesize) bytes before less none

cause_less : (sizes : Sizes) (bytes before : ℕ) (rule : Rule) (at : ℕ) → before ≤ bytes
    → IsStopCause sizes bytes rule at → IsStopCause sizes before rule at
cause_less sizes bytes before rule at less (inl (inl (none, slot))) =
    inl (inl (slot_less sizes bytes before at less none, slot))
cause_less sizes bytes before rule at less (inl (inr fails)) = inl (inr fails)
cause_less sizes bytes before rule at less (inr other) = inr other

pub stops-grown : {A : Type 0} (result : Result A BlockFault) (sizes : Sizes) (bytes before : ℕ) → before ≤ bytes
    → StopsForCause result sizes bytes → StopsForCause result sizes before
stops-grown (Ok x) sizes bytes before less stops = tt
stops-grown (Err (Image rule at)) sizes bytes before less stops = cause_less sizes bytes before rule at less stops
stops-grown (Err Disk) sizes bytes before less stops = tt
stops-grown (Err NoMemory) sizes bytes before less stops = tt
