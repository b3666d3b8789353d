-- Why a command names a rule, over any disk: what follows of a call behind others that changed clean nodes alone.
use Rattle.std.proofs.Common.{◌≡◌, ◌≤◌, ℕ, refl, sym, ap, subst, ◌∙◌, inl, inr}
use Rattle.std.specs.Prelude.{Err, IsErrAnd, Ok, Result}
use Rattle.qg_device.specs.History.{History}
use Rattle.qg_num.specs.declared.fault.BlockFault.{BlockFault}
use Rattle.qg_num.specs.declared.fault.BlockFault.TheVariants.{Disk, Image, NoMemory}
use Rattle.qg_num.specs.declared.rule.Rule.{Rule}
use Rattle.qg_super.specs.declared.sizes.Sizes.{Sizes}
use Rattle.qg_super.specs.Places.{is_slot}
use Rattle.qg_super.specs.SuperText.{sizes_of}
use Rattle.qg_blocks.specs.Standing.{has_slot}
use Rattle.qg_blocks.specs.Stopping.{IsLone, IsMisplaced, IsStopCause, StopsForCause}
use Rattle.qg_blocks.specs.NodesFound.{FailsAsNode}
use Rattle.qg_blocks.proofs.Stopping.{stops-err, stops-grown, stops-same}
use Rattle.qg_open_image.specs.declared.open_image.OpenImage.{OpenImage}
use Rattle.qg_open_image.specs.Editing.{HasReadNodes}
use Rattle.qg_open_image.specs.Keeping.{IsFitted, SameButClean}

-- sizes are the same
pub sizes-turned : (old new : OpenImage) → SameButClean old new
    → new.fs.land.blocks.draft.sizes ≡ old.fs.land.blocks.draft.sizes
sizes-turned old new same = ap (λ (kept : OpenImage). kept.fs.land.blocks.draft.sizes) same.rest

pub sizes-read : (old new : OpenImage) (before after : History) (bytes left : ℕ)
    → HasReadNodes old new before after bytes left
    → new.fs.land.blocks.draft.sizes ≡ old.fs.land.blocks.draft.sizes
sizes-read old new before after bytes left read = ap (λ (kept : OpenImage). kept.fs.land.blocks.draft.sizes) read.same

-- what a call answers, once another tree came to hand
pub stops-turned : {A : Type 0} (result : Result A BlockFault) (old new : OpenImage) (bytes left : ℕ)
    → SameButClean old new → left ≡ bytes → StopsForCause result new.fs.land.blocks.draft.sizes left
    → StopsForCause result old.fs.land.blocks.draft.sizes bytes
stops-turned result old new bytes left same size stops =
    stops-same result new.fs.land.blocks.draft.sizes old.fs.land.blocks.draft.sizes left bytes
    (sizes-turned old new same) size stops

pub turned-err : (A : Type 0) {B : Type 0} (result : Result B BlockFault) (fault : BlockFault) (old new : OpenImage)
    (bytes left : ℕ) → IsErrAnd result (λ given. given ≡ fault) → SameButClean old new → left ≡ bytes
    → StopsForCause {A = A} (Err fault) new.fs.land.blocks.draft.sizes left
    → StopsForCause result old.fs.land.blocks.draft.sizes bytes
turned-err A result fault old new bytes left is same size stops =
    stops-err A result fault new.fs.land.blocks.draft.sizes old.fs.land.blocks.draft.sizes left bytes is
    (sizes-turned old new same) size stops

-- once nodes were read
pub read-err : (A : Type 0) {B : Type 0} (result : Result B BlockFault) (fault : BlockFault) (old new : OpenImage)
    (before after : History) (bytes left : ℕ) → IsErrAnd result (λ given. given ≡ fault)
    → HasReadNodes old new before after bytes left
    → StopsForCause {A = A} (Err fault) new.fs.land.blocks.draft.sizes left
    → StopsForCause result old.fs.land.blocks.draft.sizes bytes
read-err A result fault old new before after bytes left is read stops =
    stops-err A result fault new.fs.land.blocks.draft.sizes old.fs.land.blocks.draft.sizes left bytes is
    (sizes-read old new before after bytes left read) read.size stops

-- at once
pub first-err : (A : Type 0) {B : Type 0} (result : Result B BlockFault) (fault : BlockFault) (kept : OpenImage)
    (bytes : ℕ) → IsErrAnd result (λ given. given ≡ fault)
    → StopsForCause {A = A} (Err fault) kept.fs.land.blocks.draft.sizes bytes
    → StopsForCause result kept.fs.land.blocks.draft.sizes bytes
first-err A result fault kept bytes is stops =
    stops-err A result fault kept.fs.land.blocks.draft.sizes kept.fs.land.blocks.draft.sizes bytes bytes is refl refl
    stops

-- ---- by the sizes that the superblock tells

-- slots are where they are, whatever there is of data
slot_alike : (a b : Sizes) (bytes address : ℕ) → a.nodesize ≡ b.nodesize → a.slots ≡ b.slots
    → has_slot a bytes address ≡ has_slot b bytes address
unfolding has_slot is_slot
slot_alike a b bytes address nodesize slots =
    let Of : ℕ → ℕ → Sizes = λ size many. record { nodesize = size; slots = many; sectors = 0 } in
    ap (λ (n : ℕ). has_slot (Of n a.slots) bytes address) nodesize
    ∙ ap (λ (n : ℕ). has_slot (Of b.nodesize n) bytes address) slots

cause_alike : (a b : Sizes) (bytes : ℕ) (rule : Rule) (at : ℕ) → a.nodesize ≡ b.nodesize → a.slots ≡ b.slots
    → IsStopCause a bytes rule at → IsStopCause b bytes rule at
cause_alike a b bytes rule at nodesize slots (inl (inl (none, slot))) =
    inl (inl (sym (slot_alike a b bytes at nodesize slots) ∙ none, slot))
cause_alike a b bytes rule at nodesize slots (inl (inr fails)) =
    inl (inr (subst (λ (n : ℕ). FailsAsNode n at rule) nodesize fails))
cause_alike a b bytes rule at nodesize slots (inr (inl misplaced)) =
    inr (inl (subst (λ (n : ℕ). IsMisplaced n at rule) nodesize misplaced))
cause_alike a b bytes rule at nodesize slots (inr (inr (inl lone))) =
    inr (inr (inl (subst (λ (n : ℕ). IsLone n at rule) nodesize lone)))
cause_alike a b bytes rule at nodesize slots (inr (inr (inr misfit))) = inr (inr (inr misfit))

stops_alike : {A : Type 0} (result : Result A BlockFault) (a b : Sizes) (bytes : ℕ) → a.nodesize ≡ b.nodesize
    → a.slots ≡ b.slots → StopsForCause result a bytes → StopsForCause result b bytes
stops_alike (Ok x) a b bytes nodesize slots stops = tt
stops_alike (Err (Image rule at)) a b bytes nodesize slots stops = cause_alike a b bytes rule at nodesize slots stops
stops_alike (Err Disk) a b bytes nodesize slots stops = tt
stops_alike (Err NoMemory) a b bytes nodesize slots stops = tt

-- what is kept has nodes of those sizes
pub stops-stored : {A : Type 0} (result : Result A BlockFault) (kept : OpenImage) (bytes : ℕ) → IsFitted kept
    → StopsForCause result kept.fs.land.blocks.draft.sizes bytes
    → StopsForCause result (sizes_of kept.superblock) bytes
stops-stored result kept bytes fitted stops =
    stops_alike result kept.fs.land.blocks.draft.sizes (sizes_of kept.superblock) bytes
    (fitted.drafted.sizes.nodesize ∙ ap (λ (s : Sizes). s.nodesize) fitted.sizes)
    (fitted.drafted.sizes.slots ∙ ap (λ (s : Sizes). s.slots) fitted.sizes) stops

-- a command that commits what is pending first: the disk may be longer then
pub stops-later : {A : Type 0} (result : Result A BlockFault) (old mid : OpenImage) (bytes left : ℕ) → IsFitted mid
    → sizes_of mid.superblock ≡ sizes_of old.superblock → bytes ≤ left
    → StopsForCause result mid.fs.land.blocks.draft.sizes left → StopsForCause result (sizes_of old.superblock) bytes
stops-later result old mid bytes left fitted same longer stops =
    stops-grown result (sizes_of old.superblock) left bytes longer
    (stops-same result (sizes_of mid.superblock) (sizes_of old.superblock) left left same refl
    (stops-stored result mid left fitted stops))

pub later-err : (A : Type 0) {B : Type 0} (result : Result B BlockFault) (fault : BlockFault) (old mid : OpenImage)
    (bytes left : ℕ) → IsErrAnd result (λ given. given ≡ fault) → IsFitted mid
    → sizes_of mid.superblock ≡ sizes_of old.superblock → bytes ≤ left
    → StopsForCause {A = A} (Err fault) mid.fs.land.blocks.draft.sizes left
    → StopsForCause result (sizes_of old.superblock) bytes
later-err A result fault old mid bytes left is fitted same longer stops =
    stops-err A result fault (sizes_of old.superblock) (sizes_of old.superblock) bytes bytes is refl refl
    (stops-later {A = A} (Err fault) old mid bytes left fitted same longer stops)
