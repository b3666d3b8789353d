-- What a commit that did not end leaves as it was, and why it names a rule.
use Rattle.std.proofs.Common.{◌≡◌, ◌⊎◌, ◌∙◌, ℕ, inl, inr, refl, sym, subst}
use Rattle.std.specs.Prelude.{Bool, false, Result, Ok, Err, IsErrOf}
use Rattle.qg_device.specs.History.{History}
use Rattle.qg_num.specs.declared.fault.BlockFault.{BlockFault}
use Rattle.qg_num.specs.declared.fault.BlockFault.TheVariants.{NoMemory, Disk, Image}
use Rattle.qg_super.specs.declared.sizes.Sizes.{Sizes}
use Rattle.qg_blocks.specs.Stopping.{StopsForCause}
use Rattle.qg_blocks.proofs.Broken.{broken-any}
use Rattle.qg_image_commits.specs.Committing.{StopsIntact}

-- nothing was done
pub stops-intact : {A : Type 0} (result : Result A BlockFault) (takes : Bool) (sizes : Sizes) (bytes : ℕ)
    (before after : History) → after ≡ before → StopsForCause result sizes bytes
    → StopsIntact takes result sizes bytes before after
stops-intact result takes sizes bytes before after same cause = record {
  broken = broken-any result (after ≡ before) same;
  cause = cause;
  refused = λ none refused. same;
}

-- it ended
pub ended-intact : {A : Type 0} (done : A) (takes : Bool) (sizes : Sizes) (bytes : ℕ) (before after : History)
    → StopsIntact takes (Ok done) sizes bytes before after
ended-intact done takes sizes bytes before after =
    record { broken = tt; cause = tt; refused = λ none refused. absurd cc }

-- its calls began
pub written-intact : {A B : Type 0} (result : Result A BlockFault) (fault : BlockFault) (takes : Bool) (sizes : Sizes)
    (bytes : ℕ) (before between after : History) → result ≡ Err fault → between ≡ before
    → (fault ≡ Disk) ⊎ (fault ≡ NoMemory)
    → (takes ≡ false → IsErrOf {T = B} (Err fault) NoMemory → after ≡ between)
    → StopsIntact takes result sizes bytes before after
written-intact result Disk takes sizes bytes before between after is same either refused =
    subst (λ r. StopsIntact takes r sizes bytes before after) (sym is)
    (record { broken = tt; cause = tt; refused = λ none wanted. absurd cc })
written-intact result NoMemory takes sizes bytes before between after is same either refused =
    subst (λ r. StopsIntact takes r sizes bytes before after) (sym is)
    (record { broken = tt; cause = tt; refused = λ none wanted. refused none refl ∙ same })
written-intact result (Image rule at) takes sizes bytes before between after is same either refused =
    elim either [
      | inl disk ↦ absurd cc
      | inr memory ↦ absurd cc
    ]

-- a fault that is handed on
pub intact-handed : {A B : Type 0} (result : Result A BlockFault) (fault : BlockFault) (takes : Bool) (sizes : Sizes)
    (bytes : ℕ) (before after : History) → result ≡ Err fault
    → StopsIntact {A = B} takes (Err fault) sizes bytes before after
    → StopsIntact takes result sizes bytes before after
intact-handed result (Image rule at) takes sizes bytes before after is intact =
    subst (λ r. StopsIntact takes r sizes bytes before after) (sym is)
    (record { broken = intact.broken; cause = intact.cause; refused = λ none wanted. absurd cc })
intact-handed result Disk takes sizes bytes before after is intact =
    subst (λ r. StopsIntact takes r sizes bytes before after) (sym is)
    (record { broken = tt; cause = tt; refused = λ none wanted. absurd cc })
intact-handed result NoMemory takes sizes bytes before after is intact =
    subst (λ r. StopsIntact takes r sizes bytes before after) (sym is)
    (record { broken = tt; cause = tt; refused = λ none wanted. intact.refused none refl })
