-- What a call answers that hands on a fault.
use Rattle.std.proofs.Common.{◌≡◌, ℕ, List, Result, Ok, Err, refl, sym, subst, ◌∙◌}
use Rattle.std.specs.Prelude.{⊤, IsErrOf, MatchResult}
use Rattle.qg_device.specs.History.{History}
use Rattle.qg_num.specs.declared.fault.BlockFault.{BlockFault}
use Rattle.qg_num.specs.declared.fault.BlockFault.TheVariants.{Disk, Image, NoMemory}
use Rattle.qg_num.specs.declared.piece.Piece.{Piece}
use Rattle.qg_node.specs.declared.item.Item.{Item}
use Rattle.qg_num.specs.declared.rule.Rule.TheVariants.{Refs}
use Rattle.qg_blocks.specs.Stopping.{NamesRule}
use Rattle.qg_blocks.specs.NodesFound.{BreaksNone}
pub use Rattle.qg_blocks.proofs.Broken.{handed}
use Rattle.qg_shared_trees.specs.Types.{FsTree}
use Rattle.qg_shared_trees.specs.Standing.{IsMisfitAt}
use Rattle.qg_file_edits.specs.Editing.{AreMade}
use Rattle.qg_file_edits.specs.Naming.{AreNamed}

pub named-failed : (old new : FsTree) (history : History) (items : List Item) (names : List (ℕ × Piece))
    (result : Result (Unit {0}) BlockFault) (fault : BlockFault) → result ≡ Err fault
    → BreaksNone {A = Unit {0}} (Err fault)
    → AreNamed old new history items names result
named-failed old new history items names result fault is none =
    subst (λ (r : Result (Unit {0}) BlockFault). AreNamed old new history items names r) (sym is)
    (record { done = tt; sound = none })

pub made-handed : (edits added : ℕ) (old new : FsTree) (history : History) (items : List Item)
    (names : List (ℕ × Piece)) (reads reads_new : ℕ) (result : Result (Unit {0}) BlockFault) (fault : BlockFault)
    → result ≡ Err fault → AreMade edits added old new history items names reads reads_new (Err fault)
    → AreMade edits added old new history items names reads reads_new result
made-handed edits added old new history items names reads reads_new result fault is made =
    subst (λ (r : Result (Unit {0}) BlockFault). AreMade edits added old new history items names reads reads_new r)
    (sym is)
    made

-- a reference that is not what it should be is no fault of the disk's
pub misfit-other : {A : Type 0} (at : ℕ) (result : Result A BlockFault) (fault : BlockFault) → result ≡ Err fault
    → IsMisfitAt at fault → IsErrOf result Disk → ⊥
misfit-other {A} at result fault is misfit disk =
    let both : ◌≡◌ {A = Result A BlockFault} (Err fault) (Err Disk) = sym is ∙ disk in
    let same : fault ≡ Disk = cc in
    subst (IsMisfitAt at) same misfit

pub misfit-none : {A : Type 0} (at : ℕ) (result : Result A BlockFault)
    → MatchResult result (λ done. ⊤) (IsMisfitAt at) → IsErrOf result Disk → ⊥
misfit-none {A} at (Ok x) met disk = cc
misfit-none {A} at (Err fault) met disk = misfit-other at (Err fault) fault refl met disk

-- want of memory that is handed on
pub memory-sound : (result : Result (Unit {0}) BlockFault) → result ≡ Err NoMemory → BreaksNone result
memory-sound result is = subst (λ (r : Result (Unit {0}) BlockFault). BreaksNone r) (sym is) tt

-- the rule that it names is `refs`
pub misfit-rule : (A : Type 0) (at : ℕ) (fault : BlockFault) → IsMisfitAt at fault → NamesRule {A = A} (Err fault) Refs
misfit-rule A at (Image rule address) misfit = misfit.0
misfit-rule A at Disk misfit = tt
misfit-rule A at NoMemory misfit = tt

pub misfit-match : {A : Type 0} (at : ℕ) (result : Result A BlockFault)
    → MatchResult result (λ done. ⊤) (IsMisfitAt at) → NamesRule result Refs
misfit-match at (Ok x) met = tt
misfit-match {A} at (Err fault) met = misfit-rule A at fault met
