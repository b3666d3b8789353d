-- Steps on a file's items, one after the other.
use Rattle.std.proofs.Common.{◌≡◌, ℕ, ◌+◌, ◌*◌, ◌<◌, ◌≤◌, List, [], ◌∷◌, ◌++◌, length, take, drop, Ok, Err}
use Rattle.std.proofs.Common.{arith, refl, sym, ap, subst, ◌∙◌}
use Rattle.std.specs.List.{filter_map}
use Rattle.qg_device.specs.History.{History}
use Rattle.qg_num.specs.declared.fault.BlockFault.{BlockFault}
use Rattle.qg_num.specs.declared.piece.Piece.{Piece}
use Rattle.qg_node.specs.declared.item.Item.{Item}
use Rattle.qg_file_edits.specs.declared.step.Step.{Step}
use Rattle.qg_file_edits.specs.Applying.{Applies, CanApply, after_step, after_steps}
use Rattle.qg_shared_trees.specs.Types.{FsTree}
use Rattle.qg_shared_trees.specs.Standing.{IsSubvolume, Stands, name_told}
use Rattle.qg_file_edits.specs.Editing.{AreMade, IsEditedBy}
use Rattle.qg_file_edits.specs.Exchanging.{AreCoveredThroughout}
use Rattle.qg_file_edits.specs.Files.{LeavesHeld, StaysOwn}
use Rattle.qg_file_edits.specs.Naming.{AreCovered}
use Rattle.qg_file_edits.proofs.Edited.{edited-most, edited-none, edited-then, made-failed, made-then}
use Rattle.qg_file_edits.proofs.Items.{IsAt}
use Rattle.qg_file_edits.proofs.Kept.{leaves-itself, leaves-then, own-itself, own-then}

steps-both : (ino : ℕ) (front back : List Step) (items : List Item)
    → after_steps ino (front ++ back) items ≡ after_steps ino back (after_steps ino front items)
steps-both ino [] back items = refl
steps-both ino (step ∷ front) back items = steps-both ino front back (after_step ino step items)

applies-behind : (ino : ℕ) (front back : List Step) (items : List Item) → Applies ino (front ++ back) items
    → Applies ino back (after_steps ino front items)
applies-behind ino [] back items applies = applies
applies-behind ino (step ∷ front) back items applies =
    applies-behind ino front back (after_step ino step items) applies.1

-- ---- up to a step

-- what the first steps made of items and names
pub record IsSteppedTo (ino : ℕ) (steps : List Step) (count : ℕ) (old now : FsTree) (history : History)
    (items : List Item) (names : List (ℕ × Piece)) (taken taken_now : ℕ) : Type 0 where
  pub edited : IsEditedBy count 0 old now history (after_steps ino (take count steps) items) names
  pub reads : taken_now ≤ taken + 45 * count

pub record StepsUpTo (ino : ℕ) (steps : List Step) (count : ℕ) (old now : FsTree) (before after : History)
    (bytes left faults faults_now reads reads_now : ℕ) : Type 0 where
  pub leaves : LeavesHeld old now before after bytes left
  pub own : StaysOwn old now
  pub later : faults_now ≡ faults
  pub told : (items : List Item) (names : List (ℕ × Piece)) → Stands old before items names
      → Applies ino steps items → AreCoveredThroughout old.tree.owner ino steps items names
      → IsSteppedTo ino steps count old now before items names reads reads_now

pub steps-none : (ino : ℕ) (steps : List Step) (fs : FsTree) (history : History) (bytes faults reads : ℕ)
    → IsSubvolume fs history bytes → StepsUpTo ino steps 0 fs fs history history bytes bytes faults faults reads reads
steps-none ino steps fs history bytes faults reads subvolume = record {
  leaves = leaves-itself fs history bytes subvolume;
  own = own-itself fs;
  later = omega arith;
  told = λ items names stands applies named.
      record { edited = edited-none fs history items names stands; reads = omega arith };
}

module _ (ino : ℕ) (steps : List Step) (i : ℕ) (step : Step) (at : IsAt steps i step) (old mid : FsTree)
    (before after : History) (bytes left faults faults_now reads reads_now : ℕ)
    (so_far : StepsUpTo ino steps i old mid before after bytes left faults faults_now reads reads_now) where
  -- the next step can be made
  can_step : (items : List Item) → Applies ino steps items
      → CanApply ino step (after_steps ino (take i steps) items)
  can_step items applies =
      (applies-behind ino (take i steps) (step ∷ drop (i + 1) steps) items
      (subst (λ (all : List Step). Applies ino all items) at.whole applies)).0

  stepped : (items : List Item) → after_steps ino (take (i + 1) steps) items
      ≡ after_step ino step (after_steps ino (take i steps) items)
  stepped items =
      ap (λ (all : List Step). after_steps ino all items) at.more ∙ steps-both ino (take i steps) (step ∷ []) items

  -- what the items tell then is named
  covered : (items : List Item) (names : List (ℕ × Piece)) → AreCoveredThroughout old.tree.owner ino steps items names
      → AreCovered mid.tree.owner (filter_map name_told (after_step ino step (after_steps ino (take i steps) items)))
      names
  covered items names named =
      subst (λ (o : ℕ). AreCovered o (filter_map name_told (after_step ino step (after_steps ino (take i steps) items)))
      names) (sym so_far.own.owner)
      (subst (λ (all : List Item). AreCovered old.tree.owner (filter_map name_told all) names) (stepped items)
      (named (i + 1)))

  -- and then it is
  pub steps-more : (new : FsTree) (now : History) (size faults_new reads_new : ℕ)
      → LeavesHeld mid new after now left size → StaysOwn mid new → faults_new ≡ faults_now
      → ((items : List Item) (names : List (ℕ × Piece)) → Stands mid after items names → CanApply ino step items
      → AreCovered mid.tree.owner (filter_map name_told (after_step ino step items)) names
      → AreMade 1 0 mid new after (after_step ino step items) names reads_now reads_new (Ok tt))
      → StepsUpTo ino steps (i + 1) old new before now bytes size faults faults_new reads reads_new
  steps-more new now size faults_new reads_new leaves own later told =
      let earlier = so_far.later in
      record {
        leaves = leaves-then old mid new before after now bytes left size so_far.leaves leaves;
        own = own-then old mid new so_far.own own;
        later = omega (arith, earlier, later);
        told = λ items names stands applies named.
            let here = so_far.told items names stands applies named in
            let items_here = after_steps ino (take i steps) items in
            let told_here = subst (λ (h : History). (items : List Item) (names : List (ℕ × Piece))
            → Stands mid h items names → CanApply ino step items
            → AreCovered mid.tree.owner (filter_map name_told (after_step ino step items)) names
            → AreMade 1 0 mid new h (after_step ino step items) names reads_now reads_new (Ok tt)) so_far.leaves.history
            told in
            let made = told_here items_here names here.edited.stands (can_step items applies)
            (covered items names named) in
            let edited = edited-then i 1 0 0 old mid new before items_here (after_step ino step items_here) names names
            here.edited made.done in
            let some = here.reads in
            let more = made.reads in
            record {
              edited = subst (λ (all : List Item). IsEditedBy (i + 1) 0 old new before all names) (sym (stepped items))
                  edited;
              reads = omega (arith, some, more);
            };
      }

  -- or the call gives up there
  pub steps-failed : (new : FsTree) (reads_new : ℕ) (fault : BlockFault) → i < length steps
      → ((items : List Item) (names : List (ℕ × Piece)) → Stands mid after items names → CanApply ino step items
      → AreCovered mid.tree.owner (filter_map name_told (after_step ino step items)) names
      → AreMade 1 0 mid new after (after_step ino step items) names reads_now reads_new (Err fault))
      → (items : List Item) (names : List (ℕ × Piece)) → Stands old before items names → Applies ino steps items
      → AreCoveredThroughout old.tree.owner ino steps items names
      → AreMade (length steps) 0 old new before (after_steps ino steps items) names reads reads_new (Err fault)
  steps-failed new reads_new fault below told items names stands applies named =
      let here = so_far.told items names stands applies named in
      let items_here = after_steps ino (take i steps) items in
      let told_here = subst (λ (h : History). (items : List Item) (names : List (ℕ × Piece))
      → Stands mid h items names → CanApply ino step items
      → AreCovered mid.tree.owner (filter_map name_told (after_step ino step items)) names
      → AreMade 1 0 mid new h (after_step ino step items) names reads_now reads_new (Err fault)) so_far.leaves.history
      told in
      let made = told_here items_here names here.edited.stands (can_step items applies)
      (covered items names named) in
      let failed = made-then i 1 (length steps) 0 0 0 old mid new before items_here (after_step ino step items_here)
      names
      names
      reads reads_now reads_new (Err fault) (omega (arith, below)) (omega arith) here.edited here.reads made in
      made-failed (length steps) (length steps) 0 0 old new new before (after_step ino step items_here)
      (after_steps ino steps items) names names reads reads_new fault (omega arith) failed

-- all steps are made
pub steps-all : (ino : ℕ) (steps : List Step) (i : ℕ) (old new : FsTree) (before after : History)
    (bytes left faults faults_now reads reads_now : ℕ) → length steps ≤ i → i ≤ length steps
    → take i steps ≡ steps
    → StepsUpTo ino steps i old new before after bytes left faults faults_now reads reads_now
    → (items : List Item) (names : List (ℕ × Piece)) → Stands old before items names → Applies ino steps items
    → AreCoveredThroughout old.tree.owner ino steps items names
    → AreMade (length steps) 0 old new before (after_steps ino steps items) names reads reads_now (Ok tt)
steps-all ino steps i old new before after bytes left faults faults_now reads reads_now past below whole so_far items
    names stands applies named =
    let here = so_far.told items names stands applies named in
    let some = here.reads in
    record {
      done = edited-most i (length steps) 0 0 old new before (after_steps ino steps items) names below (omega arith)
          (subst (λ (all : List Step). IsEditedBy i 0 old new before (after_steps ino all items) names) whole
          here.edited);
      sound = λ events is room. tt;
      reads = omega (arith, some, below);
    }
