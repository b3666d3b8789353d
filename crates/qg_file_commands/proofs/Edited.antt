-- What is kept after an edit of the tree, over any disk.
use Rattle.std.proofs.Common.{◌≡◌, ℕ, ◌+◌, ◌*◌, ◌≤◌, List, ◌∷◌, map, Option, refl, sym, ap, subst, ◌∙◌}
use Rattle.std.specs.Prelude.{IfNone, None}
use Rattle.std.specs.List.{Contains}
use Rattle.std.specs.List.Sorted.{IsPermutation, IsStrictlyIncreasing}
use Rattle.qg_device.specs.History.{History}
use Rattle.qg_num.specs.declared.refusal.Refusal.{Refusal}
use Rattle.qg_super.specs.Places.{total_bytes}
use Rattle.qg_super.specs.SuperText.{sizes_of}
use Rattle.qg_image.specs.Table.{keys_of}
use Rattle.qg_image.specs.State.{Accepted}
use Rattle.qg_tree_read.specs.Tree.{Root}
use Rattle.qg_open_image.specs.Types.{FsTree}
use Rattle.qg_open_image.specs.Standing.{AreNumbered, CanTurn, trees_of}
use Rattle.qg_open_image.specs.Files.{LeavesHeld, StaysOwn}
use Rattle.qg_blocks.specs.NodesFound.{IsBacked}
use Rattle.qg_qgroups.specs.Tracked.{quota_of}
use Rattle.qg_open_image.specs.Editable.{AreGroupsOf}
use Rattle.qg_open_image.specs.declared.open_image.OpenImage.{OpenImage}
use Rattle.qg_open_image.specs.Keeping.{AreSubvolumesBy, HoldsPending, IsFitted, IsKept, most_reserved}
use Rattle.qg_file_commands.proofs.ReservedBy.{bounded-more, later-more}
use Rattle.qg_open_image.proofs.Stepped.{Reserves, edited}

-- what is said where nothing is refused
pub if-none : (refused : Option Refusal) (P : Type 0) → refused ≡ None → IfNone refused P → P
if-none refused P none said = subst (λ (o : Option Refusal). IfNone o P) none said

-- the other trees stay
others_items : (old new : FsTree) → new.others ≡ old.others → new.others.items ≡ old.others.items
others_items old new same = rw same refl

module _ (old new : FsTree) (others : new.others.items ≡ old.others.items) where
  other-there : (other : Root) → Contains new.others.items other → Contains old.others.items other
  other-there other has = subst (λ (trees : List Root). Contains trees other) others has

  -- the numbers of the trees stay where that of the one at hand does
  owners-same : new.tree.owner ≡ old.tree.owner
      → map (λ (tree : Root). tree.owner) (trees_of new) ≡ map (λ (tree : Root). tree.owner) (trees_of old)
  owners-same owner = λ i. owner i ∷ map (λ (tree : Root). tree.owner) (others i)

  numbered-same : new.tree.owner ≡ old.tree.owner → AreNumbered old → AreNumbered new
  numbered-same owner numbered = record {
    ascending = subst (λ (trees : List Root). IsStrictlyIncreasing (map (λ (tree : Root). tree.owner) trees))
        (sym others)
        numbered.ascending;
    apart_at = λ other has is. numbered.apart_at other (other-there other has) (is ∙ owner);
  }

  turns-same : new.tree.next ≡ old.tree.next → CanTurn old → CanTurn new
  turns-same next turns = record {
    next = λ other has. turns.next other (other-there other has) ∙ sym next;
    owner = λ other has. turns.owner other (other-there other has);
  }

-- what is kept, with other trees
abbrev pub with_trees : OpenImage → FsTree → OpenImage
with_trees old fs = record old { fs = fs }

-- the trees were edited, and the command isn't counted yet
pub kept-changed : (old : OpenImage) (fs : FsTree) (before after : History) (bytes left : ℕ)
    → IsKept old before bytes → LeavesHeld old.fs fs before after bytes left → StaysOwn old.fs fs
    → IsKept (with_trees old fs) after left
kept-changed old fs before after bytes left kept held stays = record {
  fitted = record {
    superblock = kept.fitted.superblock;
    subvolumes = subst (λ (n : ℕ). AreSubvolumesBy n old.snapshots) (sym stays.next) kept.fitted.subvolumes;
    trees = subst (λ (owners : List ℕ). IsPermutation owners (keys_of old.snapshots))
        (sym (owners-same old.fs fs (others_items old.fs fs held.others) stays.owner)) kept.fitted.trees;
    numbered = numbered-same old.fs fs (others_items old.fs fs held.others) stays.owner kept.fitted.numbered;
    turn = turns-same old.fs fs (others_items old.fs fs held.others) stays.next kept.fitted.turn;
    groups = subst (λ (n : ℕ). AreGroupsOf n (keys_of old.snapshots) (quota_of old.quota)) (sym stays.next)
        kept.fitted.groups;
    tracked = kept.fitted.tracked;
    bounded = kept.fitted.bounded;
    next = stays.next ∙ kept.fitted.next;
    sizes = held.sizes ∙ kept.fitted.sizes;
    drafted = held.subvolume.editable.drafted;
  };
  backed = held.subvolume.editable.backed;
  long = subst (λ (n : ℕ). total_bytes (sizes_of old.superblock) ≤ n) (sym held.size) kept.long;
}

-- a command is counted that reserves nothing
fitted-more : (kept : OpenImage) → IsFitted kept → IsFitted (record kept { pending = kept.pending + 1 })
fitted-more kept fits = record {
  superblock = fits.superblock;
  subvolumes = fits.subvolumes;
  trees = fits.trees;
  numbered = fits.numbered;
  turn = fits.turn;
  groups = fits.groups;
  tracked = fits.tracked;
  bounded = bounded-more kept.quota (kept.pending * most_reserved) ((kept.pending + 1) * most_reserved)
      (later-more kept.pending) fits.bounded;
  next = fits.next;
  sizes = fits.sizes;
  drafted = fits.drafted;
}

pub kept-edited : (old : OpenImage) (fs : FsTree) (new : OpenImage) (before after : History) (bytes left : ℕ)
    → IsKept old before bytes → LeavesHeld old.fs fs before after bytes left → StaysOwn old.fs fs
    → new ≡ edited old fs old.quota → IsKept new after left
kept-edited old fs new before after bytes left kept held stays is =
    let changed = kept-changed old fs before after bytes left kept held stays in
    subst (λ (k : OpenImage). IsKept k after left) (sym is) (record {
      fitted = fitted-more (with_trees old fs) changed.fitted;
      backed = changed.backed;
      long = changed.long;
    })

-- a command is counted that reserves something
module _ (old : OpenImage) (fs : FsTree) (new : OpenImage)
    (rest : new ≡ record (with_trees old fs) { quota = new.quota; pending = new.pending })
    (more : new.pending ≡ old.pending + 1) where
  pub accepted-is : new ≡ edited old fs new.quota
  accepted-is = rest ∙ ap (λ (n : ℕ). record old { fs = fs; quota = new.quota; pending = n }) more

  pub kept-accepted : (before after : History) (bytes left : ℕ) → IsKept old before bytes
      → LeavesHeld old.fs fs before after bytes left → StaysOwn old.fs fs → IsFitted new → IsKept new after left
  kept-accepted before after bytes left kept held stays fitted =
      let changed = kept-changed old fs before after bytes left kept held stays in
      record {
        fitted = fitted;
        backed = subst (λ (k : OpenImage). IsBacked k.fs.land.blocks after) (sym accepted-is) changed.backed;
        long = subst (λ (k : OpenImage). total_bytes (sizes_of k.superblock) ≤ left) (sym accepted-is) changed.long;
      }

-- what it reserved is held
pub accepted-reserves : (old : OpenImage) (fs : FsTree) (new : OpenImage) (amount : ℕ)
    → fs.tree.owner ≡ old.fs.tree.owner
    → quota_of new.quota ≡ quota_of old.quota
    → ((given : Accepted) (pending : List Accepted) → given.sub ≡ fs.tree.owner → given.amount ≡ amount
    → HoldsPending (with_trees old fs) pending → HoldsPending new (given ∷ pending))
    → Reserves old new.quota amount
accepted-reserves old fs new amount owner same holds = record {
  same = same;
  holds = λ given pending own is before. holds given pending (own ∙ sym owner) is before;
}
