-- Trees that stand still, and of which nothing else has changed, are kept of the same state.
use Rattle.std.proofs.Common.{◌≡◌, ℕ, List, Some, refl, sym, ap, subst, ◌∙◌}
use Rattle.std.specs.Prelude.{◌↔◌}
use Rattle.std.specs.List.{All, Contains, flat_map}
use Rattle.qg_device.specs.History.{History}
use Rattle.qg_image.specs.declared.file.File.{File}
use Rattle.qg_image.specs.Table.{value_at}
use Rattle.qg_image.specs.State.{State, Subvolume}
use Rattle.qg_image.proofs.Contained.{contains_later}
use Rattle.qg_tree_items.specs.Writable.{IsFileBy}
use Rattle.qg_root_items.specs.Written.{items_of_file}
use Rattle.qg_space.specs.Holding.{Holding}
use Rattle.qg_tree_read.specs.Tree.{Root}
use Rattle.qg_file_edits.specs.Named.{named}
use Rattle.qg_file_edits.specs.Types.{FsTree}
use Rattle.qg_commit_trees.specs.Committing.{StandsStill}
use Rattle.qg_file_edits.specs.Files.{HasFiles}
use Rattle.qg_fs_laws.specs.Keeping.{KeepsState}

module _ (old new : FsTree) (before after : History) (state : State) (mine : Subvolume)
    (files : List (ℕ × File)) (tree : new.tree ≡ old.tree) (others : new.others ≡ old.others)
    (space : new.land.space ≡ old.land.space)
    (still : StandsStill old new before after (flat_map items_of_file files) (named files))
    (keeps : KeepsState old before state mine files) where
  next_is : new.tree.next ≡ old.tree.next
  next_is = ap (λ (root : Root). root.next) tree

  by_then : (its : List (ℕ × File)) → All (IsFileBy old.tree.next) its → All (IsFileBy new.tree.next) its
  by_then its by = subst (λ (n : ℕ). All (IsFileBy n) its) (sym next_is) by

  others_are : new.others.items ≡ old.others.items
  others_are = rw others refl

  -- another tree has the files that it had
  have_still : (other : Root) (subvolume : Subvolume) → Contains new.others.items other
      → value_at other.owner state.subvolumes ≡ Some subvolume → HasFiles new after other subvolume.files
  have_still other subvolume among there =
      let among_old = subst (λ (trees : List Root). Contains trees other) others_are among in
      let has = keeps.have other subvolume among_old there in
      record {
        items = still.each other (contains_later old.tree old.others.items other among_old) ∙ has.items;
        writable = has.writable;
        by = by_then subvolume.files has.by;
      }

  pub kept-still : KeepsState new after state mine files
  kept-still = record {
    there = ap (λ (root : Root). value_at root.owner state.subvolumes) tree ∙ keeps.there;
    are = keeps.are;
    holds = record {
      stands = still.stands;
      writable = keeps.holds.writable;
      by = by_then files keeps.holds.by;
    };
    have = have_still;
    laid = record {
      sizes = keeps.laid.sizes ∙ sym (ap (λ (holding : Holding). holding.sizes) space);
      generation = keeps.laid.generation ∙ sym next_is;
      layout = keeps.laid.layout ∙ sym still.layout;
    };
    held_slots = λ slot.
        subst (λ (holding : Holding). Contains holding.held_slots slot ↔ Contains state.held.nodes slot) (sym space)
        (keeps.held_slots slot);
    held_runs = λ run.
        subst (λ (holding : Holding). Contains holding.held_runs run ↔ Contains state.held.extents run) (sym space)
        (keeps.held_runs run);
  }
