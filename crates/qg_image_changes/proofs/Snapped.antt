-- A snapshot adds a subvolume to the state in which its source was marked.
use Rattle.std.proofs.Common.{◌≡◌, ℕ, zero, suc, ◌<◌, ◌≤◌, true, false, List, Option, Some, refl, sym, ap, ◌∙◌, inl}
use Rattle.std.proofs.Common.{inr}
use Rattle.std.specs.Prelude.{◌⊎◌, slice_get}
use Rattle.std.proofs.lemmas.Option.{same_Some}
use Rattle.qg_device.specs.History.{History}
use Rattle.qg_node.specs.declared.node.Node.{Node}
use Rattle.qg_node.specs.declared.node.Node.TheVariants.{Inner, Leaf}
use Rattle.qg_node.specs.declared.pointer.Pointer.{Pointer}
use Rattle.qg_node.specs.Nodes.{own_pointers}
use Rattle.qg_super.specs.declared.superblock.Super.{Super}
use Rattle.qg_image.specs.declared.file.File.{File}
use Rattle.qg_image.specs.Below.{items_below}
use Rattle.qg_image.specs.ItemMeaning.{is_subvolume_number}
use Rattle.qg_image.specs.Table.{with_value}
use Rattle.qg_image.specs.Space.{is_free_slot}
use Rattle.qg_image.specs.State.{Placed, State, Subvolume, next_generation}
use Rattle.qg_machine.specs.Step.{Snapshots, copy_of, subvolume_copy}
use Rattle.qg_tree_read.specs.Tree.{Reaches, Root}
use Rattle.qg_subvolumes.proofs.CopyWalked.{copy-items}
use Rattle.qg_open_image.specs.Types.{FsTree}
use Rattle.qg_open_image.specs.Standing.{items_in, nodes_of}
use Rattle.qg_open_image.specs.Files.{HasFiles}
use Rattle.qg_image_changes.proofs.Created.{AddsSubvolume}

-- the snapshot's root
abbrev pub placed_copy : State → ℕ → ℕ → Node → Placed
placed_copy state copy address root =
    record { node = copy_of (next_generation state) copy address root; full = false }

-- the state in which the source is marked
abbrev pub with_mark : State → ℕ → Subvolume → State
with_mark state sub source = record state {
  subvolumes = with_value sub (record source { last_snapshot = next_generation state }) state.subvolumes;
}

module _ (state after : State) (sub copy : ℕ) (parents : List ℕ) (snap : Snapshots state sub parents copy after) where
  free_marked : is_free_slot (with_mark state sub snap.source) snap.address ≡ true
  unfolding is_free_slot
  free_marked = snap.free

  pub adds-snapped : AddsSubvolume (with_mark state sub snap.source) after copy
      (subvolume_copy (next_generation state) snap.source snap.address)
      (placed_copy state copy snap.address snap.root)
  adds-snapped = record {
    free = free_marked;
    subvolumes = ap (λ (s : State). s.subvolumes) snap.copied;
    layout = ap (λ (s : State). s.layout) snap.copied;
    generation = ap (λ (s : State). s.generation) snap.copied;
    pending = ap (λ (s : State). s.pending) snap.copied;
    held = ap (λ (s : State). s.held) snap.copied;
  }

-- ---- the copy of a root

pointers_copied : (generation copy address : ℕ) (root : Node)
    → own_pointers (copy_of generation copy address root) ≡ own_pointers root
pointers_copied generation copy address (Leaf header items) = refl
pointers_copied generation copy address (Inner header pointers) = refl

-- what a tree reaches from the copy is the copy, or reached from the root
pub copy-reach : (nodes : ℕ → Option Node) (generation copy address at : ℕ) (root : Node) → nodes at ≡ Some root
    → nodes address ≡ Some (copy_of generation copy address root) → (level q : ℕ) → Reaches nodes level address q
    → (q ≡ address) ⊎ Reaches nodes level at q
unfolding Reaches
copy-reach nodes generation copy address at root there here zero q reaches = inl reaches
copy-reach nodes generation copy address at root there here (suc level) q (inl top) = inl top
copy-reach nodes generation copy address at root there here (suc level) q
    (inr (node, is, place, pointer, has, reaches)) =
    let same = same_Some node (copy_of generation copy address root) (sym is ∙ here) in
    inr (inr (
      root,
      there,
      place,
      pointer,
      ap (λ (pointers : List Pointer). slice_get pointers place)
          (sym (ap own_pointers same ∙ pointers_copied generation copy address root)) ∙ has,
      reaches,
    ))

trees_alike : (fs : FsTree) (history : History) (a b : Root)
    → items_below (nodes_of fs history) a.height a.address ≡ items_below (nodes_of fs history) b.height b.address
    → items_in fs history a ≡ items_in fs history b
trees_alike fs history a b same = rw same refl

-- the new tree has the files of the one that it was copied from
pub copy-files : (fs : FsTree) (history : History) (super : Super) (generation copy : ℕ)
    (tree source : Root)
    (root : Node) (files : List (ℕ × File)) → is_subvolume_number copy ≡ true → 0 < generation
    → generation ≤ super.generation → tree.height ≡ source.height → nodes_of fs history source.address ≡ Some root
    → nodes_of fs history tree.address ≡ Some (copy_of generation copy tree.address root)
    → HasFiles fs history source files → HasFiles fs history tree files
copy-files fs history super generation copy tree source root files number some by height there here has = record {
  items =
      trees_alike fs history tree source
      (ap (λ (level : ℕ). items_below (nodes_of fs history) level tree.address) height
      ∙ copy-items super generation copy tree.address source.address number some by (nodes_of fs history) root there
      here
      source.height)
      ∙ has.items;
  writable = has.writable;
  by = has.by;
}
