-- Fresh nodes that the tree at hand reaches are its own, and items that are taken out name no more.
use Rattle.std.proofs.Common.{◌≡◌, ℕ, ◌≤◌, Bool, true, false, List, [], ◌∷◌, map, Option, Some, None, arith, refl, sym}
use Rattle.std.proofs.Common.{◌∙◌, inl, inr}
use Rattle.std.specs.Prelude.{◌⊎◌, if◌then◌else◌}
use Rattle.std.specs.List.{cons_option, filter, filter_map}
use Rattle.qg_device.specs.History.{History}
use Rattle.qg_num.specs.declared.piece.Piece.{Piece}
use Rattle.qg_node.specs.declared.item.Item.{Item}
use Rattle.qg_node.specs.declared.node.Node.{Node}
use Rattle.qg_node.specs.Nodes.{header_of}
use Rattle.qg_items.specs.declared.extent.Reference.{Reference}
use Rattle.qg_image.specs.declared.tree.TreeKind.TheVariants.{Files}
use Rattle.qg_blocks.specs.NodesFound.{fresh_at}
use Rattle.qg_tree_edits.specs.Land.{IsDrafted}
use Rattle.qg_tree_edits.specs.Rooting.{IsReplaced}
use Rattle.qg_fs_tree.specs.declared.fs_tree.FsTree.{FsTree}
use Rattle.qg_fs_tree.specs.Standing.{Stands, name_of, name_told, names_times}
use Rattle.qg_tree_backrefs.proofs.Owings.{times-cons}
use Rattle.qg_fs_tree.proofs.After.{AreOwned}
use Rattle.qg_fs_tree.proofs.Before.{first_tree}
use Rattle.qg_fs_tree.proofs.TrueToFixed.{free-untaken}

-- each fresh node is of an owner, or of that of the fresh node that lay there before
abbrev pub ComesOf : FsTree → FsTree → Type 0
ComesOf old new = (at : ℕ) (node : Node) → fresh_at new.land.blocks.draft at ≡ Some node
    → ((header_of node).owner ≡ old.tree.owner)
    ⊎ ((was : Node) × (fresh_at old.land.blocks.draft at ≡ Some was) × ((header_of was).owner ≡ (header_of node).owner))

module _ (old new : FsTree) (history : History) (items left_items : List Item) (names : List (ℕ × Piece))
    (stands : Stands old history items names) (drafted : IsDrafted old.land old.tree.next)
    (replaced : IsReplaced Files old.tree new.tree old.land new.land history left_items)
    (comes : ComesOf old new) where
  -- where the tree reaches a node that was fresh, it reached it before, for a fresh node lies in no free slot
  pub AreOwned-after : AreOwned new history old.tree.owner
  AreOwned-after q node reaches fresh = elim (comes q node fresh) [
    | inl own ↦ own
    | inr (was, there, same) ↦
        sym same ∙ elim (replaced.reach q reaches) [
          | inl own ↦
              (stands.young old.tree q was (first_tree old history items names stands drafted) own there).1
          | inr free ↦ absurd (free-untaken old.land.space q free (drafted.each q was there).taken)
        ]
  ]

-- ---- items that are taken out

names_told : (owner : ℕ) (o : Option (ℕ × Piece)) (names : List (ℕ × Piece)) (at : ℕ) (reference : Reference)
    → names_times owner names at reference ≤ names_times owner (cons_option o names) at reference
names_told owner None names at reference = omega arith
names_told owner (Some name) names at reference =
    let both = times-cons (name_of owner name) (map (name_of owner) names) at reference in
    omega (arith, both)

names_both : (owner : ℕ) (o : Option (ℕ × Piece)) (names others : List (ℕ × Piece)) (at : ℕ) (reference : Reference)
    → names_times owner names at reference ≤ names_times owner others at reference
    → names_times owner (cons_option o names) at reference ≤ names_times owner (cons_option o others) at reference
names_both owner None names others at reference less = less
names_both owner (Some name) names others at reference less =
    let first = times-cons (name_of owner name) (map (name_of owner) names) at reference in
    let last = times-cons (name_of owner name) (map (name_of owner) others) at reference in
    omega (arith, first, last, less)

-- of fewer items fewer pieces are told
pub names-fewer : (owner : ℕ) (keep : Item → Bool) (items : List Item) (at : ℕ) (reference : Reference)
    → names_times owner (filter_map name_told (filter keep items)) at reference
    ≤ names_times owner (filter_map name_told items) at reference
names-fewer owner keep [] at reference = omega arith
names-fewer owner keep (item ∷ items) at reference =
    from (names-fewer owner keep items at reference) (keep item) refl where
      from : names_times owner (filter_map name_told (filter keep items)) at reference
          ≤ names_times owner (filter_map name_told items) at reference
          → (b : Bool) → keep item ≡ b
          → names_times owner (filter_map name_told (if b then item ∷ filter keep items else filter keep items)) at
          reference
          ≤ names_times owner (filter_map name_told (item ∷ items)) at reference
      from rest true kept =
          names_both owner (name_told item) (filter_map name_told (filter keep items)) (filter_map name_told items) at
          reference rest
      from rest false out =
          let more = names_told owner (name_told item) (filter_map name_told items) at reference in
          omega (arith, rest, more)
