-- What the items of trees name is what the files of their subvolumes have.
use Rattle.std.proofs.Common.{◌≡◌, ℕ, List, ◌++◌, refl, sym, subst, inl, inr}
use Rattle.std.specs.Prelude.{◌↔◌}
use Rattle.std.specs.List.{Contains, filter_map}
use Rattle.std.proofs.lemmas.List.Elements.{Contains-append_cases, Contains-append_left, Contains-append_right}
use Rattle.qg_device.specs.History.{History}
use Rattle.qg_num.specs.declared.piece.Piece.{Piece}
use Rattle.qg_node.specs.declared.item.Item.{Item}
use Rattle.qg_image.specs.FilesOf.{AreItemsOfFiles}
use Rattle.qg_image.specs.declared.element.Element.{Element}
use Rattle.qg_image.specs.Reach.{extent_of}
use Rattle.qg_image.specs.Space.{present_extents}
use Rattle.qg_image.specs.State.{State, Subvolume}
use Rattle.qg_image.proofs.Contained.{contains_cases, contains_here, contains_later}
use Rattle.qg_tree_read.specs.Tree.{Root}
use Rattle.qg_file_edits.specs.Types.{FsTree}
use Rattle.qg_file_edits.specs.Standing.{extents_named, items_in, name_told, names_elsewhere, trees_of}
use Rattle.qg_file_edits.proofs.Lists.{from-flat, from-mapped, from-some, has-flat, has-mapped}
use Rattle.qg_file_edits.specs.Laying.{names_in}
use Rattle.qg_file_edits.proofs.SharedTreesExtents.{TellsExtent, from-files, from-present, in-files, in-names}
use Rattle.qg_file_edits.proofs.SharedTreesExtents.{in-present}

-- an item of a tree tells an extent
record IsToldBy (fs : FsTree) (history : History) (run : Element) : Type 0 where
  tree : Root
  among : Contains (trees_of fs) tree
  item : Item
  has : Contains (items_in fs history tree) item
  tells : TellsExtent item run

-- a tree has the items of a subvolume's files, and each tree has those of one
pub record HasTree (fs : FsTree) (history : History) (subvolume : Subvolume) : Type 0 where
  pub tree : Root
  pub among : Contains (trees_of fs) tree
  pub files : AreItemsOfFiles fs.tree.next (items_in fs history tree) subvolume.files

pub record HasSubvolume (fs : FsTree) (history : History) (state : State) (tree : Root) : Type 0 where
  pub entry : ℕ × Subvolume
  pub has : Contains state.subvolumes entry
  pub files : AreItemsOfFiles fs.tree.next (items_in fs history tree) entry.1.files

module _ (fs : FsTree) (history : History) (state : State) (items : List Item)
    (hand : items_in fs history fs.tree ≡ items)
    (its : (tree : Root) → Contains (trees_of fs) tree → HasSubvolume fs history state tree)
    (each : (entry : ℕ × Subvolume) → Contains state.subvolumes entry → HasTree fs history entry.1) where
  -- what is named is told by an item
  name_by : (name : ℕ × Piece) → Contains (names_in items ++ names_elsewhere fs history) name
      → IsToldBy fs history (extent_of name.1)
  unfolding names_elsewhere
  name_by name has = elim (Contains-append_cases (names_in items) (names_elsewhere fs history) name has) [
    | inl own ↦
        let item = from-some name_told items name own in
        record {
          tree = fs.tree;
          among = contains_here fs.tree fs.others.items;
          item = item.0;
          has = subst (λ (items : List Item). Contains items item.0) (sym hand) item.1;
          tells = record { name = name; told = item.2; is = refl };
        }
    | inr other ↦
        let tree = from-flat (λ (t : Root). filter_map name_told (items_in fs history t)) fs.others.items name other in
        let item = from-some name_told (items_in fs history tree.0) name tree.2 in
        record {
          tree = tree.0;
          among = contains_later fs.tree fs.others.items tree.0 tree.1;
          item = item.0;
          has = item.1;
          tells = record { name = name; told = item.2; is = refl };
        }
  ]

  -- and what is told is named
  by_name : (run : Element) → IsToldBy fs history run → Contains (extents_named fs history (names_in items)) run
  unfolding names_elsewhere
  by_name run told =
      let name = told.tells.name in
      let listed : Contains (names_in items ++ names_elsewhere fs history) name =
      elim (contains_cases fs.tree fs.others.items told.tree told.among) [
        | inl same ↦
            let here = subst (λ (t : Root). Contains (items_in fs history t) told.item) (sym same) told.has in
            Contains-append_left (names_in items) (names_elsewhere fs history) name
            (in-names items told.item run
            (subst (λ (items : List Item). Contains items told.item) hand here) told.tells)
        | inr later ↦
            Contains-append_right (names_in items) (names_elsewhere fs history) name
            (has-flat (λ (t : Root). filter_map name_told (items_in fs history t)) fs.others.items told.tree name later
            (in-names (items_in fs history told.tree) told.item run told.has told.tells))
      ] in
      subst (λ (e : Element). Contains (extents_named fs history (names_in items)) e) told.tells.is
      (has-mapped (λ (n : ℕ × Piece). extent_of n.1) (names_in items ++ names_elsewhere fs history) name listed)

  -- what is told is present
  told_present : (run : Element) → IsToldBy fs history run → Contains (present_extents state) run
  told_present run told =
      let own = its told.tree told.among in
      in-present state run own.entry own.has
      (in-files fs.tree.next (items_in fs history told.tree) own.entry.1.files own.files run told.item told.has
      told.tells)

  present_told : (run : Element) → Contains (present_extents state) run → IsToldBy fs history run
  present_told run has =
      let found = from-present state run has in
      let own = each found.0 found.1 in
      let item = from-files fs.tree.next (items_in fs history own.tree) found.0.1.files own.files run found.2 in
      record { tree = own.tree; among = own.among; item = item.0; has = item.1; tells = item.2 }

  pub name-present : (name : ℕ × Piece) → Contains (names_in items ++ names_elsewhere fs history) name
      → Contains (present_extents state) (extent_of name.1)
  name-present name has = told_present (extent_of name.1) (name_by name has)

  pub named-present : (run : Element)
      → Contains (extents_named fs history (names_in items)) run ↔ Contains (present_extents state) run
  named-present run = (into, back) where
    into : Contains (extents_named fs history (names_in items)) run → Contains (present_extents state) run
    into has =
        let name = from-mapped (λ (n : ℕ × Piece). extent_of n.1) (names_in items ++ names_elsewhere fs history) run
        has in
        subst (λ (e : Element). Contains (present_extents state) e) name.2 (name-present name.0 name.1)

    back : Contains (present_extents state) run → Contains (extents_named fs history (names_in items)) run
    back has = by_name run (present_told run has)
