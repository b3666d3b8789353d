-- The trees that are made of a sound image that was just opened are kept of the state which the image stands for.
use Rattle.std.proofs.Common.{◌≡◌, ℕ, ◌+◌, ◌<◌, ◌≤◌, List, [], ◌∷◌, ◌++◌, map, Option, Some, arith}
use Rattle.std.proofs.Common.{refl, sym, ap, subst, ◌∙◌, inl, inr}
use Rattle.std.specs.Prelude.{◌↔◌, ◌==◌, unwrap_or}
use Rattle.std.specs.List.{Contains}
use Rattle.std.specs.Option.{option_map}
use Rattle.std.proofs.lemmas.Bool.{cases_Bool}
use Rattle.std.proofs.lemmas.List.Elements.{All-from_recursion, All-weaker, Contains-append_cases, Contains-append_left}
use Rattle.std.proofs.lemmas.List.Elements.{Contains-append_right}
use Rattle.qg_device.specs.History.{Event, Recorded, content}
use Rattle.qg_num.specs.declared.piece.Piece.{Piece}
use Rattle.qg_node.specs.declared.item.Item.{Item}
use Rattle.qg_items.specs.declared.root.RootItem.{RootItem}
use Rattle.qg_super.specs.declared.superblock.Super.{Super}
use Rattle.qg_super.specs.SuperText.{sizes_of}
use Rattle.qg_image.specs.declared.file.File.{File}
use Rattle.qg_image.specs.FilesOf.{AreItemsOfFiles}
use Rattle.qg_image.specs.Table.{keys_of, value_at}
use Rattle.qg_image.specs.declared.element.Element.{Element}
use Rattle.qg_image.specs.Space.{present_extents}
use Rattle.qg_image.specs.State.{Layout, Placed, State, Subvolume}
use Rattle.qg_image.proofs.Contained.{contains_later}
use Rattle.qg_image.specs.declared.tree.TreeKind.TheVariants.{Files}
use Rattle.qg_image.specs.ImageState.{addresses_of, items_of_root, other_nodes, roots_in, state_in, subvolume_in}
use Rattle.qg_image.specs.ImageState.{subvolume_roots, subvolumes_in, subvolume_told}
use Rattle.qg_image.specs.Walk.{root_told}
use Rattle.qg_tree_items.specs.Writable.{IsFileBy}
use Rattle.qg_space.proofs.Marks.{SlotsFit-is_served}
use Rattle.qg_owner_rule.proofs.Reaching.{entry_of_value, value_of_entry}
use Rattle.qg_extents.specs.Table.{IsTable, book_of}
use Rattle.qg_refs.specs.Book.{full_in}
use Rattle.qg_tree_read.specs.Tree.{Root}
use Rattle.qg_file_edits.specs.Types.{FsTree}
use Rattle.qg_file_edits.specs.Standing.{Stands}
use Rattle.qg_file_edits.proofs.Before.{among_of}
use Rattle.qg_file_edits.proofs.Lists.{from-mapped, has-mapped}
use Rattle.qg_file_edits.specs.Bodies.{Ascend}
use Rattle.qg_file_edits.specs.FileItemsLaws.{AreItemsOf}
use Rattle.qg_file_edits.proofs.Spelled.{spelled}
use Rattle.qg_file_edits.specs.Laying.{HoldsSlots, IsLaidOut, IsMet, names_in, nodes_in}
use Rattle.qg_file_edits.proofs.Nodes.{nodes-ascend, reached-by, value-reached}
use Rattle.qg_commit_trees.specs.Opening.{IsOpened, IsSoundImage, IsSoundSubvolume, StandsOpened, opened_tree}
use Rattle.qg_commit_trees.proofs.Opened.{drafted-there, met-slot, next-opened, node-met, own-opened, placed-opened}
use Rattle.qg_commit_trees.proofs.Opened.{slot-met, tree-entry}
use Rattle.qg_commit_trees.proofs.OpenedStands.{stands-opened}
use Rattle.qg_file_edits.specs.Files.{HasFiles, HoldsFiles}
use Rattle.qg_fs_laws.specs.Keeping.{KeepsState, OthersHaveFiles}
use Rattle.qg_fs_laws.specs.Opening.{AreBytes, HasBytes, HoldsCommit, IsOf}
use Rattle.qg_fs_laws.specs.OpeningLaws.{OpenedIsKept}
use Rattle.qg_fs_laws.proofs.ImageWalks.{items-ascend}

-- a table whose values are made of those of another
value_made : {A B : Type 0} (f : A → B) (n : ℕ) (entries : List (ℕ × A))
    → value_at n (map (λ (entry : ℕ × A). (entry.0, f entry.1)) entries) ≡ option_map f (value_at n entries)
value_made f n [] = refl
value_made {A} f n (entry ∷ entries) = elim (cases_Bool (entry.0 == n)) [
  | inl here ↦ rw here refl
  | inr other ↦ rw other (value_made {A = A} f n entries)
]

module _ (super : Super) (image : List ℕ) where
  sizes_there : (state_in super image).sizes ≡ sizes_of super
  unfolding state_in
  sizes_there = refl

  generation_there : (state_in super image).generation ≡ super.generation
  unfolding state_in
  generation_there = refl

  subvolumes_there : (state_in super image).subvolumes ≡ map (λ (entry : ℕ × RootItem).
      (entry.0, subvolume_in super image entry.1)) (subvolume_roots (roots_in super image))
  unfolding state_in subvolumes_in
  subvolumes_there = refl

  -- the subvolume of a ROOT_ITEM whose items are read as files
  subvolume_made : (root : RootItem) (files : List (ℕ × File))
      → AreItemsOfFiles super.generation (items_of_root Files super image root) files
      → subvolume_in super image root ≡ subvolume_told files root
  subvolume_made root files are = ap (λ (o : Option (List (ℕ × File))). subvolume_told (unwrap_or o []) root) are

  value_there : (sub : ℕ) (root : RootItem) (files : List (ℕ × File))
      → value_at sub (subvolume_roots (roots_in super image)) ≡ Some root
      → AreItemsOfFiles super.generation (items_of_root Files super image root) files
      → value_at sub (state_in super image).subvolumes ≡ Some (subvolume_told files root)
  value_there sub root files is are =
      ap (λ (table : List (ℕ × Subvolume)). value_at sub table) subvolumes_there
      ∙ value_made (subvolume_in super image) sub (subvolume_roots (roots_in super image))
      ∙ ap (λ (o : Option RootItem). option_map (subvolume_in super image) o) is
      ∙ ap (λ (mine : Subvolume). Some mine) (subvolume_made root files are)

  held_there : (state_in super image).held.nodes
      ≡ addresses_of (other_nodes super image) ++ keys_of (state_in super image).layout
  unfolding state_in
  held_there = refl

  extents_there : (state_in super image).held.extents ≡ present_extents (state_in super image)
  unfolding state_in present_extents
  extents_there = refl

module _ (fs : FsTree) (super : Super) (events : List Event) (table : IsTable fs.refs.refs)
    (sound : IsSoundImage super (content events)) (opened : IsOpened fs super (content events))
    (commit : HoldsCommit fs super (content events)) (bytes : HasBytes super (content events)) where
  abbrev state : State
  state = state_in super (content events)

  made : StandsOpened fs super events
  made = stands-opened fs super events table sound opened

  next_is : fs.tree.next ≡ super.generation + 1
  next_is = next-opened fs super (content events) opened

  by_next : (file : ℕ × File) → IsFileBy super.generation file → IsFileBy fs.tree.next file
  by_next file by =
      let made = by.made in
      let changed = by.changed in
      let next = next_is in
      record {
        made = omega (arith, made, next);
        changed = omega (arith, changed, next);
        stamped = All-weaker (λ (piece : Piece). piece.stamp ≤ super.generation) (λ piece. piece.stamp ≤ fs.tree.next)
            (λ piece stamp. omega (arith, stamp, next)) file.1.pieces by.stamped;
      }

  -- ---- the files of a subvolume

  module _ (entry : ℕ × RootItem) (has : Contains (subvolume_roots (roots_in super (content events))) entry) where
    own : IsSoundSubvolume super (content events) entry.1
    own = own-opened fs super events sound opened entry has

    ascending : Ascend (items_of_root Files super (content events) entry.1)
    ascending = items-ascend Files super (content events) (root_told entry.1) entry.1.bytenr own.walked refl refl

    written : AreBytes super (content events) entry.1
    written = among_of (λ (e : ℕ × RootItem). AreBytes super (content events) e.1)
        (subvolume_roots (roots_in super (content events)))
        (All-from_recursion (λ (e : ℕ × RootItem). AreBytes super (content events) e.1)
        (subvolume_roots (roots_in super (content events))) bytes) entry has

    read_as : (files : List (ℕ × File))
        → AreItemsOfFiles super.generation (items_of_root Files super (content events) entry.1) files
        → AreItemsOf super.generation files (items_of_root Files super (content events) entry.1)
    read_as files are =
        spelled super.generation (items_of_root Files super (content events) entry.1) files written ascending are

    value_is : value_at entry.0 (subvolume_roots (roots_in super (content events))) ≡ Some entry.1
    value_is = value_of_entry (subvolume_roots (roots_in super (content events))) entry sound.ascending has

    -- its tree has the items of its files
    has_files : (subvolume : Subvolume) → value_at entry.0 (state_in super (content events)).subvolumes ≡ Some subvolume
        → HasFiles fs (Recorded events) (opened_tree super entry) subvolume.files
    has_files subvolume is =
        let told = read_as own.files own.files_are in
        let there = value_there super (content events) entry.0 entry.1 own.files value_is own.files_are in
        let e : Some (subvolume_told own.files entry.1) ≡ Some subvolume = sym there ∙ is in
        let same : subvolume_told own.files entry.1 ≡ subvolume = cc in
        subst (λ (s : Subvolume). HasFiles fs (Recorded events) (opened_tree super entry) s.files) same (record {
          items = made.each entry has ∙ told.are;
          writable = told.writable;
          by = All-weaker (IsFileBy super.generation) (IsFileBy fs.tree.next) by_next own.files told.by;
        })

  have : OthersHaveFiles (state_in super (content events)) fs (Recorded events)
  have tree subvolume has value =
      let found = tree-entry fs super events sound opened tree (contains_later fs.tree fs.others.items tree has) in
      subst (λ (t : Root). HasFiles fs (Recorded events) t subvolume.files) found.2
      (has_files found.0 found.1 subvolume
      (ap (λ (t : Root). value_at t.owner (state_in super (content events)).subvolumes) found.2 ∙ value))

  -- ---- the layout

  layout_there : state.layout ≡ nodes_in fs (Recorded events)
  layout_there = ap (λ (layout : Layout). layout.nodes) (sym made.layout)

  laid : IsLaidOut (state_in super (content events)) fs (Recorded events)
  laid = record {
    sizes = sizes_there super (content events) ∙ sym opened.sizes;
    generation = ap (λ (n : ℕ). n + 1) (generation_there super (content events)) ∙ sym next_is;
    layout = sym made.layout;
  }

  -- ---- what the last commit holds

  some : 0 < fs.land.space.sizes.nodesize
  some = (SlotsFit-is_served fs.land.space.sizes (drafted-there fs super events sound opened).sizes.served).some

  key_met : (q : ℕ) → Contains (keys_of (nodes_in fs (Recorded events))) q → IsMet fs (Recorded events) q
  key_met q has =
      let entry = from-mapped (λ (entry : ℕ × Placed). entry.0) (nodes_in fs (Recorded events)) q has in
      let value = value_of_entry (nodes_in fs (Recorded events)) entry.0
      (nodes-ascend fs (Recorded events) some (placed-opened fs super events sound opened)) entry.1 in
      subst (λ (at : ℕ). IsMet fs (Recorded events) at) entry.2
      (reached-by fs (Recorded events) entry.0.0 entry.0.1 value).met

  met_key : (q : ℕ) → IsMet fs (Recorded events) q → Contains (keys_of (nodes_in fs (Recorded events))) q
  met_key q met =
      let node = node-met fs super events sound opened q met in
      let placed : Placed = record { node = node.0; full = full_in (book_of fs.refs.refs q) } in
      let value = value-reached fs (Recorded events) some (placed-opened fs super events sound opened) q placed
      (record { met = met; told = node.1; full = refl }) in
      has-mapped (λ (entry : ℕ × Placed). entry.0) (nodes_in fs (Recorded events)) (q, placed)
      (entry_of_value q placed (nodes_in fs (Recorded events)) value)

  held_is : state.held.nodes ≡ addresses_of (other_nodes super (content events))
      ++ keys_of (nodes_in fs (Recorded events))
  held_is = held_there super (content events)
      ∙ ap (λ (table : List (ℕ × Placed)). addresses_of (other_nodes super (content events)) ++ keys_of table)
      layout_there

  slots_held : HoldsSlots (state_in super (content events)) fs.land.space.held_slots
  slots_held slot = (into, back) where
    into : Contains fs.land.space.held_slots slot → Contains state.held.nodes slot
    into has =
        subst (λ (nodes : List ℕ). Contains nodes slot) (sym held_is)
        (elim ((commit.slots slot).0 has) [
          | inl other ↦
              Contains-append_left (addresses_of (other_nodes super (content events)))
              (keys_of (nodes_in fs (Recorded events))) slot other
          | inr own ↦
              Contains-append_right (addresses_of (other_nodes super (content events)))
              (keys_of (nodes_in fs (Recorded events))) slot
              (met_key slot (slot-met fs super events sound opened slot own))
        ])

    back : Contains state.held.nodes slot → Contains fs.land.space.held_slots slot
    back has =
        (commit.slots slot).1
        (elim (Contains-append_cases (addresses_of (other_nodes super (content events)))
        (keys_of (nodes_in fs (Recorded events))) slot
        (subst (λ (nodes : List ℕ). Contains nodes slot) held_is has)) [
          | inl other ↦ inl other
          | inr key ↦ inr (met-slot fs super events sound opened slot (key_met slot key))
        ])

  runs_held : (run : Element) → Contains fs.land.space.held_runs run ↔ Contains state.held.extents run
  runs_held run = (
    λ has. subst (λ (runs : List Element). Contains runs run) (sym (extents_there super (content events)))
        ((opened.runs run).0 ((commit.runs run).0 has)),
    λ has. (commit.runs run).1 ((opened.runs run).1
        (subst (λ (runs : List Element). Contains runs run) (extents_there super (content events)) has)),
  )

  -- ---- the tree at hand

  module _ (root : RootItem) (files : List (ℕ × File)) (is : IsOf super (content events) fs.tree.owner root files)
    where
      hand_has : Contains (subvolume_roots (roots_in super (content events))) (fs.tree.owner, root)
      hand_has = entry_of_value fs.tree.owner root (subvolume_roots (roots_in super (content events))) is.there

      hand_read : AreItemsOf super.generation files (items_of_root Files super (content events) root)
      hand_read = read_as (fs.tree.owner, root) hand_has files is.are

      hand_stands : Stands fs (Recorded events) (items_of_root Files super (content events) root)
          (names_in (items_of_root Files super (content events) root))
      hand_stands = made.stands root
          (subst (λ (n : ℕ). Contains (subvolume_roots (roots_in super (content events))) (n, root)) opened.number
          hand_has)

      holds : HoldsFiles fs (Recorded events) files
      holds = record {
        stands = subst (λ (its : List Item). Stands fs (Recorded events) its (names_in its)) hand_read.are hand_stands;
        writable = hand_read.writable;
        by = All-weaker (IsFileBy super.generation) (IsFileBy fs.tree.next) by_next files hand_read.by;
      }

      keeps : KeepsState fs (Recorded events) (state_in super (content events)) (subvolume_told files root) files
      keeps = record {
        there = value_there super (content events) fs.tree.owner root files is.there is.are;
        are = refl;
        holds = holds;
        have = have;
        laid = laid;
        held_slots = slots_held;
        held_runs = runs_held;
      }

pub opened-kept : OpenedIsKept
opened-kept fs super events root files table sound opened commit bytes is =
    keeps fs super events table sound opened commit bytes root files is
