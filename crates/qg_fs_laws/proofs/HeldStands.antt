-- Trees of a state that is held stand, where they have the items of its files; so they are kept of it.
use Rattle.std.proofs.Common.{◌≡◌, ℕ, ◌+◌, ◌<◌, ◌≤◌, true, false, List, [], ◌∷◌, ◌++◌, length, get_or, map, Option}
use Rattle.std.proofs.Common.{Some, None, arith, refl, sym, ap, subst, ◌∙◌, inl, inr}
use Rattle.std.specs.Prelude.{◌==◌, All, is_some}
use Rattle.std.specs.List.{Contains, flat_map}
use Rattle.std.proofs.lemmas.Bool.{eqb-true, lt-ltb, or_cases}
use Rattle.std.proofs.lemmas.List.Elements.{All-append, All-cons, All-nil}
use Rattle.std.proofs.lemmas.Option.{same_Some}
use Rattle.qg_device.specs.History.{History}
use Rattle.qg_num.specs.declared.piece.Piece.{Piece}
use Rattle.qg_node.specs.declared.item.Item.{Item}
use Rattle.qg_node.specs.declared.node.Node.{Node}
use Rattle.qg_node.specs.Nodes.{header_of}
use Rattle.qg_items.specs.declared.extent.Reference.{Reference}
use Rattle.qg_items.proofs.FileBodies.{length-extent_data_text, length-inode_text}
use Rattle.qg_super.specs.declared.sizes.Sizes.{Sizes}
use Rattle.qg_super.specs.declared.superblock.Super.{Super}
use Rattle.qg_super.specs.Places.{is_run}
use Rattle.qg_image.specs.declared.file.File.{File}
use Rattle.qg_image.specs.Below.{items_below}
use Rattle.qg_image.specs.FilesOf.{files_of, AreItemsOfFiles}
use Rattle.qg_image.specs.Table.{has_key, value_at}
use Rattle.qg_image.specs.Owed.{owed_count}
use Rattle.qg_image.specs.Reach.{extent_of, is_among, level_of, reaches}
use Rattle.qg_image.specs.State.{Layout, Placed, State, Subvolume, layout_of, node_at}
use Rattle.qg_image.proofs.Contained.{contains_cases, contains_here, contains_later}
use Rattle.qg_image.specs.declared.tree.TreeKind.TheVariants.{Files}
use Rattle.qg_image.specs.Walk.{root_expected}
use Rattle.qg_root_items.specs.Written.{extent_data_of, inode_of, item_of_inode, item_of_piece, items_of_file}
use Rattle.qg_root_items.proofs.FileTree.{file_items-told}
use Rattle.qg_machine.specs.Layout.{IsTreeOf, found_in, super_to_come}
use Rattle.qg_owner_rule.proofs.Reaching.{entry_of_value}
use Rattle.qg_space.specs.Holding.{has_slot}
use Rattle.qg_refs.specs.Book.{full_in}
use Rattle.qg_extents.specs.Table.{book_of}
use Rattle.qg_tree_read.specs.Tree.{IsTree, Reaches, Root, TellsTree, super_of}
use Rattle.qg_tree_read.proofs.Frames.{IsTree-same}
use Rattle.qg_tree_read.proofs.Walked.{IsTree-walked}
use Rattle.qg_file_edits.specs.Rooting.{IsRooted}
use Rattle.qg_file_edits.specs.Following.{references_to}
use Rattle.qg_file_edits.specs.ForestStanding.{HoldsState, tree_of}
use Rattle.qg_file_edits.proofs.ForestExtents.{among-one, apart-held, level-found, piece-present, told-found}
use Rattle.qg_file_edits.proofs.Homes.{owner-reaches}
use Rattle.qg_file_edits.proofs.Meeting.{IsLed, IsMet as IsMetIn, IsRoot, each-there, met-back, placed-there, root-low}
use Rattle.qg_file_edits.proofs.Meeting.{root-valued}
use Rattle.qg_file_edits.proofs.PiecesTold.{named-item}
use Rattle.qg_file_edits.proofs.Referring.{OwesChild, OwesRoot, child-counted, children_of, named_by, owed-referred}
use Rattle.qg_file_edits.proofs.Referring.{root-counted}
use Rattle.qg_file_edits.proofs.ForestRoots.{root_level-value, root_of-value}
use Rattle.qg_file_edits.proofs.Snapshotted.{root_entry}
use Rattle.qg_file_edits.specs.Types.{FsTree}
use Rattle.qg_file_edits.specs.Standing.{IsAtHome, IsBeside, IsKnownExtent, IsReachedBy, Stands, items_in}
use Rattle.qg_file_edits.specs.Standing.{names_elsewhere, names_times, nodes_of, trees_of}
use Rattle.qg_file_edits.proofs.Before.{index_among}
use Rattle.qg_file_edits.proofs.Counts.{branch, single-way}
use Rattle.qg_file_edits.proofs.FewNames.{names-few}
use Rattle.qg_file_edits.proofs.Lists.{has-mapped}
use Rattle.qg_file_edits.proofs.Places.{slot-once}
use Rattle.qg_file_edits.proofs.Sound.{told-formed}
use Rattle.qg_file_edits.proofs.TrueToFixed.{free-untaken}
use Rattle.qg_file_edits.specs.Laying.{IsMet}
use Rattle.qg_file_edits.proofs.Reach.{in-reaches, reaches-root}
use Rattle.qg_file_edits.specs.Named.{named}
use Rattle.qg_file_edits.specs.Files.{HasFiles}
use Rattle.qg_fs_laws.specs.Keeping.{AreTreesOf, AreYoung, IsKept, KeepsState, OthersHaveFiles}
use Rattle.qg_fs_laws.proofs.HeldTrees.{IsTreeIn, drafted-held, held-tree, laid-held, met-held, next-held, others-apart}
use Rattle.qg_fs_laws.proofs.HeldTrees.{others-ascend, placed-held, reach-back, rooted_by, served-held, slot-held}
use Rattle.qg_fs_laws.proofs.HeldTrees.{some_bytes, told-held, tree-held, value-held}
use Rattle.qg_fs_laws.proofs.Named.{HasSubvolume, HasTree, name-present, named-present}

-- ---- items of files are short

abbrev IsShort : Item → Type 0
IsShort item = length item.body ≤ 1024

pieces_short : (ino : ℕ) (pieces : List Piece) → All IsShort (map (item_of_piece ino) pieces)
pieces_short ino [] = All-nil IsShort
pieces_short ino (piece ∷ pieces) =
    let long = length-extent_data_text (extent_data_of piece) in
    All-cons IsShort (item_of_piece ino piece) (map (item_of_piece ino) pieces) (omega (arith, long))
    (pieces_short ino pieces)

files_short : (files : List (ℕ × File)) → All IsShort (flat_map items_of_file files)
files_short [] = All-nil IsShort
files_short (file ∷ files) =
    let long = length-inode_text (inode_of file.1) in
    All-append IsShort (items_of_file file) (flat_map items_of_file files)
    (All-cons IsShort (item_of_inode file.0 file.1) (map (item_of_piece file.0) file.1.pieces) (omega (arith, long))
    (pieces_short file.0 file.1.pieces)) (files_short files)

items_told : (fs : FsTree) (history : History) (tree : Root) (items : List Item)
    → items_below (nodes_of fs history) tree.height tree.address ≡ Some items → items_in fs history tree ≡ items
items_told fs history tree items is = rw is refl

module _ (fs : FsTree) (history : History) (bytes : ℕ) (state : State) (mine : Subvolume)
    (kept : IsKept fs history bytes) (held : HoldsState fs.land history fs.refs state) (trees : AreTreesOf fs state)
    (there : value_at fs.tree.owner state.subvolumes ≡ Some mine) (hand : HasFiles fs history fs.tree mine.files)
    (others : OthersHaveFiles state fs history) where
  abbrev laid : ℕ → Option Node
  laid = node_at state.layout

  own : (tree : Root) → Contains (trees_of fs) tree → IsTreeIn state tree
  own = tree-held fs history bytes state mine kept held trees there

  -- ---- files

  has_files : (tree : Root) → Contains (trees_of fs) tree → (subvolume : Subvolume)
      → value_at tree.owner state.subvolumes ≡ Some subvolume → HasFiles fs history tree subvolume.files
  has_files tree among subvolume value = elim (contains_cases fs.tree fs.others.items tree among) [
    | inl same ↦
        let its = ap (λ (t : Root). value_at t.owner state.subvolumes) same ∙ value in
        let is = same_Some mine subvolume (sym there ∙ its) in
        subst (λ (t : Root). HasFiles fs history t subvolume.files) same
        (subst (λ (s : Subvolume). HasFiles fs history fs.tree s.files) is hand)
    | inr later ↦ others tree subvolume later value
  ]

  files_told : (tree : Root) → Contains (trees_of fs) tree → (subvolume : Subvolume)
      → value_at tree.owner state.subvolumes ≡ Some subvolume
      → AreItemsOfFiles fs.tree.next (items_in fs history tree) subvolume.files
  files_told tree among subvolume value =
      let has = has_files tree among subvolume value in
      ap (λ (items : List Item). files_of fs.tree.next items) has.items
      ∙ file_items-told fs.tree.next subvolume.files has.writable kept.near has.by

  its : (tree : Root) → Contains (trees_of fs) tree → HasSubvolume fs history state tree
  its tree among =
      let is = own tree among in
      record {
        entry = (tree.owner, is.subvolume);
        has = entry_of_value tree.owner is.subvolume state.subvolumes is.value;
        files = files_told tree among is.subvolume is.value;
      }

  each : (entry : ℕ × Subvolume) → Contains state.subvolumes entry → HasTree fs history entry.1
  each entry has =
      let among = held-tree fs history bytes state mine kept held trees there entry has in
      record {
        tree = tree_of state entry.0;
        among = among;
        files = files_told (tree_of state entry.0) among entry.1
            (value-held fs history bytes state mine kept held trees there entry has);
      }

  -- ---- a tree

  module _ (tree : Root) (among : Contains (trees_of fs) tree) where
    abbrev super : Super
    super = super_of tree fs.land.blocks.draft

    whole : IsTreeOf state (own tree among).subvolume
    whole = each-there (λ (entry : ℕ × Subvolume). IsTreeOf state entry.1) tree.owner (own tree among).subvolume
        state.subvolumes held.whole.trees (own tree among).value

    size_is : fs.land.blocks.draft.sizes.nodesize ≡ state.sizes.nodesize
    size_is = (drafted-held fs history bytes state mine kept held trees there).sizes.nodesize
        ∙ sym (ap (λ (sizes : Sizes). sizes.nodesize) held.sizes)

    -- it stands in the layout from its root down
    stands_laid : IsTree Files (super_of tree fs.land.blocks.draft) (node_at state.layout)
        (level_of (node_at state.layout (own tree among).subvolume.root)) (own tree among).subvolume.root whole.items
    stands_laid =
        let at = (own tree among).subvolume.root in
        let next = (own tree among).next in
        let low = root-low state held.whole state.subvolumes held.whole.trees (own tree among).subvolume whole in
        IsTree-walked Files (super_to_come state) super (found_in state.layout) laid (root_expected None None)
        (level_of (laid at)) at whole.items (λ q. told-found (laid q) q) size_is (omega (arith, next)) refl refl low
        (λ node found. level-found (laid at) at node found) whole.walked whole.under

    tree_laid : IsTree Files (super_of tree fs.land.blocks.draft) (node_at state.layout) tree.height tree.address
        whole.items
    tree_laid =
        subst (λ (a : ℕ). IsTree Files super laid tree.height a whole.items) (sym (own tree among).root)
        (subst (λ (h : ℕ). IsTree Files super laid h (own tree among).subvolume.root whole.items)
        (sym (own tree among).level) stands_laid)

    tree_told : IsTree Files (super_of tree fs.land.blocks.draft) (nodes_of fs history) tree.height tree.address
        whole.items
    tree_told = IsTree-same Files super laid (nodes_of fs history) tree.height tree.address whole.items tree_laid
        (told-held fs history bytes state mine kept held trees there tree among)

    items_are : items_in fs history tree ≡ whole.items
    items_are = items_told fs history tree whole.items tree_told.items_are

    tells : TellsTree Files tree fs.land.blocks.draft history (items_in fs history tree)
    tells = subst (λ (items : List Item). TellsTree Files tree fs.land.blocks.draft history items) (sym items_are)
        tree_told

  -- ---- references lead to what is reached

  root_referred : (q : ℕ) → IsRoot state.subvolumes q → 0 < references_to (book_of fs.refs.refs) q
  root_referred q root =
      let owes : OwesRoot (layout_of state) q = record {
        entry = (root.number, root.subvolume.root);
        has = has-mapped root_entry state.subvolumes (root.number, root.subvolume)
            (entry_of_value root.number root.subvolume state.subvolumes root.there);
        here = root.here;
      } in
      let counted = root-counted (layout_of state) q owes in
      owed-referred (layout_of state) (book_of fs.refs.refs) held.agrees q counted.0 counted.1

  child_referred : (q : ℕ) → IsLed state state.subvolumes q → 0 < references_to (book_of fs.refs.refs) q
  child_referred q led =
      let placed = placed-there state.layout led.from (value_at led.from state.layout) refl led.node led.there in
      let owes : OwesChild (layout_of state) q = record {
        entry = (led.from, placed.0);
        has = entry_of_value led.from placed.0 state.layout placed.1;
        leads = subst (λ (n : Node). Contains (children_of n) q) (sym placed.2) led.leads;
      } in
      let counted = child-counted (layout_of state) q owes in
      owed-referred (layout_of state) (book_of fs.refs.refs) held.agrees q counted.0 counted.1

  referred : (q : ℕ) → IsMet fs history q → 0 < references_to (book_of fs.refs.refs) q
  referred q met = elim (met-back state held.whole state.subvolumes held.whole.trees q
      (met-held fs history bytes state mine kept held trees there q met)) [
        | inl root ↦ root_referred q root
        | inr led ↦ child_referred q led
      ]

  -- so no free slot is reached
  taken : (q : ℕ) → IsMet fs history q → has_slot fs.land.space q ≡ true
  taken q met =
      held.settled.slots q (slot-held fs history bytes state mine kept held trees there q met)
      ∙ lt-ltb 0 (references_to (book_of fs.refs.refs) q) (referred q met)

  rooted : (tree : Root) → Contains (trees_of fs) tree
      → IsRooted Files tree fs.land history (items_in fs history tree)
  rooted tree among =
      let is = own tree among in
      let has = has_files tree among is.subvolume is.value in
      record {
        tells = tells tree among;
        apart = λ q free reached. free-untaken fs.land.space q free
            (taken q (record { tree = tree; among = among; reached = reached }));
        short = subst (λ (items : List Item). All IsShort items) (sym has.items) (files_short is.subvolume.files);
      }

  beside : (tree : Root) → Contains fs.others.items tree → IsBeside fs history tree
  beside tree has =
      let among = contains_later fs.tree fs.others.items tree has in
      record {
        items = items_in fs history tree;
        rooted = rooted tree among;
        next = (own tree among).next ∙ next-held fs history bytes state mine kept held trees there;
        number = others-apart fs history bytes state mine kept held trees there tree has;
      }

  -- ---- owners

  -- no extent that a node names begins in a slot
  no_extent : (at q : ℕ) (node : Node) (placed : Placed) → IsMetIn state state.subvolumes at
      → node_at state.layout at ≡ Some node → value_at q state.layout ≡ Some placed
      → is_among q (named_by node) ≡ true → ⊥
  no_extent at q node placed met is value names =
      let element = among-one q (named_by node) names in
      let item = named-item node element.0 element.1 in
      let present = piece-present state held.whole at node met is item.0 item.1 element.0 item.2 in
      apart-held fs.land history fs.refs state held
      (served-held fs history bytes state mine kept held trees there) element.0 present
      (ap (λ (a : ℕ). has_key a state.layout) element.2 ∙ ap (λ (o : Option Placed). is_some o) value)

  owner_home : (number q : ℕ) (placed : Placed) → reaches (layout_of state) number q ≡ true
      → value_at q state.layout ≡ Some placed → IsAtHome fs history q number
  owner_home number q placed is value =
      let root = reaches-root (layout_of state) number q is in
      let found = rooted_by (value_at number state.subvolumes) root.0
      (sym (root-valued number state.subvolumes) ∙ root.1) in
      let tree = tree_of state number in
      let among = held-tree fs history bytes state mine kept held trees there (number, found.0)
      (entry_of_value number found.0 state.subvolumes found.1) in
      let address : tree.address ≡ root.0 = root_of-value state number found.0 found.1 ∙ found.2 in
      let height : tree.height ≡ level_of (laid root.0) =
      root_level-value state number found.0 found.1 ∙ ap (λ (a : ℕ). level_of (laid a)) found.2 in
      let step = in-reaches (layout_of state) number root.0 (level_of (laid root.0)) root.1 refl q is in
      let reached : Reaches laid tree.height tree.address step.0 =
      subst (λ (h : ℕ). Reaches laid h tree.address step.0) (sym height)
      (subst (λ (a : ℕ). Reaches laid (level_of (laid root.0)) a step.0) (sym address) step.2) in
      let met : IsMet fs history step.0 = record {
        tree = tree;
        among = among;
        reached = reach-back fs history bytes state mine kept held trees there tree among step.0 reached;
      } in
      elim (or_cases (step.0 == q) (is_among q (named_by step.1)) step.4) [
        | inl itself ↦ record {
          tree = tree;
          among = among;
          number = refl;
          reached = subst (λ (a : ℕ). IsReachedBy fs history tree a) (eqb-true step.0 q itself) met.reached;
        }
        | inr names ↦ absurd (no_extent step.0 q step.1 placed
            (met-held fs history bytes state mine kept held trees there step.0 met) step.3 value names)
      ]

  at_home : (tree : Root) (q : ℕ) (node : Node) → Contains (trees_of fs) tree → IsReachedBy fs history tree q
      → nodes_of fs history q ≡ Some node → full_in (book_of fs.refs.refs q) ≡ false
      → IsAtHome fs history q (header_of node).owner
  at_home tree q node among reached told bare =
      let placed = placed-held fs history bytes state mine kept held trees there q
      (record { tree = tree; among = among; reached = reached }) in
      let laid_so = held.nodes q placed.0 placed.1 in
      let same = same_Some placed.0.node node (sym laid_so.told ∙ told) in
      let owner = owner-reaches (layout_of state) held.home q placed.0 placed.1 (sym laid_so.mark ∙ bare) in
      subst (λ (n : Node). IsAtHome fs history q (header_of n).owner) same
      (owner_home (header_of placed.0.node).owner q placed.0 owner placed.1)

  -- ---- all of it

  abbrev items : List Item
  items = flat_map items_of_file mine.files

  rooted_hand : IsRooted Files fs.tree fs.land history (flat_map items_of_file mine.files)
  rooted_hand = subst (λ (xs : List Item). IsRooted Files fs.tree fs.land history xs) hand.items
      (rooted fs.tree (contains_here fs.tree fs.others.items))

  few : (at : ℕ) (reference : Reference) → names_times fs.tree.owner (named mine.files) at reference ≤ 4294967295
  few at reference =
      let drafted = drafted-held fs history bytes state mine kept held trees there in
      names-few Files (super_of fs.tree fs.land.blocks.draft) (nodes_of fs history) fs.land.space.sizes
      fs.tree.height fs.tree.address items (branch fs history fs.tree items rooted_hand drafted)
      drafted.sizes.served
      (λ q reached. slot-once fs.land.space.sizes q
      (some_bytes fs history bytes state mine kept held trees there)
      (slot-held fs history bytes state mine kept held trees there q
      (record { tree = fs.tree; among = contains_here fs.tree fs.others.items; reached = reached })))
      (single-way fs history fs.tree items rooted_hand drafted)
      (told-formed fs.land history fs.tree.next drafted) fs.tree.owner at reference

  module _ (young : AreYoung fs history) where
    known : (name : ℕ × Piece) → Contains (named mine.files ++ names_elsewhere fs history) name
        → IsKnownExtent fs.land.space.sizes fs.tree.next (book_of fs.refs.refs) name.1
    known name has =
        let run = extent_of name.1 in
        let is = held.extents run (name-present fs history state items hand.items its each name has) in
        record {
          lies = ap (λ (sizes : Sizes). is_run sizes name.1.extent name.1.extent_bytes) (sym held.sizes) ∙ is.lies;
          generation = is.generation;
          known = is.known;
          dated = young.dated name.1.extent _ is.known;
        }

    stands : Stands fs history (flat_map items_of_file mine.files) (named mine.files)
    stands =
        let laid_so = laid-held fs history bytes state mine kept held trees there in
        let all_names = named mine.files ++ names_elsewhere fs history in
        record {
          book = record {
            owner = trees.book;
            next = held.next ∙ next-held fs history bytes state mine kept held trees there;
            nodesize = held.nodesize ∙ ap (λ (sizes : Sizes). sizes.nodesize) held.sizes;
          };
          rooted = rooted_hand;
          ascending = others-ascend fs history bytes state mine kept held trees there;
          beside = λ i d inside. beside (get_or fs.others.items i d) (index_among fs.others.items i d inside);
          placed = λ tree q among reached. slot-held fs history bytes state mine kept held trees there q
              (record { tree = tree; among = among; reached = reached });
          home = at_home;
          young = young.alone;
          fits = held.fits;
          counts = λ at reference.
              ap (λ (n : ℕ). n + names_times fs.tree.owner (named mine.files) at reference)
              (held.agrees at reference ∙ ap (λ (l : Layout). owed_count l at reference) laid_so.layout);
          within = λ at reference. omega arith;
          few = few;
          settled = held.settled;
          known = λ i d inside. known (get_or all_names i d) (index_among all_names i d inside);
          runs = λ run.
              let named_so = named-present fs history state items hand.items its each run in
              (λ has. named_so.1 ((held.runs run).0 has), λ has. (held.runs run).1 (named_so.0 has));
        }

    pub held-kept : KeepsState fs history state mine mine.files
    held-kept = record {
      there = there;
      are = refl;
      holds = record { stands = stands; writable = hand.writable; by = hand.by };
      have = others;
      laid = laid-held fs history bytes state mine kept held trees there;
      held_slots = held.held_slots;
      held_runs = held.held_runs;
    }
