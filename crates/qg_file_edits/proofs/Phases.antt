-- The phases of an exchange: pieces are named, items edited, and pieces named no more.
use Rattle.std.proofs.Common.{◌≡◌, ℕ, ◌+◌, ◌*◌, ◌≤◌, List, ◌++◌, length, Result, Ok, Err, arith, sym, subst}
use Rattle.std.specs.List.{filter_map, flat_map}
use Rattle.std.specs.List.Sorted.{IsPermutation}
use Rattle.std.specs.Prelude.{OnOk}
use Rattle.std.specs.Option.{option_to_list}
use Rattle.std.proofs.lemmas.List.{append_assoc}
use Rattle.std.proofs.lemmas.List.Sorted.{IsPermutation-append_comm, IsPermutation-append_left}
use Rattle.std.proofs.lemmas.List.Sorted.{IsPermutation-append_right, IsPermutation-sym, IsPermutation-trans}
use Rattle.qg_device.specs.History.{History}
use Rattle.qg_num.specs.declared.fault.BlockFault.{BlockFault}
use Rattle.qg_num.specs.declared.piece.Piece.{Piece}
use Rattle.qg_node.specs.declared.item.Item.{Item}
use Rattle.qg_items.specs.declared.extent.Reference.{Reference}
use Rattle.qg_image.specs.declared.file.File.{File}
use Rattle.qg_root_items.specs.Written.{items_of_file}
use Rattle.qg_file_edits.specs.declared.step.Step.{Step}
use Rattle.qg_file_edits.specs.Applying.{Applies, after_steps}
use Rattle.qg_file_edits.specs.Named.{AreNamesExchanged, named, names_of}
use Rattle.qg_file_edits.specs.Steps.{AreSteps}
use Rattle.qg_file_edits.proofs.Applied.{makes-exchange}
use Rattle.qg_file_edits.proofs.NameCounts.{names-ordered}
use Rattle.qg_shared_trees.specs.Heavier.{BookGetsHeavier, name_new_bytes}
use Rattle.qg_shared_trees.specs.Types.{FsTree}
use Rattle.qg_shared_trees.specs.Standing.{IsSubvolume, Stands, name_told, names_elsewhere, names_times}
use Rattle.qg_shared_trees.proofs.Ordered.{stands-ordered}
use Rattle.qg_file_edits.specs.declared.exchange.Exchange.{Exchange}
use Rattle.qg_file_edits.specs.Editing.{AreMade, CanEditInode, IsEditedBy, after_inode}
use Rattle.qg_file_edits.specs.Exchanging.{AreCoveredThroughout, CanEditSo, CoversExchange, MakesFiles, after_exchange}
use Rattle.qg_file_edits.specs.Exchanging.{exchanged}
use Rattle.qg_file_edits.specs.Files.{StaysOwn}
use Rattle.qg_file_edits.specs.Naming.{AreCovered, AreFewNames, AreNamed, AreOfNamed, KeepsNodes, StandsMoved}
use Rattle.qg_file_edits.proofs.Edited.{edited-named, edited-then, made-failed, made-named, made-then}
use Rattle.qg_file_edits.proofs.Meanwhile.{covered-throughout}
use Rattle.qg_file_edits.proofs.Named.{times-both}

-- ---- names

-- what is named besides, in whatever order, is there as often
pub few-besides : (owner ino : ℕ) (some put : List Piece) (names : List (ℕ × Piece))
    → IsPermutation (names_of ino some) (names_of ino put) → AreFewNames owner (names_of ino put ++ names)
    → AreFewNames owner (names_of ino some ++ names)
few-besides owner ino some put names same few at reference =
    let most = few at reference in
    let both = times-both owner (names_of ino put) names at reference in
    let here = times-both owner (names_of ino some) names at reference in
    let alike = names-ordered owner at reference (names_of ino some) (names_of ino put) same in
    omega (arith, most, both, here, alike)

-- once pieces that come are named, and those that go not yet given up, the order may be such that those stand first
module _ (some put gone old new : List (ℕ × Piece)) (same : IsPermutation some put)
    (turn : AreNamesExchanged old new gone put) where
  gone_first : IsPermutation (some ++ old) (gone ++ new)
  gone_first =
      let rest = turn.rest in
      let put_first : IsPermutation (some ++ old) (put ++ old) = IsPermutation-append_left old some put same in
      let all : IsPermutation (put ++ old) (put ++ (gone ++ rest)) =
      IsPermutation-append_right put old (gone ++ rest) turn.was in
      let swapped : IsPermutation ((put ++ gone) ++ rest) ((gone ++ put) ++ rest) =
      IsPermutation-append_left rest (put ++ gone) (gone ++ put) (IsPermutation-append_comm put gone) in
      let turned : IsPermutation (put ++ (gone ++ rest)) (gone ++ (put ++ rest)) =
      subst (λ (xs : List (ℕ × Piece)). IsPermutation xs (gone ++ (put ++ rest))) (append_assoc put gone rest)
      (subst (λ (xs : List (ℕ × Piece)). IsPermutation ((put ++ gone) ++ rest) xs) (append_assoc gone put rest)
      swapped) in
      let back : IsPermutation (gone ++ (put ++ rest)) (gone ++ new) =
      IsPermutation-append_right gone (put ++ rest) new (IsPermutation-sym new (put ++ rest) turn.is) in
      IsPermutation-trans (some ++ old) (put ++ old) (gone ++ new) put_first
      (IsPermutation-trans (put ++ old) (put ++ (gone ++ rest)) (gone ++ new) all
      (IsPermutation-trans (put ++ (gone ++ rest)) (gone ++ (put ++ rest)) (gone ++ new) turned back))

  pub stands-gone_first : (fs : FsTree) (history : History) (items : List Item)
      → Stands fs history items (some ++ old) → Stands fs history items (gone ++ new)
  stands-gone_first fs history items stands =
      stands-ordered fs history items (some ++ old) (gone ++ new) gone_first stands

-- ---- items

-- steps are taken, and then the INODE_ITEM follows
module _ (edits ino : ℕ) (change : Exchange) (steps : List Step) (old mid : FsTree)
    (before : History) (reads some : ℕ) (are : AreSteps change.gone change.put steps) where
  pub items-edited : (new : FsTree) (after : History) (reads_new : ℕ)
      (result : Result (Unit {0}) BlockFault) → after ≡ before
      → ((items : List Item) (names : List (ℕ × Piece)) → Stands old before items names → Applies ino steps items
      → AreCoveredThroughout old.tree.owner ino steps items names
      → AreMade (length steps) 0 old mid before (after_steps ino steps items) names reads some (Ok tt))
      → ((items : List Item) (names : List (ℕ × Piece)) → Stands mid after items names
      → CanEditInode ino change.inode items
      → AreCovered mid.tree.owner (filter_map name_told (after_inode ino change.inode items)) names
      → AreMade 1 0 mid new after (after_inode ino change.inode items) names some reads_new result)
      → StaysOwn old mid → (items : List Item) (names : List (ℕ × Piece)) → Stands old before items names
      → CanEditSo edits ino change
      items
      → CoversExchange old.tree.owner ino change items names
      → AreMade edits 0 old new before (after_exchange ino change items) names reads reads_new result
  items-edited new after reads_new result same stepped followed own items names stands can covers =
      let makes = makes-exchange ino change.gone change.put steps items can.can are in
      let first = stepped items names stands makes.applies
      (covered-throughout old.tree.owner ino change steps items names are covers) in
      let last = subst (λ (o : ℕ). AreCovered o (filter_map name_told (after_exchange ino change items)) names)
      (sym own.owner) covers.last in
      let left = exchanged ino change.gone change.put items in
      let edited = subst (λ (xs : List Item). IsEditedBy (length steps) 0 old mid before xs names) makes.made first.done
      in
      let here = subst (λ (h : History). Stands mid h left names) (sym same) edited.stands in
      let later = subst (λ (h : History). AreMade 1 0 mid new h (after_inode ino change.inode left) names
      some
      reads_new result) same (followed left names here can.inode last) in
      made-then (length steps) 1 edits 0 0 0 old mid new before left (after_exchange ino change items) names names reads
      some
      reads_new result (can.short steps are) (omega arith) edited first.reads later

  -- or a step fails
  pub items-failed : (fault : BlockFault)
      → ((items : List Item) (names : List (ℕ × Piece)) → Stands old before items names → Applies ino steps items
      → AreCoveredThroughout old.tree.owner ino steps items names
      → AreMade (length steps) 0 old mid before (after_steps ino steps items) names reads some (Err fault))
      → (items : List Item) (names : List (ℕ × Piece)) → Stands old before items names → CanEditSo edits ino change
      items
      → CoversExchange old.tree.owner ino change items names
      → AreMade edits 0 old mid before (after_exchange ino change items) names reads some (Err fault)
  items-failed fault stepped items names stands can covers =
      let makes = makes-exchange ino change.gone change.put steps items can.can are in
      let failed = stepped items names stands makes.applies
      (covered-throughout old.tree.owner ino change steps items names are covers) in
      let short = can.short steps are in
      made-failed (length steps) edits 0 0 old mid mid before (after_steps ino steps items) (after_exchange ino change
      items)
      names names reads some fault (omega (arith, short)) failed

-- ---- all of it

module _ (edits ino : ℕ) (change : Exchange) (files files_new : List (ℕ × File)) (old named_tree : FsTree)
    (before : History) (bytes : ℕ) (subvolume : IsSubvolume old before bytes)
    (stands : Stands old before (flat_map items_of_file files) (named files))
    (makes : MakesFiles edits old.tree.owner ino change (names_elsewhere old before) files files_new) where
  -- what is named meanwhile
  abbrev besides : List (ℕ × Piece)
  besides = names_of ino (change.named ++ option_to_list change.new) ++ named files

  few_besides : AreFewNames old.tree.owner (names_of ino (change.named ++ option_to_list change.new) ++ named files)
  few_besides =
      few-besides old.tree.owner ino (change.named ++ option_to_list change.new) change.put (named files) makes.put
      makes.few

  -- they cover what the items tell while they are edited
  besides_told : (owner at : ℕ) (reference : Reference)
      → names_times owner (names_of ino change.put ++ named files) at reference
      ≤ names_times owner (names_of ino (change.named ++ option_to_list change.new) ++ named files) at reference
  besides_told owner at reference =
      let put = times-both owner (names_of ino change.put) (named files) at reference in
      let here = times-both owner (names_of ino (change.named ++ option_to_list change.new))
      (named files) at reference in
      let alike = names-ordered owner at reference (names_of ino (change.named ++ option_to_list change.new))
      (names_of ino change.put)
      makes.put in
      omega (arith, put, here, alike)

  last_told : (owner at : ℕ) (reference : Reference)
      → names_times owner (named files_new) at reference
      ≤ names_times owner (names_of ino (change.named ++ option_to_list change.new) ++ named files) at reference
  last_told owner at reference =
      let first = gone_first (names_of ino (change.named ++ option_to_list change.new)) (names_of ino change.put)
      (names_of ino change.gone) (named files) (named files_new) makes.put makes.names in
      let alike = names-ordered owner at reference (names_of ino (change.named ++ option_to_list change.new)
      ++ named files)
      (names_of ino change.gone ++ named files_new) first in
      let both = times-both owner (names_of ino change.gone) (named files_new) at reference in
      omega (arith, alike, both)

  covers : (owner : ℕ) → CoversExchange owner ino change (flat_map items_of_file files)
      (names_of ino (change.named ++ option_to_list change.new) ++ named files)
  covers owner = record {
    tell = makes.tell;
    besides = besides_told owner;
    last = subst (λ (items : List Item). AreCovered owner (filter_map name_told items)
        (names_of ino (change.named ++ option_to_list change.new) ++ named files)) (sym makes.made) (last_told owner);
  }

  -- pieces are named
  pub first-named : (result : Result (Unit {0}) BlockFault)
      → ((items : List Item) (names : List (ℕ × Piece)) → Stands old before items names
      → AreOfNamed (names ++ names_elsewhere old before) change.named
      → AreFewNames old.tree.owner (names_of ino (change.named ++ option_to_list change.new) ++ names)
      → AreNamed old named_tree before items (names_of ino (change.named ++ option_to_list change.new) ++ names) result)
      → AreNamed old named_tree before (flat_map items_of_file files) besides result
  first-named result called = called (flat_map items_of_file files) (named files) stands makes.known few_besides

  module _ (nodes : KeepsNodes old named_tree)
      (first : StandsMoved old named_tree before (flat_map items_of_file files) besides)
      (heavier : BookGetsHeavier old.refs named_tree.refs
      (length (change.named ++ option_to_list change.new) * name_new_bytes)) where
    -- items are edited
    pub then-edited : (edited : FsTree) (reads some : ℕ) (result : Result (Unit {0}) BlockFault)
        → ((items : List Item) (names : List (ℕ × Piece)) → Stands named_tree before items names
        → CanEditSo edits ino change items
        → CoversExchange named_tree.tree.owner ino change items names
        → AreMade edits 0 named_tree edited before (after_exchange ino change items) names reads some result)
        → AreMade edits 0 named_tree edited before (flat_map items_of_file files_new) besides reads some result
    then-edited edited reads some result called =
        subst (λ (items : List Item). AreMade edits 0 named_tree edited before items besides reads some result)
        makes.made
        (called (flat_map items_of_file files) besides first.stands makes.can (covers named_tree.tree.owner))

    -- and it fails
    pub edit-failed : (edited : FsTree) (reads some : ℕ) (fault : BlockFault)
        → AreMade edits 0 named_tree edited before (flat_map items_of_file files_new) besides reads some (Err fault)
        → AreMade edits (length (change.named ++ option_to_list change.new)) old edited before
        (flat_map items_of_file files_new) (named files_new) reads some (Err fault)
    edit-failed edited reads some fault failed =
        let begun = edited-named (length (change.named ++ option_to_list change.new)) old named_tree before
        (flat_map items_of_file files) besides nodes heavier first in
        let all = made-then 0 edits edits (length (change.named ++ option_to_list change.new)) 0
        (length (change.named ++ option_to_list change.new)) old named_tree edited before (flat_map items_of_file files)
        (flat_map items_of_file files_new) besides besides reads reads some (Err fault) (omega arith)
        (omega arith) begun (omega
        arith)
        failed in
        made-failed edits edits (length (change.named ++ option_to_list change.new))
        (length (change.named ++ option_to_list change.new)) old edited edited before (flat_map items_of_file files_new)
        (flat_map items_of_file files_new) besides (named files_new) reads some fault (omega arith) all

    -- and pieces are named no more
    pub last-unnamed : (edited new : FsTree) (after : History) (left reads some : ℕ)
        (result : Result (Unit {0}) BlockFault) → after ≡ before → IsSubvolume edited after left → KeepsNodes edited new
        → OnOk result (BookGetsHeavier edited.refs new.refs 0)
        → AreMade edits 0 named_tree edited before (flat_map items_of_file files_new) besides reads some (Ok tt)
        → ((items : List Item) (names : List (ℕ × Piece)) → Stands edited after items (names_of ino change.gone ++
        names)
        → AreCovered edited.tree.owner (filter_map name_told items) names
        → AreNamed edited new after items names result)
        → AreMade edits (length (change.named ++ option_to_list change.new)) old new before
        (flat_map items_of_file files_new) (named files_new) reads some result
    last-unnamed edited new after left reads some result same still kept light made called =
        let items = flat_map items_of_file files_new in
        let begun = edited-named (length (change.named ++ option_to_list change.new)) old named_tree before
        (flat_map items_of_file files) besides nodes heavier first in
        let edited_all = edited-then 0 edits (length (change.named ++ option_to_list change.new)) 0 old
        named_tree edited before (flat_map items_of_file files) items besides
        besides begun made.done in
        let turned = stands-gone_first (names_of ino (change.named ++ option_to_list change.new))
        (names_of ino change.put) (names_of ino change.gone) (named files) (named files_new) makes.put makes.names
        edited
        before items edited_all.stands in
        let here = subst (λ (h : History). Stands edited h items (names_of ino change.gone ++ named
        files_new))
        (sym same) turned in
        let unnamed = called items (named files_new) here (λ at reference. omega arith) in
        let last = subst (λ (h : History). AreMade 0 0 edited new h items (named files_new) some some
        result)
        same
        (made-named 0 edited new after items (named files_new) some result kept light unnamed) in
        let steps = made.reads in
        made-then (0 + edits) 0 edits (length (change.named ++ option_to_list change.new) + 0) 0
        (length (change.named ++ option_to_list change.new)) old edited new before items items besides
        (named files_new) reads some some result
        (omega arith) (omega arith) edited_all (omega (arith, steps)) last
