-- Pieces that are named once a new one is.
use Rattle.std.proofs.Common.{◌≡◌, ℕ, List, ◌++◌, Option, Result, Ok, Err, sym, ap, subst, ◌∙◌}
use Rattle.std.specs.Prelude.{OnOk}
use Rattle.std.specs.Option.{option_to_list}
use Rattle.std.proofs.lemmas.List.{append_assoc}
use Rattle.std.proofs.lemmas.List.Elements.{All-weaker}
use Rattle.qg_device.specs.History.{History}
use Rattle.qg_num.specs.declared.fault.BlockFault.{BlockFault}
use Rattle.qg_num.specs.declared.piece.Piece.{Piece}
use Rattle.qg_node.specs.declared.item.Item.{Item}
use Rattle.qg_tree_read.specs.Tree.{Root}
use Rattle.qg_file_edits.specs.Named.{names_of}
use Rattle.qg_shared_trees.specs.Types.{FsTree}
use Rattle.qg_shared_trees.specs.Standing.{IsSubvolume, Stands, names_elsewhere}
use Rattle.qg_shared_trees.proofs.Moved.{moves-then}
use Rattle.qg_file_edits.specs.Naming.{AreFewNames, AreNamed, AreOfNamed, KeepsNodes, StandsMoved}
use Rattle.qg_file_edits.proofs.Extents.{IsOfNamed, named-more}
use Rattle.qg_file_edits.proofs.Kept.{elsewhere-same}
use Rattle.qg_file_edits.proofs.Named.{names-both}

-- what names lead to, more names lead to
known-more : (some names elsewhere : List (ℕ × Piece)) (pieces : List Piece) → AreOfNamed (names ++ elsewhere) pieces
    → AreOfNamed ((some ++ names) ++ elsewhere) pieces
known-more some names elsewhere pieces known =
    All-weaker (IsOfNamed (names ++ elsewhere)) (IsOfNamed ((some ++ names) ++ elsewhere))
    (named-more some names elsewhere) pieces known

module _ (old mid new : FsTree) (ino : ℕ) (pieces : List Piece) (first : Option Piece) (slice : List Piece)
    (is : slice ≡ pieces) (history : History) (bytes : ℕ) (items : List Item) (names : List (ℕ × Piece))
    (result : Result (Unit {0}) BlockFault) where
  abbrev others : List (ℕ × Piece)
  others = names_of ino (option_to_list first) ++ names

  order : names_of ino (pieces ++ option_to_list first) ++ names ≡ names_of ino pieces ++ others
  order =
      ap (λ (xs : List (ℕ × Piece)). xs ++ names) (names-both ino pieces (option_to_list first))
      ∙ append_assoc (names_of ino pieces) (names_of ino (option_to_list first)) names

  pub named-later : KeepsNodes old mid → AreOfNamed (names ++ names_elsewhere old history) pieces
      → AreFewNames old.tree.owner (names_of ino (pieces ++ option_to_list first) ++ names)
      → IsSubvolume mid history bytes → StandsMoved old mid history items others
      → ((names : List (ℕ × Piece)) → IsSubvolume mid history bytes → Stands mid history items names
      → AreOfNamed (names ++ names_elsewhere mid history) slice
      → AreFewNames mid.tree.owner (names_of ino slice ++ names)
      → AreNamed mid new history items (names_of ino slice ++ names) result)
      → AreNamed old new history items (names_of ino (pieces ++ option_to_list first) ++ names) result
  named-later nodes known few subvolume begun called =
      let owner : mid.tree.owner ≡ old.tree.owner = ap (λ (root : Root). root.owner) nodes.tree.tree in
      let more = known-more (names_of ino (option_to_list first)) names (names_elsewhere old history) pieces known in
      let there = subst (λ (elsewhere : List (ℕ × Piece)). AreOfNamed (others ++ elsewhere) pieces)
      (sym (elsewhere-same old mid history nodes.tree)) more in
      let here = subst (λ (xs : List Piece). AreOfNamed (others ++ names_elsewhere mid history) xs) (sym is) there in
      let few_old = subst (λ (xs : List (ℕ × Piece)). AreFewNames old.tree.owner xs) order few in
      let few_mid = subst (λ (o : ℕ). AreFewNames o (names_of ino pieces ++ others)) (sym owner) few_old in
      let few_here = subst (λ (xs : List Piece). AreFewNames mid.tree.owner (names_of ino xs ++ others)) (sym is)
      few_mid in
      let after = subst (λ (xs : List Piece). AreNamed mid new history items (names_of ino xs ++ others) result) is
      (called others subvolume begun.stands here few_here) in
      subst (λ (xs : List (ℕ × Piece)). AreNamed old new history items xs result) (sym order)
      (record { done = moved result after.done; sound = after.sound })
    where
      moved : (r : Result (Unit {0}) BlockFault)
          → OnOk r (StandsMoved mid new history items (names_of ino pieces ++ others))
          → OnOk r (StandsMoved old new history items (names_of ino pieces ++ others))
      moved (Ok done) later =
          record { stands = later.stands; moved = moves-then old mid new history begun.moved later.moved }
      moved (Err fault) later = tt
