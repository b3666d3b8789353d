-- Pieces that name extents, or name them no more, one after the other.
use Rattle.std.proofs.Common.{◌≡◌, ◌≢◌, ℕ, ◌+◌, ◌*◌, ◌<◌, ◌≤◌, List, [], ◌∷◌, ◌++◌, map, take, drop, length}
use Rattle.std.proofs.Common.{length-append, Result, Ok, Err, arith, sym, ap, subst, true, ◌∙◌}
use Rattle.std.specs.Prelude.{Contains, OnOk}
use Rattle.std.specs.List.{filter_map}
use Rattle.std.proofs.lemmas.Bool.{and_parts, leb-true}
use Rattle.std.proofs.lemmas.List.{append_assoc, map-append}
use Rattle.std.proofs.lemmas.List.Elements.{All-contains, All-contains_itself, All-head, Contains-append_right}
use Rattle.std.proofs.lemmas.List.Sorted.{IsPermutation-middle, IsPermutation-sym}
use Rattle.qg_device.specs.History.{History}
use Rattle.qg_num.specs.declared.fault.BlockFault.{BlockFault}
use Rattle.qg_num.specs.declared.piece.Piece.{Piece}
use Rattle.qg_node.specs.declared.item.Item.{Item}
use Rattle.qg_items.specs.declared.extent.Reference.{Reference}
use Rattle.qg_super.specs.declared.sizes.Sizes.{Sizes}
use Rattle.qg_super.specs.Places.{data_begin, is_run}
use Rattle.qg_image.specs.Owed.{Owing}
use Rattle.qg_image.specs.Reach.{extent_of}
use Rattle.qg_blocks.specs.NodesFound.{BreaksNone}
use Rattle.qg_refs.specs.Book.{full_in}
use Rattle.qg_extents.specs.Table.{book_of}
use Rattle.qg_tree_read.specs.Tree.{Root}
use Rattle.qg_shared_trees.specs.Exchange.{times}
use Rattle.qg_shared_trees.proofs.Times.{times-append}
use Rattle.qg_shared_trees.specs.Types.{TreeRefs}
use Rattle.qg_shared_trees.specs.Heavier.{BookGetsHeavier, name_bytes, name_new_bytes}
use Rattle.qg_shared_trees.proofs.Sums.{BookGetsHeavier-most, BookGetsHeavier-same, BookGetsHeavier-then}
use Rattle.qg_shared_trees.specs.Types.{FsTree}
use Rattle.qg_shared_trees.specs.Standing.{IsKnownExtent, IsSubvolume, KeepsTree, Stands, extents_named, name_of}
use Rattle.qg_shared_trees.specs.Standing.{name_told}
use Rattle.qg_shared_trees.specs.Standing.{names_elsewhere, names_times}
use Rattle.qg_shared_trees.proofs.Ordered.{stands-ordered}
use Rattle.qg_shared_trees.proofs.Moved.{moves-itself, moves-then, names-move}
use Rattle.qg_file_edits.specs.Named.{names_of}
use Rattle.qg_file_edits.specs.Naming.{AreCovered, AreFewNames, AreNamed, AreOfNamed, KeepsNodes, StandsMoved}
use Rattle.qg_file_edits.proofs.Extents.{IsOfNamed, named-more}
use Rattle.qg_file_edits.proofs.Items.{IsAt}
use Rattle.qg_file_edits.proofs.Kept.{elsewhere-same, nodes-itself, nodes-then}

-- ---- names

-- names of two lists are there as often as they are in both
pub times-both : (owner : ℕ) (some others : List (ℕ × Piece)) (at : ℕ) (reference : Reference)
    → names_times owner (some ++ others) at reference
    ≡ names_times owner some at reference + names_times owner others at reference
times-both owner some others at reference =
    ap (λ (owings : List Owing). times owings at reference) (map-append (name_of owner) some others)
    ∙ times-append (map (name_of owner) some) (map (name_of owner) others) at reference

pub names-both : (ino : ℕ) (some others : List Piece) → names_of ino (some ++ others)
    ≡ names_of ino some ++ names_of ino others
names-both ino some others = map-append (λ (piece : Piece). (ino, piece)) some others

-- one more is named
named_next : (ino : ℕ) (pieces : List Piece) (i : ℕ) (piece : Piece) (names : List (ℕ × Piece)) → IsAt pieces i piece
    → names_of ino (take (i + 1) pieces) ++ names ≡ names_of ino (take i pieces) ++ (ino, piece) ∷ names
named_next ino pieces i piece names at =
    ap (λ (xs : List Piece). names_of ino xs ++ names) at.more
    ∙ ap (λ (xs : List (ℕ × Piece)). xs ++ names) (names-both ino (take i pieces) (piece ∷ []))
    ∙ append_assoc (names_of ino (take i pieces)) ((ino, piece) ∷ []) names

-- its turn has come
unnamed_next : (ino : ℕ) (pieces : List Piece) (i : ℕ) (piece : Piece) (names : List (ℕ × Piece)) → IsAt pieces i piece
    → names_of ino (drop i pieces) ++ names ≡ (ino, piece) ∷ (names_of ino (drop (i + 1) pieces) ++ names)
unnamed_next ino pieces i piece names at = ap (λ (xs : List Piece). names_of ino xs ++ names) at.rest

-- ---- a known extent lies in the data area

run_behind : (sizes : Sizes) (address bytes : ℕ) → is_run sizes address bytes ≡ true → data_begin ≤ address
unfolding is_run
run_behind sizes address bytes is =
    let a = and_parts _ _ is in
    let b = and_parts _ _ a.0 in
    let c = and_parts _ _ b.0 in
    let d = and_parts _ _ c.0 in
    leb-true data_begin address d.0

first_behind : (fs : FsTree) (history : History) (items : List Item) (ino : ℕ) (piece : Piece)
    (names : List (ℕ × Piece)) → Stands fs history items ((ino, piece) ∷ names) → data_begin ≤ piece.extent
first_behind fs history items ino piece names stands =
    let known = All-head
    (λ (name : ℕ × Piece). IsKnownExtent fs.land.space.sizes fs.tree.next (book_of fs.refs.refs) name.1)
    (ino, piece) (names ++ names_elsewhere fs history) stands.known in
    run_behind fs.land.space.sizes piece.extent piece.extent_bytes known.lies

-- ---- one call

-- what a call that names a piece asks
pub record CanName (fs : FsTree) (history : History) (bytes : ℕ) (items : List Item)
    (names : List (ℕ × Piece))
    (ino : ℕ) (piece : Piece) : Type 0 where
  pub subvolume : IsSubvolume fs history bytes
  pub stands : Stands fs history items names
  pub among : Contains (extents_named fs history names) (extent_of piece)
  pub few : names_times fs.tree.owner names piece.extent (name_of fs.tree.owner (ino, piece)).reference < 4294967295

-- one that names it no more
pub record CanUnname (fs : FsTree) (history : History) (bytes : ℕ) (items : List Item)
    (names : List (ℕ × Piece)) (ino : ℕ) (piece : Piece) : Type 0 where
  pub subvolume : IsSubvolume fs history bytes
  pub stands : Stands fs history items ((ino, piece) ∷ names)
  pub covered : names_times fs.tree.owner (filter_map name_told items) piece.extent
      (name_of fs.tree.owner (ino, piece)).reference
      ≤ names_times fs.tree.owner names piece.extent (name_of fs.tree.owner (ino, piece)).reference

-- marks of nodes elsewhere stay
abbrev pub KeepsMarks : FsTree → FsTree → ℕ → Type 0
KeepsMarks old new at = (q : ℕ) → q ≢ at
    → full_in (book_of new.refs.refs q) ≡ full_in (book_of old.refs.refs q)

-- ---- several calls

-- the first pieces are named
pub record NamesUpTo (old now : FsTree) (ino : ℕ) (pieces : List Piece) (count : ℕ) : Type 0 where
  pub nodes : KeepsNodes old now
  pub heavier : BookGetsHeavier old.refs now.refs (length (take count pieces) * name_bytes)
  pub told : (history : History) (bytes : ℕ) (items : List Item) (names : List (ℕ × Piece))
      → IsSubvolume old history bytes → Stands old history items names
      → AreOfNamed (names ++ names_elsewhere old history) pieces
      → AreFewNames old.tree.owner (names_of ino pieces ++ names)
      → StandsMoved old now history items (names_of ino (take count pieces) ++ names)

-- the first pieces are named no more
pub record UnnamesUpTo (old now : FsTree) (ino : ℕ) (pieces : List Piece) (count : ℕ) : Type 0 where
  pub nodes : KeepsNodes old now
  pub heavier : BookGetsHeavier old.refs now.refs 0
  pub told : (history : History) (bytes : ℕ) (items : List Item) (names : List (ℕ × Piece))
      → IsSubvolume old history bytes → Stands old history items (names_of ino pieces ++ names)
      → AreCovered old.tree.owner (filter_map name_told items) names
      → StandsMoved old now history items (names_of ino (drop count pieces) ++ names)

pub names-none : (fs : FsTree) (ino : ℕ) (pieces : List Piece) → NamesUpTo fs fs ino pieces 0
names-none fs ino pieces = record {
  nodes = nodes-itself fs;
  heavier = BookGetsHeavier-most fs.refs fs.refs 0 (length (take 0 pieces) * name_bytes) (omega arith)
      (BookGetsHeavier-same fs.refs);
  told = λ history bytes items names subvolume stands among few.
      record { stands = stands; moved = moves-itself fs history items names stands };
}

pub unnames-none : (fs : FsTree) (ino : ℕ) (pieces : List Piece) → UnnamesUpTo fs fs ino pieces 0
unnames-none fs ino pieces = record {
  nodes = nodes-itself fs;
  heavier = BookGetsHeavier-same fs.refs;
  told = λ history bytes items names subvolume stands covered.
      record { stands = stands; moved = moves-itself fs history items (names_of ino pieces ++ names) stands };
}

module _ (old mid : FsTree) (ino : ℕ) (pieces : List Piece) (i : ℕ) (piece : Piece) (at : IsAt pieces i piece) where
  owner_same : KeepsTree old mid → mid.tree.owner ≡ old.tree.owner
  owner_same keeps = ap (λ (root : Root). root.owner) keeps.tree

  here : Contains pieces piece
  here = subst (λ (xs : List Piece). Contains xs piece) (sym at.whole)
      (Contains-append_right (take i pieces) (piece ∷ drop (i + 1) pieces) piece
      (All-head (λ (x : Piece). Contains (piece ∷ drop (i + 1) pieces) x) piece (drop (i + 1) pieces)
      (All-contains_itself (piece ∷ drop (i + 1) pieces))))

  -- the next piece can be named
  pub can-name : NamesUpTo old mid ino pieces i → (history : History) (bytes : ℕ) (items : List Item)
      (names : List (ℕ × Piece)) → IsSubvolume old history bytes → Stands old history items names
      → AreOfNamed (names ++ names_elsewhere old history) pieces
      → AreFewNames old.tree.owner (names_of ino pieces ++ names)
      → CanName mid history bytes items (names_of ino (take i pieces) ++ names) ino piece
  can-name so_far history bytes items names subvolume stands among few =
      let before = so_far.told history bytes items names subvolume stands among few in
      let front = names_of ino (take i pieces) in
      let own = owner_same so_far.nodes.tree in
      let elsewhere = names_elsewhere old history in
      let known : IsOfNamed (names ++ elsewhere) piece =
      All-contains (IsOfNamed (names ++ elsewhere)) pieces piece among here in
      let reference = (name_of old.tree.owner (ino, piece)).reference in
      let all = few piece.extent reference in
      let whole : names_of ino pieces ≡ front ++ names_of ino (piece ∷ drop (i + 1) pieces) =
      ap (names_of ino) at.whole ∙ names-both ino (take i pieces) (piece ∷ drop (i + 1) pieces) in
      let whole_times : names_times old.tree.owner (names_of ino pieces) piece.extent reference
      ≡ names_times old.tree.owner front piece.extent reference
      + names_times old.tree.owner (names_of ino (piece ∷ drop (i + 1) pieces)) piece.extent reference =
      ap (λ (xs : List (ℕ × Piece)). names_times old.tree.owner xs piece.extent reference) whole
      ∙ times-both old.tree.owner front (names_of ino (piece ∷ drop (i + 1) pieces)) piece.extent reference in
      let all_times = times-both old.tree.owner (names_of ino pieces) names piece.extent reference in
      let front_times = times-both old.tree.owner front names piece.extent reference in
      let fewer : names_times old.tree.owner (front ++ names) piece.extent reference < 4294967295 =
      omega (arith, all, whole_times, all_times, front_times) in
      record {
        subvolume = so_far.nodes.subvolume history bytes subvolume;
        stands = before.stands;
        among = subst (λ (others : List (ℕ × Piece)). IsOfNamed ((front ++ names) ++ others) piece)
            (sym (elsewhere-same old mid history so_far.nodes.tree)) (named-more front names elsewhere piece known);
        few = subst (λ (o : ℕ). names_times o (front ++ names) piece.extent (name_of o (ino, piece)).reference
            < 4294967295) (sym own) fewer;
      }

  -- and then it is
  pub names-more : (new : FsTree) → NamesUpTo old mid ino pieces i → KeepsNodes mid new
      → KeepsMarks mid new piece.extent → BookGetsHeavier mid.refs new.refs name_bytes
      → ((history : History) (bytes : ℕ) (items : List Item) (names : List (ℕ × Piece))
      → CanName mid history bytes items names ino piece → Stands new history items ((ino, piece) ∷ names))
      → NamesUpTo old new ino pieces (i + 1)
  names-more new so_far nodes marks heavier named = record {
    nodes = nodes-then old mid new so_far.nodes nodes;
    heavier =
        let longer = ap (λ (xs : List Piece). length xs) at.more in
        let sum = length-append (take i pieces) (piece ∷ []) in
        BookGetsHeavier-most old.refs new.refs (length (take i pieces) * name_bytes + name_bytes)
        (length (take (i + 1) pieces) * name_bytes) (omega (arith, longer, sum))
        (BookGetsHeavier-then old.refs mid.refs new.refs (length (take i pieces) * name_bytes) name_bytes so_far.heavier
        heavier);
    told = λ history bytes items names subvolume stands among few.
        let before = so_far.told history bytes items names subvolume stands among few in
        let front = names_of ino (take i pieces) in
        let can = can-name so_far history bytes items names subvolume stands among few in
        let after = named history bytes items (front ++ names) can in
        let order = IsPermutation-sym (front ++ (ino, piece) ∷ names) ((ino, piece) ∷ (front ++ names))
        (IsPermutation-middle front (ino, piece) names) in
        let ordered = stands-ordered new history items ((ino, piece) ∷ (front ++ names))
        (front ++ (ino, piece) ∷ names) order after in
        record {
          stands = subst (λ (xs : List (ℕ × Piece)). Stands new history items xs)
              (sym (named_next ino pieces i piece names at)) ordered;
          moved = moves-then old mid new history before.moved
              (names-move mid new history bytes piece.extent items (front ++ names) can.subvolume can.stands nodes.tree
              (first_behind new history items ino piece (front ++ names) after) marks);
        };
  }

  -- the next piece can be named no more
  pub can-unname : UnnamesUpTo old mid ino pieces i → (history : History) (bytes : ℕ) (items : List Item)
      (names : List (ℕ × Piece)) → IsSubvolume old history bytes
      → Stands old history items (names_of ino pieces ++ names)
      → AreCovered old.tree.owner (filter_map name_told items) names
      → CanUnname mid history bytes items (names_of ino (drop (i + 1) pieces) ++ names) ino piece
  can-unname so_far history bytes items names subvolume stands covered =
      let before = so_far.told history bytes items names subvolume stands covered in
      let behind = names_of ino (drop (i + 1) pieces) in
      let own = owner_same so_far.nodes.tree in
      let reference = (name_of old.tree.owner (ino, piece)).reference in
      let some = covered piece.extent reference in
      let both = times-both old.tree.owner behind names piece.extent reference in
      let enough : names_times old.tree.owner (filter_map name_told items) piece.extent reference
      ≤ names_times old.tree.owner (behind ++ names) piece.extent reference = omega (arith, some, both) in
      record {
        subvolume = so_far.nodes.subvolume history bytes subvolume;
        stands = subst (λ (xs : List (ℕ × Piece)). Stands mid history items xs)
            (unnamed_next ino pieces i piece names at) before.stands;
        covered = subst (λ (o : ℕ). names_times o (filter_map name_told items) piece.extent
            (name_of o (ino, piece)).reference
            ≤ names_times o (behind ++ names) piece.extent (name_of o (ino, piece)).reference) (sym own) enough;
      }

  -- and then it is
  pub unnames-more : (new : FsTree) → UnnamesUpTo old mid ino pieces i → KeepsNodes mid new
      → KeepsMarks mid new piece.extent → BookGetsHeavier mid.refs new.refs 0
      → ((history : History) (bytes : ℕ) (items : List Item) (names : List (ℕ × Piece))
      → CanUnname mid history bytes items names ino piece → Stands new history items names)
      → UnnamesUpTo old new ino pieces (i + 1)
  unnames-more new so_far nodes marks heavier unnamed = record {
    nodes = nodes-then old mid new so_far.nodes nodes;
    heavier = BookGetsHeavier-then old.refs mid.refs new.refs 0 0 so_far.heavier heavier;
    told = λ history bytes items names subvolume stands covered.
        let before = so_far.told history bytes items names subvolume stands covered in
        let behind = names_of ino (drop (i + 1) pieces) in
        let can = can-unname so_far history bytes items names subvolume stands covered in
        record {
          stands = unnamed history bytes items (behind ++ names) can;
          moved = moves-then old mid new history before.moved
              (names-move mid new history bytes piece.extent items ((ino, piece) ∷ (behind ++ names)) can.subvolume
              can.stands nodes.tree
              (first_behind mid history items ino piece (behind ++ names) can.stands) marks);
        };
  }

-- ---- a new extent

pub named-new : (old new : FsTree) (ino : ℕ) (piece : Piece) (history : History) (bytes : ℕ)
    (items : List Item) (names : List (ℕ × Piece)) (result : Result (Unit {0}) BlockFault) → IsSubvolume old history
    bytes
    → Stands old history items names → KeepsNodes old new
    → OnOk result (Stands new history items ((ino, piece) ∷ names)) → BreaksNone result
    → OnOk result (KeepsMarks old new piece.extent)
    → AreNamed old new history items ((ino, piece) ∷ names) result
named-new old new ino piece history bytes items names (Ok done) subvolume stands nodes after unbroken marks = record {
  done = record {
    stands = after;
    moved = names-move old new history bytes piece.extent items names subvolume stands nodes.tree
        (first_behind new history items ino piece names after) marks;
  };
  sound = unbroken;
}
named-new old new ino piece history bytes items names (Err fault) subvolume stands nodes after unbroken marks =
    record { done = tt; sound = unbroken }

-- ---- how much heavier names make what the extent tree's items take

-- a new one, if one is, and those of extents that are named already
pub heavier-named_both : (old mid new : TreeRefs) (slice named fresh : List Piece) → slice ≡ named
    → BookGetsHeavier old mid (length fresh * name_new_bytes) → BookGetsHeavier mid new (length slice * name_bytes)
    → BookGetsHeavier old new (length (named ++ fresh) * name_new_bytes)
heavier-named_both old mid new slice named fresh is first later =
    let same = ap (λ (xs : List Piece). length xs) is in
    let both = length-append named fresh in
    BookGetsHeavier-most old new (length fresh * name_new_bytes + length slice * name_bytes)
    (length (named ++ fresh) * name_new_bytes) (omega (arith, same, both))
    (BookGetsHeavier-then old mid new (length fresh * name_new_bytes) (length slice * name_bytes) first later)
