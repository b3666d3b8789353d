-- Several edits of a tree, one after the other.
use Rattle.std.proofs.Common.{◌≡◌, ℕ, ◌+◌, ◌*◌, ◌≤◌, List, Result, Ok, Err, arith, sym, subst}
use Rattle.std.specs.Prelude.{OnOk}
use Rattle.qg_device.specs.History.{Event, History, Recorded}
use Rattle.qg_num.specs.declared.fault.BlockFault.{BlockFault}
use Rattle.qg_num.specs.declared.piece.Piece.{Piece}
use Rattle.qg_node.specs.declared.item.Item.{Item}
use Rattle.qg_image.specs.declared.tree.TreeKind.TheVariants.{Files}
use Rattle.qg_blocks.specs.NodesFound.{BreaksNone}
use Rattle.qg_space.specs.Holding.{free_slots}
use Rattle.qg_shared_trees.specs.Rooting.{Grows}
use Rattle.qg_shared_trees.proofs.Heights.{height-low}
use Rattle.std.proofs.Math.Nat.{mul-le-mul_right}
use Rattle.qg_super.specs.declared.sizes.Sizes.{Sizes}
use Rattle.qg_super.specs.Places.{capacity}
use Rattle.qg_shared_trees.specs.Heavier.{BookGetsHeavier, edit_bytes, name_new_bytes, node_bytes}
use Rattle.qg_shared_trees.proofs.Sums.{BookGetsHeavier-most, BookGetsHeavier-same, BookGetsHeavier-then}
use Rattle.qg_shared_trees.specs.Types.{FsTree}
use Rattle.qg_shared_trees.specs.Standing.{IsEditedTo, IsSubvolume, Stands}
use Rattle.qg_shared_trees.proofs.Own.{elsewhere-kept, elsewhere-moved, own-kept as reached-kept}
use Rattle.qg_shared_trees.proofs.Made.{made-named as made-named_none, made-same, made-then as made-more}
use Rattle.qg_shared_trees.proofs.Moved.{held-kept, moves-itself, moves-then}
use Rattle.qg_file_edits.specs.Editing.{AreMade, IsEditedBy}
use Rattle.qg_file_edits.specs.Files.{LeavesHeld}
use Rattle.qg_file_edits.specs.Naming.{AreNamed, KeepsNodes, StandsMoved}

-- a tree that stands has three levels above its leaves at most
pub stands-low : (fs : FsTree) (history : History) (bytes : ℕ) (items : List Item)
    (names : List (ℕ × Piece))
    → IsSubvolume fs history bytes → Stands fs history items names → fs.tree.height ≤ 3
stands-low fs history bytes items names subvolume stands =
    height-low Files fs.tree fs.land history items subvolume.editable.drafted stands.rooted.tells

-- ---- how much heavier what the extent tree's items take gets

-- what one edit may bring
abbrev edit_of : FsTree → ℕ
edit_of fs = edit_bytes fs.land.space.sizes.nodesize 3

no_bytes : (each added : ℕ) → added * name_new_bytes ≤ 0 * each + added * name_new_bytes
no_bytes each added = omega arith

one_bytes : (each few : ℕ) → few ≤ each → few ≤ 1 * each + 0 * name_new_bytes
one_bytes each few most = omega (arith, most)

sum_bytes : (each i j m n : ℕ) → (i * each + m * name_new_bytes) + (j * each + n * name_new_bytes)
    ≤ (i + j) * each + (m + n) * name_new_bytes
sum_bytes each i j m n = omega arith

pub most_bytes : (each i j m n : ℕ) → i ≤ j → m ≤ n → i * each + m * name_new_bytes ≤ j * each + n * name_new_bytes
most_bytes each i j m n edits names =
    let first : i * each ≤ j * each = mul-le-mul_right each edits in
    omega (arith, first, names)

low_bytes : (nodesize height : ℕ) → height ≤ 3 → edit_bytes nodesize height ≤ edit_bytes nodesize 3
low_bytes nodesize height low = mul-le-mul_right (node_bytes + capacity nodesize) (omega (arith, low))

-- ---- none, one, and one after another

pub edited-none : (fs : FsTree) (history : History) (items : List Item) (names : List (ℕ × Piece))
    → Stands fs history items names → IsEditedBy 0 0 fs fs history items names
edited-none fs history items names stands = record {
  stands = stands;
  moved = moves-itself fs history items names stands;
  few = omega arith;
  others = λ q there. there;
  free = omega arith;
  made = let none = made-same fs.land.space in omega (arith, none);
  heavier = BookGetsHeavier-most fs.refs fs.refs 0 (0 * edit_of fs + 0 * name_new_bytes) (omega arith)
      (BookGetsHeavier-same fs.refs);
}

-- names alone
pub edited-named : (added : ℕ) (old new : FsTree) (history : History) (items : List Item)
    (names : List (ℕ × Piece)) → KeepsNodes old new → BookGetsHeavier old.refs new.refs (added * name_new_bytes)
    → StandsMoved old new history items names → IsEditedBy 0 added old new history items names
edited-named added old new history items names nodes heavier named = record {
  stands = named.stands;
  moved = named.moved;
  few = let same = reached-kept old new history nodes.tree in omega (arith, same);
  others = elsewhere-kept old new history nodes.tree;
  free = let same = nodes.slots in omega (arith, same);
  made = let none = made-named_none old new nodes.tree in omega (arith, none);
  heavier = BookGetsHeavier-most old.refs new.refs (added * name_new_bytes)
      (0 * edit_of old + added * name_new_bytes) (no_bytes (edit_of old) added) heavier;
}

pub edited-once : (old new : FsTree) (before after : History) (bytes left most : ℕ)
    (items items_new : List Item)
    (names : List (ℕ × Piece)) → IsSubvolume old before bytes → Stands old before items names
    → IsEditedTo old new before items_new names (old.tree.height + 2)
    → Grows most old.tree new.tree old.land new.land → LeavesHeld old new before after bytes left
    → IsEditedBy 1 0 old new before items_new names
edited-once old new before after bytes left most items items_new names subvolume stands edited grows leaves =
    let low = stands-low old before bytes items names subvolume stands in
    let few = edited.few in
    let count = grows.count in
    let come = edited.made in
    record {
      stands = edited.stands;
      moved = record {
        moves = edited.moves;
        owner = grows.stays.owner;
        next = grows.stays.next;
        sizes = leaves.sizes;
        held_slots = leaves.held_slots;
        kept = held-kept old.land new.land before old.tree.next new.tree.next subvolume.editable.drafted
            leaves.subvolume.editable.drafted leaves.sizes leaves.held_slots;
      };
      few = omega (arith, low, few);
      others = elsewhere-moved old new before edited.moves;
      free = omega (arith, low, count);
      made = omega (arith, low, come);
      heavier =
          let nodesize = old.land.space.sizes.nodesize in
          BookGetsHeavier-most old.refs new.refs (edit_bytes nodesize old.tree.height)
          (1 * edit_of old + 0 * name_new_bytes)
          (one_bytes (edit_of old) (edit_bytes nodesize old.tree.height) (low_bytes nodesize old.tree.height low))
          edited.heavier;
    }

pub edited-then : (i j m n : ℕ) (a b c : FsTree) (history : History) (items items_new : List Item)
    (names names_new : List (ℕ × Piece)) → IsEditedBy i m a b history items names
    → IsEditedBy j n b c history items_new names_new → IsEditedBy (i + j) (m + n) a c history items_new names_new
edited-then i j m n a b c history items items_new names names_new first later =
    let few = first.few in
    let few_later = later.few in
    let free = first.free in
    let free_later = later.free in
    let made = first.made in
    let made_later = later.made in
    let more = made-more a.land.space b.land.space c.land.space (sym later.moved.sizes) in
    record {
      stands = later.stands;
      moved = moves-then a b c history first.moved later.moved;
      few = omega (arith, few, few_later);
      others = λ q there. first.others q (later.others q there);
      free = omega (arith, free, free_later);
      made = omega (arith, more, made, made_later);
      heavier =
          let each = edit_of a in
          let back = subst (λ (s : Sizes). BookGetsHeavier b.refs c.refs
          (j * edit_bytes s.nodesize 3 + n * name_new_bytes)) first.moved.sizes later.heavier in
          BookGetsHeavier-most a.refs c.refs ((i * each + m * name_new_bytes) + (j * each + n * name_new_bytes))
          ((i + j) * each + (m + n) * name_new_bytes) (sum_bytes each i j m n)
          (BookGetsHeavier-then a.refs b.refs c.refs (i * each + m * name_new_bytes) (j * each + n * name_new_bytes)
          first.heavier back);
    }

pub edited-most : (i j m n : ℕ) (old new : FsTree) (history : History) (items : List Item)
    (names : List (ℕ × Piece)) → i ≤ j → m ≤ n → IsEditedBy i m old new history items names
    → IsEditedBy j n old new history items names
edited-most i j m n old new history items names most more edited =
    let few = edited.few in
    let free = edited.free in
    let made = edited.made in
    record {
      stands = edited.stands;
      moved = edited.moved;
      few = omega (arith, few, most);
      others = edited.others;
      free = omega (arith, free, most);
      made = omega (arith, made, most);
      heavier = BookGetsHeavier-most old.refs new.refs (i * edit_of old + m * name_new_bytes)
          (j * edit_of old + n * name_new_bytes) (most_bytes (edit_of old) i j m n most more) edited.heavier;
    }

-- ---- calls that make them

-- a call that gives up, and answers no rule
pub made-not : (edits added : ℕ) (old new : FsTree) (history : History) (items : List Item)
    (names : List (ℕ × Piece)) (reads : ℕ) (fault : BlockFault) → BreaksNone {A = Unit {0}} (Err fault)
    → AreMade edits added old new history items names reads reads (Err fault)
made-not edits added old new history items names reads fault none = record {
  done = tt;
  sound = λ events is room. none;
  reads = omega arith;
}

-- one edit
pub made-once : (old new : FsTree) (before after : History) (bytes left most : ℕ)
    (items items_new : List Item)
    (names : List (ℕ × Piece)) (reads reads_new : ℕ) (result : Result (Unit {0}) BlockFault)
    → IsSubvolume old before bytes → Stands old before items names
    → OnOk result (IsEditedTo old new before items_new names (old.tree.height + 2))
    → OnOk result (Grows most old.tree new.tree old.land new.land) → LeavesHeld old new before after bytes left
    → ((events : List Event) → before ≡ Recorded events → 3 * (old.tree.height + 2) ≤ free_slots old.land.space
    → BreaksNone result)
    → reads_new ≤ reads + 9 * (old.tree.height + 2)
    → AreMade 1 0 old new before items_new names reads reads_new result
made-once old new before after bytes left most items items_new names reads reads_new result subvolume stands edited
    grows leaves unbroken steps =
    let low = stands-low old before bytes items names subvolume stands in
    record {
      done = both result edited grows;
      sound = λ events is room. unbroken events is (omega (arith, low, room));
      reads = omega (arith, low, steps);
    } where
      both : (r : Result (Unit {0}) BlockFault)
          → OnOk r (IsEditedTo old new before items_new names (old.tree.height + 2))
          → OnOk r (Grows most old.tree new.tree old.land new.land)
          → OnOk r (IsEditedBy 1 0 old new before items_new names)
      both (Ok done) is grown =
          edited-once old new before after bytes left most items items_new names subvolume stands is grown leaves
      both (Err fault) is grown = tt

-- some edits were done, and a call follows
pub made-then : (i j most m n sum : ℕ) (a b c : FsTree) (history : History) (items items_new : List Item)
    (names names_new : List (ℕ × Piece)) (reads some reads_new : ℕ) (result : Result (Unit {0}) BlockFault) → i + j ≤
    most → m + n ≤ sum
    → IsEditedBy i m a b history items names → some ≤ reads + 45 * i
    → AreMade j n b c history items_new names_new some reads_new result
    → AreMade most sum a c history items_new names_new reads reads_new result
made-then i j most m n sum a b c history items items_new names names_new reads some reads_new result bound more first
    steps later =
    let free = first.free in
    let steps_later = later.reads in
    record {
      done = after result later.done;
      sound = λ events is room. later.sound events is (omega (arith, free, room, bound));
      reads = omega (arith, steps, steps_later, bound);
    } where
      after : (r : Result (Unit {0}) BlockFault) → OnOk r (IsEditedBy j n b c history items_new names_new)
          → OnOk r (IsEditedBy most sum a c history items_new names_new)
      after (Ok done) edited =
          edited-most (i + j) most (m + n) sum a c history items_new names_new bound more
          (edited-then i j m n a b c history items items_new names names_new first edited)
      after (Err fault) edited = tt

-- a call gave up in the midst
pub made-failed : (i most m n : ℕ) (old new other : FsTree) (history : History) (items others : List Item)
    (names names_other : List (ℕ × Piece)) (reads reads_new : ℕ) (fault : BlockFault) → i ≤ most
    → AreMade i m old new history items names reads reads_new (Err fault)
    → AreMade most n old other history others names_other reads reads_new (Err fault)
made-failed i most m n old new other history items others names names_other reads reads_new fault bound failed =
    let steps = failed.reads in
    record {
      done = tt;
      sound = λ events is room. failed.sound events is (omega (arith, room, bound));
      reads = omega (arith, steps, bound);
    }

-- names alone
pub made-named : (added : ℕ) (old new : FsTree) (history : History) (items : List Item)
    (names : List (ℕ × Piece)) (reads : ℕ) (result : Result (Unit {0}) BlockFault) → KeepsNodes old new
    → OnOk result (BookGetsHeavier old.refs new.refs (added * name_new_bytes))
    → AreNamed old new history items names result → AreMade 0 added old new history items names reads reads result
made-named added old new history items names reads result nodes heavier named = record {
  done = after result heavier named.done;
  sound = λ events is room. named.sound;
  reads = omega arith;
} where
  after : (r : Result (Unit {0}) BlockFault) → OnOk r (BookGetsHeavier old.refs new.refs (added * name_new_bytes))
      → OnOk r (StandsMoved old new history items names) → OnOk r (IsEditedBy 0 added old new history items names)
  after (Ok done) by is = edited-named added old new history items names nodes by is
  after (Err fault) by is = tt
