-- What stays over several calls.
use Rattle.std.proofs.Common.{◌≡◌, ℕ, List, Result, refl, ap, ◌∙◌}
use Rattle.std.specs.Prelude.{OnOk}
use Rattle.std.specs.List.{filter_map, flat_map}
use Rattle.std.proofs.lemmas.Result.{on_ok_weaker}
use Rattle.qg_device.specs.History.{History}
use Rattle.qg_num.specs.declared.fault.BlockFault.{BlockFault}
use Rattle.qg_node_alloc.specs.declared.ground.Ground.{Ground}
use Rattle.qg_node_alloc.specs.Calls.{LeavesBe}
use Rattle.qg_tree_read.specs.Tree.{Root}
use Rattle.qg_shared_trees.specs.Rooting.{Grows}
use Rattle.qg_shared_trees.specs.Types.{FsTree}
use Rattle.qg_shared_trees.specs.Standing.{IsSubvolume, KeepsTree, items_in, name_told, names_elsewhere}
use Rattle.qg_file_edits.specs.Files.{LeavesHeld, StaysOwn}
use Rattle.qg_file_edits.specs.Naming.{KeepsNodes}

-- ---- a call that changes references and runs alone

pub keeps-itself : (fs : FsTree) → KeepsTree fs fs
keeps-itself fs = record { tree = refl; others = refl; land = refl }

pub keeps-then : (a b c : FsTree) → KeepsTree a b → KeepsTree b c → KeepsTree a c
keeps-then a b c first later = record {
  tree = later.tree ∙ first.tree;
  others = later.others ∙ first.others;
  land = later.land ∙ ap (λ (land : Ground). record land { space = record land.space { runs = c.land.space.runs } })
      first.land;
}

-- what the other trees name stays
pub elsewhere-same : (old new : FsTree) (history : History) → KeepsTree old new
    → names_elsewhere new history ≡ names_elsewhere old history
unfolding names_elsewhere
elsewhere-same old new history keeps =
    ap (λ (trees : List Root). flat_map (λ (tree : Root). filter_map name_told (items_in new history tree)) trees)
    (others_same keeps.others)
    ∙ ap (λ (land : Ground). flat_map
    (λ (tree : Root). filter_map name_told (items_in (record new { land = land }) history tree)) old.others.items)
    keeps.land
  where
    others_same : new.others ≡ old.others → new.others.items ≡ old.others.items
    others_same same = rw same refl

pub leaves-kept : (old new : FsTree) (history : History) (bytes : ℕ) → KeepsNodes old new
    → IsSubvolume old history bytes → LeavesHeld old new history history bytes bytes
leaves-kept old new history bytes nodes subvolume = let keeps = nodes.tree in record {
  subvolume = nodes.subvolume history bytes subvolume;
  others = keeps.others;
  node_sizes = ap (λ (land : Ground). land.blocks.draft.sizes) keeps.land;
  bound = ap (λ (land : Ground). land.blocks.bound) keeps.land;
  sizes = ap (λ (land : Ground). land.space.sizes) keeps.land;
  held_slots = ap (λ (land : Ground). land.space.held_slots) keeps.land;
  held_runs = ap (λ (land : Ground). land.space.held_runs) keeps.land;
  history = refl;
  size = refl;
}

pub own-kept : (old new : FsTree) → KeepsNodes old new → StaysOwn old new
own-kept old new nodes = let keeps = nodes.tree in record {
  owner = ap (λ (root : Root). root.owner) keeps.tree;
  next = ap (λ (root : Root). root.next) keeps.tree;
}

-- ---- an edit

pub leaves-edited : (old new : FsTree) (before after : History) (bytes left generation : ℕ)
    → LeavesBe old.land new.land before after bytes left generation → IsSubvolume new after left
    → new.others ≡ old.others → LeavesHeld old new before after bytes left
leaves-edited old new before after bytes left generation leaves subvolume others = record {
  subvolume = subvolume;
  others = others;
  node_sizes = leaves.rests.node_sizes;
  bound = leaves.rests.bound;
  sizes = leaves.rests.sizes;
  held_slots = leaves.rests.held_slots;
  held_runs = leaves.rests.held_runs;
  history = leaves.history;
  size = leaves.size;
}

pub own-grown : (most : ℕ) (old new : FsTree) → Grows most old.tree new.tree old.land new.land → StaysOwn old new
own-grown most old new grows = record { owner = grows.stays.owner; next = grows.stays.next }

-- ---- one call after another

pub nodes-itself : (fs : FsTree) → KeepsNodes fs fs
nodes-itself fs = record {
  tree = keeps-itself fs;
  subvolume = λ history bytes subvolume. subvolume;
  slots = refl;
}

pub nodes-then : (a b c : FsTree) → KeepsNodes a b → KeepsNodes b c → KeepsNodes a c
nodes-then a b c first later = record {
  tree = keeps-then a b c first.tree later.tree;
  subvolume = λ history bytes subvolume. later.subvolume history bytes (first.subvolume history bytes subvolume);
  slots = later.slots ∙ first.slots;
}

pub leaves-itself : (fs : FsTree) (history : History) (bytes : ℕ) → IsSubvolume fs history bytes
    → LeavesHeld fs fs history history bytes bytes
leaves-itself fs history bytes subvolume = leaves-kept fs fs history bytes (nodes-itself fs) subvolume

pub leaves-then : (a b c : FsTree) (first second third : History) (bytes some left : ℕ)
    → LeavesHeld a b first second bytes some → LeavesHeld b c second third some left
    → LeavesHeld a c first third bytes left
leaves-then a b c first second third bytes some left one two = record {
  subvolume = two.subvolume;
  others = two.others ∙ one.others;
  node_sizes = two.node_sizes ∙ one.node_sizes;
  bound = two.bound ∙ one.bound;
  sizes = two.sizes ∙ one.sizes;
  held_slots = two.held_slots ∙ one.held_slots;
  held_runs = two.held_runs ∙ one.held_runs;
  history = two.history ∙ one.history;
  size = two.size ∙ one.size;
}

pub own-itself : (fs : FsTree) → StaysOwn fs fs
own-itself fs = record { owner = refl; next = refl }

pub own-then : (a b c : FsTree) → StaysOwn a b → StaysOwn b c → StaysOwn a c
own-then a b c one two = record { owner = two.owner ∙ one.owner; next = two.next ∙ one.next }

pub own-then-ok : (a b c : FsTree) (result : Result (Unit {0}) BlockFault) → StaysOwn a b → OnOk result (StaysOwn b c)
    → OnOk result (StaysOwn a c)
own-then-ok a b c result one two = on_ok_weaker result (own-then a b c one) two
