-- What is kept may be read, and is left so by a reading.
use Rattle.std.proofs.Common.{◌≡◌, ℕ, ◌^◌, ◌<◌, ◌≤◌, List, length, map, refl, sym, ap, subst, ◌∙◌, arith}
use Rattle.std.specs.Prelude.{IsTrue}
use Rattle.std.specs.List.{Contains, flat_map}
use Rattle.std.proofs.lemmas.List.Elements.{All-contains}
use Rattle.std.proofs.lemmas.List.Sorted.{Contains-permutation}
use Rattle.qg_device.specs.History.{History}
use Rattle.qg_num.specs.declared.piece.Piece.{Piece}
use Rattle.qg_node.specs.declared.item.Item.{Item}
use Rattle.qg_node.specs.declared.node.Node.{Node}
use Rattle.qg_node.specs.NodeText.{IsNodeSize}
use Rattle.qg_super.specs.Places.{second_place, total_bytes}
use Rattle.qg_super.specs.SuperText.{sizes_of}
use Rattle.qg_super.proofs.Served.{SizesFit-is_served, SuperFits-is_super}
use Rattle.qg_image.specs.declared.file.File.{File}
use Rattle.qg_image.specs.ItemMeaning.{is_subvolume_number}
use Rattle.qg_image.specs.Table.{keys_of}
use Rattle.qg_image.specs.Record.{Record}
use Rattle.qg_image.specs.State.{State, Subvolume}
use Rattle.qg_image.proofs.Contained.{contains_here}
use Rattle.qg_root_items.specs.Written.{items_of_file}
use Rattle.qg_root_items.proofs.FileTree.{file_items-told}
use Rattle.qg_blocks.specs.NodesInMemory.{Draft, Held, nothing_fresh}
use Rattle.qg_blocks.specs.NodesFound.{fresh_at}
use Rattle.qg_blocks.specs.NodesFound.{IsBacked}
use Rattle.qg_node_alloc.specs.declared.ground.Ground.{Ground}
use Rattle.qg_node_alloc.proofs.Editing.{ArePlaced-drafted}
use Rattle.qg_tree_read.specs.Way.{HasRead, IsReadable}
use Rattle.qg_fs_laws.specs.Types.{FsTree}
use Rattle.qg_fs_laws.specs.Standing.{IsSubvolume, Stands, trees_of}
use Rattle.qg_fs_laws.proofs.Lists.{from-mapped, has-mapped}
use Rattle.qg_inodes.specs.TreeFiles.{TellsFiles}
use Rattle.qg_fs_laws.specs.Named.{named}
use Rattle.qg_fs_laws.specs.Files.{HoldsFiles}
use Rattle.qg_fs_laws.specs.CommitTreesCommitting.{StandsStill}
use Rattle.qg_fs_laws.proofs.Alike.{stands-alike}
use Rattle.qg_space.specs.Holding.{free_slots}
use Rattle.qg_weighed.specs.Laws.{IsRecorded}
use Rattle.qg_tree_read.specs.Tree.{Root}
use Rattle.qg_qgroups.specs.Tracked.{quota_of}
use Rattle.qg_fs_laws.specs.Keeping.{KeepsState, other_names}
use Rattle.qg_fs_laws.proofs.KeptStill.{kept-still}
use Rattle.qg_open_image.specs.declared.open_image.OpenImage.{OpenImage}
use Rattle.qg_open_image.specs.declared.open_image.KeptSubvolume.{KeptSubvolume}
use Rattle.qg_open_image.specs.Editing.{HasReadNodes}
use Rattle.qg_open_image.specs.Keeping.{HoldsPending, IsFitted, IsKept, IsKeptWith, kept_subvolume, commit_room_of}

-- ---- what may be done

-- a tree's number is one of the subvolumes', and may be a subvolume's
pub tree-listed : (kept : OpenImage) → IsFitted kept → (tree : Root) → Contains (trees_of kept.fs) tree
    → Contains (keys_of kept.snapshots) tree.owner
tree-listed kept fits tree among =
    Contains-permutation (map (λ (tree : Root). tree.owner) (trees_of kept.fs)) (keys_of kept.snapshots) tree.owner
    fits.trees (has-mapped (λ (tree : Root). tree.owner) (trees_of kept.fs) tree among)

pub tree-numbered : (kept : OpenImage) → IsFitted kept → (tree : Root) → Contains (trees_of kept.fs) tree
    → IsTrue (is_subvolume_number tree.owner)
tree-numbered kept fits tree among =
    let entry = from-mapped (λ (entry : ℕ × KeptSubvolume). entry.0) kept.snapshots tree.owner
    (tree-listed kept fits tree among) in
    subst (λ (n : ℕ). IsTrue (is_subvolume_number n)) entry.2
    (All-contains (λ (entry : ℕ × KeptSubvolume). IsTrue (is_subvolume_number entry.0)) kept.snapshots entry.0
    fits.subvolumes.numbers entry.1)

pub hand-among : (fs : FsTree) → Contains (trees_of fs) fs.tree
hand-among fs = contains_here fs.tree fs.others.items

module _ (kept : OpenImage) (history : History) (bytes : ℕ) (fits : IsKept kept history bytes) where
  pub has-room : second_place ≤ bytes
  has-room = omega (arith, fits.long)

  pub is-readable : IsReadable kept.fs.land.blocks history bytes
  is-readable = record {
    backed = fits.backed;
    placed = ArePlaced-drafted kept.fs.land kept.fs.tree.next bytes has-room fits.fitted.drafted;
  }

  pub is-subvolume : IsSubvolume kept.fs history bytes
  unfolding is_subvolume_number
  is-subvolume = record {
    editable = record { backed = fits.backed; drafted = fits.fitted.drafted; room = has-room };
    makes = record {
      owner = tree-numbered kept fits.fitted kept.fs.tree (hand-among kept.fs);
      next = omega (arith, fits.fitted.next);
    };
  }

pub node-size : (kept : OpenImage) → IsFitted kept → IsNodeSize kept.superblock.nodesize
node-size kept fits =
    (SizesFit-is_served (sizes_of kept.superblock)
    (SuperFits-is_super kept.superblock fits.superblock).served).node_size

-- the generation to come fits its field
pub is-near : (kept : OpenImage) → IsFitted kept → kept.fs.tree.next < 2 ^ 64
is-near kept fits = omega (arith, fits.next, (SuperFits-is_super kept.superblock fits.superblock).next)

-- ---- over any disk

-- what is kept, with other nodes in memory
abbrev pub with_blocks : OpenImage → Held → OpenImage
with_blocks kept blocks =
    record kept { fs = record kept.fs { land = record kept.fs.land { blocks = blocks } } }

pub fitted-blocks : (kept : OpenImage) (blocks : Held) → blocks.draft ≡ kept.fs.land.blocks.draft → IsFitted kept
    → IsFitted (with_blocks kept blocks)
fitted-blocks kept blocks same fits = record {
  superblock = fits.superblock;
  subvolumes = fits.subvolumes;
  trees = fits.trees;
  numbered = record { ascending = fits.numbered.ascending; apart_at = fits.numbered.apart_at };
  turn = record { next = fits.turn.next; owner = fits.turn.owner };
  groups = fits.groups;
  tracked = fits.tracked;
  bounded = fits.bounded;
  next = fits.next;
  sizes = fits.sizes;
  drafted = record {
    sizes = record {
      served = fits.drafted.sizes.served;
      nodesize = ap (λ (draft : Draft). draft.sizes.nodesize) same ∙ fits.drafted.sizes.nodesize;
      slots = ap (λ (draft : Draft). draft.sizes.slots) same ∙ fits.drafted.sizes.slots;
    };
    each = λ at node is. fits.drafted.each at node (sym (ap (λ (draft : Draft). fresh_at draft at) same) ∙ is);
  };
}

pub kept-read : (kept : OpenImage) (blocks : Held) (before after : History) (bytes left : ℕ)
    → IsKept kept before bytes → HasRead kept.fs.land.blocks blocks before after bytes left
    → IsReadable blocks after left → IsKept (with_blocks kept blocks) after left
kept-read kept blocks before after bytes left fits read readable = record {
  fitted = fitted-blocks kept blocks read.draft fits.fitted;
  backed = readable.backed;
  long = subst (λ (n : ℕ). total_bytes (sizes_of kept.superblock) ≤ n) (sym read.size) fits.long;
}

-- ---- where a tree is told

-- a tree that has the items of files tells them
pub tells-files : (fs : FsTree) (history : History) (files : List (ℕ × File))
    → HoldsFiles fs history files → fs.tree.next < 2 ^ 64 → TellsFiles fs.tree fs.land.blocks.draft history files
tells-files fs history files holds near = record {
  items = flat_map items_of_file files;
  tells = holds.stands.rooted.tells;
  generation = fs.tree.next;
  are = file_items-told fs.tree.next files holds.writable near holds.by;
}

-- trees, with other clean nodes in memory
abbrev with_clean : FsTree → List (ℕ × Node) → FsTree
with_clean fs clean = record fs { land = record fs.land { blocks = record fs.land.blocks { clean = clean } } }

-- they stand still
still-clean : (fs : FsTree) (clean : List (ℕ × Node)) (history : History) (items : List Item)
    (names : List (ℕ × Piece)) → Stands fs history items names
    → StandsStill fs (with_clean fs clean) history history items names
still-clean fs clean history items names stands =
    stands-alike fs (with_clean fs clean) history history items names refl (λ q. refl) stands

holds-clean : (fs : FsTree) (clean : List (ℕ × Node)) (history : History) (files : List (ℕ × File))
    → HoldsFiles fs history files → HoldsFiles (with_clean fs clean) history files
holds-clean fs clean history files holds = record {
  stands = (still-clean fs clean history (flat_map items_of_file files) (named files) holds.stands).stands;
  writable = holds.writable;
  by = holds.by;
}

-- so it has them after a reading
pub holds-looked : (old new : OpenImage) (before after : History) (bytes left : ℕ) (files : List (ℕ × File))
    → HasReadNodes old new before after bytes left → HoldsFiles old.fs before files → HoldsFiles new.fs after files
holds-looked old new before after bytes left files looked holds =
    subst (λ (history : History). HoldsFiles new.fs history files) (sym looked.history)
    (subst (λ (kept : OpenImage). HoldsFiles kept.fs before files) (sym looked.same)
    (holds-clean old.fs new.fs.land.blocks.clean before files holds))

-- what is read leaves all but clean nodes
pub looked-read : (kept : OpenImage) (blocks : Held) (before after : History) (bytes left : ℕ)
    → HasRead kept.fs.land.blocks blocks before after bytes left
    → HasReadNodes kept (with_blocks kept blocks) before after bytes left
looked-read kept blocks before after bytes left read = record {
  same = λ i. with_blocks kept (record blocks { draft = read.draft i; bound = read.bound i });
  history = read.history;
  size = read.size;
}

-- so does what leaves the space
pub looked-land : (kept : OpenImage) (land : Ground) (before after : History) (bytes left : ℕ)
    → HasRead kept.fs.land.blocks land.blocks before after bytes left → land.space ≡ kept.fs.land.space
    → HasReadNodes kept (record kept { fs = record kept.fs { land = land } }) before after bytes left
looked-land kept land before after bytes left read space = record {
  same = λ i. record kept {
    fs = record kept.fs {
      land = record land {
        blocks = record land.blocks { draft = read.draft i; bound = read.bound i };
        space = space i;
      };
    };
  };
  history = read.history;
  size = read.size;
}

-- what was read fits together over any disk, where clean nodes are the disk's
pub kept-looked : (old new : OpenImage) (before after : History) (bytes left : ℕ) → IsKept old before bytes
    → HasReadNodes old new before after bytes left → IsBacked new.fs.land.blocks after → IsKept new after left
kept-looked old new before after bytes left fits looked backed = record {
  fitted = subst (λ (kept : OpenImage). IsFitted kept) (sym looked.same)
      (fitted-blocks old (record old.fs.land.blocks { clean = new.fs.land.blocks.clean }) refl fits.fitted);
  backed = backed;
  long = subst (λ (kept : OpenImage). total_bytes (sizes_of kept.superblock) ≤ left) (sym looked.same)
      (subst (λ (n : ℕ). total_bytes (sizes_of old.superblock) ≤ n) (sym looked.size) fits.long);
}

-- what is read and then read again is read
pub looked-again : (old mid new : OpenImage) (before then after : History) (bytes between left : ℕ)
    → HasReadNodes old mid before then bytes between → HasReadNodes mid new then after between left
    → HasReadNodes old new before after bytes left
looked-again old mid new before then after bytes between left first second = record {
  same = second.same
      ∙ ap (λ (kept : OpenImage). with_blocks kept (record kept.fs.land.blocks { clean = new.fs.land.blocks.clean }))
      first.same;
  history = second.history ∙ first.history;
  size = second.size ∙ first.size;
}

-- the same subvolume's tree is at hand
pub owner-read : (old new : OpenImage) (before after : History) (bytes left : ℕ)
    → HasReadNodes old new before after bytes left → old.fs.tree.owner ≡ new.fs.tree.owner
owner-read old new before after bytes left looked = ap (λ (kept : OpenImage). kept.fs.tree.owner) (sym looked.same)

-- and the last commit is
pub superblock-read : (old new : OpenImage) (before after : History) (bytes left : ℕ)
    → HasReadNodes old new before after bytes left → new.superblock ≡ old.superblock
superblock-read old new before after bytes left looked = ap (λ (kept : OpenImage). kept.superblock) looked.same

-- ---- where it is kept of a state

keeps-clean : (fs : FsTree) (clean : List (ℕ × Node)) (history : History) (state : State) (mine : Subvolume)
    (files : List (ℕ × File)) → KeepsState fs history state mine files
    → KeepsState (with_clean fs clean) history state mine files
keeps-clean fs clean history state mine files keeps =
    kept-still fs (with_clean fs clean) history history state mine files refl refl refl
    (still-clean fs clean history (flat_map items_of_file files) (named files) keeps.holds.stands) keeps

module _ (old new : OpenImage) (before after : History) (bytes left : ℕ) (state : State) (names : List Record)
    (looked : HasReadNodes old new before after bytes left) (keeps : IsKeptWith old state before names) where
  pub state-looked : KeepsState new.fs after state keeps.mine keeps.files
  state-looked =
      subst (λ (history : History). KeepsState new.fs history state keeps.mine keeps.files)
      (sym looked.history)
      (subst (λ (kept : OpenImage). KeepsState kept.fs before state keeps.mine keeps.files) (sym looked.same)
      (keeps-clean old.fs new.fs.land.blocks.clean before state keeps.mine keeps.files keeps.keeps))

  pub snapshots-looked : map (λ (entry : ℕ × Subvolume). (entry.0, kept_subvolume entry.1)) state.subvolumes
      ≡ new.snapshots
  snapshots-looked = keeps.snapshots ∙ ap (λ (kept : OpenImage). kept.snapshots) (sym looked.same)

  pub quota-looked : state.quota ≡ quota_of new.quota
  quota-looked = keeps.quota ∙ ap (λ (kept : OpenImage). quota_of kept.quota) (sym looked.same)

  pub pending-held-looked : HoldsPending new state.pending
  pending-held-looked =
      subst (λ (kept : OpenImage). HoldsPending kept state.pending) (sym looked.same) keeps.holds

  pub pending-looked : length state.pending ≡ new.pending
  pending-looked = keeps.pending ∙ ap (λ (kept : OpenImage). kept.pending) (sym looked.same)

  pub recorded-looked : IsRecorded state new.fs.refs.held
  recorded-looked = subst (λ (kept : OpenImage). IsRecorded state kept.fs.refs.held) (sym looked.same) keeps.recorded

  pub reserved-looked : 0 < new.pending → commit_room_of new ≤ free_slots new.fs.land.space
  reserved-looked =
      subst (λ (kept : OpenImage). 0 < kept.pending → commit_room_of kept ≤ free_slots kept.fs.land.space)
      (sym looked.same)
      keeps.reserved

  pub idle-looked : new.pending ≡ 0 → names ≡ other_names state
      → new.fs.land.blocks.draft ≡ nothing_fresh new.fs.land.blocks.draft.sizes
  idle-looked =
      subst (λ (kept : OpenImage). kept.pending ≡ 0 → names ≡ other_names state
      → kept.fs.land.blocks.draft ≡ nothing_fresh kept.fs.land.blocks.draft.sizes) (sym looked.same) keeps.idle

  -- after a reading it is kept of the state still, with the same files
  abbrev pub keeps-looked : IsKeptWith new state after names
  keeps-looked = record {
    files = keeps.files;
    mine = keeps.mine;
    keeps = state-looked;
    short = keeps.short;
    snapshots = snapshots-looked;
    quota = quota-looked;
    holds = pending-held-looked;
    pending = pending-looked;
    recorded = recorded-looked;
    others = keeps.others;
    reserved = reserved-looked;
    reserve = keeps.reserve;
    idle = idle-looked;
  }
