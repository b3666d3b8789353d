-- Where another tree came to hand, what is kept is kept of the same state.
use Rattle.std.proofs.Common.{◌≡◌, ℕ, ◌<◌, ◌≤◌, Bool, true, false, List, map, Some, refl, sym, ap, subst, ◌∙◌}
use Rattle.std.proofs.Common.{inl, inr}
use Rattle.std.specs.Prelude.{◌↔◌, IfOk, IsTrue, Result, Ok, Err}
use Rattle.std.specs.List.{All, Contains, filter_map, flat_map}
use Rattle.std.specs.List.Sorted.{IsPermutation}
use Rattle.std.proofs.lemmas.Bool.{cases_Bool, true≢false}
use Rattle.std.proofs.lemmas.List.Sorted.{IsPermutation-map, IsPermutation-refl, IsPermutation-sym, IsPermutation-trans}
use Rattle.std.proofs.lemmas.Option.{same_Some}
use Rattle.qg_device.specs.History.{History}
use Rattle.qg_node.specs.declared.item.Item.{Item}
use Rattle.qg_num.specs.declared.answer.Answer.{Answer}
use Rattle.qg_num.specs.declared.fault.BlockFault.{BlockFault}
use Rattle.qg_image.specs.Table.{has_key, keys_of, value_at}
use Rattle.qg_image.specs.declared.file.File.{File}
use Rattle.qg_image.specs.Record.{Record}
use Rattle.qg_image.specs.State.{State, Subvolume}
use Rattle.qg_image.proofs.Contained.{contains_cases, contains_later}
use Rattle.qg_image.specs.declared.tree.TreeKind.TheVariants.{Files}
use Rattle.qg_image.specs.Walk.{is_owner}
use Rattle.qg_tree_items.specs.Writable.{IsFileBy}
use Rattle.qg_root_items.specs.Written.{items_of_file}
use Rattle.qg_blocks.specs.NodesInMemory.{nothing_fresh}
use Rattle.qg_blocks.specs.NodesFound.{IsBacked}
use Rattle.qg_space.specs.Holding.{free_slots}
use Rattle.qg_weighed.specs.Laws.{IsRecorded}
use Rattle.qg_node_alloc.specs.declared.ground.Ground.{Ground}
use Rattle.qg_node_alloc.specs.Land.{IsDrafted}
use Rattle.qg_tree_read.specs.Tree.{Root}
use Rattle.qg_fs_laws.specs.Types.{TreeRefs}
use Rattle.qg_fs_laws.specs.Types.{FsTree}
use Rattle.qg_fs_laws.specs.Standing.{AreNumbered, CanTurn, IsSubvolume, IsTurned, Stands, items_in, layout_in}
use Rattle.qg_fs_laws.specs.Standing.{name_told}
use Rattle.qg_fs_laws.specs.Standing.{trees_of}
use Rattle.qg_fs_laws.proofs.Lists.{from-mapped}
use Rattle.qg_fs_laws.proofs.Ordered.{contained}
use Rattle.qg_fs_laws.proofs.SharedTreesRoots.{HasRoot}
use Rattle.qg_fs_laws.proofs.Trees.{subvolume-tree, tree-subvolume}
use Rattle.qg_fs_laws.specs.Named.{named}
use Rattle.qg_fs_laws.specs.Files.{HasFiles, HoldsFiles}
use Rattle.qg_fs_laws.proofs.Sources.{own_files}
use Rattle.qg_fs_laws.specs.Keeping.{KeepsState, other_names}
use Rattle.qg_qgroups.specs.Tracked.{quota_of}
use Rattle.qg_fs_laws.specs.Editable.{AreGroupsOf}
use Rattle.qg_open_image.specs.declared.open_image.OpenImage.{OpenImage}
use Rattle.qg_open_image.specs.Answering.{is_unchanging}
use Rattle.qg_open_image.specs.Editing.{HasLooked, HasReadNodes}
use Rattle.qg_open_image.specs.Keeping.{AreSubvolumesBy, IsFitted, IsKept, IsKeptWith, SameButClean, commit_room_of}
use Rattle.qg_open_image.proofs.Looked.{hand-among, is-subvolume, tree-listed, tree-numbered}
use Rattle.qg_open_image.proofs.Tables.{key-listed, listed-key}

-- ---- what is the same but for clean nodes and the tree at hand

-- what is kept, with another tree at hand, others, clean nodes, and a book that stands for another
abbrev pub turned_over : OpenImage → FsTree → OpenImage
turned_over kept fs = record kept {
  fs = record kept.fs {
    tree = fs.tree;
    others = fs.others;
    land = record kept.fs.land { blocks = record kept.fs.land.blocks { clean = fs.land.blocks.clean } };
    refs = record kept.fs.refs { tree = fs.refs.tree };
  };
}

pub same-refl : (kept : OpenImage) → SameButClean kept kept
same-refl kept = record { rest = refl; trees = IsPermutation-refl (trees_of kept.fs) }

pub same-then : (old mid new : OpenImage) → SameButClean old mid → SameButClean mid new → SameButClean old new
same-then old mid new first second = record {
  rest = second.rest ∙ ap (λ (kept : OpenImage). turned_over kept new.fs) first.rest;
  trees = IsPermutation-trans (trees_of old.fs) (trees_of mid.fs) (trees_of new.fs) first.trees second.trees;
}

-- nodes were read of the tree at hand
module _ (old new : OpenImage) (before after : History) (bytes left : ℕ)
    (read : HasReadNodes old new before after bytes left) where
  fs-same : new.fs ≡ record old.fs {
    land = record old.fs.land { blocks = record old.fs.land.blocks { clean = new.fs.land.blocks.clean } };
  }
  fs-same = ap (λ (kept : OpenImage). kept.fs) read.same

  over-same : record old {
    fs = record old.fs {
      land = record old.fs.land { blocks = record old.fs.land.blocks { clean = new.fs.land.blocks.clean } };
    };
  } ≡ turned_over old new.fs
  over-same =
      ap (λ (fs : FsTree). record old {
        fs = record old.fs {
          tree = fs.tree;
          others = fs.others;
          land = record old.fs.land { blocks = record old.fs.land.blocks { clean = new.fs.land.blocks.clean } };
          refs = record old.fs.refs { tree = fs.refs.tree };
        };
      }) (sym fs-same)

  pub same-nodes : SameButClean old new
  same-nodes = record {
    rest = read.same ∙ over-same;
    trees = subst (λ (fs : FsTree). IsPermutation (trees_of old.fs) (trees_of fs)) (sym fs-same)
        (IsPermutation-refl (trees_of old.fs));
  }

  pub looked-nodes : HasLooked old new before after bytes left
  looked-nodes = record { same = same-nodes; history = read.history; size = read.size }

-- nodes were read behind a turn
pub same-read : (old mid new : OpenImage) (before after : History) (bytes left : ℕ) → SameButClean old mid
    → HasReadNodes mid new before after bytes left → SameButClean old new
same-read old mid new before after bytes left first read =
    same-then old mid new first (same-nodes mid new before after bytes left read)

pub looked-turned : (old mid new : OpenImage) (before after : History) (bytes left : ℕ) → SameButClean old mid
    → HasReadNodes mid new before after bytes left → HasLooked old new before after bytes left
looked-turned old mid new before after bytes left first read = record {
  same = same-read old mid new before after bytes left first read;
  history = read.history;
  size = read.size;
}

-- nothing was read
pub looked-refl : (kept : OpenImage) (history : History) (bytes : ℕ)
    → HasLooked kept kept history history bytes bytes
looked-refl kept history bytes = record { same = same-refl kept; history = refl; size = refl }

pub looked-then : (old mid new : OpenImage) (before then after : History) (bytes between left : ℕ)
    → HasLooked old mid before then bytes between → HasLooked mid new then after between left
    → HasLooked old new before after bytes left
looked-then old mid new before then after bytes between left first second = record {
  same = same-then old mid new first.same second.same;
  history = second.history ∙ first.history;
  size = second.size ∙ first.size;
}

-- what is unchanged by what was done behind
pub unchanged-then : (result : Result Answer BlockFault) (old mid new : OpenImage) → SameButClean old mid
    → IfOk result (λ answer. IsTrue (is_unchanging answer) → SameButClean mid new)
    → IfOk result (λ answer. IsTrue (is_unchanging answer) → SameButClean old new)
unchanged-then (Ok answer) old mid new first second = λ is. same-then old mid new first (second is)
unchanged-then (Err fault) old mid new first second = tt

-- ---- another tree came to hand

module _ (old : OpenImage) (fs : FsTree) (number : ℕ) (fits : IsFitted old) (turned : IsTurned old.fs fs number)
    (numbered : AreNumbered fs) where
  abbrev pub now : OpenImage
  now = record old { fs = fs }

  land-same : fs.land ≡ record old.fs.land {
    blocks = record old.fs.land.blocks { clean = fs.land.blocks.clean };
  }
  land-same =
      turned.land
      ∙ ap (λ (land : Ground). record old.fs.land {
        blocks = record old.fs.land.blocks { clean = land.blocks.clean };
      }) (sym turned.land)

  refs-same : fs.refs ≡ record old.fs.refs { tree = fs.refs.tree }
  refs-same =
      turned.refs ∙ ap (λ (refs : TreeRefs). record old.fs.refs { tree = refs.tree }) (sym turned.refs)

  pub same-turned : SameButClean old now
  same-turned = record {
    rest =
        ap (λ (land : Ground). record old { fs = record fs { land = land } }) land-same
        ∙ ap (λ (refs : TreeRefs). record old {
          fs = record fs {
            land = record old.fs.land { blocks = record old.fs.land.blocks { clean = fs.land.blocks.clean } };
            refs = refs;
          };
        }) refs-same;
    trees = turned.trees;
  }

  -- ---- the trees are the same

  pub tree-before : (tree : Root) → Contains (trees_of fs) tree → Contains (trees_of old.fs) tree
  tree-before tree has = contained (trees_of old.fs) (trees_of fs) tree turned.trees has

  next-of : (tree : Root) → Contains (trees_of old.fs) tree → tree.next ≡ old.fs.tree.next
  next-of tree has = elim (contains_cases old.fs.tree old.fs.others.items tree has) [
    | inl same ↦ ap (λ (t : Root). t.next) (sym same)
    | inr later ↦ fits.turn.next tree later
  ]

  pub next-turned : fs.tree.next ≡ old.fs.tree.next
  next-turned = next-of fs.tree (tree-before fs.tree (hand-among fs))

  other-before : (tree : Root) → Contains fs.others.items tree → Contains (trees_of old.fs) tree
  other-before tree has = tree-before tree (contains_later fs.tree fs.others.items tree has)

  -- ---- over any disk

  pub turn-turned : CanTurn fs
  turn-turned = record {
    next = λ other has. next-of other (other-before other has) ∙ sym next-turned;
    owner = λ other has. owner-of other (other-before other has);
  } where
    owner-of : (tree : Root) → Contains (trees_of old.fs) tree → IsTrue (is_owner Files tree.owner)
    owner-of tree has = tree-numbered old fits tree has

  pub fitted-turned : IsFitted now
  fitted-turned = record {
    superblock = fits.superblock;
    subvolumes = subst (λ (n : ℕ). AreSubvolumesBy n old.snapshots) (sym next-turned) fits.subvolumes;
    trees = IsPermutation-trans (map (λ (tree : Root). tree.owner) (trees_of fs))
        (map (λ (tree : Root). tree.owner) (trees_of old.fs)) (keys_of old.snapshots)
        (IsPermutation-sym (map (λ (tree : Root). tree.owner) (trees_of old.fs))
        (map (λ (tree : Root). tree.owner) (trees_of fs))
        (IsPermutation-map (λ (tree : Root). tree.owner) (trees_of old.fs) (trees_of fs) turned.trees))
        fits.trees;
    numbered = numbered;
    turn = turn-turned;
    groups = subst (λ (n : ℕ). AreGroupsOf n (keys_of old.snapshots) (quota_of old.quota))
        (sym next-turned) fits.groups;
    tracked = fits.tracked;
    bounded = fits.bounded;
    next = next-turned ∙ fits.next;
    sizes = ap (λ (land : Ground). land.space.sizes) turned.land ∙ fits.sizes;
    drafted = subst (λ (land : Ground). IsDrafted land fs.tree.next) (sym turned.land)
        (subst (λ (n : ℕ). IsDrafted old.fs.land n) (sym next-turned) fits.drafted);
  }

  pub kept-turned : (history : History) (bytes : ℕ) → IsKept old history bytes → IsKept now history bytes
  kept-turned history bytes kept = record {
    fitted = fitted-turned;
    backed = subst (λ (land : Ground). IsBacked land.blocks history) (sym turned.land) kept.backed;
    long = kept.long;
  }

  -- ---- whether there is such a tree

  pub turned-listed : has_key number old.snapshots ≡ true
  turned-listed =
      listed-key number old.snapshots
      (subst (λ (n : ℕ). Contains (keys_of old.snapshots) n) turned.owner
      (tree-listed old fits fs.tree (tree-before fs.tree (hand-among fs))))

-- ---- where it is kept of a state

-- the same items are told of a tree where the same nodes are
items-same : (a b : FsTree) (history : History) (tree : Root) → a.land ≡ b.land
    → items_in a history tree ≡ items_in b history tree
items-same a b history tree same = ap (λ (land : Ground). items_in (record a { land = land }) history tree) same

-- a tree has a subvolume's files
pub record IsSource (fs : FsTree) (history : History) (mine : Subvolume) : Type 0 where
  pub tree : Root
  pub among : Contains (trees_of fs) tree
  pub files : HasFiles fs history tree mine.files

module _ (old : OpenImage) (history : History) (bytes : ℕ) (state : State) (names : List Record)
    (kept : IsKept old history bytes) (keeps : IsKeptWith old state history names) where
  hand-files : HasFiles old.fs history old.fs.tree keeps.mine.files
  hand-files =
      subst (λ (table : List (ℕ × File)). HasFiles old.fs history old.fs.tree table) (sym keeps.keeps.are)
      (own_files old.fs history keeps.files keeps.keeps.holds)

  -- each tree has the files of its subvolume
  pub tree-files : (tree : Root) (subvolume : Subvolume) → Contains (trees_of old.fs) tree
      → value_at tree.owner state.subvolumes ≡ Some subvolume → HasFiles old.fs history tree subvolume.files
  tree-files tree subvolume among there = elim (contains_cases old.fs.tree old.fs.others.items tree among) [
    | inl same ↦
        let its = ap (λ (t : Root). value_at t.owner state.subvolumes) same ∙ there in
        let own = same_Some keeps.mine subvolume (sym keeps.keeps.there ∙ its) in
        subst (λ (t : Root). HasFiles old.fs history t subvolume.files) same
        (subst (λ (s : Subvolume). HasFiles old.fs history old.fs.tree s.files) own hand-files)
    | inr later ↦ keeps.keeps.have tree subvolume later there
  ]

  -- and each tree is one's
  pub tree-sub : (tree : Root) → Contains (trees_of old.fs) tree
      → (mine : Subvolume) × (value_at tree.owner state.subvolumes ≡ Some mine) × (mine.root ≡ tree.address)
  tree-sub tree among =
      tree-subvolume old.fs history bytes (flat_map items_of_file keeps.files) (named keeps.files)
      (is-subvolume old history bytes kept) keeps.keeps.holds.stands state keeps.keeps.laid tree among

  -- each subvolume has a tree
  pub sub-tree : (sub : ℕ) (mine : Subvolume) → value_at sub state.subvolumes ≡ Some mine
      → HasRoot old.fs sub mine.root
  sub-tree sub mine there =
      subvolume-tree old.fs history bytes (flat_map items_of_file keeps.files) (named keeps.files)
      (is-subvolume old history bytes kept) keeps.keeps.holds.stands state keeps.keeps.laid sub mine there

  -- whose files its tree has
  pub source-tree : (sub : ℕ) (mine : Subvolume) → value_at sub state.subvolumes ≡ Some mine
      → IsSource old.fs history mine
  source-tree sub mine there =
      let root = sub-tree sub mine there in
      record {
        tree = root.tree;
        among = root.among;
        files = tree-files root.tree mine root.among
            (ap (λ (n : ℕ). value_at n state.subvolumes) root.number_is ∙ there);
      }

  module _ (fs : FsTree) (number : ℕ) (turned : IsTurned old.fs fs number) (numbered : AreNumbered fs)
      (layout : layout_in fs history ≡ layout_in old.fs history)
      (stood : Stands fs history (items_in fs history fs.tree) (filter_map name_told (items_in fs history fs.tree)))
    where
      among_old : (tree : Root) → Contains (trees_of fs) tree → Contains (trees_of old.fs) tree
      among_old = tree-before old fs number kept.fitted turned numbered

      next_is : fs.tree.next ≡ old.fs.tree.next
      next_is = next-turned old fs number kept.fitted turned numbered

      files_now : (tree : Root) (subvolume : Subvolume) → Contains (trees_of fs) tree
          → value_at tree.owner state.subvolumes ≡ Some subvolume → HasFiles fs history tree subvolume.files
      files_now tree subvolume among there =
          let has = tree-files tree subvolume (among_old tree among) there in
          record {
            items = items-same fs old.fs history tree turned.land ∙ has.items;
            writable = has.writable;
            by = subst (λ (n : ℕ). All (IsFileBy n) subvolume.files) (sym next_is) has.by;
          }

      here : (mine : Subvolume) × (value_at fs.tree.owner state.subvolumes ≡ Some mine) × (mine.root ≡ fs.tree.address)
      here = tree-sub fs.tree (among_old fs.tree (hand-among fs))

      abbrev mine_now : Subvolume
      mine_now = here.0

      hand_now : HasFiles fs history fs.tree mine_now.files
      hand_now = files_now fs.tree mine_now (hand-among fs) here.1

      holds_now : HoldsFiles fs history mine_now.files
      holds_now = record {
        stands = subst (λ (items : List Item). Stands fs history items (filter_map name_told items)) hand_now.items
            stood;
        writable = hand_now.writable;
        by = hand_now.by;
      }

      state_now : KeepsState fs history state mine_now mine_now.files
      state_now = record {
        there = here.1;
        are = refl;
        holds = holds_now;
        have = λ tree subvolume among there.
            files_now tree subvolume (contains_later fs.tree fs.others.items tree among) there;
        laid = record {
          sizes = keeps.keeps.laid.sizes ∙ sym (ap (λ (land : Ground). land.space.sizes) turned.land);
          generation = keeps.keeps.laid.generation ∙ sym next_is;
          layout = keeps.keeps.laid.layout ∙ sym layout;
        };
        held_slots = λ slot.
            subst (λ (land : Ground). Contains land.space.held_slots slot ↔ Contains state.held.nodes slot)
            (sym turned.land) (keeps.keeps.held_slots slot);
        held_runs = λ run.
            subst (λ (land : Ground). Contains land.space.held_runs run ↔ Contains state.held.extents run)
            (sym turned.land) (keeps.keeps.held_runs run);
      }

      recorded_now : IsRecorded state fs.refs.held
      recorded_now = subst (λ (refs : TreeRefs). IsRecorded state refs.held) (sym turned.refs) keeps.recorded

      reserved_now : 0 < old.pending → commit_room_of (record old { fs = fs }) ≤ free_slots fs.land.space
      reserved_now =
          subst (λ (land : Ground). 0 < old.pending → commit_room_of (record old { fs = fs }) ≤ free_slots land.space)
          (sym turned.land)
          (subst (λ (refs : TreeRefs). 0 < old.pending
          → commit_room_of (record old { fs = record fs { refs = refs } }) ≤ free_slots old.fs.land.space)
          (sym turned.refs) keeps.reserved)

      idle_now : old.pending ≡ 0 → names ≡ other_names state
          → fs.land.blocks.draft ≡ nothing_fresh fs.land.blocks.draft.sizes
      idle_now =
          subst (λ (land : Ground). old.pending ≡ 0 → names ≡ other_names state
          → land.blocks.draft ≡ nothing_fresh land.blocks.draft.sizes) (sym turned.land) keeps.idle

      pub keeps-turned : IsKeptWith (record old { fs = fs }) state history names
      keeps-turned = record {
        files = mine_now.files;
        mine = mine_now;
        keeps = state_now;
        short = keeps.short;
        snapshots = keeps.snapshots;
        quota = keeps.quota;
        holds = keeps.holds;
        pending = keeps.pending;
        recorded = recorded_now;
        others = keeps.others;
        reserved = reserved_now;
        reserve = keeps.reserve;
        idle = idle_now;
      }

-- ---- where a tree was asked for, and perhaps came to hand

-- a number that is found is that of a tree
pub tree-of-key : (kept : OpenImage) → IsFitted kept → (number : ℕ) → has_key number kept.snapshots ≡ true
    → (tree : Root) × Contains (trees_of kept.fs) tree × (tree.owner ≡ number)
tree-of-key kept fits number is =
    from-mapped (λ (tree : Root). tree.owner) (trees_of kept.fs) number
    (contained (map (λ (tree : Root). tree.owner) (trees_of kept.fs)) (keys_of kept.snapshots) number fits.trees
    (key-listed number kept.snapshots is))

module _ (old : OpenImage) (fs : FsTree) (number : ℕ) (found : Bool) (fits : IsFitted old)
    (turned : found ≡ true → IsTurned old.fs fs number) (left : found ≡ false → fs ≡ old.fs)
    (numbers : AreNumbered old.fs → AreNumbered fs) where
  pub asked-there : ((tree : Root) → Contains (trees_of old.fs) tree → tree.owner ≡ number → found ≡ true)
      → found ≡ has_key number old.snapshots
  asked-there there = elim (cases_Bool found) [
    | inl is_so ↦ is_so ∙ sym (turned-listed old fs number fits (turned is_so) (numbers fits.numbered))
    | inr not_so ↦ elim (cases_Bool (has_key number old.snapshots)) [
      | inl listed ↦
          let tree = tree-of-key old fits number listed in
          absurd (true≢false (sym (there tree.0 tree.1 tree.2) ∙ not_so))
      | inr none ↦ not_so ∙ sym none
    ]
  ]

  pub asked-same : SameButClean old (record old { fs = fs })
  asked-same = elim (cases_Bool found) [
    | inl is_so ↦ same-turned old fs number fits (turned is_so) (numbers fits.numbered)
    | inr not_so ↦ subst (λ (f : FsTree). SameButClean old (record old { fs = f })) (sym (left not_so)) (same-refl old)
  ]

  pub asked-kept : (history : History) (bytes : ℕ) → IsKept old history bytes
      → IsKept (record old { fs = fs }) history bytes
  asked-kept history bytes kept = elim (cases_Bool found) [
    | inl is_so ↦ kept-turned old fs number fits (turned is_so) (numbers fits.numbered) history bytes kept
    | inr not_so ↦ subst (λ (f : FsTree). IsKept (record old { fs = f }) history bytes) (sym (left not_so)) kept
  ]

  pub asked-keeps : (state : State) (history : History) (bytes : ℕ) (names : List Record)
      → (AreNumbered old.fs → found ≡ true → layout_in fs history ≡ layout_in old.fs history)
      → ((items : List Item) → IsSubvolume old.fs history bytes
      → Stands old.fs history items (filter_map name_told items) → found ≡ true
      → Stands fs history (items_in fs history fs.tree) (filter_map name_told (items_in fs history fs.tree)))
      → IsKept old history bytes → IsKeptWith old state history names
      → IsKeptWith (record old { fs = fs }) state history names
  asked-keeps state history bytes names layout stood kept keeps = elim (cases_Bool found) [
    | inl is_so ↦
        keeps-turned old history bytes state names kept keeps fs number (turned is_so) (numbers fits.numbered)
        (layout fits.numbered is_so)
        (stood (flat_map items_of_file keeps.files) (is-subvolume old history bytes kept) keeps.keeps.holds.stands
        is_so)
    | inr not_so ↦ subst (λ (f : FsTree). IsKeptWith (record old { fs = f }) state history names)
        (sym (left not_so)) keeps
  ]
