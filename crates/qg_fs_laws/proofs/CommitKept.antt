-- Trees that a commit has written are kept of the state that the commit leaves.
use Rattle.std.proofs.Common.{◌≡◌, ℕ, ◌+◌, ◌≤◌, true, List, ◌++◌, map, Option, Some, None, refl, sym}
use Rattle.std.proofs.Common.{ap, subst, ◌∙◌, arith, ◌⊎◌, inl, inr}
use Rattle.std.specs.Prelude.{◌↔◌, is_some}
use Rattle.std.specs.List.{All, Contains, flat_map}
use Rattle.std.specs.List.Sorted.{IsPermutation}
use Rattle.std.proofs.lemmas.List.Elements.{All-weaker, Contains-append_cases, Contains-append_left}
use Rattle.std.proofs.lemmas.List.Elements.{Contains-append_right}
use Rattle.std.proofs.lemmas.List.Sorted.{Contains-permutation, IsPermutation-sym}
use Rattle.qg_device.specs.History.{Event, History, Recorded}
use Rattle.qg_num.specs.declared.counters.Counters.{Counters}
use Rattle.qg_num.specs.declared.piece.Piece.{Piece}
use Rattle.qg_node.specs.declared.node.Node.{Node}
use Rattle.qg_node.specs.Nodes.{header_of}
use Rattle.qg_items.specs.declared.root.RootItem.{RootItem}
use Rattle.qg_super.specs.declared.sizes.Sizes.{Sizes}
use Rattle.qg_super.specs.Places.{is_slot}
use Rattle.qg_image.specs.declared.file.File.{File}
use Rattle.qg_image.specs.Table.{keys_of, value_at}
use Rattle.qg_image.specs.declared.element.Element.{Element}
use Rattle.qg_image.specs.declared.quota.Quota.{Quota}
use Rattle.qg_image.specs.Record.{Record}
use Rattle.qg_image.specs.Space.{present_extents}
use Rattle.qg_image.specs.State.{Placed, State, Subvolume}
use Rattle.qg_image.proofs.Contained.{contains_later}
use Rattle.qg_image.specs.ImageState.{addresses_of}
use Rattle.qg_tree_items.specs.Writable.{IsFileBy}
use Rattle.qg_root_items.specs.Written.{items_of_file}
use Rattle.qg_owner_rule.proofs.Reaching.{entry_of_value, value_of_entry}
use Rattle.qg_space.proofs.Members.{Contains-has_slot}
use Rattle.qg_tree_read.specs.Tree.{Root}
use Rattle.qg_file_edits.specs.Named.{named}
use Rattle.qg_refs.specs.declared.kept.Kept.{Kept}
use Rattle.qg_file_edits.specs.Types.{TreeRefs}
use Rattle.qg_weighed.specs.Laws.{IsRecorded}
use Rattle.qg_file_edits.specs.Types.{FsTree}
use Rattle.qg_file_edits.proofs.Lists.{from-mapped, has-mapped}
use Rattle.qg_file_edits.specs.Laying.{IsLaidOut}
use Rattle.qg_file_edits.specs.Files.{HasFiles, HoldsFiles}
use Rattle.qg_commit_trees.specs.Committing.{IsCommitted, StandsStill, for_generation}
use Rattle.qg_commit.specs.Types.{OtherTrees}
use Rattle.qg_commit.specs.Sound.{committed}
use Rattle.qg_commit.specs.Telling.{AreToldBy}
use Rattle.qg_commit.specs.Trees.{nodes_laid}
use Rattle.qg_fs_laws.specs.Keeping.{IsKept, KeepsState, NamesOthers, OthersHaveFiles, quota_laid}
use Rattle.qg_fs_laws.proofs.Kept.{slot-laid, taken-told, whole}
use Rattle.qg_fs_laws.proofs.Runs.{runs-told}
use Rattle.qg_fs_laws.specs.Committing.{KeepsCommit, LaysTree}
use Rattle.qg_fs_laws.proofs.OtherNames.{names-are, names-others, same-recorded}

later_file : (generation : ℕ) (file : ℕ × File) → IsFileBy generation file → IsFileBy (generation + 1) file
later_file generation file by = record {
  made = let made = by.made in omega (arith, made);
  changed = let changed = by.changed in omega (arith, changed);
  stamped = All-weaker (λ (piece : Piece). piece.stamp ≤ generation) (λ (piece : Piece). piece.stamp ≤ generation + 1)
      (λ piece early. omega (arith, early)) file.1.pieces by.stamped;
}

-- a key that is there is among the keys
key_in : {A : Type 0} (n : ℕ) (table : List (ℕ × A)) (o : Option A) → value_at n table ≡ o → is_some o ≡ true
    → Contains (keys_of table) n
key_in n table None is some = let wrong : Option ℕ = None in absurd cc
key_in {A} n table (Some value) is some =
    has-mapped (λ (entry : ℕ × A). entry.0) table (n, value) (entry_of_value n value table is)

-- ---- slots

-- the slots of the present state are the addresses of its layout
module _ (fs : FsTree) (history : History) (bytes : ℕ) (state : State) (mine : Subvolume)
    (files : List (ℕ × File)) (kept : IsKept fs history bytes) (keeps : KeepsState fs history state mine files)
    (slots : (slot : ℕ) → Contains fs.land.space.slots slot → is_slot fs.land.space.sizes slot ≡ true) where
  slots_laid : (slot : ℕ) → Contains fs.land.space.slots slot ↔ Contains (keys_of state.layout) slot
  slots_laid slot = (into, back) where
    into : Contains fs.land.space.slots slot → Contains (keys_of state.layout) slot
    into has =
        let taken = (Contains-has_slot fs.land.space slot).1 has in
        let there = sym (taken-told fs history bytes state mine files kept keeps slot (slots slot has)) ∙ taken in
        key_in slot state.layout (value_at slot state.layout) refl there

    back : Contains (keys_of state.layout) slot → Contains fs.land.space.slots slot
    back has =
        let entry = from-mapped (λ (e : ℕ × Placed). e.0) state.layout slot has in
        let is = ap (λ (sizes : Sizes). is_slot sizes entry.0.0) (sym keeps.laid.sizes)
        ∙ slot-laid fs history bytes state mine files kept keeps entry.0 entry.1 in
        let value = value_of_entry state.layout entry.0
        (whole fs history bytes state mine files kept keeps).ascending entry.1 in
        let taken = taken-told fs history bytes state mine files kept keeps entry.0.0 is
        ∙ ap (λ (o : Option Placed). is_some o) value in
        subst (λ (q : ℕ). Contains fs.land.space.slots q) entry.2
        ((Contains-has_slot fs.land.space entry.0.0).0 taken)

-- addresses of nodes in another order
addresses_into : (nodes others : List Node) → IsPermutation nodes others → (slot : ℕ)
    → Contains (addresses_of nodes) slot → Contains (addresses_of others) slot
addresses_into nodes others moved slot has =
    let node = from-mapped (λ (n : Node). (header_of n).address) nodes slot has in
    subst (λ (q : ℕ). Contains (addresses_of others) q) node.2
    (has-mapped (λ (n : Node). (header_of n).address) others node.0
    (Contains-permutation nodes others node.0 moved node.1))

-- ---- the trees

module _ (old new : FsTree) (events later : List Event) (bytes : ℕ) (state : State) (mine : Subvolume)
    (files : List (ℕ × File)) (roots : List (ℕ × RootItem)) (counters : ℕ → Counters) (slots : List ℕ)
    (trees : OtherTrees) (others : List Node)
    (lays : LaysTree old events bytes state mine files roots counters slots trees)
    (told : AreToldBy (committed others state (quota_laid old.tree.next counters state.quota)) slots trees others)
    (becomes : IsCommitted old new (map (λ node. (header_of node).address) (nodes_laid trees)))
    (still : StandsStill old new (Recorded events) (Recorded later) (flat_map items_of_file files) (named files)) where
  abbrev quota_now : Option Quota
  quota_now = quota_laid old.tree.next counters state.quota

  abbrev after : State
  after = committed others state quota_now

  next_is : new.tree.next ≡ old.tree.next + 1
  next_is = ap (λ (tree : Root). tree.next) becomes.tree

  owner_is : new.tree.owner ≡ old.tree.owner
  owner_is = ap (λ (tree : Root). tree.owner) becomes.tree

  book_is : new.refs.held ≡ old.refs.refs
  book_is = ap (λ (refs : TreeRefs). refs.held) becomes.refs

  by_then : (its : List (ℕ × File)) → All (IsFileBy old.tree.next) its → All (IsFileBy new.tree.next) its
  by_then its by = subst (λ (n : ℕ). All (IsFileBy n) its) (sym next_is)
      (All-weaker (IsFileBy old.tree.next) (IsFileBy (old.tree.next + 1)) (later_file old.tree.next) its by)

  holds : HoldsFiles new (Recorded later) files
  holds = record {
    stands = still.stands;
    writable = lays.keeps.holds.writable;
    by = by_then files lays.keeps.holds.by;
  }

  -- another tree has the files that it had
  has_still : (was : Root) (subvolume : Subvolume) → Contains old.others.items was
      → value_at was.owner state.subvolumes ≡ Some subvolume
      → HasFiles new (Recorded later) (for_generation (old.tree.next + 1) was) subvolume.files
  has_still was subvolume among there =
      let has = lays.keeps.have was subvolume among there in
      record {
        items = still.each was (contains_later old.tree old.others.items was among) ∙ has.items;
        writable = has.writable;
        by = by_then subvolume.files has.by;
      }

  have : OthersHaveFiles after new (Recorded later)
  have tree subvolume among there =
      let among_old = subst (λ (list : List Root). Contains list tree) becomes.others among in
      let was = from-mapped (for_generation (old.tree.next + 1)) old.others.items tree among_old in
      let listed = ap (λ (t : Root). value_at t.owner state.subvolumes) was.2 ∙ there in
      subst (λ (t : Root). HasFiles new (Recorded later) t subvolume.files) was.2
      (has_still was.0 subvolume was.1 listed)

  laid_out : IsLaidOut after new (Recorded later)
  laid_out = record {
    sizes = lays.keeps.laid.sizes ∙ sym becomes.sizes;
    generation = ap (λ (n : ℕ). n + 1) lays.keeps.laid.generation ∙ sym next_is;
    layout = lays.keeps.laid.layout ∙ sym still.layout;
  }

  -- ---- what the commit holds

  held_slots : (slot : ℕ) → Contains new.land.space.held_slots slot ↔ Contains after.held.nodes slot
  held_slots slot = (into, back) where
    present : Contains old.land.space.slots slot ↔ Contains (keys_of state.layout) slot
    present = slots_laid old (Recorded events) bytes state mine files lays.kept lays.keeps lays.order.slots slot

    placed : Contains old.land.space.slots slot ⊎ Contains (addresses_of (nodes_laid trees)) slot
        → Contains (addresses_of others ++ keys_of state.layout) slot
    placed (inl own) =
        Contains-append_right (addresses_of others) (keys_of state.layout) slot (present.0 own)
    placed (inr other) =
        Contains-append_left (addresses_of others) (keys_of state.layout) slot
        (addresses_into (nodes_laid trees) others (IsPermutation-sym others (nodes_laid trees) told.moved) slot other)

    into : Contains new.land.space.held_slots slot → Contains (addresses_of others ++ keys_of state.layout) slot
    into has = placed ((becomes.held_slots slot).0 has)

    back : Contains (addresses_of others ++ keys_of state.layout) slot → Contains new.land.space.held_slots slot
    back has = elim (Contains-append_cases (addresses_of others) (keys_of state.layout) slot has) [
      | inl other ↦
          (becomes.held_slots slot).1 (inr (addresses_into others (nodes_laid trees) told.moved slot other))
      | inr own ↦ (becomes.held_slots slot).1 (inl (present.1 own))
    ]

  extents_now : after.held.extents ≡ present_extents state
  unfolding present_extents
  extents_now = refl

  held_runs : (run : Element) → Contains new.land.space.held_runs run ↔ Contains after.held.extents run
  held_runs run =
      let same = runs-told old (Recorded events) bytes state mine files lays.kept lays.keeps run in (
        λ has.
            subst (λ (extents : List Element). Contains extents run) (sym extents_now)
            (same.0 (subst (λ (runs : List Element). Contains runs run) becomes.held_runs has)),
        λ has.
            subst (λ (runs : List Element). Contains runs run) (sym becomes.held_runs)
            (same.1 (subst (λ (extents : List Element). Contains extents run) extents_now has)),
      )

  recorded : IsRecorded after new.refs.held
  recorded = subst (λ (held : List (ℕ × Kept)). IsRecorded after held) (sym book_is)
      (same-recorded old.land.space.sizes old.tree.next roots old.refs.refs quota_now slots trees lays.laid.laid others
      told.moved after lays.kept.table refl)

  pub commit-kept : KeepsCommit new (Recorded later) after mine files
  commit-kept = record {
    keeps = record {
      there = ap (λ (n : ℕ). value_at n state.subvolumes) owner_is ∙ lays.keeps.there;
      are = lays.keeps.are;
      holds = holds;
      have = have;
      laid = laid_out;
      held_slots = held_slots;
      held_runs = held_runs;
    };
    recorded = recorded;
    others = subst (λ (names : List Record). NamesOthers after.held names) (sym (names-are after))
        (names-others old.land.space.sizes old.tree.next roots old.refs.refs quota_now slots trees lays.laid.laid
        others told.moved after.held (keys_of state.subvolumes) refl lays.roots_are.numbers);
  }
