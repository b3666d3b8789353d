-- What is kept where a subvolume without files was made: it fits together, and is kept of the state that this leaves.
use Rattle.std.proofs.Common.{◌≡◌, ℕ, ◌+◌, ◌*◌, ◌<◌, ◌≤◌, true, List, [], ◌∷◌, ◌++◌, arith, length, Some, None}
use Rattle.std.proofs.Common.{refl, sym, ap, subst, ◌∙◌, inl, inr}
use Rattle.std.specs.Prelude.{◌⊎◌, not}
use Rattle.std.specs.List.{Contains}
use Rattle.std.specs.Option.{option_map}
use Rattle.std.proofs.lemmas.Bool.{cases_Bool}
use Rattle.std.proofs.lemmas.List.{length-append}
use Rattle.std.proofs.lemmas.List.Elements.{All-nil}
use Rattle.qg_device.specs.History.{History}
use Rattle.qg_num.specs.declared.answer.Answer.TheVariants.{Sub}
use Rattle.qg_num.specs.declared.command.Command.TheVariants.{SubCreate}
use Rattle.qg_super.specs.declared.superblock.Super.{Super}
use Rattle.qg_super.specs.Places.{capacity, total_bytes}
use Rattle.qg_super.specs.SuperText.{sizes_of}
use Rattle.qg_image.specs.declared.file.File.{File}
use Rattle.qg_image.specs.Table.{keys_of, value_at}
use Rattle.qg_image.specs.State.{Accepted, State, Subvolume, has_subvolume, next_generation, blank_subvolume}
use Rattle.qg_machine.specs.GroupChange.{new_group, with_group}
use Rattle.qg_machine.specs.Refusals.{number_to_come}
use Rattle.qg_machine.specs.Step.{CreatesSubvolume, empty_leaf}
use Rattle.qg_reach.proofs.Layouts.{value_at-with_same}
use Rattle.qg_blocks.specs.NodesFound.{IsBacked}
use Rattle.qg_qgroups.specs.Changing.{groups_in}
use Rattle.qg_qgroups.specs.Tracked.{quota_of}
use Rattle.qg_space.specs.Holding.{free_slots}
use Rattle.qg_node_alloc.specs.declared.ground.Ground.{Ground}
use Rattle.qg_node_alloc.specs.Land.{IsDrafted}
use Rattle.qg_node_alloc.specs.Calls.{LeavesBe}
use Rattle.qg_refs.specs.declared.kept.What.{What}
use Rattle.qg_refs.specs.Book.{what_in}
use Rattle.qg_extents.specs.Table.{IsTable, book_of}
use Rattle.qg_weighed.specs.Weight.{weight_of}
use Rattle.qg_tree_read.specs.Tree.{Root}
use Rattle.qg_open_image.specs.Heavier.{BookGetsHeavier, node_bytes}
use Rattle.qg_open_image.proofs.TreeBackrefsSums.{held-heavier}
use Rattle.qg_open_image.specs.Types.{TreeRefs}
use Rattle.qg_open_image.specs.ForestStanding.{HoldsState, tree_of}
use Rattle.qg_open_image.proofs.ForestRoots.{root_of-value}
use Rattle.qg_open_image.specs.Standing.{nodes_of}
use Rattle.qg_open_image.proofs.Lists.{has-mapped}
use Rattle.qg_open_image.specs.FsLawsCommitting.{AreShortPieces}
use Rattle.qg_open_image.specs.FsLawsKeeping.{other_names}
use Rattle.qg_open_image.specs.declared.open_image.OpenImage.{OpenImage}
use Rattle.qg_open_image.specs.declared.open_image.KeptSubvolume.{KeptSubvolume}
use Rattle.qg_open_image.specs.Keeping.{HoldsPending, IsFitted, IsKept, IsKeptOf, IsKeptWith, book_weight, quota_weight}
use Rattle.qg_open_image.specs.Keeping.{root_weight, kept_at}
use Rattle.qg_image_changes.specs.Changing.{HasRoom, IsChanged, number_next, too_many_refusal}
use Rattle.qg_image_changes.proofs.Added.{IsAdded, fitted-added, greater}
use Rattle.qg_image_changes.proofs.Created.{adds-created, at-leaf, empty-files, keeps-added, young-added}
use Rattle.qg_open_image.proofs.Reserve.{large}
use Rattle.qg_image_changes.proofs.GroupAdded.{AddsGroup, holds-still, room-grown, weighs-more}
use Rattle.qg_open_image.proofs.Known.{sub-known}
use Rattle.qg_image_changes.proofs.Numbered.{next-greater, next-some}
use Rattle.qg_image_changes.proofs.HowMany.{number-told}
use Rattle.qg_open_image.proofs.Stepped.{keys-kept}
use Rattle.qg_open_image.proofs.Tables.{key-listed}
use Rattle.qg_image_changes.proofs.Trees.{held-for}

-- the number that comes next is no subvolume's
pub number-new : (kept : OpenImage) (state : State) (history : History) (sub : ℕ) → IsFitted kept
    → IsKeptOf kept state history → sub ≡ number_next kept → not (has_subvolume state sub) ≡ true
number-new kept state history sub fits keeps comes = elim (cases_Bool (has_subvolume state sub)) [
  | inl there ↦
      let has = key-listed sub kept.snapshots (sym (sub-known kept state history keeps sub) ∙ there) in
      let less = next-greater (keys_of kept.snapshots) (groups_in (quota_of kept.quota)) sub has in
      absurd (omega (arith, less, comes))
  | inr none ↦ ap not none
]

-- `land` and `book` are what making the leaf left; then the book stands for the tree at hand again, and the tree, its
-- snapshot and, while quota is on, its group were put in
module _ (old new : OpenImage) (land : Ground) (book : TreeRefs) (before after : History) (bytes left sub : ℕ)
    (tree : Root) (fits : IsKept old before bytes) (comes : sub ≡ number_next old)
    (few : too_many_refusal old 0 ≡ None) (rests : LeavesBe old.fs.land land before after bytes left old.fs.tree.next)
    (tree_is : tree ≡ record { address = tree.address; height = 0; owner = sub; next = old.fs.tree.next })
    (others : new.fs.others.items ≡ old.fs.others.items ++ tree ∷ [])
    (snapshots : new.snapshots ≡ old.snapshots ++ (tree.owner, kept_at 0) ∷ [])
    (quota : quota_of new.quota ≡ option_map (with_group sub (new_group old.fs.tree.next)) (quota_of old.quota))
    (groups : AddsGroup old new sub 0)
    (rest : new ≡ record old {
      fs = record old.fs { others = new.fs.others; land = land; refs = record book { tree = old.fs.tree.owner } };
      snapshots = new.snapshots;
      quota = new.quota;
    }) where
  owner : tree.owner ≡ sub
  owner = ap (λ (t : Root). t.owner) tree_is

  superblock : new.superblock ≡ old.superblock
  superblock = ap (λ (k : OpenImage). k.superblock) rest

  pending : new.pending ≡ old.pending
  pending = ap (λ (k : OpenImage). k.pending) rest

  abbrev added : IsAdded old new 0 sub 0 tree
  added = record {
    superblock = superblock;
    hand = ap (λ (k : OpenImage). k.fs.tree) rest;
    others = others;
    owner = owner;
    next = ap (λ (t : Root). t.next) tree_is;
    earlier = old.snapshots;
    keys = refl;
    copied = fits.fitted.subvolumes.copied;
    snapshots = snapshots ∙ ap (λ (n : ℕ). old.snapshots ++ (n, kept_at 0) ∷ []) owner;
    dated = omega arith;
    groups = groups;
    pending = pending;
    sizes = ap (λ (k : OpenImage). k.fs.land.space.sizes) rest ∙ rests.rests.sizes;
    drafted = subst (λ (k : OpenImage). IsDrafted k.fs.land old.fs.tree.next) (sym rest) rests.rests.drafted;
  }

  pub kept-created : IsKept new after left
  kept-created = record {
    fitted = fitted-added old new 0 sub 0 tree fits.fitted comes few added;
    backed = subst (λ (k : OpenImage). IsBacked k.fs.land.blocks after) (sym rest) rests.rests.backed;
    long = subst (λ (s : Super). total_bytes (sizes_of s) ≤ left) (sym superblock)
        (subst (λ (n : ℕ). total_bytes (sizes_of old.superblock) ≤ n) (sym rests.size) fits.long);
  }

  -- ---- of a state

  module _ (state next : State) (keeps : IsKeptOf old state before) (none : old.pending ≡ 0) (room : HasRoom old 18)
      (table : IsTable old.fs.refs.refs) (table_book : IsTable book.refs)
      (creates : CreatesSubvolume state sub next) (held : HoldsState land after book next)
      (is : tree ≡ tree_of next sub)
      (heavier : BookGetsHeavier (record old.fs.refs { tree = sub }) book node_bytes)
      (slots : free_slots old.fs.land.space ≤ 1 + free_slots land.space)
      (known : (at : ℕ) (what : What) → what_in (book_of book.refs at) ≡ Some what
      → (what_in (book_of old.fs.refs.refs at) ≡ Some what) ⊎ (what.generation ≡ old.fs.tree.next)) where
    -- over the disk as it was
    held_then : HoldsState new.fs.land before new.fs.refs next
    held_then =
        subst (λ (k : OpenImage). HoldsState k.fs.land before k.fs.refs next) (sym rest)
        (held-for land before book next old.fs.tree.owner
        (subst (λ (h : History). HoldsState land h book next) rests.history held))

    kept_then : IsKept new before bytes
    kept_then =
        subst (λ (h : History). IsKept new h bytes) rests.history
        (subst (λ (n : ℕ). IsKept new after n) rests.size kept-created)

    less : (entry : ℕ × Subvolume) → Contains state.subvolumes entry → entry.0 < sub
    less entry has =
        greater old new 0 sub 0 tree fits.fitted comes few added entry.0
        (subst (λ (keys : List ℕ). Contains keys entry.0)
        (keys-kept old state before (other_names state) fits.fitted keeps)
        (has-mapped (λ (e : ℕ × Subvolume). e.0) state.subvolumes entry has))

    large_number : 255 < sub
    large_number =
        let some = next-some (keys_of old.snapshots) (groups_in (quota_of old.quota)) in
        omega (arith, some, comes)

    place : tree.address ≡ creates.address
    place =
        ap (λ (t : Root). t.address) is
        ∙ root_of-value next sub (blank_subvolume creates.address)
        (ap (λ (s : State). value_at sub s.subvolumes) creates.created
        ∙ value_at-with_same sub (blank_subvolume creates.address) state.subvolumes)

    -- the leaf is told where it lies
    told_leaf : nodes_of new.fs before tree.address ≡ Some (empty_leaf (next_generation state) sub tree.address).node
    told_leaf =
        let leaf = empty_leaf (next_generation state) sub creates.address in
        let there : value_at creates.address next.layout ≡ Some leaf =
        ap (λ (s : State). value_at creates.address s.layout) creates.created
        ∙ value_at-with_same creates.address leaf state.layout in
        ap (nodes_of new.fs before) place ∙ (held_then.nodes creates.address leaf there).told
        ∙ ap (λ (at : ℕ). Some (empty_leaf (next_generation state) sub at).node) (sym place)

    low : tree.height ≡ 0
    low = ap (λ (t : Root). t.height) tree_is

    refs_are : new.fs.refs ≡ record book { tree = old.fs.tree.owner }
    refs_are = ap (λ (k : OpenImage). k.fs.refs) rest

    known_then : (at : ℕ) (what : What) → what_in (book_of new.fs.refs.refs at) ≡ Some what
        → (what_in (book_of old.fs.refs.refs at) ≡ Some what) ⊎ (what.generation ≡ old.fs.tree.next)
    known_then at what there =
        known at what (sym (ap (λ (r : TreeRefs). what_in (book_of r.refs at)) refs_are) ∙ there)

    table_new : IsTable new.fs.refs.refs
    table_new = subst IsTable (sym (ap (λ (r : TreeRefs). r.refs) refs_are)) table_book

    weight : book_weight new ≤ book_weight old + node_bytes
    weight =
        let heavy = held-heavier (record old.fs.refs { tree = sub }) book node_bytes heavier in
        let same = ap (λ (r : TreeRefs). weight_of r.held r.refs) refs_are in
        omega (arith, heavy, same)

    many : length new.snapshots ≤ length old.snapshots + 1
    many =
        let all = ap (λ (t : List (ℕ × KeptSubvolume)). length t) snapshots in
        let parts = length-append old.snapshots ((tree.owner, kept_at 0) ∷ []) in
        omega (arith, all, parts)

    weighs : root_weight new + quota_weight new ≤ root_weight old + quota_weight old + (594 + 50 * 0)
    weighs =
        weighs-more old.fs.tree.next sub 0 (length old.snapshots) (length new.snapshots) (quota_of old.quota)
        (quota_of new.quota) many groups.quota

    -- the machine's group is the one that is kept
    quota_now : next.quota ≡ quota_of new.quota
    quota_now =
        ap (λ (s : State). s.quota) creates.created
        ∙ (λ i. option_map (with_group sub (new_group (keeps.keeps.laid.generation i))) (keeps.quota i))
        ∙ sym quota

    none_pending : length next.pending ≡ 0
    none_pending =
        ap (λ (s : State). length s.pending) creates.created ∙ keeps.pending ∙ none

    holds_now : HoldsPending new next.pending
    holds_now =
        holds-still old new next.pending none_pending groups.held
        (subst (λ (list : List Accepted). HoldsPending old list) (sym (ap (λ (s : State). s.pending) creates.created))
        keeps.holds)

    space_same : free_slots new.fs.land.space ≡ free_slots land.space
    space_same = ap (λ (k : OpenImage). free_slots k.fs.land.space) rest

    pub changed-created : IsChanged state SubCreate (Sub sub) new after
    changed-created =
        let number : sub ≡ number_to_come state = comes ∙ sym (number-told old state before fits.fitted keeps) in
        let young = young-added old new before bytes state next sub tree fits keeps none table kept_then
        (blank_subvolume creates.address) (empty_leaf (next_generation state) sub creates.address)
        (adds-created state next sub creates) refl refl held_then is
        (λ at reached. inl (at-leaf new.fs before tree at low reached ∙ place)) added.hand others known_then in
        let empty = empty-files new.fs before tree (next_generation state) sub low told_leaf in
        let keeps_now = keeps-added old new before bytes state next sub tree fits keeps none kept_then table_new less
        large_number (blank_subvolume creates.address) (empty_leaf (next_generation state) sub creates.address)
        (adds-created state next sub creates) held_then (All-nil (λ (file : ℕ × File). AreShortPieces file.1.pieces))
        empty
        young is added.hand others
        (ap (λ (r : TreeRefs). r.tree) refs_are)
        (ap (λ (r : TreeRefs). r.held) refs_are ∙ heavier.held)
        added.snapshots quota_now holds_now pending in
        record {
          changed = next;
          changes = (ap (λ (n : ℕ). Sub n) number, subst (λ (n : ℕ). CreatesSubvolume state n next) number creates);
          keeps = subst (λ (h : History). IsKeptWith new next h (other_names state)) (sym rests.history)
              keeps_now;
          room =
              let wide = large old fits.fitted in
              let few_bytes : node_bytes + (594 + 50 * 0) ≤ 1 * capacity old.superblock.nodesize =
              omega (arith, wide) in
              room-grown old new 18 1 1 node_bytes (594 + 50 * 0) fits.fitted room superblock weight
              weighs few_bytes (let same = space_same in omega (arith, slots, same)) (omega arith);
        }
