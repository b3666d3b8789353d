-- What is kept where a snapshot of the subvolume at hand was made: it fits together, and is kept of the state that this
-- leaves.
use Rattle.std.proofs.Common.{◌≡◌, ℕ, ◌+◌, ◌*◌, ◌<◌, ◌≤◌, List, [], ◌∷◌, ◌++◌, arith, length, Option, Some, None, refl}
use Rattle.std.proofs.Common.{sym, ap, subst, ◌∙◌, inl, inr}
use Rattle.std.specs.Prelude.{◌⊎◌}
use Rattle.std.specs.List.{Contains}
use Rattle.std.proofs.lemmas.List.{length-append}
use Rattle.std.specs.Option.{option_map}
use Rattle.std.proofs.lemmas.Option.{same_Some}
use Rattle.qg_node.specs.declared.node.Node.{Node}
use Rattle.qg_node.specs.declared.node.Node.TheVariants.{Inner, Leaf}
use Rattle.qg_node.specs.Nodes.{header_of}
use Rattle.qg_open_image.specs.Files.{HasFiles}
use Rattle.qg_device.specs.History.{History}
use Rattle.qg_num.specs.declared.answer.Answer.TheVariants.{Sub}
use Rattle.qg_num.specs.declared.command.Command.TheVariants.{Snap}
use Rattle.qg_super.specs.declared.sizes.Sizes.{Sizes}
use Rattle.qg_super.specs.declared.superblock.Super.{Super}
use Rattle.qg_super.specs.Places.{capacity, total_bytes}
use Rattle.qg_super.specs.SuperText.{sizes_of}
use Rattle.qg_image.specs.Table.{keys_of, value_at, with_value}
use Rattle.qg_image.specs.Record.{Record}
use Rattle.qg_image.specs.State.{Accepted, Placed, State, Subvolume, next_generation}
use Rattle.qg_machine.specs.GroupChange.{inherited}
use Rattle.qg_machine.specs.Refusals.{number_to_come}
use Rattle.qg_machine.specs.Step.{Snapshots, copy_of, subvolume_copy}
use Rattle.qg_reach.proofs.Layouts.{value_at-with_same}
use Rattle.qg_blocks.specs.NodesFound.{IsBacked}
use Rattle.qg_qgroups.specs.Changing.{groups_in}
use Rattle.qg_qgroups.specs.Tracked.{quota_of}
use Rattle.qg_space.specs.Holding.{free_slots}
use Rattle.qg_node_alloc.specs.declared.ground.Ground.{Ground}
use Rattle.qg_node_alloc.specs.Land.{IsDrafted}
use Rattle.qg_node_alloc.specs.Calls.{LeavesBe}
use Rattle.qg_refs.specs.declared.kept.What.{What}
use Rattle.qg_refs.specs.Book.{what_in}
use Rattle.qg_extents.specs.Table.{IsTable, book_of}
use Rattle.qg_weighed.specs.Weight.{weight_of}
use Rattle.qg_tree_read.specs.Tree.{Reaches, Root}
use Rattle.qg_open_image.specs.Heavier.{BookGetsHeavier, node_bytes}
use Rattle.qg_open_image.proofs.TreeBackrefsSums.{held-heavier}
use Rattle.qg_open_image.specs.Types.{TreeRefs}
use Rattle.qg_open_image.specs.ForestStanding.{HoldsState, tree_of}
use Rattle.qg_open_image.proofs.ForestRoots.{root_of-value}
use Rattle.qg_open_image.specs.Standing.{IsReachedBy, nodes_of}
use Rattle.qg_open_image.proofs.Lists.{has-mapped}
use Rattle.qg_open_image.specs.FsLawsKeeping.{AreYoung, other_names}
use Rattle.qg_open_image.specs.declared.open_image.OpenImage.{OpenImage}
use Rattle.qg_open_image.specs.declared.open_image.KeptSubvolume.{KeptSubvolume}
use Rattle.qg_open_image.specs.Keeping.{HoldsPending, IsKept, IsKeptOf, IsKeptWith, book_weight, quota_weight}
use Rattle.qg_open_image.specs.Keeping.{root_weight}
use Rattle.qg_open_image.specs.Keeping.{kept_at}
use Rattle.qg_image_changes.specs.Changing.{HasRoom, IsChanged, number_next, too_many_refusal}
use Rattle.qg_image_changes.proofs.Added.{IsAdded, fitted-added, greater, number-good}
use Rattle.qg_open_image.proofs.Changed.{short-files}
use Rattle.qg_open_image.proofs.Reserve.{large}
use Rattle.qg_image_changes.proofs.Created.{AddsSubvolume, keeps-added, young-added}
use Rattle.qg_image_changes.proofs.Grown.{files-grown, free-none, layout-grown, still-grown}
use Rattle.qg_image_changes.proofs.GroupAdded.{AddsGroup, holds-still, relations-room, room-grown, weighs-more}
use Rattle.qg_open_image.proofs.Looked.{hand-among}
use Rattle.qg_image_changes.proofs.Marked.{fitted-marked, keeps-marked, keys-marked, many-marked, marked, names_same}
use Rattle.qg_image_changes.proofs.Marked.{state_marked}
use Rattle.qg_image_changes.proofs.Numbered.{next-some}
use Rattle.qg_image_changes.proofs.HowMany.{number-told}
use Rattle.qg_image_changes.proofs.Snapped.{adds-snapped, copy-files, copy-reach, placed_copy, with_mark}
use Rattle.qg_open_image.proofs.Stepped.{keys-kept}
use Rattle.qg_open_image.proofs.Tables.{all-put}
use Rattle.qg_image_changes.proofs.Trees.{held-for}
use Rattle.qg_open_image.proofs.Turned.{tree-sub}

owner_copied : (generation copy address : ℕ) (root : Node)
    → (header_of (copy_of generation copy address root)).owner ≡ copy
owner_copied generation copy address (Leaf header items) = refl
owner_copied generation copy address (Inner header pointers) = refl

-- what is left, told by what was there before the source was marked
pub rest-snapped : (old mid new : OpenImage) (land : Ground) (book now : TreeRefs) (sub stamp : ℕ)
    → now ≡ record book { tree = sub } → old.fs.tree.owner ≡ sub
    → mid ≡ record old {
      fs = record old.fs { land = land; refs = now };
      snapshots = with_value sub (kept_at stamp) old.snapshots;
    }
    → new ≡ record mid {
      fs = record mid.fs { others = new.fs.others };
      snapshots = new.snapshots;
      quota = new.quota;
    }
    → new ≡ record old {
      fs = record old.fs { others = new.fs.others; land = land; refs = record book { tree = old.fs.tree.owner } };
      snapshots = new.snapshots;
      quota = new.quota;
    }
rest-snapped old mid new land book now sub stamp now_is hand mid_is is =
    is
    ∙ ap (λ (k : OpenImage). record k {
      fs = record k.fs { others = new.fs.others };
      snapshots = new.snapshots;
      quota = new.quota;
    }) mid_is
    ∙ ap (λ (r : TreeRefs). record old {
      fs = record old.fs { others = new.fs.others; land = land; refs = r };
      snapshots = new.snapshots;
      quota = new.quota;
    }) (now_is ∙ ap (λ (n : ℕ). record book { tree = n }) (sym hand))

module _ (old new : OpenImage) (land : Ground) (book : TreeRefs) (before after : History)
    (bytes left sub copy : ℕ) (parents : List ℕ) (tree : Root) (fits : IsKept old before bytes)
    (hand_is : old.fs.tree.owner ≡ sub) (comes : copy ≡ number_next old)
    (few : too_many_refusal old (length parents) ≡ None)
    (rests : LeavesBe old.fs.land land before after bytes left old.fs.tree.next)
    (tree_is : tree ≡ record old.fs.tree { address = tree.address; owner = copy })
    (others : new.fs.others.items ≡ old.fs.others.items ++ tree ∷ [])
    (snapshots : new.snapshots
    ≡ with_value old.fs.tree.owner (kept_at old.fs.tree.next) old.snapshots
    ++ (tree.owner, kept_at old.fs.tree.next) ∷ [])
    (quota : quota_of new.quota ≡ option_map (inherited old.fs.tree.next sub copy parents) (quota_of old.quota))
    (groups : AddsGroup old new copy (length parents))
    (rest : new ≡ record old {
      fs = record old.fs { others = new.fs.others; land = land; refs = record book { tree = old.fs.tree.owner } };
      snapshots = new.snapshots;
      quota = new.quota;
    }) where
  owner : tree.owner ≡ copy
  owner = ap (λ (t : Root). t.owner) tree_is

  superblock : new.superblock ≡ old.superblock
  superblock = ap (λ (k : OpenImage). k.superblock) rest

  -- what is kept, the source being marked
  abbrev source_marked : OpenImage
  source_marked = marked old old.fs.tree.next

  pending : new.pending ≡ old.pending
  pending = ap (λ (k : OpenImage). k.pending) rest

  abbrev added : IsAdded old new (length parents) copy old.fs.tree.next tree
  added = record {
    superblock = superblock;
    hand = ap (λ (k : OpenImage). k.fs.tree) rest;
    others = others;
    owner = owner;
    next = ap (λ (t : Root). t.next) tree_is;
    earlier = with_value old.fs.tree.owner (kept_at old.fs.tree.next) old.snapshots;
    keys = keys-marked old old.fs.tree.next fits.fitted (omega arith);
    copied = all-put (λ (e : ℕ × KeptSubvolume). e.1.last_snapshot ≤ old.fs.tree.next) old.fs.tree.owner
        (kept_at old.fs.tree.next) old.snapshots (omega arith) fits.fitted.subvolumes.copied;
    snapshots = snapshots ∙ ap (λ (n : ℕ). with_value old.fs.tree.owner (kept_at old.fs.tree.next) old.snapshots
        ++ (n, kept_at old.fs.tree.next) ∷ []) owner;
    dated = omega arith;
    groups = groups;
    pending = pending;
    sizes = ap (λ (k : OpenImage). k.fs.land.space.sizes) rest ∙ rests.rests.sizes;
    drafted = subst (λ (k : OpenImage). IsDrafted k.fs.land old.fs.tree.next) (sym rest) rests.rests.drafted;
  }

  pub kept-snapped : IsKept new after left
  kept-snapped = record {
    fitted = fitted-added old new (length parents) copy old.fs.tree.next tree fits.fitted comes few added;
    backed = subst (λ (k : OpenImage). IsBacked k.fs.land.blocks after) (sym rest) rests.rests.backed;
    long = subst (λ (s : Super). total_bytes (sizes_of s) ≤ left) (sym superblock)
        (subst (λ (n : ℕ). total_bytes (sizes_of old.superblock) ≤ n) (sym rests.size) fits.long);
  }

  marked_kept : IsKept source_marked before bytes
  marked_kept = record {
    fitted = fitted-marked old old.fs.tree.next fits.fitted (omega arith);
    backed = fits.backed;
    long = fits.long;
  }

  -- ---- of a state

  module _ (state next : State) (keeps : IsKeptOf old state before) (none : old.pending ≡ 0)
      (room : HasRoom old (18 + length parents)) (table : IsTable old.fs.refs.refs) (table_book : IsTable book.refs)
      (snap : Snapshots state sub parents copy next)
      (held : HoldsState land after book next) (is : tree ≡ tree_of next copy)
      (heavier : BookGetsHeavier (record old.fs.refs { tree = copy }) book
      (node_bytes + capacity old.fs.land.space.sizes.nodesize))
      (slots : free_slots old.fs.land.space ≤ 1 + free_slots land.space)
      (known : (at : ℕ) (what : What) → what_in (book_of book.refs at) ≡ Some what
      → (what_in (book_of old.fs.refs.refs at) ≡ Some what) ⊎ (what.generation ≡ old.fs.tree.next)) where
    abbrev state_then : State
    state_then = state_marked old old.fs.tree.next before bytes state fits keeps none

    marked_keeps : IsKeptOf source_marked state_then before
    marked_keeps = keeps-marked old old.fs.tree.next before bytes state fits keeps none

    -- over the disk as it was
    held_then : HoldsState new.fs.land before new.fs.refs next
    held_then =
        subst (λ (k : OpenImage). HoldsState k.fs.land before k.fs.refs next) (sym rest)
        (held-for land before book next old.fs.tree.owner
        (subst (λ (h : History). HoldsState land h book next) rests.history held))

    kept_then : IsKept new before bytes
    kept_then =
        subst (λ (h : History). IsKept new h bytes) rests.history
        (subst (λ (n : ℕ). IsKept new after n) rests.size kept-snapped)

    refs_are : new.fs.refs ≡ record book { tree = old.fs.tree.owner }
    refs_are = ap (λ (k : OpenImage). k.fs.refs) rest

    -- ---- the source, and the root of the copy

    abbrev made : Subvolume
    made = subvolume_copy (next_generation state) snap.source snap.address

    abbrev placed : Placed
    placed = placed_copy state copy snap.address snap.root

    come : next_generation state ≡ old.fs.tree.next
    come = keeps.keeps.laid.generation

    source_is : snap.source ≡ keeps.mine
    source_is =
        same_Some snap.source keeps.mine
        (sym snap.there ∙ ap (λ (n : ℕ). value_at n state.subvolumes) (sym hand_is) ∙ keeps.keeps.there)

    state_is : with_mark state sub snap.source ≡ state_then
    state_is = λ i. let now : State = record state {
      subvolumes = with_value (sym hand_is i) (record (source_is i) { last_snapshot = come i }) state.subvolumes;
    } in now

    adds : AddsSubvolume state_then next copy made placed
    adds =
        subst (λ (s : State). AddsSubvolume s next copy made placed) state_is
        (adds-snapped state next sub copy parents snap)

    grown : (q : ℕ) (other : Placed) → value_at q state.layout ≡ Some other → value_at q next.layout ≡ Some other
    grown q other there =
        ap (λ (layout : List (ℕ × Placed)). value_at q layout) adds.layout
        ∙ layout-grown state.layout snap.address placed (free-none state snap.address snap.free) q other there

    come_next : next_generation next ≡ next_generation state
    come_next = ap (λ (n : ℕ). n + 1) adds.generation

    next_same : new.fs.tree.next ≡ old.fs.tree.next
    next_same = ap (λ (t : Root). t.next) added.hand

    node_found : (o : Option Placed) (root : Node) → option_map (λ (p : Placed). p.node) o ≡ Some root
        → (p : Placed) × (o ≡ Some p) × (p.node ≡ root)
    node_found None root is = let wrong : ◌≡◌ {A = Option Node} None (Some root) = is in absurd cc
    node_found (Some p) root is = (p, refl, same_Some p.node root is)

    root_place : snap.source.root ≡ old.fs.tree.address
    root_place =
        let its = tree-sub old before bytes state (other_names state) fits keeps old.fs.tree (hand-among old.fs) in
        let same = same_Some its.0 keeps.mine (sym its.1 ∙ keeps.keeps.there) in
        ap (λ (m : Subvolume). m.root) (source_is ∙ sym same) ∙ its.2

    told_root : nodes_of new.fs before old.fs.tree.address ≡ Some snap.root
    told_root =
        let found = node_found (value_at snap.source.root state.layout) snap.root snap.root_there in
        ap (nodes_of new.fs before) (sym root_place)
        ∙ (held_then.nodes snap.source.root found.0 (grown snap.source.root found.0 found.1)).told
        ∙ ap (λ (n : Node). Some n) found.2

    place : tree.address ≡ snap.address
    place =
        ap (λ (t : Root). t.address) is
        ∙ root_of-value next copy made
        (ap (λ (table : List (ℕ × Subvolume)). value_at copy table) adds.subvolumes
        ∙ value_at-with_same copy made state_then.subvolumes)

    told_copy : nodes_of new.fs before tree.address
        ≡ Some (copy_of (next_generation state) copy tree.address snap.root)
    told_copy =
        let there : value_at snap.address next.layout ≡ Some placed =
        ap (λ (layout : List (ℕ × Placed)). value_at snap.address layout) adds.layout
        ∙ value_at-with_same snap.address placed state.layout in
        ap (nodes_of new.fs before) place ∙ (held_then.nodes snap.address placed there).told
        ∙ ap (λ (at : ℕ). Some (copy_of (next_generation state) copy at snap.root)) (sym place)

    height : tree.height ≡ old.fs.tree.height
    height = ap (λ (t : Root). t.height) tree_is

    made_files : HasFiles new.fs before tree made.files
    made_files =
        subst (λ (m : Subvolume). HasFiles new.fs before tree m.files) (sym source_is)
        (copy-files new.fs before (record old.superblock { generation = next_generation state }) (next_generation state)
        copy tree old.fs.tree snap.root keeps.mine.files (number-good old (length parents) copy comes few) (omega arith)
        (omega arith)
        height told_root told_copy
        (files-grown old before bytes state (other_names state) fits keeps next new.fs held_then come_next next_same
        old.fs.tree (hand-among old.fs)
        (still-grown old before bytes state (other_names state) fits keeps next.layout grown old.fs.tree
        (hand-among old.fs)) keeps.mine keeps.keeps.there))

    reaches : (at : ℕ) → IsReachedBy new.fs before tree at
        → (at ≡ made.root) ⊎ IsReachedBy new.fs before old.fs.tree at
    reaches at reached = elim (copy-reach (nodes_of new.fs before) (next_generation state) copy tree.address
        old.fs.tree.address snap.root told_root told_copy old.fs.tree.height at
        (subst (λ (level : ℕ). Reaches (nodes_of new.fs before) level tree.address at) height reached)) [
          | inl top ↦ inl (top ∙ place)
          | inr below ↦ inr below
        ]

    owned : (header_of placed.node).owner ≡ copy
    owned = owner_copied (next_generation state) copy snap.address snap.root

    less : (entry : ℕ × Subvolume) → Contains state_then.subvolumes entry → entry.0 < copy
    less entry has =
        greater old new (length parents) copy old.fs.tree.next tree fits.fitted comes few added entry.0
        (subst (λ (keys : List ℕ). Contains keys entry.0)
        (keys-kept source_marked state_then before (other_names state_then) marked_kept.fitted marked_keeps
        ∙ keys-marked old old.fs.tree.next fits.fitted (omega arith))
        (has-mapped (λ (e : ℕ × Subvolume). e.0) state_then.subvolumes entry has))

    large_number : 255 < copy
    large_number =
        let some = next-some (keys_of old.snapshots) (groups_in (quota_of old.quota)) in
        omega (arith, some, comes)

    known_then : (at : ℕ) (what : What) → what_in (book_of new.fs.refs.refs at) ≡ Some what
        → (what_in (book_of old.fs.refs.refs at) ≡ Some what) ⊎ (what.generation ≡ old.fs.tree.next)
    known_then at what there =
        known at what (sym (ap (λ (r : TreeRefs). what_in (book_of r.refs at)) refs_are) ∙ there)

    table_new : IsTable new.fs.refs.refs
    table_new = subst IsTable (sym (ap (λ (r : TreeRefs). r.refs) refs_are)) table_book

    weight : book_weight new ≤ book_weight old + (node_bytes + capacity old.superblock.nodesize)
    weight =
        let heavy = held-heavier (record old.fs.refs { tree = copy }) book
        (node_bytes + capacity old.fs.land.space.sizes.nodesize) heavier in
        let same = ap (λ (r : TreeRefs). weight_of r.held r.refs) refs_are in
        let size = ap (λ (sizes : Sizes). capacity sizes.nodesize) fits.fitted.sizes in
        omega (arith, heavy, same, size)

    many : length new.snapshots ≤ length old.snapshots + 1
    many =
        let front = with_value old.fs.tree.owner (kept_at old.fs.tree.next) old.snapshots in
        let all = ap (λ (t : List (ℕ × KeptSubvolume)). length t) snapshots in
        let parts = length-append front ((tree.owner, kept_at old.fs.tree.next) ∷ []) in
        let same = many-marked old old.fs.tree.next fits.fitted (omega arith) in
        omega (arith, all, parts, same)

    weighs : root_weight new + quota_weight new
        ≤ root_weight old + quota_weight old + (594 + 50 * length parents)
    weighs =
        weighs-more old.fs.tree.next copy (length parents) (length old.snapshots) (length new.snapshots)
        (quota_of old.quota) (quota_of new.quota) many groups.quota

    -- the machine's group is the one that is kept
    quota_now : next.quota ≡ quota_of new.quota
    quota_now =
        ap (λ (s : State). s.quota) snap.copied
        ∙ (λ i. option_map (inherited (come i) sub copy parents) (keeps.quota i))
        ∙ sym quota

    none_pending : length next.pending ≡ 0
    none_pending =
        ap (λ (s : State). length s.pending) snap.copied ∙ keeps.pending ∙ none

    holds_now : HoldsPending new next.pending
    holds_now =
        holds-still old new next.pending none_pending groups.held
        (subst (λ (list : List Accepted). HoldsPending old list) (sym (ap (λ (s : State). s.pending) snap.copied))
        keeps.holds)

    space_same : free_slots new.fs.land.space ≡ free_slots land.space
    space_same = ap (λ (k : OpenImage). free_slots k.fs.land.space) rest

    young : AreYoung new.fs before
    young =
        young-added source_marked new before bytes state_then next copy tree marked_kept marked_keeps none table
        kept_then
        made placed adds refl owned held_then is reaches added.hand others known_then

    keeps_now : IsKeptWith new next before (other_names state_then)
    keeps_now =
        keeps-added source_marked new before bytes state_then next copy tree marked_kept marked_keeps none kept_then
        table_new less large_number made placed adds held_then
        (short-files state sub snap.source keeps.short snap.there) made_files young is added.hand others
        (ap (λ (r : TreeRefs). r.tree) refs_are)
        (ap (λ (r : TreeRefs). r.held) refs_are ∙ heavier.held)
        (added.snapshots ∙ ap (λ (n : ℕ). source_marked.snapshots ++ (copy, kept_at n) ∷ []) (sym come))
        quota_now holds_now pending

    pub changed-snapped : IsChanged state (Snap sub parents) (Sub copy) new after
    changed-snapped =
        let number : copy ≡ number_to_come state = comes ∙ sym (number-told old state before fits.fitted keeps) in
        record {
          changed = next;
          changes = (ap (λ (n : ℕ). Sub n) number, subst (λ (n : ℕ). Snapshots state sub parents n next) number snap);
          keeps = subst (λ (h : History). IsKeptWith new next h (other_names state)) (sym rests.history)
              (subst (λ (names : List Record). IsKeptWith new next before names)
              (names_same old old.fs.tree.next before bytes state fits keeps none) keeps_now);
          room =
              let wide = large old fits.fitted in
              let few_bytes : node_bytes + capacity old.superblock.nodesize + (594 + 50 * length parents)
              ≤ (2 + length parents) * capacity old.superblock.nodesize =
              relations-room (length parents) (capacity old.superblock.nodesize) node_bytes (omega (arith, wide))
              (omega (arith, wide)) in
              room-grown old new (18 + length parents) (2 + length parents) 1
              (node_bytes + capacity old.superblock.nodesize) (594 + 50 * length parents) fits.fitted
              room superblock weight weighs few_bytes
              (let same = space_same in omega (arith, slots, same)) (omega arith);
        }
