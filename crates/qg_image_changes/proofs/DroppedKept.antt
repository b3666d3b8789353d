-- What is kept where a subvolume went: it fits together, and is kept of the state that this leaves.
use Rattle.std.proofs.Common.{◌≡◌, ◌≢◌, ℕ, ◌+◌, ◌*◌, ◌<◌, ◌≤◌, Bool, true, false, List, ◌∷◌, arith, length, map, Option}
use Rattle.std.proofs.Common.{Some, refl, sym, ap, subst, ◌∙◌, inl, inr}
use Rattle.std.specs.Prelude.{◌⊎◌, ◌==◌, IfSome, not}
use Rattle.std.specs.List.{Contains, filter}
use Rattle.std.proofs.lemmas.Bool.{eq-eqb}
use Rattle.std.proofs.lemmas.List.{length-append, length-map}
use Rattle.std.proofs.lemmas.List.Elements.{All-filter}
use Rattle.std.proofs.lemmas.List.Filters.{length-filter_both}
use Rattle.std.proofs.lemmas.Option.{same_Some}
use Rattle.qg_device.specs.History.{History}
use Rattle.qg_num.specs.declared.answer.Answer.TheVariants.{Done}
use Rattle.qg_num.specs.declared.command.Command.TheVariants.{Delete}
use Rattle.qg_node.specs.declared.node.Node.{Node}
use Rattle.qg_items.specs.declared.tree.TheConstants.{EXTENT_TREE, TOP_LEVEL}
use Rattle.qg_super.specs.declared.sizes.Sizes.{Sizes}
use Rattle.qg_super.specs.declared.superblock.Super.{Super}
use Rattle.qg_super.specs.Places.{capacity, total_bytes}
use Rattle.qg_super.specs.SuperText.{sizes_of}
use Rattle.qg_image.specs.Table.{has_key, keys_of, value_at, without_key}
use Rattle.qg_image.specs.Record.{Record, RootOf}
use Rattle.qg_image.specs.State.{State, Subvolume}
use Rattle.qg_machine.specs.Refusals.{nodes_reached}
use Rattle.qg_machine.specs.Step.{deleted}
use Rattle.qg_owner_rule.proofs.Reaching.{entry_of_value}
use Rattle.qg_image.proofs.Contained.{contains_cases, contains_later}
use Rattle.qg_space.specs.Holding.{free_slots}
use Rattle.qg_space.proofs.Members.{contains_filter}
use Rattle.qg_blocks.specs.NodesFound.{IsBacked, fresh_at}
use Rattle.qg_node_alloc.specs.declared.ground.Ground.{Ground}
use Rattle.qg_node_alloc.specs.Land.{IsDrafted}
use Rattle.qg_qgroups.specs.declared.state.QuotaState.{QuotaState}
use Rattle.qg_qgroups.specs.Tracked.{HoldsAll, quota_of}
use Rattle.qg_refs.specs.declared.kept.What.{What}
use Rattle.qg_refs.specs.Book.{what_in}
use Rattle.qg_refs.specs.declared.kept.Kept.{Kept as Reference}
use Rattle.qg_extents.specs.Table.{IsTable, book_of}
use Rattle.qg_weighed.specs.Laws.{IsRecorded}
use Rattle.qg_weighed.specs.Weight.{weight_of}
use Rattle.qg_tree_read.specs.Tree.{Root}
use Rattle.qg_open_image.specs.Heavier.{BookGetsHeavier}
use Rattle.qg_open_image.proofs.TreeBackrefsSums.{held-heavier}
use Rattle.qg_open_image.specs.Types.{TreeRefs}
use Rattle.qg_open_image.specs.ForestStanding.{HoldsState, tree_of}
use Rattle.qg_open_image.specs.Types.{FsTree}
use Rattle.qg_open_image.specs.Standing.{IsReachedBy, trees_of}
use Rattle.qg_open_image.specs.Files.{HasFiles}
use Rattle.qg_subvolumes.specs.Dropping.{RestsButRuns}
use Rattle.qg_open_image.specs.FsLawsCommitting.{AreShort, IsShort}
use Rattle.qg_open_image.specs.FsLawsKeeping.{AreTreesOf, AreYoung, KeepsState, OthersHaveFiles, other_names}
use Rattle.qg_open_image.proofs.HeldStands.{held-kept}
use Rattle.qg_open_image.specs.declared.open_image.OpenImage.{OpenImage}
use Rattle.qg_open_image.specs.declared.open_image.KeptSubvolume.{KeptSubvolume}
use Rattle.qg_open_image.specs.Keeping.{HoldsPending, IsKept, IsKeptOf, IsKeptWith, SameButClean, book_weight}
use Rattle.qg_open_image.specs.Keeping.{quota_weight}
use Rattle.qg_open_image.specs.Keeping.{root_weight, kept_subvolume}
use Rattle.qg_image_changes.specs.Changing.{HasRoom, IsChanged, without_tree}
use Rattle.qg_open_image.proofs.Reserve.{large, reserve-none}
use Rattle.qg_image_changes.proofs.Created.{dated-before, names-are, quota_names}
use Rattle.qg_image_changes.proofs.Dropped.{still-left, value-left}
use Rattle.qg_image_changes.proofs.Gone.{IsGone, fitted-gone, other-left, others-gone}
use Rattle.qg_image_changes.proofs.GroupAdded.{room-grown, weighs-same}
use Rattle.qg_image_changes.proofs.Grown.{files-grown, old-none-fresh, tree-grown}
use Rattle.qg_open_image.proofs.Known.{sub-known}
use Rattle.qg_open_image.proofs.Looked.{hand-among, is-near, is-subvolume}
use Rattle.qg_image_changes.proofs.Numbers.{numbers-without}
use Rattle.qg_open_image.proofs.Tables.{key-of-value, keys-mapped, value-there}
use Rattle.qg_image_changes.proofs.Trees.{held-for, told-by-number, tree-is, without-mapped}
use Rattle.qg_open_image.proofs.Turned.{tree-sub}
use Rattle.qg_image_changes.proofs.Young.{dated-still}

not_not : (b : Bool) → b ≡ not (not b)
not_not true = refl
not_not false = refl

-- a table in which a number is gets shorter without it
shorter : {A : Type 0} (n : ℕ) (value : A) (table : List (ℕ × A)) → value_at n table ≡ Some value
    → length (without_key n table) < length table
shorter {A} n value table there =
    let own = contains_filter (λ (e : ℕ × A). e.0 == n) table (n, value) (entry_of_value n value table there)
    (eq-eqb n n refl) in
    let both = length-filter_both (λ (e : ℕ × A). not (e.0 == n)) (λ (e : ℕ × A). e.0 == n)
    (λ e. not_not (e.0 == n)) table in
    omega (arith, own.1, both)

-- how many records name what a state's root and quota trees would
count_names : (state : State)
    → length (other_names state) ≡ length state.subvolumes + 1 + length (quota_names state.quota)
count_names state =
    let all = ap (λ (records : List Record). length records) (names-are state state.quota refl) in
    let parts = length-append (RootOf EXTENT_TREE ∷ map RootOf (keys_of state.subvolumes)) (quota_names state.quota) in
    let roots = length-map (keys_of state.subvolumes) RootOf in
    let keys = length-map state.subvolumes (λ (entry : ℕ × Subvolume). entry.0) in
    omega (arith, all, parts, roots, keys)

-- the slots are there still where another tree came to hand
pub room-turned : (old mid : OpenImage) (copies : ℕ) → SameButClean old mid → HasRoom old copies → HasRoom mid copies
room-turned old mid copies same room = subst (λ (k : OpenImage). HasRoom k copies) (sym same.rest)
    (record { free = room.free })

-- what is left, told by what was there before the tree was taken
pub rest-dropped : (old taken new : OpenImage) (land : Ground) (book now : TreeRefs) (sub hand : ℕ)
    → taken ≡ record old { fs = record old.fs { others = taken.fs.others } } → now ≡ record book { tree = hand }
    → hand ≡ taken.fs.tree.owner
    → new ≡ record taken {
      fs = record taken.fs { land = land; refs = now };
      snapshots = without_key sub taken.snapshots;
    }
    → new ≡ record old {
      fs = record old.fs { others = new.fs.others; land = land; refs = record book { tree = old.fs.tree.owner } };
      snapshots = without_key sub old.snapshots;
    }
rest-dropped old taken new land book now sub hand taken_is now_is hand_is is =
    is
    ∙ ap (λ (k : OpenImage). record k {
      fs = record k.fs { land = land; refs = now };
      snapshots = without_key sub k.snapshots;
    }) taken_is
    ∙ ap (λ (fs : FsTree). record old {
      fs = record old.fs { others = fs.others; land = land; refs = now };
      snapshots = without_key sub old.snapshots;
    }) (sym (ap (λ (k : OpenImage). k.fs) is))
    ∙ ap (λ (r : TreeRefs). record old {
      fs = record old.fs { others = new.fs.others; land = land; refs = r };
      snapshots = without_key sub old.snapshots;
    }) (now_is ∙ ap (λ (n : ℕ). record book { tree = n }) (hand_is ∙ ap (λ (k : OpenImage). k.fs.tree.owner) taken_is))

-- `land` and `book` are what the drop left; then the book stands for the tree at hand again, the tree that went is no
-- more among the others, and its number not among the snapshots
module _ (old new : OpenImage) (land : Ground) (book : TreeRefs) (before after : History) (bytes left sub : ℕ)
    (fits : IsKept old before bytes) (top : old.fs.tree.owner ≡ TOP_LEVEL)
    (other : sub ≡ TOP_LEVEL → ⊥) (rests : RestsButRuns old.fs.land land after old.fs.tree.next)
    (same_history : after ≡ before) (same_size : left ≡ bytes)
    (others : new.fs.others.items ≡ without_tree sub old.fs.others.items)
    (rest : new ≡ record old {
      fs = record old.fs { others = new.fs.others; land = land; refs = record book { tree = old.fs.tree.owner } };
      snapshots = without_key sub old.snapshots;
    }) where
  superblock : new.superblock ≡ old.superblock
  superblock = ap (λ (k : OpenImage). k.superblock) rest

  gone : IsGone old new sub
  gone = record {
    superblock = superblock;
    hand = ap (λ (k : OpenImage). k.fs.tree) rest;
    others = others;
    snapshots = ap (λ (k : OpenImage). k.snapshots) rest;
    quota = ap (λ (k : OpenImage). k.quota) rest;
    pending = ap (λ (k : OpenImage). k.pending) rest;
    sizes = ap (λ (k : OpenImage). k.fs.land.space.sizes) rest ∙ rests.sizes;
    drafted = subst (λ (k : OpenImage). IsDrafted k.fs.land old.fs.tree.next) (sym rest) rests.drafted;
  }

  pub kept-dropped : IsKept new after left
  kept-dropped = record {
    fitted = fitted-gone old new sub fits.fitted top other gone;
    backed = subst (λ (k : OpenImage). IsBacked k.fs.land.blocks after) (sym rest) rests.backed;
    long = subst (λ (s : Super). total_bytes (sizes_of s) ≤ left) (sym superblock)
        (subst (λ (n : ℕ). total_bytes (sizes_of old.superblock) ≤ n) (sym same_size) fits.long);
  }

  -- ---- of a state

  module _ (state : State) (keeps : IsKeptOf old state before) (none : old.pending ≡ 0) (copies : ℕ)
      (count : copies ≡ 18 + nodes_reached state sub) (room : HasRoom old copies)
      (there : has_key sub old.snapshots ≡ true) (table : IsTable old.fs.refs.refs) (table_book : IsTable book.refs)
      (held : HoldsState land after book (deleted state sub))
      (heavier : BookGetsHeavier (record old.fs.refs { tree = sub }) book
      (nodes_reached state sub * capacity old.fs.land.space.sizes.nodesize))
      (known : (at : ℕ) (what : What) → what_in (book_of book.refs at) ≡ Some what
      → (what_in (book_of old.fs.refs.refs at) ≡ Some what) ⊎ (what.generation ≡ old.fs.tree.next)) where
    abbrev next : State
    next = deleted state sub

    abbrev stay : List (ℕ × Subvolume)
    stay = without_key sub state.subvolumes

    abbrev own : ℕ
    own = old.fs.tree.owner

    -- over the disk as it was
    held_then : HoldsState new.fs.land before new.fs.refs next
    held_then =
        subst (λ (k : OpenImage). HoldsState k.fs.land before k.fs.refs next) (sym rest)
        (held-for land before book next own
        (subst (λ (h : History). HoldsState land h book next) same_history held))

    kept_then : IsKept new before bytes
    kept_then =
        subst (λ (h : History). IsKept new h bytes) same_history
        (subst (λ (n : ℕ). IsKept new after n) same_size kept-dropped)

    refs_are : new.fs.refs ≡ record book { tree = own }
    refs_are = ap (λ (k : OpenImage). k.fs.refs) rest

    table_new : IsTable new.fs.refs.refs
    table_new = subst IsTable (sym (ap (λ (r : TreeRefs). r.refs) refs_are)) table_book

    next_same : new.fs.tree.next ≡ old.fs.tree.next
    next_same = ap (λ (t : Root). t.next) gone.hand

    own_same : new.fs.tree.owner ≡ own
    own_same = ap (λ (t : Root). t.owner) gone.hand

    own_stays : own ≢ sub
    own_stays same = other (sym same ∙ top)

    went : (mine : Subvolume) × (value_at sub state.subvolumes ≡ Some mine)
    went = value-there sub state.subvolumes (sub-known old state before keeps sub ∙ there)

    -- ---- the trees that stay

    module _ (tree : Root) (among : Contains (trees_of old.fs) tree) (differ : tree.owner ≢ sub) where
      its : (mine : Subvolume) × (value_at tree.owner state.subvolumes ≡ Some mine) × (mine.root ≡ tree.address)
      its = tree-sub old before bytes state (other_names state) fits keeps tree among

      value_then : value_at tree.owner stay ≡ Some its.0
      value_then =
          value-left old before bytes state (other_names state) fits keeps table sub tree.owner differ ∙ its.1

      files_then : (mine : Subvolume) → value_at tree.owner stay ≡ Some mine → HasFiles new.fs before tree mine.files
      files_then mine value =
          let same = same_Some its.0 mine (sym value_then ∙ value) in
          subst (λ (s : Subvolume). HasFiles new.fs before tree s.files) same
          (files-grown old before bytes state (other_names state) fits keeps next new.fs held_then refl next_same tree
          among (still-left old before bytes state (other_names state) fits keeps table sub tree among differ) its.0
          its.1)

      tree_then : tree ≡ tree_of next tree.owner
      tree_then =
          tree-is old before bytes state (other_names state) fits keeps tree among
          ∙ sym (tree-grown old before bytes state (other_names state) fits keeps next new.fs held_then refl next_same
          tree among (still-left old before bytes state (other_names state) fits keeps table sub tree among differ)
          its.0 value_then its.2)

      none_fresh : (q : ℕ) (node : Node) → IsReachedBy new.fs before tree q
          → fresh_at new.fs.land.blocks.draft q ≡ Some node → ⊥
      none_fresh q node reached fresh =
          old-none-fresh old before bytes state (other_names state) fits keeps next new.fs held_then refl next_same tree
          among (still-left old before bytes state (other_names state) fits keeps table sub tree among differ) table
          (keeps.idle none refl) kept_then.fitted.drafted q node reached fresh

    other_in : (tree : Root) → Contains new.fs.others.items tree
        → Contains (trees_of old.fs) tree × (tree.owner ≢ sub)
    other_in tree has =
        let both = other-left old new sub fits.fitted top other gone tree has in
        (contains_later old.fs.tree old.fs.others.items tree both.0, both.1)

    tree_in : (tree : Root) → Contains (trees_of new.fs) tree → Contains (trees_of old.fs) tree × (tree.owner ≢ sub)
    tree_in tree has = elim (contains_cases new.fs.tree new.fs.others.items tree has) [
      | inl here ↦
          let same : old.fs.tree ≡ tree = sym gone.hand ∙ here in (
            subst (λ (t : Root). Contains (trees_of old.fs) t) same (hand-among old.fs),
            λ number. own_stays (ap (λ (t : Root). t.owner) same ∙ number),
          )
      | inr later ↦ other_in tree later
    ]

    mine_then : value_at own stay ≡ Some keeps.mine
    mine_then =
        value-left old before bytes state (other_names state) fits keeps table sub own own_stays ∙ keeps.keeps.there

    mine_now : value_at new.fs.tree.owner stay ≡ Some keeps.mine
    mine_now = ap (λ (n : ℕ). value_at n stay) own_same ∙ mine_then

    hand_files : HasFiles new.fs before new.fs.tree keeps.mine.files
    hand_files =
        subst (λ (t : Root). HasFiles new.fs before t keeps.mine.files) (sym gone.hand)
        (files_then old.fs.tree (hand-among old.fs) own_stays keeps.mine mine_then)

    have : OthersHaveFiles next new.fs before
    have tree mine among value =
        let is = other_in tree among in files_then tree is.0 is.1 mine value

    snapshots_then : map (λ (entry : ℕ × Subvolume). (entry.0, kept_subvolume entry.1)) stay ≡ new.snapshots
    snapshots_then =
        sym (without-mapped kept_subvolume sub state.subvolumes)
        ∙ ap (λ (entries : List (ℕ × KeptSubvolume)). without_key sub entries) keeps.snapshots ∙ sym gone.snapshots

    keys_then : keys_of new.snapshots ≡ keys_of stay
    keys_then =
        sym (ap (λ (entries : List (ℕ × KeptSubvolume)). keys_of entries) snapshots_then)
        ∙ keys-mapped kept_subvolume stay

    numbers_then : map (λ (t : Root). t.owner) new.fs.others.items ≡ keys_of (without_key own stay)
    numbers_then =
        others-gone old new sub fits.fitted top other gone
        ∙ ap (λ (ns : List ℕ). filter (λ (n : ℕ). not (n == own)) ns) keys_then
        ∙ sym (numbers-without (λ (entry : ℕ × Subvolume). entry.0) own stay)

    trees : AreTreesOf new.fs next
    trees = record {
      there = key-of-value new.fs.tree.owner stay keeps.mine mine_now;
      hand = gone.hand ∙ tree_then old.fs.tree (hand-among old.fs) own_stays ∙ ap (tree_of next) (sym own_same);
      others = told-by-number (tree_of next) new.fs.others.items
          (λ tree has. let is = other_in tree has in tree_then tree is.0 is.1)
          ∙ ap (λ (numbers : List ℕ). map (tree_of next) numbers) numbers_then
          ∙ ap (λ (n : ℕ). map (tree_of next) (keys_of (without_key n stay))) (sym own_same);
      book = ap (λ (r : TreeRefs). r.tree) refs_are ∙ sym own_same;
    }

    -- ---- nothing is fresh

    known_then : (at : ℕ) (what : What) → what_in (book_of new.fs.refs.refs at) ≡ Some what
        → (what_in (book_of old.fs.refs.refs at) ≡ Some what) ⊎ (what.generation ≡ old.fs.tree.next)
    known_then at what is = known at what (sym (ap (λ (r : TreeRefs). what_in (book_of r.refs at)) refs_are) ∙ is)

    young : AreYoung new.fs before
    young = record {
      alone = λ tree at node among reached fresh.
          let is = tree_in tree among in absurd (none_fresh tree is.0 is.1 at node reached fresh);
      dated = λ at what is.
          subst (λ (n : ℕ). what.generation ≤ n) (sym next_same)
          (dated-still old.fs.refs new.fs.refs old.fs.tree.next
          (dated-before old before bytes state fits keeps table) known_then at what is);
    }

    state_then : KeepsState new.fs before next keeps.mine keeps.mine.files
    state_then =
        held-kept new.fs before bytes next keeps.mine
        (record {
          subvolume = is-subvolume new before bytes kept_then;
          table = table_new;
          near = is-near new kept_then.fitted;
        })
        held_then trees mine_now hand_files have young

    -- ---- all else

    short_then : IsShort next
    short_then =
        All-filter (λ (entry : ℕ × Subvolume). not (entry.0 == sub))
        (λ (entry : ℕ × Subvolume). AreShort entry.1.files) state.subvolumes keeps.short

    quota_then : next.quota ≡ quota_of new.quota
    quota_then = keeps.quota ∙ ap (λ (quota : Option QuotaState). quota_of quota) (sym gone.quota)

    holds_then : HoldsPending new next.pending
    holds_then =
        subst (λ (quota : Option QuotaState). IfSome quota (λ tracked. HoldsAll tracked state.pending)) (sym gone.quota)
        keeps.holds

    recorded_then : IsRecorded next new.fs.refs.held
    recorded_then =
        subst (λ (records : List (ℕ × Reference)). IsRecorded next records)
        (sym (ap (λ (r : TreeRefs). r.held) refs_are ∙ heavier.held))
        (record { kept = keeps.recorded.kept; same = keeps.recorded.same })

    -- the root tree named one more
    names_differ : other_names state ≡ other_names next → ⊥
    names_differ same =
        let first = count_names state in
        let second : length (other_names next) ≡ length stay + 1 + length (quota_names state.quota) =
        count_names next in
        let all = ap (λ (records : List Record). length records) same in
        let less = shorter sub went.0 state.subvolumes went.1 in
        omega (arith, first, second, all, less)

    keeps_now : IsKeptWith new next before (other_names state)
    keeps_now = record {
      files = keeps.mine.files;
      mine = keeps.mine;
      keeps = state_then;
      short = short_then;
      snapshots = snapshots_then;
      quota = quota_then;
      holds = holds_then;
      pending = keeps.pending ∙ sym (ap (λ (k : OpenImage). k.pending) rest);
      recorded = recorded_then;
      others = keeps.others;
      reserved = λ some. let pending = ap (λ (k : OpenImage). k.pending) rest in
          absurd (omega (arith, some, none, pending));
      reserve = reserve-none next (keeps.pending ∙ none);
      idle = λ idle same. absurd (names_differ same);
    }

    -- ---- room

    weight : book_weight new ≤ book_weight old + nodes_reached state sub * capacity old.superblock.nodesize
    weight =
        let n = nodes_reached state sub in
        let heavy : weight_of book.held book.refs
        ≤ weight_of old.fs.refs.held old.fs.refs.refs + n * capacity old.superblock.nodesize =
        subst (λ (sizes : Sizes). weight_of book.held book.refs
        ≤ weight_of old.fs.refs.held old.fs.refs.refs + n * capacity sizes.nodesize) fits.fitted.sizes
        (held-heavier (record old.fs.refs { tree = sub }) book (n * capacity old.fs.land.space.sizes.nodesize)
        heavier) in
        let same = ap (λ (r : TreeRefs). weight_of r.held r.refs) refs_are in
        omega (arith, heavy, same)

    many : length new.snapshots ≤ length old.snapshots + 1
    many =
        let all = ap (λ (entries : List (ℕ × KeptSubvolume)). length entries) gone.snapshots in
        let mine = value-there sub old.snapshots there in
        let less = shorter sub mine.0 old.snapshots mine.1 in
        omega (arith, all, less)

    weighs : root_weight new + quota_weight new ≤ root_weight old + quota_weight old + 594
    weighs =
        weighs-same (length old.snapshots) (length new.snapshots) (quota_of old.quota) (quota_of new.quota) many
        (ap (λ (quota : Option QuotaState). quota_of quota) gone.quota)

    few_bytes : nodes_reached state sub * capacity old.superblock.nodesize + 594
        ≤ (nodes_reached state sub + 1) * capacity old.superblock.nodesize
    few_bytes =
        let wide = large old fits.fitted in
        let n = nodes_reached state sub in
        let c = capacity old.superblock.nodesize in
        let some : 594 ≤ c = omega (arith, wide) in
        let spread : (n + 1) * c ≡ n * c + c = omega arith in
        omega (arith, some, spread)

    slots : free_slots old.fs.land.space ≤ free_slots new.fs.land.space + 0
    slots =
        let same = ap (λ (k : OpenImage). free_slots k.fs.land.space) rest in
        let more = rests.slots in
        omega (arith, same, more)

    pub changed-dropped : IsChanged state (Delete sub) Done new after
    changed-dropped = record {
      changed = next;
      changes = (refl, refl);
      keeps = subst (λ (h : History). IsKeptWith new next h (other_names state)) (sym same_history)
          keeps_now;
      room = room-grown old new copies (nodes_reached state sub + 1) 0
          (nodes_reached state sub * capacity old.superblock.nodesize) 594 fits.fitted room superblock
          weight weighs few_bytes slots (omega (arith, count));
    }
