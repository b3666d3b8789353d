-- What is kept is kept of a state that has one subvolume more. Where that was made without files, no node but its leaf
-- is fresh.
use Rattle.std.proofs.Common.{◌≡◌, ◌≢◌, ℕ, ◌+◌, ◌<◌, ◌≤◌, true, false, List, [], ◌∷◌, ◌++◌, append-nil, arith, length}
use Rattle.std.proofs.Common.{map, Option, Some, None, refl, sym, ap, subst, ◌∙◌, inl, inr}
use Rattle.std.specs.Prelude.{◌⊎◌, ◌==◌, not}
use Rattle.std.specs.BTreeMap.{is_at}
use Rattle.std.specs.Ordering.{nat_cmp}
use Rattle.std.specs.List.{All, Contains}
use Rattle.std.proofs.lemmas.List.{append_cancel_left, map-append}
use Rattle.std.proofs.lemmas.List.Elements.{All-nil, Contains-append_cases, filter-append, recursion_from_All}
use Rattle.std.proofs.lemmas.Option.{same_Some}
use Rattle.qg_device.specs.History.{History}
use Rattle.qg_node.specs.declared.node.Node.{Node}
use Rattle.qg_node.specs.Nodes.{header_of}
use Rattle.qg_items.specs.declared.tree.TheConstants.{EXTENT_TREE, QUOTA_TREE}
use Rattle.qg_image.specs.declared.file.File.{File}
use Rattle.qg_image.specs.Table.{has_key, keys_of, value_at, with_value, without_key}
use Rattle.qg_image.specs.declared.quota.Quota.{Quota}
use Rattle.qg_image.specs.Need.{held_records, quota_records}
use Rattle.qg_image.specs.Record.{Record, RootOf}
use Rattle.qg_image.specs.Space.{is_free_slot}
use Rattle.qg_image.specs.State.{Accepted, Committed, Placed, State, Subvolume, next_generation, blank_subvolume}
use Rattle.qg_image.proofs.Contained.{contains_cases, contains_later, none_contained}
use Rattle.qg_tree_items.specs.Writable.{IsFileBy, IsWritableFile}
use Rattle.qg_machine.specs.Step.{CreatesSubvolume, empty_leaf}
use Rattle.qg_reach.proofs.Layouts.{value_at-with_other, value_at-with_same}
use Rattle.qg_blocks.specs.NodesFound.{fresh_at}
use Rattle.qg_refs.specs.declared.kept.Kept.{Kept as Reference}
use Rattle.qg_refs.specs.declared.kept.What.{What}
use Rattle.qg_refs.specs.Book.{full_in, what_in}
use Rattle.qg_extents.specs.Table.{IsTable, book_of}
use Rattle.qg_weighed.specs.Laws.{IsRecorded, is_among}
use Rattle.qg_weighed.specs.Weight.{records_in}
use Rattle.qg_tree_read.specs.Tree.{Reaches, Root}
use Rattle.qg_owner_rule.proofs.Reaching.{entry_of_value}
use Rattle.qg_qgroups.specs.Tracked.{quota_of}
use Rattle.qg_open_image.specs.ForestStanding.{HoldsState, tree_of}
use Rattle.qg_open_image.specs.Types.{FsTree}
use Rattle.qg_open_image.specs.Standing.{IsReachedBy, nodes_of, trees_of}
use Rattle.qg_open_image.specs.Files.{HasFiles}
use Rattle.qg_open_image.specs.FsLawsCommitting.{AreShort, IsShort}
use Rattle.qg_open_image.specs.FsLawsKeeping.{AreTreesOf, AreYoung, KeepsState, NamesOthers, OthersHaveFiles}
use Rattle.qg_open_image.specs.FsLawsKeeping.{other_names}
use Rattle.qg_open_image.proofs.HeldStands.{held-kept}
use Rattle.qg_open_image.specs.declared.open_image.OpenImage.{OpenImage}
use Rattle.qg_open_image.specs.declared.open_image.KeptSubvolume.{KeptSubvolume}
use Rattle.qg_open_image.specs.Keeping.{HoldsPending, IsKept, IsKeptOf, IsKeptWith, kept_subvolume}
use Rattle.qg_image_changes.proofs.Added.{put-last}
use Rattle.qg_image_changes.proofs.Grown.{files-grown, free-none, layout-grown, old-none-fresh, still-grown, tree-grown}
use Rattle.qg_open_image.proofs.Early.{early-known}
use Rattle.qg_open_image.proofs.KnownBook.{none-later}
use Rattle.qg_open_image.proofs.Looked.{hand-among, is-near, is-subvolume}
use Rattle.qg_open_image.proofs.Reserve.{reserve-none}
use Rattle.qg_open_image.proofs.Tables.{all-put, key-of-value}
use Rattle.qg_image_changes.proofs.Trees.{numbers-others, told-by-number, tree-is, without-none}
use Rattle.qg_open_image.proofs.Turned.{tree-sub}
use Rattle.qg_image_changes.proofs.Young.{dated-still, fresh-told}

-- ---- a subvolume more

-- A state has one subvolume more, whose root is this node in a slot that was free
pub record AddsSubvolume (old new : State) (sub : ℕ) (made : Subvolume) (placed : Placed) : Type 0 where
  pub free : is_free_slot old made.root ≡ true
  pub subvolumes : new.subvolumes ≡ with_value sub made old.subvolumes
  pub layout : new.layout ≡ with_value made.root placed old.layout
  pub generation : new.generation ≡ old.generation
  pub pending : new.pending ≡ old.pending
  pub held : new.held ≡ old.held

-- one without files, with an empty leaf
pub adds-created : (state after : State) (sub : ℕ) (creates : CreatesSubvolume state sub after)
    → AddsSubvolume state after sub (blank_subvolume creates.address)
    (empty_leaf (next_generation state) sub creates.address)
adds-created state after sub creates = record {
  free = creates.free;
  subvolumes = ap (λ (s : State). s.subvolumes) creates.created;
  layout = ap (λ (s : State). s.layout) creates.created;
  generation = ap (λ (s : State). s.generation) creates.created;
  pending = ap (λ (s : State). s.pending) creates.created;
  held = ap (λ (s : State). s.held) creates.created;
}

-- ---- the names are others

head_of : (one other : Record) (records others : List Record) → one ∷ records ≡ other ∷ others → one ≡ other
head_of one other records others same = cc

append-again : (front : List Record) (one : Record) (back : List Record)
    → (front ++ one ∷ []) ++ back ≡ front ++ one ∷ back
append-again [] one back = refl
append-again (first ∷ front) one back = ap (λ (records : List Record). first ∷ records) (append-again front one back)

-- what is named behind the subvolumes: the quota tree and what that names, while quota is on
abbrev pub quota_names : Option Quota → List Record
quota_names None = []
quota_names (Some quota) = RootOf QUOTA_TREE ∷ quota_records (Some quota)

-- what the other trees name, by whether quota is on
pub names-are : (state : State) (quota : Option Quota) → state.quota ≡ quota
    → other_names state ≡ (RootOf EXTENT_TREE ∷ map RootOf (keys_of state.subvolumes)) ++ quota_names quota
names-are state None is =
    rw is (append-nil ((RootOf EXTENT_TREE ∷ map RootOf (keys_of state.subvolumes)) ++ []))
names-are state (Some quota) is =
    rw is (append-again (RootOf EXTENT_TREE ∷ map RootOf (keys_of state.subvolumes)) (RootOf QUOTA_TREE)
    (quota_records (Some quota)))

-- the quota tree is not named where a subvolume of such a number would be
quota-first : (quota : Option Quota) (sub : ℕ) (rest : List Record) → 255 < sub
    → quota_names quota ≡ RootOf sub ∷ rest → ⊥
quota-first None sub rest large same =
    let none : 0 ≡ length (RootOf sub ∷ rest) = ap (λ (records : List Record). length records) same in
    omega (arith, none)
quota-first (Some quota) sub rest large same =
    let first : RootOf QUOTA_TREE ≡ RootOf sub =
    head_of (RootOf QUOTA_TREE) (RootOf sub) (quota_records (Some quota)) rest same in
    let number : QUOTA_TREE ≡ sub = cc in
    omega (arith, number, large)

module _ (old new : OpenImage) (history : History) (bytes : ℕ) (state after : State) (sub : ℕ) (tree : Root)
    (fits : IsKept old history bytes) (keeps : IsKeptOf old state history) (none : old.pending ≡ 0)
    (fits_new : IsKept new history bytes) (table_new : IsTable new.fs.refs.refs)
    (less : (entry : ℕ × Subvolume) → Contains state.subvolumes entry → entry.0 < sub) (large : 255 < sub)
    (made : Subvolume) (placed : Placed) (adds : AddsSubvolume state after sub made placed)
    (held : HoldsState new.fs.land history new.fs.refs after) (short : AreShort made.files)
    (made_files : HasFiles new.fs history tree made.files) (young : AreYoung new.fs history)
    (is : tree ≡ tree_of after sub) (hand : new.fs.tree ≡ old.fs.tree)
    (others : new.fs.others.items ≡ old.fs.others.items ++ tree ∷ [])
    (book : new.fs.refs.tree ≡ old.fs.tree.owner) (same_held : new.fs.refs.held ≡ old.fs.refs.held)
    (snapshots : new.snapshots ≡ old.snapshots ++ (sub, kept_subvolume made) ∷ [])
    (quota : after.quota ≡ quota_of new.quota) (groups_held : HoldsPending new after.pending)
    (pending : new.pending ≡ old.pending)
  where
    abbrev own : ℕ
    own = old.fs.tree.owner

    subs : after.subvolumes ≡ with_value sub made state.subvolumes
    subs = adds.subvolumes

    subs_last : after.subvolumes ≡ state.subvolumes ++ (sub, made) ∷ []
    subs_last = subs ∙ put-last sub made state.subvolumes less

    held_same : after.held ≡ state.held
    held_same = adds.held

    come : next_generation after ≡ next_generation state
    come = ap (λ (n : ℕ). n + 1) adds.generation

    next : new.fs.tree.next ≡ old.fs.tree.next
    next = ap (λ (t : Root). t.next) hand

    -- ---- the subvolumes that there were

    there_then : (number : ℕ) (mine : Subvolume) → value_at number state.subvolumes ≡ Some mine → number ≢ sub
        → value_at number after.subvolumes ≡ Some mine
    there_then number mine there differ =
        ap (λ (table : List (ℕ × Subvolume)). value_at number table) subs
        ∙ value_at-with_other sub number made state.subvolumes (λ same. differ (sym same)) ∙ there

    old_differ : (t : Root) → Contains (trees_of old.fs) t → t.owner ≢ sub
    old_differ t among same =
        let its = tree-sub old history bytes state (other_names state) fits keeps t among in
        let under = less (t.owner, its.0) (entry_of_value t.owner its.0 state.subvolumes its.1) in
        omega (arith, under, same)

    grown : (q : ℕ) (other : Placed) → value_at q state.layout ≡ Some other → value_at q after.layout ≡ Some other
    grown q other there =
        ap (λ (layout : List (ℕ × Placed)). value_at q layout) adds.layout
        ∙ layout-grown state.layout made.root placed (free-none state made.root adds.free) q other there

    mine_then : value_at own after.subvolumes ≡ Some keeps.mine
    mine_then = there_then own keeps.mine keeps.keeps.there (old_differ old.fs.tree (hand-among old.fs))

    old_files : (t : Root) (mine : Subvolume) → Contains (trees_of old.fs) t
        → value_at t.owner after.subvolumes ≡ Some mine → HasFiles new.fs history t mine.files
    old_files t mine among there =
        let its = tree-sub old history bytes state (other_names state) fits keeps t among in
        let same = same_Some its.0 mine (sym (there_then t.owner its.0 its.1 (old_differ t among)) ∙ there) in
        subst (λ (s : Subvolume). HasFiles new.fs history t s.files) same
        (files-grown old history bytes state (other_names state) fits keeps after new.fs held come next t among
        (still-grown old history bytes state (other_names state) fits keeps after.layout grown t among) its.0 its.1)

    -- ---- the one that was made

    made_there : value_at sub after.subvolumes ≡ Some made
    made_there =
        ap (λ (table : List (ℕ × Subvolume)). value_at sub table) subs ∙ value_at-with_same sub made state.subvolumes

    have : OthersHaveFiles after new.fs history
    have other mine among there = elim (Contains-append_cases old.fs.others.items (tree ∷ []) other
        (subst (λ (trees : List Root). Contains trees other) others among)) [
          | inl before ↦ old_files other mine (contains_later old.fs.tree old.fs.others.items other before) there
          | inr last ↦ elim (contains_cases tree [] other last) [
            | inl here ↦
                let number : other.owner ≡ sub = ap (λ (t : Root). t.owner) (sym here ∙ is) in
                let same = same_Some made mine
                (sym made_there ∙ ap (λ (n : ℕ). value_at n after.subvolumes) (sym number) ∙ there) in
                subst (λ (t : Root). HasFiles new.fs history t mine.files) here
                (subst (λ (s : Subvolume). HasFiles new.fs history tree s.files) same made_files)
            | inr nothing ↦ absurd (none_contained other nothing)
          ]
        ]

    -- ---- the trees

    tree_then : (t : Root) → Contains (trees_of old.fs) t → t ≡ tree_of after t.owner
    tree_then t among =
        let its = tree-sub old history bytes state (other_names state) fits keeps t among in
        tree-is old history bytes state (other_names state) fits keeps t among
        ∙ sym (tree-grown old history bytes state (other_names state) fits keeps after new.fs held come next t among
        (still-grown old history bytes state (other_names state) fits keeps after.layout grown t among) its.0
        (there_then t.owner its.0 its.1 (old_differ t among)) its.2)

    numbers_then : map (λ (t : Root). t.owner) new.fs.others.items ≡ keys_of (without_key own after.subvolumes)
    numbers_then =
        ap (λ (trees : List Root). map (λ (t : Root). t.owner) trees) others
        ∙ map-append (λ (t : Root). t.owner) old.fs.others.items (tree ∷ [])
        ∙ (λ i. numbers-others old history bytes state (other_names state) fits keeps i
        ++ ap (λ (t : Root). t.owner) is i ∷ [])
        ∙ sym (ap (λ (table : List (ℕ × Subvolume)). keys_of (without_key own table)) subs_last
        ∙ ap (λ (table : List (ℕ × Subvolume)). keys_of table)
        (filter-append (λ (entry : ℕ × Subvolume). not (entry.0 == own)) state.subvolumes ((sub, made) ∷ [])
        ∙ ap (λ (table : List (ℕ × Subvolume)). without_key own state.subvolumes ++ table)
        (without-none own ((sub, made) ∷ [])
        (λ entry has. elim (contains_cases (sub, made) [] entry has) [
          | inl here ↦ λ same. old_differ old.fs.tree (hand-among old.fs)
              (sym same ∙ ap (λ (e : ℕ × Subvolume). e.0) (sym here))
          | inr nothing ↦ absurd (none_contained entry nothing)
        ])))
        ∙ map-append (λ (entry : ℕ × Subvolume). entry.0) (without_key own state.subvolumes) ((sub, made) ∷ []))

    each_then : (t : Root) → Contains new.fs.others.items t → t ≡ tree_of after t.owner
    each_then t among = elim (Contains-append_cases old.fs.others.items (tree ∷ []) t
        (subst (λ (trees : List Root). Contains trees t) others among)) [
          | inl before ↦ tree_then t (contains_later old.fs.tree old.fs.others.items t before)
          | inr last ↦ elim (contains_cases tree [] t last) [
            | inl here ↦
                let number : sub ≡ t.owner = ap (λ (r : Root). r.owner) (sym is ∙ here) in
                sym here ∙ is ∙ ap (tree_of after) number
            | inr nothing ↦ absurd (none_contained t nothing)
          ]
        ]

    trees : AreTreesOf new.fs after
    trees = record {
      there = subst (λ (n : ℕ). has_key n after.subvolumes ≡ true) (sym (ap (λ (t : Root). t.owner) hand))
          (key-of-value own after.subvolumes keeps.mine mine_then);
      hand = hand ∙ tree_then old.fs.tree (hand-among old.fs)
          ∙ ap (tree_of after) (sym (ap (λ (t : Root). t.owner) hand));
      others = told-by-number (tree_of after) new.fs.others.items each_then
          ∙ ap (λ (numbers : List ℕ). map (tree_of after) numbers) numbers_then
          ∙ ap (λ (n : ℕ). map (tree_of after) (keys_of (without_key n after.subvolumes)))
          (sym (ap (λ (t : Root). t.owner) hand));
      book = book ∙ sym (ap (λ (t : Root). t.owner) hand);
    }

    hand_number : new.fs.tree.owner ≡ own
    hand_number = ap (λ (t : Root). t.owner) hand

    mine_now : value_at new.fs.tree.owner after.subvolumes ≡ Some keeps.mine
    mine_now = ap (λ (n : ℕ). value_at n after.subvolumes) hand_number ∙ mine_then

    state_then : KeepsState new.fs history after keeps.mine keeps.mine.files
    state_then =
        held-kept new.fs history bytes after keeps.mine
        (record {
          subvolume = is-subvolume new history bytes fits_new;
          table = table_new;
          near = is-near new
              fits_new.fitted;
        })
        held trees mine_now
        (subst (λ (t : Root). HasFiles new.fs history t keeps.mine.files) (sym hand)
        (old_files old.fs.tree keeps.mine (hand-among old.fs) mine_then)) have young

    -- ---- all else

    short_then : IsShort after
    short_then =
        subst (λ (table : List (ℕ × Subvolume)). All (λ (entry : ℕ × Subvolume). AreShort entry.1.files) table) (sym
        subs)
        (all-put (λ (entry : ℕ × Subvolume). AreShort entry.1.files) sub made state.subvolumes
        short keeps.short)

    snapshots_then : map (λ (entry : ℕ × Subvolume). (entry.0, kept_subvolume entry.1)) after.subvolumes ≡ new.snapshots
    snapshots_then =
        ap (λ (table : List (ℕ × Subvolume)). map (λ (entry : ℕ × Subvolume). (entry.0, kept_subvolume entry.1)) table)
        subs_last
        ∙ map-append (λ (entry : ℕ × Subvolume). (entry.0, kept_subvolume entry.1)) state.subvolumes ((sub, made) ∷ [])
        ∙ ap (λ (table : List (ℕ × KeptSubvolume)). table ++ (sub, kept_subvolume made) ∷ []) keeps.snapshots
        ∙ sym snapshots

    recorded_then : IsRecorded after new.fs.refs.held
    recorded_then =
        subst (λ (book : List (ℕ × Reference)). IsRecorded after book) (sym same_held)
        (let first = keeps.recorded in record {
          kept = first.kept;
          same = λ one is. subst (λ (committed : Committed). is_among (held_records committed) one
              ≡ is_among (records_in old.fs.refs.held) one) (sym held_same) (first.same one is);
        })

    -- the root tree names the new one now, and did not
    names_differ : other_names state ≡ other_names after → ⊥
    names_differ same =
        let keys : keys_of after.subvolumes ≡ keys_of state.subvolumes ++ sub ∷ [] =
        ap (λ (table : List (ℕ × Subvolume)). keys_of table) subs_last
        ∙ map-append (λ (entry : ℕ × Subvolume). entry.0) state.subvolumes ((sub, made) ∷ []) in
        let front : List Record = RootOf EXTENT_TREE ∷ map RootOf (keys_of state.subvolumes) in
        let before : other_names state ≡ front ++ quota_names state.quota = names-are state state.quota refl in
        let now : other_names after ≡ (front ++ RootOf sub ∷ []) ++ quota_names after.quota =
        names-are after after.quota refl
        ∙ ap (λ (numbers : List ℕ). (RootOf EXTENT_TREE ∷ map RootOf numbers) ++ quota_names after.quota) keys
        ∙ ap (λ (records : List Record). (RootOf EXTENT_TREE ∷ records) ++ quota_names after.quota)
        (map-append RootOf (keys_of state.subvolumes) (sub ∷ [])) in
        quota-first state.quota sub (quota_names after.quota) large
        (append_cancel_left front (quota_names state.quota) (RootOf sub ∷ quota_names after.quota)
        (sym before ∙ same ∙ now ∙ append-again front (RootOf sub) (quota_names after.quota)))

    pub keeps-added : IsKeptWith new after history (other_names state)
    keeps-added = record {
      files = keeps.mine.files;
      mine = keeps.mine;
      keeps = state_then;
      short = short_then;
      snapshots = snapshots_then;
      quota = quota;
      holds = groups_held;
      pending = ap (λ (pending : List Accepted). length pending) adds.pending ∙ keeps.pending ∙ sym pending;
      recorded = recorded_then;
      others = subst (λ (committed : Committed). NamesOthers committed (other_names state)) (sym held_same)
          keeps.others;
      reserved = λ some. absurd (omega (arith, some, none, pending));
      reserve = reserve-none after
          (ap (λ (pending : List Accepted). length pending) adds.pending ∙ keeps.pending ∙ none);
      idle = λ idle same. absurd (names_differ same);
    }

-- ---- what was known

-- the book knew nothing of a later generation
pub dated-before : (old : OpenImage) (history : History) (bytes : ℕ) (state : State) → IsKept old history bytes
    → IsKeptOf old state history → IsTable old.fs.refs.refs → (at : ℕ) (what : What)
    → what_in (book_of old.fs.refs.refs at) ≡ Some what → what.generation ≤ old.fs.tree.next
dated-before old history bytes state fits keeps table at what there =
    early-known old.fs.tree.next what (is_at (nat_cmp at)) old.fs.refs.refs
    (recursion_from_All (λ (entry : ℕ × Reference). entry.1.what.generation ≤ old.fs.tree.next) old.fs.refs.refs
    (none-later old state history bytes (other_names state) fits keeps table)) there

-- ---- no other fresh node

module _ (old new : OpenImage) (history : History) (bytes : ℕ) (state after : State) (sub : ℕ) (tree : Root)
    (fits : IsKept old history bytes) (keeps : IsKeptOf old state history) (none : old.pending ≡ 0)
    (table : IsTable old.fs.refs.refs) (fits_new : IsKept new history bytes)
    (made : Subvolume) (placed : Placed) (adds : AddsSubvolume state after sub made placed)
    (bare : placed.full ≡ false) (owned : (header_of placed.node).owner ≡ sub)
    (held : HoldsState new.fs.land history new.fs.refs after) (is : tree ≡ tree_of after sub)
    (reaches : (at : ℕ) → IsReachedBy new.fs history tree at
    → (at ≡ made.root) ⊎ IsReachedBy new.fs history old.fs.tree at) (hand : new.fs.tree ≡ old.fs.tree)
    (others : new.fs.others.items ≡ old.fs.others.items ++ tree ∷ [])
    (known : (at : ℕ) (what : What) → what_in (book_of new.fs.refs.refs at) ≡ Some what
    → (what_in (book_of old.fs.refs.refs at) ≡ Some what) ⊎ (what.generation ≡ old.fs.tree.next)) where
  come_same : next_generation after ≡ next_generation state
  come_same = ap (λ (n : ℕ). n + 1) adds.generation

  next_same : new.fs.tree.next ≡ old.fs.tree.next
  next_same = ap (λ (t : Root). t.next) hand

  grown_so : (q : ℕ) (other : Placed) → value_at q state.layout ≡ Some other → value_at q after.layout ≡ Some other
  grown_so q other there =
      ap (λ (layout : List (ℕ × Placed)). value_at q layout) adds.layout
      ∙ layout-grown state.layout made.root placed (free-none state made.root adds.free) q other there

  -- a tree is one that there was, or the one that was made
  tree_cases : (t : Root) → Contains (trees_of new.fs) t → Contains (trees_of old.fs) t ⊎ (tree ≡ t)
  tree_cases t among = elim (contains_cases new.fs.tree new.fs.others.items t among) [
    | inl here ↦ inl (subst (λ (r : Root). Contains (trees_of old.fs) r) (sym hand ∙ here) (hand-among old.fs))
    | inr later ↦ elim (Contains-append_cases old.fs.others.items (tree ∷ []) t
        (subst (λ (trees : List Root). Contains trees t) others later)) [
          | inl before ↦ inl (contains_later old.fs.tree old.fs.others.items t before)
          | inr last ↦ elim (contains_cases tree [] t last) [
            | inl made ↦ inr made
            | inr nothing ↦ absurd (none_contained t nothing)
          ]
        ]
  ]

  node_there : value_at made.root after.layout ≡ Some placed
  node_there =
      ap (λ (layout : List (ℕ × Placed)). value_at made.root layout) adds.layout
      ∙ value_at-with_same made.root placed state.layout

  cow_node : (at : ℕ) (node : Node) → at ≡ made.root → fresh_at new.fs.land.blocks.draft at ≡ Some node
      → (full_in (book_of new.fs.refs.refs at) ≡ false) × ((header_of node).owner ≡ tree.owner)
  cow_node at node here fresh =
      let holds = held.nodes made.root placed node_there in
      let told = fresh-told new.fs.land.blocks.draft history at node fresh in
      let same = same_Some node placed.node (sym told ∙ ap (nodes_of new.fs history) here ∙ holds.told) in (
        ap (λ (q : ℕ). full_in (book_of new.fs.refs.refs q)) here ∙ holds.mark ∙ bare,
        ap (λ (n : Node). (header_of n).owner) same ∙ owned ∙ ap (λ (t : Root). t.owner) (sym is),
      )

  none_before : (t : Root) (at : ℕ) (node : Node) → Contains (trees_of old.fs) t → IsReachedBy new.fs history t at
      → fresh_at new.fs.land.blocks.draft at ≡ Some node → ⊥
  none_before t at node among reached fresh =
      old-none-fresh old history bytes state (other_names state) fits keeps after new.fs held come_same next_same t
      among
      (still-grown old history bytes state (other_names state) fits keeps after.layout grown_so t among) table
      (keeps.idle none refl) fits_new.fitted.drafted at node reached fresh

  alone : (t : Root) (at : ℕ) (node : Node) → Contains (trees_of new.fs) t → IsReachedBy new.fs history t at
      → fresh_at new.fs.land.blocks.draft at ≡ Some node
      → (full_in (book_of new.fs.refs.refs at) ≡ false) × ((header_of node).owner ≡ t.owner)
  alone t at node among reached fresh = elim (tree_cases t among) [
    | inl before ↦ absurd (none_before t at node before reached fresh)
    | inr made ↦ elim (reaches at (subst (λ (r : Root). IsReachedBy new.fs history r at) (sym made) reached)) [
      | inl own ↦ let is_own = cow_node at node own fresh in (is_own.0, is_own.1 ∙ ap (λ (r : Root). r.owner) made)
      | inr source ↦ absurd (none_before old.fs.tree at node (hand-among old.fs) source fresh)
    ]
  ]

  pub young-added : AreYoung new.fs history
  young-added = record {
    alone = alone;
    dated = λ at what there.
        subst (λ (n : ℕ). what.generation ≤ n) (sym next_same)
        (dated-still old.fs.refs new.fs.refs old.fs.tree.next
        (dated-before old history bytes state fits keeps table) known at what there);
  }

-- ---- an empty leaf

-- a tree that is one has the items of no files
pub empty-files : (fs : FsTree) (history : History) (tree : Root) (generation sub : ℕ) → tree.height ≡ 0
    → nodes_of fs history tree.address ≡ Some (empty_leaf generation sub tree.address).node
    → HasFiles fs history tree []
empty-files fs history tree generation sub low told = record {
  items = rw low (rw told refl);
  writable = record {
    ascending = λ k below. absurd (omega (arith, below));
    each = All-nil (λ (file : ℕ × File). IsWritableFile file);
  };
  by = All-nil (λ (file : ℕ × File). IsFileBy fs.tree.next file);
}

-- and reaches its leaf alone
pub at-leaf : (fs : FsTree) (history : History) (tree : Root) (at : ℕ) → tree.height ≡ 0
    → IsReachedBy fs history tree at → at ≡ tree.address
unfolding Reaches
at-leaf fs history tree at low reached =
    subst (λ (height : ℕ). Reaches (nodes_of fs history) height tree.address at) low reached
