-- What is made of a sound image that was just opened is kept of the state that the image stands for.
use Rattle.std.proofs.Common.{◌≡◌, ◌≤◌, ℕ, Bool, true, false, cond, List, [], ◌∷◌, ◌++◌, length, map, Option, Some}
use Rattle.std.proofs.Common.{refl, sym, ap, subst, ◌∙◌, inl, inr, arith}
use Rattle.std.specs.Prelude.{◌↔◌, ◌&&◌, ◌||◌, ◌==◌, nat_le, not, IsTrue, Result, Ok, Err, IfOk, IsErrAnd}
use Rattle.std.specs.List.{AllByRecursion, Contains, filter, flat_map}
use Rattle.std.proofs.lemmas.List.Elements.{Contains-append_cases, Contains-append_left, Contains-append_right}
use Rattle.qg_device.specs.History.{Event, Recorded, content}
use Rattle.qg_items.specs.declared.root.RootItem.{RootItem}
use Rattle.qg_items.specs.declared.tree.TheConstants.{TOP_LEVEL}
use Rattle.qg_super.specs.declared.superblock.Super.{Super}
use Rattle.qg_super.specs.Places.{is_served, total_bytes}
use Rattle.qg_super.specs.SuperText.{is_super, sizes_of}
use Rattle.qg_image.specs.declared.file.File.{File}
use Rattle.qg_image.specs.Table.{value_at}
use Rattle.qg_image.specs.declared.element.Element.{Element}
use Rattle.qg_image.specs.Space.{present_extents}
use Rattle.qg_image.specs.State.{Accepted, State, Subvolume}
use Rattle.qg_image.specs.declared.tree.TreeKind.TheVariants.{Files}
use Rattle.qg_image.specs.ImageState.{addresses_of, extent_parts, nodes_of_root, quota_in, roots_in, state_in}
use Rattle.qg_image.specs.ImageState.{subvolume_in, subvolume_roots, subvolumes_in, super_of, subvolume_told}
use Rattle.qg_image.specs.StateOf.{StateOf}
use Rattle.qg_image.specs.Verdict.{extent_set}
use Rattle.qg_reach.specs.Sets.{HaveSame}
use Rattle.qg_reach.proofs.ExtentSets.{extent_set_same}
use Rattle.qg_reach.proofs.Members.{all_weaker, contains_map, each_contained}
use Rattle.qg_owner_rule.proofs.Reaching.{entry_of_value}
use Rattle.qg_blocks.specs.NodesInMemory.{Draft, nothing_fresh, slots_of}
use Rattle.qg_refs.specs.declared.kept.Kept.{Kept as Reference}
use Rattle.qg_extents.specs.Table.{IsTable, book_of}
use Rattle.qg_extents.specs.BookRecords.{IsTold}
use Rattle.qg_weighed.specs.Laws.{IsRecorded}
use Rattle.qg_open_image.specs.TreeBook.{TreeBook}
use Rattle.qg_qgroups.specs.declared.state.QuotaState.{QuotaState}
use Rattle.qg_qgroups.specs.Tracked.{quota_of}
use Rattle.qg_open_image.specs.Types.{Image}
use Rattle.qg_open_image.specs.IsImage.{IsEditable, IsImage, IsSubvolumeOf}
use Rattle.qg_tree_read.specs.Tree.{Root}
use Rattle.qg_open_image.specs.CommitTreesOpening.{IsOpened, IsSoundImage, opened_nodes, opened_tree, opened_trees}
use Rattle.qg_open_image.specs.FsLawsKeeping.{KeepsState, NamesOthers, other_names}
use Rattle.qg_open_image.specs.Opening.{AreBytes, HasBytes, HoldsCommit, HoldsOthers, IsOf}
use Rattle.qg_open_image.proofs.OpenedKept.{opened-kept}
use Rattle.qg_open_image.proofs.OpenedNames.{opened-names}
use Rattle.qg_open_image.proofs.OpenedRecords.{opened-recorded}
use Rattle.qg_open_image.proofs.SoundImage.{image-known, others-known}
use Rattle.qg_open_image.proofs.Short.{spaced-short}
use Rattle.qg_open_image.specs.declared.open_image.OpenImage.{OpenImage}
use Rattle.qg_open_image.specs.declared.open_image.KeptSubvolume.{KeptSubvolume}
use Rattle.qg_open_image.specs.Keeping.{HoldsPending, IsKeptOf, kept_subvolume}
use Rattle.qg_image_changes.specs.Opened.{snapshot_of}
use Rattle.qg_open_image.proofs.Settled.{settled-holds}
use Rattle.qg_open_image.proofs.Reserve.{reserve-none}
use Rattle.qg_image_changes.proofs.OpenedFits.{IsMadeOf, settled}

-- what failed is not there
pub never-ok : {A E : Type 0} (P : A → Type 0) (result : Result A E) (Q : E → Type 0) → IsErrAnd result Q
    → IfOk result P
never-ok P (Ok x) Q is = absurd is
never-ok P (Err fault) Q is = tt

-- slots of served sizes are those of sizes that are served
keep_two : (a b c d : Bool) → (a && b && c && d) ≡ true → (a && b && true && true) ≡ true
keep_two true true c d is = refl
keep_two true false c d is = absurd cc
keep_two false b c d is = absurd cc

pub served_slots : (super : Super) → is_served (sizes_of super) ≡ true
    → is_served (slots_of super.nodesize super.slots) ≡ true
unfolding is_served
served_slots super is =
    keep_two
    (((super.nodesize == 4096) && nat_le super.slots 16128) || ((super.nodesize == 16384) && nat_le super.slots 4032))
    (nat_le 64 super.slots) (nat_le 16 super.sectors) (nat_le super.sectors 16777216) is

same_super : (super chosen : Super) (found : Option Super) → found ≡ Some super → found ≡ Some chosen → chosen ≡ super
same_super super chosen found is other = cc

quota_there : (super : Super) (bytes : List ℕ) → (state_in super bytes).quota ≡ quota_in super bytes
unfolding state_in
quota_there super bytes = refl

pending_none : (super : Super) (bytes : List ℕ) → (state_in super bytes).pending ≡ []
unfolding state_in
pending_none super bytes = refl

copied_roots : (super : Super) (bytes : List ℕ) (roots : List (ℕ × RootItem))
    → map (λ (entry : ℕ × Subvolume). (entry.0, kept_subvolume entry.1))
    (map (λ (entry : ℕ × RootItem). (entry.0, subvolume_in super bytes entry.1)) roots) ≡ map snapshot_of roots
copied_roots super bytes [] = refl
copied_roots super bytes (entry ∷ roots) =
    ap (λ (table : List (ℕ × KeptSubvolume)). snapshot_of entry ∷ table) (copied_roots super bytes roots)

snapshots_there : (super : Super) (bytes : List ℕ)
    → map (λ (entry : ℕ × Subvolume). (entry.0, kept_subvolume entry.1)) (state_in super bytes).subvolumes
    ≡ map snapshot_of (subvolume_roots (roots_in super bytes))
unfolding state_in subvolumes_in
snapshots_there super bytes = copied_roots super bytes (subvolume_roots (roots_in super bytes))

filter_mapped : {A B : Type 0} (f : A → B) (p : B → Bool) (xs : List A)
    → map f (filter (λ x. p (f x)) xs) ≡ filter p (map f xs)
filter_mapped f p [] = refl
filter_mapped {A} {B} f p (x ∷ xs) = from (p (f x)) (filter_mapped f p xs) where
  from : (b : Bool) → map f (filter (λ y. p (f y)) xs) ≡ filter p (map f xs)
      → map f (cond b (x ∷ filter (λ y. p (f y)) xs) (filter (λ y. p (f y)) xs))
      ≡ cond b (f x ∷ filter p (map f xs)) (filter p (map f xs))
  from true rest = ap (λ (ys : List B). f x ∷ ys) rest
  from false rest = rest

-- a sound image is as long as its superblock says
pub image-long : (image : Image) (bytes : List ℕ) → IsTrue (is_super image.superblock) → IsImage bytes image
    → total_bytes (sizes_of image.superblock) ≤ length bytes
image-long image bytes fits is =
    let sound : IsSoundImage image.superblock bytes =
    image-known image.superblock bytes is.sound is.chosen fits is.kept.agrees is.kept.home in
    sound.long

-- which slots and runs the space has that it is made of
pub record HoldsImage (kept : OpenImage) (image : Image) : Type 0 where
  pub slots : (slot : ℕ) → Contains kept.fs.land.space.slots slot ↔ Contains image.nodes slot
  pub held_slots : (slot : ℕ)
      → Contains kept.fs.land.space.held_slots slot ↔ Contains (image.others ++ image.nodes) slot
  pub runs : kept.fs.land.space.runs ≡ image.extents
  pub held_runs : kept.fs.land.space.held_runs ≡ image.extents

module _ (kept : OpenImage) (image : Image) (made : IsMadeOf kept image) (holds : HoldsImage kept image)
    (fits : IsEditable image) (table : IsTable image.book) (events : List Event)
    (is : IsImage (content events) image) where
  abbrev state : State
  state = state_in image.superblock (content events)

  abbrev root : RootItem
  root = made.trees.root

  -- ---- the trees

  sound : IsSoundImage image.superblock (content events)
  sound =
      image-known image.superblock (content events) is.sound is.chosen fits.superblock is.kept.agrees is.kept.home

  runs_are : kept.fs.land.space.runs ≡ extent_set (present_extents state)
  runs_are = holds.runs ∙ is.kept.extents

  runs_opened : (run : Element) → Contains kept.fs.land.space.runs run ↔ Contains (present_extents state) run
  runs_opened run = (
    λ has. (extent_set_same (present_extents state)).into run
        (subst (λ (runs : List Element). Contains runs run) runs_are has),
    λ has. subst (λ (runs : List Element). Contains runs run) (sym runs_are)
        ((extent_set_same (present_extents state)).back run has),
  )

  refs_are : kept.fs.refs.refs ≡ image.book
  refs_are = ap (λ (book : TreeBook). book.refs) made.trees.refs ∙ made.refs

  held_are : kept.fs.refs.held ≡ image.book
  held_are = ap (λ (book : TreeBook). book.held) made.trees.refs ∙ made.held

  owner_is : kept.fs.tree.owner ≡ TOP_LEVEL
  owner_is = ap (λ (tree : Root). tree.owner) made.trees.tree

  -- the ROOT_ITEM of the top-level subvolume
  root_among : Contains image.roots (TOP_LEVEL, root)
  root_among = entry_of_value TOP_LEVEL root image.roots made.trees.there

  trees_are : map (opened_tree image.superblock) image.roots ≡ opened_trees image.superblock (content events)
  trees_are = ap (λ (roots : List (ℕ × RootItem)). map (opened_tree image.superblock) roots) (sym is.kept.roots)

  hand_among : Contains (opened_trees image.superblock (content events)) kept.fs.tree
  hand_among =
      subst (λ (trees : List Root). Contains trees kept.fs.tree) trees_are
      (subst (λ (tree : Root). Contains (map (opened_tree image.superblock) image.roots) tree) (sym made.trees.tree)
      (contains_map (opened_tree image.superblock) image.roots (TOP_LEVEL, root) root_among))

  others_are : kept.fs.others.items
      ≡ filter (λ tree. not (tree.owner == TOP_LEVEL)) (opened_trees image.superblock (content events))
  others_are =
      made.trees.others
      ∙ filter_mapped (opened_tree image.superblock) (λ (tree : Root). not (tree.owner == TOP_LEVEL)) image.roots
      ∙ ap (λ (trees : List Root). filter (λ (tree : Root). not (tree.owner == TOP_LEVEL)) trees) trees_are

  nodes_have : HaveSame image.nodes (addresses_of (opened_nodes image.superblock (content events)))
  nodes_have = subst (λ (roots : List (ℕ × RootItem)). HaveSame image.nodes (addresses_of
      (flat_map (λ entry. nodes_of_root Files image.superblock (content events) entry.1) roots))) (sym is.kept.roots)
      is.kept.nodes

  opened : IsOpened kept.fs image.superblock (content events)
  opened = record {
    tree = hand_among;
    number = owner_is;
    others = others_are;
    draft = made.trees.draft;
    sizes = made.sizes;
    slots = λ slot. (
      λ has. nodes_have.into slot ((holds.slots slot).0 has),
      λ has. (holds.slots slot).1 (nodes_have.back slot has),
    );
    held_slots = λ slot has.
        (holds.held_slots slot).1 (Contains-append_right image.others image.nodes slot ((holds.slots slot).0 has));
    runs = runs_opened;
    refs = λ i. record kept.fs.refs {
      tree = (made.trees.refs i).tree;
      nodesize = (made.trees.refs i).nodesize;
      next = (made.trees.refs i).next;
      misfit = (made.trees.refs i).misfit;
    };
    told = subst
        (λ (book : List (ℕ × Reference)). IsTold image.superblock.nodesize
        (extent_parts image.superblock (content events)) (book_of book)) (sym refs_are) is.kept.recorded;
  }

  table_there : IsTable kept.fs.refs.refs
  table_there = subst (λ (book : List (ℕ × Reference)). IsTable book) (sym refs_are) table

  -- ---- the last commit

  commit : HoldsCommit kept.fs image.superblock (content events)
  commit = record {
    slots = λ slot. (
      λ has. elim (Contains-append_cases image.others image.nodes slot ((holds.held_slots slot).0 has)) [
        | inl other ↦ inl (subst (λ (slots : List ℕ). Contains slots slot) is.kept.others other)
        | inr own ↦ inr ((holds.slots slot).1 own)
      ],
      λ has. (holds.held_slots slot).1 (elim has [
        | inl other ↦
            Contains-append_left image.others image.nodes slot
            (subst (λ (slots : List ℕ). Contains slots slot) (sym is.kept.others) other)
        | inr own ↦ Contains-append_right image.others image.nodes slot ((holds.slots slot).0 own)
      ]),
    );
    runs =
        let same = holds.held_runs ∙ sym holds.runs in
        λ run. (
          λ has. subst (λ (runs : List Element). Contains runs run) same has,
          λ has. subst (λ (runs : List Element). Contains runs run) (sym same) has,
        );
    book = held_are ∙ sym refs_are;
  }

  have_bytes : HasBytes image.superblock (content events)
  have_bytes = subst
      (λ (roots : List (ℕ × RootItem)). AllByRecursion
      (λ entry. AreBytes image.superblock (content events) entry.1) roots) (sym is.kept.roots)
      (all_weaker (λ (entry : ℕ × RootItem). IsSubvolumeOf image.superblock (content events) entry.1)
      (λ (entry : ℕ × RootItem). AreBytes image.superblock (content events) entry.1) (λ entry own. own.bodies)
      image.roots is.kept.each)

  top : IsSubvolumeOf image.superblock (content events) root
  top = each_contained (λ (entry : ℕ × RootItem). IsSubvolumeOf image.superblock (content events) entry.1)
      image.roots (TOP_LEVEL, root) is.kept.each root_among

  abbrev files : List (ℕ × File)
  files = top.files

  is_of : IsOf image.superblock (content events) kept.fs.tree.owner root files
  is_of = record {
    there = (λ i. value_at (owner_is i) (is.kept.roots i)) ∙ made.trees.there;
    are = top.told;
  }

  state_there : KeepsState kept.fs (Recorded events) state (subvolume_told files root) files
  state_there =
      opened-kept kept.fs image.superblock events root files table_there sound opened commit have_bytes is_of

  -- ---- the other trees

  counted : quota_in image.superblock (content events) ≡ quota_of kept.quota
  counted = is.kept.quota ∙ ap (λ (quota : Option QuotaState). quota_of quota) (sym made.quota)

  others : HoldsOthers image.superblock (content events) (quota_of kept.quota)
  others = others-known image.superblock (content events) is.sound is.chosen (quota_of kept.quota) counted

  recorded : IsRecorded state kept.fs.refs.held
  recorded =
      opened-recorded kept.fs image.superblock (content events) (quota_of kept.quota) table_there sound opened commit
      others

  named : NamesOthers state.held (other_names state)
  named = opened-names image.superblock (content events) (quota_of kept.quota) counted others

  -- ---- what is pending

  none_pending : state.pending ≡ []
  none_pending = pending_none image.superblock (content events)

  holds_there : HoldsPending kept state.pending
  holds_there =
      subst (λ (pending : List Accepted). HoldsPending kept pending) (sym none_pending)
      (settled-holds kept.quota (settled kept image made fits))

  -- ---- what is kept

  kept_there : IsKeptOf kept state (Recorded events)
  kept_there = record {
    files = files;
    mine = subvolume_told files root;
    keeps = state_there;
    short = spaced-short (sizes_of image.superblock) state sound.space;
    snapshots = snapshots_there image.superblock (content events) ∙ ap (map snapshot_of) is.kept.roots
        ∙ sym made.snapshots;
    quota = quota_there image.superblock (content events) ∙ counted;
    holds = holds_there;
    pending = ap (λ (pending : List Accepted). length pending) none_pending ∙ sym made.idle;
    recorded = recorded;
    others = named;
    reserved = λ some. let none = made.idle in absurd (omega (arith, some, none));
    reserve = reserve-none state (ap (λ (pending : List Accepted). length pending) none_pending);
    idle = λ none same. made.trees.draft
        ∙ ap nothing_fresh (sym (ap (λ (draft : Draft). draft.sizes) made.trees.draft));
  }

  -- what is made of an image is kept of the state that it stands for
  pub kept-opened : (stood : State) → StateOf (content events) stood → IsKeptOf kept stood (Recorded events)
  kept-opened stood stands =
      let same = same_super image.superblock stands.super (super_of (content events)) is.chosen stands.chosen in
      let is_state = stands.stands ∙ ap (λ (super : Super). state_in super (content events)) same in
      subst (λ (s : State). IsKeptOf kept s (Recorded events)) (sym is_state) kept_there
