-- Trees that stand, another of which comes to hand: they stand.
use Rattle.std.proofs.Common.{◌≡◌, ℕ, suc, ◌<◌, ◌≤◌, Bool, true, false, List, [], ◌∷◌, ◌++◌, length, get_or, map, take}
use Rattle.std.proofs.Common.{drop, Option, None, arith, refl, sym, ap, subst, ◌∙◌, inl, inr}
use Rattle.std.specs.Prelude.{IsTrue, if◌then◌else◌, nat_lt, slice_index_or, slice_set}
use Rattle.std.specs.List.{Contains, cons_option, filter_map, flat_map, list_any}
use Rattle.std.specs.List.Sorted.{IsPermutation}
use Rattle.std.specs.Option.{option_map}
use Rattle.std.proofs.Math.ListN.{length-set}
use Rattle.std.proofs.Math.Seq.{take-append_seam}
use Rattle.std.proofs.lemmas.List.Elements.{Contains-append_cases, Contains-append_left, Contains-append_right}
use Rattle.std.proofs.lemmas.List.{get_or-map, length-map}
use Rattle.std.proofs.lemmas.List.Kept.{AllPairs-from_increasing}
use Rattle.std.proofs.lemmas.List.Sorted.{IsPermutation-cons, IsPermutation-swap, IsPermutation-sym}
use Rattle.std.proofs.lemmas.List.Sorted.{IsPermutation-trans}
use Rattle.qg_device.specs.History.{History}
use Rattle.qg_num.specs.declared.piece.Piece.{Piece}
use Rattle.qg_node.specs.declared.item.Item.{Item}
use Rattle.qg_node.specs.declared.node.Node.{Node}
use Rattle.qg_items.specs.declared.extent.Reference.{Reference}
use Rattle.qg_image.specs.State.{Layout, Placed}
use Rattle.qg_image.specs.Owed.{owed_count}
use Rattle.qg_image.specs.Reach.{extent_of}
use Rattle.qg_image.proofs.Contained.{contains_cases, contains_here, contains_later}
use Rattle.qg_image.specs.declared.tree.TreeKind.TheVariants.{Files}
use Rattle.qg_image.specs.Walk.{is_owner}
use Rattle.qg_space.proofs.Marks.{SlotsFit-is_served}
use Rattle.qg_space.proofs.Members.{one_passes, passes_one}
use Rattle.qg_tree_edits.specs.Types.{Ground}
use Rattle.qg_tree_edits.specs.Land.{IsDrafted}
use Rattle.qg_extents.specs.Table.{book_of}
use Rattle.qg_tree_edits.specs.Tree.{Root, super_of}
use Rattle.qg_tree_edits.specs.Editing.{IsEditable}
use Rattle.qg_tree_edits.specs.Rooting.{IsRooted}
use Rattle.qg_tree_backrefs.specs.declared.tree_refs.TreeRefs.{TreeRefs}
use Rattle.qg_fs_tree.specs.declared.fs_tree.FsTree.{FsTree}
use Rattle.qg_fs_tree.specs.Standing.{AreNumbered, CanTurn, IsBeside, IsKnownExtent, IsSubvolume, IsTurned, Stands}
use Rattle.qg_fs_tree.specs.Standing.{every_slot, items_in, layout_in, name_told, names_elsewhere, names_times}
use Rattle.qg_fs_tree.specs.Standing.{nodes_of, placed_at, roots_of, trees_of, ways_in}
use Rattle.qg_fs_tree.proofs.Before.{IsTreeOf, among_of, index_among, known_of, other-tree, other_stands}
use Rattle.qg_fs_tree.proofs.Beside.{mark_of}
use Rattle.qg_fs_tree.proofs.Counts.{branch, single-way}
use Rattle.qg_fs_tree.proofs.FewNames.{names-few}
use Rattle.qg_fs_tree.proofs.Lists.{from-flat, from-mapped, has-flat}
use Rattle.qg_fs_tree.proofs.Ordered.{contained, made_of}
use Rattle.qg_fs_tree.proofs.Numbers.{number_of}
use Rattle.qg_fs_tree.proofs.Places.{slot-once}
use Rattle.qg_fs_tree.proofs.Roots.{HasNone, Rises, from-with, here-with, kept-with, rises-with, same-rising}
use Rattle.qg_fs_tree.proofs.Sound.{told-formed}

-- ---- lists that have the same

both_same : (a b : Bool) → (a ≡ true → b ≡ true) → (b ≡ true → a ≡ true) → a ≡ b
both_same true true on back = refl
both_same true false on back = sym (on refl)
both_same false true on back = back refl
both_same false false on back = refl

any_members : {A : Type 0} (p : A → Bool) (xs ys : List A) → ((x : A) → Contains xs x → Contains ys x)
    → ((x : A) → Contains ys x → Contains xs x) → list_any p xs ≡ list_any p ys
any_members p xs ys on back =
    both_same (list_any p xs) (list_any p ys)
    (λ is. let found = one_passes p xs is in passes_one p ys found.0 (on found.0 found.1) found.2)
    (λ is. let found = one_passes p ys is in passes_one p xs found.0 (back found.0 found.1) found.2)

filter_same : {A B : Type 0} (f g : A → Option B) (xs : List A) → ((x : A) → f x ≡ g x)
    → filter_map f xs ≡ filter_map g xs
filter_same f g [] same = refl
filter_same {A} {B} f g (x ∷ xs) same =
    ap (λ (o : Option B). cons_option o (filter_map f xs)) (same x)
    ∙ ap (λ (ys : List B). cons_option (g x) ys) (filter_same f g xs same)

-- what one of some things has
spread : {A B : Type 0} (f : A → List B) (first : A) (xs : List A) (y : B) → Contains (f first ++ flat_map f xs) y
    → (x : A) × Contains (first ∷ xs) x × Contains (f x) y
spread f first xs y has = elim (Contains-append_cases (f first) (flat_map f xs) y has) [
  | inl own ↦ (first, contains_here first xs, own)
  | inr later ↦ let found = from-flat f xs y later in (found.0, contains_later first xs found.0 found.1, found.2)
]

gather : {A B : Type 0} (f : A → List B) (first : A) (xs : List A) (x : A) (y : B) → Contains (first ∷ xs) x
    → Contains (f x) y → Contains (f first ++ flat_map f xs) y
gather {A} {B} f first xs x y has own = elim (contains_cases first xs x has) [
  | inl same ↦
      Contains-append_left (f first) (flat_map f xs) y (subst (λ (z : A). Contains (f z) y) (sym same) own)
  | inr later ↦ Contains-append_right (f first) (flat_map f xs) y (has-flat f xs x y later own)
]

-- ---- numbers

pub numbered-standing : (fs : FsTree) (history : History) (items : List Item) (named : List (ℕ × Piece))
    → Stands fs history items named → AreNumbered fs
numbered-standing fs history items named stands = record {
  ascending = stands.ascending;
  apart_at = λ other has. (among_of (IsBeside fs history) fs.others.items stands.beside other has).number;
}

-- ---- the layout is the same

abbrev root_of : Root → ℕ × ℕ
root_of tree = (tree.owner, tree.address)

roots_rise : (trees : List Root) → ((i j : ℕ) (d : Root) → i < j → j < length trees
    → (get_or trees i d).owner < (get_or trees j d).owner) → Rises (map root_of trees)
roots_rise [] up = tt
roots_rise (tree ∷ trees) up = (
  λ later has.
      let found = from-mapped root_of trees later has in
      let less = up 0 (suc found.1.0) found.0 (omega arith) (let inside = found.1.1 in omega (arith, inside)) in
      let there = ap (λ (t : Root). t.owner) found.1.2 in
      let same = ap (λ (e : ℕ × ℕ). e.0) found.2 in
      omega (arith, less, there, same),
  roots_rise trees (λ i j d order inside. up (suc i) (suc j) d (omega (arith, order)) (omega (arith, inside))),
)

module _ (fs : FsTree) (numbered : AreNumbered fs) where
  none_of : HasNone fs.tree.owner (map root_of fs.others.items)
  none_of entry has same =
      let found = from-mapped root_of fs.others.items entry has in
      numbered.apart_at found.0 found.1 (ap (λ (e : ℕ × ℕ). e.0) found.2 ∙ same)

  rising_roots : Rises (roots_of fs)
  rising_roots = rises-with fs.tree.owner fs.tree.address (map root_of fs.others.items) none_of
      (roots_rise fs.others.items (λ i j d order inside.
      let size = length-map fs.others.items number_of in
      let up = AllPairs-from_increasing (map number_of fs.others.items) numbered.ascending i j (number_of d) order
      (omega (arith, size, inside)) in
      let first = get_or-map number_of fs.others.items i d (number_of d) (omega (arith, order, inside)) in
      let last = get_or-map number_of fs.others.items j d (number_of d) inside in
      omega (arith, up, first, last)))

  root_in : (entry : ℕ × ℕ) → Contains (map root_of (trees_of fs)) entry → Contains (roots_of fs) entry
  root_in entry has = elim (contains_cases (root_of fs.tree) (map root_of fs.others.items) entry has) [
    | inl is ↦ subst (λ (e : ℕ × ℕ). Contains (roots_of fs) e) is
        (here-with fs.tree.owner fs.tree.address (map root_of fs.others.items) none_of)
    | inr later ↦
        kept-with fs.tree.owner fs.tree.address (map root_of fs.others.items) none_of entry later
  ]

  root_from : (entry : ℕ × ℕ) → Contains (roots_of fs) entry → Contains (map root_of (trees_of fs)) entry
  root_from entry has =
      elim (from-with fs.tree.owner fs.tree.address (map root_of fs.others.items) none_of entry has) [
        | inl is ↦ subst (λ (e : ℕ × ℕ). Contains (map root_of (trees_of fs)) e) (sym is)
            (contains_here (root_of fs.tree) (map root_of fs.others.items))
        | inr later ↦ contains_later (root_of fs.tree) (map root_of fs.others.items) entry later
      ]

module _ (old new : FsTree) (number : ℕ) (turned : IsTurned old new number) (before : AreNumbered old)
    (after : AreNumbered new) (history : History) where
  tree_back : (tree : Root) → Contains (trees_of new) tree → Contains (trees_of old) tree
  tree_back tree has = contained (trees_of old) (trees_of new) tree turned.trees has

  tree_on : (tree : Root) → Contains (trees_of old) tree → Contains (trees_of new) tree
  tree_on tree has = contained (trees_of new) (trees_of old) tree
      (IsPermutation-sym (trees_of old) (trees_of new) turned.trees) has

  mapped_same : (xs ys : List Root) → ((t : Root) → Contains xs t → Contains ys t) → (entry : ℕ × ℕ)
      → Contains (map root_of xs) entry → Contains (map root_of ys) entry
  mapped_same xs ys all entry has = made_of root_of xs ys entry all has

  roots_same : roots_of new ≡ roots_of old
  roots_same = same-rising (roots_of new) (roots_of old) (rising_roots new after) (rising_roots old before)
      (λ entry has. root_in old before entry
      (mapped_same (trees_of new) (trees_of old) tree_back entry (root_from new after entry has)))
      (λ entry has. root_in new after entry
      (mapped_same (trees_of old) (trees_of new) tree_on entry (root_from old before entry has)))

  -- with the same nodes and the same book, whatever it stands for
  abbrev changed : FsTree
  changed = record new { land = old.land; refs = record old.refs { tree = number } }

  placed_turned : (at : ℕ) → placed_at changed history at ≡ placed_at old history at
  placed_turned at =
      ap (λ (b : Bool). if b then option_map (λ (node : Node). (at, record { node = node; full = mark_of old at }))
      (nodes_of old history at) else None)
      (any_members (λ (tree : Root). nat_lt 0 (ways_in old history tree at)) (trees_of new) (trees_of old) tree_back
      tree_on)

  layout_changed : layout_in changed history ≡ layout_in old history
  unfolding layout_in
  layout_changed =
      ap (λ (roots : List (ℕ × ℕ)). layout_of_parts roots
      (filter_map (placed_at changed history) (every_slot old.land.space.sizes))) roots_same
      ∙ ap (λ (nodes : List (ℕ × Placed)). layout_of_parts (roots_of old) nodes)
      (filter_same (placed_at changed history) (placed_at old history) (every_slot old.land.space.sizes) placed_turned)
    where
      layout_of_parts : List (ℕ × ℕ) → List (ℕ × Placed) → Layout
      layout_of_parts roots nodes = record { nodesize = old.land.space.sizes.nodesize; roots = roots; nodes = nodes }

  pub changed-is : new ≡ changed
  changed-is =
      ap (λ (l : Ground). record new { land = l }) turned.land
      ∙ ap (λ (b : TreeRefs). record new { land = old.land; refs = b }) turned.refs

  pub layout-turned : layout_in new history ≡ layout_in old history
  layout-turned = ap (λ (fs : FsTree). layout_in fs history) changed-is ∙ layout_changed

-- ---- the trees stand

module _ (old new : FsTree) (history : History) (items : List Item) (number : ℕ)
    (stands : Stands old history items (filter_map name_told items)) (drafted : IsDrafted old.land old.tree.next)
    (turned : IsTurned old new number) (numbered : AreNumbered new) where
  -- the trees with the one that came to hand
  abbrev now : FsTree
  now = record new { land = old.land; refs = record old.refs { tree = number } }

  abbrev names : List (ℕ × Piece)
  names = filter_map name_told items

  abbrev told_by : Root → List (ℕ × Piece)
  told_by tree = filter_map name_told (items_in old history tree)

  back : (tree : Root) → Contains (trees_of new) tree → Contains (trees_of old) tree
  back tree has = contained (trees_of old) (trees_of new) tree turned.trees has

  on : (tree : Root) → Contains (trees_of old) tree → Contains (trees_of new) tree
  on tree has = contained (trees_of new) (trees_of old) tree
      (IsPermutation-sym (trees_of old) (trees_of new) turned.trees) has

  turned_is : new ≡ now
  turned_is = changed-is old new number turned (numbered-standing old history items names stands) numbered history

  -- ---- each tree stands

  own_tree : IsTreeOf old history old.tree
  own_tree = record { items = items; rooted = stands.rooted; drafted = drafted }

  tree_stands : (tree : Root) → Contains (trees_of old) tree → IsTreeOf old history tree
  tree_stands tree has = elim (contains_cases old.tree old.others.items tree has) [
    | inl same ↦ subst (λ (t : Root). IsTreeOf old history t) same own_tree
    | inr later ↦ other-tree old history items names stands drafted tree later
  ]

  next_same : (tree : Root) → Contains (trees_of old) tree → tree.next ≡ old.tree.next
  next_same tree has = elim (contains_cases old.tree old.others.items tree has) [
    | inl same ↦ ap (λ (t : Root). t.next) (sym same)
    | inr later ↦ (other_stands old history items names stands drafted tree later).next
  ]

  items_are : (tree : Root) (own : List Item) → IsRooted Files tree old.land history own
      → items_in old history tree ≡ own
  items_are tree own rooted = rw rooted.tells.items_are refl

  here : Contains (trees_of old) new.tree
  here = back new.tree (contains_here new.tree new.others.items)

  abbrev own : List Item
  own = items_in old history new.tree

  drafted_now : IsDrafted old.land new.tree.next
  drafted_now = subst (λ (n : ℕ). IsDrafted old.land n) (sym (next_same new.tree here)) drafted

  rooted_now : IsRooted Files new.tree old.land history own
  rooted_now =
      let is = tree_stands new.tree here in
      subst (λ (xs : List Item). IsRooted Files new.tree old.land history xs)
      (sym (items_are new.tree is.items is.rooted)) is.rooted

  beside_now : (tree : Root) → Contains new.others.items tree → IsBeside now history tree
  beside_now tree has =
      let among = back tree (contains_later new.tree new.others.items tree has) in
      let is = tree_stands tree among in
      record {
        items = is.items;
        rooted = is.rooted;
        next = next_same tree among ∙ sym (next_same new.tree here);
        number = numbered.apart_at tree has;
      }

  -- ---- names

  names_are : names ≡ told_by old.tree
  names_are = ap (λ (xs : List Item). filter_map name_told xs) (sym (items_are old.tree items stands.rooted))

  stands_told : Stands old history items (told_by old.tree)
  stands_told = subst (λ (ns : List (ℕ × Piece)). Stands old history items ns) names_are stands

  named_back : (name : ℕ × Piece) → Contains (told_by new.tree ++ names_elsewhere now history) name
      → Contains (told_by old.tree ++ names_elsewhere old history) name
  unfolding names_elsewhere
  named_back name has =
      let found = spread told_by new.tree new.others.items name has in
      gather told_by old.tree old.others.items found.0 name (back found.0 found.1) found.2

  named_on : (name : ℕ × Piece) → Contains (told_by old.tree ++ names_elsewhere old history) name
      → Contains (told_by new.tree ++ names_elsewhere now history) name
  unfolding names_elsewhere
  named_on name has =
      let found = spread told_by old.tree old.others.items name has in
      gather told_by new.tree new.others.items found.0 name (on found.0 found.1) found.2

  known_now : (name : ℕ × Piece) → Contains (told_by new.tree ++ names_elsewhere now history) name
      → IsKnownExtent old.land.space.sizes new.tree.next (book_of old.refs.refs) name.1
  known_now name has =
      subst (λ (n : ℕ). IsKnownExtent old.land.space.sizes n (book_of old.refs.refs) name.1)
      (sym (next_same new.tree here))
      (known_of old history items (told_by old.tree) stands_told drafted name (named_back name has))

  -- ---- counts

  owed_same : (at : ℕ) (reference : Reference) → owed_count (layout_in now history) at reference
      ≡ owed_count (layout_in old history) at reference
  owed_same at reference =
      ap (λ (fs : FsTree). owed_count (layout_in fs history) at reference) (sym turned_is)
      ∙ ap (λ (layout : Layout). owed_count layout at reference)
      (layout-turned old new number turned (numbered-standing old history items names stands) numbered history)

  few_now : (at : ℕ) (reference : Reference) → names_times new.tree.owner (told_by new.tree) at reference ≤ 4294967295
  few_now at reference =
      names-few Files (super_of new.tree old.land.blocks.draft) (nodes_of old history) old.land.space.sizes
      new.tree.height new.tree.address own (branch old history new.tree own rooted_now drafted_now)
      drafted.sizes.served
      (λ q reaches. slot-once old.land.space.sizes q
      (SlotsFit-is_served old.land.space.sizes drafted.sizes.served).some (stands.placed new.tree q here reaches))
      (single-way old history new.tree own rooted_now drafted_now)
      (told-formed old.land history old.tree.next drafted) new.tree.owner at reference

  stands_now : Stands now history own (told_by new.tree)
  stands_now = record {
    book = record {
      owner = sym turned.owner;
      next = stands.book.next ∙ sym (next_same new.tree here);
      nodesize = stands.book.nodesize;
    };
    rooted = rooted_now;
    ascending = numbered.ascending;
    beside = λ i d inside. beside_now (get_or new.others.items i d) (index_among new.others.items i d inside);
    placed = λ tree q among reaches. stands.placed tree q (back tree among) reaches;
    home = λ tree q node among reaches there bare.
        let home = stands.home tree q node (back tree among) reaches there bare in
        record {
          tree = home.tree;
          among = on home.tree home.among;
          number = home.number;
          reached = home.reached;
        };
    young = λ tree q node among reaches fresh. stands.young tree q node (back tree among) reaches fresh;
    fits = stands.fits;
    counts = λ at reference.
        let count = stands.counts at reference in
        let owed = owed_same at reference in
        omega (arith, count, owed);
    within = λ at reference. omega arith;
    few = few_now;
    settled = record {
      slots = stands.settled.slots;
      written = stands.settled.written;
      fresh = stands.settled.fresh;
      newer = stands.settled.newer;
      clean = stands.settled.clean;
    };
    known = λ i d inside. known_now (get_or (told_by new.tree ++ names_elsewhere now history) i d)
        (index_among (told_by new.tree ++ names_elsewhere now history) i d inside);
    runs = λ run. (
      λ has. made_of (λ (name : ℕ × Piece). extent_of name.1) (told_by old.tree ++ names_elsewhere old history)
          (told_by new.tree ++ names_elsewhere now history) run named_on ((stands_told.runs run).0 has),
      λ has. (stands_told.runs run).1 (made_of (λ (name : ℕ × Piece). extent_of name.1)
          (told_by new.tree ++ names_elsewhere now history) (told_by old.tree ++ names_elsewhere old history) run
          named_back has),
    );
  }

  pub Stands-turned : Stands new history (items_in new history new.tree)
      (filter_map name_told (items_in new history new.tree))
  Stands-turned =
      subst (λ (fs : FsTree). Stands fs history (items_in fs history fs.tree)
      (filter_map name_told (items_in fs history fs.tree))) (sym turned_is) stands_now

-- ---- over any disk

pub subvolume-turned : (old new : FsTree) (number : ℕ) (history : History) (bytes : ℕ)
    → IsSubvolume old history bytes → CanTurn old → IsTurned old new number
    → IsSubvolume new history bytes × CanTurn new
subvolume-turned old new number history bytes subvolume can turned = (
  record {
    editable = subst (λ (land : Ground). IsEditable land history bytes new.tree.next) (sym turned.land)
        (subst (λ (n : ℕ). IsEditable old.land history bytes n) (sym (next_of new.tree here)) subvolume.editable);
    makes = record {
      owner = owner_of new.tree here;
      next = subst (λ (n : ℕ). 0 < n) (sym (next_of new.tree here)) subvolume.makes.next;
    };
  },
  record {
    next = λ other has. next_of other (behind other has) ∙ sym (next_of new.tree here);
    owner = λ other has. owner_of other (behind other has);
  },
) where
  next_of : (tree : Root) → Contains (trees_of old) tree → tree.next ≡ old.tree.next
  next_of tree has = elim (contains_cases old.tree old.others.items tree has) [
    | inl same ↦ ap (λ (t : Root). t.next) (sym same)
    | inr later ↦ can.next tree later
  ]

  owner_of : (tree : Root) → Contains (trees_of old) tree → IsTrue (is_owner Files tree.owner)
  owner_of tree has = elim (contains_cases old.tree old.others.items tree has) [
    | inl same ↦ subst (λ (t : Root). IsTrue (is_owner Files t.owner)) same subvolume.makes.owner
    | inr later ↦ can.owner tree later
  ]

  behind : (tree : Root) → Contains new.others.items tree → Contains (trees_of old) tree
  behind tree has = contained (trees_of old) (trees_of new) tree turned.trees
      (contains_later new.tree new.others.items tree has)

  here : Contains (trees_of old) new.tree
  here = contained (trees_of old) (trees_of new) new.tree turned.trees (contains_here new.tree new.others.items)

-- ---- the tree at hand and one of the others change their places

pub IsPermutation-exchanged : {A : Type 0} (x y : A) (xs ys sorted : List A) (place : ℕ) → place < length xs
    → y ≡ slice_index_or xs place x → ys ≡ slice_set xs place x → IsPermutation ys sorted
    → IsPermutation (x ∷ xs) (y ∷ sorted)
IsPermutation-exchanged {A} x y xs ys sorted place inside first rest moved =
    let swapped = IsPermutation-swap (x ∷ xs) (slice_index_or xs place x ∷ slice_set xs place x) 0 (suc place)
    (omega arith) (omega (arith, inside)) refl in
    let named = subst (λ (z : A). IsPermutation (x ∷ xs) (z ∷ slice_set xs place x)) (sym first) swapped in
    let told = subst (λ (zs : List A). IsPermutation (x ∷ xs) (y ∷ zs)) (sym rest) named in
    IsPermutation-trans (x ∷ xs) (y ∷ ys) (y ∷ sorted) told (IsPermutation-cons y ys sorted moved)

-- the list of all that was lent, as it is behind a change of its elements
whole_list : {A : Type 0} (n : ℕ) (xs ys : List A) → length xs ≡ n → take n (xs ++ ys) ≡ xs
whole_list {A} n xs ys long = ap (λ (k : ℕ). take k (xs ++ ys)) (sym long) ∙ take-append_seam xs ys

module _ (old new : FsTree) (number place n : ℕ) (shared lent exchanged : List Root)
    (inside : place < length shared) (at : (d : Root) → (slice_index_or shared place d).owner ≡ number)
    (shared_is : shared ≡ old.others.items) (lent_is : lent ≡ old.others.items) (long : length lent ≡ n)
    (tree_is : new.tree ≡ slice_index_or lent place old.tree)
    (exchanged_is : exchanged ≡ slice_set lent place old.tree)
    (moved : IsPermutation (take n (exchanged ++ drop (length exchanged) old.others.items)) new.others.items)
    (land : new.land ≡ old.land) (refs : new.refs ≡ record old.refs { tree = number }) where
  pub IsTurned-exchanged : IsTurned old new number
  IsTurned-exchanged =
      let first : new.tree ≡ slice_index_or old.others.items place old.tree =
      tree_is ∙ ap (λ (ts : List Root). slice_index_or ts place old.tree) lent_is in
      let size : length exchanged ≡ n =
      omega (arith, ap (λ (ts : List Root). length ts) exchanged_is, length-set lent place old.tree, long) in
      record {
        owner = ap (λ (tree : Root). tree.owner) first
            ∙ ap (λ (ts : List Root). (slice_index_or ts place old.tree).owner) (sym shared_is) ∙ at old.tree;
        trees = IsPermutation-exchanged old.tree new.tree old.others.items exchanged new.others.items place
            (omega (arith, inside, ap (λ (ts : List Root). length ts) shared_is)) first
            (exchanged_is ∙ ap (λ (ts : List Root). slice_set ts place old.tree) lent_is)
            (subst (λ (ts : List Root). IsPermutation ts new.others.items)
            (whole_list n exchanged (drop (length exchanged) old.others.items) size) moved);
        land = land;
        refs = refs;
      }
