-- What is made of an image that was read fits together, over any disk.
use Rattle.std.proofs.Common.{◌≡◌, ◌≢◌, ℕ, suc, ◌+◌, ◌*◌, ◌<◌, ◌≤◌, Bool, true, false, cond, List, [], ◌∷◌, ◌++◌}
use Rattle.std.proofs.Common.{length, map, get_or, take, Option, None, Some, refl, sym, ap, subst, ◌∙◌, arith, inl, inr}
use Rattle.std.specs.Prelude.{◌==◌, IfSome, IsTrue, is_some, not}
use Rattle.std.specs.List.{Contains, filter, list_any}
use Rattle.std.specs.List.Sorted.{IsPermutation, IsStrictlyIncreasing}
use Rattle.std.proofs.lemmas.Bool.{cases_Bool, cond-false, cond-true, eq-eqb, eqb-true, ne_eqb, not-true}
use Rattle.std.proofs.lemmas.Bool.{not_from_false, not_from_true, true≢false}
use Rattle.std.proofs.lemmas.List.{append-nil, length-map, map-append}
use Rattle.std.proofs.lemmas.List.Elements.{All-contains, filter_more}
use Rattle.std.proofs.lemmas.List.Kept.{AllPairs-from_increasing, IsStrictlyIncreasing-filter}
use Rattle.std.proofs.lemmas.List.Sorted.{IsPermutation-append_comm, IsPermutation-append_left, IsPermutation-cons}
use Rattle.std.proofs.lemmas.List.Sorted.{IsPermutation-refl, IsPermutation-trans}
use Rattle.std.proofs.lemmas.Option.{none-some}
use Rattle.qg_node.specs.declared.node.Node.{Node}
use Rattle.qg_items.specs.declared.root.RootItem.{RootItem}
use Rattle.qg_items.specs.declared.tree.TheConstants.{TOP_LEVEL}
use Rattle.qg_super.specs.declared.superblock.Super.{Super}
use Rattle.qg_super.specs.declared.sizes.Sizes.{Sizes}
use Rattle.qg_super.specs.Places.{is_served}
use Rattle.qg_super.specs.SuperText.{is_super, sizes_of}
use Rattle.qg_super.proofs.Served.{SuperFits-is_super}
use Rattle.qg_image.specs.ItemMeaning.{is_subvolume_number}
use Rattle.qg_image.specs.Table.{has_key, keys_of, value_at}
use Rattle.qg_image.proofs.Contained.{contains_cases, contains_here, contains_later, none_contained}
use Rattle.qg_reach.proofs.Members.{contains_map, one_mapped}
use Rattle.qg_owner_rule.proofs.Reaching.{entry_of_value}
use Rattle.qg_space.specs.Holding.{Holding}
use Rattle.qg_space.proofs.Members.{filter_contains}
use Rattle.qg_blocks.specs.NodesInMemory.{Draft}
use Rattle.qg_blocks.specs.NodesFound.{fresh_at}
use Rattle.qg_image.specs.declared.tree.TreeKind.TheVariants.{Files}
use Rattle.qg_image.specs.Walk.{is_owner}
use Rattle.qg_root_items.specs.Writable.{IsRootBy}
use Rattle.qg_weighed.specs.Weight.{Books}
use Rattle.qg_tree_read.specs.Tree.{Root}
use Rattle.qg_open_image.specs.Standing.{AreNumbered, CanTurn, trees_of}
use Rattle.qg_open_image.specs.Types.{Image}
use Rattle.qg_open_image.specs.IsImage.{IsEditable}
use Rattle.qg_qgroups.specs.declared.state.QuotaState.{QuotaState}
use Rattle.qg_qgroups.specs.Tracked.{HoldsAll, IsTracked, quota_of}
use Rattle.qg_open_image.specs.Editable.{AreGroupsOf}
use Rattle.qg_open_image.specs.declared.open_image.OpenImage.{OpenImage}
use Rattle.qg_open_image.specs.declared.open_image.KeptSubvolume.{KeptSubvolume}
use Rattle.qg_open_image.specs.Keeping.{AreSubvolumesBy, IsFitted, most_reserved}
use Rattle.qg_image_changes.specs.Opened.{AreTreesIn, snapshot_of, tree_for}
use Rattle.qg_open_image.proofs.Early.{All-from-contains, key_by, later-of}
use Rattle.qg_open_image.proofs.Settled.{settled-bounded, settled-tracked}

-- What is made of an image: its trees over its space and its book, which is held too; nothing is pending
pub record IsMadeOf (kept : OpenImage) (image : Image) : Type 0 where
  pub superblock : kept.superblock ≡ image.superblock
  pub snapshots : kept.snapshots ≡ map snapshot_of image.roots
  pub quota : kept.quota ≡ image.quota
  pub idle : kept.pending ≡ 0
  pub books : Books
  pub refs : books.refs ≡ image.book
  pub held : books.held ≡ image.book
  pub trees : AreTreesIn image.superblock image.roots kept.fs.land.space books kept.fs
  pub sizes : kept.fs.land.space.sizes ≡ sizes_of image.superblock

-- ---- lists

abbrev differs : ℕ → ℕ × RootItem → Bool
differs n entry = not (entry.0 == n)

keys_snapshots : (roots : List (ℕ × RootItem)) → keys_of (map snapshot_of roots) ≡ keys_of roots
keys_snapshots [] = refl
keys_snapshots (entry ∷ roots) = ap (λ (ns : List ℕ). entry.0 ∷ ns) (keys_snapshots roots)

owners_for : (next : ℕ) (roots : List (ℕ × RootItem))
    → map (λ (t : Root). t.owner) (map (tree_for next) roots) ≡ keys_of roots
owners_for next [] = refl
owners_for next (entry ∷ roots) = ap (λ (ns : List ℕ). entry.0 ∷ ns) (owners_for next roots)

keys_without : (n : ℕ) (roots : List (ℕ × RootItem))
    → keys_of (filter (differs n) roots) ≡ filter (λ m. not (m == n)) (keys_of roots)
keys_without n [] = refl
keys_without n (entry ∷ roots) = from (not (entry.0 == n)) (keys_without n roots) where
  from : (b : Bool) → keys_of (filter (differs n) roots) ≡ filter (λ m. not (m == n)) (keys_of roots)
      → keys_of (cond b (entry ∷ filter (differs n) roots) (filter (differs n) roots))
      ≡ cond b (entry.0 ∷ filter (λ m. not (m == n)) (keys_of roots)) (filter (λ m. not (m == n)) (keys_of roots))
  from true rest = ap (λ (ns : List ℕ). entry.0 ∷ ns) rest
  from false rest = rest

tail_up : (n : ℕ) (ns : List ℕ) → IsStrictlyIncreasing (n ∷ ns) → IsStrictlyIncreasing ns
tail_up n ns up = λ k short.
    let next : suc k + 1 ≡ suc (k + 1) = omega arith in
    subst (λ (j : ℕ). get_or ns k 0 < get_or (n ∷ ns) j 0) next (up (suc k) (omega (arith, short)))

-- a later one of numbers that ascend is none of the first
later_differs : (m : ℕ) (ns : List ℕ) (k : ℕ) → IsStrictlyIncreasing (m ∷ ns) → Contains ns k → k ≢ m
later_differs m ns k up has same =
    let rise = AllPairs-from_increasing (m ∷ ns) up 0 (suc has.0) k (omega arith) (omega (arith, has.1)) in
    let is = has.2 in
    omega (arith, rise, is, same)

-- nothing goes where the number isn't there
all_stay : (n : ℕ) (ns : List ℕ) → ((m : ℕ) → Contains ns m → m ≢ n) → filter (λ m. not (m == n)) ns ≡ ns
all_stay n [] others = refl
all_stay n (m ∷ ns) others =
    cond-true (not (m == n)) (m ∷ filter (λ k. not (k == n)) ns) (filter (λ k. not (k == n)) ns)
    (not_from_false (m == n) (ne_eqb m n (others m (contains_here m ns))))
    ∙ ap (λ (rest : List ℕ). m ∷ rest) (all_stay n ns (λ k has. others k (contains_later m ns k has)))

exchanged : (n m : ℕ) (ns : List ℕ) → IsPermutation (n ∷ m ∷ ns) (m ∷ n ∷ ns)
exchanged n m ns =
    IsPermutation-append_left ns (n ∷ m ∷ []) (m ∷ n ∷ []) (IsPermutation-append_comm (n ∷ []) (m ∷ []))

-- a number in front of the others is all of them
in_front : (n : ℕ) (ns : List ℕ) → IsStrictlyIncreasing ns → Contains ns n
    → IsPermutation (n ∷ filter (λ m. not (m == n)) ns) ns
in_front n [] up has = absurd (none_contained n has)
in_front n (m ∷ ns) up has = elim (cases_Bool (m == n)) [
  | inl same ↦
      let is : m ≡ n = eqb-true m n same in
      let gone : filter (λ k. not (k == n)) (m ∷ ns) ≡ ns =
      cond-false (not (m == n)) (m ∷ filter (λ k. not (k == n)) ns) (filter (λ k. not (k == n)) ns)
      (not_from_true (m == n) same)
      ∙ all_stay n ns (λ k has' is'. later_differs m ns k up has' (is' ∙ sym is)) in
      subst (λ (list : List ℕ). IsPermutation (n ∷ filter (λ k. not (k == n)) (m ∷ ns)) list)
      (λ i. sym is i ∷ ns)
      (subst (λ (rest : List ℕ). IsPermutation (n ∷ rest) (n ∷ ns)) (sym gone) (IsPermutation-refl (n ∷ ns)))
  | inr other ↦
      let stays : filter (λ k. not (k == n)) (m ∷ ns) ≡ m ∷ filter (λ k. not (k == n)) ns =
      cond-true (not (m == n)) (m ∷ filter (λ k. not (k == n)) ns) (filter (λ k. not (k == n)) ns)
      (not_from_false (m == n) other) in
      let behind : Contains ns n = elim (contains_cases m ns n has) [
        | inl same ↦ absurd (true≢false (sym (eq-eqb m n same) ∙ other))
        | inr later ↦ later
      ] in
      let rest = in_front n ns (tail_up m ns up) behind in
      subst (λ (list : List ℕ). IsPermutation (n ∷ list) (m ∷ ns)) (sym stays)
      (IsPermutation-trans (n ∷ m ∷ filter (λ k. not (k == n)) ns) (m ∷ n ∷ filter (λ k. not (k == n)) ns) (m ∷ ns)
      (exchanged n m (filter (λ k. not (k == n)) ns))
      (IsPermutation-cons m (n ∷ filter (λ k. not (k == n)) ns) ns rest))
]

-- ---- the trees

module _ (kept : OpenImage) (image : Image) (made : IsMadeOf kept image) (fits : IsEditable image) where
  next-made : kept.fs.tree.next ≡ image.superblock.generation + 1
  next-made = ap (λ (tree : Root). tree.next) made.trees.tree

  owner-made : kept.fs.tree.owner ≡ TOP_LEVEL
  owner-made = ap (λ (tree : Root). tree.owner) made.trees.tree

  later : image.superblock.generation ≤ kept.fs.tree.next
  later = let next = next-made in omega (arith, next)

  keys_made : keys_of kept.snapshots ≡ keys_of image.roots
  keys_made = ap (λ (table : List (ℕ × KeptSubvolume)). keys_of table) made.snapshots ∙ keys_snapshots image.roots

  subvolumes_made : AreSubvolumesBy kept.fs.tree.next kept.snapshots
  subvolumes_made =
      subst (λ (table : List (ℕ × KeptSubvolume)). AreSubvolumesBy kept.fs.tree.next table) (sym made.snapshots)
      (record {
        few = let many = length-map image.roots snapshot_of in
            let few = fits.roots.few in
            omega (arith, many, few);
        ascending = subst (λ (ns : List ℕ). IsStrictlyIncreasing ns) (sym (keys_snapshots image.roots))
            fits.roots.ascending;
        numbers = All-from-contains (λ (e : ℕ × KeptSubvolume). IsTrue (is_subvolume_number e.0))
            (map snapshot_of image.roots)
            (λ entry has. let root = one_mapped snapshot_of image.roots entry has in
            subst (λ (n : ℕ). IsTrue (is_subvolume_number n)) (ap (λ (e : ℕ × KeptSubvolume). e.0) root.2)
            (All-contains (λ (e : ℕ × RootItem). IsTrue (is_subvolume_number e.0)) image.roots root.0
            fits.roots.numbers root.1));
        top_level = key_by TOP_LEVEL (map snapshot_of image.roots)
            ∙ ap (λ (ns : List ℕ). list_any (λ m. m == TOP_LEVEL) ns) (keys_snapshots image.roots)
            ∙ sym (key_by TOP_LEVEL image.roots) ∙ fits.roots.top_level;
        copied = All-from-contains (λ (e : ℕ × KeptSubvolume). e.1.last_snapshot ≤ kept.fs.tree.next)
            (map snapshot_of image.roots)
            (λ entry has. let root = one_mapped snapshot_of image.roots entry has in
            let by = (All-contains (λ (e : ℕ × RootItem). IsRootBy image.superblock.generation e.1) image.roots root.0
            fits.roots.by root.1).copied in
            let last = ap (λ (e : ℕ × KeptSubvolume). e.1.last_snapshot) root.2 in
            let after = later in
            omega (arith, by, last, after));
      })

  abbrev others_left : List (ℕ × RootItem)
  others_left = filter (differs TOP_LEVEL) image.roots

  others_owned : map (λ (t : Root). t.owner) kept.fs.others.items
      ≡ filter (λ n. not (n == TOP_LEVEL)) (keys_of image.roots)
  others_owned =
      ap (map (λ (t : Root). t.owner)) made.trees.others
      ∙ owners_for (image.superblock.generation + 1) others_left ∙ keys_without TOP_LEVEL image.roots

  top_there : Contains (keys_of image.roots) TOP_LEVEL
  top_there = contains_map (λ (e : ℕ × RootItem). e.0) image.roots (TOP_LEVEL, made.trees.root)
      (entry_of_value TOP_LEVEL made.trees.root image.roots made.trees.there)

  trees_made : IsPermutation (map (λ (t : Root). t.owner) (trees_of kept.fs)) (keys_of kept.snapshots)
  trees_made =
      subst (λ (T : Type 0). T) (λ i. IsPermutation (sym owner-made i ∷ sym others_owned i) (sym keys_made i))
      (in_front TOP_LEVEL (keys_of image.roots) fits.roots.ascending top_there)

  -- a tree besides the one at hand is that of a subvolume
  other_from : (tree : Root) → Contains kept.fs.others.items tree
      → (entry : ℕ × RootItem) × Contains image.roots entry × (not (entry.0 == TOP_LEVEL) ≡ true)
      × (tree_for (image.superblock.generation + 1) entry ≡ tree)
  other_from tree has =
      let entry = one_mapped (tree_for (image.superblock.generation + 1)) others_left tree
      (subst (λ (ts : List Root). Contains ts tree) made.trees.others has) in
      let both = filter_contains (differs TOP_LEVEL) image.roots entry.0 entry.1 in
      (entry.0, both.0, both.1, entry.2)

  numbered_made : AreNumbered kept.fs
  numbered_made = record {
    ascending = subst (λ (ns : List ℕ). IsStrictlyIncreasing ns) (sym others_owned)
        (IsStrictlyIncreasing-filter (λ n. not (n == TOP_LEVEL)) (keys_of image.roots) fits.roots.ascending);
    apart_at = λ other has same.
        let entry = other_from other has in
        true≢false (sym (eq-eqb entry.0.0 TOP_LEVEL (ap (λ (t : Root). t.owner) entry.3 ∙ same ∙ owner-made))
        ∙ not-true (entry.0.0 == TOP_LEVEL) entry.2);
  }

  turn_made : CanTurn kept.fs
  turn_made = record {
    next = λ other has. let entry = other_from other has in
        ap (λ (t : Root). t.next) (sym entry.3) ∙ sym next-made;
    owner = λ other has. let entry = other_from other has in
        subst (λ (n : ℕ). IsTrue (is_owner Files n)) (ap (λ (t : Root). t.owner) entry.3)
        (All-contains (λ (e : ℕ × RootItem). IsTrue (is_subvolume_number e.0)) image.roots entry.0 fits.roots.numbers
        entry.1);
  }

  none_fresh : (at : ℕ) (node : Node) → fresh_at kept.fs.land.blocks.draft at ≡ Some node → ⊥
  none_fresh at node is =
      none-some node (sym (ap (λ (draft : Draft). fresh_at draft at) made.trees.draft) ∙ is)

  -- ---- the groups

  groups_made : AreGroupsOf kept.fs.tree.next (keys_of kept.snapshots) (quota_of kept.quota)
  groups_made =
      subst (λ (T : Type 0). T)
      (λ i. AreGroupsOf kept.fs.tree.next (sym keys_made i) (quota_of (sym made.quota i)))
      (later-of image.superblock.generation kept.fs.tree.next (keys_of image.roots) (quota_of image.quota) later
      fits.quota)

  -- nothing is held
  pub settled : IfSome kept.quota (λ state. IsTracked state × HoldsAll state [])
  settled =
      subst (λ (quota : Option QuotaState). IfSome quota (λ state. IsTracked state × HoldsAll state []))
      (sym made.quota) fits.tracked

  -- so it fits together
  pub fitted-made : IsFitted kept
  fitted-made =
      let next = next-made in
      let same = made.superblock in
      let served = (SuperFits-is_super image.superblock fits.superblock).served in
      record {
        superblock = subst (λ (super : Super). IsTrue (is_super super)) (sym made.superblock) fits.superblock;
        subvolumes = subvolumes_made;
        trees = trees_made;
        numbered = numbered_made;
        turn = turn_made;
        groups = groups_made;
        tracked = settled-tracked kept.quota settled;
        bounded = settled-bounded (kept.pending * most_reserved) kept.quota settled;
        next = next ∙ ap (λ (super : Super). super.generation + 1) (sym made.superblock);
        sizes = made.sizes ∙ ap sizes_of (sym made.superblock);
        drafted = record {
          sizes = record {
            served = subst (λ (sizes : Sizes). IsTrue (is_served sizes)) (sym made.sizes) served;
            nodesize = ap (λ (draft : Draft). draft.sizes.nodesize) made.trees.draft
                ∙ ap (λ (sizes : Sizes). sizes.nodesize) (sym made.sizes);
            slots = ap (λ (draft : Draft). draft.sizes.slots) made.trees.draft
                ∙ ap (λ (sizes : Sizes). sizes.slots) (sym made.sizes);
          };
          each = λ at node is. absurd (none_fresh at node is);
        };
      }

-- ---- how it is made

pub none-there : (roots : List (ℕ × RootItem)) → IsTrue (has_key TOP_LEVEL roots) → value_at TOP_LEVEL roots ≡ None → ⊥
none-there roots there none = true≢false (sym there ∙ ap (λ (o : Option RootItem). is_some o) none)

-- of trees over a space and a book
pub of-trees : (kept : OpenImage) (image : Image) (space : Holding) (books : Books) (roots : List (ℕ × RootItem))
    → kept.superblock ≡ image.superblock → kept.snapshots ≡ map snapshot_of image.roots → kept.quota ≡ image.quota
    → kept.pending ≡ 0 → books.refs ≡ image.book → books.held ≡ image.book → roots ≡ image.roots
    → AreTreesIn image.superblock roots space books kept.fs → space.sizes ≡ sizes_of image.superblock
    → IsMadeOf kept image
of-trees kept image space books roots superblock snapshots quota idle refs held same trees sizes =
    let here = subst (λ (holding : Holding). AreTreesIn image.superblock roots holding books kept.fs)
    (sym trees.space_is) trees in
    record {
      superblock = superblock;
      snapshots = snapshots;
      quota = quota;
      idle = idle;
      books = books;
      refs = refs;
      held = held;
      trees = subst (λ (list : List (ℕ × RootItem)). AreTreesIn image.superblock list kept.fs.land.space books kept.fs)
          same here;
      sizes = ap (λ (holding : Holding). holding.sizes) trees.space_is ∙ sizes;
    }

-- ---- one tree after the other

module _ (next n : ℕ) (roots : List (ℕ × RootItem)) (i : ℕ) (entry : ℕ × RootItem) (now new : List Root)
    (inside : i < length roots) (is : entry ≡ get_or roots i entry)
    (so_far : now ≡ map (tree_for next) (filter (differs n) (take i roots))) where
  one_more : filter (differs n) (take (i + 1) roots)
      ≡ filter (differs n) (take i roots) ++ cond (differs n entry) (entry ∷ []) []
  one_more =
      filter_more (differs n) roots i entry inside
      ∙ ap (λ (e : ℕ × RootItem). filter (differs n) (take i roots) ++ cond (differs n e) (e ∷ []) []) (sym is)

  pub others-more : (entry.0 == n) ≡ false → new ≡ now ++ tree_for next entry ∷ []
      → new ≡ map (tree_for next) (filter (differs n) (take (i + 1) roots))
  others-more other put =
      put ∙ ap (λ (list : List Root). list ++ tree_for next entry ∷ []) so_far
      ∙ sym (map-append (tree_for next) (filter (differs n) (take i roots)) (entry ∷ []))
      ∙ ap (λ (b : Bool). map (tree_for next) (filter (differs n) (take i roots) ++ cond b (entry ∷ []) []))
      (sym (not_from_false (entry.0 == n) other))
      ∙ ap (map (tree_for next)) (sym one_more)

  pub others-same : (entry.0 == n) ≡ true → new ≡ now
      → new ≡ map (tree_for next) (filter (differs n) (take (i + 1) roots))
  others-same own same =
      same ∙ so_far
      ∙ ap (map (tree_for next)) (sym (append-nil (filter (differs n) (take i roots))))
      ∙ ap (λ (b : Bool). map (tree_for next) (filter (differs n) (take i roots) ++ cond b (entry ∷ []) []))
      (sym (not_from_true (entry.0 == n) own))
      ∙ ap (map (tree_for next)) (sym one_more)
