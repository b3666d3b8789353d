-- What is kept fits together where a subvolume other than the top-level one went.
use Rattle.std.proofs.Common.{◌≡◌, ◌≢◌, ℕ, ◌+◌, ◌*◌, ◌≤◌, true, List, ◌∷◌, Option, Some, None, arith, length, map, sym}
use Rattle.std.proofs.Common.{ap, subst, ◌∙◌, inl, inr}
use Rattle.std.specs.Prelude.{◌==◌, IfSome, not}
use Rattle.std.specs.List.{All, Contains, filter}
use Rattle.std.specs.List.Sorted.{IsPermutation, IsStrictlyIncreasing}
use Rattle.std.proofs.lemmas.List.Elements.{All-contains, All-filter}
use Rattle.std.proofs.lemmas.List.Kept.{IsStrictlyIncreasing-filter}
use Rattle.std.proofs.lemmas.List.Sums.{count_by-le-length, length-filter}
use Rattle.qg_items.specs.declared.tree.TheConstants.{TOP_LEVEL}
use Rattle.qg_super.specs.declared.superblock.Super.{Super}
use Rattle.qg_super.specs.SuperText.{is_super, sizes_of}
use Rattle.qg_image.specs.ItemMeaning.{is_subvolume_number}
use Rattle.qg_image.specs.Table.{has_key, keys_of, without_key}
use Rattle.qg_image.specs.declared.quota.Quota.{Quota}
use Rattle.qg_image.proofs.Contained.{contains_cases, contains_later}
use Rattle.qg_space.proofs.Members.{contains_filter, filter_contains}
use Rattle.qg_node_alloc.specs.Land.{IsDrafted}
use Rattle.qg_tree_read.specs.Tree.{Root}
use Rattle.qg_open_image.specs.Standing.{AreNumbered, CanTurn, trees_of}
use Rattle.qg_open_image.proofs.Lists.{from-mapped, has-mapped}
use Rattle.qg_qgroups.specs.declared.state.QuotaState.{QuotaState}
use Rattle.qg_qgroups.specs.Tracked.{HoldsAtMost, IsTracked, quota_of}
use Rattle.qg_open_image.specs.Editable.{AreGroupsOf}
use Rattle.qg_open_image.specs.declared.open_image.OpenImage.{OpenImage}
use Rattle.qg_open_image.specs.declared.open_image.KeptSubvolume.{KeptSubvolume}
use Rattle.qg_open_image.specs.Keeping.{AreSubvolumesBy, IsFitted, most_reserved}
use Rattle.qg_image_changes.specs.Changing.{without_tree}
use Rattle.qg_open_image.proofs.Looked.{hand-among, tree-listed}
use Rattle.qg_image_changes.proofs.Numbers.{in-front, not-same, numbers-same, numbers-without, other-number}
use Rattle.qg_open_image.proofs.Tables.{key-listed, listed-key}
use Rattle.qg_open_image.proofs.Turned.{tree-of-key}

-- the tree of a subvolume that there is, and that is not at hand, is among the others
pub tree-there : (kept : OpenImage) (sub : ℕ) → IsFitted kept → kept.fs.tree.owner ≡ TOP_LEVEL → (sub ≡ TOP_LEVEL → ⊥)
    → has_key sub kept.snapshots ≡ true → All (λ tree. tree.owner ≢ sub) kept.fs.others.items → ⊥
tree-there kept sub fits top other there none =
    let tree = tree-of-key kept fits sub there in
    elim (contains_cases kept.fs.tree kept.fs.others.items tree.0 tree.1) [
      | inl here ↦ other (sym tree.2 ∙ ap (λ (t : Root). t.owner) (sym here) ∙ top)
      | inr later ↦ All-contains (λ (t : Root). t.owner ≢ sub) kept.fs.others.items tree.0 none later tree.2
    ]

-- The tree of a number went from among the others, and the number from the table of snapshots; nothing else that must
-- fit changed
pub record IsGone (old new : OpenImage) (sub : ℕ) : Type 0 where
  pub superblock : new.superblock ≡ old.superblock
  pub hand : new.fs.tree ≡ old.fs.tree
  pub others : new.fs.others.items ≡ without_tree sub old.fs.others.items
  pub snapshots : new.snapshots ≡ without_key sub old.snapshots
  pub quota : new.quota ≡ old.quota
  pub pending : new.pending ≡ old.pending
  pub sizes : new.fs.land.space.sizes ≡ old.fs.land.space.sizes
  pub drafted : IsDrafted new.fs.land old.fs.tree.next

module _ (old new : OpenImage) (sub : ℕ) (fits : IsFitted old) (top : old.fs.tree.owner ≡ TOP_LEVEL)
    (other : sub ≡ TOP_LEVEL → ⊥) (gone : IsGone old new sub) where
  abbrev own : ℕ
  own = old.fs.tree.owner

  next_is : new.fs.tree.next ≡ old.fs.tree.next
  next_is = ap (λ (t : Root). t.next) gone.hand

  own_is : new.fs.tree.owner ≡ own
  own_is = ap (λ (t : Root). t.owner) gone.hand

  own_stays : own ≢ sub
  own_stays same = other (sym same ∙ top)

  -- ---- what stays

  pub other-left : (tree : Root) → Contains new.fs.others.items tree
      → Contains old.fs.others.items tree × (tree.owner ≢ sub)
  other-left tree has =
      let both = filter_contains (λ (t : Root). not (t.owner == sub)) old.fs.others.items tree
      (subst (λ (trees : List Root). Contains trees tree) gone.others has) in
      (both.0, λ same. not-same tree.owner sub both.1 same)

  other_stays : (tree : Root) → Contains old.fs.others.items tree → tree.owner ≢ sub
      → Contains new.fs.others.items tree
  other_stays tree has differ =
      subst (λ (trees : List Root). Contains trees tree) (sym gone.others)
      (contains_filter (λ (t : Root). not (t.owner == sub)) old.fs.others.items tree has
      (other-number tree.owner sub differ))

  keys_left : keys_of new.snapshots ≡ filter (λ (n : ℕ). not (n == sub)) (keys_of old.snapshots)
  keys_left =
      ap (λ (table : List (ℕ × KeptSubvolume)). keys_of table) gone.snapshots
      ∙ numbers-without (λ (e : ℕ × KeptSubvolume). e.0) sub old.snapshots

  listed_before : (n : ℕ) → Contains (keys_of new.snapshots) n → Contains (keys_of old.snapshots) n × (n ≢ sub)
  listed_before n has =
      let both = filter_contains (λ (m : ℕ). not (m == sub)) (keys_of old.snapshots) n
      (subst (λ (ns : List ℕ). Contains ns n) keys_left has) in
      (both.0, λ same. not-same n sub both.1 same)

  listed_still : (n : ℕ) → Contains (keys_of old.snapshots) n → n ≢ sub → Contains (keys_of new.snapshots) n
  listed_still n has differ =
      subst (λ (ns : List ℕ). Contains ns n) (sym keys_left)
      (contains_filter (λ (m : ℕ). not (m == sub)) (keys_of old.snapshots) n has (other-number n sub differ))

  keys_up : IsStrictlyIncreasing (keys_of new.snapshots)
  keys_up = subst (λ (ns : List ℕ). IsStrictlyIncreasing ns) (sym keys_left)
      (IsStrictlyIncreasing-filter (λ (n : ℕ). not (n == sub)) (keys_of old.snapshots) fits.subvolumes.ascending)

  many_less : length new.snapshots ≤ length old.snapshots
  many_less =
      let all = ap (λ (table : List (ℕ × KeptSubvolume)). length table) gone.snapshots in
      let count = length-filter (λ (e : ℕ × KeptSubvolume). not (e.0 == sub)) old.snapshots in
      let less = count_by-le-length (λ (e : ℕ × KeptSubvolume). not (e.0 == sub)) old.snapshots in
      omega (arith, all, count, less)

  all_left : (P : ℕ × KeptSubvolume → Type 0) → All P old.snapshots → All P new.snapshots
  all_left P all = subst (λ (table : List (ℕ × KeptSubvolume)). All P table) (sym gone.snapshots)
      (All-filter (λ (e : ℕ × KeptSubvolume). not (e.0 == sub)) P old.snapshots all)

  subvolumes_gone : AreSubvolumesBy new.fs.tree.next new.snapshots
  subvolumes_gone = record {
    few = let less = many_less in let few = fits.subvolumes.few in omega (arith, less, few);
    ascending = keys_up;
    numbers = all_left (λ (e : ℕ × KeptSubvolume). is_subvolume_number e.0 ≡ true) fits.subvolumes.numbers;
    top_level = listed-key TOP_LEVEL new.snapshots
        (listed_still TOP_LEVEL (key-listed TOP_LEVEL old.snapshots fits.subvolumes.top_level)
        (λ same. other (sym same)));
    copied = all_left (λ (e : ℕ × KeptSubvolume). e.1.last_snapshot ≤ new.fs.tree.next)
        (subst (λ (n : ℕ). All (λ (e : ℕ × KeptSubvolume). e.1.last_snapshot ≤ n) old.snapshots) (sym next_is)
        fits.subvolumes.copied);
  }

  -- ---- the trees

  others_up : IsStrictlyIncreasing (map (λ (t : Root). t.owner) new.fs.others.items)
  others_up = subst (λ (trees : List Root). IsStrictlyIncreasing (map (λ (t : Root). t.owner) trees)) (sym gone.others)
      (subst (λ (ns : List ℕ). IsStrictlyIncreasing ns)
      (sym (numbers-without (λ (t : Root). t.owner) sub old.fs.others.items))
      (IsStrictlyIncreasing-filter (λ (n : ℕ). not (n == sub)) (map (λ (t : Root). t.owner) old.fs.others.items)
      fits.numbered.ascending))

  number_into : (n : ℕ) → Contains (map (λ (t : Root). t.owner) new.fs.others.items) n
      → Contains (filter (λ (m : ℕ). not (m == own)) (keys_of new.snapshots)) n
  number_into n has =
      let tree = from-mapped (λ (t : Root). t.owner) new.fs.others.items n has in
      let before = other-left tree.0 tree.1 in
      let listed = tree-listed old fits tree.0 (contains_later old.fs.tree old.fs.others.items tree.0 before.0) in
      subst (λ (m : ℕ). Contains (filter (λ (k : ℕ). not (k == own)) (keys_of new.snapshots)) m) tree.2
      (contains_filter (λ (m : ℕ). not (m == own)) (keys_of new.snapshots) tree.0.owner
      (listed_still tree.0.owner listed before.1)
      (other-number tree.0.owner own (fits.numbered.apart_at tree.0 before.0)))

  number_back : (n : ℕ) → Contains (filter (λ (m : ℕ). not (m == own)) (keys_of new.snapshots)) n
      → Contains (map (λ (t : Root). t.owner) new.fs.others.items) n
  number_back n has =
      let both = filter_contains (λ (m : ℕ). not (m == own)) (keys_of new.snapshots) n has in
      let before = listed_before n both.0 in
      let tree = tree-of-key old fits n (listed-key n old.snapshots before.0) in
      elim (contains_cases old.fs.tree old.fs.others.items tree.0 tree.1) [
        | inl here ↦ absurd (not-same n own both.1 (sym tree.2 ∙ ap (λ (t : Root). t.owner) (sym here)))
        | inr later ↦
            subst (λ (m : ℕ). Contains (map (λ (t : Root). t.owner) new.fs.others.items) m) tree.2
            (has-mapped (λ (t : Root). t.owner) new.fs.others.items tree.0
            (other_stays tree.0 later (λ same. before.1 (sym tree.2 ∙ same))))
      ]

  -- the numbers of the others are those that are left but the one at hand
  pub others-gone : map (λ (t : Root). t.owner) new.fs.others.items
      ≡ filter (λ (n : ℕ). not (n == own)) (keys_of new.snapshots)
  others-gone =
      numbers-same (map (λ (t : Root). t.owner) new.fs.others.items)
      (filter (λ (n : ℕ). not (n == own)) (keys_of new.snapshots)) others_up
      (IsStrictlyIncreasing-filter (λ (n : ℕ). not (n == own)) (keys_of new.snapshots) keys_up) number_into number_back

  trees_gone : IsPermutation (map (λ (t : Root). t.owner) (trees_of new.fs)) (keys_of new.snapshots)
  trees_gone =
      subst (λ (ns : List ℕ). IsPermutation ns (keys_of new.snapshots))
      (λ i. sym own_is i ∷ sym others-gone i)
      (in-front own (keys_of new.snapshots) keys_up
      (listed_still own (tree-listed old fits old.fs.tree (hand-among old.fs)) own_stays))

  numbered_gone : AreNumbered new.fs
  numbered_gone = record {
    ascending = others_up;
    apart_at = λ tree has same. fits.numbered.apart_at tree (other-left tree has).0 (same ∙ own_is);
  }

  turn_gone : CanTurn new.fs
  turn_gone = record {
    next = λ tree has. fits.turn.next tree (other-left tree has).0 ∙ sym next_is;
    owner = λ tree has. fits.turn.owner tree (other-left tree has).0;
  }

  -- ---- the groups

  groups_left : (quota : Option Quota) → AreGroupsOf old.fs.tree.next (keys_of old.snapshots) quota
      → AreGroupsOf old.fs.tree.next (keys_of new.snapshots) quota
  groups_left None groups = tt
  groups_left (Some quota) groups = record {
    few = groups.few;
    ascending = groups.ascending;
    numbers = groups.numbers;
    own = subst (λ (ns : List ℕ). All (λ (n : ℕ). has_key n quota.groups ≡ true) ns) (sym keys_left)
        (All-filter (λ (n : ℕ). not (n == sub)) (λ (n : ℕ). has_key n quota.groups ≡ true) (keys_of old.snapshots)
        groups.own);
    stamped = groups.stamped;
    few_pairs = groups.few_pairs;
    sound = groups.sound;
  }

  groups_gone : AreGroupsOf new.fs.tree.next (keys_of new.snapshots) (quota_of new.quota)
  groups_gone =
      subst (λ (quota : Option QuotaState). AreGroupsOf new.fs.tree.next (keys_of new.snapshots) (quota_of quota))
      (sym gone.quota)
      (subst (λ (n : ℕ). AreGroupsOf n (keys_of new.snapshots) (quota_of old.quota)) (sym next_is)
      (groups_left (quota_of old.quota) fits.groups))

  bounded_gone : IfSome new.quota (HoldsAtMost (new.pending * most_reserved))
  bounded_gone =
      subst (λ (quota : Option QuotaState). IfSome quota (HoldsAtMost (new.pending * most_reserved))) (sym gone.quota)
      (subst (λ (n : ℕ). IfSome old.quota (HoldsAtMost (n * most_reserved))) (sym gone.pending) fits.bounded)

  pub fitted-gone : IsFitted new
  fitted-gone = record {
    superblock = subst (λ (super : Super). is_super super ≡ true) (sym gone.superblock) fits.superblock;
    subvolumes = subvolumes_gone;
    trees = trees_gone;
    numbered = numbered_gone;
    turn = turn_gone;
    groups = groups_gone;
    tracked = subst (λ (quota : Option QuotaState). IfSome quota IsTracked) (sym gone.quota) fits.tracked;
    bounded = bounded_gone;
    next = next_is ∙ fits.next ∙ ap (λ (super : Super). super.generation + 1) (sym gone.superblock);
    sizes = gone.sizes ∙ fits.sizes ∙ ap sizes_of (sym gone.superblock);
    drafted = subst (λ (n : ℕ). IsDrafted new.fs.land n) (sym next_is) gone.drafted;
  }
