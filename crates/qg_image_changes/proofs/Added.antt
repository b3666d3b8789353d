-- What is kept fits together where a subvolume was added, whose number comes next.
use Rattle.std.proofs.Common.{◌≡◌, ℕ, ◌+◌, ◌^◌, ◌<◌, ◌≤◌, Bool, true, false, List, [], ◌∷◌, ◌++◌, ◌*◌, arith, length}
use Rattle.std.proofs.Common.{map, Option, Some, None, refl, sym, ap, subst, ◌∙◌, inl, inr}
use Rattle.std.specs.Prelude.{◌⊎◌, ◌||◌, ◌&&◌, ◌==◌, IfSome, is_some, nat_le, nat_lt, not}
use Rattle.std.specs.List.{All, Contains}
use Rattle.std.specs.List.Sorted.{IsPermutation, IsStrictlyIncreasing}
use Rattle.std.proofs.lemmas.Bool.{cases_eq, cond-false, eq-eqb, eqb-true, le-leb, le-ltb, leb-false, lt-ltb, ltb-false}
use Rattle.std.proofs.lemmas.Bool.{ne_eqb}
use Rattle.std.proofs.lemmas.List.{length-append, length-map, map-append}
use Rattle.std.proofs.lemmas.List.Elements.{All-contains, Contains-append_cases, Contains-append_left}
use Rattle.std.proofs.lemmas.List.Sorted.{IsPermutation-append_left}
use Rattle.qg_num.specs.declared.refusal.Refusal.TheVariants as why
use Rattle.qg_items.specs.declared.tree.TheConstants.{FIRST_FREE, TOP_LEVEL}
use Rattle.qg_super.specs.declared.superblock.Super.{Super}
use Rattle.qg_super.specs.SuperText.{is_super, sizes_of}
use Rattle.qg_image.specs.ItemMeaning.{is_subvolume_number}
use Rattle.qg_image.specs.Table.{has_key, keys_of, with_value}
use Rattle.qg_image.specs.declared.quota.Group.{Group}
use Rattle.qg_image.specs.declared.quota.Quota.{Quota}
use Rattle.qg_image.specs.Members.{hierarchy_of, id_of_group, level_of_group}
use Rattle.qg_image.proofs.Contained.{contains_cases, contains_here, contains_later, none_contained}
use Rattle.qg_image.specs.Verdict.{is_group_number, most_groups, most_relations, most_subvolumes}
use Rattle.qg_machine.specs.Refusals.{refuse}
use Rattle.qg_reach.proofs.Layouts.{value_at-with_other, value_at-with_same}
use Rattle.qg_node_alloc.specs.Land.{IsDrafted}
use Rattle.qg_tree_read.specs.Tree.{Root}
use Rattle.qg_inodes.proofs.Tables.{increasing-with}
use Rattle.qg_open_image.specs.Standing.{AreNumbered, CanTurn, trees_of}
use Rattle.qg_open_image.proofs.Lists.{from-mapped, has-mapped}
use Rattle.qg_qgroups.specs.Faults.{create_fault}
use Rattle.qg_qgroups.specs.declared.state.QuotaState.{QuotaState}
use Rattle.qg_qgroups.specs.Changing.{groups_in, pairs_in}
use Rattle.qg_qgroups.specs.Tracked.{HoldsAtMost, quota_of}
use Rattle.qg_qgroups.proofs.Snapped.{group-free}
use Rattle.qg_open_image.specs.Editable.{AreGroups, AreGroupsOf}
use Rattle.qg_open_image.specs.declared.open_image.OpenImage.{OpenImage}
use Rattle.qg_open_image.specs.declared.open_image.KeptSubvolume.{KeptSubvolume}
use Rattle.qg_open_image.specs.Keeping.{AreSubvolumesBy, IsFitted, most_reserved, kept_at}
use Rattle.qg_image_changes.specs.Changing.{number_next, too_many_refusal}
use Rattle.qg_image_changes.proofs.GroupAdded.{AddsGroup, IsWithGroup, IsWithGroupIn, bounded-still, length-put}
use Rattle.qg_image_changes.proofs.GroupAdded.{sound-tracked}
use Rattle.qg_open_image.proofs.Looked.{hand-among, tree-listed}
use Rattle.qg_image_changes.proofs.Numbered.{next-above, next-greater, next-some}
use Rattle.qg_open_image.proofs.Tables.{all-of, all-put, key-listed, key-of-value, listed-key, put-into}

-- ---- bools

and_both : (a b : Bool) → a ≡ true → b ≡ true → (a && b) ≡ true
and_both true b first second = second
and_both false b first second = first

or_late : (a b : Bool) → b ≡ true → (a || b) ≡ true
or_late true b second = refl
or_late false b second = second

-- ---- behind all others

-- an entry of a greater number than all stands behind them
pub put-last : {A : Type 0} (n : ℕ) (value : A) (table : List (ℕ × A))
    → ((entry : ℕ × A) → Contains table entry → entry.0 < n) → with_value n value table ≡ table ++ (n, value) ∷ []
put-last n value [] less = refl
put-last {A} n value (entry ∷ table) less =
    let first = less entry (contains_here entry table) in
    cond-false _ _ _ (le-ltb n entry.0 (omega (arith, first)))
    ∙ cond-false _ _ _ (ne_eqb entry.0 n (λ is. omega (arith, first, is)))
    ∙ ap (λ (later : List (ℕ × A)). entry ∷ later)
    (put-last n value table (λ other has. less other (contains_later entry table other has)))

-- numbers that ascend, and one behind that is greater than all
numbered_keys : (numbers : List ℕ) → keys_of {A = ℕ} (map (λ number. (number, 0)) numbers) ≡ numbers
numbered_keys [] = refl
numbered_keys (number ∷ numbers) = ap (λ (ns : List ℕ). number ∷ ns) (numbered_keys numbers)

pub increasing-last : (numbers : List ℕ) (n : ℕ) → IsStrictlyIncreasing numbers
    → ((number : ℕ) → Contains numbers number → number < n) → IsStrictlyIncreasing (numbers ++ n ∷ [])
increasing-last numbers n up less =
    let table : List (ℕ × ℕ) = map (λ (number : ℕ). (number, 0)) numbers in
    let keys = numbered_keys numbers in
    let put = put-last n 0 table (λ entry has. less entry.0
    (subst (λ (ns : List ℕ). Contains ns entry.0) keys (has-mapped (λ (e : ℕ × ℕ). e.0) table entry has))) in
    let all : keys_of (with_value n 0 table) ≡ numbers ++ n ∷ [] =
    ap (λ (t : List (ℕ × ℕ)). keys_of t) put
    ∙ map-append (λ (e : ℕ × ℕ). e.0) table ((n, 0) ∷ [])
    ∙ ap (λ (ns : List ℕ). ns ++ n ∷ []) keys in
    subst (λ (ns : List ℕ). IsStrictlyIncreasing ns) all
    (increasing-with n table (subst (λ (ns : List ℕ). IsStrictlyIncreasing ns) (sym keys) up) 0)

-- ---- a group more

pub key-put : {A : Type 0} (n : ℕ) (value : A) (table : List (ℕ × A)) → has_key n (with_value n value table) ≡ true
key-put n value table = key-of-value n (with_value n value table) value (value_at-with_same n value table)

pub key-still : {A : Type 0} (n m : ℕ) (value : A) (table : List (ℕ × A)) → has_key m table ≡ true
    → has_key m (with_value n value table) ≡ true
key-still {A} n m value table there = elim (cases_eq n m) [
  | inl is ↦ subst (λ (k : ℕ). has_key k (with_value n value table) ≡ true) is (key-put n value table)
  | inr differ ↦
      ap (λ (o : Option A). is_some o) (value_at-with_other n m value table differ) ∙ there
]

-- ---- what too many are

-- the parts of what is refused as one too many
record AreFew (a b c d : Bool) : Type 0 where
  subvolumes : a ≡ false
  groups : b ≡ false
  pairs : c ≡ false
  number : d ≡ false

few_by : (a b c d : Bool) → refuse (a || b || c || d) why.TooMany ≡ None → AreFew a b c d
few_by true b c d is = absurd cc
few_by false true c d is = absurd cc
few_by false false true d is = absurd cc
few_by false false false true is = absurd cc
few_by false false false false is = record { subvolumes = refl; groups = refl; pairs = refl; number = refl }

module _ (old : OpenImage) (relations sub : ℕ) (comes : sub ≡ number_next old)
    (few : too_many_refusal old relations ≡ None)
  where
    few_parts : AreFew (nat_le most_subvolumes (length old.snapshots))
        (is_some (quota_of old.quota) && nat_le most_groups (length (groups_in (quota_of old.quota))))
        (nat_lt most_relations (length (pairs_in (quota_of old.quota)) + relations)) (nat_le (2 ^ 48) (number_next old))
    few_parts =
        few_by (nat_le most_subvolumes (length old.snapshots))
        (is_some (quota_of old.quota) && nat_le most_groups (length (groups_in (quota_of old.quota))))
        (nat_lt most_relations (length (pairs_in (quota_of old.quota)) + relations)) (nat_le (2 ^ 48) (number_next old))
        few

    pub few-subvolumes : length old.snapshots < most_subvolumes
    few-subvolumes = leb-false most_subvolumes (length old.snapshots) few_parts.subvolumes

    -- while quota is on
    pub few-groups : (quota : Quota) → quota_of old.quota ≡ Some quota → length quota.groups < most_groups
    few-groups quota on =
        let fewer : nat_le most_groups (length (keys_of quota.groups)) ≡ false =
        ap (λ (q : Option Quota). is_some q && nat_le most_groups (length (groups_in q))) (sym on) ∙ few_parts.groups in
        let under = leb-false most_groups (length (keys_of quota.groups)) fewer in
        let many = length-map quota.groups (λ (e : ℕ × Group). e.0) in
        omega (arith, under, many)

    pub few-pairs : (quota : Quota) → quota_of old.quota ≡ Some quota → length quota.pairs + relations ≤ most_relations
    few-pairs quota on =
        let fewer : nat_lt most_relations (length quota.pairs + relations) ≡ false =
        ap (λ (q : Option Quota). nat_lt most_relations (length (pairs_in q) + relations)) (sym on) ∙ few_parts.pairs in
        ltb-false most_relations (length quota.pairs + relations) fewer

    pub below : sub < 2 ^ 48
    below =
        let under = leb-false (2 ^ 48) (number_next old) few_parts.number in
        omega (arith, under, comes)

    pub number-good : is_subvolume_number sub ≡ true
    unfolding is_subvolume_number
    number-good =
        let some = next-some (keys_of old.snapshots) (groups_in (quota_of old.quota)) in
        let low : 256 ≤ sub = omega (arith, some, comes) in
        or_late (sub == TOP_LEVEL) (nat_le FIRST_FREE sub && nat_lt sub (2 ^ 48))
        (and_both (nat_le FIRST_FREE sub) (nat_lt sub (2 ^ 48)) (le-leb FIRST_FREE sub low)
        (lt-ltb sub (2 ^ 48) below))

    pub level-none : (level_of_group sub == 0) ≡ true
    level-none = let under = below in eq-eqb (level_of_group sub) 0 (omega (arith, under))

    pub level-lowest : level_of_group sub ≡ 0
    level-lowest = eqb-true (level_of_group sub) 0 level-none

    -- there is no group of it
    pub group-none : (quota : Quota) → quota_of old.quota ≡ Some quota → has_key sub quota.groups ≡ false
    group-none quota on = by (has_key sub quota.groups) refl where
      by : (found : Bool) → has_key sub quota.groups ≡ found → found ≡ false
      by false is = refl
      by true is =
          let has : Contains (groups_in (quota_of old.quota)) sub =
          subst (λ (q : Option Quota). Contains (groups_in q) sub) (sym on) (key-listed sub quota.groups is) in
          let less = next-above (keys_of old.snapshots) (groups_in (quota_of old.quota)) sub has level-none in
          absurd (omega (arith, less, comes))

    -- so one may be made, while quota is on
    free_by : (tracked : Option QuotaState) → quota_of tracked ≡ quota_of old.quota
        → IfSome tracked (λ state. create_fault (hierarchy_of state.quota) sub ≡ None)
    free_by None same = tt
    free_by (Some state) same = group-free state.quota sub (group-none state.quota (sym same))

    pub group-may-come : (tracked : Option QuotaState) → tracked ≡ old.quota
        → IfSome tracked (λ state. create_fault (hierarchy_of state.quota) sub ≡ None)
    group-may-come tracked same = free_by tracked (ap (λ (q : Option QuotaState). quota_of q) same)

-- What was added to what is kept: behind the other trees one of the next number, with its snapshot, and while quota is
-- on its group, with so many relations at the most; the snapshots of others have the numbers that they had, and nothing
-- else that must fit changed
pub record IsAdded (old new : OpenImage) (relations sub snapshot : ℕ) (tree : Root) : Type 0 where
  pub superblock : new.superblock ≡ old.superblock
  pub hand : new.fs.tree ≡ old.fs.tree
  pub others : new.fs.others.items ≡ old.fs.others.items ++ tree ∷ []
  pub owner : tree.owner ≡ sub
  pub next : tree.next ≡ old.fs.tree.next
  pub earlier : List (ℕ × KeptSubvolume)
  pub keys : keys_of earlier ≡ keys_of old.snapshots
  pub copied : All (λ entry. entry.1.last_snapshot ≤ old.fs.tree.next) earlier
  pub snapshots : new.snapshots ≡ earlier ++ (sub, kept_at snapshot) ∷ []
  pub dated : snapshot ≤ old.fs.tree.next
  pub groups : AddsGroup old new sub relations
  pub pending : new.pending ≡ old.pending
  pub sizes : new.fs.land.space.sizes ≡ old.fs.land.space.sizes
  pub drafted : IsDrafted new.fs.land old.fs.tree.next

module _ (old new : OpenImage) (relations sub snapshot : ℕ) (tree : Root) (fits : IsFitted old)
    (comes : sub ≡ number_next old) (few : too_many_refusal old relations ≡ None)
    (added : IsAdded old new relations sub snapshot tree) where
  -- the number is greater than all, and one that a subvolume may have
  pub greater : (number : ℕ) → Contains (keys_of old.snapshots) number → number < sub
  greater number has =
      let less = next-greater (keys_of old.snapshots) (groups_in (quota_of old.quota)) number has in
      omega (arith, less, comes)

  number_known : (number : ℕ) → Contains (keys_of old.snapshots) number → is_subvolume_number number ≡ true
  number_known number has =
      let entry = from-mapped (λ (e : ℕ × KeptSubvolume). e.0) old.snapshots number has in
      subst (λ (n : ℕ). is_subvolume_number n ≡ true) entry.2
      (All-contains (λ (e : ℕ × KeptSubvolume). is_subvolume_number e.0 ≡ true) old.snapshots entry.0
      fits.subvolumes.numbers entry.1)

  earlier_less : (entry : ℕ × KeptSubvolume) → Contains added.earlier entry → entry.0 < sub
  earlier_less entry has =
      greater entry.0 (subst (λ (keys : List ℕ). Contains keys entry.0) added.keys
      (has-mapped (λ (e : ℕ × KeptSubvolume). e.0) added.earlier entry has))

  snapshots_put : new.snapshots ≡ with_value sub (kept_at snapshot) added.earlier
  snapshots_put = added.snapshots ∙ sym (put-last sub (kept_at snapshot) added.earlier earlier_less)

  next_is : new.fs.tree.next ≡ old.fs.tree.next
  next_is = ap (λ (t : Root). t.next) added.hand

  earlier_up : IsStrictlyIncreasing (keys_of added.earlier)
  earlier_up = subst (λ (ns : List ℕ). IsStrictlyIncreasing ns) (sym added.keys) fits.subvolumes.ascending

  earlier_listed : (entry : ℕ × KeptSubvolume) → Contains added.earlier entry → Contains (keys_of old.snapshots) entry.0
  earlier_listed entry has =
      subst (λ (keys : List ℕ). Contains keys entry.0) added.keys
      (has-mapped (λ (e : ℕ × KeptSubvolume). e.0) added.earlier entry has)

  entry_cases : (entry : ℕ × KeptSubvolume) → Contains new.snapshots entry
      → ((sub, kept_at snapshot) ≡ entry) ⊎ Contains added.earlier entry
  entry_cases entry has =
      put-into sub (kept_at snapshot) added.earlier entry
      (subst (λ (table : List (ℕ × KeptSubvolume)). Contains table entry) snapshots_put has)

  -- the numbers
  pub keys-added : keys_of new.snapshots ≡ keys_of old.snapshots ++ sub ∷ []
  keys-added =
      ap (λ (table : List (ℕ × KeptSubvolume)). keys_of table) added.snapshots
      ∙ map-append (λ (e : ℕ × KeptSubvolume). e.0) added.earlier ((sub, kept_at snapshot) ∷ [])
      ∙ ap (λ (ns : List ℕ). ns ++ sub ∷ []) added.keys

  key_kept : (number : ℕ) → Contains (keys_of old.snapshots) number → Contains (keys_of new.snapshots) number
  key_kept number has =
      subst (λ (ns : List ℕ). Contains ns number) (sym keys-added)
      (Contains-append_left (keys_of old.snapshots) (sub ∷ []) number has)

  many_less : length new.snapshots ≤ most_subvolumes
  many_less =
      let first = length-map new.snapshots (λ (e : ℕ × KeptSubvolume). e.0) in
      let second = length-map old.snapshots (λ (e : ℕ × KeptSubvolume). e.0) in
      let all = ap (λ (ns : List ℕ). length ns) keys-added in
      let parts = length-append (keys_of old.snapshots) (sub ∷ []) in
      let fewer = few-subvolumes old relations sub comes few in
      omega (arith, first, second, all, parts, fewer)

  pub subvolumes-added : AreSubvolumesBy new.fs.tree.next new.snapshots
  subvolumes-added = record {
    few = many_less;
    ascending = subst (λ (table : List (ℕ × KeptSubvolume)). IsStrictlyIncreasing (keys_of table)) (sym snapshots_put)
        (increasing-with sub added.earlier earlier_up (kept_at snapshot));
    numbers = all-of (λ (e : ℕ × KeptSubvolume). is_subvolume_number e.0 ≡ true) new.snapshots
        (λ entry has. elim (entry_cases entry has) [
          | inl own ↦ subst (λ (e : ℕ × KeptSubvolume). is_subvolume_number e.0 ≡ true) own
              (number-good old relations sub comes few)
          | inr there ↦ number_known entry.0 (earlier_listed entry there)
        ]);
    top_level = listed-key TOP_LEVEL new.snapshots
        (key_kept TOP_LEVEL (key-listed TOP_LEVEL old.snapshots fits.subvolumes.top_level));
    copied = all-of (λ (e : ℕ × KeptSubvolume). e.1.last_snapshot ≤ new.fs.tree.next) new.snapshots
        (λ entry has. elim (entry_cases entry has) [
          | inl own ↦ let same = ap (λ (e : ℕ × KeptSubvolume). e.1.last_snapshot) own in
              let dated = added.dated in
              let next = next_is in
              omega (arith, same, dated, next)
          | inr there ↦
              let dated = All-contains (λ (e : ℕ × KeptSubvolume). e.1.last_snapshot ≤ old.fs.tree.next)
              added.earlier entry added.copied there in
              let next = next_is in
              omega (arith, dated, next)
        ]);
  }

  pub trees-added : IsPermutation (map (λ (t : Root). t.owner) (trees_of new.fs)) (keys_of new.snapshots)
  trees-added =
      let owners : map (λ (t : Root). t.owner) (trees_of new.fs)
      ≡ map (λ (t : Root). t.owner) (trees_of old.fs) ++ sub ∷ [] =
      (λ i. (added.hand i).owner ∷ map (λ (t : Root). t.owner) (added.others i))
      ∙ ap (λ (ns : List ℕ). old.fs.tree.owner ∷ ns)
      (map-append (λ (t : Root). t.owner) old.fs.others.items (tree ∷ []))
      ∙ ap (λ (n : ℕ). old.fs.tree.owner ∷ (map (λ (t : Root). t.owner) old.fs.others.items ++ n ∷ [])) added.owner in
      subst (λ (ns : List ℕ). IsPermutation ns (keys_of new.snapshots)) (sym owners)
      (subst (λ (ns : List ℕ). IsPermutation (map (λ (t : Root). t.owner) (trees_of old.fs) ++ sub ∷ []) ns)
      (sym keys-added)
      (IsPermutation-append_left (sub ∷ []) (map (λ (t : Root). t.owner) (trees_of old.fs)) (keys_of old.snapshots)
      fits.trees))

  other_cases : (other : Root) → Contains new.fs.others.items other
      → Contains old.fs.others.items other ⊎ (tree ≡ other)
  other_cases other has = elim (Contains-append_cases old.fs.others.items (tree ∷ []) other
      (subst (λ (trees : List Root). Contains trees other) added.others has)) [
        | inl there ↦ inl there
        | inr last ↦ elim (contains_cases tree [] other last) [
          | inl own ↦ inr own
          | inr none ↦ absurd (none_contained other none)
        ]
      ]

  pub numbered-added : AreNumbered new.fs
  numbered-added = record {
    ascending = subst (λ (trees : List Root). IsStrictlyIncreasing (map (λ (t : Root). t.owner) trees))
        (sym added.others)
        (subst (λ (ns : List ℕ). IsStrictlyIncreasing ns)
        (sym (map-append (λ (t : Root). t.owner) old.fs.others.items (tree ∷ [])))
        (increasing-last (map (λ (t : Root). t.owner) old.fs.others.items) tree.owner fits.numbered.ascending
        (λ number has.
        let found = from-mapped (λ (t : Root). t.owner) old.fs.others.items number has in
        let listed = tree-listed old fits found.0 (contains_later old.fs.tree old.fs.others.items found.0 found.1) in
        let less = greater found.0.owner listed in
        let own = added.owner in
        let same = found.2 in
        omega (arith, less, own, same))));
    apart_at = λ other has same. elim (other_cases other has) [
      | inl there ↦ fits.numbered.apart_at other there (same ∙ ap (λ (t : Root). t.owner) added.hand)
      | inr own ↦
          let less = greater old.fs.tree.owner (tree-listed old fits old.fs.tree (hand-among old.fs)) in
          let number = added.owner in
          let here = ap (λ (t : Root). t.owner) own in
          let hand = ap (λ (t : Root). t.owner) added.hand in
          omega (arith, less, number, here, same, hand)
    ];
  }

  pub turn-added : CanTurn new.fs
  turn-added = record {
    next = λ other has. elim (other_cases other has) [
      | inl there ↦ fits.turn.next other there ∙ sym next_is
      | inr own ↦ ap (λ (t : Root). t.next) (sym own) ∙ added.next ∙ sym next_is
    ];
    owner = λ other has. elim (other_cases other has) [
      | inl there ↦ fits.turn.owner other there
      | inr own ↦ subst (λ (t : Root). is_subvolume_number t.owner ≡ true) own
          (ap is_subvolume_number added.owner ∙ (number-good old relations sub comes few))
    ];
  }

  group_number : is_group_number sub ≡ true
  group_number =
      let id : id_of_group sub ≡ sub = let under = below old relations sub comes few in omega (arith, under) in
      or_late (not (level_of_group sub == 0)) (is_subvolume_number (id_of_group sub))
      (ap is_subvolume_number id ∙ (number-good old relations sub comes few))

  -- the groups, while quota is on
  module _ (before after : Quota) (on : quota_of old.quota ≡ Some before) (still_on : quota_of new.quota ≡ Some after)
      (grown : IsWithGroup old.fs.tree.next sub relations before after) where
    fits_before : AreGroups old.fs.tree.next (keys_of old.snapshots) before
    fits_before =
        subst (λ (q : Option Quota). AreGroupsOf old.fs.tree.next (keys_of old.snapshots) q) on fits.groups

    -- what holds of the groups with this one holds of those that are there then
    groups_so : (P : List (ℕ × Group) → Type 0) → P (with_value sub grown.group before.groups) → P after.groups
    groups_so P holds = subst P (sym grown.groups) holds

    own_group : (number : ℕ) → Contains (keys_of old.snapshots ++ sub ∷ []) number
        → has_key number (with_value sub grown.group before.groups) ≡ true
    own_group number has = elim (Contains-append_cases (keys_of old.snapshots) (sub ∷ []) number has) [
      | inl there ↦ key-still sub number grown.group before.groups
          (All-contains (λ (n : ℕ). has_key n before.groups ≡ true) (keys_of old.snapshots) number fits_before.own
          there)
      | inr last ↦ elim (contains_cases sub [] number last) [
        | inl own ↦ subst (λ (n : ℕ). has_key n (with_value sub grown.group before.groups) ≡ true) own
            (key-put sub grown.group before.groups)
        | inr none ↦ absurd (none_contained number none)
      ]
    ]

    groups_on : AreGroups new.fs.tree.next (keys_of new.snapshots) after
    groups_on = record {
      few =
          let more = length-put sub grown.group before.groups in
          let same = ap (λ (groups : List (ℕ × Group)). length groups) grown.groups in
          let fewer = few-groups old relations sub comes few before on in
          omega (arith, more, same, fewer);
      ascending = groups_so (λ (groups : List (ℕ × Group)). IsStrictlyIncreasing (keys_of groups))
          (increasing-with sub before.groups fits_before.ascending grown.group);
      numbers = groups_so (λ (groups : List (ℕ × Group)). All (λ (e : ℕ × Group). is_group_number e.0 ≡ true) groups)
          (all-put (λ (e : ℕ × Group). is_group_number e.0 ≡ true) sub grown.group before.groups group_number
          fits_before.numbers);
      own = subst (λ (ns : List ℕ). All (λ (n : ℕ). has_key n after.groups ≡ true) ns) (sym keys-added)
          (groups_so (λ (groups : List (ℕ × Group)).
          All (λ (n : ℕ). has_key n groups ≡ true) (keys_of old.snapshots ++ sub ∷ []))
          (all-of (λ (n : ℕ). has_key n (with_value sub grown.group before.groups) ≡ true)
          (keys_of old.snapshots ++ sub ∷ []) own_group));
      stamped = subst (λ (n : ℕ). All (λ (e : ℕ × Group). e.1.stamp ≤ n) after.groups) (sym next_is)
          (groups_so (λ (groups : List (ℕ × Group)). All (λ (e : ℕ × Group). e.1.stamp ≤ old.fs.tree.next) groups)
          (all-put (λ (e : ℕ × Group). e.1.stamp ≤ old.fs.tree.next) sub grown.group before.groups grown.stamp
          fits_before.stamped));
      few_pairs =
          let more = grown.pairs in
          let fewer = few-pairs old relations sub comes few before on in
          omega (arith, more, fewer);
      sound = sound-tracked new.quota after still_on added.groups.tracked;
    }

  groups_by : (before after : Option Quota) → quota_of old.quota ≡ before → quota_of new.quota ≡ after
      → IsWithGroupIn old.fs.tree.next sub relations before after
      → AreGroupsOf new.fs.tree.next (keys_of new.snapshots) after
  groups_by None None was is grown = tt
  groups_by None (Some after) was is grown = absurd grown
  groups_by (Some before) None was is grown = tt
  groups_by (Some before) (Some after) was is grown = groups_on before after was is grown

  pub groups-added : AreGroupsOf new.fs.tree.next (keys_of new.snapshots) (quota_of new.quota)
  groups-added = groups_by (quota_of old.quota) (quota_of new.quota) refl refl added.groups.quota

  bounded_added : IfSome new.quota (HoldsAtMost (new.pending * most_reserved))
  bounded_added =
      subst (λ (n : ℕ). IfSome new.quota (HoldsAtMost (n * most_reserved))) (sym added.pending)
      (bounded-still old new (old.pending * most_reserved) added.groups.held fits.bounded)

  pub fitted-added : IsFitted new
  fitted-added = record {
    superblock = subst (λ (super : Super). is_super super ≡ true) (sym added.superblock) fits.superblock;
    subvolumes = subvolumes-added;
    trees = trees-added;
    numbered = numbered-added;
    turn = turn-added;
    groups = groups-added;
    tracked = added.groups.tracked;
    bounded = bounded_added;
    next = next_is ∙ fits.next ∙ ap (λ (super : Super). super.generation + 1) (sym added.superblock);
    sizes = added.sizes ∙ fits.sizes ∙ ap sizes_of (sym added.superblock);
    drafted = subst (λ (n : ℕ). IsDrafted new.fs.land n) (sym next_is) added.drafted;
  }
