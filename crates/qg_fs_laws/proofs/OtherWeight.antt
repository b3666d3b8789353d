-- What the items of the root and the quota tree take, each once, though they are listed twice.
use Rattle.std.proofs.Common.{◌≡◌, ℕ, ◌+◌, ◌*◌, ◌<◌, Bool, true, false, List, [], ◌∷◌, ◌++◌, map, length, Option, None}
use Rattle.std.proofs.Common.{Some}
use Rattle.std.proofs.Common.{refl, sym, ap, ◌∙◌, arith, inl, inr}
use Rattle.std.specs.Prelude.{◌&&◌, ◌||◌, ◌==◌, All}
use Rattle.std.specs.List.{AllByRecursion, Contains, flat_map}
use Rattle.std.specs.List.Sorted.{IsStrictlyIncreasing, IsStrictlySortedBy}
use Rattle.std.specs.Ordering.{is_eq, nat_cmp}
use Rattle.std.specs.declared.cmp.Ordering.TheVariants.{Less}
use Rattle.std.proofs.lemmas.Bool.{and_from, and_parts, cases_Bool, cond-false, eq-eqb, eqb-true, or_from, or_left}
use Rattle.std.proofs.lemmas.Bool.{or_right}
use Rattle.std.proofs.lemmas.Bool.{true≢false}
use Rattle.std.proofs.lemmas.Bool.Decides.{nat_tests}
use Rattle.std.proofs.lemmas.List.{append-nil, append_assoc, length-map}
use Rattle.std.proofs.lemmas.List.Elements.{All-contains}
use Rattle.std.proofs.lemmas.List.Folds.{list_any-append}
use Rattle.std.proofs.lemmas.Map.Keys.{sorted_from_strictly_increasing, sorted_head, sorted_tail}
use Rattle.qg_items.specs.declared.tree.TheConstants.{EXTENT_TREE, QUOTA_TREE}
use Rattle.qg_image.specs.ItemMeaning.{is_subvolume_number}
use Rattle.qg_image.specs.Table.{keys_of}
use Rattle.qg_image.specs.declared.quota.Group.{Group}
use Rattle.qg_image.specs.declared.quota.Quota.{Quota}
use Rattle.qg_image.specs.Record.{Record, RootOf, Status, InfoOf, LimitOf, RelationOf, record_bytes, records_bytes}
use Rattle.qg_image.specs.Record.{same_record}
use Rattle.qg_image.specs.Members.{hierarchy_of, level_of_group}
use Rattle.qg_image.specs.State.{State, Subvolume}
use Rattle.qg_image.proofs.Contained.{contains_here, contains_later}
use Rattle.qg_machine.specs.GroupChange.{has_pair}
use Rattle.qg_qgroups.specs.Groups.{IsSound, pair_cmp}
use Rattle.qg_qgroups.proofs.Sets.{equal_pairs}
use Rattle.qg_weighed.specs.Laws.{is_among}
use Rattle.qg_weighed.proofs.Distinct.{adds, bytes-alike, bytes-one}
use Rattle.qg_file_edits.proofs.Lists.{from-mapped}
use Rattle.qg_commit.specs.Trees.{quota_tree_bytes, root_tree_bytes}
use Rattle.qg_fs_laws.specs.Keeping.{other_names, other_weight}

-- ---- each once

or_twice : (b : Bool) → (b || b) ≡ b
or_twice true = refl
or_twice false = refl

-- records that are there twice take as much as once
bytes-twice : (records : List Record) → records_bytes (records ++ records) ≡ records_bytes records
bytes-twice records =
    bytes-alike (records ++ records) records
    (λ one. list_any-append (same_record one) records records ∙ or_twice (is_among records one))

bytes-new : (first : Record) (rest : List Record) → is_among rest first ≡ false
    → records_bytes (first ∷ rest) ≡ record_bytes first + records_bytes rest
bytes-new first rest new =
    let own : adds rest first ≡ record_bytes first = cond-false _ _ _ new in
    omega (arith, bytes-one first rest, own)

less_apart : (a b : ℕ) → nat_cmp a b ≡ Less → (a == b) ≡ false
less_apart a b less = grind (arith, nat_tests)

-- ---- roots

root_new : (sub : ℕ) (subs : List ℕ) (rest : List Record) → AllByRecursion (λ y. nat_cmp sub y ≡ Less) subs
    → is_among rest (RootOf sub) ≡ false → is_among (map RootOf subs ++ rest) (RootOf sub) ≡ false
root_new sub [] rest less new = new
root_new sub (other ∷ subs) rest less new =
    or_from (sub == other) (is_among (map RootOf subs ++ rest) (RootOf sub)) (less_apart sub other less.0)
    (root_new sub subs rest less.1 new)

-- a root that is none of these
root_other : (tree : ℕ) (subs : List ℕ) (rest : List Record)
    → ((sub : ℕ) → Contains subs sub → (tree == sub) ≡ false) → is_among rest (RootOf tree) ≡ false
    → is_among (map RootOf subs ++ rest) (RootOf tree) ≡ false
root_other tree [] rest apart new = new
root_other tree (sub ∷ subs) rest apart new =
    or_from (tree == sub) (is_among (map RootOf subs ++ rest) (RootOf tree)) (apart sub (contains_here sub subs))
    (root_other tree subs rest (λ other has. apart other (contains_later sub subs other has)) new)

roots-weigh : (subs : List ℕ) (rest : List Record) → IsStrictlySortedBy nat_cmp subs
    → ((sub : ℕ) → Contains subs sub → is_among rest (RootOf sub) ≡ false)
    → records_bytes (map RootOf subs ++ rest) ≡ 464 * length subs + records_bytes rest
roots-weigh [] rest sorted new = omega arith
roots-weigh (sub ∷ subs) rest sorted new =
    let head = root_new sub subs rest (sorted_head nat_cmp sub subs sorted) (new sub (contains_here sub subs)) in
    let one : records_bytes (RootOf sub ∷ map RootOf subs ++ rest) ≡ 464 + records_bytes (map RootOf subs ++ rest) =
    bytes-new (RootOf sub) (map RootOf subs ++ rest) head in
    let later = roots-weigh subs rest (sorted_tail nat_cmp sub subs sorted)
    (λ other has. new other (contains_later sub subs other has)) in
    omega (arith, one, later)

-- ---- relations

abbrev pairs_named : List (ℕ × ℕ) → List Record
pairs_named pairs = flat_map (λ pair. RelationOf pair.0 pair.1 ∷ RelationOf pair.1 pair.0 ∷ []) pairs

-- a relation goes up a level
abbrev Rises : ℕ × ℕ → Type 0
Rises pair = level_of_group pair.0 < level_of_group pair.1

and_turned : (x y : Bool) → (x && y) ≡ (y && x)
and_turned true true = refl
and_turned true false = refl
and_turned false true = refl
and_turned false false = refl

-- the keys of two relations that rise are never turned
never_turned : (a b : ℕ × ℕ) → Rises a → Rises b → ((a.0 == b.1) && (a.1 == b.0)) ≡ false
never_turned a b up up_too = elim (cases_Bool ((a.0 == b.1) && (a.1 == b.0))) [
  | inl same ↦
      let parts = and_parts (a.0 == b.1) (a.1 == b.0) same in
      let low = ap level_of_group (eqb-true a.0 b.1 parts.0) in
      let high = ap level_of_group (eqb-true a.1 b.0 parts.1) in
      absurd (omega (arith, up, up_too, low, high))
  | inr other ↦ other
]

-- and of two of which one goes before the other they differ
pairs_apart : (a b : ℕ × ℕ) → pair_cmp a b ≡ Less → ((a.0 == b.0) && (a.1 == b.1)) ≡ false
pairs_apart a b less = sym (equal_pairs a b) ∙ ap is_eq less

front_new : (pair : ℕ × ℕ) (pairs : List (ℕ × ℕ)) → AllByRecursion (λ y. pair_cmp pair y ≡ Less) pairs → Rises pair
    → AllByRecursion Rises pairs → is_among (pairs_named pairs) (RelationOf pair.0 pair.1) ≡ false
front_new pair [] less up rise = refl
front_new pair (other ∷ pairs) less up rise =
    let later = front_new pair pairs less.1 up rise.1 in
    or_from ((pair.0 == other.0) && (pair.1 == other.1))
    (((pair.0 == other.1) && (pair.1 == other.0)) || is_among (pairs_named pairs) (RelationOf pair.0 pair.1))
    (pairs_apart pair other less.0)
    (or_from ((pair.0 == other.1) && (pair.1 == other.0)) (is_among (pairs_named pairs) (RelationOf pair.0 pair.1))
    (never_turned pair other up rise.0) later)

back_new : (pair : ℕ × ℕ) (pairs : List (ℕ × ℕ)) → AllByRecursion (λ y. pair_cmp pair y ≡ Less) pairs → Rises pair
    → AllByRecursion Rises pairs → is_among (pairs_named pairs) (RelationOf pair.1 pair.0) ≡ false
back_new pair [] less up rise = refl
back_new pair (other ∷ pairs) less up rise =
    let later = back_new pair pairs less.1 up rise.1 in
    let turned = and_turned (pair.1 == other.0) (pair.0 == other.1) ∙ never_turned pair other up rise.0 in
    let same = and_turned (pair.1 == other.1) (pair.0 == other.0) ∙ pairs_apart pair other less.0 in
    or_from ((pair.1 == other.0) && (pair.0 == other.1))
    (((pair.1 == other.1) && (pair.0 == other.0)) || is_among (pairs_named pairs) (RelationOf pair.1 pair.0)) turned
    (or_from ((pair.1 == other.1) && (pair.0 == other.0)) (is_among (pairs_named pairs) (RelationOf pair.1 pair.0)) same
    later)

pairs-weigh : (pairs : List (ℕ × ℕ)) → IsStrictlySortedBy pair_cmp pairs → AllByRecursion Rises pairs
    → records_bytes (pairs_named pairs) ≡ 50 * length pairs
pairs-weigh [] sorted rise = omega arith
pairs-weigh (pair ∷ pairs) sorted rise =
    let less = sorted_head pair_cmp pair pairs sorted in
    let back : records_bytes (RelationOf pair.1 pair.0 ∷ pairs_named pairs) ≡ 25 + records_bytes (pairs_named pairs) =
    bytes-new (RelationOf pair.1 pair.0) (pairs_named pairs) (back_new pair pairs less rise.0 rise.1) in
    let front : records_bytes (RelationOf pair.0 pair.1 ∷ RelationOf pair.1 pair.0 ∷ pairs_named pairs)
    ≡ 25 + records_bytes (RelationOf pair.1 pair.0 ∷ pairs_named pairs) =
    bytes-new (RelationOf pair.0 pair.1) (RelationOf pair.1 pair.0 ∷ pairs_named pairs)
    (or_from ((pair.0 == pair.1) && (pair.1 == pair.0)) (is_among (pairs_named pairs) (RelationOf pair.0 pair.1))
    (never_turned pair pair rise.0 rise.0) (front_new pair pairs less rise.0 rise.1)) in
    let later = pairs-weigh pairs (sorted_tail pair_cmp pair pairs sorted) rise.1 in
    omega (arith, back, front, later)

-- relations that are there rise
each_rises : (pairs : List (ℕ × ℕ))
    → ((member parent : ℕ) → has_pair member parent pairs ≡ true → level_of_group member < level_of_group parent)
    → AllByRecursion Rises pairs
each_rises [] rising = tt
each_rises (pair ∷ pairs) rising =
    let own =
    and_from (pair.0 == pair.0) (pair.1 == pair.1) (eq-eqb pair.0 pair.0 refl) (eq-eqb pair.1 pair.1 refl) in (
      rising pair.0 pair.1 (or_left ((pair.0 == pair.0) && (pair.1 == pair.1)) (has_pair pair.0 pair.1 pairs) own),
      each_rises pairs (λ member parent has. rising member parent
          (or_right ((member == pair.0) && (parent == pair.1)) (has_pair member parent pairs) has)),
    )

no_info : (group : ℕ) (pairs : List (ℕ × ℕ)) → is_among (pairs_named pairs) (InfoOf group) ≡ false
no_info group [] = refl
no_info group (pair ∷ pairs) = no_info group pairs

no_limit : (group : ℕ) (pairs : List (ℕ × ℕ)) → is_among (pairs_named pairs) (LimitOf group) ≡ false
no_limit group [] = refl
no_limit group (pair ∷ pairs) = no_limit group pairs

pairs_no_status : (pairs : List (ℕ × ℕ)) → is_among (pairs_named pairs) Status ≡ false
pairs_no_status [] = refl
pairs_no_status (pair ∷ pairs) = pairs_no_status pairs

pairs_no_root : (tree : ℕ) (pairs : List (ℕ × ℕ)) → is_among (pairs_named pairs) (RootOf tree) ≡ false
pairs_no_root tree [] = refl
pairs_no_root tree (pair ∷ pairs) = pairs_no_root tree pairs

-- ---- groups

abbrev groups_named : List ℕ → List Record
groups_named groups = flat_map (λ group. InfoOf group ∷ LimitOf group ∷ []) groups

module _ (pairs : List (ℕ × ℕ)) where
  -- what groups and relations name
  abbrev both_named : List ℕ → List Record
  both_named groups = groups_named groups ++ pairs_named pairs

  info_new : (group : ℕ) (groups : List ℕ) → AllByRecursion (λ y. nat_cmp group y ≡ Less) groups
      → is_among (both_named groups) (InfoOf group) ≡ false
  info_new group [] less = no_info group pairs
  info_new group (other ∷ groups) less =
      or_from (group == other) (is_among (both_named groups) (InfoOf group)) (less_apart group other less.0)
      (info_new group groups less.1)

  limit_new : (group : ℕ) (groups : List ℕ) → AllByRecursion (λ y. nat_cmp group y ≡ Less) groups
      → is_among (both_named groups) (LimitOf group) ≡ false
  limit_new group [] less = no_limit group pairs
  limit_new group (other ∷ groups) less =
      or_from (group == other) (is_among (both_named groups) (LimitOf group)) (less_apart group other less.0)
      (limit_new group groups less.1)

  no_status : (groups : List ℕ) → is_among (both_named groups) Status ≡ false
  no_status [] = pairs_no_status pairs
  no_status (group ∷ groups) = no_status groups

  no_root : (tree : ℕ) (groups : List ℕ) → is_among (both_named groups) (RootOf tree) ≡ false
  no_root tree [] = pairs_no_root tree pairs
  no_root tree (group ∷ groups) = no_root tree groups

  groups-weigh : (groups : List ℕ) → IsStrictlySortedBy nat_cmp groups
      → records_bytes (both_named groups) ≡ 130 * length groups + records_bytes (pairs_named pairs)
  groups-weigh [] sorted = omega arith
  groups-weigh (group ∷ groups) sorted =
      let less = sorted_head nat_cmp group groups sorted in
      let second : records_bytes (LimitOf group ∷ both_named groups) ≡ 65 + records_bytes (both_named groups) =
      bytes-new (LimitOf group) (both_named groups) (limit_new group groups less) in
      let first : records_bytes (InfoOf group ∷ LimitOf group ∷ both_named groups)
      ≡ 65 + records_bytes (LimitOf group ∷ both_named groups) =
      bytes-new (InfoOf group) (LimitOf group ∷ both_named groups) (info_new group groups less) in
      let later = groups-weigh groups (sorted_tail nat_cmp group groups sorted) in
      omega (arith, first, second, later)

-- ---- numbers

other_than_quotas : (n : ℕ) → is_subvolume_number n ≡ true → (n == 8) ≡ false
unfolding is_subvolume_number
other_than_quotas n is = elim (cases_Bool (n == 8)) [
  | inl same ↦ absurd (true≢false (sym is ∙ ap is_subvolume_number (eqb-true n 8 same)))
  | inr other ↦ other
]

other_than_extents : (n : ℕ) → is_subvolume_number n ≡ true → (2 == n) ≡ false
unfolding is_subvolume_number
other_than_extents n is = elim (cases_Bool (2 == n)) [
  | inl same ↦ absurd (true≢false (sym is ∙ ap is_subvolume_number (sym (eqb-true 2 n same))))
  | inr other ↦ other
]

-- ---- both trees

-- what the root tree names besides the quota tree
abbrev own_named : List ℕ → List Record → List Record
own_named subs rest = RootOf EXTENT_TREE ∷ map RootOf subs ++ rest

-- what quota names
abbrev quota_named : List ℕ → List (ℕ × ℕ) → List Record
quota_named groups pairs = RootOf QUOTA_TREE ∷ Status ∷ groups_named groups ++ pairs_named pairs

own-weigh : (subs : List ℕ) (rest : List Record) → IsStrictlySortedBy nat_cmp subs
    → ((sub : ℕ) → Contains subs sub → is_subvolume_number sub ≡ true)
    → ((sub : ℕ) → Contains subs sub → is_among rest (RootOf sub) ≡ false)
    → is_among rest (RootOf EXTENT_TREE) ≡ false
    → records_bytes (own_named subs rest) ≡ 464 * (length subs + 1) + records_bytes rest
own-weigh subs rest sorted numbers new none =
    let extents = root_other EXTENT_TREE subs rest (λ sub has. other_than_extents sub (numbers sub has)) none in
    let first : records_bytes (own_named subs rest) ≡ 464 + records_bytes (map RootOf subs ++ rest) =
    bytes-new (RootOf EXTENT_TREE) (map RootOf subs ++ rest) extents in
    let roots = roots-weigh subs rest sorted new in
    omega (arith, first, roots)

both-weigh : (subs groups : List ℕ) (pairs : List (ℕ × ℕ)) → IsStrictlySortedBy nat_cmp subs
    → IsStrictlySortedBy nat_cmp groups → IsStrictlySortedBy pair_cmp pairs → AllByRecursion Rises pairs
    → ((sub : ℕ) → Contains subs sub → is_subvolume_number sub ≡ true)
    → records_bytes (own_named subs (quota_named groups pairs))
    ≡ 464 * (length subs + 2) + (57 + 130 * length groups + 50 * length pairs)
both-weigh subs groups pairs sorted sorted_groups sorted_pairs rise numbers =
    let own = own-weigh subs (quota_named groups pairs) sorted numbers
    (λ sub has. or_from (sub == 8) (is_among (both_named pairs groups) (RootOf sub))
    (other_than_quotas sub (numbers sub has)) (no_root pairs sub groups)) (no_root pairs EXTENT_TREE groups) in
    let quotas : records_bytes (quota_named groups pairs) ≡ 464 + records_bytes (Status ∷ both_named pairs groups) =
    bytes-new (RootOf QUOTA_TREE) (Status ∷ both_named pairs groups) (no_root pairs QUOTA_TREE groups) in
    let status : records_bytes (Status ∷ both_named pairs groups) ≡ 57 + records_bytes (both_named pairs groups) =
    bytes-new Status (both_named pairs groups) (no_status pairs groups) in
    omega (arith, own, quotas, status, groups-weigh pairs groups sorted_groups, pairs-weigh pairs sorted_pairs rise)

-- ---- what is named

names_on : (state : State) (quota : Quota) → state.quota ≡ Some quota
    → other_names state ≡ own_named (keys_of state.subvolumes) (quota_named (keys_of quota.groups) quota.pairs)
names_on state quota is =
    let roots = map RootOf (keys_of state.subvolumes) in
    let later = Status ∷ groups_named (keys_of quota.groups) ++ pairs_named quota.pairs in
    let told : other_names state ≡ RootOf EXTENT_TREE ∷ (roots ++ RootOf QUOTA_TREE ∷ []) ++ later =
    ap (λ (o : Option Quota). other_names (record state { quota = o })) is in
    told ∙ ap (λ (names : List Record). RootOf EXTENT_TREE ∷ names) (append_assoc roots (RootOf QUOTA_TREE ∷ []) later)

names_off : (state : State) → state.quota ≡ None → other_names state ≡ own_named (keys_of state.subvolumes) []
names_off state is =
    let roots = map RootOf (keys_of state.subvolumes) in
    let told : other_names state ≡ RootOf EXTENT_TREE ∷ (roots ++ []) ++ [] =
    ap (λ (o : Option Quota). other_names (record state { quota = o })) is in
    told ∙ ap (λ (names : List Record). RootOf EXTENT_TREE ∷ names) (append-nil (roots ++ []))

module _ (state : State) (ascending : IsStrictlyIncreasing (keys_of state.subvolumes))
    (numbers : All (λ entry. is_subvolume_number entry.0 ≡ true) state.subvolumes) where
  number : (sub : ℕ) → Contains (keys_of state.subvolumes) sub → is_subvolume_number sub ≡ true
  number sub has =
      let entry = from-mapped (λ (e : ℕ × Subvolume). e.0) state.subvolumes sub has in
      let there = All-contains (λ (e : ℕ × Subvolume). is_subvolume_number e.0 ≡ true) state.subvolumes entry.0
      numbers entry.1 in
      ap is_subvolume_number (sym entry.2) ∙ there

  subs_sorted : IsStrictlySortedBy nat_cmp (keys_of state.subvolumes)
  subs_sorted = sorted_from_strictly_increasing (keys_of state.subvolumes) ascending

  many : length (keys_of state.subvolumes) ≡ length state.subvolumes
  many = length-map state.subvolumes (λ (e : ℕ × Subvolume). e.0)

  weigh_by : (quota : Option Quota) → state.quota ≡ quota
      → ((found : Quota) → quota ≡ Some found
      → IsStrictlyIncreasing (keys_of found.groups) × IsSound (hierarchy_of found))
      → records_bytes (other_names state) ≡ root_tree_bytes (length state.subvolumes) quota + quota_tree_bytes quota
  weigh_by None is sound =
      let own = own-weigh (keys_of state.subvolumes) [] subs_sorted number (λ sub has. refl) refl in
      let named = ap records_bytes (names_off state is) in
      let count = many in
      let none : records_bytes [] ≡ 0 = refl in
      omega (arith, own, named, count, none)
  weigh_by (Some quota) is sound =
      let of = sound quota refl in
      let both = both-weigh (keys_of state.subvolumes) (keys_of quota.groups) quota.pairs subs_sorted
      (sorted_from_strictly_increasing (keys_of quota.groups) of.0) of.1.pairs (each_rises quota.pairs of.1.rising)
      number in
      let named = ap records_bytes (names_on state quota is) in
      let count = many in
      let count_groups = length-map quota.groups (λ (e : ℕ × Group). e.0) in
      omega (arith, both, named, count, count_groups)

  pub others-weigh : ((quota : Quota) → state.quota ≡ Some quota
      → IsStrictlyIncreasing (keys_of quota.groups) × IsSound (hierarchy_of quota))
      → other_weight (other_names state) state
      ≡ root_tree_bytes (length state.subvolumes) state.quota + quota_tree_bytes state.quota
  others-weigh sound = bytes-twice (other_names state) ∙ weigh_by state.quota refl sound
