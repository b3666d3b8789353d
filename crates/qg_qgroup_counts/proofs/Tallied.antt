-- The tallies of groups, one set after the other.
use Rattle.std.proofs.Common.{◌≡◌, ℕ, ◌+◌, ◌<◌, ◌≤◌, Bool, true, List, [], ◌∷◌, ◌++◌, length, take, drop, get_or, map}
use Rattle.std.proofs.Common.{Some, ◌^◌, refl, sym, ap, subst}
use Rattle.std.proofs.Common.{◌∙◌, arith, ◌⊎◌, inl, inr}
use Rattle.std.specs.Prelude.{replicate, slice_get}
use Rattle.std.specs.List.{All, flat_map}
use Rattle.std.specs.List.Sorted.{IsStrictlyIncreasing}
use Rattle.std.proofs.lemmas.Bool.{cases_lt}
use Rattle.std.proofs.lemmas.List.{get_or-map, get_or_past, get_or-replicate, length-map, length-replicate, take_all}
use Rattle.std.proofs.lemmas.List.{take_more, drop_all, append-nil}
use Rattle.std.proofs.lemmas.Grind.{flat_map-append}
use Rattle.std.proofs.lemmas.List.Elements.{All-append, All-from_get_or, Contains-get_or}
use Rattle.std.proofs.lemmas.Option.{slice_get-get_or}
use Rattle.qg_num.specs.declared.counters.Counters.{Counters}
use Rattle.qg_qgroup_counts.specs.Sets.{AreMembers, row_of}
use Rattle.qg_qgroup_counts.specs.Above.{list_at}
use Rattle.qg_qgroup_counts.specs.declared.counting.Portion.{Portion}
use Rattle.qg_qgroup_counts.specs.declared.groups.Tally.{Tally}
use Rattle.qg_qgroup_counts.specs.Portions.{given, bytes_where, sum_where, member_count, nothing, HasRoom}
use Rattle.qg_qgroup_counts.specs.Groups.{is_above, passing_count, meets, is_within, counted_for, counted_sets, times}
use Rattle.qg_qgroup_counts.specs.Groups.{with_hits, none}
use Rattle.qg_qgroup_counts.specs.Groups.{AreWithin, IsUnseen, HaveHits}
use Rattle.qg_qgroup_counts.proofs.SetWeights.{given_is, counters_same, sum_start, sum_le, sum_next, take_le}
use Rattle.qg_qgroup_counts.proofs.Members.{members_below, many}
use Rattle.qg_qgroup_counts.proofs.Hits.{all_is, passing_is, passing_le, times_named}

-- what the first sets count of each group
pub record TalliedFirst (rows above : List (List ℕ)) (sums : List ℕ) (groups n : ℕ) (tallies : List Tally) : Type
    0 where
  pub all : length tallies ≡ groups
  pub seen : All (IsUnseen n) tallies
  pub each : (k : ℕ) → k < groups → (get_or tallies k none).counters
      ≡ counted_sets rows (length above) (take n sums) (is_above above k)

pub tallied_none : (rows above : List (List ℕ)) (sums : List ℕ) (groups : ℕ) (tallies : List Tally)
    → tallies ≡ replicate groups none → TalliedFirst rows above sums groups 0 tallies
tallied_none rows above sums groups tallies is = record {
  all = ap length is ∙ length-replicate groups none;
  seen = All-from_get_or (IsUnseen 0) tallies none unseen;
  each = λ k short.
      ap (λ (t : Tally). t.counters) (first k short)
      ∙ counters_same nothing (counted_sets rows (length above) [] (is_above above k))
      (sum_start (meets (is_above above k) rows (length above)))
      (sum_start (is_within (is_above above k) rows (length above)));
} where
  first : (k : ℕ) → k < groups → get_or tallies k none ≡ none
  first k short = ap (λ (now : List Tally). get_or now k none) is ∙ get_or-replicate groups k none none short

  unseen : (k : ℕ) → k < length tallies → IsUnseen 0 (get_or tallies k none)
  unseen k short =
      let long : length tallies ≡ groups = ap length is ∙ length-replicate groups none in
      let same = ap (λ (t : Tally). t.seen) (first k (omega (arith, short, long))) in
      omega (arith, same)

-- the bytes of one set more can be counted
pub tallied_room : (rows above : List (List ℕ)) (sums : List ℕ) (groups n : ℕ) (tallies : List Tally) → n < length sums
    → sum_where (λ _. true) 0 sums < 2 ^ 64 → TalliedFirst rows above sums groups n tallies
    → All (λ tally. HasRoom (get_or sums n 0) tally.counters) tallies
tallied_room rows above sums groups n tallies short small first =
    All-from_get_or (λ (tally : Tally). HasRoom (get_or sums n 0) tally.counters) tallies none each where
      room : (test : ℕ → Bool) (sum : ℕ) → sum ≡ sum_where test 0 (take n sums) → sum + get_or sums n 0 < 2 ^ 64
      room test sum is =
          omega (
            arith,
            is,
            sum_le test 0 (take n sums),
            sum_next (λ _. true) sums n short,
            given_is true (get_or sums n 0) refl,
            take_le (λ _. true) 0 (n + 1) sums,
            small,
          )

      each : (k : ℕ) → k < length tallies → HasRoom (get_or sums n 0) (get_or tallies k none).counters
      each k inside =
          let is = first.each k (omega (arith, inside, first.all)) in (
            room (meets (is_above above k) rows (length above)) (get_or tallies k none).counters.rfer
                (ap (λ (c : Counters). c.rfer) is),
            room (is_within (is_above above k) rows (length above)) (get_or tallies k none).counters.excl
                (ap (λ (c : Counters). c.excl) is),
          )

once_all : (above : List (List ℕ)) → All IsStrictlyIncreasing above → (place : ℕ)
    → IsStrictlyIncreasing (list_at above place)
once_all above once place = by (cases_lt place (length above)) where
  by : (place < length above) ⊎ (length above ≤ place) → IsStrictlyIncreasing (list_at above place)
  by (inl inside) = once place [] inside
  by (inr past) =
      subst IsStrictlyIncreasing (sym (get_or_past above place [] past)) (λ k short. absurd (omega (arith, short)))

-- those that members name are groups
pub named_within : (above : List (List ℕ)) (groups : ℕ) (members : List ℕ) → AreWithin groups above
    → All (λ group. group < groups) (flat_map (list_at above) members)
named_within above groups [] within = λ k d short. absurd (omega (arith, short))
named_within above groups (member ∷ members) within =
    All-append (λ group. group < groups) (list_at above member) (flat_map (list_at above) members)
    (λ k d short. within member (get_or (list_at above member) k d) (Contains-get_or (list_at above member) k d short))
    (named_within above groups members within)

-- what one member more names is put at the end
pub named_more : (above : List (List ℕ)) (members : List ℕ) (i n : ℕ) (old items new : List ℕ) → i < length members
    → n ≡ length old → items ≡ list_at above (get_or members i 0) → new ≡ take n old ++ items ++ drop n old
    → old ≡ flat_map (list_at above) (take i members) → new ≡ flat_map (list_at above) (take (i + 1) members)
named_more above members i n old items new short end is put before =
    put ∙ ap (λ (list : List ℕ). list ++ items ++ drop n old) (take_all n old (omega (arith, end)))
    ∙ ap (λ (list : List ℕ). old ++ items ++ list) (drop_all n old (omega (arith, end)))
    ∙ append-nil (old ++ items) ∙ ap (λ (list : List ℕ). list ++ items) before
    ∙ ap (λ (list : List ℕ). flat_map (list_at above) (take i members) ++ list) (is
    ∙ sym (append-nil (list_at above (get_or members i 0))))
    ∙ sym (flat_map-append (list_at above) (take i members) (get_or members i 0 ∷ []))
    ∙ ap (flat_map (list_at above)) (sym (take_more members i 0 short))

-- a set has hit the groups that its members name
pub tallied_more : (rows above : List (List ℕ)) (sums : List ℕ) (groups n : ℕ) (members named : List ℕ)
    (old new : List Tally)
    → n < length sums → All IsStrictlyIncreasing above → AreMembers (row_of rows n) (length above) members
    → named ≡ flat_map (list_at above) members → TalliedFirst rows above sums groups n old
    → HaveHits named n (length members) (get_or sums n 0) old new → TalliedFirst rows above sums groups (n + 1) new
tallied_more rows above sums groups n members named old new short once are is first hits = record {
  all = hits.same ∙ first.all;
  seen = hits.seen;
  each = each;
} where
  passing_now : (k : ℕ) → times named k ≡ passing_count (is_above above k) (row_of rows n) (length above)
  passing_now k =
      ap (λ (list : List ℕ). times list k) is ∙ times_named above k members (once_all above once)
      ∙ passing_is (is_above above k) (row_of rows n) (length above) members are
      (members_below (row_of rows n) (length above) members are)

  many_now : length members ≡ member_count (row_of rows n) (length above)
  many_now = many (row_of rows n) (length above) members are

  few : (k : ℕ) → passing_count (is_above above k) (row_of rows n) (length above)
      ≤ member_count (row_of rows n) (length above)
  few k =
      let is_passing =
      passing_is (is_above above k) (row_of rows n) (length above) members are
      (members_below (row_of rows n) (length above) members are) in
      omega (arith, is_passing, passing_le (is_above above k) members, many_now)

  each : (k : ℕ) → k < groups → (get_or new k none).counters
      ≡ counted_sets rows (length above) (take (n + 1) sums) (is_above above k)
  each k inside =
      hits.each k (omega (arith, inside, first.all))
      ∙ ap (λ t. with_hits t (length members) (get_or sums n 0) (get_or old k none).counters) (passing_now k)
      ∙ ap (λ m. with_hits (passing_count (is_above above k) (row_of rows n) (length above)) m (get_or sums n 0)
      (get_or old k none).counters)
      many_now
      ∙ ap (with_hits (passing_count (is_above above k) (row_of rows n) (length above))
      (member_count (row_of rows n) (length above)) (get_or sums n 0))
      (first.each k inside)
      ∙ counters_same
      (with_hits (passing_count (is_above above k) (row_of rows n) (length above))
      (member_count (row_of rows n) (length above)) (get_or sums n 0)
      (counted_sets rows (length above) (take n sums) (is_above above k)))
      (counted_sets rows (length above) (take (n + 1) sums) (is_above above k))
      (sym (sum_next (meets (is_above above k) rows (length above)) sums n short))
      (ap (λ b. sum_where (is_within (is_above above k) rows (length above)) 0 (take n sums) + given b
      (get_or sums n 0))
      (all_is (passing_count (is_above above k) (row_of rows n) (length above))
      (member_count (row_of rows n) (length above)) (few k))
      ∙ sym (sum_next (is_within (is_above above k) rows (length above)) sums n short))

-- when all sets are through, each group has its counters
pub tallied_all : (rows above : List (List ℕ)) (portions : List Portion) (sums : List ℕ) (groups n : ℕ)
    (tallies : List Tally)
    (counters : List Counters) → ((test : ℕ → Bool) → sum_where test 0 sums ≡ bytes_where test portions)
    → length sums ≤ n → counters ≡ map (λ (tally : Tally). tally.counters) tallies
    → TalliedFirst rows above sums groups n tallies
    → (k : ℕ) → k < groups
    → slice_get counters k ≡ Some (counted_for rows (length above) portions (is_above above k))
tallied_all rows above portions sums groups n tallies counters same past is first k short =
    let inside : k < length tallies = omega (arith, short, first.all) in
    let long = ap length is ∙ length-map tallies (λ (tally : Tally). tally.counters) in
    let test = is_above above k in
    slice_get-get_or counters k nothing (omega (arith, inside, long))
    ∙ ap Some (ap (λ (list : List Counters). get_or list k nothing) is
    ∙ get_or-map (λ (tally : Tally). tally.counters) tallies k none nothing inside ∙ first.each k short
    ∙ ap (λ (ns : List ℕ). counted_sets rows (length above) ns test) (take_all n sums past)
    ∙ counters_same (counted_sets rows (length above) sums test) (counted_for rows (length above) portions test)
    (same (meets test rows (length above))) (same (is_within test rows (length above))))
