-- References that ascend, each with its count: where one stands, how often it is there, and what an edit makes of that.
use Rattle.std.proofs.Common.{◌≡◌, ℕ, zero, suc, ◌+◌, ◌-◌, ◌<◌, ◌≤◌, Bool, true, false, List, [], ◌∷◌, ◌++◌, length}
use Rattle.std.proofs.Common.{take, get_or, set, append-nil, refl, sym, ap, subst, ◌∙◌, arith, ◌⊎◌, inl, inr, ltb}
use Rattle.std.specs.Prelude.{insert, remove, if◌then◌else◌}
use Rattle.std.specs.List.{All, AllPairs, sum_by, refill}
use Rattle.std.specs.List.Sorted.{IsPartitionedBy, IsPartitionPoint}
use Rattle.std.proofs.lemmas.Bool.{cases_Bool, cond-true, cond-false, ltb-true, ltb-false, true≢false}
use Rattle.std.proofs.Math.ListN.{length-set}
use Rattle.std.proofs.lemmas.List.Sums.{sum_by-cons, sum_by-set}
use Rattle.std.proofs.lemmas.List.Sorted.{IsPermutation-insert, IsPermutation-remove, All-permutation}
use Rattle.std.proofs.lemmas.List.Sorted.{sum_by-IsPermutation}
use Rattle.std.proofs.lemmas.List.{get_or_default, take_all, drop_all}
use Rattle.std.proofs.lemmas.List.Elements.{All-set}
use Rattle.std.proofs.lemmas.List.Edits.{length-insert, get_or-insert_at, get_or-insert_below, get_or-insert_above}
use Rattle.std.proofs.lemmas.List.Quantifiers.{all_pairs_remove}
use Rattle.qg_items.specs.declared.extent.Reference.{Reference}
use Rattle.qg_image.specs.Record.{same_reference}
use Rattle.qg_refs.specs.declared.counted.Counted.{Counted}
use Rattle.qg_refs.specs.Order.{precedes}
use Rattle.qg_refs.specs.Counts.{counted, count_of, Ascend, IsRefList, HasOneMore, HasSoManyMore}
use Rattle.qg_refs.proofs.RankOrder.{precedes_chain, precedes_differs, precedes_if_not, same_reference_is, same_itself}
use Rattle.qg_refs.proofs.RankOrder.{same_other_way}

-- ---- counts

-- what so many more of a reference add to the count of another
abbrev counted-by : ℕ → Reference → Reference → ℕ
counted-by more other x = if same_reference other x then more else 0

abbrev counted-one : Reference → Reference → ℕ
counted-one = counted-by 1

pub count-cons : (entry : Counted) (xs : List Counted) (x : Reference)
    → count_of (entry ∷ xs) x ≡ counted x entry + count_of xs x
unfolding count_of
count-cons entry xs x = sum_by-cons (counted x) entry xs

pub count-nil : (x : Reference) → count_of [] x ≡ 0
unfolding count_of
count-nil x = refl

pub count-set : (xs : List Counted) (i : ℕ) (entry d : Counted) (x : Reference) → i < length xs
    → count_of (set xs i entry) x + counted x (get_or xs i d) ≡ count_of xs x + counted x entry
unfolding count_of
count-set xs i entry d x inside = sum_by-set (counted x) xs i entry d inside

pub count-insert : (xs : List Counted) (i : ℕ) (entry : Counted) (x : Reference)
    → count_of (insert xs i entry) x ≡ counted x entry + count_of xs x
unfolding count_of
count-insert xs i entry x = sum_by-IsPermutation (counted x) (entry ∷ xs) (insert xs i entry)
    (IsPermutation-insert xs i entry) ∙ sum_by-cons (counted x) entry xs

pub count-remove : (xs : List Counted) (i : ℕ) (entry : Counted) (x : Reference) → i < length xs
    → entry ≡ get_or xs i entry → count_of xs x ≡ counted x entry + count_of (remove xs i) x
unfolding count_of
count-remove xs i entry x inside is =
    sym (sum_by-IsPermutation (counted x) xs (entry ∷ remove xs i) (IsPermutation-remove xs i entry inside is))
    ∙ sum_by-cons (counted x) entry (remove xs i)

-- an entry of the reference itself, and one of another
pub counted-own : (x : Reference) (entry : Counted) → entry.reference ≡ x → counted x entry ≡ entry.count
counted-own x entry is =
    cond-true _ _ _ (subst (λ w. same_reference w entry.reference ≡ true) is (same_itself entry.reference))

pub counted-other : (x : Reference) (entry : Counted) → same_reference x entry.reference ≡ false → counted x entry ≡ 0
counted-other x entry differs = cond-false _ _ _ differs

-- ---- where a reference is

none_counted : (x : Reference) (xs : List Counted)
    → ((k : ℕ) (d : Counted) → k < length xs → same_reference x (get_or xs k d).reference ≡ false) → count_of xs x ≡ 0
none_counted x [] each = count-nil x
none_counted x (y ∷ xs) each =
    let here = counted-other x y (each 0 y (omega arith)) in
    omega (arith, count-cons y xs x, here, none_counted x xs (λ k d h. each (suc k) d (omega arith)))

later_ascend : (x : Counted) (xs : List Counted) → Ascend (x ∷ xs) → Ascend xs
later_ascend x xs up = λ i j d h k. up (suc i) (suc j) d (omega arith) (omega arith)

-- it is there once
pub count-found : (x : Reference) (xs : List Counted) (i : ℕ) (d : Counted) → Ascend xs → i < length xs
    → (get_or xs i d).reference ≡ x → count_of xs x ≡ (get_or xs i d).count
count-found x [] i d up inside is = absurd (omega (arith, inside))
count-found x (y ∷ xs) zero d up inside is =
    let here = counted-own x y is in
    let rest = none_counted x xs
    (λ k e h. precedes_differs x (get_or xs k e).reference
    (subst (λ w. precedes w (get_or xs k e).reference ≡ true) is (up 0 (suc k) e (omega arith) (omega arith)))) in
    omega (arith, count-cons y xs x, here, rest)
count-found x (y ∷ xs) (suc i) d up inside is =
    let before : precedes y.reference x ≡ true =
    subst (λ w. precedes y.reference w ≡ true) is (up 0 (suc i) d (omega arith) inside) in
    let here = counted-other x y (same_other_way y.reference x (precedes_differs y.reference x before)) in
    omega (arith, count-cons y xs x, here, count-found x xs i d (later_ascend y xs up) (omega (arith, inside)) is)

-- what a search for a reference splits
abbrev pub IsPlace : Reference → List Counted → ℕ → Type 0
IsPlace x xs i = IsPartitionPoint (λ entry. precedes entry.reference x ≡ true)
    (λ entry. precedes entry.reference x ≡ false) xs i

-- where that at its place is another, all from there on come after it
pub place_behind : (x : Reference) (xs : List Counted) (i : ℕ) → Ascend xs → IsPlace x xs i
    → ((d : Counted) → i < length xs → same_reference (get_or xs i d).reference x ≡ false)
    → (k : ℕ) (d : Counted) → i ≤ k → k < length xs → precedes x (get_or xs k d).reference ≡ true
place_behind x xs i up point other k d above inside = cases (cases_Bool (ltb i k)) where
  here : i < length xs → precedes x (get_or xs i d).reference ≡ true
  here h = precedes_if_not x (get_or xs i d).reference (point.1 i d (omega arith) h) (other d h)

  cases : (ltb i k ≡ true) ⊎ (ltb i k ≡ false) → precedes x (get_or xs k d).reference ≡ true
  cases (inl below) = precedes_chain x (get_or xs i d).reference (get_or xs k d).reference
      (here (omega (arith, ltb-true i k below))) (up i k d (ltb-true i k below) inside)
  cases (inr not) =
      let same : i ≡ k = omega (arith, ltb-false i k not, above) in
      subst (λ (m : ℕ). precedes x (get_or xs m d).reference ≡ true) same (here (omega (arith, same)))

-- and it is not there
pub count-missing : (x : Reference) (xs : List Counted) (i : ℕ) → Ascend xs → IsPlace x xs i
    → ((d : Counted) → i < length xs → same_reference (get_or xs i d).reference x ≡ false) → count_of xs x ≡ 0
count-missing x xs i up point other = none_counted x xs (λ k d h. cases k d h (cases_Bool (ltb k i))) where
  cases : (k : ℕ) (d : Counted) → k < length xs → (ltb k i ≡ true) ⊎ (ltb k i ≡ false)
      → same_reference x (get_or xs k d).reference ≡ false
  cases k d h (inl below) =
      same_other_way (get_or xs k d).reference x
      (precedes_differs (get_or xs k d).reference x (point.0 k d (omega arith) (ltb-true k i below)))
  cases k d h (inr above) =
      precedes_differs x (get_or xs k d).reference
      (place_behind x xs i up point other k d (omega (arith, ltb-false k i above)) h)

-- those before a reference come first
pub parted_by : (xs : List Counted) (x : Reference) → Ascend xs
    → IsPartitionedBy (λ entry. precedes entry.reference x) xs
parted_by xs x up i j d le h before = cases (cases_Bool (ltb i j)) where
  cases : (ltb i j ≡ true) ⊎ (ltb i j ≡ false) → precedes (get_or xs i d).reference x ≡ true
  cases (inl below) = precedes_chain (get_or xs i d).reference (get_or xs j d).reference x
      (up i j d (ltb-true i j below) h) before
  cases (inr above) =
      let same : j ≡ i = omega (arith, ltb-false i j above, le) in
      subst (λ (k : ℕ). precedes (get_or xs k d).reference x ≡ true) same before

-- ---- the order after an edit

set_same : (xs : List Counted) (i : ℕ) (entry d : Counted)
    → (i < length xs → entry.reference ≡ (get_or xs i d).reference) → (k : ℕ)
    → (get_or (set xs i entry) k d).reference ≡ (get_or xs k d).reference
set_same [] i entry d is k = refl
set_same (x ∷ xs) zero entry d is zero = is (omega arith)
set_same (x ∷ xs) zero entry d is (suc k) = refl
set_same (x ∷ xs) (suc i) entry d is zero = refl
set_same (x ∷ xs) (suc i) entry d is (suc k) = set_same xs i entry d (λ h. is (omega (arith, h))) k

pub ascend-set : (xs : List Counted) (i : ℕ) (entry : Counted) → Ascend xs
    → ((d : Counted) → i < length xs → (get_or xs i d).reference ≡ entry.reference) → Ascend (set xs i entry)
ascend-set xs i entry up is = λ j k d below inside.
    let same : (m : ℕ) → (get_or (set xs i entry) m d).reference ≡ (get_or xs m d).reference =
    set_same xs i entry d (λ h. sym (is d h)) in
    subst (λ a. precedes a (get_or (set xs i entry) k d).reference ≡ true) (sym (same j))
    (subst (λ b. precedes (get_or xs j d).reference b ≡ true) (sym (same k))
    (up j k d below (omega (arith, inside, length-set xs i entry))))

ascend-cons : (x : Counted) (xs : List Counted)
    → ((k : ℕ) (d : Counted) → k < length xs → precedes x.reference (get_or xs k d).reference ≡ true) → Ascend xs
    → Ascend (x ∷ xs)
ascend-cons x xs before up zero zero d below inside = absurd (omega (arith, below))
ascend-cons x xs before up zero (suc k) d below inside = before k d (omega (arith, inside))
ascend-cons x xs before up (suc j) zero d below inside = absurd (omega (arith, below))
ascend-cons x xs before up (suc j) (suc k) d below inside = up j k d (omega (arith, below)) (omega (arith, inside))

-- what an insert leaves at an index: what stood there, the new entry, or what stood one lower
data Stands (xs : List Counted) (i : ℕ) (entry d : Counted) (m : ℕ) (got : Counted) : Type 0 where
  below : m < i → got ≡ get_or xs m d → Stands xs i entry d m got
  own : m ≡ i → got ≡ entry → Stands xs i entry d m got
  above : (k : ℕ) → m ≡ k + 1 → i ≤ k → k < length xs → got ≡ get_or xs k d → Stands xs i entry d m got

stands : (xs : List Counted) (i : ℕ) (entry d : Counted) (m : ℕ) → i ≤ length xs → m < length (insert xs i entry)
    → Stands xs i entry d m (get_or (insert xs i entry) m d)
stands xs i entry d m bound inside = cases (cases_Bool (ltb m i)) (cases_Bool (ltb i m)) where
  cases : (ltb m i ≡ true) ⊎ (ltb m i ≡ false) → (ltb i m ≡ true) ⊎ (ltb i m ≡ false)
      → Stands xs i entry d m (get_or (insert xs i entry) m d)
  cases (inl low) high = below (ltb-true m i low) (get_or-insert_below xs i entry d m (ltb-true m i low) bound)
  cases (inr low) (inl high) =
      let up : i < m = ltb-true i m high in
      let is : m - 1 + 1 ≡ m = omega (arith, up) in
      above (m - 1) (sym is) (omega (arith, up)) (omega (arith, up, inside, length-insert xs i entry bound))
      (subst (λ (n : ℕ). get_or (insert xs i entry) n d ≡ get_or xs (m - 1) d) is
      (get_or-insert_above xs i entry d (m - 1) (omega (arith, up)) bound))
  cases (inr low) (inr high) =
      let is : i ≡ m = omega (arith, ltb-false m i low, ltb-false i m high) in
      own (sym is) (subst (λ (n : ℕ). get_or (insert xs i entry) n d ≡ entry) is (get_or-insert_at xs i entry d bound))

pub all-insert : (P : Counted → Type 0) (xs : List Counted) (i : ℕ) (entry : Counted) → i ≤ length xs → All P xs
    → P entry → All P (insert xs i entry)
all-insert P xs i entry bound each own' m d inside = cases (stands xs i entry d m bound inside) where
  cases : Stands xs i entry d m (get_or (insert xs i entry) m d) → P (get_or (insert xs i entry) m d)
  cases (below low is) = subst P (sym is) (each m d (omega (arith, low, bound)))
  cases (own at is) = subst P (sym is) own'
  cases (above k at high within is) = subst P (sym is) (each k d within)

pub ascend-insert : (xs : List Counted) (i : ℕ) (entry : Counted) → i ≤ length xs → Ascend xs
    → ((k : ℕ) (d : Counted) → k < i → precedes (get_or xs k d).reference entry.reference ≡ true)
    → ((k : ℕ) (d : Counted) → i ≤ k → k < length xs → precedes entry.reference (get_or xs k d).reference ≡ true)
    → Ascend (insert xs i entry)
ascend-insert xs i entry bound up before behind m n d low inside =
    cases (stands xs i entry d m bound (omega (arith, low, inside))) (stands xs i entry d n bound inside) where
      first : ℕ → Counted
      first k = get_or (insert xs i entry) k d

      before' : (a b c e : Counted) → a ≡ b → c ≡ e → precedes b.reference e.reference ≡ true
          → precedes a.reference c.reference ≡ true
      before' a b c e p q h = subst (λ x. precedes x.reference c.reference ≡ true) (sym p)
          (subst (λ x. precedes b.reference x.reference ≡ true) (sym q) h)

      cases : Stands xs i entry d m (get_or (insert xs i entry) m d)
          → Stands xs i entry d n (get_or (insert xs i entry) n d)
          → precedes (get_or (insert xs i entry) m d).reference (get_or (insert xs i entry) n d).reference ≡ true
      cases (below a is) (below b is') = before' _ _ _ _ is is' (up m n d low (omega (arith, b, bound)))
      cases (below a is) (own b is') = before' _ _ _ _ is is' (before m d a)
      cases (below a is) (above k b high within is') = before' _ _ _ _ is is' (up m k d (omega (arith, a, high)) within)
      cases (own a is) (below b is') = absurd (omega (arith, a, b, low))
      cases (own a is) (own b is') = absurd (omega (arith, a, b, low))
      cases (own a is) (above k b high within is') = before' _ _ _ _ is is' (behind k d high within)
      cases (above j a high within is) (below b is') = absurd (omega (arith, a, high, b, low))
      cases (above j a high within is) (own b is') = absurd (omega (arith, a, high, b, low))
      cases (above j a high within is) (above k b high' within' is') =
          before' _ _ _ _ is is' (up j k d (omega (arith, a, b, low)) within')

-- ---- a list of references after an edit

-- the count of a reference is set, one that is there
pub record IsSet (xs new : List Counted) (x : Reference) (n : ℕ) : Type 0 where
  pub sound : IsRefList new
  pub own : count_of new x ≡ n
  pub others : (other : Reference) → same_reference other x ≡ false → count_of new other ≡ count_of xs other

pub set-counts : (xs : List Counted) (i : ℕ) (x : Reference) (n : ℕ) → IsRefList xs → i < length xs
    → ((d : Counted) → (get_or xs i d).reference ≡ x) → 0 < n
    → IsSet xs (set xs i (record { reference = x; count = n })) x n
set-counts xs i x n list inside at some =
    let entry : Counted = record { reference = x; count = n } in
    let old : Counted = get_or xs i entry in
    let own = counted-own x entry refl in
    let was = counted-own x old (at entry) in
    record {
      sound = record {
        ascend = ascend-set xs i entry list.ascend (λ d _. at d);
        some = All-set (λ e. 0 < e.count) xs i entry some list.some;
      };
      own = omega (
        arith,
        count-set xs i entry entry x inside,
        own,
        was,
        count-found x xs i entry list.ascend inside
            (at entry),
      );
      others = λ other differs.
          let none = counted-other other entry differs in
          let none' = counted-other other old (subst (λ w. same_reference other w ≡ false) (sym (at entry)) differs) in
          omega (arith, count-set xs i entry entry other inside, none, none');
    }

pub insert-counts : (xs : List Counted) (i : ℕ) (x : Reference) (n : ℕ) → IsRefList xs → i ≤ length xs → IsPlace x xs i
    → count_of xs x ≡ 0 → 0 < n
    → IsSet xs (insert xs i (record { reference = x; count = n })) x n
insert-counts xs i x n list bound point none some =
    let entry : Counted = record { reference = x; count = n } in
    let other : (d : Counted) → i < length xs → same_reference (get_or xs i d).reference x ≡ false =
    λ d h. elim (cases_Bool (same_reference (get_or xs i d).reference x)) [
      | inl same ↦
          let found = count-found x xs i d list.ascend h (same_reference_is (get_or xs i d).reference x same) in
          absurd (omega (arith, found, none, list.some i d h))
      | inr differs ↦ differs
    ] in
    record {
      sound = record {
        ascend = ascend-insert xs i entry bound list.ascend (λ k d low. point.0 k d (omega arith) low)
            (place_behind x xs i list.ascend point other);
        some = all-insert (λ e. 0 < e.count) xs i entry bound list.some some;
      };
      own = omega (arith, count-insert xs i entry x, counted-own x entry refl, none);
      others = λ q differs. omega (arith, count-insert xs i entry q, counted-other q entry differs);
    }

pub remove-counts : (xs : List Counted) (i : ℕ) (x : Reference) → IsRefList xs → i < length xs
    → ((d : Counted) → (get_or xs i d).reference ≡ x) → IsSet xs (remove xs i) x 0
remove-counts xs i x list inside at =
    let any : Counted = record { reference = x; count = 0 } in
    let entry : Counted = get_or xs i any in
    let is : entry ≡ get_or xs i entry = get_or_default xs i any entry inside in
    let found = count-found x xs i entry list.ascend inside (at entry) in
    let count : entry.count ≡ (get_or xs i entry).count = ap (λ (e : Counted). e.count) is in
    record {
      sound = record {
        ascend = all_pairs_remove (λ e later. precedes e.reference later.reference ≡ true) xs i inside
            list.ascend;
        some = λ k d h. All-permutation (λ e. 0 < e.count) xs (entry ∷ remove xs i)
            (IsPermutation-remove xs i entry inside is) list.some (suc k) d (omega (arith, h));
      };
      own = omega (arith, count-remove xs i entry x inside is, counted-own x entry (at any), found, count);
      others = λ other differs.
          let none = counted-other other entry (subst (λ w. same_reference other w ≡ false) (sym (at any)) differs) in
          omega (arith, count-remove xs i entry other inside is, none);
    }

-- a reference is there so many times more
pub more-by : (xs new : List Counted) (x : Reference) (n more : ℕ) → IsSet xs new x n → n ≡ count_of xs x + more
    → HasSoManyMore xs new x more
more-by xs new x n more is sum other = elim (cases_Bool (same_reference other x)) [
  | inl same ↦
      let all : counted-by more other x ≡ more = cond-true _ _ _ same in
      let q : other ≡ x = same_reference_is other x same in
      omega (arith, all, is.own, sum, ap (count_of xs) q, ap (count_of new) q)
  | inr differs ↦
      let none : counted-by more other x ≡ 0 = cond-false _ _ _ differs in
      omega (arith, none, is.others other differs)
]

-- or once more
pub more-set : (xs new : List Counted) (x : Reference) (n : ℕ) → IsSet xs new x n → n ≡ count_of xs x + 1
    → HasOneMore xs new x
more-set xs new x n is more = more-by xs new x n 1 is more

-- or once less
pub less-set : (xs new : List Counted) (x : Reference) (n : ℕ) → IsSet xs new x n → n + 1 ≡ count_of xs x
    → HasOneMore new xs x
less-set xs new x n is less other = elim (cases_Bool (same_reference other x)) [
  | inl same ↦
      let one : counted-one other x ≡ 1 = cond-true _ _ _ same in
      let q : other ≡ x = same_reference_is other x same in
      omega (arith, one, is.own, less, ap (count_of xs) q, ap (count_of new) q)
  | inr differs ↦
      let none : counted-one other x ≡ 0 = cond-false _ _ _ differs in
      omega (arith, none, is.others other differs)
]

-- a slice that was written to and kept its length
pub refill-same : (xs ws : List Counted) → length ws ≡ length xs → refill (length xs) xs ws ≡ ws
refill-same xs ws same =
    ap (λ (rest : List Counted). take (length xs) (ws ++ rest)) (drop_all (length ws) xs (omega (arith, same)))
    ∙ ap (λ (all : List Counted). take (length xs) all) (append-nil ws) ∙ take_all (length xs) ws (omega (arith, same))

-- a write of a count through the list's slice: xs as it is kept, ys as it was searched, zs as it was lent
pub set-written : (xs ys zs : List Counted) (i : ℕ) (x : Reference) (n : ℕ) → ys ≡ xs → zs ≡ xs → IsRefList xs
    → i < length ys → ((d : Counted) → (get_or ys i d).reference ≡ x) → 0 < n
    → IsSet xs (refill (length xs) xs (set zs i (record { reference = x; count = n }))) x n
set-written xs ys zs i x n searched lent list inside at some =
    let entry : Counted = record { reference = x; count = n } in
    let same : refill (length xs) xs (set zs i entry) ≡ set xs i entry =
    ap (λ (ws : List Counted). refill (length xs) xs (set ws i entry)) lent
    ∙ refill-same xs (set xs i entry) (length-set xs i entry) in
    let inside' : i < length xs = subst (λ (ws : List Counted). i < length ws) searched inside in
    let at' : (d : Counted) → (get_or xs i d).reference ≡ x =
    λ d. subst (λ (ws : List Counted). (get_or ws i d).reference ≡ x) searched (at d) in
    subst (λ (ws : List Counted). IsSet xs ws x n) (sym same) (set-counts xs i x n list inside' at' some)

-- what was counted is the count
pub count-read : (xs ys zs : List Counted) (i : ℕ) (x : Reference) (d : Counted) → ys ≡ xs → zs ≡ xs
    → ((e : Counted) → (get_or ys i e).count ≡ count_of ys x) → (get_or zs i d).count ≡ count_of xs x
count-read xs ys zs i x d searched read counts =
    ap (λ (ws : List Counted). (get_or ws i d).count) (read ∙ sym searched) ∙ counts d
    ∙ ap (λ (ws : List Counted). count_of ws x) searched

-- one more or one less of what a list is seen as
pub more-seen : (xs now new : List Counted) (x : Reference) (n : ℕ) → xs ≡ now → IsSet xs new x n
    → n ≡ count_of xs x + 1 → HasOneMore now new x
more-seen xs now new x n seen is more = subst (λ (old : List Counted). HasOneMore old new x) seen
    (more-set xs new x n is more)

pub less-seen : (xs now new : List Counted) (x : Reference) (n : ℕ) → xs ≡ now → IsSet xs new x n
    → n + 1 ≡ count_of xs x → HasOneMore new now x
less-seen xs now new x n seen is less = subst (λ (old : List Counted). HasOneMore new old x) seen
    (less-set xs new x n is less)

-- an entry of a reference that was not there
pub insert-written : (xs ys zs new : List Counted) (i : ℕ) (x : Reference) (n : ℕ) → ys ≡ xs → zs ≡ xs → IsRefList xs
    → count_of ys x ≡ 0 → i ≤ length zs
    → IsPlace x zs i → 0 < n → new ≡ insert xs i (record { reference = x; count = n }) → IsSet xs new x n
insert-written xs ys zs new i x n searched placed list none bound point some is =
    subst (λ (ws : List Counted). IsSet xs ws x n) (sym is)
    (insert-counts xs i x n list (subst (λ (ws : List Counted). i ≤ length ws) placed bound)
    (subst (λ (ws : List Counted). IsPlace x ws i) placed point)
    (ap (λ (ws : List Counted). count_of ws x) (sym searched) ∙ none) some)

-- an entry that is taken out
pub remove-written : (xs ys new : List Counted) (i : ℕ) (x : Reference) → ys ≡ xs → IsRefList xs → i < length ys
    → ((d : Counted) → (get_or ys i d).reference ≡ x) → new ≡ remove xs i → IsSet xs new x 0
remove-written xs ys new i x searched list inside at is =
    subst (λ (ws : List Counted). IsSet xs ws x 0) (sym is)
    (remove-counts xs i x list (subst (λ (ws : List Counted). i < length ws) searched inside)
    (λ d. subst (λ (ws : List Counted). (get_or ws i d).reference ≡ x) searched (at d)))
