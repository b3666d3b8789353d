-- What a search among relations or among numbers finds.
use denote.Param.Members.{Mut}
use Rattle.std.proofs.Common.{◌≡◌, ℕ, suc, ◌<◌, ◌≤◌, Bool, true, false, List, [], ◌∷◌, length, get_or, Result, Ok, Err}
use Rattle.std.proofs.Common.{refl, sym, ap, ◌∙◌, arith, inl, inr, Bor}
use Rattle.std.specs.Prelude.{◌==◌, ◌&&◌, nat_lt}
use Rattle.std.specs.Fn.{Called, ComputesKey}
use Rattle.std.specs.List.Sorted.{IsBinarySearchResult, IsNonDecreasingBy, IsPartitionPoint, IsPartitionedBy}
use Rattle.std.specs.List.Sorted.{IsSearchInRange, IsStrictlySortedBy}
use Rattle.std.specs.Ordering.{nat_cmp, ordering_index}
use Rattle.std.specs.Result.{is_ok}
use Rattle.std.specs.declared.cmp.Ordering.{Ordering}
use Rattle.std.specs.declared.cmp.Ordering.TheVariants.{Less, Equal, Greater}
use Rattle.std.proofs.lemmas.Bool.{cases_lt, or_from}
use Rattle.std.proofs.lemmas.Bool.Decides.{eqb_tells, nat_tests}
use Rattle.std.proofs.lemmas.List.Sorted.{IsPartitionedBy-ltb, IsPartitionPoint-from_clause}
use Rattle.std.proofs.lemmas.Map.Keys.{Less-from_sorted}
use Rattle.qg_image.specs.Table.{keys_of}
use Rattle.qg_machine.specs.GroupChange.{has_pair, same_pair}
use Rattle.qg_qgroups.specs.Groups.{pair_cmp}
use Rattle.qg_qgroups.proofs.Sets.{pair_is, pair_order}
use Rattle.qg_qgroups.proofs.RelatedPairs.{pair-there}
use Rattle.qg_qgroups.proofs.Tables.{numbers-rise}

-- ---- two pairs

equal_same : (a b c d : ℕ) → pair_cmp (a, b) (c, d) ≡ Equal → ((a == c) && (b == d)) ≡ true
equal_same a b c d is = grind (arith, nat_tests)

less_other : (a b c d : ℕ) → pair_cmp (a, b) (c, d) ≡ Less → ((c == a) && (d == b)) ≡ false
less_other a b c d is = grind (arith, nat_tests)

greater_other : (a b c d : ℕ) → pair_cmp (a, b) (c, d) ≡ Greater → ((c == a) && (d == b)) ≡ false
greater_other a b c d is = grind (arith, nat_tests)

equal_is : (p q : ℕ × ℕ) → pair_cmp p q ≡ Equal → p ≡ q
equal_is p q is = pair_is p q (equal_same p.0 p.1 q.0 q.1 is)

-- ---- by a third one

rank_le : (o : Ordering) → ordering_index o ≤ 2
rank_le Less = omega arith
rank_le Equal = omega arith
rank_le Greater = omega arith

-- the lesser of two pairs ranks no higher
higher : (p q x : ℕ × ℕ) → pair_cmp p q ≡ Less → ordering_index (pair_cmp p x) ≤ ordering_index (pair_cmp q x)
higher p q x less = ranks (pair_cmp q x) refl where
  ranks : (o : Ordering) → pair_cmp q x ≡ o → ordering_index (pair_cmp p x) ≤ ordering_index o
  ranks Less is =
      let low : ordering_index (pair_cmp p x) ≡ 0 =
      ap (λ (o : Ordering). ordering_index o) (pair_order.trans p q x less is) in
      omega (arith, low)
  ranks Equal is =
      let before : pair_cmp p x ≡ Less = ap (λ (r : ℕ × ℕ). pair_cmp p r) (sym (equal_is q x is)) ∙ less in
      let low : ordering_index (pair_cmp p x) ≡ 0 = ap (λ (o : Ordering). ordering_index o) before in
      omega (arith, low)
  ranks Greater is = rank_le (pair_cmp p x)

rising : (pairs : List (ℕ × ℕ)) (x : ℕ × ℕ) → IsStrictlySortedBy pair_cmp pairs
    → IsNonDecreasingBy (λ y. ordering_index (pair_cmp y x)) pairs
rising pairs x up i j d le inside = elim (eqb_tells i j) [
  | inl (equal, here) ↦
      let same : ordering_index (pair_cmp (get_or pairs i d) x) ≡ ordering_index (pair_cmp (get_or pairs j d) x) =
      ap (λ (k : ℕ). ordering_index (pair_cmp (get_or pairs k d) x)) here in
      omega (arith, same)
  | inr (unequal, apart) ↦
      higher (get_or pairs i d) (get_or pairs j d) x
      (Less-from_sorted pair_cmp pairs i j d up (omega (arith, le, apart)) inside)
]

-- ---- what is found

absent : (a b : ℕ) (pairs : List (ℕ × ℕ))
    → ((k : ℕ) (d : ℕ × ℕ) → k < length pairs → same_pair (a, b) (get_or pairs k d) ≡ false)
    → has_pair a b pairs ≡ false
absent a b [] apart = refl
absent a b (pair ∷ pairs) apart =
    or_from (same_pair (a, b) pair) (has_pair a b pairs) (apart 0 pair (omega arith))
    (absent a b pairs (λ k d inside. apart (suc k) d (omega (arith, inside))))

-- where a pair is searched for among ascending ones it is found exactly where it is one of them
pub searched-pair : (pairs : List (ℕ × ℕ)) (a b : ℕ) (found : Result ℕ ℕ) → IsStrictlySortedBy pair_cmp pairs
    → IsSearchInRange found (length pairs)
    → IsBinarySearchResult (λ y. pair_cmp y (a, b)) pairs found → is_ok found ≡ has_pair a b pairs
searched-pair pairs a b (Ok i) up inside result =
    let is : get_or pairs i (a, b) ≡ (a, b) = equal_is (get_or pairs i (a, b)) (a, b) (result (a, b)) in
    sym (pair-there pairs i (a, b) inside (sym is))
searched-pair pairs a b (Err i) up inside result =
    let parted = result (rising pairs (a, b) up) in
    sym (absent a b pairs (λ k d within. elim (cases_lt k i) [
      | inl below ↦ less_other (get_or pairs k d).0 (get_or pairs k d).1 a b (parted.0 k d (omega arith) below)
      | inr behind ↦ greater_other (get_or pairs k d).0 (get_or pairs k d).1 a b (parted.1 k d behind within)
    ]))

-- where entries ascend by number, those of a lesser one stand in front
pub number-parted : {A F : Type 0} {g : Mut F (Bor (ℕ × A) × Unit {0}) Bool} {f : F} (group : ℕ)
    (entries : List (ℕ × A)) (place : ℕ)
    → IsStrictlySortedBy nat_cmp (keys_of entries)
    → ((q : ℕ × A → Bool) → ComputesKey g q f → IsPartitionedBy q entries
    → IsPartitionPoint (λ y. q y ≡ true) (λ y. q y ≡ false) entries place)
    → ((a : Bor (ℕ × A) × Unit {0}) (r : Bool) (f' : F) → Called g f a r f' → (r ≡ nat_lt a.0.now.0 group) × (f' ≡ f))
    → IsPartitionPoint (λ entry. nat_lt entry.0 group ≡ true) (λ entry. nat_lt entry.0 group ≡ false) entries place
number-parted {A} group entries place up clause calls =
    IsPartitionPoint-from_clause (λ (entry : ℕ × A). nat_lt entry.0 group) entries place clause
    (IsPartitionedBy-ltb (λ (entry : ℕ × A). entry.0) entries group (numbers-rise entries up)) calls
