-- Rows of words: what one more member, and the members of another row, make of them.
use Rattle.std.proofs.Common.{◌≡◌, ℕ, ◌+◌, ◌*◌, ◌%◌, ◌/◌, ◌^◌, ◌<◌, ◌≤◌, List, [], ◌∷◌, ◌++◌, length, take, get_or}
use Rattle.std.proofs.Common.{sym, ap, subst, ◌∙◌, arith, ◌⊎◌, inl, inr, ◌↔◌}
use Rattle.std.specs.Prelude.{min}
use Rattle.std.specs.Int.{bit_at}
use Rattle.std.specs.List.{All, Contains}
use Rattle.std.proofs.lemmas.Bool.{cases_eq, cases_lt}
use Rattle.std.proofs.lemmas.List.{get_or_past, get_or_push, get_or_append_left, length_push, take_more}
use Rattle.std.proofs.lemmas.List.Elements.{All-push, Contains-get_or, Contains-push, Contains-push_cases}
use Rattle.std.proofs.lemmas.List.Elements.{Contains-append_left}
use Rattle.qg_owner_rule.specs.Marks.{HasMark}
use Rattle.qg_owner_rule.proofs.Marking.{none_marked, own_bit, other_bit, put_on, put_cases, put_keeps, put_there}
use Rattle.qg_qgroup_counts.specs.Sets.{HasMember, AreMembers, AreMembersBefore}

-- ---- lists that are read by a default

-- what is put at the end is the default
pub default_more : {X : Type 0} (xs : List X) (d : X) (i : ℕ) → get_or (xs ++ d ∷ []) i d ≡ get_or xs i d
default_more xs d i = cases (cases_lt i (length xs)) where
  past : length xs ≤ i → (i ≡ length xs) ⊎ (i ≡ length xs → ⊥) → get_or (xs ++ d ∷ []) i d ≡ get_or xs i d
  past more (inl same) = get_or_push xs d d i (sym same) ∙ sym (get_or_past xs i d more)
  past more (inr other) =
      get_or_past (xs ++ d ∷ []) i d (omega (arith, more, other, length_push xs d)) ∙ sym (get_or_past xs i d more)

  cases : (i < length xs) ⊎ (length xs ≤ i) → get_or (xs ++ d ∷ []) i d ≡ get_or xs i d
  cases (inl less) = get_or_append_left xs (d ∷ []) d i less
  cases (inr more) = past more (cases_eq i (length xs))

pub all_more : {X : Type 0} (P : X → Type 0) (xs : List X) (i : ℕ) (d : X) → i < length xs → All P (take i xs)
    → P (get_or xs i d) → All P (take (i + 1) xs)
all_more P xs i d short all holds =
    subst (All P) (sym (take_more xs i d short)) (All-push P (take i xs) (get_or xs i d) all holds)

-- ---- no member

pub none_past : (row : List ℕ) (word bit : ℕ) → length row ≤ word → HasMark row word bit → ⊥
none_past row word bit past has = none_marked bit (subst (λ n. bit_at n bit ≡ 1) (get_or_past row word 0 past) has)

pub none_has : (member : ℕ) → HasMember [] member → ⊥
none_has member has = none_past [] (member / 64) (member % 64) (omega arith) has

-- ---- one more member

module _ (row padded : List ℕ) (member : ℕ) (same : (word : ℕ) → get_or padded word 0 ≡ get_or row word 0)
    (long : member / 64 < length padded) where
  mark : ℕ
  mark = 1 * 2 ^ (member % 64) % 2 ^ 64

  was : (word bit : ℕ) → HasMark padded word bit → HasMark row word bit
  was word bit has = subst (λ n. bit_at n bit ≡ 1) (same word) has

  is : (word bit : ℕ) → HasMark row word bit → HasMark padded word bit
  is word bit has = subst (λ n. bit_at n bit ≡ 1) (sym (same word)) has

  few : member % 64 < 64
  few = omega arith

  own : (bit : ℕ) → bit_at (1 * 2 ^ (member % 64) % 2 ^ 64) bit ≡ 1 → bit ≡ member % 64
  own bit has = cases (cases_eq bit (member % 64)) where
    cases : (bit ≡ member % 64) ⊎ (bit ≡ member % 64 → ⊥) → bit ≡ member % 64
    cases (inl right) = right
    cases (inr wrong) = absurd (omega (arith, has, other_bit (member % 64) few bit wrong))

  one : (a b : ℕ) → a / 64 ≡ b / 64 → a % 64 ≡ b % 64 → a ≡ b
  one a b quotient rest = omega (arith, quotient, rest)

  pub put_is : (other : ℕ) → HasMember (put_on padded (member / 64) (1 * 2 ^ (member % 64) % 2 ^ 64)) other
      ↔ (HasMember row other ⊎ (member ≡ other))
  put_is other = (λ has. into (put_cases padded (member / 64) _ (other / 64) (other % 64) long has), back) where
    into : HasMark padded (other / 64) (other % 64)
        ⊎ ((member / 64 ≡ other / 64) × (bit_at (1 * 2 ^ (member % 64) % 2 ^ 64) (other % 64) ≡ 1))
        → HasMember row other ⊎ (member ≡ other)
    into (inl has) = inl (was (other / 64) (other % 64) has)
    into (inr new) = inr (one member other new.0 (sym (own (other % 64) new.1)))

    there : HasMember (put_on padded (member / 64) (1 * 2 ^ (member % 64) % 2 ^ 64)) member
    there = put_there padded (member / 64) _ (member % 64) long (own_bit (member % 64) few)

    back : HasMember row other ⊎ (member ≡ other)
        → HasMember (put_on padded (member / 64) (1 * 2 ^ (member % 64) % 2 ^ 64)) other
    back (inl has) =
        put_keeps padded (member / 64) _ (other / 64) (other % 64) long (is (other / 64) (other % 64) has)
    back (inr same') =
        subst (HasMember (put_on padded (member / 64) (1 * 2 ^ (member % 64) % 2 ^ 64))) same' there

-- ---- the members of another row

-- so many words of another row have been added
abbrev pub AddedTo : ℕ → List ℕ → List ℕ → List ℕ → Type 0
AddedTo n more old new = (word bit : ℕ)
    → HasMark new word bit ↔ (HasMark old word bit ⊎ ((word < n) × HasMark more word bit))

pub added_none : (more old new : List ℕ) → ((word : ℕ) → get_or new word 0 ≡ get_or old word 0) → AddedTo 0 more old new
added_none more old new same word bit = (λ has. inl (subst (λ n. bit_at n bit ≡ 1) (same word) has), back) where
  back : HasMark old word bit ⊎ ((word < 0) × HasMark more word bit) → HasMark new word bit
  back (inl has) = subst (λ n. bit_at n bit ≡ 1) (sym (same word)) has
  back (inr wrong) = absurd (omega (arith, wrong.0))

pub added_more : (more old mid : List ℕ) (n : ℕ) → n < length mid → AddedTo n more old mid
    → AddedTo (n + 1) more old (put_on mid n (get_or more n 0))
added_more more old mid n short added word bit =
    (λ has. into (put_cases mid n (get_or more n 0) word bit short has), back) where
      earlier : HasMark old word bit ⊎ ((word < n) × HasMark more word bit)
          → HasMark old word bit ⊎ ((word < n + 1) × HasMark more word bit)
      earlier (inl has) = inl has
      earlier (inr new) = inr (omega (arith, new.0), new.1)

      into : HasMark mid word bit ⊎ ((n ≡ word) × (bit_at (get_or more n 0) bit ≡ 1))
          → HasMark old word bit ⊎ ((word < n + 1) × HasMark more word bit)
      into (inl has) = earlier ((added word bit).0 has)
      into (inr new) = inr (omega (arith, new.0), subst (λ k. HasMark more k bit) new.0 new.1)

      by : (word < n) ⊎ (n ≤ word) → word < n + 1 → HasMark more word bit
          → HasMark (put_on mid n (get_or more n 0)) word bit
      by (inl less) _ has = put_keeps mid n (get_or more n 0) word bit short ((added word bit).1 (inr (less, has)))
      by (inr past) less has =
          let is : n ≡ word = omega (arith, past, less) in
          subst (λ k. HasMark (put_on mid n (get_or more n 0)) k bit) is
          (put_there mid n (get_or more n 0) bit short (subst (λ k. HasMark more k bit) (sym is) has))

      back : HasMark old word bit ⊎ ((word < n + 1) × HasMark more word bit)
          → HasMark (put_on mid n (get_or more n 0)) word bit
      back (inl has) = put_keeps mid n (get_or more n 0) word bit short ((added word bit).1 (inl has))
      back (inr new) = by (cases_lt word n) new.0 new.1

pub added_all : (more old new : List ℕ) (n : ℕ) → length more ≤ n → AddedTo n more old new
    → (member : ℕ) → HasMember new member ↔ (HasMember old member ⊎ HasMember more member)
added_all more old new n all added member = (λ has. into ((added word bit).0 has), back) where
  word : ℕ
  word = member / 64

  bit : ℕ
  bit = member % 64

  into : HasMember old member ⊎ ((member / 64 < n) × HasMember more member)
      → HasMember old member ⊎ HasMember more member
  into (inl has) = inl has
  into (inr new) = inr new.1

  by : (member / 64 < n) ⊎ (n ≤ member / 64) → HasMember more member → HasMember new member
  by (inl less) has = (added (member / 64) (member % 64)).1 (inr (less, has))
  by (inr past) has = absurd (none_past more (member / 64) (member % 64) (omega (arith, all, past)) has)

  back : HasMember old member ⊎ HasMember more member → HasMember new member
  back (inl has) = (added (member / 64) (member % 64)).1 (inl has)
  back (inr has) = by (cases_lt (member / 64) n) has

-- ---- members that are told

pub told_none : (row : List ℕ) → AreMembers row 0 []
told_none row = record {
  ascending = λ k short. absurd (omega (arith, short));
  told = λ member. (λ has. absurd (omega (arith, has.1)), λ is. absurd (omega (arith, is.0)));
}

pub told_same : (row : List ℕ) (n : ℕ) (members : List ℕ) → (HasMember row n → ⊥) → AreMembers row n members
    → AreMembers row (n + 1) members
told_same row n members none are = record {
  ascending = are.ascending;
  told = λ member. (
    λ has. let old = (are.told member).0 has in (omega (arith, old.0), old.1),
    λ is. by member (cases_eq member n) is.0 is.1,
  );
} where
  by : (member : ℕ) → (member ≡ n) ⊎ (member ≡ n → ⊥) → member < n + 1 → HasMember row member → Contains members member
  by member (inl same) _ has = absurd (none (subst (HasMember row) same has))
  by member (inr other) less has = (are.told member).1 (omega (arith, less, other), has)

-- so it is up to a higher bound where nothing between is a member
pub told_further : (row : List ℕ) (n m : ℕ) (members : List ℕ) → n ≤ m
    → ((member : ℕ) → n ≤ member → member < m → HasMember row member → ⊥) → AreMembers row n members
    → AreMembers row m members
told_further row n m members up none are = record {
  ascending = are.ascending;
  told = λ member. (
    λ has. let old = (are.told member).0 has in (omega (arith, old.0, up), old.1),
    λ is. by member (cases_lt member n) is.0 is.1,
  );
} where
  by : (member : ℕ) → (member < n) ⊎ (n ≤ member) → member < m → HasMember row member → Contains members member
  by member (inl less) _ has = (are.told member).1 (less, has)
  by member (inr past) less has = absurd (none member past less has)

-- a word of zeros tells no member
pub told_empty : (row : List ℕ) (word bound : ℕ) (members : List ℕ) → get_or row word 0 ≡ 0
    → AreMembersBefore row word bound members → AreMembersBefore row (word + 1) bound members
told_empty row word bound members zeros are =
    told_further row (min bound (word * 64)) (min bound ((word + 1) * 64)) members (omega arith) none are where
      none : (member : ℕ) → min bound (word * 64) ≤ member → member < min bound ((word + 1) * 64)
          → HasMember row member → ⊥
      none member past less has =
          let here : member / 64 ≡ word = omega (arith, past, less) in
          none_marked (member % 64)
          (subst (λ n. bit_at n (member % 64) ≡ 1) (ap (λ k. get_or row k 0) here ∙ zeros) has)

-- there is no word further on
pub told_all : (row : List ℕ) (word bound : ℕ) (members : List ℕ) → length row ≤ word
    → AreMembersBefore row word bound members → AreMembers row bound members
told_all row word bound members all are = told_further row (min bound (word * 64)) bound members
    (omega arith) none are where
      none : (member : ℕ) → min bound (word * 64) ≤ member → member < bound → HasMember row member → ⊥
      none member past less has =
          none_past row (member / 64) (member % 64) (omega (arith, all, past, less)) has

-- where the bound is reached, later words tell nothing more
pub told_past : (row : List ℕ) (word bound : ℕ) (members : List ℕ) → bound / 64 < word
    → AreMembersBefore row word bound members → AreMembersBefore row (word + 1) bound members
told_past row word bound members past are =
    let same : min bound (word * 64) ≡ min bound ((word + 1) * 64) = omega (arith, past) in
    subst (λ n. AreMembers row n members) same are

pub told_more : (row : List ℕ) (n : ℕ) (members : List ℕ) → HasMember row n → AreMembers row n members
    → AreMembers row (n + 1) (members ++ n ∷ [])
told_more row n members here are = record {
  ascending = λ k short. rises k (cases_lt (k + 1) (length members)) short;
  told = λ member. (
    λ has. into member (Contains-push_cases members n member has),
    λ is. by member (cases_eq member n) is.0 is.1,
  );
} where
  low : (k : ℕ) → k < length members → get_or members k 0 < n
  low k short = ((are.told (get_or members k 0)).0 (Contains-get_or members k 0 short)).0

  rises : (k : ℕ) → (k + 1 < length members) ⊎ (length members ≤ k + 1) → k + 1 < length (members ++ n ∷ [])
      → get_or (members ++ n ∷ []) k 0 < get_or (members ++ n ∷ []) (k + 1) 0
  rises k (inl less) short =
      let first = get_or_append_left members (n ∷ []) 0 k (omega (arith, less)) in
      let second = get_or_append_left members (n ∷ []) 0 (k + 1) less in
      omega (arith, first, second, are.ascending k less)
  rises k (inr past) short =
      let last : length members ≡ k + 1 = omega (arith, past, short, length_push members n) in
      let first = get_or_append_left members (n ∷ []) 0 k (omega (arith, last)) in
      let second = get_or_push members n 0 (k + 1) last in
      let less = low k (omega (arith, last)) in
      omega (arith, first, second, less)

  into : (member : ℕ) → Contains members member ⊎ (n ≡ member) → (member < n + 1) × HasMember row member
  into member (inl has) = let old = (are.told member).0 has in (omega (arith, old.0), old.1)
  into member (inr same) = (omega (arith, same), subst (HasMember row) same here)

  by : (member : ℕ) → (member ≡ n) ⊎ (member ≡ n → ⊥) → member < n + 1 → HasMember row member
      → Contains (members ++ n ∷ []) member
  by member (inl same) _ has = subst (Contains (members ++ n ∷ [])) (sym same) (Contains-push members n)
  by member (inr other) less has =
      Contains-append_left members (n ∷ []) member ((are.told member).1 (omega (arith, less, other), has))
