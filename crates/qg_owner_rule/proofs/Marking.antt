-- Rows of marks: what one more mark, and the marks of one more node, make of them.
use Rattle.std.proofs.Common.{◌≡◌, ℕ, ◌+◌, ◌*◌, ◌%◌, ◌^◌, ◌<◌, ◌≤◌, ◌≢◌, List, length, take, get_or, set, map, Some}
use Rattle.std.proofs.Common.{sym, ap, subst, ◌∙◌, arith, ◌⊎◌, inl, inr, get_or-set_same, get_or-set_other, w64}
use Rattle.std.specs.Prelude.{slice_get, bit_or, replicate}
use Rattle.std.specs.Int.{bit_at}
use Rattle.std.specs.List.{Contains}
use Rattle.std.specs.List.Sorted.{IsStrictlyIncreasing}
use Rattle.std.proofs.lemmas.Bool.{cases_eq, cases_lt}
use Rattle.std.proofs.lemmas.Nat.Bits.{bit_at-zero, bit_at-lt, bit_at_or, bit_at_set_same, bit_at_set_other}
use Rattle.std.proofs.lemmas.List.{get_or-replicate, get_or_past, length-replicate}
use Rattle.qg_owner_rule.specs.declared.linked.Linked.{Linked}
use Rattle.qg_owner_rule.specs.Places.{StandsAt, AreOthers}
use Rattle.qg_owner_rule.specs.Marks.{HasMark, HaveAlso, AreOfRoots}
use Rattle.qg_owner_rule.proofs.Listed.{in_front_more, front_more_cases, at_one, at_along, at_front, at_whole}
use Rattle.qg_owner_rule.proofs.Listed.{within_front}
use Rattle.qg_owner_rule.proofs.Listed.{All-at}
use Rattle.qg_owner_rule.proofs.Ascending.{one_place}

-- ---- bits

either_has : (a b bit : ℕ) → bit_at (bit_or a b) bit ≡ 1 → (bit_at a bit ≡ 1) ⊎ (bit_at b bit ≡ 1)
either_has a b bit has = cases (cases_eq (bit_at a bit) 1) where
  cases : (bit_at a bit ≡ 1) ⊎ (bit_at a bit ≡ 1 → ⊥) → (bit_at a bit ≡ 1) ⊎ (bit_at b bit ≡ 1)
  cases (inl first) = inl first
  cases (inr other) =
      let small = bit_at-lt a bit in
      let none : bit_at a bit ≡ 0 = omega (arith, small, other) in
      inr (omega (arith, has, bit_at_or a b bit, none, bit_at-lt b bit))

left_has : (a b bit : ℕ) → bit_at a bit ≡ 1 → bit_at (bit_or a b) bit ≡ 1
left_has a b bit has = omega (arith, has, bit_at_or a b bit, bit_at-lt b bit)

right_has : (a b bit : ℕ) → bit_at b bit ≡ 1 → bit_at (bit_or a b) bit ≡ 1
right_has a b bit has = omega (arith, has, bit_at_or a b bit, bit_at-lt a bit)

pub none_marked : (bit : ℕ) → bit_at 0 bit ≡ 1 → ⊥
none_marked bit has = omega (arith, has, bit_at-zero bit)

abbrev pub zeros : ℕ → List ℕ
zeros n = replicate n 0

pub none_in_zeros : (n place : ℕ) → get_or (zeros n) place 0 ≡ 0
none_in_zeros n place = cases (cases_lt place n) where
  cases : (place < n) ⊎ (n ≤ place) → get_or (zeros n) place 0 ≡ 0
  cases (inl inside) = let zero : ℕ = 0 in get_or-replicate n place zero zero inside
  cases (inr past) = let zero : ℕ = 0 in get_or_past (zeros n) place 0 (omega (arith, past, length-replicate n zero))

-- one bit alone
pub own_bit : (bit : ℕ) → bit < 64 → bit_at (1 * 2 ^ bit % 2 ^ 64) bit ≡ 1
own_bit bit inside = bit_at_set_same w64 0 bit inside

pub other_bit : (bit : ℕ) → bit < 64 → (other : ℕ) → other ≢ bit → bit_at (1 * 2 ^ bit % 2 ^ 64) other ≡ 0
other_bit bit inside other differs = bit_at_set_other w64 0 bit inside other differs ∙ bit_at-zero other

-- ---- marks on one place

-- some marks are put on a place
abbrev pub put_on : List ℕ → ℕ → ℕ → List ℕ
put_on rows at marks = set rows at (bit_or (get_or rows at 0) marks)

pub put_cases : (rows : List ℕ) (at marks place bit : ℕ) → at < length rows → HasMark (put_on rows at marks) place bit
    → HasMark rows place bit ⊎ ((at ≡ place) × (bit_at marks bit ≡ 1))
put_cases rows at marks place bit inside has = cases (cases_eq place at) where
  cases : (place ≡ at) ⊎ (place ≡ at → ⊥) → HasMark rows place bit ⊎ ((at ≡ place) × (bit_at marks bit ≡ 1))
  cases (inl same) = here (either_has (get_or rows at 0) marks bit written) where
    written : bit_at (bit_or (get_or rows at 0) marks) bit ≡ 1
    written =
        subst (λ n. bit_at n bit ≡ 1) (get_or-set_same rows at (bit_or (get_or rows at 0) marks) 0 inside)
        (subst (λ k. HasMark (put_on rows at marks) k bit) same has)

    here : (bit_at (get_or rows at 0) bit ≡ 1) ⊎ (bit_at marks bit ≡ 1)
        → HasMark rows place bit ⊎ ((at ≡ place) × (bit_at marks bit ≡ 1))
    here (inl old) = inl (subst (λ k. HasMark rows k bit) (sym same) old)
    here (inr new) = inr (sym same, new)
  cases (inr other) =
      inl (subst (λ n. bit_at n bit ≡ 1) (get_or-set_other rows at place (bit_or (get_or rows at 0) marks) 0 other) has)

pub put_keeps : (rows : List ℕ) (at marks place bit : ℕ) → at < length rows → HasMark rows place bit
    → HasMark (put_on rows at marks) place bit
put_keeps rows at marks place bit inside has = cases (cases_eq place at) where
  cases : (place ≡ at) ⊎ (place ≡ at → ⊥) → HasMark (put_on rows at marks) place bit
  cases (inl same) =
      subst (λ k. HasMark (put_on rows at marks) k bit) (sym same)
      (subst (λ n. bit_at n bit ≡ 1) (sym (get_or-set_same rows at (bit_or (get_or rows at 0) marks) 0 inside))
      (left_has (get_or rows at 0) marks bit (subst (λ k. HasMark rows k bit) same has)))
  cases (inr other) =
      subst (λ n. bit_at n bit ≡ 1) (sym (get_or-set_other rows at place (bit_or (get_or rows at 0) marks) 0 other)) has

pub put_there : (rows : List ℕ) (at marks bit : ℕ) → at < length rows → bit_at marks bit ≡ 1
    → HasMark (put_on rows at marks) at bit
put_there rows at marks bit inside has =
    subst (λ n. bit_at n bit ≡ 1) (sym (get_or-set_same rows at (bit_or (get_or rows at 0) marks) 0 inside))
    (right_has (get_or rows at 0) marks bit has)

-- ---- marks on some places

pub also_none : (places : List ℕ) (marks : ℕ) (rows : List ℕ) → HaveAlso (take 0 places) marks rows rows
also_none places marks rows place bit = (inl, λ either. only either) where
  only : HasMark rows place bit ⊎ (Contains (take 0 places) place × (bit_at marks bit ≡ 1)) → HasMark rows place bit
  only (inl has) = has
  only (inr more) = absurd (omega (arith, more.0.1))

pub also_more : (places : List ℕ) (i at marks : ℕ) (old mid : List ℕ) → i < length places → at ≡ get_or places i at
    → at < length mid
    → HaveAlso (take i places) marks old mid → HaveAlso (take (i + 1) places) marks old (put_on mid at marks)
also_more places i at marks old mid short is inside also place bit = (into, back) where
  earlier : HasMark old place bit ⊎ (Contains (take i places) place × (bit_at marks bit ≡ 1))
      → HasMark old place bit ⊎ (Contains (take (i + 1) places) place × (bit_at marks bit ≡ 1))
  earlier (inl has) = inl has
  earlier (inr more) = inr (in_front_more places i at place short is (inl more.0), more.1)

  into-cases : HasMark mid place bit ⊎ ((at ≡ place) × (bit_at marks bit ≡ 1))
      → HasMark old place bit ⊎ (Contains (take (i + 1) places) place × (bit_at marks bit ≡ 1))
  into-cases (inl has) = earlier ((also place bit).0 has)
  into-cases (inr here) = inr (in_front_more places i at place short is (inr here.0), here.1)

  into : HasMark (put_on mid at marks) place bit
      → HasMark old place bit ⊎ (Contains (take (i + 1) places) place × (bit_at marks bit ≡ 1))
  into has = into-cases (put_cases mid at marks place bit inside has)

  back-cases : Contains (take i places) place ⊎ (at ≡ place) → bit_at marks bit ≡ 1
      → HasMark (put_on mid at marks) place bit
  back-cases (inl before) has = put_keeps mid at marks place bit inside ((also place bit).1 (inr (before, has)))
  back-cases (inr same) has =
      subst (λ k. HasMark (put_on mid at marks) k bit) same (put_there mid at marks bit inside has)

  back : HasMark old place bit ⊎ (Contains (take (i + 1) places) place × (bit_at marks bit ≡ 1))
      → HasMark (put_on mid at marks) place bit
  back (inl has) = put_keeps mid at marks place bit inside ((also place bit).1 (inl has))
  back (inr more) = back-cases (front_more_cases places i at place short is more.0) more.1

-- ---- marks of roots

abbrev IsRootAt : List (ℕ × ℕ) → ℕ → Linked → Type 0
IsRootAt group bit node = (root : ℕ × ℕ) × (slice_get group bit ≡ Some root) × (root.1 ≡ node.address)

pub roots_none : (nodes : List Linked) (group : List (ℕ × ℕ)) (rows : List ℕ) → ((place : ℕ) → get_or rows place 0 ≡ 0)
    → AreOfRoots nodes (take 0 group) rows
roots_none nodes group rows empty place bit node at = (
  λ has. absurd (none_marked bit (subst (λ n. bit_at n bit ≡ 1) (empty place) has)),
  λ root. absurd (omega (arith, within_front 0 group bit root.0 root.1)),
)

module _ (nodes : List Linked) (group : List (ℕ × ℕ)) (i : ℕ) (root : ℕ × ℕ) (here : slice_get group i ≡ Some root)
  where
    earlier : (bit : ℕ) (node : Linked) → IsRootAt (take i group) bit node → IsRootAt (take (i + 1) group) bit node
    earlier bit node found =
        let short = within_front i group bit found.0 found.1 in (
          found.0,
          at_front (i + 1) group bit found.0 (omega (arith, short))
              (at_whole i group bit found.0 found.1),
          found.2,
        )

    more_cases : (bit : ℕ) (node : Linked) → IsRootAt (take (i + 1) group) bit node
        → IsRootAt (take i group) bit node ⊎ ((bit ≡ i) × (root.1 ≡ node.address))
    more_cases bit node found = cases (cases_lt bit i) where
      whole : slice_get group bit ≡ Some found.0
      whole = at_whole (i + 1) group bit found.0 found.1

      cases : (bit < i) ⊎ (i ≤ bit) → IsRootAt (take i group) bit node ⊎ ((bit ≡ i) × (root.1 ≡ node.address))
      cases (inl less) = inl (found.0, at_front i group bit found.0 less whole, found.2)
      cases (inr more) =
          let short = within_front (i + 1) group bit found.0 found.1 in
          let is : bit ≡ i = omega (arith, short, more) in
          let one = at_one group i root found.0 here (at_along group bit i found.0 is whole) in
          inr (is, ap (λ (r : ℕ × ℕ). r.1) one ∙ found.2)

    -- a root that is no node's
    pub roots_other : (rows : List ℕ) → AreOthers (λ node. node.address) nodes root.1
        → AreOfRoots nodes (take i group) rows → AreOfRoots nodes (take (i + 1) group) rows
    roots_other rows others are place bit node at =
        (λ has. earlier bit node ((are place bit node at).0 has), λ found. back (more_cases bit node found)) where
          back : IsRootAt (take i group) bit node ⊎ ((bit ≡ i) × (root.1 ≡ node.address)) → HasMark rows place bit
          back (inl before) = (are place bit node at).1 before
          back (inr now) = absurd (All-at (λ (n : Linked). n.address ≢ root.1) nodes place node others at (sym now.1))

    -- a root that is a node's
    pub roots_more : (rows : List ℕ) (p mark : ℕ) → IsStrictlyIncreasing (map (λ node. node.address) nodes)
        → StandsAt (λ node. node.address) nodes root.1 p → p < length rows
        → bit_at mark i ≡ 1 → ((bit : ℕ) → bit ≢ i → bit_at mark bit ≡ 0)
        → AreOfRoots nodes (take i group) rows → AreOfRoots nodes (take (i + 1) group) (put_on rows p mark)
    roots_more rows p mark up stands inside own others are place bit node at =
        (λ has. into (put_cases rows p mark place bit inside has), λ found. back (more_cases bit node found)) where
          only : bit_at mark bit ≡ 1 → (bit ≡ i) ⊎ (bit ≡ i → ⊥) → bit ≡ i
          only has (inl is) = is
          only has (inr other) = absurd (omega (arith, has, others bit other))

          into : HasMark rows place bit ⊎ ((p ≡ place) × (bit_at mark bit ≡ 1)) → IsRootAt (take (i + 1) group) bit node
          into (inl has) = earlier bit node ((are place bit node at).0 has)
          into (inr new) =
              let is = only new.1 (cases_eq bit i) in
              let one = at_one nodes place node stands.0 at (at_along nodes p place stands.0 new.0 stands.1) in (
                root,
                at_front (i + 1) group bit root (omega (arith, is))
                    (at_along group i bit root (sym is) here),
                sym stands.2 ∙ ap (λ (n : Linked). n.address) (sym one),
              )

          back : IsRootAt (take i group) bit node ⊎ ((bit ≡ i) × (root.1 ≡ node.address))
              → HasMark (put_on rows p mark) place bit
          back (inl before) = put_keeps rows p mark place bit inside ((are place bit node at).1 before)
          back (inr now) =
              let same = stands.2 ∙ now.1 in
              let is = one_place (λ (n : Linked). n.address) nodes up p place stands.0 node stands.1 at same in
              subst (λ k. HasMark (put_on rows p mark) k bit) is
              (put_there rows p mark bit inside (subst (λ k. bit_at mark k ≡ 1) (sym now.0) own))
