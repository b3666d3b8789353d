-- What records take, each once: that depends on which there are, not on their order, nor on how often each is there.
use Rattle.std.proofs.Common.{◌≡◌, ℕ, ◌+◌, ◌≤◌, Bool, true, false, List, [], ◌∷◌, ◌++◌, refl, sym, ap, subst, ◌∙◌}
use Rattle.std.proofs.Common.{arith}
use Rattle.std.proofs.Common.{inl, inr}
use Rattle.std.specs.Prelude.{not, ◌||◌, ◌==◌, if◌then◌else◌}
use Rattle.std.specs.List.{filter, sum_by}
use Rattle.std.proofs.lemmas.Bool.{and_from, and_parts, cases_Bool, cond-false, cond-true, eq-eqb, eqb-true}
use Rattle.std.proofs.lemmas.Bool.{false_from_ne_true, or_left, true≢false}
use Rattle.std.proofs.lemmas.List.Folds.{list_any-append}
use Rattle.std.proofs.lemmas.List.Sums.{sum_by-cons}
use Rattle.qg_image.specs.Record.{Record, RootOf, ExtentOf, NodeOf, ReferenceTo, Status, InfoOf, LimitOf, RelationOf}
use Rattle.qg_image.specs.Record.{distinct_records, record_bytes, records_bytes, same_record, same_reference}
use Rattle.qg_weighed.specs.Laws.{is_among}
use Rattle.qg_extents.proofs.RankOrder.{same_itself, same_reference_is}

-- ---- two records

both_are : {A B : Type 0} (named : A → B → Record) (a a' : A) (b b' : B) → a ≡ a' → b ≡ b' → named a b ≡ named a' b'
both_are named a a' b b' first second = λ i. named (first i) (second i)

pub same_record_is : (a b : Record) → same_record a b ≡ true → a ≡ b
same_record_is (RootOf tree) (RootOf tree') same = ap RootOf (eqb-true tree tree' same)
same_record_is (ExtentOf address bytes) (ExtentOf address' bytes') same =
    let parts = and_parts (address == address') (bytes == bytes') same in
    both_are ExtentOf address address' bytes bytes' (eqb-true address address' parts.0) (eqb-true bytes bytes' parts.1)
same_record_is (NodeOf address level) (NodeOf address' level') same =
    let parts = and_parts (address == address') (level == level') same in
    both_are NodeOf address address' level level' (eqb-true address address' parts.0) (eqb-true level level' parts.1)
same_record_is (ReferenceTo address reference) (ReferenceTo address' reference') same =
    let parts = and_parts (address == address') (same_reference reference reference') same in
    both_are ReferenceTo address address' reference reference' (eqb-true address address' parts.0)
    (same_reference_is reference reference' parts.1)
same_record_is Status Status same = refl
same_record_is (InfoOf group) (InfoOf group') same = ap InfoOf (eqb-true group group' same)
same_record_is (LimitOf group) (LimitOf group') same = ap LimitOf (eqb-true group group' same)
same_record_is (RelationOf group other) (RelationOf group' other') same =
    let parts = and_parts (group == group') (other == other') same in
    both_are RelationOf group group' other other' (eqb-true group group' parts.0) (eqb-true other other' parts.1)
same_record_is a b same = absurd (true≢false (sym same))

equal : (n : ℕ) → (n == n) ≡ true
equal n = eq-eqb n n refl

pub record_itself : (a : Record) → same_record a a ≡ true
record_itself (RootOf tree) = equal tree
record_itself (ExtentOf address bytes) = and_from (address == address) (bytes == bytes) (equal address) (equal bytes)
record_itself (NodeOf address level) = and_from (address == address) (level == level) (equal address) (equal level)
record_itself (ReferenceTo address reference) =
    and_from (address == address) (same_reference reference reference) (equal address) (same_itself reference)
record_itself Status = refl
record_itself (InfoOf group) = equal group
record_itself (LimitOf group) = equal group
record_itself (RelationOf group other) = and_from (group == group) (other == other) (equal group) (equal other)

other_way : (a b : Record) → same_record a b ≡ false → same_record b a ≡ false
other_way a b differ = false_from_ne_true (same_record b a)
    (λ same. true≢false
    (sym (subst (λ (c : Record). same_record c b ≡ true) (same_record_is b a same) (record_itself b)) ∙ differ))

-- ---- which there are

-- what one takes that comes to others: nothing where it is there
abbrev pub adds : List Record → Record → ℕ
adds rest first = if is_among rest first then 0 else record_bytes first

pub bytes-one : (first : Record) (rest : List Record)
    → records_bytes (first ∷ rest) ≡ adds rest first + records_bytes rest
bytes-one first rest = elim (cases_Bool (is_among rest first)) [
  | inl there ↦
      let none : adds rest first ≡ 0 = cond-true _ _ _ there in
      let same : records_bytes (first ∷ rest) ≡ records_bytes rest =
      ap (sum_by record_bytes) (cond-true _ _ _ there) in
      omega (arith, none, same)
  | inr new ↦
      let own : adds rest first ≡ record_bytes first = cond-false _ _ _ new in
      let more : records_bytes (first ∷ rest) ≡ sum_by record_bytes (first ∷ distinct_records rest) =
      ap (sum_by record_bytes) (cond-false _ _ _ new) in
      omega (arith, own, more, sum_by-cons record_bytes first (distinct_records rest))
]

-- ---- all but one

abbrev without : Record → List Record → List Record
without one records = filter (λ other. not (same_record one other)) records

among-without : (one other : Record) (records : List Record) → same_record other one ≡ false
    → is_among (without one records) other ≡ is_among records other
among-without one other [] differ = refl
among-without one other (first ∷ records) differ = elim (cases_Bool (same_record one first)) [
  | inl same ↦
      let apart : same_record other first ≡ false =
      subst (λ (r : Record). same_record other r ≡ false) (same_record_is one first same) differ in
      rw same (among-without one other records differ ∙ sym (ap (λ (b : Bool). b || is_among records other) apart))
  | inr unlike ↦
      rw unlike (ap (λ (b : Bool). same_record other first || b) (among-without one other records differ))
]

among-own : (one : Record) (records : List Record) → is_among (without one records) one ≡ false
among-own one [] = refl
among-own one (first ∷ records) = elim (cases_Bool (same_record one first)) [
  | inl same ↦ rw same (among-own one records)
  | inr unlike ↦
      rw unlike (ap (λ (b : Bool). b || is_among (without one records) one) unlike ∙ among-own one records)
]

-- what one takes that is among others, and what these take without it
abbrev takes : List Record → Record → ℕ
takes records one = if is_among records one then record_bytes one else 0

bytes-without : (one : Record) (records : List Record)
    → records_bytes records ≡ takes records one + records_bytes (without one records)
bytes-without one [] = omega arith
bytes-without one (first ∷ records) = elim (cases_Bool (same_record one first)) [
  | inl same ↦
      let is : one ≡ first = same_record_is one first same in
      let all : takes (first ∷ records) one ≡ record_bytes one =
      cond-true _ _ _ (or_left (same_record one first) (is_among records one) same) in
      let rest : records_bytes (without one (first ∷ records)) ≡ records_bytes (without one records) = rw same refl in
      let here : records_bytes (first ∷ records) ≡ adds records one + records_bytes records =
      bytes-one first records ∙ ap (λ (r : Record). adds records r + records_bytes records) (sym is) in
      elim (cases_Bool (is_among records one)) [
        | inl there ↦
            let none : adds records one ≡ 0 = cond-true _ _ _ there in
            let own : takes records one ≡ record_bytes one = cond-true _ _ _ there in
            omega (arith, all, rest, here, none, own, bytes-without one records)
        | inr new ↦
            let some : adds records one ≡ record_bytes one = cond-false _ _ _ new in
            let none : takes records one ≡ 0 = cond-false _ _ _ new in
            omega (arith, all, rest, here, some, none, bytes-without one records)
      ]
  | inr unlike ↦
      let same : takes (first ∷ records) one ≡ takes records one =
      ap (λ (b : Bool). if b then record_bytes one else 0) (ap (λ (b : Bool). b || is_among records one) unlike) in
      let rest : records_bytes (without one (first ∷ records)) ≡ records_bytes (first ∷ without one records) =
      rw unlike refl in
      let alike : adds (without one records) first ≡ adds records first =
      ap (λ (b : Bool). if b then 0 else record_bytes first)
      (among-without one first records (other_way one first unlike)) in
      let here = bytes-one first records in
      let there = bytes-one first (without one records) in
      omega (arith, same, rest, alike, here, there, bytes-without one records)
]

-- ---- as many

-- records take as much as others with the same among them
pub bytes-alike : (xs ys : List Record) → ((one : Record) → is_among xs one ≡ is_among ys one)
    → records_bytes xs ≡ records_bytes ys
bytes-alike [] [] alike = refl
bytes-alike [] (y ∷ ys) alike =
    absurd (true≢false (sym (or_left (same_record y y) (is_among ys y) (record_itself y)) ∙ sym (alike y)))
bytes-alike (x ∷ xs) ys alike = elim (cases_Bool (is_among xs x)) [
  | inl there ↦
      let none : adds xs x ≡ 0 = cond-true _ _ _ there in
      let each : (one : Record) → is_among xs one ≡ is_among ys one = λ one. covered one there ∙ alike one in
      omega (arith, bytes-one x xs, none, bytes-alike xs ys each)
  | inr new ↦
      let own : adds xs x ≡ record_bytes x = cond-false _ _ _ new in
      let has : is_among ys x ≡ true =
      sym (alike x) ∙ or_left (same_record x x) (is_among xs x) (record_itself x) in
      let all : takes ys x ≡ record_bytes x = cond-true _ _ _ has in
      let rest = bytes-alike xs (without x ys) (λ one. left one new) in
      omega (arith, bytes-one x xs, own, all, rest, bytes-without x ys)
]
  where
    covered : (one : Record) → is_among xs x ≡ true → is_among xs one ≡ is_among (x ∷ xs) one
    covered one there = elim (cases_Bool (same_record one x)) [
      | inl same ↦
          let is : one ≡ x = same_record_is one x same in
          subst (λ (r : Record). is_among xs r ≡ true) (sym is) there
          ∙ sym (or_left (same_record one x) (is_among xs one) same)
      | inr unlike ↦ sym (ap (λ (b : Bool). b || is_among xs one) unlike)
    ]

    left : (one : Record) → is_among xs x ≡ false → is_among xs one ≡ is_among (without x ys) one
    left one new = elim (cases_Bool (same_record one x)) [
      | inl same ↦
          let is : one ≡ x = same_record_is one x same in
          subst (λ (r : Record). is_among xs r ≡ is_among (without x ys) r) (sym is) (new ∙ sym (among-own x ys))
      | inr unlike ↦
          sym (ap (λ (b : Bool). b || is_among xs one) unlike) ∙ alike one ∙ sym (among-without x one ys unlike)
    ]

-- others in front take no less away
pub bytes-more : (xs ys : List Record) → records_bytes ys ≤ records_bytes (xs ++ ys)
bytes-more [] ys = omega arith
bytes-more (x ∷ xs) ys = omega (arith, bytes-one x (xs ++ ys), bytes-more xs ys)

-- records that are apart take what each take
pub bytes-apart : (xs ys : List Record) → ((one : Record) → is_among xs one ≡ true → is_among ys one ≡ false)
    → records_bytes (xs ++ ys) ≡ records_bytes xs + records_bytes ys
bytes-apart [] ys apart = omega arith
bytes-apart (x ∷ xs) ys apart =
    let other : is_among ys x ≡ false = apart x (or_left (same_record x x) (is_among xs x) (record_itself x)) in
    let both : is_among (xs ++ ys) x ≡ is_among xs x =
    list_any-append (same_record x) xs ys ∙ or_none (is_among xs x) (is_among ys x) other in
    let alike : adds (xs ++ ys) x ≡ adds xs x = ap (λ (b : Bool). if b then 0 else record_bytes x) both in
    let later = bytes-apart xs ys (λ one among. apart one (or_second (same_record one x) (is_among xs one) among)) in
    omega (arith, bytes-one x (xs ++ ys), bytes-one x xs, alike, later)
  where
    or_none : (a b : Bool) → b ≡ false → (a || b) ≡ a
    or_none true b none = refl
    or_none false b none = none

    or_second : (a b : Bool) → b ≡ true → (a || b) ≡ true
    or_second true b there = refl
    or_second false b there = there
