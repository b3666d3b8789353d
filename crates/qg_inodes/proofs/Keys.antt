-- Which keys are those of a file's pieces.
use Rattle.std.proofs.Common.{◌≡◌, ℕ, ◌<◌, ◌≤◌, true, false, refl, sym, ap, ◌∙◌, arith, inl, inr}
use Rattle.std.specs.Prelude.{Bool, ◌&&◌, ◌⊎◌, nat_le, not}
use Rattle.std.specs.Ordering.{is_lt, nat_cmp, ordering_then}
use Rattle.std.specs.Cmp.{nat_cmp_is}
use Rattle.std.specs.declared.cmp.Ordering.{Ordering}
use Rattle.std.specs.declared.cmp.Ordering.TheVariants.{Less, Equal, Greater}
use Rattle.std.proofs.lemmas.Bool.{and_from, and_parts, cases_Bool, cases_eq, cases_lt, le-leb, lt-leb}
use Rattle.std.proofs.lemmas.Cmp.{ranked}
use Rattle.qg_num.specs.Key.{key_cmp}
use Rattle.qg_num.specs.declared.key.Key.{Key}
use Rattle.qg_tree_items.specs.Keys.{key_with}
use Rattle.qg_walk.proofs.KeyRanges.{not_less_behind}
use Rattle.qg_tree_read.specs.Reading.{is_upto, is_within}

-- ---- where one key is not less than another

record IsAbove (high low : Key) : Type 0 where
  number : low.objectid ≤ high.objectid
  kind : high.objectid ≡ low.objectid → low.kind ≤ high.kind

was_false : (b : Bool) → not b ≡ true → b ≡ false
was_false true is = absurd cc
was_false false is = refl

above_by : (high low : Key) (o p : Ordering) → nat_cmp high.objectid low.objectid ≡ o → nat_cmp high.kind low.kind ≡ p
    → is_lt (ordering_then o (ordering_then p (nat_cmp high.offset low.offset))) ≡ false
    → IsAbove high low
above_by high low Less p number kind not_less = absurd cc
above_by high low Greater p number kind not_less =
    let greater = ranked high.objectid low.objectid Greater (sym number) in
    record { number = omega (arith, greater); kind = λ same. absurd (omega (arith, greater, same)) }
above_by high low Equal Less number kind not_less = absurd cc
above_by high low Equal Equal number kind not_less =
    let same = ranked high.objectid low.objectid Equal (sym number) in
    let alike = ranked high.kind low.kind Equal (sym kind) in
    record { number = omega (arith, same); kind = λ _. omega (arith, alike) }
above_by high low Equal Greater number kind not_less =
    let same = ranked high.objectid low.objectid Equal (sym number) in
    let greater = ranked high.kind low.kind Greater (sym kind) in
    record { number = omega (arith, same); kind = λ _. omega (arith, greater) }

above : (high low : Key) → not (is_lt (key_cmp high low)) ≡ true → IsAbove high low
above high low is =
    above_by high low (nat_cmp high.objectid low.objectid) (nat_cmp high.kind low.kind) refl refl
    (was_false (is_lt (key_cmp high low)) is)

-- ---- keys between two of a file's pieces

pub record IsOwn (ino : ℕ) (key : Key) : Type 0 where
  pub number : key.objectid ≡ ino
  pub kind : key.kind ≡ 108

pub within-own : (ino from to : ℕ) (key : Key) → is_within (key_with ino 108 from) (key_with ino 108 to) key ≡ true
    → IsOwn ino key
within-own ino from to key within =
    let low = key_with ino 108 from in
    let high = key_with ino 108 to in
    let parts = and_parts (not (is_lt (key_cmp key low))) (is_upto high key) within in
    let behind = above key low parts.0 in
    let before = above high key parts.1 in
    let number : key.objectid ≡ ino = omega (arith, behind.number, before.number) in
    record {
      number = number;
      kind = omega (arith, behind.kind number, before.kind (sym number));
    }

-- what stands behind one of a file's pieces, and not behind another key of it
pub between-own : (ino from to : ℕ) (key : Key) → is_lt (key_cmp (key_with ino 108 from) key) ≡ true
    → is_upto (key_with ino 108 to) key ≡ true
    → IsOwn ino key
between-own ino from to key less upto =
    let low = key_with ino 108 from in
    within-own ino from to key
    (and_from (not (is_lt (key_cmp key low))) (is_upto (key_with ino 108 to) key) (not_less_behind low key less) upto)

pub outside : (ino from to : ℕ) (key : Key) → (IsOwn ino key → ⊥)
    → is_within (key_with ino 108 from) (key_with ino 108 to) key ≡ false
outside ino from to key other = elim (cases_Bool (is_within (key_with ino 108 from) (key_with ino 108 to) key)) [
  | inl within ↦ absurd (other (within-own ino from to key within))
  | inr not_within ↦ not_within
]

-- ---- those of a file's pieces

same_number : (a : ℕ) → nat_cmp a a ≡ Equal
same_number a = sym (nat_cmp_is a a Equal refl)

not_less-le : (a b : ℕ) → not (is_lt (nat_cmp a b)) ≡ nat_le b a
not_less-le a b = elim (cases_lt a b) [
  | inl less ↦
      ap (λ (o : Ordering). not (is_lt o)) (sym (nat_cmp_is a b Less less)) ∙ sym (lt-leb b a less)
  | inr past ↦ elim (cases_eq a b) [
    | inl same ↦
        ap (λ (o : Ordering). not (is_lt o)) (sym (nat_cmp_is a b Equal same)) ∙ sym (le-leb b a past)
    | inr differ ↦
        ap (λ (o : Ordering). not (is_lt o)) (sym (nat_cmp_is a b Greater (omega arith))) ∙ sym (le-leb b a past)
  ]
]

by_offset : (ino a b : ℕ) → not (is_lt (key_cmp (key_with ino 108 a) (key_with ino 108 b))) ≡ nat_le b a
by_offset ino a b =
    ap (λ (o : Ordering). not (is_lt (ordering_then o (nat_cmp a b)))) (same_number ino) ∙ not_less-le a b

own_key : (ino : ℕ) (key : Key) → IsOwn ino key → key ≡ key_with ino 108 key.offset
own_key ino key own = λ i. record { objectid = own.number i; kind = own.kind i; offset = key.offset }

pub own-upto : (ino to : ℕ) (key : Key) → IsOwn ino key → is_upto (key_with ino 108 to) key ≡ nat_le key.offset to
own-upto ino to key own =
    ap (λ (k : Key). is_upto (key_with ino 108 to) k) (own_key ino key own) ∙ by_offset ino to key.offset

own_from : (ino from : ℕ) (key : Key) → IsOwn ino key
    → not (is_lt (key_cmp key (key_with ino 108 from))) ≡ nat_le from key.offset
own_from ino from key own =
    ap (λ (k : Key). not (is_lt (key_cmp k (key_with ino 108 from)))) (own_key ino key own)
    ∙ by_offset ino key.offset from

pub own-within : (ino from to : ℕ) (key : Key) → IsOwn ino key
    → is_within (key_with ino 108 from) (key_with ino 108 to) key ≡ (nat_le from key.offset && nat_le key.offset to)
own-within ino from to key own =
    ap (λ (b : Bool). b && is_upto (key_with ino 108 to) key) (own_from ino from key own)
    ∙ ap (λ (b : Bool). nat_le from key.offset && b) (own-upto ino to key own)
