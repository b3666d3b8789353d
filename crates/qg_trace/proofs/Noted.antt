-- A map by address, and the list of its entries.
use Rattle.std.proofs.Common.{◌≡◌, ℕ, Bool, true, false, List, [], ◌∷◌, Some, refl, sym, ap, ◌∙◌, arith, cond, nat_lt}
use Rattle.std.specs.Prelude.{if◌then◌else◌, ◌==◌}
use Rattle.std.specs.BTreeMap.{insert_entry, is_at}
use Rattle.std.specs.List.{All}
use Rattle.std.specs.List.Sorted.{IsStrictlyIncreasing, IsStrictlySortedBy}
use Rattle.std.specs.Map.{lookup}
use Rattle.std.specs.Ordering.{is_eq, match_ordering, nat_cmp}
use Rattle.std.specs.declared.cmp.Ordering.TheVariants.{Less, Equal, Greater}
use Rattle.std.proofs.lemmas.Bool.{cond_both}
use Rattle.std.proofs.lemmas.Bool.Decides.{nat_tests}
use Rattle.std.proofs.lemmas.List.Elements.{All-cons, All-head, All-nil, All-tail}
use Rattle.qg_image.specs.Table.{keys_of, value_at, with_value}
use Rattle.qg_trace.specs.declared.trace.TraceEntry.{TraceEntry}
use Rattle.qg_trace.specs.Touched.{IsTrace}

-- ---- what is there

equal_numbers : (a b : ℕ) → is_eq (nat_cmp a b) ≡ (b == a)
equal_numbers a b = grind (arith, nat_tests)

-- what a search finds in the map is the value at the number
pub found_at : {A : Type 0} (n : ℕ) (entries : List (ℕ × A)) → value_at n entries ≡ lookup (is_at (nat_cmp n)) entries
found_at n [] = refl
found_at {A} n (e ∷ entries) =
    ap (λ rest. if e.0 == n then Some e.1 else rest) (found_at n entries)
    ∙ ap (λ (here : Bool). if here then Some e.1 else lookup (is_at (nat_cmp n)) entries) (sym (equal_numbers n e.0))

-- ---- what is put in

turned : (a b : ℕ) → (a == b) ≡ (b == a)
turned a b = grind (arith, nat_tests)

number_is : (a b : ℕ) → (a == b) ≡ true → a ≡ b
number_is a b same = grind (arith, nat_tests)

number_choice : {A : Type 0} (a b : Bool) (less equal greater : A)
    → match_ordering (cond a Less (cond b Equal Greater)) less equal greater ≡ cond a less (cond b equal greater)
number_choice true b less equal greater = refl
number_choice false true less equal greater = refl
number_choice false false less equal greater = refl

-- the map's entries with this one are the list with this value
pub put_at : {A : Type 0} (n : ℕ) (value : A) (entries : List (ℕ × A))
    → insert_entry nat_cmp entries n value ≡ with_value n value entries
put_at n value [] = refl
put_at {A} n value (e ∷ entries) =
    number_choice (nat_lt n e.0) (n == e.0) ((n, value) ∷ e ∷ entries) ((e.0, value) ∷ entries)
    (e ∷ insert_entry nat_cmp entries n value)
    ∙ choice (nat_lt n e.0) (n == e.0) (e.0 == n) (turned n e.0) (number_is n e.0) (put_at n value entries)
  where
    choice : (less same other : Bool) → same ≡ other → (same ≡ true → n ≡ e.0)
        → insert_entry nat_cmp entries n value ≡ with_value n value entries
        → cond less ((n, value) ∷ e ∷ entries)
        (cond same ((e.0, value) ∷ entries) (e ∷ insert_entry nat_cmp entries n value))
        ≡ cond less ((n, value) ∷ e ∷ entries)
        (cond other ((n, value) ∷ entries) (e ∷ with_value n value entries))
    choice true same other is exact rest = refl
    choice false true other is exact rest =
        ap (λ (m : ℕ). (m, value) ∷ entries) (sym (exact refl))
        ∙ ap (λ (b : Bool). cond b ((n, value) ∷ entries) (e ∷ with_value n value entries)) is
    choice false false other is exact rest =
        ap (λ (es : List (ℕ × A)). e ∷ es) rest
        ∙ ap (λ (b : Bool). cond b ((n, value) ∷ entries) (e ∷ with_value n value entries)) is

-- what holds of each entry, and of the one that is put in
all_put : {A : Type 0} (P : ℕ × A → Type 0) (n : ℕ) (value : A) (entries : List (ℕ × A)) → All P entries → P (n, value)
    → All P (with_value n value entries)
all_put P n value [] all here = All-cons P (n, value) [] here (All-nil P)
all_put P n value (e ∷ entries) all here =
    cond_both (nat_lt n e.0) _ _ (All P) (λ _. All-cons P (n, value) (e ∷ entries) here all)
    (λ _. cond_both (e.0 == n) _ _ (All P) (λ _. All-cons P (n, value) entries here (All-tail P e entries all))
    (λ _. All-cons P e (with_value n value entries) (All-head P e entries all)
    (all_put P n value entries (All-tail P e entries all) here)))

-- a trace with one address more is one
pub trace_with : (at : ℕ) (entry : TraceEntry) (old new : List (ℕ × TraceEntry)) → IsTrace old
    → IsStrictlyIncreasing entry.owners → new ≡ with_value at entry old → IsStrictlySortedBy nat_cmp (keys_of new)
    → IsTrace new
trace_with at entry old new sound ascending is ordered = record {
  addresses = ordered;
  owners =
      rw is (all_put (λ (one : ℕ × TraceEntry). IsStrictlyIncreasing one.1.owners) at entry old sound.owners ascending);
}
