-- All references to an address are listed: then the list counts all, and another isn't there.
use Rattle.std.proofs.Common.{◌≡◌, ℕ, zero, suc, ◌+◌, ◌<◌, ◌≤◌, List, [], ◌∷◌, ◌++◌, length, take, Option}
use Rattle.std.proofs.Common.{Some, None, get_or, refl, sym, ap, subst, ◌∙◌, arith, ◌⊎◌, inl, inr}
use Rattle.std.specs.Prelude.{IsSome, is_some, Result, Err, IfErr}
use Rattle.std.proofs.lemmas.Bool.{cases_Bool, cond-false, true≢false}
use Rattle.std.proofs.lemmas.List.{take_more}
use Rattle.qg_num.specs.declared.fault.BlockFault.{BlockFault}
use Rattle.qg_num.specs.declared.fault.BlockFault.TheVariants.{NoMemory}
use Rattle.qg_items.specs.declared.extent.Reference.{Reference}
use Rattle.qg_image.specs.Record.{same_reference}
use Rattle.qg_refs.specs.declared.counted.Counted.{Counted}
use Rattle.qg_refs.specs.Book.{Book, count_at, references_at}
use Rattle.qg_refs.specs.Counts.{IsRefList, count_of, counted}
use Rattle.qg_refs.proofs.Counting.{count-cons, count-found, count-nil, counted-other}
use Rattle.qg_refs.proofs.RankOrder.{same_reference_is, same_other_way, precedes_differs}
use Rattle.qg_delayed.specs.declared.change.Change.{Change}
use Rattle.qg_delayed.specs.declared.entry.Entry.{Entry}
use Rattle.qg_delayed.specs.Below.{total_of}
use Rattle.qg_delayed.specs.Changes.{ChangesAscend, change_of, sum_below}
use Rattle.qg_delayed.specs.Entry.{HasAt, IsEntry, entry_at, with_listed}
use Rattle.qg_delayed.specs.Merged.{Fits, IsOf, Knows, KnowsMore, KnowsReference, Learns, change_in}
use Rattle.qg_delayed.specs.Merged.{with_count}
use Rattle.qg_delayed.proofs.Books.{has_here}
use Rattle.qg_delayed.proofs.Entries.{says_below}
use Rattle.qg_delayed.proofs.Listing.{first_before, later, with_other, with_own}
use Rattle.qg_delayed.proofs.Totals.{SaysBelow, count_list, count_other, count_own, count_total, nothing_counted}

-- ---- what changes count

nothing_total : (xs : List Counted) → IsRefList xs → ((x : Reference) → count_of xs x ≡ 0) → total_of xs ≡ 0
nothing_total [] list none = refl
nothing_total (y ∷ ys) list none = absurd (nothing_counted y ys list (none y.reference))

-- where no reference is there that has no change, the changes count all
all_counted : (cs : List Change) (xs : List Counted) → IsRefList xs → ChangesAscend cs → SaysBelow xs cs
    → ((x : Reference) → change_of x cs ≡ None → count_of xs x ≡ 0) → total_of xs ≤ sum_below cs
all_counted [] xs list up says each = omega (arith, nothing_total xs list (λ x. each x refl))
all_counted (c ∷ cs) xs list up says each =
    let own : c.below ≡ count_of xs c.reference = says 0 c (omega arith) in
    let lower = all_counted cs rest (count_list c.reference 0 xs list) (later c cs up) says_rest each_rest in
    omega (arith, own, lower, count_total c.reference 0 xs list)
  where
    rest : List Counted
    rest = with_count c.reference 0 xs

    says_rest : SaysBelow rest cs
    says_rest k d h =
        let differs = same_other_way c.reference (get_or cs k d).reference
        (precedes_differs c.reference (get_or cs k d).reference (first_before c cs up k d h)) in
        says (suc k) d (omega (arith, h)) ∙ sym (count_other c.reference 0 xs (get_or cs k d).reference differs)

    each_rest : (x : Reference) → change_of x cs ≡ None → count_of rest x ≡ 0
    each_rest x none = elim (cases_Bool (same_reference x c.reference)) [
      | inl same ↦
          ap (count_of rest) (same_reference_is x c.reference same) ∙ count_own c.reference 0 xs list
      | inr differs ↦
          count_other c.reference 0 xs x differs
          ∙ each x (cond-false (same_reference x c.reference) (Some c) (change_of x cs) differs ∙ none)
    ]

none_or_some : {A : Type 0} (o : Option A) → (o ≡ None) ⊎ IsSome o
none_or_some None = inl refl
none_or_some (Some x) = inr refl

zero_or_more : (n : ℕ) → (n ≡ 0) ⊎ (0 < n)
zero_or_more zero = inl refl
zero_or_more (suc n) = inr (omega arith)

-- where each reference that is there is listed, there are no others
pub none_other : (below : Book) (entries : List (ℕ × Entry)) (at : ℕ) (entry : Entry) → IsEntry entry
    → entry_at entries at ≡ Some entry → Fits below entries
    → ((x : Reference) → 0 < count_at below at x → KnowsReference entries at x) → entry.others ≡ 0
none_other below entries at entry is there fits each =
    let of : IsOf (below at) entry = fits.each at entry there in
    let all = all_counted entry.changes (references_at below at) (fits.book.sound at) is.ascend
    (says_below (below at) entry is.ascend of) unlisted in
    omega (arith, all, of.others)
  where
    unlisted : (x : Reference) → change_of x entry.changes ≡ None → count_at below at x ≡ 0
    unlisted x none = elim (zero_or_more (count_at below at x)) [
      | inl nothing ↦ nothing
      | inr some ↦ absurd (true≢false (sym (each x some) ∙ ap (λ (o : Option Change). is_some o)
          (ap (change_in x) there ∙ none)))
    ]

-- ---- what is known

-- a reference that is listed is known, and so is each that was
pub more_listed : (old new : List (ℕ × Entry)) (at : ℕ) (x : Reference) (n : ℕ) (e : Entry)
    → entry_at old at ≡ Some e → HasAt old new at (with_listed x n e) → KnowsMore old new at x
more_listed old new at x n e was has =
    let c : Change = record { reference = x; below = n; now = n } in
    let here : entry_at new at ≡ Some (with_listed x n e) = has_here old new at (with_listed x n e) has in
    record {
      known = subst (λ (o : Option Change). IsSome o) (sym (ap (change_in x) here ∙ with_own c e.changes)) refl;
      still = λ y knows. elim (cases_Bool (same_reference y x)) [
        | inl same ↦
            subst (λ (o : Option Change). IsSome o)
            (sym (ap (change_in y) here ∙ ap (λ (r : Reference). change_of r (with_listed x n e).changes)
            (same_reference_is y x same) ∙ with_own c e.changes)) refl
        | inr differs ↦
            subst (λ (o : Option Change). IsSome o)
            (ap (change_in y) was ∙ sym (with_other c e.changes y differs) ∙ sym (ap (change_in y) here)) knows
      ];
    }

-- one that was listed already
pub more_known : (old new : List (ℕ × Entry)) (at : ℕ) (x : Reference) → new ≡ old → KnowsReference old at x
    → KnowsMore old new at x
more_known old new at x same knows = subst (λ (es : List (ℕ × Entry)). KnowsMore old es at x) (sym same)
    (record { known = knows; still = λ y known. known })

-- an address is known where a reference to it is
pub known_at : (entries : List (ℕ × Entry)) (at : ℕ) (x : Reference) → KnowsReference entries at x → Knows entries at
known_at entries at x = by (entry_at entries at)
  where
    by : (o : Option Entry) → IsSome (change_in x o) → IsSome o
    by None some = some
    by (Some entry) some = refl

-- ---- one after the other

-- so far some of an address's references are listed
pub record HaveListed (initial now : List (ℕ × Entry)) (at : ℕ) (all : List Counted) (front : List Counted)
    : Type 0 where
  pub knows : Knows now at
  pub learns : Learns initial now at
  pub told : (below : Book) → references_at below at ≡ all → Fits below initial → Fits below now
  pub listed : (x : Reference) → 0 < count_of front x → KnowsReference now at x

pub none_listed : (initial : List (ℕ × Entry)) (at : ℕ) (all : List Counted) → Knows initial at
    → HaveListed initial initial at all []
none_listed initial at all knows = record {
  knows = knows;
  learns = record { fitted = λ below fits. fits; same = λ below fits q. refl; elsewhere = λ q apart. refl };
  told = λ below is fits. fits;
  listed = λ x some. absurd (omega (arith, some, count-nil x));
}

pub learns_on : (old mid new : List (ℕ × Entry)) (at : ℕ) → Learns old mid at → Learns mid new at → Learns old new at
learns_on old mid new at first second = record {
  fitted = λ below fits. first.fitted below (second.fitted below fits);
  same = λ below fits q. second.same below fits q ∙ first.same below (second.fitted below fits) q;
  elsewhere = λ q apart. second.elsewhere q apart ∙ first.elsewhere q apart;
}

count_push : (xs : List Counted) (y : Counted) (x : Reference) → count_of (xs ++ y ∷ []) x ≡ count_of xs x + counted x y
count_push [] y x = omega (arith, count-cons y [] x, count-nil x)
count_push (z ∷ zs) y x =
    let after : count_of ((z ∷ zs) ++ y ∷ []) x ≡ counted x z + count_of (zs ++ y ∷ []) x =
    count-cons z (zs ++ y ∷ []) x in
    omega (arith, after, count-cons z zs x, count_push zs y x)

count_taken : (xs : List Counted) (i : ℕ) (y : Counted) (x : Reference) → i < length xs → y ≡ get_or xs i y
    → count_of (take (i + 1) xs) x ≡ count_of (take i xs) x + counted x y
count_taken xs i y x inside is =
    let more : take (i + 1) xs ≡ take i xs ++ y ∷ [] = take_more xs i y inside
    ∙ ap (λ (w : Counted). take i xs ++ w ∷ []) (sym is) in
    ap (λ (ws : List Counted). count_of ws x) more ∙ count_push (take i xs) y x

-- the reference at a place is there so often
pub own_count : (below : Book) (at : ℕ) (all : List Counted) (i : ℕ) (y : Counted) → IsRefList all → i < length all
    → y ≡ get_or all i y → references_at below at ≡ all → count_at below at y.reference ≡ y.count
own_count below at all i y list inside is told =
    ap (λ (xs : List Counted). count_of xs y.reference) told
    ∙ count-found y.reference all i y list.ascend inside (sym (ap (λ (c : Counted). c.reference) is))
    ∙ sym (ap (λ (c : Counted). c.count) is)

pub next_listed : (initial now next : List (ℕ × Entry)) (at : ℕ) (all : List Counted) (i : ℕ) (y : Counted)
    → IsRefList all → i < length all → y ≡ get_or all i y → HaveListed initial now at all (take i all)
    → KnowsMore now next at y.reference → Learns now next at
    → ((below : Book) → count_at below at y.reference ≡ y.count → Fits below now → Fits below next)
    → HaveListed initial next at all (take (i + 1) all)
next_listed initial now next at all i y list inside is so more learns told = record {
  knows = known_at next at y.reference more.known;
  learns = learns_on initial now next at so.learns learns;
  told = λ below tells fits. told below (own_count below at all i y list inside is tells) (so.told below tells fits);
  listed = λ x some. elim (cases_Bool (same_reference x y.reference)) [
    | inl same ↦
        subst (λ (r : Reference). KnowsReference next at r) (sym (same_reference_is x y.reference same)) more.known
    | inr differs ↦
        more.still x (so.listed x
        (omega (arith, some, count_taken all i y x inside is, counted-other x y differs)))
  ];
}

-- at last no other is there
pub last_listed : (initial now : List (ℕ × Entry)) (at : ℕ) (all : List Counted) (entry : Entry) → IsEntry entry
    → entry_at now at ≡ Some entry → HaveListed initial now at all all → (below : Book)
    → references_at below at ≡ all → Fits below initial → entry.others ≡ 0
last_listed initial now at all entry is there so below told fits =
    none_other below now at entry is there (so.told below told fits)
    (λ x some. so.listed x (subst (λ (xs : List Counted). 0 < count_of xs x) told some))

-- ---- what a call answers

-- want of memory that is handed on
pub no_memory : {A : Type 0} (result : Result A BlockFault) (fault : BlockFault) → result ≡ Err fault
    → fault ≡ NoMemory → IfErr result (λ given. given ≡ NoMemory)
no_memory {A} result fault is none =
    subst (λ (r : Result A BlockFault). IfErr r (λ given. given ≡ NoMemory)) (sym is) none
