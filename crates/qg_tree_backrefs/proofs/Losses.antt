-- References that are taken, one by one.
use Rattle.std.proofs.Common.{◌≡◌, ◌≢◌, ℕ, get_or, take, drop, length, ◌+◌, ◌<◌, ◌≤◌, Bool, true, false, List, [], ◌∷◌}
use Rattle.std.proofs.Common.{◌++◌, Option, Some, None, refl, sym, ap, subst, ◌∙◌, arith, inl, inr}
use Rattle.std.proofs.lemmas.Bool.Decides.{eqb_tells}
use Rattle.qg_items.specs.declared.extent.Reference.{Reference}
use Rattle.qg_image.specs.Owed.{Owing}
use Rattle.qg_refs.specs.declared.counted.Counted.{Counted}
use Rattle.qg_refs.specs.declared.kept.What.{What}
use Rattle.qg_refs.specs.declared.kept.Kept.{Kept}
use Rattle.qg_refs.specs.Book.{Book, Drops, count_at, full_in, references_at, references_in, what_in}
use Rattle.qg_refs.specs.Counts.{count_of}
use Rattle.qg_tree_backrefs.specs.Exchange.{CanTake, Takes, times}
use Rattle.qg_backref_rule.specs.declared.owing.Owing.{Owing as Listed}
use Rattle.qg_backref_rule.specs.OwedLists.{owing_told, owings_told}
use Rattle.qg_tree_backrefs.proofs.Times.{told-more, told-parts, times-append, times-nil, times-own, times_here}
use Rattle.qg_tree_backrefs.proofs.Times.{times_there}

-- ---- one reference

pub one-there : (book : Book) (owing : Owing) → CanTake book (owing ∷ [])
    → count_at book owing.address owing.reference ≡ 0 → ⊥
one-there book owing can none =
    let some = can.there owing.address owing.reference in
    let one = times-own owing in
    omega (arith, some, one, none)

module _ (old new : Book) (owing : Owing) (drops : Drops old new owing.address owing.reference) where
  -- what is still kept has a reference left
  some_left : (kept : Kept) → new owing.address ≡ Some kept → references_at new owing.address ≢ []
  some_left kept is none = let gone : Some kept ≡ None = sym is ∙ drops.gone none in cc

  counts_taken : (at : ℕ) (reference : Reference)
      → count_at new at reference + times (owing ∷ []) at reference ≡ count_at old at reference
  counts_taken at reference = elim (eqb_tells owing.address at) [
    | inl (equal, same) ↦
        let less = drops.count reference in
        let here = times_here owing at reference same in
        subst (λ (q : ℕ). count_at new q reference + times (owing ∷ []) at reference ≡ count_at old q reference) same
        (ap (λ (n : ℕ). count_at new owing.address reference + n) here ∙ sym less)
    | inr (unequal, differ) ↦
        let same = drops.elsewhere at (λ is. differ (sym is)) in
        let none = times_there owing at reference differ in
        let count : count_at new at reference ≡ count_at old at reference =
        ap (λ (kept : Option Kept). count_of (references_in kept) reference) same in
        omega (arith, none, count)
  ]

  known_taken : (at : ℕ) (kept : Kept) → new at ≡ Some kept → what_in (old at) ≡ Some kept.what
  known_taken at kept is = elim (eqb_tells owing.address at) [
    | inl (equal, same) ↦
        let here : new owing.address ≡ Some kept = ap new same ∙ is in
        subst (λ (q : ℕ). what_in (old q) ≡ Some kept.what) same
        (sym (drops.known (some_left kept here)) ∙ ap what_in here)
    | inr (unequal, differ) ↦ ap what_in (sym (drops.elsewhere at (λ same. differ (sym same))) ∙ is)
  ]

  full_taken : (at : ℕ) (kept : Kept) → new at ≡ Some kept → full_in (old at) ≡ kept.full
  full_taken at kept is = elim (eqb_tells owing.address at) [
    | inl (equal, same) ↦
        let here : new owing.address ≡ Some kept = ap new same ∙ is in
        subst (λ (q : ℕ). full_in (old q) ≡ kept.full) same (sym (drops.full (some_left kept here)) ∙ ap full_in here)
    | inr (unequal, differ) ↦ ap full_in (sym (drops.elsewhere at (λ same. differ (sym same))) ∙ is)
  ]

  -- one reference less
  pub Takes-one : Takes old new (owing ∷ [])
  Takes-one = record { counts = counts_taken; known = known_taken; full = full_taken }

-- ---- some, and more

-- none was taken yet
pub Takes-none : (book : Book) → Takes book book []
Takes-none book = record {
  counts = λ at reference. let none = times-nil at reference in omega (arith, none);
  known = λ at kept is. ap what_in is;
  full = λ at kept is. ap full_in is;
}

-- what is known of something that is kept is known of what was kept before
was_kept : (old : Book) (at : ℕ) (what : What) (full : Bool) → what_in (old at) ≡ Some what → full_in (old at) ≡ full
    → (kept : Kept) × (old at ≡ Some kept) × (kept.what ≡ what) × (kept.full ≡ full)
was_kept old at what full known marked = from (old at) known marked where
  from : (was : Option Kept) → what_in was ≡ Some what → full_in was ≡ full
      → (kept : Kept) × (was ≡ Some kept) × (kept.what ≡ what) × (kept.full ≡ full)
  from None known marked = cc
  from (Some kept) known marked = (kept, refl, cc, marked)

pub Takes-append : (old mid new : Book) (xs ys : List Owing) → Takes old mid xs → Takes mid new ys
    → Takes old new (xs ++ ys)
Takes-append old mid new xs ys first second = record {
  counts = λ at reference.
      let before = first.counts at reference in
      let after = second.counts at reference in
      let both = times-append xs ys at reference in
      omega (arith, before, after, both);
  known = λ at kept is.
      let was = was_kept mid at kept.what kept.full (second.known at kept is) (second.full at kept is) in
      first.known at was.0 was.1 ∙ ap (λ (what : What). Some what) was.2;
  full = λ at kept is.
      let was = was_kept mid at kept.what kept.full (second.known at kept is) (second.full at kept is) in
      first.full at was.0 was.1 ∙ was.3;
}

-- what can be taken in all can be taken one by one
pub CanTake-next : (old mid : Book) (xs ys : List Owing) (owing : Owing) → CanTake old (xs ++ (owing ∷ []) ++ ys)
    → Takes old mid xs → CanTake mid (owing ∷ [])
CanTake-next old mid xs ys owing can takes = record {
  there = λ at reference.
      let there = can.there at reference in
      let taken = takes.counts at reference in
      let all = times-append (xs ++ (owing ∷ [])) ys at reference in
      let front = times-append xs (owing ∷ []) at reference in
      omega (arith, there, taken, all, front);
}

-- ---- the one at an index of a list

module _ (old mid new : Book) (owings : List Listed) (i : ℕ) (owing : Listed) (inside : i < length owings)
    (is : owing ≡ get_or owings i owing) where
  pub Takes-more : Takes old mid (owings_told (take i owings)) → Takes mid new (owing_told owing ∷ [])
      → Takes old new (owings_told (take (i + 1) owings))
  Takes-more front one =
      subst (λ (list : List Owing). Takes old new list) (sym (told-more owings i owing inside is))
      (Takes-append old mid new (owings_told (take i owings)) (owing_told owing ∷ []) front one)

  pub CanTake-one : CanTake old (owings_told owings) → Takes old mid (owings_told (take i owings))
      → CanTake mid (owing_told owing ∷ [])
  CanTake-one can front =
      CanTake-next old mid (owings_told (take i owings)) (owings_told (drop (i + 1) owings)) (owing_told owing)
      (subst (λ (list : List Owing). CanTake old list) (told-parts owings i owing inside is) can) front
