-- References that are given, one by one.
use Rattle.std.proofs.Common.{◌≡◌, ◌≢◌, ℕ, get_or, take, drop, ◌+◌, ◌<◌, ◌≤◌, Bool, true, false, List, [], ◌∷◌, ◌++◌}
use Rattle.std.proofs.Common.{length, Option, Some, None, refl, sym, ap, subst, ◌∙◌, arith, inl, inr}
use Rattle.std.specs.Prelude.{unwrap_or}
use Rattle.std.specs.List.{All}
use Rattle.std.proofs.lemmas.List.Elements.{All-cons, All-nil}
use Rattle.std.specs.Option.{option_or}
use Rattle.std.proofs.lemmas.Bool.Decides.{eqb_tells}
use Rattle.qg_items.specs.declared.extent.Reference.{Reference}
use Rattle.qg_image.specs.Owed.{Owing}
use Rattle.qg_refs.specs.declared.counted.Counted.{Counted}
use Rattle.qg_refs.specs.declared.kept.What.{What}
use Rattle.qg_refs.specs.declared.kept.Kept.{Kept}
use Rattle.qg_refs.specs.Book.{Adds, Book, count_at, full_in, references_in, what_in}
use Rattle.qg_refs.specs.Counts.{count_of, greatest_count}
use Rattle.qg_refs.proofs.Counting.{count-nil}
use Rattle.qg_tree_backrefs.specs.Exchange.{CanGive, Gives, IsKnown, times}
use Rattle.qg_backref_rule.specs.declared.owing.Owing.{Owing as Listed}
use Rattle.qg_backref_rule.specs.OwedLists.{owing_told, owings_told}
use Rattle.qg_tree_backrefs.proofs.Times.{told-each, told-more, told-parts, times-append, times-nil, times-own}
use Rattle.qg_tree_backrefs.proofs.Times.{times_here}
use Rattle.qg_tree_backrefs.proofs.Times.{times_there}

-- ---- one address

-- where nothing is kept no reference is there
pub count-none : (book : Book) (at : ℕ) (reference : Reference) → book at ≡ None → count_at book at reference ≡ 0
count-none book at reference none =
    ap (λ (kept : Option Kept). count_of (references_in kept) reference) none ∙ count-nil reference

pub nothing_known : (kept : Option Kept) → what_in kept ≡ None → kept ≡ None
nothing_known None none = refl
nothing_known (Some kept) none = cc

-- where some reference is there something is known
pub known-something : (book : Book) (at : ℕ) → IsKnown book at → what_in (book at) ≡ None → ⊥
known-something book at known none =
    let nothing = count-none book at known.0 (nothing_known (book at) none) in
    let some = known.1 in
    omega (arith, nothing, some)

-- ---- one reference

module _ (book : Book) (owing : Owing) (can : CanGive book (owing ∷ [])) where
  pub one-known : IsKnown book owing.address
  one-known = can.known 0 owing (omega arith)

  pub one-room : count_at book owing.address owing.reference < greatest_count owing.reference
  one-room =
      let room = can.room owing.address owing.reference in
      let one = times-own owing in
      omega (arith, room, one)

module _ (old new : Book) (owing : Owing) (what : What) (there : what_in (old owing.address) ≡ Some what)
    (adds : Adds old new owing.address what owing.reference) where
  counts_given : (at : ℕ) (reference : Reference)
      → count_at new at reference ≡ count_at old at reference + times (owing ∷ []) at reference
  counts_given at reference = elim (eqb_tells owing.address at) [
    | inl (equal, same) ↦
        let more = adds.count reference in
        let here = times_here owing at reference same in
        subst (λ (q : ℕ). count_at new q reference ≡ count_at old q reference + times (owing ∷ []) at reference) same
        (more ∙ ap (λ (n : ℕ). count_at old owing.address reference + n) (sym here))
    | inr (unequal, differ) ↦
        let same = adds.elsewhere at (λ is. differ (sym is)) in
        let none = times_there owing at reference differ in
        let count : count_at new at reference ≡ count_at old at reference =
        ap (λ (kept : Option Kept). count_of (references_in kept) reference) same in
        omega (arith, none, count)
  ]

  known_given : (at : ℕ) → what_in (new at) ≡ what_in (old at)
  known_given at = elim (eqb_tells owing.address at) [
    | inl (equal, same) ↦
        subst (λ (q : ℕ). what_in (new q) ≡ what_in (old q)) same
        (adds.known ∙ ap (λ (known : Option What). Some (unwrap_or known what)) there ∙ sym there)
    | inr (unequal, differ) ↦ ap what_in (adds.elsewhere at (λ is. differ (sym is)))
  ]

  full_given : (at : ℕ) → full_in (new at) ≡ full_in (old at)
  full_given at = elim (eqb_tells owing.address at) [
    | inl (equal, same) ↦ subst (λ (q : ℕ). full_in (new q) ≡ full_in (old q)) same adds.full
    | inr (unequal, differ) ↦ ap full_in (adds.elsewhere at (λ is. differ (sym is)))
  ]

  -- one reference more, where something is known
  pub Gives-one : Gives old new (owing ∷ [])
  Gives-one = record { counts = counts_given; known = known_given; full = full_given }

-- ---- some, and more

-- none was given yet
pub Gives-none : (book : Book) → Gives book book []
Gives-none book = record {
  counts = λ at reference. let none = times-nil at reference in omega (arith, none);
  known = λ at. refl;
  full = λ at. refl;
}

pub Gives-append : (old mid new : Book) (xs ys : List Owing) → Gives old mid xs → Gives mid new ys
    → Gives old new (xs ++ ys)
Gives-append old mid new xs ys first second = record {
  counts = λ at reference.
      let before = first.counts at reference in
      let after = second.counts at reference in
      let both = times-append xs ys at reference in
      omega (arith, before, after, both);
  known = λ at. second.known at ∙ first.known at;
  full = λ at. second.full at ∙ first.full at;
}

-- what is known in a book is so after references were given
pub known-given : (old mid : Book) (xs : List Owing) (at : ℕ) → Gives old mid xs → IsKnown old at → IsKnown mid at
known-given old mid xs at gives known =
    let more = gives.counts at known.0 in
    let some = known.1 in
    (known.0, omega (arith, more, some))

-- what can be given in all can be given one by one
pub CanGive-next : (old mid : Book) (xs ys : List Owing) (owing : Owing) → CanGive old (xs ++ (owing ∷ []) ++ ys)
    → IsKnown old owing.address → Gives old mid xs → CanGive mid (owing ∷ [])
CanGive-next old mid xs ys owing can known gives = record {
  room = λ at reference.
      let room = can.room at reference in
      let given = gives.counts at reference in
      let all = times-append (xs ++ (owing ∷ [])) ys at reference in
      let front = times-append xs (owing ∷ []) at reference in
      omega (arith, room, given, all, front);
  known =
      All-cons (λ (o : Owing). IsKnown mid o.address) owing [] (known-given old mid xs owing.address gives known)
      (All-nil (λ (o : Owing). IsKnown mid o.address));
}

-- ---- the one at an index of a list

-- a misfit that is met is noted
pub none_or : (misfit : Option ℕ) (at : ℕ) → option_or misfit (Some at) ≡ None → ⊥
none_or None at none = cc
none_or (Some first) at none = cc

module _ (old mid new : Book) (owings : List Listed) (i : ℕ) (owing : Listed) (inside : i < length owings)
    (is : owing ≡ get_or owings i owing) where
  pub Gives-more : Gives old mid (owings_told (take i owings)) → Gives mid new (owing_told owing ∷ [])
      → Gives old new (owings_told (take (i + 1) owings))
  Gives-more front one =
      subst (λ (list : List Owing). Gives old new list) (sym (told-more owings i owing inside is))
      (Gives-append old mid new (owings_told (take i owings)) (owing_told owing ∷ []) front one)

  pub CanGive-one : CanGive old (owings_told owings) → Gives old mid (owings_told (take i owings))
      → CanGive mid (owing_told owing ∷ [])
  CanGive-one can front =
      let known = told-each owings i owing inside is (λ (o : Owing). IsKnown old o.address) can.known in
      CanGive-next old mid (owings_told (take i owings)) (owings_told (drop (i + 1) owings)) (owing_told owing)
      (subst (λ (list : List Owing). CanGive old list) (told-parts owings i owing inside is) can) known front
