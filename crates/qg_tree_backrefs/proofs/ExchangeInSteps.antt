-- A book after a node was marked, references were given, one came first, and others were taken.
use Rattle.std.proofs.Common.{◌≡◌, ◌≢◌, ℕ, ◌+◌, ◌<◌, ◌≤◌, Bool, true, false, List, [], ◌∷◌, ◌++◌, length, get_or}
use Rattle.std.proofs.Common.{Option, Some, None, refl, sym, ap, subst, ◌∙◌, arith, inl, inr}
use Rattle.std.specs.Prelude.{◌||◌, ◌==◌, ⊤, unwrap_or, if◌then◌else◌}
use Rattle.std.specs.Option.{option_map, option_or}
use Rattle.std.proofs.lemmas.Bool.{eq-eqb}
use Rattle.std.proofs.lemmas.Bool.Decides.{eqb_tells}
use Rattle.qg_items.specs.declared.extent.Reference.{Reference}
use Rattle.qg_items.specs.declared.extent.Reference.TheVariants.{KeyedBlock}
use Rattle.qg_image.specs.Owed.{Owing}
use Rattle.qg_refs.specs.declared.counted.Counted.{Counted}
use Rattle.qg_refs.specs.declared.kept.What.{What}
use Rattle.qg_refs.specs.declared.kept.Kept.{Kept}
use Rattle.qg_refs.specs.Book.{Adds, Book, IsBook, Marks, count_at, full_in, references_at, references_in, what_in}
use Rattle.qg_refs.specs.Counts.{IsRefList, count_of}
use Rattle.qg_refs.proofs.Counting.{count-cons, count-nil, counted-own}
use Rattle.qg_cow_refs.specs.Children.{way_to}
use Rattle.qg_tree_backrefs.specs.declared.coming.Coming.{Coming}
use Rattle.qg_tree_backrefs.specs.Exchange.{Begins, CanExchange, CanGive, CanTake, Exchange, Exchanges, Gives, IsKnown}
use Rattle.qg_tree_backrefs.specs.Exchange.{IsMarked, IsNew, Takes, times, turns_full, ways_to, what_comes}
use Rattle.qg_tree_backrefs.proofs.Gains.{count-none, nothing_known}
use Rattle.qg_tree_backrefs.proofs.Times.{times-append, times-nil, times_here, times_there}

-- ---- what is kept has a reference

first_counts : (xs : List Counted) → IsRefList xs → 0 < length xs
    → (reference : Reference) × (0 < count_of xs reference)
first_counts [] sound some = absurd (omega (arith, some))
first_counts (entry ∷ xs) sound some =
    let own = counted-own entry.reference entry refl in
    let here : 0 < entry.count = sound.some 0 entry (omega arith) in
    let count = count-cons entry xs entry.reference in
    (entry.reference, omega (arith, own, here, count))

-- what has no reference is not kept
pub nothing-kept : (book : Book) (at : ℕ) → IsBook book → ((reference : Reference) → count_at book at reference ≡ 0)
    → book at ≡ None
nothing-kept book at is none = from (book at) refl where
  from : (kept : Option Kept) → book at ≡ kept → book at ≡ None
  from None here = here
  from (Some kept) here =
      let sound : IsRefList kept.references =
      subst (λ (k : Option Kept). IsRefList (references_in k)) here (is.sound at) in
      let first = first_counts kept.references sound (is.some at kept here) in
      let no : count_of kept.references first.0 ≡ 0 =
      sym (ap (λ (k : Option Kept). count_of (references_in k) first.0) here) ∙ none first.0 in
      let some = first.1 in
      absurd (omega (arith, no, some))

-- ---- a node that becomes full

pub IsMarked-none : (book : Book) → IsMarked book book None
IsMarked-none book = record {
  counts = λ at reference. refl;
  known = λ at. refl;
  mark = λ at. sym (either (full_in (book at)));
}
  where
    either : (b : Bool) → (b || false) ≡ b
    either true = refl
    either false = refl

marked_known : (kept : Option Kept) → what_in (option_map (λ (k : Kept). record k { full = true }) kept) ≡ what_in kept
marked_known None = refl
marked_known (Some kept) = refl

marked_references : (kept : Option Kept)
    → references_in (option_map (λ (k : Kept). record k { full = true }) kept) ≡ references_in kept
marked_references None = refl
marked_references (Some kept) = refl

marked_full : (kept : Option Kept) → 0 < length (references_in kept)
    → full_in (option_map (λ (k : Kept). record k { full = true }) kept) ≡ true
marked_full None some = absurd (omega (arith, some))
marked_full (Some kept) some = refl

pub IsMarked-some : (old new : Book) (full : ℕ) → 0 < length (references_at old full) → Marks old new full
    → IsMarked old new (Some full)
IsMarked-some old new full some marks = record {
  counts = λ at reference. elim (eqb_tells at full) [
    | inl (equal, same) ↦
        ap (λ (kept : Option Kept). count_of (references_in kept) reference) (ap new same ∙ marks.there)
        ∙ ap (λ (references : List Counted). count_of references reference) (marked_references (old full))
        ∙ ap (λ (q : ℕ). count_at old q reference) (sym same)
    | inr (unequal, differ) ↦ ap (λ (kept : Option Kept). count_of (references_in kept) reference)
        (marks.elsewhere at differ)
  ];
  known = λ at. elim (eqb_tells at full) [
    | inl (equal, same) ↦ ap what_in (ap new same ∙ marks.there) ∙ marked_known (old full)
        ∙ ap (λ (q : ℕ). what_in (old q)) (sym same)
    | inr (unequal, differ) ↦ ap what_in (marks.elsewhere at differ)
  ];
  mark = λ at. elim (eqb_tells at full) [
    | inl (equal, same) ↦ ap full_in (ap new same ∙ marks.there) ∙ marked_full (old full) some
        ∙ sym (ap (λ (b : Bool). full_in (old at) || b) equal ∙ both (full_in (old at)))
    | inr (unequal, differ) ↦ ap full_in (marks.elsewhere at differ)
        ∙ sym (ap (λ (b : Bool). full_in (old at) || b) unequal ∙ either (full_in (old at)))
  ];
}
  where
    both : (b : Bool) → (b || true) ≡ true
    both true = refl
    both false = refl

    either : (b : Bool) → (b || false) ≡ b
    either true = refl
    either false = refl

-- ---- a node that comes

pub Begins-none : (book : Book) → Begins book book None
Begins-none book = record {
  first = tt;
  counts = λ at reference. let none = times-nil at reference in omega (arith, none);
  known = λ at. or_none (what_in (book at));
  full = λ at. refl;
}
  where
    or_none : (known : Option What) → known ≡ option_or known None
    or_none None = refl
    or_none (Some what) = refl

module _ (old new : Book) (coming : Coming) (none : old coming.address ≡ None)
    (adds : Adds old new coming.address coming.what (KeyedBlock coming.tree)) where
  counts_come : (at : ℕ) (reference : Reference)
      → count_at new at reference ≡ count_at old at reference + times (ways_to (Some coming)) at reference
  counts_come at reference = elim (eqb_tells coming.address at) [
    | inl (equal, same) ↦
        let more = adds.count reference in
        let here = times_here (way_to coming.address coming.tree) at reference same in
        subst (λ (q : ℕ). count_at new q reference
        ≡ count_at old q reference + times (ways_to (Some coming)) at reference) same
        (more ∙ ap (λ (n : ℕ). count_at old coming.address reference + n) (sym here))
    | inr (unequal, differ) ↦
        let same = adds.elsewhere at (λ is. differ (sym is)) in
        let zero = times_there (way_to coming.address coming.tree) at reference differ in
        let count : count_at new at reference ≡ count_at old at reference =
        ap (λ (kept : Option Kept). count_of (references_in kept) reference) same in
        omega (arith, zero, count)
  ]

  known_come : (at : ℕ) → what_in (new at) ≡ option_or (what_in (old at)) (what_comes (Some coming) at)
  known_come at = elim (eqb_tells at coming.address) [
    | inl (equal, same) ↦
        ap (λ (q : ℕ). what_in (new q)) same ∙ adds.known
        ∙ ap (λ (kept : Option Kept). Some (unwrap_or (what_in kept) coming.what)) none
        ∙ sym (ap (λ (kept : Option Kept). option_or (what_in kept) (what_comes (Some coming) at)) (ap old same ∙ none)
        ∙ ap (λ (b : Bool). if b then Some coming.what else None) equal)
    | inr (unequal, differ) ↦
        ap what_in (adds.elsewhere at differ) ∙ or_none (what_in (old at))
        ∙ sym (ap (λ (b : Bool). option_or (what_in (old at)) (if b then Some coming.what else None)) unequal)
  ]
    where
      or_none : (known : Option What) → known ≡ option_or known None
      or_none None = refl
      or_none (Some what) = refl

  full_come : (at : ℕ) → full_in (new at) ≡ full_in (old at)
  full_come at = elim (eqb_tells at coming.address) [
    | inl (equal, same) ↦ subst (λ (q : ℕ). full_in (new q) ≡ full_in (old q)) (sym same) adds.full
    | inr (unequal, differ) ↦ ap full_in (adds.elsewhere at differ)
  ]

  pub Begins-some : Begins old new (Some coming)
  Begins-some = record {
    first = λ reference. count-none old coming.address reference none;
    counts = counts_come;
    known = known_come;
    full = full_come;
  }

-- ---- all of it

-- as nothing is there of what comes after others were given, nothing was there before
new_before : (old mid : Book) (coming : Option Coming)
    → ((at : ℕ) (reference : Reference) → count_at old at reference ≤ count_at mid at reference) → IsNew mid coming
    → IsNew old coming
new_before old mid None less first = tt
new_before old mid (Some coming) less first = λ reference.
    let none = first reference in
    let few = less coming.address reference in
    omega (arith, none, few)

module _ (old marked given begun new : Book) (exchange : Exchange) (coming : Option Coming) (is : IsBook new)
    (marks : IsMarked old marked exchange.full) (gives : Gives marked given exchange.gains)
    (begins : Begins given begun coming) (takes : Takes begun new exchange.losses) where
  counts_whole : (at : ℕ) (reference : Reference)
      → count_at new at reference + times exchange.losses at reference
      ≡ count_at old at reference + times (ways_to coming ++ exchange.gains) at reference
  counts_whole at reference =
      let first = marks.counts at reference in
      let second = gives.counts at reference in
      let third = begins.counts at reference in
      let last = takes.counts at reference in
      let both = times-append (ways_to coming) exchange.gains at reference in
      omega (arith, first, second, third, last, both)

  more_given : (at : ℕ) (reference : Reference) → count_at old at reference ≤ count_at given at reference
  more_given at reference =
      let first = marks.counts at reference in
      let second = gives.counts at reference in
      omega (arith, first, second)

  -- what is gained and lost in all
  pub Exchanges-whole : Exchanges old new exchange coming
  Exchanges-whole = record {
    book = is;
    counts = counts_whole;
    first = new_before old given coming more_given begins.first;
    known = λ at kept here.
        ap (λ (known : Option What). option_or known (what_comes coming at))
        (sym (marks.known at) ∙ sym (gives.known at))
        ∙ sym (begins.known at) ∙ takes.known at kept here;
    full = λ at kept here. sym (takes.full at kept here) ∙ begins.full at ∙ gives.full at ∙ marks.mark at;
    gone = λ at none. nothing-kept new at is none;
  }

-- ---- each step can be done where the whole can

-- where a node was marked
pub CanGive-marked : (old marked : Book) (full : Option ℕ) (gains : List Owing) → IsMarked old marked full
    → CanGive old gains → CanGive marked gains
CanGive-marked old marked full gains marks can = record {
  room = λ at reference.
      let same = marks.counts at reference in
      let room = can.room at reference in
      omega (arith, same, room);
  known = λ i d inside.
      let known = can.known i d inside in
      let same = marks.counts (get_or gains i d).address known.0 in
      let some = known.1 in
      (known.0, omega (arith, same, some));
}

-- where references were given to what is known, nothing is known of the node that comes
pub IsNew-given : (old marked given : Book) (full : Option ℕ) (gains : List Owing) (coming : Option Coming) → IsBook old
    → IsMarked old marked full → Gives marked given gains → IsNew old coming
    → IsNew given coming
IsNew-given old marked given full gains None is marks gives first = tt
IsNew-given old marked given full gains (Some coming) is marks gives first = λ reference.
    let none : old coming.address ≡ None = nothing-kept old coming.address is first in
    let unknown : what_in (given coming.address) ≡ None =
    gives.known coming.address ∙ marks.known coming.address ∙ ap what_in none in
    count-none given coming.address reference (nothing_known (given coming.address) unknown)

-- nothing is lost before
pub CanTake-given : (old marked given begun : Book) (full : Option ℕ) (gains losses : List Owing)
    (coming : Option Coming) → IsMarked old marked full → Gives marked given gains → Begins given begun coming
    → CanTake old losses → CanTake begun losses
CanTake-given old marked given begun full gains losses coming marks gives begins can = record {
  there = λ at reference.
      let first = marks.counts at reference in
      let second = gives.counts at reference in
      let third = begins.counts at reference in
      let there = can.there at reference in
      omega (arith, first, second, third, there);
}

-- ---- the first misfit

pub first_none : (a b c d e : Option ℕ) → d ≡ option_or a b → e ≡ option_or d c → e ≡ None
    → (a ≡ None) × (b ≡ None) × (c ≡ None)
first_none a b c d e first last none =
    from a b c (ap (λ (o : Option ℕ). option_or o c) (sym first) ∙ sym last ∙ none) where
      from : (a b c : Option ℕ) → option_or (option_or a b) c ≡ None → (a ≡ None) × (b ≡ None) × (c ≡ None)
      from (Some x) b c none = cc
      from None (Some x) c none = cc
      from None None c none = (refl, refl, none)

pub none_first : (a b c d e : Option ℕ) → d ≡ option_or a b → e ≡ option_or d c → a ≡ None → b ≡ None → c ≡ None
    → e ≡ None
none_first a b c d e inner outer first second third =
    outer ∙ ap (λ (o : Option ℕ). option_or o c) (inner ∙ ap (λ (o : Option ℕ). option_or o b) first ∙ second) ∙ third
