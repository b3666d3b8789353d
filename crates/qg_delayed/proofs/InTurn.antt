-- What edits make of a book in turn: what is at one address, after so many of one edit.
use Rattle.std.proofs.Common.{◌≡◌, ◌≢◌, ℕ, zero, suc, ◌+◌, ◌<◌, ◌≤◌, Bool, true, false, List, [], ◌∷◌, ◌++◌}
use Rattle.std.proofs.Common.{length}
use Rattle.std.proofs.Common.{replicate, Option, Some, None, refl, sym, ap, subst, ◌∙◌, arith, ◌⊎◌, inl, inr}
use Rattle.std.specs.Prelude.{if◌then◌else◌, unwrap_or}
use Rattle.std.specs.List.{All, flat_map}
use Rattle.std.specs.Option.{option_map}
use Rattle.std.proofs.lemmas.Bool.{cases_Bool, cond-true, cond-false}
use Rattle.qg_items.specs.declared.extent.Reference.{Reference}
use Rattle.qg_image.specs.Record.{same_reference}
use Rattle.qg_refs.specs.declared.counted.Counted.{Counted}
use Rattle.qg_refs.specs.declared.kept.What.{What}
use Rattle.qg_refs.specs.declared.kept.Kept.{Kept}
use Rattle.qg_refs.specs.Book.{Book, IsBook, Adds, Drops, count_at, full_in, references_at, references_in}
use Rattle.qg_refs.specs.Book.{what_in}
use Rattle.qg_refs.specs.Counts.{IsRefList, count_of, greatest_count}
use Rattle.qg_refs.proofs.Counting.{count-cons, count-nil, counted-own}
use Rattle.qg_refs.proofs.RankOrder.{same_itself, same_reference_is}
use Rattle.qg_delayed.specs.declared.change.Change.{Change}
use Rattle.qg_delayed.specs.declared.edit.Edit.{Edit}
use Rattle.qg_delayed.specs.declared.edit.Edit.TheVariants.{Add, Drop, SetFull}
use Rattle.qg_delayed.specs.Changes.{ChangesAscend, change_of}
use Rattle.qg_delayed.specs.Making.{Makes, MakesAll, May, MayAll}
use Rattle.qg_delayed.proofs.Listing.{first_before, later, none_after, number_in}

-- ---- edits in turn

-- from each book that is so, the edits may be made, and what they make is so
abbrev pub Leads : (Book → Type 0) → List Edit → (Book → Type 0) → Type 0
Leads P edits Q = (b : Book) → P b → MayAll edits b × ((a : Book) → MakesAll edits b a → Q a)

pub leads_none : (P Q : Book → Type 0) → ((b : Book) → P b → Q b) → Leads P [] Q
leads_none P Q via b at = (tt, λ a is. subst Q (sym is) (via b at))

may_then : (xs ys : List Edit) (b : Book) → MayAll xs b → ((a : Book) → MakesAll xs b a → MayAll ys a)
    → MayAll (xs ++ ys) b
may_then [] ys b may rest = rest b refl
may_then (e ∷ xs) ys b may rest = (
  may.0,
  λ next book made. may_then xs ys next (may.1 next book made) (λ a all. rest a (next, book, made, all)),
)

makes_then : (xs ys : List Edit) (b a : Book) (P : Type 0) → MakesAll (xs ++ ys) b a
    → ((mid : Book) → MakesAll xs b mid → MakesAll ys mid a → P) → P
makes_then [] ys b a P all via = via b refl all
makes_then (e ∷ xs) ys b a P all via =
    makes_then xs ys all.0 a P all.3 (λ mid first second. via mid (all.0, all.1, all.2, first) second)

pub leads_then : (P Q R : Book → Type 0) (xs ys : List Edit) → Leads P xs Q → Leads Q ys R → Leads P (xs ++ ys) R
leads_then P Q R xs ys first second b at = (
  may_then xs ys b (first b at).0 (λ a all. (second a ((first b at).1 a all)).0),
  λ a all. makes_then xs ys b a (R a) all (λ mid one two. (second mid ((first b at).1 mid one)).1 a two),
)

-- one edit
pub leads_one : (P Q R : Book → Type 0) (e : Edit) (es : List Edit) → ((b : Book) → P b → May e b)
    → ((b a : Book) → P b → IsBook a → Makes e b a → Q a) → Leads Q es R → Leads P (e ∷ es) R
leads_one P Q R e es may make rest b at = (
  (may b at, λ next book made. (rest next (make b next at book made)).0),
  λ a all. (rest all.0 (make b all.0 at all.1 all.2)).1 a all.3,
)

-- ---- what is at one address

-- an address has its references so often each, with this known and this mark where some is there. Elsewhere it is as in
-- the book below
pub record IsAt (below : Book) (at : ℕ) (f : Reference → ℕ) (w : What) (m : Bool) (b : Book) : Type 0 where
  pub book : IsBook b
  pub counts : (x : Reference) → count_at b at x ≡ f x
  pub known : (x : Reference) → 0 < f x → what_in (b at) ≡ Some w
  pub full : (x : Reference) → 0 < f x → full_in (b at) ≡ m
  pub elsewhere : (q : ℕ) → q ≢ at → b q ≡ below q

-- counts that are the same
pub like_counts : (below : Book) (at : ℕ) (f g : Reference → ℕ) (w : What) (m : Bool) → ((x : Reference) → f x ≡ g x)
    → (b : Book) → IsAt below at f w m b → IsAt below at g w m b
like_counts below at f g w m same b is = record {
  book = is.book;
  counts = λ x. is.counts x ∙ same x;
  known = λ x some. is.known x (omega (arith, some, same x));
  full = λ x some. is.full x (omega (arith, some, same x));
  elsewhere = is.elsewhere;
}

-- a reference so often, and others not at all
abbrev pub often : Reference → ℕ → Reference → ℕ
often r n x = if same_reference x r then n else 0

pub often_own : (r : Reference) (n : ℕ) → often r n r ≡ n
often_own r n = cond-true _ _ _ (same_itself r)

often_none : (r : Reference) (x : Reference) → often r 0 x ≡ 0
often_none r x = elim (cases_Bool (same_reference x r)) [
  | inl same ↦ cond-true _ _ _ same
  | inr differs ↦ cond-false _ _ _ differs
]

often_more : (r : Reference) (n : ℕ) (x : Reference) → often r 1 x + often r n x ≡ often r (suc n) x
often_more r n x = elim (cases_Bool (same_reference x r)) [
  | inl same ↦
      let one : often r 1 x ≡ 1 = cond-true _ _ _ same in
      let some : often r n x ≡ n = cond-true _ _ _ same in
      let all : often r (suc n) x ≡ suc n = cond-true _ _ _ same in
      omega (arith, one, some, all)
  | inr differs ↦
      let one : often r 1 x ≡ 0 = cond-false _ _ _ differs in
      let some : often r n x ≡ 0 = cond-false _ _ _ differs in
      let all : often r (suc n) x ≡ 0 = cond-false _ _ _ differs in
      omega (arith, one, some, all)
]

counted_some : (xs : List Counted) (x : Reference) → 0 < count_of xs x → xs ≢ []
counted_some xs x some none = omega (arith, some, ap (λ (ws : List Counted). count_of ws x) none, count-nil x)

counted_length : (xs : List Counted) (x : Reference) → 0 < count_of xs x → 0 < length xs
counted_length [] x some = omega (arith, some, count-nil x)
counted_length (y ∷ ys) x some = omega arith

-- a list without one is none, and one with an entry has its reference
pub first_counted : (y : Counted) (ys : List Counted) → IsRefList (y ∷ ys) → 0 < count_of (y ∷ ys) y.reference
first_counted y ys list =
    omega (arith, count-cons y ys y.reference, counted-own y.reference y refl, list.some 0 y (omega arith))

-- where no reference is, nothing is
pub nothing_at : (b : Book) (at : ℕ) → IsBook b → references_at b at ≡ [] → b at ≡ None
nothing_at b at book none = go (b at) refl
  where
    go : (o : Option Kept) → b at ≡ o → b at ≡ None
    go None is = is
    go (Some kept) is = absurd (omega (
      arith,
      book.some at kept is,
      ap (λ (xs : List Counted). length xs) (sym (ap references_in is) ∙ none),
    ))

-- ---- one reference less

drop_step : (below : Book) (at : ℕ) (f g : Reference → ℕ) (w : What) (m : Bool) (r : Reference) (b a : Book)
    → ((x : Reference) → often r 1 x + g x ≡ f x) → IsAt below at f w m b → IsBook a → Drops b a at r
    → IsAt below at g w m a
drop_step below at f g w m r b a less is book drops =
    let counts : (x : Reference) → count_at a at x ≡ g x = λ x. omega (arith, drops.count x, is.counts x, less x) in
    let left : (x : Reference) → 0 < g x → references_at a at ≢ [] =
    λ x some. counted_some (references_at a at) x (omega (arith, some, counts x)) in
    record {
      book = book;
      counts = counts;
      known = λ x some. drops.known (left x some) ∙ is.known x (omega (arith, some, less x));
      full = λ x some. drops.full (left x some) ∙ is.full x (omega (arith, some, less x));
      elsewhere = λ q apart. drops.elsewhere q apart ∙ is.elsewhere q apart;
    }

pub drop_times : (below : Book) (at : ℕ) (w : What) (m : Bool) (r : Reference) (n : ℕ) (f g : Reference → ℕ)
    → ((x : Reference) → often r n x + g x ≡ f x)
    → Leads (IsAt below at f w m) (replicate n (Drop at r)) (IsAt below at g w m)
drop_times below at w m r zero f g less = leads_none (IsAt below at f w m) (IsAt below at g w m)
    (like_counts below at f g w m (λ x. omega (arith, less x, often_none r x)))
drop_times below at w m r (suc n) f g less =
    let mid : Reference → ℕ = λ x. often r n x + g x in
    leads_one (IsAt below at f w m) (IsAt below at mid w m) (IsAt below at g w m) (Drop at r) (replicate n (Drop at r))
    (λ b is. omega (arith, is.counts r, less r, often_own r (suc n)))
    (λ b a is book drops. drop_step below at f mid w m r b a (λ x. omega (arith, less x, often_more r n x)) is book
    drops)
    (drop_times below at w m r n mid g (λ x. refl))

-- ---- one reference more

-- some reference is there
abbrev pub HasOne : (Reference → ℕ) → Type 0
HasOne f = (x : Reference) × (0 < f x)

known_then : (below : Book) (at : ℕ) (f : Reference → ℕ) (w : What) (m : Bool) (b : Book) → IsAt below at f w m b
    → (xs : List Counted) → references_at b at ≡ xs → unwrap_or (what_in (b at)) w ≡ w
known_then below at f w m b is [] none =
    ap (λ (o : Option Kept). unwrap_or (what_in o) w) (nothing_at b at is.book none)
known_then below at f w m b is (y ∷ ys) some =
    let first = first_counted y ys (subst IsRefList some (is.book.sound at)) in
    ap (λ (o : Option What). unwrap_or o w)
    (is.known y.reference (omega (
      arith,
      first,
      is.counts y.reference,
      ap (λ (xs : List Counted). count_of xs y.reference) some,
    )))

full_then : (below : Book) (at : ℕ) (f : Reference → ℕ) (w : What) (m : Bool) (b : Book) → IsAt below at f w m b
    → (m ≡ false) ⊎ HasOne f → (xs : List Counted) → references_at b at ≡ xs → full_in (b at) ≡ m
full_then below at f w m b is (inl unmarked) [] none = ap full_in (nothing_at b at is.book none) ∙ sym unmarked
full_then below at f w m b is (inr one) xs all = is.full one.0 one.1
full_then below at f w m b is (inl unmarked) (y ∷ ys) some =
    let first = first_counted y ys (subst IsRefList some (is.book.sound at)) in
    is.full y.reference (omega (
      arith,
      first,
      is.counts y.reference,
      ap (λ (xs : List Counted). count_of xs y.reference) some,
    ))

add_step : (below : Book) (at : ℕ) (f g : Reference → ℕ) (w : What) (m : Bool) (r : Reference) (b a : Book)
    → ((x : Reference) → often r 1 x + f x ≡ g x) → (m ≡ false) ⊎ HasOne f → IsAt below at f w m b → IsBook a
    → Adds b a at w r → IsAt below at g w m a
add_step below at f g w m r b a more one is book adds = record {
  book = book;
  counts = λ x. omega (arith, adds.count x, is.counts x, more x);
  known = λ x some. adds.known
      ∙ ap (λ (v : What). Some v) (known_then below at f w m b is (references_at b at) refl);
  full = λ x some. adds.full ∙ full_then below at f w m b is one (references_at b at) refl;
  elsewhere = λ q apart. adds.elsewhere q apart ∙ is.elsewhere q apart;
}

still_one : (m : Bool) (f g : Reference → ℕ) → ((x : Reference) → f x ≤ g x) → (m ≡ false) ⊎ HasOne f
    → (m ≡ false) ⊎ HasOne g
still_one m f g more (inl unmarked) = inl unmarked
still_one m f g more (inr one) = inr (one.0, omega (arith, more one.0, one.1))

pub add_times : (below : Book) (at : ℕ) (w : What) (m : Bool) (r : Reference) (n : ℕ) (f g : Reference → ℕ)
    → ((x : Reference) → often r n x + f x ≡ g x) → (0 < n → g r ≤ greatest_count r) → (m ≡ false) ⊎ HasOne f
    → Leads (IsAt below at f w m) (replicate n (Add at w r)) (IsAt below at g w m)
add_times below at w m r zero f g more room one = leads_none (IsAt below at f w m) (IsAt below at g w m)
    (like_counts below at f g w m (λ x. omega (arith, more x, often_none r x)))
add_times below at w m r (suc n) f g more room one =
    let mid : Reference → ℕ = λ x. often r 1 x + f x in
    leads_one (IsAt below at f w m) (IsAt below at mid w m) (IsAt below at g w m) (Add at w r)
    (replicate n (Add at w r))
    (λ b is. omega (arith, is.counts r, more r, often_own r (suc n), room (omega arith)))
    (λ b a is book adds. add_step below at f mid w m r b a (λ x. refl) one is book adds)
    (add_times below at w m r n mid g (λ x. omega (arith, more x, often_more r n x)) (λ some. room (omega arith))
    (still_one m f mid (λ x. omega arith) one))

-- ---- those of all changes

-- a number of each change, of the reference
abbrev pub sum_where : (Change → ℕ) → List Change → Reference → ℕ
sum_where number [] x = 0
sum_where number (c ∷ cs) x = often c.reference (number c) x + sum_where number cs x

pub sum_found : (number : Change → ℕ) (cs : List Change) (x : Reference) → ChangesAscend cs
    → sum_where number cs x ≡ number_in number (change_of x cs)
sum_found number [] x up = refl
sum_found number (c ∷ cs) x up = elim (cases_Bool (same_reference x c.reference)) [
  | inl same ↦
      let is : c.reference ≡ x = sym (same_reference_is x c.reference same) in
      let own : often c.reference (number c) x ≡ number c = cond-true _ _ _ same in
      let rest : number_in number (change_of x cs) ≡ 0 = ap (number_in number)
      (ap (λ (r : Reference). change_of r cs) (sym is) ∙ none_after c.reference cs (first_before c cs up)) in
      let found : number_in number (change_of x (c ∷ cs)) ≡ number c =
      ap (number_in number) (cond-true (same_reference x c.reference) (Some c) (change_of x cs) same) in
      omega (arith, own, rest, found, sum_found number cs x (later c cs up))
  | inr differs ↦
      let own : often c.reference (number c) x ≡ 0 = cond-false _ _ _ differs in
      let found : number_in number (change_of x (c ∷ cs)) ≡ number_in number (change_of x cs) =
      ap (number_in number) (cond-false (same_reference x c.reference) (Some c) (change_of x cs) differs) in
      omega (arith, own, found, sum_found number cs x (later c cs up))
]

-- so many of each
abbrev pub drops_of : ℕ → (Change → ℕ) → List Change → List Edit
drops_of at number cs = flat_map (λ (c : Change). replicate (number c) (Drop at c.reference)) cs

abbrev pub adds_of : ℕ → What → (Change → ℕ) → List Change → List Edit
adds_of at w number cs = flat_map (λ (c : Change). replicate (number c) (Add at w c.reference)) cs

pub drop_all : (below : Book) (at : ℕ) (w : What) (m : Bool) (number : Change → ℕ) (cs : List Change)
    (f g : Reference → ℕ) → ((x : Reference) → sum_where number cs x + g x ≡ f x)
    → Leads (IsAt below at f w m) (drops_of at number cs) (IsAt below at g w m)
drop_all below at w m number [] f g less = leads_none (IsAt below at f w m) (IsAt below at g w m)
    (like_counts below at f g w m (λ x. omega (arith, less x)))
drop_all below at w m number (c ∷ cs) f g less =
    let mid : Reference → ℕ = λ x. sum_where number cs x + g x in
    leads_then (IsAt below at f w m) (IsAt below at mid w m) (IsAt below at g w m)
    (replicate (number c) (Drop at c.reference)) (drops_of at number cs)
    (drop_times below at w m c.reference (number c) f mid (λ x. omega (arith, less x)))
    (drop_all below at w m number cs mid g (λ x. refl))

pub add_all : (below : Book) (at : ℕ) (w : What) (m : Bool) (number : Change → ℕ) (cs : List Change)
    (f g : Reference → ℕ) → ((x : Reference) → sum_where number cs x + f x ≡ g x)
    → All (λ (c : Change). 0 < number c → g c.reference ≤ greatest_count c.reference) cs → (m ≡ false) ⊎ HasOne f
    → Leads (IsAt below at f w m) (adds_of at w number cs)
    (IsAt below at g w m)
add_all below at w m number [] f g more room one = leads_none (IsAt below at f w m) (IsAt below at g w m)
    (like_counts below at f g w m (λ x. omega (arith, more x)))
add_all below at w m number (c ∷ cs) f g more room one =
    let mid : Reference → ℕ = λ x. often c.reference (number c) x + f x in
    leads_then (IsAt below at f w m) (IsAt below at mid w m) (IsAt below at g w m)
    (replicate (number c) (Add at w c.reference)) (adds_of at w number cs)
    (add_times below at w m c.reference (number c) f mid (λ x. refl)
    (λ some. omega (arith, room 0 c (omega arith) some, more c.reference)) one)
    (add_all below at w m number cs mid g (λ x. omega (arith, more x)) (λ k d h. room (suc k) d (omega (arith, h)))
    (still_one m f mid (λ x. omega arith) one))

-- ---- the mark

marked_references : (o : Option Kept)
    → references_in (option_map (λ (kept : Kept). record kept { full = true }) o) ≡ references_in o
marked_references None = refl
marked_references (Some kept) = refl

marked_known : (o : Option Kept)
    → what_in (option_map (λ (kept : Kept). record kept { full = true }) o) ≡ what_in o
marked_known None = refl
marked_known (Some kept) = refl

marked_full : (o : Option Kept) (w : What) → what_in o ≡ Some w
    → full_in (option_map (λ (kept : Kept). record kept { full = true }) o) ≡ true
marked_full None w is = absurd (none_some w is)
  where
    none_some : (w : What) → None ≡ Some w → ⊥
    none_some w is = cc
marked_full (Some kept) w is = refl

pub mark_one : (below : Book) (at : ℕ) (w : What) (m : Bool) (f : Reference → ℕ) → HasOne f
    → Leads (IsAt below at f w m) (SetFull at ∷ []) (IsAt below at f w true)
mark_one below at w m f one = leads_one (IsAt below at f w m) (IsAt below at f w true) (IsAt below at f w true)
    (SetFull at) []
    (λ b is. counted_length (references_at b at) one.0 (omega (arith, is.counts one.0, one.1)))
    (λ b a is book marks. record {
      book = book;
      counts = λ x. ap (λ (o : Option Kept). count_of (references_in o) x) marks.there
          ∙ ap (λ (xs : List Counted). count_of xs x) (marked_references (b at)) ∙ is.counts x;
      known = λ x some. ap what_in marks.there ∙ marked_known (b at) ∙ is.known x some;
      full = λ x some. ap full_in marks.there ∙ marked_full (b at) w (is.known x some);
      elsewhere = λ q apart. marks.elsewhere q apart ∙ is.elsewhere q apart;
    })
    (leads_none (IsAt below at f w true) (IsAt below at f w true) (λ b is. is))
