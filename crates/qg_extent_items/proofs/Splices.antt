-- Two lists that differ in one stretch, and what stands in a list.
use Rattle.std.proofs.Common.{◌≡◌, ◌+◌, Bool, true, false, List, [], ◌∷◌, ◌++◌, length, Option, Some, None, cond}
use Rattle.std.proofs.Common.{refl, sym, ap, subst, ◌∙◌, arith, ◌⊎◌, inl, inr, append-nil, length-append}
use Rattle.std.specs.Prelude.{◌&&◌, ◌||◌, is_some}
use Rattle.std.specs.List.{cons_option, filter, filter_map, find, list_all, list_any}
use Rattle.std.proofs.lemmas.Bool.{and_from, and_parts, or_parts}
use Rattle.std.proofs.lemmas.List.Elements.{filter-append, filter_map-append}
use Rattle.std.proofs.lemmas.List.Folds.{list_all-append}
use Rattle.std.proofs.lemmas.Option.{none-some, same_Some}

-- ---- two lists that differ in one stretch

-- one has the old stretch where the other has the new one
pub record Splice {X : Type 0} (xs ys old new : List X) : Type 0 where
  pub front : List X
  pub back : List X
  pub was : xs ≡ front ++ (old ++ back)
  pub now : ys ≡ front ++ (new ++ back)

-- so it is of what passes a test
pub filter-splice : {X : Type 0} (p : X → Bool) (xs ys old new : List X) → Splice xs ys old new
    → Splice (filter p xs) (filter p ys) (filter p old) (filter p new)
filter-splice {X} p xs ys old new splice =
    let parted : (some : List X) → filter p (splice.front ++ (some ++ splice.back))
    ≡ filter p splice.front ++ (filter p some ++ filter p splice.back) =
    λ some. filter-append p splice.front (some ++ splice.back)
    ∙ ap (λ (l : List X). filter p splice.front ++ l) (filter-append p some splice.back) in
    record {
      front = filter p splice.front;
      back = filter p splice.back;
      was = ap (λ (l : List X). filter p l) splice.was ∙ parted old;
      now = ap (λ (l : List X). filter p l) splice.now ∙ parted new;
    }

-- and of what a function gives
pub filter_map-splice : {X Y : Type 0} (f : X → Option Y) (xs ys old new : List X) → Splice xs ys old new
    → Splice (filter_map f xs) (filter_map f ys) (filter_map f old) (filter_map f new)
filter_map-splice {X} {Y} f xs ys old new splice =
    let parted : (some : List X) → filter_map f (splice.front ++ (some ++ splice.back))
    ≡ filter_map f splice.front ++ (filter_map f some ++ filter_map f splice.back) =
    λ some. filter_map-append f splice.front (some ++ splice.back)
    ∙ ap (λ (l : List Y). filter_map f splice.front ++ l) (filter_map-append f some splice.back) in
    record {
      front = filter_map f splice.front;
      back = filter_map f splice.back;
      was = ap (λ (l : List X). filter_map f l) splice.was ∙ parted old;
      now = ap (λ (l : List X). filter_map f l) splice.now ∙ parted new;
    }

nothing : {X : Type 0} (xs : List X) → length xs ≡ 0 → xs ≡ []
nothing [] h = refl
nothing (x ∷ xs) h = absurd (omega (arith, h))

-- and where the old stretch is all of one, the new one is all of the other
pub whole-splice : {X : Type 0} (xs ys old new : List X) → Splice xs ys old new → xs ≡ old → ys ≡ new
whole-splice {X} xs ys old new splice all =
    let same : length old ≡ length (splice.front ++ (old ++ splice.back)) =
    ap (λ (l : List X). length l) (sym all ∙ splice.was) in
    let outer : length (splice.front ++ (old ++ splice.back)) ≡ length splice.front + length (old ++ splice.back) =
    length-append splice.front (old ++ splice.back) in
    let inner : length (old ++ splice.back) ≡ length old + length splice.back = length-append old splice.back in
    let front : splice.front ≡ [] = nothing splice.front (omega (arith, same, outer, inner)) in
    let back : splice.back ≡ [] = nothing splice.back (omega (arith, same, outer, inner)) in
    splice.now ∙ ap (λ (l : List X). l ++ (new ++ splice.back)) front ∙ ap (λ (l : List X). new ++ l) back
    ∙ append-nil new

-- what passes of one passes of the other
pub all-splice : {X : Type 0} (p : X → Bool) (xs ys old new : List X) → Splice xs ys old new
    → list_all p xs ≡ true → list_all p new ≡ true → list_all p ys ≡ true
all-splice {X} p xs ys old new splice all own =
    let parted : (some : List X) → list_all p (splice.front ++ (some ++ splice.back))
    ≡ (list_all p splice.front && (list_all p some && list_all p splice.back)) =
    λ some. list_all-append p splice.front (some ++ splice.back)
    ∙ ap (λ (b : Bool). list_all p splice.front && b) (list_all-append p some splice.back) in
    let parts = and_parts (list_all p splice.front) (list_all p old && list_all p splice.back)
    (sym (parted old) ∙ ap (λ (l : List X). list_all p l) (sym splice.was) ∙ all) in
    let later = and_parts (list_all p old) (list_all p splice.back) parts.1 in
    ap (λ (l : List X). list_all p l) splice.now ∙ parted new
    ∙ and_from (list_all p splice.front) (list_all p new && list_all p splice.back) parts.0
    (and_from (list_all p new) (list_all p splice.back) own later.1)

-- ---- what stands in a list

-- one of them
abbrev pub Among : {X : Type 0} → X → List X → Type 0
Among x [] = ⊥
Among x (y ∷ ys) = (y ≡ x) ⊎ Among x ys

pub among-all : {X : Type 0} (p : X → Bool) (x : X) (xs : List X) → list_all p xs ≡ true → Among x xs → p x ≡ true
among-all p x [] all h = absurd h
among-all {X} p x (y ∷ ys) all (inl same) =
    ap p (sym same) ∙ (and_parts (p y) (list_all p ys) all).0
among-all p x (y ∷ ys) all (inr later) = among-all p x ys (and_parts (p y) (list_all p ys) all).1 later

pub among-filter : {X : Type 0} (p : X → Bool) (x : X) (xs : List X) → Among x (filter p xs)
    → (p x ≡ true) × Among x xs
among-filter p x [] h = absurd h
among-filter {X} p x (y ∷ ys) h =
    let rest : Among x (filter p ys) → (p x ≡ true) × Among x (y ∷ ys) =
    λ later. let more = among-filter p x ys later in (more.0, inr more.1) in
    by (p y) refl h rest
  where
    by : (b : Bool) → p y ≡ b → Among x (cond b (y ∷ filter p ys) (filter p ys))
        → (Among x (filter p ys) → (p x ≡ true) × Among x (y ∷ ys)) → (p x ≡ true) × Among x (y ∷ ys)
    by true passed (inl same) rest = (ap p (sym same) ∙ passed, inl same)
    by true passed (inr later) rest = rest later
    by false failed later rest = rest later

pub among-passes : {X : Type 0} (p : X → Bool) (x : X) (xs : List X) → p x ≡ true → Among x xs
    → Among x (filter p xs)
among-passes p x [] passed h = absurd h
among-passes {X} p x (y ∷ ys) passed (inl same) =
    let own : p y ≡ true = ap p same ∙ passed in
    subst (λ (b : Bool). Among x (cond b (y ∷ filter p ys) (filter p ys))) (sym own) (inl same)
among-passes {X} p x (y ∷ ys) passed (inr later) = by (p y) (among-passes p x ys passed later)
  where
    by : (b : Bool) → Among x (filter p ys) → Among x (cond b (y ∷ filter p ys) (filter p ys))
    by true rest = inr rest
    by false rest = rest

-- what gives this
pub record Given {X Y : Type 0} (f : X → Option Y) (y : Y) (xs : List X) : Type 0 where
  pub from : X
  pub among : Among from xs
  pub gives : f from ≡ Some y

pub among-filter_map : {X Y : Type 0} (f : X → Option Y) (y : Y) (xs : List X) → Among y (filter_map f xs)
    → Given f y xs
among-filter_map f y [] h = absurd h
among-filter_map {X} {Y} f y (x ∷ xs) h =
    let rest : Among y (filter_map f xs) → Given f y (x ∷ xs) =
    λ later. let more = among-filter_map f y xs later in
    record { from = more.from; among = inr more.among; gives = more.gives } in
    by (f x) refl h rest
  where
    by : (o : Option Y) → f x ≡ o → Among y (cons_option o (filter_map f xs))
        → (Among y (filter_map f xs) → Given f y (x ∷ xs)) → Given f y (x ∷ xs)
    by None gives later rest = rest later
    by (Some z) gives (inl same) rest =
        record { from = x; among = inl refl; gives = gives ∙ ap (λ (w : Y). Some w) same }
    by (Some z) gives (inr later) rest = rest later

pub among-gives : {X Y : Type 0} (f : X → Option Y) (x : X) (y : Y) (xs : List X) → f x ≡ Some y → Among x xs
    → Among y (filter_map f xs)
among-gives f x y [] gives h = absurd h
among-gives {X} {Y} f x y (z ∷ zs) gives (inl same) =
    subst (λ (o : Option Y). Among y (cons_option o (filter_map f zs))) (sym (ap f same ∙ gives)) (inl refl)
among-gives {X} {Y} f x y (z ∷ zs) gives (inr later) = by (f z) (among-gives f x y zs gives later)
  where
    by : (o : Option Y) → Among y (filter_map f zs) → Among y (cons_option o (filter_map f zs))
    by None rest = rest
    by (Some w) rest = inr rest

-- it stands between others
pub record Between {X : Type 0} (x : X) (xs : List X) : Type 0 where
  pub front : List X
  pub back : List X
  pub stand : xs ≡ front ++ (x ∷ back)

pub among-between : {X : Type 0} (x : X) (xs : List X) → Among x xs → Between x xs
among-between x [] h = absurd h
among-between {X} x (y ∷ ys) (inl same) =
    record { front = []; back = ys; stand = ap (λ (z : X). z ∷ ys) same }
among-between {X} x (y ∷ ys) (inr later) =
    let rest = among-between x ys later in
    record { front = y ∷ rest.front; back = rest.back; stand = ap (λ (l : List X). y ∷ l) rest.stand }

pub between-among : {X : Type 0} (x : X) (front back : List X) → Among x (front ++ (x ∷ back))
between-among x [] back = inl refl
between-among x (y ∷ front) back = inr (between-among x front back)

-- ---- the first one

pub find-some : {X : Type 0} (p : X → Bool) (x : X) (xs : List X) → find p xs ≡ Some x → (p x ≡ true) × Among x xs
find-some p x [] h = absurd (none-some x h)
find-some {X} p x (y ∷ ys) h =
    let rest : find p ys ≡ Some x → (p x ≡ true) × Among x (y ∷ ys) =
    λ later. let more = find-some p x ys later in (more.0, inr more.1) in
    by (p y) refl h rest
  where
    by : (b : Bool) → p y ≡ b → cond b (Some y) (find p ys) ≡ Some x
        → (find p ys ≡ Some x → (p x ≡ true) × Among x (y ∷ ys)) → (p x ≡ true) × Among x (y ∷ ys)
    by true passed is rest = let same = same_Some y x is in (ap p (sym same) ∙ passed, inl same)
    by false failed is rest = rest is

pub find-none : {X : Type 0} (p : X → Bool) (xs : List X) → find p xs ≡ None → list_any p xs ≡ false
find-none p [] h = refl
find-none {X} p (y ∷ ys) h = by (p y) refl h (λ is. find-none p ys is)
  where
    by : (b : Bool) → p y ≡ b → cond b (Some y) (find p ys) ≡ None
        → (find p ys ≡ None → list_any p ys ≡ false) → (b || list_any p ys) ≡ false
    by true passed is rest = absurd (none-some y (sym is))
    by false failed is rest = rest is

-- where none passes, what is among them doesn't
pub among-none : {X : Type 0} (p : X → Bool) (x : X) (xs : List X) → list_any p xs ≡ false → Among x xs → p x ≡ false
among-none p x [] none h = absurd h
among-none {X} p x (y ∷ ys) none (inl same) = ap p (sym same) ∙ (or_parts (p y) (list_any p ys) none).0
among-none p x (y ∷ ys) none (inr later) = among-none p x ys (or_parts (p y) (list_any p ys) none).1 later

-- one that passes is among them
pub any-among : {X : Type 0} (p : X → Bool) (xs : List X) → list_any p xs ≡ true → (x : X) × (Among x xs × (p x ≡ true))
any-among p [] h = absurd cc
any-among {X} p (y ∷ ys) h =
    let rest : list_any p ys ≡ true → (x : X) × (Among x (y ∷ ys) × (p x ≡ true)) =
    λ later. let more = any-among p ys later in (more.0, (inr more.1.0, more.1.1)) in
    by (p y) refl h rest
  where
    by : (b : Bool) → p y ≡ b → (b || list_any p ys) ≡ true
        → (list_any p ys ≡ true → (x : X) × (Among x (y ∷ ys) × (p x ≡ true)))
        → (x : X) × (Among x (y ∷ ys) × (p x ≡ true))
    by true passed is rest = (y, (inl refl, passed))
    by false failed is rest = rest is

-- something is there
pub some-is : {X : Type 0} (o : Option X) → is_some o ≡ true → (x : X) × (o ≡ Some x)
some-is None h = absurd cc
some-is (Some x) h = (x, refl)
