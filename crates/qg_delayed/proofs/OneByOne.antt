-- Edits that are made one after the other in a book that tells, where it tells, what it has.
use Rattle.std.proofs.Common.{◌≡◌, ℕ, zero, suc, ◌+◌, ◌-◌, ◌<◌, List, [], ◌∷◌, ◌++◌, drop, get_or, length, replicate}
use Rattle.std.proofs.Common.{Option, Some, None, refl, sym, ap, subst, ◌∙◌, append_assoc, arith}
use Rattle.std.specs.Prelude.{unwrap_or, IsSome}
use Rattle.std.specs.List.{flat_map}
use Rattle.std.proofs.lemmas.Bool.{true≢false}
use Rattle.std.proofs.lemmas.List.{drop_more}
use Rattle.qg_refs.specs.Book.{Book, IsBook, Turns}
use Rattle.qg_delayed.specs.declared.change.Change.{Change}
use Rattle.qg_delayed.specs.declared.edit.Edit.{Edit}
use Rattle.qg_delayed.specs.Making.{CanMake, HasMade, HasRoomFor, LeftByEdits, LeftByTimes, Makes, MakesAll, MayAll}

-- ---- books

pub may_front : (xs ys : List Edit) (b : Book) → MayAll (xs ++ ys) b → MayAll xs b
may_front [] ys b may = tt
may_front (e ∷ xs) ys b may = (may.0, λ next book made. may_front xs ys next (may.1 next book made))

pub may_rest : (xs ys : List Edit) (b a : Book) → MayAll (xs ++ ys) b → MakesAll xs b a → MayAll ys a
may_rest [] ys b a may made = subst (MayAll ys) (sym made) may
may_rest (e ∷ xs) ys b a may made = may_rest xs ys made.0 a (may.1 made.0 made.1 made.2) made.3

pub makes_both : (xs ys : List Edit) (b m a : Book) → MakesAll xs b m → MakesAll ys m a → MakesAll (xs ++ ys) b a
makes_both [] ys b m a first second = subst (λ (w : Book). MakesAll ys w a) first second
makes_both (e ∷ xs) ys b m a first second =
    (first.0, first.1, first.2, makes_both xs ys first.0 m a first.3 second)

-- ---- what is told

none_some : (book : Book) → None ≡ Some book → ⊥
none_some book is = cc

same_book : (a b : Book) → Some a ≡ Some b → a ≡ b
same_book a b is = ap (λ (o : Option Book). unwrap_or o a) is

-- one edit that was made, as all of one
pub one_turn : (told now : Option Book) (e : Edit) → Turns (Makes e) told now
    → ((b : Book) → now ≡ Some b → IsBook b) → Turns (MakesAll (e ∷ [])) told now
one_turn told now e turns sound book is =
    let t = turns book is in
    (t.0, t.1, (t.0, sound t.0 t.1, t.2, refl))

both_turn : (told mid now : Option Book) (xs ys : List Edit) → Turns (MakesAll xs) told mid
    → Turns (MakesAll ys) mid now → Turns (MakesAll (xs ++ ys)) told now
both_turn told mid now xs ys first second book is =
    let t = first book is in
    let u = second t.0 t.1 in
    (u.0, u.1, makes_both xs ys book t.0 u.0 t.2 u.2)

-- what is left may be made in the book that is told then
rest_may : (told now : Option Book) (xs ys : List Edit)
    → ((below : Book) → told ≡ Some below → MayAll (xs ++ ys) below) → Turns (MakesAll xs) told now
    → (told ≡ None → now ≡ None) → (below : Book) → now ≡ Some below → MayAll ys below
rest_may None now xs ys may turns untold below is = absurd (none_some below (sym (untold refl) ∙ is))
rest_may (Some first) now xs ys may turns untold below is =
    let t = turns first refl in
    subst (MayAll ys) (same_book t.0 below (sym t.1 ∙ is)) (may_rest xs ys first t.0 (may first refl) t.2)

still_told : (told now : Option Book) (P : Book → Book → Type 0) → Turns P told now → IsSome told → IsSome now
still_told None now P turns some = absurd (true≢false (sym some))
still_told (Some below) now P turns some = subst (λ (o : Option Book). IsSome o) (sym (turns below refl).1) refl

-- ---- book, land and disk

module _ {S G D : Type 0} (stands : S → G → D → Type 0) (holds : S → G → D → Option Book)
    (has_room : S → G → D → Type 0) (edits : G → D → G → D → Type 0) where
  room_front : (xs ys : List Edit) (b : S) (l : G) (d : D) → HasRoomFor stands holds has_room edits (xs ++ ys) b l d
      → HasRoomFor stands holds has_room edits xs b l d
  room_front [] ys b l d room = tt
  room_front (e ∷ xs) ys b l d room = (
    room.0,
    λ b' l' d' stood left made. room_front xs ys b' l' d' (room.1 b' l' d' stood left made),
  )

  -- what comes first can be made, and then the rest
  pub can_front : (xs ys : List Edit) (b : S) (l : G) (d : D) → CanMake stands holds has_room edits (xs ++ ys) b l d
      → CanMake stands holds has_room edits xs b l d
  can_front xs ys b l d can = record {
    stood = can.stood;
    may = λ below told. may_front xs ys below (can.may below told);
    room = room_front xs ys b l d can.room;
  }

  pub can_rest : (xs ys : List Edit) (b : S) (l : G) (d : D) (b' : S) (l' : G) (d' : D)
      → CanMake stands holds has_room edits (xs ++ ys) b l d → HasMade stands holds has_room edits xs b l d b' l' d'
      → CanMake stands holds has_room edits ys b' l' d'
  can_rest xs ys b l d b' l' d' can made = record {
    stood = made.stood;
    may = rest_may (holds b l d) (holds b' l' d') xs ys can.may made.turned made.untold;
    room = made.room ys can.room;
  }

  pub made_none : (b : S) (l : G) (d : D) → stands b l d → HasMade stands holds has_room edits [] b l d b l d
  made_none b l d stood = record {
    stood = stood;
    turned = λ below told. (below, told, refl);
    untold = λ none. none;
    room = λ more room. room;
  }

  pub made_one : (e : Edit) (b : S) (l : G) (d : D) (b' : S) (l' : G) (d' : D) → stands b' l' d' → edits l d l' d'
      → Turns (Makes e) (holds b l d) (holds b' l' d') → ((told : Book) → holds b' l' d' ≡ Some told → IsBook told)
      → (holds b l d ≡ None → holds b' l' d' ≡ None) → HasMade stands holds has_room edits (e ∷ []) b l d b' l' d'
  made_one e b l d b' l' d' stood left turns sound untold = record {
    stood = stood;
    turned = one_turn (holds b l d) (holds b' l' d') e turns sound;
    untold = untold;
    room = λ more room. room.1 b' l' d' stood left turns;
  }

  pub made_both : (xs ys : List Edit) (b : S) (l : G) (d : D) (m : S) (k : G) (c : D) (b' : S) (l' : G) (d' : D)
      → HasMade stands holds has_room edits xs b l d m k c → HasMade stands holds has_room edits ys m k c b' l' d'
      → HasMade stands holds has_room edits (xs ++ ys) b l d b' l' d'
  made_both xs ys b l d m k c b' l' d' first second = record {
    stood = second.stood;
    turned = both_turn (holds b l d) (holds m k c) (holds b' l' d') xs ys first.turned second.turned;
    untold = λ none. second.untold (first.untold none);
    room = λ more room. second.room more (first.room (ys ++ more)
        (subst (λ (es : List Edit). HasRoomFor stands holds has_room edits es b l d) (append_assoc xs ys more) room));
  }

  pub tells_still : (xs : List Edit) (b : S) (l : G) (d : D) (b' : S) (l' : G) (d' : D)
      → HasMade stands holds has_room edits xs b l d b' l' d' → IsSome (holds b l d) → IsSome (holds b' l' d')
  tells_still xs b l d b' l' d' made = still_told (holds b l d) (holds b' l' d') (MakesAll xs) made.turned

  -- some of all edits are made: the rest can be made, and then all are
  pub record Going (all rest : List Edit) (b : S) (l : G) (d : D) (b' : S) (l' : G) (d' : D) : Type 0 where
    pub can : CanMake stands holds has_room edits rest b' l' d'
    pub onward : (b'' : S) (l'' : G) (d'' : D) → HasMade stands holds has_room edits rest b' l' d' b'' l'' d''
        → HasMade stands holds has_room edits all b l d b'' l'' d''
    pub tells : IsSome (holds b l d) → IsSome (holds b' l' d')

  pub going_first : (all : List Edit) (b : S) (l : G) (d : D) → CanMake stands holds has_room edits all b l d
      → Going all all b l d b l d
  going_first all b l d can =
      record { can = can; onward = λ b'' l'' d'' made. made; tells = λ some. some }

  pub going_next : (all es rest : List Edit) (b : S) (l : G) (d : D) (m : S) (k : G) (c : D) (b' : S) (l' : G) (d' : D)
      → Going all (es ++ rest) b l d m k c → HasMade stands holds has_room edits es m k c b' l' d'
      → Going all rest b l d b' l' d'
  going_next all es rest b l d m k c b' l' d' going made = record {
    can = can_rest es rest m k c b' l' d' going.can made;
    onward = λ b'' l'' d'' more. going.onward b'' l'' d'' (made_both es rest m k c b' l' d' b'' l'' d'' made more);
    tells = λ some. tells_still es m k c b' l' d' made (going.tells some);
  }

  pub going_last : (all : List Edit) (b : S) (l : G) (d : D) (b' : S) (l' : G) (d' : D)
      → Going all [] b l d b' l' d' → HasMade stands holds has_room edits all b l d b' l' d'
  going_last all b l d b' l' d' going = going.onward b' l' d' (made_none b' l' d' going.can.stood)

  -- the edits that are left, said otherwise
  pub going_as : (all rest rest' : List Edit) (b : S) (l : G) (d : D) (b' : S) (l' : G) (d' : D) → rest ≡ rest'
      → Going all rest b l d b' l' d' → Going all rest' b l d b' l' d'
  going_as all rest rest' b l d b' l' d' is = subst (λ (es : List Edit). Going all es b l d b' l' d') is

-- ---- land and disk

module _ {G D : Type 0} (edits : G → D → G → D → Type 0) where
  pub left_none : (l : G) (d : D) → LeftByEdits edits l d l d
  left_none l d = record { times = 0; so = (refl, refl) }

  left_times : (n : ℕ) (l : G) (d : D) (m : G) (k : D) (l' : G) (d' : D) → LeftByTimes edits n l d m k
      → LeftByEdits edits m k l' d' → LeftByEdits edits l d l' d'
  left_times zero l d m k l' d' same rest =
      subst (λ (w : G). LeftByEdits edits w d l' d') same.0
      (subst (λ (w : D). LeftByEdits edits m w l' d') same.1 rest)
  left_times (suc n) l d m k l' d' first rest =
      let more = left_times n first.0 first.1 m k l' d' first.3 rest in
      record { times = suc more.times; so = (first.0, first.1, first.2, more.so) }

  pub left_both : (l : G) (d : D) (m : G) (k : D) (l' : G) (d' : D) → LeftByEdits edits l d m k
      → LeftByEdits edits m k l' d' → LeftByEdits edits l d l' d'
  left_both l d m k l' d' first = left_times first.times l d m k l' d' first.so

  pub left_one : (l : G) (d : D) (l' : G) (d' : D) → edits l d l' d' → LeftByEdits edits l d l' d'
  left_one l d l' d' left = record { times = 1; so = (l', d', left, (refl, refl)) }

-- ---- what is left

pub times_next : (n i : ℕ) (e : Edit) → i < n → replicate (n - i) e ≡ e ∷ replicate (n - (i + 1)) e
times_next n i e more =
    let next : n - i ≡ suc (n - (i + 1)) = omega (arith, more) in
    ap (λ (k : ℕ). replicate k e) next

pub changes_next : (f : Change → List Edit) (cs : List Change) (i : ℕ) (c : Change) → i < length cs → c ≡ get_or cs i c
    → flat_map f (drop i cs) ≡ f c ++ flat_map f (drop (i + 1) cs)
changes_next f cs i c inside at =
    ap (flat_map f) (drop_more cs i c inside ∙ ap (λ (w : Change). w ∷ drop (i + 1) cs) (sym at))
