-- The items from one key to another, leaf by leaf.
use Rattle.std.proofs.Common.{◌≡◌, ℕ, zero, suc, ◌+◌, ◌-◌, ◌*◌, ◌^◌, ◌≤◌, ◌<◌, true, false, List, [], ◌∷◌, ◌++◌, map}
use Rattle.std.proofs.Common.{length, arith, refl, sym, ap, subst, ◌∙◌, Option, Some, None}
use Rattle.std.specs.Prelude.{Bool, ◌&&◌, not, cond, filter, if◌then◌else◌, IfSome, IsSome}
use Rattle.std.specs.Ordering.{is_lt, nat_cmp, ordering_then}
use Rattle.std.specs.declared.cmp.Ordering.{Ordering}
use Rattle.std.specs.declared.cmp.Ordering.TheVariants.{Less, Equal, Greater}
use Rattle.std.proofs.lemmas.Bool.{and_from}
use Rattle.std.proofs.Math.Nat.{mul-add, mul-suc}
use Rattle.std.proofs.lemmas.Cmp.{ranked}
use Rattle.std.proofs.lemmas.List.{append_assoc, length-append}
use Rattle.std.proofs.lemmas.List.Elements.{filter-append}
use Rattle.std.proofs.lemmas.List.Folds.{list_all-map}
use Rattle.qg_num.specs.Key.{IsKey, key_cmp}
use Rattle.qg_num.specs.declared.key.Key.{Key}
use Rattle.qg_node.specs.declared.item.Item.{Item}
use Rattle.qg_blocks.specs.IsShaped.{same_key}
use Rattle.qg_shape.proofs.Ascending.{same_itself}
use Rattle.qg_walk.specs.Added.{is_from, is_to}
use Rattle.qg_blocks.specs.Walk.{ends_before}
use Rattle.qg_walk.proofs.KeyRanges.{ends_before-each, is_from-later, less_trans, less_upto, list_all-weaker}
use Rattle.qg_walk.proofs.KeyRanges.{not_less_behind, not_less_itself, same_key-true}
use Rattle.qg_tree_read.specs.Reading.{body_at, is_upto, is_within, items_within, rest_within}
use Rattle.qg_tree_read.specs.Way.{Follow, Gathers, IsFurther, IsPartFor, next_within}
use Rattle.qg_tree_read.proofs.Under.{all_from, all_to}
use Rattle.qg_tree_read.proofs.Parts.{body-part, filter_none, filter_same, not_false}

no_and : (a b : Bool) → b ≡ false → (a && b) ≡ false
no_and true b h = h
no_and false b h = refl

-- ---- those in front, and those behind

-- none of what is less than the first key
none_before : (from to : Key) (items : List Item) → all_to (Some from) items ≡ true → items_within from to items ≡ []
none_before from to items less =
    filter_none (λ (item : Item). is_within from to item.key) (λ (item : Item). is_lt (key_cmp item.key from))
    (λ item h. rw (not_false (is_lt (key_cmp item.key from)) h) refl) items less

-- nor of what is not less than one greater than the last
none_behind : (from to next : Key) (items : List Item) → is_lt (key_cmp to next) ≡ true
    → all_from (Some next) items ≡ true → items_within from to items ≡ []
none_behind from to next items greater all =
    filter_none (λ (item : Item). is_within from to item.key) (λ (item : Item). is_from (Some next) item.key)
    (λ item h. no_and (not (is_lt (key_cmp item.key from))) (is_upto to item.key)
    (not_false (is_lt (key_cmp to item.key)) (less_upto to next item.key greater h))) items all

-- where none is less than a later key, it is the same to begin there
same_behind : (from to next : Key) (items : List Item) → is_lt (key_cmp from next) ≡ true
    → all_from (Some next) items ≡ true → items_within from to items ≡ items_within next to items
same_behind from to next items less all =
    filter_same (λ (item : Item). is_within from to item.key) (λ (item : Item). is_within next to item.key)
    (λ (item : Item). is_from (Some next) item.key)
    (λ item h. rw (is_from-later (Some from) next item.key (not_less_behind from next less) h, h) refl) items all

follow_from : (key : Key) (items : List Item) → Follow (Some key) items → all_from (Some key) items ≡ true
follow_from key [] follow = absurd follow
follow_from key (item ∷ items) follow = follow.1

three : (from to : Key) (front part back : List Item) → items_within from to front ≡ []
    → items_within from to (front ++ (part ++ back)) ≡ items_within from to part ++ items_within from to back
three from to front part back none =
    let p : Item → Bool = λ item. is_within from to item.key in
    filter-append p front (part ++ back) ∙ ap (λ (xs : List Item). xs ++ filter p (part ++ back)) none
    ∙ filter-append p part back

back_next : (from to next : Key) (front part back : List Item) (b : Bool) → is_upto to next ≡ b
    → is_lt (key_cmp from next) ≡ true → all_to (Some from) front ≡ true
    → all_to (Some next) part ≡ true → Follow (Some next) back
    → items_within from to back ≡ rest_within (if b then Some next else None) to (front ++ (part ++ back))
back_next from to next front part back true upto less before within behind =
    let early = list_all-weaker (λ (item : Item). is_to (Some from) item.key)
    (λ (item : Item). is_to (Some next) item.key) (λ item h. less_trans item.key from next h less) front before in
    same_behind from to next back less (follow_from next back behind)
    ∙ sym (three next to front part back (none_before next to front early)
    ∙ ap (λ (xs : List Item). xs ++ items_within next to back) (none_before next to part within))
back_next from to next front part back false upto less before within behind =
    none_behind from to next back (was_true (is_lt (key_cmp to next)) upto) (follow_from next back behind) where
      was_true : (b : Bool) → not b ≡ false → b ≡ true
      was_true true h = refl
      was_true false h = absurd cc

back_within : (from to : Key) (next : Option Key) (front part back : List Item) → is_to next from ≡ true
    → all_to (Some from) front ≡ true → all_to next part ≡ true → Follow next back
    → items_within from to back ≡ rest_within (next_within to next) to (front ++ (part ++ back))
back_within from to None front part back less before within behind = rw behind refl
back_within from to (Some next) front part back less before within behind =
    back_next from to next front part back (is_upto to next) refl less before within behind

-- of all those from one key to another the leaf has some, and the rest begin at the next key
pub within-part : (from to : Key) (next : Option Key) (whole part : List Item) → is_to next from ≡ true
    → IsPartFor from next whole part
    → items_within from to whole ≡ items_within from to part ++ rest_within (next_within to next) to whole
within-part from to next whole part less is =
    let within = all_before next part is.within in
    let rest = back_within from to next is.front part is.back less is.less within is.behind in
    ap (items_within from to) is.whole_is ∙ three from to is.front part is.back (none_before from to is.front is.less)
    ∙ ap (λ (xs : List Item). items_within from to part ++ xs) rest
    ∙ ap (λ (xs : List Item). items_within from to part ++ rest_within (next_within to next) to xs)
    (sym is.whole_is) where
      all_before : (next : Option Key) (part : List Item) → ends_before next (map (λ (item : Item). item.key) part)
          ≡ true → all_to next part ≡ true
      all_before next part h =
          sym (list_all-map (is_to next) (λ (item : Item). item.key) part)
          ∙ sym (ends_before-each next (map (λ (item : Item). item.key) part)) ∙ h

-- ---- an item there is

more_of : (b : Bool) (item : Item) (items : List Item) → 0 < length items → 0 < length (cond b (item ∷ items) items)
more_of true item items h = omega arith
more_of false item items h = h

pub within_some : (from to : Key) (items : List Item) → is_upto to from ≡ true → IsSome (body_at from items)
    → 0 < length (items_within from to items)
within_some from to [] upto some = absurd cc
within_some from to (item ∷ items) upto some =
    here (within_some from to items upto) (same_key item.key from) refl some where
      here : (IsSome (body_at from items) → 0 < length (items_within from to items)) → (b : Bool)
          → same_key item.key from ≡ b → IsSome (if b then Some item.body else body_at from items)
          → 0 < length (items_within from to (item ∷ items))
      here rest true same some =
          let is : is_within from to item.key ≡ true =
          rw (same_key-true item.key from same) (and_from (not (is_lt (key_cmp from from))) (is_upto to from)
          (not_less_itself from) upto) in
          rw is (omega arith)
      here rest false differ some = more_of (is_within from to item.key) item (items_within from to items) (rest some)

body_first : (key : Key) (items : List Item) → Follow (Some key) items → IsSome (body_at key items)
body_first key [] follow = absurd follow
body_first key (item ∷ items) follow = let is : same_key item.key key ≡ true =
    subst (λ (k : Key). same_key item.key k ≡ true) follow.0 (same_itself item.key) in rw is refl

either : (b : Bool) (body : List ℕ) (o : Option (List ℕ)) → IsSome o → IsSome (if b then Some body else o)
either true body o some = refl
either false body o some = some

body_later : (key : Key) (front back : List Item) → IsSome (body_at key back) → IsSome (body_at key (front ++ back))
body_later key [] back some = some
body_later key (item ∷ front) back some = either (same_key item.key key) item.body (body_at key (front ++ back))
    (body_later key front back some)

further_if : (b : Bool) (next : Key) (whole : List Item) → IsSome (body_at next whole)
    → IfSome (if b then Some next else None) (λ key. IsSome (body_at key whole))
further_if true next whole some = some
further_if false next whole some = tt

further_key : (from to : Key) (next : Option Key) (whole part : List Item) → IsPartFor from next whole part
    → IfSome (next_within to next) (λ key. IsSome (body_at key whole))
further_key from to None whole part is = tt
further_key from to (Some next) whole part is =
    let back = body_first next is.back is.behind in
    let some = body_later next is.front (part ++ is.back) (body_later next part is.back back) in
    further_if (is_upto to next) next whole
    (subst (λ (xs : List Item). IsSome (body_at next xs)) (sym is.whole_is) some)

pub gathers : (from to : Key) (next : Option Key) (whole part old new : List Item) → is_to next from ≡ true
    → IsPartFor from next whole part → new ≡ old ++ items_within from to part
    → Gathers from to whole old new (next_within to next)
gathers from to next whole part old new less is more = record {
  added = items_within from to part;
  more = more;
  whole_is = within-part from to next whole part less is;
  some = λ some upto. within_some from to part upto
      (subst (λ (o : Option (List ℕ)). IsSome o) (body-part from next whole part less is) some);
  further = further_key from to next whole part is;
}

further_when : (from to next : Key) (b : Bool) → IsKey from → is_lt (key_cmp from next) ≡ true → is_upto to next ≡ b
    → IsFurther from to (if b then Some next else None)
further_when from to next true fits less upto = record { fits = fits; greater = less; upto = upto }
further_when from to next false fits less upto = record { fits = fits; greater = tt; upto = tt }

pub further-within : (from to : Key) (next : Option Key) → IsKey from → is_to next from ≡ true
    → IsFurther from to (next_within to next)
further-within from to None fits less = record { fits = fits; greater = tt; upto = tt }
further-within from to (Some next) fits less = further_when from to next (is_upto to next) fits less refl

-- ---- keys are numbers

-- where a key stands among all
abbrev pub place_of : Key → ℕ
place_of key = (key.objectid * 256 + key.kind) * 2 ^ 64 + key.offset

-- how many may come from a key on
abbrev pub left_of : Option Key → ℕ
left_of None = 0
left_of (Some key) = 2 ^ 136 - place_of key

place_less : (a b : Key) → IsKey a → (o p : Ordering) → nat_cmp a.objectid b.objectid ≡ o → nat_cmp a.kind b.kind ≡ p
    → is_lt (ordering_then o (ordering_then p (nat_cmp a.offset b.offset))) ≡ true → place_of a < place_of b
place_less a b fits Less p first second less = let h = ranked a.objectid b.objectid Less (sym first) in
    let k = fits.kind in let f = fits.offset in omega (arith, h, k, f)
place_less a b fits Greater p first second less = absurd cc
place_less a b fits Equal Less first second less =
    let h = ranked a.objectid b.objectid Equal (sym first) in let k = ranked a.kind b.kind Less (sym second) in
    let f = fits.offset in omega (arith, h, k, f)
place_less a b fits Equal Greater first second less = absurd cc
place_less a b fits Equal Equal first second less =
    let h = ranked a.objectid b.objectid Equal (sym first) in let k = ranked a.kind b.kind Equal (sym second) in
    let f = ranked a.offset b.offset (nat_cmp a.offset b.offset) refl in
    last (nat_cmp a.offset b.offset) refl less h k where
      last : (o : Ordering) → nat_cmp a.offset b.offset ≡ o → is_lt o ≡ true → a.objectid ≡ b.objectid → a.kind ≡ b.kind
          → place_of a < place_of b
      last Less third less h k = let f = ranked a.offset b.offset Less (sym third) in omega (arith, h, k, f)
      last Equal third less h k = absurd cc
      last Greater third less h k = absurd cc

-- fewer are left from a greater key on
pub left_less : (from to : Key) (next : Option Key) → IsFurther from to next → left_of next < left_of (Some from)
left_less from to None further =
    let o = further.fits.objectid in let k = further.fits.kind in let f = further.fits.offset in omega (arith, o, k, f)
left_less from to (Some next) further =
    let less = place_less from next further.fits (nat_cmp from.objectid next.objectid) (nat_cmp from.kind next.kind)
    refl refl further.greater in
    let o = further.fits.objectid in let k = further.fits.kind in let f = further.fits.offset in
    omega (arith, less, o, k, f)

-- ---- steps

-- each leaf but the first gives an item for the steps that it takes
pub spent : (steps added rest reads more total : ℕ) → reads + steps * (added + rest) ≤ total → more ≤ reads + steps
    → 0 < added → more + steps * rest ≤ total
spent steps zero rest reads more total h k some = absurd (omega (arith, some))
spent steps (suc added) rest reads more total h k some =
    let one : steps * (suc added + rest) ≡ steps * suc added + steps * rest = mul-add steps (suc added) rest in
    let two : steps * suc added ≡ steps * added + steps = mul-suc steps added in
    omega (arith, h, k, one, two)

-- the last leaf that is read, whatever is answered
pub spent-last : (steps rest reads more total : ℕ) → reads + steps * rest ≤ total → more ≤ reads + steps → 0 < rest
    → more ≤ total
spent-last steps zero reads more total h k some = absurd (omega (arith, some))
spent-last steps (suc rest) reads more total h k some =
    let one : steps * suc rest ≡ steps * rest + steps = mul-suc steps rest in omega (arith, h, k, one)

begun : (steps added rest reads more : ℕ) → more ≤ reads + steps
    → more + steps * rest ≤ reads + steps * (1 + (added + rest))
begun steps added rest reads more h =
    let one : steps * (1 + (added + rest)) ≡ steps * 1 + steps * (added + rest) = mul-add steps 1 (added + rest) in
    let two : steps * (added + rest) ≡ steps * added + steps * rest = mul-add steps added rest in
    omega (arith, h, one, two)

-- what was gathered, and what is left
pub gathered-part : (from first to : Key) (whole old new : List Item) (next : Option Key)
    → items_within from to whole ≡ old ++ items_within first to whole → Gathers first to whole old new next
    → items_within from to whole ≡ new ++ rest_within next to whole
gathered-part from first to whole old new next is gathers =
    is ∙ ap (λ (xs : List Item). old ++ xs) gathers.whole_is
    ∙ sym (append_assoc old gathers.added (rest_within next to whole))
    ∙ ap (λ (xs : List Item). xs ++ rest_within next to whole) (sym gathers.more)

gathered_length : (first to : Key) (whole old new : List Item) (next : Option Key)
    → (g : Gathers first to whole old new next)
    → length (items_within first to whole) ≡ length g.added + length (rest_within next to whole)
gathered_length first to whole old new next g = ap (λ (xs : List Item). length xs) g.whole_is
    ∙ length-append g.added (rest_within next to whole)

pub gathered-begun : (from to : Key) (whole old new : List Item) (next : Option Key) (steps reads more : ℕ)
    → more ≤ reads + steps → Gathers from to whole old new next
    → more + steps * length (rest_within next to whole) ≤ reads + steps * (1 + length (items_within from to whole))
gathered-begun from to whole old new next steps reads more h g =
    subst (λ (n : ℕ). more + steps * length (rest_within next to whole) ≤ reads + steps * (1 + n))
    (sym (gathered_length from to whole old new next g))
    (begun steps (length g.added) (length (rest_within next to whole)) reads more h)

pub gathered-spent : (first to : Key) (whole old new : List Item) (next : Option Key) (steps reads more total : ℕ)
    → reads + steps * length (items_within first to whole) ≤ total
    → more ≤ reads + steps → IsSome (body_at first whole) → is_upto to first ≡ true
    → Gathers first to whole old new next → more + steps * length (rest_within next to whole) ≤ total
gathered-spent first to whole old new next steps reads more total h k some upto g =
    spent steps (length g.added) (length (rest_within next to whole)) reads more total
    (subst (λ (n : ℕ). reads + steps * n ≤ total) (gathered_length first to whole old new next g) h) k
    (g.some some upto)
