-- Keys that ascend: their parts, and a key between two parts.
use Rattle.std.proofs.Common.{◌≡◌, ℕ, ◌<◌, Bool, true, false, List, [], ◌∷◌, ◌++◌, length, refl, sym, ap, ◌∙◌, arith}
use Rattle.std.specs.Prelude.{◌&&◌, ◌==◌}
use Rattle.std.specs.List.{list_all}
use Rattle.std.specs.declared.cmp.Ordering.{Ordering}
use Rattle.std.specs.declared.cmp.Ordering.TheVariants.{Less, Equal, Greater}
use Rattle.std.specs.Ordering.{is_lt, nat_cmp, ordering_reverse, ordering_then}
use Rattle.std.proofs.lemmas.Bool.{and_from, and_parts, eq-eqb}
use Rattle.std.proofs.lemmas.Cmp.{ranked, tied_itself}
use Rattle.std.proofs.lemmas.List.{append-nil}
use Rattle.qg_num.specs.declared.key.Key.{Key}
use Rattle.qg_num.specs.Key.{key_cmp}
use Rattle.qg_num.proofs.KeyOrder.{key_cmp_total}
use Rattle.qg_node.specs.Nodes.{ascends_from, is_ascending}
use Rattle.qg_image.specs.IsShaped.{same_key}
use Rattle.qg_shape.specs.Pointing.{first_key}

-- ---- the order

is_less : (answer : Ordering) → is_lt answer ≡ true → answer ≡ Less
is_less Less h = refl
is_less Equal h = absurd cc
is_less Greater h = absurd cc

pub less_trans : (a b c : Key) → is_lt (key_cmp a b) ≡ true → is_lt (key_cmp b c) ≡ true → is_lt (key_cmp a c) ≡ true
less_trans a b c h k = ap is_lt (key_cmp_total.trans a b c (is_less (key_cmp a b) h) (is_less (key_cmp b c) k))

pub same_itself : (key : Key) → same_key key key ≡ true
same_itself key = and_from _ _ (and_from _ _ (eq-eqb key.objectid key.objectid refl) (eq-eqb key.kind key.kind refl))
    (eq-eqb key.offset key.offset refl)

then_equal : (a b : Ordering) → ordering_then a b ≡ Equal → (a ≡ Equal) × (b ≡ Equal)
then_equal Less b h = absurd cc
then_equal Equal b h = (refl, h)
then_equal Greater b h = absurd cc

nat_tied : (a b : ℕ) → nat_cmp a b ≡ Equal → (a == b) ≡ true
nat_tied a b h = eq-eqb a b (ranked a b Equal (sym h))

-- what `==` answers of two keys
abbrev pub are_equal : Key → Key → Bool
are_equal a b = (a.objectid == b.objectid) && ((a.kind == b.kind) && (a.offset == b.offset))

tied : (a b : Key) → key_cmp a b ≡ Equal → are_equal a b ≡ true
tied a b h =
    let first = then_equal (nat_cmp a.objectid b.objectid)
    (ordering_then (nat_cmp a.kind b.kind) (nat_cmp a.offset b.offset)) h in
    let later = then_equal (nat_cmp a.kind b.kind) (nat_cmp a.offset b.offset) first.1 in
    and_from _ _ (nat_tied a.objectid b.objectid first.0)
    (and_from _ _ (nat_tied a.kind b.kind later.0) (nat_tied a.offset b.offset later.1))

-- a key that is neither less than another nor the same is greater
pub greater : (a b : Key) → is_lt (key_cmp a b) ≡ false → are_equal a b ≡ false → is_lt (key_cmp b a) ≡ true
greater a b h other = cases (key_cmp a b) refl h where
  cases : (answer : Ordering) → key_cmp a b ≡ answer → is_lt answer ≡ false → is_lt (key_cmp b a) ≡ true
  cases Less e k = absurd cc
  cases Equal e k = let same = tied a b e in absurd cc
  cases Greater e k = ap is_lt (key_cmp_total.antisymm b a ∙ ap ordering_reverse e)

-- no key is less than itself
pub not_itself : (key : Key) → is_lt (key_cmp key key) ≡ false
not_itself key = ap is_lt (tied_itself key_cmp_total key)

-- ---- parts

pub from_lower : (low before : Key) (keys : List Key) → is_lt (key_cmp low before) ≡ true
    → ascends_from before keys ≡ true → ascends_from low keys ≡ true
unfolding ascends_from
from_lower low before [] h k = refl
from_lower low before (key ∷ keys) h k =
    let parts = and_parts (is_lt (key_cmp before key)) (ascends_from key keys) k in
    and_from (is_lt (key_cmp low key)) (ascends_from key keys) (less_trans low before key h parts.0) parts.1

from_back : (before : Key) (front back : List Key) → ascends_from before (front ++ back) ≡ true
    → ascends_from before back ≡ true
unfolding ascends_from
from_back before [] back h = h
from_back before (key ∷ front) back h =
    let parts = and_parts (is_lt (key_cmp before key)) (ascends_from key (front ++ back)) h in
    from_lower before key back parts.0 (from_back key front back parts.1)

from_front : (before : Key) (front back : List Key) → ascends_from before (front ++ back) ≡ true
    → ascends_from before front ≡ true
unfolding ascends_from
from_front before [] back h = refl
from_front before (key ∷ front) back h =
    let parts = and_parts (is_lt (key_cmp before key)) (ascends_from key (front ++ back)) h in
    and_from (is_lt (key_cmp before key)) (ascends_from key front) parts.0 (from_front key front back parts.1)

pub ascending_tail : (key : Key) (keys : List Key) → ascends_from key keys ≡ true → is_ascending keys ≡ true
unfolding ascends_from is_ascending
ascending_tail key [] h = refl
ascending_tail key (next ∷ keys) h = (and_parts (is_lt (key_cmp key next)) (ascends_from next keys) h).1

pub ascending_front : (front back : List Key) → is_ascending (front ++ back) ≡ true → is_ascending front ≡ true
unfolding is_ascending
ascending_front [] back h = refl
ascending_front (key ∷ front) back h = from_front key front back h

pub ascending_back : (front back : List Key) → is_ascending (front ++ back) ≡ true → is_ascending back ≡ true
unfolding is_ascending
ascending_back [] back h = h
ascending_back (key ∷ front) back h = ascending_tail key back (from_back key front back h)

-- what is greater than a key, and ascends from it, is greater than any lesser one
pub all_greater : (low key : Key) (keys : List Key) → is_lt (key_cmp low key) ≡ true → ascends_from key keys ≡ true
    → list_all (λ other. is_lt (key_cmp low other)) (key ∷ keys) ≡ true
unfolding ascends_from
all_greater low key [] h k = and_from (is_lt (key_cmp low key)) true h refl
all_greater low key (next ∷ keys) h k =
    let parts = and_parts (is_lt (key_cmp key next)) (ascends_from next keys) k in
    and_from (is_lt (key_cmp low key)) (list_all (λ other. is_lt (key_cmp low other)) (next ∷ keys)) h
    (all_greater low next keys (less_trans low key next h parts.0) parts.1)

pub all_behind : (key : Key) (keys : List Key) → ascends_from key keys ≡ true
    → list_all (λ other. is_lt (key_cmp key other)) keys ≡ true
unfolding ascends_from
all_behind key [] h = refl
all_behind key (next ∷ keys) h =
    let parts = and_parts (is_lt (key_cmp key next)) (ascends_from next keys) h in
    all_greater key next keys parts.0 parts.1

from_between : (before : Key) (front : List Key) (to : Key) (back : List Key)
    → ascends_from before (front ++ to ∷ back) ≡ true
    → (is_lt (key_cmp before to) ≡ true) × (list_all (λ key. is_lt (key_cmp key to)) front ≡ true)
unfolding ascends_from
from_between before [] to back h = ((and_parts (is_lt (key_cmp before to)) (ascends_from to back) h).0, refl)
from_between before (key ∷ front) to back h =
    let parts = and_parts (is_lt (key_cmp before key)) (ascends_from key (front ++ to ∷ back)) h in
    let rest = from_between key front to back parts.1 in (
      less_trans before key to parts.0 rest.0,
      and_from (is_lt (key_cmp key to))
          (list_all (λ key. is_lt (key_cmp key to)) front) rest.0 rest.1,
    )

-- what stands in front of a key is less
pub all_before : (front : List Key) (to : Key) (back : List Key) → is_ascending (front ++ to ∷ back) ≡ true
    → list_all (λ key. is_lt (key_cmp key to)) front ≡ true
unfolding is_ascending
all_before [] to back h = refl
all_before (key ∷ front) to back h =
    let rest = from_between key front to back h in
    and_from (is_lt (key_cmp key to)) (list_all (λ key. is_lt (key_cmp key to)) front) rest.0 rest.1

-- ---- put together

from_all : (key : Key) (back : List Key) → is_ascending back ≡ true
    → list_all (λ other. is_lt (key_cmp key other)) back ≡ true → ascends_from key back ≡ true
unfolding ascends_from is_ascending
from_all key [] ascending greater = refl
from_all key (next ∷ back) ascending greater =
    let parts = and_parts (is_lt (key_cmp key next)) (list_all (λ other. is_lt (key_cmp key other)) back) greater in
    and_from (is_lt (key_cmp key next)) (ascends_from next back) parts.0 ascending

from_both : (before : Key) (front : List Key) (to : Key) (back : List Key) → ascends_from before front ≡ true
    → is_lt (key_cmp before to) ≡ true
    → list_all (λ key. is_lt (key_cmp key to)) front ≡ true → ascends_from to back ≡ true
    → ascends_from before (front ++ to ∷ back) ≡ true
unfolding ascends_from
from_both before [] to back h less below above = and_from (is_lt (key_cmp before to)) (ascends_from to back) less above
from_both before (key ∷ front) to back h less below above =
    let parts = and_parts (is_lt (key_cmp before key)) (ascends_from key front) h in
    let belows = and_parts (is_lt (key_cmp key to)) (list_all (λ key. is_lt (key_cmp key to)) front) below in
    and_from (is_lt (key_cmp before key)) (ascends_from key (front ++ to ∷ back)) parts.0
    (from_both key front to back parts.1 belows.0 belows.1 above)

-- keys ascend where those in front of one are less than it and ascend, and those behind it ascend from it
pub ascending_round : (front : List Key) (to : Key) (back : List Key) → is_ascending front ≡ true
    → list_all (λ key. is_lt (key_cmp key to)) front ≡ true
    → is_ascending back ≡ true → list_all (λ key. is_lt (key_cmp to key)) back ≡ true
    → is_ascending (front ++ to ∷ back) ≡ true
unfolding is_ascending
ascending_round [] to back h below k above = from_all to back k above
ascending_round (key ∷ front) to back h below k above =
    let belows = and_parts (is_lt (key_cmp key to)) (list_all (λ key. is_lt (key_cmp key to)) front) below in
    from_both key front to back h belows.0 belows.1 (from_all to back k above)

from_without : (before : Key) (front : List Key) (key : Key) (back : List Key)
    → ascends_from before (front ++ key ∷ back) ≡ true → ascends_from before (front ++ back) ≡ true
unfolding ascends_from
from_without before [] key back h =
    let parts = and_parts (is_lt (key_cmp before key)) (ascends_from key back) h in
    from_lower before key back parts.0 parts.1
from_without before (first ∷ front) key back h =
    let parts = and_parts (is_lt (key_cmp before first)) (ascends_from first (front ++ key ∷ back)) h in
    and_from (is_lt (key_cmp before first)) (ascends_from first (front ++ back)) parts.0
    (from_without first front key back parts.1)

-- keys ascend without one of them
pub ascending_without : (front : List Key) (key : Key) (back : List Key) → is_ascending (front ++ key ∷ back) ≡ true
    → is_ascending (front ++ back) ≡ true
unfolding is_ascending
ascending_without [] key back h = ascending_tail key back h
ascending_without (first ∷ front) key back h = from_without first front key back h

-- two lists of keys ascend together where those of the first are less than the first of the second
pub ascending_together : (front back : List Key) → is_ascending front ≡ true → is_ascending back ≡ true
    → (0 < length back → list_all (λ key. is_lt (key_cmp key (first_key back))) front ≡ true)
    → is_ascending (front ++ back) ≡ true
unfolding is_ascending
ascending_together front [] h k below = ap is_ascending (append-nil front) ∙ h
ascending_together front (key ∷ back) h k below =
    ascending_round front key back h (below (omega arith)) (ascending_tail key back k) (all_behind key back k)

pub ascending_tail_of : (key : Key) (keys : List Key) → is_ascending (key ∷ keys) ≡ true → is_ascending keys ≡ true
unfolding is_ascending
ascending_tail_of key keys h = ascending_tail key keys h
