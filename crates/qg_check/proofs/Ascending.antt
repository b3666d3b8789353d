-- Keys that ascend.
use Rattle.std.proofs.Common.{◌≡◌, true, List, [], ◌∷◌, refl, ap}
use Rattle.std.specs.List.{AllByRecursion}
use Rattle.std.specs.declared.cmp.Ordering.{Ordering}
use Rattle.std.specs.declared.cmp.Ordering.TheVariants.{Less, Equal, Greater}
use Rattle.std.specs.Ordering.{is_lt, ordering_reverse}
use Rattle.std.proofs.lemmas.Bool.{and_parts, and_from}
use Rattle.qg_num.specs.Key.{key_cmp}
use Rattle.qg_num.specs.declared.key.Key.{Key}
use Rattle.qg_num.proofs.KeyOrder.{key_cmp_total}
use Rattle.qg_node.specs.Nodes.{ascends_from, is_ascending}

-- a key is less than another
abbrev pub IsLess : Key → Key → Type 0
IsLess a b = is_lt (key_cmp a b) ≡ true

is_less : (answer : Ordering) → is_lt answer ≡ true → answer ≡ Less
is_less Less h = refl
is_less Equal h = absurd cc
is_less Greater h = absurd cc

less_trans : (a b c : Key) → IsLess a b → IsLess b c → IsLess a c
less_trans a b c h k = ap is_lt (key_cmp_total.trans a b c (is_less (key_cmp a b) h) (is_less (key_cmp b c) k))

lower : (low before : Key) (keys : List Key) → IsLess low before → ascends_from before keys ≡ true
    → ascends_from low keys ≡ true
unfolding ascends_from
lower low before [] h k = refl
lower low before (key ∷ keys) h k =
    let parts = and_parts (is_lt (key_cmp before key)) (ascends_from key keys) k in
    and_from (is_lt (key_cmp low key)) (ascends_from key keys) (less_trans low before key h parts.0) parts.1

-- keys that ascend from one on are all greater
pub all_greater : (low : Key) (keys : List Key) → ascends_from low keys ≡ true → AllByRecursion (IsLess low) keys
unfolding ascends_from
all_greater low [] h = tt
all_greater low (key ∷ keys) h =
    let parts = and_parts (is_lt (key_cmp low key)) (ascends_from key keys) h in
    (parts.0, all_greater low keys (lower low key keys parts.0 parts.1))

-- those behind the first ascend too
pub ascending_behind : (key : Key) (keys : List Key) → is_ascending (key ∷ keys) ≡ true → is_ascending keys ≡ true
unfolding is_ascending ascends_from
ascending_behind key [] h = refl
ascending_behind key (next ∷ keys) h = (and_parts (is_lt (key_cmp key next)) (ascends_from next keys) h).1

-- and are greater than it
pub greater_behind : (key : Key) (keys : List Key) → is_ascending (key ∷ keys) ≡ true → AllByRecursion (IsLess key) keys
unfolding is_ascending
greater_behind key keys h = all_greater key keys h

-- no key is less than itself
pub not_itself : (key : Key) → IsLess key key → ⊥
not_itself key h = other (key_cmp key key) (key_cmp_total.antisymm key key) h where
  other : (answer : Ordering) → answer ≡ ordering_reverse answer → is_lt answer ≡ true → ⊥
  other Less e h = absurd cc
  other Equal e h = absurd cc
  other Greater e h = absurd cc
