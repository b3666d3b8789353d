-- Keys that ascend.
use Rattle.std.proofs.Common.{◌≡◌, Bool, true, List, [], ◌∷◌, ◌++◌, map, refl, ap, length, ◌≤◌, arith}
use Rattle.std.specs.Prelude.{not, Some}
use Rattle.std.specs.List.{list_all, flat_map, AllByRecursion}
use Rattle.std.specs.declared.cmp.Ordering.{Ordering}
use Rattle.std.specs.declared.cmp.Ordering.TheVariants.{Less, Equal, Greater}
use Rattle.std.specs.Ordering.{is_lt, ordering_reverse}
use Rattle.std.specs.Cmp.{IsTotalOrder, nat_cmp_total, on_total, then_total}
use Rattle.std.proofs.lemmas.Bool.{and_parts, and_from, eq-eqb}
use Rattle.qg_num.specs.Key.{key_cmp}
use Rattle.qg_num.specs.declared.key.Key.{Key}
use Rattle.qg_node.specs.declared.node.Node.{Node}
use Rattle.qg_node.specs.Nodes.{own_keys, ascends_from, is_ascending}
use Rattle.qg_image.specs.IsShaped.{same_key, is_first}
use Rattle.qg_image.specs.Walk.{begins_at, ends_before}
use Rattle.qg_tree_layout.specs.Row.{first_key}

pub key_cmp_total : IsTotalOrder key_cmp
key_cmp_total = then_total (on_total (λ (key : Key). key.objectid) nat_cmp_total)
    (then_total (on_total (λ (key : Key). key.kind) nat_cmp_total) (on_total (λ (key : Key). key.offset) nat_cmp_total))

is_less : (answer : Ordering) → is_lt answer ≡ true → answer ≡ Less
is_less Less h = refl
is_less Equal h = absurd cc
is_less Greater h = absurd cc

reversed : (a b : Ordering) → a ≡ ordering_reverse b → is_lt b ≡ true → not (is_lt a) ≡ true
reversed a Less e h = ap (λ (o : Ordering). not (is_lt o)) e
reversed a Equal e h = absurd cc
reversed a Greater e h = absurd cc

own_reverse : (a : Ordering) → a ≡ ordering_reverse a → not (is_lt a) ≡ true
own_reverse Less e = absurd cc
own_reverse Equal e = refl
own_reverse Greater e = refl

pub less_trans : (a b c : Key) → is_lt (key_cmp a b) ≡ true → is_lt (key_cmp b c) ≡ true → is_lt (key_cmp a c) ≡ true
less_trans a b c h k = ap is_lt (key_cmp_total.trans a b c (is_less (key_cmp a b) h) (is_less (key_cmp b c) k))

pub not_less : (a b : Key) → is_lt (key_cmp a b) ≡ true → not (is_lt (key_cmp b a)) ≡ true
not_less a b h = reversed (key_cmp b a) (key_cmp a b) (key_cmp_total.antisymm b a) h

same_itself : (key : Key) → same_key key key ≡ true
same_itself key = and_from _ _ (and_from _ _ (eq-eqb key.objectid key.objectid refl) (eq-eqb key.kind key.kind refl))
    (eq-eqb key.offset key.offset refl)

-- ---- parts of what ascends

pub lower : (low before : Key) (keys : List Key) → is_lt (key_cmp low before) ≡ true → ascends_from before keys ≡ true
    → ascends_from low keys ≡ true
unfolding ascends_from
lower low before [] h k = refl
lower low before (key ∷ keys) h k =
    let parts = and_parts (is_lt (key_cmp before key)) (ascends_from key keys) k in
    and_from (is_lt (key_cmp low key)) (ascends_from key keys) (less_trans low before key h parts.0) parts.1

pub skip : (before : Key) (front back : List Key) → ascends_from before (front ++ back) ≡ true
    → ascends_from before back ≡ true
unfolding ascends_from
skip before [] back h = h
skip before (key ∷ front) back h =
    let parts = and_parts (is_lt (key_cmp before key)) (ascends_from key (front ++ back)) h in
    lower before key back parts.0 (skip key front back parts.1)

pub ascends_front : (before : Key) (front back : List Key) → ascends_from before (front ++ back) ≡ true
    → ascends_from before front ≡ true
unfolding ascends_from
ascends_front before [] back h = refl
ascends_front before (key ∷ front) back h =
    let parts = and_parts (is_lt (key_cmp before key)) (ascends_from key (front ++ back)) h in
    and_from (is_lt (key_cmp before key)) (ascends_from key front) parts.0 (ascends_front key front back parts.1)

ascends_alone : (before : Key) (keys : List Key) → ascends_from before keys ≡ true → is_ascending keys ≡ true
unfolding ascends_from is_ascending
ascends_alone before [] h = refl
ascends_alone before (key ∷ keys) h = (and_parts (is_lt (key_cmp before key)) (ascends_from key keys) h).1

pub ascending_front : (front back : List Key) → is_ascending (front ++ back) ≡ true → is_ascending front ≡ true
unfolding is_ascending
ascending_front [] back h = refl
ascending_front (key ∷ front) back h = ascends_front key front back h

pub ascending_back : (front back : List Key) → is_ascending (front ++ back) ≡ true → is_ascending back ≡ true
unfolding is_ascending
ascending_back [] back h = h
ascending_back (key ∷ front) back h = ascends_alone key back (skip key front back h)

-- ---- what a walk asks of keys

passes_after : (test : Key → Bool) (low : Key) → ((key : Key) → is_lt (key_cmp low key) ≡ true → test key ≡ true)
    → (keys : List Key) → ascends_from low keys ≡ true → list_all test keys ≡ true
unfolding ascends_from
passes_after test low each [] h = refl
passes_after test low each (key ∷ keys) h =
    let parts = and_parts (is_lt (key_cmp low key)) (ascends_from key keys) h in
    and_from (test key) (list_all test keys) (each key parts.0)
    (passes_after test low each keys (lower low key keys parts.0 parts.1))

pub begins_itself : (keys : List Key) → 1 ≤ length keys → is_ascending keys ≡ true
    → begins_at (Some (first_key keys)) keys ≡ true
unfolding is_ascending
begins_itself [] some h = absurd (omega arith)
begins_itself (key ∷ keys) some h =
    and_from (same_key key key) (list_all (λ later. not (is_lt (key_cmp later key))) keys) (same_itself key)
    (passes_after (λ later. not (is_lt (key_cmp later key))) key (λ later less. not_less key later less) keys h)

pub first_itself : (keys : List Key) → 1 ≤ length keys → is_first (first_key keys) keys ≡ true
first_itself [] some = absurd (omega arith)
first_itself (key ∷ keys) some = same_itself key

ends_from : (before : Key) (front : List Key) (to : Key) (back : List Key)
    → ascends_from before (front ++ to ∷ back) ≡ true
    → (is_lt (key_cmp before to) ≡ true) × (list_all (λ key. is_lt (key_cmp key to)) front ≡ true)
unfolding ascends_from
ends_from before [] to back h = ((and_parts (is_lt (key_cmp before to)) (ascends_from to back) h).0, refl)
ends_from before (key ∷ front) to back h =
    let parts = and_parts (is_lt (key_cmp before key)) (ascends_from key (front ++ to ∷ back)) h in
    let rest = ends_from key front to back parts.1 in (
      less_trans before key to parts.0 rest.0,
      and_from (is_lt (key_cmp key to))
          (list_all (λ key. is_lt (key_cmp key to)) front) rest.0 rest.1,
    )

pub ends_there : (front : List Key) (to : Key) (back : List Key) → is_ascending (front ++ to ∷ back) ≡ true
    → ends_before (Some to) front ≡ true
unfolding is_ascending
ends_there [] to back h = refl
ends_there (key ∷ front) to back h =
    let rest = ends_from key front to back h in
    and_from (is_lt (key_cmp key to)) (list_all (λ key. is_lt (key_cmp key to)) front) rest.0 rest.1

-- ---- first keys

abbrev pub HasKeys : Node → Type 0
HasKeys node = 1 ≤ length (own_keys node)

firsts_from : (before : Key) (row : List Node) → AllByRecursion HasKeys row
    → ascends_from before (flat_map own_keys row) ≡ true
    → ascends_from before (map (λ node. first_key (own_keys node)) row) ≡ true
unfolding ascends_from
firsts_from before [] some h = refl
firsts_from before (node ∷ row) some h = cases (own_keys node) refl some.0 (λ key. firsts_from key row some.1) h where
  cases : (keys : List Key) → own_keys node ≡ keys → 1 ≤ length keys
      → ((key : Key) → ascends_from key (flat_map own_keys row) ≡ true
      → ascends_from key (map (λ node. first_key (own_keys node)) row) ≡ true)
      → ascends_from before (keys ++ flat_map own_keys row) ≡ true
      → ascends_from before (first_key (own_keys node) ∷ map (λ node. first_key (own_keys node)) row) ≡ true
  cases [] e one later k = absurd (omega arith)
  cases (key ∷ keys) e one later k =
      let parts = and_parts (is_lt (key_cmp before key)) (ascends_from key (keys ++ flat_map own_keys row)) k in
      rw e (and_from (is_lt (key_cmp before key)) (ascends_from key (map (λ node. first_key (own_keys node)) row))
      parts.0 (later key (skip key keys (flat_map own_keys row) parts.1)))

pub firsts_ascend : (row : List Node) → AllByRecursion HasKeys row → is_ascending (flat_map own_keys row) ≡ true
    → is_ascending (map (λ node. first_key (own_keys node)) row) ≡ true
unfolding is_ascending
firsts_ascend [] some h = refl
firsts_ascend (node ∷ row) some h = cases (own_keys node) refl some.0 h where
  cases : (keys : List Key) → own_keys node ≡ keys → 1 ≤ length keys
      → is_ascending (keys ++ flat_map own_keys row) ≡ true
      → ascends_from (first_key (own_keys node)) (map (λ node. first_key (own_keys node)) row) ≡ true
  cases [] e one k = absurd (omega arith)
  cases (key ∷ keys) e one k = rw e (firsts_from key row some.1 (skip key keys (flat_map own_keys row) k))
