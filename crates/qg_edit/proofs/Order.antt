-- When keys ascend from one list on to another.
use Rattle.std.proofs.Common.{◌≡◌, ℕ, ◌-◌, ◌≤◌, true, false, List, [], ◌∷◌, ◌++◌, map, length, refl, sym, ap, ◌∙◌}
use Rattle.std.proofs.Common.{arith, take, drop, get_or, Some}
use Rattle.std.specs.Prelude.{Bool, slice_get}
use Rattle.std.specs.List.{list_all}
use Rattle.std.specs.Ordering.{is_lt}
use Rattle.std.specs.Option.{option_map}
use Rattle.std.proofs.lemmas.Bool.{false_from_ne_true, true≢false}
use Rattle.std.proofs.lemmas.List.{append_assoc, drop-map, length-map, map-append, take-append-drop, take-map}
use Rattle.std.proofs.lemmas.Option.{slice_get_read, slice_get-map}
use Rattle.qg_num.specs.declared.key.Key.{Key}
use Rattle.qg_num.specs.Key.{key_cmp}
use Rattle.qg_node.specs.declared.pointer.Pointer.{Pointer}
use Rattle.qg_node.specs.Nodes.{is_ascending}
use Rattle.qg_shape.proofs.Ascending.{all_before, ascending_back, ascending_front, ascending_together}
use Rattle.qg_walk.proofs.KeyRanges.{ends_before-last}

-- ---- two lists

-- keys ascend from the last of one list to the first of another
pub joined-keys : (front back : List Key) (last first : Key) → is_ascending front ≡ true → is_ascending back ≡ true
    → slice_get front (length front - 1) ≡ Some last → slice_get back 0 ≡ Some first
    → is_lt (key_cmp last first) ≡ is_ascending (front ++ back)
joined-keys front [] last first ascends behind there begins = absurd cc
joined-keys front (key ∷ back) last first ascends behind there begins =
    let same : key ≡ first = cc in
    let all : list_all (λ other. is_lt (key_cmp other key)) front ≡ is_lt (key_cmp last first) =
    ends_before-last key last front ascends there ∙ ap (λ (k : Key). is_lt (key_cmp last k)) same in
    both (is_lt (key_cmp last first)) refl all where
      both : (b : Bool) → is_lt (key_cmp last first) ≡ b
          → list_all (λ other. is_lt (key_cmp other key)) front ≡ is_lt (key_cmp last first)
          → is_lt (key_cmp last first) ≡ is_ascending (front ++ key ∷ back)
      both true is all = is ∙ sym (ascending_together front (key ∷ back) ascends behind (λ some. all ∙ is))
      both false is all = is ∙ sym (false_from_ne_true (is_ascending (front ++ key ∷ back))
          (λ whole. true≢false (sym (all_before front key back whole) ∙ all ∙ is)))

-- the same of what has keys
pub joined-lists : {A : Type 0} (key_of : A → Key) (front back : List A) (last first : A)
    → is_ascending (map key_of front) ≡ true → is_ascending (map key_of back) ≡ true
    → 1 ≤ length front → 1 ≤ length back → last ≡ get_or front (length front - 1) last → first ≡ get_or back 0 first
    → is_lt (key_cmp (key_of last) (key_of first)) ≡ is_ascending (map key_of front ++ map key_of back)
joined-lists {A} key_of front back last first ascends behind some others there begins =
    let at : slice_get front (length front - 1) ≡ Some last =
    slice_get_read front (length front) (length front - 1) last refl (omega (arith, some)) there in
    let from : slice_get back 0 ≡ Some first =
    slice_get_read back (length back) 0 first refl (omega (arith, others)) begins in
    let same : length (map key_of front) - 1 ≡ length front - 1 = ap (λ (n : ℕ). n - 1) (length-map front key_of) in
    joined-keys (map key_of front) (map key_of back) (key_of last) (key_of first) ascends behind
    (ap (slice_get (map key_of front)) same ∙ slice_get-map key_of front (length front - 1) ∙ ap (option_map key_of) at)
    (slice_get-map key_of back 0 ∙ ap (option_map key_of) from)

-- ---- three lists of pointers

abbrev pub keys_to : List Pointer → List Key
keys_to pointers = map (λ pointer. pointer.key) pointers

keys_of_three : (front new back : List Pointer) → keys_to (front ++ new ++ back) ≡ (keys_to front ++ keys_to new)
    ++ keys_to back
keys_of_three front new back = map-append (λ (p : Pointer). p.key) (front ++ new) back
    ∙ ap (λ (ks : List Key). ks ++ keys_to back) (map-append (λ (p : Pointer). p.key) front new)

-- where keys ascend in the middle, and from it on to both sides, they ascend in all
pub three-ascend : (front new back : List Pointer) → 1 ≤ length new → is_ascending (keys_to front ++ keys_to new) ≡ true
    → is_ascending (keys_to new ++ keys_to back) ≡ true
    → is_ascending (keys_to (front ++ new ++ back)) ≡ true
three-ascend front [] back some first later = absurd (omega (arith, some))
three-ascend front (pointer ∷ new) back some first later =
    ap is_ascending (keys_of_three front (pointer ∷ new) back ∙ append_assoc (keys_to front) (keys_to (pointer ∷ new))
    (keys_to back))
    ∙ ascending_together (keys_to front) (keys_to (pointer ∷ new) ++ keys_to back)
    (ascending_front (keys_to front) (keys_to (pointer ∷ new)) first) later
    (λ more. all_before (keys_to front) pointer.key (keys_to new) first)

-- and the other way round
pub three-front : (front new back : List Pointer) → is_ascending (keys_to (front ++ new ++ back)) ≡ true
    → is_ascending (keys_to front ++ keys_to new) ≡ true
three-front front new back all = ascending_front (keys_to front ++ keys_to new) (keys_to back)
    (sym (ap is_ascending (keys_of_three front new back)) ∙ all)

pub three-back : (front new back : List Pointer) → is_ascending (keys_to (front ++ new ++ back)) ≡ true
    → is_ascending (keys_to new ++ keys_to back) ≡ true
three-back front new back all =
    ascending_back (keys_to front) (keys_to new ++ keys_to back)
    (sym (ap is_ascending (keys_of_three front new back ∙ append_assoc (keys_to front) (keys_to new) (keys_to back)))
    ∙ all)

pub three-middle : (front new back : List Pointer) → is_ascending (keys_to (front ++ new ++ back)) ≡ true
    → is_ascending (keys_to new) ≡ true
three-middle front new back all = ascending_back (keys_to front) (keys_to new) (three-front front new back all)

-- ---- parts of a list

pub front-ascends : (pointers : List Pointer) (n : ℕ) → is_ascending (keys_to pointers) ≡ true
    → is_ascending (keys_to (take n pointers)) ≡ true
front-ascends pointers n ascends =
    ap is_ascending (sym (take-map (λ (p : Pointer). p.key) n pointers))
    ∙ ascending_front (take n (keys_to pointers)) (drop n (keys_to pointers))
    (ap is_ascending (take-append-drop n (keys_to pointers)) ∙ ascends)

pub back-ascends : (pointers : List Pointer) (n : ℕ) → is_ascending (keys_to pointers) ≡ true
    → is_ascending (keys_to (drop n pointers)) ≡ true
back-ascends pointers n ascends =
    ap is_ascending (sym (drop-map (λ (p : Pointer). p.key) n pointers))
    ∙ ascending_back (take n (keys_to pointers)) (drop n (keys_to pointers))
    (ap is_ascending (take-append-drop n (keys_to pointers)) ∙ ascends)
