-- What a list gives, one element more.
use Rattle.std.proofs.Common.{◌≡◌, ℕ, ◌+◌, ◌<◌, Bool, true, false, List, [], ◌∷◌, ◌++◌, get_or, length, map, take, ap}
use Rattle.std.proofs.Common.{sym, ◌∙◌}
use Rattle.std.specs.Prelude.{Option}
use Rattle.std.specs.List.{filter, filter_map, list_all}
use Rattle.std.proofs.lemmas.Bool.{and_from}
use Rattle.std.proofs.lemmas.List.{map_more, take_more}
use Rattle.std.proofs.lemmas.List.Elements.{filter-append, filter_map-append}
use Rattle.std.proofs.lemmas.List.Folds.{list_all_at, list_all_more}

pub filter_map-more : {X Y : Type 0} (h : X → Option Y) (xs : List X) (i : ℕ) (x : X) → i < length xs
    → x ≡ get_or xs i x
    → filter_map h (take (i + 1) xs) ≡ filter_map h (take i xs) ++ filter_map h (x ∷ [])
filter_map-more {X} h xs i x inside is =
    ap (filter_map h) (take_more xs i x inside ∙ ap (λ (y : X). take i xs ++ y ∷ []) (sym is))
    ∙ filter_map-append h (take i xs) (x ∷ [])

pub map-next : {X Y : Type 0} (f : X → Y) (xs : List X) (made more : List Y) (i : ℕ) (x : X) (y : Y) → i < length xs
    → x ≡ get_or xs i x → y ≡ f x
    → made ≡ map f (take i xs) → more ≡ made ++ y ∷ [] → more ≡ map f (take (i + 1) xs)
map-next {X} {Y} f xs made more i x y inside is found before put =
    put ∙ ap (λ (list : List Y). list ++ y ∷ []) before
    ∙ ap (λ (one : Y). map f (take i xs) ++ one ∷ []) (found ∙ ap f is) ∙ sym (map_more f xs i x inside)

pub filter-more : {X : Type 0} (p : X → Bool) (xs : List X) (i : ℕ) (x : X) → i < length xs → x ≡ get_or xs i x
    → filter p (take (i + 1) xs) ≡ filter p (take i xs) ++ filter p (x ∷ [])
filter-more {X} p xs i x inside is =
    ap (filter p) (take_more xs i x inside ∙ ap (λ (y : X). take i xs ++ y ∷ []) (sym is))
    ∙ filter-append p (take i xs) (x ∷ [])

-- ---- whether all pass

pub all-more : {X : Type 0} (p : X → Bool) (xs : List X) (i : ℕ) (x : X) → i < length xs → x ≡ get_or xs i x
    → list_all p (take i xs) ≡ true → p x ≡ true
    → list_all p (take (i + 1) xs) ≡ true
all-more p xs i x inside is so_far here =
    list_all_more p xs i x inside ∙ and_from (list_all p (take i xs)) (p (get_or xs i x)) so_far (ap p (sym is) ∙ here)

pub one-fails : {X : Type 0} (p : X → Bool) (xs : List X) (i : ℕ) (x : X) → i < length xs → x ≡ get_or xs i x
    → p x ≡ false → list_all p xs ≡ false
one-fails p xs i x inside is fails = list_all_at p xs i x inside (ap p (sym is) ∙ fails)
