-- One item of a list, at its index.
use Rattle.std.proofs.Common.{◌≡◌, ℕ, ◌+◌, ◌<◌, List, [], ◌∷◌, ◌++◌, length, get_or, take, drop, sym, ap, ◌∙◌, add-one}
use Rattle.std.proofs.lemmas.List.{take-append-drop, take_more}
use Rattle.std.proofs.Math.Seq.{drop-cons}

pub record IsAt {A : Type 0} (xs : List A) (i : ℕ) (x : A) : Type 0 where
  pub more : take (i + 1) xs ≡ take i xs ++ x ∷ []
  pub rest : drop i xs ≡ x ∷ drop (i + 1) xs
  pub whole : xs ≡ take i xs ++ x ∷ drop (i + 1) xs

pub is-at : {A : Type 0} (xs : List A) (i : ℕ) (x : A) → i < length xs → x ≡ get_or xs i x → IsAt xs i x
is-at {A} xs i x below is =
    let rest : drop i xs ≡ x ∷ drop (i + 1) xs =
    drop-cons xs i x below
    ∙ ap (λ (n : ℕ). get_or xs i x ∷ drop n xs) (sym (add-one i))
    ∙ ap (λ (y : A). y ∷ drop (i + 1) xs) (sym is) in
    record {
      more = take_more xs i x below ∙ ap (λ (y : A). take i xs ++ y ∷ []) (sym is);
      rest = rest;
      whole = sym (take-append-drop i xs) ∙ ap (λ (zs : List A). take i xs ++ zs) rest;
    }
