-- The order of names doesn't matter.
use Rattle.std.proofs.Common.{◌≡◌, ℕ, ◌+◌, List, [], ◌∷◌, ◌++◌, get_or, map, arith, sym, ap, subst, ◌∙◌, inl, inr}
use Rattle.std.specs.Prelude.{Contains}
use Rattle.std.specs.List.{sum_by}
use Rattle.std.specs.List.Sorted.{IsPermutation}
use Rattle.std.proofs.lemmas.List.Elements.{All-contains, All-contains_itself, Contains-append_cases}
use Rattle.std.proofs.lemmas.List.Elements.{Contains-append_left, Contains-append_right}
use Rattle.std.proofs.lemmas.List.Sorted.{All-permutation, IsPermutation-map, IsPermutation-sym, sum_by-IsPermutation}
use Rattle.std.proofs.lemmas.List.Sums.{sum_by-cons}
use Rattle.qg_num.specs.declared.piece.Piece.{Piece}
use Rattle.qg_items.specs.declared.extent.Reference.{Reference}
use Rattle.qg_image.specs.Owed.{Owing}
use Rattle.qg_image.specs.Reach.{extent_of}
use Rattle.qg_extents.specs.Table.{book_of}
use Rattle.qg_tree_backrefs.specs.Exchange.{times}
use Rattle.qg_tree_backrefs.proofs.Times.{times-nil}
use Rattle.qg_fs_tree.specs.Standing.{IsKnownExtent, name_of, names_elsewhere, names_times}
use Rattle.qg_fs_tree.proofs.Before.{among_of, index_among}
use Rattle.qg_fs_tree.proofs.Lists.{from-mapped, has-mapped}
use Rattle.qg_fs_tree.specs.Laws.{StandsInAnotherOrder}
use Rattle.qg_tree_backrefs.proofs.Owings.{times-cons}

-- how often a list has a reference, one by one
times_each : (xs : List Owing) (at : ℕ) (reference : Reference) → times xs at reference
    ≡ sum_by (λ x. times (x ∷ []) at reference) xs
times_each [] at reference = times-nil at reference
times_each (x ∷ xs) at reference =
    times-cons x xs at reference
    ∙ ap (λ (n : ℕ). times (x ∷ []) at reference + n) (times_each xs at reference)
    ∙ sym (sum_by-cons (λ (y : Owing). times (y ∷ []) at reference) x xs)

names_same : (owner : ℕ) (names others : List (ℕ × Piece)) → IsPermutation names others
    → (at : ℕ) (reference : Reference)
    → names_times owner others at reference ≡ names_times owner names at reference
names_same owner names others same at reference =
    times_each (map (name_of owner) others) at reference
    ∙ sum_by-IsPermutation (λ (x : Owing). times (x ∷ []) at reference) (map (name_of owner) names)
    (map (name_of owner) others)
    (IsPermutation-map (name_of owner) names others same)
    ∙ sym (times_each (map (name_of owner) names) at reference)

pub contained : {A : Type 0} (xs ys : List A) (x : A) → IsPermutation xs ys → Contains ys x → Contains xs x
contained {A} xs ys x same has =
    All-contains (λ (y : A). Contains xs y) ys x
    (All-permutation (λ (y : A). Contains xs y) xs ys same (All-contains_itself xs)) has

-- the same beside others
kept_beside : {A : Type 0} (xs ys zs : List A) (x : A) → IsPermutation xs ys → Contains (ys ++ zs) x
    → Contains (xs ++ zs) x
kept_beside xs ys zs x same has = elim (Contains-append_cases ys zs x has) [
  | inl own ↦ Contains-append_left xs zs x (contained xs ys x same own)
  | inr later ↦ Contains-append_right xs zs x later
]

-- what is made of one list is made of another that has all of it
pub made_of : {A B : Type 0} (f : A → B) (xs ys : List A) (y : B) → ((x : A) → Contains xs x → Contains ys x)
    → Contains (map f xs) y
    → Contains (map f ys) y
made_of {A} {B} f xs ys y all has =
    let found = from-mapped f xs y has in
    subst (λ (z : B). Contains (map f ys) z) found.2 (has-mapped f ys found.0 (all found.0 found.1))

pub stands-ordered : StandsInAnotherOrder
stands-ordered fs history items names others same stands = record {
  book = stands.book;
  rooted = stands.rooted;
  ascending = stands.ascending;
  beside = stands.beside;
  placed = stands.placed;
  home = stands.home;
  young = stands.young;
  fits = stands.fits;
  counts = λ at reference.
      let count = stands.counts at reference in
      let alike = names_same fs.tree.owner names others same at reference in
      omega (arith, count, alike);
  within = λ at reference.
      let most = stands.within at reference in
      let alike = names_same fs.tree.owner names others same at reference in
      omega (arith, most, alike);
  few = λ at reference.
      let most = stands.few at reference in
      let alike = names_same fs.tree.owner names others same at reference in
      omega (arith, most, alike);
  settled = stands.settled;
  known = λ i d inside.
      let elsewhere = names_elsewhere fs history in
      among_of (λ (name : ℕ × Piece). IsKnownExtent fs.land.space.sizes fs.tree.next (book_of fs.refs.refs) name.1)
      (names ++ elsewhere) stands.known (get_or (others ++ elsewhere) i d)
      (kept_beside names others elsewhere (get_or (others ++ elsewhere) i d) same
      (index_among (others ++ elsewhere) i d inside));
  runs = λ run.
      let elsewhere = names_elsewhere fs history in
      let back = IsPermutation-sym names others same in (
        λ has. made_of (λ (name : ℕ × Piece). extent_of name.1) (names ++ elsewhere) (others ++ elsewhere) run
            (λ name there. kept_beside others names elsewhere name back there) ((stands.runs run).0 has),
        λ has. (stands.runs run).1 (made_of (λ (name : ℕ × Piece). extent_of name.1) (others ++ elsewhere)
            (names ++ elsewhere) run (λ name there. kept_beside names others elsewhere name same there) has),
      );
}
