-- Numbers that differ.
use Rattle.std.proofs.Common.{◌≡◌, ℕ, ◌<◌, false, List, [], ◌∷◌, ◌++◌, map, length, get_or, eqb, sym, ◌∙◌, inl}
use Rattle.std.proofs.Common.{inr}
use Rattle.std.specs.List.{Contains, IsDistinct}
use Rattle.std.proofs.lemmas.Bool.{eq-eqb, ne_eqb, true≢false}
use Rattle.std.proofs.lemmas.List.Elements.{All-contains, All-from_recursion, Contains-append_cases, Contains-get_or}
use Rattle.std.proofs.lemmas.List.Elements.{recursion_from_All}
use Rattle.std.proofs.lemmas.Map.Keys.{IsDistinct-cons, IsDistinct-head, IsDistinct-tail}
use Rattle.qg_image.proofs.Contained.{contains_here, contains_later}
use Rattle.qg_reach.proofs.Members.{contains_map, one_mapped}

pub distinct_none : IsDistinct eqb []
unfolding IsDistinct
distinct_none = tt

pub distinct_with : (n : ℕ) (ns : List ℕ) → ((m : ℕ) → Contains ns m → n ≡ m → ⊥) → IsDistinct eqb ns
    → IsDistinct eqb (n ∷ ns)
distinct_with n ns other distinct = IsDistinct-cons eqb n ns (recursion_from_All (λ m. eqb n m ≡ false) ns each)
    distinct where
      each : (k : ℕ) (d : ℕ) → k < length ns → eqb n (get_or ns k d) ≡ false
      each k d short = ne_eqb n (get_or ns k d) (other (get_or ns k d) (Contains-get_or ns k d short))

distinct_first : (n : ℕ) (ns : List ℕ) (m : ℕ) → IsDistinct eqb (n ∷ ns) → Contains ns m → n ≡ m → ⊥
distinct_first n ns m distinct has same =
    let differ = All-contains (λ m. eqb n m ≡ false) ns m (All-from_recursion (λ m. eqb n m ≡ false) ns
    (IsDistinct-head eqb n ns distinct)) has in
    true≢false (sym (eq-eqb n m same) ∙ differ)

module _ {X : Type 0} (number : X → ℕ) where
  -- those of two lists differ where those of each do, and none of one is one of the other
  pub distinct_both : (xs ys : List X) → IsDistinct eqb (map number xs) → IsDistinct eqb (map number ys)
      → ((x y : X) → Contains xs x → Contains ys y → number x ≡ number y → ⊥) → IsDistinct eqb (map number (xs ++ ys))
  distinct_both [] ys front back apart = back
  distinct_both (x ∷ xs) ys front back apart =
      distinct_with (number x) (map number (xs ++ ys)) other
      (distinct_both xs ys (IsDistinct-tail eqb (number x) (map number xs) front) back
      (λ z y has has'. apart z y (contains_later x xs z has) has'))
    where
      other : (m : ℕ) → Contains (map number (xs ++ ys)) m → number x ≡ m → ⊥
      other m has same =
          let one = one_mapped number (xs ++ ys) m has in
          elim (Contains-append_cases xs ys one.0 one.1) [
            | inl early ↦ distinct_first (number x) (map number xs) (number one.0) front
                (contains_map number xs one.0 early) (same ∙ sym one.2)
            | inr late ↦ apart x one.0 (contains_here x xs) late (same ∙ sym one.2)
          ]
