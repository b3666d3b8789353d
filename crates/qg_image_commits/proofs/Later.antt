-- A table is gone through entry by entry: no entry that was seen is of a later generation than this.
use Rattle.std.proofs.Common.{ℕ, ◌≤◌, List, [], ◌∷◌, ◌++◌, map, sym, subst, Bor}
use Rattle.std.specs.Prelude.{All}
use Rattle.std.specs.Map.Iter.{deref_pair}
use Rattle.std.proofs.lemmas.List.{map-append}
use Rattle.std.proofs.lemmas.List.Elements.{All-append, All-cons, All-nil}
use Rattle.qg_refs.specs.declared.kept.Kept.{Kept}

abbrev early : ℕ → ℕ × Kept → Type 0
early generation entry = entry.1.what.generation ≤ generation

pub later-next : (generation : ℕ) (some : List (Bor ℕ × Bor Kept)) (next : Bor ℕ × Bor Kept)
    → All (λ entry. entry.1.what.generation ≤ generation) (map (deref_pair {K = ℕ} {X = Kept}) some)
    → next.1.now.what.generation ≤ generation
    → All (λ entry. entry.1.what.generation ≤ generation) (map (deref_pair {K = ℕ} {X = Kept}) (some ++ next ∷ []))
later-next generation some next seen one =
    subst (All (early generation)) (sym (map-append (deref_pair {K = ℕ} {X = Kept}) some (next ∷ [])))
    (All-append (early generation) (map (deref_pair {K = ℕ} {X = Kept}) some) (deref_pair next ∷ []) seen
    (All-cons (early generation) (deref_pair next) [] one (All-nil (early generation))))
