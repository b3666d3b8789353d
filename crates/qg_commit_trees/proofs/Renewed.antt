-- Trees that were made anew in place.
use Rattle.std.proofs.Common.{◌≡◌, ℕ, ◌+◌, List, ◌++◌, length, map, take, drop, sym, ap, ◌∙◌}
use Rattle.std.proofs.Math.Seq.{take-append_seam}
use Rattle.std.proofs.lemmas.List.{length-map}
use Rattle.qg_tree_read.specs.Tree.{Root}
use Rattle.qg_shared_trees.specs.Types.{FsTree}
use Rattle.qg_commit_trees.specs.Committing.{for_generation}

-- the list of all that was lent, as it is behind a change of its elements
whole_list : {A : Type 0} (n : ℕ) (xs ys : List A) → length xs ≡ n → take n (xs ++ ys) ≡ xs
whole_list {A} n xs ys long = ap (λ (k : ℕ). take k (xs ++ ys)) (sym long) ∙ take-append_seam xs ys

pub others-renewed : (old : FsTree) (n next : ℕ) (lent made : List Root) → lent ≡ old.others.items → length lent ≡ n
    → made ≡ map (for_generation next) lent → next ≡ old.tree.next + 1
    → take n (made ++ drop (length made) old.others.items)
    ≡ map (for_generation (old.tree.next + 1)) old.others.items
others-renewed old n next lent made lent_is long made_is next_is =
    whole_list n made (drop (length made) old.others.items)
    (ap (λ (trees : List Root). length trees) made_is ∙ length-map lent (for_generation next) ∙ long)
    ∙ made_is
    ∙ ap (λ (trees : List Root). map (for_generation next) trees) lent_is
    ∙ ap (λ (k : ℕ). map (for_generation k) old.others.items) next_is
