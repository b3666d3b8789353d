-- What nodes use, in bytes, and how it adds up.
use Rattle.std.proofs.Common.{◌≡◌, ℕ, ◌+◌, ◌*◌, List, [], ◌∷◌, length, length-append, ◌∙◌, arith}
use Rattle.std.specs.List.{sum_by}
use Rattle.std.proofs.lemmas.List.Sums.{sum_by-append, sum_by-cons}
use Rattle.qg_node.specs.declared.node.Node.{Node}
use Rattle.qg_node.specs.declared.node.Node.TheVariants.{Leaf, Inner}
use Rattle.qg_node.specs.Nodes.{item_bytes, used_bytes}
use Rattle.qg_shape.specs.Parts.{AreAlike, whole_of}

pub sum_by-same : {A : Type 0} (n : ℕ) (xs : List A) → sum_by (λ _. n) xs ≡ n * length xs
sum_by-same n [] = omega arith
sum_by-same n (x ∷ xs) = sum_by-cons (λ _. n) x xs ∙ rw (sum_by-same n xs) (omega arith)

-- the items or pointers of two nodes use what both use
pub used_bytes-whole_of : (left right : Node) → AreAlike left right
    → used_bytes (whole_of left right) ≡ used_bytes left + used_bytes right
used_bytes-whole_of (Leaf header items) (Leaf header' others) alike = sum_by-append item_bytes items others
used_bytes-whole_of (Leaf header items) (Inner header' pointers) alike = absurd alike
used_bytes-whole_of (Inner header pointers) (Leaf header' items) alike = absurd alike
used_bytes-whole_of (Inner header pointers) (Inner header' others) alike =
    rw (length-append pointers others) (omega arith)
