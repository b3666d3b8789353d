-- What a book is told of nodes that are put one after another.
use Rattle.std.proofs.Common.{◌≡◌, ℕ, ◌+◌, true, List, [], ◌∷◌, ◌++◌, length, map, append_assoc, arith, refl, sym, ap}
use Rattle.std.proofs.Common.{subst, ◌∙◌, Option}
use Rattle.std.specs.Prelude.{◌==◌}
use Rattle.std.specs.List.{AllByRecursion, IsDistinct}
use Rattle.std.proofs.lemmas.List.Sums.{sum_by-cons}
use Rattle.qg_node.specs.declared.node.Node.{Node}
use Rattle.qg_space.specs.Holding.{is_free_slot}
use Rattle.qg_node_alloc.specs.declared.ground.Ground.{Ground}
use Rattle.qg_node_alloc.specs.Tellings.{Telling}
use Rattle.qg_node_alloc.specs.Tellings.Telling.{Made}
use Rattle.qg_tree_layout.specs.Row.{address_of}
use Rattle.qg_tree_edits.specs.Counting.{IsTold, one}
use Rattle.qg_tree_edits.proofs.PlacedTold.{told-made}
use Rattle.qg_tree_edits.proofs.Turning.{told-append, told-more, told-none}
use Rattle.qg_tree_build.proofs.WaysToNodes.{lying, lying-none}
use Rattle.qg_tree_build.proofs.Slots.{apart-after}

-- the slots of nodes that were put, the first one that was put first
pub slots_laid : List Node → List ℕ
slots_laid [] = []
slots_laid (node ∷ laid) = slots_laid laid ++ (address_of node ∷ [])

made_append : (xs ys : List ℕ) → map Made (xs ++ ys) ≡ map Made xs ++ map Made ys
made_append [] ys = refl
made_append (x ∷ xs) ys = ap (λ (ts : List Telling). Made x ∷ ts) (made_append xs ys)

-- nothing is told yet
pub log-none : (log : List Telling) → log ≡ log ++ map Made (slots_laid [])
unfolding slots_laid
log-none [] = refl
log-none (telling ∷ log) = ap (λ (ts : List Telling). telling ∷ ts) (log-none log)

-- one more is told
pub log-more : (log : List Telling) (node : Node) (laid : List Node)
    → (log ++ map Made (slots_laid laid)) ++ (Made (address_of node) ∷ []) ≡ log ++ map Made (slots_laid (node ∷ laid))
unfolding slots_laid
log-more log node laid =
    append_assoc log (map Made (slots_laid laid)) (Made (address_of node) ∷ [])
    ∙ ap (λ (ts : List Telling). log ++ ts) (sym (made_append (slots_laid laid) (address_of node ∷ [])))

-- it is told in its time, and turns no ways into one way to each node
pub told-laid : (old : Ground) (nodes clean : ℕ → Option Node) (laid : List Node)
    → IsDistinct (λ a b. a == b) (map address_of laid)
    → AllByRecursion (λ node. is_free_slot old.space (address_of node) ≡ true) laid
    → IsTold old nodes clean (λ q. ⊥) (λ q. 0) (lying laid) (length laid) 0 (length laid) (map Made (slots_laid laid))
unfolding slots_laid IsDistinct
told-laid old nodes clean [] apart free = told-none old nodes clean (λ q. ⊥) (λ q. 0) (λ q. 0) (λ q. refl)
told-laid old nodes clean (node ∷ laid) apart free =
    let at = address_of node in
    let early = told-laid old nodes clean laid apart.1 free.1 in
    let none : lying laid at ≡ 0 = lying-none laid at (apart-after [] laid node apart) in
    let later = told-made old nodes clean (λ q. ⊥) (lying laid) (lying (node ∷ laid)) at free.0 none
    (λ q. let sum = sum_by-cons (λ (n : Node). one (address_of n) q) node laid in omega (arith, sum)) in
    let both = told-append old nodes clean (λ q. ⊥) (λ q. 0) (lying laid) (lying (node ∷ laid)) (length laid) 0
    (length laid) 1 0 1 (map Made (slots_laid laid)) (Made at ∷ []) early later in
    let told = subst (λ (ts : List Telling). IsTold old nodes clean (λ q. ⊥) (λ q. 0) (lying (node ∷ laid))
    (length laid + 1) (0 + 0) (length laid + 1) ts) (sym (made_append (slots_laid laid) (at ∷ []))) both in
    told-more old nodes clean (λ q. ⊥) (λ q. 0) (lying (node ∷ laid)) (length laid + 1) (0 + 0) (length laid + 1)
    (length (node ∷ laid)) 0 (length (node ∷ laid)) (map Made (slots_laid laid ++ (at ∷ []))) (omega arith)
    (omega arith) (omega arith) told
