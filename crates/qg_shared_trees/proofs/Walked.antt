-- What a walk that meets no failure reaches is there.
use Rattle.std.proofs.Common.{◌≡◌, ℕ, zero, suc, ◌-◌, ◌≤◌, List, [], ◌∷◌, Option, Some, None, arith, refl, sym, ap}
use Rattle.std.proofs.Common.{subst, ◌∙◌, inl, inr}
use Rattle.std.specs.Prelude.{slice_get}
use Rattle.qg_num.specs.declared.key.Key.{Key}
use Rattle.qg_node.specs.declared.pointer.Pointer.{Pointer}
use Rattle.qg_node.specs.declared.node.Node.{Node}
use Rattle.qg_node.specs.Nodes.{header_of, own_pointers}
use Rattle.qg_image.specs.declared.expected.Expected.{Expected}
use Rattle.qg_image.specs.declared.failure.Failure.{Failure}
use Rattle.qg_image.specs.Among.{found_there}
use Rattle.qg_image.specs.Walk.{found_failure, pointers_failure, walk_failure}
use Rattle.qg_walk.specs.Standing.{expected_below}
use Rattle.qg_walk.proofs.Failures.{neither}
use Rattle.qg_tree_read.specs.Tree.{Reaches, found_in}

-- no failure under some pointers is none under each
under_one : (walk : Expected → ℕ → Option Failure) (level : ℕ) (to : Option Key) (pointers : List Pointer)
    → pointers_failure walk level to pointers ≡ None → (place : ℕ) (pointer : Pointer)
    → slice_get pointers place ≡ Some pointer → (expected : Expected) × (walk expected pointer.child ≡ None)
under_one walk level to [] none place pointer there = absurd cc
under_one walk level to (first ∷ pointers) none zero pointer there =
    let parts = neither (walk (expected_below level to first pointers) first.child)
    (pointers_failure walk level to pointers) none in
    let same : first ≡ pointer = cc in (
      expected_below level to first pointers,
      sym (ap (λ (p : Pointer). walk (expected_below level to first pointers) p.child) same) ∙ parts.0,
    )
under_one walk level to (first ∷ pointers) none (suc place) pointer there =
    let parts = neither (walk (expected_below level to first pointers) first.child)
    (pointers_failure walk level to pointers) none in
    under_one walk level to pointers parts.1 place pointer there

module _ (judge : Expected → ℕ → Node → Option Failure) where
  found_some : (walk : Expected → ℕ → Option Failure) (expected : Expected) (address : ℕ) (o : Option Node)
      → found_failure judge walk expected address (found_there o address) ≡ None → (node : Node) × (o ≡ Some node)
  found_some walk expected address None none = absurd cc
  found_some walk expected address (Some node) none = (node, refl)

  found_under : (walk : Expected → ℕ → Option Failure) (expected : Expected) (address : ℕ) (o : Option Node)
      → found_failure judge walk expected address (found_there o address) ≡ None → (node : Node) → o ≡ Some node
      → (place : ℕ) (pointer : Pointer) → slice_get (own_pointers node) place ≡ Some pointer
      → (below : Expected) × (walk below pointer.child ≡ None)
  found_under walk expected address None none node is place pointer there = absurd cc
  found_under walk expected address (Some other) none node is place pointer there =
      let same : other ≡ node = cc in
      let parts = neither (judge expected address other)
      (pointers_failure walk ((header_of other).level - 1) expected.to (own_pointers other)) none in
      under_one walk ((header_of other).level - 1) expected.to (own_pointers other) parts.1 place pointer
      (subst (λ (n : Node). slice_get (own_pointers n) place ≡ Some pointer) (sym same) there)

  -- a node is told wherever a walk comes that meets no failure
  pub walked-found : (nodes : ℕ → Option Node) (depth : ℕ) (expected : Expected) (address : ℕ)
      → walk_failure judge (found_in nodes) depth expected address ≡ None
      → (q : ℕ) → Reaches nodes depth address q → (node : Node) × (nodes q ≡ Some node)
  unfolding walk_failure Reaches
  walked-found nodes zero expected address none q here =
      let found = found_some (λ expected address. None) expected address (nodes address) none in
      (found.0, ap nodes here ∙ found.1)
  walked-found nodes (suc depth) expected address none q (inl here) =
      let found = found_some (walk_failure judge (found_in nodes) depth) expected address (nodes address) none in
      (found.0, ap nodes here ∙ found.1)
  walked-found nodes (suc depth) expected address none q (inr (node, is, place, pointer, there, below)) =
      let under = found_under (walk_failure judge (found_in nodes) depth) expected address (nodes address) none node is
      place pointer there in
      walked-found nodes depth under.0 pointer.child under.1 q below

-- what is reached from a level is reached from a higher one
pub reaches-deeper : (nodes : ℕ → Option Node) (level depth from q : ℕ) → level ≤ depth → Reaches nodes level from q
    → Reaches nodes depth from q
unfolding Reaches
reaches-deeper nodes zero zero from q low here = here
reaches-deeper nodes zero (suc depth) from q low here = inl here
reaches-deeper nodes (suc level) zero from q low reaches = absurd (omega (arith, low))
reaches-deeper nodes (suc level) (suc depth) from q low (inl here) = inl here
reaches-deeper nodes (suc level) (suc depth) from q low (inr (node, is, place, pointer, there, below)) =
    inr (node, is, place, pointer, there, reaches-deeper nodes level depth pointer.child q (omega (arith, low)) below)
