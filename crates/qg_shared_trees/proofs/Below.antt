-- What a tree reaches, step by step: where a walk meets no failure, a node's children are reached with it.
use Rattle.std.proofs.Common.{◌≡◌, ℕ, zero, suc, ◌-◌, ◌≤◌, Bool, true, List, [], ◌∷◌, Option, Some, None, arith, refl}
use Rattle.std.proofs.Common.{sym, ap, subst, ◌∙◌, ◌⊎◌, inl, inr}
use Rattle.std.specs.Prelude.{Ok, ◌==◌, slice_get}
use Rattle.std.specs.List.{flat_map, list_any}
use Rattle.std.proofs.lemmas.Bool.{false≢true, or_cases, or_left, or_right}
use Rattle.std.proofs.lemmas.List.Folds.{list_any-append}
use Rattle.qg_num.specs.declared.key.Key.{Key}
use Rattle.qg_node.specs.declared.pointer.Pointer.{Pointer}
use Rattle.qg_node.specs.declared.node.Node.{Node}
use Rattle.qg_node.specs.declared.node.Node.TheVariants.{Leaf, Inner}
use Rattle.qg_node.specs.Nodes.{header_of, own_pointers}
use Rattle.qg_node.specs.NodeText.{IsLevelled}
use Rattle.qg_super.specs.declared.superblock.Super.{Super}
use Rattle.qg_image.specs.declared.element.Element.{Element}
use Rattle.qg_image.specs.Reach.{is_among, level_of, own_elements, pointers_at, reach_under}
use Rattle.qg_image.specs.declared.expected.Expected.{Expected}
use Rattle.qg_image.specs.declared.failure.Failure.{Failure}
use Rattle.qg_image.specs.declared.tree.TreeKind.TheVariants.{Files}
use Rattle.qg_image.specs.Among.{found_there}
use Rattle.qg_image.specs.Walk.{found_failure, node_failure, pointers_failure, walk_failure}
use Rattle.qg_walk.specs.Standing.{expected_below}
use Rattle.qg_walk.proofs.Failures.{neither, walk-passed}
use Rattle.qg_tree_read.specs.Tree.{Reaches, found_in}
use Rattle.qg_tree_read.proofs.BranchFrames.{reach-top}
use Rattle.qg_tree_read.proofs.Under.{level-told}

-- no failure under some pointers is none under each, where this level is expected
one_under : (walk : Expected → ℕ → Option Failure) (level : ℕ) (to : Option Key) (pointers : List Pointer)
    → pointers_failure walk level to pointers ≡ None → (place : ℕ) (pointer : Pointer)
    → slice_get pointers place ≡ Some pointer
    → (expected : Expected) × (expected.level ≡ Some level) × (walk expected pointer.child ≡ None)
one_under walk level to [] none place pointer there = absurd cc
one_under walk level to (first ∷ pointers) none zero pointer there =
    let parts = neither (walk (expected_below level to first pointers) first.child)
    (pointers_failure walk level to pointers) none in
    let same : first ≡ pointer = cc in (
      expected_below level to first pointers,
      refl,
      sym (ap (λ (p : Pointer). walk (expected_below level to first pointers) p.child) same) ∙ parts.0,
    )
one_under walk level to (first ∷ pointers) none (suc place) pointer there =
    let parts = neither (walk (expected_below level to first pointers) first.child)
    (pointers_failure walk level to pointers) none in
    one_under walk level to pointers parts.1 place pointer there

-- a node of level 0 leads to nothing
bottom_leads : (node : Node) → IsLevelled node → (header_of node).level ≡ 0 → (place : ℕ) (pointer : Pointer)
    → slice_get (own_pointers node) place ≡ Some pointer → ⊥
bottom_leads (Leaf header items) levelled low place pointer there = cc
bottom_leads (Inner header pointers) levelled low place pointer there =
    let high = levelled.0 in omega (arith, low, high)

found_some : (o : Option Node) (at : ℕ) (node : Node) → found_there o at ≡ Ok node → o ≡ Some node
found_some None at node is = absurd cc
found_some (Some other) at node is = cc

module _ (super : Super) (nodes : ℕ → Option Node) where
  found_under : (walk : Expected → ℕ → Option Failure) (expected : Expected) (address : ℕ) (o : Option Node)
      → found_failure (node_failure Files super) walk expected address (found_there o address) ≡ None → (node : Node)
      → o ≡ Some node → (place : ℕ) (pointer : Pointer) → slice_get (own_pointers node) place ≡ Some pointer
      → (below : Expected) × (below.level ≡ Some ((header_of node).level - 1)) × (walk below pointer.child ≡ None)
  found_under walk expected address None none node is place pointer there = absurd cc
  found_under walk expected address (Some other) none node is place pointer there =
      let same : other ≡ node = cc in
      let parts = neither (node_failure Files super expected address other)
      (pointers_failure walk ((header_of other).level - 1) expected.to (own_pointers other)) none in
      let below = one_under walk ((header_of other).level - 1) expected.to (own_pointers other) parts.1 place pointer
      (subst (λ (n : Node). slice_get (own_pointers n) place ≡ Some pointer) (sym same) there) in
      (below.0, below.1 ∙ ap (λ (n : Node). Some ((header_of n).level - 1)) same, below.2)

  -- a node where a walk meets no failure is of the level that is expected
  walked_level : (depth : ℕ) (expected : Expected) (address level : ℕ)
      → walk_failure (node_failure Files super) (found_in nodes) depth expected address ≡ None
      → expected.level ≡ Some level → level_of (nodes address) ≡ level
  walked_level depth expected address level none told =
      let passed = walk-passed Files super (found_in nodes) depth expected address none in
      ap level_of (found_some (nodes address) address passed.node passed.is)
      ∙ level-told expected.level level (header_of passed.node).level told passed.level

  -- what a reached node leads to is reached
  pub child-reached : ((q : ℕ) (node : Node) → nodes q ≡ Some node → IsLevelled node)
      → (level depth from : ℕ) (expected : Expected)
      → walk_failure (node_failure Files super) (found_in nodes) depth expected from ≡ None
      → level ≤ depth → level_of (nodes from) ≡ level → (p : ℕ) → Reaches nodes level from p → (node : Node)
      → nodes p ≡ Some node → (place : ℕ) (pointer : Pointer) → slice_get (own_pointers node) place ≡ Some pointer
      → Reaches nodes level from pointer.child
  unfolding walk_failure Reaches
  child-reached levelled zero depth from expected none low high p here node is place pointer there =
      let level = sym (ap level_of (ap nodes (sym here) ∙ is)) ∙ high in
      absurd (bottom_leads node (levelled p node is) level place pointer there)
  child-reached levelled (suc level) zero from expected none low high p reaches node is place pointer there =
      absurd (omega (arith, low))
  child-reached levelled (suc level) (suc depth) from expected none low high p (inl here) node is place pointer there =
      inr (node, ap nodes (sym here) ∙ is, place, pointer, there, reach-top nodes level pointer.child)
  child-reached levelled (suc level) (suc depth) from expected none low high p (inr (n, its, k, step, has, below)) node
      is place pointer there =
      let under = found_under (walk_failure (node_failure Files super) (found_in nodes) depth) expected from
      (nodes from) none n its k step has in
      let told = walked_level depth under.0 step.child ((header_of n).level - 1) under.2 under.1 in
      let top = sym (ap level_of its) ∙ high in
      inr (
        n,
        its,
        k,
        step,
        has,
        child-reached levelled level depth step.child under.0 under.2 (omega (arith, low)) (omega (arith, told, top)) p
            below node is place pointer there,
      )

-- ---- what is met

any_one : (test : Element → Bool) (under : Pointer → List Element) (pointers : List Pointer)
    → list_any test (flat_map under pointers) ≡ true
    → (place : ℕ) × (pointer : Pointer) × (slice_get pointers place ≡ Some pointer)
    × (list_any test (under pointer) ≡ true)
any_one test under [] passes = absurd (false≢true passes)
any_one test under (first ∷ pointers) passes =
    elim (or_cases (list_any test (under first)) (list_any test (flat_map under pointers))
    (sym (list_any-append test (under first) (flat_map under pointers)) ∙ passes)) [
      | inl here ↦ (zero, first, refl, here)
      | inr later ↦
          let found = any_one test under pointers later in
          (suc found.0, found.1, found.2, found.3)
    ]

one_any : (test : Element → Bool) (under : Pointer → List Element) (pointers : List Pointer) (place : ℕ)
    (pointer : Pointer) → slice_get pointers place ≡ Some pointer → list_any test (under pointer) ≡ true
    → list_any test (flat_map under pointers) ≡ true
one_any test under [] place pointer there passes = absurd cc
one_any test under (first ∷ pointers) zero pointer there passes =
    let same : first ≡ pointer = cc in
    list_any-append test (under first) (flat_map under pointers)
    ∙ or_left (list_any test (under first)) (list_any test (flat_map under pointers))
    (ap (λ (p : Pointer). list_any test (under p)) same ∙ passes)
one_any test under (first ∷ pointers) (suc place) pointer there passes =
    list_any-append test (under first) (flat_map under pointers)
    ∙ or_right (list_any test (under first)) (list_any test (flat_map under pointers))
    (one_any test under pointers place pointer there passes)

own_some : (a nodesize q : ℕ) (o : Option Node) → is_among a (own_elements nodesize q o) ≡ true
    → (node : Node) × (o ≡ Some node) × (is_among a (own_elements nodesize q (Some node)) ≡ true)
own_some a nodesize q None met = absurd (false≢true met)
own_some a nodesize q (Some node) met = (node, refl, met)

some_pointers : (o : Option Node) (place : ℕ) (pointer : Pointer) → slice_get (pointers_at o) place ≡ Some pointer
    → (node : Node) × (o ≡ Some node) × (slice_get (own_pointers node) place ≡ Some pointer)
some_pointers None place pointer there = absurd cc
some_pointers (Some node) place pointer there = (node, refl, there)

module _ (nodes : ℕ → Option Node) (nodesize : ℕ) where
  -- what is met is a reached node's own
  pub met-reached : (level from a : ℕ) → is_among a (reach_under nodes nodesize level from) ≡ true
      → (q : ℕ) × (node : Node) × Reaches nodes level from q × (nodes q ≡ Some node)
      × (is_among a (own_elements nodesize q (Some node)) ≡ true)
  unfolding Reaches
  met-reached zero from a met =
      let own = own_some a nodesize from (nodes from) met in (from, own.0, refl, own.1, own.2)
  met-reached (suc level) from a met =
      let test = λ (element : Element). element.address == a in
      let under = λ (pointer : Pointer). reach_under nodes nodesize level pointer.child in
      let own = own_elements nodesize from (nodes from) in
      let rest = flat_map under (pointers_at (nodes from)) in
      elim (or_cases (list_any test own) (list_any test rest) (sym (list_any-append test own rest) ∙ met)) [
        | inl here ↦
            let its = own_some a nodesize from (nodes from) here in (from, its.0, inl refl, its.1, its.2)
        | inr later ↦
            let one = any_one test under (pointers_at (nodes from)) later in
            let top = some_pointers (nodes from) one.0 one.1 one.2 in
            let below = met-reached level one.1.child a one.3 in
            (below.0, below.1, inr (top.0, top.1, one.0, one.1, top.2, below.2), below.3, below.4)
      ]

  -- and a reached node's own is met
  pub reached-met : (level from q a : ℕ) → Reaches nodes level from q
      → is_among a (own_elements nodesize q (nodes q)) ≡ true
      → is_among a (reach_under nodes nodesize level from) ≡ true
  unfolding Reaches
  reached-met zero from q a here own =
      subst (λ (n : ℕ). is_among a (own_elements nodesize n (nodes n)) ≡ true) here own
  reached-met (suc level) from q a (inl here) own =
      let test = λ (element : Element). element.address == a in
      let under = λ (pointer : Pointer). reach_under nodes nodesize level pointer.child in
      let first = own_elements nodesize from (nodes from) in
      let rest = flat_map under (pointers_at (nodes from)) in
      list_any-append test first rest
      ∙ or_left (list_any test first) (list_any test rest)
      (subst (λ (n : ℕ). is_among a (own_elements nodesize n (nodes n)) ≡ true) here own)
  reached-met (suc level) from q a (inr (node, is, place, pointer, there, below)) own =
      let test = λ (element : Element). element.address == a in
      let under = λ (pointer : Pointer). reach_under nodes nodesize level pointer.child in
      let first = own_elements nodesize from (nodes from) in
      let rest = flat_map under (pointers_at (nodes from)) in
      let met = reached-met level pointer.child q a below own in
      let has = subst (λ (o : Option Node). slice_get (pointers_at o) place ≡ Some pointer) (sym is) there in
      list_any-append test first rest
      ∙ or_right (list_any test first) (list_any test rest)
      (one_any test under (pointers_at (nodes from)) place pointer has met)

  -- ---- the last step of the way to a node

  pub reached-back : (level from q : ℕ) → Reaches nodes level from q → (q ≡ from)
      ⊎ ((p : ℕ) × (node : Node) × Reaches nodes level from p × (nodes p ≡ Some node) × (place : ℕ)
      × (pointer : Pointer) × (slice_get (own_pointers node) place ≡ Some pointer) × (pointer.child ≡ q))
  unfolding Reaches
  reached-back zero from q here = inl here
  reached-back (suc level) from q (inl here) = inl here
  reached-back (suc level) from q (inr (node, is, place, pointer, there, below)) =
      elim (reached-back level pointer.child q below) [
        | inl here ↦ inr (from, node, inl refl, is, place, pointer, there, sym here)
        | inr (p, its, reaches, has, k, step, at, leads) ↦
            inr (p, its, inr (node, is, place, pointer, there, reaches), has, k, step, at, leads)
      ]
