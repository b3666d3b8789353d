-- Walks of one tree by what two images have at its addresses: where both have its nodes, they go the same way.
use Rattle.std.proofs.Common.{◌≡◌, ◌∙◌, ℕ, zero, suc, ◌-◌, List, [], ◌∷◌, ◌++◌, refl, sym, ap, subst}
use Rattle.std.specs.Prelude.{Option, Some, None, Result, Ok, Err}
use Rattle.std.specs.List.{Contains}
use Rattle.std.specs.Option.{option_and_then}
use Rattle.std.specs.Result.{result_ok}
use Rattle.std.proofs.lemmas.List.Elements.{Contains-append_left, Contains-append_right}
use Rattle.qg_num.specs.declared.key.Key.{Key}
use Rattle.qg_node.specs.declared.item.Item.{Item}
use Rattle.qg_node.specs.declared.pointer.Pointer.{Pointer}
use Rattle.qg_node.specs.declared.node.Header.{Header}
use Rattle.qg_node.specs.declared.node.Node.{Node}
use Rattle.qg_node.specs.declared.node.Node.TheVariants.{Leaf, Inner}
use Rattle.qg_node.specs.Nodes.{header_of, own_pointers}
use Rattle.qg_image.specs.Below.{leaf_items, inner_pointers, joined, items_below, nodes_below}
use Rattle.qg_image.specs.declared.expected.Expected.{Expected}
use Rattle.qg_image.specs.declared.failure.Failure.{Failure}
use Rattle.qg_image.specs.Failure.{first_failure}
use Rattle.qg_image.specs.ItemsUnder.{nodes_of}
use Rattle.qg_image.specs.Walk.{found_failure, next_key, pointers_failure, walk_failure}
use Rattle.qg_image.proofs.Contained.{contains_here, contains_later}

-- what tells the rule that a node breaks
abbrev pub Judge : Type 0
Judge = Expected → ℕ → Node → Option Failure

-- ---- lists that are defined

record IsLeafAlone (found : Result Node Failure) (nodes : List Node) : Type 0 where
  header : Header
  items : List Item
  is : found ≡ Ok (Leaf header items)
  alone : nodes ≡ Leaf header items ∷ []

leaf_alone : (found : Result Node Failure) (nodes : List Node)
    → option_and_then (λ node. option_and_then (λ items. Some (node ∷ [])) (leaf_items node)) (result_ok found)
    ≡ Some nodes → IsLeafAlone found nodes
leaf_alone (Ok (Leaf header items)) nodes is =
    let alone : nodes ≡ Leaf header items ∷ [] = cc in
    record { header = header; items = items; is = refl; alone = alone }
leaf_alone (Ok (Inner header pointers)) nodes is = absurd cc
leaf_alone (Err failure) nodes is = absurd cc

record IsInnerWith (under : Pointer → Option (List Node)) (found : Result Node Failure)
    (nodes : List Node) : Type 0 where
  header : Header
  pointers : List Pointer
  below : List Node
  is : found ≡ Ok (Inner header pointers)
  joins : joined under pointers ≡ Some below
  whole : nodes ≡ Inner header pointers ∷ below

inner_of : (under : Pointer → Option (List Node)) (header : Header) (pointers : List Pointer)
    (below : Option (List Node)) (nodes : List Node)
    → joined under pointers ≡ below → option_and_then (λ those. Some (Inner header pointers ∷ those)) below ≡ Some nodes
    → IsInnerWith under (Ok (Inner header pointers)) nodes
inner_of under header pointers (Some below) nodes joins is =
    let whole : nodes ≡ Inner header pointers ∷ below = cc in
    record { header = header; pointers = pointers; below = below; is = refl; joins = joins; whole = whole }
inner_of under header pointers None nodes joins is = absurd cc

inner_with : (under : Pointer → Option (List Node)) (found : Result Node Failure) (nodes : List Node)
    → option_and_then (λ node. option_and_then (λ below. Some (node ∷ below))
    (option_and_then (joined under) (inner_pointers node))) (result_ok found) ≡ Some nodes
    → IsInnerWith under found nodes
inner_with under (Ok (Inner header pointers)) nodes is =
    inner_of under header pointers (joined under pointers) nodes refl is
inner_with under (Ok (Leaf header items)) nodes is = absurd cc
inner_with under (Err failure) nodes is = absurd cc

record IsBoth (a b : Option (List Node)) (all : List Node) : Type 0 where
  first : List Node
  rest : List Node
  first_is : a ≡ Some first
  rest_is : b ≡ Some rest
  whole : first ++ rest ≡ all

both : (a b : Option (List Node)) (all : List Node)
    → option_and_then (λ first. option_and_then (λ rest. Some (first ++ rest)) b) a ≡ Some all → IsBoth a b all
both (Some first) (Some rest) all is =
    let whole : first ++ rest ≡ all = cc in record {
      first = first;
      rest = rest;
      first_is = refl;
      rest_is = refl;
      whole = whole;
    }
both (Some first) None all is = absurd cc
both None b all is = absurd cc

-- an inner node and what is below it
abbrev whole_of : (Pointer → Option (List Node)) → Option Node → Option (List Node)
whole_of under found =
    option_and_then (λ node. option_and_then (λ those. Some (node ∷ those))
    (option_and_then (joined under) (inner_pointers node))) found

-- ---- two finders

module _ (old new : ℕ → Result Node Failure) (placed : (address : ℕ) (node : Node) → old address ≡ Ok node
    → (header_of node).address ≡ address) where
  -- both find the same where these nodes lie
  abbrev pub Agree : List Node → Type 0
  Agree nodes = (node : Node) → Contains nodes node → new (header_of node).address ≡ old (header_of node).address

  abbrev below_old : ℕ → Pointer → Option (List Node)
  below_old level pointer = nodes_below (nodes_of old) level pointer.child

  agree_at : (address : ℕ) (node : Node) (nodes : List Node) → old address ≡ Ok node → Contains nodes node → Agree nodes
      → new address ≡ old address
  agree_at address node nodes is has agree = subst (λ (a : ℕ). new a ≡ old a) (placed address node is) (agree node has)

  agree_leaf : (address : ℕ) (nodes : List Node) (leaf : IsLeafAlone (old address) nodes) → Agree nodes
      → new address ≡ old address
  agree_leaf address nodes leaf agree =
      let node = Leaf leaf.header leaf.items in
      agree_at address node nodes leaf.is (subst (λ (xs : List Node). Contains xs node) (sym leaf.alone)
      (contains_here node [])) agree

  agree_inner : (level address : ℕ) (nodes : List Node) (inner : IsInnerWith (below_old level) (old address) nodes)
      → Agree nodes → new address ≡ old address
  agree_inner level address nodes inner agree =
      let node = Inner inner.header inner.pointers in
      agree_at address node nodes inner.is (subst (λ (xs : List Node). Contains xs node) (sym inner.whole)
      (contains_here node inner.below)) agree

  agree_below : (level address : ℕ) (nodes : List Node) (inner : IsInnerWith (below_old level) (old address) nodes)
      → Agree nodes → Agree inner.below
  agree_below level address nodes inner agree =
      λ node has.
      agree node
      (subst (λ (xs : List Node). Contains xs node) (sym inner.whole)
      (contains_later (Inner inner.header inner.pointers) inner.below node has))

  agree_first : (a b : Option (List Node)) (all : List Node) (parts : IsBoth a b all) → Agree all → Agree parts.first
  agree_first a b all parts agree =
      λ node has. agree node (subst (λ (xs : List Node). Contains xs node) parts.whole
      (Contains-append_left parts.first parts.rest node has))

  agree_rest : (a b : Option (List Node)) (all : List Node) (parts : IsBoth a b all) → Agree all → Agree parts.rest
  agree_rest a b all parts agree =
      λ node has. agree node (subst (λ (xs : List Node). Contains xs node) parts.whole
      (Contains-append_right parts.first parts.rest node has))

  -- what is found at the root
  pub root_same : (level address : ℕ) (nodes : List Node) → nodes_below (nodes_of old) level address ≡ Some nodes
      → Agree nodes → new address ≡ old address
  root_same zero address nodes is agree = agree_leaf address nodes (leaf_alone (old address) nodes is) agree
  root_same (suc level) address nodes is agree =
      agree_inner level address nodes (inner_with (below_old level) (old address) nodes is) agree

  -- ---- the walk

  module _ (judge : Judge) where
    -- under a node of this level both walk the same, so many levels deep at most
    abbrev pub WalkSame : ℕ → ℕ → Type 0
    WalkSame level depth = (expected : Expected) (address : ℕ) (nodes : List Node)
        → nodes_below (nodes_of old) level address ≡ Some nodes → Agree nodes
        → walk_failure judge new depth expected address ≡ walk_failure judge old depth expected address

    pointers_same : (level depth low : ℕ) (to : Option Key) (pointers : List Pointer) (below : List Node)
        → WalkSame level depth
        → joined (below_old level) pointers ≡ Some below → Agree below
        → pointers_failure (walk_failure judge new depth) low to pointers ≡ pointers_failure
        (walk_failure judge old depth) low to pointers
    pointers_same level depth low to [] below each is agree = refl
    pointers_same level depth low to (pointer ∷ pointers) below each is agree =
        let expected : Expected = record {
          level = Some low;
          generation = Some pointer.generation;
          from = Some pointer.key;
          to = next_key to pointers;
        } in
        let first = below_old level pointer in
        let rest = joined (below_old level) pointers in
        let parts = both first rest below is in
        let here : walk_failure judge new depth expected pointer.child
        ≡ walk_failure judge old depth expected pointer.child =
        each expected pointer.child parts.first parts.first_is (agree_first first rest below parts agree) in
        let later : pointers_failure (walk_failure judge new depth) low to pointers ≡ pointers_failure
        (walk_failure judge old depth) low to pointers =
        pointers_same level depth low to pointers parts.rest each parts.rest_is
        (agree_rest first rest below parts agree) in
        ap (λ (f : Option Failure). first_failure (f ∷ pointers_failure (walk_failure judge new depth) low to pointers
        ∷ [])) here
        ∙ ap (λ (f : Option Failure). first_failure (walk_failure judge old depth expected pointer.child ∷ f ∷ []))
        later

    -- a leaf has nothing below it
    leaf_same : (one other : Expected → ℕ → Option Failure) (expected : Expected) (address : ℕ) (nodes : List Node)
        (leaf : IsLeafAlone (old address) nodes)
        → Agree nodes → found_failure judge one expected address (new address)
        ≡ found_failure judge other expected address (old address)
    leaf_same one other expected address nodes leaf agree =
        let same = agree_leaf address nodes leaf agree in
        ap (λ (found : Result Node Failure). found_failure judge one expected address found) (same ∙ leaf.is)
        ∙ sym (ap (λ (found : Result Node Failure). found_failure judge other expected address found) leaf.is)

    inner_same : (level depth : ℕ) (expected : Expected) (address : ℕ) (nodes : List Node)
        (inner : IsInnerWith (below_old level) (old address) nodes)
        → WalkSame level depth → Agree nodes
        → found_failure judge (walk_failure judge new depth) expected address (new address) ≡ found_failure judge
        (walk_failure judge old depth) expected address (old address)
    inner_same level depth expected address nodes inner each agree =
        let node = Inner inner.header inner.pointers in
        let same = agree_inner level address nodes inner agree in
        let below = pointers_same level depth (inner.header.level - 1) expected.to inner.pointers inner.below each
        inner.joins (agree_below level address nodes inner agree) in
        ap (λ (found : Result Node Failure). found_failure judge (walk_failure judge new depth) expected address found)
        (same ∙ inner.is)
        ∙ ap (λ (f : Option Failure). first_failure (judge expected address node ∷ f ∷ [])) below
        ∙ sym (ap (λ (found : Result Node Failure). found_failure judge (walk_failure judge old depth) expected address
        found) inner.is)

    pub walk_same : (level depth : ℕ) → WalkSame level depth
    unfolding walk_failure
    walk_same zero zero expected address nodes is agree =
        leaf_same (λ expected address. None) (λ expected address. None) expected address nodes
        (leaf_alone (old address) nodes is) agree
    walk_same zero (suc depth) expected address nodes is agree =
        leaf_same (walk_failure judge new depth) (walk_failure judge old depth) expected address nodes
        (leaf_alone (old address) nodes is) agree
    walk_same (suc level) zero expected address nodes is agree =
        let inner = inner_with (below_old level) (old address) nodes is in
        ap (λ (found : Result Node Failure). found_failure judge (λ expected address. None) expected address found)
        (agree_inner level address nodes inner agree)
    walk_same (suc level) (suc depth) expected address nodes is agree =
        inner_same level depth expected address nodes (inner_with (below_old level) (old address) nodes is)
        (walk_same level depth) agree

  -- ---- what stands below

  joined_same : {A : Type 0} (level : ℕ) (one other : Pointer → Option (List A)) (pointers : List Pointer)
      (below : List Node)
      → ((pointer : Pointer) (nodes : List Node) → below_old level pointer ≡ Some nodes → Agree nodes
      → one pointer ≡ other pointer)
      → joined (below_old level) pointers ≡ Some below → Agree below → joined one pointers ≡ joined other pointers
  joined_same level one other [] below each is agree = refl
  joined_same {A} level one other (pointer ∷ pointers) below each is agree =
      let first = below_old level pointer in
      let rest = joined (below_old level) pointers in
      let parts = both first rest below is in
      let here : one pointer ≡ other pointer =
      each pointer parts.first parts.first_is (agree_first first rest below parts agree) in
      let later : joined one pointers ≡ joined other pointers =
      joined_same level one other pointers parts.rest each parts.rest_is (agree_rest first rest below parts agree) in
      ap (λ (o : Option (List A)). option_and_then (λ (a : List A). option_and_then (λ (b : List A). Some (a ++ b))
      (joined one pointers)) o) here
      ∙ ap (λ (o : Option (List A)). option_and_then (λ (a : List A). option_and_then (λ (b : List A). Some (a ++ b)) o)
      (other pointer)) later

  pub items_same : (level address : ℕ) (nodes : List Node) → nodes_below (nodes_of old) level address ≡ Some nodes
      → Agree nodes
      → items_below (nodes_of new) level address ≡ items_below (nodes_of old) level address
  items_same zero address nodes is agree =
      ap (λ (found : Result Node Failure). option_and_then leaf_items (result_ok found))
      (agree_leaf address nodes (leaf_alone (old address) nodes is) agree)
  items_same (suc level) address nodes is agree =
      let inner = inner_with (below_old level) (old address) nodes is in
      let one : Pointer → Option (List Item) = λ pointer. items_below (nodes_of new) level pointer.child in
      let other : Pointer → Option (List Item) = λ pointer. items_below (nodes_of old) level pointer.child in
      let same = agree_inner level address nodes inner agree in
      let below = joined_same level one other inner.pointers inner.below
      (λ pointer own has agrees. items_same level pointer.child own has agrees)
      inner.joins (agree_below level address nodes inner agree) in
      ap (λ (found : Result Node Failure). option_and_then (joined one)
      (option_and_then inner_pointers (result_ok found))) (same ∙ inner.is)
      ∙ below
      ∙ sym (ap (λ (found : Result Node Failure). option_and_then (joined other)
      (option_and_then inner_pointers (result_ok found))) inner.is)

  pub nodes_same : (level address : ℕ) (nodes : List Node) → nodes_below (nodes_of old) level address ≡ Some nodes
      → Agree nodes
      → nodes_below (nodes_of new) level address ≡ nodes_below (nodes_of old) level address
  nodes_same zero address nodes is agree =
      ap (λ (found : Result Node Failure). option_and_then
      (λ (node : Node). option_and_then (λ (items : List Item). Some (node ∷ [])) (leaf_items node))
      (result_ok found))
      (agree_leaf address nodes (leaf_alone (old address) nodes is) agree)
  nodes_same (suc level) address nodes is agree =
      let inner = inner_with (below_old level) (old address) nodes is in
      let node = Inner inner.header inner.pointers in
      let one : Pointer → Option (List Node) = λ pointer. nodes_below (nodes_of new) level pointer.child in
      let other : Pointer → Option (List Node) = λ pointer. nodes_below (nodes_of old) level pointer.child in
      let same = agree_inner level address nodes inner agree in
      let below = joined_same level one other inner.pointers inner.below
      (λ pointer own has agrees. nodes_same level pointer.child own has agrees)
      inner.joins (agree_below level address nodes inner agree) in
      ap (λ (found : Result Node Failure). whole_of one (result_ok found)) (same ∙ inner.is)
      ∙ ap (λ (o : Option (List Node)). option_and_then (λ (those : List Node). Some (node ∷ those)) o) below
      ∙ sym (ap (λ (found : Result Node Failure). whole_of other (result_ok found)) inner.is)
