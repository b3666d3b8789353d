-- A level of nodes while it is put: the parts that are in nodes, and those that are left.
use Rattle.std.proofs.Common.{◌≡◌, ℕ, ◌+◌, ◌-◌, ◌*◌, ◌≤◌, ◌<◌, false, List, [], ◌∷◌, ◌++◌, map, refl, sym, ap, ◌∙◌}
use Rattle.std.proofs.Common.{length, arith, append_assoc, take, drop, get_or, length-append, inl, inr}
use Rattle.std.specs.List.{AllByRecursion, flat_map, sum_by, All}
use Rattle.std.proofs.Math.Nat.{lt_of_mul-lt-mul_left}
use Rattle.std.proofs.lemmas.List.{append-nil, take-append-drop, map-append, take_more, length-drop, get_or-drop}
use Rattle.std.proofs.lemmas.List.{get_or_default}
use Rattle.std.specs.Prelude.{◌==◌}
use Rattle.std.proofs.lemmas.Bool.{cases_lt, eqb-false}
use Rattle.std.proofs.lemmas.List.Sums.{sum_by-cons, sum_by-take-drop}
use Rattle.std.proofs.lemmas.List.Elements.{All-drop}
use Rattle.std.proofs.lemmas.Grind.{flat_map-append}
use Rattle.qg_node.specs.declared.pointer.Pointer.{Pointer}
use Rattle.qg_node.specs.declared.node.Node.{Node}
use Rattle.qg_node.specs.Nodes.{header_of, used_bytes}
use Rattle.qg_node.specs.NodeText.{IsLevelled}
use Rattle.qg_node.specs.Fits.{NodeFits}
use Rattle.qg_super.specs.Places.{capacity}
use Rattle.qg_tree_layout.specs.FillsNode.{FillsNode}
use Rattle.qg_tree_layout.specs.Row.{pointer_to, address_of, IsRowNode, IsFull, PutsRow}
use Rattle.qg_tree_layout.proofs.Frame.{AllByRecursion-append}

pub sum_by-same : {A : Type 0} (n : ℕ) (xs : List A) → sum_by (λ _. n) xs ≡ n * length xs
sum_by-same n [] = omega arith
sum_by-same n (x ∷ xs) = sum_by-cons (λ _. n) x xs ∙ rw (sum_by-same n xs) (omega arith)

-- there are some where there are not none
pub some_left : (n : ℕ) → (n == 0) ≡ false → 1 ≤ n
some_left n h = elim (cases_lt 0 n) [ inl less ↦ less | inr not ↦ absurd (eqb-false n 0 h (omega (arith, not))) ]

-- the level so far
pub record IsGrowing {A : Type 0} (own : Node → List A) (weight : A → ℕ) (nodesize owner generation level : ℕ)
    (slots : List ℕ) (parts left : List A) (total : ℕ) (old new : List Node) (pointers : List Pointer) : Type 0 where
  pub row : List Node
  pub grown : new ≡ old ++ row
  pub pointed : pointers ≡ map pointer_to row
  pub whole : flat_map own row ++ left ≡ parts
  pub each : AllByRecursion (IsRowNode nodesize owner generation level) row
  pub full : AllByRecursion (IsFull nodesize) row
  pub placed : map address_of row ≡ take (length row) (drop (length old) slots)
  pub light : All (λ x. weight x ≤ 1049) left
  pub weighs : total ≡ sum_by weight left
  pub heavy : 1 ≤ length row → capacity nodesize ≤ 4 * total
  pub count : capacity nodesize * length row + 4 * total ≤ 4 * sum_by weight parts
  pub unbroken : sum_by weight parts ≤ capacity nodesize → length row ≡ 0
  pub some : 1 ≤ level → 1 ≤ length left
  pub room : 4 * sum_by weight parts < capacity nodesize * (length slots - length old)

module _ {A : Type 0} (own : Node → List A) (weight : A → ℕ) (nodesize owner generation level : ℕ) (slots : List ℕ)
    (parts : List A) (old : List Node) where
  pub IsGrowing-none : (total : ℕ) → total ≡ sum_by weight parts → All (λ x. weight x ≤ 1049) parts
      → (1 ≤ level → 1 ≤ length parts) → 4 * sum_by weight parts < capacity nodesize * (length slots - length old)
      → IsGrowing own weight nodesize owner generation level slots parts parts total old old []
  IsGrowing-none total weighs light some room = record {
    row = [];
    grown = sym (append-nil old);
    pointed = refl;
    whole = refl;
    each = tt;
    full = tt;
    placed = refl;
    light = light;
    weighs = weighs;
    heavy = λ one. absurd (omega (arith, one));
    count = omega arith;
    unbroken = λ light. refl;
    some = some;
    room = room;
  }

  -- there is a slot for one more node
  pub slot_there : (left : List A) (total : ℕ) (new : List Node) (pointers : List Pointer)
      → IsGrowing own weight nodesize owner generation level slots parts left total old new pointers
      → length new < length slots
  slot_there left total new pointers is =
      let long : length new ≡ length old + length is.row = ap length is.grown ∙ length-append old is.row in
      let less : capacity nodesize * length is.row < capacity nodesize * (length slots - length old) =
      omega (arith, is.count, is.room) in
      let fewer : length is.row < length slots - length old = lt_of_mul-lt-mul_left (capacity nodesize) less in
      omega arith

  -- the node that is put next
  pub record IsNext (left : List A) (new : List Node) (count taken : ℕ) (node : Node) : Type 0 where
    pub cut : FillsNode weight left (capacity nodesize) count taken
    pub address : (header_of node).address ≡ get_or slots (length new) (header_of node).address
    pub owned : (header_of node).owner ≡ owner
    pub made : (header_of node).generation ≡ generation
    pub stands : (header_of node).level ≡ level
    pub levelled : IsLevelled node
    pub holds : own node ≡ take count left
    pub used : used_bytes node ≡ sum_by weight (take count left)
    pub numbers : NodeFits node

  next_is : (left : List A) (new : List Node) (count taken : ℕ) (node : Node) → 101 ≤ nodesize
      → IsNext left new count taken node → IsRowNode nodesize owner generation level node
  next_is left new count taken node wide next = record {
    levelled = next.levelled;
    stands = next.stands;
    owned = next.owned;
    made = next.made;
    fits = omega (arith, next.used, next.cut.fits, next.cut.weighs);
    numbers = next.numbers;
  }

  next_placed : (row : List Node) (slots' : List ℕ) (node : Node) → length row < length slots'
      → address_of node ≡ get_or slots' (length row) 0 → map address_of row ≡ take (length row) slots'
      → map address_of (row ++ node ∷ []) ≡ take (length (row ++ node ∷ [])) slots'
  next_placed row slots' node within address placed =
      map-append address_of row (node ∷ [])
      ∙ ap (λ (front : List ℕ). front ++ address_of node ∷ []) placed
      ∙ ap (λ (a : ℕ). take (length row) slots' ++ a ∷ []) address
      ∙ sym (take_more slots' (length row) 0 within)
      ∙ ap (λ (n : ℕ). take n slots') (sym (length-append row (node ∷ [])))

  next_whole : (row : List Node) (left : List A) (count : ℕ) (node : Node) → flat_map own row ++ left ≡ parts
      → own node ≡ take count left → flat_map own (row ++ node ∷ []) ++ drop count left ≡ parts
  next_whole row left count node whole holds =
      ap (λ (front : List A). front ++ drop count left) (flat_map-append own row (node ∷ []))
      ∙ ap (λ (last : List A). (flat_map own row ++ last) ++ drop count left) (append-nil (own node) ∙ holds)
      ∙ append_assoc (flat_map own row) (take count left) (drop count left)
      ∙ ap (λ (back : List A). flat_map own row ++ back) (take-append-drop count left)
      ∙ whole

  -- what is left is no less heavy than it was, where the whole of it did not fit
  left_of : (left : List A) (total count taken : ℕ) → total ≡ sum_by weight left
      → FillsNode weight left (capacity nodesize) count taken → total ≡ taken + sum_by weight (drop count left)
  left_of left total count taken weighs cut = omega (arith, sum_by-take-drop weight left count, cut.weighs)

  not_whole : (left : List A) (count taken : ℕ) → FillsNode weight left (capacity nodesize) count taken
      → 1 ≤ length (drop count left) → capacity nodesize < sum_by weight left
  not_whole left count taken cut more = elim (cases_lt (capacity nodesize) (sum_by weight left)) [
    | inl less ↦ less
    | inr not ↦ absurd (omega (arith, cut.whole not, length-drop count left))
  ]

  pub IsGrowing-more : (left : List A) (total : ℕ) (new : List Node) (pointers : List Pointer) (count taken : ℕ)
      (node : Node) → 102 ≤ nodesize
      → IsGrowing own weight nodesize owner generation level slots parts left total old new pointers
      → IsNext left new count taken node → 1 ≤ length (drop count left)
      → IsGrowing own weight nodesize owner generation level slots parts (drop count left) (total - taken) old
      (new ++ node ∷ []) (pointers ++ pointer_to node ∷ [])
  IsGrowing-more left total new pointers count taken node wide is next more =
      let big : capacity nodesize < sum_by weight left = not_whole left count taken next.cut more in
      let parted : total ≡ taken + sum_by weight (drop count left) =
      left_of left total count taken is.weighs next.cut in
      let full : capacity nodesize ≤ 4 * taken = next.cut.full big in
      let within : length is.row < length (drop (length old) slots) =
      omega (
        arith,
        slot_there left total new pointers is,
        ap length is.grown,
        length-append old is.row,
        length-drop
            (length old) slots,
      ) in
      let address : address_of node ≡ get_or (drop (length old) slots) (length is.row) 0 =
      next.address ∙ get_or_default slots (length new) (address_of node) 0 (slot_there left total new pointers is)
      ∙ ap (λ (n : ℕ). get_or slots n 0) (ap length is.grown ∙ length-append old is.row)
      ∙ sym (get_or-drop (length old) slots (length is.row) 0) in
      let long : length (is.row ++ node ∷ []) ≡ length is.row + 1 = length-append is.row (node ∷ []) in
      let most : capacity nodesize * length (is.row ++ node ∷ []) ≡ capacity nodesize * length is.row
      + capacity nodesize = rw long (omega arith) in
      record {
        row = is.row ++ node ∷ [];
        grown = ap (λ (front : List Node). front ++ node ∷ []) is.grown ∙ append_assoc old is.row (node ∷ []);
        pointed = ap (λ (front : List Pointer). front ++ pointer_to node ∷ []) is.pointed
            ∙ sym (map-append pointer_to is.row (node ∷ []));
        whole = next_whole is.row left count node is.whole next.holds;
        each = AllByRecursion-append (IsRowNode nodesize owner generation level) is.row (node ∷ []) is.each
            (next_is left new count taken node (omega arith) next, tt);
        full = AllByRecursion-append (IsFull nodesize) is.row (node ∷ []) is.full
            (omega (arith, full, next.used, next.cut.weighs), tt);
        placed = next_placed is.row (drop (length old) slots) node within address is.placed;
        light = All-drop (λ x. weight x ≤ 1049) count left is.light;
        weighs = omega (arith, parted);
        heavy = λ one. omega (arith, next.cut.left big, is.weighs, full);
        count = omega (arith, most, is.count, full, parted);
        unbroken = λ light. absurd (omega (arith, light, big, is.weighs, is.count));
        some = λ one. more;
        room = is.room;
      }

  pub PutsRow-all : (left : List A) (total : ℕ) (new : List Node) (pointers : List Pointer) (count taken : ℕ)
      (node : Node) → 102 ≤ nodesize
      → IsGrowing own weight nodesize owner generation level slots parts left total old new pointers
      → IsNext left new count taken node → length (drop count left) ≡ 0
      → PutsRow own weight nodesize owner generation level slots parts old (new ++ node ∷ [])
      (pointers ++ pointer_to node ∷ [])
  PutsRow-all left total new pointers count taken node wide is next none =
      let empty : drop count left ≡ [] = empty_is (drop count left) none in
      let within : length is.row < length (drop (length old) slots) =
      omega (
        arith,
        slot_there left total new pointers is,
        ap length is.grown,
        length-append old is.row,
        length-drop
            (length old) slots,
      ) in
      let address : address_of node ≡ get_or (drop (length old) slots) (length is.row) 0 =
      next.address ∙ get_or_default slots (length new) (address_of node) 0 (slot_there left total new pointers is)
      ∙ ap (λ (n : ℕ). get_or slots n 0) (ap length is.grown ∙ length-append old is.row)
      ∙ sym (get_or-drop (length old) slots (length is.row) 0) in
      let long : length (is.row ++ node ∷ []) ≡ length is.row + 1 = length-append is.row (node ∷ []) in
      let most : capacity nodesize * length (is.row ++ node ∷ []) ≡ capacity nodesize * length is.row
      + capacity nodesize = rw long (omega arith) in
      let parted : total ≡ taken + sum_by weight (drop count left) =
      left_of left total count taken is.weighs next.cut in
      let nothing : sum_by weight (drop count left) ≡ 0 = ap (sum_by weight) empty in
      record {
        row = is.row ++ node ∷ [];
        is = record {
          whole = sym (append-nil (flat_map own (is.row ++ node ∷ [])))
              ∙ ap (λ (back : List A). flat_map own (is.row ++ node ∷ []) ++ back) (sym empty)
              ∙ next_whole is.row left count node is.whole next.holds;
          each = AllByRecursion-append (IsRowNode nodesize owner generation level) is.row (node ∷ []) is.each
              (next_is left new count taken node (omega arith) next, tt);
          full = λ two. AllByRecursion-append (IsFull nodesize) is.row (node ∷ []) is.full
              (omega (arith, is.heavy (omega (arith, two, long)), next.used, next.cut.weighs, parted, nothing), tt);
          placed = next_placed is.row (drop (length old) slots) node within address is.placed;
          some = omega (arith, long);
        };
        grown = ap (λ (front : List Node). front ++ node ∷ []) is.grown ∙ append_assoc old is.row (node ∷ []);
        pointed = ap (λ (front : List Pointer). front ++ pointer_to node ∷ []) is.pointed
            ∙ sym (map-append pointer_to is.row (node ∷ []));
        few = λ two. omega (arith, most, is.count, is.heavy (omega (arith, two, long)));
        single = λ light. omega (arith, long, is.unbroken light);
      } where
        empty_is : (xs : List A) → length xs ≡ 0 → xs ≡ []
        empty_is [] h = refl
        empty_is (x ∷ xs) h = absurd (omega arith)

  -- what is left gets shorter
  pub shorter : (left : List A) (count taken : ℕ) → 102 ≤ nodesize
      → FillsNode weight left (capacity nodesize) count taken → 1 ≤ length (drop count left)
      → length (drop count left) < length left
  shorter left count taken wide cut more =
      let big : capacity nodesize < sum_by weight left = not_whole left count taken cut more in
      let full : capacity nodesize ≤ 4 * taken = cut.full big in
      let some : 1 ≤ count = elim (cases_lt 0 count) [
        | inl less ↦ omega (arith, less)
        | inr not ↦ absurd (omega (arith, full, cut.weighs, none_taken (omega (arith, not))))
      ] in
      omega (arith, length-drop count left, some, more) where
        none_taken : count ≡ 0 → sum_by weight (take count left) ≡ 0
        none_taken e = ap (λ (n : ℕ). sum_by weight (take n left)) e
