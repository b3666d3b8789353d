-- Where nodes are found: what is found stays so where nodes are added, and each of several nodes at different addresses
-- is found.
use Rattle.std.proofs.Common.{◌≡◌, ℕ, zero, suc, Bool, true, false, cond, List, [], ◌∷◌, ◌++◌, map, refl, sym, ap, ◌∙◌}
use Rattle.std.proofs.Common.{◌-◌, append_assoc}
use Rattle.std.specs.Prelude.{Option, Some, None, Result, Ok, Err, ◌==◌}
use Rattle.std.specs.Option.{option_and_then}
use Rattle.std.specs.Result.{result_ok}
use Rattle.std.specs.List.{AllByRecursion, IsDistinct}
use Rattle.std.proofs.lemmas.Bool.{eq-eqb}
use Rattle.qg_num.specs.declared.key.Key.{Key}
use Rattle.qg_node.specs.declared.item.Item.{Item}
use Rattle.qg_node.specs.declared.pointer.Pointer.{Pointer}
use Rattle.qg_node.specs.declared.node.Node.{Node}
use Rattle.qg_node.specs.declared.node.Node.TheVariants.{Leaf, Inner}
use Rattle.qg_node.specs.Nodes.{header_of, own_pointers}
use Rattle.qg_image.specs.Below.{leaf_items, inner_pointers, joined, items_below}
use Rattle.qg_image.specs.declared.failure.Failure.{Failure}
use Rattle.qg_image.specs.Failure.{first_failure}
use Rattle.qg_image.specs.ItemsUnder.{nodes_of}
use Rattle.qg_image.specs.declared.expected.Expected.{Expected}
use Rattle.qg_image.specs.Walk.{found_failure, next_key, pointers_failure, walk_failure}
use Rattle.qg_image.specs.Among.{node_among, found_there, found_among}
use Rattle.qg_tree_layout.specs.Row.{address_of}

-- ---- the nodes

-- what is found at an address stays
pub record Keeps (old new : ℕ → Option Node) : Type 0 where
  pub each : (address : ℕ) (node : Node) → old address ≡ Some node → new address ≡ Some node

among_kept : (nodes more : List Node) (address : ℕ) (found : Node) → node_among nodes address ≡ Some found
    → node_among (nodes ++ more) address ≡ Some found
among_kept [] more address found h = absurd cc
among_kept (node ∷ nodes) more address found h =
    cases (address_of node == address) (among_kept nodes more address found) h where
      cases : (here : Bool) → (node_among nodes address ≡ Some found → node_among (nodes ++ more) address ≡ Some found)
          → cond here (Some node) (node_among nodes address) ≡ Some found
          → cond here (Some node) (node_among (nodes ++ more) address) ≡ Some found
      cases true later k = k
      cases false later k = later k

pub Keeps-append : (nodes more : List Node) → Keeps (node_among nodes) (node_among (nodes ++ more))
Keeps-append nodes more = record { each = among_kept nodes more }

-- what is among the nodes is what a walk finds
pub Keeps-found : (nodes : List Node) → Keeps (node_among nodes) (nodes_of (found_among nodes))
Keeps-found nodes = record {
  each = λ address node there.
      ap (λ (found : Option Node). result_ok (found_there found address)) there;
}

-- each node is found at its address
abbrev pub AreFound : List Node → List Node → Type 0
AreFound all row = AllByRecursion (λ node. node_among all (address_of node) ≡ Some node) row

found_behind : (first : Node) (all row : List Node)
    → AllByRecursion (λ address. (address_of first == address) ≡ false) (map address_of row) → AreFound all row
    → AreFound (first ∷ all) row
found_behind first all [] apart found = tt
found_behind first all (node ∷ row) apart found = (
  ap (λ (here : Bool). cond here (Some first) (node_among all (address_of node))) apart.0
      ∙ found.0,
  found_behind first all row apart.1 found.1,
)

pub all_found : (all : List Node) → IsDistinct (λ a b. a == b) (map address_of all) → AreFound all all
unfolding IsDistinct
all_found [] apart = tt
all_found (node ∷ all) apart = (
  ap (λ (here : Bool). cond here (Some node) (node_among all (address_of node)))
      (eq-eqb (address_of node) (address_of node) refl),
  found_behind node all all apart.0 (all_found all apart.1),
)

pub AllByRecursion-back : {A : Type 0} (P : A → Type 0) (front back : List A) → AllByRecursion P (front ++ back)
    → AllByRecursion P back
AllByRecursion-back P [] back h = h
AllByRecursion-back P (x ∷ front) back h = AllByRecursion-back P front back h.1

pub AllByRecursion-append : {A : Type 0} (P : A → Type 0) (front back : List A) → AllByRecursion P front
    → AllByRecursion P back → AllByRecursion P (front ++ back)
AllByRecursion-append P [] back h k = k
AllByRecursion-append P (x ∷ front) back h k = (h.0, AllByRecursion-append P front back h.1 k)

pub AllByRecursion-weaker : {A : Type 0} (P Q : A → Type 0) → ((x : A) → P x → Q x) → (xs : List A)
    → AllByRecursion P xs → AllByRecursion Q xs
AllByRecursion-weaker P Q each [] h = tt
AllByRecursion-weaker P Q each (x ∷ xs) h = (each x h.0, AllByRecursion-weaker P Q each xs h.1)

AllByRecursion-front : {A : Type 0} (P : A → Type 0) (front back : List A) → AllByRecursion P (front ++ back)
    → AllByRecursion P front
AllByRecursion-front P [] back h = tt
AllByRecursion-front P (x ∷ front) back h = (h.0, AllByRecursion-front P front back h.1)

pub IsDistinct-front : {A : Type 0} (same : A → A → Bool) (front back : List A) → IsDistinct same (front ++ back)
    → IsDistinct same front
unfolding IsDistinct
IsDistinct-front same [] back h = tt
IsDistinct-front same (x ∷ front) back h =
    (AllByRecursion-front (λ y. same x y ≡ false) front back h.0, IsDistinct-front same front back h.1)

-- ---- the items

-- two lists one after the other, where both are defined
abbrev pub both_lists : {A : Type 0} → Option (List A) → Option (List A) → Option (List A)
both_lists a b = option_and_then (λ first. option_and_then (λ rest. Some (first ++ rest)) b) a

pub both : {A : Type 0} (a b : Option (List A)) (all : List A) → both_lists a b ≡ Some all
    → (first : List A) × (rest : List A) × (a ≡ Some first) × (b ≡ Some rest) × (first ++ rest ≡ all)
both (Some first) (Some rest) all h = (first, rest, refl, refl, cc)
both (Some first) None all h = absurd cc
both None b all h = absurd cc

both_assoc : {A : Type 0} (a b c : Option (List A)) → both_lists (both_lists a b) c ≡ both_lists a (both_lists b c)
both_assoc {A} (Some a) (Some b) (Some c) = ap (λ (all : List A). Some all) (append_assoc a b c)
both_assoc (Some a) (Some b) None = refl
both_assoc (Some a) None c = refl
both_assoc None b c = refl

nothing_first : {A : Type 0} (a : Option (List A)) → a ≡ both_lists (Some []) a
nothing_first (Some a) = refl
nothing_first None = refl

pub joined-append : {A : Type 0} (under : Pointer → Option (List A)) (front back : List Pointer)
    → joined under (front ++ back) ≡ both_lists (joined under front) (joined under back)
joined-append under [] back = nothing_first (joined under back)
joined-append under (pointer ∷ front) back =
    ap (both_lists (under pointer)) (joined-append under front back)
    ∙ sym (both_assoc (under pointer) (joined under front) (joined under back))

pub joined_kept : {A : Type 0} (old new : Pointer → Option (List A))
    → ((pointer : Pointer) (items : List A) → old pointer ≡ Some items → new pointer ≡ Some items)
    → (pointers : List Pointer) (items : List A) → joined old pointers ≡ Some items → joined new pointers ≡ Some items
joined_kept old new each [] items h = h
joined_kept {A} old new each (pointer ∷ pointers) items h =
    let parts = both (old pointer) (joined old pointers) items h in
    rw (each pointer parts.0 parts.2, joined_kept old new each pointers parts.1 parts.3)
    (ap (λ (all : List A). Some all) parts.4)

leaf_kept : (found new : Option Node) (items : List Item) → ((node : Node) → found ≡ Some node → new ≡ Some node)
    → option_and_then leaf_items found ≡ Some items → option_and_then leaf_items new ≡ Some items
leaf_kept (Some node) new items keeps h = rw (keeps node refl) h
leaf_kept None new items keeps h = absurd cc

inner_kept : (f g : Pointer → Option (List Item)) → ((pointer : Pointer) (items : List Item) → f pointer ≡ Some items
    → g pointer ≡ Some items)
    → (found new : Option Node) (items : List Item) → ((node : Node) → found ≡ Some node → new ≡ Some node)
    → option_and_then (joined f) (option_and_then inner_pointers found) ≡ Some items
    → option_and_then (joined g) (option_and_then inner_pointers new) ≡ Some items
inner_kept f g each (Some (Inner header pointers)) new items keeps h =
    rw (keeps (Inner header pointers) refl) (joined_kept f g each pointers items h)
inner_kept f g each (Some (Leaf header own)) new items keeps h = absurd cc
inner_kept f g each None new items keeps h = absurd cc

pub under_kept : (old new : ℕ → Option Node) → Keeps old new → (level address : ℕ) (items : List Item)
    → items_below old level address ≡ Some items → items_below new level address ≡ Some items
under_kept old new keeps zero address items h = leaf_kept (old address) (new address) items (keeps.each address) h
under_kept old new keeps (suc level) address items h =
    inner_kept (λ pointer. items_below old level pointer.child) (λ pointer. items_below new level pointer.child)
    (λ pointer own. under_kept old new keeps level pointer.child own) (old address) (new address) items
    (keeps.each address) h

pub all_under_kept : (old new : ℕ → Option Node) → Keeps old new
    → (level : ℕ) (pointers : List Pointer) (items : List Item)
    → joined (λ pointer. items_below old level pointer.child) pointers ≡ Some items
    → joined (λ pointer. items_below new level pointer.child) pointers ≡ Some items
all_under_kept old new keeps level pointers items h =
    joined_kept (λ pointer. items_below old level pointer.child) (λ pointer. items_below new level pointer.child)
    (λ pointer own. under_kept old new keeps level pointer.child own) pointers items h

-- ---- the walk

-- what tells the rule that a node breaks
abbrev pub Judge : Type 0
Judge = Expected → ℕ → Node → Option Failure

-- of two failures neither is one
pub neither : (a b : Option Failure) → first_failure (a ∷ b ∷ []) ≡ None → (a ≡ None) × (b ≡ None)
neither None None h = (refl, refl)
neither None (Some failure) h = absurd cc
neither (Some failure) b h = absurd cc

pub none_of_two : (a b : Option Failure) → a ≡ None → b ≡ None → first_failure (a ∷ b ∷ []) ≡ None
none_of_two a b h k = rw (h, k) refl

pointers_kept : (old new : Expected → ℕ → Option Failure)
    → ((expected : Expected) (address : ℕ) → old expected address ≡ None → new expected address ≡ None)
    → (level : ℕ) (to : Option Key) (pointers : List Pointer) → pointers_failure old level to pointers ≡ None
    → pointers_failure new level to pointers ≡ None
pointers_kept old new each level to [] h = refl
pointers_kept old new each level to (pointer ∷ pointers) h =
    let expected : Expected = record {
      level = Some level;
      generation = Some pointer.generation;
      from = Some pointer.key;
      to = next_key to pointers;
    } in
    let parts = neither (old expected pointer.child) (pointers_failure old level to pointers) h in
    none_of_two (new expected pointer.child) (pointers_failure new level to pointers)
    (each expected pointer.child parts.0) (pointers_kept old new each level to pointers parts.1)

found_kept : (judge : Judge) (old new : Expected → ℕ → Option Failure)
    → ((expected : Expected) (address : ℕ) → old expected address ≡ None → new expected address ≡ None)
    → (expected : Expected) (address : ℕ) (found more : Result Node Failure)
    → ((node : Node) → found ≡ Ok node → more ≡ Ok node)
    → found_failure judge old expected address found ≡ None → found_failure judge new expected address more ≡ None
found_kept judge old new each expected address (Ok node) more keeps h =
    let level = (header_of node).level in
    let parts = neither (judge expected address node) (pointers_failure old (level - 1) expected.to (own_pointers node))
    h in
    rw (keeps node refl)
    (none_of_two (judge expected address node) (pointers_failure new (level - 1) expected.to (own_pointers node))
    parts.0 (pointers_kept old new each (level - 1) expected.to (own_pointers node) parts.1))
found_kept judge old new each expected address (Err failure) more keeps h = absurd cc

-- a walk that meets no failure meets none where more is found
pub walk_kept : (judge : Judge) (old new : ℕ → Result Node Failure)
    → ((address : ℕ) (node : Node) → old address ≡ Ok node → new address ≡ Ok node)
    → (depth : ℕ) (expected : Expected) (address : ℕ) → walk_failure judge old depth expected address ≡ None
    → walk_failure judge new depth expected address ≡ None
unfolding walk_failure
walk_kept judge old new keeps zero expected address h =
    found_kept judge (λ expected address. None) (λ expected address. None) (λ expected address none. none) expected
    address (old address) (new address) (keeps address) h
walk_kept judge old new keeps (suc depth) expected address h =
    found_kept judge (walk_failure judge old depth) (walk_failure judge new depth) (walk_kept judge old new keeps depth)
    expected address (old address) (new address) (keeps address) h

found_among_kept : (address : ℕ) (found more : Option Node) (node : Node)
    → ((node : Node) → found ≡ Some node → more ≡ Some node) → found_there found address ≡ Ok node
    → found_there more address ≡ Ok node
found_among_kept address (Some there) more node keeps h = rw (keeps there refl) h
found_among_kept address None more node keeps h = absurd cc

pub all_walked_kept : (judge : Judge) (old new : List Node) → Keeps (node_among old) (node_among new)
    → (depth level : ℕ) (to : Option Key) (pointers : List Pointer)
    → pointers_failure (walk_failure judge (found_among old) depth) level to pointers ≡ None
    → pointers_failure (walk_failure judge (found_among new) depth) level to pointers ≡ None
all_walked_kept judge old new keeps depth level to pointers h =
    pointers_kept (walk_failure judge (found_among old) depth) (walk_failure judge (found_among new) depth)
    (walk_kept judge (found_among old) (found_among new)
    (λ address node. found_among_kept address (node_among old address) (node_among new address) node
    (keeps.each address)) depth) level to pointers h
