-- The first leaf of a tree, and the least key, which leads to it.
use Rattle.std.proofs.Common.{◌≡◌, ℕ, zero, suc, true, false, List, [], ◌∷◌, add-one, arith, refl, sym, ap, subst, ◌∙◌}
use Rattle.std.proofs.Common.{inl, inr, Option, Some, None, take}
use Rattle.std.specs.Prelude.{◌&&◌, not, slice_get}
use Rattle.std.specs.List.{list_all}
use Rattle.std.specs.Ordering.{is_lt, nat_cmp, ordering_then}
use Rattle.std.specs.Cmp.{nat_cmp_is}
use Rattle.std.specs.declared.cmp.Ordering.{Ordering}
use Rattle.std.specs.declared.cmp.Ordering.TheVariants.{Less, Equal, Greater}
use Rattle.std.proofs.lemmas.Bool.{and_parts}
use Rattle.qg_num.specs.Key.{key_cmp}
use Rattle.qg_num.specs.declared.key.Key.{Key}
use Rattle.qg_node.specs.declared.item.Item.{Item}
use Rattle.qg_node.specs.declared.pointer.Pointer.{Pointer}
use Rattle.qg_node.specs.declared.node.Header.{Header}
use Rattle.qg_node.specs.declared.node.Node.{Node}
use Rattle.qg_node.specs.declared.node.Node.TheVariants.{Leaf, Inner}
use Rattle.qg_node.specs.Nodes.{ascends_from, is_ascending, own_pointers}
use Rattle.qg_shape.specs.Places.{LeadsTo}
use Rattle.qg_walk.proofs.KeyRanges.{less_upto}
use Rattle.qg_tree_edits.specs.First.{first_leaf, items_of, least, pointers_of, under_first}
use Rattle.qg_tree_read.specs.Tree.{Reaches}

-- ---- the least key

least_number : (n : ℕ) → is_lt (nat_cmp n 0) ≡ false
least_number zero = refl
least_number (suc n) = ap is_lt (sym (nat_cmp_is (suc n) 0 Greater (omega arith)))

then_least : (a b : Ordering) → is_lt a ≡ false → is_lt b ≡ false → is_lt (ordering_then a b) ≡ false
then_least Less b first later = absurd cc
then_least Equal b first later = later
then_least Greater b first later = refl

-- no key is less than it
pub none-less : (key : Key) → is_lt (key_cmp key least) ≡ false
none-less key =
    then_least (nat_cmp key.objectid 0) (ordering_then (nat_cmp key.kind 0) (nat_cmp key.offset 0))
    (least_number key.objectid)
    (then_least (nat_cmp key.kind 0) (nat_cmp key.offset 0) (least_number key.kind) (least_number key.offset))

two_upto : (a b : Key) (keys : List Key) → is_ascending (a ∷ b ∷ keys) ≡ true → not (is_lt (key_cmp least b)) ≡ true → ⊥
unfolding is_ascending ascends_from
two_upto a b keys ascending upto =
    let less = (and_parts (is_lt (key_cmp a b)) (ascends_from b keys) ascending).0 in
    let low = less_upto a b least less upto in
    let none = none-less a in
    cc

-- it leads to the first place
pub leads-first : (keys : List Key) (place : ℕ) → LeadsTo keys least place → is_ascending keys ≡ true → place ≡ 0
leads-first keys zero leads ascending = refl
leads-first [] (suc place) leads ascending = let within = leads.within in absurd (omega (arith, within))
leads-first (a ∷ []) (suc place) leads ascending = let within = leads.within in absurd (omega (arith, within))
leads-first (a ∷ b ∷ keys) (suc place) leads ascending =
    let all = subst (λ (n : ℕ). list_all (λ other. not (is_lt (key_cmp least other))) (take n (a ∷ b ∷ keys)) ≡ true)
    (add-one (suc place)) (leads.upto (omega arith)) in
    let first = and_parts (not (is_lt (key_cmp least a))) (not (is_lt (key_cmp least b))
    && list_all (λ (other : Key). not (is_lt (key_cmp least other))) (take place keys)) all in
    let later = and_parts (not (is_lt (key_cmp least b))) (list_all (λ (other : Key). not (is_lt (key_cmp least other)))
    (take place keys)) first.1 in
    absurd (two_upto a b keys ascending later.0)

-- ---- the first leaf

under_same : (under other : ℕ → List Item) (pointers : List Pointer)
    → ((pointer : Pointer) → slice_get pointers 0 ≡ Some pointer → other pointer.child ≡ under pointer.child)
    → under_first other pointers ≡ under_first under pointers
under_same under other [] same = refl
under_same under other (pointer ∷ pointers) same = same pointer refl

first_told : (under : ℕ → List Item) (o : Option Node) (other : ℕ → List Item)
    → ((node : Node) → o ≡ Some node → (pointer : Pointer) → slice_get (own_pointers node) 0 ≡ Some pointer
    → other pointer.child ≡ under pointer.child)
    → under_first other (pointers_of o) ≡ under_first under (pointers_of o)
first_told under None other same = refl
first_told under (Some node) other same = under_same under other (own_pointers node) (same node refl)

-- it has the same items, where what is reached is told as before
pub first-same : (nodes nodes' : ℕ → Option Node) (level at : ℕ)
    → ((q : ℕ) → Reaches nodes level at q → nodes' q ≡ nodes q) → first_leaf nodes' level at ≡ first_leaf nodes level at
unfolding first_leaf Reaches
first-same nodes nodes' zero at same = ap items_of (same at refl)
first-same nodes nodes' (suc level) at same =
    ap (λ (o : Option Node). under_first (λ child. first_leaf nodes' level child) (pointers_of o)) (same at (inl refl))
    ∙ first_told (λ child. first_leaf nodes level child) (nodes at) (λ child. first_leaf nodes' level child)
    (λ node is pointer there. first-same nodes nodes' level pointer.child
    (λ q reaches. same q (inr (node, is, 0, pointer, there, reaches))))

under_get : (under : ℕ → List Item) (pointers : List Pointer) (pointer : Pointer) → slice_get pointers 0 ≡ Some pointer
    → under_first under pointers ≡ under pointer.child
under_get under [] pointer is = absurd cc
under_get under (first ∷ pointers) pointer is = let one : first ≡ pointer = cc in
    ap (λ (p : Pointer). under p.child) one

-- it is the first one under the first pointer
pub first-inner : (nodes : ℕ → Option Node) (level at : ℕ) (header : Header) (pointers : List Pointer)
    (pointer : Pointer) → nodes at ≡ Some (Inner header pointers) → slice_get pointers 0 ≡ Some pointer
    → first_leaf nodes (suc level) at ≡ first_leaf nodes level pointer.child
unfolding first_leaf
first-inner nodes level at header pointers pointer is there =
    ap (λ (o : Option Node). under_first (λ child. first_leaf nodes level child) (pointers_of o)) is
    ∙ under_get (λ child. first_leaf nodes level child) pointers pointer there

pub first-alone : (nodes : ℕ → Option Node) (at : ℕ) (header : Header) (items : List Item)
    → nodes at ≡ Some (Leaf header items) → first_leaf nodes 0 at ≡ items
unfolding first_leaf
first-alone nodes at header items is = ap items_of is
