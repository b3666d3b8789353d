-- What there is, in a list by address.
use Rattle.std.proofs.Common.{◌≡◌, ℕ, Bool, true, false, List, [], ◌∷◌, ◌++◌, refl, sym, ap, ◌∙◌, arith, inl, inr}
use Rattle.std.specs.Prelude.{Option, Some, None, ◌==◌, ◌&&◌, not}
use Rattle.std.specs.List.{filter, find}
use Rattle.std.specs.List.Sorted.{IsStableByKey, ties}
use Rattle.std.specs.Option.{option_map}
use Rattle.std.specs.Ordering.{is_lt, nat_cmp}
use Rattle.std.proofs.lemmas.Bool.{cases_Bool, cond-true, cond-false}
use Rattle.std.proofs.lemmas.Bool.Decides.{nat_tests}
use Rattle.qg_node.specs.Nodes.{header_of}
use Rattle.qg_image.specs.Table.{value_at}
use Rattle.qg_image.specs.ItemMeaning.{◌orelse◌}
use Rattle.qg_image.specs.declared.element.Element.{Element}
use Rattle.qg_image.specs.State.{Layout, Placed}
use Rattle.qg_image.specs.Owed.{what_at, layout_extents}
use Rattle.qg_backref_rule.specs.declared.thing.Thing.{Thing}
use Rattle.qg_backref_rule.specs.declared.thing.Kind.{Kind}
use Rattle.qg_backref_rule.specs.declared.thing.Kind.TheVariants.{Node, Extent}
use Rattle.qg_backref_rule.specs.OwedLists.{kind_at, kind_of}
use Rattle.qg_backref_rule.proofs.Filters.{filter_same, find_of_filter}
use Rattle.qg_backref_rule.proofs.Steps.{address_of_thing}

both_same : (b : Bool) → (b && b) ≡ b
both_same true = refl
both_same false = refl

-- those that tie with one at an address are those at that address
tie_test : (a b : ℕ) → (not (is_lt (nat_cmp a b)) && not (is_lt (nat_cmp b a))) ≡ (b == a)
tie_test a b = grind (arith, nat_tests)

found_of_kept : (xs : List Thing) (a : ℕ)
    → find (λ (t : Thing). t.address == a) xs ≡ find (λ (t : Thing). t.address == a)
    (filter (λ (t : Thing). t.address == a) xs)
found_of_kept xs a = sym (find_of_filter (λ (t : Thing). t.address == a) (λ (t : Thing). t.address == a)
    (λ (t : Thing). t.address == a) xs (λ t. both_same (t.address == a)))

-- a stable sort by address keeps what is first at each
pub kind_at-sorted : (xs ys : List Thing) → IsStableByKey address_of_thing nat_cmp xs ys → (a : ℕ)
    → kind_at ys a ≡ kind_at xs a
kind_at-sorted xs ys stable a =
    let at : Thing = record { address = a; kind = Extent 0 } in
    let same : (zs : List Thing)
    → filter (ties (λ x y. is_lt (nat_cmp (address_of_thing x) (address_of_thing y))) at) zs
    ≡ filter (λ (t : Thing). t.address == a) zs
    = λ zs. filter_same _ (λ (t : Thing). t.address == a) zs (λ t has. tie_test a t.address) in
    ap (option_map (λ (t : Thing). t.kind))
    (found_of_kept ys a ∙ ap (find (λ (t : Thing). t.address == a)) (sym (same ys) ∙ stable at ∙ same xs)
    ∙ sym (found_of_kept xs a))

-- ---- nodes, and then extents

kind_at-append : (xs ys : List Thing) (a : ℕ) → kind_at (xs ++ ys) a ≡ kind_at xs a orelse kind_at ys a
kind_at-append [] ys a = refl
kind_at-append (x ∷ xs) ys a = elim (cases_Bool (x.address == a)) [
  | inl here ↦
      ap (option_map (λ (t : Thing). t.kind))
      (cond-true (x.address == a) (Some x) (find (λ t. t.address == a) (xs ++ ys)) here)
      ∙ sym (ap (λ given. option_map (λ (t : Thing). t.kind) given orelse kind_at ys a)
      (cond-true (x.address == a) (Some x) (find (λ t. t.address == a) xs) here))
  | inr other ↦
      ap (option_map (λ (t : Thing). t.kind))
      (cond-false (x.address == a) (Some x) (find (λ t. t.address == a) (xs ++ ys)) other)
      ∙ kind_at-append xs ys a
      ∙ sym (ap (λ given. option_map (λ (t : Thing). t.kind) given orelse kind_at ys a)
      (cond-false (x.address == a) (Some x) (find (λ t. t.address == a) xs) other))
]

-- what a list of nodes, and one of extents, is to tell at an address
abbrev pub kind_of_node : Option Placed → Option Kind
kind_of_node None = None
kind_of_node (Some placed) = Some (Node (header_of placed.node).level (header_of placed.node).generation placed.full)

abbrev pub kind_of_extent : Option Element → Option Kind
kind_of_extent None = None
kind_of_extent (Some extent) = Some (Extent extent.bytes)

kind_there : (layout : Layout) (a : ℕ) (node : Option Placed) (extent : Option Element) → value_at a layout.nodes ≡ node
    → find (λ (e : Element). e.address == a) (layout_extents layout) ≡ extent
    → kind_of (what_at layout a) ≡ kind_of_node node orelse kind_of_extent extent
kind_there layout a (Some placed) extent is is' = rw is refl
kind_there layout a None (Some extent) is is' = rw is (rw is' refl)
kind_there layout a None None is is' = rw is (rw is' refl)

-- a list of the nodes with one of the extents behind it tells what there is
pub told_there : (layout : Layout) (nodes extents : List Thing)
    → ((a : ℕ) → kind_at nodes a ≡ kind_of_node (value_at a layout.nodes))
    → ((a : ℕ) → kind_at extents a ≡ kind_of_extent (find (λ (e : Element). e.address == a) (layout_extents layout)))
    → (a : ℕ) → kind_at (nodes ++ extents) a ≡ kind_of (what_at layout a)
told_there layout nodes extents are are' a =
    kind_at-append nodes extents a ∙ (λ i. are a i orelse are' a i)
    ∙ sym (kind_there layout a (value_at a layout.nodes)
    (find (λ (e : Element). e.address == a) (layout_extents layout)) refl refl)
