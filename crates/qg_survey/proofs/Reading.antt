-- What was read of nodes, and what one more brings.
use Rattle.std.proofs.Common.{◌≡◌, ◌≢◌, ℕ, zero, suc, ◌≤◌, Bool, false, cond, List, [], map, Option, Some, None, arith}
use Rattle.std.proofs.Common.{refl, sym, ap, subst, ◌∙◌, inl, inr}
use Rattle.std.specs.Prelude.{IsErr, IsSome, OnOk, Result, Ok, Err, is_some, slice_get}
use Rattle.std.specs.BTreeMap.{is_at}
use Rattle.std.specs.List.{Contains}
use Rattle.std.specs.Option.{option_map}
use Rattle.std.specs.Ordering.{nat_cmp}
use Rattle.std.proofs.lemmas.Bool.Decides.{eqb_tells}
use Rattle.std.proofs.lemmas.Option.{same_Some}
use Rattle.qg_node.specs.declared.pointer.Pointer.{Pointer}
use Rattle.qg_node.specs.declared.node.Node.{Node}
use Rattle.qg_node.specs.declared.node.Node.TheVariants.{Leaf, Inner}
use Rattle.qg_node.specs.NodeText.{IsLevelled}
use Rattle.qg_node.specs.Nodes.{header_of, own_pointers}
use Rattle.qg_image.specs.Table.{value_at}
use Rattle.qg_image.specs.State.{Placed, State, node_at}
use Rattle.qg_image.proofs.Contained.{none_contained}
use Rattle.qg_reach.proofs.Members.{contains_map}
use Rattle.qg_qgroup_counts.specs.Surveyed.{surveyed_of}
use Rattle.qg_qgroup_counts.specs.declared.surveyed.Surveyed.{Surveyed}
use Rattle.qg_owner_rule.proofs.Listed.{contains_at}
use Rattle.qg_extents.proofs.Tables.{at_itself, at_other}
use Rattle.qg_tree_read.specs.Tree.{Reaches}
use Rattle.qg_survey.specs.Surveying.{Adds, AreRead, HasBelow, link_at}

abbrev Links : Type 0
Links = List (ℕ × Surveyed)

-- what is there
pub there-is : {A : Type 0} (o : Option A) → IsSome o → (x : A) × (o ≡ Some x)
there-is None some = absurd cc
there-is (Some x) some = (x, refl)

pub is-there : {A : Type 0} (o : Option A) (x : A) → o ≡ Some x → IsSome o
is-there o x is = rw is refl

pub none-there : {A : Type 0} (o : Option A) → is_some o ≡ false → o ≡ None
none-there None none = refl
none-there (Some x) none = absurd cc

-- nothing is said of an `Ok` where there is none
pub on-err : {A B : Type 0} (r : Result A B) (P : Type 0) → IsErr r → OnOk r P
on-err (Ok x) P err = absurd cc
on-err (Err e) P err = tt

-- ---- more is read

pub adds-none : (level : ℕ) (links : Links) → Adds level links links
adds-none level links = record { kept = λ q link is. is; low = λ q link is. inl is }

pub adds-on : (level : ℕ) (old mid new : Links) → Adds level old mid → Adds level mid new → Adds level old new
adds-on level old mid new first second = record {
  kept = λ q link is. second.kept q link (first.kept q link is);
  low = λ q link is. elim (second.low q link is) [
    | inl before ↦ first.low q link before
    | inr low ↦ inr low
  ];
}

pub adds-higher : (level above : ℕ) (old new : Links) → level ≤ above → Adds level old new → Adds above old new
adds-higher level above old new less adds = record {
  kept = adds.kept;
  low = λ q link is. elim (adds.low q link is) [
    | inl before ↦ inl before
    | inr low ↦ inr (omega (arith, low, less))
  ];
}

pub still-read : (level : ℕ) (old new : Links) → Adds level old new → (q : ℕ) → IsSome (link_at old q)
    → IsSome (link_at new q)
still-read level old new adds q some =
    let link = there-is (link_at old q) some in
    is-there (link_at new q) link.0 (adds.kept q link.0 link.1)

-- ---- below what was read

module _ (state : State) where
  abbrev nodes : ℕ → Option Node
  nodes = node_at state.layout

  -- a child of a node that was read is one of those that were read of it
  link_child : (q : ℕ) (placed : Placed) (link : Surveyed) (node : Node) → link ≡ surveyed_of q placed
      → placed.node ≡ node
      → (place : ℕ) (pointer : Pointer) → slice_get (own_pointers node) place ≡ Some pointer
      → Contains link.linked.children pointer.child
  link_child q placed link node is same place pointer there =
      subst (λ (l : Surveyed). Contains l.linked.children pointer.child) (sym is)
      (contains_map (λ (p : Pointer). p.child) (own_pointers placed.node) pointer
      (subst (λ (n : Node). Contains (own_pointers n) pointer) (sym same)
      (contains_at (own_pointers node) place pointer there)))

  node_placed : (q : ℕ) (placed : Placed) (node : Node) → value_at q state.layout ≡ Some placed → nodes q ≡ Some node
      → placed.node ≡ node
  node_placed q placed node has is =
      same_Some placed.node node (sym (ap (option_map (λ (p : Placed). p.node)) has) ∙ is)

  -- where a node was read all that is reached from it was
  pub below-read : (links : Links) → AreRead state links → (level at : ℕ) → IsSome (link_at links at)
      → HasBelow state level at links
  unfolding Reaches
  below-read links read zero at some q reaches = subst (λ (a : ℕ). IsSome (link_at links a)) (sym reaches) some
  below-read links read (suc level) at some q (inl same) = subst (λ (a : ℕ). IsSome (link_at links a)) (sym same) some
  below-read links read (suc level) at some q (inr (node, is, place, pointer, there, further)) =
      let link = there-is (link_at links at) some in
      let its = read.each at link.0 link.1 in
      let same = node_placed at its.0 node its.1 is in
      let child = read.closed at link.0 link.1 pointer.child
      (link_child at its.0 link.0 node its.2 same place pointer there) in
      below-read links read level pointer.child child q further

  -- ---- one node more

  -- from a node of a level it is reached itself
  pub reached-itself : (level at : ℕ) → Reaches nodes level at at
  unfolding Reaches
  reached-itself zero at = refl
  reached-itself (suc level) at = inl refl

  module _ (mid new : Links) (at : ℕ) (link : Surveyed)
      (put : (q : ℕ) → link_at new q ≡ cond (is_at (nat_cmp at) q) (Some link) (link_at mid q)) where
    pub put-there : link_at new at ≡ Some link
    put-there = put at ∙ ap (λ (b : Bool). cond b (Some link) (link_at mid at)) (at_itself at)

    pub put-elsewhere : (q : ℕ) → q ≢ at → link_at new q ≡ link_at mid q
    put-elsewhere q other = put q ∙ ap (λ (b : Bool). cond b (Some link) (link_at mid q)) (at_other at q other)

    module _ (absent : link_at mid at ≡ None) where
      pub put-adds : (level : ℕ) → link.linked.level ≤ level → Adds level mid new
      put-adds level low = record {
        kept = λ q other is. elim (eqb_tells q at) [
          | inl (equal, same) ↦
              absurd (let both : Some other ≡ None = sym is ∙ ap (link_at mid) same ∙ absent in cc)
          | inr (unequal, differ) ↦ put-elsewhere q differ ∙ is
        ];
        low = λ q other is. elim (eqb_tells q at) [
          | inl (equal, same) ↦
              let one : link ≡ other = same_Some link other (sym put-there ∙ ap (link_at new) (sym same) ∙ is) in
              inr (subst (λ (l : Surveyed). l.linked.level ≤ level) one low)
          | inr (unequal, differ) ↦ inl (sym (put-elsewhere q differ) ∙ is)
        ];
      }

    module _ (read : AreRead state mid) (placed : Placed) (has : value_at at state.layout ≡ Some placed)
        (is : link ≡ surveyed_of at placed)
        (children : (child : ℕ) → Contains link.linked.children child → IsSome (link_at mid child)) where
      still : (q : ℕ) → IsSome (link_at mid q) → IsSome (link_at new q)
      still q some = elim (eqb_tells q at) [
        | inl (equal, same) ↦
            subst (λ (a : ℕ). IsSome (link_at new a)) (sym same) (is-there (link_at new at) link put-there)
        | inr (unequal, differ) ↦ subst (λ (o : Option Surveyed). IsSome o) (sym (put-elsewhere q differ)) some
      ]

      pub put-read : AreRead state new
      put-read = record {
        each = λ q other there. elim (eqb_tells q at) [
          | inl (equal, same) ↦
              let one : link ≡ other = same_Some link other (sym put-there ∙ ap (link_at new) (sym same) ∙ there) in (
                placed,
                ap (λ (a : ℕ). value_at a state.layout) same ∙ has,
                sym one ∙ is ∙ ap (λ (a : ℕ). surveyed_of a placed) (sym same),
              )
          | inr (unequal, differ) ↦ read.each q other (sym (put-elsewhere q differ) ∙ there)
        ];
        closed = λ q other there child among. elim (eqb_tells q at) [
          | inl (equal, same) ↦
              let one : link ≡ other = same_Some link other (sym put-there ∙ ap (link_at new) (sym same) ∙ there) in
              still child (children child (subst (λ (l : Surveyed). Contains l.linked.children child) (sym one) among))
          | inr (unequal, differ) ↦
              still child (read.closed q other (sym (put-elsewhere q differ) ∙ there) child among)
        ];
      }

      pub put-below : (level : ℕ) → HasBelow state level at new
      put-below level = below-read new put-read level at (is-there (link_at new at) link put-there)

  -- ---- children

  -- a node of level 0 has none
  none_below : (node : Node) → IsLevelled node → (header_of node).level ≡ 0 → own_pointers node ≡ []
  none_below (Leaf header items) levelled low = refl
  none_below (Inner header pointers) levelled low = let high = levelled.0 in absurd (omega (arith, low, high))

  pub no-children : (at : ℕ) (placed : Placed) (link : Surveyed) → IsLevelled placed.node
      → (header_of placed.node).level ≡ 0
      → link ≡ surveyed_of at placed → (child : ℕ) → Contains link.linked.children child → ⊥
  no-children at placed link levelled low is child among =
      let all = subst (λ (l : Surveyed). Contains l.linked.children child) is among in
      none_contained child (subst
      (λ (pointers : List Pointer). Contains (map (λ (p : Pointer). p.child) pointers) child)
      (none_below placed.node levelled low) all)
