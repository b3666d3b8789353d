-- Which nodes are known to be at home, once those of one more group are, or of one more node.
use Rattle.std.proofs.Common.{◌≡◌, ℕ, ◌+◌, ◌<◌, ◌≤◌, ◌≢◌, Bool, true, false, List, [], length, take, get_or, set}
use Rattle.std.proofs.Common.{map, Some, refl, sym, ap, subst, ◌∙◌, arith, ◌⊎◌, inl, inr, ◌↔◌, get_or-set_same}
use Rattle.std.proofs.Common.{get_or-set_other}
use Rattle.std.specs.Prelude.{slice_get}
use Rattle.std.specs.Int.{bit_at}
use Rattle.std.specs.List.{All}
use Rattle.std.specs.List.Sorted.{IsStrictlyIncreasing}
use Rattle.std.proofs.lemmas.Bool.{cases_lt}
use Rattle.std.proofs.lemmas.List.{get_or-map}
use Rattle.std.proofs.lemmas.List.Elements.{All-contains}
use Rattle.std.proofs.lemmas.Option.{slice_get_within, get_or_from_slice_get}
use Rattle.qg_owner_rule.specs.declared.linked.Linked.{Linked}
use Rattle.qg_owner_rule.specs.Leading.{Leads, IsReached, IsAtHome}
use Rattle.qg_owner_rule.specs.Places.{StandsAt, AreOthers}
use Rattle.qg_owner_rule.specs.Marks.{AreOfReach, HasOwnersMark}
use Rattle.qg_owner_rule.specs.Housed.{IsHoused, AreHousedToo, AreHoused, OwnNone}
use Rattle.qg_owner_rule.proofs.Listed.{at_one, at_along, at_front, at_whole, within_front, All-at, index_of}
use Rattle.qg_owner_rule.proofs.Listed.{contains_at}
use Rattle.qg_owner_rule.proofs.Ascending.{one_place}

-- ---- the owner's mark

pub owners_mark_is : (group : List (ℕ × ℕ)) (marks bit : ℕ) (node : Linked)
    → IsStrictlyIncreasing (map (λ root. root.0) group) → StandsAt (λ root. root.0) group node.owner bit
    → HasOwnersMark group marks node ↔ (bit_at marks bit ≡ 1)
owners_mark_is group marks bit node up stands = (
  λ mark.
      let same =
      one_place (λ (r : ℕ × ℕ). r.0) group up mark.0 bit mark.1 stands.0 mark.2 stands.1 (mark.3 ∙ sym stands.2) in
      subst (λ k. bit_at marks k ≡ 1) same mark.4,
  λ has. (bit, stands.0, stands.1, stands.2, has),
)

pub owners_mark_none : (group : List (ℕ × ℕ)) (marks : ℕ) (node : Linked) → AreOthers (λ root. root.0) group node.owner
    → HasOwnersMark group marks node → ⊥
owners_mark_none group marks node others mark =
    All-at (λ (r : ℕ × ℕ). r.0 ≢ node.owner) group mark.0 mark.1 others mark.2 mark.3

pub owners_mark_reached : (nodes : List Linked) (group : List (ℕ × ℕ)) (rows : List ℕ) (place : ℕ) (node : Linked)
    → AreOfReach nodes group rows → slice_get nodes place ≡ Some node
    → HasOwnersMark group (get_or rows place 0) node ↔ IsReached nodes group node
owners_mark_reached nodes group rows place node are at = (into, back) where
  into : HasOwnersMark group (get_or rows place 0) node → IsReached nodes group node
  into mark =
      let found = (are place mark.0 node at).0 mark.4 in
      let one = at_one group mark.0 found.0 mark.1 found.1 mark.2 in
      (mark.1, contains_at group mark.0 mark.1 mark.2, mark.3, subst (λ (r : ℕ × ℕ). Leads nodes r.1 node) one found.2)

  back : IsReached nodes group node → HasOwnersMark group (get_or rows place 0) node
  back reached =
      let p = index_of group reached.0 reached.1 in
      (p.0, reached.0, p.1, reached.2, (are place p.0 node at).1 (reached.0, p.1, reached.3))

-- ---- one node after the other

-- the nodes in front of an index have been looked at
pub record Housing (nodes : List Linked) (group : List (ℕ × ℕ)) (old new : List Bool) (i : ℕ) : Type 0 where
  pub done : (place : ℕ) (node : Linked) → place < i → slice_get nodes place ≡ Some node
      → IsHoused new place ↔ (IsHoused old place ⊎ IsReached nodes group node)
  pub rest : (place : ℕ) → i ≤ place → get_or new place false ≡ get_or old place false

pub housing_none : (nodes : List Linked) (group : List (ℕ × ℕ)) (housed : List Bool)
    → Housing nodes group housed housed 0
housing_none nodes group housed =
    record { done = λ place node short at. absurd (omega (arith, short)); rest = λ place from. refl }

pub housing_all : (nodes : List Linked) (group : List (ℕ × ℕ)) (old new : List Bool) (i : ℕ) → length nodes ≤ i
    → Housing nodes group old new i → AreHousedToo nodes group old new
housing_all nodes group old new i all housing place node at =
    let short = slice_get_within nodes place node at in housing.done place node (omega arith) at

module _ (nodes : List Linked) (group : List (ℕ × ℕ)) (old new : List Bool) (i : ℕ) (node : Linked)
    (here : slice_get nodes i ≡ Some node) (housing : Housing nodes group old new i) where
  pub housing_same : (IsReached nodes group node → ⊥) → Housing nodes group old new (i + 1)
  housing_same not' =
      record {
        done = λ place other short at. done place other short at (cases_lt place i);
        rest = λ place from. housing.rest place (omega (arith, from));
      } where
        done : (place : ℕ) (other : Linked) → place < i + 1 → slice_get nodes place ≡ Some other
            → (place < i) ⊎ (i ≤ place) → IsHoused new place ↔ (IsHoused old place ⊎ IsReached nodes group other)
        done place other short at (inl less) = housing.done place other less at
        done place other short at (inr more) = (λ has. inl (sym (housing.rest place more) ∙ has), back) where
          is : place ≡ i
          is = omega (arith, short, more)

          back : IsHoused old place ⊎ IsReached nodes group other → IsHoused new place
          back (inl has) = housing.rest place more ∙ has
          back (inr reached) =
              let one = at_one nodes i other node (at_along nodes place i other is at) here in
              absurd (not' (subst (λ n. IsReached nodes group n) one reached))

  pub housing_more : i < length new → IsReached nodes group node → Housing nodes group old (set new i true) (i + 1)
  housing_more inside reached = record {
    done = λ place other short at. done place other short at (cases_lt place i);
    rest = λ place from. get_or-set_other new i place true false (omega (arith, from))
        ∙ housing.rest place (omega (arith, from));
  } where
    done : (place : ℕ) (other : Linked) → place < i + 1 → slice_get nodes place ≡ Some other → (place < i) ⊎ (i ≤ place)
        → IsHoused (set new i true) place ↔ (IsHoused old place ⊎ IsReached nodes group other)
    done place other short at (inl less) =
        let same = get_or-set_other new i place true false (omega (arith, less)) in
        let both = housing.done place other less at in
        (λ has. both.0 (sym same ∙ has), λ either. same ∙ both.1 either)
    done place other short at (inr more) =
        let is : i ≡ place = omega (arith, short, more) in
        let one = at_one nodes place node other (at_along nodes i place node is here) at in (
          λ has. inr (subst (λ n. IsReached nodes group n) one reached),
          λ either. subst (λ k. IsHoused (set new i true) k) is (get_or-set_same new i true false inside),
        )

-- ---- owners that own none

pub own_more : (nodes : List Linked) (group : List (ℕ × ℕ)) (housed : List Bool) (i : ℕ) (node : Linked)
    → slice_get nodes i ≡ Some node
    → IsHoused housed i ⊎ All (λ root. root.0 ≢ node.owner) group → OwnNone (take i nodes) group housed
    → OwnNone (take (i + 1) nodes) group housed
own_more nodes group housed i node here either own place other at = cases (cases_lt place i) where
  whole : slice_get nodes place ≡ Some other
  whole = at_whole (i + 1) nodes place other at

  cases : (place < i) ⊎ (i ≤ place) → IsHoused housed place ⊎ All (λ root. root.0 ≢ other.owner) group
  cases (inl less) = own place other (at_front i nodes place other less whole)
  cases (inr more) =
      let short = within_front (i + 1) nodes place other at in
      let is : i ≡ place = omega (arith, short, more) in
      let one = at_one nodes place node other (at_along nodes i place node is here) whole in
      subst (λ n. IsHoused housed place ⊎ All (λ (root : ℕ × ℕ). root.0 ≢ n.owner) group) one
      (subst (λ k. IsHoused housed k ⊎ All (λ (root : ℕ × ℕ). root.0 ≢ node.owner) group) is either)

pub own_none_same : (nodes : List Linked) (group : List (ℕ × ℕ)) (housed : List Bool) → OwnNone nodes group housed
    → AreHousedToo nodes group housed housed
own_none_same nodes group housed own place node at = (inl, back) where
  none : IsHoused housed place ⊎ All (λ root. root.0 ≢ node.owner) group → IsReached nodes group node
      → IsHoused housed place
  none (inl has) reached = has
  none (inr others) reached =
      absurd (All-contains (λ (root : ℕ × ℕ). root.0 ≢ node.owner) group reached.0 others reached.1 reached.2)

  back : IsHoused housed place ⊎ IsReached nodes group node → IsHoused housed place
  back (inl has) = has
  back (inr reached) = none (own place node at) reached

-- ---- before any group

pub housed_none : (nodes : List Linked) (housed : List Bool) → housed ≡ map (λ node. node.full) nodes
    → AreHoused nodes [] housed
housed_none nodes housed are place node at = (λ has. inl (sym is ∙ has), back) where
  is : get_or housed place false ≡ node.full
  is =
      ap (λ (list : List Bool). get_or list place false) are
      ∙ get_or-map (λ (n : Linked). n.full) nodes place node false (slice_get_within nodes place node at)
      ∙ ap (λ (n : Linked). n.full) (get_or_from_slice_get nodes place node node at)

  back : IsAtHome nodes [] node → IsHoused housed place
  back (inl full) = is ∙ full
  back (inr reached) = absurd (omega (arith, reached.1.1))
