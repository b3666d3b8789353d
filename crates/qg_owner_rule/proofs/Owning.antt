-- Nodes that their owners reach by way of their own nodes alone, as they are marked one after the other.
use Rattle.std.proofs.Common.{◌≡◌, ℕ, ◌+◌, ◌<◌, Bool, true, false, List, [], ◌++◌, length, take, get_or, set}
use Rattle.std.proofs.Common.{Some, sym, ap, subst, ◌∙◌, arith, ◌⊎◌, inl, inr, get_or-set_same}
use Rattle.std.proofs.Common.{get_or-set_other}
use Rattle.std.specs.Prelude.{slice_get}
use Rattle.std.specs.List.{All, Contains}
use Rattle.std.proofs.lemmas.Bool.{cases_eq}
use Rattle.std.proofs.lemmas.List.Elements.{Contains-append_cases, Contains-append_left, Contains-append_right}
use Rattle.std.proofs.lemmas.List.Elements.{Contains-get_or}
use Rattle.std.proofs.lemmas.Option.{slice_get_within}
use Rattle.qg_owner_rule.specs.declared.linked.Linked.{Linked}
use Rattle.qg_owner_rule.specs.Leading.{Leads, IsAtHome, IsReached, PointsTo}
use Rattle.qg_owner_rule.specs.Leading.Leads.{Here, Down}
use Rattle.qg_owner_rule.specs.Marks.{AreBelow}
use Rattle.qg_owner_rule.specs.Housed.{AreHoused, AreHousedAmong, AreHousedSoundly, AreHousedToo, AreOwn, HaveThose}
use Rattle.qg_owner_rule.specs.Housed.{IsHoused, IsOwnRoot, StayOwn, WereGiven}
use Rattle.qg_owner_rule.proofs.Listed.{at_one, at_along, contains_at, in_front_more}

-- ---- one mark

pub put_cases : (own : List Bool) (at place : ℕ) → IsHoused (set own at true) place → IsHoused own place ⊎ (at ≡ place)
put_cases own at place has = cases (cases_eq at place) where
  cases : (at ≡ place) ⊎ (at ≡ place → ⊥) → IsHoused own place ⊎ (at ≡ place)
  cases (inl same) = inr same
  cases (inr other) = inl (sym (get_or-set_other own at place true false (λ is. other (sym is))) ∙ has)

put_there : (own : List Bool) (at : ℕ) → at < length own → IsHoused (set own at true) at
put_there own at inside = get_or-set_same own at true false inside

-- a node that its owner reaches is marked
pub own_more : (nodes : List Linked) (subvolumes : List (ℕ × ℕ)) (own : List Bool) (i : ℕ) (node : Linked)
    → slice_get nodes i ≡ Some node → IsReached nodes subvolumes node → AreOwn nodes subvolumes own
    → AreOwn nodes subvolumes (set own i true)
own_more nodes subvolumes own i node here reached are place other at has = cases (put_cases own i place has) where
  cases : IsHoused own place ⊎ (i ≡ place) → IsReached nodes subvolumes other
  cases (inl before) = are place other at before
  cases (inr same) =
      subst (IsReached nodes subvolumes) (at_one nodes place node other (at_along nodes i place node same here) at)
      reached

-- ---- who is reached

-- the root of its owner
pub root_reached : (nodes : List Linked) (subvolumes : List (ℕ × ℕ)) (i : ℕ) (node : Linked)
    → slice_get nodes i ≡ Some node → IsOwnRoot subvolumes node → IsReached nodes subvolumes node
root_reached nodes subvolumes i node at root =
    (root.0, root.1, root.2, Here node (contains_at nodes i node at) (sym root.3))

-- a child that has the same owner
child_reached : (nodes : List Linked) (subvolumes : List (ℕ × ℕ)) (parent child : Linked) → Contains nodes child
    → PointsTo parent child → child.owner ≡ parent.owner → IsReached nodes subvolumes parent
    → IsReached nodes subvolumes child
child_reached nodes subvolumes parent child has points same reached =
    (reached.0, reached.1, reached.2 ∙ sym same, Down parent child reached.3 has points)

-- ---- children

pub given_none : (nodes : List Linked) (places : List ℕ) (owner : ℕ) (own : List Bool)
    → WereGiven nodes (take 0 places) owner own own
given_none nodes places owner own place node at has = inl has

module _ (nodes : List Linked) (places : List ℕ) (owner : ℕ) (old mid : List Bool) (i at : ℕ) (node : Linked)
    (short : i < length places) (read : at ≡ get_or places i at) (here : slice_get nodes at ≡ Some node)
    (given : WereGiven nodes (take i places) owner old mid) where
  wider : (place : ℕ) → Contains (take i places) place → Contains (take (i + 1) places) place
  wider place has = in_front_more places i at place short read (inl has)

  pub given_same : WereGiven nodes (take (i + 1) places) owner old mid
  given_same place other is has = cases (given place other is has) where
    cases : IsHoused old place ⊎ (Contains (take i places) place × (other.owner ≡ owner))
        → IsHoused old place ⊎ (Contains (take (i + 1) places) place × (other.owner ≡ owner))
    cases (inl before) = inl before
    cases (inr new) = inr (wider place new.0, new.1)

  pub given_more : node.owner ≡ owner → WereGiven nodes (take (i + 1) places) owner old (set mid at true)
  given_more same place other is has = cases (put_cases mid at place has) where
    cases : IsHoused mid place ⊎ (at ≡ place)
        → IsHoused old place ⊎ (Contains (take (i + 1) places) place × (other.owner ≡ owner))
    cases (inl before) = given_same place other is before
    cases (inr there) =
        let one = at_one nodes place node other (at_along nodes at place node there here) is in
        inr (in_front_more places i at place short read (inr there), ap (λ (n : Linked). n.owner) (sym one) ∙ same)

-- those that a node points to are among the nodes
pub below_within : (nodes : List Linked) (below : List (List ℕ)) (i : ℕ) (parent : Linked) → AreBelow nodes below
    → slice_get nodes i ≡ Some parent → All (λ place. place < length nodes) (get_or below i [])
below_within nodes below i parent are at = λ k d short.
    let place = get_or (get_or below i []) k d in
    let child = (are.each i parent at).into place (Contains-get_or (get_or below i []) k d short) in
    slice_get_within nodes place child.0 child.1

-- a marked node's children of the same owner are marked
pub level_more : (nodes : List Linked) (below : List (List ℕ)) (i : ℕ) (parent : Linked) (old mid new : List Bool)
    → AreBelow nodes below → slice_get nodes i ≡ Some parent → IsHoused mid i → StayOwn nodes old mid
    → WereGiven nodes (get_or below i []) parent.owner mid new → StayOwn nodes old new
level_more nodes below i parent old mid new are here marked stay given subvolumes first place node at has =
    cases (given place node at has) where
      second : AreOwn nodes subvolumes mid
      second = stay subvolumes first

      cases : IsHoused mid place ⊎ (Contains (get_or below i []) place × (node.owner ≡ parent.owner))
          → IsReached nodes subvolumes node
      cases (inl before) = second place node at before
      cases (inr new) =
          let child = (are.each i parent here).into place new.0 in
          let one = at_one nodes place child.0 node child.1 at in
          let points = subst (PointsTo parent) one child.2 in
          child_reached nodes subvolumes parent node (contains_at nodes place node at) points new.1
          (second i parent here marked)

-- ---- those are at home

pub those_soundly : (nodes : List Linked) (subvolumes : List (ℕ × ℕ)) (own old new : List Bool)
    → AreOwn nodes subvolumes own → HaveThose own old new → AreHousedSoundly nodes subvolumes old new
those_soundly nodes subvolumes own old new are have place node at =
    (λ has. (have place).1 (inl has), λ has. cases ((have place).0 has)) where
      cases : IsHoused old place ⊎ IsHoused own place → IsHoused old place ⊎ IsReached nodes subvolumes node
      cases (inl before) = inl before
      cases (inr marked) = inr (are place node at marked)

-- ---- group after group

pub among_none : (nodes : List Linked) (all : List (ℕ × ℕ)) (old new : List Bool) → AreHoused nodes [] old
    → AreHousedSoundly nodes all old new → AreHousedAmong nodes all [] new
among_none nodes all old new are soundly place node at =
    (λ has. cases ((soundly place node at).1 has), λ home. (soundly place node at).0 ((are place node at).1 home)) where
      full : IsAtHome nodes [] node → IsAtHome nodes all node
      full (inl is) = inl is
      full (inr reached) = absurd (omega (arith, reached.1.1))

      cases : IsHoused old place ⊎ IsReached nodes all node → IsAtHome nodes all node
      cases (inl before) = full ((are place node at).0 before)
      cases (inr reached) = inr reached

pub among_more : (nodes : List Linked) (all taken group others : List (ℕ × ℕ)) (old new : List Bool)
    → all ≡ (taken ++ group) ++ others → AreHousedAmong nodes all taken old → AreHousedToo nodes group old new
    → AreHousedAmong nodes all (taken ++ group) new
among_more nodes all taken group others old new are among too place node at =
    (λ has. into ((too place node at).0 has), back) where
      within : (root : ℕ × ℕ) → Contains group root → Contains all root
      within root has =
          subst (λ list. Contains list root) (sym are)
          (Contains-append_left (taken ++ group) others root (Contains-append_right taken group root has))

      into : IsHoused old place ⊎ IsReached nodes group node → IsAtHome nodes all node
      into (inl has) = (among place node at).0 has
      into (inr reached) = inr (reached.0, within reached.0 reached.1, reached.2, reached.3)

      before : IsAtHome nodes taken node → IsHoused new place
      before home = (too place node at).1 (inl ((among place node at).1 home))

      parted : (root : ℕ × ℕ) → root.0 ≡ node.owner → Leads nodes root.1 node
          → Contains taken root ⊎ Contains group root → IsHoused new place
      parted root own leads (inl has) = before (inr (root, has, own, leads))
      parted root own leads (inr has) = (too place node at).1 (inr (root, has, own, leads))

      back : IsAtHome nodes (taken ++ group) node → IsHoused new place
      back (inl full) = before (inl full)
      back (inr reached) =
          parted reached.0 reached.2 reached.3 (Contains-append_cases taken group reached.0 reached.1)

pub among_all : (nodes : List Linked) (all : List (ℕ × ℕ)) (housed : List Bool) → AreHousedAmong nodes all all housed
    → AreHoused nodes all housed
among_all nodes all housed among place node at = ((among place node at).0, (among place node at).1)
