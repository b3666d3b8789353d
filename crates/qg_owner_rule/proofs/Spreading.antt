-- Marks that go down, level by level, to all that pointers lead to.
use Rattle.std.proofs.Common.{◌≡◌, ℕ, ◌+◌, ◌<◌, ◌≤◌, List, [], length, take, get_or, map, Some, refl, sym, ap, subst}
use Rattle.std.proofs.Common.{◌∙◌, arith, ◌⊎◌, inl, inr}
use Rattle.std.specs.Prelude.{slice_get}
use Rattle.std.specs.Int.{bit_at}
use Rattle.std.specs.List.{All, Contains}
use Rattle.std.specs.List.Sorted.{IsStrictlyIncreasing}
use Rattle.std.proofs.lemmas.Bool.{cases_eq, cases_lt}
use Rattle.std.proofs.lemmas.List.{take_all}
use Rattle.std.proofs.lemmas.List.Elements.{Contains-get_or}
use Rattle.std.proofs.lemmas.Option.{slice_get_within}
use Rattle.qg_owner_rule.specs.declared.linked.Linked.{Linked}
use Rattle.qg_owner_rule.specs.Leading.{PointsTo, Leads, Here, Down}
use Rattle.qg_owner_rule.specs.Marks.{HasMark, AreBelow, HaveAlso, IsMarkedAbove, AreSpread, IsLedTo, HaveGone}
use Rattle.qg_owner_rule.specs.Marks.{AreOfRoots}
use Rattle.qg_owner_rule.specs.Marks.{AreOfReach}
use Rattle.qg_owner_rule.proofs.Listed.{at_one, at_along, at_front, at_whole, within_front, All-at, index_of}
use Rattle.qg_owner_rule.proofs.Listed.{contains_at}
use Rattle.qg_owner_rule.proofs.Ascending.{one_place}

-- ---- one level

pub spread_none : (nodes : List Linked) (level : ℕ) (rows : List ℕ) → AreSpread (take 0 nodes) nodes level rows rows
spread_none nodes level rows place bit node at = (inl, only) where
  only : HasMark rows place bit ⊎ IsMarkedAbove (take 0 nodes) level rows node bit → HasMark rows place bit
  only (inl has) = has
  only (inr above) = absurd (omega (arith, within_front 0 nodes above.0 above.1 above.2))

pub spread_all : (nodes : List Linked) (n level : ℕ) (old new : List ℕ) → length nodes ≤ n
    → AreSpread (take n nodes) nodes level old new → AreSpread nodes nodes level old new
spread_all nodes n level old new all spread =
    subst (λ above. AreSpread above nodes level old new) (take_all n nodes all) spread

-- those that a node points to have rows
pub below_inside : (nodes : List Linked) (below : List (List ℕ)) (rows : List ℕ) (i : ℕ) (parent : Linked)
    → AreBelow nodes below → slice_get nodes i ≡ Some parent
    → length rows ≡ length nodes → All (λ place. place < length rows) (get_or below i [])
below_inside nodes below rows i parent are at same = λ k d short.
    let place = get_or (get_or below i []) k d in
    let child = (are.each i parent at).into place (Contains-get_or (get_or below i []) k d short) in
    let inside = slice_get_within nodes place child.0 child.1 in
    omega (arith, inside, same)

module _ (nodes : List Linked) (level i : ℕ) (parent : Linked) (here : slice_get nodes i ≡ Some parent) where
  earlier : (rows : List ℕ) (child : Linked) (bit : ℕ) → IsMarkedAbove (take i nodes) level rows child bit
      → IsMarkedAbove (take (i + 1) nodes) level rows child bit
  earlier rows child bit above =
      let short = within_front i nodes above.0 above.1 above.2 in (
        above.0,
        above.1,
        at_front (i + 1) nodes above.0 above.1 (omega (arith, short))
            (at_whole i nodes above.0 above.1 above.2),
        above.3,
        above.4,
        above.5,
      )

  now : (rows : List ℕ) (child : Linked) (bit : ℕ) → parent.level ≡ level → PointsTo parent child → HasMark rows i bit
      → IsMarkedAbove (take (i + 1) nodes) level rows child bit
  now rows child bit is points has = (i, parent, at_front (i + 1) nodes i parent (omega arith) here, is, points, has)

  more_cases : (rows : List ℕ) (child : Linked) (bit : ℕ) → IsMarkedAbove (take (i + 1) nodes) level rows child bit
      → IsMarkedAbove (take i nodes) level rows child bit
      ⊎ ((parent.level ≡ level) × PointsTo parent child × HasMark rows i bit)
  more_cases rows child bit above = cases (cases_lt above.0 i) where
    whole : slice_get nodes above.0 ≡ Some above.1
    whole = at_whole (i + 1) nodes above.0 above.1 above.2

    cases : (above.0 < i) ⊎ (i ≤ above.0)
        → IsMarkedAbove (take i nodes) level rows child bit
        ⊎ ((parent.level ≡ level) × PointsTo parent child × HasMark rows i bit)
    cases (inl less) = inl (above.0, above.1, at_front i nodes above.0 above.1 less whole, above.3, above.4, above.5)
    cases (inr more) =
        let short = within_front (i + 1) nodes above.0 above.1 above.2 in
        let is : above.0 ≡ i = omega (arith, short, more) in
        let one = at_one nodes i above.1 parent (at_along nodes above.0 i above.1 is whole) here in
        inr (
          ap (λ (n : Linked). n.level) (sym one) ∙ above.3,
          subst (λ n. PointsTo n child) one above.4,
          subst (λ k. HasMark rows k bit) is above.5,
        )

  -- a node that gives nothing on
  pub spread_same : (old new : List ℕ) → (parent.level ≡ level → (bit : ℕ) → HasMark new i bit → ⊥)
      → AreSpread (take i nodes) nodes level old new → AreSpread (take (i + 1) nodes) nodes level old new
  spread_same old new nothing spread place bit node at = (λ has. into ((spread place bit node at).0 has), back) where
    into : HasMark old place bit ⊎ IsMarkedAbove (take i nodes) level old node bit
        → HasMark old place bit ⊎ IsMarkedAbove (take (i + 1) nodes) level old node bit
    into (inl has) = inl has
    into (inr above) = inr (earlier old node bit above)

    given : IsMarkedAbove (take i nodes) level old node bit
        ⊎ ((parent.level ≡ level) × PointsTo parent node × HasMark old i bit) → HasMark new place bit
    given (inl above) = (spread place bit node at).1 (inr above)
    given (inr parted) = absurd (nothing parted.0 bit ((spread i bit parent here).1 (inl parted.2)))

    back : HasMark old place bit ⊎ IsMarkedAbove (take (i + 1) nodes) level old node bit → HasMark new place bit
    back (inl has) = (spread place bit node at).1 (inl has)
    back (inr above) = given (more_cases old node bit above)

  -- a node that gives its marks on: it has none but those that it had before
  pub spread_more : (below : List (List ℕ)) (old mid new : List ℕ) → parent.level ≡ level → AreBelow nodes below
      → AreSpread (take i nodes) nodes level old mid
      → HaveAlso (get_or below i []) (get_or mid i 0) mid new → AreSpread (take (i + 1) nodes) nodes level old new
  spread_more below old mid new is are spread also place bit node at =
      (λ has. into ((also place bit).0 has), back) where
        own : HasMark old i bit ⊎ IsMarkedAbove (take i nodes) level old parent bit → HasMark old i bit
        own (inl has) = has
        own (inr above) = absurd (omega (arith, is, above.3, above.4.lower))

        kept : HasMark old place bit ⊎ IsMarkedAbove (take i nodes) level old node bit
            → HasMark old place bit ⊎ IsMarkedAbove (take (i + 1) nodes) level old node bit
        kept (inl has) = inl has
        kept (inr above) = inr (earlier old node bit above)

        into : HasMark mid place bit ⊎ (Contains (get_or below i []) place × (bit_at (get_or mid i 0) bit ≡ 1))
            → HasMark old place bit ⊎ IsMarkedAbove (take (i + 1) nodes) level old node bit
        into (inl has) = kept ((spread place bit node at).0 has)
        into (inr given) =
            let child = (are.each i parent here).into place given.0 in
            let one = at_one nodes place child.0 node child.1 at in
            inr (now old node bit is (subst (λ n. PointsTo parent n) one child.2)
            (own ((spread i bit parent here).0 given.1)))

        given : IsMarkedAbove (take i nodes) level old node bit
            ⊎ ((parent.level ≡ level) × PointsTo parent node × HasMark old i bit) → HasMark new place bit
        given (inl above) = (also place bit).1 (inl ((spread place bit node at).1 (inr above)))
        given (inr parted) =
            (also place bit).1
            (inr ((are.each i parent here).all place node at parted.1, (spread i bit parent here).1 (inl parted.2)))

        back : HasMark old place bit ⊎ IsMarkedAbove (take (i + 1) nodes) level old node bit → HasMark new place bit
        back (inl has) = (also place bit).1 (inl ((spread place bit node at).1 (inl has)))
        back (inr above) = given (more_cases old node bit above)

-- ---- level by level

pub leads_in : (nodes : List Linked) (start : ℕ) (x : Linked) → Leads nodes start x → Contains nodes x
leads_in nodes start x (Here node has is) = has
leads_in nodes start x (Down parent child leads has points) = has

pub leads_from : (nodes : List Linked) (start : ℕ) (x : Linked) → Leads nodes start x
    → (node : Linked) × Contains nodes node × (node.address ≡ start)
leads_from nodes start x (Here node has is) = (node, has, is)
leads_from nodes start x (Down parent child leads has points) = leads_from nodes start parent leads

-- the marks of all levels above one have been given on
pub record Going (nodes : List Linked) (old new : List ℕ) (level : ℕ) : Type 0 where
  pub kept : (place bit : ℕ) (node : Linked) → slice_get nodes place ≡ Some node → HasMark old place bit
      → HasMark new place bit
  pub sound : (place bit : ℕ) (node : Linked) → slice_get nodes place ≡ Some node → HasMark new place bit
      → IsLedTo nodes old node bit
  pub closed : (i j bit : ℕ) (parent child : Linked) → slice_get nodes i ≡ Some parent → level < parent.level
      → slice_get nodes j ≡ Some child → PointsTo parent child
      → HasMark new i bit → HasMark new j bit

pub going_none : (nodes : List Linked) (rows : List ℕ) (highest : ℕ) → All (λ node. node.level ≤ highest) nodes
    → Going nodes rows rows highest
going_none nodes rows highest all = record {
  kept = λ place bit node at has. has;
  sound = λ place bit node at has. (place, node, at, has, Here node (contains_at nodes place node at) refl);
  closed =
      λ i j bit parent child at high at' points has. let low =
      All-at (λ (n : Linked). n.level ≤ highest) nodes i parent all at in absurd (omega (arith, high, low));
}

pub going_more : (nodes : List Linked) (old mid new : List ℕ) (level next : ℕ) → level ≡ next + 1
    → Going nodes old mid level → AreSpread nodes nodes level mid new → Going nodes old new next
going_more nodes old mid new level next is going spread = record {
  kept = λ place bit node at has. (spread place bit node at).1 (inl (going.kept place bit node at has));
  sound = λ place bit node at has. sound place bit node at ((spread place bit node at).0 has);
  closed =
      λ i j bit parent child at high at' points has.
      closed i j bit parent child at high at' points (own i bit parent high ((spread i bit parent at).0 has));
} where
  sound : (place bit : ℕ) (node : Linked) → slice_get nodes place ≡ Some node
      → HasMark mid place bit ⊎ IsMarkedAbove nodes level mid node bit → IsLedTo nodes old node bit
  sound place bit node at (inl has) = going.sound place bit node at has
  sound place bit node at (inr above) =
      let led = going.sound above.0 bit above.1 above.2 above.5 in
      (led.0, led.1, led.2, led.3, Down above.1 node led.4 (contains_at nodes place node at) above.4)

  own : (i bit : ℕ) (parent : Linked) → next < parent.level
      → HasMark mid i bit ⊎ IsMarkedAbove nodes level mid parent bit → HasMark mid i bit
  own i bit parent high (inl has) = has
  own i bit parent high (inr above) = absurd (omega (arith, is, high, above.3, above.4.lower))

  closed : (i j bit : ℕ) (parent child : Linked) → slice_get nodes i ≡ Some parent → next < parent.level
      → slice_get nodes j ≡ Some child → PointsTo parent child
      → HasMark mid i bit → HasMark new j bit
  closed i j bit parent child at high at' points has = cases (cases_eq parent.level level) where
    cases : (parent.level ≡ level) ⊎ (parent.level ≡ level → ⊥) → HasMark new j bit
    cases (inl same) = (spread j bit child at').1 (inr (i, parent, at, same, points, has))
    cases (inr other) =
        (spread j bit child at').1
        (inl (going.closed i j bit parent child at (omega (arith, is, high, other)) at' points has))

module _ (nodes : List Linked) (up : IsStrictlyIncreasing (map (λ node. node.address) nodes)) (old new : List ℕ)
    (going : Going nodes old new 0) (i bit : ℕ) (start : Linked)
    (at : slice_get nodes i ≡ Some start) (has : HasMark old i bit) where
  arrives : (x : Linked) → Leads nodes start.address x → (j : ℕ) → slice_get nodes j ≡ Some x → HasMark new j bit
  arrives x (Here node in' is) j at' =
      let same = one_place (λ (n : Linked). n.address) nodes up i j start node at at' (sym is) in
      going.kept j bit node at' (subst (λ k. HasMark old k bit) same has)
  arrives x (Down parent child leads in' points) j at' =
      let p = index_of nodes parent (leads_in nodes start.address parent leads) in
      going.closed p.0 j bit parent child p.1 (omega (arith, points.lower)) at' points (arrives parent leads p.0 p.1)

pub going_all : (nodes : List Linked) (old new : List ℕ) → IsStrictlyIncreasing (map (λ node. node.address) nodes)
    → Going nodes old new 0 → HaveGone nodes old new
going_all nodes old new up going place bit node at = (
  going.sound place bit node at,
  λ led. arrives nodes up old new going led.0 bit led.1 led.2 led.3 node led.4 place at,
)

-- marks of roots that went to all that pointers lead to
pub gone_from_roots : (nodes : List Linked) (group : List (ℕ × ℕ)) (first last : List ℕ) → AreOfRoots nodes group first
    → HaveGone nodes first last → AreOfReach nodes group last
gone_from_roots nodes group first last roots gone place bit node at =
    (λ has. into ((gone place bit node at).0 has), back) where
      into : IsLedTo nodes first node bit → (root : ℕ × ℕ) × (slice_get group bit ≡ Some root) × Leads nodes root.1 node
      into led =
          let root = (roots led.0 bit led.1 led.2).0 led.3 in
          (root.0, root.1, subst (λ a. Leads nodes a node) (sym root.2) led.4)

      back : (root : ℕ × ℕ) × (slice_get group bit ≡ Some root) × Leads nodes root.1 node → HasMark last place bit
      back root =
          let from = leads_from nodes root.0.1 node root.2 in
          let p = index_of nodes from.0 from.1 in
          (gone place bit node at).1 (
            p.0,
            from.0,
            p.1,
            (roots p.0 bit from.0 p.1).1 (root.0, root.1, sym from.2),
            subst (λ a. Leads nodes a node)
                (sym from.2) root.2,
          )
