-- The first node that isn't known to be at home is the one that the rule names.
use Rattle.std.proofs.Common.{◌≡◌, ℕ, zero, suc, ◌<◌, Bool, true, false, not, List, [], ◌∷◌, map, Option, Some, None}
use Rattle.std.proofs.Common.{refl, sym, ap, subst, ◌∙◌, arith, inl, inr}
use Rattle.std.specs.Prelude.{◌&&◌, slice_get}
use Rattle.std.specs.List.{Contains, find}
use Rattle.std.specs.List.Sorted.{IsStrictlyIncreasing}
use Rattle.std.specs.Option.{MatchOption}
use Rattle.std.proofs.lemmas.Bool.{cond-true, cond-false, and_from, and_left, and_right, not_from_true, not_from_false}
use Rattle.std.proofs.lemmas.Bool.{false_from_ne_true}
use Rattle.std.proofs.lemmas.Option.{same_Some, none-some}
use Rattle.qg_node.specs.Nodes.{header_of}
use Rattle.qg_image.specs.Table.{keys_of}
use Rattle.qg_image.specs.State.{Layout, Placed}
use Rattle.qg_image.specs.Reach.{reaches}
use Rattle.qg_image.specs.Owed.{homeless}
use Rattle.qg_owner_rule.specs.declared.linked.Linked.{Linked}
use Rattle.qg_owner_rule.specs.Linked.{linked_of, AreLinksOf}
use Rattle.qg_owner_rule.specs.Leading.{IsAtHome}
use Rattle.qg_owner_rule.specs.Housed.{AreHoused, AreAllHoused, IsFirstHomeless}
use Rattle.qg_owner_rule.proofs.Listed.{contains_at}
use Rattle.qg_owner_rule.proofs.Reaching.{placed_of, reaches_is, keys_told}

-- ---- the first that passes a test

first_found : (test : ℕ → Bool) (xs : List ℕ) (i x : ℕ) → slice_get xs i ≡ Some x → test x ≡ true
    → ((k y : ℕ) → k < i → slice_get xs k ≡ Some y → test y ≡ false) → find test xs ≡ Some x
first_found test [] i x at passes before = absurd (none-some x at)
first_found test (z ∷ zs) zero x at passes before =
    let is = same_Some z x at in cond-true (test z) (Some z) (find test zs) (ap test is ∙ passes) ∙ ap Some is
first_found test (z ∷ zs) (suc i) x at passes before =
    cond-false (test z) (Some z) (find test zs) (before 0 z (omega arith) refl)
    ∙ first_found test zs i x at passes (λ k y less at'. before (suc k) y (omega (arith, less)) at')

none_found : (test : ℕ → Bool) (xs : List ℕ) → ((k y : ℕ) → slice_get xs k ≡ Some y → test y ≡ false)
    → find test xs ≡ None
none_found test [] fails = refl
none_found test (z ∷ zs) fails =
    cond-false (test z) (Some z) (find test zs) (fails 0 z refl) ∙ none_found test zs (λ k y at. fails (suc k) y at)

one_address : (nodes : List Linked) (i a : ℕ) → slice_get (map (λ node. node.address) nodes) i ≡ Some a
    → (node : Linked) × (slice_get nodes i ≡ Some node) × (node.address ≡ a)
one_address [] i a at = absurd (none-some a at)
one_address (node ∷ nodes) zero a at = (node, refl, same_Some node.address a at)
one_address (node ∷ nodes) (suc i) a at = one_address nodes i a at

address_at : (nodes : List Linked) (i : ℕ) (node : Linked) → slice_get nodes i ≡ Some node
    → slice_get (map (λ node. node.address) nodes) i ≡ Some node.address
address_at [] i node at = absurd (none-some node at)
address_at (first ∷ nodes) zero node at = ap (λ (n : Linked). Some n.address) (same_Some first node at)
address_at (first ∷ nodes) (suc i) node at = address_at nodes i node at

-- a test that tells which nodes are at home
pub record TellsHomes (nodes : List Linked) (subvolumes : List (ℕ × ℕ)) (test : ℕ → Bool) : Type 0 where
  pub home : (node : Linked) → Contains nodes node → IsAtHome nodes subvolumes node → test node.address ≡ false
  pub homeless : (node : Linked) → Contains nodes node → (IsAtHome nodes subvolumes node → ⊥) → test node.address ≡ true

pub home_found : (nodes : List Linked) (subvolumes : List (ℕ × ℕ)) (housed : List Bool) (test : ℕ
    → Bool) (found : Option ℕ) → AreHoused nodes subvolumes housed → TellsHomes nodes subvolumes test
    → MatchOption found (AreAllHoused nodes housed) (IsFirstHomeless nodes housed)
    → found ≡ find test (map (λ node. node.address) nodes)
home_found nodes subvolumes housed test None are tells all =
    sym (none_found test (map (λ node. node.address) nodes) (λ k a at.
    let node = one_address nodes k a at in
    subst (λ b. test b ≡ false) node.2
    (tells.home node.0 (contains_at nodes k node.0 node.1) ((are k node.0 node.1).0 (all k node.0 node.1)))))
home_found nodes subvolumes housed test (Some address) are tells first =
    let node = first.1 in
    let here =
    subst (λ b. slice_get (map (λ (n : Linked). n.address) nodes) first.0 ≡ Some b) first.3
    (address_at nodes first.0 node first.2) in
    let none =
    subst (λ b. test b ≡ true) first.3
    (tells.homeless node (contains_at nodes first.0 node first.2)
    (λ home. first.4 ((are first.0 node first.2).1 home))) in
    sym (first_found test (map (λ node. node.address) nodes) first.0 address here none (λ k a less at.
    let other = one_address nodes k a at in
    subst (λ b. test b ≡ false) other.2
    (tells.home other.0 (contains_at nodes k other.0 other.1) ((are k other.0 other.1).0 (first.5 k less)))))

-- ---- the rule

module _ (layout : Layout) (subvolumes : List (ℕ × ℕ)) (nodes : List Linked)
    (links : AreLinksOf layout subvolumes nodes) (up : IsStrictlyIncreasing (map (λ node. node.address) nodes))
    (numbers : IsStrictlyIncreasing (keys_of subvolumes)) where
  abbrev fails : Placed → ℕ → Bool
  fails placed address = not placed.full && not (reaches layout (header_of placed.node).owner address)

  fails_not : (x : Linked) → Contains nodes x → (placed : Placed) → linked_of x.address placed ≡ x
      → IsAtHome nodes subvolumes x → fails placed x.address ≡ false
  fails_not x has placed is (inl full) =
      and_left (not placed.full) (not (reaches layout (header_of placed.node).owner x.address))
      (not_from_true placed.full (ap (λ (n : Linked). n.full) is ∙ full))
  fails_not x has placed is (inr reached) =
      let by =
      subst (λ owner. reaches layout owner x.address ≡ true) (sym (ap (λ (n : Linked). n.owner) is))
      ((reaches_is layout subvolumes nodes links up x numbers has).1 reached) in
      and_right (not placed.full) (not (reaches layout (header_of placed.node).owner x.address))
      (not_from_true (reaches layout (header_of placed.node).owner x.address) by)

  fails_so : (x : Linked) → Contains nodes x → (placed : Placed) → linked_of x.address placed ≡ x
      → (IsAtHome nodes subvolumes x → ⊥) → fails placed x.address ≡ true
  fails_so x has placed is none =
      and_from (not placed.full) (not (reaches layout (header_of placed.node).owner x.address))
      (not_from_false placed.full
      (false_from_ne_true placed.full (λ full. none (inl (sym (ap (λ (n : Linked). n.full) is) ∙ full)))))
      (not_from_false (reaches layout (header_of placed.node).owner x.address)
      (false_from_ne_true (reaches layout (header_of placed.node).owner x.address) (λ by.
      none (inr
      ((reaches_is layout subvolumes nodes links up x numbers has).0
      (subst (λ owner. reaches layout owner x.address ≡ true) (ap (λ (n : Linked). n.owner) is) by))))))

  pub homeless_found : (housed : List Bool) (found : Option ℕ) → AreHoused nodes subvolumes housed
      → MatchOption found (AreAllHoused nodes housed) (IsFirstHomeless nodes housed) → found ≡ homeless layout
  unfolding homeless
  homeless_found housed found are first =
      home_found nodes subvolumes housed _ found are (record {
        home = λ x has home. let p =
            placed_of layout subvolumes nodes links up x has in rw p.2 (fails_not x has p.0 p.3 home);
        homeless =
            λ x has none. let p =
            placed_of layout subvolumes nodes links up x has in rw p.2 (fails_so x has p.0 p.3 none);
      }) first
      ∙ ap (find _) (ap (map (λ (node : Linked). node.address)) links.told ∙ keys_told layout.nodes)
