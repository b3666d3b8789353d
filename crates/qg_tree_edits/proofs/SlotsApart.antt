-- An edit of a tree takes and gives slots of that tree alone.
use Rattle.std.proofs.Common.{◌≡◌, ℕ, ◌+◌, ◌-◌, ◌<◌, ◌≤◌, List, [], ◌∷◌, arith, refl, sym, ap, subst, ◌∙◌, inl, inr}
use Rattle.std.specs.Prelude.{Contains}
use Rattle.std.specs.List.{sum_by}
use Rattle.std.proofs.lemmas.Bool.Decides.{eqb_tells}
use Rattle.std.proofs.lemmas.List.Sums.{sum_by-cons}
use Rattle.qg_image.specs.Table.{with_number}
use Rattle.qg_node.specs.Nodes.{header_of}
use Rattle.qg_blocks.specs.NodesFound.{told}
use Rattle.qg_space.specs.Holding.{without_slot}
use Rattle.qg_space.proofs.Members.{Contains-with_number, Contains-without_slot}
use Rattle.qg_node_alloc.specs.SlotTally.{slots_after, slots_after_all}
use Rattle.qg_node_alloc.specs.Tellings.{Telling}
use Rattle.qg_node_alloc.specs.Tellings.Telling.{Copied, Made, Left}
use Rattle.qg_node_alloc.proofs.Slots.{free-absent}
use Rattle.qg_tree_edits.specs.Counting.{IsTimely, Turns, gains, losses, one}
use Rattle.qg_tree_edits.proofs.Ways.{one-here, one-other, ways-some}
use Rattle.qg_tree_edits.specs.SlotLaws.{EditsKeepApart}
use Rattle.qg_tree_edits.specs.OwnSlots.{AreApart, ways_in_tree}

-- ---- one slot

-- a slot is taken, to which a way comes
put_apart : (slots : List ℕ) (w v : ℕ → ℕ) (others : List ℕ) (at : ℕ) → AreApart slots w others → w at ≡ 0
    → (Contains others at → ⊥) → ((q : ℕ) → v q ≡ w q + one at q) → AreApart (with_number at slots) v others
put_apart slots w v others at apart none free turned = record {
  single = λ q. let now = turned q in elim (eqb_tells q at) [
    | inl (equal, same) ↦
        let here = one-here at q same in
        let was = ap w same ∙ none in
        omega (arith, now, here, was)
    | inr (unequal, differ) ↦
        let other = one-other at q differ in
        let was = apart.single q in
        omega (arith, now, other, was)
  ];
  own = λ q some. let now = turned q in elim (eqb_tells q at) [
    | inl (equal, same) ↦ (Contains-with_number at slots q).1 (inl same)
    | inr (unequal, differ) ↦
        let other = one-other at q differ in
        (Contains-with_number at slots q).1 (inr (apart.own q (omega (arith, some, now, other))))
  ];
  others_there = λ q has. let now = turned q in
      let was = apart.others_there q has in
      let none_here = was.1 in
      elim (eqb_tells q at) [
        | inl (equal, same) ↦ absurd (free (subst (λ (n : ℕ). Contains others n) same has))
        | inr (unequal, differ) ↦
            let other = one-other at q differ in
            ((Contains-with_number at slots q).1 (inr was.0), omega (arith, now, other, none_here))
      ];
  only = λ q has. let now = turned q in elim ((Contains-with_number at slots q).0 has) [
    | inl same ↦ let here = one-here at q same in inl (omega (arith, now, here))
    | inr there ↦ elim (apart.only q there) [
      | inl some ↦ inl (omega (arith, now, some))
      | inr other ↦ inr other
    ]
  ];
}

-- a slot is given back, to which the one way is gone
out_apart : (slots : List ℕ) (w v : ℕ → ℕ) (others : List ℕ) (at : ℕ) → AreApart slots w others → 0 < w at
    → ((q : ℕ) → v q ≡ w q - one at q) → AreApart (without_slot at slots) v others
out_apart slots w v others at apart some turned = record {
  single = λ q. let now = turned q in let was = apart.single q in omega (arith, now, was);
  own = λ q some_now. let now = turned q in elim (eqb_tells q at) [
    | inl (equal, same) ↦
        let here = one-here at q same in
        let most = apart.single q in
        absurd (omega (arith, some_now, now, here, most))
    | inr (unequal, differ) ↦
        (Contains-without_slot at slots q).1 (apart.own q (omega (arith, some_now, now)), differ)
  ];
  others_there = λ q has. let now = turned q in
      let was = apart.others_there q has in
      let none_here = was.1 in
      elim (eqb_tells q at) [
        | inl (equal, same) ↦ let there = ap w same in absurd (omega (arith, there, none_here, some))
        | inr (unequal, differ) ↦
            ((Contains-without_slot at slots q).1 (was.0, differ), omega (arith, now, none_here))
      ];
  only = λ q has. let now = turned q in
      let parts = (Contains-without_slot at slots q).0 has in
      let other = one-other at q parts.1 in
      elim (apart.only q parts.0) [
        | inl led ↦ inl (omega (arith, now, led, other))
        | inr beside ↦ inr beside
      ];
}

-- ---- what a book is told

apart_then : (telling : Telling) (slots : List ℕ) (w v : ℕ → ℕ) (others : List ℕ) → AreApart slots w others
    → IsTimely telling w → ((q : ℕ) → 0 < gains telling q → Contains others q → ⊥)
    → ((q : ℕ) → v q ≡ (w q + gains telling q) - losses telling q)
    → AreApart (slots_after telling slots) v others
apart_then (Copied node copy) slots w v others apart timely fresh turned =
    let at = (header_of node).address in
    let here = one-here copy copy refl in
    let led = timely.0 in
    let mid : ℕ → ℕ = λ q. w q + one copy q in
    let put = put_apart slots w mid others copy apart timely.1 (fresh copy (omega (arith, here))) (λ q. refl) in
    out_apart (with_number copy slots) mid v others at put (omega (arith, led)) turned
apart_then (Made address) slots w v others apart timely fresh turned =
    let here = one-here address address refl in
    put_apart slots w v others address apart timely (fresh address (omega (arith, here)))
    (λ q. let now = turned q in omega (arith, now))
apart_then (Left node) slots w v others apart timely fresh turned =
    out_apart slots w v others (header_of node).address apart timely (λ q. let now = turned q in omega (arith, now))

apart_same : (slots : List ℕ) (w v : ℕ → ℕ) (others : List ℕ) → ((q : ℕ) → v q ≡ w q) → AreApart slots w others
    → AreApart slots v others
apart_same slots w v others same apart = record {
  single = λ q. let now = same q in let was = apart.single q in omega (arith, now, was);
  own = λ q some. let now = same q in apart.own q (omega (arith, now, some));
  others_there = λ q has. ((apart.others_there q has).0, same q ∙ (apart.others_there q has).1);
  only = λ q has. let now = same q in elim (apart.only q has) [
    | inl some ↦ inl (omega (arith, now, some))
    | inr beside ↦ inr beside
  ];
}

apart_all : (tellings : List Telling) (slots : List ℕ) (w v : ℕ → ℕ) (others : List ℕ) → AreApart slots w others
    → Turns w tellings v → ((q : ℕ) → 0 < sum_by (λ telling. gains telling q) tellings → Contains others q → ⊥)
    → AreApart (slots_after_all tellings slots) v others
apart_all [] slots w v others apart turns fresh = apart_same slots w v others turns apart
apart_all (telling ∷ tellings) slots w v others apart turns fresh =
    let mid : ℕ → ℕ = λ q. (w q + gains telling q) - losses telling q in
    let sum = λ (q : ℕ). sum_by-cons (λ (t : Telling). gains t q) telling tellings in
    let first = apart_then telling slots w mid others apart turns.0
    (λ q some. fresh q (let both = sum q in omega (arith, both, some))) (λ q. refl) in
    apart_all tellings (slots_after telling slots) mid v others first turns.1
    (λ q some. fresh q (let both = sum q in omega (arith, both, some)))

pub edits-keep-apart : EditsKeepApart
edits-keep-apart before after old new history tellings book later others same follows is apart =
    let fresh : (q : ℕ) → 0 < sum_by (λ telling. gains telling q) tellings → Contains others q → ⊥ =
    λ q some has. let there = apart.others_there q has in elim (is.new q some) [
      | inl free ↦ free-absent old.space q free (subst (λ (ns : List ℕ). Contains ns q) same there.0)
      | inr reached ↦
          let way = ways-some (told old.blocks.draft history) before.height before.address q reached in
          let none = there.1 in
          absurd (omega (arith, way, none))
    ] in
    let w = ways_in_tree before old.blocks.draft history in
    let v = ways_in_tree after new.blocks.draft history in
    subst (λ (ns : List ℕ). AreApart ns v others) (sym follows.slots)
    (apart_all tellings book.slots w v others apart is.turns fresh)
