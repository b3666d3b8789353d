-- Slots that the present state has and had not before: how many there are after an edit, and after one and another; and
-- how many slots fewer are free.
use Rattle.std.proofs.Common.{◌≡◌, ℕ, zero, suc, ◌+◌, ◌*◌, ◌<◌, ◌≤◌, Bool, true, false, List, [], ◌∷◌, ◌==◌, arith}
use Rattle.std.proofs.Common.{refl, sym, ap, ◌∙◌}
use Rattle.std.specs.Prelude.{◌&&◌, ◌||◌, cond, nat_lt, not}
use Rattle.std.specs.List.{list_any, sum_by}
use Rattle.std.proofs.lemmas.Bool.{lt-ltb}
use Rattle.std.proofs.lemmas.List.Folds.{list_any-append}
use Rattle.std.proofs.lemmas.List.Sums.{sum_by-cons}
use Rattle.qg_super.specs.declared.sizes.Sizes.{Sizes}
use Rattle.qg_super.specs.Places.{is_slot, slot_at}
use Rattle.qg_super.proofs.Slots.{is_slot-slot_at}
use Rattle.qg_space.specs.Holding.{Holding, free_slots, has_slot, is_free_slot}
use Rattle.qg_tree_edits.specs.Types.{Ground}
use Rattle.qg_tree_edits.specs.Tellings.{Telling}
use Rattle.qg_tree_edits.specs.Tellings.Telling.{Copied, Made, Left}
use Rattle.qg_tree_edits.specs.Counting.{Turns, copied_in, gains, made_in}
use Rattle.qg_tree_edits.proofs.Ways.{one-here}
use Rattle.qg_fs_tree.specs.declared.fs_tree.FsTree.{FsTree}
use Rattle.qg_fs_tree.specs.Standing.{KeepsTree, every_slot, made_slots, taken_slots}
use Rattle.qg_fs_tree.proofs.Places.{slots_from}
use Rattle.qg_fs_tree.proofs.SlotSums.{IsOnce, over, over-each, over-none, over-one, sums-less, sums-none, sums-plus}
use Rattle.qg_fs_tree.proofs.Turned.{turned_by}

-- ---- one and another

each_then : (a b c : Bool) → cond (c && not a) 1 0 ≤ cond (b && not a) 1 0 + cond (c && not b) 1 0
each_then a b false = omega arith
each_then true b true = omega arith
each_then false true true = omega arith
each_then false false true = omega arith

pub made-then : (first second third : Holding) → second.sizes ≡ third.sizes
    → made_slots first third ≤ made_slots first second + made_slots second third
unfolding made_slots
made-then first second third same =
    let new = λ (s : ℕ). cond (has_slot second s && not (has_slot first s)) 1 0 in
    let newer = λ (s : ℕ). cond (has_slot third s && not (has_slot second s)) 1 0 in
    let all = λ (s : ℕ). cond (has_slot third s && not (has_slot first s)) 1 0 in
    let less : made_slots first third ≤ sum_by (λ (s : ℕ). new s + newer s) (every_slot third.sizes) =
    sums-less all (λ (s : ℕ). new s + newer s) (every_slot third.sizes)
    (λ s. each_then (has_slot first s) (has_slot second s) (has_slot third s)) in
    let both : sum_by (λ (s : ℕ). new s + newer s) (every_slot third.sizes)
    ≡ sum_by new (every_slot third.sizes) + sum_by newer (every_slot third.sizes) =
    sums-plus new newer (every_slot third.sizes) in
    let front : made_slots first second ≡ sum_by new (every_slot third.sizes) =
    ap (λ (sizes : Sizes). sum_by new (every_slot sizes)) same in
    let back : made_slots second third ≡ sum_by newer (every_slot third.sizes) = refl in
    omega (arith, less, both, front, back)

each_none : (a : Bool) → ◌≡◌ {A = ℕ} (cond (a && not a) 1 0) 0
each_none true = refl
each_none false = refl

pub made-same : (holding : Holding) → made_slots holding holding ≡ 0
unfolding made_slots
made-same holding =
    sums-none (λ (s : ℕ). cond (has_slot holding s && not (has_slot holding s)) 1 0) (every_slot holding.sizes)
    (λ s. each_none (has_slot holding s))

-- what is named takes none
pub made-named : (old new : FsTree) → KeepsTree old new → made_slots old.land.space new.land.space ≡ 0
unfolding made_slots
made-named old new keeps =
    let space = ap (λ (land : Ground). land.space) keeps.land in
    ap (λ (holding : Holding). made_slots old.land.space holding) space
    ∙ sums-none (λ (s : ℕ). cond (has_slot old.land.space s && not (has_slot old.land.space s)) 1 0)
    (every_slot old.land.space.sizes) (λ s. each_none (has_slot old.land.space s))

-- ---- of those that are there

each_there : (had has : Bool) → cond (has && not had) 1 0 ≤ cond has 1 0
each_there had false = omega arith
each_there true true = omega arith
each_there false true = omega arith

-- no more come than are there
pub made-there : (old new : Holding) → made_slots old new ≤ taken_slots new
unfolding made_slots taken_slots
made-there old new =
    sums-less (λ (s : ℕ). cond (has_slot new s && not (has_slot old s)) 1 0) (λ (s : ℕ). cond (has_slot new s) 1 0)
    (every_slot new.sizes) (λ s. each_there (has_slot old s) (has_slot new s))

-- ---- of those that were free

-- 1 where something holds
abbrev one_if : Bool → ℕ
one_if holds = cond holds 1 0

-- what was free is free, or has come
each_free : (slot had has held : Bool)
    → one_if (slot && not (had || held)) ≤ one_if (slot && not (has || held)) + one_if (has && not had)
each_free false had has held = omega arith
each_free true true has held = omega arith
each_free true false has true = omega arith
each_free true false true false = omega arith
each_free true false false false = omega arith

free_split : (holding : Holding) (at : ℕ) → is_free_slot holding at
    ≡ (is_slot holding.sizes at && not (has_slot holding at || list_any (λ slot. slot == at) holding.held_slots))
unfolding is_free_slot
free_split holding at =
    ap (λ (b : Bool). is_slot holding.sizes at && not b)
    (list_any-append (λ (slot : ℕ). slot == at) holding.slots holding.held_slots)

free_each : (old new : Holding) (at : ℕ) → new.sizes ≡ old.sizes → new.held_slots ≡ old.held_slots
    → one_if (is_free_slot old at) ≤ one_if (is_free_slot new at) + one_if (has_slot new at && not (has_slot old at))
free_each old new at sizes held =
    let held_there = list_any (λ (slot : ℕ). slot == at) old.held_slots in
    let same = ap (λ (s : Sizes). is_slot s at && not (has_slot new at || list_any (λ (slot : ℕ). slot == at)
    new.held_slots)) sizes
    ∙ ap (λ (slots : List ℕ). is_slot old.sizes at
    && not (has_slot new at || list_any (λ (slot : ℕ). slot == at) slots))
    held in
    let was = ap one_if (free_split old at) in
    let is = ap one_if (free_split new at ∙ same) in
    let less = each_free (is_slot old.sizes at) (has_slot old at) (has_slot new at) held_there in
    omega (arith, was, is, less)

-- where sizes and what the last commit holds stay, no more slots fewer are free than come
pub made-free : (old new : Holding) → new.sizes ≡ old.sizes → new.held_slots ≡ old.held_slots
    → free_slots old ≤ free_slots new + made_slots old new
unfolding free_slots made_slots
made-free old new sizes held =
    let was = λ (s : ℕ). one_if (is_free_slot old s) in
    let is = λ (s : ℕ). one_if (is_free_slot new s) in
    let come = λ (s : ℕ). one_if (has_slot new s && not (has_slot old s)) in
    let less : sum_by was (every_slot new.sizes) ≤ sum_by (λ (s : ℕ). is s + come s) (every_slot new.sizes) =
    sums-less was (λ (s : ℕ). is s + come s) (every_slot new.sizes) (λ s. free_each old new s sizes held) in
    let both : sum_by (λ (s : ℕ). is s + come s) (every_slot new.sizes)
    ≡ sum_by is (every_slot new.sizes) + sum_by come (every_slot new.sizes) =
    sums-plus is come (every_slot new.sizes) in
    let front : free_slots old ≡ sum_by was (every_slot new.sizes) =
    ap (λ (s : Sizes). sum_by was (every_slot s)) (sym sizes) in
    let back : free_slots new ≡ sum_by is (every_slot new.sizes) = refl in
    let more : made_slots old new ≡ sum_by come (every_slot new.sizes) = refl in
    omega (arith, less, both, front, back, more)

-- ---- by ways

module _ (sizes : Sizes) where
  less_from : (f g : ℕ → ℕ) (from count : ℕ) → ((k : ℕ) → from ≤ k → k < from + count → f (slot_at sizes k)
      ≤ g (slot_at sizes k))
      → sum_by f (slots_from sizes from count) ≤ sum_by g (slots_from sizes from count)
  less_from f g from zero less = omega arith
  less_from f g from (suc count) less =
      let here = less from (omega arith) (omega arith) in
      let rest = less_from f g (from + 1) count (λ k low high. less k (omega (arith, low)) (omega (arith, high))) in
      let first = sum_by-cons f (slot_at sizes from) (slots_from sizes (from + 1) count) in
      let last = sum_by-cons g (slot_at sizes from) (slots_from sizes (from + 1) count) in
      omega (arith, here, rest, first, last)

  pub slots-less : (f g : ℕ → ℕ) → 0 < sizes.nodesize → ((at : ℕ) → is_slot sizes at ≡ true → f at ≤ g at)
      → sum_by f (every_slot sizes) ≤ sum_by g (every_slot sizes)
  slots-less f g some less = less_from f g 0 sizes.slots
      (λ k low high. less (slot_at sizes k) (is_slot-slot_at sizes k some (omega (arith, high))))

-- ways that lead to an address and did not before were gained
turns-gain : (tellings : List Telling) (w v : ℕ → ℕ) → Turns w tellings v → (q : ℕ)
    → v q ≤ w q + sum_by (λ telling. gains telling q) tellings
turns-gain [] w v turns q = let same = turns q in omega (arith, same)
turns-gain (telling ∷ tellings) w v turns q =
    let rest = turns-gain tellings (turned_by telling w) v turns.1 q in
    let sum = sum_by-cons (λ (t : Telling). gains t q) telling tellings in
    omega (arith, rest, sum)

-- a slot that is new is one that a way leads to and none did; what is taken besides was taken before
new_one : (w v g : ℕ) (there had has : Bool) → had ≡ (nat_lt 0 w || there) → has ≡ (nat_lt 0 v || there) → v ≤ w + g
    → cond (has && not had) 1 0 ≤ g * 1
new_one w v g there had false was is gained = omega arith
new_one w v g there true true was is gained = omega arith
new_one zero zero g true false true was is gained = absurd cc
new_one zero zero g false false true was is gained = absurd cc
new_one zero (suc v) g there false true was is gained = omega (arith, gained)
new_one (suc w) v g there false true was is gained =
    let wrong : false ≡ true = was ∙ ap (λ (b : Bool). b || there) (lt-ltb 0 (suc w) (omega arith)) in absurd cc

module _ (slots : List ℕ) (IsPlace : ℕ → Type 0) (once : (at : ℕ) → IsPlace at → IsOnce slots at) where
  gained_by : (telling : Telling) → ((q : ℕ) → 0 < gains telling q → IsPlace q)
      → over slots (gains telling) (λ s. 1) ≡ copied_in telling + made_in telling
  gained_by (Copied node copy) new =
      let here = one-here copy copy refl in
      let one_way = over-one slots copy (once copy (new copy (omega (arith, here)))) (λ (s : ℕ). 1) in
      omega (arith, one_way)
  gained_by (Made address) new =
      let here = one-here address address refl in
      let one_way = over-one slots address (once address (new address (omega (arith, here)))) (λ (s : ℕ). 1) in
      omega (arith, one_way)
  gained_by (Left node) new = over-none slots (gains (Left node)) (λ (s : ℕ). 1)
      (λ s some. absurd (omega (arith, some)))

  gained_in : (tellings : List Telling) → ((q : ℕ) → 0 < sum_by (λ telling. gains telling q) tellings → IsPlace q)
      → sum_by (λ telling. over slots (gains telling) (λ s. 1)) tellings
      ≡ sum_by copied_in tellings + sum_by made_in tellings
  gained_in [] new = omega arith
  gained_in (telling ∷ tellings) new =
      let sum = λ (q : ℕ). sum_by-cons (λ (t : Telling). gains t q) telling tellings in
      let here = gained_by telling (λ q some. new q (let s = sum q in omega (arith, s, some))) in
      let rest = gained_in tellings (λ q some. new q (let s = sum q in omega (arith, s, some))) in
      omega (
        arith,
        here,
        rest,
        sum_by-cons (λ (t : Telling). over slots (gains t) (λ s. 1)) telling tellings,
        sum_by-cons copied_in telling tellings,
        sum_by-cons made_in telling tellings,
      )

module _ (old new : Holding) (w v : ℕ → ℕ) (tellings : List Telling) (some : 0 < new.sizes.nodesize)
    (there : ℕ → Bool)
    (had : (at : ℕ) → is_slot new.sizes at ≡ true → has_slot old at ≡ (nat_lt 0 (w at) || there at))
    (has : (at : ℕ) → is_slot new.sizes at ≡ true → has_slot new at ≡ (nat_lt 0 (v at) || there at))
    (turns : Turns w tellings v) (IsPlace : ℕ → Type 0)
    (once : (at : ℕ) → IsPlace at → IsOnce (every_slot new.sizes) at)
    (placed : (q : ℕ) → 0 < sum_by (λ telling. gains telling q) tellings → IsPlace q) where
  -- no more slots come than nodes do
  pub made-few : made_slots old new ≤ sum_by copied_in tellings + sum_by made_in tellings
  unfolding made_slots
  made-few =
      let gained = λ (s : ℕ). sum_by (λ (t : Telling). gains t s) tellings in
      let less : made_slots old new ≤ sum_by (λ (s : ℕ). gained s * 1) (every_slot new.sizes) =
      slots-less new.sizes (λ (s : ℕ). cond (has_slot new s && not (has_slot old s)) 1 0)
      (λ (s : ℕ). gained s * 1) some
      (λ at is. new_one (w at) (v at) (gained at) (there at) (has_slot old at) (has_slot new at) (had at is) (has at is)
      (turns-gain tellings w v turns at)) in
      let each : sum_by (λ (s : ℕ). gained s * 1) (every_slot new.sizes)
      ≡ sum_by (λ (t : Telling). over (every_slot new.sizes) (gains t) (λ (s : ℕ). 1)) tellings =
      over-each (every_slot new.sizes) (λ (t : Telling) (s : ℕ). gains t s) tellings (λ (s : ℕ). 1) in
      let all = gained_in (every_slot new.sizes) IsPlace once tellings placed in
      omega (arith, less, each, all)
