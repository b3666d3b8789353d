-- How many slots the tree at hand reaches, by ways to them.
use Rattle.std.proofs.Common.{◌≡◌, ℕ, zero, suc, ◌+◌, ◌-◌, ◌*◌, ◌<◌, ◌≤◌, List, [], ◌∷◌, arith, refl, inl, inr}
use Rattle.std.specs.Prelude.{◌⊎◌, cond, nat_lt}
use Rattle.std.specs.List.{sum_by}
use Rattle.std.proofs.lemmas.List.Sums.{sum_by-cons}
use Rattle.qg_device.specs.History.{History}
use Rattle.qg_node.specs.Nodes.{header_of}
use Rattle.qg_tree_edits.specs.Tellings.{Telling}
use Rattle.qg_tree_edits.specs.Tellings.Telling.{Copied, Made, Left}
use Rattle.qg_tree_edits.specs.Counting.{IsTimely, Turns, gains, losses, made_in, one}
use Rattle.qg_tree_edits.proofs.Ways.{one-here}
use Rattle.qg_fs_tree.specs.declared.fs_tree.FsTree.{FsTree}
use Rattle.qg_fs_tree.specs.Standing.{own_slots}
use Rattle.qg_fs_tree.proofs.Beside.{own_ways, slots_of}
use Rattle.qg_fs_tree.proofs.SlotSums.{IsOnce, over, over-alike, over-moved, over-none, over-one, sums-same}
use Rattle.qg_fs_tree.proofs.Turned.{losses-few, turned_by}

-- 1 where the one way leads
one_if_led : (w : ℕ) → w ≤ 1 → cond (nat_lt 0 w) 1 0 ≡ w * 1
one_if_led zero most = refl
one_if_led (suc zero) most = refl
one_if_led (suc (suc n)) most = absurd (omega (arith, most))

-- the tree at hand reaches as many slots as ways lead to
pub own-ways : (fs : FsTree) (history : History) → ((at : ℕ) → own_ways fs history at ≤ 1)
    → own_slots fs history ≡ over (slots_of fs) (own_ways fs history) (λ s. 1)
unfolding own_slots
own-ways fs history single =
    sums-same (λ (s : ℕ). cond (nat_lt 0 (own_ways fs history s)) 1 0) (λ (s : ℕ). own_ways fs history s * 1)
    (slots_of fs) (λ s. one_if_led (own_ways fs history s) (single s))

module _ (slots : List ℕ) (IsPlace : ℕ → Type 0) (once : (at : ℕ) → IsPlace at → IsOnce slots at) where
  -- how many ways there are in all
  abbrev ways_all : (ℕ → ℕ) → ℕ
  ways_all w = over slots w (λ s. 1)

  one_way : (at : ℕ) → IsPlace at → ways_all (one at) ≡ 1
  one_way at place = over-one slots at (once at place) (λ (s : ℕ). 1)

  no_way : (w : ℕ → ℕ) → ((q : ℕ) → w q ≡ 0) → ways_all w ≡ 0
  no_way w none = over-none slots w (λ (s : ℕ). 1)
      (λ s some. let zero_is = none s in absurd (omega (arith, some, zero_is)))

  -- a telling adds one way at most, where a node is made
  one_few : (telling : Telling) (w : ℕ → ℕ) → ((q : ℕ) → 0 < w q → IsPlace q)
      → ((q : ℕ) → 0 < gains telling q → IsPlace q)
      → IsTimely telling w → ways_all (turned_by telling w) ≤ ways_all w + made_in telling
  one_few (Copied node copy) w placed new timely =
      let moved = over-moved slots (turned_by (Copied node copy) w) (losses (Copied node copy)) w
      (gains (Copied node copy)) (λ (s : ℕ). 1)
      (λ q. let less = losses-few (Copied node copy) w q timely in omega (arith, less)) in
      let lost = one_way (header_of node).address (placed (header_of node).address timely.0) in
      let here = one-here copy copy refl in
      let gained = one_way copy (new copy (omega (arith, here))) in
      omega (arith, moved, lost, gained)
  one_few (Made address) w placed new timely =
      let moved = over-moved slots (turned_by (Made address) w) (losses (Made address)) w (gains (Made address))
      (λ (s : ℕ). 1)
      (λ q. let less = losses-few (Made address) w q timely in omega (arith, less)) in
      let here = one-here address address refl in
      let gained = one_way address (new address (omega (arith, here))) in
      omega (arith, moved, gained)
  one_few (Left node) w placed new timely =
      let moved = over-moved slots (turned_by (Left node) w) (losses (Left node)) w (gains (Left node)) (λ (s : ℕ). 1)
      (λ q. let less = losses-few (Left node) w q timely in omega (arith, less)) in
      let gained = no_way (gains (Left node)) (λ q. refl) in
      omega (arith, moved, gained)

  either_some : (m n l : ℕ) → 0 < (m + n) - l → (0 < m) ⊎ (0 < n)
  either_some zero n l some = inr (omega (arith, some))
  either_some (suc m) n l some = inl (omega arith)

  -- and tellings no more than nodes are made
  pub turns-few : (tellings : List Telling) (w v : ℕ → ℕ) → ((q : ℕ) → 0 < w q → IsPlace q)
      → ((q : ℕ) → 0 < sum_by (λ telling. gains telling q) tellings → IsPlace q) → Turns w tellings v
      → over slots v (λ s. 1) ≤ over slots w (λ s. 1) + sum_by made_in tellings
  turns-few [] w v placed new turns =
      let same = over-alike slots v w (λ (s : ℕ). 1) turns in
      omega (arith, same)
  turns-few (telling ∷ tellings) w v placed new turns =
      let sum = λ (q : ℕ). sum_by-cons (λ (t : Telling). gains t q) telling tellings in
      let made = sum_by-cons made_in telling tellings in
      let here = one_few telling w placed (λ q some. new q (let s = sum q in omega (arith, s, some))) turns.0 in
      let rest = turns-few tellings (turned_by telling w) v
      (λ q some. elim (either_some (w q) (gains telling q) (losses telling q) some) [
        | inl was ↦ placed q was
        | inr came ↦ new q (let s = sum q in omega (arith, s, came))
      ])
      (λ q some. new q (let s = sum q in omega (arith, s, some))) turns.1 in
      omega (arith, made, here, rest)
