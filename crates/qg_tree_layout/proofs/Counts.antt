-- How many nodes a tree has, and how many levels.
use Rattle.std.proofs.Common.{◌≡◌, ℕ, zero, suc, ◌+◌, ◌-◌, ◌*◌, ◌≤◌, ◌<◌, ◌^◌, arith, inl, inr}
use Rattle.std.proofs.Math.Nat.{mul-le-mul_left, le_of_mul-le-mul_left}
use Rattle.std.proofs.lemmas.Bool.{cases_lt}
use Rattle.qg_node.specs.NodeText.{IsNodeSize}
use Rattle.qg_super.specs.Places.{capacity}
use Rattle.qg_image.specs.Need.{nodes_filled}

pub wide : (nodesize : ℕ) → IsNodeSize nodesize → 4096 ≤ nodesize
wide nodesize size = elim size [ inl e ↦ omega arith | inr e ↦ omega arith ]

pub narrow : (nodesize : ℕ) → IsNodeSize nodesize → nodesize ≤ 16384
narrow nodesize size = elim size [ inl e ↦ omega arith | inr e ↦ omega arith ]

-- so many nodes have room for the bytes
pub filled_holds : (nodesize bytes : ℕ) → IsNodeSize nodesize → bytes ≤ capacity nodesize * nodes_filled nodesize bytes
filled_holds nodesize bytes size =
    let big : 4096 ≤ nodesize = wide nodesize size in
    let some : 0 < capacity nodesize = omega arith in
    omega arith

-- the nodes of a level at most, where the slots are 16128 at most
abbrev pub most_on : ℕ → ℕ
most_on zero = 16128
most_on (suc zero) = 537
most_on (suc (suc zero)) = 17
most_on (suc (suc (suc level))) = 1

-- the nodes of all levels so far, and those of the highest
pub record IsCounted (filled all highest level : ℕ) : Type 0 where
  pub few : all ≤ 5 * filled + 1
  pub later : 2 ≤ highest → 20 * all + highest ≤ 100 * filled
  pub low : highest ≤ most_on level
  pub flat : level ≤ 3
  pub some : 1 ≤ highest

pub counted_leaves : (nodesize bytes row slots : ℕ) → IsNodeSize nodesize → 1 ≤ row
    → (2 ≤ row → capacity nodesize * row ≤ 4 * bytes) → 5 * nodes_filled nodesize bytes + 1 ≤ slots → slots ≤ 16128
    → IsCounted (nodes_filled nodesize bytes) row row 0
counted_leaves nodesize bytes row slots size some heavy room least = elim (cases_lt row 2) [
  | inl one ↦ record {
    few = omega (arith, one, some);
    later = λ two. absurd (omega (arith, one, two));
    low = omega (arith, one);
    flat = omega arith;
    some = some;
  }
  | inr two ↦
      let most : row ≤ 4 * nodes_filled nodesize bytes = fewer two in
      record {
        few = omega (arith, most);
        later = λ _. omega (arith, most);
        low = omega (arith, most);
        flat = omega arith;
        some = some;
      }
] where
  fewer : 2 ≤ row → row ≤ 4 * nodes_filled nodesize bytes
  fewer two =
      let big : 4096 ≤ nodesize = wide nodesize size in
      let some : zero < capacity nodesize = omega arith in
      let holds = filled_holds nodesize bytes size in
      let times : capacity nodesize * (4 * nodes_filled nodesize bytes)
      ≡ 4 * (capacity nodesize * nodes_filled nodesize bytes) = omega arith in
      let within : capacity nodesize * row ≤ capacity nodesize * (4 * nodes_filled nodesize bytes) =
      omega (arith, heavy two, holds, times) in
      le_of_mul-le-mul_left within some

-- a level of at least 30 times fewer nodes
few_on : (level below row : ℕ) → below ≤ most_on level → 30 * row ≤ below → row ≤ most_on (suc level)
few_on zero below row most less = omega arith
few_on (suc zero) below row most less = omega arith
few_on (suc (suc zero)) below row most less = omega arith
few_on (suc (suc (suc level))) below row most less = omega arith

one_on : (level : ℕ) → 1 ≤ most_on level
one_on zero = omega arith
one_on (suc zero) = omega arith
one_on (suc (suc zero)) = omega arith
one_on (suc (suc (suc level))) = omega arith

times_fewer : (nodesize highest row : ℕ) → IsNodeSize nodesize → capacity nodesize * row ≤ 4 * (33 * highest)
    → 30 * row ≤ highest
times_fewer nodesize highest row size heavy =
    let big : 4096 ≤ nodesize = wide nodesize size in
    let more : row * 3995 ≤ row * capacity nodesize = mul-le-mul_left row (omega arith) in
    omega (arith, more, heavy)

-- a level that is not the highest is 2 at most
pub level_low : (level highest : ℕ) → 2 ≤ highest → highest ≤ most_on level → level ≤ 2
level_low zero highest many most = omega arith
level_low (suc zero) highest many most = omega arith
level_low (suc (suc zero)) highest many most = omega arith
level_low (suc (suc (suc level))) highest many most = absurd (omega arith)

pub counted_inners : (nodesize filled all highest level row : ℕ) → IsNodeSize nodesize
    → IsCounted filled all highest level → 2 ≤ highest → 1 ≤ row
    → (2 ≤ row → capacity nodesize * row ≤ 4 * (33 * highest))
    → IsCounted filled (all + row) row (level + 1)
counted_inners nodesize filled all highest level row size is many some heavy =
    let next : level + 1 ≡ suc level = omega arith in
    let later = is.later many in
    let flat : suc level ≤ 3 = omega (arith, level_low level highest many is.low) in
    rw next (elim (cases_lt row 2) [
      | inl one ↦ record {
        few = omega (arith, one, later, many);
        later = λ two. absurd (omega (arith, one, two));
        low = omega (arith, one, one_on (suc level));
        flat = flat;
        some = some;
      }
      | inr two ↦
          let less : 30 * row ≤ highest = times_fewer nodesize highest row size (heavy two) in
          record {
            few = omega (arith, less, later);
            later = λ _. omega (arith, less, later);
            low = few_on level highest row is.low less;
            flat = flat;
            some = some;
          }
    ])

-- there is room for another level
pub room_above : (nodesize filled all highest level slots : ℕ) → IsNodeSize nodesize
    → IsCounted filled all highest level → 2 ≤ highest → 5 * filled + 1 ≤ slots
    → 4 * (33 * highest) < capacity nodesize * (slots - all)
room_above nodesize filled all highest level slots size is many room =
    let big : 4096 ≤ nodesize = wide nodesize size in
    let later = is.later many in
    let left : highest + 20 ≤ 20 * (slots - all) = omega (arith, later, room) in
    let more : (slots - all) * 3995 ≤ (slots - all) * capacity nodesize = mul-le-mul_left (slots - all) (omega arith) in
    omega (arith, left, more)

pub room_for_leaves : (nodesize bytes slots : ℕ) → IsNodeSize nodesize → 5 * nodes_filled nodesize bytes + 1 ≤ slots
    → 4 * bytes < capacity nodesize * (slots - 0)
room_for_leaves nodesize bytes slots size room =
    let big : 4096 ≤ nodesize = wide nodesize size in
    let holds = filled_holds nodesize bytes size in
    let more : capacity nodesize * (5 * nodes_filled nodesize bytes + 1) ≤ capacity nodesize * slots =
    mul-le-mul_left (capacity nodesize) room in
    let same : slots - 0 ≡ slots = omega arith in
    rw same (omega (arith, holds, more))

pub bytes_small : (nodesize bytes slots : ℕ) → IsNodeSize nodesize → 5 * nodes_filled nodesize bytes + 1 ≤ slots
    → slots ≤ 16128 → bytes < 2 ^ 32
bytes_small nodesize bytes slots size room least =
    let holds = filled_holds nodesize bytes size in
    let least_size = narrow nodesize size in
    let few : nodes_filled nodesize bytes ≤ 3226 = omega arith in
    let more : capacity nodesize * nodes_filled nodesize bytes ≤ capacity nodesize * 3226 =
    mul-le-mul_left (capacity nodesize) few in
    omega (arith, holds, more, least_size)

pub fewer_above : (nodesize highest row : ℕ) → IsNodeSize nodesize → 2 ≤ highest
    → (2 ≤ row → capacity nodesize * row ≤ 4 * (33 * highest)) → row < highest
fewer_above nodesize highest row size many heavy = elim (cases_lt row 2) [
  | inl one ↦ omega (arith, one, many)
  | inr two ↦ omega (arith, times_fewer nodesize highest row size (heavy two), two)
]
