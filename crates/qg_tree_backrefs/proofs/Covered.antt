-- How many slots a command leaves, by what it makes the items of the other trees take.
use Rattle.std.proofs.Common.{◌≡◌, ℕ, ◌+◌, ◌-◌, ◌*◌, ◌/◌, ◌<◌, ◌≤◌, arith}
use Rattle.std.proofs.Math.Nat.{le_of_mul-le-mul_left, mul-div-le, mul-le-mul_left, mul-le-mul_right}
use Rattle.std.proofs.lemmas.Nat.{mul-le}
use Rattle.qg_super.specs.Places.{capacity}
use Rattle.qg_image.specs.Need.{file_copies, nodes_filled}
use Rattle.qg_tree_backrefs.specs.Heavier.{edit_bytes, name_new_bytes}
use Rattle.qg_tree_backrefs.specs.Need.{GetsHeavierBy}

-- where so many nodes hold the bytes before, and one node fewer than so many doesn't hold those after; `m` is three
-- more than the pieces, and `l` the level
module _ (c f g m l before after : ℕ) (wide : 3995 ≤ c) (holds : before ≤ c * f) (fills : c * g ≤ after + (c - 1))
    (most : after ≤ before + m * ((2 * l + 9) * (74 + c)) + m * 204) where
  levels-wide : 3995 * (m * l) ≤ c * (m * l)
  levels-wide = mul-le-mul_right (m * l) wide

  pieces-wide : 3995 * m ≤ c * m
  pieces-wide = mul-le-mul_right m wide

  spread : m * ((2 * l + 9) * (74 + c)) ≡ 148 * (m * l) + 666 * m + 2 * (c * (m * l)) + 9 * (c * m)
  spread = omega arith

  joined : c * (5 * f + 5 + m * (11 * l + 47)) ≡ 5 * (c * f) + 5 * c + 11 * (c * (m * l)) + 47 * (c * m)
  joined = omega arith

  times_c : c * (5 * g) ≤ c * (5 * f + 5 + m * (11 * l + 47))
  times_c =
      let five : c * (5 * g) ≡ 5 * (c * g) = omega arith in
      omega (arith, five, joined, spread, levels-wide, pieces-wide, holds, fills, most, wide)

  pub filled_after : 5 * g ≤ 5 * f + 5 + m * (11 * l + 47)
  filled_after = le_of_mul-le-mul_left times_c (omega (arith, wide))

holds-filled : (c bytes : ℕ) → 0 < c → bytes ≤ c * ((bytes + (c - 1)) / c)
holds-filled c bytes some = omega arith

edits-most : (nodesize level pieces height edits : ℕ) → height ≤ level + 3 → edits ≤ pieces + 3
    → edits * edit_bytes nodesize height ≤ (pieces + 3) * ((2 * level + 9) * (74 + capacity nodesize))
edits-most nodesize level pieces height edits low few =
    mul-le edits (edit_bytes nodesize height) (pieces + 3) ((2 * level + 9) * (74 + capacity nodesize)) few
    (mul-le-mul_right (74 + capacity nodesize) (omega (arith, low)))

names-most : (pieces names : ℕ) → names ≤ 2 * (pieces + 3) → names * name_new_bytes ≤ (pieces + 3) * 204
names-most pieces names few = omega (arith, few)

copies-are : (level pieces : ℕ) → 9 * file_copies level pieces ≡ (pieces + 3) * (27 * level + 54)
copies-are level pieces = omega arith

least : (m l : ℕ) → 3 ≤ m → m * (11 * l + 47) + 21 ≤ m * (27 * l + 54)
least m l some =
    let most : m * (11 * l + 54) ≤ m * (27 * l + 54) = mul-le-mul_left m (omega arith) in
    let spread : m * (11 * l + 54) ≡ m * (11 * l + 47) + 7 * m = omega arith in
    omega (arith, most, spread, some)

pub covers-need : (nodesize level pieces height edits names before after : ℕ)
    → GetsHeavierBy nodesize level pieces height edits names before after
    → 5 * nodes_filled nodesize after + 40 ≤ 9 * file_copies level pieces + 8 * nodes_filled nodesize before + 40
covers-need nodesize level pieces height edits names before after is =
    let c = capacity nodesize in
    let size = is.size in
    let wide : 3995 ≤ c = omega (arith, size) in
    let f = nodes_filled nodesize before in
    let g = nodes_filled nodesize after in
    let holds : before ≤ c * f = holds-filled c before (omega (arith, wide)) in
    let fills : c * g ≤ after + (c - 1) = mul-div-le (after + (c - 1)) c in
    let edited = edits-most nodesize level pieces height edits is.low is.few_edits in
    let named = names-most pieces names is.few_names in
    let all = is.after_most in
    let most : after ≤ before + (pieces + 3) * ((2 * level + 9) * (74 + c)) + (pieces + 3) * 204 =
    omega (arith, edited, named, all) in
    let filled = filled_after c f g (pieces + 3) level before after wide holds fills most in
    let enough = least (pieces + 3) level (omega arith) in
    let copies = copies-are level pieces in
    omega (arith, filled, enough, copies)

pub leaves-need : (nodesize level pieces height edits names before after free left : ℕ)
    → GetsHeavierBy nodesize level pieces height edits names before after
    → 10 * file_copies level pieces + 8 * nodes_filled nodesize before + 40 ≤ free
    → free ≤ left + file_copies level pieces → 5 * nodes_filled nodesize after + 40 ≤ left
leaves-need nodesize level pieces height edits names before after free left is enough taken =
    let covers = covers-need nodesize level pieces height edits names before after is in
    omega (arith, covers, enough, taken)
