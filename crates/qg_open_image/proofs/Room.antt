-- How many slots structural commands leave for their commits, in plain numbers. Weights are in bytes, the rest in
-- slots.
use Rattle.std.proofs.Common.{◌≡◌, ℕ, ◌+◌, ◌-◌, ◌*◌, ◌/◌, ◌<◌, ◌≤◌, arith}
use Rattle.std.proofs.Math.Nat.{lt_of_mul-lt-mul_left, mul-div-le}
use Rattle.qg_super.specs.Places.{capacity}
use Rattle.qg_image.specs.Need.{nodes_filled}

-- ---- nodes that bytes fill

-- where so many nodes hold less than one more than others do, they are no more
few_nodes : (c g m : ℕ) → 0 < c → c * g ≤ c * m + (c - 1) → g ≤ m
few_nodes c g m some few =
    let next : c * (m + 1) ≡ c * m + c = omega arith in
    let less : c * g < c * (m + 1) = omega (arith, next, few, some) in
    let under : g < m + 1 = lt_of_mul-lt-mul_left c less in
    omega (arith, under)

holds_bytes : (c bytes : ℕ) → 0 < c → bytes ≤ c * ((bytes + (c - 1)) / c)
holds_bytes c bytes some = omega arith

some_capacity : (nodesize : ℕ) → 4096 ≤ nodesize → 3995 ≤ capacity nodesize
some_capacity nodesize wide = omega (arith, wide)

-- bytes that are so many nodes' more at the most fill at most so many nodes more
pub fills-more : (nodesize before after k : ℕ) → 4096 ≤ nodesize → after ≤ before + k * capacity nodesize
    → nodes_filled nodesize after ≤ nodes_filled nodesize before + k
fills-more nodesize before after k wide more =
    let c = capacity nodesize in
    let large : 3995 ≤ c = some_capacity nodesize wide in
    let f = nodes_filled nodesize before in
    let g = nodes_filled nodesize after in
    let holds : before ≤ c * f = holds_bytes c before (omega (arith, large)) in
    let fills : c * g ≤ after + (c - 1) = mul-div-le (after + (c - 1)) c in
    let spread : c * (f + k) ≡ c * f + k * c = omega arith in
    few_nodes c g (f + k) (omega (arith, large)) (omega (arith, holds, fills, spread, more))

-- three trees fill at most two nodes more than their bytes together
pub fills-apart : (nodesize a b d : ℕ) → 4096 ≤ nodesize
    → nodes_filled nodesize a + nodes_filled nodesize b + nodes_filled nodesize d
    ≤ nodes_filled nodesize (a + b + d) + 2
fills-apart nodesize a b d wide =
    let c = capacity nodesize in
    let large : 3995 ≤ c = some_capacity nodesize wide in
    let all = a + b + d in
    let f = nodes_filled nodesize all in
    let x = nodes_filled nodesize a in
    let y = nodes_filled nodesize b in
    let z = nodes_filled nodesize d in
    let holds : all ≤ c * f = holds_bytes c all (omega (arith, large)) in
    let first : c * x ≤ a + (c - 1) = mul-div-le (a + (c - 1)) c in
    let second : c * y ≤ b + (c - 1) = mul-div-le (b + (c - 1)) c in
    let third : c * z ≤ d + (c - 1) = mul-div-le (d + (c - 1)) c in
    let sum : c * (x + y + z) ≡ c * x + c * y + c * z = omega arith in
    let more : c * (f + 2) ≡ c * f + 2 * c = omega arith in
    few_nodes c (x + y + z) (f + 2) (omega (arith, large))
    (omega (arith, holds, first, second, third, sum, more, large))

-- ---- a commit

-- what a commit may take is at most five times the nodes that all bytes fill, and 13
pub commit-few : (nodesize book root quota : ℕ) → 4096 ≤ nodesize
    → 5 * (nodes_filled nodesize book + nodes_filled nodesize root + nodes_filled nodesize quota) + 3
    ≤ 5 * nodes_filled nodesize (book + root + quota) + 13
commit-few nodesize book root quota wide =
    let few = fills-apart nodesize book root quota wide in omega (arith, few)

-- What a structural command needs is there before the first commit; behind it stand, of no more bytes, as many but for
-- what that commit took
pub left-first : (copies filled filled_left need free left : ℕ) → 10 * copies + 16 * filled + 80 ≤ free
    → need ≤ 5 * filled + 13 → free ≤ left + need → filled_left ≤ filled → 10 * copies + 11 * filled_left + 67 ≤ left
left-first copies filled filled_left need free left enough few taken less = omega (arith, enough, few, taken, less)

-- where nothing is pending
pub left-none : (copies filled free : ℕ) → 10 * copies + 16 * filled + 80 ≤ free
    → 10 * copies + 11 * filled + 67 ≤ free
left-none copies filled free enough = omega (arith, enough)

-- ---- a change

-- A change that fills at most so many nodes more, and takes at most so many slots, leaves what a commit may want
pub left-second : (copies filled filled_now k took free left : ℕ) → 10 * copies + 11 * filled + 67 ≤ free
    → filled_now ≤ filled + k → free ≤ left + took → 5 * k + took + 40 ≤ 10 * copies + 67 → 5 * filled_now + 40 ≤ left
left-second copies filled filled_now k took free left enough more taken small =
    omega (arith, enough, more, taken, small)
