-- How many nodes items fill.
use Rattle.std.proofs.Common.{ℕ, ◌+◌, ◌*◌, ◌-◌, ◌≤◌, ◌<◌, ◌^◌, arith, inl, inr}
use Rattle.qg_node.specs.NodeText.{IsNodeSize}
use Rattle.qg_image.specs.Need.{nodes_filled}

-- items that fill few nodes are light
pub filled-light : (nodesize bytes : ℕ) → IsNodeSize nodesize → 5 * nodes_filled nodesize bytes + 1 ≤ 16128
    → bytes < 2 ^ 32
filled-light nodesize bytes (inl is) few = let light = rw is at few in omega (arith, light)
filled-light nodesize bytes (inr is) few = let light = rw is at few in omega (arith, light)
