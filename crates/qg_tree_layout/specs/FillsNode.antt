-- How much of a list goes into one node (this project's own). Weights are in bytes.
use Rattle.std.specs.Prelude.{◌≡◌, ℕ, ◌+◌, ◌*◌, ◌≤◌, ◌<◌, List, length, take}
use Rattle.std.specs.List.{sum_by}

-- The first `count` of a list fill a node, and `taken` is their weight. They fit, and they are the whole list if that
-- fits; else they are a quarter of the room at least, and so is what is left.
pub record FillsNode {A : Type 0} (weight : A → ℕ) (list : List A) (room count taken : ℕ) : Type 0 where
  pub within : count ≤ length list
  pub weighs : taken ≡ sum_by weight (take count list)
  pub fits : taken ≤ room
  pub whole : sum_by weight list ≤ room → count ≡ length list
  pub full : room < sum_by weight list → room ≤ 4 * taken
  pub left : room < sum_by weight list → 4 * taken + room ≤ 4 * sum_by weight list
