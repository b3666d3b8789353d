-- Where an aim is reached, both parts fill a node.
use Rattle.std.proofs.Common.{◌≡◌, ℕ, ◌+◌, List, ◌++◌, ap, sym, ◌∙◌, arith, take, drop}
use Rattle.std.specs.List.{sum_by}
use Rattle.std.proofs.lemmas.List.{take-append-drop}
use Rattle.std.proofs.lemmas.List.Sums.{sum_by-append}
use Rattle.qg_shape.specs.Cut.{Fills, IsAim, IsCut, IsNear}

module _ (below above room total aim : ℕ) where
  front_fills : (front : ℕ) → IsAim below above room total aim → IsNear below above aim front → Fills room front
  front_fills front good near = record {
    fits = omega (arith, good.fits, near.upto);
    full = omega (arith, good.full, near.from);
  }

  rest_fills : (front rest : ℕ) → IsAim below above room total aim → IsNear below above aim front → front + rest ≡ total
      → Fills room rest
  rest_fills front rest good near all = record {
    fits = omega (arith, good.rest_fits, near.from, all);
    full = omega (arith, good.rest_full, near.upto, all);
  }

  -- a list is cut where its front is near an aim
  pub IsCut-near : {A : Type 0} (weight : A → ℕ) (all front rest : List A) → IsAim below above room total aim
      → sum_by weight all ≡ total → front ++ rest ≡ all → IsNear below above aim (sum_by weight front)
      → IsCut weight room all front rest
  IsCut-near weight all front rest good weighs whole near =
      let sum : sum_by weight front + sum_by weight rest ≡ total = sym (sum_by-append weight front rest)
      ∙ ap (sum_by weight) whole ∙ weighs in
      record {
        whole = whole;
        front_fills = front_fills (sum_by weight front) good near;
        rest_fills = rest_fills (sum_by weight front) (sum_by weight rest) good near sum;
      }

  pub IsCut-at : {A : Type 0} (weight : A → ℕ) (all : List A) (count : ℕ) → IsAim below above room total aim
      → total ≡ sum_by weight all → IsNear below above aim (sum_by weight (take count all))
      → IsCut weight room all (take count all) (drop count all)
  IsCut-at weight all count good weighs near = IsCut-near weight all (take count all) (drop count all) good (sym weighs)
      (take-append-drop count all) near
