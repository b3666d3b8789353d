-- Lists as sets (this project's own).
use Rattle.std.specs.Prelude.{List}
use Rattle.std.specs.List.{Contains}

-- two lists have the same elements, in whatever order and however often
pub record HaveSame {A : Type 0} (xs ys : List A) : Type 0 where
  pub into : (x : A) → Contains xs x → Contains ys x
  pub back : (x : A) → Contains ys x → Contains xs x
