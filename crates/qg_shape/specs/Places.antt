-- Where a key stands among keys that ascend, or would stand (on-disk format, "Key").
use Rattle.std.specs.Prelude.{ℕ, ◌+◌, ◌≤◌, ◌<◌, List, length, take, drop, not, IsTrue}
use Rattle.std.specs.List.{list_all}
use Rattle.std.specs.Ordering.{is_lt}
use Rattle.qg_num.specs.declared.key.Key.{Key}
use Rattle.qg_num.specs.Key.{key_cmp}

-- a key stands between two lists of keys: those in front are less, and those behind are greater
pub record IsBetween (front : List Key) (key : Key) (back : List Key) : Type 0 where
  pub less : IsTrue (list_all (λ other. is_lt (key_cmp other key)) front)
  pub greater : IsTrue (list_all (λ other. is_lt (key_cmp key other)) back)

-- a key that is not there would be put in front of the one at a place, or at the end
pub record GoesAt (keys : List Key) (key : Key) (place : ℕ) : Type 0 where
  pub within : place ≤ length keys
  pub between : IsBetween (take place keys) key (drop place keys)

-- a place is that of the last key that is not greater than another, or the first place where there is none
pub record LeadsTo (keys : List Key) (key : Key) (place : ℕ) : Type 0 where
  pub within : place < length keys
  pub upto : 0 < place → IsTrue (list_all (λ other. not (is_lt (key_cmp key other))) (take (place + 1) keys))
  pub past : IsTrue (list_all (λ other. is_lt (key_cmp key other)) (drop (place + 1) keys))
