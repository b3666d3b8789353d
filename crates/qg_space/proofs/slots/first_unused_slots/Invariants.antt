use Rattle.std.proofs.Common.{◌≡◌, ◌≤◌, length, take}
use Rattle.qg_space.specs.Lying.{slots_where, is_unused}
use Rattle.qg_space.proofs.slots.first_unused_slots.Given as goal

abbrev pub invariant-loop-number : goal.invariant-loop-number
invariant-loop-number l = record {
  those : l.list ≡ slots_where is_unused l.sizes 0 (take l.number l.slots);
  few : length l.list ≤ l.count;
}
