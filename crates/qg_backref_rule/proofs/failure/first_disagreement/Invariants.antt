use Rattle.std.proofs.Common.{◌≡◌, ◌≤◌, ◌+◌, length}
use Rattle.std.specs.List.Sorted.{IsNonDecreasingBy}
use Rattle.qg_image.specs.Owed.{part_address}
use Rattle.qg_backref_rule.specs.declared.owing.Owing.{Owing}
use Rattle.qg_backref_rule.specs.declared.thing.Thing.{Thing}
use Rattle.qg_backref_rule.specs.Judged.{first_disagreement}
use Rattle.qg_backref_rule.proofs.failure.first_disagreement.Given as goal

abbrev pub invariant-loop-address : goal.invariant-loop-address
invariant-loop-address l = record {
  owings : IsNonDecreasingBy (λ (owing : Owing). owing.address) l.owings_left;
  things : IsNonDecreasingBy (λ (thing : Thing). thing.address) l.things_left;
  parts : IsNonDecreasingBy part_address l.parts_left;
  short_owings : length l.owings_left ≤ length l.fn.owings;
  short_things : length l.things_left ≤ length l.fn.things;
  short_parts : length l.parts_left ≤ length l.fn.parts;
  same : first_disagreement l.owings_left l.things_left l.parts_left ≡ first_disagreement l.fn.owings l.fn.things
      l.fn.parts;
}

abbrev pub decreases-loop-address : goal.decreases-loop-address
decreases-loop-address l = length l.things_left + length l.parts_left
