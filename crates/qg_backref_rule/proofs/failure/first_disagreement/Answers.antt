use Rattle.std.proofs.Common.{◌-◌, refl, sym, ◌∙◌, arith, take, drop, length, List}
use Rattle.std.specs.Prelude.{Some}
use Rattle.std.proofs.lemmas.Bool.{cond-true, cond-false}
use Rattle.qg_image.specs.Owed.{part_address}
use Rattle.qg_backref_rule.specs.declared.owing.Owing.{Owing}
use Rattle.qg_backref_rule.proofs.Steps.{address_of_owing, address_of_thing, none_left}
use Rattle.qg_backref_rule.proofs.Rounds.{rises_tail, short_tail, round_parts}
use Rattle.qg_backref_rule.proofs.failure.first_disagreement.Goals as goal

pub returns-then-not-branch : goal.returns-then-not-branch
returns-then-not-branch c =
    let past : List Owing = take (length c.loop-address.owings_left.now - c.owings_below.result)
    (drop c.owings_below.result c.loop-address.owings_left.now) in
    sym (round_parts c.loop-address.owings_left.now c.loop-address.things_left.now c.loop-address.parts_left.now
    c.in-Some.address
    c.loop-address.invariant.owings c.loop-address.invariant.things c.loop-address.invariant.parts
    (sym c.least_address.ensures ∙ c.in-Some.is)
    c.owings_below.result c.owings_upto-owed.result c.parts_upto-recorded.result _ c.owings_below.ensures.front past
    refl c.owings_upto-owed.ensures.front c.parts_upto-recorded.ensures.front refl
    c.kind_first-kind.result c.kind_first-kind.ensures c.in_ok-agree.field-0 c.in_ok-agree.ensures
    ∙ cond-false c.in_ok-agree.field-0 _ (Some c.in-Some.address) c.if-not-branch.true)
    ∙ c.loop-address.invariant.same

pub loop-address-preserved : goal.loop-address-preserved
loop-address-preserved c =
    let past : List Owing = take (length c.loop-address.owings_left.now - c.owings_below.result)
    (drop c.owings_below.result c.loop-address.owings_left.now) in
    record {
      owings = rises_tail address_of_owing c.owings_upto-owed.result past
          (rises_tail address_of_owing c.owings_below.result c.loop-address.owings_left.now
          c.loop-address.invariant.owings);
      things = rises_tail address_of_thing c.things_upto.result c.loop-address.things_left.now
          c.loop-address.invariant.things;
      parts = rises_tail part_address c.parts_upto-recorded.result c.loop-address.parts_left.now
          c.loop-address.invariant.parts;
      short_owings = omega (
        arith,
        short_tail c.owings_upto-owed.result past,
        short_tail c.owings_below.result
            c.loop-address.owings_left.now,
        c.loop-address.invariant.short_owings,
      );
      short_things = omega (
        arith,
        short_tail c.things_upto.result c.loop-address.things_left.now,
        c.loop-address.invariant.short_things,
      );
      short_parts = omega (
        arith,
        short_tail c.parts_upto-recorded.result c.loop-address.parts_left.now,
        c.loop-address.invariant.short_parts,
      );
      same =
          sym (round_parts c.loop-address.owings_left.now c.loop-address.things_left.now c.loop-address.parts_left.now
          c.in-Some.address
          c.loop-address.invariant.owings c.loop-address.invariant.things c.loop-address.invariant.parts
          (sym c.least_address.ensures ∙ c.in-Some.is)
          c.owings_below.result c.owings_upto-owed.result c.parts_upto-recorded.result c.things_upto.result
          c.owings_below.ensures.front past refl c.owings_upto-owed.ensures.front
          c.parts_upto-recorded.ensures.front c.things_upto.ensures.front c.kind_first-kind.result
          c.kind_first-kind.ensures c.in_ok-agree.field-0 c.in_ok-agree.ensures
          ∙ cond-true c.in_ok-agree.field-0 _ (Some c.in-Some.address) c.if-not-branch.false)
          ∙ c.loop-address.invariant.same;
    }

pub returns : goal.returns
returns c =
    sym (none_left c.loop-address.owings_left.now c.loop-address.things_left.now c.loop-address.parts_left.now
    (sym c.least_address.ensures ∙ c.in_default.is)) ∙ c.loop-address.invariant.same
