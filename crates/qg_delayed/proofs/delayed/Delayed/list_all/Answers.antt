use Rattle.std.proofs.Common.{◌≡◌, List, take, subst, arith}
use Rattle.std.proofs.lemmas.List.{take_all}
use Rattle.qg_refs.specs.declared.counted.Counted.{Counted}
use Rattle.qg_delayed.proofs.AllListed.{HaveListed, last_listed, next_listed, no_memory, none_listed, own_count}
use Rattle.qg_delayed.proofs.Learning.{handed}
use Rattle.qg_delayed.proofs.delayed.Delayed.list_all.Goals as goal

pub loop-counted-init : goal.loop-counted-init
loop-counted-init c = none_listed c.args.self.now c.args.at c.args.references.now c.requires.at

pub returns-in_err-list_new-clause-told : goal.returns-in_err-list_new-clause-told
returns-in_err-list_new-clause-told c below told fits =
    let all = c.args.references.now in
    c.in_err-list_new.ensures.told below
    (own_count below c.args.at all c.loop-counted.counted-index c.counted-item.result c.requires.list (omega arith)
    c.counted-item.is told)
    (c.loop-counted.invariant.told below told fits)

pub returns-in_err-list_new-clause-no_image : goal.returns-in_err-list_new-clause-no_image
returns-in_err-list_new-clause-no_image c below told fits =
    let all = c.args.references.now in
    no_memory c.from_residual.result _ (handed c.from_residual.result _ c.from_residual.ensures.1)
    (c.in_err-list_new.ensures.no_image below
    (own_count below c.args.at all c.loop-counted.counted-index c.counted-item.result c.requires.list (omega arith)
    c.counted-item.is told)
    (c.loop-counted.invariant.told below told fits))

pub loop-counted-preserved : goal.loop-counted-preserved
loop-counted-preserved c =
    let made = c.in_ok-list_new.ensures in
    next_listed c.args.self.now c.loop-counted.self c.list_new.new.self c.args.at c.args.references.now
    c.loop-counted.counted-index c.counted-item.result c.requires.list (omega arith) c.counted-item.is
    c.loop-counted.invariant made.known made.learns made.told

pub returns-then-entry-ne0-clause-no_image : goal.returns-then-entry-ne0-clause-no_image
returns-then-entry-ne0-clause-no_image c below told fits =
    let all = c.args.references.now in
    let i = c.loop-counted.counted-index in
    let whole : take i all ≡ all = take_all i all (omega arith) in
    let listed : HaveListed c.args.self.now c.loop-counted.self c.args.at all all =
    subst (λ (front : List Counted). HaveListed c.args.self.now c.loop-counted.self c.args.at all front) whole
    c.loop-counted.invariant in
    absurd (omega (
      arith,
      c.if-entry-ne0.true,
      last_listed c.args.self.now c.loop-counted.self c.args.at all c.entry.result.now c.entry.ensures.sound
          c.entry.ensures.found listed below told fits,
    ))
