use Rattle.std.proofs.Common.{◌≡◌, ℕ, ◌+◌, List, [], ◌++◌, drop, replicate, refl, sym, ap, subst, ◌∙◌, arith}
use Rattle.std.specs.List.{flat_map}
use Rattle.std.proofs.lemmas.List.{drop_all}
use Rattle.qg_delayed.specs.declared.change.Change.{Change}
use Rattle.qg_delayed.specs.declared.edit.Edit.{Edit}
use Rattle.qg_delayed.specs.declared.edit.Edit.TheVariants.{Drop}
use Rattle.qg_delayed.specs.Flushing.{go_in, goes}
use Rattle.qg_delayed.specs.Making.{CanMake, HasMade}
use Rattle.qg_delayed.proofs.Learning.{fault_handed, handed}
use Rattle.qg_delayed.proofs.OneByOne.{can_front, changes_next, going_as, going_first, going_last, going_next}
use Rattle.qg_delayed.proofs.OneByOne.{left_both, left_none}
use Rattle.qg_delayed.proofs.making.make_goes.Goals as goal

pub loop-change-init : goal.loop-change-init
loop-change-init g c =
    let b = g.B.RefBook in
    let e = c.args.entry.now in
    let all = go_in c.args.at e in
    let f : Change → List Edit = λ w. replicate (goes e.begun w) (Drop c.args.at w.reference) in
    record {
      going = going_as b.stands b.holds b.has_room b.edits all all (flat_map f c.as_slice-changes.result.now)
          c.args.book.now c.args.land.now c.args.disk.now c.args.book.now c.args.land.now c.args.disk.now
          (ap (λ (ws : List Change). flat_map f ws) (sym c.as_slice-changes.ensures.same))
          (going_first b.stands b.holds b.has_room b.edits all c.args.book.now c.args.land.now c.args.disk.now
          c.requires);
      left = left_none b.edits c.args.land.now c.args.disk.now;
      unwritten = record { told = refl; long = refl };
      faults = refl;
      rise = omega arith;
    }

pub make_times-requires : goal.make_times-requires
make_times-requires g c =
    let b = g.B.RefBook in
    let at = c.loop-change in
    let e = c.args.entry.now in
    let change = c.change-item.result in
    let cs = c.as_slice-changes.result.now in
    let f : Change → List Edit = λ w. replicate (goes e.begun w) (Drop c.args.at w.reference) in
    let rest = flat_map f (drop (at.change-index + 1) cs) in
    let is : replicate c.goes.result (Drop c.args.at change.reference) ≡ f change =
    ap (λ (n : ℕ). replicate n (Drop c.args.at change.reference)) c.goes.ensures in
    subst (λ (es : List Edit). CanMake b.stands b.holds b.has_room b.edits es at.book at.land at.disk) (sym is)
    (can_front b.stands b.holds b.has_room b.edits (f change) rest at.book at.land at.disk
    (going_as b.stands b.holds b.has_room b.edits (go_in c.args.at e) (flat_map f (drop at.change-index cs))
    (f change ++ rest) c.args.book.now c.args.land.now c.args.disk.now at.book at.land at.disk
    (changes_next f cs at.change-index change c.loop-change-test.true c.change-item.is) at.invariant.going).can)

pub loop-change-preserved : goal.loop-change-preserved
loop-change-preserved g c =
    let b = g.B.RefBook in
    let at = c.loop-change in
    let met = at.invariant in
    let made = c.in_ok-make_times.ensures in
    let next = c.make_times.new in
    let e = c.args.entry.now in
    let change = c.change-item.result in
    let cs = c.as_slice-changes.result.now in
    let all = go_in c.args.at e in
    let f : Change → List Edit = λ w. replicate (goes e.begun w) (Drop c.args.at w.reference) in
    let rest = flat_map f (drop (at.change-index + 1) cs) in
    let is : replicate c.goes.result (Drop c.args.at change.reference) ≡ f change =
    ap (λ (n : ℕ). replicate n (Drop c.args.at change.reference)) c.goes.ensures in
    record {
      going = going_next b.stands b.holds b.has_room b.edits all (f change) rest c.args.book.now c.args.land.now
          c.args.disk.now at.book at.land at.disk next.book next.land next.disk
          (going_as b.stands b.holds b.has_room b.edits all (flat_map f (drop at.change-index cs)) (f change ++ rest)
          c.args.book.now c.args.land.now c.args.disk.now at.book at.land at.disk
          (changes_next f cs at.change-index change c.loop-change-test.true c.change-item.is) met.going)
          (subst (λ (es : List Edit). HasMade b.stands b.holds b.has_room b.edits es at.book at.land at.disk
          next.book next.land next.disk) is made.made);
      left = left_both b.edits c.args.land.now c.args.disk.now at.land at.disk next.land next.disk met.left made.leaves;
      unwritten = record {
        told = made.unwritten.told ∙ met.unwritten.told;
        long = made.unwritten.long ∙ met.unwritten.long;
      };
      faults = made.cause.fine ∙ met.faults;
      rise = omega (arith, met.rise, made.rise);
    }

pub returns-in_err-make_times-clause-leaves : goal.returns-in_err-make_times-clause-leaves
returns-in_err-make_times-clause-leaves g c =
    left_both g.B.RefBook.edits c.args.land.now c.args.disk.now c.loop-change.land c.loop-change.disk
    c.make_times.new.land c.make_times.new.disk c.loop-change.invariant.left c.in_err-make_times.ensures.leaves

pub returns-in_err-make_times-clause-no_image : goal.returns-in_err-make_times-clause-no_image
returns-in_err-make_times-clause-no_image g c some =
    fault_handed c.from_residual.result _ (handed c.from_residual.result _ c.from_residual.ensures.1)
    (c.in_err-make_times.ensures.no_image (c.loop-change.invariant.going.tells some))

pub returns-clause-made : goal.returns-clause-made
returns-clause-made g c =
    let b = g.B.RefBook in
    let at = c.loop-change in
    let e = c.args.entry.now in
    let cs = c.as_slice-changes.result.now in
    let all = go_in c.args.at e in
    let f : Change → List Edit = λ w. replicate (goes e.begun w) (Drop c.args.at w.reference) in
    going_last b.stands b.holds b.has_room b.edits all c.args.book.now c.args.land.now c.args.disk.now at.book at.land
    at.disk
    (going_as b.stands b.holds b.has_room b.edits all (flat_map f (drop at.change-index cs)) [] c.args.book.now
    c.args.land.now c.args.disk.now at.book at.land at.disk
    (ap (λ (ws : List Change). flat_map f ws) (drop_all at.change-index cs (omega arith))) at.invariant.going)
