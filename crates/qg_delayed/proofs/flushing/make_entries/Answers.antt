use Rattle.std.proofs.Common.{◌≡◌, ℕ, [], ◌∷◌, ◌++◌, refl, sym, ap, ◌∙◌, arith}
use Rattle.std.specs.Map.Iter.{deref_pair}
use Rattle.std.proofs.lemmas.Map.Iter.{rest_all, rest_more}
use Rattle.qg_delayed.specs.declared.entry.Entry.{Entry}
use Rattle.qg_delayed.specs.Flushing.{edits_at, edits_of}
use Rattle.qg_delayed.proofs.Learning.{fault_handed, handed}
use Rattle.qg_delayed.proofs.OneByOne.{can_front, going_as, going_first, going_last, going_next, left_both, left_none}
use Rattle.qg_delayed.proofs.flushing.make_entries.Goals as goal

pub loop-at-init : goal.loop-at-init
loop-at-init g c =
    let b = g.B.RefBook in
    let es = c.args.entries.now.entries in
    let all = edits_of es in
    let items : c.into_iter-at-iterator.result ≡ es =
    c.into_iter-at-iterator.ensures.into_iter_gives ∙ c.iter-at-items.ensures.rest in
    record {
      going = going_as b.stands b.holds b.has_room b.edits all all (edits_of c.into_iter-at-iterator.result)
          c.args.book.now c.args.land.now c.args.disk.now c.args.book.now c.args.land.now c.args.disk.now
          (ap edits_of (sym items))
          (going_first b.stands b.holds b.has_room b.edits all c.args.book.now c.args.land.now c.args.disk.now
          c.requires);
      left = left_none b.edits c.args.land.now c.args.disk.now;
      unwritten = record { told = refl; long = refl };
      faults = refl;
      rise = omega arith;
    }

pub make_entry-requires : goal.make_entry-requires
make_entry-requires g c =
    let b = g.B.RefBook in
    let at = c.loop-at in
    let all = edits_of c.args.entries.now.entries in
    let one = edits_at c.new.result c.in-Some.entry.now in
    let rest = edits_of c.next.new.self in
    let items : at.at-iterator ≡ (c.in-Some.at.now, c.in-Some.entry.now) ∷ c.next.new.self =
    rest_more (deref_pair {K = ℕ} {X = Entry}) at.at-iterator c.next.new.self c.next.result
    (c.in-Some.at, c.in-Some.entry) c.in-Some.is c.next.ensures.steps in
    let next : edits_of at.at-iterator ≡ one ++ rest =
    ap edits_of items ∙ ap (λ (a : ℕ). edits_at a c.in-Some.entry.now ++ rest) (sym c.new.ensures) in
    can_front b.stands b.holds b.has_room b.edits one rest at.book at.land at.disk
    (going_as b.stands b.holds b.has_room b.edits all (edits_of at.at-iterator) (one ++ rest) c.args.book.now
    c.args.land.now c.args.disk.now at.book at.land at.disk next at.invariant.going).can

pub loop-at-preserved : goal.loop-at-preserved
loop-at-preserved g c =
    let b = g.B.RefBook in
    let at = c.loop-at in
    let met = at.invariant in
    let made = c.in_ok-make_entry.ensures in
    let all = edits_of c.args.entries.now.entries in
    let one = edits_at c.new.result c.in-Some.entry.now in
    let rest = edits_of c.next.new.self in
    let items : at.at-iterator ≡ (c.in-Some.at.now, c.in-Some.entry.now) ∷ c.next.new.self =
    rest_more (deref_pair {K = ℕ} {X = Entry}) at.at-iterator c.next.new.self c.next.result
    (c.in-Some.at, c.in-Some.entry) c.in-Some.is c.next.ensures.steps in
    let next : edits_of at.at-iterator ≡ one ++ rest =
    ap edits_of items ∙ ap (λ (a : ℕ). edits_at a c.in-Some.entry.now ++ rest) (sym c.new.ensures) in
    record {
      going = going_next b.stands b.holds b.has_room b.edits all one rest c.args.book.now c.args.land.now
          c.args.disk.now at.book at.land at.disk c.make_entry.new.book c.make_entry.new.land c.make_entry.new.disk
          (going_as b.stands b.holds b.has_room b.edits all (edits_of at.at-iterator) (one ++ rest) c.args.book.now
          c.args.land.now c.args.disk.now at.book at.land at.disk next met.going) made.made;
      left = left_both b.edits c.args.land.now c.args.disk.now at.land at.disk c.make_entry.new.land
          c.make_entry.new.disk met.left made.leaves;
      unwritten = record {
        told = made.unwritten.told ∙ met.unwritten.told;
        long = made.unwritten.long ∙ met.unwritten.long;
      };
      faults = made.cause.fine ∙ met.faults;
      rise = omega (arith, met.rise, made.rise);
    }

pub returns-in_err-make_entry-clause-leaves : goal.returns-in_err-make_entry-clause-leaves
returns-in_err-make_entry-clause-leaves g c =
    left_both g.B.RefBook.edits c.args.land.now c.args.disk.now c.loop-at.land c.loop-at.disk c.make_entry.new.land
    c.make_entry.new.disk c.loop-at.invariant.left c.in_err-make_entry.ensures.leaves

pub returns-in_err-make_entry-clause-no_image : goal.returns-in_err-make_entry-clause-no_image
returns-in_err-make_entry-clause-no_image g c some =
    fault_handed c.from_residual.result _ (handed c.from_residual.result _ c.from_residual.ensures.1)
    (c.in_err-make_entry.ensures.no_image (c.loop-at.invariant.going.tells some))

pub returns-clause-made : goal.returns-clause-made
returns-clause-made g c =
    let b = g.B.RefBook in
    let at = c.loop-at in
    let all = edits_of c.args.entries.now.entries in
    let none : at.at-iterator ≡ [] = rest_all (deref_pair {K = ℕ} {X = Entry}) at.at-iterator c.next.new.self
    c.next.result c.in-None.is c.next.ensures.steps in
    going_last b.stands b.holds b.has_room b.edits all c.args.book.now c.args.land.now c.args.disk.now at.book at.land
    at.disk
    (going_as b.stands b.holds b.has_room b.edits all (edits_of at.at-iterator) [] c.args.book.now c.args.land.now
    c.args.disk.now at.book at.land at.disk (ap edits_of none) at.invariant.going)
