use Rattle.std.proofs.Common.{refl, subst, sym, ap, ◌∙◌, arith}
use Rattle.std.specs.List.Sorted.{IsNonDecreasingBy}
use Rattle.std.proofs.Math.ListN.{set}
use Rattle.std.proofs.lemmas.List.{get_or_read}
use Rattle.qg_super.specs.Places.{data_begin}
use Rattle.qg_space.specs.Run.{Run}
use Rattle.qg_space.proofs.Apart.{addresses_rise}
use Rattle.qg_space.proofs.Edits.{IsTakenOut, found_in, taken_by_mark, taken_by_removal}
use Rattle.qg_space.proofs.Fronts.{same_before_mark, same_before_removal}
use Rattle.qg_space.proofs.runs.take_out_run.Goals as goal
use Rattle.qg_space.proofs.runs.take_out_run.Goals.{After-remove}

pub runs_before-place-requires : goal.runs_before-place-requires
runs_before-place-requires c =
    subst (IsNonDecreasingBy (λ (run : Run). run.extent.address)) (sym c.deref.ensures.value)
    (addresses_rise c.args.sizes.now data_begin c.args.runs.now.items c.requires.apart)

pub index-requires : goal.index-requires
index-requires c =
    let point = c.runs_before-place in
    let at = found_in c.args.sizes.now c.args.runs.now.items c.deref.result.now point.result c.args.at c.args.bytes
    c.requires.apart c.requires.there c.deref.ensures.value point.ensures.before point.ensures.others in
    omega (arith, at.within)

pub index_mut-requires : goal.index_mut-requires
index_mut-requires c =
    let point = c.runs_before-place in
    let at = found_in c.args.sizes.now c.args.runs.now.items c.deref.result.now point.result c.args.at c.args.bytes
    c.requires.apart c.requires.there c.deref.ensures.value point.ensures.before point.ensures.others in
    omega (arith, at.within)

pub remove-requires : goal.remove-requires
remove-requires c =
    let point = c.runs_before-place in
    let at = found_in c.args.sizes.now c.args.runs.now.items c.deref.result.now point.result c.args.at c.args.bytes
    c.requires.apart c.requires.there c.deref.ensures.value point.ensures.before point.ensures.others in
    omega (arith, at.within)

marked : (c : goal.After-runs-1)
    → IsTakenOut c.args.sizes.now c.args.runs.now.items
    (set c.args.runs.now.items c.runs_before-place.result c.set_present.new.self) c.args.at c.args.bytes
marked c =
    let runs = c.args.runs.now.items in
    let point = c.runs_before-place in
    let at = found_in c.args.sizes.now runs c.deref.result.now point.result c.args.at c.args.bytes c.requires.apart
    c.requires.there c.deref.ensures.value point.ensures.before point.ensures.others in
    let read = c.index.result.now in
    let run = c.index_mut.result.now in
    let same = get_or_read runs point.result run at.within c.index_mut.ensures.value read ∙ sym c.index.ensures in
    taken_by_mark c.args.sizes.now runs _ point.result c.args.at c.args.bytes run c.set_present.new.self
    c.requires.apart at c.index_mut.ensures.value
    (ap (λ (r : Run). r.held) same ∙ sym c.is_held.ensures ∙ c.if-is_held.true) c.set_present.ensures refl

pub returns-then-is_held-clause-apart : goal.returns-then-is_held-clause-apart
returns-then-is_held-clause-apart c = (marked c).apart

pub returns-then-is_held-clause-present : goal.returns-then-is_held-clause-present
returns-then-is_held-clause-present c = (marked c).present

pub returns-then-is_held-clause-held : goal.returns-then-is_held-clause-held
returns-then-is_held-clause-held c = (marked c).held

removed : (c : After-remove)
    → IsTakenOut c.args.sizes.now c.args.runs.now.items c.remove.new.self.items c.args.at c.args.bytes
removed c =
    let runs = c.args.runs.now.items in
    let point = c.runs_before-place in
    let at = found_in c.args.sizes.now runs c.deref.result.now point.result c.args.at c.args.bytes c.requires.apart
    c.requires.there c.deref.ensures.value point.ensures.before point.ensures.others in
    taken_by_removal c.args.sizes.now runs c.remove.new.self.items point.result c.args.at c.args.bytes
    c.index.result.now c.requires.apart at c.index.ensures (sym c.is_held.ensures
    ∙ c.if-is_held.false) c.remove.ensures.items

pub returns-else-is_held-clause-apart : goal.returns-else-is_held-clause-apart
returns-else-is_held-clause-apart c = (removed c).apart

pub returns-else-is_held-clause-present : goal.returns-else-is_held-clause-present
returns-else-is_held-clause-present c = (removed c).present

pub returns-else-is_held-clause-held : goal.returns-else-is_held-clause-held
returns-else-is_held-clause-held c = (removed c).held

pub returns-then-is_held-clause-before : goal.returns-then-is_held-clause-before
returns-then-is_held-clause-before c =
    let point = c.runs_before-place in
    let at = found_in c.args.sizes.now c.args.runs.now.items c.deref.result.now point.result c.args.at c.args.bytes
    c.requires.apart c.requires.there c.deref.ensures.value point.ensures.before point.ensures.others in
    same_before_mark c.args.runs.now.items point.result _ at.within

pub returns-else-is_held-clause-before : goal.returns-else-is_held-clause-before
returns-else-is_held-clause-before c =
    let point = c.runs_before-place in
    let at = found_in c.args.sizes.now c.args.runs.now.items c.deref.result.now point.result c.args.at c.args.bytes
    c.requires.apart c.requires.there c.deref.ensures.value point.ensures.before point.ensures.others in
    same_before_removal c.args.runs.now.items c.remove.new.self.items point.result at.within c.remove.ensures.items
