use Rattle.std.proofs.Common.{◌≡◌, ℕ, ◌+◌, List, [], take, drop, false, sym, subst, inl, inr, arith}
use Rattle.std.proofs.lemmas.List.{take_all}
use Rattle.qg_tree_items.specs.Types.{ExtentPart}
use Rattle.qg_tree_items.specs.Owed.{reference_told}
use Rattle.qg_refs.specs.declared.counted.Counted.{Counted}
use Rattle.qg_refs.specs.Counts.{IsRefList}
use Rattle.qg_extents.specs.BookRecords.{told_in}
use Rattle.qg_extents.proofs.Telling.{IsSoFar, Told, add_up, part-refused, part-taken, so_far-none, so_far-short}
use Rattle.qg_extents.proofs.Telling.{so_far-some, so_far-sound, told-cut, told-next}
use Rattle.qg_extents.proofs.gather.read_references.Goals as goal
use Rattle.qg_extents.proofs.gather.read_references.Goals.{then-refs-eq0-via-then-refs-eq0}
use Rattle.qg_extents.proofs.gather.read_references.Goals.{then-refs-eq0-via-else-refs-eq0+then-gathered-ne0}

pub loop-part-init : goal.loop-part-init
loop-part-init c = subst (λ (references : List Counted). IsSoFar c.args.refs c.args.refs [] references)
    (sym c.new.ensures) (so_far-none c.args.refs)

pub returns-then-not-branch : goal.returns-then-not-branch
returns-then-not-branch c =
    let here = c.args.here.now in
    let i = c.loop-part.part-index in
    let part = c.part-item.result in
    subst (λ (told : Told). add_up c.args.refs told ≡ false) (sym (told-cut here i part (omega arith) c.part-item.is))
    (part-refused c.args.refs (told_in (take i here)) (told_in (drop (i + 1) here)) c.loop-part.gathered
    (reference_told part) c.loop-part.invariant
    (c.in_ok-gather_part.ensures.refused c.if-not-branch.true))

pub loop-part-preserved : goal.loop-part-preserved
loop-part-preserved c =
    let here = c.args.here.now in
    let i = c.loop-part.part-index in
    let part = c.part-item.result in
    let next = c.gather_part.new.gathered in
    subst (λ (told : Told). IsSoFar c.args.refs next.left told next.references)
    (sym (told-next here i part (omega arith) c.part-item.is))
    (part-taken c.args.refs (told_in (take i here)) c.loop-part.gathered next
    (reference_told part) c.loop-part.invariant (c.in_ok-gather_part.ensures.taken c.if-not-branch.false))

pub returns-then-refs-eq0 : goal.returns-then-refs-eq0
returns-then-refs-eq0 c =
    let all : take c.loop-part.part-index c.args.here.now ≡ c.args.here.now = take_all c.loop-part.part-index
    c.args.here.now (omega arith) in
    subst (λ (parts : List ExtentPart). add_up c.args.refs (told_in parts) ≡ false) all
    (so_far-short c.args.refs c.loop-part.gathered.left
    (told_in (take c.loop-part.part-index c.args.here.now)) c.loop-part.gathered.references c.loop-part.invariant
    (elim c.then-refs-eq0.branch [
      | then-refs-eq0-via-then-refs-eq0 w ↦ inl w.if-refs-eq0.true
      | then-refs-eq0-via-else-refs-eq0+then-gathered-ne0 w ↦ inr w.if-gathered-ne0.true
    ]))

pub returns : goal.returns
returns c =
    let all : take c.loop-part.part-index c.args.here.now ≡ c.args.here.now = take_all c.loop-part.part-index
    c.args.here.now (omega arith) in
    let none : c.loop-part.gathered.left ≡ 0 = omega arith in
    let refs = c.args.refs in
    let references = c.loop-part.gathered.references in
    let so : IsSoFar refs 0 (told_in c.args.here.now) references =
    subst (λ (parts : List ExtentPart). IsSoFar refs 0 (told_in parts) references) all
    (subst (λ (left : ℕ). IsSoFar refs left (told_in (take c.loop-part.part-index c.args.here.now)) references) none
    c.loop-part.invariant) in
    record {
      sound = so_far-sound refs (told_in c.args.here.now) references so c.if-refs-eq0.false;
      list = subst IsRefList c.as_slice-ascending.ensures.same c.as_slice-ascending.ensures.sound;
      some = so_far-some refs (told_in c.args.here.now) references so c.if-refs-eq0.false;
      fitting = so.fitting;
      count = so.count;
    }
