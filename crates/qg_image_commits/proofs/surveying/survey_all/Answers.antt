use Rattle.std.proofs.Common.{ℕ, sym, subst, ◌∙◌, arith}
use Rattle.std.specs.Prelude.{List, map}
use Rattle.std.specs.List.Sorted.{IsStrictlyIncreasing}
use Rattle.qg_refs.specs.declared.kept.Kept.{Kept as Reference}
use Rattle.qg_extents.specs.Table.{IsTable}
use Rattle.qg_qgroup_counts.specs.declared.surveyed.Surveyed.{Surveyed}
use Rattle.qg_open_image.proofs.PiecesRead.{handed}
use Rattle.qg_open_image.proofs.WholeFile.{handed-sound}
use Rattle.qg_image_commits.proofs.Cleaned.{held-now, nothing-surveyed, surveyed-kept, surveyed-there}
use Rattle.qg_image_commits.proofs.SurveyedAll.{editable-now, next-same-now, order-now}
use Rattle.qg_open_image.proofs.Stopped.{first-err}
use Rattle.qg_image_commits.proofs.surveying.survey_all.Goals as goal

-- ---- what is asked

pub survey-requires : goal.survey-requires
survey-requires g c = record {
  editable = editable-now c.args.kept.now (g.D.Disk.history c.args.disk.now) (g.D.Disk.size c.args.disk.now)
      c.requires.kept c.value-told.result c.value-next.result (c.value-told.ensures ∙ c.next.ensures)
      (c.value-next.ensures ∙ c.next-2.ensures) c.if-told-next.false;
}

-- ---- what can't be

pub returns-then-told-next-clause-sound : goal.returns-then-told-next-clause-sound
returns-then-told-next-clause-sound g c = λ state events names told keeps are.
    absurd (c.if-told-next.true (c.value-told.ensures ∙ c.next.ensures
    ∙ next-same-now c.args.kept.now (g.D.Disk.history c.args.disk.now) state names keeps
    ∙ sym (c.value-next.ensures ∙ c.next-2.ensures)))

pub returns-in_err-nodes-clause-sound : goal.returns-in_err-nodes-clause-sound
returns-in_err-nodes-clause-sound g c = λ state events names told keeps are.
    handed-sound (List Surveyed) c.from_residual.result _ (handed c.from_residual.result _ c.from_residual.ensures.1)
    (c.in_err-nodes.ensures.sound state events told
    (held-now c.args.kept.now (g.D.Disk.history c.args.disk.now) (g.D.Disk.size c.args.disk.now) state names
    c.requires.kept (subst (λ (book : List (ℕ × Reference)). IsTable book) c.refs.ensures c.len-ascending.ensures.table)
    keeps) are)

pub returns-then-not-do_ascend-clause-sound : goal.returns-then-not-do_ascend-clause-sound
returns-then-not-do_ascend-clause-sound g c = λ state events names told keeps are.
    let nodes = c.in_ok-nodes.ensures.surveyed state
    (held-now c.args.kept.now (g.D.Disk.history c.args.disk.now) (g.D.Disk.size c.args.disk.now) state names
    c.requires.kept (subst (λ (book : List (ℕ × Reference)). IsTable book) c.refs.ensures c.len-ascending.ensures.table)
    keeps) are in
    let order = order-now c.args.kept.now (g.D.Disk.history c.args.disk.now) (g.D.Disk.size c.args.disk.now) state names
    c.requires.kept (subst (λ (book : List (ℕ × Reference)). IsTable book) c.refs.ensures c.len-ascending.ensures.table)
    keeps c.as_slice.result.now (c.as_slice.ensures.value ∙ nodes) in
    absurd (c.do_ascend.ensures.no c.if-not-do_ascend.true order.ascending)

pub returns-then-len-slots-clause-sound : goal.returns-then-len-slots-clause-sound
returns-then-len-slots-clause-sound g c = λ state events names told keeps are.
    let nodes = c.in_ok-nodes.ensures.surveyed state
    (held-now c.args.kept.now (g.D.Disk.history c.args.disk.now) (g.D.Disk.size c.args.disk.now) state names
    c.requires.kept (subst (λ (book : List (ℕ × Reference)). IsTable book) c.refs.ensures c.len-ascending.ensures.table)
    keeps) are in
    let order = order-now c.args.kept.now (g.D.Disk.history c.args.disk.now) (g.D.Disk.size c.args.disk.now) state names
    c.requires.kept (subst (λ (book : List (ℕ × Reference)). IsTable book) c.refs.ensures c.len-ascending.ensures.table)
    keeps c.in_ok-nodes.nodes.items nodes in
    let few = order.few in
    absurd (omega (arith, few, c.len.ensures, c.if-len-slots.true))

-- ---- what is answered

pub returns-clause-surveyed : goal.returns-clause-surveyed
returns-clause-surveyed g c = λ state names keeps are.
    c.in_ok-nodes.ensures.surveyed state
    (held-now c.args.kept.now (g.D.Disk.history c.args.disk.now) (g.D.Disk.size c.args.disk.now) state names
    c.requires.kept (subst (λ (book : List (ℕ × Reference)). IsTable book) c.refs.ensures c.len-ascending.ensures.table)
    keeps) are

pub returns-clause-order : goal.returns-clause-order
returns-clause-order g c = record {
  ascending = subst (λ (nodes : List Surveyed). IsStrictlyIncreasing (map (λ node. node.linked.address) nodes))
      c.as_slice.ensures.value (c.do_ascend.ensures.yes c.if-not-do_ascend.false);
  few = omega (arith, c.len.ensures, c.if-len-slots.false);
}

pub returns-clause-kept : goal.returns-clause-kept
returns-clause-kept g c =
    surveyed-kept c.args.kept.now c.survey.new.land (g.D.Disk.history c.args.disk.now)
    (g.D.Disk.history c.survey.new.disk) (g.D.Disk.size c.args.disk.now) (g.D.Disk.size c.survey.new.disk)
    c.args.kept.now.fs.refs.next c.survey.ensures.read c.survey.ensures.space c.requires.kept
    c.survey.ensures.editable

pub returns-clause-looked : goal.returns-clause-looked
returns-clause-looked g c =
    surveyed-there c.args.kept.now c.survey.new.land (g.D.Disk.history c.args.disk.now)
    (g.D.Disk.history c.survey.new.disk) (g.D.Disk.size c.args.disk.now) (g.D.Disk.size c.survey.new.disk)
    c.args.kept.now.fs.refs.next c.survey.ensures.read c.survey.ensures.space

-- ---- so it is of what can't be, and where memory is refused

pub returns-then-told-next-clause-kept : goal.returns-then-told-next-clause-kept
returns-then-told-next-clause-kept g c = c.requires.kept

pub returns-then-told-next-clause-looked : goal.returns-then-told-next-clause-looked
returns-then-told-next-clause-looked g c = nothing-surveyed c.args.kept.now (g.D.Disk.history c.args.disk.now)
    (g.D.Disk.size c.args.disk.now)

pub returns-in_err-nodes-clause-kept : goal.returns-in_err-nodes-clause-kept
returns-in_err-nodes-clause-kept g c =
    surveyed-kept c.args.kept.now c.survey.new.land (g.D.Disk.history c.args.disk.now)
    (g.D.Disk.history c.survey.new.disk) (g.D.Disk.size c.args.disk.now) (g.D.Disk.size c.survey.new.disk)
    c.args.kept.now.fs.refs.next c.survey.ensures.read c.survey.ensures.space c.requires.kept
    c.survey.ensures.editable

pub returns-in_err-nodes-clause-looked : goal.returns-in_err-nodes-clause-looked
returns-in_err-nodes-clause-looked g c =
    surveyed-there c.args.kept.now c.survey.new.land (g.D.Disk.history c.args.disk.now)
    (g.D.Disk.history c.survey.new.disk) (g.D.Disk.size c.args.disk.now) (g.D.Disk.size c.survey.new.disk)
    c.args.kept.now.fs.refs.next c.survey.ensures.read c.survey.ensures.space

pub returns-then-not-do_ascend-clause-kept : goal.returns-then-not-do_ascend-clause-kept
returns-then-not-do_ascend-clause-kept g c =
    surveyed-kept c.args.kept.now c.survey.new.land (g.D.Disk.history c.args.disk.now)
    (g.D.Disk.history c.survey.new.disk) (g.D.Disk.size c.args.disk.now) (g.D.Disk.size c.survey.new.disk)
    c.args.kept.now.fs.refs.next c.survey.ensures.read c.survey.ensures.space c.requires.kept
    c.survey.ensures.editable

pub returns-then-not-do_ascend-clause-looked : goal.returns-then-not-do_ascend-clause-looked
returns-then-not-do_ascend-clause-looked g c =
    surveyed-there c.args.kept.now c.survey.new.land (g.D.Disk.history c.args.disk.now)
    (g.D.Disk.history c.survey.new.disk) (g.D.Disk.size c.args.disk.now) (g.D.Disk.size c.survey.new.disk)
    c.args.kept.now.fs.refs.next c.survey.ensures.read c.survey.ensures.space

pub returns-then-len-slots-clause-kept : goal.returns-then-len-slots-clause-kept
returns-then-len-slots-clause-kept g c =
    surveyed-kept c.args.kept.now c.survey.new.land (g.D.Disk.history c.args.disk.now)
    (g.D.Disk.history c.survey.new.disk) (g.D.Disk.size c.args.disk.now) (g.D.Disk.size c.survey.new.disk)
    c.args.kept.now.fs.refs.next c.survey.ensures.read c.survey.ensures.space c.requires.kept
    c.survey.ensures.editable

pub returns-then-len-slots-clause-looked : goal.returns-then-len-slots-clause-looked
returns-then-len-slots-clause-looked g c =
    surveyed-there c.args.kept.now c.survey.new.land (g.D.Disk.history c.args.disk.now)
    (g.D.Disk.history c.survey.new.disk) (g.D.Disk.size c.args.disk.now) (g.D.Disk.size c.survey.new.disk)
    c.args.kept.now.fs.refs.next c.survey.ensures.read c.survey.ensures.space

-- ---- over any disk

pub returns-in_err-nodes-clause-stops : goal.returns-in_err-nodes-clause-stops
returns-in_err-nodes-clause-stops g c =
    first-err (List Surveyed) c.from_residual.result c.in_err-nodes.field-0.0 c.args.kept.now
    (g.D.Disk.size c.args.disk.now) c.from_residual.ensures.1 c.in_err-nodes.ensures.stops
