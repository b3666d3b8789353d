use Rattle.std.proofs.Common.{List, Option, length, ap, ◌∙◌}
use Rattle.qg_num.specs.declared.counters.Counters.{Counters}
use Rattle.qg_qgroups.specs.Changing.{groups_in}
use Rattle.qg_image.specs.declared.quota.Quota.{Quota}
use Rattle.qg_open_image.proofs.PiecesRead.{handed}
use Rattle.qg_open_image.proofs.WholeFile.{handed-sound}
use Rattle.qg_image_commits.proofs.Cleaned.{nothing-surveyed, surveyed-keeps}
use Rattle.qg_image_commits.proofs.Counters.{order-still, quota-still, space-still}
use Rattle.qg_image_commits.proofs.OnOff.{never-off, none-off, off-told}
use Rattle.qg_qgroup_counts.specs.declared.surveyed.Surveyed.{Surveyed}
use Rattle.qg_open_image.proofs.Stopped.{first-err}
use Rattle.qg_image_commits.proofs.counting.counts_now.Goals as goal

-- ---- quota is off

pub returns-then-is_none-clause-all : goal.returns-then-is_none-clause-all
returns-then-is_none-clause-all g c =
    ap (λ (counts : List Counters). length counts) c.new.ensures.items
    ∙ none-off c.args.kept.now.quota
    (off-told c.args.kept.now.quota c.is_none.result c.is_none.ensures c.if-is_none.true)

pub returns-then-is_none-clause-direct : goal.returns-then-is_none-clause-direct
returns-then-is_none-clause-direct g c = λ state names quota keeps are on.
    absurd (never-off c.args.kept.now.quota quota
    (off-told c.args.kept.now.quota c.is_none.result c.is_none.ensures c.if-is_none.true) on)

pub returns-then-is_none-clause-order : goal.returns-then-is_none-clause-order
returns-then-is_none-clause-order g c =
    record { slots = c.taken_slots-slots.ensures.each; runs = c.taken_bytes-bytes.ensures.apart }

pub returns-then-is_none-clause-kept : goal.returns-then-is_none-clause-kept
returns-then-is_none-clause-kept g c = c.requires.kept

pub returns-then-is_none-clause-looked : goal.returns-then-is_none-clause-looked
returns-then-is_none-clause-looked g c =
    nothing-surveyed c.args.kept.now (g.D.Disk.history c.args.disk.now) (g.D.Disk.size c.args.disk.now)

-- ---- what is asked

pub counts_of-requires-clause-fitted : goal.counts_of-requires-clause-fitted
counts_of-requires-clause-fitted g c = c.in_ok-nodes.ensures.kept.fitted

pub counts_of-requires-clause-order : goal.counts_of-requires-clause-order
counts_of-requires-clause-order g c =
    order-still c.args.kept.now c.survey_all.new.kept (g.D.Disk.history c.args.disk.now)
    (g.D.Disk.history c.survey_all.new.disk) (g.D.Disk.size c.args.disk.now) (g.D.Disk.size c.survey_all.new.disk)
    c.in_ok-nodes.nodes.items c.as_slice.result.now c.in_ok-nodes.ensures.looked c.as_slice.ensures.value
    c.in_ok-nodes.ensures.order

pub counts_of-requires-clause-lowest : goal.counts_of-requires-clause-lowest
counts_of-requires-clause-lowest g c = c.requires.lowest

-- ---- what is counted

pub returns-clause-all : goal.returns-clause-all
returns-clause-all g c =
    c.in_ok-counts_of.ensures.all
    ∙ ap (λ (quota : Option Quota). length (groups_in quota))
    (quota-still c.args.kept.now c.survey_all.new.kept (g.D.Disk.history c.args.disk.now)
    (g.D.Disk.history c.survey_all.new.disk) (g.D.Disk.size c.args.disk.now) (g.D.Disk.size c.survey_all.new.disk)
    c.in_ok-nodes.ensures.looked)

pub returns-clause-order : goal.returns-clause-order
returns-clause-order g c =
    space-still c.args.kept.now c.survey_all.new.kept (g.D.Disk.history c.args.disk.now)
    (g.D.Disk.history c.survey_all.new.disk) (g.D.Disk.size c.args.disk.now) (g.D.Disk.size c.survey_all.new.disk)
    c.in_ok-nodes.ensures.looked
    (record { slots = c.taken_slots-slots.ensures.each; runs = c.taken_bytes-bytes.ensures.apart })

pub returns-clause-direct : goal.returns-clause-direct
returns-clause-direct g c = λ state names quota keeps are on.
    let before = g.D.Disk.history c.args.disk.now in
    let after = g.D.Disk.history c.survey_all.new.disk in
    let kept = c.survey_all.new.kept in
    let bytes = g.D.Disk.size c.args.disk.now in
    let left = g.D.Disk.size c.survey_all.new.disk in
    let looked = c.in_ok-nodes.ensures.looked in
    let then = surveyed-keeps c.args.kept.now kept before after bytes left looked state names keeps in
    c.in_ok-counts_of.ensures.direct state after left names quota c.in_ok-nodes.ensures.kept then are
    (c.as_slice.ensures.value ∙ c.in_ok-nodes.ensures.surveyed state names keeps are)
    (quota-still c.args.kept.now kept before after bytes left looked ∙ on)

-- ---- what can't be

pub returns-in_err-nodes-clause-sound : goal.returns-in_err-nodes-clause-sound
returns-in_err-nodes-clause-sound g c = λ state events names told keeps are.
    handed-sound (List Counters) c.from_residual.result _ (handed c.from_residual.result _ c.from_residual.ensures.1)
    (c.in_err-nodes.ensures.sound state events names told keeps are)

-- ---- over any disk

pub returns-in_err-nodes-clause-stops : goal.returns-in_err-nodes-clause-stops
returns-in_err-nodes-clause-stops g c =
    first-err (List Surveyed) c.from_residual.result c.in_err-nodes.field-0.0 c.args.kept.now
    (g.D.Disk.size c.args.disk.now) c.from_residual.ensures.1 c.in_err-nodes.ensures.stops
