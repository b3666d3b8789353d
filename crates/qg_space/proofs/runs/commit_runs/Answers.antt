use Rattle.std.proofs.Common.{◌∙◌, ap, map, drop, length}
use Rattle.std.proofs.lemmas.List.{take_at}
use Rattle.qg_space.specs.Lying.{with_held}
use Rattle.qg_space.proofs.Edits.{runs_committed}
use Rattle.qg_space.proofs.runs.commit_runs.Goals as goal

pub returns-clause-apart : goal.returns-clause-apart
returns-clause-apart c =
    let kept = c.keep_present.new.runs in
    let held = c.hold_all.new.runs in
    let holds = take_at held (drop (length held) kept.items) kept.len (c.hold_all.auto.runs ∙ c.deref_mut.ensures.len)
    ∙ c.hold_all.ensures ∙ ap (map with_held) c.deref_mut.ensures.value in
    (runs_committed c.args.runs.now.items kept.items _ c.keep_present.ensures holds).apart

pub returns-clause-present : goal.returns-clause-present
returns-clause-present c =
    let kept = c.keep_present.new.runs in
    let held = c.hold_all.new.runs in
    let holds = take_at held (drop (length held) kept.items) kept.len (c.hold_all.auto.runs ∙ c.deref_mut.ensures.len)
    ∙ c.hold_all.ensures ∙ ap (map with_held) c.deref_mut.ensures.value in
    (runs_committed c.args.runs.now.items kept.items _ c.keep_present.ensures holds).present

pub returns-clause-held : goal.returns-clause-held
returns-clause-held c =
    let kept = c.keep_present.new.runs in
    let held = c.hold_all.new.runs in
    let holds = take_at held (drop (length held) kept.items) kept.len (c.hold_all.auto.runs ∙ c.deref_mut.ensures.len)
    ∙ c.hold_all.ensures ∙ ap (map with_held) c.deref_mut.ensures.value in
    (runs_committed c.args.runs.now.items kept.items _ c.keep_present.ensures holds).held
