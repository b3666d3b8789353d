use Rattle.std.proofs.Common.{ℕ, List, [], ◌∷◌, ◌++◌, take, ap, ◌∙◌}
use Rattle.std.proofs.lemmas.List.{take_all}
use Rattle.qg_num.specs.declared.counters.Counters.{Counters}
use Rattle.qg_qgroups.specs.Judging.{counted_path}
use Rattle.qg_qgroups.proofs.Paths.{counted-next}
use Rattle.qg_qgroups.proofs.judging.counted.Goals as goal

pub loop-group-preserved : goal.loop-group-preserved
loop-group-preserved c =
    let one = c.group-item.result in
    c.in_ok-push.ensures.ok ∙ ap (λ (cs : List (ℕ × Counters)). cs ++ (one, c.counters_of.result) ∷ [])
    c.loop-group.invariant
    ∙ ap (λ (x : Counters). counted_path c.args.groups.now (take c.loop-group.group-index c.args.path.now)
    ++ (one, x) ∷ []) c.counters_of.ensures
    ∙ counted-next c.args.groups.now c.args.path.now c.loop-group.group-index one c.loop-group-test.true c.group-item.is

pub returns : goal.returns
returns c =
    c.loop-group.invariant ∙ ap (λ (p : List ℕ). counted_path c.args.groups.now p)
    (take_all c.loop-group.group-index c.args.path.now c.loop-group-test.false)
