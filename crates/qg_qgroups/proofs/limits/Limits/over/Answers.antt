use Rattle.std.proofs.Common.{◌≡◌, ℕ, List, [], drop, sym, ap, ◌∙◌}
use Rattle.std.proofs.lemmas.List.{drop_all}
use Rattle.qg_num.specs.declared.counters.Counters.{Counters}
use Rattle.qg_qgroups.specs.Limit.{first_over_of}
use Rattle.qg_qgroups.proofs.HeldBytes.{passed_here, passed_later, passed_none}
use Rattle.qg_qgroups.proofs.limits.Limits.over.Goals as goal

pub returns-in-Some : goal.returns-in-Some
returns-in-Some c =
    sym (c.loop-entry.invariant
    ∙ passed_here c.args.self.now c.args.path.now c.args.n c.loop-entry.entry-index c.entry-item.result c.in-Some.which
    c.loop-entry-test.true c.entry-item.is (sym c.passed.ensures ∙ c.in-Some.is))

pub loop-entry-preserved : goal.loop-entry-preserved
loop-entry-preserved c =
    c.loop-entry.invariant
    ∙ passed_later c.args.self.now c.args.path.now c.args.n c.loop-entry.entry-index c.entry-item.result
    c.loop-entry-test.true c.entry-item.is (sym c.passed.ensures ∙ c.in_default.is)

pub returns : goal.returns
returns c =
    let rest : drop c.loop-entry.entry-index c.args.path.now ≡ [] =
    drop_all c.loop-entry.entry-index c.args.path.now c.loop-entry-test.false in
    sym (c.loop-entry.invariant ∙ ap (λ (path : List (ℕ × Counters)). first_over_of c.args.self.now path c.args.n) rest
    ∙ passed_none c.args.self.now c.args.n)
