use Rattle.std.proofs.Common.{ℕ, ◌<◌, ◌^◌, List, sym, subst, ◌∙◌}
use Rattle.std.specs.List.{All}
use Rattle.std.specs.BTreeMap.{is_at}
use Rattle.std.proofs.lemmas.Map.Views.{All-remove_key}
use Rattle.qg_qgroups.specs.Groups.{pair_cmp}
use Rattle.qg_qgroups.proofs.Sets.{pair_gone, pair_left}
use Rattle.qg_qgroups.proofs.pairs.take_pair.Goals as goal

pub returns-clause-left : goal.returns-clause-left
returns-clause-left c = c.remove.ensures.keys
    ∙ pair_left (c.args.of, c.args.other) c.args.pairs.now.keys c.requires.ordered

pub returns-clause-has : goal.returns-clause-has
returns-clause-has c = pair_gone c.args.pairs.now c.remove.new.self (c.args.of, c.args.other) c.remove.ensures.updates

pub returns-clause-fit : goal.returns-clause-fit
returns-clause-fit c =
    subst (λ (pairs : List (ℕ × ℕ)). All (λ pair. (pair.0 < 2 ^ 64) × (pair.1 < 2 ^ 64)) pairs)
    (sym c.remove.ensures.keys)
    (All-remove_key (is_at (pair_cmp (c.args.of, c.args.other))) (λ (pair : ℕ × ℕ). (pair.0 < 2 ^ 64)
    × (pair.1 < 2 ^ 64)) c.args.pairs.now.keys c.requires.fit)
