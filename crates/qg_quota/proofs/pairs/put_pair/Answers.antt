use Rattle.std.proofs.Common.{ℕ, ◌<◌, ◌^◌, List, sym, subst, ap, ◌∙◌, arith}
use Rattle.std.specs.List.{All}
use Rattle.std.proofs.lemmas.Map.Views.{All-insert_key}
use Rattle.qg_machine.specs.GroupChange.{with_pair}
use Rattle.qg_qgroups.specs.Groups.{pair_cmp}
use Rattle.qg_qgroups.proofs.Sets.{pair_put}
use Rattle.qg_quota.proofs.pairs.put_pair.Goals as goal

pub returns-clause-keys : goal.returns-clause-keys
returns-clause-keys c =
    c.in_ok-insert.ensures.keys ∙ pair_put (c.number.result, c.number-2.result) c.args.pairs.now.keys
    ∙ ap (λ (n : ℕ). with_pair (n, c.number-2.result) c.args.pairs.now.keys) c.number.ensures
    ∙ ap (λ (n : ℕ). with_pair (c.args.of, n) c.args.pairs.now.keys) c.number-2.ensures

pub returns-clause-fit : goal.returns-clause-fit
returns-clause-fit c =
    let first : c.number.result < 2 ^ 64 = omega arith in
    let second : c.number-2.result < 2 ^ 64 = omega arith in
    subst (λ (pairs : List (ℕ × ℕ)). All (λ pair. (pair.0 < 2 ^ 64) × (pair.1 < 2 ^ 64)) pairs)
    (sym c.in_ok-insert.ensures.keys)
    (All-insert_key pair_cmp (c.number.result, c.number-2.result) (λ (pair : ℕ × ℕ). (pair.0 < 2 ^ 64)
    × (pair.1 < 2 ^ 64)) c.args.pairs.now.keys c.requires (first, second))
