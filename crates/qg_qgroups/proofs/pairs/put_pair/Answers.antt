use Rattle.std.proofs.Common.{ℕ, ◌<◌, ◌^◌, List, sym, subst, ◌∙◌}
use Rattle.std.specs.List.{All}
use Rattle.std.proofs.lemmas.Map.Views.{All-insert_key}
use Rattle.qg_qgroups.specs.Groups.{pair_cmp}
use Rattle.qg_qgroups.proofs.Sets.{pair_now, pair_put}
use Rattle.qg_qgroups.proofs.pairs.put_pair.Goals as goal

pub returns-clause-ok : goal.returns-clause-ok
returns-clause-ok c = c.in_ok-insert.ensures.keys ∙ pair_put (c.args.of, c.args.other) c.args.pairs.now.keys

pub returns-clause-has : goal.returns-clause-has
returns-clause-has c = pair_now c.args.pairs.now c.insert.new.self
    (c.args.of, c.args.other) c.in_ok-insert.ensures.updates

pub returns-clause-fit : goal.returns-clause-fit
returns-clause-fit c =
    subst (λ (pairs : List (ℕ × ℕ)). All (λ pair. (pair.0 < 2 ^ 64) × (pair.1 < 2 ^ 64)) pairs)
    (sym c.in_ok-insert.ensures.keys)
    (All-insert_key pair_cmp (c.args.of, c.args.other) (λ (pair : ℕ × ℕ). (pair.0 < 2 ^ 64) × (pair.1 < 2 ^ 64))
    c.args.pairs.now.keys c.requires.fit (c.ranges.of.fits, c.ranges.other.fits))
