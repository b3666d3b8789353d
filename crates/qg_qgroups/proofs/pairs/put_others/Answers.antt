use Rattle.std.proofs.Common.{◌≡◌, ℕ, Bool, List, ap, ◌∙◌, rules}
use Rattle.std.specs.Prelude.{◌||◌}
use Rattle.std.specs.List.{filter}
use Rattle.std.specs.BTreeMap.Range.{range_contains}
use Rattle.std.specs.declared.ops.Bound.TheVariants.{Included}
use Rattle.qg_qgroups.specs.Groups.{has_number, pair_cmp}
use Rattle.qg_qgroups.proofs.Sets.{is_second, others_of}
use Rattle.qg_qgroups.proofs.pairs.put_others.Goals as goal

pub loop-pair-init : goal.loop-pair-init
loop-pair-init c = record {
  ordered = c.requires.ordered;
  has = λ other.
      let row : c.into_iter-pair-iterator.result
      ≡ filter (range_contains pair_cmp (Included (c.args.of, 0)) (Included (c.args.of, 18446744073709551615)))
      c.args.pairs.now.keys = search rules in
      ap (λ (b : Bool). has_number other c.args.into.now.keys || b)
      (ap (λ (pairs : List (ℕ × ℕ)). is_second other pairs) row
      ∙ others_of c.args.of other c.args.pairs.now.keys c.requires.fit);
}
