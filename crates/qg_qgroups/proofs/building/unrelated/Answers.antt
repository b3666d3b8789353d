use Rattle.std.proofs.Common.{ℕ, List, ap, ◌∙◌}
use Rattle.qg_image.specs.Table.{with_number}
use Rattle.qg_image.specs.Members.{Hierarchy}
use Rattle.qg_qgroups.proofs.Agreed.{free-create, keys-next, only-memory}
use Rattle.qg_qgroups.proofs.building.unrelated.Goals as goal

pub loop-group-init : goal.loop-group-init
loop-group-init c = record {
  groups = ap (λ (h : Hierarchy). h.groups) c.new-hierarchy.ensures;
  pairs = ap (λ (h : Hierarchy). h.pairs) c.new-hierarchy.ensures;
}

pub loop-group-preserved : goal.loop-group-preserved
loop-group-preserved c =
    let made = c.in_default.ensures.ok in
    let one = c.loop-group-item.result in
    record {
      groups = ap (λ (h : Hierarchy). h.groups) made
          ∙ ap (λ (ks : List ℕ). with_number one.0 ks) c.loop-group.invariant.groups
          ∙ keys-next c.args.groups.now c.loop-group.group-index one c.requires c.loop-group-test.true
          c.loop-group-item.is;
      pairs = ap (λ (h : Hierarchy). h.pairs) made ∙ c.loop-group.invariant.pairs;
    }

pub want_of_memory-requires : goal.want_of_memory-requires
want_of_memory-requires c =
    only-memory _ _
    (free-create c.args.groups.now c.loop-group.group-index c.loop-group-item.result c.loop-group.hierarchy c.requires
    c.loop-group-test.true c.loop-group-item.is c.loop-group.invariant.groups)
    c.in-Err.ensures.cause
