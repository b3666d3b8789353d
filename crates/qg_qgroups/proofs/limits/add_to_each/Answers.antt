use Rattle.std.proofs.Common.{ℕ, ◌+◌, List, Some, ap, subst, ◌∙◌, arith}
use Rattle.std.specs.Prelude.{IsTrue}
use Rattle.std.specs.BTreeMap.{Updates}
use Rattle.std.specs.Ordering.{nat_cmp}
use Rattle.std.proofs.lemmas.List.{take_all}
use Rattle.std.proofs.lemmas.List.Elements.{All-weaker}
use Rattle.qg_image.specs.Table.{has_key}
use Rattle.qg_qgroups.specs.Limit.{bytes_after}
use Rattle.qg_qgroups.proofs.MapsByNumber.{listed_still}
use Rattle.qg_qgroups.proofs.HeldBytes.{next_fits, next_held, next_listed, not_absent}
use Rattle.qg_qgroups.proofs.limits.add_to_each.Goals as goal

pub overflow_add-bytes : goal.overflow_add-bytes
overflow_add-bytes c =
    let room = next_fits c.args.held.now.entries c.args.path.now c.args.n c.loop-group.group-index c.group-item.result
    c.loop-group-test.true c.group-item.is c.requires.fits in
    omega (arith, room, c.bytes_of-bytes.ensures, c.loop-group.invariant.held c.group-item.result)

pub unreachable-requires : goal.unreachable-requires
unreachable-requires c = not_absent c.loop-group.held c.number.result c.group-item.result c.number.ensures
    (next_listed c.args.path.now c.loop-group.group-index c.group-item.result c.loop-group.held.entries
    c.loop-group-test.true c.group-item.is c.loop-group.invariant.there) c.in-Err.ensures.absent

pub loop-group-preserved : goal.loop-group-preserved
loop-group-preserved c =
    let old = c.loop-group.held in
    let new = c.insert.new.self in
    let named = c.group-item.result in
    let sets : Updates nat_cmp old new named (Some (c.bytes_of-bytes.result + c.args.n)) =
    subst (λ (k : ℕ). Updates nat_cmp old new k (Some (c.bytes_of-bytes.result + c.args.n))) c.number.ensures
    c.in-Ok.ensures.updates in
    record {
      there = All-weaker (λ (group : ℕ). IsTrue (has_key group old.entries))
          (λ (group : ℕ). IsTrue (has_key group new.entries))
          (λ group. listed_still old new named (c.bytes_of-bytes.result + c.args.n) sets group) c.args.path.now
          c.loop-group.invariant.there;
      held = next_held c.args.held.now.entries old new c.args.path.now c.args.n c.loop-group.group-index named
          c.bytes_of-bytes.result c.loop-group-test.true c.group-item.is
          c.loop-group.invariant.held c.bytes_of-bytes.ensures sets;
    }

pub returns : goal.returns
returns c group =
    let all = take_all c.loop-group.group-index c.args.path.now c.loop-group-test.false in
    c.loop-group.invariant.held group
    ∙ ap (λ (path : List ℕ). bytes_after c.args.held.now.entries path c.args.n group) all
