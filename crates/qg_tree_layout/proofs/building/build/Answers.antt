use Rattle.std.proofs.Common.{◌≤◌, ◌+◌, length, arith, refl}
use Rattle.qg_tree_layout.proofs.LevelsStacked.{HasLevels-none, HasLevels-more, IsBuilt-all, above_fewer, light_enough}
use Rattle.qg_tree_layout.proofs.LevelsStacked.{room_for_more}
use Rattle.qg_tree_layout.proofs.building.build.Goals as goal

pub levels-init : goal.levels-init
levels-init c =
    let put = rw (c.new-nodes.ensures, c.as_slice.ensures) at c.in_ok-pointers.ensures.row in
    record {
      size = refl;
      owned = refl;
      made = refl;
      levels = HasLevels-none c.args.nodesize c.args.owner c.args.next c.args.items.now c.args.slots.now c.requires.size
          c.requires.distinct c.put_row.new.nodes c.in_ok-pointers.pointers c.requires.ascending c.requires.room
          c.requires.few put;
      fit = c.in_ok-pointers.ensures.fit;
    }

pub put_row-requires-in-levels-clause-fit : goal.put_row-requires-in-levels-clause-fit
put_row-requires-in-levels-clause-fit c = rw c.as_slice-in-levels.ensures c.levels.invariant.fit

pub put_row-requires-in-levels-clause-small : goal.put_row-requires-in-levels-clause-small
put_row-requires-in-levels-clause-small c =
    let many : 2 ≤ length c.levels.pointers = omega (arith, c.levels-test.true, c.len.ensures) in
    rw c.as_slice-in-levels.ensures
    (light_enough c.args.nodesize c.args.owner c.args.next c.args.items.now c.args.slots.now c.requires.size
    c.requires.distinct c.levels.nodes c.levels.level.level c.levels.pointers c.levels.invariant.levels many
    c.requires.few)

pub put_row-requires-in-levels-clause-room : goal.put_row-requires-in-levels-clause-room
put_row-requires-in-levels-clause-room c =
    let many : 2 ≤ length c.levels.pointers = omega (arith, c.levels-test.true, c.len.ensures) in
    rw (c.as_slice-in-levels.ensures, c.above-level.ensures, c.levels.invariant.size)
    (room_for_more c.args.nodesize c.args.owner c.args.next c.args.items.now c.args.slots.now c.requires.size
    c.requires.distinct c.levels.nodes c.levels.level.level c.levels.pointers c.levels.invariant.levels many
    c.requires.room)

pub levels-smaller : goal.levels-smaller
levels-smaller c =
    let many : 2 ≤ length c.levels.pointers = omega (arith, c.levels-test.true, c.len.ensures) in
    let put = rw (c.as_slice-in-levels.ensures, c.above-level.ensures, c.levels.invariant.size) at
    c.in_ok-pointers-2.ensures.row in
    above_fewer c.args.nodesize c.levels.level.owner c.levels.level.generation c.args.items.now c.args.slots.now
    c.requires.size c.requires.distinct c.levels.nodes c.levels.level.level
    (c.levels.level.level + 1) c.levels.pointers
    c.put_row-in-levels.new.nodes c.in_ok-pointers-2.pointers many put

pub levels-preserved : goal.levels-preserved
levels-preserved c =
    let many : 2 ≤ length c.levels.pointers = omega (arith, c.levels-test.true, c.len.ensures) in
    let put = rw (
      c.as_slice-in-levels.ensures,
      c.above-level.ensures,
      c.levels.invariant.size,
      c.levels.invariant.owned,
      c.levels.invariant.made,
    ) at c.in_ok-pointers-2.ensures.row in
    rw c.above-level.ensures (record {
      size = c.levels.invariant.size;
      owned = c.levels.invariant.owned;
      made = c.levels.invariant.made;
      levels = HasLevels-more c.args.nodesize c.args.owner c.args.next c.args.items.now c.args.slots.now c.requires.size
          c.requires.distinct c.levels.nodes c.levels.level.level c.levels.pointers c.put_row-in-levels.new.nodes
          c.in_ok-pointers-2.pointers c.levels.invariant.levels many put;
      fit = c.in_ok-pointers-2.ensures.fit;
    })

pub returns : goal.returns
returns c =
    let one : length c.levels.pointers ≤ 1 = omega (arith, c.levels-test.false, c.len.ensures) in
    rw (← c.index-as_slice-0.is)
    (IsBuilt-all c.args.nodesize c.args.owner c.args.next c.args.items.now c.args.slots.now c.requires.size
    c.requires.distinct c.levels.nodes c.levels.level.level c.levels.pointers c.index-as_slice-0.result
    c.levels.invariant.levels one
    (rw c.as_slice-2.ensures at c.index-as_slice-0.is))
