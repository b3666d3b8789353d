use Rattle.std.proofs.Common.{◌<◌, length, true, false, ◌∙◌, arith}
use Rattle.qg_qgroups.proofs.Tables.{above-of, keep-at, place-seen, take-at, test-seen}
use Rattle.qg_qgroups.proofs.groups.take_group.Goals as goal
use Rattle.qg_qgroups.proofs.groups.take_group.Goals.{else-place-len-via-then-place-len+else-eq}
use Rattle.qg_qgroups.proofs.groups.take_group.Goals.{else-place-len-via-else-place-len}

pub returns-then-eq : goal.returns-then-eq
returns-then-eq c =
    let groups = c.args.groups.now in
    let place = c.place_of-place.result in
    let told = c.place_of-place.ensures in
    let at = place-seen c.args.number c.as_slice.result.now groups place c.as_slice.ensures told.bound told.before
    told.behind in
    let one = c.index-as_slice-place.result in
    let inside : place < length groups = omega (arith, c.if-place-len.true, c.len.ensures) in
    c.remove.ensures.left
    ∙ take-at c.args.number groups place c.requires at.bound at.before at.behind one inside
    (test-seen c.args.number c.as_slice-then-place-len.result.now groups place one c.eq.result true
    c.as_slice-then-place-len.ensures c.eq.ensures c.if-eq.true)

pub returns-else-place-len : goal.returns-else-place-len
returns-else-place-len c =
    let groups = c.args.groups.now in
    let place = c.place_of-place.result in
    let told = c.place_of-place.ensures in
    let at = place-seen c.args.number c.as_slice.result.now groups place c.as_slice.ensures told.bound told.before
    told.behind in
    keep-at c.args.number groups place c.requires at.bound at.before at.behind (elim c.else-place-len.branch [
      | else-place-len-via-then-place-len+else-eq w ↦
          above-of c.args.number groups place c.requires at.bound at.before at.behind w.index-as_slice-place.result
          (test-seen c.args.number w.as_slice-then-place-len.result.now groups place w.index-as_slice-place.result
          w.eq.result false w.as_slice-then-place-len.ensures w.eq.ensures w.if-eq.false)
      | else-place-len-via-else-place-len w ↦ λ e inside.
          absurd (omega (arith, inside, w.if-place-len.false, c.len.ensures))
    ])
