use Rattle.std.proofs.Common.{sym, ◌∙◌, arith}
use Rattle.qg_qgroups.proofs.Tables.{above-of, found-at, missing-at}
use Rattle.qg_qgroups.proofs.groups.find_group.Goals as goal
use Rattle.qg_qgroups.proofs.groups.find_group.Goals.{else-place-groups-via-then-place-groups+else-eq}
use Rattle.qg_qgroups.proofs.groups.find_group.Goals.{else-place-groups-via-else-place-groups}

pub returns-then-eq : goal.returns-then-eq
returns-then-eq c =
    let at = c.place_of-place.ensures in
    found-at c.args.number c.args.groups.now c.place_of-place.result c.requires at.bound at.before at.behind
    c.index-groups-place.result c.index-groups-place-then-eq.result
    c.if-place-groups.true (sym c.eq.ensures ∙ c.if-eq.true)

pub returns : goal.returns
returns c =
    let at = c.place_of-place.ensures in
    missing-at c.args.number c.args.groups.now c.place_of-place.result c.requires at.bound at.before at.behind
    (elim c.else-place-groups.branch [
      | else-place-groups-via-then-place-groups+else-eq w ↦
          above-of c.args.number c.args.groups.now c.place_of-place.result c.requires at.bound at.before at.behind
          w.index-groups-place.result (sym w.eq.ensures ∙ w.if-eq.false)
      | else-place-groups-via-else-place-groups w ↦ λ e inside. absurd (omega (arith, inside, w.if-place-groups.false))
    ])
