use Rattle.std.proofs.Common.{sym, ◌∙◌, arith}
use Rattle.qg_qgroups.proofs.Tables.{above-of, found-at, missing-at}
use Rattle.qg_quota.proofs.rules.value_of.Goals as goal
use Rattle.qg_quota.proofs.rules.value_of.Goals.{else-place-entries-via-then-place-entries+else-eq}
use Rattle.qg_quota.proofs.rules.value_of.Goals.{else-place-entries-via-else-place-entries}

pub returns-then-eq : goal.returns-then-eq
returns-then-eq g c =
    let at = c.place_of-place.ensures in
    found-at c.args.group c.args.entries.now c.place_of-place.result c.requires at.bound at.before at.behind
    c.index-entries-place.result c.index-entries-place-then-eq.result
    c.if-place-entries.true (sym c.eq.ensures ∙ c.if-eq.true)

pub returns : goal.returns
returns g c =
    let at = c.place_of-place.ensures in
    missing-at c.args.group c.args.entries.now c.place_of-place.result c.requires at.bound at.before at.behind
    (elim c.else-place-entries.branch [
      | else-place-entries-via-then-place-entries+else-eq w ↦
          above-of c.args.group c.args.entries.now c.place_of-place.result c.requires at.bound at.before at.behind
          w.index-entries-place.result (sym w.eq.ensures ∙ w.if-eq.false)
      | else-place-entries-via-else-place-entries w ↦ λ e inside.
          absurd (omega (arith, inside, w.if-place-entries.false))
    ])
