use Rattle.std.proofs.Common.{◌≡◌, false, sym, subst, ◌∙◌, arith}
use Rattle.std.proofs.lemmas.List.{get_or_default}
use Rattle.qg_image.specs.Record.{same_reference}
use Rattle.qg_delayed.specs.declared.change.Change.{Change}
use Rattle.qg_delayed.proofs.Listing.{change_missing}
use Rattle.qg_delayed.proofs.place.index_of.Goals as goal
use Rattle.qg_delayed.proofs.place.index_of.Goals.{else-index-changes-via-then-index-changes+else-is_same}
use Rattle.qg_delayed.proofs.place.index_of.Goals.{else-index-changes-via-else-index-changes}

pub returns-else-index-changes-clause-none : goal.returns-else-index-changes-clause-none
returns-else-index-changes-clause-none c =
    let changes = c.args.changes.now in
    let reference = c.args.reference.now in
    let i = c.place_of-index.result in
    change_missing reference changes i c.requires c.place_of-index.ensures.point
    (λ d inside. elim c.else-index-changes.branch [
      | else-index-changes-via-then-index-changes+else-is_same w ↦
          let change = w.index-changes-index.result in
          subst (λ (other : Change). same_reference other.reference reference ≡ false)
          (get_or_default changes i change d inside) (sym w.is_same.ensures ∙ w.if-is_same.false)
      | else-index-changes-via-else-index-changes w ↦ absurd (omega (arith, inside, w.if-index-changes.false))
    ])
