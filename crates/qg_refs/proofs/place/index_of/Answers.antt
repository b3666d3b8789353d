use Rattle.std.proofs.Common.{◌≡◌, false, get_or, ap, sym, subst, ◌∙◌, arith}
use Rattle.std.proofs.lemmas.List.{get_or_default}
use Rattle.qg_image.specs.Record.{same_reference}
use Rattle.qg_refs.specs.declared.counted.Counted.{Counted}
use Rattle.qg_refs.proofs.RankOrder.{same_reference_is}
use Rattle.qg_refs.proofs.Counting.{count-found, count-missing}
use Rattle.qg_refs.proofs.place.index_of.Goals as goal
use Rattle.qg_refs.proofs.place.index_of.Goals.{else-index-entries-via-then-index-entries+else-is_same}
use Rattle.qg_refs.proofs.place.index_of.Goals.{else-index-entries-via-else-index-entries}

pub returns-then-is_same-clause-counts : goal.returns-then-is_same-clause-counts
returns-then-is_same-clause-counts c d =
    let entries = c.args.entries.now in
    let reference = c.args.reference.now in
    let i = c.place_of-index.result in
    let entry = c.index-entries-index.result in
    let at = ap (λ (e : Counted). e.reference) (get_or_default entries i d entry c.if-index-entries.true)
    ∙ same_reference_is (get_or entries i entry).reference reference (sym c.is_same.ensures ∙ c.if-is_same.true) in
    sym (count-found reference entries i d c.requires c.if-index-entries.true at)

pub returns-else-index-entries-clause-none : goal.returns-else-index-entries-clause-none
returns-else-index-entries-clause-none c =
    let entries = c.args.entries.now in
    let reference = c.args.reference.now in
    let i = c.place_of-index.result in
    count-missing reference entries i c.requires c.place_of-index.ensures.point
    (λ d inside. elim c.else-index-entries.branch [
      | else-index-entries-via-then-index-entries+else-is_same w ↦
          let entry = w.index-entries-index.result in
          subst (λ (other : Counted). same_reference other.reference reference ≡ false)
          (get_or_default entries i entry d inside) (sym w.is_same.ensures ∙ w.if-is_same.false)
      | else-index-entries-via-else-index-entries w ↦ absurd (omega (arith, inside, w.if-index-entries.false))
    ])
