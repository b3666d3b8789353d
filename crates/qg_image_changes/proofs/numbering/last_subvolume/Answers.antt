use Rattle.std.proofs.Common.{◌≡◌, ◌<◌, ◌^◌, ℕ, arith, refl, sym, true, ap, subst, ◌∙◌}
use Rattle.std.specs.Prelude.{max}
use Rattle.qg_image.specs.ItemMeaning.{is_subvolume_number}
use Rattle.qg_image_changes.proofs.Numbered.{greatest-more, number-below}
use Rattle.qg_image_changes.proofs.numbering.last_subvolume.Goals as goal
use Rattle.qg_open_image.specs.declared.open_image.KeptSubvolume.{KeptSubvolume}

pub loop-sub-init : goal.loop-sub-init
loop-sub-init c = (refl, omega arith, omega arith)

pub loop-sub-preserved : goal.loop-sub-preserved
loop-sub-preserved c =
    let last : c.max-last.result ≡ max c.loop-sub.last c.loop-sub-item.result.0 =
    c.max-last.ensures ∙ ap (λ (n : ℕ). max c.loop-sub.last n) c.value.ensures in
    let least = c.loop-sub.invariant.1 in
    let most = c.loop-sub.invariant.2 in
    let low : c.loop-sub-item.result.0 < 2 ^ 48 =
    number-below c.loop-sub-item.result.0
    (subst (λ (e : ℕ × KeptSubvolume). is_subvolume_number e.0 ≡ true) (sym c.loop-sub-item.is)
    (c.requires.numbers c.loop-sub.sub-index c.loop-sub-item.result c.loop-sub-test.true)) in (
      last ∙ greatest-more 255 c.loop-sub.last c.loop-sub.sub-index c.args.snapshots.now c.loop-sub-item.result
          c.loop-sub-test.true c.loop-sub-item.is c.loop-sub.invariant.0,
      omega (arith, last, least),
      omega (arith, last, most, low),
    )
