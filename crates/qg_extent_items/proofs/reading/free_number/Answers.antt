use Rattle.std.proofs.Common.{sym, ◌∙◌, ap, arith, subst, ℕ, ◌+◌}
use Rattle.qg_num.specs.declared.key.Key.{Key}
use Rattle.qg_image.specs.IsShaped.{same_key}
use Rattle.qg_walk.proofs.KeyRanges.{same_key-nested}
use Rattle.qg_extent_items.proofs.FreeNumbers.{IsFreeSoFar, so-far-all, so-far-next, so-far-none, so-far-other}
use Rattle.qg_extent_items.proofs.reading.free_number.Goals.{then-eq, else-eq}
use Rattle.qg_extent_items.proofs.reading.free_number.Goals as goal

pub loop-item-init : goal.loop-item-init
loop-item-init c = record { bound = omega arith; free = so-far-none c.args.at c.args.items.now }

pub loop-item-preserved : goal.loop-item-preserved
loop-item-preserved c =
    let items = c.args.items.now in
    let i = c.loop-item.item-index in
    let item = c.item-item.result in
    let same = sym (same_key-nested item.key c.data_ref_key.result) ∙ sym c.eq.ensures in
    elim c.if-eq.branch [
      | then-eq w ↦ record {
        bound = omega (arith, c.loop-item.invariant.bound, w.number-is);
        free = subst (λ (n : ℕ). IsFreeSoFar c.args.at items (i + 1) n) (sym w.number-is)
            (so-far-next c.args.at items i c.loop-item.number item c.loop-item-test.true c.item-item.is
            (ap (λ (k : Key). same_key item.key k) (sym c.data_ref_key.ensures) ∙ same ∙ w.if-eq.true)
            c.loop-item.invariant.free);
      }
      | else-eq w ↦ record {
        bound = omega (arith, c.loop-item.invariant.bound, w.number-is);
        free = subst (λ (n : ℕ). IsFreeSoFar c.args.at items (i + 1) n) (sym w.number-is)
            (so-far-other c.args.at items i c.loop-item.number item c.loop-item-test.true c.item-item.is
            (ap (λ (k : Key). same_key item.key k) (sym c.data_ref_key.ensures) ∙ same ∙ w.if-eq.false)
            c.loop-item.invariant.free);
      }
    ]

pub returns : goal.returns
returns c ascend =
    so-far-all c.args.at c.args.items.now c.loop-item.item-index c.loop-item.number (omega arith)
    c.loop-item.invariant.free ascend
