use Rattle.std.proofs.Common.{ℕ, refl}
use Rattle.qg_items.specs.declared.root.RootItem.{RootItem}
use Rattle.qg_quota.proofs.Lists.{map-next}
use Rattle.qg_quota.proofs.reading.numbers_of.Goals as goal

pub loop-part-preserved : goal.loop-part-preserved
loop-part-preserved c =
    map-next (λ (entry : ℕ × RootItem). entry.0) c.args.subvolumes.now c.loop-part.numbers c.push.new.self
    c.loop-part.part-index c.part-item.result c.part-item.result.0
    c.loop-part-test.true c.part-item.is refl c.loop-part.invariant c.in_ok-push.ensures.ok
