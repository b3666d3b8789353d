use Rattle.std.proofs.Common.{arith, sym}
use Rattle.std.proofs.lemmas.Bool.{true≢false}
use Rattle.qg_node.proofs.Texts.{items_bytes-parts}
use Rattle.qg_node.proofs.node.items_fit.Goals as goal

pub returns-then-items-room : goal.returns-then-items-room
returns-then-items-room c = (
  λ no. absurd (true≢false (sym no)),
  λ fits. absurd (omega (arith, fits, c.if-items-room.true, items_bytes-parts c.args.items.now)),
)
