use Rattle.std.proofs.Common.{List, ℕ, subst, ◌∙◌}
use Rattle.qg_num.specs.Fields.{IsBytes}
use Rattle.qg_extent_read.proofs.Said.{said-any}
use Rattle.qg_extent_read.proofs.saying.said.Goals as goal

pub returns : goal.returns
returns c =
    let bytes = subst (λ (xs : List ℕ). IsBytes xs) c.as_slice.ensures c.are_bytes.ensures in
    c.read.ensures ∙ rw c.new.ensures (said-any c.args.item.now bytes)
