use Rattle.std.proofs.Common.{◌∙◌, ap, sym, List, length, ◌*◌}
use Rattle.qg_node.specs.declared.pointer.Pointer.{Pointer}
use Rattle.qg_tree_layout.proofs.Growing.{sum_by-same}
use Rattle.qg_tree_layout.proofs.part.PointerPart.node.Goals as goal

pub returns-clause-used : goal.returns-clause-used
returns-clause-used c = ap (λ (pointers : List Pointer). 33 * length pointers) c.in_ok-from_slice.ensures
    ∙ sym (sum_by-same 33 c.args.parts.now)
