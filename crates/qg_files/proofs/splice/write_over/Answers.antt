use Rattle.std.proofs.Common.{set, ap, ◌∙◌, arith}
use Rattle.qg_files.proofs.Splices.{written_more}
use Rattle.qg_files.proofs.splice.write_over.Goals as goal

pub loop-index-preserved : goal.loop-index-preserved
loop-index-preserved c =
    let index = c.loop-index.index in
    let item = c.index-items-index.result in
    c.set.ensures ∙ ap (λ zs. set zs index item) c.loop-index.invariant
    ∙ written_more c.args.pieces.now c.args.items.now c.args.first index item (omega arith)
    (omega (arith, c.requires.bound)) (omega (arith, c.requires.many)) c.index-items-index.is
