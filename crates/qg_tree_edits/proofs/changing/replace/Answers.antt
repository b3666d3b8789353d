use Rattle.std.proofs.lemmas.Result.{on_ok_weaker}
use Rattle.qg_tree_edits.proofs.Replaced.{replaced-whole}
use Rattle.qg_tree_edits.proofs.changing.replace.Goals as goal

pub returns-clause-replaced : goal.returns-clause-replaced
returns-clause-replaced g c items rooted can =
    let edits = c.edit_tree.ensures.edited items rooted can in
    record {
      replaced = on_ok_weaker c.edit_tree.result
          (λ is. replaced-whole g.P.TreePart.tree c.args.tree.now c.edit_tree.new.tree c.args.land.now
          c.edit_tree.new.land (g.D.Disk.history c.args.disk.now) _ items tt is)
          edits.edited;
      told = edits.told;
    }
