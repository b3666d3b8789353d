use Rattle.std.proofs.Common.{refl}
use Rattle.std.proofs.lemmas.Result.{on_ok_weaker}
use Rattle.qg_tree_edits.proofs.Replaced.{replaced-first}
use Rattle.qg_tree_edits.proofs.changing.drop_first_leaf.Goals as goal

pub returns-clause-dropped : goal.returns-clause-dropped
returns-clause-dropped g c items rooted =
    let edits = c.edit_tree.ensures.edited items rooted tt in
    record {
      replaced = on_ok_weaker c.edit_tree.result
          (λ is. replaced-first g.P.TreePart.tree c.args.tree.now c.edit_tree.new.tree c.args.land.now
          c.edit_tree.new.land (g.D.Disk.history c.args.disk.now) _ items refl refl is)
          edits.edited;
      told = edits.told;
    }

pub returns-clause-leaves : goal.returns-clause-leaves
returns-clause-leaves g c items rooted = (c.edit_tree.ensures.edited items rooted tt).leaves refl refl
