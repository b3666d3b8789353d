use Rattle.std.proofs.Common.{◌≡◌, ◌==◌, sym, ◌∙◌, arith}
use Rattle.std.proofs.lemmas.Grind.{common_steps}
use Rattle.qg_tree_items.proofs.Rows.{is_whole, whole_is}
use Rattle.qg_tree_items.proofs.last.LastFile.is_whole.Goals as goal

pub returns-then-self : goal.returns-then-self
returns-then-self c parts last =
    let file = c.args.self.now in
    let whole : (file.nbytes == file.bytes) ≡ is_whole file = grind (arith, common_steps) in
    whole ∙ sym (whole_is file parts last)

pub returns-else-self : goal.returns-else-self
returns-else-self c parts last =
    let file = c.args.self.now in
    let whole : c.if-self-le-LARGEST_SIZE.value ≡ is_whole file = grind (arith, common_steps) in
    whole ∙ sym (whole_is file parts last)
