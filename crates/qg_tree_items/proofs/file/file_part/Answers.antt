use Rattle.std.proofs.Common.{arith}
use Rattle.std.proofs.lemmas.Bool.Decides.{nat_tests}
use Rattle.qg_image.specs.ItemMeaning.{file_part}
use Rattle.qg_tree_items.proofs.Parts.{orelse-none, and-false}
use Rattle.qg_tree_items.proofs.file.file_part.Goals as goal

pub returns-in-1 : goal.returns-in-1
unfolding file_part
returns-in-1 c = rw (c.in-1.is, orelse-none) (rw c.in-1.is at c.inode_part.ensures)

pub returns-in-108 : goal.returns-in-108
unfolding file_part
returns-in-108 c = rw (c.in-108.is, and-false) c.piece_part.ensures

pub returns-in_default : goal.returns-in_default
unfolding file_part
returns-in_default c = grind (arith, nat_tests)
