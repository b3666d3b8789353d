use Rattle.std.proofs.Common.{arith}
use Rattle.std.proofs.lemmas.Bool.Decides.{nat_tests}
use Rattle.qg_image.specs.ItemMeaning.{quota_part}
use Rattle.qg_tree_items.proofs.Parts.{orelse-none, and-false}
use Rattle.qg_tree_items.proofs.quota.quota_part.Goals as goal

pub returns-in-240 : goal.returns-in-240
unfolding quota_part
returns-in-240 c = rw c.in-240.is (simp (and-false, orelse-none) (rw c.in-240.is at c.status_part.ensures))

pub returns-in-242 : goal.returns-in-242
unfolding quota_part
returns-in-242 c = rw c.in-242.is (simp (and-false, orelse-none) (rw c.in-242.is at c.info_part.ensures))

pub returns-in-244 : goal.returns-in-244
unfolding quota_part
returns-in-244 c = rw c.in-244.is (simp (and-false, orelse-none) (rw c.in-244.is at c.limits_part.ensures))

pub returns-in-246 : goal.returns-in-246
unfolding quota_part
returns-in-246 c = rw c.in-246.is (simp and-false c.relation_part.ensures)

pub returns-in_default : goal.returns-in_default
unfolding quota_part
returns-in_default c = grind (arith, nat_tests)
