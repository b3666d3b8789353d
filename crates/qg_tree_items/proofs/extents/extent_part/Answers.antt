use Rattle.std.proofs.Common.{arith}
use Rattle.std.proofs.lemmas.Bool.Decides.{nat_tests}
use Rattle.qg_image.specs.ItemMeaning.{extent_part}
use Rattle.qg_tree_items.proofs.Parts.{orelse-none}
use Rattle.qg_tree_items.proofs.extents.extent_part.Goals as goal

pub returns-in-168 : goal.returns-in-168
unfolding extent_part
returns-in-168 c = rw (c.in-168.is, orelse-none) c.data_record.ensures

pub returns-in-169 : goal.returns-in-169
unfolding extent_part
returns-in-169 c = rw (c.in-169.is, orelse-none) c.node_record.ensures

pub returns-in-176 : goal.returns-in-176
unfolding extent_part
returns-in-176 c = rw (c.in-176.is, orelse-none, ← c.new.ensures) c.block.ensures

pub returns-in-182 : goal.returns-in-182
unfolding extent_part
returns-in-182 c = rw (c.in-182.is, orelse-none, ← c.new-in-182.ensures) c.block-in-182.ensures

pub returns-in-178 : goal.returns-in-178
unfolding extent_part
returns-in-178 c = rw (c.in-178.is, orelse-none) c.keyed_data.ensures

pub returns-in-184 : goal.returns-in-184
unfolding extent_part
returns-in-184 c = rw c.in-184.is c.shared_data.ensures

pub returns-in_default : goal.returns-in_default
unfolding extent_part
returns-in_default c = grind (arith, nat_tests)
