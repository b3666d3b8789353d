use Rattle.qg_extent_items.proofs.BookEdited.{adds-by-items, drops-by-items, marks-by-items}
use Rattle.qg_extent_items.proofs.laws.edits_of_items.Goals as goal

pub returns-clause-adds : goal.returns-clause-adds
returns-clause-adds c = adds-by-items

pub returns-clause-drops : goal.returns-clause-drops
returns-clause-drops c = drops-by-items

pub returns-clause-marks : goal.returns-clause-marks
returns-clause-marks c = marks-by-items
