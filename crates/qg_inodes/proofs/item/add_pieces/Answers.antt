use Rattle.std.proofs.Common.{◌≡◌, ◌++◌, take, ap, ◌∙◌, arith}
use Rattle.std.specs.List.{filter_map}
use Rattle.std.proofs.lemmas.Grind.{common_steps}
use Rattle.std.proofs.lemmas.List.Elements.{filter_map-append}
use Rattle.qg_inodes.specs.Items.{piece_of}
use Rattle.qg_inodes.proofs.item.add_pieces.Goals as goal

pub loop-item-preserved : goal.loop-item-preserved
loop-item-preserved c = grind (arith, common_steps, filter_map-append)
