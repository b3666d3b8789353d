use Rattle.std.proofs.Common.{◌<◌, ◌^◌, arith}
use Rattle.qg_image.specs.FilesOf.{pieces_bytes}
use Rattle.qg_file_edits.proofs.Sums.{sum-exchanged}
use Rattle.qg_file_edits.proofs.changes.exchanged_bytes.Goals as goal

pub returns : goal.returns
returns c sum small part is =
    let fits : c.args.bytes < 2 ^ 64 = omega arith in
    sum-exchanged c.args.bytes (pieces_bytes c.args.gone.now) (pieces_bytes c.args.put.now) c.bytes_of.result
    c.bytes_of-2.result c.saturating_sub-left.result c.saturating_add.result sum small part fits is c.bytes_of.ensures
    c.bytes_of-2.ensures c.saturating_sub-left.ensures c.saturating_add.ensures
