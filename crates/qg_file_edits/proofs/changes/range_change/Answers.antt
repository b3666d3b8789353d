use Rattle.std.proofs.Common.{arith, refl, ap, ◌∙◌}
use Rattle.qg_image.specs.FilesOf.{pieces_bytes}
use Rattle.qg_file_edits.proofs.changes.range_change.Goals as goal

pub returns : goal.returns
returns c = record {
  gone = refl;
  put = c.in_ok-put.ensures.put;
  named = refl;
  new = refl;
  apart = c.in_ok-put.ensures.apart;
  inode = λ sum small part is.
      let gone = ap pieces_bytes c.as_slice-gone.ensures in
      let put = ap pieces_bytes (c.as_slice.ensures ∙ c.in_ok-put.ensures.put) in
      c.inode_put-inode.ensures sum small (omega (arith, part, gone)) (omega (arith, is, gone, put));
}
