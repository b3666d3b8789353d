use Rattle.std.proofs.Common.{List, arith, refl, sym, ap, subst, ◌∙◌}
use Rattle.qg_num.specs.declared.piece.Piece.{Piece}
use Rattle.qg_image.specs.FilesOf.{pieces_bytes}
use Rattle.qg_machine.specs.FileChange.{before}
use Rattle.qg_files.specs.Apart.{AreApart}
use Rattle.qg_file_edits.proofs.changes.cut_change.Goals as goal

pub truncate-requires : goal.truncate-requires
truncate-requires c =
    subst (λ (xs : List Piece). AreApart xs) (sym (c.in_ok-put.ensures ∙ c.as_slice.ensures)) c.requires

pub returns : goal.returns
returns c =
    let put = c.in_ok-truncate.ensures.cut
    ∙ ap (λ (xs : List Piece). before c.args.size xs) (c.in_ok-put.ensures ∙ c.as_slice.ensures) in
    record {
      gone = refl;
      put = put;
      named = c.in_ok-named.ensures ∙ c.as_slice-2.ensures ∙ put;
      new = refl;
      apart = c.in_ok-truncate.ensures.apart;
      inode = λ sum small part is.
          let gone = ap pieces_bytes c.as_slice-gone.ensures in
          let came = ap pieces_bytes (c.as_slice-3.ensures ∙ put) in
          c.inode_cut-inode.ensures sum small (omega (arith, part, gone)) (omega (arith, is, gone, came));
    }
