use Rattle.std.proofs.Common.{ℕ, ap}
use Rattle.qg_file_edits.specs.declared.inode.InodeEdit.TheVariants.{Replace}
use Rattle.qg_file_edits.proofs.changes.inode_cut.Goals as goal

pub returns : goal.returns
returns c sum small part is =
    ap (λ (n : ℕ). Replace (record {
      generation = c.args.inode.generation;
      transid = c.args.generation;
      size = c.args.size;
      nbytes = n;
    })) (c.exchanged_bytes.ensures sum small part is)
