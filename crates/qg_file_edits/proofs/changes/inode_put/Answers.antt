use Rattle.std.proofs.Common.{◌≡◌, ℕ, ◌+◌, ◌≤◌, sym, ap, subst, ◌∙◌}
use Rattle.std.specs.Prelude.{Option}
use Rattle.qg_items.specs.declared.file.InodeItem.{InodeItem}
use Rattle.qg_image.specs.FilesOf.{pieces_bytes}
use Rattle.qg_file_edits.specs.declared.inode.InodeEdit.TheVariants.{Insert, Replace}
use Rattle.qg_file_edits.specs.Changes.{inode_put, nbytes_of}
use Rattle.qg_file_edits.proofs.changes.inode_put.Goals as goal

pub returns-in-None : goal.returns-in-None
returns-in-None c sum small part is =
    let gone = pieces_bytes c.args.gone.now in
    let put = pieces_bytes c.args.put.now in
    let part_here = subst (λ (o : Option InodeItem). gone ≤ nbytes_of o) c.in-None.is part in
    let is_here = subst (λ (o : Option InodeItem). sum + gone ≡ nbytes_of o + put) c.in-None.is is in
    let same = c.exchanged_bytes.ensures sum small part_here is_here in
    let made = λ (n : ℕ). Insert (record {
      generation = c.args.generation;
      transid = c.args.generation;
      size = c.args.to;
      nbytes = n;
    }) in
    subst (λ (o : Option InodeItem). made c.exchanged_bytes.result ≡ inode_put c.args.generation c.args.to o sum)
    (sym c.in-None.is) (ap made same)

pub returns-in-Some : goal.returns-in-Some
returns-in-Some c sum small part is =
    let gone = pieces_bytes c.args.gone.now in
    let put = pieces_bytes c.args.put.now in
    let part_here = subst (λ (o : Option InodeItem). gone ≤ nbytes_of o) c.in-Some.is part in
    let is_here = subst (λ (o : Option InodeItem). sum + gone ≡ nbytes_of o + put) c.in-Some.is is in
    let same = c.exchanged_bytes-in-Some.ensures sum small part_here is_here in
    let made = λ (size n : ℕ). Replace (record {
      generation = c.in-Some.inode.generation;
      transid = c.args.generation;
      size = size;
      nbytes = n;
    }) in
    subst (λ (o : Option InodeItem). made c.max.result c.exchanged_bytes-in-Some.result
    ≡ inode_put c.args.generation c.args.to o sum) (sym c.in-Some.is)
    (ap (λ (n : ℕ). made c.max.result n) same ∙ ap (λ (size : ℕ). made size sum) c.max.ensures)
