use Rattle.std.proofs.Common.{subst, sym}
use Rattle.qg_tree_items.specs.Writable.{IsWritableFile}
use Rattle.qg_root_items.proofs.FileTree.{pieces_small}
use Rattle.qg_root_items.proofs.files.items_of_files.Goals as goal

pub put_file-requires : goal.put_file-requires
put_file-requires c =
    let file = c.file-item.result in
    let there = c.requires.each c.loop-file.file-index file c.loop-file-test.true in
    let is : IsWritableFile file = subst IsWritableFile (sym c.file-item.is) there in
    pieces_small file is
