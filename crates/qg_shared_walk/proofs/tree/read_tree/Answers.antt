use Rattle.std.proofs.Common.{sym, ◌∙◌}
use Rattle.qg_device.specs.History.{content}
use Rattle.qg_image.specs.FilesOf.{file_parts}
use Rattle.qg_image.specs.declared.tree.TreeKind.TheVariants.{Files}
use Rattle.qg_image.specs.ImageState.{items_of_root}
use Rattle.qg_image.specs.Walk.{deepest, root_told}
use Rattle.qg_walk.proofs.Failures.{levels_few}
use Rattle.qg_shared_walk.specs.Memo.{Walks}
use Rattle.qg_shared_walk.proofs.AllTrees.{breaks, has_tree, passes, told_ascend, told_row, tree_denies, tree_tells}
use Rattle.qg_shared_walk.proofs.tree.read_tree.Goals as goal

pub returns-then-are_files-clause-failure : goal.returns-then-are_files-clause-failure
returns-then-are_files-clause-failure g c events kept told remembers =
    let super = c.args.superblock.now in
    let keeps = g.N.NodeList.keeps in
    let memo = c.walk.new.memo in
    let root = c.args.root.now in
    let digest = c.in-Ok.digest in
    let walks : Walks super events keeps kept memo.digests.entries memo.nodes (root_told root) root.bytenr digest =
    rw c.root_told-expected.ensures at (c.in-Ok.ensures.walks events kept told remembers) in
    let row = told_row super events keeps kept memo.digests.entries memo.nodes root digest walks in
    let ascend = told_ascend super events keeps kept memo.digests.entries memo.nodes root digest walks in
    passes super events keeps kept memo.digests.entries memo.nodes root digest walks
    (sym (c.are_files.ensures (file_parts (items_of_root Files super (content events) root)) row ascend)
    ∙ c.if-are_files.true)

pub returns-then-are_files-clause-read : goal.returns-then-are_files-clause-read
returns-then-are_files-clause-read g c events kept told remembers =
    let super = c.args.superblock.now in
    let keeps = g.N.NodeList.keeps in
    let memo = c.walk.new.memo in
    let root = c.args.root.now in
    let digest = c.in-Ok.digest in
    let walks : Walks super events keeps kept memo.digests.entries memo.nodes (root_told root) root.bytenr digest =
    rw c.root_told-expected.ensures at (c.in-Ok.ensures.walks events kept told remembers) in
    has_tree super events keeps kept memo.digests.entries memo.nodes root digest walks

pub returns-else-are_files-clause-failure : goal.returns-else-are_files-clause-failure
returns-else-are_files-clause-failure g c events kept told remembers =
    let super = c.args.superblock.now in
    let keeps = g.N.NodeList.keeps in
    let memo = c.walk.new.memo in
    let root = c.args.root.now in
    let digest = c.in-Ok.digest in
    let walks : Walks super events keeps kept memo.digests.entries memo.nodes (root_told root) root.bytenr digest =
    rw c.root_told-expected.ensures at (c.in-Ok.ensures.walks events kept told remembers) in
    let row = told_row super events keeps kept memo.digests.entries memo.nodes root digest walks in
    let ascend = told_ascend super events keeps kept memo.digests.entries memo.nodes root digest walks in
    breaks super events keeps kept memo.digests.entries memo.nodes root digest walks
    (sym (c.are_files.ensures (file_parts (items_of_root Files super (content events) root)) row ascend)
    ∙ c.if-are_files.false)

pub returns-in-Err-clause-failure : goal.returns-in-Err-clause-failure
returns-in-Err-clause-failure g c events kept told remembers =
    let super = c.args.superblock.now in
    let root = c.args.root.now in
    let expected = c.root_told-expected.result in
    let denies = tree_denies super events expected root.bytenr c.in-Err.fault
    (c.in-Err.ensures.failure events kept deepest told remembers (levels_few expected.level)) in
    tree_tells super (content events) root c.first_fault.result
    (rw c.root_told-expected.ensures at (c.first_fault.ensures.first events (c.in-Err.ensures.history ∙ told) denies))
