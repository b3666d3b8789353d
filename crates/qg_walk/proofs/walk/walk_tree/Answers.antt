use Rattle.std.proofs.lemmas.Result.{err_from_is_err_and}
use Rattle.qg_image.specs.Walk.{deepest, tree_failure}
use Rattle.qg_walk.specs.Added.{found_by}
use Rattle.qg_walk.proofs.Failures.{levels_few}
use Rattle.qg_walk.proofs.WholeTree.{IsWalk-added, held-added, slots-added}
use Rattle.qg_walk.proofs.walk.walk_tree.Goals as goal

pub returns-in_err-walk-clause-unsound : goal.returns-in_err-walk-clause-unsound
unfolding tree_failure
returns-in_err-walk-clause-unsound g c events told =
    let is = err_from_is_err_and c.from_residual-in_err-walk.result c.from_residual-in_err-walk.ensures.1 in
    rw (is.1, is.2) (c.in_err-walk.ensures.failure events deepest told (levels_few c.args.expected.now.level))

pub returns-clause-found : goal.returns-clause-found
unfolding tree_failure
returns-clause-found g c events told =
    let walked = c.in_ok-walk.ensures in
    IsWalk-added g.P.TreePart.tree g.P.TreePart.meaning g.N.NodeList.keeps c.args.superblock.now
    (g.D.Disk.history c.args.disk.now) events c.args.expected.now.from c.args.expected.now.to
    c.args.expected.now c.args.root (record { parts = g.L.PartList.list c.new.result; nodes = c.args.nodes })
    (found_by g.L.PartList.list c.walk.new.walked) told c.new.ensures c.requires.none
    (walked.failure events deepest told (levels_few c.args.expected.now.level)) walked.added

pub returns-clause-slots : goal.returns-clause-slots
returns-clause-slots g c =
    slots-added g.P.TreePart.tree g.P.TreePart.meaning g.N.NodeList.keeps c.args.superblock.now
    (g.D.Disk.history c.args.disk.now) c.args.expected.now.from c.args.expected.now.to c.args.root
    (record { parts = g.L.PartList.list c.new.result; nodes = c.args.nodes })
    (found_by g.L.PartList.list c.walk.new.walked) c.requires.none c.in_ok-walk.ensures.added

pub returns-clause-held : goal.returns-clause-held
returns-clause-held g c =
    held-added g.P.TreePart.tree g.P.TreePart.meaning g.N.NodeList.keeps c.args.superblock.now
    (g.D.Disk.history c.args.disk.now) c.args.expected.now.from c.args.expected.now.to c.args.root
    (record { parts = g.L.PartList.list c.new.result; nodes = c.args.nodes })
    (found_by g.L.PartList.list c.walk.new.walked) c.new.ensures c.in_ok-walk.ensures.added
