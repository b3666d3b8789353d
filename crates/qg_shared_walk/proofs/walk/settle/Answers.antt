use Rattle.std.proofs.Common.{sym, ◌∙◌}
use Rattle.qg_shared_walk.proofs.Refusals.{fitting_meanwhile, fitting_refuses, nothing_there}
use Rattle.qg_shared_walk.proofs.Remembered.{walks_entered}
use Rattle.qg_shared_walk.proofs.walk.settle.Goals as goal

pub returns-in-Some-clause-failure : goal.returns-in-Some-clause-failure
returns-in-Some-clause-failure g c events kept depth remembers deep =
    fitting_refuses c.args.superblock.now events g.N.NodeList.keeps kept c.args.memo.now.digests.entries
    c.args.memo.now.nodes c.args.expected.now c.args.address c.in-Some.digest
    depth c.fitting.result remembers (sym c.at.ensures ∙ c.in-Some.is) c.fitting.ensures.broken deep

pub returns-in-Some-clause-walks : goal.returns-in-Some-clause-walks
returns-in-Some-clause-walks g c events kept well =
    fitting_meanwhile c.args.superblock.now events g.N.NodeList.keeps kept c.args.memo.now.digests.entries
    c.args.memo.now.nodes c.args.expected.now c.args.address c.in-Some.digest
    c.args.node.now c.args.below c.fitting.result well (sym c.at.ensures ∙ c.in-Some.is) c.fitting.ensures.fits

pub returns-clause-walks : goal.returns-clause-walks
returns-clause-walks g c events kept well =
    let none = sym c.at.ensures ∙ nothing_there c.at.result c.in_default.not-Some in
    walks_entered c.args.superblock.now events g.N.NodeList.keeps kept c.args.memo.now.digests.entries
    c.enter.new.self.digests.entries c.args.memo.now.nodes c.enter.new.self.nodes
    c.args.expected.now c.args.address c.args.node.now c.args.below well c.of-digest.result c.of-digest.ensures.digest
    c.of-digest.ensures.below c.requires.stands.placed
    none c.in_ok-enter.ensures.entered (c.in_ok-enter.ensures.kept well.now well.remembers.are)
