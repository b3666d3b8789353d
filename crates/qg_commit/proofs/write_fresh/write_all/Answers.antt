use Rattle.std.proofs.Common.{length, refl, ◌∙◌}
use Rattle.qg_commit.specs.Trees.{quota_nodes_laid}
use Rattle.qg_commit.specs.Writing.{fresh_nodes}
use Rattle.qg_commit.proofs.Calls.{AreWritten, are-written, each-writable, ends-last, ends-past, ends-same}
use Rattle.qg_commit.proofs.Calls.{stops-among, stops-last, stops-past, stops-same, written-in_turn}
use Rattle.qg_commit.proofs.Fronts.{comes-err}
use Rattle.qg_commit.proofs.write_fresh.write_all.Given.{Over}
use Rattle.qg_commit.proofs.write_fresh.write_all.Goals as goal
use Rattle.qg_commit.proofs.write_fresh.write_all.Goals.{In_ok-write_fresh, In_ok-write_nodes, In_ok-write_nodes-2}
use Rattle.qg_commit.proofs.write_fresh.write_all.Goals.{In_ok-write_nodes-3}

-- ---- the nodes may be written

pub write_fresh-requires-clause-nodes : goal.write_fresh-requires-clause-nodes
write_fresh-requires-clause-nodes g c =
    (each-writable c.args.blocks.now.draft c.args.trees.now (length c.args.buffer.now) c.requires.nodes).first

pub write_nodes-requires-clause-nodes : goal.write_nodes-requires-clause-nodes
write_nodes-requires-clause-nodes g c =
    rw (c.as_slice.ensures, c.write_fresh.auto.buffer)
    (each-writable c.args.blocks.now.draft c.args.trees.now (length c.args.buffer.now) c.requires.nodes).second

pub write_nodes-requires-2-clause-nodes : goal.write_nodes-requires-2-clause-nodes
write_nodes-requires-2-clause-nodes g c =
    rw (c.as_slice-2.ensures, c.write_nodes.auto.buffer, c.write_fresh.auto.buffer)
    (each-writable c.args.blocks.now.draft c.args.trees.now (length c.args.buffer.now) c.requires.nodes).third

pub write_nodes-requires-3-clause-nodes : goal.write_nodes-requires-3-clause-nodes
write_nodes-requires-3-clause-nodes g c =
    rw (c.quota_nodes.ensures, c.write_nodes-2.auto.buffer, c.write_nodes.auto.buffer, c.write_fresh.auto.buffer)
    (each-writable c.args.blocks.now.draft c.args.trees.now (length c.args.buffer.now) c.requires.nodes).fourth

-- ---- each list is written

wrote-fresh : (g : Over) (c : In_ok-write_fresh g) → AreWritten c.args.trees.now.superblock
    (fresh_nodes c.args.blocks.now.draft) (g.D.Disk.history c.args.disk.now) (g.D.Disk.history c.write_fresh.new.disk)
wrote-fresh g c = are-written c.requires.size refl c.in_ok-write_fresh.ensures.calls

wrote-roots : (g : Over) (c : In_ok-write_nodes g) → AreWritten c.args.trees.now.superblock
    c.args.trees.now.roots.nodes (g.D.Disk.history c.write_fresh.new.disk) (g.D.Disk.history c.write_nodes.new.disk)
wrote-roots g c =
    are-written (c.write_fresh.auto.buffer ∙ c.requires.size) c.as_slice.ensures
    c.in_ok-write_nodes.ensures.calls

wrote-extents : (g : Over) (c : In_ok-write_nodes-2 g) → AreWritten c.args.trees.now.superblock
    c.args.trees.now.extents.nodes (g.D.Disk.history c.write_nodes.new.disk) (g.D.Disk.history c.write_nodes-2.new.disk)
wrote-extents g c =
    are-written (c.write_nodes.auto.buffer ∙ c.write_fresh.auto.buffer ∙ c.requires.size) c.as_slice-2.ensures
    c.in_ok-write_nodes-2.ensures.calls

wrote-quotas : (g : Over) (c : In_ok-write_nodes-3 g) → AreWritten c.args.trees.now.superblock
    (quota_nodes_laid c.args.trees.now.quotas) (g.D.Disk.history c.write_nodes-2.new.disk)
    (g.D.Disk.history c.write_nodes-3.new.disk)
wrote-quotas g c =
    are-written (c.write_nodes-2.auto.buffer ∙ c.write_nodes.auto.buffer ∙ c.write_fresh.auto.buffer ∙ c.requires.size)
    c.quota_nodes.ensures
    c.in_ok-write_nodes-3.ensures.calls

-- ---- how far the calls came

pub returns-in_err-write_fresh-clause-front : goal.returns-in_err-write_fresh-clause-front
returns-in_err-write_fresh-clause-front g c =
    comes-err _ _ _ _
    (stops-same (written-in_turn c.args.blocks.now.draft c.args.trees.now)
    (stops-among _ c.requires.size refl c.write_fresh.ensures.front)).comes

pub returns-in_err-write_nodes-clause-front : goal.returns-in_err-write_nodes-clause-front
returns-in_err-write_nodes-clause-front g c =
    let at = goal.at.returns-in_err-write_nodes-clause-front g c in
    comes-err _ _ _ _
    (stops-same (written-in_turn c.args.blocks.now.draft c.args.trees.now)
    (stops-past (wrote-fresh g at.In_ok-write_fresh)
    (stops-among _ (c.write_fresh.auto.buffer ∙ c.requires.size) c.as_slice.ensures
    c.write_nodes.ensures.front))).comes

pub returns-in_err-write_nodes-2-clause-front : goal.returns-in_err-write_nodes-2-clause-front
returns-in_err-write_nodes-2-clause-front g c =
    let at = goal.at.returns-in_err-write_nodes-2-clause-front g c in
    comes-err _ _ _ _
    (stops-same (written-in_turn c.args.blocks.now.draft c.args.trees.now)
    (stops-past (wrote-fresh g at.In_ok-write_fresh)
    (stops-past (wrote-roots g at.In_ok-write_nodes)
    (stops-among _ (c.write_nodes.auto.buffer ∙ c.write_fresh.auto.buffer ∙ c.requires.size) c.as_slice-2.ensures
    c.write_nodes-2.ensures.front)))).comes

pub returns-in_err-write_nodes-3-clause-front : goal.returns-in_err-write_nodes-3-clause-front
returns-in_err-write_nodes-3-clause-front g c =
    let at = goal.at.returns-in_err-write_nodes-3-clause-front g c in
    comes-err _ _ _ _
    (stops-same (written-in_turn c.args.blocks.now.draft c.args.trees.now)
    (stops-past (wrote-fresh g at.In_ok-write_fresh)
    (stops-past (wrote-roots g at.In_ok-write_nodes)
    (stops-past (wrote-extents g at.In_ok-write_nodes-2)
    (stops-among _ (c.write_nodes-2.auto.buffer ∙ c.write_nodes.auto.buffer ∙ c.write_fresh.auto.buffer
    ∙ c.requires.size) c.quota_nodes.ensures
    c.write_nodes-3.ensures.front))))).comes

pub returns-in_err-write_superblocks-clause-front : goal.returns-in_err-write_superblocks-clause-front
returns-in_err-write_superblocks-clause-front g c =
    let at = goal.at.returns-in_err-write_superblocks-clause-front g c in
    comes-err _ _ _ _
    (stops-same (written-in_turn c.args.blocks.now.draft c.args.trees.now)
    (stops-past (wrote-fresh g at.In_ok-write_fresh)
    (stops-past (wrote-roots g at.In_ok-write_nodes)
    (stops-past (wrote-extents g at.In_ok-write_nodes-2)
    (stops-past (wrote-quotas g at.In_ok-write_nodes-3)
    (stops-last c.in_err-write_superblocks.ensures.front)))))).comes

pub returns-clause-calls : goal.returns-clause-calls
returns-clause-calls g c =
    let at = goal.at.returns-clause-calls g c in
    (ends-same (written-in_turn c.args.blocks.now.draft c.args.trees.now)
    (ends-past (wrote-fresh g at.In_ok-write_fresh) (ends-past (wrote-roots g at.In_ok-write_nodes)
    (ends-past (wrote-extents g at.In_ok-write_nodes-2) (ends-past (wrote-quotas g at.In_ok-write_nodes-3)
    (ends-last c.in_ok-write_superblocks.ensures.calls)))))).is
