use Rattle.std.proofs.Common.{true, ◌≡◌, ◌++◌, ◌∷◌, [], length, refl, sym, ap, ◌∙◌}
use Rattle.qg_device.specs.History.{History, Recorded}
use Rattle.qg_node.specs.declared.node.Node.{Node}
use Rattle.qg_node.specs.NodeText.{IsNodeSize}
use Rattle.qg_super.specs.Places.{is_served, slot_at}
use Rattle.qg_super.proofs.Served.{SizesFit-is_served}
use Rattle.qg_other_trees.specs.Trees.{quota_nodes_laid}
use Rattle.qg_commit.specs.Fresh.{fresh_nodes, fresh_super, own_leaf}
use Rattle.qg_commit.specs.Calls.{IsWritable, with_image}
use Rattle.qg_commit.specs.Mkfs.{StopsMaking}
use Rattle.qg_commit.proofs.Calls.{AreWritten, StopsCommit, are-written, ends-last, ends-past, laid-in_turn}
use Rattle.qg_commit.proofs.Calls.{stops-among}
use Rattle.qg_commit.proofs.Calls.{stops-last, stops-past}
use Rattle.qg_commit.proofs.CommitCalls.{OfEach}
use Rattle.qg_commit.proofs.FreshImage.{leaves-writable, made-HoldsFreshImage}
use Rattle.qg_commit.proofs.Fronts.{comes-none}
use Rattle.qg_commit.proofs.MakingCalls.{comes-to_commit, comes-to_cut, comes-to_sector, image-made, stops-err}
use Rattle.qg_commit.proofs.MakingCalls.{told-nodesize, wants-memory}
use Rattle.qg_commit.proofs.making.mkfs.Given.{Over}
use Rattle.qg_commit.proofs.making.mkfs.Goals as goal
use Rattle.qg_commit.proofs.making.mkfs.Goals.{After-as_mut_slice-buffer, In_ok-write_at, In_ok-write_nodes}
use Rattle.qg_commit.proofs.making.mkfs.Goals.{In_ok-write_nodes-2, In_ok-write_nodes-3, In_ok-write_nodes-4}

-- ---- each leaf may be written

module _ (g : Over) (c : After-as_mut_slice-buffer g) where
  served : is_served c.args.sizes ≡ true
  served = sym c.is_served.ensures ∙ c.if-not-is_served.false

  -- the buffer is as long as a node
  long : length c.as_mut_slice-buffer.result.now ≡ c.args.sizes.nodesize
  long = c.as_mut_slice-buffer.ensures.len ∙ c.in_ok-memory.ensures.len

  of_a_node : IsNodeSize (length c.as_mut_slice-buffer.result.now)
  of_a_node = rw long (SizesFit-is_served c.args.sizes served).node_size

  writable : OfEach (IsWritable (length c.as_mut_slice-buffer.result.now)) c.in_ok-trees.trees.roots.nodes
      c.in_ok-trees.trees.extents.nodes (own_leaf c.args.sizes ∷ []) (quota_nodes_laid c.in_ok-trees.trees.quotas)
  writable =
      rw long
      (leaves-writable c.args.sizes c.in_ok-trees.trees served c.in_ok-trees.ensures.fits c.in_ok-trees.ensures.trees)

pub write_nodes-requires-clause-size : goal.write_nodes-requires-clause-size
write_nodes-requires-clause-size g c =
    of_a_node g (goal.at.write_nodes-requires-clause-size g c).After-as_mut_slice-buffer

pub write_nodes-requires-2-clause-size : goal.write_nodes-requires-2-clause-size
write_nodes-requires-2-clause-size g c =
    rw c.write_nodes.auto.buffer
    (of_a_node g (goal.at.write_nodes-requires-2-clause-size g c).After-as_mut_slice-buffer)

pub write_nodes-requires-3-clause-size : goal.write_nodes-requires-3-clause-size
write_nodes-requires-3-clause-size g c =
    rw (c.write_nodes-2.auto.buffer, c.write_nodes.auto.buffer)
    (of_a_node g (goal.at.write_nodes-requires-3-clause-size g c).After-as_mut_slice-buffer)

pub write_nodes-requires-4-clause-size : goal.write_nodes-requires-4-clause-size
write_nodes-requires-4-clause-size g c =
    rw (c.write_nodes-3.auto.buffer, c.write_nodes-2.auto.buffer, c.write_nodes.auto.buffer)
    (of_a_node g (goal.at.write_nodes-requires-4-clause-size g c).After-as_mut_slice-buffer)

pub write_nodes-requires-clause-nodes : goal.write_nodes-requires-clause-nodes
write_nodes-requires-clause-nodes g c =
    rw c.as_slice.ensures
    (writable g (goal.at.write_nodes-requires-clause-nodes g c).After-as_mut_slice-buffer).first

pub write_nodes-requires-2-clause-nodes : goal.write_nodes-requires-2-clause-nodes
write_nodes-requires-2-clause-nodes g c =
    rw (c.as_slice-2.ensures, c.write_nodes.auto.buffer)
    (writable g (goal.at.write_nodes-requires-2-clause-nodes g c).After-as_mut_slice-buffer).second

pub write_nodes-requires-3-clause-nodes : goal.write_nodes-requires-3-clause-nodes
write_nodes-requires-3-clause-nodes g c =
    rw (c.lay_own_leaf.ensures, c.write_nodes-2.auto.buffer, c.write_nodes.auto.buffer)
    (writable g (goal.at.write_nodes-requires-3-clause-nodes g c).After-as_mut_slice-buffer).third

pub write_nodes-requires-4-clause-nodes : goal.write_nodes-requires-4-clause-nodes
write_nodes-requires-4-clause-nodes g c =
    rw (c.quota_nodes.ensures, c.write_nodes-3.auto.buffer, c.write_nodes-2.auto.buffer, c.write_nodes.auto.buffer)
    (writable g (goal.at.write_nodes-requires-4-clause-nodes g c).After-as_mut_slice-buffer).fourth

-- ---- each is written

wrote-roots : (g : Over) (c : In_ok-write_nodes g)
    → AreWritten c.in_ok-trees.trees.superblock c.in_ok-trees.trees.roots.nodes
    (g.D.Disk.history c.write_at.new.self) (g.D.Disk.history c.write_nodes.new.disk)
wrote-roots g c =
    are-written
    (c.as_mut_slice-buffer.ensures.len ∙ c.in_ok-memory.ensures.len ∙ told-nodesize c.in_ok-trees.ensures.superblock)
    c.as_slice.ensures c.in_ok-write_nodes.ensures.calls

wrote-extents : (g : Over) (c : In_ok-write_nodes-2 g)
    → AreWritten c.in_ok-trees.trees.superblock c.in_ok-trees.trees.extents.nodes
    (g.D.Disk.history c.write_nodes.new.disk) (g.D.Disk.history c.write_nodes-2.new.disk)
wrote-extents g c =
    are-written
    (c.write_nodes.auto.buffer ∙ c.as_mut_slice-buffer.ensures.len ∙ c.in_ok-memory.ensures.len
    ∙ told-nodesize c.in_ok-trees.ensures.superblock)
    c.as_slice-2.ensures c.in_ok-write_nodes-2.ensures.calls

wrote-own : (g : Over) (c : In_ok-write_nodes-3 g)
    → AreWritten c.in_ok-trees.trees.superblock (own_leaf c.args.sizes ∷ [])
    (g.D.Disk.history c.write_nodes-2.new.disk) (g.D.Disk.history c.write_nodes-3.new.disk)
wrote-own g c =
    are-written
    (c.write_nodes-2.auto.buffer ∙ c.write_nodes.auto.buffer ∙ c.as_mut_slice-buffer.ensures.len
    ∙ c.in_ok-memory.ensures.len ∙ told-nodesize c.in_ok-trees.ensures.superblock)
    (ap (λ (node : Node). node ∷ []) c.lay_own_leaf.ensures) c.in_ok-write_nodes-3.ensures.calls

wrote-quotas : (g : Over) (c : In_ok-write_nodes-4 g)
    → AreWritten c.in_ok-trees.trees.superblock (quota_nodes_laid c.in_ok-trees.trees.quotas)
    (g.D.Disk.history c.write_nodes-3.new.disk) (g.D.Disk.history c.write_nodes-4.new.disk)
wrote-quotas g c =
    are-written
    (c.write_nodes-3.auto.buffer ∙ c.write_nodes-2.auto.buffer ∙ c.write_nodes.auto.buffer
    ∙ c.as_mut_slice-buffer.ensures.len ∙ c.in_ok-memory.ensures.len ∙ told-nodesize c.in_ok-trees.ensures.superblock)
    c.quota_nodes.ensures c.in_ok-write_nodes-4.ensures.calls

-- ---- how far the calls came

pub returns-in_err-trees-clause-front : goal.returns-in_err-trees-clause-front
returns-in_err-trees-clause-front g c = stops-err _ _ _ _ (comes-none _ _ _ refl)

pub returns-in_err-memory-clause-front : goal.returns-in_err-memory-clause-front
returns-in_err-memory-clause-front g c = stops-err _ _ _ _ (comes-none _ _ _ refl)

pub returns-in_err-cut-clause-front : goal.returns-in_err-cut-clause-front
returns-in_err-cut-clause-front g c =
    let trees = c.in_ok-trees.ensures in
    stops-err _ _ _ _
    (comes-to_cut c.args.sizes c.in_ok-trees.trees.superblock _ _ trees.superblock trees.nodes
    refl (g.D.Disk.history c.args.disk.now) (g.D.Disk.history c.cut.new.self) (g.D.Disk.size c.args.disk.now)
    c.cut.result (g.met.D.Disk.sized c.args.disk.now) c.cut.ensures.event)

pub returns-in_err-write_at-clause-front : goal.returns-in_err-write_at-clause-front
returns-in_err-write_at-clause-front g c =
    let trees = c.in_ok-trees.ensures in
    stops-err _ _ _ _
    (comes-to_sector c.args.sizes c.in_ok-trees.trees.superblock _ c.total_bytes.result trees.superblock trees.nodes
    c.total_bytes.ensures (g.D.Disk.history c.args.disk.now) (g.D.Disk.history c.cut.new.self)
    c.in_ok-cut.ensures.event (g.D.Disk.history c.write_at.new.self) c.write_at.result c.write_at.ensures.event)

-- into the commit
stops : (g : Over) (c : In_ok-write_at g) (new : History)
    → StopsCommit c.in_ok-trees.trees.superblock (c.in_ok-trees.trees.roots.nodes
    ++ (c.in_ok-trees.trees.extents.nodes
    ++ ((own_leaf c.args.sizes ∷ []) ++ (quota_nodes_laid c.in_ok-trees.trees.quotas ++ []))))
    (g.D.Disk.history c.write_at.new.self) new
    → StopsMaking c.args.sizes (g.D.Disk.history c.args.disk.now) new
stops g c new commit =
    let trees = c.in_ok-trees.trees in
    comes-to_commit c.args.sizes trees.superblock _ c.total_bytes.result c.in_ok-trees.ensures.superblock
    (laid-in_turn trees.roots.nodes trees.extents.nodes (own_leaf c.args.sizes ∷ []) (quota_nodes_laid trees.quotas)
    ∙ c.in_ok-trees.ensures.nodes)
    c.total_bytes.ensures (g.D.Disk.history c.args.disk.now) (g.D.Disk.history c.cut.new.self)
    c.in_ok-cut.ensures.event (g.D.Disk.history c.write_at.new.self) new c.in_ok-write_at.ensures.event commit.comes

pub returns-in_err-write_nodes-clause-front : goal.returns-in_err-write_nodes-clause-front
returns-in_err-write_nodes-clause-front g c =
    let at = goal.at.returns-in_err-write_nodes-clause-front g c in
    stops-err _ _ _ _
    (stops g at.In_ok-write_at (g.D.Disk.history c.write_nodes.new.disk)
    (stops-among _
    (c.as_mut_slice-buffer.ensures.len ∙ c.in_ok-memory.ensures.len ∙ told-nodesize c.in_ok-trees.ensures.superblock)
    c.as_slice.ensures c.write_nodes.ensures.front))

pub returns-in_err-write_nodes-2-clause-front : goal.returns-in_err-write_nodes-2-clause-front
returns-in_err-write_nodes-2-clause-front g c =
    let at = goal.at.returns-in_err-write_nodes-2-clause-front g c in
    stops-err _ _ _ _
    (stops g at.In_ok-write_at (g.D.Disk.history c.write_nodes-2.new.disk)
    (stops-past (wrote-roots g at.In_ok-write_nodes)
    (stops-among _
    (c.write_nodes.auto.buffer ∙ c.as_mut_slice-buffer.ensures.len ∙ c.in_ok-memory.ensures.len
    ∙ told-nodesize c.in_ok-trees.ensures.superblock)
    c.as_slice-2.ensures c.write_nodes-2.ensures.front)))

pub returns-in_err-write_nodes-3-clause-front : goal.returns-in_err-write_nodes-3-clause-front
returns-in_err-write_nodes-3-clause-front g c =
    let at = goal.at.returns-in_err-write_nodes-3-clause-front g c in
    stops-err _ _ _ _
    (stops g at.In_ok-write_at (g.D.Disk.history c.write_nodes-3.new.disk)
    (stops-past (wrote-roots g at.In_ok-write_nodes)
    (stops-past (wrote-extents g at.In_ok-write_nodes-2)
    (stops-among _
    (c.write_nodes-2.auto.buffer ∙ c.write_nodes.auto.buffer ∙ c.as_mut_slice-buffer.ensures.len
    ∙ c.in_ok-memory.ensures.len ∙ told-nodesize c.in_ok-trees.ensures.superblock)
    (ap (λ (node : Node). node ∷ []) c.lay_own_leaf.ensures) c.write_nodes-3.ensures.front))))

pub returns-in_err-write_nodes-4-clause-front : goal.returns-in_err-write_nodes-4-clause-front
returns-in_err-write_nodes-4-clause-front g c =
    let at = goal.at.returns-in_err-write_nodes-4-clause-front g c in
    stops-err _ _ _ _
    (stops g at.In_ok-write_at (g.D.Disk.history c.write_nodes-4.new.disk)
    (stops-past (wrote-roots g at.In_ok-write_nodes)
    (stops-past (wrote-extents g at.In_ok-write_nodes-2)
    (stops-past (wrote-own g at.In_ok-write_nodes-3)
    (stops-among _
    (c.write_nodes-3.auto.buffer ∙ c.write_nodes-2.auto.buffer ∙ c.write_nodes.auto.buffer
    ∙ c.as_mut_slice-buffer.ensures.len ∙ c.in_ok-memory.ensures.len ∙ told-nodesize c.in_ok-trees.ensures.superblock)
    c.quota_nodes.ensures c.write_nodes-4.ensures.front)))))

pub returns-in_err-write_superblocks-clause-front : goal.returns-in_err-write_superblocks-clause-front
returns-in_err-write_superblocks-clause-front g c =
    let at = goal.at.returns-in_err-write_superblocks-clause-front g c in
    stops-err _ _ _ _
    (stops g at.In_ok-write_at (g.D.Disk.history c.write_superblocks.new.disk)
    (stops-past (wrote-roots g at.In_ok-write_nodes)
    (stops-past (wrote-extents g at.In_ok-write_nodes-2)
    (stops-past (wrote-own g at.In_ok-write_nodes-3)
    (stops-past (wrote-quotas g at.In_ok-write_nodes-4)
    (stops-last c.in_err-write_superblocks.ensures.front))))))

-- ---- where memory is refused once the calls began, it is the disk that wants it

pub returns-in_err-cut-clause-memory : goal.returns-in_err-cut-clause-memory
returns-in_err-cut-clause-memory g c =
    wants-memory c.from_residual-in_err-cut.result _ g.D.Disk.takes_memory _
    c.in_err-cut.ensures.memory c.from_residual-in_err-cut.ensures.1

pub returns-in_err-write_at-clause-memory : goal.returns-in_err-write_at-clause-memory
returns-in_err-write_at-clause-memory g c =
    wants-memory c.from_residual-in_err-write_at.result _ g.D.Disk.takes_memory _
    c.in_err-write_at.ensures.memory c.from_residual-in_err-write_at.ensures.1

pub returns-in_err-write_nodes-clause-memory : goal.returns-in_err-write_nodes-clause-memory
returns-in_err-write_nodes-clause-memory g c =
    wants-memory c.from_residual-in_err-write_nodes.result _ g.D.Disk.takes_memory _
    c.in_err-write_nodes.ensures.memory c.from_residual-in_err-write_nodes.ensures.1

pub returns-in_err-write_nodes-2-clause-memory : goal.returns-in_err-write_nodes-2-clause-memory
returns-in_err-write_nodes-2-clause-memory g c =
    wants-memory c.from_residual-in_err-write_nodes-2.result _ g.D.Disk.takes_memory _
    c.in_err-write_nodes-2.ensures.memory c.from_residual-in_err-write_nodes-2.ensures.1

pub returns-in_err-write_nodes-3-clause-memory : goal.returns-in_err-write_nodes-3-clause-memory
returns-in_err-write_nodes-3-clause-memory g c =
    wants-memory c.from_residual-in_err-write_nodes-3.result _ g.D.Disk.takes_memory _
    c.in_err-write_nodes-3.ensures.memory c.from_residual-in_err-write_nodes-3.ensures.1

pub returns-in_err-write_nodes-4-clause-memory : goal.returns-in_err-write_nodes-4-clause-memory
returns-in_err-write_nodes-4-clause-memory g c =
    wants-memory c.from_residual-in_err-write_nodes-4.result _ g.D.Disk.takes_memory _
    c.in_err-write_nodes-4.ensures.memory c.from_residual-in_err-write_nodes-4.ensures.1

pub returns-in_err-write_superblocks-clause-memory : goal.returns-in_err-write_superblocks-clause-memory
returns-in_err-write_superblocks-clause-memory g c =
    wants-memory c.from_residual-in_err-write_superblocks.result _ g.D.Disk.takes_memory _
    c.in_err-write_superblocks.ensures.memory c.from_residual-in_err-write_superblocks.ensures.1

-- ---- the calls

pub returns-clause-calls : goal.returns-clause-calls
returns-clause-calls g c =
    let at = goal.at.returns-clause-calls g c in
    let trees = c.in_ok-trees.trees in
    let history = g.D.Disk.history in
    image-made c.args.sizes trees.superblock _ c.total_bytes.result c.in_ok-trees.ensures.superblock
    (laid-in_turn trees.roots.nodes trees.extents.nodes (own_leaf c.args.sizes ∷ []) (quota_nodes_laid trees.quotas)
    ∙ c.in_ok-trees.ensures.nodes)
    c.total_bytes.ensures (history c.args.disk.now) (history c.cut.new.self) (history c.write_at.new.self)
    (history c.write_superblocks.new.disk) c.in_ok-cut.ensures.event c.in_ok-write_at.ensures.event
    (ends-past (wrote-roots g at.In_ok-write_nodes) (ends-past (wrote-extents g at.In_ok-write_nodes-2)
    (ends-past (wrote-own g at.In_ok-write_nodes-3) (ends-past (wrote-quotas g at.In_ok-write_nodes-4)
    (ends-last c.in_ok-write_superblocks.ensures.calls))))).is

pub returns-clause-fresh : goal.returns-clause-fresh
returns-clause-fresh g c before was =
    let served : is_served c.args.sizes ≡ true = sym c.is_served.ensures ∙ c.if-not-is_served.false in
    let super = fresh_super c.args.sizes (slot_at c.args.sizes 0) in
    let calls : g.D.Disk.history c.write_superblocks.new.disk
    ≡ Recorded (with_image super (fresh_nodes c.args.sizes) before) =
    returns-clause-calls g c ∙ rw was refl in
    rw calls (made-HoldsFreshImage c.args.sizes c.in_ok-trees.trees served c.in_ok-trees.ensures.fits
    c.in_ok-trees.ensures.trees c.in_ok-trees.ensures.table before)
