use Rattle.std.proofs.Common.{◌≡◌, ℕ, ◌+◌, ◌<◌, List, ◌∷◌, length, drop, get_or, subst, sym, ap, ◌∙◌, arith, refl}
use Rattle.std.proofs.Common.{rules}
use Rattle.std.specs.Prelude.{IsSome, slice_index}
use Rattle.std.specs.List.{AllByRecursion}
use Rattle.std.specs.Map.{keys_of}
use Rattle.std.proofs.lemmas.List.{drop_more}
use Rattle.qg_device.specs.History.{history_after}
use Rattle.qg_node.specs.declared.node.Header.{Header}
use Rattle.qg_node.specs.declared.node.Node.{Node}
use Rattle.qg_node.specs.Nodes.{header_of}
use Rattle.qg_blocks.specs.NodesFound.{clean_at, fresh_at}
use Rattle.qg_blocks.proofs.Flushed.{item-is, listed-fresh}
use Rattle.qg_blocks.proofs.Telling.{IsSome-first}
use Rattle.qg_commit.specs.Calls.{node_calls, with_nodes, IsWritable}
use Rattle.qg_commit.proofs.CommitCalls.{next_call}
use Rattle.qg_commit.proofs.Fronts.{comes-none, comes-node, comes-past_node}
use Rattle.qg_commit.proofs.ReadBack.{more-IsReadBack, written-IsReadBack}
use Rattle.qg_commit.specs.Writing.{fresh_nodes}
use Rattle.qg_commit.proofs.FreshNodes.{as_many-values, next-fresh}
use Rattle.qg_commit.proofs.write_fresh.write_fresh.Given.{Over}
use Rattle.qg_commit.proofs.write_fresh.write_fresh.Goals as goal
use Rattle.qg_commit.proofs.write_fresh.write_fresh.Goals.{After-peek-node}

pub peek-node-requires : goal.peek-node-requires
peek-node-requires g c =
    let items = c.args.addresses.now in
    let draft = c.args.blocks.now.draft in
    let i = c.loop-address.address-index in
    let within : i < length items = search rules in
    let is = item-is items i c.address-item.result within c.address-item.is in
    let listed = listed-fresh draft items i c.requires.addresses within in
    let some = subst (λ (at : ℕ). IsSome (fresh_at draft at)) (sym is) listed in
    IsSome-first (fresh_at draft c.address-item.result) (clean_at c.args.blocks.now c.address-item.result) some

-- ---- the next of the fresh nodes

module _ (g : Over) (c : After-peek-node g) where
  abbrev place : ℕ
  place = c.loop-address.address-index

  abbrev nodes : List Node
  nodes = fresh_nodes c.args.blocks.now.draft

  below : place < length (keys_of c.args.blocks.now.draft.fresh)
  below =
      let within : place < length c.args.addresses.now = search rules in
      omega (arith, within, ap length c.requires.addresses)

  next-cut : drop place nodes ≡ c.peek-node.result.now ∷ drop (place + 1) nodes
  next-cut =
      let within : place < length c.args.addresses.now = search rules in
      let here = item-is c.args.addresses.now place c.address-item.result within c.address-item.is
      ∙ ap (λ (list : List ℕ). slice_index list place) c.requires.addresses in
      next-fresh c.args.blocks.now place c.address-item.result c.peek-node.result.now c.requires.ascending below here
      c.peek-node.ensures

  writable : IsWritable (length c.loop-address.buffer) c.peek-node.result.now
  writable =
      (subst (AllByRecursion (IsWritable (length c.loop-address.buffer))) next-cut c.loop-address.invariant.writable).0

pub write_node-requires-clause-node : goal.write_node-requires-clause-node
write_node-requires-clause-node g c =
    (writable g (goal.at.write_node-requires-clause-node g c).After-peek-node).node_of_format

pub write_at-requires : goal.write_at-requires
write_at-requires g c =
    let can = writable g (goal.at.write_at-requires g c).After-peek-node in
    let there : c.value.result ≡ (header_of c.peek-node.result.now).address =
    c.value.ensures ∙ ap (λ (header : Header). header.address) c.header.ensures in
    let long : length c.write_node.new.bytes ≡ length c.loop-address.buffer = c.write_node.auto.bytes in
    omega (arith, can.ends, there, long)

pub returns-in_err-write_at-clause-front : goal.returns-in_err-write_at-clause-front
returns-in_err-write_at-clause-front g c =
    let i = c.loop-address.address-index in
    let history = g.D.Disk.history in
    let nodes = fresh_nodes c.args.blocks.now.draft in
    let comes = comes-node (length c.loop-address.buffer) c.peek-node.result.now (drop i nodes) (drop (i + 1) nodes)
    c.value.result c.write_node.new.bytes (history c.loop-address.disk) (history c.write_at.new.self) c.write_at.result
    (next-cut g (goal.at.returns-in_err-write_at-clause-front g c).After-peek-node)
    (c.value.ensures ∙ ap (λ (header : Header). header.address) c.header.ensures) c.write_node.ensures.text
    c.write_at.ensures.event in
    rw (← c.loop-address.auto.buffer) (c.loop-address.invariant.leads (history c.write_at.new.self) comes)

pub loop-address-preserved : goal.loop-address-preserved
loop-address-preserved g c =
    let i = c.loop-address.address-index in
    let history = g.D.Disk.history in
    let size = length c.loop-address.buffer in
    let blocks = c.args.blocks.now in
    let nodes = fresh_nodes blocks.draft in
    let node = c.peek-node.result.now in
    let long : length c.write_node.new.bytes ≡ size = c.write_node.auto.bytes in
    let at = (goal.at.loop-address-preserved g c).After-peek-node in
    let cut = next-cut g at in
    let there = c.value.ensures ∙ ap (λ (header : Header). header.address) c.header.ensures in
    let many : i < length nodes = omega (arith, below g at, as_many-values blocks.draft.fresh) in
    let first : node ∷ drop (i + 1) nodes ≡ get_or nodes i node ∷ drop (i + 1) nodes = sym cut
    ∙ drop_more nodes i node many in
    let next : node ≡ get_or nodes i node = cc in
    let text = c.write_node.ensures.text in
    let read = written-IsReadBack size node c.write_node.new.bytes text c.write_node.ensures.read in
    record {
      calls =
          rw long
          (next_call size node (drop i nodes) (drop (i + 1) nodes) c.value.result c.write_node.new.bytes
          (history_after (with_nodes size nodes) (history c.args.disk.now)) (history c.loop-address.disk)
          (history c.write_at.new.self)
          cut there c.write_node.ensures.text c.in_ok-write_at.ensures.event c.loop-address.invariant.calls);
      leads = λ new.
          rw long
          (λ comes. c.loop-address.invariant.leads new
          (comes-past_node size node (drop i nodes) (drop (i + 1) nodes) c.value.result c.write_node.new.bytes
          (history c.loop-address.disk) (history c.write_at.new.self) new
          cut there c.write_node.ensures.text c.in_ok-write_at.ensures.event comes));
      read = rw long (more-IsReadBack size nodes i node many next read c.loop-address.invariant.read);
      writable = rw long (subst (AllByRecursion (IsWritable size)) cut c.loop-address.invariant.writable).1;
      size = omega arith;
      count = c.in_ok-write_at.ensures.cause.fine ∙ c.loop-address.invariant.count;
    }

pub returns-clause-front : goal.returns-clause-front
returns-clause-front g c =
    let history = g.D.Disk.history in
    let nodes = fresh_nodes c.args.blocks.now.draft in
    let left = node_calls (length c.loop-address.buffer) (drop c.loop-address.address-index nodes) in
    rw (← c.loop-address.auto.buffer)
    (c.loop-address.invariant.leads (history c.loop-address.disk)
    (comes-none left (history c.loop-address.disk) (history c.loop-address.disk) refl))
