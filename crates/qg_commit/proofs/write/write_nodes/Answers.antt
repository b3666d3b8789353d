use Rattle.std.proofs.Common.{◌≡◌, ◌+◌, ◌<◌, ◌∷◌, length, drop, subst, sym, ap, ◌∙◌, arith, refl, rules}
use Rattle.std.specs.List.{AllByRecursion}
use Rattle.std.proofs.lemmas.List.{drop_more}
use Rattle.qg_device.specs.History.{history_after}
use Rattle.qg_node.specs.declared.node.Header.{Header}
use Rattle.qg_node.specs.declared.node.Node.{Node}
use Rattle.qg_commit.specs.Calls.{node_calls, with_nodes, IsWritable}
use Rattle.qg_commit.proofs.CommitCalls.{next_call}
use Rattle.qg_commit.proofs.Fronts.{comes-none, comes-node, comes-past_node}
use Rattle.qg_commit.proofs.write.write_nodes.Goals as goal

pub returns-in_err-write_at-clause-front : goal.returns-in_err-write_at-clause-front
returns-in_err-write_at-clause-front g c =
    let i = c.loop-node.node-index in
    let history = g.D.Disk.history in
    let size = length c.loop-node.buffer in
    let long : length c.write_node.new.bytes ≡ size = c.write_node.auto.bytes in
    let within : i < length c.args.nodes.now = search rules in
    let cut : drop i c.args.nodes.now ≡ c.node-item.result ∷ drop (i + 1) c.args.nodes.now =
    drop_more c.args.nodes.now i c.node-item.result within ∙ ap (λ (node : Node). node ∷ drop (i + 1) c.args.nodes.now)
    (sym c.node-item.is) in
    let comes = comes-node size c.node-item.result (drop i c.args.nodes.now) (drop (i + 1) c.args.nodes.now)
    c.value.result c.write_node.new.bytes (history c.loop-node.disk) (history c.write_at.new.self) c.write_at.result
    cut
    (c.value.ensures ∙ ap (λ (header : Header). header.address) c.header.ensures) c.write_node.ensures.text
    c.write_at.ensures.event in
    rw (← c.loop-node.auto.buffer) (c.loop-node.invariant.leads (history c.write_at.new.self) comes)

pub loop-node-preserved : goal.loop-node-preserved
loop-node-preserved g c =
    let i = c.loop-node.node-index in
    let history = g.D.Disk.history in
    let size = length c.loop-node.buffer in
    let long : length c.write_node.new.bytes ≡ size = c.write_node.auto.bytes in
    let within : i < length c.args.nodes.now = search rules in
    let cut : drop i c.args.nodes.now ≡ c.node-item.result ∷ drop (i + 1) c.args.nodes.now =
    drop_more c.args.nodes.now i c.node-item.result within ∙ ap (λ (node : Node). node ∷ drop (i + 1) c.args.nodes.now)
    (sym c.node-item.is) in
    let there = c.value.ensures ∙ ap (λ (header : Header). header.address) c.header.ensures in
    record {
      calls =
          rw long
          (next_call size c.node-item.result (drop i c.args.nodes.now) (drop (i + 1) c.args.nodes.now) c.value.result
          c.write_node.new.bytes
          (history_after (with_nodes size c.args.nodes.now) (history c.args.disk.now)) (history c.loop-node.disk)
          (history c.write_at.new.self)
          cut there c.write_node.ensures.text c.in_ok-write_at.ensures.event c.loop-node.invariant.calls);
      leads = λ new.
          rw long
          (λ comes. c.loop-node.invariant.leads new
          (comes-past_node size c.node-item.result (drop i c.args.nodes.now) (drop (i + 1) c.args.nodes.now)
          c.value.result c.write_node.new.bytes (history c.loop-node.disk) (history c.write_at.new.self) new
          cut there c.write_node.ensures.text c.in_ok-write_at.ensures.event comes));
      writable = rw long (subst (AllByRecursion (IsWritable size)) cut c.loop-node.invariant.writable).1;
      size = omega arith;
      count = c.in_ok-write_at.ensures.cause.fine ∙ c.loop-node.invariant.count;
    }

pub returns-clause-front : goal.returns-clause-front
returns-clause-front g c =
    let history = g.D.Disk.history in
    let left = node_calls (length c.loop-node.buffer) (drop c.loop-node.node-index c.args.nodes.now) in
    rw (← c.loop-node.auto.buffer)
    (c.loop-node.invariant.leads (history c.loop-node.disk)
    (comes-none left (history c.loop-node.disk) (history c.loop-node.disk) refl))
