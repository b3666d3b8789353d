use Rattle.std.proofs.Common.{refl, subst, sym}
use Rattle.std.proofs.lemmas.Result.{on_ok_weaker}
use Rattle.qg_node.specs.declared.node.Header.{Header}
use Rattle.qg_node.specs.Nodes.{header_of}
use Rattle.qg_node_alloc.specs.Changes.{PutsFresh, node_at}
use Rattle.qg_node_alloc.proofs.Lands.{Makes-after, Rests-after, Rests-made, Rests-taken, Takes-made}
use Rattle.qg_node_alloc.proofs.Settling.{PutsFresh-puts}
use Rattle.qg_tree_build.proofs.laying.lay_node.Goals as goal

pub put_there-requires : goal.put_there-requires
put_there-requires g c = c.requires.ready.free

pub returns-in_err-put_there-clause-rests : goal.returns-in_err-put_there-clause-rests
returns-in_err-put_there-clause-rests g c =
    let history = g.D.Disk.history c.args.disk.now in
    let ready = c.requires.ready in
    record {
      rests = Rests-taken c.args.land.now c.put_there.new.land history (header_of c.args.node).generation
          c.put_there.ensures.spares c.in_err-put_there.ensures.err (c.put_there.ensures.backed history ready.backed)
          ready.drafted;
      history = refl;
      size = refl;
    }

pub returns-clause-rests : goal.returns-clause-rests
returns-clause-rests g c =
    let history = g.D.Disk.history c.args.disk.now in
    let node = c.args.node in
    let ready = c.requires.ready in
    let put = Rests-made c.args.land.now c.put_there.new.land history (header_of node).address
    (header_of node).generation node c.put_there.ensures.spares c.put_there.ensures.bound
    (c.put_there.ensures.backed history ready.backed) c.in_ok-put_there.ensures.made ready.sound refl ready.drafted in
    record {
      rests = Rests-after c.args.land.now c.put_there.new.land c.made.new.land history
          (g.D.Disk.history c.made.new.disk) (header_of node).generation put
          (c.made.ensures.rests (header_of node).generation put.drafted);
      history = c.made.ensures.disk.0;
      size = c.made.ensures.disk.1;
    }

pub returns-clause-made : goal.returns-clause-made
returns-clause-made g c =
    on_ok_weaker c.made.result
    (λ takes. Makes-after c.args.land.now c.put_there.new.land c.made.new.land (header_of c.args.node).address
    c.args.node c.in_ok-put_there.ensures.made takes.draft takes.slots)
    c.made.ensures.takes

pub returns-clause-takes : goal.returns-clause-takes
returns-clause-takes g c =
    let rests = (returns-clause-rests g c).rests in
    on_ok_weaker c.made.result
    (λ makes. Takes-made c.args.land.now c.made.new.land (header_of c.args.node).address c.args.node
    c.requires.ready.drafted.sizes rests.sizes rests.held_slots makes)
    (returns-clause-made g c)

pub returns-clause-book : goal.returns-clause-book
returns-clause-book g c =
    let node = c.args.node in
    let at = (header_of node).address in
    let made = c.in_ok-put_there.ensures.made in
    let puts = PutsFresh-puts c.args.land.now c.put_there.new.land at (header_of node).generation (node_at at node)
    made.puts c.put_there.ensures.spares made.slots c.requires.ready.drafted in
    record {
      stands = c.made.ensures.stands;
      settled = c.made.ensures.settled c.args.land.now
          (subst (λ (h : Header). PutsFresh c.args.land.now c.put_there.new.land h.address) (sym c.header-at.ensures)
          puts);
    }
