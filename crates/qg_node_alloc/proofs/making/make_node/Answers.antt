use Rattle.std.proofs.Common.{refl}
use Rattle.qg_node.specs.Nodes.{header_of}
use Rattle.qg_node_alloc.specs.Changes.{node_at}
use Rattle.qg_node_alloc.proofs.Lands.{Makes-after, Rests-after, Rests-made, Rests-taken, Takes-made}
use Rattle.qg_node_alloc.proofs.Settling.{PutsFresh-puts}
use Rattle.qg_node_alloc.proofs.making.make_node.Goals as goal

pub returns-in_err-now-clause-rests : goal.returns-in_err-now-clause-rests
returns-in_err-now-clause-rests g c =
    let history = g.D.Disk.history c.args.disk.now in
    let ready = c.requires.ready in
    record {
      rests = Rests-taken c.args.land.now c.put_node.new.land history (header_of c.args.node).generation
          c.put_node.ensures.spares c.in_err-now.ensures.err
          (c.put_node.ensures.backed history ready.backed) ready.drafted;
      history = refl;
      size = refl;
    }

pub returns-in_err-made-clause-rests : goal.returns-in_err-made-clause-rests
returns-in_err-made-clause-rests g c =
    let history = g.D.Disk.history c.args.disk.now in
    let generation = (header_of c.args.node).generation in
    let ready = c.requires.ready in
    let put = Rests-made c.args.land.now c.put_node.new.land history c.in_ok-now.now generation c.args.node
    c.put_node.ensures.spares c.put_node.ensures.bound
    (c.put_node.ensures.backed history ready.backed) c.in_ok-now.ensures.made c.requires.sound refl ready.drafted in
    record {
      rests = Rests-after c.args.land.now c.put_node.new.land c.made.new.land history (g.D.Disk.history c.made.new.disk)
          generation put (c.made.ensures.rests generation put.drafted);
      history = c.made.ensures.disk.0;
      size = c.made.ensures.disk.1;
    }

pub returns-clause-rests : goal.returns-clause-rests
returns-clause-rests g c =
    let history = g.D.Disk.history c.args.disk.now in
    let generation = (header_of c.args.node).generation in
    let ready = c.requires.ready in
    let put = Rests-made c.args.land.now c.put_node.new.land history c.in_ok-now.now generation c.args.node
    c.put_node.ensures.spares c.put_node.ensures.bound
    (c.put_node.ensures.backed history ready.backed) c.in_ok-now.ensures.made c.requires.sound refl ready.drafted in
    record {
      rests = Rests-after c.args.land.now c.put_node.new.land c.made.new.land history (g.D.Disk.history c.made.new.disk)
          generation put (c.made.ensures.rests generation put.drafted);
      history = c.made.ensures.disk.0;
      size = c.made.ensures.disk.1;
    }

pub returns-clause-takes : goal.returns-clause-takes
returns-clause-takes g c =
    let rests = (returns-clause-rests g c).rests in
    let takes = c.in_ok-made.ensures.takes in
    Takes-made c.args.land.now c.made.new.land c.in_ok-now.now c.args.node c.requires.ready.drafted.sizes rests.sizes
    rests.held_slots
    (Makes-after c.args.land.now c.put_node.new.land c.made.new.land c.in_ok-now.now c.args.node
    c.in_ok-now.ensures.made takes.draft takes.slots)

pub returns-clause-book : goal.returns-clause-book
returns-clause-book g c = record {
  stands = c.in_ok-made.ensures.stands;
  settled = c.in_ok-made.ensures.settled c.args.land.now
      (PutsFresh-puts c.args.land.now c.put_node.new.land c.in_ok-now.now (header_of c.args.node).generation
      (node_at c.in_ok-now.now c.args.node) c.in_ok-now.ensures.made.puts
      c.put_node.ensures.spares c.in_ok-now.ensures.made.slots c.requires.ready.drafted);
}
