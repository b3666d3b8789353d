use Rattle.std.proofs.Common.{[], ◌∷◌, append-nil, arith, inl, inr, refl, subst, sym}
use Rattle.std.specs.Prelude.{List}
use Rattle.std.proofs.lemmas.Result.{err_from_is_err_and}
use Rattle.qg_device.specs.History.{content}
use Rattle.qg_node_alloc.specs.Tellings.{Telling}
use Rattle.qg_node_alloc.specs.Tellings.Telling.{Left}
use Rattle.qg_node_alloc.proofs.Lands.{Rests-after, told-fresh_at}
use Rattle.qg_tree_edits.specs.declared.instead.Instead.{Instead}
use Rattle.qg_tree_edits.proofs.Levels.{both-space, joined-empties, joined-levels}
use Rattle.qg_tree_edits.proofs.ToldUnited.{left-cleared}
use Rattle.qg_tree_edits.proofs.United.{between-backed, both-backed, both-rests, first-spares, fresh-unbroken}
use Rattle.qg_tree_edits.proofs.United.{later-spares}
use Rattle.qg_tree_edits.proofs.Naming.{names-none_other, names-other}
use Rattle.qg_tree_edits.proofs.Rejoined.{unbroken-other}
use Rattle.qg_device.proofs.Causes.{cause-handed, cause-none}
use Rattle.qg_tree_edits.specs.Failing.{ArentJoined}
use Rattle.qg_shape.specs.declared.joining.Joined.{Joined}
use Rattle.std.proofs.Common.{◌∙◌}
use Rattle.qg_blocks.proofs.Stopping.{stops-err}
use Rattle.std.specs.Prelude.{Err}
use Rattle.qg_tree_edits.proofs.Stopped.{misfit-merge, stops-names-err}
use Rattle.qg_tree_edits.proofs.joining.unite.Goals as goal

-- ---- they are not joined

pub returns-in_err-join_nodes-clause-fails : goal.returns-in_err-join_nodes-clause-fails
returns-in_err-join_nodes-clause-fails g c =
    let p = err_from_is_err_and c.from_residual.result c.from_residual.ensures.1 in
    let fault = c.in_err-join_nodes.field-0.0 in
    let call = c.in_err-join_nodes.ensures in
    let faults = g.D.Disk.faults c.args.disk.now in
    rw (p.1, p.2) (record {
      sound = λ events is a b here there front short short'.
          unbroken-other Joined Instead fault (call.sound a b here there front short short');
      broken = λ events is a b here there.
          let unjoined = ArentJoined c.join_nodes.new.land c.args.left c.args.right a b in
          names-other Joined Instead fault unjoined unjoined (λ rule address bad. bad) (call.broken a b here there);
      cause = cause-none Joined Instead faults faults fault (omega arith) call.no_disk;
    })

pub returns-in_err-join_nodes-clause-drafted : goal.returns-in_err-join_nodes-clause-drafted
returns-in_err-join_nodes-clause-drafted g c generation drafted =
    let p = err_from_is_err_and c.from_residual.result c.from_residual.ensures.1 in
    let rests = both-rests c.args.land.now c.join_nodes.new.land c.args.left c.args.right c.requires.apart
    c.requires.pair c.join_nodes.ensures.rewritten (g.D.Disk.history c.args.disk.now) generation c.requires.backed
    drafted in
    rw (p.1, p.2) (record { rests = rests; told = λ before log follows. tt; settled = λ settled. tt })

-- ---- both share anew

pub returns-in-Parted-clause-drafted : goal.returns-in-Parted-clause-drafted
returns-in-Parted-clause-drafted g c generation drafted =
    let old = c.args.land.now in
    let new = c.join_nodes.new.land in
    let left = c.args.left in
    let right = c.args.right in
    let apart = c.requires.apart in
    let pair = c.requires.pair in
    let are = c.join_nodes.ensures.rewritten in
    let joined = c.in_ok-join_nodes.ensures.joined in
    let kind = c.in_ok-join_nodes.field-0 in
    let book = c.args.book.now in
    let disk = c.args.disk.now in
    record {
      rests = both-rests old new left right apart pair are (g.D.Disk.history disk) generation c.requires.backed drafted;
      told = λ before log follows. (
        [],
        subst (λ (ts : List Telling). g.B.Book.follows before ts book) (sym (append-nil log)) follows,
        inl (refl, refl),
      );
      settled = λ settled. g.met.B.Book.keeps book old new disk disk refl
          (both-space old new left right apart pair are kind joined)
          (joined-levels old new left right apart pair are kind joined c.in-Parted.is) settled;
    }

pub returns-in-Parted-clause-stands : goal.returns-in-Parted-clause-stands
returns-in-Parted-clause-stands g c =
    let old = c.args.land.now in
    let new = c.join_nodes.new.land in
    let are = c.join_nodes.ensures.rewritten in
    let history = g.D.Disk.history c.args.disk.now in
    let between = between-backed old new c.args.left c.args.right c.requires.apart c.requires.pair are history
    c.requires.backed in
    let both = both-backed old new c.args.left c.args.right c.requires.apart c.requires.pair are history
    c.requires.backed in
    g.met.B.Book.lasts c.args.book.now are.mid new c.args.disk.now c.args.disk.now refl refl both
    (later-spares old new c.args.left c.args.right c.requires.apart c.requires.pair are)
    (g.met.B.Book.lasts c.args.book.now old are.mid c.args.disk.now c.args.disk.now refl refl between
    (first-spares old new c.args.left c.args.right c.requires.apart c.requires.pair are) c.requires.stands)

-- ---- the right one is left

pub leave_node-requires-clause-backed : goal.leave_node-requires-clause-backed
leave_node-requires-clause-backed g c =
    both-backed c.args.land.now c.join_nodes.new.land c.args.left c.args.right c.requires.apart c.requires.pair
    c.join_nodes.ensures.rewritten (g.D.Disk.history c.args.disk.now) c.requires.backed

pub leave_node-requires-clause-stands : goal.leave_node-requires-clause-stands
leave_node-requires-clause-stands g c =
    let old = c.args.land.now in
    let new = c.join_nodes.new.land in
    let are = c.join_nodes.ensures.rewritten in
    let history = g.D.Disk.history c.args.disk.now in
    let between = between-backed old new c.args.left c.args.right c.requires.apart c.requires.pair are history
    c.requires.backed in
    let both = both-backed old new c.args.left c.args.right c.requires.apart c.requires.pair are history
    c.requires.backed in
    g.met.B.Book.lasts c.args.book.now are.mid new c.args.disk.now c.args.disk.now refl refl both
    (later-spares old new c.args.left c.args.right c.requires.apart c.requires.pair are)
    (g.met.B.Book.lasts c.args.book.now old are.mid c.args.disk.now c.args.disk.now refl refl between
    (first-spares old new c.args.left c.args.right c.requires.apart c.requires.pair are) c.requires.stands)

pub returns-in_err-leave_node-in-Whole-clause-fails : goal.returns-in_err-leave_node-in-Whole-clause-fails
returns-in_err-leave_node-in-Whole-clause-fails g c =
    let residual = c.from_residual-in_err-leave_node-in-Whole in
    let p = err_from_is_err_and residual.result residual.ensures.1 in
    let fault = c.in_err-leave_node-in-Whole.field-0.0 in
    let call = c.in_err-leave_node-in-Whole.ensures in
    let joined = c.in_ok-join_nodes.ensures.joined in
    let faults = g.D.Disk.faults c.args.disk.now in
    let draft = c.join_nodes.new.land.blocks.draft in
    rw (p.1, p.2) (record {
      sound = λ events is a b here there front short short'.
          fresh-unbroken (Unit {0}) Instead fault draft (content events) c.args.right joined.b joined.right_there
          (call.fails.answers events is);
      broken = λ events is a b here there. names-none_other Instead Instead fault
          (ArentJoined c.leave_node.new.land c.args.left c.args.right a b)
          (fresh-unbroken (Unit {0}) Instead fault draft (content events) c.args.right joined.b joined.right_there
          (call.fails.answers events is));
      cause = cause-handed (Unit {0}) Instead faults faults (g.D.Disk.faults c.leave_node.new.disk) fault (omega arith)
          call.fails.cause;
    })

pub returns-in_err-leave_node-in-Whole-clause-drafted : goal.returns-in_err-leave_node-in-Whole-clause-drafted
returns-in_err-leave_node-in-Whole-clause-drafted g c generation drafted =
    let residual = c.from_residual-in_err-leave_node-in-Whole in
    let p = err_from_is_err_and residual.result residual.ensures.1 in
    let old = c.args.land.now in
    let mid = c.join_nodes.new.land in
    let new = c.leave_node.new.land in
    let history = g.D.Disk.history c.args.disk.now in
    let later = g.D.Disk.history c.leave_node.new.disk in
    let one = both-rests old mid c.args.left c.args.right c.requires.apart c.requires.pair
    c.join_nodes.ensures.rewritten history generation c.requires.backed drafted in
    let rests = Rests-after old mid new history later generation one (c.leave_node.ensures.rests generation one.drafted)
    in
    rw (p.1, p.2) (record { rests = rests; told = λ before log follows. tt; settled = λ settled. tt })

pub returns-in_ok-leave_node-in-Whole-clause-fails : goal.returns-in_ok-leave_node-in-Whole-clause-fails
returns-in_ok-leave_node-in-Whole-clause-fails g c =
    let cause = c.in_ok-leave_node-in-Whole.ensures.fails.cause in
    record {
      sound = λ events is a b here there front short short'. tt;
      broken = λ events is a b here there. tt;
      cause = record { fine = cause.fine; met = tt };
    }

pub returns-in_ok-leave_node-in-Whole-clause-drafted : goal.returns-in_ok-leave_node-in-Whole-clause-drafted
returns-in_ok-leave_node-in-Whole-clause-drafted g c generation drafted =
    let old = c.args.land.now in
    let new = c.join_nodes.new.land in
    let left = c.args.left in
    let right = c.args.right in
    let pair = c.requires.pair in
    let are = c.join_nodes.ensures.rewritten in
    let kind = c.in_ok-join_nodes.field-0 in
    let joined = c.in_ok-join_nodes.ensures.joined in
    let history = g.D.Disk.history c.args.disk.now in
    let one = both-rests old new left right c.requires.apart pair are history generation c.requires.backed drafted in
    let cleared = left-cleared old new left right generation kind c.in-Whole.is drafted pair joined in
    let there = told-fresh_at new.blocks.draft history right joined.b joined.right_there in
    let call = c.in_ok-leave_node-in-Whole.ensures in
    record {
      rests = Rests-after old new c.leave_node.new.land history (g.D.Disk.history c.leave_node.new.disk) generation one
          (c.leave_node.ensures.rests generation one.drafted);
      told = λ before log follows. (
        Left joined.b ∷ [],
        call.told joined.b there before log follows,
        inr (refl, (joined.b, refl, cleared.0, cleared.1)),
      );
      settled = λ settled. call.settled old
          (joined-empties old new left right c.requires.apart pair are kind joined c.in-Whole.is
          (one.drafted.each right joined.b joined.right_there).kept.placed) settled;
    }

-- ---- over any disk

pub returns-in_err-join_nodes-clause-stops : goal.returns-in_err-join_nodes-clause-stops
returns-in_err-join_nodes-clause-stops g c =
    let pair = c.requires.pair in
    stops-names-err Joined c.from_residual.result c.in_err-join_nodes.field-0.0
    (ArentJoined c.join_nodes.new.land c.args.left c.args.right pair.a pair.b) c.args.land.now.blocks.draft.sizes
    (g.D.Disk.size c.args.disk.now) c.from_residual.ensures.1
    (λ rule address bad. misfit-merge pair.a pair.b rule address bad.broken)
    (c.in_err-join_nodes.ensures.broken pair.a pair.b pair.left_here pair.right_here)

pub returns-in_err-leave_node-in-Whole-clause-stops : goal.returns-in_err-leave_node-in-Whole-clause-stops
returns-in_err-leave_node-in-Whole-clause-stops g c =
    let residual = c.from_residual-in_err-leave_node-in-Whole in
    let old = c.args.land.now in
    let mid = c.join_nodes.new.land in
    let are = c.join_nodes.ensures.rewritten in
    let bytes = g.D.Disk.size c.args.disk.now in
    let fault = c.in_err-leave_node-in-Whole.field-0.0 in
    let sizes = (later-spares old mid c.args.left c.args.right c.requires.apart c.requires.pair are).sizes
    ∙ (first-spares old mid c.args.left c.args.right c.requires.apart c.requires.pair are).sizes in
    stops-err (Unit {0}) residual.result fault mid.blocks.draft.sizes old.blocks.draft.sizes bytes bytes
    residual.ensures.1 sizes refl c.in_err-leave_node-in-Whole.ensures.stops
