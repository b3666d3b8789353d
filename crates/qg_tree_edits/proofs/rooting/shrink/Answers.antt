use Rattle.std.proofs.Common.{◌≡◌, suc, ◌-◌, List, [], ◌∷◌, append-nil, arith, refl, sym, ap, subst, ◌∙◌}
use Rattle.std.specs.Prelude.{Some, None}
use Rattle.std.proofs.lemmas.Result.{err_from_is_err_and}
use Rattle.qg_device.specs.History.{content}
use Rattle.qg_blocks.specs.NodesFound.{told}
use Rattle.qg_blocks.proofs.Telling.{fresh-held}
use Rattle.qg_edit.specs.Outcome.{cleared}
use Rattle.qg_node_alloc.specs.declared.ground.Ground.{Ground}
use Rattle.qg_node_alloc.specs.Tellings.{Telling}
use Rattle.qg_node_alloc.specs.Tellings.Telling.{Left}
use Rattle.qg_node_alloc.proofs.Lands.{Rests-after, told-fresh_at}
use Rattle.qg_tree_read.specs.Tree.{Root}
use Rattle.qg_tree_edits.specs.First.{leaves}
use Rattle.qg_tree_edits.specs.Editing.{alone}
use Rattle.qg_tree_edits.specs.Rooting.{HasRoot, StaysTree, lone_child}
use Rattle.qg_tree_edits.proofs.Cutting.{rewritten-moves, rewritten-rests, rewritten-spares}
use Rattle.qg_tree_edits.proofs.Levels.{rewritten-empties}
use Rattle.qg_tree_edits.proofs.Served.{node-drafted, size-drafted}
use Rattle.qg_tree_edits.specs.Counting.{IsRootTold}
use Rattle.qg_tree_edits.proofs.Shrunk.{lone-high, lone-is, stood, sunk, sunk-leaves, told-stood, told-sunk}
use Rattle.qg_device.proofs.Causes.{cause-handed}
use Rattle.qg_tree_edits.proofs.United.{fresh-unbroken}
use Rattle.qg_node_alloc.proofs.Owners.{IsOwnedBy-after, IsOwnedBy-draft, IsOwnedBy-left}
use Rattle.qg_tree_edits.proofs.Owners.{rewritten-owners}
use Rattle.std.specs.Prelude.{Err}
use Rattle.qg_blocks.proofs.Stopping.{stops-err}
use Rattle.qg_tree_edits.proofs.rooting.shrink.Goals as goal

pub clear_at-requires-clause-size : goal.clear_at-requires-clause-size
clear_at-requires-clause-size g c = size-drafted c.args.land.now c.args.tree.now.next c.requires.editable.drafted

pub leave_node-requires-clause-backed : goal.leave_node-requires-clause-backed
leave_node-requires-clause-backed g c =
    let fresh = c.requires.fresh in
    let rewritten = c.clear_at.ensures.cleared fresh.node fresh.here in
    (rewritten-rests c.args.land.now c.clear_at.new.land c.args.now c.args.tree.now.next fresh.node fresh.here rewritten
    (g.D.Disk.history c.args.disk.now) c.requires.editable.backed c.requires.editable.drafted).backed

pub leave_node-requires-clause-stands : goal.leave_node-requires-clause-stands
leave_node-requires-clause-stands g c =
    let fresh = c.requires.fresh in
    let rewritten = c.clear_at.ensures.cleared fresh.node fresh.here in
    let first = rewritten-rests c.args.land.now c.clear_at.new.land c.args.now c.args.tree.now.next fresh.node
    fresh.here rewritten (g.D.Disk.history c.args.disk.now) c.requires.editable.backed c.requires.editable.drafted in
    g.met.B.Book.lasts c.args.book.now c.args.land.now c.clear_at.new.land c.args.disk.now c.args.disk.now refl refl
    first.backed (rewritten-spares c.args.land.now c.clear_at.new.land c.args.now c.args.tree.now.next fresh.node
    fresh.here rewritten) c.requires.stands

pub sink_to-requires : goal.sink_to-requires
sink_to-requires g c =
    let fresh = c.requires.fresh in
    let one = fresh-held c.args.land.now.blocks c.args.now fresh.node c.peek.result.now fresh.here c.peek.ensures in
    let lone : lone_child fresh.node ≡ Some c.in-Some.child = sym (ap lone_child one) ∙ sym c.lone_child.ensures ∙
    c.in-Some.is in
    let high = lone-high c.args.land.now.space.sizes.nodesize fresh.node c.in-Some.child
    (node-drafted c.args.land.now c.args.tree.now.next c.args.now fresh.node c.requires.editable.drafted fresh.here)
    lone in
    let level = fresh.levelled in
    omega (arith, high, level)

-- ---- the node is the root

pub returns-in-None-clause-root : goal.returns-in-None-clause-root
returns-in-None-clause-root g c =
    let root = c.args.tree.now in
    let land = c.args.land.now in
    record {
      stays = subst (λ (r : Root). StaysTree 0 root r) (sym c.stand_at.ensures)
          (record { owner = refl; next = refl; height = omega arith });
      count = omega arith;
      owners = IsOwnedBy-draft root.owner land land refl;
      err = tt;
    }

pub returns-in-None-clause-rooted : goal.returns-in-None-clause-rooted
returns-in-None-clause-rooted g c items stands =
    let tree = g.P.TreePart.tree in
    let root = c.args.tree.now in
    let land = c.args.land.now in
    let history = g.D.Disk.history c.args.disk.now in
    let fresh = c.requires.fresh in
    let one = fresh-held land.blocks c.args.now fresh.node c.peek.result.now fresh.here c.peek.ensures in
    let none : lone_child fresh.node ≡ None = sym (ap lone_child one) ∙ sym c.lone_child.ensures ∙ c.in-None.is in
    record {
      rooted = subst (λ (r : Root). HasRoot tree root r land land history (alone c.args.now) items)
          (sym c.stand_at.ensures)
          (stood tree root land history c.args.now items fresh.node stands c.requires.editable.drafted fresh.here
          fresh.levelled none);
      leaves = λ still. ap (λ (r : Root). leaves (told land.blocks.draft history) r.height r.address)
          c.stand_at.ensures;
      told = λ before log follows. (
        [],
        subst (λ (ts : List Telling). g.B.Book.follows before ts c.args.book.now) (sym (append-nil log)) follows,
        subst (λ (r : Root). IsRootTold root r land land history (alone c.args.now) []) (sym c.stand_at.ensures)
            (told-stood tree root land history c.args.now items fresh.node stands c.requires.editable.drafted fresh.here
            fresh.levelled),
      );
    }

-- ---- its child is the root

pub returns-in_ok-leave_node-in-Some-clause-root : goal.returns-in_ok-leave_node-in-Some-clause-root
returns-in_ok-leave_node-in-Some-clause-root g c =
    let root = c.args.tree.now in
    let owner = root.owner in
    let land = c.args.land.now in
    let mid = c.clear_at.new.land in
    let fresh = c.requires.fresh in
    let rewritten = c.clear_at.ensures.cleared fresh.node fresh.here in
    let first = rewritten-rests land mid c.args.now root.next fresh.node fresh.here rewritten
    (g.D.Disk.history c.args.disk.now) c.requires.editable.backed c.requires.editable.drafted in
    let level = fresh.levelled in
    let moved = (rewritten-moves land mid c.args.now root.next fresh.node fresh.here rewritten root.height
    (omega (arith, level))).count in
    let taken = (c.in_ok-leave_node-in-Some.ensures.takes root.next first.drafted).count in
    record {
      stays = subst (λ (r : Root). StaysTree 0 root r) (sym c.sink_to.ensures)
          (record { owner = refl; next = refl; height = omega arith });
      count = omega (arith, moved, taken);
      owners = IsOwnedBy-after owner land mid c.leave_node.new.land
          (rewritten-owners owner land mid c.args.now fresh.node fresh.here rewritten)
          (IsOwnedBy-left owner mid c.leave_node.new.land c.args.now c.in_ok-leave_node-in-Some.ensures.gone);
      err = tt;
    }

pub returns-in_ok-leave_node-in-Some-clause-rooted : goal.returns-in_ok-leave_node-in-Some-clause-rooted
returns-in_ok-leave_node-in-Some-clause-rooted g c items stands =
    let tree = g.P.TreePart.tree in
    let root = c.args.tree.now in
    let land = c.args.land.now in
    let mid = c.clear_at.new.land in
    let new = c.leave_node.new.land in
    let history = g.D.Disk.history c.args.disk.now in
    let later = g.D.Disk.history c.leave_node.new.disk in
    let drafted = c.requires.editable.drafted in
    let fresh = c.requires.fresh in
    let node = fresh.node in
    let one = fresh-held land.blocks c.args.now node c.peek.result.now fresh.here c.peek.ensures in
    let lone : lone_child node ≡ Some c.in-Some.child = sym (ap lone_child one) ∙ sym c.lone_child.ensures ∙
    c.in-Some.is in
    let is = lone-is node c.in-Some.child lone in
    let high = lone-high land.space.sizes.nodesize node c.in-Some.child
    (node-drafted land root.next c.args.now node drafted fresh.here) lone in
    let level = fresh.levelled in
    let below = root.height - 1 in
    let height : root.height ≡ suc (root.height - 1) = omega (arith, high, level) in
    let rewritten = c.clear_at.ensures.cleared node fresh.here in
    let space = ap (λ (l : Ground). l.space) rewritten.is in
    let first = rewritten-rests land mid c.args.now root.next node fresh.here rewritten history
    c.requires.editable.backed drafted in
    let rests = Rests-after land mid new history later root.next first
    (c.leave_node.ensures.rests root.next first.drafted) in
    let gone = c.in_ok-leave_node-in-Some.ensures.gone in
    let there = told-fresh_at mid.blocks.draft history c.args.now (cleared node)
    (c.clear_at.ensures.here node fresh.here) in
    record {
      rooted = subst (λ (r : Root). HasRoot tree root r land new history (alone c.args.now) items)
          (sym c.sink_to.ensures) (sunk tree root land history c.args.now items node stands drafted fresh.here
          fresh.levelled mid new later c.in-Some.child below is.0 is.1 is.2 is.3 height rewritten space gone rests);
      leaves = λ still.
          ap (λ (r : Root). leaves (told new.blocks.draft history) r.height r.address) c.sink_to.ensures
          ∙ sunk-leaves tree root land history c.args.now items node stands drafted fresh.here fresh.levelled mid new
          later c.in-Some.child below is.0 is.1 is.2 is.3 height rewritten space gone rests;
      told = λ before log follows. (
        Left (cleared node) ∷ [],
        c.in_ok-leave_node-in-Some.ensures.told (cleared node) there before log follows,
        subst (λ (r : Root). IsRootTold root r land new history (alone c.args.now) (Left (cleared node) ∷ []))
            (sym c.sink_to.ensures)
            (told-sunk tree root land history c.args.now items node stands drafted fresh.here fresh.levelled mid new
            later c.in-Some.child below is.0 is.1 is.2 is.3 height rewritten space gone rests),
      );
    }

-- ---- where it fails, and what is left so

pub returns-in_err-leave_node-in-Some-clause-fails : goal.returns-in_err-leave_node-in-Some-clause-fails
returns-in_err-leave_node-in-Some-clause-fails g c =
    let p = err_from_is_err_and c.from_residual.result c.from_residual.ensures.1 in
    let fresh = c.requires.fresh in
    let fault = c.in_err-leave_node-in-Some.field-0.0 in
    let old = g.D.Disk.faults c.args.disk.now in
    rw (p.1, p.2) (record {
      sound = λ events is. fresh-unbroken (Unit {0}) (Unit {0}) fault c.clear_at.new.land.blocks.draft (content events)
          c.args.now (cleared fresh.node) (c.clear_at.ensures.here fresh.node fresh.here)
          (c.in_err-leave_node-in-Some.ensures.fails.answers events is);
      cause = cause-handed (Unit {0}) (Unit {0}) old old (g.D.Disk.faults c.leave_node.new.disk) fault (omega arith)
          c.in_err-leave_node-in-Some.ensures.fails.cause;
    })

pub returns-in_err-leave_node-in-Some-clause-rests : goal.returns-in_err-leave_node-in-Some-clause-rests
returns-in_err-leave_node-in-Some-clause-rests g c =
    let fresh = c.requires.fresh in
    let rewritten = c.clear_at.ensures.cleared fresh.node fresh.here in
    let first = rewritten-rests c.args.land.now c.clear_at.new.land c.args.now c.args.tree.now.next fresh.node
    fresh.here rewritten (g.D.Disk.history c.args.disk.now) c.requires.editable.backed c.requires.editable.drafted in
    record {
      rests = Rests-after c.args.land.now c.clear_at.new.land c.leave_node.new.land (g.D.Disk.history c.args.disk.now)
          (g.D.Disk.history c.leave_node.new.disk) c.args.tree.now.next first
          (c.leave_node.ensures.rests c.args.tree.now.next first.drafted);
      history = c.leave_node.ensures.disk.0;
      size = c.leave_node.ensures.disk.1;
    }

pub returns-in_ok-leave_node-in-Some-clause-rests : goal.returns-in_ok-leave_node-in-Some-clause-rests
returns-in_ok-leave_node-in-Some-clause-rests g c =
    let fresh = c.requires.fresh in
    let rewritten = c.clear_at.ensures.cleared fresh.node fresh.here in
    let first = rewritten-rests c.args.land.now c.clear_at.new.land c.args.now c.args.tree.now.next fresh.node
    fresh.here rewritten (g.D.Disk.history c.args.disk.now) c.requires.editable.backed c.requires.editable.drafted in
    record {
      rests = Rests-after c.args.land.now c.clear_at.new.land c.leave_node.new.land (g.D.Disk.history c.args.disk.now)
          (g.D.Disk.history c.leave_node.new.disk) c.args.tree.now.next first
          (c.leave_node.ensures.rests c.args.tree.now.next first.drafted);
      history = c.leave_node.ensures.disk.0;
      size = c.leave_node.ensures.disk.1;
    }

-- ---- the book

pub returns-in_ok-leave_node-in-Some-clause-book : goal.returns-in_ok-leave_node-in-Some-clause-book
returns-in_ok-leave_node-in-Some-clause-book g c =
    let land = c.args.land.now in
    let fresh = c.requires.fresh in
    record {
      stands = c.in_ok-leave_node-in-Some.ensures.stands;
      settled = λ settled. c.in_ok-leave_node-in-Some.ensures.settled land
          (rewritten-empties land c.clear_at.new.land c.args.now fresh.node fresh.here
          (c.clear_at.ensures.cleared fresh.node fresh.here) (c.clear_at.ensures.here fresh.node fresh.here)
          (c.requires.editable.drafted.each c.args.now fresh.node fresh.here).kept.placed) settled;
    }

-- ---- over any disk

pub returns-in_err-leave_node-in-Some-clause-stops : goal.returns-in_err-leave_node-in-Some-clause-stops
returns-in_err-leave_node-in-Some-clause-stops g c =
    let old = c.args.land.now in
    let mid = c.clear_at.new.land in
    let bytes = g.D.Disk.size c.args.disk.now in
    let fault = c.in_err-leave_node-in-Some.field-0.0 in
    let fresh = c.requires.fresh in
    let rewritten = c.clear_at.ensures.cleared fresh.node fresh.here in
    let sizes = (rewritten-spares old mid c.args.now c.args.tree.now.next fresh.node fresh.here rewritten).sizes in
    stops-err (Unit {0}) c.from_residual.result fault mid.blocks.draft.sizes old.blocks.draft.sizes bytes bytes
    c.from_residual.ensures.1 sizes refl c.in_err-leave_node-in-Some.ensures.stops

pub returns-in_ok-leave_node-in-Some-clause-fails : goal.returns-in_ok-leave_node-in-Some-clause-fails
returns-in_ok-leave_node-in-Some-clause-fails g c =
    let cause = c.in_ok-leave_node-in-Some.ensures.fails.cause in
    record { sound = λ events is. tt; cause = record { fine = cause.fine; met = tt } }
