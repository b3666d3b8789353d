use Rattle.std.proofs.Common.{◌≡◌, ℕ, List, arith, refl, sym, ap, subst, ◌∙◌, Some}
use Rattle.std.proofs.lemmas.Result.{IfOk-weaker, err_from_is_err_and, on_ok_weaker}
use Rattle.qg_device.specs.History.{History}
use Rattle.qg_blocks.specs.NodesInMemory.{Draft}
use Rattle.qg_blocks.specs.NodesFound.{fresh_at, told}
use Rattle.qg_node_alloc.specs.declared.ground.Ground.{Ground}
use Rattle.qg_node_alloc.proofs.Editing.{ArePlaced-drafted}
use Rattle.qg_node_alloc.proofs.Lands.{Rests-after, Rests-draft}
use Rattle.qg_node_alloc.proofs.Settling.{KeepsLevels-draft}
use Rattle.qg_tree_edits.proofs.Owned.{IsOwned-visited, owned-unbroken}
use Rattle.qg_tree_edits.proofs.Rejoined.{unbroken-other}
use Rattle.qg_device.proofs.Causes.{cause-handed, cause-last}
use Rattle.qg_tree_edits.proofs.ToldOwned.{tells-owned}
use Rattle.qg_node_alloc.proofs.Owners.{IsOwnedBy-after, IsOwnedBy-draft, IsOwnedBy-owned}
use Rattle.qg_tree_edits.proofs.Naming.{names-none, names-refused}
use Rattle.qg_tree_edits.specs.Failing.{IsRefused}
use Rattle.qg_tree_read.proofs.Stopping.{stops-visit}
use Rattle.qg_blocks.proofs.Stopping.{stops-same}
use Rattle.qg_tree_edits.proofs.owning.own.Goals as goal

pub visit-requires : goal.visit-requires
visit-requires g c = record {
  readable = record {
    backed = c.requires.editable.backed;
    placed = ArePlaced-drafted c.args.land.now c.args.tree.now.next (g.D.Disk.size c.args.disk.now)
        c.requires.editable.room c.requires.editable.drafted;
  };
}

pub cow_node-requires-clause-ready : goal.cow_node-requires-clause-ready
cow_node-requires-clause-ready g c =
    let mid : Ground = record c.args.land.now { blocks = c.visit.new.blocks } in
    let rests = Rests-draft c.args.land.now mid (g.D.Disk.history c.visit.new.disk) c.args.tree.now.next
    c.visit.ensures.read.draft c.visit.ensures.read.bound refl c.visit.ensures.readable.backed
    c.requires.editable.drafted in
    record {
      backed = c.visit.ensures.readable.backed;
      drafted = rw c.next.ensures rests.drafted;
      slots = c.requires.slots;
    }

pub returns-clause-owned : goal.returns-clause-owned
returns-clause-owned g c =
    let root = c.args.tree.now in
    let owner = root.owner in
    let land = c.args.land.now in
    let mid : Ground = record land { blocks = c.visit.new.blocks } in
    let new = c.cow_node.new.land in
    let at = c.args.way.now.address in
    let later = g.D.Disk.history c.visit.new.disk in
    let read = c.visit.ensures.read in
    let drafted = c.requires.editable.drafted in
    let rests = Rests-draft land mid later root.next read.draft read.bound refl c.visit.ensures.readable.backed
    drafted in
    let first = IsOwnedBy-draft owner land mid read.draft in
    record {
      is = IsOwned-visited g.P.TreePart.tree root land new (g.D.Disk.history c.args.disk.now) later
          c.args.way.now.expected at c.visit.new.blocks c.cow_node.result c.in_ok-visit.ensures.visited drafted
          rests.drafted read.draft (rw (c.owner.ensures, c.next.ensures) at c.cow_node.ensures.owned)
          c.cow_node.ensures.takes;
      count = on_ok_weaker c.cow_node.result (λ takes. takes.count) c.cow_node.ensures.takes;
      owners = IfOk-weaker c.cow_node.result _ _
          (λ now owned. IsOwnedBy-after owner land mid new first
          (IsOwnedBy-owned mid new later at now owner root.next owned))
          (rw (c.owner.ensures, c.next.ensures) at c.cow_node.ensures.owned);
    }

pub returns-clause-told : goal.returns-clause-told
returns-clause-told g c node there taken before log follows =
    let told_then = subst (λ (h : History). told c.visit.new.blocks.draft h c.args.way.now.address ≡ Some
    node) (sym c.visit.ensures.read.history) (ap (λ (d : Draft). told d (g.D.Disk.history c.args.disk.now)
    c.args.way.now.address) c.visit.ensures.read.draft ∙ there) in
    tells-owned _ (g.B.Book.follows before) c.args.book.now c.cow_node.new.book log node c.args.way.now.address
    c.args.land.now.space taken follows (fresh_at c.visit.new.blocks.draft c.args.way.now.address) c.cow_node.result
    c.cow_node.ensures.same (λ none. c.cow_node.ensures.told node told_then none taken before log follows)
    (λ none. IfOk-weaker c.cow_node.result _ _ (λ now owned. (owned.copied none).puts.free) c.cow_node.ensures.owned)

-- ---- where it fails

pub returns-in_err-visit-clause-fails : goal.returns-in_err-visit-clause-fails
returns-in_err-visit-clause-fails g c =
    let p = err_from_is_err_and c.from_residual.result c.from_residual.ensures.1 in
    let land = c.args.land.now in
    let mid : Ground = record land { blocks = c.visit.new.blocks } in
    let fault = c.in_err-visit.field-0.0 in
    let old = g.D.Disk.faults c.args.disk.now in
    rw (p.1, p.2) (record {
      sound = λ node there formed. unbroken-other (Unit {0}) ℕ fault (c.in_err-visit.ensures.sound node there formed);
      broken = λ events told_is. names-refused (Unit {0}) ℕ g.P.TreePart.tree c.args.tree.now land mid events
          c.args.way.now.expected c.args.way.now.address fault c.visit.ensures.read.draft
          (c.in_err-visit.ensures.broken events told_is);
      cause = cause-handed (Unit {0}) ℕ old old (g.D.Disk.faults c.visit.new.disk) fault (omega arith)
          c.in_err-visit.ensures.cause;
    })

pub returns-clause-fails : goal.returns-clause-fails
returns-clause-fails g c =
    let land = c.args.land.now in
    let at = c.args.way.now.address in
    let visited = c.in_ok-visit.ensures.visited in
    let read = c.visit.ensures.read in
    record {
      sound = λ node there formed. owned-unbroken c.cow_node.result c.visit.new.blocks.draft land.blocks.draft
          (g.D.Disk.history c.visit.new.disk) (g.D.Disk.history c.args.disk.now) at node read.draft read.history
          (λ some. (c.cow_node.ensures.same some).0) c.cow_node.ensures.fails.answers there;
      broken = λ events told_is. names-none c.cow_node.result
          (IsRefused g.P.TreePart.tree c.args.tree.now land c.cow_node.new.land events c.args.way.now.expected at)
          (owned-unbroken c.cow_node.result c.visit.new.blocks.draft land.blocks.draft
          (g.D.Disk.history c.visit.new.disk) (g.D.Disk.history c.args.disk.now) at visited.node read.draft read.history
          (λ some. (c.cow_node.ensures.same some).0) c.cow_node.ensures.fails.answers (visited.tells events told_is));
      cause = cause-last (g.D.Disk.faults c.args.disk.now) (g.D.Disk.faults c.visit.new.disk)
          (g.D.Disk.faults c.cow_node.new.disk) c.cow_node.result c.in_ok-visit.ensures.cause.fine
          c.cow_node.ensures.fails.cause;
    }

-- ---- what is left so

pub returns-in_err-visit-clause-rests : goal.returns-in_err-visit-clause-rests
returns-in_err-visit-clause-rests g c =
    let land = c.args.land.now in
    let read = c.visit.ensures.read in
    record {
      rests = Rests-draft land (record land { blocks = c.visit.new.blocks }) (g.D.Disk.history c.visit.new.disk)
          c.args.tree.now.next read.draft read.bound refl c.visit.ensures.readable.backed c.requires.editable.drafted;
      history = read.history;
      size = read.size;
    }

pub returns-clause-rests : goal.returns-clause-rests
returns-clause-rests g c =
    let land = c.args.land.now in
    let mid : Ground = record land { blocks = c.visit.new.blocks } in
    let next = c.args.tree.now.next in
    let later = g.D.Disk.history c.visit.new.disk in
    let read = c.visit.ensures.read in
    let first = Rests-draft land mid later next read.draft read.bound refl c.visit.ensures.readable.backed
    c.requires.editable.drafted in
    let second = rw c.next.ensures at c.cow_node.ensures.rests in
    record {
      rests = Rests-after land mid c.cow_node.new.land later (g.D.Disk.history c.cow_node.new.disk) next first
          second.rests;
      history = second.history ∙ read.history;
      size = second.size ∙ read.size;
    }

pub returns-clause-book : goal.returns-clause-book
returns-clause-book g c =
    let land = c.args.land.now in
    let mid : Ground = record land { blocks = c.visit.new.blocks } in
    let read = c.visit.ensures.read in
    record {
      stands = c.cow_node.ensures.book.stands;
      settled = λ settled. c.cow_node.ensures.book.settled
          (g.met.B.Book.keeps c.args.book.now land mid c.args.disk.now c.visit.new.disk read.history refl
          (KeepsLevels-draft land mid read.draft) settled);
    }

-- ---- over any disk

pub returns-in_err-visit-clause-stops : goal.returns-in_err-visit-clause-stops
returns-in_err-visit-clause-stops g c =
    stops-visit c.from_residual.result c.in_err-visit.field-0.0 g.P.TreePart.tree c.args.tree.now
    c.args.land.now.blocks.draft (g.D.Disk.size c.args.disk.now) c.args.way.now.expected c.args.way.now.address
    c.from_residual.ensures.1 c.in_err-visit.ensures.stops

pub returns-clause-stops : goal.returns-clause-stops
returns-clause-stops g c =
    let mid = c.visit.new.blocks.draft in
    let read = c.visit.ensures.read in
    let held = g.D.Disk.size c.visit.new.disk in
    stops-same c.cow_node.result mid.sizes c.args.land.now.blocks.draft.sizes held (g.D.Disk.size c.args.disk.now)
    (ap (λ (d : Draft). d.sizes) read.draft) read.size
    c.cow_node.ensures.stops
