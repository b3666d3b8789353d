use Rattle.std.proofs.Common.{◌≡◌, ℕ, List, arith, sym, ap, subst}
use Rattle.std.specs.Prelude.{Option, Some, None}
use Rattle.std.proofs.lemmas.Result.{on_ok_weaker}
use Rattle.qg_node.specs.declared.item.Item.{Item}
use Rattle.qg_tree_edits.specs.declared.instead.Instead.{Instead}
use Rattle.qg_tree_edits.specs.Rooting.{StandsForRoot}
use Rattle.qg_tree_edits.specs.Steps.{FailsToRoot, RootsItems}
use Rattle.qg_tree_edits.proofs.Naming.{names-none}
use Rattle.qg_tree_edits.specs.Failing.{CantGrow}
use Rattle.qg_tree_edits.proofs.rooting.set_root.Goals as goal

-- what stands behind is known
instead_is : (instead : Instead) (o : Option ℕ) → instead.more ≡ o → instead ≡ record instead { more = o }
instead_is instead o is = ap (λ (x : Option ℕ). record instead { more = x }) is

-- ---- a node stands behind

pub returns-in-Some-clause-root : goal.returns-in-Some-clause-root
returns-in-Some-clause-root g c = rw c.in-Some.is c.grow.ensures.root

pub returns-in-Some-clause-rooted : goal.returns-in-Some-clause-rooted
returns-in-Some-clause-rooted g c =
    let tree = g.P.TreePart.tree in
    let root = c.args.tree.now in
    let land = c.args.land.now in
    let history = g.D.Disk.history c.args.disk.now in
    subst (λ (i : Instead). (items : List Item) → StandsForRoot tree root land history i items
    → RootsItems g.B.Book.follows tree root c.grow.new.tree land c.grow.new.land history i items c.args.book.now
    c.grow.new.book c.grow.result)
    (sym (instead_is c.args.instead (Some c.in-Some.more) c.in-Some.is)) c.grow.ensures.rooted

pub returns-in-Some-clause-fails : goal.returns-in-Some-clause-fails
returns-in-Some-clause-fails g c =
    subst (λ (i : Instead). FailsToRoot g.P.TreePart.tree c.args.tree.now c.args.land.now c.grow.new.land
    (g.D.Disk.history c.args.disk.now) i (g.D.Disk.faults c.args.disk.now) (g.D.Disk.faults c.grow.new.disk)
    c.grow.result) (sym (instead_is c.args.instead (Some c.in-Some.more) c.in-Some.is)) c.grow.ensures.fails

-- ---- one node stands there

pub returns-in-None-clause-root : goal.returns-in-None-clause-root
returns-in-None-clause-root g c =
    let set = c.shrink.ensures.root in
    rw c.in-None.is (record {
      stays = set.stays;
      count = on_ok_weaker c.shrink.result (λ few. omega (arith, few)) set.count;
      owners = set.owners;
      err = set.err;
    })

pub returns-in-None-clause-rooted : goal.returns-in-None-clause-rooted
returns-in-None-clause-rooted g c =
    let tree = g.P.TreePart.tree in
    let root = c.args.tree.now in
    let land = c.args.land.now in
    let history = g.D.Disk.history c.args.disk.now in
    subst (λ (i : Instead). (items : List Item) → StandsForRoot tree root land history i items
    → RootsItems g.B.Book.follows tree root c.shrink.new.tree land c.shrink.new.land history i items c.args.book.now
    c.shrink.new.book c.shrink.result)
    (sym (instead_is c.args.instead None c.in-None.is)) c.shrink.ensures.rooted

pub returns-in-None-clause-fails : goal.returns-in-None-clause-fails
returns-in-None-clause-fails g c =
    let fails = c.shrink.ensures.fails in
    record {
      sound = λ events told_is items stands low. fails.sound events told_is;
      broken = λ events told_is. names-none c.shrink.result (CantGrow c.args.tree.now c.shrink.new.land)
          (fails.sound events told_is);
      cause = fails.cause;
    }

-- ---- over any disk

pub returns-in-Some-clause-stops : goal.returns-in-Some-clause-stops
returns-in-Some-clause-stops g c = c.grow.ensures.stops

pub returns-in-None-clause-stops : goal.returns-in-None-clause-stops
returns-in-None-clause-stops g c = c.shrink.ensures.stops
