use Rattle.std.proofs.Common.{◌≡◌, ◌+◌, ◌*◌, ◌++◌, ℕ, suc, append_assoc, arith, sym, ap, subst, ◌∙◌, inr}
use Rattle.std.proofs.lemmas.Result.{on_ok_weaker}
use Rattle.std.specs.Prelude.{List, None}
use Rattle.qg_num.specs.declared.fault.BlockFault.{BlockFault}
use Rattle.qg_device.specs.History.{History}
use Rattle.qg_blocks.specs.NodesFound.{told}
use Rattle.qg_edit.specs.Edits.{growth_of}
use Rattle.qg_tree_edits.specs.First.{leaves, leaves_behind}
use Rattle.qg_tree_edits.specs.Editing.{IsPartEdited, IsPartFit}
use Rattle.qg_node_alloc.specs.Tellings.{Telling}
use Rattle.qg_tree_edits.specs.Counting.{IsPartTold, IsRootTold}
use Rattle.qg_tree_edits.specs.Rooting.{HasRoot, StandsForRoot}
use Rattle.qg_tree_edits.proofs.Replaced.{done-both, edited-root, fit-root, low-root, stands-root, told-root}
use Rattle.qg_node_alloc.proofs.Owners.{IsOwnedBy-after}
use Rattle.qg_tree_edits.proofs.Naming.{names-other, names-weaker}
use Rattle.qg_tree_edits.proofs.Rejoined.{unbroken-other}
use Rattle.qg_device.proofs.Causes.{cause-handed, cause-last}
use Rattle.qg_tree_edits.proofs.Unfit.{unfit-under}
use Rattle.qg_tree_edits.specs.Failing.{CantGrow, FailsUnder, IsUnfit}
use Rattle.qg_tree_edits.specs.declared.instead.Instead.{Instead}
use Rattle.std.proofs.lemmas.Result.{err_from_is_err_and}
use Rattle.std.proofs.Common.{refl}
use Rattle.qg_blocks.proofs.Stopping.{stops-err}
use Rattle.qg_tree_edits.proofs.Stopped.{stops-after}
use Rattle.qg_tree_edits.proofs.changing.edit_tree.Goals as goal

pub returns-in_err-instead-clause-reads : goal.returns-in_err-instead-clause-reads
returns-in_err-instead-clause-reads g c =
    let low = c.edit_under.ensures.reads in
    let level = c.height-level.ensures in
    omega (arith, low, level)

pub returns-clause-reads : goal.returns-clause-reads
returns-clause-reads g c =
    let low = c.edit_under.ensures.reads in
    let last = c.set_root.ensures.reads in
    let level = c.height-level.ensures in
    omega (arith, low, last, level)

-- ---- where the disk tells a tree

pub returns-in_err-instead-clause-edited : goal.returns-in_err-instead-clause-edited
returns-in_err-instead-clause-edited g c items rooted can =
    let p = err_from_is_err_and c.from_residual.result c.from_residual.ensures.1 in
    rw (p.1, p.2) (record { edited = tt; leaves = λ first clear. tt; told = λ start log follows. tt })

pub returns-clause-edited : goal.returns-clause-edited
returns-clause-edited g c items rooted can =
    let tree = g.P.TreePart.tree in
    let root = c.args.tree.now in
    let after = c.set_root.new.tree in
    let land = c.args.land.now in
    let mid = c.edit_under.new.land in
    let new = c.set_root.new.land in
    let edit = c.args.edit in
    let way = c.way-way.result in
    let expects = c.way-way.ensures.expected in
    let there = c.way-way.ensures.address in
    let level = c.height-level.ensures in
    let instead = c.in_ok-instead.instead in
    let history = g.D.Disk.history c.args.disk.now in
    let later = g.D.Disk.history c.edit_under.new.disk in
    let rests = c.edit_under.ensures.rests in
    let same : later ≡ history = rests.history in
    let drafted = c.requires.ready.0.editable.drafted in
    let short = c.requires.ready.1 in
    let fit = fit-root tree root land history edit items rooted can way.expected way.address expects there in
    let fit_there = subst (λ (n : ℕ). IsPartFit tree root land history n way.expected way.address edit items)
    (sym level) fit in
    let below = c.in_ok-instead.ensures.edited items fit_there in
    let part = subst (λ (n : ℕ). IsPartEdited tree root land mid history n way.address edit items instead) level
    below.edited in
    let stands = stands-root tree root land history edit items rooted can way.expected way.address expects there mid
    instead part drafted rests.rests.node_sizes short in
    let stands_then = subst (λ (h : History). StandsForRoot tree root mid h instead part.items_new)
    (sym same) stands in
    let above = c.set_root.ensures.rooted part.items_new stands_then in
    record {
      edited = on_ok_weaker c.set_root.result
          (λ has. edited-root tree root land history edit items rooted can way.expected way.address expects there mid
          instead part drafted rests.rests.node_sizes short new after
          (subst (λ (h : History). HasRoot tree root after mid new h instead part.items_new) same has))
          above.rooted;
      leaves = λ first clear.
          let none : instead.more ≡ None = c.in_ok-instead.ensures.part.whole (ap growth_of clear) in
          let cleared : leaves (told mid.blocks.draft history) root.height instead.now
          ≡ leaves_behind (leaves (told land.blocks.draft history) root.height root.address) =
          ap (λ (n : ℕ). leaves (told mid.blocks.draft history) n instead.now) (sym level)
          ∙ below.leaves first clear
          ∙ ap (λ (n : ℕ). leaves_behind (leaves (told land.blocks.draft history) n way.address)) level
          ∙ ap (λ (a : ℕ). leaves_behind (leaves (told land.blocks.draft history) root.height a)) there in
          on_ok_weaker c.set_root.result
          (λ kept. subst (λ (h : History). leaves (told new.blocks.draft h) after.height after.address
          ≡ leaves (told mid.blocks.draft h) root.height instead.now) same kept ∙ cleared)
          (above.leaves none);
      told = λ start log follows.
          let first = below.told start log follows in
          let part_told = subst (λ (n : ℕ). IsPartTold land mid history n way.address instead first.0) level first.2 in
          done-both (Unit {0}) BlockFault c.set_root.result _ _ _
          (λ has last. (
            first.0 ++ last.0,
            subst (λ (l : List Telling). g.B.Book.follows start l c.set_root.new.book)
                (append_assoc log first.0 last.0) last.1,
            told-root tree root land history edit items rooted can way.expected way.address expects there mid instead
                part drafted rests.rests.node_sizes short new after
                (subst (λ (h : History). HasRoot tree root after mid new h instead part.items_new) same has)
                later rests.rests first.0 last.0 part_told
                (subst (λ (h : History). IsRootTold root after mid new h instead last.0) same last.2),
          ))
          above.rooted (above.told start (log ++ first.0) first.1);
    }

-- ---- where it fails

pub returns-in_err-instead-clause-fails : goal.returns-in_err-instead-clause-fails
returns-in_err-instead-clause-fails g c =
    let p = err_from_is_err_and c.from_residual.result c.from_residual.ensures.1 in
    let tree = g.P.TreePart.tree in
    let root = c.args.tree.now in
    let edit = c.args.edit in
    let land = c.args.land.now in
    let new = c.edit_under.new.land in
    let way = c.way-way.result in
    let expects = c.way-way.ensures.expected in
    let there = c.way-way.ensures.address in
    let level = c.height-level.result in
    let history = g.D.Disk.history c.args.disk.now in
    let fault = c.in_err-instead.field-0.0 in
    let fails = c.in_err-instead.ensures.fails in
    let faults = g.D.Disk.faults c.args.disk.now in
    rw (p.1, p.2) (record {
      sound = λ events told_is items rooted can.
          let fit = fit-root tree root land history edit items rooted can way.expected way.address expects there in
          let fit_there = subst (λ (n : ℕ). IsPartFit tree root land history n way.expected way.address edit items)
          (sym c.height-level.ensures) fit in
          unbroken-other Instead (Unit {0}) fault (fails.sound events told_is items fit_there);
      broken = λ events told_is. names-other Instead (Unit {0}) fault
          (FailsUnder tree root edit events level way.expected way.address land new)
          (IsUnfit tree root edit land new events)
          (λ rule address bad. unfit-under tree root edit events level way.expected way.address land new rule address
          c.height-level.ensures expects there bad)
          (fails.broken events told_is);
      cause = cause-handed Instead (Unit {0}) faults faults (g.D.Disk.faults c.edit_under.new.disk) fault (omega arith)
          fails.cause;
    })

pub returns-clause-fails : goal.returns-clause-fails
returns-clause-fails g c =
    let tree = g.P.TreePart.tree in
    let root = c.args.tree.now in
    let edit = c.args.edit in
    let land = c.args.land.now in
    let mid = c.edit_under.new.land in
    let new = c.set_root.new.land in
    let way = c.way-way.result in
    let expects = c.way-way.ensures.expected in
    let there = c.way-way.ensures.address in
    let level = c.height-level.ensures in
    let instead = c.in_ok-instead.instead in
    let history = g.D.Disk.history c.args.disk.now in
    let rests = c.edit_under.ensures.rests in
    let drafted = c.requires.ready.0.editable.drafted in
    let fails = c.set_root.ensures.fails in
    record {
      sound = λ events told_is items rooted can.
          let fit = fit-root tree root land history edit items rooted can way.expected way.address expects there in
          let fit_there = subst (λ (n : ℕ). IsPartFit tree root land history n way.expected way.address edit items)
          (sym level) fit in
          let part = subst (λ (n : ℕ). IsPartEdited tree root land mid history n way.address edit items instead) level
          (c.in_ok-instead.ensures.edited items fit_there).edited in
          let stands = stands-root tree root land history edit items rooted can way.expected way.address expects there
          mid instead part drafted rests.rests.node_sizes c.requires.ready.1 in
          let stands_then = subst (λ (h : History). StandsForRoot tree root mid h instead part.items_new)
          (sym rests.history) stands in
          fails.sound events (rests.history ∙ told_is) part.items_new stands_then
          (low-root tree root land history items drafted rooted);
      broken = λ events told_is. names-weaker c.set_root.result (CantGrow root new)
          (IsUnfit tree root edit land new events) (λ rule address bad. record { is = inr bad })
          (fails.broken events (rests.history ∙ told_is));
      cause = cause-last (g.D.Disk.faults c.args.disk.now) (g.D.Disk.faults c.edit_under.new.disk)
          (g.D.Disk.faults c.set_root.new.disk) c.set_root.result c.in_ok-instead.ensures.fails.cause.fine fails.cause;
    }

-- ---- what is left so

pub returns-clause-owners : goal.returns-clause-owners
returns-clause-owners g c =
    on_ok_weaker c.set_root.result
    (λ last. IsOwnedBy-after c.args.tree.now.owner c.args.land.now c.edit_under.new.land c.set_root.new.land
    c.in_ok-instead.ensures.part.owners last)
    c.set_root.ensures.root.owners

pub returns-in_err-instead-clause-book : goal.returns-in_err-instead-clause-book
returns-in_err-instead-clause-book g c =
    let p = err_from_is_err_and c.from_residual.result c.from_residual.ensures.1 in
    rw (p.1, p.2) (record { stands = tt; settled = λ settled. tt })

pub returns-clause-book : goal.returns-clause-book
returns-clause-book g c =
    let book = c.set_root.ensures.book in
    record { stands = book.stands; settled = λ settled. book.settled (c.in_ok-instead.ensures.book.settled settled) }

-- ---- over any disk

pub returns-in_err-instead-clause-stops : goal.returns-in_err-instead-clause-stops
returns-in_err-instead-clause-stops g c =
    let sizes = c.args.land.now.blocks.draft.sizes in
    let bytes = g.D.Disk.size c.args.disk.now in
    stops-err Instead c.from_residual.result c.in_err-instead.field-0.0 sizes sizes bytes bytes
    c.from_residual.ensures.1 refl refl c.in_err-instead.ensures.stops

pub returns-clause-stops : goal.returns-clause-stops
returns-clause-stops g c = stops-after c.set_root.result c.edit_under.ensures.rests c.set_root.ensures.stops
