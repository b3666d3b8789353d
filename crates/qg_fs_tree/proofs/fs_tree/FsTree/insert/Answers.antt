use Rattle.std.proofs.Common.{ℕ, List, [], refl, subst, arith}
use Rattle.qg_tree_edits.specs.Edits.{with_item}
use Rattle.qg_tree_edits.proofs.Leaves.{ok-known}
use Rattle.qg_refs.specs.declared.kept.Kept.{Kept}
use Rattle.qg_extents.specs.Table.{IsTable}
use Rattle.qg_tree_backrefs.proofs.Stepping.{Follows-none}
use Rattle.qg_fs_tree.specs.declared.fs_tree.FsTree.{FsTree}
use Rattle.qg_fs_tree.proofs.Called.{IsEditedTo-called, fits-called, fitting-sound, fitting-stops}
use Rattle.std.specs.Prelude.{Err}
use Rattle.qg_num.specs.declared.rule.Rule.TheVariants.{Refs}
use Rattle.qg_blocks.proofs.Stopping.{misfit-refs, stops-at, stops-err}
use Rattle.qg_fs_tree.proofs.fs_tree.FsTree.insert.Goals as goal

pub returns-in_err-insert-clause-reads : goal.returns-in_err-insert-clause-reads
returns-in_err-insert-clause-reads g c =
    let most = c.insert.ensures.reads in
    omega (arith, most)

pub returns-clause-reads : goal.returns-clause-reads
returns-clause-reads g c =
    let most = c.insert.ensures.reads in
    omega (arith, most)

pub returns-clause-inserted : goal.returns-clause-inserted
returns-clause-inserted g c items names stands there named =
    let old = c.args.self.now in
    let new : FsTree = record {
      tree = c.insert.new.tree;
      others = old.others;
      land = c.insert.new.land;
      refs = c.insert.new.book;
    } in
    let history = g.D.Disk.history c.args.disk.now in
    let bytes = g.D.Disk.size c.args.disk.now in
    let met = c.in_ok-insert.ensures in
    let table = subst (λ (refs : List (ℕ × Kept)). IsTable refs) c.refs.ensures c.len-ascending.ensures.table in
    let made = met.inserted items stands.rooted there in
    let told = made.told old.refs [] (Follows-none old.refs) in
    let edited = IsEditedTo-called old new history bytes items
    (with_item (record { key = c.args.key; body = c.args.body }) items) names told.0
    c.requires.subvolume stands table told.2 told.1 (g.D.Disk.history c.insert.new.disk)
    (g.D.Disk.size c.insert.new.disk)
    1 made.replaced c.insert.ensures.rests refl met.tree.stays c.in_ok-insert.ensures.owners.each
    (met.book.settled (λ none. stands.settled))
    (subst (λ (refs : List (ℕ × Kept)). IsTable refs) c.refs-2.ensures c.len-ascending_still.ensures.table) named in
    ok-known _ c.fitting.result edited

pub returns-clause-sound : goal.returns-clause-sound
returns-clause-sound g c events is items names stands there room =
    let old = c.args.self.now in
    let new : FsTree = record {
      tree = c.insert.new.tree;
      others = old.others;
      land = c.insert.new.land;
      refs = c.insert.new.book;
    } in
    let history = g.D.Disk.history c.args.disk.now in
    let bytes = g.D.Disk.size c.args.disk.now in
    let table = subst (λ (refs : List (ℕ × Kept)). IsTable refs) c.refs.ensures c.len-ascending.ensures.table in
    let told = (c.in_ok-insert.ensures.inserted items stands.rooted there).told old.refs [] (Follows-none old.refs) in
    let fits = fits-called old new history bytes items items names told.0 c.requires.subvolume stands table told.2
    told.1
    in
    fitting-sound new.refs.misfit c.fitting.result c.fitting.ensures fits

-- ---- over any disk

pub returns-in_err-roomy-clause-stops : goal.returns-in_err-roomy-clause-stops
returns-in_err-roomy-clause-stops g c =
    let sizes = c.args.self.now.land.blocks.draft.sizes in
    let bytes = g.D.Disk.size c.args.disk.now in
    let fault = c.in_err-roomy.field-0.0 in
    stops-err (Unit {0}) c.from_residual.result fault sizes sizes bytes bytes c.from_residual.ensures.1 refl refl
    (stops-at {A = Unit {0}} (Err fault) Refs c.args.self.now.tree.address sizes bytes misfit-refs
    c.in_err-roomy.ensures.only)

pub returns-in_err-insert-clause-stops : goal.returns-in_err-insert-clause-stops
returns-in_err-insert-clause-stops g c =
    let residual = c.from_residual-in_err-insert in
    let sizes = c.args.self.now.land.blocks.draft.sizes in
    let bytes = g.D.Disk.size c.args.disk.now in
    stops-err (Unit {0}) residual.result c.in_err-insert.field-0.0 sizes sizes bytes bytes residual.ensures.1 refl refl
    c.in_err-insert.ensures.stops

pub returns-clause-stops : goal.returns-clause-stops
returns-clause-stops g c =
    fitting-stops c.insert.new.book.misfit c.fitting.result c.args.self.now.land.blocks.draft.sizes
    (g.D.Disk.size c.args.disk.now) c.fitting.ensures
