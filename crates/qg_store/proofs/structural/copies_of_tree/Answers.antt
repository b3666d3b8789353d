use Rattle.std.proofs.Common.{◌+◌, ℕ, ap, subst}
use Rattle.qg_extents.specs.Table.{IsTable}
use Rattle.qg_image_commits.proofs.PiecesRead.{handed}
use Rattle.qg_image_commits.proofs.WholeFile.{handed-sound}
use Rattle.qg_image_commits.proofs.Runs.{state-held}
use Rattle.qg_image_commits.specs.FsLawsKeeping.{other_names}
use Rattle.qg_image_commits.proofs.Looked.{hand-among, is-subvolume, kept-looked, looked-land}
use Rattle.qg_image_commits.proofs.Stepped.{tree-kept}
use Rattle.qg_image_commits.proofs.Tables.{key-of-value}
use Rattle.qg_image_changes.proofs.Trees.{tree-is}
use Rattle.qg_image_commits.proofs.Stopped.{first-err}
use Rattle.qg_store.proofs.structural.copies_of_tree.Goals as goal

pub count_nodes-requires : goal.count_nodes-requires
count_nodes-requires g c = record {
  editable = (is-subvolume c.args.kept.now (g.D.Disk.history c.args.disk.now) (g.D.Disk.size c.args.disk.now)
      c.requires.kept).editable;
}

pub returns-in_err-nodes-clause-sound : goal.returns-in_err-nodes-clause-sound
returns-in_err-nodes-clause-sound g c = λ state events told keeps.
    let kept = c.args.kept.now in
    let history = g.D.Disk.history c.args.disk.now in
    let bytes = g.D.Disk.size c.args.disk.now in
    handed-sound ℕ c.from_residual.result _ (handed c.from_residual.result _ c.from_residual.ensures.1)
    (c.in_err-nodes.ensures.sound state kept.fs.refs events told
    (state-held kept.fs history bytes state keeps.mine keeps.files
    (tree-kept kept state history bytes c.requires.kept keeps
    (subst IsTable c.refs.ensures c.len-ascending.ensures.table)) keeps.keeps)
    (key-of-value kept.fs.tree.owner state.subvolumes keeps.mine keeps.keeps.there)
    (tree-is kept history bytes state (other_names state) c.requires.kept keeps kept.fs.tree (hand-among kept.fs)))

pub returns-clause-counted : goal.returns-clause-counted
returns-clause-counted g c = λ state keeps.
    let kept = c.args.kept.now in
    let history = g.D.Disk.history c.args.disk.now in
    let bytes = g.D.Disk.size c.args.disk.now in
    ap (λ (n : ℕ). 18 + n)
    (c.in_ok-nodes.ensures.counted state kept.fs.refs
    (state-held kept.fs history bytes state keeps.mine keeps.files
    (tree-kept kept state history bytes c.requires.kept keeps
    (subst IsTable c.refs.ensures c.len-ascending.ensures.table)) keeps.keeps)
    (key-of-value kept.fs.tree.owner state.subvolumes keeps.mine keeps.keeps.there)
    (tree-is kept history bytes state (other_names state) c.requires.kept keeps kept.fs.tree (hand-among kept.fs)))

pub returns-in_err-nodes-clause-looked : goal.returns-in_err-nodes-clause-looked
returns-in_err-nodes-clause-looked g c =
    looked-land c.args.kept.now c.count_nodes.new.land _ _ _ _ c.in_err-nodes.ensures.read c.in_err-nodes.ensures.space

pub returns-in_err-nodes-clause-kept : goal.returns-in_err-nodes-clause-kept
returns-in_err-nodes-clause-kept g c =
    kept-looked c.args.kept.now _ _ _ _ _ c.requires.kept
    (looked-land c.args.kept.now c.count_nodes.new.land _ _ _ _ c.in_err-nodes.ensures.read
    c.in_err-nodes.ensures.space)
    c.in_err-nodes.ensures.editable.backed

pub returns-then-nodes-gt-MOST_NODES-clause-looked : goal.returns-then-nodes-gt-MOST_NODES-clause-looked
returns-then-nodes-gt-MOST_NODES-clause-looked g c =
    looked-land c.args.kept.now c.count_nodes.new.land _ _ _ _ c.in_ok-nodes.ensures.read c.in_ok-nodes.ensures.space

pub returns-then-nodes-gt-MOST_NODES-clause-kept : goal.returns-then-nodes-gt-MOST_NODES-clause-kept
returns-then-nodes-gt-MOST_NODES-clause-kept g c =
    kept-looked c.args.kept.now _ _ _ _ _ c.requires.kept
    (looked-land c.args.kept.now c.count_nodes.new.land _ _ _ _ c.in_ok-nodes.ensures.read c.in_ok-nodes.ensures.space)
    c.in_ok-nodes.ensures.editable.backed

pub returns-clause-looked : goal.returns-clause-looked
returns-clause-looked g c =
    looked-land c.args.kept.now c.count_nodes.new.land _ _ _ _ c.in_ok-nodes.ensures.read c.in_ok-nodes.ensures.space

pub returns-clause-kept : goal.returns-clause-kept
returns-clause-kept g c =
    kept-looked c.args.kept.now _ _ _ _ _ c.requires.kept
    (looked-land c.args.kept.now c.count_nodes.new.land _ _ _ _ c.in_ok-nodes.ensures.read c.in_ok-nodes.ensures.space)
    c.in_ok-nodes.ensures.editable.backed

-- ---- over any disk

pub returns-in_err-nodes-clause-stops : goal.returns-in_err-nodes-clause-stops
returns-in_err-nodes-clause-stops g c =
    first-err ℕ c.from_residual.result _ c.args.kept.now (g.D.Disk.size c.args.disk.now) c.from_residual.ensures.1
    c.in_err-nodes.ensures.stops
