use Rattle.std.proofs.Common.{List, ℕ, map, sym, ap, subst, ◌∙◌}
use Rattle.std.specs.List.Sorted.{IsStrictlyIncreasing}
use Rattle.qg_refs.specs.declared.kept.Kept.{Kept as Reference}
use Rattle.qg_extents.specs.Table.{IsTable}
use Rattle.qg_qgroup_counts.specs.declared.surveyed.Surveyed.{Surveyed}
use Rattle.qg_open_image.proofs.PiecesRead.{handed}
use Rattle.qg_open_image.proofs.WholeFile.{handed-sound}
use Rattle.qg_open_image.specs.FsLawsKeeping.{other_names}
use Rattle.qg_image_commits.specs.Planning.{root_of_tree}
use Rattle.qg_image_commits.proofs.ByNumber.{trees-are}
use Rattle.qg_image_commits.proofs.Cleaned.{looked-nothing, surveyed-keeps, surveyed-looked}
use Rattle.qg_image_commits.proofs.OwnersNow.{does_own, owners-now}
use Rattle.qg_open_image.proofs.Stopped.{first-err}
use Rattle.qg_image_commits.proofs.ownership.owners.Goals as goal

pub owners_of-requires : goal.owners_of-requires
owners_of-requires g c =
    subst (λ (nodes : List Surveyed). IsStrictlyIncreasing (map (λ node. node.linked.address) nodes))
    (sym c.as_slice-4.ensures.value) c.in_ok-nodes.ensures.order.ascending

pub returns-clause-looked : goal.returns-clause-looked
returns-clause-looked g c =
    surveyed-looked c.args.kept.now c.survey_all.new.kept (g.D.Disk.history c.args.disk.now)
    (g.D.Disk.history c.survey_all.new.disk) (g.D.Disk.size c.args.disk.now) (g.D.Disk.size c.survey_all.new.disk)
    c.in_ok-nodes.ensures.looked

pub returns-in_err-nodes-clause-looked : goal.returns-in_err-nodes-clause-looked
returns-in_err-nodes-clause-looked g c =
    surveyed-looked c.args.kept.now c.survey_all.new.kept (g.D.Disk.history c.args.disk.now)
    (g.D.Disk.history c.survey_all.new.disk) (g.D.Disk.size c.args.disk.now) (g.D.Disk.size c.survey_all.new.disk)
    c.in_err-nodes.ensures.looked

pub returns-in_err-trees-clause-looked : goal.returns-in_err-trees-clause-looked
returns-in_err-trees-clause-looked g c =
    looked-nothing c.args.kept.now (g.D.Disk.history c.args.disk.now) (g.D.Disk.size c.args.disk.now)

pub returns-in_err-nodes-clause-sound : goal.returns-in_err-nodes-clause-sound
returns-in_err-nodes-clause-sound g c = λ state events told keeps.
    let table = subst (λ (book : List (ℕ × Reference)). IsTable book) c.refs.ensures c.len-ascending.ensures.table in
    handed-sound (List Surveyed) c.from_residual-in_err-nodes.result _
    (handed c.from_residual-in_err-nodes.result _ c.from_residual-in_err-nodes.ensures.1)
    (c.in_err-nodes.ensures.sound state events (other_names state) told keeps
    (c.as_slice.ensures.value
    ∙ trees-are c.args.kept.now (g.D.Disk.history c.args.disk.now) (g.D.Disk.size c.args.disk.now) state
    (other_names state) c.in_ok-trees.trees.items c.requires.kept table keeps c.in_ok-trees.ensures.moved
    c.in_ok-trees.ensures.ascending))

pub returns-clause-step : goal.returns-clause-step
returns-clause-step g c = λ state keeps.
    let before = g.D.Disk.history c.args.disk.now in
    let after = g.D.Disk.history c.survey_all.new.disk in
    let bytes = g.D.Disk.size c.args.disk.now in
    let table = subst (λ (book : List (ℕ × Reference)). IsTable book) c.refs.ensures c.len-ascending.ensures.table in
    let are = trees-are c.args.kept.now before bytes state (other_names state) c.in_ok-trees.trees.items c.requires.kept
    table keeps c.in_ok-trees.ensures.moved c.in_ok-trees.ensures.ascending in
    let nodes = c.in_ok-nodes.ensures.surveyed state (other_names state) keeps (c.as_slice.ensures.value ∙ are) in
    does_own c.survey_all.new.kept state after c.args.address c.in_ok-owners.owners
    (surveyed-keeps c.args.kept.now c.survey_all.new.kept before after bytes (g.D.Disk.size c.survey_all.new.disk)
    c.in_ok-nodes.ensures.looked state (other_names state) keeps)
    (owners-now c.args.kept.now before bytes state (other_names state) c.requires.kept table keeps c.args.address
    c.as_slice-3.result.now c.as_slice-4.result.now c.in_ok-owners.owners
    (c.as_slice-3.ensures ∙ c.in_ok-roots.ensures ∙ ap (map root_of_tree) (c.as_slice-2.ensures.value ∙ are))
    (c.as_slice-4.ensures.value ∙ nodes) c.in_ok-owners.ensures)

-- ---- over any disk

pub returns-in_err-nodes-clause-stops : goal.returns-in_err-nodes-clause-stops
returns-in_err-nodes-clause-stops g c =
    let residual = c.from_residual-in_err-nodes in
    first-err (List Surveyed) residual.result c.in_err-nodes.field-0.0 c.args.kept.now
    (g.D.Disk.size c.args.disk.now) residual.ensures.1 c.in_err-nodes.ensures.stops
