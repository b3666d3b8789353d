use Rattle.std.proofs.Common.{ℕ, List, sym, subst, ◌∙◌}
use Rattle.qg_node_alloc.proofs.Editing.{ArePlaced-drafted}
use Rattle.qg_qgroup_counts.specs.declared.surveyed.Surveyed.{Surveyed}
use Rattle.qg_subvolumes.proofs.Resting.{unbroken-handed}
use Rattle.qg_subvolumes.proofs.Stepping.{edit-still, rests-read}
use Rattle.qg_subvolumes.proofs.WayToRoot.{tells-held}
use Rattle.qg_survey.specs.Surveying.{AreRead}
use Rattle.qg_survey.proofs.TreesRead.{all-read, marks-told, once-read, read-none, trees-lead, trees-next}
use Rattle.qg_survey.proofs.Ordered.{links-are}
use Rattle.std.proofs.Common.{refl}
use Rattle.qg_blocks.proofs.Stopping.{stops-err}
use Rattle.qg_survey.proofs.surveying.survey.Goals as goal

pub survey_trees-surveyed-requires : goal.survey_trees-surveyed-requires
survey_trees-surveyed-requires g c = record {
  readable = record {
    backed = c.requires.editable.backed;
    placed = ArePlaced-drafted c.args.land.now c.args.book.now.next (g.D.Disk.size c.args.disk.now)
        c.requires.editable.room c.requires.editable.drafted;
  };
}

pub returns-in_err-surveyed-clause-sound : goal.returns-in_err-surveyed-clause-sound
returns-in_err-surveyed-clause-sound g c state events told holds same =
    let history = g.D.Disk.history c.args.disk.now in
    let ground = c.requires.editable.drafted.sizes in
    let tells = tells-held c.args.land.now history c.args.book.now state holds ground in
    unbroken-handed c.from_residual.result _ c.from_residual.ensures.1
    (c.in_err-surveyed.ensures.sound state
    (trees-next c.args.land.now history c.args.book.now state holds ground c.args.trees.now same) tells
    (trees-lead c.args.land.now history c.args.book.now state holds ground c.args.trees.now same))

pub returns-in_err-surveyed-clause-reads : goal.returns-in_err-surveyed-clause-reads
returns-in_err-surveyed-clause-reads g c state holds same =
    let history = g.D.Disk.history c.args.disk.now in
    let ground = c.requires.editable.drafted.sizes in
    let tells = tells-held c.args.land.now history c.args.book.now state holds ground in
    let none : AreRead state c.new-links.result.entries
    = subst (λ (l : List (ℕ × Surveyed)). AreRead state l) (sym c.new-links.ensures.empty) (read-none state) in
    let own = c.survey_trees-surveyed.ensures.surveyed state tells
    (marks-told c.args.land.now history c.args.book.now state holds ground c.refs.result.now c.refs.ensures)
    (trees-lead c.args.land.now history c.args.book.now state holds ground c.args.trees.now same) none in
    once-read c.args.land.now history c.args.book.now state holds ground c.new-links.result.entries
    c.survey_trees-surveyed.new.links.entries c.args.reads.now c.survey_trees-surveyed.new.reads own.0
    c.len-count.ensures.ordered

pub returns-in_err-surveyed-clause-editable : goal.returns-in_err-surveyed-clause-editable
returns-in_err-surveyed-clause-editable g c =
    let made = c.survey_trees-surveyed.ensures in
    let rests = rests-read c.args.land.now c.survey_trees-surveyed.new.blocks
    (g.D.Disk.history c.survey_trees-surveyed.new.disk) c.args.book.now.next made.read.draft made.read.bound
    made.readable.backed c.requires.editable.drafted in
    edit-still c.args.land.now (record c.args.land.now { blocks = c.survey_trees-surveyed.new.blocks })
    (g.D.Disk.history c.args.disk.now) (g.D.Disk.history c.survey_trees-surveyed.new.disk)
    (g.D.Disk.size c.args.disk.now)
    (g.D.Disk.size c.survey_trees-surveyed.new.disk) c.args.book.now.next c.requires.editable made.read.size rests

pub returns-in_err-list_of-clause-reads : goal.returns-in_err-list_of-clause-reads
returns-in_err-list_of-clause-reads g c state holds same =
    let history = g.D.Disk.history c.args.disk.now in
    let ground = c.requires.editable.drafted.sizes in
    let tells = tells-held c.args.land.now history c.args.book.now state holds ground in
    let none : AreRead state c.new-links.result.entries
    = subst (λ (l : List (ℕ × Surveyed)). AreRead state l) (sym c.new-links.ensures.empty) (read-none state) in
    let own = c.survey_trees-surveyed.ensures.surveyed state tells
    (marks-told c.args.land.now history c.args.book.now state holds ground c.refs.result.now c.refs.ensures)
    (trees-lead c.args.land.now history c.args.book.now state holds ground c.args.trees.now same) none in
    once-read c.args.land.now history c.args.book.now state holds ground c.new-links.result.entries
    c.survey_trees-surveyed.new.links.entries c.args.reads.now c.survey_trees-surveyed.new.reads own.0
    c.len-count.ensures.ordered

pub returns-in_err-list_of-clause-editable : goal.returns-in_err-list_of-clause-editable
returns-in_err-list_of-clause-editable g c =
    let made = c.survey_trees-surveyed.ensures in
    let rests = rests-read c.args.land.now c.survey_trees-surveyed.new.blocks
    (g.D.Disk.history c.survey_trees-surveyed.new.disk) c.args.book.now.next made.read.draft made.read.bound
    made.readable.backed c.requires.editable.drafted in
    edit-still c.args.land.now (record c.args.land.now { blocks = c.survey_trees-surveyed.new.blocks })
    (g.D.Disk.history c.args.disk.now) (g.D.Disk.history c.survey_trees-surveyed.new.disk)
    (g.D.Disk.size c.args.disk.now)
    (g.D.Disk.size c.survey_trees-surveyed.new.disk) c.args.book.now.next c.requires.editable made.read.size rests

pub returns-clause-surveyed : goal.returns-clause-surveyed
returns-clause-surveyed g c state holds same =
    let history = g.D.Disk.history c.args.disk.now in
    let ground = c.requires.editable.drafted.sizes in
    let tells = tells-held c.args.land.now history c.args.book.now state holds ground in
    let none : AreRead state c.new-links.result.entries
    = subst (λ (l : List (ℕ × Surveyed)). AreRead state l) (sym c.new-links.ensures.empty) (read-none state) in
    let own = c.in_ok-surveyed.ensures.surveyed state tells
    (marks-told c.args.land.now history c.args.book.now state holds ground c.refs.result.now c.refs.ensures)
    (trees-lead c.args.land.now history c.args.book.now state holds ground c.args.trees.now same) none in
    c.in_ok-list_of.ensures
    ∙ links-are state c.survey_trees-surveyed.new.links.entries own.0.read
    (all-read c.args.land.now history c.args.book.now state holds ground c.args.trees.now same
    c.new-links.result.entries c.survey_trees-surveyed.new.links.entries c.args.reads.now
    c.survey_trees-surveyed.new.reads own.1) c.len-count.ensures.ordered holds.whole.ascending

pub returns-clause-reads : goal.returns-clause-reads
returns-clause-reads g c state holds same =
    let history = g.D.Disk.history c.args.disk.now in
    let ground = c.requires.editable.drafted.sizes in
    let tells = tells-held c.args.land.now history c.args.book.now state holds ground in
    let none : AreRead state c.new-links.result.entries
    = subst (λ (l : List (ℕ × Surveyed)). AreRead state l) (sym c.new-links.ensures.empty) (read-none state) in
    let own = c.survey_trees-surveyed.ensures.surveyed state tells
    (marks-told c.args.land.now history c.args.book.now state holds ground c.refs.result.now c.refs.ensures)
    (trees-lead c.args.land.now history c.args.book.now state holds ground c.args.trees.now same) none in
    once-read c.args.land.now history c.args.book.now state holds ground c.new-links.result.entries
    c.survey_trees-surveyed.new.links.entries c.args.reads.now c.survey_trees-surveyed.new.reads own.0
    c.len-count.ensures.ordered

pub returns-clause-editable : goal.returns-clause-editable
returns-clause-editable g c =
    let made = c.survey_trees-surveyed.ensures in
    let rests = rests-read c.args.land.now c.survey_trees-surveyed.new.blocks
    (g.D.Disk.history c.survey_trees-surveyed.new.disk) c.args.book.now.next made.read.draft made.read.bound
    made.readable.backed c.requires.editable.drafted in
    edit-still c.args.land.now (record c.args.land.now { blocks = c.survey_trees-surveyed.new.blocks })
    (g.D.Disk.history c.args.disk.now) (g.D.Disk.history c.survey_trees-surveyed.new.disk)
    (g.D.Disk.size c.args.disk.now)
    (g.D.Disk.size c.survey_trees-surveyed.new.disk) c.args.book.now.next c.requires.editable made.read.size rests

-- ---- over any disk

pub returns-in_err-surveyed-clause-stops : goal.returns-in_err-surveyed-clause-stops
returns-in_err-surveyed-clause-stops g c =
    let sizes = c.args.land.now.blocks.draft.sizes in
    let bytes = g.D.Disk.size c.args.disk.now in
    stops-err (Unit {0}) c.from_residual.result _ sizes sizes bytes bytes c.from_residual.ensures.1 refl refl
    c.in_err-surveyed.ensures.stops
