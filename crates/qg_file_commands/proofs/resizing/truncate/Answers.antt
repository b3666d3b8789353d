use Rattle.std.proofs.Common.{Some, ◌+◌, ◌*◌, ◌∙◌, ◌≤◌, ℕ, List, Option, ap, subst, sym, None, ◌≡◌}
use Rattle.std.specs.Option.{option_map}
use Rattle.qg_num.specs.declared.piece.Piece.{Piece}
use Rattle.qg_items.specs.declared.file.InodeItem.{InodeItem}
use Rattle.qg_root_items.specs.Written.{inode_of}
use Rattle.qg_image.specs.State.{State}
use Rattle.qg_image.specs.Table.{value_at}
use Rattle.qg_image.specs.Need.{file_copies}
use Rattle.qg_space.specs.Holding.{free_slots}
use Rattle.qg_open_image.proofs.PiecesRead.{handed}
use Rattle.qg_open_image.proofs.WholeFile.{handed-sound}
use Rattle.qg_open_image.specs.FsLawsKeeping.{other_names}
use Rattle.qg_open_image.specs.Editing.{HasReadNodes, size_refusal}
use Rattle.qg_open_image.specs.Keeping.{IsKeptOf, need_of}
use Rattle.qg_file_commands.proofs.Edited.{if-none, kept-edited}
use Rattle.qg_file_commands.proofs.Leaves.{copies-free}
use Rattle.qg_open_image.proofs.Looked.{holds-looked, is-subvolume, keeps-looked, looked-again, node-size, owner-read}
use Rattle.qg_file_commands.proofs.Reasons.{IsThere, missing-size, none-there, other-size, some-there, there-size}
use Rattle.qg_file_commands.proofs.Sized.{lacks-slots, refuses-size, sized}
use Rattle.qg_file_commands.proofs.Touched.{own-past}
use Rattle.qg_open_image.proofs.Turned.{same-read}
use Rattle.qg_image.specs.FilesOf.{largest_size}
use Rattle.qg_machine.specs.FileChange.{pieces_meeting, pieces_past}
use Rattle.qg_inodes.specs.PiecesWritten.{pieces_met}
use Rattle.qg_open_image.specs.Files.{HoldsFiles, pieces_of}
use Rattle.qg_file_commands.proofs.Asked.{cut-pieces, own-reads, past-read}
use Rattle.std.proofs.Common.{refl}
use Rattle.qg_open_image.proofs.Stopped.{turned-err}
use Rattle.qg_file_commands.proofs.resizing.truncate.Given.{Over}
use Rattle.qg_file_commands.proofs.resizing.truncate.Goals as goal
use Rattle.qg_file_commands.proofs.resizing.truncate.Goals.{In_ok-why}

pub no_nodes-requires : goal.no_nodes-requires
no_nodes-requires g c = record { size = node-size c.pieces_in.new.kept c.in_ok-met.ensures.kept.fitted }

pub truncate-requires-clause-subvolume : goal.truncate-requires-clause-subvolume
truncate-requires-clause-subvolume g c =
    is-subvolume c.pieces_in.new.kept (g.D.Disk.history c.pieces_in.new.disk) (g.D.Disk.size c.pieces_in.new.disk)
    c.in_ok-met.ensures.kept

pub returns-clause-kept : goal.returns-clause-kept
returns-clause-kept g c =
    kept-edited c.pieces_in.new.kept c.truncate.new.fs c.count_pending.new.kept (g.D.Disk.history c.pieces_in.new.disk)
    (g.D.Disk.history c.truncate.new.disk) (g.D.Disk.size c.pieces_in.new.disk) (g.D.Disk.size c.truncate.new.disk)
    c.in_ok-met.ensures.kept c.in_ok-truncate.ensures.leaves c.in_ok-truncate.ensures.own c.count_pending.ensures.rest

pub turn_to-requires : goal.turn_to-requires
turn_to-requires g c = record { fitted = c.requires.kept.fitted }

pub inode_in-requires : goal.inode_in-requires
inode_in-requires g c = record {
  kept = c.turn_to.ensures.kept (g.D.Disk.history c.args.disk.now) (g.D.Disk.size c.args.disk.now) c.requires.kept;
}

pub returns-then-not-turn_to-clause-kept : goal.returns-then-not-turn_to-clause-kept
returns-then-not-turn_to-clause-kept g c =
    c.turn_to.ensures.kept (g.D.Disk.history c.args.disk.now) (g.D.Disk.size c.args.disk.now) c.requires.kept

pub returns-then-not-turn_to-clause-step : goal.returns-then-not-turn_to-clause-step
returns-then-not-turn_to-clause-step g c = λ state keeps.
    let history = g.D.Disk.history c.args.disk.now in
    refuses-size c.turn_to.new.kept state history c.args.sub c.args.ino c.args.size _
    (c.turn_to.ensures.keeps state history (g.D.Disk.size c.args.disk.now) (other_names state) c.requires.kept keeps)
    (other-size c.args.kept.now state history keeps c.args.sub c.args.ino c.args.size
    (sym c.turn_to.ensures.there ∙ c.if-not-turn_to.true))

pub returns-then-not-turn_to-clause-unchanged : goal.returns-then-not-turn_to-clause-unchanged
returns-then-not-turn_to-clause-unchanged g c = λ is. c.turn_to.ensures.same

pub returns-in_default-clause-unchanged : goal.returns-in_default-clause-unchanged
returns-in_default-clause-unchanged g c = λ is.
    same-read c.args.kept.now c.turn_to.new.kept c.inode_in.new.kept _ _ _ _ c.turn_to.ensures.same
    c.in_ok-inode.ensures.looked

pub returns-in-Some-refusal_of_size-clause-unchanged : goal.returns-in-Some-refusal_of_size-clause-unchanged
returns-in-Some-refusal_of_size-clause-unchanged g c = λ is.
    same-read c.args.kept.now c.turn_to.new.kept c.inode_in.new.kept _ _ _ _ c.turn_to.ensures.same
    c.in_ok-inode.ensures.looked

pub returns-in-Some-2-clause-unchanged : goal.returns-in-Some-2-clause-unchanged
returns-in-Some-2-clause-unchanged g c = λ is.
    same-read c.args.kept.now c.turn_to.new.kept c.pieces_in.new.kept _ _ _ _ c.turn_to.ensures.same
    (looked-again c.turn_to.new.kept c.inode_in.new.kept c.pieces_in.new.kept _ _ _ _ _ _
    c.in_ok-inode.ensures.looked c.in_ok-met.ensures.looked)

pub returns-in_err-inode-clause-sound : goal.returns-in_err-inode-clause-sound
returns-in_err-inode-clause-sound g c = λ state events told given.
    let keeps = c.turn_to.ensures.keeps state (g.D.Disk.history c.args.disk.now) (g.D.Disk.size c.args.disk.now)
    (other_names state) c.requires.kept given in
    handed-sound (Option InodeItem) c.from_residual.result _
    (handed c.from_residual.result _ c.from_residual.ensures.1)
    (c.in_err-inode.ensures.sound keeps.files keeps.keeps.holds)

pub returns-in_default-clause-step : goal.returns-in_default-clause-step
returns-in_default-clause-step g c = λ state given.
    let keeps = c.turn_to.ensures.keeps state (g.D.Disk.history c.args.disk.now) (g.D.Disk.size c.args.disk.now)
    (other_names state) c.requires.kept given in
    let kept = c.turn_to.new.kept in
    let read = c.inode_in.new.kept in
    let before = g.D.Disk.history c.args.disk.now in
    let then = g.D.Disk.history c.inode_in.new.disk in
    let still = keeps-looked kept read before then (g.D.Disk.size c.args.disk.now) (g.D.Disk.size c.inode_in.new.disk)
    state (other_names state) c.in_ok-inode.ensures.looked keeps in
    let told = sym c.in_default.is ∙ c.in_ok-inode.ensures.found keeps.files keeps.keeps.holds in
    refuses-size read state then c.args.sub c.args.ino c.args.size _ still
    (ap (λ (sub : ℕ). size_refusal state sub c.args.ino c.args.size)
    (sym (c.turn_to.ensures.hand c.if-not-turn_to.false)
    ∙ owner-read kept read before then _ _ c.in_ok-inode.ensures.looked)
    ∙ missing-size read state then still c.args.ino c.args.size (none-there (value_at c.args.ino keeps.files) told))

pub returns-in-Some-refusal_of_size-clause-step : goal.returns-in-Some-refusal_of_size-clause-step
returns-in-Some-refusal_of_size-clause-step g c = λ state given.
    let keeps = c.turn_to.ensures.keeps state (g.D.Disk.history c.args.disk.now) (g.D.Disk.size c.args.disk.now)
    (other_names state) c.requires.kept given in
    let kept = c.turn_to.new.kept in
    let read = c.inode_in.new.kept in
    let before = g.D.Disk.history c.args.disk.now in
    let then = g.D.Disk.history c.inode_in.new.disk in
    let still = keeps-looked kept read before then (g.D.Disk.size c.args.disk.now) (g.D.Disk.size c.inode_in.new.disk)
    state (other_names state) c.in_ok-inode.ensures.looked keeps in
    let told = sym c.in-Some.is ∙ c.in_ok-inode.ensures.found keeps.files keeps.keeps.holds in
    let there = some-there (value_at c.args.ino keeps.files) c.in-Some.inode told in
    refuses-size read state then c.args.sub c.args.ino c.args.size c.in-Some-refusal_of_size.why still
    (ap (λ (sub : ℕ). size_refusal state sub c.args.ino c.args.size)
    (sym (c.turn_to.ensures.hand c.if-not-turn_to.false)
    ∙ owner-read kept read before then _ _ c.in_ok-inode.ensures.looked)
    ∙ there-size read state then still c.args.ino c.args.size there.file there.is
    ∙ sym c.in-Some-refusal_of_size.ensures.value)

pub returns-in_err-met-clause-sound : goal.returns-in_err-met-clause-sound
returns-in_err-met-clause-sound g c = λ state events told given.
    let keeps = c.turn_to.ensures.keeps state (g.D.Disk.history c.args.disk.now) (g.D.Disk.size c.args.disk.now)
    (other_names state) c.requires.kept given in
    handed-sound (List Piece) c.from_residual-in_err-met.result _
    (handed c.from_residual-in_err-met.result _ c.from_residual-in_err-met.ensures.1)
    (c.in_err-met.ensures.sound keeps.files
    (holds-looked c.turn_to.new.kept c.inode_in.new.kept _ _ _ _ keeps.files c.in_ok-inode.ensures.looked
    keeps.keeps.holds))

-- ---- what was read of the file, in a state that is kept

module _ (g : Over) (c : In_ok-why g) (state : State)
    (given : IsKeptOf c.args.kept.now state (g.D.Disk.history c.args.disk.now)) where
  abbrev turned : IsKeptOf c.turn_to.new.kept state (g.D.Disk.history c.args.disk.now)
  turned =
      c.turn_to.ensures.keeps state (g.D.Disk.history c.args.disk.now) (g.D.Disk.size c.args.disk.now)
      (other_names state) c.requires.kept given

  inode-told : Some c.in-Some.inode ≡ option_map inode_of (value_at c.args.ino turned.files)
  inode-told = sym c.in-Some.is ∙ c.in_ok-inode.ensures.found turned.files turned.keeps.holds

  there : IsThere (value_at c.args.ino turned.files) c.in-Some.inode
  there = some-there (value_at c.args.ino turned.files) c.in-Some.inode inode-told

  first-held : HoldsFiles c.inode_in.new.kept.fs (g.D.Disk.history c.inode_in.new.disk) turned.files
  first-held =
      holds-looked c.turn_to.new.kept c.inode_in.new.kept _ _ _ _ turned.files c.in_ok-inode.ensures.looked
      turned.keeps.holds

  met-pieces : c.in_ok-met.met ≡ pieces_met c.args.size largest_size (pieces_of c.args.ino turned.files)
  met-pieces = c.in_ok-met.ensures.found turned.files first-held

  many-pieces : c.len.result ≡ pieces_past c.args.size there.file.pieces
  many-pieces =
      c.len.ensures
      ∙ own-past c.args.ino there.file turned.files there.is c.args.size c.in_ok-met.met met-pieces
      turned.keeps.holds.writable

  looked : HasReadNodes c.turn_to.new.kept c.pieces_in.new.kept (g.D.Disk.history c.args.disk.now)
      (g.D.Disk.history c.pieces_in.new.disk) (g.D.Disk.size c.args.disk.now) (g.D.Disk.size c.pieces_in.new.disk)
  looked =
      looked-again c.turn_to.new.kept c.inode_in.new.kept c.pieces_in.new.kept _ _ _ _ _ _
      c.in_ok-inode.ensures.looked c.in_ok-met.ensures.looked

  abbrev still : IsKeptOf c.pieces_in.new.kept state (g.D.Disk.history c.pieces_in.new.disk)
  still =
      keeps-looked c.turn_to.new.kept c.pieces_in.new.kept (g.D.Disk.history c.args.disk.now)
      (g.D.Disk.history c.pieces_in.new.disk) (g.D.Disk.size c.args.disk.now) (g.D.Disk.size c.pieces_in.new.disk) state
      (other_names state) looked turned

  owner : c.args.sub ≡ c.pieces_in.new.kept.fs.tree.owner
  owner =
      sym (c.turn_to.ensures.hand c.if-not-turn_to.false)
      ∙ owner-read c.turn_to.new.kept c.pieces_in.new.kept (g.D.Disk.history c.args.disk.now)
      (g.D.Disk.history c.pieces_in.new.disk) (g.D.Disk.size c.args.disk.now) (g.D.Disk.size c.pieces_in.new.disk)
      looked

  passes : size_refusal state c.pieces_in.new.kept.fs.tree.owner c.args.ino c.args.size ≡ None
  passes =
      sym (ap (λ (sub : ℕ). size_refusal state sub c.args.ino c.args.size)
      (owner-read c.inode_in.new.kept c.pieces_in.new.kept (g.D.Disk.history c.inode_in.new.disk)
      (g.D.Disk.history c.pieces_in.new.disk) _ (g.D.Disk.size c.pieces_in.new.disk) c.in_ok-met.ensures.looked))
      ∙ there-size c.inode_in.new.kept state (g.D.Disk.history c.inode_in.new.disk)
      (keeps-looked c.turn_to.new.kept c.inode_in.new.kept (g.D.Disk.history c.args.disk.now)
      (g.D.Disk.history c.inode_in.new.disk) (g.D.Disk.size c.args.disk.now) _ state (other_names state)
      c.in_ok-inode.ensures.looked turned)
      c.args.ino c.args.size there.file there.is ∙ sym c.in_default-refusal_of_size.ensures.value

pub returns-in-Some-2-clause-step : goal.returns-in-Some-2-clause-step
returns-in-Some-2-clause-step g c = λ state given.
    let at = (goal.at.returns-in-Some-2-clause-step g c).In_ok-why in
    lacks-slots c.pieces_in.new.kept state (g.D.Disk.history c.pieces_in.new.disk)
    (g.D.Disk.size c.pieces_in.new.disk) c.args.sub c.args.ino c.args.size c.len.result
    (there g at state given).file c.in_ok-met.ensures.kept (still g at state given) c.in_ok-why.ensures.table
    (owner g at state given) (passes g at state given) (there g at state given).is (many-pieces g at state given)
    c.in-Some-2.why (sym c.in-Some-2.is ∙ c.in_ok-why.ensures.value)

pub returns-in_err-truncate-clause-sound : goal.returns-in_err-truncate-clause-sound
returns-in_err-truncate-clause-sound g c = λ state events told given.
    let at = (goal.at.returns-in_err-truncate-clause-sound g c).In_ok-why in
    let mid = c.pieces_in.new.kept in
    let holds = (still g at state given).keeps.holds in
    let enough = copies-free mid c.len.result
    (if-none c.in_ok-why.field-0 (need_of mid c.len.result ≤ free_slots mid.fs.land.space) c.in_default-2.is
    c.in_ok-why.ensures.enough) in
    handed-sound (Unit {0}) c.from_residual-in_err-truncate.result _
    (handed c.from_residual-in_err-truncate.result _ c.from_residual-in_err-truncate.ensures.1)
    (c.in_err-truncate.ensures.sound events ((looked g at state given).history ∙ told) (turned g at state given).files
    (there g at state given).file holds (there g at state given).is
    (record { inode = inode-told g at state given; met = met-pieces g at state given })
    (subst (λ (n : ℕ). 10 * file_copies mid.fs.tree.height n ≤ free_slots mid.fs.land.space)
    (many-pieces g at state given) enough))

pub returns-clause-step : goal.returns-clause-step
returns-clause-step g c = λ state given.
    let at = (goal.at.returns-clause-step g c).In_ok-why in
    let mid = c.pieces_in.new.kept in
    let kept = still g at state given in
    sized mid state (g.D.Disk.history c.pieces_in.new.disk) (g.D.Disk.size c.pieces_in.new.disk) c.args.sub c.args.ino
    c.args.size c.len.result (there g at state given).file c.in_ok-met.ensures.kept kept c.in_ok-why.ensures.table
    (owner g at state given) (passes g at state given) (there g at state given).is (many-pieces g at state given)
    c.truncate.new.fs c.count_pending.new.kept (g.D.Disk.history c.truncate.new.disk)
    (g.D.Disk.size c.truncate.new.disk) c.count_pending.ensures.rest c.count_pending.ensures.table
    (sym c.in_default-2.is ∙ c.in_ok-why.ensures.value)
    (if-none c.in_ok-why.field-0 (need_of mid c.len.result ≤ free_slots mid.fs.land.space) c.in_default-2.is
    c.in_ok-why.ensures.enough)
    c.in_ok-truncate.ensures.leaves
    (c.in_ok-truncate.ensures.cut (turned g at state given).files (there g at state given).file kept.keeps.holds
    (there g at state given).is
    (record { inode = inode-told g at state given; met = met-pieces g at state given }))

-- ---- how much is read

pub returns-clause-reads : goal.returns-clause-reads
returns-clause-reads g c = λ accepted state change given change_told.
    let at = (goal.at.returns-clause-reads g c).In_ok-why in
    let files = (turned g at state given).files in
    let file = (there g at state given).file in
    let kept = still g at state given in
    let pieces = cut-pieces c.pieces_in.new.kept state (g.D.Disk.history c.pieces_in.new.disk)
    (g.D.Disk.size c.pieces_in.new.disk) c.in_ok-met.ensures.kept kept c.in_ok-why.ensures.table change c.args.sub
    c.args.ino c.args.size file (owner g at state given) (there g at state given).is change_told in
    own-reads c.args.reads.now c.inode_in.new.reads c.pieces_in.new.reads c.truncate.new.reads
    (pieces_meeting c.args.size largest_size (pieces_of c.args.ino files)) change.pieces
    (c.in_ok-inode.ensures.reads files (turned g at state given).keeps.holds)
    (c.in_ok-met.ensures.reads files (first-held g at state given))
    (subst (λ (n : ℕ). c.truncate.new.reads ≤ c.pieces_in.new.reads + 45 * (n + 3)) pieces
    (c.in_ok-truncate.ensures.reads files file kept.keeps.holds (there g at state given).is
    (record { inode = inode-told g at state given; met = met-pieces g at state given })))
    (past-read c.args.ino file files (there g at state given).is (turned g at state given).keeps.holds.writable
    c.args.size ∙ pieces)

-- ---- over any disk

pub returns-in_err-inode-clause-stops : goal.returns-in_err-inode-clause-stops
returns-in_err-inode-clause-stops g c =
    let residual = c.from_residual in
    turned-err (Option InodeItem) residual.result c.in_err-inode.field-0.0 c.args.kept.now c.turn_to.new.kept
    (g.D.Disk.size c.args.disk.now) (g.D.Disk.size c.args.disk.now) residual.ensures.1
    c.turn_to.ensures.same
    refl c.in_err-inode.ensures.stops

pub returns-in_err-met-clause-stops : goal.returns-in_err-met-clause-stops
returns-in_err-met-clause-stops g c =
    let residual = c.from_residual-in_err-met in
    turned-err (List Piece) residual.result c.in_err-met.field-0.0 c.args.kept.now c.inode_in.new.kept
    (g.D.Disk.size c.args.disk.now) (g.D.Disk.size c.inode_in.new.disk) residual.ensures.1
    (same-read c.args.kept.now c.turn_to.new.kept c.inode_in.new.kept _ _ _ _ c.turn_to.ensures.same
    c.in_ok-inode.ensures.looked)
    c.in_ok-inode.ensures.looked.size c.in_err-met.ensures.stops

pub returns-in_err-truncate-clause-stops : goal.returns-in_err-truncate-clause-stops
returns-in_err-truncate-clause-stops g c =
    let residual = c.from_residual-in_err-truncate in
    turned-err (Unit {0}) residual.result c.in_err-truncate.field-0.0 c.args.kept.now c.pieces_in.new.kept
    (g.D.Disk.size c.args.disk.now) (g.D.Disk.size c.pieces_in.new.disk) residual.ensures.1
    (same-read c.args.kept.now c.turn_to.new.kept c.pieces_in.new.kept _ _ _ _ c.turn_to.ensures.same
    (looked-again c.turn_to.new.kept c.inode_in.new.kept c.pieces_in.new.kept _ _ _ _ _ _
    c.in_ok-inode.ensures.looked c.in_ok-met.ensures.looked))
    (c.in_ok-met.ensures.looked.size ∙ c.in_ok-inode.ensures.looked.size) c.in_err-truncate.ensures.stops
