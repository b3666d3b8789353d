use Rattle.std.proofs.Common.{◌≡◌, ◌+◌, ◌*◌, ◌∙◌, ◌≤◌, ℕ, List, None, Option, ap, arith, subst, sym, length}
use Rattle.std.specs.Prelude.{not}
use Rattle.qg_num.specs.declared.piece.Piece.{Piece}
use Rattle.qg_items.specs.declared.file.InodeItem.{InodeItem}
use Rattle.qg_image.specs.State.{State}
use Rattle.qg_image.specs.Table.{value_at}
use Rattle.qg_image.specs.Need.{file_copies}
use Rattle.qg_space.specs.Holding.{free_slots}
use Rattle.qg_open_image.proofs.PiecesRead.{handed}
use Rattle.qg_open_image.proofs.WholeFile.{handed-sound}
use Rattle.qg_open_image.specs.FsLawsKeeping.{other_names}
use Rattle.qg_open_image.specs.Editing.{HasReadNodes, unlink_refusal}
use Rattle.qg_open_image.specs.Keeping.{IsKeptOf, need_of}
use Rattle.qg_file_commands.proofs.Edited.{if-none, kept-edited}
use Rattle.qg_file_commands.proofs.Leaves.{copies-free}
use Rattle.qg_open_image.proofs.Looked.{holds-looked, is-subvolume, keeps-looked, looked-again, node-size, owner-read}
use Rattle.qg_file_commands.proofs.Reasons.{HasFile, file-told, many, missing-unlink, none-told, other-unlink}
use Rattle.qg_file_commands.proofs.Reasons.{passes-unlink}
use Rattle.qg_file_commands.proofs.Reasons.{there-unlink, too-many}
use Rattle.qg_file_commands.proofs.Refused.{first_one}
use Rattle.qg_file_commands.proofs.Touched.{many-met, own-met}
use Rattle.qg_open_image.proofs.Turned.{same-read}
use Rattle.qg_file_commands.proofs.Unlinked.{lacks-slots, refuses-unlink, unlinked}
use Rattle.qg_image.specs.FilesOf.{largest_size}
use Rattle.qg_machine.specs.FileChange.{pieces_meeting}
use Rattle.qg_inodes.specs.PiecesWritten.{pieces_met}
use Rattle.qg_open_image.specs.Files.{HoldsFiles, pieces_of}
use Rattle.qg_file_commands.proofs.Asked.{all-read, own-reads, unlink-pieces}
use Rattle.std.proofs.Common.{refl}
use Rattle.qg_open_image.proofs.Stopped.{turned-err}
use Rattle.qg_file_commands.proofs.unlinking.unlink.Given.{Over}
use Rattle.qg_file_commands.proofs.unlinking.unlink.Goals as goal
use Rattle.qg_file_commands.proofs.unlinking.unlink.Goals.{In_ok-why}

pub turn_to-requires : goal.turn_to-requires
turn_to-requires g c = record { fitted = c.requires.kept.fitted }

pub inode_in-requires : goal.inode_in-requires
inode_in-requires g c = record {
  kept = c.turn_to.ensures.kept (g.D.Disk.history c.args.disk.now) (g.D.Disk.size c.args.disk.now) c.requires.kept;
}

-- ---- there is no such subvolume

pub returns-then-not-turn_to-clause-kept : goal.returns-then-not-turn_to-clause-kept
returns-then-not-turn_to-clause-kept g c =
    c.turn_to.ensures.kept (g.D.Disk.history c.args.disk.now) (g.D.Disk.size c.args.disk.now) c.requires.kept

pub returns-then-not-turn_to-clause-step : goal.returns-then-not-turn_to-clause-step
returns-then-not-turn_to-clause-step g c = λ state keeps.
    let history = g.D.Disk.history c.args.disk.now in
    let bytes = g.D.Disk.size c.args.disk.now in
    refuses-unlink c.turn_to.new.kept state history c.args.sub c.args.ino _
    (c.turn_to.ensures.keeps state history bytes (other_names state) c.requires.kept keeps)
    (other-unlink c.args.kept.now state history keeps c.args.sub c.args.ino
    (sym c.turn_to.ensures.there ∙ c.if-not-turn_to.true))

pub returns-then-not-turn_to-clause-unchanged : goal.returns-then-not-turn_to-clause-unchanged
returns-then-not-turn_to-clause-unchanged g c = λ is. c.turn_to.ensures.same

-- ---- there is no such file

pub returns-in_err-inode_in-clause-sound : goal.returns-in_err-inode_in-clause-sound
returns-in_err-inode_in-clause-sound g c = λ state events told keeps.
    let history = g.D.Disk.history c.args.disk.now in
    let turned = c.turn_to.ensures.keeps state history (g.D.Disk.size c.args.disk.now) (other_names state)
    c.requires.kept keeps in
    handed-sound (Option InodeItem) c.from_residual.result _
    (handed c.from_residual.result _ c.from_residual.ensures.1)
    (c.in_err-inode_in.ensures.sound turned.files turned.keeps.holds)

pub returns-then-is_none-clause-step : goal.returns-then-is_none-clause-step
returns-then-is_none-clause-step g c = λ state keeps.
    let kept = c.turn_to.new.kept in
    let read = c.inode_in.new.kept in
    let before = g.D.Disk.history c.args.disk.now in
    let bytes = g.D.Disk.size c.args.disk.now in
    let then = g.D.Disk.history c.inode_in.new.disk in
    let left = g.D.Disk.size c.inode_in.new.disk in
    let turned = c.turn_to.ensures.keeps state before bytes (other_names state) c.requires.kept keeps in
    let first = c.in_ok-inode_in.ensures.looked in
    let still = keeps-looked kept read before then bytes left state (other_names state) first turned in
    let told = c.in_ok-inode_in.ensures.found turned.files turned.keeps.holds in
    let none = none-told (value_at c.args.ino turned.files) c.in_ok-inode_in.field-0 told
    (c.is_none.ensures ∙ ap not c.if-is_none.true) in
    let hand = sym (c.turn_to.ensures.hand c.if-not-turn_to.false)
    ∙ owner-read kept read before then bytes left first in
    refuses-unlink read state then c.args.sub c.args.ino _ still
    (ap (λ (sub : ℕ). unlink_refusal state sub c.args.ino) hand
    ∙ missing-unlink read state then still c.args.ino none)

pub returns-then-is_none-clause-unchanged : goal.returns-then-is_none-clause-unchanged
returns-then-is_none-clause-unchanged g c = λ is.
    same-read c.args.kept.now c.turn_to.new.kept c.inode_in.new.kept _ _ _ _ c.turn_to.ensures.same
    c.in_ok-inode_in.ensures.looked

-- ---- too much is pending

pub returns-then-kept-ge-MOST_PENDING-clause-step : goal.returns-then-kept-ge-MOST_PENDING-clause-step
returns-then-kept-ge-MOST_PENDING-clause-step g c = λ state keeps.
    let kept = c.turn_to.new.kept in
    let read = c.inode_in.new.kept in
    let before = g.D.Disk.history c.args.disk.now in
    let bytes = g.D.Disk.size c.args.disk.now in
    let then = g.D.Disk.history c.inode_in.new.disk in
    let left = g.D.Disk.size c.inode_in.new.disk in
    let turned = c.turn_to.ensures.keeps state before bytes (other_names state) c.requires.kept keeps in
    let first = c.in_ok-inode_in.ensures.looked in
    let still = keeps-looked kept read before then bytes left state (other_names state) first turned in
    let told = c.in_ok-inode_in.ensures.found turned.files turned.keeps.holds in
    let there = file-told (value_at c.args.ino turned.files) c.in_ok-inode_in.field-0 told
    (c.is_none.ensures ∙ ap not c.if-is_none.false) in
    let hand = sym (c.turn_to.ensures.hand c.if-not-turn_to.false)
    ∙ owner-read kept read before then bytes left first in
    refuses-unlink read state then c.args.sub c.args.ino _ still
    (ap (λ (sub : ℕ). unlink_refusal state sub c.args.ino) hand
    ∙ there-unlink read state then still c.args.ino there.file there.is
    ∙ first_one (many read state then still)
    ∙ too-many read state then still (omega (arith, c.if-kept-ge-MOST_PENDING.true)))

pub returns-then-kept-ge-MOST_PENDING-clause-unchanged : goal.returns-then-kept-ge-MOST_PENDING-clause-unchanged
returns-then-kept-ge-MOST_PENDING-clause-unchanged g c = λ is.
    same-read c.args.kept.now c.turn_to.new.kept c.inode_in.new.kept _ _ _ _ c.turn_to.ensures.same
    c.in_ok-inode_in.ensures.looked

-- ---- its pieces are read

pub returns-in_err-met-clause-sound : goal.returns-in_err-met-clause-sound
returns-in_err-met-clause-sound g c = λ state events told keeps.
    let history = g.D.Disk.history c.args.disk.now in
    let turned = c.turn_to.ensures.keeps state history (g.D.Disk.size c.args.disk.now) (other_names state)
    c.requires.kept keeps in
    handed-sound (List Piece) c.from_residual-in_err-met.result _
    (handed c.from_residual-in_err-met.result _ c.from_residual-in_err-met.ensures.1)
    (c.in_err-met.ensures.sound turned.files
    (holds-looked c.turn_to.new.kept c.inode_in.new.kept _ _ _ _ turned.files c.in_ok-inode_in.ensures.looked
    turned.keeps.holds))

pub no_nodes-requires : goal.no_nodes-requires
no_nodes-requires g c = record { size = node-size c.pieces_in.new.kept c.in_ok-met.ensures.kept.fitted }

-- ---- what was read of the file, in a state that is kept

module _ (g : Over) (c : In_ok-why g) (state : State)
    (given : IsKeptOf c.args.kept.now state (g.D.Disk.history c.args.disk.now)) where
  abbrev turned : IsKeptOf c.turn_to.new.kept state (g.D.Disk.history c.args.disk.now)
  turned =
      c.turn_to.ensures.keeps state (g.D.Disk.history c.args.disk.now) (g.D.Disk.size c.args.disk.now)
      (other_names state) c.requires.kept given

  there : HasFile (value_at c.args.ino turned.files)
  there =
      file-told (value_at c.args.ino turned.files) c.in_ok-inode_in.field-0
      (c.in_ok-inode_in.ensures.found turned.files turned.keeps.holds) (c.is_none.ensures ∙ ap not c.if-is_none.false)

  first-held : HoldsFiles c.inode_in.new.kept.fs (g.D.Disk.history c.inode_in.new.disk) turned.files
  first-held =
      holds-looked c.turn_to.new.kept c.inode_in.new.kept _ _ _ _ turned.files c.in_ok-inode_in.ensures.looked
      turned.keeps.holds

  met-pieces : c.in_ok-met.met ≡ pieces_met 0 largest_size (pieces_of c.args.ino turned.files)
  met-pieces = c.in_ok-met.ensures.found turned.files first-held

  own-pieces : c.in_ok-met.met ≡ pieces_met 0 largest_size there.file.pieces
  own-pieces = own-met c.args.ino there.file turned.files there.is c.in_ok-met.met met-pieces

  many-pieces : c.len.result ≡ length there.file.pieces
  many-pieces =
      c.len.ensures
      ∙ many-met c.args.ino there.file turned.files there.is turned.keeps.holds.writable c.in_ok-met.met met-pieces

  looked : HasReadNodes c.turn_to.new.kept c.pieces_in.new.kept (g.D.Disk.history c.args.disk.now)
      (g.D.Disk.history c.pieces_in.new.disk) (g.D.Disk.size c.args.disk.now) (g.D.Disk.size c.pieces_in.new.disk)
  looked =
      looked-again c.turn_to.new.kept c.inode_in.new.kept c.pieces_in.new.kept _ _ _ _ _ _
      c.in_ok-inode_in.ensures.looked c.in_ok-met.ensures.looked

  abbrev still : IsKeptOf c.pieces_in.new.kept state (g.D.Disk.history c.pieces_in.new.disk)
  still =
      keeps-looked c.turn_to.new.kept c.pieces_in.new.kept (g.D.Disk.history c.args.disk.now)
      (g.D.Disk.history c.pieces_in.new.disk) (g.D.Disk.size c.args.disk.now) (g.D.Disk.size c.pieces_in.new.disk) state
      (other_names state) looked turned

  owner : c.args.sub ≡ c.pieces_in.new.kept.fs.tree.owner
  owner =
      sym (c.turn_to.ensures.hand c.if-not-turn_to.false)
      ∙ owner-read c.turn_to.new.kept c.pieces_in.new.kept (g.D.Disk.history c.args.disk.now)
      (g.D.Disk.history c.pieces_in.new.disk) (g.D.Disk.size c.args.disk.now) (g.D.Disk.size c.pieces_in.new.disk)
      looked

  passes : unlink_refusal state c.pieces_in.new.kept.fs.tree.owner c.args.ino ≡ None
  passes =
      subst (λ (sub : ℕ). unlink_refusal state sub c.args.ino ≡ None)
      (owner-read c.inode_in.new.kept c.pieces_in.new.kept (g.D.Disk.history c.inode_in.new.disk)
      (g.D.Disk.history c.pieces_in.new.disk) _ (g.D.Disk.size c.pieces_in.new.disk) c.in_ok-met.ensures.looked)
      (passes-unlink c.inode_in.new.kept state (g.D.Disk.history c.inode_in.new.disk)
      (keeps-looked c.turn_to.new.kept c.inode_in.new.kept (g.D.Disk.history c.args.disk.now)
      (g.D.Disk.history c.inode_in.new.disk) (g.D.Disk.size c.args.disk.now) _ state (other_names state)
      c.in_ok-inode_in.ensures.looked turned)
      c.args.ino there.file there.is (omega (arith, c.if-kept-ge-MOST_PENDING.false)))

pub returns-in-Some-clause-step : goal.returns-in-Some-clause-step
returns-in-Some-clause-step g c = λ state given.
    let at = (goal.at.returns-in-Some-clause-step g c).In_ok-why in
    lacks-slots c.pieces_in.new.kept state (g.D.Disk.history c.pieces_in.new.disk)
    (g.D.Disk.size c.pieces_in.new.disk) c.args.sub c.args.ino c.len.result (there g at state given).file
    c.in_ok-met.ensures.kept (still g at state given) c.in_ok-why.ensures.table (owner g at state given)
    (passes g at state given) (there g at state given).is (many-pieces g at state given) c.in-Some.why
    (sym c.in-Some.is ∙ c.in_ok-why.ensures.value)

pub returns-in-Some-clause-unchanged : goal.returns-in-Some-clause-unchanged
returns-in-Some-clause-unchanged g c = λ is.
    same-read c.args.kept.now c.turn_to.new.kept c.pieces_in.new.kept _ _ _ _ c.turn_to.ensures.same
    (looked-again c.turn_to.new.kept c.inode_in.new.kept c.pieces_in.new.kept _ _ _ _ _ _
    c.in_ok-inode_in.ensures.looked c.in_ok-met.ensures.looked)

-- ---- the edit

pub unlink-requires-clause-subvolume : goal.unlink-requires-clause-subvolume
unlink-requires-clause-subvolume g c =
    is-subvolume c.pieces_in.new.kept (g.D.Disk.history c.pieces_in.new.disk) (g.D.Disk.size c.pieces_in.new.disk)
    c.in_ok-met.ensures.kept

pub returns-in_err-unlink-clause-sound : goal.returns-in_err-unlink-clause-sound
returns-in_err-unlink-clause-sound g c = λ state events told given.
    let at = (goal.at.returns-in_err-unlink-clause-sound g c).In_ok-why in
    let mid = c.pieces_in.new.kept in
    let holds = (still g at state given).keeps.holds in
    let enough = copies-free mid c.len.result
    (if-none c.in_ok-why.field-0 (need_of mid c.len.result ≤ free_slots mid.fs.land.space) c.in_default.is
    c.in_ok-why.ensures.enough) in
    handed-sound (Unit {0}) c.from_residual-in_err-unlink.result _
    (handed c.from_residual-in_err-unlink.result _ c.from_residual-in_err-unlink.ensures.1)
    (c.in_err-unlink.ensures.sound events ((looked g at state given).history ∙ told) (turned g at state given).files
    (there g at state given).file holds (there g at state given).is (own-pieces g at state given)
    (subst (λ (n : ℕ). 10 * file_copies mid.fs.tree.height n ≤ free_slots mid.fs.land.space)
    (many-pieces g at state given) enough))

pub returns-clause-kept : goal.returns-clause-kept
returns-clause-kept g c =
    kept-edited c.pieces_in.new.kept c.unlink.new.fs c.count_pending.new.kept (g.D.Disk.history c.pieces_in.new.disk)
    (g.D.Disk.history c.unlink.new.disk) (g.D.Disk.size c.pieces_in.new.disk) (g.D.Disk.size c.unlink.new.disk)
    c.in_ok-met.ensures.kept c.in_ok-unlink.ensures.leaves c.in_ok-unlink.ensures.own c.count_pending.ensures.rest

pub returns-clause-step : goal.returns-clause-step
returns-clause-step g c = λ state given.
    let at = (goal.at.returns-clause-step g c).In_ok-why in
    let mid = c.pieces_in.new.kept in
    let kept = still g at state given in
    unlinked mid state (g.D.Disk.history c.pieces_in.new.disk) (g.D.Disk.size c.pieces_in.new.disk) c.args.sub
    c.args.ino c.len.result (there g at state given).file c.in_ok-met.ensures.kept kept c.in_ok-why.ensures.table
    (owner g at state given) (passes g at state given) (there g at state given).is (many-pieces g at state given)
    c.unlink.new.fs c.count_pending.new.kept (g.D.Disk.history c.unlink.new.disk) (g.D.Disk.size c.unlink.new.disk)
    c.count_pending.ensures.rest c.count_pending.ensures.table (sym c.in_default.is ∙ c.in_ok-why.ensures.value)
    (if-none c.in_ok-why.field-0 (need_of mid c.len.result ≤ free_slots mid.fs.land.space) c.in_default.is
    c.in_ok-why.ensures.enough)
    c.in_ok-unlink.ensures.leaves
    (c.in_ok-unlink.ensures.unlinked (turned g at state given).files (there g at state given).file kept.keeps.holds
    (there g at state given).is (own-pieces g at state given))

-- ---- how much is read

pub returns-clause-reads : goal.returns-clause-reads
returns-clause-reads g c = λ accepted state change given change_told.
    let at = (goal.at.returns-clause-reads g c).In_ok-why in
    let files = (turned g at state given).files in
    let file = (there g at state given).file in
    let kept = still g at state given in
    let pieces = unlink-pieces c.pieces_in.new.kept state (g.D.Disk.history c.pieces_in.new.disk)
    (g.D.Disk.size c.pieces_in.new.disk) c.in_ok-met.ensures.kept kept c.in_ok-why.ensures.table change c.args.sub
    c.args.ino file (owner g at state given) (there g at state given).is change_told in
    own-reads c.args.reads.now c.inode_in.new.reads c.pieces_in.new.reads c.unlink.new.reads
    (pieces_meeting 0 largest_size (pieces_of c.args.ino files)) change.pieces
    (c.in_ok-inode_in.ensures.reads files (turned g at state given).keeps.holds)
    (c.in_ok-met.ensures.reads files (first-held g at state given))
    (subst (λ (n : ℕ). c.unlink.new.reads ≤ c.pieces_in.new.reads + 45 * (n + 3)) pieces
    (c.in_ok-unlink.ensures.reads files file kept.keeps.holds (there g at state given).is
    (own-pieces g at state given)))
    (all-read c.args.ino file files (there g at state given).is (turned g at state given).keeps.holds.writable
    ∙ pieces)

-- ---- over any disk

pub returns-in_err-inode_in-clause-stops : goal.returns-in_err-inode_in-clause-stops
returns-in_err-inode_in-clause-stops g c =
    let residual = c.from_residual in
    turned-err (Option InodeItem) residual.result c.in_err-inode_in.field-0.0 c.args.kept.now c.turn_to.new.kept
    (g.D.Disk.size c.args.disk.now) (g.D.Disk.size c.args.disk.now) residual.ensures.1
    c.turn_to.ensures.same
    refl c.in_err-inode_in.ensures.stops

pub returns-in_err-met-clause-stops : goal.returns-in_err-met-clause-stops
returns-in_err-met-clause-stops g c =
    let residual = c.from_residual-in_err-met in
    turned-err (List Piece) residual.result c.in_err-met.field-0.0 c.args.kept.now c.inode_in.new.kept
    (g.D.Disk.size c.args.disk.now) (g.D.Disk.size c.inode_in.new.disk) residual.ensures.1
    (same-read c.args.kept.now c.turn_to.new.kept c.inode_in.new.kept _ _ _ _ c.turn_to.ensures.same
    c.in_ok-inode_in.ensures.looked)
    c.in_ok-inode_in.ensures.looked.size c.in_err-met.ensures.stops

pub returns-in_err-unlink-clause-stops : goal.returns-in_err-unlink-clause-stops
returns-in_err-unlink-clause-stops g c =
    let residual = c.from_residual-in_err-unlink in
    turned-err (Unit {0}) residual.result c.in_err-unlink.field-0.0 c.args.kept.now c.pieces_in.new.kept
    (g.D.Disk.size c.args.disk.now) (g.D.Disk.size c.pieces_in.new.disk) residual.ensures.1
    (same-read c.args.kept.now c.turn_to.new.kept c.pieces_in.new.kept _ _ _ _ c.turn_to.ensures.same
    (looked-again c.turn_to.new.kept c.inode_in.new.kept c.pieces_in.new.kept _ _ _ _ _ _
    c.in_ok-inode_in.ensures.looked c.in_ok-met.ensures.looked))
    (c.in_ok-met.ensures.looked.size ∙ c.in_ok-inode_in.ensures.looked.size) c.in_err-unlink.ensures.stops
