use Rattle.std.proofs.Common.{◌+◌, ◌<◌, ◌∙◌, ◌≤◌, ℕ, List, Option, ap, refl, rules, subst, sym, ◌≡◌, Some, true}
use Rattle.std.specs.Prelude.{◌==◌, ◌&&◌}
use Rattle.qg_num.specs.declared.command.Command.TheVariants.{Clone}
use Rattle.qg_num.specs.declared.piece.Piece.{Piece}
use Rattle.qg_num.specs.declared.refusal.Refusal.TheVariants as why
use Rattle.qg_items.specs.declared.file.InodeItem.{InodeItem}
use Rattle.qg_image.specs.declared.file.File.{File}
use Rattle.qg_image.specs.State.{State}
use Rattle.qg_image.specs.Table.{has_key, value_at}
use Rattle.qg_machine.specs.FileChange.{pieces_meeting}
use Rattle.qg_machine.specs.Refusals.{share_a_byte}
use Rattle.qg_qgroups.specs.OnOrOff.{path_in, refusal_in}
use Rattle.qg_qgroups.specs.Tracked.{quota_of}
use Rattle.qg_open_image.proofs.PiecesRead.{handed}
use Rattle.qg_open_image.proofs.WholeFile.{handed-sound}
use Rattle.qg_open_image.specs.Files.{HoldsFiles, pieces_of}
use Rattle.qg_open_image.specs.Keeping.{IsKeptOf}
use Rattle.qg_inodes.specs.PiecesWritten.{pieces_met}
use Rattle.qg_open_image.specs.FsLawsKeeping.{other_names}
use Rattle.qg_open_image.specs.declared.open_image.OpenImage.{OpenImage}
use Rattle.qg_open_image.specs.Editing.{HasReadNodes, clone_refusal}
use Rattle.qg_file_commands.proofs.Accepting.{judged-node, listed-still, path-still, path-told, quota-read}
use Rattle.qg_file_commands.proofs.Cloned.{refuses-clone, refuses-limit, source-there, target-listed}
use Rattle.qg_open_image.proofs.Looked.{holds-looked, keeps-looked, looked-again, owner-read}
use Rattle.qg_file_commands.proofs.Reasons.{missing-clone, none-there, other-clone, other-target, overlap-clone}
use Rattle.qg_file_commands.proofs.Reasons.{some-there}
use Rattle.qg_open_image.proofs.Turned.{same-read, same-then, unchanged-then}
use Rattle.qg_file_commands.proofs.Asked.{asked-then, source-pieces, source-read}
use Rattle.qg_open_image.proofs.Stopped.{stops-turned, turned-err}
use Rattle.qg_file_commands.proofs.cloning.clone.Given.{Over}
use Rattle.qg_file_commands.proofs.cloning.clone.Goals as goal
use Rattle.qg_file_commands.proofs.cloning.clone.Goals.{In_ok-inode, In_ok-source}

pub turn_to-requires : goal.turn_to-requires
turn_to-requires g c = record { fitted = c.requires.kept.fitted }

pub turn_to-requires-2 : goal.turn_to-requires-2
turn_to-requires-2 g c = record {
  fitted =
      (c.turn_to.ensures.kept (g.D.Disk.history c.args.disk.now) (g.D.Disk.size c.args.disk.now)
      c.requires.kept).fitted;
}

pub inode_in-requires : goal.inode_in-requires
inode_in-requires g c =
    let history = g.D.Disk.history c.args.disk.now in
    let bytes = g.D.Disk.size c.args.disk.now in
    record { kept = c.turn_to-2.ensures.kept history bytes (c.turn_to.ensures.kept history bytes c.requires.kept) }

-- ---- a subvolume isn't there

pub returns-then-not-turn_to-clause-kept : goal.returns-then-not-turn_to-clause-kept
returns-then-not-turn_to-clause-kept g c =
    c.turn_to.ensures.kept (g.D.Disk.history c.args.disk.now) (g.D.Disk.size c.args.disk.now) c.requires.kept

pub returns-then-not-turn_to-clause-step : goal.returns-then-not-turn_to-clause-step
returns-then-not-turn_to-clause-step g c = λ state keeps.
    let history = g.D.Disk.history c.args.disk.now in
    refuses-clone c.turn_to.new.kept state history c.args.sub c.args.ino c.args.off c.args.len c.args.to_sub
    c.args.to_ino c.args.to_off _
    (c.turn_to.ensures.keeps state history (g.D.Disk.size c.args.disk.now) (other_names state) c.requires.kept keeps)
    (other-target c.args.kept.now state history keeps c.args.ino c.args.off c.args.len c.args.to_sub c.args.to_ino
    c.args.to_off c.args.sub (sym c.turn_to.ensures.there ∙ c.if-not-turn_to.true))

pub returns-then-not-turn_to-clause-unchanged : goal.returns-then-not-turn_to-clause-unchanged
returns-then-not-turn_to-clause-unchanged g c = λ is. c.turn_to.ensures.same

pub returns-then-not-turn_to-2-clause-kept : goal.returns-then-not-turn_to-2-clause-kept
returns-then-not-turn_to-2-clause-kept g c =
    let history = g.D.Disk.history c.args.disk.now in
    let bytes = g.D.Disk.size c.args.disk.now in
    c.turn_to-2.ensures.kept history bytes (c.turn_to.ensures.kept history bytes c.requires.kept)

pub returns-then-not-turn_to-2-clause-step : goal.returns-then-not-turn_to-2-clause-step
returns-then-not-turn_to-2-clause-step g c = λ state given.
    let history = g.D.Disk.history c.args.disk.now in
    let bytes = g.D.Disk.size c.args.disk.now in
    let fits = c.turn_to.ensures.kept history bytes c.requires.kept in
    let first = c.turn_to.ensures.keeps state history bytes (other_names state) c.requires.kept given in
    refuses-clone c.turn_to-2.new.kept state history c.args.sub c.args.ino c.args.off c.args.len c.args.to_sub
    c.args.to_ino c.args.to_off _ (c.turn_to-2.ensures.keeps state history bytes (other_names state) fits first)
    (other-clone c.turn_to.new.kept state history first c.args.ino c.args.off c.args.len c.args.to_sub c.args.to_ino
    c.args.to_off c.args.sub (sym c.turn_to-2.ensures.there ∙ c.if-not-turn_to-2.true))

pub returns-then-not-turn_to-2-clause-unchanged : goal.returns-then-not-turn_to-2-clause-unchanged
returns-then-not-turn_to-2-clause-unchanged g c = λ is.
    same-then c.args.kept.now c.turn_to.new.kept c.turn_to-2.new.kept c.turn_to.ensures.same c.turn_to-2.ensures.same

-- ---- the source

pub returns-in_err-inode-clause-sound : goal.returns-in_err-inode-clause-sound
returns-in_err-inode-clause-sound g c = λ state events told given.
    let history = g.D.Disk.history c.args.disk.now in
    let bytes = g.D.Disk.size c.args.disk.now in
    let fits = c.turn_to.ensures.kept history bytes c.requires.kept in
    let first = c.turn_to.ensures.keeps state history bytes (other_names state) c.requires.kept given in
    let keeps = c.turn_to-2.ensures.keeps state history bytes (other_names state) fits first in
    handed-sound (Option InodeItem) c.from_residual.result _
    (handed c.from_residual.result _ c.from_residual.ensures.1)
    (c.in_err-inode.ensures.sound keeps.files keeps.keeps.holds)

-- ---- what was read of the source, in a state that is kept

module _ (g : Over) (c : In_ok-inode g) (state : State)
    (given : IsKeptOf c.args.kept.now state (g.D.Disk.history c.args.disk.now)) where
  abbrev turned : IsKeptOf c.turn_to-2.new.kept state (g.D.Disk.history c.args.disk.now)
  turned =
      c.turn_to-2.ensures.keeps state (g.D.Disk.history c.args.disk.now) (g.D.Disk.size c.args.disk.now)
      (other_names state)
      (c.turn_to.ensures.kept (g.D.Disk.history c.args.disk.now) (g.D.Disk.size c.args.disk.now) c.requires.kept)
      (c.turn_to.ensures.keeps state (g.D.Disk.history c.args.disk.now) (g.D.Disk.size c.args.disk.now)
      (other_names state) c.requires.kept given)

  abbrev first-read : IsKeptOf c.inode_in.new.kept state (g.D.Disk.history c.inode_in.new.disk)
  first-read =
      keeps-looked c.turn_to-2.new.kept c.inode_in.new.kept (g.D.Disk.history c.args.disk.now)
      (g.D.Disk.history c.inode_in.new.disk) (g.D.Disk.size c.args.disk.now) (g.D.Disk.size c.inode_in.new.disk) state
      (other_names state) c.in_ok-inode.ensures.looked turned

  first-held : HoldsFiles c.inode_in.new.kept.fs (g.D.Disk.history c.inode_in.new.disk) turned.files
  first-held =
      holds-looked c.turn_to-2.new.kept c.inode_in.new.kept _ _ _ _ turned.files c.in_ok-inode.ensures.looked
      turned.keeps.holds

  owner : c.args.sub ≡ c.inode_in.new.kept.fs.tree.owner
  owner =
      sym (c.turn_to-2.ensures.hand c.if-not-turn_to-2.false)
      ∙ owner-read c.turn_to-2.new.kept c.inode_in.new.kept (g.D.Disk.history c.args.disk.now)
      (g.D.Disk.history c.inode_in.new.disk) (g.D.Disk.size c.args.disk.now) (g.D.Disk.size c.inode_in.new.disk)
      c.in_ok-inode.ensures.looked

  target : has_key c.args.to_sub c.inode_in.new.kept.snapshots ≡ true
  target =
      target-listed c.args.kept.now c.inode_in.new.kept state (g.D.Disk.history c.args.disk.now)
      (g.D.Disk.history c.inode_in.new.disk) given first-read c.args.to_sub
      (sym c.turn_to.ensures.there ∙ c.if-not-turn_to.false)

  owner-refuses : clone_refusal state c.args.sub c.args.ino c.args.off c.args.len c.args.to_sub c.args.to_ino
      c.args.to_off
      ≡ clone_refusal state c.inode_in.new.kept.fs.tree.owner c.args.ino c.args.off c.args.len c.args.to_sub
      c.args.to_ino c.args.to_off
  owner-refuses =
      ap (λ (sub : ℕ). clone_refusal state sub c.args.ino c.args.off c.args.len c.args.to_sub c.args.to_ino
      c.args.to_off) owner

pub returns-in_default-clause-step : goal.returns-in_default-clause-step
returns-in_default-clause-step g c = λ state given.
    let at = (goal.at.returns-in_default-clause-step g c).In_ok-inode in
    let files = (turned g at state given).files in
    let told = sym c.in_default.is ∙ c.in_ok-inode.ensures.found files (turned g at state given).keeps.holds in
    refuses-clone c.inode_in.new.kept state (g.D.Disk.history c.inode_in.new.disk) c.args.sub c.args.ino c.args.off
    c.args.len c.args.to_sub c.args.to_ino c.args.to_off _ (first-read g at state given)
    (owner-refuses g at state given
    ∙ missing-clone c.inode_in.new.kept state (g.D.Disk.history c.inode_in.new.disk) (first-read g at state given)
    c.args.ino c.args.off c.args.len c.args.to_sub c.args.to_ino c.args.to_off (target g at state given)
    (none-there (value_at c.args.ino files) told))

pub returns-in_default-clause-unchanged : goal.returns-in_default-clause-unchanged
returns-in_default-clause-unchanged g c = λ is.
    same-read c.args.kept.now c.turn_to-2.new.kept c.inode_in.new.kept _ _ _ _
    (same-then c.args.kept.now c.turn_to.new.kept c.turn_to-2.new.kept c.turn_to.ensures.same c.turn_to-2.ensures.same)
    c.in_ok-inode.ensures.looked

pub returns-in-Some-refusal_of_clone-clause-step : goal.returns-in-Some-refusal_of_clone-clause-step
returns-in-Some-refusal_of_clone-clause-step g c = λ state given.
    let at = (goal.at.returns-in-Some-refusal_of_clone-clause-step g c).In_ok-inode in
    let read = c.inode_in.new.kept in
    let then = g.D.Disk.history c.inode_in.new.disk in
    let files = (turned g at state given).files in
    let there = some-there (value_at c.args.ino files) c.in-Some.inode
    (sym c.in-Some.is ∙ c.in_ok-inode.ensures.found files (turned g at state given).keeps.holds) in
    let overlap = overlap-clone read state then (first-read g at state given) c.args.ino c.args.off c.args.len
    c.args.to_sub c.args.to_ino c.args.to_off (target g at state given) c.in-Some.inode.size there.file there.is
    there.size c.do_overlap-overlap.result
    (c.do_overlap-overlap.ensures
    ∙ ap (λ (sub : ℕ). (sub == c.args.to_sub) && (c.args.ino == c.args.to_ino)
    && share_a_byte c.args.off c.args.to_off c.args.len) (owner g at state given)) in
    refuses-clone read state then c.args.sub c.args.ino c.args.off c.args.len c.args.to_sub c.args.to_ino c.args.to_off
    c.in-Some-refusal_of_clone.why (first-read g at state given)
    (owner-refuses g at state given ∙ overlap ∙ sym c.in-Some-refusal_of_clone.ensures.value)

pub returns-in-Some-refusal_of_clone-clause-unchanged : goal.returns-in-Some-refusal_of_clone-clause-unchanged
returns-in-Some-refusal_of_clone-clause-unchanged g c = λ is.
    same-read c.args.kept.now c.turn_to-2.new.kept c.inode_in.new.kept _ _ _ _
    (same-then c.args.kept.now c.turn_to.new.kept c.turn_to-2.new.kept c.turn_to.ensures.same c.turn_to-2.ensures.same)
    c.in_ok-inode.ensures.looked

-- ---- what it reserves is judged

pub judge-requires : goal.judge-requires
judge-requires g c = record {
  fitted = c.in_ok-inode.ensures.kept.fitted;
  there = listed-still c.args.kept.now c.inode_in.new.kept
      (same-read c.args.kept.now c.turn_to-2.new.kept c.inode_in.new.kept _ _ _ _
      (same-then c.args.kept.now c.turn_to.new.kept c.turn_to-2.new.kept c.turn_to.ensures.same
      c.turn_to-2.ensures.same)
      c.in_ok-inode.ensures.looked) c.args.to_sub (sym c.turn_to.ensures.there ∙ c.if-not-turn_to.false);
}

pub returns-in-Over-clause-step : goal.returns-in-Over-clause-step
returns-in-Over-clause-step g c = λ state given.
    let at = (goal.at.returns-in-Over-clause-step g c).In_ok-inode in
    let read = c.inode_in.new.kept in
    let then = g.D.Disk.history c.inode_in.new.disk in
    let files = (turned g at state given).files in
    let there = some-there (value_at c.args.ino files) c.in-Some.inode
    (sym c.in-Some.is ∙ c.in_ok-inode.ensures.found files (turned g at state given).keeps.holds) in
    let overlap = overlap-clone read state then (first-read g at state given) c.args.ino c.args.off c.args.len
    c.args.to_sub c.args.to_ino c.args.to_off (target g at state given) c.in-Some.inode.size there.file there.is
    there.size c.do_overlap-overlap.result
    (c.do_overlap-overlap.ensures
    ∙ ap (λ (sub : ℕ). (sub == c.args.to_sub) && (c.args.ino == c.args.to_ino)
    && share_a_byte c.args.off c.args.to_off c.args.len) (owner g at state given)) in
    refuses-limit read state then c.args.sub c.args.ino c.args.off c.args.len c.args.to_sub c.args.to_ino c.args.to_off
    (why.Quota c.in-Over.group c.in-Over.which) (first-read g at state given)
    (owner-refuses g at state given ∙ overlap ∙ sym c.in_default-refusal_of_clone.ensures.value)
    (judged-node read state then (first-read g at state given) c.in_ok-inode.ensures.kept.fitted c.args.to_sub
    c.from.result c.in_ok-judged.judged (c.in_ok-judged.ensures.value state (other_names state) then
    (first-read g at state given)) c.from.ensures
    ∙ ap refusal_in c.in-Over.is)

pub returns-in-Over-clause-unchanged : goal.returns-in-Over-clause-unchanged
returns-in-Over-clause-unchanged g c = λ is.
    same-read c.args.kept.now c.turn_to-2.new.kept c.inode_in.new.kept _ _ _ _
    (same-then c.args.kept.now c.turn_to.new.kept c.turn_to-2.new.kept c.turn_to.ensures.same c.turn_to-2.ensures.same)
    c.in_ok-inode.ensures.looked

-- ---- the source's pieces

pub returns-in_err-source-clause-sound : goal.returns-in_err-source-clause-sound
returns-in_err-source-clause-sound g c = λ state events told given.
    let at = (goal.at.returns-in_err-source-clause-sound g c).In_ok-inode in
    handed-sound (List Piece) c.from_residual-in_err-source.result _
    (handed c.from_residual-in_err-source.result _ c.from_residual-in_err-source.ensures.1)
    (c.in_err-source.ensures.sound (turned g at state given).files (first-held g at state given))

pub clone_pieces-requires-clause-reserves : goal.clone_pieces-requires-clause-reserves
clone_pieces-requires-clause-reserves g c =
    let read = c.inode_in.new.kept in
    let mid = c.pieces_in.new.kept in
    record {
      few = subst (λ (kept : OpenImage). kept.pending < 65536) (sym c.in_ok-source.ensures.looked.same)
          c.in_default-refusal_of_clone.ensures.few;
      path = path-still read.quota mid.quota c.args.to_sub c.args.to_sub c.as_slice.result.now
          (c.as_slice.ensures
          ∙ path-told c.in_ok-judged.judged c.in-Path.path (path_in (quota_of read.quota) c.args.to_sub) c.in-Path.is
          c.in_ok-judged.ensures.path)
          (quota-read read mid _ _ _ _ c.in_ok-source.ensures.looked) refl;
    }

pub clone_pieces-requires-clause-pieces : goal.clone_pieces-requires-clause-pieces
clone_pieces-requires-clause-pieces g c = record {
  apart = c.in_ok-source.ensures.apart;
  few = search rules;
  number = (c.requires.least, c.requires.below);
  range = c.in_default-refusal_of_clone.ensures.clonable;
}

-- ---- the source's pieces, in a state that is kept

module _ (g : Over) (c : In_ok-source g) (state : State)
    (turned : IsKeptOf c.turn_to-2.new.kept state (g.D.Disk.history c.args.disk.now))
    (held : HoldsFiles c.inode_in.new.kept.fs (g.D.Disk.history c.inode_in.new.disk) turned.files) where
  looked : HasReadNodes c.turn_to-2.new.kept c.pieces_in.new.kept (g.D.Disk.history c.args.disk.now)
      (g.D.Disk.history c.pieces_in.new.disk) (g.D.Disk.size c.args.disk.now) (g.D.Disk.size c.pieces_in.new.disk)
  looked =
      looked-again c.turn_to-2.new.kept c.inode_in.new.kept c.pieces_in.new.kept _ _ _ _ _ _
      c.in_ok-inode.ensures.looked c.in_ok-source.ensures.looked

  abbrev still : IsKeptOf c.pieces_in.new.kept state (g.D.Disk.history c.pieces_in.new.disk)
  still =
      keeps-looked c.turn_to-2.new.kept c.pieces_in.new.kept (g.D.Disk.history c.args.disk.now)
      (g.D.Disk.history c.pieces_in.new.disk) (g.D.Disk.size c.args.disk.now) (g.D.Disk.size c.pieces_in.new.disk) state
      (other_names state) looked turned

  abbrev there : value_at c.args.sub state.subvolumes ≡ Some turned.mine
  there =
      source-there c.turn_to-2.new.kept state (g.D.Disk.history c.args.disk.now) turned c.args.sub
      (c.turn_to-2.ensures.hand c.if-not-turn_to-2.false)

  source-met : c.in_ok-source.source
      ≡ pieces_met c.args.off (c.args.off + c.args.len) (pieces_of c.args.ino turned.mine.files)
  source-met =
      c.in_ok-source.ensures.found turned.files held
      ∙ ap (λ (files : List (ℕ × File)). pieces_met c.args.off (c.args.off + c.args.len)
      (pieces_of c.args.ino files)) (sym turned.keeps.are)

pub returns-clause-sound : goal.returns-clause-sound
returns-clause-sound g c = λ state events told given.
    let at = goal.at.returns-clause-sound g c in
    let keeps = turned g at.In_ok-inode state given in
    let held = first-held g at.In_ok-inode state given in
    let source = at.In_ok-source in
    c.clone_pieces.ensures.sound state events c.args.sub c.args.ino keeps.mine
    ((looked g source state keeps held).history ∙ told) (still g source state keeps held)
    (there g source state keeps held) (source-met g source state keeps held)

pub returns-clause-step : goal.returns-clause-step
returns-clause-step g c = λ state given.
    let around = goal.at.returns-clause-step g c in
    let at = around.In_ok-inode in
    let keeps = turned g at state given in
    let held = first-held g at state given in
    let source = around.In_ok-source in
    let read = c.inode_in.new.kept in
    let then = g.D.Disk.history c.inode_in.new.disk in
    let files = (turned g at state given).files in
    let file-there = some-there (value_at c.args.ino files) c.in-Some.inode
    (sym c.in-Some.is ∙ c.in_ok-inode.ensures.found files (turned g at state given).keeps.holds) in
    let overlap = overlap-clone read state then (first-read g at state given) c.args.ino c.args.off c.args.len
    c.args.to_sub c.args.to_ino c.args.to_off (target g at state given) c.in-Some.inode.size file-there.file
    file-there.is file-there.size c.do_overlap-overlap.result
    (c.do_overlap-overlap.ensures
    ∙ ap (λ (sub : ℕ). (sub == c.args.to_sub) && (c.args.ino == c.args.to_ino)
    && share_a_byte c.args.off c.args.to_off c.args.len) (owner g at state given)) in
    c.clone_pieces.ensures.step state c.args.sub c.args.ino keeps.mine (still g source state keeps held)
    (there g source state keeps held) (source-met g source state keeps held)
    (owner-refuses g at state given ∙ overlap ∙ sym c.in_default-refusal_of_clone.ensures.value)
    (judged-node read state then (first-read g at state given) c.in_ok-inode.ensures.kept.fitted c.args.to_sub
    c.from.result c.in_ok-judged.judged (c.in_ok-judged.ensures.value state (other_names state) then
    (first-read g at state given)) c.from.ensures
    ∙ ap refusal_in c.in-Path.is)

pub returns-clause-unchanged : goal.returns-clause-unchanged
returns-clause-unchanged g c =
    unchanged-then c.clone_pieces.result c.args.kept.now c.pieces_in.new.kept c.clone_pieces.new.kept
    (same-read c.args.kept.now c.turn_to-2.new.kept c.pieces_in.new.kept _ _ _ _
    (same-then c.args.kept.now c.turn_to.new.kept c.turn_to-2.new.kept c.turn_to.ensures.same c.turn_to-2.ensures.same)
    (looked-again c.turn_to-2.new.kept c.inode_in.new.kept c.pieces_in.new.kept _ _ _ _ _ _
    c.in_ok-inode.ensures.looked c.in_ok-source.ensures.looked))
    c.clone_pieces.ensures.unchanged

-- ---- how much is read

pub returns-clause-reads : goal.returns-clause-reads
returns-clause-reads g c =
    let around = goal.at.returns-clause-reads g c in
    asked-then c.clone_pieces.result c.args.kept.now (g.D.Disk.history c.args.disk.now)
    (Clone c.args.sub c.args.ino c.args.off c.args.len c.args.to_sub c.args.to_ino c.args.to_off) c.args.reads.now
    c.pieces_in.new.reads c.clone_pieces.new.reads
    (λ state change given told.
    let keeps = turned g around.In_ok-inode state given in
    let held = first-held g around.In_ok-inode state given in
    let source = around.In_ok-source in
    let sub = there g source state keeps held in (
      c.clone_pieces.ensures.reads state c.args.sub c.args.ino keeps.mine change (still g source state keeps held) sub
          (source-met g source state keeps held) told,
      source-read c.args.reads.now c.inode_in.new.reads c.pieces_in.new.reads
          (pieces_meeting c.args.off (c.args.off + c.args.len) (pieces_of c.args.ino keeps.files)) change.pieces
          (c.in_ok-inode.ensures.reads keeps.files keeps.keeps.holds) (c.in_ok-source.ensures.reads keeps.files held)
          (subst (λ (files : List (ℕ × File)). pieces_meeting c.args.off (c.args.off + c.args.len)
          (pieces_of c.args.ino files) ≤ change.pieces) keeps.keeps.are
          (source-pieces state c.args.sub keeps.mine sub c.args.ino c.args.off c.args.len c.args.to_sub c.args.to_ino
          c.args.to_off change told)),
    ))

-- ---- over any disk

pub returns-in_err-inode-clause-stops : goal.returns-in_err-inode-clause-stops
returns-in_err-inode-clause-stops g c =
    let residual = c.from_residual in
    turned-err (Option InodeItem) residual.result c.in_err-inode.field-0.0 c.args.kept.now c.turn_to-2.new.kept
    (g.D.Disk.size c.args.disk.now) (g.D.Disk.size c.args.disk.now) residual.ensures.1
    (same-then c.args.kept.now c.turn_to.new.kept c.turn_to-2.new.kept c.turn_to.ensures.same c.turn_to-2.ensures.same)
    refl c.in_err-inode.ensures.stops

pub returns-in_err-source-clause-stops : goal.returns-in_err-source-clause-stops
returns-in_err-source-clause-stops g c =
    let residual = c.from_residual-in_err-source in
    turned-err (List Piece) residual.result c.in_err-source.field-0.0 c.args.kept.now c.inode_in.new.kept
    (g.D.Disk.size c.args.disk.now) (g.D.Disk.size c.inode_in.new.disk) residual.ensures.1
    (same-read c.args.kept.now c.turn_to-2.new.kept c.inode_in.new.kept _ _ _ _
    (same-then c.args.kept.now c.turn_to.new.kept c.turn_to-2.new.kept c.turn_to.ensures.same c.turn_to-2.ensures.same)
    c.in_ok-inode.ensures.looked)
    c.in_ok-inode.ensures.looked.size c.in_err-source.ensures.stops

pub returns-clause-stops : goal.returns-clause-stops
returns-clause-stops g c =
    let same = same-read c.args.kept.now c.turn_to-2.new.kept c.pieces_in.new.kept _ _ _ _
    (same-then c.args.kept.now c.turn_to.new.kept c.turn_to-2.new.kept c.turn_to.ensures.same c.turn_to-2.ensures.same)
    (looked-again c.turn_to-2.new.kept c.inode_in.new.kept c.pieces_in.new.kept _ _ _ _ _ _
    c.in_ok-inode.ensures.looked c.in_ok-source.ensures.looked) in
    stops-turned c.clone_pieces.result c.args.kept.now c.pieces_in.new.kept (g.D.Disk.size c.args.disk.now)
    (g.D.Disk.size c.pieces_in.new.disk) same
    (c.in_ok-source.ensures.looked.size ∙ c.in_ok-inode.ensures.looked.size) c.clone_pieces.ensures.stops
