use Rattle.std.proofs.Common.{◌+◌, ◌*◌, ◌<◌, ◌∙◌, ◌≤◌, ℕ, subst, sym}
use Rattle.qg_image.specs.Need.{file_copies}
use Rattle.qg_space.specs.Holding.{free_slots}
use Rattle.qg_open_image.proofs.PiecesRead.{handed}
use Rattle.qg_open_image.proofs.WholeFile.{handed-sound}
use Rattle.qg_open_image.specs.Types.{Found}
use Rattle.qg_open_image.specs.Files.{pieces_of}
use Rattle.qg_open_image.specs.FsLawsKeeping.{other_names}
use Rattle.qg_open_image.specs.declared.open_image.OpenImage.{OpenImage}
use Rattle.qg_open_image.specs.Keeping.{need_of}
use Rattle.qg_file_commands.proofs.Accepting.{node-small, path-still, quota-read, quota-turned}
use Rattle.qg_file_commands.proofs.Cloned.{cloned, lacks-slots, refuses-clone}
use Rattle.qg_file_commands.proofs.Edited.{accepted-is, accepted-reserves, if-none, kept-accepted, kept-changed}
use Rattle.qg_file_commands.proofs.Leaves.{copies-free}
use Rattle.qg_open_image.proofs.Looked.{is-subvolume, keeps-looked, node-size, owner-read}
use Rattle.qg_file_commands.proofs.Reasons.{other-target}
use Rattle.qg_file_commands.proofs.Touched.{met-both}
use Rattle.qg_open_image.proofs.Turned.{same-read, source-tree}
use Rattle.qg_machine.specs.FileChange.{pieces_meeting}
use Rattle.qg_file_commands.proofs.Asked.{clone-pieces, target-reads}
use Rattle.std.proofs.Common.{refl}
use Rattle.qg_open_image.proofs.Stopped.{turned-err}
use Rattle.qg_file_commands.proofs.cloning.clone_pieces.Goals as goal

pub turn_to-requires : goal.turn_to-requires
turn_to-requires g c = record { fitted = c.requires.kept.fitted }

pub found_in-requires : goal.found_in-requires
found_in-requires g c = record {
  kept = c.turn_to.ensures.kept (g.D.Disk.history c.args.disk.now) (g.D.Disk.size c.args.disk.now) c.requires.kept;
}

-- ---- there is no such subvolume

pub returns-then-not-turn_to-clause-kept : goal.returns-then-not-turn_to-clause-kept
returns-then-not-turn_to-clause-kept g c =
    c.turn_to.ensures.kept (g.D.Disk.history c.args.disk.now) (g.D.Disk.size c.args.disk.now) c.requires.kept

pub returns-then-not-turn_to-clause-step : goal.returns-then-not-turn_to-clause-step
returns-then-not-turn_to-clause-step g c = λ state sub ino from keeps there source passes limits.
    let history = g.D.Disk.history c.args.disk.now in
    refuses-clone c.turn_to.new.kept state history sub ino c.args.off c.args.len c.args.to_sub c.args.to_ino
    c.args.to_off _
    (c.turn_to.ensures.keeps state history (g.D.Disk.size c.args.disk.now) (other_names state) c.requires.kept keeps)
    (other-target c.args.kept.now state history keeps ino c.args.off c.args.len c.args.to_sub c.args.to_ino
    c.args.to_off sub (sym c.turn_to.ensures.there ∙ c.if-not-turn_to.true))

pub returns-then-not-turn_to-clause-unchanged : goal.returns-then-not-turn_to-clause-unchanged
returns-then-not-turn_to-clause-unchanged g c = λ is. c.turn_to.ensures.same

-- ---- the target

pub returns-in_err-found-clause-sound : goal.returns-in_err-found-clause-sound
returns-in_err-found-clause-sound g c = λ state events sub ino from told given there source.
    let keeps = c.turn_to.ensures.keeps state (g.D.Disk.history c.args.disk.now) (g.D.Disk.size c.args.disk.now)
    (other_names state) c.requires.kept given in
    handed-sound Found c.from_residual.result _ (handed c.from_residual.result _ c.from_residual.ensures.1)
    (c.in_err-found.ensures.sound keeps.files keeps.keeps.holds)

pub no_nodes-requires : goal.no_nodes-requires
no_nodes-requires g c = record { size = node-size c.found_in.new.kept c.in_ok-found.ensures.kept.fitted }

pub returns-in-Some-clause-step : goal.returns-in-Some-clause-step
returns-in-Some-clause-step g c = λ state sub ino from given there source passes limits.
    let kept = c.turn_to.new.kept in
    let mid = c.found_in.new.kept in
    let before = g.D.Disk.history c.args.disk.now in
    let bytes = g.D.Disk.size c.args.disk.now in
    let between = g.D.Disk.history c.found_in.new.disk in
    let left = g.D.Disk.size c.found_in.new.disk in
    let keeps = c.turn_to.ensures.keeps state before bytes (other_names state) c.requires.kept given in
    let looked = c.in_ok-found.ensures.looked in
    let still = keeps-looked kept mid before between bytes left state (other_names state) looked keeps in
    let finds = c.in_ok-found.ensures.found keeps.files keeps.keeps.holds in
    lacks-slots mid state between left sub ino c.args.off c.args.len c.args.to_sub c.args.to_ino c.args.to_off
    (c.len.result + c.len-2.result) from c.in_ok-found.ensures.kept still c.in_ok-why.ensures.table there
    (sym (c.turn_to.ensures.hand c.if-not-turn_to.false) ∙ owner-read kept mid before between bytes left looked) passes
    limits
    (met-both c.args.off (c.args.off + c.args.len) c.args.to_off (c.args.to_off + c.args.len)
    (pieces_of ino from.files) (pieces_of c.args.to_ino keeps.files) c.args.source.now c.in_ok-found.found.met
    c.len.result c.len-2.result source finds.met c.len.ensures c.len-2.ensures)
    c.in-Some.why (sym c.in-Some.is ∙ c.in_ok-why.ensures.value)

pub returns-in-Some-clause-unchanged : goal.returns-in-Some-clause-unchanged
returns-in-Some-clause-unchanged g c = λ is.
    same-read c.args.kept.now c.turn_to.new.kept c.found_in.new.kept _ _ _ _ c.turn_to.ensures.same
    c.in_ok-found.ensures.looked

-- ---- the edit

pub clone_into-requires-clause-subvolume : goal.clone_into-requires-clause-subvolume
clone_into-requires-clause-subvolume g c =
    is-subvolume c.found_in.new.kept (g.D.Disk.history c.found_in.new.disk) (g.D.Disk.size c.found_in.new.disk)
    c.in_ok-found.ensures.kept

pub returns-in_err-clone_into-clause-sound : goal.returns-in_err-clone_into-clause-sound
returns-in_err-clone_into-clause-sound g c = λ state events sub ino from told given there source.
    let kept = c.turn_to.new.kept in
    let mid = c.found_in.new.kept in
    let before = g.D.Disk.history c.args.disk.now in
    let bytes = g.D.Disk.size c.args.disk.now in
    let between = g.D.Disk.history c.found_in.new.disk in
    let left = g.D.Disk.size c.found_in.new.disk in
    let keeps = c.turn_to.ensures.keeps state before bytes (other_names state) c.requires.kept given in
    let looked = c.in_ok-found.ensures.looked in
    let still = keeps-looked kept mid before between bytes left state (other_names state) looked keeps in
    let finds = c.in_ok-found.ensures.found keeps.files keeps.keeps.holds in
    let touched = met-both c.args.off (c.args.off + c.args.len) c.args.to_off (c.args.to_off + c.args.len)
    (pieces_of ino from.files) (pieces_of c.args.to_ino keeps.files) c.args.source.now c.in_ok-found.found.met
    c.len.result c.len-2.result source finds.met c.len.ensures c.len-2.ensures in
    let pieces : ℕ = c.len.result + c.len-2.result in
    let enough = copies-free mid pieces
    (if-none c.in_ok-why.field-0 (need_of mid pieces ≤ free_slots mid.fs.land.space) c.in_default.is
    c.in_ok-why.ensures.enough) in
    let tree = source-tree mid between left state (other_names state) c.in_ok-found.ensures.kept still sub from there in
    handed-sound (Unit {0}) c.from_residual-in_err-clone_into.result _
    (handed c.from_residual-in_err-clone_into.result _ c.from_residual-in_err-clone_into.ensures.1)
    (c.in_err-clone_into.ensures.sound events (looked.history ∙ told) still.files from.files tree.tree ino
    still.keeps.holds tree.among tree.files source finds
    (subst (λ (n : ℕ). 10 * file_copies mid.fs.tree.height n ≤ free_slots mid.fs.land.space) touched enough))

-- ---- what it reserves is held

pub accept-requires : goal.accept-requires
accept-requires g c =
    let kept = c.turn_to.new.kept in
    let mid = c.found_in.new.kept in
    let before = g.D.Disk.history c.args.disk.now in
    let between = g.D.Disk.history c.found_in.new.disk in
    let bytes = g.D.Disk.size c.args.disk.now in
    let left = g.D.Disk.size c.found_in.new.disk in
    let looked = c.in_ok-found.ensures.looked in
    let own = c.in_ok-clone_into.ensures.own in
    record {
      fitted = (kept-changed mid c.clone_into.new.fs between (g.D.Disk.history c.clone_into.new.disk) left
          (g.D.Disk.size c.clone_into.new.disk) c.in_ok-found.ensures.kept c.in_ok-clone_into.ensures.leaves
          own).fitted;
      few = subst (λ (k : OpenImage). k.pending < 65536) (sym looked.same)
          (subst (λ (k : OpenImage). k.pending < 65536) (sym c.turn_to.ensures.same.rest) c.requires.reserves.few);
      small = node-small mid c.in_ok-found.ensures.kept.fitted c.from-amount.result c.from-amount.ensures;
      path = path-still c.args.kept.now.quota mid.quota c.args.to_sub c.clone_into.new.fs.tree.owner c.args.path.now
          c.requires.reserves.path
          (quota-read kept mid before between bytes left looked
          ∙ quota-turned c.args.kept.now kept c.turn_to.ensures.same)
          (own.owner ∙ sym (owner-read kept mid before between bytes left looked)
          ∙ c.turn_to.ensures.hand c.if-not-turn_to.false);
    }

pub returns-clause-kept : goal.returns-clause-kept
returns-clause-kept g c =
    kept-accepted c.found_in.new.kept c.clone_into.new.fs c.accept.new.kept c.accept.ensures.rest
    c.in_ok-accept.ensures.pending (g.D.Disk.history c.found_in.new.disk) (g.D.Disk.history c.clone_into.new.disk)
    (g.D.Disk.size c.found_in.new.disk) (g.D.Disk.size c.clone_into.new.disk) c.in_ok-found.ensures.kept
    c.in_ok-clone_into.ensures.leaves c.in_ok-clone_into.ensures.own c.in_ok-accept.ensures.fitted

pub returns-clause-step : goal.returns-clause-step
returns-clause-step g c = λ state sub ino from given there source passes limits.
    let kept = c.turn_to.new.kept in
    let mid = c.found_in.new.kept in
    let before = g.D.Disk.history c.args.disk.now in
    let bytes = g.D.Disk.size c.args.disk.now in
    let between = g.D.Disk.history c.found_in.new.disk in
    let left = g.D.Disk.size c.found_in.new.disk in
    let keeps = c.turn_to.ensures.keeps state before bytes (other_names state) c.requires.kept given in
    let looked = c.in_ok-found.ensures.looked in
    let still = keeps-looked kept mid before between bytes left state (other_names state) looked keeps in
    let finds = c.in_ok-found.ensures.found keeps.files keeps.keeps.holds in
    let pieces : ℕ = c.len.result + c.len-2.result in
    let tree = source-tree mid between left state (other_names state) c.in_ok-found.ensures.kept still sub from there in
    let fs = c.clone_into.new.fs in
    let new = c.accept.new.kept in
    cloned mid state between left sub ino c.args.off c.args.len c.args.to_sub c.args.to_ino c.args.to_off pieces from
    c.in_ok-found.ensures.kept still c.in_ok-why.ensures.table there
    (sym (c.turn_to.ensures.hand c.if-not-turn_to.false) ∙ owner-read kept mid before between bytes left looked) passes
    limits
    (met-both c.args.off (c.args.off + c.args.len) c.args.to_off (c.args.to_off + c.args.len)
    (pieces_of ino from.files) (pieces_of c.args.to_ino keeps.files) c.args.source.now c.in_ok-found.found.met
    c.len.result c.len-2.result source finds.met c.len.ensures c.len-2.ensures)
    fs new (g.D.Disk.history c.clone_into.new.disk) (g.D.Disk.size c.clone_into.new.disk) c.from-amount.result
    (accepted-is mid fs new c.accept.ensures.rest c.in_ok-accept.ensures.pending) c.from-amount.ensures
    (accepted-reserves mid fs new c.from-amount.result c.in_ok-clone_into.ensures.own.owner c.accept.ensures.same
    c.in_ok-accept.ensures.holds)
    c.accept.ensures.table (sym c.in_default.is ∙ c.in_ok-why.ensures.value)
    (if-none c.in_ok-why.field-0 (need_of mid pieces ≤ free_slots mid.fs.land.space) c.in_default.is
    c.in_ok-why.ensures.enough)
    c.in_ok-clone_into.ensures.leaves
    (c.in_ok-clone_into.ensures.cloned still.files from.files tree.tree ino still.keeps.holds tree.among tree.files
    source finds)

-- ---- how much is read

pub returns-clause-reads : goal.returns-clause-reads
returns-clause-reads g c = λ state sub ino from change given there source told accepted.
    let kept = c.turn_to.new.kept in
    let mid = c.found_in.new.kept in
    let before = g.D.Disk.history c.args.disk.now in
    let bytes = g.D.Disk.size c.args.disk.now in
    let between = g.D.Disk.history c.found_in.new.disk in
    let left = g.D.Disk.size c.found_in.new.disk in
    let keeps = c.turn_to.ensures.keeps state before bytes (other_names state) c.requires.kept given in
    let looked = c.in_ok-found.ensures.looked in
    let still = keeps-looked kept mid before between bytes left state (other_names state) looked keeps in
    let finds = c.in_ok-found.ensures.found keeps.files keeps.keeps.holds in
    let tree = source-tree mid between left state (other_names state) c.in_ok-found.ensures.kept still sub from there in
    target-reads c.args.reads.now c.found_in.new.reads c.clone_into.new.reads
    (pieces_meeting c.args.to_off (c.args.to_off + c.args.len) (pieces_of c.args.to_ino keeps.files))
    (pieces_meeting c.args.off (c.args.off + c.args.len) (pieces_of ino from.files)) change.pieces
    (c.in_ok-found.ensures.reads keeps.files keeps.keeps.holds)
    (c.in_ok-clone_into.ensures.reads still.files from.files tree.tree ino still.keeps.holds tree.among tree.files
    source finds)
    (clone-pieces mid state between left c.in_ok-found.ensures.kept still c.in_ok-why.ensures.table change sub from
    there ino c.args.off c.args.len c.args.to_sub c.args.to_ino c.args.to_off
    (sym (c.turn_to.ensures.hand c.if-not-turn_to.false) ∙ owner-read kept mid before between bytes left looked) told)

-- ---- over any disk

pub returns-in_err-found-clause-stops : goal.returns-in_err-found-clause-stops
returns-in_err-found-clause-stops g c =
    let residual = c.from_residual in
    turned-err (Found) residual.result c.in_err-found.field-0.0 c.args.kept.now c.turn_to.new.kept
    (g.D.Disk.size c.args.disk.now) (g.D.Disk.size c.args.disk.now) residual.ensures.1
    c.turn_to.ensures.same
    refl c.in_err-found.ensures.stops

pub returns-in_err-clone_into-clause-stops : goal.returns-in_err-clone_into-clause-stops
returns-in_err-clone_into-clause-stops g c =
    let residual = c.from_residual-in_err-clone_into in
    turned-err (Unit {0}) residual.result c.in_err-clone_into.field-0.0 c.args.kept.now c.found_in.new.kept
    (g.D.Disk.size c.args.disk.now) (g.D.Disk.size c.found_in.new.disk) residual.ensures.1
    (same-read c.args.kept.now c.turn_to.new.kept c.found_in.new.kept _ _ _ _ c.turn_to.ensures.same
    c.in_ok-found.ensures.looked)
    c.in_ok-found.ensures.looked.size c.in_err-clone_into.ensures.stops
