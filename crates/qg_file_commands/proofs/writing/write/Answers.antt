use Rattle.std.proofs.Common.{◌≡◌, ◌+◌, ◌*◌, ◌<◌, ◌∙◌, ◌≤◌, ℕ, List, ap, arith, length, subst, sym, true}
use Rattle.qg_num.specs.declared.piece.Piece.{Piece}
use Rattle.qg_num.specs.declared.refusal.Refusal.TheVariants as why
use Rattle.qg_image.specs.Need.{file_copies}
use Rattle.qg_machine.specs.FileChange.{pieces_meeting}
use Rattle.qg_qgroups.specs.OnOrOff.{path_in, refusal_in}
use Rattle.qg_qgroups.specs.Tracked.{quota_of}
use Rattle.qg_space.specs.Holding.{free_slots, is_free_run}
use Rattle.qg_open_image.proofs.PiecesRead.{handed}
use Rattle.qg_open_image.proofs.WholeFile.{handed-sound}
use Rattle.qg_open_image.specs.Types.{Found}
use Rattle.qg_open_image.specs.Files.{pieces_of}
use Rattle.qg_open_image.specs.FsLawsKeeping.{other_names}
use Rattle.qg_open_image.specs.declared.open_image.OpenImage.{OpenImage}
use Rattle.qg_open_image.specs.Keeping.{most_reserved, need_of}
use Rattle.qg_file_commands.proofs.Accepting.{judged-range, listed-still, nodesize-read, path-still, path-told}
use Rattle.qg_file_commands.proofs.Accepting.{quota-read, range-small}
use Rattle.qg_file_commands.proofs.Edited.{accepted-is, accepted-reserves, if-none, kept-accepted, kept-changed}
use Rattle.qg_file_commands.proofs.Leaves.{copies-free}
use Rattle.qg_open_image.proofs.Looked.{holds-looked, is-subvolume, keeps-looked, node-size, owner-read}
use Rattle.qg_file_commands.proofs.Reasons.{other-range, range-told}
use Rattle.qg_file_commands.proofs.Touched.{met-many}
use Rattle.qg_open_image.proofs.Turned.{same-read}
use Rattle.qg_file_commands.proofs.Written.{lacks-run, lacks-slots, refuses-limit, refuses-range, written}
use Rattle.qg_file_commands.proofs.Asked.{write-pieces, write-reads}
use Rattle.std.proofs.Common.{refl}
use Rattle.qg_open_image.proofs.Stopped.{turned-err}
use Rattle.qg_file_commands.proofs.writing.write.Goals as goal

pub turn_to-requires : goal.turn_to-requires
turn_to-requires g c = record { fitted = c.requires.kept.fitted }

pub found_in-requires : goal.found_in-requires
found_in-requires g c = record {
  kept = c.turn_to.ensures.kept (g.D.Disk.history c.args.disk.now) (g.D.Disk.size c.args.disk.now) c.requires.kept;
}

-- ---- it is refused

pub returns-then-not-turn_to-clause-kept : goal.returns-then-not-turn_to-clause-kept
returns-then-not-turn_to-clause-kept g c =
    c.turn_to.ensures.kept (g.D.Disk.history c.args.disk.now) (g.D.Disk.size c.args.disk.now) c.requires.kept

pub returns-then-not-turn_to-clause-step : goal.returns-then-not-turn_to-clause-step
returns-then-not-turn_to-clause-step g c = λ state keeps.
    let history = g.D.Disk.history c.args.disk.now in
    refuses-range c.turn_to.new.kept state history c.args.sub c.args.ino c.args.off c.args.len _
    (c.turn_to.ensures.keeps state history (g.D.Disk.size c.args.disk.now) (other_names state) c.requires.kept keeps)
    (sym (other-range c.args.kept.now state history keeps c.args.sub c.args.off c.args.len
    (sym c.turn_to.ensures.there ∙ c.if-not-turn_to.true)))

pub returns-then-not-turn_to-clause-unchanged : goal.returns-then-not-turn_to-clause-unchanged
returns-then-not-turn_to-clause-unchanged g c = λ is. c.turn_to.ensures.same

pub returns-in-Some-clause-kept : goal.returns-in-Some-clause-kept
returns-in-Some-clause-kept g c =
    c.turn_to.ensures.kept (g.D.Disk.history c.args.disk.now) (g.D.Disk.size c.args.disk.now) c.requires.kept

pub returns-in-Some-clause-step : goal.returns-in-Some-clause-step
returns-in-Some-clause-step g c = λ state given.
    let history = g.D.Disk.history c.args.disk.now in
    let keeps = c.turn_to.ensures.keeps state history (g.D.Disk.size c.args.disk.now) (other_names state)
    c.requires.kept given in
    refuses-range c.turn_to.new.kept state history c.args.sub c.args.ino c.args.off c.args.len c.in-Some.why keeps
    (c.in-Some.ensures.value
    ∙ sym (range-told c.turn_to.new.kept state history keeps c.args.sub c.args.off c.args.len
    (c.turn_to.ensures.hand c.if-not-turn_to.false)))

pub returns-in-Some-clause-unchanged : goal.returns-in-Some-clause-unchanged
returns-in-Some-clause-unchanged g c = λ is. c.turn_to.ensures.same

-- ---- what it reserves is judged

pub overflow_add-amount : goal.overflow_add-amount
overflow_add-amount g c =
    let fits = c.turn_to.ensures.kept (g.D.Disk.history c.args.disk.now) (g.D.Disk.size c.args.disk.now)
    c.requires.kept in
    let small : c.args.len + c.from.result ≤ most_reserved =
    range-small c.turn_to.new.kept fits.fitted c.args.len (c.args.len + c.from.result)
    (ap (λ (n : ℕ). c.args.len + n) c.from.ensures) c.in_default.ensures.writable.short in
    omega (arith, small)

pub judge-requires : goal.judge-requires
judge-requires g c = record {
  fitted =
      (c.turn_to.ensures.kept (g.D.Disk.history c.args.disk.now) (g.D.Disk.size c.args.disk.now)
      c.requires.kept).fitted;
  there = listed-still c.args.kept.now c.turn_to.new.kept c.turn_to.ensures.same c.args.sub
      (sym c.turn_to.ensures.there ∙ c.if-not-turn_to.false);
}

pub returns-in-Over-clause-kept : goal.returns-in-Over-clause-kept
returns-in-Over-clause-kept g c =
    c.turn_to.ensures.kept (g.D.Disk.history c.args.disk.now) (g.D.Disk.size c.args.disk.now) c.requires.kept

pub returns-in-Over-clause-step : goal.returns-in-Over-clause-step
returns-in-Over-clause-step g c = λ state given.
    let history = g.D.Disk.history c.args.disk.now in
    let bytes = g.D.Disk.size c.args.disk.now in
    let fits = c.turn_to.ensures.kept history bytes c.requires.kept in
    let keeps = c.turn_to.ensures.keeps state history bytes (other_names state) c.requires.kept given in
    refuses-limit c.turn_to.new.kept state history c.args.sub c.args.ino c.args.off c.args.len
    (why.Quota c.in-Over.group c.in-Over.which) keeps
    (c.in_default.ensures.value
    ∙ sym (range-told c.turn_to.new.kept state history keeps c.args.sub c.args.off c.args.len
    (c.turn_to.ensures.hand c.if-not-turn_to.false)))
    (judged-range c.turn_to.new.kept state history keeps fits.fitted c.args.sub (c.args.len + c.from.result)
    c.in_ok-judged.judged (c.in_ok-judged.ensures.value state (other_names state) history keeps) c.args.len
    (ap (λ (n : ℕ). c.args.len + n) c.from.ensures)
    ∙ ap refusal_in c.in-Over.is)

pub returns-in-Over-clause-unchanged : goal.returns-in-Over-clause-unchanged
returns-in-Over-clause-unchanged g c = λ is. c.turn_to.ensures.same

-- ---- no run is free

pub run_for-requires : goal.run_for-requires
run_for-requires g c = record { aligned = c.in_default.ensures.writable.range.len_aligned }

pub returns-in_default-run_for-clause-kept : goal.returns-in_default-run_for-clause-kept
returns-in_default-run_for-clause-kept g c =
    c.turn_to.ensures.kept (g.D.Disk.history c.args.disk.now) (g.D.Disk.size c.args.disk.now) c.requires.kept

pub returns-in_default-run_for-clause-step : goal.returns-in_default-run_for-clause-step
returns-in_default-run_for-clause-step g c = λ state given.
    let history = g.D.Disk.history c.args.disk.now in
    let bytes = g.D.Disk.size c.args.disk.now in
    let fits = c.turn_to.ensures.kept history bytes c.requires.kept in
    let keeps = c.turn_to.ensures.keeps state history bytes (other_names state) c.requires.kept given in
    lacks-run c.turn_to.new.kept state history c.args.sub c.args.ino c.args.off c.args.len keeps
    (c.in_default.ensures.value
    ∙ sym (range-told c.turn_to.new.kept state history keeps c.args.sub c.args.off c.args.len
    (c.turn_to.ensures.hand c.if-not-turn_to.false)))
    (judged-range c.turn_to.new.kept state history keeps fits.fitted c.args.sub (c.args.len + c.from.result)
    c.in_ok-judged.judged (c.in_ok-judged.ensures.value state (other_names state) history keeps) c.args.len
    (ap (λ (n : ℕ). c.args.len + n) c.from.ensures)
    ∙ ap refusal_in c.in-Path.is)
    (c.in_default-run_for.ensures.run state history bytes fits keeps)

pub returns-in_default-run_for-clause-unchanged : goal.returns-in_default-run_for-clause-unchanged
returns-in_default-run_for-clause-unchanged g c = λ is. c.turn_to.ensures.same

-- ---- the file is read

pub returns-in_err-found-clause-sound : goal.returns-in_err-found-clause-sound
returns-in_err-found-clause-sound g c = λ state events told given.
    let keeps = c.turn_to.ensures.keeps state (g.D.Disk.history c.args.disk.now) (g.D.Disk.size c.args.disk.now)
    (other_names state) c.requires.kept given in
    handed-sound Found c.from_residual-in_err-found.result _
    (handed c.from_residual-in_err-found.result _ c.from_residual-in_err-found.ensures.1)
    (c.in_err-found.ensures.sound keeps.files keeps.keeps.holds)

pub no_nodes-requires : goal.no_nodes-requires
no_nodes-requires g c = record { size = node-size c.found_in.new.kept c.in_ok-found.ensures.kept.fitted }

pub returns-in-Some-2-clause-step : goal.returns-in-Some-2-clause-step
returns-in-Some-2-clause-step g c = λ state given.
    let keeps = c.turn_to.ensures.keeps state (g.D.Disk.history c.args.disk.now) (g.D.Disk.size c.args.disk.now)
    (other_names state) c.requires.kept given in
    let kept = c.turn_to.new.kept in
    let mid = c.found_in.new.kept in
    let before = g.D.Disk.history c.args.disk.now in
    let between = g.D.Disk.history c.found_in.new.disk in
    let bytes = g.D.Disk.size c.found_in.new.disk in
    let finds = c.in_ok-found.ensures.found keeps.files keeps.keeps.holds in
    let fits = c.turn_to.ensures.kept before (g.D.Disk.size c.args.disk.now) c.requires.kept in
    lacks-slots mid state between bytes c.args.sub c.args.ino c.args.off c.args.len c.in-Some-run_for.run' c.len.result
    c.in_ok-found.ensures.kept
    (keeps-looked kept mid before between (g.D.Disk.size c.args.disk.now) bytes state
    (other_names state) c.in_ok-found.ensures.looked keeps)
    c.in_ok-why.ensures.table (sym (c.turn_to.ensures.hand c.if-not-turn_to.false)
    ∙ owner-read c.turn_to.new.kept mid before between (g.D.Disk.size c.args.disk.now) bytes
    c.in_ok-found.ensures.looked)
    (c.in_default.ensures.value
    ∙ sym (range-told c.turn_to.new.kept state before keeps c.args.sub c.args.off c.args.len
    (c.turn_to.ensures.hand c.if-not-turn_to.false)))
    (judged-range c.turn_to.new.kept state before keeps fits.fitted c.args.sub (c.args.len + c.from.result)
    c.in_ok-judged.judged (c.in_ok-judged.ensures.value state (other_names state) before keeps) c.args.len
    (ap (λ (n : ℕ). c.args.len + n) c.from.ensures)
    ∙ ap refusal_in c.in-Path.is)
    (c.in-Some-run_for.ensures.run state before (g.D.Disk.size c.args.disk.now) fits keeps)
    (c.len.ensures ∙ ap (λ (pieces : List Piece). length pieces) finds.met
    ∙ met-many c.args.off (c.args.off + c.args.len) (pieces_of c.args.ino keeps.files))
    c.in-Some-2.why (sym c.in-Some-2.is ∙ c.in_ok-why.ensures.value)

pub write-requires-clause-subvolume : goal.write-requires-clause-subvolume
write-requires-clause-subvolume g c =
    is-subvolume c.found_in.new.kept (g.D.Disk.history c.found_in.new.disk) (g.D.Disk.size c.found_in.new.disk)
    c.in_ok-found.ensures.kept

pub write-requires-clause-free : goal.write-requires-clause-free
write-requires-clause-free g c =
    subst (λ (kept : OpenImage). is_free_run kept.fs.land.space c.in-Some-run_for.run' c.args.len ≡ true)
    (sym c.in_ok-found.ensures.looked.same) c.in-Some-run_for.ensures.free

pub returns-in_err-write-clause-sound : goal.returns-in_err-write-clause-sound
returns-in_err-write-clause-sound g c = λ state events told given.
    let keeps = c.turn_to.ensures.keeps state (g.D.Disk.history c.args.disk.now) (g.D.Disk.size c.args.disk.now)
    (other_names state) c.requires.kept given in
    let kept = c.turn_to.new.kept in
    let mid = c.found_in.new.kept in
    let looked = c.in_ok-found.ensures.looked in
    let finds = c.in_ok-found.ensures.found keeps.files keeps.keeps.holds in
    let touched : c.len.result
    ≡ pieces_meeting c.args.off (c.args.off + c.args.len) (pieces_of c.args.ino keeps.files) =
    c.len.ensures ∙ ap (λ (pieces : List Piece). length pieces) finds.met
    ∙ met-many c.args.off (c.args.off + c.args.len) (pieces_of c.args.ino keeps.files) in
    let enough = copies-free mid c.len.result
    (if-none c.in_ok-why.field-0 (need_of mid c.len.result ≤ free_slots mid.fs.land.space) c.in_default-2.is
    c.in_ok-why.ensures.enough) in
    handed-sound (Unit {0}) c.from_residual-in_err-write.result _
    (handed c.from_residual-in_err-write.result _ c.from_residual-in_err-write.ensures.1)
    (c.in_err-write.ensures.sound events (looked.history ∙ told) keeps.files
    (holds-looked kept mid _ _ _ _ keeps.files looked keeps.keeps.holds) finds
    (subst (λ (n : ℕ). 10 * file_copies mid.fs.tree.height n ≤ free_slots mid.fs.land.space) touched enough))

-- ---- it is held

pub accept-requires : goal.accept-requires
accept-requires g c =
    let kept = c.turn_to.new.kept in
    let mid = c.found_in.new.kept in
    let before = g.D.Disk.history c.args.disk.now in
    let between = g.D.Disk.history c.found_in.new.disk in
    let bytes = g.D.Disk.size c.args.disk.now in
    let left = g.D.Disk.size c.found_in.new.disk in
    let looked = c.in_ok-found.ensures.looked in
    let own = c.in_ok-write.ensures.own in
    record {
      fitted = (kept-changed mid c.write.new.fs between (g.D.Disk.history c.write.new.disk) left
          (g.D.Disk.size c.write.new.disk) c.in_ok-found.ensures.kept c.in_ok-write.ensures.leaves own).fitted;
      few = subst (λ (k : OpenImage). k.pending < 65536) (sym looked.same) c.in_default.ensures.few;
      small = range-small kept (c.turn_to.ensures.kept before bytes c.requires.kept).fitted c.args.len
          (c.args.len + c.from.result) (ap (λ (n : ℕ). c.args.len + n) c.from.ensures)
          c.in_default.ensures.writable.short;
      path = path-still kept.quota mid.quota c.args.sub c.write.new.fs.tree.owner c.as_slice.result.now
          (c.as_slice.ensures
          ∙ path-told c.in_ok-judged.judged c.in-Path.path (path_in (quota_of kept.quota) c.args.sub) c.in-Path.is
          c.in_ok-judged.ensures.path)
          (quota-read kept mid before between bytes left looked)
          (own.owner ∙ sym (owner-read kept mid before between bytes left looked)
          ∙ c.turn_to.ensures.hand c.if-not-turn_to.false);
    }

pub returns-clause-kept : goal.returns-clause-kept
returns-clause-kept g c =
    kept-accepted c.found_in.new.kept c.write.new.fs c.accept.new.kept c.accept.ensures.rest
    c.in_ok-accept.ensures.pending (g.D.Disk.history c.found_in.new.disk) (g.D.Disk.history c.write.new.disk)
    (g.D.Disk.size c.found_in.new.disk) (g.D.Disk.size c.write.new.disk) c.in_ok-found.ensures.kept
    c.in_ok-write.ensures.leaves c.in_ok-write.ensures.own c.in_ok-accept.ensures.fitted

pub returns-clause-step : goal.returns-clause-step
returns-clause-step g c = λ state given.
    let keeps = c.turn_to.ensures.keeps state (g.D.Disk.history c.args.disk.now) (g.D.Disk.size c.args.disk.now)
    (other_names state) c.requires.kept given in
    let kept = c.turn_to.new.kept in
    let mid = c.found_in.new.kept in
    let before = g.D.Disk.history c.args.disk.now in
    let between = g.D.Disk.history c.found_in.new.disk in
    let bytes = g.D.Disk.size c.found_in.new.disk in
    let looked = c.in_ok-found.ensures.looked in
    let finds = c.in_ok-found.ensures.found keeps.files keeps.keeps.holds in
    let still = keeps-looked kept mid before between (g.D.Disk.size c.args.disk.now) bytes state
    (other_names state) looked keeps in
    let fits = c.turn_to.ensures.kept before (g.D.Disk.size c.args.disk.now) c.requires.kept in
    let fs = c.write.new.fs in
    let new = c.accept.new.kept in
    let reserved : ℕ = c.args.len + c.from.result in
    written mid state between bytes c.args.sub c.args.ino c.args.off c.args.len c.in-Some-run_for.run' c.len.result
    c.in_ok-found.ensures.kept still c.in_ok-why.ensures.table (sym (c.turn_to.ensures.hand c.if-not-turn_to.false)
    ∙ owner-read c.turn_to.new.kept mid before between (g.D.Disk.size c.args.disk.now) bytes
    c.in_ok-found.ensures.looked)
    (c.in_default.ensures.value
    ∙ sym (range-told c.turn_to.new.kept state before keeps c.args.sub c.args.off c.args.len
    (c.turn_to.ensures.hand c.if-not-turn_to.false)))
    (judged-range c.turn_to.new.kept state before keeps fits.fitted c.args.sub (c.args.len + c.from.result)
    c.in_ok-judged.judged (c.in_ok-judged.ensures.value state (other_names state) before keeps) c.args.len
    (ap (λ (n : ℕ). c.args.len + n) c.from.ensures)
    ∙ ap refusal_in c.in-Path.is)
    (c.in-Some-run_for.ensures.run state before (g.D.Disk.size c.args.disk.now) fits keeps)
    (c.len.ensures ∙ ap (λ (pieces : List Piece). length pieces) finds.met
    ∙ met-many c.args.off (c.args.off + c.args.len) (pieces_of c.args.ino keeps.files))
    fs new (g.D.Disk.history c.write.new.disk) (g.D.Disk.size c.write.new.disk) reserved
    (accepted-is mid fs new c.accept.ensures.rest c.in_ok-accept.ensures.pending)
    (ap (λ (n : ℕ). c.args.len + n)
    (c.from.ensures ∙ sym (nodesize-read kept mid before between (g.D.Disk.size c.args.disk.now) bytes looked)))
    (accepted-reserves mid fs new reserved c.in_ok-write.ensures.own.owner c.accept.ensures.same
    c.in_ok-accept.ensures.holds)
    c.accept.ensures.table (sym c.in_default-2.is ∙ c.in_ok-why.ensures.value)
    (if-none c.in_ok-why.field-0 (need_of mid c.len.result ≤ free_slots mid.fs.land.space) c.in_default-2.is
    c.in_ok-why.ensures.enough)
    c.in_ok-write.ensures.leaves (c.in_ok-write.ensures.written keeps.files still.keeps.holds finds)
    c.in_default.ensures.writable.short

pub returns-in-Some-2-clause-unchanged : goal.returns-in-Some-2-clause-unchanged
returns-in-Some-2-clause-unchanged g c = λ is.
    same-read c.args.kept.now c.turn_to.new.kept c.found_in.new.kept _ _ _ _ c.turn_to.ensures.same
    c.in_ok-found.ensures.looked

-- ---- how much is read

pub returns-clause-reads : goal.returns-clause-reads
returns-clause-reads g c = λ accepted state change given told.
    let before = g.D.Disk.history c.args.disk.now in
    let bytes = g.D.Disk.size c.args.disk.now in
    let keeps = c.turn_to.ensures.keeps state before bytes (other_names state) c.requires.kept given in
    let kept = c.turn_to.new.kept in
    let mid = c.found_in.new.kept in
    let between = g.D.Disk.history c.found_in.new.disk in
    let left = g.D.Disk.size c.found_in.new.disk in
    let looked = c.in_ok-found.ensures.looked in
    let still = keeps-looked kept mid before between bytes left state (other_names state) looked keeps in
    let fits = c.turn_to.ensures.kept before bytes c.requires.kept in
    let finds = c.in_ok-found.ensures.found keeps.files keeps.keeps.holds in
    write-reads c.args.reads.now c.found_in.new.reads c.write.new.reads
    (pieces_meeting c.args.off (c.args.off + c.args.len) (pieces_of c.args.ino keeps.files)) change.pieces
    (c.in_ok-found.ensures.reads keeps.files keeps.keeps.holds)
    (c.in_ok-write.ensures.reads keeps.files still.keeps.holds finds)
    (write-pieces mid state between left c.in_ok-found.ensures.kept still c.in_ok-why.ensures.table change c.args.sub
    c.args.ino c.args.off c.args.len c.in-Some-run_for.run'
    (sym (c.turn_to.ensures.hand c.if-not-turn_to.false) ∙ owner-read kept mid before between bytes left looked)
    (c.in-Some-run_for.ensures.run state before bytes fits keeps) told)

-- ---- over any disk

pub returns-in_err-found-clause-stops : goal.returns-in_err-found-clause-stops
returns-in_err-found-clause-stops g c =
    let residual = c.from_residual-in_err-found in
    turned-err (Found) residual.result c.in_err-found.field-0.0 c.args.kept.now c.turn_to.new.kept
    (g.D.Disk.size c.args.disk.now) (g.D.Disk.size c.args.disk.now) residual.ensures.1
    c.turn_to.ensures.same
    refl c.in_err-found.ensures.stops

pub returns-in_err-write-clause-stops : goal.returns-in_err-write-clause-stops
returns-in_err-write-clause-stops g c =
    let residual = c.from_residual-in_err-write in
    turned-err (Unit {0}) residual.result c.in_err-write.field-0.0 c.args.kept.now c.found_in.new.kept
    (g.D.Disk.size c.args.disk.now) (g.D.Disk.size c.found_in.new.disk) residual.ensures.1
    (same-read c.args.kept.now c.turn_to.new.kept c.found_in.new.kept _ _ _ _ c.turn_to.ensures.same
    c.in_ok-found.ensures.looked)
    c.in_ok-found.ensures.looked.size c.in_err-write.ensures.stops
