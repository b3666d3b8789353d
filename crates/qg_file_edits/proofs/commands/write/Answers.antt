use Rattle.std.proofs.Common.{ℕ, ◌+◌, ◌^◌, ◌<◌, [], ◌∷◌, Some, arith, subst, ◌∙◌}
use Rattle.qg_machine.specs.FileChange.{new_piece, with_range}
use Rattle.qg_num.specs.declared.fault.BlockFault.TheVariants.{NoMemory}
use Rattle.qg_file_edits.proofs.Handed.{handed, memory-sound}
use Rattle.qg_file_edits.proofs.Kept.{leaves-itself}
use Rattle.qg_file_edits.proofs.Left.{done-files, done-reads, done-sound}
use Rattle.qg_file_edits.specs.Changes.{IsRangeChange}
use Rattle.qg_file_edits.proofs.CommandExchange.{ready-range, told-write}
use Rattle.qg_blocks.proofs.Stopping.{stops-memory}
use Rattle.qg_file_edits.proofs.commands.write.Goals as goal

pub write_change-requires-clause-some : goal.write_change-requires-clause-some
write_change-requires-clause-some g c = c.requires.range.some

pub write_change-requires-clause-near : goal.write_change-requires-clause-near
write_change-requires-clause-near g c = c.requires.range.near

pub make_exchange-requires-clause-ready : goal.make_exchange-requires-clause-ready
make_exchange-requires-clause-ready g c =
    let given = new_piece c.next-generation.result c.args.off c.args.len c.args.run in
    ready-range c.args.fs.now.land.space c.next-generation.result c.args.off (c.args.off + c.args.len) (given ∷ [])
    (with_range c.args.off (c.args.off + c.args.len) [] c.args.found.met) (Some given) c.args.found
    c.in_ok-change.change
    c.in_ok-change.ensures c.requires.apart c.requires.free

-- ---- want of memory

pub returns-in_err-change-clause-sound : goal.returns-in_err-change-clause-sound
returns-in_err-change-clause-sound g c events known files holds finds room =
    memory-sound c.from_residual.result (handed c.from_residual.result NoMemory c.from_residual.ensures.1)

pub returns-in_err-change-clause-reads : goal.returns-in_err-change-clause-reads
returns-in_err-change-clause-reads g c files holds finds = omega arith

pub returns-in_err-change-clause-leaves : goal.returns-in_err-change-clause-leaves
returns-in_err-change-clause-leaves g c =
    leaves-itself c.args.fs.now (g.D.Disk.history c.args.disk.now) (g.D.Disk.size c.args.disk.now) c.requires.subvolume

-- ---- all is done

pub returns-clause-written : goal.returns-clause-written
returns-clause-written g c files holds finds =
    let fits = subst (λ (n : ℕ). n < 2 ^ 64) (c.value.ensures ∙ c.next-generation.ensures) c.fits.ensures in
    let run_fits = subst (λ (n : ℕ). n < 2 ^ 64) c.value-2.ensures c.fits-2.ensures in
    let off = c.args.off in
    let end = c.args.off + c.args.len in
    let is = subst (λ (n : ℕ). IsRangeChange n off end (new_piece n off c.args.len c.args.run ∷ [])
    (with_range off end [] c.args.found.met) (Some (new_piece n off c.args.len c.args.run)) c.args.found
    c.in_ok-change.change) c.next-generation.ensures c.in_ok-change.ensures in
    let told = told-write c.args.fs.now (g.D.Disk.history c.args.disk.now) c.args.ino off c.args.len c.args.run
    c.args.found c.in_ok-change.change files fits run_fits c.requires.range holds finds is in
    done-files _ c.args.fs.now c.make_exchange.new.fs c.args.ino c.in_ok-change.change
    (g.D.Disk.history c.args.disk.now) files _ c.args.reads.now c.make_exchange.new.reads c.make_exchange.result holds
    told
    c.make_exchange.ensures.told (g.D.Disk.size c.args.disk.now) c.requires.subvolume
    c.make_exchange.ensures.table c.make_exchange.ensures.leaves.subvolume.editable.drafted
    c.make_exchange.ensures.still

pub returns-clause-sound : goal.returns-clause-sound
returns-clause-sound g c events known files holds finds room =
    let fits = subst (λ (n : ℕ). n < 2 ^ 64) (c.value.ensures ∙ c.next-generation.ensures) c.fits.ensures in
    let run_fits = subst (λ (n : ℕ). n < 2 ^ 64) c.value-2.ensures c.fits-2.ensures in
    let off = c.args.off in
    let end = c.args.off + c.args.len in
    let is = subst (λ (n : ℕ). IsRangeChange n off end (new_piece n off c.args.len c.args.run ∷ [])
    (with_range off end [] c.args.found.met) (Some (new_piece n off c.args.len c.args.run)) c.args.found
    c.in_ok-change.change) c.next-generation.ensures c.in_ok-change.ensures in
    let told = told-write c.args.fs.now (g.D.Disk.history c.args.disk.now) c.args.ino off c.args.len c.args.run
    c.args.found c.in_ok-change.change files fits run_fits c.requires.range holds finds is in
    done-sound _ c.args.fs.now c.make_exchange.new.fs c.args.ino c.in_ok-change.change
    (g.D.Disk.history c.args.disk.now) files _ c.args.reads.now c.make_exchange.new.reads c.make_exchange.result holds
    told
    c.make_exchange.ensures.told events known room

pub returns-clause-reads : goal.returns-clause-reads
returns-clause-reads g c files holds finds =
    let fits = subst (λ (n : ℕ). n < 2 ^ 64) (c.value.ensures ∙ c.next-generation.ensures) c.fits.ensures in
    let run_fits = subst (λ (n : ℕ). n < 2 ^ 64) c.value-2.ensures c.fits-2.ensures in
    let off = c.args.off in
    let end = c.args.off + c.args.len in
    let is = subst (λ (n : ℕ). IsRangeChange n off end (new_piece n off c.args.len c.args.run ∷ [])
    (with_range off end [] c.args.found.met) (Some (new_piece n off c.args.len c.args.run)) c.args.found
    c.in_ok-change.change) c.next-generation.ensures c.in_ok-change.ensures in
    let told = told-write c.args.fs.now (g.D.Disk.history c.args.disk.now) c.args.ino off c.args.len c.args.run
    c.args.found c.in_ok-change.change files fits run_fits c.requires.range holds finds is in
    done-reads _ c.args.fs.now c.make_exchange.new.fs c.args.ino c.in_ok-change.change
    (g.D.Disk.history c.args.disk.now) files _ c.args.reads.now c.make_exchange.new.reads c.make_exchange.result holds
    told
    c.make_exchange.ensures.told

-- ---- over any disk

pub returns-in_err-change-clause-stops : goal.returns-in_err-change-clause-stops
returns-in_err-change-clause-stops g c =
    stops-memory c.from_residual.result c.args.fs.now.land.blocks.draft.sizes (g.D.Disk.size c.args.disk.now)
    (handed c.from_residual.result NoMemory c.from_residual.ensures.1)

pub returns-clause-stops : goal.returns-clause-stops
returns-clause-stops g c = c.make_exchange.ensures.stops
