use Rattle.std.proofs.Common.{ℕ, ◌+◌, ◌^◌, ◌<◌, map, None, arith, subst, ◌∙◌}
use Rattle.qg_machine.specs.FileChange.{moved, with_range, within}
use Rattle.qg_num.specs.declared.fault.BlockFault.TheVariants.{NoMemory}
use Rattle.qg_file_edits.proofs.Handed.{handed, memory-sound}
use Rattle.qg_file_edits.proofs.Kept.{leaves-itself}
use Rattle.qg_file_edits.proofs.Left.{done-files, done-reads, done-sound}
use Rattle.qg_file_edits.specs.Changes.{IsRangeChange}
use Rattle.qg_file_edits.proofs.CommandExchange.{ready-range, told-clone}
use Rattle.qg_blocks.proofs.Stopping.{stops-memory}
use Rattle.qg_file_edits.proofs.commands.clone_into.Goals as goal

pub clone_change-requires-clause-near : goal.clone_change-requires-clause-near
clone_change-requires-clause-near g c = c.requires.range.near

pub make_exchange-requires-clause-ready : goal.make_exchange-requires-clause-ready
make_exchange-requires-clause-ready g c =
    let off = c.args.off in
    let end = c.args.off + c.args.len in
    let given = map (moved c.args.from off) (within c.args.from (c.args.from + c.args.len) c.args.source.now) in
    ready-range c.args.fs.now.land.space c.next-generation.result off end given (with_range off end given
    c.args.found.met)
    None c.args.found c.in_ok-change.change c.in_ok-change.ensures c.requires.apart tt

-- ---- want of memory

pub returns-in_err-change-clause-sound : goal.returns-in_err-change-clause-sound
returns-in_err-change-clause-sound g c events known files source_files tree other holds among has read finds room =
    memory-sound c.from_residual.result (handed c.from_residual.result NoMemory c.from_residual.ensures.1)

pub returns-in_err-change-clause-reads : goal.returns-in_err-change-clause-reads
returns-in_err-change-clause-reads g c files source_files tree other holds among has read finds = omega arith

pub returns-in_err-change-clause-leaves : goal.returns-in_err-change-clause-leaves
returns-in_err-change-clause-leaves g c =
    leaves-itself c.args.fs.now (g.D.Disk.history c.args.disk.now) (g.D.Disk.size c.args.disk.now) c.requires.subvolume

-- ---- all is done

pub returns-clause-cloned : goal.returns-clause-cloned
returns-clause-cloned g c files source_files tree other holds among has read finds =
    let fits = subst (λ (n : ℕ). n < 2 ^ 64) (c.value.ensures ∙ c.next-generation.ensures) c.fits.ensures in
    let off = c.args.off in
    let end = c.args.off + c.args.len in
    let given = map (moved c.args.from off) (within c.args.from (c.args.from + c.args.len) c.args.source.now) in
    let is = subst (λ (n : ℕ). IsRangeChange n off end given (with_range off end given c.args.found.met) None
    c.args.found
    c.in_ok-change.change) c.next-generation.ensures c.in_ok-change.ensures in
    let told = told-clone c.args.fs.now (g.D.Disk.history c.args.disk.now) other c.args.from c.args.len c.args.ino off
    c.args.source.now c.args.found c.in_ok-change.change files source_files tree fits c.requires.source_aligned
    c.requires.range holds among has read finds is in
    done-files _ c.args.fs.now c.make_exchange.new.fs c.args.ino c.in_ok-change.change
    (g.D.Disk.history c.args.disk.now) files _ c.args.reads.now c.make_exchange.new.reads c.make_exchange.result holds
    told
    c.make_exchange.ensures.told (g.D.Disk.size c.args.disk.now) c.requires.subvolume
    c.make_exchange.ensures.table c.make_exchange.ensures.leaves.subvolume.editable.drafted
    c.make_exchange.ensures.still

pub returns-clause-sound : goal.returns-clause-sound
returns-clause-sound g c events known files source_files tree other holds among has read finds room =
    let fits = subst (λ (n : ℕ). n < 2 ^ 64) (c.value.ensures ∙ c.next-generation.ensures) c.fits.ensures in
    let off = c.args.off in
    let end = c.args.off + c.args.len in
    let given = map (moved c.args.from off) (within c.args.from (c.args.from + c.args.len) c.args.source.now) in
    let is = subst (λ (n : ℕ). IsRangeChange n off end given (with_range off end given c.args.found.met) None
    c.args.found
    c.in_ok-change.change) c.next-generation.ensures c.in_ok-change.ensures in
    let told = told-clone c.args.fs.now (g.D.Disk.history c.args.disk.now) other c.args.from c.args.len c.args.ino off
    c.args.source.now c.args.found c.in_ok-change.change files source_files tree fits c.requires.source_aligned
    c.requires.range holds among has read finds is in
    done-sound _ c.args.fs.now c.make_exchange.new.fs c.args.ino c.in_ok-change.change
    (g.D.Disk.history c.args.disk.now) files _ c.args.reads.now c.make_exchange.new.reads c.make_exchange.result holds
    told
    c.make_exchange.ensures.told events known room

pub returns-clause-reads : goal.returns-clause-reads
returns-clause-reads g c files source_files tree other holds among has read finds =
    let fits = subst (λ (n : ℕ). n < 2 ^ 64) (c.value.ensures ∙ c.next-generation.ensures) c.fits.ensures in
    let off = c.args.off in
    let end = c.args.off + c.args.len in
    let given = map (moved c.args.from off) (within c.args.from (c.args.from + c.args.len) c.args.source.now) in
    let is = subst (λ (n : ℕ). IsRangeChange n off end given (with_range off end given c.args.found.met) None
    c.args.found
    c.in_ok-change.change) c.next-generation.ensures c.in_ok-change.ensures in
    let told = told-clone c.args.fs.now (g.D.Disk.history c.args.disk.now) other c.args.from c.args.len c.args.ino off
    c.args.source.now c.args.found c.in_ok-change.change files source_files tree fits c.requires.source_aligned
    c.requires.range holds among has read finds is in
    done-reads _ c.args.fs.now c.make_exchange.new.fs c.args.ino c.in_ok-change.change
    (g.D.Disk.history c.args.disk.now) files _ c.args.reads.now c.make_exchange.new.reads c.make_exchange.result holds
    told
    c.make_exchange.ensures.told

-- ---- over any disk

pub returns-in_err-change-clause-stops : goal.returns-in_err-change-clause-stops
returns-in_err-change-clause-stops g c =
    stops-memory c.from_residual.result c.args.fs.now.land.blocks.draft.sizes (g.D.Disk.size c.args.disk.now)
    (handed c.from_residual.result NoMemory c.from_residual.ensures.1)

pub returns-clause-stops : goal.returns-clause-stops
returns-clause-stops g c = c.make_exchange.ensures.stops
