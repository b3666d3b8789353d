use Rattle.std.proofs.Common.{◌≡◌, ℕ, ◌^◌, ◌<◌, Some, None, arith, sym, ap, subst, ◌∙◌}
use Rattle.std.specs.Prelude.{Option}
use Rattle.std.specs.Option.{option_map}
use Rattle.qg_items.specs.declared.file.InodeItem.{InodeItem}
use Rattle.qg_image.specs.declared.file.File.{File}
use Rattle.qg_root_items.specs.Written.{inode_of}
use Rattle.qg_num.specs.declared.fault.BlockFault.TheVariants.{NoMemory}
use Rattle.qg_file_edits.proofs.Handed.{handed, memory-sound}
use Rattle.qg_file_edits.proofs.Kept.{leaves-itself, own-itself}
use Rattle.qg_file_edits.proofs.Left.{done-files, done-reads, done-sound}
use Rattle.qg_file_edits.specs.Changes.{IsCut}
use Rattle.qg_file_edits.proofs.CommandExchange.{ready-cut, told-cut}
use Rattle.qg_blocks.proofs.Stopping.{stops-memory}
use Rattle.qg_file_edits.proofs.commands.truncate.Goals as goal

pub cut_change-requires : goal.cut_change-requires
cut_change-requires g c = c.requires.apart

pub make_exchange-requires-clause-ready : goal.make_exchange-requires-clause-ready
make_exchange-requires-clause-ready g c =
    ready-cut c.args.fs.now.land.space c.next-generation.result c.args.size c.in-Some.inode c.args.found.met
    c.in_ok-change.change c.in_ok-change.ensures c.requires.apart

-- ---- there is no such file

pub returns-in_default-clause-cut : goal.returns-in_default-clause-cut
returns-in_default-clause-cut g c files file holds there finds =
    let none : ◌≡◌ {A = Option InodeItem} None (Some (inode_of file)) =
    sym c.in_default.is ∙ finds.inode ∙ ap (λ (o : Option File). option_map inode_of o) there in
    absurd cc

pub returns-in_default-clause-leaves : goal.returns-in_default-clause-leaves
returns-in_default-clause-leaves g c =
    leaves-itself c.args.fs.now (g.D.Disk.history c.args.disk.now) (g.D.Disk.size c.args.disk.now) c.requires.subvolume

pub returns-in_default-clause-own : goal.returns-in_default-clause-own
returns-in_default-clause-own g c = own-itself c.args.fs.now

-- ---- want of memory

pub returns-in_err-change-clause-sound : goal.returns-in_err-change-clause-sound
returns-in_err-change-clause-sound g c events known files file holds there finds room =
    memory-sound c.from_residual.result (handed c.from_residual.result NoMemory c.from_residual.ensures.1)

pub returns-in_err-change-clause-reads : goal.returns-in_err-change-clause-reads
returns-in_err-change-clause-reads g c files file holds there finds = omega arith

pub returns-in_err-change-clause-leaves : goal.returns-in_err-change-clause-leaves
returns-in_err-change-clause-leaves g c =
    leaves-itself c.args.fs.now (g.D.Disk.history c.args.disk.now) (g.D.Disk.size c.args.disk.now) c.requires.subvolume

-- ---- all is done

pub returns-clause-cut : goal.returns-clause-cut
returns-clause-cut g c files file holds there finds =
    let fits = subst (λ (n : ℕ). n < 2 ^ 64) (c.value.ensures ∙ c.next-generation.ensures) c.fits.ensures in
    let is = subst (λ (n : ℕ). IsCut n c.args.size c.in-Some.inode c.args.found.met c.in_ok-change.change)
    c.next-generation.ensures c.in_ok-change.ensures in
    let told = told-cut c.args.fs.now (g.D.Disk.history c.args.disk.now) c.args.ino file c.in_ok-change.change files
    fits
    there holds c.args.size c.in-Some.inode c.args.found.met c.requires.aligned c.requires.near
    (sym c.in-Some.is ∙ finds.inode) finds.met is in
    done-files _ c.args.fs.now c.make_exchange.new.fs c.args.ino c.in_ok-change.change
    (g.D.Disk.history c.args.disk.now) files _ c.args.reads.now c.make_exchange.new.reads c.make_exchange.result holds
    told
    c.make_exchange.ensures.told (g.D.Disk.size c.args.disk.now) c.requires.subvolume
    c.make_exchange.ensures.table c.make_exchange.ensures.leaves.subvolume.editable.drafted
    c.make_exchange.ensures.still

pub returns-clause-sound : goal.returns-clause-sound
returns-clause-sound g c events known files file holds there finds room =
    let fits = subst (λ (n : ℕ). n < 2 ^ 64) (c.value.ensures ∙ c.next-generation.ensures) c.fits.ensures in
    let is = subst (λ (n : ℕ). IsCut n c.args.size c.in-Some.inode c.args.found.met c.in_ok-change.change)
    c.next-generation.ensures c.in_ok-change.ensures in
    let told = told-cut c.args.fs.now (g.D.Disk.history c.args.disk.now) c.args.ino file c.in_ok-change.change files
    fits
    there holds c.args.size c.in-Some.inode c.args.found.met c.requires.aligned c.requires.near
    (sym c.in-Some.is ∙ finds.inode) finds.met is in
    done-sound _ c.args.fs.now c.make_exchange.new.fs c.args.ino c.in_ok-change.change
    (g.D.Disk.history c.args.disk.now) files _ c.args.reads.now c.make_exchange.new.reads c.make_exchange.result holds
    told
    c.make_exchange.ensures.told events known room

pub returns-clause-reads : goal.returns-clause-reads
returns-clause-reads g c files file holds there finds =
    let fits = subst (λ (n : ℕ). n < 2 ^ 64) (c.value.ensures ∙ c.next-generation.ensures) c.fits.ensures in
    let is = subst (λ (n : ℕ). IsCut n c.args.size c.in-Some.inode c.args.found.met c.in_ok-change.change)
    c.next-generation.ensures c.in_ok-change.ensures in
    let told = told-cut c.args.fs.now (g.D.Disk.history c.args.disk.now) c.args.ino file c.in_ok-change.change files
    fits
    there holds c.args.size c.in-Some.inode c.args.found.met c.requires.aligned c.requires.near
    (sym c.in-Some.is ∙ finds.inode) finds.met is in
    done-reads _ c.args.fs.now c.make_exchange.new.fs c.args.ino c.in_ok-change.change
    (g.D.Disk.history c.args.disk.now) files _ c.args.reads.now c.make_exchange.new.reads c.make_exchange.result holds
    told
    c.make_exchange.ensures.told

-- ---- over any disk

pub returns-in_err-change-clause-stops : goal.returns-in_err-change-clause-stops
returns-in_err-change-clause-stops g c =
    stops-memory c.from_residual.result c.args.fs.now.land.blocks.draft.sizes (g.D.Disk.size c.args.disk.now)
    (handed c.from_residual.result NoMemory c.from_residual.ensures.1)

pub returns-clause-stops : goal.returns-clause-stops
returns-clause-stops g c = c.make_exchange.ensures.stops
