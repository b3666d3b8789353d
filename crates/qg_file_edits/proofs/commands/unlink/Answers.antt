use Rattle.std.proofs.Common.{ℕ, ◌^◌, ◌<◌, subst, ◌∙◌}
use Rattle.qg_file_edits.proofs.Left.{done-files, done-reads, done-sound}
use Rattle.qg_file_edits.proofs.CommandExchange.{ready-unlink, told-unlink}
use Rattle.qg_file_edits.proofs.commands.unlink.Goals as goal

pub make_exchange-requires-clause-ready : goal.make_exchange-requires-clause-ready
make_exchange-requires-clause-ready g c =
    ready-unlink c.args.fs.now.land.space c.args.met c.unlink_change-change.result c.unlink_change-change.ensures
    c.requires.apart

pub returns-clause-unlinked : goal.returns-clause-unlinked
returns-clause-unlinked g c files file holds there found =
    let fits = subst (λ (n : ℕ). n < 2 ^ 64) (c.value.ensures ∙ c.next.ensures) c.fits.ensures in
    let told = told-unlink c.args.fs.now (g.D.Disk.history c.args.disk.now) c.args.ino file
    c.unlink_change-change.result
    files fits there holds c.args.met found c.unlink_change-change.ensures in
    done-files _ c.args.fs.now c.make_exchange.new.fs c.args.ino c.unlink_change-change.result
    (g.D.Disk.history c.args.disk.now) files _ c.args.reads.now c.make_exchange.new.reads c.make_exchange.result holds
    told
    c.make_exchange.ensures.told (g.D.Disk.size c.args.disk.now) c.requires.subvolume
    c.make_exchange.ensures.table c.make_exchange.ensures.leaves.subvolume.editable.drafted
    c.make_exchange.ensures.still

pub returns-clause-sound : goal.returns-clause-sound
returns-clause-sound g c events known files file holds there found room =
    let fits = subst (λ (n : ℕ). n < 2 ^ 64) (c.value.ensures ∙ c.next.ensures) c.fits.ensures in
    let told = told-unlink c.args.fs.now (g.D.Disk.history c.args.disk.now) c.args.ino file
    c.unlink_change-change.result
    files fits there holds c.args.met found c.unlink_change-change.ensures in
    done-sound _ c.args.fs.now c.make_exchange.new.fs c.args.ino c.unlink_change-change.result
    (g.D.Disk.history c.args.disk.now) files _ c.args.reads.now c.make_exchange.new.reads c.make_exchange.result holds
    told
    c.make_exchange.ensures.told events known room

pub returns-clause-reads : goal.returns-clause-reads
returns-clause-reads g c files file holds there found =
    let fits = subst (λ (n : ℕ). n < 2 ^ 64) (c.value.ensures ∙ c.next.ensures) c.fits.ensures in
    let told = told-unlink c.args.fs.now (g.D.Disk.history c.args.disk.now) c.args.ino file
    c.unlink_change-change.result
    files fits there holds c.args.met found c.unlink_change-change.ensures in
    done-reads _ c.args.fs.now c.make_exchange.new.fs c.args.ino c.unlink_change-change.result
    (g.D.Disk.history c.args.disk.now) files _ c.args.reads.now c.make_exchange.new.reads c.make_exchange.result holds
    told
    c.make_exchange.ensures.told

-- ---- over any disk

pub returns-clause-stops : goal.returns-clause-stops
returns-clause-stops g c = c.make_exchange.ensures.stops
