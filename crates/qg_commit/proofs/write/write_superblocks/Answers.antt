use Rattle.std.proofs.Common.{◌≡◌, ℕ, [], ◌∷◌, List, ap, subst, ◌∙◌}
use Rattle.qg_device.specs.History.{History, Wrote, with_event}
use Rattle.qg_disk.specs.Disk.{Writes}
use Rattle.qg_super.specs.declared.superblock.Super.{Super}
use Rattle.qg_super.specs.Places.{first_place, second_place}
use Rattle.qg_super.specs.SuperText.{super_text}
use Rattle.qg_commit.specs.Calls.{Call, WriteAt, Sync}
use Rattle.qg_commit.proofs.Fronts.{comes-err, comes-none, comes-sync, comes-synced, comes-write, comes-written}
use Rattle.qg_commit.proofs.write.write_superblocks.Goals as goal

-- the calls from the second superblock on
abbrev second_calls : Super → List Call
second_calls super = WriteAt second_place (super_text second_place super) ∷ []

-- and from the first on
abbrev first_calls : Super → List Call
first_calls super = WriteAt first_place (super_text first_place super) ∷ Sync ∷ second_calls super

pub returns-in_err-sync-clause-front : goal.returns-in_err-sync-clause-front
returns-in_err-sync-clause-front g c =
    comes-err _ _ _ _
    (comes-sync (first_calls c.args.superblock.now) _ _ c.sync.result c.sync.ensures.event)

pub returns-in_err-write_at-clause-front : goal.returns-in_err-write_at-clause-front
returns-in_err-write_at-clause-front g c =
    let super = c.args.superblock.now in
    let history = g.D.Disk.history in
    comes-err _ _ _ _
    (comes-synced (first_calls super) (history c.args.disk.now) (history c.sync.new.self) (history c.write_at.new.self)
    c.in_ok-sync.ensures.event
    (comes-write first_place (super_text first_place super) (Sync ∷ second_calls super) (history c.sync.new.self)
    (history c.write_at.new.self) c.write_at.result
    (subst (Writes (history c.sync.new.self) (history c.write_at.new.self) c.write_at.result first_place)
    c.write_super.ensures c.write_at.ensures.event)))

-- what was done once the first superblock was written
wrote : (old new : History) (place : ℕ) {bytes text : List ℕ} → bytes ≡ text
    → new ≡ with_event (Wrote place bytes) old → new ≡ with_event (Wrote place text) old
wrote old new place same is = is ∙ ap (λ (text : List ℕ). with_event (Wrote place text) old) same

pub returns-in_err-sync-2-clause-front : goal.returns-in_err-sync-2-clause-front
returns-in_err-sync-2-clause-front g c =
    let super = c.args.superblock.now in
    let history = g.D.Disk.history in
    comes-err _ _ _ _
    (comes-synced (first_calls super) (history c.args.disk.now) (history c.sync.new.self) (history c.sync-2.new.self)
    c.in_ok-sync.ensures.event
    (comes-written first_place (super_text first_place super) (Sync ∷ second_calls super) (history c.sync.new.self)
    (history c.write_at.new.self) (history c.sync-2.new.self)
    (wrote (history c.sync.new.self) (history c.write_at.new.self) first_place c.write_super.ensures
    c.in_ok-write_at.ensures.event)
    (comes-sync (second_calls super) (history c.write_at.new.self) (history c.sync-2.new.self) c.sync-2.result
    c.sync-2.ensures.event)))

pub returns-in_err-write_at-2-clause-front : goal.returns-in_err-write_at-2-clause-front
returns-in_err-write_at-2-clause-front g c =
    let super = c.args.superblock.now in
    let history = g.D.Disk.history in
    let last = history c.write_at-2.new.self in
    comes-err _ _ _ _
    (comes-synced (first_calls super) (history c.args.disk.now) (history c.sync.new.self) last
    c.in_ok-sync.ensures.event
    (comes-written first_place (super_text first_place super) (Sync ∷ second_calls super) (history c.sync.new.self)
    (history c.write_at.new.self) last
    (wrote (history c.sync.new.self) (history c.write_at.new.self) first_place c.write_super.ensures
    c.in_ok-write_at.ensures.event)
    (comes-synced (second_calls super) (history c.write_at.new.self) (history c.sync-2.new.self) last
    c.in_ok-sync-2.ensures.event
    (comes-write second_place (super_text second_place super) [] (history c.sync-2.new.self) last
    c.write_at-2.result
    (subst (Writes (history c.sync-2.new.self) last c.write_at-2.result second_place) c.write_super-2.ensures
    c.write_at-2.ensures.event)))))

pub returns-in_err-sync-3-clause-front : goal.returns-in_err-sync-3-clause-front
returns-in_err-sync-3-clause-front g c =
    let super = c.args.superblock.now in
    let history = g.D.Disk.history in
    let last = history c.sync-3.new.self in
    comes-err _ _ _ _
    (comes-synced (first_calls super) (history c.args.disk.now) (history c.sync.new.self) last
    c.in_ok-sync.ensures.event
    (comes-written first_place (super_text first_place super) (Sync ∷ second_calls super) (history c.sync.new.self)
    (history c.write_at.new.self) last
    (wrote (history c.sync.new.self) (history c.write_at.new.self) first_place c.write_super.ensures
    c.in_ok-write_at.ensures.event)
    (comes-synced (second_calls super) (history c.write_at.new.self) (history c.sync-2.new.self) last
    c.in_ok-sync-2.ensures.event
    (comes-written second_place (super_text second_place super) [] (history c.sync-2.new.self)
    (history c.write_at-2.new.self) last
    (wrote (history c.sync-2.new.self) (history c.write_at-2.new.self) second_place c.write_super-2.ensures
    c.in_ok-write_at-2.ensures.event)
    (comes-none [] (history c.write_at-2.new.self) last c.in_err-sync-3.ensures.event)))))
