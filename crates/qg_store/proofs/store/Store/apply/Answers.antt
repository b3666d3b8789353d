use Rattle.std.proofs.Common.{◌≡◌, ◌∙◌, ◌<◌, inl, List, None, false, true, ap, refl, subst, sym}
use Rattle.std.specs.Prelude.{Err}
use Rattle.std.proofs.lemmas.Bool.{true≢false}
use Rattle.qg_device.specs.History.{History}
use Rattle.qg_num.specs.Fault.{stop_of}
use Rattle.qg_num.specs.declared.answer.Answer.{Answer}
use Rattle.qg_num.specs.declared.command.Command.{Command}
use Rattle.qg_num.specs.declared.command.Command.TheVariants.{Commit}
use Rattle.qg_num.specs.declared.fault.BlockFault.{BlockFault}
use Rattle.qg_num.specs.declared.fault.BlockFault.TheVariants.{Disk, Image, NoMemory}
use Rattle.qg_num.specs.declared.fault.Stop.{Stop}
use Rattle.qg_image.specs.State.{State}
use Rattle.qg_blocks.specs.Stopping.{StopsForCause}
use Rattle.qg_blocks.specs.NodesFound.{BreaksNone, IfBroken}
use Rattle.qg_image_commits.specs.Answering.{comes_to_disk}
use Rattle.qg_image_commits.specs.Keeping.{IsKeptOf}
use Rattle.qg_image_commits.specs.Stored.{ComesToDisk, IsIntact, IsStoreOf, Stored, is_of_image, sizes_stored}
use Rattle.qg_store.proofs.StepsOfCommand.{steps-done, steps-stopped}
use Rattle.qg_store.specs.Stopping.{HasStopCause}
use Rattle.qg_store.proofs.Outlived.{outlives}
use Rattle.qg_store.proofs.Stopped.{cause-of-stop}
use Rattle.qg_store.proofs.store.Store.apply.Goals as goal

-- a fault that names no rule stops a store for no rule
of-no-rule : (fault : BlockFault) → BreaksNone {A = Answer} (Err fault) → is_of_image (stop_of fault) ≡ false
of-no-rule NoMemory none = refl
of-no-rule Disk none = refl
of-no-rule (Image rule address) none = absurd none

-- what a store that is of a state keeps, is kept of it
kept-in : (inside store : Stored) (state : State) (history : History) → inside ≡ store
    → IsStoreOf store state history → IsKeptOf inside.kept state history
kept-in inside store state history is keeps =
    subst (λ (s : Stored). IsKeptOf s.kept state history) (sym is) keeps.keeps

-- where a command doesn't come to the disk of a store
comes-none : (inside store : Stored) (command : Command) → inside ≡ store → store.stopped ≡ None
    → (ComesToDisk store command → ⊥) → comes_to_disk command ≡ true → (command ≡ Commit → 0 < inside.kept.pending) → ⊥
comes-none inside store command is running none comes some =
    none (record {
      running = running;
      commits = comes;
      some = λ same. subst (λ (s : Stored). 0 < s.kept.pending) is (some same);
    })

pub returns-in-Ok-clause-still : goal.returns-in-Ok-clause-still
returns-in-Ok-clause-still g c = λ none. c.in-Ok.ensures.still
    (comes-none _ c.args.self.now c.args.command.now c.self.view_is
    (ap (λ (s : Stored). s.stopped) (sym c.self.view_is) ∙ c.in_default.is) none)

pub returns-in-Err-clause-still : goal.returns-in-Err-clause-still
returns-in-Err-clause-still g c = λ none. c.in-Err.ensures.still
    (comes-none _ c.args.self.now c.args.command.now c.self.view_is
    (ap (λ (s : Stored). s.stopped) (sym c.self.view_is) ∙ c.in_default.is) none)

pub returns-in-Ok-clause-machine : goal.returns-in-Ok-clause-machine
returns-in-Ok-clause-machine g c = λ state events store told.
    let keeps = kept-in _ c.args.self.now state (g.D.Disk.history c.args.disk.now) c.self.view_is store in
    record {
      step = c.in-Ok.ensures.step state events keeps told;
      so_far = c.in-Ok.ensures.so_far state events keeps told;
      sound = tt;
    }

pub returns-in-Err-clause-machine : goal.returns-in-Err-clause-machine
returns-in-Err-clause-machine g c = λ state events store told.
    let keeps = kept-in _ c.args.self.now state (g.D.Disk.history c.args.disk.now) c.self.view_is store in
    record {
      step = tt;
      so_far = c.in-Err.ensures.so_far state events keeps told;
      sound = ap is_of_image c.stop_of-stop.ensures
          ∙ of-no-rule c.in-Err.fault (c.in-Err.ensures.sound state events told keeps);
    }

-- ---- crashes

pub returns-in-Some-clause-crashes : goal.returns-in-Some-clause-crashes
returns-in-Some-clause-crashes g c = λ state committed events store told rests last.
    outlives state c.args.command.now committed events _ last rests _ _ (inl told) tt

pub returns-in-Ok-clause-crashes : goal.returns-in-Ok-clause-crashes
returns-in-Ok-clause-crashes g c = λ state committed events store told rests last.
    let keeps = kept-in _ c.args.self.now state (g.D.Disk.history c.args.disk.now) c.self.view_is store in
    outlives state c.args.command.now committed events _ last rests _ _ (c.in-Ok.ensures.so_far state events keeps told)
    (c.in-Ok.ensures.step state events keeps told)

pub returns-in-Err-clause-crashes : goal.returns-in-Err-clause-crashes
returns-in-Err-clause-crashes g c = λ state committed events store told rests last.
    let keeps = kept-in _ c.args.self.now state (g.D.Disk.history c.args.disk.now) c.self.view_is store in
    outlives state c.args.command.now committed events _ last rests _ _
    (c.in-Err.ensures.so_far state events keeps told)
    tt

-- ---- a stop by what was read

-- a fault that names a rule stops a store for it
of-image : (fault : BlockFault) (Holds : Type 0) → IfBroken {A = Answer} (Err fault) Holds
    → is_of_image (stop_of fault) ≡ true → Holds
of-image NoMemory Holds broken is = absurd (true≢false (sym is))
of-image Disk Holds broken is = absurd (true≢false (sym is))
of-image (Image rule address) Holds broken is = broken

pub returns-in-Some-clause-intact : goal.returns-in-Some-clause-intact
returns-in-Some-clause-intact g c = record { intact = λ is. absurd (true≢false (sym is)); cause = tt }

pub returns-in-Ok-clause-intact : goal.returns-in-Ok-clause-intact
returns-in-Ok-clause-intact g c = record { intact = tt; cause = tt }

pub returns-in-Err-clause-intact : goal.returns-in-Err-clause-intact
returns-in-Err-clause-intact g c =
    let bytes = g.D.Disk.size c.args.disk.now in
    record {
      intact = λ is.
          subst (λ (s : Stored). IsIntact c.args.command.now s.kept c.answer.new.kept
          (g.D.Disk.history c.args.disk.now) (g.D.Disk.history c.answer.new.disk)) c.self.view_is
          (of-image c.in-Err.fault _ c.in-Err.ensures.intact.intact (ap is_of_image (sym c.stop_of-stop.ensures) ∙ is));
      cause = subst (λ (stop : Stop). HasStopCause (sizes_stored c.args.self.now) bytes stop)
          (sym c.stop_of-stop.ensures)
          (cause-of-stop c.in-Err.fault (sizes_stored c.args.self.now) bytes
          (subst (λ (s : Stored). StopsForCause {A = Answer} (Err c.in-Err.fault) (sizes_stored s) bytes)
          c.self.view_is c.in-Err.ensures.intact.cause));
    }

-- ---- the steps that were taken

pub returns-in-Some-clause-counts : goal.returns-in-Some-clause-counts
returns-in-Some-clause-counts g c =
    steps-stopped c.args.command.now _ c.args.self.now _ _ _ c.args.looks.now c.args.reads.now c.args.reads.now

pub returns-in-Ok-clause-counts : goal.returns-in-Ok-clause-counts
returns-in-Ok-clause-counts g c =
    steps-done c.args.command.now _ c.args.self.now _ _ _ _ c.args.looks.now c.args.reads.now c.answer.new.reads
    (λ state store. kept-in _ c.args.self.now state (g.D.Disk.history c.args.disk.now) c.self.view_is store)
    c.in-Ok.ensures.reads

pub returns-in-Err-clause-counts : goal.returns-in-Err-clause-counts
returns-in-Err-clause-counts g c =
    steps-stopped c.args.command.now _ c.args.self.now _ _ _ c.args.looks.now c.args.reads.now c.answer.new.reads
