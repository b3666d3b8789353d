use Rattle.std.proofs.Common.{◌∙◌, inl, inr, refl, sym}
use Rattle.qg_device.proofs.Causes.{end-by, end-other}
use Rattle.qg_program.specs.declared.status.Status.TheVariants as status
use Rattle.qg_program.proofs.Drawn.{lines-loaded, lines-stopped}
use Rattle.qg_program.proofs.Generated.{ends-by-generators, generates-ended, generates-handed, generates-stopped}
use Rattle.qg_program.proofs.Generated.{stop-generates}
use Rattle.qg_program.proofs.Replied.{failure-told}
use Rattle.qg_program.proofs.generate.run_generated.Goals as goal

pub returns-in-Ok-clause-generates : goal.returns-in-Ok-clause-generates
returns-in-Ok-clause-generates g c = λ state events opened stands opens told.
    let loaded = rw (← c.as_slice.ensures) at c.in-Ok.ensures.loaded state opened stands told in
    generates-ended c.put_and_end.result c.as_slice.result.now _ _ opens loaded c.put_and_end.ensures.put

pub returns-clause-generates : goal.returns-clause-generates
returns-clause-generates g c = λ state events opened stands opens told.
    let sound = c.in-Err.ensures.sound state opened stands told in
    let other = c.end.ensures.other sound in
    generates-handed c.in-Err.status c.end.result state c.args.seed c.args.count events _ _ _ other.0
    (generates-stopped c.in-Err.status c.args.seed c.args.count opens
    (c.in-Err.ensures.stopped state opened stands told) other.1 c.in-Err.ensures.ends sound)

pub returns-in-Ok-clause-crashes : goal.returns-in-Ok-clause-crashes
returns-in-Ok-clause-crashes g c = λ state events opened after stands opens told now sound rests.
    let loaded = rw (← c.as_slice.ensures) at c.in-Ok.ensures.loaded state opened stands told in
    lines-loaded state c.args.seed c.args.count events opened after
    (record { opens = opens; stands = sound; rests = rests }) _
    c.put_and_end.result c.as_slice.result.now _ _ now loaded c.put_and_end.ensures.put

pub returns-clause-crashes : goal.returns-clause-crashes
returns-clause-crashes g c = λ state events opened after stands opens told now image rests.
    let sound = c.in-Err.ensures.sound state opened stands told in
    let other = c.end.ensures.other sound in
    lines-stopped state c.args.seed c.args.count events opened after
    (record { opens = opens; stands = image; rests = rests }) _
    c.in-Err.status c.end.result _ _ now (c.in-Err.ensures.stopped state opened stands told) other.0 other.1
    c.in-Err.ensures.ends sound

pub returns-clause-sound : goal.returns-clause-sound
returns-clause-sound g c = λ stands is.
    let sound = c.in-Err.ensures.sound stands.state stands.events stands.stands stands.told in
    let other = c.end.ensures.other sound in
    sound (sym other.0 ∙ is)

pub returns-in-Ok-clause-ends : goal.returns-in-Ok-clause-ends
returns-in-Ok-clause-ends g c =
    ends-by-generators c.put_and_end.result _ refl (λ is. absurd cc) c.put_and_end.ensures.ends

pub returns-clause-ends : goal.returns-clause-ends
returns-clause-ends g c =
    let stops = stop-generates c.in-Err.status c.in-Err.ensures.ends in
    ends-by-generators c.end.result c.in-Err.status stops.0 stops.1 c.end.ensures.ends

pub returns-in-Ok-clause-sound : goal.returns-in-Ok-clause-sound
returns-in-Ok-clause-sound g c = λ stands is. elim c.put_and_end.ensures.ends [
  | inl done ↦ absurd cc
  | inr fails ↦ elim fails [
    | inl sink ↦ absurd cc
    | inr memory ↦ absurd cc
  ]
]

pub returns-in-Ok-clause-told : goal.returns-in-Ok-clause-told
returns-in-Ok-clause-told g c = λ is. elim c.put_and_end.ensures.ends [
  | inl done ↦ absurd cc
  | inr fails ↦ elim fails [
    | inl sink ↦ absurd cc
    | inr memory ↦ absurd cc
  ]
]

pub returns-clause-told : goal.returns-clause-told
returns-clause-told g c = λ is. elim c.end.ensures.ends [
  | inl same ↦ let image = sym same ∙ is in
      failure-told _ _ c.load.new.text (c.in-Err.ensures.told image) (c.end.ensures.image image is)
  | inr fails ↦ elim fails [
    | inl sink ↦ absurd cc
    | inr memory ↦ absurd cc
  ]
]

pub returns-in-Ok-clause-sink_fault : goal.returns-in-Ok-clause-sink_fault
returns-in-Ok-clause-sink_fault g c = c.put_and_end.ensures.cause (λ is. absurd cc)

pub returns-clause-sink_fault : goal.returns-clause-sink_fault
returns-clause-sink_fault g c = c.end.ensures.cause (λ is. let stops = rw is at c.in-Err.ensures.ends in absurd cc)

pub returns-in-Ok-clause-disk_fault : goal.returns-in-Ok-clause-disk_fault
returns-in-Ok-clause-disk_fault g c =
    end-other status.Disk (g.D.Disk.faults c.args.disk.now) (g.D.Disk.faults c.load.new.disk) c.put_and_end.result
    c.in-Ok.ensures.cause.fine
    (λ is. elim c.put_and_end.ensures.ends [
      | inl done ↦ absurd cc
      | inr fails ↦ elim fails [
        | inl sink ↦ absurd cc
        | inr memory ↦ absurd cc
      ]
    ])

pub returns-clause-disk_fault : goal.returns-clause-disk_fault
returns-clause-disk_fault g c =
    end-by status.Disk (g.D.Disk.faults c.args.disk.now) (g.D.Disk.faults c.load.new.disk) c.in-Err.status c.end.result
    (λ is. (c.end.ensures.other (λ image. let both = sym is ∙ image in absurd cc)).0 ∙ is)
    (λ is. elim c.end.ensures.ends [
      | inl same ↦ sym same ∙ is
      | inr fails ↦ elim fails [
        | inl sink ↦ absurd cc
        | inr memory ↦ absurd cc
      ]
    ])
    c.in-Err.ensures.cause
