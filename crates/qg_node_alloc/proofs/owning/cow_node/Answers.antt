use Rattle.std.proofs.Common.{◌≡◌, ◌≢◌, ℕ, nat_eq, refl, sym, ◌∙◌}
use Rattle.std.specs.Prelude.{None}
use Rattle.std.proofs.lemmas.Bool.{eq-eqb, not-true, true≢false}
use Rattle.qg_blocks.specs.NodesFound.{fresh_at}
use Rattle.qg_blocks.proofs.Broken.{unread-handed}
use Rattle.qg_blocks.proofs.Stopping.{stops-err, stops-read}
use Rattle.qg_blocks.proofs.Telling.{none_of}
use Rattle.qg_node_alloc.proofs.Calls.{LeavesBe-after}
use Rattle.qg_node_alloc.proofs.Lands.{Copies-back, GivesBack-none, IsCopied-copies, Rests-after, Takes-copied}
use Rattle.qg_node_alloc.proofs.Settling.{KeepsLevels-draft, PutsFresh-puts}
use Rattle.qg_node_alloc.proofs.owning.cow_node.Goals.{then-ne+in_ok-copied, else-ne+in_ok-made}
use Rattle.qg_node_alloc.proofs.owning.cow_node.Goals as goal

pub copied-requires-clause-copied : goal.copied-requires-clause-copied
copied-requires-clause-copied g c =
    let clean : fresh_at c.args.land.now.blocks.draft c.args.at ≡ None =
    none_of (fresh_at c.args.land.now.blocks.draft c.args.at) (sym c.if-is_fresh.ensures) in
    let other : c.in_ok-now.now ≢ c.args.at = λ same. true≢false (sym (eq-eqb c.in_ok-now.now c.args.at same)
    ∙ not-true (nat_eq c.in_ok-now.now c.args.at) (sym c.if-ne.ensures)) in
    IsCopied-copies c.args.land.now c.copy_out.new.land (g.D.Disk.history c.args.disk.now)
    (g.D.Disk.history c.copy_out.new.disk) c.args.at c.in_ok-now.now c.args.owner c.args.next
    clean other c.in_ok-now.ensures.copied c.copy_out.ensures.rests.history

pub returns-in_err-copied-clause-rests : goal.returns-in_err-copied-clause-rests
returns-in_err-copied-clause-rests g c =
    let copied = c.copy_out.ensures.rests in
    let told = c.copied.ensures.rests c.args.next copied.rests.drafted in
    LeavesBe-after c.args.land.now c.copy_out.new.land c.copied.new.land (g.D.Disk.history c.args.disk.now)
    (g.D.Disk.history c.copy_out.new.disk) (g.D.Disk.history c.copied.new.disk)
    (g.D.Disk.size c.args.disk.now) (g.D.Disk.size c.copy_out.new.disk) (g.D.Disk.size c.copied.new.disk) c.args.next
    copied
    (record { rests = told; history = c.copied.ensures.disk.0; size = c.copied.ensures.disk.1 })

pub returns-in_err-made-clause-rests : goal.returns-in_err-made-clause-rests
returns-in_err-made-clause-rests g c =
    let copied = c.copy_out.ensures.rests in
    let told = c.made.ensures.rests c.args.next copied.rests.drafted in
    LeavesBe-after c.args.land.now c.copy_out.new.land c.made.new.land (g.D.Disk.history c.args.disk.now)
    (g.D.Disk.history c.copy_out.new.disk) (g.D.Disk.history c.made.new.disk)
    (g.D.Disk.size c.args.disk.now) (g.D.Disk.size c.copy_out.new.disk) (g.D.Disk.size c.made.new.disk) c.args.next
    copied
    (record { rests = told; history = c.made.ensures.disk.0; size = c.made.ensures.disk.1 })

pub returns-clause-takes : goal.returns-clause-takes
returns-clause-takes g c = elim c.if-ne.branch [
  | then-ne+in_ok-copied w ↦
      let rests = Rests-after c.args.land.now c.copy_out.new.land w.copied.new.land
      (g.D.Disk.history c.copy_out.new.disk) (g.D.Disk.history w.copied.new.disk) c.args.next
      c.copy_out.ensures.rests.rests
      (w.copied.ensures.rests c.args.next c.copy_out.ensures.rests.rests.drafted) in
      let copies = Copies-back c.args.land.now c.copy_out.new.land w.copied.new.land (g.D.Disk.history c.args.disk.now)
      c.args.at c.in_ok-now.now c.args.owner c.args.next
      c.in_ok-now.ensures.copied c.in_ok-now.ensures.slots w.in_ok-copied.ensures.gives in
      rw w.land-is
      (Takes-copied c.args.land.now w.copied.new.land (g.D.Disk.history c.args.disk.now) c.args.at c.in_ok-now.now
      c.args.owner c.args.next c.requires.ready.drafted.sizes rests.sizes rests.held_slots copies)
  | else-ne+in_ok-made w ↦
      let rests = Rests-after c.args.land.now c.copy_out.new.land w.made.new.land (g.D.Disk.history c.copy_out.new.disk)
      (g.D.Disk.history w.made.new.disk) c.args.next c.copy_out.ensures.rests.rests
      (w.made.ensures.rests c.args.next c.copy_out.ensures.rests.rests.drafted) in
      let copies = Copies-back c.args.land.now c.copy_out.new.land w.made.new.land (g.D.Disk.history c.args.disk.now)
      c.args.at c.in_ok-now.now c.args.owner c.args.next
      c.in_ok-now.ensures.copied c.in_ok-now.ensures.slots
      (GivesBack-none c.copy_out.new.land w.made.new.land c.args.at w.in_ok-made.ensures.takes) in
      rw w.land-is
      (Takes-copied c.args.land.now w.made.new.land (g.D.Disk.history c.args.disk.now) c.args.at c.in_ok-now.now
      c.args.owner c.args.next c.requires.ready.drafted.sizes rests.sizes rests.held_slots copies)
]

pub returns-clause-rests : goal.returns-clause-rests
returns-clause-rests g c =
    let copied = c.copy_out.ensures.rests in
    let then_after = LeavesBe-after c.args.land.now c.copy_out.new.land in
    elim c.if-ne.branch [
      | then-ne+in_ok-copied w ↦
          rw (w.land-is, w.disk-is)
          (then_after w.copied.new.land (g.D.Disk.history c.args.disk.now) (g.D.Disk.history c.copy_out.new.disk)
          (g.D.Disk.history w.copied.new.disk) (g.D.Disk.size c.args.disk.now)
          (g.D.Disk.size c.copy_out.new.disk) (g.D.Disk.size w.copied.new.disk) c.args.next copied
          (record {
            rests = w.copied.ensures.rests c.args.next copied.rests.drafted;
            history = w.copied.ensures.disk.0;
            size = w.copied.ensures.disk.1;
          }))
      | else-ne+in_ok-made w ↦
          rw (w.land-is, w.disk-is)
          (then_after w.made.new.land (g.D.Disk.history c.args.disk.now) (g.D.Disk.history c.copy_out.new.disk)
          (g.D.Disk.history w.made.new.disk) (g.D.Disk.size c.args.disk.now)
          (g.D.Disk.size c.copy_out.new.disk) (g.D.Disk.size w.made.new.disk) c.args.next copied
          (record {
            rests = w.made.ensures.rests c.args.next copied.rests.drafted;
            history = w.made.ensures.disk.0;
            size = w.made.ensures.disk.1;
          }))
    ]

pub returns-clause-book : goal.returns-clause-book
returns-clause-book g c =
    let put = PutsFresh-puts c.args.land.now c.copy_out.new.land c.in_ok-now.now c.args.next
    c.in_ok-now.ensures.copied.copy c.in_ok-now.ensures.copied.puts c.copy_out.ensures.spares
    c.in_ok-now.ensures.slots c.requires.ready.drafted in
    let stood : g.B.Book.settled c.args.book.now c.args.land.now c.args.disk.now
    → g.B.Book.settled c.args.book.now c.args.land.now c.copy_out.new.disk =
    λ settled. g.met.B.Book.keeps c.args.book.now c.args.land.now c.args.land.now c.args.disk.now
    c.copy_out.new.disk c.copy_out.ensures.rests.history refl
    (KeepsLevels-draft c.args.land.now c.args.land.now refl) settled in
    elim c.if-ne.branch [
      | then-ne+in_ok-copied w ↦
          rw (w.land-is, w.book-is, w.disk-is)
          (record {
            stands = w.in_ok-copied.ensures.stands;
            settled = λ settled. w.in_ok-copied.ensures.settled c.args.land.now put (stood settled);
          })
      | else-ne+in_ok-made w ↦
          rw (w.land-is, w.book-is, w.disk-is)
          (record {
            stands = w.in_ok-made.ensures.stands;
            settled = λ settled. w.in_ok-made.ensures.settled c.args.land.now put (stood settled);
          })
    ]

-- ---- over any disk

pub returns-in_err-now-clause-stops : goal.returns-in_err-now-clause-stops
returns-in_err-now-clause-stops g c =
    let sizes = c.args.land.now.blocks.draft.sizes in
    let bytes = g.D.Disk.size c.args.disk.now in
    stops-read c.from_residual.result sizes bytes c.args.at
    (unread-handed ℕ c.from_residual.result c.in_err-now.field-0.0 sizes bytes c.args.at c.from_residual.ensures.1
    c.in_err-now.ensures.broken)

pub returns-in_err-copied-clause-stops : goal.returns-in_err-copied-clause-stops
returns-in_err-copied-clause-stops g c =
    let residual = c.from_residual-in_err-copied in
    let leaves = c.copy_out.ensures.rests in
    stops-err (Unit {0}) residual.result c.in_err-copied.field-0.0 c.copy_out.new.land.blocks.draft.sizes
    c.args.land.now.blocks.draft.sizes (g.D.Disk.size c.copy_out.new.disk) (g.D.Disk.size c.args.disk.now)
    residual.ensures.1 leaves.rests.node_sizes leaves.size c.in_err-copied.ensures.stops

pub returns-in_err-made-clause-stops : goal.returns-in_err-made-clause-stops
returns-in_err-made-clause-stops g c =
    let residual = c.from_residual-in_err-made in
    let leaves = c.copy_out.ensures.rests in
    stops-err (Unit {0}) residual.result c.in_err-made.field-0.0 c.copy_out.new.land.blocks.draft.sizes
    c.args.land.now.blocks.draft.sizes (g.D.Disk.size c.copy_out.new.disk) (g.D.Disk.size c.args.disk.now)
    residual.ensures.1 leaves.rests.node_sizes leaves.size c.in_err-made.ensures.stops
