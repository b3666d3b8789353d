use Rattle.std.proofs.Common.{◌≡◌, ℕ, false, arith, refl, sym, ap, subst, inl, inr, ◌∙◌, Ok, Err}
use Rattle.qg_device.specs.History.{content}
use Rattle.qg_node.specs.NodeText.{IsNodeSize}
use Rattle.qg_super.proofs.Served.{SizesFit-is_served}
use Rattle.qg_blocks.specs.Standing.{has_slot, ruled}
use Rattle.qg_blocks.proofs.Stands.{HasSlot-has_slot, standing-nowhere, standing-read}
use Rattle.qg_blocks.proofs.reading.read_at.Goals as goal

pub returns-then-not-has_slot-clause-found : goal.returns-then-not-has_slot-clause-found
returns-then-not-has_slot-clause-found g c events told =
    let none : has_slot c.args.sizes.now c.len.result c.args.address ≡ false = sym c.has_slot.ensures
    ∙ c.if-not-has_slot.true in
    rw c.broken.ensures (
      refl,
      standing-nowhere c.args.sizes.now c.len.result c.args.address (content events)
          (c.len.ensures ∙ g.met.D.Disk.sized c.args.disk.now events told) none,
    )

pub read-requires : goal.read-requires
read-requires g c =
    let inside = (HasSlot-has_slot c.args.sizes.now c.len.result c.args.address (sym c.has_slot.ensures
    ∙ c.if-not-has_slot.false)).inside in
    omega (arith, inside, c.len.ensures, c.value.ensures, c.requires.buffer)

pub read_node-requires : goal.read_node-requires
read_node-requires g c =
    subst IsNodeSize (sym (c.read.auto.buf ∙ c.requires.buffer))
    (SizesFit-is_served c.args.sizes.now c.requires.served).node_size

pub returns-in-Ok-read_node-clause-found : goal.returns-in-Ok-read_node-clause-found
returns-in-Ok-read_node-clause-found g c events told =
    let has = sym c.has_slot.ensures ∙ c.if-not-has_slot.false in
    let text = rw (c.value.ensures, c.requires.buffer) at (c.in-Ok.ensures.bytes events told) in
    standing-read c.args.sizes.now c.len.result c.args.address (content events) c.read.new.buf
    (Ok c.in-Ok-read_node.node)
    (c.len.ensures ∙ g.met.D.Disk.sized c.args.disk.now events told) has text c.in-Ok-read_node.ensures.exact

pub returns-in-Err-Bad-clause-found : goal.returns-in-Err-Bad-clause-found
returns-in-Err-Bad-clause-found g c events told =
    let has = sym c.has_slot.ensures ∙ c.if-not-has_slot.false in
    let text = rw (c.value.ensures, c.requires.buffer) at (c.in-Ok.ensures.bytes events told) in
    let exact = rw c.in-Err-Bad.field-0-is at c.in-Err-Bad.ensures.exact in
    rw (c.broken-in-Err-Bad.ensures, c.rule.ensures) (
      refl,
      standing-read c.args.sizes.now c.len.result c.args.address (content events) c.read.new.buf
          (Err c.in-Err-Bad.fault)
          (c.len.ensures ∙ g.met.D.Disk.sized c.args.disk.now events told) has text exact,
    )

-- ---- over any disk

pub returns-then-not-has_slot-clause-broken : goal.returns-then-not-has_slot-clause-broken
returns-then-not-has_slot-clause-broken g c =
    let none : has_slot c.args.sizes.now c.len.result c.args.address ≡ false = sym c.has_slot.ensures
    ∙ c.if-not-has_slot.true in
    rw c.broken.ensures (
      refl,
      inl (
        subst (λ (bytes : ℕ). has_slot c.args.sizes.now bytes c.args.address ≡ false) c.len.ensures none,
        refl,
      ),
    )

pub returns-in-Err-Bad-clause-broken : goal.returns-in-Err-Bad-clause-broken
returns-in-Err-Bad-clause-broken g c =
    let exact = rw c.in-Err-Bad.field-0-is at c.in-Err-Bad.ensures.exact in
    rw (c.broken-in-Err-Bad.ensures, c.rule.ensures) (
      refl,
      inr (record {
        bytes = c.read.new.buf;
        whole = c.read.auto.buf ∙ c.requires.buffer;
        fails = ap ruled exact;
      }),
    )
