use Rattle.std.proofs.Common.{◌≡◌, ◌<◌, ℕ, ◌+◌, inl, inr, length, arith, sym, subst, ap, ◌∙◌}
use Rattle.std.specs.Prelude.{IsSome, Some, slice_index}
use Rattle.qg_node.specs.declared.node.Node.{Node}
use Rattle.qg_super.specs.declared.sizes.Sizes.{Sizes}
use Rattle.qg_blocks.specs.NodesFound.{IsNodeAt, fresh_at}
use Rattle.qg_blocks.specs.Writing.{HasWritten}
use Rattle.qg_blocks.proofs.Flushed.{AreWritten-flushed, HasFlushed-more, HasFlushed-none, IsAmong, among-next}
use Rattle.qg_blocks.proofs.Flushed.{among-none, item-is, key-listed, listed-fresh, some-is}
use Rattle.qg_blocks.proofs.Written.{IsBacked-keeps}
use Rattle.tests_of_structures.proofs.blocks.write_all.Goals as goal

pub write_one-requires : goal.write_one-requires
write_one-requires g c =
    let items = c.as_slice-address-items.result.now in
    let below : c.loop-address.address-index < length items = omega arith in
    let is = item-is items c.loop-address.address-index c.address-item.result below c.address-item.is in
    subst (λ (at : ℕ). IsSome (fresh_at c.args.blocks.now.draft at)) (sym is)
    (listed-fresh c.args.blocks.now.draft items c.loop-address.address-index c.loop-address.invariant.items below)

pub loop-address-init : goal.loop-address-init
loop-address-init g c =
    let items = c.as_slice-address-items.result.now in
    record {
      items = c.as_slice-address-items.ensures ∙ c.in_ok-addresses.ensures.addresses;
      flushed = HasFlushed-none c.args.blocks.now.draft (g.D.Disk.history c.args.disk.now) (IsAmong items 0)
          (among-none items);
      kept = λ at node is fresh. absurd (among-none items at is);
    }

pub loop-address-preserved : goal.loop-address-preserved
loop-address-preserved g c =
    let items = c.as_slice-address-items.result.now in
    let draft = c.args.blocks.now.draft in
    let index = c.loop-address.address-index in
    let item = c.address-item.result in
    let below : index < length items = omega arith in
    let is = item-is items index item below c.address-item.is in
    let node = some-is (fresh_at draft item) (subst (λ (at : ℕ). IsSome (fresh_at draft at)) (sym is)
    (listed-fresh draft items index c.loop-address.invariant.items below)) in
    let written = subst (λ (sizes : Sizes). HasWritten sizes (g.D.Disk.history c.loop-address.disk)
    (g.D.Disk.history c.write_one.new.disk) item node.0) (sym c.requires.sizes)
    (c.in_ok-write_one.ensures.written node.0 node.1) in
    record {
      items = c.loop-address.invariant.items;
      flushed = HasFlushed-more draft (g.D.Disk.history c.args.disk.now) (g.D.Disk.history c.loop-address.disk)
          (g.D.Disk.history c.write_one.new.disk)
          (IsAmong items index) (IsAmong items (index + 1)) item node.0 node.1
          (λ at among. elim (among-next items index at among) [
            | inl before ↦ inl before
            | inr last ↦ inr (last ∙ sym is)
          ])
          c.loop-address.invariant.flushed written;
      kept = λ at other among fresh. elim (among-next items index at among) [
        | inl before ↦ c.loop-address.invariant.kept at other before fresh
        | inr last ↦
            let there : at ≡ item = last ∙ sym is in
            subst (λ (a : ℕ). IsNodeAt 4096 a other) (sym there)
            (c.in_ok-write_one.ensures.kept other (subst (λ (a : ℕ). fresh_at draft a ≡ Some other) there fresh))
      ];
    }

pub written-requires-clause-backed : goal.written-requires-clause-backed
written-requires-clause-backed g c =
    IsBacked-keeps c.args.blocks.now (g.D.Disk.history c.args.disk.now) (g.D.Disk.history c.loop-address.disk)
    c.loop-address.invariant.flushed.others c.requires.backed

pub written-requires-clause-written : goal.written-requires-clause-written
written-requires-clause-written g c =
    let items = c.as_slice-address-items.result.now in
    let draft = c.args.blocks.now.draft in
    let all : c.loop-address.address-index ≡ length items = omega arith in
    let among : (at : ℕ) (node : Node) → fresh_at draft at ≡ Some node → IsAmong items c.loop-address.address-index at =
    λ at node fresh. rw (all, c.loop-address.invariant.items) (key-listed draft.fresh at node fresh) in
    AreWritten-flushed draft (g.D.Disk.history c.args.disk.now) (g.D.Disk.history c.loop-address.disk)
    (IsAmong items c.loop-address.address-index) c.loop-address.invariant.flushed among
    (λ at node fresh. subst (λ (sizes : Sizes). IsNodeAt sizes.nodesize at node) (sym c.requires.sizes)
    (c.loop-address.invariant.kept at node (among at node fresh) fresh))
