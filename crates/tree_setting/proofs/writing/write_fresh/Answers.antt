use Rattle.std.proofs.Common.{◌≡◌, ◌<◌, ℕ, ◌+◌, inl, inr, length, arith, sym, subst, ◌∙◌}
use Rattle.std.specs.Prelude.{IsSome, Some}
use Rattle.qg_node.specs.declared.node.Node.{Node}
use Rattle.qg_super.specs.declared.sizes.Sizes.{Sizes}
use Rattle.qg_blocks.specs.NodesFound.{IsNodeAt, clean_at, fresh_at}
use Rattle.qg_blocks.specs.Writing.{HasWritten}
use Rattle.qg_blocks.proofs.Flushed.{AreWritten-flushed, HasFlushed-more, IsAmong, among-next, item-is, key-listed}
use Rattle.qg_blocks.proofs.Flushed.{listed-fresh, some-is}
use Rattle.qg_blocks.proofs.Telling.{IsSome-first, fresh-held}
use Rattle.qg_blocks.proofs.Written.{IsBacked-keeps}
use Rattle.tree_setting.proofs.writing.write_fresh.Goals as goal

pub peek-requires : goal.peek-requires
peek-requires g c =
    let items = c.as_slice-address-items.result.now in
    let draft = c.args.blocks.now.draft in
    let index = c.loop-address.address-index in
    let below : index < length items = omega arith in
    let is = item-is items index c.address-item.result below c.address-item.is in
    let listed = listed-fresh draft items index c.loop-address.invariant.items below in
    let some = subst (λ (at : ℕ). IsSome (fresh_at draft at)) (sym is) listed in
    IsSome-first (fresh_at draft c.address-item.result) (clean_at c.args.blocks.now c.address-item.result) some

pub loop-address-preserved : goal.loop-address-preserved
loop-address-preserved g c =
    let items = c.as_slice-address-items.result.now in
    let draft = c.args.blocks.now.draft in
    let index = c.loop-address.address-index in
    let item = c.address-item.result in
    let below : index < length items = omega arith in
    let is = item-is items index item below c.address-item.is in
    let node = some-is (fresh_at draft item) (subst (λ (at : ℕ). IsSome (fresh_at draft at)) (sym is)
    (listed-fresh draft items index c.loop-address.invariant.items below)) in
    let same : c.peek.result.now ≡ node.0 =
    fresh-held c.args.blocks.now item node.0 c.peek.result.now node.1 c.peek.ensures in
    let before = g.D.Disk.history c.loop-address.disk in
    let after = g.D.Disk.history c.write_one.new.disk in
    let written = subst (λ (sizes : Sizes). HasWritten sizes before after item node.0) (sym c.requires.sizes)
    (rw same at c.in_ok-write_one.ensures.written) in
    record {
      items = c.loop-address.invariant.items;
      buffer = c.loop-address.invariant.buffer;
      size = omega arith;
      flushed = HasFlushed-more draft (g.D.Disk.history c.args.disk.now) before after (IsAmong items index)
          (IsAmong items (index + 1)) item node.0 node.1
          (λ at among. elim (among-next items index at among) [
            | inl earlier ↦ inl earlier
            | inr last ↦ inr (last ∙ sym is)
          ])
          c.loop-address.invariant.flushed written;
      kept = λ at other among fresh. elim (among-next items index at among) [
        | inl earlier ↦ c.loop-address.invariant.kept at other earlier fresh
        | inr last ↦
            let there : at ≡ item = last ∙ sym is in
            let held : c.peek.result.now ≡ other =
            fresh-held c.args.blocks.now item other c.peek.result.now
            (subst (λ (a : ℕ). fresh_at draft a ≡ Some other) there fresh) c.peek.ensures in
            subst (λ (a : ℕ). IsNodeAt c.args.sizes.now.nodesize a other) (sym there)
            (rw held at c.in_ok-write_one.ensures.kept)
      ];
    }

pub written-requires-clause-backed : goal.written-requires-clause-backed
written-requires-clause-backed g c =
    let before = g.D.Disk.history c.args.disk.now in
    IsBacked-keeps c.args.blocks.now before (g.D.Disk.history c.loop-address.disk)
    c.loop-address.invariant.flushed.others c.requires.backed

pub written-requires-clause-written : goal.written-requires-clause-written
written-requires-clause-written g c =
    let items = c.as_slice-address-items.result.now in
    let draft = c.args.blocks.now.draft in
    let count = c.loop-address.address-index in
    let all : count ≡ length items = omega arith in
    let among : (at : ℕ) (node : Node) → fresh_at draft at ≡ Some node → IsAmong items count at =
    λ at node fresh. rw (all, c.loop-address.invariant.items) (key-listed draft.fresh at node fresh) in
    AreWritten-flushed draft (g.D.Disk.history c.args.disk.now) (g.D.Disk.history c.loop-address.disk)
    (IsAmong items count) c.loop-address.invariant.flushed among
    (λ at node fresh. subst (λ (sizes : Sizes). IsNodeAt sizes.nodesize at node) (sym c.requires.sizes)
    (c.loop-address.invariant.kept at node (among at node fresh) fresh))
