use Rattle.std.proofs.Common.{◌∙◌, sym, ap, nat_eq}
use Rattle.std.specs.Prelude.{is_some}
use Rattle.std.specs.Cmp.{nat_eq_equiv}
use Rattle.lru.specs.LruCache.{lru_cache}
use Rattle.lru.proofs.CallerLemmas.{lookup-put_entries}
use Rattle.qg_blocks.specs.NodesInMemory.{Held}
use Rattle.qg_blocks.specs.NodesFound.{fresh_at}
use Rattle.qg_blocks.proofs.Backing.{IsBacked-put, IsBacked-same}
use Rattle.qg_blocks.proofs.Telling.{IsSome-second}
use Rattle.qg_blocks.proofs.blocks.Blocks.fetch.Goals as goal

pub returns-clause-held : goal.returns-clause-held
returns-clause-held g c =
    let there = lookup-put_entries nat_eq (lru_cache c.read.new.self.clean c.read.new.self.bound) c.args.address
    c.in_ok-node.node nat_eq_equiv in
    rw c.in_ok-keep.ensures.ok (IsSome-second (fresh_at c.read.new.self.draft c.args.address) _ (ap is_some there))

pub returns-clause-stays : goal.returns-clause-stays
returns-clause-stays g c =
    let was = IsBacked-same c.args.self.now c.read.new.self (g.D.Disk.history c.args.disk.now)
    (g.D.Disk.history c.read.new.disk) c.read.ensures.same c.read.ensures.history c.requires.backed in
    record {
      draft = c.keep.ensures.draft ∙ ap (λ (h : Held). h.draft) c.read.ensures.same;
      bound = c.keep.ensures.bound ∙ ap (λ (h : Held). h.bound) c.read.ensures.same;
      backed =
          rw c.in_ok-keep.ensures.ok
          (IsBacked-put c.read.new.self (g.D.Disk.history c.read.new.disk) c.args.address c.in_ok-node.node
          (rw c.read.ensures.same c.requires.other) (rw c.read.ensures.same c.in_ok-node.ensures.kept)
          (λ events told. rw c.read.ensures.same (c.in_ok-node.ensures.found events (sym c.read.ensures.history
          ∙ told))) was);
    }
