use Rattle.std.proofs.Common.{◌≡◌, ◌∙◌, sym, ap, nat_eq, ℕ, refl}
use Rattle.std.specs.Map.{remove_entry}
use Rattle.lru.specs.LruCache.{LruCache}
use Rattle.qg_node.specs.declared.node.Header.{Header}
use Rattle.qg_node.specs.declared.node.Node.{Node}
use Rattle.qg_node.specs.Nodes.{header_of}
use Rattle.qg_blocks.specs.contracts.blocks.Blocks.{the_view}
use Rattle.qg_blocks.proofs.Backing.{IsBacked-fresh}
use Rattle.qg_blocks.proofs.Telling.{told-put}
use Rattle.qg_blocks.proofs.blocks.Blocks.put_fresh.Goals as goal

pub returns-clause-told : goal.returns-clause-told
returns-clause-told c history at =
    let there : c.value-address.result ≡ (header_of c.args.node).address = c.value-address.ensures
    ∙ ap (λ (header : Header). header.address) c.header.ensures in
    rw (sym c.self.view_is)
    (told-put (the_view c.self.inside).draft
    (record (the_view c.self.inside).draft { fresh = c.insert.new.self.entries }) (header_of c.args.node).address
    c.args.node history at refl
    (rw there at c.in_ok-insert.ensures.updates.0))

pub returns-clause-backed : goal.returns-clause-backed
returns-clause-backed c history backed =
    let there : c.value-address.result ≡ (header_of c.args.node).address = c.value-address.ensures
    ∙ ap (λ (header : Header). header.address) c.header.ensures in
    IsBacked-fresh (the_view c.self.inside) _ history (header_of c.args.node).address c.args.node refl
    (rw there at c.in_ok-insert.ensures.updates.0) c.len-count.ensures.valid.0
    (ap (λ (cache : LruCache ℕ Node). cache.entries) c.pop.ensures.entries
    ∙ ap (λ (a : ℕ). remove_entry (nat_eq a) c.self.inside.shelf.clean.entries) there)
    (rw (sym c.self.view_is) at backed)
