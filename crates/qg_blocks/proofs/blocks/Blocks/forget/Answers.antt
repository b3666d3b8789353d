use Rattle.std.specs.Prelude.{None, Bool, cond}
use Rattle.std.proofs.Common.{◌≡◌, ◌∙◌, sym, ap, nat_eq, ℕ, refl}
use Rattle.std.specs.Map.{lookup, remove_entry}
use Rattle.lru.specs.LruCache.{LruCache}
use Rattle.qg_node.specs.declared.node.Node.{Node}
use Rattle.qg_blocks.specs.contracts.blocks.Blocks.{the_view}
use Rattle.qg_blocks.proofs.Backing.{IsBacked-forget, clean-gone, clean-none}
use Rattle.qg_blocks.proofs.Telling.{is_at-same, told-remove}
use Rattle.qg_blocks.specs.NodesFound.{fresh_at}
use Rattle.qg_blocks.proofs.blocks.Blocks.forget.Goals as goal

pub returns-clause-told : goal.returns-clause-told
returns-clause-told c history at other =
    rw (sym c.self.view_is)
    (told-remove (the_view c.self.inside).draft
    (record (the_view c.self.inside).draft { fresh = c.remove.new.self.entries }) c.args.address history at refl
    (rw c.value.ensures at c.remove.ensures.updates.0) other)

pub returns-clause-backed : goal.returns-clause-backed
returns-clause-backed c history backed =
    IsBacked-forget (the_view c.self.inside) _ history c.args.address refl
    (rw c.value.ensures at c.remove.ensures.updates.0)
    (ap (λ (cache : LruCache ℕ Node). cache.entries) c.pop.ensures.entries
    ∙ ap (λ (a : ℕ). remove_entry (nat_eq a) c.self.inside.shelf.clean.entries) c.value-2.ensures)
    (rw (sym c.self.view_is) at backed)

pub returns-clause-gone : goal.returns-clause-gone
returns-clause-gone c =
    let fresh : fresh_at (record (the_view c.self.inside).draft { fresh = c.remove.new.self.entries }) c.args.address
    ≡ None =
    (rw c.value.ensures at c.remove.ensures.updates.0) c.args.address
    ∙ ap (λ (b : Bool). cond b None (fresh_at (the_view c.self.inside).draft c.args.address))
    (is_at-same c.args.address) in
    let clean : lookup (nat_eq c.args.address) c.pop.new.self.entries ≡ None =
    ap (λ (cache : LruCache ℕ Node). lookup (nat_eq c.args.address) cache.entries) c.pop.ensures.entries
    ∙ ap (λ (a : ℕ). lookup (nat_eq c.args.address) (remove_entry (nat_eq a) c.self.inside.shelf.clean.entries))
    c.value-2.ensures
    ∙ clean-gone c.args.address c.self.inside.shelf.clean.entries c.len-count.ensures.valid.0 in
    rw (fresh, clean) refl

pub returns-clause-others : goal.returns-clause-others
returns-clause-others c at none =
    let clean = c.self.inside.shelf.clean.entries in
    let before : lookup (nat_eq at) clean ≡ None = rw (sym c.self.view_is) at none in
    let after : lookup (nat_eq at) c.pop.new.self.entries ≡ lookup (nat_eq at)
    (remove_entry (nat_eq c.args.address) clean) =
    ap (λ (cache : LruCache ℕ Node). lookup (nat_eq at) cache.entries) c.pop.ensures.entries
    ∙ ap (λ (a : ℕ). lookup (nat_eq at) (remove_entry (nat_eq a) clean)) c.value-2.ensures in
    after ∙ clean-none c.args.address at clean before
