use Rattle.std.proofs.Common.{Option, refl, subst, sym, ◌∙◌, ℕ}
use Rattle.qg_items.specs.declared.extent.Reference.{Reference}
use Rattle.qg_extent_items.specs.Reading.{IsAdded}
use Rattle.qg_extent_items.proofs.References.{unread-told}
use Rattle.qg_extent_items.proofs.reading.add_item.Goals as goal

pub returns-in-None : goal.returns-in-None
returns-in-None c =
    subst (λ (o : Option (Reference × ℕ)). IsAdded o c.args.references.now c.args.references.now)
    (sym (unread-told c.new.result c.args.item.now (sym c.read.ensures ∙ c.in-None.is))) refl
