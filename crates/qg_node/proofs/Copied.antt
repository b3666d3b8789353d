-- Items that are copied one by one.
use Rattle.std.proofs.Common.{◌≡◌, List}
use Rattle.std.specs.List.{All}
use Rattle.qg_node.specs.declared.item.Item.{Item}
use Rattle.qg_node.specs.Fits.{ItemFits}

-- these items were copied, and their numbers fit
pub record HasCopied (copy items : List Item) : Type 0 where
  pub same : copy ≡ items
  pub fit : All ItemFits copy
