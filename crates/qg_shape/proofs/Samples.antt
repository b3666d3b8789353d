-- The items that the tests make.
use Rattle.std.proofs.Common.{◌≡◌, ℕ, ◌+◌, ◌*◌, ◌≤◌, List, [], ◌∷◌, ◌++◌, length, length-append, refl, ◌∙◌, arith}
use Rattle.std.specs.List.{All}
use Rattle.std.proofs.lemmas.List.Elements.{All-nil, All-push}
use Rattle.std.proofs.lemmas.List.Sums.{sum_by_push}
use Rattle.qg_node.specs.declared.item.Item.{Item}
use Rattle.qg_node.specs.Nodes.{item_bytes, items_bytes}

-- so many items, each with a body of so many bytes
pub record AreSamples (size : ℕ) (items : List Item) (count : ℕ) : Type 0 where
  pub counted : length items ≡ count
  pub short : All (λ item. length item.body ≤ 1024) items
  pub bytes : items_bytes items ≡ count * (25 + size)

pub AreSamples-none : (size : ℕ) → AreSamples size [] 0
AreSamples-none size = record { counted = refl; short = All-nil (λ item. length item.body ≤ 1024); bytes = omega arith }

pub AreSamples-more : (size : ℕ) (items : List Item) (count : ℕ) (item : Item) → length item.body ≡ size → size ≤ 1024
    → AreSamples size items count → AreSamples size (items ++ item ∷ []) (count + 1)
AreSamples-more size items count item long least are = record {
  counted = length-append items (item ∷ []) ∙ omega (arith, are.counted);
  short = All-push (λ item. length item.body ≤ 1024) items item are.short (omega (arith, long, least));
  bytes = sum_by_push item_bytes items item ∙ omega (arith, are.bytes, long);
}
