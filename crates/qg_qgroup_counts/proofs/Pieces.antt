-- The extents that pieces of items name, one item after the other.
use Rattle.std.proofs.Common.{◌≡◌, ℕ, ◌+◌, ◌<◌, List, [], ◌∷◌, ◌++◌, map, length, take, get_or}
use Rattle.std.proofs.Common.{sym, ap, ◌∙◌}
use Rattle.std.specs.Prelude.{Option, Some, None}
use Rattle.std.specs.List.{filter_map, cons_option}
use Rattle.std.proofs.lemmas.List.{append-nil, map-append, take_more}
use Rattle.std.proofs.lemmas.List.Elements.{filter_map-append}
use Rattle.qg_num.specs.declared.piece.Piece.{Piece}
use Rattle.qg_node.specs.declared.item.Item.{Item}

module _ (tells : Item → Option Piece) (items : List Item) (i : ℕ) (item : Item) (short : i < length items)
    (is : item ≡ get_or items i item) where
  abbrev front : List Piece
  front = filter_map tells (take i items)

  abbrev named : List Piece → List ℕ
  named pieces = map (λ piece. piece.extent) pieces

  more : (given : Option Piece) → tells item ≡ given
      → named (filter_map tells (take (i + 1) items)) ≡ named front ++ named (cons_option given [])
  more given tell =
      ap (λ (xs : List Item). named (filter_map tells xs)) (take_more items i item short)
      ∙ ap (λ (x : Item). named (filter_map tells (take i items ++ x ∷ []))) (sym is)
      ∙ ap named (filter_map-append tells (take i items) (item ∷ []))
      ∙ map-append (λ (piece : Piece). piece.extent) front (cons_option (tells item) [])
      ∙ ap (λ (o : Option Piece). named front ++ named (cons_option o [])) tell

  pub named_some : (piece : Piece) → tells item ≡ Some piece
      → named (filter_map tells (take (i + 1) items)) ≡ named front ++ piece.extent ∷ []
  named_some piece tell = more (Some piece) tell

  pub named_none : tells item ≡ None → named (filter_map tells (take (i + 1) items)) ≡ named front
  named_none tell = more None tell ∙ append-nil (named front)
