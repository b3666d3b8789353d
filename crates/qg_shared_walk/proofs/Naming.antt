-- The data extents that nodes name.
use Rattle.std.proofs.Common.{◌≡◌, ℕ, ◌+◌, ◌<◌, List, [], ◌∷◌, ◌++◌, map, length, get_or, take}
use Rattle.std.proofs.Common.{Option}
use Rattle.std.proofs.Common.{Some, None, refl, sym, ap, ◌∙◌}
use Rattle.std.specs.List.{filter_map, flat_map}
use Rattle.std.specs.Option.{option_and_then}
use Rattle.std.proofs.lemmas.List.{append-nil, map-append, take_more}
use Rattle.std.proofs.lemmas.List.Concat.{flat_map-append}
use Rattle.std.proofs.lemmas.List.Elements.{filter_map-append}
use Rattle.qg_num.specs.declared.piece.Piece.{Piece}
use Rattle.qg_node.specs.declared.item.Item.{Item}
use Rattle.qg_node.specs.declared.node.Node.{Node}
use Rattle.qg_image.specs.ItemMeaning.{file_part}
use Rattle.qg_image.specs.declared.element.Element.{Element}
use Rattle.qg_image.specs.Reach.{extent_of, piece_of_part, pieces_of}
use Rattle.qg_shared_walk.specs.declared.nodes.NodeRead.{NodeRead}
use Rattle.qg_shared_walk.specs.NodeFacts.{NodeTold, told_by, told_of}

-- the piece that an item tells
abbrev pub item_piece : Item → Option Piece
item_piece item = option_and_then piece_of_part (file_part item)

-- ---- one item more

given_more : (items : List Item) (i : ℕ) (item : Item) → i < length items → item ≡ get_or items i item
    → filter_map item_piece (take (i + 1) items) ≡ filter_map item_piece (take i items)
    ++ filter_map item_piece (item ∷ [])
given_more items i item inside is =
    ap (filter_map item_piece) (take_more items i item inside ∙ ap (λ (x : Item). take i items ++ x ∷ []) (sym is))
    ∙ filter_map-append item_piece (take i items) (item ∷ [])

pub named_more : (items : List Item) (i : ℕ) (item : Item) (piece : Piece) (extent : Element) → i < length items
    → item ≡ get_or items i item → Some piece ≡ item_piece item → extent ≡ extent_of piece
    → map extent_of (filter_map item_piece (take (i + 1) items))
    ≡ map extent_of (filter_map item_piece (take i items)) ++ extent ∷ []
named_more items i item piece extent inside is found named =
    ap (map extent_of) (given_more items i item inside is ∙ (rw (← found) refl))
    ∙ map-append extent_of (filter_map item_piece (take i items)) (piece ∷ [])
    ∙ ap (λ (e : Element). map extent_of (filter_map item_piece (take i items)) ++ e ∷ []) (sym named)

pub named_none : (items : List Item) (i : ℕ) (item : Item) → i < length items → item ≡ get_or items i item
    → None ≡ item_piece item
    → map extent_of (filter_map item_piece (take (i + 1) items)) ≡ map extent_of (filter_map item_piece (take i items))
named_none items i item inside is none =
    ap (map extent_of)
    (given_more items i item inside is ∙ (rw (← none) (append-nil (filter_map item_piece (take i items)))))

-- ---- nodes

-- what was gathered of extents
abbrev pub extents_told : List NodeRead → List Element
extents_told reads = flat_map (λ told. told.extents) (map told_by reads)

extents_append : (front back : List NodeRead) → extents_told (front ++ back) ≡ extents_told front ++ extents_told back
extents_append front back =
    ap (flat_map (λ (told : NodeTold). told.extents)) (map-append told_by front back)
    ∙ flat_map-append (λ (told : NodeTold). told.extents) (map told_by front) (map told_by back)

pub one_more_read : (reads : List NodeRead) (i : ℕ) (read : NodeRead) → i < length reads → read ≡ get_or reads i read
    → extents_told (take (i + 1) reads) ≡ extents_told (take i reads) ++ read.extents
one_more_read reads i read inside is =
    ap extents_told (take_more reads i read inside ∙ ap (λ (x : NodeRead). take i reads ++ x ∷ []) (sym is))
    ∙ extents_append (take i reads) (read ∷ [])
    ∙ ap (λ (own : List Element). extents_told (take i reads) ++ own) (append-nil read.extents)

own_extents : (nodes : List Node) → flat_map (λ (told : NodeTold). told.extents) (map told_of nodes)
    ≡ flat_map (λ node. map extent_of (pieces_of node)) nodes
own_extents [] = refl
own_extents (node ∷ nodes) = ap (λ rest. map extent_of (pieces_of node) ++ rest) (own_extents nodes)

-- those of nodes
pub named_of_nodes : (reads : List NodeRead) (nodes : List Node) → map told_by reads ≡ map told_of nodes
    → extents_told reads ≡ flat_map (λ node. map extent_of (pieces_of node)) nodes
named_of_nodes reads nodes are = ap (flat_map (λ (told : NodeTold). told.extents)) are ∙ own_extents nodes
