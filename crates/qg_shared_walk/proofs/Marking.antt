-- What nodes owe, what they are and what they point to, where some of them are full.
use Rattle.std.proofs.Common.{◌≡◌, ℕ, ◌+◌, ◌/◌, ◌%◌, ◌<◌, Bool, true, false, List, [], ◌∷◌, ◌++◌, map, length}
use Rattle.std.proofs.Common.{get_or, take, Option, Some, None, refl, sym, ap, ◌∙◌, inl}
use Rattle.std.proofs.Common.{inr}
use Rattle.std.specs.Prelude.{◌==◌, ◌&&◌, ◌||◌}
use Rattle.std.specs.Bool.{then_some}
use Rattle.std.specs.List.{cons_option, filter_map, find, flat_map, list_any}
use Rattle.std.specs.Option.{option_map, option_to_list}
use Rattle.std.proofs.Math.Bool.{and-true}
use Rattle.qg_tree_items.proofs.Parts.{and-false}
use Rattle.std.proofs.lemmas.Bool.{cases_Bool, cond-true, cond-false}
use Rattle.std.proofs.lemmas.List.{map-append, take_more}
use Rattle.std.proofs.lemmas.List.Elements.{filter_map-append}
use Rattle.qg_node.specs.declared.item.Item.{Item}
use Rattle.qg_node.specs.declared.pointer.Pointer.{Pointer}
use Rattle.qg_node.specs.declared.node.Header.{Header}
use Rattle.qg_node.specs.declared.node.Node.{Node}
use Rattle.qg_node.specs.Nodes.{header_of, own_items, own_pointers}
use Rattle.qg_image.specs.Table.{value_at}
use Rattle.qg_num.specs.declared.piece.Piece.{Piece}
use Rattle.qg_image.specs.declared.element.Element.{Element}
use Rattle.qg_image.specs.Reach.{extent_of, pieces_of}
use Rattle.qg_image.specs.declared.part.ExtentPart.{ExtentPart}
use Rattle.qg_image.specs.declared.part.ExtentPart.TheVariants.{DataRecord, NodeRecord, Referenced}
use Rattle.qg_image.specs.declared.part.FilePart.{FilePart}
use Rattle.qg_image.specs.declared.part.FilePart.TheVariants.{Inode, PieceOf}
use Rattle.qg_image.specs.ItemMeaning.{file_part}
use Rattle.qg_image.specs.Owed.{Owing as OwedReference, owed_by_node, owed_by_part, owed_to_child}
use Rattle.qg_image.specs.ImageState.{is_full_record, placed}
use Rattle.qg_reach.proofs.Reached.{address_of}
use Rattle.qg_owner_rule.specs.Linked.{linked_of}
use Rattle.qg_qgroup_counts.specs.Surveyed.{surveyed_of}
use Rattle.qg_backref_rule.specs.OwedLists.{kind_at}
use Rattle.qg_backref_rule.specs.declared.thing.Thing.{Thing}
use Rattle.qg_backref_rule.specs.declared.thing.Kind.TheVariants as kind
use Rattle.qg_backref_rule.proofs.Things.{kind_of_node}
use Rattle.qg_shared_walk.specs.NodeFacts.{told_of, unmarked}
use Rattle.qg_shared_walk.specs.Marked.{full_address, is_marked, link_where, marked_link, marked_owing, marked_owings}
use Rattle.qg_shared_walk.specs.Marked.{owed_where, surveyed_where, thing_where}
use Rattle.qg_shared_walk.proofs.Laid.{entry_of}

-- ---- which are full

full_first : (flag : Bool) (other address : ℕ) (rest : List ℕ)
    → list_any (λ o. o == address) (cons_option (then_some flag other) rest) ≡ ((other == address) && flag) || list_any
    (λ o. o == address) rest
full_first true other address rest = ap (λ b. b || list_any (λ o. o == address) rest)
    (sym (and-true (other == address)))
full_first false other address rest = ap (λ b. b || list_any (λ o. o == address) rest)
    (sym (and-false (other == address)))

pub full_any : (parts : List ExtentPart) (address : ℕ) → is_marked (filter_map full_address parts) address ≡ list_any
    (is_full_record address) parts
full_any [] address = refl
full_any (DataRecord other bytes extent ∷ parts) address = full_any parts address
full_any (Referenced other reference count ∷ parts) address = full_any parts address
full_any (NodeRecord other level extent ∷ parts) address =
    let flag = extent.flags / 256 % 2 == 1 in
    full_first flag other address (filter_map full_address parts)
    ∙ ap (λ rest. ((other == address) && flag) || rest) (full_any parts address)

-- those that one more item of the extent tree says to be full
pub full_more : (parts : List ExtentPart) (i : ℕ) (part : ExtentPart) (found more : List ℕ) → i < length parts
    → part ≡ get_or parts i part
    → found ≡ filter_map full_address (take i parts) → more ≡ found ++ option_to_list (full_address part)
    → more ≡ filter_map full_address (take (i + 1) parts)
full_more parts i part found more inside is so_far given =
    given ∙ ap (λ list. list ++ option_to_list (full_address part)) so_far
    ∙ ap (λ list. filter_map full_address (take i parts) ++ list)
    (as_list (full_address part) ∙ ap (λ x. filter_map full_address (x ∷ [])) is)
    ∙ sym (filter_map-append full_address (take i parts) (get_or parts i part ∷ []))
    ∙ ap (filter_map full_address) (sym (take_more parts i part inside))
  where
    as_list : (given : Option ℕ) → option_to_list given ≡ cons_option given []
    as_list None = refl
    as_list (Some address) = refl

-- ---- what one node owes

pub owings_same : (parent : ℕ) (owings : List OwedReference) → map (marked_owing parent false) owings ≡ owings
owings_same parent [] = refl
owings_same parent (owing ∷ owings) = ap (λ rest. owing ∷ rest) (owings_same parent owings)

children_shared : (header : Header) (pointers : List Pointer)
    → map (marked_owing header.address true) (map (λ pointer. owed_to_child header false pointer.child) pointers)
    ≡ map (λ pointer. owed_to_child header true pointer.child) pointers
children_shared header [] = refl
children_shared header (pointer ∷ pointers) = ap (λ rest. owed_to_child header true pointer.child ∷ rest)
    (children_shared header pointers)

part_shared : (header : Header) (part : Option FilePart)
    → map (marked_owing header.address true) (owed_by_part header false part) ≡ owed_by_part header true part
part_shared header None = refl
part_shared header (Some (Inode ino inode)) = refl
part_shared header (Some (PieceOf ino piece)) = refl

items_shared : (header : Header) (items : List Item)
    → map (marked_owing header.address true) (flat_map (λ item. owed_by_part header false (file_part item)) items)
    ≡ flat_map (λ item. owed_by_part header true (file_part item)) items
items_shared header [] = refl
items_shared header (item ∷ items) =
    map-append (marked_owing header.address true) (owed_by_part header false (file_part item))
    (flat_map (λ item. owed_by_part header false (file_part item)) items)
    ∙ ap (λ first. first ++ map (marked_owing header.address true)
    (flat_map (λ item. owed_by_part header false (file_part item)) items)) (part_shared header (file_part item))
    ∙ ap (λ rest. owed_by_part header true (file_part item) ++ rest) (items_shared header items)

-- a node's own are those that it owes with this mark
owed_marked : (full : Bool) (node : Node) → marked_owings full (told_of node) ≡ owed_by_node
    (record { node = node; full = full })
unfolding owed_by_node
owed_marked false node = owings_same (address_of node) (owed_by_node (unmarked node))
owed_marked true node =
    let header = header_of node in
    let children = map (λ (pointer : Pointer). owed_to_child header false pointer.child) (own_pointers node) in
    let pieces = flat_map (λ (item : Item). owed_by_part header false (file_part item)) (own_items node) in
    map-append (marked_owing header.address true) children pieces
    ∙ ap (λ first. first ++ map (marked_owing header.address true) pieces) (children_shared header (own_pointers node))
    ∙ ap (λ rest. map (λ (pointer : Pointer). owed_to_child header true pointer.child) (own_pointers node) ++ rest)
    (items_shared header (own_items node))

-- ---- the nodes of a layout

-- these are the addresses of full nodes
abbrev pub AreMarks : List ℕ → List ExtentPart → Type 0
AreMarks full parts = (address : ℕ) → is_marked full address ≡ list_any (is_full_record address) parts

module _ (full : List ℕ) (parts : List ExtentPart) (marks : AreMarks full parts) where
  pub all_owed : (nodes : List Node) → flat_map (owed_where full) (map told_of nodes) ≡ flat_map
      (λ entry. owed_by_node entry.1) (map (entry_of parts) nodes)
  all_owed [] = refl
  all_owed (node ∷ nodes) =
      let first = ap (λ mark. marked_owings mark (told_of node)) (marks (address_of node))
      ∙ owed_marked (list_any (is_full_record (address_of node)) parts) node in
      ap (λ owed. owed ++ flat_map (owed_where full) (map told_of nodes)) first
      ∙ ap (λ rest. owed_by_node (placed parts node) ++ rest) (all_owed nodes)

  pub all_linked : (nodes : List Node) → map (link_where full) (map told_of nodes) ≡ map
      (λ entry. linked_of entry.0 entry.1) (map (entry_of parts) nodes)
  all_linked [] = refl
  all_linked (node ∷ nodes) =
      let first = ap (λ mark. marked_link mark (told_of node)) (marks (address_of node)) in
      ap (λ link. link ∷ map (link_where full) (map told_of nodes)) first
      ∙ ap (λ rest. linked_of (address_of node) (placed parts node) ∷ rest) (all_linked nodes)

  begin_there : (pieces : List Piece) → map (λ (extent : Element). extent.address) (map extent_of pieces)
      ≡ map (λ (piece : Piece). piece.extent) pieces
  begin_there [] = refl
  begin_there (piece ∷ pieces) = ap (λ rest. piece.extent ∷ rest) (begin_there pieces)

  one_surveyed : (node : Node) → surveyed_where full (told_of node) ≡ surveyed_of (address_of node) (placed parts node)
  one_surveyed node =
      ap (λ mark. record {
        linked = marked_link mark (told_of node);
        extents = map (λ (extent : Element). extent.address) (map extent_of (pieces_of node));
      }) (marks (address_of node))
      ∙ ap (λ extents. record { linked = linked_of (address_of node) (placed parts node); extents = extents })
      (begin_there (pieces_of node))

  pub all_surveyed : (nodes : List Node) → map (surveyed_where full) (map told_of nodes) ≡ map
      (λ entry. surveyed_of entry.0 entry.1) (map (entry_of parts) nodes)
  all_surveyed [] = refl
  all_surveyed (node ∷ nodes) =
      ap (λ first. first ∷ map (surveyed_where full) (map told_of nodes)) (one_surveyed node)
      ∙ ap (λ rest. surveyed_of (address_of node) (placed parts node) ∷ rest) (all_surveyed nodes)

  pub all_there : (nodes : List Node) (a : ℕ) → kind_at (map (thing_where full) (map told_of nodes)) a ≡ kind_of_node
      (value_at a (map (entry_of parts) nodes))
  all_there [] a = refl
  all_there (node ∷ nodes) a =
      let things = map (thing_where full) (map told_of nodes) in
      let entries = map (entry_of parts) nodes in
      let first = thing_where full (told_of node) in
      elim (cases_Bool (address_of node == a)) [
        | inl here ↦
            ap (option_map (λ (thing : Thing). thing.kind)) (cond-true (address_of node == a) (Some first)
            (find (λ thing. thing.address == a) things) here)
            ∙ ap (λ mark. Some (kind.Node (header_of node).level (header_of node).generation mark))
            (marks (address_of node))
            ∙ sym (ap kind_of_node (cond-true (address_of node == a) (Some (placed parts node)) (value_at a entries)
            here))
        | inr other ↦
            ap (option_map (λ (thing : Thing). thing.kind)) (cond-false (address_of node == a) (Some first)
            (find (λ thing. thing.address == a) things) other)
            ∙ all_there nodes a
            ∙ sym (ap kind_of_node (cond-false (address_of node == a) (Some (placed parts node)) (value_at a entries)
            other))
      ]
