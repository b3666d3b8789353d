-- What records that agree with a layout tell of its nodes and extents, and so a book that was read of them.
use Rattle.std.proofs.Common.{◌≡◌, ℕ, Bool, true, false, List, [], ◌∷◌, Some, None, refl, sym, ap, ◌∙◌}
use Rattle.std.specs.Prelude.{◌&&◌, ◌==◌}
use Rattle.std.specs.List.{filter, filter_map, find, sum_by}
use Rattle.std.specs.Option.{option_and_then}
use Rattle.std.proofs.lemmas.Bool.{and_parts, eqb-true}
use Rattle.qg_node.specs.declared.node.Header.{Header}
use Rattle.qg_node.specs.Nodes.{header_of}
use Rattle.qg_items.specs.declared.extent.ExtentItem.{ExtentItem}
use Rattle.qg_image.specs.Table.{value_at}
use Rattle.qg_image.specs.declared.part.ExtentPart.{ExtentPart}
use Rattle.qg_image.specs.declared.part.ExtentPart.TheVariants.{DataRecord, NodeRecord, Referenced}
use Rattle.qg_image.specs.ItemMeaning.{some_passes}
use Rattle.qg_image.specs.declared.element.Element.{Element}
use Rattle.qg_image.specs.State.{Layout, Placed}
use Rattle.qg_image.specs.Owed.{Agrees, What, agrees_at, are_references, is_record, is_recorded_once, layout_extents}
use Rattle.qg_image.specs.Owed.{node_flags, owed_to, reference_told, what_at}
use Rattle.qg_image.specs.Owed.What.{Data, Block}
use Rattle.qg_refs.specs.declared.kept.What.{What as Known}
use Rattle.qg_refs.specs.Book.{Book, full_in, what_in}
use Rattle.qg_extents.specs.BookRecords.{IsTold, parts_at, tells_full, the_only, what_told}

-- ---- the one record at an address

-- the only record is that of a node, with its level, mark and generation
record IsNodeRecord (header : Header) (full : Bool) (records : List ExtentPart) : Type 0 where
  address : ℕ
  level : ℕ
  extent : ExtentItem
  are : records ≡ NodeRecord address level extent ∷ []
  level_is : level ≡ header.level
  flags : extent.flags ≡ node_flags full
  dated : extent.generation ≡ header.generation

-- or that of a data extent of so many bytes
record IsDataRecord (bytes : ℕ) (records : List ExtentPart) : Type 0 where
  address : ℕ
  extent : ExtentItem
  are : records ≡ DataRecord address bytes extent ∷ []

node_record : (header : Header) (full : Bool) (refs : ℕ) (records : List ExtentPart)
    → is_recorded_once (Block header full) refs records ≡ true → IsNodeRecord header full records
node_record header full refs [] once = absurd cc
node_record header full refs (DataRecord address bytes extent ∷ []) once = absurd cc
node_record header full refs (Referenced address reference count ∷ []) once = absurd cc
node_record header full refs (NodeRecord address level extent ∷ []) once =
    let dated = and_parts ((level == header.level) && (extent.flags == node_flags full) && (extent.refs == refs))
    (extent.generation == header.generation) once in
    let counted = and_parts ((level == header.level) && (extent.flags == node_flags full)) (extent.refs == refs)
    dated.0 in
    let both = and_parts (level == header.level) (extent.flags == node_flags full) counted.0 in
    record {
      address = address;
      level = level;
      extent = extent;
      are = refl;
      level_is = eqb-true level header.level both.0;
      flags = eqb-true extent.flags (node_flags full) both.1;
      dated = eqb-true extent.generation header.generation dated.1;
    }
node_record header full refs (part ∷ other ∷ records) once = absurd cc

data_record : (bytes refs : ℕ) (records : List ExtentPart) → is_recorded_once (Data bytes) refs records ≡ true
    → IsDataRecord bytes records
data_record bytes refs [] once = absurd cc
data_record bytes refs (DataRecord address other extent ∷ []) once =
    let both = and_parts ((other == bytes) && (extent.flags == 1)) (extent.refs == refs) once in
    let first = and_parts (other == bytes) (extent.flags == 1) both.0 in
    record {
      address = address;
      extent = extent;
      are = ap (λ (n : ℕ). DataRecord address n extent ∷ []) (eqb-true other bytes first.0);
    }
data_record bytes refs (Referenced address reference count ∷ []) once = absurd cc
data_record bytes refs (NodeRecord address level extent ∷ []) once = absurd cc
data_record bytes refs (part ∷ other ∷ records) once = absurd cc

-- flags tell the mark
flags_full : (full : Bool) → (node_flags full == node_flags true) ≡ full
flags_full true = refl
flags_full false = refl

-- ---- a book

module _ (nodesize : ℕ) (layout : Layout) (parts : List ExtentPart) (book : Book) (agrees : Agrees layout parts)
    (told : IsTold nodesize parts book) where
  once_there : (at : ℕ) → is_recorded_once (what_at layout at)
      (sum_by (λ entry. entry.1) (filter_map reference_told (parts_at parts at)))
      (filter is_record (parts_at parts at)) ≡ true
  unfolding agrees_at
  once_there at =
      (and_parts (is_recorded_once (what_at layout at)
      (sum_by (λ entry. entry.1) (filter_map reference_told (parts_at parts at)))
      (filter is_record (parts_at parts at)))
      (are_references (filter_map reference_told (parts_at parts at)) (owed_to layout at)) (agrees at)).0

  -- of a node
  module _ (at : ℕ) (placed : Placed) (there : value_at at layout.nodes ≡ Some placed) where
    block_there : what_at layout at ≡ Block (header_of placed.node) placed.full
    block_there = rw there refl

    its_record : IsNodeRecord (header_of placed.node) placed.full (filter is_record (parts_at parts at))
    its_record = node_record (header_of placed.node) placed.full
        (sum_by (λ entry. entry.1) (filter_map reference_told (parts_at parts at)))
        (filter is_record (parts_at parts at))
        (ap (λ (what : What). is_recorded_once what
        (sum_by (λ entry. entry.1) (filter_map reference_told (parts_at parts at)))
        (filter is_record (parts_at parts at))) (sym block_there) ∙ once_there at)

    pub node-known : what_in (book at) ≡ Some (record {
      bytes = nodesize;
      level = Some (header_of placed.node).level;
      generation = (header_of placed.node).generation;
    })
    node-known =
        told.what at
        ∙ ap (λ (records : List ExtentPart). option_and_then (what_told nodesize) (the_only records)) its_record.are
        ∙ ap (λ (n : ℕ). let known : Known = record {
          bytes = nodesize;
          level = Some n;
          generation = its_record.extent.generation;
        } in Some known) its_record.level_is
        ∙ ap (λ (n : ℕ). let known : Known = record {
          bytes = nodesize;
          level = Some (header_of placed.node).level;
          generation = n;
        } in Some known) its_record.dated

    pub node-mark : full_in (book at) ≡ placed.full
    node-mark =
        told.full at
        ∙ ap (λ (records : List ExtentPart). some_passes tells_full (the_only records)) its_record.are
        ∙ ap (λ (n : ℕ). n == node_flags true) its_record.flags
        ∙ flags_full placed.full

  -- and of an extent
  pub extent-known : (at : ℕ) (run : Element) → value_at at layout.nodes ≡ None
      → find (λ extent. extent.address == at) (layout_extents layout) ≡ Some run
      → (generation : ℕ) × (what_in (book at)
      ≡ Some (record { bytes = run.bytes; level = None; generation = generation }))
  extent-known at run none found =
      let what : what_at layout at ≡ Data run.bytes = rw (none, found) refl in
      let its = data_record run.bytes
      (sum_by (λ entry. entry.1) (filter_map reference_told (parts_at parts at)))
      (filter is_record (parts_at parts at))
      (ap (λ (w : What). is_recorded_once w
      (sum_by (λ entry. entry.1) (filter_map reference_told (parts_at parts at)))
      (filter is_record (parts_at parts at))) (sym what) ∙ once_there at) in (
        its.extent.generation,
        told.what at
            ∙ ap (λ (records : List ExtentPart). option_and_then (what_told nodesize) (the_only records)) its.are,
      )
