-- What an item of the extent tree says is a record or a reference that its key and its body tell.
use Rattle.std.proofs.Common.{◌≡◌, ℕ, Bool, true, false, length, subst}
use Rattle.std.specs.Prelude.{Option, Some, None, ◌==◌, ◌&&◌}
use Rattle.std.specs.Option.{option_map}
use Rattle.std.proofs.lemmas.Option.{same_Some}
use Rattle.qg_items.specs.declared.kind.TheConstants.{EXTENT_ITEM, METADATA_ITEM, TREE_BLOCK_REF, EXTENT_DATA_REF}
use Rattle.qg_items.specs.declared.kind.TheConstants.{SHARED_BLOCK_REF, SHARED_DATA_REF}
use Rattle.qg_items.specs.declared.extent.ExtentItem.{ExtentItem}
use Rattle.qg_items.specs.declared.extent.ExtentDataRef.{ExtentDataRef}
use Rattle.qg_items.specs.declared.extent.SharedDataRef.{SharedDataRef}
use Rattle.qg_items.specs.declared.extent.Reference.TheVariants.{KeyedBlock, SharedBlock, KeyedData, SharedData}
use Rattle.qg_items.specs.ItemReading.{extent_read, data_ref_read, shared_data_ref_read}
use Rattle.qg_node.specs.declared.item.Item.{Item}
use Rattle.qg_image.specs.declared.part.ExtentPart.{ExtentPart}
use Rattle.qg_image.specs.declared.part.ExtentPart.TheVariants.{DataRecord, NodeRecord, Referenced}
use Rattle.qg_image.specs.ItemMeaning.{when, ◌orelse◌, extent_part}

-- this holds of each record and reference that a key may tell
pub record HoldsOfEach (P : ExtentPart → Type 0) (address offset : ℕ) : Type 0 where
  pub data_record : (extent : ExtentItem) → P (DataRecord address offset extent)
  pub node_record : (extent : ExtentItem) → P (NodeRecord address offset extent)
  pub tree : P (Referenced address (KeyedBlock offset) 1)
  pub parent : P (Referenced address (SharedBlock offset) 1)
  pub file : (keyed : ExtentDataRef)
      → P (Referenced address (KeyedData keyed.root keyed.objectid keyed.offset) keyed.count)
  pub leaf : (shared : SharedDataRef) → P (Referenced address (SharedData offset) shared.count)

module _ (P : ExtentPart → Type 0) where
  -- if something is said, then such
  abbrev IsSuch : Option ExtentPart → Type 0
  IsSuch given = (part : ExtentPart) → given ≡ Some part → P part

  such_some : (part : ExtentPart) → P part → IsSuch (Some part)
  such_some part is other same = subst P (same_Some part other same) is

  such_none : IsSuch None
  such_none other same = absurd cc

  such_when : (b : Bool) (given : Option ExtentPart) → IsSuch given → IsSuch (when b given)
  such_when true given is = is
  such_when false given is = such_none

  such_orelse : (first later : Option ExtentPart) → IsSuch first → IsSuch later → IsSuch (first orelse later)
  such_orelse None later is is' = is'
  such_orelse (Some part) later is is' = is

  such_map : {A : Type 0} (f : A → ExtentPart) (given : Option A) → ((x : A) → P (f x)) → IsSuch (option_map f given)
  such_map f None is = such_none
  such_map f (Some x) is = such_some (f x) (is x)

  pub holds-said : (item : Item) → HoldsOfEach P item.key.objectid item.key.offset → (part : ExtentPart)
      → extent_part item ≡ Some part → P part
  unfolding extent_part
  holds-said item each =
      let n : ℕ = item.key.objectid in
      let number : ℕ = item.key.offset in
      let kind : ℕ = item.key.kind in
      let empty : Bool = length item.body == 0 in
      let data_record : Option ExtentPart = option_map (DataRecord n number) (extent_read item.body) in
      let node_record : Option ExtentPart = option_map (NodeRecord n number) (extent_read item.body) in
      let tree : Option ExtentPart = Some (Referenced n (KeyedBlock number) 1) in
      let parent : Option ExtentPart = Some (Referenced n (SharedBlock number) 1) in
      let file : Option ExtentPart =
      option_map (λ keyed. Referenced n (KeyedData keyed.root keyed.objectid keyed.offset) keyed.count)
      (data_ref_read item.body) in
      let leaf : Option ExtentPart = option_map (λ shared. Referenced n (SharedData number) shared.count)
      (shared_data_ref_read item.body) in
      let sixth : Option ExtentPart = when (kind == SHARED_DATA_REF) leaf in
      let fifth : Option ExtentPart = when (kind == EXTENT_DATA_REF) file orelse sixth in
      let fourth : Option ExtentPart = when ((kind == SHARED_BLOCK_REF) && empty) parent orelse fifth in
      let third : Option ExtentPart = when ((kind == TREE_BLOCK_REF) && empty) tree orelse fourth in
      let second : Option ExtentPart = when (kind == METADATA_ITEM) node_record orelse third in
      let first : IsSuch data_record = such_map (DataRecord n number) (extent_read item.body) each.data_record in
      let sixth_is : IsSuch sixth =
      such_when (kind == SHARED_DATA_REF) leaf (such_map (λ shared. Referenced n (SharedData number) shared.count)
      (shared_data_ref_read item.body) each.leaf) in
      let file_is : IsSuch file =
      such_map (λ keyed. Referenced n (KeyedData keyed.root keyed.objectid keyed.offset) keyed.count)
      (data_ref_read item.body) each.file in
      let fifth_is : IsSuch fifth = such_orelse (when (kind == EXTENT_DATA_REF) file) sixth
      (such_when (kind == EXTENT_DATA_REF) file file_is) sixth_is in
      let fourth_is : IsSuch fourth = such_orelse (when ((kind == SHARED_BLOCK_REF) && empty) parent) fifth
      (such_when ((kind == SHARED_BLOCK_REF) && empty) parent
      (such_some (Referenced n (SharedBlock number) 1) each.parent)) fifth_is in
      let third_is : IsSuch third = such_orelse (when ((kind == TREE_BLOCK_REF) && empty) tree) fourth
      (such_when ((kind == TREE_BLOCK_REF) && empty) tree (such_some (Referenced n (KeyedBlock number) 1) each.tree))
      fourth_is in
      let second_is : IsSuch second = such_orelse (when (kind == METADATA_ITEM) node_record) third
      (such_when (kind == METADATA_ITEM) node_record
      (such_map (NodeRecord n number) (extent_read item.body) each.node_record)) third_is in
      such_orelse (when (kind == EXTENT_ITEM) data_record) second
      (such_when (kind == EXTENT_ITEM) data_record first) second_is
