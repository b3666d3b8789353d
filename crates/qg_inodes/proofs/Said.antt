-- Each item of a subvolume's tree is the one text of what it says.
use Rattle.std.proofs.Common.{◌≡◌, ℕ, ◌≤◌, true, false, List, [], ◌∷◌, map, Some, None, refl, sym, ap, subst, ◌∙◌}
use Rattle.std.specs.Prelude.{Bool, Option, ◌==◌, ◌&&◌, nat_le}
use Rattle.std.specs.List.{AllByRecursion, cons_option, list_all}
use Rattle.std.specs.Option.{option_and_then, option_map}
use Rattle.std.proofs.lemmas.Bool.{and_parts, eqb-true, leb-true}
use Rattle.std.proofs.lemmas.Option.{none-some, option_and_then_some, same_Some}
use Rattle.qg_num.specs.declared.key.Key.{Key}
use Rattle.qg_num.specs.declared.piece.Piece.{Piece}
use Rattle.qg_num.specs.Fields.{IsBytes}
use Rattle.qg_node.specs.declared.item.Item.{Item}
use Rattle.qg_items.specs.declared.kind.TheConstants.{EXTENT_DATA, INODE_ITEM}
use Rattle.qg_items.specs.declared.file.ExtentData.{ExtentData}
use Rattle.qg_items.specs.declared.file.InodeItem.{InodeItem}
use Rattle.qg_items.specs.ItemReading.{extent_data_read, inode_read}
use Rattle.qg_items.specs.ItemText.{extent_data_text, inode_text}
use Rattle.qg_items.proofs.FileBodies.{ExtentDataFits-from_read, extent_data_text-from_read, inode_text-from_read}
use Rattle.qg_items.proofs.Trips.{then_some_parts}
use Rattle.qg_image.specs.declared.part.FilePart.{FilePart}
use Rattle.qg_image.specs.declared.part.FilePart.TheVariants.{Inode, PieceOf}
use Rattle.qg_image.specs.ItemMeaning.{file_part, file_part_stamps, is_keyed, piece_told, some_passes, when, ◌orelse◌}
use Rattle.qg_image.specs.FilesOf.{file_parts, is_file_item}
use Rattle.qg_tree_items.specs.Keys.{file_key}
use Rattle.qg_tree_items.proofs.KeysOfParts.{file_keyed}
use Rattle.qg_tree_items.specs.Writable.{IsPlaced}
use Rattle.qg_node.specs.Nodes.{item_under}
use Rattle.qg_root_items.specs.Written.{extent_data_of, item_of_piece}
use Rattle.qg_edit.proofs.Lists.{keys_of}

-- ---- alternatives

when_some : {A : Type 0} (b : Bool) (o : Option A) (x : A) → when b o ≡ Some x → o ≡ Some x
when_some true o x is = is
when_some false o x is = absurd (none-some x is)

either_some : {A P : Type 0} (a b : Option A) (x : A) → (a orelse b) ≡ Some x → (a ≡ Some x → P) → (b ≡ Some x → P) → P
either_some None b x is first second = second is
either_some (Some y) b x is first second = first is

map_some : {A B P : Type 0} (f : A → B) (o : Option A) (y : B) → option_map f o ≡ Some y
    → ((x : A) → o ≡ Some x → f x ≡ y → P) → P
map_some f None y is then = absurd (none-some y is)
map_some f (Some x) y is then = then x refl (same_Some (f x) y is)

-- ---- one item

-- the item that says a part
abbrev pub item_of_part : FilePart → Item
item_of_part (Inode ino inode) = item_under ino 1 0 (inode_text inode)
item_of_part (PieceOf ino piece) = item_of_piece ino piece

-- the numbers of a part's extent fit
abbrev pub HasPlace : FilePart → Type 0
HasPlace (Inode ino inode) = Unit {0}
HasPlace (PieceOf ino piece) = IsPlaced piece

-- its generations are not past this one
abbrev pub HasStamps : ℕ → FilePart → Type 0
HasStamps generation (Inode ino inode) = (inode.generation ≤ generation) × (inode.transid ≤ generation)
HasStamps generation (PieceOf ino piece) = piece.stamp ≤ generation

-- the body of the item that says a part is its text
record IsBodyOf (body : List ℕ) (part : FilePart) : Type 0 where
  text : body ≡ (item_of_part part).body
  placed : HasPlace part

module _ (objectid position : ℕ) (body : List ℕ) (are : IsBytes body) where
  of_inode : (part : FilePart) → option_map (Inode objectid) (inode_read body) ≡ Some part → IsBodyOf body part
  of_inode part is = map_some (Inode objectid) (inode_read body) part is (λ inode read same. from inode read same) where
    from : (inode : InodeItem) → inode_read body ≡ Some inode → Inode objectid inode ≡ part → IsBodyOf body part
    from inode read same =
        let here : IsBodyOf body (Inode objectid inode) =
        record { text = inode_text-from_read body inode are read; placed = tt }
        in
        rw (sym same) here

  -- the extent's length stands twice in what is read
  told_twice : (told : ExtentData) (piece : Piece) → piece_told position told ≡ Some piece → told ≡ extent_data_of piece
  told_twice told piece is =
      let parts = then_some_parts (told.ram_bytes == told.disk_num_bytes) _ piece is in
      let twice = eqb-true told.ram_bytes told.disk_num_bytes parts.0 in
      let once : ◌≡◌ {A = ExtentData} told (record told { ram_bytes = told.disk_num_bytes }) =
      ap (λ (n : ℕ). let other : ExtentData = record told { ram_bytes = n } in other) twice
      in
      once ∙ ap extent_data_of parts.1

  of_piece : (part : FilePart) → option_map (PieceOf objectid)
      (option_and_then (piece_told position) (extent_data_read body)) ≡ Some part
      → IsBodyOf body part
  of_piece part is =
      map_some (PieceOf objectid) (option_and_then (piece_told position) (extent_data_read body)) part is
      (λ piece given same.
      option_and_then_some (piece_told position) (extent_data_read body) piece given
      (λ told read said. from piece told read said same))
    where
      from : (piece : Piece) (told : ExtentData) → extent_data_read body ≡ Some told
          → piece_told position told ≡ Some piece → PieceOf objectid piece ≡ part
          → IsBodyOf body part
      from piece told read said same =
          let twice = told_twice told piece said in
          let fits = ExtentDataFits-from_read body told are read in
          let fit = rw twice at fits in
          let here : IsBodyOf body (PieceOf objectid piece) = record {
            text = extent_data_text-from_read body told are read ∙ ap extent_data_text twice;
            placed = record { address = fit.disk_bytenr; bytes = fit.disk_num_bytes };
          } in
          rw (sym same) here

body_of : (item : Item) (part : FilePart) → IsBytes item.body → file_part item ≡ Some part → IsBodyOf item.body part
unfolding file_part
body_of item part are is =
    let number = item.key.objectid in
    let position = item.key.offset in
    let inode : Option FilePart = option_map (Inode number) (inode_read item.body) in
    let piece : Option FilePart =
    option_map (PieceOf number) (option_and_then (piece_told position) (extent_data_read item.body))
    in
    let is_inode = is_keyed number INODE_ITEM 0 item in
    let is_piece = item.key.kind == EXTENT_DATA in
    either_some (when is_inode inode) (when is_piece piece) part is
    (λ first. of_inode number position item.body are part (when_some is_inode inode part first))
    (λ second. of_piece number position item.body are part (when_some is_piece piece part second))

key_of_part : (part : FilePart) → (item_of_part part).key ≡ file_key part
key_of_part (Inode ino inode) = refl
key_of_part (PieceOf ino piece) = refl

-- an item is the one that says its part
is_said : (item : Item) (part : FilePart) → IsBytes item.body → file_part item ≡ Some part → item ≡ item_of_part part
is_said item part are is =
    let key : item.key ≡ (item_of_part part).key = sym (file_keyed item part is) ∙ sym (key_of_part part) in
    let body = (body_of item part are is).text in
    λ i. record { key = key i; body = body i }

-- ---- all items

-- what is known of a part of a subvolume's tree
pub record IsPartBy (generation : ℕ) (part : FilePart) : Type 0 where
  pub placed : HasPlace part
  pub stamped : HasStamps generation part

-- items are those that say their parts
pub record AreSaidBy (generation : ℕ) (items : List Item) : Type 0 where
  pub are : items ≡ map item_of_part (file_parts items)
  pub keys : map file_key (file_parts items) ≡ keys_of items
  pub each : AllByRecursion (IsPartBy generation) (file_parts items)

has_stamps : (generation : ℕ) (part : FilePart)
    → list_all (λ stamp. nat_le stamp generation) (file_part_stamps part) ≡ true
    → HasStamps generation part
has_stamps generation (Inode ino inode) all =
    let first = and_parts (nat_le inode.generation generation) (nat_le inode.transid generation && true) all in
    let second = and_parts (nat_le inode.transid generation) true first.1 in
    (leb-true inode.generation generation first.0, leb-true inode.transid generation second.0)
has_stamps generation (PieceOf ino piece) all =
    leb-true piece.stamp generation (and_parts (nat_le piece.stamp generation) true all).0

-- an item that the tree may hold says something
some_part : (generation : ℕ) (item : Item) (part : Option FilePart) → file_part item ≡ part
    → is_file_item generation item ≡ true
    → (x : FilePart) × (file_part item ≡ Some x) × HasStamps generation x
unfolding is_file_item
some_part generation item None is passes =
    let Q : Option FilePart → Type 0 =
    λ o. some_passes (λ part. list_all (λ stamp. nat_le stamp generation) (file_part_stamps part)) o ≡ true
    in
    let none : ◌≡◌ false true = subst Q is passes in
    absurd cc
some_part generation item (Some x) is passes =
    let Q : Option FilePart → Type 0 =
    λ o. some_passes (λ part. list_all (λ stamp. nat_le stamp generation) (file_part_stamps part)) o ≡ true
    in
    (x, is, has_stamps generation x (subst Q is passes))

pub said-by : (generation : ℕ) (items : List Item) → AllByRecursion (λ item. IsBytes item.body) items
    → list_all (is_file_item generation) items ≡ true → AreSaidBy generation items
said-by generation [] are all = record { are = refl; keys = refl; each = tt }
said-by generation (item ∷ items) are all =
    let parts = and_parts (is_file_item generation item) (list_all (is_file_item generation) items) all in
    let first = some_part generation item (file_part item) refl parts.0 in
    let later = said-by generation items are.1 parts.1 in
    let part = first.0 in
    let says : file_part item ≡ Some part = first.1 in
    let stands : file_parts (item ∷ items) ≡ part ∷ file_parts items =
    ap (λ (o : Option FilePart). cons_option o (file_parts items)) says
    in
    let whole = is_said item part are.0 says in
    record {
      are =
          ap (λ (i : Item). i ∷ items) whole
          ∙ ap (λ (others : List Item). item_of_part part ∷ others) later.are
          ∙ ap (map item_of_part) (sym stands);
      keys =
          ap (map file_key) stands
          ∙ ap (λ (k : Key). k ∷ map file_key (file_parts items)) (file_keyed item part says)
          ∙ ap (λ (ks : List Key). item.key ∷ ks) later.keys;
      each =
          subst (λ (all : List FilePart). AllByRecursion (IsPartBy generation) all) (sym stands)
          (record { placed = (body_of item part are.0 says).placed; stamped = first.2 }, later.each);
    }
