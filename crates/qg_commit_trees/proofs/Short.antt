-- Items of files are short.
use Rattle.std.proofs.Common.{◌≡◌, ℕ, ◌≤◌, Bool, true, false, List, [], ◌∷◌, length, Option, Some, None, arith, refl}
use Rattle.std.proofs.Common.{inl, inr}
use Rattle.std.specs.Prelude.{◌⊎◌, ◌&&◌, ◌==◌, All, is_some, nat_le, slice_index}
use Rattle.std.specs.Bool.{then_some}
use Rattle.std.specs.List.{list_all}
use Rattle.std.specs.Option.{option_and_then, option_map}
use Rattle.std.proofs.lemmas.Bool.{and_parts, eqb-true}
use Rattle.std.proofs.lemmas.List.Elements.{All-cons, All-nil}
use Rattle.qg_num.specs.Fields.{is_zero}
use Rattle.qg_num.specs.declared.piece.Piece.{Piece}
use Rattle.qg_node.specs.declared.item.Item.{Item}
use Rattle.qg_items.specs.declared.file.ExtentData.{ExtentData}
use Rattle.qg_items.specs.declared.file.InodeItem.{InodeItem}
use Rattle.qg_items.specs.declared.kind.TheConstants.{EXTENT_DATA, INODE_ITEM}
use Rattle.qg_items.specs.ItemReading.{extent_data_read, inode_read}
use Rattle.qg_image.specs.FilesOf.{is_file_item}
use Rattle.qg_image.specs.ItemMeaning.{◌orelse◌, file_part, file_part_stamps, is_keyed, piece_told, some_passes, when}
use Rattle.qg_image.specs.declared.part.FilePart.{FilePart}
use Rattle.qg_image.specs.declared.part.FilePart.TheVariants.{Inode, PieceOf}
use Rattle.qg_image.specs.declared.tree.TreeKind.TheVariants.{Files}
use Rattle.qg_image.specs.Walk.{is_item_of}

some_when : {A : Type 0} (b : Bool) (x : A) → is_some (then_some b x) ≡ true → b ≡ true
some_when true x is = refl
some_when false x is = absurd cc

inode_short : (body : List ℕ) → is_some (inode_read body) ≡ true → length body ≤ 1024
unfolding inode_read
inode_short body is =
    let parts = and_parts (length body == 160) (is_zero 32 160 body)
    (some_when ((length body == 160) && is_zero 32 160 body) _ is) in
    let size = eqb-true (length body) 160 parts.0 in
    omega (arith, size)

extent_short : (body : List ℕ) → is_some (extent_data_read body) ≡ true → length body ≤ 1024
unfolding extent_data_read
extent_short body is =
    let all = some_when ((length body == 53) && is_zero 16 20 body && (slice_index body 20 == 1)) _ is in
    let front = and_parts ((length body == 53) && is_zero 16 20 body) (slice_index body 20 == 1) all in
    let parts = and_parts (length body == 53) (is_zero 16 20 body) front.0 in
    let size = eqb-true (length body) 53 parts.0 in
    omega (arith, size)

either_read : (a b : Bool) (inode : Option InodeItem) (extent : Option ExtentData) (f : InodeItem → FilePart)
    (g : Piece → FilePart) (h : ExtentData → Option Piece)
    → is_some (when a (option_map f inode) orelse when b (option_map g (option_and_then h extent))) ≡ true
    → (is_some inode ≡ true) ⊎ (is_some extent ≡ true)
either_read true b (Some x) extent f g h is = inl refl
either_read true true None (Some y) f g h is = inr refl
either_read true true None None f g h is = absurd cc
either_read true false None extent f g h is = absurd cc
either_read false true inode (Some y) f g h is = inr refl
either_read false true inode None f g h is = absurd cc
either_read false false inode extent f g h is = absurd cc

part_short : (item : Item) → is_some (file_part item) ≡ true → length item.body ≤ 1024
unfolding file_part
part_short item is = elim (either_read (is_keyed item.key.objectid INODE_ITEM 0 item) (item.key.kind == EXTENT_DATA)
    (inode_read item.body) (extent_data_read item.body) (Inode item.key.objectid) (PieceOf item.key.objectid)
    (piece_told item.key.offset) is) [
      | inl inode ↦ inode_short item.body inode
      | inr extent ↦ extent_short item.body extent
    ]

passes_some : {A : Type 0} (test : A → Bool) (o : Option A) → some_passes test o ≡ true → is_some o ≡ true
passes_some test None is = is
passes_some test (Some x) is = refl

item_short : (generation : ℕ) (item : Item) → is_item_of Files generation item ≡ true → length item.body ≤ 1024
unfolding is_item_of is_file_item
item_short generation item is = part_short item
    (passes_some (λ (part : FilePart). list_all (λ (stamp : ℕ). nat_le stamp generation) (file_part_stamps part))
    (file_part item) is)

pub items-short : (generation : ℕ) (items : List Item) → list_all (is_item_of Files generation) items ≡ true
    → All (λ item. length item.body ≤ 1024) items
items-short generation [] are = All-nil (λ (item : Item). length item.body ≤ 1024)
items-short generation (item ∷ items) are =
    let parts = and_parts (is_item_of Files generation item) (list_all (is_item_of Files generation) items) are in
    All-cons (λ (item : Item). length item.body ≤ 1024) item items (item_short generation item parts.0)
    (items-short generation items parts.1)
