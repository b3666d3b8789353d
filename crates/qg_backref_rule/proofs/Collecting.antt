-- What nodes owe, and what items record, collected one by one.
use Rattle.std.proofs.Common.{◌≡◌, ℕ, ◌+◌, ◌<◌, Bool, true, false, List, [], ◌∷◌, ◌++◌, map, length, take, drop, get_or}
use Rattle.std.proofs.Common.{refl, sym, ap, ◌∙◌, arith}
use Rattle.std.specs.Prelude.{Option, Some, None, is_some, ◌==◌}
use Rattle.std.specs.List.{filter, filter_map, flat_map, cons_option}
use Rattle.std.specs.Option.{option_map, option_and_then, option_to_list}
use Rattle.std.proofs.lemmas.Bool.{cond-true, true≢false}
use Rattle.std.proofs.lemmas.Bool.Decides.{nat_tests}
use Rattle.std.proofs.lemmas.List.{append-nil, append_assoc, map-append, take_more, take-append-drop}
use Rattle.std.proofs.lemmas.List.Elements.{filter-append, filter_map-append}
use Rattle.std.proofs.lemmas.List.Concat.{flat_map-append}
use Rattle.qg_items.specs.declared.file.InodeItem.{InodeItem}
use Rattle.qg_items.specs.declared.kind.TheConstants.{INODE_ITEM, EXTENT_DATA}
use Rattle.qg_items.specs.declared.extent.Reference.{Reference}
use Rattle.qg_items.specs.ItemReading.{inode_read, extent_data_read}
use Rattle.qg_node.specs.declared.node.Header.{Header}
use Rattle.qg_node.specs.declared.item.Item.{Item}
use Rattle.qg_image.specs.declared.part.FilePart.TheVariants.{Inode, PieceOf}
use Rattle.qg_image.specs.declared.part.ExtentPart.{ExtentPart}
use Rattle.qg_image.specs.ItemMeaning.{when, is_keyed, piece_told, file_part, ◌orelse◌}
use Rattle.qg_image.specs.Owed.{Owing as OwedReference, What, owed_by_part, is_record, is_recorded_once, reference_told}
use Rattle.qg_refs.specs.declared.counted.Counted.{Counted}
use Rattle.qg_backref_rule.specs.declared.owing.Owing.{Owing}
use Rattle.qg_backref_rule.specs.OwedLists.{owings_told}
use Rattle.qg_backref_rule.specs.Judged.{count_told, counts_told}

-- ---- one item of a leaf

-- a file's own item owes nothing
inode_owes : (header : Header) (full keyed : Bool) (ino : ℕ) (inode : Option InodeItem)
    → owed_by_part header full (when keyed (option_map (Inode ino) inode) orelse None) ≡ []
inode_owes header full false ino inode = refl
inode_owes header full true ino None = refl
inode_owes header full true ino (Some inode) = refl

pub other_owes : (header : Header) (full : Bool) (item : Item) → (item.key.kind == EXTENT_DATA) ≡ false
    → owed_by_part header full (file_part item) ≡ []
unfolding file_part
other_owes header full item other =
    ap (λ b. owed_by_part header full
    (when (is_keyed item.key.objectid INODE_ITEM 0 item)
    (option_map (Inode item.key.objectid) (inode_read item.body))
    orelse when b (option_map (PieceOf item.key.objectid)
    (option_and_then (piece_told item.key.offset) (extent_data_read item.body))))) other
    ∙ inode_owes header full (is_keyed item.key.objectid INODE_ITEM 0 item) item.key.objectid (inode_read item.body)

apart : (item : Item) → (item.key.kind == EXTENT_DATA) ≡ true → is_keyed item.key.objectid INODE_ITEM 0 item ≡ false
apart item is = grind (arith, nat_tests)

pub piece_owes : (header : Header) (full : Bool) (item : Item) → (item.key.kind == EXTENT_DATA) ≡ true
    → owed_by_part header full (file_part item) ≡ owed_by_part header full
    (option_map (PieceOf item.key.objectid)
    (option_and_then (piece_told item.key.offset) (extent_data_read item.body)))
unfolding file_part
piece_owes header full item is =
    ap (λ b. owed_by_part header full (when b (option_map (Inode item.key.objectid) (inode_read item.body))
    orelse when (item.key.kind == EXTENT_DATA)
    (option_map (PieceOf item.key.objectid)
    (option_and_then (piece_told item.key.offset) (extent_data_read item.body))))) (apart item is)
    ∙ ap (λ b. owed_by_part header full
    (when b (option_map (PieceOf item.key.objectid)
    (option_and_then (piece_told item.key.offset) (extent_data_read item.body))))) is

-- ---- one more

-- one more item of a leaf
pub owings_more : (owings : List Owing) (before : List OwedReference) (gives : Item → List OwedReference)
    (items : List Item) (i : ℕ) (item : Item) (more : List Owing)
    → i < length items → item ≡ get_or items i item → owings_told owings ≡ before ++ flat_map gives (take i items)
    → owings_told more ≡ gives item
    → owings_told (owings ++ more) ≡ before ++ flat_map gives (take (i + 1) items)
owings_more owings before gives items i item more inside is so_far given =
    map-append _ owings more ∙ (λ k. so_far k ++ given k)
    ∙ append_assoc before (flat_map gives (take i items)) (gives item)
    ∙ ap (λ ws. before ++ ws) (ap (λ ws. flat_map gives (take i items) ++ ws) (sym (append-nil (gives item))
    ∙ ap (λ x. flat_map gives (x ∷ [])) is)
    ∙ sym (flat_map-append gives (take i items) (get_or items i item ∷ []))
    ∙ ap (flat_map gives) (sym (take_more items i item inside)))

-- one more item of the extent tree
pub counts_more : (told : List Counted) (parts : List ExtentPart) (i : ℕ) (part : ExtentPart) (more : Option Counted)
    → i < length parts → part ≡ get_or parts i part → counts_told told ≡ filter_map reference_told (take i parts)
    → option_map count_told more ≡ reference_told part
    → counts_told (told ++ option_to_list more) ≡ filter_map reference_told (take (i + 1) parts)
counts_more told parts i part more inside is so_far given =
    map-append count_told told (option_to_list more)
    ∙ (λ k. so_far k ++ (one more (reference_told part) given ∙ as_mapped (reference_told part)) k)
    ∙ ap (λ x. filter_map reference_told (take i parts) ++ filter_map reference_told (x ∷ [])) is
    ∙ sym (filter_map-append reference_told (take i parts) (get_or parts i part ∷ []))
    ∙ ap (filter_map reference_told) (sym (take_more parts i part inside))
  where
    one : (more : Option Counted) (given : Option (Reference × ℕ)) → option_map count_told more ≡ given
        → map count_told (option_to_list more) ≡ option_to_list given
    one None given is = ap option_to_list is
    one (Some entry) given is = ap option_to_list is

    as_mapped : (given : Option (Reference × ℕ)) → option_to_list given ≡ cons_option given []
    as_mapped None = refl
    as_mapped (Some entry) = refl

-- a second record
pub two_records : (what : What) (refs : ℕ) (parts : List ExtentPart) (i : ℕ) (part : ExtentPart)
    (found : Option ExtentPart)
    → i < length parts → part ≡ get_or parts i part → is_record part ≡ true
    → filter is_record (take i parts) ≡ option_to_list found → is_some found ≡ true
    → is_recorded_once what refs (filter is_record parts) ≡ false
two_records what refs parts i part None inside is is_one before some = absurd (true≢false (sym some))
two_records what refs parts i part (Some first) inside is is_one before some =
    let here : filter is_record (part ∷ []) ≡ part ∷ [] = cond-true (is_record part) (part ∷ []) [] is_one in
    let front : filter is_record (take (i + 1) parts) ≡ first ∷ part ∷ [] =
    ap (filter is_record) (take_more parts i part inside)
    ∙ filter-append is_record (take i parts) (get_or parts i part ∷ [])
    ∙ (λ k. before k ++ (ap (λ x. filter is_record (x ∷ [])) (sym is) ∙ here) k) in
    ap (λ ws. is_recorded_once what refs (filter is_record ws)) (sym (take-append-drop (i + 1) parts))
    ∙ ap (is_recorded_once what refs) (filter-append is_record (take (i + 1) parts) (drop (i + 1) parts))
    ∙ ap (λ ws. is_recorded_once what refs (ws ++ filter is_record (drop (i + 1) parts))) front
