-- The key of an item that says something is that of what it says.
use Rattle.std.proofs.Common.{◌≡◌, ℕ, true, false, Bool, List, [], ◌∷◌, map, Option, Some, None, refl, sym, ap, ◌∙◌}
use Rattle.std.specs.Prelude.{◌&&◌, ◌==◌, IsTrue, length, nat_le}
use Rattle.std.specs.Bool.{then_some}
use Rattle.std.specs.Option.{option_map, option_and_then}
use Rattle.std.proofs.lemmas.Bool.{and_parts, eqb-true}
use Rattle.std.proofs.lemmas.Option.{none-some, same_Some, option_and_then_some}
use Rattle.qg_num.specs.declared.key.Key.{Key}
use Rattle.qg_num.specs.declared.piece.Piece.{Piece}
use Rattle.qg_image.specs.Types.{Item}
use Rattle.qg_image.specs.Nodes.{is_ascending}
use Rattle.qg_image.specs.Types.{INODE_ITEM, EXTENT_DATA, ROOT_ITEM, QGROUP_STATUS, QGROUP_INFO}
use Rattle.qg_image.specs.Types.{QGROUP_LIMIT, QGROUP_RELATION}
use Rattle.qg_image.specs.Types.{RootItem}
use Rattle.qg_image.specs.ItemReading.{inode_read, extent_data_read, root_read, status_read, info_read, limit_read}
use Rattle.qg_image.proofs.Trips.{then_some_parts}
use Rattle.qg_image.specs.declared.part.FilePart.{FilePart}
use Rattle.qg_image.specs.declared.part.FilePart.TheVariants.{Inode, PieceOf}
use Rattle.qg_image.specs.declared.part.QuotaPart.{QuotaPart}
use Rattle.qg_image.specs.declared.part.QuotaPart.TheVariants.{Status, Info, Limits, Relation}
use Rattle.qg_image.specs.ItemMeaning.{when, ◌orelse◌, is_keyed, piece_told, is_status, root_part, quota_part}
use Rattle.qg_image.specs.ItemMeaning.{file_part}
use Rattle.qg_tree_items.specs.Keys.{key_with, root_key, quota_key, file_key}
use Rattle.qg_tree_items.specs.Said.{AreSaid}

-- ---- what alternatives tell

when_parts : {A : Type 0} (b : Bool) (o : Option A) (x : A) → when b o ≡ Some x → (b ≡ true) × (o ≡ Some x)
when_parts true o x is = (refl, is)
when_parts false o x is = absurd (none-some x is)

orelse_some : {A P : Type 0} (a b : Option A) (x : A) → (a orelse b) ≡ Some x → (a ≡ Some x → P) → (b ≡ Some x → P) → P
orelse_some None b x is first second = second is
orelse_some (Some y) b x is first second = first is

option_map_some : {A B P : Type 0} (f : A → B) (o : Option A) (y : B) → option_map f o ≡ Some y
    → ((x : A) → o ≡ Some x → f x ≡ y → P) → P
option_map_some f None y is then = absurd (none-some y is)
option_map_some f (Some x) y is then = then x refl (same_Some (f x) y is)

-- ---- keys

key_made : (key : Key) (objectid kind offset : ℕ) → key.objectid ≡ objectid → key.kind ≡ kind → key.offset ≡ offset
    → key_with objectid kind offset ≡ key
key_made key objectid kind offset o k f = sym (λ i. record { objectid = o i; kind = k i; offset = f i })

has_key_made : (objectid kind offset : ℕ) (item : Item) → is_keyed objectid kind offset item ≡ true
    → key_with objectid kind offset ≡ item.key
has_key_made objectid kind offset item h =
    let parts = and_parts _ _ h in
    let front = and_parts _ _ parts.0 in
    key_made item.key objectid kind offset (eqb-true _ _ front.0) (eqb-true _ _ front.1) (eqb-true _ _ parts.1)

pub root_keyed : (item : Item) (part : ℕ × RootItem) → root_part item ≡ Some part → root_key part ≡ item.key
unfolding root_part
root_keyed item part h =
    let given = when_parts _ _ part h in
    option_and_then_some _ (root_read item.body) part given.1
    (λ root read is.
    ap root_key (sym (then_some_parts _ (item.key.objectid, root) part is).1)
    ∙ has_key_made item.key.objectid ROOT_ITEM 0 item (and_parts _ _ given.0).0)

status_keyed : (item : Item) (part : QuotaPart)
    → when (is_keyed 0 QGROUP_STATUS 0 item) (option_and_then (λ status. then_some (is_status status) (Status status))
    (status_read item.body)) ≡ Some part → quota_key part ≡ item.key
status_keyed item part h =
    let given = when_parts _ _ part h in
    option_and_then_some _ (status_read item.body) part given.1
    (λ status read is. ap quota_key (sym (then_some_parts _ (Status status) part is).1)
    ∙ has_key_made 0 QGROUP_STATUS 0 item given.0)

info_keyed : (item : Item) (part : QuotaPart)
    → when (is_keyed 0 QGROUP_INFO item.key.offset item) (option_map (Info item.key.offset) (info_read item.body))
    ≡ Some part → quota_key part ≡ item.key
info_keyed item part h =
    let given = when_parts _ _ part h in
    option_map_some _ (info_read item.body) part given.1
    (λ info read is. ap quota_key (sym is) ∙ has_key_made 0 QGROUP_INFO item.key.offset item given.0)

limits_keyed : (item : Item) (part : QuotaPart)
    → when (is_keyed 0 QGROUP_LIMIT item.key.offset item)
    (option_and_then (λ limit. then_some (nat_le limit.flags 3) (Limits item.key.offset limit)) (limit_read item.body))
    ≡ Some part → quota_key part ≡ item.key
limits_keyed item part h =
    let given = when_parts _ _ part h in
    option_and_then_some _ (limit_read item.body) part given.1
    (λ limit read is. ap quota_key (sym (then_some_parts _ (Limits item.key.offset limit) part is).1)
    ∙ has_key_made 0 QGROUP_LIMIT item.key.offset item given.0)

relation_keyed : (item : Item) (part : QuotaPart) → when ((item.key.kind == QGROUP_RELATION) && (length item.body == 0))
    (Some (Relation item.key.objectid item.key.offset)) ≡ Some part → quota_key part ≡ item.key
relation_keyed item part h =
    let given = when_parts _ _ part h in
    ap quota_key (sym (same_Some _ part given.1))
    ∙ key_made item.key item.key.objectid QGROUP_RELATION item.key.offset refl (eqb-true _ _ (and_parts _ _ given.0).0)
    refl

pub quota_keyed : (item : Item) (part : QuotaPart) → quota_part item ≡ Some part → quota_key part ≡ item.key
unfolding quota_part
quota_keyed item part h =
    orelse_some _ _ part h (status_keyed item part)
    (λ later. orelse_some _ _ part later (info_keyed item part)
    (λ last. orelse_some _ _ part last (limits_keyed item part) (relation_keyed item part)))

inode_keyed : (item : Item) (part : FilePart)
    → when (is_keyed item.key.objectid INODE_ITEM 0 item) (option_map (Inode item.key.objectid) (inode_read item.body))
    ≡ Some part → file_key part ≡ item.key
inode_keyed item part h =
    let given = when_parts _ _ part h in
    option_map_some _ (inode_read item.body) part given.1
    (λ inode read is. ap file_key (sym is) ∙ has_key_made item.key.objectid INODE_ITEM 0 item given.0)

piece_told_at : (position : ℕ) (body : List ℕ) (piece : Piece)
    → option_and_then (piece_told position) (extent_data_read body) ≡ Some piece → piece.position ≡ position
piece_told_at position body piece h =
    option_and_then_some _ (extent_data_read body) piece h
    (λ told read is. sym (ap (λ (p : Piece). p.position) (then_some_parts _ _ piece is).1))

piece_keyed : (item : Item) (part : FilePart)
    → when (item.key.kind == EXTENT_DATA)
    (option_map (PieceOf item.key.objectid) (option_and_then (piece_told item.key.offset) (extent_data_read item.body)))
    ≡ Some part → file_key part ≡ item.key
piece_keyed item part h =
    let given = when_parts _ _ part h in
    option_map_some _ (option_and_then (piece_told item.key.offset) (extent_data_read item.body)) part given.1
    (λ piece told is.
    ap file_key (sym is)
    ∙ key_made item.key item.key.objectid EXTENT_DATA piece.position refl (eqb-true _ _ given.0)
    (sym (piece_told_at item.key.offset item.body piece told)))

pub file_keyed : (item : Item) (part : FilePart) → file_part item ≡ Some part → file_key part ≡ item.key
unfolding file_part
file_keyed item part h = orelse_some _ _ part h (inode_keyed item part) (piece_keyed item part)

-- ---- parts whose keys ascend

same_keys : {P : Type 0} (meaning : Item → Option P) (key_of : P → Key)
    → ((item : Item) (part : P) → meaning item ≡ Some part → key_of part ≡ item.key)
    → (items : List Item) (parts : List P) → map meaning items ≡ map (λ part. Some part) parts
    → map key_of parts ≡ map (λ item. item.key) items
same_keys meaning key_of keyed [] [] h = refl
same_keys meaning key_of keyed [] (part ∷ parts) h = absurd cc
same_keys meaning key_of keyed (item ∷ items) [] h = absurd cc
same_keys meaning key_of keyed (item ∷ items) (part ∷ parts) h =
    let first : meaning item ≡ Some part = cc in
    let later : map meaning items ≡ map (λ part. Some part) parts = cc in
    let key = keyed item part first in
    let keys = same_keys meaning key_of keyed items parts later in
    cc

pub said_ascending : {P : Type 0} (meaning : Item → Option P) (key_of : P → Key)
    → ((item : Item) (part : P) → meaning item ≡ Some part → key_of part ≡ item.key)
    → (parts : List P) → AreSaid meaning parts → IsTrue (is_ascending (map key_of parts))
said_ascending meaning key_of keyed parts said =
    rw (same_keys meaning key_of keyed said.items parts said.said) said.ascending

pub roots_ascending : (parts : List (ℕ × RootItem)) → AreSaid root_part parts
    → IsTrue (is_ascending (map root_key parts))
roots_ascending parts said = said_ascending root_part root_key root_keyed parts said

pub quotas_ascending : (parts : List QuotaPart) → AreSaid quota_part parts → IsTrue (is_ascending (map quota_key parts))
quotas_ascending parts said = said_ascending quota_part quota_key quota_keyed parts said

pub files_ascending : (parts : List FilePart) → AreSaid file_part parts → IsTrue (is_ascending (map file_key parts))
files_ascending parts said = said_ascending file_part file_key file_keyed parts said
