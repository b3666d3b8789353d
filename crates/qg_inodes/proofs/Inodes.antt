-- The INODE_ITEM that stands under a file's key.
use Rattle.std.proofs.Common.{◌≡◌, ℕ, true, false, List, [], ◌∷◌, Some, None, refl, sym, ap, subst, ◌∙◌, inl, inr}
use Rattle.std.specs.Prelude.{Bool, Option, ◌==◌, ◌&&◌, ◌||◌, IsSome, IsTrue, is_none}
use Rattle.std.specs.List.{cons_option, list_all}
use Rattle.std.proofs.lemmas.Bool.{and_from, and_parts, cases_Bool, eq-eqb, eqb-true, ne_eqb, or_from}
use Rattle.qg_num.specs.declared.key.Key.{Key}
use Rattle.qg_node.specs.declared.item.Item.{Item}
use Rattle.qg_items.specs.declared.file.InodeItem.{InodeItem}
use Rattle.qg_items.specs.ItemReading.{inode_read}
use Rattle.qg_image.specs.declared.part.FilePart.{FilePart}
use Rattle.qg_image.specs.declared.part.FilePart.TheVariants.{Inode, PieceOf}
use Rattle.qg_image.specs.ItemMeaning.{file_part}
use Rattle.qg_image.specs.FilesOf.{file_parts, inodes_in, is_file_item}
use Rattle.qg_image.specs.IsShaped.{same_key}
use Rattle.qg_image.specs.Table.{value_at}
use Rattle.qg_tree_items.specs.Keys.{key_with}
use Rattle.qg_tree_read.specs.Reading.{body_at}
use Rattle.qg_inodes.proofs.BodiesByKey.{body-first, body-later}
use Rattle.qg_inodes.specs.Items.{has_unread, is_unread}
use Rattle.qg_inodes.proofs.Says.{SaysInode, SaysPiece, no-inode, says}

-- ---- where the items are those of files

-- the INODE_ITEM that is told is what stands there
abbrev pub Tells : Option (List ℕ) → Option InodeItem → Type 0
Tells None told = told ≡ None
Tells (Some body) told = (inode_read body ≡ told) × IsSome told

tells_from : (body stands : Option (List ℕ)) (told other : Option InodeItem) → body ≡ stands → told ≡ other
    → Tells stands other → Tells body told
tells_from body stands told other same_body same_told tells =
    subst (λ (o : Option InodeItem). Tells body o) (sym same_told)
    (subst (λ (o : Option (List ℕ)). Tells o other) (sym same_body) tells)

module _ (ino : ℕ) (item : Item) (items : List Item) where
  abbrev key : Key
  key = key_with ino 1 0

  abbrev TellsRest : Type 0
  TellsRest = Tells (body_at key items) (value_at ino (inodes_in (file_parts items)))

  abbrev TellsAll : Type 0
  TellsAll = Tells (body_at key (item ∷ items)) (value_at ino (inodes_in (file_parts (item ∷ items))))

  abbrev told_behind : Option FilePart → Option InodeItem
  told_behind first = value_at ino (inodes_in (cons_option first (file_parts items)))

  tells_inode : SaysInode item → TellsRest → TellsAll
  tells_inode first rest = elim (cases_Bool (item.key.objectid == ino)) [
    | inl own ↦
        let same : same_key item.key key ≡ true =
        and_from ((item.key.objectid == ino) && (item.key.kind == 1)) (item.key.offset == 0)
        (and_from (item.key.objectid == ino) (item.key.kind == 1) own (eq-eqb item.key.kind 1 first.kind))
        (eq-eqb item.key.offset 0 first.offset)
        in
        let told : told_behind (Some (Inode item.key.objectid first.inode)) ≡ Some first.inode = rw own refl in
        tells_from (body_at key (item ∷ items)) (Some item.body) (told_behind (file_part item)) (Some first.inode)
        (body-first key item items same) (ap told_behind first.says ∙ told) (first.read, refl)
    | inr other ↦
        let differ : same_key item.key key ≡ false =
        ap (λ (b : Bool). (b && (item.key.kind == 1)) && (item.key.offset == 0)) other
        in
        let told : told_behind (Some (Inode item.key.objectid first.inode)) ≡ value_at ino
        (inodes_in (file_parts items)) =
        rw other refl
        in
        tells_from (body_at key (item ∷ items)) (body_at key items) (told_behind (file_part item))
        (value_at ino (inodes_in (file_parts items))) (body-later key item items differ) (ap told_behind first.says
        ∙ told)
        rest
  ]

  tells_piece : SaysPiece item → TellsRest → TellsAll
  tells_piece first rest =
      let differ : same_key item.key key ≡ false = not_inode item.key first.kind in
      tells_from (body_at key (item ∷ items)) (body_at key items) (told_behind (file_part item))
      (value_at ino (inodes_in (file_parts items))) (body-later key item items differ) (ap told_behind first.says) rest
    where
      kind_differs : (k : ℕ) → k ≡ 108 → (k == 1) ≡ false
      kind_differs k is = ap (λ (n : ℕ). n == 1) is

      neither : (a c : Bool) → ((a && false) && c) ≡ false
      neither true c = refl
      neither false c = refl

      not_inode : (k : Key) → k.kind ≡ 108 → same_key k key ≡ false
      not_inode k is =
          ap (λ (b : Bool). ((k.objectid == ino) && b) && (k.offset == 0)) (kind_differs k.kind is)
          ∙ neither (k.objectid == ino) (k.offset == 0)

pub inode-told : (generation ino : ℕ) (items : List Item) → list_all (is_file_item generation) items ≡ true
    → Tells (body_at (key_with ino 1 0) items) (value_at ino (inodes_in (file_parts items)))
inode-told generation ino [] each = refl
inode-told generation ino (item ∷ items) each =
    let parts = and_parts (is_file_item generation item) (list_all (is_file_item generation) items) each in
    let rest = inode-told generation ino items parts.1 in
    elim (says generation item parts.0) [
      | inl inode ↦ tells_inode ino item items inode rest
      | inr piece ↦ tells_piece ino item items piece rest
    ]

-- ---- where something else stands there

or_true : (a : Bool) → (a || true) ≡ true
or_true true = refl
or_true false = refl

pub unread-there : (ino : ℕ) (items : List Item) (body : List ℕ) → body_at (key_with ino 1 0) items ≡ Some body
    → inode_read body ≡ None
    → IsTrue (has_unread ino items)
unread-there ino [] body is unread = absurd cc
unread-there ino (item ∷ items) body is unread = elim (cases_Bool (same_key item.key (key_with ino 1 0))) [
  | inl same ↦
      let here : ◌≡◌ (Some item.body) (Some body) = sym (body-first (key_with ino 1 0) item items same) ∙ is in
      let own : item.body ≡ body = cc in
      let parts = and_parts ((item.key.objectid == ino) && (item.key.kind == 1)) (item.key.offset == 0) same in
      let front = and_parts (item.key.objectid == ino) (item.key.kind == 1) parts.0 in
      let none = no-inode item (eqb-true item.key.kind 1 front.1) (ap inode_read own ∙ unread) in
      let this : is_unread ino item ≡ true =
      and_from (item.key.objectid == ino) (is_none (file_part item)) front.0 none in
      ap (λ (b : Bool). b || has_unread ino items) this
  | inr differ ↦
      let later = unread-there ino items body (sym (body-later (key_with ino 1 0) item items differ) ∙ is) unread in
      ap (λ (b : Bool). is_unread ino item || b) later ∙ or_true (is_unread ino item)
]
