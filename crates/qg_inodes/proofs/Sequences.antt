-- What stands under each key after edits, one after the other.
use Rattle.std.proofs.Common.{◌≡◌, ℕ, List, [], ◌∷◌, None, refl, sym, ap, ◌∙◌, inl, inr}
use Rattle.std.specs.Prelude.{Option, is_some, if◌then◌else◌}
use Rattle.std.proofs.lemmas.Bool.{cases_Bool}
use Rattle.qg_num.specs.declared.key.Key.{Key}
use Rattle.qg_node.specs.declared.item.Item.{Item}
use Rattle.qg_image.specs.IsShaped.{same_key}
use Rattle.qg_image.specs.ItemMeaning.{◌orelse◌}
use Rattle.qg_edit.specs.Edits.{with_item, without_key}
use Rattle.qg_walk.proofs.KeyRanges.{same_key-true}
use Rattle.qg_tree_read.specs.Reading.{body_at}
use Rattle.qg_inodes.specs.Bodies.{Ascend}
use Rattle.qg_inodes.specs.FileEdits.{with_items, without_items}
use Rattle.qg_inodes.proofs.EditedItems.{ascending-with_item, ascending-without_key, body-with_item, body-without_key}
use Rattle.qg_inodes.proofs.BodiesByKey.{first_least, later_ascend, no_body}

-- ---- put in

pub body-with_items : (news items : List Item) (key : Key) → Ascend news
    → body_at key (with_items news items) ≡ (body_at key news orelse body_at key items)
body-with_items [] items key ascending = refl
body-with_items (new ∷ news) items key ascending =
    body-with_items news (with_item new items) key (later_ascend new news ascending)
    ∙ ap (λ (o : Option (List ℕ)). body_at key news orelse o) (body-with_item new items key)
    ∙ elim (cases_Bool (same_key new.key key)) [
      | inr differ ↦ rw differ refl
      | inl same ↦
          let none : body_at key news ≡ None =
          ap (λ (k : Key). body_at k news) (sym (same_key-true new.key key same))
          ∙ no_body new.key news (first_least new news ascending)
          in
          rw (same, none) refl
    ]

pub ascending-with_items : (news items : List Item) → Ascend items → Ascend (with_items news items)
ascending-with_items [] items ascending = ascending
ascending-with_items (new ∷ news) items ascending =
    ascending-with_items news (with_item new items) (ascending-with_item new items ascending)

-- ---- taken out

pub body-without_items : (gone items : List Item) (key : Key)
    → body_at key (without_items gone items) ≡ (if is_some (body_at key gone) then None else body_at key items)
body-without_items [] items key = refl
body-without_items (one ∷ gone) items key =
    let later = body_at key gone in
    body-without_items gone (without_key one.key items) key
    ∙ ap (λ (o : Option (List ℕ)). if is_some later then None else o) (body-without_key one.key items key)
    ∙ elim (cases_Bool (same_key one.key key)) [
      | inr differ ↦ rw differ refl
      | inl same ↦ elim (cases_Bool (is_some later)) [
        | inl some ↦ rw (same, some) refl
        | inr none ↦ rw (same, none) refl
      ]
    ]

pub ascending-without_items : (gone items : List Item) → Ascend items → Ascend (without_items gone items)
ascending-without_items [] items ascending = ascending
ascending-without_items (one ∷ gone) items ascending =
    ascending-without_items gone (without_key one.key items) (ascending-without_key one.key items ascending)
