-- Steps made on the items of a subvolume's files, one after the other (this project's own). Positions are in bytes.
use Rattle.std.specs.Prelude.{◌≡◌, ⊤, ℕ, List, [], ◌∷◌, map, None, IsSome, IsTrue, not}
use Rattle.qg_num.specs.declared.key.Key.{Key}
use Rattle.qg_num.specs.declared.piece.Piece.{Piece}
use Rattle.qg_node.specs.declared.item.Item.{Item}
use Rattle.qg_items.specs.declared.kind.TheConstants.{EXTENT_DATA, INODE_ITEM}
use Rattle.qg_tree_items.specs.Keys.{key_with}
use Rattle.qg_root_items.specs.Written.{item_of_piece}
use Rattle.qg_edit.specs.Edits.{has_key, with_item, without_key}
use Rattle.qg_tree_read.specs.Reading.{body_at}
use Rattle.qg_inodes.specs.Bodies.{Ascend, piece_at}
use Rattle.qg_inodes.specs.FileEdits.{with_items, without_items}
use Rattle.qg_file_edits.specs.declared.step.Step.{Step}
use Rattle.qg_file_edits.specs.declared.step.Step.TheVariants.{Remove, Insert, Replace}
use Rattle.qg_file_edits.specs.Steps.{AscendByPosition}

-- the key of a file's EXTENT_DATA at a position
abbrev pub key_at : ℕ → ℕ → Key
key_at ino position = key_with ino EXTENT_DATA position

-- ---- what steps make of items

-- what one step makes of the items
abbrev pub after_step : ℕ → Step → List Item → List Item
after_step ino (Remove position) items = without_key (key_at ino position) items
after_step ino (Insert piece) items = with_item (item_of_piece ino piece) items
after_step ino (Replace piece) items = with_item (item_of_piece ino piece) items

-- what steps make of them, one after the other
abbrev pub after_steps : ℕ → List Step → List Item → List Item
after_steps ino [] items = items
after_steps ino (step ∷ steps) items = after_steps ino steps (after_step ino step items)

-- ---- when they can be made

-- an item is there that is taken out or replaced, and none is where one is put in
abbrev pub CanApply : ℕ → Step → List Item → Type 0
CanApply ino (Remove position) items = IsTrue (has_key (key_at ino position) items)
CanApply ino (Insert piece) items = IsTrue (not (has_key (key_at ino piece.position) items))
CanApply ino (Replace piece) items = IsTrue (has_key (key_at ino piece.position) items)

-- so each in its turn, after the steps before it
abbrev pub Applies : ℕ → List Step → List Item → Type 0
Applies ino [] items = ⊤
Applies ino (step ∷ steps) items = CanApply ino step items × Applies ino steps (after_step ino step items)

-- ---- the exchange that they make

-- pieces of a file can be exchanged for others: those that go stand in the items, and where one comes and none goes,
-- nothing stands
pub record CanExchange (ino : ℕ) (gone put : List Piece) (items : List Item) : Type 0 where
  pub ascending : Ascend items
  pub gone_ascend : AscendByPosition gone
  pub put_ascend : AscendByPosition put
  pub there : (position : ℕ) → IsSome (piece_at position gone) → IsSome (body_at (key_at ino position) items)
  pub free : (position : ℕ) → IsSome (piece_at position put) → piece_at position gone ≡ None
      → body_at (key_at ino position) items ≡ None

-- the steps can be made, and leave what is left once all that goes is taken out, and then all that comes is put in. The
-- file's INODE_ITEM stays
pub record MakesExchange (ino : ℕ) (gone put : List Piece) (steps : List Step) (items : List Item) : Type 0 where
  pub applies : Applies ino steps items
  pub made : after_steps ino steps items
      ≡ with_items (map (item_of_piece ino) put) (without_items (map (item_of_piece ino) gone) items)
  pub ascending : Ascend (after_steps ino steps items)
  pub inode : body_at (key_with ino INODE_ITEM 0) (after_steps ino steps items)
      ≡ body_at (key_with ino INODE_ITEM 0) items
