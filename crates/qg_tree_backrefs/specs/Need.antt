-- A file command that is let in leaves the slots that a commit may want (this project's own). Weights are in bytes, the
-- rest in slots.
use Rattle.std.specs.Prelude.{ℕ, ◌+◌, ◌*◌, ◌≤◌}
use Rattle.qg_image.specs.Need.{file_copies, nodes_filled}
use Rattle.qg_tree_backrefs.specs.Heavier.{edit_bytes, name_new_bytes}

-- What a file command in a tree of this level, which touches so many pieces, makes of what the root, extent and quota
-- trees' items take: for each piece, and three times besides, a tree of this height is edited, and two new extents
-- named
pub record GetsHeavierBy (nodesize level pieces height edits names before after : ℕ) : Type 0 where
  pub size : 4096 ≤ nodesize
  pub low : height ≤ level + 3
  pub few_edits : edits ≤ pieces + 3
  pub few_names : names ≤ 2 * (pieces + 3)
  pub after_most : after ≤ before + edits * edit_bytes nodesize height + names * name_new_bytes

-- then the slots that a file command needs are, but for those that it may take, as many as what is left behind may want
abbrev pub NeedCovers : Type 0
NeedCovers = (nodesize level pieces height edits names before after : ℕ)
    → GetsHeavierBy nodesize level pieces height edits names before after
    → 5 * nodes_filled nodesize after + 40
    ≤ 9 * file_copies level pieces + 8 * nodes_filled nodesize before + 40

-- so where those were free before, and the command took no more than it may, these are free behind it
abbrev pub NeedLeaves : Type 0
NeedLeaves = (nodesize level pieces height edits names before after free left : ℕ)
    → GetsHeavierBy nodesize level pieces height edits names before after
    → 10 * file_copies level pieces + 8 * nodes_filled nodesize before + 40 ≤ free
    → free ≤ left + file_copies level pieces → 5 * nodes_filled nodesize after + 40 ≤ left
