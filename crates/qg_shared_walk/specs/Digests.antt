-- What is kept of a node below which all is well (this project's own).
use Rattle.std.specs.Prelude.{◌≡◌, ℕ, ◌*◌, Bool, true, false, ◌&&◌, ◌++◌, List, map, slice_get, Option, Some}
use Rattle.std.specs.Prelude.{None, IsTrue, nat_le}
use Rattle.qg_num.specs.declared.key.Key.{Key}
use Rattle.qg_node.specs.declared.node.Node.{Node}
use Rattle.qg_node.specs.Nodes.{header_of, is_ascending, own_keys, used_bytes}
use Rattle.qg_super.specs.Places.{capacity}
use Rattle.qg_image.specs.declared.part.FilePart.{FilePart}
use Rattle.qg_image.specs.IsShaped.{is_shaped, same_key}
use Rattle.qg_tree_items.specs.Keys.{file_key}
use Rattle.qg_tree_items.specs.Rows.{Tells}
use Rattle.qg_image.specs.declared.expected.Expected.{Expected}
use Rattle.qg_image.specs.Walk.{is_told}
use Rattle.qg_walk.specs.Added.{is_to}
use Rattle.qg_shared_walk.specs.declared.digest.Below.{Below}
use Rattle.qg_shared_walk.specs.declared.digest.Digest.{Digest}

-- the first key is the one that is told, if one is
abbrev pub begins_by : Option Key → Option Key → Bool
begins_by None first = true
begins_by (Some from) None = false
begins_by (Some from) (Some first) = same_key first from

-- the greatest key comes before the one that is told, if one is
abbrev pub ends_by : Option Key → Option Key → Bool
ends_by to None = true
ends_by to (Some last) = is_to to last

-- the shape of a root, or of a node that a pointer leads to
abbrev pub has_shape : Option Key → Digest → Bool
has_shape None digest = digest.is_root_shaped
has_shape (Some from) digest = digest.is_quarter_full

-- the node itself is one that is expected, its greatest key left out
abbrev pub fits_alone : Expected → Digest → Bool
fits_alone expected digest =
    is_told expected.level digest.level && is_told expected.generation digest.generation
    && begins_by expected.from digest.first
    && has_shape expected.from digest

-- a node with this digest is one that is expected
abbrev pub fits : Expected → Digest → Bool
fits expected digest = fits_alone expected digest && ends_by expected.to digest.below.last

-- what is kept of the node itself is so
pub record IsDigestOf (nodesize : ℕ) (node : Node) (digest : Digest) : Type 0 where
  pub level : digest.level ≡ (header_of node).level
  pub generation : digest.generation ≡ (header_of node).generation
  pub first : digest.first ≡ slice_get (own_keys node) 0
  pub root : digest.is_root_shaped ≡ is_shaped nodesize None node
  pub quarter : digest.is_quarter_full ≡ nat_le (capacity nodesize) (4 * used_bytes node)

-- what is kept of some items, and behind them of others
pub record HasBehind (front behind all : Below) : Type 0 where
  pub last : all.last ≡ behind.last
  pub row : (xs ys : List FilePart) → Tells front.row xs → Tells behind.row ys
      → IsTrue (is_ascending (map file_key (xs ++ ys))) → Tells all.row (xs ++ ys)
