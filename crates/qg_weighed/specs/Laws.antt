-- What the items of a state's extent tree take, by two books (this project's own). Addresses and lengths are in bytes.
use Rattle.std.specs.Prelude.{◌≡◌, ℕ, ◌+◌, ◌<◌, ◌≤◌, Bool, true, false, not, List, ◌++◌, Option, Some}
use Rattle.std.specs.List.{Contains, filter, filter_map, flat_map, list_any}
use Rattle.std.specs.List.Sorted.{IsStrictlyIncreasing}
use Rattle.std.specs.Option.{option_map}
use Rattle.qg_node.specs.declared.node.Node.{Node}
use Rattle.qg_node.specs.Nodes.{header_of, own_items}
use Rattle.qg_items.specs.declared.extent.Reference.{Reference}
use Rattle.qg_super.specs.declared.sizes.Sizes.{Sizes}
use Rattle.qg_image.specs.ItemMeaning.{extent_part}
use Rattle.qg_image.specs.Table.{keys_of, value_at}
use Rattle.qg_image.specs.declared.element.Element.{Element}
use Rattle.qg_image.specs.Need.{extent_records, held_records, quota_records, root_records, weight}
use Rattle.qg_image.specs.Owed.{is_nothing, layout_extents, owed_count, what_at}
use Rattle.qg_image.specs.Record.{Record, RootOf, ExtentOf, NodeOf, ReferenceTo, Status, InfoOf, LimitOf, RelationOf}
use Rattle.qg_image.specs.Record.{records_bytes, same_record}
use Rattle.qg_image.specs.State.{Layout, Placed, State, layout_of}
use Rattle.qg_image.specs.IsFresh.{fresh_state}
use Rattle.qg_extents.specs.Types.{Kept}
use Rattle.qg_extents.specs.Book.{AgreesWithOwed, Book, what_in}
use Rattle.qg_extents.specs.Fresh.{fresh_table}
use Rattle.qg_extents.specs.Table.{IsTable, book_of}
use Rattle.qg_extents.specs.Written.{parts_of_book}
use Rattle.qg_weighed.specs.Weight.{record_known, records_in, weight_of}

-- ---- records

-- one is among records
abbrev pub is_among : List Record → Record → Bool
is_among records one = list_any (same_record one) records

-- one is of the extent tree
abbrev pub is_of_extents : Record → Bool
is_of_extents (ExtentOf address bytes) = true
is_of_extents (NodeOf address level) = true
is_of_extents (ReferenceTo address reference) = true
is_of_extents (RootOf tree) = false
is_of_extents Status = false
is_of_extents (InfoOf group) = false
is_of_extents (LimitOf group) = false
is_of_extents (RelationOf group other) = false

-- ---- what two books say

-- the record of what a book knows of what begins at an address
abbrev pub known_at : Book → ℕ → Option Record
known_at book at = option_map (λ what. record_known at what) (what_in (book at))

-- A table counts what a layout owes, and that leads to what is there. Of each node the level is known, and of each
-- extent that leaves name the length; nodes ascend by address
pub record CountsLayout (layout : Layout) (refs : List (ℕ × Kept)) : Type 0 where
  pub kept : IsTable refs
  pub agrees : AgreesWithOwed layout (book_of refs)
  pub begins : (at : ℕ) (reference : Reference) → 0 < owed_count layout at reference
      → is_nothing (what_at layout at) ≡ false
  pub ascending : IsStrictlyIncreasing (keys_of layout.nodes)
  pub nodes : (at : ℕ) (placed : Placed) → value_at at layout.nodes ≡ Some placed
      → known_at (book_of refs) at ≡ Some (NodeOf at (header_of placed.node).level)
  pub extents : (run : Element) → Contains (layout_extents layout) run
      → known_at (book_of refs) run.address ≡ Some (ExtentOf run.address run.bytes)

-- the table of an image that is just made counts what its layout owes; its other trees may have any nodes
abbrev pub FreshCounts : Type 0
FreshCounts = (sizes : Sizes) (root : ℕ) (others : List Node) → IsTable (fresh_table sizes.nodesize root)
    → CountsLayout (layout_of (fresh_state sizes others root)) (fresh_table sizes.nodesize root)

-- the records of the extent tree that the last commit of a state holds are those of a table
pub record IsRecorded (state : State) (held : List (ℕ × Kept)) : Type 0 where
  pub kept : IsTable held
  pub same : (one : Record) → is_of_extents one ≡ true
      → is_among (held_records state.held) one ≡ is_among (records_in held) one

-- so it is where the items of the last commit say of the extent tree what the table's do
abbrev pub SaidIsRecorded : Type 0
SaidIsRecorded = (state : State) (held : List (ℕ × Kept)) → IsTable held
    → filter_map extent_part (flat_map own_items state.held.others) ≡ parts_of_book held → IsRecorded state held

-- ---- what all take

-- what the root and quota trees name in the last commit, or would name if one came now
abbrev pub other_records : State → List Record
other_records state =
    filter (λ one. not (is_of_extents one)) (held_records state.held)
    ++ (root_records state ++ quota_records state.quota)

-- both books take no less than the one that is kept now
abbrev pub TakesNoLess : Type 0
TakesNoLess = (held refs : List (ℕ × Kept)) → records_bytes (records_in refs) ≤ weight_of held refs

-- What a state's layout has to be recorded takes what the book takes; the state's weight is what both books and the
-- items of the root and quota trees take
pub record IsWeight (state : State) (held refs : List (ℕ × Kept)) : Type 0 where
  pub records : records_bytes (extent_records (layout_of state)) ≡ records_bytes (records_in refs)
  pub whole : weight state ≡ weight_of held refs + records_bytes (other_records state)

-- so it is where the one book counts what the layout owes, and the other is what the last commit recorded
abbrev pub Weighs : Type 0
Weighs = (state : State) (held refs : List (ℕ × Kept)) → CountsLayout (layout_of state) refs → IsRecorded state held
    → IsWeight state held refs
