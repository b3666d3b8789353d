-- What state the trees of a commit tell, and what an image stands for that holds them (this project's own).
use Rattle.std.specs.Prelude.{◌≡◌, ℕ, ◌<◌, ◌≤◌, false, List, [], ◌==◌, map, Option, None, IsTrue}
use Rattle.std.specs.List.{AllByRecursion, IsDistinct}
use Rattle.qg_node.specs.declared.node.Node.{Node}
use Rattle.qg_node.specs.Nodes.{items_bytes}
use Rattle.qg_items.specs.declared.extent.Reference.{Reference}
use Rattle.qg_items.specs.declared.root.RootItem.{RootItem}
use Rattle.qg_super.specs.declared.sizes.Sizes.{Sizes}
use Rattle.qg_super.specs.declared.superblock.Super.{Super}
use Rattle.qg_super.specs.Places.{is_served, is_slot}
use Rattle.qg_image.specs.declared.quota.Quota.{Quota}
use Rattle.qg_image.specs.Need.{extent_records}
use Rattle.qg_image.specs.Owed.{homeless, is_nothing, owed_count, what_at}
use Rattle.qg_image.specs.Record.{extent_record, records_bytes}
use Rattle.qg_image.specs.Space.{present_extents}
use Rattle.qg_image.specs.State.{Layout, State, layout_of, next_generation}
use Rattle.qg_image.specs.OtherTrees.{subvolume_items}
use Rattle.qg_image.specs.Verdict.{counts_failure, extent_set, space_failure}
use Rattle.qg_machine.specs.Layout.{IsWhole}
use Rattle.qg_refs.specs.declared.kept.Kept.{Kept}
use Rattle.qg_extents.specs.Table.{IsTable, book_of}
use Rattle.qg_extents.specs.Written.{items_of_book, parts_of_book}
use Rattle.qg_other_trees.specs.declared.laying.OtherTrees.{OtherTrees}
use Rattle.qg_other_trees.specs.Holds.{AreRuns, AreThoseOf, HasCommit, HoldsLayout, IsToCome, IsWalkedIn}
use Rattle.qg_other_trees.specs.Holds.{nodes_of_roots}
use Rattle.qg_other_trees.specs.Sound.{IsCommitted, committed}
use Rattle.qg_other_trees.specs.Telling.{AreToldBy, IsStateOf, Knows}
use Rattle.qg_other_trees.specs.Trees.{AreTrees, nodes_laid}

-- the items of a book weigh what their records do, each once
abbrev pub ItemsWeigh : Type 0
ItemsWeigh = (book : List (ℕ × Kept)) → IsTable book
    → items_bytes (items_of_book book) ≡ records_bytes (map extent_record (parts_of_book book))

-- and no more than the records of a layout that the book knows
abbrev pub ItemsWeighWithin : Type 0
ItemsWeighWithin = (layout : Layout) (book : List (ℕ × Kept)) → IsTable book → Knows layout (book_of book)
    → items_bytes (items_of_book book) ≤ records_bytes (extent_records layout)

-- trees that were laid out in slots that differ tell the state that they were laid out for
abbrev pub OtherTreesTell : Type 0
OtherTreesTell = (sizes : Sizes) (generation : ℕ) (roots : List (ℕ × RootItem)) (book : List (ℕ × Kept))
    (quota : Option Quota) (slots : List ℕ) (trees : OtherTrees) (state : State)
    → IsDistinct (λ a b. a == b) slots → AreTrees sizes generation roots book quota slots trees
    → IsStateOf sizes generation roots book quota state → (others : List Node) × AreToldBy state slots trees others

-- what the layout of a whole state owes is owed to what begins in it, where its subvolumes' extents lie in the data
-- area, and nodes lie in slots
abbrev pub OwesWhatBegins : Type 0
OwesWhatBegins = (state : State) → IsWhole state → IsTrue (is_served state.sizes) → AreRuns state
    → AllByRecursion (λ entry. IsTrue (is_slot state.sizes entry.0)) state.layout
    → (at : ℕ) (reference : Reference) → 0 < owed_count (layout_of state) at reference
    → is_nothing (what_at (layout_of state) at) ≡ false

-- where each node of a whole layout stands in an image, each subvolume's tree breaks no rule there
abbrev pub LayoutIsWalked : Type 0
LayoutIsWalked = (state : State) (super : Super) (image : List ℕ)
    → IsWhole state → IsToCome state super → HoldsLayout super image state.layout
    → AllByRecursion (λ entry. IsWalkedIn state entry.1 super image) state.subvolumes

-- and where the subvolumes' extents lie in the data area, the nodes found under their roots, all together, are those of
-- the layout
abbrev pub LayoutIsFound : Type 0
LayoutIsFound = (state : State) (super : Super) (image : List ℕ)
    → IsWhole state → IsToCome state super → HoldsLayout super image state.layout
    → IsTrue (is_served state.sizes) → AreRuns state
    → AllByRecursion (λ entry. IsWalkedIn state entry.1 super image) state.subvolumes
    → AreThoseOf state.layout (nodes_of_roots super image (subvolume_items state))

-- An image that holds the trees and the nodes of the layout, and nothing else that counts, breaks no rule, where the
-- state's extents keep the rule `space`, the counters told are those of its layout, and its nodes are at home. It
-- stands for the state that a commit leaves
abbrev pub CommitIsSound : Type 0
CommitIsSound = (sizes : Sizes) (roots : List (ℕ × RootItem)) (book : List (ℕ × Kept)) (quota : Option Quota)
    (slots : List ℕ) (trees : OtherTrees) (old : State) (image : List ℕ)
    → IsWhole old → IsDistinct (λ a b. a == b) slots
    → AreTrees sizes (next_generation old) roots book quota slots trees
    → IsStateOf sizes (next_generation old) roots book quota (committed [] old quota)
    → HasCommit trees.superblock (nodes_laid trees) image → HoldsLayout trees.superblock image old.layout
    → AreRuns old → space_failure old.sizes (extent_set (present_extents old)) ≡ None
    → counts_failure (layout_of old) quota ≡ None → homeless (layout_of old) ≡ None
    → IsCommitted trees old quota slots image
