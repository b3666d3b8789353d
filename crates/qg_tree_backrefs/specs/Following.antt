-- What a subvolume's book makes of what its tree tells (this project's own). Addresses are in bytes.
use Rattle.std.specs.Prelude.{◌≡◌, ⊤, ℕ, ◌-◌, Bool, false, ◌&&◌, not, List, [], ◌∷◌, length, Option, Some, None, ◌==◌}
use Rattle.std.specs.Prelude.{nat_lt, if◌then◌else◌, unwrap_or}
use Rattle.qg_node.specs.declared.node.Node.{Node}
use Rattle.qg_node.specs.Nodes.{header_of}
use Rattle.qg_image.specs.State.{Placed}
use Rattle.qg_cow_refs.specs.declared.cases.Edits.{Edits}
use Rattle.qg_cow_refs.specs.declared.cases.Edits.TheVariants.{ShareOld, AddKeyed, TurnKeyed, TakeOver}
use Rattle.qg_cow_refs.specs.declared.cases.Leaving.{Leaving}
use Rattle.qg_cow_refs.specs.declared.cases.Leaving.TheVariants.{Goes, TurnsFull, Stays}
use Rattle.qg_cow_refs.specs.Children.{way_to}
use Rattle.qg_cow_refs.specs.Copying.{case_of, children_gain, copy_losses}
use Rattle.qg_cow_refs.specs.Left.{leaving_gains, leaving_losses}
use Rattle.qg_cow_refs.specs.Left.{case_of as leaving_case}
use Rattle.std.specs.Option.{option_map, option_or}
use Rattle.qg_node_alloc.specs.Tellings.{Telling}
use Rattle.qg_node_alloc.specs.Tellings.Telling.{Copied, Made, Left}
use Rattle.qg_refs.specs.declared.kept.What.{What}
use Rattle.qg_refs.specs.Book.{Book, full_in, references_at, what_in}
use Rattle.qg_weighed.specs.Table.{book_of}
use Rattle.qg_tree_backrefs.specs.declared.coming.Coming.{Coming}
use Rattle.qg_tree_backrefs.specs.declared.tree_refs.TreeRefs.{TreeRefs}
use Rattle.qg_tree_backrefs.specs.Exchange.{Exchange, CanExchange, Exchanges}

-- ---- one node

-- how many references there are to an address
abbrev pub references_to : Book → ℕ → ℕ
references_to book at = length (references_at book at)

-- a node with the mark that a book has of it
abbrev pub placed_by : Book → Node → Placed
placed_by book node = record { node = node; full = full_in (book (header_of node).address) }

-- the case of a copy by a subvolume
abbrev pub copying_in : Book → ℕ → Node → Edits
copying_in book tree node = case_of (references_to book (header_of node).address) (placed_by book node) tree

-- the case of a node that a subvolume leaves
abbrev pub leaving_in : Book → ℕ → Node → Leaving
leaving_in book tree node = leaving_case (references_to book (header_of node).address - 1) (placed_by book node) tree

-- the node that becomes full by a copy
abbrev pub full_by_copy : Edits → ℕ → Option ℕ
full_by_copy ShareOld at = Some at
full_by_copy AddKeyed at = None
full_by_copy TurnKeyed at = None
full_by_copy TakeOver at = None

-- the node that becomes full as one leaves it
abbrev pub full_by_leaving : Leaving → ℕ → Option ℕ
full_by_leaving Goes at = None
full_by_leaving TurnsFull at = Some at
full_by_leaving Stays at = None

-- what a subvolume's copy of a node does to references, beside that to the copy
abbrev pub exchange_by_copy : Book → ℕ → Node → Exchange
exchange_by_copy book tree node = record {
  full = full_by_copy (copying_in book tree node) (header_of node).address;
  gains = children_gain (copying_in book tree node) (placed_by book node) tree;
  losses = copy_losses (copying_in book tree node) (placed_by book node) tree;
}

-- and that it leaves one
abbrev pub exchange_by_leaving : Book → ℕ → Node → Exchange
exchange_by_leaving book tree node = record {
  full = full_by_leaving (leaving_in book tree node) (header_of node).address;
  gains = leaving_gains (leaving_in book tree node) (placed_by book node);
  losses = way_to (header_of node).address tree ∷ leaving_losses (leaving_in book tree node) (placed_by book node);
}

-- ---- one telling

-- a node of a level comes to an address
abbrev pub comes : TreeRefs → ℕ → ℕ → Coming
comes book address level = record {
  address = address;
  what = record { bytes = book.nodesize; level = Some level; generation = book.next };
  tree = book.tree;
}

-- what one telling does to references
abbrev pub exchange_of : TreeRefs → Telling → Exchange
exchange_of book (Copied node copy) = exchange_by_copy (book_of book.refs) book.tree node
exchange_of book (Made address) = record { full = None; gains = []; losses = [] }
exchange_of book (Left node) = exchange_by_leaving (book_of book.refs) book.tree node

-- the node that comes: a copy has the level of the node, and a node that was made has some level
abbrev pub coming_of : TreeRefs → ℕ → Telling → Option Coming
coming_of book level (Copied node copy) = Some (comes book copy (header_of node).level)
coming_of book level (Made address) = Some (comes book address level)
coming_of book level (Left node) = None

-- this level is known
abbrev pub is_of_level : Option What → ℕ → Bool
is_of_level None level = false
is_of_level (Some what) level = unwrap_or (option_map (λ known. known == level) what.level) false

-- a node's address where it has references besides one, so that it stays where it is left, and its level is not known
abbrev pub other_level : Book → Node → Option ℕ
other_level book node =
    if nat_lt 1 (references_to book (header_of node).address)
    && not (is_of_level (what_in (book (header_of node).address)) (header_of node).level)
    then Some (header_of node).address else None

-- a node that is left and stays is of the level that is known of it
abbrev pub KeepsLevel : Book → Telling → Type 0
KeepsLevel book (Copied node copy) = ⊤
KeepsLevel book (Made address) = ⊤
KeepsLevel book (Left node) = other_level book node ≡ None

-- a book can do what it is told: the references that go are there, those that come may be there besides, to a copy or a
-- node that was made there is none yet, and what stays is of the level that is known
pub record IsProper (telling : Telling) (book : TreeRefs) : Type 0 where
  pub can : CanExchange (book_of book.refs) (exchange_of book telling) (coming_of book 0 telling)
  pub level : KeepsLevel (book_of book.refs) telling

-- ---- a node that is reached no more, and what is above it

-- The case of a node that a subvolume reaches no more, by the references that are left: its own, if it had one, is gone
-- before, or the reference is that of a node above which stays
abbrev pub parting_in : Book → ℕ → Placed → Leaving
parting_in book tree placed = leaving_case (references_to book (header_of placed.node).address) placed tree

-- what becomes of references then
abbrev pub exchange_by_parting : Book → ℕ → Placed → Exchange
exchange_by_parting book tree placed = record {
  full = full_by_leaving (parting_in book tree placed) (header_of placed.node).address;
  gains = leaving_gains (parting_in book tree placed) placed;
  losses = leaving_losses (parting_in book tree placed) placed;
}

-- an exchange with which no node comes is done where no misfit is met, and none is met where it can be done. The first
-- misfit ever met is noted
pub record IsExchanged (before : TreeRefs) (exchange : Exchange) (after : TreeRefs) : Type 0 where
  pub misfit : Option ℕ
  pub done : misfit ≡ None → Exchanges (book_of before.refs) (book_of after.refs) exchange None
  pub proper : CanExchange (book_of before.refs) exchange None → misfit ≡ None
  pub noted : after ≡ record before { refs = after.refs; misfit = option_or before.misfit misfit }

-- what a telling makes of a book: where no misfit is met it is done, and where it is proper none is met. The first
-- misfit ever met is noted
pub record Step (before : TreeRefs) (telling : Telling) (after : TreeRefs) : Type 0 where
  pub level : ℕ
  pub misfit : Option ℕ
  pub done : misfit ≡ None
      → Exchanges (book_of before.refs) (book_of after.refs) (exchange_of before telling)
      (coming_of before level telling)
  pub proper : IsProper telling before → misfit ≡ None
  pub noted : after ≡ record before { refs = after.refs; misfit = option_or before.misfit misfit }

-- and what a list of them makes of it, in this order
unfoldable pub Follows : TreeRefs → List Telling → TreeRefs → Type 0
Follows before [] after = after ≡ before
Follows before (telling ∷ tellings) after = (mid : TreeRefs) × Step before telling mid × Follows mid tellings after
