-- What an edit of a tree tells the book of references, by how many ways lead to each address (this project's own).
-- Addresses are in bytes.
use Rattle.std.specs.Prelude.{◌≡◌, ⊤, ◌⊎◌, ◌==◌, if◌then◌else◌, ℕ, zero, suc, ◌+◌, ◌-◌, ◌*◌, ◌<◌, ◌≤◌, List, [], ◌∷◌}
use Rattle.std.specs.Prelude.{map, take, drop, Option, Some, None, IsTrue, Contains, is_some}
use Rattle.std.specs.List.{All, list_any, sum_by}
use Rattle.qg_device.specs.History.{History}
use Rattle.qg_node.specs.declared.item.Item.{Item}
use Rattle.qg_node.specs.declared.pointer.Pointer.{Pointer}
use Rattle.qg_node.specs.declared.node.Header.{Header}
use Rattle.qg_node.specs.declared.node.Node.{Node}
use Rattle.qg_node.specs.Nodes.{header_of, own_items, own_pointers}
use Rattle.qg_image.specs.declared.tree.TreeKind.{TreeKind}
use Rattle.qg_blocks.specs.NodesFound.{fresh_at, told}
use Rattle.qg_space.specs.Holding.{is_free_slot}
use Rattle.qg_node_alloc.specs.declared.ground.Ground.{Ground}
use Rattle.qg_node_alloc.specs.Tellings.{Telling}
use Rattle.qg_node_alloc.specs.Tellings.Telling.{Copied, Made, Left}
use Rattle.qg_tree_edits.specs.declared.instead.Instead.{Instead}
use Rattle.qg_tree_read.specs.Tree.{Reaches, Root}
use Rattle.qg_tree_edits.specs.Editing.{IsSettled, ReachesBeside, ReachesInstead, ReachesParts, slots_for}

-- ---- ways

-- 1 at an address, and 0 at any other
abbrev pub one : ℕ → ℕ → ℕ
one at q = if q == at then 1 else 0

-- the pointers of what is told at an address
abbrev pub pointers_there : Option Node → List Pointer
pointers_there None = []
pointers_there (Some node) = own_pointers node

-- how many ways lead to an address from the node of a level at another
unfoldable pub ways : (ℕ → Option Node) → ℕ → ℕ → ℕ → ℕ
ways nodes zero from q = one from q
ways nodes (suc level) from q =
    one from q + sum_by (λ pointer. ways nodes level pointer.child q) (pointers_there (nodes from))

-- how many lead there from the nodes of a level that pointers lead to
abbrev pub ways_each : (ℕ → Option Node) → ℕ → List Pointer → ℕ → ℕ
ways_each nodes level pointers q = sum_by (λ pointer. ways nodes level pointer.child q) pointers

-- how many lead there from a node, if it is any
abbrev pub ways_more : (ℕ → Option Node) → ℕ → Option ℕ → ℕ → ℕ
ways_more nodes level None q = 0
ways_more nodes level (Some more) q = ways nodes level more q

-- how many lead there from what stands in the place of a node
abbrev pub ways_instead : (ℕ → Option Node) → ℕ → Instead → ℕ → ℕ
ways_instead nodes level instead q = ways nodes level instead.now q + ways_more nodes level instead.more q

-- how many lead there from what stands in the place of the child at an index, and from the other children
abbrev pub ways_parts : (ℕ → Option Node) → ℕ → List Pointer → ℕ → Instead → ℕ → ℕ
ways_parts nodes level pointers place child q =
    ways_instead nodes level child q
    + (ways_each nodes level (take place pointers) q + ways_each nodes level (drop (place + 1) pointers) q)

-- ---- what a book is told

-- how many ways more lead to an address after it was told something
abbrev pub gains : Telling → ℕ → ℕ
gains (Copied node copy) q = one copy q
gains (Made address) q = one address q
gains (Left node) q = 0

-- and how many fewer
abbrev pub losses : Telling → ℕ → ℕ
losses (Copied node copy) q = one (header_of node).address q
losses (Made address) q = 0
losses (Left node) q = one (header_of node).address q

-- it is told while so many ways lead to each address: what is copied or left is reached then, and a copy or what is
-- made is not reached before
abbrev pub IsTimely : Telling → (ℕ → ℕ) → Type 0
IsTimely (Copied node copy) count = (0 < count (header_of node).address) × (count copy ≡ 0)
IsTimely (Made address) count = count address ≡ 0
IsTimely (Left node) count = 0 < count (header_of node).address

-- tellings turn one count of ways into another, each in its time
abbrev pub Turns : (ℕ → ℕ) → List Telling → (ℕ → ℕ) → Type 0
Turns before [] after = (q : ℕ) → after q ≡ before q
Turns before (telling ∷ tellings) after =
    IsTimely telling before × Turns (λ q. (before q + gains telling q) - losses telling q) tellings after

-- no node of these, that ways lead to, has an address as a child
abbrev pub LeadsNone : (ℕ → Option Node) → (ℕ → ℕ) → ℕ → Type 0
LeadsNone clean count at = (q : ℕ) (parent : Node) → clean q ≡ Some parent → 0 < count q
    → Contains (map (λ pointer. pointer.child) (own_pointers parent)) at → ⊥

-- none of these leads to what is copied or left, while so many ways lead to each address
abbrev pub IsDownward : (ℕ → Option Node) → Telling → (ℕ → ℕ) → Type 0
IsDownward clean (Copied node copy) count = LeadsNone clean count (header_of node).address
IsDownward clean (Made address) count = ⊤
IsDownward clean (Left node) count = LeadsNone clean count (header_of node).address

-- tellings that turn a count of ways go down: by the time that a node is copied or left, whoever leads to it is none of
-- these
abbrev pub Downward : (ℕ → Option Node) → (ℕ → ℕ) → List Telling → Type 0
Downward clean before [] = ⊤
Downward clean before (telling ∷ tellings) =
    IsDownward clean telling before
    × Downward clean (λ q. (before q + gains telling q) - losses telling q) tellings

-- a node that is left has nothing under it
abbrev pub IsBare : Telling → Type 0
IsBare (Copied node copy) = ⊤
IsBare (Made address) = ⊤
IsBare (Left node) = (own_items node ≡ []) × (own_pointers node ≡ [])

-- what comes, or is left, lies in none of these slots
abbrev pub IsUnheld : List ℕ → Telling → Type 0
IsUnheld slots (Copied node copy) = Contains slots copy → ⊥
IsUnheld slots (Made address) = Contains slots address → ⊥
IsUnheld slots (Left node) = Contains slots (header_of node).address → ⊥

-- what is copied is what these nodes tell at its address
abbrev pub IsAsWas : (ℕ → Option Node) → Telling → Type 0
IsAsWas nodes (Copied node copy) = nodes (header_of node).address ≡ Some node
IsAsWas nodes (Made address) = ⊤
IsAsWas nodes (Left node) = ⊤

-- 1 where a node was copied
abbrev pub copied_in : Telling → ℕ
copied_in (Copied node copy) = 1
copied_in (Made address) = 0
copied_in (Left node) = 0

-- 1 where a node was left
abbrev pub left_in : Telling → ℕ
left_in (Copied node copy) = 0
left_in (Made address) = 0
left_in (Left node) = 1

-- 1 where a node was made
abbrev pub made_in : Telling → ℕ
made_in (Copied node copy) = 0
made_in (Made address) = 1
made_in (Left node) = 0

-- What a book was told in the course of a change: it turns the ways that led to each address before into those that
-- lead there then, and goes down from nodes that are copied to those below, by the time none of the clean ones that are
-- given leads to what is copied or left. A node came only into a slot that was free, or that was reached. What was
-- copied is what stood at its address before, among the nodes that are given. What was left has nothing under it. The
-- last commit holds no slot into which a node came, and none of a node that was left. At most so many nodes came, by a
-- copy or anew, so many were left, and so many made
pub record IsTold (old : Ground) (nodes clean : ℕ → Option Node) (Reached : ℕ → Type 0) (before after : ℕ → ℕ)
    (come left made : ℕ) (tellings : List Telling) : Type 0 where
  pub turns : Turns before tellings after
  pub down : Downward clean before tellings
  pub new : (q : ℕ) → 0 < sum_by (λ telling. gains telling q) tellings → IsTrue (is_free_slot old.space q) ⊎ Reached q
  pub as_was : All (IsAsWas nodes) tellings
  pub bare : All IsBare tellings
  pub unheld : All (IsUnheld old.space.held_slots) tellings
  pub few_come : sum_by copied_in tellings + sum_by made_in tellings ≤ come
  pub few_left : sum_by left_in tellings ≤ left
  pub few_made : sum_by made_in tellings ≤ made

-- ---- what a book is told of one node

-- a node is owned: nothing where it stays, else that it was copied
abbrev pub tellings_owned : Node → ℕ → ℕ → List Telling
tellings_owned node at now = if now == at then [] else Copied node now ∷ []

-- a node is made behind another, or none is
abbrev pub tellings_made : Option ℕ → List Telling
tellings_made None = []
tellings_made (Some more) = Made more ∷ []

-- the right one of two neighbours is left with nothing under it, where the left one has all
abbrev pub TellsUnited : ℕ → Instead → List Telling → Type 0
TellsUnited right instead tellings =
    ((instead.more ≡ Some right) × (tellings ≡ []))
    ⊎ ((instead.more ≡ None)
    × ((node : Node) × (tellings ≡ Left node ∷ []) × ((header_of node).address ≡ right) × IsBare (Left node)))

-- ---- what a book is told in the course of an edit

-- nodes tell the same as a land of some addresses, where no node is fresh
abbrev pub TellSame : (ℕ → Type 0) → (ℕ → Option Node) → Ground → History → Type 0
TellSame Among nodes land history =
    (q : ℕ) → Among q → fresh_at land.blocks.draft q ≡ None → nodes q ≡ told land.blocks.draft history q

-- what is told at an address where no node is fresh
abbrev pub clean_at : Ground → History → ℕ → Option Node
clean_at land history q =
    if is_some (fresh_at land.blocks.draft q) then None else told land.blocks.draft history q

-- what is told at an address that the last commit holds; no node is fresh there
abbrev pub committed_at : Ground → History → ℕ → Option Node
committed_at land history q =
    if list_any (λ slot. slot == q) land.space.held_slots then told land.blocks.draft history q else None

-- each of these nodes is told at an address that the last commit holds, and where no node is fresh
abbrev pub AreCommitted : Ground → History → (ℕ → Option Node) → Type 0
AreCommitted land history clean =
    (q : ℕ) (node : Node) → clean q ≡ Some node
    → Contains land.space.held_slots q × (fresh_at land.blocks.draft q ≡ None)
    × (told land.blocks.draft history q ≡ Some node)

-- the pointers of a node were set to what stands in the place of the child at an index, and this was told meanwhile:
-- a neighbour may have been copied, and left, where nothing was cut off the node. What was copied was not fresh and is
-- what stood there, and so it is for any nodes that tell the same of the other children where they are not fresh
pub record IsSettledTold (tree : TreeKind) (root : Root) (old new : Ground) (history : History)
    (level at place : ℕ) (child : Instead) (pointers : List Pointer) (header : Header) (items : List Item)
    (rest : Option Node) (tellings : List Telling) : Type 0 where
  pub settled : IsSettled tree root old new history level at place child pointers header items rest
  pub told : (nodes clean : ℕ → Option Node)
      → TellSame (ReachesBeside (told old.blocks.draft history) level pointers place) nodes old history
      → AreCommitted old history clean
      → IsTold old nodes clean (ReachesParts (told old.blocks.draft history) level pointers place child)
      (ways_parts (told old.blocks.draft history) level pointers place child)
      (ways_each (told new.blocks.draft history) level settled.pointers_new) (1 - slots_for rest) 1 0 tellings

-- the part of a tree that the node of a level at an address is the top of was edited, and this was told meanwhile.
-- What was copied was not fresh and is what stood there, and so it is for any nodes that tell the same of the part
-- where it is not fresh
abbrev pub IsPartTold : Ground → Ground → History → ℕ → ℕ → Instead → List Telling → Type 0
IsPartTold old new history level at instead tellings =
    (nodes clean : ℕ → Option Node)
    → TellSame (Reaches (told old.blocks.draft history) level at) nodes old history → AreCommitted old history clean
    → IsTold old nodes clean (Reaches (told old.blocks.draft history) level at)
    (ways (told old.blocks.draft history) level at) (ways_instead (told new.blocks.draft history) level instead)
    (2 * (level + 1)) (level + 1) (level + 1) tellings

-- what stands in the place of a tree's root became the tree, and this was told meanwhile: nothing was copied
abbrev pub IsRootTold : Root → Root → Ground → Ground → History → Instead → List Telling → Type 0
IsRootTold before after old new history instead tellings =
    (nodes clean : ℕ → Option Node) → AreCommitted old history clean
    → IsTold old nodes clean (ReachesInstead (told old.blocks.draft history) before.height instead)
    (ways_instead (told old.blocks.draft history) before.height instead)
    (ways (told new.blocks.draft history) after.height after.address) 1 1 1 tellings

-- A tree was edited, and this was told meanwhile: what was copied was not fresh before, and is what stood there. By the
-- time that a node was copied or left, no node that the last commit holds leads to it, as it stood before. At most
-- 2·height + 3 nodes came, of which height + 2 were made, and height + 2 were left
abbrev pub IsTreeTold : Root → Root → Ground → Ground → History → List Telling → Type 0
IsTreeTold before after old new history tellings =
    IsTold old (clean_at old history) (committed_at old history)
    (Reaches (told old.blocks.draft history) before.height before.address)
    (ways (told old.blocks.draft history) before.height before.address)
    (ways (told new.blocks.draft history) after.height after.address)
    (2 * before.height + 3) (before.height + 2) (before.height + 2) tellings
