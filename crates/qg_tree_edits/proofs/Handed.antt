-- What is told of a disk before a call holds behind it, where its history is the same.
use Rattle.std.proofs.Common.{◌≡◌, ℕ, List, sym, subst, ◌∙◌, Option, None}
use Rattle.std.specs.Prelude.{Result}
use Rattle.qg_device.specs.History.{Event, History, Recorded}
use Rattle.qg_num.specs.declared.key.Key.{Key}
use Rattle.qg_num.specs.declared.fault.BlockFault.{BlockFault}
use Rattle.qg_node.specs.declared.item.Item.{Item}
use Rattle.qg_node.specs.declared.node.Node.{Node}
use Rattle.qg_image.specs.declared.tree.TreeKind.{TreeKind}
use Rattle.qg_blocks.specs.NodesFound.{BreaksNone, told}
use Rattle.qg_node_alloc.specs.declared.ground.Ground.{Ground}
use Rattle.qg_node_alloc.specs.Tellings.{Telling}
use Rattle.qg_edit.specs.declared.edit.Change.TheVariants.{Clear}
use Rattle.qg_edit.specs.declared.edit.Edit.{Edit}
use Rattle.qg_tree_edits.specs.declared.instead.Instead.{Instead}
use Rattle.qg_tree_read.specs.declared.way.Way.{Way}
use Rattle.qg_tree_read.specs.Tree.{Root}
use Rattle.qg_tree_edits.specs.Editing.{IsEmptyIfLeaf, IsPartEdited, IsPartFit, IsSettled, IsUnsettled, KeepsLeaves}
use Rattle.qg_tree_edits.specs.Counting.{IsPartTold, IsSettledTold}
use Rattle.qg_tree_edits.specs.First.{least, leaves, leaves_behind}

pub child-edited : (tree : TreeKind) (root : Root) (mid low : Ground) (level : ℕ) (below : Way) (edit : Edit)
    (mine : List Item) (history later : History) → later ≡ history → (child : Instead)
    → IsPartFit tree root mid history level below.expected below.address edit mine
    → ((items : List Item) → IsPartFit tree root mid later level below.expected below.address edit items
    → IsPartEdited tree root mid low later level below.address edit items child)
    → IsPartEdited tree root mid low history level below.address edit mine child
child-edited tree root mid low level below edit mine history later same child fit edited =
    subst (λ (h : History). IsPartEdited tree root mid low h level below.address edit mine child) same
    (edited mine (subst (λ (h : History). IsPartFit tree root mid h level below.expected below.address edit
    mine) (sym same) fit))

pub child-told : (tree : TreeKind) (root : Root) (mid low : Ground) (level : ℕ) (below : Way) (edit : Edit)
    (mine : List Item) (history later : History) → later ≡ history → (child : Instead)
    (Follows : List Telling → Type 0) → IsPartFit tree root mid history level below.expected below.address edit mine
    → ((items : List Item) → IsPartFit tree root mid later level below.expected below.address edit items
    → (tellings : List Telling) × Follows tellings × IsPartTold mid low later level below.address child tellings)
    → (tellings : List Telling) × Follows tellings × IsPartTold mid low history level below.address child tellings
child-told tree root mid low level below edit mine history later same child Follows fit told =
    subst (λ (h : History). (tellings : List Telling) × Follows tellings
    × IsPartTold mid low h level below.address child tellings) same
    (told mine (subst (λ (h : History). IsPartFit tree root mid h level below.expected below.address edit
    mine) (sym same) fit))

module _ (tree : TreeKind) (root : Root) (low : Ground) where
  pub settle-sound : (level now : ℕ) (to : Option Key) (place : ℕ) (child : Instead)
      (history later : History) → later ≡ history
      → (result : Result (Option Node) BlockFault) (events : List Event)
      → history ≡ Recorded events
      → ((events : List Event) → later ≡ Recorded events → (items : List Item)
      → IsUnsettled tree root low later level now to place child items → BreaksNone result)
      → (items : List Item) → IsUnsettled tree root low history level now to place child items → BreaksNone result
  settle-sound level now to place child history later same result events told sound items un =
      sound events (same ∙ told) items
      (subst (λ (h : History). IsUnsettled tree root low h level now to place child items)
      (sym same) un)

  pub settle-settled : (set : Ground) (level now : ℕ) (to : Option Key) (place : ℕ) (child : Instead)
      (history later : History) → later ≡ history → (rest : Option Node)
      → ((items : List Item) (un : IsUnsettled tree root low later level now to place child items)
      → IsSettled tree root low set later level now place child un.pointers un.header items rest)
      → (items : List Item) (un : IsUnsettled tree root low history level now to place child items)
      → IsSettled tree root low set history level now place child un.pointers un.header items rest
  settle-settled set level now to place child history later same rest settled =
      subst (λ (h : History). (items : List Item)
      (un : IsUnsettled tree root low h level now to place child items)
      → IsSettled tree root low set h level now place child un.pointers un.header items rest) same settled

  pub settle-told : (set : Ground) (level now : ℕ) (to : Option Key) (place : ℕ) (child : Instead)
      (history later : History) → later ≡ history → (rest : Option Node)
      (Follows : List Telling → Type 0)
      → ((items : List Item) (un : IsUnsettled tree root low later level now to place child items)
      → (tellings : List Telling) × Follows tellings
      × IsSettledTold tree root low set later level now place child un.pointers un.header items rest tellings)
      → (items : List Item) (un : IsUnsettled tree root low history level now to place child items)
      → (tellings : List Telling) × Follows tellings
      × IsSettledTold tree root low set history level now place child un.pointers un.header items rest tellings
  settle-told set level now to place child history later same rest Follows told =
      subst (λ (h : History). (items : List Item)
      (un : IsUnsettled tree root low h level now to place child items)
      → (tellings : List Telling) × Follows tellings
      × IsSettledTold tree root low set h level now place child un.pointers un.header items rest tellings) same
      told

-- ---- the same of leaves

pub child-leaves : (tree : TreeKind) (root : Root) (mid low : Ground) (level : ℕ) (below : Way) (edit : Edit)
    (mine : List Item) (history later : History) → later ≡ history → (child : Instead)
    → IsPartFit tree root mid history level below.expected below.address edit mine
    → ((items : List Item) → IsPartFit tree root mid later level below.expected below.address edit items
    → edit.key ≡ least → edit.change ≡ Clear
    → leaves (told low.blocks.draft later) level child.now ≡ leaves_behind
    (leaves (told mid.blocks.draft later) level below.address))
    → edit.key ≡ least → edit.change ≡ Clear → leaves (told low.blocks.draft history) level child.now ≡ leaves_behind
    (leaves (told mid.blocks.draft history) level below.address)
child-leaves tree root mid low level below edit mine history later same child fit cleared first clear =
    subst (λ (h : History). leaves (told low.blocks.draft h) level child.now ≡ leaves_behind
    (leaves (told mid.blocks.draft h) level below.address)) same
    (cleared mine (subst (λ (h : History). IsPartFit tree root mid h level below.expected below.address edit
    mine) (sym same) fit) first clear)

-- and of those of a node whose first child was edited, where no other stands beside the child
pub settle-leaves : (tree : TreeKind) (root : Root) (low set : Ground) (level now : ℕ) (to : Option Key) (place : ℕ)
    (child : Instead) (history later : History) → later ≡ history
    → ((items : List Item) (un : IsUnsettled tree root low later level now to place child items) → place ≡ 0
    → child.more ≡ None → IsEmptyIfLeaf low later level child.now
    → KeepsLeaves low set later level now child.now un.pointers)
    → (items : List Item) (un : IsUnsettled tree root low history level now to place child items) → place ≡ 0
    → child.more ≡ None → IsEmptyIfLeaf low history level child.now
    → KeepsLeaves low set history level now child.now un.pointers
settle-leaves tree root low set level now to place child history later same kept =
    subst (λ (h : History). (items : List Item)
    (un : IsUnsettled tree root low h level now to place child items) → place ≡ 0 → child.more ≡ None
    → IsEmptyIfLeaf low h level child.now → KeepsLeaves low set h level now child.now un.pointers) same kept
