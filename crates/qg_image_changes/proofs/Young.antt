-- Where no node was fresh, a structural command leaves no fresh node that the trees before reach.
use Rattle.std.proofs.Common.{◌≡◌, ℕ, ◌<◌, ◌≤◌, true, List, Option, Some, None, arith, sym, ap, subst, ◌∙◌, inl, inr}
use Rattle.std.specs.Prelude.{◌⊎◌, IsSome}
use Rattle.std.proofs.lemmas.Bool.{ltb-true, true≢false}
use Rattle.std.proofs.lemmas.Option.{same_Some}
use Rattle.qg_device.specs.History.{History}
use Rattle.qg_node.specs.declared.node.Node.{Node}
use Rattle.qg_node.specs.Nodes.{header_of}
use Rattle.qg_super.specs.declared.sizes.Sizes.{Sizes}
use Rattle.qg_image.specs.Table.{value_at}
use Rattle.qg_image.specs.State.{Placed, State}
use Rattle.qg_blocks.specs.NodesInMemory.{Draft, nothing_fresh}
use Rattle.qg_blocks.specs.NodesFound.{fresh_at, told, told_or}
use Rattle.qg_space.specs.Holding.{has_slot}
use Rattle.qg_node_alloc.specs.declared.ground.Ground.{Ground}
use Rattle.qg_node_alloc.specs.Land.{IsDrafted}
use Rattle.qg_refs.specs.declared.kept.What.{What}
use Rattle.qg_refs.specs.Book.{what_in}
use Rattle.qg_extents.specs.Table.{book_of}
use Rattle.qg_open_image.specs.Types.{TreeRefs}
use Rattle.qg_open_image.specs.Following.{references_to}
use Rattle.qg_open_image.specs.Settled.{what_of}
use Rattle.qg_open_image.specs.ForestStanding.{HoldsState}
use Rattle.qg_subvolumes.specs.Beginning.{BookGoesOn}
use Rattle.qg_open_image.specs.declared.open_image.OpenImage.{OpenImage}

-- ---- where no node is fresh

-- none is at any address
none-fresh : (draft : Draft) (sizes : Sizes) → draft ≡ nothing_fresh sizes → (at : ℕ) → fresh_at draft at ≡ None
none-fresh draft sizes none at = ap (λ (d : Draft). fresh_at d at) none

-- a fresh node is told
pub fresh-told : (draft : Draft) (history : History) (at : ℕ) (node : Node) → fresh_at draft at ≡ Some node
    → told draft history at ≡ Some node
unfolding told
fresh-told draft history at node fresh = ap (λ (o : Option Node). told_or o draft.sizes history at) fresh

module _ (land : Ground) (history : History) (book : TreeRefs) (state : State)
    (held : HoldsState land history book state) (none : land.blocks.draft ≡ nothing_fresh land.blocks.draft.sizes)
    (slots : (at : ℕ) (placed : Placed) → value_at at state.layout ≡ Some placed → has_slot land.space at ≡ true) where
  -- references lead to each node of the layout
  referred : (at : ℕ) (placed : Placed) → value_at at state.layout ≡ Some placed
      → 0 < references_to (book_of book.refs) at
  referred at placed there =
      ltb-true 0 (references_to (book_of book.refs) at)
      (sym (held.settled.slots at (held.nodes at placed there).slot) ∙ slots at placed there)

  -- none is of the generation to come
  pub node-earlier : (at : ℕ) (placed : Placed) → value_at at state.layout ≡ Some placed
      → (header_of placed.node).generation ≡ book.next → ⊥
  node-earlier at placed there same =
      let bare = none-fresh land.blocks.draft land.blocks.draft.sizes none at in
      let known : what_in (book_of book.refs at)
      ≡ Some (what_of book.nodesize (header_of placed.node).generation placed.node) =
      held.settled.clean at placed.node bare (held.nodes at placed there).told (referred at placed there) in
      let newer = held.settled.newer at (header_of placed.node).level
      (known ∙ ap (λ (n : ℕ). Some (what_of book.nodesize n placed.node)) same) in
      none_some (fresh_at land.blocks.draft at) bare newer
    where
      none_some : (o : Option Node) → o ≡ None → IsSome o → ⊥
      none_some None is some = true≢false (sym some)
      none_some (Some node) is some = absurd cc

  -- so a node that another land tells there as it was isn't fresh there
  pub old-not-fresh : (new : Ground) (after : History) (next : ℕ) → IsDrafted new next → next ≡ book.next
      → (at : ℕ) (placed : Placed) → value_at at state.layout ≡ Some placed
      → told new.blocks.draft after at ≡ Some placed.node → (node : Node)
      → fresh_at new.blocks.draft at ≡ Some node → ⊥
  old-not-fresh new after next drafted come at placed there is node fresh =
      let same = same_Some node placed.node (sym (fresh-told new.blocks.draft after at node fresh) ∙ is) in
      let dated = (drafted.each at node fresh).dated in
      node-earlier at placed there (ap (λ (n : Node). (header_of n).generation) (sym same) ∙ dated ∙ come)

-- ---- what is known

-- nothing that is known is of a later generation, where what was known was of none, and what came is of this one
pub dated-still : (old new : TreeRefs) (next : ℕ)
    → ((at : ℕ) (what : What) → what_in (book_of old.refs at) ≡ Some what → what.generation ≤ next)
    → ((at : ℕ) (what : What) → what_in (book_of new.refs at) ≡ Some what
    → (what_in (book_of old.refs at) ≡ Some what) ⊎ (what.generation ≡ next))
    → (at : ℕ) (what : What) → what_in (book_of new.refs at) ≡ Some what → what.generation ≤ next
dated-still old new next before known at what is = elim (known at what is) [
  | inl had ↦ before at what had
  | inr come ↦ omega (arith, come)
]

-- a book that goes on knows so, which stood for another subvolume before
pub known-now : (kept : OpenImage) (number : ℕ) (old new : TreeRefs) → old ≡ record kept.fs.refs { tree = number }
    → kept.fs.refs.next ≡ kept.fs.tree.next → BookGoesOn old new → (at : ℕ) (what : What)
    → what_in (book_of new.refs at) ≡ Some what
    → (what_in (book_of kept.fs.refs.refs at) ≡ Some what) ⊎ (what.generation ≡ kept.fs.tree.next)
known-now kept number old new is next goes at what there = elim (goes.known at what there) [
  | inl had ↦ inl (subst (λ (r : TreeRefs). what_in (book_of r.refs at) ≡ Some what) is had)
  | inr come ↦ inr (come ∙ ap (λ (r : TreeRefs). r.next) is ∙ next)
]
