-- What is settled outlasts what a tree does to fresh nodes in place (this project's own): what the law of a book asks.
use Rattle.std.proofs.Common.{◌≡◌, ℕ, ◌<◌, true, false, List, Option, Some, None, refl, sym, ap, subst, ◌∙◌, inl, inr}
use Rattle.std.specs.Prelude.{◌⊎◌, IsSome, IsTrue, Contains, is_some, nat_lt}
use Rattle.std.proofs.lemmas.Bool.{true≢false}
use Rattle.qg_device.specs.History.{History}
use Rattle.qg_node.specs.declared.node.Node.{Node}
use Rattle.qg_node.specs.Nodes.{header_of}
use Rattle.qg_super.specs.declared.sizes.Sizes.{Sizes}
use Rattle.qg_super.specs.Places.{is_slot}
use Rattle.qg_node_alloc.specs.NodesFound.{fresh_at, told, told_or}
use Rattle.qg_space.specs.Holding.{Holding, has_slot}
use Rattle.qg_node_alloc.specs.declared.ground.Ground.{Ground}
use Rattle.qg_node_alloc.specs.Tellings.{KeepsLevels}
use Rattle.qg_refs.specs.Book.{what_in}
use Rattle.qg_weighed.specs.Table.{book_of}
use Rattle.qg_tree_backrefs.specs.declared.tree_refs.TreeRefs.{TreeRefs}
use Rattle.qg_tree_backrefs.specs.Following.{references_to}
use Rattle.qg_tree_backrefs.specs.Settled.{IsSettled, what_of}

-- where a node was fresh one is fresh
none_before : (old new : Option Node) → new ≡ None → (IsSome old → IsSome new) → old ≡ None
none_before None new none stays = refl
none_before (Some node) new none stays =
    absurd (true≢false (sym (stays refl) ∙ ap (λ (o : Option Node). is_some o) none))

-- where none is, the disk's node is told
disk_told : (old new : Ground) (history : History) (at : ℕ)
    → new.blocks.draft.sizes ≡ old.blocks.draft.sizes → fresh_at old.blocks.draft at ≡ None
    → fresh_at new.blocks.draft at ≡ None → told new.blocks.draft history at ≡ told old.blocks.draft history at
unfolding told
disk_told old new history at sizes was none =
    ap (λ (o : Option Node). told_or o new.blocks.draft.sizes history at) none
    ∙ ap (λ (s : Sizes). told_or None s history at) sizes
    ∙ sym (ap (λ (o : Option Node). told_or o old.blocks.draft.sizes history at) was)

module _ (book : TreeRefs) (old new : Ground) (history : History) (space : new.space ≡ old.space)
    (levels : KeepsLevels old new) (settled : IsSettled book old history) where
  slots_still : (at : ℕ) → IsTrue (is_slot new.space.sizes at)
      → has_slot new.space at ≡ nat_lt 0 (references_to (book_of book.refs) at)
  slots_still at =
      subst (λ (h : Holding). IsTrue (is_slot h.sizes at)
      → has_slot h at ≡ nat_lt 0 (references_to (book_of book.refs) at)) (sym space) (settled.slots at)

  written_still : (at : ℕ) → IsTrue (has_slot new.space at)
      → IsSome (fresh_at new.blocks.draft at) ⊎ Contains new.space.held_slots at
  written_still at =
      subst (λ (h : Holding). IsTrue (has_slot h at) → IsSome (fresh_at new.blocks.draft at) ⊎ Contains h.held_slots at)
      (sym space) (λ has. elim (settled.written at has) [
        | inl fresh ↦ inl (levels.stays at fresh)
        | inr held ↦ inr held
      ])

  fresh_still : (at : ℕ) (node : Node) → fresh_at new.blocks.draft at ≡ Some node
      → what_in (book_of book.refs at) ≡ Some (what_of book.nodesize book.next node)
  fresh_still at node there =
      let was = levels.each at node there in
      settled.fresh at was.0 was.1
      ∙ ap (λ (n : ℕ). Some (record { bytes = book.nodesize; level = Some n; generation = book.next })) was.2

  clean_still : (at : ℕ) (node : Node) → fresh_at new.blocks.draft at ≡ None
      → told new.blocks.draft history at ≡ Some node → 0 < references_to (book_of book.refs) at
      → what_in (book_of book.refs at) ≡ Some (what_of book.nodesize (header_of node).generation node)
  clean_still at node none there some =
      let was = none_before (fresh_at old.blocks.draft at) (fresh_at new.blocks.draft at) none (levels.stays at) in
      settled.clean at node was (sym (disk_told old new history at levels.sizes was none) ∙ there) some

  pub settled_still : IsSettled book new history
  settled_still = record {
    slots = slots_still;
    written = written_still;
    fresh = fresh_still;
    newer = λ at level known. levels.stays at (settled.newer at level known);
    clean = clean_still;
  }
