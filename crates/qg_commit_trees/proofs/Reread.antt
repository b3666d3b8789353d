-- What is told once a commit has written the fresh nodes: what was told, where a node was fresh or the last commit held
-- it.
use Rattle.std.proofs.Common.{◌≡◌, ℕ, List, Option, Some, None, refl, sym, ap, ◌∙◌, inl, inr}
use Rattle.std.specs.Prelude.{◌⊎◌, IsSome}
use Rattle.std.specs.List.{Contains}
use Rattle.std.specs.Result.{result_ok}
use Rattle.qg_device.specs.History.{Event, Recorded, content}
use Rattle.qg_node.specs.declared.node.Node.{Node}
use Rattle.qg_blocks.specs.NodesInMemory.{Draft}
use Rattle.qg_blocks.specs.Standing.{standing}
use Rattle.qg_blocks.specs.NodesFound.{fresh_at, told, told_or}
use Rattle.qg_shared_trees.specs.Types.{FsTree}
use Rattle.qg_shared_trees.specs.Standing.{nodes_of}
use Rattle.qg_shared_trees.proofs.Moved.{fresh-told}
use Rattle.qg_commit_trees.specs.Committing.{IsCommitted, WritesTree}

pub no-fresh : (old new : FsTree) (besides : List ℕ) → IsCommitted old new besides → (q : ℕ)
    → fresh_at new.land.blocks.draft q ≡ None
no-fresh old new besides committed q = ap (λ (draft : Draft). fresh_at draft q) committed.draft

module _ (old new : FsTree) (besides : List ℕ) (events later : List Event) (committed : IsCommitted old new besides)
    (writes : WritesTree old (Recorded events) (Recorded later)) where
  -- all is read
  read_now : (q : ℕ) → nodes_of new (Recorded later) q
      ≡ result_ok (standing old.land.blocks.draft.sizes (content later) q)
  unfolding told
  read_now q =
      ap (λ (o : Option Node). told_or o new.land.blocks.draft.sizes (Recorded later) q)
      (no-fresh old new besides committed q)
      ∙ ap (λ (draft : Draft). result_ok (standing draft.sizes (content later) q)) committed.draft

  fresh_now : (q : ℕ) (node : Node) → fresh_at old.land.blocks.draft q ≡ Some node
      → nodes_of new (Recorded later) q ≡ Some node
  fresh_now q node there = read_now q ∙ ap result_ok (writes.fresh.stands q node there later refl)

  read_before : (q : ℕ) → fresh_at old.land.blocks.draft q ≡ None
      → nodes_of old (Recorded events) q ≡ result_ok (standing old.land.blocks.draft.sizes (content events) q)
  unfolding told
  read_before q none = ap (λ (o : Option Node). told_or o old.land.blocks.draft.sizes (Recorded events) q) none

  held_now : (q : ℕ) → fresh_at old.land.blocks.draft q ≡ None → Contains old.land.space.held_slots q
      → nodes_of new (Recorded later) q ≡ nodes_of old (Recorded events) q
  held_now q none has =
      let was = writes.held later refl in
      let same : was.0 ≡ events = let e = was.1 in cc in
      read_now q ∙ ap result_ok (was.2 q has)
      ∙ ap (λ (es : List Event). result_ok (standing old.land.blocks.draft.sizes (content es) q)) same
      ∙ sym (read_before q none)

  pub told-now : (q : ℕ) → IsSome (fresh_at old.land.blocks.draft q) ⊎ Contains old.land.space.held_slots q
      → nodes_of new (Recorded later) q ≡ nodes_of old (Recorded events) q
  told-now q written = from (fresh_at old.land.blocks.draft q) refl written where
    from : (o : Option Node) → fresh_at old.land.blocks.draft q ≡ o
        → IsSome o ⊎ Contains old.land.space.held_slots q
        → nodes_of new (Recorded later) q ≡ nodes_of old (Recorded events) q
    from (Some node) there known = fresh_now q node there ∙ sym (fresh-told old.land (Recorded events) q node there)
    from None none (inl some) = absurd cc
    from None none (inr has) = held_now q none has
