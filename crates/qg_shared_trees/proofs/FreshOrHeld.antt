-- What some tree reaches is referred to, and is fresh or such as the last commit holds.
use Rattle.std.proofs.Common.{◌≡◌, ℕ, ◌<◌, true, false, List, Option, Some, None, arith, refl, sym, ap, subst, ◌∙◌, inl}
use Rattle.std.proofs.Common.{inr}
use Rattle.std.specs.Prelude.{◌⊎◌, IsSome}
use Rattle.std.specs.List.{Contains}
use Rattle.std.proofs.lemmas.Bool.{lt-ltb}
use Rattle.qg_device.specs.History.{History}
use Rattle.qg_num.specs.declared.piece.Piece.{Piece}
use Rattle.qg_node.specs.declared.item.Item.{Item}
use Rattle.qg_node.specs.declared.node.Node.{Node}
use Rattle.qg_node.specs.Nodes.{header_of}
use Rattle.qg_items.specs.declared.extent.Reference.{Reference}
use Rattle.qg_image.specs.Owed.{owed_count}
use Rattle.qg_image.specs.State.{Placed}
use Rattle.qg_owner_rule.proofs.Reaching.{entry_of_value}
use Rattle.qg_blocks.specs.NodesFound.{fresh_at}
use Rattle.qg_space.specs.Holding.{has_slot}
use Rattle.qg_extents.specs.Table.{book_of}
use Rattle.qg_shared_trees.specs.Tree.{Root}
use Rattle.qg_shared_trees.specs.Following.{references_to}
use Rattle.qg_shared_trees.proofs.Referring.{OwesChild, OwesRoot, child-counted, children_of, counted-referred}
use Rattle.qg_shared_trees.proofs.Referring.{root-counted}
use Rattle.qg_fs_tree.specs.declared.fs_tree.FsTree.{FsTree}
use Rattle.qg_fs_tree.specs.Standing.{IsReachedBy, IsSubvolume, Stands, layout_in, nodes_of, roots_of, trees_of}
use Rattle.qg_fs_tree.proofs.Nodes.{last-step}
use Rattle.qg_shared_trees.specs.Laying.{IsMet, IsMetAs, nodes_in}
use Rattle.qg_shared_trees.proofs.Moved.{fresh-told}
use Rattle.qg_shared_trees.proofs.Nodes.{value-reached}
use Rattle.qg_shared_trees.proofs.Roots.{tree-root}
use Rattle.qg_shared_trees.proofs.Trees.{drafted, entry-there, met-slot, numbers-apart, sized}

-- it is fresh: of the generation to come, of the subvolume whose tree reaches it, not full, and none that the last
-- commit holds
pub record IsOwn (fs : FsTree) (history : History) (q : ℕ) (placed : Placed) : Type 0 where
  pub generation : (header_of placed.node).generation ≡ fs.tree.next
  pub owner : (tree : Root) → Contains (trees_of fs) tree → IsReachedBy fs history tree q
      → (header_of placed.node).owner ≡ tree.owner
  pub bare : placed.full ≡ false
  pub apart : Contains fs.land.space.held_slots q → ⊥

-- or the last commit holds it
pub record IsHeldThere (fs : FsTree) (q : ℕ) : Type 0 where
  pub held : Contains fs.land.space.held_slots q
  pub clean : fresh_at fs.land.blocks.draft q ≡ None

module _ (fs : FsTree) (history : History) (bytes : ℕ) (items : List Item) (names : List (ℕ × Piece))
    (subvolume : IsSubvolume fs history bytes) (stands : Stands fs history items names) where
  roots_in : (layout_in fs history).roots ≡ roots_of fs
  unfolding layout_in
  roots_in = refl

  -- ---- references

  root_owes : (tree : Root) → Contains (trees_of fs) tree → OwesRoot (layout_in fs history) tree.address
  root_owes tree has = record {
    entry = (tree.owner, tree.address);
    has = subst (λ (table : List (ℕ × ℕ)). Contains table (tree.owner, tree.address)) (sym roots_in)
        (entry_of_value tree.owner tree.address (roots_of fs)
        (tree-root fs stands.ascending (numbers-apart fs history bytes items names subvolume stands) tree has));
    here = refl;
  }

  child_owes : (tree : Root) → Contains (trees_of fs) tree → (by q : ℕ) (node : Node) → IsReachedBy fs history tree by
      → nodes_of fs history by ≡ Some node → Contains (children_of node) q → OwesChild (layout_in fs history) q
  child_owes tree has by q node reached there leads =
      let entry = entry-there fs history bytes items names subvolume stands by
      (record { tree = tree; among = has; reached = reached }) in
      let same : node ≡ entry.0.node = let e : Some node ≡ Some entry.0.node = sym there ∙ entry.1.told in cc in
      record {
        entry = (by, entry.0);
        has = entry_of_value by entry.0 (nodes_in fs history)
            (value-reached fs history (sized fs history bytes items names subvolume stands)
            (met-slot fs history bytes items names subvolume stands) by entry.0 entry.1);
        leads = subst (λ (n : Node). Contains (children_of n) q) same leads;
      }

  -- what is owed is counted
  owed_counted : (q : ℕ) → (reference : Reference) × (0 < owed_count (layout_in fs history) q reference)
      → 0 < references_to (book_of fs.refs.refs) q
  owed_counted q owed =
      let counts = stands.counts q owed.0 in
      let within = stands.within q owed.0 in
      let some = owed.1 in
      counted-referred (book_of fs.refs.refs) q owed.0 (omega (arith, counts, within, some))

  -- references lead to what some tree reaches
  pub met-referred : (q : ℕ) → IsMet fs history q → 0 < references_to (book_of fs.refs.refs) q
  met-referred q met =
      elim (last-step (nodes_of fs history) met.tree.height met.tree.address q met.reached) [
        | inl root ↦
            subst (λ (a : ℕ). 0 < references_to (book_of fs.refs.refs) a) (sym root)
            (owed_counted met.tree.address
            (root-counted (layout_in fs history) met.tree.address (root_owes met.tree met.among)))
        | inr step ↦
            owed_counted q (child-counted (layout_in fs history) q
            (child_owes met.tree met.among step.by q step.node step.reached step.there step.leads))
      ]

  pub met-taken : (q : ℕ) → IsMet fs history q → has_slot fs.land.space q ≡ true
  met-taken q met =
      stands.settled.slots q (met-slot fs history bytes items names subvolume stands q met)
      ∙ lt-ltb 0 (references_to (book_of fs.refs.refs) q) (met-referred q met)

  -- ---- fresh, or held

  own_there : (q : ℕ) (placed : Placed) → IsMetAs fs history q placed → (node : Node)
      → fresh_at fs.land.blocks.draft q ≡ Some node → IsOwn fs history q placed
  own_there q placed its node is =
      let told_so = sym (fresh-told fs.land history q node is) ∙ its.told in
      let same : node ≡ placed.node = let e : Some node ≡ Some placed.node = told_so in cc in
      let draft = (drafted fs history bytes items names subvolume stands).each q node is in
      record {
        generation = ap (λ (n : Node). (header_of n).generation) (sym same) ∙ draft.dated;
        owner = λ tree has reached.
            ap (λ (n : Node). (header_of n).owner) (sym same) ∙ (stands.young tree q node has reached is).1;
        bare = its.full ∙ (stands.young its.met.tree q node its.met.among its.met.reached is).0;
        apart = draft.apart;
      }

  none_some : (o : Option Node) → o ≡ None → IsSome o → ⊥
  none_some None none some = absurd cc
  none_some (Some node) none some = cc

  pub either-there : (q : ℕ) (placed : Placed) → IsMetAs fs history q placed
      → IsOwn fs history q placed ⊎ IsHeldThere fs q
  either-there q placed its = from (fresh_at fs.land.blocks.draft q) refl where
    from : (o : Option Node) → fresh_at fs.land.blocks.draft q ≡ o → IsOwn fs history q placed ⊎ IsHeldThere fs q
    from (Some node) is = inl (own_there q placed its node is)
    from None none = elim (stands.settled.written q (met-taken q its.met)) [
      | inl fresh ↦ absurd (none_some (fresh_at fs.land.blocks.draft q) none fresh)
      | inr held ↦ inr (record { held = held; clean = none })
    ]
