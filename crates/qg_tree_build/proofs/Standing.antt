-- A tree whose nodes were all put stands.
use Rattle.std.proofs.Common.{◌≡◌, ℕ, ◌<◌, true, false, cond, List, [], ◌∷◌, length, map, arith, refl, ap, subst, ◌∙◌}
use Rattle.std.proofs.Common.{Option, Some, None}
use Rattle.std.specs.Prelude.{Bool, IsSome, ◌==◌}
use Rattle.std.specs.List.{AllByRecursion}
use Rattle.std.proofs.lemmas.Bool.{eqb-true}
use Rattle.qg_device.specs.History.{History}
use Rattle.qg_node.specs.declared.item.Item.{Item}
use Rattle.qg_node.specs.declared.node.Node.{Node}
use Rattle.qg_super.specs.declared.sizes.Sizes.{Sizes}
use Rattle.qg_blocks.specs.NodesFound.{fresh_at, told}
use Rattle.qg_space.specs.Holding.{is_free_slot}
use Rattle.qg_image.specs.Among.{node_among}
use Rattle.qg_image.specs.declared.tree.TreeKind.{TreeKind}
use Rattle.qg_node_alloc.specs.declared.ground.Ground.{Ground}
use Rattle.qg_node_alloc.specs.Tellings.{Telling}
use Rattle.qg_node_alloc.specs.Tellings.Telling.{Made}
use Rattle.qg_node_alloc.proofs.Lands.{IsSome-is, told-fresh_at}
use Rattle.qg_node_alloc.proofs.Settling.{fresh-free}
use Rattle.qg_tree_layout.specs.Row.{address_of}
use Rattle.qg_tree_layout.proofs.Frame.{AllByRecursion-weaker, Keeps}
use Rattle.qg_tree_read.specs.Tree.{Reaches, Root}
use Rattle.qg_tree_edits.specs.Counting.{ways}
use Rattle.qg_tree_edits.proofs.Turning.{told-more, told-same}
use Rattle.qg_tree_edits.proofs.Ways.{ways-none, ways-some}
use Rattle.qg_tree_build.specs.Building.{CanBuild, IsBuildTold, IsBuiltIn, most_nodes}
use Rattle.qg_tree_build.specs.Planning.{IsPlanned}
use Rattle.qg_tree_build.proofs.WaysToNodes.{lying, lying-some, ways-built}
use Rattle.qg_tree_build.proofs.Laid.{IsLaying}
use Rattle.qg_tree_build.proofs.Telling.{slots_laid, told-laid}
use Rattle.qg_tree_build.proofs.Walked.{IsTree-built}

-- what is among nodes that are told is told
pub Keeps-told : (map : ℕ → Option Node) (nodes : List Node)
    → AllByRecursion (λ node. map (address_of node) ≡ Some node) nodes → Keeps (node_among nodes) map
Keeps-told map nodes there = record { each = λ at node is. told_among nodes at node there is } where
  told_among : (nodes : List Node) (at : ℕ) (node : Node)
      → AllByRecursion (λ node. map (address_of node) ≡ Some node) nodes → node_among nodes at ≡ Some node
      → map at ≡ Some node
  told_among [] at node there h = absurd cc
  told_among (first ∷ nodes) at node there h =
      cases (address_of first == at) refl (told_among nodes at node there.1) h where
        cases : (here : Bool) → (address_of first == at) ≡ here → (node_among nodes at ≡ Some node → map at ≡ Some node)
            → cond here (Some first) (node_among nodes at) ≡ Some node → map at ≡ Some node
        cases true is later h =
            subst (λ (a : ℕ). map a ≡ Some first) (eqb-true (address_of first) at is) there.0 ∙ h
        cases false is later h = later h

none_some : (o : Option Node) → o ≡ None → IsSome o → ⊥
none_some None is some = cc
none_some (Some node) is some = cc

-- what a book was told of nodes that were put
abbrev tellings : List Node → List Telling
tellings nodes = map Made (slots_laid nodes)

module _ (tree : TreeKind) (old new : Ground) (before after : History) (bytes owner next : ℕ)
    (items : List Item) (nodes : List Node) (root level : ℕ) (can : CanBuild tree old before bytes owner next items)
    (plan : IsPlanned old owner next items nodes root level)
    (laying : IsLaying old new after owner next [] nodes) where
  abbrev pub standing : Root
  standing = record { address = root; height = level; owner = owner; next = next }

  -- its nodes are as large as nodes in memory
  same_size : new.blocks.draft.sizes.nodesize ≡ old.space.sizes.nodesize
  same_size =
      ap (λ (s : Sizes). s.nodesize) laying.rests.node_sizes ∙ can.editable.drafted.sizes.nodesize

  module _ (history : History) where
    there_told : AllByRecursion (λ node. told new.blocks.draft history (address_of node) ≡ Some node) nodes
    there_told =
        AllByRecursion-weaker (λ (n : Node). fresh_at new.blocks.draft (address_of n) ≡ Some n)
        (λ (n : Node). told new.blocks.draft history (address_of n) ≡ Some n)
        (λ n is. told-fresh_at new.blocks.draft history (address_of n) n is) nodes laying.there

    keeps : Keeps (node_among nodes) (told new.blocks.draft history)
    keeps = Keeps-told (told new.blocks.draft history) nodes there_told

    ways_are : (q : ℕ) → ways (told new.blocks.draft history) level root q ≡ lying nodes q
    ways_are = ways-built nodes (told new.blocks.draft history) keeps level root plan.built.reached

    -- what is reached lies at the address of a node
    reached_some : (q : ℕ) → Reaches (told new.blocks.draft history) level root q → 0 < lying nodes q
    reached_some q reaches =
        let some = ways-some (told new.blocks.draft history) level root q reaches in
        let are = ways_are q in
        omega (arith, some, are)

    fresh_there : (q : ℕ) → Reaches (told new.blocks.draft history) level root q → IsSome (fresh_at new.blocks.draft q)
    fresh_there q reaches =
        lying-some (λ (a : ℕ). IsSome (fresh_at new.blocks.draft a)) nodes q
        (AllByRecursion-weaker (λ (n : Node). fresh_at new.blocks.draft (address_of n) ≡ Some n)
        (λ (n : Node). IsSome (fresh_at new.blocks.draft (address_of n)))
        (λ n is. IsSome-is (fresh_at new.blocks.draft (address_of n)) n is) nodes laying.there)
        (reached_some q reaches)

    was_free : (q : ℕ) → Reaches (told new.blocks.draft history) level root q → is_free_slot old.space q ≡ true
    was_free q reaches =
        lying-some (λ (a : ℕ). is_free_slot old.space a ≡ true) nodes q plan.free (reached_some q reaches)

    others_told : (q : ℕ) → (Reaches (told new.blocks.draft history) level root q → ⊥)
        → told new.blocks.draft history q ≡ told old.blocks.draft history q
    others_told q apart =
        let none = ways-none (told new.blocks.draft history) level root q apart in
        let are = ways_are q in
        laying.others history q (omega (arith, none, are))

    -- no node is fresh in a free slot
    not_free : (q : ℕ) → is_free_slot new.space q ≡ true → Reaches (told new.blocks.draft history) level root q → ⊥
    not_free q free reaches =
        let none = fresh-free new next q laying.rests.drafted free in
        let some = fresh_there q reaches in
        none_some (fresh_at new.blocks.draft q) none some

    pub IsBuiltIn-laid : IsBuiltIn tree standing old new history owner next
        (most_nodes old.space.sizes.nodesize items) items
    IsBuiltIn-laid = record {
      owned = refl;
      dated = refl;
      low = plan.built.low;
      makes = record { owner = can.owned; next = can.later };
      rooted = record {
        tells = IsTree-built tree (told new.blocks.draft history) old.space.sizes.nodesize owner next items plan.slots
            nodes root level plan.built keeps new.blocks.draft.sizes.nodesize same_size can.owned can.later;
        apart = not_free;
        short = can.short;
      };
      fresh = fresh_there;
      reach = was_free;
      others = others_told;
      freed = laying.freed;
      count = let a = laying.count in let few = plan.built.few in omega (arith, a, few);
    }

    -- and this was told
    pub IsBuildTold-laid : IsBuildTold standing old new history (most_nodes old.space.sizes.nodesize items)
        (slots_laid nodes)
    IsBuildTold-laid = λ map clean.
        let all = told-laid old map clean nodes plan.apart plan.free in
        let same = told-same old map clean (λ q. ⊥) (λ q. 0) (λ q. 0) (lying nodes)
        (ways (told new.blocks.draft history) level root) (length nodes) 0 (length nodes) (tellings nodes) (λ q. refl)
        ways_are all in
        let few = plan.built.few in
        told-more old map clean (λ q. ⊥) (λ q. 0) (ways (told new.blocks.draft history) level root) (length nodes) 0
        (length nodes) (most_nodes old.space.sizes.nodesize items) 0 (most_nodes old.space.sizes.nodesize items)
        (tellings nodes) few (omega arith) few same
