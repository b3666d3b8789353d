-- A node that is owned: the ways that lead to its place then lead to its copy's.
use Rattle.std.proofs.Common.{◌≡◌, ◌≢◌, ◌⊎◌, ℕ, zero, suc, ◌+◌, ◌≤◌, ◌<◌, true, List, [], ◌∷◌, arith, sym, ap, subst}
use Rattle.std.proofs.Common.{◌∙◌, inl, inr, Option, Some, None}
use Rattle.std.specs.Prelude.{IsTrue}
use Rattle.std.specs.List.{sum_by}
use Rattle.std.proofs.lemmas.Bool.Decides.{eqb_tells}
use Rattle.std.proofs.lemmas.List.Elements.{All-from_recursion}
use Rattle.qg_device.specs.History.{History}
use Rattle.qg_node.specs.declared.item.Item.{Item}
use Rattle.qg_node.specs.declared.node.Node.{Node}
use Rattle.qg_node.specs.Nodes.{header_of}
use Rattle.qg_image.specs.declared.expected.Expected.{Expected}
use Rattle.qg_image.specs.declared.tree.TreeKind.{TreeKind}
use Rattle.qg_blocks.specs.NodesFound.{fresh_at, told}
use Rattle.qg_space.specs.Holding.{is_free_slot}
use Rattle.qg_node_alloc.specs.declared.ground.Ground.{Ground}
use Rattle.qg_node_alloc.specs.Tellings.{Telling}
use Rattle.qg_node_alloc.specs.Tellings.Telling.{Copied}
use Rattle.qg_node_alloc.proofs.Slots.{free-apart}
use Rattle.qg_tree_read.specs.Tree.{Reaches, Root, super_of}
use Rattle.qg_tree_read.specs.Branch.{IsBranch}
use Rattle.qg_tree_edits.specs.Editing.{CanMake, IsOwned}
use Rattle.qg_tree_edits.specs.Counting.{AreCommitted, IsAsWas, IsBare, IsTold, IsUnheld, LeadsNone, gains, one}
use Rattle.qg_tree_edits.specs.Counting.{tellings_owned, ways, ways_each}
use Rattle.qg_tree_read.proofs.Branches.{branch-level, branch-top}
use Rattle.qg_tree_read.proofs.BranchFrames.{reach-top}
use Rattle.qg_tree_edits.proofs.Clean.{none-unless}
use Rattle.qg_tree_edits.proofs.Committed.{committed-told}
use Rattle.qg_tree_edits.proofs.Downward.{leads-none}
use Rattle.qg_tree_edits.proofs.OwnedBranch.{below-apart, mine-inner, mine-told}
use Rattle.qg_tree_edits.proofs.ToldOwned.{tellings-copied, tellings-kept}
use Rattle.qg_tree_edits.proofs.Turning.{told-more, told-none}
use Rattle.qg_tree_edits.proofs.Ways.{ways_each-same, one-other, ways-inner, ways-leaf, ways-none, ways-same, ways-top}

-- a node is copied
module _ (old : Ground) (nodes clean : ℕ → Option Node) (Reached : ℕ → Type 0) (before after : ℕ → ℕ) (node : Node)
    (at now : ℕ) where
  new_there : is_free_slot old.space now ≡ true → (q : ℕ) → 0 < sum_by (λ telling. gains telling q)
      (Copied node now ∷ []) → IsTrue (is_free_slot old.space q) ⊎ Reached q
  new_there free q some = elim (eqb_tells q now) [
    | inl (is, there) ↦ inl (ap (is_free_slot old.space) there ∙ free)
    | inr (is, other) ↦ absurd (let none = one-other now q other in omega (arith, none, some))
  ]

  pub told-copied : (header_of node).address ≡ at → nodes at ≡ Some node → is_free_slot old.space now ≡ true
      → LeadsNone clean before at → 0 < before at → before now ≡ 0
      → ((q : ℕ) → after q + one at q ≡ before q + one now q)
      → IsTold old nodes clean Reached before after 1 0 0 (Copied node now ∷ [])
  told-copied named stood free down some none turns = record {
    turns = (
      (let same = ap before named in omega (arith, same, some), none),
      λ q. let e = turns q in let same = ap
          (λ (a : ℕ). one a q) named in omega (arith, e, same),
    );
    down = (subst (λ (a : ℕ). LeadsNone clean before a) (sym named) down, tt);
    new = new_there free;
    as_was = All-from_recursion (IsAsWas nodes) (Copied node now ∷ []) (ap nodes named ∙ stood, tt);
    bare = All-from_recursion IsBare (Copied node now ∷ []) (tt, tt);
    unheld = All-from_recursion (IsUnheld old.space.held_slots) (Copied node now ∷ [])
        (free-apart old.space now free, tt);
    few_come = omega arith;
    few_left = omega arith;
    few_made = omega arith;
  }

module _ (tree : TreeKind) (root : Root) (land new : Ground) (history : History) (expected : Expected)
    (at now : ℕ) (owned : IsOwned tree root land new history expected at now)
    (makes : CanMake tree root) where
  -- as much is below it as was
  below_ways : (level : ℕ) (items : List Item) → IsBranch tree (super_of root land.blocks.draft)
      (told land.blocks.draft history) level at items
      → ((q : ℕ) → IsTrue (is_free_slot land.space q) → Reaches (told land.blocks.draft history) level at q → ⊥)
      → (q : ℕ) → (below : ℕ) × (ways (told land.blocks.draft history) level at q ≡ one at q + below)
      × (ways (told new.blocks.draft history) level now q ≡ one now q + below)
  unfolding IsBranch
  below_ways zero items branch free q =
      let a = ways-leaf (told land.blocks.draft history) at q in
      let b = ways-leaf (told new.blocks.draft history) now q in
      (0, omega (arith, a), omega (arith, b))
  below_ways (suc level) items branch free q =
      let mine = mine-inner tree root land new history expected at now owned makes
      (suc level) branch.0 branch.1 branch.2 branch.3.levelled in
      let there = mine-told tree root land new history expected at now owned makes ∙ ap Some mine.1 in
      let same = ways_each-same (told land.blocks.draft history) (told new.blocks.draft history) level branch.1
      (λ place pointer is r reaches. owned.others history r
      (below-apart tree root land new history expected at now owned makes level branch.0 branch.1 items branch.2
      branch.3.levelled branch.4 free place pointer is r reaches)) q in (
        ways_each (told land.blocks.draft history) level branch.1 q,
        ways-inner (told land.blocks.draft history) level at branch.0 branch.1 branch.2 q,
        ways-inner (told new.blocks.draft history) level now mine.0 branch.1 there q
            ∙ ap (λ (n : ℕ). one now q + n) same,
      )

  module _ (level : ℕ) (items : List Item) (branch : IsBranch tree (super_of root land.blocks.draft)
      (told land.blocks.draft history) level at items)
      (free : (q : ℕ) → IsTrue (is_free_slot land.space q) → Reaches (told land.blocks.draft history) level at q
      → ⊥) where
    there : told land.blocks.draft history at ≡ Some owned.node
    there =
        let top = branch-level tree (super_of root land.blocks.draft) (told land.blocks.draft history) level at items
        branch at (reach-top (told land.blocks.draft history) level at) in
        top.1 ∙ ap Some (owned.alone top.0 top.1)

    -- it stays where it is
    stays : owned.mine ≡ owned.node → now ≡ at → (q : ℕ) → told new.blocks.draft history q
        ≡ told land.blocks.draft history q
    stays mine same q = elim (eqb_tells q now) [
      | inl (is, here) ↦
          ap (told new.blocks.draft history) here ∙ mine-told tree root land new history expected at now owned makes
          ∙ ap Some mine ∙ sym there ∙ sym (ap (told land.blocks.draft history) (here ∙ same))
      | inr (is, other) ↦ owned.others history q other
    ]

    module _ (nodes clean : ℕ → Option Node) (committed : AreCommitted land history clean)
        (same_there : fresh_at land.blocks.draft at ≡ None → nodes at ≡ told land.blocks.draft history at) where
      kept_told : owned.mine ≡ owned.node → now ≡ at
          → IsTold land nodes clean (Reaches (told land.blocks.draft history) level at)
          (ways (told land.blocks.draft history) level at) (ways (told new.blocks.draft history) level now) 1 0 0
          (tellings_owned owned.node at now)
      kept_told mine same =
          let Reached = Reaches (told land.blocks.draft history) level at in
          let before = ways (told land.blocks.draft history) level at in
          let after = ways (told new.blocks.draft history) level now in
          let turns : (q : ℕ) → after q ≡ before q = λ q.
          ap (λ (a : ℕ). ways (told new.blocks.draft history) level a q) same
          ∙ ways-same (told land.blocks.draft history) (told new.blocks.draft history) level at
          (λ r reaches. stays mine same r) q in
          subst (λ (ts : List Telling). IsTold land nodes clean Reached before after 1 0 0 ts)
          (sym (tellings-kept owned.node at now same))
          (told-more land nodes clean Reached before after 0 0 0 1 0 0 [] (omega arith) (omega arith) (omega arith)
          (told-none land nodes clean Reached before after turns))

      copied_told : is_free_slot land.space now ≡ true
          → IsTold land nodes clean (Reaches (told land.blocks.draft history) level at)
          (ways (told land.blocks.draft history) level at) (ways (told new.blocks.draft history) level now) 1 0 0
          (tellings_owned owned.node at now)
      copied_told is_free =
          let Reached = Reaches (told land.blocks.draft history) level at in
          let before = ways (told land.blocks.draft history) level at in
          let after = ways (told new.blocks.draft history) level now in
          let differ : now ≢ at = λ same. free now is_free
          (subst (λ (a : ℕ). Reaches (told land.blocks.draft history) level at a) (sym same)
          (reach-top (told land.blocks.draft history) level at)) in
          let top_there = branch-top tree (super_of root land.blocks.draft) (told land.blocks.draft history) level at
          items
          branch in
          let levelled = top_there.2 in
          let high : level ≤ (header_of top_there.0).level = omega (arith, levelled) in
          let turns : (q : ℕ) → after q + one at q ≡ before q + one now q = λ q.
          let both = below_ways level items branch free q in
          let a = both.1 in
          let b = both.2 in
          omega (arith, a, b) in
          subst (λ (ts : List Telling). IsTold land nodes clean Reached before after 1 0 0 ts)
          (sym (tellings-copied owned.node at now differ))
          (told-copied land nodes clean Reached before after owned.node at now owned.kept.placed
          (same_there (none-unless (fresh_at land.blocks.draft at) (λ some. differ (owned.stays some))) ∙ there)
          is_free
          (leads-none tree (super_of root land.blocks.draft) (told land.blocks.draft history) clean
          (committed-told land history clean committed) level at items branch at top_there.0 top_there.1 high)
          (ways-top (told land.blocks.draft history) level at)
          (ways-none (told land.blocks.draft history) level at now (free now is_free)) turns)

      -- what is told of it
      pub owned-told : IsTold land nodes clean (Reaches (told land.blocks.draft history) level at)
          (ways (told land.blocks.draft history) level at) (ways (told new.blocks.draft history) level now) 1 0 0
          (tellings_owned owned.node at now)
      owned-told = elim owned.same [ inl kept ↦ kept_told kept.0 kept.1 | inr copied ↦ copied_told copied.1 ]
