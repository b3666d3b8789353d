-- What is kept once a commit was written. Addresses are in bytes.
use Rattle.std.proofs.Common.{◌≡◌, ℕ, ◌+◌, ◌<◌, ◌≤◌, ◌^◌, List, length, map, take, ap, subst, ◌∙◌, arith, inl, inr}
use Rattle.std.specs.Prelude.{◌↔◌}
use Rattle.std.specs.List.{Contains}
use Rattle.qg_node.specs.Nodes.{header_of}
use Rattle.qg_super.specs.SuperText.{sizes_of}
use Rattle.qg_open_image.specs.Types.{FsTree}
use Rattle.qg_open_image.specs.CommitTreesCommitting.{IsCommitted}
use Rattle.qg_open_image.specs.Types.{OtherTrees}
use Rattle.qg_open_image.specs.Trees.{nodes_laid}
use Rattle.qg_open_image.specs.declared.open_image.OpenImage.{OpenImage}
use Rattle.qg_image_commits.specs.declared.planning.Plan.{Plan}
use Rattle.qg_image_commits.specs.Committing.{IsLaidBy}
use Rattle.qg_open_image.specs.Keeping.{IsFitted}
use Rattle.qg_image_commits.specs.Planning.{IsPlanSo}
use Rattle.qg_image_commits.proofs.WhereLaid.{same-slots, within}

-- the slots of the other trees may be named otherwise
committed-so : (old new : FsTree) (besides named : List ℕ) → IsCommitted old new besides
    → ((slot : ℕ) → Contains besides slot ↔ Contains named slot) → IsCommitted old new named
committed-so old new besides named is same = record {
  draft = is.draft;
  bound = is.bound;
  sizes = is.sizes;
  slots = is.slots;
  held_slots = λ slot. (
    λ has. elim ((is.held_slots slot).0 has) [ inl own ↦ inl own | inr other ↦ inr ((same slot).0 other) ],
    λ has. (is.held_slots slot).1 (elim has [ inl own ↦ inl own | inr other ↦ inr ((same slot).1 other) ]),
  );
  runs = is.runs;
  held_runs = is.held_runs;
  tree = is.tree;
  others = is.others;
  refs = is.refs;
}

-- the generation behind the one to come fits its field
pub later-fits : (kept : OpenImage) → IsFitted kept → kept.superblock.generation ≤ 2 ^ 63 + 1
    → kept.fs.tree.next + 1 < 2 ^ 64
later-fits kept fits early = let next = fits.next in omega (arith, next, early)

module _ (kept : OpenImage) (plan : Plan) (trees : OtherTrees) (laid : IsLaidBy kept plan trees) where
  abbrev pub count-laid : ℕ
  count-laid = length (nodes_laid trees)

  pub count-within : count-laid ≤ length plan.slots
  count-within = within (sizes_of kept.superblock) kept.fs.tree.next plan.roots kept.fs.refs.refs plan.quota plan.slots
      trees laid.laid

  -- a machine can tell how many they are
  pub count-small : IsPlanSo kept plan → count-laid < 2 ^ 64
  count-small so =
      let inside = count-within in
      let few = so.is.few in
      omega (arith, inside, few)

  -- the slots in front, told by the number of the trees' nodes
  pub front-told : (given front : List ℕ) (count : ℕ) → front ≡ take count given → given ≡ plan.slots
      → count ≡ count-laid → front ≡ take count-laid plan.slots
  front-told given front count is same many =
      is ∙ ap (λ (n : ℕ). take n given) many ∙ ap (take count-laid) same

  pub committed-laid : (old new : FsTree) (front : List ℕ) → front ≡ take count-laid plan.slots
      → IsCommitted old new front → IsCommitted old new (map (λ node. (header_of node).address) (nodes_laid trees))
  committed-laid old new front is committed =
      committed-so old new (take count-laid plan.slots) (map (λ node. (header_of node).address) (nodes_laid trees))
      (subst (IsCommitted old new) is committed)
      (same-slots (sizes_of kept.superblock) kept.fs.tree.next plan.roots kept.fs.refs.refs plan.quota plan.slots trees
      laid.laid)
