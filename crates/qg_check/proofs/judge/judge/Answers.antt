use Rattle.std.proofs.Common.{List, map, Option, refl, sym, ap, ◌∙◌, subst}
use Rattle.std.specs.Prelude.{IfSome}
use Rattle.std.specs.List.Sorted.{IsNonDecreasingBy, IsStrictlyIncreasing}
use Rattle.qg_super.specs.SuperText.{sizes_of}
use Rattle.qg_image.specs.declared.part.ExtentPart.{ExtentPart}
use Rattle.qg_image.specs.Owed.{part_address}
use Rattle.qg_image.specs.State.{layout_of}
use Rattle.qg_image.specs.ImageState.{state_in}
use Rattle.qg_qgroup_counts.specs.declared.surveyed.Surveyed.{Surveyed}
use Rattle.qg_shared_walk.specs.Gathered.{root_at}
use Rattle.qg_qgroups.specs.declared.state.QuotaState.{QuotaState}
use Rattle.qg_qgroups.specs.Tracked.{IsTracked}
use Rattle.qg_check.proofs.Judging.{AreNamedBy}
use Rattle.qg_check.proofs.Staging.{tells_same, fails_handed}
use Rattle.qg_check.proofs.Together.{bytes_small, counts_told, gathered_slices, numbers_up, references_told}
use Rattle.qg_check.proofs.Together.{roots_lowest, same_space, space_told}
use Rattle.qg_check.proofs.Together.{surveyed_moved, surveyed_slots, together_kept}
use Rattle.qg_check.proofs.judge.judge.Goals as goal

-- ---- where extents lie

pub returns-in_err-judge_extents-clause-failure : goal.returns-in_err-judge_extents-clause-failure
returns-in_err-judge_extents-clause-failure c = λ bytes are.
    let super = c.args.superblock.now in
    let extents = c.in_ok-extents.extents in
    let fault = c.in_err-judge_extents.field-0.0 in
    let same = same_space (sizes_of super) c.sizes-sizes.result extents c.as_slice.result.now c.sizes-sizes.ensures
    c.as_slice.ensures in
    fails_handed c.from_residual-in_err-judge_extents.result fault _ c.from_residual-in_err-judge_extents.ensures.1
    (space_told super bytes c.args.read are c.requires.served extents c.in_ok-extents.ensures fault
    (tells_same fault same c.in_err-judge_extents.ensures.failure))

-- ---- references

pub judge_recorded-requires-clause-roots : goal.judge_recorded-requires-clause-roots
judge_recorded-requires-clause-roots c =
    numbers_up c.args.superblock.now.generation c.args.read.trees.subvolumes c.as_slice-3.result.now
    (c.as_slice-3.ensures.value ∙ c.in_ok-roots.ensures ∙ ap (map root_at) c.as_slice-2.ensures) c.requires.subvolumes

pub judge_recorded-requires-clause-parts : goal.judge_recorded-requires-clause-parts
judge_recorded-requires-clause-parts c = subst (λ (parts : List ExtentPart). IsNonDecreasingBy part_address parts)
    (sym c.as_slice-5.ensures) c.requires.parts.ordered

pub returns-in_err-surveyed-clause-failure : goal.returns-in_err-surveyed-clause-failure
returns-in_err-surveyed-clause-failure c = λ bytes are.
    let super = c.args.superblock.now in
    let read = c.args.read in
    let extents = c.in_ok-extents.extents in
    let named : AreNamedBy read.nodes extents = c.in_ok-extents.ensures in
    let served = c.requires.served in
    let fault = c.in_err-surveyed.field-0.0 in
    let space = same_space (sizes_of super) c.sizes-sizes.result extents c.as_slice.result.now c.sizes-sizes.ensures
    c.as_slice.ensures ∙ c.in_ok-judge_extents.ensures.failure in
    let roots = c.as_slice-3.ensures.value ∙ c.in_ok-roots.ensures ∙ ap (map root_at) c.as_slice-2.ensures in
    let gathered = gathered_slices super bytes read are served extents named space c.as_slice-4.result.now
    c.as_slice-5.result.now c.as_slice-4.ensures c.as_slice-5.ensures in
    fails_handed c.from_residual-in_err-surveyed.result fault _ c.from_residual-in_err-surveyed.ensures.1
    (references_told super bytes read are served extents named space fault
    (c.in_err-surveyed.ensures.failure super bytes read.trees.subvolumes roots gathered))

-- ---- counts

pub judge_counts-requires-clause-lowest : goal.judge_counts-requires-clause-lowest
judge_counts-requires-clause-lowest c =
    roots_lowest c.args.superblock.now.generation c.args.read.trees.subvolumes c.as_slice-6.result.now
    (c.as_slice-6.ensures.value ∙ c.in_ok-roots.ensures ∙ ap (map root_at) c.as_slice-2.ensures) c.requires.subvolumes

pub judge_counts-requires-clause-nodes : goal.judge_counts-requires-clause-nodes
judge_counts-requires-clause-nodes c =
    subst (λ (those : List Surveyed). IsStrictlyIncreasing (map (λ node. node.linked.address) those))
    (sym c.as_slice-7.ensures.value) c.in_ok-surveyed.ensures.ascending

pub judge_counts-requires-clause-small : goal.judge_counts-requires-clause-small
judge_counts-requires-clause-small c =
    let sizes = sizes_of c.args.superblock.now in
    let extents = c.in_ok-extents.extents in
    let those = c.in_ok-surveyed.surveyed.items in
    let space = same_space sizes c.sizes-sizes.result extents c.as_slice.result.now c.sizes-sizes.ensures
    c.as_slice.ensures ∙ c.in_ok-judge_extents.ensures.failure in
    let slots = surveyed_slots sizes c.args.read.nodes those c.requires.slots c.in_ok-surveyed.ensures.same in
    let small = bytes_small sizes those extents c.requires.served slots c.in_ok-surveyed.ensures.ascending space in
    rw (c.as_slice-7.ensures.value, c.as_slice-8.ensures) small

pub judge_counts-requires-clause-tracked : goal.judge_counts-requires-clause-tracked
judge_counts-requires-clause-tracked c = subst (λ (state : Option QuotaState). IfSome state IsTracked)
    (sym c.parted-apart.ensures.quota) c.requires.tracked

pub returns-in_err-judge_counts-clause-failure : goal.returns-in_err-judge_counts-clause-failure
returns-in_err-judge_counts-clause-failure c = λ bytes are.
    let super = c.args.superblock.now in
    let read = c.args.read in
    let layout = layout_of (state_in super bytes) in
    let extents = c.in_ok-extents.extents in
    let named : AreNamedBy read.nodes extents = c.in_ok-extents.ensures in
    let served = c.requires.served in
    let fault = c.in_err-judge_counts.field-0.0 in
    let space = same_space (sizes_of super) c.sizes-sizes.result extents c.as_slice.result.now c.sizes-sizes.ensures
    c.as_slice.ensures ∙ c.in_ok-judge_extents.ensures.failure in
    let roots = c.as_slice-3.ensures.value ∙ c.in_ok-roots.ensures ∙ ap (map root_at) c.as_slice-2.ensures in
    let gathered = gathered_slices super bytes read are served extents named space c.as_slice-4.result.now
    c.as_slice-5.result.now c.as_slice-4.ensures c.as_slice-5.ensures in
    let none = c.in_ok-surveyed.ensures.failure super bytes read.trees.subvolumes roots gathered in
    let surveyed = surveyed_moved layout c.as_slice-3.result.now c.as_slice-6.result.now c.in_ok-surveyed.surveyed.items
    c.as_slice-7.result.now super.nodesize
    c.as_slice-4.result.now c.as_slice-8.result.now (c.as_slice-6.ensures.value ∙ sym c.as_slice-3.ensures.value)
    c.as_slice-7.ensures.value
    (c.as_slice-8.ensures ∙ sym c.as_slice-4.ensures)
    (c.in_ok-surveyed.ensures.surveyed super bytes read.trees.subvolumes roots gathered) in
    fails_handed c.from_residual-in_err-judge_counts.result fault _ c.from_residual-in_err-judge_counts.ensures.1
    (counts_told super bytes read are served extents named space none c.parted-apart.result.quota
    c.parted-apart.ensures.quota fault (c.in_err-judge_counts.ensures.failure layout surveyed))

-- ---- the end of the function

pub returns-clause-failure : goal.returns-clause-failure
returns-clause-failure c = λ bytes are.
    let super = c.args.superblock.now in
    let read = c.args.read in
    let layout = layout_of (state_in super bytes) in
    let extents = c.in_ok-extents.extents in
    let named : AreNamedBy read.nodes extents = c.in_ok-extents.ensures in
    let served = c.requires.served in
    let space = same_space (sizes_of super) c.sizes-sizes.result extents c.as_slice.result.now c.sizes-sizes.ensures
    c.as_slice.ensures ∙ c.in_ok-judge_extents.ensures.failure in
    let roots = c.as_slice-3.ensures.value ∙ c.in_ok-roots.ensures ∙ ap (map root_at) c.as_slice-2.ensures in
    let gathered = gathered_slices super bytes read are served extents named space c.as_slice-4.result.now
    c.as_slice-5.result.now c.as_slice-4.ensures c.as_slice-5.ensures in
    let none = c.in_ok-surveyed.ensures.failure super bytes read.trees.subvolumes roots gathered in
    let surveyed = surveyed_moved layout c.as_slice-3.result.now c.as_slice-6.result.now c.in_ok-surveyed.surveyed.items
    c.as_slice-7.result.now super.nodesize
    c.as_slice-4.result.now c.as_slice-8.result.now (c.as_slice-6.ensures.value ∙ sym c.as_slice-3.ensures.value)
    c.as_slice-7.ensures.value
    (c.as_slice-8.ensures ∙ sym c.as_slice-4.ensures)
    (c.in_ok-surveyed.ensures.surveyed super bytes read.trees.subvolumes roots gathered) in
    together_kept super bytes read are served extents named space none c.parted-apart.result.quota
    c.parted-apart.ensures.quota
    (c.in_ok-judge_counts.ensures.failure layout surveyed)

pub returns-clause-judged : goal.returns-clause-judged
returns-clause-judged c =
    let sizes = sizes_of c.args.superblock.now in
    let extents = c.in_ok-extents.extents in
    record {
      trees = refl;
      extents = refl;
      quota = c.parted-apart.ensures.quota;
      quota_nodes = c.parted-apart.ensures.nodes;
      named = c.in_ok-extents.ensures;
      space = same_space sizes c.sizes-sizes.result extents c.as_slice.result.now c.sizes-sizes.ensures
          c.as_slice.ensures ∙ c.in_ok-judge_extents.ensures.failure;
      same = c.in_ok-surveyed.ensures.same;
      ascending = c.in_ok-surveyed.ensures.ascending;
    }
