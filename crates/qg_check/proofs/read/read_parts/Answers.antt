use Rattle.std.proofs.Common.{◌≡◌, ℕ, List, map, sym, ap, subst, ◌∙◌}
use Rattle.std.specs.Option.{option_map}
use Rattle.qg_device.specs.History.{content}
use Rattle.qg_items.specs.declared.root.RootItem.{RootItem}
use Rattle.qg_super.specs.declared.superblock.Super.{Super}
use Rattle.qg_image.specs.Table.{keys_of}
use Rattle.qg_image.specs.Failure.{first_failure}
use Rattle.qg_image.specs.ImageState.{roots_in}
use Rattle.qg_image.specs.Verdict.{subvolume_failure, together_failure}
use Rattle.qg_qgroups.specs.Tracked.{quota_of}
use Rattle.qg_check.specs.Editable.{AreGroupsOf}
use Rattle.qg_check.specs.Trees.{AreFileTrees, AreNamed, AreTrees}
use Rattle.qg_check.specs.declared.trees.QuotaTree.{QuotaTree}
use Rattle.qg_check.specs.declared.trees.Trees.{Trees}
use Rattle.qg_check.proofs.Staging.{tells_first, pass_first, tells_same, tells_handed}
use Rattle.qg_check.proofs.Verdicts.{alone}
use Rattle.qg_check.proofs.read.read_parts.Goals as goal

-- the root tree names what was handed on
named_so : (super : Super) (bytes : List ℕ) (trees : Trees) (slice : List (ℕ × RootItem)) → slice ≡ trees.subvolumes
    → AreTrees super bytes trees
    → AreNamed (roots_in super bytes) trees.extents trees.quotas slice
named_so super bytes trees slice is are =
    subst (λ (list : List (ℕ × RootItem)). AreNamed (roots_in super bytes) trees.extents trees.quotas list)
    (sym is) are.named

pub returns-in_err-quotas-clause-failure : goal.returns-in_err-quotas-clause-failure
returns-in_err-quotas-clause-failure g c = λ events told are.
    let fault = c.in_err-quotas.field-0.0 in
    let extents = c.in_ok-extents.ensures.failure events told in
    let named = named_so c.args.superblock.now (content events) c.args.trees c.as_slice-subvolumes.result.now
    c.as_slice-subvolumes.ensures are in
    let quotas = c.in_err-quotas.ensures.failure events c.args.trees.extents (c.in_ok-extents.ensures.history
    ∙ told) named in
    tells_handed c.from_residual-in_err-quotas.result fault _ c.from_residual-in_err-quotas.ensures.1
    (tells_same fault (pass_first _ _ extents) (tells_first fault _ _ quotas))

pub returns-in_err-nodes-clause-failure : goal.returns-in_err-nodes-clause-failure
returns-in_err-nodes-clause-failure g c = λ events told are.
    let fault = c.in_err-nodes.field-0.0 in
    let told' = c.in_ok-extents.ensures.history ∙ told in
    let extents = c.in_ok-extents.ensures.failure events told in
    let named = named_so c.args.superblock.now (content events) c.args.trees c.as_slice-subvolumes.result.now
    c.as_slice-subvolumes.ensures are in
    let quotas = c.in_ok-quotas.ensures.failure events c.args.trees.extents told' named in
    let files = c.in_err-nodes.ensures.failure events (c.in_ok-quotas.ensures.history ∙ told') in
    let same = ap (λ (roots : List (ℕ × RootItem)). first_failure
    (map (λ entry. subvolume_failure c.args.superblock.now (content events) entry.1) roots))
    c.as_slice-subvolumes.ensures in
    tells_handed c.from_residual-in_err-nodes.result fault _ c.from_residual-in_err-nodes.ensures.1
    (tells_same fault (pass_first _ _ extents ∙ pass_first _ _ quotas)
    (tells_first fault _ _ (tells_same fault (sym same) files)))

pub returns-in_err-extents-clause-failure : goal.returns-in_err-extents-clause-failure
returns-in_err-extents-clause-failure g c = λ events told are.
    let fault = c.in_err-extents.field-0.0 in
    tells_handed c.from_residual.result fault _ c.from_residual.ensures.1
    (tells_first fault _ _ (c.in_err-extents.ensures.failure events told))

pub returns-clause-read : goal.returns-clause-read
returns-clause-read g c = λ events told are.
    let super = c.args.superblock.now in
    let told' = c.in_ok-extents.ensures.history ∙ told in
    let last = c.in_ok-quotas.ensures.history ∙ told' in
    let slice = c.as_slice-subvolumes in
    let extents = c.in_ok-extents.ensures.failure events told in
    let named = named_so super (content events) c.args.trees slice.result.now slice.ensures are in
    let quotas = c.in_ok-quotas.ensures.failure events c.args.trees.extents told' named in
    let files = c.in_ok-nodes.ensures.failure events last in
    let same = ap (λ (roots : List (ℕ × RootItem)). first_failure
    (map (λ entry. subvolume_failure super (content events) entry.1) roots)) slice.ensures in
    let trees = subst (λ (roots : List (ℕ × RootItem)). AreFileTrees super (content events) roots c.in_ok-nodes.nodes)
    slice.ensures
    (record { found = c.in_ok-nodes.ensures.found events last; sound = files }) in (
      record {
        trees = are;
        extents = c.in_ok-extents.ensures.tree events told;
        quotas = c.in_ok-quotas.ensures.tree events told';
        subvolumes = trees;
      },
      pass_first _ _ extents ∙ pass_first _ _ quotas ∙ pass_first _ _ (sym same ∙ files)
          ∙ alone (together_failure super (content events)),
    )

pub returns-clause-fit : goal.returns-clause-fit
returns-clause-fit g c = λ is roots. record {
  superblock = is;
  served = c.requires.served;
  subvolumes = c.requires.subvolumes;
  roots = roots;
  extents = c.in_ok-extents.ensures.slots;
  parts = c.in_ok-extents.ensures.parts;
  quotas = c.in_ok-quotas.ensures.slots;
  groups = subst (λ (roots : List (ℕ × RootItem)). AreGroupsOf c.args.superblock.now.generation (keys_of roots)
      (quota_of (option_map (λ (tree : QuotaTree). tree.quota) c.in_ok-quotas.quotas))) c.as_slice-subvolumes.ensures
      c.in_ok-quotas.ensures.groups;
  tracked = c.in_ok-quotas.ensures.tracked;
  none = c.in_ok-quotas.ensures.none;
  nodes = c.in_ok-nodes.ensures.slots;
}
