use Rattle.std.proofs.Common.{Option, None, sym, ap, ◌∙◌, subst}
use Rattle.qg_device.specs.History.{content}
use Rattle.qg_items.specs.declared.root.RootItem.{RootItem}
use Rattle.qg_image.specs.ImageState.{roots_in}
use Rattle.qg_image.specs.Verdict.{quota_failure}
use Rattle.qg_check.specs.Trees.{AreNamed, IsQuotaTreeOf}
use Rattle.qg_check.proofs.Staging.{fails_handed, tells_same}
use Rattle.qg_check.proofs.trees.read_quotas.Goals as goal

-- ---- there is one

pub returns-in_err-tree-in-Some-clause-failure : goal.returns-in_err-tree-in-Some-clause-failure
returns-in_err-tree-in-Some-clause-failure g c = λ events extents told named.
    let super = c.args.superblock.now in
    let roots = roots_in super (content events) in
    let fault = c.in_err-tree-in-Some.field-0.0 in
    let here = subst (λ (root : Option RootItem). AreNamed roots extents root c.args.subvolumes.now) c.in-Some.is
    named in
    let same = ap (quota_failure super (content events) roots) c.in-Some.is in
    fails_handed c.from_residual.result fault _ c.from_residual.ensures.1
    (tells_same fault same (c.in_err-tree-in-Some.ensures.failure events extents told here))

pub returns-in_ok-tree-in-Some-clause-failure : goal.returns-in_ok-tree-in-Some-clause-failure
returns-in_ok-tree-in-Some-clause-failure g c = λ events extents told named.
    let super = c.args.superblock.now in
    let roots = roots_in super (content events) in
    let here = subst (λ (root : Option RootItem). AreNamed roots extents root c.args.subvolumes.now) c.in-Some.is
    named in
    ap (quota_failure super (content events) roots) c.in-Some.is
    ∙ c.in_ok-tree-in-Some.ensures.failure events extents told here

-- ---- quota is off

pub returns-in-None-clause-failure : goal.returns-in-None-clause-failure
returns-in-None-clause-failure g c = λ events extents told named.
    let super = c.args.superblock.now in
    ap (quota_failure super (content events) (roots_in super (content events))) c.in-None.is

pub returns-in-None-clause-tree : goal.returns-in-None-clause-tree
returns-in-None-clause-tree g c = λ events told.
    subst (λ (root : Option RootItem). IsQuotaTreeOf c.args.superblock.now (content events) root None)
    (sym c.in-None.is) tt
