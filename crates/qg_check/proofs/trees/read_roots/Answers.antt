use Rattle.std.proofs.Common.{◌≡◌, ◌≤◌, ℕ, List, true, false, length, arith, refl, sym, ap, ◌∙◌, subst}
use Rattle.std.specs.Prelude.{nat_le}
use Rattle.std.proofs.lemmas.Bool.{le-leb, lt-leb}
use Rattle.qg_device.specs.History.{content}
use Rattle.qg_items.specs.declared.root.RootItem.{RootItem}
use Rattle.qg_image.specs.ItemMeaning.{root_part}
use Rattle.qg_image.specs.declared.tree.TreeKind.TheVariants.{Roots}
use Rattle.qg_image.specs.ImageState.{roots_in, subvolume_roots}
use Rattle.qg_image.specs.Verdict.{are_roots}
use Rattle.qg_tree_items.specs.Said.{AreSaid}
use Rattle.qg_tree_items.proofs.KeysOfParts.{roots_ascending}
use Rattle.qg_walk.specs.WalkKeeps.{AreHeld}
use Rattle.qg_check.specs.Editable.{AreSubvolumes}
use Rattle.qg_check.specs.Trees.{AreNamed}
use Rattle.qg_check.proofs.Passing.{subvolumes_fit}
use Rattle.qg_check.proofs.Said.{roots_read}
use Rattle.qg_check.proofs.Staging.{fails_handed, tells_first}
use Rattle.qg_super.specs.SuperText.{sizes_of}
use Rattle.qg_check.proofs.SlotsOf.{slots_of_addresses}
use Rattle.qg_check.proofs.trees.read_roots.Goals as goal

pub returns-in_default-clause-failure : goal.returns-in_default-clause-failure
returns-in_default-clause-failure g c = λ events told.
    let walk = c.in_ok-walked.ensures.found events told in
    let super = c.args.superblock.now in
    let roots : roots_in super (content events) ≡ c.as_slice.result.now = roots_read super (content events) _ _ walk
    ∙ sym c.as_slice.ensures in
    let none : are_roots c.as_slice.result.now ≡ false = c.in_default.ensures.none in
    rw (walk.sound, roots, none) refl

-- the subvolumes that were taken from the roots
taken : (slice slice' parts subvolumes : List (ℕ × RootItem)) → slice ≡ parts → slice' ≡ parts
    → subvolumes ≡ subvolume_roots slice' → subvolume_roots slice ≡ subvolumes
taken slice slice' parts subvolumes a b is = ap subvolume_roots (a ∙ sym b) ∙ sym is

pub returns-then-len-gt-MOST_SUBVOLUMES-clause-failure : goal.returns-then-len-gt-MOST_SUBVOLUMES-clause-failure
returns-then-len-gt-MOST_SUBVOLUMES-clause-failure g c = λ events told.
    let walk = c.in_ok-walked.ensures.found events told in
    let super = c.args.superblock.now in
    let slice = c.as_slice.result.now in
    let subvolumes = c.in_ok-subvolumes.subvolumes in
    let roots : roots_in super (content events) ≡ c.as_slice.result.now = roots_read super (content events) _ _ walk
    ∙ sym c.as_slice.ensures in
    let all = taken slice c.as_slice-2.result.now c.in_ok-walked.walked.parts subvolumes c.as_slice.ensures
    c.as_slice-2.ensures c.in_ok-subvolumes.ensures in
    let many : nat_le (length c.in_ok-subvolumes.subvolumes) 4096 ≡ false =
    lt-leb (length c.in_ok-subvolumes.subvolumes) 4096
    (omega (arith, c.len.ensures, c.if-len-gt-MOST_SUBVOLUMES.true)) in
    rw (walk.sound, roots, c.in-Some.ensures.some.are, all, many) refl

pub returns-clause-failure : goal.returns-clause-failure
returns-clause-failure g c = λ events told.
    let walk = c.in_ok-walked.ensures.found events told in
    let super = c.args.superblock.now in
    let slice = c.as_slice.result.now in
    let subvolumes = c.in_ok-subvolumes.subvolumes in
    let roots : roots_in super (content events) ≡ c.as_slice.result.now = roots_read super (content events) _ _ walk
    ∙ sym c.as_slice.ensures in
    let all = taken slice c.as_slice-2.result.now c.in_ok-walked.walked.parts subvolumes c.as_slice.ensures
    c.as_slice-2.ensures c.in_ok-subvolumes.ensures in
    let few : nat_le (length c.in_ok-subvolumes.subvolumes) 4096 ≡ true =
    le-leb (length c.in_ok-subvolumes.subvolumes) 4096
    (omega (arith, c.len.ensures, c.if-len-gt-MOST_SUBVOLUMES.false)) in
    rw (walk.sound, roots, c.in-Some.ensures.some.are, all, few) refl

pub returns-clause-trees : goal.returns-clause-trees
returns-clause-trees g c = λ events told.
    let walk = c.in_ok-walked.ensures.found events told in
    let super = c.args.superblock.now in
    let slice = c.as_slice.result.now in
    let subvolumes = c.in_ok-subvolumes.subvolumes in
    let roots : roots_in super (content events) ≡ c.as_slice.result.now = roots_read super (content events) _ _ walk
    ∙ sym c.as_slice.ensures in
    let all = taken slice c.as_slice-2.result.now c.in_ok-walked.walked.parts subvolumes c.as_slice.ensures
    c.as_slice-2.ensures c.in_ok-subvolumes.ensures in
    let some = c.in-Some.ensures.some in
    record {
      named = subst (λ (list : List (ℕ × RootItem)). AreNamed list c.in-Some.named.extents c.in-Some.named.quotas
          c.in_ok-subvolumes.subvolumes) (sym roots) (record {
            are = some.are;
            extent_tree = some.extent_tree;
            quota_tree = some.quota_tree;
            all = all;
            few = omega (arith, c.len.ensures, c.if-len-gt-MOST_SUBVOLUMES.false);
          });
      placed = walk.kept;
    }

pub returns-clause-subvolumes : goal.returns-clause-subvolumes
returns-clause-subvolumes g c =
    let generation = c.args.superblock.now.generation in
    let slice = c.as_slice.result.now in
    let subvolumes = c.in_ok-subvolumes.subvolumes in
    let all = taken slice c.as_slice-2.result.now c.in_ok-walked.walked.parts subvolumes c.as_slice.ensures
    c.as_slice-2.ensures c.in_ok-subvolumes.ensures in
    let held = subst (λ (roots : List (ℕ × RootItem)). AreHeld Roots root_part generation roots)
    (sym c.as_slice.ensures) c.in_ok-walked.ensures.held in
    let ascending = roots_ascending slice (subst (λ (parts : List (ℕ × RootItem)). AreSaid root_part parts)
    (sym c.as_slice.ensures) c.in_ok-walked.ensures.ascending) in
    let few : length (subvolume_roots c.as_slice.result.now) ≤ 4096 =
    omega (arith, ap length all, c.len.ensures, c.if-len-gt-MOST_SUBVOLUMES.false) in
    subst (AreSubvolumes generation) all (subvolumes_fit generation slice held ascending c.in-Some.ensures.some.are few)

pub returns-in_err-walked-clause-failure : goal.returns-in_err-walked-clause-failure
returns-in_err-walked-clause-failure g c = λ events told.
    let fault = c.in_err-walked.field-0.0 in
    fails_handed c.from_residual.result fault _ c.from_residual.ensures.1
    (tells_first fault _ _ (c.in_err-walked.ensures.unsound events told))

pub returns-clause-slots : goal.returns-clause-slots
returns-clause-slots g c =
    slots_of_addresses (sizes_of c.args.superblock.now) c.in_ok-walked.walked.nodes c.in_ok-walked.ensures.slots
