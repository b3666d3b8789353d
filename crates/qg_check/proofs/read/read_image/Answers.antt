use Rattle.std.proofs.Common.{◌≡◌, ◌≤◌, true, Some, sym, ap, ◌∙◌, subst}
use Rattle.qg_device.specs.History.{content}
use Rattle.qg_super.specs.declared.superblock.Super.{Super}
use Rattle.qg_super.specs.Places.{total_bytes}
use Rattle.qg_super.specs.SuperText.{is_super, sizes_of}
use Rattle.qg_check.specs.IsImage.{StandsFor}
use Rattle.qg_check.proofs.Editable.{read_editable, stale_editable}
use Rattle.qg_check.proofs.Staging.{tells_same, fails_handed}
use Rattle.qg_check.proofs.read.read_image.Goals as goal

-- ---- what is judged is fit

pub judge_trees-requires-clause-served : goal.judge_trees-requires-clause-served
judge_trees-requires-clause-served g c = c.in_ok-whole.ensures.fit.served

pub judge_trees-requires-clause-slots : goal.judge_trees-requires-clause-slots
judge_trees-requires-clause-slots g c = c.in_ok-whole.ensures.fit.nodes

pub judge_trees-requires-clause-parts : goal.judge_trees-requires-clause-parts
judge_trees-requires-clause-parts g c = c.in_ok-whole.ensures.fit.parts

pub judge_trees-requires-clause-subvolumes : goal.judge_trees-requires-clause-subvolumes
judge_trees-requires-clause-subvolumes g c = c.in_ok-whole.ensures.fit.subvolumes

pub judge_trees-requires-clause-tracked : goal.judge_trees-requires-clause-tracked
judge_trees-requires-clause-tracked g c = c.in_ok-whole.ensures.fit.tracked

-- ---- the verdict

pub returns-in_err-whole-clause-failure : goal.returns-in_err-whole-clause-failure
returns-in_err-whole-clause-failure g c = λ events told.
    fails_handed c.from_residual.result c.in_err-whole.field-0.0 _ c.from_residual.ensures.1
    (c.in_err-whole.ensures.failure events told)

pub returns-in_err-image-clause-failure : goal.returns-in_err-image-clause-failure
returns-in_err-image-clause-failure g c = λ events told.
    let fault = c.in_err-image.field-0.0 in
    let whole = c.in_ok-whole.ensures.whole events told in
    fails_handed c.from_residual-in_err-image.result fault _ c.from_residual-in_err-image.ensures.1
    (tells_same fault whole.left (c.in_err-image.ensures.failure (content events) whole.read))

pub returns-clause-failure : goal.returns-clause-failure
returns-clause-failure g c = λ events told.
    let whole = c.in_ok-whole.ensures.whole events told in
    whole.left ∙ c.in_ok-image.ensures.failure (content events) whole.read

-- ---- the image

pub returns-clause-image : goal.returns-clause-image
returns-clause-image g c = λ events told.
    let whole = c.in_ok-whole.ensures.whole events told in
    let kept = c.in_ok-image.ensures.image (content events) whole.read in
    record {
      sound = returns-clause-failure g c events told;
      chosen = whole.chosen ∙ ap (λ (s : Super). Some s) (sym kept.same);
      stale = whole.stale;
      kept = subst (λ (s : Super). StandsFor s (content events)
          (record c.in_ok-image.image { stale = c.in_ok-whole.whole.stale })) (sym kept.same)
          (record {
            same = kept.same;
            roots = kept.roots;
            quota = kept.quota;
            each = kept.each;
            others = kept.others;
            nodes = kept.nodes;
            ascending = kept.ascending;
            extents = kept.extents;
            recorded = kept.recorded;
            owed = kept.owed;
            agrees = kept.agrees;
            home = kept.home;
          });
    }

pub returns-clause-served : goal.returns-clause-served
returns-clause-served g c =
    subst (λ (s : Super). is_super s ≡ true) (sym c.in_ok-image.ensures.superblock) c.in_ok-whole.ensures.fit.superblock

pub returns-clause-editable : goal.returns-clause-editable
returns-clause-editable g c =
    let whole = c.in_ok-whole.whole in
    stale_editable c.in_ok-image.image whole.stale
    (read_editable whole.superblock whole.read c.in_ok-image.image c.in_ok-image.ensures.superblock
    c.in_ok-image.ensures.keeps c.in_ok-whole.ensures.fit)

pub returns-clause-inside : goal.returns-clause-inside
returns-clause-inside g c =
    subst (λ (s : Super). total_bytes (sizes_of s) ≤ g.D.Disk.size c.read_whole.new.disk)
    (sym c.in_ok-image.ensures.superblock) c.in_ok-whole.ensures.inside
