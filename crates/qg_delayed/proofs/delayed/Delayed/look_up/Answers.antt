use Rattle.std.proofs.Common.{Option, sym, subst}
use Rattle.qg_delayed.specs.declared.head.Head.{Head}
use Rattle.qg_delayed.specs.Below.{HasTotal}
use Rattle.qg_delayed.proofs.Learning.{handed, head_sound, learns_first, memory_handed, told_first}
use Rattle.qg_delayed.proofs.delayed.Delayed.look_up.Goals as goal

pub returns-in_err-keep-clause-no_image : goal.returns-in_err-keep-clause-no_image
returns-in_err-keep-clause-no_image g c below holds fits =
    memory_handed c.from_residual-in_err-keep.result _
    (handed c.from_residual-in_err-keep.result _ c.from_residual-in_err-keep.ensures.1)
    (c.in_err-keep.ensures.no_image
    (subst (λ (h : Option Head). HasTotal h) (sym (c.in_ok-head.ensures.exact below holds))
    (head_sound below c.args.at fits.book)))

pub returns-clause-learns : goal.returns-clause-learns
returns-clause-learns g c =
    let kept = c.in_ok-keep.ensures.kept in
    learns_first c.args.self.now c.keep.new.self c.args.at c.in_ok-head.head kept.none kept.total kept.first

pub returns-clause-told : goal.returns-clause-told
returns-clause-told g c below holds fits =
    told_first below c.args.self.now c.keep.new.self c.args.at c.in_ok-head.head
    (c.in_ok-head.ensures.exact below holds) c.in_ok-keep.ensures.kept.first fits
