use Rattle.std.proofs.Common.{◌≡◌, ◌<◌, ◌≤◌, ◌∙◌, arith}
use Rattle.qg_generator.proofs.OfKind.{of_kind, kind-write, kind-clone, kind-truncate, kind-unlink, kind-snap}
use Rattle.qg_generator.proofs.OfKind.{kind-delete, kind-assign, kind-limit, kind-commit}
use Rattle.qg_generator.proofs.draws.Draws.line.Goals as goal

pub returns-in-0-to-6 : goal.returns-in-0-to-6
returns-in-0-to-6 c =
    let below : c.below.result < 7 = omega arith in
    of_kind c.args.self.now c.below.result c.below.new.self c.below.ensures.value c.below.ensures.state
    (kind-write c.below.result c.below.new.self below ∙ c.write.ensures)

pub returns-in-7 : goal.returns-in-7
returns-in-7 c =
    let above : 7 ≤ c.below.result = omega arith in
    let below : c.below.result < 9 = omega arith in
    of_kind c.args.self.now c.below.result c.below.new.self c.below.ensures.value c.below.ensures.state
    (kind-clone c.below.result c.below.new.self above below ∙ c.clone_range.ensures)

pub returns-in-9 : goal.returns-in-9
returns-in-9 c =
    of_kind c.args.self.now c.below.result c.below.new.self c.below.ensures.value c.below.ensures.state
    (kind-truncate c.below.result c.below.new.self c.in-9.is ∙ c.truncate.ensures)

pub returns-in-10 : goal.returns-in-10
returns-in-10 c =
    of_kind c.args.self.now c.below.result c.below.new.self c.below.ensures.value c.below.ensures.state
    (kind-unlink c.below.result c.below.new.self c.in-10.is ∙ c.unlink.ensures)

pub returns-in-11 : goal.returns-in-11
returns-in-11 c =
    of_kind c.args.self.now c.below.result c.below.new.self c.below.ensures.value c.below.ensures.state
    (kind-snap c.below.result c.below.new.self c.in-11.is ∙ c.snap.ensures)

pub returns-in-12 : goal.returns-in-12
returns-in-12 c =
    of_kind c.args.self.now c.below.result c.below.new.self c.below.ensures.value c.below.ensures.state
    (kind-delete c.below.result c.below.new.self c.in-12.is ∙ c.delete.ensures)

pub returns-in-13 : goal.returns-in-13
returns-in-13 c =
    of_kind c.args.self.now c.below.result c.below.new.self c.below.ensures.value c.below.ensures.state
    (kind-assign c.below.result c.below.new.self c.in-13.is ∙ c.assign.ensures)

pub returns-in-14 : goal.returns-in-14
returns-in-14 c =
    of_kind c.args.self.now c.below.result c.below.new.self c.below.ensures.value c.below.ensures.state
    (kind-limit c.below.result c.below.new.self c.in-14.is ∙ c.limit.ensures)

pub returns-in_default : goal.returns-in_default
returns-in_default c =
    let last : c.below.result ≡ 15 = omega arith in
    of_kind c.args.self.now c.below.result c.below.new.self c.below.ensures.value c.below.ensures.state
    (kind-commit c.below.result c.below.new.self last)
