use Rattle.std.proofs.Common.{◌+◌, ◌-◌, ◌≤◌, length, Result, Ok, Err, arith}
use Rattle.std.specs.Prelude.{OnErr}
use Rattle.qg_script.proofs.Places.{fed-same, fed-more}
use Rattle.qg_script.proofs.feed.Feed.fill.Goals as goal

-- what holds is said of each error
on_err : {T E P : Type 0} (result : Result T E) → P → OnErr result P
on_err (Ok x) holds = tt
on_err (Err fault) holds = holds

pub returns-in_err-count-clause-err : goal.returns-in_err-count-clause-err
returns-in_err-count-clause-err g c =
    let was = c.self.inside in
    on_err c.from_residual-in_err-count.result
    (fed-same _ _ was.bytes.items _ _ was.handed was.filled _ _ c.self.view_is c.in_ok-self-inside.ensures.held
    c.take_between.ensures.before)

pub returns-clause-takes : goal.returns-clause-takes
returns-clause-takes g c =
    let was = c.self.inside in
    let now = c.take_between.new.bytes in
    let start = c.in_ok-self-inside.field-0 in
    let end = start + (was.filled - was.handed) in
    let bound : end + c.in_ok-count.count ≤ length now.items =
    omega (
      arith,
      now.ok.0,
      c.in_ok-count.ensures.bound,
      c.min-end.ensures,
      c.len.ensures,
      c.take_between.ensures.size,
    ) in
    fed-more _ _ was.bytes.items _ now.items was.handed was.filled start end _ _ _ c.self.view_is
    c.in_ok-self-inside.ensures.held c.take_between.ensures.before
    (omega arith) bound c.in_ok-count.ensures.taken c.in_ok-count.ensures.none_only_at_end
