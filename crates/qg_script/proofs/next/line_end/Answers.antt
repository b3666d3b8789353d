use Rattle.std.proofs.Common.{◌≤◌, arith}
use Rattle.std.proofs.lemmas.Grind.{common_steps}
use Rattle.qg_grammar.specs.ScriptText.{longest_script}
use Rattle.qg_script.proofs.Scanning.{line_found, rest_found, newline_held, held_found}
use Rattle.qg_script.proofs.next.line_end.Goals as goal

pub returns-in-Some-clause-line : goal.returns-in-Some-clause-line
returns-in-Some-clause-line g c =
    let found = rw c.within_limit-bytes.ensures.bytes at c.in-Some.ensures.found in
    line_found c.loop-end.invariant.scanned found

pub returns-in-Some-clause-held : goal.returns-in-Some-clause-held
returns-in-Some-clause-held g c = λ holds.
    let start = c.loop-end.invariant.held holds in
    let found = rw c.within_limit-bytes.ensures.bytes at c.in-Some.ensures.found in
    held_found _ _ _ _ found start.0 start.1

pub returns-then-branch-eq0-clause-line : goal.returns-then-branch-eq0-clause-line
returns-then-branch-eq0-clause-line g c =
    let none = rw c.within_limit-bytes.ensures.bytes at c.in_default.ensures.none in
    let more = rw c.if-branch-eq0.true at c.in_ok-fill.ensures.takes in
    let low : c.loop-end.feed.taken ≤ longest_script = grind arith in
    let some = rw c.within_limit-bytes.ensures.bytes at c.if-scanned-eq0.false in
    rw c.within_limit-bytes.ensures.bytes
    (rest_found c.loop-end.invariant.scanned none c.within_limit-bytes.ensures.within low more some)

pub loop-end-preserved : goal.loop-end-preserved
loop-end-preserved g c = record {
  scanned = grind (arith, common_steps);
  later = grind (arith, common_steps);
  held = λ holds.
      let start = c.loop-end.invariant.held holds in
      absurd (newline_held _ _ _ _ c.within_limit-bytes.ensures.bytes c.in_default.ensures.none start.0 start.1 holds);
}
