use Rattle.std.proofs.Common.{List, ap, arith, ◌∙◌}
use Rattle.qg_refs.specs.Counts.{count_of}
use Rattle.qg_refs.specs.declared.counted.Counted.{Counted}
use Rattle.qg_extent_read.proofs.Entries.{list-again, list-none, list-put}
use Rattle.qg_extent_read.proofs.references.list_of.Goals as goal
use Rattle.qg_extent_read.proofs.references.list_of.Goals.{then-entry-gt0+then-count-eq0+in_ok-put, else-entry-gt0}
use Rattle.qg_extent_read.proofs.references.list_of.Goals.{else-entry-gt0-via-then-entry-gt0+else-count-eq0}
use Rattle.qg_extent_read.proofs.references.list_of.Goals.{else-entry-gt0-via-else-entry-gt0}

pub loop-entry-preserved : goal.loop-entry-preserved
loop-entry-preserved c once reference =
    let entries = c.args.counts.now in
    let entry = c.entry-item.result in
    let i = c.loop-entry.entry-index in
    let so_far = c.loop-entry.invariant once in
    elim c.if-entry-gt0.branch [
      | then-entry-gt0+then-count-eq0+in_ok-put w ↦
          ap (λ (xs : List Counted). count_of xs reference) w.list-is
          ∙ list-put entries c.loop-entry.list w.put.new.self i entry c.loop-entry-test.true c.entry-item.is so_far
          w.in_ok-put.ensures.ok reference
      | else-entry-gt0 w ↦
          ap (λ (xs : List Counted). count_of xs reference) w.list-is
          ∙ elim w.else-entry-gt0.branch [
            | else-entry-gt0-via-then-entry-gt0+else-count-eq0 w' ↦
                absurd (list-again entries c.loop-entry.list i entry c.loop-entry-test.true c.entry-item.is once so_far
                (λ none. omega (arith, w'.count.ensures, w'.if-count-eq0.false, none)))
            | else-entry-gt0-via-else-entry-gt0 w' ↦
                list-none entries c.loop-entry.list i entry c.loop-entry-test.true c.entry-item.is so_far
                (omega (arith, w'.if-entry-gt0.false)) reference
          ]
    ]
