use Rattle.std.proofs.Common.{Option, ap, sym, ◌∙◌}
use Rattle.qg_refs.specs.Book.{references_in}
use Rattle.qg_refs.specs.Counts.{count_of}
use Rattle.qg_delayed.specs.declared.entry.Entry.{Entry}
use Rattle.qg_delayed.specs.Merged.{merged_in, now_or}
use Rattle.qg_delayed.proofs.Entries.{merged_count}
use Rattle.qg_delayed.proofs.delayed.Delayed.count_now.Goals as goal

pub returns-in-Some-clause-merged : goal.returns-in-Some-clause-merged
returns-in-Some-clause-merged c below fits =
    let at = c.args.at in
    let entry = c.entry.result.now in
    let x = c.args.reference.now in
    sym (ap (λ (o : Option Entry). count_of (references_in (merged_in (below at) o)) x) c.entry.ensures.found
    ∙ merged_count (below at) entry c.entry.ensures.sound (fits.book.sound at)
    (fits.each at entry c.entry.ensures.found) x
    ∙ ap (now_or (count_of (references_in (below at)) x)) (sym c.in-Some.ensures))
