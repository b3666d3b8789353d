use Rattle.std.proofs.Common.{ap, sym, ◌∙◌}
use Rattle.std.proofs.Common.{Option}
use Rattle.qg_refs.specs.Book.{references_in}
use Rattle.qg_delayed.specs.Below.{total_of}
use Rattle.qg_delayed.specs.declared.entry.Entry.{Entry}
use Rattle.qg_delayed.specs.Merged.{merged_in}
use Rattle.qg_delayed.proofs.Entries.{merged_total}
use Rattle.qg_delayed.proofs.delayed.Delayed.total_now.Goals as goal

pub returns-clause-merged : goal.returns-clause-merged
returns-clause-merged c below fits =
    let at = c.args.at in
    let entry = c.entry.result.now in
    sym (ap (λ (o : Option Entry). total_of (references_in (merged_in (below at) o))) c.entry.ensures.found
    ∙ merged_total (below at) entry c.entry.ensures.sound (fits.book.sound at)
    (fits.each at entry c.entry.ensures.found))
