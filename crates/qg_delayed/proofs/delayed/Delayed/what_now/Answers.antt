use Rattle.std.proofs.Common.{Option, ap, sym, ◌∙◌}
use Rattle.qg_refs.specs.Book.{what_in}
use Rattle.qg_delayed.specs.declared.entry.Entry.{Entry}
use Rattle.qg_delayed.specs.Merged.{merged_in}
use Rattle.qg_delayed.proofs.Entries.{merged_known}
use Rattle.qg_delayed.proofs.delayed.Delayed.what_now.Goals as goal

pub returns : goal.returns
returns c below fits =
    let at = c.args.at in
    c.what.ensures
    ∙ sym (ap (λ (o : Option Entry). what_in (merged_in (below at) o)) c.entry.ensures.found
    ∙ merged_known (below at) c.entry.result.now)
