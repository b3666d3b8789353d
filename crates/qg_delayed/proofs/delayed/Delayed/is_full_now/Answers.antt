use Rattle.std.proofs.Common.{Option, ap, sym, ◌∙◌}
use Rattle.qg_refs.specs.Book.{full_in}
use Rattle.qg_delayed.specs.declared.entry.Entry.{Entry}
use Rattle.qg_delayed.specs.Merged.{merged_in}
use Rattle.qg_delayed.proofs.Entries.{merged_full}
use Rattle.qg_delayed.proofs.delayed.Delayed.is_full_now.Goals as goal

pub returns : goal.returns
returns c below fits =
    let at = c.args.at in
    sym (ap (λ (o : Option Entry). full_in (merged_in (below at) o)) c.entry.ensures.found
    ∙ merged_full (below at) c.entry.result.now c.entry.ensures.sound)
