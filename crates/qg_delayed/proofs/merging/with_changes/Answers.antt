use Rattle.std.proofs.Common.{List, subst}
use Rattle.qg_refs.specs.Counts.{IsRefList}
use Rattle.qg_delayed.specs.declared.change.Change.{Change}
use Rattle.qg_delayed.proofs.Joining.{HasChanges, list_made}
use Rattle.qg_delayed.proofs.merging.with_changes.Goals as goal

pub put_unchanged-requires-clause-changed : goal.put_unchanged-requires-clause-changed
put_unchanged-requires-clause-changed c =
    subst (λ (cs : List Change). HasChanges c.in_ok-list.list cs) c.as_slice.ensures.same c.in_ok-list.ensures

pub returns : goal.returns
returns c =
    list_made c.put_unchanged.new.list c.args.below.now c.args.changes.now
    (subst IsRefList c.as_slice-ascending.ensures.same c.as_slice-ascending.ensures.sound) c.requires
    c.in_ok-put_unchanged.ensures
