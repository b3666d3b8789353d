use Rattle.std.proofs.Common.{ℕ, List, subst}
use Rattle.qg_delayed.specs.declared.entry.Entry.{Entry}
use Rattle.qg_delayed.specs.Below.{HasTotal}
use Rattle.qg_delayed.specs.Entry.{HasAt, entry_of}
use Rattle.qg_delayed.proofs.Books.{entries_put, updated_put}
use Rattle.qg_delayed.proofs.Learning.{entry_first, told_true}
use Rattle.qg_delayed.proofs.delayed.Delayed.keep.Goals as goal

pub invariant_of-self-2 : goal.invariant_of-self-2
invariant_of-self-2 c =
    let m = c.self.inside.entries in
    let n = c.insert.new.self in
    entries_put m.entries n.entries c.args.at (entry_of c.args.head) c.self.invariant c.in_ok-insert.ensures.ordered
    (subst (λ (e : Entry). HasAt m.entries n.entries c.args.at e) c.of.ensures
    (updated_put m n c.value.result c.args.at c.of.result c.value.ensures c.in_ok-insert.ensures.updates.0))
    (entry_first c.args.head (told_true c.has_total.result (HasTotal c.args.head) c.has_total.ensures
    c.if-not-has_total.false))

pub returns-clause-kept : goal.returns-clause-kept
returns-clause-kept c =
    let m = c.self.inside.entries in
    let n = c.insert.new.self in
    record {
      none = c.requires;
      total = told_true c.has_total.result (HasTotal c.args.head) c.has_total.ensures c.if-not-has_total.false;
      first = subst (λ (es : List (ℕ × Entry)). HasAt es n.entries c.args.at (entry_of c.args.head)) c.self.view_is
          (subst (λ (e : Entry). HasAt m.entries n.entries c.args.at e) c.of.ensures
          (updated_put m n c.value.result c.args.at c.of.result c.value.ensures c.in_ok-insert.ensures.updates.0));
    }
