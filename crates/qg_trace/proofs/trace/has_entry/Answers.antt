use Rattle.std.proofs.Common.{ℕ, Option, sym, ap, ◌∙◌}
use Rattle.std.specs.Prelude.{is_some}
use Rattle.std.specs.BTreeMap.{is_at}
use Rattle.std.specs.Map.{lookup}
use Rattle.std.specs.Ordering.{nat_cmp}
use Rattle.qg_trace.specs.declared.trace.TraceEntry.{TraceEntry}
use Rattle.qg_trace.proofs.Noted.{found_at}
use Rattle.qg_trace.proofs.trace.has_entry.Goals as goal

pub returns : goal.returns
returns c =
    let entries = c.args.noted.now.entries in
    c.contains_key.ensures ∙ ap (λ (n : ℕ). is_some (lookup (is_at (nat_cmp n)) entries)) c.value.ensures
    ∙ sym (ap (λ (one : Option TraceEntry). is_some one) (found_at c.args.at entries))
