use Rattle.std.proofs.Common.{ℕ, sym, ap, ◌∙◌}
use Rattle.std.specs.BTreeMap.{insert_entry}
use Rattle.std.specs.Ordering.{nat_cmp}
use Rattle.std.proofs.lemmas.Bool.{cond-false}
use Rattle.qg_image.specs.Table.{has_key, with_value}
use Rattle.qg_trace.proofs.Noted.{put_at, trace_with}
use Rattle.qg_trace.proofs.trace.note.Goals as goal

pub returns-clause-ok : goal.returns-clause-ok
returns-clause-ok c =
    let entries = c.args.noted.now.entries in
    c.in_ok-insert.ensures.entries
    ∙ ap (λ (n : ℕ). insert_entry nat_cmp entries n c.args.entry) c.value.ensures
    ∙ put_at c.args.at c.args.entry entries
    ∙ sym (cond-false (has_key c.args.at entries) entries (with_value c.args.at c.args.entry entries)
    (sym c.has_entry.ensures ∙ c.if-has_entry.false))

pub returns-clause-sound : goal.returns-clause-sound
returns-clause-sound c =
    let entries = c.args.noted.now.entries in
    trace_with c.args.at c.args.entry entries c.insert.new.self.entries c.requires.sound c.requires.ascending
    (c.in_ok-insert.ensures.entries
    ∙ ap (λ (n : ℕ). insert_entry nat_cmp entries n c.args.entry) c.value.ensures
    ∙ put_at c.args.at c.args.entry entries)
    c.insert.ensures.ordered
