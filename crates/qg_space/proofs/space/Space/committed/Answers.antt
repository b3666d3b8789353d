use Rattle.std.proofs.Common.{map, ap, ◌∙◌}
use Rattle.std.proofs.lemmas.List.{with_items_is}
use Rattle.qg_space.specs.Holding.{Holding}
use Rattle.qg_space.specs.Lying.{committed_slot}
use Rattle.qg_space.proofs.Free.{committed_holding}
use Rattle.qg_space.proofs.space.Space.committed.Goals as goal

pub returns : goal.returns
returns c =
    let s = c.self.inside in
    let edited = with_items_is s.slots c.commit_slots.new.slots (c.commit_slots.auto.slots ∙ c.deref_mut.ensures.len)
    ∙ c.commit_slots.ensures ∙ ap (map committed_slot) c.deref_mut.ensures.value in
    committed_holding s.sizes s.runs.items c.commit_runs.new.runs.items s.slots.items _ c.commit_runs.ensures.present
    c.commit_runs.ensures.held edited
    ∙ ap (λ (h : Holding). record h { held_runs = h.runs; held_slots = h.slots }) c.self.view_is
