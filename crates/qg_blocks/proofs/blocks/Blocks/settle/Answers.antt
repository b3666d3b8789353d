use Rattle.std.proofs.Common.{◌∙◌, sym, refl}
use Rattle.std.specs.Ordering.{nat_cmp}
use Rattle.std.specs.BTreeMap.{is_at}
use Rattle.qg_blocks.specs.NodesInMemory.{Draft}
use Rattle.qg_blocks.specs.NodesFound.{fresh_at}
use Rattle.qg_blocks.specs.contracts.blocks.Blocks.{the_view}
use Rattle.qg_blocks.proofs.Backing.{AreWritten-rest, none_either, IsBacked-fewer, StandsThere-first, IsNodeAt-first}
use Rattle.qg_blocks.proofs.blocks.Blocks.settle.Goals as goal

pub returns-in-Some-clause-backed : goal.returns-in-Some-clause-backed
returns-in-Some-clause-backed c history backed written =
    let held = the_view c.self.inside in
    let draft : Draft = record held.draft { fresh = c.pop_first.new.self.entries } in
    let stands = StandsThere-first held.draft draft history c.in-Some.address c.in-Some.node c.in-Some.ensures.removal
    (rw (sym c.self.view_is) at written) in
    let kept = IsNodeAt-first held.draft draft history c.in-Some.address c.in-Some.node c.in-Some.ensures.removal
    (rw (sym c.self.view_is) at written) in
    c.keep.ensures.backed history (rw c.new.ensures (c.in-Some.ensures.updates.1)) (rw c.new.ensures kept)
    (rw c.new.ensures stands)
    (IsBacked-fewer held (record held { draft = draft }) history refl
    (λ q none. c.in-Some.ensures.updates.0 q
    ∙ none_either (is_at (nat_cmp c.in-Some.address) q) (fresh_at held.draft q) none) (λ e here. here)
    (rw (sym c.self.view_is) at backed))

pub returns-in-Some-clause-written : goal.returns-in-Some-clause-written
returns-in-Some-clause-written c history written =
    let held = the_view c.self.inside in
    let draft : Draft = record held.draft { fresh = c.pop_first.new.self.entries } in
    rw c.keep.ensures.draft (AreWritten-rest held.draft draft history c.in-Some.address c.in-Some.ensures.updates.0 refl
    (rw (sym c.self.view_is) at written))
