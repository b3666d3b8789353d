use Rattle.std.proofs.Common.{ℕ, List, ap, sym, ◌∙◌}
use Rattle.std.specs.List.{filter}
use Rattle.qg_quota.specs.QuotaKinds.{rises}
use Rattle.qg_quota.proofs.ToldBack.{quota-is, told-ascends, told-sound}
use Rattle.qg_quota.proofs.reading.read_live.Goals as goal

pub is_quota-sound-requires-clause-ascends : goal.is_quota-sound-requires-clause-ascends
is_quota-sound-requires-clause-ascends c =
    told-ascends c.args.parts.now c.in_ok-told.told c.in_ok-told.ensures c.requires

pub groups_of-requires : goal.groups_of-requires
groups_of-requires c = told-ascends c.args.parts.now c.in_ok-told.told c.in_ok-told.ensures c.requires

pub returns-clause-hierarchy : goal.returns-clause-hierarchy
returns-clause-hierarchy c =
    told-sound c.args.parts.now c.in_ok-told.told c.in_ok-told.ensures
    (told-ascends c.args.parts.now c.in_ok-told.told c.in_ok-told.ensures c.requires)
    c.args.live.now (sym c.is_quota-sound.ensures ∙ c.if-not-sound.false)
    (record { groups = c.in_ok-groups.groups; pairs = c.in_ok-pairs.pairs })
    c.in_ok-groups.ensures (c.in_ok-pairs.ensures
    ∙ ap (λ (list : List (ℕ × ℕ)). filter rises list) c.as_slice-relations.ensures.value)

pub returns-clause-told : goal.returns-clause-told
returns-clause-told c =
    quota-is c.args.parts.now c.in_ok-told.told (record { groups = c.in_ok-groups.groups; pairs = c.in_ok-pairs.pairs })
    c.in_ok-told.ensures
    c.in_ok-groups.ensures (c.in_ok-pairs.ensures
    ∙ ap (λ (list : List (ℕ × ℕ)). filter rises list) c.as_slice-relations.ensures.value)
