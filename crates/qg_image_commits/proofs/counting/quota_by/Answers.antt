use Rattle.std.proofs.Common.{ℕ, List, length, map, sym, ap, subst, ◌∙◌}
use Rattle.std.specs.List.Sorted.{IsStrictlyIncreasing}
use Rattle.qg_image.specs.Table.{keys_of}
use Rattle.qg_image.specs.declared.quota.Group.{Group}
use Rattle.qg_open_image.specs.FsLawsKeeping.{group_after}
use Rattle.qg_image_commits.specs.Planning.{counters_by}
use Rattle.qg_image_commits.proofs.counting.quota_by.Goals as goal

pub groups_now-requires-clause-ascending : goal.groups_now-requires-clause-ascending
groups_now-requires-clause-ascending c =
    subst (λ (groups : List (ℕ × Group)). IsStrictlyIncreasing (keys_of groups)) (sym c.as_slice.ensures)
    c.requires.ascending

pub groups_now-requires-clause-all : goal.groups_now-requires-clause-all
groups_now-requires-clause-all c =
    c.requires.all ∙ ap (λ (groups : List (ℕ × Group)). length groups) (sym c.as_slice.ensures)

pub returns : goal.returns
returns c =
    let groups = c.in_ok-groups_now.ensures
    ∙ ap (λ (entries : List (ℕ × Group)). map (group_after c.args.next (counters_by (keys_of entries)
    c.args.counts.now)) entries) c.as_slice.ensures in
    let pairs = c.in_ok-from_slice.ensures ∙ c.as_slice-2.ensures in
    λ i. record { groups = groups i; pairs = pairs i }
