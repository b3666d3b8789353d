use Rattle.std.proofs.Common.{◌≡◌, ℕ, List, ap, ◌∙◌}
use Rattle.qg_num.specs.declared.counters.Counters.{Counters}
use Rattle.qg_image.specs.declared.quota.Group.{Group}
use Rattle.qg_image.specs.Members.{Hierarchy}
use Rattle.qg_qgroups.specs.Groups.{groups_above}
use Rattle.qg_qgroups.specs.Limit.{first_over_of}
use Rattle.qg_qgroups.specs.Judging.{counted_path}
use Rattle.qg_qgroups.specs.Tracked.{path_of}
use Rattle.qg_qgroups.proofs.Paths.{judged-by}
use Rattle.qg_qgroups.proofs.state.QuotaState.judge.Goals as goal

pub returns-clause-value : goal.returns-clause-value
returns-clause-value c pending holds =
    let state = c.args.self.now in
    let path = c.in-Ok.path in
    let number : c.from_number.result ≡ c.args.sub = c.from_number.ensures ∙ c.value.ensures in
    let above : path ≡ path_of state.quota c.args.sub =
    c.in-Ok.ensures.ok ∙ ap (λ (n : ℕ). groups_above state.hierarchy n) number
    ∙ ap (λ (h : Hierarchy). groups_above h c.args.sub) c.requires.tracked.same in
    let told : c.in_ok-counted.counted ≡ counted_path state.quota.groups path =
    c.in_ok-counted.ensures ∙ ap (λ (gs : List (ℕ × Group)). counted_path gs c.as_slice-2.result.now) c.as_slice.ensures
    ∙ ap (λ (p : List ℕ). counted_path state.quota.groups p) c.as_slice-2.ensures in
    c.answer_by.ensures.over ∙ c.over-found.ensures
    ∙ ap (λ (cs : List (ℕ × Counters)). first_over_of state.limits cs c.args.n) c.as_slice-3.ensures
    ∙ judged-by state pending c.args.sub c.args.n path c.in_ok-counted.counted c.requires.tracked c.requires.group holds
    told above
