use Rattle.std.proofs.Common.{ℕ, ◌+◌, ◌*◌, ◌<◌, ◌^◌, List, map, length, refl, sym, ap, subst, ◌∙◌}
use Rattle.std.proofs.lemmas.Result.{IfOk-weaker}
use Rattle.qg_num.specs.declared.counters.Counters.{Counters}
use Rattle.qg_image.specs.declared.element.Element.{Element}
use Rattle.qg_image.specs.Counts.{bytes_of}
use Rattle.qg_image.specs.State.{layout_of}
use Rattle.qg_extents.specs.Table.{IsTable}
use Rattle.qg_refs.specs.declared.kept.Kept.{Kept as Reference}
use Rattle.qg_image_commits.specs.Planning.{root_of_tree}
use Rattle.qg_image_commits.proofs.ByNumber.{roots-are}
use Rattle.qg_image_commits.proofs.Cleaned.{held-now}
use Rattle.qg_image_commits.proofs.Counters.{asked-now, small-now}
use Rattle.qg_image_commits.proofs.GroupCounts.{roots-low}
use Rattle.qg_image_commits.proofs.OnOff.{as-many, never-off, none-off, off-is, tracked-counts}
use Rattle.qg_image_commits.proofs.counting.counts_of.Goals as goal

-- ---- quota is off

pub returns-in_default-clause-all : goal.returns-in_default-clause-all
returns-in_default-clause-all c =
    ap (λ (counts : List Counters). length counts) c.new.ensures.items
    ∙ none-off c.args.kept.now.quota (off-is c.args.kept.now.quota c.in_default.is)

pub returns-in_default-clause-direct : goal.returns-in_default-clause-direct
returns-in_default-clause-direct c = λ state history bytes names quota fits keeps are told on.
    absurd (never-off c.args.kept.now.quota quota (off-is c.args.kept.now.quota c.in_default.is) on)

-- ---- what is asked

pub group_counts-requires-clause-ascending : goal.group_counts-requires-clause-ascending
group_counts-requires-clause-ascending c = c.requires.order.ascending

pub group_counts-requires-clause-small : goal.group_counts-requires-clause-small
group_counts-requires-clause-small c =
    let kept = c.args.kept.now in
    let nodes = length c.args.nodes.now in
    let runs = c.as_slice-2.ensures ∙ c.in_ok-runs.ensures in
    subst (λ (extents : List Element). kept.superblock.nodesize * nodes + bytes_of extents < 2 ^ 64) (sym runs)
    (subst (λ (bytes : ℕ). kept.superblock.nodesize * nodes + bytes < 2 ^ 64) c.taken_bytes-bytes.ensures.bytes
    (small-now kept c.requires.fitted kept.superblock.nodesize nodes c.taken_bytes-bytes.result refl
    c.requires.order.few c.taken_bytes-bytes.ensures.most))

pub group_counts-requires-clause-lowest : goal.group_counts-requires-clause-lowest
group_counts-requires-clause-lowest c =
    roots-low c.args.trees.now c.as_slice.result.now (c.as_slice.ensures ∙ c.in_ok-roots.ensures) c.requires.lowest

-- ---- what is counted

pub returns-clause-all : goal.returns-clause-all
returns-clause-all c =
    IfOk-weaker c.group_counts.result _ _
    (λ counts many. as-many c.args.kept.now.quota c.in-Some.state (length counts.items) c.in-Some.is
    c.requires.fitted.tracked many) c.group_counts.ensures.all

pub returns-clause-direct : goal.returns-clause-direct
returns-clause-direct c = λ state history bytes names quota fits keeps are told on.
    let kept = c.args.kept.now in
    let table = subst (λ (book : List (ℕ × Reference)). IsTable book) c.refs.ensures c.len-ascending.ensures.table in
    let held = held-now kept history bytes state names fits table keeps in
    let roots = c.as_slice.ensures ∙ c.in_ok-roots.ensures ∙ ap (map root_of_tree) are ∙ roots-are state held.numbers in
    let asked = asked-now kept history bytes state names fits table keeps
    (record { slots = c.taken_slots-slots.ensures.each; runs = c.taken_bytes-bytes.ensures.apart })
    c.as_slice.result.now c.args.nodes.now kept.superblock.nodesize c.as_slice-2.result.now roots told refl
    (c.as_slice-2.ensures ∙ c.in_ok-runs.ensures) in
    IfOk-weaker c.group_counts.result _ _
    (λ counts direct. tracked-counts (layout_of state) kept.quota c.in-Some.state quota counts.items c.in-Some.is
    c.requires.fitted.tracked on direct) (c.group_counts.ensures.direct (layout_of state) asked)
