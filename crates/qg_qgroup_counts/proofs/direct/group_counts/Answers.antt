use Rattle.std.proofs.Common.{◌≡◌, ℕ, ◌+◌, ◌*◌, ◌^◌, ◌<◌, true, List, Some, length, sym, ap, subst, ◌∙◌}
use Rattle.std.specs.Prelude.{slice_get}
use Rattle.std.specs.List.{All}
use Rattle.std.specs.List.Sorted.{IsStrictlyIncreasing}
use Rattle.std.specs.declared.vec.Vec.{Vec}
use Rattle.std.specs.declared.alloc.Global.{Global}
use Rattle.std.proofs.lemmas.List.{length-map}
use Rattle.qg_num.specs.declared.counters.Counters.{Counters}
use Rattle.qg_image.specs.Counts.{bytes_of}
use Rattle.qg_qgroup_counts.specs.declared.counting.Portion.{Portion}
use Rattle.qg_qgroup_counts.specs.Portions.{bytes_where}
use Rattle.qg_qgroup_counts.specs.Groups.{AreWithin, counted_for, is_above}
use Rattle.qg_qgroup_counts.specs.declared.surveyed.Surveyed.{Surveyed}
use Rattle.qg_qgroup_counts.specs.Surveyed.{links_in}
use Rattle.qg_qgroup_counts.specs.GroupsOf.{AreMemberships}
use Rattle.qg_qgroup_counts.specs.Direct.{AreGroupCounts}
use Rattle.qg_qgroup_counts.specs.Namers.{AreNamers}
use Rattle.qg_qgroup_counts.proofs.GroupsAbove.{above_once, above_within}
use Rattle.qg_qgroup_counts.proofs.PortionWeights.{all_bytes, all_inside, among, came, links_ascend}
use Rattle.qg_qgroup_counts.proofs.Surveying.{groups_direct}
use Rattle.qg_qgroup_counts.proofs.direct.group_counts.Goals as goal

pub extent_portions-requires : goal.extent_portions-requires
extent_portions-requires c =
    ap (λ (lists : List (List ℕ)). length lists) c.as_slice.ensures.value ∙ c.in_ok-namers.ensures.same

pub push_nodes-requires : goal.push_nodes-requires
push_nodes-requires c =
    let nodes = c.args.nodes.now in
    let told = c.in_ok-portions.ensures (links_in nodes) c.args.roots.now c.in_ok-reached.ensures
    (among nodes c.in_ok-namers.namers.items c.as_slice.result.now c.as_slice.ensures.value
    c.in_ok-namers.ensures.within)
    in
    told.0.same ∙ length-map nodes (λ (node : Surveyed). node.linked)

pub above_of-requires-clause-lowest : goal.above_of-requires-clause-lowest
above_of-requires-clause-lowest c = c.requires.lowest

pub above_of-requires-clause-groups : goal.above_of-requires-clause-groups
above_of-requires-clause-groups c = c.as_slice-2.ensures ∙ c.in_ok-groups.ensures

pub group_counters-requires : goal.group_counters-requires
group_counters-requires c =
    let nodes = c.args.nodes.now in
    let extents = c.args.extents.now in
    let hierarchy = c.args.hierarchy.now in
    let reached = c.extent_portions.new.reached in
    let rows = reached.sets.rows.items in
    let sets = reached.numbers.items in
    let first = c.in_ok-portions.portions.items in
    let told = c.in_ok-portions.ensures (links_in nodes) c.args.roots.now c.in_ok-reached.ensures
    (among nodes c.in_ok-namers.namers.items c.as_slice.result.now c.as_slice.ensures.value
    c.in_ok-namers.ensures.within)
    in
    let list = c.as_slice-3.ensures.value ∙ c.in_ok-push_nodes.ensures in
    let many = told.0.same ∙ length-map nodes (λ (node : Surveyed). node.linked) in
    let count = c.len-count.ensures ∙ ap (λ (groups : List ℕ). length groups) c.in_ok-groups.ensures in
    let above = c.as_slice-4.ensures.value in
    record {
      inside = subst (All (λ (portion : Portion). portion.set < length rows)) (sym list)
          (all_inside (links_in nodes) c.args.roots.now rows c.as_slice.result.now extents first c.args.nodesize sets
          told.1 told.0.inside);
      small = subst (λ n. n < 2 ^ 64)
          (sym (ap (bytes_where (λ set. true)) list
          ∙ all_bytes (links_in nodes) c.args.roots.now rows c.as_slice.result.now extents first c.args.nodesize sets
          told.1
          ∙ ap (λ n. c.args.nodesize * n + bytes_of extents) many)) c.requires.small;
      places = subst (λ n. AreWithin n c.as_slice-4.result.now) (sym count)
          (subst (AreWithin (length hierarchy.groups)) (sym above)
          (above_within c.args.roots.now hierarchy c.in_ok-above.above.items c.in_ok-above.ensures));
      once = subst (All IsStrictlyIncreasing) (sym above)
          (above_once c.args.roots.now hierarchy c.in_ok-above.above.items c.in_ok-above.ensures);
    }

pub returns-clause-all : goal.returns-clause-all
returns-clause-all c =
    let hierarchy = c.args.hierarchy.now in
    let count = c.len-count.ensures ∙ ap (λ (groups : List ℕ). length groups) c.in_ok-groups.ensures in
    came (λ (counters : Vec Counters Global). length counters.items ≡ c.len-count.result)
    (λ (counters : Vec Counters Global). length counters.items ≡ length hierarchy.groups) c.group_counters.result
    (λ counters same. same ∙ count) c.group_counters.ensures.all

pub returns-clause-direct : goal.returns-clause-direct
returns-clause-direct c = λ layout are.
    let nodes = c.args.nodes.now in
    let roots = c.args.roots.now in
    let extents = c.args.extents.now in
    let hierarchy = c.args.hierarchy.now in
    let reached = c.extent_portions.new.reached in
    let rows = reached.sets.rows.items in
    let first = c.in_ok-portions.portions.items in
    let above = c.as_slice-4.result.now in
    let told = c.in_ok-portions.ensures (links_in nodes) roots c.in_ok-reached.ensures
    (among nodes c.in_ok-namers.namers.items c.as_slice.result.now c.as_slice.ensures.value
    c.in_ok-namers.ensures.within)
    in
    let list = c.as_slice-3.ensures.value ∙ c.in_ok-push_nodes.ensures in
    let namers = subst (AreNamers nodes extents) (sym c.as_slice.ensures.value)
    (c.in_ok-namers.ensures.namers are.ascending)
    in
    let count = c.len-count.ensures ∙ ap (λ (groups : List ℕ). length groups) c.in_ok-groups.ensures in
    let memberships = subst (AreMemberships roots hierarchy) (sym c.as_slice-4.ensures.value) c.in_ok-above.ensures in
    came (λ (counters : Vec Counters Global). (group : ℕ) → group < c.len-count.result → slice_get counters.items group
    ≡ Some (counted_for rows (length above) c.as_slice-3.result.now (is_above above group)))
    (λ (counters : Vec Counters Global). AreGroupCounts layout hierarchy counters.items) c.group_counters.result
    (λ counters each.
    groups_direct layout roots nodes c.args.nodesize extents are (links_ascend nodes c.requires.ascending) reached
    told.0
    c.as_slice.result.now namers first told.1 hierarchy above memberships counters.items
    (λ place short.
    subst (λ (portions : List Portion). slice_get counters.items place
    ≡ Some (counted_for rows (length above) portions (is_above above place))) list
    (each place (subst (λ n. place < n) (sym count) short))))
    c.group_counters.ensures.each
