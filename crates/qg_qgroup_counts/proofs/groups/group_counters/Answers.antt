use Rattle.std.proofs.Common.{ℕ, ◌+◌, ◌^◌, ◌<◌, true, List, length, map, get_or, sym, ap, subst, ◌∙◌, arith}
use Rattle.std.specs.List.{All, flat_map}
use Rattle.std.proofs.lemmas.List.{length-map, take_at}
use Rattle.qg_num.specs.declared.counters.Counters.{Counters}
use Rattle.qg_qgroup_counts.specs.Sets.{AreMembers, row_of}
use Rattle.qg_qgroup_counts.specs.Above.{list_at}
use Rattle.qg_qgroup_counts.specs.declared.groups.Tally.{Tally}
use Rattle.qg_qgroup_counts.specs.Portions.{sum_where, HasRoom}
use Rattle.qg_qgroup_counts.specs.Groups.{IsUnseen, HaveHits}
use Rattle.qg_qgroup_counts.proofs.Members.{members_below}
use Rattle.qg_qgroup_counts.proofs.Tallied.{TalliedFirst, tallied_none, tallied_room, tallied_more, tallied_all}
use Rattle.qg_qgroup_counts.proofs.Tallied.{named_within}
use Rattle.qg_qgroup_counts.proofs.groups.group_counters.Goals as goal

pub loop-set-init : goal.loop-set-init
loop-set-init c =
    tallied_none c.args.reached.now.sets.rows.items c.args.above.now c.deref-bytes-items.result.now c.args.groups
    c.in_ok-tallies.tallies.items (c.in_ok-tallies.ensures.items_if_clones_equal (λ y same. same))

pub named_by-requires : goal.named_by-requires
named_by-requires c =
    let rows = c.args.reached.now.sets.rows.items in
    let above = c.args.above.now in
    subst (All (λ member. member < length above)) (sym c.as_slice.ensures)
    (members_below (row_of rows c.new.result) (length above) c.in_ok-members.members c.in_ok-members.ensures)

pub hit_all-requires-clause-inside : goal.hit_all-requires-clause-inside
hit_all-requires-clause-inside c =
    let above = c.args.above.now in
    let many = ap (λ (list : List Tally). length list) c.as_mut_slice.ensures.value ∙ c.loop-set.invariant.all in
    let named = c.as_slice-in-loop-set.ensures ∙ c.in_ok-named.ensures in
    subst (λ n. All (λ group. group < n) c.as_slice-in-loop-set.result.now) (sym many)
    (subst (All (λ group. group < c.args.groups)) (sym named)
    (named_within above c.args.groups c.as_slice.result.now c.requires.places))

pub hit_all-requires-clause-unseen : goal.hit_all-requires-clause-unseen
hit_all-requires-clause-unseen c =
    subst (λ (now : List Tally). All (IsUnseen c.loop-set.set) now) (sym c.as_mut_slice.ensures.value)
    c.loop-set.invariant.seen

pub hit_all-requires-clause-room : goal.hit_all-requires-clause-room
hit_all-requires-clause-room c =
    let rows = c.args.reached.now.sets.rows.items in
    let sums = c.deref-bytes-items.result.now in
    let all =
    ap (λ (ns : List ℕ). sum_where (λ _. true) 0 ns) c.deref-bytes-items.ensures.value
    ∙ c.in_ok-sums.ensures.sums (λ _. true) in
    let small : sum_where (λ _. true) 0 sums < 2 ^ 64 = omega (arith, all, c.requires.small) in
    subst (λ (now : List Tally). All (λ (tally : Tally). HasRoom (get_or sums c.loop-set.set 0) tally.counters) now)
    (sym c.as_mut_slice.ensures.value)
    (tallied_room rows c.args.above.now sums c.args.groups c.loop-set.set c.loop-set.tallies.items c.loop-set-test.true
    small c.loop-set.invariant)

pub loop-set-preserved : goal.loop-set-preserved
loop-set-preserved c =
    let rows = c.args.reached.now.sets.rows.items in
    let above = c.args.above.now in
    let sums = c.deref-bytes-items.result.now in
    let n = c.loop-set.set in
    let bytes = get_or sums n 0 in
    let members = c.in_ok-members.members in
    let named = c.in_ok-named.named in
    let tallies = c.loop-set.tallies in
    let new = c.hit_all.new.tallies in
    let are =
    subst (λ (set : ℕ). AreMembers (row_of rows set) (length above) members) c.new.ensures c.in_ok-members.ensures in
    let is = c.in_ok-named.ensures ∙ ap (λ (list : List ℕ). flat_map (list_at above) list) c.as_slice.ensures in
    let of_names =
    subst (λ (list : List ℕ). HaveHits list n c.len.result bytes c.as_mut_slice.result.now new)
    c.as_slice-in-loop-set.ensures
    c.hit_all.ensures in
    let of_many =
    subst (λ many. HaveHits named n many bytes c.as_mut_slice.result.now new) c.len.ensures of_names in
    let hits =
    subst (λ (old : List Tally). HaveHits named n (length members) bytes old new) c.as_mut_slice.ensures.value
    of_many in
    let written = sym (take_at new _ tallies.len (hits.same ∙ sym tallies.ok.0)) in
    subst (TalliedFirst rows above sums c.args.groups (n + 1)) written
    (tallied_more rows above sums c.args.groups n members named tallies.items new c.loop-set-test.true c.requires.once
    are
    is c.loop-set.invariant hits)

pub returns-clause-all : goal.returns-clause-all
returns-clause-all c =
    ap (λ (list : List Counters). length list) c.in_ok-counters_in.ensures
    ∙ length-map c.as_slice-told.result.now (λ (tally : Tally). tally.counters)
    ∙ ap (λ (list : List Tally). length list) c.as_slice-told.ensures.value ∙ c.loop-set.invariant.all

pub returns-clause-each : goal.returns-clause-each
returns-clause-each c =
    let rows = c.args.reached.now.sets.rows.items in
    let sums = c.deref-bytes-items.result.now in
    let is =
    c.in_ok-counters_in.ensures
    ∙ ap (λ (list : List Tally). map (λ (tally : Tally). tally.counters) list) c.as_slice-told.ensures.value in
    tallied_all rows c.args.above.now c.args.portions.now sums c.args.groups c.loop-set.set c.loop-set.tallies.items
    c.in_ok-counters_in.field-0.items
    (λ test. ap (λ (ns : List ℕ). sum_where test 0 ns) c.deref-bytes-items.ensures.value
    ∙ c.in_ok-sums.ensures.sums test)
    c.loop-set-test.false is c.loop-set.invariant
