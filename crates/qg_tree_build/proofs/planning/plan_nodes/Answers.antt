use Rattle.std.proofs.Common.{◌≡◌, ◌≤◌, ℕ, List, length, arith, sym, ap, subst, ◌∙◌}
use Rattle.std.specs.Prelude.{◌==◌, true}
use Rattle.std.specs.List.{IsDistinct, list_all}
use Rattle.std.proofs.lemmas.Result.{IfOk-weaker}
use Rattle.qg_node.specs.declared.item.Item.{Item}
use Rattle.qg_space.specs.Holding.{is_free_slot}
use Rattle.qg_tree_build.specs.Building.{most_nodes}
use Rattle.qg_tree_build.proofs.Planned.{few-here, is-size, listed, planned}
use Rattle.qg_tree_build.proofs.planning.plan_nodes.Goals as goal

pub most_nodes-count-requires-clause-size : goal.most_nodes-count-requires-clause-size
most_nodes-count-requires-clause-size c =
    is-size c.args.land.now c.args.next c.requires.drafted c.nodesize-nodesize.result c.nodesize-nodesize.ensures

pub most_nodes-count-requires-clause-few : goal.most_nodes-count-requires-clause-few
most_nodes-count-requires-clause-few c =
    subst (λ (items : List Item). most_nodes c.nodesize-nodesize.result items ≤ 16128) (sym c.as_slice.ensures)
    (few-here c.args.land.now c.args.next c.requires.drafted c.nodesize-nodesize.result c.nodesize-nodesize.ensures
    c.args.items.now c.requires.slots)

pub build-requires-clause-size : goal.build-requires-clause-size
build-requires-clause-size c =
    is-size c.args.land.now c.args.next c.requires.drafted c.nodesize-nodesize.result c.nodesize-nodesize.ensures

pub build-requires-clause-room : goal.build-requires-clause-room
build-requires-clause-room c =
    let asked : c.most_nodes-count.result ≡ most_nodes c.nodesize-nodesize.result c.args.items.now =
    c.most_nodes-count.ensures
    ∙ ap (λ (items : List Item). most_nodes c.nodesize-nodesize.result items) c.as_slice.ensures in
    let all = listed c.args.land.now c.args.next c.requires.drafted c.nodesize-nodesize.result
    c.nodesize-nodesize.ensures c.args.items.now c.requires.slots c.most_nodes-count.result c.in_ok-slots.slots asked
    c.in_ok-slots.ensures.count in
    let same = ap (λ (slots : List ℕ). length slots) c.as_slice-2.ensures in
    omega (arith, all, same)

pub build-requires-clause-few : goal.build-requires-clause-few
build-requires-clause-few c =
    let asked : c.most_nodes-count.result ≡ most_nodes c.nodesize-nodesize.result c.args.items.now =
    c.most_nodes-count.ensures
    ∙ ap (λ (items : List Item). most_nodes c.nodesize-nodesize.result items) c.as_slice.ensures in
    let all = listed c.args.land.now c.args.next c.requires.drafted c.nodesize-nodesize.result
    c.nodesize-nodesize.ensures c.args.items.now c.requires.slots c.most_nodes-count.result c.in_ok-slots.slots asked
    c.in_ok-slots.ensures.count in
    let few = few-here c.args.land.now c.args.next c.requires.drafted c.nodesize-nodesize.result
    c.nodesize-nodesize.ensures c.args.items.now c.requires.slots in
    let same = ap (λ (slots : List ℕ). length slots) c.as_slice-2.ensures in
    omega (arith, all, same, few)

pub returns : goal.returns
returns c =
    let slots = c.as_slice-2.result.now in
    let free : list_all (is_free_slot c.args.land.now.space) slots ≡ true =
    subst (λ (ns : List ℕ). list_all (is_free_slot c.args.land.now.space) ns ≡ true) (sym c.as_slice-2.ensures)
    c.in_ok-slots.ensures.free in
    let apart : IsDistinct (λ a b. a == b) slots =
    subst (λ (ns : List ℕ). IsDistinct (λ a b. a == b) ns) (sym c.as_slice-2.ensures) c.in_ok-slots.ensures.apart in
    IfOk-weaker c.build.result _ _
    (λ built is. planned c.args.land.now c.args.next c.requires.drafted c.nodesize-nodesize.result
    c.nodesize-nodesize.ensures c.args.items.now c.requires.slots c.args.owner slots built.nodes built.root built.level
    free apart is)
    c.build.ensures
