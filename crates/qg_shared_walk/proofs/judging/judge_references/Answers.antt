use Rattle.std.proofs.Common.{ℕ, List, ◌++◌, map, sym, ap, subst, ◌∙◌, ◌≡◌}
use Rattle.std.specs.List.Sorted.{IsStrictlyIncreasing}
use Rattle.qg_items.specs.declared.root.RootItem.{RootItem}
use Rattle.qg_super.specs.declared.superblock.Super.{Super}
use Rattle.qg_image.specs.Owed.{Owing as OwedReference}
use Rattle.qg_image.specs.State.{layout_of}
use Rattle.qg_image.specs.ImageState.{state_in}
use Rattle.qg_image.specs.Verdict.{references_failure}
use Rattle.qg_owner_rule.specs.declared.linked.Linked.{Linked}
use Rattle.qg_qgroup_counts.specs.Surveyed.{links_in}
use Rattle.qg_backref_rule.specs.declared.thing.Thing.{Thing}
use Rattle.qg_backref_rule.specs.OwedLists.{kind_at}
use Rattle.qg_shared_walk.specs.declared.nodes.NodeRead.{NodeRead}
use Rattle.qg_shared_walk.specs.Gathered.{AreGathered, root_at}
use Rattle.qg_shared_walk.specs.Marked.{extent_thing, root_owing}
use Rattle.qg_shared_walk.proofs.Verdicts.{lists_are, rises, surveyed_tell}
use Rattle.qg_shared_walk.proofs.Marking.{AreMarks}
use Rattle.qg_shared_walk.proofs.Sorted.{lie_linked, surveyed_rise, surveyed_same}
use Rattle.qg_shared_walk.proofs.judging.judge_references.Goals as goal
use Rattle.qg_shared_walk.proofs.judging.judge_references.Goals.{In_ok-broken}

abbrev Rise : List NodeRead → Type 0
Rise nodes = IsStrictlyIncreasing (map (λ node. node.linked.address) nodes)

pub returns-in-Some-clause-failure : goal.returns-in-Some-clause-failure
returns-in-Some-clause-failure c = λ super image items roots are.
    let sorted = c.sort_nodes.new.nodes.items in
    let up =
    rises super image items c.args.nodes c.args.extents.now c.args.parts.now are sorted c.sort_nodes.ensures.moved
    c.sort_nodes.ensures.ascending in
    absurd (c.in-Some.ensures.some (subst Rise (sym c.as_slice.ensures.value) up))

pub references_failure-requires-clause-nodes : goal.references_failure-requires-clause-nodes
references_failure-requires-clause-nodes c =
    let up = subst Rise c.as_slice.ensures.value c.in_default.ensures.none in
    let surveyed = c.in_ok-lists.lists.surveyed.items in
    subst IsStrictlyIncreasing
    (sym (ap (map (λ (link : Linked). link.address)) (c.as_slice-5.ensures.value ∙ c.in_ok-links.ensures
    ∙ ap links_in c.as_slice-3.ensures.value) ∙ lie_linked surveyed))
    (surveyed_rise c.as_slice-2.result.now c.sort_nodes.new.nodes.items surveyed c.in_ok-lists.ensures.surveyed up)

-- the first broken rule on references is that of what was gathered
judged : (c : In_ok-broken) (super : Super) (image : List ℕ) (items : List (ℕ × RootItem))
    → c.args.roots.now ≡ map root_at items
    → AreGathered super image items c.args.nodes c.args.extents.now c.args.parts.now
    → c.in_ok-broken.broken ≡ references_failure super image (layout_of (state_in super image))
judged c super image items roots are =
    let nodes = c.sort_nodes.new.nodes.items in
    let full = c.as_slice-2.result.now in
    let parts = c.args.parts.now in
    let up = subst Rise c.as_slice.ensures.value c.in_default.ensures.none in
    let marks = subst (λ (full : List ℕ). AreMarks full parts) (sym c.as_slice-2.ensures.value)
    c.in_ok-full.ensures.marks in
    let there = λ (a : ℕ). ap (λ (things : List Thing). kind_at things a) c.as_slice-4.ensures.value
    ∙ c.in_ok-sort_things.ensures.same a in
    let owings = c.in_ok-add_roots.ensures
    ∙ ap (λ (own : List OwedReference). own ++ map root_owing c.args.roots.now) c.in_ok-lists.ensures.owings in
    let things = c.in_ok-add_extents.ensures ∙ ap (λ (own : List Thing). own ++ map extent_thing c.args.extents.now)
    c.in_ok-lists.ensures.things in
    let links = c.as_slice-5.ensures.value ∙ c.in_ok-links.ensures ∙ ap links_in c.as_slice-3.ensures.value in
    let lists =
    lists_are super image items c.args.nodes c.args.extents.now parts are nodes c.sort_nodes.ensures.moved up full marks
    c.args.roots.now c.add_roots.new.owings.items c.as_slice-4.result.now c.add_extents.new.things.items
    c.as_slice-5.result.now c.in_ok-lists.lists.surveyed.items roots owings things there c.in_ok-lists.ensures.surveyed
    links in
    c.in_ok-broken.ensures super image (layout_of (state_in super image)) are.told lists.0 lists.1

pub returns-in-Some-broken-clause-failure : goal.returns-in-Some-broken-clause-failure
returns-in-Some-broken-clause-failure c = λ super image items roots are.
    sym c.in-Some-broken.is
    ∙ judged (goal.at.returns-in-Some-broken-clause-failure c).In_ok-broken super image items roots are

pub returns-clause-failure : goal.returns-clause-failure
returns-clause-failure c = λ super image items roots are.
    sym c.in_default-broken.is
    ∙ judged (goal.at.returns-clause-failure c).In_ok-broken super image items roots are

pub returns-clause-surveyed : goal.returns-clause-surveyed
returns-clause-surveyed c = λ super image items roots are.
    let full = c.as_slice-2.result.now in
    let parts = c.args.parts.now in
    let up = subst Rise c.as_slice.ensures.value c.in_default.ensures.none in
    let marks = subst (λ (full : List ℕ). AreMarks full parts) (sym c.as_slice-2.ensures.value)
    c.in_ok-full.ensures.marks in
    surveyed_tell super image items c.args.nodes c.args.extents.now parts are c.sort_nodes.new.nodes.items
    c.sort_nodes.ensures.moved up full marks c.args.roots.now c.in_ok-lists.lists.surveyed.items
    c.in_ok-lists.ensures.surveyed roots c.requires.roots

pub returns-clause-ascending : goal.returns-clause-ascending
returns-clause-ascending c =
    let up = subst Rise c.as_slice.ensures.value c.in_default.ensures.none in
    surveyed_rise c.as_slice-2.result.now c.sort_nodes.new.nodes.items c.in_ok-lists.lists.surveyed.items
    c.in_ok-lists.ensures.surveyed up

pub returns-clause-same : goal.returns-clause-same
returns-clause-same c =
    surveyed_same c.as_slice-2.result.now c.args.nodes.nodes.items c.sort_nodes.new.nodes.items
    c.in_ok-lists.lists.surveyed.items c.in_ok-lists.ensures.surveyed c.sort_nodes.ensures.moved
