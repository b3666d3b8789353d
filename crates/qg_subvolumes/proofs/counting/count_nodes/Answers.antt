use Rattle.std.proofs.Common.{true, ◌≡◌, ℕ, ◌^◌, ◌-◌, Some, None, arith, sym, ap, ◌∙◌, min}
use Rattle.std.proofs.lemmas.Result.{IfOk-weaker}
use Rattle.qg_image.specs.declared.expected.Expected.{Expected}
use Rattle.qg_image.specs.State.{State, has_subvolume}
use Rattle.qg_image.specs.Walk.{root_expected}
use Rattle.qg_machine.specs.Refusals.{nodes_reached, root_level}
use Rattle.qg_node_alloc.proofs.Editing.{ArePlaced-drafted}
use Rattle.qg_tree_read.specs.Tree.{Root}
use Rattle.qg_tree_backrefs.specs.declared.tree_refs.TreeRefs.{TreeRefs}
use Rattle.qg_shared_trees.specs.ForestStanding.{HoldsState, tree_of}
use Rattle.qg_subvolumes.specs.Counting.{LeadsToBranch, TellsNodes, node_count_below}
use Rattle.qg_subvolumes.proofs.Stepping.{edit-still, rests-read}
use Rattle.qg_subvolumes.proofs.WayToRoot.{few-held, root-count, root-leads, tells-held}
use Rattle.qg_subvolumes.proofs.counting.count_nodes.Given.{Over}
use Rattle.qg_subvolumes.proofs.counting.count_nodes.Goals as goal
use Rattle.qg_subvolumes.proofs.counting.count_nodes.Goals.{After-count_under}

pub count_under-requires : goal.count_under-requires
count_under-requires g c = record {
  readable = record {
    backed = c.requires.editable.backed;
    placed = ArePlaced-drafted c.args.land.now c.args.tree.now.next (g.D.Disk.size c.args.disk.now)
        c.requires.editable.room c.requires.editable.drafted;
  };
  levelled = ap (λ (e : Expected). e.level) c.way.ensures.expected
      ∙ sym (ap (λ (n : ℕ). Some n) c.height.ensures);
}

module _ (g : Over) (c : After-count_under g) (state : State) (book : TreeRefs)
    (holds : HoldsState c.args.land.now (g.D.Disk.history c.args.disk.now) book state)
    (has : has_subvolume state c.args.tree.now.owner ≡ true)
    (same : c.args.tree.now ≡ tree_of state c.args.tree.now.owner) where
  tells : TellsNodes c.args.land.now.blocks.draft (g.D.Disk.history c.args.disk.now) state
  tells =
      tells-held c.args.land.now (g.D.Disk.history c.args.disk.now) book state holds c.requires.editable.drafted.sizes

  height : c.height.result ≡ root_level state c.args.tree.now.owner
  height = c.height.ensures ∙ ap (λ (root : Root). root.height) same

  leads : LeadsToBranch state c.height.result c.way.result
  leads =
      root-leads c.args.land.now (g.D.Disk.history c.args.disk.now) book state holds c.requires.editable.drafted.sizes
      c.args.tree.now.owner has c.height.result c.way.result height
      (c.way.ensures.address ∙ ap (λ (root : Root). root.address) same)
      (c.way.ensures.expected ∙ ap (λ (n : ℕ). root_expected (Some n) None) (sym c.height.ensures))

  below : node_count_below state c.height.result c.way.result.address ≡ nodes_reached state c.args.tree.now.owner
  below =
      root-count c.args.land.now (g.D.Disk.history c.args.disk.now) book state holds c.requires.editable.drafted.sizes
      c.args.tree.now.owner has c.height.result c.way.result.address height
      (c.way.ensures.address ∙ ap (λ (root : Root). root.address) same)

pub returns-clause-counted : goal.returns-clause-counted
returns-clause-counted g c state book holds has same =
    let at = (goal.at.returns-clause-counted g c).After-count_under in
    let few = few-held c.args.land.now (g.D.Disk.history c.args.disk.now) book state holds
    c.requires.editable.drafted.sizes c.args.tree.now.owner in
    IfOk-weaker c.count_under.result
    (λ (count : ℕ). count ≡ min (node_count_below state c.height.result c.way.result.address) (2 ^ 64 - 1))
    (λ (count : ℕ). count ≡ nodes_reached state c.args.tree.now.owner)
    (λ count is. omega (arith, is, below g at state book holds has same, few))
    (c.count_under.ensures.counted state (tells g at state book holds has same) (leads g at state book holds has same))

pub returns-clause-sound : goal.returns-clause-sound
returns-clause-sound g c state book events told holds has same =
    let at = (goal.at.returns-clause-sound g c).After-count_under in
    c.count_under.ensures.sound state (ap (λ (root : Root). root.next) same) (tells g at state book holds has same)
    (leads g at state book holds has same)

pub returns-clause-reads : goal.returns-clause-reads
returns-clause-reads g c state book holds has same =
    let at = (goal.at.returns-clause-reads g c).After-count_under in
    let own = c.count_under.ensures.reads state (tells g at state book holds has same)
    (leads g at state book holds has same) in
    omega (arith, own, below g at state book holds has same)

pub returns-clause-editable : goal.returns-clause-editable
returns-clause-editable g c =
    let rests = rests-read c.args.land.now c.count_under.new.blocks (g.D.Disk.history c.count_under.new.disk)
    c.args.tree.now.next c.count_under.ensures.read.draft c.count_under.ensures.read.bound
    c.count_under.ensures.readable.backed c.requires.editable.drafted in
    edit-still c.args.land.now (record c.args.land.now { blocks = c.count_under.new.blocks })
    (g.D.Disk.history c.args.disk.now) (g.D.Disk.history c.count_under.new.disk) (g.D.Disk.size c.args.disk.now)
    (g.D.Disk.size c.count_under.new.disk) c.args.tree.now.next c.requires.editable c.count_under.ensures.read.size
    rests

pub returns-clause-stops : goal.returns-clause-stops
returns-clause-stops g c = c.count_under.ensures.stops
