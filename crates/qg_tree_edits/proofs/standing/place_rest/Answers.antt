use Rattle.std.proofs.Common.{◌≡◌, ℕ, ap, refl, rules, subst, sym, ◌∙◌}
use Rattle.qg_node.specs.declared.node.Node.{Node}
use Rattle.qg_node.specs.Nodes.{header_of}
use Rattle.qg_node.specs.NodeText.{IsNode}
use Rattle.qg_node_alloc.specs.Changes.{Makes}
use Rattle.qg_node_alloc.specs.Calls.{LeavesBe}
use Rattle.qg_node_alloc.specs.Land.{IsDrafted}
use Rattle.qg_blocks.proofs.Stopping.{stops-err}
use Rattle.qg_tree_edits.specs.Editing.{with_owner}
use Rattle.qg_tree_edits.proofs.Placed.{Moves-made, StandsInstead-made}
use Rattle.qg_tree_edits.proofs.PlacedBehind.{IsNode-with_owner, with_owner-generation, with_owner-level}
use Rattle.std.proofs.lemmas.Result.{err_from_is_err_and}
use Rattle.qg_tree_edits.specs.declared.instead.Instead.{Instead}
use Rattle.qg_tree_edits.proofs.Rejoined.{unbroken-other}
use Rattle.qg_tree_edits.proofs.standing.place_rest.Goals as goal

-- ---- what was cut off may be written, whoever owns it

generation_of_put : (owner generation : ℕ) (node put : Node) → put ≡ with_owner owner node
    → (header_of node).generation ≡ generation → (header_of put).generation ≡ generation
generation_of_put owner generation node put is dated =
    ap (λ (n : Node). (header_of n).generation) is ∙ with_owner-generation owner node ∙ dated

pub make_node-requires-clause-ready : goal.make_node-requires-clause-ready
make_node-requires-clause-ready g c =
    let dated = generation_of_put c.owner.result c.args.tree.now.next c.in-Some.node c.owned_by.result
    c.owned_by.ensures
    (rw c.in-Some.is at c.requires.rest.ready).2 in
    record {
      backed = c.requires.editable.backed;
      drafted = subst (λ (n : ℕ). IsDrafted c.args.land.now n) (sym dated) c.requires.editable.drafted;
      slots = search rules;
    }

pub make_node-requires-clause-sound : goal.make_node-requires-clause-sound
make_node-requires-clause-sound g c =
    let nodesize = c.args.land.now.space.sizes.nodesize in
    let ready = rw c.in-Some.is at c.requires.rest.ready in
    subst (λ (n : Node). IsNode nodesize n) (sym c.owned_by.ensures)
    (IsNode-with_owner nodesize c.owner.result c.in-Some.node ready.0)

-- ---- it gets a place

pub returns-in_err-more-in-Some-clause-rests : goal.returns-in_err-more-in-Some-clause-rests
returns-in_err-more-in-Some-clause-rests g c =
    let dated = generation_of_put c.owner.result c.args.tree.now.next c.in-Some.node c.owned_by.result
    c.owned_by.ensures
    (rw c.in-Some.is at c.requires.rest.ready).2 in
    subst (λ (n : ℕ). LeavesBe c.args.land.now c.make_node.new.land (g.D.Disk.history c.args.disk.now)
    (g.D.Disk.history c.make_node.new.disk) (g.D.Disk.size c.args.disk.now) (g.D.Disk.size c.make_node.new.disk) n)
    dated c.make_node.ensures.rests

pub returns-in_ok-more-in-Some-clause-placed : goal.returns-in_ok-more-in-Some-clause-placed
returns-in_ok-more-in-Some-clause-placed g c =
    let old = c.args.land.now in
    let new = c.make_node.new.land in
    let owner = c.args.tree.now.owner in
    let next = c.args.tree.now.next in
    let level = c.args.level in
    let more = c.in_ok-more-in-Some.more in
    let node = c.in-Some.node in
    let drafted = c.requires.editable.drafted in
    let ready = rw c.in-Some.is at c.requires.rest.ready in
    let owned : c.owned_by.result ≡ with_owner owner node =
    c.owned_by.ensures ∙ ap (λ (n : ℕ). with_owner n node) c.owner.ensures in
    let made = subst (λ (n : Node). Makes old new more n) owned c.in_ok-more-in-Some.ensures.made in
    let put = with_owner owner node in
    let levelled = with_owner-level owner node ∙ ready.1 in
    rw c.in-Some.is (record {
      stood = StandsInstead-made old new next level c.args.now more put drafted made levelled c.requires.rest.fresh;
      placed = (more, refl, made);
      whole = λ none. absurd cc;
      moves = Moves-made old new next level more put drafted made c.in_ok-more-in-Some.ensures.takes.count;
    })

pub returns-in_ok-more-in-Some-clause-rests : goal.returns-in_ok-more-in-Some-clause-rests
returns-in_ok-more-in-Some-clause-rests g c =
    let dated = generation_of_put c.owner.result c.args.tree.now.next c.in-Some.node c.owned_by.result
    c.owned_by.ensures
    (rw c.in-Some.is at c.requires.rest.ready).2 in
    subst (λ (n : ℕ). LeavesBe c.args.land.now c.make_node.new.land (g.D.Disk.history c.args.disk.now)
    (g.D.Disk.history c.make_node.new.disk) (g.D.Disk.size c.args.disk.now) (g.D.Disk.size c.make_node.new.disk) n)
    dated c.make_node.ensures.rests

pub returns-in_err-more-in-Some-clause-stops : goal.returns-in_err-more-in-Some-clause-stops
returns-in_err-more-in-Some-clause-stops g c =
    let sizes = c.args.land.now.blocks.draft.sizes in
    let bytes = g.D.Disk.size c.args.disk.now in
    stops-err ℕ c.from_residual.result c.in_err-more-in-Some.field-0.0 sizes sizes bytes bytes
    c.from_residual.ensures.1 refl refl c.in_err-more-in-Some.ensures.stops
