use Rattle.std.proofs.Common.{◌≡◌, ℕ, List, [], Option, Some, None, arith, rules, sym, subst, ◌∙◌}
use Rattle.qg_device.specs.History.{History}
use Rattle.qg_node_alloc.specs.Calls.{LeavesBe}
use Rattle.qg_node_alloc.specs.Land.{IsDrafted}
use Rattle.qg_node_alloc.specs.Tellings.Telling.{Made}
use Rattle.qg_extents.specs.Table.{IsTable}
use Rattle.qg_tree_backrefs.proofs.RecordsFollowed.{BookGetsHeavier-step, fits-step}
use Rattle.qg_tree_backrefs.specs.Settled.{IsSettled}
use Rattle.qg_tree_backrefs.proofs.Stepping.{Follows-none}
use Rattle.qg_subvolumes.proofs.CreationCalls.{Calls, created-then, leaf-dated, leaf-low, leaf-made}
use Rattle.qg_subvolumes.proofs.Given.{step-one}
use Rattle.qg_subvolumes.proofs.KnownOnceMade.{goes-made}
use Rattle.qg_subvolumes.proofs.Putting.{fits-made}
use Rattle.std.proofs.Common.{ap, refl}
use Rattle.std.specs.Prelude.{Err}
use Rattle.qg_num.specs.declared.fault.BlockFault.{BlockFault}
use Rattle.qg_num.specs.declared.rule.Rule.TheVariants.{Refs}
use Rattle.qg_blocks.proofs.Stopping.{misfit-refs, stops-err, stops-misfit, stops-none}
use Rattle.qg_tree_read.specs.Tree.{Root}
use Rattle.qg_subvolumes.proofs.creating.create.Goals as goal

pub make_node-requires-clause-ready : goal.make_node-requires-clause-ready
make_node-requires-clause-ready g c = record {
  backed = c.requires.editable.backed;
  drafted = subst (λ (generation : ℕ). IsDrafted c.args.land.now generation)
      (sym (leaf-dated c.empty_leaf-node.result c.args.next c.args.sub 0 c.empty_leaf-node.ensures.leaf))
      c.requires.editable.drafted;
  slots = c.requires.slots;
}

pub make_node-requires-clause-sound : goal.make_node-requires-clause-sound
make_node-requires-clause-sound g c =
    leaf-made c.args.land.now c.empty_leaf-node.result c.args.next c.args.sub 0 c.requires.editable.drafted.sizes
    c.empty_leaf-node.ensures.leaf

pub returns-in_err-now-clause-rests : goal.returns-in_err-now-clause-rests
returns-in_err-now-clause-rests g c =
    subst (λ (generation : ℕ). LeavesBe c.args.land.now c.make_node.new.land (g.D.Disk.history c.args.disk.now)
    (g.D.Disk.history c.make_node.new.disk) (g.D.Disk.size c.args.disk.now) (g.D.Disk.size c.make_node.new.disk)
    generation)
    (leaf-dated c.empty_leaf-node.result c.args.next c.args.sub 0 c.empty_leaf-node.ensures.leaf)
    c.make_node.ensures.rests

pub returns-in_err-now-clause-reads : goal.returns-in_err-now-clause-reads
returns-in_err-now-clause-reads g c = let made = c.make_node.ensures.reads in omega (arith, made)

pub returns-in-Some-clause-sound : goal.returns-in-Some-clause-sound
returns-in-Some-clause-sound g c state events told_is holds unused =
    let book = c.args.book.now in
    let made = c.make_node.new.book in
    let now = c.in_ok-now.now in
    let first : IsTable book.refs = subst IsTable c.refs.ensures c.len-ascending.ensures.table in
    let step = step-one book made (Made now) (c.in_ok-now.ensures.told book [] (Follows-none book)) in
    let fits = fits-made state now c.args.land.now (g.D.Disk.history c.args.disk.now) book holds
    c.in_ok-now.ensures.made.puts.free made first step in
    let wrong : ◌≡◌ {A = Option ℕ} None (Some c.in-Some.address) = sym fits ∙ sym c.misfit.ensures ∙ c.in-Some.is in
    absurd cc

pub returns-in-Some-clause-rests : goal.returns-in-Some-clause-rests
returns-in-Some-clause-rests g c =
    subst (λ (generation : ℕ). LeavesBe c.args.land.now c.make_node.new.land (g.D.Disk.history c.args.disk.now)
    (g.D.Disk.history c.make_node.new.disk) (g.D.Disk.size c.args.disk.now) (g.D.Disk.size c.make_node.new.disk)
    generation)
    (leaf-dated c.empty_leaf-node.result c.args.next c.args.sub 0 c.empty_leaf-node.ensures.leaf)
    c.make_node.ensures.rests

pub returns-in-Some-clause-reads : goal.returns-in-Some-clause-reads
returns-in-Some-clause-reads g c = let made = c.make_node.ensures.reads in omega (arith, made)

pub returns-clause-created : goal.returns-clause-created
returns-clause-created g c state holds unused =
    let land = c.args.land.now in
    let new = c.make_node.new.land in
    let history = g.D.Disk.history c.args.disk.now in
    let book = c.args.book.now in
    let made = c.make_node.new.book in
    let now = c.in_ok-now.now in
    let leaf = c.empty_leaf-node.result in
    let empty = c.empty_leaf-node.ensures.leaf in
    let rests = c.make_node.ensures.rests.rests in
    let later : g.D.Disk.history c.make_node.new.disk ≡ history = c.make_node.ensures.rests.history in
    let fits : made.misfit ≡ None = sym c.misfit.ensures ∙ c.in_default.is in
    let calls : Calls land new history book made c.args.sub c.args.next now = record {
      tree = c.requires.book.0;
      to_come = sym c.requires.book.1;
      first = subst IsTable c.refs.ensures c.len-ascending.ensures.table;
      leaf = leaf;
      empty = empty;
      makes = c.in_ok-now.ensures.made;
      step = step-one book made (Made now) (c.in_ok-now.ensures.told book [] (Follows-none book));
      fits = fits;
      settled = λ none settled. subst (λ (h : History). IsSettled made new h) later
          (c.in_ok-now.ensures.book.settled (λ before. settled) fits);
      sizes = rests.sizes;
      runs = rests.runs;
      held_slots = rests.held_slots;
      held_runs = rests.held_runs;
      dated = leaf-low leaf c.args.next c.args.sub 0 empty c.empty_leaf-node.ensures.fits;
    } in
    created-then state c.args.sub c.args.next now land history book holds unused c.requires.editable.drafted.sizes
    c.in_ok-now.ensures.made.puts.free new made c.requires.number calls (g.D.Disk.history c.make_node.new.disk) later
    c.at.result c.at.ensures

pub returns-clause-begun : goal.returns-clause-begun
returns-clause-begun g c =
    let book = c.args.book.now in
    let made = c.make_node.new.book in
    let now = c.in_ok-now.now in
    let step = step-one book made (Made now) (c.in_ok-now.ensures.told book [] (Follows-none book)) in
    let fits : made.misfit ≡ None = sym c.misfit.ensures ∙ c.in_default.is in
    record {
      is = search rules;
      free = search rules;
      slots = c.in_ok-now.ensures.takes.count;
      book = goes-made book made now step (fits-step book made (Made now) step fits).1;
      heavier = BookGetsHeavier-step book made (Made now) step
          (subst IsTable c.refs.ensures c.len-ascending.ensures.table)
          (subst IsTable c.refs-2.ensures c.len-ascending_still.ensures.table)
          (fits-step book made (Made now) step fits).1;
    }

pub returns-clause-rests : goal.returns-clause-rests
returns-clause-rests g c =
    subst (λ (generation : ℕ). LeavesBe c.args.land.now c.make_node.new.land (g.D.Disk.history c.args.disk.now)
    (g.D.Disk.history c.make_node.new.disk) (g.D.Disk.size c.args.disk.now) (g.D.Disk.size c.make_node.new.disk)
    generation)
    (leaf-dated c.empty_leaf-node.result c.args.next c.args.sub 0 c.empty_leaf-node.ensures.leaf)
    c.make_node.ensures.rests

pub returns-clause-reads : goal.returns-clause-reads
returns-clause-reads g c = let made = c.make_node.ensures.reads in omega (arith, made)

-- ---- over any disk

pub returns-in_err-now-clause-stops : goal.returns-in_err-now-clause-stops
returns-in_err-now-clause-stops g c =
    let residual = c.from_residual in
    let sizes = c.args.land.now.blocks.draft.sizes in
    let bytes = g.D.Disk.size c.args.disk.now in
    let fault = c.in_err-now.field-0.0 in
    stops-err ℕ residual.result fault sizes sizes bytes bytes residual.ensures.1 refl refl
    c.in_err-now.ensures.stops

pub returns-in-Some-clause-stops : goal.returns-in-Some-clause-stops
returns-in-Some-clause-stops g c =
    stops-misfit {A = Root} (Err c.misfit_at.result) Refs c.in-Some.address c.args.land.now.blocks.draft.sizes
    (g.D.Disk.size c.args.disk.now) misfit-refs (ap (λ (f : BlockFault). Err f) c.misfit_at.ensures)
