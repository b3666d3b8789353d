use Rattle.std.proofs.Common.{◌≡◌, ℕ, List, [], Option, Some, None, arith, refl, rules, sym, ap, subst, ◌∙◌}
use Rattle.std.proofs.lemmas.Option.{same_Some}
use Rattle.qg_device.specs.History.{History}
use Rattle.qg_node.specs.declared.node.Node.{Node}
use Rattle.qg_node.specs.Nodes.{header_of}
use Rattle.qg_node.specs.NodeText.{IsNode}
use Rattle.qg_image.specs.Owed.{Owing}
use Rattle.qg_cow_refs.specs.Children.{keyed_children}
use Rattle.qg_node_alloc.specs.declared.ground.Ground.{Ground}
use Rattle.qg_node_alloc.specs.Land.{IsDrafted}
use Rattle.qg_node_alloc.specs.Tellings.{node_copy}
use Rattle.qg_node_alloc.specs.Tellings.Telling.{Made}
use Rattle.qg_node_alloc.proofs.Editing.{ArePlaced-drafted}
use Rattle.qg_node_alloc.proofs.Lands.{Rests-draft, node_copy-generation}
use Rattle.qg_node_alloc.proofs.Settling.{KeepsLevels-draft}
use Rattle.qg_extents.specs.Table.{IsTable, book_of}
use Rattle.qg_backref_rule.specs.OwedLists.{owings_told}
use Rattle.qg_tree_read.specs.Tree.{Root, super_of}
use Rattle.qg_tree_backrefs.proofs.RecordsFollowed.{fits-step}
use Rattle.qg_tree_edits.proofs.Rejoined.{unbroken-other}
use Rattle.qg_tree_backrefs.specs.Exchange.{CanGive, Gives}
use Rattle.qg_tree_backrefs.specs.Lasting.{settled_still}
use Rattle.qg_tree_backrefs.specs.Settled.{IsSettled}
use Rattle.qg_tree_backrefs.proofs.Stepping.{Follows-none}
use Rattle.qg_subvolumes.proofs.Done.{Calls, can-give-children, copied-then, generation-low, peeked-alone}
use Rattle.qg_subvolumes.proofs.Given.{step-one, unbroken-handed}
use Rattle.qg_subvolumes.proofs.Heavier.{heavier-then}
use Rattle.qg_subvolumes.proofs.KnownOnceMade.{goes-given}
use Rattle.qg_subvolumes.proofs.Putting.{fits-made}
use Rattle.qg_subvolumes.proofs.Source.{has-root, root-formed, root-told}
use Rattle.std.specs.Prelude.{Err}
use Rattle.qg_num.specs.declared.fault.BlockFault.{BlockFault}
use Rattle.qg_num.specs.declared.rule.Rule.TheVariants.{Refs}
use Rattle.qg_image.specs.declared.tree.TreeKind.TheVariants.{Files}
use Rattle.qg_blocks.specs.NodesInMemory.{Draft}
use Rattle.qg_blocks.proofs.Stopping.{misfit-refs, stops-err, stops-misfit, stops-none, stops-rule}
use Rattle.qg_tree_read.proofs.Stopping.{stops-visit}
use Rattle.qg_subvolumes.proofs.snapshots.snapshot.Goals as goal

pub visit-requires : goal.visit-requires
visit-requires g c = record {
  readable = record {
    backed = c.requires.editable.backed;
    placed = ArePlaced-drafted c.args.land.now c.args.source.now.next (g.D.Disk.size c.args.disk.now)
        c.requires.editable.room c.requires.editable.drafted;
  };
}

pub returns-in_err-visit-clause-sound : goal.returns-in_err-visit-clause-sound
returns-in_err-visit-clause-sound g c state events told_is holds has is unused =
    let land = c.args.land.now in
    let history = g.D.Disk.history c.args.disk.now in
    let source = c.args.source.now in
    let fault = c.in_err-visit.field-0.0 in
    let root = has-root state source.owner holds.whole has in
    let there = root-told state source.owner root land history c.args.book.now holds source is in
    let formed = root-formed state source.owner root land history c.args.book.now holds source is
    c.requires.editable.drafted.sizes in
    let sound = rw (c.way-way.ensures.address, c.way-way.ensures.expected) at c.in_err-visit.ensures.sound in
    unbroken-handed c.from_residual.result fault c.from_residual.ensures.1
    (unbroken-other (Unit {0}) Root fault (sound root.placed.node there formed))

pub returns-in_err-visit-clause-rests : goal.returns-in_err-visit-clause-rests
returns-in_err-visit-clause-rests g c = record {
  rests = Rests-draft c.args.land.now (record c.args.land.now { blocks = c.visit.new.blocks })
      (g.D.Disk.history c.visit.new.disk) c.args.source.now.next c.visit.ensures.read.draft c.visit.ensures.read.bound
      refl c.visit.ensures.readable.backed c.requires.editable.drafted;
  history = c.visit.ensures.read.history;
  size = c.visit.ensures.read.size;
}

pub returns-in_err-children-clause-rests : goal.returns-in_err-children-clause-rests
returns-in_err-children-clause-rests g c = record {
  rests = Rests-draft c.args.land.now (record c.args.land.now { blocks = c.visit.new.blocks })
      (g.D.Disk.history c.visit.new.disk) c.args.source.now.next c.visit.ensures.read.draft c.visit.ensures.read.bound
      refl c.visit.ensures.readable.backed c.requires.editable.drafted;
  history = c.visit.ensures.read.history;
  size = c.visit.ensures.read.size;
}

pub returns-in_err-node-clause-rests : goal.returns-in_err-node-clause-rests
returns-in_err-node-clause-rests g c = record {
  rests = Rests-draft c.args.land.now (record c.args.land.now { blocks = c.visit.new.blocks })
      (g.D.Disk.history c.visit.new.disk) c.args.source.now.next c.visit.ensures.read.draft c.visit.ensures.read.bound
      refl c.visit.ensures.readable.backed c.requires.editable.drafted;
  history = c.visit.ensures.read.history;
  size = c.visit.ensures.read.size;
}

pub make_node-requires-clause-ready : goal.make_node-requires-clause-ready
make_node-requires-clause-ready g c =
    let mid : Ground = record c.args.land.now { blocks = c.visit.new.blocks } in
    let rests = Rests-draft c.args.land.now mid (g.D.Disk.history c.visit.new.disk) c.args.source.now.next
    c.visit.ensures.read.draft c.visit.ensures.read.bound refl c.visit.ensures.readable.backed
    c.requires.editable.drafted in
    let dated = ap (λ n. (header_of n).generation) c.in_ok-node.ensures.copy
    ∙ node_copy-generation c.peek-root.result.now (header_of c.peek-root.result.now).address c.args.copy c.next.result
    ∙ c.next.ensures in
    record {
      backed = rests.backed;
      drafted = subst (λ (generation : ℕ). IsDrafted mid generation) (sym dated) rests.drafted;
      slots = c.requires.slots;
    }

pub returns-in_err-now-clause-reads : goal.returns-in_err-now-clause-reads
returns-in_err-now-clause-reads g c =
    let made = c.make_node.ensures.reads in
    let visited = c.visit.ensures.reads in
    omega (arith, made, visited)

pub returns-in-Some-clause-sound : goal.returns-in-Some-clause-sound
returns-in-Some-clause-sound g c state events told_is holds has is unused =
    let book = c.args.book.now in
    let made = c.make_node.new.book in
    let now = c.in_ok-now.now in
    let first : IsTable book.refs = subst IsTable c.refs.ensures c.len-ascending.ensures.table in
    let step = step-one book made (Made now) (c.in_ok-now.ensures.told book [] (Follows-none book)) in
    let fits = fits-made state now c.args.land.now (g.D.Disk.history c.args.disk.now) book holds
    c.in_ok-now.ensures.made.puts.free made first step in
    let wrong : ◌≡◌ {A = Option ℕ} None (Some c.in-Some.address) = sym fits ∙ sym c.misfit.ensures ∙ c.in-Some.is in
    absurd cc

pub returns-in-Some-clause-reads : goal.returns-in-Some-clause-reads
returns-in-Some-clause-reads g c =
    let made = c.make_node.ensures.reads in
    let visited = c.visit.ensures.reads in
    omega (arith, made, visited)

pub returns-in_err-give_all-clause-sound : goal.returns-in_err-give_all-clause-sound
returns-in_err-give_all-clause-sound g c state events told_is holds has is unused =
    let land = c.args.land.now in
    let history = g.D.Disk.history c.args.disk.now in
    let source = c.args.source.now in
    let book = c.args.book.now in
    let made = c.make_node.new.book in
    let now = c.in_ok-now.now in
    let peeked = c.peek-root.result.now in
    let fault = c.in_err-give_all.field-0.0 in
    let first : IsTable book.refs = subst IsTable c.refs.ensures c.len-ascending.ensures.table in
    let step = step-one book made (Made now) (c.in_ok-now.ensures.told book [] (Follows-none book)) in
    let root = has-root state source.owner holds.whole has in
    let there = root-told state source.owner root land history book holds source is in
    let same = peeked-alone (super_of source land.blocks.draft) c.way-way.result.expected land.blocks.draft history
    c.visit.new.blocks c.way-way.result.address source.address peeked c.way-way.ensures.address
    c.in_ok-visit.ensures.visited c.peek-root.ensures root.placed.node there in
    let can = can-give-children state source.owner c.args.copy now land history book holds has unused
    c.requires.editable.drafted.sizes c.in_ok-now.ensures.made.puts.free made peeked first c.requires.book step
    (sym c.misfit.ensures ∙ c.in_default.is) same in
    let children : owings_told c.as_slice.result.now ≡ keyed_children peeked c.args.copy =
    ap owings_told c.as_slice.ensures.value ∙ c.in_ok-children.ensures in
    unbroken-handed c.from_residual-in_err-give_all.result fault c.from_residual-in_err-give_all.ensures.1
    (unbroken-other (Unit {0}) Root fault (c.in_err-give_all.ensures.proper
    (subst (λ (owings : List Owing). CanGive (book_of made.refs) owings) (sym children) can)))

pub returns-in_err-give_all-clause-reads : goal.returns-in_err-give_all-clause-reads
returns-in_err-give_all-clause-reads g c =
    let made = c.make_node.ensures.reads in
    let visited = c.visit.ensures.reads in
    omega (arith, made, visited)

pub returns-clause-copied : goal.returns-clause-copied
returns-clause-copied g c state parents holds has is unused =
    let land = c.args.land.now in
    let mid : Ground = record land { blocks = c.visit.new.blocks } in
    let new = c.make_node.new.land in
    let history = g.D.Disk.history c.args.disk.now in
    let source = c.args.source.now in
    let book = c.args.book.now in
    let made = c.make_node.new.book in
    let given = c.give_all.new.book in
    let now = c.in_ok-now.now in
    let peeked = c.peek-root.result.now in
    let read = c.visit.ensures.read in
    let rests = c.make_node.ensures.rests.rests in
    let later : g.D.Disk.history c.make_node.new.disk ≡ history = c.make_node.ensures.rests.history ∙ read.history in
    let fits : made.misfit ≡ None = sym c.misfit.ensures ∙ c.in_default.is in
    let children : owings_told c.as_slice.result.now ≡ keyed_children peeked c.args.copy =
    ap owings_told c.as_slice.ensures.value ∙ c.in_ok-children.ensures in
    let copied = c.in_ok-node.ensures.copy
    ∙ ap (λ (n : ℕ). node_copy peeked (header_of peeked).address c.args.copy n) c.next.ensures in
    let dated = generation-low c.in_ok-node.node peeked c.args.copy source.next copied c.in_ok-node.ensures.fits in
    let calls : Calls land mid new history book made given source c.args.copy now = record {
      tree = c.requires.book;
      first = subst IsTable c.refs.ensures c.len-ascending.ensures.table;
      last = subst IsTable c.refs-2.ensures c.len-ascending_still.ensures.table;
      peeked = peeked;
      alone = peeked-alone (super_of source land.blocks.draft) c.way-way.result.expected land.blocks.draft history
          c.visit.new.blocks c.way-way.result.address source.address peeked c.way-way.ensures.address
          c.in_ok-visit.ensures.visited c.peek-root.ensures;
      draft = read.draft;
      space = refl;
      node = c.in_ok-node.node;
      copied = copied;
      makes = c.in_ok-now.ensures.made;
      step = step-one book made (Made now) (c.in_ok-now.ensures.told book [] (Follows-none book));
      fits = fits;
      settled = λ none settled. subst (λ (h : History). IsSettled made new h) later
          (c.in_ok-now.ensures.book.settled (λ before. subst (λ (h : History). IsSettled book mid h)
          (sym read.history) (settled_still book land mid history refl (KeepsLevels-draft land mid read.draft) settled))
          fits);
      gives = subst (λ (owings : List Owing). Gives (book_of made.refs) (book_of given.refs) owings) children
          c.in_ok-give_all.ensures.given;
      others = c.give_all.ensures.others;
      sizes = rests.sizes;
      runs = rests.runs;
      held_slots = rests.held_slots;
      held_runs = rests.held_runs;
      dated = dated;
    } in
    copied-then state source.owner c.args.copy now land history book holds has unused c.requires.editable.drafted.sizes
    c.in_ok-now.ensures.made.puts.free parents mid new made given source is c.requires.number calls
    (g.D.Disk.history c.make_node.new.disk) later c.at.result
    (c.at.ensures ∙ (λ i. record {
      address = now;
      height = c.height.ensures i;
      owner = c.args.copy;
      next = c.next-2.ensures i;
    }))

pub returns-clause-begun : goal.returns-clause-begun
returns-clause-begun g c =
    let land = c.args.land.now in
    let book = c.args.book.now in
    let made = c.make_node.new.book in
    let given = c.give_all.new.book in
    let peeked = c.peek-root.result.now in
    let now = c.in_ok-now.now in
    let visited = c.in_ok-visit.ensures.visited in
    let step = step-one book made (Made now) (c.in_ok-now.ensures.told book [] (Follows-none book)) in
    let fits : made.misfit ≡ None = sym c.misfit.ensures ∙ c.in_default.is in
    let children : owings_told c.as_slice.result.now ≡ keyed_children peeked c.args.copy =
    ap owings_told c.as_slice.ensures.value ∙ c.in_ok-children.ensures in
    let same : visited.node ≡ peeked = same_Some visited.node peeked (sym visited.is ∙ c.peek-root.ensures) in
    let sound : IsNode land.space.sizes.nodesize peeked =
    subst (λ (node : Node). IsNode land.space.sizes.nodesize node) same
    (subst (λ (size : ℕ). IsNode size visited.node) c.requires.editable.drafted.sizes.nodesize visited.kept.sound) in
    record {
      is = search rules;
      free = search rules;
      slots = search rules;
      book = goes-given book made now step (fits-step book made (Made now) step fits).1 given
          (owings_told c.as_slice.result.now) c.in_ok-give_all.ensures.given c.give_all.ensures.others;
      heavier = heavier-then book made given now step fits peeked c.args.copy land.space.sizes.nodesize sound
          (subst (λ (owings : List Owing). Gives (book_of made.refs) (book_of given.refs) owings) children
          c.in_ok-give_all.ensures.given) c.give_all.ensures.others
          (subst IsTable c.refs.ensures c.len-ascending.ensures.table)
          (subst IsTable c.refs-2.ensures c.len-ascending_still.ensures.table);
    }

pub returns-clause-reads : goal.returns-clause-reads
returns-clause-reads g c =
    let made = c.make_node.ensures.reads in
    let visited = c.visit.ensures.reads in
    omega (arith, made, visited)

-- ---- over any disk

pub returns-in_err-visit-clause-stops : goal.returns-in_err-visit-clause-stops
returns-in_err-visit-clause-stops g c =
    stops-visit c.from_residual.result c.in_err-visit.field-0.0 Files c.args.source.now c.args.land.now.blocks.draft
    (g.D.Disk.size c.args.disk.now) c.way-way.result.expected c.way-way.result.address c.from_residual.ensures.1
    c.in_err-visit.ensures.stops

pub returns-in_err-now-clause-stops : goal.returns-in_err-now-clause-stops
returns-in_err-now-clause-stops g c =
    let residual = c.from_residual-in_err-now in
    let sizes = c.args.land.now.blocks.draft.sizes in
    let bytes = g.D.Disk.size c.args.disk.now in
    let fault = c.in_err-now.field-0.0 in
    let read = c.visit.ensures.read in
    stops-err ℕ residual.result fault c.visit.new.blocks.draft.sizes sizes (g.D.Disk.size c.visit.new.disk) bytes
    residual.ensures.1 (ap (λ (d : Draft). d.sizes) read.draft) read.size c.in_err-now.ensures.stops

pub returns-in-Some-clause-stops : goal.returns-in-Some-clause-stops
returns-in-Some-clause-stops g c =
    stops-misfit {A = Root} (Err c.misfit_at.result) Refs c.in-Some.address c.args.land.now.blocks.draft.sizes
    (g.D.Disk.size c.args.disk.now) misfit-refs (ap (λ (f : BlockFault). Err f) c.misfit_at.ensures)

pub returns-in_err-give_all-clause-stops : goal.returns-in_err-give_all-clause-stops
returns-in_err-give_all-clause-stops g c =
    let residual = c.from_residual-in_err-give_all in
    let sizes = c.args.land.now.blocks.draft.sizes in
    let bytes = g.D.Disk.size c.args.disk.now in
    let fault = c.in_err-give_all.field-0.0 in
    stops-err (Unit {0}) residual.result fault sizes sizes bytes bytes residual.ensures.1 refl refl
    (stops-rule {A = Unit {0}} (Err fault) Refs sizes bytes misfit-refs c.in_err-give_all.ensures.refs)
