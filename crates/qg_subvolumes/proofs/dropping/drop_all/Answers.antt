use Rattle.std.proofs.Common.{◌≡◌, ℕ, ◌*◌, List, true, arith, sym, ap, subst, ◌∙◌, nat_lt, Bool, [], ◌∷◌}
use Rattle.std.proofs.lemmas.Bool.{lt-ltb, true≢false}
use Rattle.qg_device.specs.History.{History}
use Rattle.qg_items.specs.declared.extent.Reference.TheVariants.{KeyedBlock}
use Rattle.qg_super.specs.Places.{capacity}
use Rattle.qg_image.specs.State.{State, has_subvolume}
use Rattle.qg_machine.specs.Refusals.{nodes_reached}
use Rattle.qg_node_alloc.specs.Land.{IsDrafted}
use Rattle.qg_refs.specs.declared.kept.Kept.{Kept}
use Rattle.qg_refs.specs.Book.{count_at, full_in}
use Rattle.qg_extents.specs.Table.{IsTable, book_of}
use Rattle.qg_tree_read.specs.Tree.{Root}
use Rattle.qg_tree_backrefs.specs.declared.tree_refs.TreeRefs.{TreeRefs}
use Rattle.qg_tree_backrefs.specs.Heavier.{BookGetsHeavier}
use Rattle.qg_shared_trees.specs.ForestStanding.{HoldsState, tree_of}
use Rattle.qg_subvolumes.specs.Dropping.{HoldsPartly, IsPart, KnowsNoMore, parts_reached}
use Rattle.qg_subvolumes.proofs.Knowing.{knows-dropped, knows-on}
use Rattle.qg_subvolumes.proofs.Resting.{unbroken-handed}
use Rattle.qg_subvolumes.specs.declared.child.Child.{Child}
use Rattle.qg_subvolumes.proofs.Called.{finished, first-open, reference-there, root-count, root-part, same-next}
use Rattle.qg_subvolumes.proofs.Called.{started}
use Rattle.qg_subvolumes.proofs.Called.{weighs}
use Rattle.qg_subvolumes.proofs.Stepping.{never-ok}
use Rattle.std.proofs.Common.{refl}
use Rattle.std.specs.Prelude.{Err}
use Rattle.qg_num.specs.declared.fault.BlockFault.{BlockFault}
use Rattle.qg_num.specs.declared.rule.Rule.TheVariants.{Refs}
use Rattle.qg_blocks.proofs.Stopping.{misfit-refs, stops-err, stops-misfit}
use Rattle.qg_subvolumes.proofs.dropping.drop_all.Given.{Over}
use Rattle.qg_subvolumes.proofs.dropping.drop_all.Goals as goal
use Rattle.qg_subvolumes.proofs.dropping.drop_all.Goals.{After-drop_under}

pub returns-then-not-unname-clause-sound : goal.returns-then-not-unname-clause-sound
returns-then-not-unname-clause-sound g c state events told holds has same =
    let book = c.args.book.now in
    let root = c.args.tree.now in
    let first : IsTable book.refs = subst IsTable c.refs.ensures c.len-ascending.ensures.table in
    let some = reference-there c.args.land.now (g.D.Disk.history c.args.disk.now) book state holds root has same
    c.requires.editable.drafted first.book in
    let yes : c.unname.result ≡ true =
    c.unname.ensures.there
    ∙ ap (λ (q : ℕ). nat_lt 0 (count_at (book_of book.refs) q (KeyedBlock c.owner.result))) c.root-2.ensures
    ∙ ap (λ (n : ℕ). nat_lt 0 (count_at (book_of book.refs) root.address (KeyedBlock n))) c.owner.ensures
    ∙ lt-ltb 0 (count_at (book_of book.refs) root.address (KeyedBlock root.owner)) some in
    absurd (true≢false (sym yes ∙ c.if-not-unname.true))

-- ---- the root is a part, once the reference of the subvolume was taken

module _ (g : Over) (c : After-drop_under g) (state : State)
    (holds : HoldsState c.args.land.now (g.D.Disk.history c.args.disk.now) c.args.book.now state)
    (has : has_subvolume state c.args.tree.now.owner ≡ true)
    (same : c.args.tree.now ≡ tree_of state c.args.tree.now.owner) where
  abbrev before : History
  before = g.D.Disk.history c.args.disk.now

  abbrev root : Root
  root = c.args.tree.now

  abbrev drafted : IsDrafted c.args.land.now root.next
  drafted = c.requires.editable.drafted

  abbrev part : Child
  part = record { way = c.way.result; full = c.is_marked.result }

  table : IsTable c.args.book.now.refs
  table = subst IsTable c.refs.ensures c.len-ascending.ensures.table

  full : c.is_marked.result ≡ full_in (book_of c.args.book.now.refs root.address)
  full =
      c.is_marked.ensures
      ∙ ap (λ (refs : List (ℕ × Kept)). full_in (book_of refs c.root.result)) c.refs-2.ensures
      ∙ ap (λ (q : ℕ). full_in (book_of c.args.book.now.refs q)) c.root.ensures

  abbrev opened : ℕ → Bool
  opened = first-open c.args.land.now before c.args.book.now state holds root has same drafted table.book

  begins : HoldsPartly c.args.land.now before c.unname.new.self state root.owner opened
  begins =
      started c.args.land.now before c.args.book.now state holds root has same drafted table.book c.unname.new.self
      c.unname.ensures.others c.root-2.result c.owner.result c.root-2.ensures c.owner.ensures
      (c.unname.ensures.taken c.if-not-unname.false) c.requires.book

  there : IsPart state opened c.height.result part
  there =
      root-part c.args.land.now before c.args.book.now state holds root has same drafted table.book c.height.result
      c.height.ensures part c.way.ensures.address c.way.ensures.expected full

  count : parts_reached state c.height.result (part ∷ []) ≡ nodes_reached state root.owner
  count =
      root-count c.args.land.now before c.args.book.now state holds root has same drafted table.book c.height.result
      c.height.ensures part c.way.ensures.address

pub returns-in_err-drop_under-clause-sound : goal.returns-in_err-drop_under-clause-sound
returns-in_err-drop_under-clause-sound g c state events told holds has same =
    let at = (goal.at.returns-in_err-drop_under-clause-sound g c).After-drop_under in
    let next = same-next c.args.land.now (g.D.Disk.history c.args.disk.now) c.args.book.now state holds c.args.tree.now
    has same c.requires.editable.drafted (table g at state holds has same).book in
    unbroken-handed c.from_residual.result _ c.from_residual.ensures.1
    (c.in_err-drop_under.ensures.sound state (opened g at state holds has same) events told next
    (begins g at state holds has same) (there g at state holds has same))

pub returns-in_err-drop_under-clause-reads : goal.returns-in_err-drop_under-clause-reads
returns-in_err-drop_under-clause-reads g c state events told holds has same =
    let at = (goal.at.returns-in_err-drop_under-clause-reads g c).After-drop_under in
    let few = c.in_err-drop_under.ensures.reads state (opened g at state holds has same) events told
    (begins g at state holds has same) (there g at state holds has same) in
    omega (arith, few, count g at state holds has same)

pub returns-clause-dropped : goal.returns-clause-dropped
returns-clause-dropped g c state holds has same =
    let at = (goal.at.returns-clause-dropped g c).After-drop_under in
    let last : IsTable c.drop_under.new.book.refs = subst IsTable c.refs-4.ensures c.len-ascending_left.ensures.table in
    finished c.args.land.now (g.D.Disk.history c.args.disk.now) c.args.book.now state holds c.args.tree.now has same
    c.requires.editable.drafted (table g at state holds has same).book c.height.result c.height.ensures
    c.way.result.address
    c.way.ensures.address c.drop_under.new.land (g.D.Disk.history c.drop_under.new.disk) c.drop_under.new.book
    c.in_ok-drop_under.ensures.rests.drafted last.book
    (c.in_ok-drop_under.ensures.dropped state (opened g at state holds has same) (begins g at state holds has same)
    (there g at state holds has same))

pub returns-clause-reads : goal.returns-clause-reads
returns-clause-reads g c state events told holds has same =
    let at = (goal.at.returns-clause-reads g c).After-drop_under in
    let few = c.in_ok-drop_under.ensures.reads state (opened g at state holds has same) events told
    (begins g at state holds has same) (there g at state holds has same) in
    omega (arith, few, count g at state holds has same)

pub returns-in_err-drop_under-clause-book : goal.returns-in_err-drop_under-clause-book
returns-in_err-drop_under-clause-book g c =
    let left = c.in_err-drop_under.ensures.book in
    let taken = c.unname.ensures.others in
    record {
      tree = left.tree ∙ ap (λ (b : TreeRefs). b.tree) taken;
      nodesize = left.nodesize ∙ ap (λ (b : TreeRefs). b.nodesize) taken;
      next = left.next ∙ ap (λ (b : TreeRefs). b.next) taken;
      known = never-ok c.from_residual.result _ c.from_residual.ensures.1
          (KnowsNoMore c.args.book.now c.drop_under.new.book);
    }

pub returns-clause-book : goal.returns-clause-book
returns-clause-book g c =
    let book = c.args.book.now in
    let after = c.unname.new.self in
    let left = c.in_ok-drop_under.ensures.book in
    let taken = c.unname.ensures.others in
    record {
      tree = left.tree ∙ ap (λ (b : TreeRefs). b.tree) taken;
      nodesize = left.nodesize ∙ ap (λ (b : TreeRefs). b.nodesize) taken;
      next = left.next ∙ ap (λ (b : TreeRefs). b.next) taken;
      known = knows-on book after c.drop_under.new.book
          (knows-dropped book after c.root-2.result (KeyedBlock c.owner.result)
          (c.unname.ensures.taken c.if-not-unname.false)) left.known;
    }

pub returns-clause-heavier : goal.returns-clause-heavier
returns-clause-heavier g c state holds has same =
    let at = (goal.at.returns-clause-heavier g c).After-drop_under in
    let after = c.unname.new.self in
    let most = capacity c.args.land.now.space.sizes.nodesize in
    let mid : IsTable after.refs = subst IsTable c.refs-3.ensures c.len-ascending_still.ensures.table in
    weighs c.args.land.now (g.D.Disk.history c.args.disk.now) c.args.book.now state holds c.args.tree.now has same
    c.requires.editable.drafted (table g at state holds has same).book after c.unname.ensures.others c.root-2.result
    c.owner.result c.root-2.ensures c.owner.ensures (c.unname.ensures.taken c.if-not-unname.false) c.requires.book
    c.drop_under.new.book (nodes_reached state c.args.tree.now.owner * most) (table g at state holds has same) mid
    (subst (λ (n : ℕ). BookGetsHeavier after c.drop_under.new.book (n * most)) (count g at state holds has same)
    (c.in_ok-drop_under.ensures.heavier state (opened g at state holds has same) (begins g at state holds has same)
    (there g at state holds has same)))

-- ---- over any disk

pub returns-then-not-unname-clause-stops : goal.returns-then-not-unname-clause-stops
returns-then-not-unname-clause-stops g c =
    stops-misfit {A = Unit {0}} (Err c.misfit_at.result) Refs _ c.args.land.now.blocks.draft.sizes
    (g.D.Disk.size c.args.disk.now) misfit-refs (ap (λ (f : BlockFault). Err f) c.misfit_at.ensures)

pub returns-in_err-drop_under-clause-stops : goal.returns-in_err-drop_under-clause-stops
returns-in_err-drop_under-clause-stops g c =
    let sizes = c.args.land.now.blocks.draft.sizes in
    let bytes = g.D.Disk.size c.args.disk.now in
    stops-err (Unit {0}) c.from_residual.result c.in_err-drop_under.field-0.0 sizes sizes bytes bytes
    c.from_residual.ensures.1 refl refl c.in_err-drop_under.ensures.stops
