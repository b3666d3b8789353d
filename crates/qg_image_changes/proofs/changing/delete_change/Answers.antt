use Rattle.std.proofs.Common.{◌≡◌, ◌*◌, ◌∙◌, ℕ, Bool, List, true, ap, inl, subst, sym}
use Rattle.std.specs.List.{Contains}
use Rattle.std.specs.List.Sorted.{IsStrictlyIncreasing}
use Rattle.qg_device.specs.History.{History}
use Rattle.qg_items.specs.declared.tree.TheConstants.{TOP_LEVEL}
use Rattle.qg_super.specs.Places.{capacity}
use Rattle.qg_image.specs.Table.{has_key, keys_of}
use Rattle.qg_image.specs.State.{State, has_subvolume}
use Rattle.qg_image.proofs.Contained.{contains_later}
use Rattle.qg_machine.specs.Refusals.{nodes_reached}
use Rattle.qg_machine.specs.Step.{deleted}
use Rattle.qg_refs.specs.Book.{what_in}
use Rattle.qg_extents.specs.Table.{IsTable, book_of}
use Rattle.qg_node_alloc.specs.declared.ground.Ground.{Ground}
use Rattle.qg_open_image.specs.TreeEditsEditing.{IsEditable}
use Rattle.qg_open_image.specs.Heavier.{BookGetsHeavier}
use Rattle.qg_open_image.specs.Types.{TreeRefs}
use Rattle.qg_open_image.specs.ForestStanding.{HoldsState, tree_of}
use Rattle.qg_subvolumes.specs.Dropping.{RestsButRuns}
use Rattle.qg_open_image.proofs.PiecesRead.{handed}
use Rattle.qg_open_image.proofs.WholeFile.{handed-sound}
use Rattle.qg_tree_read.specs.Tree.{Root}
use Rattle.qg_open_image.specs.FsLawsKeeping.{other_names}
use Rattle.qg_open_image.proofs.Runs.{state-held}
use Rattle.qg_open_image.specs.declared.open_image.OpenImage.{OpenImage}
use Rattle.qg_open_image.specs.Keeping.{IsKept, IsKeptOf, SameButClean}
use Rattle.qg_image_changes.proofs.DroppedKept.{changed-dropped, kept-dropped, rest-dropped, room-turned}
use Rattle.qg_image_changes.proofs.Gone.{tree-there}
use Rattle.qg_open_image.proofs.Known.{sub-known}
use Rattle.qg_open_image.proofs.Looked.{is-subvolume}
use Rattle.qg_open_image.proofs.Stepped.{tree-kept}
use Rattle.qg_image_changes.proofs.Trees.{held-for, tree-is}
use Rattle.std.proofs.Common.{inr, refl}
use Rattle.qg_blocks.proofs.Stopping.{misfit-refs, stops-err}
use Rattle.qg_open_image.proofs.Stopped.{sizes-turned}
use Rattle.qg_image_changes.proofs.changing.delete_change.Goals as goal

-- ---- what is asked

pub turn_to-requires : goal.turn_to-requires
turn_to-requires g c = record { fitted = c.requires.kept.fitted }

pub take_tree-requires : goal.take_tree-requires
take_tree-requires g c = record {
  ascending = (c.turn_to.ensures.kept (g.D.Disk.history c.args.disk.now) (g.D.Disk.size c.args.disk.now)
      c.requires.kept).fitted.numbered.ascending;
}

-- the tree that is taken is of the generation to come
pub drop_all-requires-clause-editable : goal.drop_all-requires-clause-editable
drop_all-requires-clause-editable g c =
    let mid = c.turn_to.new.kept in
    let history = g.D.Disk.history c.args.disk.now in
    let bytes = g.D.Disk.size c.args.disk.now in
    let fits = c.turn_to.ensures.kept history bytes c.requires.kept in
    subst (λ (k : OpenImage). IsEditable k.fs.land history bytes c.in-Some.tree.next) (sym c.take_tree.ensures.rest)
    (subst (λ (n : ℕ). IsEditable mid.fs.land history bytes n)
    (sym (fits.fitted.turn.next c.in-Some.tree c.in-Some.ensures.taken.1))
    (is-subvolume mid history bytes fits).editable)

pub drop_all-requires-clause-book : goal.drop_all-requires-clause-book
drop_all-requires-clause-book g c =
    ap (λ (r : TreeRefs). r.tree) c.stand_for.ensures ∙ sym c.in-Some.ensures.taken.0

pub forget_snapshot-requires : goal.forget_snapshot-requires
forget_snapshot-requires g c = record {
  ascending = subst (λ (k : OpenImage). IsStrictlyIncreasing (keys_of k.snapshots)) (sym c.take_tree.ensures.rest)
      (c.turn_to.ensures.kept (g.D.Disk.history c.args.disk.now) (g.D.Disk.size c.args.disk.now)
      c.requires.kept).fitted.subvolumes.ascending;
}

-- ---- the tree is there

-- the top-level subvolume's tree is at hand
top_at_hand : (old mid : OpenImage) (number : ℕ) (found : Bool) (history : History) (bytes : ℕ)
    → IsKept old history bytes → number ≡ TOP_LEVEL → found ≡ has_key number old.snapshots
    → (found ≡ true → mid.fs.tree.owner ≡ number) → mid.fs.tree.owner ≡ TOP_LEVEL
top_at_hand old mid number found history bytes fits is there hand =
    hand (there ∙ ap (λ (n : ℕ). has_key n old.snapshots) is ∙ fits.fitted.subvolumes.top_level) ∙ is

there_still : (old mid : OpenImage) (sub : ℕ) → SameButClean old mid → has_key sub old.snapshots ≡ true
    → has_key sub mid.snapshots ≡ true
there_still old mid sub same there =
    ap (λ (k : OpenImage). has_key sub k.snapshots) same.rest ∙ there

pub returns-in_default-clause-sound : goal.returns-in_default-clause-sound
returns-in_default-clause-sound g c = λ state events keeps told.
    let kept = c.args.kept.now in
    let mid = c.turn_to.new.kept in
    let history = g.D.Disk.history c.args.disk.now in
    let bytes = g.D.Disk.size c.args.disk.now in
    absurd (tree-there mid c.args.sub (c.turn_to.ensures.kept history bytes c.requires.kept).fitted
    (top_at_hand kept mid c.new.result c.turn_to.result history bytes c.requires.kept c.new.ensures
    c.turn_to.ensures.there c.turn_to.ensures.hand) c.requires.other
    (there_still kept mid c.args.sub c.turn_to.ensures.same c.requires.there) c.in_default.ensures.none)

-- ---- what is held before, the book standing for the subvolume that goes

-- a tree that was taken is that of its subvolume
record IsTaken (kept : OpenImage) (history : History) (state : State) (sub : ℕ) (tree : Root) (land : Ground)
    (book : TreeRefs) : Type 0 where
  holds : HoldsState land history book state
  there : has_subvolume state tree.owner ≡ true
  is : tree ≡ tree_of state tree.owner

taken_so : (mid taken : OpenImage) (history : History) (bytes sub : ℕ) (state : State) (tree : Root)
    (book : TreeRefs) → IsKept mid history bytes → IsKeptOf mid state history → IsTable mid.fs.refs.refs
    → has_key sub mid.snapshots ≡ true → taken ≡ record mid { fs = record mid.fs { others = taken.fs.others } }
    → tree.owner ≡ sub → Contains mid.fs.others.items tree → book ≡ record taken.fs.refs { tree = sub }
    → IsTaken mid history state sub tree taken.fs.land book
taken_so mid taken history bytes sub state tree book fits keeps table there is owner among stands = record {
  holds = subst (λ (b : TreeRefs). HoldsState taken.fs.land history b state) (sym stands)
      (subst (λ (k : OpenImage). HoldsState k.fs.land history (record k.fs.refs { tree = sub }) state) (sym is)
      (held-for mid.fs.land history mid.fs.refs state sub
      (state-held mid.fs history bytes state keeps.mine keeps.files (tree-kept mid state history bytes fits keeps table)
      keeps.keeps)));
  there = ap (λ (n : ℕ). has_subvolume state n) owner ∙ sub-known mid state history keeps sub ∙ there;
  is = tree-is mid history bytes state (other_names state) fits keeps tree
      (contains_later mid.fs.tree mid.fs.others.items tree among);
}

pub returns-in_err-drop_all-clause-sound : goal.returns-in_err-drop_all-clause-sound
returns-in_err-drop_all-clause-sound g c = λ state events keeps told.
    let kept = c.args.kept.now in
    let mid = c.turn_to.new.kept in
    let history = g.D.Disk.history c.args.disk.now in
    let bytes = g.D.Disk.size c.args.disk.now in
    let is = taken_so mid c.take_tree.new.kept history bytes c.args.sub state c.in-Some.tree c.stand_for.new.self
    (c.turn_to.ensures.kept history bytes c.requires.kept)
    (c.turn_to.ensures.keeps state history bytes (other_names state) c.requires.kept keeps)
    (subst IsTable c.refs.ensures c.len-ascending.ensures.table)
    (there_still kept mid c.args.sub c.turn_to.ensures.same c.requires.there) c.take_tree.ensures.rest
    c.in-Some.ensures.taken.0 c.in-Some.ensures.taken.1 c.stand_for.ensures in
    handed-sound (Unit {0}) c.from_residual.result _ (handed c.from_residual.result _ c.from_residual.ensures.1)
    (c.in_err-drop_all.ensures.sound state events told is.holds is.there is.is)

-- ---- what is left

-- nodes and space rest so from before the tree was taken
rests_so : (mid taken : OpenImage) (land : Ground) (history : History) (next : ℕ)
    → taken ≡ record mid { fs = record mid.fs { others = taken.fs.others } } → next ≡ mid.fs.tree.next
    → RestsButRuns taken.fs.land land history next → RestsButRuns mid.fs.land land history mid.fs.tree.next
rests_so mid taken land history next is same rests =
    subst (λ (k : OpenImage). RestsButRuns k.fs.land land history mid.fs.tree.next) is
    (subst (λ (n : ℕ). RestsButRuns taken.fs.land land history n) same rests)

pub returns-clause-kept : goal.returns-clause-kept
returns-clause-kept g c =
    let mid = c.turn_to.new.kept in
    let taken = c.take_tree.new.kept in
    let new = c.forget_snapshot.new.kept in
    let history = g.D.Disk.history c.args.disk.now in
    let bytes = g.D.Disk.size c.args.disk.now in
    let fits = c.turn_to.ensures.kept history bytes c.requires.kept in
    kept-dropped mid new c.drop_all.new.land c.drop_all.new.book history (g.D.Disk.history c.drop_all.new.disk) bytes
    (g.D.Disk.size c.drop_all.new.disk) c.args.sub fits
    (top_at_hand c.args.kept.now mid c.new.result c.turn_to.result history bytes c.requires.kept c.new.ensures
    c.turn_to.ensures.there c.turn_to.ensures.hand) c.requires.other
    (rests_so mid taken c.drop_all.new.land (g.D.Disk.history c.drop_all.new.disk) c.in-Some.tree.next
    c.take_tree.ensures.rest (fits.fitted.turn.next c.in-Some.tree c.in-Some.ensures.taken.1)
    c.in_ok-drop_all.ensures.rests) c.in_ok-drop_all.ensures.disk.0 c.in_ok-drop_all.ensures.disk.1
    (ap (λ (k : OpenImage). k.fs.others.items) c.forget_snapshot.ensures ∙ c.in-Some.ensures.left)
    (rest-dropped mid taken new c.drop_all.new.land c.drop_all.new.book c.stand_for-2.new.self c.args.sub
    c.owner-hand.result c.take_tree.ensures.rest c.stand_for-2.ensures c.owner-hand.ensures c.forget_snapshot.ensures)

-- how much heavier the book gets, told by what was there before the tree was taken
heavier_so : (mid taken : OpenImage) (book new : TreeRefs) (state : State) (sub number : ℕ)
    → taken ≡ record mid { fs = record mid.fs { others = taken.fs.others } }
    → book ≡ record taken.fs.refs { tree = sub } → number ≡ sub
    → BookGetsHeavier book new (nodes_reached state number * capacity taken.fs.land.space.sizes.nodesize)
    → BookGetsHeavier (record mid.fs.refs { tree = sub }) new
    (nodes_reached state sub * capacity mid.fs.land.space.sizes.nodesize)
heavier_so mid taken book new state sub number is stands own heavier =
    subst (λ (k : OpenImage). BookGetsHeavier (record k.fs.refs { tree = sub }) new
    (nodes_reached state sub * capacity k.fs.land.space.sizes.nodesize)) is
    (subst (λ (b : TreeRefs). BookGetsHeavier b new
    (nodes_reached state sub * capacity taken.fs.land.space.sizes.nodesize)) stands
    (subst (λ (n : ℕ). BookGetsHeavier book new
    (nodes_reached state n * capacity taken.fs.land.space.sizes.nodesize)) own heavier))

pub returns-clause-changed : goal.returns-clause-changed
returns-clause-changed g c = λ state keeps none count.
    let kept = c.args.kept.now in
    let mid = c.turn_to.new.kept in
    let taken = c.take_tree.new.kept in
    let new = c.forget_snapshot.new.kept in
    let history = g.D.Disk.history c.args.disk.now in
    let after = g.D.Disk.history c.drop_all.new.disk in
    let bytes = g.D.Disk.size c.args.disk.now in
    let fits = c.turn_to.ensures.kept history bytes c.requires.kept in
    let turned = c.turn_to.ensures.keeps state history bytes (other_names state) c.requires.kept keeps in
    let table = subst IsTable c.refs.ensures c.len-ascending.ensures.table in
    let there = there_still kept mid c.args.sub c.turn_to.ensures.same c.requires.there in
    let owner = c.in-Some.ensures.taken.0 in
    let is = taken_so mid taken history bytes c.args.sub state c.in-Some.tree c.stand_for.new.self fits turned table
    there c.take_tree.ensures.rest owner c.in-Some.ensures.taken.1 c.stand_for.ensures in
    changed-dropped mid new c.drop_all.new.land c.drop_all.new.book history after bytes
    (g.D.Disk.size c.drop_all.new.disk) c.args.sub fits
    (top_at_hand kept mid c.new.result c.turn_to.result history bytes c.requires.kept c.new.ensures
    c.turn_to.ensures.there c.turn_to.ensures.hand) c.requires.other
    (rests_so mid taken c.drop_all.new.land after c.in-Some.tree.next c.take_tree.ensures.rest
    (fits.fitted.turn.next c.in-Some.tree c.in-Some.ensures.taken.1) c.in_ok-drop_all.ensures.rests)
    c.in_ok-drop_all.ensures.disk.0 c.in_ok-drop_all.ensures.disk.1
    (ap (λ (k : OpenImage). k.fs.others.items) c.forget_snapshot.ensures ∙ c.in-Some.ensures.left)
    (rest-dropped mid taken new c.drop_all.new.land c.drop_all.new.book c.stand_for-2.new.self c.args.sub
    c.owner-hand.result c.take_tree.ensures.rest c.stand_for-2.ensures c.owner-hand.ensures c.forget_snapshot.ensures)
    state turned (ap (λ (k : OpenImage). k.pending) c.turn_to.ensures.same.rest ∙ none) c.args.copies count
    (room-turned kept mid c.args.copies c.turn_to.ensures.same c.requires.room) there table
    (subst IsTable (ap (λ (r : TreeRefs). r.refs) c.stand_for-2.ensures)
    (subst IsTable c.refs-2.ensures c.len-ascending_still.ensures.table))
    (subst (λ (n : ℕ). HoldsState c.drop_all.new.land after c.drop_all.new.book (deleted state n)) owner
    (c.in_ok-drop_all.ensures.dropped state is.holds is.there is.is))
    (heavier_so mid taken c.stand_for.new.self c.drop_all.new.book state c.args.sub c.in-Some.tree.owner
    c.take_tree.ensures.rest c.stand_for.ensures owner
    (c.in_ok-drop_all.ensures.heavier state is.holds is.there is.is))
    (λ at what known. inl (ap (λ (r : TreeRefs). what_in (book_of r.refs at))
    (sym (c.stand_for.ensures
    ∙ ap (λ (k : OpenImage). record k.fs.refs { tree = c.args.sub }) c.take_tree.ensures.rest))
    ∙ c.in_ok-drop_all.ensures.book.known.known at what known))

-- ---- over any disk

pub returns-in_default-clause-stops : goal.returns-in_default-clause-stops
returns-in_default-clause-stops g c = inr (inr (inr misfit-refs))

pub returns-in_err-drop_all-clause-stops : goal.returns-in_err-drop_all-clause-stops
returns-in_err-drop_all-clause-stops g c =
    let old = c.args.kept.now in
    let taken = c.take_tree.new.kept in
    let bytes = g.D.Disk.size c.args.disk.now in
    let same = ap (λ (k : OpenImage). k.fs.land.blocks.draft.sizes) c.take_tree.ensures.rest
    ∙ sizes-turned old c.turn_to.new.kept c.turn_to.ensures.same in
    stops-err (Unit {0}) c.from_residual.result c.in_err-drop_all.field-0.0 taken.fs.land.blocks.draft.sizes
    old.fs.land.blocks.draft.sizes bytes bytes c.from_residual.ensures.1 same refl c.in_err-drop_all.ensures.stops
