-- With one subvolume more, nodes, disk and book hold the state that has it.
use Rattle.std.proofs.Common.{◌≡◌, ◌≢◌, ℕ, ◌+◌, List, [], ◌∷◌, Some, None, sym, ap, subst, ◌∙◌}
use Rattle.std.specs.Prelude.{IsTrue, Contains}
use Rattle.qg_device.specs.History.{History}
use Rattle.qg_node.specs.Fits.{NodeFits}
use Rattle.qg_node.specs.Nodes.{header_of}
use Rattle.qg_node.specs.NodeText.{IsNode}
use Rattle.qg_super.specs.declared.sizes.Sizes.{Sizes}
use Rattle.qg_items.specs.declared.extent.Reference.{Reference}
use Rattle.qg_super.specs.Places.{is_run, is_slot}
use Rattle.qg_image.specs.declared.element.Element.{Element}
use Rattle.qg_image.specs.Owed.{Owing, owed_by_node}
use Rattle.qg_image.specs.State.{Committed, State}
use Rattle.qg_machine.specs.Layout.{IsTreeOf}
use Rattle.qg_cow_refs.specs.Children.{way_to}
use Rattle.qg_blocks.specs.NodesFound.{told}
use Rattle.qg_node_alloc.specs.declared.ground.Ground.{Ground}
use Rattle.qg_node_alloc.specs.Tellings.Telling.{Made}
use Rattle.qg_refs.specs.Book.{IsBook, count_at}
use Rattle.qg_extents.specs.Table.{book_of}
use Rattle.qg_tree_backrefs.specs.declared.tree_refs.TreeRefs.{TreeRefs}
use Rattle.qg_tree_backrefs.specs.Exchange.{Exchanges, Gives, times}
use Rattle.qg_tree_backrefs.specs.Following.{coming_of}
use Rattle.qg_tree_backrefs.specs.Settled.{IsSettled}
use Rattle.qg_shared_trees.specs.ForestStanding.{HoldsState, IsKnownRun}
use Rattle.qg_subvolumes.proofs.Copied.{bare-then, counts-then, known-then, marks-then, nodes-then, nothing_else}
use Rattle.qg_subvolumes.proofs.Copied.{settled-then}
use Rattle.qg_subvolumes.proofs.Homed.{home-then}
use Rattle.qg_subvolumes.proofs.More.{OneMore, agrees-more, next-is}
use Rattle.qg_subvolumes.proofs.Named.{extents-then, numbers-then}
use Rattle.qg_subvolumes.proofs.WholeAfter.{whole-then}

-- what was done: a node was put into a free slot and told as made, and its children got a reference each
pub record IsDone (before after : State) (sub : ℕ) (more : OneMore before after sub) (children : List Owing)
    (land new : Ground) (history : History) (old made given : TreeRefs) : Type 0
  where
    pub tree : old.tree ≡ sub
    pub level : ℕ
    pub first : IsBook (book_of old.refs)
    pub mid : IsBook (book_of made.refs)
    pub last : IsBook (book_of given.refs)
    pub done : Exchanges (book_of old.refs) (book_of made.refs) nothing_else (coming_of old level (Made more.made.root))
    pub noted : made ≡ record old { refs = made.refs }
    pub gives : Gives (book_of made.refs) (book_of given.refs) children
    pub others : given ≡ record made { refs = given.refs }
    pub owes : owed_by_node more.placed ≡ children
    pub settled : IsSettled made new history
    pub slot : IsTrue (is_slot before.sizes more.made.root)
    pub elsewhere : (q : ℕ) → q ≢ more.made.root → told new.blocks.draft history q ≡ told land.blocks.draft history q
    pub here : told new.blocks.draft history more.made.root ≡ Some more.placed.node
    pub placed : (header_of more.placed.node).address ≡ more.made.root
    pub sound : IsNode before.sizes.nodesize more.placed.node
    pub fits : NodeFits more.placed.node
    pub own : IsTreeOf after more.made
    pub sizes : new.space.sizes ≡ land.space.sizes
    pub runs : new.space.runs ≡ land.space.runs
    pub held_slots : new.space.held_slots ≡ land.space.held_slots
    pub held_runs : new.space.held_runs ≡ land.space.held_runs

module _ (before after : State) (sub : ℕ) (more : OneMore before after sub) (children : List Owing) (land new : Ground)
    (history : History) (old made given : TreeRefs) (holds : HoldsState land history old before)
    (is : IsDone before after sub more children land new history old made given) where
  size_given : given.nodesize ≡ old.nodesize
  size_given = ap (λ (book : TreeRefs). book.nodesize) is.others ∙ ap (λ (book : TreeRefs). book.nodesize) is.noted

  next_given : given.next ≡ old.next
  next_given = ap (λ (book : TreeRefs). book.next) is.others ∙ ap (λ (book : TreeRefs). book.next) is.noted

  fits_given : given.misfit ≡ None
  fits_given =
      ap (λ (book : TreeRefs). book.misfit) is.others ∙ ap (λ (book : TreeRefs). book.misfit) is.noted ∙ holds.fits

  lies_then : (sizes other : Sizes) (run : Element) → other ≡ sizes → IsTrue (is_run sizes run.address run.bytes)
      → IsTrue (is_run other run.address run.bytes)
  lies_then sizes other run same lies = subst (λ (s : Sizes). IsTrue (is_run s run.address run.bytes)) (sym same) lies

  run_then : (run : Element) → IsKnownRun before.sizes (book_of old.refs) run
      → IsKnownRun after.sizes (book_of given.refs) run
  run_then run was = record {
    lies = lies_then before.sizes after.sizes run more.sizes was.lies;
    generation = was.generation;
    known = known-then (book_of old.refs) (book_of made.refs) (book_of given.refs) old more.made.root is.level
        children is.first is.done is.gives run.address
        (record { bytes = run.bytes; level = None; generation = was.generation }) was.known;
  }

  counted : (at : ℕ) (reference : Reference) → count_at (book_of given.refs) at reference
      ≡ count_at (book_of old.refs) at reference + times (way_to more.made.root sub ∷ []) at reference
      + times children at reference
  counted at reference =
      subst (λ (tree : ℕ). count_at (book_of given.refs) at reference
      ≡ count_at (book_of old.refs) at reference + times (way_to more.made.root tree ∷ []) at reference
      + times children at reference) is.tree
      (counts-then (book_of old.refs) (book_of made.refs) (book_of given.refs) old more.made.root is.level
      children is.first is.done is.gives at reference)

  pub holds-then : HoldsState new history given after
  holds-then = record {
    sizes = more.sizes ∙ holds.sizes ∙ sym is.sizes;
    nodesize = size_given ∙ holds.nodesize ∙ sym (ap (λ (sizes : Sizes). sizes.nodesize) more.sizes);
    next = next_given ∙ holds.next ∙ sym (next-is before after sub more);
    fits = fits_given;
    numbers = numbers-then before after sub more;
    whole = whole-then before after sub more holds.whole holds.home is.own is.sound is.fits is.placed;
    home = home-then before after sub more holds.whole holds.home;
    nodes = nodes-then before after sub more land new history old given holds is.sizes is.slot is.elsewhere is.here
        (marks-then (book_of old.refs) (book_of made.refs) (book_of given.refs) old more.made.root is.level children
        is.first is.done is.gives)
        (bare-then (book_of old.refs) (book_of made.refs) (book_of given.refs) old more.made.root is.level children
        is.first is.done is.gives);
    agrees = agrees-more before after sub more (book_of old.refs) (book_of given.refs) children is.owes holds.agrees
        counted;
    settled = settled-then made given new history children is.mid is.last is.others is.gives is.settled;
    extents = λ run has. run_then run (holds.extents run
        ((extents-then before after sub more run).0 has));
    runs = λ run.
        let named = extents-then before after sub more run in
        let was = holds.runs run in (
          λ has. named.1 (was.0 (subst (λ (runs : List Element). Contains runs run) is.runs has)),
          λ has. subst (λ (runs : List Element). Contains runs run) (sym is.runs) (was.1 (named.0 has)),
        );
    held_slots = λ slot.
        let was = holds.held_slots slot in (
          λ has. subst (λ (held : Committed). Contains held.nodes slot) (sym more.held)
              (was.0 (subst (λ (slots : List ℕ). Contains slots slot) is.held_slots has)),
          λ has. subst (λ (slots : List ℕ). Contains slots slot) (sym is.held_slots)
              (was.1 (subst (λ (held : Committed). Contains held.nodes slot) more.held has)),
        );
    held_runs = λ run.
        let was = holds.held_runs run in (
          λ has. subst (λ (held : Committed). Contains held.extents run) (sym more.held)
              (was.0 (subst (λ (runs : List Element). Contains runs run) is.held_runs has)),
          λ has. subst (λ (runs : List Element). Contains runs run) (sym is.held_runs)
              (was.1 (subst (λ (held : Committed). Contains held.extents run) more.held has)),
        );
  }
