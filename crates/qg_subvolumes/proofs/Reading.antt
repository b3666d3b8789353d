-- The node that is parted with, as it is read: it is the layout's, and so are its case and what becomes of references.
use Rattle.std.proofs.Common.{◌≡◌, ℕ, Bool, true, List, Option, Some, None, refl, sym, ap, subst, ◌∙◌}
use Rattle.std.specs.Prelude.{is_some}
use Rattle.std.specs.Option.{option_or}
use Rattle.std.proofs.lemmas.Bool.{or_left}
use Rattle.std.proofs.lemmas.Option.{same_Some}
use Rattle.qg_device.specs.History.{History}
use Rattle.qg_node.specs.declared.node.Node.{Node}
use Rattle.qg_image.specs.Table.{value_at}
use Rattle.qg_image.specs.Reach.{is_reached}
use Rattle.qg_image.specs.State.{Placed, State, layout_of}
use Rattle.qg_machine.specs.Step.{without_subvolume}
use Rattle.qg_cow_refs.specs.Left.{case_of, leaving_gains, leaving_losses}
use Rattle.qg_blocks.specs.NodesFound.{IsBacked, held_at}
use Rattle.qg_blocks.proofs.Telling.{held-told}
use Rattle.qg_node_alloc.specs.declared.ground.Ground.{Ground}
use Rattle.qg_refs.specs.Book.{Book, IsBook}
use Rattle.qg_extents.specs.Table.{book_of}
use Rattle.qg_tree_backrefs.specs.declared.tree_refs.TreeRefs.{TreeRefs}
use Rattle.qg_tree_backrefs.specs.Exchange.{CanExchange, Exchange}
use Rattle.qg_tree_backrefs.specs.Following.{IsExchanged, exchange_by_parting, full_by_leaving, parting_in}
use Rattle.qg_tree_backrefs.specs.Following.{references_to}
use Rattle.qg_subvolumes.specs.Dropping.{HoldsPartly}
use Rattle.qg_subvolumes.proofs.Partly.{its-address, kept-value, now, now-node}

module _ (land : Ground) (history : History) (before : TreeRefs) (state : State) (sub : ℕ)
    (waiting : ℕ → Bool) (holds : HoldsPartly land history before state sub waiting)
    (is : IsBook (book_of before.refs)) (at : ℕ) (node : Node) (full : Bool)
    (placed : Placed) (there : value_at at state.layout ≡ Some placed) (mark : placed.full ≡ full)
    (waits : waiting at ≡ true) (backed : IsBacked land.blocks history)
    (held : held_at land.blocks at ≡ Some node) where
  abbrev book : Book
  book = book_of before.refs

  -- the node that is read is the layout's
  pub node-is : node ≡ placed.node
  node-is =
      let stays = or_left (waiting at) (is_reached (layout_of (without_subvolume state sub)) at) waits in
      let part = holds.nodes at (now state sub waiting (at, placed))
      (kept-value state sub waiting at placed there stays) in
      let told_is = part.told ∙ ap (λ (n : Node). Some n) (now-node state sub waiting (at, placed)) in
      let known = held-told land.blocks history at placed.node backed told_is
      (ap (λ (o : Option Node). is_some o) held) in
      same_Some node placed.node (sym held ∙ known)

  pub placed-is : ◌≡◌ {A = Placed} (record { node = node; full = full }) placed
  placed-is = λ i. record { node = node-is i; full = sym mark i }

  shape : ℕ → ℕ → Exchange
  shape a tree = record {
    full = full_by_leaving (case_of (references_to book a) placed tree) a;
    gains = leaving_gains (case_of (references_to book a) placed tree) placed;
    losses = leaving_losses (case_of (references_to book a) placed tree) placed;
  }

  pub exchange-is : exchange_by_parting book before.tree (record { node = node; full = full }) ≡ record {
    full = full_by_leaving (case_of (references_to book at) placed sub) at;
    gains = leaving_gains (case_of (references_to book at) placed sub) placed;
    losses = leaving_losses (case_of (references_to book at) placed sub) placed;
  }
  unfolding shape
  exchange-is =
      ap (λ (p : Placed). exchange_by_parting book before.tree p) placed-is
      ∙ ap (λ (a : ℕ). shape a before.tree) (its-address land history before state sub waiting holds is at placed there)
      ∙ ap (λ (tree : ℕ). shape at tree) holds.tree

  pub case-is : parting_in book before.tree (record { node = node; full = full })
      ≡ case_of (references_to book at) placed sub
  case-is =
      ap (λ (p : Placed). parting_in book before.tree p) placed-is
      ∙ ap (λ (a : ℕ). case_of (references_to book a) placed before.tree)
      (its-address land history before state sub waiting holds is at placed there)
      ∙ ap (λ (tree : ℕ). case_of (references_to book at) placed tree) holds.tree

  -- where what is asked of the book is there, no misfit is met
  pub none-met : (after : TreeRefs) → IsExchanged before
      (exchange_by_parting book before.tree (record { node = node; full = full })) after
      → CanExchange book (record {
        full = full_by_leaving (case_of (references_to book at) placed sub) at;
        gains = leaving_gains (case_of (references_to book at) placed sub) placed;
        losses = leaving_losses (case_of (references_to book at) placed sub) placed;
      }) None → after.misfit ≡ None
  none-met after exchanged can =
      let none = exchanged.proper (subst (λ (e : Exchange). CanExchange book e None) (sym exchange-is) can) in
      ap (λ (b : TreeRefs). b.misfit) exchanged.noted
      ∙ ap (λ (m : Option ℕ). option_or before.misfit m) none
      ∙ or_none before.misfit ∙ holds.fits
    where
      or_none : (m : Option ℕ) → option_or m None ≡ m
      or_none None = refl
      or_none (Some a) = refl
