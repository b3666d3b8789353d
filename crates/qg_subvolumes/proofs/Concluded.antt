-- One node's step of a drop, by the calls that make it.
use Rattle.std.proofs.Common.{◌≡◌, ℕ, zero, suc, ◌<◌, Bool, true, false, List, [], ◌∷◌, length, Option, Some, None}
use Rattle.std.proofs.Common.{arith, refl, sym, ap, subst, ◌∙◌, inl, inr}
use Rattle.std.specs.Prelude.{◌&&◌, ◌==◌, not, if◌then◌else◌}
use Rattle.std.specs.Option.{option_or}
use Rattle.std.proofs.lemmas.Bool.{cases_Bool, cond-false, cond-true, eqb-false, eqb-true}
use Rattle.qg_device.specs.History.{History, Unrecorded}
use Rattle.qg_node.specs.declared.node.Node.{Node}
use Rattle.qg_image.specs.Table.{value_at}
use Rattle.qg_image.specs.declared.element.Element.{Element}
use Rattle.qg_image.specs.Owed.{owed_by_node}
use Rattle.qg_image.specs.State.{Placed, State}
use Rattle.qg_cow_refs.specs.declared.cases.Leaving.TheVariants.{Goes, TurnsFull, Stays}
use Rattle.qg_cow_refs.specs.Children.{owner_of}
use Rattle.qg_cow_refs.specs.Left.{case_of, leaving_gains, leaving_losses}
use Rattle.qg_blocks.specs.NodesFound.{IsBacked, clean_at, fresh_at, held_at, told}
use Rattle.qg_space.specs.Holding.{without_runs, without_slot}
use Rattle.qg_node_alloc.specs.declared.ground.Ground.{Ground}
use Rattle.qg_node_alloc.specs.Tellings.{LetsGo}
use Rattle.qg_node_alloc.proofs.Lands.{fresh_at-told, none_first}
use Rattle.qg_refs.specs.declared.counted.Counted.{Counted}
use Rattle.qg_refs.specs.Book.{Book, IsBook, references_at}
use Rattle.qg_extents.specs.Table.{book_of}
use Rattle.qg_tree_backrefs.specs.declared.tree_refs.TreeRefs.{TreeRefs}
use Rattle.qg_tree_backrefs.specs.Exchange.{Exchange, Exchanges}
use Rattle.qg_tree_backrefs.specs.Following.{IsExchanged, exchange_by_parting, full_by_leaving, parting_in}
use Rattle.qg_tree_backrefs.specs.Following.{references_to}
use Rattle.qg_subvolumes.specs.Dropping.{HoldsPartly, IsUnder, extents_known, without_references}
use Rattle.qg_subvolumes.proofs.Partly.{known-referred}
use Rattle.qg_subvolumes.proofs.Parted.{but, kept-then, known-before}
use Rattle.qg_subvolumes.proofs.Reading.{case-is, exchange-is, node-is}
use Rattle.qg_subvolumes.proofs.Stepped.{LandGoes, holds-goes, holds-stays}

-- a node goes where no reference is left, and there alone
goes_none : (count : ℕ) (placed : Placed) (tree : ℕ) → case_of count placed tree ≡ Goes → count ≡ 0
goes_none count placed tree goes = elim (cases_Bool (count == 0)) [
  | inl none ↦ eqb-true count 0 none
  | inr some ↦
      let other = cond-false (count == 0) Goes
      (if (owner_of placed == tree) && not placed.full then TurnsFull else Stays) some in
      absurd (by (owner_of placed == tree) placed.full (sym other ∙ goes))
]
  where
    by : (own full : Bool) → (if own && not full then TurnsFull else Stays) ≡ Goes → ⊥
    by true true goes = cc
    by true false goes = cc
    by false full goes = cc

stays_some : (count : ℕ) (placed : Placed) (tree : ℕ) → (case_of count placed tree ≡ Goes → ⊥) → 0 < count
stays_some count placed tree stays = elim (cases_Bool (count == 0)) [
  | inl none ↦ absurd (stays (cond-true (count == 0) Goes
      (if (owner_of placed == tree) && not placed.full then TurnsFull else Stays) none))
  | inr some ↦ let differ = eqb-false count 0 some in omega (arith, differ)
]

none_listed : (references : List Counted) → length references ≡ 0 → references ≡ []
none_listed [] none = refl
none_listed (entry ∷ references) none = absurd (omega (arith, none))

never_some : (n : ℕ) → (0 < n → ⊥) → n ≡ 0
never_some zero never = refl
never_some (suc n) never = absurd (never (omega arith))

or_first : (first last : Option ℕ) → first ≡ None → option_or first last ≡ last
or_first None last none = refl
or_first (Some at) last none = cc

module _ (land : Ground) (history : History) (before after : TreeRefs) (state : State) (sub : ℕ)
    (waiting : ℕ → Bool) (holds : HoldsPartly land history before state sub waiting)
    (is : IsBook (book_of before.refs)) (firm : IsBook (book_of after.refs)) (at : ℕ) (node : Node) (full : Bool)
    (placed : Placed) (there : value_at at state.layout ≡ Some placed) (mark : placed.full ≡ full)
    (waits : waiting at ≡ true) (under : IsUnder state waiting at) (backed : IsBacked land.blocks history)
    (held : held_at land.blocks at ≡ Some node)
    (exchanged : IsExchanged before
    (exchange_by_parting (book_of before.refs) before.tree (record { node = node; full = full })) after)
    (fits : after.misfit ≡ None) where
  abbrev book : Book
  book = book_of before.refs

  -- the node that is read is the layout's
  node_is : node ≡ placed.node
  node_is = node-is land history before state sub waiting holds is at node full placed there mark waits backed held

  case_is : parting_in book before.tree (record { node = node; full = full })
      ≡ case_of (references_to book at) placed sub
  case_is = case-is land history before state sub waiting holds is at node full placed there mark waits backed held

  exchange_is : exchange_by_parting book before.tree (record { node = node; full = full }) ≡ record {
    full = full_by_leaving (case_of (references_to book at) placed sub) at;
    gains = leaving_gains (case_of (references_to book at) placed sub) placed;
    losses = leaving_losses (case_of (references_to book at) placed sub) placed;
  }
  exchange_is = exchange-is land history before state sub waiting holds is at node full placed there mark waits backed
      held

  no_misfit : exchanged.misfit ≡ None
  no_misfit =
      sym (or_first before.misfit exchanged.misfit holds.fits)
      ∙ sym (ap (λ (b : TreeRefs). b.misfit) exchanged.noted) ∙ fits

  pub done : Exchanges book (book_of after.refs) (record {
    full = full_by_leaving (case_of (references_to book at) placed sub) at;
    gains = leaving_gains (case_of (references_to book at) placed sub) placed;
    losses = leaving_losses (case_of (references_to book at) placed sub) placed;
  }) None
  done = subst (λ (e : Exchange). Exchanges book (book_of after.refs) e None) exchange_is (exchanged.done no_misfit)

  -- where the node stays nodes and space are as they were
  pub parted-stays : (parting_in book before.tree (record { node = node; full = full }) ≡ Goes → ⊥)
      → HoldsPartly land history after state sub (but waiting at)
  parted-stays stays =
      holds-stays land history before state sub waiting holds is at placed there waits under after firm done
      (ap (λ (b : TreeRefs). b.nodesize) exchanged.noted) (ap (λ (b : TreeRefs). b.next) exchanged.noted)
      (ap (λ (b : TreeRefs). b.tree) exchanged.noted) fits
      (stays_some (references_to book at) placed sub (λ goes. stays (case_is ∙ goes)))

  -- where it goes, runs are given back, and it is let go
  module _ (goes : parting_in book before.tree (record { node = node; full = full }) ≡ Goes) (named gone : List Element)
      (known : named ≡ extents_known book (owed_by_node (record { node = node; full = false })))
      (value : gone ≡ without_references (book_of after.refs) named) (mid new : Ground)
      (given : mid ≡ record land { space = record land.space { runs = without_runs gone land.space.runs } })
      (lets : references_at (book_of after.refs) at ≡ [] → (held_at new.blocks at ≡ None)
      × (new.space ≡ record mid.space { slots = without_slot at mid.space.slots }))
      (left : LetsGo mid new at) where
    none_left : references_to book at ≡ 0
    none_left = goes_none (references_to book at) placed sub (sym case_is ∙ goes)

    none_then : references_at (book_of after.refs) at ≡ []
    none_then = none_listed (references_at (book_of after.refs) at)
        (never_some (references_to (book_of after.refs) at) (λ some.
        let kept = kept-then land history before state sub waiting holds is at placed there waits under
        (book_of after.refs) done at some in
        let was = known-referred book is at kept.0.what
        (known-before land history before state sub waiting holds is at placed there waits under (book_of after.refs)
        done at kept.0 kept.1) in
        omega (arith, was, none_left)))

    land_goes : LandGoes land new history at gone
    land_goes = record {
      others = λ q differ. left.others history q differ
          ∙ ap (λ (g : Ground). told g.blocks.draft history q) given;
      fresh = λ q differ. fresh_at-told mid.blocks.draft new.blocks.draft q (left.others (Unrecorded 0) q differ)
          ∙ ap (λ (g : Ground). fresh_at g.blocks.draft q) given;
      none = none_first (fresh_at new.blocks.draft at) (clean_at new.blocks at) (lets none_then).0;
      space = (lets none_then).1
          ∙ ap (λ (g : Ground). record g.space { slots = without_slot at g.space.slots }) given;
    }

    pub parted-goes : HoldsPartly new history after state sub (but waiting at)
    parted-goes =
        holds-goes land history before state sub waiting holds is at placed there waits under after firm done
        (ap (λ (b : TreeRefs). b.nodesize) exchanged.noted) (ap (λ (b : TreeRefs). b.next) exchanged.noted)
        (ap (λ (b : TreeRefs). b.tree) exchanged.noted) fits new gone land_goes none_left
        (value ∙ ap (λ (es : List Element). without_references (book_of after.refs) es) known
        ∙ ap (λ (n : Node). without_references (book_of after.refs)
        (extents_known book (owed_by_node (record { node = n; full = false })))) node_is)
