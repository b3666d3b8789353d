-- What a copy, a node that is made and one that is left leave standing of a subvolume's book, of nodes and of space.
use Rattle.std.proofs.Common.{◌≡◌, ◌≢◌, ℕ, zero, suc, ◌+◌, ◌-◌, ◌<◌, ◌≤◌, Bool, true, false, List, [], ◌∷◌, ◌++◌}
use Rattle.std.proofs.Common.{length, map, Option, Some, None, arith, refl, sym, ap, subst, ◌∙◌, inl, inr}
use Rattle.std.specs.Prelude.{◌⊎◌, ◌==◌, IsSome, nat_lt, if◌then◌else◌}
use Rattle.std.specs.List.{filter_map, flat_map}
use Rattle.std.proofs.lemmas.Bool.{lt-ltb}
use Rattle.std.proofs.lemmas.Bool.Decides.{eqb_tells}
use Rattle.qg_device.specs.History.{History}
use Rattle.qg_node.specs.declared.pointer.Pointer.{Pointer}
use Rattle.qg_node.specs.declared.item.Item.{Item}
use Rattle.qg_node.specs.declared.node.Header.{Header}
use Rattle.qg_node.specs.declared.node.Node.{Node}
use Rattle.qg_node.specs.Nodes.{header_of, own_items, own_pointers}
use Rattle.qg_items.specs.declared.extent.Reference.TheVariants.{KeyedBlock}
use Rattle.qg_image.specs.Table.{with_number}
use Rattle.qg_image.specs.ItemMeaning.{file_part}
use Rattle.qg_image.specs.State.{Placed}
use Rattle.qg_image.specs.Owed.{Owing, owed_by_node, owed_by_part, owed_to_child}
use Rattle.qg_cow_refs.specs.declared.cases.Edits.{Edits}
use Rattle.qg_cow_refs.specs.declared.cases.Edits.TheVariants.{ShareOld, AddKeyed, TurnKeyed, TakeOver}
use Rattle.qg_cow_refs.specs.declared.cases.Leaving.{Leaving}
use Rattle.qg_cow_refs.specs.declared.cases.Leaving.TheVariants.{Goes, TurnsFull, Stays}
use Rattle.qg_cow_refs.specs.Children.{keyed_children, owner_of, shared_children, way_to}
use Rattle.qg_cow_refs.specs.Copying.{children_gain, copy_losses}
use Rattle.qg_cow_refs.specs.Left.{leaving_losses}
use Rattle.qg_node_alloc.specs.NodesFound.{fresh_at}
use Rattle.qg_space.specs.Holding.{Holding, has_slot}
use Rattle.qg_node_alloc.specs.declared.ground.Ground.{Ground}
use Rattle.qg_refs.specs.declared.kept.What.{What}
use Rattle.qg_refs.specs.Book.{IsBook, references_at, what_in}
use Rattle.qg_weighed.specs.Table.{book_of}
use Rattle.qg_tree_backrefs.specs.declared.tree_refs.TreeRefs.{TreeRefs}
use Rattle.qg_tree_backrefs.specs.Exchange.{Exchange, Exchanges, times, what_comes}
use Rattle.qg_tree_backrefs.specs.Following.{comes, copying_in, exchange_by_copy, exchange_by_leaving, leaving_in}
use Rattle.qg_tree_backrefs.specs.Following.{placed_by, references_to}
use Rattle.qg_tree_backrefs.specs.Settled.{IsSettled, what_of}
use Rattle.qg_tree_backrefs.proofs.ReferenceTotals.{many}
use Rattle.qg_tree_backrefs.proofs.Keyed.{keyed-under}
use Rattle.qg_tree_backrefs.proofs.Owings.{children-alike, many-alike, many-cons, shared-no_block, times-cons}
use Rattle.qg_tree_backrefs.proofs.Placing.{IsLetGo, come-elsewhere, fresh-left, gone-there, held-same, known-alike}
use Rattle.qg_tree_backrefs.proofs.Placing.{known-come, known-kept, led-alike, led-before, led-come, slot-beside}
use Rattle.qg_tree_backrefs.proofs.Placing.{slot-elsewhere, slot-taken, unknown-gone}
use Rattle.qg_tree_backrefs.proofs.Settling.{HasCome, HasGone, HasStayed, IsSettled-each}
use Rattle.qg_tree_backrefs.proofs.Times.{times-nil, times_there}

-- ---- what is known of what comes

known_as : (bytes next level : ℕ) (new : TreeRefs) (mine : Node) → new.nodesize ≡ bytes → new.next ≡ next
    → (header_of mine).level ≡ level
    → Some (record { bytes = bytes; level = Some level; generation = next }) ≡ Some (what_of new.nodesize new.next mine)
known_as bytes next level new mine size date levelled =
    ap (λ (n : ℕ). Some (record { bytes = n; level = Some level; generation = next })) (sym size)
    ∙ ap (λ (n : ℕ). Some (record { bytes = new.nodesize; level = Some level; generation = n })) (sym date)
    ∙ ap (λ (n : ℕ). Some (record { bytes = new.nodesize; level = Some n; generation = new.next })) (sym levelled)

-- a slot was taken, and a fresh node lies there, where none did; all else is as it was
pub record IsPutAt (old new : Ground) (now : ℕ) (mine : Node) : Type 0 where
  pub here : fresh_at new.blocks.draft now ≡ Some mine
  pub others : (q : ℕ) → q ≢ now → fresh_at new.blocks.draft q ≡ fresh_at old.blocks.draft q
  pub space : new.space ≡ record old.space { slots = with_number now old.space.slots }
  pub sizes : new.blocks.draft.sizes ≡ old.blocks.draft.sizes

-- what is fresh is fresh with the same node
fresh_as : (a b : Option Node) → b ≡ a → (node : Node) → b ≡ Some node → (was : Node) × (a ≡ Some was)
    × ((header_of was).level ≡ (header_of node).level)
fresh_as a b same node is = (node, sym same ∙ is, refl)

still_as : (a b : Option Node) → b ≡ a → IsSome a → IsSome b
still_as a b same some = subst (λ (o : Option Node). IsSome o) (sym same) some

-- ---- a node that is made

module _ (old new : TreeRefs) (before land : Ground) (history : History) (at level : ℕ) (mine : Node)
    (settled : IsSettled old before history) (sound : IsBook (book_of old.refs))
    (done : Exchanges (book_of old.refs) (book_of new.refs) (record { full = None; gains = []; losses = [] })
    (Some (comes old at level)))
    (nodesize : new.nodesize ≡ old.nodesize) (next : new.next ≡ old.next)
    (put : IsPutAt before land at mine) (levelled : (header_of mine).level ≡ level) where
  made_each : (q : ℕ) → HasCome new land q ⊎ (HasGone new land q ⊎ HasStayed old new before land q)
  made_each q = elim (eqb_tells q at) [
    | inl (equal, same) ↦ inl (subst (λ (a : ℕ). HasCome new land a) (sym same) (record {
      taken = slot-taken before.space land.space at (ap (λ (h : Holding). h.slots) put.space);
      referred = led-come (book_of old.refs) (book_of new.refs) (record { full = None; gains = []; losses = [] })
          (comes old at level) sound done (times-nil at (KeyedBlock old.tree));
      mine = mine;
      here = put.here;
      known = known-come (book_of old.refs) (book_of new.refs) (record { full = None; gains = []; losses = [] })
          (comes old at level) sound done (times-nil at (KeyedBlock old.tree))
          ∙ known_as old.nodesize old.next level new mine nodesize next levelled;
    }))
    | inr (unequal, differ) ↦
        let none = come-elsewhere (comes old at level) q differ in
        inr (inr (record {
          slot = slot-beside before.space land.space at q (ap (λ (h : Holding). h.slots) put.space) differ;
          referred = led-alike (book_of old.refs) (book_of new.refs) (record { full = None; gains = []; losses = [] })
              (Some (comes old at level)) sound done q none (omega arith);
          known = known-alike (book_of old.refs) (book_of new.refs) (record { full = None; gains = []; losses = [] })
              (Some (comes old at level)) sound done q none (omega arith);
          fresh = fresh_as (fresh_at before.blocks.draft q) (fresh_at land.blocks.draft q) (put.others q differ);
          still = still_as (fresh_at before.blocks.draft q) (fresh_at land.blocks.draft q) (put.others q differ);
        }))
  ]

  pub IsSettled-made : IsSettled new land history
  IsSettled-made =
      IsSettled-each old new before land history settled nodesize next (ap (λ (h : Holding). h.sizes) put.space)
      put.sizes
      (ap (λ (h : Holding). h.held_slots) put.space) made_each

-- ---- a copy

none_elsewhere : (at tree q : ℕ) (rest : List Owing) → q ≢ at → many (way_to at tree ∷ rest) q ≡ many rest q
none_elsewhere at tree q rest differ = elim (eqb_tells at q) [
  | inl (equal, same) ↦ absurd (differ (sym same))
  | inr (unequal, other) ↦
      let first = many-cons (way_to at tree) rest q in
      let none = ap {B = ℕ} (λ (b : Bool). if b then 1 else 0) unequal in
      omega (arith, first, none)
]

-- no more is lost than gained but at the node itself
copy_few : (edits : Edits) (placed : Placed) (tree q : ℕ) → q ≢ (header_of placed.node).address
    → many (copy_losses edits placed tree) q ≤ many (children_gain edits placed tree) q
copy_few ShareOld placed tree q differ = let none = none_elsewhere (header_of placed.node).address tree q [] differ in
    omega (arith, none)
copy_few AddKeyed placed tree q differ = let none = none_elsewhere (header_of placed.node).address tree q [] differ in
    omega (arith, none)
copy_few TurnKeyed placed tree q differ =
    let none = none_elsewhere (header_of placed.node).address tree q (shared_children placed.node) differ in
    let alike = many-alike (keyed_children placed.node tree) (shared_children placed.node)
    (children-alike placed.node tree) q in
    omega (arith, none, alike)
copy_few TakeOver placed tree q differ = let none = none_elsewhere (header_of placed.node).address tree q [] differ in
    omega (arith, none)

copy_none : (edits : Edits) (placed : Placed) (tree other q : ℕ) → q ≢ (header_of placed.node).address
    → times (copy_losses edits placed tree) q (KeyedBlock other) ≡ 0
copy_none ShareOld placed tree other q differ = times_there (way_to (header_of placed.node).address tree) q
    (KeyedBlock other) (λ same. differ (sym same))
copy_none AddKeyed placed tree other q differ = times_there (way_to (header_of placed.node).address tree) q
    (KeyedBlock other) (λ same. differ (sym same))
copy_none TurnKeyed placed tree other q differ =
    let first = times-cons (way_to (header_of placed.node).address tree) (shared_children placed.node) q
    (KeyedBlock other) in
    let none = times_there (way_to (header_of placed.node).address tree) q (KeyedBlock other)
    (λ same. differ (sym same)) in
    let shared = shared-no_block placed.node other q in
    omega (arith, first, none, shared)
copy_none TakeOver placed tree other q differ = times_there (way_to (header_of placed.node).address tree) q
    (KeyedBlock other) (λ same. differ (sym same))

module _ (old new : TreeRefs) (before land after : Ground) (history : History) (node : Node) (copy : ℕ)
    (mine : Node)
    (settled : IsSettled old before history) (sound : IsBook (book_of old.refs))
    (done : Exchanges (book_of old.refs) (book_of new.refs) (exchange_by_copy (book_of old.refs) old.tree node)
    (Some (comes old copy (header_of node).level)))
    (nodesize : new.nodesize ≡ old.nodesize) (next : new.next ≡ old.next)
    (put : IsPutAt before land copy mine) (levelled : (header_of mine).level ≡ (header_of node).level)
    (clean : fresh_at land.blocks.draft (header_of node).address ≡ None)
    (let_go : IsLetGo (book_of new.refs) land after (header_of node).address)
    (sizes : after.blocks.draft.sizes ≡ land.blocks.draft.sizes) where
  exchange : Exchange
  exchange = exchange_by_copy (book_of old.refs) old.tree node

  coming_is : Exchanges (book_of old.refs) (book_of new.refs) exchange (Some (comes old copy (header_of node).level))
  unfolding exchange
  coming_is = done

  -- the copy lies elsewhere
  apart : copy ≢ (header_of node).address
  apart same =
      let wrong : None ≡ Some mine = sym clean ∙ ap (λ (a : ℕ). fresh_at land.blocks.draft a) (sym same) ∙ put.here in
      cc

  few : (q : ℕ) → q ≢ (header_of node).address → many exchange.losses q ≤ many exchange.gains q
  unfolding exchange
  few q differ = copy_few (copying_in (book_of old.refs) old.tree node) (placed_by (book_of old.refs) node) old.tree q
      differ

  lost_none : times exchange.losses copy (KeyedBlock old.tree) ≡ 0
  unfolding exchange
  lost_none = copy_none (copying_in (book_of old.refs) old.tree node) (placed_by (book_of old.refs) node) old.tree
      old.tree copy apart

  copied_there : HasCome new after copy
  copied_there = record {
    taken = slot-elsewhere (book_of new.refs) land after (header_of node).address let_go copy apart
        ∙ slot-taken before.space land.space copy (ap (λ (h : Holding). h.slots) put.space);
    referred = led-come (book_of old.refs) (book_of new.refs) exchange (comes old copy (header_of node).level) sound
        coming_is lost_none;
    mine = mine;
    here = fresh-left (book_of new.refs) land after (header_of node).address let_go copy apart ∙ put.here;
    known = known-come (book_of old.refs) (book_of new.refs) exchange (comes old copy (header_of node).level) sound
        coming_is lost_none
        ∙ known_as old.nodesize old.next (header_of node).level new mine nodesize next levelled;
  }

  -- the node itself went, or stays
  left_there : (n : ℕ) → references_to (book_of new.refs) (header_of node).address ≡ n
      → HasGone new after (header_of node).address ⊎ HasStayed old new before after (header_of node).address
  left_there zero none =
      let gone = gone-there (book_of new.refs) land after (header_of node).address let_go none in
      inl (record {
        given = gone.0;
        none = none;
        unknown = unknown-gone (book_of old.refs) (book_of new.refs) exchange
            (Some (comes old copy (header_of node).level)) sound coming_is (header_of node).address none;
        clean = gone.1;
      })
  left_there (suc n) some =
      let there : 0 < references_to (book_of new.refs) (header_of node).address = omega (arith, some) in
      let same = let_go.stays there in
      let no_come = come-elsewhere (comes old copy (header_of node).level) (header_of node).address
      (λ (is : (header_of node).address ≡ copy). apart (sym is)) in
      let was = led-before (book_of old.refs) (book_of new.refs) exchange
      (Some (comes old copy (header_of node).level)) sound coming_is (header_of node).address no_come there in
      let none_before =
      sym (put.others (header_of node).address (λ (is : (header_of node).address ≡ copy). apart (sym is)))
      ∙ clean in
      let none_after = ap (λ (l : Ground). fresh_at l.blocks.draft (header_of node).address) same ∙ clean in
      inr (record {
        slot = ap (λ (l : Ground). has_slot l.space (header_of node).address) same
            ∙ slot-beside before.space land.space copy (header_of node).address
            (ap (λ (h : Holding). h.slots) put.space) (λ (is : (header_of node).address ≡ copy). apart (sym is));
        referred = lt-ltb 0 (references_to (book_of new.refs) (header_of node).address) there
            ∙ sym (lt-ltb 0 (references_to (book_of old.refs) (header_of node).address) was);
        known = known-kept (book_of old.refs) (book_of new.refs) exchange
            (Some (comes old copy (header_of node).level)) sound coming_is (header_of node).address no_come there;
        fresh = fresh_as (fresh_at before.blocks.draft (header_of node).address)
            (fresh_at after.blocks.draft (header_of node).address) (none_after ∙ sym none_before);
        still = still_as (fresh_at before.blocks.draft (header_of node).address)
            (fresh_at after.blocks.draft (header_of node).address) (none_after ∙ sym none_before);
      })

  copied_each : (q : ℕ) → HasCome new after q ⊎ (HasGone new after q ⊎ HasStayed old new before after q)
  copied_each q = elim (eqb_tells q copy) [
    | inl (equal, same) ↦ inl (subst (λ (a : ℕ). HasCome new after a) (sym same) copied_there)
    | inr (unequal, differ) ↦ elim (eqb_tells q (header_of node).address) [
      | inl (alike, here) ↦
          inr (subst (λ (a : ℕ). HasGone new after a ⊎ HasStayed old new before after a) (sym here)
          (left_there (references_to (book_of new.refs) (header_of node).address) refl))
      | inr (other, elsewhere) ↦
          let none = come-elsewhere (comes old copy (header_of node).level) q differ in
          let same = fresh-left (book_of new.refs) land after (header_of node).address let_go q elsewhere
          ∙ put.others q differ in
          inr (inr (record {
            slot = slot-elsewhere (book_of new.refs) land after (header_of node).address let_go q elsewhere
                ∙ slot-beside before.space land.space copy q (ap (λ (h : Holding). h.slots) put.space) differ;
            referred = led-alike (book_of old.refs) (book_of new.refs) exchange
                (Some (comes old copy (header_of node).level)) sound coming_is q none (few q elsewhere);
            known = known-alike (book_of old.refs) (book_of new.refs) exchange
                (Some (comes old copy (header_of node).level)) sound coming_is q none (few q elsewhere);
            fresh = fresh_as (fresh_at before.blocks.draft q) (fresh_at after.blocks.draft q) same;
            still = still_as (fresh_at before.blocks.draft q) (fresh_at after.blocks.draft q) same;
          }))
    ]
  ]

  pub IsSettled-copied : IsSettled new after history
  IsSettled-copied =
      let kept = held-same (book_of new.refs) land after (header_of node).address let_go in
      IsSettled-each old new before after history settled nodesize next
      (kept.1 ∙ ap (λ (h : Holding). h.sizes) put.space) (sizes ∙ put.sizes)
      (kept.0 ∙ ap (λ (h : Holding). h.held_slots) put.space) copied_each

-- ---- a node that is left

-- a node that holds nothing owes nothing
bare_owes : (placed : Placed) → own_items placed.node ≡ [] → own_pointers placed.node ≡ [] → owed_by_node placed ≡ []
unfolding owed_by_node
bare_owes placed no_items no_pointers = simp (no_items, no_pointers)

pub bare-keyed : (node : Node) (tree : ℕ) → own_items node ≡ [] → own_pointers node ≡ [] → keyed_children node tree ≡ []
bare-keyed node tree no_items no_pointers =
    let header : Header = record (header_of node) { owner = tree } in
    sym (keyed-under header node tree refl)
    ∙ ap (λ (pointers : List Pointer). map (λ (pointer : Pointer). owed_to_child header false pointer.child) pointers
    ++ flat_map (λ (item : Item). owed_by_part header false (file_part item)) (own_items node)) no_pointers
    ∙ ap (λ (items : List Item). flat_map (λ (item : Item). owed_by_part header false (file_part item)) items) no_items

bare_loses : (leaving : Leaving) (placed : Placed) → own_items placed.node ≡ [] → own_pointers placed.node ≡ []
    → leaving_losses leaving placed ≡ []
bare_loses Goes placed no_items no_pointers = bare_owes placed no_items no_pointers
bare_loses TurnsFull placed no_items no_pointers = bare-keyed placed.node (owner_of placed) no_items no_pointers
bare_loses Stays placed no_items no_pointers = refl

-- the level that is known
abbrev level_in : Option What → Option ℕ
level_in None = None
level_in (Some what) = what.level

-- fresh nodes were edited where they lay, and a node among them was emptied
pub record IsEmptied (old new : Ground) (at : ℕ) (node : Node) : Type 0 where
  pub space : new.space ≡ old.space
  pub sizes : new.blocks.draft.sizes ≡ old.blocks.draft.sizes
  pub here : fresh_at new.blocks.draft at ≡ Some node
  pub address : (header_of node).address ≡ at
  pub no_items : own_items node ≡ []
  pub no_pointers : own_pointers node ≡ []
  pub was : Node
  pub there : fresh_at old.blocks.draft at ≡ Some was
  pub each : (q : ℕ) (other : Node) → q ≢ at → fresh_at new.blocks.draft q ≡ Some other
      → (before : Node) × (fresh_at old.blocks.draft q ≡ Some before)
      × ((header_of before).level ≡ (header_of other).level)
  pub still : (q : ℕ) → IsSome (fresh_at old.blocks.draft q) → IsSome (fresh_at new.blocks.draft q)

module _ (old new : TreeRefs) (before land after : Ground) (history : History) (at : ℕ) (node : Node)
    (settled : IsSettled old before history) (sound : IsBook (book_of old.refs))
    (done : Exchanges (book_of old.refs) (book_of new.refs) (exchange_by_leaving (book_of old.refs) old.tree node) None)
    (nodesize : new.nodesize ≡ old.nodesize) (next : new.next ≡ old.next) (emptied : IsEmptied before land at node)
    (levelled : 0 < references_to (book_of new.refs) at → (what : What) × (what_in (book_of new.refs at) ≡ Some what)
    × (what.level ≡ Some (header_of node).level))
    (let_go : IsLetGo (book_of new.refs) land after at) (sizes : after.blocks.draft.sizes ≡ land.blocks.draft.sizes)
  where
    leaving : Exchange
    leaving = exchange_by_leaving (book_of old.refs) old.tree node

    leaving_is : Exchanges (book_of old.refs) (book_of new.refs) leaving None
    unfolding leaving
    leaving_is = done

    few_lost : (q : ℕ) → q ≢ at → many leaving.losses q ≤ many leaving.gains q
    unfolding leaving
    few_lost q differ =
        let none = none_elsewhere (header_of node).address old.tree q
        (leaving_losses (leaving_in (book_of old.refs) old.tree node) (placed_by (book_of old.refs) node))
        (λ (same : q ≡ (header_of node).address). differ (same ∙ emptied.address)) in
        let nothing = ap (λ (xs : List Owing). many xs q)
        (bare_loses (leaving_in (book_of old.refs) old.tree node) (placed_by (book_of old.refs) node)
        emptied.no_items emptied.no_pointers) in
        omega (arith, none, nothing)

    left_stays : (n : ℕ) → references_to (book_of new.refs) at ≡ n → HasGone new after at
        ⊎ HasStayed old new before after at
    left_stays zero none =
        let gone = gone-there (book_of new.refs) land after at let_go none in
        inl (record {
          given = gone.0;
          none = none;
          unknown = unknown-gone (book_of old.refs) (book_of new.refs) leaving None sound leaving_is at none;
          clean = gone.1;
        })
    left_stays (suc n) some =
        let there : 0 < references_to (book_of new.refs) at = omega (arith, some) in
        let same = let_go.stays there in
        let was = led-before (book_of old.refs) (book_of new.refs) leaving None sound leaving_is at refl there in
        let known = known-kept (book_of old.refs) (book_of new.refs) leaving None sound leaving_is at refl there in
        inr (record {
          slot = ap (λ (l : Ground). has_slot l.space at) same ∙ ap (λ (h : Holding). has_slot h at) emptied.space;
          referred = lt-ltb 0 (references_to (book_of new.refs) at) there
              ∙ sym (lt-ltb 0 (references_to (book_of old.refs) at) was);
          known = known;
          fresh = λ other is. one_level there same known other is;
          still = λ fresh. still_as (fresh_at land.blocks.draft at) (fresh_at after.blocks.draft at)
              (ap (λ (l : Ground). fresh_at l.blocks.draft at) same) (emptied.still at fresh);
        })
      where
        -- it is of the level that is known of it
        one_level : 0 < references_to (book_of new.refs) at → after ≡ land → what_in (book_of new.refs at)
            ≡ what_in (book_of old.refs at)
            → (other : Node) → fresh_at after.blocks.draft at ≡ Some other
            → (before_node : Node) × (fresh_at before.blocks.draft at ≡ Some before_node)
            × ((header_of before_node).level ≡ (header_of other).level)
        one_level there same known other is =
            let one : Some node ≡ Some other = sym emptied.here
            ∙ sym (ap (λ (l : Ground). fresh_at l.blocks.draft at) same) ∙ is in
            let node_is : node ≡ other = cc in
            let level = levelled there in
            let then_known : what_in (book_of old.refs at) ≡ Some (what_of old.nodesize old.next emptied.was) =
            settled.fresh at emptied.was emptied.there in
            let both : Some (header_of emptied.was).level ≡ Some (header_of node).level =
            ap level_in (sym then_known ∙ sym known ∙ level.1) ∙ level.2 in
            let level_is : (header_of emptied.was).level ≡ (header_of node).level = cc in
            (emptied.was, emptied.there, level_is ∙ ap (λ (n : Node). (header_of n).level) node_is)

    left_each : (q : ℕ) → HasCome new after q ⊎ (HasGone new after q ⊎ HasStayed old new before after q)
    left_each q = elim (eqb_tells q at) [
      | inl (equal, here) ↦
          inr (subst (λ (a : ℕ). HasGone new after a ⊎ HasStayed old new before after a) (sym here)
          (left_stays (references_to (book_of new.refs) at) refl))
      | inr (unequal, differ) ↦
          let same = fresh-left (book_of new.refs) land after at let_go q differ in
          inr (inr (record {
            slot = slot-elsewhere (book_of new.refs) land after at let_go q differ ∙ ap (λ (h : Holding). has_slot h q)
                emptied.space;
            referred = led-alike (book_of old.refs) (book_of new.refs) leaving None sound leaving_is q refl
                (few_lost q differ);
            known = known-alike (book_of old.refs) (book_of new.refs) leaving None sound leaving_is q refl
                (few_lost q differ);
            fresh = λ other is. emptied.each q other differ (sym same ∙ is);
            still = λ fresh. still_as (fresh_at land.blocks.draft q) (fresh_at after.blocks.draft q) same
                (emptied.still q fresh);
          }))
    ]

    pub IsSettled-left : IsSettled new after history
    IsSettled-left =
        let kept = held-same (book_of new.refs) land after at let_go in
        IsSettled-each old new before after history settled nodesize next
        (kept.1 ∙ ap (λ (h : Holding). h.sizes) emptied.space) (sizes ∙ emptied.sizes)
        (kept.0 ∙ ap (λ (h : Holding). h.held_slots) emptied.space) left_each
