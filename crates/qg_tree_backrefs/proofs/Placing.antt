-- Whether each address has come, gone or stayed once references were exchanged and a slot was taken or given back.
use Rattle.std.proofs.Common.{◌≡◌, ◌≢◌, ℕ, zero, suc, ◌+◌, ◌<◌, ◌≤◌, Bool, true, false, List, [], ◌∷◌, ◌++◌, length}
use Rattle.std.proofs.Common.{Option, Some, None, arith, refl, sym, ap, subst, ◌∙◌, inl, inr}
use Rattle.std.specs.Prelude.{◌⊎◌, ◌==◌, IsSome, IsTrue, Contains, nat_lt, if◌then◌else◌}
use Rattle.std.specs.Option.{option_or}
use Rattle.std.proofs.lemmas.Bool.{cases_Bool, lt-ltb, true≢false}
use Rattle.std.proofs.lemmas.Bool.Decides.{eqb_tells}
use Rattle.qg_device.specs.History.{Event, Unrecorded}
use Rattle.qg_node.specs.declared.node.Node.{Node}
use Rattle.qg_node.specs.Nodes.{header_of}
use Rattle.qg_items.specs.declared.extent.Reference.{Reference}
use Rattle.qg_items.specs.declared.extent.Reference.TheVariants.{KeyedBlock}
use Rattle.qg_image.specs.Table.{with_number}
use Rattle.qg_image.specs.State.{Placed}
use Rattle.qg_image.specs.Owed.{Owing}
use Rattle.qg_cow_refs.specs.declared.cases.Edits.{Edits}
use Rattle.qg_cow_refs.specs.declared.cases.Edits.TheVariants.{ShareOld, AddKeyed, TurnKeyed, TakeOver}
use Rattle.qg_cow_refs.specs.Children.{keyed_children, shared_children, way_to}
use Rattle.qg_cow_refs.specs.Copying.{children_gain, children_lose, copy_losses}
use Rattle.qg_node_alloc.specs.NodesFound.{fresh_at, held_at, told}
use Rattle.qg_space.specs.Holding.{Holding, has_slot, without_slot}
use Rattle.qg_space.proofs.Members.{Contains-has_slot, Contains-with_number, Contains-without_slot}
use Rattle.qg_node_alloc.specs.declared.ground.Ground.{Ground}
use Rattle.qg_node_alloc.specs.Tellings.{LetsGo}
use Rattle.qg_node_alloc.proofs.Lands.{fresh_at-told, none_first}
use Rattle.qg_refs.specs.declared.counted.Counted.{Counted}
use Rattle.qg_refs.specs.declared.kept.What.{What}
use Rattle.qg_refs.specs.declared.kept.Kept.{Kept}
use Rattle.qg_refs.specs.Book.{Book, IsBook, count_at, references_at, references_in, what_in}
use Rattle.qg_weighed.specs.Table.{book_of}
use Rattle.qg_tree_backrefs.specs.declared.coming.Coming.{Coming}
use Rattle.qg_tree_backrefs.specs.declared.tree_refs.TreeRefs.{TreeRefs}
use Rattle.qg_tree_backrefs.specs.Exchange.{Exchange, Exchanges, IsNew, times, what_comes, ways_to}
use Rattle.qg_tree_backrefs.specs.Following.{comes, copying_in, exchange_by_copy, placed_by, references_to}
use Rattle.qg_tree_backrefs.specs.Settled.{IsSettled, what_of}
use Rattle.qg_tree_backrefs.proofs.ReferenceTotals.{IsCounted-list, IsCounted-plus, IsCounted-same, IsCounted-times}
use Rattle.qg_tree_backrefs.proofs.ReferenceTotals.{many, total}
use Rattle.qg_tree_backrefs.proofs.Owings.{children-alike, many-alike, many-append, many-cons, shared-no_block}
use Rattle.qg_tree_backrefs.proofs.Settling.{HasCome, HasGone, HasStayed}
use Rattle.qg_tree_backrefs.proofs.Single.{count-total, length-total}
use Rattle.qg_tree_backrefs.proofs.Times.{times-append, times-nil, times-own, times_there}
use Rattle.qg_tree_backrefs.proofs.ExchangeInSteps.{nothing-kept}

-- ---- slots

both_same : (a b : Bool) → (a ≡ true → b ≡ true) → (b ≡ true → a ≡ true) → a ≡ b
both_same true b there back = sym (there refl)
both_same false true there back = back refl
both_same false false there back = refl

slots_as : (a b : Holding) (q : ℕ) → (Contains a.slots q → Contains b.slots q)
    → (Contains b.slots q → Contains a.slots q)
    → has_slot a q ≡ has_slot b q
slots_as a b q there back =
    both_same (has_slot a q) (has_slot b q)
    (λ has. (Contains-has_slot b q).1 (there ((Contains-has_slot a q).0 has)))
    (λ has. (Contains-has_slot a q).1 (back ((Contains-has_slot b q).0 has)))

pub slot-taken : (old new : Holding) (now : ℕ) → new.slots ≡ with_number now old.slots → has_slot new now ≡ true
slot-taken old new now is =
    (Contains-has_slot new now).1
    (subst (λ (list : List ℕ). Contains list now) (sym is) ((Contains-with_number now old.slots now).1 (inl refl)))

pub slot-beside : (old new : Holding) (now q : ℕ) → new.slots ≡ with_number now old.slots → q ≢ now → has_slot new q
    ≡ has_slot old q
slot-beside old new now q is differ =
    slots_as new old q
    (λ has. elim ((Contains-with_number now old.slots q).0 (subst (λ (list : List ℕ). Contains list q) is has)) [
      | inl same ↦ absurd (differ same)
      | inr was ↦ was
    ])
    (λ has. subst (λ (list : List ℕ). Contains list q) (sym is) ((Contains-with_number now old.slots q).1 (inr has)))

pub slot-given : (old new : Holding) (at : ℕ) → new.slots ≡ without_slot at old.slots → has_slot new at ≡ false
slot-given old new at is = elim (cases_Bool (has_slot new at)) [
  | inl has ↦
      let there = (Contains-without_slot at old.slots at).0
      (subst (λ (list : List ℕ). Contains list at) is ((Contains-has_slot new at).0 has)) in
      absurd (there.1 refl)
  | inr none ↦ none
]

pub slot-left : (old new : Holding) (at q : ℕ) → new.slots ≡ without_slot at old.slots → q ≢ at → has_slot new q
    ≡ has_slot old q
slot-left old new at q is differ =
    slots_as new old q
    (λ has. ((Contains-without_slot at old.slots q).0 (subst (λ (list : List ℕ). Contains list q) is has)).0)
    (λ has. subst (λ (list : List ℕ). Contains list q) (sym is)
    ((Contains-without_slot at old.slots q).1 (has, differ)))

-- ---- references

long_total : (xs : List Counted) → 0 < total xs → 0 < length xs
long_total [] some = absurd (omega (arith, some))
long_total (x ∷ xs) some = omega arith

kept_there : (kept : Option Kept) → 0 < length (references_in kept) → (some : Kept) × (kept ≡ Some some)
kept_there None some = absurd (omega (arith, some))
kept_there (Some kept) some = (kept, refl)

known_there : (kept : Option Kept) (what : What) → what_in kept ≡ Some what → (some : Kept) × (kept ≡ Some some)
known_there None what is = cc
known_there (Some kept) what is = (kept, refl)

nothing_there : (kept : Option Kept) → ((some : Kept) → kept ≡ Some some → 0 < length some.references)
    → length (references_in kept) ≡ 0
    → kept ≡ None
nothing_there None some none = refl
nothing_there (Some kept) some none = let least = some kept refl in absurd (omega (arith, least, none))

or_known : (known come : Option What) → come ≡ None → option_or known come ≡ known
or_known None come none = none
or_known (Some what) come none = refl

module _ (old new : Book) (exchange : Exchange) (coming : Option Coming) (sound : IsBook old)
    (done : Exchanges old new exchange coming) where
  -- where no node comes, references lead only where they led
  pub led-before : (q : ℕ) → what_comes coming q ≡ None → 0 < references_to new q → 0 < references_to old q
  led-before q none some =
      let kept = kept_there (new q) some in
      let known = sym (or_known (what_in (old q)) (what_comes coming q) none) ∙ done.known q kept.0 kept.1 in
      let was = known_there (old q) kept.0.what known in
      subst (λ (k : Option Kept). 0 < length (references_in k)) (sym was.1) (sound.some q was.0 was.1)

  -- all that is lost is gained and lost
  pub total-moved : (q : ℕ) → total (references_at new q) + many exchange.losses q
      ≡ total (references_at old q) + many (ways_to coming ++ exchange.gains) q
  total-moved q =
      IsCounted-same (λ (r : Reference). count_at new q r + times exchange.losses q r)
      (λ (r : Reference). count_at old q r + times (ways_to coming ++ exchange.gains) q r)
      (total (references_at new q) + many exchange.losses q)
      (total (references_at old q) + many (ways_to coming ++ exchange.gains) q)
      (IsCounted-plus (λ (r : Reference). count_at new q r) (λ (r : Reference). times exchange.losses q r)
      (total (references_at new q)) (many exchange.losses q) (IsCounted-list (references_at new q))
      (IsCounted-times exchange.losses q))
      (IsCounted-plus (λ (r : Reference). count_at old q r)
      (λ (r : Reference). times (ways_to coming ++ exchange.gains) q r)
      (total (references_at old q)) (many (ways_to coming ++ exchange.gains) q) (IsCounted-list (references_at old q))
      (IsCounted-times (ways_to coming ++ exchange.gains) q))
      (λ r. done.counts q r)

  -- and they lead still where no more is lost than gained
  pub led-still : (q : ℕ) → many exchange.losses q ≤ many exchange.gains q → 0 < references_to old q
      → 0 < references_to new q
  led-still q few some =
      let moved = total-moved q in
      let gained = many-append (ways_to coming) exchange.gains q in
      let least = length-total (references_at old q) (sound.sound q) in
      long_total (references_at new q) (omega (arith, moved, gained, least, few, some))

  led_alike : (q m n : ℕ) → what_comes coming q ≡ None → many exchange.losses q ≤ many exchange.gains q
      → references_to new q ≡ m
      → references_to old q ≡ n → nat_lt 0 (references_to new q) ≡ nat_lt 0 (references_to old q)
  led_alike q zero zero none few now was = ap (λ (k : ℕ). nat_lt 0 k) (now ∙ sym was)
  led_alike q zero (suc n) none few now was =
      let still = led-still q few (omega (arith, was)) in
      absurd (omega (arith, still, now))
  led_alike q (suc m) n none few now was =
      let before = led-before q none (omega (arith, now)) in
      lt-ltb 0 (references_to new q) (omega (arith, now)) ∙ sym (lt-ltb 0 (references_to old q) before)

  pub led-alike : (q : ℕ) → what_comes coming q ≡ None → many exchange.losses q ≤ many exchange.gains q
      → nat_lt 0 (references_to new q) ≡ nat_lt 0 (references_to old q)
  led-alike q none few = led_alike q (references_to new q) (references_to old q) none few refl refl

  -- what is known of what stays
  pub known-kept : (q : ℕ) → what_comes coming q ≡ None → 0 < references_to new q → what_in (new q) ≡ what_in (old q)
  known-kept q none some =
      let kept = kept_there (new q) some in
      ap what_in kept.1 ∙ sym (sym (or_known (what_in (old q)) (what_comes coming q) none) ∙ done.known q kept.0 kept.1)

  -- nothing is known where no reference leads
  pub unknown-gone : (q : ℕ) → references_to new q ≡ 0 → what_in (new q) ≡ None
  unknown-gone q none = ap what_in (nothing_there (new q) (λ kept there. done.book.some q kept there) none)

  known_alike : (q m : ℕ) → what_comes coming q ≡ None → many exchange.losses q ≤ many exchange.gains q
      → references_to new q ≡ m
      → what_in (new q) ≡ what_in (old q)
  known_alike q zero none few now =
      let was = nothing_before (references_to old q) refl in
      unknown-gone q now ∙ sym (ap what_in (nothing_there (old q) (λ kept there. sound.some q kept there) was))
    where
      nothing_before : (n : ℕ) → references_to old q ≡ n → references_to old q ≡ 0
      nothing_before zero is = is
      nothing_before (suc n) is = let still = led-still q few (omega (arith, is)) in absurd (omega (arith, still, now))
  known_alike q (suc m) none few now = known-kept q none (omega (arith, now))

  pub known-alike : (q : ℕ) → what_comes coming q ≡ None → many exchange.losses q ≤ many exchange.gains q
      → what_in (new q) ≡ what_in (old q)
  known-alike q none few = known_alike q (references_to new q) none few refl

-- what comes, and where none does
pub come-there : (coming : Coming) → what_comes (Some coming) coming.address ≡ Some coming.what
come-there coming = elim (eqb_tells coming.address coming.address) [
  | inl (equal, same) ↦ ap (λ (b : Bool). if b then Some coming.what else None) equal
  | inr (unequal, differ) ↦ absurd (differ refl)
]

pub come-elsewhere : (coming : Coming) (q : ℕ) → q ≢ coming.address → what_comes (Some coming) q ≡ None
come-elsewhere coming q differ = elim (eqb_tells q coming.address) [
  | inl (equal, same) ↦ absurd (differ same)
  | inr (unequal, other) ↦ ap (λ (b : Bool). if b then Some coming.what else None) unequal
]

module _ (old new : Book) (exchange : Exchange) (coming : Coming) (sound : IsBook old)
    (done : Exchanges old new exchange (Some coming))
    (lost : times exchange.losses coming.address (KeyedBlock coming.tree) ≡ 0) where
  -- a reference leads to the node that comes
  pub led-come : 0 < references_to new coming.address
  led-come =
      let count = done.counts coming.address (KeyedBlock coming.tree) in
      let first = times-append (ways_to (Some coming)) exchange.gains coming.address (KeyedBlock coming.tree) in
      let one = times-own (way_to coming.address coming.tree) in
      let all = count-total (references_at new coming.address) (KeyedBlock coming.tree) in
      long_total (references_at new coming.address) (omega (arith, count, first, one, all, lost))

  -- and this is known of it
  pub known-come : what_in (new coming.address) ≡ Some coming.what
  known-come =
      let none = nothing-kept old coming.address sound done.first in
      let kept = kept_there (new coming.address) led-come in
      ap what_in kept.1
      ∙ sym (sym (ap (λ (k : Option Kept). option_or (what_in k) (what_comes (Some coming) coming.address)) none
      ∙ come-there coming)
      ∙ done.known coming.address kept.0 kept.1)

-- ---- a node that goes

-- the land once no reference is left to a node, or as it was
pub record IsLetGo (book : Book) (old new : Ground) (at : ℕ) : Type 0 where
  pub stays : 0 < length (references_at book at) → new ≡ old
  pub goes : references_at book at ≡ [] → (held_at new.blocks at ≡ None)
      × (new.space ≡ record old.space { slots = without_slot at old.space.slots })
  pub gone : LetsGo old new at

no_list : (xs : List Counted) → length xs ≡ 0 → xs ≡ []
no_list [] none = refl
no_list (x ∷ xs) none = absurd (omega (arith, none))

module _ (book : Book) (old new : Ground) (at : ℕ) (let_go : IsLetGo book old new at) where
  -- other addresses are as they were
  pub fresh-left : (q : ℕ) → q ≢ at → fresh_at new.blocks.draft q ≡ fresh_at old.blocks.draft q
  fresh-left q differ = fresh_at-told old.blocks.draft new.blocks.draft q (let_go.gone.others (Unrecorded 0) q differ)

  slot_elsewhere : (q n : ℕ) → q ≢ at → length (references_at book at) ≡ n → has_slot new.space q ≡ has_slot old.space q
  slot_elsewhere q zero differ none =
      let gone = let_go.goes (no_list (references_at book at) none) in
      slot-left old.space new.space at q (ap (λ (h : Holding). h.slots) gone.1) differ
  slot_elsewhere q (suc n) differ some = ap (λ (l : Ground). has_slot l.space q) (let_go.stays (omega (arith, some)))

  pub slot-elsewhere : (q : ℕ) → q ≢ at → has_slot new.space q ≡ has_slot old.space q
  slot-elsewhere q differ = slot_elsewhere q (length (references_at book at)) differ refl

  held_same : (n : ℕ) → length (references_at book at) ≡ n
      → (new.space.held_slots ≡ old.space.held_slots) × (new.space.sizes ≡ old.space.sizes)
  held_same zero none =
      let gone = let_go.goes (no_list (references_at book at) none) in
      (ap (λ (h : Holding). h.held_slots) gone.1, ap (λ (h : Holding). h.sizes) gone.1)
  held_same (suc n) some =
      let same = let_go.stays (omega (arith, some)) in
      (ap (λ (l : Ground). l.space.held_slots) same, ap (λ (l : Ground). l.space.sizes) same)

  pub held-same : (new.space.held_slots ≡ old.space.held_slots) × (new.space.sizes ≡ old.space.sizes)
  held-same = held_same (length (references_at book at)) refl

  -- and the node went
  pub gone-there : length (references_at book at) ≡ 0 → (has_slot new.space at ≡ false)
      × (fresh_at new.blocks.draft at ≡ None)
  gone-there none =
      let gone = let_go.goes (no_list (references_at book at) none) in (
        slot-given old.space new.space at (ap (λ (h : Holding). h.slots) gone.1),
        none_first
            (fresh_at new.blocks.draft at) _ gone.0,
      )
