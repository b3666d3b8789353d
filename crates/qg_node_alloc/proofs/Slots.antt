-- Which slots are free, after one is taken or given back.
use Rattle.std.proofs.Common.{◌≡◌, ◌≢◌, ℕ, ◌+◌, ◌<◌, ◌≤◌, Bool, false, true, List, [], ◌∷◌, ◌++◌, ◌==◌, arith, refl}
use Rattle.std.proofs.Common.{sym, ap, subst, ◌∙◌, inl, inr}
use Rattle.std.specs.Prelude.{None, not, Contains}
use Rattle.std.specs.List.{list_any}
use Rattle.std.proofs.lemmas.Bool.{and_parts, cond-true, eq-eqb, eqb-true, false_from_ne_true, not-true, not_from_false}
use Rattle.std.proofs.lemmas.Bool.{true≢false}
use Rattle.std.proofs.lemmas.List.Elements.{Contains-append_left, Contains-append_right, Contains-append_cases}
use Rattle.qg_super.specs.declared.sizes.Sizes.{Sizes}
use Rattle.qg_super.specs.Places.{is_served, is_slot}
use Rattle.qg_blocks.proofs.Contained.{contains_here, contains_later}
use Rattle.qg_blocks.specs.Table.{with_number}
use Rattle.qg_space.specs.Holding.{Holding, first_slot, free_slots, has_slot, is_free_slot, without_slot}
use Rattle.qg_space.proofs.FreeSlotCount.{free_slots-given, free_slots-none, free_slots-taken}
use Rattle.qg_space.proofs.Firsts.{is_free_slot-clear}
use Rattle.qg_space.proofs.Members.{Contains-has_slot, Contains-with_number, Contains-without_slot, passes_one}
use Rattle.qg_node_alloc.specs.Tellings.{MayLack}

-- ---- one slot

-- a free slot is a slot that nothing holds
pub free-parts : (holding : Holding) (at : ℕ) → is_free_slot holding at ≡ true → (is_slot holding.sizes at ≡ true)
    × (Contains (holding.slots ++ holding.held_slots) at → ⊥)
unfolding is_free_slot
free-parts holding at free =
    let there : ℕ → Bool = λ slot. slot == at in
    let parts = and_parts (is_slot holding.sizes at) (not (list_any there (holding.slots ++ holding.held_slots)))
    free in (
      parts.0,
      λ has. true≢false (sym (passes_one there (holding.slots ++ holding.held_slots) at has (eq-eqb at at refl))
          ∙ not-true _ parts.1),
    )

-- the present state has not a free one
pub free-absent : (holding : Holding) (at : ℕ) → is_free_slot holding at ≡ true → Contains holding.slots at → ⊥
free-absent holding at free has =
    (free-parts holding at free).1 (Contains-append_left holding.slots holding.held_slots at has)

-- nor has the last commit
pub free-apart : (holding : Holding) (at : ℕ) → is_free_slot holding at ≡ true → Contains holding.held_slots at → ⊥
free-apart holding at free has =
    (free-parts holding at free).1 (Contains-append_right holding.slots holding.held_slots at has)

-- what is free was free where the slot is still held if it was
pub free-less : (old new : Holding) (at : ℕ) → new.sizes ≡ old.sizes → new.held_slots ≡ old.held_slots
    → (Contains old.slots at → Contains new.slots at)
    → is_free_slot new at ≡ true → is_free_slot old at ≡ true
free-less old new at sizes held more free =
    let parts = free-parts new at free in
    is_free_slot-clear old at (subst (λ (s : Sizes). is_slot s at ≡ true) sizes parts.0)
    (λ has. parts.1 (elim (Contains-append_cases old.slots old.held_slots at has) [
      | inl here ↦ Contains-append_left new.slots new.held_slots at (more here)
      | inr there ↦ Contains-append_right new.slots new.held_slots at
          (subst (λ (ns : List ℕ). Contains ns at) (sym held) there)
    ]))

-- ---- a slot may be given back

-- all others are there as before
pub lack-more : (at : ℕ) (before after : List ℕ) (q : ℕ) → MayLack at before after → q ≢ at → Contains before q
    → Contains after q
lack-more at before after q (inl is) other has = subst (λ (ns : List ℕ). Contains ns q) (sym is) has
lack-more at before after q (inr is) other has =
    subst (λ (ns : List ℕ). Contains ns q) (sym is) ((Contains-without_slot at before q).1 (has, other))

-- and none comes
pub lack-less : (at : ℕ) (before after : List ℕ) (q : ℕ) → MayLack at before after → Contains after q
    → Contains before q
lack-less at before after q (inl is) has = subst (λ (ns : List ℕ). Contains ns q) is has
lack-less at before after q (inr is) has =
    ((Contains-without_slot at before q).0 (subst (λ (ns : List ℕ). Contains ns q) is has)).0

-- a slot that is taken is there, and all others as before
pub taken-here : (now : ℕ) (slots : List ℕ) → Contains (with_number now slots) now
taken-here now slots = (Contains-with_number now slots now).1 (inl refl)

pub taken-more : (now : ℕ) (slots : List ℕ) (q : ℕ) → Contains slots q → Contains (with_number now slots) q
taken-more now slots q has = (Contains-with_number now slots q).1 (inr has)

-- ---- how many are free

-- runs have no part in it
pub free_slots-same : (a b : Holding) → b.sizes ≡ a.sizes → b.slots ≡ a.slots → b.held_slots ≡ a.held_slots
    → free_slots b ≡ free_slots a
unfolding free_slots is_free_slot
free_slots-same a b sizes slots held =
    let Of : Sizes → List ℕ → List ℕ → Holding = λ s ns ms. record {
      sizes = s;
      runs = [];
      held_runs = [];
      slots = ns;
      held_slots = ms;
    } in
    ap (λ (s : Sizes). free_slots (Of s b.slots b.held_slots)) sizes
    ∙ ap (λ (ns : List ℕ). free_slots (Of a.sizes ns b.held_slots)) slots
    ∙ ap (λ (ms : List ℕ). free_slots (Of a.sizes a.slots ms)) held

-- no slot fewer is free where one may have been given back
pub free_slots-lack : (old new : Holding) (at : ℕ) → new.sizes ≡ old.sizes → new.held_slots ≡ old.held_slots
    → MayLack at old.slots new.slots → free_slots old ≤ free_slots new
free_slots-lack old new at sizes held (inl is) = let same = free_slots-same old new sizes is held in omega (arith, same)
free_slots-lack old new at sizes held (inr is) =
    let after : Holding = record old { slots = without_slot at old.slots } in
    let same = free_slots-same after new sizes is held in
    let more = free_slots-given old at in
    omega (arith, same, more)

-- and one at most where a free one is taken besides
pub free_slots-put : (old new : Holding) (now at : ℕ) → is_served old.sizes ≡ true → is_free_slot old now ≡ true
    → new.sizes ≡ old.sizes → new.held_slots ≡ old.held_slots
    → MayLack at (with_number now old.slots) new.slots → free_slots old ≤ 1 + free_slots new
free_slots-put old new now at served free sizes held lack =
    let mid : Holding = record old { slots = with_number now old.slots } in
    let taken = free_slots-taken old now served free in
    let more = free_slots-lack mid new at sizes held lack in
    omega (arith, taken, more)

-- where one is free there is a first one
pub some-free : (holding : Holding) → 0 < free_slots holding → first_slot holding ≡ None → ⊥
some-free holding some none = let zero = free_slots-none holding none in omega (arith, some, zero)

-- ---- a slot that is not there

-- slots without it are the same
pub without-absent : (at : ℕ) (slots : List ℕ) → (Contains slots at → ⊥) → without_slot at slots ≡ slots
without-absent at [] absent = refl
without-absent at (slot ∷ slots) absent =
    let other : not (slot == at) ≡ true =
    not_from_false (slot == at)
    (false_from_ne_true (slot == at)
    (λ is. absent (subst (λ (n : ℕ). Contains (n ∷ slots) at) (sym (eqb-true slot at is))
    (contains_here at slots)))) in
    cond-true (not (slot == at)) (slot ∷ without_slot at slots) (without_slot at slots) other
    ∙ ap (λ (ns : List ℕ). slot ∷ ns) (without-absent at slots (λ has. absent (contains_later slot slots at has)))

-- nothing changes where the present state hasn't got it
pub without-no_slot : (holding : Holding) (at : ℕ) → has_slot holding at ≡ false
    → holding ≡ record holding { slots = without_slot at holding.slots }
without-no_slot holding at absent =
    ap (λ (ns : List ℕ). record holding { slots = ns })
    (sym (without-absent at holding.slots (λ has. true≢false (sym ((Contains-has_slot holding at).1 has)
    ∙ absent))))
