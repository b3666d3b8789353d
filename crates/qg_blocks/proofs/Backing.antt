-- Clean nodes are what stands on the disk.
use Rattle.std.proofs.Common.{◌≡◌, ℕ, nat_eq, true, false, ◌≢◌, ◌⊎◌, List, [], ◌∷◌, Contains, refl, sym, ap, subst, ◌∙◌}
use Rattle.std.proofs.Common.{inl, inr}
use Rattle.std.specs.Prelude.{Option, Some, None, IsSome, Bool, cond}
use Rattle.std.proofs.lemmas.Bool.{cases_Bool, cond-false, cond-true, eqb-true}
use Rattle.std.specs.Cmp.{nat_eq_equiv}
use Rattle.lru.specs.LruCache.{lru_cache, promoted, put_entries}
use Rattle.lru.proofs.CallerLemmas.{Contains-lookup, Contains-promoted, Contains-put_entries, Contains-remove_entry}
use Rattle.std.specs.Map.{remove_entry}
use Rattle.std.specs.Map.{keys_of, lookup}
use Rattle.std.specs.List.{AllByRecursion, IsDistinct}
use Rattle.std.specs.Ordering.{nat_cmp}
use Rattle.std.specs.BTreeMap.{is_at}
use Rattle.lru.proofs.Splits.{Contains-cons, Contains-nil}
use Rattle.qg_blocks.proofs.Telling.{fresh-set, is_at-same, is_at-other}
use Rattle.qg_device.specs.History.{History, content}
use Rattle.qg_node.specs.declared.node.Node.{Node}
use Rattle.qg_blocks.specs.NodesInMemory.{Draft, Held, with_node}
use Rattle.qg_super.specs.declared.sizes.Sizes.{Sizes}
use Rattle.qg_blocks.specs.Standing.{standing}
use Rattle.qg_blocks.specs.NodesFound.{IsBacked, IsNodeAt, StandsThere, fresh_at}
use Rattle.qg_blocks.specs.Writing.{AreWritten}

-- fewer clean ones are so too, and beside fewer fresh ones
pub IsBacked-fewer : (old new : Held) (history : History) → new.draft.sizes ≡ old.draft.sizes
    → ((q : ℕ) → fresh_at old.draft q ≡ None → fresh_at new.draft q ≡ None)
    → ((e : ℕ × Node) → Contains new.clean e → Contains old.clean e) → IsBacked old history → IsBacked new history
IsBacked-fewer old new history same less fewer backed = record {
  stands = λ address node here events told. ap (λ (s : Sizes). standing s (content events) address) same
      ∙ backed.stands address node (fewer (address, node) here) events told;
  apart = λ address node here. less address (backed.apart address node (fewer (address, node) here));
  kept = λ address node here. subst (λ (s : Sizes). IsNodeAt s.nodesize address node) (sym same)
      (backed.kept address node (fewer (address, node) here));
}

pub IsBacked-promoted : (held : Held) (history : History) (address : ℕ) → IsBacked held history
    → IsBacked (record held { clean = promoted (nat_eq address) held.clean }) history
IsBacked-promoted held history address =
    IsBacked-fewer held (record held { clean = promoted (nat_eq address) held.clean }) history refl (λ q none. none)
    (λ e here. Contains-promoted (nat_eq address) held.clean e here)

-- each entry after a node was put is it, or was there
put_cases : (held : Held) (address : ℕ) (node : Node) (at : ℕ) (kept : Node)
    → Contains (put_entries nat_eq (lru_cache held.clean held.bound) address node) (at, kept)
    → Contains held.clean (at, kept) ⊎ ((at ≡ address) × (kept ≡ node))
put_cases held address node at kept here =
    elim (Contains-put_entries nat_eq (lru_cache held.clean held.bound) address node (at, kept) here) [
      | inl before ↦ inl before
      | inr (same, which) ↦ elim which [
        | inl there ↦ inr (there, same)
        | inr (w, before, is) ↦ inr (sym (eqb-true address at is), same)
      ]
    ]

-- and with one that stands there, and is not fresh
pub IsBacked-put : (held : Held) (history : History) (address : ℕ) (node : Node)
    → fresh_at held.draft address ≡ None → IsNodeAt held.draft.sizes.nodesize address node
    → StandsThere held.draft.sizes history address node
    → IsBacked held history
    → IsBacked (record held { clean = put_entries nat_eq (lru_cache held.clean held.bound) address node }) history
IsBacked-put held history address node none sound stands backed = record {
  stands = λ at kept here. elim (put_cases held address node at kept here) [
    | inl before ↦ backed.stands at kept before
    | inr (there, same) ↦ rw (there, same) stands
  ];
  apart = λ at kept here. elim (put_cases held address node at kept here) [
    | inl before ↦ backed.apart at kept before
    | inr (there, same) ↦ rw there none
  ];
  kept = λ at kept here. elim (put_cases held address node at kept here) [
    | inl before ↦ backed.kept at kept before
    | inr (there, same) ↦ rw (there, same) sound
  ];
}

pub IsBacked-same : (old new : Held) (history history' : History) → new ≡ old → history' ≡ history
    → IsBacked old history → IsBacked new history'
IsBacked-same old new history history' same same' backed =
    subst (λ (held : Held). IsBacked held history') (sym same)
    (subst (λ (h : History). IsBacked old h) (sym same') backed)

-- ---- one of them goes

pub none_either : (b : Bool) (o : Option Node) → o ≡ None → cond b None o ≡ None
none_either true o none = refl
none_either false o none = none

pub IsBacked-forget : (old new : Held) (history : History) (address : ℕ) → new.draft.sizes ≡ old.draft.sizes
    → ((q : ℕ) → fresh_at new.draft q ≡ cond (is_at (nat_cmp address) q) None (fresh_at old.draft q))
    → new.clean ≡ remove_entry (nat_eq address) old.clean → IsBacked old history → IsBacked new history
IsBacked-forget old new history address same less is =
    IsBacked-fewer old new history same (λ q none. less q
    ∙ none_either (is_at (nat_cmp address) q) (fresh_at old.draft q) none)
    (λ e here. Contains-remove_entry (nat_eq address) old.clean e
    (subst (λ (es : List (ℕ × Node)). Contains es e) is here))

all_keys : (P : ℕ → Type 0) (es : List (ℕ × Node)) (q : ℕ) (node : Node) → AllByRecursion P (keys_of es)
    → Contains es (q, node) → P q
all_keys P [] q node all here = absurd (Contains-nil (q, node) here)
all_keys P (e ∷ es) q node all here = elim (Contains-cons e es (q, node) here) [
  | inl same ↦ let there : e.0 ≡ q = ap (λ (p : ℕ × Node). p.0) same in subst P there all.0
  | inr rest ↦ all_keys P es q node all.1 rest
]

-- none is left of the key that went
gone : (address : ℕ) (es : List (ℕ × Node)) (q : ℕ) (node : Node) → IsDistinct nat_eq (keys_of es)
    → Contains (remove_entry (nat_eq address) es) (q, node) → nat_eq address q ≡ false
unfolding IsDistinct
gone address [] q node distinct here = absurd (Contains-nil (q, node) here)
gone address (e ∷ es) q node distinct here =
    (elim (nat_eq address e.0) as (λ b. nat_eq address e.0 ≡ b → nat_eq address q ≡ false) [
      | true ↦ λ is. let same : address ≡ e.0 = eqb-true address e.0 is in
          rw same (all_keys (λ k. nat_eq e.0 k ≡ false) es q node distinct.0 (rw is at here))
      | false ↦ λ is. elim (Contains-cons e (remove_entry (nat_eq address) es) (q, node) (rw is at here)) [
        | inl same ↦ let there : e.0 ≡ q = ap (λ (p : ℕ × Node). p.0) same in
            subst (λ (k : ℕ). nat_eq address k ≡ false) there is
        | inr rest ↦ gone address es q node distinct.1 rest
      ]
    ]) refl

lookup_gone : (address : ℕ) (es : List (ℕ × Node)) (o : Option Node) → IsDistinct nat_eq (keys_of es)
    → lookup (nat_eq address) (remove_entry (nat_eq address) es) ≡ o → o ≡ None
lookup_gone address es None distinct is = refl
lookup_gone address es (Some node) distinct is =
    let at = Contains-lookup (nat_eq address) (remove_entry (nat_eq address) es) node is in
    let none = gone address es at.0 node distinct at.1 in
    let there = at.2 in cc

pub clean-gone : (address : ℕ) (es : List (ℕ × Node)) → IsDistinct nat_eq (keys_of es)
    → lookup (nat_eq address) (remove_entry (nat_eq address) es) ≡ None
clean-gone address es distinct = lookup_gone address es (lookup (nat_eq address) (remove_entry (nat_eq address) es))
    distinct refl

-- and none comes
pub clean-none : (address at : ℕ) (es : List (ℕ × Node)) → lookup (nat_eq at) es ≡ None
    → lookup (nat_eq at) (remove_entry (nat_eq address) es) ≡ None
clean-none address at [] none = refl
clean-none address at (e ∷ es) none = elim (cases_Bool (nat_eq at e.0)) [
  | inl here ↦
      let there : Some e.1 ≡ None = sym (cond-true (nat_eq at e.0) (Some e.1) (lookup (nat_eq at) es) here) ∙ none in cc
  | inr other ↦
      let later : lookup (nat_eq at) es ≡ None =
      sym (cond-false (nat_eq at e.0) (Some e.1) (lookup (nat_eq at) es) other) ∙ none in
      let rest = remove_entry (nat_eq address) es in
      elim (cases_Bool (nat_eq address e.0)) [
        | inl gone ↦ ap (λ (b : Bool). lookup (nat_eq at) (cond b es (e ∷ rest))) gone ∙ later
        | inr kept ↦
            ap (λ (b : Bool). lookup (nat_eq at) (cond b es (e ∷ rest))) kept
            ∙ ap (λ (b : Bool). cond b (Some e.1) (lookup (nat_eq at) rest)) other ∙ clean-none address at es later
      ]
]

-- one that becomes fresh is clean no more
pub IsBacked-fresh : (old new : Held) (history : History) (address : ℕ) (node : Node)
    → new.draft.sizes ≡ old.draft.sizes
    → ((q : ℕ) → fresh_at new.draft q ≡ cond (is_at (nat_cmp address) q) (Some node) (fresh_at old.draft q))
    → IsDistinct nat_eq (keys_of old.clean) → new.clean ≡ remove_entry (nat_eq address) old.clean → IsBacked old history
    → IsBacked new history
IsBacked-fresh old new history address node same more distinct is backed = record {
  stands = λ at kept here events told.
      let was = Contains-remove_entry (nat_eq address) old.clean (at, kept)
      (subst (λ (es : List (ℕ × Node)). Contains es (at, kept)) is here) in
      ap (λ (s : Sizes). standing s (content events) at) same ∙ backed.stands at kept was events told;
  apart = λ at kept here.
      let here' = subst (λ (es : List (ℕ × Node)). Contains es (at, kept)) is here in
      let was = Contains-remove_entry (nat_eq address) old.clean (at, kept) here' in
      let other : at ≢ address = λ e. let no = gone address old.clean at kept distinct here' in
      let yes = nat_eq_equiv.refl address in let no' = rw e at no in cc in
      more at ∙ ap (λ (b : Bool). cond b (Some node) (fresh_at old.draft at)) (is_at-other address at other)
      ∙ backed.apart at kept was;
  kept = λ at kept here.
      let was = Contains-remove_entry (nat_eq address) old.clean (at, kept)
      (subst (λ (es : List (ℕ × Node)). Contains es (at, kept)) is here) in
      subst (λ (s : Sizes). IsNodeAt s.nodesize at kept) (sym same) (backed.kept at kept was);
}

-- ---- fresh nodes that were written become clean

first_is : (old new : Draft) (address : ℕ) (node : Node) → old.fresh ≡ (address, node) ∷ new.fresh
    → fresh_at old address ≡ Some node
first_is old new address node is =
    ap (λ (es : List (ℕ × Node)). lookup (is_at (nat_cmp address)) es) is
    ∙ ap (λ (b : Bool). cond b (Some node) (fresh_at new address)) (is_at-same address)

-- the first of them stands there, and has a text
pub StandsThere-first : (old new : Draft) (history : History) (address : ℕ) (node : Node)
    → old.fresh ≡ (address, node) ∷ new.fresh
    → AreWritten old history → StandsThere old.sizes history address node
StandsThere-first old new history address node is written =
    written.stands address node (first_is old new address node is)

pub IsNodeAt-first : (old new : Draft) (history : History) (address : ℕ) (node : Node)
    → old.fresh ≡ (address, node) ∷ new.fresh
    → AreWritten old history → IsNodeAt old.sizes.nodesize address node
IsNodeAt-first old new history address node is written = written.kept address node (first_is old new address node is)

some_before : (b : Bool) (o : Option Node) (node : Node) → cond b None o ≡ Some node → o ≡ Some node
some_before true o node is = cc
some_before false o node is = is

-- and the others are written
pub AreWritten-rest : (old new : Draft) (history : History) (address : ℕ)
    → ((q : ℕ) → fresh_at new q ≡ cond (is_at (nat_cmp address) q) None (fresh_at old q))
    → new.sizes ≡ old.sizes → AreWritten old history → AreWritten new history
AreWritten-rest old new history address less same written =
    let before : (at : ℕ) (node : Node) → fresh_at new at ≡ Some node → fresh_at old at ≡ Some node =
    λ at node here. some_before (is_at (nat_cmp address) at) (fresh_at old at) node (sym (less at) ∙ here) in
    record {
      stands = λ at node here events told. ap (λ (s : Sizes). standing s (content events) at) same
          ∙ written.stands at node (before at node here) events told;
      kept = λ at node here. subst (λ (s : Sizes). IsNodeAt s.nodesize at node) (sym same)
          (written.kept at node (before at node here));
    }

-- ---- a fresh node that is written to

-- it stays fresh
pub IsBacked-set : (held : Held) (history : History) (address : ℕ) (node : Node)
    → IsSome (fresh_at held.draft address) → IsBacked held history
    → IsBacked (record held { draft = with_node held.draft address node }) history
IsBacked-set held history address node some =
    IsBacked-fewer held (record held { draft = with_node held.draft address node }) history refl
    (λ q none.
    let other : q ≢ address = λ e. let none' = rw e at none in let some' = rw none' at some in cc in
    fresh-set held.draft address node q some ∙ ap (λ (b : Bool). cond b (Some node) (fresh_at held.draft q))
    (is_at-other address q other) ∙ none)
    (λ e here. here)
