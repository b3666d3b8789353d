-- Slots at which nothing is fresh are forgotten, one after the other.
use Rattle.std.proofs.Common.{◌≡◌, ℕ, ◌+◌, ◌<◌, Bool, List, [], ◌∷◌, take, length, get_or, Option, Some}
use Rattle.std.proofs.Common.{None, refl, sym, ap, subst, ◌∙◌, inl, inr, arith}
use Rattle.std.specs.Prelude.{All}
use Rattle.std.specs.BTreeMap.{is_at}
use Rattle.std.specs.List.{Contains}
use Rattle.std.specs.Map.{lookup, remove_entry}
use Rattle.std.specs.Ordering.{nat_cmp}
use Rattle.std.proofs.lemmas.Bool.{cases_Bool, cond-false, cond-true}
use Rattle.std.proofs.lemmas.List.Elements.{All-contains}
use Rattle.qg_device.specs.History.{History}
use Rattle.qg_node.specs.declared.node.Node.{Node}
use Rattle.qg_blocks.specs.NodesInMemory.{Draft, Held}
use Rattle.qg_blocks.specs.NodesFound.{IsBacked, clean_at, first_of, fresh_at, held_at}
use Rattle.qg_space.proofs.ManySlots.{all_taken, among_more}

-- nothing is removed where no key passes
removed-none : {K X : Type 0} (test : K → Bool) (es : List (K × X)) → lookup test es ≡ None → remove_entry test es ≡ es
removed-none test [] none = refl
removed-none {K} {X} test (e ∷ es) none = elim (cases_Bool (test e.0)) [
  | inl passes ↦
      let found : lookup test (e ∷ es) ≡ Some e.1 = cond-true (test e.0) (Some e.1) (lookup test es) passes in
      absurd cc
  | inr fails ↦
      let later : lookup test (e ∷ es) ≡ lookup test es = cond-false (test e.0) (Some e.1) (lookup test es) fails in
      cond-false (test e.0) es (e ∷ remove_entry test es) fails
      ∙ ap (λ (rest : List (K × X)). e ∷ rest) (removed-none test es (sym later ∙ none))
]

second-none : (first second : Option Node) → first_of first second ≡ None → second ≡ None
second-none None second none = none
second-none (Some node) second none = absurd cc

-- where no node is fresh, a draft without that node is the same
draft-same : (draft : Draft) (at : ℕ) → fresh_at draft at ≡ None
    → record draft { fresh = remove_entry (is_at (nat_cmp at)) draft.fresh } ≡ draft
draft-same draft at none =
    ap (λ (fresh : List (ℕ × Node)). record draft { fresh = fresh })
    (removed-none (is_at (nat_cmp at)) draft.fresh none)

-- the first so many of some slots were forgotten
pub record Forgets (old new : Held) (slots : List ℕ) (k : ℕ) : Type 0 where
  pub draft : new.draft ≡ old.draft
  pub bound : new.bound ≡ old.bound
  pub gone : (slot : ℕ) → Contains (take k slots) slot → clean_at new slot ≡ None
  pub backed : (history : History) → IsBacked old history → IsBacked new history

-- one more was
pub record ForgetsOne (old new : Held) (at : ℕ) : Type 0 where
  pub draft : new.draft ≡ record old.draft { fresh = remove_entry (is_at (nat_cmp at)) old.draft.fresh }
  pub gone : held_at new at ≡ None
  pub others : (other : ℕ) → clean_at old other ≡ None → clean_at new other ≡ None
  pub backed : (history : History) → IsBacked old history → IsBacked new history
  pub bound : new.bound ≡ old.bound

pub forgets-none : (held : Held) (slots : List ℕ) → Forgets held held slots 0
forgets-none held slots = record {
  draft = refl;
  bound = refl;
  gone = λ slot has. absurd (omega (arith, has.1));
  backed = λ history backed. backed;
}

pub forgets-more : (old now new : Held) (slots : List ℕ) (k at : ℕ) → k < length slots → at ≡ get_or slots k at
    → All (λ slot. fresh_at old.draft slot ≡ None) slots → Forgets old now slots k → ForgetsOne now new at
    → Forgets old new slots (k + 1)
forgets-more old now new slots k at short is clean done one =
    let here : fresh_at now.draft at ≡ None =
    ap (λ (draft : Draft). fresh_at draft at) done.draft
    ∙ All-contains (λ slot. fresh_at old.draft slot ≡ None) slots at clean (k, short, sym is) in
    record {
      draft = one.draft ∙ draft-same now.draft at here ∙ done.draft;
      bound = one.bound ∙ done.bound;
      gone = λ slot has. elim ((among_more slots k at slot short is).0 has) [
        | inl same ↦ subst (λ (s : ℕ). clean_at new s ≡ None) (sym same)
            (second-none (fresh_at new.draft at) (clean_at new at) one.gone)
        | inr before ↦ one.others slot (done.gone slot before)
      ];
      backed = λ history backed. one.backed history (done.backed history backed);
    }

-- all of them were
pub forgets-all : (old new : Held) (slots : List ℕ) (k slot : ℕ) → Forgets old new slots k → (k < length slots → ⊥)
    → Contains slots slot → clean_at new slot ≡ None
forgets-all old new slots k slot done past has =
    done.gone slot ((all_taken slots k slot (omega (arith, past))).1 has)
