-- What a book is told where a node is owned.
use Rattle.std.proofs.Common.{◌≡◌, ◌≢◌, ℕ, true, false, List, [], ◌∷◌, ◌++◌, append-nil, refl, sym, ap, subst, ◌∙◌, inl}
use Rattle.std.proofs.Common.{inr, Option, Some, None}
use Rattle.std.specs.Prelude.{Bool, if◌then◌else◌, Result, Ok, Err, IfOk, IsSome, IsTrue}
use Rattle.std.proofs.lemmas.Bool.{true≢false}
use Rattle.std.proofs.lemmas.Bool.Decides.{eqb_tells}
use Rattle.qg_num.specs.declared.fault.BlockFault.{BlockFault}
use Rattle.qg_node.specs.declared.node.Node.{Node}
use Rattle.qg_space.specs.Holding.{Holding, is_free_slot}
use Rattle.qg_node_alloc.specs.Tellings.{Telling}
use Rattle.qg_node_alloc.specs.Tellings.Telling.{Copied}
use Rattle.qg_tree_edits.specs.Counting.{tellings_owned}

-- a node stays
pub tellings-kept : (node : Node) (at now : ℕ) → now ≡ at → tellings_owned node at now ≡ []
tellings-kept node at now same = elim (eqb_tells now at) [
  | inl (is, there) ↦ ap (λ (b : Bool). if b then [] else Copied node now ∷ []) is
  | inr (is, other) ↦ absurd (other same)
]

-- or it is copied
pub tellings-copied : (node : Node) (at now : ℕ) → now ≢ at → tellings_owned node at now ≡ Copied node now ∷ []
tellings-copied node at now differ = elim (eqb_tells now at) [
  | inl (is, there) ↦ absurd (differ there)
  | inr (is, other) ↦ ap (λ (b : Bool). if b then [] else Copied node now ∷ []) is
]

-- a slot that is free is another than one that isn't
pub free-apart : (space : Holding) (at now : ℕ) → is_free_slot space at ≡ false → is_free_slot space now ≡ true
    → now ≢ at
free-apart space at now taken free same = true≢false (sym free ∙ ap (is_free_slot space) same ∙ taken)

module _ (B : Type 0) (Follows : List Telling → B → Type 0) (book new : B) (log : List Telling) (node : Node) (at : ℕ)
    (space : Holding) (taken : is_free_slot space at ≡ false)
    (follows : Follows log book) where
  kept : (result : Result ℕ BlockFault) → result ≡ Ok at → new ≡ book
      → IfOk result (λ now. Follows (log ++ tellings_owned node at now) new)
  kept (Err fault) is same = absurd cc
  kept (Ok now) is same =
      let there : now ≡ at = cc in
      let none : log ++ tellings_owned node at now ≡ log = ap (λ (ts : List Telling). log ++ ts)
      (tellings-kept node at now there) ∙ append-nil log in
      subst (λ (ts : List Telling). Follows ts new) (sym none) (subst (λ (b : B). Follows log b) (sym same) follows)

  copied : (result : Result ℕ BlockFault) → IfOk result (λ now. Follows (log ++ Copied node now ∷ []) new)
      → IfOk result (λ now. IsTrue (is_free_slot space now))
      → IfOk result (λ now. Follows (log ++ tellings_owned node at now) new)
  copied (Err fault) told free = tt
  copied (Ok now) told free =
      subst (λ (ts : List Telling). Follows (log ++ ts) new)
      (sym (tellings-copied node at now (free-apart space at now taken free))) told

  pub tells-owned : (fresh : Option Node) (result : Result ℕ BlockFault)
      → (IsSome fresh → (result ≡ Ok at) × (new ≡ book))
      → (fresh ≡ None → IfOk result (λ now. Follows (log ++ Copied node now ∷ []) new))
      → (fresh ≡ None → IfOk result (λ now. IsTrue (is_free_slot space now)))
      → IfOk result (λ now. Follows (log ++ tellings_owned node at now) new)
  tells-owned (Some other) result same told free = let both = same refl in kept result both.0 both.1
  tells-owned None result same told free = copied result (told refl) (free refl)
