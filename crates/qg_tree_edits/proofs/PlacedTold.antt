-- What is told of a node that is made in a slot that was free.
use Rattle.std.proofs.Common.{◌≡◌, ◌⊎◌, ℕ, ◌+◌, ◌≤◌, ◌<◌, true, [], ◌∷◌, arith, sym, ap, subst, ◌∙◌, inl, inr, Option}
use Rattle.std.proofs.Common.{Some, None}
use Rattle.std.specs.Prelude.{IsTrue, Result, Ok, Err, IfOk}
use Rattle.std.specs.List.{sum_by}
use Rattle.std.proofs.lemmas.Bool.Decides.{eqb_tells}
use Rattle.std.proofs.lemmas.List.Elements.{All-from_recursion}
use Rattle.qg_node.specs.declared.node.Node.{Node}
use Rattle.qg_space.specs.Holding.{is_free_slot}
use Rattle.qg_node_alloc.specs.declared.ground.Ground.{Ground}
use Rattle.qg_node_alloc.specs.Tellings.Telling.{Made}
use Rattle.qg_node_alloc.proofs.Slots.{free-apart}
use Rattle.qg_tree_edits.specs.Counting.{IsAsWas, IsBare, IsTold, IsUnheld, copied_in, gains, made_in, one}
use Rattle.qg_tree_edits.specs.Counting.{tellings_made}
use Rattle.qg_tree_edits.specs.declared.instead.Instead.{Instead}
use Rattle.qg_tree_edits.specs.Editing.{IsPlacedBehind, slots_for}
use Rattle.qg_tree_edits.proofs.Ways.{one-other}

-- what follows from two facts on what is answered, if anything is
pub ok-both : {X Y : Type 0} (result : Result X Y) (P Q R : X → Type 0) → ((x : X) → P x → Q x → R x) → IfOk result P
    → IfOk result Q → IfOk result R
ok-both (Ok x) P Q R both p q = both x p q
ok-both (Err y) P Q R both p q = tt

module _ (old : Ground) (nodes clean : ℕ → Option Node) (Reached : ℕ → Type 0) (before after : ℕ → ℕ) (more : ℕ) where
  new_there : is_free_slot old.space more ≡ true → (q : ℕ) → 0 < sum_by (λ telling. gains telling q) (Made more ∷ [])
      → IsTrue (is_free_slot old.space q) ⊎ Reached q
  new_there free q some = elim (eqb_tells q more) [
    | inl (is, there) ↦ inl (ap (is_free_slot old.space) there ∙ free)
    | inr (is, other) ↦ absurd (let none = one-other more q other in omega (arith, none, some))
  ]

  pub told-made : is_free_slot old.space more ≡ true → before more ≡ 0 → ((q : ℕ) → after q ≡ before q + one more q)
      → IsTold old nodes clean Reached before after 1 0 1 (Made more ∷ [])
  told-made free none turns = record {
    turns = (none, λ q. let e = turns q in omega (arith, e));
    down = (tt, tt);
    new = new_there free;
    as_was = All-from_recursion (IsAsWas nodes) (Made more ∷ []) (tt, tt);
    bare = All-from_recursion IsBare (Made more ∷ []) (tt, tt);
    unheld = All-from_recursion (IsUnheld old.space.held_slots) (Made more ∷ []) (free-apart old.space more free, tt);
    few_come = omega arith;
    few_left = omega arith;
    few_made = omega arith;
  }

-- a node is made only where something was cut off
pub placed-few : (owner : ℕ) (old new : Ground) (now : ℕ) (rest : Option Node) (instead : Instead)
    → IsPlacedBehind owner old new now rest instead
    → sum_by copied_in (tellings_made instead.more) + sum_by made_in (tellings_made instead.more) ≤ slots_for rest
placed-few owner old new now None instead placed =
    subst (λ (i : Instead). sum_by copied_in (tellings_made i.more) + sum_by made_in (tellings_made i.more) ≤ 0)
    (sym placed.0) (omega arith)
placed-few owner old new now (Some node) instead placed =
    subst (λ (i : Instead). sum_by copied_in (tellings_made i.more) + sum_by made_in (tellings_made i.more) ≤ 1)
    (sym placed.1) (omega arith)
