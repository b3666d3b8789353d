-- What a book is told where two neighbours are joined.
use Rattle.std.proofs.Common.{◌≡◌, ℕ, ◌+◌, ◌<◌, List, [], ◌∷◌, arith, refl, sym, ap, subst, ◌∙◌, inl, inr, Option}
use Rattle.std.specs.Prelude.{Contains}
use Rattle.std.specs.List.{sum_by}
use Rattle.std.proofs.lemmas.Bool.Decides.{eqb_tells}
use Rattle.std.proofs.lemmas.List.Elements.{All-from_recursion}
use Rattle.qg_node.specs.declared.node.Node.{Node}
use Rattle.qg_node.specs.declared.node.Node.TheVariants.{Leaf, Inner}
use Rattle.qg_node.specs.Nodes.{header_of}
use Rattle.qg_shape.specs.declared.joining.Joined.{Joined}
use Rattle.qg_shape.specs.declared.joining.Joined.TheVariants.{Whole}
use Rattle.qg_node_alloc.specs.declared.ground.Ground.{Ground}
use Rattle.qg_node_alloc.specs.Land.{IsDrafted}
use Rattle.qg_node_alloc.specs.Tellings.{Telling}
use Rattle.qg_node_alloc.specs.Tellings.Telling.{Left}
use Rattle.qg_edit.specs.Outcome.{cleared}
use Rattle.qg_tree_edits.specs.declared.instead.Instead.{Instead}
use Rattle.qg_tree_edits.specs.Editing.{ArePair, IsJoinedAs, IsJoinedThere}
use Rattle.qg_tree_edits.specs.Counting.{IsAsWas, IsBare, IsTold, IsUnheld, LeadsNone, TellsUnited, losses, one}
use Rattle.qg_tree_edits.proofs.Ways.{one-other}

cleared_bare : (old node : Node) → node ≡ cleared old → IsBare (Left node)
cleared_bare old (Leaf header items) is = (cc, refl)
cleared_bare old (Inner header pointers) is = absurd cc

cleared_address : (old node : Node) → node ≡ cleared old → (header_of node).address ≡ (header_of old).address
cleared_address old node is = ap (λ (n : Node). (header_of n).address) is

-- the right one has nothing under it where all is in the left one
pub left-cleared : (land mid : Ground) (left right generation : ℕ) (joined : Joined) → joined ≡ Whole
    → IsDrafted land generation → ArePair land left right
    → (there : IsJoinedThere land mid left right joined) → ((header_of there.b).address ≡ right) × IsBare (Left there.b)
left-cleared land mid left right generation joined is drafted pair there =
    let same = subst (λ (j : Joined). IsJoinedAs land.space.sizes.nodesize pair.a pair.b there.a there.b j) is
    (there.is pair.a pair.b pair.left_here pair.right_here) in
    let kept = drafted.each right pair.b pair.right_here in
    (cleared_address pair.b there.b same.1 ∙ kept.kept.placed, cleared_bare pair.b there.b same.1)

-- it is left
pub told-left : (old : Ground) (nodes clean : ℕ → Option Node) (Reached : ℕ → Type 0) (before after : ℕ → ℕ)
    (node : Node) (at : ℕ)
    → (header_of node).address ≡ at → IsBare (Left node) → (Contains old.space.held_slots at → ⊥)
    → LeadsNone clean before at → 0 < before at
    → ((q : ℕ) → after q + one at q ≡ before q)
    → IsTold old nodes clean Reached before after 0 1 0 (Left node ∷ [])
told-left old nodes clean Reached before after node at named bare apart down some turns = record {
  turns = (
    let same = ap before named in omega (arith, same, some),
    λ q. let e = turns q in let same = ap (λ (a : ℕ). one a q) named in omega (arith, e, same),
  );
  down = (subst (λ (a : ℕ). LeadsNone clean before a) (sym named) down, tt);
  new = λ q gained. absurd (omega (arith, gained));
  as_was = All-from_recursion (IsAsWas nodes) (Left node ∷ []) (tt, tt);
  bare = All-from_recursion IsBare (Left node ∷ []) (bare, tt);
  unheld = All-from_recursion (IsUnheld old.space.held_slots) (Left node ∷ [])
      (subst (λ (a : ℕ). Contains old.space.held_slots a → ⊥) (sym named) apart, tt);
  few_come = omega arith;
  few_left = omega arith;
  few_made = omega arith;
}

-- of what is left a way is lost to the right one alone
pub united-lost : (right : ℕ) (instead : Instead) (tellings : List Telling) → TellsUnited right instead tellings
    → (q : ℕ) → 0 < sum_by (λ telling. losses telling q) tellings → q ≡ right
united-lost right instead tellings (inl parted) q lost =
    let none = ap (λ (ts : List Telling). sum_by (λ (t : Telling). losses t q) ts) parted.1 in
    absurd (omega (arith, none, lost))
united-lost right instead tellings (inr (none, (node, are, named, bare))) q lost =
    elim (eqb_tells q (header_of node).address) [
      | inl (equal, same) ↦ same ∙ named
      | inr (unequal, differ) ↦
          let other = one-other (header_of node).address q differ in
          let all = ap (λ (ts : List Telling). sum_by (λ (t : Telling). losses t q) ts) are in
          absurd (omega (arith, all, other, lost))
    ]
