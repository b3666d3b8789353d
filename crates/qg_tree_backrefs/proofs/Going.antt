-- Nodes and space after a node went.
use Rattle.std.proofs.Common.{◌≡◌, ◌≢◌, ℕ, Bool, List, [], ◌∷◌, refl, sym, ap, ◌∙◌, true, false, inl, inr}
use Rattle.std.specs.Prelude.{cond, Option, Some, None}
use Rattle.std.specs.Ordering.{nat_cmp}
use Rattle.std.specs.BTreeMap.{is_at}
use Rattle.std.specs.Map.{lookup, remove_entry}
use Rattle.qg_device.specs.History.{History, Unrecorded}
use Rattle.qg_node.specs.declared.node.Node.{Node}
use Rattle.qg_node_alloc.specs.NodesInMemory.{Draft}
use Rattle.qg_node_alloc.specs.NodesFound.{IsBacked, fresh_at, held_at, told}
use Rattle.qg_space.specs.Holding.{Holding, without_slot}
use Rattle.qg_node_alloc.specs.declared.ground.Ground.{Ground}
use Rattle.qg_node_alloc.specs.Land.{IsDrafted, Rests}
use Rattle.qg_node_alloc.specs.Tellings.{GivesBack}
use Rattle.qg_node_alloc.proofs.Lands.{Rests-given, fresh_at-told, none_first}

-- ---- an entry that is not there

absent_here : (here : Bool) (entry : ℕ × Node) (entries rest : List (ℕ × Node)) (found : Option Node)
    → cond here (Some entry.1) found ≡ None → (found ≡ None → rest ≡ entries)
    → cond here entries (entry ∷ rest) ≡ entry ∷ entries
absent_here true entry entries rest found none same = cc
absent_here false entry entries rest found none same = ap (λ (es : List (ℕ × Node)). entry ∷ es) (same none)

-- nothing changes where it is to go
pub remove-absent : (test : ℕ → Bool) (entries : List (ℕ × Node)) → lookup test entries ≡ None
    → remove_entry test entries ≡ entries
remove-absent test [] none = refl
remove-absent test (entry ∷ entries) none =
    absent_here (test entry.0) entry entries (remove_entry test entries) (lookup test entries) none
    (remove-absent test entries)

-- ---- a node that is forgotten, with its slot given back

module _ (old new : Ground) (at : ℕ)
    (draft : new.blocks.draft
    ≡ record old.blocks.draft { fresh = remove_entry (is_at (nat_cmp at)) old.blocks.draft.fresh })
    (space : new.space ≡ record old.space { slots = without_slot at old.space.slots }) where
  -- no fresh node changes where it was none
  pub GivesBack-gone : fresh_at old.blocks.draft at ≡ None → GivesBack old new at
  GivesBack-gone none = record {
    draft =
        draft
        ∙ ap (λ (fresh : List (ℕ × Node)). record old.blocks.draft { fresh = fresh })
        (remove-absent (is_at (nat_cmp at)) old.blocks.draft.fresh none);
    slots = inr (ap (λ (h : Holding). h.slots) space);
  }

  -- and what stands between calls stands
  pub Rests-gone : (history : History) (generation : ℕ) → held_at new.blocks at ≡ None
      → ((other : ℕ) → other ≢ at → told new.blocks.draft (Unrecorded 0) other ≡ told old.blocks.draft
      (Unrecorded 0) other)
      → new.blocks.bound ≡ old.blocks.bound → IsBacked new.blocks history → IsDrafted old generation
      → Rests old new history generation
  Rests-gone history generation gone others bound backed drafted =
      Rests-given old new history at generation (ap (λ (d : Draft). d.sizes) draft) bound space
      (none_first (fresh_at new.blocks.draft at) _ gone)
      (λ other differ. fresh_at-told old.blocks.draft new.blocks.draft other (others other differ)) backed drafted
