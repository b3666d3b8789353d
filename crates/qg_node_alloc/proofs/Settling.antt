-- How what stands of a book and of land between two edits is kept.
use Rattle.std.proofs.Common.{◌≡◌, ℕ, true, List, refl, sym, ap, ◌∙◌}
use Rattle.std.specs.Prelude.{Option, Some, None}
use Rattle.qg_device.specs.History.{Unrecorded}
use Rattle.qg_node.specs.declared.node.Node.{Node}
use Rattle.qg_blocks.specs.Table.{with_number}
use Rattle.qg_blocks.specs.NodesInMemory.{Draft}
use Rattle.qg_blocks.specs.NodesFound.{fresh_at}
use Rattle.qg_space.specs.Holding.{is_free_slot}
use Rattle.qg_space.proofs.Members.{Contains-has_slot}
use Rattle.qg_node_alloc.specs.declared.ground.Ground.{Ground}
use Rattle.qg_node_alloc.specs.Land.{IsDrafted}
use Rattle.qg_node_alloc.specs.Tellings.{Empties, KeepsLevels, Spares}
use Rattle.qg_node_alloc.specs.Changes.{Puts, PutsFresh}
use Rattle.qg_node_alloc.proofs.Lands.{IsSome-is, IsSome-same, fresh_at-told}
use Rattle.qg_node_alloc.proofs.Slots.{free-absent}

none_fresh : (land : Ground) (generation at : ℕ) → IsDrafted land generation → is_free_slot land.space at ≡ true
    → (o : Option Node) → fresh_at land.blocks.draft at ≡ o → o ≡ None
none_fresh land generation at is free None there = refl
none_fresh land generation at is free (Some node) there =
    let draft = is.each at node there in
    absurd (free-absent land.space at free ((Contains-has_slot land.space at).0 draft.taken))

-- no node is fresh in a free slot
pub fresh-free : (land : Ground) (generation at : ℕ) → IsDrafted land generation → is_free_slot land.space at ≡ true
    → fresh_at land.blocks.draft at ≡ None
fresh-free land generation at is free = none_fresh land generation at is free (fresh_at land.blocks.draft at) refl

-- a node that is put takes its slot, and nothing else changes
pub PutsFresh-puts : (old new : Ground) (now generation : ℕ) (node : Node) → Puts old new now node → Spares old new
    → new.space.slots ≡ with_number now old.space.slots → IsDrafted old generation → PutsFresh old new now
PutsFresh-puts old new now generation node puts spares slots is = record {
  free = puts.free;
  sizes = spares.sizes;
  none = fresh-free old generation now is puts.free;
  here = IsSome-is (fresh_at new.blocks.draft now) node puts.here;
  others = λ at other. fresh_at-told old.blocks.draft new.blocks.draft at (puts.others (Unrecorded 0) at other);
  space = spares.space ∙ ap (λ (ns : List ℕ). record old.space { slots = ns }) slots;
}

-- where fresh nodes are the same their levels are
pub KeepsLevels-draft : (old new : Ground) → new.blocks.draft ≡ old.blocks.draft → KeepsLevels old new
KeepsLevels-draft old new draft =
    let same : (at : ℕ) → fresh_at new.blocks.draft at ≡ fresh_at old.blocks.draft at =
    λ at. ap (λ (d : Draft). fresh_at d at) draft in
    record {
      sizes = ap (λ (d : Draft). d.sizes) draft;
      each = λ at node there. (node, sym (same at) ∙ there, refl);
      stays = λ at some. IsSome-same (fresh_at old.blocks.draft at) (fresh_at new.blocks.draft at) (same at) some;
    }

-- a node that was emptied, where fresh nodes are the same since
pub Empties-draft : (old mid new : Ground) (at : ℕ) → new.blocks.draft ≡ mid.blocks.draft → new.space ≡ mid.space
    → Empties old mid at → Empties old new at
Empties-draft old mid new at draft space empties =
    let same : (q : ℕ) → fresh_at new.blocks.draft q ≡ fresh_at mid.blocks.draft q =
    λ q. ap (λ (d : Draft). fresh_at d q) draft in
    record {
      space = space ∙ empties.space;
      sizes = ap (λ (d : Draft). d.sizes) draft ∙ empties.sizes;
      each = λ q node there. empties.each q node (sym (same q) ∙ there);
      stays = λ q some. IsSome-same (fresh_at mid.blocks.draft q) (fresh_at new.blocks.draft q) (same q)
          (empties.stays q some);
      here = (empties.here.0, same at ∙ empties.here.1, empties.here.2, empties.here.3);
    }
