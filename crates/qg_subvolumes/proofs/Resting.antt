-- What is left so over any disk, once runs were given back and a node was let go.
use Rattle.std.proofs.Common.{◌≡◌, ℕ, ◌<◌, ◌≤◌, List, [], ◌∷◌, length, None, arith, refl, sym, ap, subst, ◌∙◌}
use Rattle.std.specs.Prelude.{Err, IsErrAnd, Result}
use Rattle.qg_device.specs.History.{History}
use Rattle.qg_num.specs.declared.fault.BlockFault.{BlockFault}
use Rattle.qg_image.specs.declared.element.Element.{Element}
pub use Rattle.qg_blocks.proofs.Broken.{handed}
use Rattle.qg_blocks.specs.NodesFound.{BreaksNone, IsBacked, held_at}
use Rattle.qg_space.specs.Holding.{free_slots, without_runs, without_slot}
use Rattle.qg_space.proofs.FreeSlotCount.{free_slots-given}
use Rattle.qg_refs.specs.declared.counted.Counted.{Counted}
use Rattle.qg_node_alloc.specs.declared.ground.Ground.{Ground}
use Rattle.qg_node_alloc.specs.Land.{IsDrafted, Rests}
use Rattle.qg_node_alloc.proofs.Lands.{IsDrafted-fewer}
use Rattle.qg_node_alloc.proofs.Slots.{free_slots-same}
use Rattle.qg_subvolumes.specs.Dropping.{RestsButRuns}

pub RestsButRuns-same : (land : Ground) (history : History) (generation : ℕ)
    → IsBacked land.blocks history → IsDrafted land generation → RestsButRuns land land history generation
RestsButRuns-same land history generation backed drafted = record {
  backed = backed;
  drafted = drafted;
  node_sizes = refl;
  bound = refl;
  sizes = refl;
  held_slots = refl;
  held_runs = refl;
  slots = omega arith;
}

module _ (land mid new : Ground) (gone : List Element)
    (given : mid ≡ record land { space = record land.space { runs = without_runs gone land.space.runs } }) where
  drafted_mid : (generation : ℕ) → IsDrafted land generation → IsDrafted mid generation
  drafted_mid generation drafted =
      subst (λ (g : Ground). IsDrafted g generation) (sym given)
      (IsDrafted-fewer land (record land { space = record land.space { runs = without_runs gone land.space.runs } })
      generation refl refl refl (λ at node there. (there, λ has. has)) drafted)

  pub RestsButRuns-given : (history : History) (generation : ℕ)
      → free_slots land.space ≤ free_slots new.space
      → (IsBacked mid.blocks history → IsDrafted mid generation → Rests mid new history generation)
      → IsBacked land.blocks history → IsDrafted land generation → RestsButRuns land new history generation
  RestsButRuns-given history generation free rests backed drafted =
      let all = rests (subst (λ (g : Ground). IsBacked g.blocks history) (sym given) backed)
      (drafted_mid generation drafted) in
      record {
        backed = all.backed;
        drafted = all.drafted;
        node_sizes = all.node_sizes ∙ ap (λ (g : Ground). g.blocks.draft.sizes) given;
        bound = all.bound ∙ ap (λ (g : Ground). g.blocks.bound) given;
        sizes = all.sizes ∙ ap (λ (g : Ground). g.space.sizes) given;
        held_slots = all.held_slots ∙ ap (λ (g : Ground). g.space.held_slots) given;
        held_runs = all.held_runs ∙ ap (λ (g : Ground). g.space.held_runs) given;
        slots = free;
      }

-- no slot fewer is free
free_mid : (land mid : Ground) (gone : List Element)
    → mid ≡ record land { space = record land.space { runs = without_runs gone land.space.runs } }
    → free_slots mid.space ≡ free_slots land.space
free_mid land mid gone given =
    ap (λ (g : Ground). free_slots g.space) given
    ∙ free_slots-same land.space (record land.space { runs = without_runs gone land.space.runs }) refl refl refl

free_let : (mid new : Ground) (at : ℕ) (references : List Counted) → (0 < length references → new ≡ mid)
    → (references ≡ [] → (held_at new.blocks at ≡ None)
    × (new.space ≡ record mid.space { slots = without_slot at mid.space.slots }))
    → free_slots mid.space ≤ free_slots new.space
free_let mid new at [] stays goes =
    let same = ap free_slots (goes refl).1 in
    let most = free_slots-given mid.space at in
    omega (arith, same, most)
free_let mid new at (entry ∷ references) stays goes =
    let same = ap (λ (g : Ground). free_slots g.space) (stays (omega arith)) in omega (arith, same)

pub free-left : (land mid new : Ground) (gone : List Element) (at : ℕ) (references : List Counted)
    → mid ≡ record land { space = record land.space { runs = without_runs gone land.space.runs } }
    → (0 < length references → new ≡ mid)
    → (references ≡ [] → (held_at new.blocks at ≡ None)
    × (new.space ≡ record mid.space { slots = without_slot at mid.space.slots }))
    → free_slots land.space ≤ free_slots new.space
free-left land mid new gone at references given stays goes =
    let same = free_mid land mid gone given in
    let most = free_let mid new at references stays goes in
    omega (arith, same, most)

-- ---- faults

pub unbroken-handed : {A : Type 0} (result : Result A BlockFault) (fault : BlockFault)
    → IsErrAnd result (λ given. given ≡ fault) → BreaksNone {A = A} (Err fault) → BreaksNone result
unbroken-handed {A} result fault is none =
    subst (λ (r : Result A BlockFault). BreaksNone r) (sym (handed result fault is)) none
