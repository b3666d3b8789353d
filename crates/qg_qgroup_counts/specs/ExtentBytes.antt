-- The bytes of extents and nodes, and the sets of those who reach them (this project's own).
use Rattle.std.specs.Prelude.{◌≡◌, ◌<◌, ◌↔◌, ℕ, List, length, map, Some, slice_get}
use Rattle.std.specs.List.{Contains}
use Rattle.qg_image.specs.declared.element.Element.{Element}
use Rattle.qg_owner_rule.specs.declared.linked.Linked.{Linked}
use Rattle.qg_qgroup_counts.specs.Above.{list_at}
use Rattle.qg_qgroup_counts.specs.Roots.{IsReachedFrom}
use Rattle.qg_qgroup_counts.specs.Sets.{HasMember, row_of}
use Rattle.qg_qgroup_counts.specs.declared.counting.Portion.{Portion}

-- the subvolume at an index reaches one of the nodes at some places
abbrev pub ReachesOne : List Linked → List (ℕ × ℕ) → List ℕ → ℕ → Type 0
ReachesOne links roots places subvolume =
    (place : ℕ) × (link : Linked) × Contains places place × (slice_get links place ≡ Some link)
    × IsReachedFrom links roots subvolume link

-- a portion has an extent's bytes, and its set exactly the subvolumes that reach one of some nodes
pub record IsOfNodes (links : List Linked) (roots : List (ℕ × ℕ)) (rows : List (List ℕ)) (places : List ℕ)
    (extent : Element) (portion : Portion) : Type 0 where
  pub bytes : portion.bytes ≡ extent.bytes
  pub inside : portion.set < length rows
  pub members : (subvolume : ℕ) → HasMember (row_of rows portion.set) subvolume
      ↔ ReachesOne links roots places subvolume

-- so it is of each extent, by the nodes in its list
pub record AreOfNamers (links : List Linked) (roots : List (ℕ × ℕ)) (rows : List (List ℕ)) (namers : List (List ℕ))
    (extents : List Element) (portions : List Portion) : Type 0 where
  pub same : length portions ≡ length extents
  pub each : (place : ℕ) (extent : Element) (portion : Portion) → slice_get extents place ≡ Some extent
      → slice_get portions place ≡ Some portion → IsOfNodes links roots rows (list_at namers place) extent portion

-- the portions of nodes of a size, by the numbers of their sets
abbrev pub node_portions : ℕ → List ℕ → List Portion
node_portions nodesize sets = map (λ set. record { bytes = nodesize; set = set }) sets
