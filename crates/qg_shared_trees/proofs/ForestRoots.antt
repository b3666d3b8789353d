-- The root of a subvolume that a state has, and the root's level.
use Rattle.std.proofs.Common.{◌≡◌, ℕ, Some, refl}
use Rattle.qg_image.specs.Table.{value_at}
use Rattle.qg_image.specs.Reach.{level_of}
use Rattle.qg_image.specs.State.{State, Subvolume, node_at}
use Rattle.qg_machine.specs.Refusals.{root_level}
use Rattle.qg_shared_trees.specs.ForestStanding.{root_of}

pub root_of-value : (state : State) (sub : ℕ) (subvolume : Subvolume) → value_at sub state.subvolumes ≡ Some subvolume
    → root_of state sub ≡ subvolume.root
root_of-value state sub subvolume there = rw there refl

pub root_level-value : (state : State) (sub : ℕ) (subvolume : Subvolume)
    → value_at sub state.subvolumes ≡ Some subvolume
    → root_level state sub ≡ level_of (node_at state.layout subvolume.root)
root_level-value state sub subvolume there = rw there refl
