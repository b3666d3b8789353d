-- One subvolume and one group, as lists.
use Rattle.std.proofs.Common.{◌≡◌, ℕ, ◌≤◌, true, List, [], ◌∷◌, refl, sym, ap, subst, arith}
use Rattle.std.specs.Prelude.{Some, is_some}
use Rattle.std.specs.List.{AllByRecursion}
use Rattle.std.specs.List.Sorted.{IsStrictlySortedBy}
use Rattle.std.proofs.lemmas.Bool.{true≢false}
use Rattle.std.proofs.lemmas.List.Elements.{All-from_recursion}
use Rattle.qg_num.specs.declared.counters.Counters.{Counters}
use Rattle.qg_node.specs.declared.node.Node.{Node}
use Rattle.qg_items.specs.declared.root.RootItem.{RootItem}
use Rattle.qg_items.specs.declared.tree.TheConstants.{TOP_LEVEL}
use Rattle.qg_image.specs.ItemMeaning.{is_subvolume_number}
use Rattle.qg_image.specs.Table.{has_key}
use Rattle.qg_image.specs.Members.{hierarchy_of}
use Rattle.qg_image.specs.declared.quota.Group.{Group}
use Rattle.qg_image.specs.State.{State, Subvolume, node_at}
use Rattle.qg_image.specs.OtherTrees.{root_item_of, subvolume_items}
use Rattle.qg_image.specs.Verdict.{is_group_number}
use Rattle.qg_qgroups.specs.Groups.{IsSound}
use Rattle.qg_root_items.specs.Writable.{IsRootBy}
use Rattle.qg_other_trees.specs.Telling.{HasRoot, one_group}
use Rattle.qg_check.specs.Editable.{AreGroups, AreSubvolumes}

pub one_named : (generation : ℕ) (root : RootItem) → root.refs ≡ 1 → IsRootBy generation root
    → AreSubvolumes generation ((TOP_LEVEL, root) ∷ [])
unfolding is_subvolume_number
one_named generation root counted by =
    let roots : List (ℕ × RootItem) = (TOP_LEVEL, root) ∷ [] in
    record {
      few = omega arith;
      ascending = λ k below. absurd (omega (arith, below));
      numbers = All-from_recursion (λ (entry : ℕ × RootItem). is_subvolume_number entry.0 ≡ true) roots (refl, tt);
      top_level = refl;
      counted = All-from_recursion (λ (entry : ℕ × RootItem). entry.1.refs ≡ 1) roots (counted, tt);
      by = All-from_recursion (λ (entry : ℕ × RootItem). IsRootBy generation entry.1) roots (by, tt);
    }

-- one group has no relations
one_sound : (counters : Counters) (stamp : ℕ) → IsSound (hierarchy_of (one_group counters stamp))
unfolding IsStrictlySortedBy
one_sound counters stamp = record {
  groups = (tt, tt);
  pairs = tt;
  members = λ member parent has. absurd (true≢false (sym has));
  parents = λ member parent has. absurd (true≢false (sym has));
  rising = λ member parent has. absurd (true≢false (sym has));
}

pub one_told : (generation : ℕ) (counters : Counters) (stamp : ℕ) → stamp ≤ generation
    → AreGroups generation (TOP_LEVEL ∷ []) (one_group counters stamp)
unfolding is_subvolume_number
one_told generation counters stamp by =
    let groups = (one_group counters stamp).groups in
    record {
      few = omega arith;
      ascending = λ k below. absurd (omega (arith, below));
      numbers = All-from_recursion (λ (entry : ℕ × Group). is_group_number entry.0 ≡ true) groups (refl, tt);
      own = All-from_recursion (λ (sub : ℕ). has_key sub groups ≡ true) (TOP_LEVEL ∷ []) (refl, tt);
      stamped = All-from_recursion (λ (entry : ℕ × Group). entry.1.stamp ≤ generation) groups (by, tt);
      few_pairs = omega arith;
      sound = one_sound counters stamp;
    }

-- the ROOT_ITEMs of a state with one subvolume
pub one_root : (state : State) (subvolume : Subvolume) (node : Node) → state.subvolumes ≡ (TOP_LEVEL, subvolume) ∷ []
    → node_at state.layout subvolume.root ≡ Some node
    → subvolume_items state ≡ (TOP_LEVEL, root_item_of subvolume node) ∷ []
unfolding subvolume_items
one_root state subvolume node alone there = rw (alone, there) refl

pub one_there : (state : State) (subvolume : Subvolume) (node : Node) → state.subvolumes ≡ (TOP_LEVEL, subvolume) ∷ []
    → node_at state.layout subvolume.root ≡ Some node → AllByRecursion (HasRoot state.layout) state.subvolumes
one_there state subvolume node alone there =
    subst (λ (list : List (ℕ × Subvolume)). AllByRecursion (HasRoot state.layout) list) (sym alone)
    (ap is_some there, tt)
