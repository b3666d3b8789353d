-- What was laid out for a commit.
use Rattle.std.proofs.Common.{◌≡◌, ℕ, true, List, subst}
use Rattle.std.specs.Prelude.{Contains, IsTrue, All}
use Rattle.std.specs.List.Sorted.{IsStrictlySortedBy}
use Rattle.std.specs.Map.{keys_of}
use Rattle.std.specs.Ordering.{nat_cmp}
use Rattle.std.proofs.lemmas.List.Elements.{All-contains}
use Rattle.qg_super.specs.declared.sizes.Sizes.{Sizes}
use Rattle.qg_super.specs.Places.{is_slot}
use Rattle.qg_super.specs.SuperText.{is_super}
use Rattle.qg_blocks.specs.NodesInMemory.{Draft}
use Rattle.qg_commit.specs.Types.{OtherTrees}
use Rattle.qg_commit.specs.Types.{TreeContents}
use Rattle.qg_commit.specs.Trees.{AreTreesOf}
use Rattle.qg_commit.specs.Writing.{IsLayingOf}

-- the addresses that were listed ascend, so those of the fresh nodes do
pub listed-IsLaying : (sizes : Sizes) (generation : ℕ) (told : TreeContents) (slots : List ℕ) (draft : Draft)
    (trees : OtherTrees)
    (addresses : List ℕ) → is_super trees.superblock ≡ true → AreTreesOf sizes generation told slots trees
    → addresses ≡ keys_of draft.fresh → IsStrictlySortedBy nat_cmp addresses
    → IsLayingOf sizes generation told slots draft trees
listed-IsLaying sizes generation told slots draft trees addresses is are listed up = record {
  superblock = is;
  laid = are;
  ascending = subst (IsStrictlySortedBy nat_cmp) listed up;
}

pub each-slot : (sizes : Sizes) (slots : List ℕ) → All (λ slot. IsTrue (is_slot sizes slot)) slots → (slot : ℕ)
    → Contains slots slot → IsTrue (is_slot sizes slot)
each-slot sizes slots all slot has = All-contains (λ s. IsTrue (is_slot sizes s)) slots slot all has
