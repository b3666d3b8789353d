-- The roots of trees that stand, by the numbers of their subvolumes.
use Rattle.std.proofs.Common.{◌≡◌, ◌≢◌, ℕ, List, [], ◌∷◌, map, Some, arith, refl, sym, ap, subst, ◌∙◌, inl, inr}
use Rattle.std.specs.List.{Contains}
use Rattle.std.specs.List.Sorted.{IsStrictlyIncreasing}
use Rattle.std.proofs.lemmas.Bool.{cases_eq}
use Rattle.std.proofs.lemmas.Option.{same_Some}
use Rattle.qg_image.specs.Table.{keys_of, value_at}
use Rattle.qg_image.proofs.Contained.{contains_cases, contains_here, contains_later}
use Rattle.qg_owner_rule.proofs.Reaching.{entry_of_value, value_of_entry}
use Rattle.qg_files.proofs.Ascending.{Ascends-increasing, ascends-with_value, increasing-Ascends}
use Rattle.qg_reach.proofs.Layouts.{value_at-with_other, value_at-with_same}
use Rattle.qg_shared_trees.specs.Tree.{Root}
use Rattle.qg_fs_tree.specs.declared.fs_tree.FsTree.{FsTree}
use Rattle.qg_fs_tree.specs.Standing.{roots_of, trees_of}
use Rattle.qg_fs_tree.proofs.Lists.{from-mapped, has-mapped}

-- a tree of a number has its root at an address
pub record HasRoot (fs : FsTree) (number root : ℕ) : Type 0 where
  pub tree : Root
  pub among : Contains (trees_of fs) tree
  pub number_is : tree.owner ≡ number
  pub root_is : tree.address ≡ root

-- a tree's root with its number
abbrev root_pair : Root → ℕ × ℕ
root_pair tree = (tree.owner, tree.address)

keys_are : (trees : List Root) → keys_of (map root_pair trees) ≡ map (λ (tree : Root). tree.owner) trees
keys_are [] = refl
keys_are (tree ∷ trees) = ap (λ (ns : List ℕ). tree.owner ∷ ns) (keys_are trees)

module _ (fs : FsTree) (up : IsStrictlyIncreasing (map (λ (other : Root). other.owner) fs.others.items))
    (apart : (other : Root) → Contains fs.others.items other → other.owner ≢ fs.tree.owner) where
  abbrev table : List (ℕ × ℕ)
  table = map root_pair fs.others.items

  others_up : IsStrictlyIncreasing (keys_of (map root_pair fs.others.items))
  others_up = subst (λ (ns : List ℕ). IsStrictlyIncreasing ns) (sym (keys_are fs.others.items)) up

  pub roots-ascend : IsStrictlyIncreasing (keys_of (roots_of fs))
  roots-ascend = increasing-Ascends 0 (roots_of fs)
      (ascends-with_value 0 fs.tree.owner fs.tree.address table (omega arith) (Ascends-increasing table others_up))

  -- each tree has its root there
  pub tree-root : (tree : Root) → Contains (trees_of fs) tree → value_at tree.owner (roots_of fs) ≡ Some tree.address
  tree-root tree has = elim (contains_cases fs.tree fs.others.items tree has) [
    | inl same ↦
        subst (λ (t : Root). value_at t.owner (roots_of fs) ≡ Some t.address) same
        (value_at-with_same fs.tree.owner fs.tree.address table)
    | inr later ↦
        value_at-with_other fs.tree.owner tree.owner fs.tree.address table (λ is. apart tree later (sym is))
        ∙ value_of_entry table (root_pair tree) others_up (has-mapped root_pair fs.others.items tree later)
  ]

  -- and each root is that of a tree
  pub root-tree : (number root : ℕ) → value_at number (roots_of fs) ≡ Some root → HasRoot fs number root
  root-tree number root there = elim (cases_eq number fs.tree.owner) [
    | inl is ↦ record {
      tree = fs.tree;
      among = contains_here fs.tree fs.others.items;
      number_is = sym is;
      root_is = same_Some fs.tree.address root
          (sym (value_at-with_same fs.tree.owner fs.tree.address table)
          ∙ ap (λ (n : ℕ). value_at n (roots_of fs)) (sym is) ∙ there);
    }
    | inr differ ↦
        let later = sym (value_at-with_other fs.tree.owner number fs.tree.address table (λ is. differ (sym is)))
        ∙ there in
        let found = from-mapped root_pair fs.others.items (number, root) (entry_of_value number root table later) in
        record {
          tree = found.0;
          among = contains_later fs.tree fs.others.items found.0 found.1;
          number_is = ap (λ (entry : ℕ × ℕ). entry.0) found.2;
          root_is = ap (λ (entry : ℕ × ℕ). entry.1) found.2;
        }
  ]

  -- the tree of the number at hand is the one at hand
  pub tree-at_hand : (tree : Root) → Contains (trees_of fs) tree → tree.owner ≡ fs.tree.owner → tree ≡ fs.tree
  tree-at_hand tree has is = elim (contains_cases fs.tree fs.others.items tree has) [
    | inl same ↦ sym same
    | inr later ↦ absurd (apart tree later is)
  ]
