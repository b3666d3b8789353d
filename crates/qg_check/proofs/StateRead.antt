-- What is kept of an image whose trees were read.
use Rattle.std.proofs.Common.{◌≡◌, ℕ, List, [], ◌∷◌, ◌++◌, map, Option, None, Some, refl, sym, ap, ◌∙◌, subst}
use Rattle.std.specs.List.{AllByRecursion, Contains, flat_map}
use Rattle.std.specs.List.Sorted.{IsStrictlyIncreasing}
use Rattle.std.specs.Option.{option_map}
use Rattle.qg_node.specs.declared.node.Node.{Node}
use Rattle.qg_node.specs.Nodes.{header_of}
use Rattle.qg_items.specs.declared.root.RootItem.{RootItem}
use Rattle.qg_super.specs.declared.superblock.Super.{Super}
use Rattle.qg_image.specs.declared.quota.Quota.{Quota}
use Rattle.qg_image.specs.State.{layout_of}
use Rattle.qg_image.specs.Owed.{Agrees, homeless}
use Rattle.qg_image.specs.Space.{present_extents}
use Rattle.qg_image.specs.declared.tree.TreeKind.TheVariants.{Extents, Quotas, Files}
use Rattle.qg_image.specs.ImageState.{state_in, quota_in, quota_parts, quota_root, other_nodes, extent_parts}
use Rattle.qg_image.specs.ImageState.{nodes_of_root, of_tree, root_nodes, addresses_of}
use Rattle.qg_image.specs.Verdict.{extent_set}
use Rattle.qg_extents.specs.Table.{book_of}
use Rattle.qg_extents.specs.BookRecords.{IsTold}
use Rattle.qg_reach.specs.Sets.{HaveSame}
use Rattle.qg_reach.proofs.Members.{contains_flat_map, contains_map, one_flat_mapped, one_mapped, same_on}
use Rattle.qg_shared_walk.proofs.Verdicts.{nodes_of_all}
use Rattle.qg_shared_walk.proofs.Sorted.{lie_as_told}
use Rattle.qg_check.specs.declared.image.Image.{Image}
use Rattle.qg_check.specs.IsImage.{IsBookOf, IsSubvolumeOf, StandsFor}
use Rattle.qg_qgroups.specs.Tracked.{quota_of}
use Rattle.qg_check.specs.declared.judge.Read.{Read}
use Rattle.qg_check.specs.declared.trees.QuotaTree.{QuotaTree}
use Rattle.qg_check.specs.Trees.{quota_nodes_read, AreRead, IsQuotaTreeOf}
use Rattle.qg_check.proofs.Subvolumes.{are_subvolumes}

pub quota_of_state : (super : Super) (image : List ℕ) → (state_in super image).quota ≡ quota_in super image
unfolding state_in
quota_of_state super image = refl

quota_so : (super : Super) (image : List ℕ) (root : Option RootItem) (tree : Option QuotaTree)
    → quota_root super image ≡ root → IsQuotaTreeOf super image root tree
    → quota_in super image ≡ quota_of (option_map (λ (tree : QuotaTree). tree.quota) tree)
unfolding quota_parts
quota_so super image None None named is = rw named refl
quota_so super image None (Some tree) named is = absurd is
quota_so super image (Some root) None named is = absurd is
quota_so super image (Some root) (Some tree) named is = rw named (ap (λ (q : Quota). Some q) (sym is.said))

pub quota_read : (super : Super) (image : List ℕ) (read : Read) → AreRead super image read
    → quota_in super image ≡ quota_of (option_map (λ (tree : QuotaTree). tree.quota) read.quotas)
quota_read super image read are =
    quota_so super image read.trees.quotas read.quotas are.trees.named.quota_tree are.quotas

-- ---- the nodes

-- those of the quota tree, where there is one
quota_placed : (super : Super) (image : List ℕ) (root : Option RootItem) (tree : Option QuotaTree)
    → IsQuotaTreeOf super image root tree
    → quota_nodes_read tree ≡ addresses_of (of_tree (nodes_of_root Quotas super image) root)
quota_placed super image None None is = refl
quota_placed super image None (Some tree) is = absurd is
quota_placed super image (Some root) None is = absurd is
quota_placed super image (Some root) (Some tree) is = is.placed

pub three : {a a' b b' c c' : List ℕ} → a ≡ a' → b ≡ b' → c ≡ c' → a ++ b ++ c ≡ a' ++ b' ++ c'
three first second third = λ k. first k ++ second k ++ third k

pub others_read : (super : Super) (image : List ℕ) (read : Read) → AreRead super image read
    → addresses_of (other_nodes super image) ≡ read.trees.nodes ++ read.extents.nodes ++ quota_nodes_read read.quotas
others_read super image read are =
    let extents = nodes_of_root Extents super image read.trees.extents in
    let quotas = of_tree (nodes_of_root Quotas super image) read.trees.quotas in
    let all : addresses_of (other_nodes super image) ≡ addresses_of (root_nodes super image ++ extents ++ quotas) =
    rw (are.trees.named.extent_tree, are.trees.named.quota_tree) refl in
    all ∙ apart (root_nodes super image) extents quotas
    ∙ sym (three are.trees.placed are.extents.placed
    (quota_placed super image read.trees.quotas read.quotas are.quotas)) where
      append : (b c : List Node) → addresses_of (b ++ c) ≡ addresses_of b ++ addresses_of c
      append [] c = refl
      append (node ∷ b) c = ap (λ (rest : List ℕ). (header_of node).address ∷ rest) (append b c)

      apart : (a b c : List Node) → addresses_of (a ++ b ++ c) ≡ addresses_of a ++ addresses_of b ++ addresses_of c
      apart [] b c = append b c
      apart (node ∷ a) b c = ap (λ (rest : List ℕ). (header_of node).address ∷ rest) (apart a b c)

-- lists that have the same have the same numbers
same_map : {A B : Type 0} (f : A → B) (xs ys : List A) → HaveSame xs ys → HaveSame (map f xs) (map f ys)
same_map {A} {B} f xs ys same = record {
  into = λ y has. let x = one_mapped f xs y has in
      subst (λ (z : B). Contains (map f ys) z) x.2 (contains_map f ys x.0 (same.into x.0 x.1));
  back = λ y has. let x = one_mapped f ys y has in
      subst (λ (z : B). Contains (map f xs) z) x.2 (contains_map f xs x.0 (same.back x.0 x.1));
}

-- where what was surveyed lies there lie the nodes of all subvolumes
pub nodes_read : (super : Super) (image : List ℕ) (read : Read) → AreRead super image read → (addresses : List ℕ)
    → HaveSame addresses (map (λ node. node.linked.address) read.nodes.nodes.items)
    → HaveSame addresses (addresses_of
    (flat_map (λ entry. nodes_of_root Files super image entry.1) read.trees.subvolumes))
nodes_read super image read are addresses same =
    let found = are.subvolumes.found in
    let lie = lie_as_told read.nodes.nodes.items found.nodes found.kept in
    same_on addresses (addresses_of found.nodes) (addresses_of (nodes_of_all super image read.trees.subvolumes))
    (subst (HaveSame addresses) lie same)
    (same_map (λ (node : Node). (header_of node).address) found.nodes (nodes_of_all super image read.trees.subvolumes)
    (record {
      into = λ node has.
          let one = found.only node has in
          contains_flat_map (λ (entry : ℕ × RootItem). nodes_of_root Files super image entry.1) read.trees.subvolumes
          one.0 node one.1 one.2;
      back = λ node has.
          let one = one_flat_mapped (λ (entry : ℕ × RootItem). nodes_of_root Files super image entry.1)
          read.trees.subvolumes node has in
          found.all one.0 node one.1 one.2;
    }))

-- ---- what is kept

-- what is kept of the trees that were read of an image
pub record IsKeptOf (super : Super) (image : List ℕ) (read : Read) (kept : Image) : Type 0 where
  pub same : kept.superblock ≡ super
  pub roots : kept.roots ≡ read.trees.subvolumes
  pub quota : kept.quota ≡ option_map (λ (tree : QuotaTree). tree.quota) read.quotas
  pub others : kept.others ≡ read.trees.nodes ++ read.extents.nodes ++ quota_nodes_read read.quotas
  pub nodes : HaveSame kept.nodes (map (λ node. node.linked.address) read.nodes.nodes.items)
  pub ascending : IsStrictlyIncreasing kept.nodes
  pub extents : extent_set (present_extents (state_in super image)) ≡ kept.extents
  pub recorded : IsTold super.nodesize (extent_parts super image) (book_of kept.book)
  pub owed : IsBookOf (layout_of (state_in super image)) (book_of kept.book)
  pub agrees : Agrees (layout_of (state_in super image)) (extent_parts super image)
  pub home : homeless (layout_of (state_in super image)) ≡ None

pub kept_read : (super : Super) (image : List ℕ) (read : Read) (kept : Image) → AreRead super image read
    → IsKeptOf super image read kept → StandsFor super image kept
kept_read super image read kept are is = record {
  same = is.same;
  roots = are.trees.named.all ∙ sym is.roots;
  quota = quota_read super image read are ∙ sym (ap quota_of is.quota);
  each = subst (λ (roots : List (ℕ × RootItem)). AllByRecursion (λ entry. IsSubvolumeOf super image entry.1) roots)
      (sym is.roots)
      (are_subvolumes super image read.trees.subvolumes read.nodes are.subvolumes);
  others = is.others ∙ sym (others_read super image read are);
  nodes = subst (λ (roots : List (ℕ × RootItem)). HaveSame kept.nodes
      (addresses_of (flat_map (λ entry. nodes_of_root Files super image entry.1) roots)))
      (sym is.roots) (nodes_read super image read are kept.nodes is.nodes);
  ascending = is.ascending;
  extents = sym is.extents;
  recorded = is.recorded;
  owed = is.owed;
  agrees = is.agrees;
  home = is.home;
}
