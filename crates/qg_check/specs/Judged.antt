-- What was judged of the trees of an image, and keeps all rules (this project's own).
use Rattle.std.specs.Prelude.{◌≡◌, List, map, None}
use Rattle.std.specs.List.{flat_map}
use Rattle.std.specs.List.Sorted.{IsStrictlyIncreasing}
use Rattle.std.specs.Option.{option_map}
use Rattle.qg_node.specs.declared.node.Node.{Node}
use Rattle.qg_super.specs.declared.superblock.Super.{Super}
use Rattle.qg_super.specs.SuperText.{sizes_of}
use Rattle.qg_image.specs.Reach.{extent_of, pieces_of}
use Rattle.qg_image.specs.Verdict.{extent_set, space_failure}
use Rattle.qg_reach.specs.Sets.{HaveSame}
use Rattle.qg_shared_walk.specs.NodeFacts.{AreOfNodes}
use Rattle.qg_check.specs.Trees.{quota_nodes_read}
use Rattle.qg_check.specs.declared.judge.JudgedTrees.{JudgedTrees}
use Rattle.qg_check.specs.declared.judge.Read.{Read}
use Rattle.qg_check.specs.declared.trees.QuotaTree.{QuotaTree}

-- this was judged of what was read: the trees as they were; the extents that the nodes name, which keep the rule
-- `space`; and what was surveyed of the nodes, ascending by address
pub record IsJudgedOf (super : Super) (read : Read) (judged : JudgedTrees) : Type 0 where
  pub trees : judged.trees ≡ read.trees
  pub extents : judged.extents ≡ read.extents
  pub quota : judged.quotas.quota ≡ option_map (λ (tree : QuotaTree). tree.quota) read.quotas
  pub quota_nodes : judged.quotas.nodes ≡ quota_nodes_read read.quotas
  pub named : (nodes : List Node) → AreOfNodes read.nodes nodes
      → judged.runs ≡ extent_set (flat_map (λ node. map extent_of (pieces_of node)) nodes)
  pub space : space_failure (sizes_of super) judged.runs ≡ None
  pub same : HaveSame (map (λ node. node.linked.address) judged.nodes.items)
      (map (λ node. node.linked.address) read.nodes.nodes.items)
  pub ascending : IsStrictlyIncreasing (map (λ node. node.linked.address) judged.nodes.items)
