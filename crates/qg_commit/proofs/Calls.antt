-- The calls of a commit, one list of its nodes behind the other, and then the superblocks.
use Rattle.std.proofs.Common.{◌≡◌, ℕ, List, [], ◌++◌, refl, sym, ap, subst, ◌∙◌, append_assoc}
use Rattle.std.specs.List.{AllByRecursion}
use Rattle.std.proofs.lemmas.List.{append-nil}
use Rattle.qg_device.specs.History.{History, history_after}
use Rattle.qg_node.specs.declared.node.Node.{Node}
use Rattle.qg_super.specs.declared.superblock.Super.{Super}
use Rattle.qg_blocks.specs.NodesInMemory.{Draft}
use Rattle.qg_commit.specs.Types.{OtherTrees}
use Rattle.qg_commit.specs.Trees.{quota_nodes_laid}
use Rattle.qg_commit.specs.Writing.{fresh_nodes, nodes_written}
use Rattle.qg_commit.specs.Calls.{Call, IsWritable, node_calls, unsure_calls, unsure_superblock_calls, with_commit}
use Rattle.qg_commit.specs.Calls.{with_nodes, with_superblocks}
use Rattle.qg_commit.proofs.CommitCalls.{OfEach, first_calls, last_calls, of_each, superblocks_after, two_calls}
use Rattle.qg_commit.proofs.Fronts.{ComesTo, apart, comes-behind, comes-more, nodes-more, same-nodes}

-- nodes were written
pub record AreWritten (super : Super) (nodes : List Node) (old new : History) : Type 0 where
  pub is : new ≡ history_after (with_nodes super.nodesize nodes) old

-- calls came so far in a commit of nodes, and its last sync was not made
pub record StopsCommit (super : Super) (nodes : List Node) (old new : History) : Type 0 where
  pub comes : ComesTo (unsure_calls super nodes) old new

-- all calls of a commit of nodes were made
pub record EndsCommit (super : Super) (nodes : List Node) (old new : History) : Type 0 where
  pub is : new ≡ history_after (with_commit super nodes) old

-- ---- a list that is written over a buffer of the size that the superblock tells

pub are-written : {super : Super} {nodes given : List Node} {old new : History} {nodesize : ℕ}
    → nodesize ≡ super.nodesize → given ≡ nodes → new ≡ history_after (with_nodes nodesize given) old
    → AreWritten super nodes old new
are-written {super} {nodes} {given} {old} {new} {nodesize} size same is =
    record { is = first_calls super nodesize given nodes old new size same is }

-- the calls came into it
pub stops-among : {super : Super} {nodes given : List Node} {old new : History} {nodesize : ℕ} (later : List Node)
    → nodesize ≡ super.nodesize → given ≡ nodes → ComesTo (node_calls nodesize given) old new
    → StopsCommit super (nodes ++ later) old new
stops-among {super} {nodes} {given} {old} {new} {nodesize} later size same comes =
    let n = super.nodesize in
    record {
      comes = comes-more (node_calls n (nodes ++ later)) (unsure_superblock_calls super) old new
          (nodes-more n nodes later old new (same-nodes nodesize n given nodes old new size same comes));
    }

-- they came past it
pub stops-past : {super : Super} {nodes later : List Node} {old mid new : History} → AreWritten super nodes old mid
    → StopsCommit super later mid new → StopsCommit super (nodes ++ later) old new
stops-past {super} {nodes} {later} {old} {mid} {new} written stops =
    let n = super.nodesize in
    let last = unsure_superblock_calls super in
    let lists : node_calls n nodes ++ (node_calls n later ++ last) ≡ node_calls n (nodes ++ later) ++ last =
    sym (append_assoc (node_calls n nodes) (node_calls n later) last)
    ∙ ap (λ (calls : List Call). calls ++ last) (apart n nodes later) in
    record {
      comes = subst (λ (calls : List Call). ComesTo calls old new) lists
          (comes-behind (node_calls n nodes) (unsure_calls super later) old mid new written.is stops.comes);
    }

pub ends-past : {super : Super} {nodes later : List Node} {old mid new : History} → AreWritten super nodes old mid
    → EndsCommit super later mid new → EndsCommit super (nodes ++ later) old new
ends-past {super} {nodes} {later} {old} {mid} {new} written ends =
    let n = super.nodesize in
    let all = history_after (with_nodes n later) mid in
    record {
      is = last_calls super (nodes ++ later) old all new
          (two_calls super n nodes later later old mid all refl refl written.is refl)
          (ends.is ∙ sym (superblocks_after super later mid));
    }

-- ---- the superblocks, once all nodes were written

pub stops-last : {super : Super} {old new : History} → ComesTo (unsure_superblock_calls super) old new
    → StopsCommit super [] old new
stops-last comes = record { comes = comes }

pub ends-last : {super : Super} {old new : History} → new ≡ history_after (with_superblocks super) old
    → EndsCommit super [] old new
ends-last is = record { is = is }

-- ---- the same nodes

pub stops-same : {super : Super} {nodes same : List Node} {old new : History} → nodes ≡ same
    → StopsCommit super nodes old new → StopsCommit super same old new
stops-same {super} {nodes} {same} {old} {new} are = subst (λ (list : List Node). StopsCommit super list old new) are

pub ends-same : {super : Super} {nodes same : List Node} {old new : History} → nodes ≡ same
    → EndsCommit super nodes old new → EndsCommit super same old new
ends-same {super} {nodes} {same} {old} {new} are = subst (λ (list : List Node). EndsCommit super list old new) are

-- ---- four lists

-- one behind the other they are all that is written
pub laid-in_turn : (a b c d : List Node) → a ++ (b ++ (c ++ (d ++ []))) ≡ a ++ b ++ c ++ d
laid-in_turn a b c d = simp (append_assoc, append-nil)

pub written-in_turn : (draft : Draft) (trees : OtherTrees)
    → fresh_nodes draft ++ (trees.roots.nodes ++ (trees.extents.nodes ++ (quota_nodes_laid trees.quotas ++ [])))
    ≡ nodes_written draft trees
written-in_turn draft trees = simp (append_assoc, append-nil)

-- each list may be written where all may
pub each-writable : (draft : Draft) (trees : OtherTrees) (nodesize : ℕ)
    → AllByRecursion (IsWritable nodesize) (nodes_written draft trees)
    → OfEach (IsWritable nodesize) (fresh_nodes draft) trees.roots.nodes trees.extents.nodes
    (quota_nodes_laid trees.quotas)
each-writable draft trees nodesize all =
    let fresh = fresh_nodes draft in
    let roots = trees.roots.nodes in
    let extents = trees.extents.nodes in
    let quotas = quota_nodes_laid trees.quotas in
    let in_turn : fresh ++ (roots ++ extents ++ quotas) ≡ fresh ++ roots ++ extents ++ quotas = simp append_assoc in
    of_each (IsWritable nodesize) fresh roots extents quotas (subst (AllByRecursion (IsWritable nodesize)) in_turn all)
