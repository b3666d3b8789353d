-- Where a reading of a tree names a rule, over any disk: what follows of a call for the calls that make it.
use Rattle.std.proofs.Common.{◌≡◌, ℕ, suc, refl, sym, subst, inl, inr}
use Rattle.std.specs.Prelude.{Some, None, Result, Ok, Err, IsErrAnd}
use Rattle.qg_num.specs.declared.fault.BlockFault.{BlockFault}
use Rattle.qg_num.specs.declared.fault.BlockFault.TheVariants.{NoMemory, Disk, Image}
use Rattle.qg_num.specs.declared.rule.Rule.{Rule}
use Rattle.qg_node.specs.declared.node.Node.{Node}
use Rattle.qg_super.specs.declared.superblock.Super.{Super}
use Rattle.qg_blocks.specs.Types.{Broken, Expected, TreeKind}
use Rattle.qg_blocks.specs.Walk.{root_expected}
use Rattle.qg_walk.specs.Standing.{form_failure}
use Rattle.qg_walk.proofs.Failures.{node_failure-form}
use Rattle.qg_blocks.specs.NodesInMemory.{Draft}
use Rattle.qg_blocks.specs.Stopping.{IsStopCause, StopsForCause}
use Rattle.qg_blocks.specs.NodesFound.{BreaksForCause, IsNodeAt}
use Rattle.qg_blocks.proofs.Broken.{handed}
use Rattle.qg_blocks.proofs.Stopping.{stops-err}
use Rattle.qg_tree_read.specs.Stopping.{IsStray, LacksNode, LacksOnWay, MayComeTo, StopsOnWay, StopsThere}
use Rattle.qg_tree_read.specs.Tree.{Root, super_of}
use Rattle.qg_tree_read.specs.Way.{LeadsOn}
use Rattle.qg_tree_read.proofs.Visits.{form-at}

-- ---- one node

unread_there : (A B : Type 0) (tree : TreeKind) (root : Root) (draft : Draft) (bytes : ℕ) (expected : Expected)
    (address : ℕ) (fault : BlockFault) → BreaksForCause {A = A} (Err fault) draft.sizes bytes address
    → StopsThere {A = B} (Err fault) tree root draft bytes expected address
unread_there A B tree root draft bytes expected address (Image rule at) broken = (broken.0, inl broken.1)
unread_there A B tree root draft bytes expected address Disk broken = tt
unread_there A B tree root draft bytes expected address NoMemory broken = tt

-- it can't be read
pub stops-unread : (A : Type 0) {B : Type 0} (result : Result B BlockFault) (tree : TreeKind) (root : Root)
    (draft : Draft)
    (bytes : ℕ) (expected : Expected) (address : ℕ) (fault : BlockFault) → IsErrAnd result (λ given. given ≡ fault)
    → BreaksForCause {A = A} (Err fault) draft.sizes bytes address
    → StopsThere result tree root draft bytes expected address
stops-unread A {B} result tree root draft bytes expected address fault is broken =
    subst (λ (r : Result B BlockFault). StopsThere r tree root draft bytes expected address)
    (sym (handed result fault is))
    (unread_there A B tree root draft bytes expected address fault broken)

named_at : (rule : Rule) (at address : ℕ) → (there : Rule) → Broken rule at ≡ Broken there address → at ≡ address
named_at rule at address there is = cc

-- or is none such as is expected
pub stray-formed : (tree : TreeKind) (super : Super) (expected : Expected) (address : ℕ) (node : Node) (rule : Rule)
    (at : ℕ) → IsNodeAt super.nodesize address node
    → form_failure tree super expected address node ≡ Some (Broken rule at) → IsStray tree super expected address rule
stray-formed tree super expected address node rule at kept fails =
    let there = form-at tree super expected address node (Broken rule at) fails in
    let same = named_at rule at address there.0 there.1 in
    record {
      node = node;
      kept = kept;
      strays = subst (λ (a : ℕ). form_failure tree super expected address node ≡ Some (Broken rule a)) same fails;
    }

-- ---- on the way down from a root

pub may-come-step : (tree : TreeKind) (super : Super) (expected : Expected) (root depth next : ℕ)
    (above below : Expected)
    (parent address : ℕ) (node : Node) → next ≡ suc depth → MayComeTo tree super expected root depth above parent
    → IsNodeAt super.nodesize parent node → form_failure tree super above parent node ≡ None
    → LeadsOn node above below address → MayComeTo tree super expected root next below address
unfolding MayComeTo
may-come-step tree super expected root depth next above below parent address node is comes kept formed leads =
    rw is (above, parent, node, comes, kept, formed, leads)

lacks_same : (tree : TreeKind) (root : Root) (draft other : Draft) (bytes left : ℕ) (expected : Expected) (address : ℕ)
    (rule : Rule) → other ≡ draft → left ≡ bytes → LacksNode tree root other left expected address rule
    → LacksNode tree root draft bytes expected address rule
lacks_same tree root draft other bytes left expected address rule same size lacks =
    subst (λ (d : Draft). LacksNode tree root d bytes expected address rule) same
    (subst (λ (n : ℕ). LacksNode tree root other n expected address rule) size lacks)

-- what is answered at an address that pointers lead to, where nodes and disk are as they were
pub stops-on_way : (A B : Type 0) (tree : TreeKind) (root : Root) (draft other : Draft) (bytes left depth : ℕ)
    (expected : Expected) (address : ℕ) (fault : BlockFault) → other ≡ draft → left ≡ bytes
    → MayComeTo tree (super_of root draft) (root_expected (Some root.height) None) root.address depth expected address
    → StopsThere {A = A} (Err fault) tree root other left expected address
    → StopsOnWay {A = B} (Err fault) tree root draft bytes
stops-on_way A B tree root draft other bytes left depth expected address (Image rule at) same size comes stops =
    let there : LacksOnWay tree root draft bytes rule address = record {
      depth = depth;
      expected = expected;
      comes = comes;
      lacks = lacks_same tree root draft other bytes left expected address rule same size stops.1;
    } in
    subst (λ (a : ℕ). LacksOnWay tree root draft bytes rule a) (sym stops.0) there
stops-on_way A B tree root draft other bytes left depth expected address Disk same size comes stops = tt
stops-on_way A B tree root draft other bytes left depth expected address NoMemory same size comes stops = tt

on_way_other : (A B : Type 0) (tree : TreeKind) (root : Root) (draft other : Draft) (bytes left : ℕ)
    (fault : BlockFault)
    → other ≡ draft → left ≡ bytes → StopsOnWay {A = A} (Err fault) tree root other left
    → StopsOnWay {A = B} (Err fault) tree root draft bytes
on_way_other A B tree root draft other bytes left (Image rule at) same size stops =
    subst (λ (d : Draft). LacksOnWay tree root d bytes rule at) same
    (subst (λ (n : ℕ). LacksOnWay tree root other n rule at) size stops)
on_way_other A B tree root draft other bytes left Disk same size stops = tt
on_way_other A B tree root draft other bytes left NoMemory same size stops = tt

-- what a reading of the same tree answered, where nodes and disk are as they were
pub on_way-err : (A : Type 0) {B : Type 0} (result : Result B BlockFault) (tree : TreeKind) (root : Root)
    (draft other : Draft) (bytes left : ℕ) (fault : BlockFault) → IsErrAnd result (λ given. given ≡ fault)
    → other ≡ draft → left ≡ bytes → StopsOnWay {A = A} (Err fault) tree root other left
    → StopsOnWay result tree root draft bytes
on_way-err A {B} result tree root draft other bytes left fault is same size stops =
    subst (λ (r : Result B BlockFault). StopsOnWay r tree root draft bytes) (sym (handed result fault is))
    (on_way_other A B tree root draft other bytes left fault same size stops)

-- ---- in any call

lacks_cause : (tree : TreeKind) (root : Root) (draft : Draft) (bytes : ℕ) (expected : Expected) (address : ℕ)
    (rule : Rule)
    → LacksNode tree root draft bytes expected address rule → IsStopCause draft.sizes bytes rule address
lacks_cause tree root draft bytes expected address rule (inl none) = inl none
lacks_cause tree root draft bytes expected address rule (inr stray) =
    inr (inl (record {
      tree = tree;
      super = super_of root draft;
      expected = expected;
      node = stray.node;
      sized = refl;
      kept = stray.kept;
      breaks = node_failure-form tree (super_of root draft) expected address stray.node (Broken rule address)
          stray.strays;
    }))

-- what is answered at one address
pub stops-there : {A : Type 0} (result : Result A BlockFault) (tree : TreeKind) (root : Root) (draft : Draft)
    (bytes : ℕ)
    (expected : Expected) (address : ℕ) → StopsThere result tree root draft bytes expected address
    → StopsForCause result draft.sizes bytes
stops-there (Ok x) tree root draft bytes expected address stops = tt
stops-there (Err (Image rule at)) tree root draft bytes expected address stops =
    subst (λ (a : ℕ). IsStopCause draft.sizes bytes rule a) (sym stops.0)
    (lacks_cause tree root draft bytes expected address rule stops.1)
stops-there (Err Disk) tree root draft bytes expected address stops = tt
stops-there (Err NoMemory) tree root draft bytes expected address stops = tt

-- and handed on
pub stops-visit : {B : Type 0} (result : Result B BlockFault) (fault : BlockFault) (tree : TreeKind) (root : Root)
    (draft : Draft) (bytes : ℕ) (expected : Expected) (address : ℕ) → IsErrAnd result (λ given. given ≡ fault)
    → StopsThere {A = Unit {0}} (Err fault) tree root draft bytes expected address
    → StopsForCause result draft.sizes bytes
stops-visit result fault tree root draft bytes expected address is stops =
    stops-err (Unit {0}) result fault draft.sizes draft.sizes bytes bytes is refl refl
    (stops-there {A = Unit {0}} (Err fault) tree root draft bytes expected address stops)

-- what is answered on the way down from a root
pub stops-way : {A : Type 0} (result : Result A BlockFault) (tree : TreeKind) (root : Root) (draft : Draft) (bytes : ℕ)
    → StopsOnWay result tree root draft bytes → StopsForCause result draft.sizes bytes
stops-way (Ok x) tree root draft bytes stops = tt
stops-way (Err (Image rule at)) tree root draft bytes stops =
    lacks_cause tree root draft bytes stops.expected at rule stops.lacks
stops-way (Err Disk) tree root draft bytes stops = tt
stops-way (Err NoMemory) tree root draft bytes stops = tt
