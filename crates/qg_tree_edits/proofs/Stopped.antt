-- Why an edit of a tree names a rule, over any disk: what follows of a call for the calls that make it.
use Rattle.std.proofs.Common.{◌≡◌, ℕ, refl, sym, subst, inl, inr}
use Rattle.std.specs.Prelude.{Some, Result, Ok, Err, IsErrAnd, length}
use Rattle.qg_device.specs.History.{History}
use Rattle.qg_num.specs.declared.fault.BlockFault.{BlockFault}
use Rattle.qg_num.specs.declared.fault.BlockFault.TheVariants.{NoMemory, Disk, Image}
use Rattle.qg_num.specs.declared.key.Key.{Key}
use Rattle.qg_num.specs.declared.rule.Rule.{Rule}
use Rattle.qg_num.specs.declared.rule.Rule.TheVariants.{Item, Refs, Shape}
use Rattle.qg_node.specs.declared.node.Node.{Node}
use Rattle.qg_node.specs.Nodes.{own_pointers}
use Rattle.qg_super.specs.declared.sizes.Sizes.{Sizes}
use Rattle.qg_blocks.specs.Stopping.{IsLone, IsMisfit, StopsForCause}
use Rattle.qg_blocks.specs.NodesFound.{IsNodeAt, fresh_at}
use Rattle.qg_blocks.proofs.Stopping.{misfit-item, misfit-refs, stops-err, stops-same}
use Rattle.qg_node_alloc.specs.declared.ground.Ground.{Ground}
use Rattle.qg_node_alloc.specs.Calls.{LeavesBe}
use Rattle.qg_node_alloc.specs.Land.{IsDrafted}
use Rattle.qg_edit.specs.declared.edit.Change.{Change}
use Rattle.qg_edit.specs.Answering.{IsBrokenByChange, IsBrokenByMerge, IsBrokenUnless}
use Rattle.qg_tree_edits.specs.Failing.{NamesOnly}

-- ---- the rules that an edit names

misfit-unless : (one : Rule) (node : Node) (IsSo : Type 0) (rule : Rule) (at : ℕ) → IsMisfit one
    → IsBrokenUnless one node IsSo rule at → IsMisfit rule
misfit-unless one node IsSo rule at misfit broken = subst (λ (r : Rule). IsMisfit r) (sym broken.0) misfit

-- of a leaf that is changed
pub misfit-change : (nodesize : ℕ) (key : Key) (change : Change) (leaf : Node) (rule : Rule) (at : ℕ)
    → IsBrokenByChange nodesize key change leaf rule at → IsMisfit rule
misfit-change nodesize key change leaf rule at (inl broken) = misfit-unless Refs leaf _ rule at misfit-refs broken
misfit-change nodesize key change leaf rule at (inr (can, broken)) =
    misfit-unless Item leaf _ rule at misfit-item broken

-- of two neighbours that are merged
pub misfit-merge : (left right : Node) (rule : Rule) (at : ℕ) → IsBrokenByMerge left right rule at → IsMisfit rule
misfit-merge left right rule at (inl broken) = misfit-unless Refs left _ rule at misfit-refs broken
misfit-merge left right rule at (inr (front, inl broken)) = misfit-unless Item left _ rule at misfit-item broken
misfit-merge left right rule at (inr (front, inr (short, broken))) =
    misfit-unless Item right _ rule at misfit-item broken

-- one is named only where things don't fit
pub stops-names : {A : Type 0} (result : Result A BlockFault) (P : Rule → ℕ → Type 0) (sizes : Sizes) (bytes : ℕ)
    → ((rule : Rule) (at : ℕ) → P rule at → IsMisfit rule) → NamesOnly P result → StopsForCause result sizes bytes
stops-names (Ok x) P sizes bytes misfit names = tt
stops-names (Err (Image rule at)) P sizes bytes misfit names = inr (inr (inr (misfit rule at names)))
stops-names (Err Disk) P sizes bytes misfit names = tt
stops-names (Err NoMemory) P sizes bytes misfit names = tt

-- and handed on
pub stops-names-err : (A : Type 0) {B : Type 0} (result : Result B BlockFault) (fault : BlockFault)
    (P : Rule → ℕ → Type 0) (sizes : Sizes) (bytes : ℕ) → IsErrAnd result (λ given. given ≡ fault)
    → ((rule : Rule) (at : ℕ) → P rule at → IsMisfit rule) → NamesOnly {A = A} P (Err fault)
    → StopsForCause result sizes bytes
stops-names-err A result fault P sizes bytes is misfit names =
    stops-err A result fault sizes sizes bytes bytes is refl refl
    (stops-names {A = A} (Err fault) P sizes bytes misfit names)

-- a fresh node has one pointer
pub stops-lone : {A : Type 0} (result : Result A BlockFault) (land : Ground) (generation at : ℕ) (node : Node)
    (bytes : ℕ) → IsDrafted land generation → fresh_at land.blocks.draft at ≡ Some node
    → length (own_pointers node) ≡ 1 → result ≡ Err (Image Shape at)
    → StopsForCause result land.blocks.draft.sizes bytes
stops-lone {A} result land generation at node bytes drafted here lone is =
    let kept = subst (λ (n : ℕ). IsNodeAt n at node) (sym drafted.sizes.nodesize) (drafted.each at node here).kept in
    let cause : IsLone land.blocks.draft.sizes.nodesize at Shape = record {
      shape = refl;
      node = node;
      kept = kept;
      lone = lone;
    } in
    subst (λ (r : Result A BlockFault). StopsForCause r land.blocks.draft.sizes bytes) (sym is)
    (inr (inr (inl cause)))

-- ---- behind calls that leave nodes and disk be

pub stops-after : {A : Type 0} {old mid : Ground} {before then : History} {bytes held generation : ℕ}
    (result : Result A BlockFault) → LeavesBe old mid before then bytes held generation
    → StopsForCause result mid.blocks.draft.sizes held → StopsForCause result old.blocks.draft.sizes bytes
stops-after {A} {old} {mid} {before} {then} {bytes} {held} {generation} result leaves stops =
    stops-same result mid.blocks.draft.sizes old.blocks.draft.sizes held bytes leaves.rests.node_sizes leaves.size stops

pub stops-err-after : (A : Type 0) {B : Type 0} {old mid : Ground} {before then : History}
    {bytes held generation : ℕ} (result : Result B BlockFault) (fault : BlockFault)
    → IsErrAnd result (λ given. given ≡ fault) → LeavesBe old mid before then bytes held generation
    → StopsForCause {A = A} (Err fault) mid.blocks.draft.sizes held
    → StopsForCause result old.blocks.draft.sizes bytes
stops-err-after A {B} {old} {mid} {before} {then} {bytes} {held} {generation} result fault is leaves stops =
    stops-err A result fault mid.blocks.draft.sizes old.blocks.draft.sizes held bytes is leaves.rests.node_sizes
    leaves.size stops
