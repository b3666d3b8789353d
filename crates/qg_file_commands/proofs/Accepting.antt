-- What a command that reserves knows between its judgement and what it holds. All in bytes.
use Rattle.std.proofs.Common.{◌≡◌, ℕ, ◌+◌, ◌≤◌, true, List, Option, sym, ap, subst, ◌∙◌, arith, inl, inr}
use Rattle.qg_device.specs.History.{History}
use Rattle.qg_node.specs.NodeText.{IsNodeSize}
use Rattle.qg_image.specs.Table.{has_key}
use Rattle.qg_image.specs.State.{State}
use Rattle.qg_image.specs.Verdict.{longest_extent}
use Rattle.qg_machine.specs.Refusals.{over_limit}
use Rattle.qg_qgroups.specs.declared.judging.ReservationAnswer.{ReservationAnswer}
use Rattle.qg_qgroups.specs.declared.judging.ReservationAnswer.TheVariants.{Path}
use Rattle.qg_qgroups.specs.declared.state.QuotaState.{QuotaState}
use Rattle.qg_qgroups.specs.Judging.{IfPath}
use Rattle.qg_qgroups.specs.OnOrOff.{path_in, refusal_in}
use Rattle.qg_qgroups.specs.Tracked.{quota_of}
use Rattle.qg_open_image.specs.declared.open_image.OpenImage.{OpenImage}
use Rattle.qg_open_image.specs.Editing.{HasReadNodes, clone_reserves, write_reserves}
use Rattle.qg_open_image.specs.Keeping.{IsFitted, IsKeptOf, SameButClean, most_reserved}
use Rattle.qg_open_image.proofs.Known.{nodesize-known}
use Rattle.qg_open_image.proofs.Looked.{node-size}

-- ---- what stays

-- a subvolume is there still
pub listed-still : (old new : OpenImage) → SameButClean old new → (sub : ℕ) → has_key sub old.snapshots ≡ true
    → has_key sub new.snapshots ≡ true
listed-still old new same sub is = ap (λ (kept : OpenImage). has_key sub kept.snapshots) same.rest ∙ is

-- quota stays where another tree came to hand
pub quota-turned : (old new : OpenImage) → SameButClean old new → new.quota ≡ old.quota
quota-turned old new same = ap (λ (kept : OpenImage). kept.quota) same.rest

-- and where nodes were read
pub quota-read : (old new : OpenImage) (before after : History) (bytes left : ℕ)
    → HasReadNodes old new before after bytes left → new.quota ≡ old.quota
quota-read old new before after bytes left looked = ap (λ (kept : OpenImage). kept.quota) looked.same

-- the size of a node stays
pub nodesize-turned : (old new : OpenImage) → SameButClean old new → new.superblock.nodesize ≡ old.superblock.nodesize
nodesize-turned old new same = ap (λ (kept : OpenImage). kept.superblock.nodesize) same.rest

pub nodesize-read : (old new : OpenImage) (before after : History) (bytes left : ℕ)
    → HasReadNodes old new before after bytes left → new.superblock.nodesize ≡ old.superblock.nodesize
nodesize-read old new before after bytes left looked = ap (λ (kept : OpenImage). kept.superblock.nodesize) looked.same

-- ---- the path

-- the groups that were answered
pub path-told : (judged : ReservationAnswer) (path groups : List ℕ) → judged ≡ Path path
    → IfPath judged (λ taken. taken ≡ groups) → path ≡ groups
path-told judged path groups is told = subst (λ (one : ReservationAnswer). IfPath one (λ taken. taken ≡ groups)) is told

-- they are those of the same subvolume while quota stays
pub path-still : (old new : Option QuotaState) (sub other : ℕ) (path : List ℕ) → path ≡ path_in (quota_of old) sub
    → new ≡ old → other ≡ sub → path ≡ path_in (quota_of new) other
path-still old new sub other path is same own = is ∙ (λ i. path_in (quota_of (sym same i)) (sym own i))

-- ---- the amount

small_node : (nodesize n : ℕ) → IsNodeSize nodesize → n ≡ nodesize → n ≤ most_reserved
small_node nodesize n (inl size) is = omega (arith, size, is)
small_node nodesize n (inr size) is = omega (arith, size, is)

small_range : (nodesize len n : ℕ) → IsNodeSize nodesize → n ≡ len + nodesize → len ≤ longest_extent → n ≤ most_reserved
small_range nodesize len n (inl size) is short = omega (arith, size, is, short)
small_range nodesize len n (inr size) is short = omega (arith, size, is, short)

module _ (kept : OpenImage) (fits : IsFitted kept) where
  -- what a clone reserves
  pub node-small : (n : ℕ) → n ≡ clone_reserves kept → n ≤ most_reserved
  node-small n is = small_node kept.superblock.nodesize n (node-size kept fits) is

  -- and what a write does
  pub range-small : (len n : ℕ) → n ≡ write_reserves kept len → len ≤ longest_extent → n ≤ most_reserved
  range-small len n is short = small_range kept.superblock.nodesize len n (node-size kept fits) is short

-- ---- the judgement

module _ (kept : OpenImage) (state : State) (history : History) (keeps : IsKeptOf kept state history)
    (fits : IsFitted kept) (sub n : ℕ) (judged : ReservationAnswer)
    (told : refusal_in judged ≡ over_limit state sub n) where
  -- of a write's amount
  pub judged-range : (len : ℕ) → n ≡ write_reserves kept len
      → over_limit state sub (len + state.sizes.nodesize) ≡ refusal_in judged
  judged-range len is =
      let amount : len + state.sizes.nodesize ≡ n =
      ap (λ (nodesize : ℕ). len + nodesize) (nodesize-known kept state history keeps fits) ∙ sym is in
      ap (λ (m : ℕ). over_limit state sub m) amount ∙ sym told

  -- and of a clone's
  pub judged-node : n ≡ clone_reserves kept → over_limit state sub state.sizes.nodesize ≡ refusal_in judged
  judged-node is =
      let amount : state.sizes.nodesize ≡ n = nodesize-known kept state history keeps fits ∙ sym is in
      ap (λ (m : ℕ). over_limit state sub m) amount ∙ sym told
