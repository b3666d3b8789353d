-- What was pending is committed before a structural command makes its change, and the slots that this leaves.
use Rattle.std.proofs.Common.{◌≡◌, ℕ, zero, suc, ◌+◌, ◌^◌, ◌<◌, ◌≤◌, Bool, true, false, List, [], ◌∷◌, ◌++◌}
use Rattle.std.proofs.Common.{length, Option, None, arith, refl, sym, ap, subst, ◌∙◌, inl, inr}
use Rattle.std.specs.Prelude.{◌⊎◌, ◌||◌, IfErr, IfOk, MatchBool, MatchOption, OnErr, OnOk, Result, Ok, Err}
use Rattle.std.proofs.lemmas.Bool.{cond-true, le-ltb, lt-ltb}
use Rattle.std.proofs.lemmas.List.Folds.{list_any-append}
use Rattle.qg_device.specs.History.{Event, History, Recorded}
use Rattle.qg_num.specs.declared.answer.Answer.TheVariants as answer
use Rattle.qg_num.specs.declared.command.Command.TheVariants as command
use Rattle.qg_num.specs.declared.fault.BlockFault.{BlockFault}
use Rattle.qg_num.specs.declared.refusal.Refusal.{Refusal}
use Rattle.qg_num.specs.declared.refusal.Refusal.TheVariants as why
use Rattle.qg_node.specs.declared.node.Node.{Node}
use Rattle.qg_super.specs.declared.sizes.Sizes.{Sizes}
use Rattle.qg_super.specs.declared.superblock.Super.{Super}
use Rattle.qg_super.specs.SuperText.{sizes_of}
use Rattle.qg_image.specs.Need.{nodes_filled}
use Rattle.qg_image.specs.Record.{records_bytes, same_record}
use Rattle.qg_image.specs.State.{State}
use Rattle.qg_machine.specs.Refusals.{is_pending, last_generation, no_generation, refusal, refuse}
use Rattle.qg_machine.specs.Step.{Commits, CommitsPending}
use Rattle.qg_machine.specs.Step as machine
use Rattle.qg_refs.specs.declared.kept.Kept.{Kept as Reference}
use Rattle.qg_image_commits.specs.Calls.{Call, with_commit}
use Rattle.qg_weighed.specs.Laws.{is_among}
use Rattle.qg_weighed.specs.Weight.{records_in, weight_of}
use Rattle.qg_weighed.proofs.Distinct.{bytes-alike}
use Rattle.qg_weighed.proofs.Law.{no-less}
use Rattle.qg_space.specs.Holding.{free_slots}
use Rattle.qg_tree_read.specs.Tree.{Root}
use Rattle.qg_qgroups.specs.Tracked.{quota_of}
use Rattle.qg_qgroups.proofs.Recounted.{recounted-self}
use Rattle.qg_image_commits.specs.Types.{OpenImage}
use Rattle.qg_image_commits.specs.Keeping.{IsFitted, IsKeptOf, book_weight, commit_need, filled_by, quota_weight}
use Rattle.qg_image_commits.specs.Keeping.{root_weight, structural_need_of}
use Rattle.qg_image_commits.specs.Planning.{CommitsOfSoFar, CommitsOn, LeavesRoom}
use Rattle.qg_image_commits.specs.Making.{CommitsSoFar}
use Rattle.qg_image_commits.specs.Stored.{StaysLast, StopsPending}
use Rattle.qg_store.specs.Structural.{HasCommitted, IsSettledFrom}
use Rattle.qg_image_changes.specs.Changing.{HasRoom}
use Rattle.qg_image_commits.proofs.OnOff.{bytes-recounted, roots-recounted}
use Rattle.qg_image_changes.proofs.HowMany.{generation-told}
use Rattle.qg_image_commits.proofs.Room.{fills-more, left-first, left-none}
use Rattle.qg_image_commits.specs.Types.{KeptSubvolume}
use Rattle.qg_image_commits.proofs.Reserve.{large, need-few}

-- ---- what is weighed

or_same : (b : Bool) → (b || b) ≡ b
or_same true = refl
or_same false = refl

-- a book with itself takes no more than with another
weight-alone : (held refs : List (ℕ × Reference)) → weight_of refs refs ≤ weight_of held refs
unfolding weight_of
weight-alone held refs =
    let once : records_bytes (records_in refs ++ records_in refs) ≡ records_bytes (records_in refs) =
    bytes-alike (records_in refs ++ records_in refs) (records_in refs)
    (λ one. list_any-append (same_record one) (records_in refs) (records_in refs)
    ∙ or_same (is_among (records_in refs) one)) in
    let less : records_bytes (records_in refs) ≤ records_bytes (records_in held ++ records_in refs) =
    no-less held refs in
    omega (arith, once, less)

module _ (old new : OpenImage) (leaves : LeavesRoom old new)
    (sizes : sizes_of new.superblock ≡ sizes_of old.superblock) where
  book_less : book_weight new ≤ book_weight old
  book_less =
      let same : book_weight new ≡ weight_of old.fs.refs.refs old.fs.refs.refs =
      λ i. weight_of (leaves.held i) (leaves.refs i) in
      let less = weight-alone old.fs.refs.held old.fs.refs.refs in
      omega (arith, same, less)

  root_same : root_weight new ≡ root_weight old
  root_same =
      roots-recounted (quota_of old.quota) (quota_of new.quota) (length old.snapshots) (length new.snapshots)
      (ap (λ (table : List (ℕ × KeptSubvolume)). length table) leaves.snapshots) leaves.groups

  quota_same : quota_weight new ≡ quota_weight old
  quota_same = bytes-recounted (quota_of old.quota) (quota_of new.quota) leaves.groups

  nodesize_same : new.superblock.nodesize ≡ old.superblock.nodesize
  nodesize_same = ap (λ (s : Sizes). s.nodesize) sizes

  bytes_less : book_weight new + root_weight new + quota_weight new
      ≤ book_weight old + root_weight old + quota_weight old
  bytes_less =
      let less = book_less in
      let root = root_same in
      let quota = quota_same in
      omega (arith, less, root, quota)

  pub filled-less : 4096 ≤ old.superblock.nodesize → filled_by new ≤ filled_by old
  filled-less large =
      let by_old : nodes_filled old.superblock.nodesize (book_weight new + root_weight new + quota_weight new)
      ≤ nodes_filled old.superblock.nodesize (book_weight old + root_weight old + quota_weight old) + 0 =
      fills-more old.superblock.nodesize (book_weight old + root_weight old + quota_weight old)
      (book_weight new + root_weight new + quota_weight new) 0 large (let less = bytes_less in omega (arith, less)) in
      let same : filled_by new
      ≡ nodes_filled old.superblock.nodesize (book_weight new + root_weight new + quota_weight new) =
      ap (λ (n : ℕ). nodes_filled n (book_weight new + root_weight new + quota_weight new)) nodesize_same in
      omega (arith, by_old, same)

-- ---- room

pub room-committed : (old new : OpenImage) (copies : ℕ) → IsFitted old → LeavesRoom old new
    → sizes_of new.superblock ≡ sizes_of old.superblock
    → structural_need_of old copies ≤ free_slots old.fs.land.space → HasRoom new copies
room-committed old new copies fits leaves sizes enough = record {
  free = left-first copies (filled_by old) (filled_by new) (commit_need old) (free_slots old.fs.land.space)
      (free_slots new.fs.land.space) enough (need-few old fits) leaves.free
      (filled-less old new leaves sizes (large old fits));
}

pub room-same : (kept : OpenImage) (copies : ℕ) → structural_need_of kept copies ≤ free_slots kept.fs.land.space
    → HasRoom kept copies
room-same kept copies enough =
    record { free = left-none copies (filled_by kept) (free_slots kept.fs.land.space) enough }

-- ---- what is the same

pub settled-same : (kept : OpenImage) → kept.pending ≡ 0 → IsSettledFrom kept kept
settled-same kept none = record {
  pending = none;
  snapshots = refl;
  groups = recounted-self (quota_of kept.quota);
  owner = refl;
  last = inl (none, refl);
}

pub settled-committed : (old new : OpenImage) → 0 < old.pending → LeavesRoom old new → IsSettledFrom old new
settled-committed old new some leaves = record {
  pending = leaves.pending;
  snapshots = leaves.snapshots;
  groups = leaves.groups;
  owner = ap (λ (tree : Root). tree.owner) leaves.tree;
  last = inr (some, leaves.generation);
}

-- ---- where it is kept of a state

module _ (kept : OpenImage) (state : State) (events : List Event) (history : History) (fits : IsFitted kept)
    (keeps : IsKeptOf kept state history) where
  -- nothing was pending
  none_pending : kept.pending ≡ 0 → is_pending state ≡ false
  none_pending none = let many = keeps.pending in le-ltb 0 (length state.pending) (omega (arith, many, none))

  pub committed-none : history ≡ Recorded events → kept.pending ≡ 0 → HasCommitted state kept events history
  committed-none told none = record {
    before = state;
    earlier = [];
    first = subst (λ (b : Bool). MatchBool b (Commits state state × (◌≡◌ {A = List State} [] (state ∷ [])))
        ((state ≡ state) × (◌≡◌ {A = List State} [] []))) (sym (none_pending none)) (refl, refl);
    keeps = keeps;
    between = events;
    told = told;
    made = refl;
  }

  -- something was
  some_pending : 0 < kept.pending → is_pending state ≡ true
  some_pending some = let many = keeps.pending in lt-ltb 0 (length state.pending) (omega (arith, many, some))

  pends : (new : State) → Commits state new → 0 < kept.pending → CommitsPending state (new ∷ []) new
  pends new commits some =
      subst (λ (b : Bool). MatchBool b (Commits state new × (◌≡◌ {A = List State} (new ∷ []) (new ∷ [])))
      ((new ≡ state) × (◌≡◌ {A = List State} (new ∷ []) []))) (sym (some_pending some)) (commits, refl)

  early_told : kept.superblock.generation ≤ 2 ^ 63 → no_generation state ≡ None
  early_told early =
      let same = generation-told kept state history fits keeps in
      ap (λ (b : Bool). refuse b why.NoGeneration)
      (le-ltb last_generation state.generation (omega (arith, early, same)))

  unrefused : 0 < kept.pending → kept.superblock.generation ≤ 2 ^ 63 → refusal state command.Commit ≡ None
  unfolding refusal
  unrefused some early =
      cond-true (is_pending state) (no_generation state) None (some_pending some) ∙ early_told early

  pub so-far-pending : (calls : Super → List Node → List Call) (after : History) → 0 < kept.pending
      → kept.superblock.generation ≤ 2 ^ 63
      → (after ≡ Recorded events) ⊎ CommitsOfSoFar calls state events after
      → (after ≡ Recorded events) ⊎ CommitsSoFar calls state events after
  so-far-pending calls after some early done = elim done [
    | inl none ↦ inl none
    | inr starts ↦ inr (record {
      new = starts.new;
      step = subst (λ (o : Option Refusal). MatchOption o
          (machine.Does state command.Commit (answer.Commit starts.new.generation) (starts.new ∷ []) starts.new)
          (λ reason. (answer.Commit starts.new.generation ≡ answer.Refused reason)
          × machine.Stays state (starts.new ∷ []) starts.new)) (sym (unrefused some early))
          (refl, pends starts.new starts.commits some);
      super = starts.super;
      nodes = starts.nodes;
      brings = starts.brings;
      made = starts.made;
    })
  ]

  pub committed-some : (new : OpenImage) (after : History) → 0 < kept.pending
      → CommitsOn state new events after → HasCommitted state new events after
  committed-some new after some done = record {
    before = done.new;
    earlier = done.new ∷ [];
    first = pends done.new done.commits some;
    keeps = done.keeps;
    between = with_commit done.super done.nodes events;
    told = done.told;
    made = (done.super, done.nodes, done.brings, refl);
  }

-- ---- what is said of a result

pub on-err-then : {A E : Type 0} (P Q : Type 0) (result : Result A E) → (P → Q) → OnErr result P → OnErr result Q
on-err-then P Q (Ok value) then said = tt
on-err-then P Q (Err fault) then said = then said

-- what was pending was not committed whole
pub stays-last : (old new : OpenImage) (before after : History) (result : Result Unit BlockFault)
    → IfErr result (λ fault. new.superblock ≡ old.superblock)
    → ((state : State) (events : List Event) → IsKeptOf old state before → before ≡ Recorded events
    → OnErr result (StopsPending state events after))
    → IfErr result (λ fault. StaysLast StopsPending old new before after)
stays-last old new before after (Ok done) same unmade = tt
stays-last old new before after (Err fault) same unmade = record { superblock = same; unmade = unmade }

pub on-if : {A E : Type 0} (P Q : Type 0) (result : Result A E) → (P → Q) → IfOk result (λ done. P)
    → OnOk result Q
on-if P Q (Ok value) then said = then said
on-if P Q (Err fault) then said = tt

pub some-number : (n : ℕ) → (n ≡ 0 → ⊥) → 0 < n
some-number zero none = absurd (none refl)
some-number (suc n) none = omega arith
