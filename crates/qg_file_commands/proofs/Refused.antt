-- The last reason for which a command that edits files may be refused is that too few slots are free. Positions and
-- lengths are in bytes.
use Rattle.std.proofs.Common.{◌≡◌, ℕ, ◌+◌, List, [], ◌∷◌, ◌++◌, None, Some, Option, refl, sym, ap, ◌∙◌}
use Rattle.std.specs.Prelude.{◌==◌, ◌&&◌, is_none, nat_lt, not}
use Rattle.std.proofs.lemmas.Option.{none-some}
use Rattle.qg_num.specs.declared.command.Command.TheVariants.{Clone, Truncate, Unlink, Write}
use Rattle.qg_num.specs.declared.refusal.Refusal.{Refusal}
use Rattle.qg_num.specs.declared.refusal.Refusal.TheVariants as why
use Rattle.qg_image.specs.FilesOf.{is_aligned}
use Rattle.qg_image.specs.ItemMeaning.{first_some}
use Rattle.qg_image.specs.State.{State}
use Rattle.qg_image.specs.Space.{first_run}
use Rattle.qg_image.specs.Verdict.{longest_extent}
use Rattle.qg_machine.specs.FileChange.{file_change}
use Rattle.qg_machine.specs.Refusals.{no_align, no_far, no_file, no_nodes_for, no_source, no_sub, over_limit, refusal}
use Rattle.qg_machine.specs.Refusals.{refuse}
use Rattle.qg_machine.specs.Refusals.{share_a_byte, too_many_pending}
use Rattle.qg_open_image.specs.Editing.{clone_refusal, range_refusal, size_refusal, unlink_refusal}

-- ---- the first of several

pub first_early : {A : Type 0} (x : A) (front back : List (Option A)) → first_some front ≡ Some x
    → first_some (front ++ back) ≡ Some x
first_early x [] back is = absurd (none-some x is)
first_early x (None ∷ front) back is = first_early x front back is
first_early x (Some y ∷ front) back is = is

pub first_late : {A : Type 0} (front back : List (Option A)) → first_some front ≡ None
    → first_some (front ++ back) ≡ first_some back
first_late [] back none = refl
first_late (None ∷ front) back none = first_late front back none
first_late (Some y ∷ front) back none = absurd (none-some y (sym none))

pub first_one : {A : Type 0} (x : Option A) → first_some (x ∷ []) ≡ x
first_one None = refl
first_one (Some y) = refl

-- ---- a write

abbrev write_parts : State → ℕ → ℕ → ℕ → List (Option Refusal)
write_parts state sub off len =
    no_sub state sub ∷ no_align (off ∷ []) len ∷ no_far ((off + len) ∷ []) ∷ refuse (nat_lt longest_extent len) why.Far
    ∷ too_many_pending state ∷ []

abbrev write_later : State → ℕ → ℕ → ℕ → ℕ → List (Option Refusal)
write_later state sub ino off len =
    over_limit state sub (len + state.sizes.nodesize) ∷ refuse (is_none (first_run state len)) why.NoRun
    ∷ no_nodes_for state (file_change state (Write sub ino off len)) ∷ []

pub early-write : (state : State) (sub ino off len : ℕ) (reason : Refusal)
    → range_refusal state sub off len ≡ Some reason → refusal state (Write sub ino off len) ≡ Some reason
unfolding refusal
early-write state sub ino off len reason is =
    first_early reason (write_parts state sub off len) (write_later state sub ino off len) is

-- no limit is passed
abbrev Unlimited : State → ℕ → ℕ → Type 0
Unlimited state sub len = over_limit state sub (len + state.sizes.nodesize) ≡ None

run-write : (state : State) (sub ino off len : ℕ) → range_refusal state sub off len ≡ None → Unlimited state sub len
    → refusal state (Write sub ino off len)
    ≡ first_some (refuse (is_none (first_run state len)) why.NoRun
    ∷ no_nodes_for state (file_change state (Write sub ino off len)) ∷ [])
unfolding refusal
run-write state sub ino off len range limits =
    first_late (write_parts state sub off len) (write_later state sub ino off len) range
    ∙ ap (λ (limit : Option Refusal). first_some (limit ∷ refuse (is_none (first_run state len)) why.NoRun
    ∷ no_nodes_for state (file_change state (Write sub ino off len)) ∷ [])) limits

-- a limit is passed
pub limit-write : (state : State) (sub ino off len : ℕ) (reason : Refusal) → range_refusal state sub off len ≡ None
    → over_limit state sub (len + state.sizes.nodesize) ≡ Some reason
    → refusal state (Write sub ino off len) ≡ Some reason
unfolding refusal
limit-write state sub ino off len reason range passed =
    first_late (write_parts state sub off len) (write_later state sub ino off len) range
    ∙ ap (λ (limit : Option Refusal). first_some (limit ∷ refuse (is_none (first_run state len)) why.NoRun
    ∷ no_nodes_for state (file_change state (Write sub ino off len)) ∷ [])) passed

-- no run is free
pub runless-write : (state : State) (sub ino off len : ℕ) → range_refusal state sub off len ≡ None
    → Unlimited state sub len → first_run state len ≡ None → refusal state (Write sub ino off len) ≡ Some why.NoRun
runless-write state sub ino off len range limits none =
    run-write state sub ino off len range limits
    ∙ ap (λ (run : Option ℕ). first_some (refuse (is_none run) why.NoRun
    ∷ no_nodes_for state (file_change state (Write sub ino off len)) ∷ [])) none

-- a run is free
pub late-write : (state : State) (sub ino off len run : ℕ) → range_refusal state sub off len ≡ None
    → Unlimited state sub len → first_run state len ≡ Some run
    → refusal state (Write sub ino off len) ≡ no_nodes_for state (file_change state (Write sub ino off len))
late-write state sub ino off len run range limits found =
    run-write state sub ino off len range limits
    ∙ ap (λ (run : Option ℕ). first_some (refuse (is_none run) why.NoRun
    ∷ no_nodes_for state (file_change state (Write sub ino off len)) ∷ [])) found
    ∙ first_one (no_nodes_for state (file_change state (Write sub ino off len)))

-- ---- a clone

module _ (state : State) (sub ino off len to_sub to_ino to_off : ℕ) where
  abbrev clone_parts : List (Option Refusal)
  clone_parts =
      no_sub state sub ∷ no_sub state to_sub ∷ no_file state sub ino ∷ no_align (off ∷ to_off ∷ []) len
      ∷ no_far ((off + len) ∷ (to_off + len) ∷ []) ∷ no_source state sub ino (off + len)
      ∷ refuse ((sub == to_sub) && (ino == to_ino) && share_a_byte off to_off len) why.Overlap ∷ too_many_pending state
      ∷ []

  abbrev clone_later : List (Option Refusal)
  clone_later =
      over_limit state to_sub state.sizes.nodesize
      ∷ no_nodes_for state (file_change state (Clone sub ino off len to_sub to_ino to_off)) ∷ []

  pub early-clone : (reason : Refusal) → clone_refusal state sub ino off len to_sub to_ino to_off ≡ Some reason
      → refusal state (Clone sub ino off len to_sub to_ino to_off) ≡ Some reason
  unfolding refusal
  early-clone reason is = first_early reason clone_parts clone_later is

  -- a limit is passed
  pub limit-clone : (reason : Refusal) → clone_refusal state sub ino off len to_sub to_ino to_off ≡ None
      → over_limit state to_sub state.sizes.nodesize ≡ Some reason
      → refusal state (Clone sub ino off len to_sub to_ino to_off) ≡ Some reason
  unfolding refusal
  limit-clone reason passes passed =
      first_late clone_parts clone_later passes
      ∙ ap (λ (limit : Option Refusal). first_some (limit
      ∷ no_nodes_for state (file_change state (Clone sub ino off len to_sub to_ino to_off)) ∷ [])) passed

  pub late-clone : clone_refusal state sub ino off len to_sub to_ino to_off ≡ None
      → over_limit state to_sub state.sizes.nodesize ≡ None
      → refusal state (Clone sub ino off len to_sub to_ino to_off)
      ≡ no_nodes_for state (file_change state (Clone sub ino off len to_sub to_ino to_off))
  unfolding refusal
  late-clone passes limits =
      first_late clone_parts clone_later passes
      ∙ ap (λ (limit : Option Refusal). first_some (limit
      ∷ no_nodes_for state (file_change state (Clone sub ino off len to_sub to_ino to_off)) ∷ [])) limits
      ∙ first_one (no_nodes_for state (file_change state (Clone sub ino off len to_sub to_ino to_off)))

-- ---- a size

module _ (state : State) (sub ino size : ℕ) where
  abbrev size_parts : List (Option Refusal)
  size_parts =
      no_sub state sub ∷ no_file state sub ino ∷ refuse (not (is_aligned size)) why.Align ∷ no_far (size ∷ [])
      ∷ too_many_pending state ∷ []

  pub early-size : (reason : Refusal) → size_refusal state sub ino size ≡ Some reason
      → refusal state (Truncate sub ino size) ≡ Some reason
  unfolding refusal
  early-size reason is =
      first_early reason size_parts (no_nodes_for state (file_change state (Truncate sub ino size)) ∷ []) is

  pub late-size : size_refusal state sub ino size ≡ None
      → refusal state (Truncate sub ino size) ≡ no_nodes_for state (file_change state (Truncate sub ino size))
  unfolding refusal
  late-size passes =
      first_late size_parts (no_nodes_for state (file_change state (Truncate sub ino size)) ∷ []) passes
      ∙ first_one (no_nodes_for state (file_change state (Truncate sub ino size)))

-- ---- a file that goes

module _ (state : State) (sub ino : ℕ) where
  abbrev unlink_parts : List (Option Refusal)
  unlink_parts = no_sub state sub ∷ no_file state sub ino ∷ too_many_pending state ∷ []

  pub early-unlink : (reason : Refusal) → unlink_refusal state sub ino ≡ Some reason
      → refusal state (Unlink sub ino) ≡ Some reason
  unfolding refusal
  early-unlink reason is =
      first_early reason unlink_parts (no_nodes_for state (file_change state (Unlink sub ino)) ∷ []) is

  pub late-unlink : unlink_refusal state sub ino ≡ None
      → refusal state (Unlink sub ino) ≡ no_nodes_for state (file_change state (Unlink sub ino))
  unfolding refusal
  late-unlink passes =
      first_late unlink_parts (no_nodes_for state (file_change state (Unlink sub ino)) ∷ []) passes
      ∙ first_one (no_nodes_for state (file_change state (Unlink sub ino)))
