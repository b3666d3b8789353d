-- Quota where a subvolume's group was added, by its two cases: what is looked up in it, what is held, and what its tree
-- takes. Weights are in bytes.
use Rattle.std.proofs.Common.{◌≡◌, ℕ, ◌+◌, ◌*◌, ◌≤◌, Bool, true, false, List, [], ◌∷◌, arith, length, Option, Some}
use Rattle.std.proofs.Common.{None, refl, sym, ap, subst, ◌∙◌, nat_lt}
use Rattle.std.specs.Prelude.{◌==◌, IfSome, MatchOption, if◌then◌else◌}
use Rattle.std.specs.Option.{option_map}
use Rattle.std.proofs.lemmas.Option.{none-some, same_Some}
use Rattle.std.proofs.Math.Nat.{add-mul, mul-le-mul_left}
use Rattle.qg_super.specs.declared.superblock.Super.{Super}
use Rattle.qg_super.specs.Places.{capacity}
use Rattle.qg_image.specs.Table.{value_at, with_value}
use Rattle.qg_image.specs.declared.quota.Group.{Group}
use Rattle.qg_image.specs.declared.quota.Quota.{Quota}
use Rattle.qg_image.specs.Members.{hierarchy_of}
use Rattle.qg_image.specs.Need.{nodes_filled}
use Rattle.qg_image.specs.State.{Accepted}
use Rattle.qg_machine.specs.GroupChange.{inherited, limits_of, new_group, with_group}
use Rattle.qg_qgroups.specs.Groups.{IsSound}
use Rattle.qg_qgroups.specs.Limit.{SameHeld}
use Rattle.qg_qgroups.specs.declared.state.QuotaState.{QuotaState}
use Rattle.qg_qgroups.specs.Changing.{AreParents}
use Rattle.qg_qgroups.specs.OnOrOff.{snap_refusal}
use Rattle.qg_qgroups.specs.Tracked.{HoldsAll, HoldsAtMost, IsTracked, quota_of}
use Rattle.qg_qgroups.proofs.Fitted.{inherited-groups, inherited-pairs}
use Rattle.qg_qgroups.proofs.Paths.{holds-none}
use Rattle.qg_qgroups.proofs.Reserved.{bound-still}
use Rattle.qg_qgroups.proofs.Snapped.{parents-free}
use Rattle.qg_space.specs.Holding.{free_slots}
use Rattle.qg_node_alloc.specs.declared.ground.Ground.{Ground}
use Rattle.qg_open_image.specs.Types.{TreeRefs}
use Rattle.qg_open_image.specs.Trees.{quota_tree_bytes, root_tree_bytes}
use Rattle.qg_open_image.specs.declared.open_image.OpenImage.{OpenImage}
use Rattle.qg_open_image.specs.Keeping.{HoldsPending, IsFitted, book_weight, commit_room_of, filled_by, quota_weight}
use Rattle.qg_open_image.specs.Keeping.{root_weight}
use Rattle.qg_image_changes.specs.Changing.{HasRoom, SameHeldIn}
use Rattle.qg_open_image.proofs.Reserve.{large, none-listed}
use Rattle.qg_open_image.proofs.Room.{fills-more, left-second}

-- ---- what is tracked

-- the groups of what is tracked are sound
pub sound-tracked : (tracked : Option QuotaState) (quota : Quota) → quota_of tracked ≡ Some quota
    → IfSome tracked IsTracked → IsSound (hierarchy_of quota)
sound-tracked None quota on is = absurd (none-some quota on)
sound-tracked (Some state) quota on is =
    subst (λ (q : Quota). IsSound (hierarchy_of q)) (same_Some state.quota quota on) is.sound

-- as many bytes are held for each group as were
abbrev pub HeldAs : Option QuotaState → Option QuotaState → Type 0
HeldAs before after = MatchOption before (after ≡ None) (λ old. IfSome after (λ new. SameHeld old.limits new.limits))

bounded_as : (bound : ℕ) (before after : Option QuotaState) → HeldAs before after → IfSome before (HoldsAtMost bound)
    → IfSome after (HoldsAtMost bound)
bounded_as bound None None held most = tt
bounded_as bound None (Some new) held most = absurd (none-some new (sym held))
bounded_as bound (Some old) None held most = tt
bounded_as bound (Some old) (Some new) held most = bound-still old new bound held most

holds_as : (before after : Option QuotaState) → HeldAs before after → IfSome before (λ quota. HoldsAll quota [])
    → IfSome after (λ quota. HoldsAll quota [])
holds_as None None held holds = tt
holds_as None (Some new) held holds = absurd (none-some new (sym held))
holds_as (Some old) None held holds = tt
holds_as (Some old) (Some new) held holds = holds-none old new holds held

-- no more is held than was
pub bounded-still : (old new : OpenImage) (bound : ℕ) → SameHeldIn old new → IfSome old.quota (HoldsAtMost bound)
    → IfSome new.quota (HoldsAtMost bound)
bounded-still old new bound held most = bounded_as bound old.quota new.quota held most

-- and nothing where nothing was
pub none-still : (old new : OpenImage) → SameHeldIn old new → HoldsPending old [] → HoldsPending new []
none-still old new held holds = holds_as old.quota new.quota held holds

-- where nothing is pending, what is held stays what is reserved
pub holds-still : (old new : OpenImage) (pending : List Accepted) → length pending ≡ 0 → SameHeldIn old new
    → HoldsPending old pending → HoldsPending new pending
holds-still old new pending none held holds =
    let empty : pending ≡ [] = none-listed pending none in
    subst (λ (list : List Accepted). HoldsPending new list) (sym empty)
    (holds_as old.quota new.quota held (subst (λ (list : List Accepted). HoldsPending old list) empty holds))

-- ---- one group more

-- a group was added for a subvolume, whose counters changed in no later generation, and no more than so many relations
pub record IsWithGroup (generation sub relations : ℕ) (old new : Quota) : Type 0 where
  pub group : Group
  pub groups : new.groups ≡ with_value sub group old.groups
  pub stamp : group.stamp ≤ generation
  pub pairs : length new.pairs ≤ length old.pairs + relations

-- the same of quota that may be off
abbrev pub IsWithGroupIn : ℕ → ℕ → ℕ → Option Quota → Option Quota → Type 0
IsWithGroupIn generation sub relations None None = Unit {0}
IsWithGroupIn generation sub relations (Some old) (Some new) = IsWithGroup generation sub relations old new
IsWithGroupIn generation sub relations _ _ = ⊥

itself : (n : ℕ) → n ≤ n
itself n = omega arith

stamp_limited : (generation : ℕ) (source : Option Group) → (limits_of generation source).stamp ≤ generation
stamp_limited generation None = itself generation
stamp_limited generation (Some source) = itself generation

-- so it is of one that is made without files
pub with-created : (generation sub : ℕ) (before after : Option Quota)
    → after ≡ option_map (with_group sub (new_group generation)) before → IsWithGroupIn generation sub 0 before after
with-created generation sub before after is =
    subst (λ (made : Option Quota). IsWithGroupIn generation sub 0 before made) (sym is) (by before) where
      by : (quota : Option Quota)
          → IsWithGroupIn generation sub 0 quota (option_map (with_group sub (new_group generation)) quota)
      by None = tt
      by (Some quota) = record {
        group = new_group generation;
        groups = refl;
        stamp = itself generation;
        pairs = omega arith;
      }

-- and of a snapshot
pub with-inherited : (generation source copy : ℕ) (parents : List ℕ) (before after : Option Quota)
    → after ≡ option_map (inherited generation source copy parents) before
    → IsWithGroupIn generation copy (length parents) before after
with-inherited generation source copy parents before after is =
    subst (λ (made : Option Quota). IsWithGroupIn generation copy (length parents) before made) (sym is)
    (by before) where
      by : (quota : Option Quota)
          → IsWithGroupIn generation copy (length parents) quota
          (option_map (inherited generation source copy parents) quota)
      by None = tt
      by (Some quota) = record {
        group = limits_of generation (value_at source quota.groups);
        groups = inherited-groups generation source copy parents quota;
        stamp = stamp_limited generation (value_at source quota.groups);
        pairs = inherited-pairs generation source copy parents quota;
      }

-- What was changed of quota for a subvolume that is added: its group, and so many relations; what is looked up agrees
-- with it, and as much is held
pub record AddsGroup (old new : OpenImage) (sub relations : ℕ) : Type 0 where
  pub quota : IsWithGroupIn old.fs.tree.next sub relations (quota_of old.quota) (quota_of new.quota)
  pub tracked : IfSome new.quota IsTracked
  pub held : SameHeldIn old new

-- ---- what the other trees take

length_step : {A : Type 0} (n : ℕ) (value : A) (entry : ℕ × A) (table : List (ℕ × A)) (less same : Bool)
    → length (with_value n value table) ≤ length table + 1
    → length (if less then (n, value) ∷ entry ∷ table
    else (if same then (n, value) ∷ table else entry ∷ with_value n value table))
    ≤ length (entry ∷ table) + 1
length_step n value entry table true same rest = omega arith
length_step n value entry table false true rest = omega arith
length_step n value entry table false false rest = omega (arith, rest)

pub length-put : {A : Type 0} (n : ℕ) (value : A) (table : List (ℕ × A))
    → length (with_value n value table) ≤ length table + 1
length-put n value [] = omega arith
length-put n value (entry ∷ table) =
    length_step n value entry table (nat_lt n entry.0) (entry.0 == n) (length-put n value table)

-- with a root more, and a group and so many relations
pub weighs-more : (generation sub relations many more : ℕ) (before after : Option Quota) → more ≤ many + 1
    → IsWithGroupIn generation sub relations before after
    → root_tree_bytes more after + quota_tree_bytes after
    ≤ root_tree_bytes many before + quota_tree_bytes before + (594 + 50 * relations)
weighs-more generation sub relations many more None None subs added = omega (arith, subs)
weighs-more generation sub relations many more None (Some new) subs added = absurd added
weighs-more generation sub relations many more (Some old) None subs added = absurd added
weighs-more generation sub relations many more (Some old) (Some new) subs added =
    let groups = ap (λ (table : List (ℕ × Group)). length table) added.groups in
    let put = length-put sub added.group old.groups in
    let pairs = added.pairs in
    omega (arith, subs, groups, put, pairs)

-- with a root more or less, and quota as it was
pub weighs-same : (many more : ℕ) (before after : Option Quota) → more ≤ many + 1 → after ≡ before
    → root_tree_bytes more after + quota_tree_bytes after ≤ root_tree_bytes many before + quota_tree_bytes before + 594
weighs-same many more before after subs is =
    subst (λ (quota : Option Quota). root_tree_bytes more quota + quota_tree_bytes quota
    ≤ root_tree_bytes many before + quota_tree_bytes before + 594) (sym is) (omega (arith, subs))

-- ---- room

-- What a change leaves, which makes the extent tree's items so much heavier at the most, and those of the root and
-- quota trees so much, and takes so many slots
pub room-grown : (old new : OpenImage) (copies k took more others : ℕ) → IsFitted old → HasRoom old copies
    → new.superblock ≡ old.superblock → book_weight new ≤ book_weight old + more
    → root_weight new + quota_weight new ≤ root_weight old + quota_weight old + others
    → more + others ≤ k * capacity old.superblock.nodesize
    → free_slots old.fs.land.space ≤ free_slots new.fs.land.space + took → 5 * k + took + 40 ≤ 10 * copies + 67
    → commit_room_of new ≤ free_slots new.fs.land.space
room-grown old new copies k took more others fits room same heavier weighs few taken small =
    let bytes : book_weight new + root_weight new + quota_weight new
    ≤ book_weight old + root_weight old + quota_weight old + k * capacity old.superblock.nodesize =
    sums (book_weight old) (book_weight new) (root_weight old) (root_weight new) (quota_weight old)
    (quota_weight new) more
    others (k * capacity old.superblock.nodesize) heavier weighs few in
    let filled : nodes_filled old.superblock.nodesize (book_weight new + root_weight new + quota_weight new)
    ≤ filled_by old + k =
    fills-more old.superblock.nodesize (book_weight old + root_weight old + quota_weight old)
    (book_weight new + root_weight new + quota_weight new) k (large old fits) bytes in
    let size = ap (λ (s : Super). nodes_filled s.nodesize (book_weight new + root_weight new + quota_weight new))
    same in
    left-second copies (filled_by old) (filled_by new) k took (free_slots old.fs.land.space)
    (free_slots new.fs.land.space) room.free (omega (arith, filled, size)) taken small where
      sums : (a b c d e f more others all : ℕ) → b ≤ a + more → d + f ≤ c + e + others → more + others ≤ all
          → b + d + f ≤ a + c + e + all
      sums a b c d e f more others all first second fits = omega (arith, first, second, fits)

-- so many relations take no more than as many nodes
pub relations-room : (relations room bytes : ℕ) → bytes + room + 594 ≤ 2 * room → 50 ≤ room
    → bytes + room + (594 + 50 * relations) ≤ (2 + relations) * room
relations-room relations room bytes few wide =
    let each : relations * 50 ≤ relations * room = mul-le-mul_left relations wide in
    let all : (2 + relations) * room ≡ 2 * room + relations * room = add-mul 2 relations room in
    omega (arith, few, each, all)

-- ---- what the two calls leave: `mid` is what is kept before the group is added

module _ (old mid new : OpenImage) (land : Ground) (now : TreeRefs) where
  -- the rest, told by what was there before the tree was put in
  pub rest-grouped : new ≡ record mid { quota = new.quota }
      → mid ≡ record old {
        fs = record old.fs { others = mid.fs.others; land = land; refs = now };
        snapshots = mid.snapshots;
      }
      → new ≡ record old {
        fs = record old.fs { others = new.fs.others; land = land; refs = now };
        snapshots = new.snapshots;
        quota = new.quota;
      }
  rest-grouped is mid_is =
      let others = sym (ap (λ (k : OpenImage). k.fs.others) is) in
      let snapshots = sym (ap (λ (k : OpenImage). k.snapshots) is) in
      is ∙ ap (λ (k : OpenImage). record k { quota = new.quota }) mid_is
      ∙ (λ i. let left : OpenImage = record old {
        fs = record old.fs { others = others i; land = land; refs = now };
        snapshots = snapshots i;
        quota = new.quota;
      } in left)

module _ (old mid new : OpenImage) (stamp : ℕ) (same : mid.quota ≡ old.quota) (dated : stamp ≡ old.fs.tree.next)
    (tracked : IfSome new.quota IsTracked) (held : SameHeldIn mid new) where
  held_old : SameHeldIn old new
  held_old = subst (λ (before : Option QuotaState). HeldAs before new.quota) same held

  -- of a subvolume without files
  pub quota-created : (sub : ℕ)
      → quota_of new.quota ≡ option_map (with_group sub (new_group stamp)) (quota_of mid.quota)
      → quota_of new.quota ≡ option_map (with_group sub (new_group old.fs.tree.next)) (quota_of old.quota)
  quota-created sub is = is ∙ (λ i. option_map (with_group sub (new_group (dated i))) (quota_of (same i)))

  pub group-created : (sub : ℕ)
      → quota_of new.quota ≡ option_map (with_group sub (new_group stamp)) (quota_of mid.quota)
      → AddsGroup old new sub 0
  group-created sub is = record {
    quota = with-created old.fs.tree.next sub (quota_of old.quota) (quota_of new.quota) (quota-created sub is);
    tracked = tracked;
    held = held_old;
  }

  -- and of a snapshot
  pub quota-snapped : (source copy : ℕ) (parents : List ℕ)
      → quota_of new.quota ≡ option_map (inherited stamp source copy parents) (quota_of mid.quota)
      → quota_of new.quota ≡ option_map (inherited old.fs.tree.next source copy parents) (quota_of old.quota)
  quota-snapped source copy parents is =
      is ∙ (λ i. option_map (inherited (dated i) source copy parents) (quota_of (same i)))

  pub group-snapped : (source copy : ℕ) (parents : List ℕ)
      → quota_of new.quota ≡ option_map (inherited stamp source copy parents) (quota_of mid.quota)
      → AddsGroup old new copy (length parents)
  group-snapped source copy parents is = record {
    quota = with-inherited old.fs.tree.next source copy parents (quota_of old.quota) (quota_of new.quota)
        (quota-snapped source copy parents is);
    tracked = tracked;
    held = held_old;
  }

-- ---- the groups of a snapshot's list

parents_by : (parents : List ℕ) (tracked : Option QuotaState) (quota : Option Quota) → quota_of tracked ≡ quota
    → snap_refusal quota parents ≡ None → IfSome tracked (λ state. AreParents state.quota parents)
parents_by parents None quota same free = tt
parents_by parents (Some state) quota same free =
    parents-free state.quota parents (ap (λ (q : Option Quota). snap_refusal q parents) same ∙ free)

-- they may be the parents of its group, where the list isn't refused
pub parents-may-be : (old : OpenImage) (parents : List ℕ) (tracked : Option QuotaState) → tracked ≡ old.quota
    → snap_refusal (quota_of old.quota) parents ≡ None → IfSome tracked (λ state. AreParents state.quota parents)
parents-may-be old parents tracked same free =
    parents_by parents tracked (quota_of old.quota) (ap (λ (q : Option QuotaState). quota_of q) same) free
