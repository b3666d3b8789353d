-- Reservations where quota may be off: how they are judged, and what is held for them. All in bytes.
use Rattle.std.proofs.Common.{◌≡◌, ℕ, ◌+◌, ◌*◌, ◌^◌, ◌<◌, ◌≤◌, Bool, true, List, ◌∷◌, None, Some, Option, refl, sym, ap}
use Rattle.std.proofs.Common.{subst, ◌∙◌}
use Rattle.std.proofs.Common.{arith, inl, inr}
use Rattle.std.specs.Prelude.{◌&&◌, IfOk, IfSome, IsTrue, OnOk, Result, Ok, Err}
use Rattle.std.specs.List.{All, Contains}
use Rattle.std.specs.List.Sorted.{IsStrictlySortedBy}
use Rattle.std.specs.Ordering.{nat_cmp}
use Rattle.std.proofs.lemmas.Bool.{and_parts}
use Rattle.std.proofs.lemmas.List.Elements.{All-contains}
use Rattle.qg_device.specs.History.{History}
use Rattle.qg_image.specs.ItemMeaning.{is_subvolume_number}
use Rattle.qg_image.specs.Table.{has_key, keys_of}
use Rattle.qg_image.specs.declared.quota.Quota.{Quota}
use Rattle.qg_image.specs.Limits.{over}
use Rattle.qg_image.specs.Members.{hierarchy_of, is_below}
use Rattle.qg_image.specs.Record.{Record}
use Rattle.qg_image.specs.State.{Accepted, State}
use Rattle.qg_machine.specs.Refusals.{over_limit}
use Rattle.qg_qgroups.specs.Groups.{IsSound, groups_above, has_number}
use Rattle.qg_qgroups.proofs.Chains.{below_itself, below_last}
use Rattle.qg_qgroups.proofs.Order.{has_filter}
use Rattle.qg_qgroups.proofs.Related.{level_less}
use Rattle.qg_qgroups.specs.Limit.{held_of}
use Rattle.qg_qgroups.specs.declared.judging.ReservationAnswer.{ReservationAnswer}
use Rattle.qg_qgroups.specs.declared.state.QuotaState.{QuotaState}
use Rattle.qg_qgroups.specs.Judging.{IfPath, over_in}
use Rattle.qg_qgroups.specs.OnOrOff.{path_in, refusal_in}
use Rattle.qg_qgroups.specs.Tracked.{HasGroup, HoldsAll, HoldsAtMost, IsTracked, path_of, quota_of}
use Rattle.qg_qgroups.proofs.Agreed.{ok-then}
use Rattle.qg_qgroups.proofs.Paths.{path-ascends, room-held}
use Rattle.qg_qgroups.proofs.Reserved.{bound-more, has-group, refusal-off, refusal-told}
use Rattle.qg_open_image.specs.Editable.{AreGroups, AreGroupsOf}
use Rattle.qg_extents.specs.Table.{IsTable}
use Rattle.qg_open_image.proofs.Lists.{from-mapped}
use Rattle.qg_open_image.specs.declared.open_image.OpenImage.{OpenImage}
use Rattle.qg_open_image.specs.declared.open_image.KeptSubvolume.{KeptSubvolume}
use Rattle.qg_open_image.specs.Keeping.{IsFitted, IsKeptWith, most_reserved}
use Rattle.qg_open_image.proofs.Looked.{hand-among, tree-listed}

-- ---- quota by its two cases

-- what is said of quota while it is on is said while it is off
pub said-off : (quota : Option QuotaState) (P : QuotaState → Type 0) → quota ≡ None → IfSome quota P
said-off quota P off = subst (λ (q : Option QuotaState). IfSome q P) (sym off) tt

-- and while it is on of what is tracked
pub said-on : (quota : Option QuotaState) (P : QuotaState → Type 0) (state : QuotaState) → quota ≡ Some state
    → IfSome quota P → P state
said-on quota P state on said = subst (λ (q : Option QuotaState). IfSome q P) on said

-- no more is held than may be, where more may be
pub bounded-more : (quota : Option QuotaState) (bound more : ℕ) → bound ≤ more → IfSome quota (HoldsAtMost bound)
    → IfSome quota (HoldsAtMost more)
bounded-more None bound more le bounded = tt
bounded-more (Some state) bound more le bounded = bound-more state bound more le bounded

-- ---- bounds

-- what so many commands may have reserved
pub later-more : (pending : ℕ) → pending * most_reserved ≤ (pending + 1) * most_reserved
later-more pending = omega arith

next-most : (pending n : ℕ) → n ≤ most_reserved → pending * most_reserved + n ≤ (pending + 1) * most_reserved
next-most pending n small = omega (arith, small)

room-small : (pending n : ℕ) → pending < 65536 → n ≤ most_reserved → pending * most_reserved + n < 2 ^ 64
room-small pending n few small = omega (arith, few, small)

-- ---- the group of a subvolume

module _ (kept : OpenImage) (fits : IsFitted kept) where
  number-listed : (sub : ℕ) → Contains (keys_of kept.snapshots) sub → is_subvolume_number sub ≡ true
  number-listed sub has =
      let entry = from-mapped (λ (entry : ℕ × KeptSubvolume). entry.0) kept.snapshots sub has in
      subst (λ (n : ℕ). is_subvolume_number n ≡ true) entry.2
      (All-contains (λ (entry : ℕ × KeptSubvolume). IsTrue (is_subvolume_number entry.0)) kept.snapshots entry.0
      fits.subvolumes.numbers entry.1)

  -- a subvolume has its group while quota is on
  pub group-there : (state : QuotaState) → kept.quota ≡ Some state → (sub : ℕ) → Contains (keys_of kept.snapshots) sub
      → HasGroup state.quota sub
  group-there state on sub has =
      let groups : AreGroups kept.fs.tree.next (keys_of kept.snapshots) state.quota =
      subst (λ (q : Option QuotaState). AreGroupsOf kept.fs.tree.next (keys_of kept.snapshots) (quota_of q)) on
      fits.groups in
      let own : has_key sub state.quota.groups ≡ true =
      All-contains (λ (n : ℕ). IsTrue (has_key n state.quota.groups)) (keys_of kept.snapshots) sub groups.own has in
      has-group state.quota sub own (number-listed sub has)

  -- so has the one whose tree is at hand
  pub hand-group : IfSome (quota_of kept.quota) (λ quota. HasGroup quota kept.fs.tree.owner)
  hand-group = group_by kept.quota refl where
    group_by : (quota : Option QuotaState) → kept.quota ≡ quota
        → IfSome (quota_of quota) (λ q. HasGroup q kept.fs.tree.owner)
    group_by None off = tt
    group_by (Some state) on =
        group-there state on kept.fs.tree.owner (tree-listed kept fits kept.fs.tree (hand-among kept.fs))

  -- what one command more reserves has room
  pub room-kept : (path : List ℕ) (n : ℕ) → kept.pending < 65536 → n ≤ most_reserved
      → IfSome kept.quota (λ quota. All (λ group. held_of quota.limits group + n < 2 ^ 64) path)
  room-kept path n few small = room_by kept.quota fits.bounded where
    room_by : (quota : Option QuotaState) → IfSome quota (HoldsAtMost (kept.pending * most_reserved))
        → IfSome quota (λ state. All (λ group. held_of state.limits group + n < 2 ^ 64) path)
    room_by None bounded = tt
    room_by (Some state) bounded =
        room-held state path (kept.pending * most_reserved) n bounded (room-small kept.pending n few small)

-- ---- how it is judged

module _ (kept : OpenImage) (state : State) (history : History) (names : List Record)
    (keeps : IsKeptWith kept state history names) (sub n : ℕ) where
  -- while quota is off no limit is in the way
  pub judged-off : kept.quota ≡ None → over_limit state sub n ≡ None
  judged-off off = refusal-off state sub n (keeps.quota ∙ ap (λ (q : Option QuotaState). quota_of q) off)

  -- and while it is on it is refused as the machine refuses it
  pub judged-on : (tracked : QuotaState) (judged : ReservationAnswer) → kept.quota ≡ Some tracked
      → ((pending : List Accepted) → HoldsAll tracked pending → over_in judged ≡ over tracked.quota pending sub n)
      → refusal_in judged ≡ over_limit state sub n
  judged-on tracked judged on value =
      let quota : state.quota ≡ Some tracked.quota =
      keeps.quota ∙ ap (λ (q : Option QuotaState). quota_of q) on in
      let holds : HoldsAll tracked state.pending =
      said-on kept.quota (λ (held : QuotaState). HoldsAll held state.pending) tracked on keeps.holds in
      refusal-told state sub n tracked.quota judged quota (value state.pending holds)

-- so it is of each state that something is kept of
pub judged-all : {E : Type 0} (kept : OpenImage) (tracked : QuotaState) (result : Result ReservationAnswer E)
    (sub n : ℕ)
    → kept.quota ≡ Some tracked
    → IfOk result (λ judged. (pending : List Accepted) → HoldsAll tracked pending
    → over_in judged ≡ over tracked.quota pending sub n)
    → IfOk result (λ judged. (state : State) (names : List Record) (history : History)
    → IsKeptWith kept state history names → refusal_in judged ≡ over_limit state sub n)
judged-all kept tracked (Ok judged) sub n on value = λ state names history keeps.
    judged-on kept state history names keeps sub n tracked judged on value
judged-all kept tracked (Err fault) sub n on value = tt

-- and the path is that of quota
pub judged-path : {E : Type 0} (quota : Option QuotaState) (tracked : QuotaState) (result : Result ReservationAnswer E)
    (sub : ℕ)
    → quota ≡ Some tracked → IfOk result (λ judged. IfPath judged (λ path. path ≡ path_of tracked.quota sub))
    → IfOk result (λ judged. IfPath judged (λ path. path ≡ path_in (quota_of quota) sub))
judged-path quota tracked result sub on is =
    subst (λ (q : Option QuotaState). IfOk result (λ judged. IfPath judged (λ path. path ≡ path_in (quota_of q) sub)))
    (sym on) is

-- ---- whose path it is

both : (a b : Bool) → a ≡ true → b ≡ true → (a && b) ≡ true
both a b first second = ap (λ (x : Bool). x && b) first ∙ second

-- two subvolumes of one path are one, since it has one group of level 0 alone that is there for the first
same_sub : (quota : Quota) (sub other : ℕ) → IsSound (hierarchy_of quota) → HasGroup quota sub
    → path_of quota sub ≡ path_of quota other → other ≡ sub
unfolding groups_above
same_sub quota sub other sound has same =
    let own : has_number sub (path_of quota sub) ≡ true =
    has_filter (λ (n : ℕ). is_below quota.pairs sub n) sub (keys_of quota.groups)
    ∙ both (is_below quota.pairs sub sub) (has_number sub (keys_of quota.groups)) (below_itself quota.pairs sub)
    has.there
    in
    let there : (is_below quota.pairs other sub && has_number sub (keys_of quota.groups)) ≡ true =
    sym (has_filter (λ (n : ℕ). is_below quota.pairs other n) sub (keys_of quota.groups))
    ∙ ap (λ (path : List ℕ). has_number sub path) (sym same) ∙ own in
    let parts = and_parts (is_below quota.pairs other sub) (has_number sub (keys_of quota.groups)) there in
    elim (below_last quota.pairs (λ a b is. level_less a b (sound.rising a b is)) other sub parts.0) [
      | inl one ↦ one
      | inr last ↦
          let rises = sound.rising last.0 sub last.2 in
          absurd (omega (arith, rises, has.level))
    ]

path-group : (quota : Quota) (sub other : ℕ) → IsSound (hierarchy_of quota) → HasGroup quota sub
    → path_of quota sub ≡ path_of quota other → HasGroup quota other
path-group quota sub other sound has same =
    subst (λ (n : ℕ). HasGroup quota n) (sym (same_sub quota sub other sound has same)) has

-- ---- what is held

-- these groups are those that a reservation into some subvolume counts in, which has its group
abbrev pub IsPathIn : Option QuotaState → List ℕ → Type 0
IsPathIn quota path =
    (sub : ℕ) × (path ≡ path_in (quota_of quota) sub) × IfSome (quota_of quota) (λ q. HasGroup q sub)

-- so many bytes into a subvolume of this path are held too, besides what is pending
abbrev pub HoldsThen : Option QuotaState → Option QuotaState → List ℕ → ℕ → Type 0
HoldsThen old new path n = (given : Accepted) (pending : List Accepted) → path ≡ path_in (quota_of old) given.sub
    → given.amount ≡ n → IfSome old (λ quota. HoldsAll quota pending)
    → IfSome new (λ quota. HoldsAll quota (given ∷ pending))

-- the same of quota while it is on
abbrev pub HoldsThenOn : QuotaState → QuotaState → List ℕ → ℕ → Type 0
HoldsThenOn old new path n = (given : Accepted) (pending : List Accepted) → path ≡ path_of old.quota given.sub
    → HasGroup old.quota given.sub → given.amount ≡ n → HoldsAll old pending → HoldsAll new (given ∷ pending)

-- and with them no more than so many bytes more for each group
abbrev pub HoldsNoMore : Option QuotaState → Option QuotaState → ℕ → Type 0
HoldsNoMore old new n =
    (bound : ℕ) → IfSome old (HoldsAtMost bound) → IfSome new (HoldsAtMost (bound + n))

-- nothing is held while quota is off
module _ (quota : Option QuotaState) (off : quota ≡ None) (path : List ℕ) (n : ℕ) where
  pub holds-off : HoldsThen quota quota path n
  holds-off given pending is amount held =
      said-off quota (λ (state : QuotaState). HoldsAll state (given ∷ pending)) off

  pub most-off : HoldsNoMore quota quota n
  most-off bound low = said-off quota (HoldsAtMost (bound + n)) off

module _ (quota : Option QuotaState) (state : QuotaState) (on : quota ≡ Some state) (path : List ℕ) (n : ℕ)
    (tracked : IfSome quota IsTracked) where
  pub tracked-on : IsTracked state
  tracked-on = said-on quota IsTracked state on tracked

  path-on : (sub : ℕ) → path ≡ path_in (quota_of quota) sub → path ≡ path_of state.quota sub
  path-on sub is = is ∙ ap (λ (q : Option QuotaState). path_in (quota_of q) sub) on

  pub ascends-on : IsPathIn quota path → IsStrictlySortedBy nat_cmp path
  ascends-on in_path =
      subst (λ (groups : List ℕ). IsStrictlySortedBy nat_cmp groups) (sym (path-on in_path.0 in_path.1))
      (path-ascends state in_path.0 tracked-on)

  pub fits-on : IfSome quota (λ held. All (λ group. held_of held.limits group + n < 2 ^ 64) path)
      → All (λ group. held_of state.limits group + n < 2 ^ 64) path
  fits-on fits =
      said-on quota (λ (held : QuotaState). All (λ group. held_of held.limits group + n < 2 ^ 64) path) state on fits

  -- the subvolume of the path has its group
  group-on : IsPathIn quota path → (other : ℕ) → path ≡ path_in (quota_of quota) other → HasGroup state.quota other
  group-on in_path other is =
      let first = path-on in_path.0 in_path.1 in
      let has : HasGroup state.quota in_path.0 =
      subst (λ (q : Option QuotaState). IfSome (quota_of q) (λ one. HasGroup one in_path.0)) on in_path.2 in
      path-group state.quota in_path.0 other tracked-on.sound has (sym first ∙ path-on other is)

  module _ {T E : Type 0} (result : Result T E) (new : QuotaState) where
    pub holds-on : IsPathIn quota path → OnOk result (HoldsThenOn state new path n)
        → OnOk result (HoldsThen quota (Some new) path n)
    holds-on in_path held =
        ok-then result (HoldsThenOn state new path n) (HoldsThen quota (Some new) path n)
        (λ more given pending is amount before. more given pending (path-on given.sub is)
        (group-on in_path given.sub is) amount
        (said-on quota (λ (one : QuotaState). HoldsAll one pending) state on before)) held

    pub most-on : OnOk result ((bound : ℕ) → HoldsAtMost bound state → HoldsAtMost (bound + n) new)
        → OnOk result (HoldsNoMore quota (Some new) n)
    most-on held =
        ok-then result ((bound : ℕ) → HoldsAtMost bound state → HoldsAtMost (bound + n) new)
        (HoldsNoMore quota (Some new) n)
        (λ more bound low. more bound (said-on quota (HoldsAtMost bound) state on low)) held

-- of what is tracked the quota is the same
pub quota-on : (quota : Option QuotaState) (state new : QuotaState) → quota ≡ Some state → new.quota ≡ state.quota
    → quota_of (Some new) ≡ quota_of quota
quota-on quota state new on same =
    ap (λ (q : Quota). Some q) same ∙ sym (ap (λ (q : Option QuotaState). quota_of q) on)

-- what holds anyway holds where a call succeeds
pub ok-anyway : {T E : Type 0} (result : Result T E) (P : Type 0) → P → OnOk result P
ok-anyway (Ok x) P holds = holds
ok-anyway (Err e) P holds = tt

-- ---- one command more is pending

abbrev pub counted : OpenImage → OpenImage
counted kept = record kept { pending = kept.pending + 1 }

-- what is held changed, and nothing else
module _ (old held : OpenImage) (n : ℕ) (rest : held ≡ record old { quota = held.quota }) where
  pub held-rest : held ≡ record old { quota = held.quota; pending = held.pending }
  held-rest = ap (λ (kept : OpenImage). record kept { quota = held.quota; pending = held.pending }) rest

  pub pending-still : held.pending ≡ old.pending
  pending-still = ap (λ (kept : OpenImage). kept.pending) rest

  pub table-still : IsTable old.fs.refs.refs → IsTable held.fs.refs.refs
  table-still table = subst (λ (kept : OpenImage). IsTable kept.fs.refs.refs) (sym rest) table

  -- and then the command is counted
  pub counted-rest : counted held ≡ record old { quota = held.quota; pending = held.pending + 1 }
  counted-rest = ap (λ (kept : OpenImage). record kept { quota = held.quota; pending = held.pending + 1 }) rest

  pub counted-pending : held.pending + 1 ≡ old.pending + 1
  counted-pending = ap (λ (m : ℕ). m + 1) pending-still

  bounded-now : IsFitted old → n ≤ most_reserved → HoldsNoMore old.quota held.quota n
      → IfSome held.quota (HoldsAtMost ((held.pending + 1) * most_reserved))
  bounded-now fits small most =
      let le : old.pending * most_reserved + n ≤ (old.pending + 1) * most_reserved = next-most old.pending n small in
      subst (λ (m : ℕ). IfSome held.quota (HoldsAtMost (m * most_reserved))) (sym counted-pending)
      (bounded-more held.quota (old.pending * most_reserved + n) ((old.pending + 1) * most_reserved) le
      (most (old.pending * most_reserved) fits.bounded))

  pub fitted-counted : IsFitted old → n ≤ most_reserved → quota_of held.quota ≡ quota_of old.quota
      → IfSome held.quota IsTracked → HoldsNoMore old.quota held.quota n → IsFitted (counted held)
  fitted-counted fits small same tracked most = subst (λ (kept : OpenImage). IsFitted kept) (sym counted-rest) (record {
    superblock = fits.superblock;
    subvolumes = fits.subvolumes;
    trees = fits.trees;
    numbered = fits.numbered;
    turn = fits.turn;
    groups = subst (λ (q : Option Quota). AreGroupsOf old.fs.tree.next (keys_of old.snapshots) q)
        (sym same) fits.groups;
    tracked = tracked;
    bounded = bounded-now fits small most;
    next = fits.next;
    sizes = fits.sizes;
    drafted = fits.drafted;
  })

  -- what is held then
  pub holds-counted : (path : List ℕ) → path ≡ path_in (quota_of old.quota) old.fs.tree.owner
      → HoldsThen old.quota held.quota path n
      → (given : Accepted) (pending : List Accepted) → given.sub ≡ old.fs.tree.owner → given.amount ≡ n
      → IfSome old.quota (λ quota. HoldsAll quota pending)
      → IfSome held.quota (λ quota. HoldsAll quota (given ∷ pending))
  holds-counted path is holds given pending own amount before =
      holds given pending (is ∙ ap (λ (sub : ℕ). path_in (quota_of old.quota) sub) (sym own)) amount before
