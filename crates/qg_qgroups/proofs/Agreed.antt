-- The hierarchy and the limits agree with a quota.
use Rattle.std.proofs.Common.{◌≡◌, ℕ, ◌<◌, Bool, false, List, [], ◌∷◌, length, map, take, get_or, ◌+◌, ◌++◌, Option}
use Rattle.std.proofs.Common.{Some, None, refl, sym, ap, subst, ◌∙◌, inl, inr}
use Rattle.std.specs.Prelude.{is_err, is_some, OnOk, Result, Ok, Err}
use Rattle.std.specs.Bool.{then_some}
use Rattle.std.specs.List.Sorted.{IsStrictlySortedBy}
use Rattle.std.specs.Ordering.{nat_cmp}
use Rattle.std.proofs.lemmas.Bool.{true≢false}
use Rattle.std.proofs.lemmas.List.{map-append, map_more}
use Rattle.qg_num.specs.declared.counters.Which.{Which}
use Rattle.qg_image.specs.Table.{keys_of, value_at, with_number, with_value, without_key}
use Rattle.qg_image.specs.declared.quota.Group.{Group}
use Rattle.qg_image.specs.declared.quota.Quota.{Quota}
use Rattle.qg_image.specs.Members.{Hierarchy, hierarchy_of}
use Rattle.qg_qgroups.specs.declared.fault.HierFault.{HierFault}
use Rattle.qg_qgroups.specs.declared.fault.HierFault.TheVariants as why
use Rattle.qg_qgroups.specs.Faults.{IsCause, create_fault}
use Rattle.qg_machine.specs.GroupChange.{new_group, quota_for, with_group, with_limit}
use Rattle.qg_machine.specs.GroupChange as machine
use Rattle.qg_qgroups.specs.Groups.{IsSound, created, destroyed, has_number}
use Rattle.qg_qgroups.proofs.HierarchyChanges.{hierarchy_created, hierarchy_destroyed}
use Rattle.qg_qgroups.specs.declared.limits.Maxima.{Maxima}
use Rattle.qg_qgroups.specs.Limit.{HasMax, IsSetAt, SameMaxima, maxima_at, maxima_of, no_maxima, with_max}
use Rattle.qg_qgroups.specs.declared.state.QuotaState.{QuotaState}
use Rattle.qg_qgroups.specs.Tracked.{limits_by, limits_in, IsRecounted, IsTracked}
use Rattle.qg_qgroups.proofs.GroupLimits.{limit-in, limits-found, limits-left, limits-put, set-both-ways}
use Rattle.qg_qgroups.proofs.Tables.{key-found, keys-made, keys-still, next-front, none-before}

-- where no refusal holds, a call can fail for want of memory alone
pub only-memory : (cause : Option HierFault) (fault : HierFault) → cause ≡ None → IsCause cause fault
    → fault ≡ why.NoMemory
only-memory cause fault none is = elim is [
  | inl memory ↦ memory
  | inr some ↦ absurd (none_some (sym none ∙ some))
] where
  none_some : None ≡ Some fault → ⊥
  none_some same = cc

-- and one that fails for a refusal alone doesn't fail
pub no-fault : (cause : Option HierFault) (fault : HierFault) → cause ≡ None → cause ≡ Some fault → ⊥
no-fault cause fault none some = absurd (none_some (sym none ∙ some)) where
  none_some : None ≡ Some fault → ⊥
  none_some same = cc

-- what agrees with a quota
module _ (state : QuotaState) (quota : Quota) where
  pub tracked-of : state.quota ≡ quota → state.hierarchy ≡ hierarchy_of quota → IsSound state.hierarchy
      → ((group : ℕ) → maxima_of state.limits group ≡ maxima_at (limits_by quota.groups) group) → IsTracked state
  tracked-of is above sound limits = record {
    sound = subst (λ (h : Hierarchy). IsSound h) (above ∙ ap (λ (q : Quota). hierarchy_of q) (sym is)) sound;
    same = above ∙ ap (λ (q : Quota). hierarchy_of q) (sym is);
    limits = λ group. limits group ∙ ap (λ (q : Quota). maxima_at (limits_by q.groups) group) (sym is);
  }

-- a quota by its two lists
pub quota-by : (made quota : Quota) → made.groups ≡ quota.groups → made.pairs ≡ quota.pairs → made ≡ quota
quota-by made quota groups pairs =
    ap (λ (g : List (ℕ × Group)). record { groups = g; pairs = made.pairs }) groups
    ∙ ap (λ (p : List (ℕ × ℕ)). record { groups = quota.groups; pairs = p }) pairs

-- groups ascend
pub groups-ascend : (state : QuotaState) → IsTracked state → IsStrictlySortedBy nat_cmp (keys_of state.quota.groups)
groups-ascend state tracked = tracked.sound.groups

-- ---- results

pub ok-of : {T E : Type 0} (r : Result T E) (P : Type 0) → is_err r ≡ false → OnOk r P → P
ok-of (Ok x) P fine holds = holds
ok-of (Err e) P fine holds = absurd (true≢false fine)

pub ok-then : {T E : Type 0} (r : Result T E) (P Q : Type 0) → (P → Q) → OnOk r P → OnOk r Q
ok-then (Ok x) P Q so holds = so holds
ok-then (Err e) P Q so holds = tt

-- ---- what is made anew

-- the numbers so far with the next one
pub keys-next : (groups : List (ℕ × Group)) (i : ℕ) (one : ℕ × Group) → IsStrictlySortedBy nat_cmp (keys_of groups)
    → i < length groups → one ≡ get_or groups i one
    → with_number one.0 (keys_of (take i groups)) ≡ keys_of (take (i + 1) groups)
keys-next groups i one ascend inside is =
    ap (λ (h : Hierarchy). h.groups)
    (sym (hierarchy_created one.0 one.1 (record { groups = take i groups; pairs = [] })))
    ∙ ap (λ (front : List (ℕ × Group)). keys_of front) (next-front groups i one ascend inside is)

-- the next group isn't there yet
pub free-create : (groups : List (ℕ × Group)) (i : ℕ) (one : ℕ × Group) (hierarchy : Hierarchy)
    → IsStrictlySortedBy nat_cmp (keys_of groups) → i < length groups
    → one ≡ get_or groups i one → hierarchy.groups ≡ keys_of (take i groups) → create_fault hierarchy one.0 ≡ None
free-create groups i one hierarchy ascend inside is made =
    ap (λ (b : Bool). then_some b why.GroupThere)
    (ap (λ (ks : List ℕ). has_number one.0 ks) made ∙ key-found one.0 (take i groups)
    ∙ ap (λ (o : Option Group). is_some o) (none-before groups i one ascend inside is))

-- one subvolume's group more
pub made-next : {A : Type 0} (subs : List (ℕ × A)) (stamp i : ℕ) (one : ℕ × A) (made pushed : List (ℕ × Group))
    (number : ℕ) (group : Group) → i < length subs → one ≡ get_or subs i one
    → made ≡ map (λ sub. (sub, new_group stamp)) (keys_of (take i subs)) → pushed ≡ made ++ (number, group) ∷ []
    → number ≡ one.0 → group ≡ new_group stamp
    → pushed ≡ map (λ sub. (sub, new_group stamp)) (keys_of (take (i + 1) subs))
made-next {A} subs stamp i one made pushed number group inside is before push numbered new =
    let f : ℕ → ℕ × Group = λ sub. (sub, new_group stamp) in
    let keys : keys_of (take (i + 1) subs) ≡ keys_of (take i subs) ++ one.0 ∷ [] =
    map_more (λ (e : ℕ × A). e.0) subs i one inside ∙ ap (λ (e : ℕ × A). keys_of (take i subs) ++ e.0 ∷ []) (sym is) in
    push ∙ ap (λ (gs : List (ℕ × Group)). gs ++ (number, group) ∷ []) before
    ∙ ap (λ (n : ℕ). map f (keys_of (take i subs)) ++ (n, group) ∷ []) numbered
    ∙ ap (λ (g : Group). map f (keys_of (take i subs)) ++ (one.0, g) ∷ []) new
    ∙ sym (ap (λ (ks : List ℕ). map f ks) keys ∙ map-append f (keys_of (take i subs)) (one.0 ∷ []))

-- new groups have the numbers that they were made of
numbers-made : (stamp : ℕ) (numbers : List ℕ) → keys_of (map (λ sub. (sub, new_group stamp)) numbers) ≡ numbers
numbers-made stamp [] = refl
numbers-made stamp (n ∷ numbers) = ap (λ (ns : List ℕ). n ∷ ns) (numbers-made stamp numbers)

-- groups that ascend are sound without relations
pub sound-alone : (stamp : ℕ) (numbers : List ℕ) → IsStrictlySortedBy nat_cmp numbers
    → IsSound (hierarchy_of (quota_for stamp numbers))
unfolding IsStrictlySortedBy
sound-alone stamp numbers ascend = record {
  groups = subst (λ (ns : List ℕ). IsStrictlySortedBy nat_cmp ns) (sym (numbers-made stamp numbers)) ascend;
  pairs = tt;
  members = λ member parent has. absurd (true≢false (sym has));
  parents = λ member parent has. absurd (true≢false (sym has));
  rising = λ member parent has. absurd (true≢false (sym has));
}

-- ---- changes

module _ (old new : QuotaState) (tracked : IsTracked old) where
  -- a group that was put among the others
  pub tracked-put : (n : ℕ) (group : Group) → new.quota.groups ≡ with_value n group old.quota.groups
      → new.hierarchy ≡ created n old.hierarchy → new.quota.pairs ≡ new.hierarchy.pairs
      → IsSound new.hierarchy → IsSetAt old.limits.maxima new.limits.maxima n (limits_in group) → IsTracked new
  tracked-put n group groups hierarchy pairs sound set =
      let made : Quota = with_group n group old.quota in
      let above : new.hierarchy ≡ hierarchy_of made = hierarchy ∙ ap (λ (h : Hierarchy). created n h) tracked.same
      ∙ sym (hierarchy_created n group old.quota) in
      tracked-of new made (quota-by new.quota made groups (pairs ∙ ap (λ (h : Hierarchy). h.pairs) above)) above sound
      (set-both-ways old.limits.maxima new.limits.maxima (limits_by old.quota.groups) (limits_by made.groups) n
      (limits_in group) tracked.limits set (limits-put n group old.quota.groups))

  -- a group that was taken away
  pub tracked-left : (n : ℕ) → new.quota.groups ≡ without_key n old.quota.groups
      → new.hierarchy ≡ destroyed n old.hierarchy → new.quota.pairs ≡ new.hierarchy.pairs
      → IsSound new.hierarchy → IsSetAt old.limits.maxima new.limits.maxima n no_maxima → IsTracked new
  tracked-left n groups hierarchy pairs sound set =
      let made : Quota = machine.destroyed n old.quota in
      let above : new.hierarchy ≡ hierarchy_of made = hierarchy ∙ ap (λ (h : Hierarchy). destroyed n h) tracked.same
      ∙ sym (hierarchy_destroyed n old.quota) in
      tracked-of new made (quota-by new.quota made groups (pairs ∙ ap (λ (h : Hierarchy). h.pairs) above)) above sound
      (set-both-ways old.limits.maxima new.limits.maxima (limits_by old.quota.groups)
      (limits_by made.groups) n no_maxima tracked.limits set (limits-left n old.quota.groups))

  -- a limit that was set
  pub tracked-limited : (n : ℕ) (group : Group) (which : Which) (max : Option ℕ)
      → value_at n old.quota.groups ≡ Some group
      → new.quota.groups ≡ with_value n (with_limit which max group) old.quota.groups
      → new.quota.pairs ≡ old.quota.pairs → new.hierarchy ≡ old.hierarchy
      → HasMax old.limits new.limits n which max → IsTracked new
  tracked-limited n group which max found groups pairs hierarchy set =
      let made : Quota = with_group n (with_limit which max group) old.quota in
      let keys : keys_of made.groups ≡ keys_of old.quota.groups =
      keys-still n (with_limit which max group) old.quota.groups tracked.sound.groups
      (ap (λ (o : Option Group). is_some o) found) in
      let same : hierarchy_of old.quota ≡ hierarchy_of made =
      ap (λ (ks : List ℕ). record { groups = ks; pairs = old.quota.pairs }) (sym keys) in
      let both : with_max which max (maxima_of old.limits n) ≡ limits_in (with_limit which max group) =
      ap (λ (x : Maxima). with_max which max x) (tracked.limits n ∙ limits-found old.quota.groups n group found)
      ∙ sym (limit-in which max group) in
      let set_all : IsSetAt old.limits.maxima new.limits.maxima n (limits_in (with_limit which max group)) =
      subst (λ (x : Maxima). IsSetAt old.limits.maxima new.limits.maxima n x) both set in
      let above : new.hierarchy ≡ hierarchy_of made = hierarchy ∙ tracked.same ∙ same in
      tracked-of new made (quota-by new.quota made groups pairs) above
      (subst (λ (h : Hierarchy). IsSound h) (same ∙ sym above) tracked.sound)
      (set-both-ways old.limits.maxima new.limits.maxima (limits_by old.quota.groups) (limits_by made.groups) n
      (limits_in (with_limit which max group)) tracked.limits set_all
      (limits-put n (with_limit which max group) old.quota.groups))

  -- quota that was counted anew
  pub tracked-recounted : IsRecounted old.quota new.quota → new.hierarchy ≡ old.hierarchy
      → SameMaxima old.limits new.limits → IsTracked new
  tracked-recounted counted hierarchy same =
      let keys : keys_of new.quota.groups ≡ keys_of old.quota.groups =
      sym (keys-made limits_in new.quota.groups) ∙ ap (λ (t : List (ℕ × Maxima)). keys_of t) counted.limits
      ∙ keys-made limits_in old.quota.groups in
      let above : hierarchy_of old.quota ≡ hierarchy_of new.quota =
      ap (λ (ks : List ℕ). record { groups = ks; pairs = old.quota.pairs }) (sym keys)
      ∙ ap (λ (ps : List (ℕ × ℕ)). record { groups = keys_of new.quota.groups; pairs = ps }) (sym counted.pairs) in
      record {
        sound = subst (λ (h : Hierarchy). IsSound h) above tracked.sound;
        same = hierarchy ∙ tracked.same ∙ above;
        limits = λ group. same group ∙ tracked.limits group
            ∙ ap (λ (t : List (ℕ × Maxima)). maxima_at t group) (sym counted.limits);
      }
