-- What is told, and what is in memory.
use Rattle.std.proofs.Common.{◌≡◌, ℕ, nat_eq, true, false, List, [], ◌∷◌, refl, sym, ap, subst, ◌∙◌}
use Rattle.std.specs.Result.{result_ok}
use Rattle.std.specs.Prelude.{Option, Some, None, IsSome, is_some, Result, Ok, Err, IsOk, Contains}
use Rattle.std.proofs.lemmas.Bool.{eqb-true}
use Rattle.std.specs.Prelude.{Bool, cond, ◌==◌, if◌then◌else◌}
use Rattle.std.proofs.lemmas.Bool.Decides.{eqb_tells}
use Rattle.std.proofs.Common.{◌≢◌, inl, inr}
use Rattle.std.specs.Cmp.{eq_by_cmp_equiv, nat_cmp_total}
use Rattle.std.specs.FinMap.{nat_cmp-IsAntisymmetric}
use Rattle.std.specs.Option.{option_map_or}
use Rattle.std.specs.Ordering.{nat_cmp, is_eq}
use Rattle.std.specs.declared.cmp.Ordering.{Ordering}
use Rattle.std.specs.declared.cmp.Ordering.TheVariants.{Less, Equal, Greater}
use Rattle.std.specs.BTreeMap.{is_at}
use Rattle.std.specs.Map.{lookup, lookup_entry, remove_entry, set_value}
use Rattle.std.proofs.lemmas.Map.{lookup-set_value}
use Rattle.lru.specs.LruCache.{promoted}
use Rattle.lru.proofs.CallerLemmas.{Contains-lookup, Contains-lookup_entry}
use Rattle.qg_num.specs.declared.fault.BlockFault.{BlockFault}
use Rattle.qg_num.specs.declared.fault.BlockFault.TheVariants.{NoMemory, Disk, Image}
use Rattle.qg_device.specs.History.{Event, History, Recorded, Unrecorded, content}
use Rattle.qg_node.specs.declared.node.Node.{Node}
use Rattle.qg_blocks.specs.NodesInMemory.{Draft, Held, with_node}
use Rattle.qg_blocks.specs.Standing.{standing}
use Rattle.qg_blocks.specs.NodesFound.{Answers, BreaksNone, IsAtHand, IsBacked, IsNodeAt, StandsThere, clean_at}
use Rattle.qg_blocks.specs.NodesFound.{first_of}
use Rattle.qg_blocks.specs.NodesFound.{found, fresh_at, fresh_or, held_at, told, told_or}
use Rattle.qg_blocks.specs.Writing.{AreWritten}
use Rattle.qg_super.specs.declared.sizes.Sizes.{Sizes}

-- ---- what is in memory

pub none_of : {A : Type 0} (o : Option A) → is_some o ≡ false → o ≡ None
none_of None h = refl
none_of (Some x) h = cc

pub IsSome-first : {A : Type 0} (o p : Option A) → IsSome o → IsSome (first_of o p)
IsSome-first None p h = cc
IsSome-first (Some x) p h = refl

pub IsSome-second : {A : Type 0} (o p : Option A) → IsSome p → IsSome (first_of o p)
IsSome-second None p h = h
IsSome-second (Some x) p h = refl

fresh_first : (fresh clean : Option Node) (node other : Node) → fresh ≡ Some node → first_of fresh clean ≡ Some other
    → other ≡ node
fresh_first None clean node other is there = cc
fresh_first (Some n) clean node other is there = cc

-- where there is a fresh node, it is the one in memory
pub fresh-held : (held : Held) (address : ℕ) (node other : Node) → fresh_at held.draft address ≡ Some node
    → held_at held address ≡ Some other → other ≡ node
fresh-held held address node other = fresh_first (fresh_at held.draft address) (clean_at held address) node other

-- where there is neither a fresh nor a clean one, there is none
pub nothing-held : (fresh clean : Option Node) → fresh ≡ None → is_some clean ≡ false → IsSome (first_of fresh clean)
    → ⊥
nothing-held None None none absent some = cc
nothing-held None (Some n) none absent some = cc
nothing-held (Some n) clean none absent some = cc

-- a clean node is one of those listed
pub clean-listed : (held : Held) (address : ℕ) (node : Node) → clean_at held address ≡ Some node
    → Contains held.clean (address, node)
clean-listed held address node is =
    let at = Contains-lookup (nat_eq address) held.clean node is in
    let same : address ≡ at.0 = eqb-true address at.0 at.2 in
    subst (λ (a : ℕ). Contains held.clean (a, node)) (sym same) at.1

told_from : (fresh clean : Option Node) (sizes : Sizes) (history : History) (address : ℕ) (node : Node)
    → ((m : Node) → clean ≡ Some m → StandsThere sizes history address m)
    → told_or fresh sizes history address ≡ Some node → IsSome (first_of fresh clean) → first_of fresh clean ≡ Some node
told_from (Some n) clean sizes history address node stands is some = is
told_from None None sizes history address node stands is some = cc
told_from None (Some m) sizes (Unrecorded changes) address node stands is some = cc
told_from None (Some m) sizes (Recorded events) address node stands is some = let there = stands m refl events refl in
    rw there at is

-- what is in memory is what is told, where anything is
pub held-told : (held : Held) (history : History) (address : ℕ) (node : Node) → IsBacked held history
    → told held.draft history address ≡ Some node
    → IsSome (held_at held address) → held_at held address ≡ Some node
unfolding told
held-told held history address node backed is some =
    told_from (fresh_at held.draft address) (clean_at held address) held.draft.sizes history address node
    (λ m here. backed.stands address m (clean-listed held address m here)) is some

-- and it is told: no rule is broken there
found_from : (fresh clean : Option Node) (sizes : Sizes) (events : List Event) (address : ℕ)
    → ((m : Node) → clean ≡ Some m → StandsThere sizes (Recorded events) address m) → IsSome (first_of fresh clean)
    → IsOk (fresh_or fresh (standing sizes (content events) address))
found_from (Some n) clean sizes events address stands some = refl
found_from None None sizes events address stands some = cc
found_from None (Some m) sizes events address stands some = let there = stands m refl events refl in rw there refl

pub held-found : (held : Held) (events : List Event) (address : ℕ) → IsBacked held (Recorded events)
    → IsSome (held_at held address)
    → IsOk (found held.draft (content events) address)
held-found held events address backed =
    found_from (fresh_at held.draft address) (clean_at held address) held.draft.sizes events address
    (λ m here. backed.stands address m (clean-listed held address m here))

kept_from : (fresh clean : Option Node) (node : Node) (P : Type 0) → (clean ≡ Some node → P) → fresh ≡ None
    → first_of fresh clean ≡ Some node → P
kept_from None clean node P step none is = step is
kept_from (Some n) clean node P step none is = cc

-- over any disk, what is in memory and not fresh has a text and names its address
pub held-kept : (held : Held) (history : History) (address : ℕ) (node : Node) → IsBacked held history
    → fresh_at held.draft address ≡ None
    → held_at held address ≡ Some node → IsNodeAt held.draft.sizes.nodesize address node
held-kept held history address node backed none is =
    kept_from (fresh_at held.draft address) (clean_at held address) node
    (IsNodeAt held.draft.sizes.nodesize address node)
    (λ here. backed.kept address node (clean-listed held address node here)) none is

-- ---- what a call that loaded a node says of it

pub loaded-told : (held : Held) (draft : Draft) (history : History) (address : ℕ) (node : Node)
    → held.draft ≡ draft → IsBacked held history
    → IsSome (held_at held address) → told draft history address ≡ Some node → held_at held address ≡ Some node
loaded-told held draft history address node same backed some is =
    held-told held history address node backed (ap (λ (d : Draft). told d history address) same ∙ is) some

pub loaded-kept : (held : Held) (draft : Draft) (history : History) (address : ℕ) (node : Node)
    → held.draft ≡ draft → IsBacked held history
    → fresh_at draft address ≡ None → held_at held address ≡ Some node → IsNodeAt draft.sizes.nodesize address node
loaded-kept held draft history address node same backed none is =
    subst (λ (d : Draft). IsNodeAt d.sizes.nodesize address node) same
    (held-kept held history address node backed (ap (λ (d : Draft). fresh_at d address) same ∙ none) is)

-- so it is at hand as it is
pub IsAtHand-backed : (held : Held) (draft : Draft) (history : History) (address : ℕ) → held.draft ≡ draft
    → IsBacked held history
    → IsSome (held_at held address) → IsAtHand held draft history address
IsAtHand-backed held draft history address same backed some = record {
  held = some;
  told = λ node. loaded-told held draft history address node same backed some;
  kept = λ node. loaded-kept held draft history address node same backed;
}

pub loaded-found : (held : Held) (draft : Draft) (history : History) (events : List Event) (address : ℕ)
    → held.draft ≡ draft → IsBacked held history
    → history ≡ Recorded events → IsSome (held_at held address) → IsOk (found draft (content events) address)
loaded-found held draft history events address same backed is some =
    subst (λ (d : Draft). IsOk (found d (content events) address)) same
    (held-found held events address (subst (λ (h : History). IsBacked held h) is backed) some)

-- where no node is fresh, what is found is what stands in the image
pub found-stands : (draft : Draft) (image : List ℕ) (address : ℕ) → fresh_at draft address ≡ None
    → found draft image address ≡ standing draft.sizes image address
found-stands draft image address none = ap (λ (o : Option Node). fresh_or o (standing draft.sizes image address)) none

unbroken_from : {A : Type 0} (result : Result A BlockFault) (fresh : Option Node) (sizes : Sizes)
    (history : History) (address : ℕ) (node : Node)
    → fresh ≡ None
    → ((events : List Event) → history ≡ Recorded events
    → Answers result address (standing sizes (content events) address))
    → told_or fresh sizes history address ≡ Some node → BreaksNone result
unbroken_from (Ok x) fresh sizes history address node none answers is = tt
unbroken_from (Err NoMemory) fresh sizes history address node none answers is = tt
unbroken_from (Err Disk) fresh sizes history address node none answers is = tt
unbroken_from (Err (Image rule at)) (Some n) sizes history address node none answers is = cc
unbroken_from (Err (Image rule at)) None sizes (Unrecorded changes) address node none answers is = cc
unbroken_from (Err (Image rule at)) None sizes (Recorded events) address node none answers is = let there =
    (answers events refl).1 in let is' = rw there at is in cc

-- where a node is told, no rule is broken
pub told-unbroken : {A : Type 0} (result : Result A BlockFault) (draft : Draft) (history : History)
    (address : ℕ) (node : Node)
    → fresh_at draft address ≡ None
    → ((events : List Event) → history ≡ Recorded events
    → Answers result address (standing draft.sizes (content events) address))
    → told draft history address ≡ Some node → BreaksNone result
unfolding told
told-unbroken result draft history address node =
    unbroken_from result (fresh_at draft address) draft.sizes history address node

-- ---- the clean node that was used last

value_from : (b : Bool) (e f : ℕ × Node) (o : Option Node) (p : Option (ℕ × Node)) → (p ≡ Some f → o ≡ Some f.1)
    → cond b (Some e) p ≡ Some f
    → cond b (Some e.1) o ≡ Some f.1
value_from true e f o p step is = let same : e ≡ f = cc in ap (λ (g : ℕ × Node). Some g.1) same
value_from false e f o p step is = step is

entry_value : (test : ℕ → Bool) (es : List (ℕ × Node)) (f : ℕ × Node) → lookup_entry test es ≡ Some f
    → lookup test es ≡ Some f.1
entry_value test [] f is = cc
entry_value test (e ∷ es) f is = value_from (test e.0) e f (lookup test es) (lookup_entry test es)
    (entry_value test es f) is

promoted_from : (test : ℕ → Bool) (es : List (ℕ × Node)) (o : Option (ℕ × Node)) → lookup_entry test es ≡ o
    → lookup test (option_map_or (λ e. e ∷ remove_entry test es) o es) ≡ lookup test es
promoted_from test es None h = refl
promoted_from test es (Some e) h = let passes = (Contains-lookup_entry test es e h).1 in
    rw passes (sym (entry_value test es e h))

-- it is there as it was
pub lookup-promoted : (test : ℕ → Bool) (es : List (ℕ × Node)) → lookup test (promoted test es) ≡ lookup test es
lookup-promoted test es = promoted_from test es (lookup_entry test es) refl

pub IsSome-promoted : (test : ℕ → Bool) (es : List (ℕ × Node)) → IsSome (lookup test es)
    → IsSome (lookup test (promoted test es))
IsSome-promoted test es some = subst (λ (o : Option Node). IsSome o) (sym (lookup-promoted test es)) some

either_absent : (b : Bool) (e : ℕ × Node) (o : Option Node) (p : Option (ℕ × Node)) → (is_some o ≡ false → p ≡ None)
    → is_some (cond b (Some e.1) o) ≡ false
    → cond b (Some e) p ≡ None
either_absent true e o p step none = cc
either_absent false e o p step none = step none

entry_absent : (test : ℕ → Bool) (es : List (ℕ × Node)) → is_some (lookup test es) ≡ false → lookup_entry test es ≡ None
entry_absent test [] none = refl
entry_absent test (e ∷ es) none = either_absent (test e.0) e (lookup test es) (lookup_entry test es)
    (entry_absent test es) none

-- and where there is none, nothing changes
pub promoted-absent : (test : ℕ → Bool) (es : List (ℕ × Node)) → is_some (lookup test es) ≡ false
    → promoted test es ≡ es
promoted-absent test es none = ap (λ (o : Option (ℕ × Node)). option_map_or (λ e. e ∷ remove_entry test es) o es)
    (entry_absent test es none)

-- ---- fresh nodes that come and go

pub is_at-same : (a : ℕ) → is_at (nat_cmp a) a ≡ true
is_at-same a = (eq_by_cmp_equiv nat_cmp_total).refl a

is_at_other : (a q : ℕ) (o : Ordering) → nat_cmp a q ≡ o → (q ≡ a → ⊥) → is_eq o ≡ false
is_at_other a q Less h other = refl
is_at_other a q Equal h other = absurd (other (sym (nat_cmp-IsAntisymmetric a q h)))
is_at_other a q Greater h other = refl

pub is_at-other : (a q : ℕ) → (q ≡ a → ⊥) → is_at (nat_cmp a) q ≡ false
is_at-other a q = is_at_other a q (nat_cmp a q) refl

told-fresh : (old new : Draft) (history : History) (at : ℕ) → new.sizes ≡ old.sizes
    → fresh_at new at ≡ fresh_at old at → told new history at ≡ told old history at
unfolding told
told-fresh old new history at same is = ap (λ (s : Sizes). told_or (fresh_at new at) s history at) same
    ∙ ap (λ (o : Option Node). told_or o old.sizes history at) is

-- one that comes is told at its address, and nothing else changes
pub told-put : (old new : Draft) (address : ℕ) (node : Node) (history : History) (at : ℕ)
    → new.sizes ≡ old.sizes → ((q : ℕ) → fresh_at new q ≡ cond (is_at (nat_cmp address) q) (Some node) (fresh_at old q))
    → told new history at ≡ if at == address then Some node else told old history at
unfolding told
told-put old new address node history at same is = elim (eqb_tells at address) [
  | inl (is_same, there) ↦
      let here : fresh_at new at ≡ Some node = is at ∙ ap (λ (b : Bool). cond b (Some node) (fresh_at old at))
      (ap (λ (a : ℕ). is_at (nat_cmp address) a) there ∙ is_at-same address) in
      rw (is_same, here) refl
  | inr (is_other, other) ↦
      let here : fresh_at new at ≡ fresh_at old at = is at ∙ ap (λ (b : Bool). cond b (Some node) (fresh_at old at))
      (is_at-other address at other) in
      rw is_other (told-fresh old new history at same here)
]

-- where one goes nothing changes at other addresses
pub told-remove : (old new : Draft) (address : ℕ) (history : History) (at : ℕ) → new.sizes ≡ old.sizes
    → ((q : ℕ) → fresh_at new q ≡ cond (is_at (nat_cmp address) q) None (fresh_at old q))
    → at ≢ address → told new history at ≡ told old history at
told-remove old new address history at same is other =
    told-fresh old new history at same (is at
    ∙ ap (λ (b : Bool). cond b None (fresh_at old at)) (is_at-other address at other))

-- ---- fresh nodes that were written

pub same_by : (a k : ℕ) (o : Ordering) → nat_cmp a k ≡ o → is_eq o ≡ true → a ≡ k
same_by a k Less h is = cc
same_by a k Equal h is = nat_cmp-IsAntisymmetric a k h
same_by a k Greater h is = cc

written_from : (fresh : Option Node) (sizes : Sizes) (history : History) (events : List Event) (address : ℕ)
    → history ≡ Recorded events
    → ((node : Node) → fresh ≡ Some node → StandsThere sizes history address node)
    → told_or None sizes history address ≡ told_or fresh sizes history address
written_from None sizes history events address told stands = refl
written_from (Some node) sizes (Unrecorded changes) events address told stands = cc
written_from (Some node) sizes (Recorded other) events address told stands = ap result_ok (stands node refl other refl)

-- where they stand on a disk that tells, the same is told without them
pub told-written : (old new : Draft) (history : History) (events : List Event) (address : ℕ)
    → new.fresh ≡ [] → new.sizes ≡ old.sizes
    → history ≡ Recorded events → AreWritten old history → told new history address ≡ told old history address
unfolding told
told-written old new history events address empty same is written =
    ap (λ (es : List (ℕ × Node)). told_or (lookup (is_at (nat_cmp address)) es) new.sizes history address) empty
    ∙ ap (λ (s : Sizes). told_or None s history address) same
    ∙ written_from (fresh_at old address) old.sizes history events address is (written.stands address)

-- ---- a fresh node that is written to

pub fresh-set : (draft : Draft) (address : ℕ) (node : Node) (q : ℕ) → IsSome (fresh_at draft address)
    → lookup (is_at (nat_cmp q)) (set_value (is_at (nat_cmp address)) draft.fresh node)
    ≡ cond (is_at (nat_cmp address) q) (Some node) (fresh_at draft q)
fresh-set draft address node q some =
    lookup-set_value (eq_by_cmp_equiv nat_cmp_total) (is_at (nat_cmp address))
    (λ x y is. let same : address ≡ x = same_by address x (nat_cmp address x) refl is in
    ap (λ (a : ℕ). is_at (nat_cmp a) y) same) q node draft.fresh some

pub told-set : (draft : Draft) (address : ℕ) (node : Node) (history : History) (at : ℕ)
    → IsSome (fresh_at draft address)
    → told (with_node draft address node) history at ≡ if at == address then Some node else told draft history at
told-set draft address node history at some =
    told-put draft (with_node draft address node) address node history at refl
    (λ q. fresh-set draft address node q some)
