-- A rule is broken where a part of the walk says so.
use Rattle.std.proofs.Common.{◌≡◌, ℕ, zero, suc, ◌-◌, ◌≤◌, true, false, List, [], ◌∷◌, ◌++◌, refl, sym, subst, ◌∙◌}
use Rattle.std.proofs.Common.{arith, Option, Some, None}
use Rattle.std.specs.Prelude.{Result, Ok, Err, IfOk, IfSome, OnErr}
use Rattle.std.specs.List.{list_all}
use Rattle.std.proofs.lemmas.Bool.{and_from}
use Rattle.std.proofs.lemmas.Option.{IfSome_then, none-some}
use Rattle.qg_device.specs.History.{Event, content}
use Rattle.qg_num.specs.declared.key.Key.{Key}
use Rattle.qg_num.specs.declared.rule.Rule.TheVariants as rule
use Rattle.qg_node.specs.declared.item.Item.{Item}
use Rattle.qg_node.specs.declared.pointer.Pointer.{Pointer}
use Rattle.qg_node.specs.declared.node.Header.{Header}
use Rattle.qg_node.specs.declared.node.Node.{Node}
use Rattle.qg_node.specs.declared.node.Node.TheVariants.{Leaf, Inner}
use Rattle.qg_node.specs.Nodes.{header_of}
use Rattle.qg_node.specs.NodeText.{IsLevelled}
use Rattle.qg_super.specs.declared.superblock.Super.{Super}
use Rattle.qg_super.specs.Places.{is_slot}
use Rattle.qg_super.specs.SuperText.{sizes_of}
use Rattle.qg_image.specs.declared.failure.Failure.{Failure}
use Rattle.qg_image.specs.declared.tree.TreeKind.TheVariants.{Files}
use Rattle.qg_image.specs.declared.expected.Expected.{Expected}
use Rattle.qg_image.specs.Failure.{unless}
use Rattle.qg_image.specs.Walk.{is_item_of, node_found, pointers_failure}
use Rattle.qg_walk.specs.declared.fault.OpenFault.{OpenFault}
use Rattle.qg_walk.specs.Fault.{FailsAs, TellsFailure, failure_of}
use Rattle.qg_walk.specs.Standing.{IsJudged, StandsAt, expected_below, form_failure, levels_below}
use Rattle.qg_walk.specs.WalkKeeps.{AreInSlots}
use Rattle.qg_walk.proofs.KeyRanges.{list_all-both}
use Rattle.qg_walk.proofs.Failures.{IsFormed-form, level_within, neither, walk-leaf}
use Rattle.qg_shared_walk.specs.declared.digest.Below.{Below}
use Rattle.qg_shared_walk.specs.declared.digest.Digest.{Digest}
use Rattle.qg_shared_walk.specs.Digests.{fits}
use Rattle.qg_shared_walk.specs.Reading.{Denies, Refuses}
use Rattle.qg_shared_walk.specs.Wells.{IsLeafRead, all_failure, below_failure}
use Rattle.qg_shared_walk.specs.Memo.{IsWellBelow, Remembers, Walks, WalksBelow, digest_at}
use Rattle.qg_shared_walk.proofs.Walks.{walk_under}
use Rattle.qg_shared_walk.proofs.Remembered.{below_inner, below_leaf, refused_at, walks_at, walks_meanwhile}

pub denies_told : (fault : OpenFault) (first : Option Failure) → TellsFailure fault first → Denies fault first
denies_told fault first tells =
    IfSome_then (failure_of fault) tells (λ failure is none. none-some failure (sym none ∙ is))

pub denies_if : (fault : OpenFault) (first other : Option Failure) → (other ≡ None → first ≡ None) → Denies fault first
    → Denies fault other
denies_if fault first other so denies =
    IfSome_then (failure_of fault) denies (λ failure not_none none. not_none (so none))

pub first_passes : (walk : Expected → ℕ → Option Failure) (level : ℕ) (to : Option Key) (pointer : Pointer)
    (others : List Pointer)
    → pointers_failure walk level to (pointer ∷ others) ≡ None
    → (walk (expected_below level to pointer others) pointer.child ≡ None)
    × (pointers_failure walk level to others ≡ None)
first_passes walk level to pointer others none = neither (walk (expected_below level to pointer others) pointer.child)
    (pointers_failure walk level to others) none

module _ (super : Super) (events : List Event) where
  pub refuses_leaf : (depth : ℕ) (expected : Expected) (address : ℕ) (header : Header) (items : List Item)
      (result : Result Below OpenFault)
      → node_found super (content events) address ≡ Ok (Leaf header items)
      → form_failure Files super expected address (Leaf header items) ≡ None
      → FailsAs result (unless (list_all (is_item_of Files super.generation) items) rule.Item address)
      → Refuses result (all_failure super events depth expected address)
  refuses_leaf depth expected address header items (Ok below) found formed fails = tt
  refuses_leaf depth expected address header items (Err fault) found formed fails =
      let first = unless (list_all (is_item_of Files super.generation) items) rule.Item address in
      denies_if fault first (all_failure super events depth expected address)
      (λ none. sym (walk-leaf Files super (node_found super (content events)) depth expected address header items found
      formed) ∙ none)
      (denies_told fault first fails)

  refuses_deeper : (depth : ℕ) (expected : Expected) (address : ℕ) (header : Header) (pointers : List Pointer)
      (result : Result Below OpenFault)
      → node_found super (content events) address ≡ Ok (Inner header pointers) → 1 ≤ header.level → header.level ≤ depth
      → ((less : ℕ) → header.level - 1 ≤ less
      → Refuses result (below_failure super events less (header.level - 1) expected.to pointers))
      → Refuses result (all_failure super events depth expected address)
  refuses_deeper depth expected address header pointers (Ok below) found above low fails = tt
  refuses_deeper zero expected address header pointers (Err fault) found above low fails =
      absurd (omega (arith, above, low))
  refuses_deeper (suc depth) expected address header pointers (Err fault) found above low fails =
      denies_if fault (below_failure super events depth (header.level - 1) expected.to pointers)
      (all_failure super events (suc depth) expected address)
      (walk_under super events depth expected address header pointers found) (fails depth (omega (arith, low)))

  pub refuses_inner : (depth : ℕ) (expected : Expected) (address : ℕ) (header : Header) (pointers : List Pointer)
      (result : Result Below OpenFault)
      → node_found super (content events) address ≡ Ok (Inner header pointers)
      → IsJudged Files super expected address (Inner header pointers)
      → levels_below expected.level ≤ depth
      → ((less : ℕ) → header.level - 1 ≤ less
      → Refuses result (below_failure super events less (header.level - 1) expected.to pointers))
      → Refuses result (all_failure super events depth expected address)
  refuses_inner depth expected address header pointers result found judged deep fails =
      let formed = IsFormed-form Files super expected address (Inner header pointers) judged.formed in
      let levels = judged.stands.sound.levelled in
      refuses_deeper depth expected address header pointers result found levels.0
      (level_within expected.level header.level depth formed.level levels.1 deep) fails

  module _ {N : Type 0} (keeps : N → List Node → Type 0) where
    pub below_leaf_read : (kept : List Node) (digests : List (ℕ × Digest)) (reader : N) (expected : Expected)
        (address : ℕ) (header : Header) (items : List Item)
        (result : Result Below OpenFault) → Remembers super events keeps kept digests reader
        → node_found super (content events) address ≡ Ok (Leaf header items)
        → IsJudged Files super expected address (Leaf header items)
        → IfOk result (λ below. IsLeafRead super.generation items below)
        → IfOk result (λ below. IsWellBelow super events keeps kept digests reader expected address
        (Leaf header items) below)
    below_leaf_read kept digests reader expected address header items (Ok below) remembers found judged read =
        below_leaf super events keeps kept digests reader expected address header items below remembers found judged
        read
    below_leaf_read kept digests reader expected address header items (Err fault) remembers found judged read = tt

    pub below_inner_read : (kept : List Node) (digests : List (ℕ × Digest)) (reader : N) (expected : Expected)
        (address : ℕ) (header : Header) (pointers : List Pointer)
        (result : Result Below OpenFault) → node_found super (content events) address ≡ Ok (Inner header pointers)
        → IsJudged Files super expected address (Inner header pointers)
        → IfOk result (λ below. WalksBelow super events keeps kept digests reader expected.to
        (header.level - 1) pointers [] below)
        → IfOk result (λ below. IsWellBelow super events keeps kept digests reader expected address
        (Inner header pointers) below)
    below_inner_read kept digests reader expected address header pointers (Ok below) found judged walks =
        below_inner super events keeps kept digests reader expected address header pointers below found judged walks
    below_inner_read kept digests reader expected address header pointers (Err fault) found judged walks = tt

-- ---- what is remembered, asked

none_or : {A : Type 0} {P : Type 0} (o : Option A) → P → IfSome o (λ x. P)
none_or None p = tt
none_or (Some x) p = p

pub denies_any : (fault : OpenFault) (first : Option Failure) → (first ≡ None → ⊥) → Denies fault first
denies_any fault first not_none = none_or (failure_of fault) not_none

module _ {N : Type 0} (super : Super) (events : List Event) (keeps : N → List Node → Type 0) (kept : List Node)
    (digests : List (ℕ × Digest)) (reader : N) (expected : Expected) (address : ℕ) (digest : Digest) where
  pub fitting_refuses : (depth : ℕ) (result : Result Digest OpenFault)
      → Remembers super events keeps kept digests reader → digest_at digests address ≡ Some digest
      → OnErr result (fits expected digest ≡ false) → levels_below expected.level ≤ depth
      → Refuses result (all_failure super events depth expected address)
  fitting_refuses depth (Ok given) remembers is unfit deep = tt
  fitting_refuses depth (Err fault) remembers is unfit deep =
      denies_any fault (all_failure super events depth expected address)
      (refused_at super events keeps kept digests reader depth expected address digest remembers is unfit deep)

  pub fitting_walks : (result : Result Digest OpenFault) → Remembers super events keeps kept digests reader
      → digest_at digests address ≡ Some digest
      → IfOk result (λ given. (given ≡ digest) × (fits expected digest ≡ true))
      → IfOk result (λ given. Walks super events keeps kept digests reader expected address given)
  fitting_walks (Ok given) remembers is fit =
      subst (λ (d : Digest). Walks super events keeps kept digests reader expected address d) (sym fit.0)
      (walks_at super events keeps kept digests reader expected address digest remembers is fit.1)
  fitting_walks (Err fault) remembers is fit = tt

  pub fitting_meanwhile : (node : Node) (below : Below) (result : Result Digest OpenFault)
      → IsWellBelow super events keeps kept digests reader expected address node below
      → digest_at digests address ≡ Some digest
      → IfOk result (λ given. (given ≡ digest) × (fits expected digest ≡ true))
      → IfOk result (λ given. Walks super events keeps kept digests reader expected address given)
  fitting_meanwhile node below (Ok given) well is fit =
      subst (λ (d : Digest). Walks super events keeps kept digests reader expected address d) (sym fit.0)
      (walks_meanwhile super events keeps kept digests reader expected address node below digest well is fit.1)
  fitting_meanwhile node below (Err fault) well is fit = tt

-- ---- slots

pub slots_more : {N : Type 0} (super : Super) (keeps : N → List Node → Type 0) (reader next : N) (address : ℕ)
    (node : Node) → StandsAt super address node
    → ((nodes : List Node) → keeps reader nodes → keeps next (nodes ++ node ∷ []))
    → AreInSlots (sizes_of super) keeps reader → AreInSlots (sizes_of super) keeps next
slots_more super keeps reader next address node stands more slots =
    let is_there = λ (n : Node). is_slot (sizes_of super) (header_of n).address in
    let here : is_slot (sizes_of super) (header_of node).address ≡ true =
    subst (λ (a : ℕ). is_slot (sizes_of super) a ≡ true) (sym stands.placed) stands.slot in
    record {
      nodes = slots.nodes ++ node ∷ [];
      kept = more slots.nodes slots.kept;
      slots = list_all-both is_there slots.nodes (node ∷ []) slots.slots (and_from (is_there node) true here refl);
    }

pub nothing_there : {A : Type 0} (found : Option A) → ((x : A) → found ≡ Some x → ⊥) → found ≡ None
nothing_there None none = refl
nothing_there (Some x) none = absurd (none x refl)

-- ---- the level of a node

pub node_low : (node : Node) → IsLevelled node → (header_of node).level ≤ 7
node_low (Leaf header items) is = omega (arith, is)
node_low (Inner header pointers) is = is.1
