-- One node, loaded and judged.
use Rattle.std.proofs.Common.{◌≡◌, ℕ, ◌<◌, true, false, List, [], ◌∷◌, length, arith, refl, sym, ap, subst, ◌∙◌, Option}
use Rattle.std.proofs.Common.{Some, None}
use Rattle.std.specs.Prelude.{Bool, Result, Ok, Err, IsOk}
use Rattle.std.specs.Result.{result_ok}
use Rattle.std.specs.Ordering.{nat_cmp}
use Rattle.std.specs.BTreeMap.{is_at}
use Rattle.std.specs.Map.{lookup}
use Rattle.qg_device.specs.History.{Event, History, Recorded, content}
use Rattle.qg_num.specs.declared.group.GroupId.{GroupId}
use Rattle.qg_num.specs.declared.counters.Which.{Which}
use Rattle.qg_num.specs.declared.fault.BlockFault.{BlockFault}
use Rattle.qg_num.specs.declared.fault.BlockFault.TheVariants.{NoMemory, Disk, Image}
use Rattle.qg_num.specs.declared.rule.Rule.{Rule}
use Rattle.qg_num.specs.declared.rule.Rule.TheVariants as rule
use Rattle.qg_node.specs.declared.node.Node.{Node}
use Rattle.qg_node.specs.declared.node.Node.TheVariants.{Leaf, Inner}
use Rattle.qg_node.specs.Nodes.{header_of, own_pointers}
use Rattle.qg_node.specs.NodeText.{IsNode}
use Rattle.qg_super.specs.declared.sizes.Sizes.{Sizes}
use Rattle.qg_super.specs.declared.superblock.Super.{Super}
use Rattle.qg_blocks.specs.IsShaped.{is_shaped}
use Rattle.qg_blocks.specs.Types.{Expected}
use Rattle.qg_blocks.specs.Types.{Failure}
use Rattle.qg_blocks.specs.Types.{Broken, Differs}
use Rattle.qg_blocks.specs.Types.{TreeKind}
use Rattle.qg_blocks.specs.Failure.{first_failure, unless}
use Rattle.qg_blocks.specs.Walk.{is_generation, is_owner, is_told, shape_failure, way_failure}
use Rattle.qg_walk.specs.Standing.{form_failure}
use Rattle.qg_walk.proofs.Failures.{IsFormed-form}
use Rattle.qg_blocks.specs.NodesInMemory.{Draft, Held}
use Rattle.qg_blocks.specs.Standing.{standing}
use Rattle.qg_blocks.specs.NodesFound.{Answers, IsBacked, IsNodeAt, found, fresh_at, fresh_or, held_at, told, told_or}
use Rattle.qg_blocks.specs.Writing.{ArePlaced}
use Rattle.qg_blocks.proofs.Telling.{fresh-held}
use Rattle.qg_tree_read.specs.Way.{BreaksThere, FailsThere, HasRead, IsReadable}
use Rattle.qg_tree_read.proofs.Under.{level-told}

-- ---- failures of one node name its address

-- a failure, if any, is a rule at an address
abbrev pub IsAt : ℕ → Option Failure → Type 0
IsAt address o = (failure : Failure) → o ≡ Some failure → (broken : Rule) × (failure ≡ Broken broken address)

unless_at : (test : Bool) (broken : Rule) (address : ℕ) → IsAt address (unless test broken address)
unless_at true broken address failure is = absurd cc
unless_at false broken address failure is = (broken, cc)

two_at : (address : ℕ) (a b : Option Failure) → IsAt address a → IsAt address b
    → IsAt address (first_failure (a ∷ b ∷ []))
two_at address None None h k failure is = absurd cc
two_at address None (Some other) h k failure is = k failure is
two_at address (Some other) b h k failure is = h failure is

four_at : (address : ℕ) (a b c d : Option Failure) → IsAt address a → IsAt address b → IsAt address c → IsAt address d
    → IsAt address (first_failure (a ∷ b ∷ c ∷ d ∷ []))
four_at address (Some other) b c d h k l m failure is = h failure is
four_at address None (Some other) c d h k l m failure is = k failure is
four_at address None None c d h k l m failure is = two_at address c d l m failure is

way_at : (tree : TreeKind) (super : Super) (expected : Expected) (address : ℕ) (node : Node)
    → IsAt address (way_failure tree super expected address node)
unfolding way_failure
way_at tree super expected address node =
    four_at address _ _ _ _ (unless_at (is_told expected.level (header_of node).level) rule.Depth address)
    (unless_at (is_owner tree (header_of node).owner) rule.Owner address)
    (unless_at (is_generation super.generation expected.generation (header_of node).generation) rule.Gen address)
    (unless_at _ rule.Range address)

pub form-at : (tree : TreeKind) (super : Super) (expected : Expected) (address : ℕ) (node : Node)
    → IsAt address (form_failure tree super expected address node)
form-at tree super expected address node =
    two_at address (way_failure tree super expected address node) (shape_failure super.nodesize expected address node)
    (way_at tree super expected address node)
    (unless_at (is_shaped super.nodesize expected.from node) rule.Shape address)

differs_not : (broken : Rule) (address : ℕ) (failure : Failure) → failure ≡ Broken broken address
    → (address' : ℕ) (broken' : Rule) → failure ≡ Broken broken' address' → address' ≡ address
differs_not broken address failure is address' broken' is' = cc

pub broken-only : (tree : TreeKind) (super : Super) (expected : Expected) (address : ℕ) (node : Node) (group : GroupId)
    (which : Which) (stored counted : ℕ)
    → form_failure tree super expected address node ≡ Some (Differs group which stored counted) → ⊥
broken-only tree super expected address node group which stored counted is =
    let there = form-at tree super expected address node (Differs group which stored counted) is in
    let other = there.1 in cc other

-- ---- what was loaded is what is told

ok_found : (found : Result Node Rule) → IsOk found → (node : Node) × (found ≡ Ok node)
ok_found (Ok node) ok = (node, refl)
ok_found (Err broken) ok = absurd cc

told_from : (fresh : Option Node) (sizes : Sizes) (events : List Event) (address : ℕ) (node : Node)
    → fresh_or fresh (standing sizes (content events) address) ≡ Ok node
    → told_or fresh sizes (Recorded events) address ≡ Some node
told_from (Some n) sizes events address node is = cc
told_from None sizes events address node is = ap result_ok is

pub told-found : (draft : Draft) (events : List Event) (address : ℕ) (node : Node)
    → found draft (content events) address ≡ Ok node → told draft (Recorded events) address ≡ Some node
unfolding told
told-found draft events address node is = told_from (fresh_at draft address) draft.sizes events address node is

-- where a disk tells, the node in memory is the one that is found
pub loaded-found : (draft : Draft) (history : History) (events : List Event) (address : ℕ) (held : Held)
    (node : Node) → history ≡ Recorded events
    → IsOk (found draft (content events) address) → ((other : Node) → told draft history address ≡ Some other
    → held_at held address ≡ Some other)
    → held_at held address ≡ Some node → found draft (content events) address ≡ Ok node
loaded-found draft history events address held node is ok loaded here =
    let there = ok_found (found draft (content events) address) ok in
    let tells = subst (λ (h : History). told draft h address ≡ Some there.0) (sym is)
    (told-found draft events address there.0 there.1) in
    let same : there.0 ≡ node = let e = sym (loaded there.0 tells) ∙ here in cc in
    subst (λ (n : Node). found draft (content events) address ≡ Ok n) same there.1

pub loaded-told : (draft : Draft) (history : History) (events : List Event) (address : ℕ) (held : Held)
    (node : Node) → history ≡ Recorded events
    → IsOk (found draft (content events) address) → ((other : Node) → told draft history address ≡ Some other
    → held_at held address ≡ Some other)
    → held_at held address ≡ Some node → told draft history address ≡ Some node
loaded-told draft history events address held node is ok loaded here =
    subst (λ (h : History). told draft h address ≡ Some node) (sym is)
    (told-found draft events address node (loaded-found draft history events address held node is ok loaded here))

kept_from : (fresh : Option Node) (node : Node) (P : Type 0)
    → ((other : Node) → fresh ≡ Some other → (node ≡ other) × P) → (fresh ≡ None → P) → P
kept_from (Some other) node P some none = (some other refl).1
kept_from None node P some none = none refl

-- a node that was loaded has a text and names its address
pub loaded-kept : (draft : Draft) (bytes address : ℕ) (held : Held) (node : Node) → ArePlaced draft bytes
    → held.draft ≡ draft → held_at held address ≡ Some node
    → ((other : Node) → fresh_at draft address ≡ None → held_at held address ≡ Some other
    → IsNodeAt draft.sizes.nodesize address other)
    → IsNodeAt draft.sizes.nodesize address node
loaded-kept draft bytes address held node placed same here kept =
    kept_from (fresh_at draft address) node (IsNodeAt draft.sizes.nodesize address node)
    (λ other fresh.
    let is = fresh-held held address other node (ap (λ (d : Draft). fresh_at d address) same ∙ fresh) here in
    (is, subst (λ (n : Node). IsNodeAt draft.sizes.nodesize address n) (sym is) (placed.each address other fresh).kept))
    (λ none. kept node none here)

-- ---- answers

-- what is answered where nothing could be loaded
pub fails-there : (A : Type 0) (tree : TreeKind) (super : Super) (expected : Expected) (address : ℕ)
    (wanted : Result Node Rule) (fault : BlockFault)
    → Answers {A = A} (Err fault) address wanted → FailsThere {A = A} tree super expected address wanted (Err fault)
fails-there A tree super expected address wanted (Image broken at) answers =
    (answers.0, subst (λ (w : Result Node Rule). BreaksThere tree super expected address broken w) (sym answers.1) refl)
fails-there A tree super expected address wanted Disk answers = tt
fails-there A tree super expected address wanted NoMemory answers = tt

-- what is answered where a node is not such as is expected
pub fails-formed : (tree : TreeKind) (super : Super) (expected : Expected) (address : ℕ) (wanted : Result Node Rule)
    (node : Node) (broken : Rule) (at : ℕ)
    → wanted ≡ Ok node → form_failure tree super expected address node ≡ Some (Broken broken at)
    → BreaksThere tree super expected address broken wanted
fails-formed tree super expected address wanted node broken at is fails =
    let there = form-at tree super expected address node (Broken broken at) fails in
    let same : at ≡ address = differs_not there.0 address (Broken broken at) there.1 at broken refl in
    subst (λ (w : Result Node Rule). BreaksThere tree super expected address broken w) (sym is)
    (subst (λ (a : ℕ). form_failure tree super expected address node ≡ Some (Broken broken a)) same fails)

-- ---- what a reading leaves

pub HasRead-after : (a b c : Held) (h k l : History) (m n o : ℕ) → HasRead a b h k m n → HasRead b c k l n o
    → HasRead a c h l m o
HasRead-after a b c h k l m n o first later = record {
  draft = later.draft ∙ first.draft;
  bound = later.bound ∙ first.bound;
  history = later.history ∙ first.history;
  size = later.size ∙ first.size;
}

-- what can be read before can be read after it
pub IsReadable-read : (old new : Held) (before after : History) (bytes left : ℕ) → ArePlaced old.draft bytes
    → new.draft ≡ old.draft → left ≡ bytes → IsBacked new after
    → IsReadable new after left
IsReadable-read old new before after bytes left placed draft size backed =
    record { backed = backed; placed = rw (draft, size) placed }

placed_none : (fresh : List (ℕ × Node)) (address : ℕ) (node : Node) → fresh ≡ []
    → lookup (is_at (nat_cmp address)) fresh ≡ Some node → ⊥
placed_none fresh address node none is = let is' = rw none at is in cc

-- where no node is fresh all can be read that is the disk's
pub IsReadable-none : (held : Held) (history : History) (bytes : ℕ) → held.draft.fresh ≡ []
    → IsBacked held history → IsReadable held history bytes
IsReadable-none held history bytes none backed = record {
  backed = backed;
  placed = record { each = λ address node is. absurd (placed_none held.draft.fresh address node none is) };
}

-- ---- a node above level 0

inner_pointers_from : (nodesize : ℕ) (node : Node) (level : ℕ) → IsNode nodesize node → (header_of node).level ≡ level
    → 0 < level → 0 < length (own_pointers node)
inner_pointers_from nodesize (Leaf header items) level kept is above =
    absurd (let low = kept.levelled in omega (arith, low, is, above))
inner_pointers_from nodesize (Inner header pointers) level kept is above = let some = kept.levelled.2 in
    omega (arith, some)

-- it has a pointer
pub visited-inner : (tree : TreeKind) (super : Super) (expected : Expected) (address nodesize level : ℕ) (node : Node)
    → IsNode nodesize node → expected.level ≡ Some level
    → form_failure tree super expected address node ≡ None → 0 < level → 0 < length (own_pointers node)
visited-inner tree super expected address nodesize level node kept told formed above =
    let is = level-told expected.level level (header_of node).level told
    (IsFormed-form tree super expected address node formed).level in
    inner_pointers_from nodesize node level kept is above
