-- Tellings that go down: by the time that a node is copied or left, none of the clean nodes leads to it.
use Rattle.std.proofs.Common.{◌≡◌, ℕ, zero, suc, ◌+◌, ◌-◌, ◌<◌, ◌≤◌, List, [], ◌∷◌, ◌++◌, map, length, get_or, arith}
use Rattle.std.proofs.Common.{refl, sym, ap, subst, ◌∙◌, inl, inr, Option, Some, None}
use Rattle.std.specs.Prelude.{Contains, slice_get}
use Rattle.std.specs.List.{sum_by}
use Rattle.std.proofs.lemmas.Bool.Decides.{eqb_tells}
use Rattle.std.proofs.lemmas.List.Sums.{sum_by-cons}
use Rattle.qg_node.specs.declared.item.Item.{Item}
use Rattle.qg_node.specs.declared.pointer.Pointer.{Pointer}
use Rattle.qg_node.specs.declared.node.Node.{Node}
use Rattle.qg_node.specs.declared.node.Node.TheVariants.{Leaf, Inner}
use Rattle.qg_node.specs.Nodes.{header_of, own_pointers}
use Rattle.qg_super.specs.declared.superblock.Super.{Super}
use Rattle.qg_image.specs.declared.tree.TreeKind.{TreeKind}
use Rattle.qg_node_alloc.specs.Tellings.{Telling}
use Rattle.qg_node_alloc.specs.Tellings.Telling.{Copied, Made, Left}
use Rattle.qg_tree_read.specs.Branch.{AreBranches, IsBranch, IsPointed}
use Rattle.qg_tree_read.proofs.Branches.{branch-top, each-get}
use Rattle.qg_tree_edits.specs.Counting.{Downward, IsDownward, IsTimely, LeadsNone, Turns, gains, losses, one, ways}
use Rattle.qg_tree_edits.specs.Counting.{ways_each}
use Rattle.qg_tree_edits.proofs.Reached.{either-some, some-term}
use Rattle.qg_tree_edits.proofs.Ways.{one-here, one-other, sum-some, ways-inner, ways-leaf, ways-top}

-- ---- one telling

-- an address loses no more than there is
one_few : (count : ℕ → ℕ) (at q : ℕ) → 0 < count at → one at q ≤ count q
one_few count at q some = elim (eqb_tells q at) [
  | inl (is, there) ↦
      let here = one-here at q there in
      let same = ap count there in
      omega (arith, here, same, some)
  | inr (is, other) ↦ let none = one-other at q other in omega (arith, none)
]

pub timely-few : (telling : Telling) (count : ℕ → ℕ) (q : ℕ) → IsTimely telling count → losses telling q ≤ count q
timely-few (Copied node copy) count q timely = one_few count (header_of node).address q timely.0
timely-few (Made address) count q timely = omega arith
timely-few (Left node) count q timely = one_few count (header_of node).address q timely

leads_same : (clean : ℕ → Option Node) (count other : ℕ → ℕ) (at : ℕ) → ((q : ℕ) → other q ≡ count q)
    → LeadsNone clean count at → LeadsNone clean other at
leads_same clean count other at same down q parent is some child =
    down q parent is (let e = same q in omega (arith, e, some)) child

down_same : (clean : ℕ → Option Node) (telling : Telling) (count other : ℕ → ℕ) → ((q : ℕ) → other q ≡ count q)
    → IsDownward clean telling count → IsDownward clean telling other
down_same clean (Copied node copy) count other same down =
    leads_same clean count other (header_of node).address same down
down_same clean (Made address) count other same down = tt
down_same clean (Left node) count other same down =
    leads_same clean count other (header_of node).address same down

-- ---- what leads on to nothing else

-- where ways lead to one of these nodes, they lead to its children
abbrev pub IsClosed : (ℕ → Option Node) → (ℕ → ℕ) → Type 0
IsClosed clean count = (q : ℕ) (parent : Node) (r : ℕ) → clean q ≡ Some parent → 0 < count q
    → Contains (map (λ pointer. pointer.child) (own_pointers parent)) r → 0 < count r

pub plus-closed : (clean : ℕ → Option Node) (f g : ℕ → ℕ) → IsClosed clean f → IsClosed clean g
    → IsClosed clean (λ q. f q + g q)
plus-closed clean f g first second q parent r is some child = elim (either-some (f q) (g q) some) [
  | inl here ↦ let there = first q parent r is here child in omega (arith, there)
  | inr here ↦ let there = second q parent r is here child in omega (arith, there)
]

pub one-closed : (clean : ℕ → Option Node) (now : ℕ) → clean now ≡ None → IsClosed clean (one now)
one-closed clean now none q parent r is some child = elim (eqb_tells q now) [
  | inl (equal, same) ↦ absurd (let both = sym (ap clean same ∙ none) ∙ is in cc)
  | inr (unequal, differ) ↦ absurd (let zero_there = one-other now q differ in omega (arith, zero_there, some))
]

pub leads-plus : (clean : ℕ → Option Node) (f g : ℕ → ℕ) (at : ℕ) → LeadsNone clean f at → LeadsNone clean g at
    → LeadsNone clean (λ q. f q + g q) at
leads-plus clean f g at first second q parent is some child = elim (either-some (f q) (g q) some) [
  | inl here ↦ first q parent is here child
  | inr here ↦ second q parent is here child
]

leads_framed : (clean : ℕ → Option Node) (count more : ℕ → ℕ) (at : ℕ) → IsClosed clean more → more at ≡ 0
    → LeadsNone clean count at → LeadsNone clean (λ q. count q + more q) at
leads_framed clean count more at closed none down =
    leads-plus clean count more at down
    (λ q parent is some child. let there = closed q parent at is some child in omega (arith, there, none))

down_framed : (clean : ℕ → Option Node) (telling : Telling) (count more : ℕ → ℕ) → IsClosed clean more
    → ((q : ℕ) → 0 < losses telling q → more q ≡ 0) → IsDownward clean telling count
    → IsDownward clean telling (λ q. count q + more q)
down_framed clean (Copied node copy) count more closed apart down =
    leads_framed clean count more (header_of node).address closed
    (apart (header_of node).address
    (let here = one-here (header_of node).address (header_of node).address refl in omega (arith, here))) down
down_framed clean (Made address) count more closed apart down = tt
down_framed clean (Left node) count more closed apart down =
    leads_framed clean count more (header_of node).address closed
    (apart (header_of node).address
    (let here = one-here (header_of node).address (header_of node).address refl in omega (arith, here))) down

-- ---- tellings

pub downward-same : (clean : ℕ → Option Node) (tellings : List Telling) (before other : ℕ → ℕ)
    → ((q : ℕ) → other q ≡ before q) → Downward clean before tellings → Downward clean other tellings
downward-same clean [] before other same down = tt
downward-same clean (telling ∷ tellings) before other same down = (
  down_same clean telling before other same down.0,
  downward-same clean tellings (λ q. (before q + gains telling q) - losses telling q)
      (λ q. (other q + gains telling q) - losses telling q)
      (λ q. ap (λ (n : ℕ). (n + gains telling q) - losses telling q) (same q)) down.1,
)

pub downward-append : (clean : ℕ → Option Node) (first later : List Telling) (before between : ℕ → ℕ)
    → Turns before first between → Downward clean before first → Downward clean between later
    → Downward clean before (first ++ later)
downward-append clean [] later before between turns down then =
    downward-same clean later between before (λ q. sym (turns q)) then
downward-append clean (telling ∷ first) later before between turns down then = (
  down.0,
  downward-append clean first later (λ q. (before q + gains telling q) - losses telling q) between turns.1 down.1 then,
)

-- the same with more counted, which leads on to nothing else, where none of it is at an address that a way is lost to
pub downward-framed : (clean : ℕ → Option Node) (tellings : List Telling) (before after more : ℕ → ℕ)
    → IsClosed clean more → ((q : ℕ) → 0 < sum_by (λ telling. losses telling q) tellings → more q ≡ 0)
    → Turns before tellings after → Downward clean before tellings
    → Downward clean (λ q. before q + more q) tellings
downward-framed clean [] before after more closed apart turns down = tt
downward-framed clean (telling ∷ tellings) before after more closed apart turns down =
    let sum = λ (q : ℕ). sum_by-cons (λ (t : Telling). losses t q) telling tellings in
    let then = downward-framed clean tellings (λ q. (before q + gains telling q) - losses telling q) after more closed
    (λ q some. apart q (let s = sum q in omega (arith, s, some))) turns.1 down.1 in (
      down_framed clean telling before more closed
          (λ q some. apart q (let s = sum q in omega (arith, s, some))) down.0,
      downward-same clean tellings (λ q. ((before q + gains telling q) - losses telling q) + more q)
          (λ q. ((before q + more q) + gains telling q) - losses telling q)
          (λ q. let few = timely-few telling before q turns.0 in omega (arith, few)) then,
    )

-- a way is lost only to where one led before, or came
pub lost-known : (tellings : List Telling) (before after : ℕ → ℕ) (Known : ℕ → Type 0) → Turns before tellings after
    → ((q : ℕ) → 0 < before q → Known q)
    → ((q : ℕ) → 0 < sum_by (λ telling. gains telling q) tellings → Known q)
    → (q : ℕ) → 0 < sum_by (λ telling. losses telling q) tellings → Known q
lost-known [] before after Known turns was came q lost = absurd (omega (arith, lost))
lost-known (telling ∷ tellings) before after Known turns was came q lost =
    let sum = sum_by-cons (λ (t : Telling). losses t q) telling tellings in
    let gained = λ (r : ℕ). sum_by-cons (λ (t : Telling). gains t r) telling tellings in
    elim (either-some (losses telling q) (sum_by (λ (t : Telling). losses t q) tellings) (omega (arith, sum, lost))) [
      | inl here ↦ was q (let few = timely-few telling before q turns.0 in omega (arith, few, here))
      | inr later ↦
          lost-known tellings (λ r. (before r + gains telling r) - losses telling r) after Known turns.1
          (λ r some. elim (either-some (before r) (gains telling r) (omega (arith, some))) [
            | inl old ↦ was r old
            | inr new ↦ came r (let s = gained r in omega (arith, s, new))
          ])
          (λ r some. came r (let s = gained r in omega (arith, s, some))) q later
    ]

-- fewer nodes lead to fewer
down_within : (few all : ℕ → Option Node) (telling : Telling) (count : ℕ → ℕ)
    → ((q : ℕ) (node : Node) → few q ≡ Some node → all q ≡ Some node) → IsDownward all telling count
    → IsDownward few telling count
down_within few all (Copied node copy) count within down =
    λ q parent there some child. down q parent (within q parent there) some child
down_within few all (Made address) count within down = tt
down_within few all (Left node) count within down =
    λ q parent there some child. down q parent (within q parent there) some child

pub downward-within : (few all : ℕ → Option Node) (tellings : List Telling) (before : ℕ → ℕ)
    → ((q : ℕ) (node : Node) → few q ≡ Some node → all q ≡ Some node) → Downward all before tellings
    → Downward few before tellings
downward-within few all [] before within down = tt
downward-within few all (telling ∷ tellings) before within down = (
  down_within few all telling before within down.0,
  downward-within few all tellings (λ q. (before q + gains telling q) - losses telling q) within down.1,
)

-- ---- below a branch

-- the pointer of a child
child_at : (pointers : List Pointer) (r : ℕ) (k : ℕ) → k < length (map (λ (p : Pointer). p.child) pointers)
    → get_or (map (λ (p : Pointer). p.child) pointers) k r ≡ r
    → (i : ℕ) × (p : Pointer) × (slice_get pointers i ≡ Some p) × (p.child ≡ r)
child_at [] r k short is = absurd (omega (arith, short))
child_at (p ∷ pointers) r zero short is = (0, p, refl, is)
child_at (p ∷ pointers) r (suc k) short is =
    let found = child_at pointers r k (omega (arith, short)) is in
    (suc found.0, found.1, found.2, found.3)

module _ (tree : TreeKind) (super : Super) (nodes clean : ℕ → Option Node)
    (same : (q : ℕ) (node : Node) → clean q ≡ Some node → nodes q ≡ Some node) where
  -- ways lead to an address, and a node of a lower level is told there
  IsLower : ℕ → (ℕ → ℕ) → ℕ → Type 0
  IsLower level count r = (0 < count r) × ((node : Node) × (nodes r ≡ Some node) × ((header_of node).level < level))

  -- what clean nodes that ways lead to have as children
  AreLower : ℕ → (ℕ → ℕ) → Type 0
  AreLower level count = (q : ℕ) (parent : Node) (r : ℕ) → clean q ≡ Some parent → 0 < count q
      → Contains (map (λ (pointer : Pointer). pointer.child) (own_pointers parent)) r → IsLower level count r

  -- below each of some pointers
  each_lower : (level : ℕ) (pointers : List Pointer)
      → ((i : ℕ) (p : Pointer) → slice_get pointers i ≡ Some p → AreLower level (ways nodes level p.child))
      → AreLower level (ways_each nodes level pointers)
  unfolding AreLower IsLower
  each_lower level pointers each q parent r is some child =
      let term = some-term (λ (p : Pointer). ways nodes level p.child q) pointers some in
      let below = each term.place term.x term.there q parent r is term.some child in
      let there = sum-some (λ (p : Pointer). ways nodes level p.child r) pointers term.place term.x term.there in
      let here = below.0 in
      (omega (arith, here, there), below.1)

  -- the children of a node
  own_lower : (level : ℕ) (items : List Item) (pointers : List Pointer) (r : ℕ)
      → AreBranches tree super nodes level pointers items
      → Contains (map (λ (pointer : Pointer). pointer.child) pointers) r
      → IsLower (suc level) (ways_each nodes level pointers) r
  unfolding IsLower
  own_lower level items pointers r branches child =
      let found = child_at pointers r child.0 child.1 child.2 in
      let under = each-get (λ (p : Pointer) (xs : List Item). IsPointed super nodes p
      × IsBranch tree super nodes level p.child xs) pointers items branches found.0 found.1 found.2 in
      let top = branch-top tree super nodes level found.1.child under.0 under.2.1 in
      let part = sum-some (λ (p : Pointer). ways nodes level p.child r) pointers found.0 found.1 found.2 in
      let here = ways-top nodes level found.1.child in
      let there = ap (λ (a : ℕ). ways nodes level found.1.child a) found.3 in
      let levelled = top.2 in (
        omega (arith, part, here, there),
        (top.0, sym (ap nodes found.3) ∙ top.1, omega (arith, levelled)),
      )

  branch_lower : (level at : ℕ) (items : List Item) → IsBranch tree super nodes level at items
      → AreLower level (ways nodes level at)
  unfolding IsBranch AreLower IsLower
  branch_lower zero at items branch q parent r is some child = elim (eqb_tells q at) [
    | inl (equal, here) ↦
        let told : Some parent ≡ Some (Leaf branch.0 items) = sym (same q parent is) ∙ ap nodes here ∙ branch.1 in
        let leaf : parent ≡ Leaf branch.0 items = cc in
        let none : Contains [] r =
        subst (λ (n : Node). Contains (map (λ (pointer : Pointer). pointer.child) (own_pointers n)) r) leaf child in
        absurd (let short = none.1 in omega (arith, short))
    | inr (unequal, differ) ↦
        absurd (let none = one-other at q differ in let leaf = ways-leaf nodes at q in omega (arith, none, leaf, some))
  ]
  branch_lower (suc level) at items branch q parent r is some child = elim (eqb_tells q at) [
    | inl (equal, here) ↦
        let told : Some parent ≡ Some (Inner branch.0 branch.1) = sym (same q parent is) ∙ ap nodes here ∙ branch.2 in
        let inner : parent ≡ Inner branch.0 branch.1 = cc in
        let among = subst (λ (n : Node). Contains (map (λ (pointer : Pointer). pointer.child) (own_pointers n)) r)
        inner child in
        let lower = own_lower level items branch.1 r branch.4 among in
        let below = lower.0 in
        let all = ways-inner nodes level at branch.0 branch.1 branch.2 r in
        (omega (arith, below, all), lower.1)
    | inr (unequal, differ) ↦
        let none = one-other at q differ in
        let all = ways-inner nodes level at branch.0 branch.1 branch.2 q in
        let under = λ (i : ℕ) (p : Pointer) (there : slice_get branch.1 i ≡ Some p).
        each-get (λ (o : Pointer) (xs : List Item). IsPointed super nodes o
        × IsBranch tree super nodes level o.child xs)
        branch.1 items branch.4 i p there in
        let lower = each_lower level branch.1
        (λ i p there. branch_lower level p.child (under i p there).0 (under i p there).2.1) q parent r is
        (omega (arith, none, all, some)) child in
        let below = lower.0 in
        let all_r = ways-inner nodes level at branch.0 branch.1 branch.2 r in
        let low = lower.1.2 in
        (omega (arith, below, all_r), (lower.1.0, lower.1.1, omega (arith, low)))
  ]

  pub ways-closed : (level at : ℕ) (items : List Item) → IsBranch tree super nodes level at items
      → IsClosed clean (ways nodes level at)
  unfolding AreLower IsLower
  ways-closed level at items branch q parent r is some child =
      (branch_lower level at items branch q parent r is some child).0

  pub each-closed : (level : ℕ) (pointers : List Pointer)
      → ((i : ℕ) (p : Pointer) → slice_get pointers i ≡ Some p
      → (under : List Item) × IsBranch tree super nodes level p.child under)
      → IsClosed clean (ways_each nodes level pointers)
  unfolding AreLower IsLower
  each-closed level pointers each q parent r is some child =
      (each_lower level pointers
      (λ i p there. branch_lower level p.child (each i p there).0 (each i p there).1) q parent r is some child).0

  -- none of them leads to a node of the level of the top, or above
  pub leads-none : (level at : ℕ) (items : List Item) → IsBranch tree super nodes level at items
      → (top : ℕ) (node : Node) → nodes top ≡ Some node → level ≤ (header_of node).level
      → LeadsNone clean (ways nodes level at) top
  unfolding AreLower IsLower
  leads-none level at items branch top node told high q parent is some child =
      let lower = (branch_lower level at items branch q parent top is some child).1 in
      let both : Some lower.0 ≡ Some node = sym lower.1 ∙ told in
      let one_node : lower.0 ≡ node = cc in
      let level_is = ap (λ (n : Node). (header_of n).level) one_node in
      let low = lower.2 in
      omega (arith, level_is, low, high)
