-- A book that stands for a count of ways, for names, and for what other trees owe, and what tellings make of it.
use Rattle.std.proofs.Common.{◌≡◌, ◌≢◌, ℕ, ◌+◌, ◌-◌, ◌*◌, ◌<◌, ◌≤◌, Bool, true, false, List, [], ◌∷◌, ◌++◌, length, map}
use Rattle.std.proofs.Common.{Option, Some, None, arith, refl, sym, ap, subst, ◌∙◌, inl, inr}
use Rattle.std.specs.Prelude.{◌⊎◌, ⊤, ◌||◌, ◌&&◌, not, ◌==◌, if◌then◌else◌, nat_lt}
use Rattle.std.specs.List.{Contains}
use Rattle.std.specs.Option.{option_or}
use Rattle.std.proofs.lemmas.Bool.{eq-eqb, lt-ltb}
use Rattle.std.proofs.lemmas.Bool.Decides.{eqb_tells}
use Rattle.qg_num.specs.declared.piece.Piece.{Piece}
use Rattle.qg_items.specs.declared.extent.Reference.{Reference}
use Rattle.qg_items.specs.declared.extent.Reference.TheVariants.{KeyedBlock, SharedBlock, KeyedData, SharedData}
use Rattle.qg_node.specs.declared.node.Node.{Node}
use Rattle.qg_node.specs.Nodes.{header_of, own_items, own_pointers}
use Rattle.qg_image.specs.State.{Placed}
use Rattle.qg_image.specs.Owed.{Owing, owed_by_node}
use Rattle.qg_cow_refs.specs.declared.cases.Edits.{Edits}
use Rattle.qg_cow_refs.specs.declared.cases.Edits.TheVariants.{ShareOld, AddKeyed, TakeOver, TurnKeyed}
use Rattle.qg_cow_refs.specs.declared.cases.Leaving.{Leaving}
use Rattle.qg_cow_refs.specs.declared.cases.Leaving.TheVariants.{Goes}
use Rattle.qg_cow_refs.specs.Children.{keyed_children, owner_of, shared_children, way_to}
use Rattle.qg_cow_refs.specs.Copying.{children_gain, copy_case, copy_losses}
use Rattle.qg_cow_refs.specs.Left.{leaving_gains, leaving_losses, left_case}
use Rattle.qg_cow_refs.proofs.CopyLaws.{owed-shared}
use Rattle.qg_tree_edits.specs.Tellings.{Telling}
use Rattle.qg_tree_edits.specs.Tellings.Telling.{Copied, Made, Left}
use Rattle.qg_refs.specs.declared.kept.What.{What}
use Rattle.qg_refs.specs.declared.kept.Kept.{Kept}
use Rattle.qg_refs.specs.Book.{Book, IsBook, count_at, full_in, references_at, references_in, what_in}
use Rattle.qg_refs.specs.Counts.{greatest_count}
use Rattle.qg_extents.specs.Table.{book_of}
use Rattle.qg_tree_edits.specs.Counting.{IsBare, IsTimely, LeadsNone, gains, losses, one}
use Rattle.qg_tree_edits.proofs.Ways.{one-here, one-other}
use Rattle.qg_tree_backrefs.specs.declared.tree_refs.TreeRefs.{TreeRefs}
use Rattle.qg_tree_backrefs.specs.Exchange.{Exchange, times, what_comes, ways_to}
use Rattle.qg_tree_backrefs.specs.Following.{coming_of, copying_in, exchange_of, full_by_copy, full_by_leaving}
use Rattle.qg_tree_backrefs.specs.Following.{leaving_in}
use Rattle.qg_tree_backrefs.specs.Following.{placed_by, references_to}
use Rattle.qg_tree_backrefs.proofs.Times.{times-nil}
use Rattle.qg_tree_backrefs.proofs.ReferenceTotals.{IsCounted, IsCounted-list, IsCounted-over, IsCounted-plus}
use Rattle.qg_tree_backrefs.proofs.ReferenceTotals.{IsCounted-same}
use Rattle.qg_tree_backrefs.proofs.ReferenceTotals.{IsCounted-sum, IsCounted-times, many, total}
use Rattle.qg_tree_backrefs.proofs.Owings.{many-alike}
use Rattle.qg_fs_tree.proofs.Keyed.{IsCounted-keyed, keyed-most, keyed-none, keyed_ways, times-way}
use Rattle.qg_fs_tree.proofs.Owings.{names-no_block, names_of}
use Rattle.qg_fs_tree.proofs.Owes.{IsForeign, in-alike, is_own, keyed-other, keyed_in, mark_in, names-other, owed-own}
use Rattle.qg_fs_tree.proofs.Owes.{owed_in, ways-other}
use Rattle.qg_fs_tree.proofs.SlotSums.{IsOnce, over, over-none, over-same}

-- ---- one telling, by ways

-- what a telling makes of a count of ways
abbrev pub turned_by : Telling → (ℕ → ℕ) → ℕ → ℕ
turned_by telling w q = (w q + gains telling q) - losses telling q

-- an address loses no more ways than there are
one_few : (w : ℕ → ℕ) (at q : ℕ) → 0 < w at → one at q ≤ w q
one_few w at q some = elim (eqb_tells q at) [
  | inl (equal, there) ↦
      let here = one-here at q there in
      let same = ap w there in
      omega (arith, here, same, some)
  | inr (unequal, other) ↦ let none = one-other at q other in omega (arith, none)
]

pub losses-few : (telling : Telling) (w : ℕ → ℕ) (q : ℕ) → IsTimely telling w → losses telling q ≤ w q
losses-few (Copied node copy) w q timely = one_few w (header_of node).address q timely.0
losses-few (Made address) w q timely = omega arith
losses-few (Left node) w q timely = one_few w (header_of node).address q timely

-- where a way comes there was none, and it is the only one
gains_one : (w : ℕ → ℕ) (at q : ℕ) → w at ≡ 0 → 0 < one at q → (w q ≡ 0) × (one at q ≡ 1)
gains_one w at q none some = elim (eqb_tells q at) [
  | inl (equal, there) ↦ (ap w there ∙ none, one-here at q there)
  | inr (unequal, other) ↦ let zero = one-other at q other in absurd (omega (arith, some, zero))
]

pub gains-new : (telling : Telling) (w : ℕ → ℕ) (q : ℕ) → IsTimely telling w → 0 < gains telling q
    → (w q ≡ 0) × (gains telling q ≡ 1)
gains-new (Copied node copy) w q timely some = gains_one w copy q timely.1 some
gains-new (Made address) w q timely some = gains_one w address q timely some
gains-new (Left node) w q timely some = absurd (omega (arith, some))

-- ---- nodes that are full or of another owner

-- which nodes told before are so still: none is where one came
abbrev pub foreign_then : Telling → (ℕ → Option Placed) → ℕ → Option Placed
foreign_then (Copied node copy) foreign q = if q == copy then None else foreign q
foreign_then (Made address) foreign q = if q == address then None else foreign q
foreign_then (Left node) foreign q = foreign q

none_here : (at q : ℕ) (foreign : ℕ → Option Placed) → 0 < one at q → (if q == at then None else foreign q) ≡ None
none_here at q foreign some = elim (eqb_tells q at) [
  | inl (equal, there) ↦ ap (λ (b : Bool). if b then None else foreign q) equal
  | inr (unequal, other) ↦ let zero = one-other at q other in absurd (omega (arith, some, zero))
]

same_there : (at q : ℕ) (foreign : ℕ → Option Placed) (w : ℕ → ℕ) → w at ≡ 0 → 0 < w q
    → (if q == at then None else foreign q) ≡ foreign q
same_there at q foreign w none some = elim (eqb_tells q at) [
  | inl (equal, there) ↦ let same = ap w there in absurd (omega (arith, same, none, some))
  | inr (unequal, other) ↦ ap (λ (b : Bool). if b then None else foreign q) unequal
]

either_within : (b : Bool) (f : Option Placed) (placed : Placed) → (if b then None else f) ≡ Some placed
    → f ≡ Some placed
either_within true f placed is = cc
either_within false f placed is = is

pub foreign-come : (telling : Telling) (foreign : ℕ → Option Placed) (q : ℕ) → 0 < gains telling q
    → foreign_then telling foreign q ≡ None
foreign-come (Copied node copy) foreign q some = none_here copy q foreign some
foreign-come (Made address) foreign q some = none_here address q foreign some
foreign-come (Left node) foreign q some = absurd (omega (arith, some))

pub foreign-stays : (telling : Telling) (foreign : ℕ → Option Placed) (w : ℕ → ℕ) (q : ℕ) → IsTimely telling w
    → 0 < w q
    → foreign_then telling foreign q ≡ foreign q
foreign-stays (Copied node copy) foreign w q timely some = same_there copy q foreign w timely.1 some
foreign-stays (Made address) foreign w q timely some = same_there address q foreign w timely some
foreign-stays (Left node) foreign w q timely some = refl

pub foreign-within : (telling : Telling) (foreign : ℕ → Option Placed) (q : ℕ) (placed : Placed)
    → foreign_then telling foreign q ≡ Some placed
    → foreign q ≡ Some placed
foreign-within (Copied old copy) foreign q placed is = either_within (q == copy) (foreign q) placed is
foreign-within (Made address) foreign q placed is = either_within (q == address) (foreign q) placed is
foreign-within (Left old) foreign q placed is = is

-- ---- what is fixed while an edit runs

-- The tree at hand has an owner, names, and ways that lead to slots at first. Foreign is a node at a slot that this
-- tree reaches at first, that is not fresh, and that is full or of another owner. Beside it is one that another tree
-- reaches, as it will be once the tree at hand reaches it no more: full where it was or where the owner at hand made
-- it. Others owe their roots. Clean is what the last commit holds
pub record Around : Type 0 where
  pub owner : ℕ
  pub names : List (ℕ × Piece)
  pub slots : List ℕ
  pub first : TreeRefs
  pub ways : ℕ → ℕ
  pub foreign : ℕ → Option Placed
  pub beside : ℕ → Option Placed
  pub roots : List Owing
  pub clean : ℕ → Option Node

abbrev pub children_of : Node → List ℕ
children_of node = map (λ pointer. pointer.child) (own_pointers node)

-- a node stands beside at an address, or one that does leads to it, or owes something to it
pub record IsThere (a : Around) (at : ℕ) : Type 0 where
  pub placed : Placed
  pub is : a.beside at ≡ Some placed

pub record IsLed (a : Around) (at : ℕ) : Type 0 where
  pub by : ℕ
  pub placed : Placed
  pub is : a.beside by ≡ Some placed
  pub leads : Contains (children_of placed.node) at

pub record IsOwed (a : Around) (at : ℕ) : Type 0 where
  pub by : ℕ
  pub placed : Placed
  pub is : a.beside by ≡ Some placed
  pub some : 0 < many (owed_by_node placed) at

pub record AreFixed (a : Around) (IsPlace : ℕ → Type 0) : Type 0 where
  pub once : (at : ℕ) → IsPlace at → IsOnce a.slots at
  pub apart : (at : ℕ) → IsPlace at → many (names_of a.owner a.names) at ≡ 0
  pub few : (at : ℕ) (reference : Reference) → times (names_of a.owner a.names) at reference ≤ 4294967295
  pub foreign : (q : ℕ) (placed : Placed) → a.foreign q ≡ Some placed → IsForeign a.owner placed
  pub foreign_at : (q : ℕ) (placed : Placed) → a.foreign q ≡ Some placed → (header_of placed.node).address ≡ q
  pub foreign_clean : (q : ℕ) (placed : Placed) → a.foreign q ≡ Some placed → a.clean q ≡ Some placed.node
  pub home : (q : ℕ) (placed : Placed) → a.foreign q ≡ Some placed → placed.full ≡ false → IsThere a q
  pub beside : (q : ℕ) (placed : Placed) → a.beside q ≡ Some placed → IsForeign a.owner placed
  pub beside_at : (q : ℕ) (placed : Placed) → a.beside q ≡ Some placed → (header_of placed.node).address ≡ q
  pub beside_clean : (q : ℕ) (placed : Placed) → 0 < a.ways q → a.beside q ≡ Some placed
      → a.clean q ≡ Some placed.node
  pub beside_place : (q : ℕ) (placed : Placed) → a.beside q ≡ Some placed → IsPlace q
  pub same : (q : ℕ) (placed other : Placed) → a.foreign q ≡ Some placed → a.beside q ≡ Some other → other ≡ placed
  pub own : (q : ℕ) (placed : Placed) → 0 < a.ways q → a.foreign q ≡ None → a.beside q ≡ Some placed
      → (placed.full ≡ true) × (owner_of placed ≡ a.owner)
  pub closed : (at by : ℕ) (placed : Placed) → IsPlace at → a.beside at ≡ None → a.beside by ≡ Some placed
      → many (owed_by_node placed) at ≡ 0
  pub roots_beside : (at : ℕ) → a.beside at ≡ None → many a.roots at ≡ 0
  pub roots_own : (at : ℕ) (reference : Reference) → is_own a.owner reference ≡ true → times a.roots at reference ≡ 0
  pub roots_shared : (parent at : ℕ)
      → (times a.roots at (SharedBlock parent) ≡ 0) × (times a.roots at (SharedData parent) ≡ 0)
  pub led : (q : ℕ) → IsThere a q → (0 < many a.roots q) ⊎ IsLed a q
  pub fits : (q : ℕ) (placed : Placed) → a.beside q ≡ Some placed → (at : ℕ) (reference : Reference)
      → times (owed_by_node placed) at reference ≤ greatest_count reference
  pub named : (q : ℕ) (placed : Placed) → 0 < a.ways q → a.beside q ≡ Some placed → (at : ℕ)
      → 0 < many (owed_by_node placed) at
      → Contains (children_of placed.node) at ⊎ (0 < many (names_of a.owner a.names) at)

-- what is told is true to what is fixed
pub record IsTrueCopy (a : Around) (w : ℕ → ℕ) (node : Node) (copy : ℕ) : Type 0 where
  pub foreign : (placed : Placed) → a.foreign (header_of node).address ≡ Some placed → placed.node ≡ node
  pub beside : (placed : Placed) → a.beside (header_of node).address ≡ Some placed → placed.node ≡ node
  pub down : LeadsNone a.clean w (header_of node).address
  pub alone : a.beside copy ≡ None
  pub unclean : a.clean copy ≡ None

pub record IsTrueMade (a : Around) (address : ℕ) : Type 0 where
  pub alone : a.beside address ≡ None
  pub unclean : a.clean address ≡ None

pub record IsTrueLeft (a : Around) (w : ℕ → ℕ) (at : ℕ) : Type 0 where
  pub foreign : 0 < a.ways at → a.foreign at ≡ None
  pub alone : 0 < a.ways at → a.beside at ≡ None
  pub down : LeadsNone a.clean w at

abbrev pub IsTrueTo : Around → (ℕ → ℕ) → Telling → Type 0
IsTrueTo a w (Copied node copy) = IsTrueCopy a w node copy
IsTrueTo a w (Made address) = IsTrueMade a address
IsTrueTo a w (Left node) = IsTrueLeft a w (header_of node).address

abbrev pub AreTrueTo : Around → (ℕ → ℕ) → List Telling → Type 0
AreTrueTo a w [] = ⊤
AreTrueTo a w (telling ∷ tellings) = IsTrueTo a w telling × AreTrueTo a (turned_by telling w) tellings

there_only : (at q : ℕ) → 0 < one at q → q ≡ at
there_only at q some = elim (eqb_tells q at) [
  | inl (equal, same) ↦ same
  | inr (unequal, other) ↦ let zero = one-other at q other in absurd (omega (arith, some, zero))
]

-- nothing stands beside where something comes, and nothing clean
pub come-alone : (a : Around) (telling : Telling) (w : ℕ → ℕ) (q : ℕ) → IsTrueTo a w telling → 0 < gains telling q
    → a.beside q ≡ None
come-alone a (Copied node copy) w q is some = ap a.beside (there_only copy q some) ∙ is.alone
come-alone a (Made address) w q is some = ap a.beside (there_only address q some) ∙ is.alone
come-alone a (Left node) w q is some = absurd (omega (arith, some))

pub come-unclean : (a : Around) (telling : Telling) (w : ℕ → ℕ) (q : ℕ) → IsTrueTo a w telling → 0 < gains telling q
    → a.clean q ≡ None
come-unclean a (Copied node copy) w q is some = ap a.clean (there_only copy q some) ∙ is.unclean
come-unclean a (Made address) w q is some = ap a.clean (there_only address q some) ∙ is.unclean
come-unclean a (Left node) w q is some = absurd (omega (arith, some))

-- no way is lost to what a clean node leads to
child_stays : (a : Around) (w : ℕ → ℕ) (at q child : ℕ) (parent : Node) → LeadsNone a.clean w at
    → a.clean q ≡ Some parent → 0 < w q → Contains (children_of parent) child
    → one at child ≡ 0
child_stays a w at q child parent down is some leads = elim (eqb_tells child at) [
  | inl (equal, same) ↦ absurd (down q parent is some (subst (λ (c : ℕ). Contains (children_of parent) c) same leads))
  | inr (unequal, other) ↦ one-other at child other
]

pub child-stays : (a : Around) (telling : Telling) (w : ℕ → ℕ) (q child : ℕ) (parent : Node) → IsTrueTo a w telling
    → a.clean q ≡ Some parent → 0 < w q → Contains (children_of parent) child
    → losses telling child ≡ 0
child-stays a (Copied node copy) w q child parent is clean some leads =
    child_stays a w (header_of node).address q child parent is.down clean some leads
child-stays a (Made address) w q child parent is clean some leads = refl
child-stays a (Left node) w q child parent is clean some leads =
    child_stays a w (header_of node).address q child parent is.down clean some leads

-- ---- one telling, by references

-- the way that is lost
abbrev pub way_lost : ℕ → Telling → List Owing
way_lost owner (Copied node copy) = way_to (header_of node).address owner ∷ []
way_lost owner (Made address) = []
way_lost owner (Left node) = way_to (header_of node).address owner ∷ []

-- what stands where a node is copied
abbrev pub turning : (ℕ → Option Placed) → Telling → Option Placed
turning placed (Copied node copy) = placed (header_of node).address
turning placed (Made address) = None
turning placed (Left node) = None

abbrev pub turning_at : Telling → ℕ
turning_at (Copied node copy) = (header_of node).address
turning_at (Made address) = 0
turning_at (Left node) = 0

-- what its children gain and lose by the copy, and whether it becomes full: by a node that was foreign, if there is
-- one, and by what stands beside
abbrev pub come_in : ℕ → Option Placed → Option Placed → List Owing
come_in owner None beside = owed_in beside
come_in owner (Some placed) beside = keyed_children placed.node owner

abbrev pub lose_in : Option Placed → Option Placed → List Owing
lose_in None beside = []
lose_in (Some placed) None = owed_by_node placed
lose_in (Some placed) (Some other) = []

abbrev pub full_by : Option Placed → Option Placed → ℕ → Option ℕ
full_by None None at = None
full_by None (Some other) at = Some at
full_by (Some placed) beside at = None

abbrev pub moving : Around → (ℕ → Option Placed) → Telling → Exchange
moving a foreign telling = record {
  full = full_by (turning foreign telling) (turning a.beside telling) (turning_at telling);
  gains = come_in a.owner (turning foreign telling) (turning a.beside telling);
  losses = way_lost a.owner telling ++ lose_in (turning foreign telling) (turning a.beside telling);
}

-- what is gained in all
pub come-counts : (owner : ℕ) (foreign beside : Option Placed) (at : ℕ) (reference : Reference)
    → ((placed other : Placed) → foreign ≡ Some placed → beside ≡ Some other → other ≡ placed)
    → times (come_in owner foreign beside) at reference + times (owed_in foreign) at reference
    ≡ times (keyed_in owner foreign) at reference + times (owed_in beside) at reference
    + times (lose_in foreign beside) at reference
come-counts owner None beside at reference same =
    let none = times-nil at reference in
    omega (arith, none)
come-counts owner (Some placed) None at reference same =
    let none = times-nil at reference in
    omega (arith, none)
come-counts owner (Some placed) (Some other) at reference same =
    let none = times-nil at reference in
    let owed = ap (λ (p : Placed). times (owed_by_node p) at reference) (same placed other refl refl) in
    omega (arith, none, owed)

pub times_lost : (owner : ℕ) (telling : Telling) (q : ℕ) (reference : Reference)
    → times (way_lost owner telling) q reference ≡ keyed_ways owner (losses telling) q reference
times_lost owner (Copied node copy) q reference = times-way owner (header_of node).address q reference
times_lost owner (Made address) q reference =
    times-nil q reference ∙ sym (keyed-none owner (losses (Made address)) q reference refl)
times_lost owner (Left node) q reference = times-way owner (header_of node).address q reference

pub times_come : (book : TreeRefs) (owner level : ℕ) (telling : Telling) (q : ℕ) (reference : Reference) → book.tree
    ≡ owner
    → times (ways_to (coming_of book level telling)) q reference ≡ keyed_ways owner (gains telling) q reference
times_come book owner level (Copied node copy) q reference mine =
    ap (λ (tree : ℕ). times (way_to copy tree ∷ []) q reference) mine ∙ times-way owner copy q reference
times_come book owner level (Made address) q reference mine =
    ap (λ (tree : ℕ). times (way_to address tree ∷ []) q reference) mine ∙ times-way owner address q reference
times_come book owner level (Left node) q reference mine =
    times-nil q reference ∙ sym (keyed-none owner (gains (Left node)) q reference refl)

-- what is known of what comes
pub record IsNewNode (book : TreeRefs) (what : Option What) : Type 0 where
  pub level : ℕ
  pub known : what ≡ Some (record { bytes = book.nodesize; level = Some level; generation = book.next })

come_here : (at q : ℕ) (what : What) → 0 < one at q → (if q == at then Some what else None) ≡ Some what
come_here at q what some = elim (eqb_tells q at) [
  | inl (equal, there) ↦ ap (λ (b : Bool). if b then Some what else None) equal
  | inr (unequal, other) ↦ let zero = one-other at q other in absurd (omega (arith, some, zero))
]

pub what_come : (book : TreeRefs) (level : ℕ) (telling : Telling) (q : ℕ) → 0 < gains telling q
    → IsNewNode book (what_comes (coming_of book level telling) q)
what_come book level (Copied node copy) q some = record {
  level = (header_of node).level;
  known = come_here copy q
      (record { bytes = book.nodesize; level = Some (header_of node).level; generation = book.next }) some;
}
what_come book level (Made address) q some = record {
  level = level;
  known = come_here address q (record { bytes = book.nodesize; level = Some level; generation = book.next }) some;
}
what_come book level (Left node) q some = absurd (omega (arith, some))

-- ---- cases

copy_unmarked : (count : ℕ) (full : Bool) (by tree : ℕ) → count ≡ 1 → full ≡ false → copy_case count full by tree
    ≡ TakeOver
copy_unmarked count full by tree alone mark =
    ap (λ (n : ℕ). copy_case n full by tree) alone ∙ ap (λ (b : Bool). copy_case 1 b by tree) mark

copy_marked : (count : ℕ) (full : Bool) (by tree : ℕ) → count ≡ 1 → full ≡ true → copy_case count full by tree
    ≡ TurnKeyed
copy_marked count full by tree alone mark =
    ap (λ (n : ℕ). copy_case n full by tree) alone ∙ ap (λ (b : Bool). copy_case 1 b by tree) mark

by_more : Bool → Bool → Bool → Edits
by_more more mine full = if more then (if mine then ShareOld else AddKeyed) else (if full then TurnKeyed else TakeOver)

more_than_one : (count : ℕ) (full mine : Bool) → 2 ≤ count → by_more (nat_lt 1 count) mine full
    ≡ (if mine then ShareOld else AddKeyed)
unfolding by_more
more_than_one count full mine two = ap (λ (b : Bool). by_more b mine full) (lt-ltb 1 count (omega (arith, two)))

copy_shared : (count : ℕ) (full : Bool) (by tree : ℕ) → 2 ≤ count → full ≡ false → by ≡ tree
    → copy_case count full by tree ≡ ShareOld
unfolding by_more
copy_shared count full by tree two mark same =
    more_than_one count full ((by == tree) && not full) two
    ∙ ap (λ (b : Bool). if (by == tree) && not b then ShareOld else AddKeyed) mark
    ∙ ap (λ (b : Bool). if b && true then ShareOld else AddKeyed) (eq-eqb by tree same)

-- it is full or another made it
not_mine : (full : Bool) (by tree : ℕ) → (full ≡ true) ⊎ (by ≢ tree)
    → (if (by == tree) && not full then ShareOld else AddKeyed) ≡ AddKeyed
not_mine true by tree foreign = none (by == tree) where
  none : (b : Bool) → (if b && false then ShareOld else AddKeyed) ≡ AddKeyed
  none true = refl
  none false = refl
not_mine false by tree (inl wrong) = absurd cc
not_mine false by tree (inr differs) = elim (eqb_tells by tree) [
  | inl (equal, same) ↦ absurd (differs same)
  | inr (unequal, other) ↦ ap (λ (b : Bool). if b && true then ShareOld else AddKeyed) unequal
]

copy_added : (count : ℕ) (full : Bool) (by tree : ℕ) → 2 ≤ count → (full ≡ true) ⊎ (by ≢ tree)
    → copy_case count full by tree ≡ AddKeyed
unfolding by_more
copy_added count full by tree two foreign =
    more_than_one count full ((by == tree) && not full) two ∙ not_mine full by tree foreign

left_alone : (count : ℕ) (full : Bool) (by tree : ℕ) → count ≡ 1 → left_case (count - 1) full by tree ≡ Goes
left_alone count full by tree alone = ap (λ (n : ℕ). left_case (n - 1) full by tree) alone

owes_nothing : (placed : Placed) → own_items placed.node ≡ [] → own_pointers placed.node ≡ [] → owed_by_node placed ≡ []
unfolding owed_by_node
owes_nothing placed no_items no_pointers = simp (no_items, no_pointers)

-- how many references lead to a node that is copied
pub record IsCounting (a : Around) (foreign beside : Option Placed) (node : Node) (count : ℕ) (full : Bool) : Type 0
  where
    pub alone : beside ≡ None → count ≡ 1
    pub more : (placed : Placed) → beside ≡ Some placed → 2 ≤ count
    pub mark : full ≡ mark_in foreign
    pub foreign_node : (placed : Placed) → foreign ≡ Some placed → placed.node ≡ node
    pub beside_node : (placed : Placed) → beside ≡ Some placed → placed.node ≡ node
    pub foreign_is : (placed : Placed) → foreign ≡ Some placed → IsForeign a.owner placed
    pub home : (placed : Placed) → foreign ≡ Some placed → beside ≡ None → placed.full ≡ true
    pub own : (placed : Placed) → foreign ≡ None → beside ≡ Some placed
        → (placed.full ≡ true) × (owner_of placed ≡ a.owner)

module _ (book : TreeRefs) where
  by_copy : Node → Edits → Exchange
  by_copy node edits = record {
    full = full_by_copy edits (header_of node).address;
    gains = children_gain edits (placed_by (book_of book.refs) node) book.tree;
    losses = copy_losses edits (placed_by (book_of book.refs) node) book.tree;
  }

  by_leaving : Node → Leaving → Exchange
  by_leaving node leaving = record {
    full = full_by_leaving leaving (header_of node).address;
    gains = leaving_gains leaving (placed_by (book_of book.refs) node);
    losses = way_to (header_of node).address book.tree ∷ leaving_losses leaving (placed_by (book_of book.refs) node);
  }

  exchanged : (at : ℕ) → Option ℕ → List Owing → List Owing → Exchange
  exchanged at full gains losses = record { full = full; gains = gains; losses = way_to at book.tree ∷ losses }

  pub copies : (a : Around) (node : Node) (copy : ℕ) (foreign beside : Option Placed) → book.tree ≡ a.owner
      → IsCounting a foreign beside node (references_to (book_of book.refs) (header_of node).address)
      (full_in (book_of book.refs (header_of node).address))
      → exchange_of book (Copied node copy)
      ≡ record {
        full = full_by foreign beside (header_of node).address;
        gains = come_in a.owner foreign beside;
        losses = (way_to (header_of node).address a.owner ∷ []) ++ lose_in foreign beside;
      }
  unfolding by_copy
  copies a node copy None None mine is =
      let case : copying_in (book_of book.refs) book.tree node ≡ TakeOver =
      copy_unmarked (references_to (book_of book.refs) (header_of node).address)
      (full_in (book_of book.refs (header_of node).address))
      (owner_of (placed_by (book_of book.refs) node)) book.tree (is.alone refl) is.mark in
      ap (by_copy node) case
      ∙ ap (λ (tree : ℕ). record { full = None; gains = []; losses = way_to (header_of node).address tree ∷ [] }) mine
  copies a node copy (Some placed) None mine is =
      let marked = is.home placed refl refl in
      let case : copying_in (book_of book.refs) book.tree node ≡ TurnKeyed =
      copy_marked (references_to (book_of book.refs) (header_of node).address)
      (full_in (book_of book.refs (header_of node).address))
      (owner_of (placed_by (book_of book.refs) node)) book.tree (is.alone refl) (is.mark ∙ marked) in
      ap (by_copy node) case
      ∙ ap (λ (tree : ℕ). record {
        full = None;
        gains = keyed_children node tree;
        losses = way_to (header_of node).address tree ∷ shared_children node;
      }) mine
      ∙ ap (λ (n : Node). record {
        full = None;
        gains = keyed_children n a.owner;
        losses = way_to (header_of node).address a.owner ∷ shared_children n;
      }) (sym (is.foreign_node placed refl))
      ∙ ap (λ (owed : List Owing). record {
        full = None;
        gains = keyed_children placed.node a.owner;
        losses = way_to (header_of node).address a.owner ∷ owed;
      }) (sym (owed-shared placed marked))
  copies a node copy (Some placed) (Some other) mine is =
      let same = is.foreign_node placed refl in
      let case : copying_in (book_of book.refs) book.tree node ≡ AddKeyed =
      copy_added (references_to (book_of book.refs) (header_of node).address)
      (full_in (book_of book.refs (header_of node).address))
      (owner_of (placed_by (book_of book.refs) node)) book.tree (is.more other refl)
      (elim (is.foreign_is placed refl) [
        | inl full ↦ inl (is.mark ∙ full)
        | inr differs ↦ inr (λ owned. differs (ap (λ (n : Node). (header_of n).owner) same ∙ owned ∙ mine))
      ]) in
      ap (by_copy node) case
      ∙ ap (λ (tree : ℕ). record {
        full = None;
        gains = keyed_children node tree;
        losses = way_to (header_of node).address tree ∷ [];
      }) mine
      ∙ ap (λ (n : Node). record {
        full = None;
        gains = keyed_children n a.owner;
        losses = way_to (header_of node).address a.owner ∷ [];
      }) (sym same)
  copies a node copy None (Some other) mine is =
      let same = is.beside_node other refl in
      let own = is.own other refl refl in
      let case : copying_in (book_of book.refs) book.tree node ≡ ShareOld =
      copy_shared (references_to (book_of book.refs) (header_of node).address)
      (full_in (book_of book.refs (header_of node).address))
      (owner_of (placed_by (book_of book.refs) node)) book.tree (is.more other refl) is.mark
      (ap (λ (n : Node). (header_of n).owner) (sym same) ∙ own.1 ∙ sym mine) in
      ap (by_copy node) case
      ∙ ap (λ (tree : ℕ). record {
        full = Some (header_of node).address;
        gains = shared_children node;
        losses = way_to (header_of node).address tree ∷ [];
      }) mine
      ∙ ap (λ (owed : List Owing). record {
        full = Some (header_of node).address;
        gains = owed;
        losses = way_to (header_of node).address a.owner ∷ [];
      }) (ap shared_children (sym same) ∙ sym (owed-shared other own.0))

  pub leaves : (owner : ℕ) (node : Node) → book.tree ≡ owner
      → references_to (book_of book.refs) (header_of node).address ≡ 1
      → IsBare (Left node)
      → exchange_of book (Left node) ≡ record {
        full = None;
        gains = [];
        losses = way_to (header_of node).address owner
            ∷ [];
      }
  unfolding by_leaving
  leaves owner node mine alone bare =
      let case : leaving_in (book_of book.refs) book.tree node ≡ Goes =
      left_alone (references_to (book_of book.refs) (header_of node).address)
      (full_in (book_of book.refs (header_of node).address))
      (owner_of (placed_by (book_of book.refs) node)) book.tree alone in
      let nothing = owes_nothing (placed_by (book_of book.refs) node) bare.0 bare.1 in
      ap (by_leaving node) case
      ∙ ap (λ (owed : List Owing). record {
        full = None;
        gains = [];
        losses = way_to (header_of node).address book.tree
            ∷ owed;
      }) nothing
      ∙ ap (λ (tree : ℕ). record { full = None; gains = []; losses = way_to (header_of node).address tree ∷ [] }) mine

-- ---- what is kept

pub kept_nothing : (kept : Option Kept) → ((some : Kept) → kept ≡ Some some → 0 < length some.references)
    → length (references_in kept) ≡ 0
    → kept ≡ None
kept_nothing None some none = refl
kept_nothing (Some kept) some none = let least = some kept refl in absurd (omega (arith, least, none))

pub kept_same : (old new : Option Kept) (come : Option What) → 0 < total (references_in old)
    → 0 < total (references_in new)
    → ((kept : Kept) → new ≡ Some kept → option_or (what_in old) come ≡ Some kept.what) → what_in new ≡ what_in old
kept_same None new come was is known = absurd (omega (arith, was))
kept_same (Some old) None come was is known = absurd (omega (arith, is))
kept_same (Some old) (Some kept) come was is known = sym (known kept refl)

pub kept_come : (old new : Option Kept) (come : Option What) → old ≡ None → 0 < total (references_in new)
    → ((kept : Kept) → new ≡ Some kept → option_or (what_in old) come ≡ Some kept.what) → what_in new ≡ come
kept_come old None come none is known = absurd (omega (arith, is))
kept_come old (Some kept) come none is known =
    sym (ap (λ (k : Option Kept). option_or (what_in k) come) (sym none) ∙ known kept refl)

pub kept_mark : (old new : Option Kept) (turned : Bool) → 0 < total (references_in new)
    → ((kept : Kept) → new ≡ Some kept → kept.full ≡ (full_in old || turned)) → full_in new ≡ (full_in old || turned)
kept_mark old None turned is full = absurd (omega (arith, is))
kept_mark old (Some kept) turned is full = full kept refl

pub unturned : (b turned : Bool) → turned ≡ false → (b || turned) ≡ b
unturned b turned none = ap (λ (t : Bool). b || t) none ∙ either b where
  either : (c : Bool) → (c || false) ≡ c
  either true = refl
  either false = refl

pub none_or_none : (a b : Option ℕ) → a ≡ None → b ≡ None → option_or a b ≡ None
none_or_none None b first last = last
none_or_none (Some at) b first last = cc

-- ---- a book that stands for ways, for names, and for what is beside

abbrev pub keyed_sum : Around → (ℕ → Option Placed) → (ℕ → ℕ) → ℕ → Reference → ℕ
keyed_sum a foreign w at reference = over a.slots w (λ s. times (keyed_in a.owner (foreign s)) at reference)

abbrev pub owed_sum : Around → (ℕ → Option Placed) → (ℕ → ℕ) → ℕ → Reference → ℕ
owed_sum a foreign w at reference = over a.slots w (λ s. times (owed_in (foreign s)) at reference)

-- where no way leads
abbrev pub no_way : (ℕ → ℕ) → ℕ → ℕ
no_way w s = 1 - w s

abbrev pub beside_sum : Around → (ℕ → ℕ) → ℕ → Reference → ℕ
beside_sum a w at reference = over a.slots (no_way w) (λ s. times (owed_in (a.beside s)) at reference)

abbrev pub beside_many : Around → (ℕ → ℕ) → ℕ → ℕ
beside_many a w at = over a.slots (no_way w) (λ s. many (owed_in (a.beside s)) at)

-- The references of a book are those by a count of ways, by names, those that foreign nodes owe in place of keyed ones
-- of the owner, those to the roots of the others, and those that nodes beside owe to which no way leads
abbrev pub AreCounted : Around → Book → (ℕ → ℕ) → (ℕ → Option Placed) → Type 0
AreCounted a book w foreign = (at : ℕ) (reference : Reference)
    → count_at book at reference + keyed_sum a foreign w at reference
    ≡ keyed_ways a.owner w at reference + times (names_of a.owner a.names) at reference
    + owed_sum a foreign w at reference + (times a.roots at reference + beside_sum a w at reference)

-- a node to which a way leads came since a first state, where nothing is beside, or is what it was then
abbrev pub Stays : Around → TreeRefs → (ℕ → Option Placed) → ℕ → Type 0
Stays a book foreign q =
    (IsNewNode a.first (what_in (book_of book.refs q)) × (foreign q ≡ None) × (a.beside q ≡ None))
    ⊎ ((0 < a.ways q) × (foreign q ≡ a.foreign q) × (what_in (book_of book.refs q)
    ≡ what_in (book_of a.first.refs q)))

-- something leads there whatever is told
abbrev pub Lasts : Around → ℕ → Type 0
Lasts a at = (0 < many (names_of a.owner a.names) at) ⊎ (IsThere a at ⊎ IsOwed a at)

-- what a clean node leads to that is reached is reached too
abbrev pub GoesDown : Around → (ℕ → ℕ) → Type 0
GoesDown a w = (q : ℕ) (parent : Node) → a.clean q ≡ Some parent → 0 < w q → (child : ℕ)
    → Contains (children_of parent) child → 0 < w child

pub record StandsFor (a : Around) (IsPlace : ℕ → Type 0) (book : TreeRefs) (w : ℕ → ℕ) (foreign : ℕ → Option Placed)
    : Type 0 where
  pub mine : book.tree ≡ a.owner
  pub next : book.next ≡ a.first.next
  pub nodesize : book.nodesize ≡ a.first.nodesize
  pub sound : IsBook (book_of book.refs)
  pub fits : book.misfit ≡ None
  pub counts : AreCounted a (book_of book.refs) w foreign
  pub fitting : (at : ℕ) (reference : Reference) → count_at (book_of book.refs) at reference ≤ greatest_count reference
  pub single : (at : ℕ) → w at ≤ 1
  pub placed : (at : ℕ) → 0 < w at → IsPlace at
  pub marks : (q : ℕ) → 0 < w q → full_in (book_of book.refs q) ≡ mark_in (foreign q)
  pub within : (q : ℕ) (placed : Placed) → foreign q ≡ Some placed → a.foreign q ≡ Some placed
  pub stays : (q : ℕ) → 0 < w q → Stays a book foreign q
  pub down : GoesDown a w
  pub left : (q : ℕ) (placed : Placed) → w q ≡ 0 → a.beside q ≡ Some placed
      → full_in (book_of book.refs q) ≡ placed.full
  pub lasts : (at : ℕ) → Lasts a at → what_in (book_of book.refs at) ≡ what_in (book_of a.first.refs at)

-- ---- references of the owner, and others

pub own-most : (owner : ℕ) (names : List (ℕ × Piece)) (w : ℕ → ℕ) (at : ℕ) (reference : Reference) → w at ≤ 1
    → times (names_of owner names) at reference ≤ 4294967295 → is_own owner reference ≡ true
    → keyed_ways owner w at reference + times (names_of owner names) at reference ≤ greatest_count reference
own-most owner names w at (KeyedBlock tree) single few own =
    let none = names-no_block owner names tree at in
    let most = keyed-most owner w at (KeyedBlock tree) in
    omega (arith, none, most, single)
own-most owner names w at (SharedBlock parent) single few own = absurd cc
own-most owner names w at (KeyedData tree ino offset) single few own = omega (arith, few)
own-most owner names w at (SharedData parent) single few own = absurd cc

module _ (a : Around) (IsPlace : ℕ → Type 0) (fixed : AreFixed a IsPlace) (book : Book) (w : ℕ → ℕ)
    (foreign : ℕ → Option Placed)
    (within : (q : ℕ) (placed : Placed) → foreign q ≡ Some placed → a.foreign q ≡ Some placed)
    (counts : AreCounted a book w foreign) where
  pub own-half : (at : ℕ) (reference : Reference) → is_own a.owner reference ≡ true
      → count_at book at reference + keyed_sum a foreign w at reference
      ≡ keyed_ways a.owner w at reference + times (names_of a.owner a.names) at reference
  own-half at reference own =
      let count = counts at reference in
      let owed = over-none a.slots w (λ (s : ℕ). times (owed_in (foreign s)) at reference)
      (λ s some. owed-own a.owner (foreign s) at reference (λ p is. fixed.foreign s p (within s p is)) own) in
      let beside = over-none a.slots (no_way w) (λ (s : ℕ). times (owed_in (a.beside s)) at reference)
      (λ s some. owed-own a.owner (a.beside s) at reference (fixed.beside s) own) in
      let roots = fixed.roots_own at reference own in
      omega (arith, count, owed, beside, roots)

  pub other-half : (at : ℕ) (reference : Reference) → is_own a.owner reference ≡ false
      → count_at book at reference
      ≡ owed_sum a foreign w at reference + (times a.roots at reference + beside_sum a w at reference)
  other-half at reference other =
      let count = counts at reference in
      let keyed = over-none a.slots w (λ (s : ℕ). times (keyed_in a.owner (foreign s)) at reference)
      (λ s some. keyed-other a.owner (foreign s) at reference other) in
      let ways = ways-other a.owner w at reference other in
      let names = names-other a.owner a.names at reference other in
      omega (arith, count, keyed, ways, names)

-- ---- how many references there are in all

-- a sum over slots is counted
IsCounted-slots : (slots : List ℕ) (w : ℕ → ℕ) (owed : ℕ → List Owing) (at : ℕ)
    → IsCounted (λ reference. over slots w (λ s. times (owed s) at reference)) (over slots w (λ s. many (owed s) at))
IsCounted-slots slots w owed at =
    IsCounted-sum (λ (s : ℕ) (r : Reference). w s * times (owed s) at r) (λ (s : ℕ). w s * many (owed s) at) slots
    (λ s. IsCounted-over (w s) (λ (r : Reference). times (owed s) at r) (many (owed s) at)
    (IsCounted-times (owed s) at))

-- as many as ways, names, roots of others, and what they owe
pub total-is : (a : Around) (book : Book) (w : ℕ → ℕ) (foreign : ℕ → Option Placed) → AreCounted a book w foreign
    → (at : ℕ)
    → total (references_at book at)
    ≡ w at + many (names_of a.owner a.names) at + (many a.roots at + beside_many a w at)
total-is a book w foreign counts at =
    let keyed = IsCounted-slots a.slots w (λ (s : ℕ). keyed_in a.owner (foreign s)) at in
    let owed = IsCounted-slots a.slots w (λ (s : ℕ). owed_in (foreign s)) at in
    let beside = IsCounted-slots a.slots (no_way w) (λ (s : ℕ). owed_in (a.beside s)) at in
    let left = IsCounted-plus (λ (r : Reference). count_at book at r)
    (λ (r : Reference). keyed_sum a foreign w at r) (total (references_at book at))
    (over a.slots w (λ (s : ℕ). many (keyed_in a.owner (foreign s)) at))
    (IsCounted-list (references_at book at)) keyed in
    let ways = IsCounted-plus (λ (r : Reference). keyed_ways a.owner w at r)
    (λ (r : Reference). times (names_of a.owner a.names) at r)
    (w at) (many (names_of a.owner a.names) at) (IsCounted-keyed a.owner w at)
    (IsCounted-times (names_of a.owner a.names) at) in
    let here = IsCounted-plus
    (λ (r : Reference). keyed_ways a.owner w at r + times (names_of a.owner a.names) at r)
    (λ (r : Reference). owed_sum a foreign w at r) (w at + many (names_of a.owner a.names) at)
    (over a.slots w (λ (s : ℕ). many (owed_in (foreign s)) at)) ways owed in
    let there = IsCounted-plus (λ (r : Reference). times a.roots at r) (λ (r : Reference). beside_sum a w at r)
    (many a.roots at) (beside_many a w at) (IsCounted-times a.roots at) beside in
    let right = IsCounted-plus
    (λ (r : Reference). keyed_ways a.owner w at r + times (names_of a.owner a.names) at r + owed_sum a foreign w at r)
    (λ (r : Reference). times a.roots at r + beside_sum a w at r)
    (w at + many (names_of a.owner a.names) at + over a.slots w (λ (s : ℕ). many (owed_in (foreign s)) at))
    (many a.roots at + beside_many a w at) here there in
    let same = IsCounted-same (λ (r : Reference). count_at book at r + keyed_sum a foreign w at r)
    (λ (r : Reference). keyed_ways a.owner w at r + times (names_of a.owner a.names) at r
    + owed_sum a foreign w at r + (times a.roots at r + beside_sum a w at r))
    (total (references_at book at) + over a.slots w (λ (s : ℕ). many (keyed_in a.owner (foreign s)) at))
    (w at + many (names_of a.owner a.names) at + over a.slots w (λ (s : ℕ). many (owed_in (foreign s)) at)
    + (many a.roots at + beside_many a w at)) left right (counts at) in
    let alike = over-same a.slots w (λ (s : ℕ). many (keyed_in a.owner (foreign s)) at)
    (λ (s : ℕ). many (owed_in (foreign s)) at)
    (λ s some. many-alike (keyed_in a.owner (foreign s)) (owed_in (foreign s)) (in-alike a.owner (foreign s)) at) in
    omega (arith, same, alike)
