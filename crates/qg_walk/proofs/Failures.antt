-- The failures of a walk, step by step.
use Rattle.std.proofs.Common.{◌≡◌, ℕ, zero, suc, ◌-◌, ◌≤◌, true, false, [], ◌∷◌, arith, refl, sym, ap, ◌∙◌, subst}
use Rattle.std.proofs.Common.{Option, Some, None}
use Rattle.std.specs.Prelude.{Bool, ◌&&◌, List, IfSome, Result, Ok, Err}
use Rattle.std.specs.List.{list_all}
use Rattle.std.proofs.lemmas.Bool.{and_parts, eqb-true}
use Rattle.std.proofs.lemmas.Option.{IfSome_then, none-some}
use Rattle.qg_num.specs.declared.key.Key.{Key}
use Rattle.qg_num.specs.declared.rule.Rule.{Rule}
use Rattle.qg_num.specs.declared.rule.Rule.TheVariants as rule
use Rattle.qg_node.specs.declared.item.Item.{Item}
use Rattle.qg_node.specs.declared.pointer.Pointer.{Pointer}
use Rattle.qg_node.specs.declared.node.Header.{Header}
use Rattle.qg_node.specs.declared.node.Node.{Node}
use Rattle.qg_node.specs.declared.node.Node.TheVariants.{Leaf, Inner}
use Rattle.qg_node.specs.Nodes.{header_of, own_items, own_keys, own_pointers}
use Rattle.qg_super.specs.declared.superblock.Super.{Super}
use Rattle.qg_image.specs.declared.failure.Failure.{Failure}
use Rattle.qg_image.specs.declared.tree.TreeKind.{TreeKind}
use Rattle.qg_image.specs.declared.expected.Expected.{Expected}
use Rattle.qg_image.specs.Failure.{first_failure, unless}
use Rattle.qg_image.specs.Walk.{begins_at, deepest, ends_before, found_failure, is_generation, is_item_of, is_owner}
use Rattle.qg_image.specs.Walk.{is_told, node_failure, pointers_failure, shape_failure, walk_failure, way_failure}
use Rattle.qg_walk.specs.declared.fault.OpenFault.{OpenFault}
use Rattle.qg_walk.specs.declared.fault.OpenFault.TheVariants.{Disk}
use Rattle.qg_walk.specs.Fault.{FailsAs, TellsFailure, failure_of}
use Rattle.qg_walk.specs.Standing.{expected_below, form_failure, levels_below, standing_failure}

-- ---- faults

-- a fault that tells this failure tells the first one
pub TellsFailure-of : (fault : OpenFault) (failure : Failure) (first : Option Failure) → failure_of fault ≡ Some failure
    → first ≡ Some failure → TellsFailure fault first
TellsFailure-of fault failure first told is =
    subst (λ (told : Option Failure). IfSome told (λ (failure : Failure). first ≡ Some failure)) (sym told) is

-- and is none of the disk
pub told-no_disk : (fault : OpenFault) (failure : Failure) → failure_of fault ≡ Some failure → fault ≡ Disk → ⊥
told-no_disk fault failure told is = none-some failure (sym (ap failure_of is) ∙ told)

-- ---- the first of several

-- of two failures neither is one
pub neither : (a b : Option Failure) → first_failure (a ∷ b ∷ []) ≡ None → (a ≡ None) × (b ≡ None)
neither None None h = (refl, refl)
neither None (Some failure) h = absurd cc
neither (Some failure) b h = absurd cc

-- the second is the first failure where the first is none
pub second_alone : (a b : Option Failure) → a ≡ None → first_failure (a ∷ b ∷ []) ≡ b
second_alone a None h = rw h refl
second_alone a (Some failure) h = rw h refl

pub none_of_two : (a b : Option Failure) → a ≡ None → b ≡ None → first_failure (a ∷ b ∷ []) ≡ None
none_of_two a b h k = rw (h, k) refl

pub first_none : (a b c : Option Failure) → first_failure (a ∷ b ∷ c ∷ []) ≡ None → a ≡ None
first_none None b c h = refl
first_none (Some failure) b c h = absurd cc

third_alone : (a b c : Option Failure) → first_failure (a ∷ b ∷ []) ≡ None → first_failure (a ∷ b ∷ c ∷ []) ≡ c
third_alone a b None h = let parts = neither a b h in rw (parts.0, parts.1) refl
third_alone a b (Some failure) h = let parts = neither a b h in rw (parts.0, parts.1) refl

third_later : (a b c : Option Failure) (failure : Failure) → first_failure (a ∷ b ∷ []) ≡ Some failure
    → first_failure (a ∷ b ∷ c ∷ []) ≡ Some failure
third_later None None c failure h = absurd cc
third_later None (Some b) c failure h = h
third_later (Some a) b c failure h = h

pub kept-none : (test : Bool) (broken : Rule) (address : ℕ) → unless test broken address ≡ None → test ≡ true
kept-none true broken address h = refl
kept-none false broken address h = absurd cc

-- ---- one node

four_kept : (a b c d : Bool) (address : ℕ)
    → first_failure (unless a rule.Depth address ∷ unless b rule.Owner address ∷ unless c rule.Gen address
    ∷ unless d rule.Range address ∷ []) ≡ None → (a ≡ true) × (d ≡ true)
four_kept true true true true address h = (refl, refl)
four_kept true true true false address h = absurd cc
four_kept true true false d address h = absurd cc
four_kept true false c d address h = absurd cc
four_kept false b c d address h = absurd cc

-- what is known of a node that breaks no rule from `depth` to `shape`
pub record IsFormed (expected : Expected) (node : Node) : Type 0 where
  pub level : is_told expected.level (header_of node).level ≡ true
  pub begins : begins_at expected.from (own_keys node) ≡ true
  pub ends : ends_before expected.to (own_keys node) ≡ true

pub IsFormed-way : (tree : TreeKind) (super : Super) (expected : Expected) (address : ℕ) (node : Node)
    → way_failure tree super expected address node ≡ None → IsFormed expected node
unfolding way_failure
IsFormed-way tree super expected address node none =
    let begins = begins_at expected.from (own_keys node) in
    let ends = ends_before expected.to (own_keys node) in
    let both = four_kept (is_told expected.level (header_of node).level) (is_owner tree (header_of node).owner)
    (is_generation super.generation expected.generation (header_of node).generation) (begins && ends) address none in
    let parts = and_parts begins ends both.1 in
    record { level = both.0; begins = parts.0; ends = parts.1 }

pub IsFormed-form : (tree : TreeKind) (super : Super) (expected : Expected) (address : ℕ) (node : Node)
    → form_failure tree super expected address node ≡ None → IsFormed expected node
IsFormed-form tree super expected address node none =
    IsFormed-way tree super expected address node
    (neither (way_failure tree super expected address node) (shape_failure super.nodesize expected address node)
    none).0

pub node_failure-formed : (tree : TreeKind) (super : Super) (expected : Expected) (address : ℕ) (node : Node)
    → form_failure tree super expected address node ≡ None
    → node_failure tree super expected address node
    ≡ unless (list_all (is_item_of tree super.generation) (own_items node)) rule.Item address
unfolding node_failure
node_failure-formed tree super expected address node none =
    third_alone (way_failure tree super expected address node) (shape_failure super.nodesize expected address node)
    (unless (list_all (is_item_of tree super.generation) (own_items node)) rule.Item address) none

pub node_failure-form : (tree : TreeKind) (super : Super) (expected : Expected) (address : ℕ) (node : Node)
    (failure : Failure)
    → form_failure tree super expected address node ≡ Some failure
    → node_failure tree super expected address node ≡ Some failure
unfolding node_failure
node_failure-form tree super expected address node failure is =
    third_later (way_failure tree super expected address node) (shape_failure super.nodesize expected address node)
    (unless (list_all (is_item_of tree super.generation) (own_items node)) rule.Item address) failure is

-- where a node of a level that was told is read, there are no more levels than a walk looks at
pub level_within : (told : Option ℕ) (level depth : ℕ) → is_told told level ≡ true → level ≤ 7
    → levels_below told ≤ depth → level ≤ depth
level_within None level depth is low h = omega arith
level_within (Some told) level depth is low h = let same = eqb-true told level is in omega arith

-- ---- the walk at one node

found-standing : (tree : TreeKind) (super : Super) (walk : Expected → ℕ → Option Failure) (expected : Expected)
    (address : ℕ) (found : Result Node Failure) (failure : Failure)
    → standing_failure tree super expected address found ≡ Some failure
    → found_failure (node_failure tree super) walk expected address found ≡ Some failure
found-standing tree super walk expected address (Err other) failure is = is
found-standing tree super walk expected address (Ok node) failure is =
    rw (node_failure-form tree super expected address node failure is) refl

pub walk-standing : (tree : TreeKind) (super : Super) (found : ℕ → Result Node Failure) (depth : ℕ)
    (expected : Expected)
    (address : ℕ) (failure : Failure)
    → standing_failure tree super expected address (found address) ≡ Some failure
    → walk_failure (node_failure tree super) found depth expected address ≡ Some failure
unfolding walk_failure
walk-standing tree super found zero expected address failure is =
    found-standing tree super (λ expected address. None) expected address (found address) failure is
walk-standing tree super found (suc depth) expected address failure is =
    found-standing tree super (walk_failure (node_failure tree super) found depth) expected address
    (found address) failure is

found-leaf : (tree : TreeKind) (super : Super) (walk : Expected → ℕ → Option Failure) (expected : Expected)
    (address : ℕ)
    (found : Result Node Failure) (header : Header) (items : List Item)
    → found ≡ Ok (Leaf header items) → form_failure tree super expected address (Leaf header items) ≡ None
    → found_failure (node_failure tree super) walk expected address found
    ≡ unless (list_all (is_item_of tree super.generation) items) rule.Item address
found-leaf tree super walk expected address found header items is none =
    rw (is, node_failure-formed tree super expected address (Leaf header items) none)
    (first_alone (unless (list_all (is_item_of tree super.generation) items) rule.Item address)) where
      first_alone : (a : Option Failure) → first_failure (a ∷ None ∷ []) ≡ a
      first_alone None = refl
      first_alone (Some failure) = refl

pub walk-leaf : (tree : TreeKind) (super : Super) (found : ℕ → Result Node Failure) (depth : ℕ) (expected : Expected)
    (address : ℕ) (header : Header) (items : List Item)
    → found address ≡ Ok (Leaf header items) → form_failure tree super expected address (Leaf header items) ≡ None
    → walk_failure (node_failure tree super) found depth expected address
    ≡ unless (list_all (is_item_of tree super.generation) items) rule.Item address
unfolding walk_failure
walk-leaf tree super found zero expected address header items is none =
    found-leaf tree super (λ expected address. None) expected address (found address) header items is none
walk-leaf tree super found (suc depth) expected address header items is none =
    found-leaf tree super (walk_failure (node_failure tree super) found depth) expected address
    (found address) header items is none

pub walk-inner : (tree : TreeKind) (super : Super) (found : ℕ → Result Node Failure) (depth : ℕ) (expected : Expected)
    (address : ℕ) (header : Header) (pointers : List Pointer)
    → found address ≡ Ok (Inner header pointers) → form_failure tree super expected address (Inner header pointers)
    ≡ None
    → walk_failure (node_failure tree super) found (suc depth) expected address
    ≡ pointers_failure (walk_failure (node_failure tree super) found depth) (header.level - 1) expected.to pointers
unfolding walk_failure
walk-inner tree super found depth expected address header pointers is none =
    let below = pointers_failure (walk_failure (node_failure tree super) found depth) (header.level - 1) expected.to
    pointers in
    rw is (second_alone (node_failure tree super expected address (Inner header pointers)) below
    (node_failure-formed tree super expected address (Inner header pointers) none))

-- ---- the walk below pointers

pub pointers-passed : (walk : Expected → ℕ → Option Failure) (level : ℕ) (to : Option Key) (pointer : Pointer)
    (pointers : List Pointer)
    → walk (expected_below level to pointer pointers) pointer.child ≡ None
    → pointers_failure walk level to (pointer ∷ pointers) ≡ pointers_failure walk level to pointers
pointers-passed walk level to pointer pointers none =
    second_alone (walk (expected_below level to pointer pointers) pointer.child)
    (pointers_failure walk level to pointers) none

-- ---- where a walk met no failure

-- a node was found, of the level that was told
pub record IsPassed (expected : Expected) (found : Result Node Failure) : Type 0 where
  pub node : Node
  pub is : found ≡ Ok node
  pub level : is_told expected.level (header_of node).level ≡ true

found-passed : (tree : TreeKind) (super : Super) (walk : Expected → ℕ → Option Failure) (expected : Expected)
    (address : ℕ)
    (found : Result Node Failure)
    → found_failure (node_failure tree super) walk expected address found ≡ None → IsPassed expected found
unfolding node_failure
found-passed tree super walk expected address (Err failure) none = absurd cc
found-passed tree super walk expected address (Ok node) none =
    let way = way_failure tree super expected address node in
    let shape = shape_failure super.nodesize expected address node in
    let items = unless (list_all (is_item_of tree super.generation) (own_items node)) rule.Item address in
    let at_node = (neither (first_failure (way ∷ shape ∷ items ∷ []))
    (pointers_failure walk ((header_of node).level - 1) expected.to (own_pointers node)) none).0 in
    record {
      node = node;
      is = refl;
      level = (IsFormed-way tree super expected address node (first_none way shape items at_node)).level;
    }

pub walk-passed : (tree : TreeKind) (super : Super) (found : ℕ → Result Node Failure) (depth : ℕ) (expected : Expected)
    (address : ℕ)
    → walk_failure (node_failure tree super) found depth expected address ≡ None → IsPassed expected (found address)
unfolding walk_failure
walk-passed tree super found zero expected address none =
    found-passed tree super (λ expected address. None) expected address (found address) none
walk-passed tree super found (suc depth) expected address none =
    found-passed tree super (walk_failure (node_failure tree super) found depth) expected address (found address) none

-- ---- how deep a walk goes

-- how many levels there are at most from a node down of which this level is expected
abbrev pub height : Option ℕ → ℕ
height None = deepest
height (Some level) = level

pub level_no_higher : (told : Option ℕ) (level : ℕ) → is_told told level ≡ true → level ≤ 7 → level ≤ height told
level_no_higher None level is low = low
level_no_higher (Some told) level is low = let same = eqb-true told level is in omega arith

pub walk-told : (tree : TreeKind) (super : Super) (found : ℕ → Result Node Failure) (depth : ℕ) (expected : Expected)
    (address : ℕ) (fault : OpenFault)
    → TellsFailure fault (standing_failure tree super expected address (found address))
    → TellsFailure fault (walk_failure (node_failure tree super) found depth expected address)
walk-told tree super found depth expected address fault tells =
    IfSome_then (failure_of fault) tells
    (λ failure is. walk-standing tree super found depth expected address failure is)

-- the walk fails as the leaf's items do
pub FailsAs-leaf : (tree : TreeKind) (super : Super) (found : ℕ → Result Node Failure) (depth : ℕ) (expected : Expected)
    (address : ℕ) (header : Header) (items : List Item)
    (result : Result Unit OpenFault) → found address ≡ Ok (Leaf header items)
    → form_failure tree super expected address (Leaf header items) ≡ None
    → FailsAs result (unless (list_all (is_item_of tree super.generation) items) rule.Item address)
    → FailsAs result (walk_failure (node_failure tree super) found depth expected address)
FailsAs-leaf tree super found depth expected address header items result is none fails =
    rw (walk-leaf tree super found depth expected address header items is none) fails

-- the walk fails as the one below an inner node's pointers does
pub FailsAs-inner : (tree : TreeKind) (super : Super) (found : ℕ → Result Node Failure) (depth : ℕ)
    (expected : Expected)
    (address : ℕ) (header : Header) (pointers : List Pointer)
    (result : Result Unit OpenFault) → found address ≡ Ok (Inner header pointers)
    → form_failure tree super expected address (Inner header pointers) ≡ None
    → 1 ≤ header.level → header.level ≤ depth
    → ((less : ℕ) → header.level - 1 ≤ less
    → FailsAs result (pointers_failure (walk_failure (node_failure tree super) found less)
    (header.level - 1) expected.to pointers))
    → FailsAs result (walk_failure (node_failure tree super) found depth expected address)
FailsAs-inner tree super found zero expected address header pointers result is none above low fails =
    absurd (omega arith)
FailsAs-inner tree super found (suc depth) expected address header pointers result is none above low fails =
    rw (walk-inner tree super found depth expected address header pointers is none) (fails depth (omega arith))

pub levels_low : (level depth : ℕ) → level ≤ depth → levels_below (Some level) ≤ depth
levels_low level depth low = omega arith

pub levels_few : (told : Option ℕ) → levels_below told ≤ deepest
levels_few None = omega arith
levels_few (Some level) = omega arith
