-- What is asked of a node, part by part.
use Rattle.std.proofs.Common.{◌≡◌, ℕ, ◌*◌, true, false, [], ◌∷◌, refl, Option, Some, None}
use Rattle.std.specs.Prelude.{Bool, ◌&&◌, nat_le, nat_lt}
use Rattle.std.proofs.lemmas.Bool.{and_from, and_parts}
use Rattle.qg_num.specs.declared.key.Key.{Key}
use Rattle.qg_num.specs.declared.rule.Rule.TheVariants as rule
use Rattle.qg_node.specs.declared.node.Node.{Node}
use Rattle.qg_node.specs.Nodes.{header_of, own_keys, used_bytes}
use Rattle.qg_super.specs.declared.superblock.Super.{Super}
use Rattle.qg_super.specs.Places.{capacity}
use Rattle.qg_blocks.specs.IsShaped.{is_first, is_shaped}
use Rattle.qg_blocks.specs.Types.{TreeKind}
use Rattle.qg_blocks.specs.Types.{Expected}
use Rattle.qg_blocks.specs.Failure.{first_failure, unless}
use Rattle.qg_blocks.specs.Walk.{begins_at, ends_before, is_generation, is_owner, is_told, shape_failure, way_failure}
use Rattle.qg_walk.specs.Standing.{form_failure}
use Rattle.qg_walk.proofs.Failures.{kept-none, neither, none_of_two}

-- a node that breaks no rule from `depth` to `shape`
pub record IsAsExpected (tree : TreeKind) (super : Super) (expected : Expected) (node : Node) : Type 0 where
  pub level : is_told expected.level (header_of node).level ≡ true
  pub owner : is_owner tree (header_of node).owner ≡ true
  pub generation : is_generation super.generation expected.generation (header_of node).generation ≡ true
  pub begins : begins_at expected.from (own_keys node) ≡ true
  pub ends : ends_before expected.to (own_keys node) ≡ true
  pub shaped : is_shaped super.nodesize expected.from node ≡ true

four_kept : (a b c d : Bool) (address : ℕ)
    → first_failure (unless a rule.Depth address ∷ unless b rule.Owner address ∷ unless c rule.Gen address
    ∷ unless d rule.Range address ∷ []) ≡ None
    → (a ≡ true) × (b ≡ true) × (c ≡ true) × (d ≡ true)
four_kept true true true true address h = (refl, refl, refl, refl)
four_kept true true true false address h = absurd cc
four_kept true true false d address h = absurd cc
four_kept true false c d address h = absurd cc
four_kept false b c d address h = absurd cc

pub form-expected : (tree : TreeKind) (super : Super) (expected : Expected) (address : ℕ) (node : Node)
    → form_failure tree super expected address node ≡ None
    → IsAsExpected tree super expected node
unfolding way_failure
form-expected tree super expected address node none =
    let begins = begins_at expected.from (own_keys node) in
    let ends = ends_before expected.to (own_keys node) in
    let parts = neither (way_failure tree super expected address node)
    (shape_failure super.nodesize expected address node) none in
    let way = four_kept (is_told expected.level (header_of node).level) (is_owner tree (header_of node).owner)
    (is_generation super.generation expected.generation (header_of node).generation) (begins && ends) address parts.0 in
    let range = and_parts begins ends way.3 in
    record {
      level = way.0;
      owner = way.1;
      generation = way.2;
      begins = range.0;
      ends = range.1;
      shaped = kept-none (is_shaped super.nodesize expected.from node) rule.Shape address parts.1;
    }

pub expected-form : (tree : TreeKind) (super : Super) (expected : Expected) (address : ℕ) (node : Node)
    → IsAsExpected tree super expected node
    → form_failure tree super expected address node ≡ None
unfolding way_failure
expected-form tree super expected address node is =
    let range = and_from (begins_at expected.from (own_keys node)) (ends_before expected.to (own_keys node)) is.begins
    is.ends in
    none_of_two (way_failure tree super expected address node) (shape_failure super.nodesize expected address node)
    (rw (is.level, is.owner, is.generation, range) refl) (rw is.shaped refl)

-- ---- its generation

pub generation-parts : (last : ℕ) (told : Option ℕ) (generation : ℕ) → is_generation last told generation ≡ true
    → (is_told told generation ≡ true) × (is_generation last None generation ≡ true)
generation-parts last told generation is =
    let outer = and_parts (is_told told generation && nat_lt 0 generation) (nat_le generation last) is in
    let inner = and_parts (is_told told generation) (nat_lt 0 generation) outer.0 in
    (inner.0, and_from (nat_lt 0 generation) (nat_le generation last) inner.1 outer.1)

pub generation-told : (last : ℕ) (told : Option ℕ) (generation : ℕ) → is_told told generation ≡ true
    → is_generation last None generation ≡ true
    → is_generation last told generation ≡ true
generation-told last told generation here is =
    let parts = and_parts (nat_lt 0 generation) (nat_le generation last) is in
    and_from (is_told told generation && nat_lt 0 generation) (nat_le generation last)
    (and_from (is_told told generation) (nat_lt 0 generation) here parts.0) parts.1

-- ---- its shape, below a pointer

pub shape-parts : (nodesize : ℕ) (key : Key) (node : Node) → is_shaped nodesize (Some key) node ≡ true
    → (nat_le (capacity nodesize) (4 * used_bytes node) ≡ true) × (is_first key (own_keys node) ≡ true)
unfolding is_shaped
shape-parts nodesize key node shaped = and_parts (nat_le (capacity nodesize) (4 * used_bytes node))
    (is_first key (own_keys node)) shaped

pub shape-whole : (nodesize : ℕ) (key : Key) (node : Node) → nat_le (capacity nodesize) (4 * used_bytes node) ≡ true
    → is_first key (own_keys node) ≡ true
    → is_shaped nodesize (Some key) node ≡ true
unfolding is_shaped
shape-whole nodesize key node full first = and_from (nat_le (capacity nodesize) (4 * used_bytes node))
    (is_first key (own_keys node)) full first
