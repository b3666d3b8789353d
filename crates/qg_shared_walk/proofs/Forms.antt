-- A node that has a digest keeps the rules from `depth` to `shape` where the digest fits what is expected, and only
-- there.
use Rattle.std.proofs.Common.{◌≡◌, ℕ, ◌-◌, ◌<◌, true, false, List, [], ◌∷◌, length, refl, sym, ap, ◌∙◌, arith, Option}
use Rattle.std.proofs.Common.{Some, None}
use Rattle.std.specs.Prelude.{Bool, ◌&&◌, ◌*◌, nat_le, nat_lt, slice_get, get_or}
use Rattle.std.proofs.lemmas.Bool.{and_from, and_parts}
use Rattle.std.proofs.lemmas.Option.{none-some, same_Some, slice_get-get_or}
use Rattle.qg_num.specs.declared.key.Key.{Key}
use Rattle.qg_num.specs.declared.rule.Rule.TheVariants as rule
use Rattle.qg_node.specs.declared.node.Node.{Node}
use Rattle.qg_node.specs.Nodes.{header_of, is_ascending, own_keys, used_bytes}
use Rattle.qg_super.specs.declared.superblock.Super.{Super}
use Rattle.qg_super.specs.Places.{capacity}
use Rattle.qg_image.specs.IsShaped.{is_first, is_shaped, same_key}
use Rattle.qg_image.specs.declared.tree.TreeKind.TheVariants.{Files}
use Rattle.qg_image.specs.declared.expected.Expected.{Expected}
use Rattle.qg_image.specs.Failure.{first_failure, unless}
use Rattle.qg_image.specs.Walk.{begins_at, ends_before, is_generation, is_owner, is_told, shape_failure, way_failure}
use Rattle.qg_walk.specs.Standing.{form_failure}
use Rattle.qg_walk.proofs.Failures.{kept-none, neither, none_of_two}
use Rattle.qg_walk.proofs.KeyRanges.{begins_at-first, ends_before-each, ends_before-last}
use Rattle.qg_shared_walk.specs.declared.digest.Digest.{Digest}
use Rattle.qg_shared_walk.specs.Digests.{IsDigestOf, begins_by, ends_by, fits_alone, has_shape}

-- ---- the rules, one by one

-- the rules from `depth` to `shape`
pub record KeepsForm (super : Super) (expected : Expected) (node : Node) : Type 0 where
  pub level : is_told expected.level (header_of node).level ≡ true
  pub owner : is_owner Files (header_of node).owner ≡ true
  pub generation : is_generation super.generation expected.generation (header_of node).generation ≡ true
  pub begins : begins_at expected.from (own_keys node) ≡ true
  pub ends : ends_before expected.to (own_keys node) ≡ true
  pub shaped : is_shaped super.nodesize expected.from node ≡ true

four_parts : (a b c d : Bool) (address : ℕ)
    → first_failure (unless a rule.Depth address ∷ unless b rule.Owner address ∷ unless c rule.Gen address
    ∷ unless d rule.Range address ∷ []) ≡ None
    → (a ≡ true) × (b ≡ true) × (c ≡ true) × (d ≡ true)
four_parts true true true true address h = (refl, refl, refl, refl)
four_parts true true true false address h = absurd cc
four_parts true true false d address h = absurd cc
four_parts true false c d address h = absurd cc
four_parts false b c d address h = absurd cc

four_none : (a b c d : Bool) (address : ℕ) → a ≡ true → b ≡ true → c ≡ true → d ≡ true
    → first_failure (unless a rule.Depth address ∷ unless b rule.Owner address ∷ unless c rule.Gen address
    ∷ unless d rule.Range address ∷ []) ≡ None
four_none true true true true address ha hb hc hd = refl
four_none true true true false address ha hb hc hd = absurd cc
four_none true true false d address ha hb hc hd = absurd cc
four_none true false c d address ha hb hc hd = absurd cc
four_none false b c d address ha hb hc hd = absurd cc

pub form_parts : (super : Super) (expected : Expected) (address : ℕ) (node : Node)
    → form_failure Files super expected address node ≡ None → KeepsForm super expected node
unfolding way_failure
form_parts super expected address node none =
    let begins = begins_at expected.from (own_keys node) in
    let ends = ends_before expected.to (own_keys node) in
    let two = neither (way_failure Files super expected address node)
    (shape_failure super.nodesize expected address node) none in
    let four = four_parts (is_told expected.level (header_of node).level) (is_owner Files (header_of node).owner)
    (is_generation super.generation expected.generation (header_of node).generation) (begins && ends) address two.0 in
    let range = and_parts begins ends four.3 in
    record {
      level = four.0;
      owner = four.1;
      generation = four.2;
      begins = range.0;
      ends = range.1;
      shaped = kept-none (is_shaped super.nodesize expected.from node) rule.Shape address two.1;
    }

pub form_whole : (super : Super) (expected : Expected) (address : ℕ) (node : Node) → KeepsForm super expected node
    → form_failure Files super expected address node ≡ None
unfolding way_failure
form_whole super expected address node keeps =
    let begins = begins_at expected.from (own_keys node) in
    let ends = ends_before expected.to (own_keys node) in
    none_of_two (way_failure Files super expected address node) (shape_failure super.nodesize expected address node)
    (four_none (is_told expected.level (header_of node).level) (is_owner Files (header_of node).owner)
    (is_generation super.generation expected.generation (header_of node).generation)
    (begins && ends) address keeps.level keeps.owner keeps.generation
    (and_from begins ends keeps.begins keeps.ends))
    (rw keeps.shaped refl)

-- ---- the first key

begins_so : (from first : Option Key) (keys : List Key) → is_ascending keys ≡ true → first ≡ slice_get keys 0
    → begins_by from first ≡ true → begins_at from keys ≡ true
begins_so None first keys ascending is h = refl
begins_so (Some from) None keys ascending is h = absurd cc
begins_so (Some from) (Some key) keys ascending is h = begins_at-first from key keys ascending (sym is) ∙ h

first_so : (from : Key) (first : Option Key) (keys : List Key) → first ≡ slice_get keys 0
    → begins_by (Some from) first ≡ true → is_first from keys ≡ true
first_so from None keys is h = absurd cc
first_so from (Some key) [] is h = absurd cc
first_so from (Some key) (next ∷ keys) is h = ap (λ (k : Key). same_key k from) (sym (same_Some key next is)) ∙ h

first_only : (from : Key) (first : Option Key) (keys : List Key) → first ≡ slice_get keys 0 → is_first from keys ≡ true
    → begins_by (Some from) first ≡ true
first_only from first [] is h = absurd cc
first_only from first (next ∷ keys) is h = ap (begins_by (Some from)) is ∙ h

-- ---- the shape

shaped_so : (nodesize : ℕ) (from : Option Key) (node : Node) (digest : Digest) → IsDigestOf nodesize node digest
    → begins_by from digest.first ≡ true
    → has_shape from digest ≡ true → is_shaped nodesize from node ≡ true
unfolding is_shaped
shaped_so nodesize None node digest told begins h = sym told.root ∙ h
shaped_so nodesize (Some from) node digest told begins h =
    and_from (nat_le (capacity nodesize) (4 * used_bytes node)) (is_first from (own_keys node)) (sym told.quarter ∙ h)
    (first_so from digest.first (own_keys node) told.first begins)

shaped_only : (nodesize : ℕ) (from : Option Key) (node : Node) (digest : Digest) → IsDigestOf nodesize node digest
    → is_shaped nodesize from node ≡ true
    → (begins_by from digest.first ≡ true) × (has_shape from digest ≡ true)
unfolding is_shaped
shaped_only nodesize None node digest told h = (refl, told.root ∙ h)
shaped_only nodesize (Some from) node digest told h =
    let parts = and_parts (nat_le (capacity nodesize) (4 * used_bytes node)) (is_first from (own_keys node)) h in
    (first_only from digest.first (own_keys node) told.first parts.1, told.quarter ∙ parts.0)

-- ---- the node alone

pub fits_form : (super : Super) (node : Node) (digest : Digest) (given expected : Expected)
    → IsDigestOf super.nodesize node digest → is_ascending (own_keys node) ≡ true
    → KeepsForm super given node → fits_alone expected digest ≡ true → ends_before expected.to (own_keys node) ≡ true
    → KeepsForm super expected node
fits_form super node digest given expected told ascending keeps fit ends =
    let level = is_told expected.level digest.level in
    let generation = is_told expected.generation digest.generation in
    let begins = begins_by expected.from digest.first in
    let shape = has_shape expected.from digest in
    let header = header_of node in
    let three = and_parts (level && generation && begins) shape fit in
    let two = and_parts (level && generation) begins three.0 in
    let one = and_parts level generation two.0 in
    let old = and_parts (is_told given.generation header.generation && nat_lt 0 header.generation)
    (nat_le header.generation super.generation) keeps.generation in
    let made = and_parts (is_told given.generation header.generation) (nat_lt 0 header.generation) old.0 in
    record {
      level = ap (is_told expected.level) (sym told.level) ∙ one.0;
      owner = keeps.owner;
      generation =
          and_from (is_told expected.generation header.generation && nat_lt 0 header.generation)
          (nat_le header.generation super.generation)
          (and_from (is_told expected.generation header.generation) (nat_lt 0 header.generation)
          (ap (is_told expected.generation) (sym told.generation) ∙ one.1) made.1) old.1;
      begins = begins_so expected.from digest.first (own_keys node) ascending told.first two.1;
      ends = ends;
      shaped = shaped_so super.nodesize expected.from node digest told two.1 three.1;
    }

pub form_fits : (super : Super) (node : Node) (digest : Digest) (expected : Expected)
    → IsDigestOf super.nodesize node digest → KeepsForm super expected node
    → fits_alone expected digest ≡ true
form_fits super node digest expected told keeps =
    let level = is_told expected.level digest.level in
    let generation = is_told expected.generation digest.generation in
    let begins = begins_by expected.from digest.first in
    let shape = has_shape expected.from digest in
    let header = header_of node in
    let old = and_parts (is_told expected.generation header.generation && nat_lt 0 header.generation)
    (nat_le header.generation super.generation) keeps.generation in
    let made = and_parts (is_told expected.generation header.generation) (nat_lt 0 header.generation) old.0 in
    let both = shaped_only super.nodesize expected.from node digest told keeps.shaped in
    and_from (level && generation && begins) shape
    (and_from (level && generation) begins
    (and_from level generation (ap (is_told expected.level) told.level ∙ keeps.level)
    (ap (is_told expected.generation) told.generation ∙ made.0)) both.0) both.1

-- ---- the last key of a leaf

last_none : (keys : List Key) → None ≡ slice_get keys (length keys - 1) → keys ≡ []
last_none [] is = refl
last_none (key ∷ keys) is =
    let within : length (key ∷ keys) - 1 < length (key ∷ keys) = omega arith in
    absurd (none-some (get_or (key ∷ keys) (length (key ∷ keys) - 1) key) (is
    ∙ slice_get-get_or (key ∷ keys) (length (key ∷ keys) - 1) key within))

pub leaf_ends : (to last : Option Key) (keys : List Key) → is_ascending keys ≡ true
    → last ≡ slice_get keys (length keys - 1) → ends_by to last ≡ ends_before to keys
leaf_ends to None keys ascending is = rw (last_none keys is) (sym (ends_before-each to []))
leaf_ends None (Some last) keys ascending is = refl
leaf_ends (Some to) (Some last) keys ascending is = sym (ends_before-last to last keys ascending (sym is))
