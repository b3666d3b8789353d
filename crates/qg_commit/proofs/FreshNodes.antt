-- The fresh nodes in the order of their addresses.
use Rattle.std.proofs.Common.{◌≡◌, ℕ, zero, suc, ◌+◌, ◌<◌, get_or, Bool, List, [], ◌∷◌, map, length, drop, Some, arith}
use Rattle.std.proofs.Common.{refl, sym, ap, subst, ◌∙◌, inl, inr}
use Rattle.std.specs.Prelude.{slice_index}
use Rattle.std.specs.BTreeMap.{is_at}
use Rattle.std.specs.Cmp.{eq_by_cmp_equiv, nat_cmp_total}
use Rattle.std.specs.List.{Contains}
use Rattle.std.specs.List.Sorted.{IsStrictlySortedBy}
use Rattle.std.specs.Map.{keys_of, lookup, values_of}
use Rattle.std.specs.Ordering.{nat_cmp}
use Rattle.std.proofs.lemmas.Bool.{cases_Bool, cond-false, cond-true}
use Rattle.std.proofs.lemmas.Map.Keys.{IsDistinct-from_sorted}
use Rattle.std.proofs.lemmas.Map.Views.{lookup-from_Contains}
use Rattle.qg_node.specs.declared.node.Node.{Node}
use Rattle.qg_super.specs.declared.sizes.Sizes.{Sizes}
use Rattle.qg_image.proofs.Contained.{contains_cases, contains_here, contains_later, none_contained}
use Rattle.qg_blocks.specs.NodesInMemory.{Draft, Held}
use Rattle.qg_blocks.specs.NodesFound.{fresh_at, held_at}
use Rattle.qg_blocks.proofs.Telling.{fresh-held}
use Rattle.qg_tree_layout.specs.Row.{address_of}
use Rattle.qg_commit.specs.Writing.{AreWritable, IsWritableAt, fresh_nodes}

-- ---- entries and their values

has_value : (es : List (ℕ × Node)) (e : ℕ × Node) → Contains es e → Contains (values_of es) e.1
has_value [] e has = absurd (none_contained e has)
has_value (first ∷ es) e has = elim (contains_cases first es e has) [
  | inl same ↦
      subst (λ (one : ℕ × Node). Contains (first.1 ∷ values_of es) one.1) same (contains_here first.1 (values_of es))
  | inr later ↦ contains_later first.1 (values_of es) e.1 (has_value es e later)
]

value_has : (es : List (ℕ × Node)) (node : Node) → Contains (values_of es) node
    → (e : ℕ × Node) × Contains es e × (e.1 ≡ node)
value_has [] node has = absurd (none_contained node has)
value_has (first ∷ es) node has = elim (contains_cases first.1 (values_of es) node has) [
  | inl same ↦ (first, contains_here first es, same)
  | inr later ↦ let found = value_has es node later in (found.0, contains_later first es found.0 found.1, found.2)
]

found_value : (test : ℕ → Bool) (es : List (ℕ × Node)) (node : Node) → lookup test es ≡ Some node
    → Contains (values_of es) node
found_value test [] node is = absurd cc
found_value test (e ∷ es) node is = elim (cases_Bool (test e.0)) [
  | inl passes ↦
      let there : Some e.1 ≡ Some node = sym (cond-true (test e.0) (Some e.1) (lookup test es) passes) ∙ is in
      let same : e.1 ≡ node = cc in
      subst (λ (one : Node). Contains (e.1 ∷ values_of es) one) same (contains_here e.1 (values_of es))
  | inr fails ↦
      let later = sym (cond-false (test e.0) (Some e.1) (lookup test es) fails) ∙ is in
      contains_later e.1 (values_of es) node (found_value test es node later)
]

mapped_keys : (es : List (ℕ × Node)) → ((e : ℕ × Node) → Contains es e → address_of e.1 ≡ e.0)
    → map address_of (values_of es) ≡ keys_of es
mapped_keys [] each = refl
mapped_keys (e ∷ es) each =
    ap (λ (n : ℕ). n ∷ map address_of (values_of es)) (each e (contains_here e es))
    ∙ ap (λ (ns : List ℕ). e.0 ∷ ns) (mapped_keys es (λ later has. each later (contains_later e es later has)))

-- ---- those that are fresh

module _ (draft : Draft) (ascending : IsStrictlySortedBy nat_cmp (keys_of draft.fresh)) where
  entry_fresh : (e : ℕ × Node) → Contains draft.fresh e → fresh_at draft e.0 ≡ Some e.1
  entry_fresh e has =
      lookup-from_Contains (eq_by_cmp_equiv nat_cmp_total) e.0 e.1 draft.fresh
      (IsDistinct-from_sorted nat_cmp (keys_of draft.fresh) ascending) has

  -- the entry at a place is found by its address
  entry_there : (k : ℕ) → k < length draft.fresh → (d : ℕ × Node)
      → fresh_at draft (get_or draft.fresh k d).0 ≡ Some (get_or draft.fresh k d).1
  entry_there k below d = entry_fresh (get_or draft.fresh k d) (k, below, default_free draft.fresh k d below) where
    default_free : (es : List (ℕ × Node)) (k : ℕ) (d : ℕ × Node) → k < length es
        → get_or es k (get_or es k d) ≡ get_or es k d
    default_free [] k d below = absurd (omega arith)
    default_free (e ∷ es) zero d below = refl
    default_free (e ∷ es) (suc k) d below = default_free es k d (omega arith)

  module _ (sizes : Sizes) (writable : AreWritable sizes draft) where
    entry_writable : (e : ℕ × Node) → Contains draft.fresh e → IsWritableAt sizes e.0 e.1
    entry_writable e has = writable.each e.0 e.1 (entry_fresh e has)

    -- each of them is the fresh one where it lies
    pub fresh-there : (node : Node) → Contains (fresh_nodes draft) node → fresh_at draft (address_of node) ≡ Some node
    fresh-there node has =
        let found = value_has draft.fresh node has in
        let named : address_of found.0.1 ≡ found.0.0 = (entry_writable found.0 found.1).kept.placed in
        let named' : address_of node ≡ found.0.0 = ap address_of (sym found.2) ∙ named in
        ap (fresh_at draft) named' ∙ entry_fresh found.0 found.1 ∙ ap (λ (n : Node). Some n) found.2

    pub fresh-writable : (node : Node) → Contains (fresh_nodes draft) node → IsWritableAt sizes (address_of node) node
    fresh-writable node has = writable.each (address_of node) node (fresh-there node has)

    -- their addresses are those of the table
    pub fresh-addresses : map address_of (fresh_nodes draft) ≡ keys_of draft.fresh
    fresh-addresses = mapped_keys draft.fresh (λ e has. (entry_writable e has).kept.placed)

  -- each fresh node is one of them
  pub fresh-listed : (at : ℕ) (node : Node) → fresh_at draft at ≡ Some node → Contains (fresh_nodes draft) node
  fresh-listed at node is = found_value (is_at (nat_cmp at)) draft.fresh node is

-- ---- one after the other

key_at : (es : List (ℕ × Node)) (k : ℕ) (d : ℕ × Node) → k < length es → slice_index (keys_of es) k ≡ (get_or es k d).0
key_at [] k d below = absurd (omega arith)
key_at (e ∷ es) zero d below = refl
key_at (e ∷ es) (suc k) d below = key_at es k d (omega arith)

value_from : (es : List (ℕ × Node)) (k : ℕ) (d : ℕ × Node) → k < length es
    → drop k (values_of es) ≡ (get_or es k d).1 ∷ drop (k + 1) (values_of es)
value_from [] k d below = absurd (omega arith)
value_from (e ∷ es) zero d below = refl
value_from (e ∷ es) (suc k) d below =
    let next : suc k + 1 ≡ suc (k + 1) = omega arith in
    rw next (value_from es k d (omega arith))

as_many : (es : List (ℕ × Node)) → length (keys_of es) ≡ length es
as_many [] = refl
as_many (e ∷ es) = ap suc (as_many es)

pub as_many-values : (es : List (ℕ × Node)) → length (values_of es) ≡ length (keys_of es)
as_many-values [] = refl
as_many-values (e ∷ es) = ap suc (as_many-values es)

-- the node in memory at the address at a place is the next one
pub next-fresh : (blocks : Held) (k at : ℕ) (node : Node) → IsStrictlySortedBy nat_cmp (keys_of blocks.draft.fresh)
    → k < length (keys_of blocks.draft.fresh) → at ≡ slice_index (keys_of blocks.draft.fresh) k
    → held_at blocks at ≡ Some node → drop k (fresh_nodes blocks.draft) ≡ node ∷ drop (k + 1) (fresh_nodes blocks.draft)
next-fresh blocks k at node ascending below there held =
    let es = blocks.draft.fresh in
    let many : k < length es = omega (arith, below, as_many es) in
    let d : ℕ × Node = (0, node) in
    let entry = get_or es k d in
    let at_is : at ≡ entry.0 = there ∙ key_at es k d many in
    let fresh : fresh_at blocks.draft at ≡ Some entry.1 = ap (fresh_at blocks.draft) at_is
    ∙ entry_there blocks.draft ascending k many d in
    let same : node ≡ entry.1 = fresh-held blocks at entry.1 node fresh held in
    value_from es k d many ∙ ap (λ (n : Node). n ∷ drop (k + 1) (values_of es)) (sym same)
