-- What stands of a subvolume's book, of nodes and of space once each address has come, gone or stayed.
use Rattle.std.proofs.Common.{◌≡◌, ◌≢◌, ℕ, ◌<◌, ◌≤◌, Bool, true, false, List, [], ◌∷◌, length, Option, Some, None}
use Rattle.std.proofs.Common.{arith, refl, sym, ap, subst, ◌∙◌, inl, inr}
use Rattle.std.specs.Prelude.{◌⊎◌, IsSome, IsTrue, Contains, nat_lt}
use Rattle.std.proofs.lemmas.Bool.{lt-ltb, ltb-true}
use Rattle.qg_device.specs.History.{History}
use Rattle.qg_node.specs.declared.node.Node.{Node}
use Rattle.qg_node.specs.Nodes.{header_of}
use Rattle.qg_super.specs.declared.sizes.Sizes.{Sizes}
use Rattle.qg_super.specs.Places.{is_slot}
use Rattle.qg_node_alloc.specs.NodesFound.{fresh_at, told, told_or}
use Rattle.qg_space.specs.Holding.{has_slot}
use Rattle.qg_node_alloc.specs.declared.ground.Ground.{Ground}
use Rattle.qg_refs.specs.declared.kept.What.{What}
use Rattle.qg_refs.specs.Book.{what_in}
use Rattle.qg_weighed.specs.Table.{book_of}
use Rattle.qg_tree_backrefs.specs.declared.tree_refs.TreeRefs.{TreeRefs}
use Rattle.qg_tree_backrefs.specs.Following.{references_to}
use Rattle.qg_tree_backrefs.specs.Settled.{IsSettled, what_of}

-- a node came to a slot: it is fresh, known and referred to, and the slot is taken
pub record HasCome (book : TreeRefs) (land : Ground) (at : ℕ) : Type 0 where
  pub taken : has_slot land.space at ≡ true
  pub referred : 0 < references_to (book_of book.refs) at
  pub mine : Node
  pub here : fresh_at land.blocks.draft at ≡ Some mine
  pub known : what_in (book_of book.refs at) ≡ Some (what_of book.nodesize book.next mine)

-- what lay there went: no reference leads there, nothing is known of it, it is not fresh, and its slot is not taken
pub record HasGone (book : TreeRefs) (land : Ground) (at : ℕ) : Type 0 where
  pub given : has_slot land.space at ≡ false
  pub none : references_to (book_of book.refs) at ≡ 0
  pub unknown : what_in (book_of book.refs at) ≡ None
  pub clean : fresh_at land.blocks.draft at ≡ None

-- it stayed: what is known, whether references lead there and whether its slot is taken is as it was, and it is fresh
-- where it was, with
-- the same level
pub record HasStayed (before after : TreeRefs) (old new : Ground) (at : ℕ) : Type 0 where
  pub slot : has_slot new.space at ≡ has_slot old.space at
  pub referred : nat_lt 0 (references_to (book_of after.refs) at) ≡ nat_lt 0 (references_to (book_of before.refs) at)
  pub known : what_in (book_of after.refs at) ≡ what_in (book_of before.refs at)
  pub fresh : (node : Node) → fresh_at new.blocks.draft at ≡ Some node
      → (was : Node) × (fresh_at old.blocks.draft at ≡ Some was) × ((header_of was).level ≡ (header_of node).level)
  pub still : IsSome (fresh_at old.blocks.draft at) → IsSome (fresh_at new.blocks.draft at)

no_some : (o : Option Node) → o ≡ None → IsSome o → ⊥
no_some None none some = absurd cc
no_some (Some node) none some = cc

none_if : (old new : Option Node) → new ≡ None → (IsSome old → IsSome new) → old ≡ None
none_if None new none still = refl
none_if (Some node) new none still = absurd (no_some new none (still refl))

some_is : (o : Option Node) (node : Node) → o ≡ Some node → IsSome o
some_is None node is = cc
some_is (Some other) node is = refl

told_alike : (a b : Option Node) (sizes others : Sizes) (history : History) (q : ℕ) → a ≡ None → b ≡ None
    → others ≡ sizes → told_or b others history q ≡ told_or a sizes history q
told_alike a b sizes others history q first last same =
    ap (λ (o : Option Node). told_or o others history q) last
    ∙ ap (λ (s : Sizes). told_or None s history q) same
    ∙ sym (ap (λ (o : Option Node). told_or o sizes history q) first)

pub told-clean : (old new : Ground) (history : History) (q : ℕ)
    → new.blocks.draft.sizes ≡ old.blocks.draft.sizes → fresh_at old.blocks.draft q ≡ None
    → fresh_at new.blocks.draft q ≡ None → told new.blocks.draft history q ≡ told old.blocks.draft history q
unfolding told
told-clean old new history q sizes first last =
    told_alike (fresh_at old.blocks.draft q) (fresh_at new.blocks.draft q) old.blocks.draft.sizes new.blocks.draft.sizes
    history q first last sizes

referred_as : (n m : ℕ) → nat_lt 0 n ≡ nat_lt 0 m → 0 < n → 0 < m
referred_as n m same some = ltb-true 0 m (sym same ∙ lt-ltb 0 n some)

module _ (before after : TreeRefs) (old new : Ground) (history : History)
    (settled : IsSettled before old history)
    (nodesize : after.nodesize ≡ before.nodesize) (next : after.next ≡ before.next)
    (sizes : new.space.sizes ≡ old.space.sizes) (node_sizes : new.blocks.draft.sizes ≡ old.blocks.draft.sizes)
    (held : new.space.held_slots ≡ old.space.held_slots)
    (each : (q : ℕ) → HasCome after new q ⊎ (HasGone after new q ⊎ HasStayed before after old new q)) where
  slots_then : (at : ℕ) → IsTrue (is_slot new.space.sizes at)
      → has_slot new.space at ≡ nat_lt 0 (references_to (book_of after.refs) at)
  slots_then at slot = elim (each at) [
    | inl came ↦ came.taken ∙ sym (lt-ltb 0 (references_to (book_of after.refs) at) came.referred)
    | inr (inl gone) ↦ gone.given ∙ sym (ap (λ (n : ℕ). nat_lt 0 n) gone.none)
    | inr (inr stayed) ↦
        stayed.slot ∙ settled.slots at (subst (λ (s : Sizes). IsTrue (is_slot s at)) sizes slot) ∙ sym stayed.referred
  ]

  written_then : (at : ℕ) → IsTrue (has_slot new.space at)
      → IsSome (fresh_at new.blocks.draft at) ⊎ Contains new.space.held_slots at
  written_then at has = elim (each at) [
    | inl came ↦ inl (some_is (fresh_at new.blocks.draft at) came.mine came.here)
    | inr (inl gone) ↦ let wrong : true ≡ false = sym has ∙ gone.given in absurd (never wrong)
    | inr (inr stayed) ↦ elim (settled.written at (sym stayed.slot ∙ has)) [
      | inl fresh ↦ inl (stayed.still fresh)
      | inr there ↦ inr (subst (λ (list : List ℕ). Contains list at) (sym held) there)
    ]
  ]
    where
      never : true ≡ false → ⊥
      never wrong = cc

  fresh_then : (at : ℕ) (node : Node) → fresh_at new.blocks.draft at ≡ Some node
      → what_in (book_of after.refs at) ≡ Some (what_of after.nodesize after.next node)
  fresh_then at node there = elim (each at) [
    | inl came ↦
        let same : Some came.mine ≡ Some node = sym came.here ∙ there in
        let one : came.mine ≡ node = cc in
        came.known ∙ ap (λ (n : Node). Some (what_of after.nodesize after.next n)) one
    | inr (inl gone) ↦ let wrong : None ≡ Some node = sym gone.clean ∙ there in absurd (never wrong)
    | inr (inr stayed) ↦
        let was = stayed.fresh node there in
        stayed.known ∙ settled.fresh at was.0 was.1
        ∙ ap (λ (n : ℕ). Some (record { bytes = n; level = Some (header_of was.0).level; generation = before.next }))
        (sym nodesize)
        ∙ ap (λ (n : ℕ). Some
        (record { bytes = after.nodesize; level = Some (header_of was.0).level; generation = n })) (sym next)
        ∙ ap (λ (n : ℕ). Some (record { bytes = after.nodesize; level = Some n; generation = after.next })) was.2
  ]
    where
      never : None ≡ Some node → ⊥
      never wrong = cc

  newer_then : (at level : ℕ)
      → what_in (book_of after.refs at)
      ≡ Some (record { bytes = after.nodesize; level = Some level; generation = after.next })
      → IsSome (fresh_at new.blocks.draft at)
  newer_then at level known = elim (each at) [
    | inl came ↦ some_is (fresh_at new.blocks.draft at) came.mine came.here
    | inr (inl gone) ↦ absurd (never (sym gone.unknown ∙ known))
    | inr (inr stayed) ↦
        stayed.still (settled.newer at level (sym stayed.known ∙ known
        ∙ ap (λ (n : ℕ). Some (record { bytes = n; level = Some level; generation = after.next })) nodesize
        ∙ ap (λ (n : ℕ). Some (record { bytes = before.nodesize; level = Some level; generation = n })) next))
  ]
    where
      never : ◌≡◌ {A = Option What} None
          (Some (record { bytes = after.nodesize; level = Some level; generation = after.next })) → ⊥
      never wrong = cc

  clean_then : (at : ℕ) (node : Node) → fresh_at new.blocks.draft at ≡ None → told new.blocks.draft history at
      ≡ Some node
      → 0 < references_to (book_of after.refs) at
      → what_in (book_of after.refs at) ≡ Some (what_of after.nodesize (header_of node).generation node)
  clean_then at node none there some = elim (each at) [
    | inl came ↦ let wrong : None ≡ Some came.mine = sym none ∙ came.here in absurd (never came.mine wrong)
    | inr (inl gone) ↦ let zero_is = gone.none in absurd (omega (arith, zero_is, some))
    | inr (inr stayed) ↦
        let was = none_if (fresh_at old.blocks.draft at) (fresh_at new.blocks.draft at) none stayed.still in
        stayed.known
        ∙ settled.clean at node was (sym (told-clean old new history at node_sizes was none) ∙ there)
        (referred_as (references_to (book_of after.refs) at) (references_to (book_of before.refs) at) stayed.referred
        some)
        ∙ ap (λ (n : ℕ). Some
        (record { bytes = n; level = Some (header_of node).level; generation = (header_of node).generation }))
        (sym nodesize)
  ]
    where
      never : (mine : Node) → None ≡ Some mine → ⊥
      never mine wrong = cc

  pub IsSettled-each : IsSettled after new history
  IsSettled-each = record {
    slots = slots_then;
    written = written_then;
    fresh = fresh_then;
    newer = newer_then;
    clean = clean_then;
  }
