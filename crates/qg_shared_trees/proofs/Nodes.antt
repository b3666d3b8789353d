-- The nodes of trees as a layout: a table by slot.
use Rattle.std.proofs.Common.{◌≡◌, ℕ, zero, suc, ◌+◌, ◌-◌, ◌/◌, ◌<◌, ◌≤◌, Bool, true, false, List, [], ◌∷◌, length}
use Rattle.std.proofs.Common.{get_or, Option, Some, None, arith, refl, sym, ap, subst, ◌∙◌, inl, inr}
use Rattle.std.specs.Prelude.{IsTrue, nat_lt, if◌then◌else◌}
use Rattle.std.specs.List.{Contains, cons_option, filter_map, list_any}
use Rattle.std.specs.List.Sorted.{IsStrictlyIncreasing}
use Rattle.std.specs.Option.{option_map}
use Rattle.std.proofs.Math.Nat.{add-mul}
use Rattle.std.proofs.lemmas.Bool.{lt-ltb, ltb-true}
use Rattle.std.proofs.lemmas.Bool.Decides.{eqb_tells}
use Rattle.qg_device.specs.History.{History}
use Rattle.qg_node.specs.declared.node.Node.{Node}
use Rattle.qg_super.specs.declared.sizes.Sizes.{Sizes}
use Rattle.qg_super.specs.Places.{is_slot, slot_at, slots_begin}
use Rattle.qg_super.proofs.Slots.{IsSlotAt-is_slot}
use Rattle.qg_image.specs.Table.{keys_of, value_at}
use Rattle.qg_image.specs.State.{Placed, node_at}
use Rattle.qg_image.proofs.Contained.{contains_cases, contains_here, contains_later, none_contained}
use Rattle.qg_owner_rule.proofs.Reaching.{entry_of_value, value_of_entry}
use Rattle.qg_space.proofs.Members.{one_passes, passes_one}
use Rattle.qg_refs.specs.Book.{full_in}
use Rattle.qg_extents.specs.Table.{book_of}
use Rattle.qg_shared_trees.specs.Tree.{Root}
use Rattle.qg_fs_tree.proofs.Ways.{ways-some}
use Rattle.qg_fs_tree.specs.declared.fs_tree.FsTree.{FsTree}
use Rattle.qg_fs_tree.specs.Standing.{IsReachedBy, every_slot, layout_in, nodes_of, placed_at, trees_of, ways_in}
use Rattle.qg_fs_tree.proofs.Places.{slots_from}
use Rattle.qg_fs_tree.proofs.Reached.{reached-some}
use Rattle.qg_fs_tree.proofs.Lists.{from-some, made-some}
use Rattle.qg_shared_trees.specs.Laying.{AreThoseReached, IsMet, IsMetAs, nodes_in}

-- ---- ascending numbers

increasing_cons : (n : ℕ) (ns : List ℕ) → ((m : ℕ) → Contains ns m → n < m) → IsStrictlyIncreasing ns
    → IsStrictlyIncreasing (n ∷ ns)
increasing_cons n [] less up = λ k short. absurd (omega (arith, short))
increasing_cons n (m ∷ ms) less up = λ k short. from k short where
  from : (k : ℕ) → k + 1 < length (n ∷ m ∷ ms) → get_or (n ∷ m ∷ ms) k 0 < get_or (n ∷ m ∷ ms) (k + 1) 0
  from zero short = less m (contains_here m ms)
  from (suc k) short =
      let next : suc (k + 1) ≡ suc k + 1 = omega arith in
      subst (λ (j : ℕ). get_or (m ∷ ms) k 0 < get_or (n ∷ m ∷ ms) j 0) next (up k (omega (arith, short)))

-- ---- entries by slots

module _ (sizes : Sizes) (some : 0 < sizes.nodesize) where
  next_slot : (from : ℕ) → slot_at sizes from < slot_at sizes (from + 1)
  next_slot from = let product = add-mul from 1 sizes.nodesize in omega (arith, product, some)

  in_slots : (k from count : ℕ) → from ≤ k → k < from + count → Contains (slots_from sizes from count) (slot_at sizes k)
  in_slots k from zero low high = absurd (omega (arith, low, high))
  in_slots k from (suc count) low high = elim (eqb_tells k from) [
    | inl (equal, same) ↦
        subst (λ (j : ℕ). Contains (slots_from sizes from (suc count)) (slot_at sizes j)) (sym same)
        (contains_here (slot_at sizes from) (slots_from sizes (from + 1) count))
    | inr (unequal, differ) ↦
        contains_later (slot_at sizes from) (slots_from sizes (from + 1) count) (slot_at sizes k)
        (in_slots k (from + 1) count (omega (arith, low, differ)) (omega (arith, high)))
  ]

  pub slot-there : (at : ℕ) → is_slot sizes at ≡ true → Contains (every_slot sizes) at
  slot-there at is =
      let slot = IsSlotAt-is_slot sizes at is in
      let short = slot.number in
      subst (λ (a : ℕ). Contains (every_slot sizes) a) slot.there
      (in_slots ((at - slots_begin) / sizes.nodesize) 0 sizes.slots (omega arith) (omega (arith, short)))

  module _ (placed : ℕ → Option (ℕ × Placed))
      (own : (s : ℕ) (entry : ℕ × Placed) → placed s ≡ Some entry → entry.0 ≡ s) where
    -- each lies no lower than the first slot
    lower_later : (from m : ℕ) (rest : List (ℕ × Placed))
        → (Contains (keys_of rest) m → slot_at sizes (from + 1) ≤ m) → (o : Option (ℕ × Placed))
        → placed (slot_at sizes from) ≡ o → Contains (keys_of (cons_option o rest)) m → slot_at sizes from ≤ m
    lower_later from m rest later None is has =
        let above = later has in
        let next = next_slot from in
        omega (arith, above, next)
    lower_later from m rest later (Some entry) is has = elim (contains_cases entry.0 (keys_of rest) m has) [
      | inl same ↦
          let there = own (slot_at sizes from) entry is in
          omega (arith, same, there)
      | inr behind ↦
          let above = later behind in
          let next = next_slot from in
          omega (arith, above, next)
    ]

    no_lower : (from count m : ℕ) → Contains (keys_of (filter_map placed (slots_from sizes from count))) m
        → slot_at sizes from ≤ m
    no_lower from zero m has = absurd (none_contained m has)
    no_lower from (suc count) m has =
        lower_later from m (filter_map placed (slots_from sizes (from + 1) count)) (no_lower (from + 1) count m)
        (placed (slot_at sizes from)) refl has

    ascend_later : (from : ℕ) (rest : List (ℕ × Placed))
        → ((m : ℕ) → Contains (keys_of rest) m → slot_at sizes (from + 1) ≤ m) → IsStrictlyIncreasing (keys_of rest)
        → (o : Option (ℕ × Placed)) → placed (slot_at sizes from) ≡ o
        → IsStrictlyIncreasing (keys_of (cons_option o rest))
    ascend_later from rest later up None is = up
    ascend_later from rest later up (Some entry) is = increasing_cons entry.0 (keys_of rest)
        (λ m has.
        let above = later m has in
        let next = next_slot from in
        let there = own (slot_at sizes from) entry is in
        omega (arith, above, next, there))
        up

    ascend_from : (from count : ℕ) → IsStrictlyIncreasing (keys_of (filter_map placed (slots_from sizes from count)))
    ascend_from from zero = λ k short. absurd (omega (arith, short))
    ascend_from from (suc count) =
        ascend_later from (filter_map placed (slots_from sizes (from + 1) count)) (no_lower (from + 1) count)
        (ascend_from (from + 1) count) (placed (slot_at sizes from)) refl

    pub slots-ascend : IsStrictlyIncreasing (keys_of (filter_map placed (every_slot sizes)))
    slots-ascend = ascend_from 0 sizes.slots

-- ---- one slot

-- what is placed at an address is told there, where it is met
record IsPlacedAs (led : Bool) (at : ℕ) (told : Option Node) (full : Bool) (entry : ℕ × Placed) : Type 0 where
  some : led ≡ true
  here : entry.0 ≡ at
  node : told ≡ Some entry.1.node
  mark : entry.1.full ≡ full

-- an entry for a node, with a mark
abbrev entry_for : ℕ → Bool → Node → ℕ × Placed
entry_for at full node = (at, record { node = node; full = full })

placed_as : (led : Bool) (at : ℕ) (told : Option Node) (full : Bool) (entry : ℕ × Placed)
    → (if led then option_map (entry_for at full) told else None) ≡ Some entry
    → IsPlacedAs led at told full entry
placed_as true at None full entry is = let wrong : None ≡ Some entry = is in cc
placed_as true at (Some node) full entry is =
    let same : entry_for at full node ≡ entry = let e : Some (entry_for at full node) ≡ Some entry = is in cc in
    record {
      some = refl;
      here = ap (λ (e : ℕ × Placed). e.0) (sym same);
      node = ap (λ (e : ℕ × Placed). Some e.1.node) same;
      mark = ap (λ (e : ℕ × Placed). e.1.full) (sym same);
    }
placed_as false at told full entry is = let wrong : None ≡ Some entry = is in cc

as_placed : (led : Bool) (at : ℕ) (told : Option Node) (full : Bool) (placed : Placed) → led ≡ true
    → told ≡ Some placed.node → placed.full ≡ full
    → (if led then option_map (entry_for at full) told else None) ≡ Some (at, placed)
as_placed led at told full placed some there mark =
    ap (λ (b : Bool). if b then option_map (entry_for at full) told else None) some
    ∙ ap (λ (o : Option Node). option_map (entry_for at full) o) there
    ∙ ap (λ (b : Bool). Some (entry_for at b placed.node)) (sym mark)

-- ---- the layout

module _ (fs : FsTree) (history : History) where
  -- ways lead to an address in a tree
  abbrev leads : ℕ → Root → Bool
  leads q tree = nat_lt 0 (ways_in fs history tree q)

  pub nodes-are : nodes_in fs history ≡ filter_map (placed_at fs history) (every_slot fs.land.space.sizes)
  unfolding layout_in
  nodes-are = refl

  pub tree-way : (tree : Root) (q : ℕ) → IsReachedBy fs history tree q → 0 < ways_in fs history tree q
  tree-way tree q reaches = ways-some (nodes_of fs history) tree.height tree.address q reaches

  pub way-tree : (tree : Root) (q : ℕ) → 0 < ways_in fs history tree q → IsReachedBy fs history tree q
  way-tree tree q some = reached-some (nodes_of fs history) tree.height tree.address q some

  met_some : (q : ℕ) → list_any (leads q) (trees_of fs) ≡ true → IsMet fs history q
  met_some q led =
      let found = one_passes (leads q) (trees_of fs) led in
      record {
        tree = found.0;
        among = found.1;
        reached = way-tree found.0 q (ltb-true 0 (ways_in fs history found.0 q) found.2);
      }

  some_met : (q : ℕ) → IsMet fs history q → list_any (leads q) (trees_of fs) ≡ true
  some_met q met =
      passes_one (leads q) (trees_of fs) met.tree met.among
      (lt-ltb 0 (ways_in fs history met.tree q) (tree-way met.tree q met.reached))

  entry_as : (s : ℕ) (entry : ℕ × Placed) → placed_at fs history s ≡ Some entry
      → IsPlacedAs (list_any (leads s) (trees_of fs)) s (nodes_of fs history s) (full_in (book_of fs.refs.refs s)) entry
  entry_as s entry is = placed_as (list_any (leads s) (trees_of fs)) s
      (nodes_of fs history s) (full_in (book_of fs.refs.refs s)) entry is

  pub reached-by : (q : ℕ) (placed : Placed) → value_at q (nodes_in fs history) ≡ Some placed
      → IsMetAs fs history q placed
  reached-by q placed is =
      let there = subst (λ (table : List (ℕ × Placed)). Contains table (q, placed)) nodes-are
      (entry_of_value q placed (nodes_in fs history) is) in
      let found = from-some (placed_at fs history) (every_slot fs.land.space.sizes) (q, placed) there in
      let there_as = entry_as found.0 (q, placed) found.2 in
      let same : found.0 ≡ q = sym there_as.here in
      record {
        met = subst (λ (s : ℕ). IsMet fs history s) same (met_some found.0 there_as.some);
        told = ap (nodes_of fs history) there_as.here ∙ there_as.node;
        full = there_as.mark ∙ ap (λ (s : ℕ). full_in (book_of fs.refs.refs s)) same;
      }

  module _ (some : 0 < fs.land.space.sizes.nodesize)
      (slots : (q : ℕ) → IsMet fs history q → IsTrue (is_slot fs.land.space.sizes q)) where
    pub nodes-ascend : IsStrictlyIncreasing (keys_of (nodes_in fs history))
    nodes-ascend = subst (λ (table : List (ℕ × Placed)). IsStrictlyIncreasing (keys_of table)) (sym nodes-are)
        (slots-ascend fs.land.space.sizes some (placed_at fs history) (λ s entry is. (entry_as s entry is).here))

    pub value-reached : (q : ℕ) (placed : Placed) → IsMetAs fs history q placed
        → value_at q (nodes_in fs history) ≡ Some placed
    value-reached q placed is =
        let entry = as_placed (list_any (leads q) (trees_of fs)) q (nodes_of fs history q)
        (full_in (book_of fs.refs.refs q)) placed (some_met q is.met) is.told is.full in
        let has = made-some (placed_at fs history) (every_slot fs.land.space.sizes) q (q, placed)
        (slot-there fs.land.space.sizes some q (slots q is.met)) entry in
        value_of_entry (nodes_in fs history) (q, placed) nodes-ascend
        (subst (λ (table : List (ℕ × Placed)). Contains table (q, placed)) (sym nodes-are) has)

    told_by : (q : ℕ) (node : Node) (o : Option Placed) → value_at q (nodes_in fs history) ≡ o
        → option_map (λ (placed : Placed). placed.node) o ≡ Some node
        → IsMet fs history q × (nodes_of fs history q ≡ Some node)
    told_by q node None is there = absurd cc
    told_by q node (Some placed) is there =
        let same : placed.node ≡ node = cc in
        let found = reached-by q placed is in
        (found.met, found.told ∙ ap (λ (n : Node). Some n) same)

    by_told : (q : ℕ) (node : Node) → IsMet fs history q × (nodes_of fs history q ≡ Some node)
        → node_at (nodes_in fs history) q ≡ Some node
    by_told q node is =
        ap (option_map (λ (placed : Placed). placed.node))
        (value-reached q (record { node = node; full = full_in (book_of fs.refs.refs q) })
        (record { met = is.0; told = is.1; full = refl }))

    pub those-reached : AreThoseReached fs history
    those-reached = record {
      ascending = nodes-ascend;
      among = λ q placed. (reached-by q placed, value-reached q placed);
      told = λ q node. (told_by q node (value_at q (nodes_in fs history)) refl, by_told q node);
      ways = λ tree q. (tree-way tree q, way-tree tree q);
    }
