-- Trees that stand: what is fixed while the one at hand is edited, and that the book stands for its ways.
use Rattle.std.proofs.Common.{◌≡◌, ◌≢◌, ℕ, zero, suc, ◌<◌, ◌≤◌, Bool, true, false, List, [], ◌∷◌, ◌++◌, length, get_or}
use Rattle.std.proofs.Common.{Option, Some, None, arith, refl, sym, ap, subst, ◌∙◌, inl, inr}
use Rattle.std.specs.Prelude.{◌⊎◌, ◌==◌, ◌||◌, not, IsSome, IsTrue, if◌then◌else◌, nat_lt}
use Rattle.std.specs.List.{All, Contains}
use Rattle.std.proofs.lemmas.Bool.{and_parts, leb-true, lt-ltb, ltb-true}
use Rattle.std.proofs.lemmas.Bool.Decides.{eqb_tells}
use Rattle.std.proofs.lemmas.List.Elements.{Contains-append_left}
use Rattle.qg_device.specs.History.{History}
use Rattle.qg_num.specs.declared.piece.Piece.{Piece}
use Rattle.qg_node.specs.declared.item.Item.{Item}
use Rattle.qg_node.specs.declared.node.Node.{Node}
use Rattle.qg_node.specs.Nodes.{header_of}
use Rattle.qg_items.specs.declared.extent.Reference.{Reference}
use Rattle.qg_super.specs.declared.sizes.Sizes.{Sizes}
use Rattle.qg_super.specs.Places.{data_begin, is_run, is_slot}
use Rattle.qg_image.specs.State.{Placed}
use Rattle.qg_image.specs.Owed.{owed_by_node}
use Rattle.qg_image.proofs.Contained.{contains_cases, contains_here, contains_later, none_contained}
use Rattle.qg_image.specs.declared.tree.TreeKind.TheVariants.{Files}
use Rattle.qg_reach.proofs.SlotRule.{slot_below}
use Rattle.qg_blocks.specs.NodesFound.{fresh_at, told, told_or}
use Rattle.qg_space.specs.Holding.{has_slot}
use Rattle.qg_space.proofs.Members.{one_passes, passes_one}
use Rattle.qg_tree_edits.specs.Land.{IsDrafted}
use Rattle.qg_refs.specs.declared.counted.Counted.{Counted}
use Rattle.qg_refs.specs.Book.{references_at}
use Rattle.qg_extents.specs.Table.{book_of}
use Rattle.qg_tree_edits.specs.Tree.{Root}
use Rattle.qg_tree_edits.specs.Counting.{committed_at}
use Rattle.qg_tree_edits.specs.Rooting.{IsRooted}
use Rattle.qg_tree_edits.proofs.Committed.{committed-is}
use Rattle.qg_tree_edits.proofs.Ways.{ways-some}
use Rattle.qg_tree_backrefs.specs.Exchange.{times}
use Rattle.qg_tree_backrefs.specs.Following.{references_to}
use Rattle.qg_tree_backrefs.proofs.ReferenceTotals.{many, total}
use Rattle.qg_tree_backrefs.proofs.Owings.{times-cons}
use Rattle.qg_tree_backrefs.proofs.Times.{times-nil, times-own}
use Rattle.qg_fs_tree.specs.declared.fs_tree.FsTree.{FsTree}
use Rattle.qg_fs_tree.specs.Standing.{IsBeside, IsElsewhere, IsKnownExtent, IsReached, IsReachedBy, Stands, name_of}
use Rattle.qg_fs_tree.specs.Standing.{names_elsewhere, nodes_of, trees_of, ways_in}
use Rattle.qg_fs_tree.proofs.Beside.{around_of, beside_in, beside_of, elsewhere, foreign_in, foreign_of, mark_of}
use Rattle.qg_fs_tree.proofs.Beside.{own_ways, slots_of}
use Rattle.qg_fs_tree.proofs.Counts.{names-apart, node-there, once-there, owed-ways, single-way}
use Rattle.qg_fs_tree.proofs.Layouts.{owed_marked, owed_there}
use Rattle.qg_fs_tree.proofs.Owes.{owed_in}
use Rattle.qg_fs_tree.proofs.Owings.{names_of}
use Rattle.qg_fs_tree.proofs.Reached.{reached-some}
use Rattle.qg_fs_tree.proofs.SlotSums.{IsOnce}
use Rattle.qg_fs_tree.proofs.Turned.{AreCounted, Around, IsThere, total-is}

-- ---- marks

foreign_parts : (owner : ℕ) (node : Option Node) (full : Bool) (placed : Placed)
    → foreign_of owner node full ≡ Some placed
    → (node ≡ Some placed.node) × (placed.full ≡ full)
    × ((full || not ((header_of placed.node).owner == owner)) ≡ true)
foreign_parts owner None full placed is = let wrong : None ≡ Some placed = is in absurd cc
foreign_parts owner (Some node) full placed is =
    from (full || not ((header_of node).owner == owner)) refl is where
      from : (b : Bool) → (full || not ((header_of node).owner == owner)) ≡ b
          → (if b then Some (record { node = node; full = full }) else None) ≡ Some placed
          → (Some node ≡ Some placed.node) × (placed.full ≡ full)
          × ((full || not ((header_of placed.node).owner == owner)) ≡ true)
      from true test there =
          let node_is = ap (λ (o : Option Placed). option_node o) there in
          let full_is = ap (λ (o : Option Placed). option_full o full) there in
          let same : node ≡ placed.node = cc in
          (node_is, sym full_is, ap (λ (n : Node). full || not ((header_of n).owner == owner)) (sym same) ∙ test) where
            option_node : Option Placed → Option Node
            option_node None = None
            option_node (Some p) = Some p.node

            option_full : Option Placed → Bool → Bool
            option_full None b = b
            option_full (Some p) b = p.full
      from false test there = absurd cc

pub foreign_mark : (owner by : ℕ) (full mark : Bool) → full ≡ mark → (mark || not (by == owner)) ≡ true
    → (full ≡ true) ⊎ (by ≢ owner)
foreign_mark owner by full true same test = inl same
foreign_mark owner by full false same test = elim (eqb_tells by owner) [
  | inl (equal, is) ↦
      let wrong : false ≡ true = sym (ap not equal) ∙ test in
      absurd cc
  | inr (unequal, differ) ↦ inr differ
]

pub beside_mark : (owner by : ℕ) (full mark : Bool) → full ≡ (mark || (by == owner)) → (full ≡ true) ⊎ (by ≢ owner)
beside_mark owner by full true same = inl same
beside_mark owner by full false same = elim (eqb_tells by owner) [
  | inl (equal, is) ↦ inl (same ∙ equal)
  | inr (unequal, differ) ↦ inr differ
]

abbrev foreign_if : Bool → Node → Bool → Option Placed
foreign_if b node full = if b then Some (record { node = node; full = full }) else None

pub not_foreign : (owner : ℕ) (node : Option Node) (mine : Node) (full : Bool) → node ≡ Some mine
    → foreign_of owner node full ≡ None
    → (full ≡ false) × ((header_of mine).owner ≡ owner)
not_foreign owner None mine full is none = absurd cc
not_foreign owner (Some node) mine full is none =
    let same : node ≡ mine = cc in
    let found = from full ((header_of node).owner == owner) refl refl none in
    (found.0, ap (λ (n : Node). (header_of n).owner) (sym same) ∙ found.1) where
      is_owner : ((header_of node).owner == owner) ≡ true → (header_of node).owner ≡ owner
      is_owner equal = elim (eqb_tells (header_of node).owner owner) [
        | inl (as_is, same) ↦ same
        | inr (unequal, differ) ↦ let wrong : true ≡ false = sym equal ∙ unequal in absurd cc
      ]

      from : (f b : Bool) → full ≡ f → ((header_of node).owner == owner) ≡ b
          → foreign_if (f || not b) node full ≡ None
          → (full ≡ false) × ((header_of node).owner ≡ owner)
      from true b marked equal there = absurd cc
      from false true marked equal there = (marked, is_owner equal)
      from false false marked equal there = absurd cc

-- the data area is behind the slots
run_behind : (sizes : Sizes) (address bytes : ℕ) → is_run sizes address bytes ≡ true → data_begin ≤ address
unfolding is_run
run_behind sizes address bytes is =
    let a = and_parts _ _ is in
    let b = and_parts _ _ a.0 in
    let c = and_parts _ _ b.0 in
    let d = and_parts _ _ c.0 in
    leb-true data_begin address d.0

fresh_told : (o : Option Node) (sizes : Sizes) (history : History) (q : ℕ) (node : Node) → o ≡ Some node
    → told_or o sizes history q ≡ Some node
fresh_told o sizes history q node is = ap (λ (f : Option Node). told_or f sizes history q) is

pub index_same : {A : Type 0} (xs : List A) (i : ℕ) (d e : A) → i < length xs → get_or xs i d ≡ get_or xs i e
index_same [] i d e inside = absurd (omega (arith, inside))
index_same (x ∷ xs) zero d e inside = refl
index_same (x ∷ xs) (suc i) d e inside = index_same xs i d e (omega (arith, inside))

pub among_of : {A : Type 0} (P : A → Type 0) (xs : List A) → All P xs → (x : A) → Contains xs x → P x
among_of P xs all x has = subst P has.2 (all has.0 x has.1)

pub index_among : {A : Type 0} (xs : List A) (i : ℕ) (d : A) → i < length xs → Contains xs (get_or xs i d)
index_among xs i d inside = (i, inside, index_same xs i (get_or xs i d) d inside)

pub some_length : (references : List Counted) → 0 < total references → 0 < length references
some_length [] some = absurd (omega (arith, some))
some_length (entry ∷ references) some = omega arith

-- a name is there
pub names_there : (owner : ℕ) (names : List (ℕ × Piece)) (name : ℕ × Piece) → Contains names name
    → 0 < times (names_of owner names) name.1.extent (name_of owner name).reference
names_there owner [] name has = absurd (none_contained name has)
names_there owner (first ∷ names) name has =
    let both = times-cons (name_of owner first) (names_of owner names) name.1.extent (name_of owner name).reference in
    elim (contains_cases first names name has) [
      | inl same ↦
          let own = times-own (name_of owner name) in
          let here = ap (λ (n : ℕ × Piece). times (name_of owner n ∷ []) name.1.extent (name_of owner name).reference)
          same in
          omega (arith, both, own, here)
      | inr later ↦ let rest = names_there owner names name later in omega (arith, both, rest)
    ]

-- a tree that stands, by its items
pub record IsTreeOf (fs : FsTree) (history : History) (tree : Root) : Type 0 where
  pub items : List Item
  pub rooted : IsRooted Files tree fs.land history items
  pub drafted : IsDrafted fs.land tree.next

module _ (fs : FsTree) (history : History) (items : List Item) (names : List (ℕ × Piece))
    (stands : Stands fs history items names)
    (drafted : IsDrafted fs.land fs.tree.next) where
  abbrev around : Around
  around = around_of fs history names

  -- ---- the other trees

  pub numbers : (i : ℕ) (d : Root) → i < length fs.others.items → (get_or fs.others.items i d).owner ≢ fs.tree.owner
  numbers i d inside = (stands.beside i d inside).number

  pub other_stands : (tree : Root) → Contains fs.others.items tree → IsBeside fs history tree
  other_stands tree has = among_of (IsBeside fs history) fs.others.items stands.beside tree has

  pub other-tree : (tree : Root) → Contains fs.others.items tree → IsTreeOf fs history tree
  other-tree tree has =
      let is = other_stands tree has in
      record {
        items = is.items;
        rooted = is.rooted;
        drafted = subst (λ (n : ℕ). IsDrafted fs.land n) (sym is.next) drafted;
      }

  pub later_tree : (tree : Root) → Contains fs.others.items tree → Contains (trees_of fs) tree
  later_tree tree has = contains_later fs.tree fs.others.items tree has

  pub first_tree : Contains (trees_of fs) fs.tree
  first_tree = contains_here fs.tree fs.others.items

  pub elsewhere-parts : (q : ℕ) → elsewhere fs history q ≡ true → IsElsewhere fs history q
  elsewhere-parts q is =
      let found = one_passes (λ (tree : Root). nat_lt 0 (ways_in fs history tree q)) fs.others.items is in
      record {
        tree = found.0;
        among = found.1;
        reached = reached-some (nodes_of fs history) found.0.height found.0.address q
            (ltb-true 0 (ways_in fs history found.0 q) found.2);
      }

  pub elsewhere-is : (q : ℕ) → IsElsewhere fs history q → elsewhere fs history q ≡ true
  elsewhere-is q there =
      passes_one (λ (tree : Root). nat_lt 0 (ways_in fs history tree q)) fs.others.items there.tree there.among
      (lt-ltb 0 (ways_in fs history there.tree q)
      (ways-some (nodes_of fs history) there.tree.height there.tree.address q there.reached))

  pub other_node : (q : ℕ) → IsElsewhere fs history q → (node : Node) × (nodes_of fs history q ≡ Some node)
  other_node q there =
      let tree = other-tree there.tree there.among in
      node-there fs history there.tree tree.items tree.rooted tree.drafted q there.reached

  -- what stands beside is told
  pub beside_parts : (q : ℕ) (placed : Placed) → beside_in fs history q ≡ Some placed
      → IsElsewhere fs history q × (nodes_of fs history q ≡ Some placed.node)
      × (placed.full ≡ (mark_of fs q || ((header_of placed.node).owner == fs.tree.owner)))
  beside_parts q placed is = from (elsewhere fs history q) refl is where
    told_so : (o : Option Node) (full : Bool) → beside_of fs.tree.owner o full ≡ Some placed
        → (o ≡ Some placed.node) × (placed.full ≡ (full || ((header_of placed.node).owner == fs.tree.owner)))
    told_so None full there = absurd cc
    told_so (Some node) full there =
        let same : record { node = node; full = full || ((header_of node).owner == fs.tree.owner) } ≡ placed = cc in
        let node_is : node ≡ placed.node = ap (λ (p : Placed). p.node) same in (
          ap (λ (n : Node). Some n) node_is,
          sym (ap (λ (p : Placed). p.full) same)
              ∙ ap (λ (n : Node). full || ((header_of n).owner == fs.tree.owner)) node_is,
        )

    from : (b : Bool) → elsewhere fs history q ≡ b
        → (if b then beside_of fs.tree.owner (nodes_of fs history q) (mark_of fs q) else None) ≡ Some placed
        → IsElsewhere fs history q × (nodes_of fs history q ≡ Some placed.node)
        × (placed.full ≡ (mark_of fs q || ((header_of placed.node).owner == fs.tree.owner)))
    from true led there =
        let told_is = told_so (nodes_of fs history q) (mark_of fs q) there in
        (elsewhere-parts q led, told_is.0, told_is.1)
    from false led there = absurd cc

  pub beside-there : (q : ℕ) → IsElsewhere fs history q → IsThere around q
  beside-there q there =
      let node = other_node q there in
      record {
        placed = record {
          node = node.0;
          full = mark_of fs q || ((header_of node.0).owner == fs.tree.owner);
        };
        is =
            ap (λ (b : Bool). if b then beside_of fs.tree.owner (nodes_of fs history q) (mark_of fs q) else None)
            (elsewhere-is q there)
            ∙ ap (λ (o : Option Node). beside_of fs.tree.owner o (mark_of fs q)) node.1;
      }

  pub alone_there : (q : ℕ) → IsElsewhere fs history q → beside_in fs history q ≡ None → ⊥
  alone_there q there none =
      let is = beside-there q there in
      let wrong : None ≡ Some is.placed = sym none ∙ is.is in
      cc

  -- ---- the tree at hand

  pub reached : (q : ℕ) → 0 < own_ways fs history q → IsReached fs history q
  reached q some = reached-some (nodes_of fs history) fs.tree.height fs.tree.address q some

  pub single : (q : ℕ) → own_ways fs history q ≤ 1
  single = single-way fs history fs.tree items stands.rooted drafted

  own_placed : (q : ℕ) → IsReached fs history q → IsTrue (is_slot fs.land.space.sizes q)
  own_placed q reaches = stands.placed fs.tree q first_tree reaches

  pub placed : (q : ℕ) → 0 < own_ways fs history q → IsTrue (is_slot fs.land.space.sizes q)
  placed q some = own_placed q (reached q some)

  pub once : (q : ℕ) → IsTrue (is_slot fs.land.space.sizes q) → IsOnce (slots_of fs) q
  once = once-there fs history items stands.rooted drafted numbers own_placed

  pub foreign_is : (q : ℕ) (p : Placed) → foreign_in fs history q ≡ Some p
      → (0 < own_ways fs history q) × (nodes_of fs history q ≡ Some p.node) × (p.full ≡ mark_of fs q)
      × ((mark_of fs q || not ((header_of p.node).owner == fs.tree.owner)) ≡ true)
  foreign_is q p is = from (nat_lt 0 (own_ways fs history q)) refl is where
    from : (b : Bool) → nat_lt 0 (own_ways fs history q) ≡ b
        → (if b then foreign_of fs.tree.owner (nodes_of fs history q) (mark_of fs q) else None) ≡ Some p
        → (0 < own_ways fs history q) × (nodes_of fs history q ≡ Some p.node) × (p.full ≡ mark_of fs q)
        × ((mark_of fs q || not ((header_of p.node).owner == fs.tree.owner)) ≡ true)
    from true led there =
        let parts = foreign_parts fs.tree.owner (nodes_of fs history q) (mark_of fs q) p there in
        (ltb-true 0 (own_ways fs history q) led, parts.0, parts.1, parts.2)
    from false led there = absurd cc

  pub foreign-led : (q : ℕ) → 0 < own_ways fs history q
      → foreign_in fs history q ≡ foreign_of fs.tree.owner (nodes_of fs history q) (mark_of fs q)
  foreign-led q some =
      ap (λ (b : Bool). if b then foreign_of fs.tree.owner (nodes_of fs history q) (mark_of fs q) else None)
      (lt-ltb 0 (own_ways fs history q) some)

  -- ---- homes

  -- a node that is not full and has the owner at hand is reached by it
  home_own : (tree : Root) (q : ℕ) (node : Node) → Contains (trees_of fs) tree → IsReachedBy fs history tree q
      → nodes_of fs history q ≡ Some node → mark_of fs q ≡ false → (header_of node).owner ≡ fs.tree.owner
      → IsReached fs history q
  home_own tree q node among reaches is bare mine =
      let home = stands.home tree q node among reaches is bare in
      elim (contains_cases fs.tree fs.others.items home.tree home.among) [
        | inl same ↦ subst (λ (t : Root). IsReachedBy fs history t q) (sym same) home.reached
        | inr later ↦ absurd ((other_stands home.tree later).number (home.number ∙ mine))
      ]

  pub home_other : (tree : Root) (q : ℕ) (node : Node) → Contains (trees_of fs) tree → IsReachedBy fs history tree q
      → nodes_of fs history q ≡ Some node → mark_of fs q ≡ false → (header_of node).owner ≢ fs.tree.owner
      → IsElsewhere fs history q
  home_other tree q node among reaches is bare differs =
      let home = stands.home tree q node among reaches is bare in
      elim (contains_cases fs.tree fs.others.items home.tree home.among) [
        | inl same ↦ absurd (differs (sym home.number ∙ ap (λ (t : Root). t.owner) (sym same)))
        | inr later ↦ record { tree = home.tree; among = later; reached = home.reached }
      ]

  -- what is beside where no way of the tree at hand leads keeps its mark
  pub beside-kept : (q : ℕ) (node : Node) → own_ways fs history q ≡ 0 → IsElsewhere fs history q
      → nodes_of fs history q ≡ Some node
      → (mark_of fs q || ((header_of node).owner == fs.tree.owner)) ≡ mark_of fs q
  beside-kept q node none there is = from (mark_of fs q) refl where
    from : (m : Bool) → mark_of fs q ≡ m → (m || ((header_of node).owner == fs.tree.owner)) ≡ m
    from true marked = refl
    from false marked = elim (eqb_tells (header_of node).owner fs.tree.owner) [
      | inl (equal, mine) ↦
          let own = home_own there.tree q node (later_tree there.tree there.among) there.reached is marked mine in
          let some = ways-some (nodes_of fs history) fs.tree.height fs.tree.address q own in
          absurd (omega (arith, some, none))
      | inr (unequal, differ) ↦ unequal
    ]

  -- ---- counts

  there_owed : (at : ℕ) (reference : Reference) (q : ℕ) → own_ways fs history q ≡ 0
      → times (owed_in (beside_in fs history q)) at reference ≡ owed_there fs history at reference q
  there_owed at reference q none = from (elsewhere fs history q) refl where
    marked : (o : Option Node) → nodes_of fs history q ≡ o → IsElsewhere fs history q
        → times (owed_in (beside_of fs.tree.owner o (mark_of fs q))) at reference
        ≡ times (owed_marked o (mark_of fs q)) at reference
    marked None is there = refl
    marked (Some node) is there =
        ap (λ (b : Bool). times (owed_by_node (record { node = node; full = b })) at reference)
        (beside-kept q node none there is)

    from : (b : Bool) → elsewhere fs history q ≡ b
        → times (owed_in (if b then beside_of fs.tree.owner (nodes_of fs history q) (mark_of fs q) else None)) at
        reference
        ≡ (if b then times (owed_marked (nodes_of fs history q) (mark_of fs q)) at reference else 0)
    from true led = marked (nodes_of fs history q) refl (elsewhere-parts q led)
    from false led = times-nil at reference

  pub counted : AreCounted around (book_of fs.refs.refs) (own_ways fs history) (foreign_in fs history)
  counted at reference =
      let count = stands.counts at reference in
      let owed = owed-ways fs history items stands.rooted drafted numbers own_placed (foreign_in fs history)
      (beside_in fs history) at reference foreign-led (there_owed at reference) in
      omega (arith, count, owed)

  -- ---- where nodes lie

  -- a slot is taken where the way leads to it
  pub taken : (q : ℕ) → 0 < own_ways fs history q → has_slot fs.land.space q ≡ true
  taken q some =
      let all = total-is around (book_of fs.refs.refs) (own_ways fs history) (foreign_in fs history) counted q in
      stands.settled.slots q (placed q some)
      ∙ lt-ltb 0 (references_to (book_of fs.refs.refs) q)
      (some_length (references_at (book_of fs.refs.refs) q) (omega (arith, all, some)))

  fresh_is : (q : ℕ) (node mine : Node) → nodes_of fs history q ≡ Some node
      → fresh_at fs.land.blocks.draft q ≡ Some mine
      → fresh_at fs.land.blocks.draft q ≡ Some node
  unfolding told
  fresh_is q node mine is there =
      let same : Some node ≡ Some mine = sym is ∙ fresh_told (fresh_at fs.land.blocks.draft q)
      fs.land.blocks.draft.sizes history q mine there in
      there ∙ sym same

  -- what is reached and not fresh the last commit holds
  pub held : (q : ℕ) → 0 < own_ways fs history q → fresh_at fs.land.blocks.draft q ≡ None
      → Contains fs.land.space.held_slots q
  held q some none = elim (stands.settled.written q (taken q some)) [
    | inl fresh ↦ absurd (not_both (fresh_at fs.land.blocks.draft q) none fresh)
    | inr here ↦ here
  ] where
    not_both : (o : Option Node) → o ≡ None → IsSome o → ⊥
    not_both None none some = absurd cc
    not_both (Some node) none some = cc

  none_fresh : (q : ℕ) → ((node : Node) → fresh_at fs.land.blocks.draft q ≡ Some node → ⊥)
      → fresh_at fs.land.blocks.draft q ≡ None
  none_fresh q never = from (fresh_at fs.land.blocks.draft q) refl where
    from : (o : Option Node) → fresh_at fs.land.blocks.draft q ≡ o → fresh_at fs.land.blocks.draft q ≡ None
    from None none = none
    from (Some mine) there = absurd (never mine there)

  pub committed : (q : ℕ) (node : Node) → 0 < own_ways fs history q → fresh_at fs.land.blocks.draft q ≡ None
      → nodes_of fs history q ≡ Some node
      → committed_at fs.land history q ≡ Some node
  committed q node some none is = committed-is fs.land history q (held q some none) ∙ is

  -- a foreign node is not fresh
  pub foreign-clean : (q : ℕ) (p : Placed) → foreign_in fs history q ≡ Some p
      → fresh_at fs.land.blocks.draft q ≡ None
  foreign-clean q p is =
      let parts = foreign_is q p is in
      none_fresh q (λ mine there.
      let fresh = fresh_is q p.node mine parts.1 there in
      let young = stands.young fs.tree q p.node first_tree (reached q parts.0) fresh in
      elim (foreign_mark fs.tree.owner (header_of p.node).owner p.full (mark_of fs q) parts.2 parts.3) [
        | inl full ↦ let wrong : true ≡ false = sym full ∙ parts.2 ∙ young.0 in absurd cc
        | inr differs ↦ differs young.1
      ])

  -- what both reach is not fresh
  pub both-clean : (q : ℕ) → 0 < own_ways fs history q → IsElsewhere fs history q
      → fresh_at fs.land.blocks.draft q ≡ None
  both-clean q some there =
      none_fresh q (λ mine fresh.
      let own = stands.young fs.tree q mine first_tree (reached q some) fresh in
      let other = stands.young there.tree q mine (later_tree there.tree there.among) there.reached fresh in
      (other_stands there.tree there.among).number (sym other.1 ∙ own.1))

  -- ---- names

  pub known_of : (name : ℕ × Piece) → Contains (names ++ names_elsewhere fs history) name
      → IsKnownExtent fs.land.space.sizes fs.tree.next (book_of fs.refs.refs) name.1
  known_of name has =
      among_of (λ (n : ℕ × Piece). IsKnownExtent fs.land.space.sizes fs.tree.next (book_of fs.refs.refs) n.1)
      (names ++ names_elsewhere fs history) stands.known name has

  -- no name leads to a slot
  pub name_apart : (name : ℕ × Piece) (at : ℕ) → Contains (names ++ names_elsewhere fs history) name
      → IsTrue (is_slot fs.land.space.sizes at) → name.1.extent ≡ at → ⊥
  name_apart name at has slot same =
      let low = slot_below fs.land.space.sizes at drafted.sizes.served slot in
      let known = known_of name has in
      let high = run_behind fs.land.space.sizes name.1.extent name.1.extent_bytes known.lies in
      omega (arith, low, high, same)

  pub unnamed : (at : ℕ) → IsTrue (is_slot fs.land.space.sizes at) → many (names_of fs.tree.owner names) at ≡ 0
  unnamed at is =
      names-apart fs.tree.owner names at (λ i d inside same.
      name_apart (get_or names i d) at
      (Contains-append_left names (names_elsewhere fs history) (get_or names i d) (index_among names i d inside))
      is same)
