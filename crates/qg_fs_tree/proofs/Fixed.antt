-- Trees that stand: what is fixed while the one at hand is edited holds, and the book stands for it.
use Rattle.std.proofs.Common.{◌≡◌, ℕ, zero, suc, ◌<◌, ◌≤◌, Bool, true, false, List, ◌++◌, Option, Some, None, arith}
use Rattle.std.proofs.Common.{refl, sym, ap, subst, ◌∙◌, inl, inr}
use Rattle.std.specs.Prelude.{◌⊎◌, ◌==◌, ◌||◌, not, IsTrue, if◌then◌else◌}
use Rattle.std.specs.List.{Contains, filter_map}
use Rattle.std.proofs.lemmas.Bool.{lt-ltb}
use Rattle.std.proofs.lemmas.List.Elements.{Contains-append_right}
use Rattle.qg_device.specs.History.{History}
use Rattle.qg_num.specs.declared.piece.Piece.{Piece}
use Rattle.qg_node.specs.declared.item.Item.{Item}
use Rattle.qg_node.specs.declared.node.Node.{Node}
use Rattle.qg_node.specs.Nodes.{header_of, own_items, used_bytes}
use Rattle.qg_items.specs.declared.extent.Reference.{Reference}
use Rattle.qg_super.specs.Places.{is_slot}
use Rattle.qg_super.proofs.Served.{SizesFit-is_served}
use Rattle.qg_image.specs.State.{Placed}
use Rattle.qg_image.specs.Owed.{owed_by_node}
use Rattle.qg_cow_refs.specs.Children.{owner_of}
use Rattle.qg_image.specs.declared.tree.TreeKind.TheVariants.{Files}
use Rattle.qg_space.specs.Holding.{has_slot}
use Rattle.qg_tree_edits.specs.Land.{IsDrafted}
use Rattle.qg_refs.specs.Book.{references_at}
use Rattle.qg_refs.specs.Counts.{greatest_count}
use Rattle.qg_extents.specs.Table.{IsTable, book_of}
use Rattle.qg_tree_edits.specs.Tree.{Root, super_of}
use Rattle.qg_tree_edits.proofs.BranchFrames.{reach-top}
use Rattle.qg_tree_edits.specs.Counting.{committed_at}
use Rattle.qg_tree_edits.specs.Rooting.{IsRooted}
use Rattle.qg_tree_edits.proofs.Committed.{committed-are}
use Rattle.qg_tree_edits.proofs.Downward.{ways-closed}
use Rattle.qg_tree_edits.proofs.Ways.{ways-some}
use Rattle.qg_tree_backrefs.specs.Exchange.{times}
use Rattle.qg_tree_backrefs.specs.Following.{references_to}
use Rattle.qg_tree_backrefs.proofs.ReferenceTotals.{many}
use Rattle.qg_fs_tree.specs.declared.fs_tree.FsTree.{FsTree}
use Rattle.qg_fs_tree.specs.Standing.{AreNamed, IsElsewhere, IsReachedBy, Stands, items_in, name_of, name_told}
use Rattle.qg_fs_tree.specs.Standing.{names_elsewhere, nodes_of}
use Rattle.qg_fs_tree.proofs.Before.{IsTreeOf, alone_there, beside-kept, beside-there, beside_mark, beside_parts}
use Rattle.qg_fs_tree.proofs.Before.{both-clean, committed, counted, first_tree, foreign-clean, foreign-led, foreign_is}
use Rattle.qg_fs_tree.proofs.Before.{foreign_mark, home_other, later_tree, name_apart, names_there, not_foreign}
use Rattle.qg_fs_tree.proofs.Before.{numbers, once, other-tree, placed, reached, single, some_length, unnamed}
use Rattle.qg_fs_tree.proofs.Beside.{around_of, beside_in, foreign_in, foreign_of, mark_of, own_ways, roots_owed}
use Rattle.qg_fs_tree.proofs.Counts.{branch, node-there, single-way}
use Rattle.qg_fs_tree.proofs.Exchanged.{lasting, reached_first}
use Rattle.qg_tree_edits.proofs.BranchItems.{from-leaf}
use Rattle.qg_fs_tree.proofs.Lists.{from-some, has-flat, made-some}
use Rattle.qg_fs_tree.proofs.Lying.{told-at}
use Rattle.qg_fs_tree.proofs.Nodes.{last-step, owed-few, owed-some, pointing-few, roots-own, roots-shared, roots-some}
use Rattle.qg_fs_tree.proofs.Nodes.{roots-there, times-many}
use Rattle.qg_fs_tree.proofs.Owes.{mark_in}
use Rattle.qg_fs_tree.proofs.Owings.{names_of}
use Rattle.qg_fs_tree.proofs.Reached.{reached-some}
use Rattle.qg_fs_tree.proofs.Sound.{told-formed}
use Rattle.qg_fs_tree.proofs.Turned.{AreFixed, Around, GoesDown, IsLed, IsThere, StandsFor, children_of}

marked_same : (placed other : Placed) (mark own : Bool) → placed.node ≡ other.node → placed.full ≡ mark
    → other.full ≡ (mark || own) → (mark || not own) ≡ true
    → other ≡ placed
marked_same placed other mark own node first last test =
    let full : other.full ≡ placed.full = last ∙ either mark own test ∙ sym first in
    ap (λ (n : Node). record { node = n; full = other.full }) (sym node)
    ∙ ap (λ (b : Bool). record { node = placed.node; full = b }) full where
      either : (m o : Bool) → (m || not o) ≡ true → (m || o) ≡ m
      either true o is = refl
      either false true is = absurd cc
      either false false is = refl

pub foreign-full : (o : Option Node) (owner : ℕ) (full : Bool) (node : Node) → o ≡ Some node
    → mark_in (foreign_of owner o full) ≡ full
foreign-full None owner full node is = absurd cc
foreign-full (Some told) owner full node is = from full ((header_of told).owner == owner) where
  from : (f b : Bool) → mark_in (if f || not b then Some (record { node = told; full = f }) else None) ≡ f
  from true b = refl
  from false true = refl
  from false false = refl

module _ (fs : FsTree) (history : History) (items : List Item) (names : List (ℕ × Piece))
    (stands : Stands fs history items names)
    (drafted : IsDrafted fs.land fs.tree.next) where
  abbrev around : Around
  around = around_of fs history names

  abbrev IsSlot : ℕ → Type 0
  IsSlot at = IsTrue (is_slot fs.land.space.sizes at)

  lies_at : (q : ℕ) (node : Node) → nodes_of fs history q ≡ Some node → (header_of node).address ≡ q
  lies_at q node is = (told-at fs.land history fs.tree.next drafted q node is).placed

  node_room : (q : ℕ) (node : Node) → nodes_of fs history q ≡ Some node → used_bytes node ≤ 65536
  node_room q node is =
      let fits = (told-formed fs.land history fs.tree.next drafted q node is).fits in
      let most = (SizesFit-is_served fs.land.space.sizes drafted.sizes.served).nodesize in
      omega (arith, fits, most)

  -- ---- what a tree reaches it reaches below

  pub tree_below : (tree : Root) → IsTreeOf fs history tree → (q r : ℕ) (parent : Node) → IsReachedBy fs history tree q
      → nodes_of fs history q ≡ Some parent → Contains (children_of parent) r
      → IsReachedBy fs history tree r
  tree_below tree is q r parent reaches told child =
      let way = ways-some (nodes_of fs history) tree.height tree.address q reaches in
      reached-some (nodes_of fs history) tree.height tree.address r
      (ways-closed Files (super_of tree fs.land.blocks.draft) (nodes_of fs history) (nodes_of fs history)
      (λ s node there. there) tree.height tree.address is.items
      (branch fs history tree is.items is.rooted is.drafted) q parent r told way child)

  -- ---- pieces

  tree_name : (tree : Root) (is : IsTreeOf fs history tree) (q : ℕ) (node : Node) (name : ℕ × Piece)
      → IsReachedBy fs history tree q → nodes_of fs history q ≡ Some node
      → Contains (filter_map name_told (own_items node)) name
      → Contains (filter_map name_told is.items) name
  tree_name tree is q node name reaches told has =
      let item = from-some name_told (own_items node) name has in
      made-some name_told is.items item.0 name
      (from-leaf Files (super_of tree fs.land.blocks.draft) (nodes_of fs history) item.0 tree.height tree.address
      is.items (branch fs history tree is.items is.rooted is.drafted) q reaches node told item.1) item.2

  items_are : (tree : Root) (own : List Item) → IsRooted Files tree fs.land history own
      → items_in fs history tree ≡ own
  items_are tree own rooted = rw rooted.tells.items_are refl

  pub elsewhere-told : (q : ℕ) (node : Node) (name : ℕ × Piece) → IsElsewhere fs history q
      → nodes_of fs history q ≡ Some node
      → Contains (filter_map name_told (own_items node)) name
      → Contains (names_elsewhere fs history) name
  unfolding names_elsewhere
  elsewhere-told q node name there told has =
      let is = other-tree fs history items names stands drafted there.tree there.among in
      let own = tree_name there.tree is q node name there.reached told has in
      has-flat (λ (tree : Root). filter_map name_told (items_in fs history tree)) fs.others.items there.tree name
      there.among
      (subst (λ (xs : List Item). Contains (filter_map name_told xs) name)
      (sym (items_are there.tree is.items is.rooted)) own)

  pub elsewhere_name : (q : ℕ) (node : Node) (name : ℕ × Piece) → IsElsewhere fs history q
      → nodes_of fs history q ≡ Some node
      → Contains (filter_map name_told (own_items node)) name
      → Contains (names ++ names_elsewhere fs history) name
  elsewhere_name q node name there told has =
      Contains-append_right names (names_elsewhere fs history) name (elsewhere-told q node name there told has)

  abbrev own_tree : IsTreeOf fs history fs.tree
  own_tree = record { items = items; rooted = stands.rooted; drafted = drafted }

  -- ---- what is fixed

  closed : (at by : ℕ) (p : Placed) → IsSlot at → beside_in fs history at ≡ None → beside_in fs history by ≡ Some p
      → many (owed_by_node p) at ≡ 0
  closed at by p slot none is = from (many (owed_by_node p) at) refl where
    from : (n : ℕ) → many (owed_by_node p) at ≡ n → many (owed_by_node p) at ≡ 0
    from zero nothing = nothing
    from (suc n) some =
        let parts = beside_parts fs history items names stands drafted by p is in
        let there = parts.0 in
        elim (owed-some p at (omega (arith, some))) [
          | inl child ↦
              absurd (alone_there fs history items names stands drafted at (record {
                tree = there.tree;
                among = there.among;
                reached = tree_below there.tree
                    (other-tree fs history items names stands drafted there.tree there.among) by at p.node
                    there.reached parts.1 child;
              }) none)
          | inr named ↦
              absurd (name_apart fs history items names stands drafted named.name at
              (elsewhere_name by p.node named.name there parts.1 named.among) slot named.is)
        ]

  roots_alone : (at : ℕ) → beside_in fs history at ≡ None → many (roots_owed fs.others.items) at ≡ 0
  roots_alone at none = from (many (roots_owed fs.others.items) at) refl where
    from : (n : ℕ) → many (roots_owed fs.others.items) at ≡ n → many (roots_owed fs.others.items) at ≡ 0
    from zero nothing = nothing
    from (suc n) some =
        let root = roots-some fs.others.items at (omega (arith, some)) in
        absurd (alone_there fs history items names stands drafted at (record {
          tree = root.tree;
          among = root.among;
          reached = subst (λ (q : ℕ). IsReachedBy fs history root.tree q) root.is
              (reach-top (nodes_of fs history) root.tree.height root.tree.address);
        }) none)

  led : (q : ℕ) → IsThere around q → (0 < many (roots_owed fs.others.items) q) ⊎ IsLed around q
  led q there =
      let parts = beside_parts fs history items names stands drafted q there.placed there.is in
      let by = parts.0 in
      elim (last-step (nodes_of fs history) by.tree.height by.tree.address q by.reached) [
        | inl same ↦
            inl (subst (λ (a : ℕ). 0 < many (roots_owed fs.others.items) a) (sym same)
            (roots-there fs.others.items by.tree by.among))
        | inr step ↦
            let beside = beside-there fs history items names stands drafted step.by
            (record { tree = by.tree; among = by.among; reached = step.reached }) in
            let told = (beside_parts fs history items names stands drafted step.by beside.placed beside.is).1 in
            let both : Some step.node ≡ Some beside.placed.node = sym step.there ∙ told in
            let same : step.node ≡ beside.placed.node = cc in
            inr (record {
              by = step.by;
              placed = beside.placed;
              is = beside.is;
              leads = subst (λ (n : Node). Contains (children_of n) q) same step.leads;
            })
      ]

  fits : (q : ℕ) (p : Placed) → beside_in fs history q ≡ Some p → (at : ℕ) (reference : Reference)
      → times (owed_by_node p) at reference ≤ greatest_count reference
  fits q p is at reference =
      let parts = beside_parts fs history items names stands drafted q p is in
      let there = parts.0 in
      let tree = other-tree fs history items names stands drafted there.tree there.among in
      let few = pointing-few Files (super_of there.tree fs.land.blocks.draft) (nodes_of fs history) there.tree.height
      there.tree.address tree.items (branch fs history there.tree tree.items tree.rooted tree.drafted) q there.reached
      p.node parts.1 at in
      let most = single-way fs history there.tree tree.items tree.rooted tree.drafted at in
      owed-few p at (omega (arith, few, most)) (node_room q p.node parts.1) reference

  -- an extent that a node names which both reach is named, where each piece that the items tell is
  pub named-within : (others : List (ℕ × Piece)) → AreNamed fs.tree.owner items others
      → (q : ℕ) (p : Placed) → 0 < own_ways fs history q → beside_in fs history q ≡ Some p → (at : ℕ)
      → 0 < many (owed_by_node p) at
      → Contains (children_of p.node) at ⊎ (0 < many (names_of fs.tree.owner others) at)
  named-within others named q p way is at some = elim (owed-some p at some) [
    | inl child ↦ inl child
    | inr piece ↦
        let parts = beside_parts fs history items names stands drafted q p is in
        let own = tree_name fs.tree own_tree q p.node piece.name
        (reached fs history items names stands drafted q way) parts.1 piece.among in
        let there = names_there fs.tree.owner (filter_map name_told items) piece.name own in
        let within = named piece.name.1.extent (name_of fs.tree.owner piece.name).reference in
        let most = times-many (names_of fs.tree.owner others) piece.name.1.extent
        (name_of fs.tree.owner piece.name).reference in
        inr (subst (λ (a : ℕ). 0 < many (names_of fs.tree.owner others) a) piece.is
        (omega (arith, there, within, most)))
  ]

  beside_home : (q : ℕ) (p : Placed) → foreign_in fs history q ≡ Some p → p.full ≡ false → IsThere around q
  beside_home q p is bare =
      let parts = foreign_is fs history items names stands drafted q p is in
      beside-there fs history items names stands drafted q
      (elim (foreign_mark fs.tree.owner (header_of p.node).owner p.full (mark_of fs q) parts.2 parts.3) [
        | inl full ↦ let wrong : true ≡ false = sym full ∙ bare in absurd cc
        | inr differs ↦
            home_other fs history items names stands drafted fs.tree q p.node
            (first_tree fs history items names stands drafted)
            (reached fs history items names stands drafted q parts.0) parts.1 (sym parts.2 ∙ bare) differs
      ])

  own_there : (q : ℕ) (p : Placed) → 0 < own_ways fs history q → foreign_in fs history q ≡ None
      → beside_in fs history q ≡ Some p
      → (p.full ≡ true) × (owner_of p ≡ fs.tree.owner)
  own_there q p way none is =
      let parts = beside_parts fs history items names stands drafted q p is in
      let own = not_foreign fs.tree.owner (nodes_of fs history q) p.node (mark_of fs q) parts.1
      (sym (foreign-led fs history items names stands drafted q way) ∙ none) in (
        elim (beside_mark fs.tree.owner (header_of p.node).owner p.full (mark_of fs q) parts.2) [
          | inl full ↦ full
          | inr differs ↦ absurd (differs own.1)
        ],
        own.1,
      )

  pub fixed : AreFixed around IsSlot
  fixed = record {
    once = once fs history items names stands drafted;
    apart = unnamed fs history items names stands drafted;
    few = stands.few;
    foreign = λ q p is.
        let parts = foreign_is fs history items names stands drafted q p is in
        foreign_mark fs.tree.owner (header_of p.node).owner p.full (mark_of fs q) parts.2 parts.3;
    foreign_at = λ q p is. lies_at q p.node (foreign_is fs history items names stands drafted q p is).1;
    foreign_clean = λ q p is.
        let parts = foreign_is fs history items names stands drafted q p is in
        committed fs history items names stands drafted q p.node parts.0
        (foreign-clean fs history items names stands drafted q p is) parts.1;
    home = beside_home;
    beside = λ q p is.
        beside_mark fs.tree.owner (header_of p.node).owner p.full (mark_of fs q)
        (beside_parts fs history items names stands drafted q p is).2;
    beside_at = λ q p is. lies_at q p.node (beside_parts fs history items names stands drafted q p is).1;
    beside_clean = λ q p way is.
        let parts = beside_parts fs history items names stands drafted q p is in
        committed fs history items names stands drafted q p.node way
        (both-clean fs history items names stands drafted q way parts.0) parts.1;
    beside_place = λ q p is.
        let there = (beside_parts fs history items names stands drafted q p is).0 in
        stands.placed there.tree q (later_tree fs history items names stands drafted there.tree there.among)
        there.reached;
    same = λ q p other is there.
        let parts = foreign_is fs history items names stands drafted q p is in
        let besides = beside_parts fs history items names stands drafted q other there in
        let both : Some p.node ≡ Some other.node = sym parts.1 ∙ besides.1 in
        let node : p.node ≡ other.node = cc in
        marked_same p other (mark_of fs q) ((header_of p.node).owner == fs.tree.owner) node parts.2
        (besides.2 ∙ ap (λ (n : Node). mark_of fs q || ((header_of n).owner == fs.tree.owner)) (sym node)) parts.3;
    own = own_there;
    closed = closed;
    roots_beside = roots_alone;
    roots_own = roots-own fs.tree.owner fs.others.items (numbers fs history items names stands drafted);
    roots_shared = roots-shared fs.others.items;
    led = led;
    fits = fits;
    named = named-within names stands.within;
  }

  -- ---- the book stands for it

  clean_told : (q : ℕ) (node : Node) → committed_at fs.land history q ≡ Some node
      → nodes_of fs history q ≡ Some node
  clean_told q node is = (committed-are fs.land history fs.tree.next drafted q node is).2

  pub down : GoesDown around (own_ways fs history)
  down q parent clean way child leads =
      ways-closed Files (super_of fs.tree fs.land.blocks.draft) (nodes_of fs history) (committed_at fs.land history)
      clean_told fs.tree.height fs.tree.address items (branch fs history fs.tree items stands.rooted drafted) q parent
      child clean way leads

  pub StandsFor-before : IsTable fs.refs.refs
      → StandsFor around IsSlot fs.refs (own_ways fs history) (foreign_in fs history)
  StandsFor-before table = record {
    mine = stands.book.owner;
    next = refl;
    nodesize = refl;
    sound = table.book;
    fits = stands.fits;
    counts = counted fs history items names stands drafted;
    fitting = table.fitting;
    single = single fs history items names stands drafted;
    placed = placed fs history items names stands drafted;
    marks = λ q some.
        let node = cow_node q some in
        sym (ap mark_in (foreign-led fs history items names stands drafted q some)
        ∙ foreign-full (nodes_of fs history q) fs.tree.owner (mark_of fs q) node.0 node.1);
    within = λ q p is. is;
    stays = λ q some. inr (some, refl, refl);
    down = down;
    left = λ q p none is.
        let parts = beside_parts fs history items names stands drafted q p is in
        sym (parts.2 ∙ beside-kept fs history items names stands drafted q p.node none parts.0 parts.1);
    lasts = λ at lasts. refl;
  } where
    cow_node : (q : ℕ) → 0 < own_ways fs history q → (node : Node) × (nodes_of fs history q ≡ Some node)
    cow_node q some =
        node-there fs history fs.tree items stands.rooted drafted q
        (reached fs history items names stands drafted q some)

  -- a slot that another tree reaches is taken
  pub taken-beside : IsTable fs.refs.refs → (q : ℕ) → IsElsewhere fs history q → has_slot fs.land.space q ≡ true
  taken-beside table q there =
      let is = beside-there fs history items names stands drafted q there in
      let slot = fixed.beside_place q is.placed is.is in
      let stands_for = StandsFor-before table in
      let some = lasting around IsSlot fixed fs.refs (own_ways fs history) (foreign_in fs history) stands_for.counts
      down
      (reached_first around IsSlot fixed fs.refs (own_ways fs history) (foreign_in fs history) stands_for) q
      (inr (inl is)) in
      stands.settled.slots q slot
      ∙ lt-ltb 0 (references_to (book_of fs.refs.refs) q) (some_length (references_at (book_of fs.refs.refs) q) some)
