-- The trees of an image that was just opened, as a layout: it is that of the state which the image stands for.
use Rattle.std.proofs.Common.{◌≡◌, ℕ, ◌<◌, Bool, List, [], ◌∷◌, map, Option, Some, refl, sym, ap, subst, ◌∙◌}
use Rattle.std.specs.List.{Contains}
use Rattle.std.specs.List.Sorted.{IsStrictlyIncreasing}
use Rattle.std.specs.Option.{option_map}
use Rattle.qg_device.specs.History.{Event, Recorded, content}
use Rattle.qg_node.specs.declared.node.Node.{Node}
use Rattle.qg_node.specs.Nodes.{header_of}
use Rattle.qg_items.specs.declared.root.RootItem.{RootItem}
use Rattle.qg_super.specs.declared.sizes.Sizes.{Sizes}
use Rattle.qg_super.specs.declared.superblock.Super.{Super}
use Rattle.qg_image.specs.Table.{keys_of, value_at}
use Rattle.qg_image.specs.declared.part.ExtentPart.{ExtentPart}
use Rattle.qg_image.specs.State.{Layout, Placed, Subvolume, layout_of, node_at}
use Rattle.qg_image.proofs.Contained.{contains_here, contains_later}
use Rattle.qg_image.specs.ImageState.{extent_parts, roots_in, state_in, subvolume_in, subvolume_roots, subvolumes_in}
use Rattle.qg_reach.proofs.Layouts.{AgreeByAddress, layout_by, layout_in-nodes}
use Rattle.qg_owner_rule.proofs.Reaching.{entry_of_value, value_of_entry}
use Rattle.qg_backref_rule.proofs.NumberSets.{same_ascending}
use Rattle.qg_refs.specs.Book.{full_in}
use Rattle.qg_extents.specs.Table.{book_of}
use Rattle.qg_space.proofs.Marks.{SlotsFit-is_served}
use Rattle.qg_tree_read.specs.Tree.{Root}
use Rattle.qg_shared_trees.specs.Types.{FsTree}
use Rattle.qg_shared_trees.specs.Standing.{layout_in, nodes_of, roots_of}
use Rattle.qg_shared_trees.proofs.Lists.{from-mapped, has-mapped}
use Rattle.qg_shared_trees.specs.Laying.{IsMet, IsMetAs, nodes_in}
use Rattle.qg_shared_trees.proofs.Nodes.{nodes-ascend, reached-by, value-reached}
use Rattle.qg_shared_trees.proofs.Roots.{root-tree, roots-ascend, tree-root}
use Rattle.qg_shared_walk.proofs.Laid.{IsLaid, entry_of, laid}
use Rattle.qg_shared_walk.proofs.Sorted.{ascends_of}
use Rattle.qg_commit_trees.specs.Opening.{IsOpened, IsSoundImage, opened_nodes, opened_tree}
use Rattle.qg_commit_trees.proofs.Opened.{drafted-there, entry-tree, lies-opened, listed-there, node-met, other-number}
use Rattle.qg_commit_trees.proofs.Opened.{others-ascend, placed-opened, reached-listed, tree-entry}
use Rattle.qg_commit_trees.proofs.Recorded.{node-mark}

-- tables of the same keys, whose entries at a key are one
pairs_same : {A : Type 0} (xs ys : List (ℕ × A)) → keys_of xs ≡ keys_of ys
    → ((x y : ℕ × A) → Contains xs x → Contains ys y → x.0 ≡ y.0 → x ≡ y) → xs ≡ ys
pairs_same [] [] same each = refl
pairs_same [] (y ∷ ys) same each = absurd cc
pairs_same (x ∷ xs) [] same each = absurd cc
pairs_same {A} (x ∷ xs) (y ∷ ys) same each =
    let here : x.0 ≡ y.0 = cc in
    let behind : keys_of xs ≡ keys_of ys = cc in
    let first = each x y (contains_here x xs) (contains_here y ys) here in
    let rest = pairs_same xs ys behind
    (λ a b has also. each a b (contains_later x xs a has) (contains_later y ys b also)) in
    ap (λ (z : ℕ × A). z ∷ xs) first ∙ ap (λ (zs : List (ℕ × A)). y ∷ zs) rest

-- tables that ascend and have the same entries
tables_same : {A : Type 0} (xs ys : List (ℕ × A)) → IsStrictlyIncreasing (keys_of xs)
    → IsStrictlyIncreasing (keys_of ys) → ((x : ℕ × A) → Contains xs x → Contains ys x)
    → ((y : ℕ × A) → Contains ys y → Contains xs y) → xs ≡ ys
tables_same {A} xs ys up up_too into back =
    pairs_same xs ys
    (same_ascending (keys_of xs) (keys_of ys) (ascends_of (keys_of xs) up) (ascends_of (keys_of ys) up_too)
    (record { into = λ q has. keys_on xs ys into q has; back = λ q has. keys_on ys xs back q has })) each where
      keys_on : (from to : List (ℕ × A)) → ((x : ℕ × A) → Contains from x → Contains to x) → (q : ℕ)
          → Contains (keys_of from) q → Contains (keys_of to) q
      keys_on from to on q has =
          let entry = from-mapped (λ (e : ℕ × A). e.0) from q has in
          subst (λ (n : ℕ). Contains (keys_of to) n) entry.2
          (has-mapped (λ (e : ℕ × A). e.0) to entry.0 (on entry.0 entry.1))

      each : (x y : ℕ × A) → Contains xs x → Contains ys y → x.0 ≡ y.0 → x ≡ y
      each x y has also same =
          let mine = value_of_entry xs x up has in
          let its = value_of_entry xs y up (back y also) in
          let e : Some x.1 ≡ Some y.1 = sym mine ∙ ap (λ (n : ℕ). value_at n xs) same ∙ its in
          let value : x.1 ≡ y.1 = cc in
          ap (λ (n : ℕ). (n, x.1)) same ∙ ap (λ (v : A). (y.0, v)) value

-- numbers with the roots that ROOT_ITEMs tell
abbrev pub root_told_by : ℕ × RootItem → ℕ × ℕ
root_told_by entry = (entry.0, entry.1.bytenr)

subvolume_roots_are : (super : Super) (image : List ℕ) (entries : List (ℕ × RootItem))
    → map (λ (e : ℕ × Subvolume). (e.0, e.1.root)) (map (λ entry. (entry.0, subvolume_in super image entry.1)) entries)
    ≡ map root_told_by entries
subvolume_roots_are super image [] = refl
subvolume_roots_are super image (entry ∷ entries) =
    ap (λ (table : List (ℕ × ℕ)). root_told_by entry ∷ table) (subvolume_roots_are super image entries)

told_keys : (entries : List (ℕ × RootItem)) → keys_of (map root_told_by entries) ≡ keys_of entries
told_keys [] = refl
told_keys (entry ∷ entries) = ap (λ (numbers : List ℕ). entry.0 ∷ numbers) (told_keys entries)

-- the keys of entries that are made of nodes
keys_made : (parts : List ExtentPart) (nodes : List Node) → keys_of (map (entry_of parts) nodes)
    ≡ map (λ node. (header_of node).address) nodes
keys_made parts [] = refl
keys_made parts (node ∷ nodes) = ap (λ (keys : List ℕ). (header_of node).address ∷ keys) (keys_made parts nodes)

layout_alike : (a b : Layout) → a.nodesize ≡ b.nodesize → a.roots ≡ b.roots → a.nodes ≡ b.nodes → a ≡ b
layout_alike a b size roots nodes =
    ap (λ (n : ℕ). let layout : Layout = record a { nodesize = n } in layout) size
    ∙ ap (λ (r : List (ℕ × ℕ)). let layout : Layout = record b { roots = r; nodes = a.nodes } in layout) roots
    ∙ ap (λ (t : List (ℕ × Placed)). let layout : Layout = record b { nodes = t } in layout) nodes

module _ (fs : FsTree) (super : Super) (events : List Event) (sound : IsSoundImage super (content events))
    (opened : IsOpened fs super (content events)) where
  abbrev pub listed : List Node
  listed = opened_nodes super (content events)

  abbrev pub roots : List (ℕ × RootItem)
  roots = subvolume_roots (roots_in super (content events))

  abbrev pub layout : Layout
  layout = layout_of (state_in super (content events))

  alike : AgreeByAddress (opened_nodes super (content events))
  alike = record {
    agree = λ a b has also same.
        let first = (listed-there fs super events sound opened a has).is in
        let second = (listed-there fs super events sound opened b also).is in
        let e : Some a ≡ Some b = sym first ∙ ap (λ (q : ℕ). nodes_of fs (Recorded events) q) same ∙ second in
        cc;
  }

  laid_is : (layout_of (state_in super (content events))).nodes
      ≡ layout_by (extent_parts super (content events)) (opened_nodes super (content events))
  unfolding state_in
  laid_is = layout_in-nodes super (content events)

  pub roots-are : (layout_of (state_in super (content events))).roots
      ≡ map root_told_by (subvolume_roots (roots_in super (content events)))
  unfolding state_in subvolumes_in
  roots-are = subvolume_roots_are super (content events) (subvolume_roots (roots_in super (content events)))

  size_is : (layout_of (state_in super (content events))).nodesize ≡ super.nodesize
  unfolding state_in
  size_is = refl

  by_address : IsLaid (extent_parts super (content events)) (opened_nodes super (content events))
      (layout_by (extent_parts super (content events)) (opened_nodes super (content events)))
  by_address = laid (extent_parts super (content events)) (opened_nodes super (content events)) alike

  made_is : (layout_of (state_in super (content events))).nodes
      ≡ map (entry_of (extent_parts super (content events))) by_address.sorted
  made_is = laid_is ∙ by_address.are

  -- ---- entries

  -- an entry of the state's layout is that of a node that the tree reaches
  pub record IsEntry (entry : ℕ × Placed) : Type 0 where
    pub here : (header_of entry.1.node).address ≡ entry.0
    pub met : IsMet fs (Recorded events) entry.0
    pub is : nodes_of fs (Recorded events) entry.0 ≡ Some entry.1.node

  pub entry-is : (entry : ℕ × Placed) → Contains (layout_of (state_in super (content events))).nodes entry
      → IsEntry entry
  entry-is entry has =
      let made = from-mapped (entry_of (extent_parts super (content events))) by_address.sorted entry
      (subst (λ (table : List (ℕ × Placed)). Contains table entry) made_is has) in
      let there = listed-there fs super events sound opened made.0 (by_address.same.into made.0 made.1) in
      subst IsEntry made.2 (record { here = refl; met = there.met; is = there.is })

  some_slots : 0 < fs.land.space.sizes.nodesize
  some_slots = (SlotsFit-is_served fs.land.space.sizes
      (drafted-there fs super events sound opened).sizes.served).some

  own_ascend : IsStrictlyIncreasing (keys_of (nodes_in fs (Recorded events)))
  own_ascend = nodes-ascend fs (Recorded events) some_slots (placed-opened fs super events sound opened)

  own_entry : (entry : ℕ × Placed) → Contains (nodes_in fs (Recorded events)) entry
      → IsMetAs fs (Recorded events) entry.0 entry.1
  own_entry entry has = reached-by fs (Recorded events) entry.0 entry.1
      (value_of_entry (nodes_in fs (Recorded events)) entry own_ascend has)

  -- ---- keys

  key_into : (q : ℕ) → Contains (keys_of (nodes_in fs (Recorded events))) q
      → Contains (map (λ node. (header_of node).address) by_address.sorted) q
  key_into q has =
      let entry = from-mapped (λ (entry : ℕ × Placed). entry.0) (nodes_in fs (Recorded events)) q has in
      let its = own_entry entry.0 entry.1 in
      let lies = lies-opened fs super events sound opened entry.0.0 entry.0.1.node its.told in
      let among = by_address.same.back entry.0.1.node
      (reached-listed fs super events sound opened entry.0.0 its.met entry.0.1.node its.told) in
      subst (λ (a : ℕ). Contains (map (λ (node : Node). (header_of node).address) by_address.sorted) a)
      (lies ∙ entry.2)
      (has-mapped (λ (node : Node). (header_of node).address) by_address.sorted entry.0.1.node among)

  key_back : (q : ℕ) → Contains (map (λ node. (header_of node).address) by_address.sorted) q
      → Contains (keys_of (nodes_in fs (Recorded events))) q
  key_back q has =
      let node = from-mapped (λ (node : Node). (header_of node).address) by_address.sorted q has in
      let there = listed-there fs super events sound opened node.0
      (by_address.same.into node.0 node.1) in
      let address = (header_of node.0).address in
      let placed_so : Placed = record { node = node.0; full = full_in (book_of fs.refs.refs address) } in
      let value = value-reached fs (Recorded events) some_slots (placed-opened fs super events sound opened)
      address placed_so (record { met = there.met; told = there.is; full = refl }) in
      subst (λ (a : ℕ). Contains (keys_of (nodes_in fs (Recorded events))) a) node.2
      (has-mapped (λ (entry : ℕ × Placed). entry.0) (nodes_in fs (Recorded events)) (address, placed_so)
      (entry_of_value address placed_so (nodes_in fs (Recorded events)) value))

  keys_are : keys_of (nodes_in fs (Recorded events)) ≡ keys_of (layout_of (state_in super (content events))).nodes
  keys_are =
      same_ascending (keys_of (nodes_in fs (Recorded events)))
      (map (λ (node : Node). (header_of node).address) by_address.sorted)
      (ascends_of (keys_of (nodes_in fs (Recorded events))) own_ascend) by_address.ascends
      (record { into = key_into; back = key_back })
      ∙ sym (keys_made (extent_parts super (content events)) by_address.sorted)
      ∙ ap keys_of (sym made_is)

  layout_ascends : IsStrictlyIncreasing (keys_of (layout_of (state_in super (content events))).nodes)
  layout_ascends = subst IsStrictlyIncreasing keys_are own_ascend

  pub value-there : (entry : ℕ × Placed) → Contains (layout_of (state_in super (content events))).nodes entry
      → value_at entry.0 (layout_of (state_in super (content events))).nodes ≡ Some entry.1
  value-there entry has = value_of_entry (layout_of (state_in super (content events))).nodes entry layout_ascends has

  each_same : (x y : ℕ × Placed) → Contains (nodes_in fs (Recorded events)) x
      → Contains (layout_of (state_in super (content events))).nodes y → x.0 ≡ y.0 → x ≡ y
  each_same x y has also same =
      let mine = own_entry x has in
      let its = entry-is y also in
      let node : x.1.node ≡ y.1.node =
      (let e : Some x.1.node ≡ Some y.1.node = sym mine.told
      ∙ ap (λ (q : ℕ). nodes_of fs (Recorded events) q) same ∙ its.is in cc) in
      let mark = node-mark super.nodesize (layout_of (state_in super (content events)))
      (extent_parts super (content events)) (book_of fs.refs.refs) sound.agrees opened.told y.0 y.1
      (value-there y also) in
      let full : x.1.full ≡ y.1.full =
      mine.full ∙ ap (λ (q : ℕ). full_in (book_of fs.refs.refs q)) same ∙ mark in
      ap (λ (q : ℕ). (q, x.1)) same
      ∙ ap (λ (n : Node). let p : Placed = record { node = n; full = x.1.full } in (y.0, p)) node
      ∙ ap (λ (f : Bool). let p : Placed = record { node = y.1.node; full = f } in (y.0, p)) full

  pub nodes-opened : nodes_in fs (Recorded events) ≡ (layout_of (state_in super (content events))).nodes
  nodes-opened = pairs_same (nodes_in fs (Recorded events)) (layout_of (state_in super (content events))).nodes keys_are
      each_same

  size_in : (layout_in fs (Recorded events)).nodesize ≡ fs.land.space.sizes.nodesize
  unfolding layout_in
  size_in = refl

  roots_in_layout : (layout_in fs (Recorded events)).roots ≡ roots_of fs
  unfolding layout_in
  roots_in_layout = refl

  -- ---- roots

  abbrev others_up : IsStrictlyIncreasing (map (λ (other : Root). other.owner) fs.others.items)
  others_up = others-ascend fs super events sound opened

  own_up : IsStrictlyIncreasing (keys_of (roots_of fs))
  own_up = roots-ascend fs others_up (other-number fs super events sound opened)

  told_up : IsStrictlyIncreasing
      (keys_of (map root_told_by (subvolume_roots (roots_in super (content events)))))
  told_up = subst (λ (numbers : List ℕ). IsStrictlyIncreasing numbers)
      (sym (told_keys (subvolume_roots (roots_in super (content events))))) sound.ascending

  root_into : (x : ℕ × ℕ) → Contains (roots_of fs) x
      → Contains (map root_told_by (subvolume_roots (roots_in super (content events)))) x
  root_into x has =
      let root = root-tree fs others_up (other-number fs super events sound opened) x.0 x.1
      (value_of_entry (roots_of fs) x own_up has) in
      let entry = tree-entry fs super events sound opened root.tree root.among in
      let pair : root_told_by entry.0 ≡ (x.0, x.1) = ap (λ (tree : Root). (tree.owner, tree.address)) entry.2
      ∙ ap (λ (n : ℕ). (n, root.tree.address)) root.number_is ∙ ap (λ (a : ℕ). (x.0, a)) root.root_is in
      subst (λ (e : ℕ × ℕ). Contains (map root_told_by (subvolume_roots (roots_in super (content events)))) e) pair
      (has-mapped root_told_by (subvolume_roots (roots_in super (content events))) entry.0 entry.1)

  root_back : (y : ℕ × ℕ) → Contains (map root_told_by (subvolume_roots (roots_in super (content events)))) y
      → Contains (roots_of fs) y
  root_back y has =
      let entry = from-mapped root_told_by (subvolume_roots (roots_in super (content events))) y has in
      let tree = opened_tree super entry.0 in
      subst (λ (e : ℕ × ℕ). Contains (roots_of fs) e) entry.2
      (entry_of_value tree.owner tree.address (roots_of fs)
      (tree-root fs others_up (other-number fs super events sound opened) tree
      (entry-tree fs super events sound opened entry.0 entry.1)))

  pub roots-opened : roots_of fs ≡ (layout_of (state_in super (content events))).roots
  roots-opened =
      tables_same (roots_of fs) (map root_told_by (subvolume_roots (roots_in super (content events)))) own_up told_up
      root_into root_back
      ∙ sym roots-are

  pub layout-opened : layout_in fs (Recorded events) ≡ layout_of (state_in super (content events))
  layout-opened = layout_alike (layout_in fs (Recorded events)) (layout_of (state_in super (content events)))
      (size_in ∙ ap (λ (sizes : Sizes). sizes.nodesize) opened.sizes ∙ sym size_is)
      (roots_in_layout ∙ roots-opened) nodes-opened

  -- what some tree reaches is told in the state's layout
  pub node-laid : (q : ℕ) → IsMet fs (Recorded events) q
      → node_at (layout_of (state_in super (content events))).nodes q ≡ nodes_of fs (Recorded events) q
  node-laid q met =
      let node = node-met fs super events sound opened q met in
      let placed_so : Placed = record { node = node.0; full = full_in (book_of fs.refs.refs q) } in
      ap (λ (table : List (ℕ × Placed)). node_at table q) (sym nodes-opened)
      ∙ ap (λ (o : Option Placed). option_map (λ (p : Placed). p.node) o)
      (value-reached fs (Recorded events) some_slots (placed-opened fs super events sound opened) q placed_so
      (record { met = met; told = node.1; full = refl }))
      ∙ sym node.1
