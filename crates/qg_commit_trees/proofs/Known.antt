-- What the book of trees that stand knows: the root of the one at hand, and nothing of a generation past the one to
-- come.
use Rattle.std.proofs.Common.{◌≡◌, ℕ, ◌<◌, ◌≤◌, List, ◌++◌, length, get_or, Option, Some, None, arith, refl, sym, ap}
use Rattle.std.proofs.Common.{subst, ◌∙◌, inl, inr}
use Rattle.std.specs.Prelude.{◌⊎◌, All}
use Rattle.std.specs.List.{Contains, filter_map}
use Rattle.std.proofs.lemmas.Bool.{cases_lt}
use Rattle.std.proofs.lemmas.List.Elements.{Contains-append_left}
use Rattle.qg_device.specs.History.{History}
use Rattle.qg_num.specs.declared.piece.Piece.{Piece}
use Rattle.qg_node.specs.declared.item.Item.{Item}
use Rattle.qg_node.specs.declared.node.Node.{Node}
use Rattle.qg_node.specs.Nodes.{header_of, own_items}
use Rattle.qg_items.specs.declared.extent.Reference.{Reference}
use Rattle.qg_image.specs.declared.element.Element.{Element}
use Rattle.qg_image.specs.Owed.{owed_count}
use Rattle.qg_image.specs.State.{Placed}
use Rattle.qg_image.proofs.Contained.{contains_cases, contains_here}
use Rattle.qg_owner_rule.proofs.Reaching.{value_of_entry}
use Rattle.qg_image.specs.declared.tree.TreeKind.TheVariants.{Files}
use Rattle.qg_blocks.specs.NodesFound.{fresh_at}
use Rattle.qg_node_alloc.specs.Land.{IsDrafted}
use Rattle.qg_refs.specs.declared.kept.What.{What}
use Rattle.qg_refs.specs.declared.kept.Kept.{Kept}
use Rattle.qg_refs.specs.Book.{references_in, what_in}
use Rattle.qg_extents.specs.Table.{IsTable, book_of}
use Rattle.qg_extents.proofs.Sayable.{entry-found}
use Rattle.qg_tree_read.specs.Tree.{Root, super_of}
use Rattle.qg_shared_trees.specs.Following.{references_to}
use Rattle.qg_shared_trees.specs.Settled.{what_of}
use Rattle.qg_shared_trees.proofs.Referring.{OwesChild, OwesRoot, OwesRun, counted-by, referred-counted}
use Rattle.qg_shared_trees.specs.Types.{FsTree}
use Rattle.qg_shared_trees.specs.Standing.{IsReachedBy, IsSubvolume, Stands, items_in, layout_in, name_of, name_told}
use Rattle.qg_shared_trees.specs.Standing.{names_elsewhere, names_times, nodes_of, roots_of, trees_of}
use Rattle.qg_shared_trees.proofs.Before.{known_of, names_there}
use Rattle.qg_shared_trees.proofs.Counts.{node-there}
use Rattle.qg_shared_trees.proofs.Fixed.{elsewhere_name, tree_below}
use Rattle.qg_tree_read.proofs.BranchItems.{from-leaf}
use Rattle.qg_shared_trees.proofs.Lists.{made-some}
use Rattle.qg_shared_trees.proofs.FsTreeNodes.{IsNamed, names-some, times-many}
use Rattle.qg_shared_trees.proofs.Owings.{names_of}
use Rattle.qg_shared_trees.specs.Laying.{IsMet, IsMetAs, nodes_in}
use Rattle.qg_shared_trees.proofs.Extents.{own-extent}
use Rattle.qg_shared_trees.proofs.FreshOrHeld.{met-referred}
use Rattle.qg_shared_trees.proofs.Moved.{fresh-told}
use Rattle.qg_shared_trees.proofs.Nodes.{nodes-ascend, reached-by}
use Rattle.qg_shared_trees.proofs.Roots.{root-tree, roots-ascend}
use Rattle.qg_shared_trees.proofs.Trees.{branch, items-at_hand, met-slot, next-same, numbers-apart, root-reached}
use Rattle.qg_shared_trees.proofs.Trees.{root-there, sized, tree-stands}
use Rattle.qg_commit_trees.specs.Knowing.{KnowsRoot, generation_in}
use Rattle.qg_commit_trees.proofs.Later.{generation-low}

-- ---- words

some_kept : (kept : Option Kept) (what : What) → what_in kept ≡ Some what
    → ((there : Kept) → kept ≡ Some there → 0 < length there.references) → 0 < length (references_in kept)
some_kept None what is some = absurd cc
some_kept (Some kept) what is some = some kept refl

-- ---- nodes

module _ (fs : FsTree) (history : History) (bytes : ℕ) (items : List Item) (names : List (ℕ × Piece))
    (subvolume : IsSubvolume fs history bytes) (stands : Stands fs history items names) where
  drafted : IsDrafted fs.land fs.tree.next
  drafted = subvolume.editable.drafted

  -- of each node that references lead to, level and generation
  pub known-node : (at : ℕ) (node : Node) → nodes_of fs history at ≡ Some node
      → 0 < references_to (book_of fs.refs.refs) at
      → what_in (book_of fs.refs.refs at) ≡ Some (what_of fs.refs.nodesize (header_of node).generation node)
  known-node at node there some = from (fresh_at fs.land.blocks.draft at) refl where
    from : (o : Option Node) → fresh_at fs.land.blocks.draft at ≡ o
        → what_in (book_of fs.refs.refs at) ≡ Some (what_of fs.refs.nodesize (header_of node).generation node)
    from None none = stands.settled.clean at node none there some
    from (Some mine) is =
        let same : mine ≡ node =
        let e : Some mine ≡ Some node = sym (fresh-told fs.land history at mine is) ∙ there in cc in
        let dated = (drafted.each at mine is).dated in
        stands.settled.fresh at mine is
        ∙ ap (λ (n : ℕ). Some (what_of fs.refs.nodesize n mine)) (stands.book.next ∙ sym dated)
        ∙ ap (λ (n : Node). Some (what_of fs.refs.nodesize (header_of n).generation n)) same

  pub knows-root : KnowsRoot fs history
  knows-root =
      let has = contains_here fs.tree fs.others.items in
      let top = root-there fs history bytes items names subvolume stands fs.tree has in
      record {
        node = top.0;
        told = top.1;
        level = top.2;
        known = known-node fs.tree.address top.0 top.1
            (met-referred fs history bytes items names subvolume stands fs.tree.address
            (record {
              tree = fs.tree;
              among = has;
              reached = root-reached fs history bytes items names subvolume stands fs.tree;
            }));
      }

  -- ---- where references lead

  abbrev all_names : List (ℕ × Piece)
  all_names = names ++ names_elsewhere fs history

  -- to a piece that is named
  own_named : (at : ℕ) (reference : Reference) → 0 < names_times fs.tree.owner names at reference
      → IsNamed all_names at
  own_named at reference some =
      let most = times-many (names_of fs.tree.owner names) at reference in
      let named = names-some fs.tree.owner names at (omega (arith, some, most)) in
      record {
        name = named.name;
        among = Contains-append_left names (names_elsewhere fs history) named.name named.among;
        is = named.is;
      }

  -- each piece that a node tells is named, or another tree tells it
  told_named : (tree : Root) → Contains (trees_of fs) tree → (q : ℕ) (node : Node) → IsReachedBy fs history tree q
      → nodes_of fs history q ≡ Some node → (item : Item) → Contains (own_items node) item → (name : ℕ × Piece)
      → name_told item ≡ Some name → IsNamed all_names name.1.extent
  told_named tree has q node reached there item own name told =
      elim (contains_cases fs.tree fs.others.items tree has) [
        | inl mine ↦
            let among = from-leaf Files (super_of tree fs.land.blocks.draft) (nodes_of fs history) item tree.height
            tree.address (items_in fs history tree) (branch fs history bytes items names subvolume stands tree has) q
            reached node there own in
            let here = subst (λ (t : Root). Contains (items_in fs history t) item) (sym mine) among in
            let listed = subst (λ (xs : List Item). Contains xs item)
            (items-at_hand fs history bytes items names subvolume stands) here in
            let some = names_there fs.tree.owner (filter_map name_told items) name
            (made-some name_told items item name listed told) in
            let within = stands.within name.1.extent (name_of fs.tree.owner name).reference in
            own_named name.1.extent (name_of fs.tree.owner name).reference (omega (arith, some, within))
        | inr later ↦ record {
          name = name;
          among = elsewhere_name fs history items names stands drafted q node name
              (record { tree = tree; among = later; reached = reached }) there
              (made-some name_told (own_items node) item name own told);
          is = refl;
        }
      ]

  roots_are : (layout_in fs history).roots ≡ roots_of fs
  unfolding layout_in
  roots_are = refl

  -- a root is one of a tree
  root_met : (at : ℕ) → OwesRoot (layout_in fs history) at → IsMet fs history at
  root_met at owes =
      let apart = numbers-apart fs history bytes items names subvolume stands in
      let there = value_of_entry (roots_of fs) owes.entry (roots-ascend fs stands.ascending apart)
      (subst (λ (table : List (ℕ × ℕ)). Contains table owes.entry) roots_are owes.has) in
      let root = root-tree fs stands.ascending apart owes.entry.0 owes.entry.1 there in
      record {
        tree = root.tree;
        among = root.among;
        reached = subst (λ (a : ℕ). IsReachedBy fs history root.tree a) (root.root_is ∙ owes.here)
            (root-reached fs history bytes items names subvolume stands root.tree);
      }

  entry_met : (entry : ℕ × Placed) → Contains (nodes_in fs history) entry → IsMetAs fs history entry.0 entry.1
  entry_met entry has = reached-by fs history entry.0 entry.1
      (value_of_entry (nodes_in fs history) entry
      (nodes-ascend fs history (sized fs history bytes items names subvolume stands)
      (met-slot fs history bytes items names subvolume stands)) has)

  child_met : (at : ℕ) → OwesChild (layout_in fs history) at → IsMet fs history at
  child_met at owes =
      let its = entry_met owes.entry owes.has in
      record {
        tree = its.met.tree;
        among = its.met.among;
        reached = tree_below fs history items names stands drafted its.met.tree
            (tree-stands fs history bytes items names subvolume stands its.met.tree its.met.among) owes.entry.0 at
            owes.entry.1.node its.met.reached its.told owes.leads;
      }

  run_named : (at : ℕ) → OwesRun (layout_in fs history) at → IsNamed all_names at
  run_named at owes =
      let its = entry_met owes.entry owes.has in
      let item = own-extent owes.entry.1.node owes.run owes.names in
      let named = told_named its.met.tree its.met.among owes.entry.0 owes.entry.1.node its.met.reached its.told item.0
      item.1 item.2.name item.2.told in
      record {
        name = named.name;
        among = named.among;
        is = named.is ∙ ap (λ (e : Element). e.address) item.2.is ∙ owes.here;
      }

  owed_leads : (at : ℕ) (reference : Reference) → 0 < owed_count (layout_in fs history) at reference
      → IsMet fs history at ⊎ IsNamed all_names at
  owed_leads at reference some = elim (counted-by (layout_in fs history) at reference some) [
    | inl root ↦ inl (root_met at root)
    | inr (inl child) ↦ inl (child_met at child)
    | inr (inr run) ↦ inr (run_named at run)
  ]

  module _ (table : IsTable fs.refs.refs) where
    -- to what some tree reaches, or to such a piece
    pub leads : (at : ℕ) → 0 < references_to (book_of fs.refs.refs) at → IsMet fs history at ⊎ IsNamed all_names at
    leads at some =
        let counted = referred-counted (book_of fs.refs.refs) table.book at some in
        let there = counted.1 in
        let counts = stands.counts at counted.0 in
        elim (cases_lt 0 (names_times fs.tree.owner names at counted.0)) [
          | inl named ↦ inr (own_named at counted.0 named)
          | inr none ↦ owed_leads at counted.0 (omega (arith, there, counts, none))
        ]

    -- ---- generations

    -- of a node that is reached
    met_low : (at : ℕ) (what : What) → what_in (book_of fs.refs.refs at) ≡ Some what
        → 0 < references_to (book_of fs.refs.refs) at → IsMet fs history at → what.generation ≤ fs.tree.next
    met_low at what known some met =
        let tree = met.tree in
        let own = tree-stands fs history bytes items names subvolume stands tree met.among in
        let node = node-there fs history tree own.items own.rooted own.drafted at met.reached in
        let dates : (header_of node.0).generation ≡ what.generation =
        ap generation_in (sym (known-node at node.0 node.1 some) ∙ known) in
        let low = generation-low Files (super_of tree fs.land.blocks.draft) (nodes_of fs history) tree.height
        tree.address (items_in fs history tree) (branch fs history bytes items names subvolume stands tree met.among)
        at met.reached node.0 node.1 in
        let next = next-same fs history bytes items names subvolume stands tree met.among in
        omega (arith, dates, low, next)

    -- and of an extent that a piece names
    named_low : (at : ℕ) (what : What) → what_in (book_of fs.refs.refs at) ≡ Some what → IsNamed all_names at
        → what.generation ≤ fs.tree.next
    named_low at what known named =
        let extent = known_of fs history items names stands drafted named.name named.among in
        let is : extent.generation ≡ what.generation =
        ap generation_in (sym extent.known ∙ ap (λ (a : ℕ). what_in (book_of fs.refs.refs a)) named.is ∙ known) in
        let date = extent.dated in
        omega (arith, is, date)

    pub known-low : (at : ℕ) (what : What) → what_in (book_of fs.refs.refs at) ≡ Some what
        → what.generation ≤ fs.tree.next
    known-low at what known =
        let some = some_kept (book_of fs.refs.refs at) what known (table.book.some at) in
        elim (leads at some) [
          | inl met ↦ met_low at what known some met
          | inr named ↦ named_low at what known named
        ]

    each_low : All (λ (entry : ℕ × Kept). entry.1.what.generation ≤ fs.tree.next) fs.refs.refs
    each_low i d inside =
        known-low (get_or fs.refs.refs i d).0 (get_or fs.refs.refs i d).1.what
        (ap what_in (entry-found fs.refs.refs i d table.ascend inside))

pub no-later : (fs : FsTree) (history : History) (bytes : ℕ) (items : List Item)
    (names : List (ℕ × Piece)) → IsTable fs.refs.refs → IsSubvolume fs history bytes → Stands fs history items names
    → All (λ (entry : ℕ × Kept). entry.1.what.generation ≤ fs.tree.next) fs.refs.refs
no-later fs history bytes items names table subvolume stands =
    each_low fs history bytes items names subvolume stands table
