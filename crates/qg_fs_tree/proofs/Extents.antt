-- References to extents of trees that stand: those of the tree at hand by its names, and those of the others.
use Rattle.std.proofs.Common.{◌≡◌, ℕ, zero, suc, ◌+◌, ◌*◌, ◌<◌, ◌≤◌, List, [], ◌∷◌, Option, Some, None, arith, refl}
use Rattle.std.proofs.Common.{sym, subst, ◌∙◌, inl, inr}
use Rattle.std.specs.Prelude.{IsTrue}
use Rattle.std.specs.List.{Contains, filter_map}
use Rattle.std.proofs.lemmas.Bool.{eq-eqb}
use Rattle.std.proofs.lemmas.List.Sums.{sum_by-cons}
use Rattle.qg_device.specs.History.{History}
use Rattle.qg_num.specs.declared.piece.Piece.{Piece}
use Rattle.qg_node.specs.declared.item.Item.{Item}
use Rattle.qg_node.specs.declared.node.Node.{Node}
use Rattle.qg_node.specs.Nodes.{own_items}
use Rattle.qg_items.specs.declared.extent.Reference.TheVariants.{KeyedData}
use Rattle.qg_super.specs.Places.{is_slot}
use Rattle.qg_image.specs.State.{Placed}
use Rattle.qg_image.specs.Owed.{owed_by_node}
use Rattle.qg_tree_edits.specs.Land.{IsDrafted}
use Rattle.qg_refs.specs.Book.{count_at, references_at}
use Rattle.qg_extents.specs.Table.{book_of}
use Rattle.qg_image.specs.declared.tree.TreeKind.TheVariants.{Files}
use Rattle.qg_tree_edits.specs.Tree.{Root, super_of}
use Rattle.qg_tree_edits.proofs.BranchFrames.{reach-top}
use Rattle.qg_tree_backrefs.proofs.ReferenceTotals.{many, total}
use Rattle.qg_fs_tree.specs.declared.fs_tree.FsTree.{FsTree}
use Rattle.qg_fs_tree.specs.Standing.{IsReachedBy, Stands, items_in, name_of, name_told, names_elsewhere, names_times}
use Rattle.qg_fs_tree.specs.Standing.{nodes_of}
use Rattle.qg_fs_tree.proofs.Before.{beside-there, beside_parts, counted, later_tree, names_there, other-tree, placed}
use Rattle.qg_fs_tree.proofs.Beside.{around_of, beside_in, foreign_in, own_ways, roots_owed, slots_of}
use Rattle.qg_fs_tree.proofs.Counts.{branch}
use Rattle.qg_fs_tree.proofs.Fixed.{elsewhere-told, fixed, tree_below}
use Rattle.qg_tree_edits.proofs.BranchItems.{in-leaf}
use Rattle.qg_fs_tree.proofs.Lists.{from-flat, from-some, made-some}
use Rattle.qg_fs_tree.proofs.Nodes.{IsNamed, many-owed, owed-some, roots-some, times-many}
use Rattle.qg_fs_tree.proofs.Owes.{owed_in}
use Rattle.qg_fs_tree.proofs.Owings.{names_of}
use Rattle.qg_fs_tree.proofs.SlotSums.{over}
use Rattle.qg_fs_tree.proofs.Turned.{Around, IsOwed, beside_many, no_way, own-half, total-is}

-- a term of a sum over slots that is something
pub record IsOver (w f : ℕ → ℕ) : Type 0 where
  pub at : ℕ
  pub way : 0 < w at
  pub some : 0 < f at

both_some : (n m : ℕ) → 0 < n * m → (0 < n) × (0 < m)
both_some zero m some = absurd (omega (arith, some))
both_some (suc n) zero some = absurd (let none : suc n * 0 ≡ 0 = omega arith in omega (arith, none, some))
both_some (suc n) (suc m) some = (omega arith, omega arith)

-- none where it would be wrong that there are some
pub none-some : (n : ℕ) → (0 < n → ⊥) → n ≡ 0
none-some zero never = refl
none-some (suc n) never = absurd (never (omega arith))

pub over-found : (slots : List ℕ) (w f : ℕ → ℕ) → 0 < over slots w f → IsOver w f
over-found [] w f some = absurd (omega (arith, some))
over-found (s ∷ slots) w f some = from (λ later. over-found slots w f later) (w s * f s) refl where
  from : (0 < over slots w f → IsOver w f) → (n : ℕ) → w s * f s ≡ n → IsOver w f
  from rest zero none =
      rest (let both = sum_by-cons (λ (q : ℕ). w q * f q) s slots in omega (arith, both, none, some))
  from rest (suc n) is =
      let parts = both_some (w s) (f s) (omega (arith, is)) in
      record { at = s; way = parts.0; some = parts.1 }

-- a node whose items tell a piece owes something to its extent
owes_piece : (o : Option Node) (node : Node) (placed : Placed) (item : Item) (name : ℕ × Piece) → o ≡ Some node
    → o ≡ Some placed.node → Contains (own_items node) item → name_told item ≡ Some name
    → 0 < many (owed_by_node placed) name.1.extent
owes_piece o node placed item name is there has told =
    let both : Some node ≡ Some placed.node = sym is ∙ there in
    let same : node ≡ placed.node = cc in
    let own = made-some name_told (own_items placed.node) item name
    (subst (λ (n : Node). Contains (own_items n) item) same has) told in
    let some = names_there 0 (filter_map name_told (own_items placed.node)) name own in
    let most = times-many (names_of 0 (filter_map name_told (own_items placed.node))) name.1.extent
    (name_of 0 name).reference in
    let all = many-owed placed name.1.extent in
    omega (arith, some, most, all)

module _ (fs : FsTree) (history : History) (items : List Item) (names : List (ℕ × Piece))
    (stands : Stands fs history items names)
    (drafted : IsDrafted fs.land fs.tree.next) where
  abbrev around : Around
  around = around_of fs history names

  -- no way leads to an extent, and no root of another tree lies there
  pub no-way-outside : (at : ℕ) → (IsTrue (is_slot fs.land.space.sizes at) → ⊥) → own_ways fs history at ≡ 0
  no-way-outside at outside =
      none-some (own_ways fs history at) (λ some. outside (placed fs history items names stands drafted at some))

  pub no-root-outside : (at : ℕ) → (IsTrue (is_slot fs.land.space.sizes at) → ⊥)
      → many (roots_owed fs.others.items) at ≡ 0
  no-root-outside at outside =
      none-some (many (roots_owed fs.others.items) at) (λ some.
      let root = roots-some fs.others.items at some in
      outside (stands.placed root.tree at
      (later_tree fs history items names stands drafted root.tree root.among)
      (subst (λ (q : ℕ). IsReachedBy fs history root.tree q) root.is
      (reach-top (nodes_of fs history) root.tree.height root.tree.address))))

  -- as many references lead to an extent as names of the tree at hand, and as others owe
  pub extent-total : (at : ℕ) → (IsTrue (is_slot fs.land.space.sizes at) → ⊥)
      → total (references_at (book_of fs.refs.refs) at)
      ≡ many (names_of fs.tree.owner names) at + beside_many around (own_ways fs history) at
  extent-total at outside =
      let all = total-is around (book_of fs.refs.refs) (own_ways fs history) (foreign_in fs history)
      (counted fs history items names stands drafted) at in
      let none = no-way-outside at outside in
      let roots = no-root-outside at outside in
      omega (arith, all, none, roots)

  -- a keyed reference of the tree at hand is there no more often than it is named
  pub count-named : (at ino offset : ℕ)
      → count_at (book_of fs.refs.refs) at (KeyedData fs.tree.owner ino offset)
      ≤ names_times fs.tree.owner names at (KeyedData fs.tree.owner ino offset)
  count-named at ino offset =
      let half = own-half around (λ (q : ℕ). IsTrue (is_slot fs.land.space.sizes q))
      (fixed fs history items names stands drafted) (book_of fs.refs.refs) (own_ways fs history) (foreign_in fs history)
      (λ q p is. is) (counted fs history items names stands drafted) at (KeyedData fs.tree.owner ino offset)
      (eq-eqb fs.tree.owner fs.tree.owner refl) in
      omega (arith, half)

  -- what others owe to an extent a piece of theirs names
  pub beside-named : (at : ℕ) → (IsTrue (is_slot fs.land.space.sizes at) → ⊥)
      → 0 < beside_many around (own_ways fs history) at
      → IsNamed (names_elsewhere fs history) at
  beside-named at outside some =
      let found = over-found (slots_of fs) (no_way (own_ways fs history))
      (λ (s : ℕ). many (owed_in (beside_in fs history s)) at) some in
      from found.at (beside_in fs history found.at) refl found.some where
        from : (s : ℕ) (o : Option Placed) → beside_in fs history s ≡ o → 0 < many (owed_in o) at
            → IsNamed (names_elsewhere fs history) at
        from s None is there = absurd (omega (arith, there))
        from s (Some p) is there =
            let parts = beside_parts fs history items names stands drafted s p is in
            let by = parts.0 in
            elim (owed-some p at there) [
              | inl child ↦
                  absurd (outside (stands.placed by.tree at
                  (later_tree fs history items names stands drafted by.tree by.among)
                  (tree_below fs history items names stands drafted by.tree
                  (other-tree fs history items names stands drafted by.tree by.among) s at p.node by.reached parts.1
                  child)))
              | inr named ↦ record {
                name = named.name;
                among = elsewhere-told fs history items names stands drafted s p.node named.name by parts.1 named.among;
                is = named.is;
              }
            ]

  -- and a piece that another tree tells is one of a node that is beside
  pub piece-owed : (name : ℕ × Piece) → Contains (names_elsewhere fs history) name → IsOwed around name.1.extent
  unfolding names_elsewhere
  piece-owed name has =
      let found = from-flat (λ (tree : Root). filter_map name_told (items_in fs history tree)) fs.others.items name
      has in
      let tree = other-tree fs history items names stands drafted found.0 found.1 in
      let own : items_in fs history found.0 ≡ tree.items = rw tree.rooted.tells.items_are refl in
      let item = from-some name_told tree.items name
      (subst (λ (xs : List Item). Contains (filter_map name_told xs) name) own found.2) in
      let leaf = in-leaf Files (super_of found.0 fs.land.blocks.draft) (nodes_of fs history) item.0
      found.0.height found.0.address tree.items
      (branch fs history found.0 tree.items tree.rooted tree.drafted) item.1 in
      let beside = beside-there fs history items names stands drafted leaf.at
      (record { tree = found.0; among = found.1; reached = leaf.reached }) in
      let parts = beside_parts fs history items names stands drafted leaf.at beside.placed beside.is in
      record {
        by = leaf.at;
        placed = beside.placed;
        is = beside.is;
        some = owes_piece (nodes_of fs history leaf.at) leaf.node beside.placed item.0 name leaf.there parts.1 leaf.has
            item.2;
      }
