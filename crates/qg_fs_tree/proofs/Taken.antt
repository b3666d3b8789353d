-- A slot is taken exactly where a way of the tree at hand, or another tree, leads to it.
use Rattle.std.proofs.Common.{◌≡◌, ℕ, zero, suc, ◌<◌, Bool, true, false, List, Option, None, arith, refl, sym, ap, ◌∙◌}
use Rattle.std.proofs.Common.{inl, inr}
use Rattle.std.specs.Prelude.{◌||◌, IsTrue, if◌then◌else◌, nat_lt}
use Rattle.std.proofs.lemmas.Bool.{lt-ltb}
use Rattle.qg_device.specs.History.{History}
use Rattle.qg_num.specs.declared.piece.Piece.{Piece}
use Rattle.qg_node.specs.declared.item.Item.{Item}
use Rattle.qg_super.specs.Places.{is_slot}
use Rattle.qg_image.specs.State.{Placed}
use Rattle.qg_space.specs.Holding.{has_slot}
use Rattle.qg_tree_edits.specs.Land.{IsDrafted}
use Rattle.qg_refs.specs.Book.{references_at}
use Rattle.qg_extents.specs.Table.{IsTable, book_of}
use Rattle.qg_tree_backrefs.specs.declared.tree_refs.TreeRefs.{TreeRefs}
use Rattle.qg_tree_backrefs.specs.Following.{references_to}
use Rattle.qg_tree_backrefs.proofs.ReferenceTotals.{total}
use Rattle.qg_fs_tree.specs.declared.fs_tree.FsTree.{FsTree}
use Rattle.qg_fs_tree.specs.Standing.{Stands, nodes_of}
use Rattle.qg_fs_tree.proofs.Before.{beside-there, elsewhere-parts, some_length}
use Rattle.qg_fs_tree.proofs.Beside.{around_of, beside_in, beside_of, elsewhere, foreign_in, mark_of, own_ways}
use Rattle.qg_fs_tree.proofs.Exchanged.{lasting, reached_first, references-none}
use Rattle.qg_fs_tree.proofs.Fixed.{StandsFor-before, fixed}
use Rattle.qg_fs_tree.proofs.Turned.{Around, StandsFor, total-is}

module _ (fs : FsTree) (history : History) (items : List Item) (names : List (ℕ × Piece))
    (stands : Stands fs history items names) (drafted : IsDrafted fs.land fs.tree.next) where
  abbrev around : Around
  around = around_of fs history names

  abbrev IsSlot : ℕ → Type 0
  IsSlot at = IsTrue (is_slot fs.land.space.sizes at)

  -- references lead to a slot where the way or another tree does, in a book that stands for any ways
  pub led-slot : (book : TreeRefs) (w : ℕ → ℕ) (foreign : ℕ → Option Placed) → StandsFor around IsSlot book w foreign
      → (at : ℕ) → IsSlot at
      → nat_lt 0 (references_to (book_of book.refs) at) ≡ (nat_lt 0 (w at) || elsewhere fs history at)
  led-slot book w foreign is at slot = from (w at) refl (elsewhere fs history at) refl where
    some_there : 0 < total (references_at (book_of book.refs) at) → (b : Bool) → b ≡ true
        → nat_lt 0 (references_to (book_of book.refs) at) ≡ b
    some_there some b true_is =
        lt-ltb 0 (references_to (book_of book.refs) at) (some_length (references_at (book_of book.refs) at) some)
        ∙ sym true_is

    from : (n : ℕ) → w at ≡ n → (b : Bool) → elsewhere fs history at ≡ b
        → nat_lt 0 (references_to (book_of book.refs) at) ≡ (nat_lt 0 (w at) || elsewhere fs history at)
    from (suc n) some b led =
        let all = total-is around (book_of book.refs) w foreign is.counts at in
        let way : 0 < w at = omega (arith, some) in
        some_there (omega (arith, all, way)) (nat_lt 0 (w at) || elsewhere fs history at)
        (ap (λ (c : Bool). c || elsewhere fs history at) (lt-ltb 0 (w at) way))
    from zero none true led =
        let there = beside-there fs history items names stands drafted at
        (elsewhere-parts fs history items names stands drafted at led) in
        some_there (lasting around IsSlot (fixed fs history items names stands drafted) book w foreign is.counts
        is.down (reached_first around IsSlot (fixed fs history items names stands drafted) book w foreign is) at
        (inr (inl there)))
        (nat_lt 0 (w at) || elsewhere fs history at)
        (ap (λ (n : ℕ). nat_lt 0 n || elsewhere fs history at) none ∙ led)
    from zero none false led =
        let alone : beside_in fs history at ≡ None = ap (λ (c : Bool). if c then beside_of fs.tree.owner
        (nodes_of fs history at) (mark_of fs at) else None) led in
        ap (λ (n : ℕ). nat_lt 0 n)
        (references-none around IsSlot (fixed fs history items names stands drafted) book w foreign is at slot alone
        none)
        ∙ sym (ap (λ (n : ℕ). nat_lt 0 n || elsewhere fs history at) none ∙ led)

  pub has-led : IsTable fs.refs.refs → (at : ℕ) → is_slot fs.land.space.sizes at ≡ true
      → has_slot fs.land.space at ≡ (nat_lt 0 (own_ways fs history at) || elsewhere fs history at)
  has-led table at slot =
      stands.settled.slots at slot
      ∙ led-slot fs.refs (own_ways fs history) (foreign_in fs history)
      (StandsFor-before fs history items names stands drafted table) at slot
