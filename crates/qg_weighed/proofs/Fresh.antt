-- The references of an image that is just made are those that its layout owes, and lead to what is there.
use Rattle.std.proofs.Common.{◌≡◌, ℕ, ◌<◌, Bool, false, List, [], Some, None, refl, sym, ap, subst, ◌∙◌, inl, inr}
use Rattle.std.proofs.Common.{arith, cond}
use Rattle.std.specs.Prelude.{◌==◌}
use Rattle.std.specs.List.{Contains}
use Rattle.std.specs.Option.{option_map}
use Rattle.std.proofs.lemmas.Bool.{cases_Bool, cond-false, cond-true, eqb-true}
use Rattle.std.proofs.lemmas.Option.{none-some, same_Some}
use Rattle.qg_node.specs.declared.node.Node.{Node}
use Rattle.qg_node.specs.Nodes.{header_of}
use Rattle.qg_items.specs.declared.tree.TheConstants.{TOP_LEVEL}
use Rattle.qg_items.specs.declared.extent.Reference.{Reference}
use Rattle.qg_super.specs.declared.sizes.Sizes.{Sizes}
use Rattle.qg_image.specs.ItemMeaning.{file_part}
use Rattle.qg_image.specs.Table.{value_at}
use Rattle.qg_image.specs.declared.element.Element.{Element}
use Rattle.qg_image.specs.Owed.{is_nothing, layout_extents, owed, owed_by_node, owed_count, what_at}
use Rattle.qg_image.specs.Reach.{pieces_of}
use Rattle.qg_image.specs.Record.{ExtentOf, NodeOf}
use Rattle.qg_image.specs.State.{Layout, Placed, layout_of}
use Rattle.qg_image.proofs.Contained.{none_contained}
use Rattle.qg_image.specs.IsFresh.{fresh_leaf, fresh_state}
use Rattle.qg_extents.specs.Types.{What}
use Rattle.qg_extents.specs.Types.{Kept}
use Rattle.qg_extents.specs.Book.{what_in}
use Rattle.qg_extents.specs.Fresh.{fresh_root, fresh_table}
use Rattle.qg_extents.specs.Table.{IsTable, book_of}
use Rattle.qg_extents.proofs.FreshRecords.{fresh-owed}
use Rattle.qg_extents.proofs.Tables.{at_itself}
use Rattle.qg_weighed.specs.Laws.{CountsLayout, known_at}
use Rattle.qg_weighed.specs.Weight.{record_known}

module _ (sizes : Sizes) (root : ℕ) (others : List Node) (is : IsTable (fresh_table sizes.nodesize root)) where
  abbrev layout : Layout
  layout = layout_of (fresh_state sizes others root)

  abbrev table : List (ℕ × Kept)
  table = fresh_table sizes.nodesize root

  abbrev leaf : Placed
  leaf = record { node = fresh_leaf TOP_LEVEL root []; full = false }

  known-root : known_at (book_of table) root ≡ Some (NodeOf root 0)
  known-root =
      ap (λ (here : Bool). option_map (λ (what : What). record_known root what)
      (what_in (cond here (Some (fresh_root sizes.nodesize)) None))) (at_itself root)

  none-owed : (at : ℕ) (reference : Reference) → (root == at) ≡ false → owed_count layout at reference ≡ 0
  unfolding owed_count owed owed_by_node file_part
  none-owed at reference differs = rw differs refl

  begins : (at : ℕ) (reference : Reference) → 0 < owed_count layout at reference
      → is_nothing (what_at layout at) ≡ false
  begins at reference some = elim (cases_Bool (root == at)) [
    | inl same ↦ rw same refl
    | inr differs ↦ absurd (omega (arith, some, none-owed at reference differs))
  ]

  nodes : (at : ℕ) (placed : Placed) → value_at at layout.nodes ≡ Some placed
      → known_at (book_of table) at ≡ Some (NodeOf at (header_of placed.node).level)
  nodes at placed found = elim (cases_Bool (root == at)) [
    | inl same ↦
        let is_leaf : leaf ≡ placed =
        same_Some leaf placed (sym (cond-true (root == at) (Some leaf) None same) ∙ found) in
        let here : root ≡ at = eqb-true root at same in
        subst (λ (n : ℕ). known_at (book_of table) n ≡ Some (NodeOf n 0)) here known-root
        ∙ ap (λ (there : Placed). Some (NodeOf at (header_of there.node).level)) is_leaf
    | inr differs ↦ absurd (none-some placed (sym (cond-false (root == at) (Some leaf) None differs) ∙ found))
  ]

  extents : (run : Element) → Contains (layout_extents layout) run
      → known_at (book_of table) run.address ≡ Some (ExtentOf run.address run.bytes)
  unfolding layout_extents pieces_of file_part
  extents run has = absurd (none_contained run has)

  pub fresh-counts : CountsLayout layout table
  fresh-counts = record {
    kept = is;
    agrees = fresh-owed sizes root others is;
    begins = begins;
    ascending = λ k less. absurd (omega (arith, less));
    nodes = nodes;
    extents = extents;
  }
