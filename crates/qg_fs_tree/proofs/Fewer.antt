-- What is fixed while the tree at hand is edited, once fewer pieces are named.
use Rattle.std.proofs.Common.{◌≡◌, ℕ, ◌<◌, ◌≤◌, List, Some, arith, inl, inr}
use Rattle.std.specs.Prelude.{◌⊎◌}
use Rattle.std.specs.List.{Contains}
use Rattle.qg_num.specs.declared.piece.Piece.{Piece}
use Rattle.qg_items.specs.declared.extent.Reference.{Reference}
use Rattle.qg_image.specs.State.{Placed}
use Rattle.qg_image.specs.Owed.{owed_by_node}
use Rattle.qg_tree_backrefs.specs.Exchange.{times}
use Rattle.qg_tree_backrefs.proofs.ReferenceTotals.{many}
use Rattle.qg_fs_tree.proofs.Owings.{names_of}
use Rattle.qg_fs_tree.proofs.Turned.{AreFixed, Around, children_of}

module _ (a : Around) (IsPlace : ℕ → Type 0) (fixed : AreFixed a IsPlace) (names : List (ℕ × Piece)) where
  abbrev left : Around
  left = record a { names = names }

  pub fixed-left : ((at : ℕ) → IsPlace at → many (names_of a.owner names) at ≡ 0)
      → ((at : ℕ) (reference : Reference) → times (names_of a.owner names) at reference
      ≤ times (names_of a.owner a.names) at reference)
      → ((q : ℕ) (placed : Placed) → 0 < a.ways q → a.beside q ≡ Some placed → (at : ℕ)
      → 0 < many (owed_by_node placed) at
      → Contains (children_of placed.node) at ⊎ (0 < many (names_of a.owner names) at))
      → AreFixed left IsPlace
  fixed-left apart fewer named = record {
    once = fixed.once;
    apart = apart;
    few = λ at reference.
        let most = fixed.few at reference in
        let less = fewer at reference in
        omega (arith, most, less);
    foreign = fixed.foreign;
    foreign_at = fixed.foreign_at;
    foreign_clean = fixed.foreign_clean;
    home = λ q placed is bare.
        let there = fixed.home q placed is bare in
        record { placed = there.placed; is = there.is };
    beside = fixed.beside;
    beside_at = fixed.beside_at;
    beside_clean = fixed.beside_clean;
    beside_place = fixed.beside_place;
    same = fixed.same;
    own = fixed.own;
    closed = fixed.closed;
    roots_beside = fixed.roots_beside;
    roots_own = fixed.roots_own;
    roots_shared = fixed.roots_shared;
    led = λ q there. elim (fixed.led q (record { placed = there.placed; is = there.is })) [
      | inl root ↦ inl root
      | inr led ↦ inr (record { by = led.by; placed = led.placed; is = led.is; leads = led.leads })
    ];
    fits = fixed.fits;
    named = named;
  }
