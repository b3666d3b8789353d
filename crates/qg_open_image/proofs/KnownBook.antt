-- The book of trees that are kept of a state knows nothing of a later generation.
use Rattle.std.proofs.Common.{◌≡◌, ℕ, ◌≤◌, List, sym, subst}
use Rattle.std.specs.Prelude.{All}
use Rattle.std.specs.List.{flat_map}
use Rattle.qg_device.specs.History.{History}
use Rattle.qg_image.specs.Record.{Record}
use Rattle.qg_image.specs.State.{State}
use Rattle.qg_root_items.specs.Written.{items_of_file}
use Rattle.qg_refs.specs.declared.kept.Kept.{Kept as Reference}
use Rattle.qg_extents.specs.Table.{IsTable}
use Rattle.qg_fs_laws.specs.Named.{named}
use Rattle.qg_fs_laws.proofs.Known.{no-later}
use Rattle.qg_open_image.specs.declared.open_image.OpenImage.{OpenImage}
use Rattle.qg_open_image.specs.Keeping.{IsKept, IsKeptWith, KnowsNoLater}
use Rattle.qg_open_image.proofs.Looked.{is-subvolume}

module _ (kept : OpenImage) (state : State) (history : History) (bytes : ℕ) (names : List Record)
    (fits : IsKept kept history bytes) (keeps : IsKeptWith kept state history names) where
  pub none-later : IsTable kept.fs.refs.refs → KnowsNoLater kept
  none-later table =
      no-later kept.fs history bytes (flat_map items_of_file keeps.files) (named keeps.files) table
      (is-subvolume kept history bytes fits) keeps.keeps.holds.stands

  -- nor does the same book know anything that is later than the same generation
  pub later-known : (book : List (ℕ × Reference)) (next : ℕ) → book ≡ kept.fs.refs.refs → next ≡ kept.fs.tree.next
      → IsTable book → (All (λ entry. entry.1.what.generation ≤ next) book → ⊥) → ⊥
  later-known book next same generation table later =
      later
      (subst (λ (n : ℕ). All (λ (entry : ℕ × Reference). entry.1.what.generation ≤ n) book) (sym generation)
      (subst (All (λ (entry : ℕ × Reference). entry.1.what.generation ≤ kept.fs.tree.next)) (sym same)
      (none-later (subst IsTable same table))))
