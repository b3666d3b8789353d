-- Where a subvolume goes, the others have in the state that is left the nodes that they had.
use Rattle.std.proofs.Common.{◌≡◌, ◌≢◌, ℕ, List, Option, None, sym, ap, subst, ◌∙◌}
use Rattle.std.specs.Prelude.{◌==◌, not}
use Rattle.std.specs.List.{AllByRecursion, Contains}
use Rattle.std.specs.Option.{option_map}
use Rattle.std.proofs.lemmas.Bool.{cond-true}
use Rattle.qg_device.specs.History.{History}
use Rattle.qg_node.specs.declared.node.Node.{Node}
use Rattle.qg_image.specs.Table.{value_at, without_key}
use Rattle.qg_image.specs.Reach.{level_of}
use Rattle.qg_image.specs.Record.{Record}
use Rattle.qg_image.specs.State.{Placed, State, Subvolume, node_at}
use Rattle.qg_machine.specs.Layout.{IsTreeOf}
use Rattle.qg_machine.specs.Step.{deleted}
use Rattle.qg_extents.specs.Table.{IsTable}
use Rattle.qg_tree_read.specs.Tree.{Reaches, Root}
use Rattle.qg_open_image.specs.ForestStanding.{HoldsState}
use Rattle.qg_open_image.proofs.FsLawsChanged.{value-kept}
use Rattle.qg_open_image.proofs.Meeting.{IsMet, met-reached-itself}
use Rattle.qg_open_image.specs.Standing.{IsReachedBy, trees_of}
use Rattle.qg_open_image.specs.FsLawsKeeping as step
use Rattle.qg_open_image.proofs.HeldTrees.{IsTreeIn, reach-into, tree-held}
use Rattle.qg_open_image.proofs.Runs.{state-held}
use Rattle.qg_subvolumes.proofs.Ended.{none_open}
use Rattle.qg_subvolumes.proofs.Partly.{all_kept, kept-value}
use Rattle.qg_open_image.specs.declared.open_image.OpenImage.{OpenImage}
use Rattle.qg_open_image.specs.Keeping.{IsKept, IsKeptWith}
use Rattle.qg_image_changes.proofs.Grown.{placed-old}
use Rattle.qg_open_image.proofs.Looked.{is-near, is-subvolume}
use Rattle.qg_image_changes.proofs.Numbers.{other-number}
use Rattle.qg_image_changes.proofs.Trees.{trees-are}

module _ (old : OpenImage) (history : History) (bytes : ℕ) (state : State) (names : List Record)
    (fits : IsKept old history bytes) (keeps : IsKeptWith old state history names) (table : IsTable old.fs.refs.refs)
    (sub : ℕ) where
  -- who stays
  abbrev stay : List (ℕ × Subvolume)
  stay = without_key sub state.subvolumes

  pub value-left : (n : ℕ) → n ≢ sub → value_at n stay ≡ value_at n state.subvolumes
  value-left n differ =
      value-kept (λ (m : ℕ). not (m == sub)) n state.subvolumes
      ∙ cond-true (not (n == sub)) (value_at n state.subvolumes) None (other-number n sub differ)

  kept_so : step.IsKept old.fs history bytes
  kept_so = record {
    subvolume = is-subvolume old history bytes fits;
    table = table;
    near = is-near old fits.fitted;
  }

  before : HoldsState old.fs.land history old.fs.refs state
  before = state-held old.fs history bytes state keeps.mine keeps.files kept_so keeps.keeps

  trees_left : AllByRecursion (λ entry. IsTreeOf state entry.1) stay
  trees_left =
      all_kept (λ (entry : ℕ × Subvolume). IsTreeOf state entry.1)
      (λ (entry : ℕ × Subvolume). not (entry.0 == sub)) state.subvolumes before.whole.trees

  module _ (tree : Root) (among : Contains (trees_of old.fs) tree) (differ : tree.owner ≢ sub) where
    own : IsTreeIn state tree
    own =
        tree-held old.fs history bytes state keeps.mine kept_so before
        (trees-are old history bytes state names fits keeps) keeps.keeps.there tree among

    abbrev nodes : ℕ → Option Node
    nodes = node_at state.layout

    reached_so : (q : ℕ) → IsReachedBy old.fs history tree q
        → Reaches (node_at state.layout) (level_of (node_at state.layout own.subvolume.root)) own.subvolume.root q
    reached_so q reached =
        let there : Reaches nodes tree.height tree.address q =
        reach-into old.fs history bytes state keeps.mine kept_so before
        (trees-are old history bytes state names fits keeps) keeps.keeps.there tree among q reached in
        subst (λ (a : ℕ). Reaches nodes (level_of (nodes own.subvolume.root)) a q) own.root
        (subst (λ (h : ℕ). Reaches nodes h tree.address q) own.level there)

    met : (q : ℕ) → IsReachedBy old.fs history tree q → IsMet state stay q
    met q reached = record {
      number = tree.owner;
      subvolume = own.subvolume;
      there = value-left tree.owner differ ∙ own.value;
      reaches = reached_so q reached;
    }

    -- each node of a tree that stays is where it was, full perhaps
    pub still-left : (q : ℕ) → IsReachedBy old.fs history tree q
        → node_at (deleted state sub).layout q ≡ node_at state.layout q
    still-left q reached =
        let placed = placed-old old history bytes state names fits keeps tree q among reached in
        let now = kept-value state sub none_open q placed.0 placed.1
        (met-reached-itself state before.whole stay trees_left q (met q reached)) in
        ap (λ (o : Option Placed). option_map (λ (p : Placed). p.node) o) now
        ∙ sym (ap (λ (o : Option Placed). option_map (λ (p : Placed). p.node) o) placed.1)
