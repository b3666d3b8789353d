-- The state of which a fresh image is the first commit: the top-level subvolume has its empty leaf, nothing is held.
use Rattle.std.proofs.Common.{◌≡◌, ℕ, ◌+◌, ◌<◌, ◌≤◌, Bool, true, false, inl, inr, List, [], ◌∷◌, Some, None, refl, sym}
use Rattle.std.proofs.Common.{ap, subst, ◌∙◌, arith, lit<}
use Rattle.std.specs.Prelude.{◌==◌, if◌then◌else◌, Contains, Result, Ok, is_some}
use Rattle.std.proofs.lemmas.Bool.{cases_Bool, eq-eqb, eqb-true}
use Rattle.std.proofs.lemmas.List.Elements.{All-nil}
use Rattle.std.proofs.lemmas.Option.{same_Some}
use Rattle.qg_node.specs.declared.node.Node.{Node}
use Rattle.qg_node.specs.Nodes.{is_ascending, used_bytes}
use Rattle.qg_node.specs.NodeText.{IsNode}
use Rattle.qg_node.specs.Fits.{ItemFits, NodeFits}
use Rattle.qg_items.specs.declared.extent.Reference.{Reference}
use Rattle.qg_items.specs.declared.tree.TheConstants.{TOP_LEVEL}
use Rattle.qg_super.specs.declared.sizes.Sizes.{Sizes}
use Rattle.qg_super.specs.declared.superblock.Super.{Super}
use Rattle.qg_super.specs.Places.{is_served, slot_at}
use Rattle.qg_super.proofs.Served.{SizesFit-is_served}
use Rattle.qg_image.specs.FilesOf.{are_files, files_of, AreItemsOfFiles}
use Rattle.qg_image.specs.IsShaped.{is_shaped}
use Rattle.qg_image.specs.ItemMeaning.{is_subvolume_number}
use Rattle.qg_image.specs.Table.{value_at}
use Rattle.qg_image.specs.declared.element.Element.{Element}
use Rattle.qg_image.specs.Counts.{exclusive, is_reached_outside, reach_of_group, referenced}
use Rattle.qg_image.specs.Members.{is_below, leads, members}
use Rattle.qg_image.specs.Owed.{homeless, is_nothing, layout_extents, owed_count, what_at}
use Rattle.qg_image.specs.Reach.{is_reached, level_of, pieces_of, reach, reach_of_root}
use Rattle.qg_image.specs.Space.{present_extents}
use Rattle.qg_image.specs.State.{Placed, State, Subvolume, layout_of, node_at, blank_state, blank_subvolume}
use Rattle.qg_image.proofs.Contained.{none_contained}
use Rattle.qg_image.specs.declared.failure.Failure.{Failure}
use Rattle.qg_image.specs.declared.tree.TreeKind.TheVariants.{Files}
use Rattle.qg_image.specs.IsFresh.{fresh_leaf}
use Rattle.qg_image.specs.ItemsUnder.{is_way, items_under}
use Rattle.qg_image.specs.Verdict.{counts_failure, extent_set, space_failure}
use Rattle.qg_image.specs.Walk.{deepest, node_failure, root_expected, walk_failure, way_failure}
use Rattle.qg_machine.specs.Layout.{IsTreeOf, IsWhole, found_in, super_to_come}
use Rattle.qg_image.specs.declared.quota.Quota.{Quota}
use Rattle.qg_image.specs.OtherTrees.{subvolume_items}
use Rattle.qg_refs.specs.declared.kept.Kept.{Kept}
use Rattle.qg_refs.specs.Book.{full_in, what_in}
use Rattle.qg_extents.specs.Fresh.{fresh_root as kept_root, fresh_table}
use Rattle.qg_extents.specs.Table.{IsTable, book_of}
use Rattle.qg_extents.proofs.FreshRecords.{fresh-owed}
use Rattle.qg_extents.proofs.Tables.{at_itself}
use Rattle.qg_other_trees.specs.Holds.{AreRuns}
use Rattle.qg_other_trees.specs.Sound.{committed}
use Rattle.qg_other_trees.specs.Telling.{IsKnownExtent, IsKnownNode, IsStateOf}
use Rattle.qg_other_trees.proofs.Owing.{owes_begins}
use Rattle.qg_commit.specs.Fresh.{fresh_quota, fresh_roots, own_leaf}
use Rattle.qg_commit.proofs.FreshTrees.{low_slot-is_slot}

-- ---- a walk that finds one empty leaf

module _ (super : Super) (root : ℕ) (found : ℕ → Result Node Failure) (first : super.generation ≡ 1)
    (there : found root ≡ Ok (fresh_leaf TOP_LEVEL root [])) where
  leaf-walked : walk_failure (node_failure Files super) found deepest (root_expected None None) root ≡ None
  unfolding walk_failure node_failure way_failure is_shaped is_subvolume_number
  leaf-walked = rw (there, first) refl

  leaf-is_way : is_way Files super found (root_expected None None) root ≡ true
  unfolding is_way walk_failure way_failure is_subvolume_number
  leaf-is_way = rw (there, first) refl

  leaf-items : items_under Files super found 0 (root_expected None None) root ≡ Some []
  leaf-items = rw (leaf-is_way, there) refl

no_files : (generation : ℕ) → AreItemsOfFiles generation [] []
unfolding files_of are_files
no_files generation = refl

-- ---- the state

module _ (sizes : Sizes) (served : is_served sizes ≡ true) where
  abbrev root : ℕ
  root = slot_at sizes 2

  abbrev own : Subvolume
  own = blank_subvolume root

  abbrev placed : Placed
  placed = record { node = own_leaf sizes; full = false }

  abbrev pub before : State
  before = record (blank_state sizes) { subvolumes = (TOP_LEVEL, own) ∷ []; layout = (root, placed) ∷ [] }

  abbrev quota : Quota
  quota = fresh_quota sizes.nodesize

  abbrev table : List (ℕ × Kept)
  table = fresh_table sizes.nodesize root

  here : (root == root) ≡ true
  here = eq-eqb root root refl

  there : node_at before.layout root ≡ Some (own_leaf sizes)
  there = rw here refl

  bounds : (4096 ≤ sizes.nodesize) × (sizes.nodesize ≤ 16384)
  bounds = let fit = SizesFit-is_served sizes served in (fit.least, fit.nodesize)

  -- ---- its layout is whole

  pub leaf_format : IsNode sizes.nodesize (own_leaf sizes)
  unfolding is_ascending
  leaf_format =
      let nothing : used_bytes (own_leaf sizes) ≡ 0 = refl in
      record { levelled = refl; ascending = refl; fits = omega (arith, nothing, bounds.0) }

  pub leaf_fits : NodeFits (own_leaf sizes)
  leaf_fits = (
    record { address = omega (arith, bounds.1); generation = lit< tt; owner = lit< tt; level = lit< tt },
    All-nil ItemFits,
  )

  found_there : found_in before.layout root ≡ Ok (own_leaf sizes)
  found_there = rw here refl

  tree : IsTreeOf before own
  tree = record {
    items = [];
    walked = leaf-walked (super_to_come before) root (found_in before.layout) refl found_there;
    under = ap
        (λ (level : ℕ).
        items_under Files (super_to_come before) (found_in before.layout) level (root_expected None None) root)
        (ap level_of there)
        ∙ leaf-items (super_to_come before) root (found_in before.layout) refl found_there;
    files = no_files 1;
  }

  reached : is_reached (layout_of before) root ≡ true
  unfolding reach reach_of_root pieces_of
  reached = simp here refl

  pub whole : IsWhole before
  whole = record {
    ascending = λ k below. absurd (omega (arith, below));
    trees = (tree, tt);
    reached = (record { node_of_format = leaf_format; fits = leaf_fits; placed = refl; reached = reached }, tt);
  }

  -- ---- it names no extent

  no_extents : layout_extents (layout_of before) ≡ []
  unfolding layout_extents pieces_of
  no_extents = refl

  no_run : (run : Element) → Contains (layout_extents (layout_of before)) run → ⊥
  no_run run has = none_contained run (subst (λ (list : List Element). Contains list run) no_extents has)

  pub runs : AreRuns before
  runs run has = absurd (no_run run has)

  pub space : space_failure sizes (extent_set (present_extents before)) ≡ None
  unfolding space_failure present_extents
  space = refl

  -- ---- what is counted is right, and its leaf is at home

  pub counts : counts_failure (layout_of before) (Some quota) ≡ None
  unfolding counts_failure referenced exclusive is_reached_outside reach_of_group members is_below leads reach
      reach_of_root pieces_of
  counts =
      let same : (sizes.nodesize == sizes.nodesize) ≡ true = eq-eqb sizes.nodesize sizes.nodesize refl in
      let plus : 0 + sizes.nodesize ≡ sizes.nodesize = omega arith in
      simp (here, plus, same) refl

  pub home : homeless (layout_of before) ≡ None
  unfolding homeless reach reach_of_root pieces_of
  home = simp here refl

  -- ---- the book of one reference knows it

  module _ (is : IsTable table) where
    kept_there : book_of table root ≡ Some (kept_root sizes.nodesize)
    kept_there = rw (at_itself root) refl

    known_root : IsKnownNode placed (book_of table root)
    known_root = record { bytes = sizes.nodesize; known = ap what_in kept_there; full = ap full_in kept_there }

    known_node : (at : ℕ) (other : Placed) → value_at at (layout_of before).nodes ≡ Some other
        → IsKnownNode other (book_of table at)
    known_node at other has = elim (cases_Bool (root == at)) [
      | inl same ↦
          let kept : Some placed ≡ Some other = sym (ap (λ (b : Bool). if b then Some placed else None) same) ∙ has in
          subst (λ (q : ℕ). IsKnownNode other (book_of table q)) (eqb-true root at same)
          (subst (λ (p : Placed). IsKnownNode p (book_of table root)) (same_Some placed other kept) known_root)
      | inr differs ↦
          let none : None ≡ Some other = sym (ap (λ (b : Bool). if b then Some placed else None) differs) ∙ has in
          absurd (cc none)
    ]

    known_extent : (run : Element) → Contains (layout_extents (layout_of before)) run
        → IsKnownExtent run.bytes (book_of table run.address)
    known_extent run has = absurd (no_run run has)

    begins : (at : ℕ) (reference : Reference) → 0 < owed_count (layout_of before) at reference
        → is_nothing (what_at (layout_of before) at) ≡ false
    begins = owes_begins before whole served runs (low_slot-is_slot sizes 2 served (lit< tt), tt)

    own_root : subvolume_items (committed [] before (Some quota)) ≡ fresh_roots root
    unfolding subvolume_items
    own_root = rw there refl

    pub told : IsStateOf sizes 1 (fresh_roots root) table (Some quota) (committed [] before (Some quota))
    told = record {
      some = omega arith;
      same_sizes = refl;
      same_generation = refl;
      there = (ap is_some there, tt);
      roots_are = own_root;
      quota_is = refl;
      table = is;
      known = record {
        owed = fresh-owed sizes root [] is;
        nodes = known_node;
        extents = known_extent;
        begins = begins;
      };
    }
