-- The nodes of a layout, and the runs that are taken, are what subvolumes reach.
use Rattle.std.proofs.Common.{◌≡◌, ℕ, zero, suc, ◌<◌, List, [], ◌∷◌, ◌++◌, map, Option, Some}
use Rattle.std.proofs.Common.{None, refl, ap, subst, inl, inr, arith}
use Rattle.std.specs.List.{Contains, flat_map}
use Rattle.std.specs.List.Sorted.{IsStrictlySortedBy}
use Rattle.std.specs.Option.{option_map}
use Rattle.std.specs.Ordering.{nat_cmp}
use Rattle.std.specs.declared.cmp.Ordering.TheVariants.{Less}
use Rattle.std.proofs.lemmas.Bool.Decides.{nat_tests}
use Rattle.std.proofs.lemmas.List.Elements.{All-contains, All-from_recursion, Contains-append_cases}
use Rattle.std.proofs.lemmas.List.Elements.{Contains-append_left, Contains-append_right}
use Rattle.std.proofs.lemmas.Map.Keys.{sorted_from_strictly_increasing, sorted_head, sorted_tail}
use Rattle.qg_device.specs.History.{History}
use Rattle.qg_node.specs.declared.pointer.Pointer.{Pointer}
use Rattle.qg_node.specs.declared.node.Node.{Node}
use Rattle.qg_super.proofs.Runs.{WholeRun-is_run}
use Rattle.qg_image.specs.declared.file.File.{File}
use Rattle.qg_image.specs.Table.{keys_of, value_at}
use Rattle.qg_image.specs.declared.element.Element.{Element}
use Rattle.qg_image.specs.Owed.{layout_extents}
use Rattle.qg_image.specs.Reach.{extent_of, level_of, own_elements, pieces_of, pointers_at, reach, reach_of}
use Rattle.qg_image.specs.Reach.{reach_of_root, reach_under}
use Rattle.qg_image.specs.State.{Placed, State, Subvolume, layout_of, node_at}
use Rattle.qg_image.proofs.Contained.{contains_cases, contains_here, contains_later, none_contained}
use Rattle.qg_owner_rule.proofs.Reaching.{entry_of_value}
use Rattle.qg_qgroup_counts.specs.AllReached.{AreAllReached}
use Rattle.qg_reach.proofs.Distinct.{apart_with}
use Rattle.qg_reach.proofs.SlotRule.{slot_below}
use Rattle.qg_file_edits.specs.Types.{FsTree}
use Rattle.qg_file_edits.proofs.Lists.{from-flat, from-mapped, has-flat, has-mapped}
use Rattle.qg_fs_laws.specs.Keeping.{IsKept, KeepsState, LieApart, elements_of}
use Rattle.qg_fs_laws.proofs.Kept.{counted, lies, served, slot-laid, whole}
use Rattle.qg_fs_laws.proofs.Runs.{runs-told}

-- ---- what is met under a node

module _ (nodes : ℕ → Option Node) (nodesize : ℕ) (z : Element) where
  pub from-under : (level at : ℕ) → Contains (reach_under nodes nodesize level at) z
      → (q : ℕ) × Contains (own_elements nodesize q (nodes q)) z
  from-under zero at has = (at, has)
  from-under (suc level) at has =
      let under = λ (p : Pointer). reach_under nodes nodesize level p.child in
      let own = own_elements nodesize at (nodes at) in
      elim (Contains-append_cases own (flat_map under (pointers_at (nodes at))) z has) [
        | inl first ↦ (at, first)
        | inr later ↦
            let pointer = from-flat under (pointers_at (nodes at)) z later in
            from-under level pointer.0.child pointer.2
      ]

-- ---- slots as elements

abbrev element_at : ℕ → ℕ → Element
element_at nodesize slot = record { address = slot; bytes = nodesize }

below_later : (slot : ℕ) (slots : List ℕ) (later : ℕ) → IsStrictlySortedBy nat_cmp (slot ∷ slots)
    → Contains slots later → slot < later
below_later slot slots later sorted has =
    let less = All-contains (λ y. nat_cmp slot y ≡ Less) slots later
    (All-from_recursion (λ y. nat_cmp slot y ≡ Less) slots (sorted_head nat_cmp slot slots sorted)) has in
    is_less slot later less where
      is_less : (a b : ℕ) → nat_cmp a b ≡ Less → a < b
      is_less a b less = grind (arith, nat_tests)

all_apart : (nodesize : ℕ) (slots : List ℕ) (runs : List Element) → IsStrictlySortedBy nat_cmp slots → LieApart runs
    → ((slot : ℕ) (run : Element) → Contains slots slot → Contains runs run → slot ≡ run.address → ⊥)
    → LieApart (map (element_at nodesize) slots ++ runs)
all_apart nodesize [] runs sorted apart elsewhere = apart
all_apart nodesize (slot ∷ slots) runs sorted apart elsewhere =
    apart_with (element_at nodesize slot) (map (element_at nodesize) slots ++ runs) other
    (all_apart nodesize slots runs (sorted_tail nat_cmp slot slots sorted) apart
    (λ later run has. elsewhere later run (contains_later slot slots later has))) where
      other : (y : Element) → Contains (map (element_at nodesize) slots ++ runs) y → slot ≡ y.address → ⊥
      other y has same = elim (Contains-append_cases (map (element_at nodesize) slots) runs y has) [
        | inl later ↦
            let found = from-mapped (element_at nodesize) slots y later in
            let less = below_later slot slots found.0 sorted found.1 in
            let there = ap (λ (e : Element). e.address) found.2 in
            omega (arith, less, there, same)
        | inr run ↦ elsewhere slot y (contains_here slot slots) run same
      ]

-- ---- what subvolumes reach

module _ (fs : FsTree) (history : History) (bytes : ℕ) (state : State) (mine : Subvolume)
    (files : List (ℕ × File)) (kept : IsKept fs history bytes) (keeps : KeepsState fs history state mine files) where
  abbrev slots : List ℕ
  slots = keys_of state.layout

  runs_back : (run : Element) → Contains fs.land.space.runs run → Contains (layout_extents (layout_of state)) run
  runs_back run has = ((counted fs history bytes state mine files kept keeps).extents run).1
      ((runs-told fs history bytes state mine files kept keeps run).0 has)

  runs_into : (run : Element) → Contains (layout_extents (layout_of state)) run → Contains fs.land.space.runs run
  runs_into run has = (runs-told fs history bytes state mine files kept keeps run).1
      (((counted fs history bytes state mine files kept keeps).extents run).0 has)

  named_there : (entry : ℕ × Placed) (run : Element) → Contains state.layout entry
      → Contains (map extent_of (pieces_of entry.1.node)) run → Contains (layout_extents (layout_of state)) run
  unfolding layout_extents
  named_there entry run there has =
      has-flat (λ (entry : ℕ × Placed). map extent_of (pieces_of entry.1.node)) state.layout entry run there has

  own_into : (q : ℕ) (z : Element) (o : Option Placed) → value_at q state.layout ≡ o
      → Contains (own_elements state.sizes.nodesize q (option_map (λ placed. placed.node) o)) z
      → Contains (map (element_at state.sizes.nodesize) slots ++ fs.land.space.runs) z
  own_into q z None is has = absurd (none_contained z has)
  own_into q z (Some placed) is has =
      let entry = entry_of_value q placed state.layout is in
      elim (contains_cases (element_at state.sizes.nodesize q) (map extent_of (pieces_of placed.node)) z has) [
        | inl same ↦
            Contains-append_left (map (element_at state.sizes.nodesize) slots) fs.land.space.runs z
            (subst (λ (e : Element). Contains (map (element_at state.sizes.nodesize) slots) e) same
            (has-mapped (element_at state.sizes.nodesize) slots q
            (has-mapped (λ (e : ℕ × Placed). e.0) state.layout (q, placed) entry)))
        | inr extent ↦
            Contains-append_right (map (element_at state.sizes.nodesize) slots) fs.land.space.runs z
            (runs_into z (named_there (q, placed) z entry extent))
      ]

  -- a slot lies in front of the data area, and a run in it
  elsewhere : (slot : ℕ) (run : Element) → Contains slots slot → Contains fs.land.space.runs run
      → slot ≡ run.address → ⊥
  elsewhere slot run has has_run same =
      let entry = from-mapped (λ (e : ℕ × Placed). e.0) state.layout slot has in
      let there = slot-laid fs history bytes state mine files kept keeps entry.0 entry.1 in
      let below = slot_below state.sizes entry.0.0 (served fs history bytes state mine files kept keeps) there in
      let whole_run = WholeRun-is_run state.sizes run.address run.bytes
      (lies fs history bytes state mine files kept keeps run (runs_back run has_run)) in
      let is = entry.2 in
      let begin = whole_run.begin in
      omega (arith, below, begin, is, same)

  root_into : (o : Option ℕ) (z : Element) → Contains (reach_of (layout_of state) o) z
      → Contains (elements_of state fs.land.space.runs) z
  unfolding reach_of_root
  root_into None z has = absurd (none_contained z has)
  root_into (Some root) z has =
      let found = from-under (node_at state.layout) state.sizes.nodesize z (level_of (node_at state.layout root)) root
      has in
      own_into found.0 z (value_at found.0 state.layout) refl found.1

  all_into : (sub : ℕ) (z : Element) → Contains (reach (layout_of state) sub) z
      → Contains (elements_of state fs.land.space.runs) z
  unfolding reach
  all_into sub z has = root_into (value_at sub (layout_of state).roots) z has

  pub reach-told : LieApart fs.land.space.runs → AreAllReached (layout_of state) (elements_of state fs.land.space.runs)
  reach-told apart = record {
    apart = all_apart state.sizes.nodesize slots fs.land.space.runs
        (sorted_from_strictly_increasing slots (whole fs history bytes state mine files kept keeps).ascending) apart
        elsewhere;
    all = all_into;
  }
