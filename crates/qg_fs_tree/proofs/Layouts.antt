-- What is owed in the layout that trees are.
use Rattle.std.proofs.Common.{◌≡◌, ◌≢◌, ℕ, zero, suc, ◌+◌, ◌-◌, ◌*◌, ◌<◌, ◌≤◌, Bool, true, false, List, [], ◌∷◌, ◌++◌}
use Rattle.std.proofs.Common.{length, get_or, map, Option, Some, None, arith, refl, sym, ap, ◌∙◌, inl, inr}
use Rattle.std.specs.Prelude.{◌==◌, ◌||◌, not, nat_lt, if◌then◌else◌}
use Rattle.std.specs.List.{cons_option, filter_map, flat_map, sum_by}
use Rattle.std.specs.Option.{option_map}
use Rattle.std.proofs.lemmas.Bool.{ne_eqb}
use Rattle.std.proofs.lemmas.Bool.Decides.{eqb_tells}
use Rattle.std.proofs.lemmas.List.Concat.{flat_map-cons}
use Rattle.std.proofs.lemmas.List.Sums.{sum_by-cons}
use Rattle.qg_device.specs.History.{History}
use Rattle.qg_items.specs.declared.extent.Reference.{Reference}
use Rattle.qg_items.specs.declared.extent.Reference.TheVariants.{KeyedBlock}
use Rattle.qg_image.specs.Table.{with_value}
use Rattle.qg_node.specs.declared.node.Node.{Node}
use Rattle.qg_node.specs.Nodes.{header_of}
use Rattle.qg_image.specs.State.{Layout, Placed}
use Rattle.qg_image.specs.Owed.{Owing, owed, owed_by_node, owed_count}
use Rattle.qg_cow_refs.specs.Children.{keyed_children, way_to}
use Rattle.qg_cow_refs.proofs.CopyLaws.{owed-keyed}
use Rattle.qg_tree_edits.specs.Tree.{Root}
use Rattle.qg_tree_edits.specs.Counting.{one}
use Rattle.qg_tree_backrefs.specs.Exchange.{times}
use Rattle.qg_tree_backrefs.proofs.Times.{times-append, times-nil}
use Rattle.qg_fs_tree.specs.declared.fs_tree.FsTree.{FsTree}
use Rattle.qg_fs_tree.specs.Standing.{every_slot, layout_in, nodes_of, placed_at, roots_of}
use Rattle.qg_fs_tree.proofs.Beside.{elsewhere, foreign_of, mark_of, own_ways, roots_owed, slots_of}
use Rattle.qg_fs_tree.proofs.Identity.{keyed_told}
use Rattle.qg_fs_tree.proofs.Keyed.{keyed_ways, times-way}
use Rattle.qg_fs_tree.proofs.Owes.{keyed_in, owed_in}
use Rattle.qg_tree_backrefs.proofs.Owings.{times-cons}
use Rattle.qg_fs_tree.proofs.SlotSums.{over, sums-plus, sums-same}
use Rattle.qg_fs_tree.proofs.Turned.{no_way}

owed_times : (layout : Layout) (at : ℕ) (reference : Reference) → owed_count layout at reference
    ≡ times (owed layout) at reference
unfolding owed_count times
owed_times layout at reference = refl

-- ---- the roots

abbrev root_way : ℕ × ℕ → Owing
root_way entry = record { address = entry.1; reference = KeyedBlock entry.0 }

-- one root more among others of other numbers
roots_step : (n at : ℕ) (entry : ℕ × ℕ) (entries : List (ℕ × ℕ)) (address : ℕ) (reference : Reference)
    (before same : Bool) → same ≡ false
    → times (map root_way (with_value n address entries)) at reference
    ≡ times (way_to address n ∷ []) at reference + times (map root_way entries) at reference
    → times (map root_way (if before then (n, address) ∷ entry ∷ entries
    else (if same then (n, address) ∷ entries else entry ∷ with_value n address entries))) at reference
    ≡ times (way_to address n ∷ []) at reference + times (map root_way (entry ∷ entries)) at reference
roots_step n at entry entries address reference true same differ rest =
    times-cons (way_to address n) (map root_way (entry ∷ entries)) at reference
roots_step n at entry entries address reference false true differ rest = absurd cc
roots_step n at entry entries address reference false false differ rest =
    let first = times-cons (root_way entry) (map root_way (with_value n address entries)) at reference in
    let last = times-cons (root_way entry) (map root_way entries) at reference in
    omega (arith, rest, first, last)

roots_times : (n address : ℕ) (others : List Root) (at : ℕ) (reference : Reference)
    → ((i : ℕ) (d : Root) → i < length others → (get_or others i d).owner ≢ n)
    → times (map root_way (with_value n address (map (λ tree. (tree.owner, tree.address)) others))) at reference
    ≡ times (way_to address n ∷ []) at reference + times (roots_owed others) at reference
roots_times n address [] at reference differ =
    let none = times-nil at reference in
    omega (arith, none)
roots_times n address (other ∷ others) at reference differ =
    let rest = roots_times n address others at reference (λ i d inside. differ (suc i) d (omega (arith, inside))) in
    let pairs = pairs_same others in
    let step = roots_step n at (other.owner, other.address) (map (λ (tree : Root). (tree.owner, tree.address)) others)
    address reference (nat_lt n other.owner) (other.owner == n) (ne_eqb other.owner n (differ 0 other (omega arith)))
    (rest ∙ ap (λ (owed : List Owing). times (way_to address n ∷ []) at reference + times owed at reference)
    (sym pairs)) in
    step ∙ ap (λ (owed : List Owing). times (way_to address n ∷ []) at reference
    + times (way_to other.address other.owner ∷ owed) at reference) pairs where
      pairs_same : (trees : List Root) → map root_way (map (λ tree. (tree.owner, tree.address)) trees)
          ≡ roots_owed trees
      pairs_same [] = refl
      pairs_same (tree ∷ trees) = ap (λ (owed : List Owing). way_to tree.address tree.owner ∷ owed) (pairs_same trees)

owed_parts : (fs : FsTree) (history : History) → owed (layout_in fs history)
    ≡ map root_way (roots_of fs) ++ flat_map (λ entry. owed_by_node entry.1)
    (filter_map (placed_at fs history) (every_slot fs.land.space.sizes))
unfolding owed layout_in
owed_parts fs history = refl

-- ---- the nodes

-- what a node owes, if it is there
abbrev pub owed_if : Option (ℕ × Placed) → List Owing
owed_if None = []
owed_if (Some entry) = owed_by_node entry.1

more_owed : (o : Option (ℕ × Placed)) (rest : List (ℕ × Placed)) (at : ℕ) (reference : Reference)
    → times (flat_map (λ entry. owed_by_node entry.1) (cons_option o rest)) at reference
    ≡ times (owed_if o) at reference + times (flat_map (λ entry. owed_by_node entry.1) rest) at reference
more_owed None rest at reference = let none = times-nil at reference in omega (arith, none)
more_owed (Some entry) rest at reference =
    ap (λ (xs : List Owing). times xs at reference) (flat_map-cons (λ (e : ℕ × Placed). owed_by_node e.1) entry rest)
    ∙ times-append (owed_by_node entry.1) (flat_map (λ (e : ℕ × Placed). owed_by_node e.1) rest) at reference

owed_sum : (placed : ℕ → Option (ℕ × Placed)) (slots : List ℕ) (at : ℕ) (reference : Reference)
    → times (flat_map (λ entry. owed_by_node entry.1) (filter_map placed slots)) at reference
    ≡ sum_by (λ s. times (owed_if (placed s)) at reference) slots
owed_sum placed [] at reference = times-nil at reference
owed_sum placed (s ∷ slots) at reference =
    more_owed (placed s) (filter_map placed slots) at reference
    ∙ ap (λ (n : ℕ). times (owed_if (placed s)) at reference + n) (owed_sum placed slots at reference)
    ∙ sym (sum_by-cons (λ (q : ℕ). times (owed_if (placed q)) at reference) s slots)

-- what is told, with a mark
abbrev pub owed_marked : Option Node → Bool → List Owing
owed_marked None full = []
owed_marked (Some node) full = owed_by_node (record { node = node; full = full })

-- a node that ways lead to, or that is reached elsewhere, once
placed_once : (w s : ℕ) (there : Bool) (node : Option Node) (full : Bool) (at : ℕ) (reference : Reference) → w ≤ 1
    → times (owed_if (if nat_lt 0 w || there then
    option_map (λ (n : Node). (s, record { node = n; full = full })) node else
    None)) at reference
    ≡ w * times (owed_marked node full) at reference
    + (1 - w) * (if there then times (owed_marked node full) at reference else 0)
placed_once zero s true None full at reference most = omega arith
placed_once zero s true (Some node) full at reference most = omega arith
placed_once zero s false told full at reference most = times-nil at reference ∙ omega arith
placed_once (suc zero) s there None full at reference most = omega arith
placed_once (suc zero) s there (Some node) full at reference most = omega arith
placed_once (suc (suc w)) s there told full at reference most = absurd (omega (arith, most))

-- what a node owes that is reached elsewhere
abbrev pub owed_there : FsTree → History → ℕ → Reference → ℕ → ℕ
owed_there fs history at reference s =
    if elsewhere fs history s then times (owed_marked (nodes_of fs history s) (mark_of fs s)) at reference else 0

-- the roots' ways, and what each node owes that is reached
pub owed-is : (fs : FsTree) (history : History) (at : ℕ) (reference : Reference)
    → ((q : ℕ) → own_ways fs history q ≤ 1)
    → ((i : ℕ) (d : Root) → i < length fs.others.items → (get_or fs.others.items i d).owner ≢ fs.tree.owner)
    → owed_count (layout_in fs history) at reference
    ≡ keyed_ways fs.tree.owner (one fs.tree.address) at reference + times (roots_owed fs.others.items) at reference
    + (over (slots_of fs) (own_ways fs history)
    (λ s. times (owed_marked (nodes_of fs history s) (mark_of fs s)) at reference)
    + over (slots_of fs) (no_way (own_ways fs history)) (owed_there fs history at reference))
owed-is fs history at reference single apart =
    let nodes = flat_map (λ (entry : ℕ × Placed). owed_by_node entry.1)
    (filter_map (placed_at fs history) (every_slot fs.land.space.sizes)) in
    let all = owed_times (layout_in fs history) at reference ∙ ap (λ (xs : List Owing). times xs at reference)
    (owed_parts fs history) in
    let both = times-append (map root_way (roots_of fs)) nodes at reference in
    let roots = roots_times fs.tree.owner fs.tree.address fs.others.items at reference apart in
    let way = times-way fs.tree.owner fs.tree.address at reference in
    let sum = owed_sum (placed_at fs history) (every_slot fs.land.space.sizes) at reference in
    let own_s = λ (s : ℕ). own_ways fs history s
    * times (owed_marked (nodes_of fs history s) (mark_of fs s)) at reference in
    let there_s = λ (s : ℕ). no_way (own_ways fs history) s * owed_there fs history at reference s in
    let terms = sums-same (λ (s : ℕ). times (owed_if (placed_at fs history s)) at reference)
    (λ (s : ℕ). own_s s + there_s s) (every_slot fs.land.space.sizes)
    (λ s. placed_once (own_ways fs history s) s (elsewhere fs history s) (nodes_of fs history s)
    (mark_of fs s) at reference (single s)) in
    let parts = sums-plus own_s there_s (every_slot fs.land.space.sizes) in
    omega (arith, all, both, roots, way, sum, terms, parts)

-- ---- marks

not_marked : (mark own : Bool) → (mark || not own) ≡ false → (mark ≡ false) × (own ≡ true)
not_marked true own is = absurd cc
not_marked false true is = (refl, refl)
not_marked false false is = absurd cc

-- a node that is full or of another owner owes what it does in place of keyed references of the owner
pub owed-foreign : (owner : ℕ) (node : Option Node) (full : Bool) (at : ℕ) (reference : Reference)
    → times (owed_marked node full) at reference + times (keyed_in owner (foreign_of owner node full)) at reference
    ≡ times (keyed_told owner node) at reference + times (owed_in (foreign_of owner node full)) at reference
owed-foreign owner None full at reference = refl
owed-foreign owner (Some node) full at reference = from (full || not ((header_of node).owner == owner)) refl where
  from : (b : Bool) → (full || not ((header_of node).owner == owner)) ≡ b
      → times (owed_marked (Some node) full) at reference
      + times (keyed_in owner (if b then Some (record { node = node; full = full }) else None)) at reference
      ≡ times (keyed_told owner (Some node)) at reference
      + times (owed_in (if b then Some (record { node = node; full = full }) else None)) at reference
  from true is = omega arith
  from false is =
      let parts = not_marked full ((header_of node).owner == owner) is in
      let mine : (header_of node).owner ≡ owner = elim (eqb_tells (header_of node).owner owner) [
        | inl (equal, same) ↦ same
        | inr (unequal, differ) ↦ let wrong : true ≡ false = sym parts.1 ∙ unequal in absurd cc
      ] in
      let keyed : owed_by_node (record { node = node; full = full }) ≡ keyed_children node owner =
      ap (λ (b : Bool). owed_by_node (record { node = node; full = b })) parts.0
      ∙ owed-keyed (record { node = node; full = false }) refl
      ∙ ap (λ (tree : ℕ). keyed_children node tree) mine in
      let same = ap (λ (xs : List Owing). times xs at reference) keyed in
      omega (arith, same)
