-- The trees of all subvolumes in the order of their numbers: those of the state that they are kept of.
use Rattle.std.proofs.Common.{◌≡◌, ℕ, ◌<◌, List, [], ◌∷◌, map, length, eqb, Some, refl, sym, ap}
use Rattle.std.proofs.Common.{subst, ◌∙◌, arith}
use Rattle.std.specs.List.{Contains, IsDistinct, flat_map}
use Rattle.std.specs.List.Sorted.{IsNonDecreasing, IsNonDecreasingBy, IsPermutation, IsStrictlyIncreasing}
use Rattle.std.proofs.lemmas.Bool.Decides.{Decides-eqb, nat_tests}
use Rattle.std.proofs.lemmas.List.{get_or-map, length-map}
use Rattle.std.proofs.lemmas.List.Kept.{AllPairs-from_increasing}
use Rattle.std.proofs.lemmas.List.Sorted.{Contains-permutation, IsPermutation-map, IsPermutation-sym}
use Rattle.std.proofs.lemmas.List.Sorted.{IsPermutation-trans}
use Rattle.std.proofs.lemmas.Map.Keys.{IsDistinct-IsPermutation, IsStrictlyIncreasing-from_distinct}
use Rattle.std.proofs.lemmas.Map.Made.{IsDistinct-from_AllPairs}
use Rattle.qg_device.specs.History.{History}
use Rattle.qg_image.specs.declared.file.File.{File}
use Rattle.qg_image.specs.Table.{keys_of, value_at}
use Rattle.qg_owner_rule.proofs.Reaching.{value_of_entry}
use Rattle.qg_image.specs.Record.{Record}
use Rattle.qg_image.specs.Reach.{level_of}
use Rattle.qg_image.specs.State.{State, Subvolume, layout_of, next_generation, node_at}
use Rattle.qg_image.proofs.Contained.{contains_here, contains_later}
use Rattle.qg_root_items.specs.Written.{items_of_file}
use Rattle.qg_machine.specs.Refusals.{root_level}
use Rattle.qg_backref_rule.proofs.NumberSets.{same_ascending}
use Rattle.qg_open_image.proofs.Sorted.{ascends_of}
use Rattle.qg_open_image.specs.Named.{named}
use Rattle.qg_extents.specs.Table.{IsTable}
use Rattle.qg_tree_read.specs.Tree.{Root}
use Rattle.qg_open_image.specs.ForestStanding.{root_of, tree_of}
use Rattle.qg_open_image.proofs.ForestRoots.{root_level-value, root_of-value}
use Rattle.qg_open_image.specs.Types.{FsTree}
use Rattle.qg_open_image.specs.Standing.{trees_of}
use Rattle.qg_open_image.proofs.Trees.{next-same, root-level, tree-subvolume}
use Rattle.qg_survey.specs.Surveying.{trees_of as trees_of_state}
use Rattle.qg_open_image.specs.FsLawsKeeping as step
use Rattle.qg_open_image.specs.declared.open_image.OpenImage.{OpenImage}
use Rattle.qg_open_image.specs.declared.open_image.KeptSubvolume.{KeptSubvolume}
use Rattle.qg_open_image.specs.Keeping.{IsFitted, IsKept, IsKeptWith, kept_subvolume}
use Rattle.qg_image_commits.specs.Planning.{numbers_of, root_of_tree}
use Rattle.qg_image_commits.proofs.Cleaned.{tree-now}

-- ---- numbers

-- numbers that do not fall
rising : {X : Type 0} (number : X → ℕ) (xs : List X) → IsNonDecreasingBy number xs → IsNonDecreasing (map number xs)
rising number [] up = λ i j d le short. absurd (omega arith)
rising number (x ∷ xs) up = λ i j d le short.
    let long = length-map (x ∷ xs) number in
    let inside : j < length (x ∷ xs) = omega (arith, long, short) in
    let here = get_or-map number (x ∷ xs) i x d (omega (arith, inside, le)) in
    let there = get_or-map number (x ∷ xs) j x d inside in
    let rise = up i j x le inside in
    omega (arith, here, there, rise)

-- no two are the same of numbers that ascend
distinct_ascending : (ns : List ℕ) → IsStrictlyIncreasing ns → IsDistinct eqb ns
distinct_ascending ns up =
    IsDistinct-from_AllPairs Decides-eqb ns (λ i j d less short same.
    let rise = AllPairs-from_increasing ns up i j d less short in omega (arith, rise, same))

-- numbers that do not fall, which are those of some that ascend, are these
sorted_same : (ns ms : List ℕ) → IsStrictlyIncreasing ns → IsPermutation ns ms → IsNonDecreasing ms → ms ≡ ns
sorted_same ns ms up moved rise =
    let up' = IsStrictlyIncreasing-from_distinct ms rise
    (IsDistinct-IsPermutation eqb (λ a b. grind (arith, nat_tests)) ns ms moved (distinct_ascending ns up)) in
    same_ascending ms ns (ascends_of ms up') (ascends_of ns up) (record {
      into = λ n has. Contains-permutation ms ns n (IsPermutation-sym ns ms moved) has;
      back = λ n has. Contains-permutation ns ms n moved has;
    })

module _ (kept : OpenImage) (fits : IsFitted kept) (trees : List Root) (moved : IsPermutation (trees_of kept.fs) trees)
    (up : IsNonDecreasingBy (λ tree. tree.owner) trees) where
  abbrev number_of : Root → ℕ
  number_of tree = tree.owner

  keys_moved : IsPermutation (keys_of kept.snapshots) (numbers_of trees)
  keys_moved =
      IsPermutation-trans (keys_of kept.snapshots) (map number_of (trees_of kept.fs)) (numbers_of trees)
      (IsPermutation-sym (map number_of (trees_of kept.fs)) (keys_of kept.snapshots) fits.trees)
      (IsPermutation-map number_of (trees_of kept.fs) trees moved)

  -- they are the subvolumes' numbers
  pub numbers-are : numbers_of trees ≡ keys_of kept.snapshots
  numbers-are =
      sorted_same (keys_of kept.snapshots) (numbers_of trees) fits.subvolumes.ascending keys_moved
      (rising number_of trees up)

  pub numbers-ascend : IsStrictlyIncreasing (numbers_of trees)
  numbers-ascend =
      subst (λ (ns : List ℕ). IsStrictlyIncreasing ns) (sym numbers-are) fits.subvolumes.ascending

  pub tree-back : (tree : Root) → Contains trees tree → Contains (trees_of kept.fs) tree
  tree-back tree has =
      Contains-permutation trees (trees_of kept.fs) tree (IsPermutation-sym (trees_of kept.fs) trees moved) has

  pub tree-into : (tree : Root) → Contains (trees_of kept.fs) tree → Contains trees tree
  tree-into tree has = Contains-permutation (trees_of kept.fs) trees tree moved has

-- ---- a state

tree_alike : (a b : Root) → a.address ≡ b.address → a.height ≡ b.height → a.owner ≡ b.owner → a.next ≡ b.next
    → a ≡ b
tree_alike a b address height owner next = λ i. let tree : Root = record {
  address = address i;
  height = height i;
  owner = owner i;
  next = next i;
} in tree

module _ (fs : FsTree) (history : History) (bytes : ℕ) (state : State) (mine : Subvolume)
    (files : List (ℕ × File)) (kept : step.IsKept fs history bytes)
    (keeps : step.KeepsState fs history state mine files) where
  -- each tree is that of its subvolume
  pub tree-state : (tree : Root) → Contains (trees_of fs) tree → tree ≡ tree_of state tree.owner
  tree-state tree among =
      let its = tree-subvolume fs history bytes (flat_map items_of_file files) (named files) kept.subvolume
      keeps.holds.stands state keeps.laid tree among in
      let address : root_of state tree.owner ≡ tree.address = root_of-value state tree.owner its.0 its.1 ∙ its.2 in
      let level : root_level state tree.owner ≡ tree.height =
      root_level-value state tree.owner its.0 its.1
      ∙ ap (λ (at : ℕ). level_of (node_at state.layout at)) its.2
      ∙ root-level fs history bytes (flat_map items_of_file files) (named files) kept.subvolume keeps.holds.stands
      state keeps.laid tree among in
      let next : next_generation state ≡ tree.next =
      keeps.laid.generation
      ∙ sym (next-same fs history bytes (flat_map items_of_file files) (named files) kept.subvolume
      keeps.holds.stands tree among) in
      tree_alike tree (tree_of state tree.owner) (sym address) (sym level) refl (sym next)

each_of : (f : ℕ → Root) (trees : List Root) → ((tree : Root) → Contains trees tree → tree ≡ f tree.owner)
    → trees ≡ map f (numbers_of trees)
each_of f [] each = refl
each_of f (tree ∷ trees) each =
    let first = each tree (contains_here tree trees) in
    let rest = each_of f trees (λ other has. each other (contains_later tree trees other has)) in
    λ i. first i ∷ rest i

keys_copied : (table : List (ℕ × Subvolume))
    → keys_of (map (λ (entry : ℕ × Subvolume). (entry.0, kept_subvolume entry.1)) table) ≡ keys_of table
keys_copied [] = refl
keys_copied (entry ∷ table) = ap (λ (ns : List ℕ). entry.0 ∷ ns) (keys_copied table)

-- what is kept has the subvolumes' numbers
pub keys-kept : (kept : OpenImage) (state : State) (history : History) (names : List Record)
    → IsKeptWith kept state history names → keys_of kept.snapshots ≡ keys_of state.subvolumes
keys-kept kept state history names keeps =
    ap (λ (table : List (ℕ × KeptSubvolume)). keys_of table) (sym keeps.snapshots) ∙ keys_copied state.subvolumes

-- the trees in order are those of the state's subvolumes
pub trees-are : (kept : OpenImage) (history : History) (bytes : ℕ) (state : State) (names : List Record)
    (trees : List Root) → IsKept kept history bytes → IsTable kept.fs.refs.refs
    → IsKeptWith kept state history names → IsPermutation (trees_of kept.fs) trees
    → IsNonDecreasingBy (λ tree. tree.owner) trees → trees ≡ trees_of_state state
trees-are kept history bytes state names trees fits table keeps moved up =
    each_of (tree_of state) trees
    (λ tree has. tree-state kept.fs history bytes state keeps.mine keeps.files (tree-now kept history bytes fits table)
    keeps.keeps tree (tree-back kept fits.fitted trees moved up tree has))
    ∙ ap (map (tree_of state))
    (numbers-are kept fits.fitted trees moved up ∙ keys-kept kept state history names keeps)

roots_told : (state : State) (table : List (ℕ × Subvolume))
    → ((entry : ℕ × Subvolume) → Contains table entry → value_at entry.0 state.subvolumes ≡ Some entry.1)
    → map root_of_tree (map (tree_of state) (keys_of table))
    ≡ map (λ (entry : ℕ × Subvolume). (entry.0, entry.1.root)) table
roots_told state [] each = refl
roots_told state (entry ∷ table) each =
    let first = root_of-value state entry.0 entry.1 (each entry (contains_here entry table)) in
    let rest = roots_told state table (λ other has. each other (contains_later entry table other has)) in
    λ i. (entry.0, first i) ∷ rest i

-- and their roots are the layout's
pub roots-are : (state : State) → IsStrictlyIncreasing (keys_of state.subvolumes)
    → map root_of_tree (trees_of_state state) ≡ (layout_of state).roots
roots-are state up =
    roots_told state state.subvolumes (λ entry has. value_of_entry state.subvolumes entry up has)
