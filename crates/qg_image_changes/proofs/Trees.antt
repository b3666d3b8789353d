-- The trees that are kept of a state are those of its subvolumes, and the book may stand for any of them.
use Rattle.std.proofs.Common.{◌≡◌, ◌≢◌, ℕ, Bool, true, false, List, [], ◌∷◌, map, refl, sym, ap, ◌∙◌, inl, inr}
use Rattle.std.specs.Prelude.{◌==◌, not, nat_lt, if◌then◌else◌}
use Rattle.std.specs.List.{Contains, filter, flat_map}
use Rattle.std.proofs.lemmas.Bool.{cond-false, cond-true, eq-eqb, ne_eqb}
use Rattle.qg_device.specs.History.{History}
use Rattle.qg_image.specs.Table.{keys_of, with_value, without_key}
use Rattle.qg_image.specs.Record.{Record}
use Rattle.qg_image.specs.Reach.{level_of}
use Rattle.qg_image.specs.State.{State, Subvolume, next_generation, node_at}
use Rattle.qg_image.proofs.Contained.{contains_cases, contains_here, contains_later}
use Rattle.qg_machine.specs.Refusals.{root_level}
use Rattle.qg_root_items.specs.Written.{items_of_file}
use Rattle.qg_node_alloc.specs.declared.ground.Ground.{Ground}
use Rattle.qg_open_image.specs.Types.{TreeRefs}
use Rattle.qg_tree_read.specs.Tree.{Root}
use Rattle.qg_open_image.specs.ForestStanding.{HoldsState, root_of, tree_of}
use Rattle.qg_open_image.proofs.ForestRoots.{root_level-value, root_of-value}
use Rattle.qg_open_image.proofs.Snapshotted.{root_entry}
use Rattle.qg_open_image.specs.Standing.{trees_of}
use Rattle.qg_open_image.proofs.Lists.{from-mapped}
use Rattle.qg_open_image.proofs.Trees.{root-level, roots-laid}
use Rattle.qg_open_image.specs.Named.{named}
use Rattle.qg_open_image.specs.FsLawsKeeping.{AreTreesOf}
use Rattle.qg_open_image.specs.declared.open_image.OpenImage.{OpenImage}
use Rattle.qg_open_image.specs.Keeping.{IsKept, IsKeptWith}
use Rattle.qg_open_image.proofs.Looked.{hand-among, is-subvolume}
use Rattle.qg_open_image.proofs.Tables.{key-of-value}
use Rattle.qg_open_image.proofs.Turned.{tree-sub}

-- ---- tables without a number

kept_step : {A : Type 0} (n : ℕ) (entry : ℕ × A) (rest same : List (ℕ × A)) → filter (λ e. not (e.0 == n)) rest ≡ same
    → (b : Bool) → not (entry.0 == n) ≡ b
    → filter (λ e. not (e.0 == n)) (entry ∷ rest) ≡ (if b then entry ∷ same else same)
kept_step {A} n entry rest same is true test =
    cond-true (not (entry.0 == n)) (entry ∷ without_key n rest) (without_key n rest) test
    ∙ ap (λ (entries : List (ℕ × A)). entry ∷ entries) is
kept_step {A} n entry rest same is false test =
    cond-false (not (entry.0 == n)) (entry ∷ without_key n rest) (without_key n rest) test ∙ is

-- where there is none of the number nothing goes
pub without-none : {A : Type 0} (n : ℕ) (table : List (ℕ × A))
    → ((entry : ℕ × A) → Contains table entry → entry.0 ≢ n) → without_key n table ≡ table
without-none n [] none = refl
without-none n (entry ∷ table) none =
    kept_step n entry table table
    (without-none n table (λ other has. none other (contains_later entry table other has))) true
    (ap not (ne_eqb entry.0 n (none entry (contains_here entry table))))

-- what was put goes
put_gone : {A : Type 0} (n : ℕ) (value : A) (rest : List (ℕ × A))
    → without_key n ((n, value) ∷ rest) ≡ without_key n rest
put_gone n value rest = cond-false (not (n == n)) ((n, value) ∷ without_key n rest) (without_key n rest)
    (ap not (eq-eqb n n refl))

put_by : {A : Type 0} (n : ℕ) (value : A) (entry : ℕ × A) (rest : List (ℕ × A)) → entry.0 ≢ n
    → without_key n (with_value n value rest) ≡ without_key n rest → (b : Bool) → nat_lt n entry.0 ≡ b
    → without_key n (with_value n value (entry ∷ rest)) ≡ without_key n (entry ∷ rest)
put_by {A} n value entry rest differ later true less =
    ap (λ (table : List (ℕ × A)). without_key n table) (cond-true _ _ _ less) ∙ put_gone n value (entry ∷ rest)
put_by {A} n value entry rest differ later false less =
    ap (λ (table : List (ℕ × A)). without_key n table)
    (cond-false _ _ _ less ∙ cond-false _ _ _ (ne_eqb entry.0 n differ))
    ∙ kept_step n entry (with_value n value rest) (without_key n rest) later true (ap not (ne_eqb entry.0 n differ))
    ∙ sym (kept_step n entry rest (without_key n rest) refl true (ap not (ne_eqb entry.0 n differ)))

pub without-put : {A : Type 0} (n : ℕ) (value : A) (table : List (ℕ × A))
    → ((entry : ℕ × A) → Contains table entry → entry.0 ≢ n)
    → without_key n (with_value n value table) ≡ without_key n table
without-put n value [] none = put_gone n value []
without-put n value (entry ∷ table) none =
    put_by n value entry table (none entry (contains_here entry table))
    (without-put n value table (λ other has. none other (contains_later entry table other has))) (nat_lt n entry.0) refl

mapped_step : {A B : Type 0} (f : A → B) (n : ℕ) (entry : ℕ × A) (rest : List (ℕ × A))
    → without_key n (map (λ e. (e.0, f e.1)) rest) ≡ map (λ e. (e.0, f e.1)) (without_key n rest)
    → (b : Bool) → not (entry.0 == n) ≡ b
    → without_key n (map (λ e. (e.0, f e.1)) (entry ∷ rest)) ≡ map (λ e. (e.0, f e.1)) (without_key n (entry ∷ rest))
mapped_step {A} {B} f n entry rest later true test =
    kept_step n (entry.0, f entry.1) (map (λ (e : ℕ × A). (e.0, f e.1)) rest)
    (map (λ (e : ℕ × A). (e.0, f e.1)) (without_key n rest)) later true test
    ∙ ap (λ (table : List (ℕ × A)). map (λ (e : ℕ × A). (e.0, f e.1)) table)
    (sym (kept_step n entry rest (without_key n rest) refl true test))
mapped_step {A} {B} f n entry rest later false test =
    kept_step n (entry.0, f entry.1) (map (λ (e : ℕ × A). (e.0, f e.1)) rest)
    (map (λ (e : ℕ × A). (e.0, f e.1)) (without_key n rest)) later false test
    ∙ ap (λ (table : List (ℕ × A)). map (λ (e : ℕ × A). (e.0, f e.1)) table)
    (sym (kept_step n entry rest (without_key n rest) refl false test))

pub without-mapped : {A B : Type 0} (f : A → B) (n : ℕ) (table : List (ℕ × A))
    → without_key n (map (λ e. (e.0, f e.1)) table) ≡ map (λ e. (e.0, f e.1)) (without_key n table)
without-mapped f n [] = refl
without-mapped f n (entry ∷ table) =
    mapped_step f n entry table (without-mapped f n table) (not (entry.0 == n)) refl

-- each element being told by its number
pub told-by-number : (f : ℕ → Root) (trees : List Root) → ((tree : Root) → Contains trees tree → tree ≡ f tree.owner)
    → trees ≡ map f (map (λ (tree : Root). tree.owner) trees)
told-by-number f [] each = refl
told-by-number f (tree ∷ trees) each =
    λ i. each tree (contains_here tree trees) i
    ∷ told-by-number f trees (λ other has. each other (contains_later tree trees other has)) i

-- a tree's root with its number
abbrev root_pair : Root → ℕ × ℕ
root_pair tree = (tree.owner, tree.address)

pairs_numbers : (trees : List Root) → keys_of (map root_pair trees) ≡ map (λ (tree : Root). tree.owner) trees
pairs_numbers [] = refl
pairs_numbers (tree ∷ trees) = ap (λ (numbers : List ℕ). tree.owner ∷ numbers) (pairs_numbers trees)

entries_numbers : (table : List (ℕ × Subvolume)) → keys_of (map root_entry table) ≡ keys_of table
entries_numbers [] = refl
entries_numbers (entry ∷ table) = ap (λ (numbers : List ℕ). entry.0 ∷ numbers) (entries_numbers table)

-- ---- the trees of a state

module _ (kept : OpenImage) (history : History) (bytes : ℕ) (state : State) (names : List Record)
    (fits : IsKept kept history bytes) (keeps : IsKeptWith kept state history names) where
  next_is : (tree : Root) → Contains (trees_of kept.fs) tree → tree.next ≡ kept.fs.tree.next
  next_is tree has = elim (contains_cases kept.fs.tree kept.fs.others.items tree has) [
    | inl same ↦ ap (λ (t : Root). t.next) (sym same)
    | inr later ↦ fits.fitted.turn.next tree later
  ]

  pub tree-is : (tree : Root) → Contains (trees_of kept.fs) tree → tree ≡ tree_of state tree.owner
  tree-is tree among =
      let its = tree-sub kept history bytes state names fits keeps tree among in
      let root : root_of state tree.owner ≡ tree.address = root_of-value state tree.owner its.0 its.1 ∙ its.2 in
      let level : root_level state tree.owner ≡ tree.height =
      root_level-value state tree.owner its.0 its.1 ∙ ap (λ (at : ℕ). level_of (node_at state.layout at)) its.2
      ∙ root-level kept.fs history bytes (flat_map items_of_file keeps.files) (named keeps.files)
      (is-subvolume kept history bytes fits) keeps.keeps.holds.stands state keeps.keeps.laid tree among in
      let next : next_generation state ≡ tree.next = keeps.keeps.laid.generation ∙ sym (next_is tree among) in
      λ i. let now : Root = record {
        address = sym root i;
        height = sym level i;
        owner = tree.owner;
        next = sym next i;
      } in now

  abbrev own : ℕ
  own = kept.fs.tree.owner

  none_own : (entry : ℕ × ℕ) → Contains (map root_pair kept.fs.others.items) entry → entry.0 ≢ own
  none_own entry has same =
      let found = from-mapped root_pair kept.fs.others.items entry has in
      fits.fitted.numbered.apart_at found.0 found.1 (ap (λ (e : ℕ × ℕ). e.0) found.2 ∙ same)

  roots_others : map root_pair kept.fs.others.items ≡ map root_entry (without_key own state.subvolumes)
  roots_others =
      sym (without-none own (map root_pair kept.fs.others.items) none_own)
      ∙ sym (without-put own kept.fs.tree.address (map root_pair kept.fs.others.items) none_own)
      ∙ ap (λ (table : List (ℕ × ℕ)). without_key own table)
      (sym (roots-laid kept.fs history bytes (flat_map items_of_file keeps.files) (named keeps.files)
      (is-subvolume kept history bytes fits) keeps.keeps.holds.stands state keeps.keeps.laid))
      ∙ without-mapped (λ (subvolume : Subvolume). subvolume.root) own state.subvolumes

  pub numbers-others : map (λ (tree : Root). tree.owner) kept.fs.others.items
      ≡ keys_of (without_key own state.subvolumes)
  numbers-others =
      sym (pairs_numbers kept.fs.others.items)
      ∙ ap (λ (table : List (ℕ × ℕ)). keys_of table) roots_others
      ∙ entries_numbers (without_key own state.subvolumes)

  pub trees-are : AreTreesOf kept.fs state
  trees-are = record {
    there = key-of-value own state.subvolumes keeps.mine keeps.keeps.there;
    hand = tree-is kept.fs.tree (hand-among kept.fs);
    others = told-by-number (tree_of state) kept.fs.others.items
        (λ tree has. tree-is tree (contains_later kept.fs.tree kept.fs.others.items tree has))
        ∙ ap (λ (numbers : List ℕ). map (tree_of state) numbers) numbers-others;
    book = keeps.keeps.holds.stands.book.owner;
  }

-- ---- the book stands for another subvolume

-- what is held is so whichever subvolume the book stands for
pub held-for : (land : Ground) (history : History) (book : TreeRefs) (state : State) (sub : ℕ)
    → HoldsState land history book state → HoldsState land history (record book { tree = sub }) state
held-for land history book state sub held = record {
  sizes = held.sizes;
  nodesize = held.nodesize;
  next = held.next;
  fits = held.fits;
  numbers = held.numbers;
  whole = held.whole;
  home = held.home;
  nodes = λ at placed is.
      let node = held.nodes at placed is in
      record { slot = node.slot; told = node.told; mark = node.mark };
  agrees = held.agrees;
  settled = record {
    slots = held.settled.slots;
    written = held.settled.written;
    fresh = held.settled.fresh;
    newer = held.settled.newer;
    clean = held.settled.clean;
  };
  extents = held.extents;
  runs = held.runs;
  held_slots = held.held_slots;
  held_runs = held.held_runs;
}
