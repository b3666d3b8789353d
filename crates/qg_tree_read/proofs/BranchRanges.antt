-- A branch is what the walk tells, where its items ascend: the ranges of keys on the way follow from their order.
use Rattle.std.proofs.Common.{◌≡◌, ℕ, zero, suc, ◌-◌, true, List, [], ◌∷◌, ◌++◌, arith, refl, sym, ap, subst, ◌∙◌}
use Rattle.std.proofs.Common.{Option, Some, None}
use Rattle.std.specs.Prelude.{Bool, not}
use Rattle.std.specs.List.{list_all}
use Rattle.std.specs.Option.{option_and_then}
use Rattle.std.specs.Ordering.{is_lt}
use Rattle.std.proofs.lemmas.Bool.{and_from, and_parts, eq-eqb}
use Rattle.std.proofs.lemmas.List.{map-append}
use Rattle.std.proofs.lemmas.List.Folds.{list_all-append, list_all-map}
use Rattle.qg_num.specs.Key.{key_cmp}
use Rattle.qg_num.specs.declared.key.Key.{Key}
use Rattle.qg_node.specs.declared.item.Item.{Item}
use Rattle.qg_node.specs.declared.pointer.Pointer.{Pointer}
use Rattle.qg_node.specs.declared.node.Node.{Node}
use Rattle.qg_node.specs.declared.node.Node.TheVariants.{Leaf, Inner}
use Rattle.qg_node.specs.Nodes.{header_of, is_ascending, own_keys}
use Rattle.qg_super.specs.declared.superblock.Super.{Super}
use Rattle.qg_blocks.specs.Below.{inner_pointers, joined, leaf_items}
use Rattle.qg_blocks.specs.IsShaped.{is_first, is_shaped, same_key}
use Rattle.qg_shape.proofs.Ascending.{all_before, all_behind, ascending_back, ascending_front}
use Rattle.qg_blocks.specs.Types.{TreeKind}
use Rattle.qg_blocks.specs.Types.{Expected}
use Rattle.qg_blocks.specs.Among.{found_there}
use Rattle.qg_blocks.specs.Walk.{begins_at, found_failure, is_told, next_key, pointers_failure, root_expected}
use Rattle.qg_blocks.specs.Walk.{walk_failure}
use Rattle.qg_walk.specs.Added.{is_from, is_to}
use Rattle.qg_walk.specs.Standing.{expected_below, form_failure}
use Rattle.qg_walk.proofs.Failures.{none_of_two}
use Rattle.qg_walk.proofs.KeyRanges.{ends_before-each, list_all-true, list_all-weaker, not_less_behind, not_less_itself}
use Rattle.qg_tree_read.specs.Branch.{AreBranches, IsBranch, IsMember, IsPointed}
use Rattle.qg_tree_read.specs.Tree.{IsTree}
use Rattle.qg_tree_read.proofs.Split.{keys_to}
use Rattle.qg_tree_read.proofs.Under.{AreUnder, BeginAt, IsUnder, all_from, all_to, below_in, walk_in}
use Rattle.qg_tree_read.proofs.Branches.{branch-begins, branch-first, branches-first}
use Rattle.qg_tree_read.proofs.BranchForms.{expected-form, generation-told, shape-parts, shape-whole}
use Rattle.qg_tree_read.proofs.BranchOrder.{keys_of}

-- ---- items that ascend, in parts

parts_of : (first others items : List Item) → items ≡ first ++ others → is_ascending (keys_of items) ≡ true
    → is_ascending (keys_of first ++ keys_of others) ≡ true
parts_of first others items whole ascending =
    sym (ap is_ascending (map-append (λ (item : Item). item.key) first others))
    ∙ sym (ap (λ (xs : List Item). is_ascending (keys_of xs)) whole) ∙ ascending

pub ascending-first : (first others items : List Item) → items ≡ first ++ others → is_ascending (keys_of items) ≡ true
    → is_ascending (keys_of first) ≡ true
ascending-first first others items whole ascending =
    ascending_front (keys_of first) (keys_of others) (parts_of first others items whole ascending)

pub ascending-others : (first others items : List Item) → items ≡ first ++ others → is_ascending (keys_of items) ≡ true
    → is_ascending (keys_of others) ≡ true
ascending-others first others items whole ascending =
    ascending_back (keys_of first) (keys_of others) (parts_of first others items whole ascending)

-- what holds of all holds of the parts
pub all-parts : (p : Item → Bool) (first others items : List Item) → items ≡ first ++ others → list_all p items ≡ true
    → (list_all p first ≡ true) × (list_all p others ≡ true)
all-parts p first others items whole all =
    and_parts (list_all p first) (list_all p others) (sym (list_all-append p first others) ∙ sym (ap (list_all p) whole)
    ∙ all)

begin_holds : (p : Key → Bool) (key : Key) (items : List Item) → BeginAt key items
    → list_all (λ item. p item.key) items ≡ true → p key ≡ true
begin_holds p key [] begins all = absurd begins
begin_holds p key (item ∷ items) begins all = sym (ap p begins)
    ∙ (and_parts (p item.key) (list_all (λ (item : Item). p item.key) items) all).0

-- of items that ascend none is less than the first
pub begins-from : (key : Key) (items : List Item) → BeginAt key items → is_ascending (keys_of items) ≡ true
    → all_from (Some key) items ≡ true
unfolding is_ascending
begins-from key [] begins ascending = absurd begins
begins-from key (item ∷ items) begins ascending =
    subst (λ (k : Key). all_from (Some k) (item ∷ items) ≡ true) begins
    (and_from (is_from (Some item.key) item.key) (all_from (Some item.key) items) (not_less_itself item.key)
    (sym (list_all-map (is_from (Some item.key)) (λ (other : Item). other.key) items)
    ∙ list_all-weaker (λ (later : Key). is_lt (key_cmp item.key later)) (is_from (Some item.key))
    (not_less_behind item.key) (keys_of items)
    (all_behind item.key (keys_of items) ascending)))

-- those in front of where others begin are less
pub less-before : (key : Key) (first others items : List Item) → items ≡ first ++ others
    → is_ascending (keys_of items) ≡ true → BeginAt key others → all_to (Some key) first ≡ true
less-before key first [] items whole ascending begins = absurd begins
less-before key first (item ∷ others) items whole ascending begins =
    subst (λ (k : Key). all_to (Some k) first ≡ true) begins
    (sym (list_all-map (is_to (Some item.key)) (λ (other : Item). other.key) first)
    ∙ all_before (keys_of first) item.key (keys_of others) (parts_of first (item ∷ others) items whole ascending))

begins_whole : (from : Key) (keys : List Key) → is_first from keys ≡ true → list_all (is_from (Some from)) keys ≡ true
    → begins_at (Some from) keys ≡ true
begins_whole from [] first all = absurd cc
begins_whole from (key ∷ keys) first all =
    and_from (same_key key from) (list_all (λ later. not (is_lt (key_cmp later from))) keys) first
    (and_parts (is_from (Some from) key) (list_all (is_from (Some from)) keys) all).1

both_joined : (a b : Option (List Item)) (first others items : List Item) → items ≡ first ++ others → a ≡ Some first
    → b ≡ Some others
    → option_and_then (λ first. option_and_then (λ rest. Some (first ++ rest)) b) a ≡ Some items
both_joined a b first others items whole is other = rw (is, other, whole) refl

-- ---- what holds of all items holds of the keys of pointers above them

module _ (tree : TreeKind) (super : Super) (nodes : ℕ → Option Node) where
  pub pointers-all : (p : Key → Bool) (level : ℕ) (pointers : List Pointer) (items : List Item)
      → AreBranches tree super nodes level pointers items
      → list_all (λ item. p item.key) items ≡ true → list_all p (keys_to pointers) ≡ true
  pointers-all p level [] items each all = refl
  pointers-all p level (pointer ∷ pointers) items each all =
      let parts = all-parts (λ (item : Item). p item.key) each.0 each.1 items each.2 all in
      and_from (p pointer.key) (list_all p (keys_to pointers))
      (begin_holds p pointer.key each.0 (branch-first tree super nodes level pointer each.0 each.3.0 each.3.1) parts.0)
      (pointers-all p level pointers each.1 each.4 parts.1)

  own_all : (p : Key → Bool) (level address : ℕ) (items : List Item) → IsBranch tree super nodes level address items
      → (node : Node) → nodes address ≡ Some node
      → list_all (λ item. p item.key) items ≡ true → list_all p (own_keys node) ≡ true
  unfolding IsBranch
  own_all p zero address items branch node is all =
      let same : node ≡ Leaf branch.0 items = let e = sym is ∙ branch.1 in cc in
      ap (λ (n : Node). list_all p (own_keys n)) same ∙ list_all-map p (λ (item : Item). item.key) items ∙ all
  own_all p (suc level) address items branch node is all =
      let same : node ≡ Inner branch.0 branch.1 = let e = sym is ∙ branch.2 in cc in
      ap (λ (n : Node). list_all p (own_keys n)) same ∙ pointers-all p level branch.1 items branch.4 all

  -- the items under the first pointer are less than the next key on the way
  next_to : (level : ℕ) (to : Option Key) (first others items : List Item) (pointers : List Pointer)
      → AreBranches tree super nodes level pointers others
      → items ≡ first ++ others → is_ascending (keys_of items) ≡ true → all_to to items ≡ true
      → all_to (next_key to pointers) first ≡ true
  next_to level to first others items [] each whole ascending all =
      (all-parts (λ (item : Item). is_to to item.key) first others items whole all).0
  next_to level to first others items (next ∷ pointers) each whole ascending all =
      less-before next.key first others items whole ascending
      (branches-first tree super nodes level next pointers others each)

  -- ---- a node is as the walk expects it

  -- what a way to a node tells of its generation and its shape
  record IsTold (expected : Expected) (node : Node) : Type 0 where
    generation : is_told expected.generation (header_of node).generation ≡ true
    shaped : is_shaped super.nodesize expected.from node ≡ true

  begins_told : (from : Option Key) (level address : ℕ) (items : List Item)
      → IsBranch tree super nodes level address items → is_ascending (keys_of items) ≡ true
      → (node : Node) → nodes address ≡ Some node → is_shaped super.nodesize from node ≡ true
      → begins_at from (own_keys node) ≡ true
  begins_told None level address items branch ascending node is shaped = refl
  begins_told (Some key) level address items branch ascending node is shaped =
      let first = (shape-parts super.nodesize key node shaped).1 in
      let begins = branch-begins tree super nodes level address items branch key node is first in
      begins_whole key (own_keys node) first (own_all (is_from (Some key)) level address items branch node is
      (begins-from key items begins ascending))

  as_expected : (level : ℕ) (expected : Expected) (address : ℕ) (items : List Item)
      → IsBranch tree super nodes level address items → is_ascending (keys_of items) ≡ true
      → all_to expected.to items ≡ true → expected.level ≡ Some level → (node : Node) → nodes address ≡ Some node
      → IsMember tree super level (header_of node)
      → IsTold expected node → form_failure tree super expected address node ≡ None
  as_expected level expected address items branch ascending all levelled node is member told =
      expected-form tree super expected address node (record {
        level = ap (λ (o : Option ℕ). is_told o (header_of node).level) levelled
            ∙ eq-eqb level (header_of node).level (sym member.levelled);
        owner = member.owned;
        generation = generation-told super.generation expected.generation (header_of node).generation told.generation
            member.dated;
        begins = begins_told expected.from level address items branch ascending node is told.shaped;
        ends = ends_before-each expected.to (own_keys node)
            ∙ own_all (is_to expected.to) level address items branch node is all;
        shaped = told.shaped;
      })

  -- ---- the walk

  IsWalked : ℕ → Type 0
  IsWalked level = (expected : Expected) (address : ℕ) (items : List Item)
      → IsBranch tree super nodes level address items → is_ascending (keys_of items) ≡ true
      → all_to expected.to items ≡ true → expected.level ≡ Some level
      → ((node : Node) → nodes address ≡ Some node → IsTold expected node)
      → IsUnder tree super nodes level expected address items

  pointed_told : (level : ℕ) (to : Option Key) (pointer : Pointer) (pointers : List Pointer)
      → IsPointed super nodes pointer → (node : Node) → nodes pointer.child ≡ Some node
      → IsTold (expected_below level to pointer pointers) node
  pointed_told level to pointer pointers pointed node is =
      let same : pointed.node ≡ node = let e = sym pointed.there ∙ is in cc in
      subst (λ (n : Node). IsTold (expected_below level to pointer pointers) n) same (record {
        generation = eq-eqb pointer.generation (header_of pointed.node).generation (sym pointed.dated);
        shaped = shape-whole super.nodesize pointer.key pointed.node pointed.full pointed.first;
      })

  under_each : (level : ℕ) → IsWalked level → (to : Option Key) (pointers : List Pointer) (items : List Item)
      → AreBranches tree super nodes level pointers items
      → is_ascending (keys_of items) ≡ true → all_to to items ≡ true → AreUnder tree super nodes level to pointers items
  unfolding IsWalked
  under_each level walked to [] items each ascending all =
      record { walked = refl; items_are = ap (λ (xs : List Item). Some xs) (sym each) }
  under_each level walked to (pointer ∷ pointers) items each ascending all =
      let below = expected_below level to pointer pointers in
      let here = walked below pointer.child each.0 each.3.1 (ascending-first each.0 each.1 items each.2 ascending)
      (next_to level to each.0 each.1 items pointers each.4 each.2 ascending all) refl
      (pointed_told level to pointer pointers each.3.0) in
      let rest = under_each level walked to pointers each.1 each.4
      (ascending-others each.0 each.1 items each.2 ascending)
      (all-parts (λ (item : Item). is_to to item.key) each.0 each.1 items each.2 all).1 in
      record {
        walked = none_of_two (walk_in tree super nodes level below pointer.child)
            (pointers_failure (walk_in tree super nodes level) level to pointers) here.walked rest.walked;
        items_are = both_joined (below_in nodes level pointer) (joined (below_in nodes level) pointers) each.0 each.1
            items each.2 here.items_are rest.items_are;
      }

  under_branch : (level : ℕ) → IsWalked level
  unfolding IsWalked IsBranch walk_failure
  under_branch zero expected address items branch ascending all levelled told =
      let leaf = Leaf branch.0 items in
      let formed = as_expected 0 expected address items branch ascending all levelled leaf branch.1 branch.2
      (told leaf branch.1) in
      record {
        levelled = levelled;
        walked = ap (λ (o : Option Node). found_failure (form_failure tree super) (λ expected address. None) expected
            address (found_there o address)) branch.1
            ∙ none_of_two (form_failure tree super expected address leaf) None formed refl;
        items_are = ap (λ (o : Option Node). option_and_then leaf_items o) branch.1;
      }
  under_branch (suc level) expected address items branch ascending all levelled told =
      let inner = Inner branch.0 branch.1 in
      let formed = as_expected (suc level) expected address items branch ascending all levelled inner branch.2 branch.3
      (told inner branch.2) in
      let below = under_each level (under_branch level) expected.to branch.1 items branch.4 ascending all in
      let low : level ≡ branch.0.level - 1 = omega (arith, branch.3.levelled) in
      record {
        levelled = levelled;
        walked = ap (λ (o : Option Node). found_failure (form_failure tree super) (walk_in tree super nodes level)
            expected address (found_there o address)) branch.2
            ∙ none_of_two (form_failure tree super expected address inner)
            (pointers_failure (walk_in tree super nodes level) (branch.0.level - 1) expected.to branch.1) formed
            (subst (λ (n : ℕ). pointers_failure (walk_in tree super nodes level) n expected.to branch.1 ≡ None) low
            below.walked);
        items_are = ap (λ (o : Option Node). option_and_then (joined (below_in nodes level))
            (option_and_then inner_pointers o)) branch.2 ∙ below.items_are;
      }

  pub under-branches : (level : ℕ) (to : Option Key) (pointers : List Pointer) (items : List Item)
      → AreBranches tree super nodes level pointers items
      → is_ascending (keys_of items) ≡ true → all_to to items ≡ true → AreUnder tree super nodes level to pointers items
  under-branches level = under_each level (under_branch level)

  -- a branch is a tree of its own, where its node has the shape of a root
  pub tree-branch : (height address : ℕ) (items : List Item) → IsBranch tree super nodes height address items
      → is_ascending (keys_of items) ≡ true
      → ((node : Node) → nodes address ≡ Some node → is_shaped super.nodesize None node ≡ true)
      → IsTree tree super nodes height address items
  unfolding IsWalked
  tree-branch height address items branch ascending shaped =
      let under = under_branch height (root_expected (Some height) None) address items branch ascending
      (list_all-true items) refl
      (λ node is. record { generation = refl; shaped = shaped node is }) in
      record { walked = under.walked; items_are = under.items_are }
