-- With one subvolume more that has its tree, the state is whole.
use Rattle.std.proofs.Common.{◌≡◌, ℕ, Bool, true, false, List, [], ◌∷◌, Option, Some, None, refl, sym, ap, subst, ◌∙◌}
use Rattle.std.proofs.Common.{inl, inr}
use Rattle.std.specs.Prelude.{◌||◌}
use Rattle.std.specs.List.{AllByRecursion, Contains, list_any}
use Rattle.std.proofs.lemmas.Bool.{cases_Bool, or_left, or_right, true≢false}
use Rattle.qg_node.specs.declared.node.Node.{Node}
use Rattle.qg_node.specs.Fits.{NodeFits}
use Rattle.qg_node.specs.Nodes.{header_of}
use Rattle.qg_node.specs.NodeText.{IsNode}
use Rattle.qg_super.specs.declared.sizes.Sizes.{Sizes}
use Rattle.qg_image.specs.Table.{keys_of, value_at}
use Rattle.qg_image.specs.Owed.{homeless}
use Rattle.qg_image.specs.Reach.{is_among, is_reached, reach, reach_of, reaches}
use Rattle.qg_image.specs.State.{Placed, State, Subvolume, layout_of, node_at}
use Rattle.qg_image.proofs.Contained.{contains_cases, contains_here, contains_later, none_contained}
use Rattle.qg_machine.specs.Layout.{IsReached, IsTreeOf, IsWhole}
use Rattle.qg_files.proofs.Ascending.{all-with_value}
use Rattle.qg_owner_rule.proofs.Reaching.{entry_of_value}
use Rattle.qg_reach.proofs.Members.{contains_map}
use Rattle.qg_subvolumes.proofs.Homed.{ascending-then, made-reached, made_root, node_same, not_new, reaches-still}
use Rattle.qg_subvolumes.proofs.Homed.{tree-low}
use Rattle.qg_subvolumes.proofs.More.{OneMore, next-is}
use Rattle.qg_subvolumes.proofs.TreesStand.{tree-still}

all_mapped : {A : Type 0} (P Q : A → Type 0) (xs : List A) → ((x : A) → P x → Q x) → AllByRecursion P xs
    → AllByRecursion Q xs
all_mapped P Q [] each all = tt
all_mapped P Q (x ∷ xs) each all = (each x all.0, all_mapped P Q xs each all.1)

any_some : {A : Type 0} (test : A → Bool) (xs : List A) → list_any test xs ≡ true
    → (x : A) × Contains xs x × (test x ≡ true)
any_some {A} test [] is = absurd (true≢false (sym is))
any_some {A} test (x ∷ xs) is = elim (cases_Bool (test x)) [
  | inl passes ↦ (x, contains_here x xs, passes)
  | inr fails ↦
      let rest = any_some test xs (sym (ap (λ (b : Bool). b || list_any test xs) fails) ∙ is) in
      (rest.0, contains_later x xs rest.0 rest.1, rest.2)
]

some_any : {A : Type 0} (test : A → Bool) (xs : List A) (x : A) → Contains xs x → test x ≡ true → list_any test xs
    ≡ true
some_any {A} test [] x has passes = absurd (none_contained x has)
some_any {A} test (y ∷ xs) x has passes = elim (contains_cases y xs x has) [
  | inl same ↦ or_left (test y) (list_any test xs) (ap test same ∙ passes)
  | inr later ↦ or_right (test y) (list_any test xs) (some_any test xs x later passes)
]

module _ (before after : State) (sub : ℕ) (more : OneMore before after sub) (whole : IsWhole before)
    (home : homeless (layout_of before) ≡ None) where
  -- nodes that were there are there
  pub stays : (q : ℕ) (node : Node) → node_at before.layout q ≡ Some node
      → node_at after.layout q ≡ node_at before.layout q
  stays q node there =
      node_same before after sub more whole home q (not_new before after sub more whole home q node there)

  -- and a tree that was there is there
  pub still : (subvolume : Subvolume) → IsTreeOf before subvolume → IsTreeOf after subvolume
  still subvolume tree =
      tree-still before after more.to_come (next-is before after sub more) stays subvolume tree
      (tree-low before whole subvolume tree)

  trees : IsTreeOf after more.made → AllByRecursion (λ entry. IsTreeOf after entry.1) after.subvolumes
  trees own =
      let P = λ (entry : ℕ × Subvolume). IsTreeOf after entry.1 in
      let old = all_mapped (λ (entry : ℕ × Subvolume). IsTreeOf before entry.1) P more.others
      (λ entry tree. still entry.1 tree) more.trees in
      subst (λ (table : List (ℕ × Subvolume)). AllByRecursion P table) (sym more.subvolumes)
      (all-with_value P sub more.made more.others own old)

  size_is : after.sizes.nodesize ≡ before.sizes.nodesize
  size_is = ap (λ (sizes : Sizes). sizes.nodesize) more.sizes

  -- who is reached by some subvolume is so still
  reached_by : (owner at : ℕ) → reaches (layout_of after) owner at ≡ true → (root : ℕ)
      → value_at owner (layout_of after).roots ≡ Some root → is_reached (layout_of after) at ≡ true
  reached_by owner at by root there =
      some_any (λ (other : ℕ). reaches (layout_of after) other at) (keys_of (layout_of after).roots) owner
      (contains_map (λ (entry : ℕ × ℕ). entry.0) (layout_of after).roots (owner, root)
      (entry_of_value owner root (layout_of after).roots there)) by

  some_root : (owner at : ℕ) (o : Option ℕ) → value_at owner (layout_of after).roots ≡ o
      → reaches (layout_of after) owner at ≡ true
      → (root : ℕ) × (value_at owner (layout_of after).roots ≡ Some root)
  unfolding reach
  some_root owner at None none by =
      let nothing : reaches (layout_of after) owner at ≡ false =
      ap (λ (o : Option ℕ). is_among at (reach_of (layout_of after) o)) none in
      absurd (true≢false (sym by ∙ nothing))
  some_root owner at (Some root) there by = (root, there)

  reached_still : (at : ℕ) → is_reached (layout_of before) at ≡ true → is_reached (layout_of after) at ≡ true
  reached_still at is =
      let found = any_some (λ (owner : ℕ). reaches (layout_of before) owner at) (keys_of (layout_of before).roots) is in
      let by = reaches-still before after sub more whole home found.0 at found.2 in
      let root = some_root found.0 at (value_at found.0 (layout_of after).roots) refl by in
      reached_by found.0 at by root.0 root.1

  made_is_reached : is_reached (layout_of after) more.made.root ≡ true
  made_is_reached =
      reached_by sub more.made.root (made-reached before after sub more whole home) more.made.root
      (made_root before after sub more whole home)

  module _ (own : IsTreeOf after more.made) (sound : IsNode before.sizes.nodesize more.placed.node)
      (fits : NodeFits more.placed.node) (placed : (header_of more.placed.node).address ≡ more.made.root) where
    new_reached : IsReached after (more.made.root, more.placed)
    new_reached = record {
      node_of_format = subst (λ (n : ℕ). IsNode n more.placed.node) (sym size_is) sound;
      fits = fits;
      placed = placed;
      reached = made_is_reached;
    }

    nodes : AllByRecursion (IsReached after) after.layout
    nodes =
        let old = all_mapped (IsReached before) (IsReached after) before.layout (λ entry its. record {
          node_of_format = subst (λ (n : ℕ). IsNode n entry.1.node) (sym size_is) its.node_of_format;
          fits = its.fits;
          placed = its.placed;
          reached = reached_still entry.0 its.reached;
        }) whole.reached in
        subst (λ (table : List (ℕ × Placed)). AllByRecursion (IsReached after) table) (sym more.layout)
        (all-with_value (IsReached after) more.made.root more.placed before.layout new_reached old)

    pub whole-then : IsWhole after
    whole-then = record {
      ascending = ascending-then before after sub more whole home;
      trees = trees own;
      reached = nodes;
    }
