-- The children of a node are parts of what is open, once the node was dropped.
use Rattle.std.proofs.Common.{◌≡◌, ℕ, zero, suc, ◌-◌, Bool, true, List, [], ◌∷◌, map, Option, Some, None, arith, refl}
use Rattle.std.proofs.Common.{ap, subst, ◌∙◌, inl, inr}
use Rattle.std.specs.Prelude.{◌==◌, not, slice_get}
use Rattle.std.specs.List.{All, flat_map, list_any}
use Rattle.std.proofs.lemmas.Bool.{and_from, and_parts, cases_Bool, or_left, or_right}
use Rattle.std.proofs.lemmas.List.Elements.{All-cons, All-nil}
use Rattle.std.proofs.lemmas.List.Folds.{list_any-append}
use Rattle.qg_num.specs.declared.key.Key.{Key}
use Rattle.qg_node.specs.declared.item.Item.{Item}
use Rattle.qg_node.specs.declared.node.Node.{Node}
use Rattle.qg_node.specs.declared.pointer.Pointer.{Pointer}
use Rattle.qg_node.specs.Nodes.{header_of, is_ascending, own_pointers}
use Rattle.qg_super.specs.declared.superblock.Super.{Super}
use Rattle.qg_image.specs.Table.{has_key, value_at}
use Rattle.qg_image.specs.declared.element.Element.{Element}
use Rattle.qg_image.specs.Reach.{own_elements, pointers_at, reach_under}
use Rattle.qg_image.specs.State.{Placed, State, node_at}
use Rattle.qg_image.specs.declared.expected.Expected.{Expected}
use Rattle.qg_image.specs.declared.failure.Failure.{Failure}
use Rattle.qg_image.specs.declared.tree.TreeKind.TheVariants.{Files}
use Rattle.qg_image.specs.Among.{found_there}
use Rattle.qg_image.specs.Walk.{found_failure, node_failure, pointers_failure, walk_failure}
use Rattle.qg_machine.specs.Layout.{found_in, super_to_come}
use Rattle.qg_refs.specs.Book.{Book, full_in}
use Rattle.qg_walk.specs.Standing.{expected_below}
use Rattle.qg_walk.proofs.Failures.{neither}
use Rattle.qg_tree_read.specs.Branch.{AreBranches}
use Rattle.qg_tree_read.specs.Tree.{Reaches}
use Rattle.qg_tree_read.proofs.BranchApart.{branches-apart}
use Rattle.qg_tree_read.proofs.BranchRanges.{ascending-first, ascending-others}
use Rattle.qg_subvolumes.specs.declared.child.Child.{Child}
use Rattle.qg_subvolumes.specs.Dropping.{AreParts, AreSingle, IsUnder, children_told, is_below, without_part}

-- what is expected of children is of their level
pub children-levelled : (book : Book) (to : Option Key) (level : ℕ) (pointers : List Pointer)
    → All (λ (child : Child). child.way.expected.level ≡ Some level) (children_told book to level pointers)
children-levelled book to level [] = All-nil (λ (child : Child). child.way.expected.level ≡ Some level)
children-levelled book to level (pointer ∷ pointers) =
    All-cons (λ (child : Child). child.way.expected.level ≡ Some level) _ (children_told book to level pointers) refl
    (children-levelled book to level pointers)

-- ---- one node

-- the walk's judge of a node, and the walks below it
pub node-passed : (judge : Expected → ℕ → Node → Option Failure) (walk : Expected → ℕ → Option Failure)
    (expected : Expected) (at : ℕ) (o : Option Node) (node : Node) → o ≡ Some node
    → found_failure judge walk expected at (found_there o at) ≡ None
    → (judge expected at node ≡ None)
    × (pointers_failure walk ((header_of node).level - 1) expected.to (own_pointers node) ≡ None)
node-passed judge walk expected at o node is none =
    neither (judge expected at node) (pointers_failure walk ((header_of node).level - 1) expected.to
    (own_pointers node)) (subst (λ (o : Option Node). found_failure judge walk expected at (found_there o at) ≡ None) is
    none)

any_under : (test : Element → Bool) (under : Pointer → List Element) (pointers : List Pointer) (place : ℕ)
    (pointer : Pointer) → slice_get pointers place ≡ Some pointer → list_any test (under pointer) ≡ true
    → list_any test (flat_map under pointers) ≡ true
any_under test under [] place pointer there passes = absurd cc
any_under test under (first ∷ pointers) zero pointer there passes =
    let same : first ≡ pointer = cc in
    list_any-append test (under first) (flat_map under pointers)
    ∙ or_left (list_any test (under first)) (list_any test (flat_map under pointers))
    (ap (λ (p : Pointer). list_any test (under p)) same ∙ passes)
any_under test under (first ∷ pointers) (suc place) pointer there passes =
    list_any-append test (under first) (flat_map under pointers)
    ∙ or_right (list_any test (under first)) (list_any test (flat_map under pointers))
    (any_under test under pointers place pointer there passes)

-- ---- pointers of a node

module _ (state : State) where
  abbrev pub nodes : ℕ → Option Node
  nodes = node_at state.layout

  abbrev pub super : Super
  super = super_to_come state

  abbrev pub walk : ℕ → Expected → ℕ → Option Failure
  walk level = walk_failure (node_failure Files super) (found_in state.layout) level

  -- what lies below a child lies below its parent
  pub below-child : (level at q : ℕ) (node : Node) → nodes at ≡ Some node → (place : ℕ) (pointer : Pointer)
      → slice_get (own_pointers node) place ≡ Some pointer → is_below state level pointer.child q ≡ true
      → is_below state (suc level) at q ≡ true
  below-child level at q node is place pointer there below =
      let test = λ (element : Element). element.address == q in
      let under = λ (p : Pointer). reach_under nodes state.sizes.nodesize level p.child in
      let own = own_elements state.sizes.nodesize at (nodes at) in
      let rest = flat_map under (pointers_at (nodes at)) in
      list_any-append test own rest
      ∙ or_right (list_any test own) (list_any test rest)
      (ap (λ (o : Option Node). list_any test (flat_map under (pointers_at o))) is
      ∙ any_under test under (own_pointers node) place pointer there below)

  -- what is asked of each pointer, if its child is to be dropped
  pub record IsChild (level : ℕ) (waiting : ℕ → Bool) (book : Book) (pointer : Pointer) : Type 0 where
    pub opened : (q : ℕ) → is_below state level pointer.child q ≡ true → has_key q state.layout ≡ true
        → waiting q ≡ true
    pub under : IsUnder state waiting pointer.child
    pub placed : Placed
    pub there : value_at pointer.child state.layout ≡ Some placed
    pub mark : placed.full ≡ full_in (book pointer.child)

  less_under : (waiting less : ℕ → Bool) → ((q : ℕ) → less q ≡ true → waiting q ≡ true) → (at : ℕ)
      → IsUnder state waiting at → IsUnder state less at
  less_under waiting less more at under q node there is leads = under q node there (more q is) leads

  pub less-single : (waiting less : ℕ → Bool) → ((q : ℕ) → less q ≡ true → waiting q ≡ true)
      → AreSingle state waiting → AreSingle state less
  less-single waiting less more single p q at a b is is' = single p q at a b (more p is) (more q is')

  without_less : (waiting : ℕ → Bool) (level from q : ℕ) → without_part state level from waiting q ≡ true
      → waiting q ≡ true
  without_less waiting level from q is = (and_parts (waiting q) (not (is_below state level from q)) is).0

  -- pointers to nodes of a level, whose branches are apart: dropped one after the other
  pub children-parts : (level : ℕ) (to : Option Key) (book : Book) (pointers : List Pointer) (items : List Item)
      (before waiting : ℕ → Bool)
      → ((from q : ℕ)
      → ((p : ℕ) → is_below state level from p ≡ true → has_key p state.layout ≡ true → before p ≡ true)
      → has_key q state.layout ≡ true → is_below state level from q ≡ true → Reaches nodes level from q)
      → ((q : ℕ) → waiting q ≡ true → before q ≡ true)
      → pointers_failure (walk level) level to pointers ≡ None
      → AreBranches Files super nodes level pointers items
      → is_ascending (map (λ item. item.key) items) ≡ true
      → ((place : ℕ) (pointer : Pointer) → slice_get pointers place ≡ Some pointer
      → IsChild level waiting book pointer)
      → AreSingle state waiting
      → AreParts state waiting level (children_told book to level pointers)
  children-parts level to book [] items before waiting reached less none each ascending children single = tt
  children-parts level to book (pointer ∷ pointers) items before waiting reached less none each ascending children
      single =
      let parts = neither (walk level (expected_below level to pointer pointers) pointer.child)
      (pointers_failure (walk level) level to pointers) none in
      let own = children 0 pointer refl in
      let rest = without_part state level pointer.child waiting in
      let smaller = without_less waiting level pointer.child in (
        record {
          walked = parts.0;
          items = each.0;
          branch = each.3.1;
          ascending = ascending-first each.0 each.1 items each.2 ascending;
          opened = own.opened;
          under = own.under;
          single = single;
          placed = own.placed;
          there = own.there;
          mark = own.mark;
        },
        children-parts level to book pointers each.1 before rest reached (λ q is. less q (smaller q is)) parts.1 each.4
            (ascending-others each.0 each.1 items each.2 ascending)
            (λ place other there. child_later level book pointer pointers items before waiting reached less each
            ascending own place other there (children (suc place) other there))
            (less-single waiting rest smaller single),
      )
    where
      child_later : (level : ℕ) (book : Book) (pointer : Pointer) (pointers : List Pointer) (items : List Item)
          (before waiting : ℕ → Bool)
          → ((from q : ℕ)
          → ((p : ℕ) → is_below state level from p ≡ true → has_key p state.layout ≡ true → before p ≡ true)
          → has_key q state.layout ≡ true → is_below state level from q ≡ true → Reaches nodes level from q)
          → ((q : ℕ) → waiting q ≡ true → before q ≡ true)
          → AreBranches Files super nodes level (pointer ∷ pointers) items
          → is_ascending (map (λ item. item.key) items) ≡ true
          → IsChild level waiting book pointer → (place : ℕ) (other : Pointer)
          → slice_get pointers place ≡ Some other → IsChild level waiting book other
          → IsChild level (without_part state level pointer.child waiting) book other
      child_later level book pointer pointers items before waiting reached less each ascending own place other there
          its = record {
            opened = λ q below key.
                and_from (waiting q) (not (is_below state level pointer.child q)) (its.opened q below key)
                (elim (cases_Bool (is_below state level pointer.child q)) [
                  | inl both ↦
                      let mine = reached pointer.child q (λ p b k. less p (own.opened p b k)) key both in
                      let theirs = reached other.child q (λ p b k. less p (its.opened p b k)) key below in
                      absurd (branches-apart Files super nodes level (pointer ∷ pointers) items each ascending 0
                      (suc place) pointer other refl there (λ same. omega (arith, same)) q mine theirs)
                  | inr apart ↦ ap not apart
                ]);
            under = less_under waiting (without_part state level pointer.child waiting)
                (without_less waiting level pointer.child) other.child its.under;
            placed = its.placed;
            there = its.there;
            mark = its.mark;
          }
