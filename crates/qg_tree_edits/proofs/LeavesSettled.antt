-- The first child of a node was edited, and the pointers of the node are set: the leaves under it.
use Rattle.std.proofs.Common.{◌≡◌, ℕ, zero, suc, ◌+◌, ◌≤◌, List, [], ◌∷◌, ◌++◌, drop, append-nil, arith, refl, sym, ap}
use Rattle.std.proofs.Common.{◌∙◌, inl, inr, Option, Some, None}
use Rattle.std.specs.Prelude.{IfOk, IsTrue, OnOk, Result, Ok, Err}
use Rattle.qg_device.specs.History.{History}
use Rattle.qg_num.specs.declared.key.Key.{Key}
use Rattle.qg_num.specs.declared.fault.BlockFault.{BlockFault}
use Rattle.qg_node.specs.declared.item.Item.{Item}
use Rattle.qg_node.specs.declared.pointer.Pointer.{Pointer}
use Rattle.qg_node.specs.declared.node.Node.{Node}
use Rattle.qg_node.specs.declared.node.Node.TheVariants.{Leaf}
use Rattle.qg_node.specs.Nodes.{used_bytes}
use Rattle.qg_node.specs.NodeText.{IsNodeSize}
use Rattle.qg_super.specs.declared.superblock.Super.{Super}
use Rattle.qg_shape.specs.Filled.{IsThin}
use Rattle.qg_image.specs.declared.tree.TreeKind.{TreeKind}
use Rattle.qg_image.specs.declared.expected.Expected.{Expected}
use Rattle.qg_blocks.specs.NodesFound.{fresh_at, told}
use Rattle.qg_space.specs.Holding.{is_free_slot}
use Rattle.qg_node_alloc.specs.declared.ground.Ground.{Ground}
use Rattle.qg_node_alloc.specs.Land.{IsDrafted, Rests}
use Rattle.qg_node_alloc.proofs.Lands.{told-fresh_at}
use Rattle.qg_tree_edits.specs.declared.instead.Instead.{Instead}
use Rattle.qg_tree_edits.specs.declared.pairing.Pair.{Pair}
use Rattle.qg_tree_read.specs.Tree.{Reaches, Root, super_of}
use Rattle.qg_tree_read.specs.Branch.{IsBranch}
use Rattle.qg_tree_edits.specs.First.{leaves, leaves_joined, leaves_under}
use Rattle.qg_tree_edits.specs.Editing.{CanLead, CanMake, HasLed, IsEmptyIfLeaf, IsFreshOn, IsOwned, IsUnsettled}
use Rattle.qg_tree_edits.specs.Editing.{KeepsLeaves, alone}
use Rattle.qg_tree_edits.specs.Uniting.{AreUnited, IsPaired}
use Rattle.qg_tree_edits.proofs.Beside.{other-branch}
use Rattle.qg_tree_edits.proofs.LeafLists.{joined-append, leaves-alone, leaves-inner, leaves-same, leaves_more}
use Rattle.qg_tree_edits.proofs.LeafLists.{under-same}
use Rattle.qg_tree_edits.proofs.LeavesLed.{led-leaves}
use Rattle.qg_tree_edits.proofs.OwnedBranch.{below-apart, mine-inner, mine-leaf, mine-told}
use Rattle.qg_tree_edits.proofs.Paired.{IsThinAt}
use Rattle.qg_tree_edits.proofs.PairedHolds.{child-apart, free-there, owned-there}
use Rattle.qg_tree_edits.proofs.RejoinedHolds.{both, differ, hold, new-stays, rejoined-can, size}
use Rattle.qg_tree_edits.proofs.Spliced.{drop-get, drop-there}
use Rattle.qg_tree_edits.proofs.UnitedHolds.{united-leaves}

-- ---- what is known of the value of a call

pub ok-both : {A : Type 0} (result : Result A BlockFault) (P Q : A → Type 0) (Z : Type 0) → ((x : A) → P x → Q x → Z)
    → IfOk result P → IfOk result Q → OnOk result Z
ok-both (Ok x) P Q Z known first second = known x first second
ok-both (Err fault) P Q Z known first second = tt

-- ---- a leaf without items

no_items : (items : List Item) → ◌≡◌ {A = List (List Item)} (items ∷ []) ([] ∷ []) → items ≡ []
no_items items is = cc

-- a branch that is one empty leaf has no items
branch_empty : (tree : TreeKind) (super : Super) (nodes : ℕ → Option Node) (level at : ℕ) (items : List Item)
    → IsBranch tree super nodes level at items → level ≡ 0 → leaves nodes level at ≡ [] ∷ [] → items ≡ []
unfolding IsBranch
branch_empty tree super nodes zero at items branch low empty =
    no_items items (sym (leaves-alone nodes at branch.0 items branch.1) ∙ empty)
branch_empty tree super nodes (suc level) at items branch low empty = absurd (omega (arith, low))

-- and its node is not a quarter full
thin_there : (tree : TreeKind) (super : Super) (land : Ground) (history : History) (nodesize level at : ℕ)
    (items : List Item) (node : Node)
    → IsBranch tree super (told land.blocks.draft history) level at items → level ≡ 0 → items ≡ []
    → fresh_at land.blocks.draft at ≡ Some node
    → IsNodeSize nodesize → IsThin nodesize node
unfolding IsBranch
thin_there tree super land history nodesize zero at items node branch low empty here size =
    let same : node ≡ Leaf branch.0 items = let e = sym (told-fresh_at land.blocks.draft history at node here)
    ∙ branch.1 in cc in
    let none : used_bytes node ≡ 0 = ap used_bytes same
    ∙ ap (λ (xs : List Item). used_bytes (Leaf branch.0 xs)) empty in
    elim size [ inl small ↦ omega (arith, none, small) | inr large ↦ omega (arith, none, large) ]
thin_there tree super land history nodesize (suc level) at items node branch low empty here size =
    absurd (omega (arith, low))

joined_high : (level : ℕ) (xs ys : List (List Item)) → 1 ≤ level → xs ++ ys ≡ leaves_joined level xs ys
joined_high zero xs ys high = absurd (omega (arith, high))
joined_high (suc level) xs ys high = refl

-- ---- the child stays a node of its own

module _ (tree : TreeKind) (root : Root) (land new : Ground) (history : History) (level at : ℕ)
    (to : Option Key) (place : ℕ) (child : Instead)
    (items : List Item) (rest : Option Node) (un : IsUnsettled tree root land history level at to place child items)
    (can : CanLead tree (super_of root land.blocks.draft) land history level at place (place + 1) child un.pointers
    un.header items)
    (led : HasLed tree (super_of root land.blocks.draft) land new history level at place (place + 1) child un.pointers
    un.header items rest) where
  pub settled-leaves : place ≡ 0 → child.more ≡ None → rest ≡ None → 1 ≤ level
      → KeepsLeaves land new history level at child.now un.pointers
  settled-leaves first single none high =
      let before = λ (q : ℕ). leaves (told land.blocks.draft history) level q in
      let one : place + 1 ≡ 1 = omega (arith, first) in
      record {
        kept = led-leaves tree (super_of root land.blocks.draft) land new history level at place
            (place + 1) child un.pointers un.header items rest can led first none
            ∙ ap (λ (o : Option ℕ). (before child.now ++ leaves_more before o)
            ++ leaves_under before (drop (place + 1) un.pointers)) single
            ∙ ap (λ (ls : List (List Item)). ls ++ leaves_under before (drop (place + 1) un.pointers))
            (append-nil (before child.now))
            ∙ ap (λ (n : ℕ). before child.now ++ leaves_under before (drop n un.pointers)) one
            ∙ joined_high level (before child.now) (leaves_under before (drop 1 un.pointers)) high;
      }

  -- as one that is not thin it is no leaf
  pub settled-high : (generation : ℕ) → IsFreshOn land level child.now → IsNodeSize land.blocks.draft.sizes.nodesize
      → ((node : Node) → fresh_at land.blocks.draft child.now ≡ Some node → IsThin land.blocks.draft.sizes.nodesize node
      → ⊥)
      → IsEmptyIfLeaf land history level child.now → 1 ≤ level
  settled-high generation fresh size full empty = high level refl where
    high : (n : ℕ) → level ≡ n → 1 ≤ level
    high zero low =
        let none = branch_empty tree (super_of root land.blocks.draft) (told land.blocks.draft history) level child.now
        un.holds.mine un.holds.here low (empty low) in
        absurd (full fresh.node fresh.here
        (thin_there tree (super_of root land.blocks.draft) land history land.blocks.draft.sizes.nodesize level child.now
        un.holds.mine fresh.node un.holds.here low none fresh.here size))
    high (suc n) is = omega (arith, is)

-- ---- a node that was owned

module _ (tree : TreeKind) (root : Root) (land new : Ground) (history : History) (expected : Expected)
    (at now : ℕ)
    (owned : IsOwned tree root land new history expected at now) (makes : CanMake tree root) where
  -- the same leaves are under it
  pub owned-leaves : (level : ℕ) (items : List Item)
      → IsBranch tree (super_of root land.blocks.draft) (told land.blocks.draft history) level at items
      → ((q : ℕ) → IsTrue (is_free_slot land.space q) → Reaches (told land.blocks.draft history) level at q → ⊥)
      → leaves (told new.blocks.draft history) level now ≡ leaves (told land.blocks.draft history) level at
  unfolding IsBranch
  owned-leaves zero items branch free =
      let leaf = mine-leaf tree root land new history expected at now owned makes branch.0 items branch.1
      branch.2.levelled in
      leaves-alone (told new.blocks.draft history) now leaf.0 items
      (mine-told tree root land new history expected at now owned makes ∙ ap (λ (n : Node). Some n) leaf.1)
      ∙ sym (leaves-alone (told land.blocks.draft history) at branch.0 items branch.1)
  owned-leaves (suc level) items branch free =
      let inner = mine-inner tree root land new history expected at now owned makes (suc level) branch.0 branch.1
      branch.2 branch.3.levelled in
      leaves-inner (told new.blocks.draft history) level now inner.0 branch.1
      (mine-told tree root land new history expected at now owned makes ∙ ap (λ (n : Node). Some n) inner.1)
      ∙ under-same (λ q. leaves (told land.blocks.draft history) level q)
      (λ q. leaves (told new.blocks.draft history) level q) branch.1
      (λ place pointer there. leaves-same (told land.blocks.draft history) (told new.blocks.draft history) level
      pointer.child
      (λ q reaches. owned.others history q
      (below-apart tree root land new history expected at now owned makes level branch.0 branch.1 items branch.2
      branch.3.levelled branch.4 free place pointer there q reaches)))
      ∙ sym (leaves-inner (told land.blocks.draft history) level at branch.0 branch.1 branch.2)

-- ---- the child was joined with its neighbour

module _ (tree : TreeKind) (root : Root) (land mid new end : Ground) (history later last : History)
    (level at : ℕ) (to : Option Key) (place child : ℕ) (items : List Item) (rest : Option Node)
    (un : IsUnsettled tree root land history level at to place (alone child) items) (pair : Pair) (instead : Instead)
    (is : IsPaired tree root land mid history un.pointers to level place child pair)
    (makes : CanMake tree root) (drafted : IsDrafted land root.next) (rests : Rests land mid later root.next)
    (fresh : IsFreshOn land level child) (thin : IsThinAt land child)
    (united : AreUnited mid new pair.left pair.right instead) (after : Rests mid new last root.next)
    (led : HasLed tree (super_of root land.blocks.draft) new end history level at pair.front
    (pair.front + 2) instead un.pointers un.header items rest)
    (first : place ≡ 0) (none : rest ≡ None) (empty : IsEmptyIfLeaf land history level child) where
  before : ℕ → List (List Item)
  before q = leaves (told land.blocks.draft history) level q

  between : ℕ → List (List Item)
  between q = leaves (told mid.blocks.draft history) level q

  then : ℕ → List (List Item)
  then q = leaves (told new.blocks.draft history) level q

  -- the neighbour is the second child
  record IsSecond : Type 0 where
    second : is.is.other ≡ 1
    front : pair.front ≡ 0
    left : pair.left ≡ child
    right : pair.right ≡ is.now

  is_second : IsSecond
  is_second =
      let sides : (is.beside.front ≡ place) × (pair.left ≡ child) × (pair.right ≡ is.now) = elim is.sides [
        | inl behind ↦ behind
        | inr front ↦ absurd (let a = front.0 in omega (arith, a, first))
      ] in
      let other : is.is.other ≡ place + 1 = elim is.is.pair [
        | inl behind ↦ behind.1
        | inr front ↦ absurd (let a = front.0 in omega (arith, a, first))
      ] in
      let begins = is.front in
      let at_place = sides.0 in
      record {
        second = omega (arith, other, first);
        front = omega (arith, begins, at_place, first);
        left = sides.1;
        right = sides.2;
      }

  there : IsOwned tree root land mid history is.beside.way.expected is.is.way.pointer.child is.now
  there = owned-there tree root land mid history level at to place child items un pair is makes

  -- it has the same leaves, and so has the child
  right_stays : between pair.right ≡ before is.is.way.pointer.child
  unfolding between before
  right_stays =
      let second = is_second.second in
      let under = other-branch tree root land history level at to place (alone child) items un is.is.other
      is.is.way.pointer (inr (omega (arith, second, first))) is.is.way.there in
      ap between is_second.right
      ∙ owned-leaves tree root land mid history is.beside.way.expected is.is.way.pointer.child is.now there makes level
      under.0 under.2
      (free-there tree root land mid history level at to place child items un pair is makes)

  left_stays : between pair.left ≡ before child
  unfolding between before
  left_stays =
      ap between is_second.left
      ∙ leaves-same (told land.blocks.draft history) (told mid.blocks.draft history) level child
      (λ q reaches. there.others history q
      (child-apart tree root land mid history level at to place child items un pair is makes q reaches))

  others_stay : leaves_under then (drop (pair.front + 2) un.pointers) ≡ leaves_under before
      (drop (pair.front + 2) un.pointers)
  unfolding then before
  others_stay =
      under-same before then (drop (pair.front + 2) un.pointers)
      (λ i pointer at_i.
      let found = drop-get (pair.front + 2) un.pointers i pointer at_i in
      leaves-same (told land.blocks.draft history) (told new.blocks.draft history) level pointer.child
      (new-stays tree root land mid new history later last level at to place child items un pair instead is makes
      drafted rests fresh thin united after found.0 pointer (inr found.1) found.2))

  left_empty : level ≡ 0
      → (hold tree root land mid new history later last level at to place child items un pair instead is makes drafted
      rests fresh thin united after).ls ≡ []
  unfolding between before
  left_empty low =
      let held = hold tree root land mid new history later last level at to place child items un pair instead is makes
      drafted rests fresh thin united after in
      branch_empty tree (super_of root land.blocks.draft) (told mid.blocks.draft history) level pair.left held.ls
      held.left_holds low (left_stays ∙ empty low)

  both_joined : then instead.now ++ leaves_more then instead.more ≡ leaves_joined level (before child)
      (before is.is.way.pointer.child)
  unfolding then between before
  both_joined =
      let held = hold tree root land mid new history later last level at to place child items un pair instead is makes
      drafted rests fresh thin united after in
      united-leaves mid new pair.left pair.right instead
      (differ tree root land mid new history later last level at to place child items un pair instead is makes drafted
      rests fresh thin united after)
      (both tree root land mid new history later last level at to place child items un pair instead is makes drafted
      rests fresh thin united after)
      united tree (super_of root land.blocks.draft) history level held.ls held.rs held.left_holds held.right_holds
      (size tree root land mid new history later last level at to place child items un pair instead is makes drafted
      rests fresh thin united after)
      left_empty
      ∙ ap (λ (ls : List (List Item)). leaves_joined level ls (between pair.right)) left_stays
      ∙ ap (λ (ls : List (List Item)). leaves_joined level (before child) ls) right_stays

  -- the pointers behind the first one
  behind_first : drop 1 un.pointers ≡ is.is.way.pointer ∷ drop (pair.front + 2) un.pointers
  behind_first =
      let second = is_second.second in
      let front = is_second.front in
      let two : suc is.is.other ≡ pair.front + 2 = omega (arith, second, front) in
      ap (λ (n : ℕ). drop n un.pointers) (sym second)
      ∙ drop-there un.pointers is.is.other is.is.way.pointer is.is.way.there
      ∙ ap (λ (n : ℕ). is.is.way.pointer ∷ drop n un.pointers) two

  pub rejoined-leaves : KeepsLeaves land end history level at child un.pointers
  unfolding then before
  rejoined-leaves = record {
    kept = led-leaves tree (super_of root land.blocks.draft) new end history level at pair.front
        (pair.front + 2) instead un.pointers un.header items rest
        (rejoined-can tree root land mid new history later last level at to place child items un pair instead is makes
        drafted rests fresh thin united after) led is_second.front none
        ∙ ap (λ (ls : List (List Item)). ls ++ leaves_under then (drop (pair.front + 2) un.pointers)) both_joined
        ∙ ap (λ (ls : List (List Item)). leaves_joined level (before child) (before is.is.way.pointer.child) ++ ls)
        others_stay
        ∙ sym (joined-append level (before child) (before is.is.way.pointer.child)
        (leaves_under before (drop (pair.front + 2) un.pointers)))
        ∙ ap (λ (ps : List Pointer). leaves_joined level (before child) (leaves_under before ps)) (sym behind_first);
  }
