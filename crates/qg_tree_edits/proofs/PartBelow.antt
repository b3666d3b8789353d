-- A node that was owned, and the child of it that an edit goes on to: what is around the child, and that it may be
-- edited.
use Rattle.std.proofs.Common.{◌≡◌, ◌≢◌, ℕ, zero, suc, ◌+◌, ◌*◌, ◌≤◌, ◌<◌, true, false, cond, List, [], ◌∷◌, ◌++◌, map}
use Rattle.std.proofs.Common.{take, drop, length, Result, Ok, Err, arith, refl, sym, ap, subst, ◌∙◌, inl, inr}
use Rattle.std.proofs.Common.{append_assoc, Option, Some, None}
use Rattle.std.specs.Prelude.{Bool, IsTrue, ◌&&◌, ◌||◌, ◌==◌, not, nat_le, if◌then◌else◌, slice_get, slice_index}
use Rattle.std.specs.List.{All, list_all, list_any}
use Rattle.std.specs.Ordering.{is_lt}
use Rattle.std.specs.Result.{result_ok}
use Rattle.std.proofs.lemmas.Bool.{and_parts, leb-true, or_from}
use Rattle.std.proofs.lemmas.List.{drop-map}
use Rattle.std.proofs.lemmas.List.Folds.{list_any-append}
use Rattle.qg_device.specs.History.{History, Recorded, Unrecorded, content, range}
use Rattle.qg_num.specs.Fields.{is_zero, u64_at}
use Rattle.qg_num.specs.Key.{key_cmp}
use Rattle.qg_num.specs.declared.key.Key.{Key}
use Rattle.qg_num.specs.declared.rule.Rule.{Rule}
use Rattle.qg_num.specs.declared.rule.Rule.TheVariants as rule
use Rattle.qg_node.specs.declared.item.Item.{Item}
use Rattle.qg_node.specs.declared.pointer.Pointer.{Pointer}
use Rattle.qg_node.specs.declared.node.Header.{Header}
use Rattle.qg_node.specs.declared.node.Node.{Node}
use Rattle.qg_node.specs.declared.node.Node.TheVariants.{Leaf, Inner}
use Rattle.qg_node.specs.declared.fault.NodeFault.{NodeFault}
use Rattle.qg_node.specs.declared.fault.NodeFault.TheVariants.{Csum, Place, Level, Empty, Bounds, Order, Slack}
use Rattle.qg_node.specs.Nodes.{is_ascending, own_keys, used_bytes}
use Rattle.qg_node.specs.NodeText.{IsNodeSize}
use Rattle.qg_node.specs.Reading.{◌>>=◌, check, count_at, has_checksum, has_empty_fields, header_at, inner_at, items_at}
use Rattle.qg_node.specs.Reading.{leaf_at, node_read, pointers_at}
use Rattle.qg_super.specs.declared.sizes.Sizes.{Sizes}
use Rattle.qg_super.specs.declared.superblock.Super.{Super}
use Rattle.qg_super.specs.Places.{capacity}
use Rattle.qg_image.specs.IsShaped.{is_first, is_shaped, same_key}
use Rattle.qg_shape.specs.Places.{LeadsTo}
use Rattle.qg_shape.proofs.Sides.{back-all, front-all}
use Rattle.qg_image.specs.declared.expected.Expected.{Expected}
use Rattle.qg_image.specs.declared.tree.TreeKind.{TreeKind}
use Rattle.qg_walk.specs.Added.{is_from, is_to}
use Rattle.qg_walk.specs.Standing.{expected_below, form_failure}
use Rattle.qg_walk.proofs.KeyRanges.{less_upto, list_all-weaker}
use Rattle.qg_blocks.specs.Standing.{has_slot, ruled, standing}
use Rattle.qg_blocks.specs.NodesFound.{fresh_at, told, told_or}
use Rattle.qg_space.specs.Holding.{is_free_slot}
use Rattle.qg_node_alloc.specs.declared.ground.Ground.{Ground}
use Rattle.qg_node_alloc.specs.Land.{IsDrafted}
use Rattle.qg_edit.specs.declared.edit.Change.{Change}
use Rattle.qg_edit.specs.declared.edit.Change.TheVariants.{Insert, Replace, Remove, Clear}
use Rattle.qg_edit.specs.declared.edit.Edit.{Edit}
use Rattle.qg_edit.specs.Edits.{CanChange, CanEdit, has_key}
use Rattle.qg_edit.proofs.Lists.{same-not_greater, same-not_less}
use Rattle.qg_tree_read.specs.declared.way.Way.{Way}
use Rattle.qg_tree_read.specs.Reading.{is_upto}
use Rattle.qg_tree_read.specs.Tree.{Reaches, Root, super_for, super_of}
use Rattle.qg_tree_read.specs.Way.{LeadsFor}
use Rattle.qg_tree_read.specs.Branch.{AreBranches, IsMember}
use Rattle.qg_tree_edits.specs.First.{first_leaf, least}
use Rattle.qg_tree_edits.specs.Editing.{CanMake, IsOwned, IsPartFit, IsWayAt}
use Rattle.qg_tree_edits.proofs.Around.{IsAround}
use Rattle.qg_tree_read.proofs.Branches.{begin-front, branches-first}
use Rattle.qg_tree_read.proofs.BranchApart.{branches-apart}
use Rattle.qg_tree_read.proofs.BranchForms.{form-expected, generation-parts}
use Rattle.qg_tree_read.proofs.BranchFrames.{IsUnder-same, branches-same, reach-same, reach-top}
use Rattle.qg_tree_read.proofs.BranchOrder.{ascends-under, keys_of}
use Rattle.qg_tree_read.proofs.BranchRanges.{ascending-others, begins-from, less-before}
use Rattle.qg_tree_read.proofs.BranchWalk.{branch-under, branches-under, pointed-under, top-under}
use Rattle.qg_tree_read.proofs.Leads.{cut_at, followed_upto}
use Rattle.qg_tree_edits.proofs.FirstLeaf.{first-inner, first-same, leads-first}
use Rattle.qg_tree_edits.proofs.Leading.{branches-keys}
use Rattle.qg_tree_edits.proofs.OwnedBranch.{below-apart, below-top, mine-inner}
use Rattle.qg_tree_edits.proofs.Served.{size-blocks}
use Rattle.qg_tree_read.proofs.Split.{keys_to}
use Rattle.qg_tree_edits.proofs.Spliced.{drop-get, got-inside, take-get}
use Rattle.qg_tree_read.proofs.Under.{AreUnder, BeginAt, IsUnder, begins-under, both-under, under-inner}

-- ---- the keys of a node that is told ascend

check_ok : (holds : Bool) (fault : NodeFault) (read : Result Node NodeFault) (node : Node)
    → check holds fault read ≡ Ok node → (holds ≡ true) × (read ≡ Ok node)
check_ok true fault read node is = (refl, is)
check_ok false fault read node is = absurd cc

read_same : (a b : Node) → ◌≡◌ {A = Result Node NodeFault} (Ok a) (Ok b) → a ≡ b
read_same a b is = cc

kept_ascends : (node other : Node) (slack : Bool)
    → check (is_ascending (own_keys node)) Order (check slack Slack (Ok node)) ≡ Ok other
    → is_ascending (own_keys other) ≡ true
kept_ascends node other slack is =
    let order = check_ok (is_ascending (own_keys node)) Order (check slack Slack (Ok node)) other is in
    let last = check_ok slack Slack (Ok node) other order.1 in
    subst (λ (n : Node). is_ascending (own_keys n) ≡ true) (read_same node other last.1) order.0

items_ascend : (header : Header) (slack : List Item × ℕ → Bool) (read : Result (List Item × ℕ) NodeFault) (node : Node)
    → (read >>= λ items. check (is_ascending (map (λ item. item.key) items.0)) Order
    (check (slack items) Slack (Ok (Leaf header items.0)))) ≡ Ok node
    → is_ascending (own_keys node) ≡ true
items_ascend header slack (Ok items) node is = kept_ascends (Leaf header items.0) node (slack items) is
items_ascend header slack (Err fault) node is = absurd cc

leaf_ascends : (bytes : List ℕ) (node : Node) → leaf_at bytes ≡ Ok node → is_ascending (own_keys node) ≡ true
unfolding leaf_at
leaf_ascends bytes node is =
    let low = 101 + 25 * count_at bytes in
    let slack = λ (read : List Item × ℕ). has_empty_fields bytes && is_zero low read.1 bytes in
    let behind = λ (read : List Item × ℕ). check (is_ascending (map (λ (item : Item). item.key) read.0)) Order
    (check (slack read) Slack (Ok (Leaf (header_at bytes) read.0))) in
    let first = check_ok (nat_le low (length bytes)) Bounds
    (items_at (count_at bytes) 101 (length bytes) low bytes >>= behind) node is in
    items_ascend (header_at bytes) slack (items_at (count_at bytes) 101 (length bytes) low bytes) node first.1

inner_ascends : (bytes : List ℕ) (node : Node) → inner_at bytes ≡ Ok node → is_ascending (own_keys node) ≡ true
unfolding inner_at
inner_ascends bytes node is =
    let end = 101 + 33 * count_at bytes in
    let inner = Inner (header_at bytes) (pointers_at (count_at bytes) 101 bytes) in
    let slack = has_empty_fields bytes && is_zero end (length bytes) bytes in
    let first = check_ok (nat_le end (length bytes)) Bounds
    (check (is_ascending (own_keys inner)) Order (check slack Slack (Ok inner))) node is in
    kept_ascends inner node slack first.1

level_ascends : (bytes : List ℕ) (node : Node) (leaf : Bool) → cond leaf (leaf_at bytes) (inner_at bytes) ≡ Ok node
    → is_ascending (own_keys node) ≡ true
level_ascends bytes node true is = leaf_ascends bytes node is
level_ascends bytes node false is = inner_ascends bytes node is

read_ascends : (address : ℕ) (bytes : List ℕ) (node : Node) → node_read address bytes ≡ Ok node
    → is_ascending (own_keys node) ≡ true
unfolding node_read
read_ascends address bytes node is =
    let level = slice_index bytes 100 in
    let read : Result Node NodeFault = cond (level == 0) (leaf_at bytes) (inner_at bytes) in
    let counted = (level == 0) || not (count_at bytes == 0) in
    let first = check_ok (has_checksum bytes) Csum
    (check (u64_at 48 bytes == address) Place (check (nat_le level 7) Level (check counted Empty read))) node is in
    let second = check_ok (u64_at 48 bytes == address) Place (check (nat_le level 7) Level (check counted Empty read))
    node first.1 in
    let third = check_ok (nat_le level 7) Level (check counted Empty read) node second.1 in
    level_ascends bytes node (level == 0) (check_ok counted Empty read node third.1).1

slot_read : (has : Bool) (read : Result Node NodeFault) (node : Node)
    → (if has then ruled read else Err rule.Slot) ≡ Ok node → read ≡ Ok node
slot_read true (Ok other) node is = let same : other ≡ node = cc in rw same refl
slot_read true (Err fault) node is = absurd cc
slot_read false read node is = absurd cc

standing_ascends : (sizes : Sizes) (image : List ℕ) (address : ℕ) (node : Node) → standing sizes image address ≡ Ok node
    → is_ascending (own_keys node) ≡ true
unfolding standing
standing_ascends sizes image address node is =
    read_ascends address (range address sizes.nodesize image) node
    (slot_read (has_slot sizes (length image) address) (node_read address (range address sizes.nodesize image)) node is)

ok_there : (read : Result Node Rule) (node : Node) → result_ok read ≡ Some node → read ≡ Ok node
ok_there (Ok other) node is = let same : other ≡ node = cc in rw same refl
ok_there (Err broken) node is = absurd cc

either_ascends : (fresh : Option Node) (sizes : Sizes) (history : History) (address : ℕ) (node : Node)
    → ((other : Node) → fresh ≡ Some other → is_ascending (own_keys other) ≡ true)
    → told_or fresh sizes history address ≡ Some node → is_ascending (own_keys node) ≡ true
either_ascends (Some other) sizes history address node ascends is = ascends node is
either_ascends None sizes (Unrecorded changes) address node ascends is = absurd cc
either_ascends None sizes (Recorded events) address node ascends is =
    standing_ascends sizes (content events) address node (ok_there (standing sizes (content events) address) node is)

pub told-ascends : (land : Ground) (history : History) (generation : ℕ) → IsDrafted land generation
    → (q : ℕ) (node : Node) → told land.blocks.draft history q ≡ Some node → is_ascending (own_keys node) ≡ true
unfolding told
told-ascends land history generation drafted q node is =
    either_ascends (fresh_at land.blocks.draft q) land.blocks.draft.sizes history q node
    (λ other there. (drafted.each q other there).kept.sound.ascending) is

-- ---- of some items those in front of a key, and those behind it, don't have it

none_less : (key : Key) (items : List Item) → list_all (λ item. is_lt (key_cmp item.key key)) items ≡ true
    → has_key key items ≡ false
none_less key [] less = refl
none_less key (item ∷ items) less =
    let parts = and_parts (is_lt (key_cmp item.key key))
    (list_all (λ (other : Item). is_lt (key_cmp other.key key)) items) less in
    or_from (same_key item.key key) (has_key key items) (same-not_less item.key key parts.0)
    (none_less key items parts.1)

none_greater : (key : Key) (items : List Item) → list_all (λ item. is_lt (key_cmp key item.key)) items ≡ true
    → has_key key items ≡ false
none_greater key [] greater = refl
none_greater key (item ∷ items) greater =
    let parts = and_parts (is_lt (key_cmp key item.key))
    (list_all (λ (other : Item). is_lt (key_cmp key other.key)) items) greater in
    or_from (same_key item.key key) (has_key key items) (same-not_greater item.key key parts.0)
    (none_greater key items parts.1)

or_none : (b : Bool) → (b || false) ≡ b
or_none true = refl
or_none false = refl

has_mine : (key : Key) (front mine back : List Item) → has_key key front ≡ false → has_key key back ≡ false
    → has_key key (front ++ (mine ++ back)) ≡ has_key key mine
has_mine key front mine back none_front none_back =
    let has = λ (item : Item). same_key item.key key in
    list_any-append has front (mine ++ back)
    ∙ ap (λ (b : Bool). b || list_any has (mine ++ back)) none_front
    ∙ list_any-append has mine back
    ∙ ap (λ (b : Bool). list_any has mine || b) none_back
    ∙ or_none (list_any has mine)

can_alike : (key : Key) (change : Change) (items mine : List Item) → has_key key items ≡ has_key key mine
    → CanChange key change items → CanChange key change mine
can_alike key (Insert body) items mine same can = ap not (sym same) ∙ can
can_alike key (Replace body) items mine same can = sym same ∙ can
can_alike key Remove items mine same can = sym same ∙ can
can_alike key Clear items mine same can = tt

-- what an edit relies on it finds among the items between
pub can-between : (edit : Edit) (items front mine back : List Item) → items ≡ front ++ (mine ++ back)
    → list_all (λ item. is_lt (key_cmp item.key edit.key)) front ≡ true
    → list_all (λ item. is_lt (key_cmp edit.key item.key)) back ≡ true → CanEdit edit items → CanEdit edit mine
can-between edit items front mine back whole less greater can =
    let none_front = none_less edit.key front less in
    let none_back = none_greater edit.key back greater in
    can_alike edit.key edit.change items mine (ap (λ (xs : List Item). has_key edit.key xs) whole
    ∙ has_mine edit.key front mine back none_front none_back) can

-- ---- a node has two pointers at least

several_shaped : (nodesize : ℕ) (from : Option Key) (header : Header) (pointers : List Pointer) → IsNodeSize nodesize
    → is_shaped nodesize from (Inner header pointers) ≡ true → 2 ≤ length pointers
unfolding is_shaped
several_shaped nodesize None header pointers size shaped = leb-true 2 (length pointers) shaped
several_shaped nodesize (Some key) header pointers size shaped =
    let full = leb-true (capacity nodesize) (4 * used_bytes (Inner header pointers))
    (and_parts (nat_le (capacity nodesize) (4 * used_bytes (Inner header pointers)))
    (is_first key (own_keys (Inner header pointers))) shaped).0 in
    elim size [ inl is ↦ omega (arith, is, full) | inr is ↦ omega (arith, is, full) ]

-- ---- the items under pointers, of which one is followed

-- what is under the one, and under those in front and behind
pub record IsParted (tree : TreeKind) (super : Super) (nodes : ℕ → Option Node) (level : ℕ) (to : Option Key)
    (before : List Pointer) (pointer : Pointer) (after : List Pointer) (items : List Item) : Type 0 where
  pub front : List Item
  pub mine : List Item
  pub back : List Item
  pub items_are : items ≡ front ++ (mine ++ back)
  pub under : IsUnder tree super nodes level (expected_below level to pointer after) pointer.child mine
  pub in_front : AreBranches tree super nodes level before front
  pub behind : AreBranches tree super nodes level after back

module _ (tree : TreeKind) (super : Super) (nodes : ℕ → Option Node) (level : ℕ) where
  parted : (to : Option Key) (before : List Pointer) (pointer : Pointer) (after : List Pointer) (items : List Item)
      → AreUnder tree super nodes level to (before ++ pointer ∷ after) items
      → IsParted tree super nodes level to before pointer after items
  parted to [] pointer after items under =
      let both = both-under tree super nodes level to pointer after items under in
      record {
        front = [];
        mine = both.first;
        back = both.others;
        items_are = both.items_are;
        under = both.here;
        in_front = refl;
        behind = branches-under tree super nodes level to after both.others both.behind;
      }
  parted to (first ∷ before) pointer after items under =
      let rest = before ++ pointer ∷ after in
      let both = both-under tree super nodes level to first rest items under in
      let later = parted to before pointer after both.others both.behind in
      record {
        front = both.first ++ later.front;
        mine = later.mine;
        back = later.back;
        items_are = both.items_are ∙ ap (λ (xs : List Item). both.first ++ xs) later.items_are
            ∙ sym (append_assoc both.first later.front (later.mine ++ later.back));
        under = later.under;
        in_front = (
          both.first,
          later.front,
          refl,
          (
            pointed-under tree super nodes level to first rest both.first both.here,
            branch-under tree super nodes level
                (expected_below level to first rest) first.child both.first both.here,
          ),
          later.in_front,
        );
        behind = later.behind;
      }

  pub parted-at : (to : Option Key) (pointers : List Pointer) (items : List Item) (place : ℕ) (pointer : Pointer)
      → slice_get pointers place ≡ Some pointer
      → AreUnder tree super nodes level to pointers items
      → IsParted tree super nodes level to (take place pointers) pointer (drop (place + 1) pointers) items
  parted-at to pointers items place pointer there under =
      parted to (take place pointers) pointer (drop (place + 1) pointers) items
      (subst (λ (ps : List Pointer). AreUnder tree super nodes level to ps items) (cut_at pointers place pointer there)
      under)

  -- those in front are less than a key that the pointer leads on to, and those behind are greater
  less_front : (key : Key) (pointer : Pointer) (place : ℕ) (pointers : List Pointer) (front rest items : List Item)
      → items ≡ front ++ rest → is_ascending (keys_of items) ≡ true
      → BeginAt pointer.key rest → (0 < place → is_upto key pointer.key ≡ true)
      → AreBranches tree super nodes level (take place pointers) front
      → list_all (λ item. is_lt (key_cmp item.key key)) front ≡ true
  less_front key pointer zero pointers front rest items whole ascending begins upto each = rw each refl
  less_front key pointer (suc place) pointers front rest items whole ascending begins upto each =
      let here = upto (omega arith) in
      list_all-weaker (λ (item : Item). is_to (Some pointer.key) item.key)
      (λ (item : Item). is_lt (key_cmp item.key key)) (λ item less. less_upto item.key pointer.key key less here)
      front
      (less-before pointer.key front rest items whole ascending begins)

  greater_back : (key : Key) (after : List Pointer) (back : List Item) → AreBranches tree super nodes level after back
      → is_ascending (keys_of back) ≡ true
      → list_all (λ other. is_lt (key_cmp key other)) (keys_to after) ≡ true
      → list_all (λ item. is_lt (key_cmp key item.key)) back ≡ true
  greater_back key [] back each ascending past = rw each refl
  greater_back key (next ∷ after) back each ascending past =
      let first = (and_parts (is_lt (key_cmp key next.key))
      (list_all (λ (other : Key). is_lt (key_cmp key other)) (keys_to after)) past).0 in
      list_all-weaker (λ (item : Item). is_from (Some next.key) item.key)
      (λ (item : Item). is_lt (key_cmp key item.key)) (λ item from. less_upto key next.key item.key first from) back
      (begins-from next.key back (branches-first tree super nodes level next after back each) ascending)

-- ---- a part that an edit may be done to

module _ (tree : TreeKind) (root : Root) (land : Ground) (history : History) (level : ℕ) (expected : Expected)
    (at : ℕ) (edit : Edit) (items : List Item)
    (fit : IsPartFit tree root land history (suc level) expected at edit items) where
  pub fit-under : IsUnder tree (super_of root land.blocks.draft) (told land.blocks.draft history)
      (suc level) expected at items
  fit-under = record { levelled = fit.levelled; walked = fit.walked; items_are = fit.items_are }

  -- it has an inner node
  pub fit-inner : (header : Header) × (pointers : List Pointer)
      × (told land.blocks.draft history at ≡ Some (Inner header pointers))
  fit-inner =
      let inner = under-inner tree (super_of root land.blocks.draft) (told land.blocks.draft history) level expected at
      items fit-under in
      (inner.header, inner.pointers, inner.here)

  -- what is known of the one that is told
  pub fit-there : (header : Header) (pointers : List Pointer)
      → told land.blocks.draft history at ≡ Some (Inner header pointers)
      → (form_failure tree (super_of root land.blocks.draft) expected at (Inner header pointers) ≡ None)
      × (header.level ≡ suc level)
      × AreUnder tree (super_of root land.blocks.draft) (told land.blocks.draft history) level expected.to pointers
      items
  fit-there header pointers here =
      let super = super_of root land.blocks.draft in
      let nodes = told land.blocks.draft history in
      let inner = under-inner tree super nodes level expected at items fit-under in
      let that : Some (Inner inner.header inner.pointers) ≡ Some (Inner header pointers) = sym inner.here ∙ here in
      let one : Inner inner.header inner.pointers ≡ Inner header pointers = cc in
      let header_is : inner.header ≡ header = cc in
      let pointers_are : inner.pointers ≡ pointers = cc in (
        subst (λ (n : Node). form_failure tree super expected at n ≡ None) one inner.formed,
        ap (λ (h : Header). h.level) (sym header_is) ∙ inner.level_is,
        subst (λ (ps : List Pointer). AreUnder tree super nodes level expected.to ps items) pointers_are inner.below,
      )

-- ---- its node was owned

module _ (tree : TreeKind) (root : Root) (land mid : Ground) (history : History) (level : ℕ)
    (expected : Expected) (at now : ℕ) (edit : Edit) (items : List Item)
    (fit : IsPartFit tree root land history (suc level) expected at edit items)
    (owned : IsOwned tree root land mid history expected at now) (makes : CanMake tree root)
    (drafted : IsDrafted land root.next) (sizes : mid.blocks.draft.sizes ≡ land.blocks.draft.sizes)
    (header : Header) (pointers : List Pointer)
    (here : told land.blocks.draft history at ≡ Some (Inner header pointers)) where
  formed : form_failure tree (super_of root land.blocks.draft) expected at (Inner header pointers) ≡ None
  formed = (fit-there tree root land history level expected at edit items fit header pointers here).0

  high : header.level ≡ suc level
  high = (fit-there tree root land history level expected at edit items fit header pointers here).1

  below_all : AreUnder tree (super_of root land.blocks.draft) (told land.blocks.draft history) level expected.to
      pointers items
  below_all = (fit-there tree root land history level expected at edit items fit header pointers here).2

  each : AreBranches tree (super_of root land.blocks.draft) (told land.blocks.draft history) level pointers items
  each = branches-under tree (super_of root land.blocks.draft) (told land.blocks.draft history) level expected.to
      pointers items below_all

  ascending : is_ascending (keys_of items) ≡ true
  ascending =
      ascends-under tree (super_of root land.blocks.draft) (told land.blocks.draft history)
      (told-ascends land history root.next drafted) (suc level) expected at items
      (fit-under tree root land history level expected at edit items fit)

  super_same : super_of root mid.blocks.draft ≡ super_of root land.blocks.draft
  super_same = ap (λ (s : Sizes). super_for root.next s.nodesize) sizes

  -- it is fresh, and has the same pointers
  pub owned-here : (mine : Header) × (fresh_at mid.blocks.draft now ≡ Some (Inner mine pointers))
      × IsMember tree (super_of root mid.blocks.draft) (suc level) mine
  owned-here =
      let is = form-expected tree (super_of root land.blocks.draft) expected at (Inner header pointers) formed in
      let member : IsMember tree (super_of root land.blocks.draft) (suc level) header =
      record {
        levelled = high;
        owned = is.owner;
        dated = (generation-parts root.next expected.generation header.generation is.generation).1;
      } in
      let mine = mine-inner tree root land mid history expected at now owned makes (suc level) header pointers here
      high in (
        mine.0,
        owned.here ∙ ap (λ (n : Node). Some n) mine.1,
        subst (λ (s : Super). IsMember tree s (suc level) mine.0)
            (sym super_same) (mine.2 member),
      )

  -- what is below it is told as before, and the same is reached there
  below_stays : (i : ℕ) (pointer : Pointer) → slice_get pointers i ≡ Some pointer → (q : ℕ)
      → Reaches (told land.blocks.draft history) level pointer.child q
      → told mid.blocks.draft history q ≡ told land.blocks.draft history q
  below_stays i pointer there q reaches =
      owned.others history q (below-apart tree root land mid history expected at now owned makes level header pointers
      items here high each fit.apart i pointer there q reaches)

  below_was : (i : ℕ) (pointer : Pointer) → slice_get pointers i ≡ Some pointer → (q : ℕ)
      → Reaches (told mid.blocks.draft history) level pointer.child q
      → Reaches (told land.blocks.draft history) level pointer.child q
  below_was i pointer there =
      reach-same (told land.blocks.draft history) (told mid.blocks.draft history) level pointer.child
      (below_stays i pointer there)

  below_free : (q : ℕ) → IsTrue (is_free_slot mid.space q) → (i : ℕ) (pointer : Pointer)
      → slice_get pointers i ≡ Some pointer
      → Reaches (told mid.blocks.draft history) level pointer.child q → ⊥
  unfolding Reaches
  below_free q free i pointer there reaches =
      let was = below_was i pointer there q reaches in
      elim (owned.freed q free) [
        | inl still ↦ fit.apart q still (inr (Inner header pointers, here, i, pointer, there, was))
        | inr same ↦ below-top tree root land mid history expected at now owned makes (super_of root land.blocks.draft)
            level header pointers items here high each i pointer there q was same
      ]

  below_alone : (i j : ℕ) (p r : Pointer) → i ≢ j → slice_get pointers i ≡ Some p → slice_get pointers j ≡ Some r
      → (q : ℕ) → Reaches (told mid.blocks.draft history) level p.child q
      → Reaches (told mid.blocks.draft history) level r.child q → ⊥
  below_alone i j p r differ there there' q reaches reaches' =
      branches-apart tree (super_of root land.blocks.draft) (told land.blocks.draft history) level pointers items each
      ascending i j p r there there' differ q
      (below_was i p there q reaches) (below_was j r there' q reaches')

  part_stays : (some : List Pointer) (under : List Item)
      → ((i : ℕ) (pointer : Pointer) → slice_get some i ≡ Some pointer
      → (j : ℕ) × (slice_get pointers j ≡ Some pointer))
      → AreBranches tree (super_of root land.blocks.draft) (told land.blocks.draft history) level some under
      → AreBranches tree (super_of root mid.blocks.draft) (told mid.blocks.draft history) level some under
  part_stays some under found part =
      subst (λ (s : Super). AreBranches tree s (told mid.blocks.draft history) level some under) (sym super_same)
      (branches-same tree (super_of root land.blocks.draft) (told land.blocks.draft history)
      (told mid.blocks.draft history) level some under part
      (λ i pointer there q reaches. let at_place = found i pointer there in
      below_stays at_place.0 pointer at_place.1 q reaches))

  below_judged : (i : ℕ) (pointer : Pointer) → slice_get pointers i ≡ Some pointer
      → (node : Node) × (told mid.blocks.draft history pointer.child ≡ Some node)
      × (form_failure tree (super_of root mid.blocks.draft)
      (expected_below level expected.to pointer (drop (i + 1) pointers)) pointer.child node ≡ None)
  below_judged i pointer there =
      let super = super_of root land.blocks.draft in
      let nodes = told land.blocks.draft history in
      let below = expected_below level expected.to pointer (drop (i + 1) pointers) in
      let part = parted-at tree super nodes level expected.to pointers items i pointer there below_all in
      let top = top-under tree super nodes level below pointer.child part.mine part.under in (
        top.0,
        below_stays i pointer there pointer.child (reach-top nodes level pointer.child) ∙ top.1,
        subst (λ (s : Super). form_failure tree s below pointer.child top.0 ≡ None) (sym super_same) top.2,
      )

  several : 2 ≤ length pointers
  several =
      let is = form-expected tree (super_of root land.blocks.draft) expected at (Inner header pointers) formed in
      several_shaped land.blocks.draft.sizes.nodesize expected.from header pointers (size-blocks land root.next drafted)
      is.shaped

  -- ---- one of its pointers leads on to the edit's key

  module _ (place : ℕ) (below : Way) (leads : LeadsTo (map (λ (p : Pointer). p.key) pointers) edit.key place)
      (way : IsWayAt pointers expected.to level place below) where
    -- what is under it, and under the others
    pub part : IsParted tree (super_of root land.blocks.draft) (told land.blocks.draft history) level expected.to
        (take place pointers) way.pointer (drop (place + 1) pointers) items
    part = parted-at tree (super_of root land.blocks.draft) (told land.blocks.draft history) level expected.to pointers
        items place way.pointer way.there below_all

    leads_for : LeadsFor pointers expected.to level edit.key below
    leads_for = record {
      place = place;
      pointer = way.pointer;
      there = way.there;
      leads = leads;
      child = way.child;
      expects = way.expects;
    }

    front_less : list_all (λ item. is_lt (key_cmp item.key edit.key)) part.front ≡ true
    unfolding leads_for
    front_less =
        let super = super_of root land.blocks.draft in
        let nodes = told land.blocks.draft history in
        let after = expected_below level expected.to way.pointer (drop (place + 1) pointers) in
        let begins = begin-front way.pointer.key part.mine part.back
        (begins-under tree super nodes level after way.pointer.child way.pointer.key part.mine refl part.under) in
        less_front tree super nodes level edit.key way.pointer place pointers part.front (part.mine ++ part.back) items
        part.items_are ascending begins
        (followed_upto edit.key pointers expected.to level below leads_for) part.in_front

    back_greater : list_all (λ item. is_lt (key_cmp edit.key item.key)) part.back ≡ true
    back_greater =
        let later = ascending-others part.mine part.back (part.mine ++ part.back) refl
        (ascending-others part.front (part.mine ++ part.back) items part.items_are ascending) in
        greater_back tree (super_of root land.blocks.draft) (told land.blocks.draft history) level edit.key
        (drop (place + 1) pointers) part.back part.behind later
        (subst (λ (ks : List Key). list_all (λ other. is_lt (key_cmp edit.key other)) ks ≡ true)
        (drop-map (λ (p : Pointer). p.key) (place + 1) pointers) leads.past)

    pub around : IsAround tree root mid history level now expected.to place edit.key pointers part.front part.mine
        part.back items
    around = record {
      header = owned-here.0;
      here = owned-here.1;
      member = owned-here.2;
      inside = got-inside place pointers way.pointer way.there;
      items_are = part.items_are;
      before = part_stays (take place pointers) part.front
          (λ i pointer there. (i, (take-get place pointers i pointer there).1)) part.in_front;
      after = part_stays (drop (place + 1) pointers) part.back
          (λ i pointer there. let found = drop-get (place + 1) pointers i pointer there in
          (found.0, found.2)) part.behind;
      less = front_less;
      greater = back_greater;
      judged = λ i pointer other there. below_judged i pointer there;
      several = several;
      ascending = ascending;
      short = fit.short;
      apart = below_alone;
      free = below_free;
    }

    under_mid : IsUnder tree (super_of root mid.blocks.draft) (told mid.blocks.draft history) level below.expected
        below.address part.mine
    under_mid =
        let nodes = told mid.blocks.draft history in
        let after = expected_below level expected.to way.pointer (drop (place + 1) pointers) in
        let stays : IsUnder tree (super_of root land.blocks.draft) nodes level after way.pointer.child part.mine =
        IsUnder-same tree (super_of root land.blocks.draft) (told land.blocks.draft history) nodes level after
        way.pointer.child part.mine part.under (below_stays place way.pointer way.there) in
        let renewed = subst (λ (s : Super). IsUnder tree s nodes level after way.pointer.child part.mine)
        (sym super_same) stays in
        let expects = subst (λ (e : Expected). IsUnder tree (super_of root mid.blocks.draft) nodes level e
        way.pointer.child part.mine) (sym way.expects) renewed in
        subst (λ (a : ℕ). IsUnder tree (super_of root mid.blocks.draft) nodes level below.expected a part.mine)
        (sym way.child) expects

    mine_short : All (λ (item : Item). length item.body ≤ 1024) part.mine
    mine_short =
        front-all (λ (item : Item). length item.body ≤ 1024) part.mine part.back
        (back-all (λ (item : Item). length item.body ≤ 1024) part.front (part.mine ++ part.back)
        (subst (λ (xs : List Item). All (λ (item : Item). length item.body ≤ 1024) xs) part.items_are fit.short))

    pub part-below : IsPartFit tree root mid history level below.expected below.address edit part.mine
    part-below = record {
      levelled = under_mid.levelled;
      walked = under_mid.walked;
      items_are = under_mid.items_are;
      apart = λ q free reaches.
          below_free q free place way.pointer way.there
          (subst (λ (a : ℕ). Reaches (told mid.blocks.draft history) level a q) way.child reaches);
      short = mine_short;
      can = can-between edit items part.front part.mine part.back part.items_are front_less back_greater fit.can;
    }

    -- the least key leads to the first child
    pub first-place : edit.key ≡ least → place ≡ 0
    first-place is =
        let keys = branches-keys tree (super_of root land.blocks.draft) (told land.blocks.draft history) level pointers
        items each ascending in
        leads-first (keys_to pointers) place (subst (λ (k : Key). LeadsTo (keys_to pointers) k place) is leads) keys

    -- the first leaf is the child's first one, where the least key leads there
    pub first-below : edit.key ≡ least → first_leaf (told mid.blocks.draft history) level below.address
        ≡ first_leaf (told land.blocks.draft history) (suc level) at
    first-below is =
        let first = first-place is in
        ap (λ (a : ℕ). first_leaf (told mid.blocks.draft history) level a) way.child
        ∙ first-same (told land.blocks.draft history) (told mid.blocks.draft history) level way.pointer.child
        (below_stays place way.pointer way.there)
        ∙ sym (first-inner (told land.blocks.draft history) level at header pointers way.pointer here
        (subst (λ (n : ℕ). slice_get pointers n ≡ Some way.pointer) first way.there))
