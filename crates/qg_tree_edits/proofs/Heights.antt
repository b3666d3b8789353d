-- How high a tree stands: its nodes but the root are a quarter full, and an image has slots for four levels at most.
use Rattle.std.proofs.Common.{◌≡◌, ℕ, zero, suc, ◌+◌, ◌*◌, ◌-◌, ◌/◌, ◌≤◌, ◌<◌, ◌⊎◌, true, false, List, [], ◌∷◌, ◌++◌}
use Rattle.std.proofs.Common.{length, length-append, arith, refl, sym, ap, subst, ◌∙◌, inl, inr, Option, Some, None}
use Rattle.std.specs.Prelude.{Bool, ◌||◌, Result, Ok, Err, nat_le, slice_get, if◌then◌else◌}
use Rattle.std.specs.List.{AllByRecursion, IsDistinct, list_any}
use Rattle.std.specs.Result.{result_ok}
use Rattle.std.proofs.Math.Dec.{eqb}
use Rattle.std.proofs.Math.Nat.{mul-div_cancel, mul-le-mul_right, suc-mul}
use Rattle.std.proofs.lemmas.Bool.{eq-eqb, eqb-true, leb-true, or_cases}
use Rattle.std.proofs.lemmas.List.Folds.{list_any-append}
use Rattle.std.proofs.lemmas.Map.Keys.{IsDistinct-cons, IsDistinct-head, IsDistinct-tail}
use Rattle.std.proofs.lemmas.Map.Steps.{length-le_from_distinct_below}
use Rattle.qg_device.specs.History.{History, Recorded, Unrecorded, content}
use Rattle.qg_num.specs.declared.rule.Rule.{Rule}
use Rattle.qg_num.specs.declared.rule.Rule.TheVariants as rule
use Rattle.qg_node.specs.declared.item.Item.{Item}
use Rattle.qg_node.specs.declared.pointer.Pointer.{Pointer}
use Rattle.qg_node.specs.declared.node.Node.{Node}
use Rattle.qg_node.specs.declared.node.Node.TheVariants.{Inner}
use Rattle.qg_node.specs.Nodes.{is_ascending, own_pointers, used_bytes}
use Rattle.qg_node.specs.NodeText.{IsNodeSize}
use Rattle.qg_super.specs.declared.sizes.Sizes.{Sizes}
use Rattle.qg_super.specs.declared.superblock.Super.{Super}
use Rattle.qg_super.specs.Places.{capacity, is_slot, slot_at, slots_begin}
use Rattle.qg_super.proofs.Served.{SizesFit-is_served}
use Rattle.qg_super.proofs.Slots.{IsSlotAt-is_slot}
use Rattle.qg_image.specs.IsShaped.{is_shaped}
use Rattle.qg_image.specs.declared.tree.TreeKind.{TreeKind}
use Rattle.qg_image.specs.Walk.{root_expected}
use Rattle.qg_blocks.specs.Standing.{has_slot, standing}
use Rattle.qg_blocks.specs.NodesFound.{fresh_at, told, told_or}
use Rattle.qg_blocks.proofs.Stands.{HasSlot-has_slot}
use Rattle.qg_node_alloc.specs.declared.ground.Ground.{Ground}
use Rattle.qg_node_alloc.specs.Land.{IsDrafted}
use Rattle.qg_tree_read.specs.Branch.{AreBranches, IsBranch, IsPointed}
use Rattle.qg_tree_read.specs.Tree.{Reaches, Root, TellsTree, super_of}
use Rattle.qg_tree_read.proofs.Under.{IsUnder, under-inner}
use Rattle.qg_tree_read.proofs.Branches.{branch-level, each-get}
use Rattle.qg_tree_read.proofs.BranchApart.{branches-apart}
use Rattle.qg_tree_read.proofs.BranchForms.{form-expected}
use Rattle.qg_tree_read.proofs.BranchOrder.{ascends-under, keys_of}
use Rattle.qg_tree_read.proofs.BranchRanges.{ascending-first, ascending-others}
use Rattle.qg_tree_read.proofs.BranchWalk.{branches-under}
use Rattle.qg_tree_edits.proofs.PartBelow.{told-ascends}
use Rattle.qg_tree_edits.proofs.Served.{size-blocks}

-- ---- numbers that differ

-- so many numbers of which this holds, no two of them equal
record AreMany (P : ℕ → Type 0) (count : ℕ) : Type 0 where
  numbers : List ℕ
  many : count ≤ length numbers
  distinct : IsDistinct eqb numbers
  each : (k : ℕ) → list_any (eqb k) numbers ≡ true → P k

first_is : (b c : Bool) → b ≡ true → (b || c) ≡ true
first_is true c is = refl
first_is false c is = absurd cc

second_is : (b c : Bool) → c ≡ true → (b || c) ≡ true
second_is true c is = refl
second_is false c is = is

neither_is : (b c : Bool) → ((b || c) ≡ true → ⊥) → (b ≡ false) × (c ≡ true → ⊥)
neither_is true c none = absurd (none refl)
neither_is false c none = (refl, none)

all_differ : (x : ℕ) (ys : List ℕ) → (list_any (eqb x) ys ≡ true → ⊥) → AllByRecursion (λ y. eqb x y ≡ false) ys
all_differ x [] none = tt
all_differ x (y ∷ ys) none =
    let parts = neither_is (eqb x y) (list_any (eqb x) ys) none in (parts.0, all_differ x ys parts.1)

all_both : (P : ℕ → Type 0) (xs ys : List ℕ) → AllByRecursion P xs → AllByRecursion P ys → AllByRecursion P (xs ++ ys)
all_both P [] ys first others = others
all_both P (x ∷ xs) ys first others = (first.0, all_both P xs ys first.1 others)

distinct_both : (xs ys : List ℕ) → IsDistinct eqb xs → IsDistinct eqb ys
    → ((k : ℕ) → list_any (eqb k) xs ≡ true → list_any (eqb k) ys ≡ true → ⊥) → IsDistinct eqb (xs ++ ys)
distinct_both [] ys first others apart = others
distinct_both (x ∷ xs) ys first others apart =
    let here : list_any (eqb x) (x ∷ xs) ≡ true = first_is (eqb x x) (list_any (eqb x) xs) (eq-eqb x x refl) in
    let after = IsDistinct-head eqb x xs first in
    let differ = all_both (λ (y : ℕ). eqb x y ≡ false) xs ys after (all_differ x ys (apart x here)) in
    let rest = distinct_both xs ys (IsDistinct-tail eqb x xs first) others
    (λ k among there. apart k (second_is (eqb k x) (list_any (eqb k) xs) among) there) in
    IsDistinct-cons eqb x (xs ++ ys) differ rest

many_none : (P : ℕ → Type 0) → AreMany P 0
unfolding IsDistinct
many_none P = record { numbers = []; many = omega arith; distinct = tt; each = λ k is. absurd cc }

one_is : (P : ℕ → Type 0) (k j : ℕ) → P k → list_any (eqb j) (k ∷ []) ≡ true → P j
one_is P k j here is = elim (or_cases (eqb j k) false is) [
  | inl same ↦ subst P (sym (eqb-true j k same)) here
  | inr none ↦ absurd cc
]

many_one : (P : ℕ → Type 0) (k : ℕ) → P k → AreMany P 1
unfolding IsDistinct
many_one P k here = record {
  numbers = k ∷ [];
  many = omega arith;
  distinct = (tt, tt);
  each = λ j is. one_is P k j here is;
}

many_fewer : (P : ℕ → Type 0) (few count : ℕ) → few ≤ count → AreMany P count → AreMany P few
many_fewer P few count less are = record {
  numbers = are.numbers;
  many = let many = are.many in omega (arith, less, many);
  distinct = are.distinct;
  each = are.each;
}

many_weaker : (P Q : ℕ → Type 0) (count : ℕ) → ((k : ℕ) → P k → Q k) → AreMany P count → AreMany Q count
many_weaker P Q count weaker are = record {
  numbers = are.numbers;
  many = are.many;
  distinct = are.distinct;
  each = λ k is. weaker k (are.each k is);
}

-- those of two kinds that have none in common
many_both : (P Q R : ℕ → Type 0) (few more : ℕ) → AreMany P few → AreMany Q more → ((k : ℕ) → P k → R k)
    → ((k : ℕ) → Q k → R k) → ((k : ℕ) → P k → Q k → ⊥) → AreMany R (few + more)
many_both P Q R few more one other left right apart =
    let xs = one.numbers in
    let ys = other.numbers in
    let first = one.many in
    let second = other.many in
    let sum = length-append xs ys in
    record {
      numbers = xs ++ ys;
      many = omega (arith, first, second, sum);
      distinct = distinct_both xs ys one.distinct other.distinct
          (λ k here there. apart k (one.each k here) (other.each k there));
      each = λ k is.
          among k (or_cases (list_any (eqb k) xs) (list_any (eqb k) ys) (sym (list_any-append (eqb k) xs ys) ∙ is));
    } where
      among : (k : ℕ) → (list_any (eqb k) one.numbers ≡ true) ⊎ (list_any (eqb k) other.numbers ≡ true) → R k
      among k (inl here) = left k (one.each k here)
      among k (inr there) = right k (other.each k there)

-- numbers that differ and are below a bound are not more than it
many_below : (P : ℕ → Type 0) (count bound : ℕ) → AreMany P count → ((k : ℕ) → P k → k < bound) → count ≤ bound
many_below P count bound are below =
    let many = are.many in
    let most = length-le_from_distinct_below are.numbers bound are.distinct (λ k is. below k (are.each k is)) in
    omega (arith, many, most)

-- ---- how many leaves there are

-- at least so many below a node of a level that is a quarter full
leaves_below : ℕ → ℕ
leaves_below zero = 1
leaves_below (suc level) = 31 * leaves_below level

some_below : (level : ℕ) → 1 ≤ leaves_below level
unfolding leaves_below
some_below zero = omega arith
some_below (suc level) = let some = some_below level in omega (arith, some)

many_levels : (level : ℕ) → 29791 ≤ leaves_below (suc (suc (suc level)))
unfolding leaves_below
many_levels level = let some = some_below level in omega (arith, some)

levels_few : (level slots : ℕ) → slots ≤ 16128 → 2 * leaves_below level ≤ slots → suc level ≤ 3
levels_few zero slots few many = omega arith
levels_few (suc zero) slots few many = omega arith
levels_few (suc (suc zero)) slots few many = omega arith
levels_few (suc (suc (suc level))) slots few many =
    absurd (let most = many_levels level in omega (arith, few, many, most))

-- a node that is a quarter full has so many pointers
pointers_full : (size : ℕ) (pointers : List Pointer) → IsNodeSize size
    → nat_le (capacity size) (4 * (33 * length pointers)) ≡ true → 31 ≤ length pointers
pointers_full size pointers sized full =
    let bytes = leb-true (capacity size) (4 * (33 * length pointers)) full in
    elim sized [ inl small ↦ omega (arith, bytes, small) | inr large ↦ omega (arith, bytes, large) ]

module _ (tree : TreeKind) (super : Super) (nodes : ℕ → Option Node) (size : IsNodeSize super.nodesize) (sizes : Sizes)
    (some : 0 < sizes.nodesize) (placed : (q : ℕ) (node : Node) → nodes q ≡ Some node → is_slot sizes q ≡ true) where
  -- the slot of a number is reached from the node of a level at an address
  ReachesSlot : ℕ → ℕ → ℕ → Type 0
  ReachesSlot level from k = Reaches nodes level from (slot_at sizes k)

  -- and from a node that one of some pointers leads to
  record IsAmong (level : ℕ) (pointers : List Pointer) (k : ℕ) : Type 0 where
    place : ℕ
    pointer : Pointer
    there : slice_get pointers place ≡ Some pointer
    reaches : ReachesSlot level pointer.child k

  -- where a pointer leads to, as many slots are reached as there are leaves below
  HasManyBelow : ℕ → Type 0
  HasManyBelow level = (pointer : Pointer) (items : List Item) → IsPointed super nodes pointer
      → IsBranch tree super nodes level pointer.child items → is_ascending (keys_of items) ≡ true
      → AreMany (ReachesSlot level pointer.child) (leaves_below level)

  first_among : (level : ℕ) (pointer : Pointer) (pointers : List Pointer) (k : ℕ) → ReachesSlot level pointer.child k
      → IsAmong level (pointer ∷ pointers) k
  first_among level pointer pointers k reaches =
      record { place = 0; pointer = pointer; there = refl; reaches = reaches }

  later_among : (level : ℕ) (pointer : Pointer) (pointers : List Pointer) (k : ℕ) → IsAmong level pointers k
      → IsAmong level (pointer ∷ pointers) k
  later_among level pointer pointers k is =
      record { place = suc is.place; pointer = is.pointer; there = is.there; reaches = is.reaches }

  among_apart : (level : ℕ) (pointer : Pointer) (pointers : List Pointer) (items : List Item)
      → AreBranches tree super nodes level (pointer ∷ pointers) items → is_ascending (keys_of items) ≡ true
      → (k : ℕ) → ReachesSlot level pointer.child k → IsAmong level pointers k → ⊥
  unfolding ReachesSlot
  among_apart level pointer pointers items each ascending k reaches is =
      branches-apart tree super nodes level (pointer ∷ pointers) items each ascending 0 (suc is.place) pointer
      is.pointer refl is.there (λ same. absurd (omega (arith, same))) (slot_at sizes k) reaches is.reaches

  many_each : (level : ℕ) → HasManyBelow level → (pointers : List Pointer) (items : List Item)
      → AreBranches tree super nodes level pointers items → is_ascending (keys_of items) ≡ true
      → AreMany (IsAmong level pointers) (length pointers * leaves_below level)
  unfolding HasManyBelow
  many_each level below [] items each ascending =
      let among = IsAmong level [] in many_fewer among (0 * leaves_below level) 0 (omega arith) (many_none among)
  many_each level below (pointer ∷ pointers) items each ascending =
      let leaves = leaves_below level in
      let behind = length pointers * leaves in
      let reaches = ReachesSlot level pointer.child in
      let later = IsAmong level pointers in
      let among = IsAmong level (pointer ∷ pointers) in
      let ascending_here = ascending-first each.0 each.1 items each.2 ascending in
      let here : AreMany reaches leaves = below pointer each.0 each.3.0 each.3.1 ascending_here in
      let ascending_behind = ascending-others each.0 each.1 items each.2 ascending in
      let rest : AreMany later behind = many_each level below pointers each.1 each.4 ascending_behind in
      let both : AreMany among (leaves + behind) =
      many_both reaches later among leaves behind here rest (first_among level pointer pointers)
      (later_among level pointer pointers) (among_apart level pointer pointers items each ascending) in
      let sum = suc-mul (length pointers) leaves in
      many_fewer among (length (pointer ∷ pointers) * leaves) (leaves + behind) (omega (arith, sum)) both

  inner_reaches : (level address : ℕ) (node : Node) → nodes address ≡ Some node
      → (k : ℕ) → IsAmong level (own_pointers node) k → ReachesSlot (suc level) address k
  unfolding ReachesSlot Reaches
  inner_reaches level address node here k is = inr (node, here, is.place, is.pointer, is.there, is.reaches)

  own_reaches : (address : ℕ) (node : Node) → nodes address ≡ Some node
      → ReachesSlot zero address ((address - slots_begin) / sizes.nodesize)
  unfolding ReachesSlot Reaches
  own_reaches address node here = (IsSlotAt-is_slot sizes address (placed address node here)).there

  many_pointed : (level : ℕ) → HasManyBelow level
  unfolding HasManyBelow IsBranch leaves_below
  many_pointed zero pointer items pointed branch ascending =
      let own = own_reaches pointer.child pointed.node pointed.there in
      many_one (ReachesSlot zero pointer.child) ((pointer.child - slots_begin) / sizes.nodesize) own
  many_pointed (suc level) pointer items pointed branch ascending =
      let node = Inner branch.0 branch.1 in
      let same : pointed.node ≡ node = let e = sym pointed.there ∙ branch.2 in cc in
      let bytes = subst (λ (n : Node). nat_le (capacity super.nodesize) (4 * used_bytes n) ≡ true) same pointed.full in
      let full = pointers_full super.nodesize branch.1 size bytes in
      let leaves = leaves_below level in
      let count = length branch.1 * leaves in
      let reaches = ReachesSlot (suc level) pointer.child in
      let among : AreMany (IsAmong level branch.1) count =
      many_each level (many_pointed level) branch.1 items branch.4 ascending in
      let reached : AreMany reaches count =
      many_weaker (IsAmong level branch.1) reaches count (inner_reaches level pointer.child node branch.2) among in
      many_fewer reaches (31 * leaves) count (mul-le-mul_right leaves full) reached

  number_below : (k : ℕ) → is_slot sizes (slot_at sizes k) ≡ true → k < sizes.slots
  number_below k slot =
      let offset : slot_at sizes k - slots_begin ≡ k * sizes.nodesize = omega arith in
      let number : (slot_at sizes k - slots_begin) / sizes.nodesize ≡ k =
      ap (λ (n : ℕ). n / sizes.nodesize) offset ∙ mul-div_cancel k some in
      let below = (IsSlotAt-is_slot sizes (slot_at sizes k) slot).number in
      omega (arith, number, below)

  among_below : (level : ℕ) (pointers : List Pointer) (items : List Item)
      → AreBranches tree super nodes level pointers items → (k : ℕ) → IsAmong level pointers k → k < sizes.slots
  unfolding ReachesSlot
  among_below level pointers items each k is =
      let found = each-get (λ to under. IsPointed super nodes to × IsBranch tree super nodes level to.child under)
      pointers items each is.place is.pointer is.there in
      let here = branch-level tree super nodes level is.pointer.child found.0 found.2.1 (slot_at sizes k) is.reaches in
      number_below k (placed (slot_at sizes k) here.0 here.1)

  -- a node with two pointers at least, and leaves below them, take no more than the slots that there are
  leaves_few : (level : ℕ) (pointers : List Pointer) (items : List Item)
      → AreBranches tree super nodes level pointers items → is_ascending (keys_of items) ≡ true
      → 2 ≤ length pointers → 2 * leaves_below level ≤ sizes.slots
  leaves_few level pointers items each ascending two =
      let leaves = leaves_below level in
      let all = many_each level (many_pointed level) pointers items each ascending in
      let few = many_below (IsAmong level pointers) (length pointers * leaves) sizes.slots all
      (among_below level pointers items each) in
      let least = mul-le-mul_right leaves two in
      omega (arith, few, least)

-- ---- what is told at an address is told of a slot

slot_read : (has : Bool) (read : Result Node Rule) (node : Node) → (if has then read else Err rule.Slot) ≡ Ok node
    → has ≡ true
slot_read true read node is = refl
slot_read false read node is = absurd cc

standing_slot : (sizes : Sizes) (image : List ℕ) (address : ℕ) (node : Node) → standing sizes image address ≡ Ok node
    → is_slot sizes address ≡ true
unfolding standing
standing_slot sizes image address node is =
    let has = slot_read (has_slot sizes (length image) address) _ node is in
    (HasSlot-has_slot sizes (length image) address has).slot

ok_there : (read : Result Node Rule) (node : Node) → result_ok read ≡ Some node → read ≡ Ok node
ok_there (Ok other) node is = let same : other ≡ node = cc in rw same refl
ok_there (Err broken) node is = absurd cc

either_slot : (fresh : Option Node) (sizes : Sizes) (history : History) (address : ℕ) (node : Node)
    → ((other : Node) → fresh ≡ Some other → is_slot sizes address ≡ true)
    → told_or fresh sizes history address ≡ Some node → is_slot sizes address ≡ true
either_slot (Some other) sizes history address node placed is = placed other refl
either_slot None sizes (Unrecorded changes) address node placed is = absurd cc
either_slot None sizes (Recorded events) address node placed is =
    let stands = ok_there (standing sizes (content events) address) node is in
    standing_slot sizes (content events) address node stands

slot_same : (sizes other : Sizes) (address : ℕ) → sizes.nodesize ≡ other.nodesize → sizes.slots ≡ other.slots
    → is_slot sizes address ≡ is_slot other address
unfolding is_slot
slot_same sizes other address nodesize slots = rw (nodesize, slots) refl

-- where a node is told, the address is that of a slot
pub told-slot : (land : Ground) (history : History) (generation : ℕ) → IsDrafted land generation
    → (q : ℕ) (node : Node) → told land.blocks.draft history q ≡ Some node → is_slot land.space.sizes q ≡ true
unfolding told
told-slot land history generation drafted q node is =
    let draft = land.blocks.draft in
    let same = slot_same draft.sizes land.space.sizes q drafted.sizes.nodesize drafted.sizes.slots in
    let slot = either_slot (fresh_at draft q) draft.sizes history q node
    (λ other fresh. same ∙ (drafted.each q other fresh).slot) is in
    sym same ∙ slot

-- ---- a tree

height_under : (tree : TreeKind) (root : Root) (land : Ground) (history : History) (items : List Item)
    (height : ℕ) → IsDrafted land root.next
    → IsUnder tree (super_of root land.blocks.draft) (told land.blocks.draft history) height
    (root_expected (Some height) None) root.address items → height ≤ 3
unfolding is_shaped
height_under tree root land history items zero drafted under = omega arith
height_under tree root land history items (suc level) drafted under =
    let super = super_of root land.blocks.draft in
    let nodes = told land.blocks.draft history in
    let sizes = land.space.sizes in
    let expected = root_expected (Some (suc level)) None in
    let inner = under-inner tree super nodes level expected root.address items under in
    let node = Inner inner.header inner.pointers in
    let shaped = (form-expected tree super expected root.address node inner.formed).shaped in
    let two = leb-true 2 (length inner.pointers) shaped in
    let each = branches-under tree super nodes level expected.to inner.pointers items inner.below in
    let own = told-ascends land history root.next drafted in
    let ascending = ascends-under tree super nodes own (suc level) expected root.address items under in
    let served = SizesFit-is_served sizes drafted.sizes.served in
    let size = size-blocks land root.next drafted in
    let some : 0 < sizes.nodesize = let least = served.least in omega (arith, least) in
    let placed = told-slot land history root.next drafted in
    let few = leaves_few tree super nodes size sizes some placed level inner.pointers items each ascending two in
    levels_few level sizes.slots served.slots few

-- a tree in an image of a size that is served has a height of 3 at most
pub height-low : (tree : TreeKind) (root : Root) (land : Ground) (history : History) (items : List Item)
    → IsDrafted land root.next → TellsTree tree root land.blocks.draft history items → root.height ≤ 3
height-low tree root land history items drafted tells =
    height_under tree root land history items root.height drafted
    (record { levelled = refl; walked = tells.walked; items_are = tells.items_are })
