-- The nodes of a tree are put one after another, the last one first.
use Rattle.std.proofs.Common.{◌≡◌, ◌≢◌, ℕ, zero, ◌+◌, ◌-◌, ◌*◌, ◌<◌, ◌≤◌, true, false, List, [], ◌∷◌, ◌++◌, length, map}
use Rattle.std.proofs.Common.{append_assoc, arith, refl, sym, ap, subst, ◌∙◌, inl, inr, Some, None}
use Rattle.std.specs.Prelude.{Bool, ◌==◌, slice_get}
use Rattle.std.specs.List.{AllByRecursion, IsDistinct, remove}
use Rattle.std.proofs.Math.Nat.{mul-le-mul_left, mul-suc}
use Rattle.std.proofs.lemmas.Bool.{eqb-true, true≢false}
use Rattle.std.proofs.lemmas.Bool.Decides.{eqb_tells}
use Rattle.std.proofs.lemmas.List.{length-append}
use Rattle.std.proofs.lemmas.List.Sums.{sum_by-cons}
use Rattle.qg_device.specs.History.{History, Unrecorded}
use Rattle.qg_node.specs.declared.node.Node.{Node}
use Rattle.qg_node.specs.declared.node.Node.TheVariants.{Leaf, Inner}
use Rattle.qg_node.specs.Nodes.{header_of}
use Rattle.qg_node.specs.NodeText.{IsNode}
use Rattle.qg_super.specs.declared.sizes.Sizes.{Sizes}
use Rattle.qg_blocks.specs.NodesFound.{fresh_at, told}
use Rattle.qg_space.specs.Holding.{free_slots, is_free_slot}
use Rattle.qg_node_alloc.specs.declared.ground.Ground.{Ground}
use Rattle.qg_node_alloc.specs.Land.{IsDrafted, Rests}
use Rattle.qg_node_alloc.specs.Changes.{IsOwnedBy, Makes, Takes, node_at}
use Rattle.qg_node_alloc.proofs.Lands.{Rests-after, fresh_at-told}
use Rattle.qg_node_alloc.proofs.Owners.{IsOwnedBy-draft, IsOwnedBy-made}
use Rattle.qg_tree_layout.specs.Build.{IsMadeFor}
use Rattle.qg_tree_layout.specs.Row.{address_of}
use Rattle.qg_tree_edits.specs.Counting.{one}
use Rattle.qg_tree_edits.proofs.Ways.{one-here}
use Rattle.qg_tree_build.proofs.WaysToNodes.{lying}
use Rattle.qg_tree_build.proofs.Slots.{apart-after, apart-before, both-each, free-kept, front-each, last-each}
use Rattle.qg_tree_build.proofs.Slots.{last-taken}

-- Some nodes of a list were put, each into the slot that it names, and the others are left to be put. What lies at no
-- address of those is told as before
pub record IsLaying (old now : Ground) (history : History) (owner next : ℕ) (rest laid : List Node)
    : Type 0 where
  pub rests : Rests old now history next
  pub count : free_slots old.space ≤ length laid + free_slots now.space
  pub freed : (q : ℕ) → is_free_slot now.space q ≡ true → is_free_slot old.space q ≡ true
  pub owners : IsOwnedBy owner old now
  pub there : AllByRecursion (λ node. fresh_at now.blocks.draft (address_of node) ≡ Some node) laid
  pub others : (disk : History) (q : ℕ) → lying laid q ≡ 0
      → told now.blocks.draft disk q ≡ told old.blocks.draft disk q
  pub free : AllByRecursion (λ node. is_free_slot now.space (address_of node) ≡ true) rest
  pub apart : IsDistinct (λ a b. a == b) (map address_of (rest ++ laid))
  pub made : AllByRecursion (IsMadeFor old.space.sizes.nodesize owner next) rest

-- none was put yet
pub laying-none : (land : Ground) (history : History) (owner next : ℕ) (nodes : List Node)
    → Rests land land history next → AllByRecursion (λ node. is_free_slot land.space (address_of node) ≡ true) nodes
    → IsDistinct (λ a b. a == b) (map address_of (nodes ++ []))
    → AllByRecursion (IsMadeFor land.space.sizes.nodesize owner next) nodes
    → IsLaying land land history owner next nodes []
laying-none land history owner next nodes rests free apart made = record {
  rests = rests;
  count = omega arith;
  freed = λ q free. free;
  owners = IsOwnedBy-draft owner land land refl;
  there = tt;
  others = λ disk q none. refl;
  free = free;
  apart = apart;
  made = made;
}

pub at-itself : (node : Node) → node_at (address_of node) node ≡ node
at-itself (Leaf header items) = refl
at-itself (Inner header pointers) = refl

-- the last one that is left
module _ (old mid : Ground) (before : History) (owner next : ℕ) (rest laid : List Node) (node : Node)
    (laying : IsLaying old mid before owner next (rest ++ (node ∷ [])) laid) where
  pub made-last : IsMadeFor old.space.sizes.nodesize owner next node
  made-last = last-each (IsMadeFor old.space.sizes.nodesize owner next) rest node laying.made

  pub free-last : is_free_slot mid.space (address_of node) ≡ true
  free-last = last-each (λ (n : Node). is_free_slot mid.space (address_of n) ≡ true) rest node laying.free

  pub drafted-last : IsDrafted mid (header_of node).generation
  drafted-last = subst (λ (n : ℕ). IsDrafted mid n) (sym made-last.made) laying.rests.drafted

  pub sound-last : IsNode mid.space.sizes.nodesize node
  sound-last = subst (λ (s : Sizes). IsNode s.nodesize node) (sym laying.rests.sizes) made-last.node_of_format

  pub rests-last : (new : Ground) (after : History) → Rests mid new after (header_of node).generation
      → Rests mid new after next
  rests-last new after rests = subst (λ (n : ℕ). Rests mid new after n) made-last.made rests

  whole : IsDistinct (λ a b. a == b) (map address_of (rest ++ (node ∷ laid)))
  whole =
      subst (λ (ns : List Node). IsDistinct (λ a b. a == b) (map address_of ns)) (append_assoc rest (node ∷ []) laid)
      laying.apart

  -- it is put
  module _ (new : Ground) (after : History) (makes : Makes mid new (address_of node) node)
      (takes : Takes 1 (λ q. ⊥) mid new) (rests : Rests mid new after next) where
    here_put : fresh_at new.blocks.draft (address_of node) ≡ Some node
    here_put = makes.puts.here ∙ ap (λ (n : Node). Some n) (at-itself node)

    freed_more : (q : ℕ) → is_free_slot new.space q ≡ true → is_free_slot old.space q ≡ true
    freed_more q free = elim (takes.less q free) [ inl was ↦ laying.freed q was | inr gone ↦ absurd gone ]

    others_more : (disk : History) (q : ℕ) → lying (node ∷ laid) q ≡ 0
        → told new.blocks.draft disk q ≡ told old.blocks.draft disk q
    others_more disk q none = elim (eqb_tells q (address_of node)) [
      | inl (equal, same) ↦
          let some = one-here (address_of node) q same in
          let sum = sum_by-cons (λ (n : Node). one (address_of n) q) node laid in
          absurd (omega (arith, some, sum, none))
      | inr (unequal, differ) ↦
          let sum = sum_by-cons (λ (n : Node). one (address_of n) q) node laid in
          makes.puts.others disk q differ ∙ laying.others disk q (omega (arith, sum, none))
    ]

    pub laying-more : IsLaying old new after owner next rest (node ∷ laid)
    laying-more = record {
      rests = Rests-after old mid new before after next laying.rests rests;
      count = let a = laying.count in let b = takes.count in omega (arith, a, b);
      freed = freed_more;
      owners = IsOwnedBy-made owner old mid new (address_of node) node laying.owners makes (inl made-last.owned);
      there = (
        here_put,
        both-each (λ (n : Node). address_of n ≢ address_of node)
            (λ (n : Node). fresh_at mid.blocks.draft (address_of n) ≡ Some n)
            (λ (n : Node). fresh_at new.blocks.draft (address_of n) ≡ Some n)
            (λ n differ is. fresh_at-told mid.blocks.draft new.blocks.draft (address_of n)
            (makes.puts.others (Unrecorded 0) (address_of n) differ) ∙ is) laid (apart-after rest laid node whole)
            laying.there,
      );
      others = others_more;
      free = both-each (λ (n : Node). address_of n ≢ address_of node)
          (λ (n : Node). is_free_slot mid.space (address_of n) ≡ true)
          (λ (n : Node). is_free_slot new.space (address_of n) ≡ true)
          (λ n differ free. free-kept mid.space new.space (address_of node) (address_of n) rests.sizes
          rests.held_slots makes.slots differ free) rest (apart-before rest laid node whole)
          (front-each (λ (n : Node). is_free_slot mid.space (address_of n) ≡ true) rest (node ∷ []) laying.free);
      apart = whole;
      made = front-each (IsMadeFor old.space.sizes.nodesize owner next) rest (node ∷ []) laying.made;
    }

-- ---- the last one is taken from the list

some_left : (n : ℕ) (none : Bool) → none ≡ (n == 0) → none ≡ false → 0 < n
some_left n none is some = elim (eqb_tells n 0) [
  | inl (equal, same) ↦ absurd (true≢false (sym equal ∙ sym is ∙ some))
  | inr (unequal, differ) ↦ omega (arith, differ)
]

pub none-left : (nodes : List Node) (none : Bool) → none ≡ (length nodes == 0) → none ≡ true → nodes ≡ []
none-left [] none is all = refl
none-left (node ∷ nodes) none is all =
    let zero : length (node ∷ nodes) ≡ 0 = eqb-true (length (node ∷ nodes)) 0 (sym is ∙ all) in
    absurd (omega (arith, zero))

split_last : (nodes rest : List Node) (node : Node) (none : Bool) (count : ℕ) → none ≡ (length nodes == 0)
    → none ≡ false → count ≡ length nodes → slice_get nodes (count - 1) ≡ Some node → rest ≡ remove nodes (count - 1)
    → nodes ≡ rest ++ (node ∷ [])
split_last nodes rest node none count is some long taken left =
    let more = some_left (length nodes) none is some in
    let index : count - 1 + 1 ≡ length nodes = omega (arith, long, more) in
    last-taken nodes node (count - 1) index taken ∙ ap (λ (ns : List Node). ns ++ (node ∷ [])) (sym left)

-- nodes are laid of what is left, and the last one of it
pub record IsSplit (old mid : Ground) (before : History) (owner next : ℕ) (nodes rest laid : List Node)
    (node : Node) : Type 0 where
  pub is : nodes ≡ rest ++ (node ∷ [])
  pub laying : IsLaying old mid before owner next (rest ++ (node ∷ [])) laid

pub split-last : (old mid : Ground) (before : History) (owner next : ℕ) (nodes rest laid : List Node)
    (node : Node) (none : Bool) (count : ℕ) → none ≡ (length nodes == 0) → none ≡ false → count ≡ length nodes
    → slice_get nodes (count - 1) ≡ Some node → rest ≡ remove nodes (count - 1)
    → IsLaying old mid before owner next nodes laid → IsSplit old mid before owner next nodes rest laid node
split-last old mid before owner next nodes rest laid node none count empty some long taken left laying =
    let is = split_last nodes rest node none count empty some long taken left in
    record {
      is = is;
      laying = subst (λ (ns : List Node). IsLaying old mid before owner next ns laid) is laying;
    }

-- all of a list are those that were laid, and those that are left
pub whole-more : (all nodes rest laid : List Node) (node : Node) → all ≡ nodes ++ laid → nodes ≡ rest ++ (node ∷ [])
    → all ≡ rest ++ (node ∷ laid)
whole-more all nodes rest laid node whole is =
    whole ∙ ap (λ (ns : List Node). ns ++ laid) is ∙ append_assoc rest (node ∷ []) laid

pub whole-long : (all rest laid : List Node) (node : Node) (most : ℕ) → all ≡ rest ++ (node ∷ laid)
    → length all ≤ most → length (node ∷ laid) ≤ most
whole-long all rest laid node most whole few =
    let sum = length-append rest (node ∷ laid) in
    let same = ap (λ (ns : List Node). length ns) whole in
    omega (arith, sum, same, few)

-- where none is left all were laid
pub all-laid : (old now : Ground) (after : History) (owner next : ℕ) (all nodes laid : List Node)
    → all ≡ nodes ++ laid → nodes ≡ [] → IsLaying old now after owner next nodes laid
    → (laid ≡ all) × IsLaying old now after owner next [] all
all-laid old now after owner next all nodes laid whole none laying =
    let same : laid ≡ all = sym (whole ∙ ap (λ (ns : List Node). ns ++ laid) none) in (
      same,
      subst (λ (ns : List Node). IsLaying old now after owner next [] ns) same
          (subst (λ (ns : List Node). IsLaying old now after owner next ns laid) none laying),
    )
