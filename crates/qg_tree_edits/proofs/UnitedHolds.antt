-- What stands of a part of a tree after two fresh neighbours in it were joined.
use Rattle.std.proofs.Common.{◌≡◌, ◌≢◌, ◌⊎◌, ℕ, zero, suc, ◌+◌, ◌*◌, ◌≤◌, true, List, [], ◌∷◌, ◌++◌, arith, refl, sym}
use Rattle.std.proofs.Common.{ap, subst, ◌∙◌, inl, inr, Option, Some, None}
use Rattle.std.specs.Prelude.{Contains, IsTrue, slice_get}
use Rattle.std.proofs.lemmas.List.{append-nil}
use Rattle.qg_device.specs.History.{History, Unrecorded}
use Rattle.qg_node.specs.declared.item.Item.{Item}
use Rattle.qg_node.specs.declared.pointer.Pointer.{Pointer}
use Rattle.qg_node.specs.declared.node.Header.{Header}
use Rattle.qg_node.specs.declared.node.Node.{Node}
use Rattle.qg_node.specs.declared.node.Node.TheVariants.{Leaf, Inner}
use Rattle.qg_node.specs.Nodes.{header_of, own_items, own_pointers, used_bytes}
use Rattle.qg_super.specs.declared.superblock.Super.{Super}
use Rattle.qg_super.specs.Places.{capacity}
use Rattle.qg_image.specs.declared.tree.TreeKind.{TreeKind}
use Rattle.qg_blocks.specs.NodesFound.{fresh_at, told}
use Rattle.qg_space.specs.Holding.{Holding, free_slots, is_free_slot}
use Rattle.qg_shape.specs.declared.joining.Joined.{Joined}
use Rattle.qg_shape.specs.declared.joining.Joined.TheVariants.{Whole, Parted}
use Rattle.qg_shape.specs.Filled.{Fits, IsFilled}
use Rattle.qg_shape.specs.Outcomes.{IsParted}
use Rattle.qg_shape.specs.Parts.{AreAlike, whole_of}
use Rattle.qg_shape.proofs.Sides.{IsFilled-whole_of, header_of-parted}
use Rattle.qg_shape.proofs.Together.{header_of-whole_of}
use Rattle.qg_node_alloc.specs.declared.ground.Ground.{Ground}
use Rattle.qg_node_alloc.specs.Tellings.{LetsGo, Telling}
use Rattle.qg_node_alloc.specs.Tellings.Telling.{Left}
use Rattle.qg_node_alloc.proofs.Lands.{Takes-left, fresh_at-told, told-fresh_at}
use Rattle.qg_edit.proofs.Cuts.{alike-levels}
use Rattle.qg_tree_edits.specs.declared.instead.Instead.{Instead}
use Rattle.qg_tree_read.specs.Tree.{Reaches}
use Rattle.qg_tree_read.specs.Branch.{AreBranches, IsBranch, IsMember, IsPointed}
use Rattle.qg_tree_edits.specs.First.{leaves, leaves_joined, leaves_under}
use Rattle.qg_tree_edits.specs.Editing.{ArePair, FillsThere, HoldInstead, IsFreshOn, IsJoinedThere, ReachesInstead}
use Rattle.qg_tree_edits.specs.Editing.{StandsInstead, alone}
use Rattle.qg_tree_edits.specs.Uniting.{AreUnited, EndsAs}
use Rattle.qg_tree_edits.specs.Counting.{AreCommitted, IsTold, LeadsNone, TellsUnited, one, ways, ways_each}
use Rattle.qg_tree_edits.specs.Counting.{ways_instead}
use Rattle.qg_tree_read.proofs.Branches.{branch-top, each-append, each-get, each-join}
use Rattle.qg_tree_read.proofs.BranchFrames.{branches-same, reach-same, reach-top}
use Rattle.qg_tree_edits.proofs.Committed.{committed-told}
use Rattle.qg_tree_edits.proofs.Downward.{leads-none, leads-plus}
use Rattle.qg_tree_edits.proofs.Leading.{not-above}
use Rattle.qg_tree_edits.proofs.LeafLists.{leaves-alone, leaves-inner, leaves-same, leaves_more, under-append}
use Rattle.qg_tree_edits.proofs.LeafLists.{under-same}
use Rattle.qg_tree_edits.proofs.Spliced.{append-get}
use Rattle.qg_tree_edits.proofs.ToldUnited.{told-left}
use Rattle.qg_tree_edits.proofs.Turning.{told-more, told-none}
use Rattle.qg_tree_edits.proofs.United.{both-told}
use Rattle.qg_tree_edits.proofs.Ways.{ways_each-append, ways_each-same, ways-inner, ways-leaf, ways-top}

-- ---- what became of both

-- all is in the left one, and the right one was let go
pub record IsInOne (old mid new : Ground) (left right : ℕ) (instead : Instead) (a b : Node) : Type 0 where
  pub instead_is : instead ≡ alone left
  pub here : fresh_at new.blocks.draft left ≡ Some (whole_of a b)
  pub fits : Fits old.space.sizes.nodesize (whole_of a b)
  pub lets : LetsGo mid new right

-- both have some of it
pub record AreInTwo (old mid new : Ground) (left right : ℕ) (instead : Instead) (a b : Node) : Type 0 where
  pub c : Node
  pub d : Node
  pub instead_is : instead ≡ record { now = left; more = Some right }
  pub here : fresh_at new.blocks.draft left ≡ Some c
  pub there : fresh_at new.blocks.draft right ≡ Some d
  pub parted : IsParted old.space.sizes.nodesize a b c d
  pub same : new ≡ mid

ends_as : (old mid new : Ground) (left right : ℕ) (instead : Instead) (a b : Node) (joined : Joined) → left ≢ right
    → fresh_at old.blocks.draft left ≡ Some a → fresh_at old.blocks.draft right ≡ Some b
    → IsJoinedThere old mid left right joined → EndsAs mid new left right instead joined
    → IsInOne old mid new left right instead a b ⊎ AreInTwo old mid new left right instead a b
ends_as old mid new left right instead a b Whole differ here there joined ends =
    let whole = (joined.is a b here there).0 in
    inl (record {
      instead_is = ends.0;
      here = fresh_at-told mid.blocks.draft new.blocks.draft left (ends.1.others (Unrecorded 0) left differ)
          ∙ joined.left_there
          ∙ ap (λ (n : Node). Some n) whole.all;
      fits = subst (λ (n : Node). Fits old.space.sizes.nodesize n) whole.all whole.fits;
      lets = ends.1;
    })
ends_as old mid new left right instead a b Parted differ here there joined ends = inr (record {
  c = joined.a;
  d = joined.b;
  instead_is = ends.0;
  here = ap (λ (g : Ground). fresh_at g.blocks.draft left) ends.1 ∙ joined.left_there;
  there = ap (λ (g : Ground). fresh_at g.blocks.draft right) ends.1 ∙ joined.right_there;
  parted = joined.is a b here there;
  same = ends.1;
})

-- ---- the two by their items or pointers

leaves_parted : (c d : Node) (header other : Header) (items : List Item) → AreAlike c d
    → whole_of c d ≡ Leaf header items → header_of d ≡ other
    → (first : List Item) × (second : List Item) × (c ≡ Leaf header first) × (d ≡ Leaf other second)
    × (items ≡ first ++ second)
leaves_parted (Leaf h first) (Leaf h' second) header other items alike whole is = (first, second, cc, cc, cc)
leaves_parted (Leaf h first) (Inner h' second) header other items alike whole is = absurd alike
leaves_parted (Inner h first) d header other items alike whole is = absurd cc

inners_parted : (c d : Node) (header other : Header) (pointers : List Pointer) → AreAlike c d
    → whole_of c d ≡ Inner header pointers → header_of d ≡ other
    → (first : List Pointer) × (second : List Pointer) × (c ≡ Inner header first) × (d ≡ Inner other second)
    × (pointers ≡ first ++ second)
inners_parted (Inner h first) (Inner h' second) header other pointers alike whole is = (first, second, cc, cc, cc)
inners_parted (Inner h first) (Leaf h' second) header other pointers alike whole is = absurd alike
inners_parted (Leaf h first) d header other pointers alike whole is = absurd cc

front_get : {A : Type 0} (xs ys : List A) (i : ℕ) (x : A) → slice_get xs i ≡ Some x → slice_get (xs ++ ys) i ≡ Some x
front_get [] ys i x is = absurd cc
front_get (z ∷ xs) ys zero x is = is
front_get (z ∷ xs) ys (suc i) x is = front_get xs ys i x is

back_get : {A : Type 0} (xs ys : List A) (i : ℕ) (x : A) → slice_get ys i ≡ Some x
    → (k : ℕ) × (slice_get (xs ++ ys) k ≡ Some x)
back_get [] ys i x is = (i, is)
back_get (z ∷ xs) ys i x is = let later = back_get xs ys i x is in (suc later.0, later.1)

-- both are leaves, and these are their items
record AreLeaves (tree : TreeKind) (super : Super) (a b : Node) (lefts rights : List Item) : Type 0 where
  header : Header
  other : Header
  left_is : a ≡ Leaf header lefts
  right_is : b ≡ Leaf other rights
  member : IsMember tree super zero header
  member_other : IsMember tree super zero other

-- both have pointers, and these are the items under them
record AreInners (tree : TreeKind) (super : Super) (nodes : ℕ → Option Node) (level : ℕ) (a b : Node)
    (lefts rights : List Item) : Type 0 where
  header : Header
  other : Header
  first : List Pointer
  second : List Pointer
  left_is : a ≡ Inner header first
  right_is : b ≡ Inner other second
  member : IsMember tree super (suc level) header
  member_other : IsMember tree super (suc level) other
  each : AreBranches tree super nodes level first lefts
  each_other : AreBranches tree super nodes level second rights

fresh_is : (land : Ground) (history : History) (at : ℕ) (node there : Node)
    → fresh_at land.blocks.draft at ≡ Some node → told land.blocks.draft history at ≡ Some there → node ≡ there
fresh_is land history at node there here is = let e = sym (told-fresh_at land.blocks.draft history at node here) ∙ is in
    cc

fresh_level : (land : Ground) (level at : ℕ) (node : Node) → fresh_at land.blocks.draft at ≡ Some node
    → IsFreshOn land level at → (header_of node).level ≡ level
fresh_level land level at node here fresh =
    let same : node ≡ fresh.node = let e = sym here ∙ fresh.here in cc in
    ap (λ (n : Node). (header_of n).level) same ∙ fresh.levelled

module _ (old new : Ground) (left right : ℕ) (instead : Instead) (differ : left ≢ right) (pair : ArePair old left right)
    (is : AreUnited old new left right instead) where
  united_ends : IsInOne old is.mid new left right instead pair.a pair.b
      ⊎ AreInTwo old is.mid new left right instead pair.a pair.b
  united_ends = ends_as old is.mid new left right instead pair.a pair.b is.joined differ pair.left_here pair.right_here
      is.there is.ends

  mid_told : (history : History) (q : ℕ) → q ≢ right
      → told new.blocks.draft history q ≡ told is.mid.blocks.draft history q
  mid_told history q not_right = elim united_ends [
    | inl one ↦ one.lets.others history q not_right
    | inr two ↦ ap (λ (g : Ground). told g.blocks.draft history q) two.same
  ]

  -- nothing else is told otherwise
  pub united-told : (history : History) (q : ℕ) → q ≢ left → q ≢ right
      → told new.blocks.draft history q ≡ told old.blocks.draft history q
  united-told history q not_left not_right = mid_told history q not_right
      ∙ both-told old is.mid left right differ pair is.rewritten history q not_left not_right

  -- ---- what stands there is fresh, and of the same level

  one_stands : (level : ℕ) → (header_of pair.a).level ≡ level → IsInOne old is.mid new left right instead pair.a pair.b
      → StandsInstead new level instead
  one_stands level levelled one = subst (λ (i : Instead). StandsInstead new level i) (sym one.instead_is) (record {
    now = record {
      node = whole_of pair.a pair.b;
      here = one.here;
      levelled = ap (λ (h : Header). h.level) (header_of-whole_of pair.a pair.b) ∙ levelled;
    };
    more = tt;
  })

  two_stand : (level : ℕ) → (header_of pair.a).level ≡ level → (header_of pair.b).level ≡ level
      → AreInTwo old is.mid new left right instead pair.a pair.b → StandsInstead new level instead
  two_stand level levelled other two =
      let same = header_of-parted old.space.sizes.nodesize pair.a pair.b two.c two.d two.parted in
      subst (λ (i : Instead). StandsInstead new level i) (sym two.instead_is) (record {
        now = record { node = two.c; here = two.here; levelled = ap (λ (h : Header). h.level) same ∙ levelled };
        more = (
          record {
            node = two.d;
            here = two.there;
            levelled = ap (λ (h : Header). h.level) two.parted.header
                ∙ other;
          },
          λ same. differ (sym same),
        );
      })

  pub united-stands : (level : ℕ) → IsFreshOn old level left → IsFreshOn old level right
      → StandsInstead new level instead
  united-stands level first second =
      let levelled = fresh_level old level left pair.a pair.left_here first in
      let other = fresh_level old level right pair.b pair.right_here second in
      elim united_ends [ inl one ↦ one_stands level levelled one | inr two ↦ two_stand level levelled other two ]

  -- ---- slots

  mid_space : is.mid.space ≡ old.space
  mid_space = ap (λ (g : Ground). g.space) (is.rewritten.later pair.a pair.left_here).is
      ∙ ap (λ (g : Ground). g.space) (is.rewritten.first pair.b pair.right_here).is

  same_space : AreInTwo old is.mid new left right instead pair.a pair.b → new.space ≡ old.space
  same_space two = ap (λ (g : Ground). g.space) two.same ∙ mid_space

  -- the right one's alone may be given back
  pub united-free : (q : ℕ) → new.space.sizes ≡ old.space.sizes → new.space.held_slots ≡ old.space.held_slots
      → IsTrue (is_free_slot new.space q) → IsTrue (is_free_slot old.space q) ⊎ (q ≡ right)
  united-free q sizes held free = elim united_ends [
    | inl one ↦
        let takes = Takes-left is.mid new right (sizes ∙ sym (ap (λ (h : Holding). h.sizes) mid_space)) (held
        ∙ sym (ap (λ (h : Holding). h.held_slots) mid_space)) one.lets in
        elim (takes.less q free) [
          | inl was ↦ inl (subst (λ (h : Holding). is_free_slot h q ≡ true) mid_space was)
          | inr gone ↦ inr gone
        ]
    | inr two ↦ inl (subst (λ (h : Holding). is_free_slot h q ≡ true) (same_space two) free)
  ]

  pub united-count : new.space.sizes ≡ old.space.sizes → new.space.held_slots ≡ old.space.held_slots
      → free_slots old.space ≤ free_slots new.space
  united-count sizes held = elim united_ends [
    | inl one ↦
        let takes = Takes-left is.mid new right (sizes ∙ sym (ap (λ (h : Holding). h.sizes) mid_space)) (held
        ∙ sym (ap (λ (h : Holding). h.held_slots) mid_space)) one.lets in
        let count = takes.count in
        let same = ap free_slots mid_space in
        omega (arith, count, same)
    | inr two ↦ let same = ap free_slots (same_space two) in omega (arith, same)
  ]

  -- ---- items

  module _ (tree : TreeKind) (super : Super) (history : History) where
    -- an address is reached below one of the two
    IsBelow : ℕ → ℕ → Type 0
    IsBelow level q = (q ≢ left) × (q ≢ right)
        × (Reaches (told old.blocks.draft history) level left q ⊎ Reaches (told old.blocks.draft history) level right q)

    leaves_of : (lefts rights : List Item) → IsBranch tree super (told old.blocks.draft history) zero left lefts
        → IsBranch tree super (told old.blocks.draft history) zero right rights
        → AreLeaves tree super pair.a pair.b lefts rights
    unfolding IsBranch
    leaves_of lefts rights holds holds_other = record {
      header = holds.0;
      other = holds_other.0;
      left_is = fresh_is old history left pair.a (Leaf holds.0 lefts) pair.left_here holds.1;
      right_is = fresh_is old history right pair.b (Leaf holds_other.0 rights) pair.right_here holds_other.1;
      member = holds.2;
      member_other = holds_other.2;
    }

    inners_of : (level : ℕ) (lefts rights : List Item)
        → IsBranch tree super (told old.blocks.draft history) (suc level) left lefts
        → IsBranch tree super (told old.blocks.draft history) (suc level) right rights
        → AreInners tree super (told old.blocks.draft history) level pair.a pair.b lefts rights
    unfolding IsBranch
    inners_of level lefts rights holds holds_other = record {
      header = holds.0;
      other = holds_other.0;
      first = holds.1;
      second = holds_other.1;
      left_is = fresh_is old history left pair.a (Inner holds.0 holds.1) pair.left_here holds.2;
      right_is = fresh_is old history right pair.b (Inner holds_other.0 holds_other.1) pair.right_here holds_other.2;
      member = holds.3;
      member_other = holds_other.3;
      each = holds.4;
      each_other = holds_other.4;
    }

    -- ---- both have pointers

    module _ (level : ℕ) (lefts rights : List Item)
        (are : AreInners tree super (told old.blocks.draft history) level pair.a pair.b lefts rights) where
      left_fresh : fresh_at old.blocks.draft left ≡ Some (Inner are.header are.first)
      left_fresh = pair.left_here ∙ ap (λ (n : Node). Some n) are.left_is

      right_fresh : fresh_at old.blocks.draft right ≡ Some (Inner are.other are.second)
      right_fresh = pair.right_here ∙ ap (λ (n : Node). Some n) are.right_is

      whole_each : AreBranches tree super (told old.blocks.draft history) level (are.first ++ are.second)
          (lefts ++ rights)
      whole_each = each-join (λ pointer under. IsPointed super (told old.blocks.draft history) pointer
          × IsBranch tree super (told old.blocks.draft history) level pointer.child under)
          are.first are.second lefts rights are.each are.each_other

      -- what a pointer of either reaches is neither
      below : (place : ℕ) (pointer : Pointer) → slice_get (are.first ++ are.second) place ≡ Some pointer → (q : ℕ)
          → Reaches (told old.blocks.draft history) level pointer.child q
          → IsBelow (suc level) q
      unfolding Reaches IsBelow
      below place pointer there q reaches =
          let found = each-get (λ pointer under. IsPointed super (told old.blocks.draft history) pointer
          × IsBranch tree super (told old.blocks.draft history) level pointer.child under)
          (are.first ++ are.second) (lefts ++ rights) whole_each place pointer there in
          let not_left = not-above tree super old history level left are.header are.first left_fresh are.member.levelled
          pointer.child found.0 found.2.1 q reaches in
          let not_right = not-above tree super old history level right are.other are.second right_fresh
          are.member_other.levelled pointer.child found.0 found.2.1 q reaches in (
            not_left,
            not_right,
            elim (append-get are.first are.second place pointer there) [
              | inl front ↦ inl (inr (
                Inner are.header are.first,
                told-fresh_at old.blocks.draft history left
                    (Inner are.header are.first) left_fresh,
                place,
                pointer,
                front,
                reaches,
              ))
              | inr (k, back) ↦ inr (inr (
                Inner are.other are.second,
                told-fresh_at old.blocks.draft history right
                    (Inner are.other are.second) right_fresh,
                k,
                pointer,
                back,
                reaches,
              ))
            ],
          )

      below_same : (place : ℕ) (pointer : Pointer) → slice_get (are.first ++ are.second) place ≡ Some pointer → (q : ℕ)
          → Reaches (told old.blocks.draft history) level pointer.child q
          → told new.blocks.draft history q ≡ told old.blocks.draft history q
      unfolding IsBelow
      below_same place pointer there q reaches = let under = below place pointer there q reaches in
          united-told history q under.0 under.1

      new_each : AreBranches tree super (told new.blocks.draft history) level (are.first ++ are.second)
          (lefts ++ rights)
      new_each = branches-same tree super (told old.blocks.draft history) (told new.blocks.draft history) level
          (are.first ++ are.second) (lefts ++ rights) whole_each below_same

      -- what is reached from a node that has some of their pointers
      reach_from : (at : ℕ) (header : Header) (pointers : List Pointer)
          → fresh_at new.blocks.draft at ≡ Some (Inner header pointers)
          → ((place : ℕ) (pointer : Pointer) → slice_get pointers place ≡ Some pointer
          → (k : ℕ) × (slice_get (are.first ++ are.second) k ≡ Some pointer))
          → (q : ℕ) → Reaches (told new.blocks.draft history) (suc level) at q → (q ≡ at) ⊎ IsBelow (suc level) q
      unfolding Reaches
      reach_from at header pointers here among q (inl same) = inl same
      reach_from at header pointers here among q (inr (node, there, place, pointer, found, reaches)) =
          let same : node ≡ Inner header pointers = let e = sym there
          ∙ told-fresh_at new.blocks.draft history at (Inner header pointers) here in cc in
          let kept = among place pointer
          (subst (λ (n : Node). slice_get (own_pointers n) place ≡ Some pointer) same found) in
          inr (below kept.0 pointer kept.1 q
          (reach-same (told old.blocks.draft history) (told new.blocks.draft history) level pointer.child
          (below_same kept.0 pointer kept.1) q reaches))

      -- all is in one
      inner_whole : whole_of pair.a pair.b ≡ Inner are.header (are.first ++ are.second)
      inner_whole = ap (λ (n : Node). whole_of n pair.b) are.left_is
          ∙ ap (λ (n : Node). Inner are.header (are.first ++ own_pointers n)) are.right_is

      inner_fresh : IsInOne old is.mid new left right instead pair.a pair.b
          → fresh_at new.blocks.draft left ≡ Some (Inner are.header (are.first ++ are.second))
      inner_fresh one = one.here ∙ ap (λ (n : Node). Some n) inner_whole

      inner_one_reach : IsInOne old is.mid new left right instead pair.a pair.b → (q : ℕ)
          → Reaches (told new.blocks.draft history) (suc level) left q → (q ≡ left) ⊎ IsBelow (suc level) q
      inner_one_reach one q reaches = reach_from left are.header (are.first ++ are.second) (inner_fresh one)
          (λ place pointer there. (place, there)) q reaches

      inner_one_holds : IsInOne old is.mid new left right instead pair.a pair.b
          → IsBranch tree super (told new.blocks.draft history) (suc level) left (lefts ++ rights)
      unfolding IsBranch
      inner_one_holds one = (
        are.header,
        are.first ++ are.second,
        told-fresh_at new.blocks.draft history left
            (Inner are.header (are.first ++ are.second)) (inner_fresh one),
        are.member,
        new_each,
      )

      -- both have some
      inner_parts : (two : AreInTwo old is.mid new left right instead pair.a pair.b)
          → (first : List Pointer) × (second : List Pointer) × (two.c ≡ Inner are.header first)
          × (two.d ≡ Inner are.other second) × (are.first ++ are.second ≡ first ++ second)
      inner_parts two =
          inners_parted two.c two.d are.header are.other (are.first ++ are.second) two.parted.alike (two.parted.whole
          ∙ inner_whole)
          (two.parted.header ∙ ap header_of are.right_is)

      inner_two_reach : AreInTwo old is.mid new left right instead pair.a pair.b → (q : ℕ)
          → Reaches (told new.blocks.draft history) (suc level) left q ⊎ Reaches (told new.blocks.draft history)
          (suc level) right q → (q ≡ left) ⊎ ((q ≡ right) ⊎ IsBelow (suc level) q)
      inner_two_reach two q reaches =
          let parts = inner_parts two in
          elim reaches [
            | inl first ↦
                elim (reach_from left are.header parts.0 (two.here ∙ ap (λ (n : Node). Some n) parts.2)
                (λ place pointer there. (place, rw parts.4 (front_get parts.0 parts.1 place pointer there))) q first)
                [ inl same ↦ inl same | inr under ↦ inr (inr under) ]
            | inr second ↦
                elim (reach_from right are.other parts.1 (two.there ∙ ap (λ (n : Node). Some n) parts.3)
                (λ place pointer there. rw parts.4 (back_get parts.0 parts.1 place pointer there)) q second)
                [ inl same ↦ inr (inl same) | inr under ↦ inr (inr under) ]
          ]

      inner_two_hold : AreInTwo old is.mid new left right instead pair.a pair.b
          → (mine : List Item) × (rest : List Item) × (lefts ++ rights ≡ mine ++ rest)
          × IsBranch tree super (told new.blocks.draft history) (suc level) left mine
          × IsBranch tree super (told new.blocks.draft history) (suc level) right rest
      unfolding IsBranch
      inner_two_hold two =
          let parts = inner_parts two in
          let split = each-append (λ pointer under. IsPointed super (told new.blocks.draft history) pointer
          × IsBranch tree super (told new.blocks.draft history) level pointer.child under)
          parts.0 parts.1 (lefts ++ rights)
          (subst (λ (ps : List Pointer). AreBranches tree super (told new.blocks.draft history) level ps
          (lefts ++ rights)) parts.4 new_each) in (
            split.0,
            split.1,
            split.2,
            (
              are.header,
              parts.0,
              told-fresh_at new.blocks.draft history left (Inner are.header parts.0) (two.here
                  ∙ ap (λ (n : Node). Some n) parts.2),
              are.member,
              split.3,
            ),
            (
              are.other,
              parts.1,
              told-fresh_at new.blocks.draft history right (Inner are.other parts.1) (two.there
                  ∙ ap (λ (n : Node). Some n) parts.3),
              are.member_other,
              split.4,
            ),
          )

      -- as many ways lead on
      below_ways : (pointers : List Pointer)
          → ((place : ℕ) (pointer : Pointer) → slice_get pointers place ≡ Some pointer
          → (k : ℕ) × (slice_get (are.first ++ are.second) k ≡ Some pointer))
          → (q : ℕ) → ways_each (told new.blocks.draft history) level pointers q
          ≡ ways_each (told old.blocks.draft history) level pointers q
      below_ways pointers among =
          ways_each-same (told old.blocks.draft history) (told new.blocks.draft history) level pointers
          (λ place pointer there. let kept = among place pointer there in below_same kept.0 pointer kept.1)

      inner_ways : (q : ℕ)
          → ways (told old.blocks.draft history) (suc level) left q + ways (told old.blocks.draft history)
          (suc level) right q
          ≡ one left q + (one right q + ways_each (told new.blocks.draft history) level (are.first ++ are.second) q)
      inner_ways q =
          let a = ways-inner (told old.blocks.draft history) level left are.header are.first
          (told-fresh_at old.blocks.draft history left (Inner are.header are.first) left_fresh) q in
          let b = ways-inner (told old.blocks.draft history) level right are.other are.second
          (told-fresh_at old.blocks.draft history right (Inner are.other are.second) right_fresh) q in
          let sum = ways_each-append (told old.blocks.draft history) level are.first are.second q in
          let same = below_ways (are.first ++ are.second) (λ place pointer there. (place, there)) q in
          omega (arith, a, b, sum, same)

      inner_one_ways : IsInOne old is.mid new left right instead pair.a pair.b → (q : ℕ)
          → ways (told new.blocks.draft history) (suc level) left q + one right q
          ≡ ways (told old.blocks.draft history) (suc level) left q + ways (told old.blocks.draft history)
          (suc level) right q
      inner_one_ways one_node q =
          let all = inner_ways q in
          let here = told-fresh_at new.blocks.draft history left (Inner are.header (are.first ++ are.second))
          (inner_fresh one_node) in
          let a = ways-inner (told new.blocks.draft history) level left are.header (are.first ++ are.second) here q in
          omega (arith, all, a)

      inner_two_ways : AreInTwo old is.mid new left right instead pair.a pair.b → (q : ℕ)
          → ways (told new.blocks.draft history) (suc level) left q + ways (told new.blocks.draft history)
          (suc level) right q
          ≡ ways (told old.blocks.draft history) (suc level) left q + ways (told old.blocks.draft history)
          (suc level) right q
      inner_two_ways two q =
          let parts = inner_parts two in
          let all = inner_ways q in
          let here = told-fresh_at new.blocks.draft history left (Inner are.header parts.0) (two.here
          ∙ ap (λ (n : Node). Some n) parts.2) in
          let there = told-fresh_at new.blocks.draft history right (Inner are.other parts.1) (two.there
          ∙ ap (λ (n : Node). Some n) parts.3) in
          let a = ways-inner (told new.blocks.draft history) level left are.header parts.0 here q in
          let b = ways-inner (told new.blocks.draft history) level right are.other parts.1 there q in
          let sum = ways_each-append (told new.blocks.draft history) level parts.0 parts.1 q in
          let same = ap (λ (ps : List Pointer). ways_each (told new.blocks.draft history) level ps q) parts.4 in
          omega (arith, all, a, b, sum, same)

      -- the leaves under both
      whole_leaves : leaves_under (λ q. leaves (told new.blocks.draft history) level q) (are.first ++ are.second)
          ≡ leaves (told old.blocks.draft history) (suc level) left ++ leaves (told old.blocks.draft history)
          (suc level) right
      whole_leaves =
          let before = λ (q : ℕ). leaves (told old.blocks.draft history) level q in
          under-same before (λ q. leaves (told new.blocks.draft history) level q) (are.first ++ are.second)
          (λ place pointer there. leaves-same (told old.blocks.draft history) (told new.blocks.draft history) level
          pointer.child (below_same place pointer there))
          ∙ under-append before are.first are.second
          ∙ ap (λ (ls : List (List Item)). ls ++ leaves_under before are.second)
          (sym (leaves-inner (told old.blocks.draft history) level left are.header are.first
          (told-fresh_at old.blocks.draft history left (Inner are.header are.first) left_fresh)))
          ∙ ap (λ (ls : List (List Item)). leaves (told old.blocks.draft history) (suc level) left ++ ls)
          (sym (leaves-inner (told old.blocks.draft history) level right are.other are.second
          (told-fresh_at old.blocks.draft history right (Inner are.other are.second) right_fresh)))

      inner_one_leaves : IsInOne old is.mid new left right instead pair.a pair.b
          → leaves (told new.blocks.draft history) (suc level) left
          ≡ leaves (told old.blocks.draft history) (suc level) left ++ leaves (told old.blocks.draft history)
          (suc level) right
      inner_one_leaves one =
          leaves-inner (told new.blocks.draft history) level left are.header (are.first ++ are.second)
          (told-fresh_at new.blocks.draft history left (Inner are.header (are.first ++ are.second)) (inner_fresh one))
          ∙ whole_leaves

      inner_two_leaves : AreInTwo old is.mid new left right instead pair.a pair.b
          → leaves (told new.blocks.draft history) (suc level) left ++ leaves (told new.blocks.draft history)
          (suc level) right
          ≡ leaves (told old.blocks.draft history) (suc level) left ++ leaves (told old.blocks.draft history)
          (suc level) right
      inner_two_leaves two =
          let parts = inner_parts two in
          let after = λ (q : ℕ). leaves (told new.blocks.draft history) level q in
          ap (λ (ls : List (List Item)). ls ++ leaves (told new.blocks.draft history) (suc level) right)
          (leaves-inner (told new.blocks.draft history) level left are.header parts.0
          (told-fresh_at new.blocks.draft history left (Inner are.header parts.0) (two.here
          ∙ ap (λ (n : Node). Some n) parts.2)))
          ∙ ap (λ (ls : List (List Item)). leaves_under after parts.0 ++ ls)
          (leaves-inner (told new.blocks.draft history) level right are.other parts.1
          (told-fresh_at new.blocks.draft history right (Inner are.other parts.1) (two.there
          ∙ ap (λ (n : Node). Some n) parts.3)))
          ∙ sym (under-append after parts.0 parts.1)
          ∙ ap (λ (ps : List Pointer). leaves_under after ps) (sym parts.4)
          ∙ whole_leaves

    -- ---- both are leaves

    module _ (lefts rights : List Item) (are : AreLeaves tree super pair.a pair.b lefts rights) where
      leaf_whole : whole_of pair.a pair.b ≡ Leaf are.header (lefts ++ rights)
      leaf_whole = ap (λ (n : Node). whole_of n pair.b) are.left_is
          ∙ ap (λ (n : Node). Leaf are.header (lefts ++ own_items n)) are.right_is

      leaf_one_holds : IsInOne old is.mid new left right instead pair.a pair.b
          → IsBranch tree super (told new.blocks.draft history) zero left (lefts ++ rights)
      unfolding IsBranch
      leaf_one_holds one = (
        are.header,
        told-fresh_at new.blocks.draft history left (Leaf are.header (lefts ++ rights)) (one.here
            ∙ ap (λ (n : Node). Some n) leaf_whole),
        are.member,
      )

      leaf_two_hold : AreInTwo old is.mid new left right instead pair.a pair.b → (mine : List Item) × (rest : List Item)
          × (lefts ++ rights ≡ mine ++ rest)
          × IsBranch tree super (told new.blocks.draft history) zero left mine
          × IsBranch tree super (told new.blocks.draft history) zero right rest
      unfolding IsBranch
      leaf_two_hold two =
          let parts = leaves_parted two.c two.d are.header are.other (lefts ++ rights) two.parted.alike
          (two.parted.whole ∙ leaf_whole)
          (two.parted.header ∙ ap header_of are.right_is) in (
            parts.0,
            parts.1,
            parts.4,
            (
              are.header,
              told-fresh_at new.blocks.draft history left (Leaf are.header parts.0) (two.here
                  ∙ ap (λ (n : Node). Some n) parts.2),
              are.member,
            ),
            (
              are.other,
              told-fresh_at new.blocks.draft history right (Leaf are.other parts.1) (two.there
                  ∙ ap (λ (n : Node). Some n) parts.3),
              are.member_other,
            ),
          )

      leaf_one_leaves : lefts ≡ [] → IsInOne old is.mid new left right instead pair.a pair.b
          → leaves (told new.blocks.draft history) zero left ≡ leaves (told old.blocks.draft history) zero right
      leaf_one_leaves empty one =
          leaves-alone (told new.blocks.draft history) left are.header (lefts ++ rights)
          (told-fresh_at new.blocks.draft history left (Leaf are.header (lefts ++ rights)) (one.here
          ∙ ap (λ (n : Node). Some n) leaf_whole))
          ∙ ap (λ (xs : List Item). (xs ++ rights) ∷ []) empty
          ∙ sym (leaves-alone (told old.blocks.draft history) right are.other rights
          (told-fresh_at old.blocks.draft history right (Leaf are.other rights) (pair.right_here
          ∙ ap (λ (n : Node). Some n) are.right_is)))

      -- an empty one fits in the other
      empty_fits : lefts ≡ [] → AreInTwo old is.mid new left right instead pair.a pair.b → ⊥
      empty_fits empty two =
          let none : used_bytes pair.a ≡ 0 = ap used_bytes are.left_is
          ∙ ap (λ (xs : List Item). used_bytes (Leaf are.header xs)) empty in
          let heavy = two.parted.heavy in
          let fits = pair.right_sound.fits in
          omega (arith, none, heavy, fits)

    -- ---- on any level

    one_reach : (level : ℕ) (lefts rights : List Item)
        → IsBranch tree super (told old.blocks.draft history) level left lefts
        → IsBranch tree super (told old.blocks.draft history) level right rights
        → IsInOne old is.mid new left right instead pair.a pair.b → (q : ℕ)
        → Reaches (told new.blocks.draft history) level left q → (q ≡ left) ⊎ IsBelow level q
    unfolding Reaches
    one_reach zero lefts rights holds holds_other one q reaches = inl reaches
    one_reach (suc level) lefts rights holds holds_other one q reaches =
        inner_one_reach level lefts rights (inners_of level lefts rights holds holds_other) one q reaches

    two_reach : (level : ℕ) (lefts rights : List Item)
        → IsBranch tree super (told old.blocks.draft history) level left lefts
        → IsBranch tree super (told old.blocks.draft history) level right rights
        → AreInTwo old is.mid new left right instead pair.a pair.b → (q : ℕ)
        → Reaches (told new.blocks.draft history) level left q ⊎ Reaches (told new.blocks.draft history) level right q
        → (q ≡ left) ⊎ ((q ≡ right) ⊎ IsBelow level q)
    unfolding Reaches
    two_reach zero lefts rights holds holds_other two q (inl first) = inl first
    two_reach zero lefts rights holds holds_other two q (inr second) = inr (inl second)
    two_reach (suc level) lefts rights holds holds_other two q reaches =
        inner_two_reach level lefts rights (inners_of level lefts rights holds holds_other) two q reaches

    one_holds : (level : ℕ) (lefts rights : List Item)
        → IsBranch tree super (told old.blocks.draft history) level left lefts
        → IsBranch tree super (told old.blocks.draft history) level right rights
        → IsInOne old is.mid new left right instead pair.a pair.b
        → IsBranch tree super (told new.blocks.draft history) level left (lefts ++ rights)
    one_holds zero lefts rights holds holds_other one =
        leaf_one_holds lefts rights (leaves_of lefts rights holds holds_other) one
    one_holds (suc level) lefts rights holds holds_other one =
        inner_one_holds level lefts rights (inners_of level lefts rights holds holds_other) one

    two_hold : (level : ℕ) (lefts rights : List Item)
        → IsBranch tree super (told old.blocks.draft history) level left lefts
        → IsBranch tree super (told old.blocks.draft history) level right rights
        → AreInTwo old is.mid new left right instead pair.a pair.b → (mine : List Item) × (rest : List Item)
        × (lefts ++ rights ≡ mine ++ rest)
        × IsBranch tree super (told new.blocks.draft history) level left mine
        × IsBranch tree super (told new.blocks.draft history) level right rest
    two_hold zero lefts rights holds holds_other two =
        leaf_two_hold lefts rights (leaves_of lefts rights holds holds_other) two
    two_hold (suc level) lefts rights holds holds_other two =
        inner_two_hold level lefts rights (inners_of level lefts rights holds holds_other) two

    one_ways : (level : ℕ) (lefts rights : List Item)
        → IsBranch tree super (told old.blocks.draft history) level left lefts
        → IsBranch tree super (told old.blocks.draft history) level right rights
        → IsInOne old is.mid new left right instead pair.a pair.b → (q : ℕ)
        → ways (told new.blocks.draft history) level left q + one right q
        ≡ ways (told old.blocks.draft history) level left q + ways (told old.blocks.draft history) level right q
    one_ways zero lefts rights holds holds_other one_node q =
        let a = ways-leaf (told new.blocks.draft history) left q in
        let b = ways-leaf (told old.blocks.draft history) left q in
        let c = ways-leaf (told old.blocks.draft history) right q in
        omega (arith, a, b, c)
    one_ways (suc level) lefts rights holds holds_other one_node q =
        inner_one_ways level lefts rights (inners_of level lefts rights holds holds_other) one_node q

    two_ways : (level : ℕ) (lefts rights : List Item)
        → IsBranch tree super (told old.blocks.draft history) level left lefts
        → IsBranch tree super (told old.blocks.draft history) level right rights
        → AreInTwo old is.mid new left right instead pair.a pair.b → (q : ℕ)
        → ways (told new.blocks.draft history) level left q + ways (told new.blocks.draft history) level right q
        ≡ ways (told old.blocks.draft history) level left q + ways (told old.blocks.draft history) level right q
    two_ways zero lefts rights holds holds_other two q =
        let a = ways-leaf (told new.blocks.draft history) left q in
        let b = ways-leaf (told new.blocks.draft history) right q in
        let c = ways-leaf (told old.blocks.draft history) left q in
        let d = ways-leaf (told old.blocks.draft history) right q in
        omega (arith, a, b, c, d)
    two_ways (suc level) lefts rights holds holds_other two q =
        inner_two_ways level lefts rights (inners_of level lefts rights holds holds_other) two q

    one_leaves : (level : ℕ) (lefts rights : List Item)
        → IsBranch tree super (told old.blocks.draft history) level left lefts
        → IsBranch tree super (told old.blocks.draft history) level right rights
        → (level ≡ 0 → lefts ≡ []) → IsInOne old is.mid new left right instead pair.a pair.b
        → leaves (told new.blocks.draft history) level left ≡ leaves_joined level
        (leaves (told old.blocks.draft history) level left) (leaves (told old.blocks.draft history) level right)
    one_leaves zero lefts rights holds holds_other empty one =
        leaf_one_leaves lefts rights (leaves_of lefts rights holds holds_other) (empty refl) one
    one_leaves (suc level) lefts rights holds holds_other empty one =
        inner_one_leaves level lefts rights (inners_of level lefts rights holds holds_other) one

    two_leaves : (level : ℕ) (lefts rights : List Item)
        → IsBranch tree super (told old.blocks.draft history) level left lefts
        → IsBranch tree super (told old.blocks.draft history) level right rights
        → (level ≡ 0 → lefts ≡ []) → AreInTwo old is.mid new left right instead pair.a pair.b
        → leaves (told new.blocks.draft history) level left ++ leaves (told new.blocks.draft history) level right
        ≡ leaves_joined level (leaves (told old.blocks.draft history) level left)
        (leaves (told old.blocks.draft history) level right)
    two_leaves zero lefts rights holds holds_other empty two =
        absurd (empty_fits lefts rights (leaves_of lefts rights holds holds_other) (empty refl) two)
    two_leaves (suc level) lefts rights holds holds_other empty two =
        inner_two_leaves level lefts rights (inners_of level lefts rights holds holds_other) two

    module _ (level : ℕ) (lefts rights : List Item)
        (left_holds : IsBranch tree super (told old.blocks.draft history) level left lefts)
        (right_holds : IsBranch tree super (told old.blocks.draft history) level right rights)
        (size : super.nodesize ≡ old.space.sizes.nodesize) where
      -- ---- what is reached

      from_one : IsInOne old is.mid new left right instead pair.a pair.b → (q : ℕ)
          → ReachesInstead (told new.blocks.draft history) level instead q → (q ≡ left) ⊎ IsBelow level q
      from_one one q reaches =
          elim (subst (λ (i : Instead). ReachesInstead (told new.blocks.draft history) level i q) one.instead_is
          reaches) [
            | inl here ↦ one_reach level lefts rights left_holds right_holds one q here
            | inr none ↦ absurd none
          ]

      from_two : AreInTwo old is.mid new left right instead pair.a pair.b → (q : ℕ)
          → ReachesInstead (told new.blocks.draft history) level instead q
          → (q ≡ left) ⊎ ((q ≡ right) ⊎ IsBelow level q)
      from_two two q reaches =
          two_reach level lefts rights left_holds right_holds two q
          (subst (λ (i : Instead). ReachesInstead (told new.blocks.draft history) level i q) two.instead_is reaches)

      reach_either : (q : ℕ) → (q ≡ left) ⊎ ((q ≡ right) ⊎ IsBelow level q)
          → Reaches (told old.blocks.draft history) level left q ⊎ Reaches (told old.blocks.draft history) level right q
      unfolding IsBelow
      reach_either q (inl same) =
          inl (subst (λ (a : ℕ). Reaches (told old.blocks.draft history) level left a) (sym same)
          (reach-top (told old.blocks.draft history) level left))
      reach_either q (inr (inl same)) =
          inr (subst (λ (a : ℕ). Reaches (told old.blocks.draft history) level right a) (sym same)
          (reach-top (told old.blocks.draft history) level right))
      reach_either q (inr (inr under)) = under.2

      -- no more than before
      pub united-reach : (q : ℕ) → ReachesInstead (told new.blocks.draft history) level instead q
          → Reaches (told old.blocks.draft history) level left q ⊎ Reaches (told old.blocks.draft history) level right q
      united-reach q reaches = elim united_ends [
        | inl one ↦ elim (from_one one q reaches) [
          | inl same ↦ reach_either q (inl same)
          | inr under ↦ reach_either q (inr (inr under))
        ]
        | inr two ↦ reach_either q (from_two two q reaches)
      ]

      not_gone : IsInOne old is.mid new left right instead pair.a pair.b → (q : ℕ)
          → ReachesInstead (told new.blocks.draft history) level instead q → q ≢ right
      unfolding IsBelow
      not_gone one q reaches gone = elim (from_one one q reaches) [
        | inl same ↦ differ (sym same ∙ gone)
        | inr under ↦ under.1 gone
      ]

      -- nothing that is free, but what was
      pub united-gone : (q : ℕ) → ReachesInstead (told new.blocks.draft history) level instead q
          → IsTrue (is_free_slot new.space q)
          → new.space.sizes ≡ old.space.sizes → new.space.held_slots ≡ old.space.held_slots
          → IsTrue (is_free_slot old.space q)
      united-gone q reaches free sizes held = elim united_ends [
        | inl one ↦ elim (united-free q sizes held free) [
          | inl was ↦ was
          | inr gone ↦ absurd (not_gone one q reaches gone)
        ]
        | inr two ↦ subst (λ (h : Holding). is_free_slot h q ≡ true) (same_space two) free
      ]

      -- ---- what it holds

      filled_new : (at : ℕ) (node : Node) → fresh_at new.blocks.draft at ≡ Some node
          → IsFilled old.space.sizes.nodesize node → FillsThere super.nodesize (told new.blocks.draft history) at
      filled_new at node here filled =
          record {
            node = node;
            there = told-fresh_at new.blocks.draft history at node here;
            filled = subst (λ (n : ℕ). IsFilled n node) (sym size) filled;
          }

      whole_holds : IsInOne old is.mid new left right instead pair.a pair.b
          → HoldInstead tree super (told new.blocks.draft history) level instead (lefts ++ rights)
      whole_holds one = subst (λ (i : Instead). HoldInstead tree super (told new.blocks.draft history) level i
          (lefts ++ rights)) (sym one.instead_is) (record {
            mine = lefts ++ rights;
            rest = [];
            items_are = sym (append-nil (lefts ++ rights));
            here = one_holds level lefts rights left_holds right_holds one;
            behind = refl;
          })

      parts_hold : AreInTwo old is.mid new left right instead pair.a pair.b
          → HoldInstead tree super (told new.blocks.draft history) level instead (lefts ++ rights)
      parts_hold two =
          let parts = two_hold level lefts rights left_holds right_holds two in
          subst (λ (i : Instead). HoldInstead tree super (told new.blocks.draft history) level i (lefts ++ rights))
          (sym two.instead_is) (record {
            mine = parts.0;
            rest = parts.1;
            items_are = parts.2;
            here = parts.3;
            behind = (
              parts.4,
              filled_new left two.c two.here two.parted.left_filled,
              filled_new right two.d two.there
                  two.parted.right_filled,
            );
          })

      -- the items of both
      pub united-holds : HoldInstead tree super (told new.blocks.draft history) level instead (lefts ++ rights)
      united-holds = elim united_ends [ inl one ↦ whole_holds one | inr two ↦ parts_hold two ]

      full_old : (at : ℕ) (node : Node) → fresh_at old.blocks.draft at ≡ Some node
          → FillsThere super.nodesize (told old.blocks.draft history) at
          → capacity old.space.sizes.nodesize ≤ 4 * used_bytes node
      full_old at node here fills =
          let same : node ≡ fills.node = fresh_is old history at node fills.node here fills.there in
          subst (λ (n : ℕ). capacity n ≤ 4 * used_bytes node) size
          (subst (λ (n : Node). capacity super.nodesize ≤ 4 * used_bytes n) (sym same) fills.filled.full)

      both_full : FillsThere super.nodesize (told old.blocks.draft history) left
          ⊎ FillsThere super.nodesize (told old.blocks.draft history) right
          → capacity old.space.sizes.nodesize ≤ 4 * (used_bytes pair.a + used_bytes pair.b)
      both_full (inl fills) = let full = full_old left pair.a pair.left_here fills in omega (arith, full)
      both_full (inr fills) = let full = full_old right pair.b pair.right_here fills in omega (arith, full)

      -- the first one is filled where one of both was
      pub united-fills : FillsThere super.nodesize (told old.blocks.draft history) left
          ⊎ FillsThere super.nodesize (told old.blocks.draft history) right
          → FillsThere super.nodesize (told new.blocks.draft history) instead.now
      united-fills fills = elim united_ends [
        | inl one ↦
            let alike = alike-levels old.space.sizes.nodesize pair.a pair.b pair.left_sound pair.right_sound
            pair.level in
            let filled = IsFilled-whole_of old.space.sizes.nodesize pair.a pair.b alike (both_full fills) one.fits in
            subst (λ (i : Instead). FillsThere super.nodesize (told new.blocks.draft history) i.now)
            (sym one.instead_is) (filled_new left (whole_of pair.a pair.b) one.here filled)
        | inr two ↦ subst (λ (i : Instead). FillsThere super.nodesize (told new.blocks.draft history) i.now)
            (sym two.instead_is) (filled_new left two.c two.here two.parted.left_filled)
      ]

      -- ---- what a book is told

      module _ (nodes clean : ℕ → Option Node) (committed : AreCommitted old history clean)
          (unheld : Contains old.space.held_slots right → ⊥) where
        -- none of the clean nodes leads to the right one
        right_led : LeadsNone clean (λ q. ways (told old.blocks.draft history) level left q + ways
            (told old.blocks.draft history) level right q) right
        right_led =
            let map_old = told old.blocks.draft history in
            let same = committed-told old history clean committed in
            let top = branch-top tree super map_old level right rights right_holds in
            let levelled = top.2 in
            let high : level ≤ (header_of top.0).level = omega (arith, levelled) in
            leads-plus clean (ways map_old level left) (ways map_old level right) right
            (leads-none tree super map_old clean same level left lefts left_holds right top.0 top.1 high)
            (leads-none tree super map_old clean same level right rights right_holds right top.0 top.1 high)

        Tells : Instead → List Telling → Type 0
        Tells i tellings = IsTold old nodes clean (λ q. ⊥)
            (λ q. ways (told old.blocks.draft history) level left q + ways (told old.blocks.draft history) level right
            q)
            (ways_instead (told new.blocks.draft history) level i) 0 1 0 tellings

        -- the right one is left
        one_tells : IsInOne old is.mid new left right instead pair.a pair.b → (tellings : List Telling)
            → TellsUnited right instead tellings → Tells (alone left) tellings
        unfolding Tells
        one_tells one_node tellings (inl parted) = absurd (let e = one_node.instead_is in let some = parted.0 in
            let none : instead.more ≡ None = ap (λ (i : Instead). i.more) e in cc)
        one_tells one_node tellings (inr (none, (node, tellings_are, named, bare))) =
            subst (λ (ts : List Telling). Tells (alone left) ts) (sym tellings_are) left_told where
              left_told : Tells (alone left) (Left node ∷ [])
              left_told =
                  told-left old nodes clean (λ q. ⊥) (λ q. ways (told old.blocks.draft history) level left q + ways
                  (told old.blocks.draft history) level right q)
                  (ways_instead (told new.blocks.draft history) level (alone left)) node right named bare unheld
                  right_led
                  (let top = ways-top (told old.blocks.draft history) level right in omega (arith, top))
                  (λ q. let e = one_ways level lefts rights left_holds right_holds one_node q in omega (arith, e))

        -- or both stay
        two_tell : AreInTwo old is.mid new left right instead pair.a pair.b → (tellings : List Telling)
            → TellsUnited right instead tellings → Tells (record { now = left; more = Some right }) tellings
        unfolding Tells
        two_tell two tellings (inr whole) =
            absurd (let none = whole.0 in
            let some : instead.more ≡ Some right = ap (λ (i : Instead). i.more) two.instead_is in
            let both : Some right ≡ None = sym some ∙ none in cc)
        two_tell two tellings (inl parted) =
            subst (λ (ts : List Telling). Tells (record { now = left; more = Some right }) ts)
            (sym parted.1) none_told where
              none_told : Tells (record { now = left; more = Some right }) []
              none_told =
                  let before = λ (q : ℕ). ways (told old.blocks.draft history) level left q + ways
                  (told old.blocks.draft history) level right q in
                  let after = ways_instead (told new.blocks.draft history) level
                  (record { now = left; more = Some right }) in
                  told-more old nodes clean (λ q. ⊥) before after 0 0 0 0 1 0 [] (omega arith) (omega arith)
                  (omega arith)
                  (told-none old nodes clean (λ q. ⊥) before after
                  (λ q. two_ways level lefts rights left_holds right_holds two q))

        pub united-tells : (tellings : List Telling) → TellsUnited right instead tellings
            → IsTold old nodes clean (λ q. ⊥) (λ q. ways (told old.blocks.draft history) level left q + ways
            (told old.blocks.draft history) level right q)
            (ways_instead (told new.blocks.draft history) level instead) 0 1 0 tellings
        unfolding Tells
        united-tells tellings tells = elim united_ends [
          | inl one_node ↦ subst (λ (i : Instead). Tells i tellings) (sym one_node.instead_is)
              (one_tells one_node tellings tells)
          | inr two ↦ subst (λ (i : Instead). Tells i tellings) (sym two.instead_is) (two_tell two tellings tells)
        ]

      -- ---- its leaves

      -- an empty leaf on the left is gone, and all others keep their items
      pub united-leaves : (level ≡ 0 → lefts ≡ [])
          → leaves (told new.blocks.draft history) level instead.now
          ++ leaves_more (λ q. leaves (told new.blocks.draft history) level q) instead.more
          ≡ leaves_joined level (leaves (told old.blocks.draft history) level left)
          (leaves (told old.blocks.draft history) level right)
      united-leaves empty =
          let after = λ (q : ℕ). leaves (told new.blocks.draft history) level q in
          let all = λ (i : Instead). after i.now ++ leaves_more after i.more in
          elim united_ends [
            | inl one ↦ ap all one.instead_is ∙ append-nil (after left)
                ∙ one_leaves level lefts rights left_holds right_holds empty one
            | inr two ↦ ap all two.instead_is ∙ two_leaves level lefts rights left_holds right_holds empty two
          ]
