-- A leaf of a tree that was owned and edited.
use Rattle.std.proofs.Common.{◌≡◌, ◌≢◌, ◌⊎◌, ℕ, List, [], ◌++◌, append-nil, arith, refl, sym, ap, subst, ◌∙◌, inl, inr}
use Rattle.std.proofs.Common.{Option, Some, None}
use Rattle.std.specs.Prelude.{IsTrue}
use Rattle.qg_device.specs.History.{History}
use Rattle.qg_node.specs.declared.item.Item.{Item}
use Rattle.qg_node.specs.declared.node.Header.{Header}
use Rattle.qg_node.specs.declared.node.Node.{Node}
use Rattle.qg_node.specs.declared.node.Node.TheVariants.{Leaf, Inner}
use Rattle.qg_node.specs.Nodes.{header_of, own_items}
use Rattle.qg_shape.specs.Filled.{IsFilled}
use Rattle.qg_shape.specs.Outcomes.{IsSplit}
use Rattle.qg_shape.specs.Parts.{with_items}
use Rattle.qg_super.specs.declared.superblock.Super.{Super}
use Rattle.qg_image.specs.declared.expected.Expected.{Expected}
use Rattle.qg_image.specs.declared.tree.TreeKind.{TreeKind}
use Rattle.qg_image.specs.Walk.{is_generation, is_owner}
use Rattle.qg_blocks.specs.NodesFound.{fresh_at, told}
use Rattle.qg_space.specs.Holding.{Holding, is_free_slot}
use Rattle.qg_node_alloc.specs.declared.ground.Ground.{Ground}
use Rattle.qg_node_alloc.specs.Changes.{node_at}
use Rattle.qg_node_alloc.specs.Land.{IsDrafted, Rests}
use Rattle.qg_edit.specs.declared.edit.Edit.{Edit}
use Rattle.qg_edit.specs.Edits.{edited}
use Rattle.qg_tree_edits.specs.declared.instead.Instead.{Instead}
use Rattle.qg_tree_read.specs.Tree.{Reaches, Root, super_of}
use Rattle.qg_tree_read.specs.Branch.{IsBranch, IsMember}
use Rattle.qg_tree_edits.specs.Editing.{CanMake, FillsThere, HoldInstead, IsCutThere, IsOwned, IsPartEdited, IsPartFit}
use Rattle.qg_tree_edits.specs.Editing.{IsPlacedBehind, IsRewritten, ReachesInstead, alone, with_owner}
use Rattle.qg_tree_edits.specs.Counting.{AreCommitted, IsPartTold, IsTold, one, tellings_made, tellings_owned, ways}
use Rattle.qg_tree_edits.specs.Counting.{ways_instead}
use Rattle.qg_tree_read.proofs.BranchFrames.{reach-top}
use Rattle.qg_tree_read.proofs.BranchWalk.{branch-under}
use Rattle.qg_tree_edits.proofs.FirstLeaf.{first-alone}
use Rattle.qg_tree_edits.proofs.OwnedBranch.{mine-leaf}
use Rattle.qg_tree_edits.proofs.OwnedTold.{owned-told}
use Rattle.qg_tree_edits.proofs.Placed.{fresh-taken}
use Rattle.qg_tree_edits.proofs.PlacedBehind.{AreTwoThere, IsOneThere, filled-at, parts-there, placed-free, placed-told}
use Rattle.qg_tree_edits.proofs.PlacedTold.{told-made}
use Rattle.qg_tree_edits.proofs.Turning.{told-append, told-more, told-none, told-same, told-within}
use Rattle.qg_tree_edits.proofs.United.{rewritten-told}
use Rattle.qg_tree_edits.proofs.Ways.{one-other, ways-leaf}

-- ---- both parts of a leaf that was cut

-- they are leaves, which share its items, and its header but for the address
record AreCut (h : Header) (items : List Item) (front other : Node) : Type 0 where
  first : List Item
  last : List Item
  rest : Header
  front_is : front ≡ Leaf h first
  other_is : other ≡ Leaf rest last
  rest_is : rest ≡ record h { address = rest.address }
  items_are : items ≡ first ++ last

cut_leaf : (nodesize address : ℕ) (h : Header) (items : List Item) (front other : Node)
    → IsSplit nodesize address (Leaf h items) front other → AreCut h items front other
cut_leaf nodesize address h items (Inner hf ps) other split = absurd (let e = split.whole in cc)
cut_leaf nodesize address h items (Leaf hf fs) (Inner ho ps) split = absurd split.alike
cut_leaf nodesize address h items (Leaf hf fs) (Leaf ho os) split =
    let whole : Leaf hf (fs ++ os) ≡ Leaf h items = split.whole in
    let same : hf ≡ h = cc in
    let all : fs ++ os ≡ items = cc in
    record {
      first = fs;
      last = os;
      rest = ho;
      front_is = ap (λ (x : Header). Leaf x fs) same;
      other_is = refl;
      rest_is = split.header ∙ ap (λ (a : ℕ). record h { address = a })
          (sym (ap (λ (x : Header). x.address) split.header));
      items_are = sym all;
    }

-- the rest is a node that the tree may have, by an owner that its nodes may have
member_moved : (tree : TreeKind) (super : Super) (level owner address : ℕ) (h other : Header)
    → other ≡ record h { address = other.address } → IsTrue (is_owner tree owner)
    → IsMember tree super level h → IsMember tree super level (record other { owner = owner; address = address })
member_moved tree super level owner address h other is may member = record {
  levelled = ap (λ (x : Header). x.level) is ∙ member.levelled;
  owned = may;
  dated = subst (λ (x : Header). IsTrue (is_generation super.generation None x.generation)) (sym is) member.dated;
}

-- what stands there holds the items
module _ (tree : TreeKind) (super : Super) (set end : Ground) (history : History) (nodesize now : ℕ)
    (h : Header) (items : List Item) (instead : Instead) (member : IsMember tree super 0 h)
    (owner : ℕ) (may : IsTrue (is_owner tree owner))
    (size : super.nodesize ≡ nodesize) where
  one_holds : IsOneThere set end history now (Leaf h items) instead
      → HoldInstead tree super (told end.blocks.draft history) 0 instead items
  unfolding IsBranch
  one_holds one = subst (λ (i : Instead). HoldInstead tree super (told end.blocks.draft history) 0 i items)
      (sym one.instead_is) (record {
        mine = items;
        rest = [];
        items_are = sym (append-nil items);
        here = (h, one.there, member);
        behind = refl;
      })

  fills : (at : ℕ) (node : Node) → told end.blocks.draft history at ≡ Some node → IsFilled nodesize node
      → FillsThere super.nodesize (told end.blocks.draft history) at
  fills at node there filled =
      record { node = node; there = there; filled = subst (λ (n : ℕ). IsFilled n node) (sym size) filled }

  two_hold : AreTwoThere owner set end history nodesize now (Leaf h items) instead
      → HoldInstead tree super (told end.blocks.draft history) 0 instead items
  unfolding IsBranch
  two_hold two =
      let parts = cut_leaf nodesize h.address h items two.front two.other two.split in
      subst (λ (i : Instead). HoldInstead tree super (told end.blocks.draft history) 0 i items) (sym two.instead_is)
      (record {
        mine = parts.first;
        rest = parts.last;
        items_are = parts.items_are;
        here = (h, two.there ∙ ap Some parts.front_is, member);
        behind = (
          (
            record parts.rest { owner = owner; address = two.more },
            two.behind ∙ ap (λ (n : Node). Some (node_at two.more (with_owner owner n))) parts.other_is,
            member_moved tree super 0 owner two.more h parts.rest parts.rest_is may member,
          ),
          fills now two.front two.there two.split.front_filled,
          fills two.more (node_at two.more (with_owner owner two.other)) two.behind
              (filled-at nodesize owner two.more two.other two.split.rest_filled),
        );
      })

  pub leaf-holds : IsOneThere set end history now (Leaf h items) instead
      ⊎ AreTwoThere owner set end history nodesize now (Leaf h items) instead
      → HoldInstead tree super (told end.blocks.draft history) 0 instead items
  leaf-holds (inl one) = one_holds one
  leaf-holds (inr two) = two_hold two

-- the leaf that was owned has the items
module _ (tree : TreeKind) (root : Root) (land mid : Ground) (history : History) (expected : Expected)
    (at now : ℕ) (edit : Edit) (items : List Item)
    (owned : IsOwned tree root land mid history expected at now) (makes : CanMake tree root)
    (fit : IsPartFit tree root land history 0 expected at edit items) where
  top : IsBranch tree (super_of root land.blocks.draft) (told land.blocks.draft history) 0 at items
  top = branch-under tree (super_of root land.blocks.draft) (told land.blocks.draft history) 0 expected at items
      (record { levelled = fit.levelled; walked = fit.walked; items_are = fit.items_are })

  pub mine-leaf_is : (header : Header) × (owned.mine ≡ Leaf header items)
      × IsMember tree (super_of root land.blocks.draft) 0 header
  unfolding IsBranch
  mine-leaf_is =
      let is = mine-leaf tree root land mid history expected at now owned makes top.0 items top.1 top.2.levelled in
      (is.0, is.1, is.2 top.2)

module _ (tree : TreeKind) (root : Root) (land mid set end : Ground) (history later last : History)
    (expected : Expected) (at now : ℕ) (edit : Edit) (items : List Item) (rest : Option Node) (instead : Instead)
    (owned : IsOwned tree root land mid history expected at now) (makes : CanMake tree root)
    (fit : IsPartFit tree root land history 0 expected at edit items) (drafted : IsDrafted land root.next)
    (rests : Rests land mid later root.next) (rewritten : IsRewritten mid set now owned.mine)
    (drafted_set : IsDrafted set root.next) (rests_end : Rests set end last root.next)
    (cut : IsCutThere mid.space.sizes.nodesize set now owned.mine
    (with_items owned.mine (edited edit (own_items owned.mine))) rest)
    (placed : IsPlacedBehind root.owner set end now rest instead) where
  mine : (header : Header) × (owned.mine ≡ Leaf header items) × IsMember tree (super_of root land.blocks.draft) 0 header
  mine = mine-leaf_is tree root land mid history expected at now edit items owned makes fit

  top_is : (header : Header) × (told land.blocks.draft history at ≡ Some (Leaf header items))
  unfolding IsBranch
  top_is =
      let top = branch-under tree (super_of root land.blocks.draft) (told land.blocks.draft history) 0 expected at items
      (record { levelled = fit.levelled; walked = fit.walked; items_are = fit.items_are }) in
      (top.0, top.1)

  whole_is : with_items owned.mine (edited edit (own_items owned.mine)) ≡ Leaf mine.0 (edited edit items)
  whole_is = ap (λ (n : Node). with_items n (edited edit (own_items n))) mine.1

  parts : IsOneThere set end history now (Leaf mine.0 (edited edit items)) instead
      ⊎ AreTwoThere root.owner set end history mid.space.sizes.nodesize now (Leaf mine.0 (edited edit items)) instead
  parts =
      parts-there root.owner set end history mid.space.sizes.nodesize now root.next owned.mine
      (Leaf mine.0 (edited edit items)) drafted_set rest instead
      (subst (λ (n : Node). IsCutThere mid.space.sizes.nodesize set now owned.mine n rest) whole_is cut) placed

  space_is : set.space ≡ mid.space
  space_is = ap (λ (g : Ground). g.space) rewritten.is

  free_set : (q : ℕ) → IsTrue (is_free_slot set.space q) → IsTrue (is_free_slot land.space q) ⊎ (q ≡ at)
  free_set q free = owned.freed q (subst (λ (h : Holding). IsTrue (is_free_slot h q)) space_is free)

  -- where it stands was free, or was the leaf itself
  now_was : (now ≡ at) ⊎ IsTrue (is_free_slot land.space now)
  now_was = elim owned.same [ inl kept ↦ inl kept.1 | inr copied ↦ inr copied.1 ]

  among : (q : ℕ) → ReachesInstead (told end.blocks.draft history) 0 instead q
      → (q ≡ now) ⊎ IsTrue (is_free_slot set.space q)
  unfolding Reaches
  among q reaches = elim parts [
    | inl one ↦ elim (subst (λ (i : Instead). ReachesInstead (told end.blocks.draft history) 0 i q) one.instead_is
        reaches) [ inl here ↦ inl here | inr none ↦ absurd none ]
    | inr two ↦ elim (subst (λ (i : Instead). ReachesInstead (told end.blocks.draft history) 0 i q) two.instead_is
        reaches) [
          | inl here ↦ inl here
          | inr behind ↦ inr (ap (is_free_slot set.space) behind ∙ two.makes.puts.free)
        ]
  ]

  reach : (q : ℕ) → ReachesInstead (told end.blocks.draft history) 0 instead q
      → Reaches (told land.blocks.draft history) 0 at q ⊎ IsTrue (is_free_slot land.space q)
  unfolding Reaches
  reach q reaches = elim (among q reaches) [
    | inl here ↦ elim now_was [
      | inl same ↦ inl (here ∙ same)
      | inr free ↦ inr (ap (is_free_slot land.space) here ∙ free)
    ]
    | inr free ↦ elim (free_set q free) [ inl was ↦ inr was | inr same ↦ inl same ]
  ]

  others : (disk : History) (q : ℕ) → (IsTrue (is_free_slot land.space q) → ⊥)
      → (Reaches (told land.blocks.draft history) 0 at q → ⊥)
      → told end.blocks.draft disk q ≡ told land.blocks.draft disk q
  unfolding Reaches
  others disk q not_free not_at =
      let not_now : q ≢ now = λ same. elim now_was [
        | inl is ↦ not_at (same ∙ is)
        | inr free ↦ not_free (ap (is_free_slot land.space) same ∙ free)
      ] in
      placed-told root.owner set end history mid.space.sizes.nodesize now (Leaf mine.0 (edited edit items)) instead
      parts disk q
      (λ free. elim (free_set q free) [ inl was ↦ not_free was | inr same ↦ not_at same ])
      ∙ rewritten-told mid set now owned.mine owned.here rewritten disk q not_now
      ∙ owned.others disk q not_now

  free_end : (q : ℕ) → IsTrue (is_free_slot end.space q) → IsTrue (is_free_slot set.space q)
  free_end = placed-free root.owner set end history last mid.space.sizes.nodesize now root.next
      (Leaf mine.0 (edited edit items)) instead drafted_set rests_end parts

  -- what stands there is taken
  taken : (q : ℕ) → IsTrue (is_free_slot end.space q) → ReachesInstead (told end.blocks.draft history) 0 instead q → ⊥
  unfolding Reaches
  taken q free reaches = elim parts [
    | inl one ↦ elim (subst (λ (i : Instead). ReachesInstead (told end.blocks.draft history) 0 i q) one.instead_is
        reaches) [
          | inl here ↦
              fresh-taken set root.next now cut.node drafted_set cut.here (ap (is_free_slot set.space) (sym here)
              ∙ free_end q free)
          | inr none ↦ none
        ]
    | inr two ↦ elim (subst (λ (i : Instead). ReachesInstead (told end.blocks.draft history) 0 i q) two.instead_is
        reaches) [
          | inl here ↦ fresh-taken set root.next now cut.node drafted_set cut.here
              (ap (is_free_slot set.space) (sym here)
              ∙ free_end q free)
          | inr behind ↦ fresh-taken end root.next two.more (node_at two.more (with_owner root.owner two.other))
              rests_end.drafted two.makes.puts.here (ap (is_free_slot end.space) (sym behind) ∙ free)
        ]
  ]

  pub leaf-edited : IsPartEdited tree root land end history 0 at edit items instead
  leaf-edited = record {
    items_new = edited edit items;
    edits = record {
      front = [];
      leaf = items;
      back = [];
      old_are = sym (append-nil items);
      new_are = sym (append-nil (edited edit items));
      less = refl;
      greater = refl;
    };
    first = λ least. sym (first-alone (told land.blocks.draft history) at top_is.0 items top_is.1);
    holds = leaf-holds tree (super_of root land.blocks.draft) set end history mid.space.sizes.nodesize now mine.0
        (edited edit items) instead mine.2 root.owner makes.owner
        (drafted.sizes.nodesize ∙ sym (ap (λ (s : _). s.nodesize) rests.sizes)) parts;
    reach = reach;
    others = others;
    freed = λ q free. elim (free_set q (free_end q free)) [
      | inl was ↦ inl was
      | inr same ↦ inr (subst (λ (a : ℕ). Reaches (told land.blocks.draft history) 0 at a) (sym same)
          (reach-top (told land.blocks.draft history) 0 at))
    ];
    free = taken;
  }

  -- ---- what a book is told

  Old : ℕ → Type 0
  Old q = Reaches (told land.blocks.draft history) 0 at q

  -- the rest was made behind the leaf
  rest_told : (nodes clean : ℕ → Option Node)
      → IsTold set nodes clean (λ q. ⊥) (λ q. one now q) (ways_instead (told end.blocks.draft history) 0 instead) 1 0 1
      (tellings_made instead.more)
  rest_told nodes clean = elim parts [
    | inl one_leaf ↦
        subst (λ (i : Instead). IsTold set nodes clean (λ q. ⊥) (λ q. one now q)
        (ways_instead (told end.blocks.draft history) 0 i) 1 0 1 (tellings_made i.more)) (sym one_leaf.instead_is)
        (told-more set nodes clean (λ q. ⊥) (λ q. one now q)
        (ways_instead (told end.blocks.draft history) 0 (alone now)) 0 0 0 1 0 1 [] (omega arith) (omega arith)
        (omega arith)
        (told-none set nodes clean (λ q. ⊥) (λ q. one now q)
        (ways_instead (told end.blocks.draft history) 0 (alone now))
        (λ q. let a = ways-leaf (told end.blocks.draft history) now q in omega (arith, a))))
    | inr two ↦
        subst (λ (i : Instead). IsTold set nodes clean (λ q. ⊥) (λ q. one now q)
        (ways_instead (told end.blocks.draft history) 0 i) 1 0 1 (tellings_made i.more)) (sym two.instead_is)
        (told-made set nodes clean (λ q. ⊥) (λ q. one now q)
        (ways_instead (told end.blocks.draft history) 0 (record { now = now; more = Some two.more })) two.more
        two.makes.puts.free
        (one-other now two.more two.differ) (λ q.
        let a = ways-leaf (told end.blocks.draft history) now q in
        let b = ways-leaf (told end.blocks.draft history) two.more q in
        omega (arith, a, b)))
  ]

  -- the leaf was owned
  own_told : (nodes clean : ℕ → Option Node) → AreCommitted land history clean
      → (fresh_at land.blocks.draft at ≡ None → nodes at ≡ told land.blocks.draft history at)
      → IsTold land nodes clean Old (ways (told land.blocks.draft history) 0 at) (λ q. one now q) 1 0 0
      (tellings_owned owned.node at now)
  unfolding Old
  own_told nodes clean committed same =
      told-same land nodes clean Old (ways (told land.blocks.draft history) 0 at)
      (ways (told land.blocks.draft history) 0 at) (ways (told mid.blocks.draft history) 0 now)
      (λ q. one now q) 1 0 0
      (tellings_owned owned.node at now) (λ q. refl) (λ q. sym (ways-leaf (told mid.blocks.draft history) now q))
      (owned-told tree root land mid history expected at now owned makes 0 items
      (top tree root land mid history expected at now edit items owned makes fit) fit.apart nodes clean committed
      same)

  set_within : (q : ℕ) → IsTrue (is_free_slot set.space q) ⊎ ⊥ → IsTrue (is_free_slot land.space q) ⊎ Old q
  unfolding Old Reaches
  set_within q (inl free) = free_set q free
  set_within q (inr none) = absurd none

  held_set : set.space.held_slots ≡ land.space.held_slots
  held_set = ap (λ (h : Holding). h.held_slots) space_is ∙ rests.held_slots

  pub leaf-told : IsPartTold land end history 0 at instead (tellings_owned owned.node at now
      ++ tellings_made instead.more)
  unfolding Old
  leaf-told nodes clean same committed =
      let before = ways (told land.blocks.draft history) 0 at in
      let after = ways_instead (told end.blocks.draft history) 0 instead in
      let made = told-within land nodes clean Old set (λ q. ⊥) (λ q. one now q) after 1 0 1 (tellings_made instead.more)
      held_set set_within (rest_told nodes clean) in
      told-more land nodes clean Old before after 2 0 1 2 1 1 (tellings_owned owned.node at now
      ++ tellings_made instead.more) (omega arith) (omega arith) (omega arith)
      (told-append land nodes clean Old before (λ q. one now q) after 1 0 0 1 0 1 (tellings_owned owned.node at now)
      (tellings_made instead.more)
      (own_told nodes clean committed (same at (reach-top (told land.blocks.draft history) 0 at))) made)

pub header-with_items : (node : Node) (items : List Item) → header_of (with_items node items) ≡ header_of node
header-with_items (Leaf header old) items = refl
header-with_items (Inner header pointers) items = refl
