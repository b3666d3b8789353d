-- A child was edited, the pointers of its node were set, and what was cut off got a place of its own: what stands in
-- the place of the node.
use Rattle.std.proofs.Common.{◌≡◌, ◌≢◌, ◌⊎◌, ℕ, zero, suc, ◌+◌, ◌-◌, ◌*◌, List, [], ◌∷◌, ◌++◌, take, drop, arith, refl}
use Rattle.std.proofs.Common.{sym, ap, subst, ◌∙◌, append-nil, inl, inr, Option, Some, None}
use Rattle.std.specs.Prelude.{IsTrue, Contains, slice_get}
use Rattle.qg_device.specs.History.{History, Unrecorded}
use Rattle.qg_node.specs.declared.item.Item.{Item}
use Rattle.qg_node.specs.declared.pointer.Pointer.{Pointer}
use Rattle.qg_node.specs.declared.node.Header.{Header}
use Rattle.qg_node.specs.declared.node.Node.{Node}
use Rattle.qg_node.specs.declared.node.Node.TheVariants.{Leaf, Inner}
use Rattle.qg_node.specs.Nodes.{header_of, own_pointers}
use Rattle.qg_super.specs.declared.superblock.Super.{Super}
use Rattle.qg_image.specs.declared.expected.Expected.{Expected}
use Rattle.qg_image.specs.declared.tree.TreeKind.{TreeKind}
use Rattle.qg_image.specs.Walk.{is_generation, is_owner}
use Rattle.qg_blocks.specs.NodesFound.{fresh_at, told}
use Rattle.qg_space.specs.Holding.{is_free_slot}
use Rattle.qg_shape.specs.Filled.{IsFilled}
use Rattle.qg_shape.specs.Parts.{AreAlike, whole_of}
use Rattle.qg_node_alloc.specs.declared.ground.Ground.{Ground}
use Rattle.qg_node_alloc.specs.Changes.{Makes, node_at}
use Rattle.qg_node_alloc.specs.Land.{Rests}
use Rattle.qg_node_alloc.specs.Tellings.{Telling}
use Rattle.qg_node_alloc.proofs.Lands.{fresh_at-told, told-fresh_at}
use Rattle.qg_node_alloc.proofs.Slots.{free-less, taken-more}
use Rattle.qg_edit.specs.declared.edit.Edit.{Edit}
use Rattle.qg_tree_edits.specs.declared.instead.Instead.{Instead}
use Rattle.qg_tree_read.specs.Tree.{Reaches, Root, super_for, super_of}
use Rattle.qg_tree_read.specs.Branch.{AreBranches, IsBranch, IsMember, IsPointed}
use Rattle.qg_tree_edits.specs.First.{first_leaf, least}
use Rattle.qg_tree_edits.specs.Editing.{CanMake, FillsThere, HoldInstead, IsCutThere, IsLeafEdited, IsOwned}
use Rattle.qg_tree_edits.specs.Editing.{IsPartEdited, IsPartFit, IsPlacedBehind, IsSettled, IsUnsettled, KeepsAbove}
use Rattle.qg_tree_edits.specs.Editing.{ReachesBeside, ReachesEach, ReachesInstead, ReachesParts, slots_for, with_owner}
use Rattle.qg_tree_edits.specs.Counting.{AreCommitted, IsPartTold, IsSettledTold, IsTold, TellSame, one, tellings_made}
use Rattle.qg_tree_edits.specs.Counting.{tellings_owned, ways, ways_each, ways_instead, ways_parts}
use Rattle.qg_tree_edits.proofs.Around.{IsAround}
use Rattle.qg_tree_read.proofs.Branches.{each-append, each-get}
use Rattle.qg_tree_read.proofs.BranchFrames.{branches-same, reach-same, reach-top}
use Rattle.qg_tree_read.proofs.BranchWalk.{branch-under}
use Rattle.qg_tree_edits.proofs.Committed.{committed-after, committed-none, committed-told}
use Rattle.qg_tree_edits.proofs.Downward.{IsClosed, each-closed, one-closed, plus-closed}
use Rattle.qg_tree_edits.proofs.Leading.{not-above}
use Rattle.qg_tree_edits.proofs.OwnedBranch.{owned-branch, owned-reach}
use Rattle.qg_tree_edits.proofs.OwnedTold.{owned-told}
use Rattle.qg_tree_edits.proofs.Placed.{KeepsFresh-put, fresh-taken}
use Rattle.qg_tree_edits.proofs.PlacedTold.{placed-few, told-made}
use Rattle.qg_tree_edits.proofs.Reached.{parts-reached, ways-reached}
use Rattle.qg_tree_edits.proofs.Served.{slots-most}
use Rattle.qg_tree_edits.proofs.Spliced.{drop-get, take-get}
use Rattle.qg_tree_edits.proofs.Turning.{told-apart, told-append, told-come, told-more, told-none, told-same}
use Rattle.qg_tree_edits.proofs.Turning.{told-within}
use Rattle.qg_tree_edits.proofs.Ways.{one-other, ways-inner, ways_each-append, ways_each-at, ways_each-none}
use Rattle.qg_tree_edits.proofs.Ways.{ways_each-same}

-- ---- a part that is fit for an edit

-- these are the items under it
pub fit-branch : (tree : TreeKind) (root : Root) (land : Ground) (history : History) (level : ℕ)
    (expected : Expected) (at : ℕ) (edit : Edit) (items : List Item)
    → IsPartFit tree root land history level expected at edit items
    → IsBranch tree (super_of root land.blocks.draft) (told land.blocks.draft history) level at items
fit-branch tree root land history level expected at edit items fit =
    branch-under tree (super_of root land.blocks.draft) (told land.blocks.draft history) level expected at items
    (record { levelled = fit.levelled; walked = fit.walked; items_are = fit.items_are })

-- ---- a node with pointers that was cut

-- both parts by their pointers
parts_inner : (c d : Node) (header : Header) (pointers : List Pointer) → AreAlike c d
    → whole_of c d ≡ Inner header pointers
    → (first : List Pointer) × (second : List Pointer) × (c ≡ Inner header first) × (d ≡ Inner (header_of d) second)
    × (pointers ≡ first ++ second)
parts_inner (Inner h first) (Inner h' second) header pointers alike whole = (first, second, cc, refl, cc)
parts_inner (Inner h first) (Leaf h' second) header pointers alike whole = absurd alike
parts_inner (Leaf h first) d header pointers alike whole = absurd cc

front_get : {A : Type 0} (xs ys : List A) (i : ℕ) (x : A) → slice_get xs i ≡ Some x → slice_get (xs ++ ys) i ≡ Some x
front_get [] ys i x is = absurd cc
front_get (z ∷ xs) ys zero x is = is
front_get (z ∷ xs) ys (suc i) x is = front_get xs ys i x is

back_get : {A : Type 0} (xs ys : List A) (i : ℕ) (x : A) → slice_get ys i ≡ Some x
    → (k : ℕ) × (slice_get (xs ++ ys) k ≡ Some x)
back_get [] ys i x is = (i, is)
back_get (z ∷ xs) ys i x is = let later = back_get xs ys i x is in (suc later.0, later.1)

-- the rest is a node that the tree may have where the whole is, by an owner that its nodes may have
member_at : (tree : TreeKind) (super : Super) (level owner : ℕ) (header other : Header) (address : ℕ)
    → other ≡ record header { owner = owner } → IsTrue (is_owner tree owner)
    → IsMember tree super level header → IsMember tree super level (record other { address = address })
member_at tree super level owner header other address same may member = record {
  levelled = ap (λ (h : Header). h.level) same ∙ member.levelled;
  owned = ap (λ (h : Header). is_owner tree h.owner) same ∙ may;
  dated = ap (λ (h : Header). is_generation super.generation None h.generation) same ∙ member.dated;
}

-- how full it is does not depend on its header
filled_at : (nodesize : ℕ) (header other : Header) (pointers : List Pointer) → IsFilled nodesize (Inner header pointers)
    → IsFilled nodesize (Inner other pointers)
filled_at nodesize header other pointers filled = record { fits = filled.fits; full = filled.full }

-- what is reached from a node with these pointers is its own address, or is reached from one of them
reach_each : (nodes : ℕ → Option Node) (level at : ℕ) (header : Header) (pointers : List Pointer)
    → nodes at ≡ Some (Inner header pointers) → (q : ℕ) → Reaches nodes (suc level) at q
    → (q ≡ at) ⊎ ReachesEach nodes level pointers q
unfolding Reaches
reach_each nodes level at header pointers is q (inl same) = inl same
reach_each nodes level at header pointers is q (inr (node, here, i, p, at_i, reaches)) =
    let one : Some node ≡ Some (Inner header pointers) = sym here ∙ is in
    let same : node ≡ Inner header pointers = cc in
    inr (i, p, subst (λ (n : Node). slice_get (own_pointers n) i ≡ Some p) same at_i, reaches)

-- ---- what became of it

-- nothing was cut off
record IsInOne (set end : Ground) (now : ℕ) (instead : Instead) (header : Header) (pointers : List Pointer) : Type
    0 where
  instead_is : instead ≡ record { now = now; more = None }
  same : end ≡ set
  here : fresh_at set.blocks.draft now ≡ Some (Inner header pointers)

-- what was cut off was made a node behind it, with this owner
record AreInTwo (nodesize owner : ℕ) (set end : Ground) (now : ℕ) (instead : Instead) (header : Header)
    (pointers : List Pointer) : Type 0 where
  more : ℕ
  instead_is : instead ≡ record { now = now; more = Some more }
  other : Header
  first : List Pointer
  second : List Pointer
  pointers_are : pointers ≡ first ++ second
  here : fresh_at set.blocks.draft now ≡ Some (Inner header first)
  made : Makes set end more (Inner other second)
  alike : other ≡ record header { owner = owner }
  filled : IsFilled nodesize (Inner header first)
  rest_filled : IsFilled nodesize (Inner other second)

ends_as : (nodesize owner : ℕ) (set end : Ground) (now : ℕ) (rest : Option Node) (instead : Instead) (header : Header)
    (pointers new : List Pointer)
    → IsCutThere nodesize set now (Inner header pointers) (Inner header new) rest
    → IsPlacedBehind owner set end now rest instead
    → IsInOne set end now instead header new ⊎ AreInTwo nodesize owner set end now instead header new
ends_as nodesize owner set end now None instead header pointers new cut placed = inl (record {
  instead_is = placed.0;
  same = placed.1;
  here = cut.here ∙ ap (λ (n : Node). Some n) cut.cut;
})
ends_as nodesize owner set end now (Some node) instead header pointers new cut placed =
    let parts = parts_inner cut.node node header new cut.cut.alike cut.cut.whole in
    inr (record {
      more = placed.0;
      instead_is = placed.1;
      other = record (header_of node) { owner = owner };
      first = parts.0;
      second = parts.1;
      pointers_are = parts.4;
      here = cut.here ∙ ap (λ (n : Node). Some n) parts.2;
      made = subst (λ (n : Node). Makes set end placed.0 (with_owner owner n)) parts.3 placed.2;
      alike = ap (λ (h : Header). record h { owner = owner }) cut.cut.header;
      filled = subst (λ (n : Node). IsFilled nodesize n) parts.2 cut.cut.front_filled;
      rest_filled = filled_at nodesize (header_of node) (record (header_of node) { owner = owner }) parts.1
          (subst (λ (n : Node). IsFilled nodesize n) parts.3 cut.cut.rest_filled);
    })

module _ (tree : TreeKind) (root : Root) (land mid low set end : Ground)
    (history own_later child_later set_later end_later : History) (level : ℕ) (expected : Expected)
    (at now : ℕ) (edit : Edit)
    (place : ℕ) (pointers : List Pointer) (front mine back items items_new : List Item) (pointer : Pointer)
    (child_at : ℕ) (child : Instead) (header : Header) (rest : Option Node) (instead : Instead)
    (branch : IsBranch tree (super_of root land.blocks.draft) (told land.blocks.draft history) (suc level) at items)
    (unreached : (q : ℕ) → IsTrue (is_free_slot land.space q)
    → Reaches (told land.blocks.draft history) (suc level) at q → ⊥)
    (makes : CanMake tree root) (owned : IsOwned tree root land mid history expected at now)
    (around : IsAround tree root mid history level now expected.to place edit.key pointers front mine back items)
    (there : slice_get pointers place ≡ Some pointer) (leads : child_at ≡ pointer.child)
    (child_edited : IsPartEdited tree root mid low history level child_at edit mine child)
    (edits : IsLeafEdited edit items items_new)
    (first : edit.key ≡ least → edits.leaf ≡ first_leaf (told land.blocks.draft history) (suc level) at)
    (member : IsMember tree (super_of root low.blocks.draft) (suc level) header)
    (settled : IsSettled tree root low set history level now place child pointers header items_new rest)
    (placed : IsPlacedBehind root.owner set end now rest instead)
    (own_rests : Rests land mid own_later root.next) (child_rests : Rests mid low child_later root.next)
    (set_rests : Rests low set set_later root.next) (end_rests : Rests set end end_later root.next) where
  -- an address was reached before, or was free
  Old : ℕ → Type 0
  Old q = Reaches (told land.blocks.draft history) (suc level) at q ⊎ IsTrue (is_free_slot land.space q)

  -- ---- up to where the pointers are set

  now_old : (q : ℕ) → q ≡ now → Old q
  unfolding Old
  now_old q same = elim owned.same [
    | inl kept ↦ inl (subst (λ (a : ℕ). Reaches (told land.blocks.draft history) (suc level) at a) (sym (same ∙ kept.1))
        (reach-top (told land.blocks.draft history) (suc level) at))
    | inr copied ↦ inr (subst (λ (a : ℕ). IsTrue (is_free_slot land.space a)) (sym same) copied.1)
  ]

  mid_old : (q : ℕ) → IsTrue (is_free_slot mid.space q) → Old q
  unfolding Old
  mid_old q free = elim (owned.freed q free) [
    | inl was ↦ inr was
    | inr same ↦ inl (subst (λ (a : ℕ). Reaches (told land.blocks.draft history) (suc level) at a) (sym same)
        (reach-top (told land.blocks.draft history) (suc level) at))
  ]

  below_now : (i : ℕ) (p : Pointer) → slice_get pointers i ≡ Some p → (q : ℕ)
      → Reaches (told mid.blocks.draft history) level p.child q
      → Reaches (told mid.blocks.draft history) (suc level) now q
  unfolding Reaches
  below_now i p is q reaches =
      inr (
        Inner around.header pointers,
        told-fresh_at mid.blocks.draft history now (Inner around.header pointers)
            around.here,
        i,
        p,
        is,
        reaches,
      )

  each_old : (i : ℕ) (p : Pointer) → slice_get pointers i ≡ Some p → (q : ℕ)
      → Reaches (told mid.blocks.draft history) level p.child q → Old q
  unfolding Old
  each_old i p is q reaches =
      elim (owned-reach tree root land mid history expected at now owned makes (suc level) items branch unreached q
      (below_now i p is q reaches)) [
        | inl same ↦ now_old q same
        | inr below ↦ inl below.0
      ]

  child_old : (q : ℕ) → Reaches (told mid.blocks.draft history) level child_at q → Old q
  child_old q reaches = each_old place pointer there q
      (subst (λ (a : ℕ). Reaches (told mid.blocks.draft history) level a q) leads reaches)

  -- the other children reach no more than before
  other_was : (i : ℕ) (p : Pointer) → i ≢ place → slice_get pointers i ≡ Some p → (q : ℕ)
      → Reaches (told low.blocks.draft history) level p.child q
      → Reaches (told mid.blocks.draft history) level p.child q
  other_was i p other is =
      reach-same (told mid.blocks.draft history) (told low.blocks.draft history) level p.child
      (λ r reaches. child_edited.others history r (λ free. around.free r free i p is reaches)
      (λ also. around.apart i place p pointer other is there r reaches
      (subst (λ (a : ℕ). Reaches (told mid.blocks.draft history) level a r) leads also)))

  parts_old : (q : ℕ) → ReachesParts (told low.blocks.draft history) level pointers place child q → Old q
  parts_old q (inl of_child) = elim (child_edited.reach q of_child) [
    | inl was ↦ child_old q was
    | inr free ↦ mid_old q free
  ]
  parts_old q (inr (i, p, other, is, reaches)) = each_old i p is q (other_was i p other is q reaches)

  low_old : (q : ℕ) → IsTrue (is_free_slot low.space q) → Old q
  low_old q free = elim (child_edited.freed q free) [ inl was ↦ mid_old q was | inr reaches ↦ child_old q reaches ]

  set_old : (q : ℕ) → IsTrue (is_free_slot set.space q) → Old q
  set_old q free = elim (settled.freed q free) [ inl was ↦ low_old q was | inr parts ↦ parts_old q parts ]

  new_old : (q : ℕ) → ReachesEach (told set.blocks.draft history) level settled.pointers_new q → Old q
  new_old q reaches = elim (settled.reach q reaches) [ inl parts ↦ parts_old q parts | inr free ↦ low_old q free ]

  set_others : (disk : History) (q : ℕ) → (Old q → ⊥)
      → told set.blocks.draft disk q ≡ told land.blocks.draft disk q
  set_others disk q not_old =
      settled.others disk q (λ same. not_old (now_old q same)) (λ free. not_old (low_old q free))
      (λ parts. not_old (parts_old q parts))
      ∙ child_edited.others disk q (λ free. not_old (mid_old q free)) (λ reaches. not_old (child_old q reaches))
      ∙ owned.others disk q (λ same. not_old (now_old q same))

  -- ---- sizes

  size : low.blocks.draft.sizes.nodesize ≡ land.blocks.draft.sizes.nodesize
  size = ap (λ (s : _). s.nodesize) (child_rests.node_sizes ∙ own_rests.node_sizes)

  size_low : low.space.sizes.nodesize ≡ land.blocks.draft.sizes.nodesize
  size_low = sym child_rests.drafted.sizes.nodesize ∙ size

  member_then : IsMember tree (super_of root land.blocks.draft) (suc level) header
  member_then = subst (λ (n : ℕ). IsMember tree (super_for root.next n) (suc level) header) size member

  branches_set : AreBranches tree (super_of root land.blocks.draft) (told set.blocks.draft history) level
      settled.pointers_new items_new
  branches_set = subst (λ (n : ℕ). AreBranches tree (super_for root.next n) (told set.blocks.draft history) level
      settled.pointers_new items_new) size settled.branches

  -- ---- whichever became of the node

  ends : IsInOne set end now instead header settled.pointers_new
      ⊎ AreInTwo low.space.sizes.nodesize root.owner set end now instead header settled.pointers_new
  ends = ends_as low.space.sizes.nodesize root.owner set end now rest instead header pointers settled.pointers_new
      settled.cut placed

  end_free : (q : ℕ) → IsTrue (is_free_slot end.space q) → IsTrue (is_free_slot set.space q)
  end_free q free = elim ends [
    | inl one ↦ subst (λ (g : Ground). IsTrue (is_free_slot g.space q)) one.same free
    | inr two ↦
        free-less set.space end.space q end_rests.sizes end_rests.held_slots
        (λ has. subst (λ (ns : List ℕ). Contains ns q) (sym two.made.slots) (taken-more two.more set.space.slots q has))
        free
  ]

  more_old : (two : AreInTwo low.space.sizes.nodesize root.owner set end now instead header settled.pointers_new)
      → (q : ℕ) → q ≡ two.more → Old q
  more_old two q same = set_old q (subst (λ (a : ℕ). IsTrue (is_free_slot set.space a)) (sym same) two.made.puts.free)

  end_others : (disk : History) (q : ℕ) → (Old q → ⊥)
      → told end.blocks.draft disk q ≡ told set.blocks.draft disk q
  end_others disk q not_old = elim ends [
    | inl one ↦ ap (λ (g : Ground). told g.blocks.draft disk q) one.same
    | inr two ↦ two.made.puts.others disk q (λ same. not_old (more_old two q same))
  ]

  -- one of the nodes that stand there
  Top : ℕ → Type 0
  Top q = Old q × ((node : Node) × (fresh_at end.blocks.draft q ≡ Some node))

  now_top : (node : Node) → fresh_at end.blocks.draft now ≡ Some node → (q : ℕ) → q ≡ now → Top q
  unfolding Top
  now_top node here q same = (now_old q same, (node, ap (λ (a : ℕ). fresh_at end.blocks.draft a) same ∙ here))

  -- ---- nothing was cut off

  module _ (one : IsInOne set end now instead header settled.pointers_new) where
    one_here : fresh_at end.blocks.draft now ≡ Some (Inner header settled.pointers_new)
    one_here = ap (λ (g : Ground). fresh_at g.blocks.draft now) one.same ∙ one.here

    one_told : told end.blocks.draft history now ≡ Some (Inner header settled.pointers_new)
    one_told = told-fresh_at end.blocks.draft history now (Inner header settled.pointers_new) one_here

    one_from : (q : ℕ) → Reaches (told end.blocks.draft history) (suc level) now q
        → Top q ⊎ ReachesEach (told set.blocks.draft history) level settled.pointers_new q
    one_from q reaches = elim (reach_each (told end.blocks.draft history) level now header settled.pointers_new one_told
        q reaches) [
          | inl same ↦ inl (now_top (Inner header settled.pointers_new) one_here q same)
          | inr each ↦ inr (subst (λ (g : Ground). ReachesEach (told g.blocks.draft history) level settled.pointers_new
              q)
              one.same each)
        ]

    one_branch : IsBranch tree (super_of root land.blocks.draft) (told end.blocks.draft history)
        (suc level) now items_new
    unfolding IsBranch
    one_branch = (
      header,
      settled.pointers_new,
      one_told,
      member_then,
      subst (λ (g : Ground). AreBranches tree (super_of root land.blocks.draft) (told g.blocks.draft history) level
          settled.pointers_new items_new) (sym one.same) branches_set,
    )

    one_holds : HoldInstead tree (super_of root land.blocks.draft) (told end.blocks.draft history)
        (suc level) instead items_new
    one_holds = subst (λ (i : Instead). HoldInstead tree (super_of root land.blocks.draft)
        (told end.blocks.draft history) (suc level) i items_new) (sym one.instead_is) (record {
          mine = items_new;
          rest = [];
          items_are = sym (append-nil items_new);
          here = one_branch;
          behind = refl;
        })

  -- ---- it was cut in two

  module _ (two : AreInTwo low.space.sizes.nodesize root.owner set end now instead header settled.pointers_new) where
    first_here : fresh_at end.blocks.draft now ≡ Some (Inner header two.first)
    first_here =
        KeepsFresh-put set end root.next two.more (node_at two.more (Inner two.other two.second)) set_rests.drafted
        two.made.puts now (Inner header two.first) two.here

    first_told : told end.blocks.draft history now ≡ Some (Inner header two.first)
    first_told = told-fresh_at end.blocks.draft history now (Inner header two.first) first_here

    second_told : told end.blocks.draft history two.more
        ≡ Some (Inner (record two.other { address = two.more }) two.second)
    second_told = told-fresh_at end.blocks.draft history two.more
        (Inner (record two.other { address = two.more }) two.second) two.made.puts.here

    more_top : (q : ℕ) → q ≡ two.more → Top q
    unfolding Top
    more_top q same = (
      more_old two q same,
      (
        Inner (record two.other { address = two.more }) two.second,
        ap
            (λ (a : ℕ). fresh_at end.blocks.draft a) same ∙ two.made.puts.here,
      ),
    )

    -- what the pointers reach is told as before
    new_stays : (i : ℕ) (p : Pointer) → slice_get settled.pointers_new i ≡ Some p → (q : ℕ)
        → Reaches (told set.blocks.draft history) level p.child q
        → told end.blocks.draft history q ≡ told set.blocks.draft history q
    new_stays i p is q reaches =
        two.made.puts.others history q
        (λ same. settled.free q (subst (λ (a : ℕ). IsTrue (is_free_slot set.space a)) (sym same) two.made.puts.free)
        (i, p, is, reaches))

    new_was : (i : ℕ) (p : Pointer) → slice_get settled.pointers_new i ≡ Some p → (q : ℕ)
        → Reaches (told end.blocks.draft history) level p.child q
        → ReachesEach (told set.blocks.draft history) level settled.pointers_new q
    new_was i p is q reaches = (
      i,
      p,
      is,
      reach-same (told set.blocks.draft history) (told end.blocks.draft history) level p.child
          (new_stays i p is) q reaches,
    )

    first_new : (q : ℕ) → ReachesEach (told end.blocks.draft history) level two.first q
        → ReachesEach (told set.blocks.draft history) level settled.pointers_new q
    first_new q (i, p, is, reaches) =
        new_was i p (subst (λ (ps : List Pointer). slice_get ps i ≡ Some p) (sym two.pointers_are)
        (front_get two.first two.second i p is)) q reaches

    second_new : (q : ℕ) → ReachesEach (told end.blocks.draft history) level two.second q
        → ReachesEach (told set.blocks.draft history) level settled.pointers_new q
    second_new q (i, p, is, reaches) =
        let found = back_get two.first two.second i p is in
        new_was found.0 p (subst (λ (ps : List Pointer). slice_get ps found.0 ≡ Some p) (sym two.pointers_are) found.1)
        q reaches

    first_from : (q : ℕ) → Reaches (told end.blocks.draft history) (suc level) now q
        → Top q ⊎ ReachesEach (told set.blocks.draft history) level settled.pointers_new q
    first_from q reaches = elim (reach_each (told end.blocks.draft history) level now header two.first first_told q
        reaches) [
          | inl same ↦ inl (now_top (Inner header two.first) first_here q same)
          | inr each ↦ inr (first_new q each)
        ]

    second_from : (q : ℕ) → Reaches (told end.blocks.draft history) (suc level) two.more q
        → Top q ⊎ ReachesEach (told set.blocks.draft history) level settled.pointers_new q
    second_from q reaches = elim (reach_each (told end.blocks.draft history) level two.more
        (record two.other { address = two.more }) two.second second_told q reaches) [
          | inl same ↦ inl (more_top q same)
          | inr each ↦ inr (second_new q each)
        ]

    two_split : (a : List Item) × (b : List Item) × (items_new ≡ a ++ b)
        × AreBranches tree (super_of root land.blocks.draft) (told end.blocks.draft history) level two.first a
        × AreBranches tree (super_of root land.blocks.draft) (told end.blocks.draft history) level two.second b
    two_split =
        let whole = branches-same tree (super_of root land.blocks.draft) (told set.blocks.draft history)
        (told end.blocks.draft history) level settled.pointers_new items_new branches_set new_stays in
        each-append (λ (p : Pointer) (xs : List Item). IsPointed (super_of root land.blocks.draft)
        (told end.blocks.draft history) p
        × IsBranch tree (super_of root land.blocks.draft) (told end.blocks.draft history) level p.child xs) two.first
        two.second items_new
        (subst (λ (ps : List Pointer). AreBranches tree (super_of root land.blocks.draft)
        (told end.blocks.draft history) level ps items_new) two.pointers_are whole)

    first_branch : IsBranch tree (super_of root land.blocks.draft) (told end.blocks.draft history)
        (suc level) now two_split.0
    unfolding IsBranch
    first_branch = (header, two.first, first_told, member_then, two_split.3)

    second_branch : IsBranch tree (super_of root land.blocks.draft) (told end.blocks.draft history)
        (suc level) two.more two_split.1
    unfolding IsBranch
    second_branch = (
      record two.other { address = two.more },
      two.second,
      second_told,
      member_at tree (super_of root land.blocks.draft) (suc level) root.owner header two.other two.more two.alike
          makes.owner member_then,
      two_split.4,
    )

    first_fills : FillsThere land.blocks.draft.sizes.nodesize (told end.blocks.draft history) now
    first_fills = record {
      node = Inner header two.first;
      there = first_told;
      filled = subst (λ (n : ℕ). IsFilled n (Inner header two.first)) size_low two.filled;
    }

    second_fills : FillsThere land.blocks.draft.sizes.nodesize (told end.blocks.draft history) two.more
    second_fills = record {
      node = Inner (record two.other { address = two.more }) two.second;
      there = second_told;
      filled = subst (λ (n : ℕ). IsFilled n (Inner (record two.other { address = two.more }) two.second)) size_low
          (filled_at low.space.sizes.nodesize two.other (record two.other { address = two.more }) two.second
          two.rest_filled);
    }

    two_hold : HoldInstead tree (super_of root land.blocks.draft) (told end.blocks.draft history)
        (suc level) instead items_new
    two_hold = subst (λ (i : Instead). HoldInstead tree (super_of root land.blocks.draft)
        (told end.blocks.draft history) (suc level) i items_new) (sym two.instead_is) (record {
          mine = two_split.0;
          rest = two_split.1;
          items_are = two_split.2;
          here = first_branch;
          behind = (second_branch, first_fills, second_fills);
        })

  -- ---- what stands in its place

  from_instead : (q : ℕ) → ReachesInstead (told end.blocks.draft history) (suc level) instead q
      → Top q ⊎ ReachesEach (told set.blocks.draft history) level settled.pointers_new q
  from_instead q reaches = elim ends [
    | inl one ↦ elim (subst (λ (i : Instead). ReachesInstead (told end.blocks.draft history) (suc level) i q)
        one.instead_is reaches) [
          | inl here ↦ one_from one q here
          | inr none ↦ absurd none
        ]
    | inr two ↦ elim (subst (λ (i : Instead). ReachesInstead (told end.blocks.draft history) (suc level) i q)
        two.instead_is reaches) [
          | inl here ↦ first_from two q here
          | inr behind ↦ second_from two q behind
        ]
  ]

  hold : HoldInstead tree (super_of root land.blocks.draft) (told end.blocks.draft history)
      (suc level) instead items_new
  hold = elim ends [ inl one ↦ one_holds one | inr two ↦ two_hold two ]

  reach : (q : ℕ) → ReachesInstead (told end.blocks.draft history) (suc level) instead q → Old q
  unfolding Top
  reach q reaches = elim (from_instead q reaches) [ inl top ↦ top.0 | inr each ↦ new_old q each ]

  others : (disk : History) (q : ℕ) → (Old q → ⊥)
      → told end.blocks.draft disk q ≡ told land.blocks.draft disk q
  others disk q not_old = end_others disk q not_old ∙ set_others disk q not_old

  freed : (q : ℕ) → IsTrue (is_free_slot end.space q) → Old q
  freed q free = set_old q (end_free q free)

  none_free : (q : ℕ) → IsTrue (is_free_slot end.space q)
      → ReachesInstead (told end.blocks.draft history) (suc level) instead q → ⊥
  unfolding Top
  none_free q free reaches = elim (from_instead q reaches) [
    | inl top ↦ fresh-taken end root.next q top.1.0 end_rests.drafted top.1.1 free
    | inr each ↦ settled.free q (end_free q free) each
  ]

  pub part-edited : IsPartEdited tree root land end history (suc level) at edit items instead
  unfolding Old
  part-edited = record {
    items_new = items_new;
    edits = edits;
    first = first;
    holds = hold;
    reach = reach;
    others = λ disk q not_free not_reached. others disk q (λ old. elim old [
      | inl reached ↦ not_reached reached
      | inr free ↦ not_free free
    ]);
    freed = λ q free. elim (freed q free) [ inl reached ↦ inr reached | inr was ↦ inl was ];
    free = none_free;
  }

  -- ---- what a book is told

  -- nothing below is the node
  below_apart : (i : ℕ) (p : Pointer) → slice_get pointers i ≡ Some p → (q : ℕ)
      → Reaches (told mid.blocks.draft history) level p.child q → q ≢ now
  unfolding IsBranch
  below_apart i p is =
      let whole = owned-branch tree root land mid history expected at now owned makes
      (suc level) items branch unreached in
      let there : Some (Inner whole.0 whole.1) ≡ Some (Inner around.header pointers) = sym whole.2
      ∙ told-fresh_at mid.blocks.draft history now (Inner around.header pointers) around.here in
      let same : whole.1 ≡ pointers = cc in
      let each = subst (λ (ps : List Pointer). AreBranches tree (super_of root land.blocks.draft)
      (told mid.blocks.draft history) level ps items) same whole.4 in
      let under = each-get (λ (r : Pointer) (xs : List Item). IsPointed (super_of root land.blocks.draft)
      (told mid.blocks.draft history) r
      × IsBranch tree (super_of root land.blocks.draft) (told mid.blocks.draft history) level r.child xs) pointers items
      each i p is in
      not-above tree (super_of root land.blocks.draft) mid history level now around.header pointers around.here
      around.member.levelled p.child under.0 under.2.1

  mid_taken : IsTrue (is_free_slot mid.space now) → ⊥
  mid_taken = fresh-taken mid root.next now (Inner around.header pointers) own_rests.drafted around.here

  child_apart : (q : ℕ) → Reaches (told mid.blocks.draft history) level child_at q → q ≢ now
  child_apart q reaches = below_apart place pointer there q
      (subst (λ (a : ℕ). Reaches (told mid.blocks.draft history) level a q) leads reaches)

  FromChild : ℕ → Type 0
  FromChild q = Reaches (told mid.blocks.draft history) level child_at q

  FromParts : ℕ → Type 0
  FromParts q = ReachesParts (told low.blocks.draft history) level pointers place child q

  FromTop : ℕ → Type 0
  FromTop q = Reaches (told land.blocks.draft history) (suc level) at q

  mid_now : (q : ℕ) → IsTrue (is_free_slot mid.space q) ⊎ FromChild q → q ≢ now
  unfolding FromChild
  mid_now q (inl free) same = mid_taken (ap (is_free_slot mid.space) (sym same) ∙ free)
  mid_now q (inr reaches) same = child_apart q reaches same

  low_now : (q : ℕ) → IsTrue (is_free_slot low.space q) ⊎ FromParts q → q ≢ now
  unfolding FromParts FromChild
  low_now q (inl free) = elim (child_edited.freed q free) [
    | inl was ↦ mid_now q (inl was)
    | inr reaches ↦ mid_now q (inr reaches)
  ]
  low_now q (inr (inl of_child)) = elim (child_edited.reach q of_child) [
    | inl was ↦ mid_now q (inr was)
    | inr free ↦ mid_now q (inl free)
  ]
  low_now q (inr (inr (i, p, other, is, reaches))) = below_apart i p is q (other_was i p other is q reaches)

  -- from the other children as many ways lead on as before
  other_same : (disk : History) (i : ℕ) (p : Pointer) → i ≢ place → slice_get pointers i ≡ Some p → (r : ℕ)
      → Reaches (told mid.blocks.draft history) level p.child r
      → told low.blocks.draft disk r ≡ told mid.blocks.draft disk r
  other_same disk i p other is r reaches =
      child_edited.others disk r (λ free. around.free r free i p is reaches)
      (λ also. around.apart i place p pointer other is there r reaches
      (subst (λ (a : ℕ). Reaches (told mid.blocks.draft history) level a r) leads also))

  other_stays : (i : ℕ) (p : Pointer) → i ≢ place → slice_get pointers i ≡ Some p → (r : ℕ)
      → Reaches (told mid.blocks.draft history) level p.child r
      → told low.blocks.draft history r ≡ told mid.blocks.draft history r
  other_stays = other_same history

  beside : ℕ → ℕ
  beside q = ways_each (told mid.blocks.draft history) level (take place pointers) q + ways_each
      (told mid.blocks.draft history) level (drop (place + 1) pointers) q

  beside_low : (q : ℕ) → ways_each (told low.blocks.draft history) level (take place pointers) q + ways_each
      (told low.blocks.draft history) level (drop (place + 1) pointers) q ≡ beside q
  unfolding beside
  beside_low q =
      let front = ways_each-same (told mid.blocks.draft history) (told low.blocks.draft history) level
      (take place pointers)
      (λ i p is. let found = take-get place pointers i p is in let low_index = found.0 in
      other_stays i p (λ same. omega (arith, low_index, same)) found.1) q in
      let back = ways_each-same (told mid.blocks.draft history) (told low.blocks.draft history) level
      (drop (place + 1) pointers)
      (λ i p is. let found = drop-get (place + 1) pointers i p is in let high = found.1 in
      other_stays found.0 p (λ same. omega (arith, high, same)) found.2) q in
      omega (arith, front, back)

  beside_none : (q : ℕ) → ((i : ℕ) (p : Pointer) → i ≢ place → slice_get pointers i ≡ Some p
      → Reaches (told mid.blocks.draft history) level p.child q → ⊥) → beside q ≡ 0
  unfolding beside
  beside_none q apart =
      let front = ways_each-none (told mid.blocks.draft history) level (take place pointers) q
      (λ i p is. let found = take-get place pointers i p is in let low_index = found.0 in
      apart i p (λ same. omega (arith, low_index, same)) found.1) in
      let back = ways_each-none (told mid.blocks.draft history) level (drop (place + 1) pointers) q
      (λ i p is. let found = drop-get (place + 1) pointers i p is in let high = found.1 in
      apart found.0 p (λ same. omega (arith, high, same)) found.2) in
      omega (arith, front, back)

  else_none : (q : ℕ) → IsTrue (is_free_slot mid.space q) ⊎ FromChild q → one now q + beside q ≡ 0
  unfolding FromChild
  else_none q from =
      let top = one-other now q (mid_now q from) in
      let rest_none = beside_none q (λ i p other is reaches. elim from [
        | inl free ↦ around.free q free i p is reaches
        | inr also ↦ around.apart i place p pointer other is there q reaches
            (subst (λ (a : ℕ). Reaches (told mid.blocks.draft history) level a q) leads also)
      ]) in
      omega (arith, top, rest_none)

  -- the node was owned
  first_ways : ℕ → ℕ
  first_ways q = ways (told mid.blocks.draft history) level child_at q + (one now q + beside q)

  first_are : (q : ℕ) → first_ways q ≡ ways (told mid.blocks.draft history) (suc level) now q
  unfolding first_ways beside
  first_are q =
      let top = ways-inner (told mid.blocks.draft history) level now around.header pointers
      (told-fresh_at mid.blocks.draft history now (Inner around.header pointers) around.here) q in
      let parts = ways_each-at (told mid.blocks.draft history) level pointers place pointer q there in
      let same = ap (λ (a : ℕ). ways (told mid.blocks.draft history) level a q) leads in
      omega (arith, top, parts, same)

  own_told : (nodes clean : ℕ → Option Node) → AreCommitted land history clean
      → (fresh_at land.blocks.draft at ≡ None → nodes at ≡ told land.blocks.draft history at)
      → IsTold land nodes clean FromTop (ways (told land.blocks.draft history) (suc level) at) first_ways 1 0 0
      (tellings_owned owned.node at now)
  unfolding FromTop
  own_told nodes clean committed same =
      let before = ways (told land.blocks.draft history) (suc level) at in
      told-same land nodes clean FromTop before before (ways (told mid.blocks.draft history) (suc level) now) first_ways
      1 0 0 (tellings_owned owned.node at now) (λ q. refl) first_are
      (owned-told tree root land mid history expected at now owned makes (suc level) items branch unreached nodes clean
      committed same)

  from_old : (q : ℕ) → Old q → IsTrue (is_free_slot land.space q) ⊎ FromTop q
  unfolding Old FromTop
  from_old q (inl reached) = inr reached
  from_old q (inr free) = inl free

  -- its child was edited
  child_within : (q : ℕ) → IsTrue (is_free_slot mid.space q) ⊎ FromChild q → IsTrue (is_free_slot land.space q)
      ⊎ FromTop q
  unfolding FromChild
  child_within q (inl free) = from_old q (mid_old q free)
  child_within q (inr reaches) = from_old q (child_old q reaches)

  parts_ways : ℕ → ℕ
  parts_ways q = ways_parts (told low.blocks.draft history) level pointers place child q + one now q

  parts_are : (q : ℕ) → parts_ways q ≡ ways_instead (told low.blocks.draft history) level child q
      + (one now q + beside q)
  unfolding parts_ways
  parts_are q = let same = beside_low q in omega (arith, same)

  -- nodes that tell the same as before, where none was fresh, tell the same of what is below
  TopSame : (ℕ → Option Node) → Type 0
  TopSame nodes = TellSame FromTop nodes land history

  below_same : (nodes : ℕ → Option Node) → TopSame nodes → (i : ℕ) (p : Pointer) → slice_get pointers i ≡ Some p
      → (q : ℕ) → Reaches (told mid.blocks.draft history) level p.child q → fresh_at mid.blocks.draft q ≡ None
      → nodes q ≡ told mid.blocks.draft history q
  unfolding TopSame FromTop
  below_same nodes same i p is q reaches none =
      elim (owned-reach tree root land mid history expected at now owned makes (suc level) items branch unreached q
      (below_now i p is q reaches)) [
        | inl here ↦ absurd (below_apart i p is q reaches here)
        | inr below ↦
            same q below.0 (sym (fresh_at-told land.blocks.draft mid.blocks.draft q
            (owned.others (Unrecorded 0) q (below_apart i p is q reaches))) ∙ none)
            ∙ sym (owned.others history q (below_apart i p is q reaches))
      ]

  child_same : (nodes : ℕ → Option Node) → TopSame nodes
      → TellSame (Reaches (told mid.blocks.draft history) level child_at) nodes mid history
  child_same nodes same q reaches =
      below_same nodes same place pointer there q
      (subst (λ (a : ℕ). Reaches (told mid.blocks.draft history) level a q) leads reaches)

  beside_same : (nodes : ℕ → Option Node) → TopSame nodes
      → TellSame (ReachesBeside (told low.blocks.draft history) level pointers place) nodes low history
  beside_same nodes same q (i, p, other, is, reaches) none =
      let was = other_was i p other is q reaches in
      below_same nodes same i p is q was
      (sym (fresh_at-told mid.blocks.draft low.blocks.draft q (other_same (Unrecorded 0) i p other is q was)) ∙ none)
      ∙ sym (other_stays i p other is q was)

  -- no clean node lies where it was owned, and what is counted besides leads on to nothing else
  mid_committed : (clean : ℕ → Option Node) → AreCommitted land history clean → AreCommitted mid history clean
  mid_committed clean committed = committed-after land mid history own_later root.next clean own_rests committed

  now_none : (clean : ℕ → Option Node) → AreCommitted land history clean → clean now ≡ None
  now_none clean committed = committed-none mid history clean (mid_committed clean committed) now
      (Inner around.header pointers) around.here

  under_each : (some : List Pointer) (under : List Item)
      → AreBranches tree (super_of root mid.blocks.draft) (told mid.blocks.draft history) level some under
      → (i : ℕ) (p : Pointer) → slice_get some i ≡ Some p
      → (below : List Item) × IsBranch tree (super_of root mid.blocks.draft) (told mid.blocks.draft history) level
      p.child below
  under_each some under each i p is =
      let found = each-get (λ (r : Pointer) (xs : List Item). IsPointed (super_of root mid.blocks.draft)
      (told mid.blocks.draft history) r
      × IsBranch tree (super_of root mid.blocks.draft) (told mid.blocks.draft history) level r.child xs) some under each
      i p is in
      (found.0, found.2.1)

  else_closed : (clean : ℕ → Option Node) → AreCommitted land history clean → IsClosed clean (λ q. one now q + beside q)
  unfolding beside
  else_closed clean committed =
      let there_told = committed-told mid history clean (mid_committed clean committed) in
      let map_mid = told mid.blocks.draft history in
      plus-closed clean (one now) (λ q. ways_each map_mid level (take place pointers) q + ways_each map_mid level
      (drop (place + 1) pointers) q)
      (one-closed clean now (now_none clean committed))
      (plus-closed clean (ways_each map_mid level (take place pointers))
      (ways_each map_mid level (drop (place + 1) pointers))
      (each-closed tree (super_of root mid.blocks.draft) map_mid clean there_told level (take place pointers)
      (under_each (take place pointers) front around.before))
      (each-closed tree (super_of root mid.blocks.draft) map_mid clean there_told level (drop (place + 1) pointers)
      (under_each (drop (place + 1) pointers) back around.after)))

  child_told : (nodes clean : ℕ → Option Node) → TopSame nodes → AreCommitted land history clean
      → (tellings : List Telling) → IsPartTold mid low history level child_at child tellings
      → IsTold land nodes clean FromTop first_ways parts_ways (2 * (level + 1)) (level + 1) (level + 1) tellings
  unfolding first_ways FromChild
  child_told nodes clean same committed tellings is =
      let before = ways (told mid.blocks.draft history) level child_at in
      let after = ways_instead (told low.blocks.draft history) level child in
      let more = λ (q : ℕ). one now q + beside q in
      let framed = told-apart mid nodes clean FromChild before after more (2 * (level + 1)) (level + 1)
      (level + 1) tellings (else_closed clean committed)
      (λ q some. else_none q (inr (ways-reached (told mid.blocks.draft history) level child_at q some))) else_none
      (is nodes clean (child_same nodes same) (mid_committed clean committed)) in
      told-same land nodes clean FromTop first_ways first_ways (λ q. after q + more q) parts_ways (2 * (level + 1))
      (level + 1) (level + 1) tellings (λ q. refl) parts_are
      (told-within land nodes clean FromTop mid FromChild first_ways (λ q. after q + more q) (2 * (level + 1))
      (level + 1) (level + 1) tellings own_rests.held_slots child_within framed)

  -- its pointers were set
  parts_within : (q : ℕ) → IsTrue (is_free_slot low.space q) ⊎ FromParts q → IsTrue (is_free_slot land.space q)
      ⊎ FromTop q
  unfolding FromParts
  parts_within q (inl free) = from_old q (low_old q free)
  parts_within q (inr parts) = from_old q (parts_old q parts)

  new_ways : ℕ → ℕ
  new_ways q = ways_each (told set.blocks.draft history) level settled.pointers_new q + one now q

  SetTold : (ℕ → Option Node) → (ℕ → Option Node) → List Telling → Type 0
  SetTold nodes clean tellings =
      IsTold low nodes clean (ReachesParts (told low.blocks.draft history) level pointers place child)
      (ways_parts (told low.blocks.draft history) level pointers place child)
      (ways_each (told set.blocks.draft history) level settled.pointers_new) (1 - slots_for rest) 1 0 tellings

  low_held : low.space.held_slots ≡ land.space.held_slots
  low_held = child_rests.held_slots ∙ own_rests.held_slots

  set_held : set.space.held_slots ≡ land.space.held_slots
  set_held = set_rests.held_slots ∙ low_held

  set_told : (nodes clean : ℕ → Option Node) → AreCommitted land history clean → (tellings : List Telling)
      → SetTold nodes clean tellings
      → IsTold land nodes clean FromTop parts_ways new_ways (1 - slots_for rest) 1 0 tellings
  unfolding parts_ways new_ways FromParts SetTold
  set_told nodes clean committed tellings is =
      let before = ways_parts (told low.blocks.draft history) level pointers place child in
      let after = ways_each (told set.blocks.draft history) level settled.pointers_new in
      let framed = told-apart low nodes clean FromParts before after (one now) (1 - slots_for rest) 1 0 tellings
      (one-closed clean now (now_none clean committed))
      (λ q some. one-other now q
      (low_now q (inr (parts-reached (told low.blocks.draft history) level pointers place child q some))))
      (λ q from. one-other now q (low_now q from)) is in
      told-within land nodes clean FromTop low FromParts (λ q. before q + one now q) (λ q. after q + one now q)
      (1 - slots_for rest) 1 0 tellings low_held parts_within framed

  -- what was cut off was made a node behind it
  set_within : (q : ℕ) → IsTrue (is_free_slot set.space q) ⊎ ⊥ → IsTrue (is_free_slot land.space q) ⊎ FromTop q
  set_within q (inl free) = from_old q (set_old q free)
  set_within q (inr none) = absurd none

  Ends : (ℕ → Option Node) → (ℕ → Option Node) → Instead → Type 0
  Ends nodes clean i = IsTold set nodes clean (λ q. ⊥) new_ways
      (ways_instead (told end.blocks.draft history) (suc level) i) 1 0 1 (tellings_made i.more)

  one_ends : (nodes clean : ℕ → Option Node) → IsInOne set end now instead header settled.pointers_new
      → Ends nodes clean (record { now = now; more = None })
  unfolding Ends new_ways
  one_ends nodes clean one_node =
      let after = ways_instead (told end.blocks.draft history) (suc level) (record { now = now; more = None }) in
      told-more set nodes clean (λ q. ⊥) new_ways after 0 0 0 1 0 1 [] (omega arith) (omega arith) (omega arith)
      (told-none set nodes clean (λ q. ⊥) new_ways after (λ q.
      let top = ways-inner (told end.blocks.draft history) level now header settled.pointers_new
      (one_told one_node) q in
      let same = ap (λ (g : Ground). ways_each (told g.blocks.draft history) level settled.pointers_new q)
      one_node.same in
      omega (arith, top, same)))

  two_end : (nodes clean : ℕ → Option Node)
      (two : AreInTwo low.space.sizes.nodesize root.owner set end now instead header settled.pointers_new)
      → Ends nodes clean (record { now = now; more = Some two.more })
  unfolding Ends new_ways
  two_end nodes clean two =
      let differ : two.more ≢ now =
      λ same. fresh-taken set root.next now (Inner header two.first) set_rests.drafted two.here
      (ap (is_free_slot set.space) (sym same) ∙ two.made.puts.free) in
      let top = one-other now two.more differ in
      let below = ways_each-none (told set.blocks.draft history) level settled.pointers_new two.more
      (λ i p is reaches. settled.free two.more two.made.puts.free (i, p, is, reaches)) in
      told-made set nodes clean (λ q. ⊥) new_ways (ways_instead (told end.blocks.draft history) (suc level)
      (record { now = now; more = Some two.more })) two.more two.made.puts.free (omega (arith, top, below)) (λ q.
      let a = ways-inner (told end.blocks.draft history) level now header two.first (first_told two) q in
      let b = ways-inner (told end.blocks.draft history) level two.more (record two.other { address = two.more })
      two.second (second_told two) q in
      let sum = ways_each-append (told end.blocks.draft history) level two.first two.second q in
      let whole = ap (λ (ps : List Pointer). ways_each (told end.blocks.draft history) level ps q) two.pointers_are in
      let stays = ways_each-same (told set.blocks.draft history) (told end.blocks.draft history) level
      settled.pointers_new (new_stays two) q in
      omega (arith, a, b, sum, whole, stays))

  end_told : (nodes clean : ℕ → Option Node)
      → IsTold land nodes clean FromTop new_ways (ways_instead (told end.blocks.draft history) (suc level) instead)
      (slots_for rest) 0 1 (tellings_made instead.more)
  unfolding Ends
  end_told nodes clean =
      let after = ways_instead (told end.blocks.draft history) (suc level) instead in
      told-come land nodes clean FromTop new_ways after 1 0 1 (slots_for rest) (tellings_made instead.more)
      (placed-few root.owner set end now rest instead placed)
      (told-within land nodes clean FromTop set (λ q. ⊥) new_ways after 1 0 1 (tellings_made instead.more) set_held
      set_within
      (elim ends [
        | inl one_node ↦ subst (λ (i : Instead). Ends nodes clean i) (sym one_node.instead_is)
            (one_ends nodes clean one_node)
        | inr two ↦ subst (λ (i : Instead). Ends nodes clean i) (sym two.instead_is) (two_end nodes clean two)
      ]))

  pub part-told : (below above : List Telling) → IsPartTold mid low history level child_at child below
      → ((nodes clean : ℕ → Option Node)
      → TellSame (ReachesBeside (told low.blocks.draft history) level pointers place) nodes low history
      → AreCommitted low history clean
      → IsTold low nodes clean (ReachesParts (told low.blocks.draft history) level pointers place child)
      (ways_parts (told low.blocks.draft history) level pointers place child)
      (ways_each (told set.blocks.draft history) level settled.pointers_new) (1 - slots_for rest) 1 0 above)
      → IsPartTold land end history (suc level) at instead (tellings_owned owned.node at now
      ++ (below ++ (above ++ tellings_made instead.more)))
  unfolding FromTop TopSame SetTold
  part-told below above of_child of_set nodes clean same committed =
      let log = tellings_owned owned.node at now in
      let made = tellings_made instead.more in
      let start = ways (told land.blocks.draft history) (suc level) at in
      let last = ways_instead (told end.blocks.draft history) (suc level) instead in
      let set_come = 1 - slots_for rest in
      let end_come = slots_for rest in
      let few = slots-most rest in
      let low_committed = committed-after mid low history child_later root.next clean child_rests
      (mid_committed clean committed) in
      let third = told-append land nodes clean FromTop parts_ways new_ways last set_come 1 0 end_come 0 1 above made
      (set_told nodes clean committed above (of_set nodes clean (beside_same nodes same) low_committed))
      (end_told nodes clean) in
      let second = told-append land nodes clean FromTop first_ways parts_ways last (2 * (level + 1)) (level + 1)
      (level + 1) (set_come + end_come) (1 + 0) (0 + 1) below (above ++ made)
      (child_told nodes clean same committed below of_child) third in
      let all = told-append land nodes clean FromTop start first_ways last 1 0 0
      (2 * (level + 1) + (set_come + end_come)) (level + 1 + (1 + 0)) (level + 1 + (0 + 1)) log
      (below ++ (above ++ made))
      (own_told nodes clean committed (same at (reach-top (told land.blocks.draft history) (suc level) at))) second in
      told-more land nodes clean FromTop start last (1 + (2 * (level + 1) + (set_come + end_come)))
      (0 + (level + 1 + (1 + 0))) (0 + (level + 1 + (0 + 1))) (2 * (suc level + 1)) (suc level + 1) (suc level + 1)
      (log ++ (below ++ (above ++ made))) (omega (arith, few)) (omega arith) (omega arith) all

-- ---- the same by what is known of the node once its child was edited

module _ (tree : TreeKind) (root : Root) (land mid low set end : Ground)
    (history own_later child_later set_later end_later : History) (level : ℕ) (expected : Expected)
    (at now : ℕ) (edit : Edit)
    (place : ℕ) (pointers : List Pointer) (front mine back items items_new : List Item) (pointer : Pointer)
    (child_at : ℕ) (child : Instead) (rest : Option Node) (instead : Instead)
    (branch : IsBranch tree (super_of root land.blocks.draft) (told land.blocks.draft history) (suc level) at items)
    (unreached : (q : ℕ) → IsTrue (is_free_slot land.space q)
    → Reaches (told land.blocks.draft history) (suc level) at q → ⊥)
    (makes : CanMake tree root) (owned : IsOwned tree root land mid history expected at now)
    (around : IsAround tree root mid history level now expected.to place edit.key pointers front mine back items)
    (there : slice_get pointers place ≡ Some pointer) (leads : child_at ≡ pointer.child)
    (child_edited : IsPartEdited tree root mid low history level child_at edit mine child)
    (above : KeepsAbove level mid low) (edits : IsLeafEdited edit items items_new)
    (first : edit.key ≡ least → edits.leaf ≡ first_leaf (told land.blocks.draft history) (suc level) at)
    (un : IsUnsettled tree root low history level now expected.to place child items_new)
    (settled : IsSettled tree root low set history level now place child un.pointers un.header items_new rest)
    (placed : IsPlacedBehind root.owner set end now rest instead)
    (own_rests : Rests land mid own_later root.next) (child_rests : Rests mid low child_later root.next)
    (set_rests : Rests low set set_later root.next) (end_rests : Rests set end end_later root.next) where
  same_pointers : un.pointers ≡ pointers
  same_pointers =
      let high = around.member.levelled in
      let kept = above now (Inner around.header pointers) around.here (omega (arith, high)) in
      let is : Some (Inner un.header un.pointers) ≡ Some (Inner around.header pointers) = sym un.here ∙ kept in
      cc

  pub part-edited-unsettled : IsPartEdited tree root land end history (suc level) at edit items instead
  part-edited-unsettled =
      part-edited tree root land mid low set end history own_later child_later set_later end_later level expected at now
      edit place pointers front mine back items items_new pointer child_at child un.header rest
      instead branch unreached makes owned around there leads child_edited edits first un.member
      (subst (λ (ps : List Pointer). IsSettled tree root low set history level now place child ps un.header items_new
      rest) same_pointers settled) placed own_rests child_rests set_rests end_rests

  pub part-told-unsettled : (below above : List Telling) → IsPartTold mid low history level child_at child below
      → ((nodes clean : ℕ → Option Node)
      → TellSame (ReachesBeside (told low.blocks.draft history) level un.pointers place) nodes low history
      → AreCommitted low history clean
      → IsTold low nodes clean (ReachesParts (told low.blocks.draft history) level un.pointers place child)
      (ways_parts (told low.blocks.draft history) level un.pointers place child)
      (ways_each (told set.blocks.draft history) level settled.pointers_new) (1 - slots_for rest) 1 0 above)
      → IsPartTold land end history (suc level) at instead (tellings_owned owned.node at now
      ++ (below ++ (above ++ tellings_made instead.more)))
  part-told-unsettled below above of_child of_set =
      let whole : IsSettledTold tree root low set history level now place child un.pointers un.header items_new rest
      above = record { settled = settled; told = of_set } in
      let same = subst (λ (ps : List Pointer). IsSettledTold tree root low set history level now place child ps
      un.header items_new rest above) same_pointers whole in
      part-told tree root land mid low set end history own_later child_later set_later end_later level expected at now
      edit place pointers front mine back items items_new pointer child_at child un.header rest
      instead branch unreached makes owned around there leads child_edited edits first un.member same.settled placed
      own_rests child_rests set_rests end_rests below above of_child same.told
