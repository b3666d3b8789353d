-- A new root above two nodes.
use Rattle.std.proofs.Common.{◌≡◌, ◌≢◌, ◌⊎◌, ℕ, zero, suc, ◌+◌, true, List, [], ◌∷◌, add-one, arith, refl, sym, ap}
use Rattle.std.proofs.Common.{subst, ◌∙◌, inl, inr, Some}
use Rattle.std.specs.Prelude.{IsTrue, slice_get}
use Rattle.std.specs.Ordering.{is_lt}
use Rattle.std.proofs.lemmas.Bool.{and_parts}
use Rattle.qg_device.specs.History.{History}
use Rattle.qg_num.specs.Key.{key_cmp}
use Rattle.qg_node.specs.declared.item.Item.{Item}
use Rattle.qg_node.specs.declared.pointer.Pointer.{Pointer}
use Rattle.qg_node.specs.declared.node.Header.{Header}
use Rattle.qg_node.specs.declared.node.Node.{Node}
use Rattle.qg_node.specs.declared.node.Node.TheVariants.{Inner}
use Rattle.qg_node.specs.Nodes.{ascends_from, header_of, is_ascending, own_pointers}
use Rattle.qg_shape.specs.Pointing.{pointer_to}
use Rattle.qg_blocks.specs.NodesFound.{fresh_at, told}
use Rattle.qg_space.specs.Holding.{is_free_slot}
use Rattle.qg_super.specs.declared.sizes.Sizes.{Sizes}
use Rattle.qg_image.specs.declared.tree.TreeKind.{TreeKind}
use Rattle.qg_node_alloc.specs.declared.ground.Ground.{Ground}
use Rattle.qg_node_alloc.specs.Changes.{Makes}
use Rattle.qg_node_alloc.specs.Land.{IsDrafted, Rests}
use Rattle.qg_node_alloc.specs.Tellings.Telling.{Made}
use Rattle.qg_node_alloc.proofs.Lands.{Takes-made, told-fresh_at}
use Rattle.qg_tree_edits.specs.declared.instead.Instead.{Instead}
use Rattle.qg_tree_read.specs.Tree.{IsTree, Reaches, Root, super_of}
use Rattle.qg_tree_read.specs.Branch.{AreBranches, IsMember}
use Rattle.qg_tree_edits.specs.Editing.{CanMake, FillsThere, HoldInstead, ReachesInstead}
use Rattle.qg_tree_edits.specs.Counting.{IsRootTold, one, ways, ways_instead}
use Rattle.qg_tree_edits.specs.Rooting.{HasRoot, StandsForRoot}
use Rattle.qg_tree_read.proofs.BranchFrames.{branch-same, reach-same, reach-top}
use Rattle.qg_tree_edits.proofs.Leading.{branches-keys, two-lead}
use Rattle.qg_tree_edits.proofs.OwnedBranch.{member_made}
use Rattle.qg_tree_edits.proofs.Placed.{fresh-taken}
use Rattle.qg_tree_edits.proofs.PlacedTold.{told-made}
use Rattle.qg_tree_edits.proofs.Turning.{told-more}
use Rattle.qg_tree_edits.proofs.Ways.{ways-inner, ways-none, ways-same, ways_each-cons}
use Rattle.qg_tree_edits.proofs.RootEdited.{root-above}
use Rattle.qg_tree_edits.proofs.Served.{size-blocks}

-- two nodes stand in the place of a root
abbrev pub two : ℕ → ℕ → Instead
two now more = record { now = now; more = Some more }

module _ (tree : TreeKind) (root : Root) (land : Ground) (history : History) (now more : ℕ) (items : List Item)
    (a b : Node)
    (stands : StandsForRoot tree root land history (two now more) items) (drafted : IsDrafted land root.next)
    (first : fresh_at land.blocks.draft now ≡ Some a) (second : fresh_at land.blocks.draft more ≡ Some b) where
  a_named : (header_of a).address ≡ now
  a_named = (drafted.each now a first).kept.placed

  b_named : (header_of b).address ≡ more
  b_named = (drafted.each more b second).kept.placed

  a_there : told land.blocks.draft history now ≡ Some a
  a_there = told-fresh_at land.blocks.draft history now a first

  b_there : told land.blocks.draft history more ≡ Some b
  b_there = told-fresh_at land.blocks.draft history more b second

  both : AreBranches tree (super_of root land.blocks.draft) (told land.blocks.draft history) root.height
      (pointer_to a ∷ pointer_to b ∷ []) items
  both =
      two-lead tree (super_of root land.blocks.draft) (told land.blocks.draft history) root.height now more a b
      stands.holds.mine stands.holds.rest items a_there a_named b_there b_named
      (size-blocks land root.next drafted) stands.holds.behind.1 stands.holds.behind.2 stands.holds.items_are
      stands.holds.here stands.holds.behind.0

  -- the first of them has the lesser keys
  pub above-ascends : is_lt (key_cmp (pointer_to a).key (pointer_to b).key) ≡ true
  unfolding is_ascending ascends_from
  above-ascends =
      (and_parts (is_lt (key_cmp (pointer_to a).key (pointer_to b).key)) true
      (branches-keys tree (super_of root land.blocks.draft) (told land.blocks.draft history) root.height
      (pointer_to a ∷ pointer_to b ∷ []) items both stands.ascending)).0

  module _ (new : Ground) (later : History) (top : ℕ) (header : Header)
      (made : Makes land new top (Inner header (pointer_to a ∷ pointer_to b ∷ []))) (makes : CanMake tree root)
      (level : header.level ≡ suc root.height) (owner : header.owner ≡ root.owner)
      (dated : header.generation ≡ root.next) (rests : Rests land new later root.next) where
    Low : ℕ → Type 0
    Low q = ReachesInstead (told land.blocks.draft history) root.height (two now more) q

    not_top : (q : ℕ) → Low q → q ≢ top
    unfolding Low
    not_top q low same = stands.free q (ap (is_free_slot land.space) same ∙ made.puts.free) low

    same : (q : ℕ) → Low q → told new.blocks.draft history q ≡ told land.blocks.draft history q
    same q low = made.puts.others history q (not_top q low)

    there : told new.blocks.draft history top
        ≡ Some (Inner (record header { address = top }) (pointer_to a ∷ pointer_to b ∷ []))
    there = told-fresh_at new.blocks.draft history top
        (Inner (record header { address = top }) (pointer_to a ∷ pointer_to b ∷ [])) made.puts.here

    first_low : (q : ℕ) → Reaches (told land.blocks.draft history) root.height now q → Low q
    unfolding Low
    first_low q reaches = inl reaches

    second_low : (q : ℕ) → Reaches (told land.blocks.draft history) root.height more q → Low q
    unfolding Low
    second_low q reaches = inr reaches

    a_still : told new.blocks.draft history now ≡ Some a
    a_still = same now (first_low now (reach-top (told land.blocks.draft history) root.height now)) ∙ a_there

    b_still : told new.blocks.draft history more ≡ Some b
    b_still = same more (second_low more (reach-top (told land.blocks.draft history) root.height more)) ∙ b_there

    still : (at : ℕ) → Low at
        → FillsThere (super_of root land.blocks.draft).nodesize (told land.blocks.draft history) at
        → FillsThere (super_of root land.blocks.draft).nodesize (told new.blocks.draft history) at
    still at low fills = record { node = fills.node; there = same at low ∙ fills.there; filled = fills.filled }

    holds : HoldInstead tree (super_of root land.blocks.draft) (told new.blocks.draft history) root.height
        (two now more) items
    holds = record {
      mine = stands.holds.mine;
      rest = stands.holds.rest;
      items_are = stands.holds.items_are;
      here =
          branch-same tree (super_of root land.blocks.draft) (told land.blocks.draft history)
          (told new.blocks.draft history) root.height now stands.holds.mine stands.holds.here
          (λ q reaches. same q (first_low q reaches));
      behind = (
        branch-same tree (super_of root land.blocks.draft) (told land.blocks.draft history)
            (told new.blocks.draft history) root.height more stands.holds.rest stands.holds.behind.0
            (λ q reaches. same q (second_low q reaches)),
        still now (first_low now (reach-top (told land.blocks.draft history) root.height now)) stands.holds.behind.1,
        still more (second_low more (reach-top (told land.blocks.draft history) root.height more))
            stands.holds.behind.2,
      );
    }

    member : IsMember tree (super_of root land.blocks.draft) (suc root.height) (record header { address = top })
    member = member_made tree root land (suc root.height) (record header { address = top }) makes level owner dated

    stands_there : IsTree tree (super_of root land.blocks.draft) (told new.blocks.draft history)
        (suc root.height) top items
    stands_there =
        root-above tree (super_of root land.blocks.draft) (told new.blocks.draft history)
        (size-blocks land root.next drafted) root.height top now more items (record header { address = top }) a b
        holds
        stands.ascending a_still a_named b_still b_named there member

    low_of : (child : ℕ) → ((q : ℕ) → Reaches (told land.blocks.draft history) root.height child q → Low q) → (q : ℕ)
        → Reaches (told new.blocks.draft history) root.height child q → Low q
    low_of child lows q reaches =
        lows q (reach-same (told land.blocks.draft history) (told new.blocks.draft history) root.height child
        (λ r below. same r (lows r below)) q reaches)

    from_pointer : (place : ℕ) (pointer : Pointer) → slice_get (pointer_to a ∷ pointer_to b ∷ []) place ≡ Some pointer
        → (q : ℕ) → Reaches (told new.blocks.draft history) root.height pointer.child q → Low q
    from_pointer zero pointer is q reaches =
        let one : pointer_to a ≡ pointer = cc in
        low_of now first_low q (subst (λ (c : ℕ). Reaches (told new.blocks.draft history) root.height c q)
        (sym (ap (λ (p : Pointer). p.child) one) ∙ a_named) reaches)
    from_pointer (suc zero) pointer is q reaches =
        let one : pointer_to b ≡ pointer = cc in
        low_of more second_low q (subst (λ (c : ℕ). Reaches (told new.blocks.draft history) root.height c q)
        (sym (ap (λ (p : Pointer). p.child) one) ∙ b_named) reaches)
    from_pointer (suc (suc place)) pointer is q reaches = cc

    reached : (q : ℕ) → Reaches (told new.blocks.draft history) (suc root.height) top q → (q ≡ top) ⊎ Low q
    unfolding Reaches
    reached q (inl here) = inl here
    reached q (inr (node, is, place, pointer, at, below)) =
        let one : node ≡ Inner (record header { address = top }) (pointer_to a ∷ pointer_to b ∷ []) = let e = sym is
        ∙ there in cc in
        inr (from_pointer place pointer (subst (λ (n : Node). slice_get (own_pointers n) place ≡ Some pointer) one at) q
        below)

    less : (q : ℕ) → IsTrue (is_free_slot new.space q) → IsTrue (is_free_slot land.space q)
    less q free =
        elim ((Takes-made land new top (Inner header (pointer_to a ∷ pointer_to b ∷ [])) drafted.sizes rests.sizes
        rests.held_slots made).less q free) [ inl was ↦ was | inr none ↦ absurd none ]

    top_taken : IsTrue (is_free_slot new.space top) → ⊥
    top_taken free = fresh-taken new root.next top
        (Inner (record header { address = top }) (pointer_to a ∷ pointer_to b ∷ [])) rests.drafted made.puts.here free

    before_ways : ℕ → ℕ
    before_ways q = ways_instead (told land.blocks.draft history) root.height (two now more) q

    below_same : (child at : ℕ) → child ≡ at → ((r : ℕ) → Reaches (told land.blocks.draft history) root.height at r
        → Low r)
        → (q : ℕ) → ways (told new.blocks.draft history) root.height child q
        ≡ ways (told land.blocks.draft history) root.height at q
    below_same child at is lows q =
        ap (λ (c : ℕ). ways (told new.blocks.draft history) root.height c q) is
        ∙ ways-same (told land.blocks.draft history) (told new.blocks.draft history) root.height at
        (λ r reaches. same r (lows r reaches)) q

    after_ways : (q : ℕ) → ways (told new.blocks.draft history) (suc root.height) top q ≡ before_ways q + one top q
    unfolding before_ways
    after_ways q =
        let inner = ways-inner (told new.blocks.draft history) root.height top (record header { address = top })
        (pointer_to a ∷ pointer_to b ∷ []) there q in
        let first_one = ways_each-cons (told new.blocks.draft history) root.height (pointer_to a)
        (pointer_to b ∷ []) q in
        let second_one = ways_each-cons (told new.blocks.draft history) root.height (pointer_to b) [] q in
        let x = below_same (pointer_to a).child now a_named first_low q in
        let y = below_same (pointer_to b).child more b_named second_low q in
        omega (arith, inner, first_one, second_one, x, y)

    none_before : before_ways top ≡ 0
    unfolding before_ways
    none_before =
        let x = ways-none (told land.blocks.draft history) root.height now top
        (λ reaches. not_top top (first_low top reaches) refl) in
        let y = ways-none (told land.blocks.draft history) root.height more top
        (λ reaches. not_top top (second_low top reaches) refl) in
        omega (arith, x, y)

    told_up : IsRootTold root (record root { address = top; height = suc root.height }) land new history (two now more)
        (Made top ∷ [])
    unfolding before_ways
    told_up nodes clean committed =
        let Old = ReachesInstead (told land.blocks.draft history) root.height (two now more) in
        let after = ways (told new.blocks.draft history) (suc root.height) top in
        told-more land nodes clean Old before_ways after 1 0 1 1 1 1 (Made top ∷ []) (omega arith) (omega arith)
        (omega arith)
        (told-made land nodes clean Old before_ways after top made.puts.free none_before after_ways)

    -- and the book is told of the new root
    pub told-grown : IsRootTold root (record root { address = top; height = root.height + 1 }) land new history
        (two now more) (Made top ∷ [])
    told-grown = subst (λ (h : ℕ). IsRootTold root (record root { address = top; height = h }) land new history
        (two now more) (Made top ∷ [])) (sym (add-one root.height)) told_up

    grown_up : HasRoot tree root (record root { address = top; height = suc root.height }) land new history
        (two now more) items
    unfolding Low
    grown_up = record {
      rooted = record {
        tells = subst (λ (size : ℕ). IsTree tree (record (super_of root land.blocks.draft) { nodesize = size })
            (told new.blocks.draft history) (suc root.height) top items)
            (ap (λ (s : Sizes). s.nodesize) (sym rests.node_sizes)) stands_there;
        apart = λ q free reaches. elim (reached q reaches) [
          | inl here ↦ top_taken (subst (λ (r : ℕ). IsTrue (is_free_slot new.space r)) here free)
          | inr low ↦ stands.free q (less q free) low
        ];
        short = stands.short;
      };
      reach = λ q reaches. elim (reached q reaches) [
        | inl here ↦ inr (ap (is_free_slot land.space) here
            ∙ made.puts.free)
        | inr low ↦ inl low
      ];
      others = λ q taken far. made.puts.others history q
          (λ same. taken (ap (is_free_slot land.space) same ∙ made.puts.free));
      freed = λ q free. inl (less q free);
    }

    -- the tree stands, a level higher
    pub grown : HasRoot tree root (record root { address = top; height = root.height + 1 }) land new history
        (two now more) items
    grown = subst (λ (h : ℕ). HasRoot tree root (record root { address = top; height = h }) land new history
        (two now more) items) (sym (add-one root.height)) grown_up

pub grown-above : (tree : TreeKind) (root : Root) (land : Ground) (history : History) (now more : ℕ)
    (items : List Item) (a b : Node) → StandsForRoot tree root land history (two now more) items
    → IsDrafted land root.next → fresh_at land.blocks.draft now ≡ Some a → fresh_at land.blocks.draft more ≡ Some b
    → (new : Ground) (later : History) (top : ℕ) (header : Header) (node p q : Node)
    → node ≡ Inner header (pointer_to p ∷ pointer_to q ∷ []) → p ≡ a → q ≡ b → Makes land new top node
    → CanMake tree root
    → header.level ≡ suc root.height → header.owner ≡ root.owner → header.generation ≡ root.next
    → Rests land new later root.next
    → HasRoot tree root (record root { address = top; height = root.height + 1 }) land new history (two now more) items
grown-above tree root land history now more items a b stands drafted first second new later top header node p q is p_is
    q_is made makes level owner dated rests =
    grown tree root land history now more items a b stands drafted first second new later top header
    (subst (λ (n : Node). Makes land new top n) (is
    ∙ ap (λ (n : Node). Inner header (pointer_to n ∷ pointer_to q ∷ [])) p_is
    ∙ ap (λ (n : Node). Inner header (pointer_to a ∷ pointer_to n ∷ [])) q_is) made)
    makes level owner dated rests

pub told-above : (tree : TreeKind) (root : Root) (land : Ground) (history : History) (now more : ℕ)
    (items : List Item) (a b : Node) → StandsForRoot tree root land history (two now more) items
    → IsDrafted land root.next → fresh_at land.blocks.draft now ≡ Some a → fresh_at land.blocks.draft more ≡ Some b
    → (new : Ground) (later : History) (top : ℕ) (header : Header) (node p q : Node)
    → node ≡ Inner header (pointer_to p ∷ pointer_to q ∷ []) → p ≡ a → q ≡ b → Makes land new top node
    → CanMake tree root
    → header.level ≡ suc root.height → header.owner ≡ root.owner → header.generation ≡ root.next
    → Rests land new later root.next
    → IsRootTold root (record root { address = top; height = root.height + 1 }) land new history (two now more)
    (Made top ∷ [])
told-above tree root land history now more items a b stands drafted first second new later top header node p q is p_is
    q_is made makes level owner dated rests =
    told-grown tree root land history now more items a b stands drafted first second new later top header
    (subst (λ (n : Node). Makes land new top n) (is
    ∙ ap (λ (n : Node). Inner header (pointer_to n ∷ pointer_to q ∷ [])) p_is
    ∙ ap (λ (n : Node). Inner header (pointer_to a ∷ pointer_to n ∷ [])) q_is) made)
    makes level owner dated rests
