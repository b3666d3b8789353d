-- A tree whose leaf was edited, and whose root was set.
use Rattle.std.proofs.Common.{◌≡◌, ◌⊎◌, ℕ, ◌+◌, ◌*◌, ◌<◌, true, List, [], ◌∷◌, ◌++◌, drop, length, arith, refl, sym, ap}
use Rattle.std.proofs.Common.{subst, ◌∙◌, inl, inr, Some, None}
use Rattle.std.specs.Prelude.{IsTrue, OnOk, Result, Ok, Err}
use Rattle.std.specs.List.{list_all}
use Rattle.std.specs.Ordering.{is_lt}
use Rattle.std.proofs.Math.Seq.{drop-append_seam}
use Rattle.std.proofs.lemmas.Bool.{and_parts}
use Rattle.qg_device.specs.History.{History}
use Rattle.qg_num.specs.Key.{key_cmp}
use Rattle.qg_num.specs.declared.key.Key.{Key}
use Rattle.qg_node.specs.declared.item.Item.{Item}
use Rattle.qg_node.specs.Nodes.{is_ascending}
use Rattle.qg_super.specs.declared.sizes.Sizes.{Sizes}
use Rattle.qg_blocks.specs.NodesFound.{told}
use Rattle.qg_space.specs.Holding.{is_free_slot}
use Rattle.qg_image.specs.declared.expected.Expected.{Expected}
use Rattle.qg_image.specs.declared.tree.TreeKind.{TreeKind}
use Rattle.qg_image.specs.Walk.{root_expected}
use Rattle.qg_node_alloc.specs.declared.ground.Ground.{Ground}
use Rattle.qg_node_alloc.specs.Land.{IsDrafted, Rests}
use Rattle.qg_node_alloc.specs.Tellings.{Telling}
use Rattle.qg_edit.specs.declared.edit.Edit.{Edit}
use Rattle.qg_edit.specs.declared.edit.Change.{Change}
use Rattle.qg_edit.specs.declared.edit.Change.TheVariants.{Clear}
use Rattle.qg_edit.specs.Edits.{CanEdit, IsShort, changed, edited}
use Rattle.qg_tree_edits.specs.declared.instead.Instead.{Instead}
use Rattle.qg_tree_read.specs.Tree.{Reaches, Root, super_for, super_of}
use Rattle.qg_tree_edits.specs.First.{first_leaf, least}
use Rattle.qg_tree_edits.specs.Editing.{HoldInstead, IsPartEdited, IsPartFit, ReachesInstead}
use Rattle.qg_tree_edits.specs.Counting.{IsPartTold, IsRootTold, IsTold, IsTreeTold, clean_at, committed_at, ways}
use Rattle.qg_tree_edits.specs.Counting.{ways_instead}
use Rattle.qg_tree_edits.specs.Rooting.{HasRoot, IsEdited, IsReplaced, IsRooted, StandsForRoot}
use Rattle.qg_tree_edits.proofs.AroundEdited.{leaf-ascends, leaf-short}
use Rattle.qg_tree_read.proofs.BranchOrder.{ascends-under, keys_of}
use Rattle.qg_tree_edits.proofs.Clean.{clean-same}
use Rattle.qg_tree_edits.proofs.Committed.{committed-after, committed-are}
use Rattle.qg_tree_edits.proofs.FirstLeaf.{none-less}
use Rattle.qg_tree_edits.proofs.Heights.{height-low}
use Rattle.qg_tree_edits.proofs.ListEdited.{ClearsNone, leaf-whole}
use Rattle.qg_tree_edits.proofs.PartBelow.{told-ascends}
use Rattle.qg_tree_edits.proofs.Turning.{told-append, told-more, told-within}

module _ (tree : TreeKind) (root : Root) (land : Ground) (history : History) (edit : Edit) (items : List Item)
    (rooted : IsRooted tree root land history items) (can : CanEdit edit items)
    (expected : Expected) (at : ℕ) (expects : expected ≡ root_expected (Some root.height) None)
    (there : at ≡ root.address) where
  -- from its root on it may be edited
  pub fit-root : IsPartFit tree root land history root.height expected at edit items
  fit-root =
      let from : IsPartFit tree root land history root.height (root_expected (Some root.height) None) root.address edit
      items = record {
        levelled = refl;
        walked = rooted.tells.walked;
        items_are = rooted.tells.items_are;
        apart = rooted.apart;
        short = rooted.short;
        can = can;
      } in
      subst (λ (e : Expected). IsPartFit tree root land history root.height e at edit items) (sym expects)
      (subst (λ (a : ℕ). IsPartFit tree root land history root.height (root_expected (Some root.height) None) a edit
      items) (sym there) from)

  module _ (mid : Ground) (instead : Instead)
      (part : IsPartEdited tree root land mid history root.height at edit items instead)
      (drafted : IsDrafted land root.next)
      (sizes : mid.blocks.draft.sizes ≡ land.blocks.draft.sizes) (short : IsShort edit.change) where
    ascending : is_ascending (keys_of items) ≡ true
    ascending =
        ascends-under tree (super_of root land.blocks.draft) (told land.blocks.draft history)
        (told-ascends land history root.next drafted) root.height expected at items
        (record { levelled = fit-root.levelled; walked = fit-root.walked; items_are = fit-root.items_are })

    -- what stands in its place may become a root
    pub stands-root : StandsForRoot tree root mid history instead part.items_new
    stands-root = record {
      holds = subst (λ (s : Sizes). HoldInstead tree (super_for root.next s.nodesize) (told mid.blocks.draft history)
          root.height instead part.items_new) (sym sizes) part.holds;
      ascending = leaf-ascends edit items part.items_new part.edits ascending;
      short = leaf-short edit items part.items_new part.edits short rooted.short;
      free = part.free;
    }

    module _ (new : Ground) (after : Root) (has : HasRoot tree root after mid new history instead part.items_new) where
      Old : ℕ → Type 0
      Old q = Reaches (told land.blocks.draft history) root.height root.address q

      was : (q : ℕ) → Reaches (told land.blocks.draft history) root.height at q → Old q
      unfolding Old
      was q reaches = subst (λ (a : ℕ). Reaches (told land.blocks.draft history) root.height a q) there reaches

      from : (q : ℕ) → ReachesInstead (told mid.blocks.draft history) root.height instead q
          → Old q ⊎ IsTrue (is_free_slot land.space q)
      from q reaches = elim (part.reach q reaches) [ inl old ↦ inl (was q old) | inr free ↦ inr free ]

      free_from : (q : ℕ) → IsTrue (is_free_slot mid.space q) → Old q ⊎ IsTrue (is_free_slot land.space q)
      free_from q free = elim (part.freed q free) [ inl still ↦ inr still | inr old ↦ inl (was q old) ]

      -- it is edited
      pub edited-root : IsEdited tree root after land new history edit items
      unfolding Old
      edited-root = record {
        items_new = part.items_new;
        edits = part.edits;
        first = λ is. part.first is ∙ ap (λ (a : ℕ). first_leaf (told land.blocks.draft history) root.height a) there;
        replaced = record {
          rooted = has.rooted;
          reach = λ q reaches. elim (has.reach q reaches) [ inl low ↦ from q low | inr free ↦ free_from q free ];
          others = λ q not_free not_reached.
              has.others q (λ free. elim (free_from q free) [ inl old ↦ not_reached old | inr still ↦ not_free still ])
              (λ low. elim (from q low) [ inl old ↦ not_reached old | inr still ↦ not_free still ])
              ∙ part.others history q not_free (λ reaches. not_reached (was q reaches));
          freed = λ q free. elim (has.freed q free) [
            | inl middle ↦ elim (free_from q middle) [ inl old ↦ inr old | inr still ↦ inl still ]
            | inr low ↦ elim (from q low) [ inl old ↦ inr old | inr still ↦ inl still ]
          ];
        };
      }

      -- and all is told
      pub told-root : (later : History) → Rests land mid later root.next → (below above : List Telling)
          → IsPartTold land mid history root.height at instead below
          → IsRootTold root after mid new history instead above
          → IsTreeTold root after land new history (below ++ above)
      unfolding Old
      told-root later rests below above of_part of_root =
          let nodes = told land.blocks.draft history in
          let clean = clean_at land history in
          let held = committed_at land history in
          let are = committed-are land history root.next drafted in
          let start = ways (told land.blocks.draft history) root.height root.address in
          let between = ways_instead (told mid.blocks.draft history) root.height instead in
          let last = ways (told new.blocks.draft history) after.height after.address in
          let first =
          subst (λ (a : ℕ). IsTold land clean held (Reaches nodes root.height a) (ways nodes root.height a) between
          (2 * (root.height + 1)) (root.height + 1) (root.height + 1) below)
          there (of_part clean held (λ q reaches none. clean-same land history q none) are) in
          let then = told-within land clean held Old mid
          (ReachesInstead (told mid.blocks.draft history) root.height instead) between last 1 1 1 above
          rests.held_slots
          (λ q either. elim either [
            | inl free ↦ elim (free_from q free) [ inl old ↦ inr old | inr still ↦ inl still ]
            | inr low ↦ elim (from q low) [ inl old ↦ inr old | inr still ↦ inl still ]
          ]) (of_root clean held (committed-after land mid history later root.next held rests are)) in
          let all = told-append land clean held Old start between last (2 * (root.height + 1)) (root.height + 1)
          (root.height + 1) 1 1 1 below above first then in
          told-more land clean held Old start last (2 * (root.height + 1) + 1) (root.height + 1 + 1)
          (root.height + 1 + 1) (2 * root.height + 3) (root.height + 2) (root.height + 2) (below ++ above)
          (omega arith) (omega arith) (omega arith) all

-- a root may get a node above it
pub low-root : (tree : TreeKind) (root : Root) (land : Ground) (history : History) (items : List Item)
    → IsDrafted land root.next → IsRooted tree root land history items → root.height < 7
low-root tree root land history items drafted rooted =
    let low = height-low tree root land history items drafted rooted.tells in
    omega (arith, low)

-- ---- what that makes of all items

-- an edit that clears no leaf
pub replaced-whole : (tree : TreeKind) (before after : Root) (old new : Ground) (history : History)
    (edit : Edit) (items : List Item) → ClearsNone edit.change
    → IsEdited tree before after old new history edit items
    → IsReplaced tree before after old new history (edited edit items)
replaced-whole tree before after old new history edit items none is =
    subst (λ (xs : List Item). IsReplaced tree before after old new history xs)
    (leaf-whole edit items is.items_new none is.edits) is.replaced

none_in_front : (key : Key) (front : List Item) → key ≡ least → list_all (λ item. is_lt (key_cmp item.key key)) front
    ≡ true → front ≡ []
none_in_front key [] is all = refl
none_in_front key (item ∷ front) is all =
    let low = subst (λ (k : Key). list_all (λ item. is_lt (key_cmp item.key k)) (item ∷ front) ≡ true) is all in
    let parts = and_parts (is_lt (key_cmp item.key least))
    (list_all (λ (other : Item). is_lt (key_cmp other.key least)) front) low in
    let less = parts.0 in
    let none = none-less item.key in
    absurd cc

-- and one that clears the first
pub replaced-first : (tree : TreeKind) (before after : Root) (old new : Ground) (history : History)
    (edit : Edit) (items : List Item) → edit.key ≡ least → edit.change ≡ Clear
    → IsEdited tree before after old new history edit items
    → IsReplaced tree before after old new history
    (drop (length (first_leaf (told old.blocks.draft history) before.height before.address)) items)
replaced-first tree before after old new history edit items key clear is =
    let none = none_in_front edit.key is.edits.front key is.edits.less in
    let was : items ≡ is.edits.leaf ++ is.edits.back = is.edits.old_are
    ∙ ap (λ (xs : List Item). xs ++ (is.edits.leaf ++ is.edits.back)) none in
    let now : is.items_new ≡ is.edits.back =
    is.edits.new_are ∙ ap (λ (xs : List Item). xs ++ (edited edit is.edits.leaf ++ is.edits.back)) none
    ∙ ap (λ (c : Change). changed edit.key c is.edits.leaf ++ is.edits.back) clear in
    let gone : drop (length is.edits.leaf) items ≡ is.items_new = ap (drop (length is.edits.leaf)) was
    ∙ drop-append_seam is.edits.leaf is.edits.back ∙ sym now in
    let first : drop (length (first_leaf (told old.blocks.draft history) before.height before.address)) items
    ≡ is.items_new =
    ap (λ (xs : List Item). drop (length xs) items) (sym (is.first key)) ∙ gone in
    subst (λ (xs : List Item). IsReplaced tree before after old new history xs) (sym first) is.replaced

-- what two clauses say of a call that was done
pub done-both : (A B : Type 0) (result : Result A B) (P Q R : Type 0) → (P → Q → R) → OnOk result P → OnOk result Q
    → OnOk result R
done-both A B (Ok x) P Q R both p q = both p q
done-both A B (Err fault) P Q R both p q = tt
