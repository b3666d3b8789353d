-- What the book of trees that stand counts, by ways and foreign nodes.
use Rattle.std.proofs.Common.{◌≡◌, ◌≢◌, ℕ, suc, ◌+◌, ◌-◌, ◌<◌, ◌≤◌, Bool, true, List, [], ◌∷◌, get_or, length, Option}
use Rattle.std.proofs.Common.{Some, None, arith, refl, ap, inl, inr}
use Rattle.std.specs.Prelude.{IsTrue, if◌then◌else◌}
use Rattle.std.proofs.lemmas.Bool.Decides.{eqb_tells}
use Rattle.qg_device.specs.History.{History}
use Rattle.qg_num.specs.declared.piece.Piece.{Piece}
use Rattle.qg_node.specs.declared.item.Item.{Item}
use Rattle.qg_node.specs.declared.node.Node.{Node}
use Rattle.qg_node.specs.Nodes.{is_ascending}
use Rattle.qg_items.specs.declared.extent.Reference.{Reference}
use Rattle.qg_super.specs.Places.{is_slot}
use Rattle.qg_image.specs.State.{Placed}
use Rattle.qg_image.specs.Owed.{owed_count}
use Rattle.qg_image.specs.declared.tree.TreeKind.TheVariants.{Files}
use Rattle.qg_image.specs.Walk.{root_expected}
use Rattle.qg_space.proofs.Marks.{SlotsFit-is_served}
use Rattle.qg_tree_edits.specs.Land.{IsDrafted}
use Rattle.qg_tree_edits.specs.Branch.{IsBranch}
use Rattle.qg_tree_edits.specs.Tree.{Root, super_of}
use Rattle.qg_tree_edits.proofs.BranchOrder.{ascends-under, keys_of}
use Rattle.qg_tree_edits.proofs.BranchWalk.{branch-under}
use Rattle.qg_tree_edits.proofs.Branches.{branch-level}
use Rattle.qg_tree_edits.proofs.Under.{IsUnder}
use Rattle.qg_tree_edits.specs.Rooting.{IsRooted}
use Rattle.qg_tree_edits.proofs.PartBelow.{told-ascends}
use Rattle.qg_tree_edits.proofs.Ways.{ways-some}
use Rattle.qg_tree_backrefs.specs.Exchange.{times}
use Rattle.qg_fs_tree.specs.declared.fs_tree.FsTree.{FsTree}
use Rattle.qg_fs_tree.specs.Standing.{IsReached, IsReachedBy, layout_in, name_of, nodes_of, ways_in}
use Rattle.qg_fs_tree.proofs.Beside.{foreign_of, mark_of, own_ways, roots_owed, slots_of}
use Rattle.qg_tree_backrefs.proofs.ReferenceTotals.{many}
use Rattle.qg_fs_tree.proofs.Identity.{branch-keyed, keyed_told}
use Rattle.qg_fs_tree.proofs.WaysSummed.{over-ways, ways-single}
use Rattle.qg_fs_tree.proofs.Keyed.{keyed_ways}
use Rattle.qg_fs_tree.proofs.Layouts.{owed-foreign, owed-is, owed_marked, owed_there}
use Rattle.qg_fs_tree.proofs.Owes.{keyed_in, owed_in}
use Rattle.qg_tree_backrefs.proofs.Owings.{many-cons}
use Rattle.qg_fs_tree.proofs.Owings.{named_by, names_of}
use Rattle.qg_fs_tree.proofs.Places.{slot-once}
use Rattle.qg_fs_tree.proofs.Reached.{reached-some}
use Rattle.qg_fs_tree.proofs.SlotSums.{IsOnce, over, over-plus, over-same}
use Rattle.qg_fs_tree.proofs.Turned.{no_way}

-- a slot is in front of the data area, where pieces name extents
pub names-apart : (owner : ℕ) (names : List (ℕ × Piece)) (at : ℕ)
    → ((i : ℕ) (d : ℕ × Piece) → i < length names → (get_or names i d).1.extent ≢ at) → many (names_of owner names) at
    ≡ 0
names-apart owner [] at differ = refl
names-apart owner (name ∷ names) at differ =
    let first = many-cons (name_of owner name) (names_of owner names) at in
    let rest = names-apart owner names at (λ i d inside. differ (suc i) d (omega (arith, inside))) in
    let other : name.1.extent ≢ at = differ 0 name (omega arith) in
    elim (eqb_tells name.1.extent at) [
      | inl (equal, same) ↦ absurd (other same)
      | inr (unequal, apart) ↦
          let none = ap {B = ℕ} (λ (b : Bool). if b then 1 else 0) unequal in
          omega (arith, first, rest, none)
    ]

-- ---- one of the trees

module _ (fs : FsTree) (history : History) (tree : Root) (items : List Item)
    (rooted : IsRooted Files tree fs.land history items)
    (drafted : IsDrafted fs.land tree.next) where
  whole : IsUnder Files (super_of tree fs.land.blocks.draft) (nodes_of fs history) tree.height
      (root_expected (Some tree.height) None) tree.address items
  whole = record { levelled = refl; walked = rooted.tells.walked; items_are = rooted.tells.items_are }

  pub branch : IsBranch Files (super_of tree fs.land.blocks.draft) (nodes_of fs history) tree.height tree.address
      items
  branch = branch-under Files (super_of tree fs.land.blocks.draft) (nodes_of fs history) tree.height
      (root_expected (Some tree.height) None) tree.address items whole

  pub ascending : is_ascending (keys_of items) ≡ true
  ascending = ascends-under Files (super_of tree fs.land.blocks.draft) (nodes_of fs history)
      (told-ascends fs.land history tree.next drafted) tree.height (root_expected (Some tree.height) None)
      tree.address items whole

  -- at most one way leads to an address
  pub single-way : (q : ℕ) → ways_in fs history tree q ≤ 1
  single-way q = ways-single Files (super_of tree fs.land.blocks.draft) (nodes_of fs history) tree.height
      tree.address items branch ascending q

  pub reached-way : (q : ℕ) → 0 < ways_in fs history tree q → IsReachedBy fs history tree q
  reached-way q some = reached-some (nodes_of fs history) tree.height tree.address q some

  pub way-reached : (q : ℕ) → IsReachedBy fs history tree q → 0 < ways_in fs history tree q
  way-reached q reaches = ways-some (nodes_of fs history) tree.height tree.address q reaches

  -- where it is reached a node is told
  pub node-there : (q : ℕ) → IsReachedBy fs history tree q → (node : Node) × (nodes_of fs history q ≡ Some node)
  node-there q reaches =
      let found = branch-level Files (super_of tree fs.land.blocks.draft) (nodes_of fs history) tree.height
      tree.address items branch q reaches in
      (found.0, found.1)

-- ---- what the layout owes, by ways and foreign nodes

module _ (fs : FsTree) (history : History) (items : List Item)
    (rooted : IsRooted Files fs.tree fs.land history items)
    (drafted : IsDrafted fs.land fs.tree.next)
    (apart : (i : ℕ) (d : Root) → i < length fs.others.items → (get_or fs.others.items i d).owner ≢ fs.tree.owner)
    (placed : (q : ℕ) → IsReached fs history q → IsTrue (is_slot fs.land.space.sizes q)) where
  pub once-there : (q : ℕ) → IsTrue (is_slot fs.land.space.sizes q) → IsOnce (slots_of fs) q
  once-there q is = slot-once fs.land.space.sizes q
      (SlotsFit-is_served fs.land.space.sizes drafted.sizes.served).some is

  pub owed-ways : (foreign beside : ℕ → Option Placed) (at : ℕ) (reference : Reference)
      → ((q : ℕ) → 0 < own_ways fs history q
      → foreign q ≡ foreign_of fs.tree.owner (nodes_of fs history q) (mark_of fs q))
      → ((q : ℕ) → own_ways fs history q ≡ 0
      → times (owed_in (beside q)) at reference ≡ owed_there fs history at reference q)
      → owed_count (layout_in fs history) at reference
      + over (slots_of fs) (own_ways fs history) (λ s. times (keyed_in fs.tree.owner (foreign s)) at reference)
      ≡ keyed_ways fs.tree.owner (own_ways fs history) at reference
      + times (named_by fs.tree.owner items) at reference
      + over (slots_of fs) (own_ways fs history) (λ s. times (owed_in (foreign s)) at reference)
      + (times (roots_owed fs.others.items) at reference
      + over (slots_of fs) (no_way (own_ways fs history)) (λ s. times (owed_in (beside s)) at reference))
  owed-ways foreign beside at reference is there =
      let w = own_ways fs history in
      let owed_s = λ (s : ℕ). times (owed_marked (nodes_of fs history s) (mark_of fs s)) at reference in
      let keyed_s = λ (s : ℕ). times (keyed_in fs.tree.owner (foreign s)) at reference in
      let foreign_s = λ (s : ℕ). times (owed_in (foreign s)) at reference in
      let all_s = λ (s : ℕ). times (keyed_told fs.tree.owner (nodes_of fs history s)) at reference in
      let owed = owed-is fs history at reference (single-way fs history fs.tree items rooted drafted) apart in
      let tree = branch-keyed Files (super_of fs.tree fs.land.blocks.draft) (nodes_of fs history) fs.tree.owner at
      reference fs.tree.height fs.tree.address items (branch fs history fs.tree items rooted drafted) in
      let under = over-ways (nodes_of fs history) (slots_of fs) all_s fs.tree.height fs.tree.address
      (λ q reaches. once-there q (placed q reaches)) in
      let each = over-same (slots_of fs) w (λ (s : ℕ). owed_s s + keyed_s s) (λ (s : ℕ). all_s s + foreign_s s)
      (λ s some. marked s some) in
      let left = over-plus (slots_of fs) w owed_s keyed_s in
      let right = over-plus (slots_of fs) w all_s foreign_s in
      let others = over-same (slots_of fs) (no_way w) (λ (s : ℕ). times (owed_in (beside s)) at reference)
      (owed_there fs history at reference) (λ s none. there s (not_led (w s) none)) in
      omega (arith, owed, tree, under, each, left, right, others) where
        not_led : (n : ℕ) → 0 < 1 - n → n ≡ 0
        not_led n some = omega (arith, some)

        marked : (s : ℕ) → 0 < own_ways fs history s
            → times (owed_marked (nodes_of fs history s) (mark_of fs s)) at reference
            + times (keyed_in fs.tree.owner (foreign s)) at reference
            ≡ times (keyed_told fs.tree.owner (nodes_of fs history s)) at reference
            + times (owed_in (foreign s)) at reference
        marked s some =
            let both = owed-foreign fs.tree.owner (nodes_of fs history s) (mark_of fs s) at reference in
            let keyed = ap (λ (f : Option Placed). times (keyed_in fs.tree.owner f) at reference) (is s some) in
            let shared = ap (λ (f : Option Placed). times (owed_in f) at reference) (is s some) in
            omega (arith, both, keyed, shared)
