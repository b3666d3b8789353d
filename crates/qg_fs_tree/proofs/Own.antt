-- Slots that the tree at hand reaches: one where it is one leaf; what comes that was not taken before is among them.
use Rattle.std.proofs.Common.{◌≡◌, ℕ, ◌+◌, ◌≤◌, Bool, true, false, List, arith, refl, sym, ap, subst, ◌∙◌}
use Rattle.std.specs.Prelude.{◌&&◌, ◌||◌, cond, nat_lt, not}
use Rattle.std.specs.List.{Contains, sum_by}
use Rattle.qg_device.specs.History.{History}
use Rattle.qg_num.specs.declared.piece.Piece.{Piece}
use Rattle.qg_node.specs.declared.item.Item.{Item}
use Rattle.qg_super.specs.declared.sizes.Sizes.{Sizes}
use Rattle.qg_blocks.specs.NodesFound.{told}
use Rattle.qg_space.specs.Holding.{Holding, has_slot}
use Rattle.qg_space.proofs.Marks.{SlotsFit-is_served}
use Rattle.qg_tree_edits.specs.Types.{Ground}
use Rattle.qg_tree_edits.specs.Land.{IsDrafted}
use Rattle.qg_extents.specs.Table.{IsTable}
use Rattle.qg_tree_edits.specs.Tree.{Reaches, Root}
use Rattle.qg_tree_edits.proofs.BranchFrames.{reach-same}
use Rattle.qg_tree_edits.specs.Counting.{one, ways}
use Rattle.qg_tree_edits.proofs.Ways.{one-here}
use Rattle.qg_fs_tree.specs.declared.fs_tree.FsTree.{FsTree}
use Rattle.qg_fs_tree.specs.Standing.{IsElsewhere, KeepsTree, Moves, Stands, every_slot, made_slots, nodes_of}
use Rattle.qg_fs_tree.specs.Standing.{own_slots, taken_slots}
use Rattle.qg_fs_tree.proofs.Before.{elsewhere-parts, once, placed, single}
use Rattle.qg_fs_tree.proofs.Beside.{elsewhere, own_ways, slots_of}
use Rattle.qg_fs_tree.proofs.Few.{own-ways}
use Rattle.qg_fs_tree.proofs.Fixed.{taken-beside}
use Rattle.qg_fs_tree.proofs.Made.{slots-less}
use Rattle.qg_fs_tree.proofs.SlotSums.{over-alike, over-one, sums-less, sums-plus}
use Rattle.qg_fs_tree.proofs.Taken.{has-led}

-- ---- one leaf

module _ (fs : FsTree) (history : History) (items : List Item) (names : List (ℕ × Piece))
    (stands : Stands fs history items names) (drafted : IsDrafted fs.land fs.tree.next) where
  -- only one way leads to a root that is a leaf
  pub leaf-own : fs.tree.height ≡ 0 → own_slots fs history ≡ 1
  unfolding ways
  leaf-own low =
      let root = fs.tree.address in
      let led : (q : ℕ) → own_ways fs history q ≡ one root q =
      λ q. ap (λ (height : ℕ). ways (nodes_of fs history) height root q) low in
      let here = one-here root root refl in
      let at_root = led root in
      let place = placed fs history items names stands drafted root (omega (arith, here, at_root)) in
      own-ways fs history (single fs history items names stands drafted)
      ∙ over-alike (slots_of fs) (own_ways fs history) (one root) (λ (s : ℕ). 1) led
      ∙ over-one (slots_of fs) root (once fs history items names stands drafted root place) (λ (s : ℕ). 1)

-- ---- what comes

-- what the other trees reach after an edit they reached before
pub elsewhere-moved : (old new : FsTree) (history : History) → Moves old new history → (q : ℕ)
    → IsElsewhere new history q → IsElsewhere old history q
elsewhere-moved old new history moves q there =
    let among : Contains old.others.items there.tree = subst (λ (others : List Root). Contains others there.tree)
    (others_same moves.trees) there.among in
    record {
      tree = there.tree;
      among = among;
      reached = reach-same (nodes_of old history) (nodes_of new history) there.tree.height there.tree.address
          (λ s reaches. (moves.beside s (record { tree = there.tree; among = among; reached = reaches })).0) q
          there.reached;
    } where
      others_same : new.others ≡ old.others → new.others.items ≡ old.others.items
      others_same same = rw same refl

-- and so it is where pieces are named
pub elsewhere-kept : (old new : FsTree) (history : History) → KeepsTree old new → (q : ℕ)
    → IsElsewhere new history q → IsElsewhere old history q
elsewhere-kept old new history keeps q there = record {
  tree = there.tree;
  among = subst (λ (others : List Root). Contains others there.tree) (others_same keeps.others) there.among;
  reached = subst (λ (l : Ground). Reaches (told l.blocks.draft history) there.tree.height there.tree.address q)
      keeps.land there.reached;
} where
  others_same : new.others ≡ old.others → new.others.items ≡ old.others.items
  others_same same = rw same refl

-- the tree at hand reaches the same then
pub own-kept : (old new : FsTree) (history : History) → KeepsTree old new
    → own_slots new history ≡ own_slots old history
unfolding own_slots
own-kept old new history keeps =
    ap (λ (l : Ground). own_slots (record new { land = l }) history) keeps.land
    ∙ ap (λ (t : Root). own_slots (record old { tree = t }) history) keeps.tree

-- a slot that comes is one that the tree at hand reaches
new_own : (led there had has : Bool) → has ≡ (led || there) → (there ≡ true → had ≡ true)
    → cond (has && not had) 1 0 ≤ cond led 1 0
new_own led there had false is kept = omega arith
new_own led there true true is kept = omega arith
new_own true there false true is kept = omega arith
new_own false true false true is kept = let wrong : false ≡ true = kept refl in absurd cc
new_own false false false true is kept = absurd cc

module _ (old new : FsTree) (history : History) (items items_new : List Item)
    (names names_new : List (ℕ × Piece))
    (stands : Stands old history items names) (drafted : IsDrafted old.land old.tree.next)
    (table : IsTable old.refs.refs)
    (stands_new : Stands new history items_new names_new) (drafted_new : IsDrafted new.land new.tree.next)
    (table_new : IsTable new.refs.refs)
    (others : (q : ℕ) → IsElsewhere new history q → IsElsewhere old history q) where
  pub made-own : made_slots old.land.space new.land.space ≤ own_slots new history
  unfolding made_slots own_slots
  made-own =
      slots-less new.land.space.sizes
      (λ (s : ℕ). cond (has_slot new.land.space s && not (has_slot old.land.space s)) 1 0)
      (λ (s : ℕ). cond (nat_lt 0 (own_ways new history s)) 1 0)
      (SlotsFit-is_served new.land.space.sizes drafted_new.sizes.served).some
      (λ at is. new_own (nat_lt 0 (own_ways new history at)) (elsewhere new history at) (has_slot old.land.space at)
      (has_slot new.land.space at) (has-led new history items_new names_new stands_new drafted_new table_new at is)
      (λ led. taken-beside old history items names stands drafted table at
      (others at (elsewhere-parts new history items_new names_new stands_new drafted_new at led))))

-- ---- slots that are taken

each_more : (had has : Bool) → cond has 1 0 ≤ cond had 1 0 + cond (has && not had) 1 0
each_more true true = omega arith
each_more true false = omega arith
each_more false true = omega arith
each_more false false = omega arith

-- no more are taken than were, and came
pub taken-made : (old new : Holding) → new.sizes ≡ old.sizes → taken_slots new ≤ taken_slots old + made_slots old new
unfolding taken_slots made_slots
taken-made old new sizes =
    let was = λ (s : ℕ). cond (has_slot old s) 1 0 in
    let come = λ (s : ℕ). cond (has_slot new s && not (has_slot old s)) 1 0 in
    let less : taken_slots new ≤ sum_by (λ (s : ℕ). was s + come s) (every_slot new.sizes) =
    sums-less (λ (s : ℕ). cond (has_slot new s) 1 0) (λ (s : ℕ). was s + come s) (every_slot new.sizes)
    (λ s. each_more (has_slot old s) (has_slot new s)) in
    let both : sum_by (λ (s : ℕ). was s + come s) (every_slot new.sizes)
    ≡ sum_by was (every_slot new.sizes) + sum_by come (every_slot new.sizes) =
    sums-plus was come (every_slot new.sizes) in
    let front : taken_slots old ≡ sum_by was (every_slot new.sizes) =
    ap (λ (s : Sizes). sum_by was (every_slot s)) (sym sizes) in
    let back : made_slots old new ≡ sum_by come (every_slot new.sizes) = refl in
    omega (arith, less, both, front, back)
