use Rattle.std.proofs.Common.{◌≡◌, ◌≤◌, List, [], ◌∷◌, ◌++◌, length, arith, refl, subst, sym, ◌∙◌, drop}
use Rattle.std.proofs.lemmas.Bool.{eqb-true}
use Rattle.std.specs.List.{All}
use Rattle.std.proofs.lemmas.List.Elements.{All-drop, All-nil, All-push}
use Rattle.qg_node.specs.declared.pointer.Pointer.{Pointer}
use Rattle.qg_node.specs.Fits.{PointerFits}
use Rattle.qg_tree_layout.proofs.Counts.{wide}
use Rattle.qg_tree_layout.proofs.Growing.{IsGrowing-none, IsGrowing-more, IsNext, PutsRow-all, some_left}
use Rattle.qg_tree_layout.proofs.row.put_row.Goals as goal
use Rattle.qg_tree_layout.proofs.row.put_row.Given.{Over}
use Rattle.qg_tree_layout.proofs.row.put_row.Goals.{After-is_empty}

pub left-init : goal.left-init
left-init g c =
    rw c.new-pointers.ensures (record {
      growing = IsGrowing-none g.T.Part.own g.T.Weighed.weight c.args.level.now.nodesize c.args.level.now.owner
          c.args.level.now.generation c.args.level.now.level c.args.slots.now c.args.parts.now c.args.nodes.now
          c.total-weight.result c.total-weight.ensures c.requires.light c.requires.some c.requires.room;
      left_fit = c.requires.fit;
      fit = All-nil PointerFits;
    })

-- one pointer more
pointers_fit : (pointers : List Pointer) {given pointer : Pointer} → given ≡ pointer → All PointerFits pointers
    → PointerFits given → All PointerFits (pointers ++ pointer ∷ [])
pointers_fit pointers {given} {pointer} same all fits =
    All-push PointerFits pointers pointer all (subst PointerFits same fits)

pub returns-then-is_empty-clause-fit : goal.returns-then-is_empty-clause-fit
returns-then-is_empty-clause-fit g c =
    rw (c.in_ok-push.ensures.ok, c.in_ok-put.ensures.pointer)
    (pointers_fit c.left.pointers c.in_ok-put.ensures.pointer c.left.invariant.fit c.in_ok-put.ensures.fits)

-- the node that was put
next : (g : Over) (c : After-is_empty g)
    → IsNext g.T.Part.own g.T.Weighed.weight c.args.level.now.nodesize c.args.level.now.owner
    c.args.level.now.generation c.args.level.now.level c.args.slots.now c.args.parts.now c.args.nodes.now
    c.left.left.now c.left.nodes c.first_cut-cut.result.count c.first_cut-cut.result.taken c.in_ok-node.node
next g c = record {
  cut = c.first_cut-cut.ensures;
  address = rw c.in_ok-node.ensures.header (rw c.len.ensures at c.index-slots-len.is);
  owned = rw c.in_ok-node.ensures.header refl;
  made = rw c.in_ok-node.ensures.header refl;
  stands = rw c.in_ok-node.ensures.header refl;
  levelled = c.in_ok-node.ensures.levelled;
  holds = c.in_ok-node.ensures.own ∙ c.split_at.ensures.front;
  used = rw (← c.split_at.ensures.front) c.in_ok-node.ensures.used;
  numbers = c.in_ok-node.ensures.fits;
}

big : (g : Over) (c : After-is_empty g) → 102 ≤ c.args.level.now.nodesize
big g c = let size = wide c.args.level.now.nodesize c.requires.size in omega (arith, size)

pub returns-then-is_empty-clause-row : goal.returns-then-is_empty-clause-row
returns-then-is_empty-clause-row g c =
    let at = (goal.at.returns-then-is_empty-clause-row g c).After-is_empty in
    let none : length (drop c.first_cut-cut.result.count c.left.left.now) ≡ 0 =
    rw (← c.split_at.ensures.back) (eqb-true (length c.split_at.result.1.now) 0 (sym c.if-is_empty.ensures)) in
    rw (c.in_ok-put.ensures.put, c.in_ok-push.ensures.ok, c.in_ok-put.ensures.pointer)
    (PutsRow-all g.T.Part.own g.T.Weighed.weight c.args.level.now.nodesize c.args.level.now.owner
    c.args.level.now.generation c.args.level.now.level c.args.slots.now c.args.parts.now c.args.nodes.now
    c.left.left.now c.left.weight c.left.nodes c.left.pointers c.first_cut-cut.result.count c.first_cut-cut.result.taken
    c.in_ok-node.node (big g at) c.left.invariant.growing (next g at) none)

pub left-preserved : goal.left-preserved
left-preserved g c =
    let at = (goal.at.left-preserved g c).After-is_empty in
    let some : 1 ≤ length (drop c.first_cut-cut.result.count c.left.left.now) =
    rw (← c.split_at.ensures.back) (some_left (length c.split_at.result.1.now) (sym c.if-is_empty.ensures)) in
    rw (c.split_at.ensures.back, c.in_ok-put.ensures.put, c.in_ok-push.ensures.ok, c.in_ok-put.ensures.pointer)
    (record {
      growing = IsGrowing-more g.T.Part.own g.T.Weighed.weight c.args.level.now.nodesize c.args.level.now.owner
          c.args.level.now.generation c.args.level.now.level c.args.slots.now c.args.parts.now c.args.nodes.now
          c.left.left.now c.left.weight c.left.nodes c.left.pointers c.first_cut-cut.result.count
          c.first_cut-cut.result.taken c.in_ok-node.node (big g at) c.left.invariant.growing (next g at) some;
      left_fit = All-drop g.T.Part.fits c.first_cut-cut.result.count c.left.left.now c.left.invariant.left_fit;
      fit = pointers_fit c.left.pointers c.in_ok-put.ensures.pointer c.left.invariant.fit c.in_ok-put.ensures.fits;
    })
