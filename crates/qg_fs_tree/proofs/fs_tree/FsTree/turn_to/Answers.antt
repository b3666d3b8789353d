use Rattle.std.proofs.Common.{refl, sym, ◌∙◌}
use Rattle.std.proofs.lemmas.Bool.{eqb-true}
use Rattle.std.proofs.lemmas.List.Sorted.{IsPermutation-refl}
use Rattle.std.specs.List.{filter_map}
use Rattle.qg_fs_tree.specs.declared.fs_tree.FsTree.{FsTree}
use Rattle.qg_fs_tree.specs.Standing.{AreNumbered, IsTurned, name_told, trees_of}
use Rattle.qg_fs_tree.proofs.AtHand.{IsTurned-exchanged, Stands-turned, layout-turned, numbered-standing}
use Rattle.qg_fs_tree.proofs.AtHand.{subvolume-turned}
use Rattle.qg_fs_tree.proofs.Numbers.{AreNumbered-turned}
use Rattle.qg_fs_tree.proofs.fs_tree.FsTree.turn_to.Goals as goal

abbrev left : goal.After-stand_for-2 → FsTree
left c = record {
  tree = c.exchange.new.tree;
  others = c.sort.new.trees;
  land = c.args.self.now.land;
  refs = c.stand_for-2.new.self;
}

is_turned : (c : goal.After-stand_for-2) → IsTurned c.args.self.now (left c) c.args.number
is_turned c =
    IsTurned-exchanged c.args.self.now (left c) c.args.number c.in-Some.place c.args.self.now.others.len
    c.as_slice.result.now c.as_mut_slice.result.now c.exchange.new.others c.in-Some.ensures.inside
    c.in-Some.ensures.at c.as_slice.ensures.value c.as_mut_slice.ensures.value c.as_mut_slice.ensures.len
    c.exchange.ensures.tree c.exchange.ensures.others c.sort.ensures.moved refl c.stand_for-2.ensures

pub returns-clause-turned : goal.returns-clause-turned
returns-clause-turned c there = is_turned c

pub returns-clause-numbers : goal.returns-clause-numbers
returns-clause-numbers c numbered =
    AreNumbered-turned c.args.self.now (left c) (is_turned c).trees c.sort.ensures.ascending numbered

pub returns-clause-layout : goal.returns-clause-layout
returns-clause-layout c history numbered there =
    layout-turned c.args.self.now (left c) c.args.number (is_turned c) numbered
    (AreNumbered-turned c.args.self.now (left c) (is_turned c).trees c.sort.ensures.ascending numbered) history

pub returns-clause-stands : goal.returns-clause-stands
returns-clause-stands c history bytes items subvolume stands there =
    let old = c.args.self.now in
    let numbered = numbered-standing old history items (filter_map name_told items) stands in
    Stands-turned old (left c) history items c.args.number stands subvolume.editable.drafted (is_turned c)
    (AreNumbered-turned old (left c) (is_turned c).trees c.sort.ensures.ascending numbered)

pub returns-clause-subvolume : goal.returns-clause-subvolume
returns-clause-subvolume c history bytes subvolume can there =
    subvolume-turned c.args.self.now (left c) c.args.number history bytes subvolume can (is_turned c)

-- ---- the tree is at hand already

abbrev same : goal.After-stand_for → FsTree
same c = record {
  tree = c.args.self.now.tree;
  others = c.args.self.now.others;
  land = c.args.self.now.land;
  refs = c.stand_for.new.self;
}

is_same : (c : goal.After-stand_for) → IsTurned c.args.self.now (same c) c.args.number
is_same c = record {
  owner = sym c.owner.ensures ∙ eqb-true c.owner.result c.args.number (sym c.eq.ensures ∙ c.if-eq.true);
  trees = IsPermutation-refl (trees_of c.args.self.now);
  land = refl;
  refs = c.stand_for.ensures;
}

numbered_still : (c : goal.After-stand_for) → AreNumbered c.args.self.now → AreNumbered (same c)
numbered_still c numbered = record { ascending = numbered.ascending; apart_at = numbered.apart_at }

pub returns-then-eq-clause-layout : goal.returns-then-eq-clause-layout
returns-then-eq-clause-layout c history numbered there =
    layout-turned c.args.self.now (same c) c.args.number (is_same c) numbered (numbered_still c numbered) history

pub returns-then-eq-clause-stands : goal.returns-then-eq-clause-stands
returns-then-eq-clause-stands c history bytes items subvolume stands there =
    let old = c.args.self.now in
    Stands-turned old (same c) history items c.args.number stands subvolume.editable.drafted (is_same c)
    (numbered_still c (numbered-standing old history items (filter_map name_told items) stands))
