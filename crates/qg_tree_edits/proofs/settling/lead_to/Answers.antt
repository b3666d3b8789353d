use Rattle.std.proofs.Common.{◌≡◌, true, ◌∷◌, ◌++◌, take, drop, [], sym, subst}
use Rattle.std.proofs.lemmas.Option.{MatchOption-at_some}
use Rattle.std.proofs.lemmas.Result.{IfOk-weaker}
use Rattle.qg_node.specs.declared.pointer.Pointer.{Pointer}
use Rattle.qg_node.specs.declared.node.Node.TheVariants.{Inner}
use Rattle.qg_shape.specs.Pointing.{pointer_to}
use Rattle.qg_node.specs.Nodes.{is_ascending, own_pointers}
use Rattle.qg_shape.specs.Parts.{with_pointers}
use Rattle.qg_edit.specs.Outcome.{spliced}
use Rattle.qg_edit.proofs.Leaves.{header-pointers}
use Rattle.qg_tree_edits.proofs.Cutting.{inner-here, stays-cut_ok}
use Rattle.qg_tree_read.proofs.Split.{keys_to}
use Rattle.qg_tree_edits.specs.Editing.{IsCutThere, IsNamed}
use Rattle.qg_tree_edits.proofs.Leading.{led-one, led-two, one-ascends, two-ascend}
use Rattle.qg_tree_edits.proofs.Naming.{names-weaker}
use Rattle.qg_tree_edits.proofs.Unfit.{misled-one, misled-two}
use Rattle.qg_tree_edits.specs.Failing.{IsMisled}
use Rattle.qg_edit.specs.Answering.{CanSplice, IsBrokenUnless}
use Rattle.qg_num.specs.declared.rule.Rule.TheVariants.{Refs}
use Rattle.qg_tree_edits.proofs.settling.lead_to.Goals as goal

pub returns-in-None-clause-led : goal.returns-in-None-clause-led
returns-in-None-clause-led c = λ tree super history level pointers header items can.
    IfOk-weaker c.rewrite_pointers.result _ _
    (λ rest cut. led-one tree super c.args.land.now c.rewrite_pointers.new.land history level c.args.at c.args.from
    c.args.to c.args.instead pointers header items can c.requires.fresh.0
    c.peek.result.now c.peek.ensures rest c.in-None.is c.rewrite_pointers.ensures.rewritten
    (subst (λ (p : Pointer). IsCutThere c.args.land.now.space.sizes.nodesize c.rewrite_pointers.new.land c.args.at
    (Inner header pointers)
    (Inner header (take c.args.from pointers ++ (p ∷ []) ++ drop c.args.to pointers)) rest)
    c.pointer_to-now.ensures.pointer cut))
    (c.rewrite_pointers.ensures.cut (Inner header pointers) can.here)

pub returns-in-Some-clause-led : goal.returns-in-Some-clause-led
returns-in-Some-clause-led c = λ tree super history level pointers header items can.
    let named = MatchOption-at_some _ (IsNamed c.args.land.now) c.in-Some.more c.in-Some.is c.requires.fresh.1 in
    IfOk-weaker c.rewrite_pointers-in-Some.result _ _
    (λ rest cut. led-two tree super c.args.land.now c.rewrite_pointers-in-Some.new.land history level c.args.at
    c.args.from c.args.to c.args.instead pointers header items can c.requires.fresh.0
    c.peek.result.now c.peek.ensures c.in-Some.more c.in-Some.is named c.peek-in-Some.result.now c.peek-in-Some.ensures
    rest c.rewrite_pointers-in-Some.ensures.rewritten
    (subst (λ (p : Pointer). IsCutThere c.args.land.now.space.sizes.nodesize c.rewrite_pointers-in-Some.new.land
    c.args.at (Inner header pointers)
    (Inner header (take c.args.from pointers ++ (p ∷ pointer_to c.peek-in-Some.result.now ∷ [])
    ++ drop c.args.to pointers)) rest) c.pointer_to-now.ensures.pointer
    (subst (λ (p : Pointer). IsCutThere c.args.land.now.space.sizes.nodesize c.rewrite_pointers-in-Some.new.land
    c.args.at (Inner header pointers)
    (Inner header (take c.args.from pointers ++ (c.pointer_to-now.result ∷ p ∷ []) ++ drop c.args.to pointers)) rest)
    c.pointer_to-behind.ensures.pointer cut)))
    (c.rewrite_pointers-in-Some.ensures.cut (Inner header pointers) can.here)

pub returns-in-None-clause-rest : goal.returns-in-None-clause-rest
returns-in-None-clause-rest c = λ node here.
    stays-cut_ok c.args.land.now.space.sizes.nodesize node
    (with_pointers node (spliced c.args.from c.args.to (c.pointer_to-now.result ∷ []) (own_pointers node)))
    c.rewrite_pointers.new.land c.args.at
    c.rewrite_pointers.result
    (header-pointers node _ (inner-here c.args.land.now c.args.at node c.requires.parent.0 here c.requires.parent.1
    c.requires.parent.2)) (c.rewrite_pointers.ensures.cut node here)

pub returns-in-Some-clause-rest : goal.returns-in-Some-clause-rest
returns-in-Some-clause-rest c = λ node here.
    stays-cut_ok c.args.land.now.space.sizes.nodesize node
    (with_pointers node (spliced c.args.from c.args.to (c.pointer_to-now.result ∷ c.pointer_to-behind.result ∷ [])
    (own_pointers node)))
    c.rewrite_pointers-in-Some.new.land c.args.at c.rewrite_pointers-in-Some.result
    (header-pointers node _ (inner-here c.args.land.now c.args.at node c.requires.parent.0 here c.requires.parent.1
    c.requires.parent.2)) (c.rewrite_pointers-in-Some.ensures.cut node here)

-- ---- where a rule is named

pub returns-in-None-clause-fails : goal.returns-in-None-clause-fails
returns-in-None-clause-fails c =
    let land = c.args.land.now in
    let at = c.args.at in
    let from = c.args.from in
    let to = c.args.to in
    let instead = c.args.instead in
    let now = c.pointer_to-now.result in
    let is = c.pointer_to-now.ensures.pointer in
    let fails = c.rewrite_pointers.ensures.fails in
    record {
      sound = λ tree super history level pointers header items can.
          fails.sound (Inner header pointers) can.here
          (subst (λ (p : Pointer). is_ascending (keys_to (take from pointers ++ (p ∷ []) ++ drop to pointers)) ≡ true)
          (sym is)
          (one-ascends tree super land c.rewrite_pointers.new.land history level at from to instead pointers header
          items can c.requires.fresh.0 c.peek.result.now c.peek.ensures c.in-None.is));
      broken = λ node here. names-weaker c.rewrite_pointers.result
          (IsBrokenUnless Refs node (CanSplice from to (now ∷ []) node)) (IsMisled land node from to instead)
          (λ rule address bad. misled-one land node from to instead c.peek.result.now now rule address
          c.requires.fresh.0 c.peek.ensures c.in-None.is is bad)
          (fails.broken node here);
      no_disk = fails.no_disk;
    }

pub returns-in-Some-clause-fails : goal.returns-in-Some-clause-fails
returns-in-Some-clause-fails c =
    let land = c.args.land.now in
    let at = c.args.at in
    let from = c.args.from in
    let to = c.args.to in
    let instead = c.args.instead in
    let now = c.pointer_to-now.result in
    let behind = c.pointer_to-behind.result in
    let is = c.pointer_to-now.ensures.pointer in
    let is_behind = c.pointer_to-behind.ensures.pointer in
    let one = c.peek.result.now in
    let two = c.peek-in-Some.result.now in
    let named = MatchOption-at_some _ (IsNamed land) c.in-Some.more c.in-Some.is c.requires.fresh.1 in
    let fails = c.rewrite_pointers-in-Some.ensures.fails in
    record {
      sound = λ tree super history level pointers header items can.
          fails.sound (Inner header pointers) can.here
          (subst (λ (p : Pointer). is_ascending (keys_to (take from pointers ++ (p ∷ behind ∷ [])
          ++ drop to pointers)) ≡ true) (sym is)
          (subst (λ (p : Pointer). is_ascending (keys_to (take from pointers ++ (pointer_to one ∷ p ∷ [])
          ++ drop to pointers)) ≡ true) (sym is_behind)
          (two-ascend tree super land c.rewrite_pointers-in-Some.new.land history level at from to instead pointers
          header items can c.requires.fresh.0 one c.peek.ensures c.in-Some.more c.in-Some.is named two
          c.peek-in-Some.ensures)));
      broken = λ node here. names-weaker c.rewrite_pointers-in-Some.result
          (IsBrokenUnless Refs node (CanSplice from to (now ∷ behind ∷ []) node)) (IsMisled land node from to instead)
          (λ rule address bad. misled-two land node from to instead c.in-Some.more one two now behind rule address
          c.requires.fresh.0 named c.peek.ensures c.peek-in-Some.ensures c.in-Some.is is is_behind bad)
          (fails.broken node here);
      no_disk = fails.no_disk;
    }
