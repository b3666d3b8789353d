use Rattle.std.proofs.Common.{ℕ, ◌+◌, ◌*◌, ◌%◌, ◌^◌, ◌<◌, List, length, take, get_or, set, vec_len, bit_or, sym, ap}
use Rattle.std.proofs.Common.{subst, ◌∙◌, arith}
use Rattle.std.specs.declared.vec.Vec.{Vec}
use Rattle.std.specs.declared.alloc.Global.{Global}
use Rattle.std.proofs.lemmas.List.{take_all, get_or_default}
use Rattle.std.proofs.lemmas.Option.{slice_get_within}
use Rattle.qg_owner_rule.specs.Marks.{AreOfRoots}
use Rattle.qg_owner_rule.proofs.Listed.{at_read}
use Rattle.qg_owner_rule.proofs.Marking.{none_in_zeros, own_bit, other_bit, roots_none, roots_other, roots_more}
use Rattle.qg_owner_rule.proofs.marks.root_marks.Goals as goal
use Rattle.qg_owner_rule.proofs.marks.root_marks.Goals.{in-Some, in_default}

pub loop-bit-init : goal.loop-bit-init
loop-bit-init c =
    let zeros = c.in_ok-rows.ensures.items_if_clones_equal (λ y same. same) in
    record {
      same = c.in_ok-rows.ensures.len;
      roots = roots_none c.args.nodes.now c.args.group.now c.in_ok-rows.rows.items (λ place.
          ap (λ (rows : List ℕ). get_or rows place 0) zeros ∙ none_in_zeros (length c.args.nodes.now) place);
    }

pub loop-bit-preserved : goal.loop-bit-preserved
loop-bit-preserved c =
    let nodes = c.args.nodes.now in
    let group = c.args.group.now in
    let bit = c.loop-bit.bit in
    let root = c.index-group-bit.result in
    let rows = c.loop-bit.rows.items in
    let here = at_read group bit root c.loop-bit-test.true c.index-group-bit.is in
    elim c.match-place_of_node.branch [
      | in-Some w ↦
          let place = w.in-Some.place in
          let stands = w.in-Some.ensures.there in
          let within = slice_get_within nodes place stands.0 stands.1 in
          let inside : place < length rows = omega (arith, within, c.loop-bit.invariant.same, c.loop-bit.rows.ok.0) in
          let few : bit < 64 = omega (arith, c.requires.few, c.loop-bit-test.true) in
          let mark = 1 * 2 ^ bit % 2 ^ 64 in
          let read = w.index_mut.ensures.value ∙ get_or_default rows place w.index_mut.result.now 0 inside in
          let written =
          ap (λ (v : Vec ℕ Global). v.items) w.rows-is ∙ ap (λ (n : ℕ). set rows place (bit_or n mark)) read in
          record {
            same = ap (λ (v : Vec ℕ Global). vec_len v) w.rows-is ∙ c.loop-bit.invariant.same;
            roots = subst (AreOfRoots nodes (take (bit + 1) group)) (sym written)
                (roots_more nodes group bit root here rows place mark c.requires.ascend stands inside (own_bit bit few)
                (other_bit bit few) c.loop-bit.invariant.roots);
          }
      | in_default w ↦ record {
        same = ap (λ (v : Vec ℕ Global). vec_len v) w.rows-is ∙ c.loop-bit.invariant.same;
        roots = subst (AreOfRoots nodes (take (bit + 1) group)) (sym (ap (λ (v : Vec ℕ Global). v.items) w.rows-is))
            (roots_other nodes group bit root here rows w.in_default.ensures.absent c.loop-bit.invariant.roots);
      }
    ]

pub returns-clause-roots : goal.returns-clause-roots
returns-clause-roots c =
    subst (λ group. AreOfRoots c.args.nodes.now group c.loop-bit.rows.items)
    (take_all c.loop-bit.bit c.args.group.now c.loop-bit-test.false) c.loop-bit.invariant.roots
