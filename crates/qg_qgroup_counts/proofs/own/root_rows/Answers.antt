use Rattle.std.proofs.Common.{◌≡◌, ℕ, ◌+◌, ◌<◌, List, [], length, sym, ap, subst, ◌∙◌, arith, ◌⊎◌, ◌↔◌}
use Rattle.std.specs.declared.vec.Vec.{Vec}
use Rattle.std.specs.declared.alloc.Global.{Global}
use Rattle.std.proofs.lemmas.List.{get_or_default, length-set}
use Rattle.std.proofs.lemmas.Option.{slice_get_within}
use Rattle.qg_owner_rule.proofs.Listed.{at_read}
use Rattle.qg_qgroup_counts.specs.Sets.{HasMember}
use Rattle.qg_qgroup_counts.proofs.Settling.{RootsFirst, roots_none, roots_other, roots_more, roots_all}
use Rattle.qg_qgroup_counts.proofs.own.root_rows.Goals as goal
use Rattle.qg_qgroup_counts.proofs.own.root_rows.Goals.{in-Some+in_ok-put_member, in_default}

pub loop-i-init : goal.loop-i-init
loop-i-init c = record {
  same = c.in_ok-rows.ensures.same;
  roots = roots_none c.args.nodes.now c.args.roots.now c.in_ok-rows.rows.items c.in_ok-rows.ensures.empty;
}

pub loop-i-preserved : goal.loop-i-preserved
loop-i-preserved c =
    let nodes = c.args.nodes.now in
    let roots = c.args.roots.now in
    let i = c.loop-i.i in
    let root = c.index-roots-i.result in
    let rows = c.loop-i.rows.items in
    let here = at_read roots i root c.loop-i-test.true c.index-roots-i.is in
    elim c.match-place_of_node.branch [
      | in-Some+in_ok-put_member w ↦
          let place = w.in-Some.place in
          let stands = w.in-Some.ensures.there in
          let within = slice_get_within nodes place stands.0 stands.1 in
          let inside : place < length rows = omega (arith, within, c.loop-i.invariant.same) in
          let new = w.put_member.new.row in
          let read = w.index_mut.ensures.value ∙ get_or_default rows place w.index_mut.result.now [] inside in
          let put =
          subst (λ (old : List ℕ). (other : ℕ) → HasMember new other ↔ (HasMember old other ⊎ (i ≡ other))) read
          w.in_ok-put_member.ensures in
          let written = ap (λ (v : Vec (List ℕ) Global). v.items) w.rows-is in
          record {
            same = ap (λ (list : List (List ℕ)). length list) written ∙ length-set rows place new
                ∙ c.loop-i.invariant.same;
            roots = subst (RootsFirst nodes roots (i + 1)) (sym written)
                (roots_more nodes roots i root here rows c.loop-i.invariant.roots place new c.requires stands inside
                put);
          }
      | in_default w ↦
          let written = ap (λ (v : Vec (List ℕ) Global). v.items) w.rows-is in
          record {
            same = ap (λ (list : List (List ℕ)). length list) written ∙ c.loop-i.invariant.same;
            roots = subst (RootsFirst nodes roots (i + 1)) (sym written)
                (roots_other nodes roots i root here rows c.loop-i.invariant.roots w.in_default.ensures.absent);
          }
    ]

pub returns-clause-roots : goal.returns-clause-roots
returns-clause-roots c =
    roots_all c.args.nodes.now c.args.roots.now c.loop-i.i c.loop-i.rows.items c.loop-i-test.false
    c.loop-i.invariant.roots
