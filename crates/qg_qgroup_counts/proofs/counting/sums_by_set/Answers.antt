use Rattle.std.proofs.Common.{ℕ, ◌+◌, ◌^◌, ◌<◌, true, List, length, take, set, sym, ap, subst, ◌∙◌, arith}
use Rattle.std.proofs.lemmas.List.{get_or_default, length-set, length-replicate}
use Rattle.qg_qgroup_counts.specs.declared.counting.Portion.{Portion}
use Rattle.qg_qgroup_counts.specs.Portions.{given, sum_where, bytes_where}
use Rattle.qg_qgroup_counts.proofs.SetWeights.{sum_zeros, bytes_start, bytes_next, added_small, written}
use Rattle.qg_qgroup_counts.proofs.counting.sums_by_set.Goals as goal

pub loop-portion-init : goal.loop-portion-init
loop-portion-init c =
    let zeros = c.in_ok-sums.ensures.items_if_clones_equal (λ y same. same) in
    record {
      same = ap (λ (ns : List ℕ). length ns) zeros ∙ length-replicate c.args.count 0;
      sums = λ test. ap (λ (ns : List ℕ). sum_where test 0 ns) zeros ∙ sum_zeros test 0 c.args.count
          ∙ sym (bytes_start test c.args.portions.now);
    }

pub overflow_add-index_mut : goal.overflow_add-index_mut
overflow_add-index_mut c =
    let sums = c.loop-portion.sums.items in
    let portions = c.args.portions.now in
    let i = c.loop-portion.portion-index in
    let item = c.portion-item.result in
    let k = c.number.result in
    let short = c.loop-portion-test.true in
    let counted =
    subst (λ (p : Portion). p.set < c.args.count) (sym c.portion-item.is) (c.requires.inside i item short) in
    let inside : k < length sums = omega (arith, c.number.ensures, counted, c.loop-portion.invariant.same) in
    let read = c.index_mut.ensures.value ∙ get_or_default sums k c.index_mut.result.now 0 inside in
    let small =
    added_small sums portions i item k (2 ^ 64) short c.portion-item.is inside
    (c.loop-portion.invariant.sums (λ _. true)) c.requires.small in
    omega (arith, small, read)

pub loop-portion-preserved : goal.loop-portion-preserved
loop-portion-preserved c =
    let sums = c.loop-portion.sums.items in
    let portions = c.args.portions.now in
    let i = c.loop-portion.portion-index in
    let item = c.portion-item.result in
    let k = c.number.result in
    let short = c.loop-portion-test.true in
    let counted =
    subst (λ (p : Portion). p.set < c.args.count) (sym c.portion-item.is) (c.requires.inside i item short) in
    let inside : k < length sums = omega (arith, c.number.ensures, counted, c.loop-portion.invariant.same) in
    let read = c.index_mut.ensures.value ∙ get_or_default sums k c.index_mut.result.now 0 inside in
    record {
      same = length-set sums k (c.index_mut.result.now + item.bytes) ∙ c.loop-portion.invariant.same;
      sums = λ test.
          ap (λ n. sum_where test 0 (set sums k (n + item.bytes))) read ∙ written test sums k item.bytes inside
          ∙ ap (λ n. n + given (test k) item.bytes) (c.loop-portion.invariant.sums test)
          ∙ ap (λ j. bytes_where test (take i portions) + given (test j) item.bytes) c.number.ensures
          ∙ sym (bytes_next test portions i item short c.portion-item.is);
    }
