use Rattle.std.proofs.Common.{ℕ, ◌+◌, ◌<◌, List, length, get_or, set, bit_or, sym, ap, subst, ◌∙◌, arith}
use Rattle.std.proofs.lemmas.List.{length-set}
use Rattle.qg_qgroup_counts.proofs.Words.{AddedTo, added_more}
use Rattle.qg_qgroup_counts.proofs.rows.add_members.Goals as goal

pub loop-word-preserved : goal.loop-word-preserved
loop-word-preserved c =
    let row = c.loop-word.row in
    let word = c.loop-word.word in
    let more = c.args.more.now in
    let short : word < length row = omega (arith, c.loop-word-test.true, c.loop-word.invariant.long) in
    let written =
    c.set.ensures ∙ ap (λ (now : List ℕ). set row word (bit_or (get_or now word 0) (get_or more word 0)))
    c.as_slice.ensures
    in
    let same = ap (λ (list : List ℕ). length list) written in
    let kept = length-set row word (bit_or (get_or row word 0) (get_or more word 0)) in
    record {
      long = omega (arith, same, kept, c.loop-word.invariant.long);
      added = subst (AddedTo (word + 1) more c.args.row.now) (sym written)
          (added_more more c.args.row.now row word short c.loop-word.invariant.added);
    }
