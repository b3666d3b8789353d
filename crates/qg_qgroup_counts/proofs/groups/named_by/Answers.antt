use Rattle.std.proofs.Common.{[], get_or, ◌∙◌}
use Rattle.std.proofs.lemmas.List.{get_or_default}
use Rattle.qg_qgroup_counts.proofs.Tallied.{named_more}
use Rattle.qg_qgroup_counts.proofs.groups.named_by.Goals as goal

pub loop-member-preserved : goal.loop-member-preserved
loop-member-preserved c =
    let above = c.args.above.now in
    let members = c.args.members.now in
    let i = c.loop-member.member-index in
    let short = c.loop-member-test.true in
    let at = get_or members i 0 in
    let inside = c.requires i 0 short in
    let items =
    c.as_slice.ensures ∙ c.index-above-member.is ∙ get_or_default above at c.index-above-member.result [] inside in
    named_more above members i c.len-end.result c.loop-member.named c.as_slice.result.now c.insert_slice.new.self short
    c.len-end.ensures items c.in_ok-insert_slice.ensures.ok c.loop-member.invariant
