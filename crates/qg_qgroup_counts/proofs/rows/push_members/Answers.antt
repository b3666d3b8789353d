use Rattle.std.proofs.Common.{◌≡◌, ◌+◌, ◌*◌, min, sym, subst, ◌∙◌, arith}
use Rattle.std.proofs.lemmas.Bool.{true≢false}
use Rattle.qg_qgroup_counts.specs.Sets.{AreMembers}
use Rattle.qg_qgroup_counts.proofs.Words.{told_same, told_more, told_past}
use Rattle.qg_qgroup_counts.proofs.rows.push_members.Goals as goal
use Rattle.qg_qgroup_counts.proofs.rows.push_members.Goals.{then-has_member+in_ok-push, else-has_member}

pub loop-member-init : goal.loop-member-init
loop-member-init c =
    let same : min c.args.bound (c.args.word * 64) ≡ c.args.word * 64 = omega arith in
    subst (λ n. AreMembers c.args.row.now n c.args.members.now) same c.requires

pub loop-member-preserved : goal.loop-member-preserved
loop-member-preserved c =
    let row = c.args.row.now in
    let n = c.loop-member.member in
    let members = c.loop-member.members in
    elim c.if-has_member.branch [
      | then-has_member+in_ok-push w ↦
          subst (AreMembers row (n + 1)) (sym (w.members-is ∙ w.in_ok-push.ensures.ok))
          (told_more row n members (c.has_member.ensures.0 w.if-has_member.true) c.loop-member.invariant)
      | else-has_member w ↦
          subst (AreMembers row (n + 1)) (sym w.members-is)
          (told_same row n members (λ has. true≢false (sym (c.has_member.ensures.1 has) ∙ w.if-has_member.false))
          c.loop-member.invariant)
    ]

pub returns-after-loop-member : goal.returns-after-loop-member
returns-after-loop-member c =
    let same : c.loop-member.member ≡ min c.args.bound ((c.args.word + 1) * 64) = omega (arith, c.min.ensures) in
    subst (λ n. AreMembers c.args.row.now n c.loop-member.members) same c.loop-member.invariant

pub returns-else-word-bound : goal.returns-else-word-bound
returns-else-word-bound c = told_past c.args.row.now c.args.word c.args.bound c.args.members.now c.if-word-bound.false
    c.requires
