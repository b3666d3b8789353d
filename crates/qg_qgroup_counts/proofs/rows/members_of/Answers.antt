use Rattle.std.proofs.Common.{◌≡◌, ◌+◌, ◌*◌, min, [], sym, subst, arith}
use Rattle.qg_qgroup_counts.specs.Sets.{AreMembers, AreMembersBefore}
use Rattle.qg_qgroup_counts.proofs.Words.{told_none, told_empty, told_all}
use Rattle.qg_qgroup_counts.proofs.rows.members_of.Goals as goal
use Rattle.qg_qgroup_counts.proofs.rows.members_of.Goals.{then-bits-gt0+in_ok-push_members, else-bits-gt0}

pub loop-word-init : goal.loop-word-init
loop-word-init c =
    let none : 0 ≡ min c.args.bound (0 * 64) = omega arith in
    subst (AreMembersBefore c.args.row.now 0 c.args.bound) (sym c.new-members.ensures)
    (subst (λ n. AreMembers c.args.row.now n []) none (told_none c.args.row.now))

pub loop-word-preserved : goal.loop-word-preserved
loop-word-preserved c =
    let row = c.args.row.now in
    let word = c.loop-word.word in
    let bound = c.args.bound in
    elim c.if-bits-gt0.branch [
      | then-bits-gt0+in_ok-push_members w ↦
          subst (AreMembersBefore row (word + 1) bound) (sym w.members-is) w.in_ok-push_members.ensures
      | else-bits-gt0 w ↦
          subst (AreMembersBefore row (word + 1) bound) (sym w.members-is)
          (told_empty row word bound c.loop-word.members (omega (arith, w.if-bits-gt0.false)) c.loop-word.invariant)
    ]

pub returns : goal.returns
returns c =
    told_all c.args.row.now c.loop-word.word c.args.bound c.loop-word.members c.loop-word-test.false
    c.loop-word.invariant
