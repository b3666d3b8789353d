use Rattle.std.proofs.Common.{◌≡◌, ℕ, ◌*◌, ◌/◌, ◌%◌, ◌^◌, List, get_or, set, bit_or, sym, ap, subst, ◌∙◌, arith, ◌⊎◌}
use Rattle.std.proofs.Common.{◌↔◌}
use Rattle.qg_qgroup_counts.specs.Sets.{HasMember}
use Rattle.qg_qgroup_counts.proofs.Words.{put_is}
use Rattle.qg_qgroup_counts.proofs.rows.put_member.Goals as goal

pub returns : goal.returns
returns c =
    let padded = c.pad.new.row in
    let member = c.args.member in
    let written =
    c.set.ensures
    ∙ ap (λ (now : List ℕ). set padded (member / 64)
    (bit_or (get_or now (member / 64) 0) (1 * 2 ^ (member % 64) % 2 ^ 64)))
    c.as_slice.ensures in
    subst (λ (row : List ℕ). (other : ℕ) → HasMember row other ↔ (HasMember c.args.row.now other ⊎ (member ≡ other)))
    (sym written)
    (put_is c.args.row.now padded member c.in_ok-pad.ensures.same (omega (arith, c.in_ok-pad.ensures.long)))
