use Rattle.std.proofs.Common.{◌≡◌, drop}
use Rattle.qg_image.specs.Members.{is_member}
use Rattle.qg_account.specs.Standing.{meets}
use Rattle.qg_account.proofs.standing.meets.Given as goal

-- none so far is a member
abbrev pub invariant-loop-sub : goal.invariant-loop-sub
invariant-loop-sub l =
    meets (is_member l.hierarchy l.group) l.owners ≡ meets (is_member l.hierarchy l.group) (drop l.sub-index l.owners)
