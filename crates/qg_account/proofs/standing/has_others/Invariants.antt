use Rattle.std.proofs.Common.{◌≡◌, drop}
use Rattle.qg_image.specs.Members.{is_member}
use Rattle.qg_account.specs.Standing.{has_others}
use Rattle.qg_account.proofs.standing.has_others.Given as goal

-- each so far is a member
abbrev pub invariant-loop-sub : goal.invariant-loop-sub
invariant-loop-sub l =
    has_others (is_member l.hierarchy l.group) l.owners ≡ has_others (is_member l.hierarchy l.group)
    (drop l.sub-index l.owners)
