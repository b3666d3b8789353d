use Rattle.std.proofs.Common.{ℕ, [], ◌∷◌, ◌+◌, ◌++◌, true, refl, ap, ◌∙◌}
use Rattle.std.proofs.lemmas.List.{get_or_read}
use Rattle.qg_account.proofs.PivotOwners.{pivots-met}
use Rattle.qg_account.proofs.pivots.stayed.Goals as goal

pub returns-clause-found : goal.returns-clause-found
returns-clause-found c =
    let before = c.args.before.now in
    let walk = c.args.walk in
    let found = c.args.found.now in
    let owner = c.index-before-walk.result in
    pivots-met before c.args.now.now walk found c.requires.found
    (record { old = walk.old + 1; new = walk.new + 1; stays = true }) c.requires.old c.requires.new c.requires.same refl
    refl c.push.new.self
    (c.in_ok-push.ensures.ok
    ∙ ap (λ (n : ℕ). found ++ n ∷ []) (get_or_read before walk.old owner c.requires.old c.index-before-walk.is 0))
