use Rattle.std.proofs.Common.{◌∙◌, ap, arith}
use Rattle.std.specs.Ordering.{is_lt}
use Rattle.qg_num.specs.Key.{key_cmp}
use Rattle.qg_edit.proofs.Order.{joined-lists}
use Rattle.qg_edit.proofs.ordering.are_joined.Goals as goal

pub returns-in-len1-up-back : goal.returns-in-len1-up-back
returns-in-len1-up-back g c =
    c.is_before.ensures
    ∙ ap (λ k. is_lt (key_cmp k c.key-in-len1-up-back.result)) c.key.ensures
    ∙ ap (λ k. is_lt (key_cmp (g.T.Keyed.key_of c.last-item.result) k)) c.key-in-len1-up-back.ensures
    ∙ joined-lists g.T.Keyed.key_of c.args.front.now c.args.back.now c.last-item.result c.first-item.result
    c.requires.front c.requires.back
    (omega (arith, c.in-len1-up.len_at_least)) (omega (arith, c.in-len1-up-back.len_at_least)) c.last-item.is
    c.first-item.is
