-- Keys have a total order.
use Rattle.std.specs.Cmp.{IsTotalOrder}
use Rattle.std.proofs.lemmas.Cmp.{nat_cmp_total, on_total, then_total}
use Rattle.qg_num.specs.Key.{key_cmp}

pub key_cmp_total : IsTotalOrder key_cmp
key_cmp_total = then_total (on_total (λ key. key.objectid) nat_cmp_total)
    (then_total (on_total (λ key. key.kind) nat_cmp_total) (on_total (λ key. key.offset) nat_cmp_total))
