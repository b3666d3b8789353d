use Rattle.std.proofs.Common.{rules, subst, sym}
use Rattle.qg_num.specs.Fields.{IsBytes}
use Rattle.qg_num.specs.Key.{IsKey}
use Rattle.qg_node.proofs.item.Item.copy.Goals as goal

pub returns-clause-fits : goal.returns-clause-fits
returns-clause-fits c =
    let bytes : IsBytes c.as_slice-bytes.result.now = λ i. search rules in
    record {
      key = subst IsKey (sym c.fitting-key.ensures.same) c.fitting-key.ensures.fits;
      body = subst IsBytes (sym c.in_ok-body.ensures) bytes;
    }
