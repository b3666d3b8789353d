use Rattle.std.proofs.Common.{sym, subst, arith}
use Rattle.qg_extents.specs.Written.{ReferenceFits}
use Rattle.qg_extents.proofs.items.reference_item.Goals as goal

pub returns-in-KeyedBlock-clause-fits : goal.returns-in-KeyedBlock-clause-fits
returns-in-KeyedBlock-clause-fits c = record {
  reference = subst ReferenceFits (sym c.in-KeyedBlock.is)
      (omega (arith, c.value.ensures, c.block_item.ensures.from));
  count = c.block_item.ensures.count;
}

pub returns-in-SharedBlock-clause-fits : goal.returns-in-SharedBlock-clause-fits
returns-in-SharedBlock-clause-fits c = record {
  reference = subst ReferenceFits (sym c.in-SharedBlock.is)
      (omega (arith, c.value-in-SharedBlock.ensures, c.block_item-in-SharedBlock.ensures.from));
  count = c.block_item-in-SharedBlock.ensures.count;
}

pub returns-in-KeyedData-clause-fits : goal.returns-in-KeyedData-clause-fits
returns-in-KeyedData-clause-fits c = record {
  reference = subst ReferenceFits (sym c.in-KeyedData.is)
      (c.keyed_item.ensures.root, c.keyed_item.ensures.ino, c.keyed_item.ensures.offset);
  count = c.keyed_item.ensures.count;
}

pub returns-in-SharedData-clause-fits : goal.returns-in-SharedData-clause-fits
returns-in-SharedData-clause-fits c = record {
  reference = subst ReferenceFits
      (sym c.in-SharedData.is) c.shared_item.ensures.parent;
  count = c.shared_item.ensures.count;
}
