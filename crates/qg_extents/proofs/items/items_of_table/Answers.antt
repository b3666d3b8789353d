use Rattle.qg_extents.proofs.ItemsSaid.{entries-fit, entries-put}
use Rattle.qg_extents.proofs.items.items_of_table.Goals as goal

pub loop-at-preserved : goal.loop-at-preserved
loop-at-preserved c = record {
  items = entries-put c.loop-at.items c.put_extent.new.items c.loop-at.yielded
      (c.in-Some.at, c.in-Some.kept) c.loop-at.invariant.items c.in_ok-put_extent.ensures.ok;
  fits = entries-fit c.loop-at.yielded (c.in-Some.at, c.in-Some.kept) c.loop-at.invariant.fits
      c.in_ok-put_extent.ensures.fits;
}
