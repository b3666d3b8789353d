use Rattle.std.proofs.Common.{refl, arith, lit<}
use Rattle.qg_super.specs.Places.{is_served}
use Rattle.tests_of_files.proofs.Seventh.{known, named, room_for_two}
use Rattle.tests_of_files.proofs.other_trees.lay_without_quota.Goals as goal

pub lay_other_trees-requires : goal.lay_other_trees-requires
unfolding is_served
lay_other_trees-requires c =
    rw (
      c.slots.ensures,
      c.in_ok-book.ensures.exact,
      c.own_roots-roots.ensures,
      c.sizes.ensures,
      c.sizes-2.ensures,
      c.new.ensures,
      c.new-2.ensures,
    ) (record {
      served = refl;
      some = omega arith;
      early = lit< tt;
      subvolumes = named;
      groups = tt;
      known = known;
      room = room_for_two;
    })
