use Rattle.tests_of_structures.proofs.tree_refs.take_over.Goals as goal

pub own-requires-clause-drafted : goal.own-requires-clause-drafted
own-requires-clause-drafted g c = c.in_ok-land.ensures.drafted 2
