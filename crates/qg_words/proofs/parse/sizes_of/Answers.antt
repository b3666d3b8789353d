use Rattle.qg_words.proofs.parse.sizes_of.Goals as goal

pub returns : goal.returns
returns c = λ sizes tell i. record {
  nodesize = c.number_of.ensures sizes.nodesize tell.nodesize i;
  slots = c.number_of-2.ensures sizes.slots tell.slots i;
  sectors = c.number_of-3.ensures sizes.sectors tell.sectors i;
}
