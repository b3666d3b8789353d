use Rattle.qg_image_commits.proofs.counting.group_now.Goals as goal

pub returns : goal.returns
returns c = λ number. λ i. (
  number,
  record {
    counters = c.args.counters;
    max_rfer = c.args.group.now.max_rfer;
    max_excl = c.args.group.now.max_excl;
    stamp = c.stamp_after.ensures i;
  },
)
