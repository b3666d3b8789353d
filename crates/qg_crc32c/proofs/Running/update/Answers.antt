use Rattle.std.proofs.Common.{◌∙◌, refl}
use Rattle.qg_crc32c.proofs.Remainders.{remainder-append}
use Rattle.qg_crc32c.proofs.Running.update.Goals as goal

pub returns : goal.returns
returns c = λ so_far taken. record {
  is = c.remainder_after-self-inside.ensures
      ∙ rw (c.self.view_is, taken.is, remainder-append) refl;
}
