use Rattle.std.proofs.Common.{sym}
use Rattle.qg_super.proofs.SuperTexts.{super_read-no_length}
use Rattle.qg_super.proofs.text.read_super.Goals as goal

pub returns-then-bytes-ne-SUPER_BYTES-clause-exact : goal.returns-then-bytes-ne-SUPER_BYTES-clause-exact
returns-then-bytes-ne-SUPER_BYTES-clause-exact c =
    sym (super_read-no_length c.args.place c.args.bytes.now c.if-bytes-ne-SUPER_BYTES.true)
