use Rattle.std.proofs.Common.{◌++◌, ap, sym, ◌∙◌}
use Rattle.qg_crc32c.specs.Crc32c.{remainder}
use Rattle.qg_crc32c.proofs.Remainders.{remainder-append}
use Rattle.qg_crc32c.proofs.rows.Rows.register.Goals as goal

pub returns : goal.returns
returns c =
    let rows = c.self.inside in
    rw (
      c.after_words.ensures,
      c.after_words-register-3.ensures,
      c.after_words-register-2.ensures,
      c.after_words-register.ensures,
    ) (
    sym (remainder-append 0 rows.first (rows.second ++ (rows.third ++ rows.fourth))
    ∙ remainder-append (remainder 0 rows.first) rows.second (rows.third ++ rows.fourth)
    ∙ remainder-append (remainder (remainder 0 rows.first) rows.second) rows.third rows.fourth)
    ∙ ap (remainder 0) c.self.view_is)
