use Rattle.std.proofs.Common.{◌≡◌, None, Option, ap, sym, ◌∙◌}
use Rattle.std.specs.Option.{option_copied}
use Rattle.qg_refs.specs.declared.kept.Kept.{Kept}
use Rattle.qg_refs.specs.Book.{references_in}
use Rattle.qg_refs.specs.Counts.{count_of}
use Rattle.qg_refs.proofs.Counting.{count-nil}
use Rattle.qg_extents.specs.Table.{book_of}
use Rattle.qg_extents.proofs.extents.Extents.count_one.Goals as goal

pub returns-in-None : goal.returns-in-None
returns-in-None c =
    let none : book_of c.args.self.now c.args.at ≡ None = sym c.kept.ensures ∙ ap option_copied c.in-None.is in
    sym (ap (λ (kept : Option Kept). count_of (references_in kept) c.args.reference.now) none
    ∙ count-nil c.args.reference.now)
