use Rattle.std.proofs.Common.{ap, sym, ◌∙◌}
use Rattle.qg_refs.specs.Book.{what_in}
use Rattle.qg_extents.specs.Table.{book_of}
use Rattle.qg_image_commits.proofs.planning.root_now.Goals as goal

pub returns-in-None-clause-sound : goal.returns-in-None-clause-sound
returns-in-None-clause-sound c = λ known.
    absurd (known (ap what_in (λ i. book_of c.args.book.now (sym c.root-address.ensures i)) ∙ sym c.in-None.ensures))
