use Rattle.std.proofs.Common.{◌≡◌, ◌<◌, ℕ, List, Option, ap, subst, ◌∙◌, arith, unwrap_or}
use Rattle.qg_refs.specs.declared.kept.Kept.{Kept}
use Rattle.qg_refs.specs.Book.{Book, count_at}
use Rattle.qg_refs.specs.Counts.{greatest_count}
use Rattle.qg_refs.proofs.Counting.{count-nil}
use Rattle.qg_extents.specs.Table.{book_of}
use Rattle.tests_of_structures.proofs.extents.through_the_trait.Goals as goal

pub add-requires-clause-fits : goal.add-requires-clause-fits
add-requires-clause-fits g c book is =
    let at = c.new-at.result in
    let reference = c.of_file.result in
    let none : count_at (book_of c.new-extents.result) at reference ≡ 0 =
    ap (λ (table : List (ℕ × Kept)). count_at (book_of table) at reference) c.new-extents.ensures
    ∙ count-nil reference in
    let most : greatest_count reference ≡ 4294967295 = ap greatest_count c.of_file.ensures in
    subst (λ (b : Book). count_at b at reference < greatest_count reference)
    (ap (λ (o : Option Book). unwrap_or o (book_of c.new-extents.result)) is) (omega (arith, none, most))
