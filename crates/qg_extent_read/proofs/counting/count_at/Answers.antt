use Rattle.std.proofs.Common.{arith, ap, refl, ◌∙◌}
use Rattle.std.specs.Prelude.{filter}
use Rattle.std.specs.List.{fold}
use Rattle.qg_tree_read.specs.Reading.{items_within}
use Rattle.qg_extent_read.specs.declared.counting.Counting.{Counting}
use Rattle.qg_extent_read.specs.Kept.{with_count}
use Rattle.qg_extent_read.specs.Looked.{reference_from, reference_to, told_at}
use Rattle.qg_extent_read.proofs.Kept.{count-taken, fold-parts}
use Rattle.qg_extent_read.proofs.Told.{count-said, filter-few, may_tell, told-reference}
use Rattle.qg_extent_read.proofs.counting.count_at.Goals as goal

pub returns-in_err-read_items-clause-reads : goal.returns-in_err-read_items-clause-reads
returns-in_err-read_items-clause-reads g c items tells =
    let at = c.args.at in
    let reference = c.args.reference in
    let reads = rw (c.reference_from-from.ensures, c.reference_to-to.ensures) at
    (c.in_err-read_items.ensures.reads items tells) in
    let count = count-said (reference_from at reference) (reference_to at reference) items
    (filter (may_tell reference) (told_at at items)) (told-reference at reference items) tells.says in
    let few = filter-few (may_tell reference) (told_at at items) in
    omega (arith, reads, count, few)

pub returns-clause-reads : goal.returns-clause-reads
returns-clause-reads g c items tells =
    let at = c.args.at in
    let reference = c.args.reference in
    let reads = rw (c.reference_from-from.ensures, c.reference_to-to.ensures) at
    (c.in_ok-read_items.ensures.reads items tells) in
    let count = count-said (reference_from at reference) (reference_to at reference) items
    (filter (may_tell reference) (told_at at items)) (told-reference at reference items) tells.says in
    let few = filter-few (may_tell reference) (told_at at items) in
    omega (arith, reads, count, few)

pub returns-clause-found : goal.returns-clause-found
returns-clause-found g c items tells once =
    let at = c.args.at in
    let reference = c.args.reference in
    let asked : Counting = record { reference = reference; count = 0 } in
    let found = rw (c.reference_from-from.ensures, c.reference_to-to.ensures) at
    (c.in_ok-read_items.ensures.found items tells) in
    ap (λ (counting : Counting). counting.count)
    (found ∙ fold-parts with_count asked
    (items_within (reference_from at reference) (reference_to at reference) items)
    ∙ ap (fold with_count asked) (told-reference at reference items))
    ∙ count-taken asked (told_at at items) refl once
