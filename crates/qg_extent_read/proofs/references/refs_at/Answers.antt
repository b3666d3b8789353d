use Rattle.std.proofs.Common.{◌≡◌, List, [], arith, ap, map, subst, sym, ◌∙◌}
use Rattle.std.specs.Prelude.{filter}
use Rattle.std.specs.List.{fold}
use Rattle.qg_refs.specs.Counts.{count_of}
use Rattle.qg_refs.specs.declared.counted.Counted.{Counted}
use Rattle.qg_tree_read.specs.Reading.{items_within}
use Rattle.qg_extents.specs.BookRecords.{told_in}
use Rattle.qg_extent_read.specs.Kept.{AreOnce, with_reference}
use Rattle.qg_extent_read.specs.Looked.{end_at, references_begin, told_at}
use Rattle.qg_extent_read.proofs.Entries.{count-entries, count-ones, entry_of, fold-references, once-entries}
use Rattle.qg_extent_read.proofs.Entries.{tells_one, told-ones}
use Rattle.qg_extent_read.proofs.Kept.{fold-parts}
use Rattle.qg_extent_read.proofs.Told.{count-said, told-references}
use Rattle.qg_extent_read.proofs.references.refs_at.Goals as goal

pub returns-in_err-read_items-clause-reads : goal.returns-in_err-read_items-clause-reads
returns-in_err-read_items-clause-reads g c items tells =
    let at = c.args.at in
    let reads = rw (c.key_at-from.ensures, c.key_at-to.ensures) at (c.in_err-read_items.ensures.reads items tells) in
    let count = count-said (references_begin at) (end_at at) items (filter tells_one (told_at at items))
    (told-references at items) tells.says in
    let ones = count-ones (told_at at items) in
    omega (arith, reads, count, ones)

pub returns-in_err-ordered-clause-reads : goal.returns-in_err-ordered-clause-reads
returns-in_err-ordered-clause-reads g c items tells =
    let at = c.args.at in
    let reads = rw (c.key_at-from.ensures, c.key_at-to.ensures) at (c.in_ok-read_items.ensures.reads items tells) in
    let count = count-said (references_begin at) (end_at at) items (filter tells_one (told_at at items))
    (told-references at items) tells.says in
    let ones = count-ones (told_at at items) in
    omega (arith, reads, count, ones)

pub returns-clause-reads : goal.returns-clause-reads
returns-clause-reads g c items tells =
    let at = c.args.at in
    let reads = rw (c.key_at-from.ensures, c.key_at-to.ensures) at (c.in_ok-read_items.ensures.reads items tells) in
    let count = count-said (references_begin at) (end_at at) items (filter tells_one (told_at at items))
    (told-references at items) tells.says in
    let ones = count-ones (told_at at items) in
    omega (arith, reads, count, ones)

pub returns-clause-found : goal.returns-clause-found
returns-clause-found g c items tells once reference =
    let at = c.args.at in
    let told = told_at at items in
    let found = rw (c.key_at-from.ensures, c.key_at-to.ensures, c.new.ensures.items) at
    (c.in_ok-read_items.ensures.found items tells) in
    let entries : c.read_items.new.reader ≡ map entry_of (told_in told) =
    found ∙ fold-parts with_reference [] (items_within (references_begin at) (end_at at) items)
    ∙ ap (fold with_reference []) (told-references at items) ∙ fold-references [] (filter tells_one told)
    ∙ ap (map entry_of) (told-ones told) in
    let ordered = c.in_ok-ordered.ensures (subst (λ (xs : List Counted). AreOnce xs) (sym entries)
    (once-entries (told_in told) once)) reference in
    ordered ∙ ap (λ (xs : List Counted). count_of xs reference) entries ∙ count-entries (told_in told) reference
