use Rattle.std.proofs.Common.{◌≡◌, ℕ, Option, arith, ap, subst, ◌∙◌}
use Rattle.std.specs.Prelude.{filter}
use Rattle.std.specs.List.{fold}
use Rattle.qg_blocks.specs.NodesInMemory.{Draft}
use Rattle.qg_tree_items.specs.Owed.{is_record}
use Rattle.qg_tree_items.specs.Types.{ExtentPart}
use Rattle.qg_tree_read.specs.Reading.{items_within}
use Rattle.qg_extents.specs.BookRecords.{the_record}
use Rattle.qg_extent_read.specs.declared.heads.Records.TheVariants.{Nothing}
use Rattle.qg_extent_read.specs.Kept.{only_of, with_record}
use Rattle.qg_extent_read.specs.Looked.{IsHead, first_at, records_end, told_at}
use Rattle.qg_extent_read.proofs.Kept.{fold-parts, only-taken}
use Rattle.qg_extent_read.proofs.Told.{count-said, told-records}
use Rattle.qg_extent_read.proofs.heads.head_at.Goals as goal

pub returns-in_err-read_items-clause-reads : goal.returns-in_err-read_items-clause-reads
returns-in_err-read_items-clause-reads g c items tells =
    let at = c.args.at in
    let reads = rw (c.key_at-from.ensures, c.key_at-to.ensures) at (c.in_err-read_items.ensures.reads items tells) in
    let count = count-said (first_at at) (records_end at) items (filter is_record (told_at at items))
    (told-records at items) tells.says in
    omega (arith, reads, count)

pub returns-clause-reads : goal.returns-clause-reads
returns-clause-reads g c items tells =
    let at = c.args.at in
    let reads = rw (c.key_at-from.ensures, c.key_at-to.ensures) at (c.in_ok-read_items.ensures.reads items tells) in
    let count = count-said (first_at at) (records_end at) items (filter is_record (told_at at items))
    (told-records at items) tells.says in
    omega (arith, reads, count)

pub returns-clause-found : goal.returns-clause-found
returns-clause-found g c items tells =
    let at = c.args.at in
    let size : c.nodesize.result ≡ c.args.blocks.now.draft.sizes.nodesize =
    c.nodesize.ensures ∙ ap (λ (d : Draft). d.sizes.nodesize) c.in_ok-read_items.ensures.read.draft in
    let found = rw (c.key_at-from.ensures, c.key_at-to.ensures) at (c.in_ok-read_items.ensures.found items tells) in
    let only : only_of c.read_items.new.reader ≡ the_record (told_at at items) =
    ap only_of (found ∙ fold-parts with_record Nothing (items_within (first_at at) (records_end at) items)
    ∙ ap (fold with_record Nothing) (told-records at items)) ∙ only-taken (told_at at items) in
    subst (λ (n : ℕ). IsHead n (the_record (told_at at items)) c.head_among.result) size
    (subst (λ (o : Option ExtentPart). IsHead c.nodesize.result o c.head_among.result) only c.head_among.ensures)
