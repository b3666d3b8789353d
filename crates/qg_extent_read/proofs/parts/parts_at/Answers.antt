use Rattle.std.proofs.Common.{[], arith, ◌∙◌}
use Rattle.std.specs.List.{filter_map}
use Rattle.qg_tree_items.specs.ItemMeaning.{extent_part}
use Rattle.qg_tree_read.specs.Reading.{items_within}
use Rattle.qg_extent_read.specs.Looked.{end_at, first_at, told_at}
use Rattle.qg_extent_read.specs.Kept.{with_part}
use Rattle.qg_extent_read.proofs.Kept.{fold-parts, fold-push}
use Rattle.qg_extent_read.proofs.Told.{count-said, told-address}
use Rattle.qg_extent_read.proofs.parts.parts_at.Goals as goal

pub returns-clause-found : goal.returns-clause-found
returns-clause-found g c items tells =
    let at = c.args.at in
    let found = rw (c.key_at-from.ensures, c.key_at-to.ensures, c.new.ensures.items) at
    (c.in_ok-read_items.ensures.found items tells) in
    c.all.view_is ∙ found ∙ fold-parts with_part [] (items_within (first_at at) (end_at at) items)
    ∙ fold-push [] (filter_map extent_part (items_within (first_at at) (end_at at) items))
    ∙ told-address at items

pub returns-in_err-read_items-clause-reads : goal.returns-in_err-read_items-clause-reads
returns-in_err-read_items-clause-reads g c items tells =
    let at = c.args.at in
    let reads = rw (c.key_at-from.ensures, c.key_at-to.ensures) at (c.in_err-read_items.ensures.reads items tells) in
    let count = count-said (first_at at) (end_at at) items (told_at at items) (told-address at items) tells.says in
    omega (arith, reads, count)

pub returns-clause-reads : goal.returns-clause-reads
returns-clause-reads g c items tells =
    let at = c.args.at in
    let reads = rw (c.key_at-from.ensures, c.key_at-to.ensures) at (c.in_ok-read_items.ensures.reads items tells) in
    let count = count-said (first_at at) (end_at at) items (told_at at items) (told-address at items) tells.says in
    omega (arith, reads, count)
