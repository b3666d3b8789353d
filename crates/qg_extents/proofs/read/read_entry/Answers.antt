use Rattle.std.proofs.Common.{◌≡◌, ℕ, List, Option, true, false, sym, ap, subst, ◌∙◌}
use Rattle.std.specs.Prelude.{MatchOption, slice_get}
use Rattle.std.specs.Option.{option_and_then}
use Rattle.qg_tree_items.specs.Types.{ExtentPart}
use Rattle.qg_tree_items.specs.ItemMeaning.{some_passes}
use Rattle.qg_refs.specs.declared.counted.Counted.{Counted}
use Rattle.qg_refs.specs.declared.kept.Kept.{Kept}
use Rattle.qg_extents.specs.BookRecords.{tells_full, what_told}
use Rattle.qg_extents.specs.Reading.{IsGathered, adds_up}
use Rattle.qg_extents.proofs.Singles.{good_entry, no_entry, short_entry, the_one, unsound_entry}
use Rattle.qg_extents.proofs.Tables.{may_be}
use Rattle.qg_extents.proofs.read.read_entry.Goals as goal

pub returns-in_default : goal.returns-in_default
returns-in_default c =
    no_entry c.args.here.now (sym c.only_record.ensures.only
    ∙ ap (λ (index : Option ℕ). option_and_then (slice_get c.args.here.now) index) c.in_default.is)

pub returns-in_default-head_of : goal.returns-in_default-head_of
returns-in_default-head_of c =
    let part = c.index-here-index.result in
    let one = the_one c.args.here.now c.in-Some.index part c.in-Some.ensures.bound c.in-Some.ensures.only
    c.index-here-index.is in
    unsound_entry c.args.here.now part one c.in_default-head_of.ensures

pub returns-in_default-2 : goal.returns-in_default-2
returns-in_default-2 c =
    let here = c.args.here.now in
    let part = c.index-here-index.result in
    let one = the_one here c.in-Some.index part c.in-Some.ensures.bound c.in-Some.ensures.only c.index-here-index.is in
    let refs = c.in-Some-head_of.head.refs in
    let short : adds_up refs here ≡ false =
    subst (λ (found : Option (List Counted)). MatchOption found (adds_up refs here ≡ false) (IsGathered refs here))
    c.in_default-2.is c.in_ok-references.ensures in
    short_entry here part one (subst (λ (n : ℕ). adds_up n here ≡ false) c.in-Some-head_of.ensures.refs short)

pub returns : goal.returns
returns c =
    let here = c.args.here.now in
    let part = c.index-here-index.result in
    let one = the_one here c.in-Some.index part c.in-Some.ensures.bound c.in-Some.ensures.only c.index-here-index.is in
    let head = c.in-Some-head_of.head in
    let of = c.in-Some-head_of.ensures in
    let references = c.in-Some-2.references in
    let gathered : IsGathered head.refs here references =
    subst (λ (found : Option (List Counted)). MatchOption found (adds_up head.refs here ≡ false)
    (IsGathered head.refs here)) c.in-Some-2.is c.in_ok-references.ensures in
    let kept : Kept = record { what = head.what; full = head.full; references = references } in
    record {
      sound = good_entry here part one of.sound (subst (λ (n : ℕ). adds_up n here ≡ true) of.refs gathered.sound);
      what = of.what ∙ sym (ap (λ (only : Option ExtentPart). option_and_then (what_told c.args.nodesize) only) one);
      full = of.full ∙ sym (ap (λ (only : Option ExtentPart). some_passes tells_full only) one);
      count = gathered.count;
      may = may_be kept gathered.list gathered.some gathered.fitting;
    }
