use Rattle.std.proofs.Common.{List, ap, subst, sym, ◌∙◌}
use Rattle.std.specs.List.Sorted.{IsPermutation}
use Rattle.qg_refs.specs.Counts.{count_of}
use Rattle.qg_refs.specs.declared.counted.Counted.{Counted}
use Rattle.qg_extent_read.specs.Kept.{AreOnce}
use Rattle.qg_extent_read.proofs.Entries.{IsListSoFar, count-moved, ok-then, once-moved}
use Rattle.qg_extent_read.proofs.references.ordered.Goals as goal

pub returns : goal.returns
returns c once =
    let old = c.args.references in
    let new = c.sort_unstable_by_key.new.self.items in
    let moved = subst (λ (xs : List Counted). IsPermutation xs new) c.references.view_is
    c.sort_unstable_by_key.ensures.permutation in
    let slice = c.as_slice.ensures.value in
    ok-then c.list_of.result
    (λ list. IsListSoFar list c.as_slice.result.now)
    (λ list. IsListSoFar list old)
    (λ list listed reference. listed reference ∙ ap (λ (xs : List Counted). count_of xs reference) slice
    ∙ count-moved old new reference moved)
    (c.list_of.ensures (subst (λ (xs : List Counted). AreOnce xs) (sym slice) (once-moved old new moved once)))
