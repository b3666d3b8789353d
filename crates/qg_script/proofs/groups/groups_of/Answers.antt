use Rattle.std.proofs.Common.{All, ℕ, ◌<◌, ◌^◌, refl, sym, subst, ap, ◌∙◌}
use Rattle.std.proofs.lemmas.List.Elements.{All-nil}
use Rattle.qg_script.proofs.GroupTexts.{all_read, fits_more, group_more, is_empty_text, is_some_text, none_read_yet}
use Rattle.qg_script.proofs.GroupTexts.{no_group_first, shorter_behind, some_after}
use Rattle.qg_script.proofs.groups.groups_of.Goals as goal

pub words-init : goal.words-init
words-init c =
    let start = none_read_yet c.args.text.now c.new-groups.ensures in
    record { read = start.0; fit = start.1; only = λ groups are. (groups, are) }

pub returns-in_default-clause-none : goal.returns-in_default-clause-none
returns-in_default-clause-none c groups are =
    let more = c.words.invariant.only groups are in
    no_group_first more.0 more.1 (is_some_text c.words.rest.now c.is_empty.result c.is_empty.ensures c.words-test.true)
    c.in_default.ensures.none

pub words-preserved : goal.words-preserved
words-preserved c =
    let next = c.in-Some.ensures.found in
    record {
      read = group_more c.words.groups c.words.invariant.read next c.in_ok-push.ensures.ok;
      fit = fits_more c.words.groups c.in-Some.next.0 c.words.invariant.fit next.fits c.in_ok-push.ensures.ok;
      only = λ groups are.
          let more = c.words.invariant.only groups are in
          some_after more.0 more.1 next;
    }

pub words-smaller : goal.words-smaller
words-smaller c = shorter_behind c.in-Some.ensures.found

pub returns-clause-found : goal.returns-clause-found
returns-clause-found c = record {
  whole = all_read c.words.groups c.words.invariant.read
      (is_empty_text c.words.rest.now c.is_empty.result c.is_empty.ensures c.words-test.false);
  fit = c.words.invariant.fit;
}
