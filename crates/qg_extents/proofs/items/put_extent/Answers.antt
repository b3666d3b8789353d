use Rattle.std.proofs.Common.{◌≡◌, ◌+◌, ◌<◌, List, ◌∷◌, length, take, drop, sym, ap, subst, ◌∙◌, arith}
use Rattle.std.specs.Prelude.{All}
use Rattle.std.proofs.lemmas.List.{drop_more, take_all}
use Rattle.std.proofs.lemmas.List.Elements.{All-more}
use Rattle.qg_refs.specs.declared.counted.Counted.{Counted}
use Rattle.qg_extents.specs.Written.{CountedFits, refs_of}
use Rattle.qg_extents.proofs.ItemsSaid.{references-put}
use Rattle.qg_extents.proofs.items.put_extent.Goals as goal

pub loop-entry-preserved : goal.loop-entry-preserved
loop-entry-preserved c =
    let references = c.as_slice-references.result.now in
    let i = c.loop-entry.entry-index in
    let entry = c.entry-item.result in
    let inside : i < length references = omega arith in
    let split = drop_more references i entry inside ∙ ap (λ (e : Counted). e ∷ drop (i + 1) references)
    (sym c.entry-item.is) in
    record {
      items = references-put c.loop-entry.items c.push-in-loop-entry.new.self c.in_ok-reference_item.field-0 c.args.at
          c.loop-entry.number c.number_behind-number.result entry
          (drop i references) (drop (i + 1) references) c.in_ok-push-2.ensures.ok c.in_ok-reference_item.ensures.exact
          c.number_behind-number.ensures.exact split
          ∙ c.loop-entry.invariant.items;
      number = omega (arith, c.number_behind-number.ensures.bound, c.loop-entry.invariant.number);
      fits = All-more CountedFits references i entry inside c.loop-entry.invariant.fits
          (subst CountedFits c.entry-item.is c.reference_item.ensures.fits);
    }

pub returns-clause-fits : goal.returns-clause-fits
returns-clause-fits c =
    let references = c.as_slice-references.result.now in
    let all : take c.loop-entry.entry-index references ≡ references = take_all c.loop-entry.entry-index references
    (omega arith) in
    let same = c.as_slice-references.ensures.same in
    record {
      address = omega arith;
      bytes = c.record_item.ensures.bytes;
      level = c.record_item.ensures.level;
      generation = c.record_item.ensures.generation;
      refs = omega (arith, c.record_item.ensures.refs, c.in-Some.ensures, ap refs_of same);
      references = subst (λ (entries : List Counted). All CountedFits entries) (all ∙ same) c.loop-entry.invariant.fits;
    }
