use Rattle.std.proofs.Common.{◌++◌, Global, Option, Vec, append-nil, sym, ap, ◌∙◌}
use Rattle.std.specs.Prelude.{option_to_list}
use Rattle.qg_image.specs.declared.element.Element.{Element}
use Rattle.qg_extents.specs.Table.{book_of}
use Rattle.qg_subvolumes.proofs.Naming.{known-more}
use Rattle.qg_subvolumes.proofs.extents.extents_known.Goals as goal
use Rattle.qg_subvolumes.proofs.extents.extents_known.Goals.{in-Some+in_ok-push, in_default}

pub loop-owing-preserved : goal.loop-owing-preserved
loop-owing-preserved c =
    let found = c.loop-owing.extents.items in
    let items = λ (extents : Vec Element Global). extents.items in
    let with = λ (given : Option Element). found ++ option_to_list given in
    record {
      known = known-more (book_of c.args.refs.now) c.as_slice-owing-items.result.now c.loop-owing.owing-index
          c.owing-item.result found c.match-extent_at.extents.items c.loop-owing-test.true c.owing-item.is
          c.loop-owing.invariant.known
          (elim c.match-extent_at.branch [
            | in-Some+in_ok-push w ↦
                ap items w.extents-is ∙ w.in_ok-push.ensures.items ∙ ap with (sym w.in-Some.is ∙ c.extent_at.ensures)
            | in_default w ↦
                ap items w.extents-is ∙ sym (append-nil found) ∙ ap with (sym w.in_default.is ∙ c.extent_at.ensures)
          ]);
    }
