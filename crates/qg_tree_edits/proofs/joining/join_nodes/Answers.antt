use Rattle.std.proofs.Common.{◌≡◌, rules, ap, ◌∙◌}
use Rattle.std.specs.Prelude.{Ok}
use Rattle.std.proofs.lemmas.Result.{on_err_weaker}
use Rattle.qg_shape.specs.declared.joining.Joined.TheVariants.{Whole, Parted}
use Rattle.qg_tree_edits.proofs.Pairs.{AreRewritten-err, AreRewritten-parted, AreRewritten-whole, AreTaken-pair}
use Rattle.qg_tree_edits.proofs.Pairs.{BreaksNone-joined, IsJoinedThere-err, IsJoinedThere-parted, IsJoinedThere-whole}
use Rattle.qg_tree_edits.proofs.Pairs.{taken-left, taken-right}
use Rattle.qg_tree_edits.proofs.joining.join_nodes.Goals.{in_default-via-in-Ok+in_default, in_default-via-in_default}
use Rattle.qg_tree_edits.proofs.Pairs.{names-joined}
use Rattle.qg_tree_edits.proofs.joining.join_nodes.Goals as goal

pub get_mut-requires : goal.get_mut-requires
get_mut-requires c =
    taken-left c.args.land.now c.take_node-other.new.land c.args.left c.args.right c.take_node-other.result
    c.requires.apart c.requires.pair
    c.take_node-other.ensures.taken c.take_node-other.ensures.left

pub merge-joined-requires-clause-left : goal.merge-joined-requires-clause-left
merge-joined-requires-clause-left c =
    let taken = AreTaken-pair c.args.land.now c.take_node-other.new.land c.args.left c.args.right
    c.nodesize-nodesize.result c.get_mut.result.now c.take_node-other.result
    c.requires.apart c.requires.pair c.nodesize-nodesize.ensures c.take_node-other.ensures.taken
    c.take_node-other.ensures.left c.get_mut.ensures.value in
    taken.left_sound

pub merge-joined-requires-clause-level : goal.merge-joined-requires-clause-level
merge-joined-requires-clause-level c =
    let taken = AreTaken-pair c.args.land.now c.take_node-other.new.land c.args.left c.args.right
    c.nodesize-nodesize.result c.get_mut.result.now c.take_node-other.result
    c.requires.apart c.requires.pair c.nodesize-nodesize.ensures c.take_node-other.ensures.taken
    c.take_node-other.ensures.left c.get_mut.ensures.value in
    taken.level

pub merge-joined-requires-clause-thin : goal.merge-joined-requires-clause-thin
merge-joined-requires-clause-thin c =
    let taken = AreTaken-pair c.args.land.now c.take_node-other.new.land c.args.left c.args.right
    c.nodesize-nodesize.result c.get_mut.result.now c.take_node-other.result
    c.requires.apart c.requires.pair c.nodesize-nodesize.ensures c.take_node-other.ensures.taken
    c.take_node-other.ensures.left c.get_mut.ensures.value in
    taken.thin

pub get_mut-requires-in_default : goal.get_mut-requires-in_default
get_mut-requires-in_default c =
    let taken = AreTaken-pair c.args.land.now c.take_node-other.new.land c.args.left c.args.right
    c.nodesize-nodesize.result c.get_mut.result.now c.take_node-other.result
    c.requires.apart c.requires.pair c.nodesize-nodesize.ensures c.take_node-other.ensures.taken
    c.take_node-other.ensures.left c.get_mut.ensures.value in
    taken-right c.args.land.now c.take_node-other.new.land c.args.left c.args.right c.nodesize-nodesize.result
    c.get_mut.result.now c.take_node-other.result c.merge-joined.new.left taken

pub returns-in-Ok-Whole-clause-rewritten : goal.returns-in-Ok-Whole-clause-rewritten
returns-in-Ok-Whole-clause-rewritten c =
    let taken = AreTaken-pair c.args.land.now c.take_node-other.new.land c.args.left c.args.right
    c.nodesize-nodesize.result c.get_mut.result.now c.take_node-other.result
    c.requires.apart c.requires.pair c.nodesize-nodesize.ensures c.take_node-other.ensures.taken
    c.take_node-other.ensures.left c.get_mut.ensures.value in
    let which : c.in-Ok-Whole.field-0 ≡ Whole = search rules in
    let is : c.merge-joined.result ≡ Ok Whole = c.in-Ok-Whole.is ∙ ap Ok which in
    AreRewritten-whole c.args.land.now c.take_node-other.new.land c.args.left c.args.right c.nodesize-nodesize.result
    c.get_mut.result.now c.take_node-other.result c.merge-joined.new.left c.merge-joined.new.right
    c.merge-joined.result taken is c.merge-joined.ensures.nodes

pub returns-in-Ok-Whole-clause-joined : goal.returns-in-Ok-Whole-clause-joined
returns-in-Ok-Whole-clause-joined c =
    let taken = AreTaken-pair c.args.land.now c.take_node-other.new.land c.args.left c.args.right
    c.nodesize-nodesize.result c.get_mut.result.now c.take_node-other.result
    c.requires.apart c.requires.pair c.nodesize-nodesize.ensures c.take_node-other.ensures.taken
    c.take_node-other.ensures.left c.get_mut.ensures.value in
    let which : c.in-Ok-Whole.field-0 ≡ Whole = search rules in
    let is : c.merge-joined.result ≡ Ok Whole = c.in-Ok-Whole.is ∙ ap Ok which in
    IsJoinedThere-whole c.args.land.now c.take_node-other.new.land c.args.left c.args.right c.nodesize-nodesize.result
    c.get_mut.result.now c.take_node-other.result c.merge-joined.new.left c.merge-joined.new.right
    c.merge-joined.result taken is c.merge-joined.ensures.joined

pub returns-in_default-clause-rewritten : goal.returns-in_default-clause-rewritten
returns-in_default-clause-rewritten c =
    let taken = AreTaken-pair c.args.land.now c.take_node-other.new.land c.args.left c.args.right
    c.nodesize-nodesize.result c.get_mut.result.now c.take_node-other.result
    c.requires.apart c.requires.pair c.nodesize-nodesize.ensures c.take_node-other.ensures.taken
    c.take_node-other.ensures.left c.get_mut.ensures.value in
    elim c.in_default.branch [
      | in_default-via-in-Ok+in_default w ↦
          let which : w.in_default.field-0 ≡ Parted = search rules in
          AreRewritten-parted c.args.land.now c.take_node-other.new.land c.args.left c.args.right
          c.nodesize-nodesize.result c.get_mut.result.now c.take_node-other.result c.merge-joined.new.left
          c.merge-joined.new.right c.merge-joined.result taken (w.in_default.is
          ∙ ap Ok which) c.merge-joined.ensures.nodes
      | in_default-via-in_default w ↦
          AreRewritten-err c.args.land.now c.take_node-other.new.land c.args.left c.args.right
          c.nodesize-nodesize.result c.get_mut.result.now c.take_node-other.result c.merge-joined.new.left
          c.merge-joined.new.right w.in_default.field-0 c.merge-joined.result taken w.in_default.is
          (on_err_weaker c.merge-joined.result (λ same. same.0) c.merge-joined.ensures.err)
          (on_err_weaker c.merge-joined.result (λ same. same.1) c.merge-joined.ensures.err)
    ]

pub returns-in_default-clause-joined : goal.returns-in_default-clause-joined
returns-in_default-clause-joined c =
    let taken = AreTaken-pair c.args.land.now c.take_node-other.new.land c.args.left c.args.right
    c.nodesize-nodesize.result c.get_mut.result.now c.take_node-other.result
    c.requires.apart c.requires.pair c.nodesize-nodesize.ensures c.take_node-other.ensures.taken
    c.take_node-other.ensures.left c.get_mut.ensures.value in
    elim c.in_default.branch [
      | in_default-via-in-Ok+in_default w ↦
          let which : w.in_default.field-0 ≡ Parted = search rules in
          IsJoinedThere-parted c.args.land.now c.take_node-other.new.land c.args.left c.args.right
          c.nodesize-nodesize.result c.get_mut.result.now c.take_node-other.result c.merge-joined.new.left
          c.merge-joined.new.right c.merge-joined.result taken (w.in_default.is
          ∙ ap Ok which) c.merge-joined.ensures.joined
      | in_default-via-in_default w ↦ IsJoinedThere-err c.args.land.now _ c.args.left c.args.right w.in_default.field-0
          c.merge-joined.result w.in_default.is
    ]

pub returns-in_default-clause-sound : goal.returns-in_default-clause-sound
returns-in_default-clause-sound c =
    let taken = AreTaken-pair c.args.land.now c.take_node-other.new.land c.args.left c.args.right
    c.nodesize-nodesize.result c.get_mut.result.now c.take_node-other.result
    c.requires.apart c.requires.pair c.nodesize-nodesize.ensures c.take_node-other.ensures.taken
    c.take_node-other.ensures.left c.get_mut.ensures.value in
    BreaksNone-joined c.args.land.now c.take_node-other.new.land c.args.left c.args.right c.nodesize-nodesize.result
    c.get_mut.result.now c.take_node-other.result c.merge-joined.result taken c.merge-joined.ensures.sound

-- ---- where a rule is named

pub returns-in_default-clause-broken : goal.returns-in_default-clause-broken
returns-in_default-clause-broken c =
    let taken = AreTaken-pair c.args.land.now c.take_node-other.new.land c.args.left c.args.right
    c.nodesize-nodesize.result c.get_mut.result.now c.take_node-other.result
    c.requires.apart c.requires.pair c.nodesize-nodesize.ensures c.take_node-other.ensures.taken
    c.take_node-other.ensures.left c.get_mut.ensures.value in
    names-joined c.args.land.now c.take_node-other.new.land c.args.left c.args.right c.nodesize-nodesize.result
    c.get_mut.result.now c.take_node-other.result c.merge-joined.new.left c.merge-joined.new.right
    c.merge-joined.result taken c.merge-joined.ensures.answers
    (on_err_weaker c.merge-joined.result (λ same. same.0) c.merge-joined.ensures.err)
    (on_err_weaker c.merge-joined.result (λ same. same.1) c.merge-joined.ensures.err)
