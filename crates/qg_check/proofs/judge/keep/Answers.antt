use Rattle.std.proofs.Common.{◌≡◌, ℕ, true, List, map, refl, sym, ap, ◌∙◌, subst}
use Rattle.std.specs.List.{list_all}
use Rattle.std.specs.List.Sorted.{IsNonDecreasingBy, IsStrictlyIncreasing}
use Rattle.std.proofs.lemmas.List.Sums.{list_all-from_AllPass}
use Rattle.std.proofs.lemmas.Result.{err_from_is_err_and}
use Rattle.qg_super.specs.Places.{is_slot}
use Rattle.qg_super.specs.SuperText.{sizes_of}
use Rattle.qg_image.specs.declared.part.ExtentPart.{ExtentPart}
use Rattle.qg_image.specs.Owed.{part_address}
use Rattle.qg_image.specs.State.{layout_of}
use Rattle.qg_num.specs.declared.rule.Rule.TheVariants as rule
use Rattle.qg_image.specs.declared.failure.Failure.TheVariants.{Broken}
use Rattle.qg_image.specs.ImageState.{state_in}
use Rattle.std.specs.Option.{option_map}
use Rattle.qg_reach.specs.Sets.{HaveSame}
use Rattle.qg_extents.specs.Table.{book_of}
use Rattle.qg_extents.specs.BookRecords.{IsTold, records_failure}
use Rattle.qg_qgroup_counts.specs.declared.surveyed.Surveyed.{Surveyed}
use Rattle.qg_check.specs.Trees.{AreFitParts}
use Rattle.qg_check.specs.declared.trees.ExtentTree.{ExtentTree}
use Rattle.qg_check.specs.declared.trees.Trees.{Trees}
use Rattle.qg_check.proofs.Judging.{agrees-recorded, all_at_home, book-owed, book-told, extents-read, parts-read}
use Rattle.qg_check.proofs.Staging.{none_told, sound_handed, tells_same}
use Rattle.qg_check.proofs.StateRead.{kept_read, three}
use Rattle.qg_check.proofs.Together.{references_kept, surveyed_slots}
use Rattle.qg_check.proofs.judge.keep.Goals as goal

-- ---- no rule is broken where it ends early

pub returns-in_err-others-clause-sound : goal.returns-in_err-others-clause-sound
returns-in_err-others-clause-sound c = λ bytes read are is none.
    let found = err_from_is_err_and c.from_residual.result c.from_residual.ensures.1 in
    rw found.1 (rw found.2 refl)

pub returns-in_err-nodes-clause-sound : goal.returns-in_err-nodes-clause-sound
returns-in_err-nodes-clause-sound c = λ bytes read are is none.
    let found = err_from_is_err_and c.from_residual-in_err-nodes.result c.from_residual-in_err-nodes.ensures.1 in
    rw found.1 (rw found.2 refl)

pub read_book-requires : goal.read_book-requires
read_book-requires c = subst (λ (parts : List ExtentPart). IsNonDecreasingBy part_address parts)
    (sym c.as_slice.ensures) c.requires.parts.ordered

-- the book can be read
pub returns-in_err-book-clause-sound : goal.returns-in_err-book-clause-sound
returns-in_err-book-clause-sound c = λ bytes read are is none.
    let super = c.args.superblock in
    let fault = c.in_err-book.field-0.0 in
    let fit = subst (λ (tree : ExtentTree). AreFitParts super.generation tree.parts) is.extents c.requires.parts in
    let parts = c.as_slice.ensures ∙ ap (λ (tree : ExtentTree). tree.parts) is.extents in
    let sound = ap records_failure parts
    ∙ book-told super bytes read are c.requires.served c.args.judged.runs is.named is.space
    (references_kept super bytes none) fit.few in
    sound_handed c.from_residual-in_err-book.result fault c.from_residual-in_err-book.ensures.1
    (none_told fault (tells_same fault (sym (ap (option_map (Broken rule.Refs)) sound)) c.in_err-book.ensures.failure))

-- ---- the end of the function

pub returns-clause-image : goal.returns-clause-image
returns-clause-image c = λ bytes read are is none.
    let super = c.args.superblock in
    let layout = layout_of (state_in super bytes) in
    let served = c.requires.served in
    let runs = c.args.judged.runs in
    let kept = references_kept super bytes none in
    let lie = c.in_ok-nodes.ensures ∙ ap (map (λ (node : Surveyed). node.linked.address)) c.as_slice-2.ensures.value in
    let same_parts = c.as_slice.ensures ∙ ap (λ (tree : ExtentTree). tree.parts) is.extents in
    let parts = parts-read super bytes read are served runs is.named is.space in
    let book = subst (λ (parts : List ExtentPart). IsTold super.nodesize parts (book_of c.in_ok-book.book)) same_parts
    c.in_ok-book.ensures.told in
    kept_read super bytes read _ are (record {
      same = refl;
      roots = ap (λ (trees : Trees). trees.subvolumes) is.trees;
      quota = is.quota;
      others = c.in_ok-others.ensures
          ∙ three (ap (λ (trees : Trees). trees.nodes) is.trees) (ap (λ (tree : ExtentTree). tree.nodes) is.extents)
          is.quota_nodes;
      nodes = subst (λ (list : List ℕ). HaveSame list (map (λ node. node.linked.address) read.nodes.nodes.items))
          (sym lie) is.same;
      ascending = subst IsStrictlyIncreasing (sym lie) is.ascending;
      extents = extents-read super bytes read are runs is.named;
      recorded = subst (λ (parts : List ExtentPart). IsTold super.nodesize parts (book_of c.in_ok-book.book)) parts
          book;
      owed = book-owed super bytes read are served runs is.named is.space kept (book_of c.in_ok-book.book) book;
      agrees = agrees-recorded super bytes read are served runs is.named is.space kept;
      home = all_at_home super bytes layout kept;
    })

pub returns-clause-keeps : goal.returns-clause-keeps
returns-clause-keeps c = λ read is slots.
    let sizes = sizes_of c.args.superblock in
    let those = c.args.judged.nodes.items in
    let inside = surveyed_slots sizes read.nodes those slots is.same in
    let lie = c.in_ok-nodes.ensures ∙ ap (map (λ (node : Surveyed). node.linked.address)) c.as_slice-2.ensures.value in
    let same_parts = c.as_slice.ensures ∙ ap (λ (tree : ExtentTree). tree.parts) is.extents in
    record {
      roots = ap (λ (trees : Trees). trees.subvolumes) is.trees;
      quota = is.quota;
      others = c.in_ok-others.ensures
          ∙ three (ap (λ (trees : Trees). trees.nodes) is.trees) (ap (λ (tree : ExtentTree). tree.nodes) is.extents)
          is.quota_nodes;
      nodes = subst (λ (list : List ℕ). list_all (is_slot sizes) list ≡ true) (sym lie)
          (list_all-from_AllPass (is_slot sizes) (map (λ (node : Surveyed). node.linked.address) those) inside);
      space = is.space;
      book = subst (λ (parts : List ExtentPart). IsTold c.args.superblock.nodesize parts (book_of c.in_ok-book.book))
          same_parts c.in_ok-book.ensures.told;
      table = c.in_ok-book.ensures.table;
    }
