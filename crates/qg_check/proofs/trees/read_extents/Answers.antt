use Rattle.std.proofs.Common.{List, sym, subst}
use Rattle.std.specs.List.{All}
use Rattle.qg_device.specs.History.{content}
use Rattle.qg_image.specs.declared.part.ExtentPart.{ExtentPart}
use Rattle.qg_image.specs.ItemMeaning.{extent_part}
use Rattle.qg_super.specs.SuperText.{sizes_of}
use Rattle.qg_image.specs.declared.expected.Expected.{Expected}
use Rattle.qg_image.specs.declared.tree.TreeKind.TheVariants.{Extents}
use Rattle.qg_walk.specs.WalkKeeps.{AreAddressesOf}
use Rattle.qg_walk.specs.IsWalk.{IsWalk}
use Rattle.qg_check.specs.Counts.{CountFits}
use Rattle.qg_check.proofs.Passing.{extents_by}
use Rattle.qg_check.proofs.Recorded.{parts_few, parts_ordered}
use Rattle.qg_check.proofs.Said.{tree_read}
use Rattle.qg_check.proofs.SlotsOf.{slots_of_addresses}
use Rattle.qg_check.proofs.trees.read_extents.Goals as goal

pub returns-clause-tree : goal.returns-clause-tree
returns-clause-tree g c = λ events told.
    let walk = subst (λ (expected : Expected). IsWalk Extents extent_part AreAddressesOf c.args.superblock.now
    (content events) expected c.args.root.now.bytenr c.in_ok-walked.walked.parts c.in_ok-walked.walked.nodes)
    c.root_told.ensures (c.in_ok-walked.ensures.found events told) in
    record {
      said = sym (tree_read Extents extent_part c.args.superblock.now (content events) c.args.root.now _ _ walk);
      placed = walk.kept;
    }

pub returns-clause-parts : goal.returns-clause-parts
returns-clause-parts g c =
    let parts = c.in_ok-walked.walked.parts in
    let said = c.in_ok-walked.ensures.ascending in
    let fit : All CountFits parts =
    subst (λ (list : List ExtentPart). All CountFits list) c.as_slice.ensures c.look_at_counts.ensures in
    record {
      ordered = parts_ordered parts said;
      few = parts_few parts said fit;
      by = extents_by c.args.superblock.now.generation parts c.in_ok-walked.ensures.held;
    }

pub returns-clause-slots : goal.returns-clause-slots
returns-clause-slots g c =
    slots_of_addresses (sizes_of c.args.superblock.now) c.in_ok-walked.walked.nodes c.in_ok-walked.ensures.slots
