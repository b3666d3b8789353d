-- What a commit leaves of what is kept, over any disk: the same trees and references, and no fewer free slots than it
-- may take.
use Rattle.std.proofs.Common.{◌≡◌, ℕ, ◌≤◌, true, List, Option, map, length, sym, ap, subst, ◌∙◌, arith}
use Rattle.std.specs.List.{Contains}
use Rattle.std.proofs.lemmas.List.Elements.{All-contains}
use Rattle.qg_node.specs.Nodes.{header_of}
use Rattle.qg_super.specs.declared.superblock.Super.{Super}
use Rattle.qg_super.specs.SuperText.{sizes_of}
use Rattle.qg_image.specs.declared.quota.Quota.{Quota}
use Rattle.qg_space.specs.Holding.{is_free_slot}
use Rattle.qg_space.proofs.Marks.{SlotsFit-is_served}
use Rattle.qg_open_image.specs.TreeBook.{TreeBook}
use Rattle.qg_qgroups.specs.Tracked.{SameButCounts, quota_of}
use Rattle.qg_open_image.specs.Types.{OtherTrees}
use Rattle.qg_open_image.specs.Trees.{nodes_laid}
use Rattle.qg_open_image.specs.declared.open_image.OpenImage.{OpenImage}
use Rattle.qg_image_commits.specs.declared.planning.Plan.{Plan}
use Rattle.qg_image_commits.specs.Committing.{IsLaidBy, KeepsCommit}
use Rattle.qg_open_image.specs.Keeping.{IsFitted, commit_need}
use Rattle.qg_image_commits.specs.Planning.{IsPlanSo, LeavesRoom}
use Rattle.qg_image_commits.proofs.CanLay.{plan-recounted}
use Rattle.qg_image_commits.proofs.RoomAfter.{free-after}
use Rattle.qg_image_commits.proofs.WhereLaid.{laid-among, laid-many}

module _ (old new : OpenImage) (plan : Plan) (trees : OtherTrees) (fits : IsFitted old) (is : IsPlanSo old plan)
    (laid : IsLaidBy old plan trees) (becomes : KeepsCommit old plan trees new) where
  abbrev besides : List ℕ
  besides = map (λ node. (header_of node).address) (nodes_laid trees)

  free_there : (slot : ℕ) → Contains besides slot → is_free_slot old.fs.land.space slot ≡ true
  free_there slot has =
      All-contains (λ (s : ℕ). is_free_slot old.fs.land.space s ≡ true) plan.slots slot is.is.free.free
      (laid-among (sizes_of old.superblock) old.fs.tree.next plan.roots old.fs.refs.refs plan.quota plan.slots trees
      laid.laid slot has)

  few : length besides ≤ commit_need old
  few =
      let many = laid-many (sizes_of old.superblock) old.fs.tree.next plan.roots old.fs.refs.refs plan.quota plan.slots
      trees laid.laid in
      let most = is.is.most in
      omega (arith, many, most)

  pub leaves-room : LeavesRoom old new
  leaves-room = record {
    pending = becomes.pending;
    generation = let leads = ap (λ (super : Super). super.generation) (becomes.superblock ∙ laid.laid.leads) in
        let next = fits.next in
        omega (arith, leads, next);
    snapshots = becomes.snapshots;
    groups = subst (λ (quota : Option Quota). SameButCounts (quota_of old.quota) quota) (sym becomes.quota)
        (plan-recounted old plan fits is);
    tree = becomes.fs.tree;
    others = becomes.fs.others;
    refs = ap (λ (book : TreeBook). book.refs) becomes.fs.refs;
    held = ap (λ (book : TreeBook). book.held) becomes.fs.refs;
    free = let after = free-after old.fs new.fs besides becomes.fs
        (SlotsFit-is_served old.fs.land.space.sizes fits.drafted.sizes.served).some free_there in
        let most = few in
        omega (arith, after, most);
  }
