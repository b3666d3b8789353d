-- What stays where only the runs that are taken change.
use Rattle.std.proofs.Common.{◌≡◌, ℕ, List, refl, sym, subst}
use Rattle.qg_device.specs.History.{History}
use Rattle.qg_image.specs.declared.element.Element.{Element}
use Rattle.qg_space.specs.Holding.{Holding, free_slots, is_free_slot}
use Rattle.qg_tree_edits.specs.Types.{Ground}
use Rattle.qg_tree_edits.specs.Land.{IsDrafted}
use Rattle.qg_tree_backrefs.specs.declared.tree_refs.TreeRefs.{TreeRefs}
use Rattle.qg_fs_tree.specs.declared.fs_tree.FsTree.{FsTree}
use Rattle.qg_fs_tree.specs.Standing.{IsSubvolume}

pub slots-runs : (holding : Holding) (runs : List Element) → free_slots (record holding { runs = runs })
    ≡ free_slots holding
unfolding free_slots is_free_slot
slots-runs holding runs = refl

drafted_runs : (land : Ground) (runs : List Element) (generation : ℕ) → IsDrafted land generation
    → IsDrafted (record land { space = record land.space { runs = runs } }) generation
drafted_runs land runs generation drafted = record {
  sizes = record { served = drafted.sizes.served; nodesize = drafted.sizes.nodesize; slots = drafted.sizes.slots };
  each = λ at node fresh.
      let draft = drafted.each at node fresh in
      record { kept = draft.kept; dated = draft.dated; slot = draft.slot; taken = draft.taken; apart = draft.apart };
}

pub subvolume-space : (fs : FsTree) (space : Holding) (runs : List Element) (refs : TreeRefs)
    (history : History) (bytes : ℕ)
    → space ≡ record fs.land.space { runs = runs } → IsSubvolume fs history bytes
    → IsSubvolume (record fs { land = record fs.land { space = space }; refs = refs }) history bytes
subvolume-space fs space runs refs history bytes is subvolume = record {
  editable = record {
    backed = subvolume.editable.backed;
    drafted = subst (λ (h : Holding). IsDrafted (record fs.land { space = h }) fs.tree.next) (sym is)
        (drafted_runs fs.land runs fs.tree.next subvolume.editable.drafted);
    room = subvolume.editable.room;
  };
  makes = subvolume.makes;
}
