-- An image of the trees that were read may be edited, whatever the disk tells.
use Rattle.std.proofs.Common.{◌≡◌, ℕ, Bool, true, List, [], ◌++◌, refl, sym, subst}
use Rattle.std.specs.Prelude.{IfSome, None, Option, Some}
use Rattle.std.specs.List.{list_all}
use Rattle.std.specs.Option.{option_map}
use Rattle.std.proofs.lemmas.List.Folds.{list_all-append}
use Rattle.qg_super.specs.declared.superblock.Super.{Super}
use Rattle.qg_super.specs.Places.{is_slot}
use Rattle.qg_super.specs.SuperText.{sizes_of}
use Rattle.qg_qgroups.specs.declared.state.QuotaState.{QuotaState}
use Rattle.qg_qgroups.specs.Tracked.{quota_of, HoldsAll, IsTracked}
use Rattle.qg_check.specs.declared.image.Image.{Image}
use Rattle.qg_check.specs.declared.judge.Read.{Read}
use Rattle.qg_check.specs.declared.trees.QuotaTree.{QuotaTree}
use Rattle.qg_check.specs.IsImage.{IsEditable, Keeps}
use Rattle.qg_items.specs.declared.root.RootItem.{RootItem}
use Rattle.qg_image.specs.Table.{keys_of}
use Rattle.qg_check.specs.Editable.{AreGroupsOf, AreSubvolumes}
use Rattle.qg_check.specs.Trees.{quota_nodes_read}
use Rattle.qg_check.specs.ReadImage.{IsFit}
use Rattle.qg_check.proofs.Recorded.{known_by}

pass_three : (test : ℕ → Bool) (a b c : List ℕ) → list_all test a ≡ true → list_all test b ≡ true
    → list_all test c ≡ true → list_all test (a ++ b ++ c) ≡ true
pass_three test a b c first second third = rw (list_all-append, list_all-append, first, second, third) refl

tracked_none : (state : Option QuotaState) → IfSome state IsTracked → IfSome state (λ state. HoldsAll state [])
    → IfSome state (λ state. IsTracked state × HoldsAll state [])
tracked_none None tracked none = tt
tracked_none (Some state) tracked none = (tracked, none)

-- of an image with that superblock
kept_editable : (read : Read) (image : Image) → Keeps image.superblock read image → IsFit image.superblock read
    → IsEditable image
kept_editable read image keeps fit =
    let super = image.superblock in
    record {
      superblock = fit.superblock;
      roots = subst (λ (roots : List (ℕ × RootItem)). AreSubvolumes super.generation roots)
          (sym keeps.roots) fit.subvolumes;
      space = keeps.space;
      quota = subst (λ (state : Option QuotaState). AreGroupsOf super.generation (keys_of image.roots) (quota_of state))
          (sym keeps.quota)
          (subst (λ (roots : List (ℕ × RootItem)). AreGroupsOf super.generation (keys_of roots)
          (quota_of (option_map (λ (tree : QuotaTree). tree.quota) read.quotas)))
          (sym keeps.roots) fit.groups);
      tracked = subst (λ (state : Option QuotaState). IfSome state (λ state. IsTracked state × HoldsAll state []))
          (sym keeps.quota)
          (tracked_none (option_map (λ (tree : QuotaTree). tree.quota) read.quotas) fit.tracked fit.none);
      nodes = keeps.nodes;
      others = rw keeps.others
          (pass_three (is_slot (sizes_of super)) read.trees.nodes read.extents.nodes (quota_nodes_read read.quotas)
          fit.roots fit.extents fit.quotas);
      known = known_by super.generation super.nodesize read.extents.parts image.book fit.parts.by keeps.book
          keeps.table;
    }

pub read_editable : (super : Super) (read : Read) (image : Image) → image.superblock ≡ super → Keeps super read image
    → IsFit super read → IsEditable image
read_editable super read image same keeps fit =
    kept_editable read image (subst (λ (s : Super). Keeps s read image) (sym same) keeps)
    (subst (λ (s : Super). IsFit s read) (sym same) fit)

-- whichever place of the superblock is stale
pub stale_editable : (image : Image) (stale : Option ℕ) → IsEditable image → IsEditable (record image { stale = stale })
stale_editable image stale is = record {
  superblock = is.superblock;
  roots = is.roots;
  space = is.space;
  quota = is.quota;
  tracked = is.tracked;
  nodes = is.nodes;
  others = is.others;
  known = is.known;
}
