-- The trees of a plan can be laid out, and written with the fresh nodes; and how far a commit came that did not end.
use Rattle.std.proofs.Common.{◌≡◌, ℕ, ◌+◌, ◌*◌, ◌≤◌, ◌^◌, List, Option, inl, inr, sym, subst, ◌∙◌, arith}
use Rattle.std.specs.Prelude.{◌⊎◌, All, IfErr, IsTrue, Result}
use Rattle.std.proofs.lemmas.List.Elements.{recursion_from_All}
use Rattle.std.proofs.lemmas.Result.{IfErr-weaker}
use Rattle.qg_device.specs.History.{Event, History, Recorded}
use Rattle.qg_num.specs.declared.fault.BlockFault.{BlockFault}
use Rattle.qg_node.specs.Nodes.{items_bytes}
use Rattle.qg_items.specs.declared.root.RootItem.{RootItem}
use Rattle.qg_super.specs.declared.sizes.Sizes.{Sizes}
use Rattle.qg_super.specs.Places.{is_served, is_slot}
use Rattle.qg_super.specs.SuperText.{sizes_of}
use Rattle.qg_super.proofs.Served.{SuperFits-is_super}
use Rattle.qg_image.specs.Table.{keys_of}
use Rattle.qg_image.specs.declared.quota.Quota.{Quota}
use Rattle.qg_refs.specs.declared.kept.Kept.{Kept as Reference}
use Rattle.qg_refs.specs.Counts.{Ascend}
use Rattle.qg_extents.specs.Table.{IsTable}
use Rattle.qg_extents.specs.Written.{items_of_book}
use Rattle.qg_extents.proofs.Sayable.{entry-may}
use Rattle.qg_blocks.specs.NodesFound.{IsNodeAt}
use Rattle.qg_weighed.specs.Weight.{weight_of}
use Rattle.qg_weighed.proofs.Law.{no-less}
use Rattle.qg_open_image.specs.Types.{OtherTrees}
use Rattle.qg_open_image.specs.Types.{TreeContents}
use Rattle.qg_open_image.specs.Editable.{AreGroupsOf, AreSubvolumes}
use Rattle.qg_open_image.specs.Trees.{AreEnough, CanBeLaid, nodes_of_trees}
use Rattle.qg_open_image.proofs.Weight.{records_weigh}
use Rattle.qg_open_image.specs.Writing.{AreWritable, IsLaying, StopsLaying}
use Rattle.qg_open_image.specs.declared.open_image.OpenImage.{OpenImage}
use Rattle.qg_image_commits.specs.declared.planning.Plan.{Plan}
use Rattle.qg_image_commits.specs.Committing.{LaysSoFar}
use Rattle.qg_open_image.specs.Keeping.{IsFitted}
use Rattle.qg_image_commits.specs.Planning.{IsPlanSo}
use Rattle.qg_image_commits.proofs.CanLay.{plan-named, plan-told, room}
use Rattle.qg_image_commits.proofs.Planned.{slots-lie}

-- the items of a book take no more than it takes with what the last commit recorded
book-light : (held refs : List (ℕ × Reference)) → IsTable refs
    → items_bytes (items_of_book refs) ≤ weight_of held refs
book-light held refs is =
    let each = recursion_from_All (λ (entry : ℕ × Reference). Ascend entry.1.references) refs
    (λ i d inside. (entry-may refs i d is inside).sound.ascend) in
    let weigh = records_weigh refs is.ascend each in
    let least = no-less held refs in
    subst (λ (n : ℕ). n ≤ weight_of held refs) (sym weigh) least

-- slots are enough for three trees in an image of these sizes
abbrev HaveRoom : Sizes → List (ℕ × Reference) → List (ℕ × RootItem) → Option Quota → List ℕ → Type 0
HaveRoom sizes book roots quota slots = AreEnough (5 * nodes_of_trees sizes.nodesize book roots quota + 3) slots

abbrev KnowsBy : ℕ → List (ℕ × Reference) → Type 0
KnowsBy generation book = All (λ entry. entry.1.what.generation ≤ generation) book

-- what is told to a commit is what is kept, and the plan
pub record TellsPlan (kept : OpenImage) (plan : Plan) (sizes : Sizes) (next : ℕ) (told : TreeContents) (slots : List ℕ)
    : Type 0 where
  pub sizes_are : sizes ≡ sizes_of kept.superblock
  pub next_is : next ≡ kept.fs.tree.next
  pub roots : told.roots.now ≡ plan.roots
  pub book : told.book.now ≡ kept.fs.refs.refs
  pub quota : told.quota.now ≡ plan.quota
  pub slots_are : slots ≡ plan.slots

-- fresh nodes can be written
pub can-be-written : (kept : OpenImage) → IsFitted kept → (sizes : Sizes) → sizes ≡ sizes_of kept.superblock
    → AreWritable sizes kept.fs.land.blocks.draft
can-be-written kept fits sizes is =
    let same : kept.fs.land.space.sizes ≡ sizes = fits.sizes ∙ sym is in
    record {
      each = λ at node fresh.
          let one = fits.drafted.each at node fresh in
          record {
            kept = subst (λ (s : Sizes). IsNodeAt s.nodesize at node) same one.kept;
            slot = subst (λ (s : Sizes). IsTrue (is_slot s at)) same one.slot;
          };
    }

-- and the plan's slots are the image's
pub slots-there : (kept : OpenImage) (plan : Plan) → IsFitted kept → IsPlanSo kept plan
    → (sizes : Sizes) (slots : List ℕ)
    → sizes ≡ sizes_of kept.superblock → slots ≡ plan.slots → All (λ slot. IsTrue (is_slot sizes slot)) slots
slots-there kept plan fits is sizes slots same are =
    subst (λ (list : List ℕ). All (λ slot. IsTrue (is_slot sizes slot)) list) (sym are)
    (slots-lie kept.fs.land.space sizes plan.slots (fits.sizes ∙ sym same) is.is.free)

module _ (kept : OpenImage) (plan : Plan) (fits : IsFitted kept) (is : IsPlanSo kept plan) where
  module _ (sizes : Sizes) (next : ℕ) (told : TreeContents) (slots : List ℕ)
      (tells : TellsPlan kept plan sizes next told slots) where
    named-by : AreSubvolumes next told.roots.now
    named-by =
        subst (λ (T : Type 0). T) (λ i. AreSubvolumes (sym tells.next_is i) (sym tells.roots i))
        (plan-named kept plan fits is)

    told-by : AreGroupsOf next (keys_of told.roots.now) told.quota.now
    told-by =
        subst (λ (T : Type 0). T)
        (λ i. AreGroupsOf (sym tells.next_is i) (keys_of (sym tells.roots i)) (sym tells.quota i))
        (plan-told kept plan fits is)

    knows-by : KnowsBy next told.book.now
    knows-by =
        subst (λ (book : List (ℕ × Reference)). KnowsBy next book) (sym tells.book)
        (subst (λ (generation : ℕ). KnowsBy generation kept.fs.refs.refs) (sym tells.next_is) is.is.earlier)

    has-room : HaveRoom sizes told.book.now told.roots.now told.quota.now slots
    has-room =
        subst (λ (T : Type 0). T)
        (λ i. HaveRoom (sym tells.sizes_are i) (sym tells.book i) (sym tells.roots i) (sym tells.quota i)
        (sym tells.slots_are i))
        (room kept plan fits is (book-light kept.fs.refs.held kept.fs.refs.refs is.is.table))

    pub can-be-laid : kept.superblock.generation ≤ 2 ^ 63 + 1 → CanBeLaid sizes next told slots
    can-be-laid early =
        let next_is = tells.next_is in
        let after = fits.next in
        record {
          served = subst (λ (s : Sizes). IsTrue (is_served s)) (sym tells.sizes_are)
              (SuperFits-is_super kept.superblock fits.superblock).served;
          some = omega (arith, next_is, after);
          early = omega (arith, next_is, after, early);
          subvolumes = named-by;
          groups = told-by;
          known = knows-by;
          room = has-room;
        }

-- how far a commit came
module _ (kept : OpenImage) (plan : Plan) (sizes : Sizes) (next : ℕ) (told : TreeContents) (slots : List ℕ)
    (tells : TellsPlan kept plan sizes next told slots) where
  laying-so : (trees : OtherTrees)
      → IsLaying sizes next told.roots.now told.book.now told.quota.now slots kept.fs.land.blocks.draft trees
      → IsLaying (sizes_of kept.superblock) kept.fs.tree.next plan.roots kept.fs.refs.refs plan.quota plan.slots
      kept.fs.land.blocks.draft trees
  laying-so trees laid =
      subst (λ (T : Type 0). T)
      (λ i. IsLaying (tells.sizes_are i) (tells.next_is i) (tells.roots i) (tells.book i) (tells.quota i)
      (tells.slots_are i) kept.fs.land.blocks.draft trees) laid

  so-far : (events : List Event) (history : History)
      → StopsLaying sizes next told slots kept.fs.land.blocks.draft events history
      → (history ≡ Recorded events) ⊎ LaysSoFar kept plan events history
  so-far events history (inl nothing) = inl nothing
  so-far events history (inr some) =
      inr (record { trees = some.trees; laid = laying-so some.trees some.is; made = some.made })

-- so it is of a commit that did not end
pub stops-so : (kept : OpenImage) (plan : Plan) (sizes : Sizes) (next : ℕ) (told : TreeContents) (slots : List ℕ)
    (events : List Event) (history : History) (result : Result OtherTrees BlockFault)
    → IfErr result (λ fault. StopsLaying sizes next told slots kept.fs.land.blocks.draft events history)
    → TellsPlan kept plan sizes next told slots
    → IfErr result (λ fault. (history ≡ Recorded events) ⊎ LaysSoFar kept plan events history)
stops-so kept plan sizes next told slots events history result stops tells =
    IfErr-weaker result (λ fault. StopsLaying sizes next told slots kept.fs.land.blocks.draft events history)
    (λ fault. (history ≡ Recorded events) ⊎ LaysSoFar kept plan events history)
    (λ fault so. so-far kept plan sizes next told slots tells events history so) stops
