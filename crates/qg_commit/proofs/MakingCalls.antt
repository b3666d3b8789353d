-- The calls that make an image, one after the other.
use Rattle.std.proofs.Common.{◌≡◌, ℕ, ◌-◌, List, ◌∷◌, length, refl, sym, ap, subst, ◌∙◌}
use Rattle.std.specs.Prelude.{Bool, true, false, Result, Ok, Err, IfErr, IsErrAnd, IsErrOf}
use Rattle.std.proofs.lemmas.Bool.{true≢false}
use Rattle.qg_num.specs.Fields.{zeros}
use Rattle.qg_device.specs.History.{Event, History, Recorded, Wrote, Cut, content, history_after, with_event}
use Rattle.qg_device.proofs.Histories.{adds-both, after-event, after-same}
use Rattle.qg_disk.specs.declared.fault.DiskFault.{DiskFault}
use Rattle.qg_disk.specs.declared.fault.DiskFault.TheVariants as disk
use Rattle.qg_disk.specs.Disk.{Cuts, Writes}
use Rattle.qg_node.specs.declared.node.Node.{Node}
use Rattle.qg_super.specs.declared.sizes.Sizes.{Sizes}
use Rattle.qg_super.specs.declared.superblock.Super.{Super}
use Rattle.qg_super.specs.Places.{slot_at, total_bytes}
use Rattle.qg_super.specs.SuperText.{sizes_of}
use Rattle.qg_commit.specs.declared.fault.MkfsFault.{MkfsFault}
use Rattle.qg_commit.specs.declared.fault.MkfsFault.TheVariants.{NoMemory}
use Rattle.qg_commit.specs.Fault.{mkfs_fault}
use Rattle.qg_commit.specs.Fresh.{fresh_nodes, fresh_super}
use Rattle.qg_commit.specs.Calls.{Call, WriteAt, unsure_calls, unsure_image_calls, with_commit, with_image}
use Rattle.qg_commit.specs.Mkfs.{StopsMaking}
use Rattle.qg_commit.proofs.CommitCalls.{commit-adds, commit-made}
use Rattle.qg_commit.proofs.Fronts.{ComesTo, comes-cut, comes-cut_so, comes-write, comes-written}

-- a cut, the last sector and a commit, of a history that is told or not
calls_one_by_one : (super : Super) (nodes : List Node) (at : ℕ) (old : History)
    → history_after (with_commit super nodes) (with_event (Wrote at (zeros 4096)) (with_event (Cut 0) old))
    ≡ history_after (λ events. with_commit super nodes (Wrote at (zeros 4096) ∷ Cut 0 ∷ events)) old
calls_one_by_one super nodes at old =
    let adds = commit-adds super nodes in
    after-event (Wrote at (zeros 4096)) (with_commit super nodes) adds (with_event (Cut 0) old)
    ∙ after-event (Cut 0) (λ events. with_commit super nodes (Wrote at (zeros 4096) ∷ events))
    (adds-both (λ events. Wrote at (zeros 4096) ∷ events) (with_commit super nodes) (λ events. refl) adds) old

-- that is all that makes an image
image_after : (super : Super) (nodes : List Node) (old : History)
    → history_after (λ events. with_commit super nodes
    (Wrote (total_bytes (sizes_of super) - 4096) (zeros 4096) ∷ Cut 0 ∷ events)) old
    ≡ history_after (with_image super nodes) old
image_after super nodes old = after-same
    (λ events. with_commit super nodes (Wrote (total_bytes (sizes_of super) - 4096) (zeros 4096) ∷ Cut 0 ∷ events))
    (with_image super nodes)
    (λ events. sym (commit-made super nodes
    (Wrote (total_bytes (sizes_of super) - 4096) (zeros 4096) ∷ Cut 0 ∷ events))) old

-- the superblock of a fresh image tells the size of its nodes
pub told-nodesize : {sizes : Sizes} {super : Super} → super ≡ fresh_super sizes (slot_at sizes 0)
    → sizes.nodesize ≡ super.nodesize
told-nodesize is = sym (ap (λ (s : Super). s.nodesize) is)

-- the calls that make an image of these sizes
pub image-made : (sizes : Sizes) (super : Super) (nodes : List Node) (total : ℕ)
    → super ≡ fresh_super sizes (slot_at sizes 0)
    → nodes ≡ fresh_nodes sizes → total ≡ total_bytes sizes → (old cut written new : History)
    → cut ≡ with_event (Cut 0) old
    → written ≡ with_event (Wrote (total - 4096) (zeros 4096)) cut
    → new ≡ history_after (with_commit super nodes) written
    → new ≡ history_after (with_image (fresh_super sizes (slot_at sizes 0)) (fresh_nodes sizes)) old
image-made sizes super nodes total superblock are long old cut written new first second third =
    let zeroed = with_event (Wrote (total - 4096) (zeros 4096)) in
    let both : written ≡ zeroed (with_event (Cut 0) old) = second ∙ ap zeroed first in
    let made : new ≡ history_after (with_commit super nodes) (zeroed (with_event (Cut 0) old)) =
    third ∙ ap (history_after (with_commit super nodes)) both in
    let fresh = fresh_super sizes (slot_at sizes 0) in
    let all : history_after (with_commit super nodes) (zeroed (with_event (Cut 0) old))
    ≡ history_after (λ events. with_commit fresh (fresh_nodes sizes)
    (Wrote (total_bytes sizes - 4096) (zeros 4096) ∷ Cut 0 ∷ events)) old =
    rw superblock (rw are (rw long (calls_one_by_one fresh (fresh_nodes sizes) (total_bytes sizes - 4096) old))) in
    made ∙ all ∙ image_after fresh (fresh_nodes sizes) old

-- ---- how far they came

module _ (sizes : Sizes) (super : Super) (nodes : List Node) (total : ℕ)
    (superblock : super ≡ fresh_super sizes (slot_at sizes 0)) (are : nodes ≡ fresh_nodes sizes)
    (long : total ≡ total_bytes sizes) (old cut : History) where
  abbrev fresh : Super
  fresh = fresh_super sizes (slot_at sizes 0)

  -- the image's calls but for the last sync
  abbrev calls : List Call
  calls = unsure_image_calls fresh (fresh_nodes sizes)

  abbrev place : ℕ
  place = total_bytes sizes - 4096

  -- they came to the cut
  pub comes-to_cut : (size : ℕ) (result : Result Unit DiskFault)
      → ((events : List Event) → old ≡ Recorded events → size ≡ length (content events))
      → Cuts old cut result size 0 → ComesTo calls old cut
  comes-to_cut size result sized is =
      comes-cut 0 (WriteAt place (zeros 4096) ∷ unsure_calls fresh (fresh_nodes sizes)) old cut size result sized is

  module _ (first : cut ≡ with_event (Cut 0) old) (written : History) where
    -- to the last sector
    pub comes-to_sector : (result : Result Unit DiskFault) → Writes cut written result (total - 4096) (zeros 4096)
        → ComesTo calls old written
    comes-to_sector result is =
        comes-cut_so 0 (WriteAt place (zeros 4096) ∷ unsure_calls fresh (fresh_nodes sizes)) old cut written first
        (comes-write place (zeros 4096) (unsure_calls fresh (fresh_nodes sizes)) cut written result
        (subst (λ (n : ℕ). Writes cut written result (n - 4096) (zeros 4096)) long is))

    -- and into the commit
    pub comes-to_commit : (new : History) → written ≡ with_event (Wrote (total - 4096) (zeros 4096)) cut
        → ComesTo (unsure_calls super nodes) written new → ComesTo calls old new
    comes-to_commit new second comes =
        let zeroed : written ≡ with_event (Wrote place (zeros 4096)) cut =
        second ∙ ap (λ (n : ℕ). with_event (Wrote (n - 4096) (zeros 4096)) cut) long in
        let of_nodes = subst (λ (list : List Node). ComesTo (unsure_calls super list) written new) are comes in
        let of_super = subst (λ (s : Super). ComesTo (unsure_calls s (fresh_nodes sizes)) written new) superblock
        of_nodes in
        comes-cut_so 0 (WriteAt place (zeros 4096) ∷ unsure_calls fresh (fresh_nodes sizes)) old cut new first
        (comes-written place (zeros 4096) (unsure_calls fresh (fresh_nodes sizes)) cut written new zeroed of_super)

-- so they came where it was not made
pub stops-err : {A E : Type 0} (result : Result A E) (sizes : Sizes) (old new : History) → StopsMaking sizes old new
    → IfErr result (λ fault. StopsMaking sizes old new)
stops-err (Ok done) sizes old new stops = tt
stops-err (Err fault) sizes old new stops = stops

-- memory is wanted by the disk alone, where its call is answered so
pub wants-memory : {A B : Type 0} (result : Result A MkfsFault) (fault : DiskFault) (takes : Bool) (P : Type 0)
    → (IsErrOf {T = B} (Err fault) disk.NoMemory → takes ≡ true) → IsErrAnd result (λ e. e ≡ mkfs_fault fault)
    → takes ≡ false → result ≡ Err NoMemory → P
wants-memory (Ok done) fault takes P wants is none refused = absurd is
wants-memory (Err e) disk.Failed takes P wants is none refused = absurd cc
wants-memory (Err e) disk.NoMemory takes P wants is none refused =
    absurd (true≢false (sym (wants refl) ∙ none))
