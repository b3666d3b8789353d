-- The direct counts of what is kept: how many bytes can be counted, and what the survey of its nodes tells. All in
-- bytes.
use Rattle.std.proofs.Common.{◌≡◌, ℕ, zero, suc, ◌+◌, ◌*◌, ◌<◌, ◌≤◌, ◌^◌, List, [], ◌∷◌, map, length, get_or}
use Rattle.std.proofs.Common.{sym, ap, subst, ◌∙◌, arith, inl, inr}
use Rattle.std.specs.List.{Contains}
use Rattle.std.specs.List.Sorted.{IsStrictlyIncreasing}
use Rattle.std.proofs.Math.Nat.{mul_comm, mul-le-mul_left}
use Rattle.qg_device.specs.History.{History}
use Rattle.qg_super.specs.declared.sizes.Sizes.{Sizes}
use Rattle.qg_super.specs.Places.{data_begin, sector}
use Rattle.qg_super.specs.SuperText.{sizes_of}
use Rattle.qg_super.proofs.Runs.{WholeRun-is_run}
use Rattle.qg_super.proofs.Served.{SizesFit-is_served, SuperFits-is_super}
use Rattle.qg_image.specs.declared.element.Element.{Element}
use Rattle.qg_image.specs.Owed.{layout_extents}
use Rattle.qg_image.specs.Record.{Record}
use Rattle.qg_image.specs.State.{State, layout_of}
use Rattle.qg_image.proofs.Contained.{contains_cases, contains_here, none_contained}
use Rattle.qg_reach.specs.Sets.{HaveSame}
use Rattle.qg_reach.proofs.Members.{one_mapped}
use Rattle.qg_extents.specs.Table.{IsTable}
use Rattle.qg_space.specs.Holding.{AscendApart}
use Rattle.qg_qgroup_counts.specs.Surveyed.{AreSurveyed, surveyed_of}
use Rattle.qg_qgroup_counts.specs.declared.surveyed.Surveyed.{Surveyed}
use Rattle.qg_survey.proofs.Links.{surveyed-held}
use Rattle.qg_qgroups.specs.Tracked.{quota_of}
use Rattle.qg_open_image.proofs.FsLawsKept.{counted}
use Rattle.qg_open_image.proofs.Runs.{runs-told}
use Rattle.qg_open_image.specs.FsLawsCommitting.{IsInOrder}
use Rattle.qg_open_image.specs.declared.open_image.OpenImage.{OpenImage}
use Rattle.qg_open_image.specs.Keeping.{IsFitted, IsKept, IsKeptWith}
use Rattle.qg_image_commits.specs.Planning.{AreInOrder, HasSurveyed}
use Rattle.qg_image_commits.proofs.Cleaned.{held-now, tree-now}

-- ---- how many

-- nodes that are no more than the slots, and runs in the sectors, have fewer bytes than a counter can tell
pub small-now : (kept : OpenImage) → IsFitted kept → (nodesize nodes bytes : ℕ) → nodesize ≡ kept.superblock.nodesize
    → nodes ≤ kept.superblock.slots → bytes ≤ kept.fs.land.space.sizes.sectors * sector
    → nodesize * nodes + bytes < 2 ^ 64
small-now kept fits nodesize nodes bytes same few within =
    let served = SizesFit-is_served (sizes_of kept.superblock)
    (SuperFits-is_super kept.superblock fits.superblock).served in
    let less : kept.superblock.nodesize * nodes ≤ kept.superblock.nodesize * kept.superblock.slots =
    mul-le-mul_left kept.superblock.nodesize few in
    let area = served.area in
    let turned = mul_comm kept.superblock.nodesize kept.superblock.slots in
    let sizes = ap (λ (sizes : Sizes). sizes.sectors) fits.sizes in
    let sectors = served.sectors in
    let nodes_fit : nodesize * nodes ≤ 66060288 =
    subst (λ (n : ℕ). n * nodes ≤ 66060288) (sym same) (omega (arith, less, area, turned)) in
    omega (arith, nodes_fit, within, sizes, sectors)

-- ---- runs

increasing_cons : (n : ℕ) (ns : List ℕ) → ((m : ℕ) → Contains ns m → n < m) → IsStrictlyIncreasing ns
    → IsStrictlyIncreasing (n ∷ ns)
increasing_cons n [] less up = λ k short. absurd (omega (arith, short))
increasing_cons n (m ∷ ms) less up = λ k short. from k short where
  from : (k : ℕ) → k + 1 < length (n ∷ m ∷ ms) → get_or (n ∷ m ∷ ms) k 0 < get_or (n ∷ m ∷ ms) (k + 1) 0
  from zero short = less m (contains_here m ms)
  from (suc k) short =
      let next : suc (k + 1) ≡ suc k + 1 = omega arith in
      subst (λ (j : ℕ). get_or (m ∷ ms) k 0 < get_or (n ∷ m ∷ ms) j 0) next (up k (omega (arith, short)))

begins_later : (sizes : Sizes) (from : ℕ) (runs : List Element) (y : Element) → AscendApart sizes from runs
    → Contains runs y → from ≤ y.address
begins_later sizes from [] y up has = absurd (none_contained y has)
begins_later sizes from (run ∷ later) y up has =
    let low = up.1 in
    elim (contains_cases run later y has) [
      | inl same ↦
          let at : run.address ≡ y.address = ap (λ (e : Element). e.address) same in
          omega (arith, low, at)
      | inr behind ↦
          let rest = begins_later sizes (run.address + run.bytes) later y up.2 behind in
          omega (arith, low, rest)
    ]

-- they ascend by address
runs_increase : (sizes : Sizes) (from : ℕ) (runs : List Element) → AscendApart sizes from runs
    → IsStrictlyIncreasing (map (λ run. run.address) runs)
runs_increase sizes from [] up = λ k short. absurd (omega (arith, short))
runs_increase sizes from (run ∷ later) up =
    increasing_cons run.address (map (λ (r : Element). r.address) later) first
    (runs_increase sizes (run.address + run.bytes) later up.2) where
      first : (m : ℕ) → Contains (map (λ (r : Element). r.address) later) m → run.address < m
      first m has =
          let other = one_mapped (λ (r : Element). r.address) later m has in
          let some = (WholeRun-is_run sizes run.address run.bytes up.0).some in
          let behind = begins_later sizes (run.address + run.bytes) later other.0 up.2 other.1 in
          let is = other.2 in
          omega (arith, some, behind, is)

-- ---- a state

module _ (kept : OpenImage) (history : History) (bytes : ℕ) (state : State) (names : List Record)
    (fits : IsKept kept history bytes) (table : IsTable kept.fs.refs.refs)
    (keeps : IsKeptWith kept state history names) (order : IsInOrder kept.fs.land.space) where
  named_now : HaveSame kept.fs.land.space.runs (layout_extents (layout_of state))
  named_now =
      let own = tree-now kept history bytes fits table in
      let all = counted kept.fs history bytes state keeps.mine keeps.files own keeps.keeps in
      let told = runs-told kept.fs history bytes state keeps.mine keeps.files own keeps.keeps in
      record {
        into = λ run has. (all.extents run).1 ((told run).0 has);
        back = λ run has. (told run).1 ((all.extents run).0 has);
      }

  surveyed_now : AreSurveyed (layout_of state) (layout_of state).roots
      (map (λ entry. surveyed_of entry.0 entry.1) state.layout) state.sizes.nodesize kept.fs.land.space.runs
  surveyed_now =
      surveyed-held kept.fs.land history kept.fs.refs state (held-now kept history bytes state names fits table keeps)
      fits.fitted.drafted.sizes kept.fs.land.space.runs
      (runs_increase kept.fs.land.space.sizes data_begin kept.fs.land.space.runs order.runs) named_now

  size_now : state.sizes.nodesize ≡ kept.superblock.nodesize
  size_now =
      ap (λ (sizes : Sizes). sizes.nodesize) keeps.keeps.laid.sizes
      ∙ ap (λ (sizes : Sizes). sizes.nodesize) fits.fitted.sizes

  -- what is given to the count is what it asks
  pub asked-now : (roots : List (ℕ × ℕ)) (nodes : List Surveyed) (nodesize : ℕ) (extents : List Element)
      → roots ≡ (layout_of state).roots → nodes ≡ map (λ entry. surveyed_of entry.0 entry.1) state.layout
      → nodesize ≡ kept.superblock.nodesize → extents ≡ kept.fs.land.space.runs
      → AreSurveyed (layout_of state) roots nodes nodesize extents
  asked-now roots nodes nodesize extents of_roots of_nodes of_size of_extents =
      let size : state.sizes.nodesize ≡ nodesize = size_now ∙ sym of_size in
      subst (λ (T : Type 0). T)
      (λ i. AreSurveyed (layout_of state) (sym of_roots i) (sym of_nodes i) (size i) (sym of_extents i)) surveyed_now

-- ---- after the survey

-- what was surveyed is in order still
pub order-still : (old new : OpenImage) (before after : History) (bytes left : ℕ) (nodes given : List Surveyed)
    → HasSurveyed old new before after bytes left → given ≡ nodes → AreInOrder old nodes → AreInOrder new given
order-still old new before after bytes left nodes given looked same order =
    subst (λ (list : List Surveyed). AreInOrder new list) (sym same)
    (subst (λ (kept : OpenImage). AreInOrder kept nodes) (sym looked.rest)
    (record { ascending = order.ascending; few = order.few }))

-- and so is the space, where it was before
pub space-still : (old new : OpenImage) (before after : History) (bytes left : ℕ)
    → HasSurveyed old new before after bytes left → IsInOrder old.fs.land.space → IsInOrder new.fs.land.space
space-still old new before after bytes left looked order =
    subst (λ (kept : OpenImage). IsInOrder kept.fs.land.space) (sym looked.rest) order

-- quota is the same
pub quota-still : (old new : OpenImage) (before after : History) (bytes left : ℕ)
    → HasSurveyed old new before after bytes left → quota_of new.quota ≡ quota_of old.quota
quota-still old new before after bytes left looked = ap (λ (kept : OpenImage). quota_of kept.quota) looked.rest
