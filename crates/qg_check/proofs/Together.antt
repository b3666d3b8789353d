-- The failures of what the trees of an image say together, where its extents keep their rule.
use Rattle.std.proofs.Common.{◌≡◌, ℕ, ◌+◌, ◌*◌, ◌^◌, ◌<◌, true, List, [], ◌∷◌, map, length, get_or, Option, None, Some}
use Rattle.std.proofs.Common.{refl, sym, ap, ◌∙◌, subst, arith}
use Rattle.std.specs.Prelude.{All, IsTrue}
use Rattle.std.specs.List.Sorted.{IsStrictlyIncreasing}
use Rattle.std.specs.Option.{option_map}
use Rattle.std.proofs.Math.Nat.{mul-le-mul_right}
use Rattle.std.proofs.lemmas.List.{length-map}
use Rattle.std.proofs.lemmas.List.Elements.{All-map}
use Rattle.qg_items.specs.declared.root.RootItem.{RootItem}
use Rattle.qg_super.specs.declared.sizes.Sizes.{Sizes}
use Rattle.qg_super.specs.declared.superblock.Super.{Super}
use Rattle.qg_super.specs.Places.{is_served, is_slot}
use Rattle.qg_super.specs.SuperText.{sizes_of}
use Rattle.qg_super.proofs.Served.{SizesFit-is_served}
use Rattle.qg_image.specs.Table.{keys_of}
use Rattle.qg_image.specs.declared.part.ExtentPart.{ExtentPart}
use Rattle.qg_image.specs.declared.element.Element.{Element}
use Rattle.qg_image.specs.State.{Layout, layout_of}
use Rattle.qg_image.specs.Members.{level_of_group}
use Rattle.qg_image.specs.Counts.{bytes_of}
use Rattle.qg_image.specs.Space.{present_extents}
use Rattle.qg_image.specs.declared.failure.Failure.{Failure}
use Rattle.qg_image.specs.Failure.{first_failure}
use Rattle.qg_image.specs.ImageState.{state_in}
use Rattle.qg_image.specs.Verdict.{counts_failure, extent_set, references_failure, space_failure, together_failure}
use Rattle.qg_walk.specs.declared.fault.OpenFault.{OpenFault}
use Rattle.qg_walk.specs.Fault.{TellsFailure}
use Rattle.qg_walk.specs.WalkKeeps.{AreInSlots}
use Rattle.qg_reach.specs.Sets.{HaveSame}
use Rattle.qg_reach.proofs.SlotRule.{slots_few}
use Rattle.qg_reach.proofs.SpaceRule.{bytes_fit}
use Rattle.qg_qgroup_counts.specs.declared.surveyed.Surveyed.{Surveyed}
use Rattle.qg_qgroup_counts.specs.Surveyed.{AreSurveyed}
use Rattle.qg_shared_walk.specs.declared.nodes.NodesRead.{NodesRead}
use Rattle.qg_shared_walk.specs.Gathered.{AreGathered, root_at}
use Rattle.qg_shared_walk.specs.NodeFacts.{AreOfNodes}
use Rattle.qg_qgroups.specs.declared.state.QuotaState.{QuotaState}
use Rattle.qg_qgroups.specs.Tracked.{quota_of}
use Rattle.qg_check.specs.declared.judge.Read.{Read}
use Rattle.qg_check.specs.declared.trees.QuotaTree.{QuotaTree}
use Rattle.qg_check.specs.Editable.{AreSubvolumes}
use Rattle.qg_check.proofs.Groups.{lowest_number}
use Rattle.qg_check.specs.Trees.{AreRead}
use Rattle.qg_check.proofs.Judging.{AreNamedBy, extents-read, gathered-read}
use Rattle.qg_check.proofs.Staging.{tells_first, pass_first, tells_same}
use Rattle.qg_check.proofs.SlotsOf.{same_slots, slots_of_gathered}
use Rattle.qg_check.proofs.StateRead.{quota_of_state, quota_read}

-- ---- subvolumes by number

pub same_numbers : (subvolumes : List (ℕ × RootItem)) → keys_of (map root_at subvolumes) ≡ keys_of subvolumes
same_numbers [] = refl
same_numbers (entry ∷ subvolumes) = ap (λ (rest : List ℕ). entry.0 ∷ rest) (same_numbers subvolumes)

pub numbers_up : (generation : ℕ) (subvolumes : List (ℕ × RootItem)) (roots : List (ℕ × ℕ))
    → roots ≡ map root_at subvolumes
    → AreSubvolumes generation subvolumes → IsStrictlyIncreasing (keys_of roots)
numbers_up generation subvolumes roots are fit =
    subst IsStrictlyIncreasing (sym (ap keys_of are ∙ same_numbers subvolumes)) fit.ascending

-- each is the number of a group of level 0
pub roots_lowest : (generation : ℕ) (subvolumes : List (ℕ × RootItem)) (roots : List (ℕ × ℕ))
    → roots ≡ map root_at subvolumes
    → AreSubvolumes generation subvolumes → All (λ root. level_of_group root.0 ≡ 0) roots
roots_lowest generation subvolumes roots are fit =
    subst (λ (list : List (ℕ × ℕ)). All (λ root. level_of_group root.0 ≡ 0) list) (sym are)
    (All-map (λ (root : ℕ × ℕ). level_of_group root.0 ≡ 0) root_at subvolumes
    (λ k d inside. lowest_number (get_or subvolumes k d).0 (fit.numbers k d inside)))

pub surveyed_moved : (layout : Layout) (roots roots' : List (ℕ × ℕ)) (those those' : List Surveyed) (nodesize : ℕ)
    (extents extents' : List Element)
    → roots' ≡ roots → those' ≡ those → extents' ≡ extents → AreSurveyed layout roots those nodesize extents
    → AreSurveyed layout roots' those' nodesize extents'
surveyed_moved layout roots roots' those those' nodesize extents extents' r t e are =
    subst (λ (list : List (ℕ × ℕ)). AreSurveyed layout list those' nodesize extents') (sym r)
    (subst (λ (list : List Surveyed). AreSurveyed layout roots list nodesize extents') (sym t)
    (subst (λ (list : List Element). AreSurveyed layout roots those nodesize list) (sym e) are))

pub same_space : (sizes sizes' : Sizes) (a b : List Element) → sizes' ≡ sizes → b ≡ a
    → space_failure sizes a ≡ space_failure sizes' b
same_space sizes sizes' a b h k = rw (h, k) refl

-- ---- where all three are kept

second_none : (a b c : Option Failure) → first_failure (a ∷ b ∷ c ∷ []) ≡ None → b ≡ None
second_none a None c none = refl
second_none None (Some failure) c none = absurd cc
second_none (Some other) (Some failure) c none = absurd cc

pub references_kept : (super : Super) (bytes : List ℕ) → together_failure super bytes ≡ None
    → references_failure super bytes (layout_of (state_in super bytes)) ≡ None
references_kept super bytes none =
    second_none (space_failure (sizes_of super) (extent_set (present_extents (state_in super bytes))))
    (references_failure super bytes (layout_of (state_in super bytes)))
    (counts_failure (layout_of (state_in super bytes)) (state_in super bytes).quota) none

-- ---- over any disk

-- what was surveyed of nodes that lie in slots
pub surveyed_slots : (sizes : Sizes) (read : NodesRead) (those : List Surveyed) → AreInSlots sizes AreOfNodes read
    → HaveSame (map (λ node. node.linked.address) those) (map (λ node. node.linked.address) read.nodes.items)
    → All (λ slot. IsTrue (is_slot sizes slot)) (map (λ node. node.linked.address) those)
surveyed_slots sizes read those in_slots same =
    same_slots sizes (map (λ (node : Surveyed). node.linked.address) those)
    (map (λ node. node.linked.address) read.nodes.items) same
    (slots_of_gathered sizes read in_slots)

-- its bytes and those of extents are in range together
pub bytes_small : (sizes : Sizes) (those : List Surveyed) (extents : List Element) → is_served sizes ≡ true
    → All (λ slot. IsTrue (is_slot sizes slot)) (map (λ node. node.linked.address) those)
    → IsStrictlyIncreasing (map (λ node. node.linked.address) those) → space_failure sizes extents ≡ None
    → sizes.nodesize * length those + bytes_of extents < 2 ^ 64
bytes_small sizes those extents is_in slots up space =
    let served = SizesFit-is_served sizes is_in in
    let few = slots_few sizes (map (λ (node : Surveyed). node.linked.address) those) is_in slots up in
    let as_many = length-map those (λ (node : Surveyed). node.linked.address) in
    let most = mul-le-mul_right (length those) served.nodesize in
    let all = bytes_fit sizes extents space in
    omega (arith, few, as_many, most, all)

-- ---- of an image

-- the quota of the state is the one that was read
quota_state : (super : Super) (bytes : List ℕ) (read : Read) → AreRead super bytes read
    → (state : Option QuotaState) → state ≡ option_map (λ (tree : QuotaTree). tree.quota) read.quotas
    → counts_failure (layout_of (state_in super bytes)) (state_in super bytes).quota ≡ counts_failure
    (layout_of (state_in super bytes)) (quota_of state)
quota_state super bytes read are state is =
    ap (counts_failure (layout_of (state_in super bytes))) (quota_of_state super bytes ∙ quota_read super bytes read are
    ∙ sym (ap quota_of is))

module _ (super : Super) (bytes : List ℕ) (read : Read) (are : AreRead super bytes read)
    (served : IsTrue (is_served (sizes_of super)))
    (extents : List Element) (named : AreNamedBy read.nodes extents) where
  pub space_told : (fault : OpenFault) → TellsFailure fault (space_failure (sizes_of super) extents)
      → TellsFailure fault (together_failure super bytes)
  space_told fault tells =
      let same = ap (space_failure (sizes_of super)) (extents-read super bytes read are extents named) in
      tells_first fault _ _ (tells_same fault same tells)

  module _ (space : space_failure (sizes_of super) extents ≡ None) where
    space_kept : space_failure (sizes_of super) (extent_set (present_extents (state_in super bytes))) ≡ None
    space_kept = ap (space_failure (sizes_of super)) (extents-read super bytes read are extents named) ∙ space

    pub gathered_slices : (some : List Element) (parts : List ExtentPart) → some ≡ extents → parts ≡ read.extents.parts
        → AreGathered super bytes read.trees.subvolumes read.nodes some parts
    gathered_slices some parts same same' =
        subst (λ (e : List Element). AreGathered super bytes read.trees.subvolumes read.nodes e parts) (sym same)
        (subst (λ (p : List ExtentPart). AreGathered super bytes read.trees.subvolumes read.nodes extents p) (sym same')
        (gathered-read super bytes read are served extents named space))

    pub references_told : (fault : OpenFault)
        → TellsFailure fault (references_failure super bytes (layout_of (state_in super bytes)))
        → TellsFailure fault (together_failure super bytes)
    references_told fault tells = tells_same fault (pass_first _ _ space_kept) (tells_first fault _ _ tells)

    -- where the rules on references are kept
    module _ (none : references_failure super bytes (layout_of (state_in super bytes)) ≡ None) where
      module _ (state : Option QuotaState)
          (is : state ≡ option_map (λ (tree : QuotaTree). tree.quota) read.quotas) where
        pub counts_told : (fault : OpenFault)
            → TellsFailure fault (counts_failure (layout_of (state_in super bytes)) (quota_of state))
            → TellsFailure fault (together_failure super bytes)
        counts_told fault tells =
            tells_same fault (pass_first _ _ space_kept ∙ pass_first _ _ none)
            (tells_first fault _ _ (tells_same fault (quota_state super bytes read are state is) tells))

        pub together_kept : counts_failure (layout_of (state_in super bytes)) (quota_of state) ≡ None
            → together_failure super bytes ≡ None
        together_kept counts = pass_first _ _ space_kept ∙ pass_first _ _ none
            ∙ pass_first _ _ (quota_state super bytes read are state is ∙ counts)
