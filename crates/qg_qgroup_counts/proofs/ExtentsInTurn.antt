-- Portions of extents, one extent after the other, as sets grow.
use Rattle.std.proofs.Common.{◌≡◌, ℕ, zero, suc, ◌+◌, ◌<◌, List, [], ◌∷◌, ◌++◌, length, map, get_or, Some, refl, sym}
use Rattle.std.proofs.Common.{subst, ◌∙◌, arith, ◌⊎◌, inl, inr, ◌↔◌}
use Rattle.std.specs.Prelude.{slice_get, slice_index}
use Rattle.std.specs.List.{Contains}
use Rattle.std.proofs.lemmas.List.{length_push}
use Rattle.std.proofs.lemmas.List.Elements.{Contains-get_or}
use Rattle.std.proofs.lemmas.Option.{same_Some, none-some, slice_get_cases}
use Rattle.qg_image.specs.declared.element.Element.{Element}
use Rattle.qg_reach.proofs.Members.{contains_map, one_mapped}
use Rattle.qg_owner_rule.specs.declared.linked.Linked.{Linked}
use Rattle.qg_owner_rule.proofs.Listed.{at_one}
use Rattle.qg_qgroup_counts.specs.declared.reached.Reached.{Reached}
use Rattle.qg_qgroup_counts.specs.Above.{list_at}
use Rattle.qg_qgroup_counts.specs.Reached.{TellsReach}
use Rattle.qg_qgroup_counts.specs.Sets.{HasMember, IsInOne, IsUnionOf, Stand, row_of}
use Rattle.qg_qgroup_counts.proofs.Words.{none_has}
use Rattle.qg_qgroup_counts.specs.declared.counting.Portion.{Portion}
use Rattle.qg_qgroup_counts.specs.Groups.{AreWithin}
use Rattle.qg_qgroup_counts.specs.ExtentBytes.{AreOfNamers, IsOfNodes, ReachesOne}

-- ---- lists

-- one that stands in a list with one more at its end
pub pushed_cases : {X : Type 0} (xs : List X) (y : X) (i : ℕ) (x : X) → slice_get (xs ++ y ∷ []) i ≡ Some x
    → (slice_get xs i ≡ Some x) ⊎ ((i ≡ length xs) × (y ≡ x))
pushed_cases [] y zero x at = inr (refl, same_Some y x at)
pushed_cases [] y (suc i) x at = absurd (none-some x at)
pushed_cases (z ∷ zs) y zero x at = inl at
pushed_cases (z ∷ zs) y (suc i) x at = later (pushed_cases zs y i x at) where
  later : (slice_get zs i ≡ Some x) ⊎ ((i ≡ length zs) × (y ≡ x))
      → (slice_get (z ∷ zs) (suc i) ≡ Some x) ⊎ ((suc i ≡ length (z ∷ zs)) × (y ≡ x))
  later (inl there) = inl there
  later (inr end) = inr (omega (arith, end.0), end.1)

pub there_at : {X : Type 0} (xs : List X) (i : ℕ) → i < length xs → (x : X) × (slice_get xs i ≡ Some x)
there_at xs i short = elim ((slice_get_cases xs i).1) [
  | inl there ↦ (there.0, there.2)
  | inr past ↦ absurd (omega (arith, short, past.0))
]

-- ---- a union

module _ (links : List Linked) (roots : List (ℕ × ℕ)) (old : Reached) (told : TellsReach links roots old)
    (places : List ℕ) (within : (place : ℕ) → Contains places place → place < length links)
    (rows : List (List ℕ)) (set : ℕ) where
  abbrev sets : List ℕ
  sets = map (λ place. slice_index old.numbers.items place) places

  abbrev of_place : ℕ → ℕ
  of_place place = slice_index old.numbers.items place

  pub union_inside : IsUnionOf old.sets.rows.items [] sets rows set → set < length rows
  union_inside union = union.inside (λ k d short.
      let place = one_mapped of_place places (get_or sets k d) (Contains-get_or sets k d short) in
      let below = within place.0 place.1 in
      let number = told.inside place.0 0 (omega (arith, below, told.same)) in
      subst (λ n. n < length old.sets.rows.items) place.2 number)

  pub union_members : IsUnionOf old.sets.rows.items [] sets rows set → (subvolume : ℕ)
      → HasMember (row_of rows set) subvolume ↔ ReachesOne links roots places subvolume
  union_members union subvolume = (λ has. into ((union.members subvolume).0 has), back) where
    into : HasMember [] subvolume ⊎ IsInOne old.sets.rows.items sets subvolume → ReachesOne links roots places subvolume
    into (inl wrong) = absurd (none_has subvolume wrong)
    into (inr one) =
        let place = one_mapped of_place places one.0 one.1 in
        let link = there_at links place.0 (within place.0 place.1) in
        let reached =
        (told.tells place.0 subvolume link.0 link.1).0
        (subst (λ n. HasMember (row_of old.sets.rows.items n) subvolume) (sym place.2) one.2) in
        (place.0, link.0, place.1, link.1, reached)

    back : ReachesOne links roots places subvolume → HasMember (row_of rows set) subvolume
    back one =
        (union.members subvolume).1
        (inr (
          of_place one.0,
          contains_map of_place places one.0 one.2,
          (told.tells one.0 subvolume one.1 one.3).1
              one.4,
        ))

-- ---- as sets grow

of_nodes_stay : (links : List Linked) (roots : List (ℕ × ℕ)) (old new : List (List ℕ)) (places : List ℕ)
    (extent : Element) (portion : Portion) → Stand old new → IsOfNodes links roots old places extent portion
    → IsOfNodes links roots new places extent portion
of_nodes_stay links roots old new places extent portion stand is = record {
  bytes = is.bytes;
  inside = omega (arith, is.inside, stand.more);
  members = λ subvolume.
      subst (λ row. HasMember row subvolume ↔ ReachesOne links roots places subvolume)
      (sym (stand.same portion.set is.inside)) (is.members subvolume);
}

-- the portions of the first extents
pub record AreOfFirst (links : List Linked) (roots : List (ℕ × ℕ)) (rows : List (List ℕ)) (namers : List (List ℕ))
    (extents : List Element) (n : ℕ) (portions : List Portion) : Type 0 where
  pub same : length portions ≡ n
  pub each : (place : ℕ) (extent : Element) (portion : Portion) → slice_get extents place ≡ Some extent
      → slice_get portions place ≡ Some portion → IsOfNodes links roots rows (list_at namers place) extent portion

pub first_none : (links : List Linked) (roots : List (ℕ × ℕ)) (rows : List (List ℕ)) (namers : List (List ℕ))
    (extents : List Element) → AreOfFirst links roots rows namers extents 0 []
first_none links roots rows namers extents =
    record { same = refl; each = λ place extent portion at there. absurd (none-some portion there) }

pub first_more : (links : List Linked) (roots : List (ℕ × ℕ)) (old new : List (List ℕ)) (namers : List (List ℕ))
    (extents : List Element) (n : ℕ) (portions : List Portion) (extent : Element) (portion : Portion)
    → AreOfFirst links roots old namers extents n portions → Stand old new → slice_get extents n ≡ Some extent
    → IsOfNodes links roots new (list_at namers n) extent portion
    → AreOfFirst links roots new namers extents (n + 1) (portions ++ portion ∷ [])
first_more links roots old new namers extents n portions extent portion first stand here is =
    record { same = omega (arith, length_push portions portion, first.same); each = each } where
      each : (place : ℕ) (e : Element) (p : Portion) → slice_get extents place ≡ Some e
          → slice_get (portions ++ portion ∷ []) place ≡ Some p → IsOfNodes links roots new (list_at namers place) e p
      each place e p at there = by (pushed_cases portions portion place p there) where
        by : (slice_get portions place ≡ Some p) ⊎ ((place ≡ length portions) × (portion ≡ p))
            → IsOfNodes links roots new (list_at namers place) e p
        by (inl before) =
            of_nodes_stay links roots old new (list_at namers place) e p stand (first.each place e p at before)
        by (inr end) =
            let index : n ≡ place = omega (arith, end.0, first.same) in
            let same = at_one extents place extent e (subst (λ k. slice_get extents k ≡ Some extent) index here) at in
            subst (λ k. IsOfNodes links roots new (list_at namers k) e p) index
            (subst (λ x. IsOfNodes links roots new (list_at namers n) x p) same
            (subst (IsOfNodes links roots new (list_at namers n) extent) end.1 is))

pub first_all : (links : List Linked) (roots : List (ℕ × ℕ)) (rows : List (List ℕ)) (namers : List (List ℕ))
    (extents : List Element) (n : ℕ) (portions : List Portion) → n ≡ length extents
    → AreOfFirst links roots rows namers extents n portions → AreOfNamers links roots rows namers extents portions
first_all links roots rows namers extents n portions all first =
    record { same = first.same ∙ all; each = first.each }

-- ---- one step of the loop

-- what is told of the first extents' portions, whoever the subvolumes are
abbrev pub Told : Reached → Reached → List (List ℕ) → List Element → ℕ → List Portion → Type 0
Told old new namers extents n portions =
    (links : List Linked) (roots : List (ℕ × ℕ)) → TellsReach links roots old → AreWithin (length links) namers
    → TellsReach links roots new × AreOfFirst links roots new.sets.rows.items namers extents n portions

pub told_none : (old : Reached) (namers : List (List ℕ)) (extents : List Element) → Told old old namers extents 0 []
told_none old namers extents links roots told within =
    (told, first_none links roots old.sets.rows.items namers extents)

pub told_more : (old mid new : Reached) (namers : List (List ℕ)) (extents : List Element) (n : ℕ)
    (portions : List Portion) (extent : Element) (portion : Portion) → Told old mid namers extents n portions
    → slice_get extents n ≡ Some extent → portion.bytes ≡ extent.bytes
    → IsUnionOf mid.sets.rows.items [] (map (λ place. slice_index mid.numbers.items place) (list_at namers n))
    new.sets.rows.items portion.set
    → ((links : List Linked) (roots : List (ℕ × ℕ)) → TellsReach links roots mid → TellsReach links roots new)
    → Told old new namers extents (n + 1) (portions ++ portion ∷ [])
told_more old mid new namers extents n portions extent portion before here bytes union reach links roots told within =
    let was = before links roots told within in
    let rows = new.sets.rows.items in
    let places = list_at namers n in (
      reach links roots was.0,
      first_more links roots mid.sets.rows.items rows namers extents n portions extent portion was.1 union.stand here
          (record {
            bytes = bytes;
            inside = union_inside links roots mid was.0 places (within n) rows portion.set union;
            members = union_members links roots mid was.0 places (within n) rows portion.set union;
          }),
    )
