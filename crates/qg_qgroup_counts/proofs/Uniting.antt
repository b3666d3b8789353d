-- The union of some sets, one set after the other.
use Rattle.std.proofs.Common.{◌≡◌, ℕ, ◌+◌, ◌<◌, List, [], length, take, get_or, refl, sym, subst}
use Rattle.std.proofs.Common.{arith, ◌⊎◌, inl, inr, ◌↔◌}
use Rattle.std.specs.List.{All, Contains}
use Rattle.std.proofs.lemmas.List.Elements.{All-contains}
use Rattle.qg_owner_rule.proofs.Listed.{in_front_more, front_more_cases}
use Rattle.qg_qgroup_counts.specs.Sets.{HasMember, row_of, Stand, IsInOne, IsUnionOf}
use Rattle.qg_qgroup_counts.proofs.Words.{none_has}

pub stand_same : (rows : List (List ℕ)) → Stand rows rows
stand_same rows = record { more = omega arith; same = λ set short. refl }

-- the members of a row and of some sets
abbrev pub Gathered : List (List ℕ) → List ℕ → List ℕ → List ℕ → Type 0
Gathered rows own sets row = (member : ℕ) → HasMember row member ↔ (HasMember own member ⊎ IsInOne rows sets member)

pub gathered_none : (rows : List (List ℕ)) (own sets : List ℕ) → Gathered rows own (take 0 sets) own
gathered_none rows own sets member = (inl, back) where
  back : HasMember own member ⊎ IsInOne rows (take 0 sets) member → HasMember own member
  back (inl has) = has
  back (inr one) = absurd (omega (arith, one.1.1))

pub gathered_more : (rows : List (List ℕ)) (own sets old new : List ℕ) (i set : ℕ)
    → i < length sets → set ≡ get_or sets i set → Gathered rows own (take i sets) old
    → ((member : ℕ) → HasMember new member ↔ (HasMember old member ⊎ HasMember (row_of rows set) member))
    → Gathered rows own (take (i + 1) sets) new
gathered_more rows own sets old new i set short is gathered step member =
    (λ has. into ((step member).0 has), back) where
      earlier : HasMember own member ⊎ IsInOne rows (take i sets) member
          → HasMember own member ⊎ IsInOne rows (take (i + 1) sets) member
      earlier (inl has) = inl has
      earlier (inr one) = inr (one.0, in_front_more sets i set one.0 short is (inl one.1), one.2)

      into : HasMember old member ⊎ HasMember (row_of rows set) member
          → HasMember own member ⊎ IsInOne rows (take (i + 1) sets) member
      into (inl has) = earlier ((gathered member).0 has)
      into (inr new') = inr (set, in_front_more sets i set set short is (inr refl), new')

      by : (one : ℕ) → Contains (take i sets) one ⊎ (set ≡ one) → HasMember (row_of rows one) member
          → HasMember new member
      by one (inl before) has = (step member).1 (inl ((gathered member).1 (inr (one, before, has))))
      by one (inr now) has = (step member).1 (inr (subst (λ k. HasMember (row_of rows k) member) (sym now) has))

      back : HasMember own member ⊎ IsInOne rows (take (i + 1) sets) member → HasMember new member
      back (inl has) = (step member).1 (inl ((gathered member).1 (inl has)))
      back (inr one) = by one.0 (front_more_cases sets i set one.0 short is one.1) one.2

-- all of the sets are one
pub union_of_one : (rows : List (List ℕ)) (own sets : List ℕ) (set : ℕ) → own ≡ [] → Contains sets set
    → All (λ other. other ≡ set) sets → IsUnionOf rows own sets rows set
union_of_one rows own sets set empty has all = record {
  stand = stand_same rows;
  inside = λ inside. All-contains (λ one. one < length rows) sets set inside has;
  members = λ member. (λ is. inr (set, has, is), back member);
} where
  back : (member : ℕ) → HasMember own member ⊎ IsInOne rows sets member → HasMember (row_of rows set) member
  back member (inl wrong) = absurd (none_has member (subst (λ row. HasMember row member) empty wrong))
  back member (inr one) =
      subst (λ k. HasMember (row_of rows k) member) (All-contains (λ other. other ≡ set) sets one.0 all one.1) one.2

-- a row of all members is kept
pub union_kept : (old new : List (List ℕ)) (own sets row : List ℕ) (set : ℕ) → Gathered old own sets row
    → Stand old new → set < length new → row_of new set ≡ row → IsUnionOf old own sets new set
union_kept old new own sets row set gathered stand inside is = record {
  stand = stand;
  inside = λ _. inside;
  members = λ member. (
    λ has. (gathered member).0 (subst (λ r. HasMember r member) is has),
    λ has. subst (λ r. HasMember r member) (sym is) ((gathered member).1 has),
  );
}
