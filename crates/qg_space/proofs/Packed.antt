-- A walk over extents that counts how many of the first ones are packed. Addresses and lengths are in bytes.
use Rattle.std.proofs.Common.{◌≡◌, ◌≢◌, ℕ, inl, inr, ◌+◌, ◌<◌, ◌≤◌, List, [], ◌∷◌, ◌++◌, length, map, get_or, take}
use Rattle.std.proofs.Common.{refl, sym, ap, subst, ◌∙◌, arith}
use Rattle.std.proofs.lemmas.List.{take_more, length-map, map-append, get_or_default}
use Rattle.std.proofs.lemmas.Bool.{cases_lt}
use Rattle.qg_super.specs.Places.{data_begin}
use Rattle.qg_image.specs.declared.element.Element.{Element}
use Rattle.qg_space.specs.Run.{Run}
use Rattle.qg_space.specs.Lying.{extents_of, run_of_both, end_of, end_of_last, ArePacked, IsPackedFront}
use Rattle.qg_space.proofs.Fronts.{one_more_packed}

-- so many extents were walked over. The first ones, so many, are packed and end here, and the next one of those begins
-- elsewhere
pub record PackedWalk (extents : List Element) (walked count here : ℕ) : Type 0 where
  pub within : count ≤ walked
  pub packed : ArePacked data_begin (take count extents)
  pub end : here ≡ end_of_last data_begin (take count extents)
  pub most : (extent : Element) → count < walked → (get_or extents count extent).address ≢ here

-- the last one ends the extents
end_with : (from : ℕ) (extents : List Element) (extent : Element)
    → end_of_last from (extents ++ extent ∷ []) ≡ end_of extent
end_with from [] extent = refl
end_with from (first ∷ later) extent = end_with (end_of first) later extent

-- the same walk, its numbers written in another way
pub walk_is : (extents : List Element) (walked count same_count here same_here : ℕ) → same_count ≡ count
    → same_here ≡ here → PackedWalk extents walked count here → PackedWalk extents walked same_count same_here
walk_is extents walked count same_count here same_here counts ends walk =
    subst (λ n. PackedWalk extents walked n same_here) (sym counts)
    (subst (PackedWalk extents walked count) (sym ends) walk)

-- the next extent begins where all before it end
pub walk_on : (extents : List Element) (walked count here : ℕ) (extent : Element) → walked < length extents
    → extent ≡ get_or extents walked extent → count ≡ walked → extent.address ≡ here
    → PackedWalk extents walked count here → PackedWalk extents (walked + 1) (count + 1) (end_of extent)
walk_on extents walked count here extent short is all next walk =
    let there = is ∙ ap (λ k. get_or extents k extent) (sym all) in
    let more = take_more extents count extent (omega (arith, short, all))
    ∙ ap (λ (e : Element). take count extents ++ e ∷ []) (sym there) in
    record {
      within = omega (arith, all);
      packed = subst (ArePacked data_begin) (sym more)
          (one_more_packed data_begin (take count extents) extent walk.packed (next ∙ walk.end));
      end = sym (ap (end_of_last data_begin) more ∙ end_with data_begin (take count extents) extent);
      most = λ other less. absurd (omega (arith, less, all));
    }

-- the next one of the first ones still begins elsewhere
next_elsewhere : (extents : List Element) (walked packed end : ℕ) (extent d : Element) → walked < length extents
    → extent ≡ get_or extents walked extent → (packed ≡ walked → extent.address ≢ end)
    → PackedWalk extents walked packed end → packed < walked + 1 → (get_or extents packed d).address ≢ end
next_elsewhere extents walked packed end extent d short is other walk less = λ begins. elim (cases_lt packed walked) [
  | inl before ↦ walk.most d before begins
  | inr not_before ↦
      let last : packed ≡ walked = omega (arith, less, not_before) in
      other last (ap (λ (e : Element). e.address) (is ∙ get_or_default extents walked extent d short
      ∙ ap (λ k. get_or extents k d) (sym last)) ∙ begins)
]

-- an extent is passed where one was before, or where it begins elsewhere
pub walk_past : (extents : List Element) (walked packed end : ℕ) (extent : Element) → walked < length extents
    → extent ≡ get_or extents walked extent → (packed ≡ walked → extent.address ≢ end)
    → PackedWalk extents walked packed end → PackedWalk extents (walked + 1) packed end
walk_past extents walked packed end extent short is other walk = record {
  within = omega (arith, walk.within);
  packed = walk.packed;
  end = walk.end;
  most = λ d less. next_elsewhere extents walked packed end extent d short is other walk less;
}

-- ---- runs of extents

-- one run more is made
pub made_more : (extents : List Element) (walked : ℕ) (extent : Element) (runs more : List Run)
    → walked < length extents → extent ≡ get_or extents walked extent → runs ≡ map run_of_both (take walked extents)
    → more ≡ runs ++ run_of_both extent ∷ [] → more ≡ map run_of_both (take (walked + 1) extents)
made_more extents walked extent runs more short is made added =
    let taken = take_more extents walked extent short ∙ ap (λ (e : Element). take walked extents ++ e ∷ []) (sym is) in
    added ∙ ap (λ (r : List Run). r ++ run_of_both extent ∷ []) made
    ∙ sym (map-append run_of_both (take walked extents) (extent ∷ [])) ∙ sym (ap (map run_of_both) taken)

-- their extents are those
extents_of_both : (extents : List Element) → extents_of (map run_of_both extents) ≡ extents
extents_of_both [] = refl
extents_of_both (extent ∷ extents) = ap (λ (later : List Element). extent ∷ later) (extents_of_both extents)

-- so as many runs are packed as extents
pub walk_front : (extents : List Element) (runs : List Run) (walked count here : ℕ) → walked ≤ length extents
    → runs ≡ map run_of_both extents → PackedWalk extents walked count here → IsPackedFront runs count
walk_front extents runs walked count here few is walk = record {
  within = omega (arith, walk.within, ap length is, length-map extents run_of_both);
  packed = subst (λ (e : List Element). ArePacked data_begin (take count e))
      (sym (ap extents_of is ∙ extents_of_both extents)) walk.packed;
}
