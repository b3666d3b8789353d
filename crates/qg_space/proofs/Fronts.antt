-- Runs that are packed, from the begin of the data area on. Addresses and lengths are in bytes.
use Rattle.std.proofs.Common.{◌≡◌, ℕ, zero, suc, ◌+◌, ◌<◌, ◌≤◌, List, [], ◌∷◌, ◌++◌, length, get_or, take, drop, refl}
use Rattle.std.proofs.Common.{sym, ap, subst, ◌∙◌, arith}
use Rattle.std.specs.List.{insert, remove}
use Rattle.std.proofs.Math.ListN.{set, length-set}
use Rattle.std.proofs.lemmas.List.{take-take, take_more, take-map, take-set, take_at, length-map, length-append}
use Rattle.std.proofs.lemmas.List.{length-take-le, get_or-map}
use Rattle.qg_super.specs.declared.sizes.Sizes.{Sizes}
use Rattle.qg_super.specs.Places.{data_begin}
use Rattle.qg_super.proofs.Runs.{WholeRun, WholeRun-is_run}
use Rattle.qg_image.specs.declared.element.Element.{Element}
use Rattle.qg_space.specs.Run.{Run}
use Rattle.qg_space.specs.Lying.{extents_of, end_of, end_of_last, ArePacked, IsPackedFront, SameBefore, LieApart}

pub whole_at : (sizes : Sizes) (from : ℕ) (runs : List Run) (k : ℕ) (d : Run) → LieApart sizes from runs
    → k < length runs
    → WholeRun sizes (get_or runs k d).extent.address (get_or runs k d).extent.bytes
whole_at sizes from [] k d apart short = absurd (omega (arith, short))
whole_at sizes from (run ∷ runs) zero d apart short = WholeRun-is_run sizes run.extent.address run.extent.bytes apart.0
whole_at sizes from (run ∷ runs) (suc k) d apart short =
    whole_at sizes (end_of run.extent) runs k d apart.3 (omega (arith, short))

-- the last of the first runs ends them
pub end_taken : (from : ℕ) (runs : List Run) (k : ℕ) (d : Run) → k < length runs
    → end_of_last from (take (suc k) (extents_of runs)) ≡ end_of (get_or runs k d).extent
end_taken from [] k d short = absurd (omega (arith, short))
end_taken from (run ∷ runs) zero d short = refl
end_taken from (run ∷ runs) (suc k) d short = end_taken (end_of run.extent) runs k d (omega (arith, short))

packed_part : (from count : ℕ) (extents : List Element) → ArePacked from extents → ArePacked from (take count extents)
packed_part from zero extents packed = tt
packed_part from (suc count) [] packed = tt
packed_part from (suc count) (extent ∷ extents) packed = (packed.0, packed_part (end_of extent) count extents packed.1)

-- fewer runs are packed too, also after an edit behind them
pub front_kept : (old new : List Run) (packed place count : ℕ) → count ≤ packed → count ≤ place
    → SameBefore place old new → IsPackedFront old packed → IsPackedFront new count
front_kept old new packed place count few before same front = record {
  within = omega (arith, before, same.within);
  packed =
      let there = sym (take-take count place (extents_of new) before) ∙ ap (take count) same.same
      ∙ take-take count place (extents_of old) before ∙ sym (take-take count packed (extents_of old) few) in
      subst (ArePacked data_begin) (sym there)
      (packed_part data_begin count (take packed (extents_of old)) front.packed);
}

pub no_front : (runs : List Run) → IsPackedFront runs 0
no_front runs = record { within = omega arith; packed = tt }

pub one_more_packed : (from : ℕ) (extents : List Element) (extent : Element) → ArePacked from extents
    → extent.address ≡ end_of_last from extents → ArePacked from (extents ++ extent ∷ [])
one_more_packed from [] extent packed is = (is, tt)
one_more_packed from (first ∷ later) extent packed is =
    (packed.0, one_more_packed (end_of first) later extent packed.1 is)

-- one run more is packed, where it begins at the end of the others
pub front_more : (runs : List Run) (count : ℕ) (run : Run) → count < length runs → run ≡ get_or runs count run
    → IsPackedFront runs count
    → run.extent.address ≡ end_of_last data_begin (take count (extents_of runs)) → IsPackedFront runs (count + 1)
front_more runs count run short is front next =
    let extents = extents_of runs in
    let here : get_or extents count run.extent ≡ run.extent =
    get_or-map (λ (r : Run). r.extent) runs count run run.extent short ∙ ap (λ (r : Run). r.extent) (sym is) in
    let more = take_more extents count run.extent (omega (arith, short, length-map runs (λ (r : Run). r.extent)))
    ∙ ap (λ (e : Element). take count extents ++ e ∷ []) here in
    record {
      within = omega arith;
      packed = subst (ArePacked data_begin) (sym more)
          (one_more_packed data_begin (take count extents) run.extent front.packed next);
    }

-- ---- edits

same_before : (old new : List Run) (place : ℕ) → place ≤ length new → take place new ≡ take place old
    → SameBefore place old new
same_before old new place bound same = record {
  within = bound;
  same = take-map (λ (r : Run). r.extent) place new ∙ ap extents_of same
      ∙ sym (take-map (λ (r : Run). r.extent) place old);
}

pub same_before_put : (runs edited : List Run) (place : ℕ) (run : Run) → place ≤ length runs
    → edited ≡ insert runs place run → SameBefore place runs edited
same_before_put runs edited place run bound is =
    let front = length-take-le place runs bound in
    same_before runs edited place
    (omega (arith, ap length is, length-append (take place runs) (run ∷ drop place runs), front))
    (ap (take place) is ∙ take_at (take place runs) (run ∷ drop place runs) place front)

pub same_before_mark : (runs : List Run) (place : ℕ) (run : Run) → place < length runs
    → SameBefore place runs (set runs place run)
same_before_mark runs place run short =
    same_before runs (set runs place run) place (omega (arith, length-set runs place run)) (take-set runs place run)

pub same_before_removal : (runs edited : List Run) (place : ℕ) → place < length runs → edited ≡ remove runs place
    → SameBefore place runs edited
same_before_removal runs edited place short is =
    let front = length-take-le place runs (omega arith) in
    same_before runs edited place
    (omega (arith, ap length is, length-append (take place runs) (drop (suc place) runs), front))
    (ap (take place) is ∙ take_at (take place runs) (drop (suc place) runs) place front)
