-- What a state's extent tree takes is what its books take.
use Rattle.std.proofs.Common.{◌≡◌, ℕ, ◌+◌, ◌≤◌, Bool, true, false, List, ◌++◌, refl, sym, ap, ◌∙◌, inl, inr}
use Rattle.std.specs.Prelude.{◌||◌}
use Rattle.std.proofs.lemmas.Bool.{cases_Bool, true≢false}
use Rattle.std.proofs.lemmas.List.Folds.{list_any-append}
use Rattle.qg_image.specs.Need.{extent_records, held_records, present_records, quota_records, root_records, weight}
use Rattle.qg_image.specs.Record.{Record, records_bytes, same_record}
use Rattle.qg_image.specs.State.{State, layout_of}
use Rattle.qg_extents.specs.Types.{Kept}
use Rattle.qg_weighed.specs.Laws.{CountsLayout, IsRecorded, IsWeight, is_among, is_of_extents, other_records}
use Rattle.qg_weighed.specs.Weight.{records_in, weight_of}
use Rattle.qg_weighed.proofs.Distinct.{bytes-alike, bytes-apart, bytes-more}
use Rattle.qg_weighed.proofs.Trees.{are-both, layout-are, none-named, others, others-are, others-named, quota-are}
use Rattle.qg_weighed.proofs.Trees.{root-are, table-are}
use Rattle.qg_weighed.proofs.Layouts.{layout-alike}

or_none : (a : Bool) → (a || false) ≡ a
or_none true = refl
or_none false = refl

-- which there are, of both kinds: h held, r root, e extents, q quota, and so for the books
one-of-extents : (h h' r e q f o : Bool) → h ≡ h' → e ≡ f → r ≡ false → q ≡ false → o ≡ false
    → (h || ((r || e) || q)) ≡ ((h' || f) || (o || (r || q)))
one-of-extents h h' r e q f o held refs root quota other =
    rw (held, refs, root, quota, other) (ap (λ (b : Bool). h' || b) (or_none f) ∙ sym (or_none (h' || f)))

one-of-others : (h h' r e q f o : Bool) → h' ≡ false → f ≡ false → e ≡ false → o ≡ h
    → (h || ((r || e) || q)) ≡ ((h' || f) || (o || (r || q)))
one-of-others h h' r e q f o held refs layout other =
    rw (held, refs, layout, other) (ap (λ (b : Bool). h || (b || q)) (or_none r))

module _ (state : State) (held refs : List (ℕ × Kept)) (counted : CountsLayout (layout_of state) refs)
    (recorded : IsRecorded state held) where
  among-whole : (one : Record) → is_among (held_records state.held ++ present_records state) one
      ≡ (is_among (held_records state.held) one
      || ((is_among (root_records state) one || is_among (extent_records (layout_of state)) one)
      || is_among (quota_records state.quota) one))
  unfolding present_records
  among-whole one =
      let root = root_records state in
      let extents = extent_records (layout_of state) in
      let quota = quota_records state.quota in
      list_any-append (same_record one) (held_records state.held) (root ++ extents ++ quota)
      ∙ ap (λ (b : Bool). is_among (held_records state.held) one || b)
      (list_any-append (same_record one) (root ++ extents) quota
      ∙ ap (λ (b : Bool). b || is_among quota one) (list_any-append (same_record one) root extents))

  among-books : (one : Record) → is_among (records_in held ++ records_in refs ++ other_records state) one
      ≡ ((is_among (records_in held) one || is_among (records_in refs) one)
      || (is_among (others (held_records state.held)) one
      || (is_among (root_records state) one || is_among (quota_records state.quota) one)))
  among-books one =
      let root = root_records state in
      let quota = quota_records state.quota in
      list_any-append (same_record one) (records_in held ++ records_in refs) (other_records state)
      ∙ ap (λ (b : Bool). b || is_among (other_records state) one)
      (list_any-append (same_record one) (records_in held) (records_in refs))
      ∙ ap (λ (b : Bool). (is_among (records_in held) one || is_among (records_in refs) one) || b)
      (list_any-append (same_record one) (others (held_records state.held)) (root ++ quota)
      ∙ ap (λ (b : Bool). is_among (others (held_records state.held)) one || b)
      (list_any-append (same_record one) root quota))

  alike : (one : Record) → is_among (held_records state.held ++ present_records state) one
      ≡ is_among (records_in held ++ records_in refs ++ other_records state) one
  alike one = among-whole one ∙ elim (cases_Bool (is_of_extents one)) [
    | inl extents ↦
        one-of-extents (is_among (held_records state.held) one) (is_among (records_in held) one)
        (is_among (root_records state) one) (is_among (extent_records (layout_of state)) one)
        (is_among (quota_records state.quota) one) (is_among (records_in refs) one)
        (is_among (others (held_records state.held)) one)
        (recorded.same one extents) (layout-alike (layout_of state) refs counted one)
        (none-named false (root_records state) one (root-are state) extents)
        (none-named false (quota_records state.quota) one (quota-are state.quota) extents)
        (none-named false (others (held_records state.held)) one (others-are (held_records state.held)) extents)
    | inr other ↦
        one-of-others (is_among (held_records state.held) one) (is_among (records_in held) one)
        (is_among (root_records state) one) (is_among (extent_records (layout_of state)) one)
        (is_among (quota_records state.quota) one) (is_among (records_in refs) one)
        (is_among (others (held_records state.held)) one)
        (none-named true (records_in held) one (table-are held) other)
        (none-named true (records_in refs) one (table-are refs) other)
        (none-named true (extent_records (layout_of state)) one (layout-are (layout_of state)) other)
        (others-named (held_records state.held) one other)
  ] ∙ sym (among-books one)

  apart : (one : Record) → is_among (records_in held ++ records_in refs) one ≡ true
      → is_among (other_records state) one ≡ false
  apart one among = elim (cases_Bool (is_of_extents one)) [
    | inl extents ↦
        none-named false (other_records state) one
        (are-both false (others (held_records state.held)) (root_records state ++ quota_records state.quota)
        (others-are (held_records state.held))
        (are-both false (root_records state) (quota_records state.quota) (root-are state) (quota-are state.quota)))
        extents
    | inr other ↦
        absurd (true≢false (sym among
        ∙ none-named true (records_in held ++ records_in refs) one
        (are-both true (records_in held) (records_in refs) (table-are held) (table-are refs)) other))
  ]

  whole : weight state ≡ weight_of held refs + records_bytes (other_records state)
  unfolding weight weight_of
  whole =
      bytes-alike (held_records state.held ++ present_records state)
      (records_in held ++ records_in refs ++ other_records state) alike
      ∙ bytes-apart (records_in held ++ records_in refs) (other_records state) apart

  pub weighs : IsWeight state held refs
  weighs = record {
    records = bytes-alike (extent_records (layout_of state)) (records_in refs)
        (layout-alike (layout_of state) refs counted);
    whole = whole;
  }

-- both books take no less than the one that is kept now
pub no-less : (held refs : List (ℕ × Kept)) → records_bytes (records_in refs) ≤ weight_of held refs
unfolding weight_of
no-less held refs = bytes-more (records_in held) (records_in refs)
