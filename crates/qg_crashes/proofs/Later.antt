-- The premise since a later moment, from that since an earlier one.
use Rattle.std.proofs.Common.{◌≡◌, ◌∙◌, ◌⊎◌, inl, inr, ℕ, suc, ◌+◌, ◌-◌, ◌≤◌, ◌<◌, min, max, Bool, true, false, cond}
use Rattle.std.proofs.Common.{List, [], ◌∷◌, ◌++◌, length, drop, refl, sym, ap, subst, arith, length-append, Option}
use Rattle.std.proofs.Common.{Some, None}
use Rattle.std.specs.Prelude.{◌&&◌, nat_lt, All}
use Rattle.std.specs.List.{find}
use Rattle.std.proofs.lemmas.Bool.{cases_Bool, and_from, cond-true, cond-false, le-ltb, lt-ltb}
use Rattle.std.proofs.lemmas.List.Elements.{All-cons}
use Rattle.std.proofs.Math.Seq.{drop-append_seam}
use Rattle.qg_device.specs.History.{Event, Wrote, Tore, Cut, CutShort, Synced, Begun, begun, content, range}
use Rattle.qg_device.specs.Crash.{Leaves}
use Rattle.qg_device.specs.CrashSince.{events_by}
use Rattle.qg_device.specs.LastWrite.{Rewriting, last_rewriting, meets, rewriting_by, unwritten}
use Rattle.qg_device.specs.NoChance.{NoChanceAt}
use Rattle.qg_super.specs.Places.{first_place, second_place}
use Rattle.qg_super.specs.NoChance.{super_bytes, is_valid}
use Rattle.qg_crashes.specs.Unwritten.{Spares}
use Rattle.qg_crashes.specs.Later.{IsWriteOrSync, PremiseFromLater}
use Rattle.qg_crashes.proofs.LastWrites.{of_write}
use Rattle.qg_crashes.proofs.Unwritten.{spared_stays}

and_false : (a b : Bool) → b ≡ false → (a && b) ≡ false
and_false true b is = is
and_false false b is = refl

not_and : (a b : Bool) → a ≡ false → (a && b) ≡ false
not_and a b is = rw is refl

module _ (place n : ℕ) where
  -- the write is to the place, and has begun since a moment
  abbrev test : ℕ → Begun → Bool
  test since write = nat_lt since write.moment && meets place n write.at (length write.bytes)

  abbrev last : ℕ → List Event → Option Begun
  last since events = find (test since) (begun events)

  -- one of the newer events is to the place, and the last of those is the last write to it since any moment before them
  record WroteSince (newer older : List Event) : Type 0 where
    write : Begun
    is : (since : ℕ) → since ≤ length older → last since (newer ++ older) ≡ Some write

  -- none is, and the last write is that of before
  record SparedSince (newer older : List Event) : Type 0 where
    spares : All (Spares place n) newer
    same : (since : ℕ) → last since (newer ++ older) ≡ last since older

  abbrev Since : List Event → List Event → Type 0
  Since newer older = WroteSince newer older ⊎ SparedSince newer older

  none_since : (older : List Event) → Since [] older
  none_since older = inr (record { spares = λ k any below. absurd (omega arith); same = λ since. refl })

  -- one write more, which asked for these bytes
  wrote_more : (event : Event) (at : ℕ) (bytes : List ℕ) (newer older : List Event)
      → begun (event ∷ newer ++ older) ≡ record { at = at; bytes = bytes; moment = length (newer ++ older) + 1 }
      ∷ begun (newer ++ older)
      → (meets place n at (length bytes) ≡ false → Spares place n event) → Since newer older
      → Since (event ∷ newer) older
  wrote_more event at bytes newer older begins spared since = elim (cases_Bool (meets place n at (length bytes))) [
    | inl met ↦ inl (record { write = newest; is = λ from before. found from before met })
    | inr apart ↦ elim since [
      | inl wrote ↦ inl (record { write = wrote.write; is = λ from before. passed from apart ∙ wrote.is from before })
      | inr none ↦ inr (record {
        spares = All-cons (Spares place n) event newer (spared apart) none.spares;
        same = λ from. passed from apart ∙ none.same from;
      })
    ]
  ] where
    newest : Begun
    newest = record { at = at; bytes = bytes; moment = length (newer ++ older) + 1 }

    found : (from : ℕ) → from ≤ length older → meets place n at (length bytes) ≡ true
        → last from (event ∷ newer ++ older) ≡ Some newest
    found from before met =
        let later : nat_lt from (length (newer ++ older) + 1) ≡ true =
        lt-ltb from (length (newer ++ older) + 1) (omega (arith, length-append newer older)) in
        let both = and_from (nat_lt from (length (newer ++ older) + 1)) (meets place n at (length bytes)) later met in
        ap (λ (writes : List Begun). find (test from) writes) begins
        ∙ cond-true (nat_lt from (length (newer ++ older) + 1) && meets place n at (length bytes)) (Some newest)
        (find (test from) (begun (newer ++ older))) both

    passed : (from : ℕ) → meets place n at (length bytes) ≡ false
        → last from (event ∷ newer ++ older) ≡ last from (newer ++ older)
    passed from apart =
        let fails = and_false (nat_lt from (length (newer ++ older) + 1)) (meets place n at (length bytes)) apart in
        ap (λ (writes : List Begun). find (test from) writes) begins
        ∙ cond-false (nat_lt from (length (newer ++ older) + 1) && meets place n at (length bytes)) (Some newest)
        (find (test from) (begun (newer ++ older))) fails

  since_by : (newer older : List Event) → All IsWriteOrSync newer → Since newer older
  since_by [] older are = none_since older
  since_by (Wrote at bytes ∷ newer) older are =
      let rest : All IsWriteOrSync newer = λ k any below. are (suc k) any (omega arith) in
      wrote_more (Wrote at bytes) at bytes newer older refl (λ apart. apart) (since_by newer older rest)
  since_by (Tore at asked left ∷ newer) older are =
      let rest : All IsWriteOrSync newer = λ k any below. are (suc k) any (omega arith) in
      let fits : length left ≤ length asked = are 0 (Tore at asked left) (omega arith) in
      let same : max (length asked) (length left) ≡ length asked = omega arith in
      wrote_more (Tore at asked left) at asked newer older refl (λ apart. ap (meets place n at) same ∙ apart)
      (since_by newer older rest)
  since_by (Cut len ∷ newer) older are = absurd (are 0 (Cut len) (omega arith))
  since_by (CutShort len left ∷ newer) older are = absurd (are 0 (CutShort len left) (omega arith))
  since_by (Synced ∷ newer) older are =
      let rest : All IsWriteOrSync newer = λ k any below. are (suc k) any (omega arith) in
      elim (since_by newer older rest) [
        | inl wrote ↦ inl (record { write = wrote.write; is = wrote.is })
        | inr none ↦ inr (record { spares = All-cons (Spares place n) Synced newer tt none.spares; same = none.same })
      ]

  passed_by : (at : ℕ) (bytes : List ℕ) (events : List Event) (since : ℕ) → suc (length events) ≤ since
      → last since events ≡ None
      → find (test since) (record { at = at; bytes = bytes; moment = length events + 1 } ∷ begun events) ≡ None
  passed_by at bytes events since late none =
      let early : nat_lt since (length events + 1) ≡ false = le-ltb since (length events + 1) (omega (arith, late)) in
      let fails = not_and (nat_lt since (length events + 1)) (meets place n at (length bytes)) early in
      cond-false (nat_lt since (length events + 1) && meets place n at (length bytes))
      (Some (record { at = at; bytes = bytes; moment = length events + 1 }))
      (find (test since) (begun events)) fails
      ∙ none

  -- no write has begun since a moment that is no earlier than the last event
  none_later : (events : List Event) (since : ℕ) → length events ≤ since → last since events ≡ None
  none_later [] since late = refl
  none_later (Wrote at bytes ∷ events) since late =
      passed_by at bytes events since late (none_later events since (omega (arith, late)))
  none_later (Tore at asked left ∷ events) since late =
      passed_by at asked events since late (none_later events since (omega (arith, late)))
  none_later (Cut len ∷ events) since late = none_later events since (omega (arith, late))
  none_later (CutShort len left ∷ events) since late = none_later events since (omega (arith, late))
  none_later (Synced ∷ events) since late = none_later events since (omega (arith, late))

-- the events behind a sync, and those by it
by_sync : (newer older : List Event) → events_by (length older + 1) (newer ++ Synced ∷ older) ≡ Synced ∷ older
by_sync newer older =
    let many : length (newer ++ Synced ∷ older) - (length older + 1) ≡ length newer =
    omega (arith, length-append newer (Synced ∷ older)) in
    ap (λ (k : ℕ). drop k (newer ++ Synced ∷ older)) many ∙ drop-append_seam newer (Synced ∷ older)

module _ (is_valid_there : List ℕ → Bool) (place n since : ℕ) (newer older : List Event) (image : List ℕ)
    (writes : All IsWriteOrSync newer)
    (within : place + n ≤ length (content older)) (before : since ≤ length older + 1)
    (leaves : Leaves (newer ++ Synced ∷ older) image) where
  abbrev all_events : List Event
  all_events = newer ++ Synced ∷ older

  -- a place that was written since
  same_write : WroteSince place n newer (Synced ∷ older) → last_rewriting place n since (newer ++ Synced ∷ older)
      ≡ last_rewriting place n (length older + 1) (newer ++ Synced ∷ older)
  same_write wrote =
      ap (of_write place n since all_events) (wrote.is since (omega (arith, before)))
      ∙ sym (ap (of_write place n (length older + 1) all_events) (wrote.is (length older + 1) (omega arith)))

  -- a place that was not
  same_bytes : SparedSince place n newer (Synced ∷ older)
      → (last_rewriting place n (length older + 1) (newer ++ Synced ∷ older)).old ≡ range place n image
  same_bytes spared =
      let none = spared.same (length older + 1) ∙ none_later place n older (length older + 1) (omega arith) in
      let old : Rewriting → List ℕ = λ rewriting. rewriting.old in
      ap old (ap (of_write place n (length older + 1) all_events) none)
      ∙ ap (λ (events : List Event). range place n (content events)) (by_sync newer older)
      ∙ sym (spared_stays place n newer older image spared.spares within leaves)

  later_at : NoChanceAt is_valid_there place n (last_rewriting place n since (newer ++ Synced ∷ older)) image
      → NoChanceAt is_valid_there place n (last_rewriting place n (length older + 1) (newer ++ Synced ∷ older)) image
  later_at chance = elim (since_by place n newer (Synced ∷ older) writes) [
    | inl wrote ↦ subst (λ (rewriting : Rewriting). NoChanceAt is_valid_there place n rewriting image)
        (same_write wrote) chance
    | inr spared ↦ λ not_old not_new. absurd (not_old (sym (same_bytes spared)))
  ]

pub premise_from_later : PremiseFromLater
premise_from_later since newer older image writes long before leaves chance = record {
  at_first = later_at (is_valid first_place) first_place super_bytes since newer older image writes
      (omega (arith, long)) before leaves chance.at_first;
  at_second = later_at (is_valid second_place) second_place super_bytes since newer older image writes long before
      leaves chance.at_second;
}
