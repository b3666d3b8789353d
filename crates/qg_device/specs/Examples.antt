-- Small histories, and what they leave.
use Rattle.std.specs.Prelude.{◌≡◌, ◌-◌, ◌^◌, [], ◌∷◌, refl}
use Rattle.qg_device.specs.History.{Recorded, Unrecorded, Wrote, Tore, Cut, CutShort, Synced, history_after, begun}
use Rattle.qg_device.specs.History.{content, synced, with_event}

-- a gap reads as 0
gap_reads_as_zero : content (Wrote 3 (7 ∷ []) ∷ Wrote 0 (5 ∷ []) ∷ []) ≡ 5 ∷ 0 ∷ 0 ∷ 7 ∷ []
gap_reads_as_zero = refl

-- a write in the middle changes its range alone
middle_is_changed : content (Wrote 1 (8 ∷ 9 ∷ []) ∷ Wrote 0 (1 ∷ 2 ∷ 3 ∷ 4 ∷ []) ∷ []) ≡ 1 ∷ 8 ∷ 9 ∷ 4 ∷ []
middle_is_changed = refl

-- what is cut off is gone
end_is_cut : content (Cut 2 ∷ Wrote 0 (1 ∷ 2 ∷ 3 ∷ []) ∷ []) ≡ 1 ∷ 2 ∷ []
end_is_cut = refl

-- a failed cut may leave all that stood there
failed_cut_leaves_bytes : content (CutShort 1 (2 ∷ 3 ∷ []) ∷ Wrote 0 (1 ∷ 2 ∷ 3 ∷ []) ∷ []) ≡ 1 ∷ 2 ∷ 3 ∷ []
failed_cut_leaves_bytes = refl

-- a failed write that left nothing is still a write that has begun
failed_write_has_begun : begun (Tore 0 (4 ∷ []) [] ∷ Synced ∷ []) ≡ record { at = 0; bytes = 4 ∷ []; moment = 2 } ∷ []
failed_write_has_begun = refl

-- a sync keeps what was there at its moment, and no later write
sync_keeps_its_moment : synced (Wrote 0 (6 ∷ []) ∷ Synced ∷ Wrote 0 (5 ∷ []) ∷ []) ≡ record {
  moment = 2;
  content = 5 ∷ [];
} ∷ []
sync_keeps_its_moment = refl

-- where events are recorded, one more is told
event_is_recorded : with_event Synced (Recorded (Cut 2 ∷ [])) ≡ Recorded (Synced ∷ Cut 2 ∷ [])
event_is_recorded = refl

-- a disk that keeps no record counts writes and cuts, also those that fail, and no sync
changes_are_counted : history_after (λ events. Synced ∷ Tore 0 (6 ∷ []) [] ∷ Cut 0 ∷ Synced ∷ Wrote 0 (5 ∷ []) ∷ events)
    (Unrecorded 7) ≡ Unrecorded 10
changes_are_counted = refl

-- the count stands still at its last value
last_count_stands_still : with_event (Cut 0) (Unrecorded (2 ^ 64 - 1)) ≡ Unrecorded (2 ^ 64 - 1)
last_count_stands_still = refl
