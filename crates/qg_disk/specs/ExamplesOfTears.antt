-- Small histories, and what a crash leaves of them that does the same to all that no sync had made sure of.
use Rattle.std.specs.Prelude.{◌≡◌, List, [], ◌∷◌, refl}
use Rattle.qg_device.specs.History.{Event, Wrote, Tore, Cut, Synced}
use Rattle.qg_disk.specs.declared.tear.Tear.TheVariants.{Old, New, Split}
use Rattle.qg_disk.specs.Crashed.{crashed}

-- two bytes are written into the middle of four that a sync made sure of
abbrev pub rewritten : List Event
rewritten = Wrote 1 (8 ∷ 9 ∷ []) ∷ Synced ∷ Wrote 0 (1 ∷ 2 ∷ 3 ∷ 4 ∷ []) ∷ []

no_write_is_done : crashed Old rewritten ≡ 1 ∷ 2 ∷ 3 ∷ 4 ∷ []
no_write_is_done = refl

each_write_is_done : crashed New rewritten ≡ 1 ∷ 8 ∷ 9 ∷ 4 ∷ []
each_write_is_done = refl

first_byte_is_done : crashed (Split 1) rewritten ≡ 1 ∷ 8 ∷ 3 ∷ 4 ∷ []
first_byte_is_done = refl

-- of two writes the first byte of each
first_byte_of_each : crashed (Split 1) (Wrote 3 (5 ∷ 6 ∷ []) ∷ rewritten) ≡ 1 ∷ 8 ∷ 3 ∷ 5 ∷ []
first_byte_of_each = refl

-- of a write of which no byte is done nothing is left, also past the end
no_byte_past_the_end : crashed (Split 0) (Wrote 6 (5 ∷ []) ∷ rewritten) ≡ 1 ∷ 2 ∷ 3 ∷ 4 ∷ []
no_byte_past_the_end = refl

-- of a failed write the first of the bytes that it left
first_byte_of_a_failed_write : crashed (Split 1) (Tore 0 (5 ∷ 6 ∷ 7 ∷ []) (5 ∷ 6 ∷ []) ∷ rewritten) ≡ 5 ∷ 8 ∷ 3 ∷ 4 ∷ []
first_byte_of_a_failed_write = refl

-- a cut is undone, or done
cut_is_undone : crashed Old (Cut 2 ∷ rewritten) ≡ 1 ∷ 2 ∷ 3 ∷ 4 ∷ []
cut_is_undone = refl

cut_is_done : crashed (Split 1) (Cut 2 ∷ rewritten) ≡ 1 ∷ 8 ∷ []
cut_is_done = refl

-- what a sync made sure of is not torn
synced_is_whole : crashed Old (Synced ∷ rewritten) ≡ 1 ∷ 8 ∷ 9 ∷ 4 ∷ []
synced_is_whole = refl
