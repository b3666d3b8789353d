-- The lines of the generator (this project's own): five that make three groups and put two of them into the third, then
-- as many as are asked for, each drawn. Draws change a state of 64 bits, which begins as the seed. Positions, lengths
-- and limits are in bytes.
use Rattle.std.specs.Prelude.{ℕ, zero, suc, ◌+◌, ◌*◌, ◌^◌, ◌/◌, ◌%◌, List, [], ◌∷◌, ◌++◌, Some, ◌==◌, nat_lt}
use Rattle.std.specs.Prelude.{if◌then◌else◌}
use Rattle.qg_num.specs.declared.command.Command.{Command}
use Rattle.qg_num.specs.declared.command.Command.TheVariants.{Write, Clone, Truncate, Unlink, Commit, Snap, Delete}
use Rattle.qg_num.specs.declared.command.Command.TheVariants.{GroupCreate, Assign, Limit}
use Rattle.qg_num.specs.declared.counters.Which.TheVariants.{Rfer}

-- ---- draws

-- the state behind one draw
unfoldable pub drawn_on : ℕ → ℕ
drawn_on state = (state * 6364136223846793005 + 1442695040888963407) % 2 ^ 64

-- the state behind so many
abbrev pub after : ℕ → ℕ → ℕ
after zero state = state
after (suc draws) state = after draws (drawn_on state)

-- what one draw gives, below a bound
unfoldable pub draw : ℕ → ℕ → ℕ
draw bound state = drawn_on state / 2 ^ 33 % bound

-- ---- words, each by one draw

-- a subvolume: 5 as often as not, else one from 256 on
unfoldable pub sub_drawn : ℕ → ℕ
sub_drawn state = if nat_lt (draw 16 state) 8 then 5 else 248 + draw 16 state

-- a file
unfoldable pub ino_drawn : ℕ → ℕ
ino_drawn state = 257 + draw 8 state

-- a position, or a size
unfoldable pub position_drawn : ℕ → ℕ
position_drawn state = 4096 * draw 64 state

-- a length
unfoldable pub length_drawn : ℕ → ℕ
length_drawn state = 4096 * (1 + draw 16 state)

-- ---- lines, their words drawn from left to right

-- the group of a level and an id
abbrev pub group : ℕ → ℕ → ℕ
group level id = level * 2 ^ 48 + id

-- a line's command, and the state behind its draws
pub record Drawn : Type 0 where
  pub command : Command
  pub behind : ℕ

-- a `write`, by four draws
unfoldable pub write_drawn : ℕ → Drawn
write_drawn state = record {
  command =
      Write (sub_drawn state) (ino_drawn (after 1 state)) (position_drawn (after 2 state))
      (length_drawn (after 3 state));
  behind = after 4 state;
}

-- a `clone`, by seven draws
unfoldable pub clone_drawn : ℕ → Drawn
clone_drawn state = record {
  command =
      Clone (sub_drawn state) (ino_drawn (after 1 state)) (position_drawn (after 2 state))
      (length_drawn (after 3 state)) (sub_drawn (after 4 state)) (ino_drawn (after 5 state))
      (position_drawn (after 6 state));
  behind = after 7 state;
}

-- a `truncate`, by three draws
unfoldable pub truncate_drawn : ℕ → Drawn
truncate_drawn state = record {
  command = Truncate (sub_drawn state) (ino_drawn (after 1 state)) (position_drawn (after 2 state));
  behind = after 3 state;
}

-- an `unlink`, by two draws
unfoldable pub unlink_drawn : ℕ → Drawn
unlink_drawn state = record { command = Unlink (sub_drawn state) (ino_drawn (after 1 state)); behind = after 2 state }

-- a `snap` without a list, by one draw
unfoldable pub snap_drawn : ℕ → Drawn
snap_drawn state = record { command = Snap (sub_drawn state) []; behind = after 1 state }

-- a `delete`, by one draw
unfoldable pub delete_drawn : ℕ → Drawn
delete_drawn state = record { command = Delete (256 + draw 256 state); behind = after 1 state }

-- the subvolume's own group, which has its number, into 1/1 or 1/2
unfoldable pub assign_drawn : ℕ → Drawn
assign_drawn state = record {
  command = Assign (sub_drawn state) (group 1 (1 + draw 2 (after 1 state)));
  behind = after 2 state;
}

-- a limit of the subvolume's own group
unfoldable pub limit_drawn : ℕ → Drawn
limit_drawn state = record {
  command = Limit (sub_drawn state) Rfer (Some (65536 * (1 + draw 256 (after 1 state))));
  behind = after 2 state;
}

-- the line of a kind, from 0 to 15, its words drawn from a state on
unfoldable pub line_of_kind : ℕ → ℕ → Drawn
line_of_kind kind state =
    if nat_lt kind 7 then write_drawn state
    else (if nat_lt kind 9 then clone_drawn state
    else (if kind == 9 then truncate_drawn state
    else (if kind == 10 then unlink_drawn state
    else (if kind == 11 then snap_drawn state
    else (if kind == 12 then delete_drawn state
    else (if kind == 13 then assign_drawn state
    else (if kind == 14 then limit_drawn state
    else record { command = Commit; behind = state })))))))

-- one line: its kind is drawn first
unfoldable pub line_drawn : ℕ → Drawn
line_drawn state = line_of_kind (draw 16 state) (drawn_on state)

-- so many lines, one after the other
abbrev pub lines_drawn : ℕ → ℕ → List Command
lines_drawn zero state = []
lines_drawn (suc count) state = (line_drawn state).command ∷ lines_drawn count (line_drawn state).behind

-- ---- the script

-- the lines that come first, and draw nothing
abbrev pub opening_lines : List Command
opening_lines =
    GroupCreate (group 1 1) ∷ GroupCreate (group 1 2) ∷ GroupCreate (group 2 1) ∷
    Assign (group 1 1) (group 2 1) ∷ Assign (group 1 2) (group 2 1) ∷ []

-- the generator's lines for a seed and a count
abbrev pub generated_script : ℕ → ℕ → List Command
generated_script seed count = opening_lines ++ lines_drawn count seed
