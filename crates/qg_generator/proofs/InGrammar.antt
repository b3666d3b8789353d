-- Each line of a generator is one that the grammar has: the numbers that are drawn are in range, and so it is short.
use Rattle.std.proofs.Common.{◌≡◌, ℕ, ◌+◌, ◌*◌, ◌^◌, ◌/◌, ◌<◌, ◌≤◌, Bool, true, false, ◌&&◌, length, refl, sym, ap, ◌∙◌}
use Rattle.std.proofs.Common.{subst, arith, lit<}
use Rattle.std.specs.Prelude.{nat_lt, nat_le, ◌==◌, if◌then◌else◌}
use Rattle.std.proofs.Math.Nat.{mod-lt, lt_trans}
use Rattle.std.proofs.lemmas.Bool.{and_from, lt-ltb, le-leb}
use Rattle.qg_num.specs.declared.command.Command.{Command}
use Rattle.qg_num.specs.declared.command.Command.TheVariants.{Commit}
use Rattle.qg_grammar.specs.ScriptText.{IsLineOf, command_text, is_in_grammar, is_sub_word, is_ino_word, is_word}
use Rattle.qg_generator.proofs.Short.{write-short, clone-short, truncate-short, unlink-short, snap-short, delete-short}
use Rattle.qg_generator.proofs.Short.{assign-short, limit-short, commit-short}
use Rattle.qg_generator.specs.GeneratedScript.{Drawn, drawn_on, draw, after, group, sub_drawn, ino_drawn}
use Rattle.qg_generator.specs.GeneratedScript.{position_drawn, length_drawn, write_drawn, clone_drawn, truncate_drawn}
use Rattle.qg_generator.specs.GeneratedScript.{unlink_drawn, snap_drawn, delete_drawn, assign_drawn, limit_drawn}
use Rattle.qg_generator.specs.GeneratedScript.{line_of_kind, line_drawn}

-- ---- words

draw-below : (bound state : ℕ) → 0 < bound → draw bound state < bound
unfolding draw
draw-below bound state some = mod-lt (drawn_on state / 2 ^ 33) some

sub-of_test : (small : Bool) (drawn : ℕ) → drawn < 16 → (if small then 5 else 248 + drawn) < 264
sub-of_test true drawn below = lit< tt
sub-of_test false drawn below = omega (arith, below)

sub-below : (state : ℕ) → sub_drawn state < 264
unfolding sub_drawn
sub-below state = sub-of_test (nat_lt (draw 16 state) 8) (draw 16 state) (draw-below 16 state (lit< tt))

sub-word : (state : ℕ) → is_sub_word (sub_drawn state) ≡ true
sub-word state = lt-ltb (sub_drawn state) (2 ^ 48) (lt_trans (sub-below state) (lit< tt))

-- the group of a subvolume has its number
sub-group : (state : ℕ) → is_word (sub_drawn state) ≡ true
sub-group state = lt-ltb (sub_drawn state) (2 ^ 64) (lt_trans (sub-below state) (lit< tt))

ino-above : (state : ℕ) → 257 ≤ ino_drawn state
unfolding ino_drawn
ino-above state = omega arith

ino-below : (state : ℕ) → ino_drawn state < 265
unfolding ino_drawn
ino-below state = omega (arith, draw-below 8 state (lit< tt))

ino-word : (state : ℕ) → is_ino_word (ino_drawn state) ≡ true
ino-word state =
    let low = le-leb 257 (ino_drawn state) (ino-above state) in
    let high = lt-ltb (ino_drawn state) (2 ^ 48) (lt_trans (ino-below state) (lit< tt)) in
    and_from (nat_le 257 (ino_drawn state)) (nat_lt (ino_drawn state) (2 ^ 48)) low high

position-below : (state : ℕ) → position_drawn state < 262144
unfolding position_drawn
position-below state = omega (arith, draw-below 64 state (lit< tt))

position-word : (state : ℕ) → is_word (position_drawn state) ≡ true
position-word state = lt-ltb (position_drawn state) (2 ^ 64) (lt_trans (position-below state) (lit< tt))

length-below : (state : ℕ) → length_drawn state < 65537
unfolding length_drawn
length-below state = omega (arith, draw-below 16 state (lit< tt))

length-word : (state : ℕ) → is_word (length_drawn state) ≡ true
length-word state = lt-ltb (length_drawn state) (2 ^ 64) (lt_trans (length-below state) (lit< tt))

-- ---- lines

-- a line that the grammar has
record Fits (line : Drawn) : Type 0 where
  in_grammar : is_in_grammar line.command ≡ true
  short : length (command_text line.command) ≤ 256

-- the numbers are below 2 ^ 64
sub-small : (state : ℕ) → sub_drawn state < 2 ^ 64
sub-small state = lt_trans (sub-below state) (lit< tt)

ino-small : (state : ℕ) → ino_drawn state < 2 ^ 64
ino-small state = lt_trans (ino-below state) (lit< tt)

position-small : (state : ℕ) → position_drawn state < 2 ^ 64
position-small state = lt_trans (position-below state) (lit< tt)

length-small : (state : ℕ) → length_drawn state < 2 ^ 64
length-small state = lt_trans (length-below state) (lit< tt)

-- a subvolume's number and a file's
file-words : (state other : ℕ) → (is_sub_word (sub_drawn state) && is_ino_word (ino_drawn other)) ≡ true
file-words state other =
    and_from (is_sub_word (sub_drawn state)) (is_ino_word (ino_drawn other)) (sub-word state) (ino-word other)

write-fits : (state : ℕ) → Fits (write_drawn state)
unfolding write_drawn is_in_grammar
write-fits state =
    let file = file-words state (after 1 state) in
    let position = position-word (after 2 state) in
    let long = length-word (after 3 state) in
    record {
      in_grammar = and_from _ _ (and_from _ _ file position) long;
      short = write-short _ _ _ _ (sub-small state) (ino-small (after 1 state)) (position-small (after 2 state))
          (length-small (after 3 state));
    }

clone-fits : (state : ℕ) → Fits (clone_drawn state)
unfolding clone_drawn is_in_grammar
clone-fits state =
    let file = file-words state (after 1 state) in
    let position = position-word (after 2 state) in
    let long = length-word (after 3 state) in
    let to_sub = sub-word (after 4 state) in
    let to_ino = ino-word (after 5 state) in
    let to_position = position-word (after 6 state) in
    let from = and_from _ _ (and_from _ _ file position) long in
    record {
      in_grammar = and_from _ _ (and_from _ _ (and_from _ _ from to_sub) to_ino) to_position;
      short = clone-short _ _ _ _ _ _ _ (sub-small state) (ino-small (after 1 state)) (position-small (after 2 state))
          (length-small (after 3 state))
          (sub-small (after 4 state)) (ino-small (after 5 state)) (position-small (after 6 state));
    }

truncate-fits : (state : ℕ) → Fits (truncate_drawn state)
unfolding truncate_drawn is_in_grammar
truncate-fits state =
    let file = file-words state (after 1 state) in
    record {
      in_grammar = and_from _ _ file (position-word (after 2 state));
      short = truncate-short _ _ _ (sub-small state) (ino-small (after 1 state)) (position-small (after 2 state));
    }

unlink-fits : (state : ℕ) → Fits (unlink_drawn state)
unfolding unlink_drawn is_in_grammar
unlink-fits state = record {
  in_grammar = file-words state (after 1 state);
  short = unlink-short _ _ (sub-small state) (ino-small (after 1 state));
}

snap-fits : (state : ℕ) → Fits (snap_drawn state)
unfolding snap_drawn is_in_grammar
snap-fits state = record { in_grammar = and_from _ _ (sub-word state) refl; short = snap-short _ (sub-small state) }

delete-below : (state : ℕ) → 256 + draw 256 state < 512
delete-below state = omega (arith, draw-below 256 state (lit< tt))

delete-fits : (state : ℕ) → Fits (delete_drawn state)
unfolding delete_drawn is_in_grammar
delete-fits state =
    record {
      in_grammar = lt-ltb (256 + draw 256 state) (2 ^ 48) (lt_trans (delete-below state) (lit< tt));
      short = delete-short _ (lt_trans (delete-below state) (lit< tt));
    }

parent-below : (state : ℕ) → group 1 (1 + draw 2 state) < 281474976710659
parent-below state = omega (arith, draw-below 2 state (lit< tt))

assign-fits : (state : ℕ) → Fits (assign_drawn state)
unfolding assign_drawn is_in_grammar
assign-fits state =
    let parent = parent-below (after 1 state) in
    let parent_fits = lt-ltb (group 1 (1 + draw 2 (after 1 state))) (2 ^ 64) (lt_trans parent (lit< tt)) in
    record {
      in_grammar = and_from _ _ (sub-group state) parent_fits;
      short = assign-short _ _ (sub-small state) (lt_trans parent (lit< tt));
    }

limit-below : (state : ℕ) → 65536 * (1 + draw 256 state) < 16777217
limit-below state = omega (arith, draw-below 256 state (lit< tt))

limit-fits : (state : ℕ) → Fits (limit_drawn state)
unfolding limit_drawn is_in_grammar
limit-fits state =
    let limit = limit-below (after 1 state) in
    let limit_fits = lt-ltb (65536 * (1 + draw 256 (after 1 state))) (2 ^ 64) (lt_trans limit (lit< tt)) in
    record {
      in_grammar = and_from _ _ (sub-group state) limit_fits;
      short = limit-short _ _ (sub-small state) (lt_trans limit (lit< tt));
    }

commit-fits : (state : ℕ) → Fits (record { command = Commit; behind = state })
unfolding is_in_grammar
commit-fits state = record { in_grammar = refl; short = commit-short }

either : (test : Bool) {one other : Drawn} → Fits one → Fits other → Fits (if test then one else other)
either true one other = one
either false one other = other

kind-fits : (kind state : ℕ) → Fits (line_of_kind kind state)
unfolding line_of_kind
kind-fits kind state =
    either (nat_lt kind 7) (write-fits state)
    (either (nat_lt kind 9) (clone-fits state)
    (either (kind == 9) (truncate-fits state)
    (either (kind == 10) (unlink-fits state)
    (either (kind == 11) (snap-fits state)
    (either (kind == 12) (delete-fits state)
    (either (kind == 13) (assign-fits state)
    (either (kind == 14) (limit-fits state) (commit-fits state))))))))

line-fits : (state : ℕ) → Fits (line_drawn state)
unfolding line_drawn
line-fits state = kind-fits (draw 16 state) (drawn_on state)

-- a command that was drawn is one that the grammar has
pub drawn-fits :
    (state behind : ℕ) (command : Command) → line_drawn state ≡ record { command = command; behind = behind }
    → is_in_grammar command ≡ true
drawn-fits state behind command is =
    ap (λ (line : Drawn). is_in_grammar line.command) (sym is) ∙ (line-fits state).in_grammar

-- and its text is that of a line
pub drawn-line :
    (state behind : ℕ) (command : Command) → line_drawn state ≡ record { command = command; behind = behind }
    → IsLineOf (command_text command) command
drawn-line state behind command is = record {
  text = refl;
  in_grammar = drawn-fits state behind command is;
  short = subst (λ (line : Drawn). length (command_text line.command) ≤ 256) is (line-fits state).short;
}
