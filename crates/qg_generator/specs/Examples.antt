-- Draws and lines that a script of its own worked out from the rules.
use Rattle.std.specs.Prelude.{◌≡◌, ℕ, ◌^◌, List, [], ◌∷◌, map, codes, refl}
use Rattle.std.specs.Fmt.{digits}
use Rattle.qg_grammar.specs.ScriptText.{command_text}
use Rattle.qg_generator.specs.GeneratedScript.{drawn_on, draw, sub_drawn, ino_drawn, position_drawn, length_drawn}
use Rattle.qg_generator.specs.GeneratedScript.{write_drawn, clone_drawn, truncate_drawn, unlink_drawn, snap_drawn}
use Rattle.qg_generator.specs.GeneratedScript.{delete_drawn, assign_drawn, limit_drawn, line_of_kind, line_drawn}
use Rattle.qg_generator.specs.GeneratedScript.{generated_script}

-- ---- draws from a seed of 1, whole

first_draw : draw (2 ^ 31) 1 ≡ 908834774
unfolding draw drawn_on
first_draw = refl

second_draw : draw (2 ^ 31) (drawn_on 1) ≡ 1093944153
unfolding draw drawn_on
second_draw = refl

-- ---- the first line that is drawn from a seed, one of each kind

abbrev first_line : ℕ → List ℕ
first_line seed = command_text (line_drawn seed).command

first_write : first_line 1 ≡ codes "write 257 261 155648 45056"
unfolding line_drawn line_of_kind write_drawn sub_drawn ino_drawn position_drawn length_drawn draw drawn_on command_text
    digits
first_write = refl

first_clone : first_line 6 ≡ codes "clone 262 262 126976 53248 259 263 147456"
unfolding line_drawn line_of_kind clone_drawn sub_drawn ino_drawn position_drawn length_drawn draw drawn_on command_text
    digits
first_clone = refl

first_truncate : first_line 16 ≡ codes "truncate 256 257 69632"
unfolding line_drawn line_of_kind truncate_drawn sub_drawn ino_drawn position_drawn draw drawn_on command_text digits
first_truncate = refl

first_unlink : first_line 4 ≡ codes "unlink 260 263"
unfolding line_drawn line_of_kind unlink_drawn sub_drawn ino_drawn draw drawn_on command_text digits
first_unlink = refl

first_snap : first_line 9 ≡ codes "snap 5"
unfolding line_drawn line_of_kind snap_drawn sub_drawn draw drawn_on command_text digits
first_snap = refl

first_delete : first_line 2 ≡ codes "delete 426"
unfolding line_drawn line_of_kind delete_drawn draw drawn_on command_text digits
first_delete = refl

first_assign : first_line 19 ≡ codes "assign 0/259 1/2"
unfolding line_drawn line_of_kind assign_drawn sub_drawn draw drawn_on command_text digits
first_assign = refl

first_limit : first_line 7 ≡ codes "limit rfer 0/263 3276800"
unfolding line_drawn line_of_kind limit_drawn sub_drawn draw drawn_on command_text digits
first_limit = refl

first_commit : first_line 0 ≡ codes "commit"
unfolding line_drawn line_of_kind draw drawn_on command_text
first_commit = refl

-- a seed has 64 bits: this one is 1 above 2 ^ 32
seed_past_32_bits : first_line 4294967297 ≡ codes "delete 334"
unfolding line_drawn line_of_kind delete_drawn draw drawn_on command_text digits
seed_past_32_bits = refl

-- ---- a whole script

two_lines_are_drawn :
    map command_text (generated_script 1 2)
    ≡ codes "qgroup create 1/1" ∷ codes "qgroup create 1/2" ∷ codes "qgroup create 2/1" ∷
    codes "assign 1/1 2/1" ∷ codes "assign 1/2 2/1" ∷
    codes "write 257 261 155648 45056" ∷ codes "write 258 263 167936 45056" ∷ []
unfolding line_drawn line_of_kind write_drawn sub_drawn ino_drawn position_drawn length_drawn draw drawn_on command_text
    digits
two_lines_are_drawn = refl
