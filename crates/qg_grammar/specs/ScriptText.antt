-- The lines of a script and the command of each line (this project's own).
--
-- Each command has one text: words parted by single spaces, numbers in decimal without leading zeros. A line is a
-- command's where it is that text, so two spaces, a sign, a leading zero or a carriage return make it no command's.
use Rattle.std.specs.Prelude.{◌≡◌, ℕ, ◌^◌, ◌≤◌, ◌/◌, ◌%◌, Bool, true, ◌&&◌, List, [], ◌∷◌, ◌++◌, length, codes, Option}
use Rattle.std.specs.Prelude.{Some, None, ◌==◌, nat_le, nat_lt, if◌then◌else◌, IsTrue}
use Rattle.std.specs.List.{flat_map, list_all, onto_first}
use Rattle.std.specs.Fmt.{decimal}
use Rattle.qg_num.specs.declared.command.Command.{Command}
use Rattle.qg_num.specs.declared.command.Command.TheVariants.{Write, Clone, Truncate, Unlink, Commit, SubCreate, Snap}
use Rattle.qg_num.specs.declared.command.Command.TheVariants.{Delete, QuotaOn, QuotaOff, GroupCreate, GroupDestroy}
use Rattle.qg_num.specs.declared.command.Command.TheVariants.{Assign, Remove, Limit, Show, Ls, Owners}
use Rattle.qg_num.specs.declared.counters.Which.{Which}
use Rattle.qg_num.specs.declared.counters.Which.TheVariants.{Rfer, Excl}

-- ---- lines

-- each line ends at its newline, which it doesn't have; what is behind the last newline is a line if it isn't empty
abbrev pub script_lines : List ℕ → List (List ℕ)
script_lines [] = []
script_lines (byte ∷ bytes) = if byte == 10 then [] ∷ script_lines bytes else onto_first byte (script_lines bytes)

-- the longest line in bytes, without its newline
abbrev pub longest_line : ℕ
longest_line = 256

-- the most bytes that a script may have
abbrev pub longest_script : ℕ
longest_script = 67108864

-- ---- words

-- a word behind a space
abbrev pub then_word : List ℕ → List ℕ
then_word word = 32 ∷ word

-- a number in decimal behind a space
abbrev pub then_number : ℕ → List ℕ
then_number n = then_word (decimal n)

-- a group's number as level and id, parted by a slash
abbrev pub group_text : ℕ → List ℕ
group_text group = decimal (group / 2 ^ 48) ++ codes "/" ++ decimal (group % 2 ^ 48)

-- a group behind a space
abbrev pub then_group : ℕ → List ℕ
then_group group = then_word (group_text group)

-- the words for the two kinds of limits
abbrev pub which_text : Which → List ℕ
which_text Rfer = codes "rfer"
which_text Excl = codes "excl"

-- a limit in bytes, or `none`
abbrev pub maximum_text : Option ℕ → List ℕ
maximum_text None = codes "none"
maximum_text (Some max) = decimal max

-- the groups that a snapshot's group is put into; without any the word is left out
abbrev pub inherit_text : List ℕ → List ℕ
inherit_text [] = []
inherit_text (group ∷ groups) = then_word (codes "inherit") ++ flat_map then_group (group ∷ groups)

-- ---- commands

-- a command's one text
unfoldable pub command_text : Command → List ℕ
command_text (Write sub ino off len) = codes "write" ++ then_number sub ++ then_number ino ++ then_number off
    ++ then_number len
command_text (Clone sub ino off len to_sub to_ino to_off) =
    codes "clone" ++ then_number sub ++ then_number ino ++ then_number off ++ then_number len ++ then_number to_sub
    ++ then_number to_ino ++ then_number to_off
command_text (Truncate sub ino size) = codes "truncate" ++ then_number sub ++ then_number ino ++ then_number size
command_text (Unlink sub ino) = codes "unlink" ++ then_number sub ++ then_number ino
command_text Commit = codes "commit"
command_text SubCreate = codes "sub create"
command_text (Snap sub groups) = codes "snap" ++ then_number sub ++ inherit_text groups
command_text (Delete sub) = codes "delete" ++ then_number sub
command_text QuotaOn = codes "quota on"
command_text QuotaOff = codes "quota off"
command_text (GroupCreate group) = codes "qgroup create" ++ then_group group
command_text (GroupDestroy group) = codes "qgroup destroy" ++ then_group group
command_text (Assign member parent) = codes "assign" ++ then_group member ++ then_group parent
command_text (Remove member parent) = codes "remove" ++ then_group member ++ then_group parent
command_text (Limit group which max) = codes "limit" ++ then_word (which_text which) ++ then_group group
    ++ then_word (maximum_text max)
command_text Show = codes "show"
command_text (Ls sub ino) = codes "ls" ++ then_number sub ++ then_number ino
command_text (Owners address) = codes "owners" ++ then_number address

-- a subvolume's number that a line may have
abbrev pub is_sub_word : ℕ → Bool
is_sub_word sub = nat_lt sub (2 ^ 48)

-- a file's number that a line may have
abbrev pub is_ino_word : ℕ → Bool
is_ino_word ino = nat_le 257 ino && nat_lt ino (2 ^ 48)

-- any other number that a line may have: one of 64 bits
abbrev pub is_word : ℕ → Bool
is_word n = nat_lt n (2 ^ 64)

-- a limit that a line may have; none takes it away
abbrev pub is_limit_word : Option ℕ → Bool
is_limit_word None = true
is_limit_word (Some max) = is_word max

-- a command's numbers are in the ranges of the grammar; a group's number has a level and an id that fit
unfoldable pub is_in_grammar : Command → Bool
is_in_grammar (Write sub ino off len) = is_sub_word sub && is_ino_word ino && is_word off && is_word len
is_in_grammar (Clone sub ino off len to_sub to_ino to_off) =
    is_sub_word sub && is_ino_word ino && is_word off && is_word len && is_sub_word to_sub && is_ino_word to_ino
    && is_word to_off
is_in_grammar (Truncate sub ino size) = is_sub_word sub && is_ino_word ino && is_word size
is_in_grammar (Unlink sub ino) = is_sub_word sub && is_ino_word ino
is_in_grammar Commit = true
is_in_grammar SubCreate = true
is_in_grammar (Snap sub groups) = is_sub_word sub && list_all is_word groups
is_in_grammar (Delete sub) = is_sub_word sub
is_in_grammar QuotaOn = true
is_in_grammar QuotaOff = true
is_in_grammar (GroupCreate group) = is_word group
is_in_grammar (GroupDestroy group) = is_word group
is_in_grammar (Assign member parent) = is_word member && is_word parent
is_in_grammar (Remove member parent) = is_word member && is_word parent
is_in_grammar (Limit group which max) = is_word group && is_limit_word max
is_in_grammar Show = true
is_in_grammar (Ls sub ino) = is_sub_word sub && is_ino_word ino
is_in_grammar (Owners address) = is_word address

-- the line is that of the command
pub record IsLineOf (line : List ℕ) (command : Command) : Type 0 where
  pub text : line ≡ command_text command
  pub in_grammar : IsTrue (is_in_grammar command)
  pub short : length line ≤ longest_line
