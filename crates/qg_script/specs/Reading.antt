-- How a line is read from its front (this project's own).
use Rattle.std.specs.Prelude.{◌≡◌, ◌≢◌, ℕ, ◌<◌, ◌^◌, List, [], ◌∷◌, ◌++◌, length, All, Option, IfSome, IfNone, IsTrue}
use Rattle.std.specs.Prelude.{codes}
use Rattle.std.specs.List.{flat_map}
use Rattle.qg_num.specs.declared.command.Command.{Command}
use Rattle.qg_num.specs.declared.counters.Which.{Which}
use Rattle.qg_grammar.specs.ScriptText.{command_text, is_in_grammar, is_limit_word, inherit_text, maximum_text}
use Rattle.qg_grammar.specs.ScriptText.{then_group, then_number, then_word, which_text}

-- what may stand behind a word: nothing, or what begins with a space
abbrev pub IsBehindWord : List ℕ → Type 0
IsBehindWord [] = Unit {0}
IsBehindWord (byte ∷ bytes) = byte ≡ 32

-- the bytes up to the first space, and those from it on
pub record IsParted (bytes word rest : List ℕ) : Type 0 where
  pub whole : bytes ≡ word ++ rest
  pub plain : All (λ byte. byte ≢ 32) word
  pub behind : IsBehindWord rest

-- the text begins with a space and a number, and this is behind it
pub record IsNextNumber (text : List ℕ) (number : ℕ) (rest : List ℕ) : Type 0 where
  pub whole : text ≡ then_number number ++ rest
  pub fits : number < 2 ^ 64
  pub behind : IsBehindWord rest

-- the text is that of so many numbers, each behind a space
pub record AreNumbers (count : ℕ) (text numbers : List ℕ) : Type 0 where
  pub whole : text ≡ flat_map then_number numbers
  pub fit : All (λ number. number < 2 ^ 64) numbers
  pub as_many : length numbers ≡ count

-- the text begins with a space and a group, and this is behind it
pub record IsNextGroup (text : List ℕ) (group : ℕ) (rest : List ℕ) : Type 0 where
  pub whole : text ≡ then_group group ++ rest
  pub fits : group < 2 ^ 64
  pub behind : IsBehindWord rest

-- the text is that of some groups, each behind a space
pub record AreGroupWords (text groups : List ℕ) : Type 0 where
  pub whole : text ≡ flat_map then_group groups
  pub fit : All (λ group. group < 2 ^ 64) groups

-- the text is what stands behind a snapshot's source that is put into these groups
pub record IsInherited (text groups : List ℕ) : Type 0 where
  pub whole : text ≡ inherit_text groups
  pub fit : All (λ group. group < 2 ^ 64) groups

-- the text begins with a space and the word for a counter, and this is behind it
pub record IsNextWhich (text : List ℕ) (which : Which) (rest : List ℕ) : Type 0 where
  pub whole : text ≡ then_word (which_text which) ++ rest

-- the text is a space and a limit
pub record IsLimit (text : List ℕ) (max : Option ℕ) : Type 0 where
  pub whole : text ≡ then_word (maximum_text max)
  pub fits : IsTrue (is_limit_word max)

-- the text is the command's, whose numbers are in range
pub record IsTextOf (text : List ℕ) (command : Command) : Type 0 where
  pub spelled : text ≡ command_text command
  pub in_grammar : IsTrue (is_in_grammar command)

-- what was read of the text is the command that has it, and none exactly where none has it
pub record Reads (text : List ℕ) (found : Option Command) : Type 0 where
  pub command : IfSome found (IsTextOf text)
  pub none : IfNone found ((command : Command) → IsTextOf text command → ⊥)

-- the text begins with the word of a snapshot, whose list of groups takes memory
pub record IsSnapshot (text : List ℕ) : Type 0 where
  pub rest : List ℕ
  pub whole : text ≡ codes "snap" ++ rest
