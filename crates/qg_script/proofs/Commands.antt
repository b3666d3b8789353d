-- Which command a text is that of, by its first word.
use Rattle.std.proofs.Common.{◌≡◌, ◌≢◌, ℕ, ◌≤◌, List, [], ◌∷◌, ◌++◌, length, Option, Some, None, Result, Ok, Err, IfOk}
use Rattle.std.proofs.Common.{IfSome, IfNone, OnErr, true, false, refl, sym, ap, subst, ◌∙◌}
use Rattle.std.specs.Prelude.{bytes_eq, codes, ◌==◌, not}
use Rattle.std.specs.List.{flat_map, list_all}
use Rattle.std.proofs.lemmas.Bool.{false≢true}
use Rattle.std.proofs.lemmas.Slice.Eq.{bytes_eq-Decides}
use Rattle.qg_num.specs.declared.command.Command.{Command}
use Rattle.qg_num.specs.declared.command.Command.TheVariants.{Write, Clone, Truncate, Unlink, Commit, SubCreate, Snap}
use Rattle.qg_num.specs.declared.command.Command.TheVariants.{Delete, QuotaOn, QuotaOff, GroupCreate, GroupDestroy}
use Rattle.qg_num.specs.declared.command.Command.TheVariants.{Assign, Remove, Limit, Show, Ls, Owners}
use Rattle.qg_num.specs.declared.counters.Which.TheVariants.{Rfer, Excl}
use Rattle.qg_num.specs.declared.fault.NoMemory.{NoMemory}
use Rattle.qg_grammar.specs.ScriptText.{IsLineOf, command_text, is_in_grammar, inherit_text, longest_line, maximum_text}
use Rattle.qg_grammar.specs.ScriptText.{then_group, then_number, then_word, which_text}
use Rattle.qg_script.specs.Reading.{IsBehindWord, IsParted, IsSnapshot, IsTextOf, Reads}
use Rattle.qg_script.proofs.Parting.{parted_once, plain_word, numbers_behind}
use Rattle.qg_script.proofs.Rows.{write_text, clone_text, truncate_text, unlink_tells, ls_tells, delete_text}
use Rattle.qg_script.proofs.Rows.{owners_text}

-- bytes that were compared with a word that is written out
pub same_word : (bytes word written : List ℕ) → true ≡ bytes_eq bytes word → word ≡ written → bytes ≡ written
same_word bytes word written test is = (bytes_eq-Decides bytes word).0 (sym test) ∙ is

pub other_word : (bytes word written : List ℕ) → false ≡ bytes_eq bytes word → word ≡ written → bytes ≢ written
other_word bytes word written test is same = false≢true (test ∙ (bytes_eq-Decides bytes word).1 (same ∙ sym is))

-- ---- what was read

pub reads_some : {text : List ℕ} {command : Command} → IsTextOf text command → Reads text (Some command)
reads_some is = record { command = is; none = tt }

-- nothing was read of a text that is no command's
pub reads_not : {text : List ℕ} → ((command : Command) → IsTextOf text command → ⊥) → Reads text None
reads_not none = record { command = tt; none = none }

-- what was read of a first word and what is behind it was read of the text
pub reads_whole : {text word rest written : List ℕ} {found : Option Command} → IsParted text word rest → word ≡ written
    → Reads (written ++ rest) found → Reads text found
reads_whole {text} {word} {rest} {written} {found} parted is reads =
    subst (λ (xs : List ℕ). Reads xs found) (sym (parted.whole ∙ ap (λ (xs : List ℕ). xs ++ rest) is)) reads

pub reads_list : {text word rest written : List ℕ} (result : Result (Option Command) NoMemory) → IsParted text word rest
    → word ≡ written
    → IfOk result (Reads (written ++ rest)) → IfOk result (Reads text)
reads_list (Ok found) parted is reads = reads_whole parted is reads
reads_list (Err fault) parted is reads = tt

-- a text that is short enough is a line
pub line_found : (line : List ℕ) (result : Result (Option Command) NoMemory) → length line ≤ longest_line
    → IfOk result (Reads line)
    → IfOk result (λ found. IfSome found (IsLineOf line))
line_found line (Ok None) short reads = tt
line_found line (Ok (Some command)) short reads =
    record { text = reads.command.spelled; in_grammar = reads.command.in_grammar; short = short }
line_found line (Err fault) short reads = tt

pub no_line_found : (line : List ℕ) (result : Result (Option Command) NoMemory) → IfOk result (Reads line)
    → IfOk result (λ found. IfNone found ((command : Command) → IsLineOf line command → ⊥))
no_line_found line (Ok None) reads =
    λ command is. reads.none command (record { spelled = is.text; in_grammar = is.in_grammar })
no_line_found line (Ok (Some command)) reads = tt
no_line_found line (Err fault) reads = tt

-- a text whose first word is `snap`
pub is_snapshot : {text word rest : List ℕ} → IsParted text word rest → word ≡ codes "snap" → IsSnapshot text
is_snapshot {text} {word} {rest} parted is =
    record { rest = rest; whole = parted.whole ∙ ap (λ (xs : List ℕ). xs ++ rest) is }

pub on_err : {A E P : Type 0} (result : Result A E) → P → OnErr result P
on_err (Ok x) is = tt
on_err (Err fault) is = is

-- ---- commands that are a text by themselves

pub commit_read : {text : List ℕ} → text ≡ codes "commit" → Reads text (Some Commit)
unfolding command_text is_in_grammar
commit_read is = reads_some (record { spelled = is; in_grammar = refl })

pub show_read : {text : List ℕ} → text ≡ codes "show" → Reads text (Some Show)
unfolding command_text is_in_grammar
show_read is = reads_some (record { spelled = is; in_grammar = refl })

pub create_read : {text : List ℕ} → text ≡ codes "sub create" → Reads text (Some SubCreate)
unfolding command_text is_in_grammar
create_read is = reads_some (record { spelled = is; in_grammar = refl })

pub on_read : {text : List ℕ} → text ≡ codes "quota on" → Reads text (Some QuotaOn)
unfolding command_text is_in_grammar
on_read is = reads_some (record { spelled = is; in_grammar = refl })

pub off_read : {text : List ℕ} → text ≡ codes "quota off" → Reads text (Some QuotaOff)
unfolding command_text is_in_grammar
off_read is = reads_some (record { spelled = is; in_grammar = refl })

-- ---- texts of no command

-- a text is none of those that are a command by themselves, and its first word is none of the others'
pub record HasNoWord (text word : List ℕ) : Type 0 where
  pub commit : text ≢ codes "commit"
  pub show : text ≢ codes "show"
  pub create : text ≢ codes "sub create"
  pub on : text ≢ codes "quota on"
  pub off : text ≢ codes "quota off"
  pub write : word ≢ codes "write"
  pub clone : word ≢ codes "clone"
  pub truncate : word ≢ codes "truncate"
  pub unlink : word ≢ codes "unlink"
  pub ls : word ≢ codes "ls"
  pub snap : word ≢ codes "snap"
  pub delete : word ≢ codes "delete"
  pub owners : word ≢ codes "owners"
  pub qgroup : word ≢ codes "qgroup"
  pub assign : word ≢ codes "assign"
  pub remove : word ≢ codes "remove"
  pub limit : word ≢ codes "limit"

-- the first word of a text is the one that it begins with
first_is : {text word rest : List ℕ} (written behind : List ℕ) → IsParted text word rest
    → list_all (λ byte. not (byte == 32)) written ≡ true → IsBehindWord behind
    → text ≡ written ++ behind → word ≡ written
first_is written behind parted plain follows is =
    (parted_once parted (record { whole = is; plain = plain_word written plain; behind = follows })).0

first_of_numbers : {text word rest : List ℕ} (written numbers : List ℕ) → IsParted text word rest
    → list_all (λ byte. not (byte == 32)) written ≡ true
    → text ≡ written ++ flat_map then_number numbers → word ≡ written
first_of_numbers written numbers parted plain is = first_is written (flat_map then_number numbers) parted plain
    (numbers_behind numbers) is

-- such a text is no command's
pub no_command : {text word rest : List ℕ} → IsParted text word rest → HasNoWord text word → (command : Command)
    → IsTextOf text command → ⊥
unfolding command_text
no_command parted other (Write sub ino off len) is =
    other.write (first_of_numbers (codes "write") (sub ∷ ino ∷ off ∷ len ∷ []) parted refl (is.spelled
    ∙ write_text sub ino off len))
no_command parted other (Clone sub ino off len to_sub to_ino to_off) is =
    other.clone (first_of_numbers (codes "clone") (sub ∷ ino ∷ off ∷ len ∷ to_sub ∷ to_ino ∷ to_off ∷ []) parted refl
    (is.spelled ∙ clone_text sub ino off len to_sub to_ino to_off))
no_command parted other (Truncate sub ino size) is =
    other.truncate (first_of_numbers (codes "truncate") (sub ∷ ino ∷ size ∷ []) parted refl (is.spelled
    ∙ truncate_text sub ino size))
no_command parted other (Unlink sub ino) is =
    other.unlink (first_of_numbers (codes "unlink") (sub ∷ ino ∷ []) parted refl (is.spelled
    ∙ unlink_tells.text sub ino))
no_command parted other (Ls sub ino) is =
    other.ls (first_of_numbers (codes "ls") (sub ∷ ino ∷ []) parted refl (is.spelled ∙ ls_tells.text sub ino))
no_command parted other (Delete sub) is =
    other.delete (first_of_numbers (codes "delete") (sub ∷ []) parted refl (is.spelled ∙ delete_text sub))
no_command parted other (Owners address) is =
    other.owners (first_of_numbers (codes "owners") (address ∷ []) parted refl (is.spelled ∙ owners_text address))
no_command parted other (Snap sub groups) is =
    other.snap (first_is (codes "snap") (then_number sub ++ inherit_text groups) parted refl refl is.spelled)
no_command parted other (GroupCreate group) is =
    other.qgroup (first_is (codes "qgroup") (codes " create" ++ then_group group) parted refl refl is.spelled)
no_command parted other (GroupDestroy group) is =
    other.qgroup (first_is (codes "qgroup") (codes " destroy" ++ then_group group) parted refl refl is.spelled)
no_command parted other (Assign member parent) is =
    other.assign (first_is (codes "assign") (then_group member ++ then_group parent) parted refl refl is.spelled)
no_command parted other (Remove member parent) is =
    other.remove (first_is (codes "remove") (then_group member ++ then_group parent) parted refl refl is.spelled)
no_command parted other (Limit group Rfer max) is =
    other.limit (first_is (codes "limit") (codes " rfer" ++ (then_group group ++ then_word (maximum_text max))) parted
    refl refl is.spelled)
no_command parted other (Limit group Excl max) is =
    other.limit (first_is (codes "limit") (codes " excl" ++ (then_group group ++ then_word (maximum_text max))) parted
    refl refl is.spelled)
no_command parted other SubCreate is = other.create is.spelled
no_command parted other Commit is = other.commit is.spelled
no_command parted other Show is = other.show is.spelled
no_command parted other QuotaOn is = other.on is.spelled
no_command parted other QuotaOff is = other.off is.spelled
