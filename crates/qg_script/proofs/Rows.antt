-- What is read behind the first word of a line.
use Rattle.std.proofs.Common.{◌≡◌, ℕ, ◌+◌, ◌*◌, ◌<◌, ◌^◌, List, [], ◌∷◌, ◌++◌, length, get_or, All, Option, Some, None}
use Rattle.std.proofs.Common.{true, refl, sym, ap, ◌∙◌, arith, append_assoc, lit<}
use Rattle.std.specs.Prelude.{codes, ◌&&◌}
use Rattle.std.specs.List.{flat_map}
use Rattle.std.proofs.lemmas.Bool.{and_parts, and_from}
use Rattle.std.proofs.lemmas.Bool.Decides.{nat_tests}
use Rattle.std.proofs.lemmas.List.{append-nil, append_cancel_left}
use Rattle.std.proofs.lemmas.List.Elements.{All-nil, All-cons}
use Rattle.qg_num.specs.declared.command.Command.{Command}
use Rattle.qg_num.specs.declared.command.Command.TheVariants.{Write, Clone, Truncate, Unlink, Delete, Ls, Owners}
use Rattle.qg_grammar.specs.ScriptText.{command_text, is_in_grammar, is_sub_word, is_ino_word, is_word, then_number}
use Rattle.qg_script.specs.Reading.{AreNumbers, IsTextOf, Reads}
use Rattle.qg_script.proofs.Parting.{number_at}

-- ---- results

-- nothing was read of a text that no command has
pub reads_none : {text : List ℕ} (found : Option Command) → found ≡ None
    → ((command : Command) → IsTextOf text command → ⊥) → Reads text found
reads_none None is none = record { command = tt; none = none }
reads_none (Some command) is none = absurd cc

-- ---- numbers

-- the numbers of a subvolume and of a file in it are those that a line may have
abbrev pub is_file : ℕ → ℕ → Type 0
is_file sub ino = (is_sub_word sub && is_ino_word ino) ≡ true

-- two numbers are a file's, and were read as such
abbrev pub IsReadAs : ℕ → ℕ → ℕ → ℕ → Type 0
IsReadAs sub ino first second = is_file first second × ◌≡◌ {A = ℕ × ℕ} (sub, ino) (first, second)

same_pair : {sub ino first second : ℕ} → ◌≡◌ {A = ℕ × ℕ} (sub, ino) (first, second) → (sub ≡ first) × (ino ≡ second)
same_pair {sub} {ino} {first} {second} is = (ap (λ (pair : ℕ × ℕ). pair.0) is, ap (λ (pair : ℕ × ℕ). pair.1) is)

-- other numbers of a text than those of a file are read as a file's where they are
pub file_at : {count : ℕ} {text numbers others : List ℕ} (sub ino : ℕ) → AreNumbers count text numbers
    → AreNumbers count text others
    → is_file (get_or others sub 0) (get_or others ino 0) → is_file (get_or numbers sub 0) (get_or numbers ino 0)
file_at {count} {text} {numbers} {others} sub ino are other is =
    rw (number_at sub other are, number_at ino other are) is

-- each has 64 bits
abbrev pub Fit : List ℕ → Type 0
Fit numbers = All (λ n. n < 2 ^ 64) numbers

pub none_fit : Fit []
none_fit = All-nil (λ n. n < 2 ^ 64)

pub word_fits : (n : ℕ) (numbers : List ℕ) → is_word n ≡ true → Fit numbers → Fit (n ∷ numbers)
word_fits n numbers is others = All-cons (λ n. n < 2 ^ 64) n numbers (grind (arith, nat_tests)) others

pub sub_fits : (sub : ℕ) → is_sub_word sub ≡ true → sub < 2 ^ 64
sub_fits sub is = grind (arith, nat_tests)

ino_fits : (ino : ℕ) → is_ino_word ino ≡ true → ino < 2 ^ 64
ino_fits ino is = grind (arith, nat_tests)

pub file_fits : (sub ino : ℕ) (numbers : List ℕ) → is_file sub ino → Fit numbers → Fit (sub ∷ ino ∷ numbers)
file_fits sub ino numbers is others =
    let parts = and_parts (is_sub_word sub) (is_ino_word ino) is in
    All-cons (λ n. n < 2 ^ 64) sub (ino ∷ numbers) (sub_fits sub parts.0)
    (All-cons (λ n. n < 2 ^ 64) ino numbers (ino_fits ino parts.1) others)

pub is_word-fits : (n : ℕ) → n < 2 ^ 64 → is_word n ≡ true
is_word-fits n fits = grind (arith, nat_tests)

-- a number that was read is one that a line may have
pub word_at : {count : ℕ} {text numbers : List ℕ} (place : ℕ) → AreNumbers count text numbers → place < count
    → is_word (get_or numbers place 0) ≡ true
word_at {count} {text} {numbers} place are within =
    is_word-fits (get_or numbers place 0) (are.fit place 0 (omega (arith, are.as_many)))

-- one number alone
pub one : {text : List ℕ} (numbers : List ℕ) → AreNumbers 1 text numbers → numbers ≡ get_or numbers 0 0 ∷ []
one [] are = absurd (omega (arith, are.as_many))
one (a ∷ []) are = refl
one (a ∷ b ∷ numbers) are = absurd (omega (arith, are.as_many))

-- two numbers one by one
pub two : {text : List ℕ} (numbers : List ℕ) → AreNumbers 2 text numbers
    → numbers ≡ get_or numbers 0 0 ∷ get_or numbers 1 0 ∷ []
two [] are = absurd (omega (arith, are.as_many))
two (a ∷ []) are = absurd (omega (arith, are.as_many))
two (a ∷ b ∷ []) are = refl
two (a ∷ b ∷ c ∷ numbers) are = absurd (omega (arith, are.as_many))

-- three numbers one by one
pub three : {text : List ℕ} (numbers : List ℕ) → AreNumbers 3 text numbers
    → numbers ≡ get_or numbers 0 0 ∷ get_or numbers 1 0 ∷ get_or numbers 2 0 ∷ []
three [] are = absurd (omega (arith, are.as_many))
three (a ∷ []) are = absurd (omega (arith, are.as_many))
three (a ∷ b ∷ []) are = absurd (omega (arith, are.as_many))
three (a ∷ b ∷ c ∷ []) are = refl
three (a ∷ b ∷ c ∷ d ∷ numbers) are = absurd (omega (arith, are.as_many))

-- four numbers one by one
pub four : {text : List ℕ} (numbers : List ℕ) → AreNumbers 4 text numbers
    → numbers ≡ get_or numbers 0 0 ∷ get_or numbers 1 0 ∷ get_or numbers 2 0 ∷ get_or numbers 3 0 ∷ []
four [] are = absurd (omega (arith, are.as_many))
four (a ∷ []) are = absurd (omega (arith, are.as_many))
four (a ∷ b ∷ []) are = absurd (omega (arith, are.as_many))
four (a ∷ b ∷ c ∷ []) are = absurd (omega (arith, are.as_many))
four (a ∷ b ∷ c ∷ d ∷ []) are = refl
four (a ∷ b ∷ c ∷ d ∷ e ∷ numbers) are = absurd (omega (arith, are.as_many))

-- seven numbers one by one
pub seven : {text : List ℕ} (numbers : List ℕ) → AreNumbers 7 text numbers
    → numbers ≡ get_or numbers 0 0 ∷ get_or numbers 1 0 ∷ get_or numbers 2 0 ∷ get_or numbers 3 0 ∷ get_or numbers 4 0
    ∷ get_or numbers 5 0 ∷ get_or numbers 6 0 ∷ []
seven [] are = absurd (omega (arith, are.as_many))
seven (a ∷ []) are = absurd (omega (arith, are.as_many))
seven (a ∷ b ∷ []) are = absurd (omega (arith, are.as_many))
seven (a ∷ b ∷ c ∷ []) are = absurd (omega (arith, are.as_many))
seven (a ∷ b ∷ c ∷ d ∷ []) are = absurd (omega (arith, are.as_many))
seven (a ∷ b ∷ c ∷ d ∷ e ∷ []) are = absurd (omega (arith, are.as_many))
seven (a ∷ b ∷ c ∷ d ∷ e ∷ f ∷ []) are = absurd (omega (arith, are.as_many))
seven (a ∷ b ∷ c ∷ d ∷ e ∷ f ∷ g ∷ []) are = refl
seven (a ∷ b ∷ c ∷ d ∷ e ∷ f ∷ g ∷ h ∷ numbers) are = absurd (omega (arith, are.as_many))

-- ---- rows

-- the first two bytes, which tell apart the texts of commands with different first words
abbrev pub mark : List ℕ → ℕ
mark text = get_or text 0 0 * 256 + get_or text 1 0

-- what stands behind the first word of a text are its numbers
pub numbers_of : (word : List ℕ) {rest numbers : List ℕ} → word ++ rest ≡ word ++ flat_map then_number numbers
    → Fit numbers → AreNumbers (length numbers) rest numbers
numbers_of word {rest} {numbers} same fit =
    record { whole = append_cancel_left word rest (flat_map then_number numbers) same; fit = fit; as_many = refl }

pub write_text : (sub ino off len : ℕ) → command_text (Write sub ino off len) ≡ codes "write"
    ++ flat_map then_number (sub ∷ ino ∷ off ∷ len ∷ [])
unfolding command_text
write_text sub ino off len = simp (append_assoc, append-nil)

-- a command whose text begins with `write` is one of that word, and the numbers behind it are its own
pub only_write : (P : Command → Type 0) (rest : List ℕ)
    → ((sub ino off len : ℕ) → is_file sub ino → AreNumbers 4 rest (sub ∷ ino ∷ off ∷ len ∷ [])
    → P (Write sub ino off len))
    → (command : Command) → IsTextOf (codes "write" ++ rest) command → P command
unfolding command_text is_in_grammar
only_write P rest write (Write sub ino off len) is =
    let last = and_parts (is_sub_word sub && is_ino_word ino && is_word off) (is_word len) is.in_grammar in
    let file = and_parts (is_sub_word sub && is_ino_word ino) (is_word off) last.0 in
    let fit = file_fits sub ino (off ∷ len ∷ []) file.0
    (word_fits off (len ∷ []) file.1 (word_fits len [] last.1 none_fit)) in
    write sub ino off len file.0 (numbers_of (codes "write") (is.spelled ∙ write_text sub ino off len) fit)
only_write P rest write command is = let first = ap mark is.spelled in absurd (omega (arith, first))

-- and that command has the text
pub write_read : {rest numbers : List ℕ} {sub ino : ℕ} → AreNumbers 4 rest numbers
    → IsReadAs sub ino (get_or numbers 0 0) (get_or numbers 1 0)
    → IsTextOf (codes "write" ++ rest) (Write sub ino (get_or numbers 2 0) (get_or numbers 3 0))
unfolding is_in_grammar
write_read {rest} {numbers} {sub} {ino} are of =
    let is = same_pair of.1 in
    let behind : rest ≡ flat_map then_number (get_or numbers 0 0 ∷ get_or numbers 1 0 ∷ get_or numbers 2 0
    ∷ get_or numbers 3 0 ∷ []) =
    are.whole ∙ ap (flat_map then_number) (four numbers are) in
    rw (is.0, is.1) (record {
      spelled = ap (λ (xs : List ℕ). codes "write" ++ xs) behind ∙ sym (write_text _ _ _ _);
      in_grammar = and_from _ _ (and_from _ _ of.0 (word_at 2 are (lit< tt))) (word_at 3 are (lit< tt));
    })

-- ---- the other commands of files, each in the same way

pub clone_text : (sub ino off len to_sub to_ino to_off : ℕ)
    → command_text (Clone sub ino off len to_sub to_ino to_off) ≡ codes "clone"
    ++ flat_map then_number (sub ∷ ino ∷ off ∷ len ∷ to_sub ∷ to_ino ∷ to_off ∷ [])
unfolding command_text
clone_text sub ino off len to_sub to_ino to_off = simp (append_assoc, append-nil)

pub only_clone : (P : Command → Type 0) (rest : List ℕ)
    → ((sub ino off len to_sub to_ino to_off : ℕ) → is_file sub ino → is_file to_sub to_ino
    → AreNumbers 7 rest (sub ∷ ino ∷ off ∷ len ∷ to_sub ∷ to_ino ∷ to_off ∷ [])
    → P (Clone sub ino off len to_sub to_ino to_off))
    → (command : Command) → IsTextOf (codes "clone" ++ rest) command → P command
unfolding command_text is_in_grammar
only_clone P rest clone (Clone sub ino off len to_sub to_ino to_off) is =
    let last = and_parts (is_sub_word sub && is_ino_word ino && is_word off && is_word len && is_sub_word to_sub
    && is_ino_word to_ino) (is_word to_off) is.in_grammar in
    let sixth = and_parts (is_sub_word sub && is_ino_word ino && is_word off && is_word len && is_sub_word to_sub)
    (is_ino_word to_ino) last.0 in
    let fifth = and_parts (is_sub_word sub && is_ino_word ino && is_word off && is_word len)
    (is_sub_word to_sub) sixth.0 in
    let fourth = and_parts (is_sub_word sub && is_ino_word ino && is_word off) (is_word len) fifth.0 in
    let file = and_parts (is_sub_word sub && is_ino_word ino) (is_word off) fourth.0 in
    let to_file : is_file to_sub to_ino = and_from (is_sub_word to_sub) (is_ino_word to_ino) fifth.1 sixth.1 in
    let fit =
    file_fits sub ino (off ∷ len ∷ to_sub ∷ to_ino ∷ to_off ∷ []) file.0
    (word_fits off (len ∷ to_sub ∷ to_ino ∷ to_off ∷ []) file.1
    (word_fits len (to_sub ∷ to_ino ∷ to_off ∷ []) fourth.1
    (file_fits to_sub to_ino (to_off ∷ []) to_file (word_fits to_off [] last.1 none_fit)))) in
    clone sub ino off len to_sub to_ino to_off file.0 to_file
    (numbers_of (codes "clone") (is.spelled ∙ clone_text sub ino off len to_sub to_ino to_off) fit)
only_clone P rest clone command is = let first = ap mark is.spelled in absurd (omega (arith, first))

pub clone_read : {rest numbers : List ℕ} {sub ino to_sub to_ino : ℕ} → AreNumbers 7 rest numbers
    → IsReadAs sub ino (get_or numbers 0 0) (get_or numbers 1 0)
    → IsReadAs to_sub to_ino (get_or numbers 4 0) (get_or numbers 5 0)
    → IsTextOf (codes "clone" ++ rest) (Clone sub ino (get_or numbers 2 0) (get_or numbers 3 0) to_sub to_ino
    (get_or numbers 6 0))
unfolding is_in_grammar
clone_read {rest} {numbers} {sub} {ino} {to_sub} {to_ino} are of to =
    let is = same_pair of.1 in
    let is_to = same_pair to.1 in
    let behind = are.whole ∙ ap (flat_map then_number) (seven numbers are) in
    let parts = and_parts (is_sub_word (get_or numbers 4 0)) (is_ino_word (get_or numbers 5 0)) to.0 in
    rw (is.0, is.1, is_to.0, is_to.1) (record {
      spelled = ap (λ (xs : List ℕ). codes "clone" ++ xs) behind ∙ sym (clone_text _ _ _ _ _ _ _);
      in_grammar =
          and_from _ _ (and_from _ _
          (and_from _ _ (and_from _ _ (and_from _ _ of.0 (word_at 2 are (lit< tt))) (word_at 3 are (lit< tt)))
          parts.0) parts.1)
          (word_at 6 are (lit< tt));
    })

pub truncate_text : (sub ino size : ℕ) → command_text (Truncate sub ino size) ≡ codes "truncate"
    ++ flat_map then_number (sub ∷ ino ∷ size ∷ [])
unfolding command_text
truncate_text sub ino size = simp (append_assoc, append-nil)

pub only_truncate : (P : Command → Type 0) (rest : List ℕ)
    → ((sub ino size : ℕ) → is_file sub ino → AreNumbers 3 rest (sub ∷ ino ∷ size ∷ []) → P (Truncate sub ino size))
    → (command : Command) → IsTextOf (codes "truncate" ++ rest) command → P command
unfolding command_text is_in_grammar
only_truncate P rest truncate (Truncate sub ino size) is =
    let file = and_parts (is_sub_word sub && is_ino_word ino) (is_word size) is.in_grammar in
    let fit = file_fits sub ino (size ∷ []) file.0 (word_fits size [] file.1 none_fit) in
    truncate sub ino size file.0 (numbers_of (codes "truncate") (is.spelled ∙ truncate_text sub ino size) fit)
only_truncate P rest truncate command is = let first = ap mark is.spelled in absurd (omega (arith, first))

pub truncate_read : {rest numbers : List ℕ} {sub ino : ℕ} → AreNumbers 3 rest numbers
    → IsReadAs sub ino (get_or numbers 0 0) (get_or numbers 1 0)
    → IsTextOf (codes "truncate" ++ rest) (Truncate sub ino (get_or numbers 2 0))
unfolding is_in_grammar
truncate_read {rest} {numbers} {sub} {ino} are of =
    let is = same_pair of.1 in
    let behind = are.whole ∙ ap (flat_map then_number) (three numbers are) in
    rw (is.0, is.1) (record {
      spelled = ap (λ (xs : List ℕ). codes "truncate" ++ xs) behind ∙ sym (truncate_text _ _ _);
      in_grammar = and_from _ _ of.0 (word_at 2 are (lit< tt));
    })

-- ---- the commands that tell a file and no more

pub record TellsFile (word : List ℕ) (command : ℕ → ℕ → Command) : Type 0 where
  pub text : (sub ino : ℕ) → command_text (command sub ino) ≡ word ++ flat_map then_number (sub ∷ ino ∷ [])
  pub grammar : (sub ino : ℕ) → is_in_grammar (command sub ino) ≡ (is_sub_word sub && is_ino_word ino)

-- the numbers behind the word are the file's
file_numbers : {word rest : List ℕ} {command : ℕ → ℕ → Command} {sub ino : ℕ} → TellsFile word command → is_file sub ino
    → IsTextOf (word ++ rest) (command sub ino)
    → AreNumbers 2 rest (sub ∷ ino ∷ [])
file_numbers {word} {rest} {command} {sub} {ino} tells file is =
    numbers_of word (is.spelled ∙ tells.text sub ino) (file_fits sub ino [] file none_fit)

pub file_read : {word rest numbers : List ℕ} {command : ℕ → ℕ → Command} {sub ino : ℕ} → TellsFile word command
    → AreNumbers 2 rest numbers
    → IsReadAs sub ino (get_or numbers 0 0) (get_or numbers 1 0) → IsTextOf (word ++ rest) (command sub ino)
file_read {word} {rest} {numbers} {command} {sub} {ino} tells are of =
    let is = same_pair of.1 in
    let behind = are.whole ∙ ap (flat_map then_number) (two numbers are) in
    rw (is.0, is.1) (record {
      spelled = ap (λ (xs : List ℕ). word ++ xs) behind ∙ sym (tells.text _ _);
      in_grammar = tells.grammar _ _ ∙ of.0;
    })

pub unlink_tells : TellsFile (codes "unlink") Unlink
unfolding command_text is_in_grammar
unlink_tells = record { text = λ sub ino. simp (append_assoc, append-nil); grammar = λ sub ino. refl }

pub only_unlink : (P : Command → Type 0) (rest : List ℕ)
    → ((sub ino : ℕ) → is_file sub ino → AreNumbers 2 rest (sub ∷ ino ∷ []) → P (Unlink sub ino))
    → (command : Command) → IsTextOf (codes "unlink" ++ rest) command → P command
unfolding command_text is_in_grammar
only_unlink P rest unlink (Unlink sub ino) is =
    unlink sub ino is.in_grammar (file_numbers unlink_tells is.in_grammar is)
only_unlink P rest unlink command is = let first = ap mark is.spelled in absurd (omega (arith, first))

pub ls_tells : TellsFile (codes "ls") Ls
unfolding command_text is_in_grammar
ls_tells = record { text = λ sub ino. simp (append_assoc, append-nil); grammar = λ sub ino. refl }

pub only_ls : (P : Command → Type 0) (rest : List ℕ)
    → ((sub ino : ℕ) → is_file sub ino → AreNumbers 2 rest (sub ∷ ino ∷ []) → P (Ls sub ino))
    → (command : Command) → IsTextOf (codes "ls" ++ rest) command → P command
unfolding command_text is_in_grammar
only_ls P rest ls (Ls sub ino) is = ls sub ino is.in_grammar (file_numbers ls_tells is.in_grammar is)
only_ls P rest ls command is = let first = ap mark is.spelled in absurd (omega (arith, first))

-- ---- the commands that tell one number

-- the number of a subvolume is one that a line may have, and was read as such
abbrev pub IsSubRead : ℕ → ℕ → Type 0
IsSubRead sub first = (is_sub_word first ≡ true) × (sub ≡ first)

-- another number of a text is read as a subvolume's where it is one
pub sub_at : {count : ℕ} {text numbers others : List ℕ} → AreNumbers count text numbers → AreNumbers count text others
    → is_sub_word (get_or others 0 0) ≡ true → is_sub_word (get_or numbers 0 0) ≡ true
sub_at {count} {text} {numbers} {others} are other is = rw (number_at 0 other are) is

sub_fit : (sub : ℕ) → is_sub_word sub ≡ true → Fit (sub ∷ [])
sub_fit sub is = All-cons (λ n. n < 2 ^ 64) sub [] (sub_fits sub is) none_fit

pub delete_text : (sub : ℕ) → command_text (Delete sub) ≡ codes "delete" ++ flat_map then_number (sub ∷ [])
unfolding command_text
delete_text sub = simp (append-nil)

pub only_delete : (P : Command → Type 0) (rest : List ℕ)
    → ((sub : ℕ) → is_sub_word sub ≡ true → AreNumbers 1 rest (sub ∷ []) → P (Delete sub))
    → (command : Command) → IsTextOf (codes "delete" ++ rest) command → P command
unfolding command_text is_in_grammar
only_delete P rest delete (Delete sub) is =
    delete sub is.in_grammar (numbers_of (codes "delete") (is.spelled ∙ delete_text sub) (sub_fit sub is.in_grammar))
only_delete P rest delete command is = let first = ap mark is.spelled in absurd (omega (arith, first))

pub delete_read : {rest numbers : List ℕ} {sub : ℕ} → AreNumbers 1 rest numbers → IsSubRead sub (get_or numbers 0 0)
    → IsTextOf (codes "delete" ++ rest) (Delete sub)
unfolding is_in_grammar
delete_read {rest} {numbers} {sub} are of =
    let behind = are.whole ∙ ap (flat_map then_number) (one numbers are) in
    rw (of.1) (record {
      spelled = ap (λ (xs : List ℕ). codes "delete" ++ xs) behind ∙ sym (delete_text _);
      in_grammar = of.0;
    })

pub owners_text : (address : ℕ) → command_text (Owners address) ≡ codes "owners" ++ flat_map then_number (address ∷ [])
unfolding command_text
owners_text address = simp (append-nil)

pub only_owners : (P : Command → Type 0) (rest : List ℕ)
    → ((address : ℕ) → AreNumbers 1 rest (address ∷ []) → P (Owners address))
    → (command : Command) → IsTextOf (codes "owners" ++ rest) command → P command
unfolding command_text is_in_grammar
only_owners P rest owners (Owners address) is =
    owners address (numbers_of (codes "owners") (is.spelled ∙ owners_text address)
    (word_fits address [] is.in_grammar none_fit))
only_owners P rest owners command is = let first = ap mark is.spelled in absurd (omega (arith, first))

pub owners_read : {rest numbers : List ℕ} → AreNumbers 1 rest numbers
    → IsTextOf (codes "owners" ++ rest) (Owners (get_or numbers 0 0))
unfolding is_in_grammar
owners_read {rest} {numbers} are =
    let behind = are.whole ∙ ap (flat_map then_number) (one numbers are) in
    record {
      spelled = ap (λ (xs : List ℕ). codes "owners" ++ xs) behind ∙ sym (owners_text _);
      in_grammar = word_at 0 are (lit< tt);
    }
