-- Lines are short: what a number, and what a group, takes at most.
use Rattle.std.proofs.Common.{ℕ, ◌+◌, ◌^◌, ◌/◌, ◌%◌, ◌<◌, ◌≤◌, List, [], ◌++◌, length, Some, arith, lit<, length-append}
use Rattle.std.specs.Prelude.{codes}
use Rattle.std.specs.Fmt.{decimal}
use Rattle.std.proofs.Math.Nat.{lt_trans}
use Rattle.std.proofs.lemmas.Fmt.{length-decimal-le}
use Rattle.qg_num.specs.declared.command.Command.TheVariants.{Write, Clone, Truncate, Unlink, Commit, Snap, Delete}
use Rattle.qg_num.specs.declared.command.Command.TheVariants.{GroupCreate, Assign, Limit}
use Rattle.qg_num.specs.declared.counters.Which.TheVariants.{Rfer}
use Rattle.qg_grammar.specs.ScriptText.{command_text, then_group, then_number, then_word}

-- a piece behind another
behind : (front back : List ℕ) (a b : ℕ) → length front ≤ a → length back ≤ b → length (front ++ back) ≤ a + b
behind front back a b short short' = let both = length-append front back in omega (arith, both, short, short')

digits-short : (n : ℕ) → n < 2 ^ 64 → length (decimal n) ≤ 20
digits-short n below = length-decimal-le 20 n (lit< tt) (lt_trans below (lit< tt)) below

number-short : (n : ℕ) → n < 2 ^ 64 → length (then_number n) ≤ 21
number-short n below = let few = digits-short n below in omega (arith, few)

level-below : (group : ℕ) → group < 2 ^ 64 → group / 2 ^ 48 < 2 ^ 64
level-below group below = omega arith

id-below : (group : ℕ) → group % 2 ^ 48 < 2 ^ 64
id-below group = omega arith

group-short : (group : ℕ) → group < 2 ^ 64 → length (then_group group) ≤ 42
group-short group below =
    let level = decimal (group / 2 ^ 48) in
    let id = decimal (group % 2 ^ 48) in
    let front = behind level (codes "/") 20 1 (digits-short (group / 2 ^ 48) (level-below group below)) (omega arith) in
    let all = behind (level ++ codes "/") id 21 20 front (digits-short (group % 2 ^ 48) (id-below group)) in
    omega (arith, all)

-- a number more, and a group more
number-more : (front : List ℕ) (room n : ℕ) → length front ≤ room → n < 2 ^ 64
    → length (front ++ then_number n) ≤ room + 21
number-more front room n short below = behind front (then_number n) room 21 short (number-short n below)

group-more : (front : List ℕ) (room group : ℕ) → length front ≤ room → group < 2 ^ 64
    → length (front ++ then_group group) ≤ room + 42
group-more front room group short below = behind front (then_group group) room 42 short (group-short group below)

-- a word and three numbers, and a word and four
three-short : (word : List ℕ) (a b c : ℕ) → length word ≤ 8 → a < 2 ^ 64 → b < 2 ^ 64 → c < 2 ^ 64
    → length (word ++ then_number a ++ then_number b ++ then_number c) ≤ 71
three-short word a b c short small small' small'' =
    let first = number-more word 8 a short small in
    let second = number-more (word ++ then_number a) 29 b first small' in
    number-more (word ++ then_number a ++ then_number b) 50 c second small''

four-short : (word : List ℕ) (a b c d : ℕ) → length word ≤ 8 → a < 2 ^ 64 → b < 2 ^ 64 → c < 2 ^ 64 → d < 2 ^ 64
    → length (word ++ then_number a ++ then_number b ++ then_number c ++ then_number d) ≤ 92
four-short word a b c d short small small' small'' small''' =
    number-more (word ++ then_number a ++ then_number b ++ then_number c) 71 d
    (three-short word a b c short small small' small'') small'''

-- ---- the line of each kind

pub write-short : (sub ino off len : ℕ) → sub < 2 ^ 64 → ino < 2 ^ 64 → off < 2 ^ 64 → len < 2 ^ 64
    → length (command_text (Write sub ino off len)) ≤ 256
unfolding command_text
write-short sub ino off len a b c d =
    let all = four-short (codes "write") sub ino off len (omega arith) a b c d in
    omega (arith, all)

pub clone-short : (sub ino off len to_sub to_ino to_off : ℕ) → sub < 2 ^ 64 → ino < 2 ^ 64 → off < 2 ^ 64 → len < 2 ^ 64
    → to_sub < 2 ^ 64 → to_ino < 2 ^ 64
    → to_off < 2 ^ 64 → length (command_text (Clone sub ino off len to_sub to_ino to_off)) ≤ 256
unfolding command_text
clone-short sub ino off len to_sub to_ino to_off a b c d e f g =
    let front = codes "clone" ++ then_number sub ++ then_number ino ++ then_number off ++ then_number len in
    let four = four-short (codes "clone") sub ino off len (omega arith) a b c d in
    let five = number-more front 92 to_sub four e in
    let six = number-more (front ++ then_number to_sub) 113 to_ino five f in
    let all = number-more (front ++ then_number to_sub ++ then_number to_ino) 134 to_off six g in
    omega (arith, all)

pub truncate-short : (sub ino size : ℕ) → sub < 2 ^ 64 → ino < 2 ^ 64 → size < 2 ^ 64
    → length (command_text (Truncate sub ino size)) ≤ 256
unfolding command_text
truncate-short sub ino size a b c =
    let all = three-short (codes "truncate") sub ino size (omega arith) a b c in
    omega (arith, all)

pub unlink-short : (sub ino : ℕ) → sub < 2 ^ 64 → ino < 2 ^ 64 → length (command_text (Unlink sub ino)) ≤ 256
unfolding command_text
unlink-short sub ino a b =
    let first = number-more (codes "unlink") 6 sub (omega arith) a in
    let all = number-more (codes "unlink" ++ then_number sub) 27 ino first b in
    omega (arith, all)

pub snap-short : (sub : ℕ) → sub < 2 ^ 64 → length (command_text (Snap sub [])) ≤ 256
unfolding command_text
snap-short sub a =
    let first = number-more (codes "snap") 4 sub (omega arith) a in
    let all = behind (codes "snap" ++ then_number sub) [] 25 0 first (omega arith) in
    omega (arith, all)

pub delete-short : (sub : ℕ) → sub < 2 ^ 64 → length (command_text (Delete sub)) ≤ 256
unfolding command_text
delete-short sub a = let all = number-more (codes "delete") 6 sub (omega arith) a in omega (arith, all)

pub create-short : (group : ℕ) → group < 2 ^ 64 → length (command_text (GroupCreate group)) ≤ 256
unfolding command_text
create-short group a = let all = group-more (codes "qgroup create") 13 group (omega arith) a in omega (arith, all)

pub assign-short : (member parent : ℕ) → member < 2 ^ 64 → parent < 2 ^ 64
    → length (command_text (Assign member parent)) ≤ 256
unfolding command_text
assign-short member parent a b =
    let first = group-more (codes "assign") 6 member (omega arith) a in
    let all = group-more (codes "assign" ++ then_group member) 48 parent first b in
    omega (arith, all)

pub limit-short : (group max : ℕ) → group < 2 ^ 64 → max < 2 ^ 64
    → length (command_text (Limit group Rfer (Some max))) ≤ 256
unfolding command_text
limit-short group max a b =
    let front = codes "limit" ++ then_word (codes "rfer") in
    let first = group-more front 10 group (omega arith) a in
    let all = number-more (front ++ then_group group) 52 max first b in
    omega (arith, all)

pub commit-short : length (command_text Commit) ≤ 256
unfolding command_text
commit-short = omega arith
