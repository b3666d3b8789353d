-- What is known of the numbers of a command that the grammar has.
use Rattle.std.proofs.Common.{◌≡◌, ℕ, ◌<◌, ◌≤◌, true}
use Rattle.std.specs.Prelude.{◌&&◌, nat_le, nat_lt}
use Rattle.std.proofs.lemmas.Bool.{and_parts, leb-true, ltb-true}
use Rattle.qg_num.specs.declared.command.Command.TheVariants.{Clone, Write}
use Rattle.qg_image.specs.FilesOf.{inodes_end, least_inode}
use Rattle.qg_grammar.specs.ScriptText.{is_in_grammar, is_ino_word, is_sub_word, is_word}

-- the inode of a write has a number of a file
pub inode_told : (sub ino off len : ℕ) → is_in_grammar (Write sub ino off len) ≡ true
    → (least_inode ≤ ino) × (ino < inodes_end)
unfolding is_in_grammar
inode_told sub ino off len numbers =
    let to_len = and_parts (is_sub_word sub && is_ino_word ino && is_word off) (is_word len) numbers in
    let to_off = and_parts (is_sub_word sub && is_ino_word ino) (is_word off) to_len.0 in
    let to_ino = and_parts (is_sub_word sub) (is_ino_word ino) to_off.0 in
    let both = and_parts (nat_le least_inode ino) (nat_lt ino inodes_end) to_ino.1 in
    (leb-true least_inode ino both.0, ltb-true ino inodes_end both.1)

-- the inode that a clone goes to has a number of a file
pub target_told : (sub ino off len to_sub to_ino to_off : ℕ)
    → is_in_grammar (Clone sub ino off len to_sub to_ino to_off) ≡ true → (least_inode ≤ to_ino) × (to_ino < inodes_end)
unfolding is_in_grammar
target_told sub ino off len to_sub to_ino to_off numbers =
    let source = is_sub_word sub && is_ino_word ino && is_word off && is_word len in
    let to_target = and_parts (source && is_sub_word to_sub && is_ino_word to_ino) (is_word to_off) numbers in
    let to_ino' = and_parts (source && is_sub_word to_sub) (is_ino_word to_ino) to_target.0 in
    let both = and_parts (nat_le least_inode to_ino) (nat_lt to_ino inodes_end) to_ino'.1 in
    (leb-true least_inode to_ino both.0, ltb-true to_ino inodes_end both.1)
