-- What is read of a line on groups behind its first word.
use Rattle.std.proofs.Common.{◌≡◌, ◌≢◌, ℕ, ◌+◌, ◌<◌, ◌^◌, List, [], ◌∷◌, ◌++◌, length, take, drop, get_or, All, Option}
use Rattle.std.proofs.Common.{Some, None, Result, Ok, Err, IfOk, IfSome, IfNone, true, false, eqb, refl, sym, ap, ◌∙◌}
use Rattle.std.proofs.Common.{subst, arith, lit<}
use Rattle.std.specs.Prelude.{codes, ◌&&◌}
use Rattle.std.specs.Borrow.{Bor}
use Rattle.std.specs.Cmp.Lexicographic.{pointwise}
use Rattle.std.specs.List.{flat_map, list_all}
use Rattle.std.proofs.lemmas.Bool.{and_parts, and_from}
use Rattle.std.proofs.lemmas.Bool.Decides.{Decides-eqb, nat_tests}
use Rattle.std.proofs.lemmas.Slice.Eq.{strip_prefix_is}
use Rattle.std.proofs.lemmas.List.{append-nil, append_cancel_left}
use Rattle.std.proofs.lemmas.List.Elements.{All-head, All-tail}
use Rattle.qg_num.specs.declared.command.Command.{Command}
use Rattle.qg_num.specs.declared.command.Command.TheVariants.{Snap, GroupCreate, GroupDestroy, Assign, Remove, Limit}
use Rattle.qg_num.specs.declared.counters.Which.{Which}
use Rattle.qg_num.specs.declared.counters.Which.TheVariants.{Rfer, Excl}
use Rattle.qg_num.specs.declared.fault.NoMemory.{NoMemory}
use Rattle.qg_grammar.specs.ScriptText.{command_text, is_in_grammar, is_limit_word, is_sub_word, is_word, inherit_text}
use Rattle.qg_grammar.specs.ScriptText.{maximum_text, then_group, then_number, then_word, which_text}
use Rattle.qg_script.specs.Reading.{AreGroupWords, AreNumbers, IsBehindWord, IsInherited, IsLimit, IsNextGroup}
use Rattle.qg_script.specs.Reading.{IsNextNumber, IsNextWhich, IsTextOf, Reads}
use Rattle.qg_script.proofs.Parting.{next_once}
use Rattle.qg_script.proofs.GroupTexts.{group_once}
use Rattle.qg_script.proofs.Rows.{Fit, IsSubRead, is_word-fits, mark, none_fit, one, sub_fits, word_at, word_fits}

-- ---- a word in front

-- a word that was found in front of a text, and one that wasn't
pub stripped : (text word : List ℕ) (rest : Bor (List ℕ))
    → (pointwise eqb (take (length word) text) word ≡ true) × (rest.now ≡ drop (length word) text)
    × (length rest.now + length word ≡ length text) → text ≡ word ++ rest.now
stripped text word rest cases = strip_prefix_is Decides-eqb text word (Some rest) cases

pub not_stripped : (text word : List ℕ) → pointwise eqb (take (length word) text) word ≡ false → (rest : List ℕ)
    → text ≢ word ++ rest
not_stripped text word cases = strip_prefix_is Decides-eqb text word None cases

-- ---- numbers of groups

word_small : (n : ℕ) → is_word n ≡ true → n < 2 ^ 64
word_small n is = grind (arith, nat_tests)

-- each number has 64 bits, by the grammar's test
all_small : (groups : List ℕ) → list_all is_word groups ≡ true → Fit groups
all_small [] is = none_fit
all_small (group ∷ groups) is =
    let parts = and_parts (is_word group) (list_all is_word groups) is in
    word_fits group groups parts.0 (all_small groups parts.1)

all_words : (groups : List ℕ) → Fit groups → list_all is_word groups ≡ true
all_words [] fit = refl
all_words (group ∷ groups) fit =
    and_from (is_word group) (list_all is_word groups)
    (is_word-fits group (All-head (λ n. n < 2 ^ 64) group groups fit))
    (all_words groups (All-tail (λ n. n < 2 ^ 64) group groups fit))

-- one group alone, and two
word_of_text : (group : ℕ) {text : List ℕ} → text ≡ then_group group → is_word group ≡ true
    → AreGroupWords text (group ∷ [])
word_of_text group {text} is fit = record {
  whole = is ∙ sym (append-nil (then_group group));
  fit = word_fits group [] fit none_fit;
}

two_words : (member parent : ℕ) {text : List ℕ} → text ≡ then_group member ++ then_group parent
    → (is_word member && is_word parent) ≡ true
    → AreGroupWords text (member ∷ parent ∷ [])
two_words member parent {text} is fit =
    let parts = and_parts (is_word member) (is_word parent) fit in
    record {
      whole = is ∙ ap (λ (xs : List ℕ). then_group member ++ xs) (sym (append-nil (then_group parent)));
      fit = word_fits member (parent ∷ []) parts.0 (word_fits parent [] parts.1 none_fit);
    }

text_of_one : {text : List ℕ} {group : ℕ} → AreGroupWords text (group ∷ []) → text ≡ then_group group
text_of_one {text} {group} are = are.whole ∙ append-nil (then_group group)

word_of_one : {text : List ℕ} {group : ℕ} → AreGroupWords text (group ∷ []) → is_word group ≡ true
word_of_one {text} {group} are = is_word-fits group (All-head (λ n. n < 2 ^ 64) group [] are.fit)

text_of_two : {text : List ℕ} {member parent : ℕ} → AreGroupWords text (member ∷ parent ∷ [])
    → text ≡ then_group member ++ then_group parent
text_of_two {text} {member} {parent} are = are.whole
    ∙ ap (λ (xs : List ℕ). then_group member ++ xs) (append-nil (then_group parent))

words_of_two : {text : List ℕ} {member parent : ℕ} → AreGroupWords text (member ∷ parent ∷ [])
    → (is_word member && is_word parent) ≡ true
words_of_two {text} {member} {parent} are =
    let first = All-head (λ n. n < 2 ^ 64) member (parent ∷ []) are.fit in
    let second = All-head (λ n. n < 2 ^ 64) parent [] (All-tail (λ n. n < 2 ^ 64) member (parent ∷ []) are.fit) in
    and_from (is_word member) (is_word parent) (is_word-fits member first) (is_word-fits parent second)

-- ---- a snapshot

inherit_behind : (groups : List ℕ) → IsBehindWord (inherit_text groups)
inherit_behind [] = tt
inherit_behind (group ∷ groups) = refl

-- nothing is inherited where nothing is said
pub none_inherited : {text groups : List ℕ} → text ≡ [] → groups ≡ [] → IsInherited text groups
none_inherited {text} {groups} is none = rw (is, none) (record { whole = refl; fit = none_fit })

-- a text that is not empty says what is inherited by the word and one group at least
pub inherits_some : {text : List ℕ} (groups : List ℕ) → IsInherited text groups → text ≢ []
    → (rest : List ℕ) × (text ≡ codes " inherit" ++ rest) × AreGroupWords rest groups × (rest ≢ [])
inherits_some [] is some = absurd (some is.whole)
inherits_some (group ∷ groups) is some =
    (flat_map then_group (group ∷ groups), is.whole, record { whole = refl; fit = is.fit }, λ none. cc)

-- and so is it read
pub some_inherited : {text rest : List ℕ} (groups : List ℕ) → text ≡ codes " inherit" ++ rest → rest ≢ []
    → AreGroupWords rest groups → IsInherited text groups
some_inherited [] is some are = absurd (some are.whole)
some_inherited (group ∷ groups) is some are =
    record { whole = is ∙ ap (λ (xs : List ℕ). codes " inherit" ++ xs) are.whole; fit = are.fit }

-- what is read behind the word
pub found_inherited : {text rest : List ℕ} (result : Result (Option (List ℕ)) NoMemory)
    → text ≡ codes " inherit" ++ rest → rest ≢ []
    → IfOk result (λ found. IfSome found (AreGroupWords rest)) → IfOk result (λ found. IfSome found (IsInherited text))
found_inherited (Ok None) is some are = tt
found_inherited (Ok (Some groups)) is some are = some_inherited groups is some are
found_inherited (Err fault) is some are = tt

pub none_of_groups : {text rest : List ℕ} (result : Result (Option (List ℕ)) NoMemory) → text ≡ codes " inherit" ++ rest
    → text ≢ []
    → IfOk result (λ found. IfNone found ((groups : List ℕ) → AreGroupWords rest groups → ⊥))
    → IfOk result (λ found. IfNone found ((groups : List ℕ) → IsInherited text groups → ⊥))
none_of_groups {text} {rest} (Ok None) is some none = λ groups inherits.
    let behind = inherits_some groups inherits some in
    none groups (subst (λ (xs : List ℕ). AreGroupWords xs groups)
    (append_cancel_left (codes " inherit") behind.0 rest (sym behind.1 ∙ is)) behind.2)
none_of_groups (Ok (Some groups)) is some none = tt
none_of_groups (Err fault) is some none = tt

-- a command whose text begins with `snap` is one of that word, and its number and groups stand behind it
pub only_snap : (P : Command → Type 0) (rest : List ℕ)
    → ((sub : ℕ) (groups behind : List ℕ) → is_sub_word sub ≡ true → IsNextNumber rest sub behind
    → IsInherited behind groups → P (Snap sub groups))
    → (command : Command) → IsTextOf (codes "snap" ++ rest) command → P command
unfolding command_text is_in_grammar
only_snap P rest snap (Snap sub groups) is =
    let parts = and_parts (is_sub_word sub) (list_all is_word groups) is.in_grammar in
    let whole : rest ≡ then_number sub ++ inherit_text groups =
    append_cancel_left (codes "snap") rest (then_number sub ++ inherit_text groups) is.spelled in
    snap sub groups (inherit_text groups) parts.0 (record {
      whole = whole;
      fits = sub_fits sub parts.0;
      behind = inherit_behind groups;
    })
    (record { whole = refl; fit = all_small groups parts.1 })
only_snap P rest snap command is = let first = ap mark is.spelled in absurd (omega (arith, first))

-- and that command has the text
pub snap_read : {rest behind groups : List ℕ} {number sub : ℕ} → IsNextNumber rest number behind → IsSubRead sub number
    → IsInherited behind groups
    → IsTextOf (codes "snap" ++ rest) (Snap sub groups)
unfolding command_text is_in_grammar
snap_read {rest} {behind} {groups} {number} {sub} next of inherits =
    rw (of.1) (record {
      spelled = ap (λ (xs : List ℕ). codes "snap" ++ xs) (next.whole
          ∙ ap (λ (xs : List ℕ). then_number number ++ xs) inherits.whole);
      in_grammar = and_from (is_sub_word number) (list_all is_word groups) of.0 (all_words groups inherits.fit);
    })

-- another number of a text is read as a subvolume's where it is one
pub next_is_sub : {text rest behind : List ℕ} {sub number : ℕ} → IsNextNumber text sub rest
    → IsNextNumber text number behind → is_sub_word number ≡ true
    → is_sub_word sub ≡ true
next_is_sub {text} {rest} {behind} {sub} {number} one other is = rw ((next_once one other).0) is

-- what is inherited stands behind the number
pub inherits_behind : {text rest behind groups : List ℕ} {sub number : ℕ} → IsNextNumber text sub rest
    → IsNextNumber text number behind → IsInherited behind groups
    → IsInherited rest groups
inherits_behind {text} {rest} {behind} {groups} one other inherits =
    subst (λ (xs : List ℕ). IsInherited xs groups) ((next_once other one).1) inherits

-- ---- one group made or destroyed

-- the byte that tells the two apart
abbrev eighth : List ℕ → ℕ
eighth text = get_or text 7 0

pub only_create : (P : Command → Type 0) (rest : List ℕ)
    → ((group : ℕ) → AreGroupWords rest (group ∷ []) → P (GroupCreate group))
    → (command : Command) → IsTextOf (codes "qgroup create" ++ rest) command → P command
unfolding command_text is_in_grammar
only_create P rest create (GroupCreate group) is =
    create group (word_of_text group (append_cancel_left (codes "qgroup create") rest (then_group group) is.spelled)
    is.in_grammar)
only_create P rest create (GroupDestroy group) is = let byte = ap eighth is.spelled in absurd (omega (arith, byte))
only_create P rest create command is = let first = ap mark is.spelled in absurd (omega (arith, first))

pub create_read : {rest : List ℕ} {group : ℕ} → AreGroupWords rest (group ∷ [])
    → IsTextOf (codes "qgroup create" ++ rest) (GroupCreate group)
unfolding command_text is_in_grammar
create_read {rest} {group} are =
    record {
      spelled = ap (λ (xs : List ℕ). codes "qgroup create" ++ xs) (text_of_one are);
      in_grammar = word_of_one are;
    }

pub only_destroy : (P : Command → Type 0) (rest : List ℕ)
    → ((group : ℕ) → AreGroupWords rest (group ∷ []) → P (GroupDestroy group))
    → (command : Command) → IsTextOf (codes "qgroup destroy" ++ rest) command → P command
unfolding command_text is_in_grammar
only_destroy P rest destroy (GroupDestroy group) is =
    destroy group (word_of_text group (append_cancel_left (codes "qgroup destroy") rest (then_group group) is.spelled)
    is.in_grammar)
only_destroy P rest destroy (GroupCreate group) is = let byte = ap eighth is.spelled in absurd (omega (arith, byte))
only_destroy P rest destroy command is = let first = ap mark is.spelled in absurd (omega (arith, first))

pub destroy_read : {rest : List ℕ} {group : ℕ} → AreGroupWords rest (group ∷ [])
    → IsTextOf (codes "qgroup destroy" ++ rest) (GroupDestroy group)
unfolding command_text is_in_grammar
destroy_read {rest} {group} are =
    record {
      spelled = ap (λ (xs : List ℕ). codes "qgroup destroy" ++ xs) (text_of_one are);
      in_grammar = word_of_one are;
    }

-- what was read behind the two words was read behind the first
pub behind_create : (rest behind : List ℕ) (found : Option Command) → rest ≡ codes " create" ++ behind
    → Reads (codes "qgroup create" ++ behind) found
    → Reads (codes "qgroup" ++ rest) found
behind_create rest behind found is reads = subst (λ (xs : List ℕ). Reads (codes "qgroup" ++ xs) found) (sym is) reads

pub behind_destroy : (rest behind : List ℕ) (found : Option Command) → rest ≡ codes " destroy" ++ behind
    → Reads (codes "qgroup destroy" ++ behind) found
    → Reads (codes "qgroup" ++ rest) found
behind_destroy rest behind found is reads = subst (λ (xs : List ℕ). Reads (codes "qgroup" ++ xs) found) (sym is) reads

-- a text of `qgroup` with neither word behind it is no command's
pub none_of_qgroup : (rest : List ℕ) → ((behind : List ℕ) → rest ≢ codes " create" ++ behind)
    → ((behind : List ℕ) → rest ≢ codes " destroy" ++ behind)
    → (command : Command) → IsTextOf (codes "qgroup" ++ rest) command → ⊥
unfolding command_text
none_of_qgroup rest create destroy (GroupCreate group) is =
    create (then_group group)
    (append_cancel_left (codes "qgroup") rest (codes " create" ++ then_group group) is.spelled)
none_of_qgroup rest create destroy (GroupDestroy group) is =
    destroy (then_group group)
    (append_cancel_left (codes "qgroup") rest (codes " destroy" ++ then_group group) is.spelled)
none_of_qgroup rest create destroy command is = let first = ap mark is.spelled in absurd (omega (arith, first))

-- ---- relations

pub only_assign : (P : Command → Type 0) (rest : List ℕ)
    → ((member parent : ℕ) → AreGroupWords rest (member ∷ parent ∷ []) → P (Assign member parent))
    → (command : Command) → IsTextOf (codes "assign" ++ rest) command → P command
unfolding command_text is_in_grammar
only_assign P rest assign (Assign member parent) is =
    assign member parent (two_words member parent
    (append_cancel_left (codes "assign") rest (then_group member ++ then_group parent) is.spelled) is.in_grammar)
only_assign P rest assign command is = let first = ap mark is.spelled in absurd (omega (arith, first))

pub assign_read : {rest : List ℕ} {member parent : ℕ} → AreGroupWords rest (member ∷ parent ∷ [])
    → IsTextOf (codes "assign" ++ rest) (Assign member parent)
unfolding command_text is_in_grammar
assign_read {rest} {member} {parent} are =
    record { spelled = ap (λ (xs : List ℕ). codes "assign" ++ xs) (text_of_two are); in_grammar = words_of_two are }

pub only_remove : (P : Command → Type 0) (rest : List ℕ)
    → ((member parent : ℕ) → AreGroupWords rest (member ∷ parent ∷ []) → P (Remove member parent))
    → (command : Command) → IsTextOf (codes "remove" ++ rest) command → P command
unfolding command_text is_in_grammar
only_remove P rest remove (Remove member parent) is =
    remove member parent (two_words member parent
    (append_cancel_left (codes "remove") rest (then_group member ++ then_group parent) is.spelled) is.in_grammar)
only_remove P rest remove command is = let first = ap mark is.spelled in absurd (omega (arith, first))

pub remove_read : {rest : List ℕ} {member parent : ℕ} → AreGroupWords rest (member ∷ parent ∷ [])
    → IsTextOf (codes "remove" ++ rest) (Remove member parent)
unfolding command_text is_in_grammar
remove_read {rest} {member} {parent} are =
    record { spelled = ap (λ (xs : List ℕ). codes "remove" ++ xs) (text_of_two are); in_grammar = words_of_two are }

-- ---- limits

pub only_limit : (P : Command → Type 0) (rest : List ℕ)
    → ((group : ℕ) (which : Which) (max : Option ℕ) (behind last : List ℕ) → IsNextWhich rest which behind
    → IsNextGroup behind group last → IsLimit last max → P (Limit group which max))
    → (command : Command) → IsTextOf (codes "limit" ++ rest) command → P command
unfolding command_text is_in_grammar
only_limit P rest limit (Limit group Rfer max) is =
    let parts = and_parts (is_word group) (is_limit_word max) is.in_grammar in
    let last = then_word (maximum_text max) in
    let whole : rest ≡ codes " rfer" ++ (then_group group ++ last) =
    append_cancel_left (codes "limit") rest (codes " rfer" ++ (then_group group ++ last)) is.spelled in
    limit group Rfer max (then_group group ++ last) last (record { whole = whole })
    (record { whole = refl; fits = word_small group parts.0; behind = refl })
    (record { whole = refl; fits = parts.1 })
only_limit P rest limit (Limit group Excl max) is =
    let parts = and_parts (is_word group) (is_limit_word max) is.in_grammar in
    let last = then_word (maximum_text max) in
    let whole : rest ≡ codes " excl" ++ (then_group group ++ last) =
    append_cancel_left (codes "limit") rest (codes " excl" ++ (then_group group ++ last)) is.spelled in
    limit group Excl max (then_group group ++ last) last (record { whole = whole })
    (record { whole = refl; fits = word_small group parts.0; behind = refl })
    (record { whole = refl; fits = parts.1 })
only_limit P rest limit command is = let first = ap mark is.spelled in absurd (omega (arith, first))

limit_spelled : (group : ℕ) (which : Which) (max : Option ℕ)
    → codes "limit" ++ (then_word (which_text which) ++ (then_group group ++ then_word (maximum_text max)))
    ≡ command_text (Limit group which max)
unfolding command_text
limit_spelled group Rfer max = refl
limit_spelled group Excl max = refl

pub limit_read : {rest behind last : List ℕ} {group : ℕ} {which : Which} {max : Option ℕ}
    → IsNextWhich rest which behind → IsNextGroup behind group last → IsLimit last max
    → IsTextOf (codes "limit" ++ rest) (Limit group which max)
unfolding command_text is_in_grammar
limit_read {rest} {behind} {last} {group} {which} {max} first next limit =
    let behind_which : behind ≡ then_group group ++ then_word (maximum_text max) = next.whole
    ∙ ap (λ (xs : List ℕ). then_group group ++ xs) limit.whole in
    let whole : rest ≡ then_word (which_text which) ++ (then_group group ++ then_word (maximum_text max)) =
    first.whole ∙ ap (λ (xs : List ℕ). then_word (which_text which) ++ xs) behind_which in
    record {
      spelled = ap (λ (xs : List ℕ). codes "limit" ++ xs) whole ∙ limit_spelled group which max;
      in_grammar = and_from (is_word group) (is_limit_word max) (is_word-fits group next.fits) limit.fits;
    }

-- a text begins with one counter's word
which_once : (which other : Which) {text rest behind : List ℕ} → IsNextWhich text which rest
    → IsNextWhich text other behind → behind ≡ rest
which_once Rfer Rfer {text} {rest} {behind} one two = append_cancel_left (codes " rfer") behind rest (sym two.whole
    ∙ one.whole)
which_once Excl Excl {text} {rest} {behind} one two = append_cancel_left (codes " excl") behind rest (sym two.whole
    ∙ one.whole)
which_once Rfer Excl {text} {rest} {behind} one two =
    let same : mark (codes " rfer" ++ rest) ≡ mark (codes " excl" ++ behind) = ap mark (sym one.whole ∙ two.whole) in
    absurd (omega (arith, same))
which_once Excl Rfer {text} {rest} {behind} one two =
    let same : mark (codes " excl" ++ rest) ≡ mark (codes " rfer" ++ behind) = ap mark (sym one.whole ∙ two.whole) in
    absurd (omega (arith, same))

pub no_which : {text : List ℕ} → ((rest : List ℕ) → text ≢ codes " rfer" ++ rest)
    → ((rest : List ℕ) → text ≢ codes " excl" ++ rest)
    → (which : Which) (rest : List ℕ) → IsNextWhich text which rest → ⊥
no_which rfer excl Rfer rest is = rfer rest is.whole
no_which rfer excl Excl rest is = excl rest is.whole

-- no group stands behind the counter, or no limit behind the group
pub no_group_limited : {rest behind : List ℕ} {which : Which} → IsNextWhich rest which behind
    → ((group : ℕ) (last : List ℕ) → IsNextGroup behind group last → ⊥)
    → (command : Command) → IsTextOf (codes "limit" ++ rest) command → ⊥
no_group_limited {rest} {behind} {which} first none =
    only_limit (λ command. ⊥) rest (λ group other max start last is next limit.
    none group last (subst (λ (xs : List ℕ). IsNextGroup xs group last) (which_once which other first is) next))

pub no_limit : {rest behind last : List ℕ} {which : Which} {group : ℕ} → IsNextWhich rest which behind
    → IsNextGroup behind group last
    → ((max : Option ℕ) → IsLimit last max → ⊥) → (command : Command) → IsTextOf (codes "limit" ++ rest) command → ⊥
no_limit {rest} {behind} {last} {which} {group} first next none =
    only_limit (λ command. ⊥) rest (λ limited other max from end is also limit.
    let same : IsNextGroup behind limited end =
    subst (λ (xs : List ℕ). IsNextGroup xs limited end) (which_once which other first is) also in
    none max (subst (λ (xs : List ℕ). IsLimit xs max) ((group_once same next).1) limit))

pub none_limited : {text : List ℕ} → text ≡ codes " none" → IsLimit text None
none_limited is = record { whole = is; fits = refl }

pub some_limited : {text numbers : List ℕ} → AreNumbers 1 text numbers → IsLimit text (Some (get_or numbers 0 0))
some_limited {text} {numbers} are = record {
  whole = are.whole ∙ ap (flat_map then_number) (one numbers are) ∙ append-nil (then_number (get_or numbers 0 0));
  fits = word_at 0 are (lit< tt);
}

pub not_limited : {text : List ℕ} → text ≢ codes " none" → ((numbers : List ℕ) → AreNumbers 1 text numbers → ⊥)
    → (max : Option ℕ) → IsLimit text max → ⊥
not_limited other none None is = other is.whole
not_limited other none (Some max) is =
    none (max ∷ []) (record {
      whole = is.whole ∙ sym (append-nil (then_number max));
      fit = word_fits max [] is.fits none_fit;
      as_many = refl;
    })
