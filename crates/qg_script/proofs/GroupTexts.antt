-- A group's text is no other's, and a text begins with one group.
use Rattle.std.proofs.Common.{◌≡◌, ◌≢◌, ℕ, ◌+◌, ◌*◌, ◌/◌, ◌%◌, ◌<◌, ◌^◌, List, [], ◌∷◌, ◌++◌, length, get_or, All}
use Rattle.std.proofs.Common.{Option, Some, None, IfSome, IfNone, SomeIff, refl, sym, ap, ◌∙◌, subst, arith}
use Rattle.std.proofs.Common.{append_assoc, length-append, lit<}
use Rattle.std.specs.Prelude.{Bool, true, false, codes, IsUtf8, ◌==◌}
use Rattle.std.specs.Borrow.{Bor}
use Rattle.std.specs.Fmt.{decimal}
use Rattle.std.specs.List.{flat_map}
use Rattle.std.proofs.Math.Nat.{mul-add-mod_self_right, mod-eq_of_lt}
use Rattle.std.proofs.lemmas.Nat.{div-mul-add}
use Rattle.std.proofs.lemmas.Fmt.{decimal_by_steps, decimal_injective, IsAscii-decimal}
use Rattle.std.proofs.lemmas.Str.{IsAscii-append, IsUtf8-from_ascii}
use Rattle.std.proofs.lemmas.Str.Ascii.{IsAscii-cons}
use Rattle.std.proofs.lemmas.Str.Pattern.{IsSplitOnceResult, split_after, split_parts}
use Rattle.std.proofs.lemmas.Bool.{eqb-false, eqb-true}
use Rattle.std.proofs.lemmas.List.{append-nil, append_cancel_left, flat_map_more, nil_from_length}
use Rattle.std.proofs.lemmas.List.Elements.{All-nil, All-cons, All-head, All-tail, All-append, All-push}
use Rattle.qg_grammar.specs.ScriptText.{group_text, then_group, then_word}
use Rattle.qg_script.specs.Reading.{IsBehindWord, IsParted, IsNextGroup, AreGroupWords}
use Rattle.qg_script.proofs.Parting.{HasNoSpace, decimal_has_no_space, same_parts}

-- ---- level and id

-- no byte is a slash
abbrev pub HasNoSlash : List ℕ → Type 0
HasNoSlash bytes = All (λ byte. byte ≢ 47) bytes

digit_has_no_slash : (n : ℕ) → n < 10 → HasNoSlash ((48 + n) ∷ [])
digit_has_no_slash n small =
    let other : 48 + n ≢ 47 = λ is. omega arith in
    All-cons (λ byte. byte ≢ 47) (48 + n) [] other (All-nil (λ byte. byte ≢ 47))

pub decimal_has_no_slash : (n : ℕ) → n < 2 ^ 64 → HasNoSlash (decimal n)
decimal_has_no_slash = decimal_by_steps (λ n digits. HasNoSlash digits) digit_has_no_slash
    (λ n digits large front. All-append (λ byte. byte ≢ 47) digits ((48 + n % 10) ∷ []) front
    (digit_has_no_slash (n % 10) (omega arith)))

pub no_slash_at : (n : ℕ) → n < 2 ^ 64 → (place : ℕ) → place < length (decimal n) → get_or (decimal n) place 0 ≢ 47
no_slash_at n small place within = decimal_has_no_slash n small place 0 within

-- two ways of parting the same bytes at their first slash are one
same_at_slash : (a b rest behind : List ℕ) → HasNoSlash a → HasNoSlash b → a ++ 47 ∷ rest ≡ b ++ 47 ∷ behind
    → (a ≡ b) × (rest ≡ behind)
same_at_slash [] [] rest behind plain other same = (refl, cc)
same_at_slash [] (y ∷ b) rest behind plain other same =
    let is : y ≡ 47 = cc in
    absurd (All-head (λ byte. byte ≢ 47) y b other is)
same_at_slash (x ∷ a) [] rest behind plain other same =
    let is : x ≡ 47 = cc in
    absurd (All-head (λ byte. byte ≢ 47) x a plain is)
same_at_slash (x ∷ a) (y ∷ b) rest behind plain other same =
    let head : x ≡ y = cc in
    let tail : a ++ 47 ∷ rest ≡ b ++ 47 ∷ behind = cc in
    let parts = same_at_slash a b rest behind (All-tail (λ byte. byte ≢ 47) x a plain)
    (All-tail (λ byte. byte ≢ 47) y b other) tail in
    let front : a ≡ b = parts.0 in
    (cc, parts.1)

pub level_small : (group : ℕ) → group < 2 ^ 64 → group / 2 ^ 48 < 2 ^ 16
level_small group small = omega arith

pub id_small : (group : ℕ) → group % 2 ^ 48 < 2 ^ 48
id_small group = omega arith

pub level_fits : (group : ℕ) → group < 2 ^ 64 → group / 2 ^ 48 < 2 ^ 64
level_fits group small = omega arith

pub id_fits : (group : ℕ) → group % 2 ^ 48 < 2 ^ 64
id_fits group = omega arith

level_of : (level id : ℕ) → id < 2 ^ 48 → (level * 2 ^ 48 + id) / 2 ^ 48 ≡ level
level_of level id small = div-mul-add level (2 ^ 48) id small

id_of : (level id : ℕ) → id < 2 ^ 48 → (level * 2 ^ 48 + id) % 2 ^ 48 ≡ id
id_of level id small = mul-add-mod_self_right level (2 ^ 48) id ∙ mod-eq_of_lt {n = id} {m = 2 ^ 48} small

-- a group's text is its level and its id with a slash between them
group_text_is : (group : ℕ) → group_text group ≡ decimal (group / 2 ^ 48) ++ 47 ∷ decimal (group % 2 ^ 48)
group_text_is group = append_assoc (decimal (group / 2 ^ 48)) (codes "/") (decimal (group % 2 ^ 48))

-- a level and an id with a slash between them are a group's text
pub group_spelled : (level id : ℕ) → id < 2 ^ 48 → group_text (level * 2 ^ 48 + id) ≡ decimal level ++ 47 ∷ decimal id
group_spelled level id small =
    let front : decimal ((level * 2 ^ 48 + id) / 2 ^ 48) ≡ decimal level = ap decimal (level_of level id small) in
    let back : decimal ((level * 2 ^ 48 + id) % 2 ^ 48) ≡ decimal id = ap decimal (id_of level id small) in
    group_text_is (level * 2 ^ 48 + id)
    ∙ ap (λ (xs : List ℕ). xs ++ 47 ∷ decimal ((level * 2 ^ 48 + id) % 2 ^ 48)) front
    ∙ ap (λ (xs : List ℕ). decimal level ++ 47 ∷ xs) back

pub group_fits : (level id : ℕ) → level < 2 ^ 16 → id < 2 ^ 48 → level * 2 ^ 48 + id < 2 ^ 64
group_fits level id low small = omega arith

pub group_is_text : (group : ℕ) → group < 2 ^ 64 → IsUtf8 (group_text group)
group_is_text group small =
    let front = IsAscii-decimal (group / 2 ^ 48) (level_fits group small) in
    let back = IsAscii-cons 47 (decimal (group % 2 ^ 48)) (lit< tt)
    (IsAscii-decimal (group % 2 ^ 48) (id_fits group)) in
    let spelled = IsAscii-append (decimal (group / 2 ^ 48)) (47 ∷ decimal (group % 2 ^ 48)) front back in
    subst IsUtf8 (sym (group_text_is group))
    (IsUtf8-from_ascii (decimal (group / 2 ^ 48) ++ 47 ∷ decimal (group % 2 ^ 48)) spelled)

slash_is_no_space : (byte : ℕ) → byte ≡ 47 → byte ≢ 32
slash_is_no_space byte is other = omega arith

group_has_no_space : (group : ℕ) → group < 2 ^ 64 → HasNoSpace (group_text group)
group_has_no_space group small =
    let back = All-cons (λ byte. byte ≢ 32) 47 (decimal (group % 2 ^ 48)) (slash_is_no_space 47 refl)
    (decimal_has_no_space (group % 2 ^ 48) (id_fits group)) in
    let spelled = All-append (λ byte. byte ≢ 32) (decimal (group / 2 ^ 48)) (47 ∷ decimal (group % 2 ^ 48))
    (decimal_has_no_space (group / 2 ^ 48) (level_fits group small)) back in
    subst HasNoSpace (sym (group_text_is group)) spelled

-- groups of one text are one
group_injective : (group other : ℕ) → group < 2 ^ 64 → other < 2 ^ 64 → group_text group ≡ group_text other
    → group ≡ other
group_injective group other small less same =
    let parts = same_at_slash (decimal (group / 2 ^ 48)) (decimal (other / 2 ^ 48)) (decimal (group % 2 ^ 48))
    (decimal (other % 2 ^ 48))
    (decimal_has_no_slash (group / 2 ^ 48) (level_fits group small))
    (decimal_has_no_slash (other / 2 ^ 48) (level_fits other less)) (sym (group_text_is group) ∙ same
    ∙ group_text_is other) in
    let level : group / 2 ^ 48 ≡ other / 2 ^ 48 =
    decimal_injective (group / 2 ^ 48) (other / 2 ^ 48) (level_fits group small) (level_fits other less) parts.0 in
    let id : group % 2 ^ 48 ≡ other % 2 ^ 48 = decimal_injective (group % 2 ^ 48) (other % 2 ^ 48) (id_fits group)
    (id_fits other) parts.1 in
    omega arith

-- ---- a word that is cut at its first slash

-- a group's text is cut
pub no_slash : (word : List ℕ) (group : ℕ) → IsSplitOnceResult 47 word None → group < 2 ^ 64 → word ≡ group_text group
    → ⊥
no_slash word group cases small is =
    split_after 47 word (decimal (group / 2 ^ 48)) (decimal (group % 2 ^ 48)) None cases (lit< tt) (is
    ∙ group_text_is group) (no_slash_at (group / 2 ^ 48) (level_fits group small))

-- into the texts of its level and its id
pub split_at_slash : (word : List ℕ) (group : ℕ) (level id : Bor (List ℕ))
    → IsSplitOnceResult 47 word (Some (level, id)) → group < 2 ^ 64 → word ≡ group_text group
    → (level.now ≡ decimal (group / 2 ^ 48)) × (id.now ≡ decimal (group % 2 ^ 48))
split_at_slash word group level id cases small is =
    split_after 47 word (decimal (group / 2 ^ 48)) (decimal (group % 2 ^ 48)) (Some (level, id)) cases (lit< tt) (is
    ∙ group_text_is group) (no_slash_at (group / 2 ^ 48) (level_fits group small))

pub split_whole : (word : List ℕ) (level id : Bor (List ℕ)) → IsSplitOnceResult 47 word (Some (level, id))
    → word ≡ level.now ++ 47 ∷ id.now
split_whole word level id cases = let parts = split_parts 47 word (Some (level, id)) cases (lit< tt) in parts.0

-- a level and an id as a group
abbrev pub IsGroupOf : Option ℕ → ℕ → ℕ → Type 0
IsGroupOf found level id = SomeIff found ((level < 2 ^ 16) × (id < 2 ^ 48)) (level * 2 ^ 48 + id)

pub group_found : (level id : ℕ) {word front back : List ℕ} (found : Option ℕ) → IsGroupOf found level id
    → word ≡ front ++ 47 ∷ back → front ≡ decimal level → back ≡ decimal id
    → IfSome found (λ group. word ≡ group_text group)
group_found level id {word} {front} {back} None of whole first second = tt
group_found level id {word} {front} {back} (Some group) of whole first second =
    whole
    ∙ ap (λ (xs : List ℕ). xs ++ 47 ∷ back) first
    ∙ ap (λ (xs : List ℕ). decimal level ++ 47 ∷ xs) second
    ∙ sym (group_spelled level id of.0.1)
    ∙ ap group_text (sym of.1)

pub found_fits : (level id : ℕ) (found : Option ℕ) → IsGroupOf found level id → IfSome found (λ group. group < 2 ^ 64)
found_fits level id None of = tt
found_fits level id (Some group) of = rw (of.1) (group_fits level id of.0.0 of.0.1)

pub none_found : (level id : ℕ) {word front back : List ℕ} (found : Option ℕ) → IsGroupOf found level id
    → word ≡ front ++ 47 ∷ back → front ≡ decimal level → back ≡ decimal id
    → level < 2 ^ 64 → id < 2 ^ 64 → IfNone found ((group : ℕ) → group < 2 ^ 64 → word ≡ group_text group → ⊥)
none_found level id {word} {front} {back} (Some group) of whole first second low less = tt
none_found level id {word} {front} {back} None of whole first second low less = λ group small is.
    let spelled : decimal level ++ 47 ∷ decimal id ≡ decimal (group / 2 ^ 48) ++ 47 ∷ decimal (group % 2 ^ 48) =
    ap (λ (xs : List ℕ). decimal level ++ 47 ∷ xs) (sym second) ∙ ap (λ (xs : List ℕ). xs ++ 47 ∷ back) (sym first)
    ∙ sym whole ∙ is ∙ group_text_is group in
    let parts = same_at_slash (decimal level) (decimal (group / 2 ^ 48)) (decimal id) (decimal (group % 2 ^ 48))
    (decimal_has_no_slash level low) (decimal_has_no_slash (group / 2 ^ 48) (level_fits group small)) spelled in
    let same_level : level ≡ group / 2 ^ 48 =
    decimal_injective level (group / 2 ^ 48) low (level_fits group small) parts.0 in
    let same_id : id ≡ group % 2 ^ 48 = decimal_injective id (group % 2 ^ 48) less (id_fits group) parts.1 in
    of (rw (same_level) (level_small group small), rw (same_id) (id_small group))

-- ---- the group that a text begins with

-- behind the space that a group stands behind its text is the first word
pub group_parted : (text inner : List ℕ) {rest : List ℕ} {group : ℕ} → text ≡ codes " " ++ inner
    → IsNextGroup text group rest → IsParted inner (group_text group) rest
group_parted text inner {rest} {group} is next = record {
  whole = append_cancel_left (codes " ") inner (group_text group ++ rest) (sym is ∙ next.whole);
  plain = group_has_no_space group next.fits;
  behind = next.behind;
}

-- and where it is, the text begins with the group
pub group_in_front : (text inner word : List ℕ) {rest : List ℕ} (group : ℕ) → text ≡ codes " " ++ inner
    → IsParted inner word rest → word ≡ group_text group → group < 2 ^ 64
    → IsNextGroup text group rest
group_in_front text inner word {rest} group is parted spelled fits = record {
  whole =
      is
      ∙ ap (λ (xs : List ℕ). codes " " ++ xs) parted.whole
      ∙ ap (λ (xs : List ℕ). codes " " ++ (xs ++ rest)) spelled;
  fits = fits;
  behind = parted.behind;
}

-- the group that a text begins with is one, and so is what is behind it
pub group_once : {text : List ℕ} {group other : ℕ} {rest behind : List ℕ} → IsNextGroup text group rest
    → IsNextGroup text other behind
    → (group ≡ other) × (rest ≡ behind)
group_once {text} {group} {other} {rest} {behind} one two =
    let whole : 32 ∷ (group_text group ++ rest) ≡ 32 ∷ (group_text other ++ behind) = sym one.whole ∙ two.whole in
    let same : group_text group ++ rest ≡ group_text other ++ behind = cc in
    let parts = same_parts (group_text group) (group_text other) rest behind (group_has_no_space group one.fits)
    (group_has_no_space other two.fits) one.behind two.behind same in
    (group_injective group other one.fits two.fits parts.0, parts.1)

-- what stands behind a group is shorter
pub shorter_behind : {text rest : List ℕ} {group : ℕ} → IsNextGroup text group rest → length rest < length text
shorter_behind {text} {rest} {group} next =
    omega (arith, ap length next.whole, length-append (then_group group) rest)

-- ---- several groups

pub groups_behind : (groups : List ℕ) → IsBehindWord (flat_map then_group groups)
groups_behind [] = tt
groups_behind (group ∷ groups) = refl

pub no_groups : AreGroupWords [] []
no_groups = record { whole = refl; fit = All-nil (λ group. group < 2 ^ 64) }

-- a text of groups begins with the first of them
pub begins_with_group : {text : List ℕ} (group : ℕ) (groups : List ℕ) → AreGroupWords text (group ∷ groups)
    → IsNextGroup text group (flat_map then_group groups)
begins_with_group {text} group groups are =
    record {
      whole = are.whole;
      fits = All-head (λ group. group < 2 ^ 64) group groups are.fit;
      behind = groups_behind groups;
    }

-- the groups behind the first
pub groups_after : {text rest : List ℕ} {first : ℕ} (group : ℕ) (groups : List ℕ) → AreGroupWords text (group ∷ groups)
    → IsNextGroup text first rest
    → (group ≡ first) × AreGroupWords rest groups
groups_after {text} {rest} {first} group groups are next =
    let once = group_once (begins_with_group group groups are) next in
    (once.0, record { whole = sym once.1; fit = All-tail (λ group. group < 2 ^ 64) group groups are.fit })

-- a text that isn't empty and doesn't begin with a group is not one of groups
pub no_group_first : {text : List ℕ} (groups : List ℕ) → AreGroupWords text groups → text ≢ []
    → ((group : ℕ) (rest : List ℕ) → IsNextGroup text group rest → ⊥) → ⊥
no_group_first [] are some none = some are.whole
no_group_first (group ∷ groups) are some none =
    none group (flat_map then_group groups) (begins_with_group group groups are)

-- what stands behind a text's first group is of groups where the text is
pub some_after : {text rest : List ℕ} {first : ℕ} (groups : List ℕ) → AreGroupWords text groups
    → IsNextGroup text first rest → (more : List ℕ) × AreGroupWords rest more
some_after {text} {rest} {first} [] are next = absurd (omega (arith, shorter_behind next, ap length are.whole))
some_after {text} {rest} {first} (group ∷ groups) are next = (groups, (groups_after group groups are next).1)

-- a group in front of others
pub group_before : {text rest : List ℕ} {first : ℕ} (groups : List ℕ) → IsNextGroup text first rest
    → AreGroupWords rest groups → AreGroupWords text (first ∷ groups)
group_before {text} {rest} {first} groups next are = record {
  whole = next.whole ∙ ap (λ (xs : List ℕ). then_group first ++ xs) are.whole;
  fit = All-cons (λ group. group < 2 ^ 64) first groups next.fits are.fit;
}

-- a text by its test
pub is_empty_text : (text : List ℕ) (test : Bool) → test ≡ (length text == 0) → test ≡ true → text ≡ []
is_empty_text text test is holds = nil_from_length text (eqb-true (length text) 0 (sym is ∙ holds))

pub is_some_text : (text : List ℕ) (test : Bool) → test ≡ (length text == 0) → test ≡ false → text ≢ []
is_some_text text test is fails none = eqb-false (length text) 0 (sym is ∙ fails) (ap length none)

-- one group more was read
group_behind : (groups : List ℕ) {text rest behind : List ℕ} {group : ℕ} → text ≡ flat_map then_group groups ++ rest
    → IsNextGroup rest group behind
    → text ≡ flat_map then_group (groups ++ group ∷ []) ++ behind
group_behind groups {text} {rest} {behind} {group} read next =
    read
    ∙ ap (λ (xs : List ℕ). flat_map then_group groups ++ xs) next.whole
    ∙ sym (append_assoc (flat_map then_group groups) (then_group group) behind)
    ∙ ap (λ (xs : List ℕ). xs ++ behind) (flat_map_more then_group [] groups group)

-- all groups were read
pub all_read : {text rest : List ℕ} (groups : List ℕ) → text ≡ flat_map then_group groups ++ rest → rest ≡ []
    → text ≡ flat_map then_group groups
all_read {text} {rest} groups read none =
    read ∙ ap (λ (xs : List ℕ). flat_map then_group groups ++ xs) none ∙ append-nil (flat_map then_group groups)

pub group_more : (groups : List ℕ) {text rest behind now : List ℕ} {group : ℕ}
    → text ≡ flat_map then_group groups ++ rest → IsNextGroup rest group behind → now ≡ groups ++ group ∷ []
    → text ≡ flat_map then_group now ++ behind
group_more groups {text} {rest} {behind} {now} {group} read next is =
    group_behind groups read next ∙ ap (λ (xs : List ℕ). flat_map then_group xs ++ behind) (sym is)

pub fits_more : (groups : List ℕ) (group : ℕ) {now : List ℕ} → All (λ group. group < 2 ^ 64) groups → group < 2 ^ 64
    → now ≡ groups ++ group ∷ [] → All (λ group. group < 2 ^ 64) now
fits_more groups group {now} fit small is =
    subst (All (λ group. group < 2 ^ 64)) (sym is) (All-push (λ group. group < 2 ^ 64) groups group fit small)

-- no group was read yet
pub none_read_yet : (text : List ℕ) {groups : List ℕ} → groups ≡ [] → (text ≡ flat_map then_group groups ++ text)
    × All (λ group. group < 2 ^ 64) groups
none_read_yet text {groups} is = (
  ap (λ (xs : List ℕ). flat_map then_group xs ++ text) (sym is),
  subst (All (λ group. group < 2 ^ 64)) (sym is)
      (All-nil (λ group. group < 2 ^ 64)),
)
