-- Why commands of quota and lists of snapshots are refused, as it is looked for.
use Rattle.std.proofs.Common.{◌≡◌, ℕ, ◌+◌, ◌<◌, Bool, true, false, List, [], ◌∷◌, Option, Some, None, refl, sym, ap}
use Rattle.std.proofs.Common.{◌∙◌, drop, get_or, length}
use Rattle.std.specs.Prelude.{◌||◌, ◌==◌, is_some, not}
use Rattle.std.specs.List.{list_any}
use Rattle.std.proofs.lemmas.Bool.{true≢false}
use Rattle.std.proofs.lemmas.List.{drop_more}
use Rattle.qg_num.specs.declared.refusal.Refusal.{Refusal}
use Rattle.qg_num.specs.declared.refusal.Refusal.TheVariants as why
use Rattle.qg_image.specs.ItemMeaning.{first_some}
use Rattle.qg_image.specs.Table.{keys_of}
use Rattle.qg_image.specs.declared.quota.Quota.{Quota}
use Rattle.qg_image.specs.Members.{level_of_group}
use Rattle.qg_machine.specs.Refusals.{refuse}
use Rattle.qg_qgroups.specs.Groups.{has_number}
use Rattle.qg_qgroups.specs.Changing.{is_missing}
use Rattle.qg_qgroups.specs.OnOrOff.{parents_refusal, snap_refusal}

-- ---- numbers of subvolumes

-- a number is among the keys exactly if some entry has it
pub keys-any : {A : Type 0} (n : ℕ) (table : List (ℕ × A))
    → has_number n (keys_of table) ≡ list_any (λ entry. entry.0 == n) table
keys-any n [] = refl
keys-any n (entry ∷ table) = ap (λ (b : Bool). (entry.0 == n) || b) (keys-any n table)

-- ---- the groups of a list

-- why one group of a list is refused, behind earlier ones
abbrev pub parent_refusal : Quota → List ℕ → ℕ → Option Refusal
parent_refusal quota earlier group = first_some
    (refuse (not (not (level_of_group group == 0))) why.Level ∷ is_missing (Some quota) group
    ∷ refuse (has_number group earlier) why.Related ∷ [])

-- the first of two that is something
abbrev behind : Option Refusal → Option Refusal → Option Refusal
behind None rest = rest
behind (Some x) rest = Some x

pub last-is : (o : Option Refusal) → first_some (o ∷ []) ≡ o
last-is None = refl
last-is (Some x) = refl

one-then : (a b c rest : Option Refusal)
    → first_some (a ∷ b ∷ c ∷ rest ∷ []) ≡ behind (first_some (a ∷ b ∷ c ∷ [])) rest
one-then (Some x) b c rest = refl
one-then None (Some x) c rest = refl
one-then None None (Some x) rest = refl
one-then None None None rest = last-is rest

behind-none : (one rest : Option Refusal) → is_some one ≡ false → behind one rest ≡ rest
behind-none None rest none = refl
behind-none (Some x) rest none = absurd (true≢false none)

behind-some : (one rest : Option Refusal) → is_some one ≡ true → behind one rest ≡ one
behind-some None rest some = absurd (true≢false (sym some))
behind-some (Some x) rest some = refl

-- it doesn't matter in which order the earlier ones stand
same-earlier : (quota : Option Quota) (one other parents : List ℕ) → ((n : ℕ) → has_number n one ≡ has_number n other)
    → parents_refusal quota one parents ≡ parents_refusal quota other parents
same-earlier quota one other [] same = refl
same-earlier quota one other (group ∷ parents) same =
    ap (λ (b : Bool). first_some (refuse (not (not (level_of_group group == 0))) why.Level ∷ is_missing quota group
    ∷ refuse b why.Related
    ∷ parents_refusal quota (group ∷ one) parents ∷ [])) (same group)
    ∙ ap (λ (rest : Option Refusal). first_some (refuse (not (not (level_of_group group == 0))) why.Level
    ∷ is_missing quota group
    ∷ refuse (has_number group other) why.Related ∷ rest ∷ []))
    (same-earlier quota (group ∷ one) (group ∷ other) parents (λ n. ap (λ (b : Bool). (group == n) || b) (same n)))

module _ (quota : Quota) (earlier : List ℕ) where
  -- a list is refused for its first group, or else for those behind it
  parents-then : (group : ℕ) (parents : List ℕ) → parents_refusal (Some quota) earlier (group ∷ parents)
      ≡ behind (parent_refusal quota earlier group) (parents_refusal (Some quota) (group ∷ earlier) parents)
  parents-then group parents =
      one-then (refuse (not (not (level_of_group group == 0))) why.Level) (is_missing (Some quota) group)
      (refuse (has_number group earlier) why.Related)
      (parents_refusal (Some quota) (group ∷ earlier) parents)

  module _ (parents : List ℕ) (i one : ℕ) (refused : Option Refusal) (inside : i < length parents)
      (is : one ≡ get_or parents i one)
      (told : refused ≡ parent_refusal quota earlier one) where
    -- what is left of the list begins with the next group
    rest-is : drop i parents ≡ one ∷ drop (i + 1) parents
    rest-is = drop_more parents i one inside ∙ ap (λ (n : ℕ). n ∷ drop (i + 1) parents) (sym is)

    list-then : parents_refusal (Some quota) earlier (drop i parents)
        ≡ behind refused (parents_refusal (Some quota) (one ∷ earlier) (drop (i + 1) parents))
    list-then =
        ap (λ (rest : List ℕ). parents_refusal (Some quota) earlier rest) rest-is
        ∙ parents-then one (drop (i + 1) parents)
        ∙ ap (λ (o : Option Refusal). behind o (parents_refusal (Some quota) (one ∷ earlier) (drop (i + 1) parents)))
        (sym told)

    -- where it is refused, so is the list
    pub parents-told : is_some refused ≡ true → refused ≡ parents_refusal (Some quota) earlier (drop i parents)
    parents-told some =
        sym (list-then ∙ behind-some refused (parents_refusal (Some quota) (one ∷ earlier) (drop (i + 1) parents)) some)

    -- and where it isn't, those behind it are looked at, with this one among the earlier
    pub parents-next : (next : List ℕ) → is_some refused ≡ false
        → ((other : ℕ) → has_number other next ≡ ((one == other) || has_number other earlier))
        → parents_refusal (Some quota) earlier (drop i parents) ≡ parents_refusal (Some quota) next
        (drop (i + 1) parents)
    parents-next next none more =
        list-then ∙ behind-none refused (parents_refusal (Some quota) (one ∷ earlier) (drop (i + 1) parents)) none
        ∙ same-earlier (Some quota) (one ∷ earlier) next (drop (i + 1) parents) (λ n. sym (more n))

-- a snapshot's list is refused for its groups, while quota is on
pub list-told : (quota : Quota) (parents : List ℕ)
    → snap_refusal (Some quota) parents ≡ parents_refusal (Some quota) [] parents
list-told quota parents = last-is (parents_refusal (Some quota) [] parents)
