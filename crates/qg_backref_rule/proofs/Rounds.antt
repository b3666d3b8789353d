-- One round of the loop, in the forms that a slice's parts have.
use Rattle.std.proofs.Common.{◌≡◌, ℕ, ◌-◌, ◌≤◌, Bool, List, length, take, drop, refl, sym, ap, subst, ◌∙◌, arith, cond}
use Rattle.std.specs.Prelude.{Option, Some}
use Rattle.std.specs.List.{prefix_len}
use Rattle.std.specs.List.Sorted.{IsNonDecreasingBy}
use Rattle.std.proofs.lemmas.List.{length-drop, take_all}
use Rattle.std.proofs.lemmas.List.Sorted.{IsNonDecreasingBy-drop}
use Rattle.qg_image.specs.declared.part.ExtentPart.{ExtentPart}
use Rattle.qg_image.specs.Owed.{part_address}
use Rattle.qg_backref_rule.specs.declared.owing.Owing.{Owing}
use Rattle.qg_backref_rule.specs.declared.thing.Thing.{Thing}
use Rattle.qg_backref_rule.specs.declared.thing.Kind.{Kind}
use Rattle.qg_backref_rule.specs.Judged.{what_of, agree, first_disagreement, kind_first, least_address}
use Rattle.qg_backref_rule.proofs.Filters.{rises_by}
use Rattle.qg_backref_rule.proofs.Steps.{address_of_owing, address_of_thing, upto, below, owings_past, owings_here}
use Rattle.qg_backref_rule.proofs.Steps.{owings_rest}
use Rattle.qg_backref_rule.proofs.Steps.{things_rest, parts_here, parts_rest, references_of, same_agree, least_is, step}

pub tail_front : {X : Type 0} (n m : ℕ) (xs : List X) → n ≡ m → take (length xs - n) (drop n xs) ≡ drop m xs
tail_front {X} n m xs is = take_all (length xs - n) (drop n xs) (omega (arith, length-drop n xs))
    ∙ ap (λ k. drop k xs) is

pub head_front : {X : Type 0} (n m : ℕ) (xs : List X) → n ≡ m → take n xs ≡ take m xs
head_front n m xs is = ap (λ k. take k xs) is

pub round : (owings : List Owing) (things : List Thing) (parts : List ExtentPart) (a : ℕ)
    → IsNonDecreasingBy address_of_owing owings → IsNonDecreasingBy address_of_thing things
    → IsNonDecreasingBy part_address parts → least_address things parts ≡ Some a
    → (past here rest : List Owing) → past ≡ owings_past owings a
    → here ≡ take (prefix_len (upto address_of_owing a) past) past
    → rest ≡ drop (prefix_len (upto address_of_owing a) past) past
    → (later : List Thing) → later ≡ things_rest things a → (recorded others : List ExtentPart)
    → recorded ≡ parts_here parts a → others ≡ parts_rest parts a
    → (kind : Option Kind) → kind ≡ kind_first things a → (same : Bool)
    → same ≡ agree (what_of kind) (references_of here) recorded
    → first_disagreement owings things parts ≡ cond same (first_disagreement rest later others) (Some a)
round owings things parts a up up' up'' least past here rest past_is here_is rest_is later later_is recorded others
    recorded_is others_is kind kind_is same same_is =
    let here_is' : here ≡ owings_here owings a = here_is
    ∙ ap (λ ws. take (prefix_len (upto address_of_owing a) ws) ws) past_is in
    let rest_is' : rest ≡ owings_rest owings a = rest_is
    ∙ ap (λ ws. drop (prefix_len (upto address_of_owing a) ws) ws) past_is in
    step owings things parts a (rises_by address_of_owing owings up)
    (rises_by address_of_owing (owings_past owings a)
    (IsNonDecreasingBy-drop address_of_owing (prefix_len (below address_of_owing a) owings) owings up))
    (rises_by address_of_thing things up') (rises_by part_address parts up'')
    (least_is things parts a (rises_by address_of_thing things up') (rises_by part_address parts up'') least)
    ∙ sym (λ i. cond ((same_is ∙ same_agree kind (kind_first things a) (references_of here)
    (references_of (owings_here owings a)) recorded (parts_here parts a) kind_is (ap references_of here_is')
    recorded_is) i)
    (first_disagreement (rest_is' i) (later_is i) (others_is i)) (Some a))

-- what is left of a list that ascends
pub rises_tail : {X : Type 0} (key : X → ℕ) (n : ℕ) (xs : List X) → IsNonDecreasingBy key xs
    → IsNonDecreasingBy key (take (length xs - n) (drop n xs))
rises_tail {X} key n xs up = subst (λ (ws : List X). IsNonDecreasingBy key ws) (sym (tail_front n n xs refl))
    (IsNonDecreasingBy-drop key n xs up)

pub short_tail : {X : Type 0} (n : ℕ) (xs : List X) → length (take (length xs - n) (drop n xs)) ≤ length xs
short_tail n xs = omega (arith, ap length (tail_front n n xs refl), length-drop n xs)

-- the same round in the forms that a slice's parts have
pub round_parts : (owings : List Owing) (things : List Thing) (parts : List ExtentPart) (a : ℕ)
    → IsNonDecreasingBy address_of_owing owings → IsNonDecreasingBy address_of_thing things
    → IsNonDecreasingBy part_address parts → least_address things parts ≡ Some a
    → (n o p t : ℕ) → n ≡ prefix_len (below address_of_owing a) owings → (past : List Owing)
    → past ≡ take (length owings - n) (drop n owings)
    → o ≡ prefix_len (upto address_of_owing a) past → p ≡ prefix_len (upto part_address a) parts
    → t ≡ prefix_len (upto address_of_thing a) things
    → (kind : Option Kind) → kind ≡ kind_first things a → (same : Bool)
    → same ≡ agree (what_of kind) (references_of (take o past)) (take p parts)
    → first_disagreement owings things parts
    ≡ cond same (first_disagreement (take (length past - o) (drop o past)) (take (length things - t) (drop t things))
    (take (length parts - p) (drop p parts))) (Some a)
round_parts owings things parts a up up' up'' least n o p t n_is past past_is o_is p_is t_is kind kind_is same same_is =
    round owings things parts a up up' up'' least past (take o past) (take (length past - o) (drop o past))
    (past_is ∙ tail_front n (prefix_len (below address_of_owing a) owings) owings n_is)
    (head_front o (prefix_len (upto address_of_owing a) past) past o_is)
    (tail_front o (prefix_len (upto address_of_owing a) past) past o_is)
    (take (length things - t) (drop t things)) (tail_front t (prefix_len (upto address_of_thing a) things) things t_is)
    (take p parts) (take (length parts - p) (drop p parts))
    (head_front p (prefix_len (upto part_address a) parts) parts p_is)
    (tail_front p (prefix_len (upto part_address a) parts) parts p_is)
    kind kind_is same same_is
