use Rattle.std.proofs.Common.{◌≡◌, ◌++◌, ◌∷◌, true, false, [], length, get_or, take, sym, ap, ◌∙◌, arith, cond}
use Rattle.std.proofs.lemmas.List.{append-nil, get_or_default, length_push}
use Rattle.qg_space.specs.declared.slots.Slot.{Slot}
use Rattle.qg_super.specs.Places.{slot_at}
use Rattle.qg_space.specs.Lying.{is_unused, slots_where}
use Rattle.qg_space.proofs.Listed.{where_more, where_in_front, none_in_front}
use Rattle.qg_space.proofs.slots.first_unused_slots.Goals as goal
use Rattle.qg_space.proofs.slots.first_unused_slots.Goals.{then-is_unused+in_ok-push, else-is_unused}

abbrev nothing : Slot
nothing = record { present = false; held = false }

pub loop-number-init : goal.loop-number-init
loop-number-init c = record {
  those = c.new-list.ensures ∙ sym (none_in_front c.args.sizes.now c.args.slots.now c.args.from c.requires.used);
  few = omega (arith, ap length c.new-list.ensures);
}

pub returns-then-len-count : goal.returns-then-len-count
returns-then-len-count c =
    let those = c.loop-number.invariant.those in
    those ∙ where_in_front is_unused c.args.sizes.now c.args.slots.now c.loop-number.number c.args.count
    (sym (ap length those) ∙ sym c.len.ensures ∙ c.if-len-count.true)

pub loop-number-preserved : goal.loop-number-preserved
loop-number-preserved c =
    let sizes = c.args.sizes.now in
    let slots = c.args.slots.now in
    let n = c.loop-number.number in
    let slot = get_or slots n nothing in
    let few = c.loop-number.invariant.few in
    let differ = c.if-len-count.false in
    let known = c.loop-number.invariant.those in
    let more = where_more is_unused sizes slots n slot c.loop-number-test.true
    (get_or_default slots n nothing slot c.loop-number-test.true) in
    elim c.if-is_unused.branch [
      | then-is_unused+in_ok-push w ↦
          let here : is_unused slot ≡ true = sym c.is_unused.ensures ∙ w.if-is_unused.true in
          let pushed : c.if-is_unused.list ≡ c.loop-number.list ++ slot_at sizes n ∷ [] = w.list-is
          ∙ w.in_ok-push.ensures.ok ∙ ap (λ a. c.loop-number.list ++ a ∷ []) w.address_of.ensures in
          record {
            those = pushed ∙ ap (λ ns. ns ++ slot_at sizes n ∷ []) known
                ∙ ap (λ b. slots_where is_unused sizes 0 (take n slots) ++ cond b (slot_at sizes n ∷ []) []) (sym here)
                ∙ sym more;
            few = omega (
              arith,
              ap length pushed,
              length_push c.loop-number.list (slot_at sizes n),
              few,
              differ,
              c.len.ensures,
            );
          }
      | else-is_unused w ↦
          let here : is_unused slot ≡ false = sym c.is_unused.ensures ∙ w.if-is_unused.false in
          record {
            those = w.list-is ∙ known ∙ sym (append-nil (slots_where is_unused sizes 0 (take n slots)))
                ∙ ap (λ b. slots_where is_unused sizes 0 (take n slots) ++ cond b (slot_at sizes n ∷ []) []) (sym here)
                ∙ sym more;
            few = omega (arith, ap length w.list-is, few);
          }
    ]
