use Rattle.std.proofs.Common.{◌≡◌, ℕ, ◌-◌, ◌≤◌, false, sym, ◌∙◌, arith}
use Rattle.std.specs.Ordering.{is_lt, nat_cmp}
use Rattle.std.proofs.lemmas.Bool.Decides.{nat_tests}
use Rattle.std.proofs.lemmas.List.Elements.{pair_read}
use Rattle.std.proofs.lemmas.List.Sorted.{all_adjacent_more, IsNonDecreasingBy-from_all_adjacent}
use Rattle.qg_image.specs.declared.part.ExtentPart.{ExtentPart}
use Rattle.qg_image.specs.Owed.{part_address}
use Rattle.image_calls.proofs.image.do_parts_ascend.Goals as goal

not_less : (a b : ℕ) → is_lt (nat_cmp a b) ≡ false → b ≤ a
not_less a b h = grind (arith, nat_tests)

pub loop-i-preserved : goal.loop-i-preserved
loop-i-preserved c =
    let le = not_less c.address_of.result c.address_of-in-loop-i.result (sym c.lt.ensures ∙ c.if-lt.false) in
    all_adjacent_more c.args.parts.now (λ (x : ExtentPart) (y : ExtentPart). part_address x ≤ part_address y) c.loop-i.i
    (omega arith) c.loop-i.invariant
    (pair_read c.args.parts.now (λ (x : ExtentPart) (y : ExtentPart). part_address x ≤ part_address y)
    (c.loop-i.i - 1) c.loop-i.i c.index-parts-i-in-loop-i.result c.index-parts-i.result
    (omega arith) (omega arith) c.index-parts-i-in-loop-i.is c.index-parts-i.is
    (omega (arith, le, c.address_of.ensures, c.address_of-in-loop-i.ensures)))

pub returns : goal.returns
returns c = λ holds. IsNonDecreasingBy-from_all_adjacent part_address c.args.parts.now
    (λ k d h. c.loop-i.invariant k d (omega (arith, h, c.loop-i-test.false)))
