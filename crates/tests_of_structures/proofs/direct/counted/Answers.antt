use Rattle.std.proofs.Common.{◌≡◌, ℕ, zero, suc, ◌<◌, [], ◌∷◌, ap, arith}
use Rattle.std.specs.List.{All}
use Rattle.std.specs.List.Sorted.{IsStrictlyIncreasing}
use Rattle.qg_image.specs.Members.{level_of_group}
use Rattle.tests_of_structures.proofs.direct.counted.Goals as goal

six-ascend : (a b c d e f : ℕ) → a < b → b < c → c < d → d < e → e < f
    → IsStrictlyIncreasing (a ∷ b ∷ c ∷ d ∷ e ∷ f ∷ [])
six-ascend a b c d e f first second third fourth fifth zero short = first
six-ascend a b c d e f first second third fourth fifth (suc zero) short = second
six-ascend a b c d e f first second third fourth fifth (suc (suc zero)) short = third
six-ascend a b c d e f first second third fourth fifth (suc (suc (suc zero))) short = fourth
six-ascend a b c d e f first second third fourth fifth (suc (suc (suc (suc zero)))) short = fifth
six-ascend a b c d e f first second third fourth fifth (suc (suc (suc (suc (suc k))))) short =
    absurd (omega (arith, short))

pub group_counts-requires-clause-ascending : goal.group_counts-requires-clause-ascending
group_counts-requires-clause-ascending c =
    let first = c.in_ok-node.ensures in
    let second = c.in_ok-node-2.ensures in
    let third = c.in_ok-node-3.ensures in
    let fourth = c.in_ok-node-4.ensures in
    let fifth = c.in_ok-node-5.ensures in
    let sixth = c.in_ok-node-6.ensures in
    six-ascend c.in_ok-node.field-0.linked.address c.in_ok-node-2.field-0.linked.address
    c.in_ok-node-3.field-0.linked.address c.in_ok-node-4.field-0.linked.address c.in_ok-node-5.field-0.linked.address
    c.in_ok-node-6.field-0.linked.address (omega (arith, first, second)) (omega (arith, second, third))
    (omega (arith, third, fourth)) (omega (arith, fourth, fifth)) (omega (arith, fifth, sixth))

pub group_counts-requires-clause-small : goal.group_counts-requires-clause-small
group_counts-requires-clause-small c = omega arith

three-lowest : (a b c x y z : ℕ) → level_of_group a ≡ 0 → level_of_group b ≡ 0 → level_of_group c ≡ 0
    → All (λ (root : ℕ × ℕ). level_of_group root.0 ≡ 0) ((a, x) ∷ (b, y) ∷ (c, z) ∷ [])
three-lowest a b c x y z first second third zero d short = first
three-lowest a b c x y z first second third (suc zero) d short = second
three-lowest a b c x y z first second third (suc (suc zero)) d short = third
three-lowest a b c x y z first second third (suc (suc (suc k))) d short = absurd (omega (arith, short))

pub group_counts-requires-clause-lowest : goal.group_counts-requires-clause-lowest
group_counts-requires-clause-lowest c =
    three-lowest c.new.result c.new-3.result c.new-5.result c.new-2.result c.new-4.result c.new-6.result
    (ap (λ n. level_of_group n) c.new.ensures) (ap (λ n. level_of_group n) c.new-3.ensures)
    (ap (λ n. level_of_group n) c.new-5.ensures)
