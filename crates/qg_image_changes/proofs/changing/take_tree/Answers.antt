use Rattle.std.proofs.Common.{rules, ◌≡◌, ◌<◌, ap, length, map, subst, sym, ◌∙◌}
use Rattle.std.specs.List.Sorted.{IsStrictlyIncreasing}
use Rattle.std.proofs.lemmas.Bool.{eqb-true}
use Rattle.qg_tree_read.specs.Tree.{Root}
use Rattle.qg_open_image.specs.declared.open_image.OpenImage.{OpenImage}
use Rattle.qg_image_changes.specs.Changing.{without_tree}
use Rattle.qg_image_changes.proofs.Numbers.{removed-without}
use Rattle.qg_image_changes.proofs.changing.take_tree.Goals as goal

pub returns-then-eq-clause-left : goal.returns-then-eq-clause-left
returns-then-eq-clause-left c =
    let trees = c.loop-i.kept.fs.others.items in
    let same = c.loop-i.invariant.0 in
    let up : IsStrictlyIncreasing (map (λ (t : Root). t.owner) trees) =
    subst (λ (k : OpenImage). IsStrictlyIncreasing (map (λ (t : Root). t.owner) k.fs.others.items)) (sym same)
    c.requires.ascending in
    subst (λ (k : OpenImage). c.remove.new.self.items ≡ without_tree c.args.sub k.fs.others.items) same
    (c.remove.ensures.items
    ∙ removed-without (λ (t : Root). t.owner) trees c.loop-i.i c.index.result.now c.args.sub up
    (subst (λ (k : OpenImage). c.loop-i.i < length k.fs.others.items) (sym same)
    (search rules))
    (sym (ap (λ (t : Root). t.owner) c.index.ensures) ∙ sym c.owner.ensures
    ∙ eqb-true c.owner.result c.args.sub (sym c.eq.ensures ∙ c.if-eq.true)))
