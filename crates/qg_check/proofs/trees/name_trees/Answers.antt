use Rattle.std.proofs.Common.{◌≡◌, ℕ, Option, Some, None, List, sym, ap, ◌∙◌}
use Rattle.std.specs.Prelude.{IfNone}
use Rattle.qg_items.specs.declared.root.RootItem.{RootItem}
use Rattle.qg_image.specs.Table.{value_at}
use Rattle.qg_check.proofs.Named.{are_roots_asked, missing}
use Rattle.qg_check.proofs.trees.name_trees.Goals as goal

-- what contradicts holds of nothing
none_of : {A : Type 0} (found : Option A) (P : Type 0) → ⊥ → IfNone found P
none_of None P impossible = absurd impossible
none_of (Some x) P impossible = tt

-- the number that was looked for
at : (n m : ℕ) (roots : List (ℕ × RootItem)) (found : Option RootItem) → n ≡ m → found ≡ value_at n roots
    → value_at m roots ≡ found
at n m roots found same is = ap (λ (k : ℕ). value_at k roots) (sym same) ∙ sym is

pub returns-in_err-extents-clause-none : goal.returns-in_err-extents-clause-none
returns-in_err-extents-clause-none c =
    let roots = c.args.roots.now in
    let asked = are_roots_asked roots (sym c.are_roots.ensures ∙ c.if-not-are_roots.false) in
    none_of c.from_residual.result _
    (missing (value_at 2 roots) (at c.new.result 2 roots None c.new.ensures c.in_err-extents.ensures) asked.extents)

pub returns-clause-some : goal.returns-clause-some
returns-clause-some c =
    let roots = c.args.roots.now in
    record {
      are = sym c.are_roots.ensures ∙ c.if-not-are_roots.false;
      extent_tree = at c.new.result 2 roots (Some c.in_ok-extents.extents) c.new.ensures c.in_ok-extents.ensures;
      quota_tree = at c.new-2.result 8 roots c.root_of-quotas.result c.new-2.ensures c.root_of-quotas.ensures;
    }
