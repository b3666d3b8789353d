use Rattle.std.proofs.Common.{◌≤◌, sym, ap, subst, ◌∙◌}
use Rattle.std.specs.Prelude.{Option, Some, IfSome}
use Rattle.qg_items.specs.declared.root.RootItem.{RootItem}
use Rattle.qg_tree_layout.specs.declared.building.Built.{Built}
use Rattle.qg_other_trees.proofs.QuotaTree.{root_if}
use Rattle.qg_other_trees.proofs.trees.quota_root.Goals as goal

pub root_of-requires : goal.root_of-requires
root_of-requires c =
    record {
      level = subst (λ (quotas : Option Built). IfSome quotas (λ built. built.level ≤ 7)) c.in-Some.is
          c.requires;
    }

pub returns-in-Some-clause-value : goal.returns-in-Some-clause-value
returns-in-Some-clause-value c =
    ap (λ (root : RootItem). Some root) c.root_of.ensures.value ∙ sym (ap (root_if c.args.next) c.in-Some.is)

pub returns-in-None-clause-value : goal.returns-in-None-clause-value
returns-in-None-clause-value c = sym (ap (root_if c.args.next) c.in-None.is)
