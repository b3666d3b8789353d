use Rattle.std.proofs.Common.{arith, sym, ap, ◌∙◌, refl}
use Rattle.qg_image.specs.Table.{value_at}
use Rattle.qg_super.proofs.Served.{SuperFits-is_super}
use Rattle.qg_image_changes.proofs.Opened.{served_slots}
use Rattle.qg_image_changes.proofs.OpenedFits.{none-there}
use Rattle.qg_image_changes.proofs.opening.trees_in.Goals as goal

pub overflow_add-value : goal.overflow_add-value
overflow_add-value c =
    let next = (SuperFits-is_super c.args.superblock.now c.requires.superblock).next in
    omega (arith, next, c.value.ensures)

pub new-requires : goal.new-requires
new-requires c =
    served_slots c.args.superblock.now (SuperFits-is_super c.args.superblock.now c.requires.superblock).served

pub unreachable-requires : goal.unreachable-requires
unreachable-requires c =
    none-there c.args.roots.now c.requires.top_level (sym (c.root_of.ensures ∙ ap (λ n. value_at n c.args.roots.now)
    c.new-owner.ensures) ∙ c.in_default.is)

pub returns : goal.returns
returns c = record {
  root = c.in-Some.root;
  there = sym (c.root_of.ensures ∙ ap (λ n. value_at n c.args.roots.now) c.new-owner.ensures) ∙ c.in-Some.is;
  tree = c.at.ensures ∙ (rw (c.new-owner.ensures, c.new-next.ensures, c.value.ensures) refl);
  others = c.in_ok-others_of.ensures ∙ (rw (c.new-owner.ensures, c.new-next.ensures, c.value.ensures) refl);
  draft = c.in_ok-blocks.ensures.draft;
  backed = c.in_ok-blocks.ensures.backed;
  space_is = refl;
  refs = c.new-2.ensures ∙ (rw (c.new-owner.ensures, c.from.ensures, c.new-next.ensures, c.value.ensures) refl);
}
