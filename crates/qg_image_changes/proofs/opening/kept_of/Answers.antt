use Rattle.std.proofs.Common.{ℕ, List, ◌++◌, refl, sym, ap, subst, ◌∙◌}
use Rattle.std.specs.Prelude.{◌↔◌, IsTrue, map}
use Rattle.std.specs.List.{Contains}
use Rattle.qg_items.specs.declared.root.RootItem.{RootItem}
use Rattle.qg_items.specs.declared.tree.TheConstants.{TOP_LEVEL}
use Rattle.qg_image.specs.Table.{has_key}
use Rattle.qg_super.proofs.Served.{SuperFits-is_super}
use Rattle.qg_weighed.specs.Weight.{Books}
use Rattle.qg_space.specs.Holding.{Holding}
use Rattle.qg_image_changes.specs.Opened.{snapshot_of}
use Rattle.qg_image_changes.proofs.Opened.{kept-opened, never-ok}
use Rattle.qg_image_changes.proofs.OpenedFits.{fitted-made, of-trees}
use Rattle.qg_image_changes.proofs.opening.kept_of.Goals as goal

pub space_of-requires-clause-served : goal.space_of-requires-clause-served
space_of-requires-clause-served c = (SuperFits-is_super c.args.image.superblock c.requires.superblock).served

pub trees_in-requires-clause-top_level : goal.trees_in-requires-clause-top_level
trees_in-requires-clause-top_level c =
    subst (λ (roots : List (ℕ × RootItem)). IsTrue (has_key TOP_LEVEL roots)) (sym c.as_slice-4.ensures)
    c.requires.roots.top_level

pub returns-in_err-space-clause-keeps : goal.returns-in_err-space-clause-keeps
returns-in_err-space-clause-keeps c = λ events state is stands.
    never-ok _ c.from_residual.result _ c.from_residual.ensures.1

pub returns-in_err-refs-clause-keeps : goal.returns-in_err-refs-clause-keeps
returns-in_err-refs-clause-keeps c = λ events state is stands.
    never-ok _ c.from_residual-in_err-refs.result _ c.from_residual-in_err-refs.ensures.1

pub returns-in_err-fs-clause-keeps : goal.returns-in_err-fs-clause-keeps
returns-in_err-fs-clause-keeps c = λ events state is stands.
    never-ok _ c.from_residual-in_err-fs.result _ c.from_residual-in_err-fs.ensures.1

pub returns-in_err-snapshots_of-clause-keeps : goal.returns-in_err-snapshots_of-clause-keeps
returns-in_err-snapshots_of-clause-keeps c = λ events state is stands.
    never-ok _ c.from_residual-in_err-snapshots_of.result _ c.from_residual-in_err-snapshots_of.ensures.1

pub returns-clause-fitted : goal.returns-clause-fitted
returns-clause-fitted c =
    let image = c.args.image in
    fitted-made _ image
    (of-trees _ image c.in_ok-space.space c.in_ok-refs.refs c.as_slice-4.result.now refl
    (c.in_ok-snapshots_of.ensures ∙ ap (map snapshot_of) c.as_slice-5.ensures) refl refl
    (ap (λ (books : Books). books.refs) c.in_ok-refs.ensures) (ap (λ (books : Books). books.held) c.in_ok-refs.ensures)
    c.as_slice-4.ensures c.in_ok-fs.ensures c.in_ok-space.ensures.sizes)
    c.requires

pub returns-clause-backed : goal.returns-clause-backed
returns-clause-backed c = λ history. c.in_ok-fs.ensures.backed history

pub returns-clause-keeps : goal.returns-clause-keeps
returns-clause-keeps c = λ events state is stands.
    let image = c.args.image in
    let space = c.in_ok-space.space in
    let same = c.in_ok-fs.ensures.space_is in
    kept-opened _ image
    (of-trees _ image c.in_ok-space.space c.in_ok-refs.refs c.as_slice-4.result.now refl
    (c.in_ok-snapshots_of.ensures ∙ ap (map snapshot_of) c.as_slice-5.ensures) refl refl
    (ap (λ (books : Books). books.refs) c.in_ok-refs.ensures) (ap (λ (books : Books). books.held) c.in_ok-refs.ensures)
    c.as_slice-4.ensures c.in_ok-fs.ensures c.in_ok-space.ensures.sizes)
    (record {
      slots = subst (λ (holding : Holding). (slot : ℕ) → Contains holding.slots slot ↔ Contains image.nodes slot)
          (sym same)
          (subst (λ (list : List ℕ). (slot : ℕ) → Contains space.slots slot ↔ Contains list slot)
          c.as_slice-2.ensures c.in_ok-space.ensures.slots);
      held_slots = subst
          (λ (holding : Holding). (slot : ℕ) → Contains holding.held_slots slot
          ↔ Contains (image.others ++ image.nodes) slot) (sym same)
          (subst (λ (list : List ℕ). (slot : ℕ) → Contains space.held_slots slot ↔ Contains (image.others ++ list) slot)
          c.as_slice-2.ensures
          (subst
          (λ (list : List ℕ). (slot : ℕ)
          → Contains space.held_slots slot ↔ Contains (list ++ c.as_slice-2.result.now) slot)
          c.as_slice.ensures c.in_ok-space.ensures.held_slots));
      runs = ap (λ (holding : Holding). holding.runs) same ∙ c.in_ok-space.ensures.runs ∙ c.as_slice-3.ensures;
      held_runs = ap (λ (holding : Holding). holding.held_runs) same ∙ c.in_ok-space.ensures.held_runs
          ∙ c.as_slice-3.ensures;
    }) c.requires c.len-ascending.ensures.table events is state stands
