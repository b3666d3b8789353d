use Rattle.std.proofs.Common.{◌≡◌, ℕ, ◌<◌, List, [], ◌∷◌, length, map, take, ap, subst, ◌∙◌, arith}
use Rattle.std.specs.Prelude.{All}
use Rattle.std.proofs.lemmas.List.{take_all}
use Rattle.std.proofs.lemmas.List.Elements.{All-more}
use Rattle.qg_items.specs.declared.root.RootItem.{RootItem}
use Rattle.qg_items.specs.Laws.{RootFits}
use Rattle.qg_root_items.specs.Written.{item_of_named, item_of_root}
use Rattle.qg_root_items.proofs.RootTree.{one_put}
use Rattle.qg_root_items.proofs.roots.items_alone.Goals as goal

pub loop-subvolume-preserved : goal.loop-subvolume-preserved
loop-subvolume-preserved c =
    let subvolumes = c.args.subvolumes.now in
    let i = c.loop-subvolume.subvolume-index in
    let entry = c.subvolume-item.result in
    let inside : i < length subvolumes = c.loop-subvolume-test.true in
    record {
      items = one_put (item_of_root 2 c.args.extents.now ∷ []) c.loop-subvolume.items c.put_root.new.items subvolumes i
          entry
          inside c.subvolume-item.is c.loop-subvolume.invariant.items c.in_ok-put_root.ensures.ok;
      fits = All-more (λ (e : ℕ × RootItem). RootFits e.1) subvolumes i entry inside c.loop-subvolume.invariant.fits
          (subst (λ (e : ℕ × RootItem). RootFits e.1) c.subvolume-item.is c.in_ok-put_root.ensures.fits);
    }

pub returns-clause-exact : goal.returns-clause-exact
returns-clause-exact c =
    let subvolumes = c.args.subvolumes.now in
    let all : take c.loop-subvolume.subvolume-index subvolumes ≡ subvolumes =
    take_all c.loop-subvolume.subvolume-index subvolumes (omega arith) in
    c.loop-subvolume.invariant.items
    ∙ ap (λ (list : List (ℕ × RootItem)). item_of_root 2 c.args.extents.now ∷ map item_of_named list) all

pub returns-clause-fits : goal.returns-clause-fits
returns-clause-fits c =
    let subvolumes = c.args.subvolumes.now in
    let all : take c.loop-subvolume.subvolume-index subvolumes ≡ subvolumes =
    take_all c.loop-subvolume.subvolume-index subvolumes (omega arith) in
    subst (λ (list : List (ℕ × RootItem)). All (λ (e : ℕ × RootItem). RootFits e.1) list) all
    c.loop-subvolume.invariant.fits
