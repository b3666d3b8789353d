use Rattle.std.proofs.Common.{◌≡◌, ℕ, ◌+◌, ◌<◌, true, List, ◌∷◌, length, drop, take, sym, ap, subst, ◌∙◌, arith}
use Rattle.std.specs.Prelude.{All}
use Rattle.std.proofs.lemmas.List.{drop_more, take_all}
use Rattle.std.proofs.lemmas.List.Elements.{All-more}
use Rattle.qg_items.specs.declared.root.RootItem.{RootItem}
use Rattle.qg_items.specs.Laws.{RootFits}
use Rattle.qg_image.specs.ItemMeaning.{is_subvolume_number}
use Rattle.qg_root_items.proofs.RootTree.{roots-put}
use Rattle.qg_root_items.proofs.roots.items_beside.Goals as goal

pub loop-subvolume-preserved : goal.loop-subvolume-preserved
loop-subvolume-preserved c =
    let subvolumes = c.args.subvolumes.now in
    let i = c.loop-subvolume.subvolume-index in
    let entry = c.subvolume-item.result in
    let inside : i < length subvolumes = c.loop-subvolume-test.true in
    let number : is_subvolume_number entry.0 ≡ true =
    subst (λ (e : ℕ × RootItem). is_subvolume_number e.0 ≡ true) (sym c.subvolume-item.is)
    (c.requires i entry inside) in
    let split = drop_more subvolumes i entry inside
    ∙ ap (λ (e : ℕ × RootItem). e ∷ drop (i + 1) subvolumes) (sym c.subvolume-item.is) in
    record {
      items = roots-put c.loop-subvolume.items c.put_roots.new.items c.loop-subvolume.named c.is_named-named.result
          c.stands_next.result
          c.args.quotas.now entry (drop i subvolumes) (drop (i + 1) subvolumes) number split c.is_named-named.ensures
          c.stands_next.ensures
          c.in_ok-put_roots.ensures.ok
          ∙ c.loop-subvolume.invariant.items;
      fits = All-more (λ (e : ℕ × RootItem). RootFits e.1) subvolumes i entry inside c.loop-subvolume.invariant.fits
          (subst (λ (e : ℕ × RootItem). RootFits e.1) c.subvolume-item.is c.in_ok-put_roots.ensures.fits);
    }

pub returns-clause-fits : goal.returns-clause-fits
returns-clause-fits c =
    let subvolumes = c.args.subvolumes.now in
    let all : take c.loop-subvolume.subvolume-index subvolumes ≡ subvolumes =
    take_all c.loop-subvolume.subvolume-index subvolumes (omega arith) in
    subst (λ (list : List (ℕ × RootItem)). All (λ (e : ℕ × RootItem). RootFits e.1) list) all
    c.loop-subvolume.invariant.fits
