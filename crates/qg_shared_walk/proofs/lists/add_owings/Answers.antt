use Rattle.std.proofs.Common.{◌++◌, Bool, List, map, sym, ap, ◌∙◌}
use Rattle.std.proofs.lemmas.List.{map-append}
use Rattle.qg_image.specs.Owed.{Owing as OwedReference}
use Rattle.qg_backref_rule.specs.OwedLists.{owing_told, owings_told}
use Rattle.qg_shared_walk.specs.Marked.{marked_owing}
use Rattle.qg_shared_walk.proofs.Marking.{owings_same}
use Rattle.qg_shared_walk.proofs.lists.add_owings.Goals as goal

pub returns : goal.returns
returns c =
    let old = owings_told c.args.owings.now.items in
    let own = owings_told c.args.own.items in
    ap owings_told c.in_ok-append.ensures.items
    ∙ map-append owing_told c.args.owings.now.items c.args.own.items
    ∙ ap (λ (more : List OwedReference). old ++ more) (sym (owings_same c.args.parent own))
    ∙ ap (λ (full : Bool). old ++ map (marked_owing c.args.parent full) own) (sym c.if-full.false)
