use Rattle.std.proofs.Common.{rules, sym, subst}
use Rattle.qg_delayed.specs.Changes.{ChangesAscend}
use Rattle.qg_delayed.proofs.Listing.{change_found}
use Rattle.qg_delayed.proofs.changes.Changes.get.Goals as goal

pub returns-in-Some : goal.returns-in-Some
returns-in-Some c =
    let list = c.self.inside.list.items in
    let x = c.args.reference.now in
    let found = change_found x c.deref.result.now c.in-Some.index c.index.result.now
    (subst ChangesAscend (sym c.deref.ensures.value) c.self.invariant) c.in-Some.ensures.inside
    (c.in-Some.ensures.at c.index.result.now) in
    search (rules, found, c.index.ensures, c.deref.ensures.value, c.self.view_is)
