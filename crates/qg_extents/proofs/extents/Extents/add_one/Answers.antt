use Rattle.std.proofs.Common.{arith, false, ℕ, List, Option, Some, ap, sym, subst, ◌∙◌}
use Rattle.std.specs.BTreeMap.{BTreeMap}
use Rattle.qg_refs.specs.declared.counted.Counted.{Counted}
use Rattle.qg_refs.specs.declared.kept.Kept.{Kept}
use Rattle.qg_refs.specs.Book.{references_in}
use Rattle.qg_refs.specs.Counts.{HasOneMore, IsRefList, count_of}
use Rattle.qg_extents.specs.Table.{IsTable, MayKeep, book_of}
use Rattle.qg_extents.proofs.Tables.{found_there, kept_at, lent_put, lent_same, may_first, may_more, on_err, table-put}
use Rattle.qg_extents.proofs.Tables.{updated_put}
use Rattle.qg_extents.proofs.extents.Extents.add_one.Goals as goal

pub invariant_of-self : goal.invariant_of-self
invariant_of-self c =
    let m = c.self.inside.table in
    let next = c.add_to.new.kept in
    let n = c.get_mut.follows.lender next in
    let same = lent_same m n c.value.result c.in-Some.kept.now next c.in-Some.ensures.value c.in_err-add_to.ensures.err
    (c.get_mut.follows.holds next) in
    subst IsTable (sym same) c.self.invariant

pub returns-in_err-add_to-clause-err : goal.returns-in_err-add_to-clause-err
returns-in_err-add_to-clause-err c =
    on_err _ c.from_residual.result
    (lent_same c.self.inside.table (c.get_mut.follows.lender c.add_to.new.kept) c.value.result c.in-Some.kept.now
    c.add_to.new.kept c.in-Some.ensures.value c.in_err-add_to.ensures.err
    (c.get_mut.follows.holds c.add_to.new.kept) ∙ c.self.view_is)

pub invariant_of-self-in-Some : goal.invariant_of-self-in-Some
invariant_of-self-in-Some c =
    let m = c.self.inside.table in
    let kept = c.in-Some.kept.now in
    let next = c.add_to.new.kept in
    let n = c.get_mut.follows.lender next in
    let writes = c.get_mut.follows.holds next in
    let there = found_there m c.value.result c.args.at (Some kept) c.value.ensures c.in-Some.ensures.value in
    let count = ap (λ (o : Option Kept). count_of (references_in o) c.args.reference)
    (ap (λ (table : List (ℕ × Kept)). book_of table c.args.at) (sym c.self.view_is) ∙ there) in
    table-put m.entries n.entries c.args.at (Some next) c.self.invariant writes.4
    (lent_put m n c.value.result c.args.at kept next c.value.ensures c.in-Some.ensures.value writes)
    (may_more kept next c.args.reference (subst MayKeep there (kept_at m.entries c.args.at c.self.invariant))
    c.in_ok-add_to.ensures.ok c.in_ok-add_to.ensures.sound
    (omega (arith, c.requires, count)))

pub invariant_of-self-2 : goal.invariant_of-self-2
invariant_of-self-2 c =
    let m = c.get_mut.follows.lender-at-none in
    let n = c.insert.new.self in
    let next : Kept = record { what = c.args.what; full = false; references = c.add.new.self } in
    let more = subst (λ (old : List Counted). HasOneMore old c.add.new.self c.args.reference) c.new-references.ensures
    c.in_ok-add.ensures.ok in
    let sound = subst IsRefList c.as_slice-ascending.ensures.same c.as_slice-ascending.ensures.sound in
    table-put m.entries n.entries c.args.at (Some next)
    (subst (λ (k : BTreeMap ℕ Kept). IsTable k.entries) (sym c.get_mut.follows.holds-at-none) c.self.invariant)
    c.in_ok-insert.ensures.ordered
    (updated_put m n c.value-2.result c.args.at (Some next) c.value-2.ensures c.in_ok-insert.ensures.updates.0)
    (may_first next c.args.reference more sound (omega (arith, c.requires)))
