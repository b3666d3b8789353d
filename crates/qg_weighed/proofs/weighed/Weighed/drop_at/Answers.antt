use Rattle.std.proofs.Common.{◌<◌, subst, sym, ◌∙◌}
use Rattle.qg_extents.specs.Book.{count_at}
use Rattle.qg_extents.specs.Table.{book_of}
use Rattle.qg_weighed.specs.Weight.{Books}
use Rattle.qg_weighed.proofs.Known.{lacking-least, unknown-none, weighed-dropped}
use Rattle.qg_weighed.proofs.weighed.Weighed.drop_at.Goals as goal

pub unreachable-requires : goal.unreachable-requires
unreachable-requires c =
    let some = subst (λ (books : Books). 0 < count_at (book_of books.refs) c.args.at c.args.reference.now)
    (sym c.self.view_is) c.requires in
    unknown-none (book_of c.self.inside.refs c.args.at) c.args.reference.now
    (sym c.in_default.is ∙ c.known.ensures) some

pub overflow_sub-self : goal.overflow_sub-self
overflow_sub-self c =
    lacking-least c.self.inside.held c.self.inside.refs c.drop_at.new.self c.self.inside.bytes c.args.at c.in-Some.what
    c.args.reference.now c.lacking.result c.self.invariant c.len-ascending.ensures.table c.drop_at.ensures
    (sym c.in-Some.is ∙ c.known.ensures) c.lacking.ensures

pub invariant_of-self : goal.invariant_of-self
invariant_of-self c =
    weighed-dropped c.self.inside.held c.self.inside.refs c.drop_at.new.self c.self.inside.bytes c.args.at
    c.in-Some.what c.args.reference.now c.lacking.result c.self.invariant c.len-ascending.ensures.table
    c.drop_at.ensures (sym c.in-Some.is ∙ c.known.ensures) c.lacking.ensures
