use Rattle.std.proofs.Common.{◌≡◌, None, arith, sym, ◌∙◌}
use Rattle.qg_refs.specs.Book.{what_in}
use Rattle.qg_weighed.specs.Table.{book_of}
use Rattle.qg_backref_rule.specs.OwedLists.{owing_told}
use Rattle.qg_tree_backrefs.proofs.Gains.{Gives-one, known-something, one-known, one-room}
use Rattle.qg_tree_backrefs.proofs.giving.give.Goals as goal

pub returns-in_default-clause-proper : goal.returns-in_default-clause-proper
returns-in_default-clause-proper c can =
    let book = book_of c.args.refs.now.refs in
    let none : what_in (book c.args.owing.now.address) ≡ None = sym c.known.ensures ∙ c.in_default.is in
    absurd (known-something book c.args.owing.now.address (one-known book (owing_told c.args.owing.now) can) none)

pub returns-then-count_one-greatest_count-clause-proper : goal.returns-then-count_one-greatest_count-clause-proper
returns-then-count_one-greatest_count-clause-proper c can =
    let room = one-room (book_of c.args.refs.now.refs) (owing_told c.args.owing.now) can in
    absurd (omega (arith, room))

pub returns-clause-done : goal.returns-clause-done
returns-clause-done c given =
    Gives-one (book_of c.args.refs.now.refs) (book_of c.add_one.new.self.refs) (owing_told c.args.owing.now)
    c.in-Some.what
    (sym c.known.ensures ∙ c.in-Some.is) c.in_ok-add_one.ensures.ok
