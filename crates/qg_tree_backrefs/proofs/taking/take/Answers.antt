use Rattle.std.proofs.Common.{◌≡◌, arith}
use Rattle.qg_refs.specs.Book.{count_at}
use Rattle.qg_weighed.specs.Table.{book_of}
use Rattle.qg_backref_rule.specs.OwedLists.{owing_told}
use Rattle.qg_tree_backrefs.proofs.Losses.{Takes-one, one-there}
use Rattle.qg_tree_backrefs.proofs.taking.take.Goals as goal

pub returns-then-count_one-eq0-clause-proper : goal.returns-then-count_one-eq0-clause-proper
returns-then-count_one-eq0-clause-proper c can =
    let book = book_of c.args.refs.now.refs in
    let none : count_at book c.args.owing.now.address c.args.owing.now.reference ≡ 0 = omega arith in
    absurd (one-there book (owing_told c.args.owing.now) can none)

pub returns-clause-done : goal.returns-clause-done
returns-clause-done c taken =
    Takes-one (book_of c.args.refs.now.refs) (book_of c.drop_at.new.self.refs) (owing_told c.args.owing.now)
    c.drop_at.ensures.dropped
