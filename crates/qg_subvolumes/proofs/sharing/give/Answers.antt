use Rattle.std.proofs.Common.{◌≡◌, List, ℕ, None, ap, sym, ◌∙◌}
use Rattle.std.proofs.lemmas.Bool.{lt-ltb, true≢false}
use Rattle.qg_refs.specs.declared.kept.Kept.{Kept}
use Rattle.qg_refs.specs.Book.{count_at, what_in}
use Rattle.qg_refs.specs.Counts.{greatest_count}
use Rattle.qg_extents.specs.Table.{book_of}
use Rattle.qg_backref_rule.specs.OwedLists.{owing_told}
use Rattle.qg_tree_backrefs.proofs.Gains.{known-something, one-known, one-room}
use Rattle.qg_subvolumes.proofs.Given.{Gives-known}
use Rattle.qg_subvolumes.proofs.sharing.give.Goals as goal

pub returns-in_default-clause-proper : goal.returns-in_default-clause-proper
returns-in_default-clause-proper c can =
    let book = book_of c.args.book.now.refs in
    let at = c.args.owing.now.address in
    let none : what_in (book at) ≡ None =
    sym (ap (λ (refs : List (ℕ × Kept)). what_in (book_of refs at)) c.refs.ensures) ∙ sym c.known.ensures
    ∙ c.in_default.is in
    absurd (known-something book at (one-known book (owing_told c.args.owing.now) can) none)

pub returns-then-not-branch-clause-proper : goal.returns-then-not-branch-clause-proper
returns-then-not-branch-clause-proper c can =
    let book = book_of c.args.book.now.refs in
    let owing = owing_told c.args.owing.now in
    let room = lt-ltb (count_at book owing.address owing.reference) (greatest_count owing.reference)
    (one-room book owing can) in
    absurd (true≢false (sym room ∙ sym c.in_ok-name.ensures.room ∙ c.if-not-branch.true))

pub returns-clause-given : goal.returns-clause-given
returns-clause-given c =
    let at = c.args.owing.now.address in
    Gives-known (book_of c.args.book.now.refs) (book_of c.name.new.self.refs) (owing_told c.args.owing.now)
    c.in-Some.what _
    (sym (ap (λ (refs : List (ℕ × Kept)). what_in (book_of refs at)) c.refs.ensures) ∙ sym c.known.ensures
    ∙ c.in-Some.is)
    (c.in_ok-name.ensures.given c.if-not-branch.false)
