use Rattle.std.proofs.Common.{List, ap, arith, subst, sym, ◌∙◌}
use Rattle.qg_image.specs.Owed.{Owing}
use Rattle.qg_backref_rule.specs.OwedLists.{owings_told}
use Rattle.qg_backref_rule.specs.declared.owing.Owing.{Owing as Listed}
use Rattle.qg_weighed.specs.Table.{book_of}
use Rattle.qg_tree_backrefs.specs.Exchange.{CanGive, CanTake, Gives, Takes, exchange_told}
use Rattle.qg_tree_backrefs.proofs.ExchangeInSteps.{CanGive-marked, CanTake-given, Exchanges-whole, IsNew-given}
use Rattle.qg_tree_backrefs.proofs.ExchangeInSteps.{first_none}
use Rattle.qg_tree_backrefs.proofs.ExchangeInSteps.{none_first}
use Rattle.qg_tree_backrefs.proofs.exchange.exchange.Goals as goal

pub returns-clause-done : goal.returns-clause-done
returns-clause-done c none =
    let old = book_of c.args.refs.now.refs in
    let marked = book_of c.mark_full.new.refs.refs in
    let given = book_of c.give_all.new.refs.refs in
    let begun = book_of c.give_first.new.refs.refs in
    let new = book_of c.take_all-taken.new.refs.refs in
    let each =
    first_none c.in_ok-given.given c.in_ok-first.first c.take_all-taken.result c.or.result c.or-2.result
    c.or.ensures c.or-2.ensures none in
    let gives =
    subst (λ (list : List Listed). Gives marked given (owings_told list)) c.as_slice.ensures.value
    (c.in_ok-given.ensures.done each.0) in
    let takes =
    subst (λ (list : List Listed). Takes begun new (owings_told list)) c.as_slice-2.ensures.value
    (c.take_all-taken.ensures.done each.2) in
    Exchanges-whole old marked given begun new (exchange_told c.args.lists.now) c.args.coming
    c.len-after.ensures.table.book c.mark_full.ensures.marked gives (c.in_ok-first.ensures.done each.1) takes

pub returns-clause-proper : goal.returns-clause-proper
returns-clause-proper c can =
    let old = book_of c.args.refs.now.refs in
    let marked = book_of c.mark_full.new.refs.refs in
    let given = book_of c.give_all.new.refs.refs in
    let begun = book_of c.give_first.new.refs.refs in
    let gains = owings_told c.args.lists.now.gains.items in
    let losses = owings_told c.args.lists.now.losses.items in
    let full = c.args.lists.now.full in
    let can_give =
    subst (λ (list : List Listed). CanGive marked (owings_told list)) (sym c.as_slice.ensures.value)
    (CanGive-marked old marked full gains c.mark_full.ensures.marked can.room) in
    let first = c.in_ok-given.ensures.proper can_give in
    let gives =
    subst (λ (list : List Listed). Gives marked given (owings_told list)) c.as_slice.ensures.value
    (c.in_ok-given.ensures.done first) in
    let second =
    c.in_ok-first.ensures.proper
    (IsNew-given old marked given full gains c.args.coming c.len-before.ensures.table.book c.mark_full.ensures.marked
    gives can.first) in
    let begins = c.in_ok-first.ensures.done second in
    let can_take =
    CanTake-given old marked given begun full gains losses c.args.coming c.mark_full.ensures.marked gives begins
    can.there in
    let third =
    c.take_all-taken.ensures.proper
    (subst (λ (list : List Listed). CanTake begun (owings_told list)) (sym c.as_slice-2.ensures.value)
    can_take) in
    none_first c.in_ok-given.given c.in_ok-first.first c.take_all-taken.result c.or.result c.or-2.result c.or.ensures
    c.or-2.ensures first second third
