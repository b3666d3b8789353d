use Rattle.std.proofs.Common.{ℕ, List, arith, subst}
use Rattle.qg_extents.specs.Table.{IsTable}
use Rattle.qg_refs.specs.declared.kept.Kept.{Kept as Reference}
use Rattle.qg_file_commands.proofs.ReservedBy.{counted-pending, counted-rest, fitted-counted, hand-group, held-rest}
use Rattle.qg_file_commands.proofs.ReservedBy.{holds-counted}
use Rattle.qg_file_commands.proofs.ReservedBy.{pending-still, room-kept, table-still}
use Rattle.qg_file_commands.proofs.reserving.accept.Goals as goal

pub hold-requires : goal.hold-requires
hold-requires c =
    let old = c.args.kept.now in
    record {
      tracked = c.requires.fitted.tracked;
      path = (old.fs.tree.owner, c.requires.path, hand-group old c.requires.fitted);
      fits = room-kept old c.requires.fitted c.args.path.now c.args.n c.requires.few c.requires.small;
    }

-- ---- memory is refused

pub returns-in_err-hold-clause-rest : goal.returns-in_err-hold-clause-rest
returns-in_err-hold-clause-rest c = held-rest c.args.kept.now c.hold.new.kept c.args.n c.hold.ensures.rest

pub returns-in_err-hold-clause-table : goal.returns-in_err-hold-clause-table
returns-in_err-hold-clause-table c =
    table-still c.args.kept.now c.hold.new.kept c.args.n c.hold.ensures.rest
    (subst (λ (book : List (ℕ × Reference)). IsTable book) c.refs.ensures c.len-ascending.ensures.table)

pub returns-in_err-hold-clause-same : goal.returns-in_err-hold-clause-same
returns-in_err-hold-clause-same c = c.hold.ensures.same

-- ---- it is held

pub overflow_add-kept : goal.overflow_add-kept
overflow_add-kept c =
    let still = pending-still c.args.kept.now c.hold.new.kept c.args.n c.hold.ensures.rest in
    omega (arith, still, c.requires.few)

pub returns-clause-fitted : goal.returns-clause-fitted
returns-clause-fitted c =
    fitted-counted c.args.kept.now c.hold.new.kept c.args.n c.hold.ensures.rest c.requires.fitted c.requires.small
    c.hold.ensures.same c.in_ok-hold.ensures.tracked c.in_ok-hold.ensures.most

pub returns-clause-rest : goal.returns-clause-rest
returns-clause-rest c = counted-rest c.args.kept.now c.hold.new.kept c.args.n c.hold.ensures.rest

pub returns-clause-pending : goal.returns-clause-pending
returns-clause-pending c = counted-pending c.args.kept.now c.hold.new.kept c.args.n c.hold.ensures.rest

pub returns-clause-same : goal.returns-clause-same
returns-clause-same c = c.hold.ensures.same

pub returns-clause-holds : goal.returns-clause-holds
returns-clause-holds c =
    holds-counted c.args.kept.now c.hold.new.kept c.args.n c.hold.ensures.rest c.args.path.now c.requires.path
    c.in_ok-hold.ensures.holds

pub returns-clause-table : goal.returns-clause-table
returns-clause-table c =
    table-still c.args.kept.now c.hold.new.kept c.args.n c.hold.ensures.rest
    (subst (λ (book : List (ℕ × Reference)). IsTable book) c.refs.ensures c.len-ascending.ensures.table)
