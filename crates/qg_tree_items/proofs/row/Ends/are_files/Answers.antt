use Rattle.std.proofs.Common.{sym}
use Rattle.qg_tree_items.proofs.Rows.{begins_orphan, empty_is, files_are}
use Rattle.qg_tree_items.proofs.row.Ends.are_files.Goals as goal

pub returns-in-Some-default : goal.returns-in-Some-default
returns-in-Some-default c parts has ascends =
    sym (begins_orphan c.args.self.now c.in-Some-default.field-0-0 parts has c.in-Some-default.is-0 ascends)

pub returns-in-None-None : goal.returns-in-None-None
returns-in-None-None c parts has ascends =
    sym (empty_is c.args.self.now parts has c.in-None-None.is-0 c.in-None-None.is-1)

pub returns-in-None-Some : goal.returns-in-None-Some
returns-in-None-Some c parts has ascends =
    files_are c.args.self.now c.in-None-Some.file parts has c.in-None-Some.is-0 c.in-None-Some.is-1 ascends
    c.is_whole.result c.is_whole.ensures
