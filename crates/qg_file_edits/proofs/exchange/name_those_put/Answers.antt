use Rattle.std.specs.Option.{option_to_list}
use Rattle.std.proofs.lemmas.Result.{on_ok_weaker}
use Rattle.qg_file_edits.proofs.Handed.{handed, named-failed}
use Rattle.qg_file_edits.proofs.Kept.{nodes-then}
use Rattle.qg_file_edits.proofs.Besides.{named-later}
use Rattle.qg_file_edits.proofs.Named.{heavier-named_both}
use Rattle.qg_num.specs.declared.rule.Rule.TheVariants.{Refs}
use Rattle.qg_blocks.proofs.Stopping.{rule-err}
use Rattle.qg_file_edits.proofs.exchange.name_those_put.Goals as goal

pub name_new-requires : goal.name_new-requires
name_new-requires c = c.requires.free

pub returns-in_err-name_new-clause-named : goal.returns-in_err-name_new-clause-named
returns-in_err-name_new-clause-named c history bytes items names subvolume stands known few =
    named-failed c.args.fs.now c.name_new.new.fs history items _ c.from_residual.result _
    (handed c.from_residual.result _ c.from_residual.ensures.1)
    (c.in_err-name_new.ensures.named history bytes items names subvolume stands).sound

pub returns-clause-named : goal.returns-clause-named
returns-clause-named c history bytes items names subvolume stands known few =
    let change = c.args.change.now in
    named-later c.args.fs.now c.name_new.new.fs c.name_each.new.fs c.args.ino change.named change.new
    c.as_slice.result.now
    c.as_slice.ensures history bytes items names c.name_each.result c.in_ok-name_new.ensures.nodes known few
    (c.in_ok-name_new.ensures.nodes.subvolume history bytes subvolume)
    (c.in_ok-name_new.ensures.named history bytes items names subvolume stands).done
    (λ others. c.name_each.ensures.named history bytes items others)

pub returns-clause-heavier : goal.returns-clause-heavier
returns-clause-heavier c =
    let change = c.args.change.now in
    on_ok_weaker c.name_each.result
    (λ later. heavier-named_both c.args.fs.now.refs c.name_new.new.fs.refs c.name_each.new.fs.refs c.as_slice.result.now
    change.named (option_to_list change.new) c.as_slice.ensures c.in_ok-name_new.ensures.heavier later)
    c.name_each.ensures.heavier

pub returns-clause-nodes : goal.returns-clause-nodes
returns-clause-nodes c =
    nodes-then c.args.fs.now c.name_new.new.fs c.name_each.new.fs c.in_ok-name_new.ensures.nodes
    c.name_each.ensures.nodes

pub returns-in_err-name_new-clause-refs : goal.returns-in_err-name_new-clause-refs
returns-in_err-name_new-clause-refs c =
    rule-err (Unit {0}) c.from_residual.result c.in_err-name_new.field-0.0 Refs c.from_residual.ensures.1
    c.in_err-name_new.ensures.refs

pub returns-clause-refs : goal.returns-clause-refs
returns-clause-refs c = c.name_each.ensures.refs
