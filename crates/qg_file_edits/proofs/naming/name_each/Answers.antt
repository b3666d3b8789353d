use Rattle.std.proofs.Common.{◌++◌, ◌*◌, List, length, take, subst}
use Rattle.std.proofs.lemmas.List.{take_all}
use Rattle.qg_num.specs.declared.piece.Piece.{Piece}
use Rattle.qg_shared_trees.specs.Heavier.{BookGetsHeavier, name_bytes}
use Rattle.qg_file_edits.specs.Named.{names_of}
use Rattle.qg_file_edits.specs.Naming.{StandsMoved}
use Rattle.qg_file_edits.proofs.Handed.{handed, misfit-other, named-failed}
use Rattle.qg_file_edits.proofs.Items.{is-at}
use Rattle.qg_file_edits.proofs.Kept.{nodes-then}
use Rattle.qg_file_edits.proofs.Named.{can-name, names-more, names-none}
use Rattle.qg_num.specs.declared.rule.Rule.TheVariants.{Refs}
use Rattle.qg_blocks.proofs.Stopping.{rule-err}
use Rattle.qg_file_edits.proofs.Handed.{misfit-rule}
use Rattle.qg_file_edits.proofs.naming.name_each.Goals as goal

pub loop-piece-init : goal.loop-piece-init
loop-piece-init c = names-none c.args.fs.now c.args.ino c.args.pieces.now

pub loop-piece-preserved : goal.loop-piece-preserved
loop-piece-preserved c =
    let piece = c.piece-item.result in
    let i = c.loop-piece.piece-index in
    let at = is-at c.args.pieces.now i piece c.loop-piece-test.true c.piece-item.is in
    names-more c.args.fs.now c.loop-piece.fs c.args.ino c.args.pieces.now i piece at c.name.new.self
    c.loop-piece.invariant
    (record { tree = c.name.ensures.tree; subvolume = c.name.ensures.subvolume; slots = c.name.ensures.slots })
    c.in_ok-name.ensures.marks c.in_ok-name.ensures.heavier
    (λ history bytes items names can.
    c.in_ok-name.ensures.named history bytes items names can.subvolume can.stands can.among can.few)

pub returns-in_err-name-clause-named : goal.returns-in_err-name-clause-named
returns-in_err-name-clause-named c history bytes items names subvolume stands among few =
    let piece = c.piece-item.result in
    let i = c.loop-piece.piece-index in
    let at = is-at c.args.pieces.now i piece c.loop-piece-test.true c.piece-item.is in
    let can = can-name c.args.fs.now c.loop-piece.fs c.args.ino c.args.pieces.now i piece at c.loop-piece.invariant
    history
    bytes items names subvolume stands among few in
    named-failed c.args.fs.now c.name.new.self history items _ c.from_residual.result _
    (handed c.from_residual.result _ c.from_residual.ensures.1)
    (c.in_err-name.ensures.sound history bytes items (names_of c.args.ino (take i c.args.pieces.now) ++ names)
    can.subvolume can.stands can.among can.few)

pub returns-in_err-name-clause-nodes : goal.returns-in_err-name-clause-nodes
returns-in_err-name-clause-nodes c =
    nodes-then c.args.fs.now c.loop-piece.fs c.name.new.self c.loop-piece.invariant.nodes
    (record { tree = c.name.ensures.tree; subvolume = c.name.ensures.subvolume; slots = c.name.ensures.slots })

pub returns-clause-named : goal.returns-clause-named
returns-clause-named c history bytes items names subvolume stands among few =
    let done = c.loop-piece.invariant.told history bytes items names subvolume stands among few in
    let all = take_all c.loop-piece.piece-index c.args.pieces.now c.loop-piece-test.false in
    record {
      done = subst (λ (xs : List Piece). StandsMoved c.args.fs.now c.loop-piece.fs history items
          (names_of c.args.ino xs ++ names)) all done;
      sound = tt;
    }

pub returns-clause-heavier : goal.returns-clause-heavier
returns-clause-heavier c =
    subst (λ (xs : List Piece). BookGetsHeavier c.args.fs.now.refs c.loop-piece.fs.refs (length xs * name_bytes))
    (take_all c.loop-piece.piece-index c.args.pieces.now c.loop-piece-test.false) c.loop-piece.invariant.heavier

pub returns-clause-nodes : goal.returns-clause-nodes
returns-clause-nodes c = c.loop-piece.invariant.nodes

pub returns-in_err-name-clause-fault : goal.returns-in_err-name-clause-fault
returns-in_err-name-clause-fault c is =
    misfit-other c.piece-item.result.extent c.from_residual.result _
    (handed c.from_residual.result _ c.from_residual.ensures.1) c.in_err-name.ensures.fault is

pub returns-in_err-name-clause-refs : goal.returns-in_err-name-clause-refs
returns-in_err-name-clause-refs c =
    let fault = c.in_err-name.field-0.0 in
    rule-err (Unit {0}) c.from_residual.result fault Refs c.from_residual.ensures.1
    (misfit-rule (Unit {0}) c.piece-item.result.extent fault c.in_err-name.ensures.fault)
